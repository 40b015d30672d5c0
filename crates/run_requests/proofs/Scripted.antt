-- What is so of the asks of a script is so of those that stand in journals as its play goes on.
use Rattle.std.proofs.Common.{◌≡◌, ◌≤◌, ◌-◌, ◌∙◌, ℕ, List, Option, Some, None, refl, sym, ap, arith}
use Rattle.std.specs.List.{All, Contains, sum_by}
use Rattle.std.proofs.lemmas.List.Elements.{All-contains_itself, All-weaker}
use Rattle.std.proofs.lemmas.List.Sums.{sum_by-le, get_or-le-sum_by}
use Rattle.nsi_primitive.specs.declared.ask.Ask.{Ask}
use Rattle.nsi_primitive.specs.declared.ask.ReserveAsk.{ReserveAsk}
use Rattle.nsi_primitive.specs.declared.ask.What.{What}
use Rattle.nsi_primitive.specs.declared.entry.Entry.{Entry}
use Rattle.nsi_primitive.specs.declared.entry.Input.{Input}
use Rattle.stp_topology.specs.Network.{kind_of}
use Rattle.stp_topology.specs.declared.network.AgentKind.{AgentKind}
use Rattle.stp_topology.specs.declared.network.Network.{Network}
use Rattle.agent_state.specs.declared.parent.Leg.{Leg}
use Rattle.requester_agent.specs.Setting.{Setting, setting_of}
use Rattle.nsi_agent.specs.Homes.{requests, Routes, role_in, home_in}
use Rattle.nsi_script.specs.Scripts.{acts_of}
use Rattle.nsi_script.specs.declared.script.Act.{Act}
use Rattle.nsi_script.specs.declared.script.Group.{Group}
use Rattle.agent_node.specs.Openings.{agents}
use Rattle.nsi_world.specs.Worlds.{World, empty}
use Rattle.nsi_world.specs.Runs.{world_after}
use Rattle.due_events.specs.Counts.{input_worth, ask_worth, asks_worth, act_worth}
use Rattle.due_events.specs.Laws.{AsksAreScripted}
use Rattle.way_reach.specs.Reach.{reach}
use Rattle.run_requests.specs.Laws.{RequestsAreFew, ScriptsAreWorth, PlaysAskFew}
use Rattle.run_requests.specs.Requests.{Worth, by_label, IsWorth, IsWorthOf}
use Rattle.run_requests.proofs.Taken.{every_agent}

in_sum : {X : Type 0} (f : X → ℕ) (xs : List X) (x : X) → Contains xs x → f x ≤ sum_by f xs
in_sum f xs x c = let low = get_or-le-sum_by f xs c.0 x c.1 in omega (arith, low, ap f c.2)

none_in_sum : {X : Type 0} (f : X → ℕ) (xs : List X) → All (λ x. f x ≤ 0) xs → sum_by f xs ≤ 0
none_in_sum f xs all = omega (arith, sum_by-le f 0 xs all)

module _ (t : Network) (routes : Routes) (worth : Worth) where
  abbrev leg_of : ℕ → ReserveAsk → Leg
  leg_of a q = record { child = (setting_of t a).provider; source = q.source; dest = q.dest }

  -- by how much more a reserve comes to than its label is worth
  abbrev more_of : ℕ → Option (List ℕ) → What → ℕ
  more_of a (Some label) (What.Reserve q) = reach t routes (leg_of a q) - worth a (Some label)
  more_of a _ _ = 0

  abbrev more : ℕ → Ask → ℕ
  more a ask = more_of a ask.label ask.what

  -- it isn't more where the script has it
  module _ (script : List Group) (is : IsWorthOf t routes script worth) where
    none_more : (a : ℕ) (ask : Ask) (label : Option (List ℕ)) (what : What) → Contains (acts_of script) (Act.Ask a ask) → ask.label ≡ label → ask.what ≡ what → more_of a label what ≤ 0
    none_more a ask (Some label) (What.Reserve q) c e f = let low = is.reserves a ask label q c e f in omega (arith, low)
    none_more a ask None what c e f = omega arith
    none_more a ask (Some label) _ c e f = omega arith

    act_none : (act : Act) → Contains (acts_of script) act → act_worth more act ≤ 0
    act_none (Act.Ask a ask) c = none_more a ask ask.label ask.what c refl refl
    act_none _ c = omega arith

    script_none : sum_by (act_worth more) (acts_of script) ≤ 0
    script_none = none_in_sum (act_worth more) (acts_of script) (All-weaker (Contains (acts_of script)) (λ act. act_worth more act ≤ 0) act_none (acts_of script) (All-contains_itself (acts_of script)))

  -- nor where a journal has it
  within : (w : World) (a : ℕ) (e : Entry) (n : ℕ) (ask : Ask) (label : List ℕ) (q : ReserveAsk) → asks_worth more w (agents t) ≤ 0 → Contains (agents t) a → Contains (w.journal a) e →
      e.input ≡ Input.Ask n ask → ask.label ≡ Some label → ask.what ≡ What.Reserve q → reach t routes (leg_of a q) ≤ worth a (Some label)
  within w a e n ask label q none agent there asked under what =
      let is : ask_worth more a e ≡ reach t routes (leg_of a q) - worth a (Some label) =
      ap (input_worth more a) asked ∙ (ap (λ (o : Option (List ℕ)). more_of a o ask.what) under ∙ ap (more_of a (Some label)) what)
      in
      omega (arith, none, is, in_sum (ask_worth more a) (w.journal a) e there, in_sum (λ b. sum_by (ask_worth more b) (w.journal b)) (agents t) a agent)

  same_setting : (x y : Setting) → requests x ≡ requests y → x ≡ y
  same_setting x y e = cc

  setting_is : (a : ℕ) (o : Option AgentKind) (setting : Setting) → role_in o t routes a ≡ requests setting → setting_of t a ≡ setting
  setting_is a (Some (AgentKind.Requester provider)) setting e = same_setting (setting_of t a) setting e
  setting_is a (Some (AgentKind.Provider hold)) setting e = absurd (cc)
  setting_is a (Some AgentKind.Aggregator) setting e = absurd (cc)
  setting_is a None setting e = absurd (cc)

  role_setting : (a : ℕ) (setting : Setting) → (home_in t routes a).role ≡ requests setting → setting_of t a ≡ setting
  unfolding home_in
  role_setting a setting e = setting_is a (kind_of t a) setting e

  leg_is : (a : ℕ) (setting : Setting) (q : ReserveAsk) (leg : Leg) → setting_of t a ≡ setting → leg.child ≡ setting.provider → leg.source ≡ q.source → leg.dest ≡ q.dest →
      reach t routes leg ≡ reach t routes (leg_of a q)
  leg_is a setting q leg s c f g =
      let child : leg.child ≡ (setting_of t a).provider = c ∙ ap (λ (z : Setting). z.provider) (sym s) in
      same leg.child (setting_of t a).provider leg.source q.source leg.dest q.dest child f g
    where
      same : (k l m n o p : List ℕ) → k ≡ l → m ≡ n → o ≡ p → reach t routes (record { child = k; source = m; dest = o }) ≡ reach t routes (record { child = l; source = n; dest = p })
      same k l m n o p e f g = rw (e, f, g) refl

  worth_in : (w : World) → ((a : ℕ) → 1 ≤ worth a None) → asks_worth more w (agents t) ≤ 0 → IsWorth t routes w worth
  worth_in w something none =
      record {
        something = something;
        reserves = λ a setting label leg agent role was.
            let q : ReserveAsk = was.reserve in
            omega (
              arith,
              within w a was.entry was.number was.ask label q none (every_agent t routes a agent) was.there was.asked was.under was.what,
              leg_is a setting q leg (role_setting a setting role) was.child was.from was.to,
            );
      }

pub scripts_are_worth : AsksAreScripted → ScriptsAreWorth
scripts_are_worth scripted t routes plans stops script worth front rest formed is e =
    worth_in t routes worth (world_after empty front) is.something
    (omega (arith, scripted t routes plans stops script (more t routes worth) front rest formed e, script_none t routes worth script is))

pub plays_ask_few : AsksAreScripted → ScriptsAreWorth → RequestsAreFew → PlaysAskFew
plays_ask_few scripted worthy few t routes plans stops script worth front rest sound formed routed is e run =
    let f = few t routes front sound formed routed run worth (worthy t routes plans stops script worth front rest formed is e) in
    let low = scripted t routes plans stops script (by_label worth) front rest formed e in
    record { asked = omega (arith, f.asked, low); taken = omega (arith, f.taken, low) }
