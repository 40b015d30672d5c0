-- Capacities and refusals of each provider, in every world of a run.
use Rattle.std.proofs.Common.{ℕ, ◌<◌, ◌≡◌, Bool, true, false, List, [], Option, ◌&&◌, refl, sym, ap, ◌∙◌, subst, arith, take, nat_lt}
use Rattle.std.specs.List.{All, Contains}
use Rattle.std.proofs.lemmas.Bool.{lt-ltb, and_from, false≢true}
use Rattle.std.proofs.lemmas.List.Elements.{All-take}
use Rattle.nsi_primitive.specs.Printable.{IsPrintableEntry}
use Rattle.nsi_primitive.specs.declared.entry.Entry.{Entry}
use Rattle.nsi_primitive.specs.declared.entry.Input.{Input}
use Rattle.nsi_primitive.specs.declared.state.Machine.{Machine}
use Rattle.nsi_primitive.specs.declared.message.Message.{Message}
use Rattle.stp_topology.specs.declared.network.AgentKind.{AgentKind}
use Rattle.stp_topology.specs.declared.network.Network.{Network}
use Rattle.stp_topology.specs.Sound.{IsProvider}
use Rattle.agent_state.specs.Entries.{is_on_time, most_entries}
use Rattle.agent_state.specs.State.{State}
use Rattle.provider_agent.specs.Good.{IsGood as IsGoodProvider}
use Rattle.provider_agent.specs.Safety.{IsHonest}
use Rattle.provider_agent.specs.Setting.{Setting, setting_of, own_stp}
use Rattle.provider_agent.specs.Steps.{is_for_provider, may_take, after_if, after}
use Rattle.provider_agent.proofs.Capacities.{within_topology}
use Rattle.provider_agent.proofs.HonestAfter.{honest_after}
use Rattle.nsi_agent.specs.Homes.{Role, provides, Routes, role_in, home_in}
use Rattle.nsi_agent.specs.Told.{told}
use Rattle.nsi_agent.specs.Laws.{IsGood}
use Rattle.nsi_world.specs.Worlds.{World, empty}
use Rattle.nsi_world.specs.Runs.{world_after}
use Rattle.run_growth.specs.AgentLaws.{IsAlwaysGood}
use Rattle.run_growth.specs.Cuts.{state_before}
use Rattle.run_growth.specs.Laws.{RunsAreCapped, RunsAreHonest}
use Rattle.run_growth.proofs.Entered.{IsEntry, AreEntries, entries_of}

---- A provider of the topology

pub role_is : (t : Network) (routes : Routes) (a : ℕ) → IsProvider t a → (home_in t routes a).role ≡ provides (setting_of t a) (own_stp t a)
unfolding home_in
role_is t routes a p = ap (λ (o : Option AgentKind). role_in o t routes a) p.1

-- what its entries make of it is good
good_of : IsAlwaysGood → (t : Network) (routes : Routes) (a : ℕ) (es : List Entry) → IsProvider t a → All IsPrintableEntry es → IsGoodProvider (setting_of t a) (told (home_in t routes a) es).state.base
good_of good t routes a es p all = subst (λ (r : Role). IsGood r (told (home_in t routes a) es).state) (role_is t routes a p) (good (home_in t routes a) es all)

pub runs_are_capped : IsAlwaysGood → RunsAreCapped
runs_are_capped good t routes events run a k p c =
    let w : World = world_after empty events in
    let es : List Entry = take k (w.journal a) in
    let all : All IsPrintableEntry es = All-take IsPrintableEntry k (w.journal a) (entries_of (home_in t routes) events run a).printable in
    within_topology t a (told (home_in t routes a) es).state.base (good_of good t routes a es p all).capped

---- Honest

-- what isn't a provider's causes nothing
idle_honest : (b : Bool) (setting : Setting) (stp_of : List ℕ → Option ℕ) (s : State) (e : Entry) → is_for_provider e.input ≡ false → may_take s e ≡ b → IsHonest setting stp_of s e
unfolding after
idle_honest true setting stp_of s e not may = absurd (no_take (nat_lt s.taken most_entries) (is_for_provider e.input) (is_on_time e.input e.second s.now) not may)
  where
    no_take : (a b c : Bool) → b ≡ false → (a && (b && c)) ≡ true → ⊥
    no_take a b c e f = grind (arith, e, f)
idle_honest false setting stp_of s e not may =
    record {
      work = λ n r h. absurd (other_input e.input n h.work not);
      alone = λ m c h. absurd (nothing_said m (subst (λ b. Contains (after_if b setting stp_of s e).out m) may c));
    }
  where
    other_input : (input : Input) (n : ℕ) → input ≡ Input.Work n Machine.Reserve → is_for_provider input ≡ false → ⊥
    other_input input n e f = false≢true (sym f ∙ ap is_for_provider e)

    nothing_said : (m : Message) → Contains [] m → ⊥
    nothing_said m c = let lt = c.1 in omega (arith, lt)

honest_entry : (setting : Setting) (stp_of : List ℕ → Option ℕ) (s : State) (e : Entry) → IsGoodProvider setting s → s.taken < most_entries → is_on_time e.input e.second s.now ≡ true → IsHonest setting stp_of s e
honest_entry setting stp_of s e good few timely = by (is_for_provider e.input) refl
  where
    by : (b : Bool) → is_for_provider e.input ≡ b → IsHonest setting stp_of s e
    by true own =
        honest_after setting stp_of s e good
        (and_from (nat_lt s.taken most_entries) (is_for_provider e.input && is_on_time e.input e.second s.now) (lt-ltb s.taken most_entries few)
        (and_from (is_for_provider e.input) (is_on_time e.input e.second s.now) own timely))
    by false own = idle_honest (may_take s e) setting stp_of s e own refl

pub runs_are_honest : IsAlwaysGood → RunsAreHonest
runs_are_honest good t routes events run a n e p h =
    let w : World = world_after empty events in
    let all : AreEntries (home_in t routes) a (w.journal a) (w.synced a) = entries_of (home_in t routes) events run a in
    let entry : IsEntry (home_in t routes) a (take n (w.journal a)) e = all.entered n e h in
    honest_entry (setting_of t a) (own_stp t a) (state_before (home_in t routes) w a n).base e
    (good_of good t routes a (take n (w.journal a)) p (All-take IsPrintableEntry n (w.journal a) all.printable)) entry.few entry.on_time
