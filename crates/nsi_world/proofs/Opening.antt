-- All agents of a topology stand as they should in the empty world.
use Rattle.std.proofs.Common.{ℕ, zero, suc, ◌+◌, ◌<◌, ◌≤◌, ◌≡◌, ◌≢◌, true, List, [], ◌∷◌, Some, refl, sym, ap, ◌∙◌, subst, arith, length, map}
use Rattle.std.specs.List.{All, range_with_len}
use Rattle.std.proofs.lemmas.List.Elements.{All-nil, All-cons, All-head, All-tail, All-weaker}
use Rattle.stp_topology.specs.Laws.{IsWellFormed}
use Rattle.stp_topology.specs.declared.network.AgentKind.{AgentKind}
use Rattle.stp_topology.specs.declared.network.Network.{Network}
use Rattle.stp_topology.specs.Network.{agent_of, kind_of}
use Rattle.agent_state.specs.State.{blank_agent}
use Rattle.nsi_agent.specs.Homes.{Home, Routes, role_in, home_in}
use Rattle.nsi_agent.specs.Told.{goes_on, told}
use Rattle.nsi_script.specs.declared.script.Act.{Act}
use Rattle.nsi_script.specs.declared.script.Group.{Group}
use Rattle.agent_link.specs.Plans.{Plan}
use Rattle.agent_node.specs.Openings.{agents, others_of, opened, seat_of}
use Rattle.nsi_play.specs.Openings.{Plans, opening}
use Rattle.nsi_world.specs.Worlds.{Homes, empty, IsAgent, synced_part}
use Rattle.nsi_world.specs.Runs.{is_provider, is_requester}
use Rattle.nsi_world.specs.Heard.{IsFair, IsHeard}
use Rattle.nsi_world.specs.Seats.{MayGo, IsDoor, Stands}
use Rattle.nsi_world.specs.Nets.{numbers, AreDistinct, IsTold, AllStand}
use Rattle.nsi_script.specs.Fits.{IsActOf}
use Rattle.nsi_world.proofs.ScriptLemmas.{IsGroupOf}
use Rattle.nsi_world.proofs.Names.{home_name, home_leads}
use Rattle.nsi_world.proofs.ActSteps.{MayAct}
use Rattle.nsi_world.proofs.PlaySteps.{MayActAll}

---- Numbers

ranged : (a n : ℕ) → All (λ b. a ≤ b × (b < a + n)) (range_with_len a n)
ranged a zero = All-nil (λ b. a ≤ b × (b < a + zero))
ranged a (suc n) =
    All-cons (λ b. a ≤ b × (b < a + suc n)) a (range_with_len (a + 1) n) (omega arith, omega arith)
    (All-weaker (λ b. a + 1 ≤ b × (b < a + 1 + n)) (λ b. a ≤ b × (b < a + suc n)) (λ b h. (let low = h.0 in omega (arith, low), let high = h.1 in omega (arith, high))) (range_with_len (a + 1) n) (ranged (a + 1) n))

above : (a b : ℕ) → a + 1 ≤ b → b ≢ a
above a b h e = omega (arith, h, e)

range_distinct : (a n : ℕ) → AreDistinct (range_with_len a n)
unfolding AreDistinct
range_distinct a zero = tt
range_distinct a (suc n) = (All-weaker (λ b. a + 1 ≤ b × (b < a + 1 + n)) (λ b. b ≢ a) (λ b h. above a b h.0) (range_with_len (a + 1) n) (ranged (a + 1) n), range_distinct (a + 1) n)

pub numbers_of : (t : Network) (plans : Plans) (ns : List ℕ) → numbers (map (seat_of t plans) ns) ≡ ns
numbers_of t plans [] = refl
numbers_of t plans (n ∷ ns) = ap (λ xs. n ∷ xs) (numbers_of t plans ns)

---- Seats

told_none : (h : Home) → told h [] ≡ record { state = blank_agent; out = [] }
unfolding goes_on
told_none h = refl

is_agent : (t : Network) (routes : Routes) (a : ℕ) → IsWellFormed t → a < length t.agents → IsAgent (home_in t routes) a
is_agent t routes a wf lt = ap (λ f. f (home_in t routes a).name) (home_leads t routes a) ∙ (ap (agent_of t) (home_name t routes a) ∙ wf.agents a lt)

no_parcels : (homes : Homes) (plans : ℕ → Plan) (a b : ℕ) → IsDoor homes empty a (opened plans b)
no_parcels homes plans a b = record { inc = All-nil (MayGo homes empty (synced_part empty) b a); out = All-nil (MayGo homes empty (synced_part empty) a b); queue = All-nil (MayGo homes empty empty.journal a b) }

no_doors : (homes : Homes) (plans : ℕ → Plan) (a : ℕ) (bs : List ℕ) → All (IsDoor homes empty a) (map (opened plans) bs)
no_doors homes plans a [] = All-nil (IsDoor homes empty a)
no_doors homes plans a (b ∷ bs) = All-cons (IsDoor homes empty a) (opened plans b) (map (opened plans) bs) (no_parcels homes plans a b) (no_doors homes plans a bs)

seat_stands : (t : Network) (routes : Routes) (plans : Plans) (a : ℕ) → IsWellFormed t → a < length t.agents → Stands (home_in t routes) 0 empty (seat_of t plans a)
unfolding goes_on
seat_stands t routes plans a wf lt = record {
  agent = is_agent t routes a wf lt;
  journal = refl;
  synced = refl;
  past = refl;
  state = refl;
  unsaid = refl;
  doors = no_doors (home_in t routes) (plans a) a (others_of t a);
  in_time = omega arith;
}

seats_stand : (t : Network) (routes : Routes) (plans : Plans) (ns : List ℕ) → IsWellFormed t → All (λ a. 0 ≤ a × (a < 0 + length t.agents)) ns → All (Stands (home_in t routes) 0 empty) (map (seat_of t plans) ns)
seats_stand t routes plans [] wf all = All-nil (Stands (home_in t routes) 0 empty)
seats_stand t routes plans (n ∷ ns) wf all =
    let lt = (All-head (λ a. 0 ≤ a × (a < 0 + length t.agents)) n ns all).1 in
    All-cons (Stands (home_in t routes) 0 empty) (seat_of t plans n) (map (seat_of t plans) ns) (seat_stands t routes plans n wf (omega (arith, lt))) (seats_stand t routes plans ns wf (All-tail (λ a. 0 ≤ a × (a < 0 + length t.agents)) n ns all))

seats_told : (t : Network) (plans : Plans) (ns : List ℕ) → All IsTold (map (seat_of t plans) ns)
seats_told t plans [] = All-nil IsTold
seats_told t plans (n ∷ ns) = All-cons IsTold (seat_of t plans n) (map (seat_of t plans) ns) refl (seats_told t plans ns)

empty_fair : (homes : Homes) → IsFair homes empty
empty_fair homes = record { within = λ a. omega arith; heard = λ a. All-nil (IsHeard homes empty a) }

pub opening_stands : (t : Network) (routes : Routes) (plans : Plans) → IsWellFormed t → AllStand (home_in t routes) 0 empty (opening t plans)
opening_stands t routes plans wf = record {
  distinct = subst AreDistinct (sym (numbers_of t plans (agents t))) (range_distinct 0 (length t.agents));
  told = seats_told t plans (agents t);
  stand = seats_stand t routes plans (agents t) wf (ranged 0 (length t.agents));
  fair = empty_fair (home_in t routes);
}

---- Acts

requester_at : (t : Network) (routes : Routes) (a provider : ℕ) → kind_of t a ≡ Some (AgentKind.Requester provider) → is_requester (home_in t routes a).role ≡ true
unfolding home_in
requester_at t routes a provider e = ap (λ k. is_requester (role_in k t routes a)) e

provider_at : (t : Network) (routes : Routes) (a hold : ℕ) → kind_of t a ≡ Some (AgentKind.Provider hold) → is_provider (home_in t routes a).role ≡ true
unfolding home_in
provider_at t routes a hold e = ap (λ k. is_provider (role_in k t routes a)) e

may_act : (t : Network) (routes : Routes) (act : Act) → IsActOf t act → MayAct (home_in t routes) act
may_act t routes (Act.Ask a ask) h = (requester_at t routes a h.1.0 h.1.1, h.2)
may_act t routes (Act.Force a n) h = provider_at t routes a h.1.0 h.1.1
may_act t routes (Act.Restart a) h = tt

pub may_act_all : (t : Network) (routes : Routes) (gs : List Group) → All (IsGroupOf t) gs → All (MayActAll (home_in t routes)) gs
may_act_all t routes gs all = All-weaker (IsGroupOf t) (MayActAll (home_in t routes)) (λ g k. All-weaker (IsActOf t) (MayAct (home_in t routes)) (may_act t routes) g.acts k) gs all
