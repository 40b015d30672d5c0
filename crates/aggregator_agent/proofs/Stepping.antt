-- The state behind a step, from what its calls leave.
use Rattle.std.proofs.Common.{ℕ, ◌+◌, ◌<◌, ◌≡◌, ◌∙◌, List, [], ◌∷◌, ◌++◌, filter, length, set, Some, refl, sym, ap, arith}
use Rattle.std.proofs.lemmas.List.{append-nil, length-map, map-set, map_push, get_or-map, length_push}
use Rattle.nsi_primitive.specs.Ids.{id_of}
use Rattle.nsi_primitive.specs.declared.message.Message.{Message}
use Rattle.nsi_primitive.specs.declared.message.ReserveRequest.{ReserveRequest}
use Rattle.connection_record.specs.Moves.{fresh, service_of}
use Rattle.stp_topology.specs.declared.network.Network.{Network}
use Rattle.agent_state.specs.declared.parent.Due.{Due}
use Rattle.agent_state.specs.declared.parent.Leg.{Leg}
use Rattle.agent_state.specs.declared.parent.OpenQuery.{OpenQuery}
use Rattle.agent_state.specs.State.{AgentState, AgentStepped, no_record, record_at, children_at, name_or, stays}
use Rattle.aggregator_agent.specs.declared.connection.Connection.{Connection}
use Rattle.aggregator_agent.specs.declared.agent.Agent.{Agent}
use Rattle.aggregator_agent.specs.declared.outbox.Outbox.{Outbox}
use Rattle.aggregator_agent.specs.declared.said.Said.{Said}
use Rattle.aggregator_agent.specs.Clock.{is_late, told_dues}
use Rattle.aggregator_agent.specs.Setting.{Setting, setting_of}
use Rattle.aggregator_agent.specs.Steps.{hears, ticks, request_at, opens_between, with_new}
use Rattle.aggregator_agent.specs.Bonds.{Bond, bond, no_bond, bond_at, own_of, views_in, records_of, children_of, Done, each_bond, answered, requested_bond, with_children, clocked_bond}
use Rattle.aggregator_agent.specs.Below.{hear_below}
use Rattle.aggregator_agent.specs.Core.{state_of}
use Rattle.aggregator_agent.specs.Step.{stored, IsMade, IsEntered}
use Rattle.aggregator_agent.specs.Requesting.{request_with}
use Rattle.aggregator_agent.proofs.AsRounds.{hear_as_round, clock_as_round, clock_keeps_children}

-- what causes nothing makes nothing wait
pub made_none : (s : AgentState) (out : List Message) → out ≡ [] → IsMade s out (stays s)
made_none s out e = record { state = ap (λ w. record s { base = record s.base { waiting = w } }) (sym (append-nil s.base.waiting)); said = e }

---- All connections

-- the open queries that are left, and what is said of them behind the rest
pub heard_state : (setting : Setting) (m : Message) (bs cs : List Bond) (o p : Outbox) (qs rs : List OpenQuery) (more : List Message) (next n now taken : ℕ) →
    let all = each_bond (answered setting.agent now m) 0 next bs in
    let h = hear_below setting.agent.name (records_of bs) m qs in
    cs ≡ all.bonds → p.retry ≡ record o.retry { waiting = o.retry.waiting ++ (all.out ++ more) } → p.dues ≡ o.dues ++ all.dues → n ≡ all.next → h.queries ≡ rs → h.out ≡ more →
    state_of cs p rs n now taken ≡ stored (hears setting (state_of bs o qs next now taken) m)
unfolding hears
heard_state setting m bs cs o p qs rs more next n now taken e f g h i j = rw (hear_as_round setting.agent now m 0 next bs, e, f, g, h, i, j) refl

pub heard_out : (setting : Setting) (m : Message) (bs : List Bond) (o : Outbox) (qs : List OpenQuery) (next now taken : ℕ) →
    (hears setting (state_of bs o qs next now taken) m).out ≡ (each_bond (answered setting.agent now m) 0 next bs).out ++ (hear_below setting.agent.name (records_of bs) m qs).out
unfolding hears
heard_out setting m bs o qs next now taken = rw (hear_as_round setting.agent now m 0 next bs) refl

pub ticked_state : (setting : Setting) (now : ℕ) (late : List Due) (bs cs : List Bond) (o p : Outbox) (qs : List OpenQuery) (next n before taken : ℕ) → late ≡ filter (is_late now o.retry.waiting) o.dues →
    let all = each_bond (clocked_bond setting.agent now late) 0 next bs in
    cs ≡ all.bonds → p.retry ≡ record o.retry { waiting = o.retry.waiting ++ all.out } → p.dues ≡ told_dues now o.retry.waiting o.dues → n ≡ all.next →
    state_of cs p qs n now taken ≡ stored (ticks setting now (state_of bs o qs next before taken))
unfolding ticks
ticked_state setting now late bs cs o p qs next n before taken h0 e f g h =
    rw (clock_as_round setting.agent now o.dues o.retry.waiting 0 next bs, ← h0, e, f, g, h, clock_keeps_children setting.agent now late 0 next bs) refl

pub ticked_out : (setting : Setting) (now : ℕ) (late : List Due) (bs : List Bond) (o : Outbox) (qs : List OpenQuery) (next before taken : ℕ) → late ≡ filter (is_late now o.retry.waiting) o.dues →
    (ticks setting now (state_of bs o qs next before taken)).out ≡ (each_bond (clocked_bond setting.agent now late) 0 next bs).out
unfolding ticks
ticked_out setting now late bs o qs next before taken h0 = rw (clock_as_round setting.agent now o.dues o.retry.waiting 0 next bs, ← h0) refl

---- One connection

pub own_at : (bs : List Bond) (n : ℕ) → n < length bs → record_at n (records_of bs) ≡ (bond_at n bs).own
own_at bs n l = get_or-map own_of bs n no_bond no_record l

pub views_at : (bs : List Bond) (n : ℕ) → n < length bs → children_at n (children_of bs) ≡ (bond_at n bs).children
views_at bs n l = get_or-map views_in bs n no_bond [] l

abbrev pub request_done : Setting → Message → (now n next : ℕ) → Bond → Done
request_done setting m now n next b = requested_bond setting.agent now m n next (with_children setting.route m b)

pub requested_state : (setting : Setting) (m : Message) (n : ℕ) (bs cs : List Bond) (o p : Outbox) (qs : List OpenQuery) (next k now taken : ℕ) → n < length bs →
    let x = request_done setting m now n next (bond_at n bs) in
    cs ≡ set bs n x.bond → p.retry ≡ record o.retry { waiting = o.retry.waiting ++ x.out } → p.dues ≡ o.dues ++ x.dues → k ≡ x.next →
    state_of cs p qs k now taken ≡ stored (request_at setting (state_of bs o qs next now taken) n m)
unfolding request_at
requested_state setting m n bs cs o p qs next k now taken l e f g h =
    let x = request_done setting m now n next (bond_at n bs) in
    rw (own_at bs n l, views_at bs n l, e, f, g, h, map-set own_of bs n x.bond, map-set views_in bs n x.bond) refl

pub requested_out : (setting : Setting) (m : Message) (n : ℕ) (bs : List Bond) (o : Outbox) (qs : List OpenQuery) (next now taken : ℕ) → n < length bs →
    (request_at setting (state_of bs o qs next now taken) n m).out ≡ (request_done setting m now n next (bond_at n bs)).out
unfolding request_at
requested_out setting m n bs o qs next now taken l = rw (own_at bs n l, views_at bs n l) refl

-- what is left where memory is wanting
pub state_back : (bs cs : List Bond) (o p : Outbox) (qs : List OpenQuery) (next now taken : ℕ) → cs ≡ bs → p.retry ≡ o.retry → p.dues ≡ o.dues → state_of cs p qs next now taken ≡ state_of bs o qs next now taken
state_back bs cs o p qs next now taken e f g = rw (e, f, g) refl

---- A call that takes a request

pub requested_made : (t : Network) (agent : Agent) (now : ℕ) (m : Message) (next : ℕ) (route : ℕ → ℕ → List Leg) (n : ℕ) (bs cs : List Bond) (o p : Outbox) (qs : List OpenQuery) (said : Said) (taken : ℕ) → n < length bs →
    let x = request_with agent now m n next route (bond_at n bs) in
    IsEntered cs o p said (set bs n x.bond) x.out x.dues x.next →
    IsMade (state_of cs p qs said.next now taken) said.out.items (request_at (setting_of t agent route) (state_of bs o qs next now taken) n m)
requested_made t agent now m next route n bs cs o p qs said taken l r = record {
  state = requested_state (setting_of t agent route) m n bs cs o p qs next said.next now taken l r.bonds r.waits r.dues r.next;
  said = r.out ∙ sym (requested_out (setting_of t agent route) m n bs o qs next now taken l);
}

---- A call that opens a connection

abbrev pub new_bond : Agent → Message → ℕ → ReserveRequest → ℕ × ℕ → Bond
new_bond agent m next q points = record { own = fresh (id_of agent.number next) m.header.requester (service_of q (name_or q.source) (name_or q.dest)) points.0 points.1; children = [] }

with_new_is : (t : Network) (agent : Agent) (now : ℕ) (m : Message) (route : ℕ → ℕ → List Leg) (bs : List Bond) (o : Outbox) (qs : List OpenQuery) (next taken : ℕ) (q : ReserveRequest) (points : ℕ × ℕ)
    → with_new (setting_of t agent route) (state_of bs o qs next now taken) m q points ≡ state_of (bs ++ new_bond agent m next q points ∷ []) o qs (next + 1) now taken
with_new_is t agent now m route bs o qs next taken q points =
    let b = new_bond agent m next q points in
    rw (map_push own_of bs b, map_push views_in bs b) refl

opens_as : (t : Network) (agent : Agent) (now : ℕ) (m : Message) (route : ℕ → ℕ → List Leg) (bs : List Bond) (o : Outbox) (qs : List OpenQuery) (next taken : ℕ) (q : ReserveRequest) (points : ℕ × ℕ)
    → opens_between (Some points) (setting_of t agent route) (state_of bs o qs next now taken) m q
    ≡ request_at (setting_of t agent route) (state_of (bs ++ new_bond agent m next q points ∷ []) o qs (next + 1) now taken) (length bs) m
opens_as t agent now m route bs o qs next taken q points =
    let setting = setting_of t agent route in
    ap (λ (s : AgentState). request_at setting s (length (records_of bs)) m) (with_new_is t agent now m route bs o qs next taken q points)
    ∙ ap (λ n. request_at setting (state_of (bs ++ new_bond agent m next q points ∷ []) o qs (next + 1) now taken) n m) (length-map bs own_of)

pub opened_made : (t : Network) (agent : Agent) (now : ℕ) (m : Message) (next : ℕ) (route : ℕ → ℕ → List Leg) (bs cs : List Bond) (b : Bond) (o p : Outbox) (qs : List OpenQuery) (said : Said) (taken : ℕ) (q : ReserveRequest) (points : ℕ × ℕ) → b ≡ new_bond agent m next q points →
    let x = request_with agent now m (length bs) (next + 1) route (bond_at (length bs) (bs ++ b ∷ [])) in
    IsEntered cs o p said (set (bs ++ b ∷ []) (length bs) x.bond) x.out x.dues x.next →
    IsMade (state_of cs p qs said.next now taken) said.out.items (opens_between (Some points) (setting_of t agent route) (state_of bs o qs next now taken) m q)
opened_made t agent now m next route bs cs b o p qs said taken q points is r =
    let setting = setting_of t agent route in
    let n = length bs in
    let more = length_push bs b in
    let inside : n < length (bs ++ b ∷ []) = omega (arith, more) in
    let made = requested_made t agent now m (next + 1) route n (bs ++ b ∷ []) cs o p qs said taken inside r in
    let same : request_at setting (state_of (bs ++ b ∷ []) o qs (next + 1) now taken) n m ≡ opens_between (Some points) setting (state_of bs o qs next now taken) m q =
    ap (λ z. request_at setting (state_of (bs ++ z ∷ []) o qs (next + 1) now taken) n m) is ∙ sym (opens_as t agent now m route bs o qs next taken q points) in
    record {
      state = made.state ∙ ap stored same;
      said = made.said ∙ ap (λ (z : AgentStepped). z.out) same;
    }

-- the bond of a connection that was asked for nothing yet
pub opened_bond : (x : Connection) (b : Bond) → x.own ≡ b.own → x.children.items ≡ b.children → bond x ≡ b
opened_bond x b own children = ap (λ r. record { own = r; children = x.children.items }) own ∙ ap (λ xs. record { own = b.own; children = xs }) children
