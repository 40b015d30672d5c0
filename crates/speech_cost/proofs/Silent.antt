-- What the moves of a record say concerns no data plane of a child, and no request that is late.
use Rattle.std.proofs.Common.{ℕ, ◌+◌, ◌≡◌, Bool, true, false, ◌&&◌, ◌||◌, List, [], ◌∷◌, Option, Some, None, refl, ap, arith, slice_get}
use Rattle.std.specs.List.{list_any}
use Rattle.nsi_primitive.specs.Ids.{id_of}
use Rattle.nsi_primitive.specs.declared.kind.ErrorName.{ErrorName}
use Rattle.nsi_primitive.specs.declared.kind.Kind.{Kind}
use Rattle.nsi_primitive.specs.declared.message.Exception.{Exception}
use Rattle.nsi_primitive.specs.declared.message.Message.{Message}
use Rattle.nsi_primitive.specs.declared.state.Rsm.{Rsm}
use Rattle.nsi_primitive.specs.declared.state.Psm.{Psm}
use Rattle.nsi_primitive.specs.declared.state.Lsm.{Lsm}
use Rattle.nsi_primitive.specs.declared.state.Side.{Side}
use Rattle.reserve_machine.specs.Table.{step as reserve_step}
use Rattle.provision_machine.specs.Table.{step as provision_step}
use Rattle.lifecycle_machine.specs.Table.{step as lifecycle_step}
use Rattle.connection_record.specs.declared.record.Record.{Record}
use Rattle.connection_record.specs.declared.moves.Reply.{Reply}
use Rattle.connection_record.specs.declared.moves.ReservationMove.{ReservationMove}
use Rattle.connection_record.specs.declared.provisioning.ProvisionMove.{ProvisionMove}
use Rattle.connection_record.specs.declared.life.LifecycleMove.{LifecycleMove}
use Rattle.connection_record.specs.declared.apply.Move.{Move}
use Rattle.connection_record.specs.Replies.{Moved, stays as leaves, then_moves, plain}
use Rattle.connection_record.specs.Moves.{event_of, reserves, reserves_if, is_live}
use Rattle.connection_record.specs.Lives.{provision_event, lifecycle_event, provisions, provisions_if, lives, lives_if}
use Rattle.connection_record.specs.Applied.{closes, closes_reservation, closes_provision, reservation_closing, provision_closing, moves, moves_if, requested, is_terminating}
use Rattle.connection_record.specs.Speaking.{one, tally}
use Rattle.connection_record.proofs.Saying.{tally_append}
use Rattle.child_connection.specs.Views.{ChildConnection}
use Rattle.agent_state.specs.declared.parent.OpenQuery.{OpenQuery}
use Rattle.agent_state.specs.declared.parent.Part.{Part}
use Rattle.aggregator_agent.specs.declared.agent.Agent.{Agent}
use Rattle.aggregator_agent.specs.Asking.{Turn, begin, replies_by, notices_by, notices_under, asks_by, pass_each}
use Rattle.aggregator_agent.specs.Below.{is_asked, nested_reply, Heard, part_of, closes_unless as closes_query, told_at, tells_query, tells_first, tells_if, asked_place, hear_below}
use Rattle.aggregator_agent.specs.Settling.{is_quiet, is_there, reservation_due, provision_due, settles_reservation, settles_provision, closes_unless, settles, settle}
use Rattle.aggregator_agent.specs.Turns.{pass_on, takes, turn_by_request, loses, breaks, hear_each, hold_end_by, force_by, hold_ends, force_ends, heard_by, turn_by_answer}
use Rattle.speech_cost.specs.Costs.{is_late_notice}
use Rattle.speech_cost.specs.Changes.{is_change}

-- what a child or its silence makes an aggregator say
abbrev pub of_below : Reply → Bool
of_below x = is_change x.body || is_late_notice x.body

abbrev pub IsSilent : Moved → Type 0
IsSilent x = tally of_below x.out ≡ 0

---- Moves

reserves_silent : (k : Rsm) (move : ReservationMove) (now : ℕ) (r : Record) → IsSilent (reserves k move now r)
unfolding reserves reserve_step event_of tally
reserves_silent k move now r = grind arith

provisions_silent : (side : Side) (k : Psm) (move : ProvisionMove) (now : ℕ) (r : Record) → IsSilent (provisions side k move now r)
unfolding provisions provision_step provision_event tally
provisions_silent side k move now r = grind arith

lives_silent : (k : Lsm) (move : LifecycleMove) (now : ℕ) (r : Record) → IsSilent (lives k move now r)
unfolding lives lifecycle_step lifecycle_event tally
lives_silent k move now r = grind arith

pub leaves_silent : (r : Record) → IsSilent (leaves r)
unfolding tally
leaves_silent r = refl

then_silent : (x : Moved) (next : Record → Moved) → IsSilent x → IsSilent (next x.rec) → IsSilent (then_moves x next)
then_silent x next a b = omega (arith, a, b, tally_append of_below x.out (next x.rec).out)

reserves_if_silent : (o : Option ReservationMove) (now : ℕ) (r : Record) → IsSilent (reserves_if o now r)
reserves_if_silent None now r = leaves_silent r
reserves_if_silent (Some move) now r = reserves_silent r.rsm move now r

provisions_if_silent : (side : Side) (o : Option ProvisionMove) (now : ℕ) (r : Record) → IsSilent (provisions_if side o now r)
provisions_if_silent side None now r = leaves_silent r
provisions_if_silent side (Some move) now r = provisions_silent side r.psm move now r

pub lives_if_silent : (o : Option LifecycleMove) (now : ℕ) (r : Record) → IsSilent (lives_if o now r)
lives_if_silent None now r = leaves_silent r
lives_if_silent (Some move) now r = lives_silent r.lsm move now r

closes_silent : (agent : List ℕ) (side : Side) (now : ℕ) (r : Record) → IsSilent (closes agent side now r)
unfolding closes
closes_silent agent side now r =
    let gone : Exception = plain agent ErrorName.Gone in
    let x : Moved = closes_reservation agent now r in
    let y : Moved = then_moves x (λ z. closes_provision agent side now z) in
    then_silent y (λ z. lives z.lsm LifecycleMove.Done now z)
    (then_silent x (λ z. closes_provision agent side now z) (reserves_if_silent (reservation_closing r.rsm gone) now r) (provisions_if_silent side (provision_closing x.rec.psm gone) now x.rec))
    (lives_silent y.rec.lsm LifecycleMove.Done now y.rec)

moves_if_silent : (side : Side) (o : Option Move) (now : ℕ) (r : Record) → IsSilent (moves_if side o now r)
unfolding moves
moves_if_silent side None now r = leaves_silent r
moves_if_silent side (Some (Move.Reservation m)) now r = reserves_silent r.rsm m now r
moves_if_silent side (Some (Move.Provision m)) now r = provisions_silent side r.psm m now r
moves_if_silent side (Some (Move.Lifecycle m)) now r = lives_silent r.lsm m now r
moves_if_silent side (Some (Move.Close agent)) now r = closes_silent agent side now r

closing_silent : (b : Bool) (agent : Agent) (now : ℕ) (own : Record) → IsSilent (closes_unless b agent now own)
unfolding closes_unless
closing_silent true agent now own = leaves_silent own
closing_silent false agent now own = closes_silent agent.name Side.Aggregator now own

both_silent : (agent : Agent) (now : ℕ) (xs : List ChildConnection) (own : Record) → IsSilent (then_moves (settles_reservation agent now xs own) (λ x. settles_provision agent now xs x))
unfolding settles_reservation settles_provision
both_silent agent now xs own =
    let x : Moved = reserves_if (reservation_due (is_quiet Kind.Reserve xs) own.rsm agent.name xs) now own in
    then_silent x (λ r. provisions_if Side.Aggregator (provision_due (is_quiet Kind.Provision xs) r.psm agent.name xs) now r)
    (reserves_if_silent (reservation_due (is_quiet Kind.Reserve xs) own.rsm agent.name xs) now own)
    (provisions_if_silent Side.Aggregator (provision_due (is_quiet Kind.Provision xs) x.rec.psm agent.name xs) now x.rec)

settles_silent : (k : Lsm) (agent : Agent) (now : ℕ) (xs : List ChildConnection) (own : Record) → IsSilent (settles k agent now xs own)
unfolding settles
settles_silent Lsm.Terminating agent now xs own = closing_silent (list_any is_there xs) agent now own
settles_silent Lsm.Terminated agent now xs own = leaves_silent own
settles_silent Lsm.Created agent now xs own = both_silent agent now xs own
settles_silent Lsm.Failed agent now xs own = both_silent agent now xs own
settles_silent Lsm.PassedEndTime agent now xs own = both_silent agent now xs own

---- A turn

-- neither its answers nor its notices tell such a thing
abbrev pub IsSilentTurn : Turn → Type 0
IsSilentTurn t = tally of_below t.replies + tally of_below t.notices ≡ 0

replies_silent : (t : Turn) (x : Moved) → IsSilentTurn t → IsSilent x → IsSilentTurn (replies_by t x)
replies_silent t x h a = omega (arith, h, a, tally_append of_below t.replies x.out)

notices_silent : (t : Turn) (x : Moved) → IsSilentTurn t → IsSilent x → IsSilentTurn (notices_by t x)
notices_silent t x h a = omega (arith, h, a, tally_append of_below t.notices x.out)

under_silent : (t : Turn) (x : Moved) → IsSilentTurn t → IsSilent x → IsSilentTurn (notices_under t x)
under_silent t x h a = omega (arith, h, a, tally_append of_below t.notices x.out)

settle_silent : (agent : Agent) (now : ℕ) (t : Turn) → IsSilentTurn t → IsSilentTurn (settle agent now t)
unfolding settle
settle_silent agent now t h = replies_silent t (settles t.own.lsm agent now t.children t.own) h (settles_silent t.own.lsm agent now t.children t.own)

hold_silent : (lost : Bool) (m : Message) (now : ℕ) (t : Turn) → IsSilentTurn t → IsSilentTurn (hold_ends lost m now t)
unfolding hold_ends
hold_silent lost m now t h = let o : Option ReservationMove = hold_end_by (lost && is_live t.own.lsm) m.body in notices_silent t (reserves_if o now t.own) h (reserves_if_silent o now t.own)

force_silent : (broken : Bool) (m : Message) (agent : Agent) (now : ℕ) (t : Turn) → IsSilentTurn t → IsSilentTurn (force_ends broken m agent now t)
unfolding force_ends
force_silent broken m agent now t h = let o : Option LifecycleMove = force_by broken (id_of agent.number t.next) m.body in under_silent t (lives_if o now t.own) h (lives_if_silent o now t.own)

begin_silent : (own : Record) (xs : List ChildConnection) (next : ℕ) → IsSilentTurn (begin own xs next)
unfolding tally
begin_silent own xs next = refl

-- before the change of the data plane is told
pub request_silent : (agent : Agent) (now : ℕ) (m : Message) (own : Record) (xs : List ChildConnection) (next : ℕ) → IsSilentTurn (turn_by_request agent now m (begin own xs next))
unfolding turn_by_request pass_on takes
request_silent agent now m own xs next =
    let x : Moved = moves_if Side.Aggregator (requested now m.body m.header.correlation own) now own in
    settle_silent agent now (asks_by (replies_by (begin own xs next) x) (pass_each m agent x.rec next xs))
    (replies_silent (begin own xs next) x (begin_silent own xs next) (moves_if_silent Side.Aggregator (requested now m.body m.header.correlation own) now own))

pub answer_silent : (agent : Agent) (now : ℕ) (m : Message) (own : Record) (xs : List ChildConnection) (next : ℕ) → IsSilentTurn (turn_by_answer agent now m (begin own xs next))
unfolding turn_by_answer heard_by
answer_silent agent now m own xs next =
    let t : Turn = asks_by (begin own xs next) (hear_each (is_terminating own.lsm) m agent next xs) in
    let u : Turn = hold_ends (list_any (loses m) xs) m now t in
    settle_silent agent now (force_ends (list_any (breaks m) xs) m agent now u)
    (force_silent (list_any (breaks m) xs) m agent now u (hold_silent (list_any (loses m) xs) m now t (begin_silent own xs next)))

---- Queries

abbrev pub says_below : Message → Bool
says_below m = is_change m.body || is_late_notice m.body

none_below : tally says_below [] ≡ 0
unfolding tally
none_below = refl

one_below : (m : Message) → says_below m ≡ false → tally says_below (m ∷ []) ≡ 0
unfolding tally
one_below m e = omega (arith, ap one e)

closed_silent : (waits : Bool) (agent : List ℕ) (own : Record) (q : OpenQuery) (qs : List OpenQuery) → tally says_below (closes_query waits agent own q qs).out ≡ 0
closed_silent true agent own q qs = none_below
closed_silent false agent own q qs = one_below (nested_reply agent own q) refl

query_silent : (own : Option Record) (place : Option ℕ) (agent : List ℕ) (p : Part) (q : OpenQuery) (qs : List OpenQuery) (rest : Heard) → tally says_below rest.out ≡ 0 → tally says_below (tells_query own place agent p q qs rest).out ≡ 0
query_silent (Some own) (Some n) agent p q qs rest h = closed_silent (list_any is_asked (told_at n p q).parts) agent own (told_at n p q) qs
query_silent None place agent p q qs rest h = h
query_silent (Some own) None agent p q qs rest h = h

first_silent : (agent : List ℕ) (records : List Record) (c : ℕ) (p : Part) (qs : List OpenQuery) → tally says_below (tells_first agent records c p qs).out ≡ 0
unfolding tells_first
first_silent agent records c p [] = none_below
first_silent agent records c p (q ∷ qs) = query_silent (slice_get records q.place) (asked_place c q) agent p q qs (tells_first agent records c p qs) (first_silent agent records c p qs)

-- nor does an answer to a query that waited
pub below_silent : (agent : List ℕ) (records : List Record) (m : Message) (qs : List OpenQuery) → tally says_below (hear_below agent records m qs).out ≡ 0
below_silent agent records m qs = by (part_of m.body)
  where
    by : (o : Option Part) → tally says_below (tells_if o agent records m.header.correlation qs).out ≡ 0
    by None = none_below
    by (Some p) = first_silent agent records m.header.correlation p qs
