-- The turns of a connection are mild.
use Rattle.std.proofs.Common.{◌≤◌, ◌&&◌, ℕ, Bool, true, false, List, [], ◌∷◌, ◌++◌, Option, Some, None, IfSome, refl, arith, is_none}
use Rattle.std.specs.List.{find, list_any}
use Rattle.std.proofs.lemmas.List.Elements.{All-nil, All-append}
use Rattle.nsi_primitive.specs.Ids.{id_of}
use Rattle.nsi_primitive.specs.Printable.{IsPrintable}
use Rattle.nsi_primitive.specs.declared.kind.Kind.{Kind}
use Rattle.nsi_primitive.specs.declared.plane.Plane.{Plane}
use Rattle.nsi_primitive.specs.declared.state.Side.{Side}
use Rattle.nsi_primitive.specs.declared.state.Lsm.{Lsm}
use Rattle.nsi_primitive.specs.declared.state.Rsm.{Rsm}
use Rattle.nsi_primitive.specs.declared.state.Psm.{Psm}
use Rattle.nsi_primitive.specs.declared.message.Body.{Body}
use Rattle.nsi_primitive.specs.declared.message.Message.{Message}
use Rattle.dataplane_state.specs.Plane.{announces}
use Rattle.connection_record.specs.declared.record.Record.{Record}
use Rattle.connection_record.specs.declared.moves.Reply.{Reply}
use Rattle.connection_record.specs.Moves.{is_live}
use Rattle.connection_record.specs.Applied.{is_terminating}
use Rattle.connection_record.specs.Replies.{Moved, addressed, then_moves}
use Rattle.child_connection.specs.Views.{ChildConnection}
use Rattle.child_connection.specs.Hearing.{hear}
use Rattle.aggregator_agent.specs.declared.agent.Agent.{Agent}
use Rattle.aggregator_agent.specs.Asking.{Turn, Asking, begin, replies_by, notices_by, notices_under, next_after, asks_by, pass_each}
use Rattle.aggregator_agent.specs.Settling.{checked, fit_or_lack, is_lacking, reservation_verdict, reservation_due, is_quiet, provision_verdict, provision_due, settles_reservation, settles_provision, is_there, closes_unless, settles, settle, has_error, has_provision_error, done_or_mixed, done_or_spoiled}
use Rattle.aggregator_agent.specs.Turns.{joined_of, tell_joined, pass_on, takes, turn_by_request, request_turn, loses, breaks, late_terminate, hear_one, hear_each, hold_end_by, force_by, hold_ends, force_ends, heard_by, turn_by_answer, answer_turn, spoken}
use Rattle.aggregator_agent.specs.Good.{IsWritable}
use Rattle.aggregator_agent.proofs.MildReplies.{AreMild, both_mild, IsMildMoved, stays_mild, then_mild, writable_later, IsMildReservation, IsMildProvision, reserves_mild, provisions_mild, lives_mild, closes_mild, requested_mild, tells_mild}
use Rattle.aggregator_agent.proofs.Mild.{AreLaws, IsMildAsking, drawn_none, drawn_up, drawn_then, drawn_addressed, addressed_printable, each_mild, one_mild, request_fit, passed_mild}

-- its texts can be written, what it says is mild, and its requests have drawn ids from a number on
pub record IsMildTurn (agent start : ℕ) (t : Turn) : Type 0 where
  pub writable : IsWritable t.own
  pub replies : AreMild t.replies
  pub notices : AreMild t.notices
  pub asked : IsMildAsking agent start t.asked t.next

begin_mild : (agent : ℕ) (own : Record) (xs : List ChildConnection) (next : ℕ) → IsWritable own → IsMildTurn agent next (begin own xs next)
begin_mild agent own xs next w = record { writable = w; replies = tt; notices = tt; asked = record { prints = All-nil IsPrintable; drawn = drawn_none agent next next (omega arith) } }

replies_mild : (agent start : ℕ) (t : Turn) (x : Moved) → IsMildMoved t.own x → IsMildTurn agent start t → IsMildTurn agent start (replies_by t x)
replies_mild agent start t x p m = record { writable = writable_later t.own x.rec p.later m.writable; replies = both_mild t.replies x.out m.replies p.says; notices = m.notices; asked = m.asked }

notices_mild : (agent start : ℕ) (t : Turn) (x : Moved) → IsMildMoved t.own x → IsMildTurn agent start t → IsMildTurn agent start (notices_by t x)
notices_mild agent start t x p m = record { writable = writable_later t.own x.rec p.later m.writable; replies = m.replies; notices = both_mild t.notices x.out m.notices p.says; asked = m.asked }

rises : (out : List Reply) (next : ℕ) → next ≤ next_after out next
unfolding next_after
rises [] next = omega arith
rises (x ∷ xs) next = omega arith

under_mild : (agent start : ℕ) (t : Turn) (x : Moved) → IsMildMoved t.own x → IsMildTurn agent start t → IsMildTurn agent start (notices_under t x)
under_mild agent start t x p m = record {
  writable = writable_later t.own x.rec p.later m.writable;
  replies = m.replies;
  notices = both_mild t.notices x.out m.notices p.says;
  asked = record { prints = m.asked.prints; drawn = drawn_up agent start t.asked t.next (next_after x.out t.next) m.asked.drawn (rises x.out t.next) };
}

asks_mild : (agent start : ℕ) (t : Turn) (a : Asking) → IsMildAsking agent t.next a.asked a.next → IsMildTurn agent start t → IsMildTurn agent start (asks_by t a)
asks_mild agent start t a p m = record {
  writable = m.writable;
  replies = m.replies;
  notices = m.notices;
  asked = record { prints = All-append IsPrintable t.asked a.asked m.asked.prints p.prints; drawn = drawn_then agent start t.asked t.next a.asked a.next m.asked.drawn p.drawn };
}

---- Verdicts

checked_mild : (agent : List ℕ) (xs : List ChildConnection) → IsMildReservation (checked agent xs)
unfolding checked
checked_mild agent [] = refl
checked_mild agent (x ∷ xs) = by_found (find is_lacking (x ∷ xs))
  where
    by_found : (o : Option ChildConnection) → IsMildReservation (fit_or_lack agent o)
    by_found None = tt
    by_found (Some y) = tt

mixed_mild : (agent : List ℕ) (o : Option ChildConnection) → IsMildReservation (done_or_mixed agent o)
mixed_mild agent None = tt
mixed_mild agent (Some x) = tt

spoiled_mild : (agent : List ℕ) (o : Option ChildConnection) → IsMildProvision (done_or_spoiled agent o)
spoiled_mild agent None = tt
spoiled_mild agent (Some x) = tt

reservation_mild : (state : Rsm) (agent : List ℕ) (xs : List ChildConnection) → IfSome (reservation_verdict state agent xs) IsMildReservation
unfolding reservation_verdict
reservation_mild Rsm.ReserveChecking agent xs = checked_mild agent xs
reservation_mild Rsm.ReserveCommitting agent xs = mixed_mild agent (find has_error xs)
reservation_mild Rsm.ReserveAborting agent xs = tt
reservation_mild Rsm.ReserveStart agent xs = tt
reservation_mild Rsm.ReserveHeld agent xs = tt
reservation_mild Rsm.ReserveFailed agent xs = tt
reservation_mild Rsm.ReserveTimeout agent xs = tt

due_mild : (b : Bool) (state : Rsm) (agent : List ℕ) (xs : List ChildConnection) → IfSome (reservation_due b state agent xs) IsMildReservation
unfolding reservation_due
due_mild true state agent xs = reservation_mild state agent xs
due_mild false state agent xs = tt

provision_mild : (state : Psm) (agent : List ℕ) (xs : List ChildConnection) → IfSome (provision_verdict state agent xs) IsMildProvision
unfolding provision_verdict
provision_mild Psm.Provisioning agent xs = spoiled_mild agent (find has_provision_error xs)
provision_mild Psm.Releasing agent xs = spoiled_mild agent (find has_provision_error xs)
provision_mild Psm.Released agent xs = tt
provision_mild Psm.Provisioned agent xs = tt

provision_due_mild : (b : Bool) (state : Psm) (agent : List ℕ) (xs : List ChildConnection) → IfSome (provision_due b state agent xs) IsMildProvision
unfolding provision_due
provision_due_mild true state agent xs = provision_mild state agent xs
provision_due_mild false state agent xs = tt

settles_reservation_mild : (agent : Agent) (now : ℕ) (xs : List ChildConnection) (own : Record) → IsWritable own → IsMildMoved own (settles_reservation agent now xs own)
unfolding settles_reservation
settles_reservation_mild agent now xs own w = reserves_mild (reservation_due (is_quiet Kind.Reserve xs) own.rsm agent.name xs) now own w (due_mild (is_quiet Kind.Reserve xs) own.rsm agent.name xs)

settles_provision_mild : (agent : Agent) (now : ℕ) (xs : List ChildConnection) (own : Record) → IsMildMoved own (settles_provision agent now xs own)
unfolding settles_provision
settles_provision_mild agent now xs own =
    provisions_mild Side.Aggregator (provision_due (is_quiet Kind.Provision xs) own.psm agent.name xs) now own (provision_due_mild (is_quiet Kind.Provision xs) own.psm agent.name xs)

closes_unless_mild : (b : Bool) (agent : Agent) (now : ℕ) (own : Record) → IsWritable own → IsMildMoved own (closes_unless b agent now own)
unfolding closes_unless
closes_unless_mild true agent now own w = stays_mild own
closes_unless_mild false agent now own w = closes_mild agent.name Side.Aggregator now own w

both_settle : (agent : Agent) (now : ℕ) (xs : List ChildConnection) (own : Record) → IsWritable own → IsMildMoved own (then_moves (settles_reservation agent now xs own) (λ x. settles_provision agent now xs x))
both_settle agent now xs own w =
    then_mild own (settles_reservation agent now xs own) (λ x. settles_provision agent now xs x) (settles_reservation_mild agent now xs own w)
    (settles_provision_mild agent now xs (settles_reservation agent now xs own).rec)

settles_mild : (state : Lsm) (agent : Agent) (now : ℕ) (xs : List ChildConnection) (own : Record) → IsWritable own → IsMildMoved own (settles state agent now xs own)
unfolding settles
settles_mild Lsm.Terminating agent now xs own w = closes_unless_mild (list_any is_there xs) agent now own w
settles_mild Lsm.Terminated agent now xs own w = stays_mild own
settles_mild Lsm.Created agent now xs own w = both_settle agent now xs own w
settles_mild Lsm.Failed agent now xs own w = both_settle agent now xs own w
settles_mild Lsm.PassedEndTime agent now xs own w = both_settle agent now xs own w

settle_mild : (agent : Agent) (now start : ℕ) (t : Turn) → IsMildTurn agent.number start t → IsMildTurn agent.number start (settle agent now t)
unfolding settle
settle_mild agent now start t m = replies_mild agent.number start t (settles t.own.lsm agent now t.children t.own) (settles_mild t.own.lsm agent now t.children t.own m.writable) m

tell_mild : (before : Plane) (agent : Agent) (now start : ℕ) (t : Turn) → IsMildTurn agent.number start t → IsMildTurn agent.number start (tell_joined before agent now t)
unfolding tell_joined
tell_mild before agent now start t m = under_mild agent.number start t _ (tells_mild (announces before (joined_of t.children)) (joined_of t.children) (id_of agent.number t.next) now t.own) m

---- Turns

hold_mild : (b : Bool) (body : Body) → IfSome (hold_end_by b body) IsMildReservation
unfolding hold_end_by
hold_mild b body = grind arith

hold_ends_mild : (b : Bool) (m : Message) (agent now start : ℕ) (t : Turn) → IsMildTurn agent start t → IsMildTurn agent start (hold_ends b m now t)
unfolding hold_ends
hold_ends_mild b m agent now start t p =
    notices_mild agent start t _ (reserves_mild (hold_end_by (b && is_live t.own.lsm) m.body) now t.own p.writable (hold_mild (b && is_live t.own.lsm) m.body)) p

force_ends_mild : (b : Bool) (m : Message) (agent : Agent) (now start : ℕ) (t : Turn) → IsMildTurn agent.number start t → IsMildTurn agent.number start (force_ends b m agent now t)
unfolding force_ends
force_ends_mild b m agent now start t p = under_mild agent.number start t _ (lives_mild (force_by b (id_of agent.number t.next) m.body) now t.own) p

module _ (laws : AreLaws) where
  heard_mild : (m : Message) (agent : Agent) (start : ℕ) (t : Turn) → IsMildTurn agent.number start t → IsMildTurn agent.number start (heard_by m agent t)
  unfolding heard_by
  heard_mild m agent start t p =
      let is_ending = is_terminating t.own.lsm in
      asks_mild agent.number start t (hear_each is_ending m agent t.next t.children)
      (each_mild (λ n x. hear_one is_ending m agent n x) agent.number (λ n x. one_mild (late_terminate is_ending m x) Kind.Terminate agent n (hear m x).view (request_fit laws (is_ending && is_none x.connection) Kind.Terminate (hear m x).view)) t.next t.children) p

  pass_mild : (m : Message) (agent : Agent) (start : ℕ) (t : Turn) → IsMildTurn agent.number start t → IsMildTurn agent.number start (pass_on m agent t)
  unfolding pass_on
  pass_mild m agent start t p = asks_mild agent.number start t (pass_each m agent t.own t.next t.children) (passed_mild laws m agent t.own p.writable t.next t.children) p

  takes_mild : (m : Message) (agent now start : ℕ) (t : Turn) → IsMildTurn agent start t → IsMildTurn agent start (replies_by t (takes m now t.own))
  unfolding takes
  takes_mild m agent now start t p = replies_mild agent start t _ (requested_mild Side.Aggregator m.body m.header.correlation now t.own p.writable) p

  pub request_mild : (agent : Agent) (now : ℕ) (m : Message) (own : Record) (xs : List ChildConnection) (next : ℕ) → IsWritable own → IsMildTurn agent.number next (request_turn agent now m own xs next)
  unfolding request_turn turn_by_request
  request_mild agent now m own xs next w =
      let t = begin own xs next in
      let taken = takes_mild m agent.number now next t (begin_mild agent.number own xs next w) in
      tell_mild (joined_of xs) agent now next _ (settle_mild agent now next _ (pass_mild m agent next _ taken))

  pub answer_mild : (agent : Agent) (now : ℕ) (m : Message) (own : Record) (xs : List ChildConnection) (next : ℕ) → IsWritable own → IsMildTurn agent.number next (answer_turn agent now m own xs next)
  unfolding answer_turn turn_by_answer
  answer_mild agent now m own xs next w =
      let heard = heard_mild m agent next (begin own xs next) (begin_mild agent.number own xs next w) in
      let held = hold_ends_mild (list_any (loses m) xs) m agent.number now next _ heard in
      tell_mild (joined_of xs) agent now next _ (settle_mild agent now next _ (force_ends_mild (list_any (breaks m) xs) m agent now next _ held))

---- What is said

pub spoken_mild : (agent : Agent) (start : ℕ) (t : Turn) → IsMildTurn agent.number start t → IsMildAsking agent.number start (spoken agent t) t.next
unfolding spoken
spoken_mild agent start t m =
    let owner = t.own.owner in
    let answers = addressed agent.name owner t.replies in
    let notices = addressed agent.name owner t.notices in
    record {
      prints =
          All-append IsPrintable answers (t.asked ++ notices) (addressed_printable agent.name owner t.replies m.replies)
          (All-append IsPrintable t.asked notices m.asked.prints (addressed_printable agent.name owner t.notices m.notices));
      drawn =
          drawn_then agent.number start answers start (t.asked ++ notices) t.next (drawn_addressed agent.number agent.name owner t.replies start m.replies)
          (drawn_then agent.number start t.asked t.next notices t.next m.asked.drawn (drawn_addressed agent.number agent.name owner t.notices t.next m.notices));
    }
