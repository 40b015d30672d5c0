-- What an aggregator's own record does once its children have answered.
use Rattle.std.specs.Prelude.{ℕ, Bool, true, false, not, List, [], ◌∷◌, ◌&&◌, ◌||◌, Option, Some, None, is_some, unwrap_or}
use Rattle.std.specs.List.{find, list_any}
use Rattle.nsi_primitive.specs.declared.kind.ErrorName.{ErrorName}
use Rattle.nsi_primitive.specs.declared.kind.Kind.{Kind}
use Rattle.nsi_primitive.specs.declared.state.Side.{Side}
use Rattle.nsi_primitive.specs.declared.state.Rsm.{Rsm}
use Rattle.nsi_primitive.specs.declared.state.Psm.{Psm}
use Rattle.nsi_primitive.specs.declared.state.Lsm.{Lsm}
use Rattle.nsi_primitive.specs.declared.message.Cause.{Cause}
use Rattle.nsi_primitive.specs.declared.message.Exception.{Exception}
use Rattle.connection_record.specs.declared.record.Record.{Record}
use Rattle.connection_record.specs.declared.moves.ReservationMove.{ReservationMove}
use Rattle.connection_record.specs.declared.provisioning.ProvisionMove.{ProvisionMove}
use Rattle.connection_record.specs.Replies.{Moved, stays, then_moves, plain}
use Rattle.connection_record.specs.Moves.{reserves_if}
use Rattle.connection_record.specs.Lives.{provisions_if}
use Rattle.connection_record.specs.Applied.{closes}
use Rattle.child_connection.specs.declared.state.Phase.{Phase}
use Rattle.child_connection.specs.Views.{ChildConnection, open_request}
use Rattle.aggregator_agent.specs.declared.agent.Agent.{Agent}
use Rattle.aggregator_agent.specs.Asking.{Turn, replies_by}

---- The children

abbrev pub is_waiting : Kind → ChildConnection → Bool
is_waiting k x = is_some (open_request k x)

-- no child has an unanswered request of the machine that a kind belongs to
abbrev pub is_quiet : Kind → List ChildConnection → Bool
is_quiet k children = not (list_any (is_waiting k) children)

unfoldable pub is_held : Phase → Bool
is_held Phase.Held = true
is_held _ = false

abbrev pub is_lacking : ChildConnection → Bool
is_lacking x = not (is_held x.phase)

abbrev pub has_error : ChildConnection → Bool
has_error x = is_some x.error

abbrev pub has_provision_error : ChildConnection → Bool
has_provision_error x = is_some x.provision_error

-- whether a child still has to end: it isn't gone, and has an id or an unanswered reserve
abbrev pub is_there : ChildConnection → Bool
is_there x = not x.gone && (is_some x.connection || is_some x.reserve_request)

-- the child and its error are named; where none is known the error is that of a child
abbrev pub child_exception : List ℕ → ChildConnection → Option ErrorName → Exception
child_exception agent x error = record { nsa = agent; cause = Cause.Child x.child (unwrap_or error ErrorName.Child) }

---- The reservation machine

-- all hold, or the first that doesn't is named
abbrev pub fit_or_lack : List ℕ → Option ChildConnection → ReservationMove
fit_or_lack agent None = ReservationMove.Fit None
fit_or_lack agent (Some x) = ReservationMove.Lack (child_exception agent x x.error)

-- without children there was no path
unfoldable pub checked : List ℕ → List ChildConnection → ReservationMove
checked agent [] = ReservationMove.Lack (plain agent ErrorName.NoPath)
checked agent (x ∷ xs) = fit_or_lack agent (find is_lacking (x ∷ xs))

-- all have committed, or the first that hasn't is named, and others may have
abbrev pub done_or_mixed : List ℕ → Option ChildConnection → ReservationMove
done_or_mixed agent None = ReservationMove.Done
done_or_mixed agent (Some x) = ReservationMove.Spoiled (child_exception agent x x.error) true

-- the move that is due when no child has a request of the reservation machine unanswered
unfoldable pub reservation_verdict : Rsm → List ℕ → List ChildConnection → Option ReservationMove
reservation_verdict Rsm.ReserveChecking agent children = Some (checked agent children)
reservation_verdict Rsm.ReserveCommitting agent children = Some (done_or_mixed agent (find has_error children))
reservation_verdict Rsm.ReserveAborting agent children = Some ReservationMove.Freed
reservation_verdict _ agent children = None

unfoldable pub reservation_due : Bool → Rsm → List ℕ → List ChildConnection → Option ReservationMove
reservation_due true state agent children = reservation_verdict state agent children
reservation_due false state agent children = None

---- The provision machine

abbrev pub done_or_spoiled : List ℕ → Option ChildConnection → ProvisionMove
done_or_spoiled agent None = ProvisionMove.Done
done_or_spoiled agent (Some x) = ProvisionMove.Spoiled (child_exception agent x x.provision_error)

unfoldable pub provision_verdict : Psm → List ℕ → List ChildConnection → Option ProvisionMove
provision_verdict Psm.Provisioning agent children = Some (done_or_spoiled agent (find has_provision_error children))
provision_verdict Psm.Releasing agent children = Some (done_or_spoiled agent (find has_provision_error children))
provision_verdict _ agent children = None

unfoldable pub provision_due : Bool → Psm → List ℕ → List ChildConnection → Option ProvisionMove
provision_due true state agent children = provision_verdict state agent children
provision_due false state agent children = None

---- A connection

unfoldable pub settles_reservation : Agent → ℕ → List ChildConnection → Record → Moved
settles_reservation agent now children own =
    reserves_if (reservation_due (is_quiet Kind.Reserve children) own.rsm agent.name children) now own

unfoldable pub settles_provision : Agent → ℕ → List ChildConnection → Record → Moved
settles_provision agent now children own =
    provisions_if Side.Aggregator (provision_due (is_quiet Kind.Provision children) own.psm agent.name children) now own

-- the connection ends where no child is there any more
unfoldable pub closes_unless : Bool → Agent → ℕ → Record → Moved
closes_unless true agent now own = stays own
closes_unless false agent now own = closes agent.name Side.Aggregator now own

-- the moves that are due as the children stand: a connection that ends has only that of its end
unfoldable pub settles : Lsm → Agent → ℕ → List ChildConnection → Record → Moved
settles Lsm.Terminating agent now children own = closes_unless (list_any is_there children) agent now own
settles Lsm.Terminated agent now children own = stays own
settles _ agent now children own = then_moves (settles_reservation agent now children own) (λ x. settles_provision agent now children x)

unfoldable pub settle : Agent → ℕ → Turn → Turn
settle agent now t = replies_by t (settles t.own.lsm agent now t.children t.own)
