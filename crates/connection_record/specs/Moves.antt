-- What a row of the reservation machine's table does to a record, and what the record then says.
use Rattle.std.specs.Prelude.{ℕ, ◌+◌, Bool, true, false, List, [], ◌∷◌, ◌++◌, Option, Some, None, if◌then◌else◌, ◌&&◌, ◌||◌, nat_le, length, unwrap_or, option_to_list}
use Rattle.nsi_base.specs.Range.{Span, span_of, within}
use Rattle.nsi_primitive.specs.declared.kind.Directionality.{Directionality}
use Rattle.nsi_primitive.specs.declared.kind.Kind.{Kind}
use Rattle.nsi_primitive.specs.declared.state.Rsm.{Rsm}
use Rattle.nsi_primitive.specs.declared.state.Psm.{Psm}
use Rattle.nsi_primitive.specs.declared.state.Lsm.{Lsm}
use Rattle.nsi_primitive.specs.declared.message.Body.{Body}
use Rattle.nsi_primitive.specs.declared.message.Cause.{Cause}
use Rattle.nsi_primitive.specs.declared.message.Criteria.{Criteria}
use Rattle.nsi_primitive.specs.declared.message.Exception.{Exception}
use Rattle.nsi_primitive.specs.Messages.{start_at}
use Rattle.nsi_primitive.specs.declared.message.ReserveRequest.{ReserveRequest}
use Rattle.nsi_primitive.specs.declared.message.Service.{Service}
use Rattle.reserve_machine.specs.declared.table.RsmEvent.{RsmEvent}
use Rattle.reserve_machine.specs.Table.{step as reserve_step}
use Rattle.connection_record.specs.declared.record.Record.{Record}
use Rattle.connection_record.specs.declared.moves.Origin.{Origin}
use Rattle.connection_record.specs.declared.moves.ReservationMove.{ReservationMove}
use Rattle.connection_record.specs.declared.moves.Reply.{Reply}
use Rattle.connection_record.specs.Replies.{Moved, stays, by_row, reply, counted, noted, confirmation, id_or}
use Rattle.connection_record.specs.Demand.{last}

---- The reservation machine

-- the event of the table that a move is
unfoldable pub event_of : ReservationMove → RsmEvent
event_of (ReservationMove.Reserve _ _) = RsmEvent.Reserve
event_of (ReservationMove.Fit _) = RsmEvent.Fit
event_of (ReservationMove.Lack _) = RsmEvent.Lack
event_of (ReservationMove.Commit _) = RsmEvent.Commit
event_of (ReservationMove.Abort _) = RsmEvent.Abort
event_of (ReservationMove.HoldEnd _) = RsmEvent.HoldEnd
event_of ReservationMove.Done = RsmEvent.Done
event_of (ReservationMove.Spoiled _ _) = RsmEvent.Spoiled
event_of ReservationMove.Freed = RsmEvent.Freed

-- a request under this correlation is in the work
abbrev pub asked : ℕ → Rsm → Record → Record
asked correlation next r = record r { rsm = next; reserve_request = Some correlation }

-- pending criteria are dropped where the state is neither of checking, holding nor committing
abbrev pub dropped : Record → Record
dropped r = record r { pending = None }

-- criteria are pending, and the reserve is remembered
abbrev pub attempted : ℕ → Criteria → Record → Record
attempted correlation criteria r = record r { pending = Some criteria; attempt = Some correlation }

-- the request in the work is answered, which counts as an outcome
abbrev pub answered : Kind → Rsm → ℕ → Record → Record
answered kind next now r = record r { rsm = next; reserve_request = None; results = counted kind (id_or r.reserve_request) now r.results }

abbrev pub answers : Body → Record → Record → Moved
answers body old new = record { rec = new; out = reply (id_or old.reserve_request) body ∷ [] }

abbrev pub checks : ℕ → Criteria → Rsm → Record → Moved
checks c criteria next r = record { rec = attempted c criteria (asked c next r); out = reply c (Body.ReserveResponse r.id) ∷ [] }

-- the criteria are held until the deadline
abbrev pub fits : Option Criteria → Option ℕ → Rsm → ℕ → Record → Moved
fits None deadline next now r = stays r
fits (Some criteria) deadline next now r =
    answers (Body.ReserveConfirmed (confirmation r.id r.service criteria)) r (record (answered Kind.ReserveConfirmed next now r) { deadline = deadline })

abbrev pub fails : Exception → Rsm → ℕ → Record → Moved
fails exception next now r = answers (Body.ReserveFailed r.id exception) r (dropped (answered Kind.ReserveFailed next now r))

-- the end of a hold is counted as a notice
abbrev pub notified : ℕ → Record → Record
notified now r = record r { notices = noted Kind.ReserveTimeout (id_or r.attempt) now r.notices }

-- what was held isn't any more
abbrev pub lapsed : Rsm → Record → Record
lapsed next r = record (dropped r) { rsm = next }

-- what the owner is told when the hold ends
abbrev pub timeout_reply : Origin → ℕ → Record → Reply
timeout_reply origin now r =
    reply (id_or r.attempt)
    (Body.ReserveTimeout
    (record {
      connection = r.id;
      notification = length r.notices + 1;
      originating_connection = origin.connection;
      originating_nsa = origin.nsa;
      time = now;
      value = origin.value;
    }))

-- the hold ends, of which the owner is notified
abbrev pub times_out : Origin → Rsm → ℕ → Record → Moved
times_out origin next now r = record { rec = lapsed next (notified now r); out = timeout_reply origin now r ∷ [] }

-- the pending criteria join the committed
abbrev pub committed_with : List Criteria → Option Criteria → List Criteria
committed_with committed pending = committed ++ option_to_list pending

abbrev pub commits : Rsm → ℕ → Record → Moved
commits next now r =
    answers (Body.ReserveCommitConfirmed r.id) r
    (record (dropped (answered Kind.ReserveCommitConfirmed next now r)) { committed = committed_with r.committed r.pending })

abbrev pub spoils : Exception → Bool → Rsm → ℕ → Record → Moved
spoils exception mixed next now r =
    answers (Body.ReserveCommitFailed r.id exception) r
    (record (dropped (answered Kind.ReserveCommitFailed next now r)) { mixed = r.mixed || mixed })

abbrev pub frees : Rsm → ℕ → Record → Moved
frees next now r = answers (Body.ReserveAbortConfirmed r.id) r (answered Kind.ReserveAbortConfirmed next now r)

abbrev pub silently : Record → Moved
silently r = record { rec = r; out = [] }

-- what a move does to a record, whose machine then has the next state: a request is kept until it is answered; pending criteria are there in ReserveChecking, ReserveHeld and ReserveCommitting
abbrev pub reservation_does : Rsm → ReservationMove → ℕ → Record → Moved
reservation_does next (ReservationMove.Reserve c criteria) now r = checks c criteria next r
reservation_does next (ReservationMove.Fit deadline) now r = fits r.pending deadline next now r
reservation_does next (ReservationMove.Lack exception) now r = fails exception next now r
reservation_does next (ReservationMove.Commit c) now r = silently (asked c next r)
reservation_does next (ReservationMove.Abort c) now r = silently (dropped (asked c next r))
reservation_does next (ReservationMove.HoldEnd origin) now r = times_out origin next now r
reservation_does next ReservationMove.Done now r = commits next now r
reservation_does next (ReservationMove.Spoiled exception mixed) now r = spoils exception mixed next now r
reservation_does next ReservationMove.Freed now r = frees next now r

-- the table's row for a state and a move, done to a record
unfoldable pub reserves : Rsm → ReservationMove → ℕ → Record → Moved
reserves state move now r = by_row (reserve_step state (event_of move)) (λ next said. reservation_does next move now r) r

abbrev pub reserves_if : Option ReservationMove → ℕ → Record → Moved
reserves_if None now r = stays r
reserves_if (Some move) now r = reserves r.rsm move now r

---- Requests

-- a version that isn't given is the one after the last committed, and 0 where nothing is committed
abbrev pub version_after : Option Criteria → ℕ
version_after None = 0
version_after (Some c) = c.version + 1

abbrev pub asked_version : Option ℕ → Option Criteria → Option ℕ
asked_version (Some given) last = Some given
asked_version None last = within 0 2147483647 (version_after last)

abbrev pub criteria_with : Option Span → Option ℕ → ℕ → Option Criteria
criteria_with None version mbps = None
criteria_with (Some span) None mbps = None
criteria_with (Some span) (Some version) mbps = Some (record { version = version; interval = span; capacity = mbps })

-- what a reserve that is taken at a second asks, where its schedule and its version have a form
abbrev pub asked_criteria : (now : ℕ) → ReserveRequest → List Criteria → Option Criteria
asked_criteria now q committed = criteria_with (span_of (start_at now q) q.end) (asked_version q.version (last committed)) q.capacity

---- Time

abbrev pub is_due : Option ℕ → ℕ → Bool
is_due None now = false
is_due (Some t) now = nat_le t now

abbrev pub is_held : Rsm → Bool
is_held Rsm.ReserveHeld = true
is_held _ = false

-- a hold that ends by now
unfoldable pub hold_end : Rsm → Option ℕ → ℕ → Origin → Option ReservationMove
hold_end Rsm.ReserveHeld deadline now origin = if is_due deadline now then Some (ReservationMove.HoldEnd origin) else None
hold_end _ deadline now origin = None

-- a connection that isn't ended, nor about to be
unfoldable pub is_live : Lsm → Bool
is_live Lsm.Terminating = false
is_live Lsm.Terminated = false
is_live _ = true

-- whether a hold is over by now
abbrev pub is_over : ℕ → Record → Bool
is_over now r = is_live r.lsm && (is_held r.rsm && is_due r.deadline now)

---- Waiting work

-- whether the reservation machine has work to do
unfoldable pub is_working : Rsm → Bool
is_working Rsm.ReserveChecking = true
is_working Rsm.ReserveCommitting = true
is_working Rsm.ReserveAborting = true
is_working _ = false

-- a lack is told by the agent; what lacks nothing is held until the deadline
abbrev pub fit_or_lack : Option Cause → List ℕ → ℕ → ReservationMove
fit_or_lack None agent deadline = ReservationMove.Fit (Some deadline)
fit_or_lack (Some cause) agent deadline = ReservationMove.Lack (record { nsa = agent; cause = cause })

-- the move that a provider's work on the reservation machine makes: what was asked fits or lacks, a commit and an abort are carried out
unfoldable pub worked : Rsm → Option Cause → List ℕ → ℕ → Option ReservationMove
worked Rsm.ReserveChecking lack agent deadline = Some (fit_or_lack lack agent deadline)
worked Rsm.ReserveCommitting lack agent deadline = Some ReservationMove.Done
worked Rsm.ReserveAborting lack agent deadline = Some ReservationMove.Freed
worked _ lack agent deadline = None

---- A new record

-- traffic goes both ways where nothing else is said
abbrev pub direction_or : Option Directionality → Directionality
direction_or given = unwrap_or given Directionality.Bidirectional

abbrev pub service_of : ReserveRequest → List ℕ → List ℕ → Service
service_of q source dest =
    record { source = source; dest = dest; directionality = direction_or q.directionality; symmetric = q.symmetric; global = q.global; description = q.description }

-- a record as it is made
abbrev pub fresh : ℕ → List ℕ → Service → ℕ → ℕ → Record
fresh id owner service source dest =
    record {
      id = id;
      owner = owner;
      service = service;
      source = source;
      dest = dest;
      committed = [];
      pending = None;
      attempt = None;
      rsm = Rsm.ReserveStart;
      psm = Psm.Released;
      lsm = Lsm.Created;
      mixed = false;
      reserve_request = None;
      provision_request = None;
      lifecycle_request = None;
      deadline = None;
      notices = [];
      results = [];
    }
