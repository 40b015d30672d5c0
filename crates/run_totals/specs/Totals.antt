-- How many events a run has, and which answers its requesters got.
use Rattle.std.specs.Prelude.{ℕ, ◌≤◌, ◌<◌, ◌+◌, Bool, true, false, List, length, count_by, if◌then◌else◌, Option, Some, None}
use Rattle.nsi_primitive.specs.Messages.{kind_of as kind_of_body}
use Rattle.nsi_primitive.specs.declared.entry.Event.{Event}
use Rattle.nsi_primitive.specs.declared.entry.Happening.{Happening}
use Rattle.nsi_primitive.specs.declared.entry.Input.{Input}
use Rattle.nsi_primitive.specs.declared.kind.Kind.{Kind}
use Rattle.stp_topology.specs.Network.{kind_of}
use Rattle.stp_topology.specs.declared.network.AgentKind.{AgentKind}
use Rattle.stp_topology.specs.declared.network.Network.{Network}
use Rattle.run_totals.specs.declared.totals.Totals.{Totals}

-- the kind of the message that was got
abbrev pub kind_in : Input → Option Kind
kind_in (Input.Got message) = Some (kind_of_body message.body)
kind_in input = None

abbrev pub kind_taken : Happening → Option Kind
kind_taken (Happening.Entry entry answer) = kind_in entry.input
kind_taken what = None

abbrev pub is_requester : Option AgentKind → Bool
is_requester (Some (AgentKind.Requester provider)) = true
is_requester kind = false

-- the kind of the message that a requester got
abbrev pub kind_got : Network → Event → Option Kind
kind_got t e = if is_requester (kind_of t e.agent) then kind_taken e.what else None

abbrev pub is_confirmed : Option Kind → Bool
is_confirmed (Some Kind.ReserveConfirmed) = true
is_confirmed kind = false

abbrev pub is_committed : Option Kind → Bool
is_committed (Some Kind.ReserveCommitConfirmed) = true
is_committed kind = false

abbrev pub is_failed : Option Kind → Bool
is_failed (Some Kind.ReserveFailed) = true
is_failed kind = false

-- how many events there are, and in how many of them a requester got each of three answers to a reservation
abbrev pub totals_of : Network → List Event → Totals
totals_of t events = record {
  events = length events;
  confirmed = count_by (λ e. is_confirmed (kind_got t e)) events;
  committed = count_by (λ e. is_committed (kind_got t e)) events;
  failed = count_by (λ e. is_failed (kind_got t e)) events;
}

-- the agent is one of the topology
abbrev pub IsOf : Network → Event → Type 0
IsOf t e = e.agent < length t.agents

abbrev pub one_if : Bool → ℕ
one_if true = 1
one_if false = 0

-- one event, in which a requester got a message of that kind
abbrev pub one_of : Option Kind → Totals
one_of kind = record { events = 1; confirmed = one_if (is_confirmed kind); committed = one_if (is_committed kind); failed = one_if (is_failed kind) }

abbrev pub plus : Totals → Totals → Totals
plus m n = record { events = m.events + n.events; confirmed = m.confirmed + n.confirmed; committed = m.committed + n.committed; failed = m.failed + n.failed }

-- no number is greater than that of the events
pub record AreWithin (n : Totals) : Type 0 where
  pub confirmed : n.confirmed ≤ n.events
  pub committed : n.committed ≤ n.events
  pub failed : n.failed ≤ n.events
