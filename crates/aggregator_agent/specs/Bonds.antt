-- Connections as plain values, and what an entry makes of each of them.
use Rattle.std.specs.Prelude.{◌≡◌, ℕ, ◌+◌, Bool, ◌==◌, ◌&&◌, bytes_eq, List, [], ◌∷◌, ◌++◌, map, get_or, slice_set, Result, OnOk}
use Rattle.std.specs.declared.alloc.AllocError.{AllocError}
use Rattle.nsi_primitive.specs.declared.message.Message.{Message}
use Rattle.connection_record.specs.declared.record.Record.{Record}
use Rattle.connection_record.specs.Replies.{addressed}
use Rattle.connection_record.specs.Moves.{is_live}
use Rattle.child_connection.specs.Views.{ChildConnection}
use Rattle.agent_state.specs.declared.parent.Due.{Due}
use Rattle.agent_state.specs.declared.parent.Leg.{Leg}
use Rattle.agent_state.specs.State.{no_record}
use Rattle.aggregator_agent.specs.declared.agent.Agent.{Agent}
use Rattle.aggregator_agent.specs.declared.connection.Connection.{Connection}
use Rattle.aggregator_agent.specs.declared.said.Said.{Said}
use Rattle.aggregator_agent.specs.Asking.{Turn, with_path}
use Rattle.nsi_query.specs.Summary.{Shown}
use Rattle.aggregator_agent.specs.Turns.{joined_of, request_turn, answer_turn, spoken}
use Rattle.aggregator_agent.specs.Clock.{Told, due_for, tell_one, tells_more, ends}

-- its own record, and the views of its children
pub record Bond : Type 0 where
  pub own : Record
  pub children : List ChildConnection

abbrev pub bond : Connection → Bond
bond c = record { own = c.own; children = c.children.items }

abbrev pub bonds : List Connection → List Bond
bonds xs = map bond xs

abbrev pub own_of : Bond → Record
own_of b = b.own

abbrev pub views_in : Bond → List ChildConnection
views_in b = b.children

abbrev pub records_of : List Bond → List Record
records_of bs = map own_of bs

abbrev pub children_of : List Bond → List (List ChildConnection)
children_of bs = map views_in bs

-- with the status over its children
abbrev pub shown_of : Bond → Shown
shown_of b = (b.own, joined_of b.children)

-- a connection with an id, of an owner
abbrev pub is_owned : ℕ → List ℕ → Connection → Bool
is_owned id owner c = (id == c.own.id) && bytes_eq owner c.own.owner

-- a connection of nothing
abbrev pub no_bond : Bond
no_bond = record { own = no_record; children = [] }

abbrev pub bond_at : ℕ → List Bond → Bond
bond_at n bs = get_or bs n no_bond

---- One connection in the course of an entry

-- a connection after it, its messages, its requests to children, and the number of the next id
pub record Done : Type 0 where
  pub bond : Bond
  pub out : List Message
  pub dues : List Due
  pub next : ℕ

-- a turn that is done
abbrev pub turn_done : Agent → (now number : ℕ) → Turn → Done
turn_done agent now number t =
    record {
      bond = record { own = t.own; children = t.children };
      out = spoken agent t;
      dues = due_for number now t.asked;
      next = t.next;
    }

-- a message of a child
abbrev pub answered : Agent → ℕ → Message → (number next : ℕ) → Bond → Done
answered agent now m number next b = turn_done agent now number (answer_turn agent now m b.own b.children next)

-- a request of its owner
abbrev pub requested_bond : Agent → ℕ → Message → (number next : ℕ) → Bond → Done
requested_bond agent now m number next b = turn_done agent now number (request_turn agent now m b.own b.children next)

-- a reserve looks for children where there are none
abbrev pub with_children : (ℕ → ℕ → List Leg) → Message → Bond → Bond
with_children route m b = record b { children = with_path m.body b.children (route b.own.source b.own.dest) }

-- what is said so far, once a connection is done
pub record IsDone {X : Type 0} (old new : Said) (b : Bond) (result : Result X AllocError) (one : Done) : Type 0 where
  pub bond : OnOk result (b ≡ one.bond)
  pub out : OnOk result (new.out.items ≡ old.out.items ++ one.out)
  pub dues : OnOk result (new.dues.items ≡ old.dues.items ++ one.dues)
  pub next : OnOk result (new.next ≡ one.next)

-- the same of the connection at a place among others
pub record IsDoneAt {X : Type 0} (old new : Said) (place : ℕ) (bs cs : List Bond) (result : Result X AllocError) (one : Done) : Type 0 where
  pub bonds : OnOk result (cs ≡ slice_set bs place one.bond)
  pub out : OnOk result (new.out.items ≡ old.out.items ++ one.out)
  pub dues : OnOk result (new.dues.items ≡ old.dues.items ++ one.dues)
  pub next : OnOk result (new.next ≡ one.next)

---- All connections in the course of an entry

pub record AllDone : Type 0 where
  pub bonds : List Bond
  pub out : List Message
  pub dues : List Due
  pub next : ℕ

abbrev pub none_done : ℕ → AllDone
none_done next = record { bonds = []; out = []; dues = []; next = next }

abbrev pub done_before : Done → AllDone → AllDone
done_before x rest = record { bonds = x.bond ∷ rest.bonds; out = x.out ++ rest.out; dues = x.dues ++ rest.dues; next = rest.next }

-- each in order, by its number, the next with the number that the one before it leaves
unfoldable pub each_bond : ((number next : ℕ) → Bond → Done) → (number next : ℕ) → List Bond → AllDone
each_bond does number next [] = none_done next
each_bond does number next (b ∷ bs) = done_before (does number next b) (each_bond does (number + 1) (does number next b).next bs)

abbrev pub done_by : Said → List Bond → AllDone
done_by said bs = record { bonds = bs; out = said.out.items; dues = said.dues.items; next = said.next }

---- A tick

-- the late requests of a record, among requests all of which are late
unfoldable pub tell_those : List Due → Agent → (now number : ℕ) → Record → ℕ → Told
tell_those [] agent now number own next = record { own = own; out = []; next = next }
tell_those (d ∷ ds) agent now number own next =
    tell_one (d.number == number) agent now next own d (λ r n. tell_those ds agent now number r n)

-- a record's tick, and its late requests behind it
unfoldable pub clocked_by : Agent → ℕ → List Due → (number next : ℕ) → Record → Told
clocked_by agent now late number next own =
    tells_more (ends (is_live own.lsm) now own) (tell_those late agent now number (ends (is_live own.lsm) now own).rec next)

abbrev pub tick_done : Agent → Bond → Told → Done
tick_done agent b x =
    record {
      bond = record b { own = x.own };
      out = addressed agent.name x.own.owner x.out;
      dues = [];
      next = x.next;
    }

-- a tick at a connection
abbrev pub clocked_bond : Agent → ℕ → List Due → (number next : ℕ) → Bond → Done
clocked_bond agent now late number next b = tick_done agent b (clocked_by agent now late number next b.own)
