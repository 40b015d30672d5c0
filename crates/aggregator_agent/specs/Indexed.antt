-- How connections are found: by the ids under which they are spoken of, and by the ends of their schedules. What is named besides means nothing.
use Rattle.std.specs.Prelude.{◌≡◌, ◌<◌, ◌⊎◌, ℕ, Bool, true, false, List, length, map, Option, Some, None, IfSome}
use Rattle.std.specs.List.{All, Contains}
use Rattle.nsi_primitive.specs.Messages.{named_connection}
use Rattle.nsi_primitive.specs.declared.message.Message.{Message}
use Rattle.connection_record.specs.Applied.{end_of}
use Rattle.connection_record.specs.Demand.{last}
use Rattle.connection_record.specs.declared.record.Record.{Record}
use Rattle.nsi_primitive.specs.declared.state.Lsm.{Lsm}
use Rattle.child_connection.specs.Views.{ChildConnection}
use Rattle.id_index.specs.declared.IdPlace.{IdPlace}
use Rattle.record_index.specs.Due.{IsDueIn}
use Rattle.agent_state.specs.declared.parent.Due.{Due}
use Rattle.record_index.specs.declared.deadlines.Deadline.{Deadline}
use Rattle.aggregator_agent.specs.declared.connection_index.ConnectionIndex.{ConnectionIndex}
use Rattle.aggregator_agent.specs.Bonds.{Bond, bond_at}

abbrev pub id_at : ℕ → ℕ → IdPlace
id_at id place = record { id = id; place = place }

abbrev pub end_at : ℕ → ℕ → Deadline
end_at second place = record { second = second; place = place }

-- what is named stays named
abbrev pub StaysIn : {X : Type 0} → List X → List X → Type 0
StaysIn {X} xs ys = (x : X) → Contains xs x → Contains ys x

pub record Grows (old new : ConnectionIndex) : Type 0 where
  pub ids : StaysIn old.ids new.ids
  pub ends : StaysIn old.ends new.ends

---- A connection

-- a view is named by each id under which it may hear something
pub record IsViewNamed (ids : List IdPlace) (place : ℕ) (x : ChildConnection) : Type 0 where
  pub connection : IfSome x.connection (λ id. Contains ids (id_at id place))
  pub attempt : IfSome x.attempt (λ c. Contains ids (id_at c place))
  pub reserve : IfSome x.reserve_request (λ q. Contains ids (id_at q.correlation place))
  pub provision : IfSome x.provision_request (λ q. Contains ids (id_at q.correlation place))
  pub lifecycle : IfSome x.lifecycle_request (λ q. Contains ids (id_at q.correlation place))

-- whether a connection ends with its schedule
unfoldable pub is_created : Lsm → Bool
is_created Lsm.Created = true
is_created _ = false

unfoldable pub end_while : Bool → Option ℕ → Option ℕ
end_while true end = end
end_while false end = None

abbrev pub record_end : Record → Option ℕ
record_end r = end_while (is_created r.lsm) (end_of (last r.committed))

-- when a connection ends with its schedule
abbrev pub schedule_end_of : Bond → Option ℕ
schedule_end_of b = record_end b.own

abbrev pub IsEndNamed : List Deadline → ℕ → Option ℕ → Type 0
IsEndNamed ends place end = IfSome end (λ e. Contains ends (end_at e place))

-- the end is named, where it isn't the one that was there before
abbrev pub IsEndNamedBut : Option ℕ → List Deadline → ℕ → Option ℕ → Type 0
IsEndNamedBut before ends place end = IfSome end (λ e. (before ≡ Some e) ⊎ Contains ends (end_at e place))

-- it is named by its own id and by those of its views
pub record IsNamed (ids : List IdPlace) (place : ℕ) (b : Bond) : Type 0 where
  pub own : Contains ids (id_at b.own.id place)
  pub views : All (IsViewNamed ids place) b.children

pub record IsFound (index : ConnectionIndex) (place : ℕ) (b : Bond) : Type 0 where
  pub named : IsNamed index.ids place b
  pub end : IsEndNamed index.ends place (schedule_end_of b)

-- it is named anew behind a turn
pub record IsNamedAgain (index : ConnectionIndex) (place : ℕ) (before after : Bond) : Type 0 where
  pub named : IsNamed index.ids place after
  pub end : IsEndNamedBut (schedule_end_of before) index.ends place (schedule_end_of after)

---- All connections

-- so it is at its place among others
abbrev pub IsNamedAgainAt : ConnectionIndex → ℕ → (before after : List Bond) → Type 0
IsNamedAgainAt index place before after = IsNamedAgain index place (bond_at place before) (bond_at place after)

abbrev pub AreFound : ConnectionIndex → List Bond → Type 0
AreFound index bs = (n : ℕ) → n < length bs → IsFound index n (bond_at n bs)

---- A message

-- a place is named by the connection that a message is about
pub record IsAbout (ids : List IdPlace) (m : Message) (place : ℕ) : Type 0 where
  pub id : ℕ
  pub is_about : named_connection m.body ≡ Some id
  pub is_named : Contains ids (id_at id place)

-- or by its correlation
abbrev pub MayHear : List IdPlace → Message → ℕ → Type 0
MayHear ids m place = Contains ids (id_at m.header.correlation place) ⊎ IsAbout ids m place

---- A tick

unfoldable pub numbers_of : List Due → List ℕ
numbers_of late = map (λ d. d.number) late

-- the end of its schedule has come, or one of its requests is late
abbrev pub MayChange : List Deadline → ℕ → List Due → ℕ → Type 0
MayChange ends now late place = IsDueIn ends now place ⊎ Contains (numbers_of late) place
