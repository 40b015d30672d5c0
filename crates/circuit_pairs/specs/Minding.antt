-- What an entry of a parent does, as its views of one child are concerned.
use Rattle.std.specs.Prelude.{ℕ, ◌≡◌, Bool, true, false, List, [], ◌∷◌, get_or, Contains, None}
use Rattle.std.specs.Str.{bytes_eq}
use Rattle.nsi_primitive.specs.Messages.{kind_of, connection_of}
use Rattle.nsi_primitive.specs.declared.entry.Input.{Input}
use Rattle.nsi_primitive.specs.declared.kind.Kind.{Kind}
use Rattle.nsi_primitive.specs.declared.message.Message.{Message}
use Rattle.child_connection.specs.Views.{ChildConnection, new_view}
use Rattle.child_connection.specs.Asks.{asks}
use Rattle.child_connection.specs.Hearing.{hear}
use Rattle.child_connection.specs.Holding.{is_reservation, IsAlike}
use Rattle.agent_state.specs.declared.parent.View.{View}
use Rattle.circuit_link.specs.Headers.{header_of}

-- no request of the reservation machine goes to the child
abbrev pub ReservesNothing : List ℕ → List Message → Type 0
ReservesNothing child out = (m : Message) → Contains out m → is_reservation (kind_of m.body) ≡ true → m.header.provider ≡ child → ⊥

-- an entry: all views rest; or one of them asks, under that correlation; or all of them hear a message
pub data Minds (I : Type 0) (parent child : List ℕ) (c : ℕ) (input : Input) (xs ys : I → ChildConnection) (out : List Message) : Type 0 where
  rests : ((i : I) → IsAlike (xs i) (ys i)) → ReservesNothing child out → Minds I parent child c input xs ys out
  asked : (i : I) (k : Kind) (m : Message) → out ≡ m ∷ [] → is_reservation k ≡ true → kind_of m.body ≡ k → m.header ≡ header_of parent child c → connection_of m.body ≡ (xs i).connection →
      (xs i).reserve_request ≡ None → IsAlike (asks k c (xs i)) (ys i) → ((j : I) → (j ≡ i → ⊥) → ys j ≡ xs j) → Minds I parent child c input xs ys out
  heard : (m : Message) → input ≡ Input.Got m → out ≡ [] → ((i : I) → IsAlike (hear m (xs i)).view (ys i)) → Minds I parent child c input xs ys out

---- A requester's views, by their places

-- where there is none, one that was asked nothing
abbrev pub no_view_of : List ℕ → View
no_view_of provider = record { label = []; child = new_view provider [] [] }

abbrev pub view_in : List ℕ → List View → ℕ → ChildConnection
view_in provider vs i = (get_or vs i (no_view_of provider)).child

---- An aggregator's views of one child, by connection and place

abbrev pub no_child : List ℕ → ChildConnection
no_child child = new_view child [] []

-- a view of another child counts as one that was asked nothing
unfoldable pub mine_if : Bool → List ℕ → ChildConnection → ChildConnection
mine_if true child x = x
mine_if false child x = no_child child

abbrev pub mine : List ℕ → ChildConnection → ChildConnection
mine child x = mine_if (bytes_eq child x.child) child x

abbrev pub slot : List ℕ → List (List ChildConnection) → ℕ × ℕ → ChildConnection
slot child css i = mine child (get_or (get_or css i.0 []) i.1 (no_child child))
