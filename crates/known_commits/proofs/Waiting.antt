-- Views that wait for the confirmation of a commit, and what of their child is awaited.
use Rattle.std.proofs.Common.{ℕ, ◌≡◌, ◌≤◌, ◌∙◌, ◌⊎◌, true, List, Contains, Some, refl, ap}
use Rattle.nsi_primitive.specs.Messages.{identity, kind_of}
use Rattle.nsi_primitive.specs.declared.kind.Kind.{Kind}
use Rattle.nsi_primitive.specs.declared.message.Body.{Body}
use Rattle.nsi_primitive.specs.declared.message.Header.{Header}
use Rattle.nsi_primitive.specs.declared.message.Identity.{Identity}
use Rattle.nsi_primitive.specs.declared.message.Message.{Message}
use Rattle.message_retry.specs.Retry.{is_heard}
use Rattle.connection_record.specs.declared.record.Record.{Record}
use Rattle.connection_record.specs.Speaking.{owed}
use Rattle.child_connection.specs.Views.{ChildConnection, sent}
use Rattle.child_connection.specs.Holding.{IsSameReservation}
use Rattle.agent_state.specs.State.{record_at}
use Rattle.circuit_link.specs.Children.{Child, about}
use Rattle.circuit_link.specs.Headers.{header_of}
use Rattle.known_commits.proofs.Owing.{confirming}

-- the view's commit under a correlation isn't answered, and it holds a version
pub record IsWaiting (c version : ℕ) (x : ChildConnection) : Type 0 where
  pub asked : x.reserve_request ≡ Some (sent c Kind.ReserveCommit)
  pub pending : x.pending ≡ Some version

pub waiting_same : (c version : ℕ) (x y : ChildConnection) → IsSameReservation x y → IsWaiting c version x → IsWaiting c version y
waiting_same c version x y s w = record { asked = s.request ∙ w.asked; pending = s.pending ∙ w.pending }

-- so does one of the views
pub record IsWaited (I : Type 0) (xs : I → ChildConnection) (c : ℕ) : Type 0 where
  pub view : I
  pub version : ℕ
  pub waits : IsWaiting c version (xs view)

-- the identity of a confirmation
abbrev pub confirmation_of : (parent child : List ℕ) → ℕ → Identity
confirmation_of parent child c = record { requester = parent; provider = child; correlation = c; kind = Kind.ReserveCommitConfirmed }

pub confirmation_is : (parent child : List ℕ) (m : Message) (c id : ℕ) → m.header ≡ header_of parent child c → m.body ≡ Body.ReserveCommitConfirmed id → identity m ≡ confirmation_of parent child c
confirmation_is parent child m c id header body =
    made m.header.requester parent m.header.provider child m.header.correlation c (kind_of m.body) Kind.ReserveCommitConfirmed (ap (λ (h : Header). h.requester) header)
    (ap (λ (h : Header). h.provider) header) (ap (λ (h : Header). h.correlation) header) (ap kind_of body)
  where
    made : (r s p q : List ℕ) (a b : ℕ) (k l : Kind) → r ≡ s → p ≡ q → a ≡ b → k ≡ l →
        (let i : Identity = record { requester = r; provider = p; correlation = a; kind = k } in i) ≡ record { requester = s; provider = q; correlation = b; kind = l }
    made r s p q a b k l e f g h = rw (e, f, g, h) refl

-- each confirmation that a record of the parent owes
abbrev pub OwedIsWaited : (I : Type 0) → List ℕ → (I → ChildConnection) → List Record → Type 0
OwedIsWaited I parent xs rs = (n c : ℕ) → (record_at n rs).owner ≡ parent → 1 ≤ owed c confirming (record_at n rs) → IsWaited I xs c

-- A view waits for each confirmation that a record of the child owes the parent; and for each that the child has said, unless the parent has heard it.
pub record AreWaited (I : Type 0) (parent child : List ℕ) (heard : List Identity) (xs : I → ChildConnection) (d : Child) : Type 0 where
  pub owing : OwedIsWaited I parent xs d.records
  pub said : (c id : ℕ) → Contains (about (header_of parent child c) d.said) (Body.ReserveCommitConfirmed id) → (is_heard (confirmation_of parent child c) heard ≡ true) ⊎ IsWaited I xs c
