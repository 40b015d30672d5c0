-- What a requester's views have as committed, but for the one that awaits a confirmation, stays when it is got.
use Rattle.std.proofs.Common.{ℕ, ◌≡◌, ◌∙◌, ◌⊎◌, inl, inr, ◌&&◌, ◌==◌, Bool, true, false, List, Option, Some, None, bytes_eq, refl, sym, ap, subst}
use Rattle.nsi_primitive.specs.declared.entry.Input.{Input}
use Rattle.nsi_primitive.specs.declared.kind.Kind.{Kind}
use Rattle.nsi_primitive.specs.declared.message.Message.{Message}
use Rattle.child_connection.specs.Views.{ChildConnection, is_kind, is_open, is_open_of}
use Rattle.child_connection.specs.declared.state.Sent.{Sent}
use Rattle.child_connection.specs.Hearing.{hear, hear_from, hears}
use Rattle.child_connection.specs.Holding.{Commits, IsHeeded}
use Rattle.child_connection.proofs.Learning.{messages_commit}
use Rattle.child_connection.proofs.Places.{asks_known}
use Rattle.circuit_link.specs.Children.{Child}
use Rattle.circuit_pairs.specs.Laws.{CanTellApart}
use Rattle.circuit_pairs.specs.Minding.{Minds}
use Rattle.circuit_pairs.specs.Pairs.{IsPair}

opened : (o : Option Sent) (k : Kind) (c : ℕ) → is_open_of o k c ≡ true → is_open o c ≡ true
unfolding is_kind
opened None k c e = absurd (cc)
opened (Some q) k c e = first (c == q.correlation) (is_kind k q.kind) e
  where
    first : (a b : Bool) → (a && b) ≡ true → a ≡ true
    first true b h = refl
    first false b h = absurd (cc)

module _ (I : Type 0) (dec : CanTellApart I) (parent child : List ℕ) (asked : List Message) (d : Child) (xs : I → ChildConnection) (pair : IsPair I parent child xs asked d) (m : Message) (i : I) (waits : IsHeeded (xs i) m.header.correlation) (j : I) (apart : j ≡ i → ⊥) where
  heard_stays : (hear m (xs j)).view.committed ≡ (xs j).committed
  heard_stays = by_sender (bytes_eq m.header.provider (xs j).child)
    where
      by : Commits m.body m.header.correlation (xs j) (hears m.body m.header.correlation (xs j)).view → (hears m.body m.header.correlation (xs j)).view.committed ≡ (xs j).committed
      by (inl same) = same
      by (inr w) = absurd (apart (pair.alone j i m.header.correlation (inr (opened (xs j).reserve_request Kind.ReserveCommit m.header.correlation w.2)) waits))

      by_sender : (t : Bool) → (hear_from t m (xs j)).view.committed ≡ (xs j).committed
      by_sender true = by (messages_commit m.body m.header.correlation (xs j))
      by_sender false = refl

  pub committed_stays : (c : ℕ) (input : Input) (ys : I → ChildConnection) (out : List Message) → input ≡ Input.Got m → Minds I parent child c input xs ys out → (ys j).committed ≡ (xs j).committed
  committed_stays c input ys out got (Minds.rests alike none) = (alike j).reservation.committed
  committed_stays c input ys out got (Minds.asked l k n is of_kind kind head named free alike there) = by (dec j l)
    where
      by : (j ≡ l) ⊎ (j ≡ l → ⊥) → (ys j).committed ≡ (xs j).committed
      by (inl e) = subst (λ (z : I). (ys z).committed ≡ (xs z).committed) (sym e) (alike.reservation.committed ∙ (asks_known k c (xs l)).1)
      by (inr f) = ap (λ (x : ChildConnection). x.committed) (there j f)
  committed_stays c input ys out got (Minds.heard n its none alike) =
      (alike j).reservation.committed ∙ (ap (λ (z : Message). (hear z (xs j)).view.committed) (same n m (sym its ∙ got)) ∙ heard_stays)
    where
      same : (a b : Message) → Input.Got a ≡ Input.Got b → a ≡ b
      same a b e = cc
