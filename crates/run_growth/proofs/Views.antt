-- What is asked and what is heard makes a later form of a view.
use Rattle.std.proofs.Common.{ℕ, ◌≡◌, ◌≤◌, ◌∙◌, Bool, true, false, List, [], ◌∷◌, Option, Some, None, inl, inr, refl, sym, ap, arith, length, take, bytes_eq}
use Rattle.std.proofs.Math.Seq.{take-append_seam, take-length}
use Rattle.std.proofs.lemmas.List.{take-take, length-take}
use Rattle.nsi_primitive.specs.declared.kind.Kind.{Kind}
use Rattle.nsi_primitive.specs.declared.message.Message.{Message}
use Rattle.child_connection.specs.Asks.{asks}
use Rattle.child_connection.specs.Hearing.{hears, hear, hear_from, push_version}
use Rattle.child_connection.specs.Holding.{Commits}
use Rattle.child_connection.specs.Views.{ChildConnection}
use Rattle.child_connection.proofs.Places.{asks_place, hear_place, asks_known}
use Rattle.child_connection.proofs.Learning.{messages_commit}
use Rattle.run_growth.specs.Growth.{Stay, IsLaterView}
use Rattle.run_growth.proofs.Staying.{stay_same, stay_then}

-- a front of a front
front_of_front : {X : Type 0} (a b c : List X) → take (length a) b ≡ a → take (length b) c ≡ b → take (length a) c ≡ a
front_of_front a b c p q =
    let short : length a ≤ length b = omega (arith, length-take (length a) b, ap (λ xs. length xs) p) in
    sym (take-take (length a) (length b) c short) ∙ (ap (take (length a)) q ∙ p)

pub view_same : (x : ChildConnection) → IsLaterView x x
view_same x = record { place = record { child = refl; source = refl; dest = refl }; committed = take-length x.committed }

pub view_then : (x y z : ChildConnection) → IsLaterView x y → IsLaterView y z → IsLaterView x z
view_then x y z p q =
    record {
      place = record { child = q.place.child ∙ p.place.child; source = q.place.source ∙ p.place.source; dest = q.place.dest ∙ p.place.dest };
      committed = front_of_front x.committed y.committed z.committed p.committed q.committed;
    }

same_front : {X : Type 0} (xs ys : List X) → ys ≡ xs → take (length xs) ys ≡ xs
same_front xs ys e = ap (take (length xs)) e ∙ take-length xs

pub view_asked : (k : Kind) (c : ℕ) (x : ChildConnection) → IsLaterView x (asks k c x)
view_asked k c x = record { place = asks_place k c x; committed = same_front x.committed (asks k c x).committed (asks_known k c x).1 }

pushed_front : (vs : List ℕ) (o : Option ℕ) → take (length vs) (push_version vs o) ≡ vs
pushed_front vs None = take-length vs
pushed_front vs (Some v) = take-append_seam vs (v ∷ [])

pub view_heard : (m : Message) (x : ChildConnection) → IsLaterView x (hear m x).view
view_heard m x = record { place = hear_place m x; committed = by_sender (bytes_eq m.header.provider x.child) }
  where
    by_commit : (y : ChildConnection) → Commits m.body m.header.correlation x y → take (length x.committed) y.committed ≡ x.committed
    by_commit y (inl e) = same_front x.committed y.committed e
    by_commit y (inr (id, is, o, e)) = ap (take (length x.committed)) e ∙ pushed_front x.committed x.pending

    by_sender : (b : Bool) → take (length x.committed) (hear_from b m x).view.committed ≡ x.committed
    by_sender true = by_commit (hears m.body m.header.correlation x).view (messages_commit m.body m.header.correlation x)
    by_sender false = take-length x.committed

---- Views of the children of a record

abbrev pub ViewsStay : List ChildConnection → List ChildConnection → Type 0
ViewsStay xs ys = Stay IsLaterView xs ys

pub views_same : (xs : List ChildConnection) → ViewsStay xs xs
views_same xs = stay_same IsLaterView view_same xs

pub views_then : (xs ys zs : List ChildConnection) → ViewsStay xs ys → ViewsStay ys zs → ViewsStay xs zs
views_then xs ys zs p q = stay_then IsLaterView view_then xs ys zs p q
