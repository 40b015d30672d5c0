-- Entries by their bytes, and lists by their first items.
use Rattle.std.proofs.Common.{◌≡◌, ◌≢◌, ◌<◌, ℕ, zero, suc, ◌+◌, List, [], ◌∷◌, ◌++◌, length, take, Bool, true, false, Option, Some, None, refl, sym, ap, ◌∙◌, subst, arith}
use Rattle.std.specs.Prelude.{◌==◌, MatchBool, MatchOption, IfSome, slice_get, not, if◌then◌else◌}
use Rattle.std.proofs.lemmas.List.Elements.{All-nil, All-head, All-tail, All-cons}
use Rattle.nsi_primitive.specs.Printable.{IsPrintableHappening}
use Rattle.nsi_primitive.specs.declared.entry.Happening.{Happening}
use Rattle.stp_topology.specs.declared.network.Network.{Network}
use Rattle.trace_text.specs.Lines.{HasLine}
use Rattle.race_run.specs.declared.item.Difference.{Difference}
use Rattle.race_run.specs.Compared.{IsWritten, AreWritten, IsFront, IsFirst, IsTold, IsOfNetwork, Stands, AllStand, event_at}
use Rattle.std.specs.Str.{bytes_eq}
use Rattle.std.proofs.lemmas.Bool.{true≢false}
use Rattle.std.proofs.lemmas.Slice.Eq.{bytes_eq-Decides}
use Rattle.nsi_primitive.specs.declared.entry.Entry.{Entry}
use Rattle.journal_entry.specs.Spelling.{entry_of, entry_spelling}
use Rattle.journal_entry.specs.declared.form.Form.{Form}
use Rattle.race_run.specs.declared.item.Item.{Item}

abbrev first_of : Entry → Option (Entry × ℕ) → Entry
first_of d None = d
first_of d (Some x) = x.0

-- two entries are one exactly where their bytes are the same
pub same_entry : (one other : Entry) (left right : List ℕ) (same : Bool) → same ≡ bytes_eq left right → left ≡ entry_spelling Form.Two one → right ≡ entry_spelling Form.Two other
    → ((rest : List ℕ) → entry_of Form.Two (left ++ rest) ≡ Some (one, length left)) → ((rest : List ℕ) → entry_of Form.Two (right ++ rest) ≡ Some (other, length right))
    → MatchBool same (one ≡ other) (one ≢ other)
same_entry one other left right true e l r a b =
    let bytes : left ≡ right = (bytes_eq-Decides left right).0 (sym e) in
    ap (first_of one) (sym (a []) ∙ ap (λ (x : List ℕ). entry_of Form.Two (x ++ [])) bytes ∙ b [])
same_entry one other left right false e l r a b =
    λ q. true≢false (sym ((bytes_eq-Decides left right).1 (l ∙ ap (entry_spelling Form.Two) q ∙ sym r)) ∙ sym e)

some_one : (x y : Item) → Some x ≡ Some y → x ≡ y
some_one x y e = cc

heads : (x y : Item) (xs ys : List Item) → x ∷ xs ≡ y ∷ ys → x ≡ y
heads x y xs ys e = cc

tails : (x y : Item) (xs ys : List Item) → x ∷ xs ≡ y ∷ ys → xs ≡ ys
tails x y xs ys e = cc

next_same : (xs ys : List Item) (i : ℕ) → i < length xs → i < length ys → take i xs ≡ take i ys → slice_get xs i ≡ slice_get ys i → take (suc i) xs ≡ take (suc i) ys
next_same [] ys i h k e g = absurd (omega arith)
next_same (x ∷ xs) [] i h k e g = absurd (omega arith)
next_same (x ∷ xs) (y ∷ ys) zero h k e g = ap (λ (z : Item). z ∷ []) (some_one x y g)
next_same (x ∷ xs) (y ∷ ys) (suc i) h k e g =
    let first = heads x y (take i xs) (take i ys) e in
    let rest = next_same xs ys i (omega arith) (omega arith) (tails x y (take i xs) (take i ys) e) g in
    λ j. first j ∷ rest j

-- one item more in common
pub one_same : (xs ys : List Item) (i : ℕ) → i < length xs → i < length ys → take i xs ≡ take i ys → slice_get xs i ≡ slice_get ys i → take (i + 1) xs ≡ take (i + 1) ys
one_same xs ys i h k e g =
    let one : suc i ≡ i + 1 = omega arith in
    subst (λ n. take n xs ≡ take n ys) one (next_same xs ys i h k e g)

all_of : (xs : List Item) (n : ℕ) → slice_get xs n ≡ None → take n xs ≡ xs
all_of [] zero a = refl
all_of [] (suc n) a = refl
all_of (x ∷ xs) zero a = absurd (cc)
all_of (x ∷ xs) (suc n) a = ap (λ (l : List Item). x ∷ l) (all_of xs n a)

-- two lists that have their common front, and nothing behind it, are the same
whole : (xs ys : List Item) (n : ℕ) → take n xs ≡ take n ys → slice_get xs n ≡ None → slice_get ys n ≡ None → xs ≡ ys
whole xs ys n e a b = sym (all_of xs n a) ∙ e ∙ all_of ys n b

within_get : (xs : List Item) (n : ℕ) (x : Item) → slice_get xs n ≡ Some x → n < length xs
within_get [] n x e = absurd (cc)
within_get (y ∷ xs) zero x e = omega arith
within_get (y ∷ xs) (suc n) x e = let h = within_get xs n x e in omega (arith, h)

is_first : (kept found : List Item) (n : ℕ) (d : Difference) → IsFront kept found n → IsTold (slice_get kept n) (slice_get found n) d → IsFirst kept found d
is_first kept found n d f told = record { at = n; before = f.same; differs = go (slice_get kept n) (slice_get found n) refl refl told; told = told }
  where
    go : (a b : Option Item) → slice_get kept n ≡ a → slice_get found n ≡ b → IsTold a b d → slice_get kept n ≢ slice_get found n
    go None None p q told = absurd told
    go None (Some y) p q told = λ e. absurd (cc)
    go (Some x) None p q told = λ e. absurd (cc)
    go (Some x) (Some y) p q told = f.differs (within_get kept n x p) (within_get found n y q)

-- what is told behind the common front
pub compared_of : (kept found : List Item) (n : ℕ) (o : Option Difference) → IsFront kept found n
    → MatchOption o ((slice_get kept n ≡ None) × (slice_get found n ≡ None)) (IsTold (slice_get kept n) (slice_get found n)) → MatchOption o (kept ≡ found) (IsFirst kept found)
compared_of kept found n None f e = whole kept found n f.same e.0 e.1
compared_of kept found n (Some d) f told = is_first kept found n d f told

stands_get : (t : Network) (xs : List Item) (n : ℕ) (x : Item) → AllStand t xs → slice_get xs n ≡ Some x → Stands t x
stands_get t [] n x all e = absurd (cc)
stands_get t (y ∷ xs) zero x all e = subst (Stands t) (some_one y x e) (All-head (Stands t) y xs all)
stands_get t (y ∷ xs) (suc n) x all e = stands_get t xs n x (All-tail (Stands t) y xs all) e

-- both events that are told can be told
pub told_of : (t : Network) (kept found : List Item) (n : ℕ) (o : Option Difference) → MatchOption o ((slice_get kept n ≡ None) × (slice_get found n ≡ None)) (IsTold (slice_get kept n) (slice_get found n))
    → AllStand t kept → AllStand t found → IfSome o (IsOfNetwork t)
told_of t kept found n None told a b = tt
told_of t kept found n (Some d) told a b = go (slice_get kept n) (slice_get found n) refl refl told
  where
    event_by : (same : Bool) (x : Item) → Stands t x → IfSome (if same then Some x.event else None) (HasLine t)
    event_by true x h = h
    event_by false x h = tt

    kept_by : (place : ℕ) (a : Option Item) → slice_get kept n ≡ a → IfSome (event_at place a) (HasLine t)
    kept_by place None p = tt
    kept_by place (Some x) p = event_by (x.place == place) x (stands_get t kept n x a p)

    go : (k f : Option Item) → slice_get kept n ≡ k → slice_get found n ≡ f → IsTold k f d → IsOfNetwork t d
    go None None p q told = absurd told
    go (Some x) None p q told = subst (IsOfNetwork t) (sym told) (record { kept = stands_get t kept n x a p; found = tt })
    go k (Some y) p q told = subst (IsOfNetwork t) (sym told) (record { kept = kept_by y.place k p; found = stands_get t found n y b q })

written_one : (t : Network) (x : Item) → Stands t x → IsWritten x.event.what
written_one t x h = go x.event.what h.printable
  where
    go : (w : Happening) → IsPrintableHappening w → IsWritten w
    go (Happening.Entry e answer) p = p.entry
    go (Happening.Sync n) p = tt
    go (Happening.Restart n) p = tt

-- what can be told can be compared
pub all_written : (t : Network) (xs : List Item) → AllStand t xs → AreWritten xs
all_written t [] all = All-nil (λ (x : Item). IsWritten x.event.what)
all_written t (x ∷ xs) all = All-cons (λ (x : Item). IsWritten x.event.what) x xs (written_one t x (All-head (Stands t) x xs all)) (all_written t xs (All-tail (Stands t) x xs all))

pub not_true : (b : Bool) → not b ≡ true → b ≡ false
not_true true e = sym e
not_true false e = refl

pub not_false : (b : Bool) → not b ≡ false → b ≡ true
not_false true e = refl
not_false false e = sym e
