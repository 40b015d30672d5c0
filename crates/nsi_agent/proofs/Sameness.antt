-- A message that counts as taken behind another one is that one, or counted before.
use Rattle.std.proofs.Common.{◌≡◌, ◌⊎◌, inl, inr, ◌∙◌, ◌&&◌, ◌||◌, ◌==◌, ℕ, Bool, true, false, cond, List, [], ◌∷◌, ◌++◌, get_or, refl, sym, ap, arith}
use Rattle.std.specs.List.{list_any}
use Rattle.std.specs.Str.{bytes_eq}
use Rattle.std.proofs.lemmas.Bool.{and_parts}
use Rattle.std.proofs.lemmas.Bool.Decides.{Decides-eqb}
use Rattle.std.proofs.lemmas.Slice.Eq.{bytes_eq-Decides}
use Rattle.std.proofs.lemmas.List.Folds.{list_any-append}
use Rattle.nsi_primitive.specs.Kinds.{kind_number, kinds}
use Rattle.nsi_primitive.specs.Messages.{identity, is_request}
use Rattle.nsi_primitive.specs.declared.kind.Kind.{Kind}
use Rattle.nsi_primitive.specs.declared.message.Header.{Header}
use Rattle.nsi_primitive.specs.declared.message.Identity.{Identity}
use Rattle.nsi_primitive.specs.declared.message.Message.{Message}
use Rattle.message_retry.specs.Taken.{is_same_request, is_taken, with_taken}
use Rattle.message_retry.specs.Retry.{Retry, is_same_identity, is_heard, with_heard, is_old, saw, saw_if}
use Rattle.nsi_agent.specs.Told.{IsSame, IsSameTo}

---- Tests

same_bytes : (xs ys : List ℕ) → bytes_eq xs ys ≡ true → xs ≡ ys
same_bytes xs ys e = (bytes_eq-Decides xs ys).0 e

same_number : (m n : ℕ) → (m == n) ≡ true → m ≡ n
same_number m n e = (Decides-eqb m n).0 e

header_is : (a b : Header) → is_same_request a b ≡ true → b ≡ a
header_is a b e =
    let p = and_parts (bytes_eq a.requester b.requester) (bytes_eq a.provider b.provider && (a.correlation == b.correlation)) e in
    let q = and_parts (bytes_eq a.provider b.provider) (a.correlation == b.correlation) p.1 in
    sym
    (ap (λ x. record { correlation = a.correlation; requester = x; provider = a.provider }) (same_bytes a.requester b.requester p.0)
    ∙ (ap (λ x. record { correlation = a.correlation; requester = b.requester; provider = x }) (same_bytes a.provider b.provider q.0)
    ∙ ap (λ x. record { correlation = x; requester = b.requester; provider = b.provider }) (same_number a.correlation b.correlation q.1)))

kind_at : (k : Kind) → get_or kinds (kind_number k) Kind.Reserve ≡ k
unfolding kind_number
kind_at k = grind arith

identity_is : (i j : Identity) → is_same_identity i j ≡ true → j ≡ i
identity_is i j e =
    let p = and_parts (bytes_eq i.requester j.requester) (bytes_eq i.provider j.provider && ((i.correlation == j.correlation) && (kind_number i.kind == kind_number j.kind))) e in
    let q = and_parts (bytes_eq i.provider j.provider) ((i.correlation == j.correlation) && (kind_number i.kind == kind_number j.kind)) p.1 in
    let r = and_parts (i.correlation == j.correlation) (kind_number i.kind == kind_number j.kind) q.1 in
    let kind : i.kind ≡ j.kind = sym (kind_at i.kind) ∙ (ap (λ n. get_or kinds n Kind.Reserve) (same_number (kind_number i.kind) (kind_number j.kind) r.1) ∙ kind_at j.kind) in
    sym
    (ap (λ x. record { requester = x; provider = i.provider; correlation = i.correlation; kind = i.kind }) (same_bytes i.requester j.requester p.0)
    ∙ (ap (λ x. record { requester = j.requester; provider = x; correlation = i.correlation; kind = i.kind }) (same_bytes i.provider j.provider q.0)
    ∙ (ap (λ x. record { requester = j.requester; provider = j.provider; correlation = x; kind = i.kind }) (same_number i.correlation j.correlation r.0)
    ∙ ap (λ x. record { requester = j.requester; provider = j.provider; correlation = j.correlation; kind = x }) kind)))

---- One more

any_push : {X : Type 0} (p : X → Bool) (xs : List X) (x : X) → list_any p (xs ++ x ∷ []) ≡ true → (list_any p xs ≡ true) ⊎ (p x ≡ true)
any_push p xs x e = by (list_any p xs) (p x) refl refl (sym (list_any-append p xs (x ∷ [])) ∙ e)
  where
    by : (a b : Bool) → list_any p xs ≡ a → p x ≡ b → (list_any p xs || (p x || false)) ≡ true → (list_any p xs ≡ true) ⊎ (p x ≡ true)
    by true b f g h = inl f
    by false true f g h = inr g
    by false false f g h = absurd (grind (arith, f, g, h))

taken_with : (h n : Header) (hs : List Header) → is_taken h (with_taken n hs) ≡ true → (is_taken h hs ≡ true) ⊎ (n ≡ h)
unfolding is_taken with_taken
taken_with h n hs e = by (list_any (is_same_request n) hs) e
  where
    is_new : (list_any (is_same_request h) hs ≡ true) ⊎ (is_same_request h n ≡ true) → (list_any (is_same_request h) hs ≡ true) ⊎ (n ≡ h)
    is_new (inl a) = inl a
    is_new (inr b) = inr (header_is h n b)

    by : (b : Bool) → list_any (is_same_request h) (cond b hs (hs ++ n ∷ [])) ≡ true → (list_any (is_same_request h) hs ≡ true) ⊎ (n ≡ h)
    by true f = inl f
    by false f = is_new (any_push (is_same_request h) hs n f)

heard_with : (i j : Identity) (is : List Identity) → is_heard i (with_heard j is) ≡ true → (is_heard i is ≡ true) ⊎ (j ≡ i)
unfolding is_heard with_heard
heard_with i j is e = by (list_any (is_same_identity j) is) e
  where
    is_new : (list_any (is_same_identity i) is ≡ true) ⊎ (is_same_identity i j ≡ true) → (list_any (is_same_identity i) is ≡ true) ⊎ (j ≡ i)
    is_new (inl a) = inl a
    is_new (inr b) = inr (identity_is i j b)

    by : (b : Bool) → list_any (is_same_identity i) (cond b is (is ++ j ∷ [])) ≡ true → (list_any (is_same_identity i) is ≡ true) ⊎ (j ≡ i)
    by true f = inl f
    by false f = is_new (any_push (is_same_identity i) is j f)

-- by what was taken, whichever way the message counts
abbrev pub old_if : (asks : Bool) → Message → List Header → List Identity → Bool
old_if asks m seen heard = cond asks (is_taken m.header seen) (is_heard (identity m) heard)

pub old_is : (m : Message) (t : Retry) → is_old m t ≡ old_if (is_request m.body) m t.seen t.heard
unfolding is_old
old_is m t = refl

pub old_saw : (m n : Message) (t : Retry) → old_if (is_request m.body) m (saw n t).seen (saw n t).heard ≡ true → (old_if (is_request m.body) m t.seen t.heard ≡ true) ⊎ IsSame m n
unfolding saw
old_saw m n t e = by (is_request m.body) (is_request n.body) refl e
  where
    requests : is_request n.body ≡ true → (is_taken m.header t.seen ≡ true) ⊎ (n.header ≡ m.header) → (is_taken m.header t.seen ≡ true) ⊎ IsSameTo true m n
    requests f (inl a) = inl a
    requests f (inr b) = inr (f, b)

    by : (a b : Bool) → is_request n.body ≡ b → old_if a m (saw_if b n t).seen (saw_if b n t).heard ≡ true → (old_if a m t.seen t.heard ≡ true) ⊎ IsSameTo a m n
    by true true f g = requests f (taken_with m.header n.header t.seen g)
    by true false f g = inl g
    by false true f g = inl g
    by false false f g = heard_with (identity m) (identity n) t.heard g
