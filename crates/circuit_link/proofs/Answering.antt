-- The answers among replies, and what is in a list.
use Rattle.std.proofs.Common.{ℕ, ◌≡◌, ◌≤◌, Bool, true, false, List, [], ◌∷◌, Contains, Some, inl, inr, ◌==◌, ◌&&◌, if◌then◌else◌, refl, sym, ap, ◌∙◌, subst, arith, eqb-true}
use Rattle.nsi_primitive.specs.declared.message.Body.{Body}
use Rattle.record_index.proofs.Members.{nothing_in, contains_first, contains_more}
use Rattle.connection_record.specs.declared.moves.Reply.{Reply}
use Rattle.connection_record.specs.Courses.{answering}
use Rattle.connection_record.specs.Replies.{reply}
use Rattle.connection_record.specs.Speaking.{one, tally, is_answering, number_of, answers_as}

pub same_some : (d c : ℕ) → Some d ≡ Some c → d ≡ c
same_some d c e = cc

---- What is in a list

pub only_one : {X : Type 0} (x p : X) → Contains (x ∷ []) p → p ≡ x
only_one x p h = elim (contains_first x p [] h) [ inl e ↦ e | inr i ↦ absurd (nothing_in p i) ]

pub first_there : {X : Type 0} (x : X) (xs : List X) → Contains (x ∷ xs) x
first_there x xs = contains_more x x xs (inl refl)

pub later_there : {X : Type 0} (x p : X) (xs : List X) → Contains xs p → Contains (x ∷ xs) p
later_there x p xs h = contains_more x p xs (inr h)

pub not_there : {X : Type 0} (xs : List X) (x : X) → xs ≡ [] → Contains xs x → ⊥
not_there xs x e h = nothing_in x (subst (λ z. Contains z x) e h)

pub none_there : {X : Type 0} (xs : List X) → ((x : X) → Contains xs x → ⊥) → xs ≡ []
none_there [] h = refl
none_there (x ∷ xs) h = absurd (h x (first_there x xs))

---- Answers

-- what one reply answers under a correlation
pub one_answer : (c d : ℕ) (b e : Body) → Contains (answering c (reply d e ∷ [])) b → (c ≡ d) × (b ≡ e)
unfolding answering
one_answer c d b e h = by_tests (is_answering e) (c == d) refl h
  where
    by_tests : (p q : Bool) → (c == d) ≡ q → Contains (if p && q then e ∷ [] else []) b → (c ≡ d) × (b ≡ e)
    by_tests true true s i = (eqb-true c d s, only_one e b i)
    by_tests true false s i = absurd (nothing_in b i)
    by_tests false q s i = absurd (nothing_in b i)

pub answer_there : (c : ℕ) (e : Body) → is_answering e ≡ true → Contains (answering c (reply c e ∷ [])) e
unfolding answering
answer_there c e a = let q : (c == c) ≡ true = grind arith in subst (λ z. Contains (if z then e ∷ [] else []) e) (sym (both (is_answering e) (c == c) a q)) (first_there e [])
  where
    both : (p q : Bool) → p ≡ true → q ≡ true → (p && q) ≡ true
    both p q e f = rw (e, f) refl

-- under another correlation it answers nothing
pub other_answer : (c d : ℕ) (e : Body) → (c ≡ d → ⊥) → answering c (reply d e ∷ []) ≡ []
other_answer c d e n = none_there (answering c (reply d e ∷ [])) (λ b i. n (one_answer c d b e i).0)

pub answers_none : (c : ℕ) (out : List Reply) → out ≡ [] → answering c out ≡ []
unfolding answering
answers_none c out e = ap (answering c) e

pub nothing_answered : (c : ℕ) (b : Body) (out : List Reply) → out ≡ [] → Contains (answering c out) b → ⊥
nothing_answered c b out e i = not_there (answering c out) b (answers_none c out e) i

-- an answer among replies
pub record IsReplied (c : ℕ) (b : Body) (out : List Reply) : Type 0 where
  pub reply : Reply
  pub there : Contains out reply
  pub body : reply.body ≡ b
  pub answers : (is_answering reply.body && (c == reply.correlation)) ≡ true

pub replied_of : (c : ℕ) (b : Body) (out : List Reply) → Contains (answering c out) b → IsReplied c b out
unfolding answering
replied_of c b [] h = absurd (nothing_in b h)
replied_of c b (y ∷ ys) h = by_test (is_answering y.body && (c == y.correlation)) refl (replied_of c b ys) h
  where
    later : IsReplied c b ys → IsReplied c b (y ∷ ys)
    later r = record { reply = r.reply; there = later_there y r.reply ys r.there; body = r.body; answers = r.answers }

    by_test : (t : Bool) → (is_answering y.body && (c == y.correlation)) ≡ t → (Contains (answering c ys) b → IsReplied c b ys) →
        Contains (if t then y.body ∷ answering c ys else answering c ys) b → IsReplied c b (y ∷ ys)
    by_test true e f i = elim (contains_first y.body b (answering c ys) i) [
      | inl q ↦ record { reply = y; there = first_there y ys; body = sym q; answers = e }
      | inr j ↦ later (f j)
    ]
    by_test false e f i = later (f i)

answered_in : (c : ℕ) (y : Reply) (out : List Reply) → Contains out y → (is_answering y.body && (c == y.correlation)) ≡ true → Contains (answering c out) y.body
unfolding answering
answered_in c y [] h a = absurd (nothing_in y h)
answered_in c y (z ∷ zs) h a = elim (contains_first z y zs h) [
  | inl e ↦ here (is_answering z.body && (c == z.correlation)) (ap (λ (w : Reply). is_answering w.body && (c == w.correlation)) (sym e) ∙ a) (ap (λ (w : Reply). w.body) e)
  | inr i ↦ further (is_answering z.body && (c == z.correlation)) (answered_in c y zs i a)
]
  where
    here : (t : Bool) → t ≡ true → y.body ≡ z.body → Contains (if t then z.body ∷ answering c zs else answering c zs) y.body
    here true q e = contains_more z.body y.body (answering c zs) (inl e)
    here false q e = absurd (cc)

    further : (t : Bool) → Contains (answering c zs) y.body → Contains (if t then z.body ∷ answering c zs else answering c zs) y.body
    further true i = later_there z.body y.body (answering c zs) i
    further false i = i

pub answer_of : (c : ℕ) (b : Body) (out : List Reply) → IsReplied c b out → Contains (answering c out) b
answer_of c b out r = subst (λ z. Contains (answering c out) z) r.body (answered_in c r.reply out r.there r.answers)

-- what is said in one list and in another is answered in both
pub answer_moves : (c : ℕ) (b : Body) (xs ys : List Reply) → ((y : Reply) → Contains xs y → Contains ys y) → Contains (answering c xs) b → Contains (answering c ys) b
answer_moves c b xs ys f i =
    let r = replied_of c b xs i in
    answer_of c b ys (record { reply = r.reply; there = f r.reply r.there; body = r.body; answers = r.answers })

---- Counts

pub tally_there : {X : Type 0} (p : X → Bool) (x : X) (xs : List X) → Contains xs x → p x ≡ true → 1 ≤ tally p xs
unfolding tally
tally_there p x [] h e = absurd (nothing_in x h)
tally_there p x (y ∷ ys) h e = elim (contains_first y x ys h) [
  | inl q ↦ let k : one (p y) ≡ 1 = ap (λ z. one z) (ap p (sym q) ∙ e) in omega (arith, k)
  | inr i ↦ omega (arith, tally_there p x ys i e)
]

pub counted_as : (c : ℕ) (y : Reply) → (is_answering y.body && (c == y.correlation)) ≡ true → answers_as c (number_of y.body) y ≡ true
counted_as c y e = grind (arith, e)
