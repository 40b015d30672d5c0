-- The answers that a child has said under a header.
use Rattle.std.proofs.Common.{ℕ, ◌≡◌, Bool, true, false, not, List, [], ◌∷◌, ◌++◌, Contains, ◌⊎◌, inl, inr, ◌==◌, ◌&&◌, ◌||◌, if◌then◌else◌, refl, sym, ap, ◌∙◌, subst, arith, bytes_eq}
use Rattle.std.proofs.lemmas.List.Elements.{Contains-append_left, Contains-append_right, Contains-append_cases}
use Rattle.std.proofs.lemmas.Slice.Eq.{bytes_eq-Decides}
use Rattle.std.specs.List.{list_any}
use Rattle.nsi_primitive.specs.Messages.{has_rows}
use Rattle.nsi_primitive.specs.declared.message.Body.{Body}
use Rattle.nsi_primitive.specs.declared.message.Header.{Header}
use Rattle.nsi_primitive.specs.declared.message.Message.{Message}
use Rattle.message_retry.specs.Taken.{is_taken, is_same_request, with_taken}
use Rattle.record_index.proofs.Members.{nothing_in, contains_first}
use Rattle.connection_record.specs.declared.moves.Reply.{Reply}
use Rattle.connection_record.specs.Courses.{answering}
use Rattle.connection_record.specs.Replies.{addressed}
use Rattle.connection_record.specs.Speaking.{is_answering}
use Rattle.circuit_link.specs.Children.{is_for_views, about}
use Rattle.circuit_link.specs.Headers.{header_of}
use Rattle.circuit_link.proofs.Answering.{first_there, later_there}

---- Headers

pub headers_same : (c d : ℕ) (r s p q : List ℕ) → c ≡ d → r ≡ s → p ≡ q → (let x : Header = record { correlation = c; requester = r; provider = p } in x) ≡ record { correlation = d; requester = s; provider = q }
headers_same c d r s p q e f g = rw (e, f, g) refl

pub same_bytes : (xs : List ℕ) → bytes_eq xs xs ≡ true
same_bytes xs = (bytes_eq-Decides xs xs).1 refl

pub same_header : (h g : Header) → is_same_request h g ≡ true → h ≡ g
same_header h g e =
    headers_same h.correlation g.correlation h.requester g.requester h.provider g.provider (third e)
    ((bytes_eq-Decides h.requester g.requester).0 (first e)) ((bytes_eq-Decides h.provider g.provider).0 (second e))
  where
    first : is_same_request h g ≡ true → bytes_eq h.requester g.requester ≡ true
    first e = grind (arith, e)

    second : is_same_request h g ≡ true → bytes_eq h.provider g.provider ≡ true
    second e = grind (arith, e)

    third : is_same_request h g ≡ true → h.correlation ≡ g.correlation
    third e = grind (arith, e)

pub header_itself : (h : Header) → is_same_request h h ≡ true
header_itself h = let a = same_bytes h.requester in let b = same_bytes h.provider in let c : (h.correlation == h.correlation) ≡ true = grind arith in by_parts (bytes_eq h.requester h.requester) (bytes_eq h.provider h.provider) (h.correlation == h.correlation) a b c
  where
    by_parts : (a b c : Bool) → a ≡ true → b ≡ true → c ≡ true → (a && (b && c)) ≡ true
    by_parts a b c e f g = rw (e, f, g) refl

---- Requests that are taken

any_more : (p : Header → Bool) (xs : List Header) (g : Header) → list_any p (xs ++ g ∷ []) ≡ (list_any p xs || p g)
any_more p [] g = grind arith
any_more p (x ∷ xs) g = by_first (p x) (any_more p xs g)
  where
    by_first : (b : Bool) → list_any p (xs ++ g ∷ []) ≡ (list_any p xs || p g) → (b || list_any p (xs ++ g ∷ [])) ≡ ((b || list_any p xs) || p g)
    by_first true e = refl
    by_first false e = e

pub taken_with : (h g : Header) (seen : List Header) → is_taken g seen ≡ false → is_taken h (with_taken g seen) ≡ (is_taken h seen || is_same_request h g)
unfolding is_taken with_taken
taken_with h g seen u = ap (λ z. list_any (is_same_request h) (if z then seen else seen ++ g ∷ [])) u ∙ any_more (is_same_request h) seen g

pub taken_now : (g : Header) (seen : List Header) → is_taken g seen ≡ false → is_taken g (with_taken g seen) ≡ true
taken_now g seen u = taken_with g g seen u ∙ ap (λ b. is_taken g seen || b) (header_itself g) ∙ either (is_taken g seen)
  where
    either : (a : Bool) → (a || true) ≡ true
    either true = refl
    either false = refl

pub taken_still : (h g : Header) (seen : List Header) → is_taken g seen ≡ false → is_taken h seen ≡ true → is_taken h (with_taken g seen) ≡ true
taken_still h g seen u t = taken_with h g seen u ∙ ap (λ b. b || is_same_request h g) t

pub taken_before : (h g : Header) (seen : List Header) → is_taken g seen ≡ false → is_taken h (with_taken g seen) ≡ false → is_taken h seen ≡ false
taken_before h g seen u t = first (is_taken h seen) (is_same_request h g) (sym (taken_with h g seen u) ∙ t)
  where
    first : (a b : Bool) → (a || b) ≡ false → a ≡ false
    first true b e = absurd (cc)
    first false b e = refl

pub taken_apart : (h g : Header) (seen : List Header) → is_taken g seen ≡ false → (h ≡ g → ⊥) → is_taken h (with_taken g seen) ≡ is_taken h seen
taken_apart h g seen u n = taken_with h g seen u ∙ by_test (is_same_request h g) refl (is_taken h seen)
  where
    by_test : (b : Bool) → is_same_request h g ≡ b → (a : Bool) → (a || is_same_request h g) ≡ a
    by_test true e a = absurd (n (same_header h g e))
    by_test false e true = refl
    by_test false e false = e

---- Answers

pub about_append : (h : Header) (xs ys : List Message) → about h (xs ++ ys) ≡ about h xs ++ about h ys
unfolding about
about_append h [] ys = refl
about_append h (m ∷ xs) ys = by_test (is_for_views m.body && is_same_request h m.header) (about_append h xs ys)
  where
    by_test : (b : Bool) → about h (xs ++ ys) ≡ about h xs ++ about h ys →
        (if b then m.body ∷ about h (xs ++ ys) else about h (xs ++ ys)) ≡ (if b then m.body ∷ about h xs else about h xs) ++ about h ys
    by_test true e = ap (λ z. m.body ∷ z) e
    by_test false e = e

pub about_cases : (h : Header) (xs ys : List Message) (b : Body) → Contains (about h (xs ++ ys)) b → Contains (about h xs) b ⊎ Contains (about h ys) b
about_cases h xs ys b i = Contains-append_cases (about h xs) (about h ys) b (subst (λ w. Contains w b) (about_append h xs ys) i)

pub about_left : (h : Header) (xs ys : List Message) (b : Body) → Contains (about h xs) b → Contains (about h (xs ++ ys)) b
about_left h xs ys b i = subst (λ w. Contains w b) (sym (about_append h xs ys)) (Contains-append_left (about h xs) (about h ys) b i)

pub about_right : (h : Header) (xs ys : List Message) (b : Body) → Contains (about h ys) b → Contains (about h (xs ++ ys)) b
about_right h xs ys b i = subst (λ w. Contains w b) (sym (about_append h xs ys)) (Contains-append_right (about h xs) (about h ys) b i)

-- an answer for views that was said under a header
pub record IsSaidUnder (h : Header) (b : Body) (out : List Message) : Type 0 where
  pub message : Message
  pub there : Contains out message
  pub body : message.body ≡ b
  pub answering : is_answering message.body ≡ true
  pub rowless : has_rows message.body ≡ false
  pub header : is_same_request h message.header ≡ true

pub said_under : (h : Header) (b : Body) (out : List Message) → Contains (about h out) b → IsSaidUnder h b out
unfolding about
said_under h b [] i = absurd (nothing_in b i)
said_under h b (m ∷ ms) i = by_test (is_answering m.body) (has_rows m.body) (is_same_request h m.header) refl refl refl (said_under h b ms) i
  where
    later : IsSaidUnder h b ms → IsSaidUnder h b (m ∷ ms)
    later s = record { message = s.message; there = later_there m s.message ms s.there; body = s.body; answering = s.answering; rowless = s.rowless; header = s.header }

    by_test : (x r y : Bool) → is_answering m.body ≡ x → has_rows m.body ≡ r → is_same_request h m.header ≡ y → (Contains (about h ms) b → IsSaidUnder h b ms) →
        Contains (if (x && not r) && y then m.body ∷ about h ms else about h ms) b → IsSaidUnder h b (m ∷ ms)
    by_test true false true p w q f j = elim (contains_first m.body b (about h ms) j) [
      | inl e ↦ record { message = m; there = first_there m ms; body = sym e; answering = p; rowless = w; header = q }
      | inr k ↦ later (f k)
    ]
    by_test true false false p w q f j = later (f j)
    by_test true true y p w q f j = later (f j)
    by_test false r y p w q f j = later (f j)

---- Replies of one record

-- none of them has rows
abbrev pub AreRowless : List Reply → Type 0
AreRowless out = (y : Reply) → Contains out y → has_rows y.body ≡ false

rest_rowless : (y : Reply) (ys : List Reply) → AreRowless (y ∷ ys) → AreRowless ys
rest_rowless y ys n z i = n z (later_there y z ys i)

-- replies to the parent, as it hears them
about_own : (h : Header) (name owner : List ℕ) (out : List Reply) → bytes_eq h.requester owner ≡ true → bytes_eq h.provider name ≡ true → AreRowless out → about h (addressed name owner out) ≡ answering h.correlation out
unfolding about answering
about_own h name owner [] e f n = refl
about_own h name owner (y ∷ ys) e f n =
    by_tests (bytes_eq h.requester owner) (bytes_eq h.provider name) (has_rows y.body) e f (n y (first_there y ys)) (is_answering y.body) (h.correlation == y.correlation)
    (about_own h name owner ys e f (rest_rowless y ys n))
  where
    by_tests : (a b r : Bool) → a ≡ true → b ≡ true → r ≡ false → (p q : Bool) → about h (addressed name owner ys) ≡ answering h.correlation ys →
        (if (p && not r) && (a && (b && q)) then y.body ∷ about h (addressed name owner ys) else about h (addressed name owner ys)) ≡
        (if p && q then y.body ∷ answering h.correlation ys else answering h.correlation ys)
    by_tests true true false e f g true true i = ap (λ z. y.body ∷ z) i
    by_tests true true false e f g true false i = i
    by_tests true true false e f g false q i = i
    by_tests true true true e f g p q i = absurd (cc)
    by_tests false b r e f g p q i = absurd (cc)
    by_tests true false r e f g p q i = absurd (cc)

-- what is heard of replies is among them
pub addressed_in : (name owner parent : List ℕ) (c : ℕ) (out : List Reply) (b : Body) → Contains (about (header_of parent name c) (addressed name owner out)) b → (owner ≡ parent) × Contains (answering c out) b
unfolding about answering
addressed_in name owner parent c [] b i = absurd (nothing_in b i)
addressed_in name owner parent c (y ∷ ys) b i =
    by_tests (bytes_eq parent owner) refl (is_answering y.body) (has_rows y.body) (bytes_eq name name) (c == y.correlation) (addressed_in name owner parent c ys b) i
  where
    later : (p q : Bool) → (owner ≡ parent) × Contains (answering c ys) b → (owner ≡ parent) × Contains (if p && q then y.body ∷ answering c ys else answering c ys) b
    later true true (o, j) = (o, later_there y.body b (answering c ys) j)
    later true false w = w
    later false q w = w

    by_tests : (a : Bool) → bytes_eq parent owner ≡ a → (p r n q : Bool) → (Contains (about (header_of parent name c) (addressed name owner ys)) b → (owner ≡ parent) × Contains (answering c ys) b) →
        Contains (if (p && not r) && (a && (n && q)) then y.body ∷ about (header_of parent name c) (addressed name owner ys) else about (header_of parent name c) (addressed name owner ys)) b →
        (owner ≡ parent) × Contains (if p && q then y.body ∷ answering c ys else answering c ys) b
    by_tests true e true false true true f j = elim (contains_first y.body b (about (header_of parent name c) (addressed name owner ys)) j) [
      | inl w ↦ (sym ((bytes_eq-Decides parent owner).0 e), subst (λ z. Contains (y.body ∷ answering c ys) z) (sym w) (first_there y.body (answering c ys)))
      | inr k ↦ later true true (f k)
    ]
    by_tests true e true false true false f j = f j
    by_tests true e true false false q f j = later true q (f j)
    by_tests false e true false n q f j = later true q (f j)
    by_tests a e true true n q f j = later true q (f j)
    by_tests a e false r n q f j = f j

pub addressed_of : (name owner : List ℕ) (c : ℕ) (out : List Reply) (b : Body) → AreRowless out → Contains (answering c out) b → Contains (about (header_of owner name c) (addressed name owner out)) b
addressed_of name owner c out b n i = subst (λ w. Contains w b) (sym (about_own (header_of owner name c) name owner out (same_bytes owner) (same_bytes name) n)) i

pub addressed_append : (name owner : List ℕ) (xs ys : List Reply) → addressed name owner (xs ++ ys) ≡ addressed name owner xs ++ addressed name owner ys
addressed_append name owner [] ys = refl
addressed_append name owner (x ∷ xs) ys =
    ap (λ z. (let m : Message = record { header = record { correlation = x.correlation; requester = owner; provider = name }; body = x.body } in m) ∷ z)
    (addressed_append name owner xs ys)
