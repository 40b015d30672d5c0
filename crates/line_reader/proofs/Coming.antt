-- What is still to come, as lines are taken and more is read.
use Rattle.std.proofs.Common.{◌≡◌, ◌<◌, ◌≤◌, ◌+◌, ◌-◌, ℕ, suc, List, [], ◌∷◌, ◌++◌, length, take, drop, Bool, true, false, cond, leb, eqb, Option, Some, None, option_map, IfSome, arith, refl, sym, ap, ◌∙◌, inl, inr, subst, append_assoc, append-nil, length-append, length-drop, drop-drop}
use Rattle.std.proofs.lemmas.List.{take-append-drop, length-take-le, take_all, take-append-le, drop-append-le}
use Rattle.std.proofs.Math.Seq.{take-append-add}
use Rattle.std.proofs.Math.Dec.{leb-zero}
use Rattle.std.proofs.lemmas.Bool.Decides.{nat_tests}
use Rattle.nsi_base.specs.Lines.{lines_to, feed_at, without_return}
use Rattle.nsi_base.proofs.LineCuts.{lines_end, lines_last, ended_none}
use Rattle.line_reader.specs.Given.{Given, given_of, IsSame, with_line, TakesLine, IsAtEnd, IsCutFrom}
use Rattle.line_reader.specs.Held.{Held, budget, to_come, rest_of, CutsLine}

feed_within : (bs : List ℕ) (i : ℕ) → feed_at bs ≡ Some i → i < length bs
unfolding feed_at
feed_within [] i h = cc
feed_within (b ∷ bs) i h = by_test (eqb b 10) (feed_at bs) h (λ j e. feed_within bs j e)
  where
    by_test : (t : Bool) (o : Option ℕ) → cond t (Some 0) (option_map suc o) ≡ Some i → ((j : ℕ) → o ≡ Some j → j < length bs) → i < suc (length bs)
    by_test true o h f = let z : 0 ≡ i = cc in omega arith
    by_test false None h f = cc
    by_test false (Some j) h f = let z : suc j ≡ i = cc in omega (arith, f j refl)

-- bytes without a line feed before others
pub feed-none : (a b : List ℕ) → feed_at a ≡ None → feed_at b ≡ None → feed_at (a ++ b) ≡ None
unfolding feed_at
feed-none [] b p q = q
feed-none (x ∷ a) b p q = by_test (eqb x 10) p (λ e. feed-none a b e q)
  where
    none_suc : (o : Option ℕ) → option_map suc o ≡ None → o ≡ None
    none_suc None h = refl
    none_suc (Some j) h = cc

    by_test : (t : Bool) → cond t (Some 0) (option_map suc (feed_at a)) ≡ None → (feed_at a ≡ None → feed_at (a ++ b) ≡ None) → cond t (Some 0) (option_map suc (feed_at (a ++ b))) ≡ None
    by_test true e next = cc
    by_test false e next = ap (option_map suc) (next (none_suc (feed_at a) e))

pub feed-some : (a b : List ℕ) (k : ℕ) → feed_at a ≡ None → feed_at b ≡ Some k → feed_at (a ++ b) ≡ Some (length a + k)
unfolding feed_at
feed-some [] b k p q = q ∙ ap (λ n. Some n) (omega arith)
feed-some (x ∷ a) b k p q = by_test (eqb x 10) p (λ e. feed-some a b k e q)
  where
    none_suc : (o : Option ℕ) → option_map suc o ≡ None → o ≡ None
    none_suc None h = refl
    none_suc (Some j) h = cc

    by_test : (t : Bool) → cond t (Some 0) (option_map suc (feed_at a)) ≡ None → (feed_at a ≡ None → feed_at (a ++ b) ≡ Some (length a + k)) → cond t (Some 0) (option_map suc (feed_at (a ++ b))) ≡ Some (suc (length a) + k)
    by_test true e next = cc
    by_test false e next = ap (option_map suc) (next (none_suc (feed_at a) e)) ∙ ap (λ n. Some n) (omega arith)

pub no_feed : feed_at [] ≡ None
unfolding feed_at
no_feed = refl

pub none_between : (xs : List ℕ) (place : ℕ) → feed_at (take (place - place) (drop place xs)) ≡ None
none_between xs place = let none : place - place ≡ 0 = omega arith in ap (λ n. feed_at (take n (drop place xs))) none ∙ no_feed

-- the bytes held are those that were looked at and the fresh ones
seen_and_fresh : (xs : List ℕ) (start scanned : ℕ) → start ≤ scanned → take (scanned - start) (drop start xs) ++ drop scanned xs ≡ drop start xs
seen_and_fresh xs start scanned le =
    let there : start + (scanned - start) ≡ scanned = omega arith in
    ap (λ ys. take (scanned - start) (drop start xs) ++ ys) (sym (drop-drop (scanned - start) start xs ∙ ap (λ n. drop n xs) there))
    ∙ take-append-drop (scanned - start) (drop start xs)

pub held-none : (xs : List ℕ) (start scanned : ℕ) → start ≤ scanned → feed_at (take (scanned - start) (drop start xs)) ≡ None → feed_at (drop scanned xs) ≡ None → feed_at (drop start xs) ≡ None
held-none xs start scanned le clear fresh = ap feed_at (sym (seen_and_fresh xs start scanned le)) ∙ feed-none _ _ clear fresh

-- all that is held was looked at
pub whole_clear : (xs : List ℕ) (start scanned all : ℕ) → start ≤ scanned → length xs ≤ all → feed_at (take (scanned - start) (drop start xs)) ≡ None → feed_at (drop scanned xs) ≡ None → feed_at (take (all - start) (drop start xs)) ≡ None
whole_clear xs start scanned all le whole clear fresh = ap feed_at (take_all (all - start) (drop start xs) (omega (arith, length-drop start xs))) ∙ held-none xs start scanned le clear fresh

pub held-some : (xs : List ℕ) (start scanned k : ℕ) → start ≤ scanned → scanned ≤ length xs → feed_at (take (scanned - start) (drop start xs)) ≡ None → feed_at (drop scanned xs) ≡ Some k → feed_at (drop start xs) ≡ Some (scanned + k - start)
held-some xs start scanned k le within clear fresh =
    let long : length (take (scanned - start) (drop start xs)) ≡ scanned - start = length-take-le (scanned - start) (drop start xs) (omega (arith, length-drop start xs)) in
    ap feed_at (sym (seen_and_fresh xs start scanned le)) ∙ feed-some _ _ k clear fresh ∙ ap (λ n. Some n) (omega arith)

pub behind_feed : (xs : List ℕ) (start feed : ℕ) → start ≤ feed → drop (feed + 1) xs ≡ drop (suc (feed - start)) (drop start xs)
behind_feed xs start feed le = let there : start + suc (feed - start) ≡ feed + 1 = omega arith in ap (λ n. drop n xs) (sym there) ∙ sym (drop-drop (suc (feed - start)) start xs)

-- the lines to come, by what is held and what is left
by_size : Bool → List ℕ → ℕ → List ℕ → Given
by_size fits held room left = cond fits (record { lines = lines_to true (held ++ left); long = false }) (record { lines = lines_to false (held ++ take room left); long = true })

fits_too : (held left : List ℕ) (room : ℕ) → leb (length (held ++ left)) (length held + room) ≡ leb (length left) room
fits_too held left room = grind (arith, nat_tests, length-append held left)

given-held : (held left : List ℕ) (room : ℕ) → given_of (length held + room) (held ++ left) ≡ by_size (leb (length left) room) held room left
unfolding given_of by_size
given-held held left room =
    ap (λ t. cond t (record { lines = lines_to true (held ++ left); long = false }) (record { lines = lines_to false (take (length held + room) (held ++ left)); long = true })) (fits_too held left room)
    ∙ ap (λ bytes. cond (leb (length left) room) (record { lines = lines_to true (held ++ left); long = false }) (record { lines = lines_to false bytes; long = true })) (take-append-add held left room)

line_of_both : (fits : Bool) (held left : List ℕ) (room i : ℕ) → feed_at held ≡ Some i → by_size fits held room left ≡ with_line (without_return (take i held)) (by_size fits (drop (suc i) held) room left)
unfolding by_size
line_of_both true held left room i e = ap (λ lines. record { lines = lines; long = false }) (lines_end true held left i e)
line_of_both false held left room i e = ap (λ lines. record { lines = lines; long = true }) (lines_end false held (take room left) i e)

-- a line with an end
given-cut : (held left : List ℕ) (room i : ℕ) → feed_at held ≡ Some i
    → given_of (length held + room) (held ++ left) ≡ with_line (without_return (take i held)) (given_of (length (drop (suc i) held) + room) (drop (suc i) held ++ left))
given-cut held left room i e =
    given-held held left room
    ∙ (line_of_both (leb (length left) room) held left room i e
    ∙ ap (with_line (without_return (take i held))) (sym (given-held (drop (suc i) held) left room)))

-- nothing is left
given-end : (room : ℕ) → given_of (length {A = ℕ} [] + room) ([] ++ []) ≡ record { lines = []; long = false }
unfolding by_size lines_to
given-end room = given-held [] [] room ∙ ap (λ t. by_size t [] room []) (leb-zero room)

-- a line without an end, and nothing behind it
given-last : (held : List ℕ) (room : ℕ) → feed_at held ≡ None → (held ≡ [] → ⊥) → given_of (length held + room) (held ++ []) ≡ with_line held (given_of (length {A = ℕ} [] + room) ([] ++ []))
unfolding by_size
given-last [] room e some = absurd (some refl)
given-last (b ∷ bs) room e some =
    given-held (b ∷ bs) [] room
    ∙ (ap (λ t. by_size t (b ∷ bs) room []) (leb-zero room)
    ∙ (ap (λ bytes. record { lines = lines_to true bytes; long = false }) (append-nil (b ∷ bs))
    ∙ (ap (λ lines. record { lines = lines; long = false }) (lines_last b bs e)
    ∙ ap (with_line (b ∷ bs)) (sym (given-end room)))))

-- more than is taken
given-long : (held left : List ℕ) → feed_at held ≡ None → (left ≡ [] → ⊥) → given_of (length held + 0) (held ++ left) ≡ record { lines = []; long = true }
unfolding by_size
given-long held [] e some = absurd (some refl)
given-long held (b ∷ bs) e some =
    given-held held (b ∷ bs) 0
    ∙ (ap (λ t. by_size t held 0 (b ∷ bs)) (too_many (length bs))
    ∙ (ap (λ bytes. record { lines = lines_to false bytes; long = true }) (append-nil held)
    ∙ ap (λ lines. record { lines = lines; long = true }) (ended_none held e)))
  where
    too_many : (n : ℕ) → leb (suc n) 0 ≡ false
    too_many n = grind (arith, nat_tests)

-- a line that was taken leaves less
pub fewer : (old new : Held) (i : ℕ) → feed_at old.bytes ≡ Some i → new ≡ record { bytes = drop (suc i) old.bytes; room = old.room } → budget new < budget old
fewer old new i e n =
    let size : budget new ≡ length (drop (suc i) old.bytes) + old.room = ap budget n in
    omega (arith, length-drop (suc i) old.bytes, feed_within old.bytes i e)

-- what has been read on is what was to come
pub same-after : {A : Type 0} (a b c : Option A) → IsSame a b → IsSame b c → IsSame a c
same-after None b c p q = tt
same-after {A} (Some g) b c p q = let P : Option A → Type 0 = λ o. IsSame o c in subst P p q

feed_before : (a b : List ℕ) (i : ℕ) → feed_at a ≡ Some i → feed_at (a ++ b) ≡ Some i
unfolding feed_at
feed_before [] b i h = cc
feed_before (x ∷ a) b i h = by_test (eqb x 10) (feed_at a) h (λ j e. feed_before a b j e)
  where
    by_test : (t : Bool) (o : Option ℕ) → cond t (Some 0) (option_map suc o) ≡ Some i → ((j : ℕ) → o ≡ Some j → feed_at (a ++ b) ≡ Some j) → cond t (Some 0) (option_map suc (feed_at (a ++ b))) ≡ Some i
    by_test true o e next = e
    by_test false None e next = cc
    by_test false (Some j) e next = ap (option_map suc) (next j refl) ∙ e

-- the first line of what is held is the first line of all
pub cuts_line : (start old new : Held) (first left : Option (List ℕ)) (i : ℕ) (line : List ℕ) → IsSame (rest_of start first) (rest_of old left) → feed_at old.bytes ≡ Some i → line ≡ without_return (take i old.bytes)
    → new ≡ record { bytes = drop (suc i) old.bytes; room = old.room } → CutsLine (rest_of start first) (rest_of new left) line
cuts_line start old new None left i line same e l n = tt
cuts_line start old new (Some more) None i line same e l n = cc
cuts_line start old new (Some more) (Some rest) i line same e l n =
    let is : old.bytes ++ rest ≡ start.bytes ++ more = cc in
    let within : i < length old.bytes = feed_within old.bytes i e in
    let whole : feed_at (start.bytes ++ more) ≡ Some i = ap feed_at (sym is) ∙ feed_before old.bytes rest i e in
    let front : take i old.bytes ≡ take i (start.bytes ++ more) = sym (take-append-le i old.bytes rest (omega arith)) ∙ ap (take i) is in
    let behind : drop (suc i) old.bytes ++ rest ≡ drop (suc i) (start.bytes ++ more) = sym (drop-append-le (suc i) old.bytes rest (omega arith)) ∙ ap (drop (suc i)) is in
    (drop (suc i) (start.bytes ++ more), ap (λ (h : Held). Some (h.bytes ++ rest)) n ∙ ap (λ bytes. Some bytes) behind, inl (i, whole, l ∙ ap without_return front, refl))

-- a last line without an end is all that there is
pub cuts_last : (start old new : Held) (first left now : Option (List ℕ)) (line : List ℕ) → IsSame (rest_of start first) (rest_of old left) → feed_at old.bytes ≡ None → IfSome left (λ bytes. (bytes ≡ []) × (now ≡ Some []))
    → line ≡ old.bytes → new ≡ record { bytes = []; room = old.room } → (old.bytes ≡ [] → ⊥) → CutsLine (rest_of start first) (rest_of new now) line
cuts_last start old new None left now line same e ended l n some = tt
cuts_last start old new (Some more) None now line same e ended l n some = cc
cuts_last start old new (Some more) (Some rest) now line same e ended l n some =
    let is : old.bytes ++ rest ≡ start.bytes ++ more = cc in
    let all : old.bytes ≡ start.bytes ++ more = sym (append-nil old.bytes) ∙ (ap (λ bytes. old.bytes ++ bytes) (sym ended.0) ∙ is) in
    ([], ap (option_map (λ bytes. new.bytes ++ bytes)) ended.1 ∙ ap (λ (h : Held). Some (h.bytes ++ [])) n, inr (ap feed_at (sym all) ∙ e, λ none. some (all ∙ none), l ∙ all, refl))

pub takes_line : (start old new : Held) (first left : Option (List ℕ)) (i : ℕ) (line : List ℕ) → IsSame (to_come start first) (to_come old left) → feed_at old.bytes ≡ Some i → line ≡ without_return (take i old.bytes)
    → new ≡ record { bytes = drop (suc i) old.bytes; room = old.room } → TakesLine (to_come start first) (to_come new left) line
unfolding to_come
takes_line start old new None left i line same e l n = tt
takes_line start old new (Some more) None i line same e l n = cc
takes_line start old new (Some more) (Some rest) i line same e l n =
    let now : given_of (length start.bytes + start.room) (start.bytes ++ more) ≡ given_of (length old.bytes + old.room) (old.bytes ++ rest) = cc in (
      given_of (length (drop (suc i) old.bytes) + old.room) (drop (suc i) old.bytes ++ rest),
      ap (λ (h : Held). Some (given_of (budget h) (h.bytes ++ rest))) n,
      now ∙ (given-cut old.bytes rest old.room i e ∙ ap (λ w. with_line w (given_of (length (drop (suc i) old.bytes) + old.room) (drop (suc i) old.bytes ++ rest))) (sym l)),
    )

pub takes_last : (start old new : Held) (first left now : Option (List ℕ)) (line : List ℕ) → IsSame (to_come start first) (to_come old left) → feed_at old.bytes ≡ None → IfSome left (λ bytes. (bytes ≡ []) × (now ≡ Some []))
    → line ≡ old.bytes → new ≡ record { bytes = []; room = old.room } → (old.bytes ≡ [] → ⊥) → TakesLine (to_come start first) (to_come new now) line
unfolding to_come
takes_last start old new None left now line same e ended l n some = tt
takes_last start old new (Some more) None now line same e ended l n some = cc
takes_last start old new (Some more) (Some rest) now line same e ended l n some =
    let before : given_of (length start.bytes + start.room) (start.bytes ++ more) ≡ given_of (length old.bytes + old.room) (old.bytes ++ rest) = cc in (
      given_of (length {A = ℕ} [] + old.room) ([] ++ []),
      ap (option_map (λ bytes. given_of (budget new) (new.bytes ++ bytes))) ended.1 ∙ ap (λ (h : Held). Some (given_of (budget h) (h.bytes ++ []))) n,
      before ∙ (ap (λ bytes. given_of (length old.bytes + old.room) (old.bytes ++ bytes)) ended.0 ∙ (given-last old.bytes old.room e some ∙ ap (λ w. with_line w (given_of (length {A = ℕ} [] + old.room) ([] ++ []))) (sym l))),
    )

pub is_at_end : (start old : Held) (first left : Option (List ℕ)) (now : Option (List ℕ)) → IsSame (to_come start first) (to_come old left) → IfSome left (λ bytes. (bytes ≡ []) × (now ≡ Some [])) → old.bytes ≡ [] → IsAtEnd (to_come start first) false
unfolding to_come
is_at_end start old None left now same ended none = tt
is_at_end start old (Some more) None now same ended none = cc
is_at_end start old (Some more) (Some rest) now same ended none =
    let before : given_of (length start.bytes + start.room) (start.bytes ++ more) ≡ given_of (length old.bytes + old.room) (old.bytes ++ rest) = cc in
    before ∙ (ap (λ bytes. given_of (length old.bytes + old.room) (old.bytes ++ bytes)) ended.0 ∙ (ap (λ bytes. given_of (length bytes + old.room) (bytes ++ [])) none ∙ given-end old.room))

pub is_long : (start old : Held) (first left : Option (List ℕ)) → IsSame (to_come start first) (to_come old left) → feed_at old.bytes ≡ None → old.room ≡ 0 → IfSome left (λ bytes. (bytes ≡ []) → ⊥) → IsAtEnd (to_come start first) true
unfolding to_come
is_long start old None left same e full some = tt
is_long start old (Some more) None same e full some = cc
is_long start old (Some more) (Some rest) same e full some =
    let before : given_of (length start.bytes + start.room) (start.bytes ++ more) ≡ given_of (length old.bytes + old.room) (old.bytes ++ rest) = cc in
    before ∙ (ap (λ n. given_of (length old.bytes + n) (old.bytes ++ rest)) full ∙ given-long old.bytes rest e some)

-- reading on moves bytes from what is left to what is held
pub fills : (old new : Held) (left now : Option (List ℕ)) (piece : List ℕ) → new.bytes ≡ old.bytes ++ piece → new.room + length piece ≡ old.room → 0 < length piece → IsCutFrom left now piece
    → IsSame (to_come old left) (to_come new now) × (budget new ≡ budget old) × (new.room < old.room) × IsSame (rest_of old left) (rest_of new now)
unfolding to_come
fills old new left now piece bytes room some cut =
    let size : length new.bytes ≡ length old.bytes + length piece = ap length bytes ∙ length-append old.bytes piece in
    let kept : budget new ≡ budget old = omega arith in
    (told left cut kept, kept, omega arith, rest left cut)
  where
    rest : (l : Option (List ℕ)) → IsCutFrom l now piece → IsSame (rest_of old l) (rest_of new now)
    rest None h = tt
    rest (Some left) h =
        let moved : new.bytes ++ h.0 ≡ old.bytes ++ left = ap (λ bs. bs ++ h.0) bytes ∙ (append_assoc old.bytes piece h.0 ∙ ap (λ bs. old.bytes ++ bs) (sym h.2)) in
        ap (option_map (λ more. new.bytes ++ more)) h.1 ∙ ap (λ given. Some given) moved

    told : (l : Option (List ℕ)) → IsCutFrom l now piece → budget new ≡ budget old → IsSame (option_map (λ more. given_of (budget old) (old.bytes ++ more)) l) (option_map (λ more. given_of (budget new) (new.bytes ++ more)) now)
    told None h kept = tt
    told (Some left) h kept =
        let moved : new.bytes ++ h.0 ≡ old.bytes ++ left = ap (λ bs. bs ++ h.0) bytes ∙ (append_assoc old.bytes piece h.0 ∙ ap (λ bs. old.bytes ++ bs) (sym h.2)) in
        ap (option_map (λ more. given_of (budget new) (new.bytes ++ more))) h.1 ∙ ap (λ given. Some given) (ap (λ size. given_of size (new.bytes ++ h.0)) kept ∙ ap (given_of (budget old)) moved)

pub ends_here : (left now : Option (List ℕ)) (piece : List ℕ) → piece ≡ [] → IsCutFrom left now piece → IfSome left (λ bytes. (bytes ≡ []) × (now ≡ Some []))
ends_here None now piece e cut = tt
ends_here (Some bytes) now piece e cut =
    let none : cut.0 ≡ [] = cut.3 e in
    (cut.2 ∙ (ap (λ bs. bs ++ cut.0) e ∙ none), cut.1 ∙ ap (λ bs. Some bs) none)

-- nothing was read
pub still_to_come : (start old new : Held) (first left now : Option (List ℕ)) → IsSame (to_come start first) (to_come old left) → new ≡ old → IsSame left now → IsSame (to_come start first) (to_come new now)
unfolding to_come
still_to_come start old new None left now same e l = tt
still_to_come start old new (Some more) None now same e l = cc
still_to_come start old new (Some more) (Some bytes) now same e l = ap (to_come new) l ∙ (ap (λ (h : Held). to_come h (Some bytes)) e ∙ same)

pub still_there : (start old new : Held) (first left now : Option (List ℕ)) → IsSame (rest_of start first) (rest_of old left) → new ≡ old → IsSame left now → IsSame (rest_of start first) (rest_of new now)
still_there start old new None left now same e l = tt
still_there start old new (Some more) None now same e l = cc
still_there start old new (Some more) (Some bytes) now same e l = ap (rest_of new) l ∙ (ap (λ (h : Held). rest_of h (Some bytes)) e ∙ same)
