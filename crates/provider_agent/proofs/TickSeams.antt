-- Places in order, at which records are ticked one after another: what lies between them stays as it is.
use Rattle.std.proofs.Common.{◌≡◌, ◌≤◌, ◌<◌, ◌+◌, ◌-◌, ◌∙◌, ℕ, zero, suc, add-one, Bool, true, false, List, [], ◌∷◌, ◌++◌, length, take, drop, set, get_or, refl, sym, ap, subst, arith, inl, inr}
use Rattle.std.specs.List.{Contains}
use Rattle.std.specs.List.Sorted.{IsStrictlyIncreasing}
use Rattle.std.proofs.lemmas.Bool.{cases_lt}
use Rattle.std.proofs.lemmas.List.{append-nil, append_assoc, length-take-le, drop_more, drop_all, take_all, get_or_default}
use Rattle.std.proofs.lemmas.List.Elements.{Contains-get_or}
use Rattle.std.proofs.lemmas.List.Kept.{AllPairs-from_increasing}
use Rattle.std.proofs.lemmas.Map.Keys.{non_decreasing_from_sorted, sorted_from_strictly_increasing}
use Rattle.nsi_primitive.specs.Ids.{id_of}
use Rattle.nsi_primitive.specs.declared.message.Message.{Message}
use Rattle.connection_record.specs.declared.record.Record.{Record}
use Rattle.connection_record.specs.Replies.{Moved}
use Rattle.provider_agent.specs.declared.agent.Agent.{Agent}
use Rattle.provider_agent.specs.State.{no_record, record_at}
use Rattle.provider_agent.specs.Steps.{Ticked, tick_more, ticks_all, told_at, is_told_at, drawn, messages_by}
use Rattle.provider_agent.specs.Ticks.{AreDue, is_touched}
use Rattle.provider_agent.proofs.TickQuiet.{quiet_told, quiet_draws}

---- A seam

-- the first places lie before it, and the others don't
pub record IsSeam (due : List ℕ) (i k : ℕ) : Type 0 where
  pub done : (j : ℕ) → j < i → get_or due j 0 < k
  pub ahead : (j : ℕ) → i ≤ j → j < length due → k ≤ get_or due j 0

not_after : (due : List ℕ) (i j : ℕ) → IsStrictlyIncreasing due → i ≤ j → j < length due → get_or due i 0 ≤ get_or due j 0
not_after due i j up le l = non_decreasing_from_sorted due (sorted_from_strictly_increasing due up) i j 0 le l

seam_at : (due : List ℕ) (i : ℕ) → IsStrictlyIncreasing due → i < length due → IsSeam due i (get_or due i 0)
seam_at due i up l = record { done = λ j m. AllPairs-from_increasing due up j i 0 m l; ahead = λ j le m. not_after due i j up le m }

-- what is a place's successor lies behind it and all before it
behind : (due : List ℕ) (i j : ℕ) → IsStrictlyIncreasing due → i < length due → j < i + 1 → get_or due j 0 < get_or due i 0 + 1
behind due i j up l m = omega (arith, not_after due j i up (omega arith) l)

seam_end : (due : List ℕ) (i count : ℕ) → i ≤ length due → length due ≤ i → ((j : ℕ) → j < length due → get_or due j 0 < count) → IsSeam due i count
seam_end due i count le ge below = record { done = λ j m. below j (omega arith); ahead = λ j n m. absurd (omega arith) }

unless_true : (b : Bool) → (b ≡ true → ⊥) → b ≡ false
unless_true true never = absurd (never refl)
unless_true false never = refl

-- between two seams no record is touched
is_quiet : (before now : ℕ) (xs : List Record) (due : List ℕ) (i a k q : ℕ) → AreDue before now xs due → ((j : ℕ) → j < i → get_or due j 0 < a) → IsSeam due i k → a ≤ q → q < k → q < length xs → is_touched before now (record_at q xs) ≡ false
is_quiet before now xs due i a k q d done seam ge lt l = unless_true (is_touched before now (record_at q xs)) (λ h.
    let has : Contains due q = d.all q l h in
    let at : get_or due has.0 0 ≡ q = get_or_default due has.0 0 q has.1 ∙ has.2 in
    elim (cases_lt has.0 i) [
      | inl m ↦ omega (arith, done has.0 m, at)
      | inr n ↦ omega (arith, seam.ahead has.0 n has.1, at)
    ])

-- what each step leaves is the same at both ends
through : {A : Type 0} (P : ℕ → A) (a m : ℕ) → ((q : ℕ) → a ≤ q → q < a + m → P q ≡ P (q + 1)) → P a ≡ P (a + m)
through P a zero same = ap P (omega arith)
through P a (suc m) same = through P a m (λ q le l. same q le (omega arith)) ∙ (same (a + m) (omega arith) (omega arith) ∙ ap P (omega arith))

along : {A : Type 0} (P : ℕ → A) (a k : ℕ) → a ≤ k → ((q : ℕ) → a ≤ q → q < k → P q ≡ P (q + 1)) → P a ≡ P k
along P a k le same =
    let end : a + (k - a) ≡ k = omega arith in
    through P a (k - a) (λ q ge l. same q ge (omega (arith, end))) ∙ ap P end

pub place_within : (before now : ℕ) (xs : List Record) (due : List ℕ) (i : ℕ) → AreDue before now xs due → i < length due → get_or due i 0 < length xs
place_within before now xs due i d l = d.within (get_or due i 0) (Contains-get_or due i 0 l)

---- Lists

-- three parts
abbrev pub ticked_as : List Record → List Message → ℕ → Ticked
ticked_as records out next = record { records = records; out = out; next = next }

set_behind : {X : Type 0} (front : List X) (x y : X) (rest : List X) (p : ℕ) → length front ≡ p → set (front ++ x ∷ rest) p y ≡ front ++ y ∷ rest
set_behind {X} front x y rest p e = subst (λ n. set (front ++ x ∷ rest) n y ≡ front ++ y ∷ rest) e (at_end front)
  where
    at_end : (front : List X) → set (front ++ x ∷ rest) (length front) y ≡ front ++ y ∷ rest
    at_end [] = refl
    at_end (z ∷ zs) = ap (λ ys. z ∷ ys) (at_end zs)

get_behind : {X : Type 0} (front : List X) (x : X) (rest : List X) (p : ℕ) (d : X) → length front ≡ p → get_or (front ++ x ∷ rest) p d ≡ x
get_behind {X} front x rest p d e = subst (λ n. get_or (front ++ x ∷ rest) n d ≡ x) e (at_end front)
  where
    at_end : (front : List X) → get_or (front ++ x ∷ rest) (length front) d ≡ x
    at_end [] = refl
    at_end (z ∷ zs) = at_end zs

---- One record more is ticked

module _ (agent : Agent) (before now : ℕ) where
  -- the tick of a record behind others
  abbrev pub after_one : Ticked → Record → Ticked
  after_one t r =
      let x = told_at agent before now (id_of agent.number t.next) r in
      record { records = t.records ++ x.rec ∷ []; out = t.out ++ messages_by agent.name x; next = t.next + drawn (is_told_at agent before now r) }

  more_after : (x : Moved) (t : Ticked) (r : Record) → tick_more agent x (after_one t r) ≡ after_one (tick_more agent x t) r
  more_after x t r =
      let y = told_at agent before now (id_of agent.number t.next) r in
      ap (λ (out : List Message). record { records = x.rec ∷ (t.records ++ y.rec ∷ []); out = out; next = t.next + drawn (is_told_at agent before now r) })
      (sym (append_assoc (messages_by agent.name x) t.out (messages_by agent.name y)))

-- by recursion
one_by_one : (agent : Agent) (before now next : ℕ) (xs : List Record) (k : ℕ) → k < length xs
    → ticks_all agent before now next (take (suc k) xs) ≡ after_one agent before now (ticks_all agent before now next (take k xs)) (record_at k xs)
unfolding ticks_all
one_by_one agent before now next [] k l = absurd (omega arith)
one_by_one agent before now next (x ∷ xs) zero l =
    let y = told_at agent before now (id_of agent.number next) x in
    ap (λ (out : List Message). record { records = y.rec ∷ []; out = out; next = next + drawn (is_told_at agent before now x) }) (append-nil (messages_by agent.name y))
one_by_one agent before now next (x ∷ xs) (suc k) l =
    let y = told_at agent before now (id_of agent.number next) x in
    let then = next + drawn (is_told_at agent before now x) in
    ap (tick_more agent y) (one_by_one agent before now then xs k (omega arith)) ∙ more_after agent before now y (ticks_all agent before now then (take k xs)) (record_at k xs)

one_more : (agent : Agent) (before now next : ℕ) (xs : List Record) (k : ℕ) → k < length xs
    → ticks_all agent before now next (take (k + 1) xs) ≡ after_one agent before now (ticks_all agent before now next (take k xs)) (record_at k xs)
one_more agent before now next xs k l = ap (λ n. ticks_all agent before now next (take n xs)) (add-one k) ∙ one_by_one agent before now next xs k l

pub length_ticked : (agent : Agent) (before now next : ℕ) (xs : List Record) → length (ticks_all agent before now next xs).records ≡ length xs
unfolding ticks_all
length_ticked agent before now next [] = refl
length_ticked agent before now next (x ∷ xs) = let rest = length_ticked agent before now (next + drawn (is_told_at agent before now x)) xs in omega (arith, rest)

drawn_most : (told : Bool) → drawn told ≤ 1
drawn_most true = omega arith
drawn_most false = omega arith

-- at most one id is drawn for each record
pub next_most : (agent : Agent) (before now next : ℕ) (xs : List Record) → (ticks_all agent before now next xs).next ≤ next + length xs
unfolding ticks_all
next_most agent before now next [] = omega arith
next_most agent before now next (x ∷ xs) =
    let told = is_told_at agent before now x in
    omega (arith, next_most agent before now (next + drawn told) xs, drawn_most told)

-- a record that isn't touched is as it was
one_still : (agent : Agent) (before now : ℕ) (t : Ticked) (r : Record) → is_touched before now r ≡ false → after_one agent before now t r ≡ record { records = t.records ++ r ∷ []; out = t.out; next = t.next }
one_still agent before now t r quiet =
    ap (λ (x : Moved). record { records = t.records ++ x.rec ∷ []; out = t.out ++ messages_by agent.name x; next = t.next + drawn (is_told_at agent before now r) })
    (quiet_told agent before now (id_of agent.number t.next) r quiet)
    ∙ (ap (λ (b : Bool). ticked_as (t.records ++ r ∷ []) (t.out ++ []) (t.next + drawn b)) (quiet_draws agent before now r quiet)
    ∙ (let none : t.next + 0 ≡ t.next = omega arith in ap (ticked_as (t.records ++ r ∷ []) (t.out ++ [])) none
    ∙ ap (λ (out : List Message). ticked_as (t.records ++ r ∷ []) out t.next) (append-nil t.out)))

---- What stands at a seam

-- the first records are ticked, and behind them stand the others
abbrev pub with_rest : Ticked → List Record → Ticked
with_rest t rest = record { records = t.records ++ rest; out = t.out; next = t.next }

abbrev pub seam_of : Agent → (before now next : ℕ) → List Record → ℕ → Ticked
seam_of agent before now next xs k = with_rest (ticks_all agent before now next (take k xs)) (drop k xs)

-- a record at a place is ticked
abbrev pub touched : Agent → (before now : ℕ) → Ticked → ℕ → Record → Ticked
touched agent before now t p r =
    let x = told_at agent before now (id_of agent.number t.next) r in
    record { records = set t.records p x.rec; out = t.out ++ messages_by agent.name x; next = t.next + drawn (is_told_at agent before now r) }

-- up to each seam the records are ticked
abbrev pub IsTicked : Agent → (before now next : ℕ) → List Record → List ℕ → ℕ → Ticked → Type 0
IsTicked agent before now next xs due i t = (k : ℕ) → k ≤ length xs → IsSeam due i k → t ≡ seam_of agent before now next xs k

module _ (agent : Agent) (before now next : ℕ) (xs : List Record) (due : List ℕ) (d : AreDue before now xs due) where
  abbrev done_to : ℕ → Ticked
  done_to k = ticks_all agent before now next (take k xs)

  front_long : (k : ℕ) → k ≤ length xs → length (done_to k).records ≡ k
  front_long k l = length_ticked agent before now next (take k xs) ∙ length-take-le k xs l

  seam_still : (k : ℕ) → k < length xs → is_touched before now (record_at k xs) ≡ false → seam_of agent before now next xs k ≡ seam_of agent before now next xs (k + 1)
  seam_still k l quiet =
      let t = done_to k in
      let r = record_at k xs in
      ap (with_rest t) (drop_more xs k no_record l)
      ∙ (ap (λ (rs : List Record). record { records = rs; out = t.out; next = t.next }) (sym (append_assoc t.records (r ∷ []) (drop (k + 1) xs)))
      ∙ ap (λ (z : Ticked). with_rest z (drop (k + 1) xs)) (sym (one_more agent before now next xs k l ∙ one_still agent before now t r quiet)))

  here_at : (k : ℕ) → k < length xs → record_at k (seam_of agent before now next xs k).records ≡ record_at k xs
  here_at k l =
      let t = done_to k in
      ap (λ rest. record_at k (t.records ++ rest)) (drop_more xs k no_record l) ∙ get_behind t.records (record_at k xs) (drop (k + 1) xs) k no_record (front_long k (omega (arith, l)))

  seam_touched : (k : ℕ) → k < length xs → touched agent before now (seam_of agent before now next xs k) k (record_at k xs) ≡ seam_of agent before now next xs (k + 1)
  seam_touched k l =
      let t = done_to k in
      let r = record_at k xs in
      let x = told_at agent before now (id_of agent.number t.next) r in
      let out = t.out ++ messages_by agent.name x in
      let ids = t.next + drawn (is_told_at agent before now r) in
      ap (λ (rest : List Record). record { records = set (t.records ++ rest) k x.rec; out = out; next = ids }) (drop_more xs k no_record l)
      ∙ (ap (λ (rs : List Record). record { records = rs; out = out; next = ids })
      (set_behind t.records r x.rec (drop (k + 1) xs) k (front_long k (omega (arith, l))) ∙ sym (append_assoc t.records (x.rec ∷ []) (drop (k + 1) xs)))
      ∙ ap (λ (z : Ticked). with_rest z (drop (k + 1) xs)) (sym (one_more agent before now next xs k l)))

  between : (i a k : ℕ) → a ≤ k → k ≤ length xs → ((j : ℕ) → j < i → get_or due j 0 < a) → IsSeam due i k → seam_of agent before now next xs a ≡ seam_of agent before now next xs k
  between i a k le within done seam = along (seam_of agent before now next xs) a k le
      (λ q ge l. let inside : q < length xs = omega (arith, l, within) in seam_still q inside (is_quiet before now xs due i a k q d done seam ge l inside))

  pub ticked_none : IsTicked agent before now next xs due 0 (record { records = xs; out = []; next = next })
  unfolding ticks_all
  ticked_none k within seam = between 0 0 k (omega arith) within (λ j m. absurd (omega arith)) seam

  -- what stands at the next place is still as it was
  pub ticked_here : (i : ℕ) (t : Ticked) → i < length due → IsTicked agent before now next xs due i t → record_at (get_or due i 0) t.records ≡ record_at (get_or due i 0) xs
  ticked_here i t l so_far =
      let p = get_or due i 0 in
      let inside : p < length xs = place_within before now xs due i d l in
      ap (λ (z : Ticked). record_at p z.records) (so_far p (omega (arith, inside)) (seam_at due i d.rising l)) ∙ here_at p inside

  pub ticked_more : (i : ℕ) (t : Ticked) → i < length due → IsTicked agent before now next xs due i t
      → IsTicked agent before now next xs due (i + 1) (touched agent before now t (get_or due i 0) (record_at (get_or due i 0) t.records))
  ticked_more i t l so_far k within seam =
      let p = get_or due i 0 in
      let inside : p < length xs = place_within before now xs due i d l in
      let here = so_far p (omega (arith, inside)) (seam_at due i d.rising l) in
      let next_one : p < k = seam.done i (omega arith) in
      ap (touched agent before now t p) (ticked_here i t l so_far)
      ∙ (ap (λ (z : Ticked). touched agent before now z p (record_at p xs)) here
      ∙ (seam_touched p inside ∙ between (i + 1) (p + 1) k (omega (arith, next_one)) within (λ j m. behind due i j d.rising l m) seam))

  pub ticked_next : (i : ℕ) (t : Ticked) → i < length due → IsTicked agent before now next xs due i t → t.next ≤ next + length xs
  ticked_next i t l so_far =
      let p = get_or due i 0 in
      let inside : p < length xs = place_within before now xs due i d l in
      let next_is = ap (λ (z : Ticked). z.next) (so_far p (omega (arith, inside)) (seam_at due i d.rising l)) in
      omega (arith, next_is, next_most agent before now next (take p xs), length-take-le p xs (omega (arith, inside)), inside)

  pub ticked_all : (i : ℕ) (t : Ticked) → i ≤ length due → length due ≤ i → IsTicked agent before now next xs due i t → t ≡ ticks_all agent before now next xs
  ticked_all i t le ge so_far =
      so_far (length xs) (omega arith) (seam_end due i (length xs) le ge (λ j m. place_within before now xs due j d m))
      ∙ (ap (λ (ys : List Record). with_rest (ticks_all agent before now next ys) (drop (length xs) xs)) (take_all (length xs) xs (omega arith))
      ∙ (ap (with_rest (ticks_all agent before now next xs)) (drop_all (length xs) xs (omega arith))
      ∙ ap (λ (rs : List Record). record { records = rs; out = (ticks_all agent before now next xs).out; next = (ticks_all agent before now next xs).next }) (append-nil (ticks_all agent before now next xs).records)))

pub ticked_of : (records records2 : List Record) (out out2 : List Message) (next next2 : ℕ) → records ≡ records2 → out ≡ out2 → next ≡ next2
    → ticked_as records out next ≡ ticked_as records2 out2 next2
ticked_of records records2 out out2 next next2 e f g =
    ap (λ (rs : List Record). record { records = rs; out = out; next = next }) e
    ∙ (ap (λ (os : List Message). record { records = records2; out = os; next = next }) f ∙ ap (λ (n : ℕ). record { records = records2; out = out2; next = n }) g)

-- what a record's tick says of the seconds that were handed on
pub touched_at : (agent : Agent) (before now before2 now2 : ℕ) (t : Ticked) (p : ℕ) (records : List Record) (out : List Message) (next : ℕ) → before2 ≡ before → now2 ≡ now
    → records ≡ (touched agent before2 now2 t p (record_at p t.records)).records → out ≡ (touched agent before2 now2 t p (record_at p t.records)).out → next ≡ (touched agent before2 now2 t p (record_at p t.records)).next
    → ticked_as records out next ≡ touched agent before now t p (record_at p t.records)
touched_at agent before now before2 now2 t p records out next same_before same_now e f g =
    let x = touched agent before2 now2 t p (record_at p t.records) in
    ticked_of records x.records out x.out next x.next e f g
    ∙ (ap (λ b. touched agent b now2 t p (record_at p t.records)) same_before ∙ ap (λ n. touched agent before n t p (record_at p t.records)) same_now)
