-- Messages that are got as they are due are got once.
use Rattle.std.proofs.Common.{◌≡◌, ◌≤◌, ◌<◌, ◌+◌, ◌||◌, ◌∙◌, ℕ, suc, Bool, true, false, List, [], ◌∷◌, ◌++◌, eqb, Some, refl, sym, ap, subst, arith, length, slice_get, ne_eqb}
use Rattle.std.specs.List.{All, AllByRecursion, Contains, IsDistinct, list_any}
use Rattle.std.proofs.lemmas.Bool.{eqb-true}
use Rattle.std.proofs.lemmas.List.Elements.{All-nil, All-cons, All-head, All-tail, All-append}
use Rattle.std.proofs.lemmas.List.Sums.{sum_by-cons}
use Rattle.std.proofs.lemmas.Map.Steps.{length-le_from_distinct_below}
use Rattle.std.proofs.lemmas.Option.{slice_get-get_or, same_Some}
use Rattle.nsi_primitive.specs.declared.entry.Entry.{Entry}
use Rattle.nsi_primitive.specs.declared.entry.Input.{Input}
use Rattle.nsi_primitive.specs.declared.message.Message.{Message}
use Rattle.agent_state.specs.State.{AgentState}
use Rattle.nsi_agent.specs.Homes.{Home}
use Rattle.nsi_agent.specs.Steps.{after}
use Rattle.due_events.specs.Counts.{is_got, has_kind, entries_in}
use Rattle.due_events.specs.Due.{IsDueInput}
use Rattle.due_events.proofs.Entries.{one_if}
use Rattle.due_events.proofs.Journals.{IsTakenDue, AreTakenDue}
use Rattle.due_events.proofs.Seeing.{WasTaken, IsNoted, still_taken, new_not_taken, now_taken}

---- Messages that are got

abbrev pub got_by : Input → List Message
got_by (Input.Got m) = m ∷ []
got_by input = []

abbrev pub messages_got : List Entry → List Message
messages_got [] = []
messages_got (e ∷ es) = got_by e.input ++ messages_got es

one_got : (input : Input) (ms : List Message) → length (got_by input ++ ms) ≡ one_if (is_got input) + length ms
one_got (Input.Got m) ms = omega arith
one_got (Input.Work n machine) ms = omega arith
one_got (Input.Force n) ms = omega arith
one_got (Input.Acked i) ms = omega arith
one_got Input.Tick ms = omega arith
one_got (Input.Ask n ask) ms = omega arith

pub all_got : (es : List Entry) → length (messages_got es) ≡ entries_in is_got es
all_got [] = refl
all_got (e ∷ es) = omega (arith, one_got e.input (messages_got es), sum_by-cons (λ (x : Entry). one_if (has_kind is_got x)) e es, all_got es)

---- No two are one

-- it is another one
abbrev pub Differs : Message → Message → Type 0
Differs m n = m ≡ n → ⊥

abbrev pub AreApart : List Message → Type 0
AreApart [] = Unit {0}
AreApart (m ∷ ms) = All (Differs m) ms × AreApart ms

pub apart_append : (xs ys : List Message) → AreApart xs → AreApart ys → All (λ x. All (Differs x) ys) xs → AreApart (xs ++ ys)
apart_append [] ys p q r = q
apart_append (x ∷ xs) ys p q r =
    (All-append (Differs x) xs ys p.0 (All-head (λ z. All (Differs z) ys) x xs r), apart_append xs ys p.1 q (All-tail (λ z. All (Differs z) ys) x xs r))

-- what was taken isn't got
taken_apart : (h : Home) (m : Message) (s : AgentState) (es : List Entry) → AreTakenDue h s es → All (IsNoted h.role) (messages_got es) → WasTaken m s.base → All (Differs m) (messages_got es)
unfolding AreTakenDue
taken_apart h m s [] all noted old = All-nil (Differs m)
taken_apart h m s (e ∷ es) all noted old = by e.input all.0.due noted (λ rest. taken_apart h m (after h s e).state es all.1 rest (still_taken h.role s e m all.0.may old))
  where
    by : (input : Input) → IsDueInput h s input → All (IsNoted h.role) (got_by input ++ messages_got es) → (All (IsNoted h.role) (messages_got es) → All (Differs m) (messages_got es)) → All (Differs m) (got_by input ++ messages_got es)
    by (Input.Got n) new noted rest =
        All-cons (Differs m) n (messages_got es) (λ same. new_not_taken h s n (All-head (IsNoted h.role) n (messages_got es) noted) new (subst (λ (x : Message). WasTaken x s.base) same old))
        (rest (All-tail (IsNoted h.role) n (messages_got es) noted))
    by (Input.Work n machine) due noted rest = rest noted
    by (Input.Force n) due noted rest = rest noted
    by (Input.Acked i) due noted rest = rest noted
    by Input.Tick due noted rest = rest noted
    by (Input.Ask n ask) due noted rest = rest noted

pub got_apart : (h : Home) (s : AgentState) (es : List Entry) → AreTakenDue h s es → All (IsNoted h.role) (messages_got es) → AreApart (messages_got es)
unfolding AreTakenDue
got_apart h s [] all noted = tt
got_apart h s (e ∷ es) all noted = by e.input refl all.0.due noted (λ rest. got_apart h (after h s e).state es all.1 rest)
  where
    by : (input : Input) → e.input ≡ input → IsDueInput h s input → All (IsNoted h.role) (got_by input ++ messages_got es) → (All (IsNoted h.role) (messages_got es) → AreApart (messages_got es)) → AreApart (got_by input ++ messages_got es)
    by (Input.Got n) is new noted rest =
        let one : IsNoted h.role n = All-head (IsNoted h.role) n (messages_got es) noted in
        let others : All (IsNoted h.role) (messages_got es) = All-tail (IsNoted h.role) n (messages_got es) noted in
        let same : e ≡ record { second = e.second; input = Input.Got n } = ap (λ (i : Input). record { second = e.second; input = i }) is in
        let taken : IsTakenDue h s (record { second = e.second; input = Input.Got n }) = subst (IsTakenDue h s) same all.0 in
        let old : WasTaken n (after h s e).state.base = subst (λ (x : Entry). WasTaken n (after h s x).state.base) (sym same) (now_taken h s e.second n taken.may one new) in
        (taken_apart h n (after h s e).state es all.1 others old, rest others)
    by (Input.Work n machine) is due noted rest = rest noted
    by (Input.Force n) is due noted rest = rest noted
    by (Input.Acked i) is due noted rest = rest noted
    by Input.Tick is due noted rest = rest noted
    by (Input.Ask n ask) is due noted rest = rest noted

---- They are no more than those among which they stand

module _ (ms : List Message) where
  -- where each of them stands
  places : (xs : List Message) → All (Contains ms) xs → List ℕ
  places [] all = []
  places (x ∷ xs) all = (All-head (Contains ms) x xs all).0 ∷ places xs (All-tail (Contains ms) x xs all)

  places_length : (xs : List Message) (all : All (Contains ms) xs) → length (places xs all) ≡ length xs
  unfolding places
  places_length [] all = refl
  places_length (x ∷ xs) all = ap suc (places_length xs (All-tail (Contains ms) x xs all))

  -- where two stand at one place they are one
  one_place : (x y : Message) (c : Contains ms x) (d : Contains ms y) → c.0 ≡ d.0 → x ≡ y
  one_place x y c d e = same_Some x y (sym (ap Some c.2) ∙ (sym (slice_get-get_or ms c.0 x c.1) ∙ (ap (slice_get ms) e ∙ (slice_get-get_or ms d.0 y d.1 ∙ ap Some d.2))))

  others_place : (x : Message) (c : Contains ms x) (xs : List Message) (all : All (Contains ms) xs) → All (Differs x) xs → AllByRecursion (λ k. eqb c.0 k ≡ false) (places xs all)
  unfolding places
  others_place x c [] all n = tt
  others_place x c (y ∷ ys) all n =
      let d : Contains ms y = All-head (Contains ms) y ys all in
      (ne_eqb c.0 d.0 (λ e. All-head (Differs x) y ys n (one_place x y c d e)), others_place x c ys (All-tail (Contains ms) y ys all) (All-tail (Differs x) y ys n))

  places_apart : (xs : List Message) (all : All (Contains ms) xs) → AreApart xs → IsDistinct eqb (places xs all)
  unfolding places IsDistinct
  places_apart [] all n = tt
  places_apart (x ∷ xs) all n =
      let rest : All (Contains ms) xs = All-tail (Contains ms) x xs all in
      (others_place x (All-head (Contains ms) x xs all) xs rest n.0, places_apart xs rest n.1)

  places_within : (xs : List Message) (all : All (Contains ms) xs) (q : ℕ) → list_any (eqb q) (places xs all) ≡ true → q < length ms
  unfolding places
  places_within [] all q e = absurd (cc)
  places_within (x ∷ xs) all q e = by (eqb q c.0) refl e (places_within xs rest q)
    where
      c : Contains ms x
      c = All-head (Contains ms) x xs all

      rest : All (Contains ms) xs
      rest = All-tail (Contains ms) x xs all

      by : (b : Bool) → eqb q c.0 ≡ b → (b || list_any (eqb q) (places xs rest)) ≡ true → (list_any (eqb q) (places xs rest) ≡ true → q < length ms) → q < length ms
      by true h f more = let within = c.1 in omega (arith, eqb-true q c.0 h, within)
      by false h f more = more f

  pub apart_few : (xs : List Message) → All (Contains ms) xs → AreApart xs → length xs ≤ length ms
  apart_few xs all n = omega (arith, places_length xs all, length-le_from_distinct_below (places xs all) (length ms) (places_apart xs all n) (places_within xs all))
