-- Late requests count as told, one place after another.
use Rattle.std.proofs.Common.{◌≡◌, ◌≢◌, ◌∙◌, ◌<◌, ◌+◌, inl, inr, ℕ, Bool, true, false, ◌||◌, List, [], ◌∷◌, ◌++◌, length, take, set, get_or, refl, sym, ap, subst, arith}
use Rattle.std.specs.List.{All, Contains}
use Rattle.std.proofs.lemmas.List.{length-set, length-map, get_or_default, get_or-set_same, get_or-set_other, get_or-map, ext_get_or, take_more}
use Rattle.std.proofs.lemmas.List.Elements.{Contains-append_left, Contains-push, Contains-push_cases}
use Rattle.record_index.proofs.Members.{nothing_in}
use Rattle.id_index.specs.declared.IdPlace.{IdPlace}
use Rattle.nsi_primitive.specs.declared.message.Message.{Message}
use Rattle.agent_state.specs.declared.parent.Due.{Due}
use Rattle.aggregator_agent.specs.Clock.{is_late, marked, told_dues}
use Rattle.aggregator_agent.specs.Indexed.{id_at}
use Rattle.aggregator_agent.specs.Dues.{no_due, due_at, AreDuesNamed, ArePlacesOf, AreToldAt}
use Rattle.aggregator_agent.proofs.Undo.{by_place}

abbrev pub told : Due → Due
told d = record d { is_told = true }

pub told_none : (dues : List Due) → AreToldAt [] dues dues
told_none dues = record { long = refl; same = λ n. refl; told = λ n has. absurd (nothing_in n has); rest = λ n lacks. refl }

told_more : (places : List ℕ) (old now : List Due) (i : ℕ) → i < length places → get_or places i 0 < length old → AreToldAt (take i places) old now
    → AreToldAt (take (i + 1) places) old (set now (get_or places i 0) (told (due_at (get_or places i 0) now)))
told_more places old now i l less before =
    let p = get_or places i 0 in
    let x = told (due_at p now) in
    let long = before.long in
    let inside : p < length now = omega (arith, less, long) in
    let here : due_at p (set now p x) ≡ x = get_or-set_same now p x no_due inside in
    let other = λ (n : ℕ) (ne : n ≢ p). get_or-set_other now p n x no_due ne in
    record {
      long = length-set now p x ∙ long;
      same = λ n. by_place n p
          (λ e. subst (λ k. told (due_at k (set now p x)) ≡ told (due_at k old)) (sym e) (ap told here ∙ before.same p))
          (λ ne. ap told (other n ne) ∙ before.same n);
      told = λ n has. by_place n p
          (λ e. subst (λ k. due_at k (set now p x) ≡ told (due_at k old)) (sym e) (here ∙ before.same p))
          (λ ne. other n ne ∙ before.told n (earlier n ne has));
      rest = λ n lacks. other n (λ e. lacks (subst (Contains (take (i + 1) places)) (sym e) (subst (λ ps. Contains ps p) (sym cut) (Contains-push (take i places) p))))
          ∙ before.rest n (λ has. lacks (subst (λ ps. Contains ps n) (sym cut) (Contains-append_left (take i places) (p ∷ []) n has)));
    }
  where
    cut : take (i + 1) places ≡ take i places ++ get_or places i 0 ∷ []
    cut = take_more places i 0 l

    earlier : (n : ℕ) → n ≢ get_or places i 0 → Contains (take (i + 1) places) n → Contains (take i places) n
    earlier n ne has = elim (Contains-push_cases (take i places) (get_or places i 0) n (subst (λ ps. Contains ps n) cut has)) [
      | inl was ↦ was
      | inr e ↦ absurd (ne (sym e))
    ]

-- the same of what is read and written at the place
pub told_at : (places : List ℕ) (old now : List Due) (i : ℕ) (x : Due) → i < length places → All (λ p. p < length old) places → x ≡ get_or now (get_or places i 0) x → AreToldAt (take i places) old now
    → AreToldAt (take (i + 1) places) old (set now (get_or places i 0) (told x))
told_at places old now i x l all is before =
    let p = get_or places i 0 in
    let less = all i 0 l in
    let long = before.long in
    let same : due_at p now ≡ x = get_or_default now p no_due x (omega (arith, less, long)) ∙ sym is in
    subst (λ d. AreToldAt (take (i + 1) places) old (set now p (told d))) same (told_more places old now i l less before)

pub told_named : (ids : List IdPlace) (places : List ℕ) (old new : List Due) → AreToldAt places old new → AreDuesNamed ids old → AreDuesNamed ids new
told_named ids places old new t named n l =
    let long = t.long in
    let same : (due_at n new).correlation ≡ (due_at n old).correlation = ap (λ (d : Due). d.correlation) (t.same n) in
    subst (λ c. Contains ids (id_at c n)) (sym same) (named n (omega (arith, l, long)))

---- What is late is told

or_true : (b : Bool) → (b || true) ≡ true
or_true true = refl
or_true false = refl

or_false : (b : Bool) → (b || false) ≡ b
or_false true = refl
or_false false = refl

pub told_late : (now : ℕ) (waiting : List Message) (old new : List Due) (places : List ℕ) → ArePlacesOf (is_late now waiting) old places → AreToldAt places old new → new ≡ told_dues now waiting old
told_late now waiting old new places are t =
    let long = t.long in
    let same = length-map old (marked now waiting) in
    ext_get_or no_due new (told_dues now waiting old) (omega (arith, long, same)) (λ n l. by n (omega (arith, l, long)) (is_late now waiting (due_at n old)) refl ∙ sym (get_or-map (marked now waiting) old n no_due no_due (omega (arith, l, long))))
  where
    by : (n : ℕ) → n < length old → (b : Bool) → is_late now waiting (due_at n old) ≡ b → due_at n new ≡ marked now waiting (due_at n old)
    by n l true e =
        let d = due_at n old in
        t.told n ((are n).1 (record { within = l; is_so = e })) ∙ ap (λ b. record d { is_told = b }) (sym (ap (λ b. d.is_told || b) e ∙ or_true d.is_told))
    by n l false e =
        let d = due_at n old in
        t.rest n (λ has. let h = ((are n).0 has).is_so in cc) ∙ ap (λ b. record d { is_told = b }) (sym (ap (λ b. d.is_told || b) e ∙ or_false d.is_told))
