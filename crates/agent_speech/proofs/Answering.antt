-- Which answers were heard.
use Rattle.std.proofs.Common.{ℕ, ◌≡◌, Bool, true, false, List, [], ◌∷◌, ◌++◌, ◌⊎◌, inl, inr, ◌||◌, refl, sym, ap, ◌∙◌}
use Rattle.std.specs.List.{list_any}
use Rattle.std.proofs.lemmas.List.Folds.{list_any-append}
use Rattle.nsi_primitive.specs.Messages.{identity}
use Rattle.nsi_primitive.specs.declared.message.Identity.{Identity}
use Rattle.nsi_primitive.specs.declared.message.Message.{Message}
use Rattle.message_retry.specs.Retry.{is_heard, with_heard}
use Rattle.connection_record.specs.Speaking.{is_asking, is_noting, is_answering}
use Rattle.agent_speech.specs.Unanswered.{answers_at, is_answer_of, was_answered}

with_new : (i : Identity) (heard : List Identity) → is_heard i heard ≡ false → with_heard i heard ≡ heard ++ i ∷ []
unfolding with_heard
with_new i heard e = rw e refl

with_old : (i : Identity) (heard : List Identity) → is_heard i heard ≡ true → with_heard i heard ≡ heard
unfolding with_heard
with_old i heard e = rw e refl

answered_append : (p : List ℕ) (c : ℕ) (i : Identity) (heard : List Identity) → was_answered p c (heard ++ i ∷ []) ≡ (was_answered p c heard || is_answer_of p c i)
unfolding was_answered
answered_append p c i heard =
    list_any-append (is_answer_of p c) heard (i ∷ []) ∙ ap (λ b. list_any (is_answer_of p c) heard || b) (or_none (is_answer_of p c i))
  where
    or_none : (b : Bool) → (b || false) ≡ b
    or_none true = refl
    or_none false = refl

neither : (a b : Bool) → (a || b) ≡ false → (a ≡ false) × (b ≡ false)
neither true b h = absurd (cc)
neither false b h = (refl, h)

either : (a b : Bool) → (a || b) ≡ true → (a ≡ true) ⊎ (b ≡ true)
either true b h = inl refl
either false b h = inr h

-- what was answered stays answered
pub answered_earlier : (p : List ℕ) (c : ℕ) (i : Identity) (heard : List Identity) → was_answered p c (with_heard i heard) ≡ false → was_answered p c heard ≡ false
answered_earlier p c i heard n = by (is_heard i heard) refl
  where
    by : (b : Bool) → is_heard i heard ≡ b → was_answered p c heard ≡ false
    by true e = sym (ap (was_answered p c) (with_old i heard e)) ∙ n
    by false e = (neither (was_answered p c heard) (is_answer_of p c i) (sym (answered_append p c i heard) ∙ (sym (ap (was_answered p c) (with_new i heard e)) ∙ n))).0

-- a message that comes for the first time, and leaves something unanswered, is no answer to it
pub no_answer : (p : List ℕ) (c : ℕ) (m : Message) (heard : List Identity) → is_heard (identity m) heard ≡ false → was_answered p c (with_heard (identity m) heard) ≡ false → answers_at p c m ≡ false
unfolding is_answering is_asking is_noting
no_answer p c m heard e n =
    (neither (was_answered p c heard) (is_answer_of p c (identity m)) (sym (answered_append p c (identity m) heard) ∙ (sym (ap (was_answered p c) (with_new (identity m) heard e)) ∙ n))).1

-- what is answered now was answered, or the message is the answer
pub answered_now : (p : List ℕ) (c : ℕ) (m : Message) (heard : List Identity) → was_answered p c (with_heard (identity m) heard) ≡ true → (answers_at p c m ≡ true) ⊎ (was_answered p c heard ≡ true)
unfolding is_answering is_asking is_noting
answered_now p c m heard h = by (is_heard (identity m) heard) refl
  where
    swapped : (was_answered p c heard ≡ true) ⊎ (is_answer_of p c (identity m) ≡ true) → (is_answer_of p c (identity m) ≡ true) ⊎ (was_answered p c heard ≡ true)
    swapped (inl a) = inr a
    swapped (inr b) = inl b

    by : (b : Bool) → is_heard (identity m) heard ≡ b → (is_answer_of p c (identity m) ≡ true) ⊎ (was_answered p c heard ≡ true)
    by true e = inr (sym (ap (was_answered p c) (with_old (identity m) heard e)) ∙ h)
    by false e =
        swapped (either (was_answered p c heard) (is_answer_of p c (identity m)) (sym (answered_append p c (identity m) heard) ∙ (sym (ap (was_answered p c) (with_new (identity m) heard e)) ∙ h)))
