-- The text of a run determines its events.
use Rattle.std.proofs.Common.{◌≡◌, ℕ, List, [], ◌∷◌, ◌++◌, refl, sym, ap, ◌∙◌, subst, append_assoc}
use Rattle.nsi_primitive.specs.declared.entry.Event.{Event}
use Rattle.stp_topology.specs.declared.network.Network.{Network}
use Rattle.trace_text.specs.Lines.{text_of}
use Rattle.trace_reader.specs.Laws.{AreTextsReadAgain, GoOnBy, HasNames}
use Rattle.trace_reader.proofs.Again.{apart, front_of, line_is_front}
use Rattle.trace_reader.proofs.Clear.{event_clear, one_feed}

-- the first line, and the lines behind it
first_line : (t : Network) (e : Event) (es : List Event) → text_of t (e ∷ es) ≡ front_of t e ++ 10 ∷ text_of t es
first_line t e es = ap (λ x. x ++ text_of t es) (line_is_front t e) ∙ append_assoc (front_of t e) (10 ∷ []) (text_of t es)

some_text : (v w : List ℕ) → [] ≡ v ++ 10 ∷ w → ⊥
some_text [] w e = cc
some_text (b ∷ bs) w e = cc

-- whatever the state, and whatever the events make of it
pub texts_apart : {S : Type 0} (seconds : S → ℕ → ℕ) (asks : S → ℕ) (behind : S → Event → S) → AreTextsReadAgain → (t : Network) (s : S) (es fs : List Event) → HasNames t
    → GoOnBy seconds asks behind t s es → GoOnBy seconds asks behind t s fs → text_of t es ≡ text_of t fs → es ≡ fs
unfolding GoOnBy
texts_apart seconds asks behind texts t s [] [] names h g same = refl
texts_apart seconds asks behind texts t s [] (f ∷ fs) names h g same = absurd (some_text (front_of t f) (text_of t fs) (same ∙ first_line t f fs))
texts_apart seconds asks behind texts t s (e ∷ es) [] names h g same = absurd (some_text (front_of t e) (text_of t es) (sym same ∙ first_line t e es))
texts_apart seconds asks behind texts t s (e ∷ es) (f ∷ fs) names h g same =
    let clear_e = event_clear t e (names.named e.agent h.0.has_line.agent) h.0.ranged in
    let clear_f = event_clear t f (names.named f.agent g.0.has_line.agent) g.0.ranged in
    let parts = one_feed (front_of t e) (front_of t f) (text_of t es) (text_of t fs) clear_e clear_f (sym (first_line t e es) ∙ (same ∙ first_line t f fs)) in
    let one = apart texts t (seconds s) (asks s) e f names h.0 g.0 (line_is_front t e ∙ (ap (λ x. x ++ 10 ∷ []) parts.0 ∙ sym (line_is_front t f))) in
    let goes : GoOnBy seconds asks behind t (behind s e) fs = subst (λ (x : Event). GoOnBy seconds asks behind t (behind s x) fs) (sym one) g.1 in
    ap (λ x. x ∷ es) one ∙ ap (λ x. f ∷ x) (texts_apart seconds asks behind texts t (behind s e) es fs names h.1 goes parts.1)
