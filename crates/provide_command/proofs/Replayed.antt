-- The entries of a journal that are taken again, one after another.
use Rattle.std.proofs.Common.{◌≡◌, ◌<◌, ◌+◌, ◌∙◌, ℕ, zero, suc, drop, get_or, length, List, [], ◌∷◌, Option, arith, sym, ap}
use Rattle.nsi_primitive.specs.declared.entry.Entry.{Entry}
use Rattle.provider_agent.specs.Setting.{Setting}
use Rattle.provider_agent.specs.State.{State, Standing}
use Rattle.provider_agent.specs.Steps.{after}
use Rattle.provider_agent.specs.Runs.{after_all}
use Rattle.provider_run.proofs.Working.{first_state}

pub drop_is : (xs : List Entry) (i : ℕ) (e : Entry) → i < length xs → e ≡ get_or xs i e → drop i xs ≡ e ∷ drop (i + 1) xs
drop_is [] i e lt is = absurd (omega (arith, lt))
drop_is (x ∷ xs) zero e lt is = ap (λ (y : Entry). y ∷ xs) (sym is)
drop_is (x ∷ xs) (suc i) e lt is =
    let next : suc i + 1 ≡ suc (i + 1) = omega arith in
    drop_is xs i e (omega (arith, lt)) is ∙ ap (λ k. e ∷ drop k (x ∷ xs)) (sym next)

-- one more
pub replayed_more : (setting : Setting) (points : ℕ → List ℕ → Option ℕ) (old new : Standing) (e : Entry) (es rest : List Entry) (whole : State) → old.setting ≡ setting
    → new ≡ record old { state = (after old.setting (points old.setting.number) old.state e).state } → es ≡ e ∷ rest → (after_all setting (points setting.number) old.state es).state ≡ whole → (after_all setting (points setting.number) new.state rest).state ≡ whole
replayed_more setting points old new e es rest whole at_home is cut all =
    let stp_of : List ℕ → Option ℕ = points setting.number in
    let here : new.state ≡ (after setting stp_of old.state e).state = ap (λ (x : Standing). x.state) is ∙ ap (λ (h : Setting). (after h (points h.number) old.state e).state) at_home in
    ap (λ s. (after_all setting stp_of s rest).state) here ∙ (sym (first_state setting stp_of old.state e rest) ∙ (sym (ap (λ (xs : List Entry). (after_all setting stp_of old.state xs).state) cut) ∙ all))

-- none is left
pub none_left : (setting : Setting) (stp_of : List ℕ → Option ℕ) (s : State) (es : List Entry) (whole : State) → es ≡ [] → (after_all setting stp_of s es).state ≡ whole → s ≡ whole
unfolding after_all
none_left setting stp_of s es whole e all = sym (ap (λ (xs : List Entry). (after_all setting stp_of s xs).state) e) ∙ all
