-- Every run of a good provider is safe.
use Rattle.std.proofs.Common.{◌≡◌, ℕ, List, [], ◌∷◌, ◌++◌, Option, refl, sym, ap, ◌∙◌, subst}
use Rattle.std.proofs.lemmas.List.{append_assoc}
use Rattle.nsi_primitive.specs.declared.entry.Entry.{Entry}
use Rattle.provider_agent.specs.Setting.{Setting}
use Rattle.provider_agent.specs.State.{State, Stepped}
use Rattle.provider_agent.specs.Steps.{after}
use Rattle.provider_agent.specs.Runs.{after_all}
use Rattle.provider_agent.specs.Safety.{Keeps, IsRun, IsSafe}
use Rattle.provider_agent.specs.Good.{IsGood}
use Rattle.provider_agent.proofs.GoodAfter.{good_after}
use Rattle.provider_agent.proofs.HonestAfter.{honest_after}
use Rattle.provider_agent.proofs.KeepsAfter.{keeps_after_all}

-- entries one after another
pub after_all_append : (setting : Setting) (stp_of : List ℕ → Option ℕ) (s : State) (front back : List Entry) → (after_all setting stp_of s (front ++ back)).state ≡ (after_all setting stp_of (after_all setting stp_of s front).state back).state
unfolding after_all
after_all_append setting stp_of s [] back = refl
after_all_append setting stp_of s (e ∷ front) back = after_all_append setting stp_of (after setting stp_of s e).state front back

-- and their messages
pub after_all_out : (setting : Setting) (stp_of : List ℕ → Option ℕ) (s : State) (front back : List Entry) → (after_all setting stp_of s (front ++ back)).out ≡ (after_all setting stp_of s front).out ++ (after_all setting stp_of (after_all setting stp_of s front).state back).out
unfolding after_all
after_all_out setting stp_of s [] back = refl
after_all_out setting stp_of s (e ∷ front) back =
    let next : Stepped = after setting stp_of s e in
    ap (λ out. next.out ++ out) (after_all_out setting stp_of next.state front back)
    ∙ sym (append_assoc next.out (after_all setting stp_of next.state front).out (after_all setting stp_of (after_all setting stp_of next.state front).state back).out)

-- a good state in which what is left is a run
record IsUnderWay (setting : Setting) (stp_of : List ℕ → Option ℕ) (s : State) (rest : List Entry) : Type 0 where
  good : IsGood setting s
  run : IsRun setting stp_of s rest

under_way : (setting : Setting) (stp_of : List ℕ → Option ℕ) (s : State) (front back : List Entry) → IsGood setting s → IsRun setting stp_of s (front ++ back) → IsUnderWay setting stp_of (after_all setting stp_of s front).state back
unfolding after_all
under_way setting stp_of s [] back g run = record { good = g; run = run }
under_way setting stp_of s (e ∷ front) back g run = under_way setting stp_of (after setting stp_of s e).state front back (good_after setting stp_of s e g run.0) run.2

-- Every run of a good provider is safe.
pub every_run_safe : (setting : Setting) (stp_of : List ℕ → Option ℕ) (s : State) (es : List Entry) → IsGood setting s → IsRun setting stp_of s es → IsSafe setting stp_of s es
every_run_safe setting stp_of s es g run = record {
  capped = λ front back e. (after_front front back e).good.capped;
  rising = λ front back e n r h. ((after_front front back e).good.records n r h).rising;
  keeps = λ front middle back e. subst (λ x. Keeps (after_all setting stp_of s front).state x) (sym (after_all_append setting stp_of s front middle)) (keeps_after_all setting stp_of (after_all setting stp_of s front).state middle);
  honest = λ front back x e. let way = after_front front (x ∷ back) e in honest_after setting stp_of (after_all setting stp_of s front).state x way.good way.run.1;
}
  where
    after_front : (front back : List Entry) → es ≡ front ++ back → IsUnderWay setting stp_of (after_all setting stp_of s front).state back
    after_front front back e = under_way setting stp_of s front back g (subst (λ (xs : List Entry). IsRun setting stp_of s xs) e run)
