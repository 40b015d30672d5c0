-- An entry, and the work that waits then, are a run.
use Rattle.std.proofs.Common.{◌≡◌, ◌≤◌, ◌+◌, ℕ, zero, suc, true, List, [], ◌∷◌, ◌++◌, Option, Some, None, arith, refl, sym, subst}
use Rattle.nsi_primitive.specs.declared.entry.Entry.{Entry}
use Rattle.nsi_primitive.specs.declared.entry.Input.{Input}
use Rattle.nsi_primitive.specs.declared.state.Machine.{Machine}
use Rattle.provider_agent.specs.Setting.{Setting}
use Rattle.provider_agent.specs.State.{State}
use Rattle.provider_agent.specs.Steps.{after, may_take, waiting_work}
use Rattle.provider_agent.specs.Runs.{after_all}
use Rattle.nsi_primitive.specs.Printable.{IsPrintableInput}
use Rattle.provider_agent.specs.Safety.{IsRun}
use Rattle.provider_agent.specs.Good.{IsGood}
use Rattle.provider_agent.specs.Working.{works_among}
use Rattle.provider_agent.proofs.GoodAfter.{good_after}
use Rattle.provider_run.specs.Works.{now_at, works_of, with_works}
use Rattle.provider_run.proofs.Working.{taken_after, work_may, works_none, works_some}

-- One run after another is a run.
pub run_append : (setting : Setting) (stp_of : List ℕ → Option ℕ) (s : State) (front back : List Entry) → IsRun setting stp_of s front → IsRun setting stp_of (after_all setting stp_of s front).state back → IsRun setting stp_of s (front ++ back)
unfolding after_all
run_append setting stp_of s [] back p q = q
run_append setting stp_of s (e ∷ front) back p q = (p.0, p.1, run_append setting stp_of (after setting stp_of s e).state front back p.2 q)

-- The waiting work is a run, where no more entries come than an agent takes.
pub works_run : (most : ℕ) (setting : Setting) (stp_of : List ℕ → Option ℕ) (s : State) → s.taken + most ≤ 4194304 → IsRun setting stp_of s (works_of most setting stp_of s)
unfolding works_of
works_run zero setting stp_of s few = tt
works_run (suc most) setting stp_of s few = by_work (waiting_work s) refl (λ t left. works_run most setting stp_of t left)
  where
    by_work : (o : Option (ℕ × Machine)) → waiting_work s ≡ o → ((t : State) → t.taken + most ≤ 4194304 → IsRun setting stp_of t (works_of most setting stp_of t)) → IsRun setting stp_of s (works_of (suc most) setting stp_of s)
    by_work None e behind = subst (λ (es : List Entry). IsRun setting stp_of s es) (sym (works_none (suc most) setting stp_of s e)) tt
    by_work (Some (n, machine)) e behind =
        let work : Entry = now_at s (Input.Work n machine) in
        let may : may_take s work ≡ true = work_may s n machine (omega arith) in
        subst (λ (es : List Entry). IsRun setting stp_of s es) (sym (works_some most setting stp_of s n machine e))
        (tt, may, behind (after setting stp_of s work).state (omega (arith, taken_after setting stp_of s work may)))

-- An entry, and all work that waits then, are a run.
pub with_works_run : (setting : Setting) (stp_of : List ℕ → Option ℕ) (s : State) (e : Entry) → IsGood setting s → may_take s e ≡ true → IsPrintableInput e.input → s.taken ≤ 2000000 → IsRun setting stp_of s (with_works setting stp_of s e)
with_works_run setting stp_of s e good may printable few =
    let next : State = (after setting stp_of s e).state in
    (printable, may, works_run (works_among next.records) setting stp_of next (omega (arith, taken_after setting stp_of s e may, (good_after setting stp_of s e good printable).works)))
