-- The waiting work, one after another.
use Rattle.std.proofs.Common.{◌≡◌, ◌≤◌, ◌<◌, ◌+◌, ◌∙◌, ℕ, zero, suc, true, List, [], ◌∷◌, ◌++◌, Option, Some, None, arith, refl, ap, length}
use Rattle.std.proofs.lemmas.Bool.Decides.{nat_tests}
use Rattle.nsi_primitive.specs.declared.entry.Entry.{Entry}
use Rattle.nsi_primitive.specs.declared.entry.Input.{Input}
use Rattle.nsi_primitive.specs.declared.state.Machine.{Machine}
use Rattle.provider_agent.specs.Setting.{Setting}
use Rattle.provider_agent.specs.State.{State, Stepped}
use Rattle.provider_agent.specs.Steps.{after, may_take, waiting_work}
use Rattle.provider_agent.specs.Runs.{after_all}
use Rattle.provider_agent.proofs.Counting.{taken_is, step_taken}
use Rattle.provider_run.specs.Works.{now_at, work_then, works_of}

---- How many entries were taken

-- an entry that may be taken is one more
pub taken_after : (setting : Setting) (stp_of : List ℕ → Option ℕ) (s : State) (e : Entry) → may_take s e ≡ true → (after setting stp_of s e).state.taken ≡ s.taken + 1
taken_after setting stp_of s e may = ap (λ (x : Stepped). x.state.taken) (taken_is setting stp_of s e may) ∙ ap (λ k. k + 1) (step_taken e.input e.second setting stp_of s)

-- work may be taken now, where entries are few
pub work_may : (s : State) (n : ℕ) (machine : Machine) → s.taken < 4194304 → may_take s (now_at s (Input.Work n machine)) ≡ true
work_may s n machine few = grind (arith, nat_tests)

---- One work more

pub works_none : (most : ℕ) (setting : Setting) (stp_of : List ℕ → Option ℕ) (s : State) → waiting_work s ≡ None → works_of most setting stp_of s ≡ []
unfolding works_of
works_none zero setting stp_of s e = refl
works_none (suc most) setting stp_of s e = ap (λ o. work_then o setting stp_of s (works_of most setting stp_of)) e

-- no more entries than there are turns
pub works_long : (most : ℕ) (setting : Setting) (stp_of : List ℕ → Option ℕ) (s : State) → length (works_of most setting stp_of s) ≤ most
unfolding works_of
works_long zero setting stp_of s = omega arith
works_long (suc most) setting stp_of s = by_work (waiting_work s) (works_long most setting stp_of)
  where
    by_work : (o : Option (ℕ × Machine)) → ((t : State) → length (works_of most setting stp_of t) ≤ most) → length (work_then o setting stp_of s (works_of most setting stp_of)) ≤ suc most
    by_work None behind = omega arith
    by_work (Some (n, machine)) behind = omega (arith, behind (after setting stp_of s (now_at s (Input.Work n machine))).state)

pub works_some : (most : ℕ) (setting : Setting) (stp_of : List ℕ → Option ℕ) (s : State) (n : ℕ) (machine : Machine) → waiting_work s ≡ Some (n, machine)
    → works_of (suc most) setting stp_of s ≡ now_at s (Input.Work n machine) ∷ works_of most setting stp_of (after setting stp_of s (now_at s (Input.Work n machine))).state
unfolding works_of
works_some most setting stp_of s n machine e = ap (λ o. work_then o setting stp_of s (works_of most setting stp_of)) e

---- The first entry

pub first_state : (setting : Setting) (stp_of : List ℕ → Option ℕ) (s : State) (e : Entry) (es : List Entry) → (after_all setting stp_of s (e ∷ es)).state ≡ (after_all setting stp_of (after setting stp_of s e).state es).state
unfolding after_all
first_state setting stp_of s e es = refl

pub first_out : (setting : Setting) (stp_of : List ℕ → Option ℕ) (s : State) (e : Entry) (es : List Entry) → (after_all setting stp_of s (e ∷ es)).out ≡ (after setting stp_of s e).out ++ (after_all setting stp_of (after setting stp_of s e).state es).out
unfolding after_all
first_out setting stp_of s e es = refl
