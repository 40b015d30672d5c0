-- How much work waits: the first takes one off, and none waits exactly where none is left.
use Rattle.std.proofs.Common.{◌≡◌, ◌≤◌, ◌<◌, ◌+◌, ◌↔◌, ℕ, Bool, true, false, nat_lt, List, [], ◌∷◌, Option, Some, None, arith, refl, length, option_map}
use Rattle.std.proofs.lemmas.Bool.Decides.{nat_tests}
use Rattle.std.proofs.lemmas.Option.{none-some}
use Rattle.std.proofs.lemmas.List.Sums.{sum_by-cons, passes_at_first}
use Rattle.std.specs.List.{position_or_len}
use Rattle.nsi_primitive.specs.declared.state.Machine.{Machine}
use Rattle.connection_record.specs.declared.record.Record.{Record}
use Rattle.connection_record.specs.Applied.{has_work, first_machine}
use Rattle.agent_state.specs.State.{State, AgentState, no_record, record_at}
use Rattle.provider_agent.specs.Steps.{waiting_work}
use Rattle.provider_agent.specs.Working.{works_in, works_among}
use Rattle.provider_agent.proofs.WaitingWork.{busy_works, idle_works}
use Rattle.provider_run.proofs.Idle.{one_less}
use Rattle.nsi_agent.specs.Homes.{Role, provides, aggregates, requests}
use Rattle.nsi_agent.specs.Steps.{after_as, work_of, works_left}
use Rattle.nsi_agent.specs.Laws.{IsGood, work_now, WorkIsDone, NoneIsLeft}

less_by : (role : Role) (s : AgentState) (w : ℕ × Machine) → IsGood role s → s.base.taken < 4194304 → work_of role s ≡ Some w → works_left role (after_as role s (work_now s w)).state + 1 ≡ works_left role s
unfolding after_as
less_by (provides setting stp_of) s w good few e = one_less setting stp_of s.base w.0 w.1 good few e
less_by (aggregates setting) s w good few e = absurd (none-some w e)
less_by (requests setting) s w good few e = absurd (none-some w e)

pub work_is_done : WorkIsDone
work_is_done h s w good few e = less_by h.role s w good few e

-- no more work waits than there were entries
pub works_few : (role : Role) (s : AgentState) → IsGood role s → works_left role s ≤ s.base.taken
works_few (provides setting stp_of) s good = good.works
works_few (aggregates setting) s good = omega arith
works_few (requests setting) s good = omega arith

---- None

-- where no record has work, none is left
all_idle : (rs : List Record) → length rs ≤ position_or_len has_work rs → works_among rs ≡ 0
all_idle [] h = refl
all_idle (r ∷ rs) h = by_test (has_work r) refl (all_idle rs)
  where
    by_test : (b : Bool) → has_work r ≡ b → (length rs ≤ position_or_len has_work rs → works_among rs ≡ 0) → works_among (r ∷ rs) ≡ 0
    by_test true e rest = absurd (grind (arith, e, h))
    by_test false e rest = grind (arith, e, h, rest, idle_works)

-- and where none is left, no record has work
all_done : (rs : List Record) → works_among rs ≡ 0 → position_or_len has_work rs ≡ length rs
all_done [] none = refl
all_done (r ∷ rs) none = by_test (has_work r) refl (all_done rs)
  where
    by_test : (b : Bool) → has_work r ≡ b → (works_among rs ≡ 0 → position_or_len has_work rs ≡ length rs) → position_or_len has_work (r ∷ rs) ≡ length (r ∷ rs)
    by_test true e rest = absurd (omega (arith, none, sum_by-cons works_in r rs, busy_works r e))
    by_test false e rest = grind (arith, e, rest (omega (arith, none, sum_by-cons works_in r rs)))

none_waits : (s : State) → works_among s.records ≡ 0 → waiting_work s ≡ None
none_waits s none = grind (arith, nat_tests, all_done s.records none)

none_left : (s : State) → waiting_work s ≡ None → works_among s.records ≡ 0
none_left s e = by_test (nat_lt place (length s.records)) refl
  where
    place : ℕ
    place = position_or_len has_work s.records

    with_place : Machine → ℕ × Machine
    with_place m = (place, m)

    by_machine : (o : Option Machine) → first_machine (record_at place s.records) ≡ o → has_work (record_at place s.records) ≡ true → option_map with_place o ≡ None → works_among s.records ≡ 0
    by_machine None f busy g = absurd (grind (arith, f, busy))
    by_machine (Some m) f busy g = absurd (cc)

    by_test : (b : Bool) → nat_lt place (length s.records) ≡ b → works_among s.records ≡ 0
    by_test true t =
        let lt : place < length s.records = grind (arith, nat_tests) in
        by_machine (first_machine (record_at place s.records)) refl (passes_at_first has_work s.records no_record lt) (grind (arith, e, t))
    by_test false t = all_idle s.records (grind (arith, nat_tests, t))

none_by : (role : Role) (s : AgentState) → (work_of role s ≡ None) ↔ (works_left role s ≡ 0)
none_by (provides setting stp_of) s = (none_left s.base, none_waits s.base)
none_by (aggregates setting) s = ((λ e. refl), (λ e. refl))
none_by (requests setting) s = ((λ e. refl), (λ e. refl))

pub none_is_left : NoneIsLeft
none_is_left h s = none_by h.role s
