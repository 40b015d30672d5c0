-- Each work takes one off, so once all waiting work is done, none waits.
use Rattle.std.proofs.Common.{◌≡◌, ◌≤◌, ◌<◌, ◌+◌, ◌∙◌, ℕ, zero, suc, Bool, true, false, nat_lt, List, ◌∷◌, Option, Some, None, arith, refl, ap, subst, length, slice_get, slice_set, option_map}
use Rattle.std.proofs.lemmas.Bool.{and_from, lt-ltb}
use Rattle.std.proofs.lemmas.Bool.Decides.{nat_tests}
use Rattle.std.proofs.lemmas.Option.{slice_get-get_or, none-some, same_Some}
use Rattle.std.proofs.lemmas.List.Sums.{get_or-le-sum_by, passes_at_first}
use Rattle.std.specs.List.{position_or_len}
use Rattle.nsi_primitive.specs.Ids.{id_of}
use Rattle.nsi_primitive.specs.declared.entry.Entry.{Entry}
use Rattle.nsi_primitive.specs.declared.entry.Input.{Input}
use Rattle.nsi_primitive.specs.declared.state.Machine.{Machine}
use Rattle.nsi_primitive.specs.declared.state.Side.{Side}
use Rattle.connection_record.specs.declared.record.Record.{Record}
use Rattle.connection_record.specs.Replies.{Moved}
use Rattle.connection_record.specs.Applied.{has_work, first_machine, waits, moves_if, status_of, tells}
use Rattle.provider_agent.specs.Setting.{Setting}
use Rattle.provider_agent.specs.Others.{lacking}
use Rattle.provider_agent.specs.State.{State, Stepped, no_record, record_at}
use Rattle.provider_agent.specs.Steps.{step, works, work_at, is_waiting, after, may_take, waiting_work}
use Rattle.provider_agent.specs.Runs.{after_all}
use Rattle.provider_agent.specs.Good.{IsGood}
use Rattle.provider_agent.specs.Working.{works_in, works_among}
use Rattle.provider_agent.proofs.RecordPlaces.{sum_beside, sum_with}
use Rattle.provider_agent.proofs.WaitingWork.{first_waits, busy_works, worked_less, told_works}
use Rattle.provider_agent.proofs.GoodAfter.{good_after}
use Rattle.provider_agent.proofs.Counting.{taken_is}
use Rattle.provider_run.specs.Works.{now_at, works_of, all_works}
use Rattle.provider_run.proofs.Working.{taken_after, work_may, works_none, works_some}

---- All records

-- what is found waits, and is there
record IsFirst (records : List Record) (n : ℕ) (machine : Machine) : Type 0 where
  within : n < length records
  waits : waits machine (record_at n records) ≡ true

first_found : (s : State) (n : ℕ) (machine : Machine) → waiting_work s ≡ Some (n, machine) → IsFirst s.records n machine
first_found s n machine e = by_test (nat_lt place (length s.records)) refl
  where
    place : ℕ
    place = position_or_len has_work s.records

    with_place : Machine → ℕ × Machine
    with_place m = (place, m)

    by_machine : (o : Option Machine) → first_machine (record_at place s.records) ≡ o → place < length s.records → option_map with_place o ≡ Some (n, machine) → IsFirst s.records n machine
    by_machine None f lt g = absurd (none-some (n, machine) g)
    by_machine (Some m) f lt g =
        let pair = same_Some (place, m) (n, machine) g in
        let there = ap (λ (p : ℕ × Machine). p.0) pair in
        let which = ap (λ (p : ℕ × Machine). p.1) pair in
        record {
          within = subst (λ k. k < length s.records) there lt;
          waits = subst (λ k. waits machine (record_at k s.records) ≡ true) there (subst (λ x. waits x (record_at place s.records) ≡ true) which (first_waits (record_at place s.records) m f));
        }

    by_test : (b : Bool) → nat_lt place (length s.records) ≡ b → IsFirst s.records n machine
    by_test true t =
        let lt : place < length s.records = grind (arith, nat_tests) in
        by_machine (first_machine (record_at place s.records)) refl lt (grind (arith, e, t))
    by_test false t = absurd (grind (arith, e, t))

-- where there is no work, none waits
none_found : (s : State) → works_among s.records ≡ 0 → waiting_work s ≡ None
none_found s zero_works = by_test (nat_lt place (length s.records)) refl
  where
    place : ℕ
    place = position_or_len has_work s.records

    by_test : (b : Bool) → nat_lt place (length s.records) ≡ b → waiting_work s ≡ None
    by_test true t =
        let lt : place < length s.records = grind (arith, nat_tests) in
        absurd (omega (arith, zero_works, busy_works (record_at place s.records) (passes_at_first has_work s.records no_record lt), get_or-le-sum_by works_in s.records place no_record lt))
    by_test false t = grind (arith, t)

---- One work

-- the first waiting work takes one off
pub one_less : (setting : Setting) (stp_of : List ℕ → Option ℕ) (s : State) (n : ℕ) (machine : Machine) → IsGood setting s → s.taken < 4194304 → waiting_work s ≡ Some (n, machine)
    → works_among (after setting stp_of s (now_at s (Input.Work n machine))).state.records + 1 ≡ works_among s.records
unfolding step works
one_less setting stp_of s n machine good few e =
    omega (
      arith,
      ap works_among is,
      sum_beside works_in s.records n r there,
      sum_with works_in s.records n r y there,
      told_works (status_of s.now r) c s.now x,
      worked_less machine (lacking setting s n) setting.name (s.now + setting.hold) s.now r (good.records n r there).asking found.waits,
    )
  where
    found : IsFirst s.records n machine
    found = first_found s n machine e

    r : Record
    r = record_at n s.records

    there : slice_get s.records n ≡ Some r
    there = slice_get-get_or s.records n no_record found.within

    c : ℕ
    c = id_of setting.number s.next

    x : Moved
    x = moves_if Side.Provider (work_at setting s n machine) s.now r

    y : Record
    y = (tells (status_of s.now r) c s.now x).rec

    work : Entry
    work = now_at s (Input.Work n machine)

    waits_is : is_waiting s n machine ≡ true
    waits_is = and_from (nat_lt n (length s.records)) (waits machine r) (lt-ltb n (length s.records) found.within) found.waits

    is : (after setting stp_of s work).state.records ≡ slice_set s.records n y
    is = ap (λ (z : Stepped). z.state.records) (taken_is setting stp_of s work (work_may s n machine few)) ∙ ap (λ b. (works b setting s n machine).state.records) waits_is

-- all work is the first one, and all that waits behind it
pub works_first : (setting : Setting) (stp_of : List ℕ → Option ℕ) (s : State) (n : ℕ) (machine : Machine) → IsGood setting s → s.taken < 4194304 → waiting_work s ≡ Some (n, machine)
    → all_works setting stp_of s ≡ now_at s (Input.Work n machine) ∷ all_works setting stp_of (after setting stp_of s (now_at s (Input.Work n machine))).state
works_first setting stp_of s n machine good few e =
    let left : works_among s.records ≡ suc (works_among (after setting stp_of s (now_at s (Input.Work n machine))).state.records) = omega (arith, one_less setting stp_of s n machine good few e) in
    ap (λ k. works_of k setting stp_of s) left ∙ works_some (works_among (after setting stp_of s (now_at s (Input.Work n machine))).state.records) setting stp_of s n machine e

---- All work

idle_within : (most : ℕ) (setting : Setting) (stp_of : List ℕ → Option ℕ) (s : State) → IsGood setting s → s.taken + most ≤ 4194304 → works_among s.records ≤ most → waiting_work (after_all setting stp_of s (works_of most setting stp_of s)).state ≡ None
unfolding works_of after_all
idle_within zero setting stp_of s good few le = none_found s (omega (arith, le))
idle_within (suc most) setting stp_of s good few le = by_work (waiting_work s) refl (λ t g f l. idle_within most setting stp_of t g f l)
  where
    IsIdle : State → ℕ → Type 0
    IsIdle t k = waiting_work (after_all setting stp_of t (works_of k setting stp_of t)).state ≡ None

    by_work : (o : Option (ℕ × Machine)) → waiting_work s ≡ o → ((t : State) → IsGood setting t → t.taken + most ≤ 4194304 → works_among t.records ≤ most → IsIdle t most) → IsIdle s (suc most)
    by_work None e behind = ap (λ (es : List Entry). waiting_work (after_all setting stp_of s es).state) (works_none (suc most) setting stp_of s e) ∙ e
    by_work (Some (n, machine)) e behind =
        let work : Entry = now_at s (Input.Work n machine) in
        let may : may_take s work ≡ true = work_may s n machine (omega arith) in
        ap (λ (es : List Entry). waiting_work (after_all setting stp_of s es).state) (works_some most setting stp_of s n machine e)
        ∙ behind (after setting stp_of s work).state (good_after setting stp_of s work good tt) (omega (arith, taken_after setting stp_of s work may))
        (omega (arith, le, one_less setting stp_of s n machine good (omega arith) e))

-- Once all waiting work is done, none waits, where no more entries come than an agent takes.
pub idle_after : (setting : Setting) (stp_of : List ℕ → Option ℕ) (s : State) → IsGood setting s → s.taken ≤ 2000001 → waiting_work (after_all setting stp_of s (all_works setting stp_of s)).state ≡ None
idle_after setting stp_of s good few = idle_within (works_among s.records) setting stp_of s good (omega (arith, few, good.works)) (omega arith)
