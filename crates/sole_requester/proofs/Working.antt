-- Work that waits is done, and no other waits then.
use Rattle.std.proofs.Common.{◌≡◌, ◌∙◌, ⊎_elim, ◌≤◌, ◌<◌, ◌+◌, ℕ, zero, suc, Bool, true, false, nat_lt, eqb, List, [], ◌∷◌, Option, Some, None, arith, refl, sym, ap, subst, length, slice_get, option_map, option_and_then}
use Rattle.std.specs.Prelude.{position, cond, is_some}
use Rattle.std.specs.List.{position_or_len}
use Rattle.std.proofs.lemmas.Bool.{cases_lt, and_from, lt-ltb, eqb-true, eq-eqb, true≢false}
use Rattle.std.proofs.lemmas.Bool.Decides.{nat_tests}
use Rattle.std.proofs.lemmas.List.Quantifiers.{position-Some}
use Rattle.std.proofs.lemmas.List.Sums.{sum_by-cons, get_or-le-sum_by, passes_at_first, fails_before_first}
use Rattle.std.proofs.lemmas.Option.{slice_get-get_or, slice_get_within, get_or_from_slice_get, none-some, same_Some}
use Rattle.nsi_primitive.specs.declared.state.Machine.{Machine}
use Rattle.connection_record.specs.declared.record.Record.{Record}
use Rattle.connection_record.specs.Applied.{has_work, first_machine, waits}
use Rattle.provider_agent.specs.Setting.{Setting}
use Rattle.provider_agent.specs.Others.{lacking}
use Rattle.provider_agent.specs.State.{State, no_record, record_at}
use Rattle.provider_agent.specs.Steps.{works, work_at, is_waiting, machine_at, waiting_work}
use Rattle.provider_agent.specs.Working.{works_in, works_among}
use Rattle.provider_agent.specs.Good.{IsGood, AreOrdered}
use Rattle.provider_agent.proofs.WaitingWork.{first_waits, busy_works, idle_works, worked_less}
use Rattle.sole_requester.specs.Sole.{WaitsAt, IsWorked}
use Rattle.sole_requester.proofs.Moving.{kept_few, kept_owners, kept_exactly}

---- Which work is done

abbrev has_id : ℕ → Record → Bool
has_id id r = eqb r.id id

-- the record with that id, and its first machine that has work to do
abbrev pub work_on : ℕ → List Record → Option (ℕ × Machine)
work_on id records = option_and_then (λ n. machine_at n records) (position (has_id id) records)

abbrev at_machine : ℕ → Machine → ℕ × Machine
at_machine k machine = (k, machine)

pub record IsAtWork (id : ℕ) (records : List Record) (n : ℕ) (machine : Machine) : Type 0 where
  pub within : n < length records
  pub waits : waits machine (record_at n records) ≡ true
  pub id_is : (record_at n records).id ≡ id

pub work_found : (id : ℕ) (records : List Record) (n : ℕ) (machine : Machine) → work_on id records ≡ Some (n, machine) → IsAtWork id records n machine
work_found id records n machine e = by_place (position (has_id id) records) refl e
  where
    by_machine : (k : ℕ) (o : Option Machine) → first_machine (record_at k records) ≡ o → k < length records → (record_at k records).id ≡ id → option_map (at_machine k) o ≡ Some (n, machine) → IsAtWork id records n machine
    by_machine k None f lt is g = absurd (none-some (n, machine) g)
    by_machine k (Some x) f lt is g =
        let pair = same_Some (k, x) (n, machine) g in
        let there : k ≡ n = ap (λ (p : ℕ × Machine). p.0) pair in
        let which : x ≡ machine = ap (λ (p : ℕ × Machine). p.1) pair in
        record {
          within = subst (λ j. j < length records) there lt;
          waits = subst (λ j. waits machine (record_at j records) ≡ true) there (subst (λ y. waits y (record_at k records) ≡ true) which (first_waits (record_at k records) x f));
          id_is = subst (λ j. (record_at j records).id ≡ id) there is;
        }

    by_place : (o : Option ℕ) → position (has_id id) records ≡ o → option_and_then (λ k. machine_at k records) o ≡ Some (n, machine) → IsAtWork id records n machine
    by_place None p g = absurd (none-some (n, machine) g)
    by_place (Some k) p g =
        let found = position-Some (has_id id) records k no_record p in
        by_machine k (first_machine (record_at k records)) refl found.0 (eqb-true (record_at k records).id id found.1) g

---- Where none waits

none_among : (records : List Record) → ((n : ℕ) (r : Record) → slice_get records n ≡ Some r → works_in r ≡ 0) → works_among records ≡ 0
none_among [] h = refl
none_among (r ∷ records) h = omega (arith, sum_by-cons works_in r records, h zero r refl, none_among records (λ n x e. h (suc n) x e))

at_most_none : (n : ℕ) → (1 ≤ n → ⊥) → n ≡ 0
at_most_none zero h = refl
at_most_none (suc n) h = absurd (h (omega arith))

-- where nothing is named
pub none_named : (records : List Record) → WaitsAt None records → works_among records ≡ 0
none_named records only = none_among records (λ n r h. at_most_none (works_in r) (λ w. absurd (none-some r.id (sym (only n r h w)))))

-- where the work that is named is done
pub none_left : (agent next id : ℕ) (records : List Record) → AreOrdered agent next records → WaitsAt (Some id) records → work_on id records ≡ None → works_among records ≡ 0
none_left agent next id records ordered only none = none_among records (λ n r h. at_most_none (works_in r) (λ w. busy n r h w))
  where
    no_machine : (k : ℕ) (o : Option Machine) → first_machine (record_at k records) ≡ o → option_map (at_machine k) o ≡ None → has_work (record_at k records) ≡ false
    no_machine k None f g = ap is_some f
    no_machine k (Some x) f g = absurd (none-some (k, x) (sym g))

    busy : (n : ℕ) (r : Record) → slice_get records n ≡ Some r → 1 ≤ works_in r → ⊥
    busy n r h w = by_place (position (has_id id) records) refl none
      where
        same : r.id ≡ id
        same = same_Some r.id id (only n r h w)

        at_n : record_at n records ≡ r
        at_n = get_or_from_slice_get records n r no_record h

        by_place : (o : Option ℕ) → position (has_id id) records ≡ o → option_and_then (λ k. machine_at k records) o ≡ None → ⊥
        by_place None p g = ⊎_elim
            (λ early. none-some first (sym p ∙ ap (λ b. cond b (Some first) None) (lt-ltb first (length records) early)))
            (λ late. true≢false (sym (ap (λ (x : Record). eqb x.id id) at_n ∙ eq-eqb r.id id same) ∙ fails_before_first (has_id id) records n no_record (omega (arith, late, slice_get_within records n r h))))
            (cases_lt first (length records))
          where
            first : ℕ
            first = position_or_len (has_id id) records
        by_place (Some k) p g =
            let found = position-Some (has_id id) records k no_record p in
            let id_k : (record_at k records).id ≡ id = eqb-true (record_at k records).id id found.1 in
            let got_k : slice_get records k ≡ Some (record_at k records) = slice_get-get_or records k no_record found.0 in
            ⊎_elim
            (λ early. omega (arith, ordered.rise k n (record_at k records) r early got_k h, id_k, same))
            (λ late. ⊎_elim
            (λ after. true≢false (sym (ap (λ (x : Record). eqb x.id id) at_n ∙ eq-eqb r.id id same) ∙ found.2 n after))
            (λ no. let here : n ≡ k = omega (arith, late, no) in
            let idle : works_in (record_at k records) ≡ 0 = idle_works (record_at k records) (no_machine k (first_machine (record_at k records)) refl g) in
            omega (arith, w, idle, ap works_in (sym at_n ∙ ap (λ j. record_at j records) here)))
            (cases_lt n k))
            (cases_lt k n)

---- Work

module _ (setting : Setting) (s : State) (n : ℕ) (machine : Machine) (good : IsGood setting s) (lt : n < length s.records) (w : waits machine (record_at n s.records) ≡ true) where
  pub worked : IsWorked s (works (is_waiting s n machine) setting s n machine).state (works (is_waiting s n machine) setting s n machine).out
  unfolding works
  worked = subst (λ b. IsWorked s (works b setting s n machine).state (works b setting s n machine).out) (sym (and_from (nat_lt n (length s.records)) (waits machine (record_at n s.records)) (lt-ltb n (length s.records) lt) w)) done
    where
      there : slice_get s.records n ≡ Some (record_at n s.records)
      there = slice_get-get_or s.records n no_record lt

      done : IsWorked s (works true setting s n machine).state (works true setting s n machine).out
      done = record {
        few = kept_few setting s n (work_at setting s n machine) lt;
        owners = λ name own. kept_owners setting s n (work_at setting s n machine) lt name own;
        works = omega (arith, kept_exactly setting s n (work_at setting s n machine) lt, worked_less machine (lacking setting s n) setting.name (s.now + setting.hold) s.now (record_at n s.records) (good.records n (record_at n s.records) there).asking w);
        seen = refl;
        now = refl;
      }

---- Where nothing has to be done

-- where there is no work, none waits
pub none_found : (s : State) → works_among s.records ≡ 0 → waiting_work s ≡ None
none_found s none = by_test (nat_lt place (length s.records)) refl
  where
    place : ℕ
    place = position_or_len has_work s.records

    by_test : (b : Bool) → nat_lt place (length s.records) ≡ b → waiting_work s ≡ None
    by_test true t =
        let lt : place < length s.records = grind (arith, nat_tests) in
        absurd (omega (arith, none, busy_works (record_at place s.records) (passes_at_first has_work s.records no_record lt), get_or-le-sum_by works_in s.records place no_record lt))
    by_test false t = grind (arith, t)
