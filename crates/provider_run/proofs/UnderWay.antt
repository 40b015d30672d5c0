-- What waiting work is done, and behind it what is still to come.
use Rattle.std.proofs.Common.{◌≡◌, ◌≤◌, ◌<◌, ◌+◌, ◌∙◌, ℕ, List, [], ◌∷◌, ◌++◌, Option, Some, None, arith, refl, sym, ap, subst, append_assoc, append-nil, length}
use Rattle.nsi_primitive.specs.declared.entry.Entry.{Entry}
use Rattle.nsi_primitive.specs.declared.entry.Input.{Input}
use Rattle.nsi_primitive.specs.declared.message.Message.{Message}
use Rattle.nsi_primitive.specs.declared.state.Machine.{Machine}
use Rattle.provider_agent.specs.Setting.{Setting}
use Rattle.provider_agent.specs.State.{State, Stepped, Standing}
use Rattle.provider_agent.specs.Steps.{after, waiting_work}
use Rattle.provider_agent.specs.Runs.{after_all}
use Rattle.provider_agent.specs.Good.{IsGood}
use Rattle.provider_agent.specs.Working.{works_among}
use Rattle.provider_agent.proofs.GoodAfter.{good_after}
use Rattle.provider_run.specs.Works.{now_at, all_works}
use Rattle.provider_run.proofs.Working.{taken_after, work_may, works_none}
use Rattle.provider_run.proofs.Idle.{one_less, works_first}

-- what is still to come makes the whole of what was to come, and stays within what may be taken
pub record IsUnderWay (setting : Setting) (stp_of : List ℕ → Option ℕ) (first now : State) (before said : List Message) (start count : ℕ) : Type 0 where
  pub state_is : (after_all setting stp_of now (all_works setting stp_of now)).state ≡ (after_all setting stp_of first (all_works setting stp_of first)).state
  pub out_is : said ++ (after_all setting stp_of now (all_works setting stp_of now)).out ≡ before ++ (after_all setting stp_of first (all_works setting stp_of first)).out
  pub count_is : count + length (all_works setting stp_of now) ≡ start + length (all_works setting stp_of first)
  pub taken : now.taken + start ≡ first.taken + count
  pub good : IsGood setting now
  pub fits : now.taken + works_among now.records ≤ 4000002
  pub counted : count + works_among now.records ≤ 2000002

-- all that waited is done
pub record IsDone (setting : Setting) (stp_of : List ℕ → Option ℕ) (first now : State) (before said : List Message) (start count : ℕ) : Type 0 where
  pub state_is : now ≡ (after_all setting stp_of first (all_works setting stp_of first)).state
  pub out_is : said ≡ before ++ (after_all setting stp_of first (all_works setting stp_of first)).out
  pub count_is : count ≡ start + length (all_works setting stp_of first)

pub under_way_first : (setting : Setting) (stp_of : List ℕ → Option ℕ) (s : State) (said : List Message) (count : ℕ) → IsGood setting s → s.taken ≤ 2000001 → count ≤ 1 → IsUnderWay setting stp_of s s said said count count
under_way_first setting stp_of s said count good few start =
    record { state_is = refl; out_is = refl; count_is = refl; taken = refl; good = good; fits = omega (arith, few, good.works); counted = omega (arith, few, start, good.works) }

module _ (setting : Setting) (stp_of : List ℕ → Option ℕ) (first now : State) (before said : List Message) (start count : ℕ) (way : IsUnderWay setting stp_of first now before said start count) where
  -- where nothing waits, all is done
  pub done_where_none : waiting_work now ≡ None → IsDone setting stp_of first now before said start count
  unfolding after_all
  done_where_none e =
      let none : all_works setting stp_of now ≡ [] = works_none (works_among now.records) setting stp_of now e in
      record {
        state_is = sym (ap (λ (es : List Entry). (after_all setting stp_of now es).state) none) ∙ way.state_is;
        out_is = sym (ap (λ (es : List Entry). said ++ (after_all setting stp_of now es).out) none ∙ append-nil said) ∙ way.out_is;
        count_is = omega (arith, way.count_is, ap length none);
      }

  -- one work more
  pub under_way_more : (n : ℕ) (machine : Machine) → waiting_work now ≡ Some (n, machine)
      → IsUnderWay setting stp_of first (after setting stp_of now (now_at now (Input.Work n machine))).state before (said ++ (after setting stp_of now (now_at now (Input.Work n machine))).out) start (count + 1)
  unfolding after_all
  under_way_more n machine e =
      record {
        state_is = sym (ap (λ (es : List Entry). (after_all setting stp_of now es).state) works_are) ∙ way.state_is;
        out_is = append_assoc said (after setting stp_of now work).out (after_all setting stp_of next (all_works setting stp_of next)).out ∙ (sym (ap (λ (es : List Entry). said ++ (after_all setting stp_of now es).out) works_are) ∙ way.out_is);
        count_is = omega (arith, way.count_is, ap length works_are);
        taken = omega (arith, way.taken, one_taken);
        good = good_after setting stp_of now work way.good tt;
        fits = omega (arith, way.fits, one_taken, less);
        counted = omega (arith, way.counted, less);
      }
    where
      work : Entry
      work = now_at now (Input.Work n machine)

      next : State
      next = (after setting stp_of now work).state

      few : now.taken < 4194304
      few = omega (arith, way.fits)

      one_taken : next.taken ≡ now.taken + 1
      one_taken = taken_after setting stp_of now work (work_may now n machine few)

      less : works_among next.records + 1 ≡ works_among now.records
      less = one_less setting stp_of now n machine way.good few e

      works_are : all_works setting stp_of now ≡ work ∷ all_works setting stp_of next
      works_are = works_first setting stp_of now n machine way.good few e

-- the same, where a provider has done the work and said what it causes
pub moved : (setting : Setting) (points : ℕ → List ℕ → Option ℕ) (first : State) (old : Standing) (now : State) (before said new : List Message) (start counted count : ℕ) (n : ℕ) (machine : Machine)
    → old.setting ≡ setting → now ≡ (after old.setting (points old.setting.number) old.state (now_at old.state (Input.Work n machine))).state → new ≡ said ++ (after old.setting (points old.setting.number) old.state (now_at old.state (Input.Work n machine))).out → count ≡ counted
    → IsUnderWay setting (points setting.number) first (after setting (points setting.number) old.state (now_at old.state (Input.Work n machine))).state before (said ++ (after setting (points setting.number) old.state (now_at old.state (Input.Work n machine))).out) start counted
    → IsUnderWay setting (points setting.number) first now before new start count
moved setting points first old now before said new start counted count n machine at_home state_is out_is count_is way =
    let next : Setting → Stepped = λ h. after h (points h.number) old.state (now_at old.state (Input.Work n machine)) in
    subst (λ t. IsUnderWay setting (points setting.number) first t before new start count) (sym (state_is ∙ ap (λ h. (next h).state) at_home))
    (subst (λ xs. IsUnderWay setting (points setting.number) first (next setting).state before xs start count) (sym (out_is ∙ ap (λ h. said ++ (next h).out) at_home))
    (subst (λ k. IsUnderWay setting (points setting.number) first (next setting).state before (said ++ (next setting).out) start k) (sym count_is) way))

-- a provider of the same setting, in a state
pub standing_is : (x : Standing) (setting : Setting) (s : State) → x.setting ≡ setting → x.state ≡ s → x ≡ record { setting = setting; state = s }
standing_is x setting s at_home in_state = ap (λ h. record { setting = h; state = x.state }) at_home ∙ ap (λ t. record { setting = setting; state = t }) in_state
