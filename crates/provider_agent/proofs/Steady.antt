-- A provider's step, entry by entry.
use Rattle.std.proofs.Common.{◌≡◌, ◌≤◌, ◌<◌, ℕ, true, Option, List, sym, ap, subst, ◌∙◌, arith, Result, Ok, Err, OnOk, OnErr, IfOk, All, Vec, Global}
use Rattle.nsi_primitive.specs.Printable.{IsPrintable, IsPrintableInput}
use Rattle.nsi_primitive.specs.declared.entry.Entry.{Entry}
use Rattle.nsi_primitive.specs.declared.message.Message.{Message}
use Rattle.provider_agent.specs.Setting.{Setting}
use Rattle.std.specs.declared.alloc.AllocError.{AllocError}
use Rattle.provider_agent.specs.State.{State, Standing, Stepped, counts}
use Rattle.provider_agent.specs.Steps.{step, after, may_take}
use Rattle.provider_agent.specs.Good.{IsGood}
use Rattle.provider_agent.specs.Safety.{Keeps}
use Rattle.provider_agent.specs.Step.{IsStep, counted}
use Rattle.provider_agent.specs.Core.{setting_at, state_at, standing_at, IsConsistent, IsReady, IsSteady}
use Rattle.provider_agent.specs.declared.provider_core.Core.{Core}
use Rattle.provider_agent.proofs.Counting.{step_taken, taken_is}
use Rattle.provider_agent.proofs.GoodAfter.{few_taken, good_after}
use Rattle.provider_agent.proofs.KeepsAfter.{keeps_after, keeps_same}

-- what is good has a place and a number for one record more
pub ready_where_steady : (d : Core) → IsSteady d → d.taken < 4194304 → IsReady d
ready_where_steady d steady few =
    record { consistent = steady.consistent; ordered = steady.good.ordered; few = omega (arith, steady.good.few, few); drawn = omega (arith, steady.good.drawn, few) }

abbrev standing_of : Setting → State → Standing
standing_of h s = record { setting = h; state = s }

-- what an entry that is taken makes of a core
module _ (result : Result (Vec Message Global) AllocError) (d new : Core) (stp_of : List ℕ → Option ℕ) (e : Entry)
    (steady : IsSteady d) (may : may_take (state_at d) e ≡ true) (printable : IsPrintableInput e.input)
    (made : IsStep d new result (λ setting s. counted (step e.input e.second setting stp_of s))) (consistent : IsConsistent new) where
  good_as : (s : State) → state_at new ≡ s → IsGood (setting_at d) s → IsGood (setting_at new) (state_at new)
  good_as s is good = subst (λ h. IsGood h (state_at new)) (sym made.setting) (subst (IsGood (setting_at d)) (sym is) good)

  after_is : (counts (step e.input e.second (setting_at d) stp_of (state_at d))).state ≡ (after (setting_at d) stp_of (state_at d) e).state
  after_is = ap (λ (x : Stepped). x.state) (sym (taken_is (setting_at d) stp_of (state_at d) e may))

  good_by : (r : Result (Vec Message Global) AllocError) → OnOk r (state_at new ≡ (counts (step e.input e.second (setting_at d) stp_of (state_at d))).state) → OnErr r (state_at new ≡ state_at d) → IsGood (setting_at new) (state_at new)
  good_by (Ok x) is _ = good_as _ (is ∙ after_is) (good_after (setting_at d) stp_of (state_at d) e steady.good printable)
  good_by (Err x) _ is = good_as _ is steady.good

  most_by : (r : Result (Vec Message Global) AllocError) → OnOk r (state_at new ≡ (counts (step e.input e.second (setting_at d) stp_of (state_at d))).state) → OnErr r (state_at new ≡ state_at d) → new.taken ≤ 4194304
  most_by (Ok x) is _ = omega (arith, ap (λ (s : State). s.taken) is, step_taken e.input e.second (setting_at d) stp_of (state_at d), few_taken (state_at d) e may)
  most_by (Err x) _ is = omega (arith, ap (λ (s : State). s.taken) is, steady.most)

  pub steady_after : IsSteady new
  steady_after = record { most = most_by result made.state made.err; good = good_by result made.state made.err; consistent = consistent }

  standing_by : (r : Result (Vec Message Global) AllocError) → OnOk r (state_at new ≡ (counts (step e.input e.second (setting_at d) stp_of (state_at d))).state) → OnOk r (standing_at new ≡ record (standing_at d) { state = (after (setting_at d) stp_of (state_at d) e).state })
  standing_by (Ok x) is =
      ap (λ (h : Setting). standing_of h (state_at new)) made.setting ∙ ap (standing_of (setting_at d)) (is ∙ after_is)
  standing_by (Err x) is = tt

  pub standing_after : OnOk result (standing_at new ≡ record (standing_at d) { state = (after (setting_at d) stp_of (state_at d) e).state })
  standing_after = standing_by result made.state

  keeps_by : (r : Result (Vec Message Global) AllocError) → OnOk r (state_at new ≡ (counts (step e.input e.second (setting_at d) stp_of (state_at d))).state) → OnErr r (state_at new ≡ state_at d) → Keeps (state_at d) (state_at new)
  keeps_by (Ok x) is _ = subst (Keeps (state_at d)) (sym (is ∙ after_is)) (keeps_after (setting_at d) stp_of (state_at d) e)
  keeps_by (Err x) _ is = subst (Keeps (state_at d)) (sym is) (keeps_same (state_at d))

  pub keeps_steady : Keeps (state_at d) (state_at new)
  keeps_steady = keeps_by result made.state made.err

---- By the answer

pub stands_by : {R : Type 0} (result : Result R AllocError) (new : Core) (a b : Standing) → a ≡ b → OnOk result (standing_at new ≡ a) → OnOk result (standing_at new ≡ b)
stands_by (Ok x) new a b e is = is ∙ e
stands_by (Err x) new a b e is = tt

pub says_by : (result : Result (Vec Message Global) AllocError) (a b : List Message) → a ≡ b → IfOk result (λ out. out.items ≡ a) → IfOk result (λ out. out.items ≡ b)
says_by (Ok x) a b e is = is ∙ e
says_by (Err x) a b e is = tt

pub prints_by : (result : Result (Vec Message Global) AllocError) (a : List Message) → All IsPrintable a → IfOk result (λ out. out.items ≡ a) → IfOk result (λ out. All IsPrintable out.items)
prints_by (Ok x) a all is = subst (All IsPrintable) (sym is) all
prints_by (Err x) a all is = tt
