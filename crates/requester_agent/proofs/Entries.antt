-- An entry that may be taken, and a call that takes it.
use Rattle.std.proofs.Common.{◌<◌, ◌≡◌, ◌∙◌, true, Option, Result, Ok, Err, List, refl, ap, sym, subst, arith}
use Rattle.std.specs.Prelude.{OnOk, OnErr, IfOk}
use Rattle.std.specs.List.{All}
use Rattle.std.specs.Global.{Vec}
use Rattle.std.specs.declared.alloc.AllocError.{AllocError}
use Rattle.nsi_primitive.specs.declared.ask.AskAnswer.{AskAnswer}
use Rattle.nsi_primitive.specs.declared.message.Message.{Message}
use Rattle.nsi_primitive.specs.Printable.{IsPrintable, IsPrintableInput}
use Rattle.nsi_primitive.specs.declared.entry.Entry.{Entry}
use Rattle.agent_state.specs.State.{AgentState, AgentStepped, counts_agent}
use Rattle.requester_agent.specs.Setting.{Setting}
use Rattle.requester_agent.specs.State.{Standing}
use Rattle.requester_agent.specs.Steps.{may_take, step, after}
use Rattle.requester_agent.specs.Good.{IsGood}
use Rattle.requester_agent.proofs.Mild.{AreLaws, step_mild, mild_good}

pub after_is : (set : Setting) (s : AgentState) (e : Entry) → may_take s e ≡ true → after set s e ≡ counts_agent (step e.input e.second set s)
unfolding after
after_is set s e h = rw h refl

few-taken : (s : AgentState) (e : Entry) → may_take s e ≡ true → s.base.taken < 4194304
few-taken s e h = grind (arith, h)

pub entry_good : AreLaws → (set : Setting) (s : AgentState) (e : Entry) → may_take s e ≡ true → IsPrintableInput e.input → IsGood s → IsGood (after set s e).state
entry_good laws set s e h p g =
    subst (λ (x : AgentStepped). IsGood x.state) (sym (after_is set s e h)) (mild_good s (step e.input e.second set s) (few-taken s e h) (step_mild laws set s g.apart e.input e.second p) g)

pub entry_printable : AreLaws → (set : Setting) (s : AgentState) (e : Entry) → may_take s e ≡ true → IsPrintableInput e.input → IsGood s → All IsPrintable (after set s e).out
entry_printable laws set s e h p g = subst (λ (x : AgentStepped). All IsPrintable x.out) (sym (after_is set s e h)) (step_mild laws set s g.apart e.input e.second p).prints

---- A call, by its result

module _ {A E : Type 0} where
  pub standing_ok : (r : Result A E) (new : Standing) (set : Setting) (s : AgentState) → new.setting ≡ set → OnOk r (new.state ≡ s) → OnOk r (new ≡ record { setting = set; state = s })
  standing_ok (Ok x) new set s e h = ap (λ z. record { setting = new.setting; state = z }) h ∙ ap (λ z. record { setting = z; state = s }) e
  standing_ok (Err x) new set s e h = tt

  pub good_kept : (r : Result A E) (new old s : AgentState) → OnOk r (new ≡ s) → OnErr r (new ≡ old) → IsGood old → IsGood s → IsGood new
  good_kept (Ok x) new old s e f g h = subst IsGood (sym e) h
  good_kept (Err x) new old s e f g h = subst IsGood (sym f) g

pub all_ok : (r : Result (Option AskAnswer × Vec Message) AllocError) (out : List Message) → IfOk r (λ x. x.1.items ≡ out) → All IsPrintable out → IfOk r (λ x. All IsPrintable x.1.items)
all_ok (Ok x) out e h = subst (λ z. All IsPrintable z) (sym e) h
all_ok (Err x) out e h = tt
