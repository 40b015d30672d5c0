-- Each acknowledgement takes one message out of those that wait.
use Rattle.std.proofs.Common.{◌≡◌, ◌+◌, ◌||◌, Bool, true, false, cond, List, [], ◌∷◌, ap, arith, length, length-append}
use Rattle.std.specs.List.{list_any}
use Rattle.std.proofs.lemmas.List.Sums.{sum_by-cons}
use Rattle.nsi_primitive.specs.Messages.{identity}
use Rattle.nsi_primitive.specs.declared.entry.Entry.{Entry}
use Rattle.nsi_primitive.specs.declared.entry.Input.{Input}
use Rattle.nsi_primitive.specs.declared.message.Identity.{Identity}
use Rattle.nsi_primitive.specs.declared.message.Message.{Message}
use Rattle.message_retry.specs.Retry.{is_same_identity, is_waiting, without}
use Rattle.agent_state.specs.State.{AgentState, blank_agent}
use Rattle.nsi_agent.specs.Homes.{Home}
use Rattle.nsi_agent.specs.Steps.{after, waits}
use Rattle.nsi_agent.specs.Told.{goes_on}
use Rattle.nsi_agent.specs.Laws.{left_waiting}
use Rattle.nsi_agent.proofs.Staying.{entries_are_taken}
use Rattle.due_events.specs.Counts.{is_acked, has_kind, entries_in}
use Rattle.due_events.specs.Due.{IsDueInput}
use Rattle.due_events.specs.Laws.{AckedsAreFew}
use Rattle.due_events.proofs.Entries.{one_if}
use Rattle.due_events.proofs.Journals.{AreTakenDue, journals_due}

without_less : (i : Identity) (ms : List Message) → is_waiting i ms ≡ true → length (without i ms) + 1 ≡ length ms
unfolding is_waiting without
without_less i [] e = absurd (cc)
without_less i (m ∷ ms) e = by (is_same_identity i (identity m)) e (without_less i ms)
  where
    by : (b : Bool) → (b || list_any (λ (x : Message). is_same_identity i (identity x)) ms) ≡ true
        → (list_any (λ (x : Message). is_same_identity i (identity x)) ms ≡ true → length (without i ms) + 1 ≡ length ms) → length (cond b ms (m ∷ without i ms)) + 1 ≡ length (m ∷ ms)
    by true f rest = omega arith
    by false f rest = omega (arith, rest f)

left_less : (h : Home) (s : AgentState) (input : Input) → IsDueInput h s input → one_if (is_acked input) + length (left_waiting input s.base.waiting) ≡ length s.base.waiting
unfolding waits
left_less h s (Input.Acked i) due = omega (arith, without_less i s.base.waiting due)
left_less h s (Input.Got m) due = omega arith
left_less h s (Input.Work n machine) due = omega arith
left_less h s (Input.Force n) due = omega arith
left_less h s Input.Tick due = omega arith
left_less h s (Input.Ask n ask) due = omega arith

acks_from : (h : Home) (s : AgentState) (es : List Entry) → AreTakenDue h s es → entries_in is_acked es + length (goes_on h s es).state.base.waiting ≡ length s.base.waiting + length (goes_on h s es).out
unfolding AreTakenDue goes_on
acks_from h s [] all = omega arith
acks_from h s (e ∷ es) all =
    let x = after h s e in
    omega (
      arith,
      sum_by-cons (λ (y : Entry). one_if (has_kind is_acked y)) e es,
      acks_from h x.state es all.1,
      left_less h s e.input all.0.due,
      ap length (entries_are_taken h s e all.0.may).waiting,
      length-append (left_waiting e.input s.base.waiting) x.out,
      length-append x.out (goes_on h x.state es).out,
    )

pub ackeds_are_few : AckedsAreFew
ackeds_are_few homes events a run due =
    let acks = acks_from (homes a) blank_agent _ (journals_due homes events run due a) in
    omega (arith, acks)
