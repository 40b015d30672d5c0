use Rattle.capacity_calendar.proofs.Owned.{sound_at_first, indexed_at_first}
use Rattle.capacity_calendar.proofs.calendar.Calendar.new.Goals as goal

pub invariant_of-result : goal.invariant_of-result
invariant_of-result c = rw c.new-2.ensures (sound_at_first c.in_ok-new.field-0, λ flow. indexed_at_first c.in_ok-new.field-0 flow _ (λ stp. c.in_ok-new-2.ensures flow stp))
