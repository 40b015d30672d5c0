use Rattle.std.proofs.Common.{sym}
use Rattle.capacity_calendar.proofs.Sooner.{first_lack_by-three}
use Rattle.capacity_calendar.proofs.calendar.Calendar.lack_at_point.Goals as goal

pub returns : goal.returns
returns c = rw (c.sooner-2.ensures, c.sooner.ensures, c.lack_in_flow-both.ensures, c.lack_in_flow-inward.ensures, c.lack_in_flow-outward.ensures) (sym (first_lack_by-three _ _ _ _ _ _))
