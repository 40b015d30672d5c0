use Rattle.std.proofs.Common.{sym}
use Rattle.capacity_calendar.specs.Places.{places}
use Rattle.capacity_calendar.proofs.Sooner.{first_lack_by-append}
use Rattle.capacity_calendar.proofs.calendar.Calendar.first_lack.Goals as goal

pub returns : goal.returns
unfolding places
returns c = rw (c.sooner.ensures, c.lack_at_point-at_source.ensures, c.lack_at_point-at_dest.ensures) (sym (first_lack_by-append _ _ _ _ _))
