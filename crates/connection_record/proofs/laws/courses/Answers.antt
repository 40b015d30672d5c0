use Rattle.connection_record.proofs.Courses.{course_after}
use Rattle.connection_record.proofs.laws.courses.Goals as goal

pub returns : goal.returns
returns c = course_after
