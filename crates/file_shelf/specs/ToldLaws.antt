-- What a told file reads is one of the things that a crash may leave of it.
use Rattle.std.specs.Prelude.{Option, Some, None, IfSome}
use Rattle.nsi_disk.specs.Disk.{MayLeave, seen}
use Rattle.file_shelf.specs.Told.{Told, past_of}

pub past_image : (told : Option Told) → IfSome told (λ t. MayLeave t.past (seen t.past)) → IfSome (past_of told) (λ h. MayLeave h (seen h))
past_image None law = tt
past_image (Some t) law = law
