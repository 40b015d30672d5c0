use Rattle.std.proofs.Common.{sym, ◌∙◌}
use Rattle.file_shelf.proofs.Whole.{left_by, reads_on}
use Rattle.file_shelf.proofs.disk.read_whole.Goals as goal

pub loop-preserved : goal.loop-preserved
loop-preserved g c = reads_on _ _ _ _ _ _ _ _ _ _ c.loop.invariant c.read-read.auto.buffer
    c.read-read.ensures.front c.read-read.ensures.bytes c.read-read.ensures.goes c.read-read.ensures.interrupted
    (left_by _ _ _ (sym c.piece_outcome.ensures.value ∙ c.in-Left.is))
