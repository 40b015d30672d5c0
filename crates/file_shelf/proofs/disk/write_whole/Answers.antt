use Rattle.std.proofs.Common.{arith, sym, ◌∙◌}
use Rattle.file_shelf.proofs.Whole.{begins, left_by, reach_left, written_left, written_whole, written_failed, written_none}
use Rattle.file_shelf.proofs.disk.write_whole.Goals as goal

pub loop-init : goal.loop-init
loop-init g c = record {
  few = omega arith;
  written = begins c.args.place c.args.piece.now (g.F.DiskFile.told c.args.file.now);
}

pub loop-preserved : goal.loop-preserved
loop-preserved g c =
    let by = left_by _ _ _ (sym c.piece_outcome.ensures.value ∙ c.in-Left.is) in
    record {
      few = omega (arith, c.loop.invariant.few, c.in-Left.ensures.within);
      written = written_left _ _ _ _ _ _ _ _ c.loop.invariant.few c.loop.invariant.written
          c.write-written.ensures.puts c.write-written.ensures.untold c.write-written.ensures.interrupted by;
    }

pub write-written-requires : goal.write-written-requires
write-written-requires g c = record {
  within = omega arith;
  reach = reach_left _ _ _ _ _ c.requires c.loop.invariant.written;
}

pub returns-in-Whole : goal.returns-in-Whole
returns-in-Whole g c =
    written_whole _ _ _ _ _ _ _ c.loop.invariant.few c.loop.invariant.written c.write-written.ensures.puts
    c.write-written.ensures.untold c.write-written.ensures.within (sym c.piece_outcome.ensures.value ∙ c.in-Whole.is)

pub returns-in-Failed : goal.returns-in-Failed
returns-in-Failed g c =
    written_failed _ _ _ _ _ _ _ c.requires (g.met.F.DiskFile.reads_image c.args.file.now) c.loop.invariant.written
    c.write-written.ensures.puts c.write-written.ensures.untold c.write-written.ensures.within

pub returns : goal.returns
returns g c =
    written_none _ _ _ _ _ c.requires (g.met.F.DiskFile.reads_image c.args.file.now) c.loop.invariant.written
