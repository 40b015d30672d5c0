-- Committed versions rise in every world of a run.
use Rattle.std.proofs.Common.{take}
use Rattle.std.proofs.lemmas.List.Elements.{All-take}
use Rattle.nsi_primitive.specs.Printable.{IsPrintableEntry}
use Rattle.nsi_world.specs.Worlds.{World, empty}
use Rattle.nsi_world.specs.Runs.{world_after}
use Rattle.run_growth.specs.AgentLaws.{RecordsRise}
use Rattle.run_growth.specs.Laws.{RunsAreRising}
use Rattle.run_growth.proofs.Entered.{entries_of}

pub runs_are_rising : RecordsRise → RunsAreRising
runs_are_rising rise homes events run a k c =
    let w : World = world_after empty events in
    rise (homes a) (take k (w.journal a)) (All-take IsPrintableEntry k (w.journal a) (entries_of homes events run a).printable)
