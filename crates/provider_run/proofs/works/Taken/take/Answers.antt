use Rattle.std.proofs.lemmas.List.Elements.{All-same, All-push}
use Rattle.nsi_primitive.specs.Printable.{IsPrintableEntry}
use Rattle.provider_run.proofs.works.Taken.take.Goals as goal

pub returns-clause-entries_printable : goal.returns-clause-entries_printable
returns-clause-entries_printable c = λ h. All-same IsPrintableEntry _ _ c.in_ok-push.ensures.items (All-push IsPrintableEntry c.args.self.now.entries.items c.args.entry h c.requires.input)
