use Rattle.file_shelf.proofs.Names.{distinct, inside}
use Rattle.file_shelf.proofs.name.distinct_files.Goals as goal

pub returns-clause-distinct : goal.returns-clause-distinct
returns-clause-distinct c = distinct

pub returns-clause-inside : goal.returns-clause-inside
returns-clause-inside c = inside
