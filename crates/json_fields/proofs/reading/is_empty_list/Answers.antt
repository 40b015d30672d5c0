use Rattle.std.proofs.Common.{rules}
use Rattle.json_fields.proofs.Texts.{nothing_of_view}
use Rattle.json_fields.proofs.reading.is_empty_list.Goals as goal

pub returns-in-Some : goal.returns-in-Some
returns-in-Some c = search (rules, nothing_of_view)
