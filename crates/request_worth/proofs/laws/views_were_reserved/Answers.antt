use Rattle.request_worth.proofs.Reserving.{views_were_reserved as they_were}
use Rattle.request_worth.proofs.laws.views_were_reserved.Goals as goal

pub returns : goal.returns
returns c = they_were
