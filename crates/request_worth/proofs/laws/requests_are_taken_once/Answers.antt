use Rattle.request_worth.proofs.Taken.{requests_are_taken_once as they_are}
use Rattle.request_worth.proofs.laws.requests_are_taken_once.Goals as goal

pub returns : goal.returns
returns c = they_are
