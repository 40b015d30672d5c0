use Rattle.run_requests.proofs.Scripted.{scripts_are_worth as they_are_worth}
use Rattle.run_requests.proofs.laws.scripts_are_worth.Goals as goal

pub returns : goal.returns
returns c = they_are_worth c.plays_are_scripted.ensures.worth
