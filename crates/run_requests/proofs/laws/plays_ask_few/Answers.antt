use Rattle.run_requests.proofs.Scripted.{plays_ask_few as they_ask_few}
use Rattle.run_requests.proofs.laws.plays_ask_few.Goals as goal

pub returns : goal.returns
returns c = they_ask_few c.plays_are_scripted.ensures.worth c.scripts_are_worth.ensures c.requests_are_few.ensures
