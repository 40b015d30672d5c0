use Rattle.run_requests.proofs.Few.{requests_are_few as they_are_few}
use Rattle.run_requests.proofs.laws.requests_are_few.Goals as goal

pub returns : goal.returns
returns c = they_are_few c.fees_exist.ensures c.paid_are_few.ensures
