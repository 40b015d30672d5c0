use Rattle.run_requests.proofs.Paying.{paid_requests_are_few}
use Rattle.run_requests.proofs.laws.paid_are_few.Goals as goal

pub returns : goal.returns
returns c =
    paid_requests_are_few c.every_message.ensures.own c.sent.ensures.heard c.requests_are_taken_once.ensures c.aggregators_ask_no_more.ensures c.requesters_ask_no_more.ensures c.taken_were_said.ensures
