use Rattle.request_worth.proofs.Requesting.{requesters_ask_no_more as it_is}
use Rattle.request_worth.proofs.laws.requesters_ask_no_more.Goals as goal

pub returns : goal.returns
returns c = it_is
