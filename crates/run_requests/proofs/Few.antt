-- In each run there are no more requests than asks are worth.
use Rattle.run_requests.specs.Laws.{PaidRequestsAreFew, FeesExist, RequestsAreFew}

pub requests_are_few : FeesExist → PaidRequestsAreFew → RequestsAreFew
requests_are_few exist few t routes events sound formed routed run worth is =
    let fees = exist t routes events sound formed routed run worth is in
    few t routes events sound formed routed run worth fees.0 fees.1
