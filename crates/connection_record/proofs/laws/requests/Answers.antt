use Rattle.connection_record.proofs.Beside.{request_beside}
use Rattle.connection_record.proofs.laws.requests.Goals as goal

pub returns : goal.returns
returns c = request_beside
