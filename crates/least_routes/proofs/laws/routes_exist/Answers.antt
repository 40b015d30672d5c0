use Rattle.least_routes.proofs.Ways.{routes_exist as they_exist, routes_are_one}
use Rattle.least_routes.proofs.laws.routes_exist.Goals as goal

pub returns-clause-exist : goal.returns-clause-exist
returns-clause-exist c = they_exist

pub returns-clause-one : goal.returns-clause-one
returns-clause-one c = routes_are_one
