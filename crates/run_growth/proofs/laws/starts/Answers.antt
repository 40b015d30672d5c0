use Rattle.run_growth.proofs.Starting.{each_reserve_says_its_start}
use Rattle.run_growth.proofs.laws.starts.Goals as goal

pub returns : goal.returns
returns c = each_reserve_says_its_start
