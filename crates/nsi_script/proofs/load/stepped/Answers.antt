use Rattle.nsi_script.proofs.LoadLemmas.{one_step}
use Rattle.nsi_script.proofs.load.stepped.Goals as goal

pub returns : goal.returns
returns c = one_step c.args.state
