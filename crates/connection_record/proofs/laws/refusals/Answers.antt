use Rattle.connection_record.proofs.Unrefused.{unrefused_fits, unrefused_criteria, first_criteria, unrefused_agent, unrefused_at}
use Rattle.connection_record.proofs.laws.refusals.Goals as goal

pub returns : goal.returns
returns c = record {
  fits = unrefused_fits;
  modification = unrefused_criteria;
  first = first_criteria;
  agent = unrefused_agent;
  taken = unrefused_at;
}
