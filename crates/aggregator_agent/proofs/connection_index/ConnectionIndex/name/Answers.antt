use Rattle.std.proofs.Common.{subst}
use Rattle.std.specs.Prelude.{OnOk}
use Rattle.aggregator_agent.specs.Indexed.{IsEndNamedBut}
use Rattle.aggregator_agent.proofs.Found.{on_ok}
use Rattle.aggregator_agent.proofs.connection_index.ConnectionIndex.name.Goals as goal

pub returns-in_err-name_connection-clause-grows : goal.returns-in_err-name_connection-clause-grows
returns-in_err-name_connection-clause-grows c = record { ids = c.name_connection.ensures.grows; ends = λ x has. has }

pub returns-clause-grows : goal.returns-clause-grows
returns-clause-grows c = record { ids = c.name_connection.ensures.grows; ends = c.name_end.ensures.grows }

pub returns-clause-named : goal.returns-clause-named
returns-clause-named c = on_ok _ c.name_end.result c.in_ok-name_connection.ensures.named

pub returns-clause-end : goal.returns-clause-end
returns-clause-end c = subst (λ o. OnOk c.name_end.result (IsEndNamedBut c.args.before c.name_end.new.ends c.args.place o)) c.end.ensures c.name_end.ensures.named
