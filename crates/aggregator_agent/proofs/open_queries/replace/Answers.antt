use Rattle.std.proofs.Common.{◌∙◌, ap, sym}
use Rattle.std.specs.BTreeMap.{BTreeMap, is_at}
use Rattle.std.specs.Option.{option_copied_mut}
use Rattle.std.specs.Ordering.{nat_cmp}
use Rattle.agent_state.specs.declared.parent.OpenQuery.{OpenQuery}
use Rattle.aggregator_agent.proofs.OpenTold.{set_none}
use Rattle.aggregator_agent.proofs.open_queries.replace.Goals as goal

pub returns-in_default : goal.returns-in_default
returns-in_default c =
    ap (λ m. m.entries) c.get_mut.follows.holds-at-none
    ∙ sym (set_none (is_at (nat_cmp c.args.number)) c.args.queries.now.entries c.args.query (sym c.get_mut.ensures.value ∙ ap option_copied_mut c.in_default.is))
