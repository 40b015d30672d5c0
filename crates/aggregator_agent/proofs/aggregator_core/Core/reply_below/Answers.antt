use Rattle.std.proofs.Common.{◌≡◌, ◌∙◌, ◌<◌, IfOk, List, length, sym, ap, subst}
use Rattle.connection_record.specs.declared.record.Record.{Record}
use Rattle.agent_state.specs.State.{record_at}
use Rattle.aggregator_agent.specs.Below.{nested_reply}
use Rattle.aggregator_agent.specs.Bonds.{Bond, bond_at, records_of}
use Rattle.aggregator_agent.proofs.Queried.{bond_there}
use Rattle.aggregator_agent.proofs.Stepping.{own_at}
use Rattle.aggregator_agent.proofs.aggregator_core.Core.reply_below.Goals as goal

pub returns : goal.returns
returns c =
    let d = c.args.self.now in
    let q = c.args.query.now in
    let item = c.index-all-query.result in
    let at : bond_at q.place d.connections ≡ _ =
    sym (ap (bond_at q.place) c.items-all.ensures) ∙ bond_there c.items-all.result.now q.place item (subst (λ (bs : List Bond). q.place < length bs) (sym c.items-all.ensures) c.requires) c.index-all-query.is
    in
    let own : record_at q.place (records_of d.connections) ≡ item.own = own_at d.connections q.place c.requires ∙ ap (λ (b : Bond). b.own) at in
    subst (λ (r : Record). IfOk c.nested_reply.result (λ m. m ≡ nested_reply d.agent.name r q)) (sym own) c.nested_reply.ensures
