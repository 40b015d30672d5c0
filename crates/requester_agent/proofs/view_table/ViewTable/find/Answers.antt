use Rattle.std.proofs.Common.{◌∙◌, ap, bytes_eq, position}
use Rattle.agent_state.specs.declared.parent.View.{View}
use Rattle.requester_agent.proofs.Labelled.{position_map}
use Rattle.requester_agent.proofs.view_table.ViewTable.find.Goals as goal

pub returns-clause-place : goal.returns-clause-place
returns-clause-place c =
    let label = c.args.label.now in
    let views = c.self.inside.views.items in
    c.place.ensures ∙ (ap (position (bytes_eq label)) c.self.invariant.by_label ∙ (position_map (bytes_eq label) (λ (v : View). v.label) views ∙ ap (position (λ (v : View). bytes_eq label v.label)) c.self.view_is))
