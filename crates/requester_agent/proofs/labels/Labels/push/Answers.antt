use Rattle.std.proofs.Common.{◌∙◌, ◌++◌, ◌∷◌, [], ap, bytes_eq, position}
use Rattle.requester_agent.specs.Labels.{texts_of}
use Rattle.requester_agent.proofs.Labelled.{label_pushed}
use Rattle.requester_agent.proofs.labels.Labels.push.Goals as goal

pub returns-clause-ok : goal.returns-clause-ok
returns-clause-ok c =
    let label = c.args.label.now in
    let keys = c.self.inside.texts.keys in
    let is = c.in_ok-text.ensures.ok ∙ c.as_str.ensures.text in
    ap texts_of c.in_ok-insert.ensures.keys ∙ (label_pushed c.in_ok-text.text keys label is (ap (position (bytes_eq label)) c.self.view_is ∙ c.requires) ∙ ap (λ ls. ls ++ label ∷ []) c.self.view_is)
