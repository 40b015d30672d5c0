use Rattle.std.proofs.Common.{◌∙◌, sym, ap, string_bytes, bytes_eq, position}
use Rattle.requester_agent.proofs.Labelled.{position_map}
use Rattle.requester_agent.proofs.labels.Labels.place.Goals as goal

pub returns : goal.returns
returns c =
    let label = c.args.label.now in
    let keys = c.self.inside.texts.keys in
    rw c.as_str.ensures.text at c.get_index_of.ensures.index ∙ (sym (position_map (bytes_eq label) string_bytes keys) ∙ ap (position (bytes_eq label)) c.self.view_is)
