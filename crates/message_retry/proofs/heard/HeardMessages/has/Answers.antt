use Rattle.std.proofs.Common.{◌∙◌, sym, ap}
use Rattle.nsi_primitive.specs.Messages.{identity}
use Rattle.message_retry.specs.Retry.{is_heard}
use Rattle.message_retry.proofs.MarkLemmas.{heard_any, never_heard}
use Rattle.message_retry.proofs.heard.HeardMessages.has.Goals as goal

pub returns-in-Some : goal.returns-in-Some
returns-in-Some c =
    let i = identity c.args.message.now in
    let of = sym c.known.ensures ∙ c.in-Some.is in
    c.contains.ensures ∙ (heard_any c.self.inside.names i c.in-Some.mark of c.self.inside.marks.keys c.self.invariant ∙ ap (is_heard i) c.self.view_is)

pub returns-in-None : goal.returns-in-None
returns-in-None c =
    let i = identity c.args.message.now in
    let of = sym c.known.ensures ∙ c.in-None.is in
    sym (never_heard c.self.inside.names i of c.self.inside.marks.keys c.self.invariant) ∙ ap (is_heard i) c.self.view_is
