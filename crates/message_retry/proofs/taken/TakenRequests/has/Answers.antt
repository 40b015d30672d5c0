use Rattle.std.proofs.Common.{◌∙◌, sym, ap}
use Rattle.message_retry.specs.Taken.{is_taken}
use Rattle.message_retry.proofs.ExchangeLemmas.{taken_any, never_taken}
use Rattle.message_retry.proofs.taken.TakenRequests.has.Goals as goal

pub returns-in-Some : goal.returns-in-Some
returns-in-Some c =
    let of = sym c.known.ensures ∙ c.in-Some.is in
    c.contains.ensures ∙ (taken_any c.self.inside.names c.args.header.now c.in-Some.exchange of c.self.inside.exchanges.keys c.self.invariant ∙ ap (is_taken c.args.header.now) c.self.view_is)

pub returns-in-None : goal.returns-in-None
returns-in-None c =
    let of = sym c.known.ensures ∙ c.in-None.is in
    sym (never_taken c.self.inside.names c.args.header.now of c.self.inside.exchanges.keys c.self.invariant) ∙ ap (is_taken c.args.header.now) c.self.view_is
