use Rattle.std.proofs.Common.{◌∙◌, sym, ap, subst, OnErr, Result, Ok, Err, All}
use Rattle.std.specs.List.{list_any}
use Rattle.nsi_primitive.specs.Messages.{identity}
use Rattle.message_retry.specs.Retry.{with_heard}
use Rattle.message_retry.specs.Marks.{identities, IsMarked}
use Rattle.message_retry.proofs.MarkLemmas.{mark_eq, is_marked, still_identities, still_marked, identities-more, marked-more}
use Rattle.message_retry.proofs.heard.HeardMessages.take.Goals as goal

at_err : {T E : Type 0} {P : Type 0} (r : Result T E) → P → OnErr r P
at_err (Ok x) p = _
at_err (Err e) p = p

pub invariant_of-self : goal.invariant_of-self
invariant_of-self c = still_marked c.self.inside.names c.noted.new.names c.noted.ensures.kept c.self.inside.marks.keys c.self.invariant

pub returns-in_err-mark-clause-err : goal.returns-in_err-mark-clause-err
returns-in_err-mark-clause-err c = at_err c.from_residual.result (still_identities c.self.inside.names c.noted.new.names c.noted.ensures.kept c.self.inside.marks.keys c.self.invariant ∙ c.self.view_is)

pub invariant_of-self-in_err-_is_new : goal.invariant_of-self-in_err-_is_new
invariant_of-self-in_err-_is_new c =
    subst (All (IsMarked c.noted.new.names)) (sym c.in_err-_is_new.ensures.err) (still_marked c.self.inside.names c.noted.new.names c.noted.ensures.kept c.self.inside.marks.keys c.self.invariant)

pub returns-in_err-_is_new-clause-err : goal.returns-in_err-_is_new-clause-err
returns-in_err-_is_new-clause-err c =
    at_err c.from_residual-in_err-_is_new.result (ap (identities c.noted.new.names) c.in_err-_is_new.ensures.err ∙ (still_identities c.self.inside.names c.noted.new.names c.noted.ensures.kept c.self.inside.marks.keys c.self.invariant ∙ c.self.view_is))

pub invariant_of-self-2 : goal.invariant_of-self-2
invariant_of-self-2 c =
    let m = c.in_ok-mark.mark in
    let keys = c.self.inside.marks.keys in
    let marked = is_marked c.noted.new.names (identity c.args.message.now) m c.in_ok-mark.ensures.mark in
    subst (All (IsMarked c.noted.new.names)) (sym c.in_ok-_is_new.ensures.keys)
    (marked-more c.noted.new.names m marked keys (still_marked c.self.inside.names c.noted.new.names c.noted.ensures.kept keys c.self.invariant) (list_any (mark_eq m) keys))

pub returns-clause-taken : goal.returns-clause-taken
returns-clause-taken c =
    let i = identity c.args.message.now in
    let keys = c.self.inside.marks.keys in
    let still = still_marked c.self.inside.names c.noted.new.names c.noted.ensures.kept keys c.self.invariant in
    let same = still_identities c.self.inside.names c.noted.new.names c.noted.ensures.kept keys c.self.invariant ∙ c.self.view_is in
    ap (identities c.noted.new.names) c.in_ok-_is_new.ensures.keys ∙ (identities-more c.noted.new.names i c.in_ok-mark.mark c.in_ok-mark.ensures.mark keys still ∙ ap (with_heard i) same)
