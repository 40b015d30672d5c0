use Rattle.std.proofs.Common.{◌∙◌, sym, ap, subst, not, OnErr, Result, Ok, Err, All}
use Rattle.std.specs.List.{list_any}
use Rattle.message_retry.specs.Taken.{is_taken, with_taken}
use Rattle.message_retry.specs.Exchanges.{headers, IsPlaced}
use Rattle.message_retry.proofs.ExchangeLemmas.{exchange_eq, is_placed, still_headers, still_placed, taken_any, headers-more, placed-more}
use Rattle.message_retry.proofs.taken.TakenRequests.take.Goals as goal

at_err : {T E : Type 0} {P : Type 0} (r : Result T E) → P → OnErr r P
at_err (Ok x) p = _
at_err (Err e) p = p

pub invariant_of-self : goal.invariant_of-self
invariant_of-self c = still_placed c.self.inside.names c.noted.new.names c.noted.ensures.kept c.self.inside.exchanges.keys c.self.invariant

pub returns-in_err-exchange-clause-err : goal.returns-in_err-exchange-clause-err
returns-in_err-exchange-clause-err c = at_err c.from_residual.result (still_headers c.self.inside.names c.noted.new.names c.noted.ensures.kept c.self.inside.exchanges.keys c.self.invariant ∙ c.self.view_is)

pub invariant_of-self-in_err-is_new : goal.invariant_of-self-in_err-is_new
invariant_of-self-in_err-is_new c =
    subst (All (IsPlaced c.noted.new.names)) (sym c.in_err-is_new.ensures.err) (still_placed c.self.inside.names c.noted.new.names c.noted.ensures.kept c.self.inside.exchanges.keys c.self.invariant)

pub returns-in_err-is_new-clause-err : goal.returns-in_err-is_new-clause-err
returns-in_err-is_new-clause-err c =
    at_err c.from_residual-in_err-is_new.result (ap (headers c.noted.new.names) c.in_err-is_new.ensures.err ∙ (still_headers c.self.inside.names c.noted.new.names c.noted.ensures.kept c.self.inside.exchanges.keys c.self.invariant ∙ c.self.view_is))

pub invariant_of-self-2 : goal.invariant_of-self-2
invariant_of-self-2 c =
    let e = c.in_ok-exchange.exchange in
    let keys = c.self.inside.exchanges.keys in
    let placed = is_placed c.noted.new.names c.args.header.now e c.in_ok-exchange.ensures.exchange in
    subst (All (IsPlaced c.noted.new.names)) (sym c.in_ok-is_new.ensures.keys)
    (placed-more c.noted.new.names e placed keys (still_placed c.self.inside.names c.noted.new.names c.noted.ensures.kept keys c.self.invariant) (list_any (exchange_eq e) keys))

pub returns-clause-new : goal.returns-clause-new
returns-clause-new c =
    let h = c.args.header.now in
    let keys = c.self.inside.exchanges.keys in
    let still = still_placed c.self.inside.names c.noted.new.names c.noted.ensures.kept keys c.self.invariant in
    let same = still_headers c.self.inside.names c.noted.new.names c.noted.ensures.kept keys c.self.invariant ∙ c.self.view_is in
    c.in_ok-is_new.ensures.added ∙ ap not (taken_any c.noted.new.names h c.in_ok-exchange.exchange c.in_ok-exchange.ensures.exchange keys still ∙ ap (is_taken h) same)

pub returns-clause-taken : goal.returns-clause-taken
returns-clause-taken c =
    let h = c.args.header.now in
    let keys = c.self.inside.exchanges.keys in
    let still = still_placed c.self.inside.names c.noted.new.names c.noted.ensures.kept keys c.self.invariant in
    let same = still_headers c.self.inside.names c.noted.new.names c.noted.ensures.kept keys c.self.invariant ∙ c.self.view_is in
    ap (headers c.noted.new.names) c.in_ok-is_new.ensures.keys ∙ (headers-more c.noted.new.names h c.in_ok-exchange.exchange c.in_ok-exchange.ensures.exchange keys still ∙ ap (with_taken h) same)
