use Rattle.std.proofs.Common.{rules, ◌≡◌, ◌==◌, ◌∙◌, true, false, length, ap, sym, subst, Some, None, Option}
use Rattle.std.proofs.lemmas.Result.{err_from_is_err_and}
use Rattle.agent_node.specs.declared.fault.TurnFault.{TurnFault}
use Rattle.agent_node.specs.Kept.{fault_in, kept_with}
use Rattle.agent_node.specs.Made.{IsSynced}
use Rattle.agent_node.proofs.Making.{made_none, made_long, made_failed, made_synced, no_entries, some_entries}
use Rattle.agent_node.proofs.Stopping.{IsCut, is_cut, counted_more, counted_as}
use Rattle.agent_node.proofs.turn.sync.Goals as goal

pub returns-then-len-eq0-clause-made : goal.returns-then-len-eq0-clause-made
returns-then-len-eq0-clause-made g c =
    let s = c.args.core.now.seat in
    let none : (length s.fresh == 0) ≡ true = search rules in
    made_none c.args.room c.args.core.now (g.J.Journal.meter c.args.journal.now) (g.J.Journal.kept c.args.journal.now) (no_entries s.fresh none) (g.met.J.Journal.none_waits c.args.journal.now c.requires.none)

pub returns-then-room-eq0-clause-made : goal.returns-then-room-eq0-clause-made
returns-then-room-eq0-clause-made g c =
    let s = c.args.core.now.seat in
    let some : (length s.fresh == 0) ≡ false = search rules in
    made_long c.args.core.now (g.J.Journal.meter c.args.journal.now) (g.J.Journal.kept c.args.journal.now) c.args.room (search rules) (some_entries s.fresh some)

pub returns-in_err-keep-clause-made : goal.returns-in_err-keep-clause-made
returns-in_err-keep-clause-made g c =
    let a = c.args.core.now in
    let old = c.args.journal.now in
    let new = c.keep.new.journal in
    let m = g.J.Journal.meter old in
    let n = g.J.Journal.meter new in
    let k = g.J.Journal.kept old in
    let j = g.J.Journal.kept new in
    let cut : IsCut g.J.Journal.reading a.seat k j (g.J.Journal.history new) =
    is_cut g.J.Journal.reading a.seat _ k j (g.J.Journal.history old) (g.J.Journal.history new) (search rules) c.requires.counted (g.met.J.Journal.none_waits old c.requires.none) (g.met.J.Journal.tells old) (g.met.J.Journal.tells new)
    c.keep.ensures.untold c.keep.ensures.any_moment c.keep.ensures.left c.keep.ensures.front in
    let p = err_from_is_err_and c.from_residual.result c.from_residual.ensures.1 in
    let z = c.in_err-keep.field-0.0 in
    subst (λ (f : Option TurnFault). IsSynced c.args.room (kept_with a None m k) (kept_with a f n j)) (sym (ap fault_in p.1 ∙ ap Some p.2)) (made_failed c.args.room a m n k j c.keep.result z (search rules) c.keep.ensures.cause cut.either cut.front)

pub returns-in_err-keep-clause-left : goal.returns-in_err-keep-clause-left
returns-in_err-keep-clause-left g c = λ e.
    let a = c.args.core.now in
    let old = c.args.journal.now in
    let new = c.keep.new.journal in
    let k = g.J.Journal.kept old in
    let j = g.J.Journal.kept new in
    let cut : IsCut g.J.Journal.reading a.seat k j (g.J.Journal.history new) =
    is_cut g.J.Journal.reading a.seat _ k j (g.J.Journal.history old) (g.J.Journal.history new) (search rules) c.requires.counted (g.met.J.Journal.none_waits old c.requires.none) (g.met.J.Journal.tells old) (g.met.J.Journal.tells new)
    c.keep.ensures.untold c.keep.ensures.any_moment c.keep.ensures.left c.keep.ensures.front in
    cut.left

pub returns-clause-made : goal.returns-clause-made
returns-clause-made g c =
    let s = c.args.core.now.seat in
    let some : (length s.fresh == 0) ≡ false = search rules in
    made_synced c.args.room c.args.core.now c.tell_sync.new.self (g.J.Journal.meter c.args.journal.now) (g.J.Journal.meter c.keep.new.journal) (g.J.Journal.kept c.args.journal.now)
    (g.J.Journal.kept c.keep.new.journal) c.keep.result c.in_ok-keep.field-0 (search rules) c.keep.ensures.cause (search rules) (search rules) (some_entries s.fresh some) c.in_ok-tell_sync.ensures.ok
    c.in_ok-tell_sync.ensures.same

pub returns-clause-counted : goal.returns-clause-counted
returns-clause-counted g c =
    let a = c.args.core.now in
    let old = c.args.journal.now in
    let new = c.keep.new.journal in
    let k = g.J.Journal.kept old in
    let j = g.J.Journal.kept new in
    let cut : IsCut g.J.Journal.reading a.seat k j (g.J.Journal.history new) =
    is_cut g.J.Journal.reading a.seat _ k j (g.J.Journal.history old) (g.J.Journal.history new) (search rules) c.requires.counted (g.met.J.Journal.none_waits old c.requires.none) (g.met.J.Journal.tells old) (g.met.J.Journal.tells new)
    c.keep.ensures.untold c.keep.ensures.any_moment c.keep.ensures.left c.keep.ensures.front in
    counted_as c.tell_sync.new.self.seat.synced _ j c.in_ok-tell_sync.ensures.synced (counted_more a.seat.synced a.seat.fresh k j c.requires.counted cut.told (search rules))
