use Rattle.std.proofs.Common.{◌∙◌, ap, sym, subst, Some, None, Option}
use Rattle.std.proofs.lemmas.Result.{err_from_is_err_and}
use Rattle.agent_node.specs.declared.fault.TurnFault.{TurnFault}
use Rattle.agent_node.specs.Kept.{fault_in, kept_with}
use Rattle.agent_node.specs.Made.{IsTurnWith}
use Rattle.agent_node.specs.Turns.{takes_all, worked}
use Rattle.agent_node.proofs.Growing.{worked_grow}
use Rattle.agent_node.proofs.Making.{turn_stops, turn_unsynced, turn_made}
use Rattle.agent_node.proofs.Stepping.{stops, goes_twice}
use Rattle.agent_node.proofs.Stopping.{counted_as}
use Rattle.agent_node.proofs.turn.make_turn_with.Goals as goal

pub returns-in_err-take_all-clause-made : goal.returns-in_err-take_all-clause-made
returns-in_err-take_all-clause-made g c =
    let a = c.args.core.now in
    let m = g.J.Journal.meter c.args.journal.now in
    let k = g.J.Journal.kept c.args.journal.now in
    let xs = c.args.parcels.items in
    let p = err_from_is_err_and c.from_residual.result c.from_residual.ensures.1 in
    let z = c.in_err-take_all.field-0.0 in
    subst (λ (f : Option TurnFault). IsTurnWith xs c.args.room (kept_with a None m k) (kept_with c.take_all.new.self f m k)) (sym (ap fault_in p.1 ∙ ap Some p.2))
    (turn_stops xs c.args.room c.take_all.new.room a c.take_all.new.self z m k
    (stops (λ h s. takes_all h xs s) worked c.args.room c.take_all.new.room a c.take_all.new.self z worked_grow c.in_err-take_all.ensures.goes))

pub returns-in_err-work-clause-made : goal.returns-in_err-work-clause-made
returns-in_err-work-clause-made g c =
    let a = c.args.core.now in
    let m = g.J.Journal.meter c.args.journal.now in
    let k = g.J.Journal.kept c.args.journal.now in
    let xs = c.args.parcels.items in
    let p = err_from_is_err_and c.from_residual-in_err-work.result c.from_residual-in_err-work.ensures.1 in
    let z = c.in_err-work.field-0.0 in
    subst (λ (f : Option TurnFault). IsTurnWith xs c.args.room (kept_with a None m k) (kept_with c.work.new.self f m k)) (sym (ap fault_in p.1 ∙ ap Some p.2))
    (turn_stops xs c.args.room c.work.new.room a c.work.new.self z m k
    (goes_twice (λ h s. takes_all h xs s) worked c.args.room c.take_all.new.room c.work.new.room a c.take_all.new.self c.work.new.self (Some z) c.in_ok-take_all.ensures.goes c.in_err-work.ensures.goes))

pub returns-in_err-sync-clause-made : goal.returns-in_err-sync-clause-made
returns-in_err-sync-clause-made g c =
    let a = c.args.core.now in
    let m = g.J.Journal.meter c.args.journal.now in
    let k = g.J.Journal.kept c.args.journal.now in
    let n = g.J.Journal.meter c.sync.new.journal in
    let j = g.J.Journal.kept c.sync.new.journal in
    let xs = c.args.parcels.items in
    let p = err_from_is_err_and c.from_residual-in_err-sync.result c.from_residual-in_err-sync.ensures.1 in
    let z = c.in_err-sync.field-0.0 in
    subst (λ (f : Option TurnFault). IsTurnWith xs c.args.room (kept_with a None m k) (kept_with c.sync.new.core f n j)) (sym (ap fault_in p.1 ∙ ap Some p.2))
    (turn_unsynced xs c.args.room c.work.new.room a c.work.new.self c.sync.new.core z m n k j
    (goes_twice (λ h s. takes_all h xs s) worked c.args.room c.take_all.new.room c.work.new.room a c.take_all.new.self c.work.new.self None c.in_ok-take_all.ensures.goes c.in_ok-work.ensures.goes)
    c.in_err-sync.ensures.made)

pub returns-clause-made : goal.returns-clause-made
returns-clause-made g c =
    let a = c.args.core.now in
    let m = g.J.Journal.meter c.args.journal.now in
    let k = g.J.Journal.kept c.args.journal.now in
    let n = g.J.Journal.meter c.sync.new.journal in
    let j = g.J.Journal.kept c.sync.new.journal in
    let xs = c.args.parcels.items in
    turn_made xs c.args.room c.work.new.room a c.work.new.self c.sync.new.core c.push.new.self m n k j
    (goes_twice (λ h s. takes_all h xs s) worked c.args.room c.take_all.new.room c.work.new.room a c.take_all.new.self c.work.new.self None c.in_ok-take_all.ensures.goes c.in_ok-work.ensures.goes)
    c.in_ok-sync.ensures.made c.in_ok-push.ensures.stays c.in_ok-push.ensures.ok

pub sync-requires-clause-counted : goal.sync-requires-clause-counted
sync-requires-clause-counted g c =
    counted_as c.work.new.self.seat.synced c.args.core.now.seat.synced (g.J.Journal.kept c.args.journal.now) (c.in_ok-work.ensures.goes.stays.synced ∙ c.in_ok-take_all.ensures.goes.stays.synced) c.requires.counted

pub returns-in_err-take_all-clause-left : goal.returns-in_err-take_all-clause-left
returns-in_err-take_all-clause-left g c = λ e.
    let p = err_from_is_err_and c.from_residual.result c.from_residual.ensures.1 in
    absurd (c.in_err-take_all.ensures.goes.stopped (sym (ap fault_in p.1 ∙ ap Some p.2) ∙ e))

pub returns-in_err-work-clause-left : goal.returns-in_err-work-clause-left
returns-in_err-work-clause-left g c = λ e.
    let p = err_from_is_err_and c.from_residual-in_err-work.result c.from_residual-in_err-work.ensures.1 in
    absurd (c.in_err-work.ensures.goes.stopped (sym (ap fault_in p.1 ∙ ap Some p.2) ∙ e))

pub returns-in_err-sync-clause-left : goal.returns-in_err-sync-clause-left
returns-in_err-sync-clause-left g c = λ e.
    let p = err_from_is_err_and c.from_residual-in_err-sync.result c.from_residual-in_err-sync.ensures.1 in
    c.in_err-sync.ensures.left (sym (ap fault_in p.1 ∙ ap Some p.2) ∙ e)

pub returns-clause-counted : goal.returns-clause-counted
returns-clause-counted g c =
    counted_as c.push.new.self.seat.synced c.sync.new.core.seat.synced (g.J.Journal.kept c.sync.new.journal) c.in_ok-push.ensures.stays.synced c.in_ok-sync.ensures.counted
