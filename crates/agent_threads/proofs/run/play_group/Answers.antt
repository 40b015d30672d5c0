use Rattle.std.proofs.Common.{◌-◌, ◌∙◌, refl, List, Err, sym, ap, subst, arith, length}
use Rattle.std.specs.List.{All}
use Rattle.nsi_primitive.specs.declared.entry.Event.{Event}
use Rattle.trace_text.specs.Lines.{HasLine}
use Rattle.agent_threads.specs.declared.fault.RunFault.{RunFault}
use Rattle.std.proofs.lemmas.Result.{err_from_is_err_and}
use Rattle.agent_threads.specs.Made.{counted, HasSettleCause}
use Rattle.agent_threads.proofs.Causes.{same_error, if_err, shelf_failed, shelf_still}
use Rattle.nsi_agent.specs.Homes.{home_in}
use Rattle.agent_threads.specs.Nets.{seats_by}
use Rattle.agent_threads.proofs.Told.{how_many}
use Rattle.agent_threads.proofs.Playing.{passes_behind}
use Rattle.run_totals.specs.Totals.{IsOf, plus, totals_of}
use Rattle.agent_threads.specs.Reports.{written as spelled}
use Rattle.agent_threads.proofs.Going.{go_first, have_lines, are_of, under_room, under_after, up_to_after}
use Rattle.agent_threads.proofs.run.play_group.Goals as goal

pub make_group-requires-clause-few : goal.make_group-requires-clause-few
make_group-requires-clause-few g c κs within = under_room c.args.before.totals.events _ c.args.nodes.now.items (omega arith) c.requires.few

pub written-requires : goal.written-requires
written-requires g c =
    let all = go_first c.args.group.now.at c.args.nodes.now.items c.make_group.new.nodes.items c.new-events.result.items c.make_group.new.events.items c.new-events.ensures.items c.in_ok-asks.ensures.leaves.further in
    subst (λ (es : List Event). All (HasLine c.args.play.now.topology.now) es) (sym c.deref.ensures.value)
    (have_lines c.args.play.now.topology.now c.args.nodes.now.items c.make_group.new.events.items c.requires.numbers all.0 c.in_ok-asks.ensures.leaves.printable)

pub and_more-totals-requires-clause-agents : goal.and_more-totals-requires-clause-agents
and_more-totals-requires-clause-agents g c =
    let all = go_first c.args.group.now.at c.args.nodes.now.items c.make_group.new.nodes.items c.new-events.result.items c.make_group.new.events.items c.new-events.ensures.items c.in_ok-asks.ensures.leaves.further in
    subst (λ (es : List Event). All (IsOf c.args.play.now.topology.now) es) (sym c.deref-2.ensures.value)
    (are_of c.args.play.now.topology.now c.args.nodes.now.items c.make_group.new.events.items c.requires.numbers all.0)

pub returns-clause-ok : goal.returns-clause-ok
returns-clause-ok g c =
    let t = c.args.play.now.topology.now in (
      c.make_group.new.events.items,
      c.and_more-totals.ensures.totals ∙ ap (λ (es : List Event). plus c.args.before.totals (totals_of t es)) c.deref-2.ensures.value,
      c.in_ok-asks.ensures.ok,
      c.in_ok-text.ensures ∙ ap (λ (es : List Event). spelled c.args.play.now.options.report t es) c.deref.ensures.value,
    )

pub returns-clause-bounded : goal.returns-clause-bounded
returns-clause-bounded g c = c.in_ok-asks.ensures.leaves.bounded c.requires.bounded

pub returns-clause-within : goal.returns-clause-within
returns-clause-within g c = omega (arith, how_many c.and_more-totals.ensures.totals, ap length c.deref-2.ensures.value, c.in_ok-asks.ensures.within, c.requires.within)

pub returns-clause-few : goal.returns-clause-few
returns-clause-few g c =
    let all = go_first c.args.group.now.at c.args.nodes.now.items c.make_group.new.nodes.items c.new-events.result.items c.make_group.new.events.items c.new-events.ensures.items c.in_ok-asks.ensures.leaves.further in
    under_after c.args.group.now.at c.args.before.totals.events (length c.make_group.new.events.items) _ c.args.nodes.now.items c.make_group.new.nodes.items (omega (arith, how_many c.and_more-totals.ensures.totals, ap length c.deref-2.ensures.value)) all.1 c.requires.few

pub returns-clause-clocks : goal.returns-clause-clocks
returns-clause-clocks g c =
    let all = go_first c.args.group.now.at c.args.nodes.now.items c.make_group.new.nodes.items c.new-events.result.items c.make_group.new.events.items c.new-events.ensures.items c.in_ok-asks.ensures.leaves.further in
    up_to_after c.args.group.now.at (length c.make_group.new.events.items) c.args.group.now.at c.args.nodes.now.items c.make_group.new.nodes.items (omega arith) all.1 c.requires.later

---- Where the group has failed

pub returns-in_err-asks-clause-long : goal.returns-in_err-asks-clause-long
returns-in_err-asks-clause-long g c = λ t o routes r b v shows h.
    let e = err_from_is_err_and c.from_residual.result c.from_residual.ensures.1 in
    passes_behind (home_in t routes) b _ _ (c.args.play.now.options.limit - c.args.before.totals.events) c.args.play.now.options.limit c.args.before.totals.events c.args.group.now c.args.before.asks (seats_by b c.args.nodes.now.items)
    (omega (arith, c.requires.within)) (c.in_err-asks.ensures.long t o routes r b v shows (ap (λ f. Err f) (same_error c.from_residual.result e.0 c.in_err-asks.field-0.0 _ e.1 e.2 h)))

pub returns-in_err-asks-clause-rises : goal.returns-in_err-asks-clause-rises
returns-in_err-asks-clause-rises g c = λ h.
    let e = err_from_is_err_and c.from_residual.result c.from_residual.ensures.1 in
    c.in_err-asks.ensures.rises (ap (λ f. Err f) (same_error c.from_residual.result e.0 c.in_err-asks.field-0.0 _ e.1 e.2 h))

pub returns-in_err-asks-clause-shelf : goal.returns-in_err-asks-clause-shelf
returns-in_err-asks-clause-shelf g c =
    let e = err_from_is_err_and c.from_residual.result c.from_residual.ensures.1 in
    shelf_failed _ _ _ _ _ e.0 e.1 refl refl c.in_err-asks.ensures.shelf

pub returns-in_err-asks-clause-cause : goal.returns-in_err-asks-clause-cause
returns-in_err-asks-clause-cause g c =
    let olds = c.args.nodes.now.items in
    let news = c.make_group.new.nodes.items in
    let before = counted (g.B.Reopen.faults c.args.shelf.now) (g.B.Reopen.stops c.args.shelf.now) in
    let after = counted (g.B.Reopen.faults c.make_group.new.shelf) (g.B.Reopen.stops c.make_group.new.shelf) in
    let e = err_from_is_err_and c.from_residual.result c.from_residual.ensures.1 in
    let acts = c.args.group.now.acts in
    if_err c.from_residual.result (HasSettleCause acts olds news before after) e.0 e.1
    (subst (λ (f : RunFault). HasSettleCause acts olds news before after f) (sym e.2) c.in_err-asks.ensures.cause)

pub returns-in_err-asks-clause-mild : goal.returns-in_err-asks-clause-mild
returns-in_err-asks-clause-mild g c = λ h.
    let e = err_from_is_err_and c.from_residual.result c.from_residual.ensures.1 in
    c.in_err-asks.ensures.mild (ap (λ f. Err f) (same_error c.from_residual.result e.0 c.in_err-asks.field-0.0 _ e.1 e.2 h))

pub returns-in_err-text-clause-shelf : goal.returns-in_err-text-clause-shelf
returns-in_err-text-clause-shelf g c = shelf_still _ _ _ c.in_ok-asks.ensures.shelf.quiet c.in_ok-asks.ensures.shelf.calm

pub returns-clause-shelf : goal.returns-clause-shelf
returns-clause-shelf g c = shelf_still _ _ _ c.in_ok-asks.ensures.shelf.quiet c.in_ok-asks.ensures.shelf.calm
