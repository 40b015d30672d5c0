use Rattle.std.proofs.Common.{rules, ◌≡◌, List, sym, subst, arith, length}
use Rattle.std.specs.List.{All}
use Rattle.nsi_primitive.specs.Printable.{IsPrintableEvent}
use Rattle.nsi_primitive.specs.declared.entry.Event.{Event}
use Rattle.run_totals.specs.Totals.{IsOf}
use Rattle.net_run.specs.Begun.{restarts_from}
use Rattle.net_run.proofs.Remaking.{from_each}
use Rattle.net_run.proofs.world.tell_restarts.Goals as goal

pub written-requires : goal.written-requires
written-requires g c =
    let t = c.args.play.now.topology.now in
    let tries = c.args.tries.now in
    let same : c.deref.result.now ≡ restarts_from 0 tries = search rules in
    let few = c.requires in
    let of : All (IsOf t) c.deref.result.now = subst (λ (es : List Event). All (IsOf t) es) (sym same) (from_each (IsOf t) (length t.agents) 0 tries (omega (arith, few)) (λ n h. h)) in
    let printable : All IsPrintableEvent c.deref.result.now = subst (λ (es : List Event). All IsPrintableEvent es) (sym same) (from_each IsPrintableEvent (length t.agents) 0 tries (omega (arith, few)) (λ n h. tt)) in
    λ k d h. record { agent = of k d h; printable = printable k d h }
