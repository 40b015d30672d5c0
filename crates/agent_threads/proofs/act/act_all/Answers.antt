use Rattle.std.proofs.Common.{refl, subst, sym, ◌∷◌, []}
use Rattle.std.specs.Prelude.{OnOk, Result}
use Rattle.std.proofs.lemmas.Result.{err_from_is_err_and}
use Rattle.nsi_script.specs.declared.script.Act.{Act}
use Rattle.agent_threads.specs.declared.fault.RunFault.{RunFault}
use Rattle.agent_threads.specs.Nets.{EachIs}
use Rattle.agent_threads.specs.Made.{DoesAct, counted, HasRunCause, IsOfRestart}
use Rattle.agent_threads.proofs.Causes.{if_err, shelf_still}
use Rattle.agent_threads.proofs.Left.{left_unstopped}
use Rattle.agent_threads.proofs.Restarting.{acts_plainly}
use Rattle.agent_threads.proofs.act.act_all.Goals as goal

pub returns-in-Restart-clause-done : goal.returns-in-Restart-clause-done
returns-in-Restart-clause-done g c =
    subst (λ (a : Act). OnOk c.restart_at.result (EachIs (DoesAct a c.args.number) c.args.nodes.now.items c.restart_at.new.nodes.items)) (sym c.in-Restart.is) c.restart_at.ensures.done

pub returns : goal.returns
returns g c =
    let olds = c.args.nodes.now.items in
    let news = c.act_each.new.nodes.items in
    record {
      done = acts_plainly c.args.act.now c.args.number olds news c.in_default.not-Restart c.in_ok-act_each.ensures.done;
      agents = left_unstopped olds news (counted (g.B.Reopen.faults c.args.shelf.now) (g.B.Reopen.stops c.args.shelf.now)) (counted (g.B.Reopen.faults c.args.shelf.now) (g.B.Reopen.stops c.args.shelf.now)) c.in_ok-act_each.ensures.agents refl;
      shelf = shelf_still _ _ _ refl refl;
      stays = λ n h. h;
      cause = tt;
      mild = tt;
    }

pub returns-in_err-act_each : goal.returns-in_err-act_each
returns-in_err-act_each g c =
    let acts = c.args.act.now ∷ [] in
    let olds = c.args.nodes.now.items in
    let news = c.act_each.new.nodes.items in
    let counts = counted (g.B.Reopen.faults c.args.shelf.now) (g.B.Reopen.stops c.args.shelf.now) in
    let r = c.from_residual.result in
    let p = err_from_is_err_and r c.from_residual.ensures.1 in
    record {
      done = subst (λ (x : Result (Unit {0}) RunFault). OnOk x (EachIs (DoesAct c.args.act.now c.args.number) olds news)) (sym p.1) tt;
      agents = left_unstopped olds news (counted (g.B.Reopen.faults c.args.shelf.now) (g.B.Reopen.stops c.args.shelf.now)) (counted (g.B.Reopen.faults c.args.shelf.now) (g.B.Reopen.stops c.args.shelf.now)) c.in_err-act_each.ensures.agents refl;
      shelf = shelf_still _ _ _ refl refl;
      stays = λ n h. h;
      cause = if_err r (HasRunCause acts olds news counts counts) p.0 p.1 (subst (λ (e : RunFault). HasRunCause acts olds news counts counts e) (sym p.2) tt);
      mild = if_err r IsOfRestart p.0 p.1 (subst IsOfRestart (sym p.2) tt);
    }
