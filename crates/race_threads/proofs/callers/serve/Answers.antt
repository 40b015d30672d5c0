use Rattle.std.proofs.Common.{◌≡◌, ◌<◌, ℕ, false, length, sym, ap, subst}
use Rattle.std.specs.Prelude.{◌==◌}
use Rattle.race_run.specs.declared.replayed.Call.{Call}
use Rattle.race_threads.proofs.Sitting.{is_requester, is_apart, is_served}
use Rattle.race_threads.proofs.callers.serve.Goals as goal

pub served-requires-clause-provider : goal.served-requires-clause-provider
served-requires-clause-provider g c =
    subst (λ (n : ℕ). n < length c.args.door.now.topology.now.agents) (sym (ap (λ (k : Call). k.provider) c.requires.caller.call)) c.requires.within

pub served-requires-clause-requester : goal.served-requires-clause-requester
served-requires-clause-requester g c = is_requester c.args.door.now.topology.now c.args.race.now.provider c.args.caller.job.call.agent c.requires.caller.caller

pub served-requires-clause-apart : goal.served-requires-clause-apart
served-requires-clause-apart g c =
    subst (λ (n : ℕ). (n == c.args.caller.job.call.agent) ≡ false) (sym (ap (λ (k : Call). k.provider) c.requires.caller.call))
    (is_apart c.args.door.now.topology.now c.args.race.now.provider c.args.caller.job.call.agent c.requires.provider c.requires.caller.caller)

pub returns : goal.returns
returns g c =
    is_served c.args.door.now.topology.now c.args.race.now.provider c.args.race.now.start c.args.race.now.acts.now c.args.door.now.shared.now c.args.caller _ c.requires.caller c.agent_of-agent.ensures c.in_ok-items.ensures.own c.in_ok-items.ensures.stand
