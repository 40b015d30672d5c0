use Rattle.std.proofs.Common.{Result, sym, subst}
use Rattle.nsi_script.specs.declared.fault.ScriptFault.{ScriptFault}
use Rattle.nsi_script.specs.declared.script.Script.{Script}
use Rattle.nsi_script.specs.Drafts.{script_in}
use Rattle.nsi_script.specs.Faults.{Leaves}
use Rattle.nsi_script.proofs.DraftLemmas.{ask_line}
use Rattle.nsi_script.proofs.draft.Draft.ask_of.Goals as goal

pub returns-clause-leaves : goal.returns-clause-leaves
returns-clause-leaves c =
    let is = ask_line c.args.topology.now (script_in c.args.self.now) c.args.requester.now _ c.in_ok-requester.requester.now c.in_ok-ask.ask c.in_ok-agent.agent c.in_ok-requester.ensures c.in_ok-ask.ensures.form c.in_ok-agent.ensures.agent in
    subst (λ (r : Result Script ScriptFault). Leaves c.put_ask.result (script_in c.put_ask.new.self) r) (sym is) c.put_ask.ensures.leaves
