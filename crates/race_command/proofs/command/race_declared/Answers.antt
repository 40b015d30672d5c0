use Rattle.std.proofs.Common.{◌≡◌, ◌∙◌, sym}
use Rattle.stp_topology.specs.declared.fault.TopologyFault.TheVariants.{Empty}
use Rattle.fault_lines.specs.Lines.{topology_fault, script_fault}
use Rattle.race_command.specs.declared.ending.RaceEnd.{RaceEnd}
use Rattle.race_command.proofs.Racing.{both, over, comes_no_provider, comes_no_script, comes_contest, raced_for, provided_for, within_for}
use Rattle.race_command.proofs.command.race_declared.Goals as goal

pub returns-in_default : goal.returns-in_default
returns-in_default g c =
    let d = c.args.declared in
    both c.bad_topology.result (λ o. o.end ≡ RaceEnd.BadTopology) (λ o. o.text.items ≡ topology_fault d.lines Empty) _
    (λ o end text. comes_no_provider c.args.means.now.most c.args.bytes.now _ _ o c.requires.size d c.requires.declared (sym c.first_provider.ensures.first ∙ c.in_default.is) end text) c.bad_topology.ensures.end c.bad_topology.ensures.text

pub race_contest-requires-clause-same : goal.race_contest-requires-clause-same
race_contest-requires-clause-same g c κs within = record { first = c.args.declared; is = c.requires.declared; same = sym c.in-Ok.ensures.contest.topology }

pub race_contest-requires-clause-within : goal.race_contest-requires-clause-within
race_contest-requires-clause-within g c κs within = within_for _ _ _ _ c.in-Ok.contest c.in-Ok.ensures.contest c.in-Some.ensures.within

pub race_contest-requires-clause-provider : goal.race_contest-requires-clause-provider
race_contest-requires-clause-provider g c κs within = provided_for _ _ _ _ c.in-Ok.contest c.in-Ok.ensures.contest c.in-Some.ensures.is_provider

pub race_contest-requires-clause-race : goal.race_contest-requires-clause-race
race_contest-requires-clause-race g c κs within = raced_for _ _ _ _ c.in-Ok.contest c.in-Ok.ensures.contest

pub returns-in-Ok : goal.returns-in-Ok
returns-in-Ok g c =
    let d = c.args.declared in
    over c.race_contest.result _ _
    (λ o h. comes_contest c.args.means.now.most c.args.bytes.now _ _ o c.requires.size d c.requires.declared c.in-Some.provider c.in-Ok.contest (sym c.first_provider.ensures.first ∙ c.in-Some.is) c.in-Ok.ensures.contest h) c.race_contest.ensures

pub returns-in-Err-Fault : goal.returns-in-Err-Fault
returns-in-Err-Fault g c =
    let d = c.args.declared in
    both c.bad_script.result (λ o. o.end ≡ RaceEnd.BadScript) (λ o. o.text.items ≡ script_fault c.in-Err-Fault.line c.in-Err-Fault.fault) _
    (λ o end text. comes_no_script c.args.means.now.most c.args.bytes.now _ _ o c.requires.size d c.requires.declared c.in-Some.provider c.in-Err-Fault.line c.in-Err-Fault.fault
    (sym c.first_provider.ensures.first ∙ c.in-Some.is) (rw c.in-Err-Fault.field-0-is at c.in-Err-Fault.ensures.refused) end text) c.bad_script.ensures.end c.bad_script.ensures.text
