use Rattle.std.proofs.Common.{rules}
use Rattle.requester_agent.specs.Core.{state_at, setting_at, standing_at}
use Rattle.requester_agent.specs.Steps.{after}
use Rattle.requester_agent.proofs.Entries.{after_is, standing_ok, good_kept, all_ok}
use Rattle.requester_agent.proofs.requester.Requester.next.Goals as goal

pub invariant_of-self : goal.invariant_of-self
invariant_of-self c =
    let d = c.self.inside.core in
    let is = after_is (setting_at d) (state_at d) c.args.entry.now (search rules) in
    good_kept c.take.result (state_at c.take.new.self) (state_at d) (after (setting_at d) (state_at d) c.args.entry.now).state
    (rw is c.take.ensures.state) c.take.ensures.err c.self.invariant (c.every_entry.ensures.good (setting_at d) (state_at d) c.args.entry.now (search rules) c.requires.printable c.self.invariant)

pub returns-clause-state : goal.returns-clause-state
returns-clause-state c =
    let d = c.self.inside.core in
    let is = after_is (setting_at d) (state_at d) c.args.entry.now (search rules) in
    rw (← c.self.view_is) (standing_ok c.take.result (standing_at c.take.new.self) (setting_at d) (after (setting_at d) (state_at d) c.args.entry.now).state c.take.ensures.setting (rw is c.take.ensures.state))

pub returns-clause-answer : goal.returns-clause-answer
returns-clause-answer c =
    let d = c.self.inside.core in
    let is = after_is (setting_at d) (state_at d) c.args.entry.now (search rules) in
    rw (← c.self.view_is, is) c.take.ensures.answer

pub returns-clause-out : goal.returns-clause-out
returns-clause-out c =
    let d = c.self.inside.core in
    let is = after_is (setting_at d) (state_at d) c.args.entry.now (search rules) in
    rw (← c.self.view_is, is) c.take.ensures.out

pub returns-clause-printable : goal.returns-clause-printable
returns-clause-printable c =
    let d = c.self.inside.core in
    let is = after_is (setting_at d) (state_at d) c.args.entry.now (search rules) in
    all_ok c.take.result _ (rw is c.take.ensures.out) (c.every_entry.ensures.printable (setting_at d) (state_at d) c.args.entry.now (search rules) c.requires.printable c.self.invariant)
