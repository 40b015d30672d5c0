use Rattle.nsi_agent.specs.Homes.{home_in}
use Rattle.agent_node.specs.Seat.{enters_now, enters_if}
use Rattle.agent_node.specs.Kept.{fault_in}
use Rattle.agent_node.proofs.Growing.{due_yes, due_no}
use Rattle.agent_node.proofs.Stepping.{goes_as, rests}
use Rattle.agent_node.proofs.seated.Core.enter_if.Goals as goal

pub returns-then-is_due : goal.returns-then-is_due
returns-then-is_due c =
    let a = c.args.self.now in
    record {
      goes =
          goes_as (λ h s. enters_now h c.args.input s) (λ h s. enters_if c.args.is_due h c.args.input s) c.args.room.now c.enter_now.new.room a c.enter_now.new.self (fault_in c.enter_now.result)
          (λ routes are. due_yes c.args.is_due (home_in a.network routes a.seat.number) c.args.input a.seat c.if-is_due.true)
          c.enter_now.ensures.goes;
    }

pub returns-else-is_due : goal.returns-else-is_due
returns-else-is_due c =
    let a = c.args.self.now in
    record {
      goes =
          rests (λ h s. enters_if c.args.is_due h c.args.input s) c.args.room.now a c.requires.few
          (λ routes are. due_no c.args.is_due (home_in a.network routes a.seat.number) c.args.input a.seat c.if-is_due.false);
    }
