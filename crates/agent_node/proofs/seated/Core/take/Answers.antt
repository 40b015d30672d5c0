use Rattle.std.proofs.Common.{rules, ◌≡◌, ◌∙◌, ap, sym, subst, Some}
use Rattle.std.proofs.lemmas.Result.{err_from_is_err_and}
use Rattle.nsi_primitive.specs.declared.entry.Input.{Input}
use Rattle.nsi_primitive.specs.declared.message.Parcel.{Parcel}
use Rattle.stp_topology.specs.Network.{kind_of}
use Rattle.nsi_agent.specs.Homes.{home_in}
use Rattle.nsi_agent.specs.Steps.{is_new, waits}
use Rattle.agent_node.specs.Seat.{enters_if, queues}
use Rattle.agent_node.specs.Turns.{takes}
use Rattle.agent_node.specs.Kept.{fault_in}
use Rattle.agent_node.specs.Seated.{Goes}
use Rattle.agent_node.proofs.Allowed.{got_for}
use Rattle.agent_node.proofs.Growing.{takes_message, takes_ack, queues_grow}
use Rattle.agent_node.proofs.Stepping.{goes_as, queued, stops}
use Rattle.agent_node.proofs.seated.Core.take.Goals as goal

pub enter_if-requires-clause-kind : goal.enter_if-requires-clause-kind
enter_if-requires-clause-kind c = λ h.
    let a = c.args.self.now in
    got_for (kind_of a.network a.seat.number) c.in-Message.message

pub returns-in_err-enter_if-in-Message : goal.returns-in_err-enter_if-in-Message
returns-in_err-enter_if-in-Message c =
    let a = c.args.self.now in
    let b = c.is_new-is_new.result in
    let m = c.in-Message.message in
    let i = c.in_ok-identity-in-Message.identity in
    let p = err_from_is_err_and c.from_residual-in_err-enter_if-in-Message.result c.from_residual-in_err-enter_if-in-Message.ensures.1 in
    let z = c.in_err-enter_if-in-Message.field-0.0 in
    record {
      goes =
          subst (Goes (λ h s. takes h c.args.from c.args.parcel s) c.args.room.now c.enter_if.new.room a c.enter_if.new.self) (sym (ap fault_in p.1 ∙ ap Some p.2))
          (goes_as (λ h s. queues c.args.from (Parcel.Ack i) (enters_if b h (Input.Got m) s)) (λ h s. takes h c.args.from c.args.parcel s) c.args.room.now c.enter_if.new.room a c.enter_if.new.self (Some z)
          (λ routes are.
          let new : b ≡ is_new (home_in a.network routes a.seat.number) a.seat.state m = search rules in
          takes_message (home_in a.network routes a.seat.number) c.args.from c.args.parcel m i b a.seat c.in-Message.is (search rules) new)
          (stops (λ h s. enters_if b h (Input.Got m) s) (λ h s. queues c.args.from (Parcel.Ack i) s) c.args.room.now c.enter_if.new.room a c.enter_if.new.self z (λ h s. queues_grow h c.args.from (Parcel.Ack i) s)
          c.in_err-enter_if-in-Message.ensures.goes));
    }

pub returns-in_ok-queue-in-Message : goal.returns-in_ok-queue-in-Message
returns-in_ok-queue-in-Message c =
    let a = c.args.self.now in
    let b = c.is_new-is_new.result in
    let m = c.in-Message.message in
    let i = c.in_ok-identity-in-Message.identity in
    record {
      goes =
          goes_as (λ h s. queues c.args.from (Parcel.Ack i) (enters_if b h (Input.Got m) s)) (λ h s. takes h c.args.from c.args.parcel s) c.args.room.now c.enter_if.new.room a _ _
          (λ routes are.
          let new : b ≡ is_new (home_in a.network routes a.seat.number) a.seat.state m = search rules in
          takes_message (home_in a.network routes a.seat.number) c.args.from c.args.parcel m i b a.seat c.in-Message.is (search rules) new)
          (queued (λ h s. enters_if b h (Input.Got m) s) c.args.from (Parcel.Ack i) c.args.room.now c.enter_if.new.room a c.enter_if.new.self _ c.in_ok-enter_if-in-Message.ensures.goes (search rules) (search rules));
    }

pub returns-in-Ack : goal.returns-in-Ack
returns-in-Ack c =
    let a = c.args.self.now in
    let i = c.in-Ack.identity in
    let b = c.waits-waits.result in
    record {
      goes =
          goes_as (λ h s. enters_if b h (Input.Acked i) s) (λ h s. takes h c.args.from c.args.parcel s) c.args.room.now c.enter_if-in-Ack.new.room a c.enter_if-in-Ack.new.self (fault_in c.enter_if-in-Ack.result)
          (λ routes are.
          let w : b ≡ waits i a.seat.state = search rules in
          takes_ack (home_in a.network routes a.seat.number) c.args.from c.args.parcel i b a.seat c.in-Ack.is w)
          c.enter_if-in-Ack.ensures.goes;
    }
