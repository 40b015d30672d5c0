use Rattle.std.proofs.Common.{rules, ◌≡◌, ◌<◌, Some, None, length, refl, arith}
use Rattle.std.proofs.lemmas.List.{drop_all}
use Rattle.nsi_primitive.specs.Messages.{named_connection}
use Rattle.race_caller.proofs.Named.{named_behind, named_here, named_nowhere}
use Rattle.race_caller.proofs.serving.first_named.Goals as goal

pub loop-message-init : goal.loop-message-init
loop-message-init c = refl

pub loop-message-preserved : goal.loop-message-preserved
loop-message-preserved c =
    let within : c.loop-message.message-index < length c.args.messages.now = omega (arith, c.loop-message-test.true) in
    let none : named_connection c.message-item.result.body ≡ None = search rules in
    named_behind c.args.messages.now c.loop-message.message-index c.message-item.result within c.message-item.is none c.loop-message.invariant

pub returns-in-Some : goal.returns-in-Some
returns-in-Some c =
    let within : c.loop-message.message-index < length c.args.messages.now = omega (arith, c.loop-message-test.true) in
    let named : named_connection c.message-item.result.body ≡ Some c.in-Some.connection = search rules in
    named_here c.args.messages.now c.loop-message.message-index c.in-Some.connection c.message-item.result within c.message-item.is named c.loop-message.invariant

pub returns : goal.returns
returns c = named_nowhere c.args.messages.now _ (drop_all c.loop-message.message-index c.args.messages.now (omega (arith, c.loop-message-test.false))) c.loop-message.invariant
