use Rattle.run_changes.proofs.Messages.{messages_are_few as few_told}
use Rattle.run_changes.proofs.laws.messages_are_few.Goals as goal

pub returns : goal.returns
returns c =
    few_told c.every_message.ensures.own c.sent.ensures.heard c.heard.ensures.heard c.providers_pay.ensures.telling c.aggregators_pay.ensures.telling c.lates_are_few.ensures.telling
