use Rattle.std.proofs.Common.{rules, ◌≡◌, ◌∙◌, false, Some, None, sym}
use Rattle.race_threads.specs.Raced.{AreOfOne}
use Rattle.race_threads.proofs.Lone.{first_there, all_of_first, if_none}
use Rattle.race_threads.proofs.alone.sole_asker.Goals as goal

pub returns-in_err-agent-clause-none : goal.returns-in_err-agent-clause-none
returns-in_err-agent-clause-none c =
    let none : c.first_asked.result ≡ None = search rules in
    if_none c.from_residual.result (AreOfOne c.args.acts.now → ⊥) (first_there c.args.given c.args.acts.now c.first_asked.result c.first_asked.ensures none)

pub returns-else-all_ask-clause-none : goal.returns-else-all_ask-clause-none
returns-else-all_ask-clause-none c = λ one.
    let some : c.first_asked.result ≡ Some c.in_ok-agent.agent = search rules in
    let other : c.all_ask.result ≡ false = search rules in
    all_of_first c.args.given c.in_ok-agent.agent c.args.acts.now c.first_asked.result c.first_asked.ensures some (sym c.all_ask.ensures ∙ other) one
