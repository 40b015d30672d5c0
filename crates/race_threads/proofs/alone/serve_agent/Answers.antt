use Rattle.std.proofs.Common.{rules, ◌≡◌, ◌∙◌, true, refl, sym}
use Rattle.race_threads.proofs.alone.serve_agent.Goals as goal

pub serve_one-requires-clause-caller : goal.serve_one-requires-clause-caller
serve_one-requires-clause-caller g c =
    let is : c.is_caller.result ≡ true = search rules in
    sym c.is_caller.ensures ∙ is

pub returns-clause-of : goal.returns-clause-of
returns-clause-of g c =
    let is : c.is_caller.result ≡ true = search rules in
    (refl, record { agent = c.requires.agent; caller = sym c.is_caller.ensures ∙ is; own = c.in_ok-items.ensures.own; stand = c.in_ok-items.ensures.stand })

pub returns-clause-served : goal.returns-clause-served
returns-clause-served g c = λ few. c.in_ok-items.ensures.served few
