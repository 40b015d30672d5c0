use Rattle.run_command.proofs.command.nothing_throughout.Goals as goal

pub returns : goal.returns
returns c = λ t routes. record { safe = c.nothing_safe.ensures t routes; stands = c.nothing.ensures t routes }
