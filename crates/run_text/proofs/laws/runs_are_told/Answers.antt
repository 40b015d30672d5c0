use Rattle.run_text.proofs.Runs.{told_apart}
use Rattle.run_text.proofs.laws.runs_are_told.Goals as goal

pub returns : goal.returns
returns c = told_apart (record { asks = c.asks_are_read_again.ensures; messages = c.lines_are_read_again.ensures.messages; acks = c.lines_are_read_again.ensures.acks })
