use Rattle.journal_entry.proofs.Spellable.{all_spelled_again}
use Rattle.journal_entry.proofs.laws.payloads_are_read_again.Goals as goal

pub returns : goal.returns
returns c = λ form es h. all_spelled_again (record { asks = c.asks_are_read_again.ensures; messages = c.lines_are_read_again.ensures.in_each_form; acks = c.lines_are_read_again.ensures.acks }) form es h
