use Rattle.std.proofs.lemmas.List.Elements.{All-nil}
use Rattle.aggregator_agent.specs.Good.{IsWritable}
use Rattle.aggregator_agent.proofs.Mild.{AreLaws}
use Rattle.aggregator_agent.proofs.Entries.{entered}
use Rattle.aggregator_agent.proofs.laws.every_entry.Goals as goal

pub returns : goal.returns
returns c =
    let laws : AreLaws = record { about = c.messages.ensures.about_printable; first = c.messages.ensures.first_printable; modification = c.messages.ensures.modification_printable } in
    record {
      blank = All-nil IsWritable;
      good = λ setting s e p g. (entered laws setting s e p g).good;
      printable = λ setting s e p g. (entered laws setting s e p g).said.prints;
      ids = λ setting s e p g. (entered laws setting s e p g).said.drawn;
      answer = λ setting s e p g. (entered laws setting s e p g).answer;
    }
