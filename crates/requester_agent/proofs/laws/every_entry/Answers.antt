use Rattle.std.proofs.Common.{arith}
use Rattle.std.proofs.lemmas.List.Elements.{All-nil}
use Rattle.requester_agent.specs.Good.{IsApart}
use Rattle.requester_agent.proofs.Mild.{AreLaws}
use Rattle.requester_agent.proofs.Entries.{entry_good, entry_printable}
use Rattle.requester_agent.proofs.laws.every_entry.Goals as goal

pub returns : goal.returns
returns c =
    let laws : AreLaws = record { asks = c.places.ensures.asks; messages = c.places.ensures.messages; about = c.messages.ensures.about_printable; first = c.messages.ensures.first_printable; modification = c.messages.ensures.modification_printable } in
    record {
      blank = record { most = omega arith; drawn = omega arith; apart = All-nil IsApart };
      good = entry_good laws;
      printable = entry_printable laws;
    }
