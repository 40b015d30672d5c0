use Rattle.child_connection.proofs.Saying.{about_names, first_names, modification_names, about_printable, first_printable, modification_printable}
use Rattle.child_connection.proofs.laws.messages.Goals as goal

pub returns : goal.returns
returns c = record {
  about = about_names;
  first = first_names;
  modification = modification_names;
  about_printable = about_printable;
  first_printable = first_printable;
  modification_printable = modification_printable;
}
