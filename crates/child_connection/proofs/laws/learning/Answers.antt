use Rattle.child_connection.proofs.Places.{asks_known}
use Rattle.child_connection.proofs.Learning.{messages_teach, first_answer_teaches, messages_commit}
use Rattle.child_connection.proofs.laws.learning.Goals as goal

pub returns : goal.returns
returns c = record {
  asks = asks_known;
  teach = messages_teach;
  first = first_answer_teaches;
  commit = messages_commit;
}
