use Rattle.nsi_query.proofs.Answering.{answers_are_printable, answers_have_rows, providers_answer, providers_are_printable, providers_tell_rows, queries_are_answered, summaries_are_printable}
use Rattle.nsi_query.proofs.laws.answers.Goals as goal

pub returns : goal.returns
returns c = record {
  queried = queries_are_answered;
  rows = answers_have_rows;
  printable = answers_are_printable;
  summaries = summaries_are_printable;
  providers_answer = providers_answer;
  providers = providers_tell_rows;
  providers_printable = providers_are_printable;
}
