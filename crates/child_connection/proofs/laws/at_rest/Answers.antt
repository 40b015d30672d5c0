use Rattle.child_connection.proofs.AtRest.{asked_rests, refused_rests, same_quiet, confirmed_rests, failed_rests, timed_out_rests, commit_rests, failed_commit_rests, abort_rests}
use Rattle.child_connection.proofs.laws.at_rest.Goals as goal

pub returns : goal.returns
returns c = record {
  asked = asked_rests;
  refused = refused_rests;
  same = same_quiet;
  confirmed = confirmed_rests;
  failed = failed_rests;
  timed_out = timed_out_rests;
  commit = commit_rests;
  failed_commit = failed_commit_rests;
  abort = abort_rests;
}
