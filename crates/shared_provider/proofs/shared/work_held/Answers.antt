use Rattle.shared_provider.proofs.Asking.{match_of}
use Rattle.shared_provider.proofs.shared.work_held.Goals as goal

pub returns-clause-held : goal.returns-clause-held
returns-clause-held g c = record {
  old = c.args.book.now;
  new = c.work-result.new.self;
  before = c.facts.ensures;
  after = c.facts-2.ensures;
  answers = match_of _ _ c.work-result.result c.work-result.ensures.ok c.work-result.ensures.err;
}
