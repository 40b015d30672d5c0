use Rattle.heard_changes.proofs.Apart.{views_are_apart, changes_are_heard}
use Rattle.heard_changes.proofs.laws.heard.Goals as goal

pub returns-clause-apart : goal.returns-clause-apart
returns-clause-apart c = views_are_apart c.views.ensures.backed c.known.ensures.children

pub returns-clause-heard : goal.returns-clause-heard
returns-clause-heard c = changes_are_heard c.views.ensures.backed c.known.ensures.children c.changes_are_passed_on.ensures.once
