use Rattle.std.proofs.Common.{inr, sym, ap, subst, take}
use Rattle.std.specs.List.{Contains}
use Rattle.followed_agent.proofs.Passing.{taken_at_one}
use Rattle.followed_agent.proofs.agent.Followed.has_taken.Goals as goal

pub returns : goal.returns
returns c =
    let x = c.args.self.now in
    taken_at_one x.journal.items _ x.synced c.args.identity.now c.deref.result.now x.got c.takes_at_one.result c.requires.kept.within (ap (take x.synced) c.deref-journal.ensures.value) c.requires.kept.got
    (λ p its. subst (λ ps. Contains ps p) (sym c.deref.ensures.value) ((c.in_ok-note_places.ensures p).1 (inr its))) c.takes_at_one.ensures
