use Rattle.std.proofs.Common.{rules, ◌≡◌, ◌∙◌, ◌+◌, ℕ, true, refl, sym, ap, subst}
use Rattle.durable_mark.specs.Rising.{Known}
use Rattle.race_threads.specs.Raced.{call_of}
use Rattle.race_threads.specs.Callers.{AreCallers}
use Rattle.race_threads.proofs.Sitting.{pushed}
use Rattle.race_threads.proofs.callers.push_caller.Goals as goal

pub returns-clause-after : goal.returns-clause-after
returns-clause-after g c =
    let t = c.args.topology.now in
    let race = c.args.race.now in
    let is : c.is_caller.result ≡ true = search rules in
    subst (AreCallers t race.provider race.start c.args.shared.now (c.args.agent + 1)) (sym c.in_ok-push.ensures.items)
    (pushed t race.provider race.start c.args.shared.now c.args.agent c.args.callers.now.items _ c.requires.before
    (record {
      mark_is = ap (λ (k : Known). k.mark) c.split-pass.ensures.given ∙ c.requires.mark;
      call = ap (λ (n : ℕ). call_of race.provider c.args.agent n) c.second_of-second.ensures;
      agent = c.requires.agent;
      caller = sym c.is_caller.ensures ∙ is;
    }) refl)
