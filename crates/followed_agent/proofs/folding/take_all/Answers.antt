use Rattle.std.proofs.Common.{◌≡◌, ◌+◌, ◌∙◌, ◌++◌, drop}
use Rattle.std.proofs.lemmas.List.{drop_all}
use Rattle.nsi_agent.specs.Homes.{Home, home_in}
use Rattle.nsi_agent.specs.Steps.{after}
use Rattle.followed_agent.proofs.Taking.{item_left, moved, none_left, take_more}
use Rattle.followed_agent.proofs.folding.take_all.Goals as goal

pub loop-entry-preserved : goal.loop-entry-preserved
loop-entry-preserved c =
    let t = c.args.agent.now.network in
    let n = c.args.agent.now.number in
    let l = c.loop-entry in
    let e = c.entry-item.result in
    let es = c.args.entries.now in
    let new = c.take_one.new.agent in
    let out = c.take_one.new.out in
    record {
      network = c.in_ok-take_one.ensures.network ∙ l.invariant.network;
      number = c.in_ok-take_one.ensures.number ∙ l.invariant.number;
      told = λ routes are.
          let state = moved t l.agent.network n l.agent.number (λ (h : Home). new.state ≡ (after h l.agent.state e).state) l.invariant.network l.invariant.number c.in_ok-take_one.ensures.state in
          let said = moved t l.agent.network n l.agent.number (λ (h : Home). out.items ≡ l.out.items ++ (after h l.agent.state e).out) l.invariant.network l.invariant.number c.in_ok-take_one.ensures.out in
          take_more (home_in t routes n) l.agent.state new.state e l.out.items out.items (drop l.entry-index es) (drop (l.entry-index + 1) es) _ (state routes are) (said routes are)
          (item_left es l.entry-index e c.loop-entry-test.true c.entry-item.is) (l.invariant.told routes are);
      printable = c.in_ok-take_one.ensures.printable;
    }

pub returns-clause-told : goal.returns-clause-told
returns-clause-told c =
    let l = c.loop-entry in
    λ routes are.
    none_left (home_in c.args.agent.now.network routes c.args.agent.now.number) l.agent.state l.out.items _ _ (drop_all l.entry-index c.args.entries.now c.loop-entry-test.false) (l.invariant.told routes are)
