use Rattle.std.proofs.Common.{◌≡◌, ◌+◌, ◌∙◌, drop}
use Rattle.std.proofs.lemmas.List.{drop_all}
use Rattle.nsi_agent.specs.Homes.{Home, home_in}
use Rattle.nsi_agent.specs.Steps.{after}
use Rattle.agent_node.proofs.Retaking.{drop_is, read_more, none_left, moved}
use Rattle.agent_node.proofs.reading.read_each.Goals as goal

pub loop-entry-preserved : goal.loop-entry-preserved
loop-entry-preserved c =
    let t = c.args.agent.now.network in
    let n = c.args.agent.now.number in
    let l = c.loop-entry in
    let e = c.entry-item.result in
    let es = c.args.entries.now in
    let new = c.read_one.new.agent in
    record {
      network = c.in_ok-read_one.ensures.network ∙ l.invariant.network;
      number = c.in_ok-read_one.ensures.number ∙ l.invariant.number;
      state = λ routes are.
          let step = moved t l.agent.network n l.agent.number (λ (h : Home). new.state ≡ (after h l.agent.state e).state) l.invariant.network l.invariant.number c.in_ok-read_one.ensures.state in
          read_more (home_in t routes n) l.agent.state new.state e (drop l.entry-index es) (drop (l.entry-index + 1) es) _ (step routes are)
          (drop_is es l.entry-index e c.loop-entry-test.true c.entry-item.is) (l.invariant.state routes are);
    }

pub returns-clause-state : goal.returns-clause-state
returns-clause-state c =
    let l = c.loop-entry in
    λ routes are.
    none_left (home_in c.args.agent.now.network routes c.args.agent.now.number) l.agent.state _ _ (drop_all l.entry-index c.args.entries.now c.loop-entry-test.false) (l.invariant.state routes are)
