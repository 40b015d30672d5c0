use Rattle.std.proofs.Common.{ℕ, ◌≡◌, List, ◌∷◌, subst, arith}
use Rattle.nsi_primitive.specs.declared.entry.Event.{Event}
use Rattle.stp_topology.specs.declared.network.Network.{Network}
use Rattle.nsi_agent.specs.Homes.{home_in}
use Rattle.nsi_world.specs.Worlds.{Homes}
use Rattle.trace_verify.specs.Lines.{trace_lines}
use Rattle.trace_verify.specs.Steps.{HasFew, IsSoFar, IsStep}
use Rattle.trace_verify.specs.Traces.{most_asks}
use Rattle.trace_verify.specs.declared.follower.Follower.{Follower}
use Rattle.trace_verify.specs.declared.step.Step.{Step}
use Rattle.trace_verify.proofs.Cutting.{some_lines}
use Rattle.trace_verify.proofs.Extending.{so_far_more}
use Rattle.trace_verify.proofs.Finding.{closing_next, none_next, none_so_far, not_next, too_long}
use Rattle.trace_verify.proofs.checking.verify_by.Goals as goal

-- a line is cut off
cut_far : (t : Network) (homes : Homes) (lines now tail : List (List ℕ)) (line : List ℕ) (x : Follower) (asks events : ℕ) → now ≡ line ∷ tail → IsSoFar t homes lines now x asks events → IsSoFar t homes lines (line ∷ tail) x asks events
cut_far t homes lines now tail line x asks events e far = subst (λ z. IsSoFar t homes lines z x asks events) e far

step_as : (t : Network) (homes : Homes) (es : List Event) (line : List ℕ) (y : Follower) (step is : Step) → step ≡ is → IsStep t homes es line y step → IsStep t homes es line y is
step_as t homes es line y step is e s = subst (IsStep t homes es line y) e s

pub lines-init : goal.lines-init
lines-init c = record {
  place = omega arith;
  within = omega arith;
  size = omega arith;
  follower = c.requires.follower;
  few = omega arith;
  far = λ routes are. none_so_far c.args.topology.now (home_in c.args.topology.now routes) (trace_lines c.args.text.now) c.args.follower.now c.requires.shows;
}

pub lines-preserved : goal.lines-preserved
lines-preserved c = record {
  place = omega (arith, c.lines.invariant.place);
  within = omega (arith, c.lines.invariant.within, c.if-events-limit.false);
  size = omega (arith, c.lines.invariant.size, c.cut_at_feed.ensures.shorter);
  follower = c.in_ok-follow.ensures.follower;
  few = subst (HasFew most_asks) c.in-Event.is c.in_ok-follow.ensures.few;
  far = λ routes are.
      let t = c.args.topology.now in
      let homes = home_in t routes in
      let line = c.cut_at_feed.result.0.now in
      let tail = trace_lines c.cut_at_feed.result.1.now in
      let lines = trace_lines c.args.text.now in
      let far = cut_far t homes lines (trace_lines c.lines.rest.now) tail line c.lines.follower c.lines.asks c.lines.events c.cut_at_feed.ensures.lines (c.lines.invariant.far routes are) in
      so_far_more t routes lines tail line c.lines.follower c.follow.new.follower c.lines.asks c.lines.events c.in-Event.asks far
      (step_as t homes far.run line c.follow.new.follower c.in_ok-follow.field-0 (Step.Event c.in-Event.asks) c.in-Event.is (c.in_ok-follow.ensures.step routes are far.run far.shows (c.sent.ensures.heard homes far.run far.splits.trace.trace.run.allowed) far.asked));
}

pub returns-in-Event : goal.returns-in-Event
returns-in-Event c = record {
  finds = λ routes are.
      let t = c.args.topology.now in
      let homes = home_in t routes in
      let line = c.cut_at_feed.result.0.now in
      let tail = trace_lines c.cut_at_feed.result.1.now in
      let lines = trace_lines c.args.text.now in
      let far = cut_far t homes lines (trace_lines c.lines.rest.now) tail line c.lines.follower c.lines.asks c.lines.events c.cut_at_feed.ensures.lines (c.lines.invariant.far routes are) in
      too_long t homes lines tail line c.lines.follower c.follow.new.follower c.lines.asks c.lines.events c.in-Event.asks c.args.limit far
      (step_as t homes far.run line c.follow.new.follower c.in_ok-follow.field-0 (Step.Event c.in-Event.asks) c.in-Event.is (c.in_ok-follow.ensures.step routes are far.run far.shows (c.sent.ensures.heard homes far.run far.splits.trace.trace.run.allowed) far.asked)) c.if-events-limit.true;
}

pub returns-in-Closing : goal.returns-in-Closing
returns-in-Closing c = record {
  finds = λ routes are.
      let t = c.args.topology.now in
      let homes = home_in t routes in
      let line = c.cut_at_feed.result.0.now in
      let tail = trace_lines c.cut_at_feed.result.1.now in
      let lines = trace_lines c.args.text.now in
      let far = cut_far t homes lines (trace_lines c.lines.rest.now) tail line c.lines.follower c.lines.asks c.lines.events c.cut_at_feed.ensures.lines (c.lines.invariant.far routes are) in
      closing_next t homes c.args.first_line c.lines.line lines tail line c.lines.follower c.lines.asks c.lines.events c.in_ok-verdict-in-Closing.verdict far
      (step_as t homes far.run line c.follow.new.follower c.in_ok-follow.field-0 Step.Closing c.in-Closing.is (c.in_ok-follow.ensures.step routes are far.run far.shows (c.sent.ensures.heard homes far.run far.splits.trace.trace.run.allowed) far.asked)) c.lines.invariant.place
      c.in_ok-verdict-in-Closing.ensures;
}

pub returns-in-Not : goal.returns-in-Not
returns-in-Not c = record {
  finds = λ routes are.
      let t = c.args.topology.now in
      let homes = home_in t routes in
      let line = c.cut_at_feed.result.0.now in
      let tail = trace_lines c.cut_at_feed.result.1.now in
      let lines = trace_lines c.args.text.now in
      let far = cut_far t homes lines (trace_lines c.lines.rest.now) tail line c.lines.follower c.lines.asks c.lines.events c.cut_at_feed.ensures.lines (c.lines.invariant.far routes are) in
      not_next t homes c.args.first_line c.lines.line lines tail line c.lines.follower c.follow.new.follower c.lines.asks c.lines.events c.in-Not.why far
      (step_as t homes far.run line c.follow.new.follower c.in_ok-follow.field-0 (Step.Not c.in-Not.why) c.in-Not.is (c.in_ok-follow.ensures.step routes are far.run far.shows (c.sent.ensures.heard homes far.run far.splits.trace.trace.run.allowed) far.asked)) c.lines.invariant.place;
}

pub returns : goal.returns
returns c = record {
  finds = λ routes are.
      let t = c.args.topology.now in
      none_next t (home_in t routes) c.args.first_line c.lines.line (trace_lines c.args.text.now) (trace_lines c.lines.rest.now) c.lines.follower c.lines.asks c.lines.events (c.lines.invariant.far routes are)
      (some_lines c.lines.rest.now (omega (arith, c.lines-test.false))) c.lines.invariant.place;
}
