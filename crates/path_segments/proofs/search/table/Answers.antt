use Rattle.std.proofs.Common.{◌≡◌, length, Option, None, replicate, ap, ◌∙◌, arith}
use Rattle.std.proofs.Math.ListN.{length-replicate}
use Rattle.path_segments.specs.declared.search.Step.{Step}
use Rattle.stp_topology.specs.Network.{partner_of}
use Rattle.path_segments.specs.Steps.{at, Way}
use Rattle.path_segments.specs.Searches.{IsNoted}
use Rattle.path_segments.proofs.ChildSearches.{searches_more}
use Rattle.path_segments.proofs.Marks.{table_start, open_start}
use Rattle.path_segments.proofs.search.table.Goals as goal

pub loop-steps-init : goal.loop-steps-init
loop-steps-init c =
    let none : c.in_ok-steps.steps.items ≡ replicate c.points.result None = c.in_ok-steps.ensures in
    record {
      same_length = ap length none ∙ length-replicate {A = Option Step} c.points.result None ∙ c.points.ensures.count;
      holds = table_start (partner_of c.args.topology.now) (Way c.args.topology.now c.args.depth c.args.children.now) c.args.dest c.points.result c.in_ok-steps.steps.items none;
      short = omega (arith, open_start c.points.result c.in_ok-steps.steps.items none, c.points.ensures.count);
      searches = searches_more c.args.topology.now c.args.depth c.args.children.now (λ p. ⊥) (IsNoted (at c.in_ok-steps.steps.items)) c.in_ok-searches.searches.items (λ p h. absurd h) c.in_ok-searches.ensures;
    }
