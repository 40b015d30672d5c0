use Rattle.std.proofs.Common.{◌≡◌, ℕ, ◌++◌, ◌∷◌, [], List, get_or, suc, ◌+◌, take, sym, ◌∙◌, ap, subst, arith}
use Rattle.std.proofs.Math.Seq.{take-suc}
use Rattle.path_segments.specs.Steps.{at}
use Rattle.path_segments.specs.Searches.{Enters}
use Rattle.path_segments.proofs.Members.{in_item}
use Rattle.path_segments.proofs.Named.{some_item}
use Rattle.path_segments.proofs.Searches.{grows_join}
use Rattle.path_segments.proofs.child_search.note_others.Goals as goal

pub note-requires-clause-point : goal.note-requires-clause-point
note-requires-clause-point c = c.requires.within (get_or c.args.points.now c.loop-point.point-index 0) (in_item c.args.points.now c.loop-point.point-index (get_or c.args.points.now c.loop-point.point-index 0) (some_item c.args.points.now c.loop-point.point-index 0 c.loop-point-test.true))

pub loop-point-preserved : goal.loop-point-preserved
loop-point-preserved c =
    let x : ℕ = get_or c.args.points.now c.loop-point.point-index 0 in
    let n : suc c.loop-point.point-index ≡ c.loop-point.point-index + 1 = omega arith in
    let next : take c.loop-point.point-index c.args.points.now ++ (x ∷ []) ≡ take (c.loop-point.point-index + 1) c.args.points.now =
    sym (take-suc c.args.points.now c.loop-point.point-index 0 c.loop-point-test.true) ∙ ap (λ k. take k c.args.points.now) n in
    record {
      grows = grows_join c.loop-point.grew c.in_ok-grew.field-0 c.args.steps.now.items c.loop-point.steps.items c.note.new.steps.items c.loop-point.invariant.grows c.in_ok-grew.ensures.grows;
      enters = subst (λ (z : List ℕ). Enters c.args.topology.now c.args.step c.args.exit z (at c.args.steps.now.items) (at c.note.new.steps.items) c.args.exits.now.items c.note.new.exits.items) next
          (c.in_ok-grew.ensures.enters (take c.loop-point.point-index c.args.points.now) c.args.exits.now.items (at c.args.steps.now.items) c.loop-point.invariant.enters);
      few = omega (arith, c.in_ok-grew.ensures.few, c.loop-point.invariant.few);
    }
