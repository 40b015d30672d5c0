use Rattle.std.proofs.Common.{◌∙◌, ap, sym, arith, take}
use Rattle.std.specs.List.{zip}
use Rattle.std.proofs.lemmas.List.{take_all}
use Rattle.std.proofs.lemmas.Slice.Zip.{length-zip}
use Rattle.nsi_query.specs.Summary.{summary}
use Rattle.nsi_query.proofs.Behind.{next_pair}
use Rattle.nsi_query.proofs.summaries.summary.Goals as goal

pub loop-place-preserved : goal.loop-place-preserved
loop-place-preserved c =
    let all = c.args.all.now in
    let planes = c.args.planes.now in
    let i = c.loop-place.place in
    c.in_ok-add_own.ensures (take i (zip all planes)) c.loop-place.invariant
    ∙ ap (summary c.args.requester.now) (sym (next_pair all planes i c.index-all-place.result c.index-planes-place.result c.requires c.loop-place-test.true c.index-all-place.is c.index-planes-place.is))

pub returns : goal.returns
returns c =
    let pairs = zip c.args.all.now c.args.planes.now in
    c.loop-place.invariant
    ∙ ap (summary c.args.requester.now) (take_all c.loop-place.place pairs (omega (arith, length-zip c.args.all.now c.args.planes.now, c.loop-place-test.false)))
