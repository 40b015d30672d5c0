use Rattle.std.proofs.Common.{◌≡◌, ◌+◌, ◌-◌, ◌++◌, arith, sym, ap, ◌∙◌}
use Rattle.nsi_script.specs.declared.load.DrawnRequest.{DrawnRequest}
use Rattle.nsi_script.specs.Load.{drawn_request, pair_lines, pairs_from, head_lines, text_of}
use Rattle.nsi_script.proofs.LoadLemmas.{all_pairs, head_first, one_pair}
use Rattle.nsi_script.proofs.load.make_load.Goals as goal

pub loop-i-init : goal.loop-i-init
unfolding text_of
loop-i-init c =
    let head : c.as_bytes.result.now ≡ text_of head_lines = c.as_bytes.ensures.value in
    ap (λ t. t ++ text_of (pairs_from c.args.number 0 (c.args.size - 0))) (c.in_ok-text.ensures.items ∙ head) ∙ head_first c.args.number c.args.size

pub loop-i-preserved : goal.loop-i-preserved
loop-i-preserved c =
    let i = c.loop-i.i in
    let x = c.loop-i.state in
    let text = c.loop-i.text.items in
    let left = c.args.size - (i + 1) in
    ap (λ t. t ++ text_of (pairs_from c.draw_request-request.new.state (i + 1) left)) c.in_ok-push_pair.ensures
    ∙ (ap (λ (r : DrawnRequest). (text ++ text_of (pair_lines i r)) ++ text_of (pairs_from c.draw_request-request.new.state (i + 1) left)) c.draw_request-request.ensures.request
    ∙ (ap (λ s. (text ++ text_of (pair_lines i (drawn_request x))) ++ text_of (pairs_from s (i + 1) left)) c.draw_request-request.ensures.state
    ∙ (one_pair x i c.args.size text (omega arith) ∙ c.loop-i.invariant)))

pub returns : goal.returns
returns c = sym (all_pairs c.loop-i.state c.loop-i.i c.args.size c.loop-i.text.items (omega arith)) ∙ c.loop-i.invariant
