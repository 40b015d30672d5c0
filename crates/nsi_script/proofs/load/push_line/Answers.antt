use Rattle.std.proofs.Common.{◌++◌, ◌∷◌, [], ap, ◌∙◌}
use Rattle.std.proofs.lemmas.List.{append_assoc}
use Rattle.nsi_script.specs.Load.{text_of}
use Rattle.nsi_script.proofs.load.push_line.Goals as goal

pub returns : goal.returns
unfolding text_of
returns c =
    let text = c.args.text.now.items in
    c.in_ok-push.ensures.items
    ∙ (ap (λ t. t ++ 10 ∷ []) c.in_ok-extend_from_slice.ensures.items
    ∙ (append_assoc text c.as_bytes.result.now (10 ∷ [])
    ∙ ap (λ line. text ++ (line ++ 10 ∷ [])) c.as_bytes.ensures.value))
