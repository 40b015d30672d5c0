use Rattle.std.proofs.Common.{List, ℕ, ◌+◌, ◌*◌, ◌++◌, ◌∷◌, [], ap, ◌∙◌}
use Rattle.nsi_script.specs.Load.{at_line, reserve_line, text_of}
use Rattle.nsi_script.proofs.DraftLemmas.{on_ok}
use Rattle.nsi_script.proofs.LoadLemmas.{one_line}
use Rattle.nsi_script.proofs.load.push_pair.Goals as goal

pub returns : goal.returns
returns c =
    let text = c.args.text.now.items in
    let i = c.args.i in
    let first = c.deref.result.now in
    let reserve = c.deref-2.result.now in
    let second = c.deref-3.result.now in
    let commit = c.deref-4.result.now in
    on_ok c.push_line-4.result
    (λ is.
    is
    ∙ (one_line c.push_line-2.new.text.items c.push_line-3.new.text.items second (commit ∷ []) c.in_ok-push_line-3.ensures
    ∙ (one_line c.push_line.new.text.items c.push_line-2.new.text.items reserve (second ∷ commit ∷ []) c.in_ok-push_line-2.ensures
    ∙ (one_line text c.push_line.new.text.items first (reserve ∷ second ∷ commit ∷ []) c.in_ok-push_line.ensures
    ∙ (ap (λ (l : List ℕ). text ++ text_of (l ∷ reserve ∷ second ∷ commit ∷ [])) (c.deref.ensures ∙ c.in_ok-first.ensures)
    ∙ (ap (λ (l : List ℕ). text ++ text_of (at_line (2 * i) ∷ l ∷ second ∷ commit ∷ [])) (c.deref-2.ensures ∙ c.in_ok-reserve.ensures)
    ∙ (ap (λ (l : List ℕ). text ++ text_of (at_line (2 * i) ∷ reserve_line i c.args.request.now ∷ l ∷ commit ∷ [])) (c.deref-3.ensures ∙ c.in_ok-second.ensures)
    ∙ ap (λ (l : List ℕ). text ++ text_of (at_line (2 * i) ∷ reserve_line i c.args.request.now ∷ at_line (2 * i + 1) ∷ l ∷ [])) (c.deref-4.ensures ∙ c.in_ok-commit.ensures))))))))
    c.push_line-4.ensures
