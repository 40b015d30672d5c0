use Rattle.std.proofs.Common.{◌||◌, ◌&&◌, ◌==◌, List, ℕ, arith, ap, ◌∙◌, bytes_eq}
use Rattle.nsi_script.specs.Labels.{is_noted}
use Rattle.nsi_script.proofs.DraftLemmas.{on_ok}
use Rattle.nsi_script.proofs.LabelLemmas.{noted_more}
use Rattle.nsi_script.proofs.labels.Labels.note.Goals as goal

pub returns : goal.returns
returns c =
    let room = c.make_room.new.tables.items in
    let old = c.self.inside.by_requester.items in
    on_ok c.put.result
    (λ is a l.
    ap (λ (tables : List (List (List ℕ))). is_noted tables a l) is
    ∙ (noted_more old room c.args.agent c.args.label.now (omega (arith, c.in_ok-make_room.ensures.room)) c.in_ok-make_room.ensures.same a l
    ∙ ap (λ (tables : List (List (List ℕ))). ((a == c.args.agent) && bytes_eq l c.args.label.now) || is_noted tables a l) c.self.view_is))
    c.put.ensures
