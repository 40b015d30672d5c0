use Rattle.std.proofs.Common.{◌≡◌, ◌<◌, ◌≤◌, ◌+◌, ◌-◌, ◌∙◌, ap, arith, drop, ◌++◌, length}
use Rattle.std.proofs.lemmas.List.{drop-append-le}
use Rattle.line_reader.specs.Held.{Held}
use Rattle.line_reader.proofs.Coming.{fills}
use Rattle.line_reader.proofs.reader.LineReader.fill.Goals as goal

pub returns-clause-filled : goal.returns-clause-filled
returns-clause-filled g c =
    let old : c.compact.new.self ≡ c.args.self.now = c.in_ok-compact.ensures.same in
    let is : record { bytes = drop c.self-2.inside.start c.self-2.inside.kept.items; room = c.self-2.inside.room } ≡ c.args.self.now = c.self-2.view_is ∙ old in
    let here : c.self-2.inside.start ≤ length c.self-2.inside.kept.items = omega arith in
    let items : c.extend_from_slice.new.self.items ≡ c.self-2.inside.kept.items ++ c.in_ok-piece.piece.items = c.in-Ok.ensures.items ∙ ap (λ xs. c.self-2.inside.kept.items ++ xs) c.deref.ensures.value in
    let bytes : drop c.self-2.inside.start c.extend_from_slice.new.self.items ≡ c.args.self.now.bytes ++ c.in_ok-piece.piece.items =
    ap (drop c.self-2.inside.start) items ∙ (drop-append-le c.self-2.inside.start c.self-2.inside.kept.items c.in_ok-piece.piece.items here ∙ ap (λ (h : Held). h.bytes ++ c.in_ok-piece.piece.items) is) in
    let kept : c.self-2.inside.room ≡ c.args.self.now.room = ap (λ (h : Held). h.room) is in
    let room : c.self-2.inside.room - c.len-count.result + length c.in_ok-piece.piece.items ≡ c.args.self.now.room = omega (arith, c.in_ok-piece.ensures.few, c.len-count.ensures) in
    let some : 0 < length c.in_ok-piece.piece.items = omega (arith, c.len-count.ensures, c.if-count-eq0.false) in
    fills c.args.self.now (record { bytes = drop c.self-2.inside.start c.extend_from_slice.new.self.items; room = c.self-2.inside.room - c.len-count.result }) (g.S.Source.left c.args.input.now) (g.S.Source.left c.read_piece.new.input) c.in_ok-piece.piece.items bytes room some c.in_ok-piece.ensures.piece
