use Rattle.std.proofs.Common.{◌≡◌, ◌∙◌, ap, sym, arith, drop, take, suc, ◌+◌, ◌-◌, Some, None}
use Rattle.nsi_base.specs.Lines.{feed_at, without_return}
use Rattle.line_reader.specs.Held.{Held}
use Rattle.line_reader.proofs.Coming.{none_between, held-none, held-some, whole_clear, behind_feed}
use Rattle.line_reader.proofs.reader.LineReader.take_line.Goals as goal

pub invariant_of-self : goal.invariant_of-self
invariant_of-self c =
    let fresh : feed_at (drop c.self.inside.scanned c.self.inside.kept.items) ≡ None = ap feed_at (sym (c.split_at.ensures.back ∙ ap (drop c.self.inside.scanned) c.deref.ensures.value)) ∙ (sym c.feed_at.ensures.value ∙ c.in_default.is) in
    record {
      started = omega arith;
      within = omega arith;
      clear = whole_clear c.self.inside.kept.items c.self.inside.start c.self.inside.scanned _ c.self.invariant.started (omega arith) c.self.invariant.clear fresh;
    }

pub returns-in_default-clause-none : goal.returns-in_default-clause-none
returns-in_default-clause-none c = λ _.
    let fresh : feed_at (drop c.self.inside.scanned c.self.inside.kept.items) ≡ None = ap feed_at (sym (c.split_at.ensures.back ∙ ap (drop c.self.inside.scanned) c.deref.ensures.value)) ∙ (sym c.feed_at.ensures.value ∙ c.in_default.is) in
    (c.self.view_is, ap (λ (h : Held). feed_at h.bytes) (sym c.self.view_is) ∙ held-none c.self.inside.kept.items c.self.inside.start c.self.inside.scanned c.self.invariant.started c.self.invariant.clear fresh)

pub invariant_of-self-2 : goal.invariant_of-self-2
invariant_of-self-2 c = record { started = omega arith; within = omega (arith, c.in-Some.ensures.within, c.split_at.ensures.back_len, c.deref.ensures.len); clear = none_between c.self.inside.kept.items (c.self.inside.scanned + c.in-Some.behind + 1) }

pub returns-clause-some : goal.returns-clause-some
returns-clause-some c =
    let xs = c.self.inside.kept.items in
    let start = c.self.inside.start in
    let scanned = c.self.inside.scanned in
    let fresh : feed_at (drop scanned xs) ≡ Some c.in-Some.behind = ap feed_at (sym (c.split_at.ensures.back ∙ ap (drop scanned) c.deref.ensures.value)) ∙ (sym c.feed_at.ensures.value ∙ c.in-Some.is) in
    let found : feed_at (drop start xs) ≡ Some (scanned + c.in-Some.behind - start) = held-some xs start scanned c.in-Some.behind c.self.invariant.started (omega arith) c.self.invariant.clear fresh in
    let line : c.in-Ok.line.items ≡ without_return (take (scanned + c.in-Some.behind - start) (drop start xs)) = c.in-Ok.ensures.items ∙ (c.without_return.ensures ∙ ap (λ ys. without_return (take (scanned + c.in-Some.behind - start) (drop start ys))) c.deref-2.ensures.value) in
    let behind : drop (scanned + c.in-Some.behind + 1) xs ≡ drop (suc (scanned + c.in-Some.behind - start)) (drop start xs) = behind_feed xs start (scanned + c.in-Some.behind) (omega arith) in (
      scanned + c.in-Some.behind - start,
      ap (λ (h : Held). feed_at h.bytes) (sym c.self.view_is) ∙ found,
      line ∙ ap (λ (h : Held). without_return (take (scanned + c.in-Some.behind - start) h.bytes)) c.self.view_is,
      ap (λ bytes. record { bytes = bytes; room = c.self.inside.room }) behind ∙ ap (λ (h : Held). record { bytes = drop (suc (scanned + c.in-Some.behind - start)) h.bytes; room = h.room }) c.self.view_is,
    )
