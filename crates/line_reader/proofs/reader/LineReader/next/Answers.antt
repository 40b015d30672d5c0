use Rattle.std.proofs.Common.{rules, ◌≡◌, ◌∙◌, ap, sym, arith, Ok, Err, Some, None, subst, List, ℕ, [], Option, IfSome}
use Rattle.nsi_base.specs.Lines.{feed_at}
use Rattle.line_reader.specs.Held.{Held, to_come, rest_of, Takes, Cuts}
use Rattle.line_reader.specs.Given.{IsSame}
use Rattle.line_reader.specs.Next.{TakesLast}
use Rattle.line_reader.specs.declared.reader.Next.{Next}
use Rattle.line_reader.specs.declared.reader.ReadError.{ReadError}
use Rattle.line_reader.proofs.Coming.{takes_line, takes_last, cuts_line, cuts_last, is_at_end, is_long, fewer, still_to_come, still_there}
use Rattle.line_reader.proofs.reader.LineReader.next.Goals as goal

-- what is left when the input has ended
last_taken : (start old new : Held) (first left now : Option (List ℕ)) (next : Next) → IsSame (to_come start first) (to_come old left) → feed_at old.bytes ≡ None → IfSome left (λ bytes. (bytes ≡ []) × (now ≡ Some []))
    → TakesLast old new next → Takes (to_come start first) (to_come new now) next
last_taken start old new first left now (Next.Line line) same e ended t = takes_last start old new first left now line.items same e ended t.0 t.1 t.2
last_taken start old new first left now Next.End same e ended t = is_at_end start old first left now same ended t
last_taken start old new first left now Next.Long same e ended t = absurd t

last_cut : (start old new : Held) (first left now : Option (List ℕ)) (next : Next) → IsSame (rest_of start first) (rest_of old left) → feed_at old.bytes ≡ None → IfSome left (λ bytes. (bytes ≡ []) × (now ≡ Some []))
    → TakesLast old new next → Cuts (rest_of start first) (rest_of new now) next
last_cut start old new first left now (Next.Line line) same e ended t = cuts_last start old new first left now line.items same e ended t.0 t.1 t.2
last_cut start old new first left now Next.End same e ended t = tt
last_cut start old new first left now Next.Long same e ended t = absurd t

pub returns-in-Some-clause-next : goal.returns-in-Some-clause-next
returns-in-Some-clause-next g c =
    let some = rw c.in-Some.is at c.in_ok-line.ensures.some in
    takes_line c.args.self.now c.reading.self c.take_line.new.self _ _ some.0 c.in-Some.line.items c.reading.invariant.same some.1 some.2 some.3

pub returns-in-Some-clause-cut : goal.returns-in-Some-clause-cut
returns-in-Some-clause-cut g c =
    let some = rw c.in-Some.is at c.in_ok-line.ensures.some in
    cuts_line c.args.self.now c.reading.self c.take_line.new.self (g.S.Source.left c.args.input.now) (g.S.Source.left c.reading.input) some.0 c.in-Some.line.items c.reading.invariant.bytes some.1 some.2 some.3

pub returns-in-Some-clause-shrinks : goal.returns-in-Some-clause-shrinks
returns-in-Some-clause-shrinks g c = λ _.
    let some = rw c.in-Some.is at c.in_ok-line.ensures.some in
    omega (arith, c.reading.invariant.kept, fewer c.reading.self c.take_line.new.self some.0 some.1 some.3)

pub returns-in-End-clause-next : goal.returns-in-End-clause-next
returns-in-End-clause-next g c =
    let none = c.in_ok-line.ensures.none (ap (λ o. Ok o) c.in_default.is) in
    let filled = rw c.in-End.is at c.in_ok-fill.ensures.filled in
    let same : c.reading.self ≡ c.fill.new.self = sym (filled.0 ∙ none.0) in
    let P : Held → Type 0 = λ h. IsSame (to_come c.args.self.now (g.S.Source.left c.args.input.now)) (to_come h (g.S.Source.left c.reading.input)) in
    let Q : Held → Type 0 = λ h. feed_at h.bytes ≡ None in
    last_taken c.args.self.now c.fill.new.self c.take_last.new.self (g.S.Source.left c.args.input.now) (g.S.Source.left c.reading.input) (g.S.Source.left c.fill.new.input) c.in_ok-last-in-End.last (subst P same c.reading.invariant.same) (subst Q same none.1) filled.1 c.in_ok-last-in-End.ensures.last

pub returns-in-End-clause-cut : goal.returns-in-End-clause-cut
returns-in-End-clause-cut g c =
    let none = c.in_ok-line.ensures.none (ap (λ o. Ok o) c.in_default.is) in
    let filled = rw c.in-End.is at c.in_ok-fill.ensures.filled in
    let same : c.reading.self ≡ c.fill.new.self = sym (filled.0 ∙ none.0) in
    let P : Held → Type 0 = λ h. IsSame (rest_of c.args.self.now (g.S.Source.left c.args.input.now)) (rest_of h (g.S.Source.left c.reading.input)) in
    let Q : Held → Type 0 = λ h. feed_at h.bytes ≡ None in
    last_cut c.args.self.now c.fill.new.self c.take_last.new.self (g.S.Source.left c.args.input.now) (g.S.Source.left c.reading.input) (g.S.Source.left c.fill.new.input) c.in_ok-last-in-End.last (subst P same c.reading.invariant.bytes) (subst Q same none.1) filled.1 c.in_ok-last-in-End.ensures.last

pub returns-in-Full-clause-next : goal.returns-in-Full-clause-next
returns-in-Full-clause-next g c =
    let none = c.in_ok-line.ensures.none (ap (λ o. Ok o) c.in_default.is) in
    let filled = rw c.in-Full.is at c.in_ok-fill.ensures.filled in
    let same : c.take_line.new.self ≡ c.reading.self = none.0 in
    let room : c.reading.self.room ≡ 0 = ap (λ (h : Held). h.room) (sym same) ∙ filled.1 in
    is_long c.args.self.now c.reading.self (g.S.Source.left c.args.input.now) (g.S.Source.left c.reading.input) c.reading.invariant.same none.1 room filled.2

pub returns-in_err-fill-clause-reads_on : goal.returns-in_err-fill-clause-reads_on
returns-in_err-fill-clause-reads_on g c = λ failed.
    let e : Err c.in_err-fill.field-0.0 ≡ Err ReadError.Failed = search rules in
    let none = c.in_ok-line.ensures.none (ap (λ o. Ok o) c.in_default.is) in
    still_to_come c.args.self.now c.reading.self c.fill.new.self (g.S.Source.left c.args.input.now) (g.S.Source.left c.reading.input) (g.S.Source.left c.fill.new.input) c.reading.invariant.same (c.in_err-fill.ensures.same e ∙ none.0) (c.in_err-fill.ensures.left e)

pub returns-in_err-fill-clause-keeps : goal.returns-in_err-fill-clause-keeps
returns-in_err-fill-clause-keeps g c = λ failed.
    let e : Err c.in_err-fill.field-0.0 ≡ Err ReadError.Failed = search rules in
    let none = c.in_ok-line.ensures.none (ap (λ o. Ok o) c.in_default.is) in
    still_there c.args.self.now c.reading.self c.fill.new.self (g.S.Source.left c.args.input.now) (g.S.Source.left c.reading.input) (g.S.Source.left c.fill.new.input) c.reading.invariant.bytes (c.in_err-fill.ensures.same e ∙ none.0) (c.in_err-fill.ensures.left e)

pub returns-in_err-fill-clause-waits : goal.returns-in_err-fill-clause-waits
returns-in_err-fill-clause-waits g c = λ failed.
    let e : Err c.in_err-fill.field-0.0 ≡ Err ReadError.Failed = search rules in
    let none = c.in_ok-line.ensures.none (ap (λ o. Ok o) c.in_default.is) in
    ap (λ (h : Held). feed_at h.bytes) (c.in_err-fill.ensures.same e ∙ none.0) ∙ none.1
