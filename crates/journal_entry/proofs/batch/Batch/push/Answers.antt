use Rattle.std.proofs.Common.{rules, arith, ◌≡◌, ◌∙◌, ◌∷◌, ◌++◌, [], subst, sym}
use Rattle.std.proofs.lemmas.Bool.Decides.{nat_tests}
use Rattle.journal_entry.specs.declared.form.Form.{Form}
use Rattle.journal_entry.specs.Payloads.{payload_spelling}
use Rattle.journal_entry.specs.Batches.{entries_of, IsBatch}
use Rattle.journal_entry.proofs.Batched.{HasOneMore, one_more, first_front, later_front, empty_is}
use Rattle.journal_entry.proofs.batch.Batch.push.Goals as goal
use Rattle.journal_entry.proofs.batch.Batch.push.Goals.{then-count-eq0+in_ok-push, else-count-eq0}

pub invariant_of-self-in_err-line : goal.invariant_of-self-in_err-line
invariant_of-self-in_err-line c = empty_is c.replace-payload.new.dest.items c.replace-count.new.dest (search rules) (search rules)

pub invariant_of-self-in_err-more : goal.invariant_of-self-in_err-more
invariant_of-self-in_err-more c = empty_is c.replace-payload.new.dest.items c.replace-count.new.dest (search rules) (search rules)

front : (c : goal.After-self-1) → c.if-count-eq0.payload.items ≡ payload_spelling Form.Two (entries_of c.self.inside.payload.items)
front c =
    let bytes = c.self.inside.payload.items in
    let count = c.self.inside.count in
    elim c.if-count-eq0.branch [
      | then-count-eq0+in_ok-push w ↦
          let is : c.if-count-eq0.payload.items ≡ bytes ++ 2 ∷ [] = search rules in
          is ∙ first_front bytes count c.self.invariant (grind (arith, nat_tests, w.if-count-eq0, c.replace-count.ensures.value))
      | else-count-eq0 w ↦
          let is : c.if-count-eq0.payload.items ≡ bytes = search rules in
          is ∙ later_front bytes count c.self.invariant (λ z. grind (arith, nat_tests, z, w.if-count-eq0, c.replace-count.ensures.value))
    ]

more : (c : goal.After-self-1) → HasOneMore c.self.inside.payload.items c.push_entry.new.out.items c.self.inside.count c.args.entry.now
more c = one_more c.self.inside.payload.items c.if-count-eq0.payload.items c.push_entry.new.out.items c.self.inside.count c.args.entry.now c.self.invariant (front c) c.in_ok-line.ensures.put c.in_ok-line.ensures.again

pub invariant_of-self-2 : goal.invariant_of-self-2
invariant_of-self-2 c = subst (λ n. IsBatch c.push_entry.new.out.items n) (search rules) (more c).batch

pub returns-clause-more : goal.returns-clause-more
returns-clause-more c = (more c).entries ∙ search rules
