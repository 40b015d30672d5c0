use Rattle.std.proofs.Common.{rules, ◌≡◌, ◌∷◌, ◌++◌, [], ◌∙◌, append_assoc, ap, sym, subst, List}
use Rattle.std.specs.List.{All}
use Rattle.std.proofs.lemmas.List.Elements.{All-head, All-tail, All-append, All-cons, All-nil}
use Rattle.nsi_primitive.specs.Printable.{IsPrintable}
use Rattle.nsi_primitive.specs.declared.message.Message.{Message}
use Rattle.agent_node.proofs.reading.copy_waiting.Goals as goal

pub loop-message-preserved : goal.loop-message-preserved
loop-message-preserved c =
    let l = c.loop-message in
    let m = c.in-Some.message.now in
    let rest = c.next.new.self in
    let e : l.message-iterator ≡ m ∷ rest = search rules in
    let new : c.push.new.self.items ≡ l.copies.items ++ m ∷ [] = search rules in
    let left = subst (λ (ms : List Message). All IsPrintable ms) e l.invariant.left in
    record {
      all = ap (λ (ms : List Message). ms ++ rest) new
          ∙ (append_assoc l.copies.items (m ∷ []) rest ∙ (sym (ap (λ (ms : List Message). l.copies.items ++ ms) e) ∙ l.invariant.all));
      printable =
          subst (λ (ms : List Message). All IsPrintable ms) (sym new)
          (All-append IsPrintable l.copies.items (m ∷ []) l.invariant.printable (All-cons IsPrintable m [] (All-head IsPrintable m rest left) (All-nil IsPrintable)));
      left = All-tail IsPrintable m rest left;
    }
