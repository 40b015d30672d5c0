use Rattle.std.proofs.Common.{rules, ◌≡◌, ◌∷◌, ◌++◌, [], ◌∙◌, ap, sym, subst, true, false, List, filter}
use Rattle.std.specs.List.{All}
use Rattle.std.proofs.lemmas.List.Elements.{All-head, All-tail, All-append, All-cons, All-nil}
use Rattle.nsi_primitive.specs.Printable.{IsPrintable}
use Rattle.nsi_primitive.specs.declared.message.Message.{Message}
use Rattle.agent_node.specs.Acts.{is_overdue}
use Rattle.agent_node.proofs.Filtering.{kept_in, left_out}
use Rattle.agent_node.proofs.seated.Core.overdue.Goals as goal

pub loop-message-preserved-in_ok-push : goal.loop-message-preserved-in_ok-push
loop-message-preserved-in_ok-push c =
    let l = c.loop-message in
    let m = c.in-Some.message.now in
    let rest = c.next.new.self in
    let s = c.args.self.now.seat in
    let e : l.message-iterator ≡ m ∷ rest = search rules in
    let b : is_overdue s.unsaid s.doors m ≡ true = search rules in
    let new : c.push.new.self.items ≡ l.again.items ++ m ∷ [] = search rules in
    let left = subst (λ (ms : List Message). All IsPrintable ms) e l.invariant.left in
    record {
      found = ap (λ (ms : List Message). ms ++ filter (is_overdue s.unsaid s.doors) rest) new
          ∙ (kept_in (is_overdue s.unsaid s.doors) l.again.items rest m b
          ∙ (sym (ap (λ (ms : List Message). l.again.items ++ filter (is_overdue s.unsaid s.doors) ms) e) ∙ l.invariant.found));
      printable =
          subst (λ (ms : List Message). All IsPrintable ms) (sym new)
          (All-append IsPrintable l.again.items (m ∷ []) l.invariant.printable (All-cons IsPrintable m [] (All-head IsPrintable m rest left) (All-nil IsPrintable)));
      left = All-tail IsPrintable m rest left;
    }

pub loop-message-preserved : goal.loop-message-preserved
loop-message-preserved c =
    let l = c.loop-message in
    let m = c.in-Some.message.now in
    let rest = c.next.new.self in
    let s = c.args.self.now.seat in
    let e : l.message-iterator ≡ m ∷ rest = search rules in
    let b : is_overdue s.unsaid s.doors m ≡ false = search rules in
    record {
      found = left_out (is_overdue s.unsaid s.doors) l.again.items rest m b
          ∙ (sym (ap (λ (ms : List Message). l.again.items ++ filter (is_overdue s.unsaid s.doors) ms) e) ∙ l.invariant.found);
      printable = l.invariant.printable;
      left = All-tail IsPrintable m rest (subst (λ (ms : List Message). All IsPrintable ms) e l.invariant.left);
    }
