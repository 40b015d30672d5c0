use Rattle.std.proofs.Common.{rules, ◌≡◌, ◌∙◌, ◌∷◌, ◌++◌, [], true, List, All, sym, ap, subst}
use Rattle.std.proofs.lemmas.List.{append_assoc}
use Rattle.std.proofs.lemmas.List.Elements.{All-tail}
use Rattle.nsi_primitive.specs.Printable.{IsPrintable}
use Rattle.nsi_primitive.specs.declared.message.Message.{Message}
use Rattle.race_caller.specs.Alone.{HasHeardThese}
use Rattle.race_caller.proofs.Asking.{nothing_heard, heard_on}
use Rattle.race_caller.proofs.HearingAll.{none_heard, more_heard, room_left, all_heard_of, not_ended}
use Rattle.race_caller.proofs.asker.Asker.hear_all.Goals as goal

pub loop-message-init : goal.loop-message-init
loop-message-init c = record {
  heard = nothing_heard c.args.topology.now c.args.self.now _ c.requires.is;
  printable = search rules;
  front = [];
  parts = search rules;
  these = λ _. none_heard c.args.place c.args.self.now;
}

pub loop-message-preserved : goal.loop-message-preserved
loop-message-preserved c =
    let old = c.loop-message.invariant in
    let all = c.args.messages.items in
    let m = c.in-Some.message in
    let rest = c.next.new.self.rest.items in
    let split : c.loop-message.message-iterator.rest.items ≡ m ∷ rest = search rules in
    let parts : all ≡ old.front ++ m ∷ rest = old.parts ∙ ap (λ (l : List Message). old.front ++ l) split in
    record {
      heard = heard_on c.args.topology.now c.args.self.now c.loop-message.self c.hear.new.self c.in_ok-on.on _ old.heard c.in_ok-on.ensures.heard c.if-not-on.false;
      printable = All-tail IsPrintable m rest (subst (All IsPrintable) split old.printable);
      front = old.front ++ m ∷ [];
      parts = parts ∙ sym (append_assoc old.front (m ∷ []) rest);
      these = λ room. more_heard c.args.place old.front m c.args.self.now c.loop-message.self c.hear.new.self true (old.these room)
          (subst (HasHeardThese c.args.place (m ∷ []) c.loop-message.self c.hear.new.self) c.if-not-on.false (c.in_ok-on.ensures.these (room_left c.args.place all old.front m rest c.args.self.now c.loop-message.self parts room (old.these room))));
    }

pub returns-then-not-on-clause-these : goal.returns-then-not-on-clause-these
returns-then-not-on-clause-these c = λ room.
    let old = c.loop-message.invariant in
    let all = c.args.messages.items in
    let m = c.in-Some.message in
    let rest = c.next.new.self.rest.items in
    let split : c.loop-message.message-iterator.rest.items ≡ m ∷ rest = search rules in
    let parts : all ≡ old.front ++ m ∷ rest = old.parts ∙ ap (λ (l : List Message). old.front ++ l) split in
    absurd (not_ended c.args.place (m ∷ []) c.loop-message.self c.hear.new.self c.in_ok-on.on c.if-not-on.true (c.in_ok-on.ensures.these (room_left c.args.place all old.front m rest c.args.self.now c.loop-message.self parts room (old.these room))))

pub returns-clause-heard : goal.returns-clause-heard
returns-clause-heard c = c.loop-message.invariant.heard

pub returns-clause-these : goal.returns-clause-these
returns-clause-these c = λ room. all_heard_of c.args.place c.args.messages.items c.loop-message.invariant.front _ c.args.self.now c.loop-message.self c.loop-message.invariant.parts (search rules) (c.loop-message.invariant.these room)
