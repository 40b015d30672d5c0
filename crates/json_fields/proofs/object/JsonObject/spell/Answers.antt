use Rattle.std.proofs.Common.{◌∙◌, ◌++◌, ap, false}
use Rattle.json_fields.specs.Members.{front_text, members_from}
use Rattle.json_fields.proofs.Placed.{object_spelled}
use Rattle.json_fields.proofs.Written.{object_again}
use Rattle.json_fields.proofs.object.JsonObject.spell.Goals as goal

pub returns-clause-put : goal.returns-clause-put
returns-clause-put c =
    object_spelled c.args.self.now.members.items c.args.text.now.items c.push.new.self.items c.spell_members.new.text.items c.push-2.new.self.items
    c.in_ok-push.ensures.items (c.in_ok-spell_members.ensures.put ∙ ap (λ ms. c.push.new.self.items ++ front_text false ms) c.deref.ensures.value) c.in_ok-push-2.ensures.items

pub returns-clause-again : goal.returns-clause-again
returns-clause-again c = object_again (members_from c.args.self.now.members.items) c.args.self.now.plain
