use Rattle.std.proofs.Common.{◌∙◌, ◌++◌, ◌∷◌, [], not, take, drop, ap, ap₂, arith}
use Rattle.serde_json.specs.Data.{array}
use Rattle.serde_json.specs.View.{items_of}
use Rattle.json_fields.specs.Members.{place_in, members_from}
use Rattle.json_fields.specs.Written.{rows_of}
use Rattle.json_fields.proofs.Placed.{place_within, object_with, later_is}
use Rattle.json_fields.proofs.Written.{with_again}
use Rattle.json_fields.proofs.object.JsonObject.spell_with.Goals as goal

pub split_at-requires : goal.split_at-requires
split_at-requires c =
    let low = place_within c.args.key c.deref.result.now in
    omega (arith, low, c.place_in-place.ensures, c.deref.ensures.len, c.deref-2.ensures.len)

pub returns-clause-put : goal.returns-clause-put
returns-clause-put c =
    let place = c.place_in-place.ensures ∙ ap (place_in c.args.key) c.deref.ensures.value in
    object_with c.args.key (array (items_of (rows_of c.args.rows.now))) (not c.is_empty.result) c.args.self.now.members.items _ _ c.behind.result.now
    c.args.text.now.items c.push.new.self.items c.spell_members.new.text.items c.spell_key.new.text.items c.spell_rows.new.text.items c.spell_members-2.new.text.items c.push-2.new.self.items
    (c.split_at.ensures.front ∙ ap₂ take place c.deref-2.ensures.value) (c.split_at.ensures.back ∙ ap₂ drop place c.deref-2.ensures.value) c.behind.ensures
    (ap not c.is_empty.ensures ∙ later_is c.split_at.result.0.now)
    c.in_ok-push.ensures.items c.in_ok-spell_members.ensures.put c.in_ok-spell_key.ensures.put c.in_ok-spell_rows.ensures.put c.in_ok-spell_members-2.ensures.put c.in_ok-push-2.ensures.items

pub returns-clause-again : goal.returns-clause-again
returns-clause-again c = with_again c.args.key c.args.rows.now.items.items (members_from c.args.self.now.members.items) c.args.self.now.plain
