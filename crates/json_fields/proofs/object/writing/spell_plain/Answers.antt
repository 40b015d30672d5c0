use Rattle.json_fields.proofs.Plain.{plain_quoted}
use Rattle.json_fields.proofs.object.writing.spell_plain.Goals as goal

pub returns : goal.returns
returns c = record {
  put = plain_quoted c.args.words.now c.args.text.now.items c.push.new.self.items c.extend_from_slice.new.self.items c.push-2.new.self.items c.requires
      c.in_ok-push.ensures.items c.in_ok-extend_from_slice.ensures.items c.in_ok-push-2.ensures.items;
}
