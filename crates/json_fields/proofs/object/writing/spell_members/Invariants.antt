use Rattle.std.proofs.Common.{◌≡◌, ◌++◌, drop}
use Rattle.json_fields.specs.Members.{front_text}
use Rattle.json_fields.proofs.object.writing.spell_members.Given as goal

abbrev pub invariant-loop-member : goal.invariant-loop-member
invariant-loop-member l = l.text.items ++ front_text l.is_later (drop l.member-index l.members) ≡ l.fn.text.items ++ front_text l.fn.is_later l.members
