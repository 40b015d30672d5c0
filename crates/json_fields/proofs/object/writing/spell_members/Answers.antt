use Rattle.std.proofs.Common.{arith}
use Rattle.json_fields.proofs.Placed.{member_next, members_done}
use Rattle.json_fields.proofs.object.writing.spell_members.Goals as goal

pub loop-member-preserved : goal.loop-member-preserved
loop-member-preserved c =
    member_next c.loop-member.is_later c.args.members.now c.loop-member.member-index _ c.loop-member.text.items c.spell_key.new.text.items c.spell_value.new.text.items _
    (omega arith) c.in_ok-spell_key.ensures.put c.in_ok-spell_value.ensures.put c.loop-member.invariant
