use Rattle.json_fields.proofs.Placed.{past_none, not_within}
use Rattle.json_fields.proofs.object.put.is_at.Goals as goal

pub returns-else-place-members : goal.returns-else-place-members
returns-else-place-members c = (λ h. absurd (not_within c.if-place-members.false h), λ h. absurd (past_none c.args.key c.args.members.now c.args.place c.if-place-members.false h))
