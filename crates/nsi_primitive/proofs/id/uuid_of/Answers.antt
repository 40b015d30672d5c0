use Rattle.std.proofs.Common.{◌∙◌, ap, arith}
use Rattle.nsi_primitive.specs.Ids.{from_bytes, bytes_of}
use Rattle.nsi_primitive.proofs.SixteenBytes.{from_bytes-bytes_of}
use Rattle.nsi_primitive.proofs.id.uuid_of.Goals as goal

pub returns-clause-again : goal.returns-clause-again
unfolding bytes_of
returns-clause-again c = ap from_bytes c.from_u128.ensures ∙ ap (λ n. from_bytes (bytes_of n)) c.id.view_is ∙ from_bytes-bytes_of c.args.id (omega arith)
