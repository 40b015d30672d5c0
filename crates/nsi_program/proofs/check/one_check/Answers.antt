use Rattle.nsi_program.proofs.OneText.{one_text, begins_front}
use Rattle.nsi_program.proofs.check.one_check.Goals as goal

pub returns : goal.returns
returns c = record {
  text = λ bytes status other x y l g. one_text bytes status other x y l g;
  front = λ bytes status x y l g. begins_front bytes status x y l g;
}
