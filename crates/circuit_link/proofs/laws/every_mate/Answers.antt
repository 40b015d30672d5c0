use Rattle.circuit_link.proofs.Entering.{passing_mate, own_mate}
use Rattle.circuit_link.proofs.Minding.{alike_mate, asking_mate, hearing_mate}
use Rattle.circuit_link.proofs.laws.every_mate.Goals as goal

pub returns-clause-passing : goal.returns-clause-passing
returns-clause-passing c = λ parent name x place d input records seen out fair serves other h. passing_mate parent name x place d fair h input records seen out serves other

pub returns-clause-own : goal.returns-clause-own
returns-clause-own c = λ parent name x place d input records seen out m fair serves got own h. own_mate parent name x place d fair h input records seen out m got own serves

pub returns-clause-asking : goal.returns-clause-asking
returns-clause-asking c = λ parent child d k b x place fair r free new h. asking_mate parent child d fair k b x place r free new h

pub returns-clause-hearing : goal.returns-clause-hearing
returns-clause-hearing c = λ parent child d b e x place said h. hearing_mate parent child d b e x place said h

pub returns-clause-alike : goal.returns-clause-alike
returns-clause-alike c = alike_mate
