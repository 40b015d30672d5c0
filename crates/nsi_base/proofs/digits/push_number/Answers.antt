use Rattle.std.proofs.Common.{arith}
use Rattle.nsi_base.proofs.Written.{number_again}
use Rattle.nsi_base.proofs.digits.push_number.Goals as goal

pub returns-in_err-digits-clause-again : goal.returns-in_err-digits-clause-again
returns-in_err-digits-clause-again c = λ low high l m. number_again low high c.args.n (omega arith) l m

pub returns-in_err-extend_from_slice-clause-again : goal.returns-in_err-extend_from_slice-clause-again
returns-in_err-extend_from_slice-clause-again c = λ low high l m. number_again low high c.args.n (omega arith) l m

pub returns-clause-again : goal.returns-clause-again
returns-clause-again c = λ low high l m. number_again low high c.args.n (omega arith) l m
