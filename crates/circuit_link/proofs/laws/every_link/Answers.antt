use Rattle.circuit_link.proofs.Hearing.{hearing_link}
use Rattle.circuit_link.proofs.Likeness.{course_link}
use Rattle.circuit_link.proofs.Taking.{asking_link, taking_link, refusing_link}
use Rattle.circuit_link.proofs.laws.every_link.Goals as goal

pub returns-clause-asking : goal.returns-clause-asking
returns-clause-asking c = asking_link

pub returns-clause-courses : goal.returns-clause-courses
returns-clause-courses c = course_link

pub returns-clause-taking : goal.returns-clause-taking
returns-clause-taking c = taking_link

pub returns-clause-refusing : goal.returns-clause-refusing
returns-clause-refusing c = λ k b x s id e owes r u l. refusing_link b k x s id e owes r u l

pub returns-clause-hearing : goal.returns-clause-hearing
returns-clause-hearing c = hearing_link
