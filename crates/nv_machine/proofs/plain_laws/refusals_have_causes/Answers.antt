use Rattle.std.proofs.Common.{refl}
use Rattle.std.proofs.lemmas.Bool.{le-leb}
use Rattle.nv_base.specs.declared.limits.TheConstants.{NUMBER}
use Rattle.nv_machine.proofs.RefusalCauses.{caused, contended, finds_none}
use Rattle.nv_machine.proofs.DecidedRefusals.{plainly_caused}
use Rattle.nv_machine.proofs.plain_laws.refusals_have_causes.Goals as goal

pub returns-clause-causes : goal.returns-clause-causes
returns-clause-causes c = λ block actor granted s h r. caused r.next block actor granted s h r

pub returns-clause-contended : goal.returns-clause-contended
returns-clause-contended c = contended

pub returns-clause-number : goal.returns-clause-number
returns-clause-number c = λ block actor granted s h r. finds_none s.pool.numbers s h r refl

pub returns-clause-settled : goal.returns-clause-settled
returns-clause-settled c = plainly_caused

pub returns-clause-limit : goal.returns-clause-limit
returns-clause-limit c = λ block actor granted s h r free most. rw (free, le-leb NUMBER s.book.commit most) refl
