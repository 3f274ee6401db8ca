use Rattle.nv_fuse.proofs.Tables.{behind-header, error-back, length-back, length-reply, unique-back}
use Rattle.nv_fuse.proofs.laws.replies_begin_with_their_header.Goals as goal

pub returns-clause-length : goal.returns-clause-length
returns-clause-length c unique x = length-reply unique x

pub returns-clause-told : goal.returns-clause-told
returns-clause-told c unique x fits = length-back unique x fits

pub returns-clause-error : goal.returns-clause-error
returns-clause-error c unique x = error-back unique x

pub returns-clause-unique : goal.returns-clause-unique
returns-clause-unique c unique x fits = unique-back unique x fits

pub returns-clause-behind : goal.returns-clause-behind
returns-clause-behind c unique x = behind-header unique x
