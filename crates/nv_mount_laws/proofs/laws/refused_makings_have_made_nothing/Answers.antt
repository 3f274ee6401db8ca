use Rattle.nv_mount_laws.proofs.RefusedMakings.{create_refused, mkdir_refused, mknod_refused}
use Rattle.nv_mount_laws.proofs.laws.refused_makings_have_made_nothing.Goals as goal

pub returns-clause-mknod : goal.returns-clause-mknod
returns-clause-mknod c = mknod_refused

pub returns-clause-mkdir : goal.returns-clause-mkdir
returns-clause-mkdir c = mkdir_refused

pub returns-clause-create : goal.returns-clause-create
returns-clause-create c = create_refused
