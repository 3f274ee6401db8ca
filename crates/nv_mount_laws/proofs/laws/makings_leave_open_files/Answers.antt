use Rattle.nv_mount_laws.proofs.Makings.{creates_count, creates_leave, creates_open, mkdirs_count, mkdirs_leave, mknods_count, mknods_leave, mknods_open}
use Rattle.nv_mount_laws.proofs.laws.makings_leave_open_files.Goals as goal

pub returns-clause-mknod : goal.returns-clause-mknod
returns-clause-mknod c = mknods_leave

pub returns-clause-mknod_opens : goal.returns-clause-mknod_opens
returns-clause-mknod_opens c = mknods_count

pub returns-clause-made : goal.returns-clause-made
returns-clause-made c = mknods_open

pub returns-clause-mkdir : goal.returns-clause-mkdir
returns-clause-mkdir c = mkdirs_leave

pub returns-clause-mkdir_opens : goal.returns-clause-mkdir_opens
returns-clause-mkdir_opens c = mkdirs_count

pub returns-clause-create : goal.returns-clause-create
returns-clause-create c = creates_leave

pub returns-clause-create_opens : goal.returns-clause-create_opens
returns-clause-create_opens c = creates_count

pub returns-clause-created : goal.returns-clause-created
returns-clause-created c = creates_open
