use Rattle.nv_mount_laws.proofs.BytesKept.{fallocates_count, fallocates_leave, writes_count, writes_leave}
use Rattle.nv_mount_laws.proofs.Sets.{sets_count, sets_leave}
use Rattle.nv_mount_laws.proofs.laws.changes_leave_other_files.Goals as goal

pub returns-clause-write : goal.returns-clause-write
returns-clause-write c = writes_leave

pub returns-clause-write_opens : goal.returns-clause-write_opens
returns-clause-write_opens c = writes_count

pub returns-clause-fallocate : goal.returns-clause-fallocate
returns-clause-fallocate c = fallocates_leave

pub returns-clause-fallocate_opens : goal.returns-clause-fallocate_opens
returns-clause-fallocate_opens c = fallocates_count

pub returns-clause-set : goal.returns-clause-set
returns-clause-set c = sets_leave

pub returns-clause-set_opens : goal.returns-clause-set_opens
returns-clause-set_opens c = sets_count
