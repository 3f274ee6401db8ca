use Rattle.nv_mount_laws.proofs.RefusedBytes.{fallocate_refused, write_refused}
use Rattle.nv_mount_laws.proofs.Refused.{open_refused, rmdir_refused, unlink_refused}
use Rattle.nv_mount_laws.proofs.ReleasedFiles.{release_file_refused}
use Rattle.nv_mount_laws.proofs.laws.refused_requests_have_changed_nothing.Goals as goal

pub returns-clause-open : goal.returns-clause-open
returns-clause-open c = open_refused

pub returns-clause-release : goal.returns-clause-release
returns-clause-release c = release_file_refused

pub returns-clause-unlink : goal.returns-clause-unlink
returns-clause-unlink c = unlink_refused

pub returns-clause-rmdir : goal.returns-clause-rmdir
returns-clause-rmdir c = rmdir_refused

pub returns-clause-write : goal.returns-clause-write
returns-clause-write c = write_refused

pub returns-clause-fallocate : goal.returns-clause-fallocate
returns-clause-fallocate c = fallocate_refused
