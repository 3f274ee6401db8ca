use Rattle.nv_mount_laws.proofs.Requests.{requests_keep}
use Rattle.nv_mount_laws.proofs.AsideRequests.{cleanings_keep}
use Rattle.nv_mount_laws.proofs.Makings.{creates_keep, mkdirs_keep, mknods_keep}
use Rattle.nv_mount_laws.proofs.Sets.{sets_keep}
use Rattle.nv_mount_laws.proofs.BytesKept.{fallocates_keep, writes_keep}
use Rattle.nv_mount_laws.proofs.Mounts.{mounts_hidden}
use Rattle.nv_mount_laws.proofs.NewMounts.{new_hidden}
use Rattle.nv_mount_laws.proofs.RenamesKeep.{renames_keep}
use Rattle.nv_mount_laws.proofs.ReleasedFiles.{release_files_keep}
use Rattle.nv_mount_laws.proofs.Stays.{openings_keep, rmdirs_keep, unlinks_keep}
use Rattle.nv_mount_laws.proofs.laws.hidden_files_stay_hidden.Goals as goal

pub returns-clause-unlink : goal.returns-clause-unlink
returns-clause-unlink c = unlinks_keep

pub returns-clause-rmdir : goal.returns-clause-rmdir
returns-clause-rmdir c = rmdirs_keep

pub returns-clause-open : goal.returns-clause-open
returns-clause-open c = openings_keep

pub returns-clause-release : goal.returns-clause-release
returns-clause-release c = release_files_keep

pub returns-clause-new : goal.returns-clause-new
returns-clause-new c = new_hidden

pub returns-clause-write : goal.returns-clause-write
returns-clause-write c = writes_keep

pub returns-clause-fallocate : goal.returns-clause-fallocate
returns-clause-fallocate c = fallocates_keep

pub returns-clause-set : goal.returns-clause-set
returns-clause-set c = sets_keep

pub returns-clause-mknod : goal.returns-clause-mknod
returns-clause-mknod c = mknods_keep

pub returns-clause-mkdir : goal.returns-clause-mkdir
returns-clause-mkdir c = mkdirs_keep

pub returns-clause-create : goal.returns-clause-create
returns-clause-create c = creates_keep

pub returns-clause-rename : goal.returns-clause-rename
returns-clause-rename c = renames_keep

pub returns-clause-clean : goal.returns-clause-clean
returns-clause-clean c = cleanings_keep

pub returns-clause-request : goal.returns-clause-request
returns-clause-request c = requests_keep

pub returns-clause-mount : goal.returns-clause-mount
returns-clause-mount c = mounts_hidden
