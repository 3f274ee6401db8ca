use Rattle.nv_mount_laws.proofs.AsideRequests.{cleanings_leave}
use Rattle.nv_mount_laws.proofs.Requests.{requests_leave}
use Rattle.nv_mount_laws.proofs.RenamesKeep.{renames_count, renames_leave}
use Rattle.nv_mount_laws.proofs.Replaced.{replaced_leaves}
use Rattle.nv_mount_laws.proofs.ReleasedFiles.{release_files_leave}
use Rattle.nv_mount_laws.proofs.Stays.{openings_leave, rmdirs_count, rmdirs_leave, unlinks_count, unlinks_leave}
use Rattle.nv_mount_laws.proofs.laws.open_files_outlive_their_names.Goals as goal

pub returns-clause-unlink : goal.returns-clause-unlink
returns-clause-unlink c = unlinks_leave

pub returns-clause-unlink_opens : goal.returns-clause-unlink_opens
returns-clause-unlink_opens c = unlinks_count

pub returns-clause-rmdir : goal.returns-clause-rmdir
returns-clause-rmdir c = rmdirs_leave

pub returns-clause-rmdir_opens : goal.returns-clause-rmdir_opens
returns-clause-rmdir_opens c = rmdirs_count

pub returns-clause-open : goal.returns-clause-open
returns-clause-open c = openings_leave

pub returns-clause-release : goal.returns-clause-release
returns-clause-release c = release_files_leave

pub returns-clause-replaced : goal.returns-clause-replaced
returns-clause-replaced c = replaced_leaves

pub returns-clause-rename : goal.returns-clause-rename
returns-clause-rename c = renames_leave

pub returns-clause-rename_opens : goal.returns-clause-rename_opens
returns-clause-rename_opens c = renames_count

pub returns-clause-request : goal.returns-clause-request
returns-clause-request c = requests_leave

pub returns-clause-clean : goal.returns-clause-clean
returns-clause-clean c = cleanings_leave
