use Rattle.nv_mount_laws.proofs.Makings.{creates_tell, mkdirs_tell, mknods_tell}
use Rattle.nv_mount_laws.proofs.Numbers.{attributes_tell, lookups_tell}
use Rattle.nv_mount_laws.proofs.laws.told_numbers_name_their_nodes.Goals as goal

pub returns-clause-lookup : goal.returns-clause-lookup
returns-clause-lookup c = lookups_tell

pub returns-clause-attributes : goal.returns-clause-attributes
returns-clause-attributes c = attributes_tell

pub returns-clause-mknod : goal.returns-clause-mknod
returns-clause-mknod c = mknods_tell

pub returns-clause-mkdir : goal.returns-clause-mkdir
returns-clause-mkdir c = mkdirs_tell

pub returns-clause-create : goal.returns-clause-create
returns-clause-create c = creates_tell
