use Rattle.nv_mount_laws.proofs.RefusedBytes.{bytes_same}
use Rattle.nv_mount_laws.proofs.Refused.{attributes_same, lookup_same, open_same}
use Rattle.nv_mount_laws.proofs.laws.reading_requests_change_nothing.Goals as goal

pub returns-clause-lookup : goal.returns-clause-lookup
returns-clause-lookup c = lookup_same

pub returns-clause-attributes : goal.returns-clause-attributes
returns-clause-attributes c = attributes_same

pub returns-clause-open : goal.returns-clause-open
returns-clause-open c = open_same

pub returns-clause-read : goal.returns-clause-read
returns-clause-read c = bytes_same
