use Rattle.nv_core.proofs.ScannedReports.{snaps_scanned}
use Rattle.nv_core.proofs.scan_laws.snapshots_are_what_a_scan_counts.Goals as goal

pub returns : goal.returns
returns c = snaps_scanned
