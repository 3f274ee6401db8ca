use Rattle.nv_core.proofs.ScannedReports.{space_scanned}
use Rattle.nv_core.proofs.scan_laws.space_is_what_a_scan_counts.Goals as goal

pub returns : goal.returns
returns c = space_scanned
