use Rattle.nv_core.proofs.ScannedReports.{logs_scanned}
use Rattle.nv_core.proofs.scan_laws.logs_are_what_a_scan_counts.Goals as goal

pub returns : goal.returns
returns c = logs_scanned
