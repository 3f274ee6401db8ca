use Rattle.nv_core.proofs.ScannedReports.{lists_scanned}
use Rattle.nv_core.proofs.scan_laws.lists_are_what_a_scan_counts.Goals as goal

pub returns : goal.returns
returns c = lists_scanned
