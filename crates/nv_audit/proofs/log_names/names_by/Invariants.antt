use Rattle.std.proofs.Common.{drop}
use Rattle.nv_entry.specs.Log.{seen}
use Rattle.nv_audit.proofs.LogNames.{AreNamesBack}
use Rattle.nv_audit.proofs.log_names.names_by.Given as goal

abbrev pub invariant-loop-place : goal.invariant-loop-place
invariant-loop-place l = AreNamesBack (seen l.when (drop l.place l.log)) l.covers l.names.items
