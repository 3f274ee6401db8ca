use Rattle.std.proofs.Common.{◌≡◌, drop, map, reverse}
use Rattle.nv_entry.specs.Log.{pairs}
use Rattle.nv_audit.proofs.Covers.{AreCovers, death_of}
use Rattle.nv_audit.proofs.deaths.deaths_looked_up.Given as goal

abbrev pub invariant-loop-place : goal.invariant-loop-place
invariant-loop-place l = record {
  covers : AreCovers l.logged.block l.logged.log (drop l.place l.logged.log) l.covers;
  deaths : l.deaths.items ≡ reverse (map death_of (pairs l.logged.block (drop l.place l.logged.log)));
}
