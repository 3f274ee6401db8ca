use Rattle.std.proofs.Common.{◌≡◌, ◌≤◌, count_by, not, take}
use Rattle.nv_clean.proofs.fast.going.Given as goal

abbrev pub invariant-loop-stay : goal.invariant-loop-stay
invariant-loop-stay l = record {
  count : l.pages ≡ count_by not (take l.stay-index l.stays);
  few : l.pages ≤ l.stay-index;
}
