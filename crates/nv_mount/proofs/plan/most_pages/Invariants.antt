use Rattle.std.proofs.Common.{◌<◌, ◌≤◌, ℕ, length}
use Rattle.std.specs.Prelude.{slice_index_or}
use Rattle.nv_log.specs.Image.{pages_past}
use Rattle.nv_mount.specs.View.{slot_in}
use Rattle.nv_mount.proofs.plan.most_pages.Given as goal

abbrev pub invariant-loop-ino : goal.invariant-loop-ino
invariant-loop-ino l =
    (n : ℕ) → n < l.ino → length (pages_past (slice_index_or l.tails n 0) (slot_in l.view n).chain.state) ≤ l.most
