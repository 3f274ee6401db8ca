use Rattle.std.proofs.Common.{◌≡◌, take}
use Rattle.std.specs.List.{sum_by}
use Rattle.nv_core.specs.Reports.{kept_in}
use Rattle.nv_core.specs.Shown.{shared_of}
use Rattle.nv_core.proofs.shared.Shared.data_blocks.Given as goal

abbrev pub invariant-loop-place : goal.invariant-loop-place
invariant-loop-place l = l.count ≡ sum_by (kept_in l.self.book.state) (take l.place (shared_of l.self).cells)
