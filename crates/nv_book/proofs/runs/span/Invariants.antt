use Rattle.std.proofs.Common.{◌≡◌, ℕ, ◌+◌, ◌<◌, length, slice_index}
use Rattle.std.specs.List.{sum_by}
use Rattle.nv_book.specs.HeldSpans.{HasRoom, up_to}
use Rattle.nv_book.specs.Manifests.{snapshots}
use Rattle.nv_book.specs.Records.{is_held_by}
use Rattle.nv_book.specs.Runs.{pages_of, pages_where}
use Rattle.nv_book.proofs.runs.span.Given as goal

-- of the runs that are left there is still room for the blocks, and those that each snapshot holds are still to come
abbrev pub invariant-loop-run : goal.invariant-loop-run
invariant-loop-run l = record {
  can : (goal.iterator-loop-run).can_next l.run-iterator;
  finite : (goal.iterator-loop-run).is_finite l.run-iterator;
  room : (more : ℕ) → HasRoom l.initial.spans (length l.manifests) (sum_by pages_of l.list + more) →
      HasRoom l.spans (length l.manifests) (sum_by pages_of l.run-iterator + more);
  held : (place : ℕ) → place < length (snapshots l.manifests) →
      up_to place l.spans.begun.items + up_to place l.initial.spans.over.items
      + pages_where (is_held_by (slice_index (snapshots l.manifests) place)) l.run-iterator
      ≡ up_to place l.initial.spans.begun.items + up_to place l.spans.over.items
      + pages_where (is_held_by (slice_index (snapshots l.manifests) place)) l.list;
}
