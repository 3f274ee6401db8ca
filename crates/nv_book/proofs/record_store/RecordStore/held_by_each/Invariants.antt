use Rattle.std.proofs.Common.{drop, length, take}
use Rattle.nv_book.specs.HeldSpans.{HasRoom, Tells}
use Rattle.nv_book.specs.Manifests.{held_of, record_count, snapshots}
use Rattle.nv_book.proofs.record_store.RecordStore.held_by_each.Given as goal

-- there is room for the records of the manifests that are left, and what each snapshot holds of those before is told
abbrev pub invariant-loop-place : goal.invariant-loop-place
invariant-loop-place l = record {
  room : HasRoom l.spans (length l.manifests) (record_count (drop l.place l.manifests));
  held : Tells (snapshots l.manifests) l.spans (λ s. held_of s (take l.place l.manifests));
}
