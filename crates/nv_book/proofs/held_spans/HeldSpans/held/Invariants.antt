use Rattle.std.proofs.Common.{◌≡◌, map, take}
use Rattle.std.specs.List.{sum}
use Rattle.nv_book.specs.Manifests.{held_of, snapshots}
use Rattle.nv_book.proofs.held_spans.HeldSpans.held.Given as goal

abbrev pub invariant-loop-place : goal.invariant-loop-place
invariant-loop-place l =
    (l.begun ≡ sum (take l.place l.self.begun.items)) × (l.over ≡ sum (take l.place l.self.over.items))
    × (l.held.items ≡ map (λ s. held_of s l.manifests) (take l.place (snapshots l.manifests)))
