use Rattle.std.proofs.Common.{◌≡◌, ℕ, ◌++◌, ◌+◌, ◌-◌, ◌<◌, List, [], ◌∷◌, ◌∙◌, ap, arith, get_or, length, map, sym, take}
use Rattle.std.specs.List.{sum}
use Rattle.std.proofs.lemmas.List.{length-map, map-append, take_more}
use Rattle.std.proofs.lemmas.List.Sums.{sum_by_more}
use Rattle.nv_book.specs.declared.manifest.Manifest.{Manifest}
use Rattle.nv_book.specs.Manifests.{held_of, snapshots}
use Rattle.nv_book.proofs.held_spans.HeldSpans.held.Goals as goal

pub loop-place-preserved : goal.loop-place-preserved
loop-place-preserved c =
    let i : ℕ = c.loop-place.place in
    let ms : List Manifest = c.args.manifests.now in
    let begun : List ℕ = c.args.self.now.begun.items in
    let over : List ℕ = c.args.self.now.over.items in
    let so_far = c.loop-place.invariant in
    let room = c.requires.room in
    let in' : i < length (snapshots ms) = omega (arith, c.loop-place-test.true, length-map ms (λ (m : Manifest). m.snapshot)) in
    let b : c.loop-place.begun + c.index.result.now ≡ sum (take (i + 1) begun) =
    omega (
      arith,
      so_far.0,
      c.index.ensures,
      sum_by_more (λ (n : ℕ). n) begun i c.index.result.now (omega (arith, c.loop-place-test.true, room.begun_places)),
    ) in
    let o : c.loop-place.over + c.index-in-loop-place.result.now ≡ sum (take (i + 1) over) =
    omega (
      arith,
      so_far.1,
      c.index-in-loop-place.ensures,
      sum_by_more (λ (n : ℕ). n) over i c.index-in-loop-place.result.now (omega (arith, c.loop-place-test.true, room.over_places)),
    ) in
    let s : ℕ = get_or (snapshots ms) i 0 in
    let f : ℕ → ℕ = λ t. held_of t ms in
    let one : c.loop-place.begun + c.index.result.now - (c.loop-place.over + c.index-in-loop-place.result.now) ≡ f s =
    omega (arith, b, o, c.requires.all i in') in
    let more : map f (take (i + 1) (snapshots ms)) ≡ map f (take i (snapshots ms)) ++ f s ∷ [] =
    ap (map f) (take_more (snapshots ms) i 0 in') ∙ map-append f (take i (snapshots ms)) (s ∷ []) in
    (b, o, c.in_ok-push.ensures.items ∙ rw (so_far.2, one) (sym more))
