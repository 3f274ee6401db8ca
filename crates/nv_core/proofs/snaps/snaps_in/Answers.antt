use Rattle.std.proofs.Common.{◌≡◌, ℕ, ◌++◌, ◌+◌, ◌<◌, List, [], ◌∷◌, ◌∙◌, ap, arith, get_or, length, map, sym, take}
use Rattle.std.proofs.lemmas.List.{get_or-map, length-map, map-append, take_more}
use Rattle.nv_book.specs.Book.{BookState}
use Rattle.nv_book.specs.Manifests.{held_of}
use Rattle.nv_epoch.specs.SnapList.{Snapshots}
use Rattle.nv_epoch.specs.declared.snapshot.Snapshot.{Snapshot}
use Rattle.nv_core.specs.Reports.{snap_counts}
use Rattle.nv_core.specs.declared.snaps.SnapCounts.{SnapCounts}
use Rattle.nv_core.proofs.snaps.snaps_in.Goals as goal

-- what the book told at a place is what the snapshot there holds
at-place : (holds : ℕ → ℕ) (xs : List Snapshot) (i e : ℕ) (s : Snapshot) → i < length xs → s ≡ get_or xs i s →
    get_or (map holds (map (λ (t : Snapshot). t.number) xs)) i e ≡ holds s.number
at-place holds xs i e s in' is =
    let number : Snapshot → ℕ = λ t. t.number in
    get_or-map holds (map number xs) i 0 e (omega (arith, in', length-map xs number))
    ∙ (ap holds (get_or-map number xs i s 0 in') ∙ ap (λ (t : Snapshot). holds t.number) (sym is))

pub loop-place-preserved : goal.loop-place-preserved
loop-place-preserved c =
    let i : ℕ = c.loop-place.place in
    let xs : List Snapshot = c.snapshots-snapshots.result.now in
    let s : Snapshot = c.index-snapshots-place.result in
    let is : s ≡ get_or xs i s = c.index-snapshots-place.is in
    let book : BookState = c.args.book.now.state in
    let f : Snapshot → SnapCounts = snap_counts book in
    let holds : ℕ → ℕ = λ t. held_of t book.manifests in
    let in' : i < length xs = omega (arith, c.loop-place-test.true) in
    let living : book.snaps.living ≡ xs =
    sym (c.snapshots-snapshots.ensures.all ∙ ap (λ (l : Snapshots). l.living) c.snaps.ensures.snaps) in
    let all : c.in_ok-held.held.items ≡ map holds (map (λ (t : Snapshot). t.number) xs) =
    c.in_ok-held.ensures.ok ∙ ap (λ (l : List Snapshot). map holds (map (λ (t : Snapshot). t.number) l)) living in
    let held : c.index.result.now ≡ holds s.number =
    c.index.ensures ∙ (ap (λ (ns : List ℕ). get_or ns i c.index.result.now) all ∙ at-place holds xs i c.index.result.now s in' is) in
    let one : c.counts_of.result ≡ f s = c.counts_of.ensures ∙ ap (λ (n : ℕ). record (f s) { held = n }) held in
    let more : take (i + 1) xs ≡ take i xs ++ s ∷ [] =
    take_more xs i s in' ∙ ap (λ (x : Snapshot). take i xs ++ x ∷ []) (sym is) in
    let both = ap (map f) more ∙ map-append f (take i xs) (s ∷ []) in
    cc (both, c.loop-place.invariant, one, c.in_ok-push.ensures.items)
