use Rattle.std.proofs.Common.{◌≡◌, ◌≤◌, ◌∷◌, [], List, None, IsSome, sym, subst, ap}
use Rattle.nv_epoch.specs.SnapList.{ids, pins_at}
use Rattle.nv_book.specs.declared.manifest.Manifest.{Manifest}
use Rattle.nv_book.specs.declared.record.Record.{Record}
use Rattle.nv_book.specs.Book.{BookState, BookValue, after_retire}
use Rattle.nv_book.specs.Manifests.{put_to}
use Rattle.nv_book.specs.Records.{holder_of}
use Rattle.nv_book.proofs.Books.{book-retired}
use Rattle.nv_book.proofs.Places.{put-none}
use Rattle.nv_book.proofs.book.Book.retire.Goals as goal

none-retired : (b : BookState) (r : Record) → holder_of (ids b.snaps) r ≡ None → b ≡ after_retire r b
none-retired b r e =
    let with : List Manifest → BookState = λ ms. record b { manifests = ms } in
    subst (λ o. b ≡ with (put_to o (r ∷ []) b.manifests)) (sym e) (ap with (sym (put-none (r ∷ []) b.manifests)))

pub returns-in_default-clause-state : goal.returns-in_default-clause-state
returns-in_default-clause-state c =
    none-retired c.args.self.now.state c.args.killed
    (subst (λ (b : BookValue). holder_of (ids b.state.snaps) c.args.killed ≡ None) c.self.view_is (sym c.in_default.ensures))

pub unreachable-requires : goal.unreachable-requires
unreachable-requires c =
    let y = (c.holders_are_told_by_the_list.ensures.youngest (ids c.self.inside.snaps) c.args.killed.birth c.args.killed.death c.in-Some.s
    c.rises.ensures.rising).0 (sym c.in-Some.ensures) in
    let p : IsSome (pins_at c.self.inside.snaps.living c.in-Some.s) =
    (c.pins_stay_with_their_snapshot.ensures.lives c.self.inside.snaps.living c.in-Some.s).1 y.lives in
    let q = subst (λ o. IsSome o) c.in_default-place.ensures.absent p in
    cc q

pub invariant_of-self : goal.invariant_of-self
invariant_of-self c =
    let dead = subst (λ (b : BookValue). c.args.killed.death ≤ b.state.snaps.epoch) (sym c.self.view_is) c.requires.dead in
    rw c.put.ensures (book-retired _ _ _ _ c.self.invariant _ _ c.args.killed (sym c.in-Some.ensures) dead)
