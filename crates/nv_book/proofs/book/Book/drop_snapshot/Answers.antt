use Rattle.std.proofs.Common.{◌≡◌, ℕ, ◌+◌, ◌++◌, List, IsSome, ap, refl, sym, subst}
use Rattle.nv_epoch.specs.Holders.{next_older, without}
use Rattle.nv_epoch.specs.SnapList.{Snapshots, ids, after_removal, pins_at}
use Rattle.nv_book.specs.Book.{BookValue, after_drop_snapshot}
use Rattle.nv_book.specs.Manifests.{gain_of, records_at}
use Rattle.nv_book.specs.Records.{block_count, let_go}
use Rattle.nv_book.specs.History.{IsHistory, after, noted, state_now, told}
use Rattle.nv_book.specs.declared.history.TheConstants.{LATEST}
use Rattle.nv_book.specs.declared.event.Event.TheVariants.{Dropped}
use Rattle.nv_book.proofs.Books.{book-dropped}
use Rattle.nv_book.proofs.book.Book.drop_snapshot.Goals as goal

same : (c : goal.After-note) → ids (after_removal c.self.inside.snaps c.args.s) ≡ without c.args.s (ids c.self.inside.snaps)
same c =
    subst (λ (list : Snapshots). ids list ≡ without c.args.s (ids c.self.inside.snaps)) c.in_ok-remove.ensures.ok
    c.in_ok-remove.ensures.numbers

-- the drop is noted in the state without the snapshot
drop-noted : (c : goal.After-note) → let now = state_now (after_removal c.self.inside.snaps c.args.s) c.self.inside.commit in
    IsHistory c.self.inside.snaps.most now c.note.new.self × (told now c.note.new.self
    ≡ noted LATEST (told (state_now c.self.inside.snaps c.self.inside.commit) c.self.inside.history) (Dropped c.args.s))
drop-noted c =
    let snaps = c.self.inside.snaps in
    let now = state_now snaps c.self.inside.commit in
    let some : IsSome (pins_at snaps.living c.args.s) = subst (λ o. IsSome o) (sym (c.in_ok-remove.ensures.removed.0 refl)) refl in
    let lives = (c.pins_stay_with_their_snapshot.ensures.lives snaps.living c.args.s).0 some in
    let leads : after now (Dropped c.args.s) ≡ state_now (after_removal snaps c.args.s) c.self.inside.commit =
    ap (λ (l : List ℕ). record { epoch = snaps.epoch; commit = c.self.inside.commit; living = l }) (sym (same c)) in
    subst (λ then. IsHistory snaps.most then c.note.new.self
    × (told then c.note.new.self ≡ noted LATEST (told now c.self.inside.history) (Dropped c.args.s))) leads
    (c.note.ensures _ _ c.self.invariant.history lives)

pub invariant_of-self-2 : goal.invariant_of-self-2
invariant_of-self-2 c =
    let book = c.self.invariant in
    let filed = c.dropping_files.ensures.dropped _ c.args.s _ _ c.rises.ensures.rising book.filed in
    rw (c.in_ok-remove.ensures.ok, c.drop_at.ensures, c.older-older.ensures)
    (book-dropped _ _ _ _ book c.args.s _ (same c) filed (drop-noted c).0)

pub returns-clause-ok : goal.returns-clause-ok
returns-clause-ok c = rw (c.in_ok-remove.ensures.ok, c.drop_at.ensures, c.older-older.ensures, (drop-noted c).1)
    (ap (λ (b : BookValue). record b { state = after_drop_snapshot c.args.s b.state }) c.self.view_is)

pub returns-clause-gain : goal.returns-clause-gain
returns-clause-gain c =
    let ms = c.self.inside.store.manifests in
    let ds = c.self.inside.store.deferred in
    let older = next_older (ids c.self.inside.snaps) c.args.s in
    let law = c.dropping_files.ensures.gain c.args.s (ids c.self.inside.snaps) ms ds in
    rw (c.drop_at.ensures, c.older-older.ensures)
    (subst (λ (b : BookValue). block_count (ds ++ let_go older (records_at c.args.s ms))
    ≡ block_count b.state.deferred + gain_of c.args.s (next_older (ids b.state.snaps) c.args.s) b.state.manifests) c.self.view_is
    law)
