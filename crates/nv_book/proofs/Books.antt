-- A book after each call.
use Rattle.std.proofs.Common.{◌≡◌, ℕ, suc, ◌+◌, ◌<◌, ◌≤◌, ◌==◌, Bool, true, false, cond, List, [], ◌∷◌, ◌++◌, length, Some, arith, refl, ap, sym, subst}
use Rattle.std.specs.List.{Contains}
use Rattle.std.proofs.lemmas.Bool.{eqb-true}
use Rattle.std.proofs.lemmas.List.{length-map, map-append}
use Rattle.nv_base.specs.declared.limits.TheConstants.{NUMBER}
use Rattle.nv_epoch.specs.Holders.{next_older, without}
use Rattle.nv_epoch.specs.SnapList.{Snapshots, ids, after_making, after_removal}
use Rattle.nv_epoch.specs.declared.snapshot.Snapshot.{Snapshot}
use Rattle.nv_book.specs.declared.event.Event.{Event}
use Rattle.nv_book.specs.declared.event.Event.TheVariants.{Made}
use Rattle.nv_book.specs.declared.manifest.Manifest.{Manifest}
use Rattle.nv_book.specs.declared.record.Record.{Record}
use Rattle.nv_book.specs.Book.{IsBook}
use Rattle.nv_book.specs.History.{IsHistory, IsLegal, IsNext, after, replay, state_now, undone}
use Rattle.nv_book.specs.Manifests.{AreFiled, snapshots, put_to, records_at, after_drop, after_make}
use Rattle.nv_book.specs.Records.{holder_of, let_go}
use Rattle.nv_book.specs.Store.{Store}
use Rattle.nv_book.proofs.Filing.{retired, dead-made, dead-dropped, dead-retired}

-- a making may come next, and what it leads to
pub made-next : (snaps : Snapshots) (commit s : ℕ) → s ≡ snaps.epoch → (snaps.epoch < NUMBER) × (length snaps.living < snaps.most) →
    IsNext snaps.most (state_now snaps commit) (Made s)
made-next snaps commit s same room =
    let lt = room.0 in
    let few = room.1 in
    (same, omega (arith, lt, same), omega (arith, few, length-map snaps.living (λ (t : Snapshot). t.number)))

ids-made : (snaps : Snapshots) → ids (after_making snaps) ≡ ids snaps ++ snaps.epoch ∷ []
ids-made snaps = map-append (λ (s : Snapshot). s.number) snaps.living ((record { number = snaps.epoch; pins = 0 }) ∷ [])

pub made-leads : (snaps : Snapshots) (commit : ℕ) →
    after (state_now snaps commit) (Made snaps.epoch) ≡ state_now (after_making snaps) commit
made-leads snaps commit =
    ap (λ (l : List ℕ). record { epoch = snaps.epoch + 1; commit = commit; living = l }) (sym (ids-made snaps))

module _ (snaps : Snapshots) (commit : ℕ) (store : Store) (latest : List Event) (book : IsBook snaps commit store latest) where
  pub book-retired : (s room : ℕ) (r : Record) → holder_of (ids snaps) r ≡ Some s → r.death ≤ snaps.epoch →
      IsBook snaps commit (record store { manifests = put_to (Some s) (r ∷ []) store.manifests; room = room }) latest
  book-retired s room r e d = record {
    filed = retired _ _ _ s r book.filed e;
    dead = dead-retired snaps.epoch (Some s) r store.manifests store.deferred book.dead d;
    history = book.history;
    commit_fits = book.commit_fits;
    places_fit = book.places_fit;
  }

  pub book-made : (room : ℕ) (new : List Event) → AreFiled (ids snaps ++ snaps.epoch ∷ []) (after_make snaps.epoch store.manifests) store.deferred →
      IsHistory snaps.most (state_now (after_making snaps) commit) new →
      IsBook (after_making snaps) commit (record store { manifests = after_make snaps.epoch store.manifests; room = room }) new
  book-made room new filed history =
      record {
        filed = subst (λ l. AreFiled l (after_make snaps.epoch store.manifests) store.deferred) (sym (ids-made snaps)) filed;
        dead = dead-made snaps.epoch store.manifests store.deferred book.dead;
        history = history;
        commit_fits = book.commit_fits;
        places_fit = book.places_fit;
      }

  pub book-dropped : (s : ℕ) (new : List Event) → ids (after_removal snaps s) ≡ without s (ids snaps) →
      AreFiled (without s (ids snaps)) (after_drop s (next_older (ids snaps) s) store.manifests)
      (store.deferred ++ let_go (next_older (ids snaps) s) (records_at s store.manifests)) →
      IsHistory snaps.most (state_now (after_removal snaps s) commit) new →
      IsBook (after_removal snaps s) commit
      (record store {
        manifests = after_drop s (next_older (ids snaps) s) store.manifests;
        deferred =
            store.deferred ++ let_go (next_older (ids snaps) s) (records_at s store.manifests);
      }) new
  book-dropped s new same filed history =
      let older = next_older (ids snaps) s in
      record {
        filed = subst (λ l. AreFiled l (after_drop s older store.manifests)
            (store.deferred ++ let_go older (records_at s store.manifests))) (sym same) filed;
        dead = dead-dropped snaps.epoch s older store.manifests store.deferred book.dead;
        history = history;
        commit_fits = book.commit_fits;
        places_fit = book.places_fit;
      }

-- a snapshot that does not live has no records
pub records-absent : (ms : List Manifest) (s : ℕ) → (Contains (snapshots ms) s → ⊥) → records_at s ms ≡ []
records-absent [] s out = refl
records-absent (m ∷ ms) s out = go (m.snapshot == s) refl (records-absent ms s (λ (k, lt, at). out (suc k, omega (arith, lt), at))) where
  go : (b : Bool) → (m.snapshot == s) ≡ b → records_at s ms ≡ [] → cond b m.records (records_at s ms) ≡ []
  go true e h = absurd (out (0, omega arith, eqb-true m.snapshot s e))
  go false e h = h

pub book-empty : (snaps epoch commit : ℕ) → commit ≤ NUMBER →
    IsBook (record { living = []; epoch = epoch; most = snaps }) commit
    (record { manifests = []; most = snaps; deferred = []; room = 0 }) []
unfolding IsLegal replay undone
book-empty snaps epoch commit fits = record {
  filed = record { all = refl; filed = tt; unheld = tt };
  dead = record { filed = tt; others = tt };
  history = record {
    legal = tt;
    ordered = record { rising = tt; below_epoch = λ k d in'. absurd (omega (arith, in')) };
    leads = refl;
  };
  commit_fits = fits;
  places_fit = omega arith;
}
