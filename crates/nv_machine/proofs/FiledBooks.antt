-- What holds of the snapshots, the manifests and the deferred list beside the record list, and that what a retire, a
-- making, a drop, a pin and a pick leave has it too.
use Rattle.std.proofs.Common.{◌≡◌, ℕ, ◌+◌, ◌-◌, ◌<◌, ◌≤◌, ◌==◌, ◌++◌, Bool, true, false, cond, not, List, [], ◌∷◌, ap, arith, drop, filter, refl, subst, sym}
use Rattle.std.specs.Prelude.{is_none}
use Rattle.std.specs.List.{All, AllByRecursion, Contains}
use Rattle.std.proofs.lemmas.List.{map-append}
use Rattle.std.proofs.lemmas.List.Elements.{All-contains, All-filter, All-push, All-weaker}
use Rattle.nv_book.specs.Listed.{IsRecordList, with_moved, with_retired, without_first}
use Rattle.nv_book.specs.Manifests.{after_drop, after_make, records_at}
use Rattle.nv_book.specs.Records.{holder_of, let_go}
use Rattle.nv_book.specs.declared.manifest.Manifest.{Manifest}
use Rattle.nv_book.specs.declared.record.Record.{Record}
use Rattle.nv_book.proofs.RecordLists.{listed-dropped, listed-made, listed-picked, listed-retired}
use Rattle.nv_calls.specs.Retiring.{record_of, with_records}
use Rattle.nv_cell.specs.declared.killed.KilledPart.{KilledPart}
use Rattle.nv_epoch.specs.Holders.{IsRising, holds, next_older, without}
use Rattle.nv_epoch.specs.SnapList.{Snapshots, after_making, after_pin, after_removal, after_unpin, ids, numbers, with_pins}
use Rattle.nv_epoch.specs.declared.snapshot.Snapshot.{Snapshot}
use Rattle.nv_epoch.proofs.Last.{IsRising-filter, IsRising-push, last_passes}
use Rattle.nv_machine.specs.Recorded.{with_parts}
use Rattle.nv_machine.proofs.FiledDrops.{makes, removes}
use Rattle.nv_machine.proofs.EachElement.{all_append}
use Rattle.nv_machine.proofs.FiledLists.{all_first, all_moved}

-- the living snapshots rise and are below the epoch; the manifests and the deferred list are told by the list; and what
-- is on it died by now
pub record IsListed (snaps : Snapshots) (manifests : List Manifest) (deferred rs : List Record) : Type 0 where
  pub rising : IsRising (ids snaps)
  pub below : All (λ s. s < snaps.epoch) (ids snaps)
  pub list : IsRecordList (ids snaps) manifests deferred rs
  pub dead : AllByRecursion (λ (r : Record). r.death ≤ snaps.epoch) rs

-- ---- retired

pub dead_more : (living : List ℕ) (epoch : ℕ) (r : Record) (rs : List Record) → r.death ≤ epoch
    → AllByRecursion (λ (x : Record). x.death ≤ epoch) rs
    → AllByRecursion (λ (x : Record). x.death ≤ epoch) (with_retired living r rs)
dead_more living epoch r rs le dead = go (is_none (holder_of living r)) where
  go : (b : Bool) → AllByRecursion (λ (x : Record). x.death ≤ epoch) (cond b rs (rs ++ r ∷ []))
  go true = dead
  go false = all_append (λ (x : Record). x.death ≤ epoch) rs (r ∷ []) dead (le, tt)

pub retired_listed : (ino epoch : ℕ) (killed : List KilledPart) (snaps : Snapshots) (ms : List Manifest) (ds rs : List Record)
    → epoch ≤ snaps.epoch → IsListed snaps ms ds rs
    → IsListed snaps (with_records (ids snaps) ino epoch killed ms) ds (with_parts (ids snaps) ino epoch killed rs)
retired_listed ino epoch [] snaps ms ds rs le h = h
retired_listed ino epoch (k ∷ killed) snaps ms ds rs le h =
    retired_listed ino epoch killed snaps _ ds (with_retired (ids snaps) (record_of ino epoch k) rs) le (record {
      rising = h.rising;
      below = h.below;
      list = listed-retired (ids snaps) ms ds rs (record_of ino epoch k) h.list;
      dead = dead_more (ids snaps) snaps.epoch (record_of ino epoch k) rs le h.dead;
    })

-- ---- made

numbers_push : (living : List Snapshot) (s : Snapshot) → numbers (living ++ s ∷ []) ≡ numbers living ++ s.number ∷ []
numbers_push living s = map-append (λ (t : Snapshot). t.number) living (s ∷ [])

pub ids_made : (snaps : Snapshots) → ids (after_making snaps) ≡ ids snaps ++ snaps.epoch ∷ []
ids_made snaps = numbers_push snaps.living (record { number = snaps.epoch; pins = 0 })

pub made_listed : (snaps : Snapshots) (ms : List Manifest) (ds rs : List Record) → IsListed snaps ms ds rs
    → IsListed (after_making snaps) (after_make snaps.epoch ms) ds rs
made_listed snaps ms ds rs h =
    let e = sym (ids_made snaps) in
    record {
      rising = subst IsRising e (IsRising-push (ids snaps) snaps.epoch h.rising h.below);
      below = subst (All (λ s. s < snaps.epoch + 1)) e (All-push (λ s. s < snaps.epoch + 1) (ids snaps) snaps.epoch
          (All-weaker (λ s. s < snaps.epoch) (λ s. s < snaps.epoch + 1) (λ s lt. omega (arith, lt)) (ids snaps) h.below) (omega arith));
      list = subst (λ (living : List ℕ). IsRecordList living (after_make snaps.epoch ms) ds rs) e
          (listed-made makes (ids snaps) snaps.epoch
          (λ birth death t q. All-contains (λ s. s < snaps.epoch) (ids snaps) t h.below
          (last_passes (holds birth death) (ids snaps) t q).0)
          ms ds rs h.dead h.list);
      dead = later rs h.dead;
    }
  where
    later : (rs : List Record) → AllByRecursion (λ (r : Record). r.death ≤ snaps.epoch) rs
        → AllByRecursion (λ (r : Record). r.death ≤ snaps.epoch + 1) rs
    later [] d = tt
    later (r ∷ rs) d = (omega (arith, d.0), later rs d.1)

-- ---- dropped

pub ids_removed : (living : List Snapshot) (s : ℕ)
    → numbers (filter (λ (t : Snapshot). not (t.number == s)) living) ≡ without s (numbers living)
ids_removed [] s = refl
ids_removed (t ∷ ts) s = go (t.number == s) (ids_removed ts s) where
  go : (b : Bool) → numbers (filter (λ (u : Snapshot). not (u.number == s)) ts) ≡ without s (numbers ts)
      → numbers (cond (not b) (t ∷ filter (λ (u : Snapshot). not (u.number == s)) ts)
      (filter (λ (u : Snapshot). not (u.number == s)) ts)) ≡ cond (not b) (t.number ∷ without s (numbers ts)) (without s (numbers ts))
  go true more = more
  go false more = ap (λ (ns : List ℕ). t.number ∷ ns) more

pub dropped_listed : (s : ℕ) (snaps : Snapshots) (ms : List Manifest) (ds rs : List Record) → Contains (ids snaps) s
    → IsListed snaps ms ds rs
    → IsListed (after_removal snaps s) (after_drop s (next_older (ids snaps) s) ms)
    (ds ++ let_go (next_older (ids snaps) s) (records_at s ms)) (with_moved s (ids snaps) rs)
dropped_listed s snaps ms ds rs lives h =
    let e = sym (ids_removed snaps.living s) in
    record {
      rising = subst IsRising e (IsRising-filter (λ t. not (t == s)) (ids snaps) h.rising);
      below = subst (All (λ t. t < snaps.epoch)) e (All-filter (λ t. not (t == s)) (λ t. t < snaps.epoch) (ids snaps) h.below);
      list = subst (λ (living : List ℕ). IsRecordList living (after_drop s (next_older (ids snaps) s) ms)
          (ds ++ let_go (next_older (ids snaps) s) (records_at s ms)) (with_moved s (ids snaps) rs)) e
          (listed-dropped (ids snaps) s (removes (ids snaps) s h.rising) rs ms ds lives h.list);
      dead = all_moved (λ (r : Record). r.death ≤ snaps.epoch) s (ids snaps) rs h.dead;
    }

-- ---- pinned and unpinned

pub ids_pinned : (living : List Snapshot) (s : ℕ) (change : ℕ → ℕ) → numbers (with_pins living s change) ≡ numbers living
ids_pinned [] s change = refl
ids_pinned (t ∷ ts) s change = go (t.number == s) (ids_pinned ts s change) where
  go : (b : Bool) → numbers (with_pins ts s change) ≡ numbers ts
      → (cond b (record t { pins = change t.pins }) t).number ∷ numbers (with_pins ts s change) ≡ t.number ∷ numbers ts
  go true more = ap (λ (ns : List ℕ). t.number ∷ ns) more
  go false more = ap (λ (ns : List ℕ). t.number ∷ ns) more

same_listed : (snaps : Snapshots) (living : List Snapshot) (ms : List Manifest) (ds rs : List Record) → numbers living ≡ ids snaps
    → IsListed snaps ms ds rs → IsListed (record snaps { living = living }) ms ds rs
same_listed snaps living ms ds rs e h = record {
  rising = subst IsRising (sym e) h.rising;
  below = subst (All (λ t. t < snaps.epoch)) (sym e) h.below;
  list = subst (λ (ns : List ℕ). IsRecordList ns ms ds rs) (sym e) h.list;
  dead = h.dead;
}

pub pinned_listed : (s : ℕ) (snaps : Snapshots) (ms : List Manifest) (ds rs : List Record) → IsListed snaps ms ds rs
    → IsListed (after_pin snaps s) ms ds rs
pinned_listed s snaps ms ds rs h =
    same_listed snaps _ ms ds rs (ids_pinned snaps.living s (λ pins. pins + 1)) h

pub unpinned_listed : (s : ℕ) (snaps : Snapshots) (ms : List Manifest) (ds rs : List Record) → IsListed snaps ms ds rs
    → IsListed (after_unpin snaps s) ms ds rs
unpinned_listed s snaps ms ds rs h =
    same_listed snaps _ ms ds rs (ids_pinned snaps.living s (λ pins. pins - 1)) h

-- ---- picked

pub picked_listed : (snaps : Snapshots) (ms : List Manifest) (ds rs : List Record) → IsListed snaps ms ds rs
    → IsListed snaps ms (drop 1 ds) (without_first (ids snaps) rs)
picked_listed snaps ms ds rs h = record {
  rising = h.rising;
  below = h.below;
  list = listed-picked (ids snaps) ms ds rs h.list;
  dead = all_first (λ (r : Record). r.death ≤ snaps.epoch) (ids snaps) rs h.dead;
}
