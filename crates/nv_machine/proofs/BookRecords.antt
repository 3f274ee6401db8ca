-- What holds of each record of a book, over the steps that change the book.
use Rattle.std.proofs.Common.{◌≡◌, ℕ, ◌==◌, Bool, true, false, not, cond, drop, List, [], ◌∷◌, ◌++◌, Option, Some, None, refl}
use Rattle.std.specs.List.{AllByRecursion}
use Rattle.nv_book.specs.Book.{BookState, after_drop_snapshot, after_make_snapshot}
use Rattle.nv_book.specs.Manifests.{manifests_without, put_to, records_at}
use Rattle.nv_book.specs.Records.{is_born_by, let_go, moved_down}
use Rattle.nv_book.specs.declared.manifest.Manifest.{Manifest}
use Rattle.nv_book.specs.declared.record.Record.{Record}
use Rattle.nv_calls.specs.Retiring.{keeper_of, record_of, with_records}
use Rattle.nv_cell.specs.declared.killed.KilledPart.{KilledPart}
use Rattle.nv_epoch.specs.Holders.{next_older}
use Rattle.nv_epoch.specs.SnapList.{ids}
use Rattle.nv_machine.specs.Kinds.{first_killed}
use Rattle.nv_machine.specs.Locks.{AllRecords}
use Rattle.nv_machine.specs.Reads.{slot_at, written_slots}
use Rattle.nv_machine.specs.Step.{kind_turn}
use Rattle.nv_machine.specs.World.{ReturnNumber, Drop, HandState, Make, Next, Number, Pick, Retire, Running, Shared, SnapshotOrCleanerStep, SnapshotOrCleaner, Turn}
use Rattle.nv_machine.proofs.EachElement.{all_append, all_filter}
use Rattle.nv_machine.proofs.StepWork.{work, snapshot_or_cleaner_work, by_number, by_back}
use Rattle.nv_machine.proofs.WorkKeeps.{AfterTurn, turn_keeps}

-- ---- manifests

module _ (P : Record → Type 0) where
  abbrev All : List Record → Type 0
  All rs = AllByRecursion P rs

  abbrev Each : List Manifest → Type 0
  Each ms = AllByRecursion (λ (m : Manifest). All m.records) ms

  put_each : (s : Option ℕ) (rs : List Record) (ms : List Manifest) → Each ms → All rs → Each (put_to s rs ms)
  put_each None rs [] h k = tt
  put_each None rs (m ∷ ms) h k = (h.0, put_each None rs ms h.1 k)
  put_each (Some s) rs [] h k = tt
  put_each (Some s) rs (m ∷ ms) h k = (go (m.snapshot == s), put_each (Some s) rs ms h.1 k) where
    go : (b : Bool) → All (cond b (record m { records = m.records ++ rs }) m).records
    go true = all_append P m.records rs h.0 k
    go false = h.0

  at_each : (s : ℕ) (ms : List Manifest) → Each ms → All (records_at s ms)
  at_each s [] h = tt
  at_each s (m ∷ ms) h = go (m.snapshot == s) (at_each s ms h.1) where
    go : (b : Bool) → All (records_at s ms) → All (cond b m.records (records_at s ms))
    go true more = h.0
    go false more = more

  pub retired_each : (living : List ℕ) (ino epoch : ℕ) (killed : List KilledPart) (ms : List Manifest)
      → ((k : KilledPart) → P (record_of ino epoch k)) → Each ms → Each (with_records living ino epoch killed ms)
  retired_each living ino epoch [] ms new h = h
  retired_each living ino epoch (k ∷ later) ms new h =
      retired_each living ino epoch later (put_to (keeper_of living ino epoch k) (record_of ino epoch k ∷ []) ms) new
      (put_each (keeper_of living ino epoch k) (record_of ino epoch k ∷ []) ms h (new k, tt))

  pub made_all : (b : BookState) → AllRecords P b → AllRecords P (after_make_snapshot b)
  made_all b h = record {
    filed = all_append (λ (m : Manifest). All m.records) b.manifests _ h.filed (tt, tt);
    deferred = h.deferred;
  }

  pub dropped_all : (s : ℕ) (b : BookState) → AllRecords P b → AllRecords P (after_drop_snapshot s b)
  dropped_all s b h =
      let older = next_older (ids b.snaps) s in
      let own = at_each s b.manifests h.filed in
      record {
        filed = put_each older (moved_down older (records_at s b.manifests)) (manifests_without s b.manifests)
            (all_filter (λ (m : Manifest). All m.records) (λ (m : Manifest). not (m.snapshot == s)) b.manifests h.filed)
            (all_filter P (λ r. is_born_by older r) (records_at s b.manifests) own);
        deferred = all_append P b.deferred (let_go older (records_at s b.manifests)) h.deferred
            (all_filter P (λ r. not (is_born_by older r)) (records_at s b.manifests) own);
      }

  -- ---- turns

  abbrev pub OnRecords : Turn → Type 0
  OnRecords turn = AfterTurn (λ (t : Shared) (h : HandState). AllRecords P t.book) turn

  rest_of : (deferred : List Record) → AllByRecursion P deferred → AllByRecursion P (drop 1 deferred)
  rest_of [] h = tt
  rest_of (d ∷ deferred) h = h.1

  snapshot_all : (step : SnapshotOrCleanerStep) (actor : ℕ) (s : Shared) (h : HandState) → AllRecords P s.book
      → AllRecords P (snapshot_or_cleaner_work step actor s h).shared.book
  snapshot_all Make actor s h are = made_all s.book are
  snapshot_all (Drop snapshot) actor s h are = dropped_all snapshot s.book are
  snapshot_all (Pick draining) actor s h are = record { filed = are.filed; deferred = rest_of s.book.deferred are.deferred }
  snapshot_all other actor s h are = record { filed = are.filed; deferred = are.deferred }

  work_all : (k : Next) (block actor : ℕ) (s : Shared) (h : HandState) (r : Running)
      → ((place : ℕ) → k ≡ Retire place → (killed : KilledPart) → P (record_of (slot_at (written_slots r) place) r.epoch killed))
      → AllRecords P s.book → AllRecords P (work k block actor s h r).shared.book
  work_all Number block actor s h r new are =
      by_number (λ (t : Shared) (g : HandState). AllRecords P t.book) s h (λ numbers ino. are)
  work_all ReturnNumber block actor s h r new are =
      by_back (λ (t : Shared) (g : HandState). AllRecords P t.book) s h (λ numbers ino. are)
  work_all (Retire place) block actor s h r new are = record {
    filed = retired_each (ids s.book.snaps) (slot_at (written_slots r) place) r.epoch (first_killed h.killed) s.book.manifests
        (new place refl) are.filed;
    deferred = are.deferred;
  }
  work_all (SnapshotOrCleaner step) block actor s h r new are = snapshot_all step actor s h are
  work_all other block actor s h r new are = record { filed = are.filed; deferred = are.deferred }

  -- each record is as before a step, or one that a retire step makes
  pub records_all : (k : Next) (block actor : ℕ) (granted : Bool) (s : Shared) (h : HandState) (r : Running)
      → ((place : ℕ) → k ≡ Retire place → (killed : KilledPart) → P (record_of (slot_at (written_slots r) place) r.epoch killed))
      → AllRecords P s.book → OnRecords (kind_turn k block actor granted s h r)
  records_all k block actor granted s h r new are =
      turn_keeps (λ (t : Shared) (g : HandState). AllRecords P t.book) k block actor granted s h r are
      (work_all k block actor s h r new are)
