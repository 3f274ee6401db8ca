-- Generations stay in their range, and a slot of the last one has no page.
use Rattle.std.proofs.Common.{◌≡◌, ℕ, ◌<◌, ◌≤◌, ◌∙◌, Bool, true, false, cond, List, [], ◌∷◌, ap, arith, length, refl, subst, sym, take}
use Rattle.std.proofs.lemmas.Bool.{false≢true}
use Rattle.nv_audit.specs.DeviceParts.{IsInRange}
use Rattle.nv_alloc.specs.Block.{BlockValue}
use Rattle.nv_base.specs.declared.geometry.GeometryNumbers.{GeometryNumbers}
use Rattle.nv_base.specs.declared.limits.TheConstants.{NUMBER}
use Rattle.nv_book.specs.declared.record.Record.{Record}
use Rattle.nv_calls.proofs.Next.{emptied}
use Rattle.nv_calls.specs.Retiring.{erased}
use Rattle.nv_cell.proofs.Removing.{fresh_within}
use Rattle.nv_cell.specs.Cell.{CellState}
use Rattle.nv_cell.specs.Readers.{is_erased}
use Rattle.nv_clean.specs.Plans.{entries_staying, pages_staying}
use Rattle.nv_log.specs.Chain.{ChainState, left_of}
use Rattle.nv_machine.proofs.CellChanges.{cells_after, clean_cell, clean_slot, is_clean, removal, slots_stay}
use Rattle.nv_machine.proofs.Cleanable.{IsCleanable, cleanable}
use Rattle.nv_machine.proofs.CleanedLogs.{clean_like}
use Rattle.nv_machine.proofs.EveryWorld.{all_known}
use Rattle.nv_machine.proofs.FitsCells.{append_wider}
use Rattle.nv_machine.proofs.FitsEvents.{IsKnown}
use Rattle.nv_machine.proofs.Generations.{AreEarly, IsEarly, all_early, checked_early}
use Rattle.nv_machine.proofs.Lists.{has_filter}
use Rattle.nv_machine.proofs.OverEvents.{event_shared, events_by}
use Rattle.nv_machine.proofs.PoolCells.{IsLike, erased_gone, gone_inode, keeps_like}
use Rattle.nv_machine.proofs.PoolRuns.{standing}
use Rattle.nv_machine.proofs.PoolTurns.{Standing}
use Rattle.nv_machine.proofs.StepWork.{work}
use Rattle.nv_machine.proofs.WorkKeeps.{turn_keeps}
use Rattle.nv_machine.proofs.WrittenSlots.{written_there}
use Rattle.nv_machine.specs.FitsNow.{is_checked}
use Rattle.nv_machine.specs.Kinds.{entries_for}
use Rattle.nv_machine.specs.Reads.{is_written, pages_needed, slot_at, written_slots}
use Rattle.nv_machine.specs.Starts.{IsStart}
use Rattle.nv_machine.specs.Step.{after, step}
use Rattle.nv_machine.specs.World.{Compact, Event, HandState, SnapshotOrCleaner, Next, Running, Shared, Unlink, World, actor_at, cell_at}
use Rattle.nv_restart.specs.Stops.{AreInRange}

-- ---- one cell

-- an inode is erased that was there, so that its generation was not the last
erased_range : (cell : CellState) → IsEarly cell → IsInRange cell → IsInRange (erased cell)
erased_range cell early is = go (is_erased cell) refl where
  go : (b : Bool) → is_erased cell ≡ b → IsInRange (cond b (emptied cell) cell)
  go true e =
      let low = early (gone_inode cell (erased_gone cell e)) in
      record { some = omega arith; most = omega (arith, low); last = λ same. refl }
  go false e = is

-- a cell of the same generation and pages
same_range : (old new : CellState) → new.generation ≡ old.generation
    → new.chain ≡ old.chain → IsInRange old → IsInRange new
same_range old new generation chain is =
    let some = is.some in
    let most = is.most in
    record {
      some = omega (arith, generation, some);
      most = omega (arith, generation, most);
      last = λ same. ap (λ (c : ChainState). c.blocks) chain ∙ is.last (sym generation ∙ same);
    }

-- ---- pages that a cleaning leaves

none_left : (flags : List Bool) → left_of {X = BlockValue} flags [] ≡ []
none_left [] = refl
none_left (b ∷ flags) = refl

none_long : (xs : List BlockValue) → length xs ≤ 0 → xs ≡ []
none_long [] le = refl
none_long (x ∷ xs) le = absurd (omega (arith, le))

-- no page where there was none: none is taken that no entry needs
clean_pages : (k : Next) (block : ℕ) (s : Shared) (h : HandState) (r : Running) → is_clean k ≡ true
    → clean_slot k < length s.cells → IsCleanable k block s h r
    → (cell_at s (clean_slot k)).chain.blocks ≡ [] → (clean_cell k s h).chain.blocks ≡ []
clean_pages (SnapshotOrCleaner (Unlink ino)) block s h r is low ready none =
    let stays = pages_staying (cell_at s ino) in
    ap (λ (l : List BlockValue). left_of stays l) none ∙ none_left stays
clean_pages (SnapshotOrCleaner (Compact ino)) block s h r is low ready none =
    let cell = cell_at s ino in
    let chain = (ready.cells ino low).chain in
    let few = fresh_within (entries_staying cell) h.pages cell.chain chain ready.pages in
    let paged = chain.paged in
    let bare = ap (λ (l : List BlockValue). length l) none in
    none_long h.pages (omega (arith, few, paged, bare))
clean_pages other block s h r is low ready none = absurd (false≢true is)

-- ---- one step

module _ (g : GeometryNumbers) (block a : ℕ) (s : Shared) (h : HandState) (r : Running)
    (early : AreEarly s) (are : AreInRange s) where
  -- a cell with entries, of a slot that a call writes
  wider_range : (old new : CellState) → new.generation ≡ old.generation → old.generation < NUMBER
      → IsInRange old → IsInRange new
  wider_range old new generation low is =
      let some = is.some in
      record {
        some = omega (arith, generation, some);
        most = omega (arith, generation, low);
        last = λ same. absurd (omega (arith, generation, low, same));
      }

  like_early : (old new : CellState) → IsLike old new → IsEarly old → IsEarly new
  like_early old new like own there =
      subst (λ (n : ℕ). n < NUMBER) (sym like.generation) (own (sym like.inode ∙ there))

  work_range : (k : Next) → Standing g k a s h r → IsCleanable k block s h r
      → AreInRange (work k block a s h r).shared
  work_range k st ready ino lt =
      cells_after (λ (n : ℕ) (c : CellState). n < length s.cells → IsInRange c) block a s h r are k
      st.before
      (record {
        appends = λ place is inside low there.
            let slot = slot_at (written_slots r) place in
            let wider =
            append_wider (entries_for r slot) h.blocks
            (take (pages_needed s r.plan slot) h.pages) (cell_at s slot) in
            wider_range (cell_at s slot) _ wider.generation
            (checked_early g block a s h r early k (ap is_checked is) st slot
            (has_filter (is_written r.plan) r.slots slot (written_there r place inside)))
            (are slot low);
        publishes = λ place is inside low there.
            let old = are (slot_at (written_slots r) place) low in
            record { some = old.some; most = old.most; last = old.last };
        removes = λ is low left there.
            let x = removal k s h r in
            erased_range x.cell
            (like_early (cell_at s x.slot) x.cell (keeps_like (cell_at s x.slot) x.cell left.keeps)
            (early x.slot))
            (same_range (cell_at s x.slot) x.cell left.keeps.generation left.keeps.chain
            (are x.slot low));
        cleans = λ is low there.
            let slot = clean_slot k in
            let old = are slot low in
            let some = old.some in
            let most = old.most in
            let generation =
            (clean_like k block a s h r is st.before st.grown ready).generation in
            record {
              some = omega (arith, generation, some);
              most = omega (arith, generation, most);
              last = λ same.
                  clean_pages k block s h r is low ready (old.last (sym generation ∙ same));
            };
      }) ino (let n = slots_stay k block a s h r in omega (arith, lt, n))

-- ---- all events

-- what is known of each world
record IsKnownEarly (g : GeometryNumbers) (w : World) : Type 0 where
  known : IsKnown g w
  early : AreEarly w.shared

event_range : (g : GeometryNumbers) (w : World) (e : Event) → IsKnownEarly g w
    → AreInRange w.shared → AreInRange (step w e).world.shared
event_range g w e is are = event_shared AreInRange w are e (λ actor granted r there runs.
    let known = is.known in
    let h = (actor_at w actor).hand in
    turn_keeps (λ (s : Shared) (x : HandState). AreInRange s) r.next w.numbers.block actor granted
    w.shared h r are
    (work_range g w.numbers.block actor w.shared h r is.early are r.next
    (standing g w actor r known.reached.locks known.numbers known.reached.grown known.pooled runs)
    (cleanable w actor r known.reached.apart.cleanable runs)))

pub all_in_range : (g : GeometryNumbers) (start : World) (records : List Record)
    (events : List Event) → IsStart g start records → AreInRange start.shared
    → AreInRange (after start events).shared
all_in_range g start records events is_start are =
    events_by (IsKnownEarly g) (λ (v : World). AreInRange v.shared) (event_range g) events start
    (λ before. record {
      known = all_known g start records is_start before;
      early = all_early g start records before is_start;
    }) are
