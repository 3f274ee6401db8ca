-- A slot that has an inode is not of the last generation, and neither is one that a call writes: a number that is
-- withheld is in no hand, and a slot has no inode until it is written by the call that has its number.
use Rattle.std.proofs.Common.{◌≡◌, inl, inr, ℕ, ◌<◌, ◌≤◌, ◌∙◌, Bool, true, false, List, [], ◌∷◌, Option, Some, None, ap, arith, if◌then◌else◌, length, nat_lt, refl, subst, sym, take}
use Rattle.std.specs.List.{flat_map}
use Rattle.std.proofs.lemmas.Bool.{false≢true, leb-false}
use Rattle.std.proofs.lemmas.Option.{none-some}
use Rattle.nv_alloc.specs.Numbers.{has}
use Rattle.nv_alloc.proofs.Lists.{times-yes}
use Rattle.nv_base.specs.declared.geometry.GeometryNumbers.{GeometryNumbers}
use Rattle.nv_base.specs.declared.limits.TheConstants.{NUMBER}
use Rattle.nv_calls.proofs.Next.{by_erased}
use Rattle.nv_cell.specs.Cell.{CellState}
use Rattle.nv_machine.specs.FitsNow.{is_checked}
use Rattle.nv_machine.specs.Format.{formatted}
use Rattle.nv_machine.specs.Hands.{HandOf}
use Rattle.nv_machine.specs.Kinds.{entries_for}
use Rattle.nv_cell.specs.Readers.{has_inode}
use Rattle.nv_machine.specs.Reads.{is_written, pages_needed, slot_at, written_slots}
use Rattle.nv_machine.specs.Starts.{IsStart}
use Rattle.nv_machine.specs.Step.{after, step}
use Rattle.nv_machine.specs.World.{Append, Close, Enter, Event, HandState, Next, Open, Publish, Ready, Running, Shared, TakeBlocks, TakeLogPages, World, actor_at, cell_at}
use Rattle.nv_machine.proofs.EveryWorld.{all_known, all_pooled}
use Rattle.nv_machine.proofs.NewWorld.{each_cell}
use Rattle.nv_machine.proofs.FromScratch.{counted}
use Rattle.nv_machine.proofs.StepWork.{work}
use Rattle.nv_machine.proofs.OverEvents.{event_shared, events_by}
use Rattle.nv_machine.proofs.FitsEvents.{IsKnown}
use Rattle.nv_machine.proofs.WorkKeeps.{turn_keeps}
use Rattle.nv_machine.proofs.Lists.{has_filter, self}
use Rattle.nv_machine.proofs.PoolCells.{IsLike, appended_like, no_inode, keeps_like}
use Rattle.nv_machine.proofs.PoolCommits.{begun_inode}
use Rattle.nv_machine.proofs.PoolKnown.{HaveInodes}
use Rattle.nv_machine.proofs.PoolRuns.{ArePooled, standing}
use Rattle.nv_machine.proofs.PoolTally.{is_begun, loose, loose_by, tally}
use Rattle.nv_machine.proofs.PoolTurns.{Standing}
use Rattle.nv_machine.proofs.WrittenSlots.{written_there}
use Rattle.nv_book.specs.declared.record.Record.{Record}
use Rattle.nv_machine.proofs.CellChanges.{cells_after, clean_cell, clean_slot, removal}
use Rattle.nv_machine.proofs.Cleanable.{IsCleanable, cleanable}
use Rattle.nv_machine.proofs.CleanedLogs.{clean_like}

-- a cell that has an inode is not of the last generation
abbrev pub IsEarly : CellState → Type 0
IsEarly cell = has_inode cell ≡ true → cell.generation < NUMBER

abbrev pub AreEarly : Shared → Type 0
AreEarly s = (ino : ℕ) → IsEarly (cell_at s ino)

like_early : (old new : CellState) → IsLike old new → IsEarly old → IsEarly new
like_early old new like early there =
    subst (λ (n : ℕ). n < NUMBER) (sym like.generation) (early (sym like.inode ∙ there))

-- ---- the slots of a call

module _ (g : GeometryNumbers) (block a : ℕ) (s : Shared) (h : HandState) (r : Running) (early : AreEarly s) where
  abbrev written : List ℕ
  written = written_slots r

  -- that of the number in the hand is not withheld, also where its inode has begun
  pub number_early : (k : Next) → Standing g k a s h r → (ino : ℕ) → h.ino ≡ Some ino → (cell_at s ino).generation < NUMBER
  number_early k st ino is = go (is_begun k written ino) refl where
    go : (b : Bool) → is_begun k written ino ≡ b → (cell_at s ino).generation < NUMBER
    go true q = early ino (begun_inode g block a s h r k st ino q)
    go false q =
        let one : loose k written (Some ino) ≡ ino ∷ [] = rw q refl in
        let few : tally ino s (ino ∷ []) ≤ 1 =
        subst (λ (l : List ℕ). tally ino s l ≤ 1) (ap (loose k written) is ∙ one) (st.few ino) in
        leb-false NUMBER (cell_at s ino).generation
        (no_inode (cell_at s ino) (let once = times-yes ino ino [] (self ino) in omega (arith, few, once))).1

  inode_early : (k : Next) → Standing g k a s h r → HaveInodes s h.ino r.slots → (ino : ℕ) → has r.slots ino ≡ true
      → (cell_at s ino).generation < NUMBER
  inode_early k st have ino there = elim (have ino there) [
    | inl is ↦ number_early k st ino is
    | inr inode ↦ early ino inode
  ]

  -- from the check to the commit point
  pub checked_early : (k : Next) → is_checked k ≡ true → Standing g k a s h r → (ino : ℕ) → has r.slots ino ≡ true
      → (cell_at s ino).generation < NUMBER
  checked_early (TakeBlocks asked) e st = inode_early (TakeBlocks asked) st st.sees.0
  checked_early (TakeLogPages asked) e st = inode_early (TakeLogPages asked) st st.sees.0
  checked_early Ready e st = inode_early Ready st st.sees.0
  checked_early Enter e st = inode_early Enter st st.sees.0
  checked_early (Append place) e st = inode_early (Append place) st st.sees.0
  checked_early Open e st = inode_early Open st st.sees.0
  checked_early (Publish place) e st = inode_early (Publish place) st st.sees.0
  checked_early Close e st = inode_early Close st st.sees.0
  checked_early other e st = cc

  -- ---- what a step leaves

  work_early : (k : Next) → Standing g k a s h r → IsCleanable k block s h r → AreEarly (work k block a s h r).shared
  work_early k st ready = cells_after (λ (ino : ℕ). IsEarly) block a s h r early k st.before (record {
    appends = λ place is inside low.
        let slot = slot_at written place in
        like_early (cell_at s slot) _ (appended_like (entries_for r slot) h.blocks (take (pages_needed s r.plan slot) h.pages)
        (cell_at s slot) (st.within slot)) (early slot);
    publishes = λ place is inside low some.
        let slot = slot_at written place in
        checked_early k (ap is_checked is) st slot (has_filter (is_written r.plan) r.slots slot (written_there r place inside));
    removes = λ is low left.
        let x = removal k s h r in
        by_erased IsEarly x.cell (like_early (cell_at s x.slot) x.cell (keeps_like (cell_at s x.slot) x.cell left.keeps) (early x.slot))
        (λ there. absurd (false≢true there));
    cleans = λ is low.
        let slot = clean_slot k in
        like_early (cell_at s slot) (clean_cell k s h) (clean_like k block a s h r is st.before st.grown ready) (early slot);
  })

-- ---- events

event_early : (g : GeometryNumbers) (w : World) (e : Event) → IsKnown g w → AreEarly w.shared → AreEarly (step w e).world.shared
event_early g w e known early = event_shared AreEarly w early e (λ actor granted r there is.
    let h = (actor_at w actor).hand in
    turn_keeps (λ (s : Shared) (h : HandState). AreEarly s) r.next w.numbers.block actor granted w.shared h r early
    (work_early g w.numbers.block actor w.shared h r early r.next
    (standing g w actor r known.reached.locks known.numbers known.reached.grown known.pooled is)
    (cleanable w actor r known.reached.apart.cleanable is)))

module _ (g : GeometryNumbers) (w : World) (known : IsKnown g w) (early : AreEarly w.shared) (actor : ℕ) where
  -- the slots of a call that has passed its check
  pub slots_early : (r : Running) → (actor_at w actor).running ≡ Some r → is_checked r.next ≡ true
      → (ino : ℕ) → has r.slots ino ≡ true → (cell_at w.shared ino).generation < NUMBER
  slots_early r is e =
      checked_early g w.numbers.block actor w.shared (actor_at w actor).hand r early r.next e
      (standing g w actor r known.reached.locks known.numbers known.reached.grown known.pooled is)

  -- the slot of the number in a hand
  pub held_early : (running : Option Running) → (actor_at w actor).running ≡ running → (ino : ℕ) → (actor_at w actor).hand.ino ≡ Some ino
      → (cell_at w.shared ino).generation < NUMBER
  held_early None is ino has_it =
      let empty : HandOf g (actor_at w actor).hand None = subst (λ (o : Option Running). HandOf g (actor_at w actor).hand o) is
      (known.numbers.hands actor) in
      absurd (none-some ino (sym (ap (λ (x : HandState). x.ino) empty) ∙ has_it))
  held_early (Some r) is ino has_it =
      number_early g w.numbers.block actor w.shared (actor_at w actor).hand r early r.next
      (standing g w actor r known.reached.locks known.numbers known.reached.grown known.pooled is) ino has_it

-- those whose numbers are in the pool
pub pool_early : (g : GeometryNumbers) (w : World) → ArePooled g w → (ino : ℕ) → has w.shared.pool.numbers ino ≡ true
    → (cell_at w.shared ino).generation < NUMBER
pool_early g w pooled ino there = go (nat_lt ino g.inodes) (pooled.once ino) where
  early_if : tally ino w.shared (flat_map loose_by w.actors) ≤ 1 → (cell_at w.shared ino).generation < NUMBER
  early_if few = leb-false NUMBER (cell_at w.shared ino).generation
      (no_inode (cell_at w.shared ino) (let some = counted ino w.shared.pool.numbers there in omega (arith, few, some))).1

  go : (b : Bool) → tally ino w.shared (flat_map loose_by w.actors) ≡ (if b then 1 else 0) → (cell_at w.shared ino).generation < NUMBER
  go true e = early_if (omega (arith, e))
  go false e = early_if (omega (arith, e))

-- ---- a new world

pub new_early : (g : GeometryNumbers) → AreEarly (formatted g).shared
new_early g = each_cell g IsEarly (λ there. omega arith) (λ block page generation there. absurd (false≢true there))

-- ---- every world

pub all_early : (g : GeometryNumbers) (start : World) (records : List Record) (events : List Event) → IsStart g start records
    → AreEarly (after start events).shared
all_early g start records events is_start =
    events_by (IsKnown g) (λ (v : World). AreEarly v.shared) (λ v e known early. event_early g v e known early) events start
    (all_known g start records is_start) is_start.early

pub inodes_early : (g : GeometryNumbers) (start : World) (records : List Record) (events : List Event) (ino : ℕ) → IsStart g start records
    → has_inode (cell_at (after start events).shared ino) ≡ true
    → (cell_at (after start events).shared ino).generation < NUMBER
inodes_early g start records events ino is_start = all_early g start records events is_start ino

pub numbers_early : (g : GeometryNumbers) (start : World) (records : List Record) (events : List Event) (ino : ℕ) → IsStart g start records
    → has (after start events).shared.pool.numbers ino ≡ true
    → (cell_at (after start events).shared ino).generation < NUMBER
numbers_early g start records events ino is_start = pool_early g (after start events) (all_pooled g start records events is_start) ino

pub hands_early : (g : GeometryNumbers) (start : World) (records : List Record) (events : List Event) (actor ino : ℕ)
    → IsStart g start records
    → (actor_at (after start events) actor).hand.ino ≡ Some ino
    → (cell_at (after start events).shared ino).generation < NUMBER
hands_early g start records events actor ino is_start =
    held_early g (after start events) (all_known g start records is_start events) (all_early g start records events is_start) actor
    (actor_at (after start events) actor).running refl ino

pub calls_early : (g : GeometryNumbers) (start : World) (records : List Record) (events : List Event) (actor ino : ℕ)
    (r : Running) → IsStart g start records
    → (actor_at (after start events) actor).running ≡ Some r → is_checked r.next ≡ true → has r.slots ino ≡ true
    → (cell_at (after start events).shared ino).generation < NUMBER
calls_early g start records events actor ino r is_start is e there =
    slots_early g (after start events) (all_known g start records is_start events) (all_early g start records events is_start) actor
    r is e ino there

-- each of the slots that it writes is one of them
pub writes_early : (g : GeometryNumbers) (start : World) (records : List Record) (events : List Event) (actor place : ℕ)
    (r : Running) → IsStart g start records
    → (actor_at (after start events) actor).running ≡ Some r → is_checked r.next ≡ true → place < length (written_slots r)
    → (cell_at (after start events).shared (slot_at (written_slots r) place)).generation < NUMBER
writes_early g start records events actor place r is_start is e lt =
    let slot = slot_at (written_slots r) place in
    calls_early g start records events actor slot r is_start is e (has_filter (is_written r.plan) r.slots slot (written_there r place lt))
