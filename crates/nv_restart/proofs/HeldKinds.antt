-- WHAT A LIVING SNAPSHOT HOLDS PAIRS OF IS LAWFUL FROM NOTHING ON, whatever events come: it holds
-- the kind too, which a cleaning keeps and a making finds, and a commit is of a later epoch.
use Rattle.std.proofs.Common.{◌≡◌, ℕ, ◌+◌, ◌<◌, ◌≤◌, ◌++◌, ◌∙◌, inl, inr, Bool, true, false, cond, List, [], ◌∷◌, length, Option, Some, None, IsSome, is_some, ap, arith, refl, subst, sym, take}
use Rattle.std.specs.Prelude.{slice_get, slice_index_or}
use Rattle.std.specs.List.{Contains}
use Rattle.std.specs.Option.{option_or}
use Rattle.std.proofs.lemmas.Bool.{cases_lt, false≢true, ne_eqb}
use Rattle.nv_base.specs.declared.geometry.GeometryNumbers.{GeometryNumbers}
use Rattle.nv_base.specs.declared.node.Kind.{Kind}
use Rattle.nv_book.specs.declared.record.Record.{Record}
use Rattle.nv_calls.proofs.Next.{by_erased}
use Rattle.nv_calls.specs.Refusals.{kind_of}
use Rattle.nv_cell.proofs.Numbers.{total_append}
use Rattle.nv_cell.proofs.ValuesNow.{IsLog-take}
use Rattle.nv_cell.specs.Cell.{CellState, log_of}
use Rattle.nv_cell.specs.Cleaned.{IsSameAt, was_number}
use Rattle.nv_cell.specs.Shape.{IsLeftShaped}
use Rattle.nv_entry.specs.Covered.{part_total}
use Rattle.nv_entry.specs.Held.{Retention, holds}
use Rattle.nv_entry.specs.Log.{IsLog, pairs, up_to}
use Rattle.nv_entry.specs.Node.{node_now}
use Rattle.nv_entry.specs.Shape.{AreLawful, IsShaped, items_of}
use Rattle.nv_entry.specs.declared.held.Pair.{Pair}
use Rattle.nv_entry.specs.declared.item.Entry.{Entry}
use Rattle.nv_epoch.proofs.Pins.{lives-from_pins, pins_at-lives, pins_at-push}
use Rattle.nv_epoch.specs.SnapList.{Snapshots, after_making, ids, pins_at}
use Rattle.nv_journal.specs.Journal.{settled_tail}
use Rattle.nv_journal.specs.declared.old_tail.OldTail.{OldTail}
use Rattle.nv_log.specs.Chain.{ChainState}
use Rattle.nv_machine.proofs.AppendsToCome.{entries_more, pages_keep}
use Rattle.nv_machine.proofs.CellChanges.{cells_after, clean_cell, clean_slot, is_clean, removal}
use Rattle.nv_machine.proofs.Cleanable.{cleanable}
use Rattle.nv_machine.proofs.CleanSteps.{cleans_by, stays_at}
use Rattle.nv_machine.proofs.CleanedCells.{Cleans, new_log, old_log}
use Rattle.nv_machine.proofs.CleanedLogs.{cleans_held}
use Rattle.nv_machine.proofs.CopiesAll.{after_one}
use Rattle.nv_machine.proofs.CopiesKept.{work_lives}
use Rattle.nv_machine.proofs.CopyMade.{all_front, all_up, event_leaves, is_make}
use Rattle.nv_machine.proofs.CopyMarks.{lives_then}
use Rattle.nv_machine.proofs.CopyRuns.{earlier, own_later, settled_says}
use Rattle.nv_machine.proofs.CopySteps.{entries_later}
use Rattle.nv_machine.proofs.EachElement.{all_at, all_weaker}
use Rattle.nv_machine.proofs.EpochCleanings.{held_uncovered}
use Rattle.nv_machine.proofs.EpochLogs.{log_at, splits, up_to_within}
use Rattle.nv_machine.proofs.EveryWorld.{all_known, reached}
use Rattle.nv_machine.proofs.FitsEvents.{IsKnown}
use Rattle.nv_machine.proofs.LocksOverEvents.{before}
use Rattle.nv_machine.proofs.MarksInUse.{slot_marks}
use Rattle.nv_machine.proofs.OverEvents.{event_shared, events_by}
use Rattle.nv_machine.proofs.Pairs.{pair_there}
use Rattle.nv_machine.proofs.ShapeEvents.{all_shaped}
use Rattle.nv_machine.proofs.Shapes.{kind_now, kinds_after}
use Rattle.nv_machine.proofs.SnapRuns.{all_bare, in_step}
use Rattle.nv_machine.proofs.SnapSteps.{AreBare, event_snaps, snaps_after}
use Rattle.nv_machine.proofs.SnapshotCopies.{AreBefore, Lives}
use Rattle.nv_machine.proofs.StepWork.{work}
use Rattle.nv_machine.proofs.WorkKeeps.{turn_keeps}
use Rattle.nv_machine.specs.Grown.{HasGrown, HasGrownBy}
use Rattle.nv_machine.specs.Held.{retention_at}
use Rattle.nv_machine.specs.Kinds.{entries_for, with_log_pages}
use Rattle.nv_machine.specs.Locks.{commits_at}
use Rattle.nv_machine.specs.PlainRun.{PlainChange, Maintains, plain_change_of}
use Rattle.nv_machine.specs.Reached.{IsReached}
use Rattle.nv_machine.specs.Reads.{pages_needed, slot_at, written_slots}
use Rattle.nv_machine.specs.Settled.{settled}
use Rattle.nv_machine.specs.Shapes.{AreShaped}
use Rattle.nv_machine.specs.Starts.{IsStart}
use Rattle.nv_machine.specs.Step.{after, step}
use Rattle.nv_machine.specs.World.{Event, HandState, Make, Running, Shared, World, actor_at, cell_at, no_cell}
use Rattle.nv_restart.proofs.KindsOfLogs.{KeepsKind, any_held, front_keeps, held_by_one, left_keeps, some_held, told_lawful}
use Rattle.nv_restart.specs.Stops.{AreHeldLawful}

-- of what an epoch's log has and has not covered it has the kind, in each slot
abbrev HasKinds : ℕ → ℕ → Shared → Type 0
HasKinds block epoch s = (ino : ℕ) → KeepsKind block (log_at epoch (cell_at s ino))

-- ---- a cleaning

module _ (epoch : ℕ) (by : Retention) (flags : List Bool) (old new : CellState)
    (c : Cleans by flags old new) (lives : Contains by.snapshots epoch)
    (is_old : IsLog old.chain.entries) where
  abbrev entries : List Entry
  entries = new.chain.entries

  new_is : log_of new ≡ new.chain.entries
  new_is = new_log by flags old new c

  old_is : log_of old ≡ old.chain.entries
  old_is = old_log by flags old new c

  is_new : IsLog new.chain.entries
  is_new = c.chain.rising

  none : ℕ → List ℕ
  none number = []

  -- the items of the epoch's log give the kind that they gave
  same_kind : kinds_after (items_of (log_at epoch new)) None
      ≡ kinds_after (items_of (log_at epoch old)) None
  same_kind =
      sym (kind_now none new.block (log_at epoch new))
      ∙ ap (λ (l : List Entry). kind_of (node_now none new.block (up_to epoch l))) (sym new_is)
      ∙ ap kind_of (all_at (IsSameAt old new) by.snapshots epoch c.nodes.held lives none)
      ∙ ap (λ (l : List Entry). kind_of (node_now none old.block (up_to epoch l))) old_is
      ∙ kind_now none old.block (log_at epoch old)

  within : (n : ℕ) → n < part_total (log_at epoch new) → n < part_total new.chain.entries
  within n lt =
      let s = splits epoch new.chain.entries is_new in
      omega (arith, lt, ap part_total (sym s.is), total_append (log_at epoch new) s.rest)

  pub cleaned_keeps : KeepsKind old.block (log_at epoch old)
      → KeepsKind new.block (log_at epoch new)
  cleaned_keeps keep n lt uncovered =
      go (slice_get (pairs new.block new.chain.entries) n) refl
      (pair_there new.block new.chain.entries n is_new (within n lt))
    where
      by_pair : (pair : Pair) → slice_get (pairs new.block new.chain.entries) n ≡ Some pair
          → is_some (kinds_after (items_of (log_at epoch new)) None) ≡ true
      by_pair pair got =
          let holding =
          lives_then epoch new.block new.chain.entries is_new n lt uncovered pair got in
          let was = c.records.pairs n pair
          (ap (λ (l : List Entry). slice_get (pairs new.block l) n) new_is ∙ got) in
          let held : holds epoch was.old ≡ true =
          sym (all_at (λ s. holds s pair ≡ holds s was.old) by.snapshots epoch was.holders lives)
          ∙ holding in
          let s = splits epoch old.chain.entries is_old in
          let part =
          held_uncovered old.block epoch (log_at epoch old) s.rest (was_number flags old n) was.old
          (up_to_within epoch old.chain.entries) s.later
          (ap (λ (l : List Entry). slice_get (pairs old.block l) (was_number flags old n))
          (s.is ∙ sym old_is) ∙ was.is)
          held in
          ap (λ (o : Option Kind). is_some o) same_kind
          ∙ keep (was_number flags old n) part.low part.uncovered

      go : (o : Option Pair) → slice_get (pairs new.block new.chain.entries) n ≡ o → IsSome o
          → is_some (kinds_after (items_of (log_at epoch new)) None) ≡ true
      go None e there = absurd (false≢true there)
      go (Some pair) e there = by_pair pair e

-- ---- one step, for a snapshot that lives before it

module _ (g : GeometryNumbers) (w : World) (known : IsKnown g w) (epoch : ℕ)
    (lives : Contains (ids w.shared.book.snaps) epoch) (past : epoch < w.shared.book.snaps.epoch)
    (keep : HasKinds g.block epoch w.shared) where
  abbrev s : Shared
  s = w.shared

  size : (ino : ℕ) → ino < length s.cells → (cell_at s ino).block ≡ g.block
  size ino lt =
      known.fit.sizes ino lt ∙ ap (λ (n : GeometryNumbers). n.block) known.numbers.numbers

  module _ (actor : ℕ) (r : Running) (runs : (actor_at w actor).running ≡ Some r) where
    abbrev h : HandState
    h = (actor_at w actor).hand

    grown : HasGrown r.next s actor r
    grown =
        subst (λ (o : Option Running). HasGrownBy o s actor) runs (known.reached.grown.each actor)

    cleans : (is : is_clean r.next ≡ true) → clean_slot r.next < length s.cells
        → KeepsKind g.block (log_at epoch (clean_cell r.next s h))
    cleans is low =
        let slot = clean_slot r.next in
        let old = cell_at s slot in
        let new = clean_cell r.next s h in
        let ready = cleanable w actor r known.reached.apart.cleanable runs in
        let held =
        cleans_held r.next w.numbers.block actor s h r is
        (before w actor r known.reached.locks runs)
        grown ready in
        let rises : IsLog old.chain.entries = (known.reached.order.logs slot).ordered in
        let marks = slot_marks w known.rs known.listed known.marked slot
        (IsLog-take old.chain.tail old.chain.entries rises) in
        let c : Cleans (retention_at w slot) (stays_at r.next s) old new =
        cleans_by r.next w.numbers.block s h r is low held.old_tail ready (retention_at w slot)
        marks in
        subst (λ (b : ℕ). KeepsKind b (log_at epoch new)) (c.block ∙ size slot low)
        (cleaned_keeps epoch (retention_at w slot) (stays_at r.next s) old new c lives rises
        (subst (λ (b : ℕ). KeepsKind b (log_at epoch old)) (sym (size slot low)) (keep slot)))

    work_keeps : HasKinds g.block epoch (work r.next w.numbers.block actor s h r).shared
    work_keeps =
        cells_after (λ (ino : ℕ) (c : CellState). KeepsKind g.block (log_at epoch c))
        w.numbers.block actor s h r keep r.next (before w actor r known.reached.locks runs)
        (record {
          appends = λ place is inside low.
              let slot = slot_at (written_slots r) place in
              let pages = take (pages_needed s r.plan slot) h.pages in
              let cell = cell_at s slot in
              let later =
              own_later w known.reached epoch past actor r runs (ap commits_at is) in
              subst (KeepsKind g.block)
              (sym (ap (up_to epoch)
              (entries_more (entries_for r slot) h.blocks (with_log_pages pages cell)
              ∙ ap (λ (l : List Entry). l ++ entries_for r slot) (pages_keep pages cell))
              ∙ entries_later epoch r slot cell.chain.entries later))
              (keep slot);
          publishes = λ place is inside low. keep (slot_at (written_slots r) place);
          removes = λ is low left.
              let x = removal r.next s h r in
              by_erased (λ (c : CellState). KeepsKind g.block (log_at epoch c)) x.cell
              (subst (λ (c : ChainState). KeepsKind g.block (up_to epoch c.entries))
              (sym left.keeps.chain) (keep x.slot))
              (λ n lt uncovered. absurd (omega (arith, lt)));
          cleans = λ is low. cleans is low;
        })

  pub event_keeps : (e : Event) → HasKinds g.block epoch (step w e).world.shared
  event_keeps e = event_shared (HasKinds g.block epoch) w keep e (λ actor granted r there runs.
      turn_keeps (λ (t : Shared) (x : HandState). HasKinds g.block epoch t) r.next w.numbers.block
      actor granted s (actor_at w actor).hand r keep (work_keeps actor r runs))

-- ---- one event

-- what is known of a world and of the one behind an event
record IsStepped (g : GeometryNumbers) (w : World) (e : Event) : Type 0 where
  known : IsKnown g w
  shaped : AreShaped g.block w.shared
  bare : AreBare w
  earlier_all : AreBefore w.shared.book.snaps
  next : IsReached (step w e).world
  next_earlier : AreBefore (step w e).world.shared.book.snaps

-- each living snapshot has the kind of what it holds parts of
abbrev HaveKinds : ℕ → World → Type 0
HaveKinds block w =
    (epoch : ℕ) → Contains (ids w.shared.book.snaps) epoch → HasKinds block epoch w.shared

makes : (d : PlainChange) (l : Snapshots) → is_make d ≡ true → snaps_after d l ≡ after_making l
makes (Maintains Make) l e = refl
makes other l e = absurd (false≢true e)

module _ (g : GeometryNumbers) (w : World) (e : Event) (is : IsStepped g w e)
    (keep : HaveKinds g.block w) where
  abbrev v : World
  v = (step w e).world

  abbrev l : Snapshots
  l = w.shared.book.snaps

  module _ (epoch : ℕ) (lives : Contains (ids (step w e).world.shared.book.snaps) epoch) where
    lives_after : Lives (snaps_after (plain_change_of w e) w.shared.book.snaps) epoch
    lives_after =
        subst (λ (x : Snapshots). Lives x epoch) (event_snaps w e is.bare)
        (pins_at-lives (step w e).world.shared.book.snaps.living epoch lives)

    lived : Contains (ids w.shared.book.snaps) epoch
        → HasKinds g.block epoch (step w e).world.shared
    lived then_lives =
        event_keeps g w is.known epoch then_lives
        (earlier w epoch is.earlier_all then_lives) (keep epoch then_lives) e

    -- an epoch that is over is older than the one that a making ends
    made_earlier : is_make (plain_change_of w e) ≡ true → epoch < w.shared.book.snaps.epoch
        → Contains (ids w.shared.book.snaps) epoch
    made_earlier make lt =
        lives-from_pins w.shared.book.snaps.living epoch
        (from_or (pins_at w.shared.book.snaps.living epoch)
        (subst IsSome
        (pins_at-push w.shared.book.snaps.living
        (record { number = w.shared.book.snaps.epoch; pins = 0 }) epoch
        ∙ ap (λ (b : Bool).
        option_or (pins_at w.shared.book.snaps.living epoch) (cond b (Some 0) None))
        (ne_eqb w.shared.book.snaps.epoch epoch (λ same. omega (arith, lt, same))))
        (subst (λ (x : Snapshots). Lives x epoch)
        (makes (plain_change_of w e) w.shared.book.snaps make) lives_after)))
      where
        from_or : (o : Option ℕ) → IsSome (option_or o None) → IsSome o
        from_or None there = there
        from_or (Some pins) there = refl

    -- of the epoch that it ends, the log is the settled one
    made_now : is_make (plain_change_of w e) ≡ true → w.shared.book.snaps.epoch ≤ epoch
        → HasKinds g.block epoch (step w e).world.shared
    made_now make le ino =
        subst (KeepsKind g.block) says
        (left_keeps g.block (settled w.shared ino) (is.shaped ino)) where
          leaves : ((step w e).world.shared.cells ≡ w.shared.cells)
              × ((step w e).world.shared.book.journals ≡ w.shared.book.journals)
          leaves = event_leaves w e make

          same_cell : cell_at (step w e).world.shared ino ≡ cell_at w.shared ino
          same_cell = ap (λ (cells : List CellState). slice_index_or cells ino no_cell) leaves.0

          same_settled : settled (step w e).world.shared ino ≡ settled w.shared ino
          same_settled =
              ap (λ (c : CellState).
              take (settled_tail (step w e).world.shared.book.journals ino c.chain.tail)
              c.chain.entries) same_cell
              ∙ ap (λ (j : List (List OldTail)).
              take (settled_tail j ino (cell_at w.shared ino).chain.tail)
              (cell_at w.shared ino).chain.entries) leaves.1

          no_later : up_to epoch (settled w.shared ino) ≡ settled w.shared ino
          no_later =
              all_up (w.shared.book.commit + 1) epoch (settled w.shared ino)
              (all_front
              (λ (x : Entry). (x.id.commit < w.shared.book.commit + 1) × (x.epoch ≤ epoch))
              (settled_tail w.shared.book.journals ino (cell_at w.shared ino).chain.tail)
              (cell_at w.shared ino).chain.entries
              (all_weaker
              (λ (x : Entry).
              (x.id.commit < w.shared.book.commit + 1) × (x.epoch ≤ w.shared.book.snaps.epoch))
              (λ (x : Entry). (x.id.commit < w.shared.book.commit + 1) × (x.epoch ≤ epoch))
              (λ x early. (early.0, (let low = early.1 in omega (arith, low, le))))
              (cell_at w.shared ino).chain.entries
              (is.known.reached.order.logs ino).earlier))

          says : settled w.shared ino ≡ log_at epoch (cell_at (step w e).world.shared ino)
          says =
              sym no_later ∙ ap (up_to epoch) (sym same_settled)
              ∙ settled_says (step w e).world is.next epoch
              (earlier (step w e).world epoch is.next_earlier lives) ino

    one_event : HasKinds g.block epoch (step w e).world.shared
    one_event = go (is_make (plain_change_of w e)) refl where
      go : (b : Bool) → is_make (plain_change_of w e) ≡ b
          → HasKinds g.block epoch (step w e).world.shared
      go false other =
          lived (lives-from_pins w.shared.book.snaps.living epoch
          (work_lives (plain_change_of w e) w.shared.book.snaps epoch other lives_after))
      go true make = elim (cases_lt epoch w.shared.book.snaps.epoch) [
        | inl lt ↦ lived (made_earlier make lt)
        | inr le ↦ made_now make le
      ]

  event_kinds : HaveKinds g.block (step w e).world
  event_kinds = one_event

-- ---- all events

module _ (g : GeometryNumbers) (start : World) (records : List Record)
    (is_start : IsStart g start records) where
  stepped : (events : List Event) (e : Event) → IsStepped g (after start events) e
  stepped events e = record {
    known = all_known g start records is_start events;
    shaped = all_shaped g start records events is_start;
    bare = all_bare g start records events is_start;
    earlier_all = (in_step g start records events is_start).before;
    next =
        subst IsReached (sym (after_one events start e))
        (reached g start records (events ++ e ∷ []) is_start);
    next_earlier =
        subst (λ (v : World). AreBefore v.shared.book.snaps) (sym (after_one events start e))
        (in_step g start records (events ++ e ∷ []) is_start).before;
  }

  -- ---- from what a living snapshot holds, and back

  module _ (events : List Event) where
    abbrev shared : Shared
    shared = (after start events).shared

    abbrev living : List ℕ
    living = ids (after start events).shared.book.snaps

    known : IsReached (after start events)
    known = reached g start records events is_start

    shaped : AreShaped g.block shared
    shaped = all_shaped g start records events is_start

    rises : (ino : ℕ) → IsLog (settled shared ino)
    rises ino =
        IsLog-take (settled_tail shared.book.journals ino (cell_at shared ino).chain.tail)
        (cell_at shared ino).chain.entries (known.order.logs ino).ordered

    module _ (ino epoch : ℕ) (lives : Contains living epoch) where
      abbrev log : List Entry
      log = settled shared ino

      abbrev front : List Entry
      front = up_to epoch (settled shared ino)

      abbrev rest : List Entry
      rest = (splits epoch (settled shared ino) (rises ino)).rest

      parts : front ++ rest ≡ settled shared ino
      parts = (splits epoch (settled shared ino) (rises ino)).is

      says : front ≡ log_at epoch (cell_at shared ino)
      says =
          settled_says (after start events) known epoch
          (earlier (after start events) epoch
          (in_step g start records events is_start).before lives) ino

      -- a log that is lawful from nothing on where it has a pair that the snapshot holds
      front_has : AreHeldLawful g.block shared → KeepsKind g.block front
      front_has lawful n lt uncovered =
          go (slice_get (pairs g.block log) n) refl (pair_there g.block log n (rises ino) within)
        where
          within : n < part_total (settled shared ino)
          within =
              omega (arith, lt, ap part_total (sym parts), total_append front rest)

          go : (o : Option Pair) → slice_get (pairs g.block (settled shared ino)) n ≡ o → IsSome o
              → is_some (kinds_after (items_of (up_to epoch (settled shared ino))) None) ≡ true
          go None e there = absurd (false≢true there)
          go (Some pair) e there =
              let held =
              held_by_one living epoch pair lives
              (lives_then epoch g.block log (rises ino) n lt uncovered pair e) in
              let all = lawful ino (any_held living (pairs g.block log) n pair e held) in
              front_keeps g.block front rest
              (subst (IsShaped g.block) (sym parts)
              (record { lawful = all; last = (shaped ino).last })) n lt uncovered

      from_lawful : AreHeldLawful g.block shared
          → KeepsKind g.block (log_at epoch (cell_at shared ino))
      from_lawful lawful = subst (KeepsKind g.block) says (front_has lawful)

      -- a log whose kind a snapshot has, of which it holds this pair
      to_lawful : (n : ℕ) (pair : Pair)
          → slice_get (pairs g.block (settled shared ino)) n ≡ Some pair
          → holds epoch pair ≡ true → KeepsKind g.block (log_at epoch (cell_at shared ino))
          → AreLawful g.block (items_of (settled shared ino)) None
      to_lawful n pair got holding keep =
          let part =
          held_uncovered g.block epoch front rest n pair (up_to_within epoch log)
          (splits epoch log (rises ino)).later
          (ap (λ (l : List Entry). slice_get (pairs g.block l) n) parts ∙ got) holding in
          let kind =
          subst (KeepsKind g.block) (sym says) keep n part.low part.uncovered in
          subst (λ (l : List Entry). AreLawful g.block (items_of l) None) parts
          (told_lawful g.block front rest (subst (IsLeftShaped g.block) (sym parts) (shaped ino))
          kind)

    all_lawful : HaveKinds g.block (after start events) → AreHeldLawful g.block shared
    all_lawful keep ino some =
        let held = some_held living (pairs g.block (settled shared ino)) some in
        to_lawful ino held.epoch held.lives held.n held.pair held.is held.holding
        (keep held.epoch held.lives ino)

  all_kinds : (events : List Event) → AreHeldLawful g.block start.shared
      → HaveKinds g.block (after start events)
  all_kinds events lawful =
      events_by (λ (v : World). (e : Event) → IsStepped g v e) (HaveKinds g.block)
      (λ v e is keep. event_kinds g v e (is e) keep) events start stepped
      (λ epoch lives ino. from_lawful [] ino epoch lives lawful)

  pub all_held_lawful : (events : List Event) → AreHeldLawful g.block start.shared
      → AreHeldLawful g.block (after start events).shared
  all_held_lawful events lawful = all_lawful events (all_kinds events lawful)
