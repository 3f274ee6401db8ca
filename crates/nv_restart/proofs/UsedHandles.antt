-- No handle is made twice in a history: one that was made stays used, since the generation of an
-- erased slot rises.
use Rattle.std.proofs.Common.{◌≡◌, ◌⊎◌, ℕ, ◌+◌, ◌<◌, ◌≤◌, ◌++◌, ◌∙◌, inl, inr, Bool, true, false, List, [], ◌∷◌, length, Some, ap, arith, refl, subst, sym, take}
use Rattle.std.proofs.lemmas.Bool.{cases_lt, false≢true, or_cases}
use Rattle.std.proofs.lemmas.List.{get_or_past}
use Rattle.nv_audit.specs.Image.{ImageValue, SlotImageValue, slot_of}
use Rattle.nv_audit.specs.Mounted.{cell_with, tail_of}
use Rattle.nv_base.specs.declared.geometry.GeometryNumbers.{GeometryNumbers}
use Rattle.nv_base.specs.declared.numbers.Handle.{Handle}
use Rattle.nv_book.specs.declared.record.Record.{Record}
use Rattle.nv_calls.specs.Plain.{node_in, same_handle}
use Rattle.nv_cell.specs.Cell.{CellState, log_of}
use Rattle.nv_entry.specs.Tree.{root}
use Rattle.nv_entry.specs.declared.item.Entry.{Entry}
use Rattle.nv_epoch.specs.SnapList.{ids}
use Rattle.nv_journal.specs.Journal.{settled_tail}
use Rattle.nv_machine.proofs.CommitEffects.{take_none}
use Rattle.nv_machine.proofs.DirectoriesChanged.{some_directory}
use Rattle.nv_machine.proofs.DrainRuns.{after_both}
use Rattle.nv_machine.proofs.EveryWorld.{all_known, reached}
use Rattle.nv_machine.proofs.FitsEvents.{IsKnown}
use Rattle.nv_machine.proofs.HandlesStayUsed.{IsUsed, IsUsedAt, events_used}
use Rattle.nv_machine.proofs.NewHandles.{event_made, has_either, node_used, not_used, used_as}
use Rattle.nv_machine.proofs.NewWorld.{none_closed}
use Rattle.nv_machine.specs.Hands.{makes_inode}
use Rattle.nv_machine.specs.Made.{has_handle}
use Rattle.nv_machine.specs.PlainRun.{Commits, plain_change_of}
use Rattle.nv_machine.specs.Reached as machine
use Rattle.nv_machine.specs.Sequence.{beginning}
use Rattle.nv_machine.specs.Settled.{settled, settled_nodes}
use Rattle.nv_machine.specs.Starts.{IsStart}
use Rattle.nv_machine.specs.Step.{after, step}
use Rattle.nv_machine.specs.World.{Event, Go, Running, Shared, World, actor_at, cell_at, no_cell}
use Rattle.nv_restart.proofs.Happenings.{all_reached, one}
use Rattle.nv_restart.proofs.JudgedLogs.{settled_is}
use Rattle.nv_restart.proofs.Slots.{by_cell, cell_there}
use Rattle.nv_restart.proofs.WorldCells as of_world
use Rattle.nv_restart.proofs.WorldSlots.{slot_is}
use Rattle.nv_restart.specs.Happenings.{Happening, IsReached, On, Stop, after_all, all_made, happen, handles_made_at}
use Rattle.nv_restart.specs.Restarted.{image_of, restarted}

-- ---- a stop

module _ (g : GeometryNumbers) (start : World) (records : List Record) (events : List Event)
    (is_start : IsStart g start records) where
  abbrev w : World
  w = after start events

  abbrev s : Shared
  s = w.shared

  abbrev image : ImageValue
  image = image_of w

  abbrev t : Shared
  t = (restarted w).shared

  -- of a slot whose generation stays the settled log does too
  slot_used : (ino generation : ℕ) → ino < length s.cells → IsUsedAt s ino generation
      → IsUsedAt t ino generation
  slot_used ino generation lt used =
      subst Used (sym new_log) (subst (λ (c : CellState). Used_by c (log_of c))
      (sym (cell_there image ino inside))
      (by_cell (λ (c : CellState). Used_by c (log_of c)) w.numbers (ids s.book.snaps)
      (tail_of image ino) (slot_of image ino) (λ over. inl (past used)) (λ left. same used)))
    where
      inside : ino < length image.slots
      inside = let many = of_world.slots g start records events is_start in omega (arith, lt, many)

      Used_by : CellState → List Entry → Type 0
      Used_by c log = (generation < c.generation) ⊎ ((generation ≡ c.generation) × (0 < length log))

      Used : List Entry → Type 0
      Used log = Used_by (cell_at t ino) log

      new_log : settled t ino ≡ log_of (cell_at t ino)
      new_log = settled_is t ino (none_closed w.numbers.cpus)

      own : (slot_of image ino).generation ≡ (cell_at s ino).generation
      own = ap (λ (slot : SlotImageValue). slot.generation) (slot_is w ino)

      past : IsUsedAt s ino generation → generation < (slot_of image ino).generation + 1
      past (inl lower) = omega (arith, lower, own)
      past (inr at) = let is = at.0 in omega (arith, is, own)

      same : IsUsedAt s ino generation
          → Used_by (cell_with w.numbers (ids s.book.snaps) (tail_of image ino) (slot_of image ino))
          (log_of (cell_with w.numbers (ids s.book.snaps) (tail_of image ino) (slot_of image ino)))
      same (inl lower) = inl (omega (arith, lower, own))
      same (inr at) = inr (
        at.0 ∙ sym own,
        subst (λ (l : List Entry). 0 < length l)
            (sym (of_world.its_log g start records events is_start ino
            ∙ of_world.cut g start records events is_start ino))
            at.1,
      )

  -- no handle past the slots is used
  pub stop_used : (handle : Handle) → IsUsed s handle → IsUsed t handle
  stop_used handle used = elim (cases_lt handle.ino (length s.cells)) [
    | inl lt ↦ slot_used handle.ino handle.generation lt used
    | inr past ↦ absurd (none past used)
  ] where
    none : length s.cells ≤ handle.ino → IsUsed s handle → ⊥
    none past (inl lower) =
        let zeroth = ap (λ (c : CellState). c.generation)
        (get_or_past s.cells handle.ino no_cell past) in
        omega (arith, lower, zeroth)
    none past (inr at) =
        let empty = ap (λ (l : List Entry). length l)
        (ap (λ (c : CellState).
        take (settled_tail s.book.journals handle.ino c.chain.tail) c.chain.entries)
        (get_or_past s.cells handle.ino no_cell past)
        ∙ take_none (settled_tail s.book.journals handle.ino 0)) in
        let some = at.1 in
        omega (arith, empty, some)

-- ---- happenings

module _ (g : GeometryNumbers) (handle : Handle) where
  known_of : (w : World) → IsReached g w → IsKnown g w
  known_of w is =
      subst (IsKnown g) is.leads (all_known g is.start is.records is.is_start is.events)

  one_used : (w : World) (h : Happening) → IsReached g w → IsUsed w.shared handle
      → IsUsed (happen w h).shared handle
  one_used w (On e) is used =
      subst (λ (v : World). IsUsed v.shared handle → IsUsed (step v e).world.shared handle) is.leads
      (events_used (e ∷ []) (after is.start is.events) handle
      (λ before.
      subst machine.IsReached (after_both is.events before is.start)
      (reached g is.start is.records (is.events ++ before) is.is_start))) used
  one_used w (Stop true) is used =
      subst (λ (v : World). IsUsed v.shared handle → IsUsed (restarted v).shared handle) is.leads
      (stop_used g is.start is.records is.events is.is_start handle) used
  one_used w (Stop false) is used = used

  all_used : (happenings : List Happening) (w : World) → IsReached g w → IsUsed w.shared handle
      → IsUsed (after_all w happenings).shared handle
  all_used [] w is used = used
  all_used (h ∷ happenings) w is used =
      all_used happenings (happen w h) (one g w h is) (one_used w h is used)

  one_made : (w : World) (h : Happening) → IsReached g w → has_handle (handles_made_at w h) handle ≡ true
      → IsUsed (happen w h).shared handle
  one_made w (On e) is made = event_made g w (known_of w is) handle e made
  one_made w (Stop granted) is made = absurd (false≢true made)

  made_used : (happenings : List Happening) (w : World) → IsReached g w
      → has_handle (all_made w happenings) handle ≡ true
      → IsUsed (after_all w happenings).shared handle
  made_used [] w is made = absurd (false≢true made)
  made_used (h ∷ happenings) w is made =
      elim (has_either (handles_made_at w h) (all_made (happen w h) happenings) handle made) [
        | inl now ↦
            all_used happenings (happen w h) (one g w h is) (one_made w h is now)
        | inr later ↦ made_used happenings (happen w h) (one g w h is) later
      ]

-- the root is used in each world
root_used : (g : GeometryNumbers) (w : World) → IsReached g w → IsUsed w.shared root
root_used g w is =
    subst (λ (v : World). IsUsed v.shared root) is.leads
    (events_used is.events is.start root
    (λ before. reached g is.start is.records before is.is_start)
    (node_used is.start.shared root
    (some_directory (node_in (settled_nodes is.start.shared) root)
    is.is_start.tree.one_name.top)))

-- ---- the law

module _ (g : GeometryNumbers) (happenings : List Happening) (w : World) (is : IsReached g w)
    (actor : ℕ) (granted : Bool) (r : Running)
    (there : actor < length (after_all w happenings).actors)
    (runs : (actor_at (after_all w happenings) actor).running ≡ Some r)
    (commits : plain_change_of (after_all w happenings) (Go actor granted) ≡ Commits)
    (makes : makes_inode (beginning r.call) ≡ true) where
  abbrev v : World
  v = after_all w happenings

  leads : IsReached g v
  leads = all_reached g happenings w is

  out : IsUsed v.shared r.made → ⊥
  out = not_used g v (known_of g r.made v leads) actor granted r there runs commits makes

  pub made_once : has_handle (root ∷ all_made w happenings) r.made ≡ false
  made_once = go (has_handle (root ∷ all_made w happenings) r.made) refl where
    go : (b : Bool) → has_handle (root ∷ all_made w happenings) r.made ≡ b
        → has_handle (root ∷ all_made w happenings) r.made ≡ false
    go false q = q
    go true q =
        elim (or_cases (same_handle root r.made) (has_handle (all_made w happenings) r.made) q) [
          | inl same ↦ absurd (out (used_as v.shared root r.made same (root_used g v leads)))
          | inr made ↦ absurd (out (made_used g r.made happenings w is made))
        ]
