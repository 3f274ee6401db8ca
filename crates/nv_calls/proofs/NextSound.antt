-- The logs of slots after a commit over cells are sound, also that of a slot that was erased.
use Rattle.std.proofs.Common.{◌≡◌, ℕ, ◌+◌, ◌<◌, ◌⊎◌, inl, inr, Bool, true, false, List, ◌++◌, length, arith, ap, ap₂, refl, subst, sym, ◌∙◌}
use Rattle.nv_book.specs.Book.{BookValue}
use Rattle.nv_cell.specs.Cell.{CellState, CellValue, empty_cell}
use Rattle.nv_entry.proofs.SoundLogs.{empty_sound}
use Rattle.nv_entry.specs.declared.item.Item.{Item}
use Rattle.nv_entry.specs.Sound.{IsSound}
use Rattle.nv_calls.specs.Cells.{ino_at, state_at}
use Rattle.nv_calls.specs.Commit.{CommitValue, begun, stamp_of}
use Rattle.nv_calls.specs.Committed.{IsUnplanned, committed, killing, cell_place_of}
use Rattle.nv_calls.specs.Plain.{Change}
use Rattle.nv_calls.specs.PublishedSlots.{IsCommitted, IsOfNone, PublishAlike, PublishesPlans, planned_in, slots_after}
use Rattle.nv_calls.specs.Ready.{ReadyValue}
use Rattle.nv_calls.specs.Retiring.{retired}
use Rattle.nv_calls.specs.Slots.{IsPlan, InodeSlot, entries_of}
use Rattle.nv_calls.specs.Views.{slot_of}
use Rattle.nv_calls.specs.declared.plan.InodePlan.{InodePlan}
use Rattle.nv_calls.proofs.Commits.{commits}
use Rattle.nv_calls.proofs.Effective.{has_number, has_plan, pick}
use Rattle.nv_cell.specs.Readers.{is_erased}
use Rattle.nv_calls.proofs.Published.{publishes}

module _ (bytes : ℕ → List ℕ) (block : ℕ) (living : List ℕ) (cells : List (ℕ × CellValue)) (book : BookValue) (cpu : ℕ) (ready : ReadyValue)
    (slots : ℕ → InodeSlot) (now : List (ℕ × CellValue)) (later : ℕ → InodeSlot) (plan : List InodePlan) (effect : List Change) (some : 0 < block)
    (sound : (ino : ℕ) → IsSound bytes block (slots ino).log) (is : IsCommitted living cells book cpu ready slots now later)
    (alike : PublishAlike (planned_in cells ready.plans) plan) (fits : IsPlan bytes block slots plan effect) where
  abbrev start : CommitValue
  start = begun (stamp_of book.state) ready

  abbrev IsSoundSlot : InodeSlot → Type 0
  IsSoundSlot slot = IsSound bytes block slot.log

  published_slots : PublishesPlans cells start slots
  published_slots = publishes cells book cpu ready slots is.can is.before

  abbrev after : ℕ → CellState
  after j = retired living (killing cells start j).ino start.stamp.epoch (killing cells start j).parts (killing cells start j).cell

  abbrev emptied : CellState → CellState
  emptied cell = empty_cell cell.block cell.chain.page (cell.generation + 1) cell.version

  -- what is published is sound
  made_sound : (ino : ℕ) → IsSoundSlot (slots_after cells start slots ino)
  made_sound ino =
      subst (IsSound bytes block)
      (sym (ap₂ (λ (place : ℕ) (items : List Item). (slots ino).log ++ entries_of book.state.commit book.state.snaps.epoch place items)
      (alike.places ino) (alike.items ino)))
      ((commits bytes block slots book.state.commit book.state.snaps.epoch some sound plan effect fits).sound ino)

  planned_sound : (j : ℕ) → j < length ready.plans → IsSoundSlot (slot_of (committed living cells start j))
  planned_sound j lt = go (is_erased (after j)) refl where
    go : (b : Bool) → is_erased (after j) ≡ b → IsSoundSlot (slot_of (committed living cells start j))
    go false q = subst IsSoundSlot (sym (published_slots.kept living j lt q)) (made_sound (ino_at cells (cell_place_of ready.plans j)))
    go true q =
        subst (λ (c : CellState). IsSoundSlot (slot_of c)) (sym (pick (is_erased (after j)) (emptied (after j)) (after j) q))
        (empty_sound bytes block)

  pub all_sound : (ino : ℕ) → IsSound bytes block (later ino).log
  all_sound ino = go (has_number cells ino) where
    lent : (k : ℕ) → k < length cells → (((j : ℕ) × (j < length ready.plans) × (cell_place_of ready.plans j ≡ k)) ⊎ IsUnplanned ready.plans k)
        → IsSoundSlot (slot_of (state_at now k))
    lent k lt (inl found) =
        let state : state_at now k ≡ committed living cells start found.0 =
        ap (state_at now) (sym found.2) ∙ is.changes.planned found.0 found.1 in
        subst (λ (c : CellState). IsSoundSlot (slot_of c)) (sym state) (planned_sound found.0 found.1)
    lent k lt (inr none) =
        let state : state_at now k ≡ state_at cells k = ap (λ (v : CellValue). v.state) (is.changes.others k none) in
        subst (λ (c : CellState). IsSoundSlot (slot_of c)) (sym state) (subst IsSoundSlot (is.before k lt) (sound (ino_at cells k)))

    go : (((k : ℕ) × (k < length cells) × (ino_at cells k ≡ ino)) ⊎ IsOfNone cells ino) → IsSoundSlot (later ino)
    go (inl found) =
        let k : ℕ = found.0 in
        let number : ino ≡ ino_at now k = sym (is.changes.numbers k ∙ found.2) in
        let within : k < length now = omega (arith, found.1, is.changes.count) in
        subst IsSoundSlot (sym (ap later number ∙ is.after k within)) (lent k found.1 (has_plan ready.plans k))
    go (inr none) = subst IsSoundSlot (sym (is.others ino none)) (sound ino)
