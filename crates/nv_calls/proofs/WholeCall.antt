-- A whole call has its effect on the nodes of its cells.
use Rattle.std.proofs.Common.{◌≡◌, ℕ, zero, suc, ◌<◌, ◌==◌, Bool, true, false, cond, List, [], ◌∷◌, Option, Some, None, length, map, arith, refl, ap, ap₂, subst, sym, ◌∙◌}
use Rattle.std.proofs.Math.Path.{fun_ext}
use Rattle.std.proofs.lemmas.Bool.{eq-eqb, eqb-true}
use Rattle.nv_base.specs.declared.numbers.Handle.{Handle}
use Rattle.nv_cell.specs.Cell.{CellState, CellValue}
use Rattle.nv_entry.specs.Sound.{IsSound}
use Rattle.nv_calls.specs.Cells.{AreCells, ino_at, no_cell, value_at}
use Rattle.nv_calls.specs.Nodes.{HasBytes, HaveBytes, block_in, cell_of, plain_nodes, slot_by, slots_by}
use Rattle.nv_calls.specs.Plain.{PlainNode, nodes_after}
use Rattle.nv_calls.specs.Plan.{planned}
use Rattle.nv_calls.specs.Prepared.{HaveNoLessRoom, planned_by, plans_by}
use Rattle.nv_calls.specs.PublishedSlots.{AreOfSlots, IsCommitted, IsOfNone, PublishAlike, handle_at, planned_in}
use Rattle.nv_calls.specs.Ready.{CellCommitValue}
use Rattle.nv_calls.specs.Slots.{IsPlan, InodeSlot, node_under}
use Rattle.nv_calls.specs.WholeCall.{HaveSoundLogs, IsWholeCall, WholeCall, effect_of, filled_of}
use Rattle.nv_calls.specs.declared.plan.InodePlan.{InodePlan}
use Rattle.nv_calls.proofs.CellCommits.{all_at, all_by}
use Rattle.nv_calls.proofs.Effective.{has_effect}
use Rattle.nv_calls.proofs.FilledFits.{fits_all, slots_as}
use Rattle.nv_calls.proofs.Next.{cells_after}
use Rattle.nv_calls.proofs.NextBytes.{all_held}
use Rattle.nv_calls.proofs.NextSound.{all_sound}
use Rattle.nv_calls.proofs.NodesHeld.{nodes_are}
use Rattle.nv_calls.proofs.PlannedAlike.{publish_alike}

-- ---- cells as those of their own slots

abbrev Rise : List (ℕ × CellValue) → Type 0
Rise cells = (i k : ℕ) → i < k → k < length cells → ino_at cells i < ino_at cells k

tail_rises : (x : ℕ × CellValue) (cells : List (ℕ × CellValue)) → Rise (x ∷ cells) → Rise cells
tail_rises x cells rise i k less lt = rise (suc i) (suc k) (omega (arith, less)) (omega (arith, lt))

found_at : (cells : List (ℕ × CellValue)) → Rise cells → (k : ℕ) → k < length cells
    → cell_of cells (ino_at cells k) ≡ Some (value_at cells k)
found_at [] rise k lt = absurd (omega (arith, lt))
found_at (x ∷ cells) rise zero lt = ap (λ (b : Bool). cond b (Some x.1) (cell_of cells x.0)) (eq-eqb x.0 x.0 refl)
found_at (x ∷ cells) rise (suc k) lt =
    go (x.0 == ino_at cells k) refl (found_at cells (tail_rises x cells rise) k (omega (arith, lt))) where
      go : (b : Bool) → (x.0 == ino_at cells k) ≡ b → cell_of cells (ino_at cells k) ≡ Some (value_at cells k)
          → cond b (Some x.1) (cell_of cells (ino_at cells k)) ≡ Some (value_at cells k)
      go true e behind =
          let up : x.0 < ino_at cells k = rise 0 (suc k) (omega arith) lt in
          absurd (omega (arith, up, eqb-true x.0 (ino_at cells k) e))
      go false e behind = behind

none_found : (cells : List (ℕ × CellValue)) (ino : ℕ) → IsOfNone cells ino → cell_of cells ino ≡ None
none_found [] ino none = refl
none_found (x ∷ cells) ino none =
    go (x.0 == ino) refl (none_found cells ino (λ k lt same. none (suc k) (omega (arith, lt)) same)) where
      go : (b : Bool) → (x.0 == ino) ≡ b → cell_of cells ino ≡ None → cond b (Some x.1) (cell_of cells ino) ≡ None
      go true e behind = absurd (none 0 (omega arith) (eqb-true x.0 ino e))
      go false e behind = behind

of_own_slots : (cells : List (ℕ × CellValue)) → AreCells cells → AreOfSlots cells (slots_by cells)
of_own_slots cells are k lt = ap slot_by (found_at cells (λ i j less few. are.rising i j no_cell less few) k lt)

-- ---- the same cells, with more room

bytes_stay : (bytes : ℕ → List ℕ) (block : ℕ) (old new : List (ℕ × CellValue)) → HaveNoLessRoom old new → HaveBytes bytes block old
    → HaveBytes bytes block new
bytes_stay bytes block old new more have =
    all_by (λ (c : ℕ × CellValue). HasBytes bytes block c.1.state) new no_cell (λ k lt.
    subst (HasBytes bytes block) (sym (more.states k))
    (all_at (λ (c : ℕ × CellValue). HasBytes bytes block c.1.state) old no_cell k have (omega (arith, lt, more.count))))

handles_stay : (old new : List (ℕ × CellValue)) → HaveNoLessRoom old new → handle_at new ≡ handle_at old
handles_stay old new more =
    fun_ext (λ (k : ℕ). ap₂ (λ (ino : ℕ) (cell : CellState). let h : Handle = record { ino = ino; generation = cell.generation } in h)
    (more.inos k) (more.states k))

-- ---- a whole call

module _ (bytes : ℕ → List ℕ) (call : WholeCall) (is : IsWholeCall bytes call)
    (sound : HaveSoundLogs bytes (block_in call.before) call.before) where
  abbrev block : ℕ
  block = block_in call.before

  abbrev slots : ℕ → InodeSlot
  slots = slots_by call.now

  have : HaveBytes bytes block call.now
  have = bytes_stay bytes block call.before call.now is.room sound.blocks

  logs : (ino : ℕ) → IsSound bytes block (slots ino).log
  logs = subst (λ (s : ℕ → InodeSlot). (ino : ℕ) → IsSound bytes block (s ino).log) (sym (slots_as call.before call.now is.room)) sound.logs

  own : AreOfSlots call.now slots
  own = of_own_slots call.now is.can_commit.cells_are

  -- the nodes of the cells are those of the slots
  under_is : node_under bytes block slots ≡ plain_nodes call.before
  under_is =
      ap (node_under bytes block) (slots_as call.before call.now is.room)
      ∙ fun_ext (λ (handle : Handle). sym (nodes_are bytes block call.before handle sound.blocks))

  fits : IsPlan bytes block slots (planned_by call.before call.hand call.update) (effect_of call)
  fits =
      fits_all bytes call.before call.now call.hand call.update call.ready call.byte_at call.blocks.blocks is.can_ready is.room is.ready
      have logs is.filled slots own

  plans_are : planned_in call.before (plans_by call.before call.hand call.update) ≡ planned_in call.now call.ready.plans
  plans_are =
      ap₂ (λ (at : ℕ → Handle) (plans : List CellCommitValue). map (λ (p : CellCommitValue). planned (at p.at) p.items) plans)
      (sym (handles_stay call.before call.now is.room)) (sym is.ready.plans)

  alike : PublishAlike (planned_in call.now call.ready.plans) (planned_by call.before call.hand call.update)
  alike =
      subst (λ (plan : List InodePlan). PublishAlike plan (planned_by call.before call.hand call.update)) plans_are
      (publish_alike call.before call.hand call.update is.can_ready)

  -- cells that the commit does not have are none of those after it
  beyond : (ino : ℕ) → IsOfNone call.now ino → slots_by call.later ino ≡ slots ino
  beyond ino none =
      ap slot_by (none_found call.later ino (λ k lt same. none k (omega (arith, lt, is.changes.count)) (sym (is.changes.numbers k) ∙ same)))
      ∙ sym (ap slot_by (none_found call.now ino none))

  commits : IsCommitted call.living call.now call.book call.cpu (filled_of call) slots call.later (slots_by call.later)
  commits = record {
    can = is.can_commit;
    before = own;
    changes = is.changes;
    after = of_own_slots call.later
        (cells_after call.now call.book call.cpu (filled_of call) is.can_commit call.living call.later is.changes);
    others = beyond;
  }

  have_later : HaveBytes bytes block call.later
  have_later =
      all_held bytes block call.now call.book call.cpu (filled_of call) is.can_commit call.living call.later is.changes have is.filled.read
      is.cells

  pub call_has_effect : (handle : Handle)
      → plain_nodes call.later handle ≡ nodes_after call.book.state.commit (effect_of call) (plain_nodes call.before) handle
  call_has_effect handle =
      nodes_are bytes block call.later handle have_later
      ∙ has_effect bytes block call.living call.now call.book call.cpu (filled_of call) slots call.later (slots_by call.later) commits
      (planned_by call.before call.hand call.update) (effect_of call) is.ready.some_bytes logs alike fits handle
      ∙ ap (λ (nodes : Handle → Option PlainNode). nodes_after call.book.state.commit (effect_of call) nodes handle) under_is

  pub stays_sound : HaveSoundLogs bytes block call.later
  stays_sound = record {
    blocks = have_later;
    logs = all_sound bytes block call.living call.now call.book call.cpu (filled_of call) slots call.later (slots_by call.later)
        (planned_by call.before call.hand call.update) (effect_of call) is.ready.some_bytes logs commits alike fits;
  }
