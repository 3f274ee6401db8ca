-- The turn that plans a cleaning, and those of cleanings, wherever the other parts are.
use Rattle.std.proofs.Common.{◌≡◌, ◌∙◌, ℕ, zero, suc, ◌==◌, Bool, true, false, List, ap, arith, refl, sym}
use Rattle.std.specs.Prelude.{IfOk, Result, Ok, Err, Some, is_ok}
use Rattle.std.proofs.lemmas.Bool.{eqb-true, false≢true}
use Rattle.nv_base.specs.Memory.{out_of_memory}
use Rattle.nv_base.specs.Refusals.{FailsOnly}
use Rattle.nv_base.specs.declared.fault.Fault.{Fault}
use Rattle.nv_base.specs.declared.geometry.GeometryNumbers.{GeometryNumbers}
use Rattle.nv_cell.specs.Cell.{CellState}
use Rattle.nv_cell.specs.Readers.{has_inode}
use Rattle.nv_clean.specs.Plans.{WantedValue, wanted_of}
use Rattle.nv_clean.specs.declared.cleaned.Cleaned.{Cleaned}
use Rattle.nv_machine.specs.Cleaning.{chosen_turn, inode_turn, is_thorough, nothing_cleaned, thorough_turn}
use Rattle.nv_machine.specs.Kinds.{end_turn, grown}
use Rattle.nv_machine.specs.Step.{turn}
use Rattle.nv_machine.specs.World as machine
use Rattle.nv_machine.specs.World.{Cleans, Ending, Fresh, HandState, Moves, PlanCleaning, Refuses, Running, Shared, SnapshotOrCleaner, cell_at, go_to}
use Rattle.nv_steps.specs.OnCell.{IsHolding, once_ending, over_cell}
use Rattle.nv_steps.specs.Planning.{IsFoundIn, once_planned}
use Rattle.nv_steps.specs.Turns.{IsMove}
use Rattle.nv_steps.specs.declared.planning.Planned.{Planned}
use Rattle.nv_steps.specs.declared.planning.Planned.TheVariants as planned
use Rattle.nv_steps.proofs.BookTurns.{by_next}

module _ (numbers : GeometryNumbers) (actor ino : ℕ) (r : Running) (m : machine.Manner) (cell : CellState) (h after : HandState)
    (holds : IsHolding ino (PlanCleaning m (Some ino)) r) (kept : after ≡ h) where
  -- the call ends so, and unlocks its slot next
  ends_held : (ending : Ending) (s : Shared) → end_turn r.slots ending s h r ≡ Moves s after (once_ending ending r)
  ends_held ending s =
      ap (λ (slots : List ℕ). end_turn slots ending s h r) holds.slots ∙ ap (λ (x : HandState). Moves s x (once_ending ending r)) (sym kept)

  by_inode : (b granted : Bool) (s : Shared) → cell_at s ino ≡ cell → has_inode cell ≡ b
      → turn numbers.block actor granted s h r ≡ inode_turn b m ino granted s h r
  by_inode b granted s here is =
      by_next (SnapshotOrCleaner (PlanCleaning m (Some ino))) numbers.block actor granted s h r holds.next
      ∙ ap (λ (x : Bool). inode_turn x m ino granted s h r) (ap has_inode here ∙ is)

  module _ (some : has_inode cell ≡ true) where
    chosen : (s : Shared) → cell_at s ino ≡ cell → (granted b : Bool) → is_thorough m cell ≡ b
        → turn numbers.block actor granted s h r ≡ grown granted (chosen_turn b ino s h r) s h r
    chosen s here granted b is =
        by_inode true granted s here some
        ∙ ap (λ (x : Bool). grown granted (chosen_turn x ino s h r) s h r) (ap (is_thorough m) here ∙ is)

    -- entry by entry: what the walk of the cell found decides
    entries : (s : Shared) → cell_at s ino ≡ cell → is_thorough m cell ≡ true
        → turn numbers.block actor true s h r ≡ thorough_turn (wanted_of cell).dropped (wanted_of cell).pages ino s h r
    entries s here is =
        chosen s here true true is
        ∙ ap (λ (c : CellState). thorough_turn (wanted_of c).dropped (wanted_of c).pages ino s h r) here

    some_go : (dropped pages : ℕ) (s : Shared) → (dropped == 0) ≡ false
        → thorough_turn dropped pages ino s h r ≡ Moves s after (go_to (SnapshotOrCleaner (Fresh ino 0 pages)) r)
    some_go zero pages s e = absurd (false≢true (sym e))
    some_go (suc n) pages s e = ap (λ (x : HandState). Moves s x (go_to (SnapshotOrCleaner (Fresh ino 0 pages)) r)) (sym kept)

    none_goes : (dropped pages : ℕ) (s : Shared) → (dropped == 0) ≡ true
        → thorough_turn dropped pages ino s h r ≡ Moves s after (once_ending (Cleans nothing_cleaned) r)
    none_goes zero pages s e = ends_held (Cleans nothing_cleaned) s
    none_goes (suc n) pages s e = absurd (let none : suc n ≡ 0 = eqb-true (suc n) 0 e in omega (arith, none))

    pub plans : (result : Result Planned Fault) → IfOk result (IsFoundIn cell (is_thorough m cell)) → FailsOnly out_of_memory result
        → IsMove numbers actor (over_cell ino r h (is_ok result) cell) after (once_planned ino result r)
    plans (Ok (planned.Unlinks walk)) found err = λ s is_of has.
        chosen s has.0.1 true false found.0
        ∙ ap (λ (x : HandState). Moves s x (once_planned ino (Ok (planned.Unlinks walk)) r)) (sym kept)
    plans (Ok (planned.Compacts walk)) found err = λ s is_of has.
        entries s has.0.1 found.0
        ∙ ap (λ (w : WantedValue). thorough_turn w.dropped w.pages ino s h r) (sym found.1)
        ∙ some_go walk.dropped walk.pages s found.2
    plans (Ok (planned.Ends cleaned)) found err = λ s is_of has.
        entries s has.0.1 found.0
        ∙ none_goes (wanted_of cell).dropped (wanted_of cell).pages s found.1
        ∙ ap (λ (c : Cleaned). Moves s after (once_ending (Cleans c) r)) (sym found.2)
    plans (Err fault) found err = λ s is_of has.
        chosen s has.0.1 false (is_thorough m cell) refl
        ∙ ends_held (Refuses out_of_memory) s
        ∙ ap (λ (f : Fault). Moves s after (once_ending (Refuses f) r)) (sym err)
