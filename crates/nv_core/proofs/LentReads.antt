-- What a turn that reads one cell, while nobody has its lock, makes in a world.
use Rattle.std.proofs.Common.{◌≡◌, ◌∙◌, ℕ, ◌<◌, ◌≤◌, ◌||◌, Bool, true, false, [], length, Option, Some, None, ap, arith, inl, inr, subst, sym}
use Rattle.std.specs.Prelude.{MatchOption, Result, Ok, Err, is_ok}
use Rattle.std.specs.Option.{ForSome}
use Rattle.std.proofs.lemmas.List.{length-map}
use Rattle.nv_base.specs.declared.fault.Fault.{Fault}
use Rattle.nv_calls.specs.declared.answer.Answer.{Answer}
use Rattle.nv_cell.specs.Cell.{CellState, CellValue}
use Rattle.nv_machine.specs.SnapshotOrCleaner.{copies_at, show_turn}
use Rattle.nv_machine.specs.Step.{kind_turn}
use Rattle.nv_machine.specs.World as machine
use Rattle.nv_machine.specs.World.{Ends, HandState, Moves, Next, Running, Show, Showing, SnapshotOrCleaner, Turn, cell_at, go_to, owner_at}
use Rattle.nv_reader.specs.Showing.{visited}
use Rattle.nv_steps.specs.Parts.{Has}
use Rattle.nv_steps.specs.Reading.{IsInRangeIf, once_shown, reading, unlocked}
use Rattle.nv_steps.specs.Turns.{IsEnd, IsMove}
use Rattle.nv_steps.proofs.Looks.{IsCellOf}
use Rattle.nv_steps.proofs.VisitTurns.{states}
use Rattle.nv_core.specs.GhostCalls.{IsEither}
use Rattle.nv_core.specs.Parts.{AreHome}
use Rattle.nv_core.specs.Shown.{shared_of}
use Rattle.nv_core.specs.declared.shared.Shared.{Shared}
use Rattle.nv_core.proofs.LentCells.{is_of, numbers_in}

-- what a lent cell is told to have, the one in the world has
pub lent_has : {A : Type 0} (P : CellState → Type 0) (s : machine.Shared) (ino : ℕ) (value : A → CellValue) (cell : Option A)
    → IsCellOf s ino value cell → P (cell_at s ino) → ForSome (states value cell) P
lent_has P s ino value None is has = λ c some. cc
lent_has P s ino value (Some a) is has = λ c some. let same : (value a).state ≡ c = cc in subst P (is ∙ same) has

-- the turn where memory was granted, or was not
pub either_turn : (by : Bool → Turn) (granted : Bool) (t : Turn) → by granted ≡ t → IsEither by t
either_turn by true t is = inl is
either_turn by false t is = inr is

module _ {A : Type 0} (shared : Shared) (home : AreHome shared) (wide : length shared.owners.items ≡ length shared.cells.items) (ino : ℕ)
    (value : A → CellValue) where
  -- there is such a slot, or there is none
  abbrev pub IsThere : Option A → Type 0
  IsThere cell = MatchOption cell (length shared.cells.items ≤ ino) (λ c. ino < length shared.cells.items)

  many : length (shared_of shared).cells ≡ length shared.cells.items
  many = length-map shared.cells.items (λ (c : CellValue). c.state)

  pub in_range : (cell : Option A) → IsThere cell → IsInRangeIf (numbers_in shared) ino (states value cell)
  in_range None there = there
  in_range (Some c) there = tt

  has_it : (cell : Option A) → IsThere cell → IsCellOf (shared_of shared) ino value cell → owner_at (shared_of shared) ino ≡ None
      → Has (shared_of shared) (unlocked ino (states value cell))
  has_it None there is free = tt
  has_it (Some c) there is free = ((omega (arith, there, many), is), ((omega (arith, there, wide), free), tt))

  module _ (cell : Option A) (there : IsThere cell) (is : IsCellOf (shared_of shared) ino value cell)
      (free : owner_at (shared_of shared) ino ≡ None) where
    module _ (k : Next) (granted : Bool) (r : Running) (h after : HandState) (next : r.next ≡ k) where
      pub read_move : (q : Running) → IsMove (numbers_in shared) 0 (reading ino r h granted (states value cell)) after q
          → kind_turn k shared.geometry.numbers.block 0 granted (shared_of shared) h r ≡ Moves (shared_of shared) after q
      read_move q moves =
          ap (λ (x : Next). kind_turn x shared.geometry.numbers.block 0 granted (shared_of shared) h r) (sym next)
          ∙ moves (shared_of shared) (is_of shared home wide) (has_it cell there is free)

      pub read_end : (result : Result Answer Fault) → IsEnd (numbers_in shared) 0 (reading ino r h granted (states value cell)) result after
          → kind_turn k shared.geometry.numbers.block 0 granted (shared_of shared) h r ≡ Ends result (shared_of shared) after
      read_end result ends =
          ap (λ (x : Next). kind_turn x shared.geometry.numbers.block 0 granted (shared_of shared) h r) (sym next)
          ∙ ends (shared_of shared) (is_of shared home wide) (has_it cell there is free)

-- a show whose slot nobody has locked
pub shown_here : (s : machine.Shared) (snapshot : ℕ) (showing : Showing) (h : HandState) (r : Running) (result : Result Showing Fault)
    → owner_at s (visited showing.visits).ino ≡ None
    → show_turn (owner_at s (visited showing.visits).ino) (is_ok result) (copies_at s snapshot (visited showing.visits)) snapshot showing s h
    (go_to (SnapshotOrCleaner (Show snapshot showing)) r)
    ≡ Moves s h (once_shown snapshot result (go_to (SnapshotOrCleaner (Show snapshot showing)) r))
    → IsEither (λ granted. show_turn (owner_at s (visited showing.visits).ino) granted (copies_at s snapshot (visited showing.visits)) snapshot
    showing s h r) (Moves s h (once_shown snapshot result r))
shown_here s snapshot showing h r (Ok after) free is =
    let to : Option ℕ → Running → Turn =
    λ o q. show_turn o true (copies_at s snapshot (visited showing.visits)) snapshot showing s h q in
    inl (ap (λ (o : Option ℕ). to o r) free
    ∙ (sym (ap (λ (o : Option ℕ). to o (go_to (SnapshotOrCleaner (Show snapshot showing)) r)) free) ∙ is))
shown_here s snapshot showing h r (Err fault) free is =
    let to : Option ℕ → Running → Turn =
    λ o q. show_turn o false (copies_at s snapshot (visited showing.visits)) snapshot showing s h q in
    inr (ap (λ (o : Option ℕ). to o r) free
    ∙ (sym (ap (λ (o : Option ℕ). to o (go_to (SnapshotOrCleaner (Show snapshot showing)) r)) free) ∙ is))
