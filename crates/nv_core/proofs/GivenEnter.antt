-- Where nobody commits, the cells of a call that is ready take a commit of the next number, and no journal is open.
use Rattle.std.proofs.Common.{◌≡◌, ℕ, zero, suc, ◌<◌, ◌≤◌, ◌∙◌, List, [], ◌∷◌, Option, Some, None, ap, arith, inl, inr, length, map, refl, subst, sym}
use Rattle.std.specs.Prelude.{filter, slice_index_or}
use Rattle.std.specs.List.{AllByRecursion}
use Rattle.std.specs.Option.{option_map}
use Rattle.std.proofs.lemmas.Bool.{cases_lt}
use Rattle.std.proofs.lemmas.List.{get_or-map, get_or_past, length-map}
use Rattle.nv_base.specs.declared.limits.TheConstants.{NUMBER}
use Rattle.nv_book.specs.Book.{after_enter}
use Rattle.nv_calls.specs.CanCommit.{TakesCommit}
use Rattle.nv_calls.specs.Cells.{no_cell, value_at}
use Rattle.nv_calls.specs.Commit.{stamp_of}
use Rattle.nv_calls.specs.Ready.{CellCommitValue, ReadyValue}
use Rattle.nv_calls.specs.SlotCells.{cell_in, lent_cells}
use Rattle.nv_calls.specs.Slots.{IsBefore}
use Rattle.nv_calls.specs.Steps.{IsLater}
use Rattle.nv_calls.specs.declared.stamp.Stamp.{Stamp}
use Rattle.nv_calls.proofs.Grown.{last_step}
use Rattle.nv_cell.specs.Cell.{CellState, CellValue}
use Rattle.nv_entry.specs.declared.item.Entry.{Entry}
use Rattle.nv_journal.specs.declared.old_tail.OldTail.{OldTail}
use Rattle.nv_log.specs.Chain.{last_of}
use Rattle.nv_machine.specs.Kept.{AreClosed}
use Rattle.nv_machine.specs.Locks.{AreSlots as AreSlotsOf}
use Rattle.nv_machine.specs.Order.{AreLogsOrdered}
use Rattle.nv_machine.specs.Reads.{is_written, slot_at}
use Rattle.nv_machine.specs.World.{cell_at}
use Rattle.nv_machine.proofs.Lists.{slot_inside}
use Rattle.nv_core.specs.Shown.{ShownCall, shared_of}
use Rattle.nv_core.specs.GhostCalls.{IsReadyOf}
use Rattle.nv_core.specs.declared.shared.Shared.{Shared}
use Rattle.nv_core.proofs.GivenCells.{many_cells}
use Rattle.nv_core.proofs.Nodes.{cell_is}

-- ---- a cell takes a commit

last_all : (P : Entry → Type 0) (log : List Entry) (e : Entry) → AllByRecursion P log → last_of log ≡ Some e → P e
last_all P [] e all is = cc
last_all P (x ∷ []) e all is = let same : x ≡ e = cc in subst P same all.0
last_all P (x ∷ y ∷ log) e all is = last_all P (y ∷ log) e all.1 (sym (last_step x y log) ∙ is)

-- what holds of all entries holds of what the last one has
last_has : {X : Type 0} (f : Entry → X) (P : X → Type 0) (log : List Entry) (x : X) → AllByRecursion (λ e. P (f e)) log
    → option_map f (last_of log) ≡ Some x → P x
last_has {X} f P log x all is = go (last_of log) refl is where
  go : (o : Option Entry) → last_of log ≡ o → option_map f o ≡ Some x → P x
  go None e h = cc
  go (Some y) e h = let same : f y ≡ x = cc in subst P same (last_all (λ e. P (f e)) log y all e)

commits_below : (commit epoch : ℕ) (log : List Entry)
    → AllByRecursion (λ (e : Entry). (e.id.commit < commit) × (e.epoch ≤ epoch)) log
    → AllByRecursion (λ (e : Entry). e.id.commit < commit) log × AllByRecursion (λ (e : Entry). e.epoch ≤ epoch) log
commits_below commit epoch [] all = (tt, tt)
commits_below commit epoch (e ∷ log) all =
    let rest = commits_below commit epoch log all.1 in ((all.0.0, rest.0), (all.0.1, rest.1))

pub later_than : (stamp : Stamp) (c : CellValue) → IsBefore stamp.commit stamp.epoch c.state.chain.entries → IsLater stamp c
later_than stamp c before =
    let log = c.state.chain.entries in
    let both = commits_below stamp.commit stamp.epoch log before.earlier in
    record {
      commit = λ x is. last_has (λ (e : Entry). e.id) (λ id. id.commit < stamp.commit) log x both.0 is;
      epoch = λ x is. last_has (λ (e : Entry). e.epoch) (λ n. n ≤ stamp.epoch) log x both.1 is;
    }

-- so does what stands past the last cell
none_takes : (stamp : Stamp) → TakesCommit stamp (no_cell.1)
none_takes stamp = record {
  later = record { commit = λ x is. cc; epoch = λ x is. cc };
  version = omega arith;
  generation = omega arith;
}

-- ---- all plans of a call

all_places : {X : Type 0} (f : X → ℕ) (P : ℕ → Type 0) (xs : List X)
    → ((place : ℕ) → place < length (map f xs) → P (slice_index_or (map f xs) place 0)) → AllByRecursion (λ x. P (f x)) xs
all_places f P [] each = tt
all_places f P (x ∷ xs) each =
    (each 0 (omega arith), all_places f P xs (λ place lt. each (suc place) (omega (arith, lt))))

all_of : {X : Type 0} (P Q : X → Type 0) → ((x : X) → P x → Q x) → (xs : List X) → AllByRecursion P xs → AllByRecursion Q xs
all_of P Q from [] all = tt
all_of P Q from (x ∷ xs) all = (from x all.0, all_of P Q from xs all.1)

module _ (shared : Shared) (actor : ℕ) (slots : List ℕ) (are : AreSlotsOf (length (shared_of shared).cells) slots)
    (ordered : AreLogsOrdered (shared_of shared))
    (versions : (ino : ℕ) → (cell_at (shared_of shared) ino).version ≤ shared.book.state.commit)
    (few : shared.book.state.commit < NUMBER) where
  abbrev pub stamp : Stamp
  stamp = stamp_of (after_enter actor shared.book.state)

  takes_slot : (ino : ℕ) → ino < length shared.cells.items → (cell_at (shared_of shared) ino).generation < NUMBER
      → TakesCommit stamp (cell_in shared.cells.items ino)
  takes_slot ino lt low =
      let same = cell_is shared ino lt in
      record {
        later = later_than stamp (cell_in shared.cells.items ino)
            (subst (λ (c : CellState). IsBefore stamp.commit stamp.epoch c.chain.entries) same (ordered ino));
        version = (let e = ap (λ (c : CellState). c.version) same in omega (arith, e, versions ino, few));
        generation = subst (λ (c : CellState). c.generation < NUMBER) same low;
      }

  takes_at : (at : ℕ) → (cell_at (shared_of shared) (slot_at slots at)).generation < NUMBER
      → TakesCommit stamp (value_at (lent_cells slots shared.cells.items) at)
  takes_at at low = elim (cases_lt at (length slots)) [
    | inl lt ↦
        let inside = subst (λ (n : ℕ). slot_at slots at < n) (many_cells shared)
        (slot_inside (length (shared_of shared).cells) slots at are lt) in
        subst (λ (c : ℕ × CellValue). TakesCommit stamp c.1)
        (sym (get_or-map (λ (ino : ℕ). (ino, cell_in shared.cells.items ino)) slots at 0 no_cell lt))
        (takes_slot (slot_at slots at) inside low)
    | inr ge ↦
        let many : length (lent_cells slots shared.cells.items) ≡ length slots =
        length-map slots (λ (ino : ℕ). (ino, cell_in shared.cells.items ino)) in
        subst (λ (c : ℕ × CellValue). TakesCommit stamp c.1)
        (sym (get_or_past (lent_cells slots shared.cells.items) at no_cell (omega (arith, many, ge))))
        (none_takes stamp)
  ]

  pub given_takes : (ready : ReadyValue) (told : ShownCall) → IsReadyOf slots ready told
      → ((place : ℕ) → place < length (filter (is_written told.plan) slots)
      → (cell_at (shared_of shared) (slot_at (filter (is_written told.plan) slots) place)).generation < NUMBER)
      → AllByRecursion (λ p. TakesCommit stamp (value_at (lent_cells slots shared.cells.items) p.at)) ready.plans
  given_takes ready told is low =
      all_of (λ (p : CellCommitValue). (cell_at (shared_of shared) (slot_at slots p.at)).generation < NUMBER)
      (λ p. TakesCommit stamp (value_at (lent_cells slots shared.cells.items) p.at)) (λ p. takes_at p.at) ready.plans
      (all_places (λ (p : CellCommitValue). slot_at slots p.at) (λ ino. (cell_at (shared_of shared) ino).generation < NUMBER) ready.plans
      (subst (λ (l : List ℕ). (place : ℕ) → place < length l → (cell_at (shared_of shared) (slot_at l place)).generation < NUMBER)
      is.written low))

-- ---- journals

pub no_journal : (journals : List (List OldTail)) (cpu : ℕ) → AreClosed journals → slice_index_or journals cpu [] ≡ []
no_journal [] cpu closed = refl
no_journal (tails ∷ journals) zero closed = closed.0
no_journal (tails ∷ journals) (suc cpu) closed = no_journal journals cpu closed.1
