-- The parts that a world lends to a step, and what became of them.
use Rattle.std.proofs.Common.{◌≡◌, ◌∙◌, ℕ, zero, suc, ◌+◌, ◌<◌, true, List, [], ◌∷◌, Option, None, ap, ap₂, arith, length, refl, replicate, slice_index_or, slice_set, subst, sym}
use Rattle.std.proofs.lemmas.List.{get_or-set_same, length-map, length-replicate}
use Rattle.std.proofs.Math.Nat.{zero-div}
use Rattle.nv_alloc.specs.Block.{BlockValue}
use Rattle.nv_alloc.specs.FreeList.{FreeBlocks}
use Rattle.nv_base.specs.declared.geometry.GeometryNumbers.{GeometryNumbers}
use Rattle.nv_cell.specs.Cell.{CellState, CellValue}
use Rattle.nv_machine.specs.Hands.{AreGiven}
use Rattle.nv_machine.specs.Kinds.{wants_pages}
use Rattle.nv_machine.specs.Reads.{home_from, pages_wanted, plan_by}
use Rattle.nv_machine.specs.Step.{kind_turn, turn}
use Rattle.nv_machine.specs.World as machine
use Rattle.nv_machine.specs.World.{HandState, Moves, cell_at, list_at, no_cell, no_list, with_list}
use Rattle.nv_steps.specs.OnList.{HaveSameHomes, IsPlanned, on_list}
use Rattle.nv_steps.specs.Parts.{CellIs, Has, IsOf, Part}
use Rattle.nv_steps.specs.Turns.{IsMove}
use Rattle.nv_steps.proofs.BookTurns.{by_next}
use Rattle.nv_steps.proofs.ListTurns.{planned}
use Rattle.nv_core.specs.Parts.{AreHome}
use Rattle.nv_core.specs.Shown.{shared_of}
use Rattle.nv_core.specs.declared.shared.Shared.{Shared}

-- the device's numbers, with as many inodes as there are slots
abbrev pub numbers_for : Shared → GeometryNumbers
numbers_for shared = record shared.geometry.numbers { inodes = length (shared_of shared).cells }

pub is_of : (shared : Shared) → AreHome shared → length shared.owners.items ≡ length shared.cells.items
    → IsOf (numbers_for shared) (shared_of shared)
is_of shared home wide = record {
  lists = home.count;
  homes = λ cpu lt. let own = home.each cpu lt in record { start = own.start; end = own.end };
  cells = refl;
  owners = wide ∙ sym (length-map shared.cells.items (λ (c : CellValue). c.state));
}

-- ---- homes

none_given : (g : GeometryNumbers) (bs : List BlockValue) → AreGiven g 0 bs
none_given g [] = tt
none_given g (b ∷ bs) = let zero_first = zero-div g.cpus in (omega (arith, zero_first), none_given g bs)

-- the first home of all blocks is told by the lists alone
pub home_told : (shared : Shared) (bs : List BlockValue) (found : Option ℕ) → AreHome shared
    → ((numbers : GeometryNumbers) (from : ℕ) (s : machine.Shared) → HaveSameHomes numbers shared.geometry.numbers → IsOf numbers s
    → AreGiven numbers from bs → home_from from 0 s.lists bs ≡ found)
    → home_from 0 0 (shared_of shared).lists bs ≡ found
home_told shared bs found home told =
    let s = shared_of shared in
    let free : List (Option ℕ) = replicate (length s.cells) None in
    told (numbers_for shared) 0 (record s { owners = free }) (record { blocks = refl; cpus = refl })
    (record {
      lists = home.count;
      homes = λ cpu lt. let own = home.each cpu lt in record { start = own.start; end = own.end };
      cells = refl;
      owners = length-replicate (length s.cells) None;
    })
    (none_given (numbers_for shared) bs)

-- ---- all cells, as parts

abbrev cells_from : ℕ → List CellState → List Part
cells_from n [] = []
cells_from n (c ∷ cells) = CellIs n c ∷ cells_from (n + 1) cells

has_from : (s : machine.Shared) (n : ℕ) (cells : List CellState)
    → ((k : ℕ) → k < length cells → (n + k < length s.cells) × (cell_at s (n + k) ≡ slice_index_or cells k no_cell))
    → Has s (cells_from n cells)
has_from s n [] each = tt
has_from s n (c ∷ cells) each =
    let here : n + 0 ≡ n = omega arith in (
      subst (λ (m : ℕ). (m < length s.cells) × (cell_at s m ≡ c)) here (each 0 (omega arith)),
      has_from s (n + 1) cells (λ k lt.
          let there : n + suc k ≡ n + 1 + k = omega arith in
          subst (λ (m : ℕ). (m < length s.cells) × (cell_at s m ≡ slice_index_or cells k no_cell)) there (each (suc k) (omega (arith, lt)))),
    )

found_from : (s : machine.Shared) (n : ℕ) (cells : List CellState) → Has s (cells_from n cells) → (k : ℕ) → k < length cells
    → cell_at s (n + k) ≡ slice_index_or cells k no_cell
found_from s n [] has k lt = absurd (omega (arith, lt))
found_from s n (c ∷ cells) has zero lt =
    let here : n ≡ n + 0 = omega arith in subst (λ (m : ℕ). cell_at s m ≡ c) here has.0.1
found_from s n (c ∷ cells) has (suc k) lt =
    let there : n + 1 + k ≡ n + suc k = omega arith in
    subst (λ (m : ℕ). cell_at s m ≡ slice_index_or cells k no_cell) there (found_from s (n + 1) cells has.1 k (omega (arith, lt)))

same_each : (xs ys : List CellState) → length xs ≡ length ys
    → ((k : ℕ) → k < length ys → slice_index_or xs k no_cell ≡ slice_index_or ys k no_cell) → xs ≡ ys
same_each [] [] many each = refl
same_each [] (y ∷ ys) many each = absurd (omega (arith, many))
same_each (x ∷ xs) [] many each = absurd (omega (arith, many))
same_each (x ∷ xs) (y ∷ ys) many each =
    ap₂ (λ (c : CellState) (cs : List CellState). c ∷ cs) (each 0 (omega arith))
    (same_each xs ys (omega (arith, many)) (λ k lt. each (suc k) (omega (arith, lt))))

-- ---- a list that was lent

module _ (old new : Shared) (cpu : ℕ) (left : FreeBlocks) (home : AreHome old) (wide : length old.owners.items ≡ length old.cells.items)
    (inside : cpu < length old.lists.items) (rest : new ≡ record old { lists = new.lists })
    (is : new.lists.items ≡ slice_set old.lists.items cpu left) where
  abbrev s : machine.Shared
  s = shared_of old

  abbrev t : machine.Shared
  t = shared_of new

  pub list_there : list_at t cpu ≡ left
  list_there =
      ap (λ (l : List FreeBlocks). slice_index_or l cpu no_list) is ∙ get_or-set_same old.lists.items cpu left no_list inside

  -- with the list as it was left, what is shared is what it became
  list_became : with_list cpu (list_at t cpu) s ≡ t
  list_became =
      ap (λ (l : FreeBlocks). with_list cpu l s) list_there
      ∙ sym (ap shared_of rest ∙ ap (λ (l : List FreeBlocks). record s { lists = l }) is)

  module _ (actor : ℕ) (k : machine.Next) (h after goes : HandState) (r : machine.Running) (next : r.next ≡ k) (hand : after ≡ goes) where
    turn_at : (q : machine.Turn) → turn old.geometry.numbers.block actor true s h r ≡ q
        → kind_turn k old.geometry.numbers.block actor true s h r ≡ q
    turn_at q comes = sym (by_next k old.geometry.numbers.block actor true s h r next) ∙ comes

    pub list_moves : (q : machine.Running) → IsMove (numbers_for old) actor (on_list r h cpu (list_at s cpu) (list_at t cpu)) after q
        → kind_turn k old.geometry.numbers.block actor true s h r ≡ Moves t goes q
    list_moves q moves =
        turn_at (Moves t goes q) (moves s (is_of old home wide) ((inside, refl), tt)
        ∙ ap₂ (λ (u : machine.Shared) (x : HandState). Moves u x q) list_became hand)

    -- a call that has its data blocks goes on as its plan wants, by the cells of the world
    pub list_planned : IsPlanned (numbers_for old) actor (on_list r h cpu (list_at s cpu) (list_at t cpu)) after
        → let block = old.geometry.numbers.block in
        kind_turn k block actor true s h r ≡ wants_pages (pages_wanted t r.slots (plan_by block t goes r)) t goes r
    list_planned plans =
        let block = old.geometry.numbers.block in
        let pages = pages_wanted s r.slots (plan_by block s after r) in
        let by = λ (cells : List CellState) (u : machine.Shared).
        pages_wanted (record u { cells = cells }) r.slots (plan_by block (record u { cells = cells }) after r) in
        turn_at (wants_pages (pages_wanted t r.slots (plan_by block t goes r)) t goes r)
        (plans (cells_from 0 s.cells) pages
        (λ u there has. ap (λ (cells : List CellState). by cells u) (same_each u.cells s.cells there.cells (λ k lt.
        let here : 0 + k ≡ k = omega arith in
        subst (λ (m : ℕ). cell_at u m ≡ slice_index_or s.cells k no_cell) here (found_from u 0 s.cells has k lt))))
        s (is_of old home wide) (
          (inside, refl),
          has_from s 0 s.cells (λ k lt.
              let here : k ≡ 0 + k = omega arith in
              subst (λ (m : ℕ). (m < length s.cells) × (cell_at s m ≡ slice_index_or s.cells k no_cell)) here (lt, refl)),
        )
        ∙ sym (planned pages (with_list cpu (list_at t cpu) s) after r)
        ∙ ap₂ (λ (u : machine.Shared) (x : HandState). wants_pages (pages_wanted u r.slots (plan_by block u x r)) u x r) list_became hand)
