-- Where nothing runs, the free lists, the rows and the pool are those of the world with numbers.
use Rattle.std.proofs.Common.{◌≡◌, ℕ, zero, suc, ◌+◌, ◌-◌, ◌%◌, ◌<◌, ◌≤◌, ◌++◌, ◌∙◌, ◌||◌, Bool, true, false, List, [], ◌∷◌, None, ap, append-nil, arith, flat_map, if◌then◌else◌, length, map, nat_le, refl, slice_get, sym, mod-lt}
use Rattle.std.proofs.lemmas.List.{length-map}
use Rattle.std.specs.Prelude.{not, option_to_list}
use Rattle.std.specs.List.{range_with_len}
use Rattle.nv_alloc.specs.Block.{numbers_of}
use Rattle.nv_alloc.specs.Numbers.{has, unused}
use Rattle.nv_base.specs.Homes.{home_start}
use Rattle.nv_base.specs.declared.geometry.GeometryNumbers.{GeometryNumbers}
use Rattle.nv_base.specs.declared.limits.TheConstants.{NUMBER}
use Rattle.nv_book.specs.declared.record.Record.{Record}
use Rattle.nv_cell.specs.Cell.{CellState, log_of, page_block}
use Rattle.nv_cell.specs.Readers.{has_entry, has_inode, is_withheld}
use Rattle.nv_entry.specs.Covered.{part_total}
use Rattle.nv_entry.specs.Held.{Retention}
use Rattle.nv_entry.specs.Log.{pairs}
use Rattle.nv_entry.specs.declared.item.Entry.{Entry}
use Rattle.nv_machine.specs.Held.{blocks_in_use, in_use_by, retention_at, used_by_logs, used_by_slot}
use Rattle.nv_machine.specs.Numbers.{free_of, held_by_actor}
use Rattle.nv_machine.specs.PoolScan.{is_number_used, number_held, numbers_held}
use Rattle.nv_machine.specs.Starts.{IsStart}
use Rattle.nv_machine.specs.World.{World, cell_at, list_at}
use Rattle.nv_machine.proofs.HeldLaw.{scanned_by_logs}
use Rattle.nv_machine.proofs.PartsFor.{none_of}
use Rattle.nv_serial.specs.Free.{blocks_kept, free_on, is_taken, pool_of, row_of, used_by, used_in}
use Rattle.nv_serial.specs.LogPages.{Page}
use Rattle.nv_serial.specs.Row.{row, row_at}
use Rattle.nv_serial.specs.Serial.{NumberedSlot, Serial, keepers, log_in, slot_of}
use Rattle.nv_serial.proofs.AtRestLogs.{keepers_are, log_is, slot_is, slots_many, told_by, told_numbers, whole_log}

-- ---- places one by one

same_places : (f k : ℕ → List ℕ) (from many : ℕ) → ((i : ℕ) → from ≤ i → i < from + many → f i
    ≡ k i)
    → flat_map f (range_with_len from many) ≡ flat_map k (range_with_len from many)
same_places f k from zero same = refl
same_places f k from (suc many) same =
    ap (λ (l : List ℕ). l ++ flat_map f (range_with_len (from + 1) many))
    (same from (omega arith) (omega arith))
    ∙ ap (λ (l : List ℕ). k from ++ l)
    (same_places f k (from + 1) many (λ i low lt. same i (omega (arith, low)) (omega (arith, lt))))

same_unused : (f k : ℕ → Bool) (from many : ℕ) → ((i : ℕ) → i < from + many → f i ≡ k i)
    → unused f from many ≡ unused k from many
same_unused f k from zero same = refl
same_unused f k from (suc many) same =
    let rest : unused f (from + 1) many ≡ unused k (from + 1) many =
    same_unused f k (from + 1) many (λ i lt. same i (omega (arith, lt))) in
    ap (λ (b : Bool). if not b then from ∷ unused f (from + 1) many else unused f (from + 1) many)
    (same from (omega arith))
    ∙ ap (λ (l : List ℕ). if not (k from) then from ∷ l else l) rest

or_both : (a b c : Bool) → c ≡ false → (a || b) ≡ (a || b || c)
or_both true b c none = refl
or_both false true c none = refl
or_both false false c none = sym none

module _ (g : GeometryNumbers) (w : World) (rs : List Record) (is : IsStart g w rs) where
  abbrev s : Serial
  s = told_by g w rs

  -- ---- the blocks of a slot

  blocks_are : (ino : ℕ) → ino < g.inodes
      → blocks_kept (keepers s ino) (log_in s ino) ≡ blocks_in_use (retention_at w ino)
      (cell_at w.shared ino)
  blocks_are ino lt =
      let cell : CellState = cell_at w.shared ino in
      ap (λ (r : Retention). blocks_kept r (log_in s ino)) (keepers_are g w rs is ino lt)
      ∙ ap (blocks_kept (retention_at w ino)) (log_is g w rs is ino)
      ∙ ap (λ (es : List Entry). flat_map (λ n. option_to_list
      (if in_use_by (retention_at w ino) (slice_get (pairs cell.block (log_of cell)) n)
      then page_block cell.block es n
      else None)) (range_with_len 0 (part_total es))) (whole_log g w rs is ino)

  pub used_by_is : (ino : ℕ) → ino < g.inodes → used_by s ino ≡ used_by_slot w ino
  used_by_is ino lt =
      let cell : CellState = cell_at w.shared ino in
      ap (λ (slot : NumberedSlot). map (λ (p : Page). p.number) slot.pages ++ blocks_kept
      (keepers s ino) (log_in s ino))
      (slot_is g w rs is ino)
      ∙ ap (λ (ns : List ℕ). ns ++ blocks_kept (keepers s ino) (log_in s ino))
      (told_numbers cell.chain.blocks _)
      ∙ ap (λ (ns : List ℕ). numbers_of cell.chain.blocks ++ ns) (blocks_are ino lt)

  pub used_is : used_in s ≡ used_by_logs w
  used_is =
      let many : length s.slots ≡ length w.shared.cells = length-map w.shared.cells _ in
      same_places (used_by s) (used_by_slot w) 0 (length s.slots)
      (λ i low lt. used_by_is i (omega (arith, lt, slots_many g w rs is)))
      ∙ ap (λ (n : ℕ). flat_map (used_by_slot w) (range_with_len 0 n)) many
      ∙ sym (append-nil (flat_map (used_by_slot w) (range_with_len 0 (length w.shared.cells))))
      ∙ ap (λ (held : List ℕ). flat_map (used_by_slot w) (range_with_len 0 (length w.shared.cells))
      ++ held)
      (sym (none_of held_by_actor w.actors (λ b. ap held_by_actor (is.idle_all b))))

  -- ---- THE FREE LISTS, and the row of an actor

  pub free_is : (cpu : ℕ) → cpu < g.cpus → free_of (list_at w.shared cpu) ≡ free_on s cpu
  free_is cpu lt =
      scanned_by_logs g w rs [] cpu is lt
      ∙ ap (λ (used : List ℕ). unused (has used) (home_start g.blocks g.cpus cpu)
      (home_start g.blocks g.cpus (cpu + 1) - home_start g.blocks g.cpus cpu)) (sym used_is)

  row_from : (actor from count : ℕ)
      → row g.cpus actor from count w.shared.lists
      ≡ flat_map (λ k. free_on s ((actor + k) % g.cpus)) (range_with_len from count)
  row_from actor from zero = refl
  row_from actor from (suc count) =
      let step : suc from ≡ from + 1 = omega arith in
      ap (λ (ns : List ℕ). ns ++ row g.cpus actor (suc from) count w.shared.lists)
      (free_is ((actor + from) % g.cpus)
      (mod-lt (actor + from) (omega (arith, is.limits.some_cpus))))
      ∙ ap (λ (ns : List ℕ). free_on s ((actor + from) % g.cpus) ++ ns)
      (ap (λ (n : ℕ). row g.cpus actor n count w.shared.lists) step ∙ row_from actor (from + 1)
      count)

  pub row_is : (actor : ℕ) → row_at w.shared actor ≡ row_of s actor
  row_is actor = ap (λ (n : ℕ). row n actor 0 n w.shared.lists) is.lists.cpus
      ∙ row_from actor 0 g.cpus

  -- ---- THE POOL

  taken_is : (ino : ℕ) → is_taken s ino ≡ is_number_used w ino
  taken_is ino =
      ap (λ (es : List Entry). has_entry es || nat_le NUMBER (slot_of s ino).generation)
      (log_is g w rs is ino)
      ∙ ap (λ (slot : NumberedSlot). has_inode (cell_at w.shared ino) || nat_le NUMBER
      slot.generation) (slot_is g w rs is ino)
      ∙ or_both (has_inode (cell_at w.shared ino)) (is_withheld (cell_at w.shared ino))
      (has (numbers_held w) ino)
      (ap (λ (ns : List ℕ). has ns ino)
      (none_of number_held w.actors (λ b. ap number_held (is.idle_all b))))

  pub pool_is : w.shared.pool.numbers ≡ pool_of s
  pool_is =
      is.pool ∙ sym (same_unused (is_taken s) (is_number_used w) 0 g.inodes (λ i lt. taken_is i))
      ∙ ap (unused (is_taken s) 0) (sym (slots_many g w rs is))
