-- Some shared state has parts at places apart.
use Rattle.std.proofs.Common.{◌≡◌, ◌≢◌, ◌∙◌, ℕ, ◌+◌, ◌<◌, ◌==◌, Bool, true, false, List, [], ◌∷◌, Option, None, ap, arith, length, map, refl, replicate, subst, sym}
use Rattle.std.specs.Prelude.{slice_index_or, slice_set}
use Rattle.std.specs.List.{AllByRecursion, range_with_len}
use Rattle.std.proofs.lemmas.Bool.{eq-eqb, eqb-true, true≢false}
use Rattle.std.proofs.lemmas.List.{get_or-set_other, get_or-set_same, length-replicate, length-set}
use Rattle.std.proofs.lemmas.List.FromFn.{get_or-map-range_with_len, length-map-range_with_len}
use Rattle.nv_alloc.specs.FreeList.{FreeBlocks}
use Rattle.nv_base.specs.Homes.{home_start}
use Rattle.nv_base.specs.declared.geometry.GeometryNumbers.{GeometryNumbers}
use Rattle.nv_book.specs.Book.{empty_book}
use Rattle.nv_machine.specs.World.{Shared, no_cell, no_list}
use Rattle.nv_steps.specs.Parts.{AreApart, BookIs, CellAt, CellIs, Has, HasPart, HolderIs, IsAtHome, IsOf, IsPartOf, IsThere, ListAt, ListIs, OwnerAt, OwnerIs, Part, PoolIs, place_of, with_part, with_parts}

-- ---- a part that is put in

home_set : (numbers : GeometryNumbers) (lists : List FreeBlocks) (cpu n : ℕ) (list : FreeBlocks) → cpu < length lists
    → IsAtHome numbers cpu list → IsAtHome numbers n (slice_index_or lists n no_list)
    → IsAtHome numbers n (slice_index_or (slice_set lists cpu list) n no_list)
home_set numbers lists cpu n list inside home was = go (n == cpu) refl where
  go : (b : Bool) → (n == cpu) ≡ b → IsAtHome numbers n (slice_index_or (slice_set lists cpu list) n no_list)
  go true e =
      let same : n ≡ cpu = eqb-true n cpu e in
      subst (λ (m : ℕ). IsAtHome numbers m (slice_index_or (slice_set lists cpu list) m no_list)) (sym same)
      (subst (IsAtHome numbers cpu) (sym (get_or-set_same lists cpu list no_list inside)) home)
  go false e =
      let apart : n ≢ cpu = λ same. true≢false (sym (eq-eqb n cpu same) ∙ e) in
      subst (IsAtHome numbers n) (sym (get_or-set_other lists cpu n list no_list apart)) was

keeps_of : (numbers : GeometryNumbers) (part : Part) (s : Shared) → IsPartOf numbers part → IsOf numbers s
    → IsOf numbers (with_part part s)
keeps_of numbers (ListIs cpu list) s are is = record {
  lists = length-set s.lists cpu list ∙ is.lists;
  homes = λ n inside. home_set numbers s.lists cpu n list (omega (arith, are.0, is.lists)) are.1 (is.homes n inside);
  cells = is.cells;
  owners = is.owners;
}
keeps_of numbers (CellIs ino cell) s are is =
    record { lists = is.lists; homes = is.homes; cells = length-set s.cells ino cell ∙ is.cells; owners = is.owners }
keeps_of numbers (OwnerIs ino owner) s are is =
    record { lists = is.lists; homes = is.homes; cells = is.cells; owners = length-set s.owners ino owner ∙ is.owners }
keeps_of numbers other s are is = record { lists = is.lists; homes = is.homes; cells = is.cells; owners = is.owners }

-- it is there
has_own : (numbers : GeometryNumbers) (part : Part) (s : Shared) → IsPartOf numbers part → IsOf numbers s
    → HasPart (with_part part s) part
has_own numbers (ListIs cpu list) s are is =
    let inside : cpu < length s.lists = omega (arith, are.0, is.lists) in
    (omega (arith, inside, length-set s.lists cpu list), get_or-set_same s.lists cpu list no_list inside)
has_own numbers (CellIs ino cell) s are is =
    let inside : ino < length s.cells = omega (arith, are, is.cells) in
    (omega (arith, inside, length-set s.cells ino cell), get_or-set_same s.cells ino cell no_cell inside)
has_own numbers (OwnerIs ino owner) s are is =
    let inside : ino < length s.owners = omega (arith, are, is.owners) in
    (omega (arith, inside, length-set s.owners ino owner), get_or-set_same s.owners ino owner None inside)
has_own numbers (PoolIs pool) s are is = refl
has_own numbers (BookIs book) s are is = refl
has_own numbers (HolderIs holder) s are is = refl

-- and one at another place is as it was
keeps_part : (put part : Part) (s : Shared) → place_of part ≢ place_of put → HasPart s part → HasPart (with_part put s) part
keeps_part (ListIs cpu list) (ListIs n other) s apart has = (
  omega (arith, has.0, length-set s.lists cpu list),
  get_or-set_other s.lists cpu n list no_list (λ same. apart (ap ListAt same)) ∙ has.1,
)
keeps_part (ListIs cpu list) other s apart has = has
keeps_part (PoolIs pool) (PoolIs other) s apart has = absurd (apart refl)
keeps_part (PoolIs pool) other s apart has = has
keeps_part (CellIs ino cell) (CellIs n other) s apart has = (
  omega (arith, has.0, length-set s.cells ino cell),
  get_or-set_other s.cells ino n cell no_cell (λ same. apart (ap CellAt same)) ∙ has.1,
)
keeps_part (CellIs ino cell) other s apart has = has
keeps_part (OwnerIs ino owner) (OwnerIs n other) s apart has = (
  omega (arith, has.0, length-set s.owners ino owner),
  get_or-set_other s.owners ino n owner None (λ same. apart (ap OwnerAt same)) ∙ has.1,
)
keeps_part (OwnerIs ino owner) other s apart has = has
keeps_part (BookIs book) (BookIs other) s apart has = absurd (apart refl)
keeps_part (BookIs book) other s apart has = has
keeps_part (HolderIs holder) (HolderIs other) s apart has = absurd (apart refl)
keeps_part (HolderIs holder) other s apart has = has

-- ---- several parts

keeps_through : (parts : List Part) (part : Part) (s : Shared) → AllByRecursion (λ other. place_of other ≢ place_of part) parts
    → HasPart s part → HasPart (with_parts parts s) part
keeps_through [] part s apart has = has
keeps_through (put ∷ parts) part s apart has =
    keeps_through parts part (with_part put s) apart.1 (keeps_part put part s (λ same. apart.0 (sym same)) has)

-- a state with these parts in place of its own has them, and is of the same numbers
pub has_parts : (numbers : GeometryNumbers) (parts : List Part) (s : Shared) → AreApart parts
    → AllByRecursion (IsPartOf numbers) parts → IsOf numbers s → Has (with_parts parts s) parts × IsOf numbers (with_parts parts s)
has_parts numbers [] s apart are is = (tt, is)
has_parts numbers (part ∷ parts) s apart are is =
    let more = has_parts numbers parts (with_part part s) apart.1 are.1 (keeps_of numbers part s are.0 is) in
    ((keeps_through parts part (with_part part s) apart.0 (has_own numbers part s are.0 is), more.0), more.1)

-- ---- a state without anything

abbrev no_blocks : GeometryNumbers → ℕ → FreeBlocks
no_blocks numbers cpu = record {
  start = home_start numbers.blocks numbers.cpus cpu;
  end = home_start numbers.blocks numbers.cpus (cpu + 1);
  size = numbers.block;
  blocks = [];
}

abbrev blank : GeometryNumbers → Shared
blank numbers = record {
  lists = map (no_blocks numbers) (range_with_len 0 numbers.cpus);
  pool = record { inodes = numbers.inodes; numbers = [] };
  cells = replicate numbers.inodes no_cell;
  owners = replicate numbers.inodes None;
  book = empty_book numbers 1 0;
  holder = None;
}

blank_is_of : (numbers : GeometryNumbers) → IsOf numbers (blank numbers)
blank_is_of numbers = record {
  lists = length-map-range_with_len (no_blocks numbers) 0 numbers.cpus;
  homes = λ cpu inside. subst (IsAtHome numbers cpu)
      (sym (get_or-map-range_with_len (no_blocks numbers) 0 numbers.cpus cpu cpu no_list inside (omega arith)))
      (record { start = refl; end = refl });
  cells = length-replicate numbers.inodes no_cell;
  owners = length-replicate {A = Option ℕ} numbers.inodes None;
}

pub some_state : (numbers : GeometryNumbers) (parts : List Part) → AreApart parts → AllByRecursion (IsPartOf numbers) parts
    → IsThere numbers parts
some_state numbers parts apart are =
    let all = has_parts numbers parts (blank numbers) apart are (blank_is_of numbers) in
    record { shared = with_parts parts (blank numbers); is_of = all.1; has = all.0 }
