-- A world where a run may start has the locks, the logs, the blocks and the versions that each event keeps.
use Rattle.std.proofs.Common.{◌≡◌, ℕ, zero, suc, ◌%◌, ◌<◌, ◌∙◌, Bool, true, false, cond, not, List, [], ◌∷◌, Option, Some, None, ap, arith, inl, inr, length, map, refl, slice_get, slice_index_or, subst, sym, take}
use Rattle.std.specs.List.{AllByRecursion}
use Rattle.std.specs.Option.{option_map}
use Rattle.std.specs.Prelude.{is_none}
use Rattle.std.proofs.lemmas.Bool.{cases_lt}
use Rattle.std.proofs.lemmas.List.{get_or_past, take_all}
use Rattle.nv_alloc.specs.Block.{AreSized, BlockValue, number_of}
use Rattle.nv_base.specs.declared.geometry.GeometryNumbers.{GeometryNumbers}
use Rattle.nv_book.specs.Listed.{is_snapshot, manifest_told}
use Rattle.nv_book.specs.Records.{holder_of}
use Rattle.nv_book.specs.declared.manifest.Manifest.{Manifest}
use Rattle.nv_book.specs.declared.record.Record.{Record}
use Rattle.nv_cell.specs.Cell.{CellState, IsCell, log_of, mark_or_fresh, page_block}
use Rattle.nv_cell.specs.Marks.{is_current, is_there, mark_at}
use Rattle.nv_cell.specs.declared.mark.Mark.{Mark}
use Rattle.nv_cell.specs.declared.mark.Mark.TheVariants.{Current}
use Rattle.nv_entry.specs.Covered.{is_covered, part_total}
use Rattle.nv_entry.specs.declared.item.Entry.{Entry}
use Rattle.nv_entry.specs.Log.{pairs}
use Rattle.nv_entry.specs.declared.held.Pair.{Pair}
use Rattle.nv_epoch.specs.SnapList.{ids}
use Rattle.nv_machine.specs.Grown.{AreGrown, HasGrownBy, IsAllSettled}
use Rattle.nv_machine.specs.Hands.{AreNumbers, HandOf, IsParted}
use Rattle.nv_machine.specs.Kept.{HasPages, IsKept, KnowsOf}
use Rattle.nv_machine.specs.Kinds.{blocks_in}
use Rattle.nv_machine.specs.Locks.{AllRecords, AreLocks, HoldsIts, IsOfSlot, is_owner}
use Rattle.nv_machine.specs.Order.{CommitsIn, IsInOrder}
use Rattle.nv_machine.specs.Recorded.{IsOfPair}
use Rattle.nv_machine.specs.Settled.{settled}
use Rattle.nv_machine.specs.Starts.{IsStart}
use Rattle.nv_machine.specs.Versions.{AreCounted, HasUnseenBy}
use Rattle.nv_machine.specs.Whole.{HaveTheirParts}
use Rattle.nv_machine.specs.World.{Actor, World, actor_at, cell_at, idle, no_cell}
use Rattle.nv_machine.proofs.CellSteps.{empty_pages}
use Rattle.nv_machine.proofs.EachElement.{all_filter}
use Rattle.nv_machine.proofs.Journals.{closed_tail}
use Rattle.nv_machine.proofs.PartPlaces.{empty_parted}

-- ---- records are of slots

manifests_each : (P : Record → Type 0) (living snapshots : List ℕ) (rs : List Record) → AllByRecursion P rs
    → AllByRecursion (λ (m : Manifest). AllByRecursion P m.records) (map (manifest_told living rs) snapshots)
manifests_each P living [] rs all = tt
manifests_each P living (s ∷ snapshots) rs all =
    (all_filter P (λ r. is_snapshot s (holder_of living r)) rs all, manifests_each P living snapshots rs all)

no_pair : (n : ℕ) (pair : Pair) → slice_get (pairs 0 []) n ≡ Some pair → ⊥
no_pair n pair e = cc

of_slots : (w : World) (rs : List Record) → AllByRecursion (IsOfPair w) rs → AllByRecursion (IsOfSlot (length w.shared.cells)) rs
of_slots w [] all = tt
of_slots w (d ∷ rs) all = (
  elim (cases_lt d.ino (length w.shared.cells)) [
    | inl lt ↦ lt
    | inr past ↦ absurd (no_pair all.0.n all.0.pair
        (subst (λ (c : CellState). slice_get (pairs c.block (log_of c)) all.0.n ≡ Some all.0.pair)
        (get_or_past w.shared.cells d.ino no_cell past) all.0.is))
  ],
  of_slots w rs all.1,
)

-- ---- a cell of a slot

current_there : (marks : List Mark) (n : ℕ) → is_current (mark_at marks n) ≡ true → is_there (mark_or_fresh marks n) ≡ true
current_there [] n e = cc
current_there (m ∷ marks) (suc n) e = current_there marks n e
current_there (Current ∷ marks) zero e = refl
current_there other zero e = cc

-- a log that ends at its tail is published as a whole
whole_log : (cell : CellState) → cell.chain.tail ≡ length cell.chain.entries → log_of cell ≡ cell.chain.entries
whole_log cell tail = take_all cell.chain.tail cell.chain.entries (omega (arith, tail))

cell_pages : (cell : CellState) → IsCell cell → HasPages (log_of cell) cell
cell_pages cell is = record {
  pages = λ n number uncovered says.
      is.blocks.numbers n ∙ ap (λ (b : Bool). cond b (page_block cell.block cell.chain.entries n) None) (there n uncovered) ∙ says;
  len = is.blocks.len;
  within = is.chain.within;
} where
  there : (n : ℕ) → is_covered cell.block (log_of cell) n ≡ false → is_there (mark_or_fresh cell.marks n) ≡ true
  there n uncovered = elim (cases_lt n (part_total (log_of cell))) [
    | inl low ↦ current_there cell.marks n (is.marks.current n low ∙ ap not uncovered)
    | inr past ↦ ap is_there (get_or_past cell.marks n Current (omega (arith, past, is.marks.len)))
  ]

cell_parted : (block : ℕ) (cell : CellState) → IsCell cell → cell.block ≡ block → IsParted block cell
cell_parted block cell is size = record {
  within = is.chain.within;
  marks = is.marks.len;
  places = is.blocks.len;
  out = λ n gone. no_block (slice_index_or cell.blocks n None)
      (is.blocks.numbers n ∙ ap (λ (b : Bool). cond b (page_block cell.block cell.chain.entries n) None) gone);
  told = λ n b there. subst (λ (size : ℕ). page_block size cell.chain.entries n ≡ Some b.number) size
      (told (is_there (mark_or_fresh cell.marks n)) (page_block cell.block cell.chain.entries n) b.number
      (sym (is.blocks.numbers n) ∙ ap (option_map number_of) there));
  sized = λ n b there. is.blocks.sized n b there ∙ size;
  pages = subst (λ (size : ℕ). AreSized size cell.chain.blocks) size is.pages;
} where
  no_block : (o : Option BlockValue) → option_map number_of o ≡ None → o ≡ None
  no_block None e = refl
  no_block (Some b) e = cc

  told : (b : Bool) (page : Option ℕ) (number : ℕ) → cond b page None ≡ Some number → page ≡ Some number
  told true page number e = e
  told false page number e = cc

module _ (g : GeometryNumbers) (w : World) (records : List Record) (is : IsStart g w records) where
  -- of each slot, and of a number that is of none
  each_cell : (P : CellState → Type 0) → P no_cell → ((ino : ℕ) → ino < g.inodes → P (cell_at w.shared ino)) → (ino : ℕ)
      → P (cell_at w.shared ino)
  each_cell P none all ino = elim (cases_lt ino (length w.shared.cells)) [
    | inl lt ↦ all ino (omega (arith, lt, is.slots))
    | inr past ↦ subst P (sym (get_or_past w.shared.cells ino no_cell past)) none
  ]

  settled_whole : (ino : ℕ) → settled w.shared ino ≡ log_of (cell_at w.shared ino)
  settled_whole ino =
      ap (λ (tail : ℕ). take tail (cell_at w.shared ino).chain.entries)
      (closed_tail w.shared.book.journals ino (cell_at w.shared ino).chain.tail is.closed)

  of_idle : (P : Actor → Type 0) → P idle → (actor : ℕ) → P (actor_at w actor)
  of_idle P own actor = subst P (sym (is.idle_all actor)) own

  pub first_locks : AreLocks w
  first_locks = record {
    each = of_idle_locks;
    wide = is.owners ∙ sym is.slots;
    records = subst (λ (n : ℕ). AllRecords (IsOfSlot n) w.shared.book) (is.slots ∙ sym is.owners) (record {
      filed = subst (AllByRecursion (λ (m : Manifest). AllByRecursion (IsOfSlot (length w.shared.cells)) m.records))
          (sym is.list.manifests_are)
          (manifests_each (IsOfSlot (length w.shared.cells)) (ids w.shared.book.snaps) (ids w.shared.book.snaps) records slots);
      deferred = subst (AllByRecursion (IsOfSlot (length w.shared.cells))) (sym is.list.deferred_is)
          (all_filter (IsOfSlot (length w.shared.cells)) (λ r. is_none (holder_of (ids w.shared.book.snaps) r)) records slots);
    });
  } where
    slots : AllByRecursion (IsOfSlot (length w.shared.cells)) records
    slots = of_slots w records is.paired

    of_idle_locks : (actor : ℕ) → HoldsIts w.shared actor (actor_at w actor).running
    of_idle_locks actor = of_idle (λ (x : Actor). HoldsIts w.shared actor x.running) (record {
      owners = λ ino. ap (is_owner actor) (is.unlocked ino);
      holder = ap (is_owner actor) is.uncommitted;
      slots = tt;
    }) actor

  pub first_order : IsInOrder w
  first_order = record { logs = is.order; each = of_idle (λ (x : Actor). CommitsIn w.shared x.running) tt }

  pub first_kept : IsKept w
  first_kept = record {
    logs = record {
      pages = λ ino. subst (λ (log : List Entry). HasPages log (cell_at w.shared ino)) (sym (settled_whole ino))
          (each_cell (λ (c : CellState). HasPages (log_of c) c) (empty_pages [] 0 0 0 0)
          (λ n lt. cell_pages (cell_at w.shared n) (is.cells n lt)) ino);
      closed = λ free. is.closed;
      wide = is.journals ∙ sym is.lists.cpus;
      some = omega (arith, is.lists.cpus, is.limits.some_cpus);
    };
    each = λ actor. of_idle (λ (x : Actor). KnowsOf x.running w.numbers.block w.shared (actor % length w.shared.lists) x.hand) tt actor;
    some = omega (arith, ap (λ (n : GeometryNumbers). n.block) is.numbers, is.limits.some_bytes);
  }

  first_settled : (ino : ℕ) → IsAllSettled w.shared ino
  first_settled ino = record {
    entries = sym (settled_whole ino ∙ whole_log (cell_at w.shared ino) (is.tails ino));
    tail = is.tails ino;
  }

  pub first_grown : AreGrown w
  first_grown = record {
    free = λ ino free. first_settled ino;
    each = λ actor. of_idle (λ (x : Actor). HasGrownBy x.running w.shared actor) tt actor;
  }

  pub first_numbers : AreNumbers g w
  first_numbers = record {
    numbers = is.numbers;
    once = is.once;
    lists = is.lists;
    cells = each_cell (IsParted g.block) (empty_parted g.block 0 0 0 0)
        (λ n lt. cell_parted g.block (cell_at w.shared n) (is.cells n lt) (is.sizes n lt));
    tails = λ ino none. is.tails ino;
    sized = of_idle (λ (x : Actor). AreSized g.block (blocks_in x.hand)) tt;
    hands = of_idle (λ (x : Actor). HandOf g x.hand x.running) refl;
  }

  pub first_counted : AreCounted w
  first_counted = record { versions = is.versions; each = of_idle (λ (x : Actor). HasUnseenBy w.shared x.running) tt }

  pub first_parts : HaveTheirParts g.block w.shared
  first_parts ino lt =
      let inside : ino < g.inodes = omega (arith, lt, is.slots) in
      let cell = is.cells ino inside in
      record { size = is.sizes ino inside; within = cell.chain.within; marks = cell.marks; blocks = cell.blocks }
