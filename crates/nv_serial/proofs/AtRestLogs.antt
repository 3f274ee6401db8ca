-- Where nothing runs, the slots of the world with numbers show the cells: their logs, and what
-- keeps their pairs.
use Rattle.std.proofs.Common.{◌≡◌, ℕ, zero, suc, ◌<◌, ◌≤◌, ◌++◌, ◌∙◌, List, [], ◌∷◌, ap, append-nil, arith, filter, length, map, refl, slice_index_or, subst, sym, take, take_all, inl, inr}
use Rattle.std.proofs.lemmas.Bool.{cases_lt}
use Rattle.std.proofs.lemmas.List.{get_or_past, length-map}
use Rattle.nv_alloc.specs.Block.{BlockValue, numbers_of}
use Rattle.nv_base.specs.declared.geometry.GeometryNumbers.{GeometryNumbers}
use Rattle.nv_book.specs.Listed.{unheld}
use Rattle.nv_book.specs.declared.record.Record.{Record}
use Rattle.nv_calls.specs.Retiring.{name_of}
use Rattle.nv_cell.specs.Cell.{CellState, log_of}
use Rattle.nv_cell.specs.declared.killed.KilledPart.{KilledPart}
use Rattle.nv_entry.specs.declared.item.Entry.{Entry}
use Rattle.nv_epoch.specs.SnapList.{ids, numbers}
use Rattle.nv_epoch.specs.declared.snapshot.Snapshot.{Snapshot}
use Rattle.nv_log.proofs.Parts.{joined-parts, length-parts}
use Rattle.nv_log.specs.Chain.{ChainState, joined, pages_of}
use Rattle.nv_machine.specs.Held.{is_of_slot, killed_by_actor, killed_in, pending_at, pending_in, picked_by_actor, retention_at}
use Rattle.nv_machine.specs.Pages.{AreOnPages}
use Rattle.nv_machine.specs.PlainRun.{Copy, copy_in, plain_of}
use Rattle.nv_machine.specs.Starts.{IsStart}
use Rattle.nv_machine.specs.World.{Shared, World, cell_at, no_cell}
use Rattle.nv_machine.proofs.PartsFor.{none_of}
use Rattle.nv_serial.specs.LogPages.{Page, entries_in}
use Rattle.nv_serial.specs.Serial.{NumberedSlot, Serial, keepers, living, log_in, no_slot, slot_of}
use Rattle.nv_serial.specs.Shown.{pages_told, slot_told}

-- ---- pages and slots

pub told_entries : (blocks : List BlockValue) (parts : List (List Entry)) → length parts
    ≤ length blocks
    → entries_in (pages_told blocks parts) ≡ joined parts
told_entries [] [] le = refl
told_entries [] (part ∷ parts) le = absurd (omega (arith, le))
told_entries (b ∷ blocks) [] le = told_entries blocks [] (omega arith)
told_entries (b ∷ blocks) (part ∷ parts) le = ap (λ (es : List Entry). part ++ es)
    (told_entries blocks parts (omega (arith, le)))

pub told_numbers : (blocks : List BlockValue) (parts : List (List Entry))
    → map (λ (p : Page). p.number) (pages_told blocks parts) ≡ numbers_of blocks
told_numbers [] parts = refl
told_numbers (b ∷ blocks) [] = ap (λ (ns : List ℕ). b.number ∷ ns) (told_numbers blocks [])
told_numbers (b ∷ blocks) (part ∷ parts) = ap (λ (ns : List ℕ). b.number ∷ ns)
    (told_numbers blocks parts)

-- the entries on the pages of a chain are all its entries
pub shown_entries : (page : ℕ) (chain : ChainState) → AreOnPages page chain
    → entries_in (pages_told chain.blocks (pages_of chain)) ≡ chain.entries
shown_entries page chain on =
    told_entries chain.blocks (pages_of chain)
    (omega (arith, on.each, length-parts 0 chain.ends chain.entries))
    ∙ joined-parts page 0 chain.ends (length chain.entries) chain.entries on.parted (omega arith)

pub told_at : (cells : List CellState) (ino : ℕ) → slice_index_or (map slot_told cells) ino no_slot
    ≡ slot_told (slice_index_or cells ino no_cell)
told_at [] ino = refl
told_at (cell ∷ cells) zero = refl
told_at (cell ∷ cells) (suc ino) = told_at cells ino

copied_ids : (s : Shared) (snapshots : List Snapshot) → map (λ (c : Copy). c.snapshot)
    (map (copy_in s) snapshots) ≡ numbers snapshots
copied_ids s [] = refl
copied_ids s (snapshot ∷ snapshots) = ap (λ (ns : List ℕ). snapshot.number ∷ ns)
    (copied_ids s snapshots)

-- ---- a world in which nothing runs, with its records

-- the world with numbers of such a world
abbrev pub told_by : GeometryNumbers → World → List Record → Serial
told_by g w rs = record {
  numbers = g;
  plain = plain_of w;
  slots = map slot_told w.shared.cells;
  records = rs;
}

module _ (g : GeometryNumbers) (w : World) (rs : List Record) (is : IsStart g w rs) where
  abbrev s : Serial
  s = told_by g w rs

  pub slot_is : (ino : ℕ) → slot_of s ino ≡ slot_told (cell_at w.shared ino)
  slot_is ino = told_at w.shared.cells ino

  pub slots_many : length s.slots ≡ g.inodes
  slots_many = length-map w.shared.cells slot_told ∙ is.slots

  pub past_cells : (ino : ℕ) → g.inodes ≤ ino → cell_at w.shared ino ≡ no_cell
  past_cells ino ge = get_or_past w.shared.cells ino no_cell (omega (arith, ge, is.slots))

  -- each log ends at its tail
  pub whole_log : (ino : ℕ) → log_of (cell_at w.shared ino) ≡ (cell_at w.shared ino).chain.entries
  whole_log ino =
      let es = (cell_at w.shared ino).chain.entries in
      ap (λ (n : ℕ). take n es) (is.tails ino) ∙ take_all (length es) es (omega arith)

  -- THE LOG of a slot
  pub log_is : (ino : ℕ) → log_in s ino ≡ log_of (cell_at w.shared ino)
  log_is ino = ap (λ (slot : NumberedSlot). entries_in slot.pages) (slot_is ino)
      ∙ elim (cases_lt ino g.inodes) [
        | inl lt ↦ shown_entries g.page (cell_at w.shared ino).chain (is.pages ino lt)
            ∙ sym (whole_log ino)
        | inr ge ↦ subst (λ (cell : CellState). entries_in (slot_told cell).pages ≡ log_of cell)
            (sym (past_cells ino ge)) refl
      ]

  pub living_is : living s ≡ ids w.shared.book.snaps
  living_is = copied_ids w.shared w.shared.book.snaps.living

  -- ---- what keeps the pairs of a slot

  pub pending_is : pending_in w ≡ unheld (living s) rs
  pending_is =
      ap (λ (ds : List Record). w.shared.book.deferred ++ ds)
      (none_of picked_by_actor w.actors (λ b. ap picked_by_actor (is.idle_all b)))
      ∙ append-nil w.shared.book.deferred ∙ is.list.deferred_is ∙ ap (λ (ns : List ℕ). unheld ns rs)
      (sym living_is)

  pub killed_none : (ino : ℕ) → killed_in w ino ≡ []
  killed_none ino = none_of (killed_by_actor ino) w.actors (λ b. ap (killed_by_actor ino)
      (is.idle_all b))

  pub names_are : (ino : ℕ) → map name_of (filter (is_of_slot ino) (unheld (living s) rs))
      ≡ pending_at w ino
  names_are ino = ap (λ (ds : List Record). map name_of (filter (is_of_slot ino) ds))
      (sym pending_is)

  pub keepers_are : (ino : ℕ) → ino < g.inodes → keepers s ino ≡ retention_at w ino
  keepers_are ino lt =
      let names : (keepers s ino).pending ≡ (retention_at w ino).pending =
      names_are ino ∙ sym (append-nil (pending_at w ino))
      ∙ ap (λ (ks : List KilledPart). pending_at w ino ++ map (λ (k : KilledPart). k.part) ks)
      (sym (killed_none ino)) in
      let size : g.block ≡ (cell_at w.shared ino).block = sym (is.sizes ino lt) in
      λ i. record { block = size i; snapshots = living_is i; pending = names i }
