-- The cell that a mount makes of a slot is one.
use Rattle.std.proofs.Common.{◌≡◌, ℕ, zero, suc, ◌≤◌, List, [], ◌∷◌, arith, length, refl, subst, sym, take}
use Rattle.std.specs.List.{AllByRecursion}
use Rattle.std.proofs.lemmas.List.{length-take, take_all}
use Rattle.std.proofs.lemmas.Option.{none-some}
use Rattle.nv_alloc.specs.Block.{AreSized, BlockValue}
use Rattle.nv_audit.specs.Image.{SlotImageValue}
use Rattle.nv_cell.specs.Anew.{AreThere}
use Rattle.nv_audit.specs.Mounted.{cell_with}
use Rattle.nv_base.specs.Limits.{IsWithinLimits}
use Rattle.nv_base.specs.declared.geometry.GeometryNumbers.{GeometryNumbers}
use Rattle.nv_cell.specs.Cell.{CellState, HasBlocks, HasMarks, IsCell, empty_cell, log_of}
use Rattle.nv_cell.proofs.CellAnew.{blocks_are as blocks_made, marks_are as marks_made}
use Rattle.nv_cell.proofs.ValuesNow.{IsLog-take}
use Rattle.nv_entry.specs.Log.{IsLog}
use Rattle.nv_entry.specs.declared.item.Entry.{Entry}
use Rattle.nv_log.specs.Chain.{AreEnds, IsChain}
use Rattle.nv_log.specs.Image.{IsPaged, cut_ends}
use Rattle.nv_log.proofs.Cuts.{AreEnds-cut, few_ends}

pub all_front : {X : Type 0} (P : X → Type 0) (t : ℕ) (xs : List X) → AllByRecursion P xs
    → AllByRecursion P (take t xs)
all_front P zero [] all = tt
all_front P (suc t) [] all = tt
all_front P zero (x ∷ xs) all = tt
all_front P (suc t) (x ∷ xs) all = (all.0, all_front P t xs all.1)

-- ---- the cell

pub log_is : (g : GeometryNumbers) (living : List ℕ) (n : ℕ) (slot : SlotImageValue)
    → log_of (cell_with g living n slot) ≡ take n slot.chain.entries
log_is g living n slot =
    take_all n (take n slot.chain.entries) (omega (arith, length-take n slot.chain.entries))

module _ (g : GeometryNumbers) (limits : IsWithinLimits g) (living : List ℕ) (n : ℕ)
    (slot : SlotImageValue)
    (good : IsPaged g.page slot.chain) (few : n ≤ length slot.chain.entries)
    (rising : IsLog slot.chain.entries) where
  abbrev log : List Entry
  log = take n slot.chain.entries

  abbrev cell : CellState
  cell = cell_with g living n slot

  long : length log ≡ n
  long = omega (arith, length-take n slot.chain.entries, few)

  log_rises : IsLog log
  log_rises = IsLog-take n slot.chain.entries rising

  each_page : length (cut_ends n slot.chain.ends)
      ≡ length (take (length (cut_ends n slot.chain.ends)) slot.chain.pages)
  each_page =
      omega (
        arith,
        length-take (length (cut_ends n slot.chain.ends)) slot.chain.pages,
        few_ends n slot.chain.ends,
        good.paged,
      )

  pub chain_is : IsChain cell.chain
  chain_is = record {
    least = limits.some_entries;
    most = limits.entries_fit;
    paged = omega (arith, each_page);
    parted = subst (λ (m : ℕ). AreEnds g.page 0 (cut_ends n slot.chain.ends) m) (sym long)
        (AreEnds-cut g.page n (length slot.chain.entries) slot.chain.ends good.parted few);
    rising = log_rises;
    within = omega (arith, long);
  }

  pub tail_is : cell.chain.tail ≡ length cell.chain.entries
  tail_is = sym long

  pub marks_are : HasMarks cell
  marks_are = marks_made g.block slot.generation living cell.chain slot.blocks tail_is

  module _ (there : AreThere g.block living slot.blocks log)
      (sized : AreSized g.block slot.blocks) where
    blocks_are : HasBlocks cell
    blocks_are = blocks_made g.block slot.generation living cell.chain slot.blocks tail_is there sized

    pub cell_is : AreSized g.block slot.chain.pages → IsCell cell
    cell_is pages = record {
      some = omega (arith, limits.some_bytes);
      chain = chain_is;
      pages = all_front (λ (b : BlockValue). length b.bytes ≡ g.block)
          (length (cut_ends n slot.chain.ends)) slot.chain.pages pages;
      marks = marks_are;
      blocks = blocks_are;
    }

-- ---- an erased slot's

pub empty_is : (g : GeometryNumbers) (generation version : ℕ) → IsWithinLimits g
    → IsCell (empty_cell g.block g.page generation version)
empty_is g generation version limits = record {
  some = omega (arith, limits.some_bytes);
  chain = record {
    least = limits.some_entries;
    most = limits.entries_fit;
    paged = omega arith;
    parted = refl;
    rising = tt;
    within = omega arith;
  };
  pages = tt;
  marks = record { len = refl; current = λ m lt. absurd (omega (arith, lt)) };
  blocks = record {
    len = refl;
    numbers = λ m. refl;
    sized = λ m b e. absurd (none-some b e);
  };
}
