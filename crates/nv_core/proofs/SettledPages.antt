-- In every world each page of a settled log has its block in the cell.
use Rattle.std.proofs.Common.{◌≡◌, ℕ, ◌≤◌, ◌∙◌, List, ◌++◌, Option, Some, None, ap, drop, refl, slice_index_or, subst, sym, take, take-take}
use Rattle.std.specs.Prelude.{IsSome}
use Rattle.std.specs.Option.{option_map}
use Rattle.std.proofs.lemmas.List.{take-append-drop}
use Rattle.nv_alloc.specs.Block.{BlockValue, number_of}
use Rattle.nv_cell.proofs.PagesNow.{front_block}
use Rattle.nv_cell.proofs.ValuesNow.{IsLog-take}
use Rattle.nv_cell.specs.Cell.{CellState, log_of, page_block}
use Rattle.nv_entry.specs.Log.{IsLog}
use Rattle.nv_entry.specs.declared.item.Entry.{Entry}
use Rattle.nv_journal.specs.Journal.{settled_tail}
use Rattle.nv_machine.specs.Kept.{HasPages}
use Rattle.nv_machine.specs.Reached.{IsReached}
use Rattle.nv_machine.specs.Settled.{settled}
use Rattle.nv_machine.specs.World.{Shared, cell_at}
use Rattle.nv_reader.specs.Cells.{NoneOut}
use Rattle.nv_core.proofs.PageParts.{front_in}
use Rattle.nv_core.specs.Shown.{shared_of}
use Rattle.nv_machine.proofs.EveryWorld.{reached}
use Rattle.nv_core.specs.Worlds.{IsWorld, WorldState}

-- ---- in a cell

some_slot : (slot : Option BlockValue) (number : ℕ) → option_map number_of slot ≡ Some number → IsSome slot
some_slot None number h = cc
some_slot (Some b) number h = refl

front_of : (t tail : ℕ) (es : List Entry) → t ≤ tail → take t es ++ drop t (take tail es) ≡ take tail es
front_of t tail es le =
    ap (λ (xs : List Entry). xs ++ drop t (take tail es)) (sym (take-take t tail es le)) ∙ take-append-drop t (take tail es)

-- no page of the first entries is out, where each uncovered one has its block
none_out_of : (cell : CellState) (t : ℕ) → IsLog cell.chain.entries → t ≤ cell.chain.tail → HasPages (take t cell.chain.entries) cell
    → NoneOut cell (take t cell.chain.entries)
none_out_of cell t is le has =
    let es = cell.chain.entries in
    front_in cell (take t es) (drop t (log_of cell)) (front_of t cell.chain.tail es le) (IsLog-take cell.chain.tail es is)
    (λ n number low unc says. some_slot (slice_index_or cell.blocks n None) number (has.pages n number unc
    (ap (λ (xs : List Entry). page_block cell.block xs n) (sym (take-append-drop t es))
    ∙ front_block cell.block (take t es) (drop t es) n low ∙ says)))

-- ---- in every world

-- the noted tail is no further than the cell's own
abbrev pub IsTailWithin : Shared → ℕ → Type 0
IsTailWithin s ino = settled_tail s.book.journals ino (cell_at s ino).chain.tail ≤ (cell_at s ino).chain.tail

pub none_out : (w : WorldState) → IsWorld w → (ino : ℕ) → IsTailWithin (shared_of w.shared) ino
    → NoneOut (cell_at (shared_of w.shared) ino) (settled (shared_of w.shared) ino)
none_out w is =
    let m = is.0 in
    let r : IsReached m =
    subst IsReached (sym is.2.reached) (reached w.shared.geometry.numbers is.1.start is.1.records is.1.events is.2.is_start) in
    let all : (ino : ℕ) → IsTailWithin m.shared ino → NoneOut (cell_at m.shared ino) (settled m.shared ino) =
    λ ino tail.
    none_out_of (cell_at m.shared ino) (settled_tail m.shared.book.journals ino (cell_at m.shared ino).chain.tail)
    (r.order.logs ino).ordered tail (r.kept.logs.pages ino) in
    subst (λ (s : Shared). (ino : ℕ) → IsTailWithin s ino → NoneOut (cell_at s ino) (settled s ino)) (sym is.2.shows.shared) all
