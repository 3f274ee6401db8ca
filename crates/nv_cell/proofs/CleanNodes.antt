-- What a cleaning leaves of nodes and blocks.
use Rattle.std.proofs.Common.{◌≡◌, ℕ, ◌++◌, ◌∙◌, Bool, true, false, List, [], ◌∷◌, Option, None, ap, option_to_list, refl, subst, sym}
use Rattle.std.proofs.Math.Path.{fun_ext}
use Rattle.std.specs.List.{AllByRecursion, flat_map}
use Rattle.nv_alloc.specs.Block.{BlockValue}
use Rattle.nv_cell.specs.Cell.{CellState, log_of}
use Rattle.nv_cell.specs.Cleaned.{IsSameAt, KeepsNodes}
use Rattle.nv_cell.specs.Removal.{left_in, part_flags}
use Rattle.nv_cell.proofs.Removing.{AreTaken, blocks_left, marks_left, none_gone}
use Rattle.nv_entry.specs.Clean.{select}
use Rattle.nv_entry.specs.Held.{Retention}
use Rattle.nv_entry.specs.Index.{names_of}
use Rattle.nv_entry.specs.Keys.{Key}
use Rattle.nv_entry.specs.Laws.{KeepsReads, ReadsSame, ReadsSameAt}
use Rattle.nv_entry.specs.Log.{value_now}
use Rattle.nv_entry.specs.Node.{node_now}
use Rattle.nv_entry.specs.Sound.{IsSound, Tied}
use Rattle.nv_entry.specs.Stored.{Stored, stored, stored_by}
use Rattle.nv_entry.specs.declared.item.Entry.{Entry}
use Rattle.nv_entry.specs.declared.key.Datum.{Datum}
use Rattle.nv_log.specs.Chain.{ChainState, gone_of, left_of}

-- what goes has no block, so that the others are all
same_blocks : (flags : List Bool) (blocks : List (Option BlockValue))
    → AllByRecursion (λ b. b ≡ None) (gone_of flags blocks)
    → flat_map option_to_list (left_of flags blocks) ≡ flat_map option_to_list blocks
same_blocks [] blocks none = refl
same_blocks (b ∷ flags) [] none = refl
same_blocks (true ∷ flags) (x ∷ blocks) none =
    ap (λ (l : List BlockValue). option_to_list x ++ l) (same_blocks flags blocks none)
same_blocks (false ∷ flags) (x ∷ blocks) none =
    same_blocks flags blocks none.1
    ∙ ap (λ (o : Option BlockValue). option_to_list o ++ flat_map option_to_list blocks)
    (sym none.0)

same_stored : (block : ℕ) (old new : List Entry) → ReadsSame block old new
    → stored block new ≡ stored block old
same_stored block old new h =
    ap (λ (value : Key → Option Datum). stored_by value (names_of new)) (fun_ext h.value)
    ∙ ap (stored_by (value_now block old)) h.names

still_sound : (block : ℕ) (old new : List Entry) → ReadsSame block old new → (bytes : ℕ → List ℕ)
    → IsSound bytes block old
    → IsSound bytes block new
still_sound block old new h bytes sound =
    subst (λ (s : Stored). Tied bytes block s (node_now bytes block new))
    (sym (same_stored block old new h))
    (subst (Tied bytes block (stored block old)) (sym (h.node bytes)) sound)

module _ {flags : List Bool} {cell : CellState} {chain : ChainState}
    (taken : AreTaken flags cell chain) (r : Retention)
    (size : r.block ≡ cell.block) (reads : KeepsReads r (log_of cell) (select flags (log_of cell)))
  where
    abbrev new : CellState
    new = left_in flags chain cell

    -- what is read by the logs is read so by the cells
    by_cells : (P : ℕ → List Entry → Type 0) → P r.block (select flags (log_of cell))
        → P cell.block (log_of new)
    by_cells P h =
        subst (λ (block : ℕ). P block (log_of new)) size
        (subst (P r.block) (sym taken.left.log_is) h)

    now_same : ReadsSame cell.block (log_of cell) (log_of new)
    now_same = by_cells (λ block l. ReadsSame block (log_of cell) l) reads.now

    at_same : (epoch : ℕ) → ReadsSameAt r.block epoch (log_of cell) (select flags (log_of cell))
        → IsSameAt cell new epoch
    at_same epoch h = (by_cells (λ block l. ReadsSameAt block epoch (log_of cell) l) h).node

    each : (ss : List ℕ)
        → AllByRecursion (λ s. ReadsSameAt r.block s (log_of cell) (select flags (log_of cell))) ss
        → AllByRecursion (IsSameAt cell new) ss
    each [] all = tt
    each (s ∷ ss) all = (at_same s all.0, each ss all.1)

    pub cleaned_nodes : KeepsNodes r cell new
    cleaned_nodes = record {
      now = now_same.node;
      held = each r.snapshots reads.held;
      kept = λ epoch spans. at_same epoch (reads.kept epoch spans);
      sound = still_sound cell.block (log_of cell) (log_of new) now_same;
      blocks_stay = same_blocks (part_flags flags (log_of cell)) cell.blocks (none_gone taken);
      marks = marks_left taken;
      blocks = blocks_left taken;
    }
