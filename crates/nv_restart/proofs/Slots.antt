-- The cells of slots in the world that a mount makes, and what of them is erased.
use Rattle.std.proofs.Common.{◌≡◌, ℕ, ◌+◌, ◌<◌, ◌≤◌, ◌&&◌, ◌||◌, ◌∙◌, Bool, true, false, cond, filter, not, List, [], ◌∷◌, ap, arith, length, map, refl, sym, take}
use Rattle.std.specs.List.{list_any}
use Rattle.std.proofs.lemmas.Bool.{and_parts, true≢false}
use Rattle.std.proofs.lemmas.List.{get_or_past}
use Rattle.std.proofs.lemmas.List.FromFn.{get_or-map-range_with_len, length-map-range_with_len}
use Rattle.nv_audit.specs.Image.{ImageValue, SlotImageValue}
use Rattle.nv_cell.specs.Anew.{mark_by}
use Rattle.nv_audit.specs.Mounted.{cell_anew, cell_of, cell_with, cells_of, is_over, is_recorded, log_records, record_by}
use Rattle.nv_base.specs.declared.geometry.GeometryNumbers.{GeometryNumbers}
use Rattle.nv_cell.specs.Cell.{CellState, empty_cell}
use Rattle.nv_cell.specs.Marks.{is_there}
use Rattle.nv_cell.specs.Readers.{is_erased, is_gone, keeps_nothing}
use Rattle.nv_entry.specs.Held.{is_current, is_held}
use Rattle.nv_entry.specs.Log.{pairs}
use Rattle.nv_entry.specs.declared.held.Pair.{Pair}
use Rattle.nv_entry.specs.declared.item.Entry.{Entry}
use Rattle.nv_epoch.specs.SnapList.{numbers, unpinned}
use Rattle.nv_machine.specs.World.{cell_at, no_cell}
use Rattle.nv_restart.proofs.Cells.{log_is}
use Rattle.nv_audit.proofs.NeededPages.{there_by}
use Rattle.nv_restart.specs.Mounted.{mounted}

-- ---- cells

-- a slot's cell is an empty one, or that of its cut log
pub by_cell : (P : CellState → Type 0) (g : GeometryNumbers) (living : List ℕ) (n : ℕ)
    (slot : SlotImageValue)
    → (is_over living g.block (take n slot.chain.entries) ≡ true
    → P (empty_cell g.block g.page (slot.generation + 1) 0))
    → (is_over living g.block (take n slot.chain.entries) ≡ false → P (cell_with g living n slot))
    → P (cell_anew g living n slot)
by_cell P g living n slot erased left =
    go (is_over living g.block (take n slot.chain.entries)) refl where
      go : (b : Bool) → is_over living g.block (take n slot.chain.entries) ≡ b
          → P (cond b (empty_cell g.block g.page (slot.generation + 1) 0)
          (cell_with g living n slot))
      go true e = erased e
      go false e = left e

pub cell_there : (image : ImageValue) (ino : ℕ) → ino < length image.slots
    → cell_at (mounted image).shared ino ≡ cell_of image ino
cell_there image ino lt =
    get_or-map-range_with_len (cell_of image) 0 (length image.slots) ino ino no_cell lt
    (omega arith)

pub cell_past : (image : ImageValue) (ino : ℕ) → length image.slots ≤ ino
    → cell_at (mounted image).shared ino ≡ no_cell
cell_past image ino past = get_or_past (cells_of image) ino no_cell
    (omega (arith, past, length-map-range_with_len (cell_of image) 0 (length image.slots)))

-- the living snapshots are those of the image
pub same_ids : (snapshots : List ℕ) → numbers (map unpinned snapshots) ≡ snapshots
same_ids [] = refl
same_ids (s ∷ snapshots) = ap (λ (l : List ℕ). s ∷ l) (same_ids snapshots)

-- ---- what is erased

-- where a snapshot holds a pair, its part is there
held_there : (living : List ℕ) (ps : List Pair) → list_any (is_held living) ps ≡ true
    → list_any is_there (map (mark_by living) ps) ≡ true
held_there living [] e = e
held_there living (pair ∷ ps) e = go (is_held living pair) refl e (held_there living ps) where
  by_held : is_held living pair ≡ true → is_there (mark_by living pair) ≡ true
  by_held held = there_by living pair ∙ ap (λ (b : Bool). is_current pair || b) held
      ∙ either (is_current pair) where
        either : (b : Bool) → (b || true) ≡ true
        either true = refl
        either false = refl

  go : (b : Bool) → is_held living pair ≡ b → (b || list_any (is_held living) ps) ≡ true
      → (list_any (is_held living) ps ≡ true → list_any is_there (map (mark_by living) ps) ≡ true)
      → (is_there (mark_by living pair) || list_any is_there (map (mark_by living) ps)) ≡ true
  go true q e more = rw (by_held q) refl
  go false q e more = at (is_there (mark_by living pair)) (more e) where
    at : (c : Bool) → list_any is_there (map (mark_by living) ps) ≡ true
        → (c || list_any is_there (map (mark_by living) ps)) ≡ true
    at true f = refl
    at false f = f

-- A GONE INODE THAT IS NOT ERASED keeps something
pub left_keeps : (g : GeometryNumbers) (living : List ℕ) (n : ℕ) (slot : SlotImageValue)
    → is_over living g.block (take n slot.chain.entries) ≡ false
    → is_erased (cell_with g living n slot) ≡ false
left_keeps g living n slot left =
    ap (λ (l : List Entry). is_gone l && keeps_nothing (cell_with g living n slot))
    (log_is g living n slot)
    ∙ go (is_gone log) (list_any (is_held living) (pairs g.block log)) refl left where
      log : List Entry
      log = take n slot.chain.entries

      go : (a b : Bool) → list_any (is_held living) (pairs g.block log) ≡ b → (a && not b) ≡ false
          → (a && keeps_nothing (cell_with g living n slot)) ≡ false
      go false b q e = refl
      go true true q e = ap not (held_there living (pairs g.block log) q)
      go true false q e = absurd (true≢false e)

-- no pair of an erased one is recorded
none_recorded : (living : List ℕ) (ino : ℕ) (ps : List Pair) → list_any (is_held living) ps ≡ false
    → map (record_by ino) (filter (is_recorded living) ps) ≡ []
none_recorded living ino [] none = refl
none_recorded living ino (pair ∷ ps) none =
    go (is_held living pair) refl none (none_recorded living ino ps) where
      go : (b : Bool) → is_held living pair ≡ b → (b || list_any (is_held living) ps) ≡ false
          → (list_any (is_held living) ps ≡ false
          → map (record_by ino) (filter (is_recorded living) ps)
          ≡ [])
          → map (record_by ino)
          (cond (not (is_current pair) && is_held living pair)
          (pair ∷ filter (is_recorded living) ps)
          (filter (is_recorded living) ps)) ≡ []
      go true q e more = absurd (true≢false e)
      go false q e more = rw q (at (not (is_current pair)) (more e)) where
        at : (c : Bool) → map (record_by ino) (filter (is_recorded living) ps) ≡ []
            → map (record_by ino)
            (cond (c && false) (pair ∷ filter (is_recorded living) ps)
            (filter (is_recorded living) ps))
            ≡ []
        at true f = f
        at false f = f

pub over_unrecorded : (living : List ℕ) (ino block : ℕ) (log : List Entry)
    → is_over living block log ≡ true
    → log_records block living ino log ≡ []
over_unrecorded living ino block log over =
    none_recorded living ino (pairs block log)
    (turn (list_any (is_held living) (pairs block log))
    (and_parts (is_gone log) (not (list_any (is_held living) (pairs block log))) over).1)
  where
    turn : (b : Bool) → not b ≡ true → b ≡ false
    turn true e = sym e
    turn false e = refl
