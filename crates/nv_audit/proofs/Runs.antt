-- What is found of a slot's blocks says of each cell that is made of them whether its pages have theirs and its file ends at its size.
use Rattle.std.proofs.Common.{◌≡◌, ℕ, ◌/◌, ◌%◌, ◌≤◌, Bool, List, [], ◌∷◌, length, drop, map, Option, None, Some, refl, ap, ap₂, sym, subst, ◌∙◌}
use Rattle.std.specs.Prelude.{◌↔◌, All, Err, IfOk, IsTrue, Ok, Result, option_and_then}
use Rattle.std.proofs.Math.Bool.{or-false}
use Rattle.std.proofs.lemmas.Option.{none-some}
use Rattle.nv_base.specs.declared.fault.Fault.{Fault}
use Rattle.nv_base.specs.declared.limits.TheConstants.{FILE_PAGES}
use Rattle.nv_alloc.specs.Block.{AreSized, BlockValue, block_by}
use Rattle.nv_cell.specs.Cell.{CellState, log_of}
use Rattle.nv_entry.specs.Held.{is_needed, keeps}
use Rattle.nv_entry.specs.Log.{pairs}
use Rattle.nv_entry.specs.Node.{block_now, size_now}
use Rattle.nv_entry.specs.declared.held.Pair.{Pair}
use Rattle.nv_entry.specs.declared.item.Entry.{Entry}
use Rattle.nv_findex.specs.Pages.{PageMap}
use Rattle.nv_audit.specs.Index.{ArePagesOf}
use Rattle.nv_audit.specs.Lists.{blocks_kept}
use Rattle.nv_audit.specs.Logged.{LoggedValue, logged}
use Rattle.nv_audit.specs.MountedLogs.{AreAmong, HasItsBlocks, IsMadeOf, IsRunOf}
use Rattle.nv_audit.specs.Retained.{needed_by}
use Rattle.nv_audit.specs.Sound.{AreLogPagesWithin, ArePagesWithin, AreZerosPast, EndsAtSize, own_size}
use Rattle.nv_audit.specs.Tree.{IsOnce}
use Rattle.nv_audit.proofs.MadeCells.{made_page, made_whole}
use Rattle.nv_cell.proofs.CellAnew.{sized_by}
use Rattle.nv_audit.proofs.NeededPages.{are_among_all, are_once, its_blocks}
use Rattle.nv_audit.proofs.SizeEnds.{by_bytes, past_all, without_last}

-- the blocks of the needed pages of a log
abbrev pub needed_of : List ℕ → LoggedValue → List ℕ
needed_of living l = blocks_kept (record { block = l.block; snapshots = living; pending = [] }) l.log

-- a part is kept where it is needed, since nothing is pending
pub kept_are : (living : List ℕ) (block : ℕ) (log : List Entry) (parts : List Bool) → parts ≡ needed_by living block log
    → parts ≡ map (keeps (record { block = block; snapshots = living; pending = [] })) (pairs block log)
kept_are living block log parts are = are ∙ go (pairs block log) where
  go : (ps : List Pair) → map (is_needed living) ps ≡ map (keeps (record { block = block; snapshots = living; pending = [] })) ps
  go [] = refl
  go (p ∷ ps) = ap₂ (λ (b : Bool) (bs : List Bool). b ∷ bs) (sym (or-false (is_needed living p))) (go ps)

-- the block that is found has the size of all
pub found_sized : (size : ℕ) (blocks : List BlockValue) (o : Option ℕ) (b : BlockValue) → AreSized size blocks
    → option_and_then (block_by blocks) o ≡ Some b → length b.bytes ≡ size
found_sized size blocks None b sized e = absurd (none-some b e)
found_sized size blocks (Some number) b sized e = sized_by size blocks number b sized e

-- whether no page lies past the size, by an index of the log
pub within_told : (l : LoggedValue) (cell : CellState) (block : ℕ) (log : List Entry) (size : ℕ) (index : PageMap) (t : Bool)
    → block ≡ l.block → log ≡ l.log → size ≡ size_now l.block l.log → ArePagesOf block log index
    → ((es : List Entry) → size ≡ size_now block es → ArePagesOf block es index → IsTrue t ↔ AreLogPagesWithin block es)
    → l ≡ logged cell → IsTrue t ↔ ArePagesWithin cell
within_told l cell block log size index t one other same are told is =
    subst (λ (x : LoggedValue). IsTrue t ↔ AreLogPagesWithin x.block x.log) is
    (subst (λ (n : ℕ). IsTrue t ↔ AreLogPagesWithin n l.log) one
    (subst (λ (es : List Entry). IsTrue t ↔ AreLogPagesWithin block es) other
    (told log (same ∙ sym (ap₂ (λ (n : ℕ) (es : List Entry). size_now n es) one other)) are)))

pub ends_told : (cell : CellState) (t : Bool) → ArePagesWithin cell → IsTrue t ↔ AreZerosPast cell → IsTrue t ↔ EndsAtSize cell
ends_told cell t within told = (λ is. record { pages = within; zeros = told.0 is }, λ ends. told.1 ends.zeros)

-- a slot has its blocks, and then its file ends where it may
pub run_told : (living : List ℕ) (blocks : List BlockValue) (l : LoggedValue) (r : Result Bool Fault)
    → IfOk r (λ ends. (snapshots : List ℕ) (cell : CellState) → IsMadeOf snapshots blocks cell → HasItsBlocks blocks cell
    → l ≡ logged cell → IsTrue ends ↔ EndsAtSize cell)
    → ((cell : CellState) → IsMadeOf living blocks cell → l ≡ logged cell → HasItsBlocks blocks cell)
    → IfOk r (λ good. (cell : CellState) → IsMadeOf living blocks cell → l ≡ logged cell → IsTrue good ↔ IsRunOf blocks cell)
run_told living blocks l (Ok ends) told its = λ cell made is. (
  λ t. record { its = its cell made is; ends = (told living cell made (its cell made is) is).0 t },
  λ run. (told living cell made (its cell made is) is).1 run.ends,
)
run_told living blocks l (Err fault) told its = told

module _ (living : List ℕ) (blocks : List BlockValue) (l : LoggedValue) (cell : CellState) (made : IsMadeOf living blocks cell)
    (is : l ≡ logged cell) where
  -- where not all are among the blocks
  pub not_among : (AreAmong blocks (needed_of living l) → ⊥) → HasItsBlocks blocks cell → ⊥
  not_among never has =
      never (subst (λ (x : LoggedValue). AreAmong blocks (needed_of living x)) (sym is) (are_among_all living blocks cell made has))

  -- where they are
  pub told_apart : (apart : Bool) → AreAmong blocks (needed_of living l) → IsTrue apart ↔ IsOnce (needed_of living l)
      → IsTrue apart ↔ HasItsBlocks blocks cell
  told_apart apart among told = (
    λ t. its_blocks living blocks cell made (subst (λ (x : LoggedValue). AreAmong blocks (needed_of living x)) is among)
        (subst (λ (x : LoggedValue). IsOnce (needed_of living x)) is (told.0 t)),
    λ has. told.1 (subst (λ (x : LoggedValue). IsOnce (needed_of living x)) (sym is) (are_once living blocks cell made has)),
  )

  -- the file's end
  module _ (has : HasItsBlocks blocks cell) (sized : AreSized l.block blocks) (within : ArePagesWithin cell) where
    size_is : AreSized cell.block blocks
    size_is = subst (λ (x : LoggedValue). AreSized x.block blocks) is sized

    abbrev found : Option BlockValue
    found = option_and_then (block_by blocks) (block_now l.block l.log (size_now l.block l.log / l.block))

    found_is : found ≡ option_and_then (block_by blocks) (block_now cell.block (log_of cell) (own_size cell / cell.block))
    found_is =
        ap (λ (x : LoggedValue). option_and_then (block_by blocks) (block_now x.block x.log (size_now x.block x.log / x.block))) is

    pub zeros_far : FILE_PAGES ≤ size_now l.block l.log / l.block → AreZerosPast cell
    zeros_far far =
        past_all cell (made_whole living blocks cell made has size_is) within
        (subst (λ (x : LoggedValue). FILE_PAGES ≤ size_now x.block x.log / x.block) is far)

    pub zeros_none : found ≡ None → AreZerosPast cell
    zeros_none none =
        without_last cell (made_whole living blocks cell made has size_is) within
        (sym (made_page living blocks cell made has size_is (own_size cell / cell.block)) ∙ sym found_is ∙ none)

    pub zeros_found : (b : BlockValue) → found ≡ Some b
        → All (λ (byte : ℕ). byte ≡ 0) (drop (size_now l.block l.log % l.block) b.bytes) ↔ AreZerosPast cell
    zeros_found b there =
        subst (λ (x : LoggedValue). All (λ (byte : ℕ). byte ≡ 0) (drop (size_now x.block x.log % x.block) b.bytes) ↔ AreZerosPast cell)
        (sym is)
        (by_bytes cell (made_whole living blocks cell made has size_is) within b
        (sym (made_page living blocks cell made has size_is (own_size cell / cell.block)) ∙ sym found_is ∙ there))
