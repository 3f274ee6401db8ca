-- A cell that is taken apart when the machine stops: what is not published goes home, the rest is its slot.
use Rattle.std.proofs.Common.{◌≡◌, ◌∙◌, ℕ, ◌+◌, ◌<◌, ◌≤◌, ◌||◌, ◌++◌, Bool, true, false, List, Some, ap, ap₂, arith, length, map, subst, sym, take, refl}
use Rattle.std.proofs.lemmas.Bool.{true≢false}
use Rattle.nv_alloc.specs.Block.{AreSized, BlockValue, block_by, numbers_of, zeroed}
use Rattle.nv_alloc.specs.FreeList.{FreeBlocks}
use Rattle.nv_alloc.specs.Numbers.{has, times}
use Rattle.nv_alloc.proofs.Lists.{has-times}
use Rattle.nv_audit.specs.Image.{ImageValue, SlotImageValue, slot_numbers, slot_of}
use Rattle.nv_cell.specs.Cell.{CellState, CellValue, IsCell, log_of, stored_in}
use Rattle.nv_cell.specs.Slots.{by_part, slot_total}
use Rattle.nv_cell.specs.declared.bare.BareCell.{BareCell}
use Rattle.nv_mount.specs.Build.{AreGivenHome, CanAllGoHome, IsSlotLeft, used_by}
use Rattle.nv_mount.specs.View.{SlotViewValue, ViewValue, slot_in}
use Rattle.nv_mount.proofs.Free.{ComeNow, can_give, given_free}
use Rattle.nv_mount.proofs.Marked.{has-append, or_left, or_right, stands}
use Rattle.nv_restart.specs.Restarted.{slot_image}
use Rattle.nv_core.specs.Restarts.{CanLeave, HasLeft, fresh_blocks, shown_cell}
use Rattle.nv_log.specs.Chain.{ChainState, ChainValue}
use Rattle.nv_core.proofs.FreshBlocks.{found_has, free_unseen, has_stored, numbers_zeroed, sized_past, sized_zeroed, slot_closed, times_stored, zeroed_by}

among : (a f o : Bool) → ((a || f) || o) ≡ (f || (a || o))
among true true o = refl
among true false o = refl
among false f o = refl

either_none : (u a o : Bool) → (u || o) ≡ false → a ≡ false → (u || (a || o)) ≡ false
either_none true a o out none = absurd (true≢false out)
either_none false true o out none = absurd (true≢false none)
either_none false false o out none = out

module _ (image : ImageValue) (ino : ℕ) (owed : List ℕ) (cell : CellState) (lists : List FreeBlocks) (is : IsCell cell)
    (can : CanLeave image ino owed cell lists) where
  abbrev fresh : List BlockValue
  fresh = fresh_blocks cell

  abbrev own : List ℕ
  own = slot_numbers (slot_image cell)

  sized : AreSized image.numbers.block fresh
  sized = subst (λ (size : ℕ). AreSized size fresh) can.size (sized_past cell.block cell.blocks is.blocks.sized _)

  numbers : numbers_of (map zeroed fresh) ≡ numbers_of fresh
  numbers = numbers_zeroed fresh

  is_fresh : (n : ℕ) → has (numbers_of (map zeroed fresh)) n ≡ true → has (numbers_of fresh) n ≡ true
  is_fresh n there = sym (ap (λ (ns : List ℕ). has ns n) numbers) ∙ there

  is_stored : (n : ℕ) → has (numbers_of fresh) n ≡ true → has (stored_in cell) n ≡ true
  is_stored n there = has_stored n cell ∙ or_right (has own n) (has (numbers_of fresh) n) there

  not_own : (n : ℕ) → has (numbers_of fresh) n ≡ true → has own n ≡ false
  not_own n there =
      let none : times n own ≡ 0 = omega (arith, times_stored n cell, can.once n, stands (numbers_of fresh) n there) in
      has-times n own none

  same_own : slot_numbers (slot_of image ino) ≡ own
  same_own = ap slot_numbers can.slot

  come : ComeNow image ino (stored_in cell ++ owed) (slot_numbers (slot_of image ino) ++ owed) (map zeroed fresh)
  come = subst (λ (ns : List ℕ). ComeNow image ino (stored_in cell ++ owed) (ns ++ owed) (map zeroed fresh)) (sym same_own) (record {
    parted = λ n.
        has-append (stored_in cell) owed n ∙ ap (λ (b : Bool). b || has owed n) (has_stored n cell)
        ∙ among (has own n) (has (numbers_of fresh) n) (has owed n)
        ∙ ap₂ (λ (x y : Bool). x || y) (sym (ap (λ (ns : List ℕ). has ns n) numbers)) (sym (has-append own owed n));
    apart = λ n there.
        ap (λ (b : Bool). has (used_by image ino) n || b) (has-append own owed n)
        ∙ either_none (has (used_by image ino) n) (has own n) (has owed n) (can.apart n (is_stored n (is_fresh n there)))
        (not_own n (is_fresh n there));
    bytes = λ n b e.
        zeroed_by image.numbers.block n fresh b sized e ∙ sym (free_unseen image n (can.unseen n (unsealed n b e)));
  }) where
    -- a block that is found has its number there
    unsealed : (n : ℕ) (b : BlockValue) → block_by (map zeroed fresh) n ≡ Some b → has (numbers_of fresh) n ≡ true
    unsealed n b e = is_fresh n (found_has (map zeroed fresh) n b e)

  -- WHAT IS NOT PUBLISHED can go home
  pub can_go_home : CanAllGoHome image.numbers (map zeroed fresh) lists
  can_go_home =
      can_give image ino (stored_in cell ++ owed) (slot_numbers (slot_of image ino) ++ owed) (map zeroed fresh) lists come can.free
      (λ n. (let e = ap (times n) numbers in omega (arith, e, times_stored n cell, can.once n)))
      (λ n there. can.within n (is_stored n (is_fresh n there)))
      (sized_zeroed image.numbers.block fresh sized)

  its_own : (n : ℕ) → has (slot_numbers (slot_of image ino)) n ≡ true → has (stored_in cell) n ≡ true
  its_own n there =
      has_stored n cell
      ∙ or_left (has own n) (has (numbers_of fresh) n) (sym (ap (λ (ns : List ℕ). has ns n) same_own) ∙ there)

  -- AND WHAT IS LEFT is its slot
  pub cell_left : (view : ViewValue) (bare : BareCell) (new : List FreeBlocks) → AreGivenHome image.numbers (map zeroed fresh) lists new
      → IsSlotLeft image view ino bare → HasLeft image view ino owed bare new
  cell_left view bare new given left = record {
    left = left;
    apart = λ n there. can.apart n (its_own n there);
    free =
        given_free image ino (stored_in cell ++ owed) (slot_numbers (slot_of image ino) ++ owed) (map zeroed fresh) lists new come
        can.free given;
  }

-- what is left, without the places behind those of published parts
pub slot_left : (image : ImageValue) (view : ViewValue) (ino : ℕ) (cell : CellValue) (bare kept : BareCell)
    → slot_of image ino ≡ slot_image cell.state → slot_in view ino ≡ shown_cell cell
    → bare.generation ≡ cell.state.generation → bare.chain.state ≡ cell.state.chain → bare.chain.spare ≡ cell.room.pages
    → by_part cell.state.chain.entries bare.blocks.items ≡ cell.state.blocks
    → length bare.blocks.items ≡ slot_total cell.state.chain.entries
    → kept.generation ≡ bare.generation → kept.chain ≡ bare.chain
    → kept.blocks.items ≡ take (slot_total (log_of cell.state)) bare.blocks.items
    → IsSlotLeft image view ino kept
slot_left image view ino cell bare kept slot seen generation chain spare blocks many same_generation same_chain cut = record {
  generation = same_generation ∙ generation ∙ sym (ap (λ (s : SlotViewValue). s.generation) seen);
  chain =
      same_chain ∙ ap₂ (λ (c : ChainState) (k : ℕ). let v : ChainValue = record { state = c; spare = k } in v) chain spare
      ∙ sym (ap (λ (s : SlotViewValue). s.chain) seen);
  blocks =
      ap (λ (s : SlotImageValue). s.blocks) (slot_closed cell.state bare kept.blocks.items generation chain blocks many cut)
      ∙ sym (ap (λ (s : SlotImageValue). s.blocks) slot);
}
