-- The next slot is handed in: its data blocks go home, its cell is made by its plan, and the plan goes on.
use Rattle.std.proofs.Common.{◌≡◌, ℕ, ◌+◌, ◌<◌, ◌++◌, List, [], ◌∷◌, length, drop, arith, ap, ap₂, subst, sym, ◌∙◌}
use Rattle.std.specs.Global.{Vec}
use Rattle.std.specs.Prelude.{option_to_list, slice_index_or, vec_capacity}
use Rattle.std.specs.List.{flat_map}
use Rattle.std.proofs.lemmas.List.{get_or-drop, length-drop, length-map, map-append}
use Rattle.std.proofs.lemmas.List.FromFn.{length-map-range_with_len, map-range_with_len_more}
use Rattle.nv_alloc.specs.Block.{BlockValue, numbers_of}
use Rattle.nv_alloc.specs.FreeList.{FreeBlocks}
use Rattle.nv_audit.specs.Image.{ImageValue}
use Rattle.nv_audit.specs.Mounted.{cell_of}
use Rattle.nv_audit.specs.Records.{states_of}
use Rattle.nv_base.specs.declared.geometry.GeometryNumbers.{GeometryNumbers}
use Rattle.nv_cell.specs.Cell.{CellState, CellValue}
use Rattle.nv_cell.specs.declared.bare.BareCell.{BareCell}
use Rattle.nv_cell.specs.declared.plan.CellPlan.{CellPlan}
use Rattle.nv_log.specs.Chain.{ChainState, ChainValue}
use Rattle.nv_mount.specs.Build.{AreFree, AreGivenHome, CanAllGoHome, IsNext}
use Rattle.nv_mount.specs.Filling.{IsErasing, IsStaying}
use Rattle.nv_mount.specs.Plan.{IsPlanOf, IsSlotPlan}
use Rattle.nv_mount.specs.View.{ViewValue}
use Rattle.nv_mount.specs.declared.plan.Plan.{Plan}
use Rattle.nv_mount.specs.declared.plan.SlotPlan.{SlotPlan}
use Rattle.nv_mount.specs.declared.plan.SlotPlan.TheVariants as slot
use Rattle.nv_mount.proofs.Cutting.{data_can, data_given}

module _ (image : ImageValue) (view : ViewValue) (made : ℕ) (owed : List ℕ) (plan : Plan) (bare : BareCell) (lists : List FreeBlocks)
    (next : IsNext image view made owed plan bare lists) where
  pub can_place : (g : GeometryNumbers) → g ≡ image.numbers → CanAllGoHome g (flat_map option_to_list bare.blocks.items) lists
  can_place g same =
      subst (λ (h : GeometryNumbers). CanAllGoHome h (flat_map option_to_list bare.blocks.items) lists) (sym same)
      (subst (λ (bs : List BlockValue). CanAllGoHome image.numbers bs lists) (sym next.left.blocks)
      (data_can image next.faultless made next.within owed next.apart lists next.free))

  pub free_placed : (g : GeometryNumbers) → g ≡ image.numbers → (new : List FreeBlocks)
      → AreGivenHome g (flat_map option_to_list bare.blocks.items) lists new
      → AreFree image made (numbers_of bare.chain.state.blocks ++ owed) new
  free_placed g same new given =
      let pages =
      ap (λ (c : ChainValue). c.state.blocks) next.left.chain ∙ ap (λ (c : ChainState). c.blocks) (next.seen.slots made next.within).chain in
      subst (λ (bs : List BlockValue). AreFree image made (numbers_of bs ++ owed) new) (sym pages)
      (data_given image next.faultless made next.within owed next.apart lists new next.free
      (subst (λ (bs : List BlockValue). AreGivenHome image.numbers bs lists new) next.left.blocks
      (subst (λ (h : GeometryNumbers). AreGivenHome h (flat_map option_to_list bare.blocks.items) lists new) same given)))

  -- the first plan of a slot is that of the next one
  planned_first : (x : SlotPlan) (rest : List SlotPlan) → plan.slots.items ≡ x ∷ rest → IsSlotPlan image view made x
  planned_first x rest is =
      let some = ap (λ (xs : List SlotPlan). length xs) is in
      let at : made + 0 ≡ made = omega arith in
      subst (λ (n : ℕ). IsSlotPlan image view n x) at
      (subst (IsSlotPlan image view (made + 0)) (ap (λ (xs : List SlotPlan). slice_index_or xs 0 x) is)
      (next.planned.slots 0 x (omega (arith, some))))

  pub staying : (tail : ℕ) (p : CellPlan) (rest : List SlotPlan) → plan.slots.items ≡ slot.Cell tail p ∷ rest → (new : List FreeBlocks)
      → AreFree image made (numbers_of bare.chain.state.blocks ++ owed) new
      → IsStaying image view made owed plan.pages bare.generation tail bare.chain p new
  staying tail p rest is new free = record {
    faultless = next.faultless;
    seen = next.seen;
    within = next.within;
    generation_is = next.left.generation;
    chain_is = next.left.chain;
    planned = planned_first (slot.Cell tail p) rest is;
    none = next.planned.none;
    size = next.planned.size;
    room = next.planned.pages;
    apart = next.apart;
    free = free;
  }

  pub erasing : (rest : List SlotPlan) → plan.slots.items ≡ slot.Erased ∷ rest → (new : List FreeBlocks)
      → AreFree image made (numbers_of bare.chain.state.blocks ++ owed) new
      → IsErasing image view made owed bare.generation bare.chain new
  erasing rest is new free = record {
    faultless = next.faultless;
    seen = next.seen;
    within = next.within;
    generation_is = next.left.generation;
    chain_is = next.left.chain;
    erased = planned_first slot.Erased rest is;
    apart = next.apart;
    free = free;
  }

  -- there is a slot left, and room for its cell
  pub some_slot : 0 < length plan.slots.items
  some_slot = omega (arith, next.planned.count, next.within)

  pub fits : length plan.cells.items < vec_capacity plan.cells
  fits =
      let many = length-map plan.cells.items (λ (c : CellValue). c.state) in
      let same = ap (λ (cs : List CellState). length cs) next.planned.cells in
      omega (arith, many, same, length-map-range_with_len (cell_of image) 0 made, next.within, next.planned.room)

  -- the plan goes on behind the slot whose cell is made
  pub goes_on : (left : Plan) (cells : Vec CellValue) (cell : CellValue) → left ≡ record plan { slots = left.slots }
      → left.slots.items ≡ drop 1 plan.slots.items → cells.items ≡ left.cells.items ++ cell ∷ []
      → vec_capacity cells ≡ vec_capacity left.cells → cell.state ≡ cell_of image made
      → IsPlanOf image view (made + 1) (record left { cells = cells })
  goes_on left cells cell same gone put room is = record {
    geometry = ap (λ (p : Plan). p.geometry.numbers) same ∙ next.planned.geometry;
    count =
        let less = ap (λ (xs : List SlotPlan). length xs) gone in
        omega (arith, less, length-drop 1 plan.slots.items, next.planned.count, some_slot);
    slots = λ n d lt.
        let less = ap (λ (xs : List SlotPlan). length xs) gone in
        let at : made + (1 + n) ≡ made + 1 + n = omega arith in
        subst (λ (m : ℕ). IsSlotPlan image view m (slice_index_or left.slots.items n d)) at
        (subst (IsSlotPlan image view (made + (1 + n)))
        (sym (ap (λ (xs : List SlotPlan). slice_index_or xs n d) gone ∙ get_or-drop 1 plan.slots.items n d))
        (next.planned.slots (1 + n) d (omega (arith, lt, less, length-drop 1 plan.slots.items, some_slot))));
    cells =
        ap states_of (put ∙ ap (λ (p : Plan). p.cells.items ++ cell ∷ []) same)
        ∙ map-append (λ (c : CellValue). c.state) plan.cells.items (cell ∷ [])
        ∙ ap₂ (λ (cs : List CellState) (c : CellState). cs ++ c ∷ []) next.planned.cells is
        ∙ sym (map-range_with_len_more (cell_of image) 0 made made (omega arith));
    room = omega (arith, room, ap (λ (p : Plan). vec_capacity p.cells) same, next.planned.room);
    size = ap (λ (p : Plan). p.pages.size) same ∙ next.planned.size;
    none = ap (λ (p : Plan). p.pages.blocks) same ∙ next.planned.none;
    pages = λ n lt.
        let room = ap (λ (p : Plan). p.pages.room) same in
        omega (arith, room, next.planned.pages n lt);
    pool = ap (λ (p : Plan). p.pool) same ∙ next.planned.pool;
    book = ap (λ (p : Plan). p.book.state) same ∙ next.planned.book;
  }
