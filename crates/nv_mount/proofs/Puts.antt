-- Cells that are made one after another, of what is left of the slots, the last one first.
use Rattle.std.proofs.Common.{◌≡◌, ℕ, suc, ◌+◌, ◌<◌, ◌++◌, List, [], ◌∷◌, length, drop, get_or, reverse, arith, refl, ap, subst, ◌∙◌}
use Rattle.std.specs.List.{flat_map}
use Rattle.std.proofs.lemmas.List.{drop_all, length_push, reverse-append}
use Rattle.nv_alloc.specs.FreeList.{FreeBlocks}
use Rattle.nv_audit.specs.Image.{ImageValue, slot_numbers}
use Rattle.nv_cell.specs.declared.bare.BareCell.{BareCell}
use Rattle.nv_mount.specs.Build.{AreFree, IsMade, IsNext, IsSlotLeft}
use Rattle.nv_mount.specs.Mount.{AreLeft, CanBuild, IsBuilt}
use Rattle.nv_mount.specs.Plan.{IsPlanOf}
use Rattle.nv_mount.specs.View.{ViewValue}
use Rattle.nv_mount.specs.declared.plan.Plan.{Plan}
use Rattle.nv_mount.proofs.CellNumbers.{next_apart, owed_after, owed_next}

-- what is left of the other slots is there, the next one last
pub record ArePut (image : ImageValue) (view : ViewValue) (plan : Plan) (bare : List BareCell) (lists : List FreeBlocks) : Type 0 where
  pub made : ℕ
  pub count : length bare + made ≡ length image.slots
  pub left : (k : ℕ) (d : BareCell) → k < length bare → IsSlotLeft image view (made + k) (get_or (reverse bare) k d)
  pub planned : IsPlanOf image view made plan
  pub free : AreFree image made (owed_after image made) lists

pub put_init : (image : ImageValue) (plan : Plan) (bare : List BareCell) (lists : List FreeBlocks) → (can : CanBuild image plan bare)
    → AreLeft image lists → ArePut image can.view plan bare lists
put_init image plan bare lists can free = record {
  made = 0;
  count = omega (arith, can.count);
  left = λ k d lt.
      let e : k ≡ 0 + k = omega arith in
      subst (λ (m : ℕ). IsSlotLeft image can.view m (get_or (reverse bare) k d)) e (can.left k d lt);
  planned = can.planned;
  free = free;
}

module _ (image : ImageValue) (plan : Plan) (bare : List BareCell) (can : CanBuild image plan bare) (now : Plan)
    (left rest : List BareCell) (cell : BareCell) (lists : List FreeBlocks) (is : left ≡ rest ++ cell ∷ [])
    (put : ArePut image can.view now left lists) where
  many : length left ≡ length rest + 1
  many = ap length is ∙ length_push rest cell

  within : put.made < length image.slots
  within = omega (arith, many, put.count)

  turned : reverse left ≡ cell ∷ reverse rest
  turned = ap reverse is ∙ reverse-append rest (cell ∷ [])

  next_left : IsSlotLeft image can.view put.made cell
  next_left =
      let e : put.made + 0 ≡ put.made = omega arith in
      subst (λ (m : ℕ). IsSlotLeft image can.view m cell) e
      (subst (λ (cs : List BareCell). IsSlotLeft image can.view (put.made + 0) (get_or cs 0 cell)) turned
      (put.left 0 cell (omega (arith, many))))

  -- the last one is the next slot
  pub put_next : IsNext image can.view put.made (owed_after image (put.made + 1)) now cell lists
  put_next = record {
    faultless = can.faultless;
    seen = can.seen;
    within = within;
    planned = put.planned;
    left = next_left;
    apart = next_apart image can.faultless put.made within;
    free = subst (λ (ns : List ℕ). AreFree image put.made ns lists) (owed_next image put.made within) put.free;
  }

  -- and then its cell is made
  pub put_more : (after : Plan) (new : List FreeBlocks) → IsMade image can.view put.made (owed_after image (put.made + 1)) after new
      → ArePut image can.view after rest new
  put_more after new done = record {
    made = put.made + 1;
    count = omega (arith, many, put.count);
    left = λ k d lt.
        let e : put.made + suc k ≡ put.made + 1 + k = omega arith in
        subst (λ (m : ℕ). IsSlotLeft image can.view m (get_or (reverse rest) k d)) e
        (subst (λ (cs : List BareCell). IsSlotLeft image can.view (put.made + suc k) (get_or cs (suc k) d)) turned
        (put.left (suc k) d (omega (arith, lt, many))));
    planned = done.planned;
    free = done.free;
  }

-- all are made
pub put_all : (image : ImageValue) (view : ViewValue) (plan : Plan) (bare : List BareCell) (lists : List FreeBlocks) → length bare ≡ 0
    → ArePut image view plan bare lists → IsBuilt image plan lists
put_all image view plan bare lists none put =
    let end : put.made ≡ length image.slots = omega (arith, none, put.count) in
    let last : drop (length image.slots) image.slots ≡ [] = drop_all (length image.slots) image.slots (omega arith) in
    record {
      view = view;
      planned = subst (λ (m : ℕ). IsPlanOf image view m plan) end put.planned;
      free =
          subst (λ (ns : List ℕ). AreFree image (length image.slots) ns lists) (ap (flat_map slot_numbers) last)
          (subst (λ (m : ℕ). AreFree image m (owed_after image m) lists) end put.free);
    }

-- then no slot is left
pub no_slot_plans : (image : ImageValue) (view : ViewValue) (plan : Plan) → IsPlanOf image view (length image.slots) plan → plan.slots.items ≡ []
no_slot_plans image view plan planned = none plan.slots.items (omega (arith, planned.count)) where
  none : {X : Type 0} (xs : List X) → length xs ≡ 0 → xs ≡ []
  none [] e = refl
  none (x ∷ xs) e = absurd (omega (arith, e))
