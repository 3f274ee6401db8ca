-- All cells of a device that stops are taken apart, and those that go on are made of what is left.
use Rattle.std.proofs.Common.{◌≡◌, ◌∙◌, ℕ, zero, suc, ◌+◌, ◌<◌, ◌≤◌, ◌||◌, ◌++◌, Bool, true, false, List, [], ◌∷◌, ap, ap₂, arith, drop, flat_map, length, map, refl, subst, sym}
use Rattle.std.specs.Prelude.{slice_index_or}
use Rattle.std.specs.List.{range_with_len}
use Rattle.std.proofs.lemmas.Grind.{flat_map-append}
use Rattle.std.proofs.lemmas.List.{append-nil, drop-drop, get_or-drop, get_or-map, length-map}
use Rattle.std.proofs.lemmas.List.FromFn.{map-range_with_len_more}
use Rattle.nv_alloc.specs.Block.{numbers_of}
use Rattle.nv_alloc.specs.FreeList.{FreeBlocks}
use Rattle.nv_alloc.specs.Numbers.{has, times}
use Rattle.nv_alloc.proofs.Lists.{has-times, times-append}
use Rattle.nv_audit.specs.Image.{ImageValue, SlotImageValue, image_numbers, no_slot, slot_numbers, slot_of}
use Rattle.nv_audit.specs.Mounted.{cell_of}
use Rattle.nv_audit.specs.Records.{states_of}
use Rattle.nv_base.specs.Limits.{IsWithinLimits}
use Rattle.nv_cell.specs.Cell.{CellState, CellValue, stored_in}
use Rattle.nv_cell.specs.declared.bare.BareCell.{BareCell}
use Rattle.nv_mount.specs.Build.{AreFree, IsMade, IsNext, used_by}
use Rattle.nv_mount.specs.Mount.{IsBuilt}
use Rattle.nv_mount.specs.Plan.{IsPlanOf}
use Rattle.nv_mount.specs.View.{SlotViewValue, ViewValue, nothing, slot_in}
use Rattle.nv_mount.specs.declared.plan.Plan.{Plan}
use Rattle.nv_mount.proofs.Marked.{has-append, or_left, or_right, stands}
use Rattle.nv_restart.specs.Restarted.{slot_image}
use Rattle.nv_restart.proofs.Faultless.{fewer_in}
use Rattle.nv_core.specs.Restarts.{AreStopped, CanLeave, CanPutAll, HasLeft, all_stored, fresh_blocks, shown_cell}
use Rattle.nv_core.proofs.FreshBlocks.{times_stored}

-- ---- blocks of parts that are not published

abbrev pub fresh_in : List CellState → List ℕ
fresh_in cells = flat_map (λ (c : CellState). numbers_of (fresh_blocks c)) cells

pub times_all : (n : ℕ) (cells : List CellState)
    → times n (flat_map stored_in cells) ≡ times n (flat_map slot_numbers (map slot_image cells)) + times n (fresh_in cells)
times_all n [] = refl
times_all n (c ∷ cells) =
    let rest = times_all n cells in
    let stored = times-append n (stored_in c) (flat_map stored_in cells) in
    let slots = times-append n (slot_numbers (slot_image c)) (flat_map slot_numbers (map slot_image cells)) in
    let fresh = times-append n (numbers_of (fresh_blocks c)) (fresh_in cells) in
    let own = times_stored n c in
    omega (arith, rest, stored, slots, fresh, own)

times_one : (n : ℕ) (cells : List CellValue) (i : ℕ) (d : CellValue) → i < length cells
    → times n (numbers_of (fresh_blocks (slice_index_or cells i d).state)) ≤ times n (fresh_in (states_of cells))
times_one n [] i d lt = absurd (omega (arith, lt))
times_one n (c ∷ cells) zero d lt =
    omega (arith, times-append n (numbers_of (fresh_blocks c.state)) (fresh_in (states_of cells)))
times_one n (c ∷ cells) (suc i) d lt =
    omega (
      arith,
      times_one n cells i d (omega (arith, lt)),
      times-append n (numbers_of (fresh_blocks c.state)) (fresh_in (states_of cells)),
    )

-- they are no part of the image
unseen_at : (image : ImageValue) (cells : List CellValue) → AreStopped image cells → (i : ℕ) (d : CellValue) → i < length cells → (n : ℕ)
    → has (numbers_of (fresh_blocks (slice_index_or cells i d).state)) n ≡ true → has (image_numbers image) n ≡ false
unseen_at image cells stopped i d lt n there =
    let all = times_all n (states_of cells) in
    let same : times n (image_numbers image) ≡ times n (flat_map slot_numbers (map slot_image (states_of cells))) =
    ap (λ (slots : List SlotImageValue). times n (flat_map slot_numbers slots)) stopped.slots in
    let some = stands (numbers_of (fresh_blocks (slice_index_or cells i d).state)) n there in
    let none : times n (image_numbers image) ≡ 0 = omega (arith, all, same, some, times_one n cells i d lt, stopped.once n) in
    has-times n (image_numbers image) none

-- ---- one cell more

-- the numbers of one cell more
used_more : (n : ℕ) (image : ImageValue) (done : ℕ)
    → times n (used_by image (done + 1)) ≡ times n (used_by image done) + times n (stored_in (cell_of image done))
used_more n image done =
    let cells = map (cell_of image) (range_with_len 0 done) in
    ap (λ (cs : List CellState). times n (flat_map stored_in cs)) (map-range_with_len_more (cell_of image) 0 done done (omega arith))
    ∙ ap (times n) (flat_map-append stored_in cells (cell_of image done ∷ []))
    ∙ times-append n (flat_map stored_in cells) (stored_in (cell_of image done) ++ [])
    ∙ ap (λ (ns : List ℕ). times n (flat_map stored_in cells) + times n ns) (append-nil (stored_in (cell_of image done)))

-- the first `done` cells are made, and `left` are still to be taken apart
pub record IsPutting (image : ImageValue) (view : ViewValue) (cells left : List CellValue) (plan : Plan) (lists : List FreeBlocks) : Type 0 where
  pub done : ℕ
  pub count : done + length left ≡ length cells
  pub left_is : left ≡ drop done cells
  pub planned : IsPlanOf image view done plan
  pub used : (n : ℕ) → times n (used_by image done) + times n (all_stored left) ≤ 1
  pub within : (n : ℕ) → has (all_stored left) n ≡ true → n < image.numbers.blocks
  pub free : AreFree image done (all_stored left) lists

module _ (image : ImageValue) (view : ViewValue) (cells : List CellValue) (plan : Plan) (lists : List FreeBlocks)
    (can : CanPutAll image view cells plan lists) where
  pub putting_init : IsPutting image view cells cells plan lists
  putting_init = record {
    done = 0;
    count = omega arith;
    left_is = refl;
    planned = can.planned;
    used = λ n. (let once = can.stopped.once n in omega (arith, once));
    within = can.stopped.within;
    free = can.free;
  }

  -- the next cell is there
  module _ (cell : CellValue) (rest : List CellValue) (p : Plan) (ls : List FreeBlocks)
      (is : IsPutting image view cells (cell ∷ rest) p ls) where
    pub next_within : is.done < length cells
    next_within = let count = is.count in omega (arith, count)

    its_cell : slice_index_or cells is.done cell ≡ cell
    its_cell =
        let same : is.done + 0 ≡ is.done = omega arith in
        ap (λ (k : ℕ). slice_index_or cells k cell) (sym same)
        ∙ sym (get_or-drop is.done cells 0 cell)
        ∙ ap (λ (cs : List CellValue). slice_index_or cs 0 cell) (sym is.left_is)

    pub next_slot : slot_of image is.done ≡ slot_image cell.state
    next_slot =
        ap (λ (slots : List SlotImageValue). slice_index_or slots is.done no_slot) can.stopped.slots
        ∙ get_or-map slot_image (states_of cells) is.done cell.state no_slot
        (let long = length-map cells (λ (c : CellValue). c.state) in omega (arith, long, next_within))
        ∙ ap slot_image (get_or-map (λ (c : CellValue). c.state) cells is.done cell cell.state next_within)
        ∙ ap (λ (c : CellValue). slot_image c.state) its_cell

    pub next_seen : slot_in view is.done ≡ shown_cell cell
    next_seen =
        ap (λ (slots : List SlotViewValue). slice_index_or slots is.done nothing) can.seen
        ∙ get_or-map shown_cell cells is.done cell nothing next_within ∙ ap shown_cell its_cell

    times_left : (n : ℕ) → times n (all_stored (cell ∷ rest)) ≡ times n (stored_in cell.state) + times n (all_stored rest)
    times_left n = times-append n (stored_in cell.state) (all_stored rest)

    pub next_leaves : CanLeave image is.done (all_stored rest) cell.state ls
    next_leaves = record {
      slot = next_slot;
      size = subst (λ (c : CellValue). c.state.block ≡ image.numbers.block) its_cell (can.stopped.sizes is.done cell next_within);
      within = λ n there.
          is.within n (has-append (stored_in cell.state) (all_stored rest) n
          ∙ or_left (has (stored_in cell.state) n) (has (all_stored rest) n) there);
      once = λ n. (let once = is.used n in omega (arith, once, times_left n));
      apart = λ n there.
          let once = is.used n in
          let some = stands (stored_in cell.state) n there in
          let made : times n (used_by image is.done) ≡ 0 = omega (arith, once, some, times_left n) in
          let none : times n (all_stored rest) ≡ 0 = omega (arith, once, some, times_left n) in
          ap₂ (λ (a b : Bool). a || b) (has-times n (used_by image is.done) made) (has-times n (all_stored rest) none);
      unseen = λ n there.
          unseen_at image cells can.stopped is.done cell next_within n
          (subst (λ (c : CellValue). has (numbers_of (fresh_blocks c.state)) n ≡ true) (sym its_cell) there);
      free = is.free;
    }

    pub next_put : (bare : BareCell) (new : List FreeBlocks) → HasLeft image view is.done (all_stored rest) bare new
        → IsNext image view is.done (all_stored rest) p bare new
    next_put bare new has_left = record {
      faultless = can.stopped.faultless;
      seen = can.sight;
      within =
          let slots = ap (λ (s : List SlotImageValue). length s) can.stopped.slots ∙ length-map (states_of cells) slot_image in
          let long = length-map cells (λ (c : CellValue). c.state) in
          omega (arith, slots, long, next_within);
      planned = is.planned;
      left = has_left.left;
      apart = has_left.apart;
      free = has_left.free;
    }

    pub putting_more : (limits : IsWithinLimits image.numbers) (q : Plan) (new : List FreeBlocks)
        → IsMade image view is.done (all_stored rest) q new → IsPutting image view cells rest q new
    putting_more limits q new made = record {
      done = is.done + 1;
      count = (let count = is.count in omega (arith, count));
      left_is = ap (drop 1) is.left_is ∙ drop-drop 1 is.done cells;
      planned = made.planned;
      used = λ n.
          let once = is.used n in
          let slots = ap (λ (s : List SlotImageValue). length s) can.stopped.slots ∙ length-map (states_of cells) slot_image in
          let long = length-map cells (λ (c : CellValue). c.state) in
          let fewer = fewer_in image limits can.stopped.faultless n is.done (omega (arith, slots, long, next_within)) in
          let own = ap (λ (s : SlotImageValue). times n (slot_numbers s)) next_slot in
          omega (arith, once, fewer, own, times_stored n cell.state, times_left n, used_more n image is.done);
      within = λ n there.
          is.within n (has-append (stored_in cell.state) (all_stored rest) n
          ∙ or_right (has (stored_in cell.state) n) (has (all_stored rest) n) there);
      free = made.free;
    }

  -- all are made
  pub all_put : (p : Plan) (ls : List FreeBlocks) → IsPutting image view cells [] p ls → IsBuilt image p ls
  all_put p ls is =
      let slots = ap (λ (s : List SlotImageValue). length s) can.stopped.slots ∙ length-map (states_of cells) slot_image in
      let long = length-map cells (λ (c : CellValue). c.state) in
      let count = is.count in
      let done : is.done ≡ length image.slots = omega (arith, slots, long, count) in
      record {
        view = view;
        planned = subst (λ (k : ℕ). IsPlanOf image view k p) done is.planned;
        free = subst (λ (k : ℕ). AreFree image k [] ls) done is.free;
      }
