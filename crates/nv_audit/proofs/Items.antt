-- The faults `item` and `run` by the tails and the logs that a mount makes.
use Rattle.std.proofs.Common.{◌≡◌, ℕ, ◌+◌, ◌<◌, inl, inr, Bool, true, false, cond, List, [], length, get_or, take, refl, ap, arith, sym, subst, ◌∙◌}
use Rattle.std.specs.Prelude.{◌↔◌, Err, IfOk, IsTrue, Ok, Result, slice_index_or}
use Rattle.std.proofs.lemmas.Bool.{cases_lt}
use Rattle.std.proofs.lemmas.List.{get_or_read, length-take, take_all}
use Rattle.nv_alloc.specs.Block.{AreSized, BlockValue}
use Rattle.nv_base.specs.declared.fault.Fault.{Fault}
use Rattle.nv_base.specs.declared.geometry.GeometryNumbers.{GeometryNumbers}
use Rattle.nv_cell.specs.Anew.{blocks_anew, marks_anew}
use Rattle.nv_cell.specs.Cell.{CellState, empty_cell, log_of}
use Rattle.nv_cell.proofs.ValuesNow.{IsLog-take}
use Rattle.nv_entry.specs.Log.{IsLog}
use Rattle.nv_entry.specs.Shape.{IsGoneLast, IsShaped, items_of}
use Rattle.nv_entry.specs.declared.item.Entry.{Entry}
use Rattle.nv_audit.specs.Faults.{AreEntriesGood, AreItemsGood, FitsGeometry, IsRunGood}
use Rattle.nv_audit.specs.Image.{ImageValue, SlotImageValue, no_slot, slot_of}
use Rattle.nv_audit.specs.Logged.{AreLoggedTrees, LoggedValue, logged}
use Rattle.nv_audit.specs.Mounted.{cell_anew, cell_of, cell_with, cells_of, cut_log, is_over, tail_of}
use Rattle.nv_audit.specs.MountedLogs.{AreGoneLast, AreShaped, IsFrontGoneLast, IsMadeOf, IsRunOf, cut_tails, mounted_logs}
use Rattle.nv_audit.proofs.LoggedCells.{same_trees}
use Rattle.nv_audit.proofs.MountedLogs.{log_at, logs_many, tail_at}

-- ---- the cells of a mount

its_size : (g : GeometryNumbers) (living : List ℕ) (n : ℕ) (slot : SlotImageValue) → (cell_anew g living n slot).block ≡ g.block
its_size g living n slot = go (is_over living g.block (take n slot.chain.entries)) where
  go : (b : Bool) → (cond b (empty_cell g.block g.page (slot.generation + 1) 0) (cell_with g living n slot)).block ≡ g.block
  go true = refl
  go false = refl

pub size_of_cell : (image : ImageValue) (ino : ℕ) → (cell_of image ino).block ≡ image.numbers.block
size_of_cell image ino = its_size image.numbers image.snapshots (tail_of image ino) (slot_of image ino)

made_with : (g : GeometryNumbers) (living : List ℕ) (n : ℕ) (slot : SlotImageValue) → IsLog slot.chain.entries
    → IsMadeOf living slot.blocks (cell_with g living n slot)
made_with g living n slot rising = record {
  whole = same;
  rising = IsLog-take n (take n slot.chain.entries) (IsLog-take n slot.chain.entries rising);
  marks = ap (marks_anew living g.block) same;
  stored = ap (λ (es : List Entry). blocks_anew slot.blocks g.block es (marks_anew living g.block es)) same;
} where
  same : take n slot.chain.entries ≡ take n (take n slot.chain.entries)
  same = sym (take_all n (take n slot.chain.entries) (omega (arith, length-take n slot.chain.entries)))

made_anew : (g : GeometryNumbers) (living : List ℕ) (n : ℕ) (slot : SlotImageValue) → IsLog slot.chain.entries
    → IsMadeOf living slot.blocks (cell_anew g living n slot)
made_anew g living n slot rising = go (is_over living g.block (take n slot.chain.entries)) where
  go : (b : Bool) → IsMadeOf living slot.blocks (cond b (empty_cell g.block g.page (slot.generation + 1) 0) (cell_with g living n slot))
  go true = record { whole = refl; rising = tt; marks = refl; stored = refl }
  go false = made_with g living n slot rising

pub made_of_image : (image : ImageValue) (ino : ℕ) → AreEntriesGood image → ino < length image.slots
    → IsMadeOf image.snapshots (slot_of image ino).blocks (cell_of image ino)
made_of_image image ino ordered lt =
    made_anew image.numbers image.snapshots (tail_of image ino) (slot_of image ino) (ordered ino lt).rising

-- ---- one slot and one log

-- the first entries of a slot's log, read by its place
pub front_gone : (slots : List SlotImageValue) (tails : List ℕ) (i : ℕ) (slot : SlotImageValue) (tail : ℕ) (front : List Entry)
    → i < length slots → i < length tails → slot ≡ get_or slots i slot → tail ≡ get_or tails i tail
    → front ≡ take tail slot.chain.entries
    → IsGoneLast (items_of front) ↔ IsFrontGoneLast (slice_index_or tails i 0) (slice_index_or slots i no_slot)
front_gone slots tails i slot tail front lt low at is same =
    subst (λ (es : List Entry). IsGoneLast (items_of es) ↔ IsFrontGoneLast (slice_index_or tails i 0) (slice_index_or slots i no_slot))
    (sym same)
    (subst (λ (t : ℕ). IsFrontGoneLast tail slot ↔ IsFrontGoneLast t (slice_index_or slots i no_slot)) (get_or_read tails i tail low is 0)
    (subst (λ (s : SlotImageValue). IsFrontGoneLast tail slot ↔ IsFrontGoneLast tail s) (get_or_read slots i slot lt at no_slot)
    (λ gone. gone, λ gone. gone)))

-- a log by what it shows
pub shaped_by : (l : LoggedValue) (block : ℕ) (log : List Entry) → block ≡ l.block → log ≡ l.log
    → IsShaped block log ↔ IsShaped l.block l.log
shaped_by l block log one other =
    subst (λ (b : ℕ). IsShaped b log ↔ IsShaped l.block l.log) (sym one)
    (subst (λ (es : List Entry). IsShaped l.block es ↔ IsShaped l.block l.log) (sym other) (λ is. is, λ is. is))

-- what holds up to a place, and there, holds up to the next
pub one_ino_more : (P : ℕ → Type 0) (i : ℕ) → ((k : ℕ) → k < i → P k) → P i → (k : ℕ) → k < i + 1 → P k
one_ino_more P i before here k below =
    elim (cases_lt k i) [
      | inl less ↦ before k less
      | inr from ↦ let is : i ≡ k = omega (arith, from, below) in subst P is here
    ]

-- ---- item

module _ (image : ImageValue) (tails : List ℕ) (are : tails ≡ cut_tails image) where
  pub gone_there : AreItemsGood image → AreGoneLast tails image.slots
  gone_there good ino lt =
      subst (λ (t : ℕ). IsFrontGoneLast t (slot_of image ino)) (sym (tail_at image tails ino 0 are lt)) (good.logs ino lt).last

  pub gone_each : AreGoneLast tails image.slots → (ino : ℕ) → ino < length image.slots → IsGoneLast (items_of (cut_log image ino))
  gone_each all ino lt = subst (λ (t : ℕ). IsFrontGoneLast t (slot_of image ino)) (tail_at image tails ino 0 are lt) (all ino lt)

module _ (image : ImageValue) (logs : List LoggedValue) (are : logs ≡ mounted_logs image) where
  pub few_logs : length logs ≡ length image.slots
  few_logs = ap (λ (ls : List LoggedValue). length ls) are ∙ logs_many image

  pub its_log : (ino : ℕ) (d : LoggedValue) → ino < length image.slots → slice_index_or logs ino d ≡ logged (cell_of image ino)
  its_log ino d lt = ap (λ (ls : List LoggedValue). slice_index_or ls ino d) are ∙ log_at image ino d lt

  pub shaped_there : AreItemsGood image → AreShaped logs
  shaped_there good n l lt =
      let low : n < length image.slots = omega (arith, lt, few_logs) in
      subst (λ (x : LoggedValue). IsShaped x.block x.log) (sym (its_log n l low))
      (subst (λ (b : ℕ). IsShaped b (log_of (cell_of image n))) (sym (size_of_cell image n)) (good.logs n low).shaped)

  pub shaped_each : LoggedValue → AreShaped logs → (ino : ℕ) → ino < length image.slots
      → IsShaped image.numbers.block (log_of (cell_of image ino))
  shaped_each d all ino lt =
      subst (λ (b : ℕ). IsShaped b (log_of (cell_of image ino))) (size_of_cell image ino)
      (subst (λ (x : LoggedValue). IsShaped x.block x.log) (its_log ino d lt) (all ino d (omega (arith, lt, few_logs))))

  pub trees_there : AreItemsGood image → AreLoggedTrees image.snapshots logs
  trees_there good =
      subst (AreLoggedTrees image.snapshots) (sym are) ((same_trees image.snapshots (cells_of image)).1 good.trees)

no_log : LoggedValue
no_log = record { block = 0; generation = 0; log = [] }

pub items_good : (image : ImageValue) (tails : List ℕ) (logs : List LoggedValue) → tails ≡ cut_tails image → logs ≡ mounted_logs image
    → AreGoneLast tails image.slots → AreShaped logs → AreLoggedTrees image.snapshots logs → AreItemsGood image
items_good image tails logs cut made gone shaped trees = record {
  logs = λ ino lt. record {
    last = gone_each image tails cut gone ino lt;
    shaped = shaped_each image logs made no_log shaped ino lt;
  };
  trees = (same_trees image.snapshots (cells_of image)).0 (subst (AreLoggedTrees image.snapshots) made trees);
}

-- the same of what is asked of the trees last
pub items_told : (image : ImageValue) (tails : List ℕ) (logs : List LoggedValue) → tails ≡ cut_tails image → logs ≡ mounted_logs image
    → AreGoneLast tails image.slots → AreShaped logs → (snapshots : List ℕ) (asked : List LoggedValue) → snapshots ≡ image.snapshots
    → asked ≡ logs → (r : Result Bool Fault) → IfOk r (λ form. IsTrue form ↔ AreLoggedTrees snapshots asked)
    → IfOk r (λ good. IsTrue good ↔ AreItemsGood image)
items_told image tails logs cut made gone shaped snapshots asked same all (Ok form) told = (
  λ yes. items_good image tails logs cut made gone shaped
      (subst (λ (ss : List ℕ). AreLoggedTrees ss logs) same (subst (AreLoggedTrees snapshots) all (told.0 yes))),
  λ good. told.1 (subst (AreLoggedTrees snapshots) (sym all)
      (subst (λ (ss : List ℕ). AreLoggedTrees ss logs) (sym same) (trees_there image logs made good))),
)
items_told image tails logs cut made gone shaped snapshots asked same all (Err fault) told = told

-- ---- run

pub run_of_image : (image : ImageValue) (ino : ℕ) → IsRunGood image ino → IsRunOf (slot_of image ino).blocks (cell_of image ino)
run_of_image image ino good = record { its = record { there = good.there; once = good.once }; ends = good.ends }

pub run_in_image : (image : ImageValue) (ino : ℕ) → IsRunOf (slot_of image ino).blocks (cell_of image ino) → IsRunGood image ino
run_in_image image ino is = record { there = is.its.there; once = is.its.once; ends = is.ends }

-- the blocks of a slot have the size that its log tells
pub its_sized : (image : ImageValue) (ino : ℕ) → FitsGeometry image → ino < length image.slots
    → AreSized (cell_of image ino).block (slot_of image ino).blocks
its_sized image ino fits lt =
    subst (λ (b : ℕ). AreSized b (slot_of image ino).blocks) (sym (size_of_cell image ino)) (fits.each ino lt).blocks

-- what is found of a slot is told of the cell that a mount makes of it
pub run_told_of : (image : ImageValue) (ino : ℕ) (l : LoggedValue) (blocks : List BlockValue) (snapshots : List ℕ) (good : Bool)
    → AreEntriesGood image → ino < length image.slots → l ≡ logged (cell_of image ino) → blocks ≡ (slot_of image ino).blocks
    → snapshots ≡ image.snapshots
    → ((cell : CellState) → IsMadeOf snapshots blocks cell → l ≡ logged cell → IsTrue good ↔ IsRunOf blocks cell)
    → IsTrue good ↔ IsRunGood image ino
run_told_of image ino l blocks snapshots good ordered lt is same living told =
    let cell = cell_of image ino in
    let made = subst (λ (ss : List ℕ). IsMadeOf ss blocks cell) (sym living)
    (subst (λ (bs : List BlockValue). IsMadeOf image.snapshots bs cell) (sym same) (made_of_image image ino ordered lt)) in
    let by = told cell made is in (
      λ yes. run_in_image image ino (subst (λ (bs : List BlockValue). IsRunOf bs cell) same (by.0 yes)),
      λ run. by.1 (subst (λ (bs : List BlockValue). IsRunOf bs cell) (sym same) (run_of_image image ino run)),
    )

pub slot_told : (image : ImageValue) (ino : ℕ) (l : LoggedValue) (blocks : List BlockValue) (snapshots : List ℕ) → AreEntriesGood image
    → ino < length image.slots → l ≡ logged (cell_of image ino) → blocks ≡ (slot_of image ino).blocks → snapshots ≡ image.snapshots
    → (r : Result Bool Fault)
    → IfOk r (λ good. (cell : CellState) → IsMadeOf snapshots blocks cell → l ≡ logged cell → IsTrue good ↔ IsRunOf blocks cell)
    → IfOk r (λ good. IsTrue good ↔ IsRunGood image ino)
slot_told image ino l blocks snapshots ordered lt is same living (Ok good) told =
    run_told_of image ino l blocks snapshots good ordered lt is same living told
slot_told image ino l blocks snapshots ordered lt is same living (Err fault) told = told
