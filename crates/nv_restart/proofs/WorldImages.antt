-- THE IMAGE OF A WORLD to which events lead has no fault, where the world may stop.
use Rattle.std.proofs.Common.{◌≡◌, ℕ, zero, suc, ◌+◌, ◌<◌, ◌≤◌, ◌&&◌, ◌∙◌, Bool, true, false, ap₂, not, List, [], ◌∷◌, Some, None, ap, arith, length, refl, subst, sym}
use Rattle.std.specs.Prelude.{slice_index_or}
use Rattle.std.specs.List.{AllByRecursion, list_any}
use Rattle.std.specs.Option.{option_map}
use Rattle.std.proofs.lemmas.Bool.{false≢true, true≢false}
use Rattle.std.proofs.lemmas.List.{length-map}
use Rattle.std.proofs.lemmas.Option.{none-some}
use Rattle.nv_audit.specs.DeviceParts.{IsInRange}
use Rattle.nv_alloc.specs.Block.{block_by, number_of}
use Rattle.nv_audit.specs.Faults.{AreItemsGood, AreOrdered, FitsGeometry, FitsSlot, IsFaultless, IsLogGood, IsNeededPage, IsRunGood}
use Rattle.nv_audit.specs.Image.{ImageValue, SlotImageValue, slot_of}
use Rattle.nv_audit.specs.LogShape.{IsNoLater}
use Rattle.nv_audit.specs.Mounted.{cell_with, cut_log, is_over, tail_of}
use Rattle.nv_audit.specs.Sound.{EndsAtSize}
use Rattle.nv_base.specs.declared.fault.ImageFault.TheVariants as fault
use Rattle.nv_base.specs.declared.geometry.GeometryNumbers.{GeometryNumbers}
use Rattle.nv_base.specs.declared.limits.TheConstants.{NUMBER}
use Rattle.nv_book.specs.declared.record.Record.{Record}
use Rattle.nv_cell.specs.Cell.{CellState, log_of, page_block}
use Rattle.nv_cell.specs.Readers.{is_gone}
use Rattle.nv_cell.specs.Shape.{IsLeftShaped}
use Rattle.nv_entry.specs.Held.{is_held}
use Rattle.nv_entry.specs.Log.{pairs}
use Rattle.nv_entry.specs.Shape.{AreLawful, IsGoneLast, IsShaped, items_of}
use Rattle.nv_entry.specs.declared.item.Entry.{Entry}
use Rattle.nv_epoch.specs.SnapList.{ids}
use Rattle.nv_epoch.specs.declared.snapshot.Snapshot.{Snapshot}
use Rattle.nv_machine.proofs.ShapeEvents.{all_shaped}
use Rattle.nv_machine.proofs.SnapRuns.{in_step}
use Rattle.nv_machine.proofs.Versions.{all_counted}
use Rattle.nv_machine.specs.Settled.{settled}
use Rattle.nv_machine.specs.Starts.{IsStart}
use Rattle.nv_machine.specs.Step.{after}
use Rattle.nv_machine.specs.World.{Event, Shared, World, cell_at}
use Rattle.nv_restart.proofs.FewSnapshots.{all_fit}
use Rattle.nv_restart.proofs.Generations.{all_in_range}
use Rattle.nv_restart.proofs.HeldKinds.{all_held_lawful}
use Rattle.nv_restart.proofs.Slots.{by_cell}
use Rattle.nv_restart.proofs.SoundEnds.{zeros_at}
use Rattle.nv_restart.proofs.WorldBlocks.{blocks_good}
use Rattle.nv_restart.proofs.WorldCells as of_world
use Rattle.nv_restart.proofs.WorldSlots.{slot_is}
use Rattle.nv_restart.proofs.WorldTrees.{world_trees}
use Rattle.nv_restart.specs.Restarted.{image_of}
use Rattle.nv_restart.specs.Stops.{MayStop}

none_later : (commit epoch : ℕ) (log : List Entry)
    → AllByRecursion (λ (e : Entry). (e.id.commit < commit + 1) × (e.epoch ≤ epoch)) log → (i : ℕ)
    (d : Entry) → i < length log → IsNoLater commit epoch (slice_index_or log i d)
none_later commit epoch [] all i d lt = absurd (omega (arith, lt))
none_later commit epoch (e ∷ log) all zero d lt =
    ((let low = all.0.0 in omega (arith, low)), all.0.1)
none_later commit epoch (e ∷ log) all (suc i) d lt =
    none_later commit epoch log all.1 i d (omega (arith, lt))

pub all_may_stop : (g : GeometryNumbers) (start : World) (records : List Record)
    (events : List Event) → IsStart g start records → MayStop g.block start.shared
    → MayStop g.block (after start events).shared
all_may_stop g start records events is_start may = record {
  snapshots = all_fit g start records events is_start may.snapshots;
  generations = all_in_range g start records events is_start may.generations;
  held = all_held_lawful g start records is_start events may.held;
}

module _ (g : GeometryNumbers) (start : World) (records : List Record) (events : List Event)
    (is_start : IsStart g start records) (first : MayStop g.block start.shared) where
  abbrev w : World
  w = after start events

  abbrev s : Shared
  s = w.shared

  abbrev image : ImageValue
  image = image_of w

  abbrev living : List ℕ
  living = ids s.book.snaps

  abbrev new : ℕ → CellState
  new ino = cell_with w.numbers living (tail_of image ino) (slot_of image ino)

  may : MayStop g.block s
  may = all_may_stop g start records events is_start first

  same : w.numbers ≡ g
  same = of_world.numbers g start records events is_start

  inside : (ino : ℕ) → ino < length image.slots → ino < length s.cells
  inside ino lt =
      let many = of_world.slots g start records events is_start in omega (arith, lt, many)

  -- ---- geometry

  fits_slot : (ino : ℕ) → ino < length image.slots → FitsSlot w.numbers (slot_of image ino)
  fits_slot ino lt = record {
    pages = of_world.sized_pages g start records events is_start ino;
    blocks = of_world.sized_blocks g start records events is_start ino;
    some = subst (λ (slot : SlotImageValue). 1 ≤ slot.generation) (sym (slot_is w ino)) range.some;
    most =
        subst (λ (slot : SlotImageValue). slot.generation ≤ NUMBER) (sym (slot_is w ino))
        range.most;
    last =
        subst (λ (slot : SlotImageValue). slot.generation ≡ NUMBER → slot.chain.pages ≡ [])
        (sym (slot_is w ino)) range.last;
  } where
    range : IsInRange (cell_at s ino)
    range = may.generations ino (inside ino lt)

  fits : FitsGeometry image
  fits = record {
    slots =
        of_world.slots g start records events is_start
        ∙ (of_world.whole g start records events is_start).pooled.slots
        ∙ ap (λ (n : GeometryNumbers). n.inodes) (sym same);
    journals =
        (of_world.whole g start records events is_start).kept.logs.wide
        ∙ (of_world.whole g start records events is_start).numbers.lists.cpus
        ∙ ap (λ (n : GeometryNumbers). n.cpus) (sym same);
    snapshots =
        let few = may.snapshots.few in
        let long = length-map s.book.snaps.living (λ (x : Snapshot). x.number) in
        let most = (in_step g start records events is_start).most
        ∙ ap (λ (n : GeometryNumbers). n.snaps) (sym same) in
        omega (arith, few, long, most);
    each = fits_slot;
    some_epoch = may.snapshots.some;
    epoch = may.snapshots.most;
    commit = (all_counted g start records events is_start).versions.limit;
  }

  -- ---- items

  shape : (ino : ℕ) → IsLeftShaped g.block (settled s ino)
  shape ino = all_shaped g start records events is_start ino

  -- a log that is not erased is lawful from nothing on: its inode is there, or a snapshot holds a
  -- pair
  left_lawful : (ino : ℕ) → is_over living g.block (settled s ino) ≡ false
      → AreLawful g.block (items_of (settled s ino)) None
  left_lawful ino left =
      go (is_gone (settled s ino)) refl (list_any (is_held living) (pairs g.block (settled s ino)))
      refl left
    where
      go : (a : Bool) → is_gone (settled s ino) ≡ a → (b : Bool)
          → list_any (is_held living) (pairs g.block (settled s ino)) ≡ b → (a && not b) ≡ false
          → AreLawful g.block (items_of (settled s ino)) None
      go false there b held e = (shape ino).lawful there
      go true gone true held e = may.held ino held
      go true gone false held e = absurd (true≢false e)

  abbrev IsShapedBy : CellState → Type 0
  IsShapedBy cell = IsShaped w.numbers.block (log_of cell)

  log_good : (ino : ℕ) → IsLogGood image ino
  log_good ino = record {
    last =
        subst (λ (l : List Entry). IsGoneLast (items_of l)) (sym cut) (shape ino).last;
    shaped =
        by_cell IsShapedBy w.numbers living (tail_of image ino) (slot_of image ino)
        (λ over. record { lawful = tt; last = tt })
        (λ left.
        subst (IsShaped w.numbers.block)
        (sym (of_world.its_log g start records events is_start ino ∙ cut))
        (subst (λ (n : GeometryNumbers). IsShaped n.block (settled s ino)) (sym same)
        (record {
          lawful = left_lawful ino
              (sym (ap₂ (λ (n : GeometryNumbers) (l : List Entry).
              is_over living n.block l) same cut)
              ∙ left);
          last = (shape ino).last;
        })));
  } where
    cut : cut_log image ino ≡ settled s ino
    cut = of_world.cut g start records events is_start ino

  items_good : AreItemsGood image
  items_good = record {
    logs = λ ino lt. log_good ino;
    trees = world_trees g start records events is_start;
  }

  -- ---- runs

  abbrev IsThere : ℕ → CellState → Type 0
  IsThere ino cell =
      (n number : ℕ) → IsNeededPage cell n number
      → option_map number_of (block_by (slot_of image ino).blocks number) ≡ Some number

  abbrev IsOnce : CellState → Type 0
  IsOnce cell =
      (n m number : ℕ) → IsNeededPage cell n number → IsNeededPage cell m number → n ≡ m

  run_good : (ino : ℕ) → ino < length s.cells → IsRunGood image ino
  run_good ino lt = record {
    there =
        by_cell (IsThere ino) w.numbers living (tail_of image ino) (slot_of image ino)
        (λ over n number page. absurd (false≢true page.there))
        (λ left n number page.
        of_world.there g start records events is_start ino lt n number page.there
        (says n number page));
    once =
        by_cell IsOnce w.numbers living (tail_of image ino) (slot_of image ino)
        (λ over n m number page other. absurd (false≢true page.there))
        (λ left n m number page other.
        of_world.once g start records events is_start ino lt n m number page.there other.there
        (says n number page) (says m number other));
    ends =
        by_cell EndsAtSize w.numbers living (tail_of image ino) (slot_of image ino)
        (λ over. record {
          pages = λ page number e. absurd (none-some number e);
          zeros = λ page place le. zeros_at w.numbers.block place;
        })
        (λ left. of_world.new_ends g start records events is_start ino lt);
  } where
    says : (n number : ℕ) → IsNeededPage (new ino) n number
        → page_block w.numbers.block (cut_log image ino) n ≡ Some number
    says n number page =
        sym (ap (λ (l : List Entry). page_block w.numbers.block l n)
        (of_world.its_log g start records events is_start ino))
        ∙ page.says

  -- ---- the whole

  pub faultless : IsFaultless image
  faultless fault.Geometry = fits
  faultless fault.Block =
      blocks_good g w same (of_world.whole g start records events is_start).numbers.once
  faultless fault.Chain = λ ino lt. of_world.chain_good g start records events is_start ino
  faultless fault.Entry = λ ino lt.
      subst (λ (slot : SlotImageValue).
      AreOrdered s.book.commit s.book.snaps.epoch slot.chain.entries) (sym (slot_is w ino))
      (record {
        rising = ((of_world.known g start records events is_start).order.logs ino).ordered;
        no_later =
            none_later s.book.commit s.book.snaps.epoch (cell_at s ino).chain.entries
            ((of_world.known g start records events is_start).order.logs ino).earlier;
      })
  faultless fault.Item = items_good
  faultless fault.Run = λ ino lt. run_good ino (inside ino lt)
  faultless fault.Journal = of_world.good g start records events is_start
  faultless fault.Snaps = record {
    rising = (of_world.whole g start records events is_start).listed.rising;
    below = (of_world.whole g start records events is_start).listed.below;
  }
