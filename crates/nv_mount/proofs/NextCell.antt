-- The next cell of a mount: what is free before it gets its blocks, what it gets, and what is free then.
use Rattle.std.proofs.Common.{◌≡◌, ℕ, ◌+◌, ◌-◌, ◌<◌, ◌≤◌, ◌==◌, ◌||◌, ◌++◌, inl, inr, Bool, true, false, cond, List, [], ◌∷◌, length, length-append, take, drop, map, reverse, Option, None, Some, arith, refl, ap, ap₂, subst, sym, ◌∙◌}
use Rattle.std.specs.Prelude.{option_and_then}
use Rattle.std.specs.List.{flat_map, range_with_len}
use Rattle.std.specs.Option.{option_map}
use Rattle.std.proofs.lemmas.Bool.{and_parts, cases_lt, false≢true}
use Rattle.std.proofs.lemmas.Grind.{flat_map-append}
use Rattle.std.proofs.lemmas.List.{append-nil, length-reverse, length-take, take_all, take-append-drop}
use Rattle.std.proofs.lemmas.List.FromFn.{map-range_with_len_more}
use Rattle.std.proofs.lemmas.Option.{none-some}
use Rattle.nv_alloc.specs.Block.{BlockValue, block_by, number_of, numbers_of}
use Rattle.nv_alloc.specs.FreeList.{FreeBlocks, free_blocks}
use Rattle.nv_alloc.specs.Numbers.{has}
use Rattle.nv_alloc.specs.Queue.{QueueValue}
use Rattle.nv_audit.specs.Faults.{IsFaultless, IsNeededPage}
use Rattle.nv_audit.specs.Image.{ImageValue, SlotImageValue, slot_of}
use Rattle.nv_audit.specs.Mounted.{cell_of, cell_with, cut_log, free_block, tail_of}
use Rattle.nv_base.specs.declared.fault.ImageFault.TheVariants as fault
use Rattle.nv_base.specs.declared.limits.TheConstants.{NUMBER}
use Rattle.nv_cell.specs.Anew.{AreThere, marks_anew}
use Rattle.nv_cell.specs.Cell.{CellState, empty_cell, page_block, stored_in}
use Rattle.nv_cell.specs.Filling.{AreOnce, AreTaken, log_wants, numbers_wanted, taken_from}
use Rattle.nv_cell.specs.Marks.{is_there, mark_at}
use Rattle.nv_cell.specs.Plan.{IsPlan}
use Rattle.nv_cell.specs.Readers.{is_gone}
use Rattle.nv_cell.specs.Index.{IndexValue}
use Rattle.nv_cell.specs.declared.mark.Mark.{Mark}
use Rattle.nv_cell.specs.declared.marks.Marks.{Marks}
use Rattle.nv_cell.specs.declared.plan.CellPlan.{CellPlan}
use Rattle.nv_entry.specs.declared.item.Entry.{Entry}
use Rattle.nv_log.specs.Chain.{AreEnds}
use Rattle.nv_log.specs.Image.{cut_ends}
use Rattle.nv_mount.specs.Build.{AreFree, IsApart, used_by}
use Rattle.nv_mount.specs.Plan.{is_erased}
use Rattle.nv_mount.proofs.Free.{data_free, data_no_page, data_there, slot_within}
use Rattle.nv_mount.proofs.Marked.{has-append, numbers_append}
use Rattle.nv_mount.proofs.Wanted.{stored_are, wanted_by, wanted_once, wanted_same}

-- ---- blocks that are used

pub used_more : (image : ImageValue) (ino : ℕ) → used_by image (ino + 1) ≡ used_by image ino ++ stored_in (cell_of image ino)
used_more image ino =
    ap (flat_map stored_in) (map-range_with_len_more (cell_of image) 0 ino ino (omega arith))
    ∙ flat_map-append stored_in (map (cell_of image) (range_with_len 0 ino)) (cell_of image ino ∷ [])
    ∙ ap (λ (ns : List ℕ). used_by image ino ++ ns) (append-nil (stored_in (cell_of image ino)))

-- ---- an erased slot

-- an inode that is gone has an entry, and so a page
pub some_page : (image : ImageValue) (ino : ℕ) → IsFaultless image → ino < length image.slots → is_erased image ino ≡ true
    → 0 < length (slot_of image ino).chain.pages
some_page image ino faultless lt over = go (slot_of image ino).chain.ends refl where
  slot : SlotImageValue
  slot = slot_of image ino

  gone : is_gone (cut_log image ino) ≡ true
  gone = (and_parts (is_gone (cut_log image ino)) _ over).0

  no_entry : (es : List Entry) → 0 ≡ length es → is_gone (take (tail_of image ino) es) ≡ true → ⊥
  no_entry [] none is = at (tail_of image ino) is where
    at : (n : ℕ) → is_gone (take n []) ≡ true → ⊥
    at n e = false≢true (ap is_gone (sym (take_all n [] (omega arith))) ∙ e)
  no_entry (e ∷ es) none is = omega (arith, none)

  go : (ends : List ℕ) → slot.chain.ends ≡ ends → 0 < length slot.chain.pages
  go [] e =
      let paged = faultless fault.Chain ino lt in
      absurd (no_entry slot.chain.entries
      (subst (λ (es : List ℕ). AreEnds image.numbers.page 0 es (length slot.chain.entries)) e paged.parted) gone)
  go (end ∷ ends) e =
      let few = (faultless fault.Chain ino lt).paged in
      omega (arith, few, ap (λ (es : List ℕ). length es) e)

pub below_last : (image : ImageValue) (ino : ℕ) → IsFaultless image → ino < length image.slots → is_erased image ino ≡ true
    → (slot_of image ino).generation < NUMBER
below_last image ino faultless lt over =
    let fits = (faultless fault.Geometry).each ino lt in
    let some = some_page image ino faultless lt over in
    elim (cases_lt (slot_of image ino).generation NUMBER) [
      | inl low ↦ low
      | inr from ↦
          let last : (slot_of image ino).generation ≡ NUMBER = omega (arith, from, fits.most) in
          absurd (omega (arith, some, ap (λ (bs : List BlockValue). length bs) (fits.last last)))
    ]

pub erased_is : (image : ImageValue) (ino : ℕ) → is_erased image ino ≡ true
    → empty_cell image.numbers.block image.numbers.page ((slot_of image ino).generation + 1) 0 ≡ cell_of image ino
erased_is image ino over =
    sym (ap (λ (b : Bool). cond b (empty_cell image.numbers.block image.numbers.page ((slot_of image ino).generation + 1) 0)
    (cell_with image.numbers image.snapshots (tail_of image ino) (slot_of image ino))) over)

pub erased_free : (image : ImageValue) (ino : ℕ) (owed : List ℕ) (lists : List FreeBlocks) → is_erased image ino ≡ true
    → AreFree image ino owed lists → AreFree image (ino + 1) owed lists
erased_free image ino owed lists over free = record {
  homes = free.homes;
  each = λ n lt.
      free.each n lt
      ∙ ap (λ (ns : List ℕ). cond (has ns n || has owed n) None (Some (free_block image n)))
      (sym (used_more image ino ∙ ap (λ (cell : CellState). used_by image ino ++ stored_in cell) (sym (erased_is image ino over))
      ∙ append-nil (used_by image ino)));
}

-- ---- a slot that stays

module _ (image : ImageValue) (faultless : IsFaultless image) (ino : ℕ) (lt : ino < length image.slots) (owed : List ℕ)
    (apart : IsApart image ino owed) (stays : is_erased image ino ≡ false) where
  abbrev slot : SlotImageValue
  slot = slot_of image ino

  abbrev block : ℕ
  block = image.numbers.block

  abbrev log : List Entry
  log = cut_log image ino

  abbrev marks : List Mark
  marks = marks_anew image.snapshots block log

  abbrev wants : List (Option ℕ)
  wants = log_wants block marks 0 log

  abbrev kept : List BlockValue
  kept = take (length (cut_ends (tail_of image ino) slot.chain.ends)) slot.chain.pages

  pub cell_is : cell_of image ino ≡ cell_with image.numbers image.snapshots (tail_of image ino) slot
  cell_is =
      ap (λ (b : Bool). cond b (empty_cell block image.numbers.page (slot.generation + 1) 0)
      (cell_with image.numbers image.snapshots (tail_of image ino) slot)) stays

  needed : (n w : ℕ) → is_there (mark_at marks n) ≡ true → page_block block log n ≡ Some w → IsNeededPage (cell_of image ino) n w
  needed n w there says =
      subst (λ (cell : CellState). IsNeededPage cell n w) (sym cell_is) (record {
        there = there;
        says = ap (λ (es : List Entry). page_block block es n)
            (take_all (tail_of image ino) log (omega (arith, length-take (tail_of image ino) slot.chain.entries)))
            ∙ says;
      })

  pub their_blocks : AreThere block image.snapshots slot.blocks log
  their_blocks n w there says = (faultless fault.Run ino lt).there n w (needed n w there says)

  pub each_once : AreOnce wants
  each_once =
      wanted_once block marks log (λ n m w there says too says_too.
      (faultless fault.Run ino lt).once n m w (needed n w there says) (needed m w too says_too))

  out : (u p o : Bool) → (u || o) ≡ false → p ≡ false → (u || (p || o)) ≡ false
  out true p o h q = absurd (false≢true (sym h))
  out false true o h q = absurd (false≢true (sym q))
  out false false o h q = h

  -- a kept page is one of the slot's, so no data block
  kept_page : (n : ℕ) → has (numbers_of slot.chain.pages) n ≡ false → has (numbers_of kept) n ≡ false
  kept_page n none =
      go (has (numbers_of kept) n) refl where
        k : ℕ
        k = length (cut_ends (tail_of image ino) slot.chain.ends)

        all : has (numbers_of slot.chain.pages) n ≡ (has (numbers_of kept) n || has (numbers_of (drop k slot.chain.pages)) n)
        all = ap (λ (bs : List BlockValue). has (numbers_of bs) n) (sym (take-append-drop k slot.chain.pages))
            ∙ ap (λ (ns : List ℕ). has ns n) (numbers_append kept (drop k slot.chain.pages))
            ∙ has-append (numbers_of kept) (numbers_of (drop k slot.chain.pages)) n

        go : (b : Bool) → has (numbers_of kept) n ≡ b → has (numbers_of kept) n ≡ false
        go false q = q
        go true q =
            absurd (false≢true (sym none ∙ all ∙ ap (λ (b : Bool). b || has (numbers_of (drop k slot.chain.pages)) n) q))

  -- what is wanted lies at home with the bytes that it has in the slot
  at_home : (lists : List FreeBlocks) → AreFree image ino (numbers_of kept ++ owed) lists → (w : ℕ)
      → has (numbers_wanted wants) w ≡ true → block_by (free_blocks lists) w ≡ block_by slot.blocks w
  at_home lists free w there = go (block_by slot.blocks w) refl where
    by : (n : ℕ) × (is_there (mark_at marks n) ≡ true) × (page_block block log n ≡ Some w)
    by = wanted_by block marks log w there

    some_has : (bs : List BlockValue) (b : BlockValue) → block_by bs w ≡ Some b → has (numbers_of bs) w ≡ true
    some_has [] b e = absurd (none-some b e)
    some_has (x ∷ bs) b e = at (x.number == w) e (some_has bs b) where
      at : (c : Bool) → cond c (Some x) (block_by bs w) ≡ Some b → (block_by bs w ≡ Some b → has (numbers_of bs) w ≡ true)
          → (c || has (numbers_of bs) w) ≡ true
      at true k more = refl
      at false k more = more k

    go : (o : Option BlockValue) → block_by slot.blocks w ≡ o → block_by (free_blocks lists) w ≡ block_by slot.blocks w
    go None e = absurd (none-some w (ap (option_map number_of) (sym e) ∙ their_blocks by.0 w by.1 by.2))
    go (Some b) e =
        let in_data = some_has slot.blocks b e in
        let in_slot = data_there image faultless ino lt w in_data in
        let none =
        ap (λ (c : Bool). has (used_by image ino) w || c) (has-append (numbers_of kept) owed w)
        ∙ out (has (used_by image ino) w) (has (numbers_of kept) w) (has owed w) (apart w in_slot)
        (kept_page w (data_no_page image faultless ino lt w in_data)) in
        free.each w (slot_within image faultless ino lt w in_slot)
        ∙ ap (λ (c : Bool). cond c None (Some (free_block image w))) none
        ∙ ap Some (sym (data_free image faultless ino lt w b e)) ∙ sym e

  pub taken_are : (lists : List FreeBlocks) → AreFree image ino (numbers_of kept ++ owed) lists
      → map (taken_from lists) wants ≡ map (option_and_then (block_by slot.blocks)) wants
  taken_are lists free =
      wanted_same (block_by (free_blocks lists)) (block_by slot.blocks) wants (at_home lists free)

  -- the cell has its pages and what was wanted
  stored : stored_in (cell_of image ino) ≡ numbers_of kept ++ numbers_wanted wants
  stored =
      ap stored_in cell_is ∙ ap (λ (ns : List ℕ). numbers_of kept ++ ns) (stored_are block marks log slot.blocks their_blocks)

  pub filled_free : (lists new : List FreeBlocks) → AreFree image ino (numbers_of kept ++ owed) lists
      → AreTaken image.numbers wants lists new → AreFree image (ino + 1) owed new
  filled_free lists new free taken = record {
    homes = taken.homes;
    each = λ n low.
        taken.each n
        ∙ ap (λ (o : Option BlockValue). cond (has (numbers_wanted wants) n) None o)
        (free.each n low
        ∙ ap (λ (b : Bool). cond (has (used_by image ino) n || b) None (Some (free_block image n))) (has-append (numbers_of kept) owed n))
        ∙ both (has (numbers_wanted wants) n) (has (used_by image ino) n) (has (numbers_of kept) n) (has owed n) (Some (free_block image n))
        ∙ ap (λ (b : Bool). cond (b || has owed n) None (Some (free_block image n)))
        (sym (ap (λ (ns : List ℕ). has ns n) (used_more image ino ∙ ap (λ (ns : List ℕ). used_by image ino ++ ns) stored)
        ∙ has-append (used_by image ino) (numbers_of kept ++ numbers_wanted wants) n
        ∙ ap (λ (b : Bool). has (used_by image ino) n || b) (has-append (numbers_of kept) (numbers_wanted wants) n)));
  } where
    both : (w u k o : Bool) (x : Option BlockValue) → cond w None (cond (u || (k || o)) None x) ≡ cond ((u || (k || w)) || o) None x
    both true true k o x = refl
    both true false true o x = refl
    both true false false o x = refl
    both false true k o x = refl
    both false false true o x = refl
    both false false false o x = refl

-- ---- plans and queues that changed in part

-- a plan whose index and marks are those of another one is one where that is
pub same_plan : (block : ℕ) (living : List ℕ) (log : List Entry) (pages : ℕ) (old new : CellPlan) → new.index ≡ old.index
    → new.marks ≡ old.marks → IsPlan block living log pages old → IsPlan block living log pages new
same_plan block living log pages old new index marks is =
    let kept : IsPlan block living log pages (record old { blocks = new.blocks }) =
    record {
      refs = is.refs;
      names = is.names;
      marks = is.marks;
      ends_room = is.ends_room;
      tallies_room = is.tallies_room;
      pages_room = is.pages_room;
    } in
    let same =
    ap₂ (λ (i : IndexValue) (m : Marks). let p : CellPlan = record { index = i; marks = m; blocks = new.blocks } in p) (sym index) (sym marks) in
    subst (IsPlan block living log pages) same kept

-- a queue that was filled and emptied again is as it was
pub queue_back : (old mid new : QueueValue) (past : List BlockValue) → old.blocks ≡ [] → length past ≤ old.room
    → mid ≡ record old { blocks = old.blocks ++ reverse past; room = old.room - length past }
    → new ≡ record mid { blocks = []; room = mid.room + length mid.blocks } → new ≡ old
queue_back old mid new past none few filled emptied =
    let size = ap (λ (q : QueueValue). q.size) filled in
    let rest = ap (λ (q : QueueValue). q.room) filled in
    let many =
    ap (λ (q : QueueValue). length q.blocks) filled ∙ length-append old.blocks (reverse past) in
    let zeroth = ap (λ (bs : List BlockValue). length bs) none in
    let room : mid.room + length mid.blocks ≡ old.room = omega (arith, few, rest, many, zeroth, length-reverse past) in
    emptied
    ∙ ap (λ (bs : List BlockValue). let q : QueueValue = record { blocks = bs; size = mid.size; room = mid.room + length mid.blocks } in q)
    (sym none)
    ∙ ap (λ (n : ℕ). let q : QueueValue = record { blocks = old.blocks; size = n; room = mid.room + length mid.blocks } in q) size
    ∙ ap (λ (n : ℕ). let q : QueueValue = record { blocks = old.blocks; size = old.size; room = n } in q) room
