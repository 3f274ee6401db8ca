-- The slots of a world's image: their chains, and the cells that a mount makes of them, whose
-- blocks are those of the world.
use Rattle.std.proofs.Common.{◌≡◌, ℕ, zero, suc, ◌<◌, ◌≤◌, ◌==◌, ◌∙◌, Bool, true, false, ap₂, cond, not, List, [], ◌∷◌, Option, Some, None, ap, arith, length, refl, subst, sym, take}
use Rattle.std.specs.Prelude.{option_and_then, option_to_list, slice_get, slice_index_or}
use Rattle.std.specs.List.{AllByRecursion, flat_map}
use Rattle.std.specs.Option.{option_map}
use Rattle.std.proofs.lemmas.Bool.{eq-eqb, eqb-true}
use Rattle.std.proofs.lemmas.List.{length-map, take-take}
use Rattle.std.proofs.lemmas.Option.{none-some, same_Some}
use Rattle.nv_alloc.specs.Block.{AreSized, BlockValue, block_by, number_of}
use Rattle.nv_audit.specs.Image.{ImageValue, SlotImageValue, slot_of}
use Rattle.nv_audit.specs.Mounted.{are_journals_good, cell_with, cut_log, tail_of}
use Rattle.nv_cell.specs.Anew.{AreThere, marks_anew}
use Rattle.nv_audit.specs.Sound.{EndsAtSize}
use Rattle.nv_base.specs.Limits.{IsWithinLimits}
use Rattle.nv_base.specs.declared.geometry.GeometryNumbers.{GeometryNumbers}
use Rattle.nv_book.specs.declared.record.Record.{Record}
use Rattle.nv_cell.proofs.Publishing.{total_take as front_total}
use Rattle.nv_cell.specs.Cell.{AreSlotsSized, CellState, IsCell, log_of, page_block}
use Rattle.nv_cell.specs.Marks.{is_current, is_there, mark_at}
use Rattle.nv_cell.specs.declared.mark.Mark.{Mark}
use Rattle.nv_cell.specs.declared.mark.Mark.TheVariants.{Current, Killed, Kept, Out}
use Rattle.nv_entry.specs.Covered.{is_covered, part_total}
use Rattle.nv_entry.specs.Held.{holds}
use Rattle.nv_entry.specs.Log.{IsLog, pairs}
use Rattle.nv_entry.specs.Node.{block_now}
use Rattle.nv_entry.specs.Sound.{IsSound}
use Rattle.nv_entry.specs.declared.held.Pair.{Pair}
use Rattle.nv_entry.specs.declared.item.Entry.{Entry}
use Rattle.nv_epoch.specs.SnapList.{ids}
use Rattle.nv_journal.specs.Journal.{settled_tail}
use Rattle.nv_log.specs.Chain.{AreEnds}
use Rattle.nv_log.specs.Image.{IsPaged}
use Rattle.nv_machine.proofs.CellPages.{among_at, found, front_says, same_sound}
use Rattle.nv_machine.proofs.EveryWorld.{IsWhole, all_whole, each_cell, on_pages, reached}
use Rattle.nv_machine.specs.Kept.{AreApart}
use Rattle.nv_machine.specs.Reached.{IsReached}
use Rattle.nv_machine.specs.Reads.{bytes_among}
use Rattle.nv_machine.specs.Recorded.{records_after}
use Rattle.nv_machine.specs.Settled.{settled}
use Rattle.nv_machine.specs.Starts.{IsStart}
use Rattle.nv_machine.specs.Step.{after}
use Rattle.nv_machine.specs.World.{Event, Shared, World, cell_at}
use Rattle.nv_restart.proofs.BlocksAnew.{apart_anew, at_part}
use Rattle.nv_restart.proofs.Cells.{cell_is, log_is}
use Rattle.nv_restart.proofs.Marks.{current_marks}
use Rattle.nv_restart.proofs.NotedTails.{tail_low}
use Rattle.nv_restart.proofs.SoundEnds.{sound_ends}
use Rattle.nv_restart.proofs.WorldBlocks.{sized_data}
use Rattle.nv_restart.proofs.WorldJournals.{journals_good}
use Rattle.nv_restart.proofs.WorldRuns.{are_apart, are_there}
use Rattle.nv_restart.proofs.WorldSlots.{at_cell, cut_is, slot_is}
use Rattle.nv_restart.specs.Restarted.{image_of, slot_image}

-- ---- lists

pub total_take : (u v : ℕ) (es : List Entry) → u ≤ v
    → part_total (take u es) ≤ part_total (take v es)
total_take u v es le =
    subst (λ (l : List Entry). part_total l ≤ part_total (take v es)) (take-take u v es le)
    (front_total (take v es) u)

-- where blocks are apart, that of a number is found
pub found_same : (t n : ℕ) (b : BlockValue) (slots : List (Option BlockValue)) → AreApart slots
    → n < t
    → slice_index_or slots n None ≡ Some b
    → block_by (flat_map option_to_list (take t slots)) b.number ≡ Some b
found_same zero n b slots apart lt at = absurd (omega (arith, lt))
found_same (suc t) n b [] apart lt at = absurd (none-some b at)
found_same (suc t) zero b (None ∷ slots) apart lt at = absurd (none-some b at)
found_same (suc t) (suc n) b (None ∷ slots) apart lt at =
    found_same t n b slots
    (λ i j c d e f same.
    let one = apart (suc i) (suc j) c d e f same in omega (arith, one)) (omega (arith, lt)) at
found_same (suc t) zero b (Some c ∷ slots) apart lt at =
    let same : c ≡ b = same_Some c b at in
    let own : (c.number == b.number) ≡ true =
    eq-eqb c.number b.number (ap number_of same) in
    rw own (ap (λ (x : BlockValue). Some x) same)
found_same (suc t) (suc n) b (Some c ∷ slots) apart lt at =
    go (c.number == b.number) refl
    (found_same t n b slots
    (λ i j x y e f same.
    let one = apart (suc i) (suc j) x y e f same in omega (arith, one)) (omega (arith, lt)) at)
  where
    go : (d : Bool) → (c.number == b.number) ≡ d
        → block_by (flat_map option_to_list (take t slots)) b.number ≡ Some b
        → cond d (Some c) (block_by (flat_map option_to_list (take t slots)) b.number) ≡ Some b
    go true q more = absurd
        (let one = apart 0 (suc n) c b refl at (eqb-true c.number b.number q) in
        omega (arith, one))
    go false q more = more

current_there : (m : Mark) → is_current m ≡ true → is_there m ≡ true
current_there Current e = refl
current_there Killed e = cc
current_there Kept e = refl
current_there Out e = cc

-- ---- a world

module _ (g : GeometryNumbers) (start : World) (records : List Record) (events : List Event)
    (is_start : IsStart g start records) where
  abbrev pub w : World
  w = after start events

  abbrev pub s : Shared
  s = w.shared

  abbrev pub image : ImageValue
  image = image_of w

  abbrev pub living : List ℕ
  living = ids s.book.snaps

  pub whole : IsWhole g w (records_after start events records)
  whole = all_whole g start records events is_start

  pub known : IsReached w
  known = reached g start records events is_start

  pub numbers : w.numbers ≡ g
  numbers = whole.numbers.numbers

  pub limits : IsWithinLimits w.numbers
  limits = subst IsWithinLimits (sym numbers) is_start.limits

  pub good : are_journals_good image ≡ true
  good = journals_good g start records events is_start

  pub slots : length image.slots ≡ length s.cells
  slots = length-map s.cells slot_image

  one_cell : (ino : ℕ) → ino < length s.cells → IsCell (cell_at s ino)
  one_cell ino lt = each_cell g is_start.limits w (records_after start events records) whole ino lt

  -- ---- chains

  pub chain_good : (ino : ℕ) → IsPaged w.numbers.page (slot_of image ino).chain
  chain_good ino =
      subst (λ (slot : SlotImageValue). IsPaged w.numbers.page slot.chain) (sym (slot_is w ino))
      (at_cell (λ (c : CellState). IsPaged w.numbers.page (slot_image c).chain) s ino
      (λ lt.
      let chain = (one_cell ino lt).chain in
      let page =
      (on_pages g is_start.limits w (records_after start events records) whole ino lt).size
      ∙ ap (λ (n : GeometryNumbers). n.page) (sym numbers) in
      record {
        parted =
            subst (λ (p : ℕ).
            AreEnds p 0 (cell_at s ino).chain.ends (length (cell_at s ino).chain.entries)) page
            chain.parted;
        paged = chain.paged;
        within = chain.within;
      })
      (record { parted = refl; paged = omega arith; within = omega arith }))

  pub few : (ino : ℕ) → tail_of image ino ≤ length (slot_of image ino).chain.entries
  few ino =
      let low = tail_low image ino good in
      let within = (chain_good ino).within in
      omega (arith, low, within)

  pub rising : (ino : ℕ) → IsLog (slot_of image ino).chain.entries
  rising ino =
      subst (λ (slot : SlotImageValue). IsLog slot.chain.entries) (sym (slot_is w ino))
      (whole.order.logs ino).ordered

  pub sized_pages : (ino : ℕ) → AreSized w.numbers.block (slot_of image ino).chain.pages
  sized_pages ino =
      subst (λ (slot : SlotImageValue). AreSized w.numbers.block slot.chain.pages)
      (sym (slot_is w ino))
      (subst (λ (n : GeometryNumbers). AreSized n.block (cell_at s ino).chain.blocks) (sym numbers)
      (whole.numbers.cells ino).pages)

  pub sized_blocks : (ino : ℕ) → AreSized w.numbers.block (slot_of image ino).blocks
  sized_blocks ino =
      subst (λ (slot : SlotImageValue). AreSized w.numbers.block slot.blocks) (sym (slot_is w ino))
      (sized_data w.numbers.block (cell_at s ino).blocks
      (subst (λ (n : GeometryNumbers). AreSlotsSized n.block (cell_at s ino).blocks) (sym numbers)
      (whole.numbers.cells ino).sized)
      (part_total (log_of (cell_at s ino))))

  -- ---- logs

  pub cut : (ino : ℕ) → cut_log image ino ≡ settled s ino
  cut ino = cut_is w ino good

  pub its_log : (ino : ℕ)
      → log_of (cell_with w.numbers living (tail_of image ino) (slot_of image ino))
      ≡ cut_log image ino
  its_log ino = log_is w.numbers living (tail_of image ino) (slot_of image ino)

  pub low : (ino : ℕ)
      → settled_tail s.book.journals ino (cell_at s ino).chain.tail ≤ (cell_at s ino).chain.tail
  low ino =
      let all = tail_low image ino good in
      let at = ap (λ (slot : SlotImageValue). slot.chain.tail) (slot_is w ino) in
      let tail : tail_of image ino
      ≡ settled_tail s.book.journals ino (cell_at s ino).chain.tail =
      ap (λ (b : Bool).
      cond b (settled_tail s.book.journals ino (slot_of image ino).chain.tail)
      (slot_of image ino).chain.tail) good
      ∙ ap (settled_tail s.book.journals ino) at in
      omega (arith, all, at, tail)

  -- ---- one slot

  module _ (ino : ℕ) (lt : ino < length s.cells) where
    abbrev pub cell : CellState
    cell = cell_at s ino

    abbrev pub cut_at : ℕ
    cut_at = settled_tail s.book.journals ino (cell_at s ino).chain.tail

    abbrev pub new : CellState
    new = cell_with w.numbers living (tail_of image ino) (slot_of image ino)

    pub size : (cell_at s ino).block ≡ w.numbers.block
    size = (whole.parts ino lt).size ∙ ap (λ (n : GeometryNumbers). n.block) (sym numbers)

    out : (n : ℕ) (pair : Pair) → slice_get (pairs cell.block (log_of cell)) n ≡ Some pair
        → mark_at cell.marks n ≡ Out → AllByRecursion (λ x. holds x pair ≡ false) living
    out n pair got gone = (whole.marked.cells ino).out n pair got gone

    -- each page that its cut log needs has its block
    pub there : AreThere w.numbers.block living (slot_of image ino).blocks (cut_log image ino)
    there n number needed page =
        ap (λ (slot : SlotImageValue). option_map number_of (block_by slot.blocks number))
        (slot_is w ino)
        ∙ are_there living cell cut_at (low ino) (one_cell ino lt).chain.rising
        (whole.kept.logs.pages ino) (one_cell ino lt).blocks (one_cell ino lt).marks.len out n
        number
        (ap₂ (λ (b : ℕ) (l : List Entry). is_there (mark_at (marks_anew living b l) n)) size
        (sym (cut ino)) ∙ needed)
        (ap₂ (λ (b : ℕ) (l : List Entry). page_block b l n) size (sym (cut ino)) ∙ page)

    -- and no other has it
    pub once : (n m number : ℕ)
        → is_there (mark_at (marks_anew living w.numbers.block (cut_log image ino)) n) ≡ true
        → is_there (mark_at (marks_anew living w.numbers.block (cut_log image ino)) m) ≡ true
        → page_block w.numbers.block (cut_log image ino) n ≡ Some number
        → page_block w.numbers.block (cut_log image ino) m ≡ Some number → n ≡ m
    once n m number needed also page other =
        are_apart living cell cut_at (low ino) (one_cell ino lt).chain.rising
        (whole.kept.logs.pages ino) (one_cell ino lt).blocks (one_cell ino lt).marks.len out
        (known.apart.cells ino) n m number (mark n ∙ needed) (mark m ∙ also) (says n ∙ page)
        (says m ∙ other)
      where
        mark : (k : ℕ)
            → is_there (mark_at (marks_anew living cell.block (settled s ino)) k)
            ≡ is_there (mark_at (marks_anew living w.numbers.block (cut_log image ino)) k)
        mark k =
            ap₂ (λ (b : ℕ) (l : List Entry). is_there (mark_at (marks_anew living b l) k)) size
            (sym (cut ino))

        says : (k : ℕ) → page_block cell.block (settled s ino) k
            ≡ page_block w.numbers.block (cut_log image ino) k
        says k = ap₂ (λ (b : ℕ) (l : List Entry). page_block b l k) size (sym (cut ino))

    -- ---- the cell that is left

    pub new_apart : AreApart new.blocks
    new_apart = apart_anew w.numbers living (tail_of image ino) (slot_of image ino) once

    pub new_cell : IsCell new
    new_cell =
        cell_is w.numbers limits living (tail_of image ino) (slot_of image ino) (chain_good ino)
        (few ino) (rising ino) there (sized_blocks ino) (sized_pages ino)

    -- the block of a published part is found by its number
    pub found_block : (n : ℕ) (b : BlockValue) → n < part_total (settled s ino)
        → slice_index_or (cell_at s ino).blocks n None ≡ Some b
        → block_by (slot_of image ino).blocks b.number ≡ Some b
    found_block n b under at =
        let within : n < part_total (log_of cell) =
        (let more = total_take cut_at cell.chain.tail cell.chain.entries (low ino) in
        omega (arith, more, under)) in
        ap (λ (slot : SlotImageValue). block_by slot.blocks b.number) (slot_is w ino)
        ∙ found_same (part_total (log_of cell)) n b cell.blocks (known.apart.cells ino) within at

    -- a page of the settled log has the same bytes there
    pub same_bytes : (page number : ℕ)
        → block_now (cell_at s ino).block (settled s ino) page ≡ Some number
        → bytes_among new.blocks number ≡ bytes_among (cell_at s ino).blocks number
    same_bytes page number is =
        let part = found cell.block (settled s ino) page number is in
        let n = part.0 in
        let at = part.1 in
        let says : page_block cell.block cell.chain.entries n ≡ Some number =
        front_says cell.block cell.chain.entries cut_at n at.low ∙ at.says in
        let one = has_block (slice_index_or cell.blocks n None)
        ((whole.kept.logs.pages ino).pages n number at.uncovered says) in
        let b = one.0 in
        let same : block_by (slot_of image ino).blocks number ≡ Some b =
        ap (block_by (slot_of image ino).blocks) (sym one.2) ∙ found_block n b at.low one.1 in
        let log_same : settled s ino ≡ cut_log image ino = sym (cut ino) in
        let inside : n < part_total (cut_log image ino) =
        subst (λ (l : List Entry). n < part_total l) log_same at.low in
        let says_new : page_block w.numbers.block (cut_log image ino) n ≡ Some number =
        sym (ap₂ (λ (k : ℕ) (l : List Entry). page_block k l n) size log_same) ∙ at.says in
        let uncovered : is_covered w.numbers.block (cut_log image ino) n ≡ false =
        sym (ap₂ (λ (k : ℕ) (l : List Entry). is_covered k l n) size log_same) ∙ at.uncovered in
        let marked : is_there (mark_at new.marks n) ≡ true =
        current_there (mark_at new.marks n)
        (current_marks living w.numbers.block (cut_log image ino) n inside
        ∙ ap not uncovered) in
        let stands : slice_index_or new.blocks n None ≡ Some b =
        at_part w.numbers living (tail_of image ino) (slot_of image ino) n inside
        ∙ ap₂ (λ (c : Bool) (o : Option ℕ).
        cond c (option_and_then (block_by (slot_of image ino).blocks) o) None) marked says_new
        ∙ same in
        ap (bytes_among new.blocks) (sym one.2) ∙ among_at new.blocks new_apart n b stands
        ∙ sym (among_at cell.blocks (known.apart.cells ino) n b one.1)
        ∙ ap (bytes_among cell.blocks) one.2
      where
        has_block : (o : Option BlockValue) → option_map number_of o ≡ Some number
            → (b : BlockValue) × (o ≡ Some b) × (b.number ≡ number)
        has_block None e = absurd (none-some number e)
        has_block (Some b) e = (b, refl, same_Some b.number number e)

    -- so its file ends at its size
    pub new_ends : EndsAtSize new
    new_ends =
        sound_ends new (bytes_among new.blocks) new_cell (among_at new.blocks new_apart)
        (subst (IsSound (bytes_among new.blocks) w.numbers.block) (sym (its_log ino ∙ cut ino))
        sound)
      where
        sound : IsSound (bytes_among new.blocks) w.numbers.block (settled s ino)
        sound = same_sound cell new cut_at (sym size) same_bytes (whole.fit.sound ino)
