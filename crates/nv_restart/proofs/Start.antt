-- AN IMAGE WITHOUT A FAULT mounts to a world where a run may start, with the records anew.
use Rattle.std.proofs.Common.{◌≡◌, ℕ, zero, suc, ◌+◌, ◌<◌, ◌≤◌, ◌==◌, ◌&&◌, ◌||◌, ◌∙◌, inl, inr, Bool, true, false, cond, filter, not, List, [], ◌∷◌, Some, None, ap, ap₂, arith, length, map, refl, replicate, subst, sym, take}
use Rattle.std.specs.Prelude.{All, if◌then◌else◌, slice_get}
use Rattle.std.specs.List.{AllByRecursion, flat_map, range_with_len}
use Rattle.std.proofs.lemmas.Bool.{cases_lt, false≢true}
use Rattle.std.proofs.lemmas.List.{length-replicate}
use Rattle.std.proofs.lemmas.List.FromFn.{length-map-range_with_len}
use Rattle.std.proofs.lemmas.Option.{none-some}
use Rattle.nv_alloc.specs.Block.{BlockValue}
use Rattle.nv_alloc.specs.Numbers.{has, unused}
use Rattle.nv_audit.specs.Faults.{IsFaultless}
use Rattle.nv_audit.specs.Image.{ImageValue, slot_of}
use Rattle.nv_audit.specs.Mounted.{book_anew, cell_of, cell_with, cells_of, cut_log, free_block, list_anew, records_anew, slot_records, tail_of, used_anew}
use Rattle.nv_audit.specs.Nodes.{AreTrees}
use Rattle.nv_audit.specs.Pool.{is_used}
use Rattle.nv_audit.specs.Sound.{EndsAtSize}
use Rattle.nv_base.specs.Limits.{IsWithinLimits}
use Rattle.nv_base.specs.declared.fault.ImageFault.TheVariants as fault
use Rattle.nv_base.specs.declared.geometry.GeometryNumbers.{GeometryNumbers}
use Rattle.nv_base.specs.declared.limits.TheConstants.{NUMBER}
use Rattle.nv_book.specs.Listed.{IsRecordList}
use Rattle.nv_book.specs.declared.record.Record.{Record}
use Rattle.nv_calls.specs.Slots.{IsBefore}
use Rattle.nv_cell.specs.Cell.{CellState, IsCell, log_of}
use Rattle.nv_cell.specs.Marks.{bit, is_killed, mark_at}
use Rattle.nv_cell.specs.Readers.{has_entry, has_inode, is_erased, is_withheld}
use Rattle.nv_cell.specs.Shape.{IsLeftShaped}
use Rattle.nv_cell.specs.declared.mark.Mark.TheVariants.{Out}
use Rattle.nv_entry.specs.Held.{is_held}
use Rattle.nv_entry.specs.Log.{pairs}
use Rattle.nv_entry.specs.Shape.{IsShaped}
use Rattle.nv_entry.specs.declared.item.Entry.{Entry}
use Rattle.nv_epoch.specs.Holders.{IsRising}
use Rattle.nv_log.specs.Chain.{AreEnds}
use Rattle.nv_machine.specs.Held.{is_of_slot}
use Rattle.nv_epoch.specs.SnapList.{numbers, pins_at, unpinned}
use Rattle.nv_machine.specs.Pages.{AreOnPages}
use Rattle.nv_machine.specs.PoolScan.{is_number_used as is_used_in, number_held, numbers_held}
use Rattle.nv_machine.specs.Reading.{ArePins}
use Rattle.nv_machine.specs.Recorded.{is_marked_kept, is_record_of, recorded_in}
use Rattle.nv_machine.specs.Starts.{IsStart}
use Rattle.nv_machine.specs.World.{World, cell_at, idle, no_cell}
use Rattle.nv_machine.proofs.EachElement.{all_append, all_weaker}
use Rattle.nv_machine.proofs.FiledLists.{count}
use Rattle.nv_machine.proofs.LocksOverEvents.{all_same}
use Rattle.nv_machine.proofs.NewWorld.{none_closed}
use Rattle.nv_restart.proofs.Cells.{all_front, chain_is, tail_is}
use Rattle.nv_restart.proofs.JudgedLogs.{all_shaped, all_sound}
use Rattle.nv_restart.proofs.JudgedNodes.{tree_at, tree_now}
use Rattle.nv_restart.proofs.Marks.{none_killed, out_unheld}
use Rattle.nv_restart.proofs.Records.{anew_filed, once, paired}
use Rattle.nv_restart.proofs.Slots.{by_cell, cell_there, left_keeps, same_ids}
use Rattle.nv_restart.specs.Mounted.{mounted}
use Rattle.nv_restart.proofs.Deaths.{dead_pairs, dead_records, each_earlier}
use Rattle.nv_restart.proofs.Faultless.{fits, paged, ordered, few, rising_log, cut_rises, whole, sized_in, one_cell, at_slot, in_slots, blocks_once, list_is}

-- ---- numbers and pins

no_numbers : (k : ℕ) → flat_map number_held (replicate k idle) ≡ []
no_numbers zero = refl
no_numbers (suc k) = no_numbers k

no_pins : (snapshots : List ℕ) (n : ℕ) → ArePins 0 (pins_at (map unpinned snapshots) n)
no_pins [] n = refl
no_pins (s ∷ snapshots) n = go (s == n) (no_pins snapshots n) where
  go : (b : Bool) → ArePins 0 (pins_at (map unpinned snapshots) n)
      → ArePins 0 (if b then Some 0 else pins_at (map unpinned snapshots) n)
  go true more = refl
  go false more = more

unused_same : (one other : ℕ → Bool) → ((n : ℕ) → one n ≡ other n) → (low len : ℕ)
    → unused one low len ≡ unused other low len
unused_same one other same low zero = refl
unused_same one other same low (suc len) =
    ap₂ (λ (used : Bool) (ns : List ℕ). cond (not used) (low ∷ ns) ns) (same low)
    (unused_same one other same (low + 1) len)

or_none : (a b : Bool) → (a || b) ≡ (a || b || false)
or_none true b = refl
or_none false true = refl
or_none false false = refl

-- ---- the start

module _ (image : ImageValue) (limits : IsWithinLimits image.numbers)
    (faultless : IsFaultless image) where
  abbrev g : GeometryNumbers
  g = image.numbers

  abbrev w : World
  w = mounted image

  abbrev its_cell : ℕ → CellState
  its_cell ino = cell_with g image.snapshots (tail_of image ino) (slot_of image ino)

  -- ---- logs

  cut_before : (ino : ℕ) → IsBefore (image.commit + 1) image.epoch (cut_log image ino)
  cut_before ino = record {
    ordered = cut_rises image limits faultless ino;
    earlier = all_front (λ (e : Entry). (e.id.commit < image.commit + 1) × (e.epoch ≤ image.epoch))
        (tail_of image ino)
        (slot_of image ino).chain.entries
        (each_earlier image.commit image.epoch (slot_of image ino).chain.entries
        (ordered image limits faultless ino).no_later);
  }

  none_before : IsBefore (image.commit + 1) image.epoch []
  none_before = record { ordered = tt; earlier = tt }

  dead_slot : (ino : ℕ)
      → AllByRecursion (λ (d : Record). d.death ≤ image.epoch) (slot_records image ino)
  dead_slot ino =
      dead_records image.snapshots ino image.epoch (pairs g.block (cut_log image ino))
      (dead_pairs image.epoch g.block (cut_log image ino)
      (all_weaker (λ (e : Entry). (e.id.commit < image.commit + 1) × (e.epoch ≤ image.epoch))
      (λ (e : Entry). e.epoch ≤ image.epoch)
      (λ e h. h.1) (cut_log image ino) (cut_before ino).earlier))

  all_dead : (inos : List ℕ)
      → AllByRecursion (λ (d : Record). d.death ≤ image.epoch) (flat_map (slot_records image) inos)
  all_dead [] = tt
  all_dead (ino ∷ inos) =
      all_append (λ (d : Record). d.death ≤ image.epoch) (slot_records image ino)
      (flat_map (slot_records image) inos)
      (dead_slot ino) (all_dead inos)

  -- ---- generations

  -- a log with an entry has a page
  has_page : (ino : ℕ) → 0 < length (slot_of image ino).chain.entries
      → 0 < length (slot_of image ino).chain.pages
  has_page ino some =
      let good = paged image limits faultless ino in
      let ends = ends_some g.page (slot_of image ino).chain.ends
      (length (slot_of image ino).chain.entries) good.parted some in
      let many = good.paged in
      omega (arith, ends, many)
    where
      ends_some : (page : ℕ) (ends : List ℕ) (len : ℕ) → AreEnds page 0 ends len → 0 < len
          → 0 < length ends
      ends_some page [] len are some = absurd (omega (arith, are, some))
      ends_some page (e ∷ ends) len are some = omega arith

  -- so the slot of a log with an entry is not of the last generation
  pub cut_early : (ino : ℕ) → ino < length image.slots → has_entry (cut_log image ino) ≡ true
      → (slot_of image ino).generation < NUMBER
  cut_early ino lt there =
      let fit = sized_in image limits faultless ino lt in
      let most = fit.most in
      elim (cases_lt (slot_of image ino).generation NUMBER) [
        | inl low ↦ low
        | inr past ↦ absurd (
            let none = ap (λ (l : List BlockValue). length l)
            (fit.last (omega (arith, past, most))) in
            let page = has_page ino some_entry in
            omega (arith, none, page))
      ]
    where
      len_take : (t : ℕ) (es : List Entry) → 0 < length (take t es) → 0 < length es
      len_take zero es some = absurd (omega (arith, some))
      len_take (suc t) [] some = absurd (omega (arith, some))
      len_take (suc t) (e ∷ es) some = omega arith

      has_len : (es : List Entry) → has_entry es ≡ true → 0 < length es
      has_len [] e = absurd (false≢true e)
      has_len (x ∷ es) e = omega arith

      some_entry : 0 < length (slot_of image ino).chain.entries
      some_entry =
          len_take (tail_of image ino) (slot_of image ino).chain.entries
          (has_len (cut_log image ino) there)

  early : (ino : ℕ) → ino < length image.slots → has_inode (cell_of image ino) ≡ true
      → (cell_of image ino).generation < NUMBER
  early ino lt =
      by_cell (λ (c : CellState). has_inode c ≡ true → c.generation < NUMBER) g image.snapshots
      (tail_of image ino) (slot_of image ino)
      (λ over there. absurd (false≢true there))
      (λ left there.
      cut_early ino lt (sym (ap has_entry (whole image limits faultless ino)) ∙ there))

  -- ---- the whole

  shaped : (ino : ℕ) → ino < length image.slots → IsLeftShaped g.block (log_of (cell_of image ino))
  shaped ino lt =
      let is : IsShaped g.block (log_of (cell_of image ino)) =
      ((faultless fault.Item).logs ino lt).shaped in
      record { some = (None, is.lawful); lawful = λ runs. is.lawful; last = is.last }

  block_is : (ino : ℕ) → (cell_of image ino).block ≡ g.block
  block_is ino =
      by_cell (λ (c : CellState). c.block ≡ g.block) g image.snapshots (tail_of image ino)
      (slot_of image ino) (λ over. refl) (λ left. refl)

  inside : (ino : ℕ) → ino < length w.shared.cells → ino < length image.slots
  inside ino lt =
      omega (arith, lt, length-map-range_with_len (cell_of image) 0 (length image.slots))

  in_cell : (P : CellState → Type 0) (ino : ℕ) → ino < length w.shared.cells → P (cell_of image ino)
      → P (cell_at w.shared ino)
  in_cell P ino lt is = subst P (sym (cell_there image ino (inside ino lt))) is

  trees : AreTrees (numbers (map unpinned image.snapshots)) w.shared.cells
  trees = subst (λ (living : List ℕ). AreTrees living (cells_of image))
      (sym (same_ids image.snapshots)) (faultless fault.Item).trees

  pub starts : IsStart g w (records_anew image)
  starts = record {
    limits = limits;
    numbers = refl;
    actors = length-replicate g.actors idle;
    slots = length-map-range_with_len (cell_of image) 0 (length image.slots)
        ∙ (fits image limits faultless).slots;
    owners = length-replicate g.inodes None;
    inodes = refl;
    journals = length-replicate g.cpus [];
    most = refl;
    idle_all = λ actor. all_same g.actors actor idle;
    unlocked = λ ino. all_same g.inodes ino None;
    uncommitted = refl;
    closed = none_closed g.cpus;
    unpinned = no_pins image.snapshots;
    once = blocks_once image limits faultless;
    lists = record {
      cpus = length-map-range_with_len (list_anew g (has (used_anew image)) (free_block image)) 0
          g.cpus;
      each = list_is image limits faultless;
    };
    pool = unused_same (is_used (cells_of image)) (is_used_in w) (λ n.
        let c = cell_at w.shared n in
        let free : false ≡ has (numbers_held w) n =
        ap (λ (ns : List ℕ). has ns n) (sym (no_numbers g.actors)) in
        or_none (has_inode c) (is_withheld c)
        ∙ ap (λ (held : Bool). has_inode c || is_withheld c || held) free) 0 g.inodes;
    cells = λ ino lt.
        subst IsCell (sym (cell_there image ino (in_slots image limits faultless ino lt)))
        (one_cell image limits faultless ino (in_slots image limits faultless ino lt));
    sizes = λ ino lt.
        ap (λ (c : CellState). c.block)
        (cell_there image ino (in_slots image limits faultless ino lt))
        ∙ block_is ino;
    pages = λ ino lt. subst (λ (c : CellState). AreOnPages g.page c.chain)
        (sym (cell_there image ino (in_slots image limits faultless ino lt)))
        (by_cell (λ (c : CellState). AreOnPages g.page c.chain) g image.snapshots
        (tail_of image ino) (slot_of image ino)
        (λ over. record { size = refl; each = omega arith; parted = refl })
        (λ left.
        let is = chain_is g limits image.snapshots (tail_of image ino) (slot_of image ino)
        (paged image limits faultless ino) (few image limits faultless ino)
        (rising_log image limits faultless ino) in
        record { size = refl; each = is.paged; parted = is.parted }));
    tails = λ ino. at_slot image limits faultless (λ n (c : CellState). c.chain.tail
        ≡ length c.chain.entries) ino refl
        (λ lt.
        by_cell (λ (c : CellState). c.chain.tail ≡ length c.chain.entries) g image.snapshots
        (tail_of image ino) (slot_of image ino) (λ over. refl)
        (λ left. tail_is g limits image.snapshots (tail_of image ino) (slot_of image ino)
        (paged image limits faultless ino) (few image limits faultless ino)
        (rising_log image limits faultless ino)));
    order = λ ino.
        at_slot image limits faultless
        (λ n (c : CellState). IsBefore (image.commit + 1) image.epoch c.chain.entries) ino
        none_before (λ lt.
        by_cell (λ (c : CellState). IsBefore (image.commit + 1) image.epoch c.chain.entries) g
        image.snapshots (tail_of image ino) (slot_of image ino)
        (λ over. none_before) (λ left. cut_before ino));
    versions = record {
      cells = λ ino. at_slot image limits faultless (λ n (c : CellState). c.version ≤ image.commit)
          ino (omega arith)
          (λ lt.
          by_cell (λ (c : CellState). c.version ≤ image.commit) g image.snapshots
          (tail_of image ino) (slot_of image ino)
          (λ over. omega arith) (λ left. omega arith));
      limit = (fits image limits faultless).commit;
    };
    early = λ ino. at_slot image limits faultless (λ n (c : CellState). has_inode c ≡ true
        → c.generation < NUMBER) ino
        (λ there. absurd (false≢true there))
        (early ino);
    erased = λ ino. at_slot image limits faultless (λ n (c : CellState). is_erased c ≡ false) ino
        refl (λ lt.
        by_cell (λ (c : CellState). is_erased c ≡ false) g image.snapshots (tail_of image ino)
        (slot_of image ino) (λ over. refl)
        (λ left. left_keeps g image.snapshots (tail_of image ino) (slot_of image ino) left));
    rising = subst IsRising (sym (same_ids image.snapshots)) (faultless fault.Snaps).rising;
    before = subst (All (λ s. s < image.epoch)) (sym (same_ids image.snapshots))
        (faultless fault.Snaps).below;
    list = subst
        (λ (living : List ℕ). IsRecordList living (book_anew image).manifests
        (book_anew image).deferred (records_anew image))
        (sym (same_ids image.snapshots)) (anew_filed image);
    dead = all_dead (range_with_len 0 (length image.slots));
    paired = paired image (faultless fault.Snaps).rising (cut_rises image limits faultless);
    recorded = λ ino n.
        at_slot image limits faultless
        (λ m (c : CellState). count (is_record_of c m n) (recorded_in w)
        ≡ bit (is_marked_kept (mark_at c.marks n))) ino
        (none_counted ino n (recorded_in w))
        (λ lt. once image (faultless fault.Snaps).rising (cut_rises image limits faultless) ino n
        lt);
    alive = λ ino n.
        at_slot image limits faultless (λ m (c : CellState). is_killed (mark_at c.marks n) ≡ false)
        ino refl
        (λ lt.
        by_cell (λ (c : CellState). is_killed (mark_at c.marks n) ≡ false) g image.snapshots
        (tail_of image ino) (slot_of image ino) (λ over. refl)
        (λ left. none_killed image.snapshots g.block (cut_log image ino) n));
    out = λ ino n pair.
        subst (λ (living : List ℕ).
        slice_get (pairs (cell_at w.shared ino).block (log_of (cell_at w.shared ino))) n
        ≡ Some pair
        → mark_at (cell_at w.shared ino).marks n ≡ Out → is_held living pair ≡ false)
        (sym (same_ids image.snapshots))
        (at_slot image limits faultless (λ m (c : CellState). slice_get (pairs c.block (log_of c)) n
        ≡ Some pair
        → mark_at c.marks n ≡ Out
        → is_held image.snapshots pair ≡ false) ino (λ got gone. absurd (none-some pair got)) (λ lt.
        by_cell (λ (c : CellState). slice_get (pairs c.block (log_of c)) n ≡ Some pair
        → mark_at c.marks n ≡ Out → is_held image.snapshots pair ≡ false)
        g image.snapshots (tail_of image ino) (slot_of image ino)
        (λ over got gone. absurd (none-some pair got))
        (λ left got gone. out_unheld image.snapshots g.block (cut_log image ino) n pair
        (sym (ap (λ (l : List Entry). slice_get (pairs g.block l) n)
        (whole image limits faultless ino)) ∙ got) gone)));
    shaped = all_shaped g.block w.shared (none_closed g.cpus)
        (λ ino lt. in_cell (λ (c : CellState). IsLeftShaped g.block (log_of c)) ino lt
        (shaped ino (inside ino lt)));
    sound = all_sound g.blocks w (none_closed g.cpus) (blocks_once image limits faultless)
        (λ ino lt. in_cell IsCell ino lt (one_cell image limits faultless ino (inside ino lt)))
        (λ ino lt. in_cell (λ (c : CellState). IsLeftShaped c.block (log_of c)) ino lt
        (subst (λ (block : ℕ). IsLeftShaped block (log_of (cell_of image ino))) (sym (block_is ino))
        (shaped ino (inside ino lt))))
        (λ ino lt. in_cell EndsAtSize ino lt (faultless fault.Run ino (inside ino lt)).ends);
    tree = tree_now w.shared (none_closed g.cpus) trees;
    copies = λ snapshot. tree_at w.shared (none_closed g.cpus) trees snapshot;
  } where
    none_counted : (ino n : ℕ) (rs : List Record) → count (is_record_of no_cell ino n) rs ≡ 0
    none_counted ino n [] = refl
    none_counted ino n (d ∷ rs) = go (is_of_slot ino d) (none_counted ino n rs) where
      go : (b : Bool) → count (is_record_of no_cell ino n) rs ≡ 0
          → length (cond (b && false) (d ∷ filter (is_record_of no_cell ino n) rs)
          (filter (is_record_of no_cell ino n) rs)) ≡ 0
      go true more = more
      go false more = more
