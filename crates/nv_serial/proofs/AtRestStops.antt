-- Where no call runs, what a stop leaves is what the world with numbers says.
use Rattle.std.proofs.Common.{◌≡◌, ℕ, ◌+◌, ◌<◌, ◌≤◌, ◌∙◌, Bool, true, false, List, [], ◌∷◌, ap, arith, filter, flat_map, get_or, if◌then◌else◌, length, map, nat_lt, refl, sym, take, take_all}
use Rattle.std.specs.List.{AllByRecursion, range_with_len}
use Rattle.std.proofs.Math.Path.{fun_ext}
use Rattle.std.proofs.lemmas.Bool.{le-ltb, lt-ltb}
use Rattle.std.proofs.lemmas.List.{ext_get_or, get_or-map, length-map}
use Rattle.std.proofs.lemmas.List.FromFn.{length-map-range_with_len}
use Rattle.nv_alloc.specs.Block.{BlockValue, number_of}
use Rattle.nv_audit.specs.Image.{ImageValue, SlotImageValue, slot_of}
use Rattle.nv_audit.specs.Mounted.{cell_anew, cell_of, cell_with, cells_of, cut_log, cut_tail, is_over, log_records, records_anew, slot_records, tail_of}
use Rattle.nv_base.specs.declared.geometry.GeometryNumbers.{GeometryNumbers}
use Rattle.nv_book.specs.declared.record.Record.{Record}
use Rattle.nv_cell.specs.Cell.{CellState, empty_cell}
use Rattle.nv_entry.specs.declared.item.Entry.{Entry}
use Rattle.nv_epoch.specs.SnapList.{ids}
use Rattle.nv_epoch.specs.declared.snapshot.Snapshot.{Snapshot}
use Rattle.nv_log.proofs.Parts.{AreSized-parts, from_le_len, length-parts}
use Rattle.nv_log.specs.Chain.{AreEnds, parts_from}
use Rattle.nv_log.specs.Image.{cut_ends}
use Rattle.nv_machine.proofs.EachElement.{all_weaker}
use Rattle.nv_machine.proofs.Journals.{closed_tail}
use Rattle.nv_machine.proofs.WorldsAtRest.{start_again}
use Rattle.nv_machine.specs.Needed.{IsAtRest}
use Rattle.nv_machine.specs.Pages.{AreOnPages}
use Rattle.nv_machine.specs.PlainRun.{Copy, Plain, copy_in, plain_of}
use Rattle.nv_machine.specs.Recorded.{records_after}
use Rattle.nv_machine.specs.Settled.{settled_copies}
use Rattle.nv_machine.specs.Starts.{IsStart}
use Rattle.nv_machine.specs.Step.{after}
use Rattle.nv_machine.specs.World.{Event, Shared, World, cell_at}
use Rattle.nv_restart.proofs.PlainStops.{plain_stops}
use Rattle.nv_restart.proofs.Slots.{cell_there}
use Rattle.nv_restart.proofs.WorldCells as of_world
use Rattle.nv_restart.proofs.WorldImages.{all_may_stop}
use Rattle.nv_restart.proofs.WorldSlots.{slot_is}
use Rattle.nv_restart.specs.Happenings.{unpinned}
use Rattle.nv_restart.specs.Restarted.{image_of, restarted, slot_image}
use Rattle.nv_restart.specs.Stops.{MayStop}
use Rattle.nv_serial.proofs.AtRestLogs.{living_is, log_is, shown_entries, told_at, told_by}
use Rattle.nv_serial.proofs.AtRestNodes.{settled_is}
use Rattle.nv_serial.proofs.AtRestPins.{pins_none}
use Rattle.nv_serial.proofs.AtRestPlain.{serial_is}
use Rattle.nv_serial.specs.Law.{serial_after}
use Rattle.nv_serial.specs.LogPages.{Page, entries_in}
use Rattle.nv_serial.specs.Serial.{NumberedSlot, Serial, living, no_slot}
use Rattle.nv_serial.specs.Shown.{pages_told, slot_told}
use Rattle.nv_serial.specs.Stopped.{records_stopped, serial_stopped, slot_stopped, stays}

-- ---- pages

-- a chain that is cut behind its last entry ends where it did, page by page
ends_stay : (most from len : ℕ) (ends : List ℕ) → AreEnds most from ends len
    → cut_ends len ends ≡ ends
ends_stay most from len [] are = refl
ends_stay most from len (end ∷ []) are =
    let same : end ≡ len = are.2 in
    let some : 0 < len = omega (arith, are.0, same) in
    ap (λ (b : Bool). if b then end ∷ [] else (if nat_lt 0 len then len ∷ [] else []))
    (le-ltb end len (omega (arith, same)))
    ∙ ap (λ (b : Bool). if b then len ∷ [] else []) (lt-ltb 0 len some)
    ∙ ap (λ (n : ℕ). n ∷ []) (sym same)
ends_stay most from len (end ∷ other ∷ ends) are =
    let next : end < other = are.2.0 in
    let low : end < len = omega (arith, next, from_le_len most other ends len are.2.2) in
    ap (λ (b : Bool).
    if b then end ∷ cut_ends len (other ∷ ends) else (if nat_lt 0 len then len ∷ [] else []))
    (lt-ltb end len low)
    ∙ ap (λ (l : List ℕ). end ∷ l) (ends_stay most end len (other ∷ ends) are.2)

none_stay : (blocks : List BlockValue) → filter stays (pages_told blocks []) ≡ []
none_stay [] = refl
none_stay (b ∷ blocks) = none_stay blocks

-- the pages with entries are the first ones
first_stay : (blocks : List BlockValue) (parts : List (List Entry))
    → AllByRecursion (λ (part : List Entry). 0 < length part) parts
    → length parts ≤ length blocks
    → pages_told (take (length parts) blocks) parts ≡ filter stays (pages_told blocks parts)
first_stay [] [] some le = refl
first_stay [] (part ∷ parts) some le = absurd (omega (arith, le))
first_stay (b ∷ blocks) [] some le = sym (none_stay blocks)
first_stay (b ∷ blocks) ([] ∷ parts) some le = absurd (omega (arith, some.0))
first_stay (b ∷ blocks) ((e ∷ part) ∷ parts) some le =
    let p : Page = record { number = number_of b; entries = e ∷ part } in
    ap (λ (pages : List Page). p ∷ pages) (first_stay blocks parts some.1 (omega (arith, le)))

-- ---- one slot

module _ (g : GeometryNumbers) (snapshots : List ℕ) (cell : CellState)
    (on : AreOnPages g.page cell.chain) where
  abbrev es : List Entry
  es = cell.chain.entries

  abbrev ends : List ℕ
  ends = cell.chain.ends

  abbrev blocks : List BlockValue
  blocks = cell.chain.blocks

  -- the cell that a mount makes, where its inode is over and where it is not
  abbrev cell_gone : CellState
  cell_gone = empty_cell g.block g.page (cell.generation + 1) 0

  abbrev cell_new : CellState
  cell_new = cell_with g snapshots (length es) (slot_image cell)

  -- and the slot
  abbrev emptied : NumberedSlot
  emptied = record { generation = cell.generation + 1; pages = [] }

  abbrev with_pages : List Page → NumberedSlot
  with_pages pages = record { generation = cell.generation; pages = pages }

  whole : take (length es) es ≡ es
  whole = take_all (length es) es (omega arith)

  some : AllByRecursion (λ (part : List Entry). 0 < length part) (parts_from 0 ends es)
  some =
      all_weaker (λ (part : List Entry). (0 < length part) × (length part ≤ g.page))
      (λ (part : List Entry). 0 < length part) (λ part both. both.0) (parts_from 0 ends es)
      (AreSized-parts g.page 0 ends (length es) es on.parted (omega arith))

  pages_left : pages_told (take (length (cut_ends (length es) ends)) blocks)
      (parts_from 0 (cut_ends (length es) ends) (take (length es) es))
      ≡ filter stays (pages_told blocks (parts_from 0 ends es))
  pages_left =
      ap (λ (ns : List ℕ).
      pages_told (take (length ns) blocks) (parts_from 0 ns (take (length es) es)))
      (ends_stay g.page 0 (length es) ends on.parted)
      ∙ ap (λ (l : List Entry). pages_told (take (length ends) blocks) (parts_from 0 ends l))
      whole
      ∙ ap (λ (n : ℕ). pages_told (take n blocks) (parts_from 0 ends es))
      (sym (length-parts 0 ends es))
      ∙ first_stay blocks (parts_from 0 ends es) some
      (omega (arith, on.each, length-parts 0 ends es))

  -- THE SLOT of the cell that a mount makes
  slot_left : slot_told (cell_anew g snapshots (length es) (slot_image cell))
      ≡ slot_stopped snapshots g.block (slot_told cell)
  slot_left =
      ap (λ (log : List Entry). slot_told
      (if is_over snapshots g.block log then cell_gone else cell_new))
      (whole ∙ sym (shown_entries g.page cell.chain on))
      ∙ go (is_over snapshots g.block (entries_in (slot_told cell).pages))
    where
      go : (b : Bool) → slot_told (if b then cell_gone else cell_new)
          ≡ (if b then emptied else with_pages (filter stays (slot_told cell).pages))
      go true = refl
      go false = ap with_pages pages_left

-- ---- copies

-- where no snapshot is pinned, taking all pins off changes nothing
pins_stay : (s : Shared) (snapshots : List Snapshot)
    → AllByRecursion (λ (t : Snapshot). t.pins ≡ 0) snapshots
    → map unpinned (map (copy_in s) snapshots) ≡ map (copy_in s) snapshots
pins_stay s [] none = refl
pins_stay s (t ∷ snapshots) none =
    let rest : List Copy = map unpinned (map (copy_in s) snapshots) in
    let with_pins : ℕ → Copy =
    λ pins. record { snapshot = t.number; nodes = settled_copies s t.number; pins = pins } in
    ap (λ (pins : ℕ). with_pins pins ∷ rest) (sym none.0)
    ∙ ap (λ (copies : List Copy). copy_in s t ∷ copies) (pins_stay s snapshots none.1)

-- ---- a world in which nothing runs, with its records

module _ (g : GeometryNumbers) (w : World) (rs : List Record) (is : IsStart g w rs)
    (may : MayStop g.block w.shared) where
  abbrev s : Serial
  s = told_by g w rs

  abbrev image : ImageValue
  image = image_of w

  abbrev snapshots : List ℕ
  snapshots = ids w.shared.book.snaps

  -- ---- slots

  -- no journal is open, so that each log stands to its end
  tail_is : (ino : ℕ) → tail_of image ino ≡ length (cell_at w.shared ino).chain.entries
  tail_is ino =
      ap (λ (b : Bool). cut_tail b image ino) (of_world.good g w rs [] is)
      ∙ closed_tail w.shared.book.journals ino (slot_of image ino).chain.tail is.closed
      ∙ ap (λ (slot : SlotImageValue). slot.chain.tail) (slot_is w ino)
      ∙ is.tails ino

  slot_at : (ino : ℕ) → ino < g.inodes
      → slot_told (cell_of image ino)
      ≡ slot_stopped snapshots g.block (slot_told (cell_at w.shared ino))
  slot_at ino lt =
      let cell : CellState = cell_at w.shared ino in
      let n : ℕ = length cell.chain.entries in
      ap (λ (m : ℕ). slot_told (cell_anew w.numbers snapshots m (slot_of image ino)))
      (tail_is ino)
      ∙ ap (λ (slot : SlotImageValue). slot_told (cell_anew w.numbers snapshots n slot))
      (slot_is w ino)
      ∙ ap (λ (numbers : GeometryNumbers).
      slot_told (cell_anew numbers snapshots n (slot_image cell))) is.numbers
      ∙ slot_left g snapshots cell (is.pages ino lt)

  slots_many : length (map slot_told (cells_of image)) ≡ length w.shared.cells
  slots_many =
      length-map (cells_of image) slot_told
      ∙ length-map-range_with_len (cell_of image) 0 (length image.slots)
      ∙ length-map w.shared.cells slot_image

  slots_are : map slot_told (cells_of image)
      ≡ map (slot_stopped (living s) g.block) s.slots
  slots_are =
      ext_get_or no_slot (map slot_told (cells_of image))
      (map (slot_stopped (living s) g.block) s.slots)
      (slots_many ∙ sym (length-map w.shared.cells slot_told)
      ∙ sym (length-map s.slots (slot_stopped (living s) g.block)))
      at
    where
      at : (i : ℕ) → i < length (map slot_told (cells_of image))
          → get_or (map slot_told (cells_of image)) i no_slot
          ≡ get_or (map (slot_stopped (living s) g.block) s.slots) i no_slot
      at i lt =
          let cell : CellState = cell_at w.shared i in
          let inside : length image.slots ≡ length w.shared.cells =
          length-map w.shared.cells slot_image in
          let many : length s.slots ≡ length w.shared.cells =
          length-map w.shared.cells slot_told in
          told_at (cells_of image) i
          ∙ ap slot_told (cell_there image i (omega (arith, lt, slots_many, inside)))
          ∙ slot_at i (omega (arith, lt, slots_many, is.slots))
          ∙ ap (λ (ns : List ℕ). slot_stopped ns g.block (slot_told cell))
          (sym (living_is g w rs is))
          ∙ ap (slot_stopped (living s) g.block) (sym (told_at w.shared.cells i))
          ∙ sym (get_or-map (slot_stopped (living s) g.block) s.slots i no_slot no_slot
          (omega (arith, lt, slots_many, many)))

  -- ---- records

  records_in : (ino : ℕ) → slot_records image ino ≡ records_stopped s ino
  records_in ino =
      ap (λ (numbers : GeometryNumbers).
      log_records numbers.block snapshots ino (cut_log image ino)) is.numbers
      ∙ ap (λ (ns : List ℕ). log_records g.block ns ino (cut_log image ino))
      (sym (living_is g w rs is))
      ∙ ap (log_records g.block (living s) ino)
      (of_world.cut g w rs [] is ino ∙ settled_is g w rs is ino ∙ sym (log_is g w rs is ino))

  records_are : records_anew image
      ≡ flat_map (records_stopped s) (range_with_len 0 (length s.slots))
  records_are =
      ap (λ (f : ℕ → List Record). flat_map f (range_with_len 0 (length image.slots)))
      (fun_ext records_in)
      ∙ ap (λ (n : ℕ). flat_map (records_stopped s) (range_with_len 0 n))
      (length-map w.shared.cells slot_image ∙ sym (length-map w.shared.cells slot_told))

  -- ---- the plain world

  plain_is : plain_of (restarted w) ≡ plain_of w
  plain_is =
      plain_stops g w rs [] is may
      ∙ ap (λ (copies : List Copy).
      let p : Plain = record (plain_of w) { copies = copies } in p)
      (pins_stay w.shared w.shared.book.snaps.living (pins_none g w rs is))

  pub rest_stopped : told_by g (restarted w) (records_anew image) ≡ serial_stopped s
  rest_stopped = λ i. record {
    numbers = g;
    plain = plain_is i;
    slots = slots_are i;
    records = records_are i;
  }

-- ---- behind events

module _ (g : GeometryNumbers) (start : World) (records : List Record) (events : List Event)
    (is_start : IsStart g start records) (may : MayStop g.block start.shared) where
  abbrev v : World
  v = after start events

  -- A STOP leaves the world with numbers as it says
  pub stops_serial : IsAtRest v
      → serial_after g (restarted v) (records_anew (image_of v)) []
      ≡ serial_stopped (serial_after g start records events)
  stops_serial rest =
      rest_stopped g v (records_after start events records)
      (start_again g start records events is_start rest)
      (all_may_stop g start records events is_start may)
      ∙ ap serial_stopped (sym (serial_is g start records events is_start))
