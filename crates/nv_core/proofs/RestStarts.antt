-- Parts at rest make a world where a run may start.
use Rattle.std.proofs.Common.{◌≡◌, ℕ, zero, suc, ◌+◌, ◌<◌, ◌≤◌, ◌==◌, ◌&&◌, ◌++◌, ◌∙◌, inl, inr, Bool, true, false, not, cond, List, [], ◌∷◌, Option, Some, None, ap, arith, filter, flat_map, if◌then◌else◌, length, refl, replicate, slice_get, slice_index_or, subst, sym}
use Rattle.std.specs.List.{AllByRecursion}
use Rattle.std.proofs.lemmas.Bool.{and_parts, cases_lt}
use Rattle.std.proofs.lemmas.List.{append-nil, get_or_past, length-map, length-replicate, take_all}
use Rattle.std.proofs.lemmas.List.Elements.{recursion_from_All}
use Rattle.std.proofs.lemmas.List.Sums.{length-filter}
use Rattle.nv_base.specs.declared.geometry.GeometryNumbers.{GeometryNumbers}
use Rattle.nv_audit.specs.KeptParts as audit
use Rattle.nv_audit.specs.KeptParts.{IsRecordOf, records_in}
use Rattle.nv_audit.specs.LogShape.{IsHeldLawful, IsNoLater}
use Rattle.nv_audit.specs.PartLists.{is_same, times}
use Rattle.nv_audit.specs.Records.{IsRecorded, inode_part, is_owed, owed_from, part_in, recorded_as, states_of}
use Rattle.nv_audit.specs.Resting.{AreAtRest, IsOfPast}
use Rattle.nv_audit.specs.declared.part_list.InodePart.{InodePart}
use Rattle.nv_audit.proofs.PartNames.{same_is}
use Rattle.nv_book.specs.Book.{BookState}
use Rattle.nv_book.specs.Listed.{all_records}
use Rattle.nv_book.specs.Records.{is_held_by}
use Rattle.nv_book.specs.declared.manifest.Manifest.{Manifest}
use Rattle.nv_book.specs.declared.record.Record.{Record}
use Rattle.nv_book.proofs.Listing.{listed}
use Rattle.nv_calls.specs.Retiring.{name_of}
use Rattle.nv_calls.specs.Slots.{IsBefore}
use Rattle.nv_cell.specs.Cell.{CellState, CellValue, IsCell, log_of}
use Rattle.nv_cell.specs.Marks as mark
use Rattle.nv_cell.specs.Marks.{bit, mark_at}
use Rattle.nv_cell.specs.Named.{number_named}
use Rattle.nv_cell.specs.Numbers.{is_number}
use Rattle.nv_cell.specs.Shape.{IsLeftShaped}
use Rattle.nv_cell.specs.declared.mark.Mark.{Mark}
use Rattle.nv_cell.specs.declared.mark.Mark.TheVariants.{Current, Kept, Killed, Out}
use Rattle.nv_cell.proofs.NamedPairs.{current_is, its_number, own_name}
use Rattle.nv_cell.proofs.ValuesNow.{IsLog-take}
use Rattle.nv_entry.specs.Held.{has_name, holds, is_current, is_held, is_named, pair_name}
use Rattle.nv_entry.specs.Log.{IsLog, pairs}
use Rattle.nv_entry.specs.declared.held.Pair.{Pair}
use Rattle.nv_entry.specs.declared.item.Entry.{Entry}
use Rattle.nv_epoch.specs.SnapList.{ids, pins_at}
use Rattle.nv_epoch.specs.declared.snapshot.Snapshot.{Snapshot}
use Rattle.nv_journal.specs.declared.old_tail.OldTail.{OldTail}
use Rattle.nv_machine.specs.Held.{is_of_slot, picked_by_actor}
use Rattle.nv_machine.specs.Order.{AreLogsOrdered}
use Rattle.nv_machine.specs.Reading.{ArePins}
use Rattle.nv_machine.specs.Recorded.{AreRecordedOnce, IsOfPair, is_marked_kept, is_record_of, recorded_in}
use Rattle.nv_machine.specs.Starts.{IsStart}
use Rattle.nv_machine.specs.World.{Shared, World, cell_at, idle, no_cell}
use Rattle.nv_machine.proofs.EachElement.{all_append, all_weaker}
use Rattle.nv_machine.proofs.FiledLists.{count, count_append, count_cons, one}
use Rattle.nv_machine.proofs.FiledMarks.{pair_low}
use Rattle.nv_machine.proofs.Lists.{self}
use Rattle.nv_machine.proofs.MarksInUse.{any_none}
use Rattle.nv_core.specs.AtRest.{at_rest}
use Rattle.nv_parts.specs.declared.parts.Parts.{Parts}
use Rattle.nv_core.proofs.AuditCounts.{count_below, count_filter, count_none, no_pass}
use Rattle.nv_core.proofs.AuditRecords.{both, by_records, in_pairs, owed_at, recorded}
use Rattle.nv_restart.specs.Stops.{AreHeldLawful, MayStop}
use Rattle.nv_restart.proofs.JudgedLogs.{all_shaped, all_sound, settled_is}
use Rattle.nv_restart.proofs.JudgedNodes.{tree_at, tree_now}
use Rattle.nv_parts.proofs.RestingParts.{rest_early, rest_erased, rest_lists, rest_once, rest_pages, rest_pool, rest_sizes}

-- ---- lists

pub all_alike : {X : Type 0} (x : X) (n k : ℕ) → slice_index_or (replicate n x) k x ≡ x
all_alike x zero k = refl
all_alike x (suc n) zero = refl
all_alike x (suc n) (suc k) = all_alike x n k

of_filtered : {X : Type 0} (P : X → Type 0) (p : X → Bool) (xs : List X) → AllByRecursion P (filter p xs) → (k : ℕ) (d : X)
    → k < length xs → p (slice_index_or xs k d) ≡ true → P (slice_index_or xs k d)
of_filtered P p [] all k d lt t = absurd (omega (arith, lt))
of_filtered P p (x ∷ xs) all zero d lt t = (subst (λ (b : Bool). AllByRecursion P (cond b (x ∷ filter p xs) (filter p xs))) t all).0
of_filtered P p (x ∷ xs) all (suc k) d lt t = of_filtered P p xs (rest (p x) all) k d (omega (arith, lt)) t where
  rest : (b : Bool) → AllByRecursion P (cond b (x ∷ filter p xs) (filter p xs)) → AllByRecursion P (filter p xs)
  rest true h = h.1
  rest false h = h

count_there : {X : Type 0} (f : X → Bool) (xs : List X) (n : ℕ) (x : X) → slice_get xs n ≡ Some x → f x ≡ true → 1 ≤ count f xs
count_there f [] n x got t = cc
count_there f (y ∷ ys) zero x got t =
    let same : y ≡ x = cc in
    omega (arith, count_cons f y ys, ap one (ap f same ∙ t))
count_there f (y ∷ ys) (suc n) x got t = omega (arith, count_cons f y ys, count_there f ys n x got t)

no_some : {X : Type 0} (x : X) → None ≡ Some x → ⊥
no_some x e = cc

-- ---- the book

no_pins : (living : List Snapshot) (n : ℕ) → AllByRecursion (λ (t : Snapshot). t.pins ≡ 0) living → ArePins 0 (pins_at living n)
no_pins [] n all = refl
no_pins (t ∷ ts) n all = go (t.number == n) (no_pins ts n all.1) where
  go : (b : Bool) → ArePins 0 (pins_at ts n) → ArePins 0 (if b then Some t.pins else pins_at ts n)
  go true more = all.0
  go false more = more

all_filed : (P : Record → Type 0) (ms : List Manifest)
    → AllByRecursion (λ (m : Manifest). AllByRecursion P m.records) ms → AllByRecursion P (all_records ms)
all_filed P [] all = tt
all_filed P (m ∷ ms) all = all_append P m.records (all_records ms) all.0 (all_filed P ms all.1)

pub no_picks : (k : ℕ) → flat_map picked_by_actor (replicate k idle) ≡ []
no_picks zero = refl
no_picks (suc k) = no_picks k

pub kept_same : (m : Mark) → audit.is_marked_as_kept m ≡ is_marked_kept m
kept_same Current = refl
kept_same Killed = refl
kept_same Kept = refl
kept_same Out = refl

-- ---- a start

module _ (parts : Parts)
    (are : AreAtRest parts.geometry.numbers (states_of parts.cells) parts.lists parts.pool parts.book.state) where
  abbrev g : GeometryNumbers
  g = parts.geometry.numbers

  abbrev w : World
  w = at_rest parts

  abbrev s : Shared
  s = w.shared

  abbrev book : BookState
  book = parts.book.state

  abbrev records : List Record
  records = records_in book

  slot_there : (ino : ℕ) → ino < g.inodes → ino < length s.cells
  slot_there ino lt = omega (arith, lt, are.device.slots.count)

  at_slot : (P : CellState → Type 0) (ino : ℕ) → P no_cell → (ino < length s.cells → P (cell_at s ino)) → P (cell_at s ino)
  at_slot P ino none there = elim (cases_lt ino (length s.cells)) [
    | inl lt ↦ there lt
    | inr past ↦ subst P (sym (get_or_past s.cells ino no_cell past)) none
  ]

  one_cell : (ino : ℕ) → ino < length s.cells → IsCell (cell_at s ino)
  one_cell ino lt = (are.inodes ino no_cell lt).index.whole

  log_lawful : (ino : ℕ) → ino < length s.cells → IsLog (log_of (cell_at s ino))
  log_lawful ino lt = IsLog-take (cell_at s ino).chain.tail (cell_at s ino).chain.entries (one_cell ino lt).chain.rising

  of_past : (ino : ℕ) → ino < length s.cells → IsOfPast book (cell_at s ino)
  of_past ino lt = are.records.past ino no_cell lt

  tails : (ino : ℕ) → (cell_at s ino).chain.tail ≡ length (cell_at s ino).chain.entries
  tails ino = at_slot (λ (c : CellState). c.chain.tail ≡ length c.chain.entries) ino refl (λ lt. (are.inodes ino no_cell lt).index.tail)

  closed : AllByRecursion (λ (noted : List OldTail). noted ≡ []) book.journals
  closed = recursion_from_All (λ (noted : List OldTail). noted ≡ []) book.journals are.records.rest.closed

  ordered : AreLogsOrdered s
  ordered ino =
      at_slot (λ (c : CellState). IsBefore (book.commit + 1) book.snaps.epoch c.chain.entries) ino
      (record { ordered = tt; earlier = tt }) there where
        there : ino < length s.cells → IsBefore (book.commit + 1) book.snaps.epoch (cell_at s ino).chain.entries
        there lt =
            let entries = (cell_at s ino).chain.entries in
            let no_later = IsNoLater book.commit book.snaps.epoch in
            let all : log_of (cell_at s ino) ≡ entries =
            take_all (cell_at s ino).chain.tail entries (omega (arith, tails ino)) in
            record {
              ordered = (one_cell ino lt).chain.rising;
              earlier = all_weaker no_later (λ (e : Entry). (e.id.commit < book.commit + 1) × (e.epoch ≤ book.snaps.epoch))
                  (λ e h. (omega (arith, h.0), h.1)) entries
                  (subst (AllByRecursion no_later) all
                  (recursion_from_All no_later (log_of (cell_at s ino)) (of_past ino lt).past.entries));
            }

  -- ---- records

  listed_as : recorded_in w ≡ records
  listed_as =
      ap (λ (rs : List Record). all_records book.manifests ++ (book.deferred ++ rs)) (no_picks g.actors)
      ∙ ap (λ (rs : List Record). all_records book.manifests ++ rs) (append-nil book.deferred)

  paired : AllByRecursion (IsOfPair w) records
  paired = recursion_from_All (IsOfPair w) records each where
    of_pair : (d : Record) → IsRecordOf (ids book.snaps) (cell_at s d.ino) d → IsOfPair w d
    of_pair d r = record {
      n = r.n;
      pair = r.pair;
      is = r.is;
      name = r.name;
      birth = r.tells.birth;
      died = r.tells.died;
      holders = recursion_from_All (λ t. is_held_by t d ≡ holds t r.pair) (ids book.snaps) r.tells.holders;
    }

    each : (k : ℕ) (default : Record) → k < length records → IsOfPair w (slice_index_or records k default)
    each k default lt =
        let d = slice_index_or records k default in
        let slot = audit.is_of_slot d.ino in
        let of = IsRecordOf (ids book.snaps) (cell_at s d.ino) in
        of_pair d (of_filtered of slot records
        (recursion_from_All of (filter slot records) (are.records.kept.each d.ino (are.records.kept.slots k default lt)).each)
        k default lt (self d.ino))

  once : AreRecordedOnce w
  once ino n =
      at_slot (λ (c : CellState). count (is_record_of c ino n) (recorded_in w) ≡ bit (is_marked_kept (mark_at c.marks n))) ino
      none there where
        never : (d : Record) → (is_of_slot ino d && false) ≡ false
        never d = go (is_of_slot ino d) where
          go : (b : Bool) → (b && false) ≡ false
          go true = refl
          go false = refl

        none : count (is_record_of no_cell ino n) (recorded_in w) ≡ 0
        none = count_none (is_record_of no_cell ino n) (recorded_in w)
            (recursion_from_All (λ d. is_record_of no_cell ino n d ≡ false) (recorded_in w)
            (λ k d lt. never (slice_index_or (recorded_in w) k d)))

        there : ino < length s.cells
            → count (is_record_of (cell_at s ino) ino n) (recorded_in w) ≡ bit (is_marked_kept (mark_at (cell_at s ino).marks n))
        there lt =
            ap (count (is_record_of (cell_at s ino) ino n)) listed_as
            ∙ sym (count_filter (audit.is_record_at (log_of (cell_at s ino)) n) (audit.is_of_slot ino) records)
            ∙ (are.records.kept.each ino lt).once n ∙ ap bit (kept_same (mark_at (cell_at s ino).marks n))

  -- ---- what is out

  module _ (ino n : ℕ) (pair : Pair) (lt : ino < length s.cells)
      (got : slice_get (pairs (cell_at s ino).block (log_of (cell_at s ino))) n ≡ Some pair)
      (gone : mark_at (cell_at s ino).marks n ≡ Out) where
    abbrev cell : CellState
    cell = cell_at s ino

    abbrev log : List Entry
    log = log_of cell

    abbrev part : InodePart
    part = record { ino = ino; part = pair_name pair }

    died : is_current pair ≡ false
    died =
        let own = one_cell ino lt in
        current_is cell.block log (log_lawful ino lt) n pair got
        ∙ sym (own.marks.current n (pair_low cell.block log n pair got)) ∙ ap mark.is_current gone

    filed : (t : ℕ) (d : Record) → recorded t part d ≡ true → is_record_of cell ino n d ≡ true
    filed t d e =
        let two = and_parts (is_held_by t d) (is_same part (inode_part d)) e in
        let same : inode_part d ≡ part = same_is part (inode_part d) two.1 in
        both (is_of_slot ino d) (is_number (number_named log (name_of d)) n)
        (ap (λ (x : InodePart). x.ino == ino) same ∙ self ino)
        (ap (λ (x : InodePart). is_number (number_named log x.part) n) same
        ∙ ap (λ (o : Option ℕ). is_number o n) (its_number cell.block log (log_lawful ino lt) n pair got) ∙ self n)

    none_recorded : (t : ℕ) → times part (recorded_as t book) ≡ 0
    none_recorded t =
        let all : times part (recorded_as t book) ≡ count (recorded t part) records =
        by_records t part book ∙ sym (count_append (recorded t part) (all_records book.manifests) book.deferred) in
        let few : count (recorded t part) records ≤ count (is_record_of cell ino n) records =
        count_below (recorded t part) (is_record_of cell ino n) records (filed t) in
        let none : count (is_record_of cell ino n) records ≡ 0 =
        ap (count (is_record_of cell ino n)) (sym listed_as) ∙ once ino n ∙ ap (λ (m : Mark). bit (is_marked_kept m)) gone in
        omega (arith, all, few, none)

    abbrev is_due : ℕ → Pair → Bool
    is_due t p = is_owed t [] p && is_same part (part_in ino p)

    some_owed : (t : ℕ) → holds t pair ≡ true → 1 ≤ times part (owed_from t [] 0 s.cells)
    some_owed t held =
        let zeroth : ino ≡ 0 + ino = omega arith in
        let counted : times part (owed_from t [] 0 s.cells) ≡ count (is_due t) (pairs cell.block log) =
        sym (length-filter (is_same part) (owed_from t [] 0 s.cells))
        ∙ owed_at t part [] ino 0 s.cells zeroth ∙ in_pairs t part [] ino (pairs cell.block log) in
        let owed : is_owed t [] pair ≡ true =
        both (holds t pair) (not (is_current pair) && not (is_named [] pair)) held (ap (λ (b : Bool). not b && true) died) in
        let own : is_same part (part_in ino pair) ≡ true =
        both (ino == ino) (has_name pair (pair_name pair)) (self ino) (own_name pair) in
        subst (λ (k : ℕ). 1 ≤ k) (sym counted)
        (count_there (is_due t) (pairs cell.block log) n pair got (both (is_owed t [] pair) (is_same part (part_in ino pair)) owed own))

    never_held : (t : ℕ) → IsRecorded s.cells book [] t → holds t pair ≡ false
    never_held t same =
        no_pass (holds t pair) (λ held.
        let told : times part (recorded_as t book) ≡ times part (owed_from t [] 0 s.cells) = same part in
        absurd (omega (arith, told, none_recorded t, some_owed t held)))

    unheld : is_held (ids book.snaps) pair ≡ false
    unheld =
        any_none (λ t. holds t pair) (ids book.snaps)
        (recursion_from_All (λ t. holds t pair ≡ false) (ids book.snaps)
        (λ k d inside. never_held (slice_index_or (ids book.snaps) k d) (are.records.scan k d inside)))

  out : (ino n : ℕ) (pair : Pair) → slice_get (pairs (cell_at s ino).block (log_of (cell_at s ino))) n ≡ Some pair
      → mark_at (cell_at s ino).marks n ≡ Out → is_held (ids book.snaps) pair ≡ false
  out ino n pair =
      at_slot (λ (c : CellState). slice_get (pairs c.block (log_of c)) n ≡ Some pair → mark_at c.marks n ≡ Out
      → is_held (ids book.snaps) pair ≡ false) ino (λ got gone. absurd (no_some pair got)) (λ lt got gone. unheld ino n pair lt got gone)

  -- ---- the whole

  shaped : (ino : ℕ) → ino < length s.cells → IsLeftShaped g.block (log_of (cell_at s ino))
  shaped ino lt =
      let few : ino < g.inodes = omega (arith, lt, are.device.slots.count) in
      subst (λ (block : ℕ). IsLeftShaped block (log_of (cell_at s ino))) (rest_sizes parts are.device.slots ino few)
      (are.inodes ino no_cell lt).names.shape

  pub starts : IsStart g w records
  starts = let least : 0 ≤ book.commit = omega arith in record {
    limits = parts.geometry.limits;
    numbers = refl;
    actors = length-replicate g.actors idle;
    slots = are.device.slots.count;
    owners = length-replicate (length parts.cells) None ∙ sym (length-map parts.cells (λ (c : CellValue). c.state)) ∙ are.device.slots.count;
    inodes = are.device.numbers.inodes;
    journals = are.device.made.journals;
    most = are.device.made.most;
    idle_all = all_alike idle g.actors;
    unlocked = all_alike None (length parts.cells);
    uncommitted = refl;
    closed = closed;
    unpinned = λ snapshot. no_pins book.snaps.living snapshot
        (recursion_from_All (λ (t : Snapshot). t.pins ≡ 0) book.snaps.living are.records.rest.unpinned);
    once = rest_once parts are.device.once;
    lists = rest_lists parts are.device.homes;
    pool = rest_pool parts are.device.numbers;
    cells = λ ino lt. one_cell ino (slot_there ino lt);
    sizes = rest_sizes parts are.device.slots;
    pages = λ ino lt. rest_pages parts are.device.slots ino lt (one_cell ino (slot_there ino lt));
    tails = tails;
    order = ordered;
    versions = record {
      cells = λ ino. at_slot (λ (c : CellState). c.version ≤ book.commit) ino least (λ lt. (of_past ino lt).past.version);
      limit = are.records.whole.commit;
    };
    early = rest_early parts are.device.slots;
    erased = rest_erased parts are.device.slots;
    rising = are.records.whole.snaps.rising;
    before = are.records.whole.snaps.below_epoch;
    list = listed (ids book.snaps) book.manifests book.deferred are.records.whole.snaps.rising are.records.whole.filed;
    dead = all_append (λ (d : Record). d.death ≤ book.snaps.epoch) (all_records book.manifests) book.deferred
        (all_filed (λ (d : Record). d.death ≤ book.snaps.epoch) book.manifests are.records.whole.dead.filed)
        are.records.whole.dead.others;
    paired = paired;
    recorded = once;
    alive = λ ino n. at_slot (λ (c : CellState). mark.is_killed (mark_at c.marks n) ≡ false) ino refl
        (λ lt. (of_past ino lt).alive n);
    out = out;
    shaped = all_shaped g.block s closed shaped;
    sound = all_sound g.blocks w closed (rest_once parts are.device.once) one_cell (λ ino lt. (are.inodes ino no_cell lt).names.shape)
        (λ ino lt. (are.inodes ino no_cell lt).index.ends);
    tree = tree_now s closed are.trees;
    copies = λ snapshot. tree_at s closed are.trees snapshot;
  }

  -- ---- a stop

  held_lawful : AreHeldLawful g.block s
  held_lawful ino =
      subst (IsHeldLawful g.block (ids book.snaps)) (sym (settled_is s ino closed))
      (at_slot (λ (c : CellState). IsHeldLawful g.block (ids book.snaps) (log_of c)) ino (λ held. tt) (λ lt.
      let few : ino < g.inodes = omega (arith, lt, are.device.slots.count) in
      subst (λ (block : ℕ). IsHeldLawful block (ids book.snaps) (log_of (cell_at s ino))) (rest_sizes parts are.device.slots ino few)
      (are.inodes ino no_cell lt).names.held))

  pub may_stop : MayStop g.block s
  may_stop = record {
    snapshots = record {
      few = are.records.whole.snaps.fits;
      some = are.records.whole.snaps.some_epoch;
      most = are.records.whole.snaps.epoch_fits;
    };
    generations = λ ino lt. (are.device.slots.each ino no_cell lt).range;
    held = held_lawful;
  }
