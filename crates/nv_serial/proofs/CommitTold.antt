-- A whole commit of the machine is the commit of the world with numbers: plain world, slots and records.
use Rattle.std.proofs.Common.{◌≡◌, ◌∙◌, ℕ, zero, suc, ◌+◌, ◌<◌, ◌≤◌, ◌&&◌, ◌++◌, Bool, true, false, List, [], ◌∷◌, ap, arith, drop, filter, if◌then◌else◌, length, map, nat_lt, refl, subst, sym}
use Rattle.std.specs.Prelude.{◌||◌, not, option_to_list}
use Rattle.std.specs.List.{AllByRecursion, flat_map, list_any, range_with_len}
use Rattle.std.proofs.lemmas.Bool.{ltb-false}
use Rattle.std.proofs.lemmas.List.{length-map}
use Rattle.std.proofs.lemmas.List.FromFn.{get_or-map-range_with_len, length-map-range_with_len}
use Rattle.nv_alloc.specs.Numbers.{has}
use Rattle.nv_base.specs.declared.geometry.GeometryNumbers.{GeometryNumbers}
use Rattle.nv_base.specs.declared.numbers.Handle.{Handle}
use Rattle.nv_book.specs.Listed.{unheld}
use Rattle.nv_book.specs.declared.record.Record.{Record}
use Rattle.nv_calls.specs.AllCalls.{effect}
use Rattle.nv_calls.specs.Plain.{nodes_after}
use Rattle.nv_calls.specs.Retiring.{name_of}
use Rattle.nv_calls.specs.Slots.{entries_of, items_for, place_in}
use Rattle.nv_calls.specs.declared.call.Call.{Call}
use Rattle.nv_calls.specs.declared.plan.InodePlan.{InodePlan}
use Rattle.nv_cell.specs.Cell.{CellState, empty_cell}
use Rattle.nv_cell.specs.Numbers.{killed_numbers, killed_part}
use Rattle.nv_cell.specs.Readers.{is_erased, is_gone}
use Rattle.nv_cell.specs.declared.killed.KilledPart.{KilledPart}
use Rattle.nv_entry.specs.Held.{Retention, keeps}
use Rattle.nv_entry.specs.Log.{pairs}
use Rattle.nv_entry.specs.declared.held.Pair.{Pair}
use Rattle.nv_entry.specs.declared.item.Entry.{Entry}
use Rattle.nv_entry.specs.declared.item.Item.{Item}
use Rattle.nv_epoch.specs.SnapList.{Snapshots as Living, ids}
use Rattle.nv_machine.specs.Held.{is_of_slot}
use Rattle.nv_machine.specs.PlainRun.{plain_of}
use Rattle.nv_machine.specs.Reads.{is_written}
use Rattle.nv_machine.specs.Recorded.{with_parts}
use Rattle.nv_machine.specs.Starts.{IsStart}
use Rattle.nv_machine.specs.World.{World, cell_at}
use Rattle.nv_machine.proofs.AppendsToCome.{entries_more, pages_keep}
use Rattle.nv_machine.proofs.PageCells.{append_on}
use Rattle.nv_serial.specs.Committed.{committed, entries_by, is_over, killed_of, left_in, records_with, slot_after}
use Rattle.nv_serial.specs.FileCalls.{log_pages_for, plan_for, wanted}
use Rattle.nv_serial.specs.LogPages.{entries_in}
use Rattle.nv_serial.specs.Row.{plan_by_row, row_at}
use Rattle.nv_serial.specs.Serial.{NumberedSlot, Serial, copies_now, living, log_in, no_slot, slot_of}
use Rattle.nv_serial.specs.Shown.{slot_told}
use Rattle.nv_serial.proofs.AloneStages.{PlainState}
use Rattle.nv_serial.proofs.AtRestErased.{each_place, not_over}
use Rattle.nv_serial.proofs.AtRestLists.{row_is}
use Rattle.nv_serial.proofs.AtRestLogs.{living_is, log_is, shown_entries, slot_is, slots_many, told_at, told_by, whole_log}
use Rattle.nv_serial.proofs.AtRestNodes.{plan_is, wanted_is}
use Rattle.nv_serial.proofs.CommitSlots.{as_grown, grown_told, log_then as in_order, needed, other_told, slots_all, told_is}
use Rattle.nv_serial.proofs.CommitStages.{IsCommitted, IsOverThen, IsSettled, LogAt, entries_at, fresh, kept_by, killed_at, log_then, records_on}
use Rattle.nv_serial.proofs.SlotLists.{none_killed}

none_any : (p : Pair → Bool) (xs : List Pair) → AllByRecursion (λ x. p x ≡ false) xs → list_any p xs ≡ false
none_any p [] none = refl
none_any p (x ∷ xs) none = ap (λ (b : Bool). b || list_any p xs) none.0 ∙ none_any p xs none.1

no_items : (items : List Item) → nat_lt 0 (length items) ≡ false → items ≡ []
no_items [] e = refl
no_items (item ∷ items) e = absurd (let few = ltb-false 0 (length (item ∷ items)) e in omega (arith, few))

module _ (g : GeometryNumbers) (w : World) (rs : List Record) (is : IsStart g w rs) (actor : ℕ) (c : Call) (after : World) (now : PlainState)
    (is_then : IsStart g after now.records) where
  -- what stands beside the run at first
  abbrev pub b0 : PlainState
  b0 = record { records = rs; plain = plain_of w }

  abbrev pub s : Serial
  s = told_by g w rs

  abbrev pub then_told : Serial
  then_told = record { numbers = g; plain = now.plain; slots = map slot_told after.shared.cells; records = now.records }

  module _ (made : Handle)
      (done : IsCommitted g.block actor w.shared c b0 after.shared.cells after.shared.book now.plain now.records made) where
    abbrev plan : List InodePlan
    plan = plan_by_row g.block w.shared actor c made

    abbrev numbers : List ℕ
    numbers = fresh g.block actor w.shared c b0

    abbrev commit : ℕ
    commit = w.shared.book.commit + 1

    abbrev epoch : ℕ
    epoch = w.shared.book.snaps.epoch

    -- the world with numbers before anything is erased
    abbrev later : Serial
    later = record s {
      plain = record s.plain {
        nodes = nodes_after (s.plain.commit + 1) (effect (copies_now s) made c) s.plain.nodes;
        commit = s.plain.commit + 1;
      };
      slots = map (slot_after s plan numbers) (range_with_len 0 (length s.slots));
      records = records_with s plan (range_with_len 0 (length s.slots)) s.records;
    }

    -- ---- records

    abbrev kills : ℕ → List Entry → ℕ → List KilledPart
    kills size log tail = flat_map (λ n. option_to_list (killed_part log n)) (killed_numbers size log tail)

    entries_are : (ino : ℕ) → log_in s ino ≡ (cell_at w.shared ino).chain.entries
    entries_are ino = log_is g w rs is ino ∙ whole_log g w rs is ino

    killed_same : (ino : ℕ) → ino < g.inodes → killed_of g.block (log_in s ino) (entries_by s plan ino)
        ≡ killed_at g.block actor w.shared c b0 plan commit epoch ino
    killed_same ino low =
        let cell = cell_at w.shared ino in
        let es = entries_by s plan ino in
        ap (λ (l : List Entry). kills g.block (l ++ es) (length l)) (entries_are ino)
        ∙ ap (λ (n : ℕ). kills n (cell.chain.entries ++ es) (length cell.chain.entries)) (sym (is.sizes ino low))
        ∙ ap (λ (n : ℕ). kills cell.block (cell.chain.entries ++ es) n) (sym (is.tails ino))

    killed_nothing : (ino : ℕ) → is_written plan ino ≡ false → killed_of g.block (log_in s ino) (entries_by s plan ino) ≡ []
    killed_nothing ino none =
        ap (λ (items : List Item). killed_of g.block (log_in s ino) (entries_of commit epoch (place_in plan ino) items))
        (no_items (items_for plan ino) none)
        ∙ none_killed g.block (log_in s ino)

    records_same : (n from : ℕ) → from + n ≤ g.inodes → (r : List Record) → records_with s plan (range_with_len from n) r
        ≡ records_on g.block actor w.shared c b0 plan commit epoch (filter (is_written plan) (range_with_len from n)) r
    records_same zero from fit r = refl
    records_same (suc n) from fit r = go (is_written plan from) refl (λ q. records_same n (from + 1) (omega (arith, fit)) q) where
      rest : List ℕ
      rest = range_with_len (from + 1) n

      go : (b : Bool) → is_written plan from ≡ b
          → ((q : List Record) → records_with s plan rest q
          ≡ records_on g.block actor w.shared c b0 plan commit epoch (filter (is_written plan) rest) q)
          → records_with s plan rest (with_parts (living s) from epoch (killed_of g.block (log_in s from) (entries_by s plan from)) r)
          ≡ records_on g.block actor w.shared c b0 plan commit epoch
          (if b then from ∷ filter (is_written plan) rest else filter (is_written plan) rest) r
      go true e more =
          ap (λ (l : List ℕ). records_with s plan rest (with_parts l from epoch (killed_of g.block (log_in s from) (entries_by s plan from)) r))
          (living_is g w rs is)
          ∙ ap (λ (parts : List KilledPart). records_with s plan rest (with_parts (ids w.shared.book.snaps) from epoch parts r))
          (killed_same from (omega (arith, fit)))
          ∙ more (with_parts (ids w.shared.book.snaps) from epoch (killed_at g.block actor w.shared c b0 plan commit epoch from) r)
      go false e more =
          ap (λ (parts : List KilledPart). records_with s plan rest (with_parts (living s) from epoch parts r)) (killed_nothing from e) ∙ more r

    records_are : now.records ≡ later.records
    records_are =
        done.under_way.records_are
        ∙ ap (λ (l : List ℕ). records_on g.block actor w.shared c b0 plan commit epoch l rs)
        (slots_all g w rs is actor c b0 plan done.slots done.planned
        ∙ ap (λ (n : ℕ). filter (is_written plan) (range_with_len 0 n)) (sym (length-map w.shared.cells slot_told)))
        ∙ sym (records_same (length s.slots) 0 (let many = slots_many g w rs is in omega (arith, many)) rs)

    -- ---- what keeps the pairs of a slot

    abbrev s_then : Serial
    s_then = told_by g after now.records

    living_same : living later ≡ living s_then
    living_same =
        living_is g w rs is ∙ ap (λ (l : Living). ids l) (sym done.under_way.snaps) ∙ sym (living_is g after now.records is_then)

    deferred_same : unheld (living later) later.records ≡ w.shared.book.deferred
    deferred_same =
        ap (λ (l : List ℕ). unheld l later.records) (living_same ∙ living_is g after now.records is_then)
        ∙ ap (λ (r : List Record). unheld (ids after.shared.book.snaps) r) (sym records_are)
        ∙ sym is_then.list.deferred_is ∙ done.under_way.deferred

    module _ (ino : ℕ) (low : ino < g.inodes) where
      abbrev cell : CellState
      cell = cell_at after.shared ino

      slot_later : slot_of later ino ≡ slot_after s plan numbers ino
      slot_later =
          get_or-map-range_with_len (slot_after s plan numbers) 0 (length s.slots) ino ino no_slot
          (let many = slots_many g w rs is in omega (arith, many, low)) (omega arith)

      abbrev over_of : List ℕ → List Record → NumberedSlot → Bool
      over_of alive records slot =
          is_gone (entries_in slot.pages)
          && not (list_any (keeps (record {
            block = g.block;
            snapshots = alive;
            pending = map name_of (filter (is_of_slot ino) (unheld alive records));
          })) (pairs g.block (entries_in slot.pages)))

      abbrev left_by : Bool → NumberedSlot
      left_by b = if b then record { generation = (slot_of later ino).generation + 1; pages = [] } else slot_of later ino

      -- ---- a slot that is not erased

      stays : slot_told cell ≡ slot_after s plan numbers ino → left_in later ino ≡ slot_told cell
      stays told =
          let never : is_over later ino ≡ false =
          ap (λ (l : List ℕ). over_of l later.records (slot_of later ino)) living_same
          ∙ ap (λ (r : List Record). over_of (living s_then) r (slot_of later ino)) (sym records_are)
          ∙ ap (λ (x : NumberedSlot). over_of (living s_then) now.records x)
          (slot_later ∙ sym told ∙ sym (slot_is g after now.records is_then ino))
          ∙ not_over g after now.records is_then ino low in
          ap left_by never ∙ slot_later ∙ sym told

      -- ---- a slot that the plan writes

      module _ (there : has done.slots ino ≡ true)
          (settled : IsSettled g.block actor w.shared c b0 plan commit epoch done.slots ino cell) where
        abbrev old : CellState
        old = settled.old

        old_told : slot_told old ≡ slot_after s plan numbers ino
        old_told = grown_told g w rs is actor c b0 plan done.slots done.planned ino low old settled.grown there

        abbrev grown : CellState
        grown = as_grown g w rs is actor c b0 plan done.slots done.planned ino low old settled.grown there

        abbrev es : List Entry
        es = entries_at g.block actor w.shared c b0 plan commit epoch ino

        log_later : entries_in (slot_of later ino).pages ≡ log_then g.block actor w.shared c b0 plan commit epoch ino
        log_later =
            ap (λ (x : NumberedSlot). entries_in x.pages)
            (slot_later ∙ sym old_told ∙ told_is g w rs is actor c b0 plan done.slots done.planned ino low old settled.grown there)
            ∙ shown_entries g.page grown.chain
            (append_on g.page is.limits.some_entries is.limits.entries_fit es [] settled.grown.pages (cell_at w.shared ino) (is.pages ino low)
            (in_order g w rs is actor c b0 plan done.slots done.planned ino low old settled.grown there)
            (needed g w rs is actor c b0 plan done.slots done.planned ino low old settled.grown there))
            ∙ entries_more es [] _ ∙ ap (λ (l : List Entry). l ++ es) (pages_keep settled.grown.pages (cell_at w.shared ino))

        is_over_later : IsOverThen g.block actor w.shared c b0 plan commit epoch ino → is_over later ino ≡ true
        is_over_later over =
            let keeper : Retention = record {
              block = g.block;
              snapshots = living later;
              pending = map name_of (filter (is_of_slot ino) (unheld (living later) later.records));
            } in
            let size = is.sizes ino low in
            let alive = living_is g w rs is in
            let names = deferred_same in
            let kept : keeper ≡ kept_by g.block actor w.shared c b0 plan commit epoch ino =
            λ i. record {
              block = (sym size) i;
              snapshots = alive i;
              pending = map name_of (filter (is_of_slot ino) (names i));
            } in
            let log = log_then g.block actor w.shared c b0 plan commit epoch ino in
            let none : list_any (keeps keeper) (pairs g.block (entries_in (slot_of later ino).pages)) ≡ false =
            ap (λ (l : List Entry). list_any (keeps keeper) (pairs g.block l)) log_later
            ∙ ap (λ (n : ℕ). list_any (keeps keeper) (pairs n log)) (sym size)
            ∙ ap (λ (x : Retention). list_any (keeps x) (pairs (cell_at w.shared ino).block log)) kept
            ∙ none_any (keeps (kept_by g.block actor w.shared c b0 plan commit epoch ino)) (pairs (cell_at w.shared ino).block log) over.kept in
            ap (λ (b : Bool). b && not (list_any (keeps keeper) (pairs g.block (entries_in (slot_of later ino).pages))))
            (ap is_gone log_later ∙ over.gone)
            ∙ ap not none

        written : left_in later ino ≡ slot_told cell
        written = go (is_erased old) refl where
          left : Bool → CellState
          left b = if b then empty_cell old.block old.chain.page (old.generation + 1) old.version else old

          go : (b : Bool) → is_erased old ≡ b → left_in later ino ≡ slot_told cell
          go false e = stays (ap slot_told (settled.is ∙ ap left e) ∙ old_told)
          go true e =
              let generation : (slot_of later ino).generation + 1 ≡ old.generation + 1 =
              ap (λ (x : NumberedSlot). x.generation + 1) (slot_later ∙ sym old_told) in
              ap left_by (is_over_later (settled.over e))
              ∙ (λ i. record { generation = generation i; pages = [] })
              ∙ sym (ap slot_told (settled.is ∙ ap left e))

      -- ---- each

      each_left : left_in later ino ≡ slot_told cell
      each_left = go (has done.slots ino) refl (done.logs ino) where
        go : (b : Bool) → has done.slots ino ≡ b
            → LogAt g.block actor w.shared c b0 plan commit epoch (has done.slots ino) (has done.slots ino) done.slots ino cell
            → left_in later ino ≡ slot_told cell
        go true e log =
            written e (subst (λ (b : Bool). LogAt g.block actor w.shared c b0 plan commit epoch b b done.slots ino cell) e log)
        go false e log =
            let same : cell ≡ cell_at w.shared ino =
            subst (λ (b : Bool). LogAt g.block actor w.shared c b0 plan commit epoch b b done.slots ino cell) e log in
            stays (ap slot_told same ∙ sym (slot_is g w rs is ino)
            ∙ sym (other_told g w rs is actor c b0 plan done.slots done.planned ino low e))

    -- ---- all slots

    slots_are : map slot_told after.shared.cells ≡ map (left_in later) (range_with_len 0 (length later.slots))
    slots_are =
        let cells = after.shared.cells in
        let many : length (map slot_told cells) ≡ length later.slots =
        length-map cells slot_told ∙ is_then.slots ∙ sym (slots_many g w rs is)
        ∙ sym (length-map-range_with_len (slot_after s plan numbers) 0 (length s.slots)) in
        sym (each_place (left_in later) 0 (map slot_told cells) (λ i lt.
        let zeroth : 0 + i ≡ i = omega arith in
        ap (left_in later) zeroth
        ∙ each_left i (omega (arith, lt, length-map cells slot_told, is_then.slots))
        ∙ sym (told_at cells i)))
        ∙ ap (λ (n : ℕ). map (left_in later) (range_with_len 0 n)) many

    -- THE WORLD AFTER IT is the one of numbers after the commit
    pub committed_told : then_told ≡ committed s made c (plan_for s actor made c) (log_pages_for s actor c)
    committed_told =
        let plain = done.under_way.plain_is in
        let slots = slots_are in
        let records = records_are in
        let machine : then_told ≡ committed s made c plan numbers =
        λ i. record { numbers = g; plain = plain i; slots = slots i; records = records i } in
        machine
        ∙ ap (λ (p : List InodePlan). committed s made c p numbers) (sym (plan_is g w rs is actor made c))
        ∙ ap (λ (ns : List ℕ). committed s made c (plan_for s actor made c) ns)
        (ap (λ (n : ℕ). drop n (row_at w.shared actor)) (sym (wanted_is g w rs is c)) ∙ ap (drop (wanted s c)) (row_is g w rs is actor))
