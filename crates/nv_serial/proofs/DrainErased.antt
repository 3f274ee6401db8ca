-- A release of a drain that is made alone erases what the world with numbers erases behind it: a slot that is over then.
use Rattle.std.proofs.Common.{◌≡◌, ◌≢◌, ◌∙◌, ℕ, zero, suc, ◌+◌, ◌<◌, ◌==◌, ◌++◌, Bool, true, false, List, [], ◌∷◌, Option, Some, None, ap, append-nil, arith, flat_map, get_or-set_other, get_or-set_same, if◌then◌else◌, length, length-set, map, refl, set, subst, sym, take, take_all}
use Rattle.std.specs.Prelude.{slice_index_or}
use Rattle.std.specs.List.{AllByRecursion, range_with_len}
use Rattle.std.proofs.lemmas.Bool.{eqb-false, eqb-true}
use Rattle.std.proofs.lemmas.List.{length-map}
use Rattle.nv_base.specs.declared.geometry.GeometryNumbers.{GeometryNumbers}
use Rattle.nv_book.specs.Records.{holder_of}
use Rattle.nv_book.specs.declared.record.Record.{Record}
use Rattle.nv_calls.specs.Retiring.{erased as erased_cell, released as released_part}
use Rattle.nv_calls.specs.declared.call.Call.{Call}
use Rattle.nv_cell.proofs.ValuesNow.{IsLog-take}
use Rattle.nv_cell.specs.Cell.{CellState, log_of}
use Rattle.nv_cell.specs.Readers.{is_erased}
use Rattle.nv_cell.specs.declared.killed.KilledPart.{KilledPart}
use Rattle.nv_entry.specs.Log.{IsLog}
use Rattle.nv_entry.specs.declared.item.Entry.{Entry}
use Rattle.nv_epoch.specs.SnapList.{Snapshots as Living, ids}
use Rattle.nv_machine.specs.Erasing.{emptied}
use Rattle.nv_machine.specs.Held.{killed_by_actor, killed_by_call, killed_in, killed_slots, parts_for, picked_at, picked_by_actor, picked_by_call}
use Rattle.nv_machine.specs.PlainRun.{Copy, Plain, plain_of}
use Rattle.nv_machine.specs.Reads.{written_slots}
use Rattle.nv_machine.specs.Starts.{IsStart}
use Rattle.nv_machine.specs.Step.{after}
use Rattle.nv_machine.specs.World.{Actor, Draining, Event, SnapshotOrCleaner, Next, Release, Running, Shared, World, actor_at, cell_at, idle, no_cell, with_cell}
use Rattle.nv_machine.proofs.EachElement.{all_back, all_front}
use Rattle.nv_machine.proofs.EveryWorld.{all_known, all_marked, all_parts}
use Rattle.nv_machine.proofs.FiledLists.{count, count_append, count_cons, one}
use Rattle.nv_machine.proofs.FiledMarks.{IsTold, is_filed_on}
use Rattle.nv_machine.proofs.FiledSteps.{MarksOf, other_slot, recounted, released_cell}
use Rattle.nv_machine.proofs.FiledWorlds.{AreMarked, picked_in}
use Rattle.nv_machine.proofs.FromScratch.{none_true}
use Rattle.nv_machine.proofs.GoneRuns.{none_retiring}
use Rattle.nv_machine.proofs.PartsFor.{none_of}
use Rattle.nv_machine.proofs.WorldFacts.{logs_paged}
use Rattle.nv_serial.specs.Committed.{erased, is_over, left_in}
use Rattle.nv_serial.specs.LogPages.{entries_in}
use Rattle.nv_serial.specs.Serial.{NumberedSlot, Serial, living, log_in, slot_of}
use Rattle.nv_serial.specs.Shown.{slot_told}
use Rattle.nv_serial.proofs.AloneStages.{PlainState}
use Rattle.nv_serial.proofs.AtRestErased.{each_place}
use Rattle.nv_serial.proofs.AtRestLogs.{living_is, shown_entries, told_at}
use Rattle.nv_serial.proofs.ErasedWhereOver.{erased_over, over_by}
use Rattle.nv_serial.proofs.SnapAlone.{Now, OthersRest, numbered}

-- the log of a cell ends at its tail
abbrev Tail : CellState → Type 0
Tail cell = cell.chain.tail ≡ length cell.chain.entries

-- of what all actors have it is that of one, where no other has any
only : {X : Type 0} (f : Actor → List X) (actors : List Actor) (actor : ℕ) → actor < length actors
    → ((b : ℕ) → b ≢ actor → f (slice_index_or actors b idle) ≡ []) → flat_map f actors ≡ f (slice_index_or actors actor idle)
only f [] actor there others = absurd (omega (arith, there))
only {X} f (x ∷ actors) zero there others =
    ap (λ (xs : List X). f x ++ xs) (none_of f actors (λ b. others (suc b) (λ e. omega (arith, e)))) ∙ append-nil (f x)
only {X} f (x ∷ actors) (suc actor) there others =
    ap (λ (xs : List X). xs ++ flat_map f actors) (others 0 (λ e. omega (arith, e)))
    ∙ only f actors actor (omega (arith, there)) (λ b ne. others (suc b) (λ e. ne (omega (arith, e))))

-- what holds between the steps of a drain beside what is yet to come
pub record IsSteady (w : World) (b : PlainState) (sh : Shared) : Type 0 where
  pub plain_is : b.plain ≡ plain_of w
  pub snaps_is : sh.book.snaps ≡ w.shared.book.snaps
  pub free : sh.holder ≡ None
  pub tails : (ino : ℕ) → (cell_at sh ino).chain.tail ≡ length (cell_at sh ino).chain.entries

module _ (g : GeometryNumbers) (w : World) (rs : List Record) (is : IsStart g w rs) (actor : ℕ) (c : Call) (events : List Event) where
  abbrev v : World
  v = after w events

  abbrev sh : Shared
  sh = v.shared

  abbrev b : PlainState
  b = Now g w rs actor c events

  abbrev cur : Serial
  cur = numbered g w rs actor c b sh

  module _ (steady : IsSteady w b sh) where
    pub living_now : living cur ≡ ids sh.book.snaps
    living_now =
        ap (λ (p : Plain). map (λ (x : Copy). x.snapshot) p.copies) steady.plain_is
        ∙ living_is g w rs is ∙ ap (λ (l : Living). ids l) (sym steady.snaps_is)

    many : length sh.cells ≡ g.inodes
    many = (all_known g w rs is events).pooled.slots

    slot_now : (ino : ℕ) → slot_of cur ino ≡ slot_told (cell_at sh ino)
    slot_now ino = told_at sh.cells ino

    whole : (ino : ℕ) → log_of (cell_at sh ino) ≡ (cell_at sh ino).chain.entries
    whole ino =
        let es = (cell_at sh ino).chain.entries in
        ap (λ (n : ℕ). take n es) (steady.tails ino) ∙ take_all (length es) es (omega arith)

    log_now : (ino : ℕ) → ino < g.inodes → log_in cur ino ≡ log_of (cell_at sh ino)
    log_now ino lt =
        ap (λ (slot : NumberedSlot). entries_in slot.pages) (slot_now ino)
        ∙ shown_entries g.page (cell_at sh ino).chain (logs_paged g w rs events ino is (omega (arith, lt, many)))
        ∙ sym (whole ino)

    over_now : (ino : ℕ) → ino < g.inodes
        → is_over cur ino ≡ over_by (ids sh.book.snaps) ino (cell_at sh ino).block (log_of (cell_at sh ino)) b.records
    over_now ino lt =
        ap (λ (l : List ℕ). over_by l ino g.block (log_in cur ino) b.records) living_now
        ∙ ap (λ (es : List Entry). over_by (ids sh.book.snaps) ino g.block es b.records) (log_now ino lt)
        ∙ ap (λ (n : ℕ). over_by (ids sh.book.snaps) ino n (log_of (cell_at sh ino)) b.records)
        (sym (all_parts g w rs events is ino (omega (arith, lt, many))).size)

    abbrev left_by : ℕ → Bool → NumberedSlot
    left_by ino over = if over then record { generation = (slot_of cur ino).generation + 1; pages = [] } else slot_of cur ino

    -- ---- at a release

    module _ (r : Running) (others : OthersRest g w rs actor c events) (there : actor < length v.actors)
        (runs : (actor_at v actor).running ≡ Some r) (draining : Draining) (picked : Record)
        (next : r.next ≡ SnapshotOrCleaner (Release draining picked)) where
      abbrev snapshots : List ℕ
      snapshots = ids sh.book.snaps

      abbrev epoch : ℕ
      epoch = sh.book.snaps.epoch

      marked : AreMarked v b.records
      marked = all_marked g w rs events is

      own_killed : (ino : ℕ) → killed_by_actor ino (actor_at v actor) ≡ []
      own_killed ino =
          ap (λ (o : Option Running). killed_by_call o (actor_at v actor).hand ino) runs
          ∙ ap (λ (k : Next). parts_for (killed_slots k (written_slots r)) (actor_at v actor).hand.killed ino) next

      none_killed : (ino : ℕ) → killed_in v ino ≡ []
      none_killed ino =
          only (killed_by_actor ino) v.actors actor there (λ a ne. ap (killed_by_actor ino) (others a ne)) ∙ own_killed ino

      picked_is : picked_in v ≡ picked ∷ []
      picked_is =
          only picked_by_actor v.actors actor there (λ a ne. ap picked_by_actor (others a ne))
          ∙ ap (λ (o : Option Running). picked_by_call o) runs ∙ ap picked_at next

      marks : (ino : ℕ) → MarksOf snapshots ino epoch [] (b.records ++ picked ∷ []) (cell_at sh ino)
      marks ino =
          subst (λ (ds : List Record). MarksOf snapshots ino epoch [] (b.records ++ ds) (cell_at sh ino)) picked_is
          (subst (λ (ks : List KilledPart). MarksOf snapshots ino epoch ks (b.records ++ picked_in v) (cell_at sh ino)) (none_killed ino)
          (marked.cells ino))

      unheld : holder_of snapshots picked ≡ None
      unheld = (subst (λ (ds : List Record). AllByRecursion (λ d. holder_of snapshots d ≡ None) ds) picked_is marked.unheld).0

      log_is : (ino : ℕ) → IsLog (log_of (cell_at sh ino))
      log_is ino =
          IsLog-take (cell_at sh ino).chain.tail (cell_at sh ino).chain.entries
          ((all_known g w rs is events).reached.order.logs ino).ordered

      counted : (p : Record → Bool) → count p (b.records ++ picked ∷ []) ≡ one (p picked) + count p b.records
      counted p = omega (arith, count_append p b.records (picked ∷ []), count_cons p picked [])

      abbrev T : ℕ → Record → Type 0
      T ino d = IsTold snapshots ino (cell_at sh ino).block (log_of (cell_at sh ino)) d

      told_front : (ino : ℕ) → AllByRecursion (T ino) b.records
      told_front ino = all_front (T ino) b.records (picked ∷ []) (marks ino).told

      -- the cell whose part goes out, before it may be erased
      abbrev out : CellState
      out = released_part picked (cell_at sh picked.ino)

      out_marks : MarksOf snapshots picked.ino epoch [] b.records out
      out_marks =
          released_cell snapshots epoch [] (b.records ++ picked ∷ []) b.records picked (cell_at sh picked.ino) (log_is picked.ino)
          (marks picked.ino) ((all_back (T picked.ino) b.records (picked ∷ []) (marks picked.ino).told).0 refl) counted
          (told_front picked.ino) unheld

      others_marks : (ino : ℕ) → picked.ino ≢ ino → MarksOf snapshots ino epoch [] b.records (cell_at sh ino)
      others_marks ino ne =
          recounted snapshots ino epoch [] (b.records ++ picked ∷ []) b.records (cell_at sh ino)
          (λ n. let none = ap one (other_slot ino (log_of (cell_at sh ino)) n picked ne) in
          omega (arith, counted (is_filed_on ino (log_of (cell_at sh ino)) n), none))
          (told_front ino) (marks ino)

      -- ---- what is left of each slot

      abbrev pub released_shared : Shared
      released_shared = with_cell picked.ino (erased_cell out) sh

      picked_left : picked.ino < g.inodes → left_in cur picked.ino ≡ slot_told (erased_cell out)
      picked_left lt = ap (left_by picked.ino) over ∙ go (is_erased out) where
        over : is_over cur picked.ino ≡ is_erased out
        over = over_now picked.ino lt ∙ sym (erased_over snapshots picked.ino epoch b.records out (log_is picked.ino) out_marks)

        generation : (slot_of cur picked.ino).generation + 1 ≡ out.generation + 1
        generation = ap (λ (x : NumberedSlot). x.generation + 1) (slot_now picked.ino)

        go : (gone : Bool) → left_by picked.ino gone ≡ slot_told (if gone then emptied out else out)
        go true = λ i. record { generation = generation i; pages = [] }
        go false = slot_now picked.ino

      other_left : (ino : ℕ) → ino < g.inodes → picked.ino ≢ ino → left_in cur ino ≡ slot_told (cell_at sh ino)
      other_left ino lt ne =
          let never : is_erased (cell_at sh ino) ≡ false =
          none_true (is_erased (cell_at sh ino)) (none_retiring g w rs events ino is steady.free) in
          ap (left_by ino)
          (over_now ino lt ∙ sym (erased_over snapshots ino epoch b.records (cell_at sh ino) (log_is ino) (others_marks ino ne)) ∙ never)
          ∙ slot_now ino

      each_left : (ino : ℕ) → ino < g.inodes → left_in cur ino ≡ slot_told (cell_at released_shared ino)
      each_left ino lt = go (picked.ino == ino) refl where
        go : (same : Bool) → (picked.ino == ino) ≡ same → left_in cur ino ≡ slot_told (cell_at released_shared ino)
        go true same =
            subst (λ (n : ℕ). left_in cur n ≡ slot_told (cell_at released_shared n)) (eqb-true picked.ino ino same)
            (picked_left (let e = eqb-true picked.ino ino same in omega (arith, lt, e))
            ∙ ap slot_told (sym (get_or-set_same sh.cells picked.ino (erased_cell out) no_cell
            (let e = eqb-true picked.ino ino same in omega (arith, lt, e, many)))))
        go false apart =
            let ne : picked.ino ≢ ino = eqb-false picked.ino ino apart in
            other_left ino lt ne
            ∙ ap slot_told (sym (get_or-set_other sh.cells picked.ino ino (erased_cell out) no_cell (λ e. ne (sym e))))

      -- ERASING is what a release leaves
      pub erased_now : erased cur ≡ numbered g w rs actor c b released_shared
      erased_now =
          let cells = released_shared.cells in
          let as_many : length cells ≡ length sh.cells = length-set sh.cells picked.ino (erased_cell out) in
          let slots : map (left_in cur) (range_with_len 0 (length cur.slots)) ≡ map slot_told cells =
          ap (λ (n : ℕ). map (left_in cur) (range_with_len 0 n))
          (length-map sh.cells slot_told ∙ sym as_many ∙ sym (length-map cells slot_told))
          ∙ each_place (left_in cur) 0 (map slot_told cells) (λ i lt.
          let zeroth : 0 + i ≡ i = omega arith in
          ap (left_in cur) zeroth
          ∙ each_left i (omega (arith, lt, length-map cells slot_told, as_many, many))
          ∙ sym (told_at cells i)) in
          ap (λ (xs : List NumberedSlot). let x : Serial = record cur { slots = xs } in x) slots

      -- each log still ends at its tail
      pub tails_then : (ino : ℕ) → (cell_at released_shared ino).chain.tail ≡ length (cell_at released_shared ino).chain.entries
      tails_then ino = set_tail sh.cells picked.ino ino (steady.tails ino) where
        erased_tail : (gone : Bool) → Tail (if gone then emptied out else out)
        erased_tail true = refl
        erased_tail false = steady.tails picked.ino

        set_tail : (cells : List CellState) (n m : ℕ) → Tail (slice_index_or cells m no_cell)
            → Tail (slice_index_or (set cells n (erased_cell out)) m no_cell)
        set_tail [] n m had = had
        set_tail (x ∷ cells) zero zero had = erased_tail (is_erased out)
        set_tail (x ∷ cells) zero (suc m) had = had
        set_tail (x ∷ cells) (suc n) zero had = had
        set_tail (x ∷ cells) (suc n) (suc m) had = set_tail cells n m had
