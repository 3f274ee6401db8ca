-- The parts of a world where a run may start are at rest.
use Rattle.std.proofs.Common.{◌≡◌, ℕ, zero, suc, ◌+◌, ◌<◌, ◌≤◌, ◌==◌, ◌++◌, ◌∙◌, inl, inr, Bool, true, false, cond, List, [], ◌∷◌, Some, None, ap, arith, filter, flat_map, if◌then◌else◌, length, map, refl, replicate, slice_get, slice_index_or, subst, sym}
use Rattle.std.specs.List.{AllByRecursion}
use Rattle.std.proofs.lemmas.Bool.{cases_lt, eqb-true, eq-eqb}
use Rattle.std.proofs.lemmas.List.{append-nil, get_or_default, get_or_past, take_all}
use Rattle.std.proofs.lemmas.List.Elements.{All-from_recursion, recursion_from_All}
use Rattle.nv_base.specs.declared.geometry.GeometryNumbers.{GeometryNumbers}
use Rattle.nv_alloc.specs.Numbers.{times}
use Rattle.nv_alloc.proofs.Lists.{times-append}
use Rattle.nv_audit.specs.AtRest.{IsOneBook}
use Rattle.nv_audit.specs.DeviceParts.{IsSlotOf}
use Rattle.nv_audit.specs.KeptParts as audit
use Rattle.nv_audit.specs.KeptParts.{AreAllRecordsOf, IsRecordOf, records_in}
use Rattle.nv_audit.specs.LogShape.{IsHeldLawful, IsNoLater}
use Rattle.nv_audit.specs.Lists.{blocks_had}
use Rattle.nv_audit.specs.Records.{AreRecorded}
use Rattle.nv_audit.specs.Resting.{HasShape, HaveLists, HaveRecords, IsInodeAtRest, IsOfPast}
use Rattle.nv_audit.specs.Tree.{IsOnce}
use Rattle.nv_audit.specs.Whole.{Agrees, CountsAgree}
use Rattle.nv_audit.specs.declared.part_list.InodePart.{InodePart}
use Rattle.nv_book.specs.Book.{BookState}
use Rattle.nv_book.specs.Listed.{IsRecordList, all_records, manifest_told}
use Rattle.nv_book.specs.Records.{is_held_by}
use Rattle.nv_book.specs.declared.manifest.Manifest.{Manifest}
use Rattle.nv_book.specs.declared.record.Record.{Record}
use Rattle.nv_cell.specs.Cell.{CellState, IsCell, log_of, of_part, stored_in}
use Rattle.nv_cell.specs.Marks.{bit, mark_at}
use Rattle.nv_cell.specs.Shape.{IsLeftShaped}
use Rattle.nv_alloc.specs.Block.{numbers_of}
use Rattle.nv_entry.specs.Held.{holds}
use Rattle.nv_entry.specs.Log.{pairs}
use Rattle.nv_entry.specs.declared.held.Pair.{Pair}
use Rattle.nv_entry.specs.declared.item.Entry.{Entry}
use Rattle.nv_epoch.specs.Holders.{IsRising}
use Rattle.nv_epoch.specs.SnapList.{ids, numbers, pins_at}
use Rattle.nv_epoch.specs.declared.snapshot.Snapshot.{Snapshot}
use Rattle.nv_journal.specs.declared.old_tail.OldTail.{OldTail}
use Rattle.nv_machine.specs.Effects.{IsSoundIn}
use Rattle.nv_machine.specs.Needed.{IsAtRest}
use Rattle.nv_machine.specs.Reading.{ArePins}
use Rattle.nv_machine.specs.Reads.{bytes_among}
use Rattle.nv_machine.specs.Recorded.{IsOfPair, is_record_of, recorded_in, records_after}
use Rattle.nv_machine.specs.Starts.{IsStart}
use Rattle.nv_machine.specs.Step.{after}
use Rattle.nv_machine.specs.World.{Actor, Shared, World, cell_at, idle, no_cell}
use Rattle.nv_machine.specs.Numbers.{all_blocks, free_of, held_by_actor, used_blocks}
use Rattle.nv_machine.proofs.CellPages.{among_at}
use Rattle.nv_machine.proofs.EachElement.{all_append, all_filter, all_weaker}
use Rattle.nv_machine.proofs.FiledLists.{count}
use Rattle.nv_machine.proofs.Reached.{cells_apart, most_once}
use Rattle.nv_machine.proofs.WorldsAtRest.{start_again}
use Rattle.nv_core.specs.AtRest.{AreJudged, at_rest}
use Rattle.nv_core.specs.Audited.{device_of, parts_by_actor}
use Rattle.nv_core.specs.Worlds.{EventRun}
use Rattle.nv_parts.specs.declared.parts.Parts.{Parts}
use Rattle.nv_core.proofs.AuditCounts.{count_filter}
use Rattle.nv_core.proofs.AuditLaw.{agree}
use Rattle.nv_restart.proofs.JudgedLogs.{settled_is}
use Rattle.nv_restart.proofs.JudgedNodes.{trees_stand}
use Rattle.nv_restart.proofs.WorldImages.{all_may_stop}
use Rattle.nv_restart.specs.Stops.{MayStop}
use Rattle.nv_core.proofs.PastEnds.{sound_ends}
use Rattle.nv_core.proofs.RestStarts.{all_alike, kept_same, no_picks}
use Rattle.nv_parts.proofs.RestingParts.{rest_once_is, rest_pool_is}

-- ---- lists

no_parts : (k : ℕ) → flat_map parts_by_actor (replicate k idle) ≡ []
no_parts zero = refl
no_parts (suc k) = no_parts k

absent : (n : ℕ) (us : List Snapshot) → AllByRecursion (λ m. n < m) (numbers us) → pins_at us n ≡ None
absent n [] above = refl
absent n (u ∷ us) above = go (u.number == n) refl (absent n us above.1) where
  go : (b : Bool) → (u.number == n) ≡ b → pins_at us n ≡ None → (if b then Some u.pins else pins_at us n) ≡ None
  go true e more = let same = eqb-true u.number n e in let lt = above.0 in absurd (omega (arith, same, lt))
  go false e more = more

none_pinned : (living : List Snapshot) → IsRising (numbers living) → ((n : ℕ) → ArePins 0 (pins_at living n))
    → AllByRecursion (λ (t : Snapshot). t.pins ≡ 0) living
none_pinned [] rising none = tt
none_pinned (t ∷ ts) rising none = (first, none_pinned ts rising.1 later) where
  first : t.pins ≡ 0
  first = subst (λ (b : Bool). ArePins 0 (if b then Some t.pins else pins_at ts t.number)) (eq-eqb t.number t.number refl) (none t.number)

  later : (n : ℕ) → ArePins 0 (pins_at ts n)
  later n = at (t.number == n) refl (none n) where
    at : (b : Bool) → (t.number == n) ≡ b → ArePins 0 (if b then Some t.pins else pins_at ts n) → ArePins 0 (pins_at ts n)
    at true e own = subst (λ (m : ℕ). ArePins 0 (pins_at ts m)) (eqb-true t.number n e) (rw (absent t.number ts (recursion_from_All (λ m. t.number < m) (numbers ts) rising.0)) refl)
    at false e own = own

all_told : (P : Record → Type 0) (living some : List ℕ) (rs : List Record) → AllByRecursion P rs
    → AllByRecursion P (all_records (map (manifest_told living rs) some))
all_told P living [] rs all = tt
all_told P living (s ∷ some) rs all = all_append P _ (all_records (map (manifest_told living rs) some)) (all_filter P _ rs all) (all_told P living some rs all)

-- what holds of each record of the list holds of each that is filed or deferred
all_listed : (P : Record → Type 0) (living : List ℕ) (manifests : List Manifest) (deferred rs : List Record)
    → IsRecordList living manifests deferred rs → AllByRecursion P rs → AllByRecursion P (all_records manifests ++ deferred)
all_listed P living manifests deferred rs list all =
    all_append P (all_records manifests) deferred
    (subst (λ (ms : List Manifest). AllByRecursion P (all_records ms)) (sym list.manifests_are) (all_told P living living rs all))
    (subst (AllByRecursion P) (sym list.deferred_is) (all_filter P _ rs all))

one_among : {X : Type 0} (f : X → List ℕ) (n : ℕ) (xs : List X) (i : ℕ) (d : X) → i < length xs
    → times n (f (slice_index_or xs i d)) ≤ times n (flat_map f xs)
one_among f n [] i d lt = absurd (omega (arith, lt))
one_among f n (x ∷ xs) zero d lt = omega (arith, times-append n (f x) (flat_map f xs))
one_among f n (x ∷ xs) (suc i) d lt =
    omega (arith, one_among f n xs i d (omega (arith, lt)), times-append n (f x) (flat_map f xs))

some_place : (ps : List Pair) (n : ℕ) (pair : Pair) → slice_get ps n ≡ Some pair → ps ≡ [] → ⊥
some_place [] n pair got none = cc
some_place (p ∷ ps) n pair got none = cc

-- a filter keeps what passes it
all_of_slot : (P Q : Record → Type 0) (p : Record → Bool) → ((d : Record) → p d ≡ true → P d → Q d) → (xs : List Record)
    → AllByRecursion P xs → AllByRecursion Q (filter p xs)
all_of_slot P Q p step [] all = tt
all_of_slot P Q p step (x ∷ xs) all = go (p x) refl (all_of_slot P Q p step xs all.1) where
  go : (b : Bool) → p x ≡ b → AllByRecursion Q (filter p xs) → AllByRecursion Q (cond b (x ∷ filter p xs) (filter p xs))
  go true e rest = (step x e all.0, rest)
  go false e rest = rest

-- ---- the parts

module _ (parts : Parts) (records : List Record) (one : IsOneBook parts.book.state)
    (start : IsStart parts.geometry.numbers (at_rest parts) records)
    (may : MayStop parts.geometry.numbers.block (at_rest parts).shared) where
  abbrev g : GeometryNumbers
  g = parts.geometry.numbers

  abbrev w : World
  w = at_rest parts

  abbrev s : Shared
  s = w.shared

  abbrev book : BookState
  book = parts.book.state

  within : (ino : ℕ) → ino < length s.cells → ino < g.inodes
  within ino lt = omega (arith, lt, start.slots)

  agreed : Agrees (device_of g w)
  agreed = agree g w records [] start

  no_hands : flat_map parts_by_actor w.actors ≡ []
  no_hands = no_parts g.actors

  -- ---- cells

  at_slot : (P : CellState → Type 0) (ino : ℕ) (default : CellState) → ino < length s.cells → P (cell_at s ino)
      → P (slice_index_or s.cells ino default)
  at_slot P ino default lt is = subst P (get_or_default s.cells ino no_cell default lt) is

  once_in : (ino : ℕ) → ino < length s.cells → IsOnce (blocks_had (cell_at s ino))
  once_in ino lt n = omega (
    arith,
    one_among stored_in n s.cells ino no_cell lt,
    times-append n (flat_map stored_in s.cells) (flat_map held_by_actor w.actors),
    times-append n (flat_map free_of s.lists) (used_blocks w),
    most_once g.blocks (all_blocks w) start.once n,
    times-append n (numbers_of (cell_at s ino).chain.blocks) (flat_map of_part (cell_at s ino).blocks),
  )

  counted : CountsAgree book [] s.cells
  counted = subst (λ (ps : List InodePart). CountsAgree book ps s.cells) no_hands agreed.counts

  module _ (ino : ℕ) (lt : ino < length s.cells) where
    abbrev cell : CellState
    cell = cell_at s ino

    one_cell : IsCell cell
    one_cell = start.cells ino (within ino lt)

    log_is : log_of cell ≡ cell.chain.entries
    log_is = take_all cell.chain.tail cell.chain.entries (omega (arith, start.tails ino))

    at_inode : IsInodeAtRest book ino cell
    at_inode = record {
      index = record {
        whole = one_cell;
        tail = start.tails ino;
        apart = once_in ino lt;
        ends = sound_ends cell (bytes_among cell.blocks) one_cell (among_at cell.blocks (cells_apart g.blocks w start.once ino))
            (subst (IsSoundIn cell) (settled_is s ino start.closed) (start.sound ino));
      };
      names = subst (λ (block : ℕ). HasShape (ids book.snaps) (record cell { block = block })) (sym (start.sizes ino (within ino lt)))
          (record {
            shape = subst (IsLeftShaped g.block) (settled_is s ino start.closed) (start.shaped ino);
            held = subst (IsHeldLawful g.block (ids book.snaps)) (settled_is s ino start.closed) (may.held ino);
          });
      counts = counted ino no_cell lt;
    }

    of_past : IsOfPast book cell
    of_past = record {
      alive = start.alive ino;
      past = record {
        version = start.versions.cells ino;
        entries = All-from_recursion (IsNoLater book.commit book.snaps.epoch) (log_of cell)
            (subst (AllByRecursion (IsNoLater book.commit book.snaps.epoch)) (sym log_is)
            (all_weaker (λ (e : Entry). (e.id.commit < book.commit + 1) × (e.epoch ≤ book.snaps.epoch))
            (IsNoLater book.commit book.snaps.epoch) (λ e h. (omega (arith, h.0), h.1)) cell.chain.entries (start.order ino).earlier));
      };
    }

  -- ---- records

  paired : AllByRecursion (IsOfPair w) (records_in book)
  paired = all_listed (IsOfPair w) (ids book.snaps) book.manifests book.deferred records start.list start.paired

  in_slot : (d : Record) → IsOfPair w d → d.ino < length s.cells
  in_slot d of = elim (cases_lt d.ino (length s.cells)) [
    | inl lt ↦ lt
    | inr past ↦
        let none : cell_at s d.ino ≡ no_cell = get_or_past s.cells d.ino no_cell past in
        absurd (some_place (pairs (cell_at s d.ino).block (log_of (cell_at s d.ino))) of.n of.pair of.is
        (ap (λ (c : CellState). pairs c.block (log_of c)) none))
  ]

  of_record : (ino : ℕ) (d : Record) → audit.is_of_slot ino d ≡ true → IsOfPair w d → IsRecordOf (ids book.snaps) (cell_at s ino) d
  of_record ino d own of =
      subst (λ (n : ℕ). IsRecordOf (ids book.snaps) (cell_at s n) d) (eqb-true d.ino ino own) (record {
        n = of.n;
        pair = of.pair;
        is = of.is;
        name = of.name;
        tells = record {
          birth = of.birth;
          died = of.died;
          holders = All-from_recursion (λ t. is_held_by t d ≡ holds t of.pair) (ids book.snaps) of.holders;
        };
      })

  listed_as : recorded_in w ≡ records_in book
  listed_as =
      ap (λ (rs : List Record). all_records book.manifests ++ (book.deferred ++ rs)) (no_picks g.actors)
      ∙ ap (λ (rs : List Record). all_records book.manifests ++ rs) (append-nil book.deferred)

  kept : AreAllRecordsOf book s.cells
  kept = record {
    slots = All-from_recursion (λ (d : Record). d.ino < length s.cells) (records_in book)
        (all_weaker (IsOfPair w) (λ (d : Record). d.ino < length s.cells) in_slot (records_in book) paired);
    each = λ ino lt. record {
      each = All-from_recursion (IsRecordOf (ids book.snaps) (cell_at s ino)) (audit.records_of ino (records_in book))
          (all_of_slot (IsOfPair w) (IsRecordOf (ids book.snaps) (cell_at s ino)) (audit.is_of_slot ino) (of_record ino)
          (records_in book) paired);
      once = λ n.
          count_filter (audit.is_record_at (log_of (cell_at s ino)) n) (audit.is_of_slot ino) (records_in book)
          ∙ ap (count (is_record_of (cell_at s ino) ino n)) (sym listed_as) ∙ start.recorded ino n
          ∙ ap bit (sym (kept_same (mark_at (cell_at s ino).marks n)));
    };
  }

  scanned : AreRecorded s.cells book []
  scanned = subst (λ (ps : List InodePart). AreRecorded s.cells book ps) no_hands agreed.records

  with_records : HaveRecords s.cells book
  with_records = record {
    whole = one;
    rest = record {
      unpinned = All-from_recursion (λ (t : Snapshot). t.pins ≡ 0) book.snaps.living
          (none_pinned book.snaps.living start.rising start.unpinned);
      closed = All-from_recursion (λ (tails : List OldTail). tails ≡ []) book.journals start.closed;
    };
    past = λ ino default lt. at_slot (IsOfPast book) ino default lt (of_past ino lt);
    kept = kept;
    scan = scanned;
  }

  -- ---- lists

  with_lists : HaveLists g s.cells parts.lists parts.pool book
  with_lists = record {
    made = record { journals = start.journals; most = start.most };
    homes = record { cpus = start.lists.cpus; each = start.lists.each };
    slots = record {
      count = start.slots;
      each = λ ino default lt. at_slot (IsSlotOf g) ino default lt (record {
        sizes = record { block = start.sizes ino (within ino lt); page = (start.pages ino (within ino lt)).size };
        range = may.generations ino lt;
        early = start.early ino;
        erased = start.erased ino;
      });
    };
    numbers = record { inodes = start.inodes; numbers = rest_pool_is parts start.pool };
    once = rest_once_is parts start.once;
  }

  pub judged : AreJudged parts
  judged = record {
    inodes = λ ino default lt. at_slot (IsInodeAtRest book ino) ino default lt (at_inode ino lt);
    trees = trees_stand s start.closed start.tree start.copies;
    records = with_records;
    device = with_lists;
  }

-- those of a world without calls to which events lead from a start
pub rested : (parts : Parts) (run : EventRun) → IsOneBook parts.book.state → IsStart parts.geometry.numbers run.start run.records
    → MayStop parts.geometry.numbers.block run.start.shared → at_rest parts ≡ after run.start run.events → AreJudged parts
rested parts run one start first is =
    let g = parts.geometry.numbers in
    let records = records_after run.start run.events run.records in
    let none : IsAtRest (at_rest parts) = λ actor. ap (λ (a : Actor). a.running) (all_alike idle g.actors actor) in
    let again = start_again g run.start run.records run.events start (subst IsAtRest is none) in
    let may = all_may_stop g run.start run.records run.events start first in
    judged parts records one (subst (λ (w : World). IsStart g w records) (sym is) again)
    (subst (λ (w : World). MayStop g.block w.shared) (sym is) may)
