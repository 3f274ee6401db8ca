-- Each living snapshot has as many records of each part as the logs say: one where it holds it and it is neither
-- current nor in a hand.
use Rattle.std.proofs.Common.{◌≡◌, ◌≢◌, ℕ, zero, suc, ◌+◌, ◌<◌, ◌≤◌, ◌==◌, ◌&&◌, ◌++◌, ◌∙◌, Bool, true, false, not, List, [], ◌∷◌, Option, Some, None, ap, ap₂, arith, filter, flat_map, if◌then◌else◌, refl, slice_get, slice_index_or, subst, sym}
use Rattle.std.specs.Prelude.{◌||◌}
use Rattle.std.specs.List.{AllByRecursion, Contains, list_any}
use Rattle.std.proofs.lemmas.Bool.{and_parts, eqb-true, true≢false}
use Rattle.std.proofs.lemmas.List.Sums.{length-filter}
use Rattle.std.proofs.lemmas.Option.{same_Some}
use Rattle.nv_base.specs.declared.geometry.GeometryNumbers.{GeometryNumbers}
use Rattle.nv_audit.specs.PartLists.{is_same, times}
use Rattle.nv_audit.specs.Pending.{of_inode}
use Rattle.nv_audit.specs.Records as audit
use Rattle.nv_audit.specs.Records.{inode_part, is_owed, owed_by, owed_from, owed_pair, part_in, recorded_as}
use Rattle.nv_audit.specs.declared.part_list.InodePart.{InodePart}
use Rattle.nv_audit.proofs.PartNames.{same_is}
use Rattle.nv_book.specs.Book.{BookState}
use Rattle.nv_book.specs.Listed.{all_records}
use Rattle.nv_book.specs.Records.{holder_of, is_held_by}
use Rattle.nv_book.specs.declared.manifest.Manifest.{Manifest}
use Rattle.nv_book.specs.declared.record.Record.{Record}
use Rattle.nv_calls.specs.Retiring.{name_of}
use Rattle.nv_cell.specs.Cell.{CellState, log_of}
use Rattle.nv_cell.specs.Marks.{bit, mark_at}
use Rattle.nv_cell.specs.Named.{number_named}
use Rattle.nv_cell.specs.Numbers.{is_number}
use Rattle.nv_cell.specs.declared.killed.KilledPart.{KilledPart}
use Rattle.nv_entry.specs.Held.{has_name, holds, is_current, pair_name}
use Rattle.nv_entry.specs.Log.{IsLog, pairs}
use Rattle.nv_entry.specs.declared.held.Pair.{Pair}
use Rattle.nv_entry.specs.declared.item.Entry.{Entry}
use Rattle.nv_entry.specs.declared.part.PartId.{PartId}
use Rattle.nv_entry.proofs.Currents.{any_map, any_same}
use Rattle.nv_epoch.specs.Holders as holders
use Rattle.nv_epoch.specs.SnapList.{ids}
use Rattle.nv_epoch.proofs.Last.{none_passes}
use Rattle.nv_machine.specs.Held.{is_of_slot, killed_in}
use Rattle.nv_machine.specs.Recorded.{is_marked_kept, is_record_of, recorded_in}
use Rattle.nv_machine.specs.Starts.{IsStart}
use Rattle.nv_machine.specs.Step.{after}
use Rattle.nv_machine.specs.World.{Event, World, cell_at, no_cell}
use Rattle.nv_machine.proofs.EachElement.{all_at, all_back, all_weaker, all_with}
use Rattle.nv_machine.proofs.FiledHeld.{recorded_for}
use Rattle.nv_machine.proofs.FiledLists.{count, count_append, count_cons, one}
use Rattle.nv_machine.proofs.FiledMarks.{IsTold}
use Rattle.nv_machine.proofs.FiledWorlds.{picked_in}
use Rattle.nv_machine.proofs.MarksInUse.{any_gives}
use Rattle.nv_machine.proofs.Lists.{self}
use Rattle.nv_cell.proofs.NamedPairs.{its_number, name_is, own_name}
use Rattle.nv_machine.proofs.EveryWorld.{all_marked, reached}
use Rattle.nv_machine.proofs.WorldFacts.{log_in, recorded_all, recorded_once}
use Rattle.nv_machine.proofs.Pairs.{its_name, record_number}
use Rattle.nv_core.specs.Audited.{parts_by_actor}
use Rattle.nv_core.proofs.AuditCounts.{count_any, count_below, count_filter, count_map, count_none, no_pass, none_numbered, one_numbered}
use Rattle.nv_core.proofs.AuditNamed.{hands_so, in_killed, in_record}

-- ---- by the records, and by the logs

module _ (s : ℕ) (p : InodePart) where
  abbrev pub recorded : Record → Bool
  recorded d = is_held_by s d && is_same p (inode_part d)

  in_records : (rs : List Record) → count (is_same p) (audit.recorded_in s rs) ≡ count recorded rs
  in_records rs =
      count_map (is_same p) inode_part (filter (is_held_by s) rs) ∙ count_filter (λ d. is_same p (inode_part d)) (is_held_by s) rs

  in_manifests : (ms : List Manifest)
      → count (is_same p) (flat_map (λ (m : Manifest). audit.recorded_in s m.records) ms) ≡ count recorded (all_records ms)
  in_manifests [] = refl
  in_manifests (m ∷ ms) =
      count_append (is_same p) (audit.recorded_in s m.records) (flat_map (λ (m : Manifest). audit.recorded_in s m.records) ms)
      ∙ ap₂ (λ (a b : ℕ). a + b) (in_records m.records) (in_manifests ms)
      ∙ sym (count_append recorded m.records (all_records ms))

  pub by_records : (book : BookState)
      → times p (recorded_as s book) ≡ count recorded (all_records book.manifests) + count recorded book.deferred
  by_records book =
      sym (length-filter (is_same p) (recorded_as s book))
      ∙ count_append (is_same p) (flat_map (λ (m : Manifest). audit.recorded_in s m.records) book.manifests)
      (audit.recorded_in s book.deferred)
      ∙ ap₂ (λ (a b : ℕ). a + b) (in_manifests book.manifests) (in_records book.deferred)

  pub in_pairs : (named : List PartId) (ino : ℕ) (ps : List Pair)
      → count (is_same p) (flat_map (owed_pair s named ino) ps)
      ≡ count (λ pair. is_owed s named pair && is_same p (part_in ino pair)) ps
  in_pairs named ino [] = refl
  in_pairs named ino (pair ∷ ps) =
      count_append (is_same p) (owed_pair s named ino pair) (flat_map (owed_pair s named ino) ps)
      ∙ ap₂ (λ (a b : ℕ). a + b) (go (is_owed s named pair)) (in_pairs named ino ps)
      ∙ sym (count_cons (λ pair. is_owed s named pair && is_same p (part_in ino pair)) pair ps) where
        go : (b : Bool) → count (is_same p) (if b then part_in ino pair ∷ [] else []) ≡ one (b && is_same p (part_in ino pair))
        go true = omega (arith, count_cons (is_same p) (part_in ino pair) [])
        go false = refl

  elsewhere : (named : List PartId) (ino : ℕ) (ps : List Pair) → ino ≢ p.ino
      → count (is_same p) (flat_map (owed_pair s named ino) ps) ≡ 0
  elsewhere named ino ps ne =
      in_pairs named ino ps
      ∙ none_numbered (is_owed s named) (λ pair. is_same p (part_in ino pair)) ps
      (λ n pair got t. ne (ap (λ (x : InodePart). x.ino) (same_is p (part_in ino pair) t)))

  before : (hands : List InodePart) (i : ℕ) (cells : List CellState) → p.ino < i → count (is_same p) (owed_from s hands i cells) ≡ 0
  before hands i [] lt = refl
  before hands i (cell ∷ cells) lt =
      omega (
        arith,
        count_append (is_same p) (owed_by s (of_inode i hands) i cell) (owed_from s hands (i + 1) cells),
        elsewhere (of_inode i hands) i (pairs cell.block (log_of cell)) (λ e. absurd (omega (arith, e, lt))),
        before hands (i + 1) cells (omega (arith, lt)),
      )

  pub owed_at : (hands : List InodePart) (k i : ℕ) (cells : List CellState) → p.ino ≡ i + k
      → count (is_same p) (owed_from s hands i cells)
      ≡ count (is_same p) (owed_by s (of_inode p.ino hands) p.ino (slice_index_or cells k no_cell))
  owed_at hands k i [] e = refl
  owed_at hands zero i (cell ∷ cells) e =
      let here : i ≡ p.ino = omega (arith, e) in
      omega (
        arith,
        count_append (is_same p) (owed_by s (of_inode i hands) i cell) (owed_from s hands (i + 1) cells),
        ap (λ (n : ℕ). count (is_same p) (owed_by s (of_inode n hands) n cell)) here,
        before hands (i + 1) cells (omega (arith, e)),
      )
  owed_at hands (suc k) i (cell ∷ cells) e =
      omega (
        arith,
        count_append (is_same p) (owed_by s (of_inode i hands) i cell) (owed_from s hands (i + 1) cells),
        elsewhere (of_inode i hands) i (pairs cell.block (log_of cell)) (λ q. absurd (omega (arith, e, q))),
        owed_at hands k (i + 1) cells (omega (arith, e)),
      )

-- ---- every world

pub swapped : (a b c : Bool) → (a && (b && c)) ≡ (b && (a && c))
swapped true true c = refl
swapped true false c = refl
swapped false true c = refl
swapped false false c = refl

pub both : (a b : Bool) → a ≡ true → b ≡ true → (a && b) ≡ true
both true b e f = f
both false b e f = e

-- what is picked is held by none that is asked
by_none : (h c k r : Bool) → (r ≡ true → h ≡ false) → (h && (c && not k)) ≡ (h && (c && not (r || k)))
by_none true c k true out = absurd (true≢false (out refl))
by_none true c k false out = refl
by_none false c k r out = refl

bit_small : (b : Bool) → bit b ≤ 1
bit_small true = omega arith
bit_small false = omega arith

module _ (g : GeometryNumbers) (start : World) (records : List Record) (events : List Event) (is_start : IsStart g start records) where
  abbrev w : World
  w = after start events

  abbrev hands : List InodePart
  hands = flat_map parts_by_actor w.actors

  module _ (s : ℕ) (lives : Contains (ids w.shared.book.snaps) s) (ino : ℕ) where
    abbrev cell : CellState
    cell = cell_at w.shared ino

    abbrev log : List Entry
    log = log_of cell

    abbrev named : List PartId
    named = of_inode ino hands

    is : IsLog log
    is = log_in g start records events ino is_start

    told : AllByRecursion (IsTold (ids w.shared.book.snaps) ino cell.block log) (recorded_in w)
    told =
        recorded_all g start records events (IsTold (ids w.shared.book.snaps) ino cell.block log) is_start
        ((all_marked g start records events is_start).cells ino).told

    out : AllByRecursion (λ d. is_held_by s d ≡ false) (picked_in w)
    out =
        all_weaker (λ d. holder_of (ids w.shared.book.snaps) d ≡ None) (λ d. is_held_by s d ≡ false)
        (λ d none. (none_passes (holders.holds d.birth d.death) (ids w.shared.book.snaps) none).fails s lives) (picked_in w)
        (all_marked g start records events is_start).unheld

    all_counted : (p : InodePart) → times p (recorded_as s w.shared.book) ≡ count (recorded s p) (recorded_in w)
    all_counted p =
        let book = w.shared.book in
        let none : count (recorded s p) (picked_in w) ≡ 0 =
        count_none (recorded s p) (picked_in w)
        (all_weaker (λ d. is_held_by s d ≡ false) (λ d. recorded s p d ≡ false)
        (λ d e. ap (λ (b : Bool). b && is_same p (inode_part d)) e) (picked_in w) out) in
        omega (
          arith,
          by_records s p book,
          count_append (recorded s p) (all_records book.manifests) (book.deferred ++ picked_in w),
          count_append (recorded s p) book.deferred (picked_in w),
          none,
        )

    owed_counted : (part : PartId) → let p : InodePart = record { ino = ino; part = part } in
        times p (owed_from s hands 0 w.shared.cells)
        ≡ count (λ pair. is_owed s named pair && is_same p (part_in ino pair)) (pairs cell.block log)
    owed_counted part =
        let p : InodePart = record { ino = ino; part = part } in
        let zeroth : ino ≡ 0 + ino = omega arith in
        sym (length-filter (is_same p) (owed_from s hands 0 w.shared.cells))
        ∙ owed_at s p hands ino 0 w.shared.cells zeroth ∙ in_pairs s p named ino (pairs cell.block log)

    -- where no pair has the name, there is no record of it, and none is owed
    module _ (part : PartId)
        (never : (n : ℕ) (pair : Pair) → slice_get (pairs cell.block log) n ≡ Some pair → pair_name pair ≡ part → ⊥) where
      abbrev absent : InodePart
      absent = record { ino = ino; part = part }

      not_recorded : (d : Record) → IsTold (ids w.shared.book.snaps) ino cell.block log d → recorded s absent d ≡ false
      not_recorded d told_d =
          no_pass (recorded s absent d) (λ t.
          let two = and_parts (is_held_by s d) (is_same absent (inode_part d)) t in
          let same : inode_part d ≡ absent = same_is absent (inode_part d) two.1 in
          let own = told_d (ap (λ (x : InodePart). x.ino) same) in
          never own.n own.pair own.is (own.name ∙ ap (λ (x : InodePart). x.part) same))

      none_at_all : times absent (recorded_as s w.shared.book) ≡ times absent (owed_from s hands 0 w.shared.cells)
      none_at_all =
          all_counted absent
          ∙ count_none (recorded s absent) (recorded_in w)
          (all_weaker (IsTold (ids w.shared.book.snaps) ino cell.block log) (λ d. recorded s absent d ≡ false) not_recorded
          (recorded_in w) told)
          ∙ sym (owed_counted part ∙ none_numbered (is_owed s named) (λ pair. is_same absent (part_in ino pair)) (pairs cell.block log)
          (λ n pair got t. never n pair got (ap (λ (x : InodePart). x.part) (same_is absent (part_in ino pair) t))))

    -- where one has it, there is a record of it where it is owed
    module _ (m : ℕ) (pair : Pair) (got : slice_get (pairs cell.block log) m ≡ Some pair) where
      abbrev own_part : InodePart
      own_part = record { ino = ino; part = pair_name pair }

      number : number_named log (pair_name pair) ≡ Some m
      number = its_number cell.block log is m pair got

      filed : (d : Record) → recorded s own_part d ≡ true → is_record_of cell ino m d ≡ true
      filed d t =
          let two = and_parts (is_held_by s d) (is_same own_part (inode_part d)) t in
          let same : inode_part d ≡ own_part = same_is own_part (inode_part d) two.1 in
          both (is_of_slot ino d) (is_number (number_named log (name_of d)) m)
          (ap (λ (x : InodePart). x.ino == ino) same ∙ self ino)
          (ap (λ (x : InodePart). is_number (number_named log x.part) m) same ∙ ap (λ (o : Option ℕ). is_number o m) number ∙ self m)

      few : count (recorded s own_part) (recorded_in w) ≤ 1
      few =
          omega (
            arith,
            count_below (recorded s own_part) (is_record_of cell ino m) (recorded_in w) filed,
            recorded_once g start records events is_start ino m,
            bit_small (is_marked_kept (mark_at cell.marks m)),
          )

      -- what is picked of the pair is held by no living snapshot
      picked_so : (d : Record) → IsTold (ids w.shared.book.snaps) ino cell.block log d → is_held_by s d ≡ false
          → in_record ino pair d ≡ true → holds s pair ≡ false
      picked_so d told_d none t =
          let two = and_parts (is_of_slot ino d) (has_name pair (name_of d)) t in
          let own = told_d (eqb-true d.ino ino two.0) in
          let place : own.n ≡ m =
          same_Some own.n m (sym (record_number (ids w.shared.book.snaps) cell.block log d is own)
          ∙ ap (number_named log) (name_is pair (name_of d) two.1) ∙ number) in
          let same : own.pair ≡ pair =
          same_Some own.pair pair (sym own.is ∙ ap (slice_get (pairs cell.block log)) place ∙ got) in
          ap (holds s) (sym same) ∙ sym (all_at (λ x. is_held_by x d ≡ holds x own.pair) (ids w.shared.book.snaps) s own.holders lives)
          ∙ none

      picked_told : AllByRecursion (IsTold (ids w.shared.book.snaps) ino cell.block log) (picked_in w)
      picked_told =
          let T : Record → Type 0 = IsTold (ids w.shared.book.snaps) ino cell.block log in
          all_back T w.shared.book.deferred (picked_in w) (all_back T (all_records w.shared.book.manifests)
          (w.shared.book.deferred ++ picked_in w) told)

      none_held : list_any (in_record ino pair) (picked_in w) ≡ true → holds s pair ≡ false
      none_held =
          any_gives (in_record ino pair) (holds s pair ≡ false) (picked_in w)
          (all_with (IsTold (ids w.shared.book.snaps) ino cell.block log) (λ d. is_held_by s d ≡ false)
          (λ d. in_record ino pair d ≡ true → holds s pair ≡ false)
          picked_so (picked_in w) picked_told out)

      owed_so : list_any (recorded s own_part) (recorded_in w) ≡ is_owed s named pair
      owed_so =
          any_same (recorded s own_part) (λ d. is_of_slot ino d && (is_held_by s d && has_name pair (name_of d)))
          (λ d. swapped (is_held_by s d) (is_of_slot ino d) (has_name pair (name_of d))) (recorded_in w)
          ∙ recorded_for g start records events s ino m pair is_start lives got
          ∙ ap (λ (b : Bool). holds s pair && (not (is_current pair) && not b))
          (any_map (λ (k : KilledPart). k.part) (has_name pair) (killed_in w ino))
          ∙ by_none (holds s pair) (not (is_current pair)) (list_any (in_killed ino pair) (killed_in w ino))
          (list_any (in_record ino pair) (picked_in w)) none_held
          ∙ ap (λ (b : Bool). holds s pair && (not (is_current pair) && not b))
          (sym (hands_so ino pair w (reached g start records events is_start).locks))

      same_own : is_same own_part (part_in ino pair) ≡ true
      same_own = both (ino == ino) (has_name pair (pair_name pair)) (self ino) (own_name pair)

      one_at_most : times own_part (recorded_as s w.shared.book) ≡ times own_part (owed_from s hands 0 w.shared.cells)
      one_at_most =
          all_counted own_part ∙ count_any (recorded s own_part) (recorded_in w) few ∙ ap one owed_so
          ∙ sym (owed_counted (pair_name pair) ∙ one_numbered (is_owed s named) (λ other. is_same own_part (part_in ino other)) m
          (pairs cell.block log) pair got same_own (λ n other at t.
          same_Some n m (sym (its_number cell.block log is n other at)
          ∙ ap (λ (x : InodePart). number_named log x.part) (same_is own_part (part_in ino other) t) ∙ number)))

    pub alike : (part : PartId) → let p : InodePart = record { ino = ino; part = part } in
        times p (recorded_as s w.shared.book) ≡ times p (owed_from s hands 0 w.shared.cells)
    alike part = go (number_named log part) refl where
      Alike : PartId → Type 0
      Alike part = let p : InodePart = record { ino = ino; part = part } in
          times p (recorded_as s w.shared.book) ≡ times p (owed_from s hands 0 w.shared.cells)

      at : (m : ℕ) → number_named log part ≡ Some m → (o : Option Pair) → slice_get (pairs cell.block log) m ≡ o → Alike part
      at m e None q =
          none_at_all part (λ n pair got name.
          let same : n ≡ m = same_Some n m (sym (its_number cell.block log is n pair got) ∙ ap (number_named log) name ∙ e) in
          let two : Some pair ≡ None = sym got ∙ ap (slice_get (pairs cell.block log)) same ∙ q in
          cc)
      at m e (Some pair) q =
          subst Alike (sym (its_name cell.block log is m pair q part e)) (one_at_most m pair q)

      go : (o : Option ℕ) → number_named log part ≡ o → Alike part
      go None e =
          none_at_all part (λ n pair got name.
          let two : Some n ≡ None = sym (its_number cell.block log is n pair got) ∙ ap (number_named log) name ∙ e in
          cc)
      go (Some m) e = at m e (slice_get (pairs cell.block log) m) refl
