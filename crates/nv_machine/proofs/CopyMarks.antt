-- What marks tell of an earlier epoch's log: the parts that it has and has not covered are there, and none
-- of them goes out next.
use Rattle.std.proofs.Common.{◌≡◌, ℕ, zero, suc, ◌+◌, ◌<◌, ◌≤◌, ◌++◌, ◌∙◌, ap₂, true, false, List, [], ◌∷◌, drop, length, Option, Some, None, IsSome, ap, arith, refl, subst, sym, take}
use Rattle.std.specs.List.{AllByRecursion, Contains, flat_map}
use Rattle.std.specs.Option.{option_map}
use Rattle.std.specs.Prelude.{slice_get, slice_index_or, unwrap_or}
use Rattle.std.proofs.lemmas.Bool.{and_from, le-leb, lt-ltb, true≢false}
use Rattle.std.proofs.lemmas.List.{get_or_default, take-append-drop}
use Rattle.nv_base.specs.declared.geometry.GeometryNumbers.{GeometryNumbers}
use Rattle.nv_book.specs.Records.{holder_of, is_held_by}
use Rattle.nv_book.specs.declared.record.Record.{Record}
use Rattle.nv_calls.specs.Retiring.{name_of}
use Rattle.nv_cell.specs.Cell.{CellState, log_of, mark_or_fresh, number_in}
use Rattle.nv_cell.specs.Killed.{part_of_pair}
use Rattle.nv_cell.specs.Marks.{is_there, mark_at}
use Rattle.nv_cell.specs.Numbers.{killed_part}
use Rattle.nv_cell.specs.declared.killed.KilledPart.{KilledPart}
use Rattle.nv_cell.specs.declared.mark.Mark.{Mark}
use Rattle.nv_cell.specs.declared.mark.Mark.TheVariants.{Current, Out}
use Rattle.nv_cell.proofs.NamedParts.{are_pairs}
use Rattle.nv_cell.proofs.Numbers.{total_append}
use Rattle.nv_cell.proofs.Publishing.{take_whole}
use Rattle.nv_cell.proofs.ValuesNow.{IsLog-take}
use Rattle.nv_entry.specs.Covered.{is_covered, part_total}
use Rattle.nv_entry.specs.Held.{holds, is_before_death}
use Rattle.nv_entry.specs.Later.{AreAfter}
use Rattle.nv_entry.specs.Log.{IsLog, pairs, up_to}
use Rattle.nv_entry.specs.declared.held.Pair.{Pair}
use Rattle.nv_entry.specs.declared.item.Entry.{Entry}
use Rattle.nv_entry.specs.declared.part.PartId.{PartId}
use Rattle.nv_entry.proofs.Later.{up_to-append}
use Rattle.nv_epoch.specs.Holders as holders
use Rattle.nv_epoch.specs.SnapList.{ids}
use Rattle.nv_epoch.proofs.Last.{none_passes}
use Rattle.nv_machine.specs.Grown.{HasGrown, HasGrownBy}
use Rattle.nv_machine.specs.Hands.{HandAt, HandOf}
use Rattle.nv_machine.specs.Held.{killed_by_actor, killed_by_call, killed_in, killed_slots, parts_for, picked_at, picked_by_actor, picked_by_call}
use Rattle.nv_machine.specs.Kinds.{first_killed}
use Rattle.nv_machine.specs.Reads.{slot_at, written_slots}
use Rattle.nv_machine.specs.Starts.{IsStart}
use Rattle.nv_machine.specs.Step.{after}
use Rattle.nv_machine.specs.World.{Actor, Draining, Event, Next, Release, Retire, Running, SnapshotOrCleaner, World, actor_at, cell_at, idle}
use Rattle.nv_machine.proofs.EveryWorld.{all_known}
use Rattle.nv_machine.proofs.CopyRuns.{HaveMarks, earlier}
use Rattle.nv_machine.proofs.CopySteps.{GoesOut}
use Rattle.nv_machine.proofs.EpochLogs.{IsHeldAt, born_by, log_at, splits, up_to_within}
use Rattle.nv_machine.proofs.EpochSteps.{AreParts, spans}
use Rattle.nv_machine.proofs.OverEvents.{runs_inside}
use Rattle.nv_machine.proofs.EachElement.{all_at, all_back, all_front}
use Rattle.nv_machine.proofs.FiledMarks.{IsDying, IsTold}
use Rattle.nv_machine.proofs.FiledSteps.{AreFresh, MarksOf}
use Rattle.nv_machine.proofs.FiledWorlds.{AreMarked, picked_in}
use Rattle.nv_machine.proofs.FitsEvents.{IsKnown}
use Rattle.nv_machine.proofs.LocksHeld.{Before, lent_cell}
use Rattle.nv_machine.proofs.LocksOverEvents.{before}
use Rattle.nv_machine.proofs.Pairs.{has_number, IsRecordOf, pair_there, record_number}
use Rattle.nv_machine.proofs.PartsFor.{first_for, slots_from}
use Rattle.nv_machine.proofs.SnapRuns.{in_step}
use Rattle.nv_machine.proofs.SnapshotCopies.{AreBefore}

-- ---- lists

all_of : {X : Type 0} (P : X → Type 0) (f : Actor → List X) (xs : List Actor) (a : ℕ) → a < length xs
    → AllByRecursion P (flat_map f xs) → AllByRecursion P (f (slice_index_or xs a idle))
all_of P f [] a lt all = absurd (omega (arith, lt))
all_of P f (x ∷ xs) zero lt all = all_front P (f x) (flat_map f xs) all
all_of P f (x ∷ xs) (suc a) lt all = all_of P f xs a (omega (arith, lt)) (all_back P (f x) (flat_map f xs) all)

-- ---- an epoch's log is a front of the published one

after_fresh : (epoch now : ℕ) (es : List Entry) → epoch < now → AllByRecursion (λ (e : Entry). e.epoch ≡ now) es → AreAfter epoch es
after_fresh epoch now [] lt all = tt
after_fresh epoch now (e ∷ es) lt all = (let same = all.0 in omega (arith, lt, same), after_fresh epoch now es lt all.1)

pub log_same : (epoch now : ℕ) (cell : CellState) → epoch < now → AreFresh now cell → log_at epoch cell ≡ up_to epoch (log_of cell)
log_same epoch now cell lt fresh =
    let es = cell.chain.entries in
    let tail = cell.chain.tail in
    ap (up_to epoch) (sym (take-append-drop tail es))
    ∙ up_to-append epoch (take tail es) (drop tail es) (after_fresh epoch now (drop tail es) lt fresh)

-- ---- what marks tell

mark_in : (marks : List Mark) (n : ℕ) → n < length marks → mark_or_fresh marks n ≡ mark_at marks n
mark_in marks n lt = get_or_default marks n Current Out lt

module _ (epoch block : ℕ) (log : List Entry) (is : IsLog log) (n : ℕ) (low : n < part_total (up_to epoch log))
    (unc : is_covered block (up_to epoch log) n ≡ false) (pair : Pair) (got : slice_get (pairs block log) n ≡ Some pair) where
  abbrev rest : List Entry
  rest = (splits epoch log is).rest

  whole_is : up_to epoch log ++ rest ≡ log
  whole_is = (splits epoch log is).is

  born : pair.birth ≤ epoch
  born = born_by epoch (up_to epoch log) rest n (part_of_pair pair) (up_to_within epoch log) low
      (ap (λ (l : List Entry). killed_part l n) whole_is ∙ are_pairs block log n ∙ ap (option_map part_of_pair) got)

  dies_later : (death : ℕ) → pair.death ≡ Some death → epoch < death
  dies_later death dead =
      (spans block epoch (up_to epoch log) rest n death pair (up_to_within epoch log) (splits epoch log is).later low unc
      (ap (λ (l : List Entry). slice_get (pairs block l) n) whole_is ∙ got) dead).1

  pub lives_then : holds epoch pair ≡ true
  lives_then = and_from _ (is_before_death epoch pair.death) (le-leb pair.birth epoch born) (go pair.death refl) where
    go : (o : Option ℕ) → pair.death ≡ o → is_before_death epoch o ≡ true
    go None q = refl
    go (Some death) q = lt-ltb epoch death (dies_later death q)

module _ (living : List ℕ) (ino now : ℕ) (killed : List KilledPart) (records : List Record) (cell : CellState)
    (marks : MarksOf living ino now killed records cell) (fresh : AreFresh now cell) (is : IsLog cell.chain.entries)
    (epoch : ℕ) (lives : Contains living epoch) (lt : epoch < now) where
  log_is : IsLog (log_of cell)
  log_is = IsLog-take cell.chain.tail cell.chain.entries is

  same : log_at epoch cell ≡ up_to epoch (log_of cell)
  same = log_same epoch now cell lt fresh

  marks_hold : IsHeldAt epoch cell
  marks_hold n low unc = go (mark_at cell.marks n) refl where
    low_then : n < part_total (up_to epoch (log_of cell))
    low_then = subst (λ (l : List Entry). n < part_total l) same low

    unc_then : is_covered cell.block (up_to epoch (log_of cell)) n ≡ false
    unc_then = subst (λ (l : List Entry). is_covered cell.block l n ≡ false) same unc

    within : n < part_total (log_of cell)
    within =
        let s = splits epoch (log_of cell) log_is in
        omega (arith, low_then, ap part_total (sym s.is), total_append (up_to epoch (log_of cell)) s.rest)

    here : mark_or_fresh cell.marks n ≡ mark_at cell.marks n
    here = mark_in cell.marks n (omega (arith, within, marks.len))

    out_never : mark_at cell.marks n ≡ Out → (o : Option Pair) → slice_get (pairs cell.block (log_of cell)) n ≡ o → ⊥
    out_never out None got =
        none_some (subst IsSome got (pair_there cell.block (log_of cell) n log_is within)) where
          none_some : IsSome {T = Pair} None → ⊥
          none_some e = cc
    out_never out (Some pair) got =
        true≢false (sym (lives_then epoch cell.block (log_of cell) log_is n low_then unc_then pair got)
        ∙ all_at (λ s. holds s pair ≡ false) living epoch (marks.out n pair got out) lives)

    go : (m : Mark) → mark_at cell.marks n ≡ m → is_there (mark_or_fresh cell.marks n) ≡ true
    go Out e = absurd (out_never e (slice_get (pairs cell.block (log_of cell)) n) refl)
    go other e = ap is_there (here ∙ e)

  -- a part that has died and that no living snapshot holds
  no_longer : (d : Record) → IsRecordOf living cell.block (log_of cell) d → holder_of living d ≡ None
      → number_in cell (name_of d) < part_total (log_at epoch cell)
      → is_covered cell.block (log_at epoch cell) (number_in cell (name_of d)) ≡ false → ⊥
  no_longer d pair none low unc =
      let number : number_in cell (name_of d) ≡ pair.n =
      ap (λ (o : Option ℕ). unwrap_or o 0) (record_number living cell.block (log_of cell) d log_is pair) in
      let low_then : pair.n < part_total (up_to epoch (log_of cell)) =
      subst (λ (l : List Entry). pair.n < part_total l) same (omega (arith, low, number)) in
      let unc_then : is_covered cell.block (up_to epoch (log_of cell)) pair.n ≡ false =
      subst (λ (l : List Entry). is_covered cell.block l pair.n ≡ false) same
      (ap (is_covered cell.block (log_at epoch cell)) (sym number) ∙ unc) in
      true≢false (sym (lives_then epoch cell.block (log_of cell) log_is pair.n low_then unc_then pair.pair pair.is)
      ∙ sym (all_at (λ s. is_held_by s d ≡ holds s pair.pair) living epoch pair.holders lives)
      ∙ (none_passes (holders.holds d.birth d.death) living none).fails epoch lives)

-- the killed parts of a log that has none past its tail
parts_are : (now : ℕ) (cell : CellState) (parts : List KilledPart) → IsLog cell.chain.entries → cell.chain.tail ≡ length cell.chain.entries
    → AllByRecursion (IsDying now cell.block (log_of cell)) parts → AreParts cell parts
parts_are now cell [] is tail all = tt
parts_are now cell (k ∷ parts) is tail all = (one all.0, parts_are now cell parts is tail all.1) where
  es : List Entry
  es = cell.chain.entries

  log_whole : log_of cell ≡ es
  log_whole = ap (λ (n : ℕ). take n es) tail ∙ take_whole es

  one : IsDying now cell.block (log_of cell) k → killed_part es (number_in cell k.part) ≡ Some k
  one h =
      ap (killed_part es) (ap (λ (o : Option ℕ). unwrap_or o 0)
      (has_number cell.block (log_of cell) k.part k.birth now (IsLog-take cell.chain.tail es is) h))
      ∙ ap (λ (l : List Entry). killed_part l h.n) (sym log_whole)
      ∙ are_pairs cell.block (log_of cell) h.n ∙ ap (option_map part_of_pair) h.is
      ∙ ap₂ (λ (p : PartId) (b : ℕ). let u : KilledPart = record { part = p; birth = b } in Some u) h.name h.birth_is

-- ---- a world

module _ (g : GeometryNumbers) (w : World) (known : IsKnown g w) (are : AreBefore w.shared.book.snaps) where
  abbrev rs : List Record
  rs = known.rs

  abbrev m : AreMarked w known.rs
  m = known.marked

  abbrev now : ℕ
  now = w.shared.book.snaps.epoch

  -- the parts that a retire step takes up
  retired_parts : (actor place : ℕ) (r : Running) → (actor_at w actor).running ≡ Some r → r.next ≡ Retire place
      → AreParts (cell_at w.shared (slot_at (written_slots r) place)) (first_killed (actor_at w actor).hand.killed)
  retired_parts actor place r is next =
      let s = w.shared in
      let h = (actor_at w actor).hand in
      let written = written_slots r in
      let slot = slot_at written place in
      let cell = cell_at s slot in
      let b : Before actor s (Retire place) r = subst (λ (n : Next). Before actor s n r) next (before w actor r known.reached.locks is) in
      let inside : place < length written = b.inside in
      let hand : HandOf g h (Some r) = subst (λ (o : Option Running). HandOf g h o) is (known.numbers.hands actor) in
      let many : length h.killed + place ≡ length written = subst (λ (n : Next). HandAt g n h r) next hand.0 in
      let by : HasGrownBy (Some r) s actor = subst (λ (o : Option Running). HasGrownBy o s actor) is (known.reached.grown.each actor) in
      let grown : HasGrown (Retire place) s actor r = subst (λ (n : Next). HasGrown n s actor r) next by in
      let tail = grown.tails slot (lent_cell (Retire place) (length s.lists) actor s r b slot refl) refl in
      let same : killed_by_actor slot (actor_at w actor) ≡ first_killed h.killed =
      ap (λ (o : Option Running). killed_by_call o h slot) is
      ∙ ap (λ (n : Next). parts_for (killed_slots n written) h.killed slot) next
      ∙ ap (λ (l : List ℕ). parts_for l h.killed slot) (slots_from place written inside)
      ∙ first_for slot (drop (place + 1) written) h.killed (omega (arith, many, inside)) in
      parts_are now cell (first_killed h.killed) (known.reached.order.logs slot).ordered tail
      (subst (AllByRecursion (IsDying now cell.block (log_of cell))) same
      (all_of (IsDying now cell.block (log_of cell)) (killed_by_actor slot) w.actors actor (runs_inside w actor r is) (m.cells slot).dying))

  module _ (epoch : ℕ) (lives : Contains (ids w.shared.book.snaps) epoch) where
    lt : epoch < now
    lt = earlier w epoch are lives

    released_part : (actor : ℕ) (r : Running) (draining : Draining) (d : Record) → (actor_at w actor).running ≡ Some r
        → r.next ≡ SnapshotOrCleaner (Release draining d)
        → GoesOut epoch (SnapshotOrCleaner (Release draining d)) w.shared (actor_at w actor).hand r
    released_part actor r draining d is next =
        let cell = cell_at w.shared d.ino in
        let its : picked_by_actor (actor_at w actor) ≡ d ∷ [] = ap picked_by_call is ∙ ap picked_at next in
        let told = subst (AllByRecursion (IsTold (ids w.shared.book.snaps) d.ino cell.block (log_of cell))) its
        (all_of (IsTold (ids w.shared.book.snaps) d.ino cell.block (log_of cell)) picked_by_actor w.actors actor (runs_inside w actor r is)
        (all_back (IsTold (ids w.shared.book.snaps) d.ino cell.block (log_of cell)) rs (picked_in w) (m.cells d.ino).told)) in
        let none = subst (AllByRecursion (λ x. holder_of (ids w.shared.book.snaps) x ≡ None)) its
        (all_of (λ x. holder_of (ids w.shared.book.snaps) x ≡ None) picked_by_actor w.actors actor (runs_inside w actor r is) m.unheld) in
        no_longer (ids w.shared.book.snaps) d.ino now (killed_in w d.ino) (rs ++ picked_in w) cell (m.cells d.ino) (m.fresh d.ino)
        (known.reached.order.logs d.ino).ordered epoch lives lt d (told.0 refl) none.0

    goes_at : (actor : ℕ) (r : Running) → (actor_at w actor).running ≡ Some r → (k : Next) → r.next ≡ k
        → GoesOut epoch k w.shared (actor_at w actor).hand r
    goes_at actor r is (Retire place) next = retired_parts actor place r is next
    goes_at actor r is (SnapshotOrCleaner (Release draining d)) next = released_part actor r draining d is next
    goes_at actor r is k next = tt

    held_at : (ino : ℕ) → IsHeldAt epoch (cell_at w.shared ino)
    held_at ino =
        marks_hold (ids w.shared.book.snaps) ino now (killed_in w ino) (rs ++ picked_in w) (cell_at w.shared ino) (m.cells ino)
        (m.fresh ino) (known.reached.order.logs ino).ordered epoch lives lt

  pub have_marks : HaveMarks w
  have_marks = record {
    held = λ epoch ino lives. held_at epoch lives ino;
    goes = λ epoch actor r lives is. goes_at epoch lives actor r is r.next refl;
  }

pub all_have_marks : (g : GeometryNumbers) (start : World) (records : List Record) → IsStart g start records
    → (events : List Event) → HaveMarks (after start events)
all_have_marks g start records is_start events =
    have_marks g (after start events) (all_known g start records is_start events) (in_step g start records events is_start).before
