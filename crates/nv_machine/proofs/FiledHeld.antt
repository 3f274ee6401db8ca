-- What records tell a living snapshot to hold is what it holds by the logs, less what is current and what is killed.
use Rattle.nv_machine.specs.Starts.{IsStart}
use Rattle.nv_machine.specs.World.{World, Event, cell_at}
use Rattle.std.proofs.Common.{◌≡◌, ℕ, ◌&&◌, ◌∙◌, Bool, true, false, not, List, [], ◌∷◌, Some, ap, map, refl, slice_get, sym}
use Rattle.std.specs.Prelude.{◌||◌}
use Rattle.std.specs.List.{AllByRecursion, Contains, list_any}
use Rattle.std.proofs.lemmas.Bool.{eqb-true}
use Rattle.std.proofs.lemmas.Option.{same_Some}
use Rattle.nv_base.specs.declared.geometry.GeometryNumbers.{GeometryNumbers}
use Rattle.nv_book.specs.Records.{is_held_by}
use Rattle.nv_book.specs.declared.record.Record.{Record}
use Rattle.nv_calls.specs.Retiring.{name_of}
use Rattle.nv_cell.specs.Cell.{CellState, log_of}
use Rattle.nv_cell.specs.Marks as marks
use Rattle.nv_cell.specs.Marks.{bit, is_killed, mark_at}
use Rattle.nv_cell.specs.Named.{number_named}
use Rattle.nv_cell.specs.Numbers.{is_number}
use Rattle.nv_cell.specs.declared.killed.KilledPart.{KilledPart}
use Rattle.nv_cell.specs.declared.mark.Mark.{Mark}
use Rattle.nv_cell.specs.declared.mark.Mark.TheVariants.{Current, Kept, Killed, Out}
use Rattle.nv_entry.specs.Held.{has_name, holds, is_current}
use Rattle.nv_entry.specs.Log.{IsLog, pairs}
use Rattle.nv_entry.specs.declared.held.Pair.{Pair}
use Rattle.nv_entry.specs.declared.item.Entry.{Entry}
use Rattle.nv_entry.proofs.Currents.{any_map, any_same}
use Rattle.nv_epoch.specs.SnapList.{ids}
use Rattle.nv_machine.specs.Held.{is_of_slot, killed_in}
use Rattle.nv_machine.specs.Recorded.{is_marked_kept, is_killed_pair, is_recorded_for, recorded_in}
use Rattle.nv_machine.specs.Step.{after}
use Rattle.nv_machine.proofs.EveryWorld.{all_marked}
use Rattle.nv_machine.proofs.WorldFacts.{log_in, recorded_all, recorded_once}
use Rattle.nv_machine.proofs.EachElement.{all_at, all_weaker}
use Rattle.nv_machine.proofs.FiledLists.{count}
use Rattle.nv_machine.proofs.FiledMarks.{AreMarks, IsTold, is_filed_on, is_killed_on, pair_low}
use Rattle.nv_machine.proofs.MarksInUse.{any_of}
use Rattle.nv_cell.proofs.NamedPairs.{current_is, number_is}
use Rattle.nv_machine.proofs.Pairs.{named_same, record_number}

-- ---- whether any of a list passes a test

pub any_and : {X : Type 0} (p : X → Bool) (c : Bool) (xs : List X) → list_any (λ x. p x && c) xs ≡ (list_any p xs && c)
any_and p c [] = refl
any_and p c (x ∷ xs) = rw (any_and p c xs) (go (p x) (list_any p xs) c) where
  go : (a b c : Bool) → ((a && c) || (b && c)) ≡ ((a || b) && c)
  go true true true = refl
  go true false true = refl
  go true true false = refl
  go true false false = refl
  go false b c = refl

pub any_told : {X : Type 0} (p q : X → Bool) (xs : List X) → AllByRecursion (λ x. p x ≡ q x) xs → list_any p xs ≡ list_any q xs
any_told p q [] h = refl
any_told p q (x ∷ xs) h = rw (h.0, any_told p q xs h.1) refl

-- ---- a pair of a slot

module _ (living : List ℕ) (ino epoch : ℕ) (killed : List KilledPart) (rs : List Record) (block : ℕ) (log : List Entry) (ms : List Mark)
    (is : IsLog log) (h : AreMarks living ino epoch killed rs block log ms) (n : ℕ) (pair : Pair)
    (got : slice_get (pairs block log) n ≡ Some pair) where
  current_so : is_current pair ≡ marks.is_current (mark_at ms n)
  current_so = current_is block log is n pair got ∙ sym (h.current n (pair_low block log n pair got))

  killed_so : list_any (has_name pair) (map (λ (k : KilledPart). k.part) killed) ≡ is_killed (mark_at ms n)
  killed_so =
      any_map (λ (k : KilledPart). k.part) (has_name pair) killed
      ∙ any_same (λ (k : KilledPart). has_name pair k.part) (is_killed_on log n) (λ k. named_same block log is n pair got k.part) killed
      ∙ any_of (is_killed_on log n) killed (is_killed (mark_at ms n)) (h.killed_are n)

  -- a record of the pair is held by a snapshot where the pair is
  held_so : (snapshot : ℕ) → Contains living snapshot → (d : Record) → IsTold living ino block log d
      → (is_of_slot ino d && (is_held_by snapshot d && has_name pair (name_of d))) ≡ (is_filed_on ino log n d && holds snapshot pair)
  held_so snapshot lives d told =
      rw (named_same block log is n pair got (name_of d)) (go (is_of_slot ino d) refl (is_number (number_named log (name_of d)) n)
      refl) where
        off : (c : Bool) → (c && false) ≡ false
        off true = refl
        off false = refl

        on : (c : Bool) → (c && true) ≡ c
        on true = refl
        on false = refl

        go : (a : Bool) → is_of_slot ino d ≡ a → (b : Bool) → is_number (number_named log (name_of d)) n ≡ b
            → (a && (is_held_by snapshot d && b)) ≡ ((a && b) && holds snapshot pair)
        go false e b f = refl
        go true e false f = off (is_held_by snapshot d)
        go true e true f =
            let own = told (eqb-true d.ino ino e) in
            let number : own.n ≡ n =
            same_Some own.n n (sym (record_number living block log d is own) ∙ number_is (number_named log (name_of d))
            n f) in
            let same : own.pair ≡ pair = same_Some own.pair pair (sym own.is ∙ ap (slice_get (pairs block log)) number ∙ got) in
            on (is_held_by snapshot d) ∙ all_at (λ s. is_held_by s d ≡ holds s own.pair) living snapshot own.holders lives
            ∙ ap (holds snapshot) same

  pub held_told : (snapshot : ℕ) (recorded : List Record) → AllByRecursion (IsTold living ino block log) recorded
      → count (is_filed_on ino log n) recorded ≡ bit (is_marked_kept (mark_at ms n)) → Contains living snapshot
      → list_any (λ d. is_of_slot ino d && (is_held_by snapshot d && has_name pair (name_of d))) recorded
      ≡ (holds snapshot pair && (not (is_current pair) && not (list_any (has_name pair) (map (λ (k : KilledPart). k.part) killed))))
  held_told snapshot recorded told once lives =
      any_told (λ d. is_of_slot ino d && (is_held_by snapshot d && has_name pair (name_of d)))
      (λ d. is_filed_on ino log n d && holds snapshot pair) recorded
      (all_weaker (IsTold living ino block log)
      (λ d. (is_of_slot ino d && (is_held_by snapshot d && has_name pair (name_of d))) ≡ (is_filed_on ino log n d && holds snapshot pair))
      (held_so snapshot lives) recorded told)
      ∙ any_and (is_filed_on ino log n) (holds snapshot pair) recorded
      ∙ ap (λ (b : Bool). b && holds snapshot pair) (any_of (is_filed_on ino log n) recorded (is_marked_kept (mark_at ms n)) once)
      ∙ by_mark (mark_at ms n) (holds snapshot pair)
      (λ out. all_at (λ s. holds s pair ≡ false) living snapshot (h.out n pair got out) lives)
      ∙ rw (current_so, killed_so) refl where
        by_mark : (m : Mark) (c : Bool) → (m ≡ Out → c ≡ false)
            → (is_marked_kept m && c) ≡ (c && (not (marks.is_current m) && not (is_killed m)))
        by_mark Current true out = refl
        by_mark Current false out = refl
        by_mark Killed true out = refl
        by_mark Killed false out = refl
        by_mark Kept true out = refl
        by_mark Kept false out = refl
        by_mark Out true out = sym (out refl)
        by_mark Out false out = refl

-- ---- the law

pub recorded_for : (g : GeometryNumbers) (start : World) (records : List Record) (events : List Event) (snapshot ino n : ℕ)
    (pair : Pair) → IsStart g start records
    → Contains (ids (after start events).shared.book.snaps) snapshot
    → slice_get (pairs (cell_at (after start events).shared ino).block
    (log_of (cell_at (after start events).shared ino))) n ≡ Some pair
    → is_recorded_for snapshot (after start events) ino pair
    ≡ (holds snapshot pair && (not (is_current pair) && not (is_killed_pair (after start events) ino pair)))
recorded_for g start records events snapshot ino n pair is_start lives got =
    let w = after start events in
    let cell : CellState = cell_at w.shared ino in
    let m = (all_marked g start records events is_start).cells ino in
    let log : IsLog (log_of cell) = log_in g start records events ino is_start in
    held_told (ids w.shared.book.snaps) ino w.shared.book.snaps.epoch (killed_in w ino) _ cell.block (log_of cell) cell.marks log m n
    pair got
    snapshot (recorded_in w)
    (recorded_all g start records events (IsTold (ids w.shared.book.snaps) ino cell.block (log_of cell)) is_start m.told)
    (recorded_once g start records events is_start ino n) lives
