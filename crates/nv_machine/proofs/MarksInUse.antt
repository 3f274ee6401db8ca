-- A part is there, by its mark, exactly where its pair is needed, pending or killed: in every world that has its records and
-- marks.
use Rattle.std.proofs.Common.{◌≡◌, ℕ, zero, suc, ◌+◌, ◌<◌, ◌&&◌, ◌||◌, ◌++◌, ◌∙◌, Bool, true, false, cond, List, [], ◌∷◌, Some, ap, arith, filter, length, map, refl, slice_get, slice_index_or, sym}
use Rattle.std.specs.List.{AllByRecursion, Contains, list_any}
use Rattle.std.proofs.lemmas.Bool.{and_parts, eqb-true, false≢true}
use Rattle.std.proofs.lemmas.List.Folds.{list_any-append}
use Rattle.std.proofs.lemmas.Option.{same_Some}
use Rattle.nv_book.specs.Listed.{all_records}
use Rattle.nv_book.specs.Records.{is_held_by}
use Rattle.nv_book.specs.declared.record.Record.{Record}
use Rattle.nv_calls.specs.Retiring.{name_of}
use Rattle.nv_cell.specs.Cell.{CellState, log_of}
use Rattle.nv_cell.specs.Marks as marks
use Rattle.nv_cell.specs.Marks.{bit, is_killed, is_there, mark_at}
use Rattle.nv_cell.specs.Named.{number_named}
use Rattle.nv_cell.specs.Numbers.{is_number}
use Rattle.nv_cell.specs.Retained.{AreMarksOf}
use Rattle.nv_cell.specs.declared.killed.KilledPart.{KilledPart}
use Rattle.nv_cell.specs.declared.mark.Mark.{Mark}
use Rattle.nv_cell.specs.declared.mark.Mark.TheVariants.{Current, Kept, Killed, Out}
use Rattle.nv_entry.specs.Held.{has_name, holds, is_current, is_held, keeps}
use Rattle.nv_entry.specs.Log.{IsLog, pairs}
use Rattle.nv_entry.specs.declared.held.Pair.{Pair}
use Rattle.nv_entry.specs.declared.item.Entry.{Entry}
use Rattle.nv_entry.proofs.Currents.{any_map, any_same}
use Rattle.nv_epoch.specs.Holders as holders
use Rattle.nv_epoch.specs.SnapList.{ids}
use Rattle.nv_epoch.proofs.Last.{last_passes}
use Rattle.nv_machine.specs.Held.{is_of_slot, killed_in, pending_in, retention_at}
use Rattle.nv_machine.specs.Recorded.{AreRecordedOnce, is_marked_kept, recorded_in}
use Rattle.nv_machine.specs.World.{World, cell_at}
use Rattle.nv_machine.proofs.EachElement.{all_append, all_at, all_back, all_front, all_with}
use Rattle.nv_machine.proofs.FiledLists.{HasHolder, all_filed, count, count_append, count_cons, count_filed, held_filed, one}
use Rattle.nv_machine.proofs.FiledMarks.{AreMarks, IsTold, is_filed_on, is_killed_on, pair_low}
use Rattle.nv_cell.proofs.NamedPairs.{current_is, number_is}
use Rattle.nv_machine.proofs.Pairs.{named_same, record_number}
use Rattle.nv_machine.proofs.FiledTurns.{Listed}
use Rattle.nv_machine.proofs.FiledWorlds.{AreMarked, picked_in}

pub any_of : {X : Type 0} (p : X → Bool) (xs : List X) (b : Bool) → count p xs ≡ bit b → list_any p xs ≡ b
any_of p [] true e = absurd (omega (arith, e))
any_of p [] false e = refl
any_of {X} p (x ∷ xs) b e = go (p x) b (count_cons p x xs) e (any_of p xs) where
  go : (c b : Bool) → count p (x ∷ xs) ≡ one c + count p xs → count p (x ∷ xs) ≡ bit b
      → ((b : Bool) → count p xs ≡ bit b → list_any p xs ≡ b) → (c || list_any p xs) ≡ b
  go true true f k more = refl
  go true false f k more = absurd (omega (arith, f, k))
  go false b f k more = more b (omega (arith, f, k))

-- ---- whether any of a list passes a test

pub any_filter : {X : Type 0} (f g : X → Bool) (xs : List X) → list_any f (filter g xs) ≡ list_any (λ x. g x && f x) xs
any_filter f g [] = refl
any_filter f g (x ∷ xs) = go (g x) (any_filter f g xs) where
  go : (b : Bool) → list_any f (filter g xs) ≡ list_any (λ x. g x && f x) xs
      → list_any f (cond b (x ∷ filter g xs) (filter g xs)) ≡ ((b && f x) || list_any (λ x. g x && f x) xs)
  go true e = ap (λ (b : Bool). f x || b) e
  go false e = e

pub any_none : {X : Type 0} (f : X → Bool) (xs : List X) → AllByRecursion (λ x. f x ≡ false) xs → list_any f xs ≡ false
any_none f [] h = refl
any_none f (x ∷ xs) h = rw (h.0, any_none f xs h.1) refl

pub any_gives : {X : Type 0} (f : X → Bool) (claim : Type 0) (xs : List X) → AllByRecursion (λ x. f x ≡ true → claim) xs
    → list_any f xs ≡ true → claim
any_gives f claim [] h e = absurd (false≢true e)
any_gives f claim (x ∷ xs) h e = go (f x) refl e (any_gives f claim xs h.1) where
  go : (b : Bool) → f x ≡ b → (b || list_any f xs) ≡ true → (list_any f xs ≡ true → claim) → claim
  go true q e more = h.0 q
  go false q e more = more e

any_there : (f : ℕ → Bool) (xs : List ℕ) (t : ℕ) → Contains xs t → f t ≡ true → list_any f xs ≡ true
any_there f [] t there e = absurd (let lt = there.1 in omega (arith, lt))
any_there f (x ∷ xs) t (zero, lt, at) e = let same : f x ≡ true = ap f at ∙ e in rw same refl
any_there f (x ∷ xs) t (suc k, lt, at) e = or_true (f x) (any_there f xs t (k, omega (arith, lt), at) e) where
  or_true : (b : Bool) {c : Bool} → c ≡ true → (b || c) ≡ true
  or_true true q = refl
  or_true false q = q

-- ---- by its mark a part is current, held, pending or killed, or none of these

by_mark : (m : Mark) (current held pending killed filed : Bool) → current ≡ marks.is_current m → killed ≡ is_killed m
    → (filed || pending) ≡ is_marked_kept m → (filed ≡ true → held ≡ true) → (m ≡ Out → held ≡ false)
    → ((current || held) || (pending || killed)) ≡ is_there m
by_mark Current current held pending killed filed a k f t o = rw a refl
by_mark Killed current held pending killed filed a k f t o = rw (a, k) (go held pending) where
  go : (b c : Bool) → (b || (c || true)) ≡ true
  go true c = refl
  go false true = refl
  go false false = refl
by_mark Kept current held pending killed true a k f t o = rw (a, t refl) refl
by_mark Kept current held pending killed false a k f t o = rw (a, f) (go held) where
  go : (b : Bool) → (b || true) ≡ true
  go true = refl
  go false = refl
by_mark Out current held pending killed true a k f t o = absurd (false≢true (sym f))
by_mark Out current held pending killed false a k f t o = rw (a, k, f, o refl) refl

module _ (living : List ℕ) (ino epoch : ℕ) (killed : List KilledPart) (rs : List Record) (block : ℕ) (log : List Entry) (ms : List Mark)
    (is : IsLog log) (h : AreMarks living ino epoch killed rs block log ms) (n : ℕ) (pair : Pair)
    (got : slice_get (pairs block log) n ≡ Some pair) (filed pending : List Record)
    (told : AllByRecursion (IsTold living ino block log) filed) (held_by : AllByRecursion (HasHolder living) filed)
    (once : count (is_filed_on ino log n) (filed ++ pending) ≡ bit (is_marked_kept (mark_at ms n))) where
  abbrev test : Record → Bool
  test d = is_filed_on ino log n d

  killed_so : list_any (has_name pair) (map (λ (k : KilledPart). k.part) killed) ≡ is_killed (mark_at ms n)
  killed_so =
      any_map (λ (k : KilledPart). k.part) (has_name pair) killed
      ∙ any_same (λ (k : KilledPart). has_name pair k.part) (is_killed_on log n) (λ k. named_same block log is n pair got k.part) killed
      ∙ any_of (is_killed_on log n) killed (is_killed (mark_at ms n)) (h.killed_are n)

  pending_so : list_any (has_name pair) (map name_of (filter (is_of_slot ino) pending)) ≡ list_any test pending
  pending_so =
      any_map name_of (has_name pair) (filter (is_of_slot ino) pending)
      ∙ any_filter (λ d. has_name pair (name_of d)) (is_of_slot ino) pending
      ∙ any_same (λ d. is_of_slot ino d && has_name pair (name_of d)) test
      (λ d. ap (λ (b : Bool). is_of_slot ino d && b) (named_same block log is n pair got (name_of d))) pending

  -- a record of the pair in a manifest is held by a living snapshot, and so is the pair
  held_so : (d : Record) → IsTold living ino block log d → HasHolder living d → test d ≡ true → is_held living pair ≡ true
  held_so d told_d holder e =
      let both = and_parts (is_of_slot ino d) (is_number (number_named log (name_of d)) n) e in
      let own = told_d (eqb-true d.ino ino both.0) in
      let number : own.n ≡ n =
      same_Some own.n n (sym (record_number living block log d is own)
      ∙ number_is (number_named log (name_of d)) n both.1) in
      let same : own.pair ≡ pair = same_Some own.pair pair (sym own.is ∙ ap (slice_get (pairs block log)) number ∙ got) in
      let at = last_passes (holders.holds d.birth d.death) living holder.snapshot holder.is in
      let it : holds holder.snapshot pair ≡ is_held_by holder.snapshot d =
      ap (holds holder.snapshot) (sym same) ∙ sym
      (all_at (λ s. is_held_by s d ≡ holds s own.pair) living holder.snapshot own.holders at.0) in
      any_there (λ s. holds s pair) living holder.snapshot at.0 (it ∙ at.1)

  pub in_use_there : ((is_current pair || is_held living pair)
      || list_any (has_name pair) (map name_of (filter (is_of_slot ino) pending) ++ map (λ (k : KilledPart). k.part) killed))
      ≡ is_there (mark_at ms n)
  in_use_there =
      ap (λ (b : Bool). (is_current pair || is_held living pair) || b)
      (list_any-append (has_name pair) (map name_of (filter (is_of_slot ino) pending)) (map (λ (k : KilledPart). k.part) killed)
      ∙ ap (λ (b : Bool). b || list_any (has_name pair) (map (λ (k : KilledPart). k.part) killed)) pending_so)
      ∙ by_mark (mark_at ms n) (is_current pair) (is_held living pair) (list_any test pending)
      (list_any (has_name pair) (map (λ (k : KilledPart). k.part) killed)) (list_any test filed)
      (current_is block log is n pair got ∙ sym (h.current n (pair_low block log n pair got))) killed_so
      (sym (list_any-append test filed pending) ∙ any_of test (filed ++ pending) (is_marked_kept (mark_at ms n)) once)
      (any_gives test (is_held living pair ≡ true) filed
      (all_with (IsTold living ino block log) (HasHolder living) (λ d. test d ≡ true → is_held living pair ≡ true) held_so filed
      told held_by))
      (λ out. any_none (λ s. holds s pair) living (h.out n pair got out))

pub same_default : (ms : List Mark) (n : ℕ) → n < length ms → slice_index_or ms n Current ≡ slice_index_or ms n Out
same_default [] n lt = absurd (omega (arith, lt))
same_default (m ∷ ms) zero lt = refl
same_default (m ∷ ms) (suc n) lt = same_default ms n (omega (arith, lt))

-- ---- the records of a world

-- where the list and the marks are told, each part that is kept is recorded once
pub once_of : (w : World) (rs : List Record) → Listed rs w.shared → AreMarked w rs → AreRecordedOnce w
once_of w rs l m ino n =
    let book = w.shared.book in
    let p : Record → Bool = is_filed_on ino (log_of (cell_at w.shared ino)) n in
    let all = count_append p (all_records book.manifests) (book.deferred ++ picked_in w) in
    let rest = count_append p book.deferred (picked_in w) in
    let filed = count_filed p (ids book.snaps) book.manifests book.deferred rs l.rising l.list in
    let both = count_append p rs (picked_in w) in
    let is = (m.cells ino).kept_are n in
    omega (arith, all, rest, filed, both, is)

-- what holds of all that is listed or picked holds of each record
pub each_recorded : (w : World) (rs : List Record) (P : Record → Type 0) → Listed rs w.shared → AllByRecursion P (rs ++ picked_in w)
    → AllByRecursion P (recorded_in w)
each_recorded w rs P l all =
    let book = w.shared.book in
    let filed = all_filed P (ids book.snaps) book.manifests book.deferred rs l.list (all_front P rs (picked_in w) all) in
    all_append P (all_records book.manifests) (book.deferred ++ picked_in w) (all_front P (all_records book.manifests) book.deferred filed)
    (all_append P book.deferred (picked_in w) (all_back P (all_records book.manifests) book.deferred filed)
    (all_back P rs (picked_in w) all))

-- ---- every part of a slot

module _ (w : World) (rs : List Record) (l : Listed rs w.shared) (m : AreMarked w rs) (ino : ℕ)
    (is : IsLog (log_of (cell_at w.shared ino))) where
  abbrev cell : CellState
  cell = cell_at w.shared ino

  abbrev living : List ℕ
  living = ids w.shared.book.snaps

  -- a part is there exactly where its pair is needed, pending or killed
  pub pair_there_now : (n : ℕ) (pair : Pair) → slice_get (pairs cell.block (log_of cell)) n ≡ Some pair
      → keeps (retention_at w ino) pair ≡ is_there (mark_at cell.marks n)
  pair_there_now n pair got =
      let T : Record → Type 0 = IsTold living ino cell.block (log_of cell) in
      let all : AllByRecursion T (recorded_in w) = each_recorded w rs T l (m.cells ino).told in
      in_use_there living ino w.shared.book.snaps.epoch (killed_in w ino) _ cell.block (log_of cell) cell.marks is (m.cells ino) n pair got
      (all_records w.shared.book.manifests) (pending_in w) (all_front T (all_records w.shared.book.manifests) (pending_in w) all)
      (held_filed living w.shared.book.manifests w.shared.book.deferred rs l.list) (once_of w rs l m ino n)

  -- so the marks of the slot are those that keep its pairs
  pub slot_marks : AreMarksOf (retention_at w ino) cell
  slot_marks = record { block = refl; there = λ n pair got. sym (pair_there_now n pair got) }
