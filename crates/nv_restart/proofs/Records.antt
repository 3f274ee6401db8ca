-- The records of the world that a mount makes: each is of its pair, each kept part has one.
use Rattle.std.proofs.Common.{◌≡◌, ◌≢◌, ℕ, zero, suc, ◌+◌, ◌<◌, ◌≤◌, ◌==◌, ◌&&◌, ◌||◌, ◌++◌, ◌∙◌, ◌⊎◌, inl, inr, Bool, true, false, cond, filter, nat_le, nat_lt, not, List, [], ◌∷◌, Option, Some, None, ap, arith, length, map, refl, replicate, subst, sym}
use Rattle.std.specs.Prelude.{if◌then◌else◌, is_none, slice_get, unwrap_or}
use Rattle.std.specs.List.{AllByRecursion, flat_map, last_or, list_any, range_with_len}
use Rattle.std.proofs.lemmas.Bool.{and_parts, cases_lt, eqb-false, eqb-true, le-leb, le-ltb, lt-leb, lt-ltb}
use Rattle.nv_audit.specs.Image.{ImageValue, slot_of}
use Rattle.nv_audit.specs.Mounted.{book_anew, cell_of, cell_with, cut_log, is_over, is_recorded, record_by, records_anew, slot_records, tail_of}
use Rattle.nv_book.specs.Listed.{IsRecordList, all_records, unheld}
use Rattle.nv_book.specs.Records.{holder_of, is_held_by}
use Rattle.nv_book.specs.declared.record.Record.{Record}
use Rattle.nv_cell.specs.Cell.{CellState, empty_cell, log_of}
use Rattle.nv_cell.specs.Marks.{bit, mark_at}
use Rattle.nv_cell.specs.Named.{number_named}
use Rattle.nv_cell.specs.Numbers.{is_number}
use Rattle.nv_entry.specs.Held.{holds as pair_held, is_current, is_held, pair_name}
use Rattle.nv_entry.specs.Log.{IsLog, pairs}
use Rattle.nv_entry.specs.declared.held.Pair.{Pair}
use Rattle.nv_entry.specs.declared.item.Entry.{Entry}
use Rattle.nv_epoch.specs.Holders.{IsRising, holds}
use Rattle.nv_machine.specs.Held.{is_of_slot, picked_by_actor}
use Rattle.nv_machine.specs.Recorded.{IsOfPair, is_marked_kept, is_record_of, recorded_in}
use Rattle.nv_machine.specs.World.{World, cell_at, idle}
use Rattle.nv_machine.proofs.EachElement.{all_append, all_with}
use Rattle.nv_machine.proofs.FiledLists.{count, count_append, count_filed}
use Rattle.nv_machine.proofs.FiledMarks.{is_filed_on}
use Rattle.nv_machine.proofs.Pairs.{IsRecordOf}
use Rattle.nv_restart.proofs.Cells.{log_is}
use Rattle.nv_restart.proofs.Marks.{recorded_anew, told_anew}
use Rattle.nv_restart.specs.Mounted.{mounted}
use Rattle.nv_restart.proofs.Slots.{by_cell, cell_there, over_unrecorded, same_ids}

-- ---- the record list

some_last : (x : ℕ) (xs : List ℕ) → is_none (last_or (Some x) xs) ≡ false
some_last x [] = refl
some_last x (y ∷ xs) = some_last y xs

any_last : (test : ℕ → Bool) (living : List ℕ) → list_any test living ≡ true
    → is_none (last_or None (filter test living)) ≡ false
any_last test [] e = cc
any_last test (s ∷ living) e = go (test s) e (any_last test living) where
  go : (b : Bool) → (b || list_any test living) ≡ true
      → (list_any test living ≡ true → is_none (last_or None (filter test living)) ≡ false)
      → is_none (last_or None (cond b (s ∷ filter test living) (filter test living))) ≡ false
  go true e more = some_last s (filter test living)
  go false e more = more e

has_holder : (living : List ℕ) (ino : ℕ) (pair : Pair) → is_recorded living pair ≡ true
    → is_none (holder_of living (record_by ino pair)) ≡ false
has_holder living ino pair e =
    go pair.death refl (and_parts (not (is_current pair)) (is_held living pair) e) where
      go : (death : Option ℕ) → pair.death ≡ death
          → (not (is_current pair) ≡ true) × (is_held living pair ≡ true)
          → is_none (holder_of living (record_by ino pair)) ≡ false
      go None is h =
          absurd (current
          (subst (λ (d : Option ℕ). not (is_current (record pair { death = d })) ≡ true) is
          h.0)) where
            current : not (is_current (record pair { death = None })) ≡ true → ⊥
            current f = cc
      go (Some death) is h =
          ap (λ (d : Option ℕ).
          is_none (last_or None (filter (holds pair.birth (unwrap_or d 0)) living))) is
          ∙ any_last (holds pair.birth death) living
          (sym (ap (λ (d : Option ℕ). is_held living (record pair { death = d })) is) ∙ h.1)

unheld_none : (living : List ℕ) (ino : ℕ) (ps : List Pair)
    → unheld living (map (record_by ino) (filter (is_recorded living) ps)) ≡ []
unheld_none living ino [] = refl
unheld_none living ino (pair ∷ ps) =
    go (is_recorded living pair) refl (unheld_none living ino ps) where
      go : (b : Bool) → is_recorded living pair ≡ b
          → unheld living (map (record_by ino) (filter (is_recorded living) ps)) ≡ []
          → unheld living
          (map (record_by ino)
          (cond b (pair ∷ filter (is_recorded living) ps) (filter (is_recorded living) ps))) ≡ []
      go true e none =
          ap (λ (c : Bool).
          cond c (record_by ino pair ∷ unheld living
          (map (record_by ino) (filter (is_recorded living) ps)))
          (unheld living (map (record_by ino) (filter (is_recorded living) ps))))
          (has_holder living ino pair e) ∙ none
      go false e none = none

unheld_append : (living : List ℕ) (xs ys : List Record) → unheld living xs ≡ []
    → unheld living ys ≡ [] → unheld living (xs ++ ys) ≡ []
unheld_append living [] ys a b = b
unheld_append living (x ∷ xs) ys a b =
    go (is_none (holder_of living x)) a (λ none. unheld_append living xs ys none b) where
      go : (c : Bool) → cond c (x ∷ unheld living xs) (unheld living xs) ≡ []
          → (unheld living xs ≡ [] → unheld living (xs ++ ys) ≡ [])
          → cond c (x ∷ unheld living (xs ++ ys)) (unheld living (xs ++ ys)) ≡ []
      go true e more = cc
      go false e more = more e

unheld_all : (living : List ℕ) (f : ℕ → List Record) → ((ino : ℕ) → unheld living (f ino) ≡ [])
    → (inos : List ℕ)
    → unheld living (flat_map f inos) ≡ []
unheld_all living f each [] = refl
unheld_all living f each (ino ∷ inos) =
    unheld_append living (f ino) (flat_map f inos) (each ino) (unheld_all living f each inos)

pub anew_filed : (image : ImageValue)
    → IsRecordList image.snapshots (book_anew image).manifests (book_anew image).deferred
    (records_anew image)
anew_filed image = record {
  manifests_are = refl;
  deferred_is = sym (unheld_all image.snapshots (slot_records image)
      (λ ino. unheld_none image.snapshots ino (pairs image.numbers.block (cut_log image ino)))
      (range_with_len 0 (length image.slots)));
}

-- ---- each part is recorded once

-- of lists that belong to numbers, those of another number have nothing that counts
slot_count : (p : Record → Bool) (f : ℕ → List Record) (ino : ℕ)
    → ((m : ℕ) → m ≢ ino → count p (f m) ≡ 0) → (a k : ℕ)
    → count p (flat_map f (range_with_len a k))
    ≡ (if nat_le a ino && nat_lt ino (a + k) then count p (f ino) else 0)
slot_count p f ino others a zero = go (cases_lt ino a) where
  go : (ino < a) ⊎ (a ≤ ino)
      → 0 ≡ (if nat_le a ino && nat_lt ino (a + 0) then count p (f ino) else 0)
  go (inl lt) = (let no : nat_le a ino ≡ false = lt-leb a ino lt in rw no refl)
  go (inr ge) =
      let yes : nat_le a ino ≡ true = le-leb a ino ge in
      let no : nat_lt ino (a + 0) ≡ false = le-ltb ino (a + 0) (omega (arith, ge)) in
      rw (yes, no) refl
slot_count p f ino others a (suc k) = go (a == ino) refl (slot_count p f ino others (a + 1) k) where
  go : (b : Bool) → (a == ino) ≡ b
      → count p (flat_map f (range_with_len (a + 1) k))
      ≡ (if nat_le (a + 1) ino && nat_lt ino (a + 1 + k) then count p (f ino) else 0)
      → count p (f a ++ flat_map f (range_with_len (a + 1) k))
      ≡ (if nat_le a ino && nat_lt ino (a + suc k) then count p (f ino) else 0)
  go true e more =
      let same = eqb-true a ino e in
      let out : nat_le (a + 1) ino ≡ false = lt-leb (a + 1) ino (omega (arith, same)) in
      let none : count p (flat_map f (range_with_len (a + 1) k)) ≡ 0 =
      more ∙ ap (λ (b : Bool). cond (b && nat_lt ino (a + 1 + k)) (count p (f ino)) 0) out in
      let yes : nat_le a ino ≡ true = le-leb a ino (omega (arith, same)) in
      let also : nat_lt ino (a + suc k) ≡ true = lt-ltb ino (a + suc k) (omega (arith, same)) in
      rw (yes, also)
      (omega (
        arith,
        count_append p (f a) (flat_map f (range_with_len (a + 1) k)),
        none,
        ap (λ (m : ℕ). count p (f m)) same,
      ))
  go false e more =
      let apart = eqb-false a ino e in
      let none = others a apart in
      let whole : count p (f a ++ flat_map f (range_with_len (a + 1) k))
      ≡ count p (flat_map f (range_with_len (a + 1) k)) =
      omega (arith, count_append p (f a) (flat_map f (range_with_len (a + 1) k)), none) in
      whole ∙ more ∙ shifted (cases_lt a ino) apart where
        shifted : (a < ino) ⊎ (ino ≤ a) → a ≢ ino
            → (if nat_le (a + 1) ino && nat_lt ino (a + 1 + k) then count p (f ino) else 0)
            ≡ (if nat_le a ino && nat_lt ino (a + suc k) then count p (f ino) else 0)
        shifted (inl lt) ne =
            let one : nat_le (a + 1) ino ≡ true = le-leb (a + 1) ino (omega (arith, lt)) in
            let two : nat_le a ino ≡ true = le-leb a ino (omega (arith, lt)) in
            let same : a + 1 + k ≡ a + suc k = omega arith in
            rw (one, two) (ap (λ (m : ℕ). cond (nat_lt ino m) (count p (f ino)) 0) same)
        shifted (inr ge) ne =
            let one : nat_le (a + 1) ino ≡ false = lt-leb (a + 1) ino (omega (arith, ge)) in
            let two : nat_le a ino ≡ false = lt-leb a ino (omega (arith, ge, ne)) in
            rw (one, two) refl

-- the records of another slot are not this one's
others_none : (ino m n : ℕ) (log : List Entry) (ps : List Pair) (living : List ℕ) → m ≢ ino
    → count (is_filed_on ino log n) (map (record_by m) (filter (is_recorded living) ps)) ≡ 0
others_none ino m n log [] living ne = refl
others_none ino m n log (pair ∷ ps) living ne =
    go (is_recorded living pair) (others_none ino m n log ps living ne) where
      not_its : (m == ino) ≡ false
      not_its = at (m == ino) refl where
        at : (b : Bool) → (m == ino) ≡ b → b ≡ false
        at true e = absurd (ne (eqb-true m ino e))
        at false e = refl

      go : (b : Bool)
          → count (is_filed_on ino log n) (map (record_by m) (filter (is_recorded living) ps)) ≡ 0
          → count (is_filed_on ino log n)
          (map (record_by m)
          (cond b (pair ∷ filter (is_recorded living) ps) (filter (is_recorded living) ps))) ≡ 0
      go false none = none
      go true none =
          ap (λ (c : Bool). length (cond (c && is_number (number_named log (pair_name pair)) n)
          (record_by m pair ∷ filter (is_filed_on ino log n)
          (map (record_by m) (filter (is_recorded living) ps)))
          (filter (is_filed_on ino log n) (map (record_by m) (filter (is_recorded living) ps)))))
          not_its ∙ none

no_picks : (k : ℕ) → flat_map picked_by_actor (replicate k idle) ≡ []
no_picks zero = refl
no_picks (suc k) = no_picks k

-- what counts in the book counts on the list
listed_count : (image : ImageValue) (p : Record → Bool) → IsRising image.snapshots
    → count p (recorded_in (mounted image)) ≡ count p (records_anew image)
listed_count image p rising =
    let book = book_anew image in
    let picked : count p (flat_map picked_by_actor (replicate image.numbers.actors idle)) ≡ 0 =
    ap (count p) (no_picks image.numbers.actors) in
    omega (
      arith,
      count_append p (all_records book.manifests)
          (flat_map picked_by_actor (replicate image.numbers.actors idle)),
      picked,
      count_filed p image.snapshots book.manifests [] (records_anew image) rising
          (anew_filed image),
    )

module _ (image : ImageValue) (rising : IsRising image.snapshots)
    (logs : (ino : ℕ) → IsLog (cut_log image ino)) where
  abbrev w : World
  w = mounted image

  whole : (ino : ℕ)
      → log_of (cell_with image.numbers image.snapshots (tail_of image ino) (slot_of image ino))
      ≡ cut_log image ino
  whole ino = log_is image.numbers image.snapshots (tail_of image ino) (slot_of image ino)

  -- EACH PART IS RECORDED ONCE that is marked kept, and no other is
  pub once : (ino n : ℕ) → ino < length image.slots
      → count (is_record_of (cell_of image ino) ino n) (recorded_in w)
      ≡ bit (is_marked_kept (mark_at (cell_of image ino).marks n))
  once ino n lt =
      by_cell (λ (c : CellState). count (is_record_of c ino n) (recorded_in w)
      ≡ bit (is_marked_kept (mark_at c.marks n)))
      image.numbers image.snapshots (tail_of image ino) (slot_of image ino) erased left where
        never : (d : Record) → (is_of_slot ino d && false) ≡ false
        never d = go (is_of_slot ino d) where
          go : (b : Bool) → (b && false) ≡ false
          go true = refl
          go false = refl

        none : (rs : List Record) → count (λ (d : Record). is_of_slot ino d && false) rs ≡ 0
        none [] = refl
        none (d ∷ rs) = rw (never d) (none rs)

        erased : is_over image.snapshots image.numbers.block (cut_log image ino) ≡ true
            → count (is_record_of
            (empty_cell image.numbers.block image.numbers.page ((slot_of image ino).generation + 1)
            0) ino n) (recorded_in w) ≡ 0
        erased over = none (recorded_in w)

        cell : CellState
        cell = cell_with image.numbers image.snapshots (tail_of image ino) (slot_of image ino)

        log : List Entry
        log = cut_log image ino

        left : is_over image.snapshots image.numbers.block (cut_log image ino) ≡ false
            → count (is_record_of cell ino n) (recorded_in w) ≡ bit (is_marked_kept (mark_at cell.marks n))
        left kept =
            let in_range : (nat_le 0 ino && nat_lt ino (0 + length image.slots)) ≡ true =
            (let low : nat_le 0 ino ≡ true = le-leb 0 ino (omega arith) in
            let high : nat_lt ino (0 + length image.slots) ≡ true =
            lt-ltb ino (0 + length image.slots) (omega (arith, lt)) in rw (low, high) refl) in
            ap (λ (l : List Entry). count (is_filed_on ino l n) (recorded_in w)) (whole ino)
            ∙ listed_count image (is_filed_on ino log n) rising
            ∙ slot_count (is_filed_on ino log n) (slot_records image) ino
            (λ m ne. others_none ino m n log (pairs image.numbers.block (cut_log image m))
            image.snapshots ne) 0 (length image.slots)
            ∙ ap (λ (b : Bool). cond b (count (is_filed_on ino log n) (slot_records image ino)) 0)
            in_range
            ∙ recorded_anew image.snapshots ino image.numbers.block log n (logs ino)

  -- ---- each record is of its pair

  of_slot : (ino : ℕ) (ps : List Pair)
      → AllByRecursion (λ (d : Record). d.ino ≡ ino)
      (map (record_by ino) (filter (is_recorded image.snapshots) ps))
  of_slot ino [] = tt
  of_slot ino (pair ∷ ps) = go (is_recorded image.snapshots pair) (of_slot ino ps) where
    go : (b : Bool)
        → AllByRecursion (λ (d : Record). d.ino ≡ ino)
        (map (record_by ino) (filter (is_recorded image.snapshots) ps))
        → AllByRecursion (λ (d : Record). d.ino ≡ ino)
        (map (record_by ino)
        (cond b (pair ∷ filter (is_recorded image.snapshots) ps)
        (filter (is_recorded image.snapshots) ps)))
    go true more = (refl, more)
    go false more = more

  abbrev its_cell : ℕ → CellState
  its_cell ino = cell_with image.numbers image.snapshots (tail_of image ino) (slot_of image ino)

  of_pair : (ino : ℕ) → ino < length image.slots
      → is_over image.snapshots image.numbers.block (cut_log image ino) ≡ false → (d : Record)
      → d.ino ≡ ino → IsRecordOf image.snapshots image.numbers.block (cut_log image ino) d
      → IsOfPair w d
  of_pair ino lt left d same r =
      let at : cell_at w.shared d.ino ≡ its_cell ino =
      ap (cell_at w.shared) same ∙ cell_there image ino lt
      ∙ ap (λ (b : Bool).
      cond b (empty_cell image.numbers.block image.numbers.page ((slot_of image ino).generation + 1)
      0) (its_cell ino)) left in
      record {
        n = r.n;
        pair = r.pair;
        is = ap (λ (c : CellState). slice_get (pairs c.block (log_of c)) r.n) at
            ∙ ap (λ (l : List Entry). slice_get (pairs image.numbers.block l) r.n) (whole ino)
            ∙ r.is;
        name = r.name;
        birth = r.birth_is;
        died = r.died;
        holders = subst
            (λ (living : List ℕ). AllByRecursion (λ s. is_held_by s d ≡ pair_held s r.pair) living)
            (sym (same_ids image.snapshots)) r.holders;
      }

  slot_paired : (ino : ℕ) → ino < length image.slots
      → AllByRecursion (IsOfPair w) (slot_records image ino)
  slot_paired ino lt =
      go (is_over image.snapshots image.numbers.block (cut_log image ino)) refl where
        go : (b : Bool) → is_over image.snapshots image.numbers.block (cut_log image ino) ≡ b
            → AllByRecursion (IsOfPair w) (slot_records image ino)
        go true over =
            subst (AllByRecursion (IsOfPair w))
            (sym (over_unrecorded image.snapshots ino image.numbers.block (cut_log image ino) over))
            tt
        go false left =
            all_with (λ (d : Record). d.ino ≡ ino)
            (IsRecordOf image.snapshots image.numbers.block (cut_log image ino)) (IsOfPair w)
            (of_pair ino lt left) (slot_records image ino)
            (of_slot ino (pairs image.numbers.block (cut_log image ino)))
            (told_anew image.snapshots ino image.numbers.block (cut_log image ino))

  slots_paired : (a k : ℕ) → a + k ≤ length image.slots
      → AllByRecursion (IsOfPair w) (flat_map (slot_records image) (range_with_len a k))
  slots_paired a zero few = tt
  slots_paired a (suc k) few =
      all_append (IsOfPair w) (slot_records image a)
      (flat_map (slot_records image) (range_with_len (a + 1) k))
      (slot_paired a (omega (arith, few))) (slots_paired (a + 1) k (omega (arith, few)))

  pub paired : AllByRecursion (IsOfPair w) (records_anew image)
  paired = slots_paired 0 (length image.slots) (omega arith)
