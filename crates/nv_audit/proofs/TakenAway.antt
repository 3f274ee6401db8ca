-- Kept parts are taken away by their records, one by one.
use Rattle.std.proofs.Common.{◌≡◌, ◌≢◌, ℕ, zero, suc, ◌+◌, ◌<◌, ◌≤◌, ◌==◌, Bool, true, false, cond, List, [], ◌∷◌, ◌++◌, length, map, take, Option, Some, None, arith, refl, ap, sym, ◌∙◌, subst, slice_index_or, slice_set}
use Rattle.std.specs.Prelude.{IfSome}
use Rattle.std.proofs.lemmas.Bool.{eq-eqb, eqb-false, eqb-true, false≢true}
use Rattle.std.proofs.lemmas.List.{get_or-set_other, get_or-set_same, length-map, length-set, take_all}
use Rattle.std.proofs.Math.ListN.{get_or-map}
use Rattle.std.proofs.lemmas.List.Filters.{length-filter_more}
use Rattle.nv_book.specs.declared.record.Record.{Record}
use Rattle.nv_cell.specs.Marks.{bit, mark_at}
use Rattle.nv_cell.specs.Named.{number_named}
use Rattle.nv_cell.specs.Numbers.{is_number}
use Rattle.nv_cell.specs.declared.mark.Mark.{Mark}
use Rattle.nv_cell.specs.declared.mark.Mark.TheVariants.{Out}
use Rattle.nv_entry.specs.declared.item.Entry.{Entry}
use Rattle.nv_audit.specs.KeptParts.{is_marked_as_kept, is_left, is_record_at, taken_from, times_recorded}
use Rattle.nv_audit.specs.Pending.{part_of}

-- ---- one part

left_now : (left : List Bool) (m n : ℕ) (b : Bool) → (m == n) ≡ b → m < length left → slice_index_or left m false ≡ true
    → bit (slice_index_or (slice_set left m false) n false) + cond b 1 0 ≡ bit (slice_index_or left n false)
left_now left m n true q lt there =
    let same : m ≡ n = eqb-true m n q in
    let here : slice_index_or left n false ≡ true = subst (λ (k : ℕ). slice_index_or left k false ≡ true) same there in
    let gone : slice_index_or (slice_set left m false) n false ≡ false =
    subst (λ (k : ℕ). slice_index_or (slice_set left m false) k false ≡ false) same (get_or-set_same left m false false lt) in
    rw (gone, here) refl
left_now left m n false q lt there =
    let apart : n ≢ m = λ same. eqb-false m n q (sym same) in
    let other : slice_index_or (slice_set left m false) n false ≡ slice_index_or left n false =
    get_or-set_other left m n false false apart in
    let none : bit (slice_index_or left n false) + 0 ≡ bit (slice_index_or left n false) = omega arith in
    rw other none

-- what is taken away is one of what was left
pub taken : (left : List Bool) (number : Option ℕ) (n : ℕ) → IfSome number (λ m. m < length left) → is_left number left ≡ true
    → bit (slice_index_or (taken_from number left) n false) + cond (is_number number n) 1 0 ≡ bit (slice_index_or left n false)
taken left None n lt there = omega arith
taken left (Some m) n lt there = left_now left m n (m == n) refl lt there

pub taken_length : (left : List Bool) (number : Option ℕ) → length (taken_from number left) ≡ length left
taken_length left None = refl
taken_length left (Some m) = length-set left m false

-- ---- a list of records

-- the first records have taken theirs away
pub record AreTaken (log : List Entry) (marks : List Mark) (records : List Record) (i : ℕ) (left : List Bool) : Type 0 where
  pub len : length left ≡ length marks
  pub each : (n : ℕ) → bit (slice_index_or left n false) + times_recorded log n (take i records) ≡ bit (is_marked_as_kept (mark_at marks n))

module _ (log : List Entry) (marks : List Mark) (records : List Record) where
  pub taken_none : (left : List Bool) → left ≡ map is_marked_as_kept marks → AreTaken log marks records 0 left
  taken_none left is = record {
    len = ap (λ (l : List Bool). length l) is ∙ length-map marks is_marked_as_kept;
    each = λ n.
        let read : slice_index_or left n false ≡ is_marked_as_kept (mark_at marks n) =
        ap (λ (l : List Bool). slice_index_or l n false) is ∙ get_or-map is_marked_as_kept marks n Out in
        let none : bit (is_marked_as_kept (mark_at marks n)) + 0 ≡ bit (is_marked_as_kept (mark_at marks n)) = omega arith in
        rw read none;
  }

  -- how often a part is recorded by one record more
  once_more : (i n : ℕ) (d : Record) → i < length records → d ≡ slice_index_or records i d
      → times_recorded log n (take (i + 1) records)
      ≡ times_recorded log n (take i records) + cond (is_number (number_named log (part_of d)) n) 1 0
  once_more i n d lt is =
      length-filter_more (is_record_at log n) records i d lt
      ∙ ap (λ (x : Record). times_recorded log n (take i records) + cond (is_record_at log n x) 1 0) (sym is)

  pub taken_more : (i : ℕ) (d : Record) (left : List Bool) → i < length records → d ≡ slice_index_or records i d
      → IfSome (number_named log (part_of d)) (λ m. m < length left) → is_left (number_named log (part_of d)) left ≡ true
      → AreTaken log marks records i left → AreTaken log marks records (i + 1) (taken_from (number_named log (part_of d)) left)
  taken_more i d left lt is within there before = record {
    len = taken_length left (number_named log (part_of d)) ∙ before.len;
    each = λ n.
        let one = taken left (number_named log (part_of d)) n within there in
        let more = once_more i n d lt is in
        let all = before.each n in
        omega (arith, one, more, all);
  }

  -- no list has more records of a part than a front of it
  at_most : (n i : ℕ) (ds : List Record) → times_recorded log n (take i ds) ≤ times_recorded log n ds
  at_most n zero [] = omega arith
  at_most n (suc i) [] = omega arith
  at_most n zero (d ∷ ds) = omega arith
  at_most n (suc i) (d ∷ ds) = go (is_record_at log n d) refl (at_most n i ds) where
    go : (b : Bool) → is_record_at log n d ≡ b → times_recorded log n (take i ds) ≤ times_recorded log n ds
        → times_recorded log n (take (suc i) (d ∷ ds)) ≤ times_recorded log n (d ∷ ds)
    go true q rest = rw q (omega (arith, rest))
    go false q rest = rw q rest

  -- a part that is not left has a record too many
  pub taken_twice : (i : ℕ) (d : Record) (left : List Bool) → i < length records → d ≡ slice_index_or records i d
      → is_left (number_named log (part_of d)) left ≡ false → AreTaken log marks records i left
      → ((n : ℕ) → times_recorded log n records ≡ bit (is_marked_as_kept (mark_at marks n))) → ⊥
  taken_twice i d left lt is gone before once = go (number_named log (part_of d)) refl gone where
    go : (o : Option ℕ) → number_named log (part_of d) ≡ o → is_left o left ≡ false → ⊥
    go None q g = false≢true (sym g)
    go (Some m) q g =
        let here : is_number (number_named log (part_of d)) m ≡ true = ap (λ (o : Option ℕ). is_number o m) q ∙ eq-eqb m m refl in
        let more : times_recorded log m (take (i + 1) records) ≡ times_recorded log m (take i records) + 1 =
        once_more i m d lt is ∙ ap (λ (b : Bool). times_recorded log m (take i records) + cond b 1 0) here in
        let none : bit (slice_index_or left m false) ≡ 0 = ap bit g in
        let all = before.each m in
        let few = at_most m (i + 1) records in
        let own = once m in
        absurd (omega (arith, more, none, all, few, own))

  -- at the end, none is left exactly where each kept part has one record
  bit_zero : (b : Bool) → bit b ≡ 0 → b ≡ false
  bit_zero true h = absurd (omega (arith, h))
  bit_zero false h = refl

  pub taken_all : (i : ℕ) (left : List Bool) → length records ≤ i → AreTaken log marks records i left
      → ((n : ℕ) → slice_index_or left n false ≡ false) → (n : ℕ) → times_recorded log n records ≡ bit (is_marked_as_kept (mark_at marks n))
  taken_all i left past before none n =
      let whole = ap (times_recorded log n) (take_all i records past) in
      let zero_left : bit (slice_index_or left n false) ≡ 0 = ap bit (none n) in
      let all = before.each n in
      omega (arith, whole, zero_left, all)

  pub taken_once : (i : ℕ) (left : List Bool) → length records ≤ i → AreTaken log marks records i left
      → ((n : ℕ) → times_recorded log n records ≡ bit (is_marked_as_kept (mark_at marks n))) → (n : ℕ) → slice_index_or left n false ≡ false
  taken_once i left past before once n =
      let whole = ap (times_recorded log n) (take_all i records past) in
      let all = before.each n in
      let own = once n in
      bit_zero (slice_index_or left n false) (omega (arith, whole, all, own))
