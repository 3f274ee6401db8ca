-- Tallies and counts told anew.
use Rattle.std.proofs.Common.{◌≡◌, ℕ, zero, suc, ◌+◌, ◌-◌, ◌<◌, ◌≤◌, ◌==◌, Bool, false, min, List, [], ◌∷◌, ◌++◌, length, take, drop, arith, refl, ap, sym, ◌∙◌, slice_index_or, inl, inr}
use Rattle.std.proofs.lemmas.Bool.{cases_lt}
use Rattle.std.proofs.lemmas.Bool.Decides.{nat_tests}
use Rattle.std.specs.List.{count_by}
use Rattle.std.specs.Prelude.{slice_range}
use Rattle.nv_entry.specs.declared.item.Entry.{Entry}
use Rattle.nv_cell.specs.declared.mark.Mark.{Mark}
use Rattle.nv_cell.specs.declared.tally.Tally.{Tally}
use Rattle.nv_cell.specs.Marks.{is_current, is_there}
use Rattle.nv_cell.specs.Numbers.{part_base}
use Rattle.nv_cell.specs.Slots.{slot_base}
use Rattle.nv_cell.specs.Tallies.{AreTallies, count_in, end_at, first_slot, start_at, tally_at}
use Rattle.nv_cell.proofs.Cells.{base_rises}
use Rattle.nv_cell.proofs.FirstSlots.{slot_step}
use Rattle.nv_cell.proofs.Tallies.{next_slot}

-- where entry `i` of so many begins
begins : (ends : List ℕ) (es : List Entry) (tail : ℕ) → ((i : ℕ) → i < tail → end_at ends i ≡ part_base es (i + 1))
    → (i : ℕ) → i ≤ tail → start_at ends i ≡ part_base es i
begins ends es tail h zero le = refl
begins ends es tail h (suc i) le =
    let a : (suc i == 0) ≡ false = grind (arith, nat_tests) in
    let b : suc i - 1 ≡ i = omega arith in
    let d : i + 1 ≡ suc i = omega arith in
    rw (a, b) (rw d at (h i (omega (arith, le))))

last_end : (ends : List ℕ) (es : List Entry) (tail n : ℕ) → length ends ≡ tail → ((i : ℕ) → i < tail → end_at ends i ≡ part_base es (i + 1))
    → n < part_base es tail → (0 < length ends) × (n < end_at ends (length ends - 1))
last_end ends es zero n len ended lt = absurd (omega arith)
last_end ends es (suc t) n len ended lt =
    let last : length ends - 1 ≡ t = omega (arith, len) in
    let d : t + 1 ≡ suc t = omega arith in
    (omega (arith, len), rw last (let e = ended t (omega arith) in let f = rw d at e in omega (arith, f, lt)))

-- where the slots of entry `i` of so many begin
slots_start : (tallies : List Tally) (es : List Entry) (tail : ℕ)
    → ((i : ℕ) → i < tail → (tally_at tallies i).slots_end ≡ slot_base es (i + 1)) → (i : ℕ) → i < tail
    → first_slot tallies i ≡ slot_base es i
slots_start tallies es tail h zero lt = refl
slots_start tallies es tail h (suc i) lt =
    let d : i + 1 ≡ suc i = omega arith in
    next_slot tallies i ∙ rw d at (h i (omega (arith, lt)))

-- tallies that count the marks of each entry's parts, and its slots
pub tallied_by : (tallies : List Tally) (ends : List ℕ) (marks : List Mark) (es : List Entry) (tail : ℕ) → length ends ≡ tail
    → length tallies ≡ tail
    → length marks ≡ part_base es tail → ((i : ℕ) → i < tail → end_at ends i ≡ part_base es (i + 1))
    → ((i : ℕ) → i < tail → (tally_at tallies i).current ≡ count_in is_current marks (part_base es i) (part_base es (i + 1)))
    → ((i : ℕ) → i < tail → (tally_at tallies i).there ≡ count_in is_there marks (part_base es i) (part_base es (i + 1)))
    → ((i : ℕ) → i < tail → (tally_at tallies i).slots_end ≡ slot_base es (i + 1)) → AreTallies tallies ends marks
tallied_by tallies ends marks es tail ends_len len marks_len ended current there slots = record {
  runs = record {
    rising = λ i j le lt. omega (
      arith,
      ended i (omega (arith, le, lt, ends_len)),
      ended j (omega (arith, lt, ends_len)),
      base_rises es (i + 1) (j + 1) (omega (arith, le)),
    );
    all = λ n lt. last_end ends es tail n ends_len ended (omega (arith, lt, marks_len));
  };
  within = λ i lt. omega (
    arith,
    ended i (omega (arith, lt, ends_len)),
    base_rises es (i + 1) tail (omega (arith, lt, ends_len)),
    marks_len,
  );
  whole = begins ends es tail ended (length ends) (omega (arith, ends_len)) ∙ ap (part_base es) ends_len ∙ sym marks_len;
  len = len ∙ sym ends_len;
  current = λ i lt. current i (omega (arith, lt, ends_len)) ∙ sym (run is_current i (omega (arith, lt, ends_len)));
  there = λ i lt. there i (omega (arith, lt, ends_len)) ∙ sym (run is_there i (omega (arith, lt, ends_len)));
  slots = λ i lt. own i (omega (arith, lt, ends_len));
} where
  own : (i : ℕ) → i < tail → (tally_at tallies i).slots_end ≡ first_slot tallies i + (end_at ends i - start_at ends i - 1)
  own i lt =
      let d : i + 1 ≡ suc i = omega arith in
      let now = rw d at (slots i lt) in
      let end = rw d at (ended i lt) in
      let start = begins ends es tail ended i (omega (arith, lt)) in
      omega (arith, now, end, start, slots_start tallies es tail slots i lt, slot_step es i)

  run : (test : Mark → Bool) (i : ℕ) → i < tail
      → count_in test marks (start_at ends i) (end_at ends i) ≡ count_in test marks (part_base es i) (part_base es (i + 1))
  run test i lt = rw (begins ends es tail ended i (omega (arith, lt)), ended i lt) refl

-- one item more
pub one_more : {X : Type 0} (f : X → ℕ) (d : X) (xs : List X) (x : X) (want : ℕ → ℕ) (len : ℕ) → length xs ≡ len
    → ((i : ℕ) → i < len → f (slice_index_or xs i d) ≡ want i) → f x ≡ want len
    → (i : ℕ) → i < len + 1 → f (slice_index_or (xs ++ x ∷ []) i d) ≡ want i
one_more {X = X} f d xs x want len is old new i lt = elim (cases_lt i len) [
  | inl l ↦ ap f (front xs i (omega (arith, l, is))) ∙ old i l
  | inr g ↦ let same : i ≡ len = omega (arith, lt, g) in
      rw same (ap f (ap (λ n. slice_index_or (xs ++ x ∷ []) n d) (sym is) ∙ behind xs) ∙ new)
] where
  front : (ys : List X) (i : ℕ) → i < length ys → slice_index_or (ys ++ x ∷ []) i d ≡ slice_index_or ys i d
  front [] i lt = absurd (omega arith)
  front (y ∷ ys) zero lt = refl
  front (y ∷ ys) (suc i) lt = front ys i (omega (arith, lt))

  behind : (ys : List X) → slice_index_or (ys ++ x ∷ []) (length ys) d ≡ x
  behind [] = refl
  behind (y ∷ ys) = behind ys

-- a run that ends past a list is cut where the list ends
none_taken : {X : Type 0} (n m : ℕ) → take n (drop {A = X} m []) ≡ []
none_taken zero zero = refl
none_taken zero (suc m) = refl
none_taken (suc n) zero = refl
none_taken (suc n) (suc m) = refl

pub cut_short : {X : Type 0} (xs : List X) (from to : ℕ)
    → take (min to (length xs) - min from (length xs)) (drop (min from (length xs)) xs) ≡ take (to - from) (drop from xs)
cut_short {X = X} [] from to = none_taken (min to 0 - min from 0) (min from 0) ∙ sym (none_taken {X = X} (to - from) from)
cut_short (x ∷ xs) zero zero = let a : min 0 (suc (length xs)) ≡ 0 = omega arith in rw a refl
cut_short (x ∷ xs) zero (suc to) =
    let a : min zero (suc (length xs)) ≡ 0 = omega arith in
    let b : min (suc to) (suc (length xs)) - 0 ≡ suc (min to (length xs) - 0) = omega arith in
    let d : min 0 (length xs) ≡ 0 = omega arith in
    let e : to - 0 ≡ to = omega arith in
    let f : suc to - 0 ≡ suc to = omega arith in
    rw (a, b, f) (ap (λ ys. x ∷ ys) (rw (d, e) at (cut_short xs zero to)))
cut_short (x ∷ xs) (suc from) zero =
    let a : min 0 (suc (length xs)) - min (suc from) (suc (length xs)) ≡ 0 = omega arith in
    let b : 0 - suc from ≡ 0 = omega arith in
    rw (a, b) refl
cut_short (x ∷ xs) (suc from) (suc to) =
    let a : min (suc from) (suc (length xs)) ≡ suc (min from (length xs)) = omega arith in
    let b : min (suc to) (suc (length xs)) - suc (min from (length xs)) ≡ min to (length xs) - min from (length xs) = omega arith in
    let d : suc to - suc from ≡ to - from = omega arith in
    rw (a, b, d) (cut_short xs from to)

pub count_short : {X : Type 0} (test : X → Bool) (xs : List X) (from to start end : ℕ) → start ≡ min from (length xs)
    → end ≡ min to (length xs)
    → count_by test (slice_range xs start end) ≡ count_in test xs from to
count_short test xs from to start end start_is end_is = rw (start_is, end_is) (ap (count_by test) (cut_short xs from to))

pub start_next : (ends : List ℕ) (k : ℕ) → start_at ends (k + 1) ≡ end_at ends k
start_next ends k =
    let a : (k + 1 == 0) ≡ false = grind (arith, nat_tests) in
    let b : k + 1 - 1 ≡ k = omega arith in
    rw (a, b) refl
