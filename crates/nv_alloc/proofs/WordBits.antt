-- Bits in words, and the marks over them.
use Rattle.std.proofs.Common.{◌≡◌, ◌≢◌, ℕ, zero, suc, ◌+◌, ◌-◌, ◌*◌, ◌/◌, ◌%◌, ◌^◌, ◌<◌, ◌≤◌, ◌==◌, inl, inr, Bool, true, false, not, min, List, Some, None, length, set, get_or, replicate, w64, arith, refl, ap, sym, ◌∙◌, length-set, get_or-set_same, get_or-set_other}
use Rattle.std.specs.Int.{bit_at, trailing_zeros}
use Rattle.std.proofs.lemmas.Bool.{cases_eq, cases_lt, ne_eqb}
use Rattle.std.proofs.lemmas.List.{ext_get_or, get_or_past, get_or-replicate, length-replicate}
use Rattle.std.proofs.lemmas.List.FromFn.{length-map-range_with_len, get_or-map-range_with_len}
use Rattle.std.proofs.lemmas.Nat.{shr_le, shr-shr}
use Rattle.std.proofs.lemmas.Nat.Bits.{bit_at-lt, bit_at-zero, bit_at-trailing_zeros, bit_at_above, bit_at_ones, bit_at_ones_above}
use Rattle.nv_alloc.specs.Places.{bit, bit_of, first_bits, flags_of, word_count, AreMarks, IsFirst, IsFirstWord, IsLowest, IsPlaceSet, WritesBit}

-- a word of 0 has no bit
no_bit : (words : List ℕ) (k : ℕ) → get_or words (k / 64) 0 ≡ 0 → bit_of words k ≡ 0
no_bit words k e = ap (λ (n : ℕ). bit_at n (k % 64)) e ∙ bit_at-zero (k % 64)

-- a word with a bit isn't 0
has_word : (words : List ℕ) (k : ℕ) → bit_of words k ≡ 1 → 0 < get_or words (k / 64) 0
has_word words k h = elim (cases_lt 0 (get_or words (k / 64) 0)) [
  | inl more ↦ more
  | inr none ↦ let z : get_or words (k / 64) 0 ≡ 0 = omega arith in
      let e = no_bit words k z in absurd (omega (arith, e, h))
]

-- a word with a bit is one of the words
pub within_words : (words : List ℕ) (i : ℕ) → 0 < get_or words i 0 → i < length words
within_words words i h = elim (cases_lt i (length words)) [
  | inl less ↦ less
  | inr past ↦ let e = get_or_past words i 0 past in absurd (omega (arith, e, h))
]

-- one word is written
pub bit_written : (words : List ℕ) (at word b : ℕ) → at / 64 < length words → bit_at word (at % 64) ≡ b
    → ((i : ℕ) → i < 64 → i ≢ at % 64 → bit_at word i ≡ bit_at (get_or words (at / 64) 0) i)
    → WritesBit words at b (set words (at / 64) word)
bit_written words at word b within same kept = record {
  count = length-set words (at / 64) word;
  here = ap (λ (n : ℕ). bit_at n (at % 64)) (get_or-set_same words (at / 64) word 0 within) ∙ same;
  others = λ k differs. elim (cases_eq (k / 64) (at / 64)) [
    | inl e ↦ rw (e, get_or-set_same words (at / 64) word 0 within)
        (kept (k % 64) (omega arith) (λ index. differs (omega (arith, index))))
    | inr apart ↦ ap (λ (n : ℕ). bit_at n (k % 64)) (get_or-set_other words (at / 64) (k / 64) word 0 apart)
  ];
  words = λ i apart. get_or-set_other words (at / 64) i word 0 apart;
}

pub some_bit : (word : ℕ) → bit (not (word == 0)) ≡ min 1 word
some_bit zero = refl
some_bit (suc n) = rw (ne_eqb (suc n) 0 (omega arith)) (omega arith)

-- marks follow a bit that is written
marks_written : (marks words new above : List ℕ) (at b : ℕ) → AreMarks marks words → WritesBit words at b new
    → WritesBit marks (at / 64) (min 1 (get_or new (at / 64) 0)) above → AreMarks above new
marks_written marks words new above at b are low up i = elim (cases_eq i (at / 64)) [
  | inl e ↦ rw e up.here
  | inr apart ↦ up.others i apart ∙ are i ∙ ap (λ (n : ℕ). min 1 n) (sym (low.words i apart))
]

pub set_written : (len place b : ℕ) (bits words groups new above top : List ℕ) → IsPlaceSet len bits words groups → place < len
    → WritesBit bits place b new → WritesBit words (place / 64) (min 1 (get_or new (place / 64) 0)) above
    → WritesBit groups (place / 64 / 64) (min 1 (get_or above (place / 64 / 64) 0)) top → IsPlaceSet len new above top
set_written len place b bits words groups new above top is within low mid up = record {
  small = is.small;
  bits_len = low.count ∙ is.bits_len;
  words_len = mid.count ∙ is.words_len ∙ ap word_count (sym low.count);
  groups_len = up.count ∙ is.groups_len ∙ ap word_count (sym mid.count);
  past = λ k h. low.others k (λ e. absurd (omega (arith, e, h, within))) ∙ is.past k h;
  words_marked = marks_written words bits new above place b is.words_marked low mid;
  groups_marked = marks_written groups words above top (place / 64) _ is.groups_marked mid up;
}

-- where the words of a place are
pub words_within : (len place : ℕ) (bits words groups : List ℕ) → IsPlaceSet len bits words groups → place < len
    → (place / 64 < length bits) × ((place / 64 / 64 < length words) × (place / 64 / 64 / 64 < length groups))
words_within len place bits words groups is within = (low, (mid, top)) where
  low : place / 64 < length bits
  low = omega (arith, is.bits_len, within)

  mid : place / 64 / 64 < length words
  mid = omega (arith, is.words_len, low)

  top : place / 64 / 64 / 64 < length groups
  top = omega (arith, is.groups_len, mid)

pub get_or-flags_of : (len : ℕ) (bits : List ℕ) (k : ℕ) → k < len → get_or (flags_of len bits) k false ≡ (bit_of bits k == 1)
get_or-flags_of len bits k h = get_or-map-range_with_len (λ (j : ℕ). bit_of bits j == 1) 0 len k k false h (omega arith)

pub length-flags_of : (len : ℕ) (bits : List ℕ) → length (flags_of len bits) ≡ len
length-flags_of len bits = length-map-range_with_len (λ (j : ℕ). bit_of bits j == 1) 0 len

-- a number that is a bit is that of its flag
bit_is : (n : ℕ) (flag : Bool) → n < 2 → (n == 1) ≡ flag → n ≡ bit flag
bit_is zero flag less e = ap bit e
bit_is (suc zero) flag less e = ap bit e
bit_is (suc (suc n)) flag less e = absurd (omega (arith, less))

-- a flag is told by its bit
pub flag_like : (len : ℕ) (bits : List ℕ) (k : ℕ) (flag : Bool) → k < len → bit_of bits k ≡ bit flag
    → get_or (flags_of len bits) k false ≡ flag
flag_like len bits k flag within like = get_or-flags_of len bits k within ∙ ap (λ (n : ℕ). n == 1) like ∙ told flag where
  told : (b : Bool) → (bit b == 1) ≡ b
  told true = refl
  told false = refl

pub flag_unlike : (len : ℕ) (bits : List ℕ) (k : ℕ) (flag : Bool) → k < len → bit_of bits k ≢ bit flag
    → get_or (flags_of len bits) k false ≢ flag
flag_unlike len bits k flag within unlike same =
    unlike (bit_is (bit_of bits k) flag (bit_at-lt (get_or bits (k / 64) 0) (k % 64)) (sym (get_or-flags_of len bits k within) ∙ same))

-- a bit that is written is a flag that is written
pub flags_of-written : (len : ℕ) (bits new : List ℕ) (place : ℕ) (value : Bool) → place < len
    → WritesBit bits place (bit value) new → flags_of len new ≡ set (flags_of len bits) place value
flags_of-written len bits new place value within w =
    let count = length-flags_of len bits in
    ext_get_or false (flags_of len new) (set (flags_of len bits) place value)
    (length-flags_of len new ∙ sym (length-set (flags_of len bits) place value ∙ count))
    (λ k h. let lt : k < len = omega (arith, length-flags_of len new, h) in
    elim (cases_eq k place) [
      | inl e ↦ rw e (flag_like len new place value within w.here
          ∙ sym (get_or-set_same (flags_of len bits) place value false (omega (arith, count, within))))
      | inr apart ↦ get_or-flags_of len new k lt ∙ ap (λ (n : ℕ). n == 1) (w.others k apart) ∙ sym (get_or-flags_of len bits k lt)
          ∙ sym (get_or-set_other (flags_of len bits) place k value false apart)
    ])

-- the lowest bit of the first word that has one
pub first_bit : (words : List ℕ) (at : ℕ) → IsFirstWord words at → get_or words at 0 < 2 ^ 64
    → IsFirst words (at * 64 + trailing_zeros w64 (get_or words at 0))
first_bit words at first fits = go (trailing_zeros w64 (get_or words at 0))
    (bit_at-trailing_zeros w64 (get_or words at 0) first.some fits) where
      go : (t : ℕ) → (t < 64) × (bit_at (get_or words at 0) t ≡ 1) × ((i : ℕ) → i < t → bit_at (get_or words at 0) i ≡ 0)
          → IsFirst words (at * 64 + t)
      go t is =
          let low : t < 64 = is.0 in
          let word : (at * 64 + t) / 64 ≡ at = omega (arith, low) in
          let bit : (at * 64 + t) % 64 ≡ t = omega (arith, low) in
          record {
            found = rw (word, bit) is.1;
            before = λ k less. elim (cases_lt (k / 64) at) [
              | inl earlier ↦ no_bit words k (first.none (k / 64) earlier)
              | inr late ↦ let same : k / 64 ≡ at = omega (arith, less, late, low) in rw same (is.2 (k % 64) (omega (arith, same, less)))
            ];
          }

-- the bits of a word that is moved down
shifted : (n k i : ℕ) → bit_at (n / 2 ^ k) i ≡ bit_at n (k + i)
shifted n k i = ap (λ (m : ℕ). m % 2) (shr-shr n k i)

shifted_from : (n k i : ℕ) → k ≤ i → bit_at (n / 2 ^ k) (i - k) ≡ bit_at n i
shifted_from n k i from = let e : k + (i - k) ≡ i = omega (arith, from) in shifted n k (i - k) ∙ ap (bit_at n) e

pub none_from : (n k : ℕ) → n / 2 ^ k ≡ 0 → (i : ℕ) → k ≤ i → bit_at n i ≡ 0
none_from n k none i from = sym (shifted_from n k i from) ∙ ap (λ (m : ℕ). bit_at m (i - k)) none ∙ bit_at-zero (i - k)

pub lowest_from : (n k : ℕ) → n < 2 ^ 64 → 0 < n / 2 ^ k → let at = k + trailing_zeros w64 (n / 2 ^ k) in
    (at < 64) × (bit_at n at ≡ 1) × ((i : ℕ) → k ≤ i → i < at → bit_at n i ≡ 0)
lowest_from n k fits some = go _ (bit_at-trailing_zeros w64 (n / 2 ^ k) some (omega (arith, fits, shr_le n k))) where
  go : (t : ℕ) → (t < 64) × (bit_at (n / 2 ^ k) t ≡ 1) × ((i : ℕ) → i < t → bit_at (n / 2 ^ k) i ≡ 0)
      → (k + t < 64) × (bit_at n (k + t) ≡ 1) × ((i : ℕ) → k ≤ i → i < k + t → bit_at n i ≡ 0)
  go t is =
      let there : bit_at n (k + t) ≡ 1 = sym (shifted n k t) ∙ is.1 in (
        elim (cases_lt (k + t) 64) [ inl less ↦ less | inr past ↦ absurd (omega (arith, there, bit_at_above n 64 (k + t) fits past)) ],
        there,
        λ i from less. sym (shifted_from n k i from) ∙ is.2 (i - k) (omega (arith, from, less)),
      )

-- at the first mark is the first word that has a bit
pub below_mark : (marks words : List ℕ) (at : ℕ) → AreMarks marks words → IsFirst marks at → IsFirstWord words at
below_mark marks words at are first = record {
  some = omega (arith, are at, first.found);
  none = λ i h. omega (arith, are i, first.before i h);
}

-- where there is no mark, there is no bit
none_below : (marks words : List ℕ) → AreMarks marks words → ((i : ℕ) → get_or marks i 0 ≡ 0) → (i : ℕ) → get_or words i 0 ≡ 0
none_below marks words are none i = let e = no_bit marks i (none (i / 64)) in omega (arith, are i, e)

pub first_within : (len : ℕ) (bits words groups : List ℕ) (at : ℕ) → IsPlaceSet len bits words groups → IsFirst bits at → at < len
first_within len bits words groups at is first = elim (cases_lt at len) [
  | inl less ↦ less
  | inr past ↦ let e = is.past at past in absurd (omega (arith, e, first.found))
]

pub first_is_lowest : (len : ℕ) (bits words groups : List ℕ) (at : ℕ) → IsPlaceSet len bits words groups → IsFirst bits at
    → IsLowest (flags_of len bits) (Some at)
first_is_lowest len bits words groups at is first =
    let within = first_within len bits words groups at is first in (
      flag_like len bits at true within first.found,
      λ k low. flag_like len bits k false (omega (arith, within, low)) (first.before k low),
    )

pub none_is_lowest : (len : ℕ) (bits words groups : List ℕ) → IsPlaceSet len bits words groups
    → ((i : ℕ) → get_or groups i 0 ≡ 0) → IsLowest (flags_of len bits) None
none_is_lowest len bits words groups is none k = elim (cases_lt k len) [
  | inl less ↦ flag_like len bits k false less
      (no_bit bits k (none_below words bits is.words_marked (none_below groups words is.groups_marked none) (k / 64)))
  | inr past ↦ get_or_past (flags_of len bits) k false (omega (arith, length-flags_of len bits, past))
]

-- words of which the first bits are set
module _ (count len : ℕ) (words : List ℕ) (are : words ≡ first_bits count len) (room : count ≤ 64 * len) where
  abbrev word : ℕ → ℕ
  word i = 2 ^ min 64 (count - 64 * i) - 1

  length_first : length words ≡ len
  length_first = ap (λ (l : List ℕ). length l) are ∙ length-map-range_with_len word 0 len

  no_word : (i : ℕ) → count ≤ 64 * i → 0 ≡ word i
  no_word i h = let e : 0 ≡ min 64 (count - 64 * i) = omega (arith, h) in ap (λ (m : ℕ). 2 ^ m - 1) e

  word_first : (i : ℕ) → get_or words i 0 ≡ word i
  word_first i = elim (cases_lt i len) [
    | inl less ↦ ap (λ (l : List ℕ). get_or l i 0) are ∙ get_or-map-range_with_len word 0 len i i 0 less (omega arith)
    | inr past ↦ get_or_past words i 0 (omega (arith, length_first, past)) ∙ no_word i (omega (arith, room, past))
  ]

  bit_first : (k : ℕ) → bit_of words k ≡ min 1 (count - k)
  bit_first k = ap (λ (n : ℕ). bit_at n (k % 64)) (word_first (k / 64)) ∙ elim (cases_lt k count) [
    | inl less ↦
        let one : 1 ≡ min 1 (count - k) = omega (arith, less) in
        bit_at_ones (min 64 (count - 64 * (k / 64))) (k % 64) (omega (arith, less)) ∙ one
    | inr past ↦
        let none : 0 ≡ min 1 (count - k) = omega (arith, past) in
        bit_at_ones_above (min 64 (count - 64 * (k / 64))) (k % 64) (omega (arith, past)) ∙ none
  ]

-- the marks of words that have the first bits are first bits again
marks_first : (count len : ℕ) (marks words : List ℕ) → count ≤ 64 * length words → words ≡ first_bits count (length words)
    → word_count count ≤ 64 * len → marks ≡ first_bits (word_count count) len → AreMarks marks words
marks_first count len marks words room low above up i =
    let mark = bit_first (word_count count) len marks up above i in
    elim (cases_lt (64 * i) count) [
      | inl less ↦
          let index : 64 * i / 64 ≡ i = omega arith in
          let first = bit_first count (length words) words low room (64 * i) in
          let some = rw index at (has_word words (64 * i) (omega (arith, first, less))) in
          omega (arith, mark, some, less)
      | inr past ↦
          let none = word_first count (length words) words low room i ∙ sym (no_word count (length words) words low room i past) in
          omega (arith, mark, none, past)
    ]

pub set_first : (len count : ℕ) (bits words groups : List ℕ) → len < 2 ^ 32 → count ≤ len
    → bits ≡ first_bits count (word_count len) → words ≡ first_bits (word_count count) (word_count (length bits))
    → groups ≡ first_bits (word_count (word_count count)) (word_count (length words)) → IsPlaceSet len bits words groups
set_first len count bits words groups small within low mid up = record {
  small = small;
  bits_len = b;
  words_len = w;
  groups_len = length_first (word_count (word_count count)) (word_count (length words)) groups up (omega (arith, b, w));
  past = λ k h. let none : min 1 (count - k) ≡ 0 = omega (arith, within, h) in bit_first count _ bits low (omega arith) k ∙ none;
  words_marked = marks_first count (word_count (length bits)) words bits (omega (arith, b)) (rw b low) (omega (arith, b)) mid;
  groups_marked =
      marks_first (word_count count) (word_count (length words)) groups words (omega (arith, b, w)) (rw w mid) (omega (arith, b, w)) up;
} where
  b : length bits ≡ word_count len
  b = length_first count (word_count len) bits low (omega (arith, within))

  w : length words ≡ word_count (length bits)
  w = length_first (word_count count) (word_count (length bits)) words mid (omega (arith, b, within))

-- where all bits are set, or none, all flags are alike
pub all_alike : (len count : ℕ) (bits : List ℕ) (value : Bool) → count ≡ len * bit value → bits ≡ first_bits count (word_count len)
    → flags_of len bits ≡ replicate len value
all_alike len count bits value all low = ext_get_or false (flags_of len bits) (replicate len value)
    (length-flags_of len bits ∙ sym (length-replicate len value)) (λ k h. let less : k < len = omega (arith, length-flags_of len bits, h) in
    flag_like len bits k value less (bit_first count (word_count len) bits low (room value all) k ∙ same value k all less)
    ∙ sym (get_or-replicate len k value false less)) where
      room : (b : Bool) → count ≡ len * bit b → count ≤ 64 * word_count len
      room true e = omega (arith, e)
      room false e = omega (arith, e)

      same : (b : Bool) → (k : ℕ) → count ≡ len * bit b → k < len → min 1 (count - k) ≡ bit b
      same true k e h = omega (arith, e, h)
      same false k e h = omega (arith, e)
