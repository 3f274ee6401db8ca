-- Sets of places: for each place from 0 on, whether it is in the set.
use Rattle.std.specs.Prelude.{◌≡◌, ℕ, ◌+◌, ◌-◌, ◌*◌, ◌/◌, ◌%◌, ◌^◌, ◌<◌, ◌≤◌, ◌≢◌, ◌==◌, Bool, true, false, if◌then◌else◌, min, List, [], ◌∷◌, Option, Some, None, length, map, slice_index, slice_index_or}
use Rattle.std.specs.Int.{bit_at}
use Rattle.std.specs.List.{range_with_len}

-- the places that are in the set, rising, where the first flag is that of the place `low`
abbrev pub places : ℕ → List Bool → List ℕ
places low [] = []
places low (true ∷ flags) = low ∷ places (low + 1) flags
places low (false ∷ flags) = places (low + 1) flags

-- the items that are there, in order
abbrev pub present : {X : Type 0} → List (Option X) → List X
present [] = []
present (None ∷ slots) = present slots
present (Some x ∷ slots) = x ∷ present slots

-- the lowest place of the set, or none where it is empty
abbrev pub IsLowest : List Bool → Option ℕ → Type 0
IsLowest flags None = (k : ℕ) → slice_index_or flags k false ≡ false
IsLowest flags (Some place) = (slice_index_or flags place false ≡ true) × ((k : ℕ) → k < place → slice_index_or flags k false ≡ false)

-- bit `k` of some words: a word has 64 bits, of which the lowest counts first
abbrev pub bit_of : List ℕ → ℕ → ℕ
bit_of words k = bit_at (slice_index words (k / 64)) (k % 64)

-- the bit of a flag
abbrev pub bit : Bool → ℕ
bit flag = if flag then 1 else 0

-- how many words so many bits take
abbrev pub word_count : ℕ → ℕ
word_count bits = (bits + 63) / 64

-- `len` words, of which the first `count` bits are set, and no other
abbrev pub first_bits : ℕ → ℕ → List ℕ
first_bits count len = map (λ i. 2 ^ min 64 (count - 64 * i) - 1) (range_with_len 0 len)

-- a bit is set, and none before it
pub record IsFirst (words : List ℕ) (at : ℕ) : Type 0 where
  -- the bit is set
  pub found : bit_of words at ≡ 1
  -- no bit before it is set
  pub before : (k : ℕ) → k < at → bit_of words k ≡ 0

-- a word has a bit, and none before it has
pub record IsFirstWord (words : List ℕ) (at : ℕ) : Type 0 where
  -- the word has a bit
  pub some : 0 < slice_index words at
  -- no word before it has one
  pub none : (i : ℕ) → i < at → slice_index words i ≡ 0

-- bit `i` of the marks is set exactly where word `i` has a bit
abbrev pub AreMarks : List ℕ → List ℕ → Type 0
AreMarks marks words = (i : ℕ) → bit_of marks i ≡ min 1 (slice_index words i)

-- one bit of some words is written
pub record WritesBit (old : List ℕ) (at b : ℕ) (new : List ℕ) : Type 0 where
  -- there are as many words as before
  pub count : length new ≡ length old
  -- the bit is the one that was written
  pub here : bit_of new at ≡ b
  -- each other bit stays
  pub others : (k : ℕ) → k ≢ at → bit_of new k ≡ bit_of old k
  -- each word except that of the bit stays
  pub words : (i : ℕ) → i ≢ at / 64 → slice_index new i ≡ slice_index old i

-- words have a bit for each place below `len`, with two levels of marks over them
pub record IsPlaceSet (len : ℕ) (bits words groups : List ℕ) : Type 0 where
  -- there are fewer than 2^32 places
  pub small : len < 2 ^ 32
  -- there are as many words of bits as the places take
  pub bits_len : length bits ≡ word_count len
  -- the first level of marks has a bit for each word of bits
  pub words_len : length words ≡ word_count (length bits)
  -- the second level of marks has a bit for each word of the first
  pub groups_len : length groups ≡ word_count (length words)
  -- no bit is set past the last place
  pub past : (k : ℕ) → len ≤ k → bit_of bits k ≡ 0
  -- a mark of the first level tells whether its word of bits has a bit
  pub words_marked : AreMarks words bits
  -- a mark of the second level tells whether its word of the first has a mark
  pub groups_marked : AreMarks groups words

-- for each place, whether its bit is set
abbrev pub flags_of : ℕ → List ℕ → List Bool
flags_of len bits = map (λ k. bit_of bits k == 1) (range_with_len 0 len)
