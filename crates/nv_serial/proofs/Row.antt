-- The row of free blocks in the order in which an actor takes them, and what one asking leaves of it.
use Rattle.std.proofs.Common.{◌≡◌, ◌≢◌, ℕ, zero, suc, ◌+◌, ◌-◌, ◌%◌, ◌<◌, ◌≤◌, ◌++◌, ◌∙◌, Bool, true, false, List, [], ◌∷◌, add-one, ap, append_assoc, arith, drop, get_or-set_other, get_or-set_same, length, mod-lt, nat_lt, refl, slice_index_or, slice_set, sym, take}
use Rattle.std.proofs.Math.Nat.{add-mod_left, mod-add-mod, mod-eq_of_lt}
use Rattle.std.proofs.lemmas.Bool.{ltb-false, ltb-true}
use Rattle.std.proofs.lemmas.List.{map-append, take-append-drop}
use Rattle.nv_alloc.specs.Block.{BlockValue, numbers_of}
use Rattle.nv_alloc.specs.FreeList.{FreeBlocks}
use Rattle.nv_machine.specs.World.{no_list}
use Rattle.nv_serial.specs.Row.{row}

-- ---- places in a circle

same_or : (m r d : ℕ) → r < m → 0 < d → d < m → (r + d) % m ≢ r
same_or m r d below some less e = go (nat_lt (r + d) m) refl where
  go : (t : Bool) → nat_lt (r + d) m ≡ t → ⊥
  go true is =
      let small : r + d < m = ltb-true (r + d) m is in
      let same : (r + d) % m ≡ r + d = mod-eq_of_lt small in
      absurd (omega (arith, same, e, some))
  go false is =
      let ge : m ≤ r + d = ltb-false (r + d) m is in
      let over : r + d ≡ m + ((r + d) - m) = omega (arith, ge) in
      let small : (r + d) - m < m = omega (arith, below, less) in
      let same : (r + d) % m ≡ (r + d) - m = ap (λ n. n % m) over ∙ add-mod_left m ((r + d) - m) ∙ mod-eq_of_lt small in
      absurd (omega (arith, same, e, less, ge, some))

after_place : (a k j m : ℕ) → k < j → j < m → (a + j) % m ≢ (a + k) % m
after_place a k j m before below e =
    let d : ℕ = j - k in
    let parts : a + j ≡ (a + k) + d = omega (arith, before) in
    let some : 0 < m = omega (arith, below) in
    same_or m ((a + k) % m) d (mod-lt (a + k) some) (omega (arith, before)) (omega (arith, below))
    (mod-add-mod (a + k) m d ∙ ap (λ n. n % m) (sym parts) ∙ e)

pub apart : (a k j m : ℕ) → k < m → j < m → k ≢ j → (a + k) % m ≢ (a + j) % m
apart a k j m kb jb other e = go (nat_lt k j) refl where
  go : (t : Bool) → nat_lt k j ≡ t → ⊥
  go true is = after_place a k j m (ltb-true k j is) jb (sym e)
  go false is = after_place a j k m (let no = ltb-false k j is in let ne : k ≢ j = other in grind (arith, no, ne)) kb e

-- ---- the row

pub row_split : (cpus actor from one more : ℕ) (lists : List FreeBlocks)
    → row cpus actor from (one + more) lists ≡ row cpus actor from one lists ++ row cpus actor (from + one) more lists
row_split cpus actor from zero more lists =
    let same : zero + more ≡ more = omega arith in
    let stays : from + zero ≡ from = omega arith in
    ap (λ n. row cpus actor from n lists) same ∙ ap (λ n. row cpus actor n more lists) (sym stays)
row_split cpus actor from (suc one) more lists =
    let shape : suc one + more ≡ suc (one + more) = omega arith in
    let on : suc from + one ≡ from + suc one = omega arith in
    let here = numbers_of (slice_index_or lists ((actor + from) % cpus) no_list).blocks in
    ap (λ n. row cpus actor from n lists) shape
    ∙ ap (λ rest. here ++ rest) (row_split cpus actor (suc from) one more lists
    ∙ ap (λ n. row cpus actor (suc from) one lists ++ row cpus actor n more lists) on)
    ∙ sym (append_assoc here (row cpus actor (suc from) one lists) (row cpus actor (from + suc one) more lists))

-- another list changes nothing of it
pub row_other : (cpus actor from count place : ℕ) (new : FreeBlocks) (lists : List FreeBlocks)
    → ((k : ℕ) → from ≤ k → k < from + count → (actor + k) % cpus ≢ place)
    → row cpus actor from count (slice_set lists place new) ≡ row cpus actor from count lists
row_other cpus actor from zero place new lists other = refl
row_other cpus actor from (suc count) place new lists other =
    ap (λ (l : FreeBlocks). numbers_of l.blocks ++ row cpus actor (suc from) count (slice_set lists place new))
    (get_or-set_other lists place ((actor + from) % cpus) new no_list (other from (omega arith) (omega arith)))
    ∙ ap (λ rest. numbers_of (slice_index_or lists ((actor + from) % cpus) no_list).blocks ++ rest)
    (row_other cpus actor (suc from) count place new lists (λ k low high. other k (omega (arith, low)) (omega (arith, high))))

-- ---- one list is asked

module _ (cpus actor asked place : ℕ) (at : place ≡ (actor + asked) % cpus) (lists : List FreeBlocks) (many : length lists ≡ cpus)
    (inside : asked < cpus) (wanted : ℕ) where
  abbrev pub here : FreeBlocks
  here = slice_index_or lists place no_list

  abbrev pub left : FreeBlocks
  left = record here { blocks = drop wanted here.blocks }

  abbrev pub less : List FreeBlocks
  less = slice_set lists place left

  there : place < length lists
  there = let lt : (actor + asked) % cpus < cpus = mod-lt (actor + asked) (omega (arith, inside)) in omega (arith, lt, many, at)

  before_same : row cpus actor 0 asked less ≡ row cpus actor 0 asked lists
  before_same = row_other cpus actor 0 asked place left lists
      (λ k low high e. apart actor k asked cpus (omega (arith, high, inside)) inside (λ x. absurd (omega (arith, x, high))) (e ∙ at))

  behind_same : row cpus actor (suc asked) (cpus - suc asked) less ≡ row cpus actor (suc asked) (cpus - suc asked) lists
  behind_same = row_other cpus actor (suc asked) (cpus - suc asked) place left lists
      (λ k low high e. apart actor k asked cpus (omega (arith, high, inside)) inside (λ x. absurd (omega (arith, x, low))) (e ∙ at))

  three : (some : List FreeBlocks) → row cpus actor 0 cpus some
      ≡ row cpus actor 0 asked some ++ (numbers_of (slice_index_or some place no_list).blocks ++ row cpus actor (suc asked) (cpus - suc asked) some)
  three some =
      let all : cpus ≡ asked + suc (cpus - suc asked) = omega (arith, inside) in
      let from : 0 + asked ≡ asked = omega arith in
      ap (λ n. row cpus actor 0 n some) all ∙ row_split cpus actor 0 asked (suc (cpus - suc asked)) some
      ∙ ap (λ n. row cpus actor 0 asked some ++ row cpus actor n (suc (cpus - suc asked)) some) from
      ∙ ap (λ n. row cpus actor 0 asked some ++ (numbers_of (slice_index_or some n no_list).blocks ++ row cpus actor (suc asked) (cpus - suc asked) some)) (sym at)

  left_is : slice_index_or less place no_list ≡ left
  left_is = get_or-set_same lists place left no_list there

  module _ (past : row cpus actor 0 asked lists ≡ []) where
    abbrev behind : List ℕ
    behind = row cpus actor (suc asked) (cpus - suc asked) lists

    -- what is taken is the front of what the row has
    pub taken_row : row cpus actor 0 cpus lists ≡ numbers_of (take wanted here.blocks) ++ row cpus actor 0 cpus less
    taken_row =
        three lists ∙ ap (λ front. front ++ (numbers_of here.blocks ++ behind)) past
        ∙ ap (λ mid. mid ++ behind) parts
        ∙ append_assoc (numbers_of (take wanted here.blocks)) (numbers_of (drop wanted here.blocks)) behind
        ∙ ap (λ rest. numbers_of (take wanted here.blocks) ++ rest) (sym after) where
          parts : numbers_of here.blocks ≡ numbers_of (take wanted here.blocks) ++ numbers_of (drop wanted here.blocks)
          parts = ap numbers_of (sym (take-append-drop wanted here.blocks))
              ∙ map-append (λ (b : BlockValue). b.number) (take wanted here.blocks) (drop wanted here.blocks)

          after : row cpus actor 0 cpus less ≡ numbers_of (drop wanted here.blocks) ++ behind
          after =
              three less ∙ ap (λ front. front ++ (numbers_of (slice_index_or less place no_list).blocks ++ row cpus actor (suc asked) (cpus - suc asked) less)) (before_same ∙ past)
              ∙ ap (λ (l : FreeBlocks). numbers_of l.blocks ++ row cpus actor (suc asked) (cpus - suc asked) less) left_is
              ∙ ap (λ rest. numbers_of (drop wanted here.blocks) ++ rest) behind_same

    -- a list that has no more than is wanted is empty then
    pub past_more : length here.blocks ≤ wanted → row cpus actor 0 (suc asked) less ≡ []
    past_more few =
        let shape : suc asked ≡ asked + 1 = sym (add-one asked) in
        let from : 0 + asked ≡ asked = omega arith in
        ap (λ n. row cpus actor 0 n less) shape ∙ row_split cpus actor 0 asked 1 less
        ∙ ap (λ front. front ++ row cpus actor (0 + asked) 1 less) (before_same ∙ past)
        ∙ ap (λ n. row cpus actor n 1 less) from
        ∙ ap (λ n. numbers_of (slice_index_or less n no_list).blocks ++ []) (sym at)
        ∙ ap (λ (l : FreeBlocks). numbers_of l.blocks ++ []) left_is
        ∙ ap (λ (bs : List BlockValue). numbers_of bs ++ []) (drop_past wanted here.blocks few) where
          drop_past : (n : ℕ) (bs : List BlockValue) → length bs ≤ n → drop n bs ≡ []
          drop_past zero [] h = refl
          drop_past (suc n) [] h = refl
          drop_past zero (b ∷ bs) h = absurd (omega (arith, h))
          drop_past (suc n) (b ∷ bs) h = drop_past n bs (omega (arith, h))
