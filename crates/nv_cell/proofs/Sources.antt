-- Where an item stood that is left of a list, and the parts of the entries that are left.
use Rattle.std.proofs.Common.{◌≡◌, ℕ, zero, suc, ◌+◌, ◌-◌, ◌<◌, ◌≤◌, Bool, true, false, nat_lt, List, [], ◌∷◌, ◌++◌, length, take, drop, replicate, get_or, arith, refl, ap, ◌∙◌, length-append, length-drop}
use Rattle.std.proofs.lemmas.Bool.{ltb-true, ltb-false, le-ltb}
use Rattle.std.proofs.lemmas.List.{length-take-le}
use Rattle.nv_entry.specs.declared.item.Entry.{Entry}
use Rattle.nv_entry.specs.Covered.{part_count, part_total}
use Rattle.nv_log.specs.Chain.{left_of}
use Rattle.nv_cell.specs.Cell.{page_block}
use Rattle.nv_cell.specs.Removal.{flags_by, part_flags, source}
use Rattle.nv_cell.proofs.RunFlags.{IsTotal, left_of-goes, left_of-stays}

pub at_source : {X : Type 0} (flags : List Bool) (xs : List X) (n : ℕ) (d : X) → length flags ≤ length xs
    → get_or (left_of flags xs) n d ≡ get_or xs (source flags n) d
at_source [] xs n d le = refl
at_source (b ∷ flags) [] n d le = absurd (omega arith)
at_source (true ∷ flags) (x ∷ xs) zero d le = refl
at_source (true ∷ flags) (x ∷ xs) (suc n) d le = at_source flags xs n d (omega (arith, le))
at_source (false ∷ flags) (x ∷ xs) n d le = at_source flags xs n d (omega (arith, le))

-- what is left comes from within, and was flagged as staying
pub source_within : {X : Type 0} (flags : List Bool) (xs : List X) (n : ℕ) → length flags ≤ length xs → n < length (left_of flags xs)
    → source flags n < length xs
source_within [] xs n le lt = lt
source_within (b ∷ flags) [] n le lt = absurd (omega arith)
source_within (true ∷ flags) (x ∷ xs) zero le lt = omega arith
source_within (true ∷ flags) (x ∷ xs) (suc n) le lt = omega (arith, source_within flags xs n (omega (arith, le)) (omega (arith, lt)))
source_within (false ∷ flags) (x ∷ xs) n le lt = omega (arith, source_within flags xs n (omega (arith, le)) lt)

pub source_goes : (k : ℕ) (flags : List Bool) (n : ℕ) → source (replicate k false ++ flags) n ≡ k + source flags n
source_goes zero flags n = omega arith
source_goes (suc k) flags n = omega (arith, source_goes k flags n)

pub source_front : (k : ℕ) (flags : List Bool) (n : ℕ) → n < k → source (replicate k true ++ flags) n ≡ n
source_front zero flags n lt = absurd (omega arith)
source_front (suc k) flags zero lt = refl
source_front (suc k) flags (suc n) lt = omega (arith, source_front k flags n (omega (arith, lt)))

pub source_behind : (k : ℕ) (flags : List Bool) (n : ℕ) → k ≤ n → source (replicate k true ++ flags) n ≡ k + source flags (n - k)
source_behind zero flags n le = let z : n - 0 ≡ n = omega arith in rw z (omega arith)
source_behind (suc k) flags zero le = absurd (omega arith)
source_behind (suc k) flags (suc n) le =
    let z : suc n - suc k ≡ n - k = omega arith in
    rw z (omega (arith, source_behind k flags n (omega (arith, le))))

-- the block that a part says is that of the same part before
pub block_left : (block : ℕ) (flags : List Bool) (es : List Entry) (n : ℕ)
    → page_block block (left_of flags es) n ≡ page_block block es (source (part_flags flags es) n)
block_left block [] es n = refl
block_left block (b ∷ flags) [] n = refl
block_left block (false ∷ flags) (e ∷ es) n =
    let s = source_goes (part_count e) (part_flags flags es) n in
    let m = source (part_flags flags es) n in
    let a : nat_lt (part_count e + m) (part_count e) ≡ false = le-ltb (part_count e + m) (part_count e) (omega arith) in
    let d : part_count e + m - part_count e ≡ m = omega arith in
    rw (s, a, d) (block_left block flags es n)
block_left block (true ∷ flags) (e ∷ es) n = go (nat_lt n (part_count e)) refl (block_left block flags es (n - part_count e)) where
  go : (b : Bool) → nat_lt n (part_count e) ≡ b
      → page_block block (left_of flags es) (n - part_count e) ≡ page_block block es (source (part_flags flags es) (n - part_count e))
      → page_block block (left_of (true ∷ flags) (e ∷ es)) n ≡ page_block block (e ∷ es) (source (part_flags (true ∷ flags) (e ∷ es)) n)
  go true q same =
      let s = source_front (part_count e) (part_flags flags es) n (ltb-true n (part_count e) q) in
      rw (s, q) refl
  go false q same =
      let s = source_behind (part_count e) (part_flags flags es) n (ltb-false n (part_count e) q) in
      let m = source (part_flags flags es) (n - part_count e) in
      let a : nat_lt (part_count e + m) (part_count e) ≡ false = le-ltb (part_count e + m) (part_count e) (omega arith) in
      let d : part_count e + m - part_count e ≡ m = omega arith in
      rw (s, a, d, q) same

-- how many items are left of a list that has so many of each entry
pub total_left : {X : Type 0} {count : Entry → ℕ} {total : List Entry → ℕ} → IsTotal count total → (flags : List Bool) (es : List Entry)
    (xs : List X) → length xs ≡ total es → length (left_of (flags_by count flags es) xs) ≡ total (left_of flags es)
total_left t [] es xs is = is
total_left t (b ∷ flags) [] xs is = is
total_left {count = count} t (true ∷ flags) (e ∷ es) xs is =
    let c = count e in
    let rest = drop c xs in
    let fits : c ≤ length xs = omega (arith, is, t.more e es) in
    ap length (left_of-stays c (flags_by count flags es) xs) ∙ length-append (take c xs) (left_of (flags_by count flags es) rest)
    ∙ omega (
      arith,
      length-take-le c xs fits,
      total_left t flags es rest (omega (arith, length-drop c xs, is, t.more e es)),
      t.more e (left_of flags es),
    )
total_left {count = count} t (false ∷ flags) (e ∷ es) xs is =
    let c = count e in
    ap length (left_of-goes c (flags_by count flags es) xs)
    ∙ total_left t flags es (drop c xs) (omega (arith, length-drop c xs, is, t.more e es))

-- they are no more than before
pub left_within : {count : Entry → ℕ} {total : List Entry → ℕ} → IsTotal count total → (flags : List Bool) (es : List Entry)
    → total (left_of flags es) ≤ total es
left_within t [] es = omega arith
left_within t (b ∷ flags) [] = omega arith
left_within t (true ∷ flags) (e ∷ es) = omega (arith, left_within t flags es, t.more e es, t.more e (left_of flags es))
left_within t (false ∷ flags) (e ∷ es) = omega (arith, left_within t flags es, t.more e es)

pub length-part_flags : (flags : List Bool) (es : List Entry) → length (part_flags flags es) ≤ part_total es
length-part_flags [] es = omega arith
length-part_flags (b ∷ flags) [] = omega arith
length-part_flags (b ∷ flags) (e ∷ es) =
    omega (arith, length-append (replicate (part_count e) b) (part_flags flags es), length-part_flags flags es, size (part_count e)) where
      size : (n : ℕ) → length (replicate n b) ≡ n
      size zero = refl
      size (suc n) = ap suc (size n)
