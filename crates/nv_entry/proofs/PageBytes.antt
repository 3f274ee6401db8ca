-- The pages of a file's bytes: after a write, past their end, and put together again.
use Rattle.std.proofs.Common.{zero, suc, ◌≡◌, ℕ, ◌+◌, ◌-◌, ◌*◌, ◌/◌, ◌<◌, ◌≤◌, ◌⊎◌, inl, inr, Bool, true, false, cond, max, List, [], ◌∷◌, ◌++◌, length, map, take, drop, replicate, Some, arith, refl, ap, sym, ◌∙◌}
use Rattle.std.specs.Prelude.{slice_index, slice_index_or}
use Rattle.std.specs.Int.{div_ceil}
use Rattle.std.specs.List.{flat_map, range_with_len}
use Rattle.std.proofs.Math.Nat.{div-mul-le_self, lt-div-mul-add, mul-le-mul_right}
use Rattle.std.proofs.lemmas.Bool.{cases_lt}
use Rattle.std.proofs.lemmas.Grind.{div_ceil_times}
use Rattle.std.proofs.lemmas.Nat.{le-div, div_below}
use Rattle.std.proofs.lemmas.List.{length-append, length-take, length-drop, length-replicate, get_or-take, get_or-drop, get_or_past, get_or_append_left, get_or-append_right}
use Rattle.std.proofs.lemmas.List.FromFn.{take-map-range_with_len, fill_by_all}
use Rattle.nv_base.specs.declared.node.Kind.TheVariants.{File}
use Rattle.nv_entry.specs.declared.item.BlockRun.{BlockRun}
use Rattle.nv_entry.specs.declared.item.Item.TheVariants.{Write}
use Rattle.nv_entry.specs.declared.node.NodeCopy.{NodeCopy}
use Rattle.nv_entry.specs.Bytes.{written, page_of, pages_touched}
use Rattle.nv_entry.specs.Keys.{in_run, pages_for}
use Rattle.nv_entry.specs.Sound.{HasText, Makes, rewritten}
use Rattle.nv_entry.proofs.Hiding.{run_from, run_parts}

-- ---- the bytes after a write

-- the bytes before a place, with zeros past the end
abbrev front : ℕ → List ℕ → List ℕ
front offset bytes = take offset (bytes ++ replicate (offset - length bytes) 0)

length-front : (offset : ℕ) (bytes : List ℕ) → length (front offset bytes) ≡ offset
length-front offset bytes =
    let zeros : List ℕ = replicate (offset - length bytes) 0 in
    omega (arith, length-take offset (bytes ++ zeros), length-append bytes zeros, length-replicate {A = ℕ} (offset - length bytes) 0)

length-front_text : (offset : ℕ) (text bytes : List ℕ) → length (front offset bytes ++ text) ≡ offset + length text
length-front_text offset text bytes = omega (arith, length-front offset bytes, length-append (front offset bytes) text)

pub length-written : (offset : ℕ) (text bytes : List ℕ) → length (written offset text bytes) ≡ max (length bytes) (offset + length text)
length-written offset text bytes =
    let rest = drop (offset + length text) bytes in
    omega (
      arith,
      length-front_text offset text bytes,
      length-append (front offset bytes ++ text) rest,
      length-drop
          (offset + length text) bytes,
    )

zeros_only : (n k : ℕ) → slice_index (replicate n 0) k ≡ 0
zeros_only zero k = refl
zeros_only (suc n) zero = refl
zeros_only (suc n) (suc k) = zeros_only n k

-- zeros past the end are not seen
pub padded : (n : ℕ) (bytes : List ℕ) (k : ℕ) → slice_index_or (bytes ++ replicate n 0) k 0 ≡ slice_index_or bytes k 0
padded n [] k = zeros_only n k
padded n (b ∷ bytes) zero = refl
padded n (b ∷ bytes) (suc k) = padded n bytes k

pub written-before : (offset : ℕ) (text bytes : List ℕ) (k : ℕ) → k < offset
    → slice_index_or (written offset text bytes) k 0 ≡ slice_index_or bytes k 0
written-before offset text bytes k lt =
    let n = length-front offset bytes in
    let m = length-front_text offset text bytes in
    get_or_append_left (front offset bytes ++ text) (drop (offset + length text) bytes) 0 k (omega arith)
    ∙ get_or_append_left (front offset bytes) text 0 k (omega arith)
    ∙ get_or-take offset (bytes ++ replicate (offset - length bytes) 0) k 0 lt
    ∙ padded (offset - length bytes) bytes k

pub written-behind : (offset : ℕ) (text bytes : List ℕ) (k : ℕ) → offset + length text ≤ k
    → slice_index_or (written offset text bytes) k 0 ≡ slice_index_or bytes k 0
written-behind offset text bytes k le =
    let end = offset + length text in
    get_or-append_right (front offset bytes ++ text) (drop end bytes) end k 0 (length-front_text offset text bytes) le
    ∙ get_or-drop end bytes (k - end) 0
    ∙ ap (λ (j : ℕ). slice_index_or bytes j 0) (omega arith)

-- ---- pages

-- a function of the numbers of a range goes by its values there
map-range_same : (f g : ℕ → ℕ) (a n : ℕ) → ((k : ℕ) → a ≤ k → k < a + n → f k ≡ g k)
    → map f (range_with_len a n) ≡ map g (range_with_len a n)
map-range_same f g a zero same = refl
map-range_same f g a (suc n) same =
    let first : f a ≡ g a = same a (omega arith) (omega arith) in
    let rest : map f (range_with_len (a + 1) n) ≡ map g (range_with_len (a + 1) n) = map-range_same f g (a + 1) n
    (λ k le lt. same k (omega arith) (omega arith)) in
    ap (λ (x : ℕ). x ∷ map f (range_with_len (a + 1) n)) first ∙ ap (λ (xs : List ℕ). g a ∷ xs) rest

pub page_of-same : (block page : ℕ) (xs ys : List ℕ)
    → ((k : ℕ) → page * block ≤ k → k < page * block + block → slice_index_or xs k 0 ≡ slice_index_or ys k 0)
    → page_of block page xs ≡ page_of block page ys
page_of-same block page xs ys same = map-range_same (λ (k : ℕ). slice_index_or xs k 0) (λ (k : ℕ). slice_index_or ys k 0)
    (page * block) block same

zeros_in : (a n : ℕ) → replicate {A = ℕ} n 0 ≡ map (λ (k : ℕ). let none : List ℕ = [] in slice_index_or none k 0) (range_with_len a n)
zeros_in a zero = refl
zeros_in a (suc n) = ap (λ (xs : List ℕ). 0 ∷ xs) (zeros_in (a + 1) n)

-- a page past the end has zeros
pub page_of-past : (block page : ℕ) (bytes : List ℕ) → length bytes ≤ page * block → replicate block 0 ≡ page_of block page bytes
page_of-past block page bytes past = zeros_in (page * block) block ∙ page_of-same block page [] bytes
    (λ k le lt. sym (get_or_past bytes k 0 (omega arith)))

-- two ranges, one behind the other
map-range_more : (f : ℕ → ℕ) (a m n : ℕ) → map f (range_with_len a m) ++ map f (range_with_len (a + m) n) ≡ map f (range_with_len a (m + n))
map-range_more f a zero n = ap (λ (b : ℕ). map f (range_with_len b n)) (omega arith) ∙ ap (λ (k : ℕ). map f (range_with_len a k))
    (omega arith)
map-range_more f a (suc m) n =
    let moved : map f (range_with_len (a + suc m) n) ≡ map f (range_with_len (a + 1 + m) n) = ap (λ (b : ℕ). map f (range_with_len b n))
    (omega arith) in
    let shown : suc (m + n) ≡ suc m + n = omega arith in
    ap (λ (xs : List ℕ). f a ∷ (map f (range_with_len (a + 1) m) ++ xs)) moved
    ∙ ap (λ (xs : List ℕ). f a ∷ xs) (map-range_more f (a + 1) m n)
    ∙ ap (λ (k : ℕ). map f (range_with_len a k)) shown

-- pages that follow each other are one range
pages-range : (f : ℕ → ℕ) (block a n : ℕ)
    → flat_map (λ page. map f (range_with_len (page * block) block)) (range_with_len a n) ≡ map f (range_with_len (a * block) (n * block))
pages-range f block a zero = let none : zero ≡ zero * block = omega arith in ap (λ (k : ℕ). map f (range_with_len (a * block) k)) none
pages-range f block a (suc n) =
    let place : (a + 1) * block ≡ a * block + block = omega arith in
    let count : block + n * block ≡ suc n * block = omega arith in
    ap (λ (xs : List ℕ). map f (range_with_len (a * block) block) ++ xs)
    (pages-range f block (a + 1) n ∙ ap (λ (b : ℕ). map f (range_with_len b (n * block))) place)
    ∙ map-range_more f (a * block) block (n * block)
    ∙ ap (λ (k : ℕ). map f (range_with_len (a * block) k)) count

-- a file is its pages, cut to its length
pub joined_pages : (block : ℕ) (bytes : List ℕ) → 0 < block
    → take (length bytes) (flat_map (λ page. page_of block page bytes) (range_with_len 0 (div_ceil (length bytes) block))) ≡ bytes
joined_pages block bytes some =
    let byte = λ (k : ℕ). slice_index_or bytes k 0 in
    let count : ℕ = div_ceil (length bytes) block in
    let start : 0 * block ≡ 0 = omega arith in
    ap (λ (xs : List ℕ). take (length bytes) xs) (pages-range byte block 0 count
    ∙ ap (λ (b : ℕ). map byte (range_with_len b (count * block))) start)
    ∙ take-map-range_with_len byte 0 (count * block) (length bytes) (div_ceil_times (length bytes) block some).0
    ∙ sym (fill_by_all byte bytes (length bytes) 0 refl (λ k lt. refl))

-- ---- how many pages a size has

-- no more than those within which it fits
pub pages_for-most : (block size most : ℕ) → 0 < block → size ≤ most * block → pages_for block size ≤ most
pages_for-most block size most some fits = go (cases_lt most (pages_for block size)) where
  go : (most < pages_for block size) ⊎ (pages_for block size ≤ most) → pages_for block size ≤ most
  go (inr le) = le
  go (inl lt) =
      let whole : (most + 1) * block ≤ pages_for block size * block = mul-le-mul_right block (omega arith) in
      let less : pages_for block size * block < size + block = (div_ceil_times size block some).1 in
      omega arith

pub pages_for-rises : (block a b : ℕ) → 0 < block → a ≤ b → pages_for block a ≤ pages_for block b
pages_for-rises block a b some le =
    let whole : b ≤ pages_for block b * block = (div_ceil_times b block some).0 in
    pages_for-most block a (pages_for block b) some (omega arith)

-- ---- the pages that a text touches

-- they end within a bound of pages within which the text ends
pub touched_end : (block offset count most : ℕ) → 0 < block → 0 < count → offset + count ≤ most * block
    → (offset / block < most) × (offset / block + pages_touched block offset count ≤ most)
touched_end block offset count most some any fits =
    let last : (offset + count - 1) / block < most = div_below (offset + count - 1) block most some (omega arith) in
    let first : offset / block < most = div_below offset block most some (omega arith) in
    let rises : offset / block ≤ (offset + count - 1) / block = le-div (offset / block) (offset + count - 1) block some
    (omega (arith, div-mul-le_self offset block)) in
    (first, omega arith)

-- at least one
pub touches_some : (block offset count : ℕ) → 0 < block → 0 < count → 0 < pages_touched block offset count
touches_some block offset count some any =
    let rises : offset / block ≤ (offset + count - 1) / block = le-div (offset / block) (offset + count - 1) block some
    (omega (arith, div-mul-le_self offset block)) in
    omega arith

-- a page before them ends by the offset, and one behind them begins where the text has ended
touches_not : (block offset count page : ℕ) → 0 < block → 0 < count
    → (page < offset / block) ⊎ (offset / block + pages_touched block offset count ≤ page)
    → (page * block + block ≤ offset) ⊎ (offset + count ≤ page * block)
touches_not block offset count page some any (inl before) =
    let whole : (page + 1) * block ≤ offset / block * block = mul-le-mul_right block (omega arith) in
    inl (omega (arith, div-mul-le_self offset block))
touches_not block offset count page some any (inr behind) =
    let last : ℕ = offset + count - 1 in
    let rises : offset / block ≤ last / block = le-div (offset / block) last block some (omega (arith, div-mul-le_self offset block)) in
    let whole : (last / block + 1) * block ≤ page * block = mul-le-mul_right block (omega arith) in
    let below : last < last / block * block + block = lt-div-mul-add some in
    inr (omega arith)

page_of-apart : (block page offset : ℕ) (text bytes : List ℕ) → (page * block + block ≤ offset) ⊎ (offset + length text ≤ page * block)
    → page_of block page (written offset text bytes) ≡ page_of block page bytes
page_of-apart block page offset text bytes (inl before) = page_of-same block page (written offset text bytes) bytes
    (λ k le lt. written-before offset text bytes k (omega arith))
page_of-apart block page offset text bytes (inr behind) = page_of-same block page (written offset text bytes) bytes
    (λ k le lt. written-behind offset text bytes k (omega arith))

-- the pages that a text touches lie below the size after the write
pub touched_within : (block offset : ℕ) (text old : List ℕ) → 0 < block → 0 < length text
    → offset / block + pages_touched block offset (length text) ≤ pages_for block (length (written offset text old))
touched_within block offset text old some any =
    let size : ℕ = length (written offset text old) in
    let whole : size ≤ pages_for block size * block = (div_ceil_times size block some).0 in
    (touched_end block offset (length text) (pages_for block size) some any (omega (arith, length-written offset text old))).1

-- a page that the text does not touch stays
pub page_of-untouched : (block offset page : ℕ) (text old : List ℕ) → 0 < block → 0 < length text
    → (page < offset / block) ⊎ (offset / block + pages_touched block offset (length text) ≤ page)
    → page_of block page (written offset text old) ≡ page_of block page old
page_of-untouched block offset page text old some any apart =
    page_of-apart block page offset text old (touches_not block offset (length text) page some any apart)

-- each page after a write is the one that the run has, or was there before
written_page : (bytes : ℕ → List ℕ) (block offset : ℕ) (text old : List ℕ) (run : BlockRun) (page : ℕ) → 0 < block → 0 < length text
    → offset + length text ≤ 65536 * block → HasText bytes block offset text old run
    → page_of block page (written offset text old) ≡ cond (in_run (offset / block) run page) (bytes (run.start + (page - offset / block)))
    (page_of block page old)
written_page bytes block offset text old run page some any fits has = go (in_run (offset / block) run page) refl where
  apart : in_run (offset / block) run page ≡ false → (page < offset / block) ⊎ (offset / block ≤ page)
      → (page < offset / block + run.len) ⊎ (offset / block + run.len ≤ page)
      → (page < offset / block) ⊎ (offset / block + pages_touched block offset (length text) ≤ page)
  apart q (inl lt) _ = inl lt
  apart q (inr le) (inl lt) =
      let end = touched_end block offset (length text) 65536 some any fits in
      let k : in_run (offset / block) run page ≡ true = run_from (offset / block) run page le lt (omega (arith, has.count, end.1)) in
      cc
  apart q (inr le) (inr past) = inr (omega (arith, has.count))

  go : (b : Bool) → in_run (offset / block) run page ≡ b
      → page_of block page (written offset text old) ≡ cond b (bytes (run.start + (page - offset / block))) (page_of block page old)
  go true q =
      let p = run_parts (offset / block) run page q in
      let place : offset / block + (page - offset / block) ≡ page = omega (arith, p) in
      sym (has.filled (page - offset / block) (omega (arith, p)) ∙ ap (λ (n : ℕ). page_of block n (written offset text old)) place)
  go false q =
      page_of-untouched block offset page text old some any (apart q (cases_lt page (offset / block))
      (cases_lt page (offset / block + run.len)))

-- the item of a write with one run is lawful
pub written_makes : (bytes : ℕ → List ℕ) (block offset : ℕ) (text : List ℕ) (run : BlockRun) (node : NodeCopy) → 0 < block → 0 < length text
    → offset + length text ≤ 65536 * block → node.kind ≡ File → length node.bytes ≡ node.size → node.size ≤ 65536 * block
    → HasText bytes block offset text node.bytes run
    → Makes bytes block (Write (offset / block) run (length (written offset text node.bytes))) (Some node)
    (Some (rewritten offset text node))
written_makes bytes block offset text run node some any fits file long old has = (
  omega (arith, has.count, touched_within block offset text node.bytes some any),
  pages_for-rises block node.size (length (written offset text node.bytes)) some (omega (arith, length-written offset text node.bytes)),
  record {
    file = file;
    same = refl;
    length = refl;
    fits = omega (arith, length-written offset text node.bytes);
    pages = λ page. written_page bytes block offset text node.bytes run page some any fits has;
  },
)
