-- The pages that a cleaning leaves of a slot are those that the world with numbers says: the pages that stay as they were,
-- and the entries that stay on fresh pages, one full page after the other.
use Rattle.std.proofs.Common.{◌≡◌, ℕ, suc, ◌+◌, ◌-◌, ◌*◌, ◌<◌, ◌≤◌, ◌&&◌, ◌++◌, ◌∙◌, Bool, true, false, List, [], ◌∷◌, ap, append-nil, append_assoc, arith, drop, if◌then◌else◌, length, length-append, length-drop, length-take, map, min, nat_lt, refl, sym, take, take_all}
use Rattle.std.specs.Prelude.{not}
use Rattle.std.specs.Int.{div_ceil}
use Rattle.std.specs.List.{range_with_len}
use Rattle.std.proofs.lemmas.Bool.{le-ltb, lt-ltb, ltb-false, ltb-true}
use Rattle.std.proofs.lemmas.Grind.{div_ceil_times}
use Rattle.std.proofs.lemmas.List.{take-append-drop}
use Rattle.std.proofs.Math.Nat.{mul-le-mul_right}
use Rattle.nv_alloc.specs.Block.{BlockValue, numbers_of}
use Rattle.nv_cell.specs.Readers.{has_entry}
use Rattle.nv_entry.specs.Clean.{entries_of, page_goes, pages_stay, select}
use Rattle.nv_entry.specs.Held.{Retention}
use Rattle.nv_entry.specs.declared.item.Entry.{Entry}
use Rattle.nv_log.specs.Chain.{left_of, packed, parts_from}
use Rattle.nv_serial.specs.LogPages.{Page, entries_in, fresh, has_more, with_all, with_entry}
use Rattle.nv_serial.specs.Shown.{pages_told}
use Rattle.nv_serial.proofs.AtRestLogs.{told_entries}

-- ---- pages that stay as they were

abbrev pub on_pages : List Page → List (List Entry)
on_pages pages = map (λ (p : Page). p.entries) pages

same_entries : (pages : List Page) → entries_of (on_pages pages) ≡ entries_in pages
same_entries [] = refl
same_entries (p ∷ pages) = ap (λ (es : List Entry). p.entries ++ es) (same_entries pages)

module _ (r : Retention) where
  abbrev flags : List Entry → List Page → List Bool
  flags kept pages = pages_stay r kept (on_pages pages)

  -- pages without an entry stay
  fresh_stay : (kept : List Entry) (blocks : List BlockValue) → select (flags kept (pages_told blocks [])) (pages_told blocks []) ≡ pages_told blocks []
  fresh_stay kept [] = refl
  fresh_stay kept (b ∷ blocks) =
      ap (λ (l : List Page). record { number = b.number; entries = [] } ∷ l) (fresh_stay (kept ++ []) blocks)

  pub told_staying : (kept : List Entry) (blocks : List BlockValue) (parts : List (List Entry)) → length parts ≤ length blocks
      → select (flags kept (pages_told blocks parts)) (pages_told blocks parts)
      ≡ pages_told (left_of (pages_stay r kept parts) blocks) (left_of (pages_stay r kept parts) parts)
  told_staying kept [] [] le = refl
  told_staying kept [] (part ∷ parts) le = absurd (omega (arith, le))
  told_staying kept (b ∷ blocks) [] le = fresh_stay kept (b ∷ blocks)
  told_staying kept (b ∷ blocks) (part ∷ parts) le =
      let p : Page = record { number = b.number; entries = part } in
      let rest : List Page = pages_told blocks parts in
      let later : entries_of (on_pages rest) ≡ entries_of parts =
      same_entries rest ∙ told_entries blocks parts (omega (arith, le)) in
      ap (λ (goes : Bool). select (if goes then false ∷ flags kept rest else true ∷ flags (kept ++ part) rest) (p ∷ rest))
      (ap (page_goes r kept part) later)
      ∙ go (page_goes r kept part (entries_of parts)) (told_staying kept blocks parts (omega (arith, le)))
      (told_staying (kept ++ part) blocks parts (omega (arith, le))) where
        go : (goes : Bool)
            → select (flags kept (pages_told blocks parts)) (pages_told blocks parts)
            ≡ pages_told (left_of (pages_stay r kept parts) blocks) (left_of (pages_stay r kept parts) parts)
            → select (flags (kept ++ part) (pages_told blocks parts)) (pages_told blocks parts)
            ≡ pages_told (left_of (pages_stay r (kept ++ part) parts) blocks) (left_of (pages_stay r (kept ++ part) parts) parts)
            → let all = if goes then false ∷ pages_stay r kept parts else true ∷ pages_stay r (kept ++ part) parts in
            select (if goes then false ∷ flags kept (pages_told blocks parts) else true ∷ flags (kept ++ part) (pages_told blocks parts))
            (record { number = b.number; entries = part } ∷ pages_told blocks parts)
            ≡ pages_told (left_of all (b ∷ blocks)) (left_of all (part ∷ parts))
        go true gone stays = gone
        go false gone stays = ap (λ (l : List Page). record { number = b.number; entries = part } ∷ l) stays

-- ---- entries on fresh pages

none_more : (ns : List ℕ) → has_more (fresh ns) ≡ false
none_more ns = ap has_entry (none ns) where
  none : (ns : List ℕ) → entries_in (fresh ns) ≡ []
  none [] = refl
  none (n ∷ ns) = none ns

and_true : (a b : Bool) → a ≡ true → b ≡ false → (a && not b) ≡ true
and_true a b one other = ap (λ x. x && not b) one ∙ ap not other

module _ (size : ℕ) where
  all_more : (xs ys : List Entry) (pages : List Page) → with_all size (xs ++ ys) pages ≡ with_all size ys (with_all size xs pages)
  all_more [] ys pages = refl
  all_more (x ∷ xs) ys pages = all_more xs ys (with_entry size x pages)

  -- a full page gets no more
  past_full : (es : List Entry) (p : Page) (pages : List Page) → size ≤ length p.entries → with_all size es (p ∷ pages) ≡ p ∷ with_all size es pages
  past_full [] p pages full = refl
  past_full (e ∷ es) p pages full =
      ap (λ (b : Bool). with_all size es (if b && not (has_more pages) then record p { entries = p.entries ++ e ∷ [] } ∷ pages
      else p ∷ with_entry size e pages)) (le-ltb (length p.entries) size full)
      ∙ past_full es p (with_entry size e pages) full

  -- a page gets entries while there is room
  on_first : (es : List Entry) (n : ℕ) (has : List Entry) (ns : List ℕ) → length has + length es ≤ size
      → with_all size es (record { number = n; entries = has } ∷ fresh ns) ≡ record { number = n; entries = has ++ es } ∷ fresh ns
  on_first [] n has ns fits =
      ap (λ (l : List Entry). let p : Page = record { number = n; entries = l } in p ∷ fresh ns) (sym (append-nil has))
  on_first (e ∷ es) n has ns fits =
      let room : nat_lt (length has) size ≡ true = lt-ltb (length has) size (omega (arith, fits)) in
      let longer : length (has ++ e ∷ []) ≡ length has + 1 = length-append has (e ∷ []) in
      ap (λ (b : Bool). with_all size es (if b then record { number = n; entries = has ++ e ∷ [] } ∷ fresh ns
      else record { number = n; entries = has } ∷ with_entry size e (fresh ns)))
      (and_true (nat_lt (length has) size) (has_more (fresh ns)) room (none_more ns))
      ∙ on_first es n (has ++ e ∷ []) ns (omega (arith, fits, longer))
      ∙ ap (λ (l : List Entry). let p : Page = record { number = n; entries = l } in p ∷ fresh ns) (append_assoc has (e ∷ []) es)

  one_page : (es : List Entry) (n : ℕ) (ns : List ℕ) → length es ≤ size
      → with_all size es (fresh (n ∷ ns)) ≡ record { number = n; entries = es } ∷ fresh ns
  one_page es n ns fits = on_first es n [] ns (omega (arith, fits))

  full_page : (es : List Entry) (n : ℕ) (ns : List ℕ) → size ≤ length es
      → with_all size es (fresh (n ∷ ns)) ≡ record { number = n; entries = take size es } ∷ with_all size (drop size es) (fresh ns)
  full_page es n ns long =
      let some : length (take size es) ≡ size = length-take size es ∙ omega (arith, long) in
      ap (λ (l : List Entry). with_all size l (fresh (n ∷ ns))) (sym (take-append-drop size es))
      ∙ all_more (take size es) (drop size es) (fresh (n ∷ ns))
      ∙ ap (with_all size (drop size es)) (one_page (take size es) n ns (omega (arith, some)))
      ∙ past_full (drop size es) (record { number = n; entries = take size es }) (fresh ns) (omega (arith, some))

  -- ONE FULL PAGE AFTER THE OTHER: page by page from one on, where so many entries are left of all
  module _ (some : 0 < size) (all : ℕ) where
    abbrev ends_at : ℕ → ℕ
    ends_at k = min ((k + 1) * size) all

    told_from : (k : ℕ) (blocks : List BlockValue) (es : List Entry) → k * size + length es ≡ all → all ≤ (k + length blocks) * size
        → ((m : ℕ) → length blocks ≡ suc m → (k + m) * size < all)
        → pages_told blocks (parts_from (k * size) (map ends_at (range_with_len k (length blocks))) es) ≡ with_all size es (fresh (numbers_of blocks))
    told_from k [] [] count high low = refl
    told_from k [] (e ∷ es) count high low =
        let same : (k + 0) * size ≡ k * size = ap (λ (n : ℕ). n * size) (let z : k + 0 ≡ k = omega arith in z) in
        absurd (omega (arith, count, high, same))
    told_from k (b ∷ blocks) es count high low = go (nat_lt (length es) (size + 1)) refl (told_from (k + 1) blocks) where
      next : (k + 1) * size ≡ k * size + size
      next = omega arith

      more : (k + suc (length blocks)) * size ≡ ((k + 1) + length blocks) * size
      more = ap (λ (n : ℕ). n * size) (let s : k + suc (length blocks) ≡ (k + 1) + length blocks = omega arith in s)

      -- the last page
      last : (bs : List BlockValue) → length bs ≡ length blocks → length es ≤ size
          → pages_told (b ∷ bs) (parts_from (k * size) (map ends_at (range_with_len k (suc (length bs)))) es)
          ≡ with_all size es (fresh (numbers_of (b ∷ bs)))
      last [] same short =
          let end : ends_at k - k * size ≡ length es = omega (arith, next, count, short) in
          let whole : take (ends_at k - k * size) es ≡ es = ap (λ (n : ℕ). take n es) end ∙ take_all (length es) es (omega arith) in
          ap (λ (l : List Entry). let p : Page = record { number = b.number; entries = l } in p ∷ []) whole
          ∙ sym (one_page es b.number [] short)
      last (c ∷ bs) same short =
          let many : (k + 1) * size ≤ (k + length blocks) * size = mul-le-mul_right size (omega (arith, same)) in
          absurd (omega (arith, many, low (length blocks) refl, next, count, short))

      go : (t : Bool) → nat_lt (length es) (size + 1) ≡ t
          → ((rest : List Entry) → (k + 1) * size + length rest ≡ all → all ≤ ((k + 1) + length blocks) * size
          → ((m : ℕ) → length blocks ≡ suc m → ((k + 1) + m) * size < all)
          → pages_told blocks (parts_from ((k + 1) * size) (map ends_at (range_with_len (k + 1) (length blocks))) rest)
          ≡ with_all size rest (fresh (numbers_of blocks)))
          → pages_told (b ∷ blocks) (parts_from (k * size) (map ends_at (range_with_len k (suc (length blocks)))) es)
          ≡ with_all size es (fresh (numbers_of (b ∷ blocks)))
      go true is rest = last blocks refl (let lt = ltb-true (length es) (size + 1) is in omega (arith, lt))
      go false is rest =
          let long = ltb-false (length es) (size + 1) is in
          let left : length (drop size es) ≡ length es - size = length-drop size es in
          let here : ends_at k ≡ (k + 1) * size = omega (arith, next, count, long) in
          let part : ends_at k - k * size ≡ size = omega (arith, here, next) in
          ap (λ (n : ℕ). pages_told (b ∷ blocks) (take n es ∷ parts_from (ends_at k) (map ends_at (range_with_len (k + 1) (length blocks))) (drop n es))) part
          ∙ ap (λ (n : ℕ). record { number = b.number; entries = take size es }
          ∷ pages_told blocks (parts_from n (map ends_at (range_with_len (k + 1) (length blocks))) (drop size es))) here
          ∙ ap (λ (l : List Page). record { number = b.number; entries = take size es } ∷ l)
          (rest (drop size es) (omega (arith, left, next, count, long)) (omega (arith, high, more))
          (λ m same. let on : (k + suc m) * size ≡ ((k + 1) + m) * size = ap (λ (n : ℕ). n * size)
          (let s : k + suc m ≡ (k + 1) + m = omega arith in s) in
          let below = low (suc m) (ap suc same) in omega (arith, below, on)))
          ∙ sym (full_page es b.number (numbers_of blocks) (omega (arith, long)))

  -- THE ENTRIES THAT STAY on as many fresh pages as they fill
  pub told_packed : 0 < size → (blocks : List BlockValue) (es : List Entry) → length blocks ≡ div_ceil (length es) size
      → pages_told blocks (parts_from 0 (packed size (length es)) es) ≡ with_all size es (fresh (numbers_of blocks))
  told_packed some blocks es many =
      let times = div_ceil_times (length es) size some in
      let same : length blocks * size ≡ div_ceil (length es) size * size = ap (λ (n : ℕ). n * size) many in
      let zeroth : 0 ≡ 0 * size = omega arith in
      ap (λ (n : ℕ). pages_told blocks (parts_from 0 (map (λ k. min ((k + 1) * size) (length es)) (range_with_len 0 n)) es)) (sym many)
      ∙ ap (λ (n : ℕ). pages_told blocks (parts_from n (map (λ k. min ((k + 1) * size) (length es)) (range_with_len 0 (length blocks))) es)) zeroth
      ∙ told_from some (length es) 0 blocks es (omega arith) (omega (arith, times, same))
      (λ m shape. let one : suc m * size ≡ m * size + size = omega arith in
      let is : length blocks * size ≡ suc m * size = ap (λ (n : ℕ). n * size) shape in
      omega (arith, times, same, one, is))
