-- The blocks of a call, filled one after another.
use Rattle.std.proofs.Common.{◌≡◌, ℕ, zero, suc, ◌+◌, ◌-◌, ◌*◌, ◌<◌, ◌≤◌, ◌==◌, Bool, true, false, cond, min, List, [], ◌∷◌, ◌++◌, length, map, replicate, take, drop, Option, Some, arith, refl, ap, sym, ◌∙◌, subst}
use Rattle.std.specs.Prelude.{Result, Ok, Err, IfSome, OnErr, fold, option_and_then}
use Rattle.std.specs.List.{AllByRecursion, range_with_len, refill}
use Rattle.std.specs.Option.{ForSome}
use Rattle.std.proofs.Math.Seq.{take-append_seam}
use Rattle.std.proofs.lemmas.List.{length-append, length-drop, length-replicate, length-take, take_min}
use Rattle.std.proofs.lemmas.List.Sums.{fold-append}
use Rattle.std.proofs.lemmas.List.FromFn.{length-map-range_with_len, map-range_with_len_more, take-map-range_with_len}
use Rattle.nv_alloc.specs.Block.{AreSized, BlockValue, numbers_of}
use Rattle.nv_alloc.specs.Queue.{QueueValue}
use Rattle.nv_alloc.specs.QueueLends.{with_bytes_at}
use Rattle.nv_entry.specs.Bytes.{read_at}
use Rattle.nv_base.specs.declared.numbers.Handle.{Handle}
use Rattle.nv_cell.specs.Cell.{CellValue, IsCell}
use Rattle.nv_cell.specs.Pages.{block_at_page, slot_bytes}
use Rattle.nv_cell.proofs.PageBlocks.{page_sized}
use Rattle.nv_calls.specs.Filling.{overlaid, text_part}
use Rattle.nv_calls.specs.FillPages.{HasOtherBytes, block_for, cut_page, filled, page_in, page_with}
use Rattle.nv_calls.specs.Nodes.{cell_of}
use Rattle.nv_calls.proofs.Fills.{old_len}

-- the cell of an inode has blocks of the size that all cells have
pub found_size : (cells : List (ℕ × CellValue)) (ino size : ℕ) (c : CellValue) → AllByRecursion (λ x. x.1.state.block ≡ size) cells
    → Some c ≡ cell_of cells ino → c.state.block ≡ size
found_size [] ino size c all h = cc
found_size (x ∷ cells) ino size c all h = go (x.0 == ino) h (found_size cells ino size c all.1) where
  go : (b : Bool) → Some c ≡ cond b (Some x.1) (cell_of cells ino) → (Some c ≡ cell_of cells ino → c.state.block ≡ size)
      → c.state.block ≡ size
  go true k rest = let same : x.1 ≡ c = cc in subst (λ (v : CellValue). v.state.block ≡ size) same all.0
  go false k rest = rest k

-- a page has the bytes of a block
pub page_len : (size : ℕ) (cells : List (ℕ × CellValue)) (file : Handle) (page : ℕ) (old : Option BlockValue)
    → old ≡ block_for cells file page
    → ForSome old (λ b. length b.bytes ≡ size) → length (page_in cells size file page) ≡ size
page_len size cells file page old is sized = go (block_for cells file page)
    (subst (λ o. ForSome o (λ b. length b.bytes ≡ size)) is sized) where
      go : (o : Option BlockValue) → ForSome o (λ b. length b.bytes ≡ size) → length (slot_bytes size o) ≡ size
      go o h = old_len size o h

-- so has each page of a file that a cell has
pub page_of_cell : (size : ℕ) (cells : List (ℕ × CellValue)) (file : Handle) (page : ℕ) (c : CellValue)
    → Some c ≡ cell_of cells file.ino → IsCell c.state → AllByRecursion (λ x. x.1.state.block ≡ size) cells
    → length (page_in cells size file page) ≡ size
page_of_cell size cells file page c is sound all =
    ap (λ (o : Option CellValue). length (slot_bytes size (option_and_then (λ x. block_at_page x.state page) o))) (sym is)
    ∙ old_len size (block_at_page c.state page) (λ b q.
    subst (λ o. IfSome o (λ x. length x.bytes ≡ c.state.block)) q (page_sized c.state page sound.chain.rising sound.blocks.sized)
    ∙ found_size cells file.ino size c all is)

-- ---- parts of a text

drop-range : {X : Type 0} (f : ℕ → X) (k a n : ℕ) → drop k (map f (range_with_len a n)) ≡ map f (range_with_len (a + k) (n - k))
drop-range f zero a zero = refl
drop-range f zero a (suc n) =
    let from : a ≡ a + 0 = omega arith in
    let left : suc n ≡ suc n - 0 = omega arith in
    ap (λ (b : ℕ). map f (range_with_len b (suc n))) from ∙ ap (λ (m : ℕ). map f (range_with_len (a + 0) m)) left
drop-range f (suc k) a zero =
    let none : 0 ≡ 0 - suc k = omega arith in
    ap (λ (m : ℕ). map f (range_with_len (a + suc k) m)) none
drop-range f (suc k) a (suc n) =
    let from : a + 1 + k ≡ a + suc k = omega arith in
    let left : n - k ≡ suc n - suc k = omega arith in
    drop-range f k (a + 1) n
    ∙ ap (λ (b : ℕ). map f (range_with_len b (n - k))) from
    ∙ ap (λ (m : ℕ). map f (range_with_len (a + suc k) m)) left

pub part_read : (byte_at : ℕ → ℕ) (at most count : ℕ)
    → read_at at most (text_part byte_at 0 count) ≡ text_part byte_at at (min most (count - at))
part_read byte_at at most count =
    let left : List ℕ = map byte_at (range_with_len at (count - at)) in
    let dropped : drop at (map byte_at (range_with_len 0 count)) ≡ left = drop-range byte_at at 0 count
    ∙ ap (λ (b : ℕ). map byte_at (range_with_len b (count - at))) (omega arith) in
    ap (take most) dropped
    ∙ sym (take_min most left)
    ∙ ap (λ (n : ℕ). take (min most n) left) (length-map-range_with_len byte_at at (count - at))
    ∙ take-map-range_with_len byte_at at (count - at) (min most (count - at)) (omega arith)

pub part_is : (byte_at : ℕ → ℕ) (block offset count page at from to : ℕ) (old : List ℕ) → at ≡ page * block - offset
    → from ≡ offset - page * block → to ≡ from + min (block - from) (count - at)
    → overlaid from (text_part byte_at at (to - from)) old ≡ page_with block offset (text_part byte_at 0 count) page old
part_is byte_at block offset count page at from to old a f t =
    let n : to - from ≡ min (block - from) (count - at) = omega (arith, t) in
    ap (λ (m : ℕ). overlaid from (text_part byte_at at m) old) n
    ∙ ap (λ (xs : List ℕ). overlaid from xs old) (sym (part_read byte_at at (block - from) count))
    ∙ ap (λ (x : ℕ). overlaid from (read_at x (block - from) (text_part byte_at 0 count)) old) a
    ∙ ap (λ (x : ℕ). overlaid x (read_at (page * block - offset) (block - x) (text_part byte_at 0 count)) old) f

-- a page with a part over it has as many bytes as before
pub length-over : (from : ℕ) (part old : List ℕ) → length part ≤ length old - from → length (overlaid from part old) ≡ length old
length-over from part old few =
    let rest : List ℕ = drop (from + length part) old in
    omega (
      arith,
      length-append (take from old ++ part) rest,
      length-append (take from old) part,
      length-take from old,
      length-drop (from + length part) old,
      few,
    )

pub length-with : (block offset : ℕ) (text : List ℕ) (page : ℕ) (old : List ℕ) → length old ≡ block
    → length (page_with block offset text page old) ≡ block
length-with block offset text page old len =
    let from : ℕ = offset - page * block in
    let rest : List ℕ = drop (page * block - offset) text in
    length-over from (take (block - from) rest) old (omega (arith, length-take (block - from) rest, len)) ∙ len

-- ---- one more block

-- as many bytes in the place of all
refill-all : (old w : List ℕ) → length w ≡ length old → refill (length old) old w ≡ w
refill-all old w len =
    let rest : List ℕ = drop (length w) old in
    ap (λ (n : ℕ). take n (w ++ rest)) (sym len) ∙ take-append_seam w rest

pub filled_more : (size : ℕ) (f : ℕ → List ℕ) (blocks : List BlockValue) (a i page : ℕ) → AreSized size blocks
    → length (f page) ≡ size → a + i ≡ page → i < length blocks
    → with_bytes_at (filled (map f (range_with_len a i)) blocks) i (f page) ≡ filled (map f (range_with_len a (i + 1))) blocks
filled_more size f [] a i page sized len at lt = absurd (omega arith)
filled_more size f (b ∷ blocks) a zero page sized len at lt =
    let e : page ≡ a = omega (arith, at) in
    ap (λ (xs : List ℕ). record b { bytes = xs } ∷ blocks) (refill-all b.bytes (f page) (len ∙ sym sized.0))
    ∙ ap (λ (p : ℕ). record b { bytes = f p } ∷ blocks) e
filled_more size f (b ∷ blocks) a (suc i) page sized len at lt =
    let count : suc (i + 1) ≡ suc i + 1 = omega arith in
    ap (λ (bs : List BlockValue). record b { bytes = f a } ∷ bs)
    (filled_more size f blocks (a + 1) i page sized.1 len (omega (arith, at)) (omega (arith, lt)))
    ∙ ap (λ (n : ℕ). filled (map f (range_with_len a n)) (b ∷ blocks)) count

-- the first block alone
pub filled_first : (size : ℕ) (w : List ℕ) (blocks : List BlockValue) → AreSized size blocks → length w ≡ size → 0 < length blocks
    → with_bytes_at blocks 0 w ≡ filled (w ∷ []) blocks
filled_first size w [] sized len some = absurd (omega arith)
filled_first size w (b ∷ blocks) sized len some =
    ap (λ (xs : List ℕ). record b { bytes = xs } ∷ blocks) (refill-all b.bytes w (len ∙ sym sized.0))

pub length-cut : (block place : ℕ) (old : List ℕ) → length old ≡ block → place ≤ block → length (cut_page block place old) ≡ block
length-cut block place old len within =
    omega (
      arith,
      length-append (take place old) (replicate (block - place) 0),
      length-take place old,
      length-replicate {A = ℕ}
          (block - place) 0,
      len,
      within,
    )

pub filled_numbers : (pages : List (List ℕ)) (blocks : List BlockValue) → numbers_of (filled pages blocks) ≡ numbers_of blocks
filled_numbers [] blocks = refl
filled_numbers (bytes ∷ rest) [] = refl
filled_numbers (bytes ∷ rest) (b ∷ blocks) = ap (λ (l : List ℕ). b.number ∷ l) (filled_numbers rest blocks)

pub length_filled : (pages : List (List ℕ)) (blocks : List BlockValue) → length (filled pages blocks) ≡ length blocks
length_filled [] blocks = refl
length_filled (bytes ∷ rest) [] = refl
length_filled (bytes ∷ rest) (b ∷ blocks) = ap suc (length_filled rest blocks)

pub filled_none : (pages : List (List ℕ)) → filled pages [] ≡ []
filled_none [] = refl
filled_none (bytes ∷ rest) = refl

pub written_numbers : (blocks : List BlockValue) (place : ℕ) (bytes : List ℕ)
    → numbers_of (with_bytes_at blocks place bytes) ≡ numbers_of blocks
written_numbers [] place bytes = refl
written_numbers (b ∷ blocks) zero bytes = refl
written_numbers (b ∷ blocks) (suc place) bytes = ap (λ (l : List ℕ). b.number ∷ l) (written_numbers blocks place bytes)

-- a queue whose first blocks are filled, and one of whose blocks has other bytes then
module _ (pages : List (List ℕ)) (old now : QueueValue) (is : now ≡ record old { blocks = filled pages old.blocks }) where
  pub as_many : length now.blocks ≡ length old.blocks
  as_many = ap (λ (q : QueueValue). length q.blocks) is ∙ length_filled pages old.blocks

  pub same_size : now.size ≡ old.size
  same_size = ap (λ (q : QueueValue). q.size) is

  pub filled_other : HasOtherBytes old now
  filled_other = record {
    numbers = ap (λ (q : QueueValue). numbers_of q.blocks) is ∙ filled_numbers pages old.blocks;
    size = same_size;
    room = ap (λ (q : QueueValue). q.room) is;
  }

  pub written_other : (new : QueueValue) (place : ℕ) (bytes : List ℕ)
      → new ≡ record now { blocks = with_bytes_at now.blocks place bytes } → HasOtherBytes old new
  written_other new place bytes w = record {
    numbers = ap (λ (q : QueueValue). numbers_of q.blocks) w ∙ written_numbers now.blocks place bytes ∙ filled_other.numbers;
    size = ap (λ (q : QueueValue). q.size) w ∙ same_size;
    room = ap (λ (q : QueueValue). q.room) w ∙ filled_other.room;
  }

pub queue_more : (f : ℕ → List ℕ) (old now new : QueueValue) (bytes : List ℕ) (a i page : ℕ) → AreSized old.size old.blocks
    → length (f page) ≡ old.size → a + i ≡ page → i < length old.blocks
    → now ≡ record old { blocks = filled (map f (range_with_len a i)) old.blocks }
    → new ≡ record now { blocks = with_bytes_at now.blocks i bytes } → bytes ≡ f page
    → new ≡ record old { blocks = filled (map f (range_with_len a (i + 1))) old.blocks }
queue_more f old now new bytes a i page sized len at lt is w same =
    w
    ∙ ap (λ (xs : List ℕ). record now { blocks = with_bytes_at now.blocks i xs }) same
    ∙ ap (λ (q : QueueValue). record q { blocks = with_bytes_at q.blocks i (f page) }) is
    ∙ ap (λ (bs : List BlockValue). record old { blocks = bs }) (filled_more old.size f old.blocks a i page sized len at lt)

pub always_err : {T E : Type 0} (r : Result T E) (P : Type 0) → P → OnErr r P
always_err (Ok x) P h = tt
always_err (Err e) P h = h

-- ---- one more ask

pub fold_more : {S A : Type 0} (f : S → A → S) (s : S) (g : ℕ → A) (a i page : ℕ) → a + i ≡ page
    → f (fold f s (map g (range_with_len a i))) (g page) ≡ fold f s (map g (range_with_len a (i + 1)))
fold_more f s g a i page at =
    sym (fold-append f s (map g (range_with_len a i)) (g page ∷ []))
    ∙ ap (fold f s) (sym (map-range_with_len_more g a i page at))
