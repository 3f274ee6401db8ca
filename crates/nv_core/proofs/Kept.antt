-- The blocks that a cell keeps, entry by entry and part by part.
use Rattle.std.proofs.Common.{◌≡◌, ℕ, zero, suc, ◌+◌, ◌<◌, ◌≤◌, List, [], ◌∷◌, ◌++◌, drop, length, map, replicate, take, Option, Some, None, slice_get, slice_index_or, ◌∙◌, ap, arith, refl, sym}
use Rattle.std.proofs.Common.{append_assoc, append-nil, drop-drop, length-append}
use Rattle.std.proofs.lemmas.List.{length-replicate}
use Rattle.std.proofs.lemmas.List.Sums.{sum_by-cons}
use Rattle.std.specs.List.{sum_by}
use Rattle.nv_alloc.specs.Block.{BlockValue}
use Rattle.nv_book.specs.Book.{BookState}
use Rattle.nv_cell.specs.declared.mark.Mark.{Mark}
use Rattle.nv_cell.specs.declared.mark.Mark.TheVariants.{Current}
use Rattle.nv_cell.specs.Cell.{CellState, CellValue, log_of}
use Rattle.nv_cell.specs.Numbers.{part_base}
use Rattle.nv_cell.specs.Readers.{marks_by_entry}
use Rattle.nv_entry.specs.declared.item.Entry.{Entry}
use Rattle.nv_entry.specs.Covered.{part_count, part_total}
use Rattle.nv_core.specs.Reports.{births, kept_among, kept_at, one_of}

-- ---- the parts of an entry

-- one part more
pub kept_more : (book : BookState) (birth k : ℕ) (marks : List Mark) (blocks : List (Option BlockValue)) → k < length marks
    → k < length blocks → kept_among book (replicate (k + 1) birth) marks blocks
    ≡ kept_among book (replicate k birth) marks blocks + one_of book birth (slice_index_or marks k Current) (slice_index_or blocks k None)
kept_more book birth k marks blocks in_marks in_blocks =
    let on : k + 1 ≡ suc k = omega arith in
    rw on (go k marks blocks in_marks in_blocks) where
      go : (k : ℕ) (marks : List Mark) (blocks : List (Option BlockValue)) → k < length marks → k < length blocks
          → kept_among book (replicate (suc k) birth) marks blocks
          ≡ kept_among book (replicate k birth) marks blocks + one_of book birth (slice_index_or marks k Current)
          (slice_index_or blocks k None)
      go k [] blocks in_marks in_blocks = absurd (omega (arith, in_marks))
      go k (m ∷ marks) [] in_marks in_blocks = absurd (omega (arith, in_blocks))
      go zero (m ∷ marks) (b ∷ blocks) in_marks in_blocks = omega arith
      go (suc k) (m ∷ marks) (b ∷ blocks) in_marks in_blocks =
          let rest = go k marks blocks (omega (arith, in_marks)) (omega (arith, in_blocks)) in
          omega (arith, rest)

-- ---- the entries of a log

kept_none : (book : BookState) (births : List ℕ) (blocks : List (Option BlockValue)) → kept_among book births [] blocks ≡ 0
kept_none book [] blocks = refl
kept_none book (birth ∷ births) blocks = refl

kept_blockless : (book : BookState) (births : List ℕ) (marks : List Mark) → kept_among book births marks [] ≡ 0
kept_blockless book [] marks = refl
kept_blockless book (birth ∷ births) [] = refl
kept_blockless book (birth ∷ births) (m ∷ marks) = refl

kept_append : (book : BookState) (xs ys : List ℕ) (marks : List Mark) (blocks : List (Option BlockValue))
    → kept_among book (xs ++ ys) marks blocks
    ≡ kept_among book xs marks blocks + kept_among book ys (drop (length xs) marks) (drop (length xs) blocks)
kept_append book [] ys marks blocks = omega arith
kept_append book (x ∷ xs) ys [] blocks =
    let none = kept_none book ys (drop (suc (length xs)) blocks) in omega (arith, none)
kept_append book (x ∷ xs) ys (m ∷ marks) [] =
    let none = kept_blockless book ys (drop (length xs) marks) in omega (arith, none)
kept_append book (x ∷ xs) ys (m ∷ marks) (b ∷ blocks) =
    let rest = kept_append book xs ys marks blocks in omega (arith, rest)

births_cut : (log : List Entry) (i : ℕ) → births log ≡ births (take i log) ++ births (drop i log)
births_cut log zero = refl
births_cut [] (suc i) = refl
births_cut (e ∷ log) (suc i) =
    ap (λ (l : List ℕ). replicate (part_count e) e.epoch ++ l) (births_cut log i)
    ∙ sym (append_assoc (replicate (part_count e) e.epoch) (births (take i log)) (births (drop i log)))

pub length_births : (log : List Entry) → length (births log) ≡ part_total log
length_births [] = refl
length_births (e ∷ log) =
    length-append (replicate (part_count e) e.epoch) (births log)
    ∙ rw (length-replicate (part_count e) e.epoch, length_births log) refl

-- no more than in the whole log
pub kept_within : (book : BookState) (log : List Entry) (i : ℕ) (marks : List Mark) (blocks : List (Option BlockValue))
    → kept_among book (births (take i log)) marks blocks ≤ kept_among book (births log) marks blocks
kept_within book log i marks blocks =
    let both = kept_append book (births (take i log)) (births (drop i log)) marks blocks in
    let all = ap (λ (l : List ℕ). kept_among book l marks blocks) (births_cut log i) in
    omega (arith, both, all)

births_more : (log : List Entry) (i : ℕ) (e : Entry) → slice_get log i ≡ Some e
    → births (take (suc i) log) ≡ births (take i log) ++ replicate (part_count e) e.epoch
births_more [] i e at = absurd cc
births_more (x ∷ log) zero e at =
    let is : x ≡ e = cc in
    rw is (append-nil (replicate (part_count e) e.epoch))
births_more (x ∷ log) (suc i) e at =
    ap (λ (l : List ℕ). replicate (part_count x) x.epoch ++ l) (births_more log i e at)
    ∙ sym (append_assoc (replicate (part_count x) x.epoch) (births (take i log)) (replicate (part_count e) e.epoch))

-- one entry more
pub kept_next : (book : BookState) (cell : CellState) (i : ℕ) (e : Entry) → slice_get (log_of cell) i ≡ Some e
    → kept_among book (births (take (i + 1) (log_of cell))) cell.marks cell.blocks
    ≡ kept_among book (births (take i (log_of cell))) cell.marks cell.blocks + kept_at book cell i e
kept_next book cell i e at =
    let on : i + 1 ≡ suc i = omega arith in
    let more = births_more (log_of cell) i e at in
    let long = length_births (take i (log_of cell)) in
    rw (on, more) (rw long at (kept_append book (births (take i (log_of cell))) (replicate (part_count e) e.epoch) cell.marks cell.blocks))

-- ---- the marks of an entry

pub entry_marks : (log : List Entry) (marks : List Mark) (i : ℕ) (e : Entry) → slice_get log i ≡ Some e
    → slice_index_or (marks_by_entry log marks) i [] ≡ take (part_count e) (drop (part_base log i) marks)
entry_marks [] marks i e at = absurd cc
entry_marks (x ∷ log) marks zero e at = let is : x ≡ e = cc in rw is refl
entry_marks (x ∷ log) marks (suc i) e at =
    entry_marks log (drop (part_count x) marks) i e at
    ∙ ap (take (part_count e)) (drop-drop (part_base log i) (part_count x) marks)

pub entry_within : (log : List Entry) (i : ℕ) (e : Entry) → slice_get log i ≡ Some e
    → part_base log i + part_count e ≤ part_total log
entry_within [] i e at = absurd cc
entry_within (x ∷ log) zero e at = let is : x ≡ e = cc in rw is (omega arith)
entry_within (x ∷ log) (suc i) e at = let rest = entry_within log i e at in omega (arith, rest)

pub none_past : {X : Type 0} (xs : List X) (i : ℕ) → i < length xs → slice_get xs i ≡ None → ⊥
none_past [] i lt none = omega (arith, lt)
none_past (x ∷ xs) zero lt none = cc
none_past (x ∷ xs) (suc i) lt none = none_past xs i (omega (arith, lt)) none

-- ---- sums over cells

pub sum_states : (f : CellState → ℕ) (cells : List CellValue)
    → sum_by f (map (λ (c : CellValue). c.state) cells) ≡ sum_by (λ (c : CellValue). f c.state) cells
sum_states f [] = refl
sum_states f (c ∷ cells) =
    sum_by-cons f c.state (map (λ (v : CellValue). v.state) cells) ∙ ap (λ (n : ℕ). f c.state + n) (sum_states f cells)
    ∙ sym (sum_by-cons (λ (v : CellValue). f v.state) c cells)
