-- The steps of the walks in one pass.
use Rattle.std.proofs.Common.{◌≡◌, ℕ, zero, suc, ◌+◌, ◌<◌, ◌≤◌, ◌-◌, ◌&&◌, ◌∙◌, Bool, true, false, if◌then◌else◌, not, List, [], ◌∷◌, ◌++◌, Some, add-one, ap, append_assoc, arith, drop, drop-cons, get_or, length, nat_lt, refl, replicate, slice_get, subst, sum, sym, take}
use Rattle.std.specs.List.{list_any}
use Rattle.std.proofs.lemmas.Bool.{le-ltb, lt-ltb, ltb-false, ltb-true}
use Rattle.std.proofs.lemmas.List.{append-nil, drop-drop, length-drop, length-map, length-take-le, take-append-drop, take_more}
use Rattle.std.proofs.lemmas.Option.{same_Some, slice_get-get_or}
use Rattle.nv_cell.specs.Cell.{CellState, IsCell, log_of}
use Rattle.nv_cell.specs.Marks.{is_there}
use Rattle.nv_cell.specs.Readers.{marks_by_entry, there_flags}
use Rattle.nv_cell.specs.declared.mark.Mark.{Mark}
use Rattle.nv_entry.specs.Covered.{part_count}
use Rattle.nv_entry.specs.declared.item.Entry.{Entry}
use Rattle.nv_entry.specs.ByFlags.{all_go_by, goes_by, page_goes_by, pages_stay_by, stays_by}
use Rattle.nv_entry.specs.Clean.{entries_of, is_empty, pages_by, select}
use Rattle.nv_entry.proofs.Flags.{counts_left, entries_of-pages_by, is_empty-take, rest_is, select-gone, select-stays}
use Rattle.nv_clean.specs.declared.cover.Cover.{Cover}
use Rattle.nv_clean.specs.Cover.{Covers, is_hidden}
use Rattle.nv_clean.proofs.Covering.{hidden}

-- behind the last entry there is none
some_behind : (log : List Entry) (i : ℕ) → nat_lt i (length log) ≡ not (is_empty (drop i log))
some_behind [] i = le-ltb i 0 (omega arith) ∙ sym (ap (λ (l : List Entry). not (is_empty l)) (none i)) where
  none : (i : ℕ) → drop {A = Entry} i [] ≡ []
  none zero = refl
  none (suc i) = refl
some_behind (x ∷ log) zero = lt-ltb 0 (suc (length log)) (omega arith)
some_behind (x ∷ log) (suc i) = more ∙ some_behind log i where
  more : nat_lt (suc i) (suc (length log)) ≡ nat_lt i (length log)
  more = go (nat_lt i (length log)) refl where
    go : (b : Bool) → nat_lt i (length log) ≡ b → nat_lt (suc i) (suc (length log)) ≡ b
    go true q = lt-ltb (suc i) (suc (length log)) (let lt = ltb-true i (length log) q in omega (arith, lt))
    go false q = le-ltb (suc i) (suc (length log)) (let ge = ltb-false i (length log) q in omega (arith, ge))

-- the test of one entry
pub tested : (block : ℕ) (before log : List Entry) (i : ℕ) (e : Entry) (flag : Bool) (c : Cover) → Covers block before c
    → (nat_lt (i + 1) (length log) && not flag && not (is_hidden block e.item c)) ≡ goes_by block flag before e (drop (i + 1) log)
tested block before log i e flag c covers =
    ap (λ (b : Bool). b && not flag && not (is_hidden block e.item c)) (some_behind log (i + 1))
    ∙ ap (λ (b : Bool). not (is_empty (drop (i + 1) log)) && not flag && not b) (hidden block e.item before c covers)

-- the entry and the flag at a place
pub here : (log : List Entry) (i : ℕ) (e : Entry) → i < length log → slice_get log i ≡ Some e → drop i log ≡ e ∷ drop (i + 1) log
here log i e lt is = rest_is log i e lt (same_Some e (get_or log i e) (sym is ∙ slice_get-get_or log i e lt))

flag_here : (there : List Bool) (i : ℕ) → i < length there → drop i there ≡ get_or there i false ∷ drop (i + 1) there
flag_here there i lt = rw add-one (drop-cons there i false lt)

-- there is an entry at each place, and a flag for each
pub entry_there : (log : List Entry) (i : ℕ) → i < length log → (e : Entry) × (slice_get log i ≡ Some e)
entry_there [] i lt = absurd (omega (arith, lt))
entry_there (x ∷ log) zero lt = (x, refl)
entry_there (x ∷ log) (suc i) lt = entry_there log i (omega (arith, lt))

pub there_count : (cell : CellState) → length (there_flags cell) ≡ length (log_of cell)
there_count cell = length-map (marks_by_entry (log_of cell) cell.marks) (list_any is_there) ∙ go (log_of cell) cell.marks where
  go : (log : List Entry) (marks : List Mark) → length (marks_by_entry log marks) ≡ length log
  go [] marks = refl
  go (e ∷ log) marks = ap suc (go log (drop (part_count e) marks))

-- a step of the walk by entries
pub entry_step : (block : ℕ) (there flags : List Bool) (log : List Entry) (i : ℕ) (e : Entry) (b : Bool) → length flags ≡ i → i < length log
    → i < length there → slice_get log i ≡ Some e
    → b ≡ goes_by block (get_or there i false) (select flags log) e (drop (i + 1) log)
    → (flags ++ not b ∷ []) ++ stays_by block (drop (i + 1) there) (select (flags ++ not b ∷ []) log) (drop (i + 1) log)
    ≡ flags ++ stays_by block (drop i there) (select flags log) (drop i log)
entry_step block there flags log i e b len lt short is test =
    append_assoc flags (not b ∷ []) (stays_by block (drop (i + 1) there) (select (flags ++ not b ∷ []) log) (drop (i + 1) log))
    ∙ ap (λ (ys : List Bool). flags ++ ys) (go b test
    ∙ ap (stays_by block (get_or there i false ∷ drop (i + 1) there) (select flags log)) (sym (here log i e lt is))
    ∙ ap (λ (fs : List Bool). stays_by block fs (select flags log) (drop i log)) (sym (flag_here there i short))) where
      one : select flags log ++ take 1 (drop (length flags) log) ≡ select flags log ++ e ∷ []
      one = ap (λ (n : ℕ). select flags log ++ take 1 (drop n log)) len
          ∙ ap (λ (xs : List Entry). select flags log ++ take 1 xs) (here log i e lt is)

      go : (b : Bool) → b ≡ goes_by block (get_or there i false) (select flags log) e (drop (i + 1) log)
          → not b ∷ stays_by block (drop (i + 1) there) (select (flags ++ not b ∷ []) log) (drop (i + 1) log)
          ≡ stays_by block (get_or there i false ∷ drop (i + 1) there) (select flags log) (e ∷ drop (i + 1) log)
      go true q =
          rw (← q) (ap (λ (kept : List Entry). false ∷ stays_by block (drop (i + 1) there) kept (drop (i + 1) log)) (select-gone flags 1 log))
      go false q =
          rw (← q)
          (ap (λ (kept : List Entry). true ∷ stays_by block (drop (i + 1) there) kept (drop (i + 1) log)) (select-stays flags 1 log ∙ one))

-- behind the last entry
nothing_left : (n : ℕ) (log : List Entry) → length log ≤ n → drop n log ≡ []
nothing_left zero [] le = refl
nothing_left zero (x ∷ log) le = absurd (omega (arith, le))
nothing_left (suc n) [] le = refl
nothing_left (suc n) (x ∷ log) le = nothing_left n log (omega (arith, le))

pub no_more : (block : ℕ) (there : List Bool) (kept : List Entry) → stays_by block there kept [] ≡ []
no_more block [] kept = refl
no_more block (flag ∷ there) kept = refl

pub after_walk : (block : ℕ) (there stays : List Bool) (log : List Entry) (i : ℕ) → length log ≤ i
    → stays ++ stays_by block (drop i there) (select stays log) (drop i log) ≡ stays_by block there [] log → stays ≡ stays_by block there [] log
after_walk block there stays log i past h =
    sym (append-nil stays)
    ∙ ap (λ (l : List Bool). stays ++ l) (sym (ap (stays_by block (drop i there) (select stays log)) (nothing_left i log past)
    ∙ no_more block (drop i there) (select stays log)))
    ∙ h

-- what stays after flags for more entries is covered
pub more_covered : (block : ℕ) (log : List Entry) (stays : List Bool) (from to : ℕ) (goes : Bool) (c : Cover) → length stays ≡ from
    → Covers block (if goes then select stays log else select stays log ++ take (to - from) (drop from log)) c
    → Covers block (select (stays ++ replicate (to - from) (not goes)) log) c
more_covered block log stays from to true c len h = subst (λ (l : List Entry). Covers block l c) (sym (select-gone stays (to - from) log)) h
more_covered block log stays from to false c len h =
    subst (λ (l : List Entry). Covers block l c)
    (ap (λ (k : ℕ). select stays log ++ take (to - from) (drop k log)) (sym len) ∙ sym (select-stays stays (to - from) log)) h

-- a step within a page
pub all_go-step : (block : ℕ) (there : List Bool) (before log : List Entry) (at to : ℕ) (e : Entry) → at < to → to ≤ length log
    → to ≤ length there → slice_get log at ≡ Some e
    → all_go_by block (drop at there) before (take (to - at) (drop at log)) (drop to log)
    ≡ (goes_by block (get_or there at false) before e (drop (at + 1) log)
    && all_go_by block (drop (at + 1) there) before (take (to - (at + 1)) (drop (at + 1) log)) (drop to log))
all_go-step block there before log at to e lt le short is =
    ap (λ (page : List Entry). all_go_by block (drop at there) before page (drop to log)) page_is
    ∙ ap (λ (fs : List Bool). all_go_by block fs before (e ∷ take (to - (at + 1)) (drop (at + 1) log)) (drop to log)) (flag_here there at (omega (arith, lt, short)))
    ∙ ap (λ (later : List Entry). goes_by block (get_or there at false) before e later
    && all_go_by block (drop (at + 1) there) before (take (to - (at + 1)) (drop (at + 1) log)) (drop to log)) behind where
      page_is : take (to - at) (drop at log) ≡ e ∷ take (to - (at + 1)) (drop (at + 1) log)
      page_is =
          let more : to - at ≡ suc (to - (at + 1)) = omega (arith, lt) in
          ap (λ (k : ℕ). take k (drop at log)) more
          ∙ ap (take (suc (to - (at + 1)))) (here log at e (omega (arith, lt, le)) is)

      behind : take (to - (at + 1)) (drop (at + 1) log) ++ drop to log ≡ drop (at + 1) log
      behind =
          let sum_is : at + 1 + (to - (at + 1)) ≡ to = omega (arith, lt) in
          ap (λ (k : ℕ). take (to - (at + 1)) (drop (at + 1) log) ++ drop k log) (sym sum_is)
          ∙ ap (λ (l : List Entry). take (to - (at + 1)) (drop (at + 1) log) ++ l) (sym (drop-drop (to - (at + 1)) (at + 1) log))
          ∙ take-append-drop (to - (at + 1)) (drop (at + 1) log)

-- a page whose entries were all tried
pub page_whole : (block : ℕ) (there : List Bool) (before log : List Entry) (from at to : ℕ) → to ≤ at → from ≤ to → to ≤ length log
    → all_go_by block (drop at there) before (take (to - at) (drop at log)) (drop to log)
    ≡ all_go_by block (drop from there) before (take (to - from) (drop from log)) (drop to log)
    → nat_lt from to ≡ page_goes_by block (drop from there) before (take (to - from) (drop from log)) (drop to log)
page_whole block there before log from at to past order le h =
    some from to
    ∙ sym (is_empty-take (to - from) (drop from log) (omega (arith, le, length-drop from log)))
    ∙ both (not (is_empty (take (to - from) (drop from log)))) _ (sym none ∙ h) where
      none : all_go_by block (drop at there) before (take (to - at) (drop at log)) (drop to log) ≡ true
      none =
          let zero_is : to - at ≡ 0 = omega (arith, past) in
          ap (λ (k : ℕ). all_go_by block (drop at there) before (take k (drop at log)) (drop to log)) zero_is

      both : (b c : Bool) → true ≡ c → b ≡ (b && c)
      both true c e = e
      both false c e = refl

      some : (from to : ℕ) → nat_lt from to ≡ nat_lt 0 (to - from)
      some from to = go (nat_lt from to) refl where
        go : (b : Bool) → nat_lt from to ≡ b → b ≡ nat_lt 0 (to - from)
        go true q = sym (lt-ltb 0 (to - from) (let lt = ltb-true from to q in omega (arith, lt)))
        go false q = sym (le-ltb 0 (to - from) (let ge = ltb-false from to q in omega (arith, ge)))

count_split : (counts : List ℕ) (i : ℕ) → i < length counts → drop i counts ≡ get_or counts i 0 ∷ drop (i + 1) counts
count_split counts i lt = rw add-one (drop-cons counts i 0 lt)

-- a step of the walk by pages
module _ (block : ℕ) (there flags shown : List Bool) (log : List Entry) (counts : List ℕ) (i : ℕ) (lt : i < length counts)
    (total : length flags + sum (drop i counts) ≡ length log) where
  abbrev count : ℕ
  count = get_or counts i 0

  abbrev rest : List Entry
  rest = drop (length flags) log

  abbrev left : List Bool
  left = drop (length (take count rest)) (drop (length flags) there)

  abbrev after : Bool → List Bool → List Entry → List Bool
  after b fs l = pages_stay_by block fs (select (flags ++ replicate count (not b)) log) (pages_by (drop (i + 1) counts) l)

  fits : count ≤ length rest
  fits = omega (arith, total, counts_left counts i lt, length-drop (length flags) log)

  there_left : drop (length flags + count) there ≡ left
  there_left =
      sym (drop-drop count (length flags) there) ∙ ap (λ (n : ℕ). drop n (drop (length flags) there)) (sym (length-take-le count rest fits))

  log_left : drop (length flags + count) log ≡ drop count rest
  log_left = sym (drop-drop count (length flags) log)

  later : entries_of (pages_by (drop (i + 1) counts) (drop count rest)) ≡ drop count rest
  later =
      entries_of-pages_by (drop (i + 1) counts) (drop count rest)
      (omega (arith, total, counts_left counts i lt, length-drop count rest, length-drop (length flags) log))

  go : (b : Bool)
      → b ≡ page_goes_by block (drop (length flags) there) (select flags log) (take count rest)
      (entries_of (pages_by (drop (i + 1) counts) (drop count rest)))
      → not b ∷ after b left (drop count rest)
      ≡ pages_stay_by block (drop (length flags) there) (select flags log) (pages_by (count ∷ drop (i + 1) counts) rest)
  go true q =
      rw (← q) (ap (λ (kept : List Entry). false ∷ pages_stay_by block left kept (pages_by (drop (i + 1) counts) (drop count rest)))
      (select-gone flags count log))
  go false q =
      rw (← q) (ap (λ (kept : List Entry). true ∷ pages_stay_by block left kept (pages_by (drop (i + 1) counts) (drop count rest)))
      (select-stays flags count log))

  pub page_step : (b : Bool)
      → b ≡ page_goes_by block (drop (length flags) there) (select flags log) (take count rest) (drop count rest)
      → (shown ++ not b ∷ []) ++ pages_stay_by block (drop (length flags + count) there) (select (flags ++ replicate count (not b)) log)
      (pages_by (drop (i + 1) counts) (drop (length flags + count) log))
      ≡ shown ++ pages_stay_by block (drop (length flags) there) (select flags log) (pages_by (drop i counts) rest)
  page_step b test =
      append_assoc shown (not b ∷ []) (after b (drop (length flags + count) there) (drop (length flags + count) log))
      ∙ ap (λ (ys : List Bool). shown ++ ys)
      (ap (λ (fs : List Bool). not b ∷ after b fs (drop (length flags + count) log)) there_left
      ∙ ap (λ (l : List Entry). not b ∷ after b left l) log_left
      ∙ go b (test ∙ ap (page_goes_by block (drop (length flags) there) (select flags log) (take count rest)) (sym later))
      ∙ ap (λ (xs : List ℕ). pages_stay_by block (drop (length flags) there) (select flags log) (pages_by xs rest))
      (sym (count_split counts i lt)))

-- behind the last page
pub after_pages : (block : ℕ) (there shown flags : List Bool) (log : List Entry) (counts : List ℕ) (i : ℕ) → length counts ≤ i
    → shown ++ pages_stay_by block (drop (length flags) there) (select flags log) (pages_by (drop i counts) (drop (length flags) log))
    ≡ pages_stay_by block there [] (pages_by counts log)
    → shown ≡ pages_stay_by block there [] (pages_by counts log)
after_pages block there shown flags log counts i past h =
    sym (append-nil shown)
    ∙ ap (λ (l : List ℕ). shown ++ pages_stay_by block (drop (length flags) there) (select flags log) (pages_by l (drop (length flags) log)))
    (sym (none counts i past)) ∙ h where
      none : (counts : List ℕ) (i : ℕ) → length counts ≤ i → drop i counts ≡ []
      none [] zero le = refl
      none (x ∷ counts) zero le = absurd (omega (arith, le))
      none [] (suc i) le = refl
      none (x ∷ counts) (suc i) le = none counts i (omega (arith, le))

-- ---- places of the log among all entries

pub log_len : (cell : CellState) → IsCell cell → length (log_of cell) ≡ cell.chain.tail
log_len cell is = length-take-le cell.chain.tail cell.chain.entries is.chain.within

in_log : (tail i : ℕ) (es : List Entry) → i < tail → slice_get (take tail es) i ≡ slice_get es i
in_log zero i es lt = absurd (omega (arith, lt))
in_log (suc tail) i [] lt = refl
in_log (suc tail) zero (e ∷ es) lt = refl
in_log (suc tail) (suc i) (e ∷ es) lt = in_log tail i es (omega (arith, lt))

-- what an entry is that is read at a place of the log
pub read_at : (cell : CellState) (i : ℕ) (read e : Entry) → i < cell.chain.tail → slice_get cell.chain.entries i ≡ Some read
    → slice_get (log_of cell) i ≡ Some e → read ≡ e
read_at cell i read e lt at is =
    same_Some read e (sym at ∙ sym (in_log cell.chain.tail i cell.chain.entries lt) ∙ is)

pub read_in : (cell : CellState) (i : ℕ) (read : Entry) → i < cell.chain.tail → slice_get cell.chain.entries i ≡ Some read
    → slice_get (log_of cell) i ≡ Some read
read_in cell i read lt at = in_log cell.chain.tail i cell.chain.entries lt ∙ at

-- one entry more
pub stretch_more : (log : List Entry) (from at : ℕ) (e : Entry) → from ≤ at → at < length log → slice_get log at ≡ Some e
    → take (at + 1 - from) (drop from log) ≡ take (at - from) (drop from log) ++ e ∷ []
stretch_more log zero at e le lt is =
    let a : at + 1 - 0 ≡ at + 1 = omega arith in
    let b : at - 0 ≡ at = omega arith in
    rw (a, b) (take_more log at e lt
    ∙ ap (λ (x : Entry). take at log ++ x ∷ []) (same_Some (get_or log at e) e (sym (slice_get-get_or log at e lt) ∙ is)))
stretch_more [] (suc from) at e le lt is = absurd (omega (arith, lt))
stretch_more (x ∷ log) (suc from) zero e le lt is = absurd (omega (arith, le))
stretch_more (x ∷ log) (suc from) (suc at) e le lt is =
    let a : suc at + 1 - suc from ≡ at + 1 - from = omega arith in
    let b : suc at - suc from ≡ at - from = omega arith in
    rw (a, b) (stretch_more log from at e (omega (arith, le)) (omega (arith, lt)) is)
