-- The counts of a page are those of its log from scratch.
use Rattle.std.proofs.Common.{◌≡◌, ℕ, zero, suc, ◌+◌, ◌-◌, ◌<◌, ◌≤◌, ◌||◌, Bool, false, not, cond, List, [], ◌∷◌, length, take, drop, map, Some, arith, refl, ap, sym, ◌∙◌, slice_get, slice_index_or}
use Rattle.std.specs.Prelude.{count_by}
use Rattle.std.specs.List.{flat_map, list_any}
use Rattle.std.specs.Option.{option_map}
use Rattle.std.proofs.lemmas.List.{length-drop, length-map, length-take-le}
use Rattle.std.proofs.lemmas.Option.{same_Some, slice_get-map, slice_get_within}
use Rattle.nv_entry.specs.declared.held.Pair.{Pair}
use Rattle.nv_entry.specs.declared.item.Entry.{Entry}
use Rattle.nv_entry.specs.Counts.{live_of, valid_of}
use Rattle.nv_entry.specs.Covered.{covered_parts, part_count, part_total}
use Rattle.nv_entry.specs.Held.{Retention, is_current as is_current_pair, keeps}
use Rattle.nv_entry.specs.Keys.{parts_of}
use Rattle.nv_entry.specs.Log.{pair_of, pairs, pairs_of}
use Rattle.nv_entry.proofs.Currents.{uncovered_are_current}
use Rattle.nv_log.specs.Chain.{IsChain, end_of, log_pages, parts_from, start_of}
use Rattle.nv_log.proofs.Parts.{part_is}
use Rattle.nv_cell.specs.declared.mark.Mark.{Mark}
use Rattle.nv_cell.specs.declared.mark.Mark.TheVariants.{Out}
use Rattle.nv_cell.specs.Cell.{CellState, HasMarks, IsCell, log_of}
use Rattle.nv_cell.specs.Marks.{is_current, is_there, mark_at}
use Rattle.nv_cell.specs.Readers.{marks_by_entry}
use Rattle.nv_cell.specs.Retained.{AreMarksOf, LiveIsScanned, ValidIsScanned}
use Rattle.nv_cell.proofs.NamedParts.{pair_first, pair_later}
use Rattle.nv_cell.proofs.Runs.{count_cons}
use Rattle.nv_entry.proofs.PartLists.{length-pairs}

-- ---- a flag for each entry of a log: whether one of its pairs passes a test

flags : (Pair → Bool) → ℕ → List Entry → List Bool
flags test block [] = []
flags test block (e ∷ later) = list_any test (pairs_of block e later) ∷ flags test block later

flag_drop : (test : Pair → Bool) (block k : ℕ) (es : List Entry) → flags test block (drop k es) ≡ drop k (flags test block es)
unfolding flags
flag_drop test block zero es = refl
flag_drop test block (suc k) [] = refl
flag_drop test block (suc k) (e ∷ es) = flag_drop test block k es

length-flags : (test : Pair → Bool) (block : ℕ) (es : List Entry) → length (flags test block es) ≡ length es
unfolding flags
length-flags test block [] = refl
length-flags test block (e ∷ es) = ap suc (length-flags test block es)

-- the flag itself
abbrev is : Bool → Bool
is b = b

live_flags : (block count : ℕ) (es : List Entry) → live_of block count es ≡ count_by is (take count (flags is_current_pair block es))
unfolding flags
live_flags block zero es = refl
live_flags block (suc count) [] = refl
live_flags block (suc count) (e ∷ es) =
    ap (λ (n : ℕ). cond (list_any is_current_pair (pairs_of block e es)) 1 0 + n) (live_flags block count es)
    ∙ sym (count_cons is (list_any is_current_pair (pairs_of block e es)) (take count (flags is_current_pair block es)))

valid_flags : (r : Retention) (count : ℕ) (es : List Entry) → valid_of r count es ≡ count_by is (take count (flags (keeps r) r.block es))
unfolding flags
valid_flags r zero es = refl
valid_flags r (suc count) [] = refl
valid_flags r (suc count) (e ∷ es) =
    ap (λ (n : ℕ). cond (list_any (keeps r) (pairs_of r.block e es)) 1 0 + n) (valid_flags r count es)
    ∙ sym (count_cons is (list_any (keeps r) (pairs_of r.block e es)) (take count (flags (keeps r) r.block es)))

-- ---- marks that are as their pairs

-- two lists alike under two tests
pub any_alike : {X Y : Type 0} (f : X → Bool) (g : Y → Bool) (xs : List X) (ys : List Y) (d : X) → length xs ≡ length ys
    → ((n : ℕ) (y : Y) → slice_get ys n ≡ Some y → f (slice_index_or xs n d) ≡ g y) → list_any f xs ≡ list_any g ys
any_alike f g [] [] d len same = refl
any_alike f g [] (y ∷ ys) d len same = absurd (omega (arith, len))
any_alike f g (x ∷ xs) [] d len same = absurd (omega (arith, len))
any_alike f g (x ∷ xs) (y ∷ ys) d len same =
    let rest = any_alike f g xs ys d (omega (arith, len)) (λ n z q. same (suc n) z q) in
    ap (λ (b : Bool). b || list_any f xs) (same 0 y refl) ∙ ap (λ (b : Bool). g y || b) rest

pub front_mark : (marks : List Mark) (c n : ℕ) → n < c → slice_index_or (take c marks) n Out ≡ mark_at marks n
front_mark [] zero n lt = absurd (omega arith)
front_mark [] (suc c) n lt = refl
front_mark (m ∷ marks) zero n lt = absurd (omega arith)
front_mark (m ∷ marks) (suc c) zero lt = refl
front_mark (m ∷ marks) (suc c) (suc n) lt = front_mark marks c n (omega (arith, lt))

pub later_mark : (marks : List Mark) (c n : ℕ) → mark_at (drop c marks) n ≡ mark_at marks (c + n)
later_mark [] zero n = refl
later_mark [] (suc c) n = refl
later_mark (m ∷ marks) zero n = let z : n ≡ 0 + n = omega arith in ap (mark_at (m ∷ marks)) z
later_mark (m ∷ marks) (suc c) n =
    let z : suc (c + n) ≡ suc c + n = omega arith in
    later_mark marks c n ∙ ap (mark_at (m ∷ marks)) z

abbrev pub AreAlike : (Mark → Bool) → (Pair → Bool) → ℕ → List Entry → List Mark → Type 0
AreAlike test by block es marks = (n : ℕ) (pair : Pair) → slice_get (pairs block es) n ≡ Some pair → test (mark_at marks n) ≡ by pair

marks_flags : (test : Mark → Bool) (by : Pair → Bool) (block : ℕ) (es : List Entry) (marks : List Mark) → length marks ≡ part_total es
    → AreAlike test by block es marks → map (list_any test) (marks_by_entry es marks) ≡ flags by block es
unfolding flags
marks_flags test by block [] marks len alike = refl
marks_flags test by block (e ∷ es) marks len alike =
    let c = part_count e in
    let count : length (pairs_of block e es) ≡ c = length-map (parts_of e.item) (pair_of block e es) in
    let fits : length (take c marks) ≡ c = length-take-le c marks (omega (arith, len)) in
    let first : list_any test (take c marks) ≡ list_any by (pairs_of block e es) =
    any_alike test by (take c marks) (pairs_of block e es) Out (omega (arith, count, fits)) (λ n pair q.
    let lt : n < c = omega (arith, count, slice_get_within (pairs_of block e es) n pair q) in
    ap test (front_mark marks c n lt)
    ∙ alike n pair (pair_first block e es n lt ∙ sym (slice_get-map (pair_of block e es) (parts_of e.item) n) ∙ q)) in
    let rest = marks_flags test by block es (drop c marks) (omega (arith, length-drop c marks, len)) (λ n pair q.
    let past : c ≤ c + n = omega arith in
    let back : c + n - c ≡ n = omega arith in
    ap test (later_mark marks c n)
    ∙ alike (c + n) pair (pair_later block e es (c + n) past ∙ ap (slice_get (pairs block es)) back ∙ q)) in
    ap (λ (b : Bool). b ∷ map (list_any test) (marks_by_entry es (drop c marks))) first
    ∙ ap (λ (bs : List Bool). list_any by (pairs_of block e es) ∷ bs) rest

-- ---- a page

count_map : {X : Type 0} (f : X → Bool) (xs : List X) → count_by f xs ≡ count_by is (map f xs)
count_map f [] = refl
count_map f (x ∷ xs) =
    count_cons f x xs ∙ ap (λ (n : ℕ). cond (f x) 1 0 + n) (count_map f xs) ∙ sym (count_cons is (f x) (map f xs))

map_take : {X Y : Type 0} (f : X → Y) (n : ℕ) (xs : List X) → map f (take n xs) ≡ take n (map f xs)
map_take f zero xs = refl
map_take f (suc n) [] = refl
map_take f (suc n) (x ∷ xs) = ap (λ ys. f x ∷ ys) (map_take f n xs)

map_drop : {X Y : Type 0} (f : X → Y) (n : ℕ) (xs : List X) → map f (drop n xs) ≡ drop n (map f xs)
map_drop f zero xs = refl
map_drop f (suc n) [] = refl
map_drop f (suc n) (x ∷ xs) = map_drop f n xs

-- as many as another list has of its first
take_same : {X Y : Type 0} (n : ℕ) (xs : List X) (ys : List Y) → length xs ≡ length ys → take (length (take n ys)) xs ≡ take n xs
take_same zero xs ys len = refl
take_same (suc n) [] [] len = refl
take_same (suc n) [] (y ∷ ys) len = absurd (omega (arith, len))
take_same (suc n) (x ∷ xs) [] len = absurd (omega (arith, len))
take_same (suc n) (x ∷ xs) (y ∷ ys) len = ap (λ zs. x ∷ zs) (take_same n xs ys (omega (arith, len)))

-- the flags of a page's published entries
page_flags : (test : Mark → Bool) (by : Pair → Bool) (cell : CellState) (block page : ℕ) → IsChain cell.chain
    → length cell.marks ≡ part_total (log_of cell) → AreAlike test by block (log_of cell) cell.marks → page < length cell.chain.ends
    → count_by (list_any test) (slice_index_or (parts_from 0 cell.chain.ends (marks_by_entry (log_of cell) cell.marks)) page [])
    ≡ count_by is (take (length (slice_index_or (log_pages cell.chain) page []))
    (flags by block (drop (start_of cell.chain page) (log_of cell))))
page_flags test by cell block page chain len alike lt =
    let es = log_of cell in
    let marked = marks_by_entry es cell.marks in
    let all = flags by block es in
    let start = start_of cell.chain page in
    let count = end_of cell.chain page - start in
    let begun : start - 0 ≡ start = omega arith in
    let marks : slice_index_or (parts_from 0 cell.chain.ends marked) page [] ≡ take count (drop start marked) =
    part_is cell.chain.page 0 cell.chain.ends (length cell.chain.entries) page (length cell.chain.entries) marked chain.parted lt
    ∙ ap (λ (k : ℕ). take count (drop k marked)) begun in
    let entries : slice_index_or (log_pages cell.chain) page [] ≡ take count (drop start es) =
    part_is cell.chain.page 0 cell.chain.ends (length cell.chain.entries) page (length cell.chain.entries) es chain.parted lt
    ∙ ap (λ (k : ℕ). take count (drop k es)) begun in
    let sizes : length (drop start all) ≡ length (drop start es) =
    omega (arith, length-drop start all, length-drop start es, length-flags by block es) in
    let left : map (list_any test) (take count (drop start marked)) ≡ take count (drop start all) =
    map_take (list_any test) count (drop start marked) ∙ ap (take count) (map_drop (list_any test) start marked)
    ∙ ap (λ (bs : List Bool). take count (drop start bs)) (marks_flags test by block es cell.marks len alike) in
    ap (count_by (list_any test)) marks ∙ count_map (list_any test) (take count (drop start marked)) ∙ ap (count_by is) left
    ∙ sym (ap (λ (page : List Entry). count_by is (take (length page) (flags by block (drop start es)))) entries
    ∙ ap (λ (bs : List Bool). count_by is (take (length (take count (drop start es))) bs)) (flag_drop by block start es)
    ∙ ap (count_by is) (take_same count (drop start all) (drop start es) sizes))

-- ---- the two counts

-- a current mark is that of a current pair
currents : (cell : CellState) → HasMarks cell → AreAlike is_current is_current_pair cell.block (log_of cell) cell.marks
currents cell marks n pair q =
    let es = log_of cell in
    let u = uncovered_are_current cell.block es in
    let covers = flat_map (λ (covered : List Bool). covered) (covered_parts cell.block es) in
    let lt : n < part_total es = low es n pair q in
    let told : Some (is_current_pair pair) ≡ option_map not (slice_get covers n) =
    ap (option_map is_current_pair) (sym q) ∙ sym (slice_get-map is_current_pair (pairs cell.block es) n)
    ∙ ap (λ (bs : List Bool). slice_get bs n) u.current ∙ slice_get-map not covers n in
    marks.current n lt ∙ ap not (u.numbered n) ∙ sym (at covers n (is_current_pair pair) told)
  where
    low : (es : List Entry) (n : ℕ) (pair : Pair) → slice_get (pairs cell.block es) n ≡ Some pair → n < part_total es
    low es n pair q = omega (arith, slice_get_within (pairs cell.block es) n pair q, length-pairs cell.block es)

    at : (bs : List Bool) (n : ℕ) (b : Bool) → Some b ≡ option_map not (slice_get bs n) → b ≡ not (slice_index_or bs n false)
    at [] n b h = cc
    at (x ∷ bs) zero b h = same_Some b (not x) h
    at (x ∷ bs) (suc n) b h = at bs n b h

pub live_scanned : (cell : CellState) → IsCell cell → LiveIsScanned cell
live_scanned cell is page lt =
    page_flags is_current is_current_pair cell cell.block page is.chain is.marks.len (currents cell is.marks) lt
    ∙ sym (live_flags cell.block (length (slice_index_or (log_pages cell.chain) page [])) (drop (start_of cell.chain page) (log_of cell)))

pub valid_scanned : (r : Retention) (cell : CellState) → IsCell cell → AreMarksOf r cell → ValidIsScanned r cell
valid_scanned r cell is are page lt =
    page_flags is_there (keeps r) cell r.block page is.chain is.marks.len are.there lt
    ∙ sym (valid_flags r (length (slice_index_or (log_pages cell.chain) page [])) (drop (start_of cell.chain page) (log_of cell)))
