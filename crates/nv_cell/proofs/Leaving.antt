-- Entries whose parts are out may leave, and what is left is covered as it was.
use Rattle.std.proofs.Common.{◌≡◌, ℕ, zero, suc, ◌+◌, ◌-◌, ◌<◌, Bool, true, false, not, nat_lt, List, [], ◌∷◌, ◌++◌, length, take, drop, map, replicate, get_or, arith, refl, ap, sym, ◌∙◌, length-append}
use Rattle.std.specs.List.{flat_map}
use Rattle.std.proofs.lemmas.Bool.{lt-ltb, le-ltb}
use Rattle.std.proofs.lemmas.List.{take-append-le, drop-append-le}
use Rattle.std.proofs.lemmas.Option.{get_or_from_slice_get, slice_get_within}
use Rattle.nv_entry.specs.declared.item.Entry.{Entry}
use Rattle.nv_entry.specs.declared.part.Part.TheVariants as part
use Rattle.nv_entry.specs.Clean.{select}
use Rattle.nv_entry.specs.Covered.{any_cover, covered_of, covered_parts, is_covered, part_count, part_key, part_total}
use Rattle.nv_entry.specs.Keys.{Key, key_of, parts_of, sets}
use Rattle.nv_entry.specs.Laws.{is_present}
use Rattle.nv_entry.specs.Leaving.{MayAllLeave}
use Rattle.nv_entry.specs.Refs.{place_in}
use Rattle.nv_entry.proofs.Currents.{uncovered_are_current}
use Rattle.nv_entry.proofs.Leaving.{keeps_the_rest}
use Rattle.nv_entry.proofs.Placed.{part_of}
use Rattle.nv_log.specs.Chain.{left_of}
use Rattle.nv_log.proofs.Flags.{gone_at}
use Rattle.nv_cell.specs.declared.mark.Mark.TheVariants.{Out}
use Rattle.nv_cell.specs.Cell.{CellState, HasMarks, log_of}
use Rattle.nv_cell.specs.Marks.{is_current, mark_at}
use Rattle.nv_cell.specs.Removal.{HideNoneLeft, MayGo, part_flags, source}
use Rattle.nv_cell.proofs.RunFlags.{left_of-goes, left_of-stays}
use Rattle.nv_cell.proofs.Sources.{at_source, length-part_flags}

-- ---- which parts are covered

abbrev flat : List (List Bool) → List Bool
flat cs = flat_map (λ c. c) cs

covered_count : (block : ℕ) (e : Entry) (later : List Entry) → length (covered_of block e later) ≡ part_count e
covered_count block e later = mapped (parts_of e.item) where
  mapped : (ps : List _) → length (map (λ p. any_cover block later (key_of e.item p)) ps) ≡ length ps
  mapped [] = refl
  mapped (p ∷ ps) = ap suc (mapped ps)

flat_count : (block : ℕ) (es : List Entry) → length (flat (covered_parts block es)) ≡ part_total es
flat_count block [] = refl
flat_count block (e ∷ es) = length-append (covered_of block e es) (flat (covered_parts block es))
    ∙ omega (arith, covered_count block e es, flat_count block es)

flat_left : (block : ℕ) (flags : List Bool) (es : List Entry) → length flags ≡ length es
    → flat (select flags (covered_parts block es)) ≡ left_of (part_flags flags es) (flat (covered_parts block es))
flat_left block [] [] is = refl
flat_left block [] (e ∷ es) is = absurd (omega (arith, is))
flat_left block (b ∷ flags) [] is = absurd (omega (arith, is))
flat_left block (true ∷ flags) (e ∷ es) is =
    let own = covered_of block e es in
    let rest = flat (covered_parts block es) in
    let c = covered_count block e es in
    ap (λ cs. own ++ cs) (flat_left block flags es (omega (arith, is)))
    ∙ sym (left_of-stays (part_count e) (part_flags flags es) (own ++ rest)
    ∙ ap (λ k. take k (own ++ rest) ++ left_of (part_flags flags es) (drop k (own ++ rest))) (sym c)
    ∙ rw (take-append-le (length own) own rest (omega arith), drop-append-le (length own) own rest (omega arith), whole own, none own) refl)
  where
    whole : (xs : List Bool) → take (length xs) xs ≡ xs
    whole [] = refl
    whole (x ∷ xs) = ap (λ ys. x ∷ ys) (whole xs)

    none : (xs : List Bool) → drop (length xs) xs ≡ []
    none [] = refl
    none (x ∷ xs) = none xs
flat_left block (false ∷ flags) (e ∷ es) is =
    let own = covered_of block e es in
    let rest = flat (covered_parts block es) in
    flat_left block flags es (omega (arith, is))
    ∙ sym (left_of-goes (part_count e) (part_flags flags es) (own ++ rest)
    ∙ ap (λ k. left_of (part_flags flags es) (drop k (own ++ rest))) (sym (covered_count block e es))
    ∙ rw (drop-append-le (length own) own rest (omega arith), none own) refl)
  where
    none : (xs : List Bool) → drop (length xs) xs ≡ []
    none [] = refl
    none (x ∷ xs) = none xs

pub covered_left : (block : ℕ) (flags : List Bool) (es : List Entry) (n : ℕ) → length flags ≡ length es → MayAllLeave block [] es flags
    → is_covered block (select flags es) n ≡ is_covered block es (source (part_flags flags es) n)
covered_left block flags es n len may =
    (uncovered_are_current block (select flags es)).numbered n
    ∙ ap (λ cs. get_or (flat cs) n false) (keeps_the_rest block es flags may).covered
    ∙ ap (λ cs. get_or cs n false) (flat_left block flags es len)
    ∙ at_source (part_flags flags es) (flat (covered_parts block es)) n false
    (omega (arith, length-part_flags flags es, flat_count block es))
    ∙ sym ((uncovered_are_current block es).numbered (source (part_flags flags es) n))

-- ---- marks let entries leave

later_dead : (block : ℕ) (e : Entry) (rest : List Entry) (flags : List Bool) (b : Bool) (n : ℕ)
    → (get_or (part_flags (b ∷ flags) (e ∷ rest)) (part_count e + n) true ≡ false → is_covered block (e ∷ rest) (part_count e + n) ≡ true)
    → get_or (part_flags flags rest) n true ≡ false → is_covered block rest n ≡ true
later_dead block e rest flags b n dead goes =
    let a : nat_lt (part_count e + n) (part_count e) ≡ false = le-ltb (part_count e + n) (part_count e) (omega arith) in
    let d : part_count e + n - part_count e ≡ n = omega arith in
    rw (a, d) at (dead (behind (part_count e) (part_flags flags rest) ∙ goes)) where
      behind : (k : ℕ) (fs : List Bool) → get_or (replicate k b ++ fs) (k + n) true ≡ get_or fs n true
      behind zero fs = let z : 0 + n ≡ n = omega arith in rw z refl
      behind (suc k) fs = let z : suc k + n ≡ suc (k + n) = omega arith in rw z (behind k fs)

pub may_all_leave : (block : ℕ) (before rest : List Entry) (flags : List Bool) → length flags ≡ length rest
    → ((n : ℕ) → n < part_total rest → get_or (part_flags flags rest) n true ≡ false → is_covered block rest n ≡ true)
    → HideNoneLeft block before rest flags → MayAllLeave block before rest flags
may_all_leave block before [] [] len dead hidden = tt
may_all_leave block before [] (b ∷ flags) len dead hidden = absurd (omega (arith, len))
may_all_leave block before (e ∷ rest) [] len dead hidden = absurd (omega (arith, len))
may_all_leave block before (e ∷ rest) (true ∷ flags) len dead hidden =
    may_all_leave block (before ++ e ∷ []) rest flags (omega (arith, len))
    (λ n lt goes. later_dead block e rest flags true n (dead (part_count e + n) (omega (arith, lt))) goes) hidden
may_all_leave block before (e ∷ rest) (false ∷ flags) len dead hidden = (
  record { dead = λ key set. own key set; hides_nothing = hidden.0 },
  may_all_leave block before rest flags (omega (arith, len))
      (λ n lt goes. later_dead block e rest flags false n (dead (part_count e + n) (omega (arith, lt))) goes) hidden.1,
) where
  own : (key : Key) → is_present (sets block e.item key) ≡ true → any_cover block rest key ≡ true
  own key set =
      let p = part_of block e.item key set in
      let n = place_in e.item key in
      let lt : n < part_count e = slice_get_within (parts_of e.item) n p.part p.at in
      let a : nat_lt n (part_count e) ≡ true = lt-ltb n (part_count e) lt in
      let d = dead n (omega (arith, lt)) (goes (part_count e) n (part_flags flags rest) lt) in
      let k : part_key e n ≡ key = ap (key_of e.item) (get_or_from_slice_get (parts_of e.item) n p.part part.Kind p.at) ∙ p.is_key in
      rw (a, k) at d where
        goes : (k n : ℕ) (fs : List Bool) → n < k → get_or (replicate k false ++ fs) n true ≡ false
        goes zero n fs lt = absurd (omega arith)
        goes (suc k) zero fs lt = refl
        goes (suc k) (suc n) fs lt = goes k n fs (omega (arith, lt))

-- what is marked out is not current
pub going_is_covered : (flags : List Bool) (cell : CellState) → HasMarks cell → MayGo flags cell → (n : ℕ) → n < part_total (log_of cell)
    → get_or (part_flags flags (log_of cell)) n true ≡ false → is_covered cell.block (log_of cell) n ≡ true
going_is_covered flags cell has may n lt goes =
    let out : mark_at cell.marks n ≡ Out = gone_at (λ m. m ≡ Out) (part_flags flags (log_of cell)) cell.marks n Out may.out
    (omega (arith, lt, has.len)) goes in
    covered (is_covered cell.block (log_of cell) n) (sym (has.current n lt) ∙ ap is_current out) where
      covered : (b : Bool) → not b ≡ false → b ≡ true
      covered true h = refl
      covered false h = cc

pub cell_may_leave : (flags : List Bool) (cell : CellState) → length flags ≡ length (log_of cell) → HasMarks cell → MayGo flags cell
    → MayAllLeave cell.block [] (log_of cell) flags
cell_may_leave flags cell len has may = may_all_leave cell.block [] (log_of cell) flags len (going_is_covered flags cell has may) may.hidden
