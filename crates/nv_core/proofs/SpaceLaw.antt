-- Where each block stands once, those of lists, logs and parts that are kept are no more than there are.
use Rattle.std.proofs.Common.{◌≡◌, ℕ, zero, suc, ◌+◌, ◌<◌, ◌≤◌, ◌==◌, ◌&&◌, Bool, true, false, cond, if◌then◌else◌, nat_lt, List, [], ◌∷◌, length, Option, Some, None, ap, arith, subst, refl, ◌∙◌, length-append}
use Rattle.std.proofs.lemmas.Bool.{eq-eqb, eqb-true, le-ltb, lt-ltb, ltb-false, ltb-true}
use Rattle.std.proofs.lemmas.List.{length-map}
use Rattle.std.proofs.lemmas.List.Sums.{sum_by-cons}
use Rattle.std.specs.List.{flat_map, sum_by}
use Rattle.nv_alloc.specs.Block.{BlockValue, number_of, numbers_of}
use Rattle.nv_alloc.specs.FreeList.{FreeBlocks}
use Rattle.nv_alloc.specs.Numbers.{IsEachOnce, times}
use Rattle.nv_book.specs.Book.{BookState}
use Rattle.nv_cell.specs.Cell.{CellState, log_of, of_part, stored_in}
use Rattle.nv_cell.specs.declared.mark.Mark.{Mark}
use Rattle.nv_machine.specs.Numbers.{all_blocks, free_of as free_numbers, held_by_actor, used_blocks}
use Rattle.nv_machine.specs.World.{World}
use Rattle.nv_core.proofs.SumsTo.{sum_to}
use Rattle.nv_core.specs.Reports.{AddsUp, births, chain_in, free_in, is_part_kept, kept_among, kept_in, one_of}

-- ---- numbers that stand once

times_cons : (k x : ℕ) (xs : List ℕ) → times k (x ∷ xs) ≡ cond (x == k) 1 0 + times k xs
times_cons k x xs = sum_by-cons (λ (m : ℕ). cond (m == k) 1 0) x xs

times_same : (x : ℕ) (xs : List ℕ) → times x (x ∷ xs) ≡ suc (times x xs)
times_same x xs =
    let same : (x == x) ≡ true = eq-eqb x x refl in
    let all : times x (x ∷ xs) ≡ 1 + times x xs = times_cons x x xs ∙ ap (λ (b : Bool). cond b 1 0 + times x xs) same in
    omega (arith, all)

times_other : (k x : ℕ) (xs : List ℕ) → (x == k) ≡ false → times k (x ∷ xs) ≡ times k xs
times_other k x xs other =
    let all : times k (x ∷ xs) ≡ 0 + times k xs = times_cons k x xs ∙ ap (λ (b : Bool). cond b 1 0 + times k xs) other in
    omega (arith, all)

times_tail : (k x : ℕ) (xs : List ℕ) → times k xs ≤ times k (x ∷ xs)
times_tail k x xs = let all = times_cons k x xs in omega (arith, all)

-- how many of a list are below a number
abbrev tally : ℕ → List ℕ → ℕ
tally k xs = sum_to k (λ n. times n xs)

differs : (x k : ℕ) (b : Bool) → (x == k) ≡ b → (x ≡ k → ⊥) → b ≡ false
differs x k true is apart = absurd (apart (eqb-true x k is))
differs x k false is apart = refl

tally_out : (k x : ℕ) (xs : List ℕ) → k ≤ x → tally k (x ∷ xs) ≡ tally k xs
tally_out zero x xs le = refl
tally_out (suc k) x xs le =
    let other : (x == k) ≡ false = differs x k (x == k) refl (λ same. omega (arith, same, le)) in
    let here = times_other k x xs other in
    let rest = tally_out k x xs (omega (arith, le)) in
    omega (arith, here, rest)

beneath : (x k : ℕ) → x < suc k → (x ≡ k → ⊥) → x < k
beneath x k lt other = go (nat_lt x k) refl where
  go : (b : Bool) → nat_lt x k ≡ b → x < k
  go true is = ltb-true x k is
  go false is = absurd (other (let ge = ltb-false x k is in omega (arith, lt, ge)))

tally_in : (k x : ℕ) (xs : List ℕ) → x < k → tally k (x ∷ xs) ≡ suc (tally k xs)
tally_in zero x xs lt = absurd (omega (arith, lt))
tally_in (suc k) x xs lt = go (x == k) refl (λ below. tally_in k x xs below) where
  go : (b : Bool) → (x == k) ≡ b → (x < k → tally k (x ∷ xs) ≡ suc (tally k xs))
      → times k (x ∷ xs) + tally k (x ∷ xs) ≡ suc (times k xs + tally k xs)
  go true is later =
      let same : x ≡ k = eqb-true x k is in
      let here : times k (x ∷ xs) ≡ suc (times k xs) =
      subst (λ (n : ℕ). times n (x ∷ xs) ≡ suc (times n xs)) same (times_same x xs) in
      let rest = tally_out k x xs (omega (arith, same)) in
      omega (arith, here, rest)
  go false is later =
      let here = times_other k x xs is in
      let other : x ≡ k → ⊥ = λ same. let t : (x == k) ≡ true = eq-eqb x k same in cc in
      let below : x < k = beneath x k lt other in
      let rest = later below in
      omega (arith, here, rest)

tally_none : (k : ℕ) → tally k [] ≡ 0
tally_none zero = refl
tally_none (suc k) = let rest = tally_none k in omega (arith, rest)

times_all : (many : ℕ) (xs : List ℕ) → ((n : ℕ) → many ≤ n → times n xs ≡ 0) → sum_to many (λ n. times n xs) ≡ length xs
times_all many [] none = tally_none many
times_all many (x ∷ xs) none =
    let lt : x < many = go (nat_lt x many) refl in
    let rest = times_all many xs (λ n le. let a = none n le in let b = times_tail n x xs in omega (arith, a, b)) in
    let here = tally_in many x xs lt in
    omega (arith, here, rest) where
      go : (b : Bool) → nat_lt x many ≡ b → x < many
      go true is = ltb-true x many is
      go false is = absurd (let past = none x (ltb-false x many is) in let some = times_same x xs in omega (arith, past, some))

tally_each : (k : ℕ) (xs : List ℕ) → ((n : ℕ) → n < k → times n xs ≡ 1) → tally k xs ≡ k
tally_each zero xs once = refl
tally_each (suc k) xs once =
    let last = once k (omega arith) in
    let rest = tally_each k xs (λ n lt. once n (omega (arith, lt))) in
    omega (arith, last, rest)

-- as many numbers as those below so many, where each stands once
pub just_as_many : (many : ℕ) (numbers : List ℕ) → IsEachOnce many numbers → length numbers ≡ many
just_as_many many numbers each =
    let all = times_all many numbers none in
    let some = tally_each many numbers once in
    omega (arith, all, some) where
      none : (n : ℕ) → many ≤ n → times n numbers ≡ 0
      none n le = let past : nat_lt n many ≡ false = le-ltb n many le in rw past at (each n)

      once : (n : ℕ) → n < many → times n numbers ≡ 1
      once n lt = let inside : nat_lt n many ≡ true = lt-ltb n many lt in rw inside at (each n)

-- ---- the blocks of a world

one_few : (book : BookState) (birth : ℕ) (mark : Mark) (block : Option BlockValue) → one_of book birth mark block ≤ length (of_part block)
one_few book birth mark None = go (is_part_kept book birth mark) where
  go : (b : Bool) → (if b && false then 1 else 0) ≤ 0
  go true = omega arith
  go false = omega arith
one_few book birth mark (Some block) = go (is_part_kept book birth mark) where
  go : (b : Bool) → (if b && true then 1 else 0) ≤ 1
  go true = omega arith
  go false = omega arith

kept_few : (book : BookState) (births : List ℕ) (marks : List Mark) (blocks : List (Option BlockValue))
    → kept_among book births marks blocks ≤ length (flat_map of_part blocks)
kept_few book [] marks blocks = omega arith
kept_few book (birth ∷ births) [] blocks = omega arith
kept_few book (birth ∷ births) (mark ∷ marks) [] = omega arith
kept_few book (birth ∷ births) (mark ∷ marks) (block ∷ blocks) =
    let one = one_few book birth mark block in
    let rest = kept_few book births marks blocks in
    let long = length-append (of_part block) (flat_map of_part blocks) in
    omega (arith, one, rest, long)

cell_few : (book : BookState) (cell : CellState) → chain_in cell + kept_in book cell ≤ length (stored_in cell)
cell_few book cell =
    let kept = kept_few book (births (log_of cell)) cell.marks cell.blocks in
    let chain = length-map cell.chain.blocks number_of in
    let long = length-append (numbers_of cell.chain.blocks) (flat_map of_part cell.blocks) in
    omega (arith, kept, chain, long)

cells_few : (book : BookState) (cells : List CellState) → sum_by chain_in cells + sum_by (kept_in book) cells ≤ length
    (flat_map stored_in cells)
cells_few book [] = omega arith
cells_few book (cell ∷ cells) =
    let one = cell_few book cell in
    let rest = cells_few book cells in
    let chain = sum_by-cons chain_in cell cells in
    let kept = sum_by-cons (kept_in book) cell cells in
    let long = length-append (stored_in cell) (flat_map stored_in cells) in
    omega (arith, one, rest, chain, kept, long)

lists_few : (lists : List FreeBlocks) → sum_by free_in lists ≡ length (flat_map free_numbers lists)
lists_few [] = refl
lists_few (list ∷ lists) =
    let rest = lists_few lists in
    let one = length-map list.blocks number_of in
    let free = sum_by-cons free_in list lists in
    let long = length-append (free_numbers list) (flat_map free_numbers lists) in
    omega (arith, rest, one, free, long)

pub adds_up : (blocks : ℕ) (w : World) → IsEachOnce blocks (all_blocks w) → AddsUp blocks w.shared
adds_up blocks w each =
    let few = just_as_many blocks (all_blocks w) each in
    let free = lists_few w.shared.lists in
    let cells = cells_few w.shared.book w.shared.cells in
    let long = length-append (flat_map free_numbers w.shared.lists) (used_blocks w) in
    let used = length-append (flat_map stored_in w.shared.cells) (flat_map held_by_actor w.actors) in
    omega (arith, few, free, cells, long, used)
