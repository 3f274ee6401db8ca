-- Maximal runs are those of their blocks.
use Rattle.std.proofs.Common.{◌≡◌, ℕ, zero, suc, ◌+◌, ◌<◌, ◌^◌, ◌==◌, Bool, true, false, cond, nat_lt, List, [], ◌∷◌, ◌++◌, map, arith, refl, ap, subst, sym, ◌∙◌, eq-eqb}
use Rattle.std.specs.List.{flat_map, range_with_len}
use Rattle.std.proofs.Math.Bridge.{le_prop}
use Rattle.std.proofs.lemmas.Bool.{eqb-true, lt-ltb, ltb-true}
use Rattle.nv_entry.specs.declared.item.BlockRun.{BlockRun}
use Rattle.nv_entry.specs.Sound.{blocks_of}
use Rattle.nv_calls.specs.Plan.{AreMaximal, run_if, block_runs_of, stretches, with_number}

abbrev stretch : BlockRun → ℕ × ℕ
stretch run = (run.start, run.len)

-- no stretch begins at a number
abbrev BeginsElsewhere : ℕ → List (ℕ × ℕ) → Type 0
BeginsElsewhere n [] = Unit {0}
BeginsElsewhere n (t ∷ tail) = n ≡ t.0 → ⊥

not_same : (a b : ℕ) → (a ≡ b → ⊥) → (a == b) ≡ false
not_same a b apart = go (a == b) refl where
  go : (x : Bool) → (a == b) ≡ x → x ≡ false
  go true q = absurd (apart (eqb-true a b q))
  go false q = refl

-- a number before a stretch that begins elsewhere is one of its own
alone : (n : ℕ) (tail : List (ℕ × ℕ)) → BeginsElsewhere (n + 1) tail → with_number n tail ≡ (n, 1) ∷ tail
alone n [] apart = refl
alone n (t ∷ tail) apart = ap (λ (b : Bool). cond b ((n, t.1 + 1) ∷ tail) ((n, 1) ∷ t ∷ tail)) (not_same (n + 1) t.0 apart)

one_stretch : (start n : ℕ) (rest : List ℕ) (tail : List (ℕ × ℕ)) → stretches rest ≡ tail → BeginsElsewhere (start + suc n) tail
    → stretches (range_with_len start (suc n) ++ rest) ≡ (start, suc n) ∷ tail
one_stretch start zero rest tail is apart =
    let e : start + suc zero ≡ start + 1 = omega arith in
    ap (with_number start) is ∙ alone start tail (subst (λ (n : ℕ). BeginsElsewhere n tail) e apart)
one_stretch start (suc n) rest tail is apart =
    let e : start + suc (suc n) ≡ start + 1 + suc n = omega arith in
    let more : suc n + 1 ≡ suc (suc n) = omega arith in
    ap (with_number start) (one_stretch (start + 1) n rest tail is (subst (λ (k : ℕ). BeginsElsewhere k tail) e apart))
    ∙ ap (λ (b : Bool). cond b ((start, suc n + 1) ∷ tail) ((start, 1) ∷ (start + 1, suc n) ∷ tail)) (eq-eqb (start + 1) (start + 1) refl)
    ∙ ap (λ (k : ℕ). (start, k) ∷ tail) more

some_stretch : (start len : ℕ) (rest : List ℕ) (tail : List (ℕ × ℕ)) → 0 < len → stretches rest ≡ tail → BeginsElsewhere (start + len) tail
    → stretches (range_with_len start len ++ rest) ≡ (start, len) ∷ tail
some_stretch start zero rest tail some is apart = absurd (omega (arith, some))
some_stretch start (suc n) rest tail some is apart = one_stretch start n rest tail is apart

stretches_are : (runs : List BlockRun) → AreMaximal runs → stretches (blocks_of runs) ≡ map stretch runs
stretches_are [] h = refl
stretches_are (run ∷ []) h = some_stretch run.start run.len [] [] h refl tt
stretches_are (run ∷ next ∷ runs) h =
    some_stretch run.start run.len (blocks_of (next ∷ runs)) (map stretch (next ∷ runs)) h.0 (stretches_are (next ∷ runs) h.2) h.1

-- a run is that of its stretch
run_is : (run : BlockRun) (fits : Bool) (is : nat_lt (run.start + run.len) (2 ^ 64) ≡ fits) → run_if run.start run.len fits is ≡ run ∷ []
run_is run true is =
    let same : IsProp (run.start + run.len < 2 ^ 64) = le_prop in
    ap (λ (p : run.start + run.len < 2 ^ 64). let r : BlockRun = record { start = run.start; len = run.len; in_range = p } in r ∷ [])
    (same (ltb-true (run.start + run.len) (2 ^ 64) is) run.in_range)
run_is run false is = let fits : nat_lt (run.start + run.len) (2 ^ 64) ≡ true = lt-ltb (run.start + run.len) (2 ^ 64) run.in_range in cc

runs_are : (runs : List BlockRun)
    → flat_map (λ (run : ℕ × ℕ). run_if run.0 run.1 (nat_lt (run.0 + run.1) (2 ^ 64)) refl) (map stretch runs) ≡ runs
runs_are [] = refl
runs_are (run ∷ runs) =
    ap (λ (xs : List BlockRun). xs ++ flat_map (λ (r : ℕ × ℕ). run_if r.0 r.1 (nat_lt (r.0 + r.1) (2 ^ 64)) refl) (map stretch runs))
    (run_is run (nat_lt (run.start + run.len) (2 ^ 64)) refl)
    ∙ ap (λ (xs : List BlockRun). run ∷ xs) (runs_are runs)

pub maximal_are : (runs : List BlockRun) (numbers : List ℕ) → AreMaximal runs → blocks_of runs ≡ numbers → runs ≡ block_runs_of numbers
maximal_are runs numbers maximal is =
    sym (runs_are runs)
    ∙ ap (λ (xs : List (ℕ × ℕ)). flat_map (λ (run : ℕ × ℕ). run_if run.0 run.1 (nat_lt (run.0 + run.1) (2 ^ 64)) refl) xs)
    (sym (stretches_are runs maximal) ∙ ap stretches is)
