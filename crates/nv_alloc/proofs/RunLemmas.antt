-- Runs of consecutive numbers.
use Rattle.std.proofs.Common.{◌≡◌, ◌≢◌, ℕ, zero, suc, ◌+◌, ◌-◌, ◌<◌, ◌≤◌, ◌==◌, inl, inr, Bool, true, false, List, [], ◌∷◌, Option, Some, None, length, map, drop, get_or, arith, refl, ap, sym, ◌∙◌, subst, ◌^◌, length-drop, add-zero}
use Rattle.std.proofs.lemmas.Bool.{cases_Bool, eqb-true, eqb-false, eq-eqb}
use Rattle.std.proofs.lemmas.List.{drop-drop, drop-map, get_or-drop, length-map}
use Rattle.std.specs.List.{AllByRecursion, range_with_len}
use Rattle.std.specs.Option.{is_some}
use Rattle.nv_alloc.specs.declared.runs.FreeRun.{FreeRun}
use Rattle.nv_alloc.specs.Block.{BlockValue, numbers_of}
use Rattle.nv_alloc.specs.FreeList.{AreFlagsFrom, ArePlaced}
use Rattle.nv_alloc.specs.Numbers.{IsRising}
use Rattle.nv_alloc.specs.Places.{present}
use Rattle.nv_alloc.specs.Runs.{join, free_runs_of, numbers_in, HaveGaps, IsCutInto}
use Rattle.nv_alloc.proofs.Slots.{placed_above, some_there}

-- the first run, if there is one, begins above the number
abbrev StartAbove : ℕ → List FreeRun → Type 0
StartAbove n [] = Unit {0}
StartAbove n (run ∷ runs) = n < run.first

join_starts : (n m : ℕ) (runs : List FreeRun) → n < m → StartAbove n (join m runs)
join_starts n m [] h = h
join_starts n m (run ∷ runs) h = elim (cases_Bool (run.first == m + 1)) [ inl e ↦ rw e h | inr e ↦ rw e h ]

runs_start : (n : ℕ) (numbers : List ℕ) → AllByRecursion (λ m. n < m) numbers → StartAbove n (free_runs_of numbers)
runs_start n [] h = tt
runs_start n (m ∷ ms) h = join_starts n m (free_runs_of ms) h.0

-- a run that begins later is not joined
join_apart : (n : ℕ) (runs : List FreeRun) → StartAbove (n + 1) runs → join n runs ≡ record { first = n; last = n } ∷ runs
join_apart n [] h = refl
join_apart n (run ∷ runs) h = elim (cases_Bool (run.first == n + 1)) [
  | inl e ↦ absurd (omega (arith, eqb-true run.first (n + 1) e, h))
  | inr e ↦ rw e refl
]

join_next : (n last : ℕ) (runs : List FreeRun)
    → join n (record { first = n + 1; last = last } ∷ runs) ≡ record { first = n; last = last } ∷ runs
join_next n last runs = rw (eq-eqb (n + 1) (n + 1) refl) refl

pub ArePlaced-drop : (k s : ℕ) (slots : List (Option BlockValue)) → ArePlaced s slots → ArePlaced (s + k) (drop k slots)
ArePlaced-drop zero s slots p = let e : s ≡ s + 0 = omega arith in subst (λ n. ArePlaced n slots) e p
ArePlaced-drop (suc k) s [] p = tt
ArePlaced-drop (suc k) s (None ∷ slots) p = let e : s + 1 + k ≡ s + suc k = omega arith in
    subst (λ n. ArePlaced n (drop k slots)) e (ArePlaced-drop k (s + 1) slots p)
ArePlaced-drop (suc k) s (Some b ∷ slots) p = let e : s + 1 + k ≡ s + suc k = omega arith in
    subst (λ n. ArePlaced n (drop k slots)) e (ArePlaced-drop k (s + 1) slots p.1)

-- ---- the flags of the slots that are left

pub flag_left : (at k : ℕ) (flags : List Bool) (slots : List (Option BlockValue)) → AreFlagsFrom at flags slots
    → is_some (get_or slots k None) ≡ get_or flags (at + k) false
flag_left at k flags slots left =
    sym (some_there slots k) ∙ ap (λ (l : List Bool). get_or l k false) (sym left.1) ∙ get_or-drop at flags k false

pub slots_left : (at : ℕ) (flags : List Bool) (slots : List (Option BlockValue)) → AreFlagsFrom at flags slots
    → at + length slots ≡ length flags
slots_left at flags slots left = omega (arith, left.0, ap length left.1, length-drop at flags, length-map slots is_some)

pub flags_behind : (at n : ℕ) (flags : List Bool) (slots rest : List (Option BlockValue)) → rest ≡ drop n slots → n ≤ length slots
    → AreFlagsFrom at flags slots → AreFlagsFrom (at + n) flags rest
flags_behind at n flags slots rest e within left = (
  omega (arith, within, slots_left at flags slots left),
  sym (drop-drop n at flags) ∙ ap (drop n) left.1 ∙ drop-map is_some n slots ∙ ap (map is_some) (sym e),
)

-- slots without a block at the front add nothing
pub skip_gap : (gap : ℕ) (slots : List (Option BlockValue)) → ((k : ℕ) → k < gap → is_some (get_or slots k None) ≡ false)
    → present slots ≡ present (drop gap slots)
skip_gap zero slots h = refl
skip_gap (suc gap) [] h = refl
skip_gap (suc gap) (None ∷ slots) h = skip_gap gap slots (λ k lt. h (suc k) (omega arith))
skip_gap (suc gap) (Some b ∷ slots) h = let e : true ≡ false = h 0 (omega arith) in cc

-- what begins with an empty slot has no block of the first number
ends : (s : ℕ) (slots : List (Option BlockValue)) → ArePlaced s slots → (0 < length slots → is_some (get_or slots 0 None) ≢ true)
    → StartAbove s (free_runs_of (numbers_of (present slots)))
ends s [] p at = tt
ends s (None ∷ slots) p at = runs_start s (numbers_of (present slots)) (placed_above (s + 1) s slots (omega arith) p)
ends s (Some b ∷ slots) p at = absurd (at (omega arith) refl)

-- slots with a block at the front are one run
pub take_run : (len s : ℕ) (slots : List (Option BlockValue)) → ArePlaced s slots
    → ((k : ℕ) → k < suc len → is_some (get_or slots k None) ≡ true)
    → (suc len < length slots → is_some (get_or slots (suc len) None) ≢ true)
    → free_runs_of (numbers_of (present slots)) ≡ record { first = s; last = s + len } ∷ free_runs_of (numbers_of (present (drop (suc len) slots)))
take_run len s [] p some at = let e : false ≡ true = some 0 (omega arith) in cc
take_run len s (None ∷ slots) p some at = let e : false ≡ true = some 0 (omega arith) in cc
take_run zero s (Some b ∷ slots) p some at =
    let apart = join_apart s (free_runs_of (numbers_of (present slots))) (ends (s + 1) slots p.1 (λ h. at (omega arith))) in
    let last : s ≡ s + 0 = omega arith in
    rw p.0 (apart ∙ ap (λ n. record { first = s; last = n } ∷ free_runs_of (numbers_of (present slots))) last)
take_run (suc len) s (Some b ∷ slots) p some at =
    let rest = take_run len (s + 1) slots p.1 (λ k lt. some (suc k) (omega arith)) (λ lt. at (omega arith)) in
    let last : s + 1 + len ≡ s + suc len = omega arith in
    rw (p.0, rest) (join_next s (s + 1 + len) (free_runs_of (numbers_of (present (drop (suc len) slots))))
    ∙ ap (λ n. record { first = s; last = n } ∷ free_runs_of (numbers_of (present (drop (suc len) slots)))) last)

-- no block is left where neither a gap nor a run is
pub no_run : (slots : List (Option BlockValue)) → (0 < length slots → is_some (get_or slots 0 None) ≢ false)
    → (0 < length slots → is_some (get_or slots 0 None) ≢ true) → slots ≡ []
no_run [] a b = refl
no_run (None ∷ slots) a b = absurd (a (omega arith) refl)
no_run (Some x ∷ slots) a b = absurd (b (omega arith) refl)

-- what is after a gap and a run is placed too
pub moved : (start gap len : ℕ) (slots rest after : List (Option BlockValue)) → rest ≡ drop gap slots → after ≡ drop len rest
    → gap ≤ length slots → len ≤ length rest
    → ArePlaced start slots → start + length slots < 2 ^ 32
    → ArePlaced (start + gap + len) after × (start + gap + len + length after < 2 ^ 32)
moved start gap len slots rest after e f within inside placed small =
    let cut : ArePlaced (start + gap) rest = subst (λ xs. ArePlaced (start + gap) xs) (sym e) (ArePlaced-drop gap start slots placed) in (
      subst (λ xs. ArePlaced (start + gap + len) xs) (sym f) (ArePlaced-drop len (start + gap) rest cut),
      omega (arith, ap length e, ap length f, length-drop gap slots, length-drop len rest),
    )

-- the first item of what is left
first_left : (gap : ℕ) (slots rest : List (Option BlockValue)) → rest ≡ drop gap slots
    → (gap < length slots → is_some (get_or slots gap None) ≢ false) → 0 < length rest → is_some (get_or rest 0 None) ≢ false
first_left gap slots rest e at lt h =
    at (omega (arith, ap length e, length-drop gap slots)) (ap is_some (sym (ap (λ xs. get_or xs 0 None) e
    ∙ get_or-drop gap slots 0 None ∙ ap (λ i. get_or slots i None) (add-zero gap))) ∙ h)

pub none_left : (gap len : ℕ) (slots rest after : List (Option BlockValue)) → rest ≡ drop gap slots → after ≡ drop len rest
    → ((k : ℕ) → k < gap → is_some (get_or slots k None) ≡ false) → (gap < length slots → is_some (get_or slots gap None) ≢ false)
    → (len < length rest → is_some (get_or rest len None) ≢ true) → len ≡ 0
    → (free_runs_of (numbers_of (present slots)) ≡ []) × (free_runs_of (numbers_of (present after)) ≡ [])
none_left gap len slots rest after e f before at run zero_len =
    let empty : rest ≡ [] = no_run rest (first_left gap slots rest e at) (λ lt h. run (omega (arith, zero_len, lt)) (rw zero_len h)) in
    let skipped : present slots ≡ present rest = skip_gap gap slots before ∙ ap present (sym e) in
    let gone : after ≡ [] = f ∙ ap (λ n. drop n rest) zero_len ∙ empty in
    (rw (skipped, empty) refl, rw gone refl)

pub one_run : (start gap len : ℕ) (slots rest after : List (Option BlockValue)) → rest ≡ drop gap slots → after ≡ drop len rest
    → ArePlaced start slots
    → ((k : ℕ) → k < gap → is_some (get_or slots k None) ≡ false)
    → ((k : ℕ) → k < len → is_some (get_or rest k None) ≡ true) → (len < length rest → is_some (get_or rest len None) ≢ true) → len ≢ 0
    → free_runs_of (numbers_of (present slots)) ≡ record { first = start + gap; last = start + gap + len - 1 } ∷ free_runs_of (numbers_of
    (present after))
one_run start gap zero slots rest after e f placed before some at more = absurd (more refl)
one_run start gap (suc len) slots rest after e f placed before some at more =
    let cut : ArePlaced (start + gap) rest = subst (λ xs. ArePlaced (start + gap) xs) (sym e) (ArePlaced-drop gap start slots placed) in
    let skipped : present slots ≡ present rest = skip_gap gap slots before ∙ ap present (sym e) in
    let last : start + gap + len ≡ start + gap + suc len - 1 = omega arith in
    rw (skipped, f) (take_run len (start + gap) rest cut some at
    ∙ ap (λ n. record { first = start + gap; last = n } ∷ free_runs_of (numbers_of (present (drop (suc len) rest)))) last)

-- ---- the runs of a rising list

first_of_range : (n last : ℕ) → n + 1 ≤ last → range_with_len n (last + 1 - n) ≡ n ∷ range_with_len (n + 1) (last + 1 - (n + 1))
first_of_range n last h = let e : last + 1 - n ≡ suc (last + 1 - (n + 1)) = omega arith in ap (range_with_len n) e

one_number : (n : ℕ) → range_with_len n (n + 1 - n) ≡ n ∷ []
one_number n = let e : n + 1 - n ≡ suc zero = omega arith in ap (range_with_len n) e

HaveGaps-join : (n : ℕ) (runs : List FreeRun) → HaveGaps runs → StartAbove n runs → HaveGaps (join n runs)
HaveGaps-join n [] g h = omega arith
HaveGaps-join n (run ∷ []) g h = go (run.first == n + 1) refl where
  go : (b : Bool) → (run.first == n + 1) ≡ b → HaveGaps (join n (run ∷ []))
  go true e = rw e (omega (arith, g, h))
  go false e = rw e (omega arith, omega (arith, h, eqb-false run.first (n + 1) e), g)
HaveGaps-join n (run ∷ next ∷ runs) g h = go (run.first == n + 1) refl where
  go : (b : Bool) → (run.first == n + 1) ≡ b → HaveGaps (join n (run ∷ next ∷ runs))
  go true e = rw e (omega (arith, g.0, h), g.1, g.2)
  go false e = rw e (omega arith, omega (arith, h, eqb-false run.first (n + 1) e), g)

numbers_in-join : (n : ℕ) (runs : List FreeRun) → HaveGaps runs → numbers_in (join n runs) ≡ n ∷ numbers_in runs
numbers_in-join n [] g = rw (one_number n) refl
numbers_in-join n (run ∷ runs) g = go (run.first == n + 1) refl (some run runs g) where
  some : (run : FreeRun) (runs : List FreeRun) → HaveGaps (run ∷ runs) → run.first ≤ run.last
  some run [] g = g
  some run (next ∷ runs) g = g.0

  go : (b : Bool) → (run.first == n + 1) ≡ b → run.first ≤ run.last → numbers_in (join n (run ∷ runs)) ≡ n ∷ numbers_in (run ∷ runs)
  go true e h = let f = eqb-true run.first (n + 1) e in rw (e, f, first_of_range n run.last (omega (arith, f, h))) refl
  go false e h = rw (e, one_number n) refl

pub cut : (numbers : List ℕ) → IsRising numbers → IsCutInto numbers (free_runs_of numbers)
cut [] r = record { all = refl; maximal = tt }
cut (n ∷ numbers) r =
    let rest = cut numbers r.1 in
    record {
      all = numbers_in-join n (free_runs_of numbers) rest.maximal
          ∙ ap (λ ms. n ∷ ms) rest.all;
      maximal = HaveGaps-join n (free_runs_of numbers) rest.maximal (runs_start n numbers r.0);
    }
