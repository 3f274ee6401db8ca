-- Parts that begin at equal distances, where one entry more is added.
use Rattle.std.proofs.Common.{◌≡◌, ℕ, zero, suc, ◌+◌, ◌-◌, ◌*◌, ◌<◌, ◌≤◌, ◌^◌, List, [], ◌∷◌, ◌++◌, length, arith, refl, sym, inl, inr, ◌∙◌}
use Rattle.std.proofs.lemmas.Bool.{cases_lt}
use Rattle.std.proofs.lemmas.List.{length_push}
use Rattle.std.proofs.Math.Nat.{add-mul}
use Rattle.nv_cell.specs.declared.part_ends.EvenRun.{EvenRun}
use Rattle.nv_cell.specs.PartEnds.{IsEvenRun}
use Rattle.nv_cell.specs.Runs.{start_at}
use Rattle.nv_cell.proofs.Cells.{end_old, end_new}
use Rattle.nv_cell.proofs.Tallies.{next_start}

-- where the parts of an entry begin, with one entry more behind all
start_old : (ends : List ℕ) (end i : ℕ) → i ≤ length ends → start_at (ends ++ end ∷ []) i ≡ start_at ends i
start_old ends end zero le = refl
start_old ends end (suc i) le =
    next_start (ends ++ end ∷ []) i ∙ end_old ends end i (omega (arith, le)) ∙ sym (next_start ends i)

start_new : (ends : List ℕ) (end : ℕ) → start_at (ends ++ end ∷ []) (length ends + 1) ≡ end
start_new ends end =
    let s : length ends + 1 ≡ suc (length ends) = omega arith in
    rw s (next_start (ends ++ end ∷ []) (length ends) ∙ end_new ends end)

one_more : (a b c : ℕ) → b ≤ a → (a + 1 - b) * c ≡ (a - b) * c + c
one_more a b c le =
    let s : a + 1 - b ≡ (a - b) + 1 = omega (arith, le) in
    rw s (omega (arith, add-mul (a - b) 1 c))

-- an entry of as many parts goes on with the run
pub goes_on : (s : EvenRun) (ends : List ℕ) (end : ℕ) → IsEvenRun s ends → end ≡ start_at ends (length ends) + s.parts → end < 2 ^ 64
    → IsEvenRun s (ends ++ end ∷ [])
goes_on s ends end h is fits =
    let len = length_push ends end in
    let last : end ≡ s.start + (length ends + 1 - s.from) * s.parts =
    omega (arith, is, h.even (length ends) h.within (omega arith), one_more (length ends) s.from s.parts h.within) in
    record {
      within = omega (arith, len, h.within);
      even = λ i ge le. elim (cases_lt i (length ends + 1)) [
        | inl lt ↦ start_old ends end i (omega (arith, lt)) ∙ h.even i ge (omega (arith, lt))
        | inr behind ↦ let at : i ≡ length ends + 1 = omega (arith, behind, le, len) in rw at (start_new ends end ∙ last)
      ];
      small = rw len (omega (arith, last, fits));
    }

-- and any run may begin behind all entries
pub begins_behind : (s : EvenRun) (ends : List ℕ) (end : ℕ) → s.from ≡ length ends + 1 → s.start ≡ end → end < 2 ^ 64
    → IsEvenRun s (ends ++ end ∷ [])
begins_behind s ends end from start fits =
    let len = length_push ends end in
    let none : length ends + 1 - s.from ≡ 0 = omega (arith, from) in
    record {
      within = omega (arith, len, from);
      even = λ i ge le.
          let at : i ≡ length ends + 1 = omega (arith, ge, le, from, len) in
          rw (at, none) (start_new ends end ∙ omega (arith, start));
      small = rw (len, none) (omega (arith, start, fits));
    }
