-- Planned cells change one behind the other.
use Rattle.std.proofs.Common.{◌≡◌, ℕ, zero, suc, ◌+◌, ◌<◌, ◌≤◌, nat_eq, nat_lt, Bool, true, false, List, [], ◌∷◌, length, below_more, arith, refl, ap, sym, ◌∙◌, subst}
use Rattle.std.specs.Prelude.{slice_set}
use Rattle.std.proofs.lemmas.Bool.{eqb-true, eqb-false, ltb-true, ltb-false}
use Rattle.std.proofs.lemmas.List.{get_or-set_other, get_or-set_same, length-set}
use Rattle.nv_cell.specs.Cell.{CellState, CellValue}
use Rattle.nv_calls.specs.Cells.{OnlyAt, state_at, value_at}
use Rattle.nv_calls.specs.Committed.{ChangesPlanned, cell_place_of}
use Rattle.nv_calls.specs.PlanByPlan.{ArePlansFrom, IsChangedTo}
use Rattle.nv_calls.specs.Ready.{ArePlaced, CellCommitValue, no_plan, plan_at}
use Rattle.nv_calls.proofs.CellLists.{ino-only, length-only, other-only}

-- two plans are of two cells
pub apart : (cells : List (ℕ × CellValue)) (plans : List CellCommitValue) → ArePlaced cells plans → (i j : ℕ) → i < length plans
    → j < length plans
    → (i ≡ j → ⊥) → cell_place_of plans i ≡ cell_place_of plans j → ⊥
apart cells plans placed i j li lj differ same = go (nat_lt i j) refl where
  go : (b : Bool) → nat_lt i j ≡ b → ⊥
  go true q = let less = placed.rising i j no_plan (ltb-true i j q) lj in omega (arith, less, same)
  go false q =
      let below : j < i = omega (arith, ltb-false i j q) in
      let less = placed.rising j i no_plan below li in
      omega (arith, less, same)

-- there are no more plans than cells
at_least : (cells : List (ℕ × CellValue)) (plans : List CellCommitValue) → ArePlaced cells plans → (j : ℕ) → j < length plans
    → j ≤ cell_place_of plans j
at_least cells plans placed zero lt = omega arith
at_least cells plans placed (suc j) lt =
    let step : j < suc j = omega arith in
    omega (arith, at_least cells plans placed j (omega (arith, lt)), placed.rising j (suc j) no_plan step lt)

pub few_plans : (cells : List (ℕ × CellValue)) (plans : List CellCommitValue) → ArePlaced cells plans → length plans ≤ length cells
few_plans cells [] placed = omega arith
few_plans cells (p ∷ plans) placed =
    let last : length plans < length (p ∷ plans) = omega arith in
    omega (arith, at_least cells (p ∷ plans) placed (length plans) last, placed.within (length plans) last)

pub none_changed : (plans : List CellCommitValue) (becomes : ℕ → CellState) (cells : List (ℕ × CellValue))
    → IsChangedTo 0 plans becomes cells cells
none_changed plans becomes cells = record {
  count = refl;
  numbers = λ k. refl;
  done = λ i lt. absurd (omega (arith, lt));
  waiting = λ i le lt. refl;
  others = λ k un. refl;
}

pub one_more : (j : ℕ) (plans : List CellCommitValue) (becomes : ℕ → CellState) (old now new : List (ℕ × CellValue)) → ArePlaced old plans
    → j < length plans → IsChangedTo j plans becomes old now → OnlyAt (cell_place_of plans j) now new
    → state_at new (cell_place_of plans j) ≡ becomes j → IsChangedTo (j + 1) plans becomes old new
one_more j plans becomes old now new placed lt way only state =
    let at : ℕ = cell_place_of plans j in
    let stays : (i : ℕ) → i < length plans → (i ≡ j → ⊥) → value_at new (cell_place_of plans i) ≡ value_at now (cell_place_of plans i) =
    λ i li differ. other-only now new at (cell_place_of plans i) only (apart old plans placed i j li lt differ) in
    record {
      count = length-only now new at only ∙ way.count;
      numbers = λ k. ino-only now new at k only ∙ way.numbers k;
      done = below_more (λ i. state_at new (cell_place_of plans i) ≡ becomes i) j
          (λ i li. ap (λ (v : CellValue). v.state) (stays i (omega (arith, li, lt)) (λ e. omega (arith, li, e))) ∙ way.done i li) state;
      waiting = λ i le li. stays i li (λ e. omega (arith, le, e)) ∙ way.waiting i (omega (arith, le)) li;
      others = λ k un. other-only now new at k only (λ e. un j lt (sym e)) ∙ way.others k un;
    }

pub all_changed : (j : ℕ) (plans : List CellCommitValue) (becomes : ℕ → CellState) (old now : List (ℕ × CellValue)) → length plans ≤ j
    → IsChangedTo j plans becomes old now → ChangesPlanned plans becomes old now
all_changed j plans becomes old now all way = record {
  count = way.count;
  numbers = way.numbers;
  planned = λ i lt. way.done i (omega (arith, lt, all));
  others = way.others;
}

-- ---- plans whose turn is over change, and stay plans of their cells

pub plans_none : (plans : List CellCommitValue) → ArePlansFrom 0 plans plans
plans_none plans = record { same = record { count = refl; places = λ i. refl }; rest = λ i le. refl }

pub plan_other : (now new : List CellCommitValue) (j i : ℕ) (p : CellCommitValue) → new ≡ slice_set now j p → (i ≡ j → ⊥)
    → plan_at new i ≡ plan_at now i
plan_other now new j i p is differ = ap (λ (ps : List CellCommitValue). plan_at ps i) is ∙ get_or-set_other now j i p no_plan differ

pub plan_own : (now new : List CellCommitValue) (j : ℕ) (p : CellCommitValue) → new ≡ slice_set now j p → j < length now → plan_at new j ≡ p
plan_own now new j p is lt = ap (λ (ps : List CellCommitValue). plan_at ps j) is ∙ get_or-set_same now j p no_plan lt

pub plans_more : (j : ℕ) (old now new : List CellCommitValue) (p : CellCommitValue) → j < length old → ArePlansFrom j old now
    → new ≡ slice_set now j p
    → p.at ≡ cell_place_of now j → ArePlansFrom (j + 1) old new
plans_more j old now new p lt way is at =
    let within : j < length now = omega (arith, lt, way.same.count) in
    let other : (i : ℕ) → (i ≡ j → ⊥) → plan_at new i ≡ plan_at now i = λ i differ. plan_other now new j i p is differ in
    let own : plan_at new j ≡ p = plan_own now new j p is within in
    record {
      same = record {
        count = ap length is ∙ length-set now j p ∙ way.same.count;
        places = λ i. go i (nat_eq i j) refl other own;
      };
      rest = λ i le. other i (λ e. omega (arith, le, e)) ∙ way.rest i (omega (arith, le));
    } where
      go : (i : ℕ) (b : Bool) → nat_eq i j ≡ b → ((k : ℕ) → (k ≡ j → ⊥) → plan_at new k ≡ plan_at now k) → plan_at new j ≡ p
          → cell_place_of new i ≡ cell_place_of old i
      go i true q other own =
          let e : i ≡ j = eqb-true i j q in
          subst (λ (k : ℕ). cell_place_of new k ≡ cell_place_of old k) (sym e) (ap (λ (x : CellCommitValue). x.at) own ∙ at ∙ way.same.places j)
      go i false q other own =
          ap (λ (x : CellCommitValue). x.at) (other i (eqb-false i j q)) ∙ way.same.places i
