-- The log pages in a hand, after each step of its own call.
use Rattle.std.proofs.Common.{◌≡◌, ℕ, zero, suc, ◌+◌, ◌<◌, ◌≤◌, ◌==◌, ◌∙◌, Bool, true, false, cond, List, [], ◌∷◌, ap, ap₂, arith, drop, filter, if◌then◌else◌, length, nat_lt, refl, sym}
use Rattle.std.proofs.lemmas.Bool.{ltb-false, true≢false}
use Rattle.std.proofs.lemmas.List.Sums.{sum_by-cons}
use Rattle.nv_alloc.specs.Numbers.{has}
use Rattle.nv_calls.specs.Slots.{items_for}
use Rattle.nv_calls.specs.declared.plan.InodePlan.{InodePlan}
use Rattle.nv_cell.specs.Cell.{CellState}
use Rattle.nv_log.specs.Chain.{pages_for}
use Rattle.nv_machine.specs.Pages.{HasLogPages}
use Rattle.nv_machine.specs.Reads.{is_written, pages_needed, pages_wanted, slot_at, written_slots}
use Rattle.nv_machine.specs.Sequence.{appending, closing, opening, publishing, retiring}
use Rattle.nv_machine.specs.World.{Append, Close, HandState, Leave, Next, Open, Publish, Retire, Running, Shared, Turn, cell_at, Fresh, Compact, SnapshotOrCleaner, SnapshotOrCleanerStep}
use Rattle.nv_machine.proofs.Lists.{or_left, or_right, self}
use Rattle.nv_machine.proofs.NextSteps.{IsQuiet, Known, OnKnown}
use Rattle.nv_machine.proofs.LoopSteps.{by_test, either}
use Rattle.nv_machine.proofs.SnapshotOrCleanerWalk.{is_cleaning}

-- ---- how many pages are wanted

unwritten : (s : Shared) (plan : List InodePlan) (ino : ℕ) → is_written plan ino ≡ false → pages_needed s plan ino ≡ 0
unwritten s plan ino e =
    let none : length (items_for plan ino) ≡ 0 = (let few = ltb-false 0 (length (items_for plan ino)) e in omega (arith, few)) in
    ap (λ (n : ℕ). pages_for (cell_at s ino).chain n) none

pub written_want : (s : Shared) (plan : List InodePlan) (slots : List ℕ)
    → pages_wanted s (filter (is_written plan) slots) plan ≡ pages_wanted s slots plan
written_want s plan [] = refl
written_want s plan (ino ∷ slots) =
    go (is_written plan ino) refl (written_want s plan slots) ∙ sym (sum_by-cons (pages_needed s plan) ino slots) where
      rest : List ℕ
      rest = filter (is_written plan) slots

      go : (b : Bool) → is_written plan ino ≡ b → pages_wanted s rest plan ≡ pages_wanted s slots plan
          → pages_wanted s (cond b (ino ∷ rest) rest) plan ≡ pages_needed s plan ino + pages_wanted s slots plan
      go true e more = let both = sum_by-cons (pages_needed s plan) ino rest in omega (arith, both, more)
      go false e more = let none = unwritten s plan ino e in omega (arith, none, more)

-- the first of those from a place on
pub next_want : (s : Shared) (plan : List InodePlan) (place : ℕ) (slots : List ℕ) → place < length slots
    → pages_wanted s (drop place slots) plan ≡ pages_needed s plan (slot_at slots place) + pages_wanted s (drop (suc place) slots) plan
next_want s plan place [] lt = absurd (omega (arith, lt))
next_want s plan zero (ino ∷ slots) lt = sum_by-cons (pages_needed s plan) ino slots
next_want s plan (suc place) (ino ∷ slots) lt = next_want s plan place slots (omega (arith, lt))

pub none_want : (s : Shared) (plan : List InodePlan) (place : ℕ) (slots : List ℕ) → length slots ≤ place
    → pages_wanted s (drop place slots) plan ≡ 0
none_want s plan zero [] le = refl
none_want s plan (suc place) [] le = refl
none_want s plan zero (ino ∷ slots) le = absurd (omega (arith, le))
none_want s plan (suc place) (ino ∷ slots) le = none_want s plan place slots (omega (arith, le))

-- where the cells of these slots are the same
pub same_want : (s t : Shared) (plan : List InodePlan) (slots : List ℕ)
    → ((ino : ℕ) → has slots ino ≡ true → cell_at t ino ≡ cell_at s ino) → pages_wanted t slots plan ≡ pages_wanted s slots plan
same_want s t plan [] same = refl
same_want s t plan (ino ∷ slots) same =
    let here = ap (λ (c : CellState). pages_for c.chain (length (items_for plan ino)))
    (same ino (or_left (ino == ino) (has slots ino) (self ino))) in
    let later = same_want s t plan slots (λ n e. same n (or_right (ino == n) (has slots n) e)) in
    sum_by-cons (pages_needed t plan) ino slots ∙ ap₂ (λ (a b : ℕ). a + b) here later
    ∙ sym (sum_by-cons (pages_needed s plan) ino slots)

-- ---- turns

abbrev pub Pages : ℕ → Known
Pages block k s h r = HasLogPages k block s h r

abbrev pub OnPages : ℕ → Turn → Type 0
OnPages block t = OnKnown (Pages block) t

none_wanted : (block : ℕ) (step : SnapshotOrCleanerStep) → is_cleaning step ≡ false → (s : Shared) (h : HandState) (r : Running)
    → Pages block (SnapshotOrCleaner step) s h r
none_wanted block (Fresh ino asked wanted) plain s h r = absurd (true≢false plain)
none_wanted block (Compact ino) plain s h r = absurd (true≢false plain)
none_wanted block other plain s h r = tt

pub pages_quiet : (block : ℕ) → IsQuiet (Pages block)
pages_quiet block = record {
  unlock = λ place s h r. tt;
  give = λ cpu s h r. tt;
  back = λ s h r. tt;
  look = λ s h r. tt;
  steps = λ step plain s h r. none_wanted block step plain s h r;
}

-- ---- a commit

module _ (block : ℕ) (t : Shared) (h : HandState) (q : Running) where
  abbrev At : Next → Type 0
  At k = HasLogPages k block t h q

  module _ (written : List ℕ) (none : length h.pages ≡ 0) where
    pub retiring_pages : (place : ℕ) → At (retiring place written)
    retiring_pages place = either At (nat_lt place (length written)) (Retire place) Leave none none

    pub publishing_pages : (place : ℕ) → At (publishing place written)
    publishing_pages place =
        either At (nat_lt place (length written)) (Publish place) (closing written) none
        (either At (nat_lt 1 (length written)) Close (retiring 0 written) none (retiring_pages 0))

  pub appending_pages : (place : ℕ) → length h.pages ≡ pages_wanted t (drop place (written_slots q)) q.plan
      → At (appending place (written_slots q))
  appending_pages place e =
      by_test At (nat_lt place (length written)) (Append place) (opening written) (λ more. e)
      (λ past. let none = e ∙ none_want t q.plan place written (ltb-false place (length written) past) in
      either At (nat_lt 1 (length written)) Open (publishing 0 written) none (publishing_pages written none 0)) where
        written : List ℕ
        written = written_slots q

-- a retire leaves log pages as they are
pub erased_pages : (b : Bool) (h kept gone : HandState) → length kept.pages ≡ 0 → length gone.pages ≡ 0
    → length (if b then gone else kept).pages ≡ 0
erased_pages true h kept gone none also = also
erased_pages false h kept gone none also = none
