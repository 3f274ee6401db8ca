-- Where nothing runs, the log pages that a plan needs are those that the machine takes for the
-- slots of its call, and the number of a new inode is the machine's.
use Rattle.std.proofs.Common.{◌≡◌, ℕ, zero, suc, ◌+◌, ◌<◌, ◌≤◌, ◌==◌, ◌||◌, ◌∙◌, Bool, true, false, List, [], ◌∷◌, ap, arith, length, refl, sym}
use Rattle.std.specs.List.{AllByRecursion, range_with_len, sum_by}
use Rattle.std.proofs.lemmas.Bool.{eqb-false, eqb-true, ne_eqb}
use Rattle.std.proofs.lemmas.List.Sums.{sum_by-cons}
use Rattle.nv_alloc.specs.Numbers.{IsRising, has}
use Rattle.nv_base.specs.declared.geometry.GeometryNumbers.{GeometryNumbers}
use Rattle.nv_book.specs.declared.record.Record.{Record}
use Rattle.nv_calls.specs.Slots.{items_for}
use Rattle.nv_calls.specs.declared.call.Call.{Call}
use Rattle.nv_calls.specs.declared.call.Call.TheVariants as call
use Rattle.nv_calls.specs.declared.plan.InodePlan.{InodePlan}
use Rattle.nv_entry.specs.declared.item.Item.{Item}
use Rattle.nv_machine.specs.Hands as hands
use Rattle.nv_machine.specs.Reads.{pages_needed, pages_wanted}
use Rattle.nv_machine.specs.Sequence.{beginning}
use Rattle.nv_machine.specs.Starts.{IsStart}
use Rattle.nv_machine.specs.World.{World, cell_at}
use Rattle.nv_serial.specs.Committed.{need_of, needs}
use Rattle.nv_serial.specs.FileCalls.{makes_inode}
use Rattle.nv_serial.specs.LogPages.{pages_more}
use Rattle.nv_serial.specs.Serial.{NumberedSlot, Serial, slot_of}
use Rattle.nv_serial.proofs.AtRestLogs.{slot_is, slots_many, told_by}
use Rattle.nv_serial.proofs.PagesMore.{need_is}

-- ---- sums over rising numbers

-- a number that is below all others is not among them
not_among : (n : ℕ) (xs : List ℕ) → AllByRecursion (λ m. n < m) xs → has xs n ≡ false
not_among n [] above = refl
not_among n (x ∷ xs) above =
    ap (λ (b : Bool). b || has xs n)
    (ne_eqb x n (λ e. let lt = above.0 in absurd (omega (arith, lt, e)))) ∙ not_among n xs above.1

-- numbers that rise from one on, but not with it, rise from the next one on
all_above : (n m : ℕ) (xs : List ℕ) → n ≤ m → AllByRecursion (λ x. m < x) xs
    → AllByRecursion (λ x. n < x) xs
all_above n m [] le above = tt
all_above n m (x ∷ xs) le above = (
  (let lt = above.0 in omega (arith, le, lt)),
  all_above n m xs le
      above.1,
)

-- a sum over a range is that over some numbers of it, where all others count nothing
pub sum_inside : (f : ℕ → ℕ) (xs : List ℕ) (from many : ℕ) → IsRising xs
    → AllByRecursion (λ x. from ≤ x) xs
    → AllByRecursion (λ x. x < from + many) xs → ((i : ℕ) → from ≤ i → i < from + many → has xs i
    ≡ false → f i ≡ 0)
    → sum_by f (range_with_len from many) ≡ sum_by f xs
sum_inside f [] from zero rising low high none = refl
sum_inside f (x ∷ xs) from zero rising low high none =
    let l = low.0 in let h = high.0 in absurd (omega (arith, l, h))
sum_inside f [] from (suc many) rising low high none =
    omega (
      arith,
      sum_by-cons f from (range_with_len (from + 1) many),
      none from (omega arith) (omega arith) refl,
      sum_inside f [] (from + 1) many tt tt tt (λ i le lt e. none i (omega (arith, le))
          (omega (arith, lt)) e),
    )
sum_inside f (x ∷ xs) from (suc many) rising low high none =
    go (x == from) refl (sum_inside f xs (from + 1) many) (sum_inside f (x ∷ xs) (from + 1)
    many) where
      go : (b : Bool) → (x == from) ≡ b
          → (IsRising xs → AllByRecursion (λ y. from + 1 ≤ y) xs
          → AllByRecursion (λ y. y < from + 1 + many) xs
          → ((i : ℕ) → from + 1 ≤ i → i < from + 1 + many → has xs i ≡ false → f i ≡ 0)
          → sum_by f (range_with_len (from + 1) many) ≡ sum_by f xs)
          → (IsRising (x ∷ xs) → AllByRecursion (λ y. from + 1 ≤ y) (x ∷ xs)
          → AllByRecursion (λ y. y < from + 1 + many) (x ∷ xs)
          → ((i : ℕ) → from + 1 ≤ i → i < from + 1 + many → has (x ∷ xs) i ≡ false → f i ≡ 0)
          → sum_by f (range_with_len (from + 1) many) ≡ sum_by f (x ∷ xs))
          → sum_by f (range_with_len from (suc many)) ≡ sum_by f (x ∷ xs)
      go true is own all =
          let same : x ≡ from = eqb-true x from is in
          let first : f x ≡ f from = ap f same in
          let rest = own rising.1 (from_next xs same rising.0) (below xs high.1)
          (λ i le lt e. none i (omega (arith, le)) (omega (arith, lt))
          (ap (λ (b : Bool). b || has xs i) (ne_eqb x i (λ q. absurd (omega (arith, q, same, le))))
          ∙ e)) in
          omega (
            arith,
            sum_by-cons f from (range_with_len (from + 1) many),
            sum_by-cons f x xs,
            first,
            rest,
          )
        where
          from_next : (ys : List ℕ) → x ≡ from → AllByRecursion (λ y. x < y) ys
              → AllByRecursion (λ y. from + 1 ≤ y) ys
          from_next [] same above = tt
          from_next (y ∷ ys) same above = (
            (let lt = above.0 in omega (arith, same, lt)),
            from_next
                ys same above.1,
          )

          below : (ys : List ℕ) → AllByRecursion (λ y. y < from + suc many) ys
              → AllByRecursion (λ y. y < from + 1 + many) ys
          below [] all = tt
          below (y ∷ ys) all = ((let lt = all.0 in omega (arith, lt)), below ys all.1)
      go false is own all =
          let other = eqb-false x from is in
          let le = low.0 in
          let above : from < x = ne_lt from x le (λ e. other (sym e)) in
          let nothing : f from ≡ 0 = none from (omega arith) (omega arith)
          (not_among from (x ∷ xs) (above, all_above from x xs le rising.0)) in
          let rest = all rising (next (x ∷ xs) (above, all_above from x xs le rising.0))
          (below (x ∷ xs) high)
          (λ i le lt e. none i (omega (arith, le)) (omega (arith, lt)) e) in
          omega (arith, sum_by-cons f from (range_with_len (from + 1) many), nothing, rest)
        where
          ne_lt : (a b : ℕ) → a ≤ b → (a ≡ b → ⊥) → a < b
          ne_lt a b le ne = grind (arith, le, ne)

          next : (ys : List ℕ) → AllByRecursion (λ y. from < y) ys → AllByRecursion (λ y. from + 1
              ≤ y) ys
          next [] above = tt
          next (y ∷ ys) above = ((let lt = above.0 in omega (arith, lt)), next ys above.1)

          below : (ys : List ℕ) → AllByRecursion (λ y. y < from + suc many) ys
              → AllByRecursion (λ y. y < from + 1 + many) ys
          below [] all = tt
          below (y ∷ ys) all = ((let lt = all.0 in omega (arith, lt)), below ys all.1)

-- ---- where nothing runs

-- a call makes an inode exactly where it begins by taking a number
pub makes_same : (c : Call) → makes_inode c ≡ hands.makes_inode (beginning c)
makes_same (call.Create dir name mode) = refl
makes_same (call.Mkdir dir name mode) = refl
makes_same other = refl

module _ (g : GeometryNumbers) (w : World) (rs : List Record) (is : IsStart g w rs) where
  abbrev s : Serial
  s = told_by g w rs

  pub generation_is : (ino : ℕ) → (slot_of s ino).generation ≡ (cell_at w.shared ino).generation
  generation_is ino = ap (λ (slot : NumberedSlot). slot.generation) (slot_is g w rs is ino)

  -- a slot for which there are no items needs no page
  pub no_need : (plan : List InodePlan) (ino : ℕ) → items_for plan ino ≡ [] → need_of s plan ino ≡ 0
  no_need plan ino none = ap (λ (items : List Item). pages_more g.page (slot_of s ino).pages
      (length items)) none

  needed_in : (plan : List InodePlan) (slots : List ℕ) → AllByRecursion (λ i. i < g.inodes) slots
      → sum_by (need_of s plan) slots ≡ pages_wanted w.shared slots plan
  needed_in plan [] inside = refl
  needed_in plan (ino ∷ slots) inside =
      omega (
        arith,
        sum_by-cons (need_of s plan) ino slots,
        sum_by-cons (pages_needed w.shared plan) ino slots,
        need_is g w rs is plan ino inside.0,
        needed_in plan slots inside.1,
      )

  all_low : (xs : List ℕ) → AllByRecursion (λ x. 0 ≤ x) xs
  all_low [] = tt
  all_low (x ∷ xs) = (omega arith, all_low xs)

  all_high : (most : ℕ) (xs : List ℕ) → AllByRecursion (λ i. i < most) xs
      → AllByRecursion (λ x. x < 0 + most) xs
  all_high most [] all = tt
  all_high most (x ∷ xs) all = ((let lt = all.0 in omega (arith, lt)), all_high most xs all.1)

  all_within : (most : ℕ) (xs : List ℕ) → most ≤ g.inodes → AllByRecursion (λ i. i < most) xs
      → AllByRecursion (λ i. i < g.inodes) xs
  all_within most [] le all = tt
  all_within most (x ∷ xs) le all = (
    (let lt = all.0 in omega (arith, lt, le)),
    all_within most xs
        le all.1,
  )

  -- the log pages of the slots below one, where a plan has items for these alone
  pub needs_below : (plan : List InodePlan) (slots : List ℕ) (most : ℕ) → IsRising slots → most
      ≤ g.inodes
      → AllByRecursion (λ i. i < most) slots → ((i : ℕ) → i < most → has slots i ≡ false
      → items_for plan i ≡ [])
      → sum_by (need_of s plan) (range_with_len 0 most) ≡ pages_wanted w.shared slots plan
  needs_below plan slots most rising le inside none =
      sum_inside (need_of s plan) slots 0 most rising (all_low slots) (all_high most slots inside)
      (λ i low lt e. no_need plan i (none i (omega (arith, lt)) e))
      ∙ needed_in plan slots (all_within most slots le inside)

  -- THE LOG PAGES that a plan needs, where it has items for these slots alone
  pub needs_are : (plan : List InodePlan) (slots : List ℕ) → IsRising slots
      → AllByRecursion (λ i. i < g.inodes) slots
      → ((i : ℕ) → has slots i ≡ false → items_for plan i ≡ []) → needs s plan
      ≡ pages_wanted w.shared slots plan
  needs_are plan slots rising inside none =
      ap (λ (n : ℕ). sum_by (need_of s plan) (range_with_len 0 n)) (slots_many g w rs is)
      ∙ needs_below plan slots g.inodes rising (omega arith) inside (λ i lt e. none i e)
