-- Where the pool is from scratch and all hands are empty, each inode number stands once.
use Rattle.std.proofs.Common.{◌≡◌, ℕ, ◌+◌, ◌≤◌, ◌==◌, ◌∙◌, Bool, true, false, cond, filter, not, nat_lt, List, [], ◌∷◌, ap, arith, inl, inr, refl, subst, sym}
use Rattle.std.specs.Prelude.{◌||◌}
use Rattle.std.specs.List.{flat_map, range_with_len}
use Rattle.std.proofs.lemmas.Bool.{cases_lt, eqb-true, le-ltb, lt-ltb}
use Rattle.std.proofs.lemmas.List.{get_or_past}
use Rattle.nv_alloc.specs.Numbers.{IsRising, has, times}
use Rattle.nv_alloc.proofs.Lists.{times-cons, times-no}
use Rattle.nv_base.specs.declared.geometry.GeometryNumbers.{GeometryNumbers}
use Rattle.nv_book.specs.declared.record.Record.{Record}
use Rattle.nv_machine.specs.PoolScan.{is_number_used, number_held, numbers_held}
use Rattle.nv_machine.specs.Starts.{IsStart}
use Rattle.nv_machine.specs.World.{Actor, World, cell_at, no_cell}
use Rattle.nv_machine.proofs.Lists.{rising_filter}
use Rattle.nv_machine.proofs.NewNumbers.{below, range_rising, range_times}
use Rattle.nv_machine.proofs.PartsFor.{none_of}
use Rattle.nv_machine.proofs.PoolCells.{one_if, taken_once}
use Rattle.nv_machine.proofs.PoolKnown.{SeesOf}
use Rattle.nv_machine.proofs.PoolRuns.{ArePooled}
use Rattle.nv_cell.specs.Readers.{has_inode, is_withheld}
use Rattle.nv_machine.proofs.PoolTally.{loose_by, tally}

-- of the numbers that pass a test each stands as often as among all, and no other does
pub filter_times : (p : ℕ → Bool) (n : ℕ) (numbers : List ℕ) → times n (filter p numbers) ≡ cond (p n) (times n numbers) 0
filter_times p n [] = go (p n) where
  none : ℕ
  none = 0

  go : (b : Bool) → none ≡ cond b none none
  go true = refl
  go false = refl
filter_times p n (m ∷ numbers) = go (p m) refl (p n) refl (filter_times p n numbers) where
  other : (a b : Bool) → p m ≡ a → p n ≡ b → (a ≡ b → ⊥) → (m == n) ≡ false
  other a b q r ne = same (m == n) refl where
    same : (c : Bool) → (m == n) ≡ c → c ≡ false
    same true e = absurd (ne (sym q ∙ ap p (eqb-true m n e) ∙ r))
    same false e = refl

  go : (a : Bool) → p m ≡ a → (b : Bool) → p n ≡ b → times n (filter p numbers) ≡ cond b (times n numbers) 0
      → times n (cond a (m ∷ filter p numbers) (filter p numbers)) ≡ cond b (times n (m ∷ numbers)) 0
  go true q true r more = omega (arith, more, times-cons n m numbers, times-cons n m (filter p numbers))
  go true q false r more = times-no n m (filter p numbers) (other true false q r (λ e. let z : true ≡ false = e in cc)) ∙ more
  go false q true r more = more ∙ sym (times-no n m numbers (other false true q r (λ e. let z : false ≡ true = e in cc)))
  go false q false r more = more

module _ (g : GeometryNumbers) (w : World) (records : List Record) (is : IsStart g w records) where
  no_numbers : numbers_held w ≡ []
  no_numbers = none_of number_held w.actors (λ b. ap number_held (is.idle_all b))

  no_loose : flat_map loose_by w.actors ≡ []
  no_loose = none_of loose_by w.actors (λ b. ap loose_by (is.idle_all b))

  once : (n : ℕ) → tally n w.shared (flat_map loose_by w.actors) ≡ below n g.inodes
  once n =
      let hands = ap (times n) no_loose in
      let pool = ap (times n) is.pool ∙ filter_times (λ m. not (is_number_used w m)) n (range_with_len 0 g.inodes) in
      let all : 0 + g.inodes ≡ g.inodes = omega arith in
      let range = range_times n 0 g.inodes ∙ ap (below n) all in
      let none : nat_lt n 0 ≡ false = le-ltb n 0 (omega arith) in
      let nothing : below n 0 ≡ 0 = rw none refl in
      go (has_inode (cell_at w.shared n)) refl (is_withheld (cell_at w.shared n)) refl hands pool (omega (arith, range, nothing)) where
        past : g.inodes ≤ n → taken_once (cell_at w.shared n) ≡ 0
        past le = ap taken_once (get_or_past w.shared.cells n no_cell (omega (arith, le, is.slots)))

        in_slots : taken_once (cell_at w.shared n) ≡ 1 → below n g.inodes ≡ 1
        in_slots one = elim (cases_lt n g.inodes) [
          | inl lt ↦ (let yes : nat_lt n g.inodes ≡ true = lt-ltb n g.inodes lt in rw yes refl)
          | inr le ↦ absurd (omega (arith, one, past le))
        ]

        go : (a : Bool) → has_inode (cell_at w.shared n) ≡ a → (b : Bool) → is_withheld (cell_at w.shared n) ≡ b
            → times n (flat_map loose_by w.actors) ≡ 0
            → times n w.shared.pool.numbers ≡ cond (not (is_number_used w n)) (times n (range_with_len 0 g.inodes)) 0
            → times n (range_with_len 0 g.inodes) ≡ below n g.inodes
            → tally n w.shared (flat_map loose_by w.actors) ≡ below n g.inodes
        go a p b q hands pool range = by (a || b) refl where
          used : is_number_used w n ≡ (a || b || has [] n)
          used = ap (λ (numbers : List ℕ). has_inode (cell_at w.shared n) || is_withheld (cell_at w.shared n) || has numbers n) no_numbers
              ∙ rw (p, q) refl

          taken : taken_once (cell_at w.shared n) ≡ one_if (a || b)
          taken = rw (p, q) refl

          by : (c : Bool) → (a || b) ≡ c → tally n w.shared (flat_map loose_by w.actors) ≡ below n g.inodes
          by true e =
              let is_used : is_number_used w n ≡ true = used ∙ ap (λ (c : Bool). c || has [] n) e in
              let none : times n w.shared.pool.numbers ≡ 0 =
              pool ∙ ap (λ (c : Bool). cond (not c) (times n (range_with_len 0 g.inodes)) 0) is_used in
              let one : taken_once (cell_at w.shared n) ≡ 1 = taken ∙ ap one_if e in
              let inside : below n g.inodes ≡ 1 = in_slots one in
              omega (arith, hands, none, one, inside)
          by false e =
              let unused : is_number_used w n ≡ false = used ∙ ap (λ (c : Bool). c || has [] n) e in
              let all : times n w.shared.pool.numbers ≡ times n (range_with_len 0 g.inodes) =
              pool ∙ ap (λ (c : Bool). cond (not c) (times n (range_with_len 0 g.inodes)) 0) unused in
              let free : taken_once (cell_at w.shared n) ≡ 0 = taken ∙ ap one_if e in
              omega (arith, hands, all, range, free)

  pub first_pooled : ArePooled g w
  first_pooled = record {
    once = once;
    slots = is.slots;
    rising =
        subst IsRising (sym is.pool) (rising_filter (λ m. not (is_number_used w m)) (range_with_len 0 g.inodes) (range_rising 0 g.inodes));
    each = λ actor. subst (λ (x : Actor). SeesOf x.running w.shared x.hand) (sym (is.idle_all actor)) tt;
  }
