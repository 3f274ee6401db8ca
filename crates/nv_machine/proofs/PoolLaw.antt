-- The pool is what one scan of all logs and hands leaves.
use Rattle.std.proofs.Common.{◌≡◌, inl, inr, ℕ, suc, ◌+◌, ◌<◌, ◌≤◌, ◌==◌, ◌∙◌, Bool, true, false, cond, List, [], ◌∷◌, Option, Some, None, ap, ap₂, arith, nat_lt, not, refl, sym}
use Rattle.std.specs.Prelude.{◌&&◌, ◌||◌, nat_le, slice_index_or}
use Rattle.std.specs.List.{flat_map}
use Rattle.std.proofs.lemmas.Bool.{cases_lt, eqb-true, false≢true, le-leb, le-ltb, lt-ltb, or_parts}
use Rattle.std.proofs.lemmas.List.Folds.{list_any-append}
use Rattle.nv_alloc.specs.Numbers.{has, times}
use Rattle.nv_alloc.proofs.FromScratch.{from_scratch}
use Rattle.nv_alloc.proofs.Lists.{times-append}
use Rattle.nv_base.specs.declared.geometry.GeometryNumbers.{GeometryNumbers}
use Rattle.nv_machine.specs.Grown.{AreGrown}
use Rattle.nv_machine.specs.Hands.{AreNumbers}
use Rattle.nv_machine.specs.Locks.{AreLocks}
use Rattle.nv_machine.specs.PoolScan.{is_number_used, number_held, numbers_held, pool_from_scratch}
use Rattle.nv_machine.specs.Reads.{if_number, written_slots}
use Rattle.nv_machine.specs.World.{Actor, Running, World, actor_at, cell_at, idle}
use Rattle.nv_machine.proofs.FromScratch.{counted, none_true, not_counted}
use Rattle.nv_machine.proofs.PoolCells.{no_inode, not_taken, taken_once}
use Rattle.nv_machine.proofs.PoolCommits.{begun_inode}
use Rattle.nv_machine.proofs.PoolRuns.{ArePooled, own_loose, standing}
use Rattle.nv_cell.specs.Readers.{has_inode, is_withheld}
use Rattle.nv_machine.proofs.PoolTally.{is_begun, loose, loose_by, loose_of, tally}

-- ---- what stands in a list of lists

all_without : {X : Type 0} (f : X → List ℕ) (n : ℕ) (xs : List X) (d : X) → ((i : ℕ) → has (f (slice_index_or xs i d)) n ≡ false)
    → has (flat_map f xs) n ≡ false
all_without f n [] d none = refl
all_without f n (x ∷ xs) d none =
    let rest = all_without f n xs d (λ i. none (suc i)) in
    list_any-append (λ m. m == n) (f x) (flat_map f xs) ∙ neither (has (f x) n) (has (flat_map f xs) n) (none 0) rest where
      neither : (a b : Bool) → a ≡ false → b ≡ false → (a || b) ≡ false
      neither a b p q = rw (p, q) refl

fewer_times : {X : Type 0} (f g : X → List ℕ) (n : ℕ) (xs : List X) → ((x : X) → times n (f x) ≤ times n (g x))
    → times n (flat_map f xs) ≤ times n (flat_map g xs)
fewer_times f g n [] le = omega arith
fewer_times f g n (x ∷ xs) le =
    omega (arith, le x, fewer_times f g n xs le, times-append n (f x) (flat_map f xs), times-append n (g x) (flat_map g xs))

-- ---- hands

loose_held : (n : ℕ) (x : Actor) → times n (loose_by x) ≤ times n (number_held x)
loose_held n x = go x.running x.hand.ino where
  go : (running : Option Running) (number : Option ℕ) → times n (loose_of running number) ≤ times n (if_number number)
  go None number = omega arith
  go (Some r) None = omega arith
  go (Some r) (Some m) = one (is_begun r.next (written_slots r) m) where
    one : (b : Bool) → times n (cond b [] (m ∷ [])) ≤ times n (m ∷ [])
    one true = omega arith
    one false = omega arith

-- where a number is in no hand but as a new inode's that has begun, and its slot has no inode, it is in no hand
no_hand : (g : GeometryNumbers) (w : World) (n : ℕ) → AreLocks w → AreNumbers g w → AreGrown w → ArePooled g w
    → times n (flat_map loose_by w.actors) ≡ 0 → has_inode (cell_at w.shared n) ≡ false → has (numbers_held w) n ≡ false
no_hand g w n locks all grown pooled none empty = all_without number_held n w.actors idle own where
  own : (actor : ℕ) → has (number_held (actor_at w actor)) n ≡ false
  own actor = none_true (has (number_held (actor_at w actor)) n) (λ there.
      absurd (held (actor_at w actor).running (actor_at w actor).hand.ino refl refl there)) where
        none_here : times n (loose_by (actor_at w actor)) ≡ 0
        none_here = omega (arith, none, own_loose w actor n)

        held : (running : Option Running) (number : Option ℕ) → (actor_at w actor).running ≡ running → (actor_at w actor).hand.ino ≡ number
            → has (if_number number) n ≡ true → ⊥
        held running None is has_it there = false≢true there
        held None (Some m) is has_it there =
            let here : times n (m ∷ []) ≡ 0 =
            sym (ap₂ (λ (o : Option Running) (k : Option ℕ). times n (loose_of o k)) is has_it) ∙ none_here in
            omega (arith, here, counted n (m ∷ []) there)
        held (Some r) (Some m) is has_it there = begun (is_begun r.next (written_slots r) m) refl where
          here : times n (loose r.next (written_slots r) (Some m)) ≡ 0
          here = sym (ap₂ (λ (o : Option Running) (k : Option ℕ). times n (loose_of o k)) is has_it) ∙ none_here

          same : m ≡ n
          same = go (m == n) refl there where
            go : (b : Bool) → (m == n) ≡ b → (b || false) ≡ true → m ≡ n
            go true q h = eqb-true m n q
            go false q h = absurd (false≢true h)

          begun : (b : Bool) → is_begun r.next (written_slots r) m ≡ b → ⊥
          begun true q =
              let inode = begun_inode g w.numbers.block actor w.shared (actor_at w actor).hand r r.next
              (standing g w actor r locks all grown pooled is) m q in
              false≢true (sym empty ∙ sym (ap (λ (k : ℕ). has_inode (cell_at w.shared k)) same) ∙ inode)
          begun false q =
              let one : times n (m ∷ []) ≡ 0 = sym (ap (λ (b : Bool). times n (cond b [] (m ∷ []))) q) ∙ here in
              omega (arith, one, counted n (m ∷ []) there)

-- ---- the scan

in_pool : (g : GeometryNumbers) (w : World) (n : ℕ) → AreLocks w → AreNumbers g w → AreGrown w → ArePooled g w → n < g.inodes
    → has w.shared.pool.numbers n ≡ not (is_number_used w n)
in_pool g w n locks all grown pooled inside = go (has w.shared.pool.numbers n) refl (is_number_used w n) refl where
  once : tally n w.shared (flat_map loose_by w.actors) ≡ 1
  once = pooled.once n ∙ (let e : nat_lt n g.inodes ≡ true = lt-ltb n g.inodes inside in rw e refl)

  fewer : times n (flat_map loose_by w.actors) ≤ times n (numbers_held w)
  fewer = fewer_times loose_by number_held n w.actors (loose_held n)

  -- none of three
  unused_parts : (a b c : Bool) → (a || b || c) ≡ false → (a ≡ false) × (b ≡ false) × (c ≡ false)
  unused_parts a b c e =
      let last = or_parts (a || b) c e in
      let first = or_parts a b last.0 in
      (first.0, first.1, last.1)

  used_by : (a b c : Bool) → a ≡ false → b ≡ false → c ≡ false → (a || b || c) ≡ false
  used_by a b c p q r = rw (p, q, r) refl

  go : (b : Bool) → has w.shared.pool.numbers n ≡ b → (c : Bool) → is_number_used w n ≡ c → b ≡ not c
  go true p c q =
      let some = counted n w.shared.pool.numbers p in
      let free : taken_once (cell_at w.shared n) ≡ 0 = omega (arith, some, once) in
      let loose_none : times n (flat_map loose_by w.actors) ≡ 0 = omega (arith, some, once) in
      let parts = no_inode (cell_at w.shared n) free in
      let hands = no_hand g w n locks all grown pooled loose_none parts.0 in
      ap not
      (sym (used_by (has_inode (cell_at w.shared n)) (is_withheld (cell_at w.shared n)) (has (numbers_held w) n) parts.0 parts.1 hands)
      ∙ q)
  go false p true q = refl
  go false p false q =
      let parts = unused_parts (has_inode (cell_at w.shared n)) (is_withheld (cell_at w.shared n)) (has (numbers_held w) n) q in
      let none = not_counted n w.shared.pool.numbers p in
      let hands = not_counted n (numbers_held w) parts.2 in
      let free = not_taken (cell_at w.shared n) parts.0 parts.1 in
      absurd (omega (arith, none, hands, free, fewer, once))

pub is_scan : (g : GeometryNumbers) (w : World) (n : ℕ) → AreLocks w → AreNumbers g w → AreGrown w → ArePooled g w
    → has w.shared.pool.numbers n ≡ (nat_le 0 n && nat_lt n (0 + g.inodes) && not (is_number_used w n))
is_scan g w n locks all grown pooled = elim (cases_lt n g.inodes) [
  | inl lt ↦
      let a : nat_le 0 n ≡ true = le-leb 0 n (omega arith) in
      let b : nat_lt n (0 + g.inodes) ≡ true = lt-ltb n (0 + g.inodes) (omega (arith, lt)) in
      in_pool g w n locks all grown pooled lt ∙ sym (rw (a, b) refl)
  | inr ge ↦
      let a : nat_le 0 n ≡ true = le-leb 0 n (omega arith) in
      let b : nat_lt n (0 + g.inodes) ≡ false = le-ltb n (0 + g.inodes) (omega (arith, ge)) in
      let out : nat_lt n g.inodes ≡ false = le-ltb n g.inodes ge in
      let none : tally n w.shared (flat_map loose_by w.actors) ≡ 0 = pooled.once n ∙ (rw out refl) in
      none_true (has w.shared.pool.numbers n) (λ there. omega (arith, none, counted n w.shared.pool.numbers there)) ∙ sym (rw (a, b) refl)
]

-- ---- the law, of each world

pub is_pool_scanned : (g : GeometryNumbers) (w : World) → AreLocks w → AreNumbers g w → AreGrown w → ArePooled g w
    → w.shared.pool.numbers ≡ pool_from_scratch g w
is_pool_scanned g w locks all grown pooled = from_scratch (is_number_used w) 0 g.inodes w.shared.pool.numbers pooled.rising
    (λ n. is_scan g w n locks all grown pooled)
