-- No two hands have one inode number.
use Rattle.nv_book.specs.declared.record.Record.{Record}
use Rattle.std.proofs.Common.{◌≡◌, ◌≢◌, ◌⊎◌, inl, inr, ℕ, zero, suc, ◌+◌, ◌≤◌, ◌==◌, ◌∙◌, Bool, true, false, cond, List, [], ◌∷◌, Option, Some, None, ap, ap₂, arith, get_or, if◌then◌else◌, nat_lt, refl, sym}
use Rattle.std.specs.Prelude.{unwrap_or}
use Rattle.std.specs.List.{flat_map}
use Rattle.std.proofs.lemmas.Bool.{eqb-false, eqb-true, false≢true}
use Rattle.nv_alloc.specs.Numbers.{has, times}
use Rattle.nv_alloc.proofs.Lists.{times-append, times-yes}
use Rattle.nv_base.specs.declared.geometry.GeometryNumbers.{GeometryNumbers}
use Rattle.nv_machine.specs.Grown.{AreGrown}
use Rattle.nv_machine.specs.Hands.{AreNumbers}
use Rattle.nv_machine.specs.Locks.{AreLocks, held_at}
use Rattle.nv_cell.specs.Readers.{has_inode}
use Rattle.nv_machine.specs.Reads.{is_written, written_slots}
use Rattle.nv_machine.specs.Starts.{IsStart}
use Rattle.nv_machine.specs.Step.{after}
use Rattle.nv_machine.specs.World.{Close, Event, Next, Publish, Running, World, actor_at, cell_at, idle, owner_at}
use Rattle.nv_machine.proofs.EveryWorld.{all_numbers, all_pooled, reached}
use Rattle.nv_machine.proofs.Lists.{has_filter, self}
use Rattle.nv_machine.proofs.LocksHeld.{owner_is}
use Rattle.nv_machine.proofs.BlockNumbers.{part_times}
use Rattle.nv_machine.proofs.PoolCells.{with_inode}
use Rattle.nv_machine.proofs.PoolCommits.{begun_inode}
use Rattle.nv_machine.proofs.PoolRuns.{ArePooled, own_loose, standing}
use Rattle.nv_machine.proofs.PoolTally.{is_begun, loose_by, loose_of, tally}
use Rattle.nv_machine.proofs.LogTails.{has_front}

-- ---- two parts of all

two_times : {X : Type 0} (f : X → List ℕ) (n : ℕ) (xs : List X) (i j : ℕ) (d : X) → times n (f d) ≡ 0 → i ≢ j
    → times n (f (get_or xs i d)) + times n (f (get_or xs j d)) ≤ times n (flat_map f xs)
two_times f n [] i j d none ne = omega (arith, none)
two_times f n (x ∷ xs) zero zero d none ne = absurd (ne refl)
two_times f n (x ∷ xs) zero (suc j) d none ne =
    omega (arith, part_times f n xs j d none, times-append n (f x) (flat_map f xs))
two_times f n (x ∷ xs) (suc i) zero d none ne =
    omega (arith, part_times f n xs i d none, times-append n (f x) (flat_map f xs))
two_times f n (x ∷ xs) (suc i) (suc j) d none ne =
    let more = two_times f n xs i j d none (λ e. ne (ap suc e)) in
    omega (arith, more, times-append n (f x) (flat_map f xs))

-- ---- a number in a hand

-- a new inode that has begun is one of those that its call has locked
begun_held : (k : Next) (r : Running) (n : ℕ) → is_begun k (written_slots r) n ≡ true → has (held_at k r.slots) n ≡ true
begun_held (Publish place) r n is = has_filter (is_written r.plan) r.slots n (has_front place (written_slots r) n is)
begun_held Close r n is = has_filter (is_written r.plan) r.slots n is
begun_held other r n is = absurd (false≢true is)

-- its inode is published, and the slot is locked
pub record HasBegun (w : World) (actor n : ℕ) : Type 0 where
  pub inode : has_inode (cell_at w.shared n) ≡ true
  pub owner : owner_at w.shared n ≡ Some actor

module _ (g : GeometryNumbers) (w : World) (locks : AreLocks w) (all : AreNumbers g w) (grown : AreGrown w) (pooled : ArePooled g w) where
  -- or the hand counts
  pub counts : (actor n : ℕ) → (actor_at w actor).hand.ino ≡ Some n → (times n (loose_by (actor_at w actor)) ≡ 1) ⊎ HasBegun w actor n
  counts actor n is = go (actor_at w actor).running refl where
    by_call : (running : Option Running) → (actor_at w actor).running ≡ running
        → times n (loose_by (actor_at w actor)) ≡ times n (loose_of running (Some n))
    by_call running e = ap₂ (λ (o : Option Running) (k : Option ℕ). times n (loose_of o k)) e is

    go : (running : Option Running) → (actor_at w actor).running ≡ running
        → (times n (loose_by (actor_at w actor)) ≡ 1) ⊎ HasBegun w actor n
    go None e = inl (by_call None e ∙ times-yes n n [] (self n))
    go (Some r) e = begun (is_begun r.next (written_slots r) n) refl where
      begun : (b : Bool) → is_begun r.next (written_slots r) n ≡ b
          → (times n (loose_by (actor_at w actor)) ≡ 1) ⊎ HasBegun w actor n
      begun true q =
          let st = standing g w actor r locks all grown pooled e in
          inr (record {
            inode = begun_inode g w.numbers.block actor w.shared (actor_at w actor).hand r r.next st n q;
            owner = owner_is actor (owner_at w.shared n) (st.before.mine.owners n ∙ begun_held r.next r n q);
          })
      begun false q = inl (by_call (Some r) e ∙ ap (λ (b : Bool). times n (cond b [] (n ∷ []))) q ∙ times-yes n n [] (self n))

  pub once : (n : ℕ) → tally n w.shared (flat_map loose_by w.actors) ≤ 1
  once n = go (nat_lt n g.inodes) (pooled.once n) where
    go : (b : Bool) → tally n w.shared (flat_map loose_by w.actors) ≡ (if b then 1 else 0)
        → tally n w.shared (flat_map loose_by w.actors) ≤ 1
    go true e = omega (arith, e)
    go false e = omega (arith, e)

  -- a number that counts is no published inode's
  not_both : (actor n : ℕ) → times n (loose_by (actor_at w actor)) ≡ 1 → has_inode (cell_at w.shared n) ≡ true → ⊥
  not_both actor n one inode = omega (arith, one, own_loose w actor n, once n, with_inode (cell_at w.shared n) inode)

  own_numbers : (a b n : ℕ) → (actor_at w a).hand.ino ≡ Some n → (actor_at w b).hand.ino ≡ Some n → a ≡ b
  own_numbers a b n first second = go (a == b) refl where
    both : a ≢ b → ⊥
    both ne = elim (counts a n first) [
      | inl one ↦ elim (counts b n second) [
        | inl other ↦
            let two = two_times loose_by n w.actors a b idle refl ne in
            omega (arith, one, other, two, once n)
        | inr begun ↦ not_both a n one begun.inode
      ]
      | inr begun ↦ elim (counts b n second) [
        | inl other ↦ not_both b n other begun.inode
        | inr more ↦ ne (ap (λ (o : Option ℕ). unwrap_or o 0) (sym begun.owner ∙ more.owner))
      ]
    ]

    go : (c : Bool) → (a == b) ≡ c → a ≡ b
    go true q = eqb-true a b q
    go false q = absurd (both (eqb-false a b q))

-- ---- the law

pub hands_differ : (g : GeometryNumbers) (start : World) (records : List Record) (events : List Event) (a b n : ℕ) → IsStart g start records
    → (actor_at (after start events) a).hand.ino ≡ Some n → (actor_at (after start events) b).hand.ino ≡ Some n → a ≡ b
hands_differ g start records events a b n is_start first second =
    let is = reached g start records events is_start in
    own_numbers g (after start events) is.locks (all_numbers g start records events is_start) is.grown
    (all_pooled g start records events is_start) a b n
    first second
