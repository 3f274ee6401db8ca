-- Blocks that go home several at a time.
use Rattle.std.proofs.Common.{◌≡◌, ◌∙◌, ℕ, ◌+◌, ◌<◌, ◌≤◌, ◌==◌, ◌||◌, ◌++◌, Bool, true, false, List, [], ◌∷◌, Option, None, Some, ap, arith, length, map, refl, subst, sym}
use Rattle.std.specs.Option.{option_or}
use Rattle.std.proofs.lemmas.Bool.{eq-eqb}
use Rattle.std.proofs.lemmas.List.{append-nil}
use Rattle.std.proofs.lemmas.Option.{none-some}
use Rattle.nv_alloc.specs.Block.{BlockValue, block_by, numbers_of}
use Rattle.nv_alloc.specs.FreeList.{AreListsOf, FreeBlocks, free_blocks, with_home}
use Rattle.nv_alloc.specs.Numbers.{has, times}
use Rattle.nv_alloc.proofs.AllLists.{either_by, none_by}
use Rattle.nv_alloc.proofs.Lists.{has-times, times-append}
use Rattle.nv_base.specs.declared.geometry.GeometryNumbers.{GeometryNumbers}
use Rattle.nv_machine.proofs.EachElement.{all_back, all_front}
use Rattle.nv_mount.specs.Build.{AreGivenHome, CanAllGoHome, block_at_home}
use Rattle.nv_mount.proofs.GoingHome.{IsGoing, absent_home, given_home, going_init, gone}
use Rattle.nv_mount.proofs.Marked.{has-append, numbers_append, or_left, or_right, stands}

-- ---- numbers of two lists

pub has_both : (xs ys : List BlockValue) (n : ℕ) → has (numbers_of (xs ++ ys)) n ≡ (has (numbers_of xs) n || has (numbers_of ys) n)
has_both xs ys n =
    ap (λ (ns : List ℕ). has ns n) (numbers_append xs ys) ∙ has-append (numbers_of xs) (numbers_of ys) n

pub times_both : (xs ys : List BlockValue) (n : ℕ) → times n (numbers_of (xs ++ ys)) ≡ times n (numbers_of xs) + times n (numbers_of ys)
times_both xs ys n = ap (times n) (numbers_append xs ys) ∙ times-append n (numbers_of xs) (numbers_of ys)

-- where no number stands twice, one of two lists does not have what the other has
none_first : (xs ys : List BlockValue) (n : ℕ) → times n (numbers_of (xs ++ ys)) ≤ 1 → has (numbers_of ys) n ≡ true → block_by xs n ≡ None
none_first xs ys n once there =
    let none : times n (numbers_of xs) ≡ 0 = omega (arith, times_both xs ys n, stands (numbers_of ys) n there, once) in
    none_by xs n (has-times n (numbers_of xs) none)

none_last : (xs ys : List BlockValue) (n : ℕ) → times n (numbers_of (xs ++ ys)) ≤ 1 → has (numbers_of xs) n ≡ true → block_by ys n ≡ None
none_last xs ys n once there =
    let none : times n (numbers_of ys) ≡ 0 = omega (arith, times_both xs ys n, stands (numbers_of xs) n there, once) in
    none_by ys n (has-times n (numbers_of ys) none)

-- ---- some of them go first

module _ (g : GeometryNumbers) (xs ys : List BlockValue) (lists : List FreeBlocks) (can : CanAllGoHome g (xs ++ ys) lists) where
  pub can_first : CanAllGoHome g xs lists
  can_first = record {
    homes = can.homes;
    device = all_front (λ (b : BlockValue). b.number < g.blocks) xs ys can.device;
    sized = all_front (λ (b : BlockValue). length b.bytes ≡ g.block) xs ys can.sized;
    once = λ n. omega (arith, times_both xs ys n, can.once n);
    away = λ n there. can.away n (has_both xs ys n ∙ or_left (has (numbers_of xs) n) (has (numbers_of ys) n) there);
  }

  pub can_last : CanAllGoHome g ys lists
  can_last = record {
    homes = can.homes;
    device = all_back (λ (b : BlockValue). b.number < g.blocks) xs ys can.device;
    sized = all_back (λ (b : BlockValue). length b.bytes ≡ g.block) xs ys can.sized;
    once = λ n. omega (arith, times_both xs ys n, can.once n);
    away = λ n there. can.away n (has_both xs ys n ∙ or_right (has (numbers_of xs) n) (has (numbers_of ys) n) there);
  }

  -- what is left can go
  pub can_then : (new : List FreeBlocks) → AreGivenHome g xs lists new → CanAllGoHome g ys new
  can_then new given = record {
    homes = given.homes;
    device = can_last.device;
    sized = can_last.sized;
    once = can_last.once;
    away = λ n there.
        given.each n
        ∙ ap (λ (o : Option BlockValue). option_or o (block_at_home n lists)) (none_first xs ys n (can.once n) there)
        ∙ can_last.away n there;
  }

  can_before : (new : List FreeBlocks) → AreGivenHome g ys lists new → CanAllGoHome g xs new
  can_before new given = record {
    homes = given.homes;
    device = can_first.device;
    sized = can_first.sized;
    once = can_first.once;
    away = λ n there.
        given.each n
        ∙ ap (λ (o : Option BlockValue). option_or o (block_at_home n lists)) (none_last xs ys n (can.once n) there)
        ∙ can_first.away n there;
  }

or_assoc : (x y z : Option BlockValue) → option_or x (option_or y z) ≡ option_or (option_or x y) z
or_assoc None y z = refl
or_assoc (Some b) y z = refl

-- ---- on the way

module _ (g : GeometryNumbers) (all xs ys : List BlockValue) (start now new : List FreeBlocks) (is : IsGoing g all (xs ++ ys) start now) where
  -- the first of them have gone home
  pub gone_first : AreGivenHome g xs now new → IsGoing g all ys start new
  gone_first given = record {
    can = can_then g xs ys now is.can new given;
    same = λ n.
        ap (option_or (block_by ys n)) (given.each n) ∙ turned n (block_by xs n) refl
        ∙ ap (λ (o : Option BlockValue). option_or o (block_at_home n now)) (sym (either_by xs ys n)) ∙ is.same n;
  } where
    -- what has a block has its number
    there : (n : ℕ) (b : BlockValue) → block_by xs n ≡ Some b → (c : Bool) → has (numbers_of xs) n ≡ c → c ≡ true
    there n b e true q = refl
    there n b e false q = absurd (none-some b (sym (none_by xs n q) ∙ e))

    turned : (n : ℕ) → (o : Option BlockValue) → block_by xs n ≡ o
        → option_or (block_by ys n) (option_or o (block_at_home n now)) ≡ option_or (option_or o (block_by ys n)) (block_at_home n now)
    turned n None e = refl
    turned n (Some b) e =
        ap (λ (o : Option BlockValue). option_or o (Some b))
        (none_last xs ys n (is.can.once n) (there n b e (has (numbers_of xs) n) refl))

  -- the last of them have
  pub gone_last : AreGivenHome g ys now new → IsGoing g all xs start new
  gone_last given = record {
    can = can_before g xs ys now is.can new given;
    same = λ n.
        ap (option_or (block_by xs n)) (given.each n) ∙ or_assoc (block_by xs n) (block_by ys n) (block_at_home n now)
        ∙ ap (λ (o : Option BlockValue). option_or o (block_at_home n now)) (sym (either_by xs ys n)) ∙ is.same n;
  }

-- some and then the others
pub gone_both : (g : GeometryNumbers) (xs ys : List BlockValue) (start now new : List FreeBlocks) → CanAllGoHome g (xs ++ ys) start
    → AreGivenHome g xs start now → AreGivenHome g ys now new → AreGivenHome g (xs ++ ys) start new
gone_both g xs ys start now new can first last =
    let left = gone_first g (xs ++ ys) xs ys start start now (going_init g (xs ++ ys) start can) first in
    let none = gone_first g (xs ++ ys) ys [] start now new
    (subst (λ (bs : List BlockValue). IsGoing g (xs ++ ys) bs start now) (sym (append-nil ys)) left) last in
    gone g (xs ++ ys) start new none

-- ---- one block

pub absent_first : (g : GeometryNumbers) (b : BlockValue) (bs : List BlockValue) (lists : List FreeBlocks) → CanAllGoHome g (b ∷ bs) lists
    → has (numbers_of (free_blocks lists)) b.number ≡ false
absent_first g b bs lists can =
    absent_home lists b.number
    (can.away b.number (or_left (b.number == b.number) (has (numbers_of bs) b.number) (eq-eqb b.number b.number refl)))

pub given_one : (g : GeometryNumbers) (b : BlockValue) (old new : List FreeBlocks) → 0 < g.cpus → CanAllGoHome g (b ∷ []) old
    → new ≡ map (with_home b) old → AreListsOf g new → AreGivenHome g (b ∷ []) old new
given_one g b old new some can is still = record {
  homes = still;
  each = λ n.
      ap (block_at_home n) is
      ∙ given_home g old b some can.homes (subst (AreListsOf g) is still) can.device.0
      (can.away b.number (or_left (b.number == b.number) false (eq-eqb b.number b.number refl))) n;
}
