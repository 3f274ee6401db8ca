-- The blocks of all free lists: each stands in the list of its home alone.
use Rattle.std.proofs.Common.{◌≡◌, ℕ, zero, suc, ◌+◌, ◌-◌, ◌<◌, ◌≤◌, ◌==◌, ◌&&◌, ◌||◌, ◌∙◌, ◌++◌, Bool, true, false, cond, not, List, [], ◌∷◌, Option, Some, None, length, map, set, get_or, arith, refl, ap, sym, subst}
use Rattle.std.specs.List.{AllByRecursion}
use Rattle.std.specs.Option.{option_or}
use Rattle.std.proofs.lemmas.Bool.{eq-eqb, eqb-false, eqb-true, false_from_ne_true, false≢true, le-leb, lt-ltb}
use Rattle.std.proofs.Math.Nat.{le_trans}
use Rattle.std.proofs.lemmas.List.{get_or-set_other, get_or-set_same, length-set}
use Rattle.nv_base.specs.Homes.{IsHome, home_start}
use Rattle.nv_base.specs.declared.geometry.GeometryNumbers.{GeometryNumbers}
use Rattle.nv_base.proofs.HomeRanges.{cuts}
use Rattle.nv_alloc.specs.Block.{BlockValue, block_by, numbers_of, without_block}
use Rattle.nv_alloc.specs.FreeList.{AreListsOf, FreeBlocks, IsFreeList, IsHomeList, free_blocks, is_home, no_list, with_home, without}
use Rattle.nv_alloc.specs.Giving.{takes}
use Rattle.nv_alloc.specs.Numbers.{has}
use Rattle.nv_alloc.proofs.Shelves.{home_is}
use Rattle.nv_alloc.proofs.Slots.{without_absent}
pub use Rattle.nv_alloc.proofs.Slots.{none_by}

-- ---- one list

-- what holds of each number of a list holds of one that it has
among : (P : ℕ → Type 0) (ns : List ℕ) (n : ℕ) → AllByRecursion P ns → has ns n ≡ true → P n
among P [] n all h = absurd (false≢true h)
among P (m ∷ ms) n all h = go (m == n) refl h (λ k. among P ms n all.1 k) where
  go : (b : Bool) → (m == n) ≡ b → (b || has ms n) ≡ true → (has ms n ≡ true → P n) → P n
  go true q k later = subst P (eqb-true m n q) all.0
  go false q k later = later k

-- a list that does not have a number loses none
pub same_list : (l : FreeBlocks) (n : ℕ) → has (numbers_of l.blocks) n ≡ false → without n l ≡ l
same_list l n h = ap (λ (bs : List BlockValue). let r : FreeBlocks = record l { blocks = bs } in r) (without_absent l.blocks n h)

-- ---- the blocks of several lists

pub either_by : (xs ys : List BlockValue) (n : ℕ) → block_by (xs ++ ys) n ≡ option_or (block_by xs n) (block_by ys n)
either_by [] ys n = refl
either_by (b ∷ xs) ys n = go (b.number == n) (either_by xs ys n) where
  go : (c : Bool) → block_by (xs ++ ys) n ≡ option_or (block_by xs n) (block_by ys n)
      → cond c (Some b) (block_by (xs ++ ys) n) ≡ option_or (cond c (Some b) (block_by xs n)) (block_by ys n)
  go true rest = refl
  go false rest = rest

or_none : (o : Option BlockValue) → option_or o None ≡ o
or_none None = refl
or_none (Some b) = refl

abbrev has_number : List FreeBlocks → ℕ → ℕ → Bool
has_number lists n j = has (numbers_of (get_or lists j no_list).blocks) n

none_in : (ls : List FreeBlocks) (n : ℕ) → ((j : ℕ) → j < length ls → has_number ls n j ≡ false) → block_by (free_blocks ls) n ≡ None
none_in [] n h = refl
none_in (l ∷ ls) n h =
    either_by l.blocks (free_blocks ls) n
    ∙ ap (λ (o : Option BlockValue). option_or o (block_by (free_blocks ls) n)) (none_by l.blocks n (h 0 (omega arith)))
    ∙ none_in ls n (λ j lt. h (suc j) (omega (arith, lt)))

all_same : (ls : List FreeBlocks) (n : ℕ) → ((j : ℕ) → j < length ls → has_number ls n j ≡ false) → map (without n) ls ≡ ls
all_same [] n h = refl
all_same (l ∷ ls) n h = λ i. same_list l n (h 0 (omega arith)) i ∷ all_same ls n (λ j lt. h (suc j) (omega (arith, lt))) i

-- a number that one list alone has, if any does
one_in : (ls : List FreeBlocks) (n k : ℕ) → k < length ls → ((j : ℕ) → j < length ls → (j ≡ k → ⊥) → has_number ls n j ≡ false)
    → block_by (free_blocks ls) n ≡ block_by (get_or ls k no_list).blocks n
one_in [] n k lt h = absurd (omega (arith, lt))
one_in (l ∷ ls) n zero lt h =
    either_by l.blocks (free_blocks ls) n
    ∙ ap (option_or (block_by l.blocks n)) (none_in ls n (λ j less. h (suc j) (omega (arith, less)) (λ e. omega (arith, e))))
    ∙ or_none (block_by l.blocks n)
one_in (l ∷ ls) n (suc k) lt h =
    either_by l.blocks (free_blocks ls) n
    ∙ ap (λ (o : Option BlockValue). option_or o (block_by (free_blocks ls) n))
    (none_by l.blocks n (h 0 (omega arith) (λ e. omega (arith, e))))
    ∙ one_in ls n k (omega (arith, lt)) (λ j less ne. h (suc j) (omega (arith, less)) (λ e. ne (omega (arith, e))))

one_without : (ls : List FreeBlocks) (n k : ℕ) → k < length ls → ((j : ℕ) → j < length ls → (j ≡ k → ⊥) → has_number ls n j ≡ false)
    → map (without n) ls ≡ set ls k (without n (get_or ls k no_list))
one_without [] n k lt h = absurd (omega (arith, lt))
one_without (l ∷ ls) n zero lt h =
    ap (λ (xs : List FreeBlocks). without n l ∷ xs)
    (all_same ls n (λ j less. h (suc j) (omega (arith, less)) (λ e. omega (arith, e))))
one_without (l ∷ ls) n (suc k) lt h =
    λ i. same_list l n (h 0 (omega arith) (λ e. omega (arith, e))) i
    ∷ one_without ls n k (omega (arith, lt)) (λ j less ne. h (suc j) (omega (arith, less)) (λ e. ne (omega (arith, e)))) i

-- a block that is at home in one list alone
all_kept : (ls : List FreeBlocks) (b : BlockValue) → ((j : ℕ) → j < length ls → is_home (get_or ls j no_list) b.number ≡ false)
    → map (with_home b) ls ≡ ls
all_kept [] b h = refl
all_kept (l ∷ ls) b h = rw (h 0 (omega arith)) (ap (λ (xs : List FreeBlocks). l ∷ xs) (all_kept ls b (λ j lt. h (suc j) (omega (arith, lt)))))

one_with : (ls : List FreeBlocks) (b : BlockValue) (k : ℕ) → k < length ls
    → ((j : ℕ) → j < length ls → (j ≡ k → ⊥) → is_home (get_or ls j no_list) b.number ≡ false)
    → map (with_home b) ls ≡ set ls k (with_home b (get_or ls k no_list))
one_with [] b k lt h = absurd (omega (arith, lt))
one_with (l ∷ ls) b zero lt h =
    ap (λ (xs : List FreeBlocks). with_home b l ∷ xs)
    (all_kept ls b (λ j less. h (suc j) (omega (arith, less)) (λ e. omega (arith, e))))
one_with (l ∷ ls) b (suc k) lt h =
    rw (h 0 (omega arith) (λ e. omega (arith, e)))
    (ap (λ (xs : List FreeBlocks). l ∷ xs)
    (one_with ls b k (omega (arith, lt)) (λ j less ne. h (suc j) (omega (arith, less)) (λ e. ne (omega (arith, e))))))

-- a number that no list has, one of them does not have
has_either : (xs ys : List BlockValue) (n : ℕ) → has (numbers_of (xs ++ ys)) n ≡ (has (numbers_of xs) n || has (numbers_of ys) n)
has_either [] ys n = refl
has_either (b ∷ xs) ys n = go (b.number == n) (has_either xs ys n) where
  go : (c : Bool) → has (numbers_of (xs ++ ys)) n ≡ (has (numbers_of xs) n || has (numbers_of ys) n)
      → (c || has (numbers_of (xs ++ ys)) n) ≡ ((c || has (numbers_of xs) n) || has (numbers_of ys) n)
  go true rest = refl
  go false rest = rest

-- and one whose block is taken out of all, none has
gone_out : (bs : List BlockValue) (n : ℕ) → has (numbers_of (without_block n bs)) n ≡ false
gone_out [] n = refl
gone_out (b ∷ bs) n = go (b.number == n) refl (gone_out bs n) where
  go : (c : Bool) → (b.number == n) ≡ c → has (numbers_of (without_block n bs)) n ≡ false
      → has (numbers_of (cond (not c) (b ∷ without_block n bs) (without_block n bs))) n ≡ false
  go true q rest = rest
  go false q rest = rw q rest

pub gone_home : (ls : List FreeBlocks) (n : ℕ) → has (numbers_of (free_blocks (map (without n) ls))) n ≡ false
gone_home [] n = refl
gone_home (l ∷ ls) n =
    has_either (without_block n l.blocks) (free_blocks (map (without n) ls)) n
    ∙ ap (λ (c : Bool). c || has (numbers_of (free_blocks (map (without n) ls))) n) (gone_out l.blocks n)
    ∙ gone_home ls n

-- a block is gone from all lists that it is taken out of, and no other
out_by : (bs : List BlockValue) (n m : ℕ) → block_by (without_block n bs) m ≡ cond (n == m) None (block_by bs m)
out_by [] n m = nothing (n == m) where
  none : Option BlockValue
  none = None

  nothing : (c : Bool) → none ≡ cond c none none
  nothing true = refl
  nothing false = refl
out_by (b ∷ bs) n m = go (b.number == n) refl (b.number == m) refl (n == m) refl (out_by bs n m) where
  go : (p : Bool) → (b.number == n) ≡ p → (q : Bool) → (b.number == m) ≡ q → (r : Bool) → (n == m) ≡ r
      → block_by (without_block n bs) m ≡ cond r None (block_by bs m)
      → block_by (cond (not p) (b ∷ without_block n bs) (without_block n bs)) m ≡ cond r None (cond q (Some b) (block_by bs m))
  go true x q y true z rest = rest
  go true x true y false z rest = absurd (eqb-false n m z (sym (eqb-true b.number n x) ∙ eqb-true b.number m y))
  go true x false y false z rest = rest
  go false x true y true z rest = absurd (eqb-false b.number n x (eqb-true b.number m y ∙ sym (eqb-true n m z)))
  go false x true y false z rest = rw y refl
  go false x false y true z rest = rw y rest
  go false x false y false z rest = rw y rest

pub left_by : (ls : List FreeBlocks) (n m : ℕ)
    → block_by (free_blocks (map (without n) ls)) m ≡ cond (n == m) None (block_by (free_blocks ls) m)
left_by [] n m = out_by [] n m
left_by (l ∷ ls) n m =
    either_by (without_block n l.blocks) (free_blocks (map (without n) ls)) m
    ∙ ap (λ (o : Option BlockValue). option_or o (block_by (free_blocks (map (without n) ls)) m)) (out_by l.blocks n m)
    ∙ ap (option_or (cond (n == m) None (block_by l.blocks m))) (left_by ls n m)
    ∙ outward (n == m) (block_by l.blocks m) (block_by (free_blocks ls) m)
    ∙ ap (λ (o : Option BlockValue). cond (n == m) None o) (sym (either_by l.blocks (free_blocks ls) m))
  where
    outward : (c : Bool) (o p : Option BlockValue) → option_or (cond c None o) (cond c None p) ≡ cond c None (option_or o p)
    outward true o p = refl
    outward false o p = refl

absent_at : (ls : List FreeBlocks) (n k : ℕ) → k < length ls → has (numbers_of (free_blocks ls)) n ≡ false → has_number ls n k ≡ false
absent_at [] n k lt h = absurd (omega (arith, lt))
absent_at (l ∷ ls) n k lt h =
    go k lt (has (numbers_of l.blocks) n) refl (has (numbers_of (free_blocks ls)) n) refl
    (sym (has_either l.blocks (free_blocks ls) n) ∙ h) (λ j less q. absent_at ls n j less q)
  where
    go : (k : ℕ) → k < length (l ∷ ls) → (a : Bool) → has (numbers_of l.blocks) n ≡ a → (b : Bool)
        → has (numbers_of (free_blocks ls)) n ≡ b → (a || b) ≡ false
        → ((j : ℕ) → j < length ls → has (numbers_of (free_blocks ls)) n ≡ false → has_number ls n j ≡ false)
        → has_number (l ∷ ls) n k ≡ false
    go k lt true p b q e later = cc
    go k lt false p true q e later = cc
    go zero lt false p false q e later = p
    go (suc k) lt false p false q e later = later k (omega (arith, lt)) q

-- ---- the lists of a device

-- no list has a number that is not one of the device
module _ (g : GeometryNumbers) (lists : List FreeBlocks) (are : AreListsOf g lists) where
  upto : 0 < g.cpus → (k j : ℕ) → j + k ≡ g.cpus → home_start g.blocks g.cpus j ≤ g.blocks
  upto some zero j e =
      let same : g.cpus ≡ j = omega (arith, e) in
      subst (λ (m : ℕ). home_start g.blocks g.cpus m ≤ g.blocks) same
      (subst (λ (m : ℕ). m ≤ g.blocks) (sym (cuts g.blocks g.cpus some).last) (omega arith))
  upto some (suc k) j e = le_trans ((cuts g.blocks g.cpus some).in_order j) (upto some k (j + 1) (omega (arith, e)))

  past : (n j : ℕ) → g.blocks ≤ n → j < length lists → has_number lists n j ≡ false
  past n j le lt = false_from_ne_true (has_number lists n j) (λ q.
      let cpu : j < g.cpus = omega (arith, lt, are.cpus) in
      let some : 0 < g.cpus = omega (arith, cpu) in
      let l = are.each j cpu in
      let ns = numbers_of (get_or lists j no_list).blocks in
      let low : n < (get_or lists j no_list).end = among (λ (m : ℕ). m < (get_or lists j no_list).end) ns n l.free.below_end q in
      let end : (get_or lists j no_list).end ≤ g.blocks =
      subst (λ (m : ℕ). m ≤ g.blocks) (sym l.end) (upto some (g.cpus - (j + 1)) (j + 1) (omega (arith, cpu))) in
      omega (arith, low, end, le))

  pub none_past : (n : ℕ) → g.blocks ≤ n → block_by (free_blocks lists) n ≡ None
  none_past n le = none_in lists n (λ j lt. past n j le lt)

  pub same_past : (n : ℕ) → g.blocks ≤ n → map (without n) lists ≡ lists
  same_past n le = all_same lists n (λ j lt. past n j le lt)

module _ (g : GeometryNumbers) (lists : List FreeBlocks) (are : AreListsOf g lists) (n home : ℕ) (device : n < g.blocks)
    (cpu : home < g.cpus) (is : IsHome g.blocks g.cpus home n) where
  some : 0 < g.cpus
  some = omega (arith, cpu)

  only : (j : ℕ) → j < length lists → IsHome g.blocks g.cpus j n → j ≡ home
  only j lt there =
      let one = (cuts g.blocks g.cpus some).once n device in
      one.only j (omega (arith, lt, are.cpus)) there ∙ sym (one.only home cpu is)

  its_list : (j : ℕ) → j < length lists → IsHomeList g j (get_or lists j no_list)
  its_list j lt = are.each j (omega (arith, lt, are.cpus))

  pub home_within : home < length lists
  home_within = omega (arith, cpu, are.cpus)

  -- the list of another CPU has no block of the number, and none is at home there
  elsewhere : (j : ℕ) → j < length lists → (j ≡ home → ⊥) → has_number lists n j ≡ false
  elsewhere j lt ne = false_from_ne_true (has_number lists n j) (λ q.
      let l = its_list j lt in
      let ns = numbers_of (get_or lists j no_list).blocks in
      ne (only j lt (record {
        from = subst (λ (s : ℕ). s ≤ n) l.start (among (λ (m : ℕ). (get_or lists j no_list).start ≤ m) ns n l.free.from_start q);
        below = subst (λ (s : ℕ). n < s) l.end (among (λ (m : ℕ). m < (get_or lists j no_list).end) ns n l.free.below_end q);
      })))

  strange : (j : ℕ) → j < length lists → (j ≡ home → ⊥) → is_home (get_or lists j no_list) n ≡ false
  strange j lt ne = false_from_ne_true (is_home (get_or lists j no_list) n) (λ q.
      let l = its_list j lt in
      let range = home_is (get_or lists j no_list).start (get_or lists j no_list).end n q in
      ne (only j lt (record {
        from = subst (λ (s : ℕ). s ≤ n) l.start range.0;
        below = subst (λ (s : ℕ). n < s) l.end range.1;
      })))

  pub its_block : block_by (free_blocks lists) n ≡ block_by (get_or lists home no_list).blocks n
  its_block = one_in lists n home home_within elsewhere

  pub lists_without : map (without n) lists ≡ set lists home (without n (get_or lists home no_list))
  lists_without = one_without lists n home home_within elsewhere

  pub at_home : is_home (get_or lists home no_list) n ≡ true
  at_home =
      let l = its_list home home_within in
      let list = get_or lists home no_list in
      let low : list.start ≤ n = subst (λ (s : ℕ). s ≤ n) (sym l.start) is.from in
      let high : n < list.end = subst (λ (s : ℕ). n < s) (sym l.end) is.below in
      rw (le-leb list.start n low, lt-ltb n list.end high) refl

  module _ (b : BlockValue) (own : b.number ≡ n) where
    pub lists_with : map (with_home b) lists ≡ set lists home (with_home b (get_or lists home no_list))
    lists_with = one_with lists b home home_within
        (λ j lt ne. ap (λ (m : ℕ). is_home (get_or lists j no_list) m) own ∙ strange j lt ne)

    pub home_takes : has (numbers_of (free_blocks lists)) n ≡ false → length b.bytes ≡ g.block
        → takes (get_or lists home no_list) b ≡ true
    home_takes absent sized =
        let l = its_list home home_within in
        let list = get_or lists home no_list in
        let own_home : is_home list b.number ≡ true = ap (λ (m : ℕ). is_home list m) own ∙ at_home in
        let free : has (numbers_of list.blocks) b.number ≡ false =
        ap (λ (m : ℕ). has (numbers_of list.blocks) m) own ∙ absent_at lists n home home_within absent in
        let fits : (length b.bytes == list.size) ≡ true = eq-eqb (length b.bytes) list.size (sized ∙ sym l.size) in
        go (is_home list b.number) own_home (has (numbers_of list.blocks) b.number) free (length b.bytes == list.size) fits
      where
        go : (x : Bool) → x ≡ true → (y : Bool) → y ≡ false → (z : Bool) → z ≡ true → (x && not y && z) ≡ true
        go true p false q true r = refl
        go true p false q false r = cc
        go true p true q z r = cc
        go false p y q z r = cc

  -- the lists stay those of the device where the home list has other blocks
  pub lists_still : (new : FreeBlocks) (blocks : List BlockValue) → new ≡ record (get_or lists home no_list) { blocks = blocks }
      → IsFreeList new → AreListsOf g (set lists home new)
  lists_still new blocks is free = record {
    cpus = length-set lists home new ∙ are.cpus;
    each = λ j lt. go j lt (j == home) refl;
  } where
    was : IsHomeList g home (get_or lists home no_list)
    was = are.each home cpu

    fine : IsHomeList g home new
    fine = record {
      start = ap (λ (l : FreeBlocks). l.start) is ∙ was.start;
      end = ap (λ (l : FreeBlocks). l.end) is ∙ was.end;
      size = ap (λ (l : FreeBlocks). l.size) is ∙ was.size;
      free = free;
    }

    go : (j : ℕ) → j < g.cpus → (b : Bool) → (j == home) ≡ b → IsHomeList g j (get_or (set lists home new) j no_list)
    go j lt true q =
        let same : home ≡ j = sym (eqb-true j home q) in
        subst (λ (k : ℕ). IsHomeList g k (get_or (set lists home new) k no_list)) same
        (subst (IsHomeList g home) (sym (get_or-set_same lists home new no_list home_within)) fine)
    go j lt false q =
        subst (IsHomeList g j) (sym (get_or-set_other lists home j new no_list (eqb-false j home q))) (are.each j lt)
