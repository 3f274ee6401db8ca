-- Blocks of a slot that go home: its data blocks, the pages that a cut gives away, and all pages of an erased one.
use Rattle.std.proofs.Common.{◌≡◌, ℕ, zero, suc, ◌+◌, ◌<◌, ◌≤◌, ◌==◌, ◌||◌, ◌++◌, Bool, true, false, cond, List, [], ◌∷◌, length, take, drop, reverse, Some, arith, refl, ap, ap₂, subst, sym, ◌∙◌}
use Rattle.std.specs.List.{AllByRecursion}
use Rattle.std.proofs.lemmas.Bool.{eq-eqb, eqb-true, false≢true}
use Rattle.std.proofs.lemmas.List.{reverse-append, take-append-drop}
use Rattle.std.proofs.lemmas.Option.{none-some, same_Some}
use Rattle.nv_alloc.specs.Block.{AreSized, BlockValue, block_by, numbers_of}
use Rattle.nv_alloc.specs.FreeList.{FreeBlocks}
use Rattle.nv_alloc.specs.Numbers.{has, times}
use Rattle.nv_alloc.proofs.Lists.{has-times, times-append, times-cons, times-no, times-yes}
use Rattle.nv_audit.specs.Faults.{IsFaultless}
use Rattle.nv_audit.specs.Image.{ImageValue, SlotImageValue, slot_numbers, slot_of}
use Rattle.nv_audit.specs.Mounted.{free_block}
use Rattle.nv_base.specs.declared.fault.ImageFault.TheVariants as fault
use Rattle.nv_mount.specs.Build.{AreFree, AreGivenHome, CanAllGoHome, IsApart, used_by}
use Rattle.nv_mount.proofs.Free.{ComeNow, can_give, data_free, data_no_page, data_once, data_there, given_free, page_free, page_once, page_there, slot_within}
use Rattle.nv_mount.proofs.Marked.{has-append, numbers_append, or_right, stands}

-- ---- lists the other way round

all_both : {X : Type 0} (P : X → Type 0) (xs ys : List X) → AllByRecursion P xs → AllByRecursion P ys → AllByRecursion P (xs ++ ys)
all_both P [] ys p q = q
all_both P (x ∷ xs) ys p q = (p.0, all_both P xs ys p.1 q)

pub all_reverse : {X : Type 0} (P : X → Type 0) (xs : List X) → AllByRecursion P xs → AllByRecursion P (reverse xs)
all_reverse P [] all = tt
all_reverse {X} P (x ∷ xs) all =
    subst (λ (ys : List X). AllByRecursion P ys) (sym (reverse-append (x ∷ []) xs))
    (all_both P (reverse xs) (x ∷ []) (all_reverse P xs all.1) (all.0, tt))

pub all_front : {X : Type 0} (P : X → Type 0) (k : ℕ) (xs : List X) → AllByRecursion P xs → AllByRecursion P (take k xs)
all_front P zero [] all = tt
all_front P (suc k) [] all = tt
all_front P zero (x ∷ xs) all = tt
all_front P (suc k) (x ∷ xs) all = (all.0, all_front P k xs all.1)

pub all_behind : {X : Type 0} (P : X → Type 0) (k : ℕ) (xs : List X) → AllByRecursion P xs → AllByRecursion P (drop k xs)
all_behind P zero [] all = tt
all_behind P zero (x ∷ xs) all = all
all_behind P (suc k) [] all = tt
all_behind P (suc k) (x ∷ xs) all = all_behind P k xs all.1

times_reverse : (bs : List BlockValue) (n : ℕ) → times n (numbers_of (reverse bs)) ≡ times n (numbers_of bs)
times_reverse [] n = refl
times_reverse (b ∷ bs) n =
    let turned : times n (numbers_of (reverse (b ∷ bs))) ≡ times n (numbers_of (reverse bs) ++ b.number ∷ []) =
    ap (λ (xs : List BlockValue). times n (numbers_of xs)) (reverse-append (b ∷ []) bs) ∙ ap (times n) (numbers_append (reverse bs) (b ∷ [])) in
    let apart = times-append n (numbers_of (reverse bs)) (b.number ∷ []) in
    let first = times-cons n b.number (numbers_of bs) in
    omega (arith, turned, apart, first, times_reverse bs n)

times_none : (n : ℕ) (ns : List ℕ) → has ns n ≡ false → times n ns ≡ 0
times_none n [] out = refl
times_none n (m ∷ ns) out = at (m == n) refl out (times_none n ns) where
  at : (c : Bool) → (m == n) ≡ c → (c || has ns n) ≡ false → (has ns n ≡ false → times n ns ≡ 0) → times n (m ∷ ns) ≡ 0
  at true r e more = absurd (false≢true (sym e))
  at false r e more = times-no n m ns r ∙ more e

same_has : (xs ys : List ℕ) (n : ℕ) → times n xs ≡ times n ys → has xs n ≡ has ys n
same_has xs ys n same = go (has xs n) refl (has ys n) refl where
  go : (a : Bool) → has xs n ≡ a → (b : Bool) → has ys n ≡ b → has xs n ≡ has ys n
  go true p true q = p ∙ sym q
  go false p false q = p ∙ sym q
  go true p false q = absurd (let some = stands xs n p in let none = times_none n ys q in omega (arith, some, none, same))
  go false p true q = absurd (let some = stands ys n q in let none = times_none n xs p in omega (arith, some, none, same))

-- ---- each block of a list, by its number

each_own : (P : ℕ → BlockValue → Type 0) (bs : List BlockValue) → ((n : ℕ) → times n (numbers_of bs) ≤ 1)
    → ((n : ℕ) (b : BlockValue) → block_by bs n ≡ Some b → P n b) → AllByRecursion (λ (b : BlockValue). P b.number b) bs
each_own P [] once each = tt
each_own P (x ∷ bs) once each = (
  each x.number x (ap (λ (c : Bool). cond c (Some x) (block_by bs x.number)) (eq-eqb x.number x.number refl)),
  each_own P bs (λ n. let k = times-cons n x.number (numbers_of bs) in omega (arith, k, once n)) (λ n b e. each n b (later n b e (x.number == n) refl)),
) where
  some_there : (ys : List BlockValue) (n : ℕ) (b : BlockValue) → block_by ys n ≡ Some b → has (numbers_of ys) n ≡ true
  some_there [] n b e = absurd (none-some b e)
  some_there (y ∷ ys) n b e = at (y.number == n) e (some_there ys n b) where
    at : (c : Bool) → cond c (Some y) (block_by ys n) ≡ Some b → (block_by ys n ≡ Some b → has (numbers_of ys) n ≡ true)
        → (c || has (numbers_of ys) n) ≡ true
    at true k more = refl
    at false k more = more k

  later : (n : ℕ) (b : BlockValue) → block_by bs n ≡ Some b → (c : Bool) → (x.number == n) ≡ c
      → cond (x.number == n) (Some x) (block_by bs n) ≡ Some b
  later n b e false q = ap (λ (c : Bool). cond c (Some x) (block_by bs n)) q ∙ e
  later n b e true q =
      absurd (let some = stands (numbers_of bs) n (some_there bs n b e) in
      let yes = times-yes n x.number (numbers_of bs) q in omega (arith, some, yes, once n))

by_each : (P : ℕ → BlockValue → Type 0) (bs : List BlockValue) → AllByRecursion (λ (b : BlockValue). P b.number b) bs
    → (n : ℕ) (b : BlockValue) → block_by bs n ≡ Some b → P n b
by_each P [] all n b e = absurd (none-some b e)
by_each P (x ∷ bs) all n b e = at (x.number == n) refl e (by_each P bs all.1 n b) where
  at : (c : Bool) → (x.number == n) ≡ c → cond c (Some x) (block_by bs n) ≡ Some b → (block_by bs n ≡ Some b → P n b) → P n b
  at true q k more = subst (P n) (same_Some x b k) (subst (λ (m : ℕ). P m x) (eqb-true x.number n q) all.0)
  at false q k more = more k

-- ---- a slot's blocks

module _ (image : ImageValue) (faultless : IsFaultless image) (ino : ℕ) (lt : ino < length image.slots) (owed : List ℕ)
    (apart : IsApart image ino owed) where
  abbrev slot : SlotImageValue
  slot = slot_of image ino

  abbrev pages : List BlockValue
  pages = slot.chain.pages

  abbrev used : ℕ → Bool
  used n = has (used_by image ino) n

  out : (u p o : Bool) → (u || o) ≡ false → p ≡ false → (u || (p || o)) ≡ false
  out true p o h q = absurd (false≢true (sym h))
  out false true o h q = absurd (false≢true (sym q))
  out false false o h q = h

  sized_pages : AreSized image.numbers.block pages
  sized_pages = ((faultless fault.Geometry).each ino lt).pages

  sized_data : AreSized image.numbers.block slot.blocks
  sized_data = ((faultless fault.Geometry).each ino lt).blocks

  -- its data blocks
  data_come : ComeNow image ino (slot_numbers slot ++ owed) (numbers_of pages ++ owed) slot.blocks
  data_come = record {
    parted = λ n.
        has-append (slot_numbers slot) owed n
        ∙ ap (λ (b : Bool). b || has owed n)
        (ap (λ (ns : List ℕ). has ns n) (numbers_append pages slot.blocks) ∙ has-append (numbers_of pages) (numbers_of slot.blocks) n)
        ∙ turn (has (numbers_of pages) n) (has (numbers_of slot.blocks) n) (has owed n)
        ∙ sym (ap (λ (b : Bool). has (numbers_of slot.blocks) n || b) (has-append (numbers_of pages) owed n));
    apart = λ n there.
        ap (λ (b : Bool). used n || b) (has-append (numbers_of pages) owed n)
        ∙ out (used n) (has (numbers_of pages) n) (has owed n) (apart n (data_there image faultless ino lt n there))
        (data_no_page image faultless ino lt n there);
    bytes = data_free image faultless ino lt;
  } where
    turn : (p d o : Bool) → ((p || d) || o) ≡ (d || (p || o))
    turn true true o = refl
    turn true false o = refl
    turn false d o = refl

  pub data_can : (lists : List FreeBlocks) → AreFree image ino (slot_numbers slot ++ owed) lists → CanAllGoHome image.numbers slot.blocks lists
  data_can lists free =
      can_give image ino (slot_numbers slot ++ owed) (numbers_of pages ++ owed) slot.blocks lists data_come free
      (data_once image faultless ino lt)
      (λ n there. slot_within image faultless ino lt n (data_there image faultless ino lt n there)) sized_data

  pub data_given : (lists new : List FreeBlocks) → AreFree image ino (slot_numbers slot ++ owed) lists
      → AreGivenHome image.numbers slot.blocks lists new → AreFree image ino (numbers_of pages ++ owed) new
  data_given lists new free given =
      given_free image ino (slot_numbers slot ++ owed) (numbers_of pages ++ owed) slot.blocks lists new data_come free given

  -- all its pages
  pages_come : ComeNow image ino (numbers_of pages ++ owed) owed pages
  pages_come = record {
    parted = λ n. has-append (numbers_of pages) owed n;
    apart = λ n there. apart n (page_there image faultless ino lt n there);
    bytes = page_free image faultless ino lt;
  }

  pub pages_can : (lists : List FreeBlocks) → AreFree image ino (numbers_of pages ++ owed) lists → CanAllGoHome image.numbers pages lists
  pages_can lists free =
      can_give image ino (numbers_of pages ++ owed) owed pages lists pages_come free (page_once image faultless ino lt)
      (λ n there. slot_within image faultless ino lt n (page_there image faultless ino lt n there)) sized_pages

  pub pages_given : (lists new : List FreeBlocks) → AreFree image ino (numbers_of pages ++ owed) lists
      → AreGivenHome image.numbers pages lists new → AreFree image ino owed new
  pages_given lists new free given = given_free image ino (numbers_of pages ++ owed) owed pages lists new pages_come free given

  -- the pages behind the first `k`, the last one first
  module _ (k : ℕ) where
    abbrev kept : List BlockValue
    kept = take k pages

    abbrev past : List BlockValue
    past = drop k pages

    both_numbers : numbers_of pages ≡ numbers_of kept ++ numbers_of past
    both_numbers = ap numbers_of (sym (take-append-drop k pages)) ∙ numbers_append kept past

    both_times : (n : ℕ) → times n (numbers_of kept) + times n (numbers_of past) ≤ 1
    both_times n =
        let all = ap (times n) both_numbers ∙ times-append n (numbers_of kept) (numbers_of past) in
        omega (arith, all, page_once image faultless ino lt n)

    turned : (n : ℕ) → has (numbers_of (reverse past)) n ≡ has (numbers_of past) n
    turned n = same_has (numbers_of (reverse past)) (numbers_of past) n (times_reverse past n)

    both_has : (n : ℕ) → has (numbers_of pages) n ≡ (has (numbers_of kept) n || has (numbers_of past) n)
    both_has n = ap (λ (ns : List ℕ). has ns n) both_numbers ∙ has-append (numbers_of kept) (numbers_of past) n

    in_page : (n : ℕ) → has (numbers_of (reverse past)) n ≡ true → has (numbers_of pages) n ≡ true
    in_page n there = both_has n ∙ or_right (has (numbers_of kept) n) (has (numbers_of past) n) (sym (turned n) ∙ there)

    not_kept : (n : ℕ) → has (numbers_of (reverse past)) n ≡ true → has (numbers_of kept) n ≡ false
    not_kept n there =
        let some = stands (numbers_of past) n (sym (turned n) ∙ there) in
        has-times n (numbers_of kept) (omega (arith, some, both_times n))

    past_come : ComeNow image ino (numbers_of pages ++ owed) (numbers_of kept ++ owed) (reverse past)
    past_come = record {
      parted = λ n.
          has-append (numbers_of pages) owed n ∙ ap (λ (b : Bool). b || has owed n) (both_has n)
          ∙ turn (has (numbers_of kept) n) (has (numbers_of past) n) (has owed n)
          ∙ ap₂ (λ (a b : Bool). a || b) (sym (turned n)) (sym (has-append (numbers_of kept) owed n));
      apart = λ n there.
          ap (λ (b : Bool). used n || b) (has-append (numbers_of kept) owed n)
          ∙ out (used n) (has (numbers_of kept) n) (has owed n) (apart n (page_there image faultless ino lt n (in_page n there)))
          (not_kept n there);
      bytes = by_each IsItsFree (reverse past) (all_reverse (λ (b : BlockValue). IsItsFree b.number b) past
          (all_behind (λ (b : BlockValue). IsItsFree b.number b) k pages
          (each_own IsItsFree pages (page_once image faultless ino lt) (page_free image faultless ino lt))));
    } where
      turn : (p d o : Bool) → ((p || d) || o) ≡ (d || (p || o))
      turn true true o = refl
      turn true false o = refl
      turn false d o = refl

      IsItsFree : ℕ → BlockValue → Type 0
      IsItsFree n b = b ≡ free_block image n

    pub past_can : (lists : List FreeBlocks) → AreFree image ino (numbers_of pages ++ owed) lists
        → CanAllGoHome image.numbers (reverse past) lists
    past_can lists free =
        can_give image ino (numbers_of pages ++ owed) (numbers_of kept ++ owed) (reverse past) lists past_come free
        (λ n. let same = times_reverse past n in omega (arith, same, both_times n))
        (λ n there. slot_within image faultless ino lt n (page_there image faultless ino lt n (in_page n there)))
        (all_reverse (λ (b : BlockValue). length b.bytes ≡ image.numbers.block) past
        (all_behind (λ (b : BlockValue). length b.bytes ≡ image.numbers.block) k pages sized_pages))

    pub past_given : (lists new : List FreeBlocks) → AreFree image ino (numbers_of pages ++ owed) lists
        → AreGivenHome image.numbers (reverse past) lists new → AreFree image ino (numbers_of kept ++ owed) new
    past_given lists new free given =
        given_free image ino (numbers_of pages ++ owed) (numbers_of kept ++ owed) (reverse past) lists new past_come free given
