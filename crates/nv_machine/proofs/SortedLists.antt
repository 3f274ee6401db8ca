-- Free lists stay in rising order and at home.
use Rattle.std.proofs.Common.{Bool, List, [], arith, drop, false, get_or-set_other, get_or-set_same, if◌then◌else◌, length, length-set, nat_lt, refl, set, subst, suc, sym, true, zero, ℕ, ◌<◌, ◌==◌, ◌||◌, ◌∙◌, ◌∷◌, ◌≡◌, ◌≢◌, ◌≤◌}
use Rattle.std.specs.Prelude.{nat_le, not, slice_index_or, ◌&&◌}
use Rattle.std.specs.List.{AllByRecursion}
use Rattle.std.proofs.lemmas.Bool.{and_parts, eqb-false, eqb-true, leb-true, ltb-false, ltb-true}
use Rattle.nv_alloc.specs.Block.{AreSized, BlockValue, numbers_of, put_block}
use Rattle.nv_alloc.specs.FreeList.{FreeBlocks, IsHomeList, is_home}
use Rattle.nv_alloc.specs.Giving.{after_giving, after_offer, takes}
use Rattle.nv_alloc.specs.Numbers.{IsRising, has}
use Rattle.nv_base.specs.declared.geometry.GeometryNumbers.{GeometryNumbers}
use Rattle.nv_machine.proofs.Lists.{all_over}
use Rattle.nv_machine.specs.Hands.{AreLists}
use Rattle.nv_machine.specs.World.{Shared, no_list, with_list}
use Rattle.nv_machine.proofs.PartPlaces.{sized_later}

-- ---- a free list

all_later : (P : ℕ → Type 0) (n : ℕ) (bs : List BlockValue) → AllByRecursion P (numbers_of bs) → AllByRecursion P (numbers_of (drop n bs))
all_later P zero bs h = h
all_later P (suc n) [] h = tt
all_later P (suc n) (b ∷ bs) h = all_later P n bs h.1

rising_later : (n : ℕ) (bs : List BlockValue) → IsRising (numbers_of bs) → IsRising (numbers_of (drop n bs))
rising_later zero bs h = h
rising_later (suc n) [] h = tt
rising_later (suc n) (b ∷ bs) h = rising_later n bs h.1

all_put : (P : ℕ → Type 0) (b : BlockValue) (bs : List BlockValue) → P b.number → AllByRecursion P (numbers_of bs)
    → AllByRecursion P (numbers_of (put_block b bs))
all_put P b [] new h = (new, tt)
all_put P b (c ∷ bs) new h = go (nat_lt b.number c.number) (all_put P b bs new h.1) where
  go : (t : Bool) → AllByRecursion P (numbers_of (put_block b bs))
      → AllByRecursion P (numbers_of (if t then b ∷ c ∷ bs else c ∷ put_block b bs))
  go true more = (new, h)
  go false more = (h.0, more)

sized_put : (size : ℕ) (b : BlockValue) (bs : List BlockValue) → length b.bytes ≡ size → AreSized size bs → AreSized size (put_block b bs)
sized_put size b [] new h = (new, tt)
sized_put size b (c ∷ bs) new h = go (nat_lt b.number c.number) (sized_put size b bs new h.1) where
  go : (t : Bool) → AreSized size (put_block b bs) → AreSized size (if t then b ∷ c ∷ bs else c ∷ put_block b bs)
  go true more = (new, h)
  go false more = (h.0, more)

or_left : (a b : Bool) → (a || b) ≡ false → a ≡ false
or_left true b h = cc
or_left false b h = refl

or_right : (a b : Bool) → (a || b) ≡ false → b ≡ false
or_right true b h = cc
or_right false b h = h

rising_put : (b : BlockValue) (bs : List BlockValue) → IsRising (numbers_of bs) → has (numbers_of bs) b.number ≡ false
    → IsRising (numbers_of (put_block b bs))
rising_put b [] h absent = (tt, tt)
rising_put b (c ∷ bs) h absent =
    go (nat_lt b.number c.number) refl (rising_put b bs h.1 (or_right (c.number == b.number) (has (numbers_of bs) b.number) absent)) where
      apart : c.number ≢ b.number
      apart = eqb-false c.number b.number (or_left (c.number == b.number) (has (numbers_of bs) b.number) absent)

      go : (t : Bool) → nat_lt b.number c.number ≡ t → IsRising (numbers_of (put_block b bs))
          → IsRising (numbers_of (if t then b ∷ c ∷ bs else c ∷ put_block b bs))
      go true q more =
          let lt = ltb-true b.number c.number q in
          ((lt, all_over b.number c.number (numbers_of bs) lt h.0), h)
      go false q more =
          let ge = ltb-false b.number c.number q in
          (all_put (λ k. c.number < k) b bs (omega (arith, ge, apart)) h.0, more)

pub less_free : (g : GeometryNumbers) (cpu n : ℕ) (list : FreeBlocks) → IsHomeList g cpu list
    → IsHomeList g cpu (record list { blocks = drop n list.blocks })
less_free g cpu n list h = record {
  start = h.start;
  end = h.end;
  size = h.size;
  free = record {
    rising = rising_later n list.blocks h.free.rising;
    from_start = all_later (λ k. list.start ≤ k) n list.blocks h.free.from_start;
    below_end = all_later (λ k. k < list.end) n list.blocks h.free.below_end;
    sized = sized_later list.size n list.blocks h.free.sized;
  };
}

not_false : (b : Bool) → not b ≡ true → b ≡ false
not_false true h = cc
not_false false h = refl

offered_free : (g : GeometryNumbers) (cpu : ℕ) (list : FreeBlocks) (b : BlockValue) → IsHomeList g cpu list
    → IsHomeList g cpu (after_offer list b)
offered_free g cpu list b h = go (takes list b) refl where
  go : (t : Bool) → takes list b ≡ t → IsHomeList g cpu (if t then record list { blocks = put_block b list.blocks } else list)
  go true q =
      let home_and_absent = and_parts (is_home list b.number && not (has (numbers_of list.blocks) b.number))
      (length b.bytes == list.size) q in
      let both = and_parts (is_home list b.number) (not (has (numbers_of list.blocks) b.number)) home_and_absent.0 in
      let home = and_parts (nat_le list.start b.number) (nat_lt b.number list.end) both.0 in
      record {
        start = h.start;
        end = h.end;
        size = h.size;
        free = record {
          rising = rising_put b list.blocks h.free.rising (not_false (has (numbers_of list.blocks) b.number) both.1);
          from_start = all_put (λ k. list.start ≤ k) b list.blocks (leb-true list.start b.number home.0) h.free.from_start;
          below_end = all_put (λ k. k < list.end) b list.blocks (ltb-true b.number list.end home.1) h.free.below_end;
          sized = sized_put list.size b list.blocks (eqb-true (length b.bytes) list.size home_and_absent.1) h.free.sized;
        };
      }
  go false q = h

pub given_free : (g : GeometryNumbers) (cpu : ℕ) (list : FreeBlocks) (bs : List BlockValue) → IsHomeList g cpu list
    → IsHomeList g cpu (after_giving list bs)
given_free g cpu list [] h = h
given_free g cpu list (b ∷ bs) h = given_free g cpu (after_offer list b) bs (offered_free g cpu list b h)

-- ---- all lists, where one is another

pub with_home : (g : GeometryNumbers) (cpu : ℕ) (list : FreeBlocks) (s : Shared) → AreLists g s
    → (cpu < g.cpus → IsHomeList g cpu list) → AreLists g (with_list cpu list s)
with_home g cpu list s lists new = record {
  cpus = length-set s.lists cpu list ∙ lists.cpus;
  each = λ c lt. at c lt (cpu == c) refl;
} where
  at : (c : ℕ) → c < g.cpus → (b : Bool) → (cpu == c) ≡ b → IsHomeList g c (slice_index_or (set s.lists cpu list) c no_list)
  at c lt true q =
      let same : cpu ≡ c = eqb-true cpu c q in
      subst (λ (n : ℕ). IsHomeList g n (slice_index_or (set s.lists cpu list) n no_list)) same
      (subst (λ (l : FreeBlocks). IsHomeList g cpu l)
      (sym (get_or-set_same s.lists cpu list no_list (omega (arith, same, lt, lists.cpus)))) (new (omega (arith, same, lt))))
  at c lt false q = subst (λ (l : FreeBlocks). IsHomeList g c l)
      (sym (get_or-set_other s.lists cpu c list no_list (λ e. eqb-false cpu c q (sym e)))) (lists.each c lt)
