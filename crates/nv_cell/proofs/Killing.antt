-- The numbers of killed parts, by their keys.
use Rattle.std.proofs.Common.{◌≡◌, ◌≢◌, ℕ, ◌+◌, ◌<◌, ◌≤◌, ◌==◌, ◌&&◌, Bool, true, false, cond, nat_lt, nat_le, List, Option, Some, None, arith, refl, ap, sym, ◌∙◌, inl, inr}
use Rattle.std.specs.Prelude.{vec_capacity, vec_len}
use Rattle.std.specs.Global.{Vec}
use Rattle.std.specs.Option.{option_map}
use Rattle.std.proofs.lemmas.Bool.{eqb-true, eq-eqb, cases_lt}
use Rattle.std.proofs.lemmas.Bool.Decides.{nat_tests}
use Rattle.nv_entry.specs.declared.item.Entry.{Entry}
use Rattle.nv_entry.specs.declared.part_ref.PartRef.{PartRef}
use Rattle.nv_entry.specs.Covered.{key_at}
use Rattle.nv_entry.specs.Keys.{Key, KindKey, ModeKey, SizeKey, NameKey, PageKey}
use Rattle.nv_entry.proofs.Hiding.{same_name-self, same_name-equal}
use Rattle.nv_cell.specs.declared.number.NumberedPart.{NumberedPart}
use Rattle.nv_cell.specs.Index.{IndexValue, ref_of}
use Rattle.nv_cell.specs.Numbers.{AreNamed, Pushes, times, number, number_at, numbers_in, is_named, is_number, is_page_in, is_key}

pub number_is : (o : Option ℕ) (n : ℕ) → is_number o n ≡ true → o ≡ Some n
number_is None n h = cc
number_is (Some m) n h = ap Some (eqb-true m n h)

-- the index names its parts at their keys
abbrev pub AtKeys : (Key → Option ℕ) → (ℕ → Key) → Type 0
AtKeys o kat = (key : Key) (m : ℕ) → o key ≡ Some m → kat m ≡ key

pub differs : (o : Key → Option ℕ) (kat : ℕ → Key) → AtKeys o kat → (key k : Key) (n : ℕ) → kat n ≡ k → k ≢ key → is_number (o key) n
    ≡ false
differs o kat h key k n q ne = go (is_number (o key) n) refl where
  go : (b : Bool) → is_number (o key) n ≡ b → is_number (o key) n ≡ false
  go true p = absurd (ne (sym q ∙ h key n (number_is (o key) n p)))
  go false p = p

pub is_key_equal : (a b : Key) → is_key a b ≡ true → a ≡ b
is_key_equal KindKey KindKey h = refl
is_key_equal ModeKey ModeKey h = refl
is_key_equal SizeKey SizeKey h = refl
is_key_equal (NameKey a) (NameKey b) h = ap NameKey (same_name-equal a b h)
is_key_equal (PageKey a) (PageKey b) h = ap PageKey (eqb-true a b h)
is_key_equal a b h = cc

is_key_self : (a : Key) → is_key a a ≡ true
is_key_self KindKey = refl
is_key_self ModeKey = refl
is_key_self SizeKey = refl
is_key_self (NameKey a) = same_name-self a
is_key_self (PageKey a) = eq-eqb a a refl

same_test : (b : Bool) → b ≡ (b && true)
same_test true = refl
same_test false = refl

no_test : (a b : Bool) → a ≡ false → a ≡ (b && false)
no_test a true h = h
no_test a false h = h

-- a part has the number of a key exactly where it is named at its own key, which is that one
pub at_key : (o : Key → Option ℕ) (kat : ℕ → Key) → AtKeys o kat → (key : Key) (n : ℕ) → is_number (o key) n
    ≡ (is_number (o (kat n)) n && is_key key (kat n))
at_key o kat h key n = go (is_key key (kat n)) refl where
  go : (b : Bool) → is_key key (kat n) ≡ b → is_number (o key) n ≡ (is_number (o (kat n)) n && is_key key (kat n))
  go true q =
      ap (λ (k : Key). is_number (o k) n) (is_key_equal key (kat n) q) ∙ same_test (is_number (o (kat n)) n)
      ∙ ap (λ (b : Bool). is_number (o (kat n)) n && b) (sym q)
  go false q =
      no_test (is_number (o key) n) (is_number (o (kat n)) n)
      (differs o kat h key (kat n) n refl (λ z. let y : true ≡ false = sym (is_key_self key) ∙ ap (is_key key) (sym z) ∙ q in cc))
      ∙ ap (λ (b : Bool). is_number (o (kat n)) n && b) (sym q)

-- ---- what is put on the list

module _ (es : List Entry) (index : IndexValue) where
  -- nothing is put there
  pub none_pushed : (test : Key → Bool) (most : ℕ) (list : Vec NumberedPart)
      → ((n : ℕ) → (is_named es index n && test (key_at es n)) ≡ false) → Pushes es index test most list list
  none_pushed test most list none = record {
    numbers = λ n. rw (none n) (omega arith);
    len = omega arith;
    capacity = refl;
  }

  -- the test may be another that tells the same of named parts
  pub retold : (p q : Key → Bool) (a b : ℕ) (old new : Vec NumberedPart) → Pushes es index p a old new
      → ((n : ℕ) → (is_named es index n && p (key_at es n)) ≡ (is_named es index n && q (key_at es n))) → a ≤ b
      → Pushes es index q b old new
  retold p q a b old new h same le = record {
    numbers = λ n. rw (← same n) (h.numbers n);
    len = omega (arith, h.len, le);
    capacity = h.capacity;
  }

  and_sum : (t x y z : Bool) → cond x 1 0 + cond y 1 0 ≡ cond z 1 0 → cond (t && x) 1 0 + cond (t && y) 1 0 ≡ cond (t && z) 1 0
  and_sum true x y z h = h
  and_sum false x y z h = refl

  -- one push after the other
  pub both : (p q r : Key → Bool) (a b c : ℕ) (old mid new : Vec NumberedPart) → Pushes es index p a old mid → Pushes es index q b mid new
      → ((k : Key) → cond (p k) 1 0 + cond (q k) 1 0 ≡ cond (r k) 1 0) → a + b ≤ c → Pushes es index r c old new
  both p q r a b c old mid new f g sum le = record {
    numbers = λ n. let s = and_sum (is_named es index n) (p (key_at es n)) (q (key_at es n)) (r (key_at es n)) (sum (key_at es n)) in omega
        (arith, f.numbers n, g.numbers n, s);
    len = omega (arith, f.len, g.len, le);
    capacity = g.capacity ∙ f.capacity;
  }

  module _ (named : AreNamed es index) where
    -- the number of the part that a key has
    pub key_pushed : (key : Key) (part : PartRef) (old new : Vec NumberedPart) → ref_of index key ≡ Some part
        → ((n : ℕ) → times n (numbers_in new.items) ≡ times n (numbers_in old.items) + cond (number es part == n) 1 0) → vec_len new
        ≡ vec_len old + 1 → vec_capacity new ≡ vec_capacity old
        → Pushes es index (is_key key) 1 old new
    key_pushed key part old new at numbers len capacity = record {
      numbers = λ n.
          numbers n
          ∙ ap (λ (o : Option ℕ). times n (numbers_in old.items) + cond (is_number o n) 1 0) (sym (ap (option_map (number es)) at))
          ∙ ap (λ (b : Bool). times n (numbers_in old.items) + cond b 1 0) (at_key (number_at es index) (key_at es) named.keys key n);
      len = omega (arith, len);
      capacity = capacity;
    }

    pub key_absent : (key : Key) (list : Vec NumberedPart) → ref_of index key ≡ None → Pushes es index (is_key key) 1 list list
    key_absent key list at =
        none_pushed (is_key key) 1 list
        (λ n. sym (at_key (number_at es index) (key_at es) named.keys key n)
        ∙ ap (λ (o : Option ℕ). is_number o n) (ap (option_map (number es)) at))

-- ---- pages

page_sum : (from page : ℕ) → from ≤ page → (k : Key) → cond (is_page_in from page k) 1 0 + cond (is_key (PageKey page) k) 1 0
    ≡ cond (is_page_in from (page + 1) k) 1 0
page_sum from page le KindKey = refl
page_sum from page le ModeKey = refl
page_sum from page le SizeKey = refl
page_sum from page le (NameKey m) = refl
page_sum from page le (PageKey p) = grind (arith, nat_tests)

-- no page is there from `next` up to `to`
gap_test : (from next to n : ℕ) (o : Key → Option ℕ) (k : Key) → from ≤ next → next ≤ to
    → ((p : ℕ) → next ≤ p → p < to → o (PageKey p) ≡ None)
    → (is_number (o k) n && is_page_in from next k) ≡ (is_number (o k) n && is_page_in from to k)
gap_test from next to n o KindKey begin le gap = refl
gap_test from next to n o ModeKey begin le gap = refl
gap_test from next to n o SizeKey begin le gap = refl
gap_test from next to n o (NameKey m) begin le gap = refl
gap_test from next to n o (PageKey p) begin le gap = elim (cases_lt p next) [
  | inl lt ↦ ap (λ (b : Bool). is_number (o (PageKey p)) n && b) (below lt)
  | inr ge ↦ elim (cases_lt p to) [
    | inl lt ↦ rw (gap p ge lt) refl
    | inr past ↦ ap (λ (b : Bool). is_number (o (PageKey p)) n && b) (above past)
  ]
] where
  below : p < next → (nat_le from p && nat_lt p next) ≡ (nat_le from p && nat_lt p to)
  below lt = grind (arith, nat_tests)

  above : to ≤ p → (nat_le from p && nat_lt p next) ≡ (nat_le from p && nat_lt p to)
  above past = grind (arith, nat_tests)

pub skipped : (es : List Entry) (index : IndexValue) (from next to a b : ℕ) (old new : Vec NumberedPart)
    → Pushes es index (is_page_in from next) a old new
    → from ≤ next → next ≤ to → ((p : ℕ) → next ≤ p → p < to → ref_of index (PageKey p) ≡ None) → a ≤ b
    → Pushes es index (is_page_in from to) b old new
skipped es index from next to a b old new h begin le gap less =
    retold es index (is_page_in from next) (is_page_in from to) a b old new h
    (λ n. gap_test from next to n (number_at es index) (key_at es n) begin le (λ p ge lt. ap (option_map (number es)) (gap p ge lt))) less

-- one more page, behind a gap
pub page_pushed : (es : List Entry) (index : IndexValue) → AreNamed es index
    → (from next page a b : ℕ) (part : PartRef) (old mid new : Vec NumberedPart)
    → Pushes es index (is_page_in from next) a old mid → from ≤ next → next ≤ page
    → ((p : ℕ) → next ≤ p → p < page → ref_of index (PageKey p) ≡ None)
    → Pushes es index (is_key (PageKey page)) 1 mid new → a + 1 ≤ b → Pushes es index (is_page_in from (page + 1)) b old new
page_pushed es index named from next page a b part old mid new h begin le gap one less =
    both es index (is_page_in from page) (is_key (PageKey page)) (is_page_in from (page + 1)) a 1 b old mid new
    (skipped es index from next page a a old mid h begin le gap (omega arith)) one (page_sum from page (omega arith)) less

pages_sum : (from mid to : ℕ) → from ≤ mid → mid ≤ to → (k : Key)
    → cond (is_page_in from mid k) 1 0 + cond (is_page_in mid to k) 1 0 ≡ cond (is_page_in from to k) 1 0
pages_sum from mid to a b KindKey = refl
pages_sum from mid to a b ModeKey = refl
pages_sum from mid to a b SizeKey = refl
pages_sum from mid to a b (NameKey m) = refl
pages_sum from mid to a b (PageKey p) = grind (arith, nat_tests)

-- the pages of one more range, behind a gap
pub pages_pushed : (es : List Entry) (index : IndexValue) (from next start end a b most : ℕ) (old mid new : Vec NumberedPart)
    → Pushes es index (is_page_in from next) a old mid → from ≤ next → next ≤ start → start ≤ end
    → ((p : ℕ) → next ≤ p → p < start → ref_of index (PageKey p) ≡ None)
    → Pushes es index (is_page_in start end) b mid new → a + b ≤ most → Pushes es index (is_page_in from end) most old new
pages_pushed es index from next start end a b most old mid new h begin le order gap more few =
    both es index (is_page_in from start) (is_page_in start end) (is_page_in from end) a b most old mid new
    (skipped es index from next start a a old mid h begin le gap (omega arith)) more
    (pages_sum from start end (omega (arith, begin, le)) order) few
