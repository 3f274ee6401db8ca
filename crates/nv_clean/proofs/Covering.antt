-- What is kept beside a walk says what the entries that stay cover.
use Rattle.std.proofs.Common.{◌≡◌, ℕ, ◌+◌, ◌||◌, ◌∙◌, Bool, true, false, cond, if◌then◌else◌, not, nat_lt, max, min, List, [], ◌∷◌, ◌++◌, ap, arith, refl, sym}
use Rattle.std.specs.List.{list_any}
use Rattle.std.proofs.lemmas.Bool.{ltb-true, ltb-false, lt-ltb, le-ltb}
use Rattle.std.proofs.lemmas.List.Folds.{list_any-append}
use Rattle.nv_base.specs.Names.{same_name}
use Rattle.nv_entry.specs.declared.item.Entry.{Entry}
use Rattle.nv_entry.specs.declared.item.Item.{Item}
use Rattle.nv_entry.specs.declared.item.Item.TheVariants.{Init, Write, SetSize, SetMode, Bind, Unbind, Gone}
use Rattle.nv_entry.specs.Clean.{covers_from, hides, is_empty}
use Rattle.nv_entry.specs.Keys.{NameKey, covers, pages_for}
use Rattle.nv_entry.specs.declared.key.Datum.{Datum}
use Rattle.nv_entry.specs.declared.key.Setting.TheVariants.{Absent, Present, Untouched}
use Rattle.nv_entry.specs.Keys.{touches}
use Rattle.nv_clean.specs.declared.cover.Cover.{Cover}
use Rattle.nv_clean.specs.Cover.{AddsItem, Covers, ends_all, has_name, is_hidden, is_of_name, reach}

all_any : (kept : List Entry) → list_any (λ (e : Entry). true) kept ≡ not (is_empty kept)
all_any [] = refl
all_any (e ∷ kept) = refl

none_any : (kept : List Entry) → list_any (λ (e : Entry). false) kept ≡ false
none_any [] = refl
none_any (e ∷ kept) = none_any kept

-- the test by what is kept is the look at each entry
pub hidden : (block : ℕ) (item : Item) (kept : List Entry) (c : Cover) → Covers block kept c
    → is_hidden block item c ≡ list_any (λ (earlier : Entry). hides block item earlier.item) kept
hidden block (SetSize size) kept c h = h.pages (pages_for block size)
hidden block (Unbind name) kept c h = h.names name
hidden block Gone kept c h = h.some ∙ sym (all_any kept)
hidden block (Init kind mode) kept c h = sym (none_any kept)
hidden block (Write first run size) kept c h = sym (none_any kept)
hidden block (SetMode mode) kept c h = sym (none_any kept)
hidden block (Bind name to) kept c h = sym (none_any kept)

-- ---- one more entry

some_more : (kept : List Entry) (e : Entry) → not (is_empty (kept ++ e ∷ [])) ≡ true
some_more [] e = refl
some_more (x ∷ kept) e = refl

any_more : (test : Entry → Bool) (kept : List Entry) (e : Entry) → list_any test (kept ++ e ∷ []) ≡ (list_any test kept || test e)
any_more test kept e = list_any-append test kept (e ∷ []) ∙ ap (λ (b : Bool). list_any test kept || b) (or_false (test e)) where
  or_false : (b : Bool) → (b || false) ≡ b
  or_false true = refl
  or_false false = refl

below_max : (page a b : ℕ) → nat_lt page (max a b) ≡ (nat_lt page a || nat_lt page b)
below_max page a b = go (nat_lt page a) (nat_lt page b) refl refl where
  go : (x y : Bool) → nat_lt page a ≡ x → nat_lt page b ≡ y → nat_lt page (max a b) ≡ (x || y)
  go true y p q = lt-ltb page (max a b) (let lt = ltb-true page a p in omega (arith, lt))
  go false true p q = lt-ltb page (max a b) (let lt = ltb-true page b q in omega (arith, lt))
  go false false p q = le-ltb page (max a b) (let le = ltb-false page a p in let ge = ltb-false page b q in omega (arith, le, ge))

below_if : (page first past end : ℕ) → past ≡ end → nat_lt (max page first) past ≡ nat_lt page (if nat_lt first end then end else 0)
below_if page first past end same = go (nat_lt first end) refl (nat_lt (max page first) past) refl where
  go : (b : Bool) → nat_lt first end ≡ b → (c : Bool) → nat_lt (max page first) past ≡ c → c ≡ nat_lt page (cond b end 0)
  go true p true q =
      sym (lt-ltb page end (let lt = ltb-true (max page first) past q in omega (arith, lt, same)))
  go true p false q =
      sym (le-ltb page end (let lt = ltb-true first end p in let ge = ltb-false (max page first) past q in omega (arith, lt, ge, same)))
  go false p true q =
      absurd (let ge = ltb-false first end p in let lt = ltb-true (max page first) past q in omega (arith, lt, ge, same))
  go false p false q = sym (le-ltb page 0 (omega arith))

pub from_reach : (block page : ℕ) (item : Item) → covers_from block page item ≡ nat_lt page (reach block item)
from_reach block page (Init kind mode) = sym (le-ltb page 0 (omega arith))
from_reach block page (Write first run size) =
    below_if page first (min (first + run.len) 65536) (min 65536 (first + run.len)) (omega arith)
from_reach block page (SetSize size) = below_if page (pages_for block size) 65536 65536 refl
from_reach block page (SetMode mode) = sym (le-ltb page 0 (omega arith))
from_reach block page (Bind name to) = sym (le-ltb page 0 (omega arith))
from_reach block page (Unbind name) = sym (le-ltb page 0 (omega arith))
from_reach block page Gone = refl

touched_absent : (b : Bool) → touches (cond b Absent Untouched) ≡ b
touched_absent true = refl
touched_absent false = refl

touched_present : (b : Bool) (value : Datum) → touches (cond b (Present value) Untouched) ≡ b
touched_present true value = refl
touched_present false value = refl

touched_name : (block : ℕ) (item : Item) (name : List ℕ) → covers block item (NameKey name) ≡ (ends_all item || is_of_name item name)
touched_name block (Init kind mode) name = refl
touched_name block (Write first run size) name = refl
touched_name block (SetSize size) name = refl
touched_name block (SetMode mode) name = refl
touched_name block (Bind other to) name = touched_present (same_name other name) _
touched_name block (Unbind other) name = touched_absent (same_name other name)
touched_name block Gone name = refl

four : (a b c d : Bool) → ((a || b) || (c || d)) ≡ ((a || c) || (b || d))
four true b c d = refl
four false true true d = refl
four false true false d = refl
four false false c d = refl

pub adds : (block : ℕ) (kept : List Entry) (e : Entry) (old new : Cover) → Covers block kept old → AddsItem block e.item old new
    → Covers block (kept ++ e ∷ []) new
adds block kept e old new h a = record {
  some = a.some ∙ sym (some_more kept e);
  pages = λ page.
      ap (λ (n : ℕ). nat_lt page n) a.reach ∙ below_max page old.reach (reach block e.item)
      ∙ ap (λ (b : Bool). b || nat_lt page (reach block e.item)) (h.pages page)
      ∙ ap (λ (b : Bool). list_any (λ (x : Entry). covers_from block page x.item) kept || b) (sym (from_reach block page e.item))
      ∙ sym (any_more (λ (x : Entry). covers_from block page x.item) kept e);
  names = λ name.
      ap (λ (b : Bool). b || has_name new name) a.gone ∙ ap (λ (b : Bool). (old.gone || ends_all e.item) || b) (a.names name)
      ∙ four old.gone (ends_all e.item) (has_name old name) (is_of_name e.item name)
      ∙ ap (λ (b : Bool). b || (ends_all e.item || is_of_name e.item name)) (h.names name)
      ∙ ap (λ (b : Bool). list_any (λ (x : Entry). covers block x.item (NameKey name)) kept || b) (sym (touched_name block e.item name))
      ∙ sym (any_more (λ (x : Entry). covers block x.item (NameKey name)) kept e);
}

-- ---- the names

pub inserted : (k n h : Bool) → k ≡ n → cond k true h ≡ (h || n)
inserted true n h e = sym (ap (λ (b : Bool). h || b) (sym e) ∙ or_true h) where
  or_true : (b : Bool) → (b || true) ≡ true
  or_true true = refl
  or_true false = refl
inserted false n h e = sym (ap (λ (b : Bool). h || b) (sym e) ∙ or_none h) where
  or_none : (b : Bool) → (b || false) ≡ b
  or_none true = refl
  or_none false = refl
