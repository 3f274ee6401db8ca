-- The pages of a node.
use Rattle.std.proofs.Common.{add-one, add-zero, zero-add, zero, suc, ◌≡◌, ℕ, ◌+◌, ◌<◌, ◌≤◌, ◌&&◌, Bool, true, false, cond, nat_lt, nat_le, List, [], ◌∷◌, ◌++◌, None, arith, refl, ap, sym, ◌∙◌}
use Rattle.std.specs.List.{flat_map, range_with_len}
use Rattle.std.proofs.lemmas.Bool.{le-ltb, ltb-true, and_right}
use Rattle.std.proofs.lemmas.Grind.{flat_map-append}
use Rattle.std.proofs.lemmas.List.{append-nil}
use Rattle.nv_entry.specs.declared.item.Entry.{Entry}
use Rattle.nv_entry.specs.declared.item.Item.{Item}
use Rattle.nv_entry.specs.declared.item.Item.TheVariants.{Init, Write, SetSize, SetMode, Bind, Unbind, Gone}
use Rattle.nv_entry.specs.declared.key.Datum.{Datum}
use Rattle.nv_entry.specs.declared.key.Setting.TheVariants.{Untouched, Absent, Present}
use Rattle.nv_entry.specs.Keys.{IsFileKey, Key, KindKey, ModeKey, NameKey, PageKey, SizeKey, is_page, in_run, is_past, pages_for, sets}
use Rattle.nv_entry.specs.Log.{last_setting}
use Rattle.nv_entry.specs.Node.{block_now}

choice_false : {A : Type 0} (b : Bool) (x y : A) → b ≡ false → cond b x y ≡ y
choice_false true x y h = cc
choice_false false x y h = refl

-- a file has no page from 65,536 on
untouched_past : (block page : ℕ) (item : Item) → is_page page ≡ false → sets block item (PageKey page) ≡ Untouched
untouched_past block page (Write first run size) h =
    choice_false (in_run first run page) _ Untouched (and_right (nat_le first page && nat_lt page (first + run.len)) (is_page page) h)
untouched_past block page (SetSize size) h =
    choice_false (is_past block size page) Absent Untouched (and_right (nat_le (pages_for block size) page) (is_page page) h)
untouched_past block page Gone h = choice_false (is_page page) Absent Untouched h
untouched_past block page (Init kind mode) h = refl
untouched_past block page (SetMode mode) h = refl
untouched_past block page (Bind name to) h = refl
untouched_past block page (Unbind name) h = refl

-- an item sets no other pages to a value
pub present_in_file : (block : ℕ) (item : Item) (key : Key) (value : Datum) → sets block item key ≡ Present value → IsFileKey key
present_in_file block item KindKey value h = tt
present_in_file block item ModeKey value h = tt
present_in_file block item SizeKey value h = tt
present_in_file block item (NameKey name) value h = tt
present_in_file block item (PageKey page) value h = go (is_page page) refl where
  go : (b : Bool) → is_page page ≡ b → page < 65536
  go true q = ltb-true page 65536 q
  go false q = let none = untouched_past block page item q in cc

last_setting-past : (block page : ℕ) (log : List Entry) → is_page page ≡ false → last_setting block log (PageKey page) ≡ Untouched
last_setting-past block page [] h = refl
last_setting-past block page (e ∷ log) h = rw (untouched_past block page e.item h) (rw (last_setting-past block page log h) refl)

pub block_now-past : (block page : ℕ) (log : List Entry) → 65536 ≤ page → block_now block log page ≡ None
block_now-past block page log h = rw (last_setting-past block page log (le-ltb page 65536 h)) refl

range-suc : (a n : ℕ) → range_with_len a (suc n) ≡ range_with_len a n ++ (a + n) ∷ []
range-suc a zero = ap (λ x. x ∷ []) (sym (add-zero a))
range-suc a (suc n) = ap (λ xs. a ∷ xs) (range-suc (a + 1) n ∙ ap (λ x. range_with_len (a + 1) n ++ x ∷ []) (omega arith))

-- one more page, behind the others
pub pages-more : (page : ℕ → List ℕ) (count : ℕ)
    → flat_map page (range_with_len 0 (count + 1)) ≡ flat_map page (range_with_len 0 count) ++ page count
pages-more page count =
    rw add-one (ap (flat_map page) (range-suc 0 count)
    ∙ flat_map-append page (range_with_len 0 count) ((0 + count) ∷ [])
    ∙ ap (λ xs. flat_map page (range_with_len 0 count) ++ xs) (append-nil (page (0 + count)) ∙ ap page (zero-add count)))
