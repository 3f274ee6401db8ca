-- The parts of an item are the keys that it sets to a value, in order.
use Rattle.std.proofs.Common.{◌≡◌, ℕ, zero, suc, ◌+◌, ◌-◌, ◌<◌, ◌≤◌, ◌⊎◌, inl, inr, Bool, true, false, cond, min, map, arith, refl, ap}
use Rattle.std.specs.List.{AllByRecursion, range_with_len}
use Rattle.std.proofs.lemmas.Bool.{cases_lt}
use Rattle.nv_base.specs.Names.{same_name}
use Rattle.nv_entry.specs.declared.item.Item.{Item}
use Rattle.nv_entry.specs.declared.item.Item.TheVariants.{Init, Write, SetSize, SetMode, Bind, Unbind, Gone}
use Rattle.nv_entry.specs.declared.item.BlockRun.{BlockRun}
use Rattle.nv_entry.specs.declared.key.Datum.{Datum}
use Rattle.nv_entry.specs.declared.key.Datum.TheVariants as datum
use Rattle.nv_entry.specs.declared.key.Setting.{Setting}
use Rattle.nv_entry.specs.declared.key.Setting.TheVariants.{Untouched, Absent, Present}
use Rattle.nv_entry.specs.declared.part.Part.TheVariants as part
use Rattle.nv_entry.specs.Keys.{Key, KindKey, ModeKey, SizeKey, NameKey, PageKey, in_run, is_page, is_past, key_of, parts_of, sets}
use Rattle.nv_entry.specs.Laws.{IsKeyOfPart, PartsAreSet, PartsRise, SetsAreParts, is_present, part_rank}
use Rattle.nv_entry.proofs.Hiding.{run_from, run_parts, same_name-equal, same_name-self}
use Rattle.nv_entry.proofs.PartLists.{page_at}

pages_set : (block first : ℕ) (run : BlockRun) (size a n : ℕ) → first ≤ a → a + n ≤ min (first + run.len) 65536
    → AllByRecursion (λ p. is_present (sets block (Write first run size) (key_of (Write first run size) p)) ≡ true)
    (map part.Page (range_with_len a n))
pages_set block first run size a zero low high = tt
pages_set block first run size a (suc n) low high =
    let inside : in_run first run a ≡ true = run_from first run a low (omega arith) (omega arith) in
    (rw inside refl, pages_set block first run size (a + 1) n (omega arith) (omega arith))

pub parts_are_set : (block : ℕ) (item : Item) → PartsAreSet block item
parts_are_set block (Init kind mode) = (refl, (refl, (refl, tt)))
parts_are_set block (Write first run size) = (refl, go (cases_lt first 65536)) where
  go : (first < 65536) ⊎ (65536 ≤ first)
      → AllByRecursion (λ p. is_present (sets block (Write first run size) (key_of (Write first run size) p)) ≡ true)
      (map part.Page (range_with_len first (min run.len (65536 - first))))
  go (inl lt) = pages_set block first run size first (min run.len (65536 - first)) (omega arith) (omega arith)
  go (inr le) = let none : min run.len (65536 - first) ≡ 0 = omega arith in rw none tt
parts_are_set block (SetSize size) = (refl, tt)
parts_are_set block (SetMode mode) = (refl, tt)
parts_are_set block (Bind name to) = (rw (same_name-self name) refl, tt)
parts_are_set block (Unbind name) = tt
parts_are_set block Gone = tt

-- ---- and the other way round

present_if : (b : Bool) (value d : Datum) → cond b (Present value) Untouched ≡ Present d → b ≡ true
present_if true value d h = refl
present_if false value d h = cc

absent_if : {A : Type 0} (b : Bool) (d : Datum) → cond b Absent Untouched ≡ Present d → A
absent_if true d h = cc
absent_if false d h = cc

-- a key that an item sets to a value is the key of one of its parts
pub part_with : (block : ℕ) (item : Item) (key : Key) (d : Datum) → sets block item key ≡ Present d → IsKeyOfPart item key
part_with block (Init kind mode) KindKey d s = record { place = 0; part = part.Kind; at = refl; key_is = refl }
part_with block (Init kind mode) ModeKey d s = record { place = 1; part = part.Mode; at = refl; key_is = refl }
part_with block (Init kind mode) SizeKey d s = record { place = 2; part = part.Size; at = refl; key_is = refl }
part_with block (Init kind mode) (NameKey name) d s = cc
part_with block (Init kind mode) (PageKey page) d s = cc
part_with block (Write first run size) SizeKey d s = record { place = 0; part = part.Size; at = refl; key_is = refl }
part_with block (Write first run size) (PageKey page) d s =
    let q = run_parts first run page (present_if (in_run first run page) (datum.Block (run.start + (page - first))) d s) in
    let same : first + (page - first + 1 - 1) ≡ page = omega (arith, q) in
    record {
      place = page - first + 1;
      part = part.Page (first + (page - first + 1 - 1));
      at = page_at first run (page - first + 1) (omega arith) (omega (arith, q));
      key_is = ap PageKey same;
    }
part_with block (Write first run size) KindKey d s = cc
part_with block (Write first run size) ModeKey d s = cc
part_with block (Write first run size) (NameKey name) d s = cc
part_with block (SetSize size) SizeKey d s = record { place = 0; part = part.Size; at = refl; key_is = refl }
part_with block (SetSize size) KindKey d s = cc
part_with block (SetSize size) ModeKey d s = cc
part_with block (SetSize size) (NameKey name) d s = cc
part_with block (SetSize size) (PageKey page) d s = absent_if (is_past block size page) d s
part_with block (SetMode mode) ModeKey d s = record { place = 0; part = part.Mode; at = refl; key_is = refl }
part_with block (SetMode mode) KindKey d s = cc
part_with block (SetMode mode) SizeKey d s = cc
part_with block (SetMode mode) (NameKey name) d s = cc
part_with block (SetMode mode) (PageKey page) d s = cc
part_with block (Bind name to) (NameKey other) d s = record {
  place = 0;
  part = part.Bound;
  at = refl;
  key_is = ap NameKey (same_name-equal name other (present_if (same_name name other) (datum.Node to) d s));
}
part_with block (Bind name to) KindKey d s = cc
part_with block (Bind name to) ModeKey d s = cc
part_with block (Bind name to) SizeKey d s = cc
part_with block (Bind name to) (PageKey page) d s = cc
part_with block (Unbind name) (NameKey other) d s = absent_if (same_name name other) d s
part_with block (Unbind name) KindKey d s = cc
part_with block (Unbind name) ModeKey d s = cc
part_with block (Unbind name) SizeKey d s = cc
part_with block (Unbind name) (PageKey page) d s = cc
part_with block Gone KindKey d s = cc
part_with block Gone ModeKey d s = cc
part_with block Gone SizeKey d s = cc
part_with block Gone (NameKey name) d s = cc
part_with block Gone (PageKey page) d s = absent_if (is_page page) d s

pub sets_are_parts : (block : ℕ) (item : Item) → SetsAreParts block item
sets_are_parts block item key h = go (sets block item key) refl where
  go : (s : Setting) → sets block item key ≡ s → IsKeyOfPart item key
  go Untouched q = let z : false ≡ true = rw q at h in cc
  go Absent q = let z : false ≡ true = rw q at h in cc
  go (Present d) q = part_with block item key d q

-- ---- the order of parts

pages_above : (least a n : ℕ) → least < 4 + a → AllByRecursion (λ q. least < part_rank q) (map part.Page (range_with_len a n))
pages_above least a zero lt = tt
pages_above least a (suc n) lt = (lt, pages_above least (a + 1) n (omega (arith, lt)))

pages_rise : (a n : ℕ) → PartsRise (map part.Page (range_with_len a n))
pages_rise a zero = tt
pages_rise a (suc n) = (pages_above (4 + a) (a + 1) n (omega arith), pages_rise (a + 1) n)

pub parts_rise : (item : Item) → PartsRise (parts_of item)
parts_rise (Init kind mode) = ((omega arith, (omega arith, tt)), ((omega arith, tt), (tt, tt)))
parts_rise (Write first run size) =
    (pages_above 2 first (min run.len (65536 - first)) (omega arith), pages_rise first (min run.len (65536 - first)))
parts_rise (SetSize size) = (tt, tt)
parts_rise (SetMode mode) = (tt, tt)
parts_rise (Bind name to) = (tt, tt)
parts_rise (Unbind name) = tt
parts_rise Gone = tt
