-- The places of an item's parts.
use Rattle.std.proofs.Common.{◌≡◌, ℕ, zero, suc, ◌+◌, ◌-◌, ◌<◌, true, ◌∷◌, length, map, Some, arith, refl, ap, sym, ◌∙◌}
use Rattle.std.specs.Prelude.{slice_get}
use Rattle.std.specs.Option.{option_map}
use Rattle.std.proofs.lemmas.Option.{same_Some, slice_get_within}
use Rattle.nv_entry.specs.declared.item.Item.{Item}
use Rattle.nv_entry.specs.declared.item.Item.TheVariants.{Init, Write, SetSize, SetMode, Bind, Unbind, Gone}
use Rattle.nv_entry.specs.declared.item.BlockRun.{BlockRun}
use Rattle.nv_entry.specs.declared.part.Part.{Part}
use Rattle.nv_entry.specs.declared.part.Part.TheVariants as part
use Rattle.nv_entry.specs.Keys.{Key, key_of, parts_of, run_pages, sets}
use Rattle.nv_entry.specs.Laws.{is_present}
use Rattle.nv_entry.specs.Refs.{IsPlaced, place_in}
use Rattle.nv_entry.proofs.PartLists.{length-written, page_at}
use Rattle.nv_entry.proofs.PartsSet.{sets_are_parts}

-- the key of a part of a list is at the part's place
abbrev KeyPlace : Item → ℕ → Part → Type 0
KeyPlace item n p = place_in item (key_of item p) ≡ n

page_place : (first : ℕ) (run : BlockRun) (size n : ℕ) (p : Part) → slice_get (map part.Page (run_pages first run)) n ≡ Some p
    → KeyPlace (Write first run size) (suc n) p
page_place first run size n p h =
    let lt : suc n < length (part.Size ∷ map part.Page (run_pages first run)) =
    slice_get_within (part.Size ∷ map part.Page (run_pages first run)) (suc n) p h in
    let at = page_at first run (suc n) (omega arith) (omega (arith, lt, length-written first run)) in
    let is : p ≡ part.Page (first + (suc n - 1)) = same_Some p (part.Page (first + (suc n - 1))) (sym h ∙ at) in
    rw is (let z : first + (suc n - 1) - first + 1 ≡ suc n = omega arith in z)

key_place : (item : Item) (n : ℕ) (p : Part) → slice_get (parts_of item) n ≡ Some p → KeyPlace item n p
key_place (Init kind mode) zero p h = let is : p ≡ part.Kind = cc in rw is refl
key_place (Init kind mode) (suc zero) p h = let is : p ≡ part.Mode = cc in rw is refl
key_place (Init kind mode) (suc (suc zero)) p h = let is : p ≡ part.Size = cc in rw is refl
key_place (Init kind mode) (suc (suc (suc n))) p h = cc
key_place (Write first run size) zero p h = let is : p ≡ part.Size = cc in rw is refl
key_place (Write first run size) (suc n) p h = page_place first run size n p h
key_place (SetSize size) zero p h = refl
key_place (SetSize size) (suc n) p h = cc
key_place (SetMode mode) zero p h = refl
key_place (SetMode mode) (suc n) p h = cc
key_place (Bind name to) zero p h = refl
key_place (Bind name to) (suc n) p h = cc
key_place (Unbind name) n p h = cc
key_place Gone n p h = cc

-- the part at the place of a key that an item sets to a value
pub record PartOf (item : Item) (key : Key) : Type 0 where
  pub part : Part
  pub at : slice_get (parts_of item) (place_in item key) ≡ Some part
  pub is_key : key_of item part ≡ key

pub part_of : (block : ℕ) (item : Item) (key : Key) → is_present (sets block item key) ≡ true → PartOf item key
part_of block item key h =
    let k = sets_are_parts block item key h in
    let same : place_in item key ≡ k.place = ap (place_in item) (sym k.key_is) ∙ key_place item k.place k.part k.at in
    record { part = k.part; at = ap (slice_get (parts_of item)) same ∙ k.at; is_key = k.key_is }

at_place : (block : ℕ) (item : Item) (key : Key) → is_present (sets block item key) ≡ true
    → option_map (key_of item) (slice_get (parts_of item) (place_in item key)) ≡ Some key
at_place block item key h = let p = part_of block item key h in ap (option_map (key_of item)) p.at ∙ ap (λ k. Some k) p.is_key

pub placed : (block : ℕ) (item : Item) → IsPlaced block item
placed block item = record { at = at_place block item; place = key_place item }
