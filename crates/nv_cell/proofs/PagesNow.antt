-- The block of a page by the number of the part that holds it.
use Rattle.std.proofs.Common.{◌≡◌, ℕ, ◌+◌, ◌-◌, ◌<◌, Bool, true, false, cond, nat_lt, List, [], ◌∷◌, ◌++◌, Option, Some, None, arith, refl, ap, sym, ◌∙◌}
use Rattle.std.specs.Prelude.{option_and_then}
use Rattle.std.specs.Option.{option_map}
use Rattle.std.proofs.lemmas.Bool.{ltb-false, lt-ltb, le-ltb}
use Rattle.nv_entry.specs.declared.item.Entry.{Entry}
use Rattle.nv_entry.specs.declared.key.Setting.{Setting}
use Rattle.nv_entry.specs.declared.key.Setting.TheVariants.{Untouched, Absent, Present}
use Rattle.nv_entry.specs.Covered.{any_cover, part_count, part_total}
use Rattle.nv_entry.specs.Data.{block_in}
use Rattle.nv_entry.specs.Keys.{Key, sets, touches}
use Rattle.nv_entry.specs.Laws.{is_present}
use Rattle.nv_entry.specs.Log.{last_setting, later_of, value_of}
use Rattle.nv_entry.specs.Refs.{place_in}
use Rattle.nv_entry.proofs.Covering.{touched}
use Rattle.nv_cell.specs.Cell.{page_block}
use Rattle.nv_cell.proofs.Numbers.{scan_n}
use Rattle.nv_cell.proofs.Placing.{place_key}

-- the blocks of the first entries' pages
pub front_block : (block : ℕ) (xs ys : List Entry) (n : ℕ) → n < part_total xs → page_block block (xs ++ ys) n ≡ page_block block xs n
front_block block [] ys n lt = absurd (omega arith)
front_block block (x ∷ xs) ys n lt = go (nat_lt n (part_count x)) refl (λ l. front_block block xs ys (n - part_count x) l) where
  go : (b : Bool) → nat_lt n (part_count x) ≡ b
      → (n - part_count x < part_total xs
      → page_block block (xs ++ ys) (n - part_count x) ≡ page_block block xs (n - part_count x))
      → page_block block (x ∷ (xs ++ ys)) n ≡ page_block block (x ∷ xs) n
  go true q rec = rw q refl
  go false q rec = rw q (rec (omega (arith, lt, ltb-false n (part_count x) q)))

abbrev block_by : Setting → Option ℕ
block_by s = option_and_then block_in (value_of s)

shifted : (block : ℕ) (e : Entry) (later : List Entry) (o : Option ℕ)
    → option_and_then (page_block block (e ∷ later)) (option_map (λ m. part_count e + m) o) ≡ option_and_then (page_block block later) o
shifted block e later None = refl
shifted block e later (Some m) =
    let past : nat_lt (part_count e + m) (part_count e) ≡ false = le-ltb (part_count e + m) (part_count e) (omega arith) in
    let back : part_count e + m - part_count e ≡ m = omega arith in
    rw (past, back) refl

-- the block that the last setting of a key gives is that of the key's part in the scan
pub block_scanned : (block : ℕ) (log : List Entry) (key : Key)
    → block_by (last_setting block log key) ≡ option_and_then (page_block block log) (scan_n block log key)
block_scanned block [] key = refl
block_scanned block (e ∷ later) key = go (any_cover block later key) refl (block_scanned block later key) where
  own : (s : Setting) → sets block e.item key ≡ s
      → block_by s ≡ option_and_then (page_block block (e ∷ later)) (cond (is_present s) (Some (place_in e.item key)) None)
  own Untouched q = refl
  own Absent q = refl
  own (Present v) q =
      let p = place_key block e.item key (ap is_present q) in
      let low : nat_lt (place_in e.item key) (part_count e) ≡ true = lt-ltb (place_in e.item key) (part_count e) p.0 in
      rw (low, p.1, q) refl

  last : (s l : Setting) → touches l ≡ true → later_of s l ≡ l
  last s Untouched h = cc
  last s Absent h = refl
  last s (Present v) h = refl

  first : (s l : Setting) → touches l ≡ false → later_of s l ≡ s
  first s Untouched h = refl
  first s Absent h = cc
  first s (Present v) h = cc

  go : (b : Bool) → any_cover block later key ≡ b
      → block_by (last_setting block later key) ≡ option_and_then (page_block block later) (scan_n block later key)
      → block_by (last_setting block (e ∷ later) key) ≡ option_and_then (page_block block (e ∷ later)) (scan_n block (e ∷ later) key)
  go true q ih =
      rw (last (sets block e.item key) (last_setting block later key) (touched block later key ∙ q), q)
      (ih ∙ sym (shifted block e later (scan_n block later key)))
  go false q ih =
      rw (first (sets block e.item key) (last_setting block later key) (touched block later key ∙ q), q)
      (own (sets block e.item key) refl)
