-- Which entries may leave a log, by what is covered alone, and what that leaves as it was.
use Rattle.std.specs.Prelude.{◌≡◌, ℕ, Bool, true, false, List, [], ◌∷◌, ◌++◌}
use Rattle.nv_entry.specs.declared.item.Entry.{Entry}
use Rattle.nv_entry.specs.declared.key.Setting.TheVariants.{Absent}
use Rattle.nv_entry.specs.Clean.{select}
use Rattle.nv_entry.specs.Covered.{any_cover, covered_parts}
use Rattle.nv_entry.specs.Index.{names_of, page_source}
use Rattle.nv_entry.specs.Keys.{Key, sets}
use Rattle.nv_entry.specs.Laws.{is_present}
use Rattle.nv_entry.specs.Log.{value_now}
use Rattle.nv_entry.specs.Refs.{scan_ref}

-- none of the earlier entries covers a key that the entry sets to absent
abbrev pub HidesNone : ℕ → List Entry → Entry → Type 0
HidesNone block before e = (key : Key) → sets block e.item key ≡ Absent → any_cover block before key ≡ false

-- an entry may leave its log; `before` are the earlier entries that stay
pub record MayLeave (block : ℕ) (before : List Entry) (e : Entry) (later : List Entry) : Type 0 where
  -- each key that it sets to a value is covered later
  pub dead : (key : Key) → is_present (sets block e.item key) ≡ true → any_cover block later key ≡ true
  -- no earlier entry that stays covers a key that it sets to absent
  pub hides_nothing : HidesNone block before e

-- each of the entries to come that goes may leave, with the earlier ones gone;
-- `before` are those that stay before them
abbrev pub MayAllLeave : ℕ → List Entry → List Entry → List Bool → Type 0
MayAllLeave block before [] [] = Unit {0}
MayAllLeave block before [] (stays ∷ flags) = ⊥
MayAllLeave block before (e ∷ later) [] = ⊥
MayAllLeave block before (e ∷ later) (true ∷ flags) = MayAllLeave block (before ++ e ∷ []) later flags
MayAllLeave block before (e ∷ later) (false ∷ flags) = MayLeave block before e later × MayAllLeave block before later flags

-- what flags leave of a log says what the log said
pub record KeepsTheRest (block : ℕ) (log : List Entry) (flags : List Bool) : Type 0 where
  -- each key has the value that it had
  pub values : (key : Key) → value_now block (select flags log) key ≡ value_now block log key
  -- each key is held by the part that held it
  pub index : (key : Key) → scan_ref block (select flags log) key ≡ scan_ref block log key
  -- each page stands in the entry and the block that it stood in
  pub sources : (page : ℕ) → page_source block (select flags log) page ≡ page_source block log page
  -- the same names are bound, in the same order
  pub names : names_of (select flags log) ≡ names_of log
  -- each part that is left is covered exactly where it was
  pub covered : covered_parts block (select flags log) ≡ select flags (covered_parts block log)
