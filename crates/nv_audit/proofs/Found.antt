-- The first block of a number in a list of places.
use Rattle.std.proofs.Common.{◌≡◌, ℕ, ◌+◌, ◌<◌, ◌≤◌, ◌++◌, Bool, true, false, cond, List, ◌∷◌, length, drop, get_or, Option, None, Some, refl, ap, sym, ◌∙◌}
use Rattle.std.specs.Prelude.{option_to_list}
use Rattle.std.specs.List.{flat_map}
use Rattle.std.proofs.lemmas.Bool.{false≢true}
use Rattle.std.proofs.lemmas.List.{drop_all, drop_more}
use Rattle.nv_alloc.specs.Block.{BlockValue, block_by}
use Rattle.nv_audit.specs.MountedLogs.{is_at_place}

here : (place : Option BlockValue) (rest : List BlockValue) (number : ℕ) → is_at_place place number ≡ true
    → block_by (option_to_list place ++ rest) number ≡ place
here None rest number e = absurd (false≢true e)
here (Some b) rest number e = ap (λ (t : Bool). cond t (Some b) (block_by rest number)) e

later : (place : Option BlockValue) (rest : List BlockValue) (number : ℕ) → is_at_place place number ≡ false
    → block_by (option_to_list place ++ rest) number ≡ block_by rest number
later None rest number e = refl
later (Some b) rest number e = ap (λ (t : Bool). cond t (Some b) (block_by rest number)) e

module _ (places : List (Option BlockValue)) (number : ℕ) where
  -- what is found from a place on
  abbrev pub found_from : ℕ → Option BlockValue
  found_from i = block_by (flat_map option_to_list (drop i places)) number

  pub found_none : (i : ℕ) → length places ≤ i → found_from i ≡ None
  found_none i past =
      ap (λ (ps : List (Option BlockValue)). block_by (flat_map option_to_list ps) number) (drop_all i places past)

  module _ (i : ℕ) (place : Option BlockValue) (lt : i < length places) (at : place ≡ get_or places i place) where
    behind : found_from i ≡ block_by (option_to_list place ++ flat_map option_to_list (drop (i + 1) places)) number
    behind =
        ap (λ (ps : List (Option BlockValue)). block_by (flat_map option_to_list ps) number)
        (drop_more places i place lt ∙ ap (λ (p : Option BlockValue). p ∷ drop (i + 1) places) (sym at))

    pub found_here : is_at_place place number ≡ true → found_from i ≡ place
    found_here is = behind ∙ here place (flat_map option_to_list (drop (i + 1) places)) number is

    pub found_later : is_at_place place number ≡ false → found_from i ≡ found_from (i + 1)
    found_later other = behind ∙ later place (flat_map option_to_list (drop (i + 1) places)) number other
