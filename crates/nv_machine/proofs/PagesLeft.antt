-- What is left of a log whose pages go by flags: entries of it in their order, whatever the places are where its pages end.
use Rattle.std.proofs.Common.{◌≡◌, ◌∙◌, ℕ, zero, suc, ◌-◌, ◌++◌, Bool, true, false, List, [], ◌∷◌, ap, drop, if◌then◌else◌, length, refl, replicate, sym, take}
use Rattle.nv_log.specs.Chain.{joined, left_of, parts_from}
use Rattle.nv_log.proofs.Flags.{left_of-none}

module _ {X : Type 0} where
  -- the flags of items of a part stand before those of the parts behind it, and what is behind the last part goes
  front_left : (b : Bool) (n : ℕ) (flags : List Bool) (xs : List X)
      → left_of (replicate (length (take n xs)) b ++ flags) xs ≡ (if b then take n xs else []) ++ left_of flags (drop n xs)
  front_left true zero flags xs = refl
  front_left false zero flags xs = refl
  front_left true (suc n) flags [] = refl
  front_left false (suc n) flags [] = refl
  front_left true (suc n) flags (x ∷ xs) = ap (λ (l : List X). x ∷ l) (front_left true n flags xs)
  front_left false (suc n) flags (x ∷ xs) = front_left false n flags xs

  none_stay : (xs : List X) → left_of (replicate (length xs) false) xs ≡ []
  none_stay [] = refl
  none_stay (x ∷ xs) = none_stay xs

  -- a part stays or goes before what is left of the others
  abbrev IsLeftBy : List (List X) → List X → Type 0
  IsLeftBy parts xs = (flags : List Bool) × (joined parts ≡ left_of flags xs)

  part_left : (b : Bool) (n : ℕ) (xs : List X) (parts : List (List X)) → IsLeftBy parts (drop n xs)
      → IsLeftBy (if b then take n xs ∷ parts else parts) xs
  part_left true n xs parts rest = (
    replicate (length (take n xs)) true ++ rest.0,
    ap (λ (l : List X). take n xs ++ l) rest.1 ∙ sym (front_left true n rest.0 xs),
  )
  part_left false n xs parts rest =
      (replicate (length (take n xs)) false ++ rest.0, rest.1 ∙ sym (front_left false n rest.0 xs))

  pub parts_left : (start : ℕ) (flags : List Bool) (ends : List ℕ) (xs : List X)
      → IsLeftBy (left_of flags (parts_from start ends xs)) xs
  parts_left start flags [] xs = (replicate (length xs) false, ap joined (left_of-none (List X) flags) ∙ sym (none_stay xs))
  parts_left start [] (end ∷ ends) xs =
      let n = end - start in
      part_left true n xs (left_of [] (parts_from end ends (drop n xs))) (parts_left end [] ends (drop n xs))
  parts_left start (true ∷ flags) (end ∷ ends) xs =
      let n = end - start in
      part_left true n xs (left_of flags (parts_from end ends (drop n xs))) (parts_left end flags ends (drop n xs))
  parts_left start (false ∷ flags) (end ∷ ends) xs =
      let n = end - start in
      part_left false n xs (left_of flags (parts_from end ends (drop n xs))) (parts_left end flags ends (drop n xs))
