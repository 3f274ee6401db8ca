-- Whether blocks have a size, one by one.
use Rattle.std.proofs.Common.{◌≡◌, ℕ, ◌+◌, ◌<◌, ◌≤◌, ◌++◌, List, [], ◌∷◌, length, drop, get_or, refl, ap, sym, subst, ◌∙◌}
use Rattle.std.specs.Prelude.{◌↔◌}
use Rattle.std.specs.List.{flat_map}
use Rattle.std.proofs.lemmas.List.{drop_all, drop_more}
use Rattle.nv_alloc.specs.Block.{AreSized, BlockValue}

module _ (size : ℕ) where
  both : (first later : List BlockValue) → AreSized size first → AreSized size later → AreSized size (first ++ later)
  both [] later are too = too
  both (b ∷ first) later are too = (are.0, both first later are.1 too)

  parts : (first later : List BlockValue) → AreSized size (first ++ later) → AreSized size first × AreSized size later
  parts [] later all = (tt, all)
  parts (b ∷ first) later all = let rest = parts first later all.1 in ((all.0, rest.0), rest.1)

  module _ {X : Type 0} (f : X → List BlockValue) (xs : List X) where
    -- those before a place have it, so that all have it just where the rest have
    abbrev pub AreSoFar : ℕ → Type 0
    AreSoFar i = AreSized size (flat_map f (drop i xs)) ↔ AreSized size (flat_map f xs)

    module _ (i : ℕ) (x : X) (lt : i < length xs) (at : x ≡ get_or xs i x) (so : AreSoFar i) where
      rest : drop i xs ≡ x ∷ drop (i + 1) xs
      rest = drop_more xs i x lt ∙ ap (λ (y : X). y ∷ drop (i + 1) xs) (sym at)

      split : AreSized size (flat_map f xs) → AreSized size (f x) × AreSized size (flat_map f (drop (i + 1) xs))
      split all =
          parts (f x) (flat_map f (drop (i + 1) xs)) (subst (λ (ys : List X). AreSized size (flat_map f ys)) rest (so.1 all))

      pub one_sized_more : AreSized size (f x) → AreSoFar (i + 1)
      one_sized_more is = (
        λ others. so.0 (subst (λ (ys : List X). AreSized size (flat_map f ys)) (sym rest) (both (f x) (flat_map f (drop (i + 1) xs)) is others)),
        λ all. (split all).1,
      )

      pub its_size : AreSized size (flat_map f xs) → AreSized size (f x)
      its_size all = (split all).0

    pub all_sized : (i : ℕ) → length xs ≤ i → AreSoFar i → AreSized size (flat_map f xs)
    all_sized i past so = so.0 (subst (λ (ys : List X). AreSized size (flat_map f ys)) (sym (drop_all i xs past)) tt)

-- blocks themselves
abbrev pub itself : BlockValue → List BlockValue
itself b = b ∷ []

pub all_themselves : (bs : List BlockValue) → flat_map itself bs ≡ bs
all_themselves [] = refl
all_themselves (b ∷ bs) = ap (λ (cs : List BlockValue). b ∷ cs) (all_themselves bs)
