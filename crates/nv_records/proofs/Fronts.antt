-- Lists that are put together in steps, and what a step that fails leaves.
use Rattle.std.proofs.Common.{◌≡◌, ℕ, List, [], ◌∷◌, ◌++◌, length, take, drop, append_assoc, arith, refl, sym, ap, ◌∙◌}
use Rattle.std.proofs.lemmas.List.{take_all, take_at, take-append-drop}
use Rattle.nv_records.specs.Appending.{HasFront}

-- a list begins as itself
pub front_same : (old new : List ℕ) → new ≡ old → HasFront old new
unfolding HasFront
front_same old new e = rw e (take_all (length old) old (omega arith))

-- what begins as a longer list begins as its front
pub front_before : (old more mid new : List ℕ) → mid ≡ old ++ more
    → HasFront mid new → HasFront old new
unfolding HasFront
front_before old more mid new e h =
    let behind = drop (length mid) new in
    let whole : new ≡ old ++ (more ++ behind) =
    sym (take-append-drop (length mid) new) ∙ ap (λ x. x ++ behind) (h ∙ e)
    ∙ append_assoc old more behind in
    ap (take (length old)) whole ∙ take_at old (more ++ behind) (length old) refl

pub two : (o a b : List ℕ) (t : ℕ) → (o ++ t ∷ a) ++ b ≡ o ++ t ∷ (a ++ b)
two o a b t = simp append_assoc
