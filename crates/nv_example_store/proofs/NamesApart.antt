-- Names of one directory lead to different nodes, and none of them leads to the root.
use Rattle.std.proofs.Common.{◌≡◌, ◌≢◌, ◌⊎◌, ◌∙◌, ◌<◌, ℕ, zero, suc, true, false, List, ap, arith, get_or, inl, inr, Option, Some, refl, sym}
use Rattle.std.specs.Prelude.{not}
use Rattle.std.specs.List.{AllPairs, Contains}
use Rattle.std.proofs.lemmas.List.{get_or_default}
use Rattle.nv_base.specs.Names.{same_name}
use Rattle.nv_base.specs.declared.numbers.Handle.{Handle}
use Rattle.nv_entry.specs.Index.{bound_to, without}
use Rattle.nv_entry.specs.Tree.{names_under, root}
use Rattle.nv_entry.specs.declared.names.BoundName.{BoundName}
use Rattle.nv_entry.specs.declared.node.NodeCopy.{NodeCopy}
use Rattle.nv_entry.proofs.Hiding.{same_name-self}
use Rattle.nv_machine.specs.Directories.{AreApart, AreTree}
use Rattle.nv_machine.proofs.DirectoriesChanged.{found_in}
use Rattle.nv_machine.proofs.DirectoriesStay.{contains_filter}

-- which of two places is first
places : (i j : ℕ) → (i < j) ⊎ ((j < i) ⊎ (i ≡ j))
places i j = order i j where
  order : (a b : ℕ) → (a < b) ⊎ ((b < a) ⊎ (a ≡ b))
  order zero zero = inr (inr refl)
  order zero (suc b) = inl (omega arith)
  order (suc a) zero = inr (inl (omega arith))
  order (suc a) (suc b) = next (order a b) where
    next : (a < b) ⊎ ((b < a) ⊎ (a ≡ b)) → (suc a < suc b) ⊎ ((suc b < suc a) ⊎ (suc a ≡ suc b))
    next (inl lt) = inl (omega (arith, lt))
    next (inr (inl lt)) = inr (inl (omega (arith, lt)))
    next (inr (inr same)) = inr (inr (ap (λ n. suc n) same))

-- two names of a list of which no two are alike
pub apart_names : (names : List BoundName) → AllPairs AreApart names → (a b : BoundName) → Contains names a → Contains names b
    → a.name ≢ b.name → a.to ≢ b.to
apart_names names apart a b (i, below_i, is_a) (j, below_j, is_b) differ = go (places i j) where
  go : (i < j) ⊎ ((j < i) ⊎ (i ≡ j)) → a.to ≢ b.to
  go (inl lt) same =
      let pair : AreApart (get_or names i a) (get_or names j a) = apart i j a lt below_j in
      let second : get_or names j a ≡ b = get_or_default names j a b below_j ∙ is_b in
      pair.1 (ap (λ (n : BoundName). n.to) is_a ∙ same ∙ ap (λ (n : BoundName). n.to) (sym second))
  go (inr (inl lt)) same =
      let pair : AreApart (get_or names j a) (get_or names i a) = apart j i a lt below_i in
      let second : get_or names j a ≡ b = get_or_default names j a b below_j ∙ is_b in
      pair.1 (ap (λ (n : BoundName). n.to) second ∙ sym same ∙ ap (λ (n : BoundName). n.to) (sym is_a))
  go (inr (inr here)) same =
      let second : get_or names j a ≡ b = get_or_default names j a b below_j ∙ is_b in
      differ (ap (λ (n : BoundName). n.name) (sym is_a ∙ ap (λ (k : ℕ). get_or names k a) here ∙ second))

-- ---- in a tree

module _ (nodes : Handle → Option NodeCopy) (tree : AreTree nodes) where
  abbrev names : List BoundName
  names = names_under nodes root

  -- a name of the root leads to another node than the root
  pub below_root : (b : BoundName) → Contains names b → b.to ≢ root
  below_root b at same = tree.one_name.unnamed root (b, at, same)

  -- one that is left without a name has another name
  pub has_other : (name : List ℕ) (b : BoundName) → Contains (without name names) b → Contains names b × (b.name ≢ name)
  has_other name b at =
      let kept = contains_filter (λ (bound : BoundName). not (same_name name bound.name)) names b at in
      (kept.0, λ same. differs name b.name kept.1 same) where
        differs : (one other : List ℕ) → not (same_name one other) ≡ true → other ≡ one → ⊥
        differs one other is same =
            let alike : same_name one other ≡ true = ap (same_name one) same ∙ same_name-self one in
            let z : false ≡ true = sym (ap not alike) ∙ is in cc

  -- so it leads to another node than that name
  pub leads_elsewhere : (name : List ℕ) (to : Handle) (b : BoundName) → bound_to name names ≡ Some to → Contains names b
      → b.name ≢ name → b.to ≢ to
  leads_elsewhere name to b bound at differ =
      let found : BoundName = record { name = name; to = to } in
      apart_names names (tree.one_name.apart root) b found at (found_in name names to bound) differ
