-- What a name is bound to once another one was bound or taken away.
use Rattle.std.proofs.Common.{◌≡◌, ◌≢◌, ◌∙◌, ◌⊎◌, ◌<◌, ◌++◌, ℕ, zero, suc, Bool, true, false, List, [], ◌∷◌, ap, arith, get_or, inl, inr, Option, Some, None, refl, sym}
use Rattle.std.specs.Prelude.{if◌then◌else◌}
use Rattle.std.specs.List.{AllPairs, Contains}
use Rattle.std.proofs.lemmas.List.{get_or_default}
use Rattle.nv_base.specs.Names.{same_name}
use Rattle.nv_base.specs.declared.numbers.Handle.{Handle}
use Rattle.nv_calls.specs.Plain.{with_names}
use Rattle.nv_entry.specs.Index.{bound_to, with_last, without}
use Rattle.nv_entry.specs.Tree.{names_of_node, names_under}
use Rattle.nv_entry.specs.declared.names.BoundName.{BoundName}
use Rattle.nv_entry.specs.declared.node.NodeCopy.{NodeCopy}
use Rattle.nv_entry.proofs.Hiding.{same_name-equal, same_name-self}
use Rattle.nv_machine.specs.Directories.{AreApart, AreTree}
use Rattle.nv_machine.proofs.DirectoriesChanged.{found_in}

-- names that differ
pub other_name : (a b : List ℕ) → a ≢ b → same_name a b ≡ false
other_name a b differ = go (same_name a b) refl where
  go : (s : Bool) → same_name a b ≡ s → s ≡ false
  go true is = absurd (differ (same_name-equal a b is))
  go false is = refl

-- two names are one, or they differ
pub some_name_or_other : (a b : List ℕ) → (a ≡ b) ⊎ (a ≢ b)
some_name_or_other a b = go (same_name a b) refl where
  go : (t : Bool) → same_name a b ≡ t → (a ≡ b) ⊎ (a ≢ b)
  go true is = inl (same_name-equal a b is)
  go false is = inr (λ same. let z : true ≡ false = sym (same_name-self a) ∙ ap (same_name a) same
      ∙ is in cc)

-- a name that left leaves the others
pub bound_left : (name other : List ℕ) (names : List BoundName) → other ≢ name
    → bound_to name (without other names) ≡ bound_to name names
bound_left name other [] differ = refl
bound_left name other (b ∷ names) differ = go (same_name other b.name) refl
    (bound_left name other names differ) where
      go : (s : Bool) → same_name other b.name ≡ s → bound_to name (without other names)
          ≡ bound_to name names
          → bound_to name (without other (b ∷ names)) ≡ bound_to name (b ∷ names)
      go true is rest =
          let here : other ≡ b.name = same_name-equal other b.name is in
          let not_it : same_name name b.name ≡ false =
          other_name name b.name (λ same. differ (here ∙ sym same)) in
          rw is (rest ∙ sym (ap (λ (t : Bool). if t then Some b.to else bound_to name names) not_it))
      go false is rest = rw is (ap (λ (r : Option Handle). if same_name name b.name then Some b.to else
          r) rest)

bound_front : (name : List ℕ) (front : List BoundName) (last : BoundName) → same_name name last.name
    ≡ false
    → bound_to name (front ++ last ∷ []) ≡ bound_to name front
bound_front name [] last differ = ap (λ (t : Bool). if t then Some last.to else None) differ
bound_front name (b ∷ front) last differ =
    ap (λ (r : Option Handle). if same_name name b.name then Some b.to else r)
    (bound_front name front last differ)

-- a name that was bound last leaves the others
pub bound_other : (name other : List ℕ) (to : Handle) (names : List BoundName) → other ≢ name
    → bound_to name (with_last other to names) ≡ bound_to name names
bound_other name other to names differ =
    bound_front name (without other names) (record { name = other; to = to })
    (other_name name other (λ same. differ (sym same)))
    ∙ bound_left name other names differ

-- the names of a directory that has other names
pub names_changed : (nodes after : Handle → Option NodeCopy) (dir : Handle)
    (f : List BoundName → List BoundName) (node : NodeCopy)
    → nodes dir ≡ Some node → after dir ≡ with_names f (nodes dir) → names_under after dir
    ≡ f (names_under nodes dir)
names_changed nodes after dir f node there is =
    ap names_of_node (is ∙ ap (with_names f) there)
    ∙ sym (ap (λ (n : Option NodeCopy). f (names_of_node n)) there)

-- ---- in a tree a node has one name

places : (i j : ℕ) → (i < j) ⊎ ((j < i) ⊎ (i ≡ j))
places zero zero = inr (inr refl)
places zero (suc b) = inl (omega arith)
places (suc a) zero = inr (inl (omega arith))
places (suc a) (suc b) = next (places a b) where
  next : (a < b) ⊎ ((b < a) ⊎ (a ≡ b)) → (suc a < suc b) ⊎ ((suc b < suc a) ⊎ (suc a ≡ suc b))
  next (inl lt) = inl (omega (arith, lt))
  next (inr (inl lt)) = inr (inl (omega (arith, lt)))
  next (inr (inr same)) = inr (inr (ap (λ n. suc n) same))

-- two names of a list of which no two are alike
one_name : (names : List BoundName) → AllPairs AreApart names → (a b : BoundName) → Contains names a
    → Contains names b
    → a.to ≡ b.to → a.name ≡ b.name
one_name names apart a b (i, below_i, is_a) (j, below_j, is_b) same = go (places i j) where
  go : (i < j) ⊎ ((j < i) ⊎ (i ≡ j)) → a.name ≡ b.name
  go (inl lt) =
      let pair : AreApart (get_or names i a) (get_or names j a) = apart i j a lt below_j in
      let second : get_or names j a ≡ b = get_or_default names j a b below_j ∙ is_b in
      absurd (pair.1 (ap (λ (n : BoundName). n.to) is_a ∙ same
      ∙ ap (λ (n : BoundName). n.to) (sym second)))
  go (inr (inl lt)) =
      let pair : AreApart (get_or names j a) (get_or names i a) = apart j i a lt below_i in
      let second : get_or names j a ≡ b = get_or_default names j a b below_j ∙ is_b in
      absurd (pair.1 (ap (λ (n : BoundName). n.to) second ∙ sym same
      ∙ ap (λ (n : BoundName). n.to) (sym is_a)))
  go (inr (inr here)) =
      let second : get_or names j a ≡ b = get_or_default names j a b below_j ∙ is_b in
      ap (λ (n : BoundName). n.name) (sym is_a ∙ ap (λ (k : ℕ). get_or names k a) here ∙ second)

abbrev leads : List ℕ → Handle → BoundName
leads name to = record { name = name; to = to }

-- two names that lead to one node are one, of one directory
pub one_place : (nodes : Handle → Option NodeCopy) → AreTree nodes
    → (dir other : Handle) (name more : List ℕ) (to : Handle)
    → bound_to name (names_under nodes dir) ≡ Some to → bound_to more (names_under nodes other)
    ≡ Some to
    → (dir ≡ other) × (name ≡ more)
one_place nodes tree dir other name more to first second =
    let at_first = found_in name (names_under nodes dir) to first in
    let at_second = found_in more (names_under nodes other) to second in
    let same : dir ≡ other = tree.one_name.one dir other to (leads name to, at_first, refl)
    (leads more to, at_second, refl) in
    let here : bound_to more (names_under nodes dir) ≡ Some to =
    ap (λ (d : Handle). bound_to more (names_under nodes d)) same ∙ second in (
      same,
      one_name (names_under nodes dir) (tree.one_name.apart dir) (leads name to) (leads more to)
          at_first
          (found_in more (names_under nodes dir) to here) refl,
    )
