-- Ways down from the root, where the directories form a tree.
use Rattle.std.proofs.Common.{◌≡◌, ℕ, zero, suc, ◌+◌, ◌<◌, ◌≤◌, ◌==◌, ◌||◌, List, [], ◌∷◌, length, map, Bool, true, false, Option, Some, None, IsSome, arith, refl, ap, sym, subst, ◌∙◌}
use Rattle.std.specs.List.{AllByRecursion, Contains, IsDistinct, list_any}
use Rattle.std.proofs.Math.Dec.{eqb}
use Rattle.std.proofs.lemmas.Bool.{eqb-true}
use Rattle.std.proofs.lemmas.List.{length-map}
use Rattle.std.proofs.lemmas.Map.Steps.{length-le_from_distinct_below}
use Rattle.nv_base.specs.declared.numbers.Handle.{Handle}
use Rattle.nv_entry.specs.Tree.{CutsNothing, FormTree, LeadsAt, names_under, root}
use Rattle.nv_entry.specs.declared.names.BoundName.{BoundName}
use Rattle.nv_entry.specs.declared.node.NodeCopy.{NodeCopy}
use Rattle.nv_reader.proofs.Depths.{none_cut}

-- a name of a directory leads to this handle
pub record IsEntered (nodes : Handle → Option NodeCopy) (dir handle : Handle) : Type 0 where
  pub place : ℕ
  pub bound : BoundName
  pub leads : LeadsAt nodes dir place bound
  pub there : bound.to ≡ handle

-- the handles on a way down from the root, the last one first
abbrev pub IsWay : (Handle → Option NodeCopy) → List Handle → Type 0
IsWay nodes [] = ⊥
IsWay nodes (handle ∷ []) = (handle.ino ≡ 0) × IsSome (nodes handle)
IsWay nodes (handle ∷ dir ∷ above) = IsEntered nodes dir handle × IsWay nodes (dir ∷ above)

pub last_lives : (nodes : Handle → Option NodeCopy) (handle : Handle) (above : List Handle) → IsWay nodes (handle ∷ above)
    → IsSome (nodes handle)
last_lives nodes handle [] way = way.1
last_lives nodes handle (dir ∷ above) way = subst (λ h. IsSome (nodes h)) way.0.there way.0.leads.2

-- two ways that end in inodes of one number are equally long
pub same_end : (nodes : Handle → Option NodeCopy) (inodes : ℕ) → FormTree nodes inodes → (a b : Handle) (above beside : List Handle)
    → IsWay nodes (a ∷ above) → IsWay nodes (b ∷ beside) → a.ino ≡ b.ino → length above ≡ length beside
same_end nodes inodes tree a b [] [] way other same = refl
same_end nodes inodes tree a b [] (dir ∷ beside) way other same =
    let e = other.0 in
    absurd (omega (arith, tree.root_unnamed dir e.place e.bound e.leads, ap (λ (h : Handle). h.ino) e.there, same, way.0))
same_end nodes inodes tree a b (dir ∷ above) [] way other same =
    let e = way.0 in
    absurd (omega (arith, tree.root_unnamed dir e.place e.bound e.leads, ap (λ (h : Handle). h.ino) e.there, same, other.0))
same_end nodes inodes tree a b (dir ∷ above) (side ∷ beside) way other same =
    let e = way.0 in
    let f = other.0 in
    let one = tree.one_name dir side e.place f.place e.bound f.bound e.leads f.leads
    (ap (λ (h : Handle). h.ino) e.there ∙ same ∙ sym (ap (λ (h : Handle). h.ino) f.there)) in
    ap suc (same_end nodes inodes tree dir side above beside way.1 other.1 one.0)

-- an inode on the way is no inode further up
differs : (nodes : Handle → Option NodeCopy) (inodes : ℕ) → FormTree nodes inodes → (a b : Handle) (above beside : List Handle)
    → IsWay nodes (a ∷ above) → IsWay nodes (b ∷ beside) → length beside < length above → (a.ino == b.ino) ≡ false
differs nodes inodes tree a b above beside way other less = go (a.ino == b.ino) refl where
  go : (same : Bool) → (a.ino == b.ino) ≡ same → same ≡ false
  go false is = refl
  go true is = absurd (omega (arith, less, same_end nodes inodes tree a b above beside way other (eqb-true a.ino b.ino is)))

differs_above : (nodes : Handle → Option NodeCopy) (inodes : ℕ) → FormTree nodes inodes → (a : Handle) (above : List Handle)
    → IsWay nodes (a ∷ above)
    → (b : Handle) (beside : List Handle) → IsWay nodes (b ∷ beside) → length beside < length above
    → AllByRecursion (λ y. (a.ino == y) ≡ false) (map (λ (h : Handle). h.ino) (b ∷ beside))
differs_above nodes inodes tree a above way b [] other less = (differs nodes inodes tree a b above [] way other less, tt)
differs_above nodes inodes tree a above way b (dir ∷ beside) other less = (
  differs nodes inodes tree a b above (dir ∷ beside) way other less,
  differs_above nodes inodes tree a above way dir beside other.1 (omega (arith, less)),
)

all_differ : (nodes : Handle → Option NodeCopy) (inodes : ℕ) → FormTree nodes inodes → (a : Handle) (above : List Handle)
    → IsWay nodes (a ∷ above)
    → IsDistinct eqb (map (λ (h : Handle). h.ino) (a ∷ above))
unfolding IsDistinct
all_differ nodes inodes tree a [] way = (tt, tt)
all_differ nodes inodes tree a (dir ∷ above) way = (
  differs_above nodes inodes tree a (dir ∷ above) way dir above way.1 (omega arith),
  all_differ nodes inodes tree dir above way.1,
)

pub below_if_met : (n q : ℕ) (x : ℕ) (xs : List ℕ) → x < n → (list_any (eqb q) xs ≡ true → q < n) → list_any (eqb q) (x ∷ xs) ≡ true → q < n
below_if_met n q x xs less rest met = go (eqb q x) refl met where
  go : (same : Bool) → eqb q x ≡ same → (same || list_any (eqb q) xs) ≡ true → q < n
  go true is met = omega (arith, less, eqb-true q x is)
  go false is met = rest met

all_below : (nodes : Handle → Option NodeCopy) (inodes : ℕ) → FormTree nodes inodes → (a : Handle) (above : List Handle)
    → IsWay nodes (a ∷ above)
    → (q : ℕ) → list_any (eqb q) (map (λ (h : Handle). h.ino) (a ∷ above)) ≡ true → q < inodes
all_below nodes inodes tree a [] way q = below_if_met inodes q a.ino [] (tree.numbered a (last_lives nodes a [] way)) (λ met. cc)
all_below nodes inodes tree a (dir ∷ above) way q =
    below_if_met inodes q a.ino (map (λ (h : Handle). h.ino) (dir ∷ above)) (tree.numbered a (last_lives nodes a (dir ∷ above) way))
    (all_below nodes inodes tree dir above way.1 q)

-- a way has at most as many nodes as there are inodes
ways_end : (nodes : Handle → Option NodeCopy) (inodes : ℕ) → FormTree nodes inodes → (a : Handle) (above : List Handle)
    → IsWay nodes (a ∷ above)
    → length above < inodes
ways_end nodes inodes tree a above way =
    let short = length-le_from_distinct_below (map (λ (h : Handle). h.ino) (a ∷ above)) inodes
    (all_differ nodes inodes tree a above way) (all_below nodes inodes tree a above way) in
    omega (arith, short, length-map (a ∷ above) (λ (h : Handle). h.ino))

-- with as many nodes below as are left of all inodes, nothing is cut
enough_below : (nodes : Handle → Option NodeCopy) (inodes : ℕ) → FormTree nodes inodes → (left : ℕ) (a : Handle) (above : List Handle)
    → IsWay nodes (a ∷ above) → inodes ≤ length above + left → CutsNothing nodes left a
enough_below nodes inodes tree zero a above way enough = absurd (omega (arith, enough, ways_end nodes inodes tree a above way))
enough_below nodes inodes tree (suc left) a above way enough = λ bound at.
    go bound at (nodes bound.to) refl
    (λ enters. enough_below nodes inodes tree left bound.to (a ∷ above) (enters, way) (omega (arith, enough))) where
      go : (bound : BoundName) → Contains (names_under nodes a) bound → (found : Option NodeCopy) → nodes bound.to ≡ found
          → (IsEntered nodes a bound.to → CutsNothing nodes left bound.to) → CutsNothing nodes left bound.to
      go bound at None is further = none_cut nodes left bound.to is
      go bound at (Some node) is further = further (record { place = at.0; bound = bound; leads = (at.1, at.2, rw is refl); there = refl })

pub inodes_bound : (nodes : Handle → Option NodeCopy) (inodes depth : ℕ) → FormTree nodes inodes → inodes ≤ depth
    → CutsNothing nodes depth root
inodes_bound nodes inodes depth tree enough = go (nodes root) refl where
  go : (found : Option NodeCopy) → nodes root ≡ found → CutsNothing nodes depth root
  go None is = none_cut nodes depth root is
  go (Some node) is = enough_below nodes inodes tree depth root [] (refl, rw is refl) (omega (arith, enough))
