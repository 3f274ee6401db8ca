-- The inodes that a tree reaches, where the directories form a tree: none of them twice.
use Rattle.std.proofs.Common.{◌≡◌, ◌≢◌, inl, inr, ℕ, zero, suc, ◌+◌, ◌-◌, ◌<◌, List, [], ◌∷◌, ◌++◌, length, get_or, Option, Some, None, IsSome, append_assoc, arith, refl, ap, sym, subst, ◌∙◌}
use Rattle.std.proofs.lemmas.List.{get_or-append_right, get_or_at, length-append}
use Rattle.std.proofs.lemmas.List.Kept.{AllPairs-cons}
use Rattle.std.specs.List.{AllPairs, Contains, flat_map}
use Rattle.nv_base.specs.declared.numbers.Handle.{Handle}
use Rattle.nv_entry.specs.Tree.{FormTree, LeadsAt, names_of_node, names_under, root}
use Rattle.nv_entry.specs.declared.names.BoundName.{BoundName}
use Rattle.nv_entry.specs.declared.node.NodeCopy.{NodeCopy}
use Rattle.nv_reader.specs.Worlds.{handle_and_below, handles_from}
use Rattle.nv_reader.proofs.Elements.{all_from, contains_below, contains_cases, contains_none, pairs_append}
use Rattle.nv_reader.proofs.Ways.{IsEntered, IsWay, last_lives, same_end}

abbrev inodes_differ : Handle → Handle → Type 0
inodes_differ one other = one.ino ≢ other.ino

-- ---- ways to what stands below a handle

-- the last handle of a way that goes on from `top`
abbrev end_of : List Handle → Handle → Handle
end_of [] top = top
end_of (handle ∷ between) top = handle

-- a handle stands below another: a way goes on from there to it
record IsUnder (nodes : Handle → Option NodeCopy) (top : Handle) (above : List Handle) (handle : Handle) : Type 0 where
  between : List Handle
  way : IsWay nodes (between ++ top ∷ above)
  is : end_of between top ≡ handle

-- the last step of a way
last_step : (nodes : Handle → Option NodeCopy) (handle : Handle) (between : List Handle) (top : Handle) (above : List Handle)
    → IsWay nodes (handle ∷ between ++ top ∷ above)
    → IsEntered nodes (end_of between top) handle × IsWay nodes (between ++ top ∷ above)
last_step nodes handle [] top above way = way
last_step nodes handle (x ∷ between) top above way = way

end_lives : (nodes : Handle → Option NodeCopy) (top : Handle) (above : List Handle) (handle : Handle) → IsUnder nodes top above handle
    → IsSome (nodes handle)
end_lives nodes top above handle under = subst (λ h. IsSome (nodes h)) under.is (go under.between under.way) where
  go : (between : List Handle) → IsWay nodes (between ++ top ∷ above) → IsSome (nodes (end_of between top))
  go [] way = last_lives nodes top above way
  go (x ∷ between) way = last_lives nodes x (between ++ top ∷ above) way

-- below a name's handle is below its directory
under_more : (nodes : Handle → Option NodeCopy) (next top : Handle) (above : List Handle) (handle : Handle)
    → IsUnder nodes next (top ∷ above) handle → IsUnder nodes top above handle
under_more nodes next top above handle under = record {
  between = under.between ++ next ∷ [];
  way = subst (IsWay nodes) (sym (append_assoc under.between (next ∷ []) (top ∷ above))) under.way;
  is = go under.between ∙ under.is;
} where
  go : (between : List Handle) → end_of (between ++ next ∷ []) top ≡ end_of between next
  go [] = refl
  go (x ∷ between) = refl

-- two ways that end in inodes of one number are equally long
same_long : (nodes : Handle → Option NodeCopy) (inodes : ℕ) → FormTree nodes inodes
    → (p q : List Handle) (u v : Handle) (above beside : List Handle)
    → IsWay nodes (p ++ u ∷ above) → IsWay nodes (q ++ v ∷ beside) → (end_of p u).ino ≡ (end_of q v).ino
    → length (p ++ u ∷ above) ≡ length (q ++ v ∷ beside)
same_long nodes inodes tree [] [] u v above beside way other same = ap suc (same_end nodes inodes tree u v above beside way other same)
same_long nodes inodes tree [] (y ∷ q) u v above beside way other same =
    ap suc (same_end nodes inodes tree u y above (q ++ v ∷ beside) way other same)
same_long nodes inodes tree (x ∷ p) [] u v above beside way other same =
    ap suc (same_end nodes inodes tree x v (p ++ u ∷ above) beside way other same)
same_long nodes inodes tree (x ∷ p) (y ∷ q) u v above beside way other same =
    ap suc (same_end nodes inodes tree x y (p ++ u ∷ above) (q ++ v ∷ beside) way other same)

-- two ways that end in inodes of one number, equally far below two handles, go on from inodes of one number
climb : (nodes : Handle → Option NodeCopy) (inodes : ℕ) → FormTree nodes inodes
    → (p q : List Handle) (u v : Handle) (above beside : List Handle)
    → IsWay nodes (p ++ u ∷ above) → IsWay nodes (q ++ v ∷ beside) → (end_of p u).ino ≡ (end_of q v).ino → length p ≡ length q
    → u.ino ≡ v.ino
climb nodes inodes tree [] [] u v above beside way other same long = same
climb nodes inodes tree [] (y ∷ q) u v above beside way other same long = absurd (omega (arith, long))
climb nodes inodes tree (x ∷ p) [] u v above beside way other same long = absurd (omega (arith, long))
climb nodes inodes tree (x ∷ p) (y ∷ q) u v above beside way other same long =
    let one = last_step nodes x p u above way in
    let two = last_step nodes y q v beside other in
    let e = one.0 in
    let f = two.0 in
    let up = tree.one_name (end_of p u) (end_of q v) e.place f.place e.bound f.bound e.leads f.leads
    (ap (λ (h : Handle). h.ino) e.there ∙ same ∙ sym (ap (λ (h : Handle). h.ino) f.there)) in
    climb nodes inodes tree p q u v above beside one.1 two.1 up.0 (omega (arith, long))

-- ---- what a tree reaches

nothing_under : (nodes : Handle → Option NodeCopy) (depth : ℕ) (handle : Handle) → nodes handle ≡ None
    → handles_from nodes depth handle ≡ []
nothing_under nodes zero handle none = refl
nothing_under nodes (suc depth) handle none = rw none refl

lives : (nodes : Handle → Option NodeCopy) (depth : ℕ) (handle h : Handle) → Contains (handles_from nodes depth handle) h
    → IsSome (nodes handle)
lives nodes depth handle h at = go (nodes handle) refl where
  go : (found : Option NodeCopy) → nodes handle ≡ found → IsSome (nodes handle)
  go None is = absurd (contains_none h (subst (λ (hs : List Handle). Contains hs h) (nothing_under nodes depth handle is) at))
  go (Some node) is = rw is refl

-- a name of a node leads there
leads_to : (nodes : Handle → Option NodeCopy) (dir : Handle) (bound : BoundName) → Contains (names_under nodes dir) bound
    → IsSome (nodes bound.to)
    → IsEntered nodes dir bound.to
leads_to nodes dir bound at some = record { place = at.0; bound = bound; leads = (at.1, at.2, some); there = refl }

reached : (nodes : Handle → Option NodeCopy) (depth : ℕ) (a : Handle) (above : List Handle) → IsWay nodes (a ∷ above)
    → (h : Handle) → Contains (handles_from nodes depth a) h → IsUnder nodes a above h
reached nodes zero a above way h at = absurd (contains_none h at)
reached nodes (suc depth) a above way h at =
    go (nodes a) refl at (λ next entered at'. reached nodes depth next (a ∷ above) entered h at')
  where
    go : (found : Option NodeCopy) → nodes a ≡ found → Contains (handle_and_below found a (λ bound. handles_from nodes depth bound.to)) h
        → ((next : Handle) → IsWay nodes (next ∷ a ∷ above) → Contains (handles_from nodes depth next) h → IsUnder nodes next (a ∷ above) h)
        → IsUnder nodes a above h
    go None is at further = absurd (contains_none h at)
    go (Some node) is at further =
        elim (contains_cases h a (flat_map (λ (bound : BoundName). handles_from nodes depth bound.to) node.names) at) [
          | inl same ↦ record { between = []; way = way; is = same }
          | inr later ↦
              let below = contains_below (λ (bound : BoundName). handles_from nodes depth bound.to) node.names h later in
              let bound = below.0 in
              let named : Contains (names_under nodes a) bound = subst
              (λ (o : Option NodeCopy). Contains (names_of_node o) bound) (sym is) below.1 in
              let enters = leads_to nodes a bound named (lives nodes depth bound.to h below.2) in
              under_more nodes bound.to a above h (further bound.to (enters, way) below.2)
        ]

pub reached_lives : (nodes : Handle → Option NodeCopy) (depth : ℕ) (h : Handle) → Contains (handles_from nodes depth root) h
    → IsSome (nodes h)
reached_lives nodes depth h at = end_lives nodes root [] h (reached nodes depth root [] (refl, lives nodes depth root h at) h at)

-- ---- no inode twice

-- a name of a directory, behind some of its names
name_at : (nodes : Handle → Option NodeCopy) (dir : Handle) (before later : List BoundName) (bound : BoundName)
    → before ++ bound ∷ later ≡ names_under nodes dir → IsSome (nodes bound.to) → LeadsAt nodes dir (length before) bound
name_at nodes dir before later bound is some = (
  omega (arith, ap length is, length-append before (bound ∷ later)),
  ap (λ (names : List BoundName). get_or names (length before) bound) (sym is) ∙ get_or_at before bound later bound (length before) refl,
  some,
)

-- what stands below two names of a directory has no inode in common
names_apart : (nodes : Handle → Option NodeCopy) (inodes : ℕ) → FormTree nodes inodes
    → (a : Handle) (above : List Handle) (j k : ℕ) (b c : BoundName)
    → LeadsAt nodes a j b → LeadsAt nodes a k c → j < k → (x y : Handle) → IsUnder nodes b.to (a ∷ above) x
    → IsUnder nodes c.to (a ∷ above) y
    → inodes_differ x y
names_apart nodes inodes tree a above j k b c leads leads' less x y under under' = λ same.
    let ends : (end_of under.between b.to).ino ≡ (end_of under'.between c.to).ino =
    ap (λ (h : Handle). h.ino) under.is ∙ same ∙ sym (ap (λ (h : Handle). h.ino) under'.is) in
    let long = same_long nodes inodes tree under.between under'.between b.to c.to (a ∷ above) (a ∷ above) under.way under'.way ends in
    let even : length under.between ≡ length under'.between =
    omega (arith, long, length-append under.between (b.to ∷ a ∷ above), length-append under'.between (c.to ∷ a ∷ above)) in
    let one = tree.one_name a a j k b c leads leads'
    (climb nodes inodes tree under.between under'.between b.to c.to (a ∷ above) (a ∷ above) under.way under'.way ends even) in
    omega (arith, one.1, less)

-- what stands below a directory is not the directory
below_apart : (nodes : Handle → Option NodeCopy) (inodes : ℕ) → FormTree nodes inodes → (a : Handle) (above : List Handle)
    → IsWay nodes (a ∷ above)
    → (b y : Handle) → IsUnder nodes b (a ∷ above) y → inodes_differ a y
below_apart nodes inodes tree a above way b y under = λ same.
    let long = same_long nodes inodes tree [] under.between a b above (a ∷ above) way under.way
    (same ∙ sym (ap (λ (h : Handle). h.ino) under.is)) in
    omega (arith, long, length-append under.between (b ∷ a ∷ above))

names_differ : (nodes : Handle → Option NodeCopy) (inodes : ℕ) → FormTree nodes inodes → (depth : ℕ) (a : Handle) (above : List Handle)
    → IsWay nodes (a ∷ above)
    → ((b : Handle) → IsWay nodes (b ∷ a ∷ above) → AllPairs inodes_differ (handles_from nodes depth b))
    → (before names : List BoundName) → before ++ names ≡ names_under nodes a
    → AllPairs inodes_differ (flat_map (λ (bound : BoundName). handles_from nodes depth bound.to) names)
names_differ nodes inodes tree depth a above way each before [] is = λ i j d lt le. absurd (omega (arith, le))
names_differ nodes inodes tree depth a above way each before (b ∷ names) is =
    pairs_append inodes_differ (below b) (flat_map below names) (own (nodes b.to) refl)
    (names_differ nodes inodes tree depth a above way each (before ++ b ∷ []) names split) across
  where
    below : BoundName → List Handle
    below bound = handles_from nodes depth bound.to

    split : (before ++ b ∷ []) ++ names ≡ names_under nodes a
    split = append_assoc before (b ∷ []) names ∙ is

    under : (bound : BoundName) (j : ℕ) → LeadsAt nodes a j bound → (x : Handle) → Contains (below bound) x
        → IsUnder nodes bound.to (a ∷ above) x
    under bound j leads x at =
        reached nodes depth bound.to (a ∷ above) (record { place = j; bound = bound; leads = leads; there = refl }, way) x at

    own : (found : Option NodeCopy) → nodes b.to ≡ found → AllPairs inodes_differ (below b)
    own None none = subst (AllPairs inodes_differ) (sym (nothing_under nodes depth b.to none)) (λ i j d lt le. absurd (omega (arith, le)))
    own (Some node) some =
        each b.to (record { place = length before; bound = b; leads = name_at nodes a before names b is (rw some refl); there = refl }, way)

    across : (x y : Handle) → Contains (below b) x → Contains (flat_map below names) y → inodes_differ x y
    across x y at there =
        let later = contains_below below names y there in
        let c = later.0 in
        let place : ℕ = length before + 1 + later.1.0 in
        let front : length (before ++ b ∷ []) ≡ length before + 1 = length-append before (b ∷ []) in
        let leads' : LeadsAt nodes a place c = (
          omega (arith, ap length split, length-append (before ++ b ∷ []) names, front, later.1.1),
          ap (λ (ns : List BoundName). get_or ns place c) (sym split)
              ∙ get_or-append_right (before ++ b ∷ []) names (length before + 1) place c front (omega arith)
              ∙ ap (λ (n : ℕ). get_or names n c) (let same : place - (length before + 1) ≡ later.1.0 = omega arith in same) ∙ later.1.2,
          lives nodes depth c.to y later.2,
        ) in
        let leads = name_at nodes a before names b is (lives nodes depth b.to x at) in
        names_apart nodes inodes tree a above (length before) place b c leads leads' (omega arith) x y
        (under b (length before) leads x at) (under c place leads' y later.2)

all_differ : (nodes : Handle → Option NodeCopy) (inodes : ℕ) → FormTree nodes inodes → (depth : ℕ) (a : Handle) (above : List Handle)
    → IsWay nodes (a ∷ above)
    → AllPairs inodes_differ (handles_from nodes depth a)
all_differ nodes inodes tree zero a above way = λ i j d lt le. absurd (omega (arith, le))
all_differ nodes inodes tree (suc depth) a above way =
    go (nodes a) refl (λ b entered. all_differ nodes inodes tree depth b (a ∷ above) entered)
  where
    below : BoundName → List Handle
    below bound = handles_from nodes depth bound.to

    apart : (node : NodeCopy) → nodes a ≡ Some node → (y : Handle) → Contains (flat_map below node.names) y → inodes_differ a y
    apart node is y at =
        let later = contains_below below node.names y at in
        let c = later.0 in
        let named : Contains (names_under nodes a) c = subst (λ (o : Option NodeCopy). Contains (names_of_node o) c) (sym is) later.1 in
        let enters = leads_to nodes a c named (lives nodes depth c.to y later.2) in
        below_apart nodes inodes tree a above way c.to y (reached nodes depth c.to (a ∷ above) (enters, way) y later.2)

    go : (found : Option NodeCopy) → nodes a ≡ found
        → ((b : Handle) → IsWay nodes (b ∷ a ∷ above) → AllPairs inodes_differ (handles_from nodes depth b))
        → AllPairs inodes_differ (handle_and_below found a below)
    go None is each = λ i j d lt le. absurd (omega (arith, le))
    go (Some node) is each =
        AllPairs-cons inodes_differ a (flat_map below node.names) (all_from (inodes_differ a) (flat_map below node.names) (apart node is))
        (names_differ nodes inodes tree depth a above way each [] node.names
        (ap names_of_node (sym is)))

pub none_twice : (nodes : Handle → Option NodeCopy) (inodes depth : ℕ) → FormTree nodes inodes
    → AllPairs inodes_differ (handles_from nodes depth root)
none_twice nodes inodes depth tree = go (nodes root) refl where
  go : (found : Option NodeCopy) → nodes root ≡ found → AllPairs inodes_differ (handles_from nodes depth root)
  go None is = subst (AllPairs inodes_differ) (sym (nothing_under nodes depth root is)) (λ i j d lt le. absurd (omega (arith, le)))
  go (Some node) is = all_differ nodes inodes tree depth root [] (refl, rw is refl)
