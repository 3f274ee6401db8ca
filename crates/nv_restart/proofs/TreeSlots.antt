-- Where the nodes under handles form a tree, so do the nodes of slots.
use Rattle.std.proofs.Common.{◌≡◌, ◌≢◌, ℕ, zero, suc, ◌<◌, ◌≤◌, ◌==◌, Bool, true, false, if◌then◌else◌, List, [], ◌∷◌, length, map, Option, Some, None, is_some, arith, refl, ap, sym, ◌∙◌, subst}
use Rattle.std.specs.Prelude.{slice_index_or}
use Rattle.std.specs.List.{AllPairs, Contains, flat_map, range_with_len}
use Rattle.std.specs.Option.{option_map}
use Rattle.std.proofs.lemmas.Bool.{eq-eqb, eqb-true, false≢true}
use Rattle.std.proofs.lemmas.List.{get_or_default}
use Rattle.nv_alloc.proofs.Lists.{times-append, times-no, times-yes}
use Rattle.nv_alloc.specs.Numbers.{times}
use Rattle.nv_audit.proofs.Counting.{covered, range_once, times_first}
use Rattle.nv_audit.specs.Tree.{AreNames, IsTree, Slots, all_leads, is_node, is_of, leads, slot_at, slots_named}
use Rattle.nv_audit.specs.Tree as slot
use Rattle.nv_audit.specs.declared.tree.NamedNode.{NamedNode}
use Rattle.nv_base.specs.declared.numbers.Handle.{Handle}
use Rattle.nv_calls.specs.Refusals.{is_directory, kind_of}
use Rattle.nv_entry.specs.Tree.{root}
use Rattle.nv_entry.specs.declared.names.BoundName.{BoundName}
use Rattle.nv_entry.specs.declared.node.NodeCopy.{NodeCopy}
use Rattle.nv_machine.specs.Directories.{AreTree, HasName, HaveOneName, IsReachedBy, LeadsTo}
use Rattle.nv_restart.proofs.JudgedTrees.{alive, generation_in, kinds_same, led, names_here, own_generation, same_node, shown, times_named, under}

-- ---- how often names lead to a slot

differ_later : (b : BoundName) (names : List BoundName)
    → AllPairs (λ (x y : BoundName). x.to.ino ≢ y.to.ino) (b ∷ names)
    → AllPairs (λ (x y : BoundName). x.to.ino ≢ y.to.ino) names
differ_later b names differ i j d low lt =
    differ (suc i) (suc j) d (omega (arith, low)) (omega (arith, lt))

no_more : (names : List BoundName) (b : BoundName) (n : ℕ)
    → AllPairs (λ (x y : BoundName). x.to.ino ≢ y.to.ino) (b ∷ names)
    → b.to.ino ≡ n → (c : BoundName) → Contains names c → c.to.ino ≡ n → ⊥
no_more names b n differ is c (k, lt, at) to =
    let own : slice_index_or names k b ≡ c = get_or_default names k b c lt ∙ at in
    differ 0 (suc k) b (omega arith) (omega (arith, lt))
    (is ∙ sym to ∙ sym (ap (λ (x : BoundName). x.to.ino) own))

once_named : (names : List BoundName) (n : ℕ)
    → AllPairs (λ (x y : BoundName). x.to.ino ≢ y.to.ino) names
    → times n (slots_named names) ≤ 1
once_named [] n differ = omega arith
once_named (b ∷ names) n differ =
    go (b.to.ino == n) refl (times n (slots_named names)) refl
    (once_named names n (differ_later b names differ)) where
      go : (is : Bool) → (b.to.ino == n) ≡ is → (t : ℕ) → times n (slots_named names) ≡ t
          → times n (slots_named names) ≤ 1
          → times n (slots_named (b ∷ names)) ≤ 1
      go true e zero none rest =
          let yes = times-yes n b.to.ino (slots_named names) e in omega (arith, yes, none)
      go true e (suc t) some rest =
          let found = times_named names n (omega (arith, some)) in
          absurd (no_more names b n differ (eqb-true b.to.ino n e) found.0 found.1 found.2)
      go false e t same rest =
          let no = times-no n b.to.ino (slots_named names) e in omega (arith, no, rest)

-- what all give, one of them gives
given_by : (f : ℕ → List ℕ) (m : ℕ) (xs : List ℕ) → 1 ≤ times m (flat_map f xs)
    → (n : ℕ) × (1 ≤ times m (f n))
given_by f m [] some = absurd (let none : 1 ≤ 0 = some in omega (arith, none))
given_by f m (x ∷ xs) some = go (times m (f x)) refl (given_by f m xs) where
  go : (t : ℕ) → times m (f x) ≡ t
      → (1 ≤ times m (flat_map f xs) → (n : ℕ) × (1 ≤ times m (f n)))
      → (n : ℕ) × (1 ≤ times m (f n))
  go zero e more = more (omega (arith, some, e, times-append m (f x) (flat_map f xs)))
  go (suc t) e more = (x, omega (arith, e))

-- ---- a tree

used_own : (node : Option NamedNode) → slot.is_used node ≡ true
    → is_of (generation_in node) node ≡ true
used_own None e = e
used_own (Some node) e = eq-eqb node.generation node.generation refl

some_of : (node : Option NodeCopy) → is_directory (kind_of node) ≡ true → is_some node ≡ true
some_of None e = e
some_of (Some node) e = refl

module _ (nodes : Handle → Option NodeCopy) (slots : Slots)
    (are : (handle : Handle) → option_map (shown handle.generation) (nodes handle)
    ≡ under slots handle) (tree : AreTree nodes) where
  abbrev one_name : HaveOneName nodes
  one_name = tree.one_name

  -- the handle of a slot's node
  abbrev own : ℕ → Handle
  own n = record { ino = n; generation = generation_in (slot_at slots n) }

  named : (n : ℕ) (b : BoundName) → Contains (slot.names_of (slot_at slots n)) b
      → HasName nodes (own n) b
  named n b has =
      subst (λ (names : List BoundName). Contains names b)
      (sym (names_here nodes slots are (own n) (own_generation (slot_at slots n) b has))) has

  leading : (n : ℕ) (b : BoundName) → Contains (slot.names_of (slot_at slots n)) b
      → is_node slots b.to ≡ true
  leading n b has = sym (alive nodes slots are b.to) ∙ one_name.leads (own n) b (named n b has)

  leads_to : (dir n : ℕ) → 1 ≤ times n (leads slots dir) → (handle : Handle)
      → is_node slots handle ≡ true → handle.ino ≡ n
      → LeadsTo nodes (own dir) handle
  leads_to dir n some handle is ino =
      let found = times_named (slot.names_of (slot_at slots dir)) n some in (
        found.0,
        named dir found.0 found.1,
        same_node nodes slots are found.0.to handle (leading dir found.0 found.1) is
            (found.2 ∙ sym ino),
      )

  root_there : is_node slots root ≡ true
  root_there = sym (alive nodes slots are root) ∙ some_of (nodes root) one_name.top

  directory_here : (handle : Handle) → is_node slots handle ≡ true
      → slot.is_directory (slot_at slots handle.ino) ≡ is_directory (kind_of (nodes handle))
  directory_here handle is =
      sym (ap (λ (b : Bool). slot.is_directory (if b then slot_at slots handle.ino else None)) is)
      ∙ sym (ap slot.is_directory (are handle)) ∙ kinds_same handle.generation (nodes handle)

  names_in : (n : ℕ) → AreNames slots n
  names_in n = record {
    placed = λ file. none file (slot.names_of (slot_at slots n)) refl;
    lead = λ k d lt.
        let names = slot.names_of (slot_at slots n) in
        let b : BoundName = slice_index_or names k d in
        leading n b (k, lt, get_or_default names k b d lt);
  } where
    none : slot.is_directory (slot_at slots n) ≡ false → (names : List BoundName)
        → slot.names_of (slot_at slots n) ≡ names
        → slot.names_of (slot_at slots n) ≡ []
    none file [] e = e
    none file (b ∷ names) e =
        let has : Contains (slot.names_of (slot_at slots n)) b =
        subst (λ (xs : List BoundName). Contains xs b) (sym e) (0, omega arith, refl) in
        let is = own_generation (slot_at slots n) b has in
        absurd (false≢true
        (sym file ∙ directory_here (own n) is ∙ one_name.named (own n) b (named n b has)))

  differ : (n : ℕ) → AllPairs (λ (x y : BoundName). x.to.ino ≢ y.to.ino)
      (slot.names_of (slot_at slots n))
  differ n i j d low lt same =
      let names = slot.names_of (slot_at slots n) in
      let one : BoundName = slice_index_or names i d in
      let other : BoundName = slice_index_or names j d in
      let has : Contains names one =
      (i, omega (arith, low, lt), get_or_default names i one d (omega (arith, low, lt))) in
      let also : Contains names other = (j, lt, get_or_default names j other d lt) in
      let is = own_generation (slot_at slots n) one has in
      let here = names_here nodes slots are (own n) is in
      let apart = subst (λ (xs : List BoundName). (i j : ℕ) (d : BoundName) → i < j → j < length xs
      → (slice_index_or xs i d).to ≢ (slice_index_or xs j d).to) here
      (λ i j d low lt. (one_name.apart (own n) i j d low lt).1) in
      apart i j d low lt
      (same_node nodes slots are one.to other.to (leading n one has) (leading n other also) same)

  one_each : (n : ℕ) → times n (all_leads slots) ≤ 1
  one_each n = go (times n (all_leads slots)) refl where
    go : (t : ℕ) → times n (all_leads slots) ≡ t → times n (all_leads slots) ≤ 1
    go zero e = omega (arith, e)
    go (suc t) e =
        let range = range_with_len 0 (length slots) in
        let given = given_by (leads slots) n range (omega (arith, e)) in
        let dir = given.0 in
        let found = times_named (slot.names_of (slot_at slots dir)) n given.1 in
        let to : Handle = found.0.to in
        let there = leading dir found.0 found.1 in
        let only : (other : ℕ) → 1 ≤ times other range → 1 ≤ times n (leads slots other)
        → 1 ≤ times other (dir ∷ []) =
        λ other inside gives.
        let same = ap (λ (h : Handle). h.ino) (one_name.one (own other) (own dir) to
        (leads_to other n gives to there found.2) (leads_to dir n given.1 to there found.2)) in
        subst (λ (k : ℕ). 1 ≤ times k (dir ∷ [])) (sym same)
        (let first = times_first dir [] in omega (arith, first)) in
        let most = covered (leads slots) n range (dir ∷ []) (range_once 0 (length slots)) only in
        let split = times-append n (leads slots dir) [] in
        let once = once_named (slot.names_of (slot_at slots dir)) n (differ dir) in
        omega (arith, most, split, once)

  root_unnamed : times root.ino (all_leads slots) ≡ 0
  root_unnamed =
      let most =
      covered (leads slots) root.ino (range_with_len 0 (length slots)) []
      (range_once 0 (length slots))
      (λ dir inside gives.
      absurd (one_name.unnamed (own dir) (leads_to dir root.ino gives root root_there refl))) in
      omega (arith, most)

  way : (above : List Handle) (handle : Handle) → IsReachedBy nodes above handle
      → slot.IsReachedBy slots (map (λ (h : Handle). h.ino) above) handle.ino
  way [] handle at = ap (λ (h : Handle). h.ino) at
  way (dir ∷ above) handle ((b, has, to), rest) = (
    subst (λ (h : Handle). 1 ≤ times h.ino (leads slots dir.ino)) to
        (led nodes slots are dir b has),
    way above dir rest,
  )

  pub slots_tree : IsTree slots
  slots_tree = record {
    top = (root_there, directory_here root root_there ∙ one_name.top);
    names = names_in;
    unnamed = root_unnamed;
    one = one_each;
    reached = λ n used.
        let at =
        tree.reached (own n) (alive nodes slots are (own n) ∙ used_own (slot_at slots n) used) in
        (map (λ (h : Handle). h.ino) at.0, way at.0 (own n) at.1);
  }
