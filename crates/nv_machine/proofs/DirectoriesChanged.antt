-- Directories stay a tree where a name leaves with its node, a node begins under a new name, and a node
-- moves to another name.
use Rattle.std.proofs.Common.{◌≡◌, ◌≢◌, ◌⊎◌, inl, inr, ℕ, zero, suc, ap₂, Bool, true, false, cond, not, if◌then◌else◌, List, [], ◌∷◌, ◌++◌, filter, Option, Some, None, IsSome, arith, refl, ap, sym, subst, ◌∙◌}
use Rattle.std.specs.List.{Contains}
use Rattle.nv_base.specs.Names.{same_name}
use Rattle.nv_base.specs.declared.numbers.Handle.{Handle}
use Rattle.nv_calls.specs.Plain.{goes, same_handle, with_names}
use Rattle.nv_calls.specs.Refusals.{is_directory, kind_of}
use Rattle.nv_entry.proofs.Hiding.{same_name-self, same_name-equal}
use Rattle.nv_entry.specs.Index.{bound_to, with_last, without}
use Rattle.nv_entry.specs.Tree.{names_of_node, names_under}
use Rattle.nv_entry.specs.declared.names.BoundName.{BoundName}
use Rattle.nv_entry.specs.declared.node.NodeCopy.{NodeCopy}
use Rattle.nv_machine.proofs.DirectoriesReached.{IsReached, IsReachedFrom, IsUnbound, alone_aside, directory_reached, leads_no_more, reached_but_bare, reached_by_name, reached_or_aside, reached_still, unbound_fewer}
use Rattle.nv_machine.proofs.DirectoriesStay.{IsBare, IsBound, bare_names, bound_names, fewer_names, same_or, same_self, some_by_kind, still_leads}
use Rattle.nv_calls.proofs.CheckEnds.{handle_is}
use Rattle.nv_machine.specs.Directories.{AreTree, HasName, HaveOneName}

-- ---- one node changed

abbrev pub changed_at : Handle → (Option NodeCopy → Option NodeCopy) → (Handle → Option NodeCopy) → Handle → Option NodeCopy
changed_at at f nodes handle = if same_handle at handle then f (nodes handle) else nodes handle

pub changed_here : (at : Handle) (f : Option NodeCopy → Option NodeCopy) (nodes : Handle → Option NodeCopy)
    → changed_at at f nodes at ≡ f (nodes at)
changed_here at f nodes = rw (same_self at) refl

pub other_handle : (a b : Handle) → a ≢ b → same_handle a b ≡ false
other_handle a b differ = go (same_handle a b) refl where
  go : (s : Bool) → same_handle a b ≡ s → s ≡ false
  go true is = absurd (differ (handle_is a b is))
  go false is = refl

pub changed_elsewhere : (at : Handle) (f : Option NodeCopy → Option NodeCopy) (nodes : Handle → Option NodeCopy) (handle : Handle)
    → handle ≢ at
    → changed_at at f nodes handle ≡ nodes handle
changed_elsewhere at f nodes handle other = rw (other_handle at handle (λ same. other (sym same))) refl

-- ---- names changed

kind_with : (f : List BoundName → List BoundName) (node : Option NodeCopy) → kind_of (with_names f node) ≡ kind_of node
kind_with f None = refl
kind_with f (Some n) = refl

names_with : (f : List BoundName → List BoundName) (node : Option NodeCopy) → IsSome node
    → names_of_node (with_names f node) ≡ f (names_of_node node)
names_with f None some = absurd (let z : false ≡ true = some in cc)
names_with f (Some n) some = refl

pub some_directory : (node : Option NodeCopy) → is_directory (kind_of node) ≡ true → IsSome node
some_directory None is = cc
some_directory (Some n) is = refl

module _ (nodes : Handle → Option NodeCopy) (dir : Handle) (f : List BoundName → List BoundName) where
  pub names_kinds : (handle : Handle) → kind_of (changed_at dir (with_names f) nodes handle) ≡ kind_of (nodes handle)
  names_kinds handle = go (same_handle dir handle) refl where
    go : (s : Bool) → same_handle dir handle ≡ s → kind_of (changed_at dir (with_names f) nodes handle) ≡ kind_of (nodes handle)
    go true is = rw is (kind_with f (nodes handle))
    go false is = rw is refl

  pub names_here : is_directory (kind_of (nodes dir)) ≡ true → names_under (changed_at dir (with_names f) nodes) dir ≡ f
      (names_under nodes dir)
  names_here is = ap names_of_node (changed_here dir (with_names f) nodes) ∙ names_with f (nodes dir) (some_directory (nodes dir) is)

  pub names_elsewhere : (handle : Handle) → handle ≢ dir → names_under
      (changed_at dir (with_names f) nodes) handle ≡ names_under nodes handle
  names_elsewhere handle other = ap names_of_node (changed_elsewhere dir (with_names f) nodes handle other)

-- ---- a name leaves

pub unbound : (nodes : Handle → Option NodeCopy) (dir : Handle) (bound : BoundName) → HasName nodes dir bound → HaveOneName nodes
    → IsUnbound nodes (changed_at dir (with_names (without bound.name)) nodes) dir bound
unbound nodes dir bound has have = record {
  kinds = names_kinds nodes dir (without bound.name);
  names = names_here nodes dir (without bound.name) (have.named dir bound has);
  others = names_elsewhere nodes dir (without bound.name);
  was = has;
}

-- what a filter leaves of nothing
none_left : (name : List ℕ) (names : List BoundName) → names ≡ [] → without name names ≡ []
none_left name names is = ap (without name) is

-- a directory in which something is found has a name of it
pub found_in : (name : List ℕ) (names : List BoundName) (to : Handle) → bound_to name names ≡ Some to
    → Contains names (record { name = name; to = to })
found_in name [] to is = cc
found_in name (bound ∷ names) to is = go (same_name name bound.name) refl (λ h. found_in name names to h) is where
  go : (s : Bool) → same_name name bound.name ≡ s → (bound_to name names ≡ Some to → Contains names (record { name = name; to = to }))
      → cond s (Some bound.to) (bound_to name names) ≡ Some to → Contains (bound ∷ names) (record { name = name; to = to })
  go true same rest h =
      let one : bound.to ≡ to = cc in (
        0,
        omega arith,
        ap₂ (λ (n : List ℕ) (t : Handle). let b : BoundName = record { name = n; to = t } in b)
            (sym (same_name-equal name bound.name same)) one,
      )
  go false other rest h = let at = rest h in (suc at.0, omega (arith, at.1), at.2)

-- and one in which nothing is found has none
pub none_found : (name : List ℕ) (names : List BoundName) → bound_to name names ≡ None → (b : BoundName) → Contains names b
    → same_name name b.name ≡ false
none_found name [] is b at = absurd (let lt = at.1 in omega (arith, lt))
none_found name (bound ∷ names) is b at = go (same_name name bound.name) refl is at (none_found name names) where
  go : (s : Bool) → same_name name bound.name ≡ s → cond s (Some bound.to) (bound_to name names) ≡ None → Contains (bound ∷ names) b
      → (bound_to name names ≡ None → (c : BoundName) → Contains names c → same_name name c.name ≡ false) → same_name name b.name ≡ false
  go true same h at rest = cc
  go false other h (zero, lt, here) rest = ap (λ (n : BoundName). same_name name n.name) (sym here) ∙ other
  go false other h (suc k, lt, here) rest = rest h b (k, omega (arith, lt), here)

filter_all : {X : Type 0} (p : X → Bool) (xs : List X) → ((x : X) → Contains xs x → p x ≡ true) → filter p xs ≡ xs
filter_all p [] each = refl
filter_all p (x ∷ xs) each = rw (each x (0, omega arith, refl))
    (ap (λ l. x ∷ l) (filter_all p xs (λ y at. each y (suc at.0, (let lt = at.1 in omega (arith, lt)), at.2))))

-- a name that was not there leaves nothing behind
pub none_leaves : (name : List ℕ) (names : List BoundName) → bound_to name names ≡ None → without name names ≡ names
none_leaves name names is = filter_all (λ (b : BoundName). not (same_name name b.name)) names
    (λ b at. ap not (none_found name names is b at))

module _ (nodes : Handle → Option NodeCopy) (tree : AreTree nodes) (dir : Handle) (bound : BoundName) (has : HasName nodes dir bound) where
  abbrev pub without_it : Handle → Option NodeCopy
  without_it = changed_at dir (with_names (without bound.name)) nodes

  is_unbound : IsUnbound nodes without_it dir bound
  is_unbound = unbound nodes dir bound has tree.one_name

  names_left : HaveOneName without_it
  names_left = fewer_names nodes without_it (unbound_fewer nodes without_it dir bound is_unbound tree.one_name) tree.one_name

  -- a handle without names has none then
  none_there : names_under nodes bound.to ≡ [] → names_under without_it bound.to ≡ []
  none_there none = go (same_or bound.to dir) where
    go : (bound.to ≡ dir) ⊎ (bound.to ≢ dir) → names_under without_it bound.to ≡ []
    go (inl same) =
        ap (names_under without_it) same ∙ is_unbound.names
        ∙ none_left bound.name (names_under nodes dir) (ap (names_under nodes) (sym same) ∙ none)
    go (inr other) = is_unbound.others bound.to other ∙ none

  abbrev pub gone : Handle → Option NodeCopy
  gone = changed_at bound.to goes without_it

  abbrev pub new_name : List ℕ → BoundName
  new_name name = record { name = name; to = bound.to }

  abbrev pub moved : Handle → List ℕ → Handle → Option NodeCopy
  moved to name = changed_at to (with_names (with_last name bound.to)) without_it

  -- ITS NODE GOES, which has no names
  pub stays_left : names_under nodes bound.to ≡ [] → AreTree gone
  stays_left none = record { one_name = bare_names without_it gone bound.to is_bare names_left; reached = reached } where
    is_bare : IsBare without_it gone bound.to
    is_bare = record {
      below_root = λ same. tree.one_name.unnamed dir (bound, has, same);
      others = changed_elsewhere bound.to goes without_it;
      names = ap names_of_node (changed_here bound.to goes without_it);
      unnamed = leads_no_more nodes without_it dir bound is_unbound tree.one_name;
    }

    some_before : (handle : Handle) → handle ≢ bound.to → IsSome (gone handle) → IsSome (nodes handle)
    some_before handle other some =
        some_by_kind (nodes handle) (without_it handle) (sym (is_unbound.kinds handle))
        (subst (λ node. IsSome node) (changed_elsewhere bound.to goes without_it handle other) some)

    then_reached : (handle : Handle) → handle ≢ bound.to → IsReached nodes handle → IsReached without_it handle
    then_reached handle other (above, is) = elim (reached_or_aside nodes without_it dir bound is_unbound tree.one_name above handle is) [
      | inl still ↦ still
      | inr both ↦ absurd (other (alone_aside without_it bound.to (none_there none) both.0.0 handle both.0.1))
    ]

    reached : (handle : Handle) → IsSome (gone handle) → IsReached gone handle
    reached handle some = go (same_or handle bound.to) where
      go : (handle ≡ bound.to) ⊎ (handle ≢ bound.to) → IsReached gone handle
      go (inl same) =
          absurd (let none_now : IsSome {T = NodeCopy} None = subst (λ node. IsSome node)
          (ap gone same ∙ changed_here bound.to goes without_it) some in
          let z : false ≡ true = none_now in cc)
      go (inr other) =
          let before = then_reached handle other (tree.reached handle (some_before handle other some)) in
          (before.0, reached_but_bare without_it gone bound.to is_bare (none_there none) before.0 handle before.1)

  -- IT MOVES to another directory and name, where it is a file or the directory is the same
  pub stays_moved : (to : Handle) (name : List ℕ) → is_directory (kind_of (nodes to)) ≡ true
      → bound_to name (names_under without_it to) ≡ None
      → (to ≡ dir) ⊎ ((names_under nodes bound.to ≡ []) × (to ≢ bound.to))
      → AreTree (moved to name)
  stays_moved to name directory free place = record {
    one_name = bound_names without_it (moved to name) to
        (new_name name) is_bound names_left;
    reached = reached;
  } where
    directory_now : is_directory (kind_of (without_it to)) ≡ true
    directory_now = ap is_directory (is_unbound.kinds to) ∙ directory

    is_bound : IsBound without_it (moved to name) to (new_name name)
    is_bound = record {
      kinds = names_kinds without_it to (with_last name bound.to);
      names = names_here without_it to (with_last name bound.to) directory_now
          ∙ ap (λ names. names ++ new_name name ∷ []) (none_leaves name (names_under without_it to) free);
      others = names_elsewhere without_it to (with_last name bound.to);
      directory = directory_now;
      new = λ other at same.
          let z : true ≡ false = sym (same_name-self name) ∙ ap (same_name name) (sym same)
          ∙ none_found name (names_under without_it to) free other at in cc;
      below_root = λ same. tree.one_name.unnamed dir (bound, has, same);
      there = some_by_kind (without_it bound.to) (nodes bound.to) (is_unbound.kinds bound.to) (tree.one_name.leads dir bound has);
      unnamed = leads_no_more nodes without_it dir bound is_unbound tree.one_name;
    }

    dir_reached : IsReached without_it dir
    dir_reached =
        directory_reached nodes without_it dir bound is_unbound tree.one_name
        (tree.reached dir (some_directory (nodes dir) (tree.one_name.named dir bound has)))

    -- a file is no directory
    no_file : names_under nodes bound.to ≡ [] → ((above : List Handle) × IsReachedFrom without_it bound.to above to) → to ≡ bound.to
    no_file none (above, from) = alone_aside without_it bound.to (none_there none) above to from

    to_reached : (to ≡ dir) ⊎ ((names_under nodes bound.to ≡ []) × (to ≢ bound.to)) → IsReached without_it to
    to_reached (inl same) = subst (IsReached without_it) (sym same) dir_reached
    to_reached (inr (none, other)) =
        let before = tree.reached to (some_directory (nodes to) directory) in
        elim (reached_or_aside nodes without_it dir bound is_unbound tree.one_name before.0 to before.1) [
          | inl still ↦ still
          | inr both ↦ absurd (other (no_file none both.0))
        ]

    either : (handle : Handle) → IsReached nodes handle → IsReached (moved to name) handle
    either handle (above, is) = elim (reached_or_aside nodes without_it dir bound is_unbound tree.one_name above handle is) [
      | inl still ↦ reached_still without_it (moved to name) (still_leads without_it (moved to name) to
          (new_name name) is_bound) handle still
      | inr both ↦ reached_by_name without_it (moved to name) to (new_name name) is_bound (to_reached place) both.0.0 handle both.0.1
    ]

    reached : (handle : Handle) → IsSome (moved to name handle) → IsReached (moved to name) handle
    reached handle some =
        either handle (tree.reached handle (some_by_kind (nodes handle) (moved to name handle)
        (sym (is_bound.kinds handle ∙ is_unbound.kinds handle)) some))
