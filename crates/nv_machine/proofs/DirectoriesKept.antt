-- Directories stay a tree at every commit: what each call changes, where it is not refused, keeps it.
use Rattle.std.proofs.Common.{◌≡◌, ◌≢◌, ◌⊎◌, inl, inr, ℕ, Bool, true, false, cond, if◌then◌else◌, List, [], ◌∷◌, filter, Option, Some, None, arith, refl, ap, sym, subst, ◌∙◌}
use Rattle.std.proofs.Math.Path.{fun_ext}
use Rattle.std.specs.List.{Contains}
use Rattle.std.specs.Prelude.{is_some, Ok, Err}
use Rattle.nv_base.specs.Names.{same_name}
use Rattle.nv_base.specs.declared.fault.Fault.TheVariants as fault
use Rattle.nv_base.specs.declared.node.Kind.{Kind}
use Rattle.nv_base.specs.declared.node.Kind.TheVariants.{File, Dir}
use Rattle.nv_base.specs.declared.numbers.Handle.{Handle}
use Rattle.nv_calls.proofs.Passed.{HasKind, directory_passed, if_passed, lawful_passed}
use Rattle.nv_calls.specs.Plain.{Change, PlainNode, begins, change, goes, node_in, nodes_after, same_handle, with_names}
use Rattle.nv_calls.specs.Refusals.{Check, and_find, found, found_by, is_directory, kind_of, lookup, passes}
use Rattle.nv_calls.specs.calls.Create.{begin_effect, create_refusal}
use Rattle.nv_calls.specs.calls.Unlink.{leave_effect}
use Rattle.nv_entry.specs.Index.{bound_to, with_last, without}
use Rattle.nv_entry.specs.Tree.{names_under}
use Rattle.nv_entry.specs.declared.names.BoundName.{BoundName}
use Rattle.nv_entry.specs.declared.node.NodeCopy.{NodeCopy}
use Rattle.nv_machine.proofs.CopyMade.{unstamped}
use Rattle.nv_machine.proofs.DirectoriesBegun.{KeepsNames, stays_begun, stays_named}
use Rattle.nv_machine.proofs.DirectoriesChanged.{changed_at, changed_elsewhere, changed_here, found_in, other_handle, stays_left}
use Rattle.nv_machine.proofs.DirectoriesStay.{same_or, same_self}
use Rattle.nv_machine.specs.Directories.{AreTree, HasName, HaveOneName}

-- ---- what a commit changes, one node after another

abbrev pub changed_by : List Change → (Handle → Option NodeCopy) → Handle → Option NodeCopy
changed_by [] nodes handle = nodes handle
changed_by (c ∷ rest) nodes handle = if same_handle c.handle handle then c.becomes (nodes handle) else changed_by rest nodes handle

pub changed_nodes : (commit : ℕ) (changes : List Change) (nodes : Handle → Option PlainNode) (handle : Handle)
    → node_in (nodes_after commit changes nodes) handle ≡ changed_by changes (node_in nodes) handle
changed_nodes commit [] nodes handle = refl
changed_nodes commit (c ∷ rest) nodes handle = go (same_handle c.handle handle) refl (changed_nodes commit rest nodes handle) where
  go : (s : Bool) → same_handle c.handle handle ≡ s → node_in (nodes_after commit rest nodes) handle ≡ changed_by rest
      (node_in nodes) handle
      → node_in (nodes_after commit (c ∷ rest) nodes) handle ≡ changed_by (c ∷ rest) (node_in nodes) handle
  go true is later = rw is (unstamped commit (c.becomes (node_in nodes handle)))
  go false is later = rw is later

-- the first change, where no other is of its node
pub first_change : (at : Handle) (f : Option NodeCopy → Option NodeCopy) (rest : List Change) (nodes : Handle → Option NodeCopy)
    → changed_by rest nodes at ≡ nodes at → changed_by (change at f ∷ rest) nodes ≡ changed_at at f (changed_by rest nodes)
first_change at f rest nodes apart = fun_ext (λ handle. go handle (same_or handle at)) where
  here : changed_by (change at f ∷ rest) nodes at ≡ f (nodes at)
  here = rw (same_self at) refl

  go : (handle : Handle) → (handle ≡ at) ⊎ (handle ≢ at)
      → changed_by (change at f ∷ rest) nodes handle ≡ changed_at at f (changed_by rest nodes) handle
  go handle (inl same) =
      ap (changed_by (change at f ∷ rest) nodes) same ∙ here ∙ ap f (sym apart)
      ∙ sym (changed_here at f (changed_by rest nodes)) ∙ ap (changed_at at f (changed_by rest nodes)) (sym same)
  go handle (inr other) = rw (other_handle at handle (λ same. other (sym same))) refl

pub swapped : (a b : Handle) (f g : Option NodeCopy → Option NodeCopy) (nodes : Handle → Option NodeCopy) → a ≢ b
    → changed_at a f (changed_at b g nodes) ≡ changed_at b g (changed_at a f nodes)
swapped a b f g nodes differ = fun_ext (λ handle. go handle (same_or handle a)) where
  go : (handle : Handle) → (handle ≡ a) ⊎ (handle ≢ a) → changed_at a f (changed_at b g nodes) handle ≡ changed_at b g
      (changed_at a f nodes) handle
  go handle (inl same) =
      ap (changed_at a f (changed_at b g nodes)) same ∙ changed_here a f (changed_at b g nodes)
      ∙ ap f (changed_elsewhere b g nodes a differ) ∙ sym (changed_here a f nodes)
      ∙ sym (changed_elsewhere b g (changed_at a f nodes) a differ) ∙ ap (changed_at b g (changed_at a f nodes)) (sym same)
  go handle (inr other) = changed_elsewhere a f (changed_at b g nodes) handle other ∙ at_b (same_or handle b) where
    at_b : (handle ≡ b) ⊎ (handle ≢ b) → changed_at b g nodes handle ≡ changed_at b g (changed_at a f nodes) handle
    at_b (inl same) =
        ap (changed_at b g nodes) same ∙ changed_here b g nodes
        ∙ ap g (sym (changed_elsewhere a f nodes b (λ here. other (same ∙ here)))) ∙ sym (changed_here b g (changed_at a f nodes))
        ∙ ap (changed_at b g (changed_at a f nodes)) (sym same)
    at_b (inr apart) =
        changed_elsewhere b g nodes handle apart ∙ sym (changed_elsewhere a f nodes handle other)
        ∙ sym (changed_elsewhere b g (changed_at a f nodes) handle apart)

-- two changes of the names of one node are one
pub joined : (at : Handle) (f g : List BoundName → List BoundName) (nodes : Handle → Option NodeCopy)
    → changed_at at (with_names f) (changed_at at (with_names g) nodes) ≡ changed_at at (with_names (λ names. f (g names))) nodes
joined at f g nodes = fun_ext go where
  both : (node : Option NodeCopy) → with_names f (with_names g node) ≡ with_names (λ names. f (g names)) node
  both None = refl
  both (Some n) = refl

  go : (handle : Handle) → changed_at at (with_names f) (changed_at at (with_names g) nodes) handle ≡ changed_at at
      (with_names (λ names. f (g names))) nodes handle
  go handle = cases (same_handle at handle) refl where
    cases : (s : Bool) → same_handle at handle ≡ s
        → changed_at at (with_names f) (changed_at at (with_names g) nodes) handle ≡ changed_at at
        (with_names (λ names. f (g names))) nodes handle
    cases true is = rw is (both (nodes handle))
    cases false is = rw is refl

pub same_names : (at : Handle) (f g : List BoundName → List BoundName) (nodes : Handle → Option NodeCopy)
    → ((names : List BoundName) → f names ≡ g names)
    → changed_at at (with_names f) nodes ≡ changed_at at (with_names g) nodes
same_names at f g nodes same = ap (λ (h : List BoundName → List BoundName). changed_at at (with_names h) nodes) (fun_ext same)

-- ---- names that leave

pub filter_more : {X : Type 0} (p q : X → Bool) (xs : List X) → filter p (filter q (filter p xs)) ≡ filter p (filter q xs)
filter_more p q [] = refl
filter_more {X} p q (x ∷ xs) = go (p x) (q x) refl refl (filter_more p q xs) where
  go : (a b : Bool) → p x ≡ a → q x ≡ b → filter p (filter q (filter p xs)) ≡ filter p (filter q xs)
      → filter p (filter q (filter p (x ∷ xs))) ≡ filter p (filter q (x ∷ xs))
  go true true pa qb rest = rw (pa, qb) (rw pa (ap (λ l. x ∷ l) rest))
  go true false pa qb rest = rw (pa, qb) rest
  go false true pa qb rest = rw (pa, qb) (rw pa rest)
  go false false pa qb rest = rw (pa, qb) rest

pub filter_twice : {X : Type 0} (p : X → Bool) (xs : List X) → filter p (filter p xs) ≡ filter p xs
filter_twice p [] = refl
filter_twice {X} p (x ∷ xs) = go (p x) refl (filter_twice p xs) where
  go : (a : Bool) → p x ≡ a → filter p (filter p xs) ≡ filter p xs → filter p (filter p (x ∷ xs)) ≡ filter p (x ∷ xs)
  go true is rest = rw is (rw is (ap (λ l. x ∷ l) rest))
  go false is rest = rw is rest

pub left_none : (name : List ℕ) (names : List BoundName) → bound_to name (without name names) ≡ None
left_none name [] = refl
left_none name (b ∷ names) = go (same_name name b.name) refl (left_none name names) where
  go : (s : Bool) → same_name name b.name ≡ s → bound_to name (without name names) ≡ None → bound_to name (without name (b ∷ names)) ≡ None
  go true is rest = rw is rest
  go false is rest = rw is (rw is rest)

pub still_none : (name other : List ℕ) (names : List BoundName) → bound_to name names ≡ None → bound_to name (without other names) ≡ None
still_none name other [] is = refl
still_none name other (b ∷ names) is = go (same_name name b.name) (same_name other b.name) refl refl is (still_none name other names) where
  go : (s t : Bool) → same_name name b.name ≡ s → same_name other b.name ≡ t → cond s (Some b.to) (bound_to name names) ≡ None
      → (bound_to name names ≡ None → bound_to name (without other names) ≡ None) → bound_to name (without other (b ∷ names)) ≡ None
  go true t p q h rest = cc
  go false true p q h rest = rw q (rest h)
  go false false p q h rest = rw q (rw p (rest h))

-- ---- what the tests of a call tell

-- what is found is there
pub found_there : (check : Check) (to : Option Handle) (handle : Handle) → found_by (and_find check to) ≡ Some handle → to ≡ Some handle
found_there (Ok tt) to handle is = is
found_there (Err why) to handle is = cc

pub none_there : (check : Check) (to : Option Handle) → check ≡ passes → found_by (and_find check to) ≡ None → to ≡ None
none_there (Ok tt) to passed is = is
none_there (Err why) to passed is = cc

is_none : (to : Option Handle) → is_some to ≡ false → to ≡ None
is_none None is = refl
is_none (Some handle) is = cc

pub directory_of : (found : Option NodeCopy) → HasKind Dir found → is_directory (kind_of found) ≡ true
directory_of found has = ap (λ (n : Option NodeCopy). is_directory (kind_of n)) has.is
    ∙ ap (λ (k : Kind). is_directory (Some k)) has.kind_is

pub file_of : (found : Option NodeCopy) → HasKind File found → is_directory (kind_of found) ≡ false
file_of found has = ap (λ (n : Option NodeCopy). is_directory (kind_of n)) has.is ∙ ap (λ (k : Kind). is_directory (Some k)) has.kind_is

-- what is no directory has no names
pub no_names : (nodes : Handle → Option NodeCopy) → HaveOneName nodes → (handle : Handle) → is_directory (kind_of (nodes handle)) ≡ false
    → names_under nodes handle ≡ []
no_names nodes have handle other = go (names_under nodes handle) refl where
  go : (names : List BoundName) → names_under nodes handle ≡ names → names ≡ []
  go [] is = refl
  go (b ∷ names) is =
      let has : HasName nodes handle b = subst (λ l. Contains l b) (sym is) (0, omega arith, refl) in
      let z : true ≡ false = sym (have.named handle b has) ∙ other in cc

pub apart_by_kind : (nodes : Handle → Option NodeCopy) (a b : Handle) → is_directory (kind_of (nodes a)) ≡ true
    → is_directory (kind_of (nodes b)) ≡ false → a ≢ b
apart_by_kind nodes a b one other same = let z : true ≡ false = sym one ∙ ap (λ h. is_directory (kind_of (nodes h))) same ∙ other in cc

-- ---- each call, where it is not refused

module _ (nodes : Handle → Option NodeCopy) (tree : AreTree nodes) where
  -- a new inode's handle has no node
  pub begin_kept : (dir : Handle) (name : List ℕ) (kind : Kind) (mode : ℕ) (made : Handle) → create_refusal nodes dir name ≡ passes
      → nodes made ≡ None
      → AreTree (changed_by (begin_effect kind dir name mode made) nodes)
  begin_kept dir name kind mode made passed new =
      let d = directory_passed (nodes dir) _ passed in
      let free = if_passed (is_some (lookup nodes dir name)) fault.Exists passes (lawful_passed name _ d.1).1 in
      let directory = directory_of (nodes dir) d.0 in
      let apart : changed_by (change made (begins kind mode) ∷ []) nodes dir ≡ nodes dir =
      changed_elsewhere made (begins kind mode) nodes dir (some_apart dir made directory new) in
      subst AreTree
      (sym (first_change dir (with_names (with_last name made)) (change made (begins kind mode) ∷ []) nodes apart))
      (stays_begun nodes tree dir name kind mode made directory (is_none (lookup nodes dir name) free.0) new)
    where
      some_apart : (dir made : Handle) → is_directory (kind_of (nodes dir)) ≡ true → nodes made ≡ None → dir ≢ made
      some_apart dir made directory new same =
          let z : true ≡ false = sym directory ∙ ap (λ h. is_directory (kind_of (nodes h))) same
          ∙ ap (λ (n : Option NodeCopy). is_directory (kind_of n)) new in cc

  pub one_kept : (at : Handle) (f : Option NodeCopy → Option NodeCopy) → KeepsNames f → AreTree (changed_by (change at f ∷ []) nodes)
  one_kept at f keeps = subst AreTree (sym (first_change at f [] nodes refl)) (stays_named nodes tree at f keeps)

  -- a name leaves, and what it led to, which has no names
  pub leave_kept : (dir : Handle) (name : List ℕ) (to : Handle) → lookup nodes dir name ≡ Some to → names_under nodes to ≡ []
      → AreTree (changed_by (leave_effect dir name (Some to)) nodes)
  leave_kept dir name to is none =
      subst AreTree
      (swapped to dir goes (with_names (without name)) nodes (λ same. apart (sym same))
      ∙ sym (first_change dir (with_names (without name)) (change to goes ∷ []) nodes (changed_elsewhere to goes nodes dir apart)))
      (stays_left nodes tree dir (record { name = name; to = to }) has none)
    where
      has : HasName nodes dir (record { name = name; to = to })
      has = found_in name (names_under nodes dir) to is

      apart : dir ≢ to
      apart same =
          absurd (let lt = (subst (λ names. Contains names (record { name = name; to = to }))
          (ap (names_under nodes) same ∙ none) has).1 in omega (arith, lt))
