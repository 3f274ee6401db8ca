-- The hidden files stay so where a file is unlinked.
use Rattle.std.proofs.Common.{◌≡◌, ◌≢◌, ◌∙◌, ◌<◌, ◌⊎◌, inl, inr, ℕ, true, List, Option, Some, None, ap, arith, length, refl, subst, sym}
use Rattle.nv_base.specs.declared.node.Kind.{Kind}
use Rattle.nv_base.specs.declared.node.Kind.TheVariants.{File, Dir}
use Rattle.nv_base.specs.declared.numbers.Handle.{Handle}
use Rattle.nv_calls.specs.Plain.{with_names}
use Rattle.nv_calls.specs.Refusals.{kind_of, lookup}
use Rattle.nv_entry.specs.Index.{bound_to, with_last, without}
use Rattle.nv_entry.specs.Tree.{names_of_node, names_under, root}
use Rattle.nv_entry.specs.declared.names.BoundName.{BoundName}
use Rattle.nv_entry.specs.declared.node.NodeCopy.{NodeCopy}
use Rattle.nv_mount_beside.specs.Names.{hidden}
use Rattle.nv_mounted.specs.Side.{at_node}
use Rattle.nv_mounted.specs.declared.side.Side.{Side}
use Rattle.nv_serial.specs.Serial.{Serial, copies_now}
use Rattle.nv_mount_laws.specs.Hidden.{AreHidden, IsNameless}
use Rattle.nv_machine.proofs.DirectoriesChanged.{found_in}
use Rattle.nv_mount_laws.proofs.Flags.{KeepsFlags, one_or_other, same_flags}
use Rattle.nv_mount_laws.proofs.Effects.{Leaves}
use Rattle.nv_mount_laws.proofs.Names.{bound_left, bound_other, names_changed}
use Rattle.nv_mount_laws.proofs.Standing.{IsWell}
use Rattle.nv_effects.proofs.Visits.{bound_last}

-- a node of some kind is there
pub there_by : (kind : Kind) (node : Option NodeCopy) → kind_of node ≡ Some kind → (n : NodeCopy)
    × (node ≡ Some n)
there_by kind None is = cc
there_by kind (Some node) is = (node, refl)

-- what has other names is there as before, and of its kind
pub named_kind : (f : List BoundName → List BoundName) (node : Option NodeCopy)
    → kind_of (with_names f node) ≡ kind_of node
named_kind f None = refl
named_kind f (Some node) = refl

pub named_there : (f : List BoundName → List BoundName) (node : Option NodeCopy) (n : NodeCopy)
    → with_names f node ≡ Some n
    → (m : NodeCopy) × (node ≡ Some m)
named_there f None n is = cc
named_there f (Some node) n is = (node, refl)

-- what a name was bound to in a directory that lost another one
pub left_bound : (nodes after : Handle → Option NodeCopy) (dir : Handle) (name other : List ℕ)
    → kind_of (nodes dir) ≡ Some Dir
    → after dir ≡ with_names (without other) (nodes dir) → other ≢ name → lookup after dir name
    ≡ lookup nodes dir name
left_bound nodes after dir name other kind is differ =
    let there = there_by Dir (nodes dir) kind in
    ap (bound_to name) (names_changed nodes after dir (without other) there.0 there.1 is)
    ∙ bound_left name other (names_under nodes dir) differ

-- what a name was bound to in a directory that got another one
pub arrived_bound : (nodes after : Handle → Option NodeCopy) (dir : Handle) (name other : List ℕ)
    (to : Handle) → kind_of (nodes dir) ≡ Some Dir
    → after dir ≡ with_names (with_last other to) (nodes dir) → other ≢ name → lookup after dir name
    ≡ lookup nodes dir name
arrived_bound nodes after dir name other to kind is differ =
    let there = there_by Dir (nodes dir) kind in
    ap (bound_to name) (names_changed nodes after dir (with_last other to) there.0 there.1 is)
    ∙ bound_other name other to (names_under nodes dir) differ

-- and the name that it got
pub arrived_last : (nodes after : Handle → Option NodeCopy) (dir : Handle) (name : List ℕ)
    (to : Handle) → kind_of (nodes dir) ≡ Some Dir
    → after dir ≡ with_names (with_last name to) (nodes dir) → lookup after dir name ≡ Some to
arrived_last nodes after dir name to kind is =
    let there = there_by Dir (nodes dir) kind in
    ap (bound_to name) (names_changed nodes after dir (with_last name to) there.0 there.1 is)
    ∙ bound_last name to (names_under nodes dir)

-- what a name is bound to in a directory that is as it was
pub same_bound : (nodes after : Handle → Option NodeCopy) (dir : Handle) (name : List ℕ) → after dir
    ≡ nodes dir
    → lookup after dir name ≡ lookup nodes dir name
same_bound nodes after dir name is = ap (λ (n : Option NodeCopy). bound_to name (names_of_node n))
    is

no_node : {A P : Type 0} {a : A} → None ≡ Some a → P
no_node e = cc

pub some_is : {A : Type 0} {a b : A} → Some a ≡ Some b → a ≡ b
some_is e = cc

module _ (old : Serial) (side : Side) (was : AreHidden old side) (well : IsWell old) where
  -- the hidden directory is not the root
  pub not_root : side.hidden ≢ root
  not_root same =
      well.tree.one_name.unnamed root (
        record { name = hidden; to = root },
        found_in hidden (names_under (copies_now old) root) root
            (was.place ∙ ap (λ (h : Handle). Some h) same),
        refl,
      )

  -- a name that leads to another node is not the hidden directory's
  pub other_than_hidden : (name : List ℕ) (to : Handle) → lookup (copies_now old) root name
      ≡ Some to → to ≢ side.hidden → name ≢ hidden
  other_than_hidden name to bound differ same =
      differ (some_is (sym bound ∙ ap (λ (n : List ℕ). lookup (copies_now old) root n) same
      ∙ was.place))

  -- what stands among the hidden ones is there
  pub hidden_there : (name : List ℕ) (handle : Handle) → IsNameless old side name handle
      → (n : NodeCopy) × (copies_now old handle ≡ Some n)
  hidden_there name handle is = there_by File (copies_now old handle) is.file

-- beside nodes that are there it says the same of names, no hidden file is closed, and no other is
-- one
pub record KeepsHiddenFlags (s : Serial) (old new : Side) : Type 0 where
  pub hidden : new.hidden ≡ old.hidden
  pub rows : length new.nodes.rows ≡ length old.nodes.rows
  pub nameless : (handle : Handle) (node : NodeCopy) → copies_now s handle ≡ Some node
      → (at_node new handle).nameless ≡ (at_node old handle).nameless
  pub opens : (handle : Handle) (node : NodeCopy) → copies_now s handle ≡ Some node
      → (at_node old handle).nameless ≡ true
      → 0 < (at_node old handle).opens → 0 < (at_node new handle).opens
  pub before : (handle : Handle) → (at_node new handle).nameless ≡ true
      → 0 < (at_node new handle).opens
      → ((at_node old handle).nameless ≡ true) × (0 < (at_node old handle).opens)
  pub unnamed : (handle : Handle) → (at_node new handle).nameless ≡ true
      → (at_node old handle).nameless ≡ true

pub hidden_flags : (s : Serial) (old new : Side) → KeepsFlags s old new → KeepsHiddenFlags s old new
hidden_flags s old new flags = record {
  hidden = flags.hidden;
  rows = flags.rows;
  nameless = λ handle n is. (flags.there handle n is).nameless;
  opens = λ handle n is nameless opened. subst (λ (k : ℕ). 0 < k)
      (sym (flags.there handle n is).opens) opened;
  before = λ handle nameless opened.
      let same = flags.before handle nameless in
      (sym same.nameless ∙ nameless, subst (λ (k : ℕ). 0 < k) same.opens opened);
  unnamed = λ handle nameless. sym (flags.before handle nameless).nameless ∙ nameless;
}

pub same_hidden_flags : (s : Serial) (old new : Side) → new ≡ old → KeepsHiddenFlags s old new
same_hidden_flags s old new same =
    subst (λ (side : Side). KeepsHiddenFlags s old side) (sym same)
    (hidden_flags s old old (same_flags s old))

-- THE HIDDEN FILES stay so where nothing changes of the world, and nothing of them beside it
pub flags_hidden : (s : Serial) (side new_side : Side) → AreHidden s side → IsWell s
    → KeepsHiddenFlags s side new_side → AreHidden s new_side
flags_hidden s side new_side was well flags =
    let hidden_is : side.hidden ≡ new_side.hidden = sym flags.hidden in
    record {
      place = was.place ∙ ap (λ (h : Handle). Some h) hidden_is;
      directory = ap (λ (h : Handle). kind_of (copies_now s h)) flags.hidden ∙ was.directory;
      stands = λ handle n is nameless.
          let stood = was.stands handle n is (sym (flags.nameless handle n is) ∙ nameless) in
          record {
            name = stood.name;
            numbered = stood.numbered;
            bound = ap (λ (h : Handle). lookup (copies_now s) h stood.name) flags.hidden
                ∙ stood.bound;
          };
      kept = λ handle nameless opened. let both =
          flags.before handle nameless opened in was.kept handle both.0 both.1;
      only = λ more handle bound.
          let stood = was.only more handle (ap (λ (h : Handle). lookup (copies_now s) h more)
          hidden_is ∙ bound) in
          let there = hidden_there s side was well more handle stood in
          record {
            file = stood.file;
            is_open = flags.opens handle there.0 there.1 stood.nameless stood.is_open;
            nameless = flags.nameless handle there.0 there.1 ∙ stood.nameless;
            numbered = stood.numbered;
          };
      numbered = λ handle nameless. was.numbered handle (flags.unnamed handle nameless);
      rows = (let less = was.rows in let rows = flags.rows in omega (arith, less, rows));
    }

-- ---- what changes elsewhere

module _ (old new : Serial) (side new_side : Side) (was : AreHidden old side) (well : IsWell old)
    (place : lookup (copies_now new) root hidden ≡ lookup (copies_now old) root hidden)
    (same_directory : copies_now new side.hidden ≡ copies_now old side.hidden)
    (before : (handle : Handle) (n : NodeCopy) → copies_now new handle ≡ Some n
    → (at_node new_side handle).nameless ≡ true → (m : NodeCopy) × (copies_now old handle ≡ Some m))
    (after : (handle : Handle) → (at_node side handle).nameless ≡ true
    → 0 < (at_node side handle).opens
    → kind_of (copies_now new handle) ≡ kind_of (copies_now old handle))
    (slots : length new.slots ≡ length old.slots) (flags : KeepsFlags old side new_side) where
  same_names : (more : List ℕ) → lookup (copies_now new) side.hidden more
      ≡ lookup (copies_now old) side.hidden more
  same_names more = same_bound (copies_now old) (copies_now new) side.hidden more same_directory

  hidden_is : side.hidden ≡ new_side.hidden
  hidden_is = sym flags.hidden

  -- THE HIDDEN FILES stay so where their names stay, and each of them is there still
  pub elsewhere_hidden : AreHidden new new_side
  elsewhere_hidden = record {
    place = place ∙ was.place ∙ ap (λ (h : Handle). Some h) hidden_is;
    directory = ap (λ (h : Handle). kind_of (copies_now new h)) flags.hidden
        ∙ ap kind_of same_directory ∙ was.directory;
    stands = λ handle n is nameless.
        let there = before handle n is nameless in
        let stood = was.stands handle there.0 there.1
        (sym (flags.there handle there.0 there.1).nameless ∙ nameless) in
        record {
          name = stood.name;
          numbered = stood.numbered;
          bound = ap (λ (h : Handle). lookup (copies_now new) h stood.name) flags.hidden
              ∙ same_names stood.name ∙ stood.bound;
        };
    kept = λ handle nameless opened.
        let same = flags.before handle nameless in
        let nameless_before = sym same.nameless ∙ nameless in
        let open_before : 0 < (at_node side handle).opens =
        subst (λ (n : ℕ). 0 < n) same.opens opened in
        let there = was.kept handle nameless_before open_before in
        there_by there.0.kind (copies_now new handle)
        (after handle nameless_before open_before ∙ ap kind_of there.1);
    only = λ more handle bound.
        let bound_before : lookup (copies_now old) side.hidden more ≡ Some handle =
        sym (same_names more) ∙ ap (λ (h : Handle). lookup (copies_now new) h more) hidden_is
        ∙ bound in
        let stood = was.only more handle bound_before in
        let there = hidden_there old side was well more handle stood in
        let same = flags.there handle there.0 there.1 in
        record {
          file = after handle stood.nameless stood.is_open ∙ stood.file;
          is_open = subst (λ (n : ℕ). 0 < n) (sym same.opens) stood.is_open;
          nameless = same.nameless ∙ stood.nameless;
          numbered = stood.numbered;
        };
    numbered = λ handle nameless. was.numbered handle
        (sym (flags.before handle nameless).nameless ∙ nameless);
    rows = (let less = was.rows in let many = slots in let rows =
        flags.rows in omega (arith, less, many, rows));
  }

-- ---- a name leaves

module _ (old new : Serial) (side new_side : Side) (dir : Handle) (name : List ℕ) (to : Handle)
    (was : AreHidden old side) (well : IsWell old)
    (leaves : Leaves old new dir name to) (not_dir : dir ≢ side.hidden) (not_to : to ≢ side.hidden)
    (named_to : (at_node side to).nameless ≡ true → 0 < (at_node side to).opens → ⊥)
    (flags : KeepsFlags old side new_side) where
  same_directory : copies_now new side.hidden ≡ copies_now old side.hidden
  same_directory = leaves.same side.hidden (λ same. not_dir (sym same)) (λ same. not_to (sym same))

  still_placed : lookup (copies_now new) root hidden ≡ Some side.hidden
  still_placed = go (one_or_other dir root) where
    go : (dir ≡ root) ⊎ (dir ≢ root) → lookup (copies_now new) root hidden ≡ Some side.hidden
    go (inl same) =
        let at_root : lookup (copies_now old) root name ≡ Some to =
        ap (λ (d : Handle). lookup (copies_now old) d name) (sym same) ∙ leaves.bound in
        let kept : lookup (copies_now new) dir hidden ≡ lookup (copies_now old) dir hidden =
        left_bound (copies_now old) (copies_now new) dir hidden name leaves.dir_is leaves.left
        (other_than_hidden old side was well name to at_root not_to) in
        ap (λ (d : Handle). lookup (copies_now new) d hidden) (sym same) ∙ kept
        ∙ ap (λ (d : Handle). lookup (copies_now old) d hidden) same ∙ was.place
    go (inr differ) =
        let not_top : root ≢ to = (λ same. well.tree.one_name.unnamed dir (
          record { name = name; to = to },
          found_in name (names_under (copies_now old) dir) to
              leaves.bound,
          sym same,
        )) in
        same_bound (copies_now old) (copies_now new) root hidden
        (leaves.same root (λ same. differ (sym same)) not_top) ∙ was.place

  -- what is there was there
  before : (handle : Handle) (n : NodeCopy) → copies_now new handle ≡ Some n → (m : NodeCopy)
      × (copies_now old handle ≡ Some m)
  before handle n is = go (one_or_other handle dir) where
    other : handle ≢ dir → (handle ≡ to) ⊎ (handle ≢ to) → (m : NodeCopy)
        × (copies_now old handle ≡ Some m)
    other differ (inl same) =
        no_node (sym (leaves.gone (λ here. differ (same ∙ here))) ∙ ap (copies_now new) (sym same)
        ∙ is)
    other differ (inr apart) = (n, sym (leaves.same handle differ apart) ∙ is)

    go : (handle ≡ dir) ⊎ (handle ≢ dir) → (m : NodeCopy) × (copies_now old handle ≡ Some m)
    go (inl same) =
        let m = named_there (without name) (copies_now old dir) n
        (sym leaves.left ∙ ap (copies_now new) (sym same) ∙ is) in
        (m.0, ap (copies_now old) same ∙ m.1)
    go (inr differ) = other differ (one_or_other handle to)

  -- what does not go is there, and of its kind
  after : (handle : Handle) → handle ≢ to → kind_of (copies_now new handle)
      ≡ kind_of (copies_now old handle)
  after handle not_it = go (one_or_other handle dir) where
    go : (handle ≡ dir) ⊎ (handle ≢ dir) → kind_of (copies_now new handle)
        ≡ kind_of (copies_now old handle)
    go (inl same) =
        ap (λ (h : Handle). kind_of (copies_now new h)) same ∙ ap kind_of leaves.left
        ∙ named_kind (without name) (copies_now old dir)
        ∙ ap (λ (h : Handle). kind_of (copies_now old h)) (sym same)
    go (inr differ) = ap kind_of (leaves.same handle differ not_it)

  -- THE HIDDEN FILES stay so where a name leaves that is none of theirs
  pub leaves_hidden : AreHidden new new_side
  leaves_hidden =
      elsewhere_hidden old new side new_side was well (still_placed ∙ sym was.place) same_directory
      (λ handle n is nameless. before handle n is)
      (λ handle nameless opened. after handle (λ one. named_to
      (subst (λ (h : Handle). (at_node side h).nameless ≡ true) one nameless)
      (subst (λ (h : Handle). 0 < (at_node side h).opens) one opened)))
      leaves.slots flags
