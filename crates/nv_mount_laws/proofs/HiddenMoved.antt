-- The hidden files are one more where an open file moves among them.
use Rattle.std.proofs.Common.{◌≡◌, ◌≢◌, ◌∙◌, ◌<◌, ◌⊎◌, inl, inr, ℕ, true, List, Some, Ok, ap, arith, length, subst, sym}
use Rattle.nv_base.specs.declared.node.Kind.TheVariants.{File}
use Rattle.nv_base.specs.declared.numbers.Handle.{Handle}
use Rattle.nv_calls.specs.Refusals.{kind_of, lookup}
use Rattle.nv_entry.specs.Index.{with_last, without}
use Rattle.nv_entry.specs.Tree.{root}
use Rattle.nv_entry.specs.declared.node.NodeCopy.{NodeCopy}
use Rattle.nv_mount_beside.specs.Names.{hidden}
use Rattle.nv_mounted.specs.Side.{at_node}
use Rattle.nv_mounted.specs.Talks.{hidden_name_for}
use Rattle.nv_mounted.specs.declared.side.Side.{Side}
use Rattle.nv_serial.specs.Serial.{Serial, copies_now}
use Rattle.nv_mount_laws.specs.Hidden.{AreHidden, IsNameless, StandsHidden}
use Rattle.nv_mount_laws.proofs.Flags.{SameFlags, one_or_other}
use Rattle.nv_mount_laws.proofs.Effects.{Moves, kinds_differ}
use Rattle.nv_mount_laws.proofs.HiddenNames.{one_hidden}
use Rattle.nv_mount_laws.proofs.Names.{one_place, some_name_or_other}
use Rattle.nv_mount_laws.proofs.Standing.{IsWell}
use Rattle.nv_mount_laws.proofs.HiddenKept.{arrived_bound, arrived_last, hidden_there, left_bound, named_kind, not_root, other_than_hidden, same_bound, some_is, there_by}

-- ---- a name moves among the hidden ones

-- beside another node than one it says the same of opens and of names
pub record KeepsOtherFlags (s : Serial) (except : Handle) (old new : Side) : Type 0 where
  pub hidden : new.hidden ≡ old.hidden
  pub rows : length new.nodes.rows ≡ length old.nodes.rows
  pub there : (handle : Handle) (node : NodeCopy) → copies_now s handle ≡ Some node
      → handle ≢ except → SameFlags old new handle
  pub before : (handle : Handle) → handle ≢ except → (at_node new handle).nameless ≡ true
      → SameFlags old new handle

module _ (old new : Serial) (side new_side : Side) (dir : Handle) (name : List ℕ) (handle : Handle)
    (more : List ℕ)
    (was : AreHidden old side) (well : IsWell old)
    (moves : Moves old new dir name side.hidden more handle) (not_dir : dir ≢ side.hidden)
    (bound : lookup (copies_now old) dir name ≡ Some handle)
    (file : kind_of (copies_now old handle) ≡ Some File)
    (numbered : hidden_name_for handle ≡ Ok more) (flags : KeepsOtherFlags old handle side new_side)
    (nameless_now : (at_node new_side handle).nameless ≡ true)
    (open_now : 0 < (at_node new_side handle).opens) where
  -- no name there leads to it
  not_hidden : (other : List ℕ) → lookup (copies_now old) side.hidden other ≡ Some handle → ⊥
  not_hidden other there = not_dir (one_place (copies_now old) well.tree dir side.hidden name other
      handle bound there).0

  pub free_there : (there : Handle) → lookup (copies_now old) side.hidden more ≡ Some there → ⊥
  free_there there is =
      not_hidden more (is ∙ ap (λ (h : Handle). Some h)
      (one_hidden there handle more (was.only more there is).numbered numbered))

  kinds : (h : Handle) → kind_of (copies_now new h) ≡ kind_of (copies_now old h)
  kinds h = go (one_or_other h dir) (one_or_other h side.hidden) where
    go : (h ≡ dir) ⊎ (h ≢ dir) → (h ≡ side.hidden) ⊎ (h ≢ side.hidden) → kind_of (copies_now new h)
        ≡ kind_of (copies_now old h)
    go (inl same) at =
        ap (λ (i : Handle). kind_of (copies_now new i)) same ∙ ap kind_of moves.left
        ∙ named_kind (without name) (copies_now old dir)
        ∙ ap (λ (i : Handle). kind_of (copies_now old i)) (sym same)
    go (inr differ) (inl same) =
        ap (λ (i : Handle). kind_of (copies_now new i)) same ∙ ap kind_of moves.arrived
        ∙ named_kind (with_last more handle) (copies_now old side.hidden)
        ∙ ap (λ (i : Handle). kind_of (copies_now old i)) (sym same)
    go (inr differ) (inr apart) = ap kind_of (moves.same h differ apart)

  there_before : (h : Handle) (n : NodeCopy) → copies_now new h ≡ Some n → (m : NodeCopy)
      × (copies_now old h ≡ Some m)
  there_before h n is = there_by n.kind (copies_now old h) (sym (kinds h) ∙ ap kind_of is)

  others : (other : List ℕ) → more ≢ other → lookup (copies_now new) side.hidden other
      ≡ lookup (copies_now old) side.hidden other
  others other differ = arrived_bound (copies_now old) (copies_now new) side.hidden other more
      handle moves.to_is moves.arrived differ

  here : lookup (copies_now new) side.hidden more ≡ Some handle
  here = arrived_last (copies_now old) (copies_now new) side.hidden more handle moves.to_is
      moves.arrived

  placed : lookup (copies_now new) root hidden ≡ Some side.hidden
  placed = go (one_or_other dir root) where
    go : (dir ≡ root) ⊎ (dir ≢ root) → lookup (copies_now new) root hidden ≡ Some side.hidden
    go (inl same) =
        let at_root : lookup (copies_now old) root name ≡ Some handle =
        ap (λ (d : Handle). lookup (copies_now old) d name) (sym same) ∙ bound in
        let not_it : handle ≢ side.hidden = (λ one. kinds_differ (copies_now old) side.hidden handle
        was.directory file (sym one)) in
        let kept : lookup (copies_now new) dir hidden ≡ lookup (copies_now old) dir hidden =
        left_bound (copies_now old) (copies_now new) dir hidden name moves.from_is moves.left
        (other_than_hidden old side was well name handle at_root not_it) in
        ap (λ (d : Handle). lookup (copies_now new) d hidden) (sym same) ∙ kept
        ∙ ap (λ (d : Handle). lookup (copies_now old) d hidden) same ∙ was.place
    go (inr differ) =
        same_bound (copies_now old) (copies_now new) root hidden
        (moves.same root (λ same. differ (sym same))
        (λ same. not_root old side was well (sym same))) ∙ was.place

  hidden_same : side.hidden ≡ new_side.hidden
  hidden_same = sym flags.hidden

  -- THE HIDDEN FILES are one more
  pub moves_hidden : AreHidden new new_side
  moves_hidden = record {
    place = placed ∙ ap (λ (h : Handle). Some h) hidden_same;
    directory = ap (λ (h : Handle). kind_of (copies_now new h)) flags.hidden ∙ kinds side.hidden
        ∙ was.directory;
    stands = λ h n is nameless. stands h n is nameless (one_or_other h handle);
    kept = λ h nameless opened. kept h nameless opened (one_or_other h handle);
    only = λ other h at. only other h (ap (λ (d : Handle). lookup (copies_now new) d other)
        hidden_same ∙ at) (some_name_or_other more other);
    numbered = λ h nameless. numbered_so h nameless (one_or_other h handle);
    rows = (let less = was.rows in let many = moves.slots in let rows =
        flags.rows in omega (arith, less, many, rows));
  } where
    numbered_so : (h : Handle) → (at_node new_side h).nameless ≡ true → (h ≡ handle) ⊎ (h ≢ handle)
        → (name : List ℕ) × (hidden_name_for h ≡ Ok name)
    numbered_so h nameless (inl same) = (more, ap hidden_name_for same ∙ numbered)
    numbered_so h nameless (inr differ) = was.numbered h
        (sym (flags.before h differ nameless).nameless ∙ nameless)

    stands : (h : Handle) (n : NodeCopy) → copies_now new h ≡ Some n → (at_node new_side h).nameless
        ≡ true → (h ≡ handle) ⊎ (h ≢ handle)
        → StandsHidden new new_side h
    stands h n is nameless (inl same) = record {
      name = more;
      numbered = ap hidden_name_for same ∙ numbered;
      bound = ap (λ (d : Handle). lookup (copies_now new) d more) flags.hidden ∙ here
          ∙ ap (λ (i : Handle). Some i) (sym same);
    }
    stands h n is nameless (inr differ) =
        let there = there_before h n is in
        let stood = was.stands h there.0 there.1
        (sym (flags.there h there.0 there.1 differ).nameless ∙ nameless) in
        let other : more ≢ stood.name = (λ same. free_there h
        (ap (lookup (copies_now old) side.hidden) same ∙ stood.bound)) in
        record {
          name = stood.name;
          numbered = stood.numbered;
          bound = ap (λ (d : Handle). lookup (copies_now new) d stood.name) flags.hidden
              ∙ others stood.name other ∙ stood.bound;
        }

    kept : (h : Handle) → (at_node new_side h).nameless ≡ true → 0 < (at_node new_side h).opens
        → (h ≡ handle) ⊎ (h ≢ handle)
        → (n : NodeCopy) × (copies_now new h ≡ Some n)
    kept h nameless opened (inl same) =
        there_by File (copies_now new h) (kinds h
        ∙ ap (λ (i : Handle). kind_of (copies_now old i)) same ∙ file)
    kept h nameless opened (inr differ) =
        let same = flags.before h differ nameless in
        let there = was.kept h (sym same.nameless ∙ nameless)
        (subst (λ (n : ℕ). 0 < n) same.opens opened) in
        there_by there.0.kind (copies_now new h) (kinds h ∙ ap kind_of there.1)

    only : (other : List ℕ) (h : Handle) → lookup (copies_now new) side.hidden other ≡ Some h
        → (more ≡ other) ⊎ (more ≢ other)
        → IsNameless new new_side other h
    only other h at (inl same) =
        let one : h ≡ handle = some_is (sym at ∙ ap (lookup (copies_now new) side.hidden) (sym same)
        ∙ here) in
        record {
          file = kinds h ∙ ap (λ (i : Handle). kind_of (copies_now old i)) one ∙ file;
          is_open = subst (λ (i : Handle). 0 < (at_node new_side i).opens) (sym one) open_now;
          nameless = ap (λ (i : Handle). (at_node new_side i).nameless) one ∙ nameless_now;
          numbered = ap hidden_name_for one ∙ numbered ∙ ap (λ (n : List ℕ). Ok n) same;
        }
    only other h at (inr differ) =
        let at_before : lookup (copies_now old) side.hidden other ≡ Some h =
        sym (others other differ) ∙ at in
        let stood = was.only other h at_before in
        let there = hidden_there old side was well other h stood in
        let not_it : h ≢ handle = (λ same. not_hidden other
        (at_before ∙ ap (λ (i : Handle). Some i) same)) in
        let same = flags.there h there.0 there.1 not_it in
        record {
          file = kinds h ∙ stood.file;
          is_open = subst (λ (n : ℕ). 0 < n) (sym same.opens) stood.is_open;
          nameless = same.nameless ∙ stood.nameless;
          numbered = stood.numbered;
        }
