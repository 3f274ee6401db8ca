-- A release leaves the hidden files hidden, and other open files as they are. The last one of a
-- file without a name takes it away.
use Rattle.std.proofs.Common.{◌≡◌, ◌≢◌, ◌∙◌, ◌^◌, ◌<◌, ◌⊎◌, inl, inr, ℕ, Bool, true, false, List, Some, None, Ok, ap, arith, length, refl, subst, sym}
use Rattle.std.specs.Prelude.{◌||◌, nat_lt, not}
use Rattle.std.proofs.lemmas.Bool.{ltb-false, ltb-true}
use Rattle.nv_base.specs.declared.node.Kind.TheVariants.{File, Dir}
use Rattle.nv_base.specs.declared.numbers.Handle.{Handle}
use Rattle.nv_calls.specs.Refusals.{kind_of, lookup}
use Rattle.nv_calls.specs.declared.call.Call.TheVariants as calls
use Rattle.nv_entry.specs.Index.{bound_to, without}
use Rattle.nv_entry.specs.Tree.{names_under, root}
use Rattle.nv_entry.specs.declared.node.NodeCopy.{NodeCopy}
use Rattle.nv_machine.proofs.DirectoriesChanged.{found_in}
use Rattle.nv_machine.proofs.DirectoriesKept.{left_none}
use Rattle.nv_effects.specs.Effects.{HasEffect}
use Rattle.nv_effects.proofs.Effects.{calls_have_effects}
use Rattle.nv_mount_answers.specs.Nodes.{node_of}
use Rattle.nv_mount_answers.proofs.OneToOne.{one_to_one}
use Rattle.nv_mount_beside.specs.Beside.{released}
use Rattle.nv_mount_beside.specs.Names.{hidden, hidden_name}
use Rattle.nv_mount_beside.specs.declared.beside.Beside.{Beside}
use Rattle.nv_mounted.specs.Side.{at_node, put_node}
use Rattle.nv_mounted.specs.Talks.{hidden_name_for}
use Rattle.nv_mounted.specs.declared.side.Side.{Side}
use Rattle.nv_serial.specs.Serial.{Serial, copies_now}
use Rattle.nv_mount_laws.specs.Hidden.{AreHidden, IsNameless}
use Rattle.nv_mount_laws.proofs.Asked.{Answered}
use Rattle.nv_mount_laws.proofs.Effects.{Leaves, kinds_differ, unlink_leaves}
use Rattle.nv_mount_laws.proofs.Flags.{one_or_other}
use Rattle.nv_mount_laws.proofs.HiddenKept.{KeepsHiddenFlags, flags_hidden, left_bound, named_kind, not_root, same_bound, there_by}
use Rattle.nv_mount_laws.proofs.HiddenNames.{Numbered, named_handle, numbered}
use Rattle.nv_mount_laws.proofs.Names.{names_changed, one_place, some_name_or_other}
use Rattle.nv_mount_laws.proofs.Rows.{beside_generation, many_rows}
use Rattle.nv_mount_laws.proofs.Standing.{IsWell}
use Rattle.nv_mount_laws.proofs.Released.{Releases, no_open, open_here, open_there, stays_there}

-- ---- a release of a file that is open

some_is : {A : Type 0} {a b : A} → Some a ≡ Some b → a ≡ b
some_is e = cc

no_node : {A P : Type 0} {a : A} → None ≡ Some a → P
no_node e = cc

no_step : {P : Type 0} → true ≡ false → P
no_step e = cc

neither : (opens : ℕ) (nameless : Bool) → (nat_lt 0 opens || not nameless) ≡ false → (opens ≡ 0)
    × (nameless ≡ true)
neither opens nameless is = go (nat_lt 0 opens) nameless refl is where
  none : nat_lt 0 opens ≡ false → opens ≡ 0
  none is = let few = ltb-false 0 opens is in omega (arith, few)

  go : (t n : Bool) → nat_lt 0 opens ≡ t → (t || not n) ≡ false → (opens ≡ 0) × (n ≡ true)
  go true n so e = no_step e
  go false true so e = (none so, refl)
  go false false so e = no_step e

some_open : (opens : ℕ) (nameless : Bool) → (nat_lt 0 opens || not nameless) ≡ true → nameless
    ≡ true → 0 < opens
some_open opens nameless is without = go (nat_lt 0 opens) refl where
  go : (t : Bool) → nat_lt 0 opens ≡ t → 0 < opens
  go true so = ltb-true 0 opens so
  go false so =
      let z : (nat_lt 0 opens || not nameless) ≡ false = ap (λ (b : Bool). b || not nameless) so
      ∙ ap not without in
      no_step (sym is ∙ z)

module _ (old new : Serial) (side new_side : Side) (number : ℕ) (small : number < 2 ^ 64)
    (was : AreHidden old side) (well : IsWell old)
    (done : Releases old side number new new_side) (opened : 0 < (at_node side done.handle).opens)
  where
    abbrev handle : Handle
    handle = done.handle

    abbrev b : Beside
    b = released (at_node side handle)

    own : b.generation ≡ handle.generation
    own = beside_generation side.nodes handle

    moved : (h : Handle) → at_node new_side h ≡ at_node (put_node handle b side) h
    moved h = ap (λ (s : Side). at_node s h) done.side_is

    here : at_node new_side handle ≡ b
    here = moved handle ∙ open_here side handle opened b own

    others : (h : Handle) → h ≢ handle → at_node new_side h ≡ at_node side h
    others h differ = moved h ∙ open_there side handle opened b own h differ

    same_rows : length new_side.nodes.rows ≡ length side.nodes.rows
    same_rows = ap (λ (s : Side). length s.nodes.rows) done.side_is ∙ many_rows side.nodes handle b

    -- where it stays, the hidden files do
    flags : stays_there b ≡ true → KeepsHiddenFlags old side new_side
    flags there = record {
      hidden = ap (λ (s : Side). s.hidden) done.side_is;
      rows = same_rows;
      nameless = λ h n is. nameless h (one_or_other h handle);
      opens = λ h n is without open_before. opens h without open_before (one_or_other h handle);
      before = λ h without open_now. before h without open_now (one_or_other h handle);
      unnamed = λ h without. sym (nameless h (one_or_other h handle)) ∙ without;
    } where
      nameless : (h : Handle) → (h ≡ handle) ⊎ (h ≢ handle) → (at_node new_side h).nameless
          ≡ (at_node side h).nameless
      nameless h (inl same) =
          subst (λ (i : Handle). (at_node new_side i).nameless ≡ (at_node side i).nameless) (sym same)
          (ap (λ (r : Beside). r.nameless) here)
      nameless h (inr differ) = ap (λ (r : Beside). r.nameless) (others h differ)

      opens : (h : Handle) → (at_node side h).nameless ≡ true → 0 < (at_node side h).opens
          → (h ≡ handle) ⊎ (h ≢ handle)
          → 0 < (at_node new_side h).opens
      opens h without open_before (inl same) =
          let still : 0 < b.opens =
          some_open b.opens b.nameless there (subst (λ (i : Handle). (at_node side i).nameless ≡ true)
          same without) in
          subst (λ (i : Handle). 0 < (at_node new_side i).opens) (sym same)
          (subst (λ (r : Beside). 0 < r.opens) (sym here) still)
      opens h without open_before (inr differ) =
          subst (λ (r : Beside). 0 < r.opens) (sym (others h differ)) open_before

      before : (h : Handle) → (at_node new_side h).nameless ≡ true → 0 < (at_node new_side h).opens
          → (h ≡ handle) ⊎ (h ≢ handle)
          → ((at_node side h).nameless ≡ true) × (0 < (at_node side h).opens)
      before h without open_now (inl same) = (
        sym (nameless h (inl same)) ∙ without,
        subst (λ (i : Handle). 0 < (at_node side i).opens) (sym same) opened,
      )
      before h without open_now (inr differ) = (
        sym (nameless h (inr differ)) ∙ without,
        subst (λ (r : Beside). 0 < r.opens) (others h differ) open_now,
      )

    -- the name under which it stands
    named_so : (name : List ℕ) → Numbered handle name → name ≡ hidden_name number
    named_so name known =
        let forth : node_of handle ≡ Some number =
        one_to_one.forth handle number small (named_handle number handle done.handle_is) in
        let same : known.node ≡ number = some_is (sym known.is ∙ forth) in known.name_is
        ∙ ap hidden_name same

    module _ (last : stays_there b ≡ false) (gone : Answered old
        (calls.Unlink side.hidden (hidden_name number)) new) where
      abbrev name : List ℕ
      name = hidden_name number

      closed : (b.opens ≡ 0) × ((at_node side handle).nameless ≡ true)
      closed = neither b.opens b.nameless last

      there : (n : NodeCopy) × (copies_now old handle ≡ Some n)
      there = was.kept handle closed.1 opened

      at_name : lookup (copies_now old) side.hidden name ≡ Some handle
      at_name =
          let stood = was.stands handle there.0 there.1 closed.1 in
          ap (lookup (copies_now old) side.hidden)
          (sym (named_so stood.name (numbered handle stood.name stood.numbered))) ∙ stood.bound

      file : kind_of (copies_now old handle) ≡ Some File
      file = (was.only name handle at_name).file

      abbrev effect : (made : Handle) × HasEffect old 0 (calls.Unlink side.hidden name) made
          gone.answer new
      effect = calls_have_effects old new 0 (calls.Unlink side.hidden name) gone.answer refl gone.is

      abbrev left : (to : Handle) × Leaves old new side.hidden name to
          × (kind_of (copies_now old to) ≡ Some File)
      left = unlink_leaves old new side.hidden name effect.0 gone.answer effect.1

      leaves : Leaves old new side.hidden name handle
      leaves = subst (λ (h : Handle). Leaves old new side.hidden name h)
          (some_is (sym left.1.bound ∙ at_name)) left.1

      not_directory : handle ≢ side.hidden
      not_directory same = kinds_differ (copies_now old) side.hidden handle was.directory file
          (sym same)

      directory : kind_of (copies_now new side.hidden) ≡ Some Dir
      directory = ap kind_of leaves.left ∙ named_kind (without name) (copies_now old side.hidden)
          ∙ was.directory

      other_names : (more : List ℕ) → name ≢ more → lookup (copies_now new) side.hidden more
          ≡ lookup (copies_now old) side.hidden more
      other_names more differ = left_bound (copies_now old) (copies_now new) side.hidden more name
          was.directory leaves.left differ

      no_name : lookup (copies_now new) side.hidden name ≡ None
      no_name =
          let dir = there_by Dir (copies_now old side.hidden) was.directory in
          ap (bound_to name) (names_changed (copies_now old) (copies_now new) side.hidden
          (without name) dir.0 dir.1 leaves.left)
          ∙ left_none name (names_under (copies_now old) side.hidden)

      kinds : (h : Handle) → h ≢ handle → kind_of (copies_now new h) ≡ kind_of (copies_now old h)
      kinds h differ = go (one_or_other h side.hidden) where
        go : (h ≡ side.hidden) ⊎ (h ≢ side.hidden) → kind_of (copies_now new h)
            ≡ kind_of (copies_now old h)
        go (inl same) =
            ap (λ (i : Handle). kind_of (copies_now new i)) same ∙ directory ∙ sym was.directory
            ∙ ap (λ (i : Handle). kind_of (copies_now old i)) (sym same)
        go (inr apart) = ap kind_of (leaves.same h apart differ)

      hidden_is : side.hidden ≡ new_side.hidden
      hidden_is = ap (λ (s : Side). s.hidden) (sym done.side_is)

      placed : lookup (copies_now new) root hidden ≡ Some side.hidden
      placed =
          let not_file : root ≢ handle = (λ same. well.tree.one_name.unnamed side.hidden (
            record { name = name; to = root },
            found_in name (names_under (copies_now old) side.hidden) root
                (at_name ∙ ap (λ (h : Handle). Some h) (sym same)),
            refl,
          )) in
          same_bound (copies_now old) (copies_now new) root hidden
          (leaves.same root (λ same. not_root old side was well (sym same)) not_file) ∙ was.place

      not_gone : (h : Handle) (n : NodeCopy) → copies_now new h ≡ Some n → h ≢ handle
      not_gone h n is same = no_node (sym (leaves.gone not_directory) ∙ ap (copies_now new) (sym same)
          ∙ is)

      pub last_hidden : AreHidden new new_side
      last_hidden = record {
        place = placed ∙ ap (λ (h : Handle). Some h) hidden_is;
        directory = ap (λ (h : Handle). kind_of (copies_now new h)) (sym hidden_is) ∙ directory;
        stands = λ h n is nameless.
            let differ = not_gone h n is in
            let before = there_by n.kind (copies_now old h) (sym (kinds h differ) ∙ ap kind_of is) in
            let stood = was.stands h before.0 before.1
            (ap (λ (r : Beside). r.nameless) (sym (others h differ)) ∙ nameless) in
            let other : name ≢ stood.name = (λ same. differ
            (some_is (sym stood.bound ∙ ap (lookup (copies_now old) side.hidden) (sym same)
            ∙ at_name))) in
            record {
              name = stood.name;
              numbered = stood.numbered;
              bound = ap (λ (d : Handle). lookup (copies_now new) d stood.name) (sym hidden_is)
                  ∙ other_names stood.name other ∙ stood.bound;
            };
        kept = λ h nameless open_now. kept h nameless open_now (one_or_other h handle);
        only = λ more h at. only more h (ap (λ (d : Handle). lookup (copies_now new) d more) hidden_is
            ∙ at) (some_name_or_other name more);
        numbered = λ h nameless. numbered_so h nameless (one_or_other h handle);
        rows = (let less = was.rows in let many = leaves.slots in let rows =
            same_rows in omega (arith, less, many, rows));
      } where
        numbered_so : (h : Handle) → (at_node new_side h).nameless ≡ true
            → (h ≡ handle) ⊎ (h ≢ handle) → (more : List ℕ) × (hidden_name_for h ≡ Ok more)
        numbered_so h nameless (inl same) =
            was.numbered h (ap (λ (i : Handle). (at_node side i).nameless) same ∙ closed.1)
        numbered_so h nameless (inr differ) =
            was.numbered h (ap (λ (r : Beside). r.nameless) (sym (others h differ)) ∙ nameless)

        kept : (h : Handle) → (at_node new_side h).nameless ≡ true → 0 < (at_node new_side h).opens
            → (h ≡ handle) ⊎ (h ≢ handle)
            → (n : NodeCopy) × (copies_now new h ≡ Some n)
        kept h nameless open_now (inl same) =
            no_open (at_node new_side h).opens open_now
            (ap (λ (i : Handle). (at_node new_side i).opens) same
            ∙ ap (λ (r : Beside). r.opens) here ∙ closed.0)
        kept h nameless open_now (inr differ) =
            let known = was.kept h (ap (λ (r : Beside). r.nameless) (sym (others h differ))
            ∙ nameless)
            (subst (λ (r : Beside). 0 < r.opens) (others h differ) open_now) in
            there_by known.0.kind (copies_now new h) (kinds h differ ∙ ap kind_of known.1)

        only : (more : List ℕ) (h : Handle) → lookup (copies_now new) side.hidden more ≡ Some h
            → (name ≡ more) ⊎ (name ≢ more)
            → IsNameless new new_side more h
        only more h at (inl same) = no_node (sym no_name
            ∙ ap (lookup (copies_now new) side.hidden) same ∙ at)
        only more h at (inr apart) =
            let before : lookup (copies_now old) side.hidden more ≡ Some h =
            sym (other_names more apart) ∙ at in
            let stood = was.only more h before in
            let differ : h ≢ handle = (λ same. apart
            (one_place (copies_now old) well.tree side.hidden side.hidden name more handle at_name
            (before ∙ ap (λ (i : Handle). Some i) same)).1) in
            record {
              file = kinds h differ ∙ stood.file;
              is_open = subst (λ (r : Beside). 0 < r.opens) (sym (others h differ)) stood.is_open;
              nameless = ap (λ (r : Beside). r.nameless) (others h differ) ∙ stood.nameless;
              numbered = stood.numbered;
            }

      pub last_open : (h : Handle) (n : NodeCopy) → copies_now old h ≡ Some n → n.kind ≡ File
          → 0 < (at_node new_side h).opens
          → copies_now new h ≡ Some n
      last_open h n is kind open_now =
          let is_file : kind_of (copies_now old h) ≡ Some File = ap kind_of is
          ∙ ap (λ k. Some k) kind in
          let differ : h ≢ handle = (λ same. no_open (at_node new_side h).opens open_now
          (ap (λ (i : Handle). (at_node new_side i).opens) same ∙ ap (λ (r : Beside). r.opens) here
          ∙ closed.0)) in
          leaves.same h (λ same. kinds_differ (copies_now old) side.hidden h was.directory is_file
          (sym same)) differ ∙ is

    pub release_hidden : AreHidden new new_side
    release_hidden = go done.away where
      go : ((stays_there b ≡ true) × (new ≡ old))
          ⊎ ((stays_there b ≡ false) × Answered old (calls.Unlink side.hidden (hidden_name number))
          new)
          → AreHidden new new_side
      go (inl (is, same)) = subst (λ (s : Serial). AreHidden s new_side) (sym same)
          (flags_hidden old side new_side was well (flags is))
      go (inr (is, gone)) = last_hidden is gone

    pub release_open : (h : Handle) (n : NodeCopy) → copies_now old h ≡ Some n → n.kind ≡ File
        → 0 < (at_node new_side h).opens
        → copies_now new h ≡ Some n
    release_open h n is kind open_now = go done.away where
      go : ((stays_there b ≡ true) × (new ≡ old))
          ⊎ ((stays_there b ≡ false) × Answered old (calls.Unlink side.hidden (hidden_name number))
          new)
          → copies_now new h ≡ Some n
      go (inl (stays, same)) = ap (λ (s : Serial). copies_now s h) same ∙ is
      go (inr (last, gone)) = last_open last gone h n is kind open_now
