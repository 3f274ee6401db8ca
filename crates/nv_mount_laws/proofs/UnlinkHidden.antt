-- An unlink leaves the hidden files hidden, and open files as they are.
use Rattle.std.proofs.Common.{◌≡◌, ◌≢◌, ◌∙◌, ◌<◌, ◌≤◌, ◌⊎◌, inl, inr, ℕ, true, false, List, Some, ap, arith, length, refl, subst, sym}
use Rattle.std.proofs.lemmas.Bool.{and_from}
use Rattle.nv_base.specs.Names.{same_name}
use Rattle.nv_base.specs.declared.node.Kind.TheVariants.{File, Dir}
use Rattle.nv_base.specs.declared.numbers.Handle.{Handle}
use Rattle.nv_calls.specs.Plain.{same_handle}
use Rattle.nv_calls.specs.Refusals.{found, kind_of, lookup}
use Rattle.nv_calls.specs.calls.Rename.{own_place}
use Rattle.nv_calls.specs.declared.call.Call.TheVariants as calls
use Rattle.nv_entry.specs.declared.node.NodeCopy.{NodeCopy}
use Rattle.nv_entry.proofs.Hiding.{same_name-self}
use Rattle.nv_machine.proofs.DirectoriesStay.{same_self}
use Rattle.nv_mount_answers.specs.declared.kept.Time.{Time}
use Rattle.nv_mount_beside.specs.Beside.{named, renamed}
use Rattle.nv_mount_beside.specs.declared.beside.Beside.{Beside}
use Rattle.nv_mounted.specs.Side.{at_node, put_node, touched}
use Rattle.nv_mounted.specs.Talks.{is_open_file}
use Rattle.nv_mounted.specs.declared.side.Side.{Side}
use Rattle.nv_effects.specs.Effects.{HasEffect}
use Rattle.nv_effects.proofs.Effects.{calls_have_effects}
use Rattle.nv_serial.specs.Serial.{Serial, copies_now}
use Rattle.nv_mount_laws.specs.Hidden.{AreHidden}
use Rattle.nv_mount_laws.proofs.Effects.{Leaves, Moves, Passes, found_bound, kinds_differ, rename_moves, rename_passed, unlink_leaves}
use Rattle.nv_mount_laws.proofs.Flags.{KeepsFlags, SameFlags, flags_before, flags_by, flags_here, flags_there, one_or_other, touched_keeps}
use Rattle.nv_mount_laws.proofs.HiddenKept.{flags_hidden, hidden_flags, leaves_hidden, there_by}
use Rattle.nv_mount_laws.proofs.HiddenMoved.{KeepsOtherFlags, moves_hidden}
use Rattle.nv_mount_laws.proofs.HiddenNames.{one_hidden, same_hidden}
use Rattle.nv_mount_laws.proofs.Names.{one_place}
use Rattle.nv_mount_laws.proofs.Rows.{beside_generation, many_rows}
use Rattle.nv_mount_laws.proofs.Standing.{IsWell}
use Rattle.nv_mount_laws.proofs.Unlinked.{Hides, Takes, Unlinks, not_open, open_is}

-- each file that is open stays
abbrev pub KeepsOpenFiles : Side → Serial → Serial → Type 0
KeepsOpenFiles side old new =
    (handle : Handle) (node : NodeCopy) → copies_now old handle ≡ Some node → node.kind ≡ File
    → 0 < (at_node side handle).opens
    → copies_now new handle ≡ Some node

some_is : {A : Type 0} {a b : A} → Some a ≡ Some b → a ≡ b
some_is e = cc

-- ---- a name is taken away

module _ (old new : Serial) (side between : Side) (dir : Handle) (name : List ℕ) (handle : Handle)
    (was : AreHidden old side) (well : IsWell old)
    (bound : lookup (copies_now old) dir name ≡ Some handle)
    (closed : kind_of (copies_now old handle) ≡ Some File → 0 < (at_node side handle).opens → ⊥)
    (takes : Takes old side dir name new between) where
  abbrev effect : (made : Handle) × HasEffect old 0 (calls.Unlink dir name) made takes.gone.answer
      new
  effect = calls_have_effects old new 0 (calls.Unlink dir name) takes.gone.answer refl takes.gone.is

  abbrev left : (to : Handle) × Leaves old new dir name to
      × (kind_of (copies_now old to) ≡ Some File)
  left = unlink_leaves old new dir name effect.0 takes.gone.answer effect.1

  to_is : left.0 ≡ handle
  to_is = some_is (sym left.1.bound ∙ bound)

  file : kind_of (copies_now old handle) ≡ Some File
  file = ap (λ (h : Handle). kind_of (copies_now old h)) (sym to_is) ∙ left.2

  leaves : Leaves old new dir name handle
  leaves = subst (λ (h : Handle). Leaves old new dir name h) to_is left.1

  -- no hidden file is named
  not_hidden : dir ≢ side.hidden
  not_hidden same =
      closed file (was.only name handle (ap (λ (d : Handle). lookup (copies_now old) d name)
      (sym same) ∙ bound)).is_open

  pub taken_hidden : (new_side : Side) → KeepsFlags old side new_side → AreHidden new new_side
  taken_hidden new_side flags =
      leaves_hidden old new side new_side dir name handle was well leaves not_hidden
      (λ same. kinds_differ (copies_now old) side.hidden handle was.directory file (sym same))
      (λ nameless opened. closed file opened) flags

  pub taken_open : KeepsOpenFiles side old new
  taken_open h node is kind opened =
      let is_file : kind_of (copies_now old h) ≡ Some File = ap kind_of is
      ∙ ap (λ k. Some k) kind in
      leaves.same h (λ same. kinds_differ (copies_now old) dir h leaves.dir_is is_file (sym same))
      (λ same. closed file (subst (λ (i : Handle). 0 < (at_node side i).opens) same opened)) ∙ is

  pub taken_dir : kind_of (copies_now old dir) ≡ Some Dir
  taken_dir = leaves.dir_is

-- ---- an open file is hidden

module _ (old new : Serial) (side between : Side) (now : Time) (dir : Handle) (name : List ℕ)
    (handle : Handle) (was : AreHidden old side) (well : IsWell old)
    (bound : lookup (copies_now old) dir name ≡ Some handle)
    (file : kind_of (copies_now old handle) ≡ Some File)
    (opened : 0 < (at_node side handle).opens)
    (hides : Hides old side now dir name handle new between)
  where
    abbrev more : List ℕ
    more = hides.more

    abbrev hid : (made : Handle) × HasEffect old 0 (calls.Rename dir name side.hidden more) made
        hides.moved.answer new
    hid = calls_have_effects old new 0 (calls.Rename dir name side.hidden more) hides.moved.answer
        refl hides.moved.is

    abbrev passed : Passes (copies_now old) dir name side.hidden more
    passed = rename_passed old new dir name side.hidden more hid.0 hides.moved.answer hid.1

    node : (n : NodeCopy) × (copies_now old handle ≡ Some n)
    node = there_by File (copies_now old handle) file

    dir_node : (n : NodeCopy) × (copies_now old dir ≡ Some n)
    dir_node = there_by Dir (copies_now old dir) passed.from_is

    abbrev b : Beside
    b = renamed now (named false (at_node side handle))

    own : b.generation ≡ handle.generation
    own = beside_generation side.nodes handle

    rows_between : length old.slots ≤ length between.nodes.rows
    rows_between =
        let less = was.rows in
        let many : length between.nodes.rows ≡ length side.nodes.rows =
        ap (λ (s : Side). length s.nodes.rows) hides.side_is
        ∙ many_rows side.nodes handle b in omega (arith, less, many)

    touched_so : KeepsFlags old between (touched now dir between)
    touched_so = touched_keeps old well between rows_between now dir dir_node.0 dir_node.1

    at_between : (h : Handle) → at_node between h ≡ at_node (put_node handle b side) h
    at_between h = ap (λ (s : Side). at_node s h) hides.side_is

    here : at_node between handle ≡ b
    here = at_between handle ∙ flags_here old well side was.rows handle node.0 node.1 b own

    -- beside other nodes nothing changes of opens and of names
    others : KeepsOtherFlags old handle side (touched now dir between)
    others = record {
      hidden = ap (λ (s : Side). s.hidden) hides.side_is;
      rows = (let first = touched_so.rows in
          let many : length between.nodes.rows ≡ length side.nodes.rows =
          ap (λ (s : Side). length s.nodes.rows) hides.side_is
          ∙ many_rows side.nodes handle b in first ∙ many);
      there = λ h n is differ.
          let first = flags_by side between h (at_between h
          ∙ flags_there old well side was.rows handle node.0 node.1 b own h n is differ) in
          let second = touched_so.there h n is in
          record { opens = second.opens ∙ first.opens; nameless = second.nameless ∙ first.nameless };
      before = λ h differ nameless.
          let second = touched_so.before h nameless in
          let nameless_between = ap (λ (r : Beside). r.nameless) (sym (at_between h))
          ∙ sym second.nameless ∙ nameless in
          let first = flags_by side between h (at_between h
          ∙ flags_before old well side was.rows handle node.0 node.1 b own h differ
          nameless_between) in
          record { opens = second.opens ∙ first.opens; nameless = second.nameless ∙ first.nameless };
    }

    abbrev touched_here : SameFlags between (touched now dir between) handle
    touched_here = touched_so.there handle node.0 node.1

    nameless_now : (at_node (touched now dir between) handle).nameless ≡ true
    nameless_now = touched_here.nameless ∙ ap (λ (r : Beside). r.nameless) here

    opens_now : (at_node (touched now dir between) handle).opens ≡ (at_node side handle).opens
    opens_now = touched_here.opens ∙ ap (λ (r : Beside). r.opens) here

    open_now : 0 < (at_node (touched now dir between) handle).opens
    open_now = subst (λ (n : ℕ). 0 < n) (sym opens_now) opened

    -- what is found under the name
    found_is : found (copies_now old) dir name ≡ Some handle
    found_is =
        let at : lookup (copies_now old) dir name ≡ Some passed.moved =
        found_bound (copies_now old) dir name passed.moved passed.found_is in
        let same : passed.moved ≡ handle = some_is (sym at ∙ bound) in passed.found_is
        ∙ ap (λ (h : Handle). Some h) same

    free : dir ≢ side.hidden → (there : Handle) → lookup (copies_now old) side.hidden more
        ≡ Some there → ⊥
    free differ there is =
        let itself : there ≡ handle =
        one_hidden there handle more (was.only more there is).numbered hides.numbered in
        differ (one_place (copies_now old) well.tree dir side.hidden name more handle bound
        (is ∙ ap (λ (h : Handle). Some h) itself)).0

    moves : dir ≢ side.hidden → Moves old new dir name side.hidden more handle
    moves differ = rename_moves old new dir name side.hidden more handle hid.0 hides.moved.answer
        hid.1 differ found_is (free differ)

    -- where it stood there already, nothing has changed
    unmoved : dir ≡ side.hidden → new ≡ old
    unmoved same =
        let there = was.only name handle (ap (λ (d : Handle). lookup (copies_now old) d name)
        (sym same) ∙ bound) in
        let names : name ≡ more = same_hidden handle name more there.numbered hides.numbered in
        let own_so : own_place dir name side.hidden more ≡ true =
        and_from (same_handle dir side.hidden) (same_name name more)
        (ap (same_handle dir) (sym same) ∙ same_self dir)
        (ap (same_name name) (sym names) ∙ same_name-self name) in
        hid.1.same own_so

    -- and it had no name
    nameless_there : dir ≡ side.hidden → (at_node side handle).nameless ≡ true
    nameless_there same = (was.only name handle (ap (λ (d : Handle). lookup (copies_now old) d name)
        (sym same) ∙ bound)).nameless

    all_flags : dir ≡ side.hidden → KeepsFlags old side (touched now dir between)
    all_flags same = record {
      hidden = others.hidden;
      rows = others.rows;
      there = λ h n is. each h (one_or_other h handle) (λ differ. others.there h n is differ);
      before = λ h nameless. each h (one_or_other h handle)
          (λ differ. others.before h differ nameless);
    } where
      itself : SameFlags side (touched now dir between) handle
      itself = record { opens = opens_now; nameless = nameless_now ∙ sym (nameless_there same) }

      each : (h : Handle) → (h ≡ handle) ⊎ (h ≢ handle)
          → (h ≢ handle → SameFlags side (touched now dir between) h)
          → SameFlags side (touched now dir between) h
      each h (inl one) other = subst (λ (i : Handle). SameFlags side (touched now dir between) i)
          (sym one) itself
      each h (inr differ) other = other differ

    pub hides_opens : (h : Handle) (n : NodeCopy) → copies_now old h ≡ Some n
        → (at_node (touched now dir between) h).opens ≡ (at_node side h).opens
    hides_opens h n is = go (one_or_other h handle) where
      go : (h ≡ handle) ⊎ (h ≢ handle) → (at_node (touched now dir between) h).opens
          ≡ (at_node side h).opens
      go (inl same) = subst (λ (i : Handle). (at_node (touched now dir between) i).opens
          ≡ (at_node side i).opens) (sym same) opens_now
      go (inr differ) = (others.there h n is differ).opens

    pub hides_hidden : AreHidden new (touched now dir between)
    hides_hidden = go (one_or_other dir side.hidden) where
      go : (dir ≡ side.hidden) ⊎ (dir ≢ side.hidden) → AreHidden new (touched now dir between)
      go (inl same) =
          subst (λ (s : Serial). AreHidden s (touched now dir between)) (sym (unmoved same))
          (flags_hidden old side (touched now dir between) was well
          (hidden_flags old side (touched now dir between) (all_flags same)))
      go (inr differ) =
          moves_hidden old new side (touched now dir between) dir name handle more was well
          (moves differ) differ bound file hides.numbered
          others nameless_now open_now

    pub hides_open : KeepsOpenFiles side old new
    hides_open h n is kind h_open = go (one_or_other dir side.hidden) where
      is_file : kind_of (copies_now old h) ≡ Some File
      is_file = ap kind_of is ∙ ap (λ k. Some k) kind

      go : (dir ≡ side.hidden) ⊎ (dir ≢ side.hidden) → copies_now new h ≡ Some n
      go (inl same) = ap (λ (s : Serial). copies_now s h) (unmoved same) ∙ is
      go (inr differ) =
          (moves differ).same h (λ same. kinds_differ (copies_now old) dir h passed.from_is is_file
          (sym same))
          (λ same. kinds_differ (copies_now old) side.hidden h was.directory is_file (sym same)) ∙ is

-- ---- an unlink

module _ (old new : Serial) (side new_side : Side) (now : Time) (number : ℕ) (name : List ℕ)
    (was : AreHidden old side) (well : IsWell old)
    (done : Unlinks old side now number name new new_side) where
  file_by : done.shape.kind ≡ File → kind_of (copies_now old done.handle) ≡ Some File
  file_by kind = done.kind ∙ ap (λ k. Some k) kind

  closed : is_open_file side done.handle done.shape ≡ false → kind_of (copies_now old done.handle)
      ≡ Some File
      → 0 < (at_node side done.handle).opens → ⊥
  closed is file opened = not_open side done.handle done.shape is (some_is (sym done.kind ∙ file))
      opened

  taken_flags : Takes old side done.dir done.name new done.between
      → (kind_of (copies_now old done.handle) ≡ Some File → 0 < (at_node side done.handle).opens
      → ⊥)
      → KeepsFlags old side (touched now done.dir done.between)
  taken_flags takes shut =
      let dir_node = there_by Dir (copies_now old done.dir)
      (taken_dir old new side done.between done.dir done.name done.handle was well done.bound shut
      takes) in
      subst (λ (s : Side). KeepsFlags old side (touched now done.dir s)) (sym takes.side_is)
      (touched_keeps old well side was.rows now done.dir dir_node.0 dir_node.1)

  pub unlink_hidden : AreHidden new new_side
  unlink_hidden = subst (λ (s : Side). AreHidden new s) (sym done.side_is) (go done.away) where
    go : ((is_open_file side done.handle done.shape ≡ true)
        × Hides old side now done.dir done.name done.handle new done.between)
        ⊎ ((is_open_file side done.handle done.shape ≡ false)
        × Takes old side done.dir done.name new done.between)
        → AreHidden new (touched now done.dir done.between)
    go (inl (is, hides)) =
        let opened = open_is side done.handle done.shape is in
        hides_hidden old new side done.between now done.dir done.name done.handle was well
        done.bound (file_by opened.0) opened.1 hides
    go (inr (is, takes)) =
        taken_hidden old new side done.between done.dir done.name done.handle was well done.bound
        (closed is) takes
        (touched now done.dir done.between) (taken_flags takes (closed is))

  pub unlink_opens : (h : Handle) (n : NodeCopy) → copies_now old h ≡ Some n
      → (at_node new_side h).opens ≡ (at_node side h).opens
  unlink_opens h n there = ap (λ (s : Side). (at_node s h).opens) done.side_is ∙ go done.away where
    go : ((is_open_file side done.handle done.shape ≡ true)
        × Hides old side now done.dir done.name done.handle new done.between)
        ⊎ ((is_open_file side done.handle done.shape ≡ false)
        × Takes old side done.dir done.name new done.between)
        → (at_node (touched now done.dir done.between) h).opens ≡ (at_node side h).opens
    go (inl (is, hides)) =
        let opened = open_is side done.handle done.shape is in
        hides_opens old new side done.between now done.dir done.name done.handle was well done.bound
        (file_by opened.0) opened.1 hides h n there
    go (inr (is, takes)) = ((taken_flags takes (closed is)).there h n there).opens

  pub unlink_open : KeepsOpenFiles side old new
  unlink_open = go done.away where
    go : ((is_open_file side done.handle done.shape ≡ true)
        × Hides old side now done.dir done.name done.handle new done.between)
        ⊎ ((is_open_file side done.handle done.shape ≡ false)
        × Takes old side done.dir done.name new done.between)
        → KeepsOpenFiles side old new
    go (inl (is, hides)) =
        let opened = open_is side done.handle done.shape is in
        hides_open old new side done.between now done.dir done.name done.handle was well done.bound
        (file_by opened.0) opened.1 hides
    go (inr (is, takes)) = taken_open old new side done.between done.dir done.name done.handle was
        well done.bound (closed is) takes
