-- An rmdir, an opening and a new mount leave hidden files hidden.
use Rattle.std.proofs.Common.{◌≡◌, ◌≢◌, ◌∙◌, ◌<◌, ◌⊎◌, inl, inr, ℕ, Bool, true, false, List, None, Some, Ok, Err, ap, arith, length, refl, subst, sym}
use Rattle.std.specs.Prelude.{if◌then◌else◌, ◌+◌, ◌==◌, ◌&&◌, ◌||◌}
use Rattle.std.proofs.lemmas.Bool.{eqb-true}
use Rattle.nv_base.specs.Names.{same_name}
use Rattle.nv_base.specs.declared.node.Kind.TheVariants.{File, Dir}
use Rattle.nv_base.specs.declared.numbers.Handle.{Handle}
use Rattle.nv_calls.specs.Plain.{with_names}
use Rattle.nv_calls.specs.Refusals.{kind_of, lookup}
use Rattle.nv_calls.specs.declared.call.Call.TheVariants as calls
use Rattle.nv_entry.specs.Index.{without}
use Rattle.nv_entry.specs.Tree.{root}
use Rattle.nv_entry.specs.declared.node.NodeCopy.{NodeCopy}
use Rattle.nv_entry.proofs.Hiding.{same_name-self}
use Rattle.nv_effects.specs.Effects.{HasEffect}
use Rattle.nv_effects.proofs.Effects.{calls_have_effects}
use Rattle.nv_fuse.specs.declared.errno.Errno.TheVariants as errno
use Rattle.nv_mount_answers.specs.Nodes.{is_root}
use Rattle.nv_mount_answers.specs.declared.kept.Time.{Time}
use Rattle.nv_mount_beside.specs.Beside.{opened}
use Rattle.nv_mount_beside.specs.Names.{checked_name, free_name, hidden, is_reserved, node_named, refused, snapshots}
use Rattle.nv_mount_beside.specs.declared.beside.Beside.{Beside}
use Rattle.nv_mount_beside.specs.declared.outcome.Outcome.{Outcome}
use Rattle.nv_mount_beside.specs.declared.outcome.Outcome.TheVariants as outcomes
use Rattle.nv_mount_beside.specs.declared.refusal.Refusal.{Refusal}
use Rattle.nv_mount_beside.specs.Shown.{opened_file}
use Rattle.nv_mounted.specs.Asks.{ask_done, ask_shape}
use Rattle.nv_mounted.specs.Dialogues.{Ends, Grows, IsHad}
use Rattle.nv_mounted.specs.Side.{at_node, put_node, touched}
use Rattle.nv_mounted.specs.Talks.{open_node, rmdir}
use Rattle.nv_mounted.specs.declared.side.Side.{Side}
use Rattle.nv_serial.specs.Serial.{Serial, copies_now}
use Rattle.nv_mount_laws.specs.Hidden.{AreHidden}
use Rattle.nv_mount_laws.specs.World.{Calls}
use Rattle.nv_mount_laws.proofs.Asked.{Answered, done_asked, grown, shape_asked}
use Rattle.nv_mount_laws.proofs.Dialogues.{side_told, went_on}
use Rattle.nv_mount_laws.proofs.Effects.{Leaves, kinds_differ, rmdir_leaves}
use Rattle.nv_mount_laws.proofs.Flags.{KeepsFlags, flags_before, flags_here, flags_there, one_or_other, touched_keeps}
use Rattle.nv_mount_laws.proofs.HiddenKept.{KeepsHiddenFlags, flags_hidden, leaves_hidden, there_by}
use Rattle.nv_mount_laws.proofs.Names.{one_place}
use Rattle.nv_mount_laws.proofs.Rows.{beside_generation, many_rows}
use Rattle.nv_mount_laws.proofs.Standing.{IsWell}

-- ---- names that are the mount's

no_value : {A P : Type 0} {a : A} {why : Refusal} → Err why ≡ Ok a → P
no_value e = cc

no_some : {A P : Type 0} {a : A} → None ≡ Some a → P
no_some e = cc

pub checked_is : (name more : List ℕ) → checked_name name ≡ Ok more → name ≡ more
checked_is name more e = go _ e where
  go : (b : Bool) → (if b then refused errno.NameTooLong else Ok name) ≡ Ok more → name ≡ more
  go true e = no_value e
  go false e = cc

-- a name that is free is told as it is, and is none of the mount's
pub free_is : (dir : Handle) (name more : List ℕ) → free_name dir name ≡ Ok more
    → (is_reserved dir name ≡ false) × (name ≡ more)
free_is dir name more e = go (is_reserved dir name) refl e where
  go : (b : Bool) → is_reserved dir name ≡ b → (if b then refused errno.NotPermitted else
      checked_name name) ≡ Ok more
      → (is_reserved dir name ≡ false) × (name ≡ more)
  go true is h = no_value h
  go false is h = (is, checked_is name more h)

-- the name of the hidden directory is the mount's
hidden_reserved : is_reserved root hidden ≡ true
hidden_reserved = ap (λ (b : Bool). is_root root && (b || same_name hidden snapshots))
    (same_name-self hidden)

pub not_reserved : (dir : Handle) (file name : List ℕ) → free_name dir file ≡ Ok name → dir ≡ root
    → name ≡ hidden → ⊥
not_reserved dir file name free at_root at_name =
    let known = free_is dir file name free in
    let reserved : is_reserved dir file ≡ true =
    ap (λ (d : Handle). is_reserved d file) at_root ∙ ap (is_reserved root) (known.1 ∙ at_name)
    ∙ hidden_reserved in
    let z : true ≡ false = sym reserved ∙ known.0 in cc

-- ---- rmdir

pub record Removes (old : Serial) (side : Side) (now : Time) (number : ℕ) (file : List ℕ)
    (new : Serial) (new_side : Side) : Type 0 where
  pub dir : Handle
  pub name : List ℕ
  pub free : free_name dir file ≡ Ok name
  pub gone : Answered old (calls.Rmdir dir name) new
  pub side_is : new_side ≡ touched now dir side

pub removes : (old new : Serial) (side : Side) (now : Time) (number : ℕ) (file : List ℕ)
    (outcome : Outcome) (new_side : Side)
    → IsHad Calls (rmdir side now number file) old (Ok (outcome, new_side)) new
    → Removes old side now number file new new_side
removes old new side now number file outcome new_side had =
    let a = went_on Calls _ (Ends (node_named number)) old new (outcome, new_side) had in
    let dir = a.value in
    let b = went_on Calls _ (Grows (Ends (free_name dir file))) a.between new (outcome, new_side)
    a.then in
    let name = b.value in
    let so = grown (free_name dir file) a.between b.between name b.first in
    let c = went_on Calls _ (ask_done (calls.Rmdir dir name)) b.between new (outcome, new_side)
    b.then in
    let asked = done_asked b.between c.between (calls.Rmdir dir name) c.value c.first in
    record {
      dir = dir;
      name = name;
      free = so.0;
      gone = subst (λ (s : Serial). Answered s (calls.Rmdir dir name) new) (so.1 ∙ a.first.1)
          (subst (λ (s : Serial). Answered b.between (calls.Rmdir dir name) s) (sym c.then.1)
          asked);
      side_is = side_told outcome outcomes.Done new_side (touched now dir side) c.then.0;
    }

-- a directory's name that is not the mount's goes
module _ (old new : Serial) (side : Side) (dir : Handle) (name : List ℕ) (was : AreHidden old side)
    (well : IsWell old)
    (free : dir ≡ root → name ≡ hidden → ⊥) (gone : Answered old (calls.Rmdir dir name) new) where
  abbrev effect : (made : Handle) × HasEffect old 0 (calls.Rmdir dir name) made gone.answer new
  effect = calls_have_effects old new 0 (calls.Rmdir dir name) gone.answer refl gone.is

  abbrev left : (to : Handle) × Leaves old new dir name to
      × (kind_of (copies_now old to) ≡ Some Dir)
  left = rmdir_leaves old new dir name effect.0 gone.answer effect.1

  abbrev to : Handle
  to = left.0

  -- no directory is hidden
  no_directory : (more : List ℕ) → lookup (copies_now old) side.hidden more ≡ Some to → ⊥
  no_directory more at = kinds_differ (copies_now old) to to left.2 (was.only more to at).file refl

  not_dir : dir ≢ side.hidden
  not_dir same = no_directory name (ap (λ (d : Handle). lookup (copies_now old) d name) (sym same)
      ∙ left.1.bound)

  not_hidden : to ≢ side.hidden
  not_hidden same =
      let both = one_place (copies_now old) well.tree dir root name hidden side.hidden
      (left.1.bound ∙ ap (λ (h : Handle). Some h) same) was.place in
      free both.0 both.1

  closed : (at_node side to).nameless ≡ true → 0 < (at_node side to).opens → ⊥
  closed nameless is_open =
      let there = was.kept to nameless is_open in
      let stood = was.stands to there.0 there.1 nameless in
      no_directory stood.name stood.bound

  pub gone_dir : kind_of (copies_now old dir) ≡ Some Dir
  gone_dir = left.1.dir_is

  pub gone_names : copies_now new dir ≡ with_names (without name) (copies_now old dir)
  gone_names = left.1.left

  pub gone_hidden : (new_side : Side) → KeepsFlags old side new_side → AreHidden new new_side
  gone_hidden new_side flags = leaves_hidden old new side new_side dir name to was well left.1
      not_dir not_hidden closed flags

  -- each node that is left was there
  pub gone_were : (h : Handle) (n : NodeCopy) → copies_now new h ≡ Some n
      → (m : NodeCopy) × (copies_now old h ≡ Some m)
  gone_were h n is = go (one_or_other h dir) (one_or_other h to) where
    go : (h ≡ dir) ⊎ (h ≢ dir) → (h ≡ to) ⊎ (h ≢ to)
        → (m : NodeCopy) × (copies_now old h ≡ Some m)
    go (inl same) other =
        there_by Dir (copies_now old h) (ap (λ (i : Handle). kind_of (copies_now old i)) same
        ∙ gone_dir)
    go (inr apart) (inl same) =
        let none : copies_now new to ≡ None = left.1.gone (λ (e : to ≡ dir). apart (same ∙ e)) in
        no_some (sym none ∙ ap (copies_now new) (sym same) ∙ is)
    go (inr apart) (inr other) = (n, sym (left.1.same h apart other) ∙ is)

  pub gone_open : (h : Handle) (n : NodeCopy) → copies_now old h ≡ Some n → n.kind ≡ File
      → copies_now new h ≡ Some n
  gone_open h n is kind =
      let is_file : kind_of (copies_now old h) ≡ Some File = ap kind_of is
      ∙ ap (λ k. Some k) kind in
      left.1.same h (λ same. kinds_differ (copies_now old) dir h left.1.dir_is is_file (sym same))
      (λ same. kinds_differ (copies_now old) to h left.2 is_file (sym same)) ∙ is

module _ (old new : Serial) (side new_side : Side) (now : Time) (number : ℕ) (file : List ℕ)
    (was : AreHidden old side) (well : IsWell old)
    (done : Removes old side now number file new new_side) where
  free_so : done.dir ≡ root → done.name ≡ hidden → ⊥
  free_so = not_reserved done.dir file done.name done.free

  flags : KeepsFlags old side new_side
  flags =
      let dir_node = there_by Dir (copies_now old done.dir)
      (gone_dir old new side done.dir done.name was well free_so done.gone) in
      subst (λ (s : Side). KeepsFlags old side s) (sym done.side_is)
      (touched_keeps old well side was.rows now done.dir dir_node.0 dir_node.1)

  pub rmdir_hidden : AreHidden new new_side
  rmdir_hidden = gone_hidden old new side done.dir done.name was well free_so done.gone new_side
      flags

  pub rmdir_open : (h : Handle) (n : NodeCopy) → copies_now old h ≡ Some n → n.kind ≡ File
      → copies_now new h ≡ Some n
  rmdir_open = gone_open old new side done.dir done.name was well free_so done.gone

  pub rmdir_opens : (h : Handle) (n : NodeCopy) → copies_now old h ≡ Some n
      → (at_node new_side h).opens ≡ (at_node side h).opens
  rmdir_opens h n is = (flags.there h n is).opens

-- ---- opening

pub record Opens (old : Serial) (side : Side) (number : ℕ) (new : Serial) (new_side : Side) : Type 0
  where
    pub handle : Handle
    pub there : (n : NodeCopy) × (copies_now old handle ≡ Some n)
    pub same : new ≡ old
    pub side_is : new_side ≡ put_node handle (opened (at_node side handle)) side

pub opens : (old new : Serial) (side : Side) (number : ℕ) (outcome : Outcome) (new_side : Side)
    → IsHad Calls (open_node side number) old (Ok (outcome, new_side)) new
    → Opens old side number new new_side
opens old new side number outcome new_side had =
    let a = went_on Calls _ (Ends (node_named number)) old new (outcome, new_side) had in
    let handle = a.value in
    let b = went_on Calls _ (ask_shape handle) a.between new (outcome, new_side) a.then in
    let shape = b.value in
    let told = shape_asked a.between b.between handle shape b.first in
    record {
      handle = handle;
      there = there_by shape.kind (copies_now old handle)
          (subst (λ (s : Serial). kind_of (copies_now s handle) ≡ Some shape.kind) a.first.1
          told.0);
      same = b.then.1 ∙ told.1 ∙ a.first.1;
      side_is = side_told outcome (outcomes.Opened opened_file) new_side
          (put_node handle (opened (at_node side handle)) side) b.then.0;
    }

-- an opening counts one more, or is at the greatest count
some_opens : (n : ℕ) → 0 < (if n == 18446744073709551615 then n else n + 1)
some_opens n = go (n == 18446744073709551615) refl where
  go : (b : Bool) → (n == 18446744073709551615) ≡ b → 0 < (if b then n else n + 1)
  go true is = let many = eqb-true n 18446744073709551615 is in omega (arith, many)
  go false is = omega arith

module _ (old new : Serial) (side new_side : Side) (number : ℕ) (was : AreHidden old side)
    (well : IsWell old)
    (done : Opens old side number new new_side) where
  abbrev handle : Handle
  handle = done.handle

  abbrev b : Beside
  b = opened (at_node side handle)

  own : b.generation ≡ handle.generation
  own = beside_generation side.nodes handle

  moved : (h : Handle) → at_node new_side h ≡ at_node (put_node handle b side) h
  moved h = ap (λ (s : Side). at_node s h) done.side_is

  here : at_node new_side handle ≡ b
  here = moved handle ∙ flags_here old well side was.rows handle done.there.0 done.there.1 b own

  there : (h : Handle) (n : NodeCopy) → copies_now old h ≡ Some n → h ≢ handle → at_node new_side h
      ≡ at_node side h
  there h n is differ = moved h ∙ flags_there old well side was.rows handle done.there.0
      done.there.1 b own h n is differ

  before : (h : Handle) → h ≢ handle → (at_node new_side h).nameless ≡ true → at_node new_side h
      ≡ at_node side h
  before h differ nameless =
      moved h ∙ flags_before old well side was.rows handle done.there.0 done.there.1 b own h differ
      (ap (λ (r : Beside). r.nameless) (sym (moved h)) ∙ nameless)

  open_now : 0 < (at_node new_side handle).opens
  open_now = subst (λ (r : Beside). 0 < r.opens) (sym here) (some_opens (at_node side handle).opens)

  -- a file that is there without a name was open
  was_open : (at_node side handle).nameless ≡ true → 0 < (at_node side handle).opens
  was_open nameless =
      let stood = was.stands handle done.there.0 done.there.1 nameless in
      (was.only stood.name handle stood.bound).is_open

  open_flags : KeepsHiddenFlags old side new_side
  open_flags = record {
    hidden = ap (λ (s : Side). s.hidden) done.side_is;
    rows = ap (λ (s : Side). length s.nodes.rows) done.side_is ∙ many_rows side.nodes handle b;
    nameless = λ h n is. nameless h n is (one_or_other h handle);
    opens = λ h n is without open_before. opens_then h n is open_before (one_or_other h handle);
    before = λ h without is_open. before_it h without is_open (one_or_other h handle);
    unnamed = λ h without. unnamed_it h without (one_or_other h handle);
  } where
    unnamed_it : (h : Handle) → (at_node new_side h).nameless ≡ true → (h ≡ handle) ⊎ (h ≢ handle)
        → (at_node side h).nameless ≡ true
    unnamed_it h without (inl same) =
        ap (λ (i : Handle). (at_node side i).nameless) same ∙ ap (λ (r : Beside). r.nameless)
        (sym here)
        ∙ ap (λ (i : Handle). (at_node new_side i).nameless) (sym same) ∙ without
    unnamed_it h without (inr differ) =
        ap (λ (r : Beside). r.nameless) (sym (before h differ without)) ∙ without

    nameless : (h : Handle) (n : NodeCopy) → copies_now old h ≡ Some n → (h ≡ handle) ⊎ (h ≢ handle)
        → (at_node new_side h).nameless ≡ (at_node side h).nameless
    nameless h n is (inl same) =
        subst (λ (i : Handle). (at_node new_side i).nameless ≡ (at_node side i).nameless) (sym same)
        (ap (λ (r : Beside). r.nameless) here)
    nameless h n is (inr differ) = ap (λ (r : Beside). r.nameless) (there h n is differ)

    opens_then : (h : Handle) (n : NodeCopy) → copies_now old h ≡ Some n
        → 0 < (at_node side h).opens → (h ≡ handle) ⊎ (h ≢ handle)
        → 0 < (at_node new_side h).opens
    opens_then h n is open_before (inl same) =
        subst (λ (i : Handle). 0 < (at_node new_side i).opens) (sym same) open_now
    opens_then h n is open_before (inr differ) =
        subst (λ (r : Beside). 0 < r.opens) (sym (there h n is differ)) open_before

    before_it : (h : Handle) → (at_node new_side h).nameless ≡ true → 0 < (at_node new_side h).opens
        → (h ≡ handle) ⊎ (h ≢ handle)
        → ((at_node side h).nameless ≡ true) × (0 < (at_node side h).opens)
    before_it h without is_open (inl same) =
        let at : (at_node side handle).nameless ≡ true =
        ap (λ (r : Beside). r.nameless) (sym here)
        ∙ ap (λ (i : Handle). (at_node new_side i).nameless) (sym same) ∙ without in
        subst (λ (i : Handle). ((at_node side i).nameless ≡ true) × (0 < (at_node side i).opens))
        (sym same) (at, was_open at)
    before_it h without is_open (inr differ) =
        let same = before h differ without in (
          ap (λ (r : Beside). r.nameless) (sym same)
              ∙ without,
          subst (λ (r : Beside). 0 < r.opens) same is_open,
        )

  pub open_hidden : AreHidden new new_side
  open_hidden = subst (λ (s : Serial). AreHidden s new_side) (sym done.same)
      (flags_hidden old side new_side was well open_flags)
