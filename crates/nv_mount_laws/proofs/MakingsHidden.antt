-- A making leaves hidden files hidden.
use Rattle.std.proofs.Common.{◌≡◌, ◌≢◌, ◌∙◌, ◌<◌, ◌≤◌, ◌⊎◌, inl, inr, ℕ, Bool, true, false, List, [], ◌∷◌, Option, Some, None, ap, arith, length, refl, subst, sym}
use Rattle.std.specs.Prelude.{if◌then◌else◌}
use Rattle.nv_base.specs.declared.node.Kind.{Kind}
use Rattle.nv_base.specs.declared.node.Kind.TheVariants as kinds
use Rattle.nv_base.specs.declared.numbers.Handle.{Handle}
use Rattle.nv_calls.specs.Plain.{Change, begins, change, with_names}
use Rattle.nv_calls.specs.Refusals.{kind_of, lookup}
use Rattle.nv_calls.specs.declared.answer.Answer.TheVariants as answers
use Rattle.nv_calls.specs.declared.call.Call.TheVariants as calls
use Rattle.nv_calls.proofs.Passed.{directory_passed}
use Rattle.nv_cell.specs.Readers.{has_entry}
use Rattle.nv_entry.specs.Index.{bound_to, with_last}
use Rattle.nv_entry.specs.Sound.{empty_node}
use Rattle.nv_entry.specs.Tree.{names_of_node, root}
use Rattle.nv_entry.specs.declared.node.NodeCopy.{NodeCopy}
use Rattle.nv_effects.specs.Effects.{changed}
use Rattle.nv_effects.proofs.Effects.{calls_have_effects}
use Rattle.nv_mount_answers.specs.declared.kept.Time.{Time}
use Rattle.nv_mount_beside.specs.Names.{hidden}
use Rattle.nv_mount_beside.specs.Beside.{new_beside, opened}
use Rattle.nv_mount_beside.specs.declared.beside.Beside.{Beside}
use Rattle.nv_mount_beside.specs.declared.inherited.Owner.{Owner}
use Rattle.nv_mounted.specs.Makings.{made_beside, making}
use Rattle.nv_mounted.specs.Side.{at_node, put_node, touched}
use Rattle.nv_mounted.specs.declared.side.Side.{Side}
use Rattle.nv_serial.specs.OneCall.{serial_call}
use Rattle.nv_serial.specs.Serial.{Serial, copies_now, log_in, told}
use Rattle.nv_mount_laws.specs.Hidden.{AreHidden}
use Rattle.nv_mount_laws.proofs.Effects.{changed_first, changed_later, kind_is}
use Rattle.nv_mount_laws.proofs.Flags.{KeepsFlags, SameFlags, one_or_other, touched_keeps}
use Rattle.nv_mount_laws.proofs.Fresh.{from_pool, pool_empty}
use Rattle.nv_mount_laws.proofs.HiddenKept.{arrived_bound, arrived_last, elsewhere_hidden, named_kind, same_bound, there_by}
use Rattle.nv_mount_laws.proofs.Rows.{Elsewhere, Here, Place, Stale, many_rows, place, put_elsewhere, put_here}
use Rattle.nv_mount_laws.proofs.Standing.{IsWell}

no_step : {P : Type 0} → true ≡ false → P
no_step e = cc

no_some : {A P : Type 0} {a : A} → None ≡ Some a → P
no_some e = cc

-- what a making leaves of the nodes
pub record Makes (old new : Serial) (kind : Kind) (dir : Handle) (name : List ℕ) (mode : ℕ)
    (made : Handle) : Type 0 where
  pub dir_is : kind_of (copies_now old dir) ≡ Some kinds.Dir
  pub fresh : (handle : Handle) (node : NodeCopy) → copies_now old handle ≡ Some node
      → handle.ino ≢ made.ino
  pub arrived : copies_now new dir ≡ with_names (with_last name made) (copies_now old dir)
  pub begun : copies_now new made ≡ Some (empty_node kind mode)
  pub same : (handle : Handle) → handle ≢ dir → handle ≢ made → copies_now new handle
      ≡ copies_now old handle
  pub slots : length new.slots ≡ length old.slots

fresh_by : (s : Serial) → IsWell s → (made : Handle) → has_entry (log_in s made.ino) ≡ false
    → (handle : Handle) (node : NodeCopy)
    → copies_now s handle ≡ Some node → handle.ino ≢ made.ino
fresh_by s well made empty handle node there same =
    no_step (sym (well.log handle node there) ∙ ap (λ (i : ℕ). has_entry (log_in s i)) same ∙ empty)

makes_by : (old new : Serial) (kind : Kind) (dir : Handle) (name : List ℕ) (mode : ℕ)
    (made : Handle)
    → kind_of (copies_now old dir) ≡ Some kinds.Dir
    → ((handle : Handle) (node : NodeCopy) → copies_now old handle ≡ Some node
    → handle.ino ≢ made.ino)
    → length new.slots ≡ length old.slots
    → ((handle : Handle) → copies_now new handle
    ≡ changed (change dir (with_names (with_last name made)) ∷ change made (begins kind mode) ∷
    []) (copies_now old) handle)
    → Makes old new kind dir name mode made
makes_by old new kind dir name mode made dir_is fresh slots each =
    let nodes = copies_now old in
    let f = with_names (with_last name made) in
    let rest : List Change = change made (begins kind mode) ∷ [] in
    let there = there_by kinds.Dir (nodes dir) dir_is in
    let not_dir : made ≢ dir = (λ same. fresh dir there.0 there.1
    (ap (λ (h : Handle). h.ino) (sym same))) in
    record {
      dir_is = dir_is;
      fresh = fresh;
      arrived = each dir ∙ changed_first dir (with_names (with_last name made)) rest nodes;
      begun = each made ∙ changed_later dir (with_names (with_last name made)) rest nodes made
          not_dir
          ∙ changed_first made (begins kind mode) [] nodes;
      same = λ handle other apart.
          each handle ∙ changed_later dir (with_names (with_last name made)) rest nodes handle other
          ∙ changed_later made (begins kind mode) [] nodes handle apart;
      slots = slots;
    }

pub made_by : (old new : Serial) → IsWell old → (kind : Kind) (dir : Handle) (name : List ℕ)
    (mode : ℕ) (made : Handle)
    → serial_call old 0 (making kind dir name mode) ≡ told (answers.Made made) new
    → Makes old new kind dir name mode made
made_by old new well kinds.File dir name mode made is =
    let has = calls_have_effects old new 0 (calls.Create dir name mode) (answers.Made made) refl is
    in
    let same : has.0 ≡ made = (let e = has.1.told in cc) in
    let top = directory_passed (copies_now old dir) _ has.1.unrefused in
    let empty = pool_empty old made (from_pool old (calls.Create dir name mode) (λ m. refl) refl
    refl refl new made is) in
    makes_by old new kinds.File dir name mode made (kind_is kinds.Dir (copies_now old dir) top.0)
    (fresh_by old well made empty) has.1.slots
    (subst (λ (m : Handle). (handle : Handle) → copies_now new handle
    ≡ changed (change dir (with_names (with_last name m)) ∷ change m (begins kinds.File mode) ∷
    []) (copies_now old) handle)
    same has.1.nodes)
made_by old new well kinds.Dir dir name mode made is =
    let has = calls_have_effects old new 0 (calls.Mkdir dir name mode) (answers.Made made) refl is
    in
    let same : has.0 ≡ made = (let e = has.1.told in cc) in
    let top = directory_passed (copies_now old dir) _ has.1.unrefused in
    let empty = pool_empty old made (from_pool old (calls.Mkdir dir name mode) (λ m. refl) refl refl
    refl new made is) in
    makes_by old new kinds.Dir dir name mode made (kind_is kinds.Dir (copies_now old dir) top.0)
    (fresh_by old well made empty) has.1.slots
    (subst (λ (m : Handle). (handle : Handle) → copies_now new handle
    ≡ changed (change dir (with_names (with_last name m)) ∷ change m (begins kinds.Dir mode) ∷
    []) (copies_now old) handle)
    same has.1.nodes)

-- what is made has its name
pub made_named : (old new : Serial) (kind : Kind) (dir : Handle) (name : List ℕ) (mode : ℕ)
    (made : Handle) → Makes old new kind dir name mode made
    → lookup (copies_now new) dir name ≡ Some made
made_named old new kind dir name mode made makes =
    arrived_last (copies_now old) (copies_now new) dir name made makes.dir_is makes.arrived

-- ---- the hidden files

module _ (old new : Serial) (kind : Kind) (dir : Handle) (name : List ℕ) (mode : ℕ) (made : Handle)
    (makes : Makes old new kind dir name mode made) where
  not_made : (h : Handle) (n : NodeCopy) → copies_now old h ≡ Some n → h ≢ made
  not_made h n is same = makes.fresh h n is (ap (λ (i : Handle). i.ino) same)

  kinds_of : (h : Handle) → h ≢ made → kind_of (copies_now new h) ≡ kind_of (copies_now old h)
  kinds_of h differ = go (one_or_other h dir) where
    go : (h ≡ dir) ⊎ (h ≢ dir) → kind_of (copies_now new h) ≡ kind_of (copies_now old h)
    go (inl same) =
        ap (λ (i : Handle). kind_of (copies_now new i)) same ∙ ap kind_of makes.arrived
        ∙ named_kind (with_last name made) (copies_now old dir)
        ∙ ap (λ (i : Handle). kind_of (copies_now old i)) (sym same)
    go (inr other) = ap kind_of (makes.same h other differ)

  module _ (side new_side : Side) (was : AreHidden old side) (well : IsWell old)
      (not_dir : dir ≢ side.hidden) (free : dir ≡ root → name ≡ hidden → ⊥)
      (flags : KeepsFlags old side new_side)
      (has_name : (at_node new_side made).nameless ≡ true → ⊥) where
    hidden_node : (n : NodeCopy) × (copies_now old side.hidden ≡ Some n)
    hidden_node = there_by kinds.Dir (copies_now old side.hidden) was.directory

    root_node : (n : NodeCopy) × (copies_now old root ≡ Some n)
    root_node = go (copies_now old root) refl was.place where
      go : (found : Option NodeCopy) → copies_now old root ≡ found
          → bound_to hidden (names_of_node found) ≡ Some side.hidden
          → (n : NodeCopy) × (copies_now old root ≡ Some n)
      go None is e = no_some e
      go (Some n) is e = (n, is)

    same_place : lookup (copies_now new) root hidden ≡ lookup (copies_now old) root hidden
    same_place = go (one_or_other dir root) where
      go : (dir ≡ root) ⊎ (dir ≢ root) → lookup (copies_now new) root hidden
          ≡ lookup (copies_now old) root hidden
      go (inl same) =
          ap (λ (d : Handle). lookup (copies_now new) d hidden) (sym same)
          ∙ arrived_bound (copies_now old) (copies_now new) dir hidden name made makes.dir_is
          makes.arrived (free same)
          ∙ ap (λ (d : Handle). lookup (copies_now old) d hidden) same
      go (inr differ) =
          same_bound (copies_now old) (copies_now new) root hidden
          (makes.same root (λ same. differ (sym same)) (not_made root root_node.0 root_node.1))

    before : (h : Handle) (n : NodeCopy) → copies_now new h ≡ Some n
        → (at_node new_side h).nameless ≡ true → (h ≡ made) ⊎ (h ≢ made) → (m : NodeCopy)
        × (copies_now old h ≡ Some m)
    before h n is nameless (inl same) =
        absurd (has_name (ap (λ (i : Handle). (at_node new_side i).nameless) (sym same) ∙ nameless))
    before h n is nameless (inr differ) =
        there_by n.kind (copies_now old h) (sym (kinds_of h differ) ∙ ap kind_of is)

    -- THE HIDDEN FILES stay so where a node is made elsewhere
    pub making_hidden : AreHidden new new_side
    making_hidden =
        elsewhere_hidden old new side new_side was well same_place
        (makes.same side.hidden (λ same. not_dir (sym same))
        (not_made side.hidden hidden_node.0 hidden_node.1))
        (λ h n is nameless. before h n is nameless (one_or_other h made))
        (λ h nameless opened.
        let there = was.kept h nameless opened in kinds_of h (not_made h there.0 there.1))
        makes.slots flags

-- ---- what stands beside nodes then

module _ (old new : Serial) (side : Side) (was : AreHidden old side) (well_new : IsWell new)
    (kind : Kind) (dir : Handle) (name : List ℕ) (mode : ℕ) (made : Handle)
    (makes : Makes old new kind dir name mode made) (now : Time) (owner : Owner)
    (opens : Bool) where
  abbrev b : Beside
  b = made_beside now owner opens made

  abbrev between : Side
  between = put_node made b side

  abbrev after : Side
  after = touched now dir between

  b_is : (b.generation ≡ made.generation) × (b.nameless ≡ false)
  b_is = go opens where
    go : (t : Bool)
        → ((if t then opened (new_beside made.generation now owner.user owner.group) else
        new_beside made.generation now owner.user owner.group).generation ≡ made.generation)
        × ((if t then opened (new_beside made.generation now owner.user owner.group) else
        new_beside made.generation now owner.user owner.group).nameless ≡ false)
    go true = (refl, refl)
    go false = (refl, refl)

  in_rows : made.ino < length side.nodes.rows
  in_rows =
      let slot = well_new.slot made (empty_node kind mode) makes.begun in
      let many = makes.slots in
      let less = was.rows in omega (arith, slot, many, less)

  rows_between : length new.slots ≤ length between.nodes.rows
  rows_between =
      let many = many_rows side.nodes made b in
      let slots = makes.slots in
      let less = was.rows in omega (arith, many, slots, less)

  -- beside what was there it is as it was
  there_before : (h : Handle) (n : NodeCopy) → copies_now old h ≡ Some n → at_node between h
      ≡ at_node side h
  there_before h n is = put_elsewhere side.nodes made b h (makes.fresh h n is)

  nameless_before : (h : Handle) → (at_node between h).nameless ≡ true → at_node between h
      ≡ at_node side h
  nameless_before h nameless = go (place side.nodes made b in_rows b_is.0 h) where
    go : Place side.nodes made b h → at_node between h ≡ at_node side h
    go (Here same put) = no_step (sym nameless ∙ ap (λ (r : Beside). r.nameless) put ∙ b_is.1)
    go (Elsewhere other same) = same
    go (Stale same other told_so) = no_step (sym nameless ∙ ap (λ (r : Beside). r.nameless) told_so)

  dir_there : (n : NodeCopy) × (copies_now new dir ≡ Some n)
  dir_there = there_by kinds.Dir (copies_now new dir)
      (ap kind_of makes.arrived ∙ named_kind (with_last name made) (copies_now old dir)
      ∙ makes.dir_is)

  touched_flags : KeepsFlags new between after
  touched_flags = touched_keeps new well_new between rows_between now dir dir_there.0 dir_there.1

  -- beside what was there it says the same of opens and of names
  pub made_flags : KeepsFlags old side after
  made_flags = record {
    hidden = touched_flags.hidden;
    rows = touched_flags.rows ∙ many_rows side.nodes made b;
    there = λ h n is.
        let there = there_by n.kind (copies_now new h)
        (kinds_of old new kind dir name mode made makes h
        (not_made old new kind dir name mode made makes h n is) ∙ ap kind_of is) in
        both h (touched_flags.there h there.0 there.1) (there_before h n is);
    before = λ h nameless.
        let last = touched_flags.before h nameless in
        both h last (nameless_before h (sym last.nameless ∙ nameless));
  } where
    both : (h : Handle) → SameFlags between after h → at_node between h ≡ at_node side h
        → SameFlags side after h
    both h last at = record {
      opens = last.opens ∙ ap (λ (r : Beside). r.opens) at;
      nameless = last.nameless ∙ ap (λ (r : Beside). r.nameless) at;
    }

  abbrev made_now : SameFlags between after made
  made_now = touched_flags.there made (empty_node kind mode) makes.begun

  -- what is made has a name
  pub made_nameless : (at_node after made).nameless ≡ true → ⊥
  made_nameless nameless =
      no_step (sym (sym made_now.nameless ∙ nameless)
      ∙ ap (λ (r : Beside). r.nameless) (put_here side.nodes made b in_rows b_is.0) ∙ b_is.1)

  -- it is open once, or not at all
  pub made_open : (at_node after made).opens ≡ b.opens
  made_open = made_now.opens
      ∙ ap (λ (r : Beside). r.opens) (put_here side.nodes made b in_rows b_is.0)
