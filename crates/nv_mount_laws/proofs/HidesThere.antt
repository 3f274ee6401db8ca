-- An open file at a name that another one is to take goes among the hidden ones.
use Rattle.std.proofs.Common.{◌≡◌, ◌≢◌, ◌∙◌, ◌<◌, ◌⊎◌, inl, inr, ℕ, false, List, Some, None, Ok, ap, refl, subst, sym}
use Rattle.nv_base.specs.declared.node.Kind.TheVariants.{File}
use Rattle.nv_base.specs.declared.numbers.Handle.{Handle}
use Rattle.nv_calls.specs.Refusals.{found, kind_of, lookup}
use Rattle.nv_calls.specs.declared.call.Call.TheVariants as calls
use Rattle.nv_entry.specs.declared.node.NodeCopy.{NodeCopy}
use Rattle.nv_effects.specs.Effects.{HasEffect}
use Rattle.nv_effects.proofs.Effects.{calls_have_effects}
use Rattle.nv_mount_answers.specs.declared.kept.Time.{Time}
use Rattle.nv_mount_beside.specs.Beside.{named, renamed}
use Rattle.nv_mount_beside.specs.declared.beside.Beside.{Beside}
use Rattle.nv_mounted.specs.Side.{at_node}
use Rattle.nv_mounted.specs.Talks.{hidden_name_for, hidden_now}
use Rattle.nv_mounted.specs.declared.side.Side.{Side}
use Rattle.nv_serial.specs.Serial.{Serial, copies_now}
use Rattle.nv_mount_laws.specs.Hidden.{AreHidden}
use Rattle.nv_mount_laws.proofs.Asked.{Answered}
use Rattle.nv_mount_laws.proofs.Effects.{Moves, Passes, found_bound, kinds_differ, rename_moves, rename_passed}
use Rattle.nv_mount_laws.proofs.Flags.{flags_before, flags_by, flags_here, flags_there, one_or_other}
use Rattle.nv_mount_laws.proofs.HiddenKept.{there_by}
use Rattle.nv_mount_laws.proofs.HiddenMoved.{KeepsOtherFlags, moves_hidden}
use Rattle.nv_mount_laws.proofs.HiddenNames.{one_hidden}
use Rattle.nv_mount_laws.proofs.Names.{one_place}
use Rattle.nv_mount_laws.proofs.PutBack.{left_free, moved_kinds}
use Rattle.nv_mount_laws.proofs.RenamesFound.{IsOpenThere}
use Rattle.nv_mount_laws.proofs.Rows.{beside_generation, many_rows}
use Rattle.nv_mount_laws.proofs.Standing.{IsWell}
use Rattle.nv_mount_laws.proofs.UnlinkHidden.{KeepsOpenFiles}

some_is : {A : Type 0} {a b : A} → Some a ≡ Some b → a ≡ b
some_is e = cc

module _ (old new : Serial) (side : Side) (now : Time) (dir : Handle) (name : List ℕ) (there : Handle)
    (more : List ℕ) (was : AreHidden old side) (well : IsWell old) (not_dir : dir ≢ side.hidden)
    (is : IsOpenThere old side dir name there) (numbered : hidden_name_for there ≡ Ok more)
    (away : Answered old (calls.Rename dir name side.hidden more) new) where
  abbrev has : (made : Handle) × HasEffect old 0 (calls.Rename dir name side.hidden more) made
      away.answer new
  has = calls_have_effects old new 0 (calls.Rename dir name side.hidden more) away.answer refl
      away.is

  abbrev passed : Passes (copies_now old) dir name side.hidden more
  passed = rename_passed old new dir name side.hidden more has.0 away.answer has.1

  found_is : found (copies_now old) dir name ≡ Some there
  found_is =
      let at : lookup (copies_now old) dir name ≡ Some passed.moved =
      found_bound (copies_now old) dir name passed.moved passed.found_is in
      let same : passed.moved ≡ there = some_is (sym at ∙ is.bound) in passed.found_is
      ∙ ap (λ (h : Handle). Some h) same

  free : (other : Handle) → lookup (copies_now old) side.hidden more ≡ Some other → ⊥
  free other at =
      let itself : other ≡ there =
      one_hidden other there more (was.only more other at).numbered numbered in
      not_dir (one_place (copies_now old) well.tree dir side.hidden name more there is.bound
      (at ∙ ap (λ (h : Handle). Some h) itself)).0

  moves : Moves old new dir name side.hidden more there
  moves = rename_moves old new dir name side.hidden more there has.0 away.answer has.1 not_dir
      found_is free

  -- ---- what stands beside it then

  abbrev after : Side
  after = hidden_now now there side

  abbrev b : Beside
  b = renamed now (named false (at_node side there))

  node : (n : NodeCopy) × (copies_now old there ≡ Some n)
  node = there_by File (copies_now old there) is.file

  own : b.generation ≡ there.generation
  own = beside_generation side.nodes there

  here : at_node after there ≡ b
  here = flags_here old well side was.rows there node.0 node.1 b own

  others : KeepsOtherFlags old there side after
  others = record {
    hidden = refl;
    rows = many_rows side.nodes there b;
    there = λ h n at differ. flags_by side after h
        (flags_there old well side was.rows there node.0 node.1 b own h n at differ);
    before = λ h differ nameless. flags_by side after h
        (flags_before old well side was.rows there node.0 node.1 b own h differ nameless);
  }

  opens_now : (at_node after there).opens ≡ (at_node side there).opens
  opens_now = ap (λ (r : Beside). r.opens) here

  -- ---- what it leaves

  -- the hidden files are one more
  pub there_hidden : AreHidden new after
  there_hidden =
      moves_hidden old new side after dir name there more was well moves not_dir is.bound is.file
      numbered others (ap (λ (r : Beside). r.nameless) here)
      (subst (λ (n : ℕ). 0 < n) (sym opens_now) is.opened)

  pub there_open : KeepsOpenFiles side old new
  there_open h n at kind opened =
      let file : kind_of (copies_now old h) ≡ Some File = ap kind_of at ∙ ap (λ k. Some k) kind in
      moves.same h (λ same. kinds_differ (copies_now old) dir h moves.from_is file (sym same))
      (λ same. kinds_differ (copies_now old) side.hidden h was.directory file (sym same)) ∙ at

  pub there_opens : (h : Handle) (n : NodeCopy) → copies_now old h ≡ Some n
      → (at_node after h).opens ≡ (at_node side h).opens
  there_opens h n at = go (one_or_other h there) where
    go : (h ≡ there) ⊎ (h ≢ there) → (at_node after h).opens ≡ (at_node side h).opens
    go (inl same) = subst (λ (i : Handle). (at_node after i).opens ≡ (at_node side i).opens)
        (sym same) opens_now
    go (inr differ) = (others.there h n at differ).opens

  -- its name is free, and each node is there still
  pub there_free : lookup (copies_now new) dir name ≡ None
  there_free = left_free (copies_now old) (copies_now new) dir name moves.from_is moves.left

  pub there_still : (h : Handle) (n : NodeCopy) → copies_now old h ≡ Some n → (m : NodeCopy)
      × (copies_now new h ≡ Some m)
  there_still h n at =
      there_by n.kind (copies_now new h)
      (moved_kinds old new dir side.hidden there name more moves h ∙ ap kind_of at)
