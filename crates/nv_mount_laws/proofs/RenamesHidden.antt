-- A rename between directories that are not the hidden one, over a file that is not open or over
-- nothing, leaves hidden files hidden and open files as they are.
use Rattle.std.proofs.Common.{◌≡◌, ◌≢◌, ◌∙◌, ◌⊎◌, inl, inr, ℕ, List, Option, Some, None, ap, length, refl, subst, sym}
use Rattle.nv_base.specs.declared.node.Kind.TheVariants.{File, Dir}
use Rattle.nv_base.specs.declared.numbers.Handle.{Handle}
use Rattle.nv_calls.specs.Refusals.{found, kind_of, lookup}
use Rattle.nv_calls.specs.declared.call.Call.TheVariants as calls
use Rattle.nv_entry.specs.Tree.{names_under, root}
use Rattle.nv_entry.specs.declared.node.NodeCopy.{NodeCopy}
use Rattle.nv_machine.proofs.DirectoriesChanged.{found_in}
use Rattle.nv_mount_beside.specs.Names.{hidden}
use Rattle.nv_mounted.specs.declared.side.Side.{Side}
use Rattle.nv_serial.specs.Serial.{Serial, copies_now}
use Rattle.nv_mount_laws.specs.Hidden.{AreHidden}
use Rattle.nv_mount_laws.proofs.Asked.{Answered}
use Rattle.nv_mount_laws.proofs.Effects.{found_bound, kinds_differ}
use Rattle.nv_mount_laws.proofs.Flags.{KeepsFlags, one_or_other}
use Rattle.nv_mount_laws.proofs.HiddenKept.{elsewhere_hidden, flags_hidden, hidden_flags, there_by}
use Rattle.nv_mount_laws.proofs.Renamed.{Renames, renamed}
use Rattle.nv_mount_laws.proofs.RenamesFound.{IsClosedFile}
use Rattle.nv_mount_laws.proofs.Standing.{IsWell}
use Rattle.nv_mount_laws.proofs.UnlinkHidden.{KeepsOpenFiles}

-- a place that requests name: not in the hidden directory, and not the hidden directory's own name
pub record IsPlaceOf (side : Side) (dir : Handle) (name : List ℕ) : Type 0 where
  pub not_hidden : dir ≢ side.hidden
  pub free : dir ≡ root → name ≡ hidden → ⊥

no_some : {A P : Type 0} {a : A} → None ≡ Some a → P
no_some e = cc

-- what is in the way is this node, or is not
this_or_other : (way : Option Handle) (h : Handle) → (way ≡ Some h) ⊎ (way ≢ Some h)
this_or_other None h = inr no_some
this_or_other (Some there) h = go (one_or_other there h) where
  go : (there ≡ h) ⊎ (there ≢ h) → (Some there ≡ Some h) ⊎ (Some there ≢ Some h)
  go (inl same) = inl (ap (λ (i : Handle). Some i) same)
  go (inr other) = inr (λ (same : Some there ≡ Some h). other (cc))

module _ (old new : Serial) (side new_side : Side) (from : Handle) (name : List ℕ) (to : Handle)
    (more : List ℕ) (was : AreHidden old side) (well : IsWell old)
    (source : IsPlaceOf side from name) (target : IsPlaceOf side to more)
    (over : (there : Handle) → lookup (copies_now old) to more ≡ Some there
    → IsClosedFile old side there)
    (done : Answered old (calls.Rename from name to more) new)
    (flags : KeepsFlags old side new_side) where
  abbrev way : Option Handle
  way = found (copies_now old) to more

  -- what is in the way is a file that is not open
  in_way : (h : Handle) → way ≡ Some h → IsClosedFile old side h
  in_way h is = over h (found_bound (copies_now old) to more h is)

  no_directory : (h : Handle) → kind_of (copies_now old h) ≡ Some Dir → way ≢ Some h
  no_directory h dir is = kinds_differ (copies_now old) h h dir (in_way h is).file refl

  module _ (leaves : Renames (copies_now old) (copies_now new) from name to more way)
      (slots : length new.slots ≡ length old.slots) where
    not_root : way ≢ Some root
    not_root is =
        well.tree.one_name.unnamed to (
          record { name = more; to = root },
          found_in more (names_under (copies_now old) to) root
              (found_bound (copies_now old) to more root is),
          refl,
        )

    kinds : (h : Handle) → way ≢ Some h → kind_of (copies_now new h) ≡ kind_of (copies_now old h)
    kinds h free = go (one_or_other h from) (one_or_other h to) where
      go : (h ≡ from) ⊎ (h ≢ from) → (h ≡ to) ⊎ (h ≢ to) → kind_of (copies_now new h)
          ≡ kind_of (copies_now old h)
      go (inl same) other =
          ap (λ (i : Handle). kind_of (copies_now new i)) same ∙ leaves.from_stays
          ∙ sym leaves.from_is ∙ ap (λ (i : Handle). kind_of (copies_now old i)) (sym same)
      go (inr not_from) (inl same) =
          ap (λ (i : Handle). kind_of (copies_now new i)) same ∙ leaves.to_stays ∙ sym leaves.to_is
          ∙ ap (λ (i : Handle). kind_of (copies_now old i)) (sym same)
      go (inr not_from) (inr not_to) = ap kind_of (leaves.same h not_from not_to free)

    before : (h : Handle) (n : NodeCopy) → copies_now new h ≡ Some n → (m : NodeCopy)
        × (copies_now old h ≡ Some m)
    before h n is = go (this_or_other way h) where
      go : (way ≡ Some h) ⊎ (way ≢ Some h) → (m : NodeCopy) × (copies_now old h ≡ Some m)
      go (inl at) =
          let file = (in_way h at).file in
          no_some (sym (leaves.gone h at
          (λ same. kinds_differ (copies_now old) from h leaves.from_is file (sym same))
          (λ same. kinds_differ (copies_now old) to h leaves.to_is file (sym same))) ∙ is)
      go (inr other) = there_by n.kind (copies_now old h) (sym (kinds h other) ∙ ap kind_of is)

    moved_hidden : AreHidden new new_side
    moved_hidden =
        elsewhere_hidden old new side new_side was well
        (leaves.names root hidden (λ at is. source.free (sym at) is)
        (λ at is. target.free (sym at) is) not_root)
        (leaves.same side.hidden (λ same. source.not_hidden (sym same))
        (λ same. target.not_hidden (sym same)) (no_directory side.hidden was.directory))
        (λ h n is nameless. before h n is) (λ h nameless opened. kinds h
        (λ is. (in_way h is).closed opened)) slots flags

    moved_open : KeepsOpenFiles side old new
    moved_open h n is kind opened =
        let file : kind_of (copies_now old h) ≡ Some File = ap kind_of is ∙ ap (λ k. Some k) kind in
        leaves.same h (λ same. kinds_differ (copies_now old) from h leaves.from_is file (sym same))
        (λ same. kinds_differ (copies_now old) to h leaves.to_is file (sym same))
        (λ at. (in_way h at).closed opened) ∙ is

  -- THE HIDDEN FILES stay so
  pub renamed_hidden : AreHidden new new_side
  renamed_hidden = go (renamed old new from name to more done) where
    go : (new ≡ old) ⊎ (Renames (copies_now old) (copies_now new) from name to more way
        × (length new.slots ≡ length old.slots))
        → AreHidden new new_side
    go (inl same) = subst (λ (s : Serial). AreHidden s new_side) (sym same)
        (flags_hidden old side new_side was well (hidden_flags old side new_side flags))
    go (inr (leaves, slots)) = moved_hidden leaves slots

  -- OPEN FILES stay as they are
  pub renamed_open : KeepsOpenFiles side old new
  renamed_open h n is kind opened = go (renamed old new from name to more done) where
    go : (new ≡ old) ⊎ (Renames (copies_now old) (copies_now new) from name to more way
        × (length new.slots ≡ length old.slots))
        → copies_now new h ≡ Some n
    go (inl same) = ap (λ (s : Serial). copies_now s h) same ∙ is
    go (inr (leaves, slots)) = moved_open leaves slots h n is kind opened
