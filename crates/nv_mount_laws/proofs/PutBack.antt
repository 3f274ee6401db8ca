-- An open file that went among the hidden ones and came back is where it was.
use Rattle.std.proofs.Common.{◌≡◌, ◌≢◌, ◌∙◌, ◌⊎◌, inl, inr, ℕ, true, List, Option, Some, None, ap, refl, sym}
use Rattle.std.proofs.lemmas.Bool.{and_from}
use Rattle.nv_base.specs.Names.{same_name}
use Rattle.nv_base.specs.declared.node.Kind.TheVariants.{File, Dir}
use Rattle.nv_base.specs.declared.numbers.Handle.{Handle}
use Rattle.nv_calls.specs.Plain.{same_handle, with_names}
use Rattle.nv_calls.specs.Refusals.{found, kind_of, lookup}
use Rattle.nv_calls.specs.calls.Rename.{own_place}
use Rattle.nv_calls.specs.declared.answer.Answer.{Answer}
use Rattle.nv_calls.specs.declared.call.Call.TheVariants as calls
use Rattle.nv_entry.specs.Index.{bound_to, with_last, without}
use Rattle.nv_entry.specs.Tree.{names_under}
use Rattle.nv_entry.specs.declared.node.NodeCopy.{NodeCopy}
use Rattle.nv_entry.proofs.Hiding.{same_name-self}
use Rattle.nv_machine.proofs.DirectoriesKept.{left_none}
use Rattle.nv_machine.proofs.DirectoriesStay.{same_self}
use Rattle.nv_mount_answers.specs.declared.kept.Time.{Time}
use Rattle.nv_mounted.specs.Renames.{rename}
use Rattle.nv_mounted.specs.declared.side.Side.{Side}
use Rattle.nv_effects.specs.Effects.{HasEffect}
use Rattle.nv_effects.proofs.Effects.{calls_have_effects}
use Rattle.nv_serial.specs.Serial.{Serial, copies_now}
use Rattle.nv_mount_laws.specs.Hidden.{AreHidden}
use Rattle.nv_mount_laws.specs.Refused.{IsPutBack, RefusedChanges, RenameChanges}
use Rattle.nv_mount_laws.proofs.Effects.{Moves, Passes, found_bound, kinds_differ, rename_moves, rename_passed}
use Rattle.nv_mount_laws.proofs.Flags.{one_or_other}
use Rattle.nv_mount_laws.proofs.HiddenKept.{arrived_bound, arrived_last, left_bound, named_kind, same_bound, there_by}
use Rattle.nv_mount_laws.proofs.HiddenNames.{one_hidden, same_hidden}
use Rattle.nv_mount_laws.proofs.Names.{names_changed, one_place, some_name_or_other}
use Rattle.nv_mount_laws.proofs.RefusedRenames.{CameBack, Raw, rename_raw}
use Rattle.nv_mount_laws.proofs.Standing.{IsWell, stands_well}

some_is : {A : Type 0} {a b : A} → Some a ≡ Some b → a ≡ b
some_is e = cc

-- what a move leaves of kinds
pub moved_kinds : (old new : Serial) (from to moved : Handle) (name more : List ℕ)
    → Moves old new from name to more moved
    → (h : Handle) → kind_of (copies_now new h) ≡ kind_of (copies_now old h)
moved_kinds old new from to moved name more moves h =
    go (one_or_other h from) (one_or_other h to) where
      go : (h ≡ from) ⊎ (h ≢ from) → (h ≡ to) ⊎ (h ≢ to) → kind_of (copies_now new h)
          ≡ kind_of (copies_now old h)
      go (inl same) at =
          ap (λ (i : Handle). kind_of (copies_now new i)) same ∙ ap kind_of moves.left
          ∙ named_kind (without name) (copies_now old from)
          ∙ ap (λ (i : Handle). kind_of (copies_now old i)) (sym same)
      go (inr differ) (inl same) =
          ap (λ (i : Handle). kind_of (copies_now new i)) same ∙ ap kind_of moves.arrived
          ∙ named_kind (with_last more moved) (copies_now old to)
          ∙ ap (λ (i : Handle). kind_of (copies_now old i)) (sym same)
      go (inr differ) (inr apart) = ap kind_of (moves.same h differ apart)

-- a name that left is bound to nothing
pub left_free : (nodes after : Handle → Option NodeCopy) (dir : Handle) (name : List ℕ)
    → kind_of (nodes dir) ≡ Some Dir
    → after dir ≡ with_names (without name) (nodes dir) → lookup after dir name ≡ None
left_free nodes after dir name kind is =
    let there = there_by Dir (nodes dir) kind in
    ap (bound_to name) (names_changed nodes after dir (without name) there.0 there.1 is)
    ∙ left_none name (names_under nodes dir)

module _ (old new : Serial) (side : Side) (was : AreHidden old side) (well : IsWell old)
    (came : CameBack side old new) where
  abbrev dir : Handle
  dir = came.dir

  abbrev name : List ℕ
  name = came.name

  abbrev hidden : List ℕ
  hidden = came.hidden

  abbrev between : Serial
  between = came.trip.between

  abbrev went : (made : Handle) × HasEffect old 0 (calls.Rename dir name side.hidden hidden) made
      came.trip.went.answer between
  went = calls_have_effects old between 0 (calls.Rename dir name side.hidden hidden)
      came.trip.went.answer refl came.trip.went.is

  abbrev returned : (made : Handle) × HasEffect between 0 (calls.Rename side.hidden hidden dir name)
      made came.trip.came.answer new
  returned = calls_have_effects between new 0 (calls.Rename side.hidden hidden dir name)
      came.trip.came.answer refl came.trip.came.is

  -- where it stood there already, nothing has changed
  unmoved : dir ≡ side.hidden → new ≡ old
  unmoved same =
      let there = was.only name came.there (ap (λ (d : Handle). lookup (copies_now old) d name)
      (sym same) ∙ came.bound) in
      let names : name ≡ hidden = same_hidden came.there name hidden there.numbered came.numbered in
      let first : own_place dir name side.hidden hidden ≡ true =
      and_from (same_handle dir side.hidden) (same_name name hidden)
      (ap (same_handle dir) (sym same) ∙ same_self dir)
      (ap (same_name name) (sym names) ∙ same_name-self name) in
      let second : own_place side.hidden hidden dir name ≡ true =
      and_from (same_handle side.hidden dir) (same_name hidden name)
      (ap (same_handle side.hidden) same ∙ same_self side.hidden)
      (ap (same_name hidden) names ∙ same_name-self hidden) in
      returned.1.same second ∙ went.1.same first

  free : dir ≢ side.hidden → (there : Handle) → lookup (copies_now old) side.hidden hidden
      ≡ Some there → ⊥
  free differ there is =
      let itself : there ≡ came.there = one_hidden there came.there hidden
      (was.only hidden there is).numbered came.numbered in
      differ (one_place (copies_now old) well.tree dir side.hidden name hidden came.there came.bound
      (is ∙ ap (λ (h : Handle). Some h) itself)).0

  found_by : (s t : Serial) (from to there made : Handle) (one other : List ℕ) (answer : Answer)
      → HasEffect s 0 (calls.Rename from one to other) made answer t
      → lookup (copies_now s) from one ≡ Some there → found (copies_now s) from one ≡ Some there
  found_by s t from to there made one other answer has bound =
      let passed : Passes (copies_now s) from one to other =
      rename_passed s t from one to other made answer has in
      let at : lookup (copies_now s) from one ≡ Some passed.moved =
      found_bound (copies_now s) from one passed.moved passed.found_is in
      let same : passed.moved ≡ there = some_is (sym at ∙ bound) in passed.found_is
      ∙ ap (λ (h : Handle). Some h) same

  away : dir ≢ side.hidden → Moves old between dir name side.hidden hidden came.there
  away differ =
      rename_moves old between dir name side.hidden hidden came.there went.0 came.trip.went.answer
      went.1 differ
      (found_by old between dir side.hidden came.there went.0 name hidden came.trip.went.answer
      went.1 came.bound) (free differ)

  no_some : {A P : Type 0} {a : A} → None ≡ Some a → P
  no_some e = cc

  back : dir ≢ side.hidden → Moves between new side.hidden hidden dir name came.there
  back differ =
      let first = away differ in
      let there : lookup (copies_now between) side.hidden hidden ≡ Some came.there =
      arrived_last (copies_now old) (copies_now between) side.hidden hidden came.there first.to_is
      first.arrived in
      let none : lookup (copies_now between) dir name ≡ None =
      left_free (copies_now old) (copies_now between) dir name first.from_is first.left in
      rename_moves between new side.hidden hidden dir name came.there returned.0
      came.trip.came.answer returned.1 (λ same. differ (sym same))
      (found_by between new side.hidden dir came.there returned.0 hidden name came.trip.came.answer
      returned.1 there)
      (λ other is. no_some (sym none ∙ is))

  none_or : (found : Option Handle) → ((there : Handle) → found ≡ Some there → ⊥) → found ≡ None
  none_or None none = refl
  none_or (Some there) none = absurd (none there refl)

  names : dir ≢ side.hidden → (d : Handle) (n : List ℕ) → lookup (copies_now new) d n
      ≡ lookup (copies_now old) d n
  names differ d n = go (one_or_other d dir) (one_or_other d side.hidden) where
    first : Moves old between dir name side.hidden hidden came.there
    first = away differ

    second : Moves between new side.hidden hidden dir name came.there
    second = back differ

    at_dir : (name ≡ n) ⊎ (name ≢ n) → lookup (copies_now new) dir n ≡ lookup (copies_now old) dir n
    at_dir (inl same) =
        ap (lookup (copies_now new) dir) (sym same)
        ∙ arrived_last (copies_now between) (copies_now new) dir name came.there second.to_is
        second.arrived
        ∙ sym came.bound ∙ ap (lookup (copies_now old) dir) same
    at_dir (inr other) =
        arrived_bound (copies_now between) (copies_now new) dir n name came.there second.to_is
        second.arrived other
        ∙ left_bound (copies_now old) (copies_now between) dir n name first.from_is first.left other

    at_hidden : (hidden ≡ n) ⊎ (hidden ≢ n) → lookup (copies_now new) side.hidden n
        ≡ lookup (copies_now old) side.hidden n
    at_hidden (inl same) =
        ap (lookup (copies_now new) side.hidden) (sym same)
        ∙ left_free (copies_now between) (copies_now new) side.hidden hidden second.from_is
        second.left
        ∙ sym (none_or (lookup (copies_now old) side.hidden hidden) (free differ))
        ∙ ap (lookup (copies_now old) side.hidden) same
    at_hidden (inr other) =
        left_bound (copies_now between) (copies_now new) side.hidden n hidden second.from_is
        second.left other
        ∙ arrived_bound (copies_now old) (copies_now between) side.hidden n hidden came.there
        first.to_is first.arrived other

    go : (d ≡ dir) ⊎ (d ≢ dir) → (d ≡ side.hidden) ⊎ (d ≢ side.hidden) → lookup (copies_now new) d n
        ≡ lookup (copies_now old) d n
    go (inl same) at =
        ap (λ (i : Handle). lookup (copies_now new) i n) same ∙ at_dir (some_name_or_other name n)
        ∙ ap (λ (i : Handle). lookup (copies_now old) i n) (sym same)
    go (inr apart) (inl same) =
        ap (λ (i : Handle). lookup (copies_now new) i n) same
        ∙ at_hidden (some_name_or_other hidden n)
        ∙ ap (λ (i : Handle). lookup (copies_now old) i n) (sym same)
    go (inr apart) (inr other) =
        same_bound (copies_now between) (copies_now new) d n (second.same d other apart)
        ∙ same_bound (copies_now old) (copies_now between) d n (first.same d apart other)

  kinds : dir ≢ side.hidden → (h : Handle) → kind_of (copies_now new h) ≡ kind_of (copies_now old h)
  kinds differ h =
      moved_kinds between new side.hidden dir came.there hidden name (back differ) h
      ∙ moved_kinds old between dir side.hidden came.there name hidden (away differ) h

  files : dir ≢ side.hidden → (h : Handle) (n : NodeCopy) → copies_now old h ≡ Some n → n.kind
      ≡ File → copies_now new h ≡ Some n
  files differ h n is kind =
      let file : kind_of (copies_now old h) ≡ Some File = ap kind_of is ∙ ap (λ k. Some k) kind in
      let not_dir : h ≢ dir = (λ same. kinds_differ (copies_now old) dir h (away differ).from_is
      file (sym same)) in
      let not_hidden : h ≢ side.hidden = (λ same. kinds_differ (copies_now old) side.hidden h
      was.directory file (sym same)) in
      (back differ).same h not_hidden not_dir ∙ (away differ).same h not_dir not_hidden ∙ is

  pub put_back : IsPutBack old new
  put_back = go (one_or_other dir side.hidden) where
    go : (dir ≡ side.hidden) ⊎ (dir ≢ side.hidden) → IsPutBack old new
    go (inl same) =
        let one = unmoved same in
        record {
          names = λ d n. ap (λ (s : Serial). lookup (copies_now s) d n) one;
          files = λ h n is kind. ap (λ (s : Serial). copies_now s h) one ∙ is;
          kinds = λ h. ap (λ (s : Serial). kind_of (copies_now s h)) one;
        }
    go (inr differ) = record { names = names differ; files = files differ; kinds = kinds differ }

-- A REFUSED RENAME has changed nothing; or it lost an empty directory; or an open file went, and is
-- back
pub rename_refused : (side : Side) (now : Time) (from : ℕ) (old : List ℕ) (to : ℕ) (new : List ℕ)
    (flags : ℕ)
    → RefusedChanges RenameChanges (rename side now from old to new flags) side
rename_refused side now from old to new flags s t new_side refusal stands was does =
    (go (rename_raw side now flags from old to new s t refusal does.had), does.same) where
      go : (t ≡ s) ⊎ Raw side s refusal t → (t ≡ s) ⊎ RenameChanges s refusal t
      go (inl same) = inl same
      go (inr (inl gone)) = inr (inl gone)
      go (inr (inr came)) = inr (inr (put_back s t side was (stands_well s stands) came))
