-- What a name that leaves, and one that moves, leave of the nodes.
use Rattle.std.proofs.Common.{◌≡◌, ◌≢◌, ◌∙◌, ℕ, Bool, false, List, [], ◌∷◌, Option, Some, None, Ok, Err, ap, length, refl, sym}
use Rattle.std.specs.Prelude.{if◌then◌else◌}
use Rattle.nv_base.specs.declared.fault.Fault.{Fault}
use Rattle.nv_base.specs.declared.node.Kind.{Kind}
use Rattle.nv_base.specs.declared.node.Kind.TheVariants.{File, Dir}
use Rattle.nv_base.specs.declared.numbers.Handle.{Handle}
use Rattle.nv_calls.specs.Plain.{Change, change, goes, with_names}
use Rattle.nv_calls.specs.Refusals.{Check, and_find, found, found_by, kind_of, lookup, passes, want_bound, want_directory, want_file, want_lawful}
use Rattle.nv_calls.specs.calls.Lookup.{lookup_refusal}
use Rattle.nv_calls.specs.calls.Rename.{bound_effect, move_effect, moved_refusal, own_place, pass_if, rename_early, rename_late}
use Rattle.nv_calls.specs.calls.Rmdir.{rmdir_late}
use Rattle.nv_calls.specs.calls.Unlink.{leave_effect, unlink_late}
use Rattle.nv_calls.specs.declared.answer.Answer.{Answer}
use Rattle.nv_calls.specs.declared.call.Call.TheVariants as calls
use Rattle.nv_calls.proofs.Passed.{HasKind, both_passed, directory_passed, file_passed, look_passed}
use Rattle.nv_entry.specs.Index.{with_last, without}
use Rattle.nv_entry.specs.declared.node.NodeCopy.{NodeCopy}
use Rattle.nv_machine.proofs.DirectoriesChanged.{other_handle}
use Rattle.nv_machine.proofs.DirectoriesStay.{same_self}
use Rattle.nv_effects.specs.Effects.{HasEffect, changed}
use Rattle.nv_serial.specs.Serial.{Serial, copies_now}

-- ---- changes

pub changed_first : (at : Handle) (f : Option NodeCopy → Option NodeCopy) (rest : List Change)
    (nodes : Handle → Option NodeCopy)
    → changed (change at f ∷ rest) nodes at ≡ f (nodes at)
changed_first at f rest nodes = ap (λ (b : Bool). if b then f (nodes at) else changed rest nodes at)
    (same_self at)

pub changed_later : (at : Handle) (f : Option NodeCopy → Option NodeCopy) (rest : List Change)
    (nodes : Handle → Option NodeCopy)
    (handle : Handle) → handle ≢ at → changed (change at f ∷ rest) nodes handle
    ≡ changed rest nodes handle
changed_later at f rest nodes handle other =
    ap (λ (b : Bool). if b then f (nodes handle) else changed rest nodes handle)
    (other_handle at handle (λ same. other (sym same)))

no_some : {A P : Type 0} {a : A} → None ≡ Some a → P
no_some e = cc

no_pass : {P : Type 0} {why : Fault} → Err why ≡ passes → P
no_pass e = cc

-- what a look found is bound
pub found_bound : (nodes : Handle → Option NodeCopy) (dir : Handle) (name : List ℕ) (to : Handle)
    → found nodes dir name ≡ Some to
    → lookup nodes dir name ≡ Some to
found_bound nodes dir name to is = go (want_directory (kind_of (nodes dir))
    (want_lawful name passes)) is where
      go : (check : Check) → found_by (and_find check (lookup nodes dir name)) ≡ Some to
          → lookup nodes dir name ≡ Some to
      go (Ok tt) e = e
      go (Err why) e = no_some e

-- a test that something is found
bound_passed : (to : Option Handle) (next : Handle → Check) → want_bound to next ≡ passes
    → (handle : Handle) × (to ≡ Some handle) × (next handle ≡ passes)
bound_passed None next e = no_pass e
bound_passed (Some handle) next e = (handle, refl, e)

-- nodes of different kinds differ
pub kinds_differ : (nodes : Handle → Option NodeCopy) (a b : Handle) → kind_of (nodes a) ≡ Some Dir
    → kind_of (nodes b) ≡ Some File → a ≢ b
kinds_differ nodes a b dir file same =
    let z : Some Dir ≡ Some File = sym dir ∙ ap (λ (h : Handle). kind_of (nodes h)) same
    ∙ file in cc

pub kind_is : (kind : Kind) (found : Option NodeCopy) → HasKind kind found → kind_of found
    ≡ Some kind
kind_is kind found has = ap kind_of has.is ∙ ap (λ (k : Kind). Some k) has.kind_is

-- ---- a name leaves, and its node goes

-- what a name that left leaves
pub record Leaves (old new : Serial) (dir : Handle) (name : List ℕ) (to : Handle) : Type 0 where
  pub bound : lookup (copies_now old) dir name ≡ Some to
  pub dir_is : kind_of (copies_now old dir) ≡ Some Dir
  pub left : copies_now new dir ≡ with_names (without name) (copies_now old dir)
  pub gone : to ≢ dir → copies_now new to ≡ None
  pub same : (handle : Handle) → handle ≢ dir → handle ≢ to → copies_now new handle
      ≡ copies_now old handle
  pub slots : length new.slots ≡ length old.slots

left_by : (nodes after : Handle → Option NodeCopy) (dir : Handle) (name : List ℕ)
    (bound : Option Handle) (to : Handle) → bound ≡ Some to
    → ((handle : Handle) → after handle ≡ changed (leave_effect dir name bound) nodes handle)
    → (handle : Handle) → after handle ≡ changed
    (change dir (with_names (without name)) ∷ change to goes ∷ []) nodes handle
left_by nodes after dir name bound to is each handle =
    each handle ∙ ap (λ (b : Option Handle). changed (leave_effect dir name b) nodes handle) is

leaves_by : (old new : Serial) (dir : Handle) (name : List ℕ) (to : Handle)
    → found (copies_now old) dir name ≡ Some to
    → kind_of (copies_now old dir) ≡ Some Dir → length new.slots ≡ length old.slots
    → ((handle : Handle) → copies_now new handle
    ≡ changed (leave_effect dir name (found (copies_now old) dir name)) (copies_now old) handle)
    → Leaves old new dir name to
leaves_by old new dir name to is kind slots each =
    let nodes = copies_now old in
    let rest : List Change = change to goes ∷ [] in
    let all = left_by nodes (copies_now new) dir name (found nodes dir name) to is each in
    record {
      bound = found_bound nodes dir name to is;
      dir_is = kind;
      left = all dir ∙ changed_first dir (with_names (without name)) rest nodes;
      gone = λ other. all to ∙ changed_later dir (with_names (without name)) rest nodes to other
          ∙ changed_first to goes [] nodes;
      same = λ handle not_dir not_to.
          all handle ∙ changed_later dir (with_names (without name)) rest nodes handle not_dir
          ∙ changed_later to goes [] nodes handle not_to;
      slots = slots;
    }

-- an unlink takes a file away
pub unlink_leaves : (old new : Serial) (dir : Handle) (name : List ℕ) (made : Handle) (a : Answer)
    → HasEffect old 0 (calls.Unlink dir name) made a new
    → (to : Handle) × Leaves old new dir name to × (kind_of (copies_now old to) ≡ Some File)
unlink_leaves old new dir name made a has =
    let nodes = copies_now old in
    let tests = both_passed (lookup_refusal nodes dir name)
    (unlink_late nodes (found nodes dir name)) has.unrefused in
    let looked = look_passed nodes dir name tests.0 in
    let bound = bound_passed (found nodes dir name) (λ to. want_file (kind_of (nodes to)) passes)
    tests.1 in
    let file = file_passed (nodes bound.0) passes bound.2 in (
      bound.0,
      leaves_by old new dir name bound.0 bound.1 (kind_is Dir (nodes dir) looked.0) has.slots
          has.nodes,
      kind_is File (nodes bound.0) file.0,
    )

-- an rmdir takes a directory away
pub rmdir_leaves : (old new : Serial) (dir : Handle) (name : List ℕ) (made : Handle) (a : Answer)
    → HasEffect old 0 (calls.Rmdir dir name) made a new
    → (to : Handle) × Leaves old new dir name to × (kind_of (copies_now old to) ≡ Some Dir)
rmdir_leaves old new dir name made a has =
    let nodes = copies_now old in
    let tests = both_passed (lookup_refusal nodes dir name)
    (rmdir_late nodes (found nodes dir name)) has.unrefused in
    let looked = look_passed nodes dir name tests.0 in
    let bound = bound_passed (found nodes dir name) _ tests.1 in
    let there = directory_passed (nodes bound.0) _ bound.2 in (
      bound.0,
      leaves_by old new dir name bound.0 bound.1 (kind_is Dir (nodes dir) looked.0) has.slots
          has.nodes,
      kind_is Dir (nodes bound.0) there.0,
    )

-- ---- a name moves to another directory

-- what a name that moved leaves, where the other directory had none such
pub record Moves (old new : Serial) (from : Handle) (name : List ℕ) (to : Handle) (more : List ℕ)
    (moved : Handle) : Type 0 where
  pub from_is : kind_of (copies_now old from) ≡ Some Dir
  pub to_is : kind_of (copies_now old to) ≡ Some Dir
  pub left : copies_now new from ≡ with_names (without name) (copies_now old from)
  pub arrived : copies_now new to ≡ with_names (with_last more moved) (copies_now old to)
  pub same : (handle : Handle) → handle ≢ from → handle ≢ to → copies_now new handle
      ≡ copies_now old handle
  pub slots : length new.slots ≡ length old.slots

-- the changes of a name that moves where nothing stands
abbrev moves : Handle → List ℕ → Handle → List ℕ → Handle → List Change
moves from name to more moved =
    change from (with_names (without name)) ∷ change to (with_names (with_last more moved)) ∷ []

-- tests that a rename passed
pub record Passes (nodes : Handle → Option NodeCopy) (from : Handle) (name : List ℕ) (to : Handle)
    (more : List ℕ) : Type 0 where
  pub from_is : kind_of (nodes from) ≡ Some Dir
  pub to_is : kind_of (nodes to) ≡ Some Dir
  pub moved : Handle
  pub found_is : found nodes from name ≡ Some moved

pub rename_passed : (old new : Serial) (from : Handle) (name : List ℕ) (to : Handle) (more : List ℕ)
    (made : Handle) (a : Answer)
    → HasEffect old 0 (calls.Rename from name to more) made a new
    → Passes (copies_now old) from name to more
rename_passed old new from name to more made a has =
    let nodes = copies_now old in
    let tests = both_passed (rename_early nodes from name to more)
    (rename_late nodes from name to more (record
    { first = found nodes from name; second = found nodes to more })) has.unrefused in
    let early = both_passed (lookup_refusal nodes from name)
    (want_directory (kind_of (nodes to)) (want_lawful more passes)) tests.0 in
    let looked = look_passed nodes from name early.0 in
    let there = directory_passed (nodes to) (want_lawful more passes) early.1 in
    let bound = bound_passed (found nodes from name)
    (λ moved. pass_if (own_place from name to more)
    (moved_refusal nodes from to (found nodes to more) moved)) tests.1 in
    record {
      from_is = kind_is Dir (nodes from) looked.0;
      to_is = kind_is Dir (nodes to) there.0;
      moved = bound.0;
      found_is = bound.1;
    }

-- names of different directories are not one place
other_place : (from to : Handle) (name more : List ℕ) → from ≢ to → own_place from name to more
    ≡ false
other_place from to name more differ = rw (other_handle from to differ) refl

effect_is : (from : Handle) (name : List ℕ) (to : Handle) (more : List ℕ) (moved : Handle)
    → from ≢ to → (first second : Option Handle) → first ≡ Some moved → second ≡ None
    → (if own_place from name to more then [] else bound_effect from name to more first second)
    ≡ moves from name to more moved
effect_is from name to more moved differ first second is none =
    ap (λ (b : Bool). if b then [] else bound_effect from name to more first second)
    (other_place from to name more differ)
    ∙ ap (λ (f : Option Handle). bound_effect from name to more f second) is
    ∙ ap (λ (s : Option Handle). bound_effect from name to more (Some moved) s) none
    ∙ ap (λ (b : Bool). move_effect b from name to more moved []) (other_handle from to differ)

none_or : (found : Option Handle) → ((there : Handle) → found ≡ Some there → ⊥) → found ≡ None
none_or None none = refl
none_or (Some there) none = absurd (none there refl)

pub rename_moves : (old new : Serial) (from : Handle) (name : List ℕ) (to : Handle) (more : List ℕ)
    (moved made : Handle) (a : Answer)
    → HasEffect old 0 (calls.Rename from name to more) made a new → from ≢ to
    → found (copies_now old) from name ≡ Some moved
    → ((there : Handle) → lookup (copies_now old) to more ≡ Some there → ⊥)
    → Moves old new from name to more moved
rename_moves old new from name to more moved made a has differ is none =
    let nodes = copies_now old in
    let passed = rename_passed old new from name to more made a has in
    let free : found nodes to more ≡ None = none_or (found nodes to more)
    (λ there at. none there (found_bound nodes to more there at)) in
    let last : List Change = change to (with_names (with_last more moved)) ∷ [] in
    let all : (handle : Handle) → copies_now new handle
    ≡ changed (moves from name to more moved) nodes handle =
    (λ handle. has.nodes handle ∙ ap (λ (changes : List Change). changed changes nodes handle)
    (effect_is from name to more moved differ (found nodes from name) (found nodes to more) is
    free)) in
    record {
      from_is = passed.from_is;
      to_is = passed.to_is;
      left = all from ∙ changed_first from (with_names (without name)) last nodes;
      arrived = all to ∙ changed_later from (with_names (without name)) last nodes to
          (λ same. differ (sym same))
          ∙ changed_first to (with_names (with_last more moved)) [] nodes;
      same = λ handle not_from not_to.
          all handle ∙ changed_later from (with_names (without name)) last nodes handle not_from
          ∙ changed_later to (with_names (with_last more moved)) [] nodes handle not_to;
      slots = has.slots;
    }
