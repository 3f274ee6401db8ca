-- A call that passes its check finds an inode under each of its handles.
use Rattle.std.proofs.Common.{◌≡◌, ℕ, ◌<◌, ◌==◌, ◌∙◌, Bool, true, false, cond, List, [], ◌∷◌, ◌++◌, Option, Some, None, arith, length, refl, subst, sym}
use Rattle.std.specs.Prelude.{option_map}
use Rattle.std.specs.List.{AllByRecursion}
use Rattle.std.proofs.lemmas.Bool.{and_parts, eqb-true}
use Rattle.nv_base.specs.declared.numbers.Handle.{Handle}
use Rattle.nv_calls.specs.AllCalls.{effect, looked, refusal}
use Rattle.nv_calls.specs.Locked.{handles, if_any}
use Rattle.nv_calls.specs.Plain.{PlainNode, stamped}
use Rattle.nv_calls.specs.Refusals.{found, kind_of, passes, want_bound}
use Rattle.nv_calls.specs.Slots.{last_commit}
use Rattle.nv_calls.specs.calls.Create.{create_refusal}
use Rattle.nv_calls.specs.calls.Lookup.{lookup_refusal}
use Rattle.nv_calls.specs.calls.Rename.{bound_effect, moved_refusal, own_place, pass_if, rename_early, replaced_refusal}
use Rattle.nv_calls.specs.calls.Rmdir.{rmdir_late}
use Rattle.nv_calls.specs.calls.Unlink.{unlink_late}
use Rattle.nv_calls.specs.declared.call.Call.{Call}
use Rattle.nv_calls.specs.declared.call.Call.TheVariants as call
use Rattle.nv_calls.specs.declared.looked.LookupResult.{LookupResult}
use Rattle.nv_calls.proofs.Passed.{IsThere, both_passed, directory_passed, file_passed, if_passed, look_passed, node_passed, there}
use Rattle.nv_cell.specs.Cell.{log_of}
use Rattle.nv_entry.specs.Node.{node_now}
use Rattle.nv_entry.specs.declared.item.Entry.{Entry}
use Rattle.nv_entry.specs.declared.node.NodeCopy.{NodeCopy}
use Rattle.nv_base.specs.declared.node.Kind.{Kind}
use Rattle.nv_base.specs.declared.node.Kind.TheVariants.{Dir, File}
use Rattle.nv_base.specs.declared.fault.Fault.TheVariants as fault
use Rattle.nv_cell.specs.Readers.{has_inode}
use Rattle.nv_machine.specs.Reads.{bytes_among, copies}
use Rattle.nv_machine.specs.Step.{same_found, same_looked}
use Rattle.nv_machine.specs.World.{Shared, cell_at}

-- ---- a node is that of an inode

there_inode : (s : Shared) (handle : Handle) → IsThere (copies s handle) → has_inode (cell_at s handle.ino) ≡ true
there_inode s handle is = go (log_of (cell_at s handle.ino)) refl where
  none : (b : Bool) (log : List Entry) → log ≡ []
      → option_map (λ (p : PlainNode). p.node)
      (cond b (stamped (last_commit log) (node_now (bytes_among (cell_at s handle.ino).blocks) (cell_at s handle.ino).block log)) None)
      ≡ None
  none true log e = rw e refl
  none false log e = refl

  no_node : (node : NodeCopy) → None ≡ Some node → ⊥
  no_node node e = cc

  go : (log : List Entry) → log_of (cell_at s handle.ino) ≡ log → has_inode (cell_at s handle.ino) ≡ true
  go [] e = absurd (no_node is.node
      (sym (none (handle.generation == (cell_at s handle.ino).generation) (log_of (cell_at s handle.ino)) e) ∙ is.is))
  go (x ∷ log) e = rw e refl

-- ---- every handle is tested

module _ (nodes : Handle → Option NodeCopy) where
  abbrev AreThere : List Handle → Type 0
  AreThere list = AllByRecursion (λ (handle : Handle). IsThere (nodes handle)) list

  created_there : (dir : Handle) (name : List ℕ) → create_refusal nodes dir name ≡ passes → AreThere (dir ∷ [])
  created_there dir name passed = (there Dir (nodes dir) (directory_passed (nodes dir) _ passed).0, tt)

  unlinked_there : (bound : Option Handle) → unlink_late nodes bound ≡ passes → AreThere (if_any bound)
  unlinked_there None passed = cc
  unlinked_there (Some to) passed = (there File (nodes to) (file_passed (nodes to) _ passed).0, tt)

  removed_there : (bound : Option Handle) → rmdir_late nodes bound ≡ passes → AreThere (if_any bound)
  removed_there None passed = cc
  removed_there (Some to) passed = (there Dir (nodes to) (directory_passed (nodes to) _ passed).0, tt)

  replaced_there : (moved : Option Kind) (other : Option Handle) → replaced_refusal nodes moved other ≡ passes → AreThere (if_any other)
  replaced_there moved None passed = tt
  replaced_there moved (Some other) passed = ((node_passed (nodes other) _ passed).0, tt)

  moved_there : (own : Bool) (from to : Handle) (old new : List ℕ) (bound other : Option Handle) → own_place from old to new ≡ own
      → 0 < length (cond own [] (bound_effect from old to new bound other))
      → want_bound bound (λ moved. pass_if own (moved_refusal nodes from to other moved)) ≡ passes
      → AreThere (if_any bound ++ if_any other)
  moved_there true from to old new bound other is any passed = absurd (omega (arith, any))
  moved_there false from to old new None other is any passed = cc
  moved_there false from to old new (Some moved) other is any passed =
      let m = node_passed (nodes moved) _ passed in
      (m.0, replaced_there (kind_of (nodes moved)) other (if_passed _ fault.MoveDirectory _ m.1).1)

  pub handles_there : (block : ℕ) (made : Handle) (c : Call) → refusal block nodes c ≡ passes → 0 < length (effect nodes made c)
      → AreThere (handles (looked nodes c) c)
  handles_there block made (call.Create dir name mode) passed any = created_there dir name passed
  handles_there block made (call.Mkdir dir name mode) passed any = created_there dir name passed
  handles_there block made (call.Write file offset text) passed any =
      (there File (nodes file) (file_passed (nodes file) _ passed).0, tt)
  handles_there block made (call.Size file size) passed any =
      (there File (nodes file) (file_passed (nodes file) _ passed).0, tt)
  handles_there block made (call.Mode handle mode) passed any = ((node_passed (nodes handle) _ passed).0, tt)
  handles_there block made (call.Unlink dir name) passed any =
      let both = both_passed (lookup_refusal nodes dir name) _ passed in
      (there Dir (nodes dir) (look_passed nodes dir name both.0).0, unlinked_there (found nodes dir name) both.1)
  handles_there block made (call.Rmdir dir name) passed any =
      let both = both_passed (lookup_refusal nodes dir name) _ passed in
      (there Dir (nodes dir) (look_passed nodes dir name both.0).0, removed_there (found nodes dir name) both.1)
  handles_there block made (call.Rename from old to new) passed any =
      let both = both_passed (rename_early nodes from old to new) _ passed in
      let tests = both_passed (lookup_refusal nodes from old) _ both.0 in (
        there Dir (nodes from) (look_passed nodes from old tests.0).0,
        (
          there Dir (nodes to) (directory_passed (nodes to) _ tests.1).0,
          moved_there (own_place from old to new) from to old new (found nodes from old) (found nodes to new) refl any both.1,
        ),
      )
  handles_there block made other passed any = absurd (omega (arith, any))

-- ---- and the handles that the looks found are these

abbrev pub HaveInode : Shared → List Handle → Type 0
HaveInode s list = AllByRecursion (λ (handle : Handle). has_inode (cell_at s handle.ino) ≡ true) list

all_inodes : (s : Shared) (list : List Handle) → AllByRecursion (λ (handle : Handle). IsThere (copies s handle)) list → HaveInode s list
all_inodes s [] all = tt
all_inodes s (handle ∷ list) all = (there_inode s handle all.0, all_inodes s list all.1)

module _ (s : Shared) where
  same_any : (now before : Option Handle) → same_found now before ≡ true → HaveInode s (if_any now) → HaveInode s (if_any before)
  same_any None None same all = tt
  same_any None (Some other) same all = cc
  same_any (Some handle) None same all = cc
  same_any (Some handle) (Some other) same all =
      let both = and_parts (handle.ino == other.ino) (handle.generation == other.generation) same in
      (subst (λ (ino : ℕ). has_inode (cell_at s ino) ≡ true) (eqb-true handle.ino other.ino both.0) all.0, tt)

  both_any : (a b c d : Option Handle) → same_found a c ≡ true → same_found b d ≡ true → HaveInode s (if_any a ++ if_any b)
      → HaveInode s (if_any c ++ if_any d)
  both_any None b None d first second all = same_any b d second all
  both_any None b (Some c) d first second all = cc
  both_any (Some a) b None d first second all = cc
  both_any (Some a) b (Some c) d first second all =
      ((same_any (Some a) (Some c) first (all.0, tt)).0, same_any b d second all.1)

  pub same_handles : (c : Call) (now before : LookupResult) → same_looked now before ≡ true → HaveInode s (handles now c)
      → HaveInode s (handles before c)
  same_handles (call.Unlink dir name) now before same all =
      let both = and_parts (same_found now.first before.first) (same_found now.second before.second) same in
      (all.0, same_any now.first before.first both.0 all.1)
  same_handles (call.Rmdir dir name) now before same all =
      let both = and_parts (same_found now.first before.first) (same_found now.second before.second) same in
      (all.0, same_any now.first before.first both.0 all.1)
  same_handles (call.Rename from old to new) now before same all =
      let both = and_parts (same_found now.first before.first) (same_found now.second before.second) same in
      (all.0, (all.1.0, both_any now.first now.second before.first before.second both.0 both.1 all.1.1))
  same_handles other now before same all = all

-- the handles of a call that passes its check have inodes
pub checked_inodes : (block : ℕ) (s : Shared) (made : Handle) (before : LookupResult) (c : Call) → refusal block (copies s) c ≡ passes
    → 0 < length (effect (copies s) made c) → same_looked (looked (copies s) c) before ≡ true → HaveInode s (handles before c)
checked_inodes block s made before c passed any same =
    same_handles s c (looked (copies s) c) before same
    (all_inodes s (handles (looked (copies s) c) c) (handles_there (copies s) block made c passed any))
