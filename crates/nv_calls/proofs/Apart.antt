-- A plan is of different inodes, of no more than three.
use Rattle.std.proofs.Common.{◌≡◌, ◌≢◌, ℕ, ◌<◌, ◌≤◌, ◌==◌, ◌||◌, nat_lt, Bool, true, false, cond, List, [], ◌∷◌, length, Option, Some, None, arith, refl, ap, sym, ◌∙◌}
use Rattle.std.specs.Prelude.{Ok, Err}
use Rattle.std.specs.List.{AllByRecursion}
use Rattle.std.proofs.lemmas.Bool.{eq-eqb, ltb-false}
use Rattle.nv_base.specs.declared.fault.Fault.TheVariants as fault
use Rattle.nv_base.specs.declared.node.Kind.{Kind}
use Rattle.nv_base.specs.declared.node.Kind.TheVariants.{File, Dir}
use Rattle.nv_base.specs.declared.numbers.Handle.{Handle}
use Rattle.nv_entry.specs.declared.names.BoundName.{BoundName}
use Rattle.nv_entry.specs.declared.node.NodeCopy.{NodeCopy}
use Rattle.nv_entry.specs.Index.{bound_to}
use Rattle.nv_entry.specs.Tree.{names_of_node}
use Rattle.nv_calls.specs.AllCalls.{IsReady, plan, refusal}
use Rattle.nv_calls.specs.declared.allocation.Allocation.{Allocation}
use Rattle.nv_calls.specs.declared.call.Call.{Call}
use Rattle.nv_calls.specs.declared.call.Call.TheVariants as call
use Rattle.nv_calls.specs.declared.plan.InodePlan.{InodePlan}
use Rattle.nv_calls.specs.Locked.{handles_made_by}
use Rattle.nv_calls.specs.Plain.{node_in, same_handle}
use Rattle.nv_calls.specs.Plan.{AreFewApart}
use Rattle.nv_calls.specs.Refusals.{Check, and_find, found, found_by, is_directory, kind_of, passes, refuse_if, want_bound, want_directory, want_lawful}
use Rattle.nv_calls.specs.Slots.{InodeSlot, node_under}
use Rattle.nv_calls.specs.calls.Lookup.{lookup_refusal}
use Rattle.nv_calls.specs.calls.Rename.{bound_plan, move_plan, moved_refusal, own_place, pass_if, replaced_plan, replaced_refusal}
use Rattle.nv_calls.specs.calls.Rmdir.{rmdir_late}
use Rattle.nv_calls.specs.calls.Unlink.{leave_plan, unlink_late}
use Rattle.nv_calls.proofs.Passed.{HasKind, IsThere, both_passed, directory_passed, elsewhere, file_passed, if_passed, look_passed, moved_passed, names_passed, node_passed, there}
use Rattle.nv_calls.proofs.Standing.{free_apart, one_handle}

-- ---- lists of one to three

few_none : AreFewApart []
few_none = record { apart = tt; few = omega arith }

few_one : (p : InodePlan) → AreFewApart (p ∷ [])
few_one p = record { apart = (tt, tt); few = omega arith }

few_two : (p q : InodePlan) → q.handle.ino ≢ p.handle.ino → AreFewApart (p ∷ q ∷ [])
few_two p q apart = record { apart = ((apart, tt), (tt, tt)); few = omega arith }

few_three : (p q r : InodePlan) → q.handle.ino ≢ p.handle.ino → r.handle.ino ≢ p.handle.ino → r.handle.ino ≢ q.handle.ino
    → AreFewApart (p ∷ q ∷ r ∷ [])
few_three p q r a b c = record { apart = ((a, (b, tt)), ((c, tt), (tt, tt))); few = omega arith }

-- ---- what is known

-- a directory in which a look finds something has a name
some_name : (name : List ℕ) (names : List BoundName) (to : Handle) → bound_to name names ≡ Some to → 0 < length names
some_name name [] to h = cc
some_name name (bound ∷ names) to h = omega arith

found_name : (check : Check) (name : List ℕ) (names : List BoundName) (to : Handle)
    → found_by (and_find check (bound_to name names)) ≡ Some to → 0 < length names
found_name (Ok tt) name names to h = some_name name names to h
found_name (Err why) name names to h = cc

-- no directory
file_of : (found : Option NodeCopy) → IsThere found → is_directory (kind_of found) ≡ false → HasKind File found
file_of found t other = record {
  node = t.node;
  is = t.is;
  kind_is = go t.node.kind (ap (λ (n : Option NodeCopy). is_directory (kind_of n)) (sym t.is) ∙ other);
} where
  go : (kind : Kind) → is_directory (Some kind) ≡ false → kind ≡ File
  go File h = refl
  go Dir h = cc

second_false : (a b : Bool) → (a || b) ≡ false → b ≡ false
second_false true b h = cc
second_false false b h = h

module _ (block : ℕ) (nodes : Handle → Option NodeCopy) (taken : Allocation)
    (one_handle : (a b : Handle) → IsThere (nodes a) → IsThere (nodes b) → a.ino ≡ b.ino → a ≡ b) where
  -- a file and a directory are different inodes
  kinds_apart : (file dir : Handle) → HasKind File (nodes file) → HasKind Dir (nodes dir) → file.ino ≢ dir.ino
  kinds_apart file dir f d i =
      let same = one_handle file dir (there File (nodes file) f) (there Dir (nodes dir) d) i in
      let file_kind = f.kind_is in
      let dir_kind = d.kind_is in
      let nodes_same : Some f.node ≡ Some d.node = sym f.is ∙ ap nodes same ∙ d.is in
      let node : f.node ≡ d.node = cc in
      let kinds : f.node.kind ≡ d.node.kind = ap (λ (n : NodeCopy). n.kind) node in
      let z : File ≡ Dir = sym file_kind ∙ kinds ∙ dir_kind in cc

  -- ---- unlink and rmdir

  unlink_apart : (dir : Handle) (name : List ℕ) (bound : Option Handle) → HasKind Dir (nodes dir)
      → unlink_late nodes bound ≡ passes → AreFewApart (leave_plan dir name bound)
  unlink_apart dir name None d h = few_none
  unlink_apart dir name (Some to) d h = few_two _ _ (kinds_apart to dir (file_passed (nodes to) passes h).0 d)

  rmdir_apart : (dir : Handle) (name : List ℕ) (bound : Option Handle) → HasKind Dir (nodes dir) → found nodes dir name ≡ bound
      → rmdir_late nodes bound ≡ passes
      → AreFewApart (leave_plan dir name bound)
  rmdir_apart dir name None d is h = few_none
  rmdir_apart dir name (Some to) d is h = few_two _ _ apart where
    t : HasKind Dir (nodes to) × (refuse_if (nat_lt 0 (length (names_of_node (nodes to)))) fault.NotEmpty passes ≡ passes)
    t = directory_passed (nodes to) _ h

    none : length (names_of_node (nodes to)) ≤ 0
    none =
        ltb-false 0 (length (names_of_node (nodes to)))
        (if_passed (nat_lt 0 (length (names_of_node (nodes to)))) fault.NotEmpty passes t.1).0

    one : 0 < length (names_of_node (nodes dir))
    one = found_name (want_directory (kind_of (nodes dir)) (want_lawful name passes)) name (names_of_node (nodes dir)) to is

    apart : to.ino ≢ dir.ino
    apart i =
        let same = one_handle to dir (there Dir (nodes to) t.0) (there Dir (nodes dir) d) i in
        let names : length (names_of_node (nodes to)) ≡ length (names_of_node (nodes dir)) =
        ap (λ (h : Handle). length (names_of_node (nodes h))) same in
        omega (arith, names, none, one)

  -- ---- rename

  module _ (from : Handle) (old : List ℕ) (to : Handle) (new : List ℕ) (f : HasKind Dir (nodes from)) (t : HasKind Dir (nodes to)) where
    replaced_file : (moved : Option Kind) (other : Handle) → replaced_refusal nodes moved (Some other) ≡ passes → HasKind File (nodes other)
    replaced_file moved other h =
        let n = node_passed (nodes other) _ h in
        file_of (nodes other) n.0
        (second_false (is_directory moved) (is_directory (kind_of (nodes other)))
        (if_passed (is_directory moved || is_directory (kind_of (nodes other))) fault.Exists passes n.1).0)

    two_directories : same_handle from to ≡ false → to.ino ≢ from.ino
    two_directories differ i =
        let same = one_handle to from (there Dir (nodes to) t) (there Dir (nodes from) f) i in
        let ino : (from.ino == to.ino) ≡ true = eq-eqb from.ino to.ino (ap (λ (h : Handle). h.ino) (sym same)) in
        let generation : (from.generation == to.generation) ≡ true =
        eq-eqb from.generation to.generation (ap (λ (h : Handle). h.generation) (sym same)) in
        let both : same_handle from to ≡ true = rw (ino, generation) refl in
        let z : true ≡ false = sym both ∙ differ in cc

    move_apart : (same : Bool) (moved : Handle) (kind : Option Kind) (other : Option Handle) → same_handle from to ≡ same
        → replaced_refusal nodes kind other ≡ passes → AreFewApart (move_plan same from old to new moved (replaced_plan other))
    move_apart true moved kind None is h = few_one _
    move_apart true moved kind (Some other) is h =
        few_two _ _ (kinds_apart other from (replaced_file kind other h) f)
    move_apart false moved kind None is h = few_two _ _ (two_directories is)
    move_apart false moved kind (Some other) is h =
        few_three _ _ _ (two_directories is) (kinds_apart other from (replaced_file kind other h) f)
        (kinds_apart other to (replaced_file kind other h) t)

    bound_apart : (own : Bool) (bound other : Option Handle) → own_place from old to new ≡ own
        → want_bound bound (λ moved. pass_if (own_place from old to new) (moved_refusal nodes from to other moved)) ≡ passes
        → AreFewApart (cond own [] (bound_plan from old to new bound other))
    bound_apart true bound other is h = few_none
    bound_apart false None other is h = few_none
    bound_apart false (Some moved) other is h =
        let last =
        elsewhere (own_place from old to new) (moved_refusal nodes from to other moved) is h in
        let m = moved_passed block nodes from old to new moved other last in
        move_apart (same_handle from to) moved (kind_of (nodes moved)) other refl m.1

  -- an inode that is made is none of those that are there
  pub all_apart : (c : Call) → refusal block nodes c ≡ passes
      → AllByRecursion (λ (made : Handle). (other : Handle) → IsThere (nodes other) → made.ino ≢ other.ino) (handles_made_by taken.made c)
      → AreFewApart (plan block nodes taken c)
  all_apart (call.Create dir name mode) h r =
      few_two _ _ (r.0 dir (there Dir (nodes dir) (directory_passed (nodes dir) _ h).0))
  all_apart (call.Mkdir dir name mode) h r =
      few_two _ _ (r.0 dir (there Dir (nodes dir) (directory_passed (nodes dir) _ h).0))
  all_apart (call.Write file offset []) h r = few_none
  all_apart (call.Write file offset (byte ∷ rest)) h r = few_one _
  all_apart (call.Read file offset count) h r = few_none
  all_apart (call.Size file size) h r = few_one _
  all_apart (call.Mode handle mode) h r = few_one _
  all_apart (call.Stat handle) h r = few_none
  all_apart (call.List dir) h r = few_none
  all_apart (call.Lookup dir name) h r = few_none
  all_apart (call.SnapshotOrCleaner c) h r = few_none
  all_apart (call.Unlink dir name) h r =
      let both = both_passed (lookup_refusal nodes dir name) _ h in
      unlink_apart dir name (found nodes dir name) (look_passed nodes dir name both.0).0 both.1
  all_apart (call.Rmdir dir name) h r =
      let both = both_passed (lookup_refusal nodes dir name) _ h in
      rmdir_apart dir name (found nodes dir name) (look_passed nodes dir name both.0).0 refl both.1
  all_apart (call.Rename from old to new) h r =
      let names = names_passed block nodes from old to new h in
      bound_apart from old to new names.0 names.1 (own_place from old to new) (found nodes from old) (found nodes to new) refl names.4

pub few_apart : (bytes : ℕ → List ℕ) (block : ℕ) (slots : ℕ → InodeSlot) (taken : Allocation) (c : Call)
    → refusal block (node_in (node_under bytes block slots)) c ≡ passes
    → IsReady bytes block slots (node_in (node_under bytes block slots)) taken c
    → AreFewApart (plan block (node_in (node_under bytes block slots)) taken c)
few_apart bytes block slots taken c h r =
    all_apart block (node_in (node_under bytes block slots)) taken (one_handle bytes block slots) c h (is_new c r)
  where
    is_new : (c : Call) → IsReady bytes block slots (node_in (node_under bytes block slots)) taken c
        → AllByRecursion (λ (made : Handle). (other : Handle) → IsThere (node_in (node_under bytes block slots) other)
        → made.ino ≢ other.ino)
        (handles_made_by taken.made c)
    is_new (call.Create dir name mode) r = (λ other t. free_apart bytes block slots taken.made other r t, tt)
    is_new (call.Mkdir dir name mode) r = (λ other t. free_apart bytes block slots taken.made other r t, tt)
    is_new (call.Write file offset text) r = tt
    is_new (call.Read file offset count) r = tt
    is_new (call.Size file size) r = tt
    is_new (call.Mode handle mode) r = tt
    is_new (call.Stat handle) r = tt
    is_new (call.List dir) r = tt
    is_new (call.Lookup dir name) r = tt
    is_new (call.SnapshotOrCleaner c) r = tt
    is_new (call.Unlink dir name) r = tt
    is_new (call.Rmdir dir name) r = tt
    is_new (call.Rename from old to new) r = tt
