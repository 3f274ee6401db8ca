-- What a call knows whose tests it passes.
use Rattle.std.proofs.Common.{◌≡◌, ℕ, ◌==◌, ◌&&◌, Bool, true, false, not, cond, List, Option, Some, None, refl}
use Rattle.std.specs.Prelude.{Ok, Err, IsTrue, option_map}
use Rattle.std.proofs.lemmas.Bool.{eqb-true}
use Rattle.nv_base.specs.Names.{is_lawful_name}
use Rattle.nv_base.specs.declared.fault.Fault.{Fault}
use Rattle.nv_base.specs.declared.fault.Fault.TheVariants as fault
use Rattle.nv_base.specs.declared.node.Kind.{Kind}
use Rattle.nv_base.specs.declared.node.Kind.TheVariants.{File, Dir}
use Rattle.nv_base.specs.declared.numbers.Handle.{Handle}
use Rattle.nv_entry.specs.declared.node.NodeCopy.{NodeCopy}
use Rattle.nv_calls.specs.AllCalls.{looked, refusal}
use Rattle.nv_calls.specs.declared.call.Call.TheVariants as call
use Rattle.nv_calls.specs.Plain.{PlainNode, node_in, same_handle}
use Rattle.nv_calls.specs.Refusals.{Check, and_then, is_directory, kind_of, passes, refuse_if, want_directory, want_file, want_lawful, want_node}
use Rattle.nv_calls.specs.Slots.{InodeSlot, node_under}
use Rattle.nv_calls.specs.calls.Lookup.{lookup_refusal}
use Rattle.nv_calls.specs.calls.Rename.{moved_refusal, pass_if, rename_early, rename_late, replaced_refusal}

-- a node that is there
pub record IsThere (found : Option NodeCopy) : Type 0 where
  pub node : NodeCopy
  pub is : found ≡ Some node

-- a node of some kind that is there
pub record HasKind (kind : Kind) (found : Option NodeCopy) : Type 0 where
  pub node : NodeCopy
  pub is : found ≡ Some node
  pub kind_is : node.kind ≡ kind

abbrev pub there : (kind : Kind) (found : Option NodeCopy) → HasKind kind found → IsThere found
there kind found h = record { node = h.node; is = h.is }

pub if_passed : (b : Bool) (why : Fault) (next : Check) → refuse_if b why next ≡ passes → (b ≡ false) × (next ≡ passes)
if_passed true why next h = cc
if_passed false why next h = (refl, h)

pub node_passed : (found : Option NodeCopy) (next : Check) → want_node (kind_of found) next ≡ passes → IsThere found × (next ≡ passes)
node_passed None next h = cc
node_passed (Some node) next h = (record { node = node; is = refl }, h)

file_kind : (kind : Kind) (next : Check) → want_file (Some kind) next ≡ passes → (kind ≡ File) × (next ≡ passes)
file_kind File next h = (refl, h)
file_kind Dir next h = cc

pub file_passed : (found : Option NodeCopy) (next : Check) → want_file (kind_of found) next ≡ passes → HasKind File found × (next ≡ passes)
file_passed None next h = cc
file_passed (Some node) next h = let k = file_kind node.kind next h in (record { node = node; is = refl; kind_is = k.0 }, k.1)

directory_kind : (kind : Kind) (next : Check) → want_directory (Some kind) next ≡ passes → (kind ≡ Dir) × (next ≡ passes)
directory_kind File next h = cc
directory_kind Dir next h = (refl, h)

pub directory_passed : (found : Option NodeCopy) (next : Check) → want_directory (kind_of found) next ≡ passes
    → HasKind Dir found × (next ≡ passes)
directory_passed None next h = cc
directory_passed (Some node) next h = let k = directory_kind node.kind next h in (record { node = node; is = refl; kind_is = k.0 }, k.1)

-- two rounds of tests
pub both_passed : (first next : Check) → and_then first next ≡ passes → (first ≡ passes) × (next ≡ passes)
both_passed (Ok tt) next h = (refl, h)
both_passed (Err why) next h = cc

lawful_by : (b : Bool) (next : Check) → refuse_if (not b) fault.BadName next ≡ passes → IsTrue b × (next ≡ passes)
lawful_by true next h = (refl, h)
lawful_by false next h = cc

pub lawful_passed : (name : List ℕ) (next : Check) → want_lawful name next ≡ passes → IsTrue (is_lawful_name name) × (next ≡ passes)
lawful_passed name next h = lawful_by (is_lawful_name name) next h

-- a look that is not refused
pub look_passed : (nodes : Handle → Option NodeCopy) (dir : Handle) (name : List ℕ) → lookup_refusal nodes dir name ≡ passes
    → HasKind Dir (nodes dir) × IsTrue (is_lawful_name name)
look_passed nodes dir name passed =
    let d = directory_passed (nodes dir) _ passed in (d.0, (lawful_passed name _ d.1).0)

-- a handle with a node is that of its slot
pub own_handle : (bytes : ℕ → List ℕ) (block : ℕ) (slots : ℕ → InodeSlot) (handle : Handle)
    → IsThere (node_in (node_under bytes block slots) handle) → handle.generation ≡ (slots handle.ino).generation
own_handle bytes block slots handle there = go (handle.generation == (slots handle.ino).generation) _ refl there.is where
  go : (b : Bool) (there_now : Option PlainNode) → (handle.generation == (slots handle.ino).generation) ≡ b
      → option_map (λ (p : PlainNode). p.node) (cond b there_now None) ≡ Some there.node → handle.generation ≡ (slots handle.ino).generation
  go true now q h = eqb-true handle.generation (slots handle.ino).generation q
  go false now q h = cc

-- ---- renames

-- what passes where the two places differ
pub elsewhere : (own : Bool) (next : Check) → own ≡ false → pass_if own next ≡ passes → next ≡ passes
elsewhere true next q h = cc
elsewhere false next q h = h

module _ (block : ℕ) (nodes : Handle → Option NodeCopy) (from : Handle) (old : List ℕ) (to : Handle) (new : List ℕ) where
  -- what is known of a move that is not refused
  pub moved_passed : (moved : Handle) (other : Option Handle) → moved_refusal nodes from to other moved ≡ passes
      → IsThere (nodes moved) × (replaced_refusal nodes (kind_of (nodes moved)) other ≡ passes)
  moved_passed moved other h =
      let kind : Option Kind = kind_of (nodes moved) in
      let last : Check = replaced_refusal nodes kind other in
      let crosses : Bool = is_directory kind && not (same_handle from to) in
      let m = node_passed (nodes moved) (refuse_if crosses fault.MoveDirectory last) h in
      (m.0, (if_passed crosses fault.MoveDirectory last m.1).1)

  -- what is known of a rename that is not refused: both are directories, and the tests of what its names lead to
  pub names_passed : refusal block nodes (call.Rename from old to new) ≡ passes
      → HasKind Dir (nodes from) × HasKind Dir (nodes to) × IsTrue (is_lawful_name old) × IsTrue (is_lawful_name new)
      × (rename_late nodes from old to new (looked nodes (call.Rename from old to new)) ≡ passes)
  names_passed passed =
      let both = both_passed (rename_early nodes from old to new) _ passed in
      let tests = both_passed (lookup_refusal nodes from old) _ both.0 in
      let f = look_passed nodes from old tests.0 in
      let t = directory_passed (nodes to) _ tests.1 in
      (f.0, t.0, f.1, (lawful_passed new _ t.1).0, both.1)
