-- A call is the same in worlds that agree on the handles that it locks.
use Rattle.std.proofs.Common.{◌≡◌, ℕ, ◌&&◌, not, nat_lt, length, List, [], ◌∷◌, ◌++◌, Option, Some, None, refl, ap, ap₂, ◌∙◌}
use Rattle.std.specs.Prelude.{option_map}
use Rattle.nv_base.specs.declared.fault.Fault.TheVariants as fault
use Rattle.nv_base.specs.declared.node.Kind.{Kind}
use Rattle.nv_base.specs.declared.numbers.Handle.{Handle}
use Rattle.nv_entry.specs.declared.node.NodeCopy.{NodeCopy}
use Rattle.nv_calls.specs.AllCalls.{looked, plan}
use Rattle.nv_calls.specs.declared.allocation.Allocation.{Allocation}
use Rattle.nv_calls.specs.declared.call.Call.{Call}
use Rattle.nv_calls.specs.declared.call.Call.TheVariants as call
use Rattle.nv_calls.specs.declared.looked.LookupResult.{LookupResult}
use Rattle.nv_calls.specs.Locked.{Agree, SameCall, handles, if_any}
use Rattle.nv_calls.specs.Plain.{PlainNode, node_in, same_handle}
use Rattle.nv_calls.specs.Refusals.{Check, and_then, found, is_directory, kind_of, passes, refuse_if, want_bound, want_directory, want_file, want_lawful, want_node}
use Rattle.nv_entry.specs.Tree.{names_of_node}
use Rattle.nv_calls.specs.calls.Lookup.{lookup_refusal}
use Rattle.nv_calls.specs.calls.Rename.{moved_refusal, own_place, pass_if, rename_early, rename_effect, rename_late, rename_plan, replaced_refusal}
use Rattle.nv_calls.specs.calls.Rmdir.{rmdir_late}
use Rattle.nv_calls.specs.calls.Unlink.{leave_effect, leave_plan, unlink_late}

module _ (nodes other : Handle → Option NodeCopy) where
  -- the nodes of a list of handles are the same
  abbrev Same : List Handle → Type 0
  Same list = Agree nodes other list

  left : (xs ys : List Handle) → Same (xs ++ ys) → Same xs
  left [] ys h = tt
  left (x ∷ xs) ys h = (h.0, left xs ys h.1)

  right : (xs ys : List Handle) → Same (xs ++ ys) → Same ys
  right [] ys h = h
  right (x ∷ xs) ys h = right xs ys h.1

  found_same : (dir : Handle) (name : List ℕ) → other dir ≡ nodes dir → found other dir name ≡ found nodes dir name
  found_same dir name same = ap (λ (node : Option NodeCopy). let f : Handle → Option NodeCopy = λ handle. node in found f dir name) same

  look_same : (dir : Handle) (name : List ℕ) → other dir ≡ nodes dir → lookup_refusal other dir name ≡ lookup_refusal nodes dir name
  look_same dir name same =
      ap (λ (node : Option NodeCopy). let f : Handle → Option NodeCopy = λ handle. node in lookup_refusal f dir name) same

  -- the tests of what a name leads to
  bound_same : (bound : Option Handle) (f g : Handle → Check) → ((to : Handle) → other to ≡ nodes to → g to ≡ f to) → Same (if_any bound)
      → want_bound bound g ≡ want_bound bound f
  bound_same None f g each h = refl
  bound_same (Some to) f g each h = each to h.0

  replaced_same : (moved : Option Kind) (bound : Option Handle) → Same (if_any bound)
      → replaced_refusal other moved bound ≡ replaced_refusal nodes moved bound
  replaced_same moved None h = refl
  replaced_same moved (Some to) h = let e = h.0 in rw e refl

  moved_same : (from to : Handle) (bound : Option Handle) → Same (if_any bound) → (moved : Handle) → other moved ≡ nodes moved
      → moved_refusal other from to bound moved ≡ moved_refusal nodes from to bound moved
  moved_same from to bound h moved e =
      ap (λ (node : Option NodeCopy). tests (kind_of node) (replaced_refusal other (kind_of node) bound)) e
      ∙ ap (λ (check : Check). tests (kind_of (nodes moved)) check) (replaced_same (kind_of (nodes moved)) bound h) where
        tests : Option Kind → Check → Check
        tests kind next = want_node kind (refuse_if (is_directory kind && not (same_handle from to)) fault.MoveDirectory next)

  late_same : (from : Handle) (old : List ℕ) (to : Handle) (new : List ℕ) (l : LookupResult) → Same (if_any l.first ++ if_any l.second)
      → rename_late other from old to new l ≡ rename_late nodes from old to new l
  late_same from old to new l h =
      bound_same l.first (λ moved. pass_if (own_place from old to new) (moved_refusal nodes from to l.second moved))
      (λ moved. pass_if (own_place from old to new) (moved_refusal other from to l.second moved))
      (λ moved e. ap (pass_if (own_place from old to new))
      (moved_same from to l.second (right (if_any l.first) (if_any l.second) h) moved e))
      (left (if_any l.first) (if_any l.second) h)

  early_same : (from : Handle) (old : List ℕ) (to : Handle) (new : List ℕ) → other from ≡ nodes from → other to ≡ nodes to
      → rename_early other from old to new ≡ rename_early nodes from old to new
  early_same from old to new f t =
      ap₂ (λ (check : Check) (node : Option NodeCopy). and_then check (want_directory (kind_of node) (want_lawful new passes)))
      (look_same from old f) t

  unlink_same : (bound : Option Handle) → Same (if_any bound) → unlink_late other bound ≡ unlink_late nodes bound
  unlink_same bound h =
      bound_same bound (λ to. want_file (kind_of (nodes to)) passes) (λ to. want_file (kind_of (other to)) passes)
      (λ to e. ap (λ (node : Option NodeCopy). want_file (kind_of node) passes) e) h

  rmdir_same : (bound : Option Handle) → Same (if_any bound) → rmdir_late other bound ≡ rmdir_late nodes bound
  rmdir_same bound h = bound_same bound (λ to. empty (nodes to)) (λ to. empty (other to)) (λ to e. ap empty e) h where
    empty : Option NodeCopy → Check
    empty node = want_directory (kind_of node) (refuse_if (nat_lt 0 (length (names_of_node node))) fault.NotEmpty passes)

  write_same : (block : ℕ) (taken : Allocation) (file : Handle) (offset : ℕ) (text : List ℕ) → other file ≡ nodes file
      → plan block other taken (call.Write file offset text) ≡ plan block nodes taken (call.Write file offset text)
  write_same block taken file offset [] e = refl
  write_same block taken file offset (byte ∷ rest) e = rw e refl

module _ (block : ℕ) (plain others : Handle → Option PlainNode) (taken : Allocation) where
  abbrev n : Handle → Option NodeCopy
  n = node_in plain

  abbrev o : Handle → Option NodeCopy
  o = node_in others

  same_node : (handle : Handle) → others handle ≡ plain handle → o handle ≡ n handle
  same_node handle e = ap (λ (p : Option PlainNode). option_map (λ (x : PlainNode). x.node) p) e

  all_same : (list : List Handle) → Agree plain others list → Agree n o list
  all_same [] h = tt
  all_same (handle ∷ list) h = (same_node handle h.0, all_same list h.1)

  abbrev SameIn : Call → Type 0
  SameIn c = SameCall block plain others taken c

  abbrev one_name : Option Handle → LookupResult
  one_name first = record { first = first; second = None }

  abbrev two_names : Option Handle → Option Handle → LookupResult
  two_names first second = record { first = first; second = second }

  pub call_same : (c : Call) → Agree plain others (handles (looked n c) c) → SameIn c
  call_same (call.Write file offset text) h =
      let e = same_node file h.0 in
      record {
        found = refl;
        early = refl;
        refusal = rw e refl;
        effect = refl;
        plan = write_same n o block taken file offset text e;
        answer = refl;
        handles = refl;
        wanted = λ present. refl;
      }
  call_same (call.SnapshotOrCleaner c) h = record {
    found = refl;
    early = refl;
    refusal = refl;
    effect = refl;
    plan = refl;
    answer = refl;
    handles = refl;
    wanted = λ present. refl;
  }
  call_same (call.Unlink dir name) h =
      let s = all_same (dir ∷ if_any (found n dir name)) h in
      let bound = found_same n o dir name s.0 in
      let look = look_same n o dir name s.0 in
      record {
        found = ap one_name bound;
        early = look;
        refusal = ap₂ and_then look (ap (unlink_late o) bound ∙ unlink_same n o (found n dir name) s.1);
        effect = ap (leave_effect dir name) bound;
        plan = ap (leave_plan dir name) bound;
        answer = refl;
        handles = ap (λ (b : Option Handle). dir ∷ if_any b) bound;
        wanted = λ present. refl;
      }
  call_same (call.Rmdir dir name) h =
      let s = all_same (dir ∷ if_any (found n dir name)) h in
      let bound = found_same n o dir name s.0 in
      let look = look_same n o dir name s.0 in
      record {
        found = ap one_name bound;
        early = look;
        refusal = ap₂ and_then look (ap (rmdir_late o) bound ∙ rmdir_same n o (found n dir name) s.1);
        effect = ap (leave_effect dir name) bound;
        plan = ap (leave_plan dir name) bound;
        answer = refl;
        handles = ap (λ (b : Option Handle). dir ∷ if_any b) bound;
        wanted = λ present. refl;
      }
  call_same (call.Rename from old to new) h =
      let c : Call = call.Rename from old to new in
      let s = all_same (from ∷ to ∷ if_any (found n from old) ++ if_any (found n to new)) h in
      let both = ap₂ two_names (found_same n o from old s.0) (found_same n o to new s.1.0) in
      let tests = early_same n o from old to new s.0 s.1.0 in
      record {
        found = both;
        early = tests;
        refusal = ap₂ and_then tests (ap (rename_late o from old to new) both ∙ late_same n o from old to new (looked n c) s.1.1);
        effect = ap (rename_effect from old to new) both;
        plan = ap (rename_plan from old to new) both;
        answer = refl;
        handles = ap (λ (l : LookupResult). handles l c) both;
        wanted = λ present. refl;
      }
  -- any other call looks no name up before it locks, and its one handle tells what it reads
  call_same c h =
      let e = same_node _ h.0 in
      record {
        found = refl;
        early = refl;
        refusal = rw e refl;
        effect = refl;
        plan = refl;
        answer = first_of (rw e, rw (h.0), cc);
        handles = refl;
        wanted = λ present. first_of (rw e, cc);
      }
