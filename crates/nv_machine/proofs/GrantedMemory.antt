-- No test of the plain world refuses a call for want of memory, so that where it is granted no step does.
use Rattle.std.proofs.Common.{Bool, List, None, Option, Some, [], false, if◌then◌else◌, inl, inr, length, nat_le, nat_lt, not, subst, suc, sym, true, zero, ℕ, ◌&&◌, ◌*◌, ◌+◌, ◌||◌, ◌∷◌, ◌≡◌}
use Rattle.std.specs.Prelude.{Err, Ok, is_some}
use Rattle.nv_base.specs.Names.{is_lawful_name}
use Rattle.nv_base.specs.declared.fault.Fault.{Fault}
use Rattle.nv_base.specs.declared.fault.Fault.TheVariants.{BadName, CommitLimit, Contended, EpochLimit, Exists, FileTooBig, MoveDirectory, NoInode, NoSnapshot, NoSpace, NotEmpty, OutOfMemory, TooManySnapshots, WriteTooBig, Stale}
use Rattle.nv_base.specs.declared.limits.TheConstants.{FILE_PAGES, NUMBER}
use Rattle.nv_base.specs.declared.node.Kind.{Kind}
use Rattle.nv_base.specs.declared.node.Kind.TheVariants.{Dir, File}
use Rattle.nv_base.specs.declared.numbers.Handle.{Handle}
use Rattle.nv_entry.specs.Tree.{names_of_node}
use Rattle.nv_entry.specs.declared.node.NodeCopy.{NodeCopy}
use Rattle.nv_calls.specs.AllCalls.{early, late, look_refusal, looked, refusal}
use Rattle.nv_calls.specs.Plain.{same_handle}
use Rattle.nv_calls.specs.Refusals.{Check as Tests, and_then, is_directory, kind_of, lookup, passes, refuse_if, want_bound, want_directory, want_file, want_lawful, want_node}
use Rattle.nv_calls.specs.declared.call.Call.{Call}
use Rattle.nv_calls.specs.declared.looked.LookupResult.{LookupResult}
use Rattle.nv_calls.specs.calls.Create.{create_refusal}
use Rattle.nv_calls.specs.calls.Lookup.{lookup_refusal}
use Rattle.nv_calls.specs.calls.Rename.{moved_refusal, own_place, pass_if, rename_early, replaced_refusal}
use Rattle.nv_calls.specs.calls.Write.{text_refusal}
use Rattle.nv_machine.specs.Causes.{EndsFor, IsCause, IsDenied, IsShort, MayBeOvertaken, RefusesFor}
use Rattle.nv_machine.specs.Memory.{IsOther}
use Rattle.nv_machine.specs.Reads.{copies}
use Rattle.nv_machine.specs.Step.{kind_turn}
use Rattle.nv_machine.specs.World.{Answers, Check, Drop, Ending, Ends, Enter, HandState, Look, Make, Moves, Next, Pick, Pin, Ready, Refuses, Running, Shared, Show, SnapshotOrCleaner, TakeBlocks, TakeLogPages, Turn, Visit, Waits, Fresh, PlanCleaning}
use Rattle.nv_machine.proofs.RefusalCauses.{caused}
use Rattle.nv_machine.specs.SnapshotOrCleaner.{drop_tests, make_tests}
use Rattle.nv_epoch.specs.SnapList.{Snapshots as Living, pins_of}
use Rattle.nv_calls.specs.declared.call.Call.TheVariants as call

-- ---- tests, one after another

abbrev IsElse : Fault → Type 0
IsElse (OutOfMemory _) = ⊥
IsElse other = Unit {0}

else_other : (fault : Fault) → IsElse fault → IsOther fault
else_other fault is = λ same. subst IsElse same is

abbrev AreElse : Tests → Type 0
AreElse (Ok passed) = Unit {0}
AreElse (Err fault) = IsElse fault

if_else : (b : Bool) (fault : Fault) (next : Tests) → IsElse fault → AreElse next → AreElse (refuse_if b fault next)
if_else true fault next is rest = is
if_else false fault next is rest = rest

node_else : (kind : Option Kind) (next : Tests) → AreElse next → AreElse (want_node kind next)
node_else None next rest = tt
node_else (Some kind) next rest = rest

file_else : (kind : Option Kind) (next : Tests) → AreElse next → AreElse (want_file kind next)
file_else None next rest = tt
file_else (Some File) next rest = rest
file_else (Some Dir) next rest = tt

directory_else : (kind : Option Kind) (next : Tests) → AreElse next → AreElse (want_directory kind next)
directory_else None next rest = tt
directory_else (Some File) next rest = tt
directory_else (Some Dir) next rest = rest

lawful_else : (name : List ℕ) (next : Tests) → AreElse next → AreElse (want_lawful name next)
lawful_else name next rest = if_else (not (is_lawful_name name)) BadName next tt rest

bound_else : (bound : Option Handle) (next : Handle → Tests) → ((to : Handle) → AreElse (next to)) → AreElse (want_bound bound next)
bound_else None next rest = tt
bound_else (Some to) next rest = rest to

pass_else : (b : Bool) (next : Tests) → AreElse next → AreElse (pass_if b next)
pass_else true next rest = tt
pass_else false next rest = rest

then_else : (first next : Tests) → AreElse first → AreElse next → AreElse (and_then first next)
then_else (Ok passed) next is rest = rest
then_else (Err fault) next is rest = is

-- ---- call by call

module _ (block : ℕ) (nodes : Handle → Option NodeCopy) where
  lookup_else : (dir : Handle) (name : List ℕ) → AreElse (lookup_refusal nodes dir name)
  lookup_else dir name =
      directory_else (kind_of (nodes dir)) _
      (lawful_else name _ (bound_else (lookup nodes dir name) (λ to. passes) (λ to. tt)))

  create_else : (dir : Handle) (name : List ℕ) → AreElse (create_refusal nodes dir name)
  create_else dir name =
      directory_else (kind_of (nodes dir)) _ (lawful_else name _ (if_else (is_some (lookup nodes dir name)) Exists passes tt tt))

  text_else : (offset : ℕ) (text : List ℕ) → AreElse (text_refusal block offset text)
  text_else offset [] = tt
  text_else offset (byte ∷ rest) =
      if_else _ WriteTooBig _ tt (if_else (nat_lt (FILE_PAGES * block) (offset + length (byte ∷ rest))) FileTooBig passes tt tt)

  replaced_else : (moved : Option Kind) (other : Option Handle) → AreElse (replaced_refusal nodes moved other)
  replaced_else moved None = tt
  replaced_else moved (Some other) =
      node_else (kind_of (nodes other)) _
      (if_else (is_directory moved || is_directory (kind_of (nodes other))) Exists passes tt tt)

  moved_else : (from to : Handle) (other : Option Handle) (moved : Handle) → AreElse (moved_refusal nodes from to other moved)
  moved_else from to other moved =
      node_else (kind_of (nodes moved)) _
      (if_else (is_directory (kind_of (nodes moved)) && not (same_handle from to)) MoveDirectory _ tt
      (replaced_else (kind_of (nodes moved)) other))

  rename_else : (from : Handle) (old : List ℕ) (to : Handle) (new : List ℕ) → AreElse (rename_early nodes from old to new)
  rename_else from old to new =
      then_else (lookup_refusal nodes from old) _ (lookup_else from old)
      (directory_else (kind_of (nodes to)) _ (lawful_else new passes tt))

  early_else : (c : Call) → AreElse (early nodes c)
  early_else (call.Unlink dir name) = lookup_else dir name
  early_else (call.Rmdir dir name) = lookup_else dir name
  early_else (call.Rename from old to new) = rename_else from old to new
  early_else other = tt

  late_else : (found : LookupResult) (c : Call) → AreElse (late block nodes found c)
  late_else found (call.Create dir name mode) = create_else dir name
  late_else found (call.Mkdir dir name mode) = create_else dir name
  late_else found (call.Write file offset text) = file_else (kind_of (nodes file)) _ (text_else offset text)
  late_else found (call.Read file offset count) = file_else (kind_of (nodes file)) passes tt
  late_else found (call.Size file size) =
      file_else (kind_of (nodes file)) _ (if_else (nat_lt (FILE_PAGES * block) size) FileTooBig passes tt tt)
  late_else found (call.Mode handle mode) = node_else (kind_of (nodes handle)) passes tt
  late_else found (call.Stat handle) = node_else (kind_of (nodes handle)) passes tt
  late_else found (call.List dir) = directory_else (kind_of (nodes dir)) passes tt
  late_else found (call.Lookup dir name) = lookup_else dir name
  late_else found (call.SnapshotOrCleaner what) = tt
  late_else found (call.Unlink dir name) = bound_else found.first _ (λ to. file_else (kind_of (nodes to)) passes tt)
  late_else found (call.Rmdir dir name) =
      bound_else found.first _ (λ to. directory_else (kind_of (nodes to)) _
      (if_else (nat_lt 0 (length (names_of_node (nodes to)))) NotEmpty passes tt tt))
  late_else found (call.Rename from old to new) =
      bound_else found.first _ (λ moved. pass_else (own_place from old to new) _ (moved_else from to found.second moved))

  look_else : (c : Call) → AreElse (look_refusal nodes c)
  look_else (call.Unlink dir name) = lookup_else dir name
  look_else (call.Rmdir dir name) = lookup_else dir name
  look_else (call.Rename from old to new) = lookup_else from old
  look_else other = tt

  refusal_else : (c : Call) → AreElse (refusal block nodes c)
  refusal_else c = then_else (early nodes c) (late block nodes (looked nodes c) c) (early_else c) (late_else (looked nodes c) c)

tests_other : (tests : Tests) (fault : Fault) → AreElse tests → tests ≡ Err fault → IsOther fault
tests_other tests fault is e = else_other fault (subst AreElse e is)

-- ---- the causes, where memory is granted

is_other : (fault own : Fault) → IsElse own → fault ≡ own → IsOther fault
is_other fault own is e = else_other fault (subst IsElse (sym e) is)

granted_other : (fault : Fault) → IsDenied true fault → IsOther fault
granted_other fault lack = let none = lack.1 in cc

short_other : (s : Shared) (cpu asked wanted : ℕ) (fault : Fault) → IsShort s cpu asked wanted fault → IsOther fault
short_other s cpu asked r fault short = is_other fault NoSpace tt short.is

make_else : (snaps : Living) → AreElse (make_tests snaps)
make_else snaps = go (nat_le NUMBER snaps.epoch) (nat_le snaps.most (length snaps.living)) where
  go : (b c : Bool) → AreElse (if b then Err EpochLimit else if c then Err TooManySnapshots else Ok tt)
  go true c = tt
  go false true = tt
  go false false = tt

drop_else : (pins : Option ℕ) → AreElse (drop_tests pins)
drop_else None = tt
drop_else (Some zero) = tt
drop_else (Some (suc pins)) = tt

cause_other : (k : Next) (block actor : ℕ) (s : Shared) (h : HandState) (r : Running) (fault : Fault)
    → IsCause k block actor true (copies s) s h r fault → IsOther fault
cause_other (Look place) block actor s h r fault told =
    tests_other (look_refusal (copies s) r.call) fault (look_else block (copies s) r.call) told
cause_other Check block actor s h r fault (inl told) =
    tests_other (refusal block (copies s) r.call) fault (refusal_else block (copies s) r.call) told
cause_other Check block actor s h r fault (inr (inl none)) = is_other fault NoInode tt none.0.0
cause_other Check block actor s h r fault (inr (inr (inl lack))) = granted_other fault lack.0
cause_other Check block actor s h r fault (inr (inr (inr last))) = is_other fault Contended tt last.0
cause_other (TakeBlocks asked) block actor s h r fault short = short_other s _ asked r.wanted fault short
cause_other (TakeLogPages asked) block actor s h r fault short = short_other s _ asked r.wanted fault short
cause_other Ready block actor s h r fault lack = granted_other fault lack
cause_other Enter block actor s h r fault (inl limit) = is_other fault CommitLimit tt limit.0
cause_other Enter block actor s h r fault (inr lack) = granted_other fault lack
cause_other Visit block actor s h r fault (inl told) =
    tests_other (refusal block (copies s) r.call) fault (refusal_else block (copies s) r.call) told
cause_other Visit block actor s h r fault (inr lack) = granted_other fault lack.0
cause_other (SnapshotOrCleaner Make) block actor s h r fault told =
    tests_other (make_tests s.book.snaps) fault (make_else s.book.snaps) told
cause_other (SnapshotOrCleaner (Drop snapshot)) block actor s h r fault told =
    tests_other (drop_tests (pins_of s.book.snaps snapshot)) fault (drop_else (pins_of s.book.snaps snapshot)) told
cause_other (SnapshotOrCleaner (Pin snapshot)) block actor s h r fault told = is_other fault NoSnapshot tt told.0
cause_other (SnapshotOrCleaner (Show snapshot showing)) block actor s h r fault lack = granted_other fault lack
cause_other (SnapshotOrCleaner (Pick draining)) block actor s h r fault lack = granted_other fault lack.0
cause_other (SnapshotOrCleaner (PlanCleaning manner slot)) block actor s h r fault (inl none) = is_other fault Stale tt none.0
cause_other (SnapshotOrCleaner (PlanCleaning manner slot)) block actor s h r fault (inr lack) = granted_other fault lack.0
cause_other (SnapshotOrCleaner (Fresh ino asked wanted)) block actor s h r fault short = short_other s _ asked wanted fault short
cause_other other block actor s h r fault none = absurd none

module _ (P R : Fault → Type 0) (Q : Type 0) (more : (fault : Fault) → P fault → R fault) where
  ends_more : (next : Next) (e : Ending) → EndsFor P Q next e → EndsFor R (Unit {0}) next e
  ends_more next (Refuses fault) ends = (more fault ends.0, ends.1)
  ends_more next other ends = tt

  refuses_more : (t : Turn) → RefusesFor P Q t → RefusesFor R (Unit {0}) t
  refuses_more (Moves s h r) ends = ends_more r.next r.ending ends
  refuses_more Waits ends = tt
  refuses_more (Ends (Ok found) s h) ends = tt
  refuses_more (Ends (Err fault) s h) ends = more fault ends

-- ---- the law

pub granted_none : (k : Next) (block actor : ℕ) (s : Shared) (h : HandState) (r : Running) → r.ending ≡ Answers
    → RefusesFor IsOther (Unit {0}) (kind_turn k block actor true s h r)
granted_none k block actor s h r e =
    refuses_more (IsCause k block actor true (copies s) s h r) IsOther (MayBeOvertaken k (copies s) r)
    (λ fault. cause_other k block actor s h r fault) (kind_turn k block actor true s h r) (caused k block actor true s h r e)
