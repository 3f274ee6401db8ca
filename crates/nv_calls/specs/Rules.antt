-- THE ORDER OF REFUSALS: one list of rules for all calls on files and directories. The first that applies refuses.
use Rattle.std.specs.Prelude.{ℕ, ◌+◌, ◌*◌, ◌&&◌, ◌||◌, Bool, true, false, if◌then◌else◌, is_some, nat_lt, not, List, [], ◌∷◌, ◌++◌, length, Option, Some, None, Err}
use Rattle.nv_base.specs.Names.{is_lawful_name}
use Rattle.nv_base.specs.declared.fault.Fault.{Fault}
use Rattle.nv_base.specs.declared.fault.Fault.TheVariants as fault
use Rattle.nv_base.specs.declared.limits.TheConstants.{FILE_PAGES, WRITE_PAGES}
use Rattle.nv_base.specs.declared.node.Kind.{Kind}
use Rattle.nv_base.specs.declared.node.Kind.TheVariants.{File}
use Rattle.nv_base.specs.declared.numbers.Handle.{Handle}
use Rattle.nv_entry.specs.Bytes.{pages_touched}
use Rattle.nv_entry.specs.Tree.{names_of_node}
use Rattle.nv_entry.specs.declared.node.NodeCopy.{NodeCopy}
use Rattle.nv_calls.specs.Plain.{same_handle}
use Rattle.nv_calls.specs.Refusals.{Check, is_directory, kind_of, lookup, passes}
use Rattle.nv_calls.specs.calls.Rename.{own_place}
use Rattle.nv_calls.specs.declared.call.Call.{Call}
use Rattle.nv_calls.specs.declared.call.Call.TheVariants as call

-- one rule of the order of refusals
pub record Rule : Type 0 where
  -- the fault that refuses a call
  pub fault : Fault
  -- whether the call falls under the rule
  pub applies : Bool

-- a rule: a fault, and whether it applies
abbrev pub rule : Fault → Bool → Rule
rule fault applies = record { fault = fault; applies = applies }

-- the fault of the first rule that applies
abbrev pub first_that_applies : List Rule → Check
first_that_applies [] = passes
first_that_applies (r ∷ rules) = if r.applies then Err r.fault else first_that_applies rules

-- ---- what a call names

-- the handle, of a rename the first
abbrev pub handle_of : Call → Option Handle
handle_of (call.Create dir name mode) = Some dir
handle_of (call.Mkdir dir name mode) = Some dir
handle_of (call.Write file offset text) = Some file
handle_of (call.Read file offset count) = Some file
handle_of (call.Size file size) = Some file
handle_of (call.Mode handle mode) = Some handle
handle_of (call.Stat handle) = Some handle
handle_of (call.List dir) = Some dir
handle_of (call.Lookup dir name) = Some dir
handle_of (call.Unlink dir name) = Some dir
handle_of (call.Rmdir dir name) = Some dir
handle_of (call.Rename from old to new) = Some from
handle_of (call.SnapshotOrCleaner c) = None

-- the handle, where it is to be a file's
abbrev pub file_of : Call → Option Handle
file_of (call.Write file offset text) = Some file
file_of (call.Read file offset count) = Some file
file_of (call.Size file size) = Some file
file_of other = None

-- the handle, where it is to be a directory's
abbrev pub directory_of : Call → Option Handle
directory_of (call.Create dir name mode) = Some dir
directory_of (call.Mkdir dir name mode) = Some dir
directory_of (call.List dir) = Some dir
directory_of (call.Lookup dir name) = Some dir
directory_of (call.Unlink dir name) = Some dir
directory_of (call.Rmdir dir name) = Some dir
directory_of (call.Rename from old to new) = Some from
directory_of other = None

-- the name that a call gives, if it gives one
abbrev pub name_of : Call → Option (List ℕ)
name_of (call.Create dir name mode) = Some name
name_of (call.Mkdir dir name mode) = Some name
name_of (call.Lookup dir name) = Some name
name_of (call.Unlink dir name) = Some name
name_of (call.Rmdir dir name) = Some name
name_of (call.Rename from old to new) = Some old
name_of other = None

-- the second directory of a rename, and the name there
abbrev pub second_directory : Call → Option Handle
second_directory (call.Rename from old to new) = Some to
second_directory other = None

-- the second name that a call gives, if it does
abbrev pub second_name : Call → Option (List ℕ)
second_name (call.Rename from old to new) = Some new
second_name other = None

-- ---- what its names lead to

-- the call binds its name, so that the name has to be free
abbrev pub makes : Call → Bool
makes (call.Create dir name mode) = true
makes (call.Mkdir dir name mode) = true
makes other = false

-- the call follows its name, so that the name has to be bound
abbrev pub follows : Call → Bool
follows (call.Lookup dir name) = true
follows (call.Unlink dir name) = true
follows (call.Rmdir dir name) = true
follows (call.Rename from old to new) = true
follows other = false

-- the call looks names up before it locks
abbrev pub looks_up : Call → Bool
looks_up (call.Lookup dir name) = false
looks_up other = follows other

-- the directory binds the name
abbrev pub bound_in : (Handle → Option NodeCopy) → Option Handle → Option (List ℕ) → Bool
bound_in nodes (Some dir) (Some name) = is_some (lookup nodes dir name)
bound_in nodes dir name = false

-- the node that the call takes away from its name; a rename onto its own place takes none
abbrev pub taken : (Handle → Option NodeCopy) → Call → Option Handle
taken nodes (call.Unlink dir name) = lookup nodes dir name
taken nodes (call.Rmdir dir name) = lookup nodes dir name
taken nodes (call.Rename from old to new) = if own_place from old to new then None else lookup nodes from old
taken nodes other = None

-- the node whose name a rename takes over, if its second name is bound
abbrev pub replaced : (Handle → Option NodeCopy) → Call → Option Handle
replaced nodes (call.Rename from old to new) = if own_place from old to new then None else lookup nodes to new
replaced nodes other = None

-- the call takes a file away, and no directory
abbrev pub takes_file : Call → Bool
takes_file (call.Unlink dir name) = true
takes_file other = false

-- the call takes a directory away, which has to be empty
abbrev pub takes_empty : Call → Bool
takes_empty (call.Rmdir dir name) = true
takes_empty other = false

-- the call moves a name to another directory
abbrev pub moves_away : Call → Bool
moves_away (call.Rename from old to new) = not (same_handle from to)
moves_away other = false

-- ---- how much it writes

-- how many pages a text touches that has a byte
abbrev pub pages_of : ℕ → Call → Option ℕ
pages_of block (call.Write file offset (byte ∷ rest)) = Some (pages_touched block offset (length (byte ∷ rest)))
pages_of block other = None

-- where such a text ends, or a file of a new size
abbrev pub end_of : Call → Option ℕ
end_of (call.Write file offset (byte ∷ rest)) = Some (offset + length (byte ∷ rest))
end_of (call.Size file size) = Some size
end_of other = None

-- ---- the tests

-- there is no node
abbrev pub is_gone : Option Kind → Bool
is_gone None = true
is_gone (Some kind) = false

-- the kind is a file's
abbrev pub is_file : Option Kind → Bool
is_file (Some File) = true
is_file kind = false

-- of what is under a handle, if there is one to test
abbrev pub is_at : (Option Kind → Bool) → (Handle → Option NodeCopy) → Option Handle → Bool
is_at test nodes None = false
is_at test nodes (Some handle) = test (kind_of (nodes handle))

-- the node has names
abbrev pub has_names : (Handle → Option NodeCopy) → Option Handle → Bool
has_names nodes None = false
has_names nodes (Some dir) = nat_lt 0 (length (names_of_node (nodes dir)))

-- the number is there and above a bound
abbrev pub is_past : ℕ → Option ℕ → Bool
is_past most None = false
is_past most (Some number) = nat_lt most number

-- the name is there and not lawful
abbrev pub is_unlawful : Option (List ℕ) → Bool
is_unlawful None = false
is_unlawful (Some name) = not (is_lawful_name name)

-- ---- THE RULES

-- the rules of the first handle and its name, which a look goes by too
abbrev pub first_rules : (Handle → Option NodeCopy) → Call → List Rule
first_rules nodes c =
    rule fault.Stale (is_at is_gone nodes (handle_of c))
    ∷ rule fault.NotFile (is_at is_directory nodes (file_of c))
    ∷ rule fault.NotDirectory (is_at is_file nodes (directory_of c))
    ∷ rule fault.BadName (is_unlawful (name_of c))
    ∷ rule fault.Missing (follows c && not (bound_in nodes (directory_of c) (name_of c)))
    ∷ []

-- the rules of the second directory and its name, except that the name is bound
abbrev pub second_rules : (Handle → Option NodeCopy) → Call → List Rule
second_rules nodes c =
    rule fault.Stale (is_at is_gone nodes (second_directory c))
    ∷ rule fault.NotDirectory (is_at is_file nodes (second_directory c))
    ∷ rule fault.BadName (is_unlawful (second_name c))
    ∷ []

-- the rules of what the names lead to, and of what is written
abbrev pub late_rules : ℕ → (Handle → Option NodeCopy) → Call → List Rule
late_rules block nodes c =
    rule fault.Exists (makes c && bound_in nodes (directory_of c) (name_of c))
    ∷ rule fault.Stale (is_at is_gone nodes (taken nodes c))
    ∷ rule fault.NotFile (takes_file c && is_at is_directory nodes (taken nodes c))
    ∷ rule fault.NotDirectory (takes_empty c && is_at is_file nodes (taken nodes c))
    ∷ rule fault.MoveDirectory (is_at is_directory nodes (taken nodes c) && moves_away c)
    ∷ rule fault.Stale (is_at is_gone nodes (replaced nodes c))
    ∷ rule fault.Exists (is_some (replaced nodes c)
    && (is_at is_directory nodes (taken nodes c) || is_at is_directory nodes (replaced nodes c)))
    ∷ rule fault.NotEmpty (takes_empty c && has_names nodes (taken nodes c))
    ∷ rule fault.WriteTooBig (is_past WRITE_PAGES (pages_of block c))
    ∷ rule fault.FileTooBig (is_past (FILE_PAGES * block) (end_of c))
    ∷ []

-- The order of refusals: one list for all calls, of faults and whether they apply. The first that applies is the
-- refusal. The rules of the first name come first, then those of the second, then those of what the names lead to
-- and of what is written. Example: a write of 1,025 letters at 65,536 on blocks of one byte is `WriteTooBig`, which
-- stands before `FileTooBig`. A rename of a missing name into a stale directory is `Missing`.
abbrev pub rules : ℕ → (Handle → Option NodeCopy) → Call → List Rule
rules block nodes c = first_rules nodes c ++ second_rules nodes c ++ late_rules block nodes c
