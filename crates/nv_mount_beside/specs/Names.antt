-- The names of requests, and the nodes that they name.
use Rattle.std.specs.Prelude.{ℕ, ◌&&◌, ◌||◌, Bool, if◌then◌else◌, nat_lt, List, length, codes, decimal, Option, Some, None, Result, Ok, Err}
use Rattle.nv_base.specs.Names.{same_name}
use Rattle.nv_base.specs.declared.numbers.Handle.{Handle}
use Rattle.nv_fuse.specs.declared.errno.Errno.{Errno}
use Rattle.nv_fuse.specs.declared.errno.Errno.TheVariants as errno
use Rattle.nv_mount_answers.specs.Faults.{errno_of}
use Rattle.nv_mount_answers.specs.Nodes.{handle_of, is_root, node_of}
use Rattle.nv_mount_beside.specs.declared.refusal.Refusal.{Refusal}
use Rattle.nv_mount_beside.specs.declared.refusal.Refusal.TheVariants as refusals

-- the error by which a refusal is told
abbrev pub errno_told : Refusal → Errno
errno_told (refusals.Fault fault) = errno_of fault
errno_told (refusals.Errno error) = error

-- the mount itself refuses
abbrev pub refused : {A : Type 0} → Errno → Result A Refusal
refused error = Err (refusals.Errno error)

-- a value, or the refusal where there is none
abbrev pub or_refused : {A : Type 0} → Errno → Option A → Result A Refusal
or_refused error (Some a) = Ok a
or_refused error None = refused error

-- the node that a request names
abbrev pub node_named : ℕ → Result Handle Refusal
node_named number = or_refused errno.Stale (handle_of number)

-- the name of the directory of files that are open and have no name
abbrev pub hidden : List ℕ
hidden = codes ".open-without-name"

-- the name of the directory of snapshots
abbrev pub snapshots : List ℕ
snapshots = codes ".snapshots"

-- in the root these two names are the mount's
abbrev pub is_reserved : Handle → List ℕ → Bool
is_reserved dir name = is_root dir && (same_name name hidden || same_name name snapshots)

-- why a name is refused before the world is asked, if it is: one of 256 bytes or more is too long
abbrev pub checked_name : List ℕ → Result (List ℕ) Refusal
checked_name name = if nat_lt 255 (length name) then refused errno.NameTooLong else Ok name

-- the same where something is made, moved or taken away: the mount's own names stay
abbrev pub free_name : Handle → List ℕ → Result (List ℕ) Refusal
free_name dir name = if is_reserved dir name then refused errno.NotPermitted else checked_name name

-- the numbers of nodes that are told are below those of snapshots
abbrev pub below_snapshots : Option ℕ → Result ℕ Refusal
below_snapshots (Some node) = if nat_lt node 9223372036854775808 then Ok node else refused errno.InputOutput
below_snapshots None = refused errno.InputOutput

-- the number of a node
abbrev pub number_of : Handle → Result ℕ Refusal
number_of handle = below_snapshots (node_of handle)

-- an open file without a name stands in the hidden directory under its number
abbrev pub hidden_name : ℕ → List ℕ
hidden_name node = decimal node
