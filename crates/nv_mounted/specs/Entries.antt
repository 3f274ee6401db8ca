-- What a look-up asks of the world, with the mount's own names.
use Rattle.std.specs.Prelude.{ℕ, ◌&&◌, Bool, if◌then◌else◌, List, Ok}
use Rattle.nv_base.specs.Names.{same_name}
use Rattle.nv_base.specs.declared.numbers.Handle.{Handle}
use Rattle.nv_fuse.specs.declared.errno.Errno.TheVariants as errno
use Rattle.nv_mount_answers.specs.Nodes.{is_root}
use Rattle.nv_mount_beside.specs.Names.{hidden, node_named, refused, snapshots}
use Rattle.nv_mount_beside.specs.Shown.{entry_of}
use Rattle.nv_mount_beside.specs.declared.outcome.Outcome.{Outcome}
use Rattle.nv_mount_beside.specs.declared.outcome.Outcome.TheVariants as outcomes
use Rattle.nv_mounted.specs.Dialogues.{Dialogue, Ends, ◌>>=◌}
use Rattle.nv_mounted.specs.Snapshots.{snapshots_attributes}
use Rattle.nv_mounted.specs.Talks.{lookup_name}
use Rattle.nv_mounted.specs.declared.side.Side.{Side}

-- in the root the directory of snapshots has this name
abbrev pub is_snapshots : Handle → List ℕ → Bool
is_snapshots dir name = is_root dir && same_name name snapshots

-- in the root the directory of hidden files has this name
abbrev pub is_hidden : Handle → List ℕ → Bool
is_hidden dir name = is_root dir && same_name name hidden

-- look up a name: in the root the directory of snapshots is found, and that of hidden files is not
abbrev pub lookup_in : Side → Handle → List ℕ → Dialogue Outcome
lookup_in side dir name =
    if is_snapshots dir name then
    (Ends (snapshots_attributes side) >>= λ attributes.
    Ends (Ok (outcomes.Found (entry_of attributes))))
    else if is_hidden dir name then Ends (refused errno.Missing)
    else lookup_name side dir name

abbrev pub lookup : Side → ℕ → List ℕ → Dialogue Outcome
lookup side number name = Ends (node_named number) >>= λ dir. lookup_in side dir name
