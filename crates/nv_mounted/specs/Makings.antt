-- New files and directories.
use Rattle.std.specs.Prelude.{ℕ, ◌==◌, Bool, true, false, if◌then◌else◌, bit_and, not, List, Ok}
use Rattle.nv_base.specs.declared.node.Kind.{Kind}
use Rattle.nv_base.specs.declared.node.Kind.TheVariants as kinds
use Rattle.nv_base.specs.declared.numbers.Handle.{Handle}
use Rattle.nv_calls.specs.declared.call.Call.{Call}
use Rattle.nv_calls.specs.declared.call.Call.TheVariants as calls
use Rattle.nv_fuse.specs.declared.attributes.Attributes.{Attributes}
use Rattle.nv_fuse.specs.declared.errno.Errno.TheVariants as errno
use Rattle.nv_fuse.specs.declared.header.Header.{Header}
use Rattle.nv_mount_answers.specs.Kept.{attributes_of}
use Rattle.nv_mount_answers.specs.declared.kept.Shape.{Shape}
use Rattle.nv_mount_answers.specs.declared.kept.Time.{Time}
use Rattle.nv_mount_beside.specs.Beside.{new_beside, opened}
use Rattle.nv_mount_beside.specs.Inherited.{mode_in, owner_in}
use Rattle.nv_mount_beside.specs.Names.{free_name, node_named, number_of, refused}
use Rattle.nv_mount_beside.specs.Shown.{entry_of, opened_file}
use Rattle.nv_mount_beside.specs.declared.beside.Beside.{Beside}
use Rattle.nv_mount_beside.specs.declared.inherited.Owner.{Owner}
use Rattle.nv_mount_beside.specs.declared.outcome.Outcome.{Outcome}
use Rattle.nv_mount_beside.specs.declared.outcome.Outcome.TheVariants as outcomes
use Rattle.nv_mounted.specs.Asks.{ask_handle, ask_shape}
use Rattle.nv_mounted.specs.Dialogues.{Dialogue, Ends, Grows, ◌>>=◌}
use Rattle.nv_mounted.specs.Side.{at_node, put_node, touched}
use Rattle.nv_mounted.specs.declared.side.Side.{Side}

-- the twelve lower bits of a mode
abbrev pub permissions : ℕ → ℕ
permissions mode = bit_and mode 4095

-- the bits of a mode that tell what is made are those of a file
abbrev pub makes_file : ℕ → Bool
makes_file mode = bit_and mode 61440 == 32768

-- the call that makes a node
abbrev pub making : Kind → Handle → List ℕ → ℕ → Call
making kinds.File dir name mode = calls.Create dir name mode
making kinds.Dir dir name mode = calls.Mkdir dir name mode

-- a new node is empty
abbrev pub empty_shape : Kind → ℕ → Shape
empty_shape kind mode = record { kind = kind; mode = permissions mode; size = 0 }

-- it belongs to its owner, and is open once or not at all
abbrev pub made_beside : Time → Owner → Bool → Handle → Beside
made_beside now owner opens handle =
    let new = new_beside handle.generation now owner.user owner.group in
    if opens then opened new else new

-- make a node that is an owner's, by which its directory is changed too
abbrev pub make_owned : Side → Time → Handle → Owner → Kind → ℕ → List ℕ → Bool
    → Dialogue (Attributes × Side)
make_owned side now dir owner kind mode file opens =
    Grows (Ends (free_name dir file)) >>= λ name.
    ask_handle (making kind dir name (permissions mode)) >>= λ handle.
    Ends (number_of handle) >>= λ node.
    let beside = made_beside now owner opens handle in
    Ends (Ok (
      attributes_of node (empty_shape kind mode) beside.kept,
      touched now dir (put_node handle beside side),
    ))

-- the owner of a node that a request makes in a directory of this mode
abbrev pub owner_made : Side → Handle → ℕ → Header → Owner
owner_made side dir dir_mode header =
    owner_in dir_mode (at_node side dir).kept.group header.user header.group

-- make a node, which has of its directory what that passes on
abbrev pub make : Side → Time → Header → Kind → ℕ → List ℕ → Bool → Dialogue (Attributes × Side)
make side now header kind mode file opens =
    Ends (node_named header.node) >>= λ dir.
    ask_shape dir >>= λ parent.
    make_owned side now dir (owner_made side dir parent.mode header) kind
    (mode_in parent.mode kind mode) file opens

-- make a file, which nobody has opened; no other kind of node is made so
abbrev pub mknod : Side → Time → Header → ℕ → List ℕ → Dialogue (Outcome × Side)
mknod side now header mode file =
    if not (makes_file mode) then Ends (refused errno.NotSupported)
    else make side now header kinds.File mode file false >>= λ made.
    Ends (Ok (outcomes.Found (entry_of made.0), made.1))

-- make a directory
abbrev pub mkdir : Side → Time → Header → ℕ → List ℕ → Dialogue (Outcome × Side)
mkdir side now header mode file =
    make side now header kinds.Dir mode file false >>= λ made.
    Ends (Ok (outcomes.Found (entry_of made.0), made.1))

-- make a file and open it
abbrev pub create : Side → Time → Header → ℕ → List ℕ → Dialogue (Outcome × Side)
create side now header mode file =
    make side now header kinds.File mode file true >>= λ made.
    Ends (Ok (outcomes.Created (entry_of made.0) opened_file, made.1))
