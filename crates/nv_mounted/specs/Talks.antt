-- What each request asks of the world, and what it is answered by that.
use Rattle.std.specs.Prelude.{ℕ, ◌==◌, ◌&&◌, ◌||◌, Bool, true, false, if◌then◌else◌, not, nat_lt, List, Result, Ok, Err}
use Rattle.nv_base.specs.declared.node.Kind.TheVariants as kinds
use Rattle.nv_base.specs.declared.numbers.Handle.{Handle}
use Rattle.nv_calls.specs.declared.call.Call.TheVariants as calls
use Rattle.nv_fuse.specs.declared.attributes.Attributes.{Attributes}
use Rattle.nv_mount_answers.specs.declared.kept.Shape.{Shape}
use Rattle.nv_mount_answers.specs.declared.kept.Time.{Time}
use Rattle.nv_mount_beside.specs.Shown.{attributes_if, entry_of, opened_file}
use Rattle.nv_mounted.specs.Asks.{ask_done, ask_handle, ask_shape}
use Rattle.nv_mount_beside.specs.Beside.{named, opened, released, renamed}
use Rattle.nv_mounted.specs.Dialogues.{Dialogue, Ends, Grows, ◌>>=◌}
use Rattle.nv_mount_beside.specs.Names.{checked_name, free_name, hidden_name, node_named, number_of}
use Rattle.nv_mounted.specs.Side.{at_node, put_node, touched}
use Rattle.nv_mount_beside.specs.declared.beside.Beside.{Beside}
use Rattle.nv_mounted.specs.declared.side.Side.{Side}
use Rattle.nv_mount_beside.specs.declared.outcome.Outcome.{Outcome}
use Rattle.nv_mount_beside.specs.declared.outcome.Outcome.TheVariants as outcomes
use Rattle.nv_mount_beside.specs.declared.refusal.Refusal.{Refusal}

-- the attributes of a node are asked for
abbrev pub ask_attributes : Side → Handle → Dialogue Attributes
ask_attributes side handle =
    Ends (number_of handle) >>= λ node.
    ask_shape handle >>= λ shape.
    Ends (attributes_if node shape (at_node side handle).kept (at_node side handle).nameless)

-- ---- requests about a node

-- get the attributes of a node
abbrev pub get_attributes : Side → ℕ → Dialogue Outcome
get_attributes side number =
    Ends (node_named number) >>= λ handle.
    ask_attributes side handle >>= λ attributes.
    Ends (Ok (outcomes.Node attributes))

-- look up a name that is not the mount's
abbrev pub lookup_name : Side → Handle → List ℕ → Dialogue Outcome
lookup_name side dir file =
    Grows (Ends (checked_name file)) >>= λ name.
    ask_handle (calls.Lookup dir name) >>= λ handle.
    ask_attributes side handle >>= λ attributes.
    Ends (Ok (outcomes.Found (entry_of attributes)))

-- open a file: opens are counted
abbrev pub open_node : Side → ℕ → Dialogue (Outcome × Side)
open_node side number =
    Ends (node_named number) >>= λ handle.
    ask_shape handle >>= λ shape.
    Ends (Ok (outcomes.Opened opened_file, put_node handle (opened (at_node side handle)) side))

-- a file that is neither open nor has a name goes
abbrev pub let_go : Side → ℕ → Beside → Dialogue (Unit {0})
let_go side number beside =
    if nat_lt 0 beside.opens || not beside.nameless then Ends (Ok tt)
    else Grows (Ends (Ok (hidden_name number))) >>= λ name. ask_done (calls.Unlink side.hidden name)

-- the node that a number names is not open
abbrev pub unopened_in : Side → Result Handle Refusal → Bool
unopened_in side (Ok handle) = (at_node side handle).opens == 0
unopened_in side (Err refusal) = false

abbrev pub is_unopened : Side → ℕ → Bool
is_unopened side number = unopened_in side (node_named number)

-- release a file that is open: without a name and released as often as it was opened, it goes
abbrev pub release_opened : Side → ℕ → Dialogue (Outcome × Side)
release_opened side number =
    Ends (node_named number) >>= λ handle.
    let_go side number (released (at_node side handle)) >>= λ done.
    Ends (Ok (outcomes.Done, put_node handle (released (at_node side handle)) side))

-- release a file: a number that is not open, as that of a file that is gone, changes nothing
abbrev pub release : Side → ℕ → Dialogue (Outcome × Side)
release side number =
    if is_unopened side number then Ends (Ok (outcomes.Done, side))
    else release_opened side number

-- a file that is open once and has no name goes at its release
abbrev pub goes_in : Side → Result Handle Refusal → Bool
goes_in side (Ok handle) = ((at_node side handle).opens == 1) && (at_node side handle).nameless
goes_in side (Err refusal) = false

abbrev pub goes : Side → ℕ → Bool
goes side number = goes_in side (node_named number)

-- the hidden directory has changed, if a file went
abbrev pub touched_if : Bool → Time → Side → Side
touched_if gone now side = if gone then touched now side.hidden side else side

-- release a file, whose going is a change of the hidden directory
abbrev pub release_file : Side → Time → ℕ → Dialogue (Outcome × Side)
release_file side now number =
    release side number >>= λ done.
    Ends (Ok (done.0, touched_if (goes side number) now done.1))

-- ---- names that go

abbrev pub is_file : Shape → Bool
is_file shape = elim shape.kind [ kinds.File ↦ true | kinds.Dir ↦ false ]

-- it is a file, and open
abbrev pub is_open_file : Side → Handle → Shape → Bool
is_open_file side handle shape = is_file shape && nat_lt 0 (at_node side handle).opens

-- the name of a node among the hidden files, where it has a number
abbrev pub hidden_if : Result ℕ Refusal → Result (List ℕ) Refusal
hidden_if (Ok node) = Ok (hidden_name node)
hidden_if (Err refusal) = Err refusal

abbrev pub hidden_name_for : Handle → Result (List ℕ) Refusal
hidden_name_for handle = hidden_if (number_of handle)

-- a file that has gone among the hidden ones at a time
abbrev pub hidden_now : Time → Handle → Side → Side
hidden_now now handle side = put_node handle (renamed now (named false (at_node side handle))) side

-- an open file moves among the hidden ones, under its number
abbrev pub hide : Side → Time → Handle → List ℕ → Handle → Dialogue (Unit {0} × Side)
hide side now dir name handle =
    Grows (Ends (hidden_name_for handle)) >>= λ new.
    ask_done (calls.Rename dir name side.hidden new) >>= λ done.
    Ends (Ok (tt, hidden_now now handle side))

-- an open file is hidden, and any other node's name is taken away
abbrev pub take_away : Side → Time → Handle → List ℕ → Handle → Shape
    → Dialogue (Unit {0} × Side)
take_away side now dir name handle shape =
    if is_open_file side handle shape then hide side now dir name handle
    else ask_done (calls.Unlink dir name) >>= λ done. Ends (Ok (tt, side))

-- take a file's name away: an open file is hidden, any other goes
abbrev pub unlink : Side → Time → ℕ → List ℕ → Dialogue (Outcome × Side)
unlink side now number file =
    Ends (node_named number) >>= λ dir.
    Grows (Ends (free_name dir file)) >>= λ name.
    ask_handle (calls.Lookup dir name) >>= λ handle.
    ask_shape handle >>= λ shape.
    take_away side now dir name handle shape >>= λ gone.
    Ends (Ok (outcomes.Done, touched now dir gone.1))

-- take the name of an empty directory away
abbrev pub rmdir : Side → Time → ℕ → List ℕ → Dialogue (Outcome × Side)
rmdir side now number file =
    Ends (node_named number) >>= λ dir.
    Grows (Ends (free_name dir file)) >>= λ name.
    ask_done (calls.Rmdir dir name) >>= λ done.
    Ends (Ok (outcomes.Done, touched now dir side))
