-- Snapshots as directories: what is asked and answered of them. Their nodes are read only, since each
-- is told as it was when its snapshot was made.
use Rattle.std.specs.Prelude.{ℕ, ◌+◌, ◌-◌, ◌*◌, ◌/◌, ◌%◌, ◌&&◌, ◌||◌, ◌==◌, Bool, false, if◌then◌else◌, nat_le, nat_lt, List, [], ◌∷◌, ◌++◌, drop, find, length, position, slice_index_or, slice_set, take, is_ok, Option, Some, None, Result, Ok, Err}
use Rattle.std.specs.List.{cons_option}
use Rattle.std.specs.Result.{result_map_both}
use Rattle.nv_base.specs.Names.{same_name}
use Rattle.nv_base.specs.declared.fault.Fault.{Fault}
use Rattle.nv_base.specs.declared.limits.TheConstants.{DRAIN}
use Rattle.nv_base.specs.declared.node.Kind.TheVariants as kinds
use Rattle.nv_calls.specs.declared.answer.Answer.{Answer}
use Rattle.nv_calls.specs.declared.answer.Answer.TheVariants as answers
use Rattle.nv_calls.specs.declared.call.Call.TheVariants as calls
use Rattle.nv_calls.specs.declared.snapshot_or_cleaner_call.SnapshotOrCleanerCall.TheVariants as snapshot_calls
use Rattle.nv_entry.specs.declared.tree.TreeNode.{TreeNode}
use Rattle.nv_fuse.specs.declared.attributes.Attributes.{Attributes}
use Rattle.nv_fuse.specs.declared.directory.ListedKind.{ListedKind}
use Rattle.nv_fuse.specs.declared.directory.ListedKind.TheVariants as listed
use Rattle.nv_fuse.specs.declared.errno.Errno.TheVariants as errno
use Rattle.nv_mount_answers.specs.Nodes.{root}
use Rattle.nv_mount_answers.specs.declared.kept.Kept.{Kept}
use Rattle.nv_mount_answers.specs.declared.kept.Shape.{Shape}
use Rattle.nv_mount_beside.specs.Beside.{AllBeside}
use Rattle.nv_mount_beside.specs.Names.{checked_name, hidden, or_refused, refused}
use Rattle.nv_mount_beside.specs.Shown.{attributes_if, entry_of, opened_file, shape_in_snapshot}
use Rattle.nv_mount_beside.specs.declared.outcome.Outcome.{Outcome}
use Rattle.nv_mount_beside.specs.declared.outcome.Outcome.TheVariants as outcomes
use Rattle.nv_mount_beside.specs.declared.refusal.Refusal.{Refusal}
use Rattle.nv_mounted.specs.Asks.{ask, ask_done, faulted, other_kind}
use Rattle.nv_mounted.specs.Dialogues.{Asks, Dialogue, Ends, Grows, ◌>>=◌, and_then, undoing}
use Rattle.nv_mounted.specs.KeptTrees.{ask_kept_tree}
use Rattle.nv_mounted.specs.Listings.{list_anew, list_open, listed_from, listed_kind, open_under}
use Rattle.nv_mounted.specs.Side.{at_node}
use Rattle.nv_mounted.specs.declared.found.Found.{Found}
use Rattle.nv_mounted.specs.declared.kept_tree.KeptTree.{KeptTree}
use Rattle.nv_mounted.specs.declared.listing.Named.{Named}
use Rattle.nv_mounted.specs.declared.side.Side.{Side}
use Rattle.nv_mounted.specs.declared.snapshots.Snapshot.{Snapshot}

-- ---- the numbers of their nodes

-- the directory of snapshots has a number that no node has
abbrev pub snapshots_node : ℕ
snapshots_node = 2

-- the nodes of snapshots have the numbers from 2 ^ 63 on
abbrev pub is_of_snapshots : ℕ → Bool
is_of_snapshots number = (number == snapshots_node) || nat_le 9223372036854775808 number

-- each snapshot has 2 ^ 32 numbers, one for each place in its tree
abbrev pub number_in : ℕ → ℕ → Result ℕ Refusal
number_in snapshot at =
    if nat_lt snapshot 2147483648 && nat_lt at 4294967296
    then Ok (9223372036854775808 + snapshot * 4294967296 + at)
    else refused errno.InputOutput

-- a node of a snapshot with what was kept of it, the place behind it in the tree and the nodes from
-- there on
pub record FoundNode : Type 0 where
  pub snapshot : ℕ
  pub node : TreeNode
  pub kept : Kept
  pub first : ℕ
  pub behind : List TreeNode

-- what the code calls a found node, wherever its tree lies
abbrev pub plain : Found → FoundNode
plain found = record {
  snapshot = found.snapshot;
  node = found.node.now;
  kept = found.kept;
  first = found.first;
  behind = drop found.first found.tree.now;
}

abbrev pub plain_result : Result Found Refusal → Result FoundNode Refusal
plain_result result = result_map_both plain (λ refusal. refusal) result

-- what stands in a tree from a place on begins with a node, or the number is stale
abbrev pub first_of : ℕ → ℕ → List TreeNode → List Kept → Result FoundNode Refusal
first_of snapshot at (node ∷ behind) (kept ∷ others) = Ok (
    record { snapshot = snapshot; node = node; kept = kept; first = at + 1; behind = behind }
    )
first_of snapshot at [] kept = refused errno.Stale
first_of snapshot at (node ∷ behind) [] = refused errno.Stale

-- the node at a place of a tree
abbrev pub node_at : ℕ → ℕ → KeptTree → Result FoundNode Refusal
node_at snapshot at all = first_of snapshot at (drop at all.tree) (drop at all.kept)

-- the node at a place of a snapshot, none where it was dropped
abbrev pub node_of : ℕ → ℕ → Option Snapshot → Result FoundNode Refusal
node_of snapshot at None = refused errno.Stale
node_of snapshot at (Some there) = node_at snapshot at there.all

-- the node with a number
abbrev pub node_in : List (Option Snapshot) → ℕ → Result FoundNode Refusal
node_in rows number =
    let snapshot = (number - 9223372036854775808) / 4294967296 in
    let at = (number - 9223372036854775808) % 4294967296 in
    node_of snapshot at (slice_index_or rows snapshot None)

-- ---- their names

abbrev pub has_name : List ℕ → Option Snapshot → Bool
has_name name None = false
has_name name (Some there) = same_name there.name name

-- the place of the snapshot with a name
abbrev pub place_named : List ℕ → List (Option Snapshot) → Result ℕ Refusal
place_named name rows = or_refused errno.Missing (position (has_name name) rows)

abbrev pub epoch_of : Option Snapshot → Result ℕ Refusal
epoch_of None = refused errno.Missing
epoch_of (Some there) = Ok there.epoch

-- a name right below a directory of a snapshot, with its node's place in the tree
pub record Child : Type 0 where
  pub at : ℕ
  pub name : List ℕ
  pub node : TreeNode

-- the name is the hidden directory's, in the root
abbrev pub is_hidden_at : ℕ → List ℕ → Bool
is_hidden_at depth name = (depth == 0) && same_name name hidden

-- what is left of a path is one name, and not the hidden directory's in the root
abbrev pub one_name : ℕ → List (List ℕ) → Option (List ℕ)
one_name depth [] = None
one_name depth (name ∷ []) = if is_hidden_at depth name then None else Some name
one_name depth (name ∷ other ∷ names) = None

-- the name of a node right below a directory at some depth, if it is shown there
abbrev pub name_below : ℕ → TreeNode → Option (List ℕ)
name_below depth node = one_name depth (drop depth node.path)

abbrev pub child_of : ℕ → TreeNode → Option (List ℕ) → Option Child
child_of at node None = None
child_of at node (Some name) = Some (record { at = at; name = name; node = node })

-- A tree has a directory's nodes right behind it. They end before the first whose path is not longer
-- than the directory's.
abbrev pub children_from : ℕ → ℕ → List TreeNode → List Child
children_from depth at [] = []
children_from depth at (node ∷ behind) =
    if nat_le (length node.path) depth then []
    else cons_option (child_of at node (name_below depth node))
    (children_from depth (at + 1) behind)

abbrev pub children : FoundNode → List Child
children found = children_from (length found.node.path) found.first found.behind

-- the number of a child, where there is one
abbrev pub number_of_child : ℕ → Option Child → Result ℕ Refusal
number_of_child snapshot None = refused errno.Missing
number_of_child snapshot (Some child) = number_in snapshot child.at

-- the number of the node below with a name
abbrev pub child_named : FoundNode → List ℕ → Result ℕ Refusal
child_named found name =
    number_of_child found.snapshot (find (λ child. same_name child.name name) (children found))

-- a name that is listed, and others behind it; the first refusal stands for all
abbrev pub listed_before : Result ℕ Refusal → ListedKind → List ℕ → Result (List Named) Refusal
    → Result (List Named) Refusal
listed_before (Err refusal) kind name rest = Err refusal
listed_before (Ok node) kind name (Err refusal) = Err refusal
listed_before (Ok node) kind name (Ok rest) =
    Ok (record { node = node; kind = kind; name = name } ∷ rest)

-- the names of children with their numbers and kinds
abbrev pub named_children : ℕ → List Child → Result (List Named) Refusal
named_children snapshot [] = Ok []
named_children snapshot (child ∷ rest) =
    listed_before (number_in snapshot child.at) (listed_kind child.node.node.kind) child.name
    (named_children snapshot rest)

abbrev pub listed_snapshot : ℕ → Option Snapshot → Result (List Named) Refusal
    → Result (List Named) Refusal
listed_snapshot at None rest = rest
listed_snapshot at (Some there) rest =
    listed_before (number_in at 0) listed.Directory there.name rest

-- the names of the snapshots from a place on, each a directory with the number of its root
abbrev pub named_snapshots : ℕ → List (Option Snapshot) → Result (List Named) Refusal
named_snapshots at [] = Ok []
named_snapshots at (row ∷ rows) = listed_snapshot at row (named_snapshots (at + 1) rows)

-- ---- what is asked of them: all but making and dropping them asks the world nothing

-- the directory of snapshots has the mode 755, and the root's times and owner
abbrev pub snapshots_attributes : Side → Result Attributes Refusal
snapshots_attributes side =
    let shape : Shape = record { kind = kinds.Dir; mode = 493; size = 0 } in
    attributes_if snapshots_node shape (at_node side root).kept false

-- a node has what it had when the snapshot was made, except that no mode sets another user or group
abbrev pub attributes_in : ℕ → FoundNode → Result Attributes Refusal
attributes_in number found =
    let node = found.node.node in
    let shape : Shape = record { kind = node.kind; mode = node.mode; size = node.size } in
    attributes_if number (shape_in_snapshot shape) found.kept false

abbrev pub snapshot_attributes : Side → ℕ → Result Attributes Refusal
snapshot_attributes side number =
    if number == snapshots_node then snapshots_attributes side
    else and_then (node_in side.snapshots number) (attributes_in number)

-- the number of the snapshot, or of the node of one, with a name
abbrev pub snapshot_child : Side → ℕ → List ℕ → Result ℕ Refusal
snapshot_child side number name =
    if number == snapshots_node
    then and_then (place_named name side.snapshots) (λ at. number_in at 0)
    else and_then (node_in side.snapshots number) (λ found. child_named found name)

-- look up a name
abbrev pub snapshot_lookup : Side → ℕ → List ℕ → Result Outcome Refusal
snapshot_lookup side number name =
    and_then (snapshot_child side number name) (λ child.
    and_then (snapshot_attributes side child) (λ attributes.
    Ok (outcomes.Found (entry_of attributes))))

-- get the attributes of a node
abbrev pub snapshot_get_attributes : Side → ℕ → Result Outcome Refusal
snapshot_get_attributes side number =
    and_then (snapshot_attributes side number) (λ attributes. Ok (outcomes.Node attributes))

-- open a file or a directory: nothing is counted
abbrev pub snapshot_open : Side → ℕ → Result Outcome Refusal
snapshot_open side number =
    and_then (snapshot_attributes side number) (λ attributes. Ok (outcomes.Opened opened_file))

-- so many bytes from an offset on
abbrev pub contents_in : FoundNode → ℕ → ℕ → List ℕ
contents_in found offset size = take size (drop offset found.node.node.bytes)

-- read bytes of a file
abbrev pub snapshot_read : Side → ℕ → ℕ → ℕ → Result Outcome Refusal
snapshot_read side number offset size =
    and_then (node_in side.snapshots number) (λ found.
    Ok (outcomes.Contents (contents_in found offset size)))

-- list names of a directory of a snapshot from an offset on
abbrev pub snapshot_read_directory : Side → ℕ → ℕ → ℕ → Result Outcome Refusal
snapshot_read_directory side number offset room =
    and_then (node_in side.snapshots number) (λ found.
    and_then (named_children found.snapshot (children found)) (λ names.
    Ok (outcomes.Contents (listed_from offset room names))))

-- the names of the snapshots, for which the world is not asked
abbrev pub ask_snapshots : Side → Dialogue (List Named)
ask_snapshots side = Grows (Ends (named_snapshots 0 side.snapshots))

-- list snapshots from an offset on, as names of an open directory
abbrev pub list_snapshots : Side → ℕ → ℕ → ℕ → Dialogue (Outcome × Side)
list_snapshots side file offset room = list_anew side (ask_snapshots side) file offset room

abbrev pub read_snapshots : Side → ℕ → ℕ → ℕ → Dialogue (Outcome × Side)
read_snapshots side file offset room =
    list_open side (ask_snapshots side) file room offset (open_under file side.directories)

-- ---- how they are made and dropped

-- the snapshot that was made
abbrev pub snapshot_told : Result Answer Fault → Result ℕ Refusal
snapshot_told (Ok (answers.Snapshot epoch)) = Ok epoch
snapshot_told (Ok other) = other_kind
snapshot_told (Err fault) = faulted fault

abbrev pub ask_snapshot : Dialogue ℕ
ask_snapshot = ask (calls.SnapshotOrCleaner snapshot_calls.Snap) snapshot_told

abbrev pub drop_epoch : ℕ → Dialogue (Unit {0})
drop_epoch epoch = ask_done (calls.SnapshotOrCleaner (snapshot_calls.Drop epoch))

-- one more snapshot has a name, behind all others
abbrev pub with_snapshot : List ℕ → ℕ → KeptTree → List (Option Snapshot)
    → List (Option Snapshot)
with_snapshot name epoch all rows =
    rows ++ Some (record { name = name; epoch = epoch; all = all }) ∷ []

-- A snapshot is made under a name that none has: the world makes it, its tree is read, and owners and
-- times of its nodes are kept. Where that is refused it is dropped again. Told are the attributes of
-- its root.
abbrev pub making : List (Option Snapshot) → AllBeside → List ℕ
    → Dialogue (Attributes × List (Option Snapshot))
making rows nodes file =
    if is_ok (place_named file rows) then Ends (refused errno.Exists)
    else Grows (Ends (checked_name file)) >>= λ name.
    Ends (number_in (length rows) 0) >>= λ number.
    Grows ask_snapshot >>= λ epoch.
    undoing (drop_epoch epoch) (ask_kept_tree nodes epoch) >>= λ all.
    Ends (and_then (node_at (length rows) 0 all) (attributes_in number)) >>= λ attributes.
    Ends (Ok (attributes, with_snapshot name epoch all rows))

-- make a snapshot
abbrev pub make_snapshot : Side → List ℕ → Dialogue (Outcome × Side)
make_snapshot side name =
    making side.snapshots side.nodes name >>= λ made.
    Ends (Ok (outcomes.Found (entry_of made.0), record side { snapshots = made.1 }))

-- what no snapshot holds any more is released; whether it is matters to no answer
abbrev pub drain : Dialogue (Unit {0})
drain = Asks (calls.SnapshotOrCleaner (snapshot_calls.Drain DRAIN)) (λ drained. Ends (Ok tt))

-- drop a snapshot: the world drops the one with this name, and releases what it held
abbrev pub drop_snapshot : Side → List ℕ → Dialogue (Outcome × Side)
drop_snapshot side name =
    Ends (place_named name side.snapshots) >>= λ at.
    Ends (epoch_of (slice_index_or side.snapshots at None)) >>= λ epoch.
    drop_epoch epoch >>= λ dropped.
    drain >>= λ drained.
    Ends (Ok (outcomes.Done, record side { snapshots = slice_set side.snapshots at None }))
