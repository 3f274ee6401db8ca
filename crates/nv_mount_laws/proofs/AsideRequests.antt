-- Directories that are opened and listed, snapshots that are made and dropped, and the cleaning of
-- logs change no node, and nothing beside one.
use Rattle.std.proofs.Common.{ℕ, zero, suc, List, [], ◌∷◌, Option, Some, None, Result, Ok, Err, filter, length, refl}
use Rattle.std.specs.Prelude.{is_ok, slice_index_or}
use Rattle.nv_base.specs.declared.numbers.Handle.{Handle}
use Rattle.nv_calls.specs.declared.call.Call.TheVariants as calls
use Rattle.nv_entry.specs.declared.names.BoundName.{BoundName}
use Rattle.nv_entry.specs.declared.tree.TreeNode.{TreeNode}
use Rattle.nv_fuse.specs.declared.errno.Errno.TheVariants as errno
use Rattle.nv_mount_answers.specs.Nodes.{root}
use Rattle.nv_mount_beside.specs.Beside.{AllBeside}
use Rattle.nv_mount_beside.specs.Names.{checked_name, node_named, number_of, refused}
use Rattle.nv_mount_beside.specs.declared.outcome.Outcome.{Outcome}
use Rattle.nv_mount_beside.specs.declared.refusal.Refusal.{Refusal}
use Rattle.nv_mounted.specs.Asks.{ask, ask_handle, ask_shape, names_told}
use Rattle.nv_mounted.specs.Contents.{clean, cleaned}
use Rattle.nv_mounted.specs.Dialogues.{Dialogue, Ends, Grows, and_then, ask_each, undoing}
use Rattle.nv_mounted.specs.KeptTrees.{ask_kept, ask_kept_tree, ask_path, ask_tree}
use Rattle.nv_mounted.specs.Listings.{ask_listing, ask_named, close_directory, dots, is_shown, list_anew, list_open, open_directory, open_one, open_under, read_directory}
use Rattle.nv_mounted.specs.Snapshots.{ask_snapshot, ask_snapshots, attributes_in, drain, drop_epoch, drop_snapshot, epoch_of, make_snapshot, making, node_at, number_in, place_named, read_snapshots}
use Rattle.nv_mounted.specs.Talks.{is_file}
use Rattle.nv_mounted.specs.declared.directories.Open.{Open}
use Rattle.nv_mounted.specs.declared.directories.Open.TheVariants.{Closed, Unread, Read}
use Rattle.nv_mounted.specs.declared.listing.Named.{Named}
use Rattle.nv_mounted.specs.declared.side.Side.{Side}
use Rattle.nv_mounted.specs.declared.snapshots.Snapshot.{Snapshot}
use Rattle.nv_mount_laws.specs.Hidden.{KeepsHidden}
use Rattle.nv_mount_laws.specs.Open.{LeavesOpenFiles}
use Rattle.nv_mount_laws.proofs.NodesKept.{IsAsideRequest, LeavesNodes, OnlyAside, aside_hidden, aside_open, both_aside, both_leave, undone_aside}
use Rattle.nv_mount_laws.proofs.Refused.{chosen}

-- ---- directories

each_aside : {A B : Type 0} (asked : A → Dialogue B) → ((a : A) → OnlyAside (asked a))
    → (items : List A) → OnlyAside (ask_each asked items)
each_aside asked each [] = tt
each_aside asked each (item ∷ items) =
    both_aside (asked item) _ (each item) (λ b.
    both_aside (ask_each asked items) _ (each_aside asked each items) (λ bs. tt))

named_aside : (bound : BoundName) → OnlyAside (ask_named bound)
named_aside bound =
    both_aside (ask_shape bound.to) _ (tt, λ answer. tt) (λ shape.
    both_aside (Ends (number_of bound.to)) _ tt (λ node. tt))

listing_aside : (dir : Handle) → OnlyAside (ask_listing dir)
listing_aside dir =
    both_aside (ask (calls.List dir) names_told) _ (tt, λ answer. tt) (λ names.
    both_aside (Ends (number_of dir)) _ tt (λ node.
    both_aside (Grows (Ends (Ok (dots node)))) _ tt (λ front.
    both_aside (ask_each ask_named (filter (is_shown dir) names)) _
    (each_aside ask_named named_aside (filter (is_shown dir) names)) (λ named. tt))))

anew_aside : (side : Side) (asked : Dialogue (List Named)) (file offset room : ℕ) → OnlyAside asked
    → OnlyAside (list_anew side asked file offset room)
anew_aside side asked file offset room only = both_aside asked _ only (λ names. tt)

anew_leaves : (side : Side) (asked : Dialogue (List Named)) (file offset room : ℕ)
    → LeavesNodes side (list_anew side asked file offset room)
anew_leaves side asked file offset room =
    both_leave side asked _ (λ names. record { hidden = refl; nodes = refl })

list_aside : (side : Side) (asked : Dialogue (List Named)) (file room offset : ℕ) (there : Open)
    → OnlyAside asked → OnlyAside (list_open side asked file room offset there)
list_aside side asked file room offset Closed only = tt
list_aside side asked file room offset Unread only = anew_aside side asked file offset room only
list_aside side asked file room zero (Read names) only = anew_aside side asked file zero room only
list_aside side asked file room (suc offset) (Read names) only = tt

list_leaves : (side : Side) (asked : Dialogue (List Named)) (file room offset : ℕ) (there : Open)
    → LeavesNodes side (list_open side asked file room offset there)
list_leaves side asked file room offset Closed = tt
list_leaves side asked file room offset Unread = anew_leaves side asked file offset room
list_leaves side asked file room zero (Read names) = anew_leaves side asked file zero room
list_leaves side asked file room (suc offset) (Read names) = record { hidden = refl; nodes = refl }

pub directories_open : (side : Side) (number : ℕ)
    → IsAsideRequest (open_directory side number) side
directories_open side number = record {
  only =
      both_aside (Ends (node_named number)) _ tt (λ dir.
      both_aside (ask_shape dir) _ (tt, λ answer. tt) (λ shape.
      chosen (λ d. OnlyAside d) (is_file shape) (Ends (refused errno.NotDirectory)) _ tt tt));
  leaves =
      both_leave side (Ends (node_named number)) _ (λ dir.
      both_leave side (ask_shape dir) _ (λ shape.
      chosen (λ d. LeavesNodes side d) (is_file shape) (Ends (refused errno.NotDirectory)) _ tt
      (record { hidden = refl; nodes = refl })));
}

pub directories_read : (side : Side) (number file offset room : ℕ)
    → IsAsideRequest (read_directory side number file offset room) side
directories_read side number file offset room = record {
  only =
      both_aside (Ends (node_named number)) _ tt
      (λ dir. list_aside side (ask_listing dir) file room offset (open_under file side.directories)
      (listing_aside dir));
  leaves =
      both_leave side (Ends (node_named number)) _
      (λ dir. list_leaves side (ask_listing dir) file room offset
      (open_under file side.directories));
}

pub directories_close : (side : Side) (file : ℕ) (outcome : Outcome)
    → IsAsideRequest (Ends (Ok (outcome, close_directory side file))) side
directories_close side file outcome =
    record { only = tt; leaves = record { hidden = refl; nodes = refl } }

-- ---- snapshots

path_aside : (names : List (List ℕ)) (dir : Handle) → OnlyAside (ask_path dir names)
path_aside [] dir = tt
path_aside (name ∷ names) dir =
    both_aside (Grows (ask_handle (calls.Lookup dir name))) _ (tt, λ answer. tt) (λ handle.
    path_aside names handle)

kept_aside : (nodes : AllBeside) (node : TreeNode) → OnlyAside (ask_kept nodes node)
kept_aside nodes node =
    both_aside (Grows (ask_path root node.path)) _ (path_aside node.path root) (λ handle. tt)

tree_aside : (nodes : AllBeside) (epoch : ℕ) → OnlyAside (ask_kept_tree nodes epoch)
tree_aside nodes epoch =
    both_aside (ask_tree epoch) _ (tt, λ answer. tt) (λ tree.
    both_aside (ask_each (ask_kept nodes) tree) _
    (each_aside (ask_kept nodes) (kept_aside nodes) tree) (λ kept. tt))

making_aside : (rows : List (Option Snapshot)) (nodes : AllBeside) (file : List ℕ)
    → OnlyAside (making rows nodes file)
making_aside rows nodes file =
    chosen (λ d. OnlyAside d) (is_ok (place_named file rows)) (Ends (refused errno.Exists)) _ tt
    (both_aside (Grows (Ends (checked_name file))) _ tt (λ name.
    both_aside (Ends (number_in (length rows) 0)) _ tt (λ number.
    both_aside (Grows ask_snapshot) _ (tt, λ answer. tt) (λ epoch.
    both_aside (undoing (drop_epoch epoch) (ask_kept_tree nodes epoch)) _
    (undone_aside (drop_epoch epoch) (ask_kept_tree nodes epoch) (tt, λ answer. tt)
    (tree_aside nodes epoch)) (λ all.
    both_aside (Ends (and_then (node_at (length rows) 0 all) (attributes_in number))) _ tt
    (λ attributes. tt))))))

pub snapshots_make : (side : Side) (name : List ℕ) → IsAsideRequest (make_snapshot side name) side
snapshots_make side name = record {
  only =
      both_aside (making side.snapshots side.nodes name) _
      (making_aside side.snapshots side.nodes name) (λ made. tt);
  leaves =
      both_leave side (making side.snapshots side.nodes name) _
      (λ made. record { hidden = refl; nodes = refl });
}

pub snapshots_open : (side : Side) → IsAsideRequest (open_one side) side
snapshots_open side = record { only = tt; leaves = record { hidden = refl; nodes = refl } }

pub snapshots_read : (side : Side) (file offset room : ℕ)
    → IsAsideRequest (read_snapshots side file offset room) side
snapshots_read side file offset room = record {
  only =
      list_aside side (ask_snapshots side) file room offset (open_under file side.directories) tt;
  leaves =
      list_leaves side (ask_snapshots side) file room offset (open_under file side.directories);
}

pub snapshots_drop : (side : Side) (name : List ℕ) → IsAsideRequest (drop_snapshot side name) side
snapshots_drop side name = record {
  only =
      both_aside (Ends (place_named name side.snapshots)) _ tt (λ at.
      both_aside (Ends (epoch_of (slice_index_or side.snapshots at None))) _ tt (λ epoch.
      both_aside (drop_epoch epoch) _ (tt, λ answer. tt) (λ dropped.
      both_aside drain _ (tt, λ answer. tt) (λ drained. tt))));
  leaves =
      both_leave side (Ends (place_named name side.snapshots)) _ (λ at.
      both_leave side (Ends (epoch_of (slice_index_or side.snapshots at None))) _ (λ epoch.
      both_leave side (drop_epoch epoch) _ (λ dropped.
      both_leave side drain _ (λ drained. record { hidden = refl; nodes = refl }))));
}

-- ---- the cleaning of logs

pub cleanings_aside : (side : Side) → IsAsideRequest (clean side) side
cleanings_aside side = go side.due where
  go : (due : Option ℕ) → IsAsideRequest (cleaned side due) side
  go None = record { only = tt; leaves = record { hidden = refl; nodes = refl } }
  go (Some ino) = record {
    only = (tt, λ answer. tt);
    leaves = λ answer. record { hidden = refl; nodes = refl };
  }

pub cleanings_keep : (side : Side) → KeepsHidden (clean side) side
cleanings_keep side = aside_hidden (clean side) side (cleanings_aside side)

pub cleanings_leave : (side : Side) → LeavesOpenFiles (clean side) side
cleanings_leave side = aside_open (clean side) side (cleanings_aside side)
