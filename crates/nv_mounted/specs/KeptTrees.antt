-- What is kept of the nodes of a snapshot: owners and times, as they stand when it is made.
use Rattle.std.specs.Prelude.{ℕ, List, [], ◌∷◌, Result, Ok, Err}
use Rattle.nv_base.specs.declared.fault.Fault.{Fault}
use Rattle.nv_base.specs.declared.numbers.Handle.{Handle}
use Rattle.nv_calls.specs.declared.answer.Answer.{Answer}
use Rattle.nv_calls.specs.declared.answer.Answer.TheVariants as answers
use Rattle.nv_calls.specs.declared.call.Call.TheVariants as calls
use Rattle.nv_calls.specs.declared.snapshot_or_cleaner_call.SnapshotOrCleanerCall.TheVariants as snapshot_calls
use Rattle.nv_entry.specs.declared.tree.TreeNode.{TreeNode}
use Rattle.nv_mount_answers.specs.Nodes.{root}
use Rattle.nv_mount_answers.specs.declared.kept.Kept.{Kept}
use Rattle.nv_mount_beside.specs.Beside.{AllBeside, beside_at}
use Rattle.nv_mount_beside.specs.declared.refusal.Refusal.{Refusal}
use Rattle.nv_mounted.specs.Asks.{ask, ask_handle, faulted, other_kind}
use Rattle.nv_mounted.specs.Dialogues.{Dialogue, Ends, Grows, ◌>>=◌, ask_each}
use Rattle.nv_mounted.specs.declared.kept_tree.KeptTree.{KeptTree}

-- the node to which a path leads: each name is looked up, from a directory on
abbrev pub ask_path : Handle → List (List ℕ) → Dialogue Handle
ask_path dir [] = Ends (Ok dir)
ask_path dir (name ∷ names) =
    Grows (ask_handle (calls.Lookup dir name)) >>= λ handle. ask_path handle names

-- what is kept of a node of a tree as it stands
abbrev pub ask_kept : AllBeside → TreeNode → Dialogue Kept
ask_kept nodes node =
    Grows (ask_path root node.path) >>= λ handle. Ends (Ok (beside_at nodes handle).kept)

-- the tree of a snapshot
abbrev pub tree_told : Result Answer Fault → Result (List TreeNode) Refusal
tree_told (Ok (answers.Tree tree)) = Ok tree
tree_told (Ok other) = other_kind
tree_told (Err fault) = faulted fault

abbrev pub ask_tree : ℕ → Dialogue (List TreeNode)
ask_tree epoch = ask (calls.SnapshotOrCleaner (snapshot_calls.Show epoch)) tree_told

-- the tree of a snapshot, with what is kept of each of its nodes
abbrev pub ask_kept_tree : AllBeside → ℕ → Dialogue KeptTree
ask_kept_tree nodes epoch =
    ask_tree epoch >>= λ tree.
    ask_each (ask_kept nodes) tree >>= λ kept.
    Ends (Ok (record { tree = tree; kept = kept }))
