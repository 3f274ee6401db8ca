-- The calls on snapshots of a world with numbers.
use Rattle.std.specs.Prelude.{ℕ, zero, suc, ◌+◌, ◌++◌, Bool, true, false, max, min, nat_le, not, List, [], ◌∷◌, filter, length, Option, Some, None}
use Rattle.std.specs.List.{list_any}
use Rattle.std.specs.Option.{option_map}
use Rattle.nv_base.specs.declared.fault.Fault.TheVariants.{EpochLimit, NoSnapshot, TooManySnapshots}
use Rattle.nv_base.specs.declared.limits.TheConstants.{DRAIN, NUMBER}
use Rattle.nv_book.specs.Listed.{with_moved, without_first}
use Rattle.nv_calls.specs.declared.answer.Answer.TheVariants as answers
use Rattle.nv_entry.specs.Tree.{root, tree_from}
use Rattle.nv_entry.specs.declared.tree.TreeNode.{TreeNode}
use Rattle.nv_machine.specs.PlainRun.{Copy, is_of}
use Rattle.nv_serial.specs.Committed.{erased}
use Rattle.nv_serial.specs.Serial.{Outcome, Serial, copies_now, deferred_in, living, refused, told}

-- a `snap`, by whether the epoch is the last, and whether as many snapshots live as may.
-- The snapshot's copy of the nodes is named by the epoch, and the next epoch begins.
abbrev pub snap_if : (last full : Bool) → Serial → Outcome
snap_if true full s = refused EpochLimit s
snap_if false true s = refused TooManySnapshots s
snap_if false false s = told (answers.Snapshot s.plain.epoch) (record s {
  plain = record s.plain {
    epoch = s.plain.epoch + 1;
    copies = s.plain.copies ++ (record { snapshot = s.plain.epoch; nodes = copies_now s; pins = 0 }) ∷ [];
  };
})

-- a `snap`: refused at the last epoch, and where as many snapshots live as may
abbrev pub snap : Serial → Outcome
snap s = snap_if (nat_le NUMBER s.plain.epoch) (nat_le s.numbers.snaps (length s.plain.copies)) s

-- a `drop`, by whether the snapshot lives: its records go to the end of the list.
-- A pinned snapshot can't be met, since no `show` runs between calls.
abbrev pub drop_if : Bool → ℕ → Serial → Outcome
drop_if false snapshot s = refused NoSnapshot s
drop_if true snapshot s = told answers.Nothing (record s {
  plain = record s.plain { copies = filter (λ copy. not (is_of snapshot copy)) s.plain.copies };
  records = with_moved snapshot (living s) s.records;
})

-- a `drop`: refused where no such snapshot lives
abbrev pub drop_snapshot : ℕ → Serial → Outcome
drop_snapshot snapshot s = drop_if (list_any (is_of snapshot) s.plain.copies) snapshot s

-- the tree of a snapshot's copy
abbrev pub tree_in : Serial → Copy → List TreeNode
tree_in s copy = tree_from copy.nodes (length s.slots) [] root

-- the first of a list, if there is one
abbrev pub first_of : {X : Type 0} → List X → Option X
first_of [] = None
first_of (x ∷ xs) = Some x

-- the tree of a snapshot, if it lives
abbrev pub snapshot_tree_told : Serial → ℕ → Option (List TreeNode)
snapshot_tree_told s snapshot = option_map (tree_in s) (first_of (filter (is_of snapshot) s.plain.copies))

-- a `show` that is answered, or refused
abbrev pub show_of : Option (List TreeNode) → Serial → Outcome
show_of None s = refused NoSnapshot s
show_of (Some nodes) s = told (answers.Tree nodes) s

-- a `show`
abbrev pub show : ℕ → Serial → Outcome
show snapshot s = show_of (snapshot_tree_told s snapshot) s

-- the world once so many of the first deferred records were released; what is over then is erased
abbrev pub released : ℕ → Serial → Serial
released zero s = s
released (suc more) s = released more (erased (record s { records = without_first (living s) s.records }))

-- a `drain` that releases so many records
abbrev pub drain_of : ℕ → Serial → Outcome
drain_of count s = told (answers.Count count) (released count s)

-- a `drain`: at most as many records as its number says
abbrev pub drain : ℕ → Serial → Outcome
drain count s = drain_of (min (max 1 (min count DRAIN)) (length (deferred_in s))) s
