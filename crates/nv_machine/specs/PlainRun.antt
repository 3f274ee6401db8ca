-- The plain world beside the run: what each event does to it.
use Rattle.std.specs.Prelude.{ℕ, ◌+◌, ◌-◌, ◌==◌, ◌++◌, Bool, true, false, if◌then◌else◌, nat_lt, not, List, [], ◌∷◌, filter, length, map, Option, Some, None, Ok, Err}
use Rattle.nv_base.specs.declared.node.Kind.TheVariants.{Dir}
use Rattle.nv_base.specs.declared.numbers.Handle.{Handle}
use Rattle.nv_calls.specs.AllCalls.{effect}
use Rattle.nv_calls.specs.Plain.{PlainNode, node_in, nodes_after, same_handle}
use Rattle.nv_entry.specs.Sound.{empty_node}
use Rattle.nv_entry.specs.Tree.{root}
use Rattle.nv_entry.specs.declared.node.NodeCopy.{NodeCopy}
use Rattle.nv_epoch.specs.declared.snapshot.Snapshot.{Snapshot}
use Rattle.nv_machine.specs.Locks.{commits_at}
use Rattle.nv_machine.specs.Reads.{written_slots}
use Rattle.nv_machine.specs.Settled.{settled_copies, settled_nodes}
use Rattle.nv_machine.specs.Step.{step, turn}
use Rattle.nv_machine.specs.World.{Close, Drop, Ends, Enter, Event, Go, Make, Moves, Next, Pin, Publish, Running, Shared, SnapshotOrCleanerStep, SnapshotOrCleaner, Start, Turn, Unpin, Waits, World, actor_at}

-- the plain world's copy of a living snapshot
pub record Copy : Type 0 where
  -- the snapshot's number
  pub snapshot : ℕ
  -- all nodes as they were when it was made
  pub nodes : Handle → Option NodeCopy
  -- how many shows pin it
  pub pins : ℕ

-- THE PLAIN WORLD: what there is of a world without logs and blocks. What calls do to it is told
-- at the file calls, and what events do below. Example (partial at both ends): after a `create` of
-- `a` in the root, a `write` of `abcdefghij` at 3 is answered 10. The node then has 13 bytes, of
-- which the first three are zeros.
pub record Plain : Type 0 where
  -- the nodes by handle, with the commit that changed each last
  pub nodes : Handle → Option PlainNode
  -- the number of the last commit
  pub commit : ℕ
  -- the epoch
  pub epoch : ℕ
  -- a copy for each living snapshot, oldest first
  pub copies : List Copy

-- the root at first: an empty directory of mode 493, which no commit has changed
abbrev pub root_alone : PlainNode
root_alone = record { node = empty_node Dir 493; changed = 0 }

-- the plain world at first
abbrev pub new_plain : Plain
new_plain = record { nodes = λ handle. if same_handle handle root then Some root_alone else None; commit = 0; epoch = 1; copies = [] }

-- what a step does to the plain world
pub data PlainChange : Type 0 where
  -- nothing
  Nothing : PlainChange
  -- the commit gets its number
  Numbers : PlainChange
  -- the call has its effect on the nodes, at its commit point
  Commits : PlainChange
  -- the epoch, the copies or their pins change as this step says
  Maintains : (step : SnapshotOrCleanerStep) → PlainChange

-- what a step does leaves all nodes
abbrev pub keeps_nodes : PlainChange → Bool
keeps_nodes Nothing = true
keeps_nodes Numbers = true
keeps_nodes Commits = false
keeps_nodes (Maintains step) = true

-- an enter that goes on into its commit fixes the number
abbrev pub entered : Turn → PlainChange
entered (Moves s h r) = if commits_at r.next then Numbers else Nothing
entered other = Nothing

-- a step of a call on snapshots that is not refused and does not wait
abbrev pub done_on : SnapshotOrCleanerStep → Turn → PlainChange
done_on step (Moves s h r) = Maintains step
done_on step Waits = Nothing
done_on (Unpin snapshot seen) (Ends result s h) = Maintains (Unpin snapshot seen)
done_on step (Ends (Ok found) s h) = Maintains step
done_on step (Ends (Err fault) s h) = Nothing

-- what a step does to the plain world, by its turn. A publish is the commit point where one inode
-- gets entries, and else the close is.
abbrev pub plain_change : Next → List ℕ → Turn → PlainChange
plain_change Enter written t = entered t
plain_change (Publish place) written t = if nat_lt 1 (length written) then Nothing else Commits
plain_change Close written t = Commits
plain_change (SnapshotOrCleaner step) written t = done_on step t
plain_change other written t = Nothing

-- what the next step of an actor does in the plain world
abbrev pub plain_change_by : Option Running → World → ℕ → Bool → PlainChange
plain_change_by None w actor granted = Nothing
plain_change_by (Some r) w actor granted =
    plain_change r.next (written_slots r) (turn w.numbers.block actor granted w.shared (actor_at w actor).hand r)

-- WHAT AN EVENT DOES to the plain world. `enter`, where it goes on into its commit, fixes a
-- number. `publish` where one inode gets entries, and else `close`, has the call's effect on the
-- nodes as they are. `make` adds a copy and begins the next epoch, and `drop` takes one out. The
-- first and the last step of a `show` call change its pins. All else does nothing.
abbrev pub plain_change_of : World → Event → PlainChange
plain_change_of w (Start actor c) = Nothing
plain_change_of w (Go actor granted) = if nat_lt actor (length w.actors) then plain_change_by (actor_at w actor).running w actor granted else Nothing

-- a commit has the effect of its call on the nodes as they are, and the number of the last commit
abbrev pub nodes_by : Option Running → Plain → Handle → Option PlainNode
nodes_by None p = p.nodes
nodes_by (Some r) p = nodes_after p.commit (effect (node_in p.nodes) r.made r.call) p.nodes

-- the snapshot is one of these
abbrev pub is_of : ℕ → Copy → Bool
is_of snapshot copy = copy.snapshot == snapshot

-- the copy, where the pins of this snapshot are changed
abbrev pub with_pins : ℕ → (ℕ → ℕ) → Copy → Copy
with_pins snapshot change copy = if is_of snapshot copy then record copy { pins = change copy.pins } else copy

-- what a step of a call on snapshots does: a making adds a copy of the nodes as they are, which
-- the epoch names, and begins the next epoch; a drop takes one out; a show has a pin from its
-- first step to its last
abbrev pub after_step : SnapshotOrCleanerStep → Plain → Plain
after_step Make p = record p {
  epoch = p.epoch + 1;
  copies = p.copies ++ (record { snapshot = p.epoch; nodes = node_in p.nodes; pins = 0 }) ∷ [];
}
after_step (Drop snapshot) p = record p { copies = filter (λ copy. not (is_of snapshot copy)) p.copies }
after_step (Pin snapshot) p = record p { copies = map (with_pins snapshot (λ pins. pins + 1)) p.copies }
after_step (Unpin snapshot seen) p = record p { copies = map (with_pins snapshot (λ pins. pins - 1)) p.copies }
after_step other p = p

-- the plain world once something was done
abbrev pub done : PlainChange → Option Running → Plain → Plain
done Nothing running p = p
done Numbers running p = record p { commit = p.commit + 1 }
done Commits running p = record p { nodes = nodes_by running p }
done (Maintains step) running p = after_step step p

-- the actor of an event
abbrev pub actor_of : Event → ℕ
actor_of (Start actor c) = actor
actor_of (Go actor granted) = actor

-- ONE EVENT of the plain world, beside the world before it
abbrev pub plain_step : World → Event → Plain → Plain
plain_step w e p = done (plain_change_of w e) (actor_at w (actor_of e)).running p

-- the plain world after events, one after another
abbrev pub plain_after : World → List Event → Plain → Plain
plain_after w [] p = p
plain_after w (e ∷ events) p = plain_after (step w e).world events (plain_step w e p)

-- the copy that a living snapshot of a world stands for
abbrev pub copy_in : Shared → Snapshot → Copy
copy_in s snapshot = record { snapshot = snapshot.number; nodes = settled_copies s snapshot.number; pins = snapshot.pins }

-- the plain world of what a world has settled
abbrev pub plain_of : World → Plain
plain_of w = record {
  nodes = settled_nodes w.shared;
  commit = w.shared.book.commit;
  epoch = w.shared.book.snaps.epoch;
  copies = map (copy_in w.shared) w.shared.book.snaps.living;
}
