-- The plain world with numbers as a player: what it reports, and what a call is answered.
use Rattle.std.specs.Prelude.{ℕ, List, length, map, Option, Some, None}
use Rattle.std.specs.List.{range_with_len}
use Rattle.nv_alloc.specs.Runs.{free_runs_of}
use Rattle.nv_entry.specs.declared.tree.TreeNode.{TreeNode}
use Rattle.nv_core.specs.declared.reports.LogCounts.{LogCounts}
use Rattle.nv_core.specs.declared.reports.Space.{Space}
use Rattle.nv_core.specs.declared.snaps.SnapCounts.{SnapCounts}
use Rattle.nv_core.specs.declared.snaps.Snaps.{Snaps}
use Rattle.nv_serial.specs.Free.{free_on}
use Rattle.nv_serial.specs.Law.{IsOutcome}
use Rattle.nv_serial.specs.OneCall.{serial_call}
use Rattle.nv_serial.specs.Reports.{chain_count, data_count, entry_count, free_count, gain_by, held_by, log_told, pending_count, snapshot_tree_told, tree_told}
use Rattle.nv_serial.specs.Serial.{Serial, living, new_serial}
use Rattle.nv_serial.specs.Stopped.{serial_stopped}
use Rattle.nv_script.specs.Play.{Player, WorldReports}
use Rattle.nv_script.specs.Serially.{player_of_calls}

-- where the blocks are, by the world with numbers: none is in a hand
abbrev pub serial_space : Serial → Space
serial_space s = record {
  free = free_count s;
  chain = chain_count s;
  «data» = data_count s;
  pending = pending_count s;
  hand = 0;
}

-- what `log` tells, by the world with numbers
abbrev pub serial_log : Serial → ℕ → LogCounts
serial_log s ino = record { entries = entry_count s ino; pages = log_told s ino }

-- the counts of a living snapshot, by the world with numbers: none is pinned
abbrev pub serial_snap : Serial → ℕ → SnapCounts
serial_snap s snapshot = record { snapshot = snapshot; held = held_by s snapshot; gain = gain_by s snapshot; pins = 0 }

-- what `snaps` tells, by the world with numbers
abbrev pub serial_snaps : Serial → Snaps
serial_snaps s = record { epoch = s.plain.epoch; commit = s.plain.commit; living = map (serial_snap s) (living s) }

-- the nodes that a tree command lists, by the world with numbers
abbrev pub serial_nodes : Serial → Option ℕ → Option (List TreeNode)
serial_nodes s None = Some (tree_told s)
serial_nodes s (Some snapshot) = snapshot_tree_told s snapshot

-- what the world with numbers reports. `SerialRows` computes fifteen worked scripts so, with every
-- byte of their output.
abbrev pub serial_reports : Serial → WorldReports
serial_reports s = record {
  space = serial_space s;
  lists = map (λ cpu. free_runs_of (free_on s cpu)) (range_with_len 0 s.numbers.cpus);
  slots = length s.slots;
  log = serial_log s;
  snaps = serial_snaps s;
  nodes = serial_nodes s;
}

-- THE SERIAL PLAYER: its worlds are plain worlds with numbers, and a `do` is one call of them
abbrev pub serial_player : Player
serial_player = player_of_calls new_serial serial_reports serial_stopped (λ old actor c. IsOutcome c old (serial_call old actor c))
