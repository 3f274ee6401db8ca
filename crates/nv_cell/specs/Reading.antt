-- What an inode is now, by its log.
use Rattle.std.specs.Prelude.{◌≡◌, ℕ, List, Option, option_and_then}
use Rattle.std.specs.Option.{option_map}
use Rattle.nv_base.specs.declared.node.Kind.{Kind}
use Rattle.nv_entry.specs.declared.item.Entry.{Entry}
use Rattle.nv_entry.specs.declared.names.BoundName.{BoundName}
use Rattle.nv_entry.specs.Keys.{Key}
use Rattle.nv_entry.specs.Node.{mode_now, size_now}
use Rattle.nv_entry.specs.Refs.{scan_ref}
use Rattle.nv_entry.specs.Stored.{stored}
use Rattle.nv_log.specs.Chain.{last_of}
use Rattle.nv_nindex.specs.declared.binding.Binding.{Binding}
use Rattle.nv_cell.specs.Index.{IndexValue, ref_of}
use Rattle.nv_cell.specs.declared.stat.Stat.{Stat}

-- the index names the part of the log that holds each key
abbrev pub IsIndexOf : ℕ → List Entry → IndexValue → Type 0
IsIndexOf block log index = (key : Key) → ref_of index key ≡ scan_ref block log key

-- what an inode of that kind tells of itself, where `last` is the last entry of its log
abbrev pub stat_by : ℕ → List Entry → Kind → Entry → Stat
stat_by block log kind last = record { kind = kind; mode = mode_now block log; size = size_now block log; commit = last.id.commit }

-- what the inode of a log tells of itself; nothing where it has no kind,
-- so in an empty slot, or where it is gone
abbrev pub stat_now : ℕ → List Entry → Option Stat
stat_now block log = option_and_then (λ kind. option_map (stat_by block log kind) (last_of log)) (stored block log).kind

-- a name with its handle, by its binding
abbrev pub named : List ℕ × Binding → BoundName
named bound = record { name = bound.0; to = bound.1.to }
