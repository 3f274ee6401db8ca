-- The node that a cell holds, and which calls only read.
use Rattle.std.specs.Prelude.{◌≡◌, ◌⊎◌, ℕ, Bool, true, false, List, Option, Result, Ok, Err}
use Rattle.nv_base.specs.Memory.{out_of_memory}
use Rattle.nv_base.specs.declared.fault.Fault.{Fault}
use Rattle.nv_base.specs.declared.numbers.Handle.{Handle}
use Rattle.nv_entry.specs.declared.node.NodeCopy.{NodeCopy}
use Rattle.nv_cell.specs.Cell.{CellState, log_of}
use Rattle.nv_cell.specs.declared.stat.Stat.{Stat}
use Rattle.nv_calls.specs.declared.call.Call.{Call}
use Rattle.nv_calls.specs.declared.call.Call.TheVariants as call
use Rattle.nv_calls.specs.Plain.{PlainNode, node_in}
use Rattle.nv_calls.specs.Refusals.{Check, passes}
use Rattle.nv_calls.specs.Slots.{InodeSlot, node_under}

-- what a cell's slot says
abbrev pub slot_of : CellState → InodeSlot
slot_of cell = record { generation = cell.generation; log = log_of cell }

-- the plain node under a handle of the cell's slot, where `bytes` gives those of a block
abbrev pub node_of : (ℕ → List ℕ) → CellState → Handle → Option PlainNode
node_of bytes cell = node_under bytes cell.block (λ ino. slot_of cell)

-- the node of a cell, where the bytes of its blocks are given
abbrev pub copy_of : (ℕ → List ℕ) → CellState → Handle → Option NodeCopy
copy_of bytes cell = node_in (node_of bytes cell)

-- what a node tells of itself
abbrev pub stat_of : PlainNode → Stat
stat_of p = record { kind = p.node.kind; mode = p.node.mode; size = p.node.size; commit = p.changed }

-- ---- looks

-- what a check says that looks for something
abbrev pub check_of : {T : Type 0} → Result T Fault → Check
check_of (Ok found) = passes
check_of (Err fault) = Err fault

-- ---- calls that only read

-- the call is a `stat`
abbrev pub is_stat : Call → Bool
is_stat (call.Stat handle) = true
is_stat other = false

-- the call is a `lookup`
abbrev pub is_lookup : Call → Bool
is_lookup (call.Lookup dir name) = true
is_lookup other = false

-- the call is a `list`
abbrev pub is_list : Call → Bool
is_list (call.List dir) = true
is_list other = false

-- the call is a `read`
abbrev pub is_read : Call → Bool
is_read (call.Read file offset count) = true
is_read other = false

-- a call that reads one node and changes none
abbrev pub is_visit : Call → Bool
is_visit (call.Read file offset count) = true
is_visit (call.Stat handle) = true
is_visit (call.List dir) = true
is_visit (call.Lookup dir name) = true
is_visit other = false

-- a visit takes memory, except that of a `stat` or a `lookup`
abbrev pub visit_grows : Call → Bool
visit_grows (call.Stat handle) = false
visit_grows (call.Lookup dir name) = false
visit_grows other = true

-- the fault of a check that refuses; or where it passes, memory was wanted in vain
abbrev pub IsVisitRefusal : Check → Bool → Fault → Type 0
IsVisitRefusal check grows fault = (check ≡ Err fault) ⊎ ((check ≡ passes) × (fault ≡ out_of_memory) × (grows ≡ true))
