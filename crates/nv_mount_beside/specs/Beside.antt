-- What stands beside the world of each node, and what requests make of it.
use Rattle.std.specs.Prelude.{ℕ, ◌+◌, ◌-◌, ◌==◌, ◌&&◌, Bool, false, if◌then◌else◌, not, List, length, nat_lt, replicate, slice_set, slice_index_or}
use Rattle.nv_base.specs.declared.numbers.Handle.{Handle}
use Rattle.nv_mount_answers.specs.declared.kept.Kept.{Kept}
use Rattle.nv_mount_answers.specs.declared.kept.Time.{Time}
use Rattle.nv_mount_beside.specs.declared.beside.Beside.{Beside}

-- the times of a moment, and an owner
abbrev pub kept_from : Time → ℕ → ℕ → Kept
kept_from now user group = record { accessed = now; modified = now; changed = now; user = user; group = group }

-- a node that is new at a time: nobody has opened it, it has a name, and nothing was changed in it
abbrev pub new_beside : ℕ → Time → ℕ → ℕ → Beside
new_beside generation now user group = record {
  generation = generation;
  opens = 0;
  nameless = false;
  changes = 0;
  kept = kept_from now user group;
}

-- the node has changed at a time; its changes are counted up to 512, and then anew
abbrev pub changed : Time → Beside → Beside
changed now b = record b {
  changes = if nat_lt b.changes 512 then b.changes + 1 else 0;
  kept = record b.kept { modified = now; changed = now };
}

-- it is open once more, up to the greatest count
abbrev pub opened : Beside → Beside
opened b = record b { opens = if b.opens == 18446744073709551615 then b.opens else b.opens + 1 }

-- it is open once less
abbrev pub released : Beside → Beside
released b = record b { opens = b.opens - 1 }

-- it has a name, or none
abbrev pub named : Bool → Beside → Beside
named is_named b = record b { nameless = not is_named }

-- its name has moved or gone at a time, which is a change of its attributes alone
abbrev pub renamed : Time → Beside → Beside
renamed now b = record b { kept = record b.kept { changed = now } }

-- what stands beside the nodes: by slot, with the times of a node of which nothing was told
pub record AllBeside : Type 0 where
  -- when the mount began
  pub begun : Time
  -- what was set, by slot
  pub rows : List Beside

-- what a node has of which nothing was told
abbrev pub untold : AllBeside → ℕ → Beside
untold all generation = new_beside generation all.begun 0 0

-- what was set for a slot
abbrev pub row_at : AllBeside → ℕ → Beside
row_at all slot = slice_index_or all.rows slot (untold all 0)

-- what stands beside a node: what was set for its slot, where that is of its generation
abbrev pub beside_at : AllBeside → Handle → Beside
beside_at all handle =
    if nat_lt handle.ino (length all.rows) && (row_at all handle.ino).generation == handle.generation then row_at all handle.ino
    else untold all handle.generation

-- from now on this stands beside a node; a slot that is not there has nothing
abbrev pub with_beside : Handle → Beside → AllBeside → AllBeside
with_beside handle b all = record all { rows = slice_set all.rows handle.ino b }

-- nothing was told yet of so many slots
abbrev pub none_beside : ℕ → Time → AllBeside
none_beside slots begun = record { begun = begun; rows = replicate slots (new_beside 0 begun 0 0) }
