-- The parts that an iterator over an entry's parts has left.
use Rattle.std.specs.Prelude.{List, drop}
use Rattle.nv_entry.specs.declared.part.Part.{Part}
use Rattle.nv_entry.specs.declared.part.Parts.{Parts}
use Rattle.nv_entry.specs.Keys.{parts_of}

-- the parts that an iterator has yet to yield
abbrev pub parts_left : Parts → List Part
parts_left parts = drop parts.next (parts_of parts.item.now)
