-- Kind, mode and size among what a log has stored.
use Rattle.nv_entry.specs.Stored.{Stored}
use Rattle.nv_reader.specs.declared.attributes.Attributes.{Attributes}

-- kind, mode and size of what is stored
abbrev pub attributes_in : Stored → Attributes
attributes_in s = record { kind = s.kind; mode = s.mode; size = s.size }
