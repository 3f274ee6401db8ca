-- The texts of faults: number and name, and the fields in brackets.
use Rattle.std.specs.Prelude.{ℕ, List, [], ◌++◌, codes, decimal}
use Rattle.nv_base.specs.declared.fault.Fault.{Fault}
use Rattle.nv_base.specs.declared.fault.Fault.TheVariants as fault
use Rattle.nv_base.specs.declared.fault.GeometryField.{GeometryField}
use Rattle.nv_base.specs.declared.fault.GeometryField.TheVariants as field
use Rattle.nv_base.specs.declared.fault.MismatchPart.{MismatchPart}
use Rattle.nv_base.specs.declared.fault.MismatchPart.TheVariants as part
use Rattle.nv_base.specs.declared.fault.ImageFault.{ImageFault}
use Rattle.nv_base.specs.declared.fault.ImageFault.TheVariants as image
use Rattle.nv_base.specs.declared.fault.ScriptFaultKind.{ScriptFaultKind}
use Rattle.nv_base.specs.declared.fault.ScriptFaultKind.TheVariants as script

-- the word of a field of a geometry
abbrev pub field_name : GeometryField → List ℕ
field_name field.Blocks = codes "blocks"
field_name field.Cpus = codes "cpus"
field_name field.Block = codes "block"
field_name field.Page = codes "page"
field_name field.Inodes = codes "inodes"
field_name field.Snaps = codes "snaps"
field_name field.Actors = codes "actors"
field_name field.Seats = codes "seats"

-- the word of a part that an audit compares
abbrev pub part_name : MismatchPart → List ℕ
part_name part.Index = codes "index"
part_name part.Names = codes "names"
part_name part.Counts = codes "counts"
part_name part.Records = codes "records"
part_name part.Lists = codes "lists"

-- the word of a fault of an image
abbrev pub image_fault_name : ImageFault → List ℕ
image_fault_name image.Geometry = codes "geometry"
image_fault_name image.Block = codes "block"
image_fault_name image.Chain = codes "chain"
image_fault_name image.Entry = codes "entry"
image_fault_name image.Item = codes "item"
image_fault_name image.Run = codes "run"
image_fault_name image.Journal = codes "journal"
image_fault_name image.Snaps = codes "snaps"

-- the word of a kind of script fault
abbrev pub script_fault_name : ScriptFaultKind → List ℕ
script_fault_name script.Lines = codes "lines"
script_fault_name script.Long = codes "long"
script_fault_name script.Unended = codes "unended"
script_fault_name script.Word = codes "word"
script_fault_name script.Order = codes "order"
script_fault_name script.Count = codes "count"
script_fault_name script.Number = codes "number"
script_fault_name script.Text = codes "text"

-- the number and the name of a fault
abbrev pub fault_name : Fault → List ℕ
fault_name (fault.OutOfMemory witness) = codes "E1 OutOfMemory"
fault_name (fault.BadGeometry first) = codes "E2 BadGeometry"
fault_name fault.Stale = codes "E3 Stale"
fault_name fault.NotFile = codes "E4 NotFile"
fault_name fault.NotDirectory = codes "E5 NotDirectory"
fault_name fault.BadName = codes "E6 BadName"
fault_name fault.Missing = codes "E7 Missing"
fault_name fault.Exists = codes "E8 Exists"
fault_name fault.NotEmpty = codes "E9 NotEmpty"
fault_name fault.FileTooBig = codes "E10 FileTooBig"
fault_name fault.WriteTooBig = codes "E11 WriteTooBig"
fault_name fault.NoInode = codes "E12 NoInode"
fault_name fault.NoSpace = codes "E13 NoSpace"
fault_name fault.CommitLimit = codes "E14 CommitLimit"
fault_name fault.EpochLimit = codes "E15 EpochLimit"
fault_name fault.TooManySnapshots = codes "E16 TooManySnapshots"
fault_name fault.NoSnapshot = codes "E17 NoSnapshot"
fault_name fault.Pinned = codes "E18 Pinned"
fault_name fault.MoveDirectory = codes "E19 MoveDirectory"
fault_name fault.Contended = codes "E20 Contended"
fault_name fault.ActorBusy = codes "E21 ActorBusy"
fault_name fault.ActorIdle = codes "E22 ActorIdle"
fault_name fault.NoActor = codes "E23 NoActor"
fault_name (fault.Mismatch first) = codes "E24 Mismatch"
fault_name fault.SeatsOut = codes "E25 SeatsOut"
fault_name (fault.BadImage first) = codes "E26 BadImage"
fault_name (fault.ScriptFault first line) = codes "E27 ScriptFault"
fault_name fault.Read = codes "E28 Read"
fault_name fault.Write = codes "E29 Write"

-- a text in brackets
abbrev pub bracketed : List ℕ → List ℕ
bracketed text = codes "(" ++ text ++ codes ")"

-- the fields of a fault, in brackets
abbrev pub fault_fields : Fault → List ℕ
fault_fields (fault.BadGeometry first) = bracketed (field_name first)
fault_fields (fault.Mismatch first) = bracketed (part_name first)
fault_fields (fault.BadImage first) = bracketed (image_fault_name first)
fault_fields (fault.ScriptFault first line) = bracketed (decimal line ++ codes ", " ++ script_fault_name first)
fault_fields _ = []

-- the text of a fault: its number and name, and its fields in brackets where it has any
abbrev pub fault_text : Fault → List ℕ
fault_text why = fault_name why ++ fault_fields why
