-- The parts of a log by their names.
use Rattle.std.specs.Prelude.{ℕ, ◌+◌, ◌-◌, if◌then◌else◌, List, [], ◌∷◌, Option, Some, None}
use Rattle.std.specs.Option.{option_map}
use Rattle.nv_base.specs.Ids.{is_same_id}
use Rattle.nv_entry.specs.declared.item.Entry.{Entry}
use Rattle.nv_entry.specs.declared.item.Item.{Item}
use Rattle.nv_entry.specs.declared.item.Item.TheVariants.{Init, Write, SetSize, SetMode, Bind}
use Rattle.nv_entry.specs.declared.part.Part.{Part}
use Rattle.nv_entry.specs.declared.part.Part.TheVariants as part
use Rattle.nv_entry.specs.declared.part.PartId.{PartId}
use Rattle.nv_entry.specs.Covered.{part_count}
use Rattle.nv_entry.specs.Keys.{in_run}

-- the place of a part among those of an item
abbrev pub place_of_part : Item → Part → Option ℕ
place_of_part (Init kind mode) part.Kind = Some 0
place_of_part (Init kind mode) part.Mode = Some 1
place_of_part (Init kind mode) part.Size = Some 2
place_of_part (Write first run size) part.Size = Some 0
place_of_part (Write first run size) (part.Page page) = if in_run first run page then Some (page - first + 1) else None
place_of_part (SetSize size) part.Size = Some 0
place_of_part (SetMode mode) part.Mode = Some 0
place_of_part (Bind name to) part.Bound = Some 0
place_of_part item other = None

-- the number of a part of a log, by its name
abbrev pub number_named : List Entry → PartId → Option ℕ
number_named [] id = None
number_named (e ∷ later) id =
    if is_same_id e.id id.entry then place_of_part e.item id.part else option_map (λ n. part_count e + n) (number_named later id)
