-- What becomes of the parts that a commit killed: a snapshot keeps a part, until its record is
-- released, or its block is free.
use Rattle.std.specs.Prelude.{ℕ, ◌+◌, ◌-◌, if◌then◌else◌, nat_le, List, [], ◌∷◌, ◌++◌, Option, Some, None, length, option_to_list, slice_index_or}
use Rattle.nv_alloc.specs.Block.{BlockValue}
use Rattle.nv_alloc.specs.Queue.{QueueValue}
use Rattle.nv_alloc.specs.declared.hand.Hand.{Hand}
use Rattle.nv_base.specs.declared.limits.TheConstants.{NUMBER}
use Rattle.nv_book.specs.Manifests.{put_to}
use Rattle.nv_book.specs.Records.{holder_of}
use Rattle.nv_book.specs.declared.manifest.Manifest.{Manifest}
use Rattle.nv_book.specs.declared.record.Record.{Record}
use Rattle.nv_entry.specs.declared.part.PartId.{PartId}
use Rattle.nv_cell.specs.Cell.{CellRoom, CellState, empty_cell, no_room, number_in, with_mark, without_part}
use Rattle.nv_cell.specs.Readers.{is_erased}
use Rattle.nv_cell.specs.declared.killed.KilledPart.{KilledPart}
use Rattle.nv_cell.specs.declared.mark.Mark.TheVariants.{Kept}

-- the name of a killed part
abbrev pub part_in : KilledPart → PartId
part_in killed = killed.part

-- the record of a part of an inode that was killed in an epoch
abbrev pub record_of : ℕ → ℕ → KilledPart → Record
record_of ino epoch killed =
    record { ino = ino; entry = killed.part.entry; part = killed.part.part; birth = killed.birth; death = epoch }

-- the youngest living snapshot that holds the part
abbrev pub keeper_of : List ℕ → ℕ → ℕ → KilledPart → Option ℕ
keeper_of living ino epoch killed = holder_of living (record_of ino epoch killed)

-- the cell once a part is kept, where a snapshot is its keeper, or else is out
abbrev pub settled : Option ℕ → ℕ → CellState → CellState
settled (Some s) n cell = with_mark cell n Kept
settled None n cell = without_part cell n

-- the block that goes free there: that of a part that is out
abbrev pub freed : Option ℕ → ℕ → CellState → List BlockValue
freed (Some s) n cell = []
freed None n cell = option_to_list (slice_index_or cell.blocks n None)

-- the cell once one killed part is retired
abbrev pub retired_one : List ℕ → ℕ → ℕ → KilledPart → CellState → CellState
retired_one living ino epoch killed cell = settled (keeper_of living ino epoch killed) (number_in cell killed.part) cell

-- the block that goes free where one killed part is retired
abbrev pub freed_one : List ℕ → ℕ → ℕ → KilledPart → CellState → List BlockValue
freed_one living ino epoch killed cell = freed (keeper_of living ino epoch killed) (number_in cell killed.part) cell

-- the cell once several killed parts are retired, one after another
abbrev pub retired : List ℕ → ℕ → ℕ → List KilledPart → CellState → CellState
retired living ino epoch [] cell = cell
retired living ino epoch (killed ∷ later) cell = retired living ino epoch later (retired_one living ino epoch killed cell)

-- the blocks that go free where killed parts are retired one after another
abbrev pub freed_by : List ℕ → ℕ → ℕ → List KilledPart → CellState → List BlockValue
freed_by living ino epoch [] cell = []
freed_by living ino epoch (killed ∷ later) cell =
    freed_one living ino epoch killed cell ++ freed_by living ino epoch later (retired_one living ino epoch killed cell)

-- the manifests with the records of killed parts
abbrev pub with_records : List ℕ → ℕ → ℕ → List KilledPart → List Manifest → List Manifest
with_records living ino epoch [] manifests = manifests
with_records living ino epoch (killed ∷ later) manifests =
    with_records living ino epoch later (put_to (keeper_of living ino epoch killed) (record_of ino epoch killed ∷ []) manifests)

-- ---- releasing

-- the name of a record's part
abbrev pub name_of : Record → PartId
name_of d = record { entry = d.entry; part = d.part }

-- the cell once a record's part is out
abbrev pub released : Record → CellState → CellState
released d cell = settled None (number_in cell (name_of d)) cell

-- the block that goes free where a record is released
abbrev pub released_blocks : Record → CellState → List BlockValue
released_blocks d cell = freed None (number_in cell (name_of d)) cell

-- ---- erasing

-- the cell, emptied where its inode is gone and nothing of it is kept
abbrev pub erased : CellState → CellState
erased cell = if is_erased cell then empty_cell cell.block cell.chain.page (cell.generation + 1) cell.version else cell

-- the room of that cell: once emptied, it has room for killed parts alone
abbrev pub room_erased : CellState → CellRoom → CellRoom
room_erased cell room = if is_erased cell then record no_room { killed = room.killed } else room

-- the number of an erased inode goes to the hand, unless its slot has had the last generation
abbrev pub number_back : ℕ → CellState → Option ℕ → Option ℕ
number_back ino cell number = if nat_le NUMBER (cell.generation + 1) then number else Some ino

-- the hand once a cell was erased: with its chain and its number
abbrev pub hand_with : ℕ → CellState → Hand → Hand
hand_with ino cell hand =
    if is_erased cell then record hand { chain = cell.chain.blocks; ino = number_back ino cell hand.ino } else hand

-- a queue with more blocks behind the others
abbrev pub with_back : List BlockValue → QueueValue → QueueValue
with_back blocks queue = record queue { blocks = queue.blocks ++ blocks; room = queue.room - length blocks }

-- a hand, once killed parts are retired and the inode is erased where it is gone and nothing is kept
abbrev pub hand_retired : List ℕ → ℕ → ℕ → List KilledPart → CellState → Hand → Hand
hand_retired living ino epoch killed cell hand =
    hand_with ino (retired living ino epoch killed cell)
    (record hand { «data» = with_back (freed_by living ino epoch killed cell) hand.data })
