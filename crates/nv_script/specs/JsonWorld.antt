-- A world as JSON: what is in a hand, a whole world, and the parts that a step is lent of it.
use Rattle.std.specs.Prelude.{ℕ, Bool, true, false, if◌then◌else◌, nat_lt, List, [], ◌∷◌, ◌++◌, length, filter, codes, decimal, Option, Some, None}
use Rattle.std.specs.List.{flat_map, range_with_len}
use Rattle.nv_base.specs.declared.geometry.GeometryNumbers.{GeometryNumbers}
use Rattle.nv_cell.specs.declared.killed.KilledPart.{KilledPart}
use Rattle.nv_machine.specs.Frame.{Lent}
use Rattle.nv_machine.specs.World.{HandState, Shared, World, cell_at, list_at, owner_at}
use Rattle.nv_script.specs.Grammar.{is_skipped}
use Rattle.nv_script.specs.Json.{array, array_by, book_object, cell_object, list_object, lock_object, numbers_array, object, or_null, text_line}
use Rattle.nv_script.specs.Texts.{line_of}

-- ---- hands

-- the parts of all publishes
abbrev pub all_killed : List (List KilledPart) → List KilledPart
all_killed killed = flat_map (λ parts. parts) killed

-- what a call has in its hand, and how many parts it has killed and not yet retired
abbrev pub hand_object : HandState → List ℕ
hand_object hand =
    codes "{\"data\":" ++ numbers_array hand.blocks ++ codes ",\"log\":" ++ numbers_array hand.pages ++ codes ",\"chain\":"
    ++ numbers_array hand.chain ++ codes ",\"ino\":" ++ or_null hand.ino ++ codes ",\"killed\":" ++ decimal (length (all_killed hand.killed))
    ++ codes "}"

-- ---- a whole world, and what a step was lent of it

-- the cell of a slot has an entry, also past its tail
abbrev pub has_entry : Shared → ℕ → Bool
has_entry s ino = nat_lt 0 (length (cell_at s ino).chain.entries)

-- the slots whose cells have one
abbrev pub slots_with_entry : Shared → List ℕ
slots_with_entry s = filter (has_entry s) (range_with_len 0 (length s.cells))

-- the numbers that a world was made for
abbrev pub numbers_object : GeometryNumbers → List ℕ
numbers_object n =
    codes "{\"blocks\":" ++ decimal n.blocks ++ codes ",\"cpus\":" ++ decimal n.cpus ++ codes ",\"block\":" ++ decimal n.block
    ++ codes ",\"page\":" ++ decimal n.page ++ codes ",\"inodes\":" ++ decimal n.inodes ++ codes ",\"snaps\":" ++ decimal n.snaps
    ++ codes ",\"actors\":" ++ decimal n.actors ++ codes "}"

-- A WORLD IN WHICH NO CALL RUNS: no lock is held then, and every hand is empty
abbrev pub world_object : World → List ℕ
world_object w =
    codes "{\"numbers\":" ++ numbers_object w.numbers ++ codes ",\"lists\":" ++ array_by list_object w.shared.lists ++ codes ",\"pool\":"
    ++ decimal (length w.shared.pool.numbers) ++ codes ",\"cells\":"
    ++ array (λ ino. cell_object ino (cell_at w.shared ino)) (slots_with_entry w.shared) ++ codes ",\"book\":"
    ++ book_object w.shared.book ++ codes "}"

-- one member, where there is such a part
abbrev pub where_some : (ℕ → List ℕ) → Option ℕ → List (List ℕ)
where_some text None = []
where_some text (Some place) = text place ∷ []

-- one member, where it is so
abbrev pub where_so : Bool → List ℕ → List (List ℕ)
where_so true text = text ∷ []
where_so false text = []

-- THE PARTS THAT A STEP IS LENT, as they are: a member for each
abbrev pub lent_members : Lent → Shared → List (List ℕ)
lent_members l s =
    where_some (λ cpu. codes "\"list\":" ++ list_object cpu (list_at s cpu)) l.list
    ++ where_so l.pool (codes "\"pool\":" ++ decimal (length s.pool.numbers))
    ++ where_some (λ ino. codes "\"cell\":" ++ cell_object ino (cell_at s ino)) l.cell
    ++ where_some (λ ino. codes "\"lock\":" ++ lock_object ino (owner_at s ino)) l.lock
    ++ where_so l.book (codes "\"book\":" ++ book_object s.book)
    ++ where_so l.commit_lock (codes "\"commit_lock\":" ++ or_null s.holder)

-- the object of these parts
abbrev pub lent_object : Lent → Shared → List ℕ
lent_object l s = object (lent_members l s)

-- ---- lines

-- the world behind a command that makes one
abbrev pub world_line : ℕ → World → List ℕ
world_line number w = line_of (codes "{\"line\":" ++ decimal number ++ codes ",\"world\":" ++ world_object w ++ codes "}")

-- what a script line's line is told as: nothing where it is skipped
abbrev pub text_of_line : ℕ → List ℕ → List ℕ
text_of_line number line = if is_skipped line then [] else text_line number line
