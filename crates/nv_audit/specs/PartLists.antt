-- Lists of parts of all inodes.
use Rattle.std.specs.Prelude.{◌≡◌, ℕ, ◌==◌, ◌&&◌, Bool, List, count_by}
use Rattle.nv_base.specs.Ids.{is_same_id}
use Rattle.nv_base.specs.declared.numbers.EntryId.{EntryId}
use Rattle.nv_entry.specs.Held.{same_part}
use Rattle.nv_entry.specs.declared.part.Part.{Part}
use Rattle.nv_entry.specs.declared.part.Part.TheVariants as part
use Rattle.nv_audit.specs.declared.part_list.InodePart.{InodePart}

-- the second part is the first
abbrev pub is_same : InodePart → InodePart → Bool
is_same one other = (other.ino == one.ino) && (is_same_id other.part.entry one.part.entry && same_part other.part.part one.part.part)

-- how often a part stands in a list
abbrev pub times : InodePart → List InodePart → ℕ
times part parts = count_by (is_same part) parts

-- each part stands in one list as often as in the other
abbrev pub HaveSameParts : List InodePart → List InodePart → Type 0
HaveSameParts one other = (part : InodePart) → times part one ≡ times part other

-- ---- the order of parts

-- where a key stands among the keys of an entry
abbrev pub part_order : Part → ℕ × ℕ
part_order part.Kind = (0, 0)
part_order part.Mode = (1, 0)
part_order part.Size = (2, 0)
part_order part.Bound = (3, 0)
part_order (part.Page page) = (4, page)

-- parts stand by inode, by entry, and within one entry by their keys
abbrev pub order_of : InodePart → ℕ × EntryId × (ℕ × ℕ)
order_of of = (of.ino, of.part.entry, part_order of.part.part)
