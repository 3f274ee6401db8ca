-- The list of slots that a call locks, as it is made.
use Rattle.std.specs.Prelude.{ℕ, if◌then◌else◌, nat_lt, List, [], ◌∷◌, Option, Some, None, take}
use Rattle.nv_calls.specs.Locked.{with_slot}
use Rattle.nv_calls.specs.declared.slots.LockedSlots.{LockedSlots}

-- the inode slots that stand in the list so far
abbrev pub slots_in : LockedSlots → List ℕ
slots_in slots = take slots.count slots.inos

-- the slots with one more, where a number is given that has a slot
abbrev pub with_some : ℕ → Option ℕ → List ℕ → List ℕ
with_some inodes None slots = slots
with_some inodes (Some ino) slots = if nat_lt ino inodes then with_slot ino slots else slots

-- a list with one more number in front, where one is given
abbrev pub if_some : Option ℕ → List ℕ → List ℕ
if_some None rest = rest
if_some (Some n) rest = n ∷ rest

-- the numbers of a list that are there
abbrev pub all_some : List (Option ℕ) → List ℕ
all_some [] = []
all_some (n ∷ rest) = if_some n (all_some rest)
