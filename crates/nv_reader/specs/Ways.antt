-- The way down to the next visit of a walk, and the visits that it leaves to be made.
use Rattle.std.specs.Prelude.{ℕ, ◌-◌, List, [], ◌∷◌, ◌++◌, length, map, reverse, Option, Some, None, IsSome, ◌≡◌, ◌<◌}
use Rattle.nv_base.specs.declared.numbers.Handle.{Handle}
use Rattle.nv_entry.specs.Tree.{path_below}
use Rattle.nv_entry.specs.declared.names.BoundName.{BoundName}
use Rattle.nv_reader.specs.Walk.{Visit}

-- the visit of a name in the directory at a path
abbrev pub name_visit : ℕ → List (List ℕ) → BoundName → Visit
name_visit below path bound = record { path = path_below path bound.name; below = below; handle = bound.to }

-- the visits of the names that are left in the directories on the way, the innermost first.
-- The path has its last name first, and each list of names its next name last.
-- The whole tree may be so many nodes deep.
abbrev pub left_visits : ℕ → List (List ℕ) → List (List BoundName) → List Visit
left_visits depth path [] = []
left_visits depth [] (names ∷ outer) = []
left_visits depth (name ∷ above) (names ∷ outer) =
    map (name_visit (depth - length (name ∷ above) - 1) (reverse above)) (reverse names) ++ left_visits depth above outer

-- the visit of a handle at a path, and then those that are left
abbrev pub visits_of : ℕ → Option Handle → List (List ℕ) → List (List BoundName) → List Visit
visits_of depth None path left = []
visits_of depth (Some handle) path left =
    record { path = path; below = depth - length path - 1; handle = handle } ∷ left_visits depth (reverse path) (reverse left)

-- the path of the first of some visits
abbrev pub first_path : List Visit → List (List ℕ)
first_path [] = []
first_path (visit ∷ later) = visit.path

-- a way leads down to the next visit of a walk
pub record IsWay (depth : ℕ) (next : Option Handle) (path : List (List ℕ)) (left : List (List BoundName)) : Type 0 where
  -- each name on the way has the names that are left of its directory
  pub paired : length path ≡ length left
  -- the next visit is no deeper than the tree may be
  pub within : IsSome next → length path < depth
  -- once nothing is to be visited, the way is empty
  pub end : next ≡ None → path ≡ []
