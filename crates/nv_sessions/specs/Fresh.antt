-- Who owns which inode at which version, and who has seen what. Versions are counted from the opening on.
use Rattle.std.specs.Prelude.{◌≡◌, ℕ, zero, suc, ◌+◌, ◌<◌, ◌≤◌, max, List, [], ◌∷◌, slice_index, true, false}
use mathlib.Core.Option.{some}
use lib.ListN.{get_elem?}
use Rattle.atomic_table.specs.Seated.{TableId}
use Rattle.nv_sessions.specs.declared.fresh.View.{View}

-- the name of no table
abbrev pub no_table : TableId
no_table = record {
  words = 0;
  slots = 0;
  views_name = 0;
  atom = 0;
  block = 0;
  offset = 0;
  slot_names = [];
}

-- ---- what a pass knows

-- the pass that makes owners, once it has made those of this many inodes
abbrev pub maker : ℕ → View
maker made =
    record { is_maker = true; made = made; is_owner = false; ino = 0; version = 0; seen = [] }

-- the owner of an inode at this version, which was told that a session has seen these
abbrev pub owner : ℕ → ℕ → List ℕ → View
owner ino version seen = record {
  is_maker = false;
  made = 0;
  is_owner = true;
  ino = ino;
  version = version;
  seen = seen;
}

-- a session, or a note: it has seen these versions
abbrev pub seer : List ℕ → View
seer seen =
    record { is_maker = false; made = 0; is_owner = false; ino = 0; version = 0; seen = seen }

-- this version at this inode alone
abbrev pub only_at : ℕ → ℕ → List ℕ
only_at zero n = n ∷ []
only_at (suc i) n = 0 ∷ only_at i n

-- the greater of two at each inode
abbrev pub greater : List ℕ → List ℕ → List ℕ
greater [] ys = ys
greater (x ∷ xs) [] = x ∷ xs
greater (x ∷ xs) (y ∷ ys) = max x y ∷ greater xs ys

-- what contracts see of the pass that owns an inode
pub record Owned : Type 0 where
  -- the inode that it owns
  pub ino : ℕ
  -- the version of that inode, counted from the opening on
  pub version : ℕ

-- ---- the rule

-- how all passes stand at one moment
pub record Standing : Type 0 where
  -- the version of each inode, counted from the opening on
  pub version : ℕ → ℕ
  -- the pass that owns each inode
  pub owned_by : ℕ → ℕ
  -- the pass that makes owners
  pub maker : ℕ
  -- how many owners it has made, one for each inode from 0 on
  pub made : ℕ

-- what one pass knows is so
pub record Fits (s : Standing) (by : ℕ) (v : View) : Type 0 where
  -- a pass that makes owners is the maker, and has counted those that it made
  pub makes : v.is_maker ≡ true → (by ≡ s.maker) × (v.made ≡ s.made)
  -- a pass that owns an inode is the owner of that inode, at its version
  pub owns : v.is_owner ≡ true
      → (s.owned_by v.ino ≡ by) × (v.version ≡ s.version v.ino) × (v.ino < s.made)
  -- no pass has seen a higher version of an inode than it has
  pub saw : (i : ℕ) → slice_index v.seen i ≤ s.version i

-- FRESH: each inode has one pass that owns it at its version, and no pass has seen a higher one.
-- It is the rule of the freshness cell, and each move of a pass keeps it.
pub record AreFresh (words : List ℕ) (views : List View) : Type 0 where
  -- how all passes stand
  pub standing : Standing
  -- an inode whose owner is not made yet is at its first version
  pub unmade : (i : ℕ) → standing.made ≤ i → standing.version i ≡ 0
  -- what each pass knows is so
  pub each : (by : ℕ) (v : View) → get_elem? views by ≡ some v → Fits standing by v

-- ---- the moves

-- the maker has made one owner more, which owns the next inode at its first version
abbrev pub made_one : View → View
made_one v = record v { made = v.made + 1 }

-- the pass of an inode's first owner
abbrev pub new_owner : View → View
new_owner v = owner v.made 0 []

-- a note of what a pass has seen
abbrev pub note : View → View
note v = seer v.seen

-- a note of the version at which an owner has its inode
abbrev pub own_note : View → View
own_note v = seer (only_at v.ino v.version)

-- a session takes a note in
abbrev pub with_note : View → View → View
with_note v w = record v { seen = greater v.seen w.seen }

-- an owner is told of a note
abbrev pub told : View → View → View
told v w = record v { seen = w.seen }

-- the version rises by one
abbrev pub Raises : View → List ℕ → List ℕ → View → Type 0
Raises v before after w = w ≡ record v { version = v.version + 1 }

-- what the owner was told of is no higher than its version; then it forgets it
abbrev pub Meets : View → List ℕ → List ℕ → View → Type 0
Meets v before after w = (w ≡ record v { seen = [] }) × (slice_index v.seen v.ino ≤ v.version)
