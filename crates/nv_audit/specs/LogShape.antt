-- The shape of a log whose first entries may have been taken out, and the last commit and epoch that a log may be of.
use Rattle.std.specs.Prelude.{◌≡◌, ℕ, ◌≤◌, true, All, List, Option, None}
use Rattle.std.specs.List.{list_any}
use Rattle.nv_base.specs.declared.node.Kind.{Kind}
use Rattle.nv_entry.specs.Held.{is_held}
use Rattle.nv_entry.specs.Log.{pairs}
use Rattle.nv_entry.specs.Shape.{AreLawful, items_of}
use Rattle.nv_entry.specs.declared.item.Entry.{Entry}

-- the items of a log are lawful one after another from some kind on, or from nothing on.
-- So are those of a gone inode whose first entries a cleaner took out.
abbrev pub AreLawfulFromSome : ℕ → List Entry → Type 0
AreLawfulFromSome block log = (before : Option Kind) × AreLawful block (items_of log) before

-- a log of which one of these snapshots holds a pair is lawful from nothing on, also where its inode is gone
abbrev pub IsHeldLawful : ℕ → List ℕ → List Entry → Type 0
IsHeldLawful block living log =
    list_any (is_held living) (pairs block log) ≡ true → AreLawful block (items_of log) None

-- an entry is of no later commit and epoch
abbrev pub IsNoLater : ℕ → ℕ → Entry → Type 0
IsNoLater commit epoch e = (e.id.commit ≤ commit) × (e.epoch ≤ epoch)

-- no entry of a log is of a later commit or a later epoch.
-- Example: entries of commits 1 and 2 in epoch 1 are no later than commit 2 and epoch 1, and not
-- so than commit 1.
abbrev pub AreNoLater : ℕ → ℕ → List Entry → Type 0
AreNoLater commit epoch log = All (IsNoLater commit epoch) log
