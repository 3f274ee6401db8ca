-- The counts of a log page, from scratch.
use Rattle.std.specs.Prelude.{ℕ, zero, suc, ◌+◌, Bool, if◌then◌else◌, List, [], ◌∷◌}
use Rattle.std.specs.List.{list_any}
use Rattle.nv_entry.specs.declared.item.Entry.{Entry}
use Rattle.nv_entry.specs.Held.{Retention, is_current, keeps}
use Rattle.nv_entry.specs.Log.{pairs_of}

-- an entry has a current pair
abbrev pub is_live : ℕ → Entry → List Entry → Bool
is_live block e later = list_any is_current (pairs_of block e later)

-- an entry has a pair that is needed or pending
abbrev pub is_entry_kept : Retention → Entry → List Entry → Bool
is_entry_kept r e later = list_any (keeps r) (pairs_of r.block e later)

-- how many of the first `count` entries of a log have a current pair. For a log page the log
-- begins with the page's first entry, and `count` is how many the page has.
-- Example: one log page has an Init, a Write of page 0, and after snapshot 1 another Write of it.
-- The Init and the last Write have a current pair, so that `live` is 2. The snapshot holds the
-- first Write, so that `valid` is 3.
abbrev pub live_of : ℕ → ℕ → List Entry → ℕ
live_of block zero log = 0
live_of block (suc count) [] = 0
live_of block (suc count) (e ∷ later) = (if is_live block e later then 1 else 0) + live_of block count later

-- how many of them have a pair that is needed or pending; the killed ones are among the pending
abbrev pub valid_of : Retention → ℕ → List Entry → ℕ
valid_of r zero log = 0
valid_of r (suc count) [] = 0
valid_of r (suc count) (e ∷ later) = (if is_entry_kept r e later then 1 else 0) + valid_of r count later
