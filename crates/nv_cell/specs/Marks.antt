-- Marks of parts. A published part is current, killed, kept or out.
-- Killed is what is no longer current and not yet retired. Kept is what has a record.
use Rattle.std.specs.Prelude.{ℕ, Bool, true, false, List, slice_index_or}
use Rattle.nv_cell.specs.declared.mark.Mark.{Mark}
use Rattle.nv_cell.specs.declared.mark.Mark.TheVariants.{Current, Killed, Kept, Out}

-- the mark is current
abbrev pub is_current : Mark → Bool
is_current Current = true
is_current Killed = false
is_current Kept = false
is_current Out = false

-- the mark is killed
abbrev pub is_killed : Mark → Bool
is_killed Current = false
is_killed Killed = true
is_killed Kept = false
is_killed Out = false

-- the mark is current, killed or kept
abbrev pub is_there : Mark → Bool
is_there Current = true
is_there Killed = true
is_there Kept = true
is_there Out = false

-- the mark of the part `n`; out where there is none
abbrev pub mark_at : List Mark → ℕ → Mark
mark_at marks n = slice_index_or marks n Out

-- 1 for a flag that is set, else 0
abbrev pub bit : Bool → ℕ
bit true = 1
bit false = 0
