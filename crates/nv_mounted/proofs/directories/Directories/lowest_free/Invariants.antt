use Rattle.std.proofs.Common.{◌≡◌, ℕ, ◌<◌, get_or, false}
use Rattle.nv_mounted.specs.Listings.{is_closed}
use Rattle.nv_mounted.specs.declared.directories.Open.{Open}
use Rattle.nv_mounted.proofs.directories.Directories.lowest_free.Given as goal

-- no number below is free
abbrev pub invariant-loop-at : goal.invariant-loop-at
invariant-loop-at l =
    (k : ℕ) (d : Open) → k < l.at → is_closed (get_or l.self-inside.rows.items k d) ≡ false
