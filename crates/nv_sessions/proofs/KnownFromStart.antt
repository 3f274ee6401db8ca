-- What owners know of their inodes from the opening on.
use Rattle.std.proofs.Common.{◌≡◌, ◌≤◌, ℕ, List, [], All, arith, refl, slice_index, slice_index_or}
use Rattle.nv_sessions.specs.Locked.{version_at}
use Rattle.nv_sessions.specs.UnlockedParts.{BesideCellValue, IsKnown}

-- no owner's version is below that of the opening
pub known_from_start : (opened seen : List ℕ) (rests : List BesideCellValue) → All (IsKnown opened seen) rests
    → All (IsKnown opened []) rests
known_from_start opened seen rests known = λ k d lt.
    let rest = slice_index_or rests k d in
    let none : slice_index [] rest.ino ≡ 0 = refl in
    let met : version_at opened rest.ino (slice_index seen rest.ino) ≤ rest.version = known k d lt in
    omega (arith, met, none)
