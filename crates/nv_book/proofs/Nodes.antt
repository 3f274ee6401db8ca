-- How many spare nodes room wants.
use Rattle.std.proofs.Common.{◌≡◌, ℕ, ◌<◌, ◌≤◌, List, [], ◌∷◌, length, arith, refl}
use Rattle.nv_book.specs.declared.manifest.Manifest.{Manifest}
use Rattle.nv_book.specs.Store.{nodes_wanted}

-- one for each record at most
pub wanted-within : (ms : List Manifest) (room : ℕ) → nodes_wanted ms room ≤ room
wanted-within [] room = omega arith
wanted-within (m ∷ ms) room = omega arith

-- one for each where a snapshot lives
pub wanted-at : (ms : List Manifest) (k room : ℕ) → k < length ms → nodes_wanted ms room ≡ room
wanted-at [] k room h = absurd (omega (arith, h))
wanted-at (m ∷ ms) k room h = refl
