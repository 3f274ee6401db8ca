-- What an append that failed on its way has left.
use Rattle.std.specs.Prelude.{◌≡◌, ℕ, List, length, take}

-- these bytes begin so
unfoldable pub HasFront : List ℕ → List ℕ → Type 0
HasFront front bytes = take (length front) bytes ≡ front
