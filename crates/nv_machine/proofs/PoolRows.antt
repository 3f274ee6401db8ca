-- What one scan leaves for the pool of a small world, while a file is made and after it is unlinked.
use Rattle.std.proofs.Common.{◌≡◌, [], ◌∷◌, ℕ, refl}
use Rattle.nv_calls.specs.declared.call.Call.TheVariants as call
use Rattle.nv_machine.specs.Format.{formatted}
use Rattle.nv_machine.specs.PoolScan.{numbers_held, pool_from_scratch}
use Rattle.nv_machine.specs.World.{World}
use Rattle.nv_machine.proofs.ScriptRows.{DoCall, Goes, StartCall, device, handle, played}

-- a file is made, up to so many steps of its call
abbrev making : ℕ → World
making steps = played (formatted device) (StartCall 0 (call.Create (handle 0 1) (97 ∷ []) 420) ∷ Goes 0 steps ∷ [])

new_pool : pool_from_scratch device (making 0) ≡ 1 ∷ 2 ∷ 3 ∷ 4 ∷ 5 ∷ 6 ∷ 7 ∷ []
new_pool = refl

-- its number is in the hand from the first step on, also once its inode is published, and up to the close
taken_pool : pool_from_scratch device (making 1) ≡ 2 ∷ 3 ∷ 4 ∷ 5 ∷ 6 ∷ 7 ∷ []
taken_pool = refl

taken_held : numbers_held (making 1) ≡ 1 ∷ []
taken_held = refl

published_held : numbers_held (making 12) ≡ 1 ∷ []
published_held = refl

closed_held : numbers_held (making 13) ≡ []
closed_held = refl

closed_pool : pool_from_scratch device (making 13) ≡ 2 ∷ 3 ∷ 4 ∷ 5 ∷ 6 ∷ 7 ∷ []
closed_pool = refl

-- an inode that is unlinked and kept by nothing gives its number back
abbrev unlinked : World
unlinked = played (formatted device) (
    DoCall 0 (call.Create (handle 0 1) (97 ∷ []) 420) ∷ DoCall 1 (call.Unlink (handle 0 1) (97 ∷ [])) ∷ [])

unlinked_pool : pool_from_scratch device unlinked ≡ 1 ∷ 2 ∷ 3 ∷ 4 ∷ 5 ∷ 6 ∷ 7 ∷ []
unlinked_pool = refl
