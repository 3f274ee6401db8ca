-- Snapshots that were made and dropped since the opening.
use Rattle.std.specs.Prelude.{◌≡◌, ◌≤◌, ℕ, ◌+◌, ◌-◌, ◌*◌, length}
use Rattle.nv_epoch.specs.SnapList.{Snapshots}

-- SO MANY MAKINGS AND DROPS lead from so many living snapshots in an epoch to these: each making
-- is one epoch and one living snapshot more, and each drop is one living snapshot less. Example:
-- at the opening 2 snapshots live in epoch 7. After 3 makings and 1 drop, which are 4, the epoch
-- is 10, and 4 live.
abbrev pub AreSnapped : ℕ → ℕ → Snapshots → ℕ → Type 0
AreSnapped living epoch now count = (epoch ≤ now.epoch) × (length now.living + count ≡ living + 2 * (now.epoch - epoch))
