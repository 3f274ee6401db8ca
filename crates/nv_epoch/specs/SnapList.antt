-- What a snapshot list is: the living snapshots with their pins, the epoch, and how many may live.
use Rattle.std.specs.Prelude.{ℕ, ◌+◌, ◌-◌, ◌<◌, ◌≤◌, ◌==◌, not, List, [], ◌∷◌, ◌++◌, All, length, map, filter, Option, Some, None, if◌then◌else◌}
use Rattle.nv_base.specs.declared.limits.TheConstants.{NUMBER, PINS}
use Rattle.nv_epoch.specs.declared.snapshot.Snapshot.{Snapshot}
use Rattle.nv_epoch.specs.Holders.{IsRising}

-- what clauses see of a snapshot list
pub record Snapshots : Type 0 where
  -- the living snapshots, oldest first, each with its pins
  pub living : List Snapshot
  -- the current epoch
  pub epoch : ℕ
  -- how many snapshots may live at a time
  pub most : ℕ

-- the numbers of living snapshots
abbrev pub numbers : List Snapshot → List ℕ
numbers living = map (λ s. s.number) living

-- the numbers of the living snapshots of a list
abbrev pub ids : Snapshots → List ℕ
ids list = numbers list.living

-- the pins of the living snapshot s, if it lives
abbrev pub pins_at : List Snapshot → ℕ → Option ℕ
pins_at [] s = None
pins_at (t ∷ ts) s = if t.number == s then Some t.pins else pins_at ts s

-- the pins of a snapshot, if it lives
abbrev pub pins_of : Snapshots → ℕ → Option ℕ
pins_of list s = pins_at list.living s

-- what holds of each snapshot list
pub record IsSound (list : Snapshots) : Type 0 where
  -- the numbers of the living snapshots rise
  pub rising : IsRising (ids list)
  -- each of them is below the current epoch
  pub below_epoch : All (λ s. s < list.epoch) (ids list)
  -- no snapshot has more than 64 pins
  pub pins_fit : All (λ (s : Snapshot). s.pins ≤ PINS) list.living
  -- no more snapshots live than are allowed
  pub fits : length list.living ≤ list.most
  -- the epoch is at least 1
  pub some_epoch : 1 ≤ list.epoch
  -- the epoch is at most 2^62
  pub epoch_fits : list.epoch ≤ NUMBER

-- a snapshot that no call reads
abbrev pub unpinned : ℕ → Snapshot
unpinned number = record { number = number; pins = 0 }

-- the current epoch becomes a snapshot without pins, and the next one begins
abbrev pub after_making : Snapshots → Snapshots
after_making list = record list {
  living = list.living ++ (record { number = list.epoch; pins = 0 }) ∷ [];
  epoch = list.epoch + 1;
}

-- the living snapshots without one
abbrev pub living_without : List Snapshot → ℕ → List Snapshot
living_without living s = filter (λ t. not (t.number == s)) living

-- the list once a snapshot was removed
abbrev pub after_removal : Snapshots → ℕ → Snapshots
after_removal list s = record list { living = living_without list.living s }

-- the snapshot s with other pins, and any other snapshot as it is
abbrev pub repinned : ℕ → (ℕ → ℕ) → Snapshot → Snapshot
repinned s change t = if t.number == s then record t { pins = change t.pins } else t

-- the living snapshots, where the pins of one are changed
abbrev pub with_pins : List Snapshot → ℕ → (ℕ → ℕ) → List Snapshot
with_pins living s change = map (repinned s change) living

-- the list once a snapshot got a pin
abbrev pub after_pin : Snapshots → ℕ → Snapshots
after_pin list s = record list { living = with_pins list.living s (λ pins. pins + 1) }

-- the list once a snapshot lost a pin
abbrev pub after_unpin : Snapshots → ℕ → Snapshots
after_unpin list s = record list { living = with_pins list.living s (λ pins. pins - 1) }
