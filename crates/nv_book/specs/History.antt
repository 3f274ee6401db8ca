-- What happened: commits, makings and drops of snapshots, after a base.
use Rattle.std.specs.Prelude.{◌≡◌, ℕ, ◌+◌, ◌-◌, ◌<◌, nat_lt, if◌then◌else◌, List, [], ◌∷◌, ◌++◌, length, All, Contains}
use Rattle.nv_base.specs.declared.limits.TheConstants.{NUMBER}
use Rattle.nv_book.specs.declared.event.Event.{Event}
use Rattle.nv_book.specs.declared.event.Event.TheVariants.{Committed, Made, Dropped}
use Rattle.nv_epoch.specs.Holders.{IsRising, without}
use Rattle.nv_epoch.specs.SnapList.{Snapshots, ids}

-- what events change
pub record State : Type 0 where
  -- the current epoch
  pub epoch : ℕ
  -- the number of the last commit
  pub commit : ℕ
  -- the numbers of the living snapshots, oldest first
  pub living : List ℕ

-- the event may come next. A commit has the next number and this epoch. A making closes this
-- epoch, within the limits of epochs and of living snapshots. A drop is of a living snapshot.
abbrev pub IsNext : ℕ → State → Event → Type 0
IsNext most now (Committed seat number epoch) = (number ≡ now.commit + 1) × (epoch ≡ now.epoch)
IsNext most now (Made s) = (s ≡ now.epoch) × (s < NUMBER) × (length now.living < most)
IsNext most now (Dropped s) = Contains now.living s

-- epoch, commit number and living snapshots after an event
abbrev pub after : State → Event → State
after now (Committed seat number epoch) = record now { commit = number }
after now (Made s) = record now { epoch = s + 1; living = now.living ++ s ∷ [] }
after now (Dropped s) = record now { living = without s now.living }

-- the living snapshots of a state are in order
pub record IsOrdered (now : State) : Type 0 where
  -- the numbers of the living snapshots rise
  pub rising : IsRising now.living
  -- each of these numbers is below the epoch
  pub below_epoch : All (λ s. s < now.epoch) now.living

-- the numbers with one more, which stands before the first that is not below it
abbrev pub put_back : ℕ → List ℕ → List ℕ
put_back s [] = s ∷ []
put_back s (t ∷ ts) = if nat_lt t s then t ∷ put_back s ts else s ∷ t ∷ ts

-- the state before an event that led to this one
abbrev pub before : State → Event → State
before now (Committed seat number epoch) = record now { commit = number - 1 }
before now (Made s) = record now { epoch = s; living = without s now.living }
before now (Dropped s) = record now { living = put_back s now.living }

-- the state before some events that led to this one
unfoldable pub undone : State → List Event → State
undone now [] = now
undone now (e ∷ es) = before (undone now es) e

-- a legal history from a base on: each event may come after those before it
unfoldable pub IsLegal : ℕ → State → List Event → Type 0
IsLegal most base [] = Unit {0}
IsLegal most base (e ∷ es) = IsNext most base e × IsLegal most (after base e) es

-- the state that the events lead to from a base on
unfoldable pub replay : State → List Event → State
replay base [] = base
replay base (e ∷ es) = replay (after base e) es

-- what a book tells of its past.
-- Example: after 300 commits and nothing else the base has
-- commit 44, and 256 commits stand after it.
pub record Account : Type 0 where
  -- the state before the latest events
  pub base : State
  -- the latest events, oldest first
  pub latest : List Event

-- the state that an account leads to: its base after all its events
abbrev pub now_of : Account → State
now_of a = replay a.base a.latest

-- an account whose first events went into its base
abbrev pub fold_first : Account → List Event → Account
fold_first a [] = a
fold_first a (e ∷ es) = record a { base = after a.base e; latest = es }

-- the first of the events goes into the base
abbrev pub folded : Account → Account
folded a = fold_first a a.latest

-- an account with one more event behind the others
abbrev pub longer : Account → Event → Account
longer a e = record a { latest = a.latest ++ e ∷ [] }

-- an account with one event more, of which at most `n` stand after the base
abbrev pub noted : ℕ → Account → Event → Account
noted n a e = if nat_lt (length a.latest) n then longer a e else folded (longer a e)

-- the latest events, after a base that is the present state with them undone
abbrev pub told : State → List Event → Account
told now latest = record { base = undone now latest; latest = latest }

-- the latest events are a history of the present state
pub record IsHistory (most : ℕ) (now : State) (latest : List Event) : Type 0 where
  -- the latest events are legal after the base
  pub legal : IsLegal most (undone now latest) latest
  -- the base's living snapshots rise, and are below its epoch
  pub ordered : IsOrdered (undone now latest)
  -- the latest events lead from the base to what is now
  pub leads : now_of (told now latest) ≡ now

-- the state of a book
abbrev pub state_now : Snapshots → ℕ → State
state_now snaps commit = record { epoch = snaps.epoch; commit = commit; living = ids snaps }
