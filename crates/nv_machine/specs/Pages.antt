-- The pages of logs: each entry stands on one, and a hand has as many as the appends to come need.
use Rattle.std.specs.Prelude.{◌≡◌, ◌≤◌, ℕ, ◌+◌, ◌++◌, drop, length, take, Option, Some, None}
use Rattle.nv_clean.specs.Plans.{wanted_of}
use Rattle.nv_log.specs.Chain.{AreEnds, ChainState}
use Rattle.nv_machine.specs.Reads.{pages_wanted, written_slots}
use Rattle.nv_machine.specs.Wanted.{log_pages_wanted}
use Rattle.nv_machine.specs.World.{Append, Close, Compact, Enter, Fresh, HandState, Leave, SnapshotOrCleaner, SnapshotOrCleanerStep, Next, Open, Publish, Ready, Retire, Running, Shared, TakeBlocks, TakeLogPages, cell_at}

-- each entry of a chain stands on one of its log pages
pub record AreOnPages (page : ℕ) (chain : ChainState) : Type 0 where
  -- a log page has room for so many entries
  pub size : chain.page ≡ page
  -- there are no more log pages with entries than log pages
  pub each : length chain.ends ≤ length chain.blocks
  -- each log page with entries has one to so many of them, and together they have all
  pub parted : AreEnds page 0 chain.ends (length chain.entries)

-- how many log pages a cleaner has in its hand: with those still wanted as many as the entries
-- that stay will fill
abbrev pub HasPagesOn : SnapshotOrCleanerStep → Shared → HandState → Type 0
HasPagesOn (Fresh ino asked wanted) s h = length h.pages + wanted ≡ (wanted_of (cell_at s ino)).pages
HasPagesOn (Compact ino) s h = length h.pages ≡ (wanted_of (cell_at s ino)).pages
HasPagesOn other s h = Unit {0}

-- HOW MANY LOG PAGES A HAND HAS before a step: with those still wanted as many as the plan needs;
-- then as many as the entries need that are yet to be appended, and none besides
abbrev pub HasLogPages : Next → ℕ → Shared → HandState → Running → Type 0
HasLogPages (TakeBlocks asked) block s h r = length h.pages ≡ 0
HasLogPages (TakeLogPages asked) block s h r = length h.pages + r.wanted ≡ log_pages_wanted block s h r
HasLogPages Ready block s h r = length h.pages ≡ log_pages_wanted block s h r
HasLogPages Enter block s h r = length h.pages ≡ pages_wanted s r.slots r.plan
HasLogPages (Append place) block s h r = length h.pages ≡ pages_wanted s (drop place (written_slots r)) r.plan
HasLogPages Open block s h r = length h.pages ≡ 0
HasLogPages (Publish place) block s h r = length h.pages ≡ 0
HasLogPages Close block s h r = length h.pages ≡ 0
HasLogPages (Retire place) block s h r = length h.pages ≡ 0
HasLogPages Leave block s h r = length h.pages ≡ 0
HasLogPages (SnapshotOrCleaner step) block s h r = HasPagesOn step s h
HasLogPages other block s h r = Unit {0}

-- the hand of an actor has the log pages that its call's next step needs
abbrev pub PagesOf : Option Running → ℕ → Shared → HandState → Type 0
PagesOf None block s h = Unit {0}
PagesOf (Some r) block s h = HasLogPages r.next block s h r

-- an append puts so many log pages from the front of the hand into the chain of a slot
pub record TakesPages (s : Shared) (ino count : ℕ) (h : HandState) (t : Shared) (after : HandState) : Type 0 where
  -- the chain has them behind those that it had, in their order
  pub chain : (cell_at t ino).chain.blocks ≡ (cell_at s ino).chain.blocks ++ take count h.pages
  -- the hand has the others
  pub hand : after.pages ≡ drop count h.pages
