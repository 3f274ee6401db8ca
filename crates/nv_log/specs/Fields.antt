-- The fields of a chain.
use Rattle.std.specs.Prelude.{◌-◌, ◌*◌, ◌≤◌, vec_len, vec_capacity}
use Rattle.nv_log.specs.declared.chain.Chain.TheInside.{Inside}
use Rattle.nv_log.specs.Chain.{ChainState, ChainValue, IsChain}
use Rattle.nv_log.specs.CommitRun.{IsCommitRun}

-- the chain that the fields of a chain show
abbrev pub state_in : Inside → ChainState
state_in c = record { page = c.page; blocks = c.blocks.items; ends = c.ends.items; entries = c.entries.items; tail = c.tail }

-- the same chain, with the room for log pages that is reserved and not used
abbrev pub value_in : Inside → ChainValue
value_in c = record { state = state_in c; spare = c.reserved - vec_len c.blocks }

-- the fields of a chain fit one another
pub record AreFields (c : Inside) : Type 0 where
  -- what they show is a chain
  pub chain : IsChain (state_in c)
  -- the entries of the commit run are each the first of its commit, commit by commit
  pub run : IsCommitRun c.entries.items c.run
  -- no more log pages are there than are reserved
  pub there : vec_len c.blocks ≤ c.reserved
  -- there is room for the blocks of all log pages that are reserved
  pub blocks_room : c.reserved ≤ vec_capacity c.blocks
  -- there is room for the ends of all these pages
  pub ends_room : c.reserved ≤ vec_capacity c.ends
  -- there is room for all entries that these pages hold
  pub entries_room : c.reserved * c.page ≤ vec_capacity c.entries
