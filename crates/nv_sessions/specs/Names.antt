-- What names a service.
use Rattle.std.specs.Prelude.{◌≡◌, ℕ, ◌+◌}
use Rattle.atomic_table.specs.Seated.{TableId}
use Rattle.nv_base.specs.declared.geometry.GeometryNumbers.{GeometryNumbers}
use Rattle.nv_base.specs.declared.limits.TheConstants.{ACTORS}

-- what contracts see of a ledger
pub record LedgerValue : Type 0 where
  -- the name by which its shares are told from those of others
  pub name : ℕ
  -- into how many parts it is cut
  pub parts : ℕ

-- what contracts see of the ledgers of a service that is to be opened
pub record LedgersValue : Type 0 where
  -- the ledger of commits: a share's amount is how many its seat has made
  pub commits : LedgerValue
  -- the ledger of makings and drops: a share's amount is how many its seat has made
  pub snapshots : LedgerValue
  -- the ledger of blocks: a share's amount is how many a part or a hand has
  pub blocks : LedgerValue
  -- the table of the freshness cell
  pub table : TableId

-- the ledgers of commits and of snapshots have a part for each seat, and one that no seat has
abbrev pub commit_parts : ℕ
commit_parts = ACTORS + 1

-- how many parts of the ledger of blocks lie beside parts of the device: one beside each cell, and one beside each free
-- list
abbrev pub placed_parts : GeometryNumbers → ℕ
placed_parts numbers = numbers.inodes + numbers.cpus

-- the ledger of blocks has these, a part for each seat, and one that no seat has
abbrev pub block_parts : GeometryNumbers → ℕ
block_parts numbers = placed_parts numbers + commit_parts

-- the names are those of a ledger of commits and of a freshness cell that a type stands for
pub record AreCommitNames (names : LedgersValue) (name parts whole : ℕ) (table : TableId)
    : Type 0 where
  -- the ledger of commits has this name
  pub same_name : names.commits.name ≡ name
  -- it is cut into so many parts
  pub same_parts : names.commits.parts ≡ parts
  -- the type tells all of these as the whole
  pub all_parts : whole ≡ parts
  -- the freshness cell has this table
  pub same_table : names.table ≡ table

-- the names are those of a ledger of makings and drops of snapshots that a type stands for
pub record AreSnapshotNames (names : LedgersValue) (name parts : ℕ) : Type 0 where
  -- that ledger has this name
  pub same_name : names.snapshots.name ≡ name
  -- it is cut into so many parts
  pub same_parts : names.snapshots.parts ≡ parts

-- the names are those of a ledger of blocks that a type stands for, over a device with these
-- numbers
pub record AreBlockNames (names : LedgersValue) (name parts whole placed : ℕ)
    (numbers : GeometryNumbers) : Type 0 where
  -- the ledger of blocks has this name
  pub same_name : names.blocks.name ≡ name
  -- it is cut into so many parts
  pub same_parts : names.blocks.parts ≡ parts
  -- the type tells all of these as the whole
  pub all_parts : whole ≡ parts
  -- it tells one of them for each cell and for each free list as placed
  pub all_placed : placed ≡ placed_parts numbers
  -- they are as many as cells, free lists and seats together, and one more
  pub made_for : parts ≡ block_parts numbers
