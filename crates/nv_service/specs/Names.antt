-- What names a service, as its opening wants it.
pub use Rattle.nv_sessions.specs.Names.{AreBlockNames, AreCommitNames, AreSnapshotNames, block_parts, placed_parts}
