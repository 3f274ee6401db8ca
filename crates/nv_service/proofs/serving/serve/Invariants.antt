use Rattle.std.proofs.Common.{length}
use Rattle.nv_sessions.specs.Names.{placed_parts}
use Rattle.nv_sessions.specs.Opened.{versions_in}
use Rattle.nv_service.proofs.serving.serve.Given as goal

abbrev pub ghosts-serve_named-C-Ledger : goal.ghosts-serve_named-C-Ledger
ghosts-serve_named-C-Ledger g a = record { name = a.ledgers.commits.name; parts = a.ledgers.commits.parts }

abbrev pub ghosts-serve_named-B-Ledger : goal.ghosts-serve_named-B-Ledger
ghosts-serve_named-B-Ledger g a = record { name = a.ledgers.blocks.name; parts = a.ledgers.blocks.parts }

abbrev pub ghosts-serve_named-C-Commits : goal.ghosts-serve_named-C-Commits
ghosts-serve_named-C-Commits g a = record {
  whole = a.ledgers.commits.parts;
  commit = a.world.shared.book.state.commit;
  epoch = a.world.shared.book.state.snaps.epoch;
  living = length a.world.shared.book.state.snaps.living;
  opened = versions_in a.world.shared.cells.items;
  table = a.ledgers.table;
  snap_name = a.ledgers.snapshots.name;
  snap_parts = a.ledgers.snapshots.parts;
}

abbrev pub ghosts-serve_named-B-Blocks : goal.ghosts-serve_named-B-Blocks
ghosts-serve_named-B-Blocks g a = record { whole = a.ledgers.blocks.parts; placed = placed_parts a.world.shared.geometry.numbers }
