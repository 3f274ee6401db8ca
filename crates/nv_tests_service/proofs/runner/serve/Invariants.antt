use Rattle.std.proofs.Common.{length}
use Rattle.nv_service.specs.Names.{placed_parts}
use Rattle.nv_service.specs.Opened.{versions_in}
use Rattle.nv_tests_service.proofs.runner.serve.Given as goal

abbrev pub ghosts-run-C-Ledger : goal.ghosts-run-C-Ledger
ghosts-run-C-Ledger g a = record { name = a.ledgers.commits.name; parts = a.ledgers.commits.parts }

abbrev pub ghosts-run-B-Ledger : goal.ghosts-run-B-Ledger
ghosts-run-B-Ledger g a = record { name = a.ledgers.blocks.name; parts = a.ledgers.blocks.parts }

abbrev pub ghosts-run-C-Commits : goal.ghosts-run-C-Commits
ghosts-run-C-Commits g a = record {
  whole = a.ledgers.commits.parts;
  commit = a.world.shared.book.state.commit;
  epoch = a.world.shared.book.state.snaps.epoch;
  living = length a.world.shared.book.state.snaps.living;
  opened = versions_in a.world.shared.cells.items;
  table = a.ledgers.table;
  snap_name = a.ledgers.snapshots.name;
  snap_parts = a.ledgers.snapshots.parts;
}

abbrev pub ghosts-run-B-Blocks : goal.ghosts-run-B-Blocks
ghosts-run-B-Blocks g a = record { whole = a.ledgers.blocks.parts; placed = placed_parts a.world.shared.geometry.numbers }
