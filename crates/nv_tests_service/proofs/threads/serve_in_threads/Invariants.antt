use Rattle.std.proofs.Common.{length}
use Rattle.nv_service.specs.Names.{placed_parts}
use Rattle.nv_service.specs.Opened.{versions_in}
use Rattle.nv_tests_service.proofs.threads.serve_in_threads.Given as goal

abbrev pub ghosts-run_in_threads-C-Ledger : goal.ghosts-run_in_threads-C-Ledger
ghosts-run_in_threads-C-Ledger g a = record { name = a.ledgers.commits.name; parts = a.ledgers.commits.parts }

abbrev pub ghosts-run_in_threads-B-Ledger : goal.ghosts-run_in_threads-B-Ledger
ghosts-run_in_threads-B-Ledger g a = record { name = a.ledgers.blocks.name; parts = a.ledgers.blocks.parts }

abbrev pub ghosts-run_in_threads-C-Commits : goal.ghosts-run_in_threads-C-Commits
ghosts-run_in_threads-C-Commits g a = record {
  whole = a.ledgers.commits.parts;
  commit = a.world.shared.book.state.commit;
  epoch = a.world.shared.book.state.snaps.epoch;
  living = length a.world.shared.book.state.snaps.living;
  opened = versions_in a.world.shared.cells.items;
  table = a.ledgers.table;
  snap_name = a.ledgers.snapshots.name;
  snap_parts = a.ledgers.snapshots.parts;
}

abbrev pub ghosts-run_in_threads-B-Blocks : goal.ghosts-run_in_threads-B-Blocks
ghosts-run_in_threads-B-Blocks g a = record { whole = a.ledgers.blocks.parts; placed = placed_parts a.world.shared.geometry.numbers }
