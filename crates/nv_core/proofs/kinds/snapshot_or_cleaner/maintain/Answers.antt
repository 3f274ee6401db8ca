use Rattle.nv_core.proofs.kinds.snapshot_or_cleaner.maintain.Goals as goal

pub returns-in_default-clause-rest : goal.returns-in_default-clause-rest
returns-in_default-clause-rest c = rw c.on_book.ensures.held c.on_book.ensures.rest

pub returns-in-SnapshotOrCleaner-Release-clause-rest : goal.returns-in-SnapshotOrCleaner-Release-clause-rest
returns-in-SnapshotOrCleaner-Release-clause-rest c = c.release.ensures.rest c.args.actor
