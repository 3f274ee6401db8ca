-- The worked rows of steps, by computation.
use Rattle.std.proofs.Common.{refl}
use Rattle.std.specs.List.{AllByRecursion}
use Rattle.nv_machine.specs.StepRows.{IsRow, rows_of_changes, rows_of_cleaners, rows_of_readers, rows_on_snapshots}

pub changes_made : AllByRecursion IsRow rows_of_changes
changes_made = (refl, (refl, (refl, (refl, (refl, (refl, (refl, (refl, (refl, tt)))))))))

pub readers_made : AllByRecursion IsRow rows_of_readers
readers_made = (refl, (refl, (refl, (refl, tt))))

pub on_snapshots_made : AllByRecursion IsRow rows_on_snapshots
on_snapshots_made = (refl, (refl, (refl, (refl, (refl, tt)))))

pub cleaners_made : AllByRecursion IsRow rows_of_cleaners
cleaners_made = (refl, (refl, (refl, (refl, (refl, tt)))))
