-- Entries whose commits follow one another.
use Rattle.std.specs.Prelude.{◌≡◌, ℕ, ◌+◌, ◌-◌, ◌<◌, ◌≤◌, List, length, slice_index_or}
use Rattle.nv_base.specs.declared.numbers.EntryId.{EntryId}
use Rattle.nv_entry.specs.declared.item.Entry.{Entry}
use Rattle.nv_log.specs.declared.commit_run.CommitRun.{CommitRun}

-- the id that the entry at place `n` of a commit run has
abbrev pub id_in : CommitRun → ℕ → EntryId
id_in run n = record { commit = run.first + (n - run.from); place = 0 }

-- the run lies among the entries, and each of it is the first of its commit, where the commits follow one another
abbrev pub IsCommitRun : List Entry → CommitRun → Type 0
IsCommitRun entries run = (run.to ≤ length entries)
    × ((n : ℕ) (none : Entry) → run.from ≤ n → n < run.to → (slice_index_or entries n none).id ≡ id_in run n)
