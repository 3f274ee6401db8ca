-- How far the steps of a commit have come.
use Rattle.std.specs.Prelude.{ℕ, ◌==◌, ◌&&◌, if◌then◌else◌, Bool, is_some, not, nat_lt, length}
use Rattle.nv_calls.specs.Commit.{CommitValue}
use Rattle.nv_calls.specs.declared.progress.CommitStep.{CommitStep}
use Rattle.nv_calls.specs.declared.progress.CommitStep.TheVariants.{Append, Close, Leave, Open, Publish, Retire}

-- the commit has a journal open
abbrev pub is_open : CommitValue → Bool
is_open commit = is_some commit.journal

-- the commit has yet to open its journal: it is of two inodes or more, and none is published
abbrev pub opens : CommitValue → Bool
opens commit = nat_lt 1 (length commit.plans) && (commit.published == 0) && not (is_open commit)

-- the step of a commit that comes next
abbrev pub step_of : CommitValue → CommitStep
step_of commit =
    if nat_lt commit.appended (length commit.plans) then Append
    else if opens commit then Open
    else if nat_lt commit.published (length commit.plans) then Publish
    else if is_open commit then Close
    else if nat_lt commit.retired (length commit.plans) then Retire
    else Leave
