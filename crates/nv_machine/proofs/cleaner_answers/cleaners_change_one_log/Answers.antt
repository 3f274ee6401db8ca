use Rattle.nv_machine.proofs.CleanerRuns.{cleaner_book, cleaner_commits, cleaner_others, cleaner_plain, cleaner_records}
use Rattle.nv_machine.proofs.cleaner_answers.cleaners_change_one_log.Goals as goal

pub returns-clause-commits : goal.returns-clause-commits
returns-clause-commits c g start records events actor ino granted r manner is_start runs call =
    cleaner_commits g start records events actor granted r manner ino is_start runs call

pub returns-clause-plain : goal.returns-clause-plain
returns-clause-plain c g start records events actor ino granted r manner p is_start runs call =
    cleaner_plain g start records events actor granted r manner ino is_start runs call p

pub returns-clause-records : goal.returns-clause-records
returns-clause-records c g start records events actor ino granted r manner list is_start runs call =
    cleaner_records g start records events actor granted r manner ino is_start runs call list

pub returns-clause-book : goal.returns-clause-book
returns-clause-book c g start records events actor ino granted r manner is_start runs call =
    cleaner_book g start records events actor granted r manner ino is_start runs call

pub returns-clause-others : goal.returns-clause-others
returns-clause-others c g start records events actor ino other granted r manner is_start runs call ne =
    cleaner_others g start records events actor granted r manner ino is_start runs call other ne
