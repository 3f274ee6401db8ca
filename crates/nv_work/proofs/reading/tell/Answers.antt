use Rattle.std.proofs.Common.{Bool, true, false, Ok, ap, sym}
use Rattle.std.specs.Prelude.{◌≢◌, codes}
use Rattle.std.proofs.lemmas.Bool.{false≢true}
use Rattle.std.proofs.lemmas.Result.{err_from_is_err_and}
use Rattle.nv_script.specs.Grammar.{Parsed, command_of}
use Rattle.nv_script.specs.Words.{words_of}
use Rattle.nv_script.specs.declared.command.Command.{Command}
use Rattle.nv_script.specs.declared.command.Command.TheVariants as command
use Rattle.nv_work.proofs.Reported.{shown_run}
use Rattle.nv_work.proofs.Told.{sends_both, tells_all, tells_front, tells_more}
use Rattle.nv_work.proofs.reading.tell.Goals as goal

-- a line stops the machine
abbrev is_stop : Parsed Command → Bool
is_stop (Ok command.Stop) = true
is_stop _ = false

tree_goes_on : command_of (words_of (codes "tree")) ≢ Ok command.Stop
tree_goes_on e = false≢true (ap is_stop e)

pub report-requires-clause-goes_on : goal.report-requires-clause-goes_on
report-requires-clause-goes_on g c = tree_goes_on

pub returns-in_err-report-clause-told : goal.returns-in_err-report-clause-told
returns-in_err-report-clause-told g c =
    let p = err_from_is_err_and c.from_residual-in_err-report.result c.from_residual-in_err-report.ensures.1 in
    let run = shown_run _ _ c.in-Some.is c.consistent.ensures in
    rw (p.1, p.2)
    (tells_more _ _ _ _ c.in_ok-add_texts.ensures.told c.in_err-report.field-0.0 (c.in_err-report.ensures.told run.0 run.1 run.2))

pub returns-in_err-report-2-clause-told : goal.returns-in_err-report-2-clause-told
returns-in_err-report-2-clause-told g c =
    let p = err_from_is_err_and c.from_residual-in_err-report-2.result c.from_residual-in_err-report-2.ensures.1 in
    let run = shown_run _ _ c.in-Some.is c.consistent.ensures in
    let tree = c.in_ok-report.ensures.told run.0 run.1 run.2 in
    let both = sends_both _ _ _ _ _ c.in_ok-add_texts.ensures.told tree.5 in
    rw (p.1, p.2) (tells_front _ _ _ tree.1 c.in_err-report-2.field-0.0
    (tells_more _ _ _ _ both c.in_err-report-2.field-0.0 (c.in_err-report-2.ensures.told tree.0 tree.3 tree.4)))

pub returns-clause-told : goal.returns-clause-told
returns-clause-told g c =
    let run = shown_run _ _ c.in-Some.is c.consistent.ensures in
    let tree = c.in_ok-report.ensures.told run.0 run.1 run.2 in
    let snaps = c.in_ok-report-2.ensures.told tree.0 tree.3 tree.4 in
    tells_all _ _ _ _ _ _ c.in_ok-add_texts.ensures.told _ run.0 tree.0 snaps.0
    (rw (sym c.add_texts.ensures.world) run.1) run.2 tree.1 snaps.1 tree.2 snaps.2 tree.5 snaps.5
    c.report-3.result c.report-3.new.player.world (c.report-3.ensures.told snaps.0 snaps.3 snaps.4)
