use Rattle.nv_script.specs.declared.trace.Trace.TheVariants as trace
use Rattle.nv_trace.proofs.ActingTraced.{calls, goes, runs, starts}
use Rattle.nv_trace.proofs.JsonActs.{left_report}
use Rattle.nv_trace.proofs.json_act.act.Goals as goal

pub returns-in-Start : goal.returns-in-Start
returns-in-Start c =
    starts c.answer.result c.start.result trace.Json c.args.number c.args.world.now c.start.new.world c.in-Start.actor c.in-Start.call
    c.args.out.now.items c.start.new.out.items c.answer.new.out.items c.args.command c.in-Start.is c.requires.empty c.start.ensures.step
    c.start.ensures.event c.answer.ensures

pub returns-in-Go : goal.returns-in-Go
returns-in-Go c =
    goes c.answer-in-Go.result c.go_on.result trace.Json c.args.number c.args.world.now c.go_on.new.world c.in-Go.actor c.in-Go.more
    c.args.out.now.items c.go_on.new.out.items c.answer-in-Go.new.out.items c.args.command c.in-Go.is c.requires.empty c.go_on.ensures.goes
    c.go_on.ensures.replied c.answer-in-Go.ensures

pub returns-in-Run : goal.returns-in-Run
returns-in-Run c =
    runs c.answer-in-Run.result c.finish.result trace.Json c.args.number c.args.world.now c.finish.new.world c.in-Run.actor c.args.out.now.items
    c.finish.new.out.items c.answer-in-Run.new.out.items c.args.command c.in-Run.is c.requires.empty c.finish.ensures.runs
    c.finish.ensures.replied c.answer-in-Run.ensures

pub returns-in-Do : goal.returns-in-Do
returns-in-Do c =
    calls c.answer-in-Do.result c.call.result trace.Json c.args.number c.args.world.now c.call.new.world c.in-Do.actor c.in-Do.call
    c.args.out.now.items c.call.new.out.items c.answer-in-Do.new.out.items c.args.command c.in-Do.is c.requires.empty c.call.ensures.calls
    c.call.ensures.replied c.answer-in-Do.ensures

pub push_report-requires-clause-report : goal.push_report-requires-clause-report
push_report-requires-clause-report c =
    left_report c.args.command c.in_default.not-Start c.in_default.not-Go c.in_default.not-Run c.in_default.not-Do c.in_default.not-Stop
