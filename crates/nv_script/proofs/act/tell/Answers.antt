use Rattle.nv_script.proofs.Acting.{goes, starts, stops}
use Rattle.nv_script.proofs.act.tell.Goals as goal

pub returns-in-Start : goal.returns-in-Start
returns-in-Start c =
    starts c.push_reply.result c.args.world.now c.start.new.self c.in-Start.actor c.in-Start.call c.start.result c.args.out.now.items
    c.push_reply.new.out.items c.args.command c.in-Start.is c.requires.empty c.push_reply.ensures c.start.ensures

pub returns-in-Go : goal.returns-in-Go
returns-in-Go c =
    goes c.push_reply-in-Go.result c.args.world.now c.go_on.new.self c.in-Go.actor c.in-Go.more c.go_on.result c.args.out.now.items
    c.push_reply-in-Go.new.out.items c.args.command c.in-Go.is c.requires.empty c.push_reply-in-Go.ensures c.go_on.ensures.replied
    c.go_on.ensures.goes

pub returns-in-Stop : goal.returns-in-Stop
returns-in-Stop c =
    stops c.push_reply-in-Stop.result c.args.world.now c.restart.new.self c.restart.result c.args.out.now.items
    c.push_reply-in-Stop.new.out.items c.args.command c.in-Stop.is c.requires.empty c.push_reply-in-Stop.ensures c.restart.ensures
