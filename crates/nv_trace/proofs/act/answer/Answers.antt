use Rattle.nv_trace.proofs.ActingTraced.{answered_by}
use Rattle.nv_trace.proofs.act.answer.Goals as goal

pub returns-in-Ok : goal.returns-in-Ok
returns-in-Ok c =
    answered_by c.push_reply_by.result c.args.reply c.args.form c.args.number c.in-Ok.reply c.args.out.now.items c.push_reply_by.new.out.items
    c.in-Ok.is c.push_reply_by.ensures
