use Rattle.nv_script.proofs.Firsts.{EndsLine-last}
use Rattle.nv_script.proofs.feed.past_last_end.Goals as goal

pub returns-in-Some : goal.returns-in-Some
returns-in-Some c = EndsLine-last c.args.bytes.now c.in-Some.last c.in-Some.ensures.0.high c.in-Some.ensures.1
