use Rattle.std.proofs.Common.{sym}
use Rattle.nv_calls.proofs.log_pages.pages_wanted.Goals as goal

pub returns-then-takes_none-clause-wanted : goal.returns-then-takes_none-clause-wanted
returns-then-takes_none-clause-wanted g c = sym (c.takes_none.ensures c.args.hand.now c.if-takes_none.true)
