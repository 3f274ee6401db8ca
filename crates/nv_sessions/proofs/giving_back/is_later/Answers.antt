use Rattle.nv_sessions.proofs.Underway.{later_of}
use Rattle.nv_sessions.proofs.giving_back.is_later.Goals as goal

pub returns-in-Blocks : goal.returns-in-Blocks
returns-in-Blocks c = later_of c.args.left c.in-Blocks.home c.args.cpu c.in-Blocks.is
