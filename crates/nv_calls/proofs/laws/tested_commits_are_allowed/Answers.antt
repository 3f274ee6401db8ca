use Rattle.std.proofs.Common.{refl}
use Rattle.nv_calls.proofs.laws.tested_commits_are_allowed.Goals as goal

pub returns : goal.returns
returns c cells book room seat cpu ready take closed records = record {
  entered = (seat, (book, refl));
  take = take;
  records = records;
  cpu_is = closed.inside;
  closed = closed.closed;
}
