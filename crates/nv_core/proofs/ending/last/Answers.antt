use Rattle.std.proofs.Common.{refl}
use Rattle.nv_core.specs.Shown.{shown}
use Rattle.nv_core.proofs.LastTurns.{last_ends}
use Rattle.nv_core.proofs.ending.last.Goals as goal

pub returns-in-Answers : goal.returns-in-Answers
returns-in-Answers c = record {
  turn = λ told s h owes. last_ends c.args.running.now.ending (shown told c.args.running.now) s h c.result_of.result c.in-Answers.is
      (c.result_of.ensures told owes);
  request = record { request = refl; owed = refl };
  slots = λ plain. refl;
  goes = λ waits. cc;
  rooms = λ s hand call sized drains. sized;
}
