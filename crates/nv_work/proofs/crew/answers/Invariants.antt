use Rattle.std.proofs.Common.{◌≡◌, map}
use Rattle.nv_work.specs.Threads.{IsThreadText}
use Rattle.nv_work.proofs.crew.answers.Given as goal

abbrev pub invariant-loop-line : goal.invariant-loop-line
invariant-loop-line g l = record {
  text : IsThreadText l.service.geometry.numbers.actors (l.thread, map (λ p. p.1) l.yielded) l.text.items;
  seat : l.session.number ≡ l.fn.session.number;
}
