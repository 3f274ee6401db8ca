use Rattle.std.proofs.Common.{◌≡◌, map, Ok}
use Rattle.nv_work.proofs.crew.Back.leave.Given as goal

abbrev pub invariant-loop-one : goal.invariant-loop-one
invariant-loop-one g l = record {
  seats : map (λ s. s.number) l.sessions.items ≡ map (λ one. one.session.number) l.yielded;
  texts : map (λ one. one.text) l.yielded ≡ map Ok l.texts.items;
}
