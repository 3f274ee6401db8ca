use Rattle.nv_c.proofs.Paths.{IsOnTheWay}
use Rattle.nv_c.proofs.shown.text_of.Given as goal

abbrev pub invariant-loop-name : goal.invariant-loop-name
invariant-loop-name l =
    IsOnTheWay l.names l.name-index l.text.items
