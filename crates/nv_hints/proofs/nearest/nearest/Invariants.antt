use Rattle.std.proofs.Common.{map, take}
use Rattle.std.specs.Option.{option_copied}
use Rattle.nv_hints.specs.Nearest.{IsNearest}
use Rattle.nv_hints.proofs.Nearer.{IsFewest}
use Rattle.nv_hints.proofs.nearest.nearest.Given as goal

abbrev pub invariant-loop-name : goal.invariant-loop-name
invariant-loop-name l = record {
  nearest : IsNearest l.word (map (λ name. name.now) (take l.name-index l.names)) (option_copied l.found);
  fewest : IsFewest l.word (option_copied l.found) l.fewest;
}
