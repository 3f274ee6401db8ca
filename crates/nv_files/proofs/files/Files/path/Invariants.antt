use Rattle.nv_files.proofs.Led.{IsOnTheWay}
use Rattle.nv_files.proofs.files.Files.path.Given as goal

abbrev pub invariant-loop-name : goal.invariant-loop-name
invariant-loop-name l =
    IsOnTheWay l.fn.self l.self l.names l.name-index l.at
