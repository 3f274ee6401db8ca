use Rattle.std.proofs.Common.{List, drop, Result}
use Rattle.nv_base.specs.declared.numbers.Handle.{Handle}
use Rattle.nv_mount_answers.specs.Nodes.{root}
use Rattle.nv_mount_beside.specs.declared.refusal.Refusal.{Refusal}
use Rattle.nv_mounted.specs.Dialogues.{IsHad}
use Rattle.nv_mounted.specs.KeptTrees.{ask_path}
use Rattle.nv_mounted.proofs.kept_tree.ask_path.Given as goal

-- what the rest of the path is answered from here is what all of it is from the root
abbrev pub invariant-loop-name : goal.invariant-loop-name
invariant-loop-name g l =
    (end : Result Handle Refusal) (new : g.row.C.Denot)
    → IsHad g.C.Core.Tells (ask_path l.handle (drop l.name-index l.path)) l.core end new
    → IsHad g.C.Core.Tells (ask_path root l.path) l.fn.core end new
