use Rattle.std.proofs.Common.{List, drop, Result}
use Rattle.nv_mount_answers.specs.declared.kept.Kept.{Kept}
use Rattle.nv_mount_beside.specs.declared.refusal.Refusal.{Refusal}
use Rattle.nv_mounted.specs.Dialogues.{IsHad, ask_each}
use Rattle.nv_mounted.specs.KeptTrees.{ask_kept}
use Rattle.nv_mounted.proofs.Asked.{ask_left}
use Rattle.nv_mounted.proofs.kept_tree.ask_all_kept.Given as goal

-- what the rest is answered from here is what all is answered from the beginning
abbrev pub invariant-loop-node : goal.invariant-loop-node
invariant-loop-node g l =
    (end : Result (List Kept) Refusal) (new : g.row.C.Denot)
    → IsHad g.C.Core.Tells (ask_left (ask_kept l.nodes) l.all.items (drop l.node-index l.tree)) l.core
    end new
    → IsHad g.C.Core.Tells (ask_each (ask_kept l.nodes) l.tree) l.fn.core end new
