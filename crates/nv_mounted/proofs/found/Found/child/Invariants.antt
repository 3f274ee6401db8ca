use Rattle.std.proofs.Common.{◌≡◌, drop, find}
use Rattle.nv_base.specs.Names.{same_name}
use Rattle.nv_mounted.specs.Snapshots.{Child, child_named, children_from, number_of_child, plain}
use Rattle.nv_mounted.proofs.found.Found.child.Given as goal

-- what is left answers for all
abbrev pub invariant-loop-at : goal.invariant-loop-at
invariant-loop-at l =
    let left = children_from l.depth l.at (drop l.at l.self.tree.now) in
    number_of_child l.self.snapshot (find (λ (child : Child). same_name child.name l.name) left)
    ≡ child_named (plain l.self) l.name
