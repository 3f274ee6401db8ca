use Rattle.std.proofs.Common.{◌≡◌, drop}
use Rattle.nv_mounted.specs.Snapshots.{children, children_from, named_children, plain}
use Rattle.nv_mounted.proofs.Listed.{behind}
use Rattle.nv_mounted.proofs.found.Found.names.Given as goal

-- the names so far and those that are left are all
abbrev pub invariant-loop-at : goal.invariant-loop-at
invariant-loop-at l =
    let left = children_from l.depth l.at (drop l.at l.self.tree.now) in
    behind l.names.items (named_children l.self.snapshot left)
    ≡ named_children l.self.snapshot (children (plain l.self))
