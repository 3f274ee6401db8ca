use Rattle.std.proofs.Common.{◌≡◌, ◌++◌, drop, take}
use Rattle.std.specs.List.{flat_map}
use Rattle.nv_core.specs.Audited.{killed_by_plan, killed_by_plans}
use Rattle.nv_core.specs.Shown.{slots_in}
use Rattle.nv_core.proofs.audit.push_killed.Given as goal

abbrev pub invariant-loop-j : goal.invariant-loop-j
invariant-loop-j l =
    l.parts.items ++ flat_map (killed_by_plan (slots_in l.slots)) (drop l.j (take l.commit.published l.commit.plans))
    ≡ l.initial.parts.items ++ killed_by_plans (slots_in l.slots) l.commit
