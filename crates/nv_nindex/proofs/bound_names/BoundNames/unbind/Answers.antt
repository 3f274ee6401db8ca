use Rattle.std.proofs.Common.{None, map}
use Rattle.nv_nindex.specs.NameIndex.{Rebinds, shown}
use Rattle.nv_nindex.proofs.Kept.{rebound}
use Rattle.nv_nindex.proofs.Shown.{rebinds}
use Rattle.nv_nindex.proofs.bound_names.BoundNames.unbind.Goals as goal

taken_out : (c : goal.After-swap_remove)
    → Rebinds (map shown c.self.inside.bindings.entries) (map shown c.swap_remove.new.self.entries) c.args.name.now None
taken_out c =
    let updates = c.swap_remove.ensures.updates in
    rebinds c.args.name.now c.self.inside.bindings.entries _ None updates.1 updates.3

pub invariant_of-self : goal.invariant_of-self
invariant_of-self c =
    rebound _ _ c.args.name.now None _ _ c.self.invariant c.swap_remove.ensures.room.0 (taken_out c) (λ some. cc) (λ some. cc)

pub returns-clause-names : goal.returns-clause-names
returns-clause-names c = rw (← c.self.view_is) (taken_out c)
