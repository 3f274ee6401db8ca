-- A world that was made is new.
use Rattle.std.proofs.Common.{◌≡◌, Option, Some, Result, Ok, inl, refl, subst}
use Rattle.std_alloc.specs.declared.boxed.Box.{Box}
use Rattle.nv_base.specs.declared.fault.Fault.{Fault}
use Rattle.nv_base.specs.declared.geometry.GeometryNumbers.{GeometryNumbers}
use Rattle.nv_c.specs.Worlds.{IsMadeAs, IsNew}
use Rattle.nv_c.specs.declared.held.Held.{Held}

pub is_new : {A : Type 0} (numbers : GeometryNumbers) (r : Result (Box Held A) Fault) (box : Box Held A) (old new : Option Held) → r ≡ Ok box
    → new ≡ Some box.value → IsMadeAs numbers r → IsNew numbers 0 old new
is_new {A} numbers r box old new is filled made =
    let m = subst (λ (o : Result (Box Held A) Fault). IsMadeAs numbers o) is made in inl (box.value, filled, refl, m.0, m.1, m.2, m.3)
