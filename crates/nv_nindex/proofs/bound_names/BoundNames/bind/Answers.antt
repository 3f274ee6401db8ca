use Rattle.std.proofs.Common.{◌≡◌, ◌∙◌, ℕ, Some, ap, arith, is_some, map, subst, sym}
use Rattle.std.proofs.lemmas.Bool.{false≢true}
use Rattle.std.specs.Option.{IsSome, option_map}
use Rattle.std.specs.Global.{Vec}
use Rattle.nv_nindex.specs.NameIndex.{Names, Rebinds, binding_of, shown}
use Rattle.nv_nindex.proofs.Kept.{is_reserved, not_both, rebound, unreserved}
use Rattle.nv_nindex.proofs.Shown.{lookup_shown, rebinds}
use Rattle.nv_nindex.proofs.bound_names.BoundNames.bind.Goals as goal
use Rattle.nv_nindex.proofs.bound_names.BoundNames.bind.Goals.{In-Some}

-- the reserved name is bound
reserved : (c : goal.After-unwrap-none) → option_map (λ (key : Vec ℕ). key.items) c.self.inside.reserved ≡ Some c.args.name.now
reserved c = ap (λ (v : Names). v.reserved) c.self.view_is ∙ c.is_reserved.ensures.value.0 c.if-is_reserved.true

bound : (c : goal.After-unwrap-none) → let es = c.self.inside.bindings.entries in
    Rebinds (map shown es) (map shown c.insert.new.self.entries) c.args.name.now (Some c.args.to)
bound c =
    let es = c.self.inside.bindings.entries in
    let key = c.unwrap-key.result in
    let key_is : option_map (λ (key : Vec ℕ). key.items) (Some key) ≡ Some c.args.name.now =
    ap (option_map (λ (key : Vec ℕ). key.items)) (sym c.unwrap-key.ensures ∙ c.take.ensures.value) ∙ reserved c in
    let same : key.items ≡ c.args.name.now = cc in
    let updates = rw c.unwrap-none.ensures at c.insert.ensures.updates in
    subst (λ name. Rebinds (map shown es) (map shown c.insert.new.self.entries) name (Some c.args.to)) same
    (rebinds key.items es c.insert.new.self.entries (Some c.args.to) updates.1 updates.3)

pub invariant_of-self : goal.invariant_of-self
invariant_of-self c =
    let name = c.args.name.now in
    rw c.take.ensures.after (rebound _ _ name (Some c.args.to) 0 _ (unreserved _ _ 0 c.self.invariant) (omega arith) (bound c)
    (λ some. c.self.invariant.reserved_lawful name (reserved c)) (λ some h. cc))

pub returns-then-is_reserved-clause-names : goal.returns-then-is_reserved-clause-names
returns-then-is_reserved-clause-names c = rw (← c.self.view_is) (bound c)

-- a bound name is bound anew in its place
here : (c : In-Some) → IsSome (binding_of c.args.name.now (map shown c.self.inside.bindings.entries))
here c = ap is_some (sym (lookup_shown c.args.name.now c.self.inside.bindings.entries) ∙ sym c.in-Some.ensures.value)

anew : (c : In-Some) → Rebinds (map shown c.self.inside.bindings.entries)
    (map shown (c.get_mut.follows.lender c.args.to).entries) c.args.name.now (Some c.args.to)
anew c =
    let updates = (c.get_mut.follows.holds c.args.to).3 (ap is_some (sym c.in-Some.ensures.value)) in
    rebinds c.args.name.now c.self.inside.bindings.entries _ (Some c.args.to) updates.1 updates.3

pub invariant_of-self-2 : goal.invariant_of-self-2
invariant_of-self-2 c =
    let name = c.args.name.now in
    let at = (goal.at.invariant_of-self-2 c).In-Some in
    let written = c.get_mut.follows.holds c.args.to in
    rebound _ _ name (Some c.args.to) _ _ c.self.invariant (omega (arith, written.6)) (anew at)
    (λ some. c.self.invariant.lawful name (here at))
    (λ some reserved. not_both name _ (c.self.invariant.unbound name reserved) (here at))

pub returns-clause-names : goal.returns-clause-names
returns-clause-names c = rw (← c.self.view_is) (anew (goal.at.returns-clause-names c).In-Some)

-- a name that is not reserved is bound
pub unreachable-requires : goal.unreachable-requires
unreachable-requires c =
    let name = c.args.name.now in
    let absent = sym (lookup_shown name c.self.inside.bindings.entries) ∙ sym c.in_default.ensures.value in
    let held = is_reserved _ name (rw (← c.self.view_is) at c.requires) absent in
    false≢true (sym c.if-is_reserved.false ∙ c.is_reserved.ensures.value.1 (sym (ap (λ (v : Names). v.reserved) c.self.view_is) ∙ held))
