use Rattle.std.proofs.Common.{◌≡◌, ◌+◌, ◌++◌, ◌∷◌, [], List, ℕ, length, reverse, IsSome, arith, ap, subst, sym, ◌∙◌}
use Rattle.nv_entry.specs.declared.names.BoundName.{BoundName}
use Rattle.nv_reader.specs.Walk.{Visit, next_handle}
use Rattle.nv_reader.specs.Ways.{visits_of}
use Rattle.nv_reader.proofs.Entered.{entered_from}
use Rattle.nv_reader.proofs.walk.Walk.descend.Goals as goal

pub returns-clause-ok : goal.returns-clause-ok
returns-clause-ok c =
    let i = c.self.inside in
    let first = c.in-Some.first in
    let rest = c.pop.new.self.items in
    let path : c.push_reserved.new.self.items ≡ i.way.path.items ++ first.name ∷ [] =
    c.push_reserved.ensures.items ∙ ap (λ (xs : List (List ℕ)). xs ++ first.name ∷ []) c.in_ok-reserve.ensures.items in
    let left : c.push_reserved-2.new.self.items ≡ i.way.left.items ++ rest ∷ [] =
    c.push_reserved-2.ensures.items ∙ ap (λ (xs : List (List BoundName)). xs ++ c.from_vec.result ∷ []) c.in_ok-reserve-2.ensures.items
    ∙ ap (λ (names : List BoundName). i.way.left.items ++ names ∷ []) c.from_vec.ensures in
    let names : reverse c.args.names ≡ rest ++ first ∷ [] =
    sym (c.reverse.ensures.items ∙ ap reverse c.into_vec-names.ensures) ∙ c.in-Some.ensures.items in
    let some : IsSome (next_handle (visits_of i.depth i.next i.way.path.items i.way.left.items)) =
    subst (λ (vs : List Visit). IsSome (next_handle vs)) (sym c.self.view_is) c.requires in
    rw (← c.self.view_is, path, left)
    (entered_from i.depth i.way.path.items i.way.left.items i.next first rest c.args.names some
    c.self.invariant.within
    (λ (same : length i.way.path.items + 1 ≡ i.depth). omega (arith, same, c.if-len-self.false, c.len.ensures, i.way.path.ok)) names)
