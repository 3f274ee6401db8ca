use Rattle.std.proofs.Common.{rules, sym, ◌∙◌}
use Rattle.nv_sessions.proofs.Moves.{raises}
use Rattle.nv_sessions.proofs.AfterMoves.{owns_of, risen_owner, risen_value}
use Rattle.nv_sessions.proofs.passes.Owner.raise.Goals as goal

pub load_as-requires : goal.load_as-requires
load_as-requires g c =
    let i = c.self.invariant in
    let own = i.0 ∙ sym c.args.fresh.now.named in
    (search rules, (search rules, (own, raises _ _ (owns_of _ i.1))))

pub invariant_of-self : goal.invariant_of-self
invariant_of-self g c =
    let i = c.self.invariant in
    let l = c.load_as.ensures in
    (l.cell.0 ∙ i.0, risen_owner _ _ i.1 l.rule)

pub returns : goal.returns
returns g c = risen_value _ _ _ c.self.view_is c.load_as.ensures.rule
