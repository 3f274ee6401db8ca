use Rattle.std.proofs.Common.{rules, sym, ap, ◌∙◌, ◌+◌}
use Rattle.crossbeam_utils.specs.Seq.{cell_view}
use Rattle.nv_sessions.specs.declared.fresh.View.{View}
use Rattle.nv_sessions.proofs.AfterMoves.{is_new_owner, maker_makes, new_owned, next_maker}
use Rattle.nv_sessions.proofs.passes.Maker.owner.Goals as goal

pub split_pass-pass-requires : goal.split_pass-pass-requires
split_pass-pass-requires g c =
    let i = c.self.invariant in
    let own = i.0 ∙ sym c.args.fresh.now.named in
    (search rules, (search rules, (own, maker_makes _ _ i.1)))

pub invariant_of-self : goal.invariant_of-self
invariant_of-self g c =
    let k = c.split_pass-pass.ensures.kept in
    (k.0.0 ∙ c.self.invariant.0, next_maker _ _ c.self.invariant.1 k.1)

pub invariant_of-result : goal.invariant_of-result
invariant_of-result g c =
    let n = c.split_pass-pass.ensures.given in
    (n.0 ∙ c.self.invariant.0, is_new_owner (cell_view c.self.inside.pass) _ n.1)

pub returns-clause-next : goal.returns-clause-next
returns-clause-next g c =
    let made = ap (λ (v : View). v.made) c.split_pass-pass.ensures.kept.1 in
    made ∙ ap (λ n. n + 1) c.self.view_is

pub returns-clause-owner : goal.returns-clause-owner
returns-clause-owner g c =
    let before = cell_view c.self.inside.pass in
    new_owned before _ _ c.self.view_is c.split_pass-pass.ensures.given.1
