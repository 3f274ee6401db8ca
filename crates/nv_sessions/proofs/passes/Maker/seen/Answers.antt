use Rattle.std.proofs.Common.{rules, sym, ap, ◌∙◌}
use Rattle.crossbeam_utils.specs.Seq.{cell_view}
use Rattle.nv_sessions.specs.declared.fresh.View.{View}
use Rattle.nv_sessions.proofs.Moves.{notes}
use Rattle.nv_sessions.proofs.AfterMoves.{is_note, none_of_maker, still_maker}
use Rattle.nv_sessions.proofs.passes.Maker.seen.Goals as goal

pub split_pass-pass-requires : goal.split_pass-pass-requires
split_pass-pass-requires g c =
    let own = c.self.invariant.0 ∙ sym c.args.fresh.now.named in
    (search rules, (search rules, (own, notes _ _)))

pub invariant_of-self : goal.invariant_of-self
invariant_of-self g c =
    let k = c.split_pass-pass.ensures.kept in
    (k.0.0 ∙ c.self.invariant.0, still_maker _ _ c.self.invariant.1 k.1)

pub invariant_of-result : goal.invariant_of-result
invariant_of-result g c =
    let n = c.split_pass-pass.ensures.given in
    (n.0 ∙ c.self.invariant.0, is_note (cell_view c.self.inside.pass) _ n.1)

pub returns-clause-next : goal.returns-clause-next
returns-clause-next g c =
    ap (λ (v : View). v.made) c.split_pass-pass.ensures.kept.1 ∙ c.self.view_is

pub returns-clause-seen : goal.returns-clause-seen
returns-clause-seen g c =
    let before = cell_view c.self.inside.pass in
    none_of_maker before _ c.self.invariant.1 c.split_pass-pass.ensures.given.1
