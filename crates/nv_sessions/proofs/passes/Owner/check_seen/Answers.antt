use Rattle.std.proofs.Common.{rules, sym, ap, ◌∙◌}
use Rattle.crossbeam_utils.specs.Seq.{cell_view}
use Rattle.nv_sessions.specs.declared.fresh.View.{View}
use Rattle.nv_sessions.proofs.Moves.{is_told, meets, notes}
use Rattle.nv_sessions.proofs.AfterMoves.{met_bound, met_owner, owns_of, same_value, still_owner, still_seer}
use Rattle.nv_sessions.proofs.passes.Owner.check_seen.Goals as goal

-- the session's pass is of the cell, and so are the note and the owner
pub split_pass-note-requires : goal.split_pass-note-requires
split_pass-note-requires g c =
    let own = c.seen.invariant.0 ∙ sym c.args.fresh.now.named in
    (search rules, (search rules, (own, notes _ _)))

pub join_pass-requires : goal.join_pass-requires
join_pass-requires g c =
    let mine = c.self.invariant.0 in
    let given = c.split_pass-note.ensures.given in
    let cell = mine ∙ sym c.args.fresh.now.named in
    let note = given.0 ∙ c.seen.invariant.0 ∙ sym mine in
    (search rules, (search rules, ((cell, note, given.2), is_told _ _ _ _)))

pub load_as-requires : goal.load_as-requires
load_as-requires g c =
    let i = c.self.invariant in
    let j = c.join_pass.ensures in
    let owns = ap (λ (v : View). v.is_owner) j.1 ∙ owns_of _ i.1 in
    let own = j.0.0 ∙ i.0 ∙ sym c.args.fresh.now.named in
    (search rules, (search rules, (own, meets _ _ owns)))

pub invariant_of-self : goal.invariant_of-self
invariant_of-self g c =
    let i = c.self.invariant in
    let j = c.join_pass.ensures in
    let l = c.load_as.ensures in
    let note = cell_view c.split_pass-note.result in
    (l.cell.0 ∙ j.0.0 ∙ i.0, still_owner _ _ i.1 (met_owner _ note _ _ i.1 j.1 l.rule.0))

pub invariant_of-seen : goal.invariant_of-seen
invariant_of-seen g c =
    let k = c.split_pass-note.ensures.kept in
    (k.0.0 ∙ c.seen.invariant.0, still_seer _ _ c.seen.invariant.1 k.1)

pub returns-clause-owner : goal.returns-clause-owner
returns-clause-owner g c =
    let note = cell_view c.split_pass-note.result in
    let told = c.join_pass.ensures.1 in
    let same = met_owner _ note _ _ c.self.invariant.1 told c.load_as.ensures.rule.0 in
    same_value _ _ _ c.self.view_is same

pub returns-clause-seen : goal.returns-clause-seen
returns-clause-seen g c =
    ap (λ (v : View). v.seen) c.split_pass-note.ensures.kept.1 ∙ c.seen.view_is

pub returns-clause-met : goal.returns-clause-met
returns-clause-met g c =
    let before = cell_view c.self.inside.pass in
    let note = cell_view c.split_pass-note.result in
    let session = cell_view c.seen.inside.pass in
    met_bound before note _ session _ _ c.join_pass.ensures.1 c.split_pass-note.ensures.given.1
    c.seen.view_is c.self.view_is c.load_as.ensures.rule.1
