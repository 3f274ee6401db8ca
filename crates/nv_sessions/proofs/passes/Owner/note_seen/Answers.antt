use Rattle.std.proofs.Common.{rules, sym, ◌∙◌}
use Rattle.crossbeam_utils.specs.Seq.{cell_view}
use Rattle.nv_sessions.proofs.Moves.{own_notes, takes_note}
use Rattle.nv_sessions.proofs.AfterMoves.{fuller_seer, owns_of, same_value, still_owner, told_seen}
use Rattle.nv_sessions.proofs.passes.Owner.note_seen.Goals as goal

pub split_pass-note-requires : goal.split_pass-note-requires
split_pass-note-requires g c =
    let i = c.self.invariant in
    let own = i.0 ∙ sym c.args.fresh.now.named in
    (search rules, (search rules, (own, own_notes _ _ (owns_of _ i.1))))

pub join_pass-requires : goal.join_pass-requires
join_pass-requires g c =
    let session = c.seen.invariant.0 in
    let given = c.split_pass-note.ensures.given in
    let note = given.0 ∙ c.self.invariant.0 ∙ sym session in
    let cell = session ∙ sym c.args.fresh.now.named in
    (search rules, (search rules, ((cell, note, given.2), takes_note _ _ _ _)))

pub invariant_of-self : goal.invariant_of-self
invariant_of-self g c =
    let k = c.split_pass-note.ensures.kept in
    (k.0.0 ∙ c.self.invariant.0, still_owner _ _ c.self.invariant.1 k.1)

pub invariant_of-seen : goal.invariant_of-seen
invariant_of-seen g c =
    let j = c.join_pass.ensures in
    let note = cell_view c.split_pass-note.result in
    (j.0.0 ∙ c.seen.invariant.0, fuller_seer _ note _ c.seen.invariant.1 j.1)

pub returns-clause-owner : goal.returns-clause-owner
returns-clause-owner g c = same_value _ _ _ c.self.view_is c.split_pass-note.ensures.kept.1

pub returns-clause-seen : goal.returns-clause-seen
returns-clause-seen g c =
    let before = cell_view c.self.inside.pass in
    let note = cell_view c.split_pass-note.result in
    let session = cell_view c.seen.inside.pass in
    told_seen before note session _ _ _ c.join_pass.ensures.1 c.split_pass-note.ensures.given.1
    c.seen.view_is c.self.view_is
