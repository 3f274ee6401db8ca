use Rattle.std.proofs.Common.{rules, sym, ◌∙◌}
use Rattle.crossbeam_utils.specs.Seq.{cell_view}
use Rattle.nv_sessions.proofs.Moves.{notes, takes_note}
use Rattle.nv_sessions.proofs.AfterMoves.{first_seen, fuller_seer, joined_seen, second_seen}
use Rattle.nv_sessions.proofs.passes.Notes.join.Goals as goal

pub split_pass-note-requires : goal.split_pass-note-requires
split_pass-note-requires g c =
    let own = c.other.invariant.0 ∙ sym c.args.fresh.now.named in
    (search rules, (search rules, (own, notes _ _)))

pub join_pass-requires : goal.join_pass-requires
join_pass-requires g c =
    let mine = c.self.invariant.0 in
    let given = c.split_pass-note.ensures.given in
    let note = given.0 ∙ c.other.invariant.0 ∙ sym mine in
    let cell = mine ∙ sym c.args.fresh.now.named in
    (search rules, (search rules, ((cell, note, given.2), takes_note _ _ _ _)))

pub invariant_of-self : goal.invariant_of-self
invariant_of-self g c =
    let j = c.join_pass.ensures in
    let note = cell_view c.split_pass-note.result in
    (j.0.0 ∙ c.self.invariant.0, fuller_seer _ note _ c.self.invariant.1 j.1)

pub returns-clause-mine : goal.returns-clause-mine
returns-clause-mine g c =
    let before = cell_view c.self.inside.pass in
    let note = cell_view c.split_pass-note.result in
    let other = cell_view c.other.inside.pass in
    let seen = joined_seen before note other _ _ _ c.join_pass.ensures.1
    c.split_pass-note.ensures.given.1 c.self.view_is c.other.view_is in
    λ i. first_seen _ _ _ i seen

pub returns-clause-other : goal.returns-clause-other
returns-clause-other g c =
    let before = cell_view c.self.inside.pass in
    let note = cell_view c.split_pass-note.result in
    let other = cell_view c.other.inside.pass in
    let seen = joined_seen before note other _ _ _ c.join_pass.ensures.1
    c.split_pass-note.ensures.given.1 c.self.view_is c.other.view_is in
    λ i. second_seen _ _ _ i seen
