use Rattle.std.proofs.Common.{rules, ◌∙◌}
use Rattle.nv_sessions.proofs.TakenCells.{seen_no_less}
use Rattle.nv_sessions.proofs.held.put_back.Goals as goal

pub returns-clause-elsewhere : goal.returns-clause-elsewhere
returns-clause-elsewhere g c i apart = c.note_seen.ensures.elsewhere i (λ same. apart (same ∙ (search rules)))

pub returns-clause-kept : goal.returns-clause-kept
returns-clause-kept g c =
    seen_no_less g.C.Commits.opened c.args.notes.now c.note_seen.new.seen c.args.taken.ino _ c.args.taken.before _
    c.args.taken.cell.state.version c.note_seen.ensures.here c.note_seen.ensures.elsewhere c.requires.back.met c.requires.back.least
    (search rules) (search rules)
