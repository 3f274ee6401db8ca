use Rattle.std.proofs.Common.{rules, ◌≡◌, ◌∙◌, ◌%◌, ℕ, List, Some, ap, slice_index, slice_set, subst, sym}
use Rattle.nv_sessions.specs.Fresh.{greater, only_at}
use Rattle.nv_sessions.specs.Locked.{version_at}
use Rattle.nv_sessions.specs.SeenVersions.{AreNoted}
use Rattle.nv_sessions.specs.declared.seen_versions.Noted.{Noted}
use Rattle.nv_sessions.proofs.AfterMoves.{tell_here, tell_else}
use Rattle.nv_sessions.proofs.Noting.{noted_more}
use Rattle.nv_sessions.proofs.seen_versions.SeenVersions.note.Goals as goal

-- the notes as contracts see them
pub returns-clause-here : goal.returns-clause-here
returns-clause-here g c =
    let told = c.note_seen.ensures.seen
    ∙ ap (λ (s : List ℕ). greater s (only_at c.args.owner.now.ino c.args.owner.now.version)) c.self.view_is in
    tell_here c.args.self.now _ c.args.ino _ _ _ c.args.version told c.requires.ino c.requires.version c.requires.met

pub returns-clause-elsewhere : goal.returns-clause-elsewhere
returns-clause-elsewhere g c =
    let told = c.note_seen.ensures.seen
    ∙ ap (λ (s : List ℕ). greater s (only_at c.args.owner.now.ino c.args.owner.now.version)) c.self.view_is in
    λ i apart. tell_else c.args.self.now _ c.args.ino _ _ i told c.requires.ino apart

pub invariant_of-self : goal.invariant_of-self
invariant_of-self g c =
    let at : ℕ → Noted = λ n. record { ino = n; version = c.args.version } in
    let opened = g.C.Commits.opened in
    let told = c.note_seen.ensures.seen in
    let met = ap (λ (s : List ℕ). version_at opened c.args.ino (slice_index s c.args.ino)) c.self.view_is in
    let here : version_at opened c.args.ino (slice_index c.note_seen.new.seen c.args.ino) ≡ c.args.version
    = tell_here c.self.inside.notes _ c.args.ino _ _ _ c.args.version told c.requires.ino c.requires.version (search rules) in
    subst (λ (n : ℕ). AreNoted opened c.note_seen.new.seen (slice_set c.self.inside.slots (n % 16) (Some (at n)))) (sym c.number-number.ensures)
    (noted_more opened c.self.inside.notes c.note_seen.new.seen c.self.inside.slots c.args.ino c.args.version c.self.invariant here
    (λ i apart. tell_else c.self.inside.notes _ c.args.ino _ _ i told c.requires.ino apart))
