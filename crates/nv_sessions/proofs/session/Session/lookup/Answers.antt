use Rattle.std.proofs.Common.{◌≡◌, ℕ, [], subst, refl}
use Rattle.std.specs.Prelude.{IfOk}
use Rattle.nv_calls.specs.declared.call.Call.TheVariants as call
use Rattle.nv_sessions.specs.Sessions.{IsFoundAt}
use Rattle.nv_sessions.specs.Refusing.{view_faults}
use Rattle.nv_sessions.proofs.Found.{found_at}
use Rattle.nv_sessions.proofs.OtherRefusals.{exit_is, plain_view, lookup_within}
use Rattle.nv_sessions.proofs.ViewRuns.{held_plain, not_held}
use Rattle.nv_sessions.specs.ViewGuards.{place_of}
use Rattle.nv_sessions.proofs.session.Session.lookup.Goals as goal

pub returns-clause-ok : goal.returns-clause-ok
returns-clause-ok g c =
    let own : (place_of c.in_ok-guard.guard).ino ≡ c.args.dir.ino = c.in_ok-guard.ensures.ok in
    let same : c.part.result.now.state.version ≡ (place_of c.in_ok-guard.guard).version = c.part.ensures.version in
    c.see.ensures.ok _ _ own
    (subst (λ (v : ℕ). IfOk c.lookup_on-found.result (IsFoundAt v (call.Lookup c.args.dir c.args.name))) same
    (found_at _ _ _ _ _ (c.lookup_on-found.ensures (λ n. []))))

pub returns-clause-err : goal.returns-clause-err
returns-clause-err g c =
    plain_view (view_faults (call.Lookup c.args.dir c.args.name)) c.see.result c.lookup_on-found.result _ _
    (lookup_within (λ n. []) c.args.dir.ino c.part.result.now c.args.dir c.args.name) c.see.ensures.refused (c.lookup_on-found.ensures (λ n. []))

pub returns-clause-run : goal.returns-clause-run
returns-clause-run g c =
    held_plain c.args.service.now.geometry.numbers c.args.self.now.number c.args.dir.ino (call.Lookup c.args.dir c.args.name) refl refl c.part.result.now
    c.in_ok-guard.ensures.slot c.see.result c.lookup_on-found.result c.see.ensures.told c.lookup_on-found.ensures

pub returns-in_err-guard-clause-run : goal.returns-in_err-guard-clause-run
returns-in_err-guard-clause-run g c =
    not_held c.args.service.now.geometry.numbers c.args.self.now.number c.args.dir.ino (call.Lookup c.args.dir c.args.name) refl refl c.from_residual.result _
    (exit_is c.from_residual.result _ c.from_residual.ensures.1) c.in_err-guard.ensures.err c.in_err-guard.ensures.stale
    c.in_err-guard.ensures.misplaced
