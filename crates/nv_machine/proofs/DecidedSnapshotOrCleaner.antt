-- A call on snapshots decides nothing, and goes on with such steps or comes to the last ones.
use Rattle.std.proofs.Common.{Bool, List, Option, [], ap, false, not, refl, sym, true, ℕ, ◌+◌, ◌∙◌, ◌≡◌}
use Rattle.std.proofs.lemmas.Bool.{false≢true}
use Rattle.nv_calls.specs.declared.answer.Answer.{Answer}
use Rattle.nv_calls.specs.declared.call.Call.{Call}
use Rattle.nv_machine.specs.EndsDecided.{decides}
use Rattle.nv_machine.specs.Locks.{commits_at}
use Rattle.nv_machine.specs.Step.{kind_turn, step}
use Rattle.nv_machine.specs.World.{Append, ReturnNumber, Close, Ending, Ends, Give, HandState, Leave, Moves, Next, Open, BoundAnew, Publish, Retire, Running, Shared, SnapshotOrCleaner, Turn, Unlock, Waits}
use Rattle.nv_machine.proofs.NextSteps.{Untold}
use Rattle.nv_machine.proofs.SnapshotOrCleanerTurns.{done_keeps, fair_for, is_fair, is_quiet, snapshot_any}
use Rattle.nv_machine.proofs.StepWays.{After, Going, Rests}
use Rattle.nv_machine.proofs.StepWalk.{walk_of}
use Rattle.nv_machine.proofs.SnapshotOrCleanerCalls.{OnFrom, last_from, snapshot_from}

-- of a call on snapshots nothing is decided, and it stays at such a step or comes to the last ones
pub record IsSilent (r : Running) (d : List Answer) : Type 0 where
  pub none : d ≡ []
  pub quiet : is_quiet r.next ≡ true
  pub fair : is_fair r.next r.ending ≡ true

-- ---- a turn of a call on snapshots

abbrev pub OnSilent : Call → List Answer → Turn → Type 0
OnSilent c d (Moves s h q) = IsSilent q d × (q.call ≡ c)
OnSilent c d Waits = Unit {0}
OnSilent c d (Ends result s h) = Unit {0}

abbrev QuietGoes : Going
QuietGoes s h q = (is_quiet q.next ≡ true) × (is_fair q.next q.ending ≡ true)

abbrev pub OnQuiet : Turn → Type 0
OnQuiet t = After QuietGoes Untold t

pub silent_turn : (r : Running) (d : List Answer) (t : Turn) → d ≡ [] → OnQuiet t → OnFrom r t → OnSilent r.call d t
silent_turn r d (Moves s h q) none quiet from = (record { none = none; quiet = quiet.0; fair = quiet.1 }, from.call)
silent_turn r d Waits none quiet from = tt
silent_turn r d (Ends result s h) none quiet from = tt

rests_quiet : {home : Option ℕ} {s : Shared} {h : HandState} {r : Running} {e : Ending} → Rests QuietGoes Untold home s h r e
rests_quiet = record {
  give = λ cpu some. (refl, refl);
  back = λ ino none some. (refl, refl);
  lasts = λ none gone. record { told = λ full. tt; picks = λ d left drains some. (refl, refl) };
}

unlock_fair : (place : ℕ) (e : Ending) → is_fair (Unlock place) e ≡ true → e ≡ BoundAnew → ⊥
unlock_fair place e fair over = false≢true (sym (ap (is_fair (Unlock place)) over) ∙ fair)

pub quiet_kind : (k : Next) (block a : ℕ) (granted : Bool) (s : Shared) (h : HandState) (r : Running) → is_quiet k ≡ true
    → is_fair k r.ending ≡ true → OnQuiet (kind_turn k block a granted s h r) × OnFrom r (kind_turn k block a granted s h r)
quiet_kind (SnapshotOrCleaner step) block a granted s h r quiet fair = (
  snapshot_any OnQuiet tt (λ result t x. tt) (λ t x q e fair. (e, fair)) step a granted s h r,
  snapshot_from step a granted s h r,
)
quiet_kind (Unlock place) block a granted s h r quiet fair =
    let not = unlock_fair place r.ending fair in (
      walk_of QuietGoes Untold block a s h r (Unlock place) granted (
        λ more. (refl, fair_for (Unlock (place + 1)) r.ending not),
        λ past. record {
          again = λ n over some. absurd (not over);
          contended = λ over none. tt;
          rests = λ other. rests_quiet;
        },
      ) refl,
      last_from (Unlock place) block a granted s h r refl,
    )
quiet_kind (Give cpu) block a granted s h r quiet fair =
    (walk_of QuietGoes Untold block a s h r (Give cpu) granted rests_quiet refl, last_from (Give cpu) block a granted s h r refl)
quiet_kind ReturnNumber block a granted s h r quiet fair = (
  walk_of QuietGoes Untold block a s h r ReturnNumber granted (record { told = λ full. tt; picks = λ d left drains some. (refl, refl) }) refl,
  last_from ReturnNumber block a granted s h r refl,
)
quiet_kind other block a granted s h r quiet fair = absurd (false≢true quiet)

pub quiet_out : (k : Next) → is_quiet k ≡ true → commits_at k ≡ false
quiet_out (Append place) e = absurd (false≢true e)
quiet_out Open e = absurd (false≢true e)
quiet_out (Publish place) e = absurd (false≢true e)
quiet_out Close e = absurd (false≢true e)
quiet_out (Retire place) e = absurd (false≢true e)
quiet_out Leave e = absurd (false≢true e)
quiet_out other e = refl

-- it decides nothing
pub decides_none : (k : Next) (block : ℕ) (s : Shared) (r : Running) (t : Turn) → is_quiet k ≡ true → decides k block s r t ≡ false
decides_none (SnapshotOrCleaner step) block s r t e = ap not (done_keeps step t)
decides_none (Unlock place) block s r t e = refl
decides_none (Give cpu) block s r t e = refl
decides_none ReturnNumber block s r t e = refl
decides_none other block s r t e = absurd (false≢true e)
