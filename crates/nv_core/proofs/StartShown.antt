-- An actor whose call has started.
use Rattle.std.proofs.Common.{◌≡◌, refl, subst}
use Rattle.nv_calls.specs.declared.call.Call.{Call}
use Rattle.nv_machine.specs.World as machine
use Rattle.nv_core.specs.Rooms.{IsIdle}
use Rattle.nv_core.specs.Shown.{shown}
use Rattle.nv_core.specs.GhostCalls.{IsShownCallOf, starting}
use Rattle.nv_core.specs.Worlds.{ShowsCall}
use Rattle.nv_core.specs.declared.reservation.Reservation.{Reservation}
use Rattle.nv_core.specs.declared.reservation.Reservation.TheVariants as reserved
use Rattle.nv_core.specs.declared.running.Running.{Running}
use Rattle.nv_core.specs.declared.shared.Shared.{Shared}

-- its hand is alone, and what is told of it is the call
pub shows_started : (h : Reservation) (shared : Shared) (running : Running) (c : Call) (r : machine.Running) → IsIdle shared h
    → shown (starting c) running ≡ r → IsShownCallOf running (starting c) → ShowsCall h running r
shows_started (reserved.Hand hand) shared running c r idle is told =
    subst (λ (x : machine.Running). ShowsCall (reserved.Hand hand) running x) is (record { shown = refl; request = told; plan = tt; place = tt })
shows_started (reserved.Ready ready) shared running c r idle is told = absurd idle
shows_started (reserved.Commit commit) shared running c r idle is told = absurd idle
