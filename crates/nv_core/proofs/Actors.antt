-- An actor after a turn of its call.
use Rattle.std.proofs.Common.{◌≡◌, ◌∙◌, ℕ, Option, Some, ap, subst, sym}
use Rattle.std.specs.Prelude.{unwrap_or}
use Rattle.nv_machine.specs.World as machine
use Rattle.nv_core.specs.Turns.{HasTurned, IsTurn, replied, still}
use Rattle.nv_core.specs.Worlds.{ShowsCall}
use Rattle.nv_core.specs.declared.event.Reply.{Reply}
use Rattle.nv_core.specs.declared.reservation.Reservation.{Reservation}
use Rattle.nv_core.specs.declared.running.Running.{Running}
use Rattle.nv_core.specs.declared.shared.Shared.{Shared}
use Rattle.nv_core.specs.declared.turn.Turn.{Turn}
use Rattle.nv_core.specs.declared.turn.Turn.TheVariants as turn
use Rattle.nv_core.specs.declared.world.Actor.{Actor}

pub same_some : (a b : Running) → Some a ≡ Some b → a ≡ b
same_some a b e = ap (λ (o : Option Running). unwrap_or o a) e

pub has_turned : (actor : ℕ) (old : Shared) (before : Reservation) (running call : Running) (r : machine.Running) (t : Turn) (answer : Reply)
    (new : Shared) (h : Reservation) (after : Running) (state : Actor) → running ≡ call → ShowsCall before running r
    → ((x : machine.Running) → ShowsCall before call x → IsTurn actor old before x t new h after)
    → (t ≡ turn.Waits → (new ≡ old) × (h ≡ before) × (after ≡ call)) → state.reserved ≡ h → state.running ≡ still t after → answer ≡ replied t after.answer
    → HasTurned actor old before running r answer new state
has_turned actor old before running call r t answer new h after state same shows by waits hold_is left told = record {
  result = t;
  after = after;
  is = subst (λ (x : Reservation). IsTurn actor old before r t new x after) (sym hold_is)
      (by r (subst (λ (x : Running). ShowsCall before x r) same shows));
  waits = λ e. let w = waits e in (w.0, hold_is ∙ w.1, w.2 ∙ sym same);
  still_is = left;
  reply_is = told;
}
