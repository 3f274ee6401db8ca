-- The call that an actor runs by name is that of the machine's.
use Rattle.std.proofs.Common.{◌≡◌, ◌∙◌, ℕ, ◌<◌, Option, Some, None, ap, length, refl, subst, sym}
use Rattle.std.specs.Prelude.{option_map, slice_index_or}
use Rattle.nv_machine.specs.World as machine
use Rattle.nv_machine.specs.World.{actor_at}
use Rattle.nv_core.specs.CallNames.{call_name}
use Rattle.nv_core.specs.Worlds.{Shows, ShowsActor, ShowsCall, ShowsRunning, WorldState}
use Rattle.nv_core.specs.declared.call_name.CallName.{CallName}
use Rattle.nv_core.specs.declared.running.Running.{Running}
use Rattle.nv_core.specs.declared.world.Actor.{Actor}
use Rattle.nv_core.proofs.WorldSteps.{shows_none, shows_some}

module _ (w : WorldState) (m : machine.World) (shows : Shows w m) (actor : ℕ) (there : actor < length w.actors) (own d : Actor)
    (at : slice_index_or w.actors actor d ≡ own) (result : Option CallName) (none : own.running ≡ None → result ≡ None)
    (some : (running : Running) (r : machine.Running) → own.running ≡ Some running → ShowsCall own.reserved running r
    → result ≡ Some (call_name r.call)) where
  own_runs : ShowsRunning own.reserved own.running (actor_at m actor).running
  own_runs = (subst (λ (a : Actor). ShowsActor a (actor_at m actor)) at (shows.each actor d there)).running

  pub named_running : result ≡ option_map (λ r. call_name r.call) (actor_at m actor).running
  named_running = by own.running refl where
    by : (o : Option Running) → own.running ≡ o → result ≡ option_map (λ r. call_name r.call) (actor_at m actor).running
    by None e =
        let idle : (actor_at m actor).running ≡ None =
        shows_none own.reserved (actor_at m actor).running
        (subst (λ (o : Option Running). ShowsRunning own.reserved o (actor_at m actor).running) e own_runs) in
        none e ∙ sym (ap (λ (o : Option machine.Running). option_map (λ r. call_name r.call) o) idle)
    by (Some running) e =
        let call = shows_some own.reserved running (actor_at m actor).running
        (subst (λ (o : Option Running). ShowsRunning own.reserved o (actor_at m actor).running) e own_runs) in
        some running call.0 e call.2
        ∙ sym (ap (λ (o : Option machine.Running). option_map (λ r. call_name r.call) o) call.1)
