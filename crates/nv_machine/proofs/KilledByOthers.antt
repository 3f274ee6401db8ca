-- Of a slot that an actor has locked no other has killed parts.
use Rattle.std.proofs.Common.{◌≡◌, ◌≢◌, ℕ, ◌==◌, ◌∙◌, Bool, true, false, [], Option, Some, None, ap, refl, sym}
use Rattle.std.proofs.lemmas.Bool.{eqb-false, eqb-true, false≢true}
use Rattle.std.proofs.lemmas.Option.{same_Some}
use Rattle.nv_alloc.specs.Numbers.{has}
use Rattle.nv_machine.specs.Held.{killed_by_actor, killed_by_call, killed_in, killed_slots}
use Rattle.nv_machine.specs.Locks.{AreLocks, held_at, held_by}
use Rattle.nv_machine.specs.Reads.{is_written, written_slots}
use Rattle.nv_machine.specs.World.{Close, Next, Publish, Retire, Running, World, actor_at, owner_at}
use Rattle.nv_machine.proofs.Lists.{has_filter, has_later}
use Rattle.nv_machine.proofs.LocksHeld.{owner_is}
use Rattle.nv_machine.proofs.LogTails.{has_front}
use Rattle.nv_machine.proofs.PartsFor.{none_of, none_there}

killed_held : (k : Next) (r : Running) (ino : ℕ) → has (killed_slots k (written_slots r)) ino ≡ true
    → has (held_at k r.slots) ino ≡ true
killed_held (Publish place) r ino h = has_filter (is_written r.plan) r.slots ino (has_front place (written_slots r) ino h)
killed_held Close r ino h = has_filter (is_written r.plan) r.slots ino h
killed_held (Retire place) r ino h = has_filter (is_written r.plan) r.slots ino (has_later place (written_slots r) ino h)
killed_held other r ino h = absurd (false≢true h)

-- so where its own has none there is none
pub none_locked : (w : World) (a ino : ℕ) → AreLocks w → owner_at w.shared ino ≡ Some a → killed_by_actor ino (actor_at w a) ≡ []
    → killed_in w ino ≡ []
none_locked w a ino locks owned own = none_of (killed_by_actor ino) w.actors (λ b. each b (b == a) refl) where
  call : (b : ℕ) (running : Option Running) → (actor_at w b).running ≡ running → b ≢ a
      → killed_by_call running (actor_at w b).hand ino ≡ []
  call b None is ne = refl
  call b (Some r) is ne = none_there (killed_slots r.next (written_slots r)) (actor_at w b).hand.killed ino
      (go (has (killed_slots r.next (written_slots r)) ino) refl) where
        go : (c : Bool) → has (killed_slots r.next (written_slots r)) ino ≡ c → c ≡ false
        go false e = refl
        go true e =
            let held = killed_held r.next r ino e in
            let holds = (locks.each b).owners ino ∙ ap (λ (o : Option Running). has (held_by o) ino) is ∙ held in
            absurd (ne (same_Some b a (sym (owner_is b (owner_at w.shared ino) holds) ∙ owned)))

  each : (b : ℕ) (c : Bool) → (b == a) ≡ c → killed_by_actor ino (actor_at w b) ≡ []
  each b true e = ap (λ (i : ℕ). killed_by_actor ino (actor_at w i)) (eqb-true b a e) ∙ own
  each b false e = call b (actor_at w b).running refl (eqb-false b a e)
