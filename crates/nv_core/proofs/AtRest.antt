-- A world in which no actor has a call is one at rest.
use Rattle.std.proofs.Common.{◌≡◌, ℕ, ◌<◌, ◌≤◌, ◌∙◌, Bool, true, false, List, Option, Some, None, ap, ap₂, arith, length, nat_lt, refl, subst, sym}
use Rattle.std.specs.Prelude.{is_some, replicate, slice_index_or}
use Rattle.std.specs.List.{list_any}
use Rattle.std.proofs.lemmas.Bool.{eq-eqb, false≢true, ltb-false, ltb-true}
use Rattle.std.proofs.lemmas.List.{ext_get_or, get_or-replicate, get_or_past, length-map, length-replicate}
use Rattle.std.proofs.lemmas.List.Folds.{Any-from_list_any, list_any_at}
use Rattle.nv_machine.specs.Locks.{is_owner}
use Rattle.nv_machine.specs.Numbers.{IdleHaveNothing}
use Rattle.nv_machine.specs.Reached.{IsReached}
use Rattle.nv_machine.specs.World as machine
use Rattle.nv_machine.specs.World.{actor_at, empty_hand, idle, owner_at}
use Rattle.nv_machine.proofs.EveryWorld.{reached}
use Rattle.nv_machine.proofs.WorldFacts.{idle_nothing}
use Rattle.nv_machine.proofs.WorldSizes.{IsOfNumbers, of_numbers}
use Rattle.nv_core.proofs.Bounds.{one_of}
use Rattle.nv_core.proofs.WorldSteps.{shows_none, shows_some}
use Rattle.nv_core.specs.AtRest.{IsBusy, at_rest, has_call, parts_of}
use Rattle.nv_core.specs.Shown.{shared_of}
use Rattle.nv_core.specs.Worlds.{IsWorld, Shows, ShowsRunning, WorldState}
use Rattle.nv_core.specs.declared.reservation.Reservation.{Reservation}
use Rattle.nv_core.specs.declared.running.Running.{Running}
use Rattle.nv_core.specs.declared.world.Actor.{Actor}

-- ---- calls

-- an actor with a call shows one with a call
shows_call : (h : Reservation) (o : Option Running) (x : Option machine.Running) → ShowsRunning h o x
    → is_some o ≡ true → is_some x ≡ true
shows_call h None x shows some = absurd (false≢true some)
shows_call h (Some running) x shows some = ap is_some (shows_some h running x shows).1

pub busy : (w : WorldState) (m : machine.World) → Shows w m → list_any has_call w.actors ≡ true → IsBusy m
busy w m shows some = found (Any-from_list_any has_call w.actors some) where
  found : ((k : ℕ) × (d : Actor) × (k < length w.actors) × (slice_index_or w.actors k d ≡ d) × (has_call d ≡ true))
      → IsBusy m
  found at =
      let shown = (shows.each at.0 at.1 at.2).running in
      let own = slice_index_or w.actors at.0 at.1 in
      (at.0, shows_call own.reserved own.running (actor_at m at.0).running shown (ap has_call at.3 ∙ at.4))

-- no actor has a call
abbrev HasNone : machine.World → Type 0
HasNone m = (actor : ℕ) → (actor_at m actor).running ≡ None

-- an actor is there, or is past the last
at_or_past : (actors : List Actor) (actor : ℕ) (P : Type 0) → ((d : Actor) → actor < length actors → P)
    → (length actors ≤ actor → P) → P
at_or_past actors actor P there past = go (nat_lt actor (length actors)) refl where
  go : (b : Bool) → nat_lt actor (length actors) ≡ b → P
  go true e = let lt = ltb-true actor (length actors) e in there (one_of actor actors lt) lt
  go false e = past (ltb-false actor (length actors) e)

past_idle : (w : WorldState) (m : machine.World) (actor : ℕ) → Shows w m → length w.actors ≤ actor → actor_at m actor ≡ idle
past_idle w m actor shows past = get_or_past m.actors actor idle (omega (arith, past, shows.count))

module _ (w : WorldState) (none : list_any has_call w.actors ≡ false) where
  none_at : (actor : ℕ) (d : Actor) → actor < length w.actors → (slice_index_or w.actors actor d).running ≡ None
  none_at actor d lt = go (slice_index_or w.actors actor d).running refl where
    go : (o : Option Running) → (slice_index_or w.actors actor d).running ≡ o
        → (slice_index_or w.actors actor d).running ≡ None
    go None e = e
    go (Some r) e = absurd (false≢true (sym none ∙ list_any_at has_call w.actors actor d lt (ap is_some e)))

  has_none : (m : machine.World) → Shows w m → HasNone m
  has_none m shows actor =
      at_or_past w.actors actor ((actor_at m actor).running ≡ None) there
      (λ past. ap (λ (a : machine.Actor). a.running) (past_idle w m actor shows past)) where
        there : (d : Actor) → actor < length w.actors → (actor_at m actor).running ≡ None
        there d lt =
            let own = slice_index_or w.actors actor d in
            shows_none own.reserved (actor_at m actor).running
            (subst (λ (o : Option Running). ShowsRunning own.reserved o (actor_at m actor).running) (none_at actor d lt)
            (shows.each actor d lt).running)

  -- two worlds that it shows have one hand of each actor, which is empty where it is in one
  has_empty : (m v : machine.World) → Shows w m → Shows w v → IdleHaveNothing v → (actor : ℕ)
      → (actor_at m actor).hand ≡ empty_hand
  has_empty m v shows other nothing actor =
      at_or_past w.actors actor ((actor_at m actor).hand ≡ empty_hand)
      (λ d lt. sym (shows.each actor d lt).hand ∙ (other.each actor d lt).hand
      ∙ (nothing actor (has_none v other actor)).hand)
      (λ past. ap (λ (a : machine.Actor). a.hand) (past_idle w m actor shows past))

-- ---- all actors, and all locks

are_idle : (m : machine.World) → HasNone m → ((actor : ℕ) → (actor_at m actor).hand ≡ empty_hand)
    → m.actors ≡ replicate (length m.actors) idle
are_idle m none empty =
    let n = length m.actors in
    ext_get_or idle m.actors (replicate n idle) (sym (length-replicate n idle))
    (λ i lt. is_idle i ∙ sym (get_or-replicate n i idle idle lt)) where
      is_idle : (actor : ℕ) → actor_at m actor ≡ idle
      is_idle actor = ap₂ (λ h r. let a : machine.Actor = record { hand = h; running = r } in a) (empty actor) (none actor)

-- what no actor owns has no owner
unowned : (owner : Option ℕ) → ((actor : ℕ) → is_owner actor owner ≡ false) → owner ≡ None
unowned None none = refl
unowned (Some actor) none = absurd (false≢true (sym (none actor) ∙ eq-eqb actor actor refl))

module _ (v : machine.World) (none : HasNone v) (nothing : IdleHaveNothing v) where
  unlocked : v.shared.owners ≡ replicate (length v.shared.owners) None
  unlocked =
      let n = length v.shared.owners in
      ext_get_or None v.shared.owners (replicate n None) (sym (length-replicate n None))
      (λ ino lt. unowned (owner_at v.shared ino) (λ actor. (nothing actor (none actor)).locks ino)
      ∙ sym (get_or-replicate n ino None None lt))

  uncommitted : v.shared.holder ≡ None
  uncommitted = unowned v.shared.holder (λ actor. (nothing actor (none actor)).commit_lock)

-- ---- a world at rest

module _ (w : WorldState) (is : IsWorld w) (none : list_any has_call w.actors ≡ false) where
  abbrev v : machine.World
  v = is.0

  abbrev shown : Shows w v
  shown = is.2.shows

  nothing : IdleHaveNothing v
  nothing = subst IdleHaveNothing (sym is.2.reached)
      (idle_nothing w.shared.geometry.numbers is.1.start is.1.records is.1.events is.2.is_start)

  wide : length v.shared.owners ≡ length v.shared.cells
  wide =
      let g = w.shared.geometry.numbers in
      (subst IsReached (sym is.2.reached) (reached g is.1.start is.1.records is.1.events is.2.is_start)).locks.wide

  count : length v.actors ≡ w.shared.geometry.numbers.actors
  count =
      let g = w.shared.geometry.numbers in
      (subst (IsOfNumbers g) (sym is.2.reached) (of_numbers g is.1.start is.1.records is.1.events is.2.is_start)).actors

  owners : w.shared.owners.items ≡ replicate (length w.shared.cells.items) None
  owners =
      let same = shown.shared in
      ap (λ (s : machine.Shared). s.owners) same ∙ unlocked v (has_none w none v shown) nothing
      ∙ ap (λ (n : ℕ). replicate n None) (wide ∙ sym (ap (λ (s : machine.Shared). length s.cells) same)
      ∙ length-map w.shared.cells.items (λ c. c.state))

  holder : w.shared.holder ≡ None
  holder = ap (λ (s : machine.Shared). s.holder) shown.shared ∙ uncommitted v (has_none w none v shown) nothing

  pub rests : (m : machine.World) → Shows w m → m ≡ at_rest (parts_of w.shared)
  rests m shows =
      let g = w.shared.geometry.numbers in
      let many : length m.actors ≡ g.actors = sym shows.count ∙ shown.count ∙ count in
      let actors : m.actors ≡ replicate g.actors idle =
      are_idle m (has_none w none m shows) (has_empty w none m v shows shown nothing)
      ∙ ap (λ (n : ℕ). replicate n idle) many in
      let shared : m.shared ≡ (at_rest (parts_of w.shared)).shared =
      sym shows.shared ∙ ap₂ (λ (all : List (Option ℕ)) (one : Option ℕ).
      let s : machine.Shared = record (shared_of w.shared) { owners = all; holder = one } in s) owners holder in
      ap (λ n. let o : machine.World = record m { numbers = n } in o) (sym shows.numbers)
      ∙ ap₂ (λ s d. let o : machine.World = record { numbers = g; shared = s; actors = d } in o) shared actors
