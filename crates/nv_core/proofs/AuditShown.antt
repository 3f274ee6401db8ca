-- What the code gathers of hands is what the machine's calls have in them, so that a world agrees and an
-- audit tells no mismatch.
use Rattle.std.proofs.Common.{◌≡◌, ℕ, zero, suc, ◌<◌, ◌≤◌, ◌==◌, ◌&&◌, ◌⊎◌, inl, inr, ◌++◌, ◌∙◌, Bool, true, false, List, [], ◌∷◌, Option, Some, None, ap, ap₂, arith, drop, filter, flat_map, if◌then◌else◌, length, map, nat_lt, refl, slice_index_or, subst, sym, take}
use Rattle.std.specs.Prelude.{IfErr, IfOk, Result, Ok, Err, not}
use Rattle.std.proofs.lemmas.Bool.{and_parts, eqb-true, ltb-false, ltb-true}
use Rattle.std.proofs.lemmas.List.{take-map}
use Rattle.nv_base.specs.Refusals.{FailsOnly}
use Rattle.nv_base.specs.declared.geometry.GeometryNumbers.{GeometryNumbers}
use Rattle.nv_base.specs.declared.fault.Fault.{Fault}
use Rattle.nv_base.specs.declared.fault.Fault.TheVariants.{Mismatch}
use Rattle.nv_base.specs.Memory.{out_of_memory}
use Rattle.nv_base.specs.declared.fault.MismatchPart.TheVariants.{Counts, Index, Lists, Names, Records}
use Rattle.nv_audit.specs.Records.{inode_part, states_of}
use Rattle.nv_audit.specs.Whole.{Agrees, Device, IsMismatch, device_with}
use Rattle.nv_audit.specs.declared.part_list.InodePart.{InodePart}
use Rattle.nv_audit.specs.declared.pending.InHands.{InHands}
use Rattle.nv_alloc.specs.FreeList.{FreeBlocks}
use Rattle.nv_calls.specs.Commit.{CommitValue}
use Rattle.nv_calls.specs.Progress.{is_open, opens, step_of}
use Rattle.nv_calls.specs.Ready.{CellCommitValue}
use Rattle.nv_calls.specs.declared.progress.CommitStep.{CommitStep}
use Rattle.nv_calls.specs.declared.progress.CommitStep.TheVariants as step
use Rattle.nv_cell.specs.Cell.{CellValue}
use Rattle.nv_cell.specs.declared.killed.KilledPart.{KilledPart}
use Rattle.nv_machine.specs.Held.{killed_slots, picked_at}
use Rattle.nv_machine.specs.Numbers.{held_by_actor, held_in}
use Rattle.nv_machine.specs.Reads.{is_written, slot_at, written_slots}
use Rattle.nv_machine.specs.World as machine
use Rattle.nv_core.specs.Audited.{HasPlans, blocks_by, device_of, killed_by_plan, killed_by_plans, parts_by, parts_by_actor, parts_by_call, parts_with, picked_by, slot_parts}
use Rattle.nv_core.specs.Rooms.{HasActorRooms}
use Rattle.nv_core.specs.Shown.{commit_next, held_by, killed_in, machine_step, next_of, shared_of, slots_in}
use Rattle.nv_core.specs.GhostCalls.{IsOnItsWay}
use Rattle.nv_core.specs.Worlds.{IsWorld, Shows, ShowsRunning, WorldState}
use Rattle.nv_core.specs.declared.reservation.Reservation.{Reservation}
use Rattle.nv_core.specs.declared.reservation.Reservation.TheVariants as reserved
use Rattle.nv_core.specs.declared.next.Next.{Next}
use Rattle.nv_core.specs.declared.next.Next.TheVariants as next
use Rattle.nv_core.specs.declared.next.SnapshotOrCleanerStep.TheVariants as on
use Rattle.nv_core.specs.declared.running.Running.{Running}
use Rattle.nv_core.specs.declared.shared.Shared.{Shared}
use Rattle.nv_core.specs.declared.world.Actor.{Actor}
use Rattle.nv_core.proofs.AuditLaw.{agree}

-- ---- lists

first_of_none : {X : Type 0} (n m : ℕ) (xs : List X) → m ≡ 0 → drop n (take m xs) ≡ []
first_of_none {X} n m xs e = ap (λ (k : ℕ). drop n (take k xs)) e ∙ nothing n where
  nothing : (n : ℕ) → drop n (let none : List X = [] in none) ≡ []
  nothing zero = refl
  nothing (suc n) = refl

from_first : {X : Type 0} (xs : List X) → drop 0 xs ≡ xs
from_first [] = refl
from_first (x ∷ xs) = refl

take_whole : {X : Type 0} (n : ℕ) (xs : List X) → length xs ≤ n → take n xs ≡ xs
take_whole zero [] le = refl
take_whole zero (x ∷ xs) le = absurd (omega (arith, le))
take_whole (suc n) [] le = refl
take_whole {X} (suc n) (x ∷ xs) le = ap (λ (rest : List X). x ∷ rest) (take_whole n xs (omega (arith, le)))

drop_whole : {X : Type 0} (n : ℕ) (xs : List X) → length xs ≤ n → drop n xs ≡ []
drop_whole zero [] le = refl
drop_whole zero (x ∷ xs) le = absurd (omega (arith, le))
drop_whole (suc n) [] le = refl
drop_whole (suc n) (x ∷ xs) le = drop_whole n xs (omega (arith, le))

drop_mapped : {X Y : Type 0} (f : X → Y) (n : ℕ) (xs : List X) → drop n (map f xs) ≡ map f (drop n xs)
drop_mapped f zero [] = refl
drop_mapped f zero (x ∷ xs) = refl
drop_mapped f (suc n) [] = refl
drop_mapped f (suc n) (x ∷ xs) = drop_mapped f n xs

alike_all : {X Y Z : Type 0} (f : X → List Z) (h : Y → List Z) (e : Y) (xs : List X) (ys : List Y) → length xs ≡ length ys
    → ((k : ℕ) (d : X) → k < length xs → f (slice_index_or xs k d) ≡ h (slice_index_or ys k e)) → flat_map f xs ≡ flat_map h ys
alike_all f h e [] [] len same = refl
alike_all f h e [] (y ∷ ys) len same = absurd (omega (arith, len))
alike_all f h e (x ∷ xs) [] len same = absurd (omega (arith, len))
alike_all {X} {Y} {Z} f h e (x ∷ xs) (y ∷ ys) len same =
    ap₂ (λ (a b : List Z). a ++ b) (same 0 x (omega arith))
    (alike_all f h e xs ys (omega (arith, len)) (λ k d lt. same (suc k) d (omega (arith, lt))))

-- ---- the parts of a commit

module _ (slots : List ℕ) where
  abbrev slot_of : CellCommitValue → ℕ
  slot_of p = slot_at slots p.at

  abbrev killed_of : CellCommitValue → List KilledPart
  killed_of p = p.killed

  aligned : (ps : List CellCommitValue) → slot_parts (map slot_of ps) (map killed_of ps) ≡ flat_map (killed_by_plan slots) ps
  aligned [] = refl
  aligned (p ∷ ps) = ap (λ (rest : List InodePart). killed_by_plan slots p ++ rest) (aligned ps)

  module _ (c : CommitValue) (way : IsOnItsWay c) where
    abbrev many : ℕ
    many = length c.plans

    abbrev left : List CellCommitValue
    left = drop c.retired (take c.published c.plans)

    abbrev Parts : CommitStep → Type 0
    Parts k =
        killed_by_plans slots c
        ≡ map inode_part (picked_at (machine_step k c)) ++ slot_parts (killed_slots (machine_step k c) (map slot_of c.plans)) (killed_in c)

    none_left : left ≡ [] → killed_by_plans slots c ≡ []
    none_left e = ap (flat_map (killed_by_plan slots)) e

    some_left : (written : List ℕ) → written ≡ map slot_of left → killed_by_plans slots c ≡ slot_parts written (killed_in c)
    some_left written e = sym (aligned left) ∙ ap (λ (ws : List ℕ). slot_parts ws (killed_in c)) (sym e)

    whole : many ≤ c.published → take c.published c.plans ≡ c.plans
    whole le = take_whole c.published c.plans le

    retiring : many ≤ c.published → Parts (if nat_lt c.retired many then step.Retire else step.Leave)
    retiring le = go (nat_lt c.retired many) refl where
      go : (b : Bool) → nat_lt c.retired many ≡ b → Parts (if b then step.Retire else step.Leave)
      go true e =
          some_left (drop c.retired (map slot_of c.plans))
          (drop_mapped slot_of c.retired c.plans ∙ ap (λ (ps : List CellCommitValue). map slot_of (drop c.retired ps)) (sym (whole le)))
      go false e =
          none_left (ap (drop c.retired) (whole le) ∙ drop_whole c.retired c.plans (ltb-false c.retired many e))

    closing : many ≤ c.published → Parts (if is_open c then step.Close else if nat_lt c.retired many then step.Retire else step.Leave)
    closing le = go (is_open c) refl where
      go : (b : Bool) → is_open c ≡ b → Parts (if b then step.Close else if nat_lt c.retired many then step.Retire else step.Leave)
      go true e =
          let none : c.retired ≡ 0 = (way.opened e).2 in
          some_left (map slot_of c.plans)
          (ap (map slot_of)
          (sym (ap (λ (n : ℕ). drop n (take c.published c.plans)) none ∙ from_first (take c.published c.plans) ∙ whole le)))
      go false e = retiring le

    publishing : Parts (if nat_lt c.published many then step.Publish else if is_open c then step.Close
        else if nat_lt c.retired many then step.Retire else step.Leave)
    publishing = go (nat_lt c.published many) refl where
      go : (b : Bool) → nat_lt c.published many ≡ b → Parts (if b then step.Publish else if is_open c then step.Close
          else if nat_lt c.retired many then step.Retire else step.Leave)
      go true e =
          let none : c.retired ≡ 0 = way.publishes (ltb-true c.published many e) in
          some_left (take c.published (map slot_of c.plans))
          (take-map slot_of c.published c.plans
          ∙ ap (map slot_of) (sym (ap (λ (n : ℕ). drop n (take c.published c.plans)) none ∙ from_first (take c.published c.plans))))
      go false e = closing (ltb-false c.published many e)

    opening : Parts (if opens c then step.Open else if nat_lt c.published many then step.Publish else if is_open c then step.Close
        else if nat_lt c.retired many then step.Retire else step.Leave)
    opening = go (opens c) refl where
      go : (b : Bool) → opens c ≡ b → Parts (if b then step.Open else if nat_lt c.published many then step.Publish
          else if is_open c then step.Close else if nat_lt c.retired many then step.Retire else step.Leave)
      go true e =
          let first = and_parts (nat_lt 1 many && (c.published == 0)) (not (is_open c)) e in
          let none = eqb-true c.published 0 (and_parts (nat_lt 1 many) (c.published == 0) first.0).1 in
          none_left (first_of_none c.retired c.published c.plans none)
      go false e = publishing

    commit_parts : Parts (step_of c)
    commit_parts = go (nat_lt c.appended many) refl where
      go : (b : Bool) → nat_lt c.appended many ≡ b → Parts (if b then step.Append else if opens c then step.Open
          else if nat_lt c.published many then step.Publish else if is_open c then step.Close
          else if nat_lt c.retired many then step.Retire else step.Leave)
      go true e = none_left (first_of_none c.retired c.published c.plans (way.appends (ltb-true c.appended many e)))
      go false e = opening

-- ---- the parts of an actor

no_slot_parts : (slots : List ℕ) → slot_parts slots [] ≡ []
no_slot_parts [] = refl
no_slot_parts (slot ∷ slots) = refl

picks : (k : Next) → picked_by k ≡ map inode_part (picked_at (next_of k))
picks (next.SnapshotOrCleaner (on.LockPicked draining picked)) = refl
picks (next.SnapshotOrCleaner (on.Release draining picked)) = refl
picks other = refl

append_none : (xs ys : List InodePart) → ys ≡ [] → xs ++ ys ≡ xs
append_none [] ys e = e
append_none (x ∷ xs) ys e = ap (λ (rest : List InodePart). x ∷ rest) (append_none xs ys e)

parts_shown : (shared : Shared) (h : Reservation) (running : Option Running) (hand : machine.HandState) (r : Option machine.Running)
    → held_by h ≡ hand → ShowsRunning h running r → HasActorRooms shared h running → parts_with h running ≡ parts_by_call r hand
parts_shown shared (reserved.Hand mine) None hand None e shows rooms = refl
parts_shown shared (reserved.Ready ready) None hand None e shows rooms = absurd rooms
parts_shown shared (reserved.Commit commit) None hand None e shows rooms = absurd rooms
parts_shown shared h None hand (Some r) e shows rooms = absurd shows
parts_shown shared h (Some running) hand None e shows rooms = absurd shows
parts_shown shared (reserved.Hand mine) (Some running) hand (Some r) e shows rooms =
    let next_is : next_of running.next ≡ r.next = ap (λ (q : machine.Running). q.next) shows.shown in
    let killed : hand.killed ≡ [] = sym (ap (λ (x : machine.HandState). x.killed) e) in
    picks running.next ∙ ap (λ (k : machine.Next). map inode_part (picked_at k)) next_is
    ∙ sym (append_none (map inode_part (picked_at r.next)) (slot_parts (killed_slots r.next (written_slots r)) hand.killed)
    (ap (slot_parts (killed_slots r.next (written_slots r))) killed ∙ no_slot_parts (killed_slots r.next (written_slots r))))
parts_shown shared (reserved.Ready ready) (Some running) hand (Some r) e shows rooms =
    let next_is : machine.Enter ≡ r.next = ap (λ (q : machine.Running). q.next) shows.shown in
    ap (λ (k : machine.Next). map inode_part (picked_at k) ++ slot_parts (killed_slots k (written_slots r)) hand.killed) next_is
parts_shown shared (reserved.Commit commit) (Some running) hand (Some r) e shows rooms =
    let slots = slots_in running.slots in
    let next_is : commit_next commit ≡ r.next = ap (λ (q : machine.Running). q.next) shows.shown in
    let slots_are : slots ≡ r.slots = ap (λ (q : machine.Running). q.slots) shows.shown in
    let killed : killed_in commit ≡ hand.killed = ap (λ (x : machine.HandState). x.killed) e in
    let written : map (λ (p : CellCommitValue). slot_at slots p.at) commit.plans ≡ written_slots r =
    sym shows.plan.plans.written ∙ ap (filter (is_written r.plan)) slots_are in
    commit_parts slots commit rooms.3.way
    ∙ ap (λ (k : machine.Next). map inode_part (picked_at k)
    ++ slot_parts (killed_slots k (map (λ (p : CellCommitValue). slot_at slots p.at) commit.plans)) (killed_in commit)) next_is
    ∙ ap (λ (ws : List ℕ). map inode_part (picked_at r.next) ++ slot_parts (killed_slots r.next ws) (killed_in commit)) written
    ∙ ap (λ (ks : List (List KilledPart)). map inode_part (picked_at r.next) ++ slot_parts (killed_slots r.next (written_slots r)) ks)
    killed

-- ---- a world

plans_of : (shared : Shared) (h : Reservation) (running : Option Running) → HasActorRooms shared h running → HasPlans h
plans_of shared (reserved.Hand mine) running rooms = tt
plans_of shared (reserved.Ready ready) running rooms = tt
plans_of shared (reserved.Commit commit) None rooms = absurd rooms
plans_of shared (reserved.Commit commit) (Some running) rooms = rooms.3.way.published

-- what an audit is told of a world
abbrev gathered : WorldState → Device
gathered v = record {
  numbers = v.shared.geometry.numbers;
  cells = states_of v.shared.cells.items;
  lists = v.shared.lists.items;
  book = v.shared.book.state;
  in_hands = flat_map parts_by v.actors;
  blocks = flat_map blocks_by v.actors;
}

module _ (v : WorldState) (is : IsWorld v) where
  pub have_plans : (k : ℕ) (d : Actor) → k < length v.actors → HasPlans (slice_index_or v.actors k d).reserved
  have_plans k d lt =
      let actor = slice_index_or v.actors k d in plans_of v.shared actor.reserved actor.running (is.2.rooms k d lt)

  -- it is the machine's world as a device
  device_shown : (m : machine.World) → Shows v m → gathered v ≡ device_of m.numbers m
  device_shown m shows =
      let parts : flat_map parts_by v.actors ≡ flat_map parts_by_actor m.actors =
      alike_all parts_by parts_by_actor machine.idle v.actors m.actors shows.count (λ k d lt.
      let actor = slice_index_or v.actors k d in
      let own = shows.each k d lt in
      parts_shown v.shared actor.reserved actor.running (machine.actor_at m k).hand (machine.actor_at m k).running own.hand own.running
      (is.2.rooms k d lt)) in
      let blocks : flat_map blocks_by v.actors ≡ flat_map held_by_actor m.actors =
      alike_all blocks_by held_by_actor machine.idle v.actors m.actors shows.count
      (λ k d lt. ap held_in (shows.each k d lt).hand) in
      let D : GeometryNumbers → machine.Shared → List InodePart → List ℕ → Device =
      λ g s ps bs. record { numbers = g; cells = s.cells; lists = s.lists; book = s.book; in_hands = ps; blocks = bs } in
      ap (λ (g : GeometryNumbers). D g (shared_of v.shared) (flat_map parts_by v.actors) (flat_map blocks_by v.actors)) shows.numbers
      ∙ ap (λ (s : machine.Shared). D m.numbers s (flat_map parts_by v.actors) (flat_map blocks_by v.actors)) shows.shared
      ∙ ap₂ (D m.numbers m.shared) parts blocks

  world_agrees : Agrees (gathered v)
  world_agrees =
      let m = is.0 in
      subst Agrees (sym (device_shown m is.2.shows))
      (subst (λ (g : GeometryNumbers). Agrees (device_of g m)) is.2.shows.numbers
      (subst (λ (x : machine.World). Agrees (device_of v.shared.geometry.numbers x)) (sym is.2.reached)
      (agree v.shared.geometry.numbers is.1.start is.1.records is.1.events is.2.is_start)))

-- ---- what is told

no_mismatch : (d : Device) → Agrees d → (fault : Fault) → IsMismatch d fault → ⊥
no_mismatch d agrees (Mismatch Index) bad = bad
no_mismatch d agrees (Mismatch Names) bad = bad
no_mismatch d agrees (Mismatch Counts) bad = bad agrees.counts
no_mismatch d agrees (Mismatch Records) bad = bad.1 agrees.records
no_mismatch d agrees (Mismatch Lists) bad = bad.2 agrees.lists
no_mismatch d agrees other bad = bad

only_memory : {T : Type 0} (d : Device) (r : Result T Fault) → Agrees d
    → IfErr r (λ fault. (fault ≡ out_of_memory) ⊎ IsMismatch d fault) → FailsOnly out_of_memory r
only_memory d (Ok t) agrees bad = tt
only_memory d (Err fault) agrees (inl memory) = memory
only_memory d (Err fault) agrees (inr bad) = absurd (no_mismatch d agrees fault bad)

-- with what is gathered of a world
module _ (v : WorldState) (is : IsWorld v) (cells : List CellValue) (lists : List FreeBlocks) (hands : InHands)
    (cells_are : cells ≡ v.shared.cells.items) (lists_are : lists ≡ v.shared.lists.items)
    (parts_are : hands.parts.items ≡ flat_map parts_by v.actors) (blocks_are : hands.blocks.items ≡ flat_map blocks_by v.actors) where
  abbrev handed : Device
  handed = device_with v.shared.geometry.numbers cells lists v.shared.book.state hands

  is_gathered : handed ≡ gathered v
  is_gathered =
      let D : List CellValue → List FreeBlocks → List InodePart → List ℕ → Device =
      λ cs ls ps bs. record {
        numbers = v.shared.geometry.numbers;
        cells = states_of cs;
        lists = ls;
        book = v.shared.book.state;
        in_hands = ps;
        blocks = bs;
      } in
      ap₂ (λ (cs : List CellValue) (ls : List FreeBlocks). D cs ls hands.parts.items hands.blocks.items) cells_are lists_are
      ∙ ap₂ (D v.shared.cells.items v.shared.lists.items) parts_are blocks_are

  pub told : {T : Type 0} (r : Result T Fault)
      → IfErr r (λ fault. (fault ≡ out_of_memory) ⊎ IsMismatch handed fault) → FailsOnly out_of_memory r
  told r = only_memory handed r (subst Agrees (sym is_gathered) (world_agrees v is))

  pub judged : (r : Result Device Fault) → IfOk r (λ d. d ≡ handed)
      → (m : machine.World) → Shows v m → IfOk r (λ d. d ≡ device_of m.numbers m)
  judged r is_handed m shows =
      subst (λ (d : Device). IfOk r (λ a. a ≡ d)) (is_gathered ∙ device_shown v is m shows) is_handed
