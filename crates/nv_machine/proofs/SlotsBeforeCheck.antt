-- What a call holds before its check: the slots of its handles and of the number in its hand, with
-- nothing past their tails.
use Rattle.std.proofs.Common.{List, None, Option, Some, [], ap, arith, false, length, subst, true, ℕ, ◌++◌, ◌<◌, ◌==◌, ◌∙◌, ◌∷◌, ◌≡◌}
use Rattle.std.specs.List.{AllByRecursion}
use Rattle.std.proofs.lemmas.Bool.{false≢true}
use Rattle.nv_alloc.specs.Numbers.{has}
use Rattle.nv_base.specs.declared.geometry.GeometryNumbers.{GeometryNumbers}
use Rattle.nv_base.specs.declared.numbers.Handle.{Handle}
use Rattle.nv_calls.specs.AllCalls.{early, effect, looked, refusal}
use Rattle.nv_calls.specs.Locked.{handles}
use Rattle.nv_calls.specs.declared.call.Call.{Call}
use Rattle.nv_calls.specs.declared.looked.LookupResult.{LookupResult}
use Rattle.nv_cell.specs.Cell.{log_of}
use Rattle.nv_cell.specs.Pages.{AreBytesOf}
use Rattle.nv_entry.specs.declared.node.NodeCopy.{NodeCopy}
use Rattle.nv_machine.specs.Grown.{HasGrown, HasGrownBy}
use Rattle.nv_machine.specs.Hands.{AreNumbers, HandAt, HandOf, HasTakenNone}
use Rattle.nv_machine.specs.Locks.{HoldsIts, commits_at, held_at}
use Rattle.nv_machine.specs.Reached.{IsReached}
use Rattle.nv_machine.specs.Reads.{bytes_among, copies, if_number, slots_of}
use Rattle.nv_machine.specs.Sequence.{beginning}
use Rattle.nv_machine.specs.Step.{ending_at, is_numbered, made_in, same_looked}
use Rattle.nv_machine.specs.World.{Check, HandState, Next, Running, Shared, World, actor_at, cell_at}
use Rattle.nv_machine.proofs.CellPages.{among_at}
use Rattle.nv_machine.proofs.FitsEvents.{IsKnown}
use Rattle.nv_machine.proofs.Fitting.{checked}
use Rattle.nv_machine.proofs.FitsOwn.{cover_each, has_back, inos}
use Rattle.nv_machine.proofs.FitsStages.{IsLocked}
use Rattle.nv_machine.proofs.UnsettledLogs.{not_behind}
use Rattle.nv_machine.proofs.Lists.{or_left, self}
use Rattle.nv_machine.proofs.LocksHeld.{slot_owned}
use Rattle.nv_machine.proofs.PoolChecked.{HaveInode, checked_inodes}
use Rattle.nv_machine.proofs.PoolKnown.{Sees, SeesOf}
use Rattle.nv_machine.proofs.PoolRuns.{ArePooled}
use Rattle.nv_machine.proofs.PoolSlots.{in_range, inode_inside}
use Rattle.nv_calls.specs.declared.call.Call.TheVariants as call

-- ---- cells

-- the bytes of each block of a cell are those of its number
pub own_bytes : (w : World) → IsReached w → (ino : ℕ) → AreBytesOf (cell_at w.shared ino) (bytes_among (cell_at w.shared ino).blocks)
own_bytes w is ino = among_at (cell_at w.shared ino).blocks (is.apart.cells ino)

-- outside of a commit nothing stands past the tails of the cells that a call holds
pub held_tails : (w : World) (actor : ℕ) (r : Running) → IsReached w → (actor_at w actor).running ≡ Some r → commits_at r.next ≡ false
    → (ino : ℕ) → has (held_at r.next r.slots) ino ≡ true
    → (cell_at w.shared ino).chain.tail ≡ length (cell_at w.shared ino).chain.entries
held_tails w actor r is runs out ino held =
    let s = w.shared in
    let mine : HoldsIts s actor (Some r) = subst (λ (o : Option Running). HoldsIts s actor o) runs (is.locks.each actor) in
    let own : HasGrown r.next s actor r = subst (λ (o : Option Running). HasGrownBy o s actor) runs (is.grown.each actor) in
    own.tails ino (slot_owned actor s r ino mine held) (not_behind r.next _ ino out)

-- ---- a call reads some slot

some_handle : (nodes : Handle → Option NodeCopy) (made : Handle) (found : LookupResult) (c : Call) → 0 < length (effect nodes made c)
    → 0 < length (handles found c)
some_handle nodes made found (call.SnapshotOrCleaner what) any = absurd (omega (arith, any))
some_handle nodes made found other any = omega arith

some_slot : (slots : List ℕ) (n : ℕ) → has slots n ≡ true → 0 < length slots
some_slot [] n there = absurd (false≢true there)
some_slot (slot ∷ slots) n there = omega arith

first_slot : (s : Shared) (slots : List ℕ) (list : List Handle) → 0 < length list → HaveInode s list
    → AllByRecursion (IsLocked (length s.cells) slots) list → 0 < length slots
first_slot s slots [] some inodes held = absurd (omega (arith, some))
first_slot s slots (handle ∷ list) some inodes held = some_slot slots handle.ino (held.0 (inode_inside s handle.ino inodes.0))

-- ---- before a check

module _ (g : GeometryNumbers) (w : World) (actor : ℕ) (r : Running) (runs : (actor_at w actor).running ≡ Some r)
    (next : r.next ≡ Check) where
  abbrev hand : HandState
  hand = (actor_at w actor).hand

  abbrev many : ℕ
  many = length w.shared.cells

  -- it has the number of a new inode at most
  pub taken_none : AreNumbers g w → HasTakenNone hand r
  taken_none all =
      let own : HandOf g hand (Some r) = subst (λ (o : Option Running). HandOf g hand o) runs (all.hands actor) in
      subst (λ (k : Next). HandAt g k hand r) next own.0

  -- its slots are those of its handles and of that number
  pub own_slots : ArePooled g w → r.slots ≡ slots_of w.shared hand.ino r.looked r.call
  own_slots pooled =
      let sees : SeesOf (Some r) w.shared hand = subst (λ (o : Option Running). SeesOf o w.shared hand) runs (pooled.each actor) in
      subst (λ (k : Next). Sees k w.shared hand r) next sees

  listed : ArePooled g w → (n : ℕ) → has (if_number hand.ino ++ inos (handles r.looked r.call)) n ≡ true → n < many
      → has r.slots n ≡ true
  listed pooled n there lt = ap (λ (l : List ℕ). has l n) (own_slots pooled) ∙ in_range many _ n there lt

  pub own_handles : ArePooled g w → AllByRecursion (IsLocked many r.slots) (handles r.looked r.call)
  own_handles pooled = cover_each many r.slots (handles r.looked r.call)
      (λ n there lt. listed pooled n (has_back (if_number hand.ino) _ n there) lt)

  -- the slot of that number is empty
  pub own_number : IsKnown g w → ArePooled g w → (n : ℕ) → hand.ino ≡ Some n
      → (n < many) × (log_of (cell_at w.shared n) ≡ []) × (has r.slots n ≡ true)
  own_number known pooled n is =
      let free = known.free actor n r runs next is in (
        free.inside,
        free.empty,
        listed pooled n (ap (λ (o : Option ℕ). has (if_number o ++ inos (handles r.looked r.call)) n) is
            ∙ or_left (n == n) (has (inos (handles r.looked r.call)) n) (self n)) free.inside,
      )

  -- where the check does not end it, it holds a slot: a call whose handles are all out of range has
  -- none, and is refused
  pub some_slots : ArePooled g w → (block : ℕ) → ending_at block w.shared hand r ≡ None → 0 < length r.slots
  some_slots pooled block e =
      let s = w.shared in
      let made = made_in s hand.ino r.made in
      let passed = checked (early (copies s) r.call) (same_looked (looked (copies s) r.call) r.looked) (refusal block (copies s) r.call)
      (is_numbered (beginning r.call) hand.ino) (effect (copies s) made r.call) e in
      first_slot s r.slots (handles r.looked r.call) (some_handle (copies s) made r.looked r.call passed.some)
      (checked_inodes block s made r.looked r.call passed.passed passed.some passed.looked) (own_handles pooled)
