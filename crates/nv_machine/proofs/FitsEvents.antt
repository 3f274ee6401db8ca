-- Plans fit at their commit points, whatever events come.
use Rattle.nv_book.specs.declared.record.Record.{Record}
use Rattle.std.proofs.Common.{◌≡◌, ◌≢◌, ◌⊎◌, ℕ, ◌<◌, ◌≤◌, ◌==◌, ◌∙◌, Bool, true, cond, List, [], Option, Some, None, ap, ap₂, arith, inl, inr, length, nat_lt, subst, sym, take}
use Rattle.std.specs.Prelude.{slice_index_or, unwrap_or}
use Rattle.std.proofs.lemmas.Bool.{cases_lt, lt-ltb}
use Rattle.std.proofs.lemmas.List.{get_or_past}
use Rattle.std.specs.List.{AllByRecursion}
use Rattle.nv_alloc.specs.Numbers.{has}
use Rattle.nv_base.specs.declared.geometry.GeometryNumbers.{GeometryNumbers}
use Rattle.nv_base.specs.declared.numbers.Handle.{Handle}
use Rattle.nv_calls.specs.AllCalls.{refusal}
use Rattle.nv_calls.specs.Refusals.{passes}
use Rattle.nv_calls.specs.Plain.{node_in}
use Rattle.nv_calls.specs.Slots.{items_for, InodeSlot}
use Rattle.nv_calls.specs.declared.call.Call.{Call}
use Rattle.nv_cell.specs.Cell.{CellState}
use Rattle.nv_entry.specs.declared.item.Entry.{Entry}
use Rattle.nv_journal.specs.Journal.{settled_tail}
use Rattle.nv_machine.specs.Effects.{AreSound, HasPlanNow}
use Rattle.nv_machine.specs.FitsNow.{bytes_in}
use Rattle.nv_machine.specs.Frame.{IsFramed, Lent, lent}
use Rattle.nv_machine.specs.Hands.{AreNumbers, HandAt, HandOf}
use Rattle.nv_machine.specs.Kinds.{entries_for}
use Rattle.nv_machine.specs.Locks.{HoldsIts, commits_at}
use Rattle.nv_machine.specs.Order.{CommitsIn}
use Rattle.nv_machine.specs.PlainRun.{Commits, plain_change_of}
use Rattle.nv_machine.specs.Reached.{IsReached}
use Rattle.nv_machine.specs.Reads.{pages_needed, slot_at, slots_of, written_slots}
use Rattle.nv_machine.specs.Sequence.{Beginning, Locks, beginning, begun, nothing_looked}
use Rattle.nv_machine.specs.Settled.{node_by, settled, settled_nodes}
use Rattle.nv_machine.specs.Starts.{IsStart}
use Rattle.nv_machine.specs.Step.{step, turn, turned}
use Rattle.nv_machine.specs.World.{Actor, Ends, Event, Go, HandState, Moves, Next, Running, Shared, Turn, Waits, World, actor_at, cell_at, empty_hand, no_cell, owner_at}
use Rattle.nv_machine.proofs.EndingsStay.{deed_is}
use Rattle.nv_machine.proofs.CommitEffects.{IsRead, point_is_sound, take_none}
use Rattle.nv_machine.proofs.FitsBytes.{all_read, grows_now, plan_now, point_fits}
use Rattle.nv_machine.proofs.FitsCells.{append_wider, erased_block}
use Rattle.nv_machine.proofs.OverEvents.{by_points, event_by, event_numbers, set_begun, set_one, turn_at, with_call}
use Rattle.nv_machine.proofs.FiledRuns as filed
use Rattle.nv_machine.proofs.FiledTurns.{Listed}
use Rattle.nv_machine.proofs.FiledWorlds.{AreMarked}
use Rattle.nv_machine.proofs.FitsPooled.{HaveFreeNumbers}
use Rattle.nv_machine.proofs.FitsKinds.{own_turn, their_fits}
use Rattle.nv_machine.proofs.FitsStages.{Drawn, FitsAt, FitsOf, IsLocked, IsStored, Passed, SameStored}
use Rattle.nv_machine.proofs.FitsTurns.{OnFits, locking_fits}
use Rattle.nv_machine.proofs.StepFrames.{framed}
use Rattle.nv_machine.proofs.UnsettledLogs.{CellsLeft, OnGrown}
use Rattle.nv_machine.proofs.UnsettledTurns.{grown_turn, standing as grown_standing}
use Rattle.nv_machine.proofs.StepWork.{work}
use Rattle.nv_machine.proofs.WorkKeeps.{AfterTurn, turn_keeps}
use Rattle.nv_machine.proofs.LogsKeptRuns.{sound_stays, standing as kept_standing}
use Rattle.nv_machine.proofs.LocksHeld.{Before, owner_is}
use Rattle.nv_machine.proofs.LocksOverEvents.{before}
use Rattle.nv_machine.proofs.PoolRuns.{ArePooled}
use Rattle.nv_machine.proofs.Shapes.{Grows}
use Rattle.nv_machine.proofs.CellChanges.{cells_after, removal, slots_stay, clean_slot, is_cleaned}

-- ---- blocks have one size

abbrev pub AreSizes : ℕ → Shared → Type 0
AreSizes block s = (ino : ℕ) → ino < length s.cells → (cell_at s ino).block ≡ block

work_sizes : (k : Next) (block a : ℕ) (s : Shared) (h : HandState) (r : Running) → Before a s k r → AreSizes block s
    → AreSizes block (work k block a s h r).shared
work_sizes k block a s h r b sizes ino lt =
    cells_after (λ (n : ℕ) (c : CellState). n < length s.cells → c.block ≡ block) block a s h r sizes k b (record {
      appends = λ place is inside low there.
          let slot = slot_at (written_slots r) place in
          (append_wider (entries_for r slot) h.blocks (take (pages_needed s r.plan slot) h.pages) (cell_at s slot)).block ∙ sizes slot low;
      publishes = λ place is inside low there. sizes (slot_at (written_slots r) place) low;
      removes = λ is low left there.
          let x = removal k s h r in erased_block x.cell ∙ left.keeps.block ∙ sizes x.slot low;
      cleans = λ is low there. (is_cleaned k s h is).block ∙ sizes (clean_slot k) low;
    }) ino (let n = slots_stay k block a s h r in omega (arith, lt, n))

-- ---- what is known of a world

pub record AreFit (w : World) : Type 0 where
  pub sizes : AreSizes w.numbers.block w.shared
  pub sound : AreSound w.shared
  pub each : (actor : ℕ) → FitsOf (actor_at w actor).running w.numbers.block w.shared (actor_at w actor).hand

-- WHAT IS KNOWN of each world that events lead to from a start
pub record IsKnown (g : GeometryNumbers) (w : World) : Type 0 where
  pub reached : IsReached w
  pub numbers : AreNumbers g w
  pub rs : List Record
  pub listed : Listed rs w.shared
  pub marked : AreMarked w rs
  pub pooled : ArePooled g w
  pub free : HaveFreeNumbers w
  pub fit : AreFit w

pub filed_known : (g : GeometryNumbers) (w : World) → IsKnown g w → filed.IsListable g w
filed_known g w known = record {
  locks = known.reached.locks;
  order = known.reached.order;
  numbers = known.numbers;
  cleanable = known.reached.apart.cleanable;
}

-- ---- what others leave

abbrev KeepsSlot : Shared → Shared → ℕ → Type 0
KeepsSlot s t ino = (cell_at t ino ≡ cell_at s ino) × (settled t ino ≡ settled s ino)

module _ (a b : ℕ) (s t : Shared) (slots : List ℕ) (ne : b ≢ a) (left : CellsLeft a s t) (many : length t.cells ≡ length s.cells)
    (own : (ino : ℕ) → has slots ino ≡ true → owner_at s ino ≡ Some b) where
  not_theirs : (ino : ℕ) → has slots ino ≡ true → owner_at s ino ≢ Some a
  not_theirs ino held e = ne (same (own ino held) e) where
    same : owner_at s ino ≡ Some b → owner_at s ino ≡ Some a → b ≡ a
    same p q = ap (λ (o : Option ℕ). unwrap_or o 0) (sym p ∙ q)

  held_slot : (ino : ℕ) → has slots ino ≡ true → KeepsSlot s t ino
  held_slot ino held = (left.cells ino (not_theirs ino held), left.logs ino (not_theirs ino held))

  past_slot : (ino : ℕ) → length s.cells ≤ ino → KeepsSlot s t ino
  past_slot ino ge =
      let before = get_or_past s.cells ino no_cell ge in
      let later = get_or_past t.cells ino no_cell (omega (arith, ge, many)) in (
        later ∙ sym before,
        ap (λ (c : CellState). take (settled_tail t.book.journals ino c.chain.tail) c.chain.entries) later
            ∙ take_none (settled_tail t.book.journals ino 0) ∙ sym (take_none (settled_tail s.book.journals ino 0))
            ∙ sym (ap (λ (c : CellState). take (settled_tail s.book.journals ino c.chain.tail) c.chain.entries) before),
      )

  slot_kept : (handle : Handle) → IsLocked (length s.cells) slots handle → KeepsSlot s t handle.ino
  slot_kept handle is = elim (cases_lt handle.ino (length s.cells)) [
    | inl lt ↦ held_slot handle.ino (is lt)
    | inr ge ↦ past_slot handle.ino ge
  ]

  others_same : SameStored s t slots
  others_same = record {
    same = record {
      many = many;
      nodes = λ handle is. ap₂ (λ (c : CellState) (log : List Entry). cond (handle.generation == c.generation) (node_by c log) None)
          (slot_kept handle is).0 (slot_kept handle is).1;
      slots = λ handle is. ap₂ (λ (c : CellState) (l : List Entry). let x : InodeSlot = record { generation = c.generation; log = l } in x)
          (slot_kept handle is).0 (slot_kept handle is).1;
    };
    blocks = λ ino place b held is. ap (λ (c : CellState). slice_index_or c.blocks place None) (held_slot ino held).0 ∙ is;
  }

others_fit : (a b block : ℕ) (s t : Shared) (h : HandState) (running : Option Running) → b ≢ a → CellsLeft a s t
    → length t.cells ≡ length s.cells → HoldsIts s b running → FitsOf running block s h → FitsOf running block t h
others_fit a b block s t h None ne left many holds f = tt
others_fit a b block s t h (Some r) ne left many holds f = their_fits r.next block s t h r many
    (λ e. others_same a b s t r.slots ne left many
    (λ ino held. owner_is b (owner_at s ino) (holds.owners ino ∙ ap (λ (l : List ℕ). has l ino) e ∙ held))) f

-- ---- one event

abbrev FitsBy : ℕ → ℕ → Shared → Actor → Type 0
FitsBy block b s x = FitsOf x.running block s x.hand

-- what is left by a turn
abbrev EachFits : ℕ → World → Type 0
EachFits block v = AreSizes block v.shared × ((b : ℕ) → FitsOf (actor_at v b).running block v.shared (actor_at v b).hand)

-- the pages of its settled logs are read
pub is_read : (g : GeometryNumbers) (w : World) → IsKnown g w → IsRead (bytes_in w.shared) w.numbers.block w.shared
is_read g w known = record {
  pages = known.reached.kept.logs.pages;
  apart = known.reached.apart.cells;
  blocks = all_read g.blocks w known.numbers.once;
  sizes = known.fit.sizes;
}

module _ (g : GeometryNumbers) (w : World) (known : IsKnown g w) (actor : ℕ) where
  abbrev block : ℕ
  block = w.numbers.block

  others : (t : Shared) → CellsLeft actor w.shared t → length t.cells ≡ length w.shared.cells → (b : ℕ) → b ≢ actor
      → FitsBy block b t (actor_at w b)
  others t left many b ne = others_fit actor b block w.shared t (actor_at w b).hand (actor_at w b).running ne left many
      (known.reached.locks.each b) (known.fit.each b)

  turned_fits : (l : Lent) (t : Turn) → actor < length w.actors → OnGrown actor w.shared t → IsFramed l w.shared t → OnFits block t
      → AfterTurn (λ (s : Shared) (h : HandState). AreSizes block s) t → EachFits block (turned t actor w).world
  turned_fits l (Moves s h r) there grown frame on sizes =
      (sizes, set_one (FitsBy block) w actor (with_call h (Some r)) s there on (others s grown.0 frame.slots))
  turned_fits l Waits there grown frame on sizes = (known.fit.sizes, known.fit.each)
  turned_fits l (Ends result s h) there grown frame on sizes =
      (sizes, set_one (FitsBy block) w actor (with_call h None) s there tt (others s grown.0 frame.slots))

  module _ (granted : Bool) (r : Running) (is : (actor_at w actor).running ≡ Some r) where
    own_fits : FitsAt r.next block w.shared (actor_at w actor).hand r
    own_fits = subst (λ (o : Option Running). FitsOf o block w.shared (actor_at w actor).hand) is (known.fit.each actor)

    pub own_hand : HandAt w.numbers r.next (actor_at w actor).hand r
    own_hand =
        let own : HandOf g (actor_at w actor).hand (Some r) =
        subst (λ (o : Option Running). HandOf g (actor_at w actor).hand o) is (known.numbers.hands actor) in
        subst (λ (n : GeometryNumbers). HandAt n r.next (actor_at w actor).hand r) (sym known.numbers.numbers) own.0

    own_each : actor < length w.actors → EachFits block (turned (turn_at w actor granted r) actor w).world
    own_each there =
        let s = w.shared in
        let h = (actor_at w actor).hand in
        let k = known.reached in
        let b = before w actor r k.locks is in
        let grown = grown_standing w actor r k.locks k.kept k.grown is in
        turned_fits (lent r.next (length s.lists) actor r) (turn block actor granted s h r) there
        (grown_turn r.next block actor granted s h r grown) (framed r.next block actor granted s h r)
        (own_turn w.numbers actor s h r r.next granted (record {
          kept = kept_standing w actor r k.locks k.order k.kept k.apart is;
          grown = grown.grown;
          at = own_hand;
          fits = own_fits;
          free = λ e ino has_it. known.free actor ino r is e has_it;
        }))
        (turn_keeps (λ (t : Shared) (h : HandState). AreSizes block t) r.next block actor granted s h r known.fit.sizes
        (work_sizes r.next block actor s h r b known.fit.sizes))

    module _ (there : actor < length w.actors) (e : plain_change_of w (Go actor granted) ≡ Commits) where
      at : (commits_at r.next ≡ true) × Passed block w.shared r × Drawn block w.shared r (AllByRecursion (IsStored w.shared r.slots))
      at = point_fits r.next block actor granted w.shared (actor_at w actor).hand r
          (sym (deed_is (nat_lt actor (length w.actors)) (actor_at w actor).running w actor granted r
          (lt-ltb actor (length w.actors) there) is) ∙ e) own_fits

      -- at a commit point the plan fits
      pub fits_now : HasPlanNow (bytes_in w.shared) block w.shared r
      fits_now = plan_now (bytes_in w.shared) block w.shared (is_read g w known) known.fit.sound r known.reached.kept.some at.1 at.2

      -- and its items are lawful for what their slots have
      pub grow_now : (ino : ℕ) → (items_for r.plan ino ≡ []) ⊎ Grows block (settled w.shared ino) (items_for r.plan ino)
      grow_now = grows_now (bytes_in w.shared) block w.shared (is_read g w known) known.fit.sound r known.reached.kept.some at.1 at.2

      -- it is that of blocks that the call has filled
      pub drawn_now : Drawn block w.shared r (AllByRecursion (IsStored w.shared r.slots))
      drawn_now = at.2

      -- its call passes, and has locked what it reads
      pub passed_now : Passed block w.shared r
      passed_now = at.1

      pub passes_now : refusal block (node_in (settled_nodes w.shared)) r.call ≡ passes
      passes_now = at.1.passes

      -- and its commit is the last that was entered
      pub number_now : r.commit ≡ w.shared.book.commit
      number_now =
          let entered : CommitsIn w.shared (Some r) =
          subst (λ (o : Option Running). CommitsIn w.shared o) is (known.reached.order.each actor) in (entered at.0).commit

  begun_fits : (b : Beginning) (c : Call) (h : HandState) → h ≡ empty_hand
      → FitsOf (Some (begun b w.shared c)) block w.shared h
  begun_fits Locks c h empty = locking_fits block 0 (slots_of w.shared None nothing_looked c) w.shared h (begun Locks w.shared c)
      (ap (λ (x : HandState). slots_of w.shared x.ino nothing_looked c) (sym empty))
  begun_fits other c h empty = tt

module _ (g : GeometryNumbers) (w : World) (known : IsKnown g w) where
  event_each : (e : Event) → EachFits w.numbers.block (step w e).world
  event_each e = event_by (EachFits w.numbers.block) w (known.fit.sizes, known.fit.each) e
      (λ actor c there is. (
        known.fit.sizes,
        set_begun (FitsBy w.numbers.block) w actor c there
            (begun_fits g w known actor (beginning c) c (actor_at w actor).hand (known.reached.apart.idle actor is)) known.fit.each,
      ))
      (λ actor granted r there is. own_each g w known actor granted r is there)

  event_sound : (e : Event) → AreSound (step w e).world.shared
  event_sound = by_points w (λ (e : Event). AreSound (step w e).world.shared)
      (λ actor granted r there is e.
      let k = known.reached in
      point_is_sound (bytes_in w.shared) w actor granted r k.locks k.order k.kept k.grown k.apart there is e
      (fits_now g w known actor granted r is there e))
      (λ e keeps. let k = known.reached in sound_stays w e k.locks k.order k.kept k.apart keeps known.fit.sound)

  pub event_fits : (e : Event) → AreFit (step w e).world
  event_fits e =
      let v = (step w e).world in
      let same = sym (event_numbers w e) in
      record {
        sizes = subst (λ (n : GeometryNumbers). AreSizes n.block v.shared) same (event_each e).0;
        sound = event_sound e;
        each = λ b. subst (λ (n : GeometryNumbers). FitsOf (actor_at v b).running n.block v.shared (actor_at v b).hand) same
            ((event_each e).1 b);
      }

-- ---- a start

pub first_fit : (g : GeometryNumbers) (start : World) (records : List Record) → IsStart g start records → AreFit start
first_fit g start records is_start = record {
  sizes =
      subst (λ (n : GeometryNumbers). AreSizes n.block start.shared) (sym is_start.numbers)
      (λ ino lt. is_start.sizes ino (omega (arith, lt, is_start.slots)));
  sound = is_start.sound;
  each = λ actor. subst (λ (x : Actor). FitsOf x.running start.numbers.block start.shared x.hand) (sym (is_start.idle_all actor)) tt;
}
