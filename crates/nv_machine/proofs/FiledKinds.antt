-- Every step keeps what marks say of every slot.
use Rattle.nv_book.specs.Book.{after_pick}
use Rattle.std.proofs.lemmas.Bool.{false≢true}
use Rattle.nv_machine.proofs.StepWays.{IsClearOn}
use Rattle.nv_machine.proofs.Cleanable.{IsCleanable}
use Rattle.nv_machine.proofs.CleanedCells.{Cleans}
use Rattle.nv_machine.proofs.CleanSteps.{cleans_by, stays_at}
use Rattle.nv_machine.proofs.FiledCleans.{clean_marked}
use Rattle.nv_machine.proofs.KilledByOthers.{none_locked}
use Rattle.nv_machine.proofs.MarksInUse.{slot_marks}
use Rattle.nv_cell.specs.Cell.{log_of}
use Rattle.nv_cell.proofs.ValuesNow.{IsLog-take}
use Rattle.nv_entry.specs.Log.{IsLog}
use Rattle.nv_machine.proofs.SnapshotOrCleanerWalk.{goes_next, is_denied, next_on, picked_next, picked_slots, slots_next, tells, told_on, LeadsTo, EndsWith}
use Rattle.nv_machine.proofs.SnapshotOrCleanerAlone.{alone_walk}
use Rattle.std.proofs.lemmas.Option.{none-some}
use Rattle.nv_machine.specs.Frame.{lent}
use Rattle.nv_machine.proofs.StepFrames.{work_framed}
use Rattle.nv_machine.proofs.UnlentSteps.{files_leave}
use Rattle.nv_machine.proofs.CellChanges.{clean_cell_on, clean_slot_on, is_clean_on, killed_stays, lent_clean, lent_inside_own}
use Rattle.std.proofs.Common.{◌≡◌, ℕ, ◌+◌, ◌-◌, ◌<◌, ◌≤◌, ◌∙◌, Bool, true, false, List, [], ◌∷◌, Option, Some, None, ap, arith, length, nat_lt, refl, subst, sym}
use Rattle.std.specs.Prelude.{Ok, Err}
use Rattle.nv_alloc.specs.Numbers.{IsRising, has}
use Rattle.nv_base.specs.declared.fault.Fault.{Fault}
use Rattle.nv_base.specs.Memory.{out_of_memory}
use Rattle.nv_base.specs.declared.geometry.GeometryNumbers.{GeometryNumbers}
use Rattle.nv_book.specs.declared.record.Record.{Record}
use Rattle.nv_calls.specs.declared.answer.Answer.TheVariants as answers
use Rattle.nv_epoch.specs.SnapList.{Snapshots as Living, ids}
use Rattle.nv_machine.specs.Hands.{HandAt, HandOf, unpublished_at, unpublished_by}
use Rattle.nv_machine.specs.Held.{killed_by_actor, killed_by_call, killed_slots, parts_for, picked_at, picked_by_actor, picked_by_call, retention_at}
use Rattle.nv_machine.specs.Locks.{commits_at, commits_by, is_owner}
use Rattle.nv_machine.specs.PlainRun as plain
use Rattle.nv_machine.specs.Reads.{is_written, pages_needed, slot_at, written_slots}
use Rattle.nv_machine.specs.Recorded.{after_deed}
use Rattle.nv_machine.specs.Step.{kind_turn, turned, changed}
use Rattle.nv_machine.specs.World.{Append, Close, Draining, Drop, Ends, Enter, HandState, Leave, LockPicked, Make, Moves, Next, Open, Pick, Pin, Publish, Release, Retire, Running, Shared, Show, SnapshotOrCleanerStep, SnapshotOrCleaner, Turn, Unpin, Waits, World, actor_at, cell_at, owner_at, with_cell, Refuses, Unlock, with_book, PlanCleaning, LockCleaned, Fresh, Unlink, Compact, Ending, go_to}
use Rattle.nv_machine.proofs.FiledBooks.{ids_pinned}
use Rattle.nv_machine.proofs.FiledCommits.{append_marked, publish_marked, retire_marked}
use Rattle.nv_machine.proofs.FiledLists.{none_first}
use Rattle.nv_machine.proofs.FiledPicks.{none_killed, none_on, none_picked, picked_after, picks, none_goes, none_leads}
use Rattle.nv_machine.proofs.FiledRuns.{IsListable, can_list}
use Rattle.nv_machine.proofs.FiledSnaps.{drop_marked, make_marked, pick_marked, release_marked}
use Rattle.nv_machine.proofs.FiledTurns.{CanList, Listed, entered_same, list_after, published_same}
use Rattle.nv_machine.proofs.FiledWorlds.{AreMarked, IsQuiet, KeepsShares, quiet_marked, same_quiet, turned_quiet}
use Rattle.nv_machine.proofs.StepWork.{work, snapshot_or_cleaner_work}
use Rattle.nv_machine.proofs.WorkKeeps.{AfterTurn, turn_keeps}
use Rattle.nv_machine.proofs.Lists.{rising_filter}
use Rattle.nv_machine.proofs.LocksHeld.{Before, lent_holder}
use Rattle.nv_machine.proofs.LocksOverEvents.{before}
use Rattle.nv_machine.proofs.BlockNumbers.{clean_settled, lent_inside}
use Rattle.nv_machine.proofs.PartsFor.{none_for, retiring_slots}
use Rattle.nv_machine.proofs.LoopSteps.{appending_on, publishing_on, retiring_on, is_on_files}
use Rattle.nv_machine.proofs.HandsInCommits.{none_in}
use Rattle.nv_machine.specs.Sequence.{slots_on}

-- ---- small things

-- a call outside a commit has published all that it appended
none_unpublished : (running : Option Running) (ino : ℕ) → commits_by running ≡ false → has (unpublished_by running) ino ≡ false
none_unpublished None ino out = refl
none_unpublished (Some r) ino out = go r.next out where
  go : (k : Next) → commits_at k ≡ false → has (unpublished_at k (written_slots r)) ino ≡ false
  go (Append place) e = cc
  go Open e = cc
  go (Publish place) e = cc
  go other e = refl

module _ (g : GeometryNumbers) (w : World) (known : IsListable g w) (rs : List Record) (l : Listed rs w.shared) (m : AreMarked w rs)
    (a block : ℕ) (granted : Bool) (r : Running) (there : a < length w.actors) (is : (actor_at w a).running ≡ Some r) where
  abbrev s : Shared
  s = w.shared

  abbrev h : HandState
  h = (actor_at w a).hand

  abbrev living : List ℕ
  living = ids w.shared.book.snaps

  -- ---- what is known of the step

  hand_at : (k : Next) → r.next ≡ k → HandAt g k h r
  hand_at k e =
      let own : HandOf g h (Some r) = subst (λ (o : Option Running). HandOf g h o) is (known.numbers.hands a) in
      subst (λ (k : Next). HandAt g k h r) e own.0

  before_it : (k : Next) → r.next ≡ k → Before a s k r
  before_it k e = subst (λ (k : Next). Before a s k r) e (before w a r known.locks is)

  can : CanList r.next s h r
  can = can_list g w a r known is

  own_killed : h.killed ≡ [] → (ino : ℕ) → killed_by_actor ino (actor_at w a) ≡ []
  own_killed none ino =
      ap (λ (o : Option Running). killed_by_call o h ino) is ∙ none_for (killed_slots r.next (written_slots r)) h.killed ino none

  own_picks : (k : Next) → r.next ≡ k → picked_by_actor (actor_at w a) ≡ picked_at k
  own_picks k e = ap (λ (o : Option Running). picked_by_call o) is ∙ ap picked_at e

  within : (ino : ℕ) → (cell_at s ino).chain.tail ≤ length (cell_at s ino).chain.entries
  within ino = (known.numbers.cells ino).within

  -- ---- kinds that leave cells and snapshots, and have nothing killed

  shares : (t : Turn) → AfterTurn (λ (u : Shared) (g : HandState). g.killed ≡ []) t → picked_after t ≡ []
      → ((ino : ℕ) → killed_by_actor ino (actor_at w a) ≡ []) → picked_by_actor (actor_at w a) ≡ [] → KeepsShares (actor_at w a) t
  shares (Moves u x q) none now own had =
      (λ ino. none_for (killed_slots q.next (written_slots q)) x.killed ino none ∙ sym (own ino), now ∙ sym had)
  shares Waits none now own had = tt
  shares (Ends result u x) none now own had = (λ ino. sym (own ino), sym had)

  abbrev KindTurn : Next → Turn
  KindTurn k = kind_turn k block a granted s h r

  quiet : (k : Next) → r.next ≡ k → picks k ≡ false → picked_at k ≡ [] → h.killed ≡ [] → (work k block a s h r).hand.killed ≡ []
      → IsQuiet s (work k block a s h r).shared → AreMarked (turned (KindTurn k) a w).world rs
  quiet k e other none killed after left =
      turned_quiet (KindTurn k) w a rs
      (turn_keeps (λ (u : Shared) (x : HandState). IsQuiet s u) k block a granted s h r (same_quiet s) left)
      (shares (KindTurn k) (turn_keeps (λ (u : Shared) (x : HandState). x.killed ≡ []) k block a granted s h r killed after)
      (none_picked k block a granted s h r other) (own_killed killed) (own_picks k e ∙ none))
      m

  none_now : (k : Next) → r.next ≡ k → commits_at k ≡ false → h.killed ≡ []
  none_now k e out = none_killed g k h r out (hand_at k e)

  -- a kind that is lent no cell leaves cells and snapshots
  quiet_work : (k : Next) → is_on_files k ≡ true → (lent k (length s.lists) a r).cell ≡ None → IsQuiet s (work k block a s h r).shared
  quiet_work k on none =
      let left = files_leave k block a s h r on in record {
        cells = λ ino. (work_framed k block a s h r).cells ino (λ is_lent. none-some ino (sym none ∙ is_lent));
        living = ap ids left.snaps;
        epoch = ap (λ (l : Living). l.epoch) left.snaps;
      }

  -- ---- calls on snapshots

  abbrev AfterStep : SnapshotOrCleanerStep → Turn → Type 0
  AfterStep step t = AreMarked (turned t a w).world (after_deed (plain.done_on step t) living rs)

  module _ (step : SnapshotOrCleanerStep) (next : r.next ≡ SnapshotOrCleaner step) where
    nothing : h.killed ≡ []
    nothing = none_in step h (can.alone step next).0

    -- no part of its call is killed, and what it has picked is this
    own_none : (ino : ℕ) → [] ≡ killed_by_actor ino (actor_at w a)
    own_none ino = sym (own_killed nothing ino)

    own_picked : picked_by_actor (actor_at w a) ≡ picked_at (SnapshotOrCleaner step)
    own_picked = own_picks (SnapshotOrCleaner step) next

    -- cells and snapshots stay, and what is picked, with any hand
    kept : (u : Shared) (x : HandState) (running : Option Running) → IsQuiet s u → ((ino : ℕ) → killed_by_call running x ino ≡ [])
        → picked_by_call running ≡ picked_at (SnapshotOrCleaner step) → AreMarked (changed u x running a w) rs
    kept u x running left none same =
        quiet_marked w a rs u x running left (λ ino. none ino ∙ own_none ino) (same ∙ sym own_picked) m

    tails : s.holder ≡ None → (ino : ℕ) → (cell_at s ino).chain.tail ≡ length (cell_at s ino).chain.entries
    tails free ino =
        known.numbers.tails ino (λ b. none_unpublished (actor_at w b).running ino
        (sym (known.locks.each b).holder ∙ ap (is_owner b) free))

  refused_marked : (step : SnapshotOrCleanerStep) → r.next ≡ SnapshotOrCleaner step → (fault : Fault) → is_denied step ≡ true
      → AfterStep step (Ends (Err fault) s h)
  refused_marked Make next fault on = kept Make next s h None (same_quiet s) (λ ino. refl) refl
  refused_marked (Drop snapshot) next fault on = kept (Drop snapshot) next s h None (same_quiet s) (λ ino. refl) refl
  refused_marked (Pin snapshot) next fault on = kept (Pin snapshot) next s h None (same_quiet s) (λ ino. refl) refl
  refused_marked (Pick draining) next fault on = kept (Pick draining) next s h None (same_quiet s) (λ ino. refl) refl
  refused_marked (PlanCleaning manner slot) next fault on = kept (PlanCleaning manner slot) next s h None (same_quiet s) (λ ino. refl) refl
  refused_marked other next fault on = absurd (false≢true on)

  -- behind its work, where another step of these comes next
  goes_marked : (step : SnapshotOrCleanerStep) → r.next ≡ SnapshotOrCleaner step → goes_next step ≡ true → IsClearOn step s
      → AfterStep step (Moves (snapshot_or_cleaner_work step a s h).shared (snapshot_or_cleaner_work step a s h).hand
      (record r { slots = slots_next step s r; next = SnapshotOrCleaner (next_on step s) }))
  goes_marked (Pin snapshot) next on clear =
      kept (Pin snapshot) next _ h _
      (record { cells = λ i. refl; living = ids_pinned s.book.snaps.living snapshot (λ pins. pins + 1); epoch = refl })
      (λ ino. refl) (none_goes (Pin snapshot) s refl on)
  goes_marked (Show snapshot showing) next on clear =
      kept (Show snapshot showing) next s h _ (same_quiet s) (λ ino. refl) (none_goes (Show snapshot showing) s refl on)
  goes_marked (Pick draining) next on clear = go s.book.deferred refl clear.1 where
    go : (deferred : List Record) → s.book.deferred ≡ deferred → 0 < length deferred
        → AfterStep (Pick draining) (Moves (with_book (after_pick s.book) s) h
        (record r { slots = picked_slots deferred; next = SnapshotOrCleaner (picked_next deferred draining) }))
    go [] e some = absurd (omega (arith, some))
    go (d ∷ ds) e some =
        pick_marked w a rs known.locks clear.0 known.order.logs l m h _ (own_none (Pick draining) next) d ds e there
        (own_picked (Pick draining) next) refl
  goes_marked (LockPicked draining picked) next on clear =
      kept (LockPicked draining picked) next _ h _ (record { cells = λ i. refl; living = refl; epoch = refl }) (λ ino. refl) refl
  goes_marked (LockCleaned manner ino) next on clear =
      kept (LockCleaned manner ino) next _ h _ (record { cells = λ i. refl; living = refl; epoch = refl }) (λ i. refl) refl
  goes_marked other next on clear = absurd (false≢true on)

  -- a planning and a taking leave cells and book
  leads_marked : (step : SnapshotOrCleanerStep) → r.next ≡ SnapshotOrCleaner step → (after : SnapshotOrCleanerStep) → LeadsTo step after
      → AfterStep step (Moves (snapshot_or_cleaner_work step a s h).shared (snapshot_or_cleaner_work step a s h).hand (go_to (SnapshotOrCleaner after) r))
  leads_marked (PlanCleaning manner slot) next after leads =
      kept (PlanCleaning manner slot) next s h (Some (go_to (SnapshotOrCleaner after) r)) (same_quiet s) (λ ino. refl)
      (none_leads (PlanCleaning manner slot) after leads)
  leads_marked (Fresh ino asked wanted) next after leads =
      kept (Fresh ino asked wanted) next _ _ (Some (go_to (SnapshotOrCleaner after) r))
      (record { cells = λ i. refl; living = refl; epoch = refl }) (λ i. refl)
      (none_leads (Fresh ino asked wanted) after leads)
  leads_marked other next after leads = absurd (false≢true leads.from)

  -- where a planning refuses its call, with a slot locked
  unlocks_marked : (step : SnapshotOrCleanerStep) → r.next ≡ SnapshotOrCleaner step → (fault : Fault) → is_denied step ≡ true
      → 0 < length (slots_on step) → AfterStep step (Moves s h (record r { ending = Refuses fault; next = Unlock 0 }))
  unlocks_marked (PlanCleaning manner slot) next fault on some = kept (PlanCleaning manner slot) next s h _ (same_quiet s) (λ ino. refl) refl
  unlocks_marked Make next fault on some = absurd (omega (arith, some))
  unlocks_marked (Drop snapshot) next fault on some = absurd (omega (arith, some))
  unlocks_marked (Pin snapshot) next fault on some = absurd (omega (arith, some))
  unlocks_marked (Pick draining) next fault on some = absurd (omega (arith, some))
  unlocks_marked other next fault on some = absurd (false≢true on)

  told_marked : (step : SnapshotOrCleanerStep) → r.next ≡ SnapshotOrCleaner step → tells step ≡ true → IsClearOn step s
      → AfterStep step (Ends (told_on step s r) (snapshot_or_cleaner_work step a s h).shared (snapshot_or_cleaner_work step a s h).hand)
  told_marked Make next on clear =
      make_marked w a rs known.locks clear.0 known.order.logs l m h None (own_none Make next) (sym (own_picked Make next))
      (tails Make next clear.0)
  told_marked (Drop snapshot) next on clear =
      drop_marked w a rs known.locks clear.0 known.order.logs l m h None (own_none (Drop snapshot) next) snapshot
      (sym (own_picked (Drop snapshot) next))
  told_marked (Unpin snapshot seen) next on clear =
      kept (Unpin snapshot seen) next _ h None
      (record { cells = λ i. refl; living = ids_pinned s.book.snaps.living snapshot (λ pins. pins - 1); epoch = refl })
      (λ ino. refl) refl
  told_marked other next on clear = absurd (false≢true on)

  -- a cleaning keeps the records of its slot, and no part of it is killed
  module _ (step : SnapshotOrCleanerStep) (ready : IsCleanable (SnapshotOrCleaner step) block s h r) (next : r.next ≡ SnapshotOrCleaner step)
      (cleans : is_clean_on step ≡ true) where
    abbrev slot : ℕ
    slot = clean_slot_on step

    own : (slot < length s.cells) × (owner_at s slot ≡ Some a)
    own =
        lent_inside_own (SnapshotOrCleaner step) a s r (before_it (SnapshotOrCleaner step) next) slot
        (lent_clean (SnapshotOrCleaner step) (length s.lists) a r cleans)

    log_is : IsLog (log_of (cell_at s slot))
    log_is = IsLog-take (cell_at s slot).chain.tail (cell_at s slot).chain.entries (known.order.logs slot).ordered

    by_records : Cleans (retention_at w slot) (stays_at (SnapshotOrCleaner step) s) (cell_at s slot) (clean_cell_on step s h)
    by_records =
        cleans_by (SnapshotOrCleaner step) block s h r cleans own.0
        (clean_settled w a r (SnapshotOrCleaner step) block next known.locks known.numbers.tails is (before_it (SnapshotOrCleaner step) next)
        cleans)
        ready (retention_at w slot) (slot_marks w rs l m slot log_is)

    cleaned : (x : HandState) (q : Running) → ((ino : ℕ) → killed_by_call (Some q) x ino ≡ [])
        → picked_at q.next ≡ picked_at (SnapshotOrCleaner step)
        → AreMarked (changed (with_cell slot (clean_cell_on step s h) s) x (Some q) a w) rs
    cleaned x q none picked =
        clean_marked w a slot rs x (Some q) (stays_at (SnapshotOrCleaner step) s) (clean_cell_on step s h) by_records own.0 log_is
        (none_locked w a slot known.locks own.1 (own_killed (nothing step next) slot)) (λ ino. none ino ∙ own_none step next ino)
        (picked ∙ sym (own_picked step next)) m

  over_marked : (step : SnapshotOrCleanerStep) → IsCleanable (SnapshotOrCleaner step) block s h r → r.next ≡ SnapshotOrCleaner step → (e : Ending)
      → EndsWith step a s h e
      → AfterStep step (Moves (snapshot_or_cleaner_work step a s h).shared (snapshot_or_cleaner_work step a s h).hand
      (record r { ending = e; next = Unlock 0 }))
  over_marked (Release d picked) ready next e is =
      let step = Release d picked in
      let low = lent_inside (SnapshotOrCleaner step) a s r (before_it (SnapshotOrCleaner step) next) picked.ino refl in
      release_marked w a rs picked _ _ there (own_none step next) (own_picked step next) refl low (known.order.logs picked.ino).ordered m
  over_marked (PlanCleaning manner slot) ready next e is = kept (PlanCleaning manner slot) next s h _ (same_quiet s) (λ ino. refl) refl
  over_marked (Fresh ino asked wanted) ready next e is =
      kept (Fresh ino asked wanted) next _ _ _ (record { cells = λ i. refl; living = refl; epoch = refl }) (λ i. refl) refl
  over_marked (Unlink ino) ready next e is =
      cleaned (Unlink ino) ready next refl (snapshot_or_cleaner_work (Unlink ino) a s h).hand (record r { ending = e; next = Unlock 0 })
      (λ i. refl) refl
  over_marked (Compact ino) ready next e is =
      cleaned (Compact ino) ready next refl (snapshot_or_cleaner_work (Compact ino) a s h).hand (record r { ending = e; next = Unlock 0 })
      (λ i. refl) refl
  over_marked other ready next e is = absurd is

  none_marked : (step : SnapshotOrCleanerStep) → r.next ≡ SnapshotOrCleaner step → (draining : Draining) → step ≡ Pick draining
      → s.book.deferred ≡ []
      → AfterStep step (Ends (Ok (answers.Count draining.released)) s h)
  none_marked (Pick d) next draining on empty =
      subst (AreMarked (turned (Ends (Ok (answers.Count draining.released)) s h) a w).world)
      (sym (none_first living rs (sym l.list.deferred_is ∙ empty)))
      (kept (Pick d) next s h None (same_quiet s) (λ ino. refl) refl)
  none_marked other next draining on empty = cc

  snapshot_marked : (step : SnapshotOrCleanerStep) → r.next ≡ SnapshotOrCleaner step → IsCleanable (SnapshotOrCleaner step) block s h r
      → AfterStep step (KindTurn (SnapshotOrCleaner step))
  snapshot_marked step next ready =
      alone_walk (AfterStep step) step a granted s h r (can.alone step next).0 (can.alone step next).1 (record {
        waits = m;
        refused = refused_marked step next;
        goes = goes_marked step next;
        told = told_marked step next;
        denied = λ snapshot showing on.
            let q : Running = record r { ending = Refuses out_of_memory; next = SnapshotOrCleaner (Unpin snapshot []) } in
            subst (λ (x : SnapshotOrCleanerStep). AreMarked (turned (Moves s h q) a w).world (after_deed (plain.Maintains x) living rs))
            (sym on)
            (kept step next s h (Some q) (same_quiet s) (λ ino. refl)
            (sym (ap (λ (x : SnapshotOrCleanerStep). picked_at (SnapshotOrCleaner x)) on)));
        unlocks = unlocks_marked step next;
        leads_on = leads_marked step next;
        over = over_marked step ready next;
        none = none_marked step next;
      })

  -- ---- every kind

  rising : (k : Next) → r.next ≡ k → IsRising (written_slots r)
  rising k e = rising_filter (is_written r.plan) r.slots (before_it k e).are.rising

  epoch_of : (k : Next) → r.next ≡ k → commits_at k ≡ true → r.epoch ≡ s.book.snaps.epoch
  epoch_of k e c = can.epoch (ap commits_at e ∙ c)

  pub kind_marked : (k : Next) → r.next ≡ k → IsCleanable k block s h r
      → AreMarked (turned (KindTurn k) a w).world (list_after k s h r (KindTurn k) rs)
  kind_marked Enter e ready =
      let none = none_now Enter e refl in
      subst (AreMarked (turned (KindTurn Enter) a w).world) (sym (entered_same (KindTurn Enter) living rs))
      (quiet Enter e refl refl none none (quiet_work Enter refl refl))
  kind_marked (Append place) e ready =
      let slot = slot_at (written_slots r) place in
      let b = before_it (Append place) e in
      append_marked w a rs r there known.locks (lent_holder (Append place) a s r b refl) is (epoch_of (Append place) e refl) m slot
      (pages_needed s r.plan slot) place e (lent_inside (Append place) a s r b slot refl) (within slot) (hand_at (Append place) e).killed
      (none_on _ (appending_on (place + 1) (written_slots r)))
  kind_marked Open e ready = let none = hand_at Open e in quiet Open e refl refl none none (quiet_work Open refl refl)
  kind_marked (Publish place) e ready =
      let slot = slot_at (written_slots r) place in
      let b = before_it (Publish place) e in
      subst (AreMarked (turned (KindTurn (Publish place)) a w).world)
      (sym (published_same (nat_lt 1 (length (written_slots r))) living rs))
      (publish_marked w a rs r there known.locks (lent_holder (Publish place) a s r b refl) is (epoch_of (Publish place) e refl) m place e
      b.inside (rising (Publish place) e) (lent_inside (Publish place) a s r b slot refl) (known.order.logs slot).ordered (within slot)
      (hand_at (Publish place) e) (none_on _ (publishing_on (place + 1) (written_slots r))))
  kind_marked Close e ready =
      quiet_marked w a rs _ _ _ (record { cells = λ i. refl; living = refl; epoch = refl })
      (λ ino. ap (λ (slots : List ℕ). parts_for slots h.killed ino) (retiring_slots 0 (written_slots r))
      ∙ sym (ap (λ (o : Option Running). killed_by_call o h ino) is
      ∙ ap (λ (k : Next). parts_for (killed_slots k (written_slots r)) h.killed ino) e))
      (none_on _ (retiring_on 0 (written_slots r)) ∙ sym (own_picks Close e)) m
  kind_marked (Retire place) e ready =
      let slot = slot_at (written_slots r) place in
      let b = before_it (Retire place) e in
      retire_marked w a rs r there known.locks (lent_holder (Retire place) a s r b refl) is (epoch_of (Retire place) e refl) m place e
      b.inside (rising (Retire place) e) (lent_inside (Retire place) a s r b slot refl) (known.order.logs slot).ordered
      (hand_at (Retire place) e) (none_on _ (retiring_on (place + 1) (written_slots r)))
  kind_marked Leave e ready = let none = hand_at Leave e in quiet Leave e refl refl none none (quiet_work Leave refl refl)
  kind_marked (SnapshotOrCleaner step) e ready = snapshot_marked step e ready
  kind_marked other e ready =
      let none = none_now other e refl in
      quiet other e refl refl none (killed_stays other block a s h r refl ∙ none) (quiet_work other refl refl)
