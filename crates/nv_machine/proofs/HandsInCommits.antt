-- What the hand of an actor has along a commit, and after every kind of step.
use Rattle.nv_machine.proofs.CellChanges.{hand_freed, killed_on, on_step, removal_on, is_clean_on}
use Rattle.std.proofs.Common.{Bool, List, None, Option, Some, [], add-one, ap, arith, drop, drop-cons, false, if◌then◌else◌, length, length-append, nat_lt, refl, subst, suc, sym, take, true, zero, ℕ, ◌++◌, ◌+◌, ◌-◌, ◌<◌, ◌^◌, ◌∙◌, ◌∷◌, ◌≡◌, ◌≤◌}
use Rattle.std.specs.List.{flat_map}
use Rattle.std.proofs.lemmas.Bool.{false≢true, ltb-false, true≢false}
use Rattle.std.proofs.lemmas.List.{drop-drop}
use Rattle.nv_alloc.specs.Block.{AreSized, BlockValue, numbers_of}
use Rattle.nv_alloc.specs.Numbers.{times}
use Rattle.nv_base.specs.declared.geometry.GeometryNumbers.{GeometryNumbers}
use Rattle.nv_calls.specs.Retiring.{number_back}
use Rattle.nv_calls.specs.Slots.{entries_of, items_for, place_in}
use Rattle.nv_calls.proofs.Appends.{front, map-drop}
use Rattle.nv_cell.specs.Cell.{CellState}
use Rattle.nv_entry.specs.Blocks.{item_blocks}
use Rattle.nv_entry.specs.declared.item.Entry.{Entry}
use Rattle.nv_entry.specs.declared.item.Item.{Item}
use Rattle.nv_machine.specs.Hands.{AreGiven, FitsFile, HandAt, HandOf, HasPlanned, is_going, planned_blocks, HandOn, HasPagesAlone}
use Rattle.nv_machine.specs.Kinds.{asked_list, blocks_in, blocks_left, entries_for, first_killed, given, retired_cell, with_erased, with_freed, with_given}
use Rattle.nv_machine.specs.Reads.{slot_at, written_slots}
use Rattle.nv_machine.specs.Sequence.{appending, closing, opening, publishing, retiring}
use Rattle.nv_machine.specs.SnapshotOrCleaner.{snapshot_or_cleaner_turn}
use Rattle.nv_machine.specs.Step.{kind_turn}
use Rattle.nv_machine.specs.World.{Answers, Append, ReturnNumber, Check, Close, Drop, Ending, Enter, Give, HandState, Leave, Lock, LockPicked, Look, Make, Next, Number, Open, Pick, Pin, Publish, Ready, Retire, Running, Shared, Show, SnapshotOrCleanerStep, SnapshotOrCleaner, TakeBlocks, TakeLogPages, Unlock, Unpin, Visit, empty_hand, go_to, list_at, LockCleaned, Fresh, Unlink, Compact, PlanCleaning}
use Rattle.nv_machine.proofs.BlockCounts.{given_all}
use Rattle.nv_machine.proofs.StepWork.{return_number_work, work, snapshot_or_cleaner_work}
use Rattle.nv_machine.proofs.HandsAfterSteps.{GoesHome, HandGoes, HandTold, OnHand, denied_hand, ends_hand, is_empty, lasts_hand, locking_hand, looking_hand, number_hand, overs_hand, rests_hand}
use Rattle.nv_machine.proofs.HandsInTakings.{check_fits, check_overtaken, first_below, ready_planned}
use Rattle.nv_machine.proofs.Homes.{all_given}
use Rattle.nv_machine.proofs.LocksHeld.{Before}
use Rattle.nv_machine.proofs.PartPlaces.{entry_blocks}
use Rattle.nv_machine.proofs.LoopSteps.{by_test, either}
use Rattle.nv_machine.proofs.StepWays.{is_overtaken, noted, take_sum}
use Rattle.nv_machine.proofs.StepWalk.{WaysOf, counted, walk_of}
use Rattle.nv_machine.proofs.SnapshotOrCleanerWalk.{goes_next, next_on, slots_next, snapshot_or_cleaner_walk, tells, ends_apart, step_walk_by, LeadsTo, goes_plain, is_cleaning}
use Rattle.nv_machine.proofs.SnapshotOrCleanerAlone.{denied_empty}
use Rattle.nv_cell.specs.Readers.{is_erased}
use Rattle.nv_machine.specs.Lenders.{takes_fresh}

-- ---- along a commit

no_length : {X : Type 0} (xs : List X) → length xs ≡ 0 → xs ≡ []
no_length [] h = refl
no_length (x ∷ xs) h = absurd (omega (arith, h))

abbrev Goes : GeometryNumbers → HandState → Next → Running → Type 0
Goes g h next r = HandOf g h (Some (go_to next r))

module _ (g : GeometryNumbers) (h : HandState) (r : Running) (going : r.ending ≡ Answers) where
  abbrev written_ : List ℕ
  written_ = written_slots r

  abbrev To : Next → Type 0
  To next = Goes g h next r

  retiring_hand : (place : ℕ) → length h.killed + place ≡ length written_ → To (retiring place written_)
  retiring_hand place killed =
      by_test To (nat_lt place (length written_)) (Retire place) Leave (λ e. (killed, λ e. going))
      (λ e. (no_length h.killed (omega (arith, killed, ltb-false place (length written_) e)), λ e. going))

  publishing_hand : (place : ℕ) → length h.killed ≡ place → place ≤ length written_ → To (publishing place written_)
  publishing_hand place killed few =
      by_test To (nat_lt place (length written_)) (Publish place) (closing written_) (λ e. (killed, λ e. going))
      (λ e. let all : length h.killed ≡ length written_ = omega (arith, killed, few, ltb-false place (length written_) e) in
      either To (nat_lt 1 (length written_)) Close (retiring 0 written_) (all, λ e. going) (retiring_hand 0 (omega (arith, all))))

  appending_hand : (place : ℕ) → HasPlanned h r (drop place written_) → To (appending place written_)
  appending_hand place planned =
      either To (nat_lt place (length written_)) (Append place) (opening written_)
      (record { killed = planned.killed; enough = planned.enough; first = planned.first; within = planned.within }, λ e. going)
      (either To (nat_lt 1 (length written_)) Open (publishing 0 written_) (planned.killed, λ e. going)
      (publishing_hand 0 (ap length planned.killed) (omega arith)))

-- what an append leaves in the hand
pub entry_blocks_are : (commit epoch place : ℕ) (items : List Item)
    → entry_blocks (entries_of commit epoch place items) ≡ flat_map item_blocks items
entry_blocks_are commit epoch place [] = refl
entry_blocks_are commit epoch place (item ∷ items) =
    ap (λ (l : List ℕ). item_blocks item ++ l) (entry_blocks_are commit epoch (place + 1) items)

left_count : (entries : List _) (bs : List BlockValue) → length (blocks_left entries bs) ≡ length bs - length (entry_blocks entries)
left_count [] bs = omega arith
left_count (e ∷ entries) bs =
    let k = length (item_blocks e.item) in
    let more = left_count entries (drop k bs) in
    omega (arith, more, later k bs, length-append (item_blocks e.item) (entry_blocks entries)) where
      later : (n : ℕ) (xs : List BlockValue) → length (drop n xs) ≡ length xs - n
      later zero xs = omega arith
      later (suc n) [] = omega arith
      later (suc n) (x ∷ xs) = later n xs ∙ (let e : length xs - n ≡ suc (length xs) - suc n = omega arith in e)

-- what is left are the blocks behind those
left_numbers : (entries : List Entry) (bs : List BlockValue)
    → numbers_of (blocks_left entries bs) ≡ drop (length (entry_blocks entries)) (numbers_of bs)
left_numbers [] bs = refl
left_numbers (e ∷ entries) bs =
    let k = length (item_blocks e.item) in
    let total : length (item_blocks e.item ++ entry_blocks entries) ≡ k + length (entry_blocks entries) =
    length-append (item_blocks e.item) (entry_blocks entries) in
    left_numbers entries (drop k bs) ∙ ap (drop (length (entry_blocks entries))) (map-drop k bs)
    ∙ drop-drop (length (entry_blocks entries)) k (numbers_of bs) ∙ ap (λ (n : ℕ). drop n (numbers_of bs)) (sym total)

-- the blocks of the slot at a place, and of those behind it
planned_next : (r : Running) (place : ℕ) → place < length (written_slots r)
    → planned_blocks r.plan (drop place (written_slots r))
    ≡ entry_blocks (entries_for r (slot_at (written_slots r) place)) ++ planned_blocks r.plan (drop (place + 1) (written_slots r))
planned_next r place inside =
    let slots = written_slots r in
    let ino = slot_at slots place in
    ap (planned_blocks r.plan) (drop-cons slots place 0 inside)
    ∙ ap (λ (l : List ℕ). l ++ planned_blocks r.plan (drop (suc place) slots))
    (sym (entry_blocks_are r.commit r.epoch (place_in r.plan ino) (items_for r.plan ino)))
    ∙ ap (λ (n : ℕ). entry_blocks (entries_for r ino) ++ planned_blocks r.plan (drop n slots)) (sym (add-one place))

abbrev Cut : ℕ → HandState → Running → Type 0
Cut place h r =
    (take (length (entry_blocks (entries_for r (slot_at (written_slots r) place)))) (numbers_of h.blocks)
    ≡ entry_blocks (entries_for r (slot_at (written_slots r) place)))
    × (take (length (planned_blocks r.plan (drop (place + 1) (written_slots r))))
    (drop (length (entry_blocks (entries_for r (slot_at (written_slots r) place)))) (numbers_of h.blocks))
    ≡ planned_blocks r.plan (drop (place + 1) (written_slots r)))

cut_at : (place : ℕ) (h : HandState) (r : Running) → place < length (written_slots r) → HasPlanned h r (drop place (written_slots r))
    → Cut place h r
cut_at place h r inside planned =
    let own = entry_blocks (entries_for r (slot_at (written_slots r) place)) in
    let rest = planned_blocks r.plan (drop (place + 1) (written_slots r)) in
    front own rest (numbers_of h.blocks)
    (subst (λ (l : List ℕ). take (length l) (numbers_of h.blocks) ≡ l) (planned_next r place inside) planned.first)

pub slot_first : (place : ℕ) (h : HandState) (r : Running) → place < length (written_slots r)
    → HasPlanned h r (drop place (written_slots r))
    → take (length (entry_blocks (entries_for r (slot_at (written_slots r) place)))) (numbers_of h.blocks)
    ≡ entry_blocks (entries_for r (slot_at (written_slots r) place))
slot_first place h r inside planned = (cut_at place h r inside planned).0

append_planned : (place pages : ℕ) (h : HandState) (r : Running) → place < length (written_slots r)
    → HasPlanned h r (drop place (written_slots r))
    → HasPlanned
    (record h { blocks = blocks_left (entries_for r (slot_at (written_slots r) place)) h.blocks; pages = drop pages h.pages }) r
    (drop (place + 1) (written_slots r))
append_planned place pages h r inside planned =
    let ino = slot_at (written_slots r) place in
    let rest = planned_blocks r.plan (drop (place + 1) (written_slots r)) in
    let own = entry_blocks (entries_for r ino) in
    let all = ap length (planned_next r place inside) in
    record {
      killed = planned.killed;
      enough = omega (arith, planned.enough, all, length-append own rest, left_count (entries_for r ino) h.blocks);
      first = ap (take (length rest)) (left_numbers (entries_for r ino) h.blocks) ∙ (cut_at place h r inside planned).1;
      within = planned.within;
    }

pub erased_killed : (ino : ℕ) (cell : CellState) (h : HandState) → (with_erased ino cell h).killed ≡ h.killed
erased_killed ino cell h = go (is_erased cell) where
  go : (b : Bool) → (if b then record h { chain = h.chain ++ cell.chain.blocks; ino = number_back ino cell h.ino } else h).killed ≡ h.killed
  go true = refl
  go false = refl

dropped : {X : Type 0} (xs : List X) (n m : ℕ) → length xs + n ≡ m → n < m → length (drop 1 xs) + (n + 1) ≡ m
dropped [] n m e lt = absurd (omega (arith, e, lt))
dropped (x ∷ xs) n m e lt = omega (arith, e)

-- what is shared and the hand before the last steps, where a step makes them in its turn
abbrev pub AllGoHome : GeometryNumbers → Next → Shared → HandState → Running → ℕ → ℕ → Type 0
AllGoHome g k s h r block a =
    GoesHome g s h × GoesHome g (work k block a s h r).shared (work k block a s h r).hand

-- blocks at home on a CPU are taken there
abbrev pub CanGive : GeometryNumbers → Next → Shared → HandState → Type 0
CanGive g (Give cpu) s h = AreSized g.block (blocks_in h)
    × ((n : ℕ) → times n (numbers_of (blocks_in h)) + times n (numbers_of (list_at s cpu).blocks) ≤ 1)
CanGive g other s h = Unit {0}

-- ---- calls on snapshots

not_cleaning : (step : SnapshotOrCleanerStep) (h : HandState) → h ≡ empty_hand → is_cleaning step ≡ false → HandOn step h
not_cleaning (Fresh ino asked wanted) h empty plain = absurd (true≢false plain)
not_cleaning (Compact ino) h empty plain = absurd (true≢false plain)
not_cleaning other h empty plain = empty

-- an empty hand has no more than log pages
pages_empty : (h : HandState) → h ≡ empty_hand → HasPagesAlone h
pages_empty h empty = empty ∙ sym (ap (λ (x : HandState). record empty_hand { pages = x.pages }) empty)

-- before such a step a hand has no more, so that no part of it is killed; a cleaning kills none
pub alone_on : (step : SnapshotOrCleanerStep) (h : HandState) → HandOn step h → HasPagesAlone h
alone_on (Fresh ino asked wanted) h at = at
alone_on (Compact ino) h at = at
alone_on other h at = pages_empty h at

pub none_in : (step : SnapshotOrCleanerStep) (h : HandState) → HandOn step h → h.killed ≡ []
none_in step h at = ap (λ (x : HandState). x.killed) (alone_on step h at)

clean_killed : (step : SnapshotOrCleanerStep) (a : ℕ) (s : Shared) (h : HandState) → is_clean_on step ≡ true
    → (snapshot_or_cleaner_work step a s h).hand.killed ≡ h.killed
clean_killed (Unlink ino) a s h is = refl
clean_killed (Compact ino) a s h is = refl
clean_killed other a s h is = absurd (false≢true is)

-- before a step that goes on with a taking or a clean step
fresh_alone : (ino asked wanted a : ℕ) (s : Shared) (h : HandState) → HasPagesAlone h
    → HasPagesAlone (snapshot_or_cleaner_work (Fresh ino asked wanted) a s h).hand
fresh_alone ino asked wanted a s h alone =
    ap (λ (x : HandState). record x { pages = h.pages ++ take wanted (list_at s (asked_list (length s.lists) a asked)).blocks }) alone

-- every step but a taking
other_hand : (g : GeometryNumbers) (step : SnapshotOrCleanerStep) (a : ℕ) (granted : Bool) (s : Shared) (h : HandState) (r : Running)
    → takes_fresh step ≡ false → AllGoHome g (SnapshotOrCleaner step) s h r g.block a → HandOn step h
    → (is_going (SnapshotOrCleaner step) ≡ true → r.ending ≡ Answers) → OnHand g (snapshot_or_cleaner_turn step a granted s h r)
other_hand g step a granted s h r apart goes hand going = snapshot_or_cleaner_walk (HandGoes g) HandTold a s h r step granted (record {
  stops = λ fault cause. denied_hand g s h goes.0 (ap (λ (x : HandState). x.killed) (denied_empty step h cause.0 hand));
  goes = λ on clear. moves step on hand going;
  told = λ on clear. told_empty step on hand;
  denied = λ snapshot showing on. (subst (λ (x : SnapshotOrCleanerStep). HandOn x h) on.0 hand, λ e. absurd (false≢true e));
  leads_on = λ next leads. (leads_hand step next apart leads hand, λ e. going (leads_going step leads));
  over = λ e ends. ends_hand g _ _ goes.1 (none_killed step) (λ over. absurd (ends_apart step a s h e ends over));
  none = λ draining on nothing. subst (λ (x : SnapshotOrCleanerStep). HandOn x h) on hand;
}) where
  moves : (k : SnapshotOrCleanerStep) → goes_next k ≡ true → HandOn k h → (is_going (SnapshotOrCleaner k) ≡ true → r.ending ≡ Answers)
      → HandGoes g (snapshot_or_cleaner_work k a s h).shared (snapshot_or_cleaner_work k a s h).hand
      (record r { slots = slots_next k s r; next = SnapshotOrCleaner (next_on k s) })
  moves (Pin snapshot) on empty going = (not_cleaning _ h empty (goes_plain (Pin snapshot) s on), λ e. going refl)
  moves (Show snapshot showing) on empty going = (not_cleaning _ h empty (goes_plain (Show snapshot showing) s on), λ e. going refl)
  moves (Pick draining) on empty going = (not_cleaning _ h empty (goes_plain (Pick draining) s on), λ e. going refl)
  moves (LockPicked draining picked) on empty going = (empty, λ e. going refl)
  moves (LockCleaned manner ino) on empty going = (empty, λ e. going refl)
  moves other on empty going = absurd (false≢true on)

  -- a planning leads to a clean step or to its taking
  leads_hand : (k next : SnapshotOrCleanerStep) → takes_fresh k ≡ false → LeadsTo k next → HandOn k h
      → HandOn next (snapshot_or_cleaner_work k a s h).hand
  leads_hand (PlanCleaning manner slot) (Fresh ino asked wanted) apart leads empty = pages_empty h empty
  leads_hand (PlanCleaning manner slot) (Unlink ino) apart leads empty = empty
  leads_hand (PlanCleaning manner slot) (Compact ino) apart leads empty = pages_empty h empty
  leads_hand (PlanCleaning manner slot) other apart leads empty = absurd (false≢true leads.to)
  leads_hand (Fresh ino asked wanted) next apart leads empty = absurd (true≢false apart)
  leads_hand other next apart leads empty = absurd (false≢true leads.from)

  leads_going : {next : SnapshotOrCleanerStep} (k : SnapshotOrCleanerStep) → LeadsTo k next → is_going (SnapshotOrCleaner k) ≡ true
  leads_going (PlanCleaning manner slot) leads = refl
  leads_going (Fresh ino asked wanted) leads = refl
  leads_going other leads = absurd (false≢true leads.from)

  told_empty : (k : SnapshotOrCleanerStep) → tells k ≡ true → HandOn k h → (snapshot_or_cleaner_work k a s h).hand ≡ empty_hand
  told_empty Make on empty = empty
  told_empty (Drop snapshot) on empty = empty
  told_empty (Unpin snapshot seen) on empty = empty
  told_empty other on empty = absurd (false≢true on)

  none_killed : (k : SnapshotOrCleanerStep) → (snapshot_or_cleaner_work k a s h).hand.killed ≡ []
  none_killed k =
      let none = none_in step h hand in
      let x = removal_on k s h in
      on_step (λ (t : Shared) (g : HandState). g.killed ≡ []) k a s h
      (λ is. erased_killed x.slot x.cell (hand_freed x h) ∙ killed_on k s h ∙ none) (λ ino asked wanted is. none)
      (λ is. clean_killed k a s h is ∙ none) (λ book owners. none)

snapshot_hand : (g : GeometryNumbers) (step : SnapshotOrCleanerStep) (a : ℕ) (granted : Bool) (s : Shared) (h : HandState) (r : Running)
    → AllGoHome g (SnapshotOrCleaner step) s h r g.block a → HandOn step h → (is_going (SnapshotOrCleaner step) ≡ true → r.ending ≡ Answers)
    → OnHand g (snapshot_or_cleaner_turn step a granted s h r)
snapshot_hand g (Fresh ino asked wanted) a granted s h r goes hand going =
    let left = fresh_alone ino asked wanted a s h hand in
    step_walk_by (Unit {0}) (HandGoes g) HandTold a s h r (Fresh ino asked wanted) granted (λ blocked. tt) (record {
      ready = λ q. (left, λ e. going refl);
      more = λ n q m. (left, λ e. going refl);
      short = λ n q m. ends_hand g _ _ goes.1 (ap (λ (x : HandState). x.killed) left)
          (λ over. absurd (false≢true (ap is_overtaken over)));
    })
snapshot_hand g other a granted s h r goes hand going = other_hand g other a granted s h r refl goes hand going

-- ---- every kind

back_empty : (number : Option ℕ) (s : Shared) (h : HandState) → h.ino ≡ number → h.killed ≡ [] → blocks_in h ≡ []
    → (return_number_work number s h).hand ≡ empty_hand
back_empty None s h is killed none = is_empty h none is killed
back_empty (Some ino) s h is killed none = is_empty (record h { ino = None }) none refl killed

module _ (g : GeometryNumbers) (a : ℕ) (granted : Bool) (s : Shared) (h : HandState) (r : Running) (some : 0 < g.block)
    (small : g.blocks < 2 ^ 64) where
  ways : (k : Next) → Before a s k r → AllGoHome g k s h r g.block a → CanGive g k s h → HandAt g k h r
      → (is_going k ≡ true → r.ending ≡ Answers) → WaysOf (HandGoes g) HandTold k g.block a granted s h r
  ways Number b goes give at going = number_hand g s.pool.numbers s h r at.0 at.1 at.2 (going refl)
  ways (Look place) b goes give at going = (
    λ fault free by. denied_hand g s h goes.0 (ap (λ (x : HandState). x.killed) at.0),
    λ clear. looking_hand g (place + 1) s h (noted (Look place) g.block s h r) at.0 at.1 (going refl),
  )
  ways (Lock place) b goes give at going = λ free. locking_hand g (place + 1) (work (Lock place) g.block a s h r).shared h r at (going refl)
  ways Check b goes give at going = (
    λ e by. ends_hand g s h goes.0 at.killed (λ over.
        let o = check_overtaken g.block s h r at (by ∙ ap (λ (x : Ending). Some x) over) in
        record { empty = o.empty; looks = o.looks }),
    λ none lacks. denied_hand g s h goes.0 at.killed,
    λ none. counted (HandGoes g) HandTold g.block a s h r Check (FitsFile g.block r.call) (check_fits g s h r some at none).fits
        (λ n q. (record { killed = at.killed; fits = q }, λ e. going refl))
        (λ n q. (record { killed = at.killed; fits = q }, λ e. going refl))
        (λ q. (record { killed = at.killed; fits = q }, λ e. going refl)),
  )
  ways (TakeBlocks asked) b goes give at going = (
    counted (HandGoes g) HandTold g.block a s h r (TakeBlocks asked) (FitsFile g.block r.call)
        (subst (FitsFile g.block r.call) (sym (take_sum h.blocks (list_at s (asked_list (length s.lists) a asked)).blocks r.wanted)) at.fits)
        (λ n q. (record { killed = at.killed; fits = q }, λ e. going refl))
        (λ n q. (record { killed = at.killed; fits = q }, λ e. going refl))
        (λ q. (record { killed = at.killed; fits = q }, λ e. going refl)),
    λ n is last. denied_hand g _ _ goes.1 at.killed,
  )
  ways (TakeLogPages asked) b goes give at going = (
    record {
      more = λ n is ask. (record { killed = at.killed; fits = at.fits }, λ e. going refl);
      pages = λ n none is. (record { killed = at.killed; fits = at.fits }, λ e. going refl);
      ready = λ none is. (record { killed = at.killed; fits = at.fits }, λ e. going refl);
    },
    λ n is last. denied_hand g _ _ goes.1 at.killed,
  )
  ways Ready b goes give at going =
      (λ lacks. denied_hand g s h goes.0 at.killed, (ready_planned g a s h r at small (first_below g.blocks h goes.0.below) b, going))
  ways Enter b goes give at going = (
    λ free last. denied_hand g s h goes.0 at.killed,
    λ clear lacks. denied_hand g s h goes.0 at.killed,
    λ clear. appending_hand g h (noted Enter g.block s h r) (going refl) 0
        (record { killed = at.killed; enough = at.enough; first = at.first; within = at.within }),
  )
  ways (Append place) b goes give at going =
      appending_hand g (work (Append place) g.block a s h r).hand r (going refl) (place + 1) (append_planned place _ h r b.inside at)
  ways Open b goes give at going = publishing_hand g h r (going refl) 0 (ap length at) (omega arith)
  ways (Publish place) b goes give at going =
      publishing_hand g (work (Publish place) g.block a s h r).hand r (going refl) (place + 1)
      (length-append h.killed _ ∙ ap (λ (n : ℕ). n + 1) at) (let inside = b.inside in omega (arith, inside))
  ways Close b goes give at going = retiring_hand g (record h { ino = None }) r (going refl) 0 (omega (arith, at))
  ways (Retire place) b goes give at going =
      let cell = retired_cell (slot_at (written_slots r) place) (first_killed h.killed) s r in
      let freed = with_freed (slot_at (written_slots r) place) (first_killed h.killed) s r h in
      let same = ap length (erased_killed (slot_at (written_slots r) place) cell freed) in
      retiring_hand g (work (Retire place) g.block a s h r).hand r (going refl) (place + 1)
      (omega (arith, same, dropped h.killed place (length (written_slots r)) at b.inside))
  ways Leave b goes give at going =
      ends_hand g _ h goes.1 at (λ over. absurd (false≢true (ap is_overtaken (sym (going refl) ∙ over))))
  ways (Unlock place) b goes give at going = (
    λ more. ((at.0, λ is. let was = at.1 is in record { empty = was.empty; looks = was.looks }), λ e. absurd (false≢true e)),
    λ past. overs_hand g _ h goes.1 at.0 at.1,
  )
  ways (Give cpu) b goes give at going =
      let kept = all_given g cpu (list_at s cpu) (blocks_in h) (goes.0.lists.each cpu at.1) give.0 give.1 at.2 in
      rests_hand g (cpu + 1) s (with_given cpu h s) (given cpu s h)
      (record { some = goes.1.some; lists = goes.0.lists; below = goes.1.below }) refl (let inside = at.1 in omega (arith, inside))
      (subst (λ (l : List BlockValue). AreGiven g (cpu + 1) l) (sym (given_all cpu s h)) kept) at.0
  ways ReturnNumber b goes give at going = lasts_hand g (back_empty h.ino s h refl at.0 at.1)
  ways Visit b goes give at going = (
    λ fault free by. denied_hand g s h goes.0 (ap (λ (x : HandState). x.killed) at),
    λ free passed lacks. denied_hand g s h goes.0 (ap (λ (x : HandState). x.killed) at),
    λ free passed. at,
  )
  ways (SnapshotOrCleaner step) b goes give at going = tt

pub hand_kept : (g : GeometryNumbers) (k : Next) (a : ℕ) (granted : Bool) (s : Shared) (h : HandState) (r : Running) → 0 < g.block
    → g.blocks < 2 ^ 64 → Before a s k r → AllGoHome g k s h r g.block a → CanGive g k s h → HandAt g k h r → (is_going k ≡ true
    → r.ending ≡ Answers)
    → OnHand g (kind_turn k g.block a granted s h r)
hand_kept g (SnapshotOrCleaner step) a granted s h r some small b goes give at going = snapshot_hand g step a granted s h r goes at going
hand_kept g other a granted s h r some small b goes give at going =
    walk_of (HandGoes g) HandTold g.block a s h r other granted (ways g a granted s h r some small other b goes give at going) refl
