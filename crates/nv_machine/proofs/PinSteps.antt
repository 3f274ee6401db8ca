-- What a step leaves of the pins of a snapshot, beside what its call pins.
use Rattle.std.proofs.Common.{◌≡◌, ℕ, zero, suc, ◌+◌, ◌-◌, ◌==◌, ◌∙◌, Bool, true, false, cond, List, [], ◌∷◌, Option, Some, None, ap, arith, refl, subst, sym}
use Rattle.std.proofs.lemmas.Bool.{eqb-false, eqb-true, false≢true}
use Rattle.std.specs.Option.{option_map, option_or}
use Rattle.std.specs.Prelude.{Result, Ok, is_some}
use Rattle.nv_base.specs.declared.fault.Fault.{Fault}
use Rattle.nv_calls.specs.declared.answer.Answer.{Answer}
use Rattle.nv_epoch.specs.SnapList.{Snapshots as Living, after_making, after_pin, after_removal, after_unpin, pins_of}
use Rattle.nv_epoch.proofs.Pins.{pins_at-changed, pins_at-kept, pins_at-push, pins_at-removed, pins_at-unchanged}
use Rattle.nv_reader.specs.Walk as walks
use Rattle.nv_book.specs.declared.record.Record.{Record}
use Rattle.nv_machine.specs.Reading.{ArePins, pins_at, pins_on}
use Rattle.nv_machine.specs.Sequence.{sequel}
use Rattle.nv_machine.specs.SnapshotOrCleaner.{copies_at, drop_tests, first_showing, seen_on, show_or_unpin, snapshot_or_cleaner_turn, visited}
use Rattle.nv_machine.specs.Step.{kind_turn}
use Rattle.nv_machine.specs.World.{Drop, Ending, HandState, LockPicked, Make, Next, Pick, Pin, Refuses, Running, Shared, Show, Showing, SnapshotOrCleanerStep, SnapshotOrCleaner, Turn, Unpin, Compact, Fresh, PlanCleaning, LockCleaned, Release, Unlink}
use Rattle.nv_machine.proofs.UnlentSteps.{files_leave}
use Rattle.nv_machine.proofs.StepWork.{snapshot_or_cleaner_work}
use Rattle.nv_machine.proofs.LoopSteps.{is_on_files, sequel_on}
use Rattle.nv_machine.proofs.StepWays.{After, Closes, IsClearOn, any_ends, is_last, is_taking, noted, by_last, by_taking}
use Rattle.nv_machine.proofs.StepWalk.{walk}
use Rattle.nv_machine.proofs.SnapshotOrCleanerWalk.{goes_next, is_denied, next_on, picked_next, snapshot_or_cleaner_walk, tells, EndsWith, LeadsTo, is_cleaning}

-- ---- pins and shows

abbrev pub one_if : Bool → ℕ
one_if b = cond b 1 0

-- so many shows there were and are, where an actor's call is one or not, before a step and after it:
-- the pins are as many
abbrev pub Fits : ℕ → Bool → Bool → Living → Living → Type 0
Fits snapshot before now old new =
    (shows after : ℕ) → after + one_if before ≡ shows + one_if now → ArePins shows (pins_of old snapshot)
    → ArePins after (pins_of new snapshot)

-- a step of a call that is a show of the snapshot before it, or is not
abbrev pub OnPins : ℕ → Bool → Living → Turn → Type 0
OnPins snapshot before old turn = After (λ (t : Shared) (h : HandState) (q : Running). Fits snapshot before (pins_at snapshot q.next) old t.book.snaps)
    (λ (x : Result Answer Fault) (t : Shared) (h : HandState). Fits snapshot before false old t.book.snaps) turn

as_many : (shows after : ℕ) (pins : Option ℕ) → after ≡ shows → ArePins shows pins → ArePins after pins
as_many shows after None e are = e ∙ are
as_many shows after (Some pins) e are = are ∙ sym e

pub same_fits : (snapshot : ℕ) (b : Bool) (living : Living) → Fits snapshot b b living living
same_fits snapshot b living shows after e are = as_many shows after (pins_of living snapshot) (omega (arith, e)) are

-- a step that leaves the snapshots, of a call that is no show before it nor after it
pub plain_fits : (snapshot : ℕ) (now : Bool) (living : Living) → now ≡ false → Fits snapshot false now living living
plain_fits snapshot now living e = subst (λ (b : Bool). Fits snapshot false b living living) (sym e) (same_fits snapshot false living)

-- ---- a step of a call on files and directories is no show

pub no_pin : (snapshot : ℕ) (k : Next) → is_on_files k ≡ true → pins_at snapshot k ≡ false
no_pin snapshot (SnapshotOrCleaner step) is = absurd (false≢true is)
no_pin snapshot other is = refl

-- ---- the steps of calls on snapshots

module _ (snapshot : ℕ) where
  -- a show is of the snapshot before a step and after it, or of another one both times
  showing_pins : (other left : ℕ) (visits : List walks.Visit) (showing : Showing)
      → pins_on snapshot (show_or_unpin left visits other showing) ≡ (other == snapshot)
  showing_pins other zero visits showing = refl
  showing_pins other (suc left) [] showing = refl
  showing_pins other (suc left) (visit ∷ visits) showing = refl

  moved_fits : (b now : Bool) (living : Living) → now ≡ b → Fits snapshot b now living living
  moved_fits b now living e = subst (λ (c : Bool). Fits snapshot b c living living) (sym e) (same_fits snapshot b living)

  -- a new snapshot has no pin
  made_fits : (living : Living) → Fits snapshot false false living (after_making living)
  made_fits living shows after e are =
      subst (ArePins after) (sym (pins_at-push living.living (record { number = living.epoch; pins = 0 }) snapshot))
      (go (living.epoch == snapshot) (pins_of living snapshot) (as_many shows after (pins_of living snapshot) (omega (arith, e)) are))
    where
      go : (b : Bool) (pins : Option ℕ) → ArePins after pins → ArePins after (option_or pins (cond b (Some 0) None))
      go true None are = sym are
      go false None are = are
      go b (Some pins) are = are

  -- one that is dropped had none
  dropped_fits : (living : Living) (other : ℕ) → drop_tests (pins_of living other) ≡ Ok tt
      → Fits snapshot false false living (after_removal living other)
  dropped_fits living other passed shows after e are = go (other == snapshot) refl where
    none : (pins : Option ℕ) → drop_tests pins ≡ Ok tt → ArePins shows pins → after ≡ 0
    none None q are = cc
    none (Some zero) q are = omega (arith, e, are)
    none (Some (suc pins)) q are = cc

    go : (b : Bool) → (other == snapshot) ≡ b → ArePins after (pins_of (after_removal living other) snapshot)
    go true same =
        let is = eqb-true other snapshot same in
        subst (λ (n : ℕ). ArePins after (pins_of (after_removal living other) n)) is
        (subst (ArePins after) (sym (pins_at-removed living.living other))
        (none (pins_of living other) passed (subst (λ (n : ℕ). ArePins shows (pins_of living n)) (sym is) are)))
    go false differ =
        subst (ArePins after) (sym (pins_at-kept living.living other snapshot (λ is. eqb-false other snapshot differ (sym is))))
        (as_many shows after (pins_of living snapshot) (omega (arith, e)) are)

  -- a show that begins has one more
  pinned_fits : (living : Living) (other pins : ℕ) (now : Bool) → pins_of living other ≡ Some pins → now ≡ (other == snapshot)
      → Fits snapshot false now living (after_pin living other)
  pinned_fits living other pins now is shown shows after e are = go (other == snapshot) refl where
    go : (b : Bool) → (other == snapshot) ≡ b → ArePins after (pins_of (after_pin living other) snapshot)
    go true same =
        let one = eqb-true other snapshot same in
        let had : pins ≡ shows = subst (ArePins shows) is (subst (λ (n : ℕ). ArePins shows (pins_of living n)) (sym one) are) in
        let many : after + 0 ≡ shows + 1 = e ∙ ap (λ (b : Bool). shows + one_if b) (shown ∙ same) in
        subst (λ (n : ℕ). ArePins after (pins_of (after_pin living other) n)) one
        (subst (ArePins after) (sym (pins_at-changed living.living other (λ pins. pins + 1) ∙ ap (option_map (λ pins. pins + 1)) is))
        (omega (arith, had, many)))
    go false differ =
        let many : after + 0 ≡ shows + 0 = e ∙ ap (λ (b : Bool). shows + one_if b) (shown ∙ differ) in
        subst (ArePins after)
        (sym (pins_at-unchanged living.living other (λ pins. pins + 1) snapshot (λ one. eqb-false other snapshot differ (sym one))))
        (as_many shows after (pins_of living snapshot) (omega (arith, many)) are)

  -- a show that ends had a pin
  unpinned_fits : (living : Living) (other : ℕ) → Fits snapshot (other == snapshot) false living (after_unpin living other)
  unpinned_fits living other shows after e are = go (other == snapshot) refl where
    fewer : (pins : Option ℕ) → after + 1 ≡ shows + 0 → ArePins shows pins → ArePins after (option_map (λ pins. pins - 1) pins)
    fewer None many are = absurd (omega (arith, many, are))
    fewer (Some pins) many are = omega (arith, many, are)

    go : (b : Bool) → (other == snapshot) ≡ b → ArePins after (pins_of (after_unpin living other) snapshot)
    go true same =
        let one = eqb-true other snapshot same in
        let many : after + 1 ≡ shows + 0 = ap (λ (b : Bool). after + one_if b) (sym same) ∙ e in
        subst (λ (n : ℕ). ArePins after (pins_of (after_unpin living other) n)) one
        (subst (ArePins after) (sym (pins_at-changed living.living other (λ pins. pins - 1)))
        (fewer (pins_of living other) many (subst (λ (n : ℕ). ArePins shows (pins_of living n)) (sym one) are)))
    go false differ =
        let many : after + 0 ≡ shows + 0 = ap (λ (b : Bool). after + one_if b) (sym differ) ∙ e in
        subst (ArePins after)
        (sym (pins_at-unchanged living.living other (λ pins. pins - 1) snapshot (λ one. eqb-false other snapshot differ (sym one))))
        (as_many shows after (pins_of living snapshot) (omega (arith, many)) are)

  -- ---- every kind

  module _ (before : Bool) (old : Living) where
    abbrev P : Shared → HandState → Running → Type 0
    P t h q = Fits snapshot before (pins_at snapshot q.next) old t.book.snaps

    abbrev E : Result Answer Fault → Shared → HandState → Type 0
    E result t h = Fits snapshot before false old t.book.snaps

  last_no_pin : (k : Next) → is_last k ≡ true → pins_at snapshot k ≡ false
  last_no_pin = by_last (λ (k : Next). pins_at snapshot k ≡ false) (λ place. refl) (λ cpu. refl) refl

  taking_no_pin : (k : Next) → is_taking k ≡ true → pins_at snapshot k ≡ false
  taking_no_pin = by_taking (λ (k : Next). pins_at snapshot k ≡ false) (λ asked. refl) (λ asked. refl) refl

  -- snapshots that stay, of a call that is no show before and after
  none_fits : (old new : Living) (now : Bool) → new ≡ old → now ≡ false → Fits snapshot false now old new
  none_fits old new now same none = subst (λ (l : Living). Fits snapshot false now old l) (sym same) (plain_fits snapshot now old none)

  closes : (old : Living) (s : Shared) (h : HandState) (r : Running) (e : Ending) → s.book.snaps ≡ old
      → Closes (P false old) (E false old) s h r e
  closes old s h r e same = record {
    last = λ k is. none_fits old s.book.snaps (pins_at snapshot k) same (last_no_pin k is);
    told = none_fits old s.book.snaps false same refl;
    again = λ n over some. none_fits old s.book.snaps false same refl;
    picks = λ d left drains some. none_fits old s.book.snaps false same refl;
  }

  pinned_some : (living : Living) (other : ℕ) (pins : Option ℕ) (now : Bool) → pins_of living other ≡ pins → is_some pins ≡ true
      → now ≡ (other == snapshot) → Fits snapshot false now living (after_pin living other)
  pinned_some living other (Some pins) now is some shown = pinned_fits living other pins now is shown
  pinned_some living other None now is some shown = cc

  goes_on_pins : (step : SnapshotOrCleanerStep) (a : ℕ) (s : Shared) (h : HandState) → goes_next step ≡ true → IsClearOn step s
      → Fits snapshot (pins_on snapshot step) (pins_on snapshot (next_on step s)) s.book.snaps
      (snapshot_or_cleaner_work step a s h).shared.book.snaps
  goes_on_pins (Pin other) a s h on clear =
      let first = first_showing s in
      pinned_some s.book.snaps other (pins_of s.book.snaps other) _ refl clear.1 (showing_pins other first.left first.visits first)
  goes_on_pins (Show other showing) a s h on clear =
      let next = seen_on (copies_at s other (visited showing.visits)) showing in
      moved_fits (other == snapshot) _ s.book.snaps (showing_pins other next.left next.visits next)
  goes_on_pins (Pick draining) a s h on clear = plain_fits snapshot _ s.book.snaps (go s.book.deferred) where
    go : (deferred : List Record) → pins_on snapshot (picked_next deferred draining) ≡ false
    go [] = refl
    go (picked ∷ deferred) = refl
  goes_on_pins (LockPicked draining picked) a s h on clear = same_fits snapshot false s.book.snaps
  goes_on_pins (LockCleaned manner ino) a s h on clear = same_fits snapshot false s.book.snaps
  goes_on_pins other a s h on clear = absurd (false≢true on)

  told_pins : (step : SnapshotOrCleanerStep) (a : ℕ) (s : Shared) (h : HandState) → tells step ≡ true → IsClearOn step s
      → Fits snapshot (pins_on snapshot step) false s.book.snaps (snapshot_or_cleaner_work step a s h).shared.book.snaps
  told_pins Make a s h on clear = made_fits s.book.snaps
  told_pins (Drop other) a s h on clear = dropped_fits s.book.snaps other clear.1
  told_pins (Unpin other seen) a s h on clear = unpinned_fits s.book.snaps other
  told_pins other a s h on clear = absurd (false≢true on)

  stops_pins : (step : SnapshotOrCleanerStep) (s : Shared) (h : HandState) (r : Running) (fault : Fault) → is_denied step ≡ true
      → let b = pins_on snapshot step in Closes (P b s.book.snaps) (E b s.book.snaps) s h r (Refuses fault)
  stops_pins Make s h r fault on = closes s.book.snaps s h r _ refl
  stops_pins (Drop other) s h r fault on = closes s.book.snaps s h r _ refl
  stops_pins (Pin other) s h r fault on = closes s.book.snaps s h r _ refl
  stops_pins (Pick draining) s h r fault on = closes s.book.snaps s h r _ refl
  stops_pins (PlanCleaning manner slot) s h r fault on = closes s.book.snaps s h r _ refl
  stops_pins other s h r fault on = absurd (false≢true on)

  ends_pins : (step : SnapshotOrCleanerStep) (a : ℕ) (s : Shared) (h : HandState) (r : Running) (e : Ending) → EndsWith step a s h e
      → let b = pins_on snapshot step in let d = snapshot_or_cleaner_work step a s h in
      Closes (P b s.book.snaps) (E b s.book.snaps) d.shared d.hand r e
  ends_pins (Release draining picked) a s h r e is = closes s.book.snaps _ _ r _ refl
  ends_pins (PlanCleaning manner slot) a s h r e is = closes s.book.snaps _ _ r _ refl
  ends_pins (Fresh ino asked wanted) a s h r e is = closes s.book.snaps _ _ r _ refl
  ends_pins (Unlink ino) a s h r e is = closes s.book.snaps _ _ r _ refl
  ends_pins (Compact ino) a s h r e is = closes s.book.snaps _ _ r _ refl
  ends_pins other a s h r e is = absurd is

  cleaning_pins : (next : SnapshotOrCleanerStep) → is_cleaning next ≡ true → pins_on snapshot next ≡ false
  cleaning_pins (Fresh ino asked wanted) is = refl
  cleaning_pins (Unlink ino) is = refl
  cleaning_pins (Compact ino) is = refl
  cleaning_pins other is = absurd (false≢true is)

  leads_pins : (step : SnapshotOrCleanerStep) (a : ℕ) (s : Shared) (h : HandState) (next : SnapshotOrCleanerStep) → LeadsTo step next
      → Fits snapshot (pins_on snapshot step) (pins_on snapshot next) s.book.snaps (snapshot_or_cleaner_work step a s h).shared.book.snaps
  leads_pins (PlanCleaning manner slot) a s h next leads = plain_fits snapshot _ s.book.snaps (cleaning_pins next leads.to)
  leads_pins (Fresh ino asked wanted) a s h next leads = plain_fits snapshot _ s.book.snaps (cleaning_pins next leads.to)
  leads_pins other a s h next leads = absurd (false≢true leads.from)

  on_pins : (step : SnapshotOrCleanerStep) (a : ℕ) (granted : Bool) (s : Shared) (h : HandState) (r : Running)
      → let b = pins_on snapshot step in After (P b s.book.snaps) (E b s.book.snaps) (snapshot_or_cleaner_turn step a granted s h r)
  on_pins step a granted s h r = snapshot_or_cleaner_walk _ _ a s h r step granted (record {
    stops = λ fault cause. any_ends (stops_pins step s h r fault cause.0);
    goes = goes_on_pins step a s h;
    told = told_pins step a s h;
    denied = λ other showing on.
        subst (λ (x : SnapshotOrCleanerStep). Fits snapshot (pins_on snapshot x) (other == snapshot) s.book.snaps s.book.snaps)
        (sym on.0) (same_fits snapshot (other == snapshot) s.book.snaps);
    leads_on = leads_pins step a s h;
    over = λ e ends. any_ends (ends_pins step a s h r e ends);
    none = λ draining on empty. subst (λ (x : SnapshotOrCleanerStep). Fits snapshot (pins_on snapshot x) false s.book.snaps s.book.snaps)
        (sym on) (same_fits snapshot false s.book.snaps);
  })

  pub kind_pins : (k : Next) (block a : ℕ) (granted : Bool) (s : Shared) (h : HandState) (r : Running)
      → OnPins snapshot (pins_at snapshot k) s.book.snaps (kind_turn k block a granted s h r)
  kind_pins (SnapshotOrCleaner step) block a granted s h r = on_pins step a granted s h r
  kind_pins other block a granted s h r =
      let stays = (files_leave other block a s h r refl).snaps in
      walk _ _ block a s h r other granted (record {
        stops = λ e by. closes s.book.snaps s h _ e refl;
        goes = λ on clear. let q = noted other block s h r in let next = sequel q other in
            none_fits s.book.snaps _ (pins_at snapshot next) stays (no_pin snapshot next (sequel_on other q on));
        takes = λ on n next taking. none_fits s.book.snaps _ (pins_at snapshot next) stays (taking_no_pin next taking);
        over = λ on. closes s.book.snaps _ _ r _ stays;
        short = λ on. closes s.book.snaps _ _ r _ stays;
        told = λ on clear. same_fits snapshot false s.book.snaps;
      }) refl
