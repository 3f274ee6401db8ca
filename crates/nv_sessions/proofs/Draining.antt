-- The turns of a drain, one after another.
use Rattle.std.proofs.Common.{◌≡◌, ◌≢◌, ◌⊎◌, ◌∙◌, ℕ, zero, suc, ◌+◌, ◌-◌, ◌<◌, ◌≤◌, ◌==◌, ◌||◌, Bool, true, false, List, [], ◌∷◌, ◌++◌, Option, Some, None, ap, arith, inl, inr, length, not, refl, subst, sym}
use Rattle.std.specs.Prelude.{IfErr, IfOk, Result, Ok, Err, slice_get}
use Rattle.std.specs.Option.{ForSome}
use Rattle.std.proofs.lemmas.Bool.{eq-eqb, false≢true, ne_eqb, true≢false}
use Rattle.nv_alloc.specs.Block.{BlockValue}
use Rattle.nv_alloc.specs.declared.hand.Hand.{Hand}
use Rattle.nv_base.specs.Memory.{out_of_memory}
use Rattle.nv_base.specs.declared.fault.Fault.{Fault}
use Rattle.nv_base.specs.declared.fault.Fault.TheVariants as fault
use Rattle.nv_base.specs.declared.fault.MismatchPart.{MismatchPart}
use Rattle.nv_base.specs.declared.geometry.GeometryNumbers.{GeometryNumbers}
use Rattle.nv_book.specs.Book.{BookState, after_pick, empty_book}
use Rattle.nv_book.specs.declared.record.Record.{Record}
use Rattle.nv_calls.specs.declared.answer.Answer.{Answer}
use Rattle.nv_calls.specs.declared.answer.Answer.TheVariants as answers
use Rattle.nv_cell.specs.Cell.{CellState}
use Rattle.nv_machine.specs.Kinds.{grown}
use Rattle.nv_machine.specs.SnapshotOrCleaner.{is_first, lock_picked_turn, one_more, picked_turn}
use Rattle.nv_machine.specs.Step.{turn}
use Rattle.nv_machine.specs.World.{Draining, Drains, Ending, Ends, HandState, LockPicked, Moves, Next, Pick, Release, Running, Shared, SnapshotOrCleaner, Turn, Waits, empty_hand, go_to, owner_at, with_owner}
use Rattle.nv_machine.proofs.FiledTurns.{refused_at_once}
use Rattle.nv_steps.specs.Hands.{hand_of}
use Rattle.nv_steps.specs.LastSteps.{IsDrained, IsLast, once_drained}
use Rattle.nv_steps.specs.OnBook.{IsBefore, IsPickTurn, drain_of, on_book, once_picked, was_granted}
use Rattle.nv_steps.specs.OnCell.{IsHolding, on_cell, once_ending}
use Rattle.nv_steps.specs.Parts.{BookIs, CellIs, HolderIs, OwnerIs}
use Rattle.nv_steps.specs.Runs.{Fits, IsAsLeft, IsOwn, IsRun, Known, Leads, Unheld, Unseen, known_cell}
use Rattle.nv_steps.specs.Turns.{IsMove, Made}
use Rattle.nv_steps.specs.declared.lists.LeftInHand.TheVariants as left_in
use Rattle.nv_steps.specs.declared.picks.Picked.{Picked}
use Rattle.nv_steps.specs.declared.picks.Picked.TheVariants as pick
use Rattle.nv_steps.proofs.BookTurns.{by_next, free_turn, pick_none}
use Rattle.nv_steps.proofs.OneTurn.{book_there}
use Rattle.nv_steps.proofs.States.{some_state}
use Rattle.nv_sessions.specs.Cleaning.{CanRelease}
use Rattle.nv_sessions.specs.Draining.{CanReleasePicked, EndsPick, GoesOn, HasDrained, HasLooked, HasPicked, HasReleased, IsPickedFrom, is_record, once_locked, once_released}
use Rattle.nv_sessions.specs.Ending.{IsEmptyHand}
use Rattle.nv_sessions.specs.Refusing.{IsMisfitOrWant}
use Rattle.nv_sessions.specs.RunCalls.{making, told_as}
use Rattle.nv_sessions.specs.Misfits.{TakesMisfit}
use Rattle.nv_sessions.specs.SessionRuns.{IsGivingRun, IsSessionRun}
use Rattle.nv_sessions.specs.Sessions.{HeldValue}
use Rattle.nv_sessions.specs.declared.seen.Seen.{Seen}
use Rattle.nv_sessions.specs.Underway.{GivesBack, HasCome, UnlocksNext, locking}
use Rattle.nv_sessions.proofs.Holding.{breaks_run, broken}

-- ---- what the turn of a pick tells

-- the record that a turn goes on with
abbrev record_in : Next → Option Record
record_in (SnapshotOrCleaner (LockPicked draining picked)) = Some picked
record_in other = None

abbrev picked_in : Turn → Option Record
picked_in (Moves s h r) = record_in r.next
picked_in other = None

abbrev told_in : Turn → Option (Result Answer Fault)
told_in (Ends told s h) = Some told
told_in other = None

abbrev book_behind : Turn → Option BookState
book_behind (Moves s h r) = Some s.book
book_behind (Ends told s h) = Some s.book
book_behind Waits = None

pub same_some : {A : Type 0} {x y : A} → Some x ≡ Some y → x ≡ y
same_some is = cc

module _ (d : Draining) (s : Shared) (r : Running) where
  abbrev picks_from : List Record → Turn
  picks_from deferred = picked_turn deferred d s empty_hand r

  first_found : (deferred : List Record) (first : Record) → picked_in (picks_from deferred) ≡ Some first → slice_get deferred 0 ≡ Some first
  first_found [] first is = cc
  first_found (x ∷ deferred) first is = is

  first_left : (deferred : List Record) (first : Record) (new : BookState) → picked_in (picks_from deferred) ≡ Some first
      → book_behind (picks_from deferred) ≡ Some new → new ≡ after_pick s.book
  first_left [] first new found is = cc
  first_left (x ∷ deferred) first new found is = sym (same_some is)

  end_told : (deferred : List Record) (told : Result Answer Fault) → told_in (picks_from deferred) ≡ Some told
      → told ≡ Ok (answers.Count d.released)
  end_told [] told is = sym (same_some is)
  end_told (x ∷ deferred) told is = cc

  end_left : (deferred : List Record) (told : Result Answer Fault) (new : BookState) → told_in (picks_from deferred) ≡ Some told
      → book_behind (picks_from deferred) ≡ Some new → new ≡ s.book
  end_left [] told new ends is = sym (same_some is)
  end_left (x ∷ deferred) told new ends is = cc

  -- where memory was refused, the call is refused for it
  refused_told : (made : Bool) (fault : Fault) (new : BookState) → r.slots ≡ []
      → told_in (grown (false || made) (picks_from s.book.deferred) s empty_hand r) ≡ Some (Err fault)
      → book_behind (grown (false || made) (picks_from s.book.deferred) s empty_hand r) ≡ Some new
      → (fault ≡ out_of_memory) × (new ≡ s.book)
  refused_told true fault new none ends is =
      let told : Err fault ≡ Ok (answers.Count d.released) = end_told s.book.deferred (Err fault) ends in absurd (cc)
  refused_told false fault new none ends is =
      let at_once = refused_at_once out_of_memory s empty_hand r refl none in
      let told : Some (Err out_of_memory) ≡ Some (Err fault) = subst (λ (t : Turn). told_in t ≡ Some (Err fault)) at_once ends in
      let book : Some s.book ≡ Some new = subst (λ (t : Turn). book_behind t ≡ Some new) at_once is in (
        cc,
        sym (same_some book),
      )

module _ (numbers : GeometryNumbers) (actor : ℕ) (r : Running) (old new : BookState) (released left : ℕ)
    (before : IsBefore (Pick (drain_of released left)) r) where
  abbrev the_state : Shared
  the_state = (book_there numbers old).shared

  -- in a state that has the book, a pick comes to this
  comes : (granted : Bool) → turn numbers.block actor granted the_state empty_hand r
      ≡ grown (granted || not (is_first (drain_of released left))) (picked_turn the_state.book.deferred (drain_of released left) the_state empty_hand r) the_state
      empty_hand r
  comes granted =
      let there = book_there numbers old in
      let t = grown (granted || not (is_first (drain_of released left)))
      (picked_turn the_state.book.deferred (drain_of released left) the_state empty_hand r) the_state empty_hand r in
      by_next (SnapshotOrCleaner (Pick (drain_of released left))) numbers.block actor granted the_state empty_hand r before.next
      ∙ free_turn the_state.holder t t there.has.1.0 refl

  pub pick_tells : (p : Picked)
      → IsPickTurn numbers actor (on_book r empty_hand (was_granted p) old new) (drain_of released left) p empty_hand
      → EndsPick released p × IsPickedFrom old new p
  pick_tells (pick.First first) is =
      let there = book_there numbers old in
      let moves = sym (comes true) ∙ is the_state there.is_of there.has in
      let found = ap picked_in moves in
      let new_is = first_left (drain_of released left) the_state r the_state.book.deferred first new found (ap book_behind moves)
      ∙ ap after_pick there.has.0 in (
        tt,
        (
          subst (λ (b : BookState). slice_get b.deferred 0 ≡ Some first) there.has.0
              (first_found (drain_of released left) the_state r the_state.book.deferred first found),
          new_is ∙ ap (λ (b : BookState). record old { deferred = b.deferred }) (sym new_is),
        ),
      )
  pick_tells (pick.Ends (Ok answer)) is =
      let there = book_there numbers old in
      let ends = sym (comes true) ∙ is the_state there.is_of there.has in
      let told = ap told_in ends in (
        inl (end_told (drain_of released left) the_state r the_state.book.deferred (Ok answer) told),
        end_left (drain_of released left) the_state r the_state.book.deferred (Ok answer) new told (ap book_behind ends) ∙ there.has.0,
      )
  pick_tells (pick.Ends (Err fault)) is =
      let there = book_there numbers old in
      let ends = sym (comes false) ∙ is the_state there.is_of there.has in
      let both = refused_told (drain_of released left) the_state r (not (is_first (drain_of released left))) fault new before.slots
      (ap told_in ends) (ap book_behind ends) in
      (inr (ap (λ (f : Fault). Err f) both.0), both.1 ∙ there.has.0)

-- the numbers of no device
abbrev no_device : GeometryNumbers
no_device = record { blocks = 0; cpus = 0; block = 0; page = 0; inodes = 0; snaps = 0; actors = 0 }

-- a drain before its pick
abbrev before_pick : ℕ → Running
before_pick released = go_to (SnapshotOrCleaner (Pick (drain_of released 0))) making

-- a pick tells what it found, and how a drain ends there
pub pick_told : (old new : BookState) (released : ℕ) (p : Picked)
    → ((numbers : GeometryNumbers) (actor left : ℕ) (r : Running) → IsBefore (Pick (drain_of released left)) r
    → IsPickTurn numbers actor (on_book r empty_hand (was_granted p) old new) (drain_of released left) p empty_hand)
    → EndsPick released p × IsPickedFrom old new p
pick_told old new released p is =
    let before : IsBefore (Pick (drain_of released 0)) (before_pick released) = record { next = refl; slots = refl } in
    pick_tells no_device 0 (before_pick released) old new released 0 before p (is no_device 0 0 (before_pick released) before)

-- it leaves the commit number and the snapshots
pub kept_book : (old new : BookState) (p : Picked) → IsPickedFrom old new p → (new.commit ≡ old.commit) × (new.snaps ≡ old.snaps)
kept_book old new (pick.First first) is = (ap (λ (b : BookState). b.commit) is.1, ap (λ (b : BookState). b.snaps) is.1)
kept_book old new (pick.Ends told) is = (ap (λ (b : BookState). b.commit) is, ap (λ (b : BookState). b.snaps) is)

-- ---- turns

-- where a pick ends the call, a look does
pub looks : (numbers : GeometryNumbers) (actor : ℕ) (h0 : HandState) (r0 : Running) (d : Draining) (r : Running) (p : Picked)
    → HasPicked numbers actor h0 r0 d r p → HasLooked numbers actor h0 r0 p
looks numbers actor h0 r0 d r (pick.First first) is = tt
looks numbers actor h0 r0 d r (pick.Ends told) is = is

module _ (numbers : GeometryNumbers) (actor : ℕ) (h0 : HandState) (r0 : Running) where
  fits_book : (h : HandState) (r : Running) (w : HasCome numbers actor h0 r0 h r) (old : BookState)
      → Fits actor w.turns (BookIs old ∷ HolderIs None ∷ [])
  fits_book h r w old = (
    subst (λ (known : Known BookState). IsAsLeft known old) (sym w.free.book) tt,
    (subst (λ (known : Known BookState). IsOwn actor known None) (sym w.free.book) tt, tt),
  )

  -- a drain picks, or ends
  pub picks : (d : Draining) (r : Running) (old new : BookState) (granted : Bool) (p : Picked) → HasCome numbers actor h0 r0 empty_hand r
      → IsPickTurn numbers actor (on_book r empty_hand granted old new) d p empty_hand → HasPicked numbers actor h0 r0 d r p
  picks d r old new granted (pick.First first) w is = record {
    turns = on_book r empty_hand granted old new ∷ w.turns;
    leads = (w.leads, fits_book empty_hand r w old, book_there numbers old, is);
    free = record { cells = w.free.cells; book = refl };
  }
  picks d r old new granted (pick.Ends told) w is = record {
    turns = w.turns;
    last = on_book r empty_hand granted old new;
    leads = w.leads;
    fits = fits_book empty_hand r w old;
    there = book_there numbers old;
    ends = is;
  }

  -- a book with nothing deferred
  abbrev no_records : BookState
  no_records = record (empty_book numbers 1 0) { deferred = [] }

  -- a drain that finds nothing deferred ends
  pub finds_nothing : (released left : ℕ) (r : Running) → HasCome numbers actor h0 r0 empty_hand r
      → IsBefore (Pick (drain_of released left)) r → IsRun numbers actor h0 r0 (Ok (answers.Count released)) empty_hand
  finds_nothing released left r w before = record {
    turns = w.turns;
    last = on_book r empty_hand true no_records no_records;
    leads = w.leads;
    fits = fits_book empty_hand r w no_records;
    there = book_there numbers no_records;
    ends = pick_none numbers actor r no_records no_records (drain_of released left) before empty_hand empty_hand refl refl refl;
  }

  lock_free : (d : Draining) (first : Record) (r : Running) (s : Shared) (owner : Option ℕ) → owner ≡ None
      → lock_picked_turn owner actor d first s empty_hand (once_picked d r first)
      ≡ Moves (with_owner first.ino (Some actor) s) empty_hand (once_locked d first r)
  lock_free d first r s owner free = rw free refl

  -- a lock that was taken is the actor's
  locked_unseen : (ino : ℕ) (h : HandState) (r : Running) (turns : List Made) → known_cell actor turns ino ≡ Unheld
      → known_cell actor (locking actor ino h r ∷ turns) ino ≡ Unseen
  locked_unseen ino h r turns free =
      let slot : (ino == ino) ≡ true = eq-eqb ino ino refl in
      let mine : (actor == actor) ≡ true = eq-eqb actor actor refl in rw slot (rw mine (rw free refl))

  others_free : (ino other : ℕ) (q r : Running) (h after : HandState) (old new : CellState) (granted : Bool) (turns : List Made)
      → ino ≢ other → known_cell actor turns other ≡ Unheld
      → known_cell actor (on_cell ino q h granted old new ∷ locking actor ino after r ∷ turns) other ≡ Unheld
  others_free ino other q r h after old new granted turns apart free =
      let off : (ino == other) ≡ false = ne_eqb ino other apart in rw off free

  -- a drain locks the cell of what it picked, and releases it
  pub releases : (d : Draining) (first : Record) (r : Running) (old new : CellState) (after : HandState) → first.ino < numbers.inodes
      → ((q : Running) → IsHolding first.ino (Release d first) q
      → IsMove numbers actor (on_cell first.ino q empty_hand true old new) after (once_ending (Drains (one_more d)) q))
      → HasCome numbers actor h0 r0 empty_hand (once_picked d r first) → UnlocksNext numbers actor h0 r0 after (once_released d first r)
  releases d first r old new after inside made w =
      let ino = first.ino in
      let picked = once_picked d r first in
      let lock = locking actor ino empty_hand picked in
      let q = once_locked d first r in
      record {
        turns = on_cell ino q empty_hand true old new ∷ lock ∷ w.turns;
        leads = (
          (
            w.leads,
            (subst (λ (known : Known CellState). IsOwn actor known None) (sym (w.free.cells ino)) tt, tt),
            some_state numbers (OwnerIs ino None ∷ []) (tt, tt) (inside, tt),
            (λ s is has. lock_free d first r s (owner_at s ino) has.0.1),
          ),
          (
            subst (λ (known : Known CellState). IsAsLeft known old)
                (sym (locked_unseen ino empty_hand picked w.turns (w.free.cells ino))) tt,
            tt,
          ),
          some_state numbers (CellIs ino old ∷ []) (tt, tt) (inside, tt),
          made q (record { next = refl; slots = refl }),
        );
        next = refl;
        ends = λ is. cc;
        ino = ino;
        slots = refl;
        inside = inside;
        others = λ other apart. others_free ino other q picked empty_hand empty_hand old new true w.turns apart (w.free.cells other);
        book = w.free.book;
      }

  -- so it does where a record was picked
  pub releases_it : (d : Draining) (first : Record) (r : Running) (old new : CellState) (after : HandState) (hand : Hand) (p : Picked)
      → is_record (Some p) ≡ true → first.ino < numbers.inodes → CanReleasePicked old first hand p
      → ((q : Running) → IsHolding first.ino (Release d first) q
      → IsMove numbers actor (on_cell first.ino q empty_hand true old new) after (once_ending (Drains (one_more d)) q))
      → HasPicked numbers actor h0 r0 d r p → HasReleased numbers actor h0 r0 d r after p
  releases_it d first r old new after hand (pick.First picked) was inside can made w =
      subst (λ (x : Record). HasReleased numbers actor h0 r0 d r after (pick.First x)) (sym can.0)
      (releases d first r old new after inside made
      (subst (λ (x : Record). HasCome numbers actor h0 r0 empty_hand (once_picked d r x)) can.0 w))
  releases_it d first r old new after hand (pick.Ends told) was inside can made w = absurd (false≢true was)

  -- and where none was, the call has ended
  pub ends_it : (d : Draining) (r : Running) (after : HandState) (p : Picked) → is_record (Some p) ≡ false
      → HasPicked numbers actor h0 r0 d r p → HasReleased numbers actor h0 r0 d r after p
  ends_it d r after (pick.First picked) none w = absurd (true≢false none)
  ends_it d r after (pick.Ends told) none w = w

  last_is : (h : HandState) (r : Running) (released left : ℕ) → r.ending ≡ Drains (drain_of released left)
      → (w : GivesBack numbers actor h0 r0 left_in.Nothing h r) → IsDrained numbers actor w.last left released h
  last_is h r released left ending w =
      subst (λ (e : Ending). IsLast numbers actor w.last e h) (ap (λ (q : Running). q.ending) w.same ∙ ending) w.gives

  -- behind the last step of a record a drain goes on, or has ended
  pub drains_on : (first : Record) (r : Running) (released left : ℕ)
      → GivesBack numbers actor h0 r0 left_in.Nothing empty_hand (once_released (drain_of released left) first (once_drained released left r))
      → GoesOn numbers actor h0 r0 (released + 1) left r
  drains_on first r released zero w = record {
    turns = w.turns;
    last = w.last;
    leads = w.leads;
    fits = w.fits;
    there = w.there;
    ends = last_is empty_hand (once_released (drain_of released 0) first (once_drained released 0 r)) (released + 1) 0 refl w;
  }
  drains_on first r released (suc left) w =
      let behind = once_released (drain_of released (suc left)) first (once_drained released (suc left) r) in
      record {
        turns = w.last ∷ w.turns;
        leads = (
          w.leads,
          w.fits,
          w.there,
          subst (λ (q : Running). IsMove numbers actor w.last empty_hand (once_drained (released + 1) left q)) w.same
              (last_is empty_hand behind (released + 1) (suc left) refl w),
        );
        free = w.free;
      }

  -- what a release set free is given back
  pub gives_back : (p : Picked) (r : Running) (released left : ℕ) (h after : HandState) → after ≡ empty_hand
      → ((q : Running) → UnlocksNext numbers actor h0 r0 h q → GivesBack numbers actor h0 r0 left_in.Nothing after q)
      → HasReleased numbers actor h0 r0 (drain_of released left) (once_drained released left r) h p
      → HasDrained numbers actor h0 r0 released left r p
  gives_back (pick.First first) r released left h after empty gives w =
      let q = once_released (drain_of released left) first (once_drained released left r) in
      drains_on first r released left (subst (λ (x : HandState). GivesBack numbers actor h0 r0 left_in.Nothing x q) empty (gives q w))
  gives_back (pick.Ends told) r released left h after empty gives w = w

  -- what it picks does not fit: so a test breaks it off
  pub breaks_pick : (hand : Hand) (r : Running) (what : MismatchPart) (why : Fault) → hand_of hand ≡ empty_hand
      → HasCome numbers actor h0 r0 empty_hand r → TakesMisfit numbers actor hand r what → why ≡ fault.Mismatch what
      → IsSessionRun numbers actor h0 r0 (Err why) empty_hand
  breaks_pick hand r what why empty w misfit is =
      breaks_run numbers actor h0 r0 empty_hand what why is
      (broken numbers actor h0 r0 w.turns hand r what (subst (λ (h : HandState). Leads numbers actor h0 r0 w.turns h r) (sym empty) w.leads)
      misfit)

  -- a drain that ended at its pick is a run, which no part broke off
  pub ends_so : (told : Result Answer Fault) (h : HandState) (released : ℕ)
      → ((told ≡ Ok (answers.Count released)) ⊎ (told ≡ Err out_of_memory)) → IsRun numbers actor h0 r0 told h
      → IsSessionRun numbers actor h0 r0 told h
  ends_so told h released (inl is) run =
      subst (λ (t : Result Answer Fault). IsSessionRun numbers actor h0 r0 t h) (sym is)
      (subst (λ (t : Result Answer Fault). IsRun numbers actor h0 r0 t h) is run)
  ends_so told h released (inr is) run =
      subst (λ (t : Result Answer Fault). IsSessionRun numbers actor h0 r0 t h) (sym is)
      (subst (λ (t : Result Answer Fault). IsRun numbers actor h0 r0 t h) is run)

-- a drain begins
pub begins : (numbers : GeometryNumbers) (actor most left : ℕ) (r : Running) → 0 + 1 + left ≡ most
    → HasCome numbers actor empty_hand (once_drained 0 (most - 1) r) empty_hand (once_drained 0 left r)
begins numbers actor most left r is =
    let same : left ≡ most - 1 = omega (arith, is) in
    record {
      turns = [];
      leads = (refl, ap (λ (l : ℕ). once_drained 0 l r) same);
      free = record { cells = λ ino. refl; book = refl };
    }

-- ---- hands

nothing : (blocks pages chain : List BlockValue) (ino : Option ℕ) → length (blocks ++ pages ++ chain) ≡ 0 → ino ≡ None
    → record { blocks = blocks; pages = pages; chain = chain; ino = ino; killed = [] } ≡ empty_hand
nothing [] [] [] None is none = refl
nothing [] [] [] (Some n) is none = absurd (cc)
nothing [] [] (b ∷ bs) ino is none = absurd (omega (arith, is))
nothing [] (b ∷ bs) chain ino is none = absurd (omega (arith, is))
nothing (b ∷ bs) pages chain ino is none = absurd (omega (arith, is))

pub nothing_in : (hand : Hand) → IsEmptyHand hand → hand_of hand ≡ empty_hand
nothing_in hand is = nothing hand.«data».blocks hand.pages.blocks hand.chain hand.ino is.blocks is.number

-- the record that was picked can be released
pub can_first : (cell : CellState) (first : Record) (hand : Hand) (picked : Option Picked) → is_record picked ≡ true
    → ForSome picked (CanReleasePicked cell first hand) → CanRelease cell first hand × (0 < hand.«data».room)
can_first cell first hand None was all = absurd (false≢true was)
can_first cell first hand (Some (pick.Ends told)) was all = absurd (false≢true was)
can_first cell first hand (Some (pick.First picked)) was all =
    let can = all (pick.First picked) refl in (subst (λ (x : Record). CanRelease cell x hand) can.0 can.1, can.2)

-- ---- answers

-- a drain that ended at its pick released so many
pub few_told : (told : Result Answer Fault) (released most : ℕ) → ((told ≡ Ok (answers.Count released)) ⊎ (told ≡ Err out_of_memory))
    → released ≤ most → IfOk told (λ answer. (n : ℕ) × (n ≤ most) × (answer ≡ answers.Count n))
few_told told released most (inl is) few =
    subst (λ (t : Result Answer Fault). IfOk t (λ answer. (n : ℕ) × (n ≤ most) × (answer ≡ answers.Count n))) (sym is) (released, few, refl)
few_told told released most (inr is) few =
    subst (λ (t : Result Answer Fault). IfOk t (λ answer. (n : ℕ) × (n ≤ most) × (answer ≡ answers.Count n))) (sym is) tt

pub want_told : (told : Result Answer Fault) (released : ℕ) → ((told ≡ Ok (answers.Count released)) ⊎ (told ≡ Err out_of_memory))
    → IfErr told IsMisfitOrWant
want_told told released (inl is) = subst (λ (t : Result Answer Fault). IfErr t IsMisfitOrWant) (sym is) tt
want_told told released (inr is) = subst (λ (t : Result Answer Fault). IfErr t IsMisfitOrWant) (sym is) (inr refl)

-- a refused call of a session is told so
pub exits_run : (numbers : GeometryNumbers) (actor : ℕ) (r call : Running) (held : HeldValue) (result : Result Seen Fault) (why : Fault)
    → r ≡ call → result ≡ Err why → IsGivingRun numbers actor r held (Err why) → IsGivingRun numbers actor call held (told_as result)
exits_run numbers actor r call held result why starts is run =
    subst (λ (end : Result Seen Fault). IsGivingRun numbers actor call held (told_as end)) (sym is)
    (subst (λ (q : Running). IsGivingRun numbers actor q held (Err why)) starts run)
