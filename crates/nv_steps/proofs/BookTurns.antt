-- Turns on the book, wherever the other parts are.
use Rattle.std.proofs.Common.{◌≡◌, ◌∙◌, ℕ, zero, suc, ◌<◌, ◌||◌, Bool, true, false, List, [], ◌∷◌, Option, Some, None, ap, ap₂, arith, drop, not, refl, subst, sym}
use Rattle.std.specs.Prelude.{IsSome, Result, Ok, Err, slice_get}
use Rattle.std.proofs.lemmas.Bool.{false≢true}
use Rattle.nv_base.specs.declared.fault.Fault.{Fault}
use Rattle.nv_base.specs.declared.fault.Fault.TheVariants.{NoSnapshot}
use Rattle.nv_base.specs.Memory.{out_of_memory}
use Rattle.nv_base.specs.declared.geometry.GeometryNumbers.{GeometryNumbers}
use Rattle.nv_book.specs.Book.{BookState, after_drop_snapshot, after_make_snapshot, after_pick, after_pin_snapshot, after_unpin_snapshot}
use Rattle.nv_book.specs.declared.record.Record.{Record}
use Rattle.nv_calls.specs.Refusals.{Check as Tests}
use Rattle.nv_calls.specs.declared.answer.Answer.{Answer}
use Rattle.nv_calls.specs.declared.answer.Answer.TheVariants as answers
use Rattle.nv_entry.specs.declared.tree.TreeNode.{TreeNode}
use Rattle.nv_epoch.specs.SnapList.{pins_of}
use Rattle.nv_machine.specs.Kinds.{grown, refuse}
use Rattle.nv_machine.specs.SnapshotOrCleaner.{drop_tests, drop_turn, first_showing, if_free, is_first, make_tests, make_turn, picked_turn, pin_turn, shown_by}
use Rattle.nv_machine.specs.Step.{kind_turn, turn}
use Rattle.nv_machine.specs.World.{Draining, Drop, Ends, HandState, Make, Moves, Next, Pick, Pin, Running, Shared, Showing, SnapshotOrCleaner, Turn, Unpin, empty_hand, with_book}
use Rattle.nv_machine.proofs.FiledTurns.{refused_at_once}
use Rattle.nv_reader.specs.Showing.{new_showing}
use Rattle.nv_steps.specs.OnBook.{IsBefore, on_book, once_picked, once_pinned, room_for}
use Rattle.nv_steps.specs.Turns.{IsEnd, IsMove}

pub by_next : (k : Next) (block actor : ℕ) (granted : Bool) (s : Shared) (h : HandState) (r : Running) → r.next ≡ k
    → turn block actor granted s h r ≡ kind_turn k block actor granted s h r
by_next k block actor granted s h r next = ap (λ (x : Next). kind_turn x block actor granted s h r) next

pub free_turn : (holder : Option ℕ) (t u : Turn) → holder ≡ None → t ≡ u → if_free holder t ≡ u
free_turn holder t u free is = rw free is

-- a call that holds nothing is refused, and the book stays
pub refused_on : (fault : Fault) (old : BookState) (s : Shared) (r : Running) → s.book ≡ old → r.slots ≡ []
    → refuse fault s empty_hand r ≡ Ends (Err fault) (with_book old s) empty_hand
refused_on fault old s r is none =
    refused_at_once fault s empty_hand r refl none ∙ ap (λ (b : BookState). Ends (Err fault) (with_book b s) empty_hand) is

module _ (numbers : GeometryNumbers) (actor : ℕ) (granted : Bool) (r : Running) (old new : BookState) where
  -- ---- a making

  pub make_done : (made : ℕ) → IsBefore Make r → make_tests old.snaps ≡ Ok tt → new ≡ after_make_snapshot old → made ≡ old.snaps.epoch
      → IsEnd numbers actor (on_book r empty_hand granted old new) (Ok (answers.Snapshot made)) empty_hand
  make_done made before passes left number = λ s is_of has.
      by_next (SnapshotOrCleaner Make) numbers.block actor granted s empty_hand r before.next
      ∙ free_turn s.holder (make_turn (make_tests s.book.snaps) s empty_hand r)
      (Ends (Ok (answers.Snapshot made)) (with_book new s) empty_hand) has.1.0 (go s has.0) where
        go : (s : Shared) → s.book ≡ old
            → make_turn (make_tests s.book.snaps) s empty_hand r ≡ Ends (Ok (answers.Snapshot made)) (with_book new s) empty_hand
        go s is =
            let tests : make_tests s.book.snaps ≡ Ok tt = ap (λ (b : BookState). make_tests b.snaps) is ∙ passes in
            subst (λ (b : BookState). make_turn (make_tests s.book.snaps) s empty_hand r
            ≡ Ends (Ok (answers.Snapshot b.snaps.epoch)) (with_book (after_make_snapshot b) s) empty_hand) is
            (ap (λ (x : Tests). make_turn x s empty_hand r) tests)
            ∙ ap₂ (λ (n : ℕ) (b : BookState). Ends (Ok (answers.Snapshot n)) (with_book b s) empty_hand) (sym number) (sym left)

  pub make_refused : (fault : Fault) → IsBefore Make r → make_tests old.snaps ≡ Err fault → new ≡ old
      → IsEnd numbers actor (on_book r empty_hand granted old new) (Err fault) empty_hand
  make_refused fault before fails same = λ s is_of has.
      by_next (SnapshotOrCleaner Make) numbers.block actor granted s empty_hand r before.next
      ∙ free_turn s.holder (make_turn (make_tests s.book.snaps) s empty_hand r)
      (Ends (Err fault) (with_book new s) empty_hand) has.1.0
      (ap (λ (x : Tests). make_turn x s empty_hand r) (ap (λ (b : BookState). make_tests b.snaps) has.0 ∙ fails)
      ∙ refused_on fault new s r (has.0 ∙ sym same) before.slots)

  -- ---- a drop

  pub drop_done : (snapshot : ℕ) → IsBefore (Drop snapshot) r → drop_tests (pins_of old.snaps snapshot) ≡ Ok tt
      → new ≡ after_drop_snapshot snapshot old
      → IsEnd numbers actor (on_book r empty_hand granted old new) (Ok answers.Nothing) empty_hand
  drop_done snapshot before passes left = λ s is_of has.
      by_next (SnapshotOrCleaner (Drop snapshot)) numbers.block actor granted s empty_hand r before.next
      ∙ free_turn s.holder (drop_turn snapshot (drop_tests (pins_of s.book.snaps snapshot)) s empty_hand r)
      (Ends (Ok answers.Nothing) (with_book new s) empty_hand) has.1.0
      (ap (λ (x : Tests). drop_turn snapshot x s empty_hand r)
      (ap (λ (b : BookState). drop_tests (pins_of b.snaps snapshot)) has.0 ∙ passes)
      ∙ ap (λ (b : BookState). Ends (Ok answers.Nothing) (with_book b s) empty_hand)
      (ap (after_drop_snapshot snapshot) has.0 ∙ sym left))

  pub drop_refused : (snapshot : ℕ) (fault : Fault) → IsBefore (Drop snapshot) r → drop_tests (pins_of old.snaps snapshot) ≡ Err fault
      → new ≡ old → IsEnd numbers actor (on_book r empty_hand granted old new) (Err fault) empty_hand
  drop_refused snapshot fault before fails same = λ s is_of has.
      by_next (SnapshotOrCleaner (Drop snapshot)) numbers.block actor granted s empty_hand r before.next
      ∙ free_turn s.holder (drop_turn snapshot (drop_tests (pins_of s.book.snaps snapshot)) s empty_hand r)
      (Ends (Err fault) (with_book new s) empty_hand) has.1.0
      (ap (λ (x : Tests). drop_turn snapshot x s empty_hand r)
      (ap (λ (b : BookState). drop_tests (pins_of b.snaps snapshot)) has.0 ∙ fails)
      ∙ refused_on fault new s r (has.0 ∙ sym same) before.slots)

  -- ---- a pin, and its end

  pinned : (snapshot : ℕ) (pins : Option ℕ) (s : Shared) → IsSome pins → pin_turn snapshot pins s empty_hand r
      ≡ Moves (with_book (after_pin_snapshot snapshot s.book) s) empty_hand (once_pinned snapshot r (first_showing s))
  pinned snapshot None s some = absurd (false≢true some)
  pinned snapshot (Some pins) s some = refl

  pub pin_done : (snapshot inodes : ℕ) (showing : Showing) → numbers.inodes ≡ inodes → IsBefore (Pin snapshot) r
      → IsSome (pins_of old.snaps snapshot) → new ≡ after_pin_snapshot snapshot old → showing ≡ new_showing inodes
      → IsMove numbers actor (on_book r empty_hand granted old new) empty_hand (once_pinned snapshot r showing)
  pin_done snapshot inodes showing many before some left begun = λ s is_of has.
      let lives : IsSome (pins_of s.book.snaps snapshot) =
      subst (λ (b : BookState). IsSome (pins_of b.snaps snapshot)) (sym has.0) some in
      let first : first_showing s ≡ showing = ap new_showing (is_of.cells ∙ many) ∙ sym begun in
      by_next (SnapshotOrCleaner (Pin snapshot)) numbers.block actor granted s empty_hand r before.next
      ∙ free_turn s.holder (pin_turn snapshot (pins_of s.book.snaps snapshot) s empty_hand r)
      (Moves (with_book new s) empty_hand (once_pinned snapshot r showing)) has.1.0
      (pinned snapshot (pins_of s.book.snaps snapshot) s lives
      ∙ ap₂ (λ (b : BookState) (x : Showing). Moves (with_book b s) empty_hand (once_pinned snapshot r x))
      (ap (after_pin_snapshot snapshot) has.0 ∙ sym left) first)

  pub pin_refused : (snapshot : ℕ) (fault : Fault) → IsBefore (Pin snapshot) r → pins_of old.snaps snapshot ≡ None → fault ≡ NoSnapshot
      → new ≡ old → IsEnd numbers actor (on_book r empty_hand granted old new) (Err fault) empty_hand
  pin_refused snapshot fault before none why same = λ s is_of has.
      by_next (SnapshotOrCleaner (Pin snapshot)) numbers.block actor granted s empty_hand r before.next
      ∙ free_turn s.holder (pin_turn snapshot (pins_of s.book.snaps snapshot) s empty_hand r)
      (Ends (Err fault) (with_book new s) empty_hand) has.1.0
      (ap (λ (x : Option ℕ). pin_turn snapshot x s empty_hand r) (ap (λ (b : BookState). pins_of b.snaps snapshot) has.0 ∙ none)
      ∙ (ap (λ (x : Fault). refuse x s empty_hand r) (sym why) ∙ refused_on fault new s r (has.0 ∙ sym same) before.slots))

  pub unpin_done : (snapshot : ℕ) (seen : List TreeNode) (result : Result Answer Fault) (h : HandState)
      → r.next ≡ SnapshotOrCleaner (Unpin snapshot seen) → shown_by r.ending seen ≡ result → new ≡ after_unpin_snapshot snapshot old
      → IsEnd numbers actor (on_book r h granted old new) result h
  unpin_done snapshot seen result h next told left = λ s is_of has.
      by_next (SnapshotOrCleaner (Unpin snapshot seen)) numbers.block actor granted s h r next
      ∙ free_turn s.holder (Ends (shown_by r.ending seen) (with_book (after_unpin_snapshot snapshot s.book) s) h)
      (Ends result (with_book new s) h) has.1.0
      (ap₂ (λ (x : Result Answer Fault) (b : BookState). Ends x (with_book b s) h) told
      (ap (after_unpin_snapshot snapshot) has.0 ∙ sym left))

-- ---- a pick

-- behind the first pick no room is made
pub no_room_more : (released room : ℕ) → 0 < released → room_for released room ≡ room
no_room_more zero room some = absurd (omega (arith, some))
no_room_more (suc released) room some = refl

first_picked : (deferred : List Record) (picked : Record) (d : Draining) (s : Shared) (h : HandState) (r : Running)
    → Some picked ≡ slice_get deferred 0
    → picked_turn deferred d s h r ≡ Moves (with_book (after_pick s.book) s) h (once_picked d r picked)
first_picked [] picked d s h r is = cc
first_picked (first ∷ deferred) picked d s h r is =
    let same : first ≡ picked = cc in
    ap (λ (x : Record). Moves (with_book (after_pick s.book) s) h (once_picked d r x)) same

none_picked : (deferred : List Record) → None ≡ slice_get deferred 0 → deferred ≡ []
none_picked [] is = refl
none_picked (first ∷ deferred) is = cc

none_left : (old : BookState) → old.deferred ≡ [] → after_pick old ≡ old
none_left old empty =
    ap (λ (l : List Record). record old { deferred = drop 1 l }) empty ∙ ap (λ (l : List Record). record old { deferred = l }) (sym empty)

module _ (numbers : GeometryNumbers) (actor : ℕ) (r : Running) (old new : BookState) (d : Draining) (before : IsBefore (Pick d) r) where
  pub pick_done : (h after : HandState) (picked : Record) → after ≡ h → Some picked ≡ slice_get old.deferred 0 → new ≡ after_pick old
      → IsMove numbers actor (on_book r h true old new) after (once_picked d r picked)
  pick_done h after picked kept first left = λ s is_of has.
      by_next (SnapshotOrCleaner (Pick d)) numbers.block actor true s h r before.next
      ∙ free_turn s.holder (picked_turn s.book.deferred d s h r) (Moves (with_book new s) after (once_picked d r picked)) has.1.0
      (first_picked s.book.deferred picked d s h r (first ∙ ap (λ (b : BookState). slice_get b.deferred 0) (sym has.0))
      ∙ ap₂ (λ (b : BookState) (x : HandState). Moves (with_book b s) x (once_picked d r picked))
      (ap after_pick has.0 ∙ sym left) (sym kept))

  pub pick_none : (h after : HandState) → after ≡ h → None ≡ slice_get old.deferred 0 → new ≡ after_pick old
      → IsEnd numbers actor (on_book r h true old new) (Ok (answers.Count d.released)) after
  pick_none h after kept none left = λ s is_of has.
      let empty : old.deferred ≡ [] = none_picked old.deferred none in
      let same : new ≡ old = left ∙ none_left old empty in
      by_next (SnapshotOrCleaner (Pick d)) numbers.block actor true s h r before.next
      ∙ free_turn s.holder (picked_turn s.book.deferred d s h r) (Ends (Ok (answers.Count d.released)) (with_book new s) after) has.1.0
      (ap (λ (l : List Record). picked_turn l d s h r) (ap (λ (b : BookState). b.deferred) has.0 ∙ empty)
      ∙ ap₂ (λ (b : BookState) (x : HandState). Ends (Ok (answers.Count d.released)) (with_book b s) x) (has.0 ∙ sym same) (sym kept))

  pub pick_refused : (h after : HandState) (fault : Fault) → h ≡ empty_hand → after ≡ h → is_first d ≡ true → fault ≡ out_of_memory → new ≡ old
      → IsEnd numbers actor (on_book r h false old new) (Err fault) after
  pick_refused h after fault none kept first why same = λ s is_of has.
      by_next (SnapshotOrCleaner (Pick d)) numbers.block actor false s h r before.next
      ∙ free_turn s.holder (grown (false || not (is_first d)) (picked_turn s.book.deferred d s h r) s h r)
      (Ends (Err fault) (with_book new s) after) has.1.0
      (ap (λ (b : Bool). grown (false || not b) (picked_turn s.book.deferred d s h r) s h r) first
      ∙ (ap₂ (λ (x : Fault) (y : HandState). refuse x s y r) (sym why) none
      ∙ (refused_on fault new s r (has.0 ∙ sym same) before.slots
      ∙ ap (λ (y : HandState). Ends (Err fault) (with_book new s) y) (sym (kept ∙ none)))))
