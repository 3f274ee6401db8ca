-- A turn on the book reads the book alone: so it makes the same of each state that has this book, whatever lists it has.
use Rattle.std.proofs.Common.{◌≡◌, ◌∙◌, ℕ, ◌||◌, Bool, true, false, List, [], ◌∷◌, Option, Some, None, ap, ap₂, length, not, refl, sym}
use Rattle.std.specs.Prelude.{Err, Ok, Result}
use Rattle.nv_base.specs.Memory.{out_of_memory}
use Rattle.nv_base.specs.declared.fault.Fault.{Fault}
use Rattle.nv_base.specs.declared.fault.Fault.TheVariants.{NoSnapshot}
use Rattle.nv_base.specs.declared.geometry.GeometryNumbers.{GeometryNumbers}
use Rattle.nv_book.specs.Book.{BookState, after_drop_snapshot, after_make_snapshot, after_pick, after_pin_snapshot, after_unpin_snapshot}
use Rattle.nv_book.specs.declared.record.Record.{Record}
use Rattle.nv_calls.specs.Refusals.{Check as Tests}
use Rattle.nv_calls.specs.declared.answer.Answer.{Answer}
use Rattle.nv_calls.specs.declared.answer.Answer.TheVariants as answers
use Rattle.nv_entry.specs.declared.tree.TreeNode.{TreeNode}
use Rattle.nv_epoch.specs.SnapList.{pins_of}
use Rattle.nv_machine.specs.Kinds.{grown, refuse}
use Rattle.nv_machine.specs.SnapshotOrCleaner.{drop_tests, drop_turn, if_free, is_first, make_tests, make_turn, pick_turn, picked_turn, pin_turn, shown_by, unpin_turn}
use Rattle.nv_machine.specs.Step.{kind_turn, turn}
use Rattle.nv_machine.specs.World.{Draining, Drop, Ends, HandState, Make, Moves, Next, Pick, Pin, Running, Shared, SnapshotOrCleaner, Turn, Unpin, Waits, empty_hand, with_book}
use Rattle.nv_reader.specs.Showing.{new_showing}
use Rattle.nv_steps.specs.OnBook.{IsBefore, on_book, once_picked, once_pinned}
use Rattle.nv_steps.specs.Turns.{IsEnd, IsMove}
use Rattle.nv_steps.proofs.BookTurns.{by_next, free_turn, refused_on}
use Rattle.nv_steps.proofs.OneTurn.{book_there}

-- a turn, with what it leaves of the book in another state
abbrev put_in : Shared → Turn → Turn
put_in s (Moves t h r) = Moves (with_book t.book s) h r
put_in s Waits = Waits
put_in s (Ends result t h) = Ends result (with_book t.book s) h

-- what is told of a turn in each state that has what it found, is told in one that has the book alone
module _ (numbers : GeometryNumbers) (actor : ℕ) (granted : Bool) (r : Running) (h after : HandState) (old new : BookState) (k : Next)
    (next : r.next ≡ k) (s : Shared) (here : Turn) (there : Shared → Turn)
    (waits : (t : Shared) → kind_turn k numbers.block actor granted t h r ≡ if_free t.holder (there t))
    (alike : (t : Shared) → t.book ≡ old → length t.cells ≡ numbers.inodes → here ≡ put_in s (there t)) where
  from_found : (told : Turn) → turn numbers.block actor granted (book_there numbers old).shared h r ≡ told → here ≡ put_in s told
  from_found told comes =
      let some = book_there numbers old in
      let t = some.shared in
      alike t some.has.0 some.is_of.cells
      ∙ ap (put_in s) (sym (free_turn t.holder (there t) (there t) some.has.1.0 refl)
      ∙ (sym (waits t) ∙ (sym (by_next k numbers.block actor granted t h r next) ∙ comes)))

  ends_here : (result : Result Answer Fault) → IsEnd numbers actor (on_book r h granted old new) result after
      → here ≡ Ends result (with_book new s) after
  ends_here result ends =
      let some = book_there numbers old in
      from_found (Ends result (with_book new some.shared) after) (ends some.shared some.is_of some.has)

  moves_here : (q : Running) → IsMove numbers actor (on_book r h granted old new) after q → here ≡ Moves (with_book new s) after q
  moves_here q moves =
      let some = book_there numbers old in
      from_found (Moves (with_book new some.shared) after q) (moves some.shared some.is_of some.has)

-- ---- two states with one book

module _ (s t : Shared) (same : s.book ≡ t.book) where
  refused_alike : (fault : Fault) (r q : Running) → r.slots ≡ [] → q.slots ≡ []
      → refuse fault s empty_hand r ≡ put_in s (refuse fault t empty_hand q)
  refused_alike fault r q none also =
      refused_on fault t.book s r same none ∙ ap (put_in s) (sym (refused_on fault t.book t q refl also))

  make_alike : (tests : Tests) (r q : Running) → r.slots ≡ [] → q.slots ≡ []
      → make_turn tests s empty_hand r ≡ put_in s (make_turn tests t empty_hand q)
  make_alike (Err fault) r q none also = refused_alike fault r q none also
  make_alike (Ok passed) r q none also =
      ap (λ (b : BookState). Ends (Ok (answers.Snapshot b.snaps.epoch)) (with_book (after_make_snapshot b) s) empty_hand) same

  drop_alike : (snapshot : ℕ) (tests : Tests) (r q : Running) → r.slots ≡ [] → q.slots ≡ []
      → drop_turn snapshot tests s empty_hand r ≡ put_in s (drop_turn snapshot tests t empty_hand q)
  drop_alike snapshot (Err fault) r q none also = refused_alike fault r q none also
  drop_alike snapshot (Ok passed) r q none also =
      ap (λ (b : BookState). Ends (Ok answers.Nothing) (with_book (after_drop_snapshot snapshot b) s) empty_hand) same

  pin_alike : (snapshot : ℕ) (pins : Option ℕ) (r : Running) → r.slots ≡ [] → length s.cells ≡ length t.cells
      → pin_turn snapshot pins s empty_hand r ≡ put_in s (pin_turn snapshot pins t empty_hand r)
  pin_alike snapshot None r none many = refused_alike NoSnapshot r r none none
  pin_alike snapshot (Some pins) r none many =
      ap₂ (λ (b : BookState) (n : ℕ). Moves (with_book (after_pin_snapshot snapshot b) s) empty_hand
      (once_pinned snapshot r (new_showing n))) same many

  picked_alike : (deferred : List Record) (d : Draining) (r : Running)
      → picked_turn deferred d s empty_hand r ≡ put_in s (picked_turn deferred d t empty_hand r)
  picked_alike [] d r = ap (λ (b : BookState). Ends (Ok (answers.Count d.released)) (with_book b s) empty_hand) same
  picked_alike (first ∷ deferred) d r =
      ap (λ (b : BookState). Moves (with_book (after_pick b) s) empty_hand (once_picked d r first)) same

  grown_alike : (b : Bool) (x y : Turn) (r : Running) → r.slots ≡ [] → x ≡ put_in s y
      → grown b x s empty_hand r ≡ put_in s (grown b y t empty_hand r)
  grown_alike true x y r none is = is
  grown_alike false x y r none is = refused_alike out_of_memory r r none none

-- ---- a making, and a drop

abbrev pub numbers_of : ℕ → GeometryNumbers
numbers_of inodes = record { blocks = 0; cpus = 0; block = 0; page = 0; inodes = inodes; snaps = 0; actors = 0 }

module _ (old new : BookState) (result : Result Answer Fault) (s : Shared) (r : Running) (is : s.book ≡ old) (none : r.slots ≡ []) where
  pub make_here : ((numbers : GeometryNumbers) (actor : ℕ) (granted : Bool) (q : Running) → IsBefore Make q
      → IsEnd numbers actor (on_book q empty_hand granted old new) result empty_hand)
      → make_turn (make_tests s.book.snaps) s empty_hand r ≡ Ends result (with_book new s) empty_hand
  make_here ends =
      let q : Running = record r { next = SnapshotOrCleaner Make } in
      ends_here (numbers_of 0) 0 true q empty_hand empty_hand old new (SnapshotOrCleaner Make) refl s
      (make_turn (make_tests s.book.snaps) s empty_hand r) (λ t. make_turn (make_tests t.book.snaps) t empty_hand q) (λ t. refl)
      (λ t book many.
      ap (λ (b : BookState). make_turn (make_tests b.snaps) s empty_hand r) (is ∙ sym book)
      ∙ make_alike s t (is ∙ sym book) (make_tests t.book.snaps) r q none none)
      result (ends (numbers_of 0) 0 true q (record { next = refl; slots = none }))

  pub drop_here : (snapshot : ℕ) → ((numbers : GeometryNumbers) (actor : ℕ) (granted : Bool) (q : Running) → IsBefore (Drop snapshot) q
      → IsEnd numbers actor (on_book q empty_hand granted old new) result empty_hand)
      → drop_turn snapshot (drop_tests (pins_of s.book.snaps snapshot)) s empty_hand r ≡ Ends result (with_book new s) empty_hand
  drop_here snapshot ends =
      let q : Running = record r { next = SnapshotOrCleaner (Drop snapshot) } in
      ends_here (numbers_of 0) 0 true q empty_hand empty_hand old new (SnapshotOrCleaner (Drop snapshot)) refl s
      (drop_turn snapshot (drop_tests (pins_of s.book.snaps snapshot)) s empty_hand r)
      (λ t. drop_turn snapshot (drop_tests (pins_of t.book.snaps snapshot)) t empty_hand q) (λ t. refl)
      (λ t book many.
      ap (λ (b : BookState). drop_turn snapshot (drop_tests (pins_of b.snaps snapshot)) s empty_hand r) (is ∙ sym book)
      ∙ drop_alike s t (is ∙ sym book) snapshot (drop_tests (pins_of t.book.snaps snapshot)) r q none none)
      result (ends (numbers_of 0) 0 true q (record { next = refl; slots = none }))

-- ---- a pin, and its end

module _ (old new : BookState) (s : Shared) (r : Running) (is : s.book ≡ old) where
  module _ (snapshot : ℕ) (numbers : GeometryNumbers) (before : IsBefore (Pin snapshot) r) (many : length s.cells ≡ numbers.inodes) where
    pinned_alike : (t : Shared) → t.book ≡ old → length t.cells ≡ numbers.inodes
        → pin_turn snapshot (pins_of s.book.snaps snapshot) s empty_hand r
        ≡ put_in s (pin_turn snapshot (pins_of t.book.snaps snapshot) t empty_hand r)
    pinned_alike t book cells =
        ap (λ (b : BookState). pin_turn snapshot (pins_of b.snaps snapshot) s empty_hand r) (is ∙ sym book)
        ∙ pin_alike s t (is ∙ sym book) snapshot (pins_of t.book.snaps snapshot) r before.slots (many ∙ sym cells)

    pub pin_moves : (q : Running) → IsMove numbers 0 (on_book r empty_hand true old new) empty_hand q
        → pin_turn snapshot (pins_of s.book.snaps snapshot) s empty_hand r ≡ Moves (with_book new s) empty_hand q
    pin_moves =
        moves_here numbers 0 true r empty_hand empty_hand old new (SnapshotOrCleaner (Pin snapshot)) before.next s
        (pin_turn snapshot (pins_of s.book.snaps snapshot) s empty_hand r)
        (λ t. pin_turn snapshot (pins_of t.book.snaps snapshot) t empty_hand r) (λ t. refl) pinned_alike

    pub pin_ends : (result : Result Answer Fault) → IsEnd numbers 0 (on_book r empty_hand true old new) result empty_hand
        → pin_turn snapshot (pins_of s.book.snaps snapshot) s empty_hand r ≡ Ends result (with_book new s) empty_hand
    pin_ends =
        ends_here numbers 0 true r empty_hand empty_hand old new (SnapshotOrCleaner (Pin snapshot)) before.next s
        (pin_turn snapshot (pins_of s.book.snaps snapshot) s empty_hand r)
        (λ t. pin_turn snapshot (pins_of t.book.snaps snapshot) t empty_hand r) (λ t. refl) pinned_alike

  pub unpin_here : (snapshot : ℕ) (seen : List TreeNode) (h : HandState) → r.next ≡ SnapshotOrCleaner (Unpin snapshot seen)
      → (result : Result Answer Fault) → IsEnd (numbers_of 0) 0 (on_book r h true old new) result h
      → unpin_turn snapshot seen s h r ≡ Ends result (with_book new s) h
  unpin_here snapshot seen h next =
      ends_here (numbers_of 0) 0 true r h h old new (SnapshotOrCleaner (Unpin snapshot seen)) next s (unpin_turn snapshot seen s h r)
      (λ t. unpin_turn snapshot seen t h r) (λ t. refl)
      (λ t book many. ap (λ (b : BookState). Ends (shown_by r.ending seen) (with_book (after_unpin_snapshot snapshot b) s) h) (is ∙ sym book))

  -- ---- a pick

  module _ (d : Draining) (granted : Bool) (h after : HandState) (none : h ≡ empty_hand) (before : IsBefore (Pick d) r) where
    pick_alike : (t : Shared) → t.book ≡ old → length t.cells ≡ 0
        → pick_turn d granted s empty_hand r ≡ put_in s (pick_turn d granted t h r)
    pick_alike t book cells =
        let same : s.book ≡ t.book = is ∙ sym book in
        grown_alike s t same (granted || not (is_first d)) (picked_turn s.book.deferred d s empty_hand r)
        (picked_turn t.book.deferred d t empty_hand r) r before.slots
        (ap (λ (b : BookState). picked_turn b.deferred d s empty_hand r) same ∙ picked_alike s t same t.book.deferred d r)
        ∙ ap (λ (x : HandState). put_in s (pick_turn d granted t x r)) (sym none)

    pub pick_moves : (q : Running) → IsMove (numbers_of 0) 0 (on_book r h granted old new) after q
        → pick_turn d granted s empty_hand r ≡ Moves (with_book new s) after q
    pick_moves =
        moves_here (numbers_of 0) 0 granted r h after old new (SnapshotOrCleaner (Pick d)) before.next s (pick_turn d granted s empty_hand r)
        (λ t. pick_turn d granted t h r) (λ t. refl) pick_alike

    pub pick_ends : (result : Result Answer Fault) → IsEnd (numbers_of 0) 0 (on_book r h granted old new) result after
        → pick_turn d granted s empty_hand r ≡ Ends result (with_book new s) after
    pick_ends =
        ends_here (numbers_of 0) 0 granted r h after old new (SnapshotOrCleaner (Pick d)) before.next s (pick_turn d granted s empty_hand r)
        (λ t. pick_turn d granted t h r) (λ t. refl) pick_alike
