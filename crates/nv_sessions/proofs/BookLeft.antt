-- What a pin and an unpin leave of the book, and what they give, by their turns.
use Rattle.std.proofs.Common.{◌≡◌, ◌∙◌, ◌⊎◌, ℕ, Bool, true, List, [], Option, Some, None, ap, inl, inr, refl, sym}
use Rattle.std.specs.Prelude.{MatchResult, Result, Ok, Err}
use Rattle.nv_base.specs.Refusals.{FailsOnly}
use Rattle.nv_base.specs.declared.fault.Fault.{Fault}
use Rattle.nv_base.specs.declared.fault.Fault.TheVariants.{NoSnapshot}
use Rattle.nv_base.specs.declared.geometry.GeometryNumbers.{GeometryNumbers}
use Rattle.nv_book.specs.Book.{BookState, after_pin_snapshot, after_unpin_snapshot}
use Rattle.nv_calls.specs.declared.answer.Answer.{Answer}
use Rattle.nv_entry.specs.declared.tree.TreeNode.{TreeNode}
use Rattle.nv_epoch.specs.SnapList.{pins_of}
use Rattle.nv_machine.specs.SnapshotOrCleaner.{pin_turn, shown_by, unpin_turn}
use Rattle.nv_machine.specs.Step.{turn}
use Rattle.nv_machine.specs.World.{Ends, HandState, Moves, Pin, Refuses, Running, Shared, SnapshotOrCleaner, Turn, Unpin, Waits, empty_hand, with_book}
use Rattle.nv_machine.proofs.FiledTurns.{refused_at_once}
use Rattle.nv_reader.specs.Showing.{Showing}
use Rattle.nv_steps.specs.OnBook.{IsBefore, IsTurnTo, answer_of_show, on_book, once_pinned}
use Rattle.nv_steps.specs.Turns.{IsEnd}
use Rattle.nv_steps.proofs.BookTurns.{by_next, free_turn}
use Rattle.nv_steps.proofs.OneTurn.{book_there}
use Rattle.nv_sessions.specs.ShowRuns.{showing}

-- ---- what a turn comes to

-- the book behind a turn
abbrev book_in : BookState → Turn → BookState
book_in old (Moves s h r) = s.book
book_in old Waits = old
book_in old (Ends result s h) = s.book

-- the answer of a last turn
abbrev end_in : Turn → Result Answer Fault
end_in (Ends result s h) = result
end_in other = Err NoSnapshot

-- the fault of a refusal
abbrev why_in : Result Answer Fault → Fault
why_in (Err why) = why
why_in (Ok answer) = NoSnapshot

-- ---- a pin

module _ (numbers : GeometryNumbers) (actor : ℕ) (r : Running) (old new : BookState) (snapshot : ℕ) (before : IsBefore (Pin snapshot) r) where
  abbrev s : Shared
  s = (book_there numbers old).shared

  turn_is : turn numbers.block actor true s empty_hand r ≡ pin_turn snapshot (pins_of s.book.snaps snapshot) s empty_hand r
  turn_is =
      by_next (SnapshotOrCleaner (Pin snapshot)) numbers.block actor true s empty_hand r before.next
      ∙ free_turn s.holder (pin_turn snapshot (pins_of s.book.snaps snapshot) s empty_hand r)
      (pin_turn snapshot (pins_of s.book.snaps snapshot) s empty_hand r) (book_there numbers old).has.1.0 refl

  refused : pin_turn snapshot None s empty_hand r ≡ Ends (Err NoSnapshot) s empty_hand
  refused = refused_at_once NoSnapshot s empty_hand r refl before.slots

  on : (pins : Option ℕ) (first : Showing)
      → pin_turn snapshot pins s empty_hand r ≡ Moves (with_book new s) empty_hand (once_pinned snapshot r first)
      → new ≡ after_pin_snapshot snapshot old
  on None first is = let no = sym refused ∙ is in cc
  on (Some pins) first is = sym (ap (book_in old) is) ∙ ap (after_pin_snapshot snapshot) (book_there numbers old).has.0

  end : (pins : Option ℕ) (why : Fault) → pin_turn snapshot pins s empty_hand r ≡ Ends (Err why) (with_book new s) empty_hand
      → (why ≡ NoSnapshot) × (new ≡ old)
  end None why is = let both = sym refused ∙ is in
      (sym (ap (λ (t : Turn). why_in (end_in t)) both), sym (ap (book_in old) both) ∙ (book_there numbers old).has.0)
  end (Some pins) why is = cc

  pub pin_left : (result : Result Showing Fault)
      → IsTurnTo numbers actor (on_book r empty_hand true old new) (once_pinned snapshot r) result empty_hand
      → MatchResult result (λ first. new ≡ after_pin_snapshot snapshot old) (λ why. (why ≡ NoSnapshot) × (new ≡ old))
  pin_left (Ok first) moves =
      on (pins_of s.book.snaps snapshot) first
      (sym turn_is ∙ moves s (book_there numbers old).is_of (book_there numbers old).has)
  pin_left (Err why) ends =
      end (pins_of s.book.snaps snapshot) why
      (sym turn_is ∙ ends s (book_there numbers old).is_of (book_there numbers old).has)

-- numbers of a device with so many inodes
abbrev with_inodes : ℕ → GeometryNumbers
with_inodes inodes = record { blocks = 0; cpus = 0; block = 0; page = 0; inodes = inodes; snaps = 0; actors = 0 }

-- the same of a pin that is such a turn of any actor
module _ (inodes : ℕ) (old new : BookState) (snapshot : ℕ) (result : Result Showing Fault)
    (turns : (numbers : GeometryNumbers) (actor : ℕ) (granted : Bool) (r : Running) → numbers.inodes ≡ inodes → IsBefore (Pin snapshot) r
    → IsTurnTo numbers actor (on_book r empty_hand granted old new) (once_pinned snapshot r) result empty_hand) where
  left : MatchResult result (λ first. new ≡ after_pin_snapshot snapshot old) (λ why. (why ≡ NoSnapshot) × (new ≡ old))
  left =
      let numbers = with_inodes inodes in
      let before : IsBefore (Pin snapshot) (showing snapshot) = record { next = refl; slots = refl } in
      pin_left numbers 0 (showing snapshot) old new snapshot before result (turns numbers 0 true (showing snapshot) refl before)

  pub pinning_left : (new ≡ after_pin_snapshot snapshot old) ⊎ (new ≡ old)
  pinning_left = go result left where
    go : (r : Result Showing Fault) → MatchResult r (λ first. new ≡ after_pin_snapshot snapshot old)
        (λ why. (why ≡ NoSnapshot) × (new ≡ old)) → (new ≡ after_pin_snapshot snapshot old) ⊎ (new ≡ old)
    go (Ok first) is = inl is
    go (Err why) is = inr is.1

  pub pinning_fails : FailsOnly NoSnapshot result
  pinning_fails = go result left where
    go : (r : Result Showing Fault) → MatchResult r (λ first. new ≡ after_pin_snapshot snapshot old)
        (λ why. (why ≡ NoSnapshot) × (new ≡ old)) → FailsOnly NoSnapshot r
    go (Ok first) is = tt
    go (Err why) is = is.0

-- ---- an unpin

-- a show before its unpin
abbrev pub unpinning : ℕ → Result (List TreeNode) Fault → Running
unpinning snapshot (Ok seen) = record (showing snapshot) { next = SnapshotOrCleaner (Unpin snapshot seen) }
unpinning snapshot (Err why) = record (showing snapshot) { ending = Refuses why; next = SnapshotOrCleaner (Unpin snapshot []) }

-- what it has seen
abbrev pub seen_of : Result (List TreeNode) Fault → List TreeNode
seen_of (Ok seen) = seen
seen_of (Err why) = []

pub next_is : (snapshot : ℕ) (shown : Result (List TreeNode) Fault)
    → (unpinning snapshot shown).next ≡ SnapshotOrCleaner (Unpin snapshot (seen_of shown))
next_is snapshot (Ok seen) = refl
next_is snapshot (Err why) = refl

pub told_is : (snapshot : ℕ) (shown : Result (List TreeNode) Fault)
    → shown_by (unpinning snapshot shown).ending (seen_of shown) ≡ answer_of_show shown
told_is snapshot (Ok seen) = refl
told_is snapshot (Err why) = refl

module _ (old new : BookState) (snapshot : ℕ) (shown : Result (List TreeNode) Fault) (result : Result Answer Fault)
    (turns : (numbers : GeometryNumbers) (actor : ℕ) (granted : Bool) (h : HandState) (r : Running) (seen : List TreeNode)
    → r.next ≡ SnapshotOrCleaner (Unpin snapshot seen) → shown_by r.ending seen ≡ answer_of_show shown
    → IsEnd numbers actor (on_book r h granted old new) result h) where
  abbrev any : GeometryNumbers
  any = with_inodes 0

  abbrev u : Shared
  u = (book_there any old).shared

  abbrev q : Running
  q = unpinning snapshot shown

  both : Ends (shown_by q.ending (seen_of shown)) (with_book (after_unpin_snapshot snapshot u.book) u) empty_hand
      ≡ Ends result (with_book new u) empty_hand
  both =
      sym (by_next (SnapshotOrCleaner (Unpin snapshot (seen_of shown))) any.block 0 true u empty_hand q (next_is snapshot shown)
      ∙ free_turn u.holder (unpin_turn snapshot (seen_of shown) u empty_hand q) (unpin_turn snapshot (seen_of shown) u empty_hand q)
      (book_there any old).has.1.0 refl)
      ∙ turns any 0 true empty_hand q (seen_of shown) (next_is snapshot shown) (told_is snapshot shown) u (book_there any old).is_of
      (book_there any old).has

  pub unpin_told : result ≡ answer_of_show shown
  unpin_told = sym (ap end_in both) ∙ told_is snapshot shown

  pub unpin_left : new ≡ after_unpin_snapshot snapshot old
  unpin_left = sym (ap (book_in old) both) ∙ ap (after_unpin_snapshot snapshot) (book_there any old).has.0
