-- A show has seen the front of its snapshot's tree, and what is to come of its walk is the rest: kind by kind.
use Rattle.nv_machine.proofs.StepWays.{IsClearOn}
use Rattle.nv_machine.proofs.SnapshotOrCleanerWalk.{goes_next, next_on, picked_next, LeadsTo}
use Rattle.nv_machine.proofs.SnapshotOrCleanerAlone.{alone_walk}
use Rattle.std.proofs.Common.{◌≡◌, ℕ, zero, suc, ◌-◌, ◌≤◌, ◌++◌, ◌∙◌, Bool, true, false, List, [], ◌∷◌, Option, Some, None, ap, append_assoc, arith, refl, subst, sym}
use Rattle.std.specs.Option.{option_to_list}
use Rattle.std.specs.Prelude.{is_some}
use Rattle.std.proofs.lemmas.Bool.{true≢false, false≢true}
use Rattle.std.proofs.lemmas.List.{append-nil}
use Rattle.std.proofs.lemmas.List.Sums.{sum_by-cons}
use Rattle.nv_base.specs.declared.numbers.Handle.{Handle}
use Rattle.nv_book.specs.declared.record.Record.{Record}
use Rattle.nv_entry.specs.Tree.{root, tree_from}
use Rattle.nv_entry.specs.declared.node.NodeCopy.{NodeCopy}
use Rattle.nv_entry.specs.declared.tree.TreeNode.{TreeNode}
use Rattle.nv_epoch.specs.SnapList.{Snapshots as Living, pins_of}
use Rattle.nv_machine.specs.Reading.{ArePins, pins_at}
use Rattle.nv_machine.specs.SnapshotOrCleaner.{copies_at, first_showing, seen_on, show_or_unpin, showing_on, snapshot_or_cleaner_turn, visited}
use Rattle.nv_machine.specs.Step.{kind_turn}
use Rattle.nv_machine.specs.World.{ReturnNumber, Ending, Ends, HandState, LockPicked, Moves, Next, Number, Pick, Pin, Refuses, Running, Shared, Show, Showing, SnapshotOrCleanerStep, SnapshotOrCleaner, Turn, Unpin, Waits, owner_at, Compact, Fresh, LockCleaned, Unlink}
use Rattle.nv_machine.proofs.StepWork.{work}
use Rattle.nv_machine.proofs.WorkKeeps.{AfterTurn, turn_keeps}
use Rattle.nv_machine.proofs.Lists.{self}
use Rattle.nv_machine.proofs.PinSteps.{Fits, OnPins, kind_pins}
use Rattle.nv_machine.proofs.SnapSteps.{IsBare, back_same, number_same}
use Rattle.nv_reader.specs.Walk as walk
use Rattle.nv_reader.proofs.Coming.{handed_next}

-- ---- what a show has seen

-- what it has seen and what is to come of its walk are the tree, and it may make as many visits as it has to
pub record IsSeen (nodes : Handle → Option NodeCopy) (tree : List TreeNode) (showing : Showing) : Type 0 where
  pub seen : showing.seen ++ walk.to_come nodes showing.visits ≡ tree
  pub enough : walk.visits_to_come nodes showing.visits ≤ showing.left

-- at its end it has seen the tree, unless it was refused
abbrev pub HasSeen : Ending → List TreeNode → List TreeNode → Type 0
HasSeen (Refuses fault) seen tree = Unit {0}
HasSeen other seen tree = seen ≡ tree

abbrev pub tree_by : (ℕ → Handle → Option NodeCopy) → ℕ → ℕ → List TreeNode
tree_by copies inodes snapshot = tree_from (copies snapshot) inodes [] root

abbrev pub ShowsOn : (ℕ → Handle → Option NodeCopy) → ℕ → SnapshotOrCleanerStep → Ending → Type 0
ShowsOn copies inodes (Show snapshot showing) e = IsSeen (copies snapshot) (tree_by copies inodes snapshot) showing
ShowsOn copies inodes (Unpin snapshot seen) e = HasSeen e seen (tree_by copies inodes snapshot)
ShowsOn copies inodes other e = Unit {0}

abbrev pub ShowsAt : (ℕ → Handle → Option NodeCopy) → ℕ → Next → Ending → Type 0
ShowsAt copies inodes (SnapshotOrCleaner step) e = ShowsOn copies inodes step e
ShowsAt copies inodes other e = Unit {0}

-- ---- one visit

none_left : (nodes : Handle → Option NodeCopy) (visits : List walk.Visit) → walk.visits_to_come nodes visits ≤ 0 → visits ≡ []
none_left nodes [] le = refl
none_left nodes (visit ∷ later) le =
    absurd (omega (arith, le, sum_by-cons (λ (v : walk.Visit). walk.visit_count nodes (suc v.below) v.handle) visit later))

all_seen : (nodes : Handle → Option NodeCopy) (tree : List TreeNode) (showing : Showing) → IsSeen nodes tree showing → showing.visits ≡ []
    → showing.seen ≡ tree
all_seen nodes tree showing is none =
    sym (append-nil showing.seen)
    ∙ ap (λ (visits : List walk.Visit). showing.seen ++ walk.to_come nodes visits) (sym none) ∙ is.seen

has_seen : (e : Ending) (seen tree : List TreeNode) → seen ≡ tree → HasSeen e seen tree
has_seen (Refuses fault) seen tree is = tt
has_seen other seen tree is = is

next_shows : (copies : ℕ → Handle → Option NodeCopy) (inodes snapshot : ℕ) (showing : Showing) (e : Ending)
    → IsSeen (copies snapshot) (tree_by copies inodes snapshot) showing → ShowsOn copies inodes (showing_on snapshot showing) e
next_shows copies inodes snapshot showing e is = go showing.left showing.visits refl refl where
  tree : List TreeNode
  tree = tree_by copies inodes snapshot

  go : (left : ℕ) (visits : List walk.Visit) → showing.left ≡ left → showing.visits ≡ visits
      → ShowsOn copies inodes (show_or_unpin left visits snapshot showing) e
  go zero visits none q =
      has_seen e showing.seen tree (all_seen (copies snapshot) tree showing is
      (none_left (copies snapshot) showing.visits (let le = is.enough in omega (arith, le, none))))
  go (suc left) [] some q = has_seen e showing.seen tree (all_seen (copies snapshot) tree showing is q)
  go (suc left) (visit ∷ visits) some q = is

-- the parts of a show after a visit
one_visit : (nodes : Handle → Option NodeCopy) (tree seen : List TreeNode) (left : ℕ) (visits : List walk.Visit) (found : Option NodeCopy)
    → seen ++ walk.to_come nodes visits ≡ tree → walk.visits_to_come nodes visits ≤ left → found ≡ nodes (visited visits)
    → ((seen ++ option_to_list (walk.given_for visits found)) ++ walk.to_come nodes (walk.visits_after visits found) ≡ tree)
    × (walk.visits_to_come nodes (walk.visits_after visits found) ≤ left - 1)
one_visit nodes tree seen left [] None is enough same = (ap (λ (l : List TreeNode). l ++ []) (append-nil seen) ∙ is, omega arith)
one_visit nodes tree seen left [] (Some node) is enough same = (ap (λ (l : List TreeNode). l ++ []) (append-nil seen) ∙ is, omega arith)
one_visit nodes tree seen left (visit ∷ later) found is enough same =
    let visits : List walk.Visit = visit ∷ later in
    let next = handed_next nodes visits found (walk.given_for visits found) (walk.visits_after visits found) refl same refl refl in
    let fewer = next.fewer in (
      append_assoc seen (option_to_list (walk.given_for visits found)) (walk.to_come nodes (walk.visits_after visits found))
          ∙ ap (λ (l : List TreeNode). seen ++ l) (sym next.next) ∙ is,
      omega (arith, enough, fewer),
    )

visit_seen : (nodes : Handle → Option NodeCopy) (tree : List TreeNode) (showing : Showing) (found : Option NodeCopy)
    → IsSeen nodes tree showing → found ≡ nodes (visited showing.visits) → IsSeen nodes tree (seen_on found showing)
visit_seen nodes tree showing found is same =
    let both = one_visit nodes tree showing.seen showing.left showing.visits found is.seen is.enough same in
    record { seen = both.0; enough = both.1 }

-- ---- a step that comes next and is of no show

pub no_show : (copies : ℕ → Handle → Option NodeCopy) (inodes : ℕ) (k : Next) (e : Ending) → ((n : ℕ) → pins_at n k ≡ false)
    → ShowsAt copies inodes k e
no_show copies inodes (SnapshotOrCleaner (Show snapshot showing)) e none = absurd (true≢false (sym (self snapshot) ∙ none snapshot))
no_show copies inodes (SnapshotOrCleaner (Unpin snapshot seen)) e none = absurd (true≢false (sym (self snapshot) ∙ none snapshot))
no_show copies inodes other e none = tt

-- where pins and shows went together and no pin came, no show came
never_more : (living : Living) (n : ℕ) (now : Bool) → Fits n false now living living → now ≡ false
never_more living n false fits = refl
never_more living n true fits = absurd (go (pins_of living n) refl) where
  go : (pins : Option ℕ) → pins_of living n ≡ pins → ⊥
  go None q =
      let one : 1 ≡ 0 = subst (ArePins 1) q (fits 0 1 refl (subst (ArePins 0) (sym q) refl)) in omega (arith, one)
  go (Some pins) q =
      let more : pins ≡ suc pins = subst (ArePins (suc pins)) q (fits pins (suc pins) (omega arith) (subst (ArePins pins) (sym q) refl)) in
      omega (arith, more)

-- ---- every kind

module _ (copies : ℕ → Handle → Option NodeCopy) (inodes : ℕ) where
  abbrev pub OnShows : Turn → Type 0
  OnShows (Moves t h q) = ShowsAt copies inodes q.next q.ending
  OnShows Waits = Unit {0}
  OnShows (Ends result t h) = Unit {0}

  module _ (block a : ℕ) (granted : Bool) (s : Shared) (h : HandState) (r : Running) where
    plain_shows : (k : Next) → ((n : ℕ) → pins_at n k ≡ false) → (work k block a s h r).shared.book.snaps ≡ s.book.snaps
        → OnShows (kind_turn k block a granted s h r)
    plain_shows k none same =
        go (kind_turn k block a granted s h r) (λ n. kind_pins n k block a granted s h r)
        (turn_keeps (λ (u : Shared) (x : HandState). u.book.snaps ≡ s.book.snaps) k block a granted s h r refl same)
      where
        go : (t : Turn) → ((n : ℕ) → OnPins n (pins_at n k) s.book.snaps t)
            → AfterTurn (λ (u : Shared) (x : HandState). u.book.snaps ≡ s.book.snaps) t → OnShows t
        go (Moves u x q) on is =
            no_show copies inodes q.next q.ending (λ n. never_more s.book.snaps n (pins_at n q.next)
            (subst (λ (l : Living). Fits n false (pins_at n q.next) s.book.snaps l) is
            (subst (λ (b : Bool). Fits n b (pins_at n q.next) s.book.snaps u.book.snaps) (none n) (on n))))
        go Waits on is = tt
        go (Ends result u x) on is = tt

    module _ (found : (snapshot : ℕ) (handle : Handle) → owner_at s handle.ino ≡ None
        → copies_at s snapshot handle ≡ copies snapshot handle)
        (first : (snapshot pins : ℕ) → pins_of s.book.snaps snapshot ≡ Some pins
        → IsSeen (copies snapshot) (tree_by copies inodes snapshot) (first_showing s)) where
      goes_shows : (step : SnapshotOrCleanerStep) → ShowsOn copies inodes step r.ending → goes_next step ≡ true → IsClearOn step s
          → ShowsOn copies inodes (next_on step s) r.ending
      goes_shows (Pin snapshot) is on clear = go (pins_of s.book.snaps snapshot) refl clear.1 where
        go : (pins : Option ℕ) → pins_of s.book.snaps snapshot ≡ pins → is_some pins ≡ true
            → ShowsOn copies inodes (showing_on snapshot (first_showing s)) r.ending
        go None q some = cc
        go (Some pins) q some = next_shows copies inodes snapshot (first_showing s) r.ending (first snapshot pins q)
      goes_shows (Show snapshot showing) is on clear =
          next_shows copies inodes snapshot (seen_on (copies_at s snapshot (visited showing.visits)) showing) r.ending
          (visit_seen (copies snapshot) (tree_by copies inodes snapshot) showing (copies_at s snapshot (visited showing.visits)) is
          (found snapshot (visited showing.visits) clear))
      goes_shows (Pick draining) is on clear = go s.book.deferred where
        go : (deferred : List Record) → ShowsOn copies inodes (picked_next deferred draining) r.ending
        go [] = tt
        go (picked ∷ deferred) = tt
      goes_shows (LockPicked draining picked) is on clear = tt
      goes_shows (LockCleaned manner ino) is on clear = tt
      goes_shows other is on clear = absurd (false≢true on)

      leads_shows : (step next : SnapshotOrCleanerStep) → LeadsTo step next → ShowsOn copies inodes next r.ending
      leads_shows step (Fresh ino asked wanted) leads = tt
      leads_shows step (Unlink ino) leads = tt
      leads_shows step (Compact ino) leads = tt
      leads_shows step other leads = absurd (false≢true leads.to)

      step_shows : (step : SnapshotOrCleanerStep) → IsBare (SnapshotOrCleaner step) h r → ShowsOn copies inodes step r.ending
          → OnShows (snapshot_or_cleaner_turn step a granted s h r)
      step_shows step bare is = alone_walk OnShows step a granted s h r bare.0 bare.1 (record {
        waits = tt;
        refused = λ fault on. tt;
        goes = goes_shows step is;
        told = λ on clear. tt;
        denied = λ snapshot showing on. tt;
        unlocks = λ fault on some. tt;
        leads_on = leads_shows step;
        over = λ e ends. tt;
        none = λ draining on nothing. tt;
      })

    pub kind_shows : (k : Next) → IsBare k h r
        → ((snapshot : ℕ) (handle : Handle) → owner_at s handle.ino ≡ None → copies_at s snapshot handle ≡ copies snapshot handle)
        → ((snapshot pins : ℕ) → pins_of s.book.snaps snapshot ≡ Some pins
        → IsSeen (copies snapshot) (tree_by copies inodes snapshot) (first_showing s))
        → ShowsAt copies inodes k r.ending → OnShows (kind_turn k block a granted s h r)
    kind_shows (SnapshotOrCleaner step) bare found first is = step_shows found first step bare is
    kind_shows Number bare found first is = plain_shows Number (λ n. refl) (number_same s.pool.numbers s h)
    kind_shows ReturnNumber bare found first is = plain_shows ReturnNumber (λ n. refl) (back_same h.ino s h)
    kind_shows other bare found first is = plain_shows other (λ n. refl) refl
