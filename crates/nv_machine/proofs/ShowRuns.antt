-- What shows have seen, whatever events come; and so what they are answered.
use Rattle.std.proofs.Common.{◌≡◌, ℕ, ◌<◌, ◌≤◌, ◌∙◌, Bool, true, false, List, [], ◌∷◌, length, nat_lt, Option, Some, None, IsSome, ap, arith, refl, subst, sym, inl, inr}
use Rattle.std.proofs.Math.Path.{fun_ext}
use Rattle.std.specs.List.{Contains}
use Rattle.std.proofs.lemmas.Bool.{cases_lt}
use Rattle.std.proofs.lemmas.List.{get_or_past}
use Rattle.std.proofs.lemmas.List.Sums.{get_or-le-sum_by}
use Rattle.std.proofs.lemmas.Option.{none-some, same_Some}
use Rattle.nv_base.specs.declared.numbers.Handle.{Handle}
use Rattle.nv_calls.specs.declared.answer.Answer.{Answer}
use Rattle.nv_calls.specs.declared.answer.Answer.TheVariants as answers
use Rattle.nv_entry.specs.declared.node.NodeCopy.{NodeCopy}
use Rattle.nv_entry.specs.declared.tree.TreeNode.{TreeNode}
use Rattle.nv_epoch.specs.SnapList.{ids, pins_of}
use Rattle.nv_machine.specs.Reading.{ArePins, pins_at, pins_by_call, shows_of}
use Rattle.nv_machine.specs.Sequence.{beginning, begun}
use Rattle.nv_machine.specs.Settled.{settled_copies}
use Rattle.nv_machine.specs.SnapshotOrCleaner.{copies_at, first_showing, if_free, shown_by, unpin_turn}
use Rattle.nv_machine.specs.Step.{after, go_step, kind_turn, reply_of, step, turn, turned}
use Rattle.nv_machine.specs.World.{Actor, Done, Ending, Ends, Event, Go, HandState, Moves, Next, Refuses, Running, Shared, Show, SnapshotOrCleaner, Turn, Unpin, Waits, World, actor_at, idle, owner_at}
use Rattle.nv_machine.proofs.CopyRuns.{cells_stay}
use Rattle.nv_machine.proofs.OverEvents.{event_by, set_begun, set_one, turn_at, with_call}
use Rattle.nv_epoch.proofs.Pins.{lives-from_pins}
use Rattle.nv_machine.proofs.Lists.{self}
use Rattle.nv_machine.proofs.Pins.{begun_none}
use Rattle.nv_machine.proofs.PinSteps.{one_if}
use Rattle.nv_machine.proofs.Showing.{HasSeen, IsSeen, OnShows, ShowsAt, kind_shows, no_show, tree_by}
use Rattle.nv_machine.proofs.SnapSteps.{AreBare}

-- ---- a snapshot that is shown lives

shown : (w : World) (actor snapshot : ℕ) (r : Running) → (actor_at w actor).running ≡ Some r → pins_at snapshot r.next ≡ true
    → 1 ≤ shows_of snapshot w
shown w actor snapshot r is shows = elim (cases_lt actor (length w.actors)) [
  | inl low ↦
      let counted : Actor → ℕ = λ x. one_if (pins_by_call snapshot x.running) in
      let one : counted (actor_at w actor) ≡ 1 =
      ap (λ (o : Option Running). one_if (pins_by_call snapshot o)) is ∙ ap one_if shows in
      omega (arith, get_or-le-sum_by counted w.actors actor idle low, one)
  | inr past ↦ absurd (none-some r (sym (ap (λ (x : Actor). x.running) (get_or_past w.actors actor idle past)) ∙ is))
]

pub shown_lives : (w : World) (actor snapshot : ℕ) (r : Running) → ArePins (shows_of snapshot w) (pins_of w.shared.book.snaps snapshot)
    → (actor_at w actor).running ≡ Some r → pins_at snapshot r.next ≡ true → Contains (ids w.shared.book.snaps) snapshot
shown_lives w actor snapshot r are is shows =
    lives-from_pins w.shared.book.snaps.living snapshot (go (pins_of w.shared.book.snaps snapshot) are)
  where
    some : 1 ≤ shows_of snapshot w
    some = shown w actor snapshot r is shows

    go : (pins : Option ℕ) → ArePins (shows_of snapshot w) pins → IsSome pins
    go None none = absurd (omega (arith, some, none))
    go (Some pins) are = refl

-- ---- copies that are the same

same_shows : (copies other : ℕ → Handle → Option NodeCopy) (inodes : ℕ) (k : Next) (e : Ending)
    → ((n : ℕ) → pins_at n k ≡ true → other n ≡ copies n) → ShowsAt copies inodes k e → ShowsAt other inodes k e
same_shows copies other inodes (SnapshotOrCleaner (Show snapshot showing)) e same is =
    subst (λ (f : Handle → Option NodeCopy). IsSeen f (tree_by (λ n. f) inodes snapshot) showing) (sym (same snapshot (self snapshot))) is
same_shows copies other inodes (SnapshotOrCleaner (Unpin snapshot seen)) e same is =
    subst (λ (f : Handle → Option NodeCopy). HasSeen e seen (tree_by (λ n. f) inodes snapshot)) (sym (same snapshot (self snapshot))) is
same_shows copies other inodes k e same is = tt

-- ---- one event

-- what every call that is a show has seen
abbrev AllSeen : (ℕ → Handle → Option NodeCopy) → ℕ → World → Type 0
AllSeen copies inodes w = (actor : ℕ) (r : Running) → (actor_at w actor).running ≡ Some r → ShowsAt copies inodes r.next r.ending

abbrev pub AllShow : World → Type 0
AllShow w = AllSeen (settled_copies w.shared) (length w.shared.cells) w

-- what is known of a world
pub record IsShown (w : World) : Type 0 where
  pub bare : AreBare w
  pub found : (snapshot : ℕ) (handle : Handle) → owner_at w.shared handle.ino ≡ None
      → copies_at w.shared snapshot handle ≡ settled_copies w.shared snapshot handle
  pub first : (snapshot pins : ℕ) → pins_of w.shared.book.snaps snapshot ≡ Some pins
      → IsSeen (settled_copies w.shared snapshot) (tree_by (settled_copies w.shared) (length w.shared.cells) snapshot)
      (first_showing w.shared)
  pub pinned : (snapshot : ℕ) → ArePins (shows_of snapshot w) (pins_of w.shared.book.snaps snapshot)

module _ (w : World) (known : IsShown w) (all : AllShow w) where
  abbrev Copies : ℕ → Handle → Option NodeCopy
  Copies = settled_copies w.shared

  abbrev inodes : ℕ
  inodes = length w.shared.cells

  abbrev ShowsBy : ℕ → Shared → Actor → Type 0
  ShowsBy b s x = (r : Running) → x.running ≡ Some r → ShowsAt Copies inodes r.next r.ending

  own_shows : (q : Running) → ShowsAt Copies inodes q.next q.ending → (r : Running) → Some q ≡ Some r
      → ShowsAt Copies inodes r.next r.ending
  own_shows q on r is = subst (λ (x : Running). ShowsAt Copies inodes x.next x.ending) (same_Some q r is) on

  turned_seen : (t : Turn) (actor : ℕ) → actor < length w.actors → OnShows Copies inodes t
      → AllSeen Copies inodes (turned t actor w).world
  turned_seen (Moves s h q) actor there on = set_one ShowsBy w actor (with_call h (Some q)) s there (own_shows q on) (λ b ne. all b)
  turned_seen Waits actor there on = all
  turned_seen (Ends result s h) actor there on =
      set_one ShowsBy w actor (with_call h None) s there (λ r is. absurd (none-some r is)) (λ b ne. all b)

  event_seen : (e : Event) → AllSeen Copies inodes (step w e).world
  event_seen e = event_by (AllSeen Copies inodes) w all e
      (λ actor c there is.
      let q = begun (beginning c) w.shared c in
      set_begun ShowsBy w actor c there (own_shows q (no_show Copies inodes q.next q.ending (λ n. begun_none n c w.shared))) all)
      (λ actor granted r there is. turned_seen (turn_at w actor granted r) actor there
      (kind_shows Copies inodes w.numbers.block actor granted w.shared (actor_at w actor).hand r r.next (known.bare actor r is)
      known.found known.first (all actor r is)))

  event_shows : (e : Event) → IsShown (step w e).world
      → ((n : ℕ) → Contains (ids (step w e).world.shared.book.snaps) n → (handle : Handle)
      → settled_copies (step w e).world.shared n handle ≡ settled_copies w.shared n handle)
      → AllShow (step w e).world
  event_shows e after stays actor r is =
      let v = (step w e).world in
      subst (λ (n : ℕ). ShowsAt (settled_copies v.shared) n r.next r.ending) (sym (cells_stay w e))
      (same_shows Copies (settled_copies v.shared) inodes r.next r.ending
      (λ n shows. fun_ext (stays n (shown_lives v actor n r (after.pinned n) is shows))) (event_seen e actor r is))

-- copies that stay at an event
abbrev pub StaysCopied : World → Event → Type 0
StaysCopied w e = (n : ℕ) → Contains (ids (step w e).world.shared.book.snaps) n → (handle : Handle)
    → settled_copies (step w e).world.shared n handle ≡ settled_copies w.shared n handle

pub events_show : (events : List Event) (w : World) → ((before : List Event) → IsShown (after w before))
    → ((before : List Event) (e : Event) → StaysCopied (after w before) e) → AllShow w → AllShow (after w events)
events_show [] w known stays all = all
events_show (e ∷ events) w known stays all =
    events_show events (step w e).world (λ before. known (e ∷ before)) (λ before f. stays (e ∷ before) f)
    (event_shows w (known []) all e (known (e ∷ [])) (stays [] e))

-- ---- the answer

ends_seen : (e : Ending) (seen tree : List TreeNode) (told : Answer) → HasSeen e seen tree → reply_of (shown_by e seen) ≡ Done told
    → told ≡ answers.Tree tree
ends_seen (Refuses fault) seen tree told is reply = cc
ends_seen other seen tree told is reply = let same : answers.Tree seen ≡ told = cc in sym same ∙ ap answers.Tree is

unpins_seen : (holder : Option ℕ) (snapshot actor : ℕ) (seen tree : List TreeNode) (w : World) (s : Shared) (h : HandState) (r : Running)
    (told : Answer) → HasSeen r.ending seen tree → (turned (if_free holder (unpin_turn snapshot seen s h r)) actor w).reply ≡ Done told
    → told ≡ answers.Tree tree
unpins_seen (Some other) snapshot actor seen tree w s h r told is reply = cc
unpins_seen None snapshot actor seen tree w s h r told is reply = ends_seen r.ending seen tree told is reply

kind_seen : (k : Next) (snapshot actor : ℕ) (granted : Bool) (seen : List TreeNode) (w : World) (h : HandState) (r : Running)
    (told : Answer) → k ≡ SnapshotOrCleaner (Unpin snapshot seen) → ShowsAt (settled_copies w.shared) (length w.shared.cells) k r.ending
    → (turned (kind_turn k w.numbers.block actor granted w.shared h r) actor w).reply ≡ Done told
    → told ≡ answers.Tree (tree_by (settled_copies w.shared) (length w.shared.cells) snapshot)
kind_seen k snapshot actor granted seen w h r told next is reply =
    unpins_seen w.shared.holder snapshot actor seen (tree_by (settled_copies w.shared) (length w.shared.cells) snapshot) w w.shared h r told
    (subst (λ (n : Next). ShowsAt (settled_copies w.shared) (length w.shared.cells) n r.ending) next is)
    (subst (λ (n : Next). (turned (kind_turn n w.numbers.block actor granted w.shared h r) actor w).reply ≡ Done told) next reply)

go_told : (b : Bool) (running : Option Running) (w : World) (actor : ℕ) (granted : Bool) (r : Running) (snapshot : ℕ)
    (seen : List TreeNode) (told : Answer) → running ≡ Some r → r.next ≡ SnapshotOrCleaner (Unpin snapshot seen)
    → ShowsAt (settled_copies w.shared) (length w.shared.cells) r.next r.ending
    → (go_step b running actor granted w).reply ≡ Done told
    → told ≡ answers.Tree (tree_by (settled_copies w.shared) (length w.shared.cells) snapshot)
go_told false running w actor granted r snapshot seen told is next shows reply = cc
go_told true None w actor granted r snapshot seen told is next shows reply = cc
go_told true (Some q) w actor granted r snapshot seen told is next shows reply =
    kind_seen r.next snapshot actor granted seen w (actor_at w actor).hand r told next shows
    (subst (λ (x : Running). (turned (turn w.numbers.block actor granted w.shared (actor_at w actor).hand x) actor w).reply ≡ Done told)
    (same_Some q r is) reply)

pub show_told : (w : World) (actor snapshot : ℕ) (granted : Bool) (r : Running) (seen : List TreeNode) (told : Answer) → AllShow w
    → (actor_at w actor).running ≡ Some r → r.next ≡ SnapshotOrCleaner (Unpin snapshot seen) → (step w (Go actor granted)).reply ≡ Done told
    → told ≡ answers.Tree (tree_by (settled_copies w.shared) (length w.shared.cells) snapshot)
show_told w actor snapshot granted r seen told all is next reply =
    go_told (nat_lt actor (length w.actors)) (actor_at w actor).running w actor granted r snapshot seen told is next (all actor r is) reply
