-- A show that is made alone tells the tree that the world with numbers has of the snapshot, and leaves all as it was.
use Rattle.std.proofs.Common.{◌≡◌, ◌∙◌, ℕ, zero, suc, ◌+◌, ◌-◌, Bool, true, false, List, [], ◌∷◌, Option, Some, None, IsSome, ap, arith, if◌then◌else◌, length, map, refl, subst, sym, inl, inr}
use Rattle.std.specs.Prelude.{◌⊎◌}
use Rattle.std.specs.List.{Contains}
use Rattle.nv_base.specs.Memory.{out_of_memory}
use Rattle.nv_base.specs.declared.fault.Fault.TheVariants.{NoSnapshot}
use Rattle.nv_base.specs.declared.geometry.GeometryNumbers.{GeometryNumbers}
use Rattle.nv_book.specs.Book.{after_pin_snapshot, after_unpin_snapshot}
use Rattle.nv_book.specs.declared.record.Record.{Record}
use Rattle.nv_calls.specs.declared.answer.Answer.TheVariants as answers
use Rattle.nv_calls.specs.declared.call.Call.{Call}
use Rattle.nv_calls.specs.declared.call.Call.TheVariants as call
use Rattle.nv_calls.specs.declared.snapshot_or_cleaner_call.SnapshotOrCleanerCall.{SnapshotOrCleanerCall}
use Rattle.nv_calls.specs.declared.snapshot_or_cleaner_call.SnapshotOrCleanerCall.TheVariants as on
use Rattle.nv_entry.specs.Tree.{root, tree_from}
use Rattle.nv_entry.specs.declared.tree.TreeNode.{TreeNode}
use Rattle.nv_epoch.specs.SnapList.{ids, pins_of}
use Rattle.nv_epoch.proofs.Pins.{lives-from_pins, pins_at-lives}
use Rattle.nv_machine.specs.Kinds.{rest_turn}
use Rattle.nv_machine.specs.SnapshotOrCleaner.{copies_at, first_showing, if_free, snapshot_or_cleaner_turn, pin_turn, seen_on, show_or_unpin, show_turn, shown_by, unpin_turn, visited}
use Rattle.nv_machine.specs.PlainRun.{Copy, Plain, after_step, is_of, plain_of, with_pins}
use Rattle.nv_machine.specs.Sequence.{first_step}
use Rattle.nv_machine.specs.Settled.{settled_copies, snapshot_tree}
use Rattle.nv_machine.specs.Starts.{IsStart}
use Rattle.nv_machine.specs.Step.{Step, after, kind_turn, step, turned}
use Rattle.nv_machine.specs.World.{Answers, Done, Ending, Ends, Event, Go, HandState, SnapshotOrCleaner, Next, Pin, Refuses, Reply, Running, Shared, Show, Showing, Turn, Unpin, World, actor_at, empty_hand, owner_at, with_book}
use Rattle.nv_machine.proofs.SnapshotOrCleanerAlone.{none_home}
use Rattle.nv_machine.proofs.NextSteps.{KnowsNext}
use Rattle.nv_machine.proofs.OverEvents.{runs_inside}
use Rattle.nv_machine.proofs.ShowAll.{all_told}
use Rattle.nv_machine.proofs.SingleEvents.{goes as goes_by_turn}
use Rattle.nv_machine.proofs.StepWays.{AfterBy}
use Rattle.nv_reader.specs.Walk.{Visit}
use Rattle.nv_serial.specs.Law.{IsMadeAlone, IsOutcome, IsSerialCall}
use Rattle.nv_serial.specs.Serial.{Outcome, Serial, refused, told}
use Rattle.nv_serial.specs.Shown.{slot_told}
use Rattle.nv_serial.specs.Snapshots.{show, show_of}
use Rattle.nv_serial.proofs.AloneStages.{PlainState, beside_then}
use Rattle.nv_serial.proofs.AtRestLogs.{told_by}
use Rattle.nv_serial.proofs.AtRestTrees.{no_tree_reported, snapshot_tree_reported}
use Rattle.nv_serial.proofs.SnapAlone.{Now, Tells, numbered}
use Rattle.nv_serial.proofs.SnapCalls.{is_serial, records_then, start_then, world_then}
use Rattle.nv_serial.proofs.SnapFirst.{FirstTurn, IsFirst, first, first_keeps, first_run}

-- ---- a pin that is put on and taken off

one_back : (n : ℕ) (copy : Copy) → with_pins n (λ pins. pins - 1) (with_pins n (λ pins. pins + 1) copy) ≡ copy
one_back n copy = go (is_of n copy) refl where
  less : copy.pins + 1 - 1 ≡ copy.pins
  less = omega arith

  go : (b : Bool) → is_of n copy ≡ b
      → with_pins n (λ pins. pins - 1) (if b then record copy { pins = copy.pins + 1 } else copy) ≡ copy
  go true e =
      ap (λ (x : Bool). if x then record copy { pins = copy.pins + 1 - 1 } else record copy { pins = copy.pins + 1 }) e
      ∙ (λ i. record { snapshot = copy.snapshot; nodes = copy.nodes; pins = less i })
  go false e = ap (λ (x : Bool). if x then record copy { pins = copy.pins - 1 } else copy) e

pins_back : (n : ℕ) (copies : List Copy)
    → map (with_pins n (λ pins. pins - 1)) (map (with_pins n (λ pins. pins + 1)) copies) ≡ copies
pins_back n [] = refl
pins_back n (copy ∷ copies) =
    ap (λ (x : Copy). x ∷ map (with_pins n (λ pins. pins - 1)) (map (with_pins n (λ pins. pins + 1)) copies)) (one_back n copy)
    ∙ ap (λ (xs : List Copy). copy ∷ xs) (pins_back n copies)

unpinned : (n : ℕ) (seen : List TreeNode) (p : Plain) → after_step (Unpin n seen) (after_step (Pin n) p) ≡ p
unpinned n seen p =
    let copies = pins_back n p.copies in
    λ i. record { nodes = p.nodes; commit = p.commit; epoch = p.epoch; copies = copies i }

-- ---- a show

module _ (g : GeometryNumbers) (w : World) (rs : List Record) (is : IsStart g w rs) (actor snapshot : ℕ) where
  abbrev what : SnapshotOrCleanerCall
  what = on.Show snapshot

  abbrev c : Call
  c = call.SnapshotOrCleaner what

  abbrev s : Serial
  s = told_by g w rs

  abbrev made : Outcome
  made = show snapshot s

  -- behind its pin a show has changed the pins of its snapshot alone
  abbrev pub pinned_beside : PlainState
  pinned_beside = record { records = rs; plain = after_step (Pin snapshot) (plain_of w) }

  abbrev pub pinned_shared : Shared
  pinned_shared = with_book (after_pin_snapshot snapshot w.shared.book) w.shared

  pub record IsPinned (n : ℕ) (b : PlainState) (sh : Shared) : Type 0 where
    pub same : n ≡ snapshot
    pub lives : Contains (ids w.shared.book.snaps) snapshot
    pub beside_is : b ≡ pinned_beside
    pub shared_is : sh ≡ pinned_shared

  abbrev pub Stage : PlainState → Next → Shared → HandState → Running → Type 0
  Stage b (SnapshotOrCleaner (Pin n)) sh h r = IsFirst g w rs is actor what b (SnapshotOrCleaner (Pin n)) sh h r
  Stage b (SnapshotOrCleaner (Show n showing)) sh h r = (r.ending ≡ Answers) × IsPinned n b sh
  Stage b (SnapshotOrCleaner (Unpin n seen)) sh h r =
      ((r.ending ≡ Answers) ⊎ (r.ending ≡ Refuses out_of_memory)) × IsPinned n b sh
  Stage b k sh h r = ⊥

  stage_showing : (left : ℕ) (visits : List Visit) (n : ℕ) (showing : Showing) (b : PlainState) (sh : Shared) (h : HandState) (r : Running)
      → r.ending ≡ Answers → IsPinned n b sh → Stage b (SnapshotOrCleaner (show_or_unpin left visits n showing)) sh h r
  stage_showing zero visits n showing b sh h r e at = (inl e, at)
  stage_showing (suc left) [] n showing b sh h r e at = (inl e, at)
  stage_showing (suc left) (visit ∷ visits) n showing b sh h r e at = (e, at)

  -- ---- the pin

  none_lives : pins_of w.shared.book.snaps snapshot ≡ None → Contains (ids w.shared.book.snaps) snapshot → ⊥
  none_lives none lives = no_some (pins_of w.shared.book.snaps snapshot) none (pins_at-lives w.shared.book.snaps.living snapshot lives) where
    no_some : (o : Option ℕ) → o ≡ None → IsSome o → ⊥
    no_some None e some = cc
    no_some (Some n) e some = cc

  pin_by : (o : Option ℕ) → pins_of w.shared.book.snaps snapshot ≡ o
      → FirstTurn g w rs is actor what Stage made (pin_turn snapshot o w.shared empty_hand (first_run g w rs is actor what))
  pin_by None none =
      let run = first_run g w rs is actor what in
      let refusal : made ≡ refused NoSnapshot s =
      ap (λ (o : Option (List TreeNode)). show_of o s) (no_tree_reported g w rs snapshot (none_lives none)) in
      subst (λ (o : Option ℕ). FirstTurn g w rs is actor what Stage made
      (rest_turn o None w.shared empty_hand (record run { ending = Refuses NoSnapshot })))
      (sym (none_home 0 0 w.shared.lists))
      (inl (ap (λ (x : Outcome). x.reply) (sym refusal), ap (λ (x : Outcome). x.world) (sym refusal)))
  pin_by (Some pins) some =
      let showing = first_showing w.shared in
      stage_showing showing.left showing.visits snapshot showing _ _ _ _ refl (record {
        same = refl;
        lives = lives-from_pins w.shared.book.snaps.living snapshot (subst IsSome (sym some) refl);
        beside_is = refl;
        shared_is = refl;
      })

  pin_turned : (granted : Bool) → FirstTurn g w rs is actor what Stage made
      (snapshot_or_cleaner_turn (first_step (length w.shared.cells) what) actor granted w.shared empty_hand (first_run g w rs is actor what))
  pin_turned granted =
      subst (λ (o : Option ℕ). FirstTurn g w rs is actor what Stage made
      (if_free o (pin_turn snapshot (pins_of w.shared.book.snaps snapshot) w.shared empty_hand (first_run g w rs is actor what))))
      (sym is.uncommitted) (pin_by (pins_of w.shared.book.snaps snapshot) refl)

  -- ---- behind it

  module _ (events : List Event) (granted : Bool) (r : Running) (runs : (actor_at (after w events) actor).running ≡ Some r) where
    abbrev v : World
    v = after w events

    abbrev sh : Shared
    sh = v.shared

    abbrev h : HandState
    h = (actor_at v actor).hand

    abbrev b : PlainState
    b = Now g w rs actor c events

    abbrev Then : Next → Turn → Type 0
    Then k t = let now = beside_then k sh h r t b in AfterBy ⊥ (KnowsNext (Stage now)) (Tells g w rs actor c made now) t

    abbrev kept : PlainState → PlainState
    kept x = record { records = x.records; plain = x.plain }

    again : (n : ℕ) → IsPinned n b sh → IsPinned n (kept b) sh
    again n at = record { same = at.same; lives = at.lives; beside_is = ap kept at.beside_is; shared_is = at.shared_is }

    show_by : (n : ℕ) (showing : Showing) (b2 : Bool) → r.ending ≡ Answers → IsPinned n b sh
        → Then (SnapshotOrCleaner (Show n showing)) (show_turn None b2 (copies_at sh n (visited showing.visits)) n showing sh h r)
    show_by n showing true e at =
        let seen = seen_on (copies_at sh n (visited showing.visits)) showing in
        stage_showing seen.left seen.visits n seen (kept b) sh h (record r { next = SnapshotOrCleaner (show_or_unpin seen.left seen.visits n seen) }) e
        (again n at)
    show_by n showing false e at = (inr refl, again n at)

    -- the last step
    abbrev unpinned_shared : ℕ → Shared
    unpinned_shared n = with_book (after_unpin_snapshot n sh.book) sh

    abbrev last_beside : ℕ → List TreeNode → PlainState
    last_beside n seen = record { records = b.records; plain = after_step (Unpin n seen) b.plain }

    left_as_was : (n : ℕ) (seen : List TreeNode) → IsPinned n b sh
        → numbered g w rs actor c (last_beside n seen) (unpinned_shared n) ≡ s
    left_as_was n seen at =
        let plain : after_step (Unpin n seen) b.plain ≡ plain_of w =
        ap (λ (x : PlainState). after_step (Unpin n seen) x.plain) at.beside_is
        ∙ ap (λ (m : ℕ). after_step (Unpin m seen) (after_step (Pin snapshot) (plain_of w))) at.same
        ∙ unpinned snapshot seen (plain_of w) in
        let records : b.records ≡ rs = ap (λ (x : PlainState). x.records) at.beside_is in
        let slots : map slot_told sh.cells ≡ map slot_told w.shared.cells = ap (λ (x : Shared). map slot_told x.cells) at.shared_is in
        λ i. record { numbers = g; plain = plain i; slots = slots i; records = records i }

    unpin_by : (n : ℕ) (seen : List TreeNode) → IsPinned n b sh → (e : Ending) → r.ending ≡ e → (e ≡ Answers) ⊎ (e ≡ Refuses out_of_memory)
        → (kind_turn r.next v.numbers.block actor granted sh h r ≡ Ends (shown_by r.ending seen) (unpinned_shared n) h)
        → r.next ≡ SnapshotOrCleaner (Unpin n seen)
        → Tells g w rs actor c made (last_beside n seen) (shown_by r.ending seen) (unpinned_shared n) h
    unpin_by n seen at e is_e (inl answers_it) turn_is next =
        let ending : r.ending ≡ Answers = is_e ∙ answers_it in
        let reply : (step v (Go actor granted)).reply ≡ Done (answers.Tree seen) =
        ap (λ (x : Step). x.reply) (goes_by_turn v actor granted r (runs_inside v actor r runs) runs).is_turn
        ∙ ap (λ (t : Turn). (turned t actor v).reply) turn_is
        ∙ ap (λ (x : Ending). (turned (Ends (shown_by x seen) (unpinned_shared n) h) actor v).reply) ending in
        let tree : answers.Tree seen ≡ answers.Tree (snapshot_tree w snapshot) =
        (all_told g w rs is events actor n granted r seen (answers.Tree seen) runs next reply).0
        ∙ ap (λ (x : Shared). answers.Tree (tree_from (settled_copies x n) (length x.cells) [] root)) at.shared_is
        ∙ ap (λ (m : ℕ). answers.Tree (tree_from (settled_copies w.shared m) (length w.shared.cells) [] root)) at.same in
        let tells : made ≡ told (answers.Tree (snapshot_tree w snapshot)) s =
        ap (λ (o : Option (List TreeNode)). show_of o s) (snapshot_tree_reported g w rs snapshot at.lives) in
        subst (λ (x : Ending). Tells g w rs actor c made (last_beside n seen) (shown_by x seen) (unpinned_shared n) h) (sym ending)
        (subst (λ (m : Outcome). IsOutcome c s m (Done (answers.Tree seen)) (numbered g w rs actor c (last_beside n seen) (unpinned_shared n)))
        (sym tells) (inl (ap Done tree, left_as_was n seen at)))
    unpin_by n seen at e is_e (inr refuses) turn_is next =
        subst (λ (x : Ending). Tells g w rs actor c made (last_beside n seen) (shown_by x seen) (unpinned_shared n) h)
        (sym (is_e ∙ refuses)) (inr (refl, refl, left_as_was n seen at))

    behind : (k : Next) → r.next ≡ k → Stage b k sh h r → Then k (kind_turn k v.numbers.block actor granted sh h r)
    behind (SnapshotOrCleaner (Pin n)) next at =
        subst (λ (k : Next). Then k (kind_turn k v.numbers.block actor granted sh h r)) next
        (first_keeps g w rs is actor what Stage made events granted r (record {
          beside_is = at.beside_is;
          shared_is = at.shared_is;
          hand_is = at.hand_is;
          run_is = at.run_is;
        }) (pin_turned granted))
    behind (SnapshotOrCleaner (Show n showing)) next (e, at) =
        let ino = (visited showing.visits).ino in
        let free : owner_at sh ino ≡ None = ap (λ (x : Shared). owner_at x ino) at.shared_is ∙ is.unlocked ino in
        subst (λ (o : Option ℕ). Then (SnapshotOrCleaner (Show n showing))
        (show_turn o granted (copies_at sh n (visited showing.visits)) n showing sh h r)) (sym free) (show_by n showing granted e at)
    behind (SnapshotOrCleaner (Unpin n seen)) next (e, at) =
        let free : sh.holder ≡ None = ap (λ (x : Shared). x.holder) at.shared_is ∙ is.uncommitted in
        let turn_is : kind_turn r.next v.numbers.block actor granted sh h r ≡ Ends (shown_by r.ending seen) (unpinned_shared n) h =
        ap (λ (k : Next). kind_turn k v.numbers.block actor granted sh h r) next
        ∙ ap (λ (o : Option ℕ). if_free o (unpin_turn n seen sh h r)) free in
        subst (λ (o : Option ℕ). Then (SnapshotOrCleaner (Unpin n seen)) (if_free o (unpin_turn n seen sh h r))) (sym free)
        (unpin_by n seen at r.ending refl e turn_is next)
    behind other next at = absurd at

-- THE LAW
pub shown_alone : (g : GeometryNumbers) (start : World) (records : List Record) (before : List Event) (actor : ℕ) (grants : List Bool)
    (last : Reply) (snapshot : ℕ) → IsMadeAlone g start records before actor (call.SnapshotOrCleaner (on.Show snapshot)) grants last
    → IsSerialCall g start records before actor (call.SnapshotOrCleaner (on.Show snapshot)) grants last
shown_alone g start records before actor grants last snapshot alone =
    let c = call.SnapshotOrCleaner (on.Show snapshot) in
    let w = world_then g start records before actor c grants last alone in
    let rs = records_then g start records before actor c grants last alone in
    let is = start_then g start records before actor c grants last alone in
    is_serial g start records before actor c grants last alone (Stage g w rs is actor snapshot)
    (λ events granted r others runs at. behind g w rs is actor snapshot events granted r runs r.next refl at)
    (first g w rs is actor (on.Show snapshot))
