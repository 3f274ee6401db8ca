-- The steps of a commit that is made alone, from its first append to its last retire: each leads on to the next stage.
use Rattle.std.proofs.Common.{◌≡◌, ◌∙◌, ℕ, ◌+◌, ◌<◌, Bool, true, false, List, [], ◌∷◌, Some, ap, arith, drop, if◌then◌else◌, length, length-set, map, nat_lt, refl, subst, sym, take}
use Rattle.std.proofs.lemmas.Bool.{false≢true, ltb-false, ltb-true}
use Rattle.nv_alloc.specs.Numbers.{IsRising}
use Rattle.nv_book.specs.declared.record.Record.{Record}
use Rattle.nv_calls.specs.AllCalls.{effect}
use Rattle.nv_calls.specs.Plain.{node_in, nodes_after}
use Rattle.nv_calls.specs.Retiring.{erased}
use Rattle.nv_calls.specs.declared.call.Call.{Call}
use Rattle.nv_cell.specs.Cell.{CellState, published}
use Rattle.nv_cell.specs.Readers.{is_erased}
use Rattle.nv_cell.specs.declared.killed.KilledPart.{KilledPart}
use Rattle.nv_epoch.specs.SnapList.{Snapshots as Living, ids}
use Rattle.nv_machine.specs.Erasing.{IsOver}
use Rattle.nv_machine.specs.Kinds.{entries_for, first_killed, retired_cell, with_entries, with_freed, with_log_pages}
use Rattle.nv_machine.specs.Pages.{HasLogPages}
use Rattle.nv_machine.specs.PlainRun.{Commits, Nothing, Plain, done}
use Rattle.nv_machine.specs.Reads.{pages_needed, slot_at, written_slots}
use Rattle.nv_machine.specs.Recorded.{with_parts}
use Rattle.nv_machine.specs.Sequence.{appending, closing, opening, publishing, retiring}
use Rattle.nv_machine.specs.Settled.{settled}
use Rattle.nv_machine.specs.World.{Append, Close, HandState, Leave, Next, Open, Publish, Retire, Running, Shared, Waits, cell_at, go_to, with_cell}
use Rattle.nv_machine.proofs.Lists.{take_all}
use Rattle.nv_machine.proofs.LoopSteps.{by_test}
use Rattle.nv_machine.proofs.NextSteps.{KnowsNext}
use Rattle.nv_machine.proofs.StepWalk.{Works}
use Rattle.nv_machine.proofs.StepWork.{work}
use Rattle.nv_serial.proofs.AloneStages.{PlainState, beside_by, beside_then}
use Rattle.nv_serial.proofs.CommitStages.{CommitStage, CommittingIn, LogsAt, TailsAt, UnderWayIn, committed, entered, killed_at, left_row, records_on}
use Rattle.nv_serial.proofs.CommitSteps.{appended_logs, appended_tails, erased_killed, killed_from, is_over_then, killed_more, left_pages, published_logs, published_tails, records_to, retired_logs}

-- a slot's log is settled as it is retired, and it is erased only where it is over
abbrev pub IsErasedOver : Next → Shared → HandState → Running → Type 0
IsErasedOver k s h r =
    (place : ℕ) → k ≡ Retire place
    → (settled s (slot_at (written_slots r) place) ≡ (cell_at s (slot_at (written_slots r) place)).chain.entries)
    × (is_erased (retired_cell (slot_at (written_slots r) place) (first_killed h.killed) s r) ≡ true
    → IsOver s.book.deferred s (slot_at (written_slots r) place))

module _ (block actor : ℕ) (s0 : Shared) (c : Call) (b0 : PlainState) where
  abbrev Stands : PlainState → Next → Shared → HandState → Running → Type 0
  Stands now = CommitStage block actor s0 c b0 now

  module _ (s : Shared) (h : HandState) (r : Running) (now : PlainState) (committing : CommittingIn block actor s0 c b0 r)
      (rising : IsRising (written_slots r))
      (low : (place : ℕ) → place < length (written_slots r) → slot_at (written_slots r) place < length s.cells) where
    abbrev W : List ℕ
    W = written_slots r

    abbrev Under : Shared → Plain → List Record → Type 0
    Under t plain records = UnderWayIn block actor s0 c b0 now t plain records

    abbrev Logs : (grown settled : List ℕ) → Shared → Type 0
    Logs grown settled t = LogsAt block actor s0 c b0 grown settled t r

    abbrev killed_of : ℕ → List KilledPart
    killed_of ino = killed_at block actor s0 c b0 r.plan r.commit r.epoch ino

    abbrev records_of : List ℕ → List Record
    records_of slots = records_on block actor s0 c b0 r.plan r.commit r.epoch slots b0.records

    -- a slot's cell is another then
    with_under : (place : ℕ) (cell : CellState) (plain : Plain) (records : List Record) → Under s plain records
        → Under (with_cell (slot_at W place) cell s) plain records
    with_under place cell plain records u = record {
      count = length-set s.cells (slot_at W place) cell ∙ u.count;
      snaps = u.snaps;
      deferred = u.deferred;
      commit_is = u.commit_is;
      plain_is = u.plain_is;
      records_are = u.records_are;
    }

    all_then : (place : ℕ) → place < length W → nat_lt (place + 1) (length W) ≡ false → take (place + 1) W ≡ W
    all_then place inside last = take_all (place + 1) W (ltb-false (place + 1) (length W) last)

    none_some : nat_lt 0 (length W) ≡ false → ⊥
    none_some past = let le = ltb-false 0 (length W) past in let some = committing.some in absurd (omega (arith, le, some))

    -- ---- what comes behind the last append

    publish_first : (t : Shared) (i : HandState) (k : Next)
        → Under t (entered block actor s0 c b0) b0.records → Logs W [] t → TailsAt block actor s0 c b0 [] t → i.killed ≡ []
        → Stands now (publishing 0 W) t i (go_to k r)
    publish_first t i k u logs tails killed =
        by_test (λ (n : Next). Stands now n t i (go_to k r)) (nat_lt 0 (length W)) (Publish 0) (closing W)
        (λ some. (committing, u, logs, tails, killed)) (λ past. absurd (none_some past))

    open_first : (t : Shared) (i : HandState) (k : Next)
        → Under t (entered block actor s0 c b0) b0.records → Logs W [] t → TailsAt block actor s0 c b0 [] t → i.killed ≡ []
        → Stands now (opening W) t i (go_to k r)
    open_first t i k u logs tails killed =
        by_test (λ (n : Next). Stands now n t i (go_to k r)) (nat_lt 1 (length W)) Open (publishing 0 W)
        (λ several. (committing, u, logs, tails, killed)) (λ one. publish_first t i k u logs tails killed)

    -- ---- append

    pub append_stands : (place : ℕ) → place < length W → HasLogPages (Append place) block s h r → Stands now (Append place) s h r
        → Works (KnowsNext (Stands now)) (Append place) block actor s h r
    append_stands place inside paged on =
        let slot = slot_at W place in
        let d = work (Append place) block actor s h r in
        let k = appending (place + 1) W in
        let at = low place inside in
        let cell : CellState =
        with_entries (entries_for r slot) h.blocks (with_log_pages (take (pages_needed s r.plan slot) h.pages) (cell_at s slot)) in
        let u : Under d.shared (entered block actor s0 c b0) b0.records =
        with_under place cell (entered block actor s0 c b0) b0.records on.1 in
        let logs : Logs (take (place + 1) W) [] d.shared =
        appended_logs block actor s0 c b0 r.plan r.commit r.epoch W rising place inside s at on.2 h.pages
        (left_row block actor s0 c b0 s.lists) on.4 paged h.blocks in
        let tails : TailsAt block actor s0 c b0 [] d.shared =
        appended_tails block actor s0 c b0 r.plan r.commit r.epoch W rising place inside s at on.2 h.pages
        (left_row block actor s0 c b0 s.lists) on.4 paged h.blocks on.3 in
        by_test (λ (n : Next). Stands now n d.shared d.hand (go_to k r)) (nat_lt (place + 1) (length W)) (Append (place + 1)) (opening W)
        (λ more. (
          committing,
          u,
          logs,
          tails,
          left_pages block actor s0 c b0 r.plan r.commit r.epoch W rising place inside s at on.2 h.pages
              (left_row block actor s0 c b0 s.lists) on.4 paged,
          on.5,
        ))
        (λ last. open_first d.shared d.hand k u (subst (λ (l : List ℕ). Logs l [] d.shared) (all_then place inside last) logs) tails on.5)

    -- ---- open

    pub open_stands : Stands now Open s h r → Works (KnowsNext (Stands now)) Open block actor s h r
    open_stands on =
        let d = work Open block actor s h r in
        let u : Under d.shared (entered block actor s0 c b0) b0.records = record {
          count = on.1.count;
          snaps = on.1.snaps;
          deferred = on.1.deferred;
          commit_is = on.1.commit_is;
          plain_is = on.1.plain_is;
          records_are = on.1.records_are;
        } in
        publish_first d.shared d.hand (publishing 0 W) u on.2 on.3 on.4

    -- ---- the commit point

    -- the plain world has the effect of the call then
    committed_then : now.plain ≡ entered block actor s0 c b0 → done Commits (Some r) now.plain ≡ committed block actor s0 c b0 r.made
    committed_then is =
        ap (λ (p : Plain). done Commits (Some r) p) is
        ∙ ap (λ (d : Call). let e = entered block actor s0 c b0 in
        let p : Plain = record e { nodes = nodes_after e.commit (effect (node_in e.nodes) r.made d) e.nodes } in p) committing.call_is

    -- and what is to be retired first
    retire_first : (t : Shared) (i : HandState) (k : Next) (plain : Plain) → now.plain ≡ entered block actor s0 c b0
        → plain ≡ done Commits (Some r) now.plain
        → Under t (entered block actor s0 c b0) b0.records → Logs W [] t → i.killed ≡ map killed_of W
        → Stands (record { records = now.records; plain = plain }) (retiring 0 W) t i (go_to k r)
    retire_first t i k plain was is u logs killed =
        by_test (λ (n : Next). Stands (record { records = now.records; plain = plain }) n t i (go_to k r)) (nat_lt 0 (length W)) (Retire 0) Leave
        (λ some. (
          committing,
          record {
            count = u.count;
            snaps = u.snaps;
            deferred = u.deferred;
            commit_is = u.commit_is;
            plain_is = is ∙ committed_then was;
            records_are = u.records_are;
          },
          logs,
          killed,
        ))
        (λ past. absurd (none_some past))

    -- ---- publish

    abbrev now_then : Bool → PlainState
    now_then several = beside_by (if several then Nothing else Commits) (ids s.book.snaps) now.records (Some r) now.plain

    module _ (place : ℕ) (inside : place < length W) (on : Stands now (Publish place) s h r) where
      abbrev published_in : Shared
      published_in = (work (Publish place) block actor s h r).shared

      abbrev killing : HandState
      killing = (work (Publish place) block actor s h r).hand

      abbrev k : Next
      k = publishing (place + 1) W

      u_then : Under published_in (entered block actor s0 c b0) b0.records
      u_then = with_under place (published (cell_at s (slot_at W place))) (entered block actor s0 c b0) b0.records on.1

      logs_then : Logs W [] published_in
      logs_then = published_logs block actor s0 c b0 r.plan r.commit r.epoch W rising place inside s (low place inside) on.2

      tails_then : TailsAt block actor s0 c b0 (take (place + 1) W) published_in
      tails_then = published_tails block actor s0 c b0 r.plan r.commit r.epoch W rising place inside s (low place inside) on.2 on.3

      killed_then : killing.killed ≡ map killed_of (take (place + 1) W)
      killed_then =
          killed_more block actor s0 c b0 r.plan r.commit r.epoch W rising place inside s (low place inside) on.2 on.3 h.killed on.4

      killed_all : nat_lt (place + 1) (length W) ≡ false → killing.killed ≡ map killed_of W
      killed_all last = killed_then ∙ ap (map killed_of) (all_then place inside last)

      -- there are two or more of them, or one
      publish_next : (several : Bool) → nat_lt 1 (length W) ≡ several
          → Stands (now_then several) k published_in killing (go_to k r)
      publish_next true several =
          by_test (λ (n : Next). Stands (now_then true) n published_in killing (go_to k r)) (nat_lt (place + 1) (length W)) (Publish (place + 1)) (closing W)
          (λ more. (committing, u_then, logs_then, tails_then, killed_then))
          (λ last. by_test (λ (n : Next). Stands (now_then true) n published_in killing (go_to k r)) (nat_lt 1 (length W)) Close (retiring 0 W)
          (λ some. (committing, u_then, logs_then, killed_all last)) (λ one. absurd (false≢true (sym one ∙ several))))
      publish_next false one =
          let le = ltb-false 1 (length W) one in
          by_test (λ (n : Next). Stands (now_then false) n published_in killing (go_to k r)) (nat_lt (place + 1) (length W)) (Publish (place + 1)) (closing W)
          (λ more. absurd (let lt = ltb-true (place + 1) (length W) more in omega (arith, lt, le)))
          (λ last. by_test (λ (n : Next). Stands (now_then false) n published_in killing (go_to k r)) (nat_lt 1 (length W)) Close (retiring 0 W)
          (λ several. absurd (false≢true (sym one ∙ several)))
          (λ single. retire_first published_in killing k (done Commits (Some r) now.plain) on.1.plain_is refl u_then logs_then (killed_all last)))

      pub publish_stands : Works (KnowsNext (Stands (beside_then (Publish place) s h r Waits now))) (Publish place) block actor s h r
      publish_stands = publish_next (nat_lt 1 (length W)) refl

    -- ---- close

    pub close_stands : Stands now Close s h r
        → Works (KnowsNext (Stands (record { records = now.records; plain = done Commits (Some r) now.plain }))) Close block actor s h r
    close_stands on =
        let d = work Close block actor s h r in
        let u : Under d.shared (entered block actor s0 c b0) b0.records = record {
          count = on.1.count;
          snaps = on.1.snaps;
          deferred = on.1.deferred;
          commit_is = on.1.commit_is;
          plain_is = on.1.plain_is;
          records_are = on.1.records_are;
        } in
        retire_first d.shared d.hand (retiring 0 W) (done Commits (Some r) now.plain) on.1.plain_is refl u on.2 on.3

    -- ---- retire

    module _ (place : ℕ) (inside : place < length W) (on : Stands now (Retire place) s h r) where
      abbrev slot : ℕ
      slot = slot_at W place

      abbrev parts : List KilledPart
      parts = first_killed h.killed

      killed_are : h.killed ≡ killed_of slot ∷ map killed_of (drop (place + 1) W)
      killed_are = on.3 ∙ killed_from block actor s0 c b0 r.plan r.commit r.epoch W rising place inside s (low place inside)

      parts_are : parts ≡ killed_of slot
      parts_are = ap first_killed killed_are

      abbrev retired_in : Shared
      retired_in = (work (Retire place) block actor s h r).shared

      abbrev freeing : HandState
      freeing = (work (Retire place) block actor s h r).hand

      abbrev records_now : List Record
      records_now = with_parts (ids s.book.snaps) slot r.epoch parts now.records

      killed_left : freeing.killed ≡ map killed_of (drop (place + 1) W)
      killed_left =
          erased_killed slot (retired_cell slot parts s r) (with_freed slot parts s r h) ∙ ap (drop 1) killed_are

      records_are : records_now ≡ records_of (take (place + 1) W)
      records_are =
          ap (λ (l : Living). with_parts (ids l) slot r.epoch parts now.records) on.1.snaps
          ∙ ap (λ (p : List KilledPart). with_parts (ids s0.book.snaps) slot r.epoch p now.records) parts_are
          ∙ ap (λ (rs : List Record). with_parts (ids s0.book.snaps) slot r.epoch (killed_of slot) rs) on.1.records_are
          ∙ records_to block actor s0 c b0 r.plan r.commit r.epoch W place inside b0.records

      abbrev UnderThen : List Record → Type 0
      UnderThen rs = UnderWayIn block actor s0 c b0 (record { records = records_now; plain = now.plain }) retired_in
          (committed block actor s0 c b0 r.made) rs

      under_then : UnderThen (records_of (take (place + 1) W))
      under_then = record {
        count = length-set s.cells slot (erased (retired_cell slot parts s r)) ∙ on.1.count;
        snaps = on.1.snaps;
        deferred = on.1.deferred;
        commit_is = on.1.commit_is;
        plain_is = on.1.plain_is;
        records_are = records_are;
      }

      logs_left : IsErasedOver (Retire place) s h r → Logs W (take (place + 1) W) retired_in
      logs_left erases =
          retired_logs block actor s0 c b0 r.plan r.commit r.epoch W rising place inside s (low place inside) on.2 (ids s.book.snaps) parts
          (λ is. is_over_then block actor s0 c b0 r.plan r.commit r.epoch W rising place inside s (low place inside) on.2 on.1.snaps
          on.1.deferred (erases place refl).0 ((erases place refl).1 is))

      pub retire_stands : IsErasedOver (Retire place) s h r → Works (KnowsNext (Stands (record { records = records_now; plain = now.plain }))) (Retire place) block actor s h r
      retire_stands erases =
          let n = retiring (place + 1) W in
          let B : PlainState = record { records = records_now; plain = now.plain } in
          by_test (λ (x : Next). Stands B x retired_in freeing (go_to n r)) (nat_lt (place + 1) (length W)) (Retire (place + 1)) Leave
          (λ more. (committing, under_then, logs_left erases, killed_left))
          (λ last. (
            committing,
            subst (λ (l : List ℕ). UnderThen (records_of l)) (all_then place inside last) under_then,
            subst (λ (l : List ℕ). Logs W l retired_in) (all_then place inside last) (logs_left erases),
          ))
