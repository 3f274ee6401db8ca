-- A handle that was made stays used: a slot's settled log goes only with its generation.
use Rattle.std.proofs.Common.{Bool, List, Some, ap, arith, false, if◌then◌else◌, inl, inr, length, length-append, mod-lt, nat_lt, refl, subst, sym, take, true, ℕ, ◌%◌, ◌<◌, ◌∙◌, ◌≡◌, ◌⊎◌}
use Rattle.std.proofs.lemmas.Bool.{false≢true}
use Rattle.nv_alloc.specs.Numbers.{has}
use Rattle.nv_base.specs.declared.numbers.Handle.{Handle}
use Rattle.nv_cell.specs.Cell.{CellState, published}
use Rattle.nv_calls.proofs.Next.{by_erased}
use Rattle.nv_entry.specs.declared.item.Entry.{Entry}
use Rattle.nv_journal.specs.Journal.{settled_tail}
use Rattle.nv_journal.specs.declared.old_tail.OldTail.{OldTail}
use Rattle.nv_log.specs.Chain.{ChainState}
use Rattle.nv_machine.specs.Grown.{fresh_entries}
use Rattle.nv_machine.specs.Kept.{HasNoted, IsNotedIf}
use Rattle.nv_machine.specs.Kinds.{entries_for, with_entries, with_log_pages}
use Rattle.nv_machine.specs.Locks.{AreSlots}
use Rattle.nv_machine.specs.PlainRun.{Commits, PlainChange, Nothing, plain_change, plain_change_of, keeps_nodes}
use Rattle.nv_machine.specs.Reached.{IsReached}
use Rattle.nv_machine.specs.Reads.{pages_needed, slot_at, written_slots}
use Rattle.nv_machine.specs.Settled.{settled}
use Rattle.nv_machine.specs.Step.{after, kind_turn, step}
use Rattle.nv_machine.specs.World.{Append, Close, Event, Go, HandState, Next, Open, Publish, Running, Shared, World, actor_at, cell_at}
use Rattle.nv_machine.proofs.OverEvents.{by_points, event_deed, events_by, turn_at, turned_shared}
use Rattle.nv_machine.proofs.FitsCells.{append_logs, append_wider, publish_logs, wider_cells}
use Rattle.nv_machine.proofs.Lists.{written_inside}
use Rattle.nv_machine.proofs.UnsettledTurns.{point_shared}
use Rattle.nv_machine.proofs.Journals.{closed_tail, open_same}
use Rattle.nv_machine.proofs.StepWork.{work}
use Rattle.nv_machine.proofs.WorkKeeps.{turn_keeps}
use Rattle.nv_machine.proofs.CellChanges.{adds, cells_after, clean_cell, clean_slot, cleans_alone, is_clean, journals_stay, lent_clean, lent_inside_own, no_more, notes, removal}
use Rattle.nv_machine.proofs.CleanedCells.{cleaned_some}
use Rattle.nv_machine.proofs.CleanSteps.{cleans_own, cleans_published}
use Rattle.nv_machine.proofs.LogsKeptRuns.{standing}
use Rattle.nv_machine.proofs.LogsKeptTurns.{Standing}
use Rattle.nv_machine.proofs.WrittenSlots.{written_there}

-- ---- used handles

-- a slot's generation is past this one, or is this one and the slot has a settled log
abbrev pub IsUsedAt : Shared → ℕ → ℕ → Type 0
IsUsedAt s ino generation =
    (generation < (cell_at s ino).generation)
    ⊎ ((generation ≡ (cell_at s ino).generation) × (0 < length (settled s ino)))

abbrev pub IsUsed : Shared → Handle → Type 0
IsUsed s handle = IsUsedAt s handle.ino handle.generation

-- a slot has another generation later, or the same and a settled log still, if it had one
abbrev LivesAt : Shared → Shared → ℕ → Type 0
LivesAt s t ino =
    ((cell_at s ino).generation < (cell_at t ino).generation)
    ⊎ (((cell_at t ino).generation ≡ (cell_at s ino).generation) × (0 < length (settled s ino) → 0 < length (settled t ino)))

abbrev LivesOn : Shared → Shared → Type 0
LivesOn s t = (ino : ℕ) → LivesAt s t ino

used_still : (s t : Shared) (ino generation : ℕ) → LivesAt s t ino → IsUsedAt s ino generation → IsUsedAt t ino generation
used_still s t ino generation (inl rises) (inl past) = inl (omega (arith, rises, past))
used_still s t ino generation (inl rises) (inr own) = let same = own.0 in inl (omega (arith, rises, same))
used_still s t ino generation (inr stays) (inl past) = let same = stays.0 in inl (omega (arith, past, same))
used_still s t ino generation (inr stays) (inr own) = inr (own.0 ∙ sym stays.0, stays.1 own.1)

log_lives : (s t : Shared) (ino : ℕ) → (cell_at t ino).generation ≡ (cell_at s ino).generation → settled t ino ≡ settled s ino
    → LivesAt s t ino
log_lives s t ino same log = inr (same, λ some. subst (λ (l : List Entry). 0 < length l) (sym log) some)

same_lives : (s : Shared) → LivesOn s s
same_lives s ino = inr (refl, λ some. some)

-- ---- every kind, but for commit points

module _ (block a : ℕ) (s : Shared) (h : HandState) (r : Running) where
  abbrev written : List ℕ
  written = written_slots r

  abbrev cpu : ℕ
  cpu = a % length s.lists

  inside : (k : Next) → Standing k block a s h r → AreSlots (length s.cells) r.slots
  inside k st = subst (λ (n : ℕ). AreSlots n r.slots) st.before.wide st.before.are

  append_lives : (place : ℕ) → Standing (Append place) block a s h r → LivesOn s (work (Append place) block a s h r).shared
  append_lives place st ino =
      let slot = slot_at written place in
      let pages = take (pages_needed s r.plan slot) h.pages in
      let low = written_inside (length s.cells) r place (inside (Append place) st) st.before.inside in
      log_lives s (work (Append place) block a s h r).shared ino
      (wider_cells s slot (with_entries (entries_for r slot) h.blocks (with_log_pages pages (cell_at s slot))) low
      (append_wider (entries_for r slot) h.blocks pages (cell_at s slot)) ino).generation
      (append_logs s slot (entries_for r slot) h.blocks pages low st.knows.2 (st.kept.pages slot).within ino)

  open_lives : Standing Open block a s h r → LivesOn s (work Open block a s h r).shared
  open_lives st ino = log_lives s (work Open block a s h r).shared ino refl
      (ap (λ (n : ℕ). take n (cell_at s ino).chain.entries)
      (open_same s (a % length s.lists) written st.knows.2
      (let wide = st.kept.wide in let lt = mod-lt a st.kept.some in omega (arith, wide, lt)) ino
      ∙ sym (closed_tail s.book.journals ino (cell_at s ino).chain.tail st.knows.2)))

  noted : (b : Bool) → b ≡ true → IsNotedIf b s cpu written → HasNoted s cpu written
  noted true e n = n
  noted false e n = cc

  publish_lives : (place : ℕ) → Standing (Publish place) block a s h r → nat_lt 1 (length written) ≡ true
      → LivesOn s (work (Publish place) block a s h r).shared
  publish_lives place st several ino =
      let slot = slot_at written place in
      let low = written_inside (length s.cells) r place (inside (Publish place) st) st.before.inside in
      log_lives s (work (Publish place) block a s h r).shared ino
      (wider_cells s slot (published (cell_at s slot)) low (record { generation = refl; block = refl; blocks = λ n b e. e }) ino).generation
      (publish_logs s slot cpu written low (noted (nat_lt 1 (length written)) several st.knows.2)
      (written_there r place st.before.inside) ino)

  -- a removal leaves the log, or the slot has its next generation
  abbrev LivesBy : ℕ → CellState → Type 0
  LivesBy ino c =
      ((cell_at s ino).generation < c.generation)
      ⊎ ((c.generation ≡ (cell_at s ino).generation)
      × (0 < length (settled s ino) → 0 < length (take (settled_tail s.book.journals ino c.chain.tail) c.chain.entries)))

  -- a cleaning leaves a log an entry that has one
  clean_lives : (k : Next) → Standing k block a s h r → is_clean k ≡ true → LivesBy (clean_slot k) (clean_cell k s h)
  clean_lives k st is =
      let slot = clean_slot k in
      let old = cell_at s slot in
      let new = clean_cell k s h in
      let here = lent_inside_own k a s r st.before slot (lent_clean k (length s.lists) a r is) in
      let last = st.published slot here.1 (ap (λ (l : List ℕ). has l slot) (cleans_published k (written_slots r) is)) in
      let cleans = cleans_own k block s h r is here.0 last st.ready in
      let tail = st.tails slot here.1 (st.before.mine.holder ∙ (cleans_alone k is).0) in
      inr (
        cleans.generation,
        λ some. subst (λ (n : ℕ). 0 < length (take n new.chain.entries)) (sym (tail new.chain.tail))
            (cleaned_some _ _ old new cleans
            (subst (λ (n : ℕ). 0 < length (take n old.chain.entries)) (tail old.chain.tail) some)),
      )

  removal_lives : (k : Next) → Standing k block a s h r → adds k ≡ false → notes k ≡ false → LivesOn s (work k block a s h r).shared
  removal_lives k st plain quiet ino =
      let t = (work k block a s h r).shared in
      subst (λ (journals : List (List OldTail)). ((cell_at s ino).generation < (cell_at t ino).generation)
      ⊎ (((cell_at t ino).generation ≡ (cell_at s ino).generation)
      × (0 < length (settled s ino)
      → 0 < length (take (settled_tail journals ino (cell_at t ino).chain.tail) (cell_at t ino).chain.entries))))
      (sym (journals_stay k block a s h r quiet))
      (cells_after LivesBy block a s h r (λ n. inr (refl, λ some. some)) k st.before
      (no_more LivesBy k s h r plain (λ is low left.
      let x = removal k s h r in
      let same = left.keeps.generation in
      by_erased (LivesBy x.slot) x.cell
      (inr (
        same,
        λ some. subst (λ (c : ChainState). 0 < length (take (settled_tail s.book.journals x.slot c.tail) c.entries))
            (sym left.keeps.chain) some,
      ))
      (inl (omega (arith, same)))) (λ is low. clean_lives k st is)) ino)

  many_published : (b : Bool) → keeps_nodes (if b then Nothing else Commits) ≡ true → b ≡ true
  many_published true e = refl
  many_published false e = cc

  work_lives : (k : Next) (granted : Bool) → Standing k block a s h r
      → keeps_nodes (plain_change k (written_slots r) (kind_turn k block a granted s h r)) ≡ true → LivesOn s (work k block a s h r).shared
  work_lives (Append place) granted st keeps = append_lives place st
  work_lives Open granted st keeps = open_lives st
  work_lives (Publish place) granted st keeps = publish_lives place st (many_published (nat_lt 1 (length (written_slots r))) keeps)
  work_lives Close granted st keeps = absurd (false≢true keeps)
  work_lives other granted st keeps = removal_lives other st refl refl

-- ---- events

kept_lives : (w : World) → IsReached w → (e : Event) → keeps_nodes (plain_change_of w e) ≡ true → LivesOn w.shared (step w e).world.shared
kept_lives w known e = event_deed (λ (d : PlainChange) (v : World). keeps_nodes d ≡ true → LivesOn w.shared v.shared) w
    (λ keeps. same_lives w.shared) e (λ actor c there is keeps. same_lives w.shared)
    (λ actor granted r there is keeps.
    let s = w.shared in
    let h = (actor_at w actor).hand in
    let block = w.numbers.block in
    turned_shared (LivesOn s) (turn_at w actor granted r) actor w (same_lives s)
    (turn_keeps (λ (t : Shared) (h : HandState). LivesOn s t) r.next block actor granted s h r (same_lives s)
    (work_lives block actor s h r r.next granted (standing w actor r known.locks known.order known.kept known.apart is) keeps)))

-- at a commit point logs grow
point_lives : (w : World) (actor : ℕ) (granted : Bool) (r : Running) → IsReached w → actor < length w.actors
    → (actor_at w actor).running ≡ Some r → plain_change_of w (Go actor granted) ≡ Commits
    → LivesOn w.shared (step w (Go actor granted)).world.shared
point_lives w actor granted r known there is e ino =
    let both = point_shared w actor granted r known.locks known.kept known.grown there is e in
    let more = fresh_entries (has (written_slots r) ino) r ino in
    let log = ap (λ (l : List Entry). length l) (both.0 ino) ∙ length-append (settled w.shared ino) more in
    inr ((both.1 ino).generation, λ some. omega (arith, log, some))

event_lives : (w : World) (e : Event) → IsReached w → LivesOn w.shared (step w e).world.shared
event_lives w e known = by_points w (λ (e : Event). LivesOn w.shared (step w e).world.shared)
    (λ actor granted r there is e. point_lives w actor granted r known there is e) (kept_lives w known) e

pub events_used : (events : List Event) (w : World) (handle : Handle) → ((before : List Event) → IsReached (after w before))
    → IsUsed w.shared handle → IsUsed (after w events).shared handle
events_used events w handle = events_by IsReached (λ (v : World). IsUsed v.shared handle) (λ v e known used.
    used_still v.shared (step v e).world.shared handle.ino handle.generation (event_lives v e known handle.ino) used) events w
