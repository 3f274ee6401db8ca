-- A slot whose lock nobody has keeps the blocks of all its parts: none is killed, and none is past the tail.
use Rattle.std.proofs.Common.{◌≡◌, ◌∙◌, ℕ, zero, suc, ◌+◌, ◌<◌, ◌≤◌, Bool, true, false, cond, List, [], ◌∷◌, Option, Some, None, ap, arith, if◌then◌else◌, length, refl, subst, sym}
use Rattle.std.specs.Prelude.{◌&&◌, is_some, option_map, slice_index_or}
use Rattle.std.proofs.lemmas.Bool.{false≢true, true≢false}
use Rattle.std.proofs.lemmas.List.{take_all}
use Rattle.std.proofs.lemmas.List.Sums.{sum_by-cons}
use Rattle.nv_alloc.specs.Block.{BlockValue, number_of}
use Rattle.nv_alloc.specs.Numbers.{has}
use Rattle.nv_base.specs.declared.geometry.GeometryNumbers.{GeometryNumbers}
use Rattle.nv_book.specs.Book.{BookState}
use Rattle.nv_book.specs.declared.record.Record.{Record}
use Rattle.nv_cell.specs.Cell.{CellState, HasBlocks, held_count, log_of, mark_or_fresh, page_block}
use Rattle.nv_cell.specs.Marks.{bit, is_killed, is_there, mark_at}
use Rattle.nv_cell.specs.declared.killed.KilledPart.{KilledPart}
use Rattle.nv_cell.specs.declared.mark.Mark.{Mark}
use Rattle.nv_cell.specs.declared.mark.Mark.TheVariants.{Current, Kept, Killed, Out}
use Rattle.nv_entry.specs.Covered.{part_total}
use Rattle.nv_machine.specs.Held.{killed_by_actor, killed_by_call, killed_in, killed_slots}
use Rattle.nv_machine.specs.Locks.{AreLocks, held_at, held_by, is_owner}
use Rattle.nv_machine.specs.Reads.{is_written, written_slots}
use Rattle.nv_machine.specs.Starts.{IsStart}
use Rattle.nv_machine.specs.Step.{after}
use Rattle.nv_machine.specs.World as machine
use Rattle.nv_machine.specs.World.{Close, Event, Next, Publish, Retire, Running, World, actor_at, cell_at, owner_at}
use Rattle.nv_machine.proofs.EveryWorld.{all_marked, reached}
use Rattle.nv_machine.proofs.FiledLists.{count}
use Rattle.nv_machine.proofs.FiledMarks.{is_killed_on}
use Rattle.nv_machine.proofs.Lists.{has_filter, has_later}
use Rattle.nv_machine.proofs.LogTails.{has_front}
use Rattle.nv_machine.proofs.MarksInUse.{same_default}
use Rattle.nv_machine.proofs.PartsFor.{none_of, none_there}
use Rattle.nv_machine.proofs.WorldFacts.{are_cells, have_marks}
use Rattle.nv_core.proofs.Kept.{length_births}
use Rattle.nv_core.specs.Reports.{KeepsUnlocked, births, is_part_kept, kept_among, one_of}
use Rattle.nv_core.specs.Shown.{shared_of}
use Rattle.nv_core.specs.Worlds.{IsWorld, WorldState}

-- ---- no part is killed

killed_held : (k : Next) (r : Running) (ino : ℕ) → has (killed_slots k (written_slots r)) ino ≡ true
    → has (held_at k r.slots) ino ≡ true
killed_held (Publish place) r ino h = has_filter (is_written r.plan) r.slots ino (has_front place (written_slots r) ino h)
killed_held Close r ino h = has_filter (is_written r.plan) r.slots ino h
killed_held (Retire place) r ino h = has_filter (is_written r.plan) r.slots ino (has_later place (written_slots r) ino h)
killed_held other r ino h = absurd (false≢true h)

none_killed : (w : World) (ino : ℕ) → AreLocks w → owner_at w.shared ino ≡ None → killed_in w ino ≡ []
none_killed w ino locks free = none_of (killed_by_actor ino) w.actors (λ b. call b (actor_at w b).running refl) where
  call : (b : ℕ) (running : Option Running) → (actor_at w b).running ≡ running
      → killed_by_call running (actor_at w b).hand ino ≡ []
  call b None is = refl
  call b (Some r) is = none_there (killed_slots r.next (written_slots r)) (actor_at w b).hand.killed ino
      (go (has (killed_slots r.next (written_slots r)) ino) refl) where
        go : (c : Bool) → has (killed_slots r.next (written_slots r)) ino ≡ c → c ≡ false
        go false e = refl
        go true e =
            let held = killed_held r.next r ino e in
            let holds = (locks.each b).owners ino ∙ ap (λ (o : Option Running). has (held_by o) ino) is ∙ held in
            absurd (false≢true (ap (is_owner b) (sym free) ∙ holds))

unkilled : (b : Bool) → 0 ≡ bit b → b ≡ false
unkilled true e = absurd (omega (arith, e))
unkilled false e = refl

-- ---- so each block is kept

abbrev one_if : Bool → ℕ
one_if b = cond b 1 0

one_kept : (book : BookState) (birth : ℕ) (mark : Mark) (block : Option BlockValue) → is_killed mark ≡ false
    → (is_there mark ≡ false → block ≡ None) → one_of book birth mark block ≡ one_if (is_some block)
one_kept book birth mark None alive out = go (is_part_kept book birth mark) where
  go : (b : Bool) → one_if (b && false) ≡ one_if false
  go true = refl
  go false = refl
one_kept book birth Current (Some block) alive out = refl
one_kept book birth Kept (Some block) alive out = refl
one_kept book birth Killed (Some block) alive out = absurd (true≢false alive)
one_kept book birth Out (Some block) alive out = absurd (let none : Some block ≡ None = out refl in cc)

all_kept : (book : BookState) (births : List ℕ) (marks : List Mark) (blocks : List (Option BlockValue))
    → length marks ≡ length births → length blocks ≡ length births
    → ((n : ℕ) → n < length marks → is_killed (mark_at marks n) ≡ false)
    → ((n : ℕ) → n < length marks → is_there (mark_at marks n) ≡ false → slice_index_or blocks n None ≡ None)
    → kept_among book births marks blocks ≡ held_count blocks
all_kept book [] marks [] marked long alive out = refl
all_kept book [] marks (b ∷ blocks) marked long alive out = absurd (omega (arith, long))
all_kept book (birth ∷ births) [] blocks marked long alive out = absurd (omega (arith, marked))
all_kept book (birth ∷ births) (m ∷ marks) [] marked long alive out = absurd (omega (arith, long))
all_kept book (birth ∷ births) (m ∷ marks) (b ∷ blocks) marked long alive out =
    let one = one_kept book birth m b (alive zero (omega arith)) (out zero (omega arith)) in
    let rest = all_kept book births marks blocks (omega (arith, marked)) (omega (arith, long))
    (λ n lt. alive (suc n) (omega (arith, lt))) (λ n lt. out (suc n) (omega (arith, lt))) in
    let all : held_count (b ∷ blocks) ≡ one_if (is_some b) + held_count blocks =
    sum_by-cons (λ (o : Option BlockValue). one_if (is_some o)) b blocks in
    omega (arith, one, rest, all)

none_mapped : (o : Option BlockValue) → option_map number_of o ≡ None → o ≡ None
none_mapped None e = refl
none_mapped (Some b) e = absurd cc

-- a part that is out has no block
out_blockless : (cell : CellState) (n : ℕ) → HasBlocks cell → n < length cell.marks → is_there (mark_at cell.marks n) ≡ false
    → slice_index_or cell.blocks n None ≡ None
out_blockless cell n has lt out =
    let gone : is_there (mark_or_fresh cell.marks n) ≡ false = ap is_there (same_default cell.marks n lt) ∙ out in
    none_mapped (slice_index_or cell.blocks n None)
    (has.numbers n ∙ ap (λ (b : Bool). if b then page_block cell.block cell.chain.entries n else None) gone)

-- ---- in each world

module _ (g : GeometryNumbers) (start : World) (records : List Record) (events : List Event) (is_start : IsStart g start records) where
  abbrev w : World
  w = after start events

  unlocked_keep : KeepsUnlocked w.shared
  unlocked_keep ino lt free =
      let cell = cell_at w.shared ino in
      let log = log_of cell in
      let is = reached g start records events is_start in
      let marks = (all_marked g start records events is_start).cells ino in
      let are = are_cells g start records events ino is_start lt in
      let tail = (is.grown.free ino free).tail in
      let whole : log ≡ cell.chain.entries = take_all cell.chain.tail cell.chain.entries (omega (arith, tail)) in
      let none = none_killed w ino is.locks free in
      let parts = length_births log in
      let marked = (have_marks g start records events ino is_start).len in
      let placed = are.blocks.len ∙ sym (ap part_total whole) in
      all_kept w.shared.book (births log) cell.marks cell.blocks (omega (arith, parts, marked)) (omega (arith, parts, placed))
      (λ n lt. unkilled (is_killed (mark_at cell.marks n))
      (subst (λ (ks : List KilledPart). count (is_killed_on log n) ks ≡ bit (is_killed (mark_at cell.marks n))) none (marks.killed_are n)))
      (λ n lt. out_blockless cell n are.blocks lt)

pub keeps_unlocked : (w : WorldState) → IsWorld w → KeepsUnlocked (shared_of w.shared)
keeps_unlocked w is =
    let g = w.shared.geometry.numbers in
    subst KeepsUnlocked (sym is.2.shows.shared)
    (subst (λ (m : machine.World). KeepsUnlocked m.shared) (sym is.2.reached)
    (unlocked_keep g is.1.start is.1.records is.1.events is.2.is_start))
