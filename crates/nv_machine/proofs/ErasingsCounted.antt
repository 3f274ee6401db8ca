-- A slot's generation counts how often its inode was erased.
use Rattle.std.proofs.Common.{Bool, List, [], ap, arith, false, Option, Some, if◌then◌else◌, length, not, refl, subst, sym, take, true, zero, suc, ℕ, ◌&&◌, ◌+◌, ◌-◌, ◌<◌, ◌∙◌, ◌∷◌, ◌≡◌}
use Rattle.std.proofs.lemmas.Bool.{false≢true}
use Rattle.nv_base.specs.declared.geometry.GeometryNumbers.{GeometryNumbers}
use Rattle.nv_base.specs.Limits.{IsWithinLimits}
use Rattle.nv_book.specs.declared.record.Record.{Record}
use Rattle.nv_calls.specs.Retiring.{erased}
use Rattle.nv_cell.specs.Cell.{CellState, empty_cell, published}
use Rattle.nv_entry.specs.declared.item.Entry.{Entry}
use Rattle.nv_machine.specs.Erasing.{emptied}
use Rattle.nv_machine.specs.Erasings.{erased_once, erasings}
use Rattle.nv_machine.specs.Format.{formatted}
use Rattle.nv_machine.specs.Grown.{HasGrownBy}
use Rattle.nv_machine.specs.Hands.{makes_inode}
use Rattle.nv_machine.specs.Kinds.{entries_for}
use Rattle.nv_machine.specs.PlainRun.{Commits, plain_change_of}
use Rattle.nv_cell.specs.Readers.{is_erased, has_entry, has_inode}
use Rattle.nv_machine.specs.Reached.{IsReached}
use Rattle.nv_machine.specs.Reads.{pages_needed, slot_at, written_slots}
use Rattle.nv_machine.specs.Sequence.{beginning}
use Rattle.nv_machine.specs.Starts.{IsStart}
use Rattle.nv_machine.specs.Step.{after, step}
use Rattle.nv_machine.specs.World.{Event, Go, HandState, Running, Shared, World, actor_at, cell_at}
use Rattle.nv_machine.proofs.CellChanges.{cells_after, clean_cell, clean_slot, removal}
use Rattle.nv_machine.proofs.Cleanable.{cleanable}
use Rattle.nv_machine.proofs.CleanedLogs.{clean_like}
use Rattle.nv_machine.proofs.EveryWorld.{all_known, reached}
use Rattle.nv_machine.proofs.FitsEvents.{passed_now}
use Rattle.nv_machine.proofs.LocksOverEvents.{before, many_same}
use Rattle.nv_machine.proofs.NewStart.{new_start}
use Rattle.nv_machine.proofs.NewWorld.{new_cell}
use Rattle.nv_machine.proofs.OverEvents.{event_shared}
use Rattle.nv_machine.proofs.PoolCells.{IsLike, appended_like, erased_gone, gone_inode, keeps_like, published_log}
use Rattle.nv_machine.proofs.StepWork.{work}
use Rattle.nv_machine.proofs.WorkKeeps.{turn_keeps}

-- a cell's generation is one more where its inode was erased, and else as it was
abbrev Counts : CellState → CellState → Type 0
Counts old new = new.generation ≡ old.generation + erased_once old new

abbrev erased_if : Bool → Bool → ℕ
erased_if had has = if had && not has then 1 else 0

-- one that has an inode as it had
stays_counted : (old new : CellState) → (has_inode old ≡ true → has_inode new ≡ true) → new.generation ≡ old.generation → Counts old new
stays_counted old new keeps same = go (has_inode old) (has_inode new) keeps where
  go : (had has : Bool) → (had ≡ true → has ≡ true) → new.generation ≡ old.generation + erased_if had has
  go true true keeps = omega (arith, same)
  go true false keeps = absurd (false≢true (keeps refl))
  go false has keeps = omega (arith, same)

like_counted : (old new : CellState) → IsLike old new → Counts old new
like_counted old new like = stays_counted old new (λ had. like.inode ∙ had) like.generation

-- what an append leaves, a publish and a removal
front_entry : (n : ℕ) (log : List Entry) → has_entry (take n log) ≡ true → has_entry log ≡ true
front_entry zero log some = absurd (false≢true some)
front_entry (suc n) [] some = some
front_entry (suc n) (e ∷ log) some = refl

published_counted : (cell : CellState) → Counts cell (published cell)
published_counted cell = stays_counted cell (published cell)
    (λ had. ap has_entry (published_log cell) ∙ front_entry cell.chain.tail cell.chain.entries had) refl

erased_counted : (old cell : CellState) → IsLike old cell → Counts old (erased cell)
erased_counted old cell like = go (is_erased cell) refl where
  go : (b : Bool) → is_erased cell ≡ b → Counts old (if b then emptied cell else cell)
  go true gone =
      let had : has_inode old ≡ true = sym like.inode ∙ gone_inode cell (erased_gone cell gone) in
      let one = ap (λ (b : Bool). erased_if b false) had in
      omega (arith, like.generation, one)
  go false kept = like_counted old cell like

-- ---- events

module _ (w : World) (k : IsReached w) where
  abbrev AreCounted : Shared → Type 0
  AreCounted t = (ino : ℕ) → Counts (cell_at w.shared ino) (cell_at t ino)

  same_counted : AreCounted w.shared
  same_counted ino = like_counted (cell_at w.shared ino) (cell_at w.shared ino) (record { inode = refl; generation = refl })

  work_counted : (actor : ℕ) (r : Running) → (actor_at w actor).running ≡ Some r
      → AreCounted (work r.next w.numbers.block actor w.shared (actor_at w actor).hand r).shared
  work_counted actor r is =
      let s = w.shared in
      let h = (actor_at w actor).hand in
      cells_after (λ (ino : ℕ) (c : CellState). Counts (cell_at s ino) c) w.numbers.block actor s h r same_counted r.next
      (before w actor r k.locks is) (record {
        appends = λ place next inside low.
            let slot = slot_at (written_slots r) place in
            like_counted (cell_at s slot) _ (appended_like (entries_for r slot) h.blocks (take (pages_needed s r.plan slot) h.pages)
            (cell_at s slot) (k.kept.logs.pages slot).within);
        publishes = λ place next inside low. published_counted (cell_at s (slot_at (written_slots r) place));
        removes = λ on low left.
            let x = removal r.next s h r in
            erased_counted (cell_at s x.slot) x.cell (keeps_like (cell_at s x.slot) x.cell left.keeps);
        cleans = λ on low.
            like_counted (cell_at s (clean_slot r.next)) (clean_cell r.next s h)
            (clean_like r.next w.numbers.block actor s h r on (before w actor r k.locks is)
            (subst (λ (o : Option Running). HasGrownBy o s actor) is (k.grown.each actor))
            (cleanable w actor r k.apart.cleanable is));
      })

  event_counted : (e : Event) → AreCounted (step w e).world.shared
  event_counted e = event_shared AreCounted w same_counted e (λ actor granted r there is.
      turn_keeps (λ (t : Shared) (h : HandState). AreCounted t) r.next w.numbers.block actor granted w.shared (actor_at w actor).hand r
      same_counted (work_counted actor r is))

events_counted : (events : List Event) (w : World) (ino : ℕ) → ((before : List Event) → IsReached (after w before))
    → (cell_at (after w events).shared ino).generation ≡ (cell_at w.shared ino).generation + erasings ino w events
events_counted [] w ino known = omega arith
events_counted (e ∷ events) w ino known =
    let one = event_counted w (known []) e ino in
    let rest = events_counted events (step w e).world ino (λ before. known (e ∷ before)) in
    omega (arith, one, rest)

-- ---- the law

pub generation_counted : (g : GeometryNumbers) (start : World) (records : List Record) (events : List Event) (ino : ℕ)
    → IsStart g start records
    → (cell_at (after start events).shared ino).generation ≡ (cell_at start.shared ino).generation + erasings ino start events
generation_counted g start records events ino is_start =
    events_counted events start ino (λ before. reached g start records before is_start)

-- of a new world each slot is of generation 1
first_generation : (g : GeometryNumbers) (ino : ℕ) → ino < g.inodes → (cell_at (formatted g).shared ino).generation ≡ 1
first_generation g ino there =
    new_cell g (λ (n : ℕ) (c : CellState). n < g.inodes → c.generation ≡ 1) (λ low. refl) (λ n low. refl)
    (λ n past low. absurd (omega (arith, past, low, many_same (g.inodes - 1) (empty_cell g.block g.page 1 0)))) ino there

pub new_counted : (g : GeometryNumbers) (events : List Event) (ino : ℕ) → IsWithinLimits g → ino < g.inodes
    → (cell_at (after (formatted g) events).shared ino).generation ≡ 1 + erasings ino (formatted g) events
new_counted g events ino limits there =
    let all = generation_counted g (formatted g) [] events ino (new_start g limits) in
    let first = first_generation g ino there in
    omega (arith, all, first)

-- and so is a new inode's handle
pub made_counted : (g : GeometryNumbers) (events : List Event) (actor : ℕ) (granted : Bool) (r : Running) → IsWithinLimits g
    → actor < length (after (formatted g) events).actors → (actor_at (after (formatted g) events) actor).running ≡ Some r
    → plain_change_of (after (formatted g) events) (Go actor granted) ≡ Commits → makes_inode (beginning r.call) ≡ true
    → r.made.generation ≡ 1 + erasings r.made.ino (formatted g) events
made_counted g events actor granted r limits there is e makes =
    let w = after (formatted g) events in
    let is_start = new_start g limits in
    let known = all_known g (formatted g) [] is_start events in
    let passed = passed_now g w known actor granted r is there e in
    let inside = passed.inside makes in
    let slots = known.pooled.slots in
    (passed.free makes).own ∙ new_counted g events r.made.ino limits (omega (arith, inside, slots))
