-- The open journal is that of the CPU of the actor whose commit is under way.
use Rattle.std.proofs.Common.{Bool, List, None, Option, Some, [], ap, arith, false, get_or-set_other, length, length-set, mod-lt, nat_lt, refl, set, subst, sym, true, ℕ, zero, suc, ◌%◌, ◌+◌, ◌<◌, ◌∙◌, ◌∷◌, ◌≡◌}
use Rattle.std.specs.Prelude.{is_some, slice_index_or}
use Rattle.std.proofs.lemmas.Bool.{true≢false}
use Rattle.nv_alloc.specs.Numbers.{has}
use Rattle.nv_base.specs.declared.geometry.GeometryNumbers.{GeometryNumbers}
use Rattle.nv_book.specs.declared.record.Record.{Record}
use Rattle.nv_journal.specs.Journal.{noted_or, settled_tail, tail_noted}
use Rattle.nv_journal.specs.declared.old_tail.OldTail.{OldTail}
use Rattle.nv_machine.specs.Happened.{IsOpenAt, is_journaled, journal_at}
use Rattle.nv_machine.specs.Kept.{AreClosed, HasNoted, IsKept, IsNotedIf, Knows, KnowsOf}
use Rattle.nv_machine.specs.Locks.{AreLocks, commits_at, commits_by, is_owner}
use Rattle.nv_machine.specs.Reads.{written_slots}
use Rattle.nv_machine.specs.Starts.{IsStart}
use Rattle.nv_machine.specs.Step.{after}
use Rattle.nv_machine.specs.World.{Append, Close, Event, Leave, Next, Open, Publish, Retire, Running, Shared, World, actor_at}
use Rattle.nv_machine.proofs.EveryWorld.{all_numbers, reached}
use Rattle.nv_machine.proofs.Journals.{open_tail}
use Rattle.nv_machine.proofs.Lists.{self}

-- ---- journals

closed_at : (journals : List (List OldTail)) (cpu : ℕ) → AreClosed journals → slice_index_or journals cpu [] ≡ []
closed_at [] cpu closed = refl
closed_at (own ∷ journals) zero closed = closed.0
closed_at (own ∷ journals) (suc cpu) closed = closed_at journals cpu closed.1

-- a journal is as it was once it is set to nothing and back
set_back : (journals : List (List OldTail)) (cpu : ℕ) → set (set journals cpu []) cpu (slice_index_or journals cpu []) ≡ journals
set_back [] cpu = refl
set_back (own ∷ journals) zero = refl
set_back (own ∷ journals) (suc cpu) = ap (λ (l : List (List OldTail)). own ∷ l) (set_back journals cpu)

module _ (s : Shared) (cpu : ℕ) (written : List ℕ) (inside : cpu < length s.book.journals) (noted : HasNoted s cpu written) where
  tail_is : (ino tail : ℕ) → settled_tail s.book.journals ino tail ≡ noted_or (tail_noted (journal_at s cpu) ino) tail
  tail_is ino tail =
      ap (λ (l : List (List OldTail)). settled_tail l ino tail) (sym (set_back s.book.journals cpu))
      ∙ open_tail (set s.book.journals cpu []) cpu ino tail (journal_at s cpu) noted.alone
      (omega (arith, inside, length-set s.book.journals cpu []))

  -- it has noted a tail exactly where two are settled alike
  own_noted : (ino : ℕ) (found : Option ℕ) → tail_noted (journal_at s cpu) ino ≡ found → (b : Bool) → has written ino ≡ b → is_some found ≡ b
  own_noted ino (Some tail) is true there = refl
  own_noted ino None is false there = refl
  own_noted ino None is true there =
      let zeroth = tail_is ino 0 ∙ ap (λ (o : Option ℕ). noted_or o 0) is in
      let first = tail_is ino 1 ∙ ap (λ (o : Option ℕ). noted_or o 1) is in
      let same = noted.noted ino 0 1 there in
      absurd (omega (arith, zeroth, first, same))
  own_noted ino (Some tail) is false there =
      let next = tail_is ino (tail + 1) ∙ ap (λ (o : Option ℕ). noted_or o (tail + 1)) is in
      let free = noted.free ino (tail + 1) there in
      absurd (omega (arith, next, free))

  open_at : IsOpenAt s cpu written
  open_at = record {
    own = λ ino. own_noted ino (tail_noted (journal_at s cpu) ino) refl (has written ino) refl;
    others = λ other apart.
        sym (get_or-set_other s.book.journals cpu other [] [] apart) ∙ closed_at (set s.book.journals cpu []) other noted.alone;
  }

-- ---- the call that commits

several : (b : Bool) (s : Shared) (cpu : ℕ) (written : List ℕ) → b ≡ true → IsNotedIf b s cpu written → HasNoted s cpu written
several true s cpu written is noted = noted
several false s cpu written is noted = cc

one : (b : Bool) (s : Shared) (cpu : ℕ) (written : List ℕ) → b ≡ false → IsNotedIf b s cpu written → AreClosed s.book.journals
one true s cpu written is noted = cc
one false s cpu written is noted = noted

module _ (w : World) (locks : AreLocks w) (kept : IsKept w) where
  knows : (actor : ℕ) (r : Running) → (actor_at w actor).running ≡ Some r
      → Knows r.next w.numbers.block w.shared (actor % length w.shared.lists) (actor_at w actor).hand r
  knows actor r is = subst (λ (running : Option Running). KnowsOf running w.numbers.block w.shared (actor % length w.shared.lists)
      (actor_at w actor).hand) is (kept.each actor)

  pub opened : (actor : ℕ) (r : Running) → (actor_at w actor).running ≡ Some r → is_journaled r.next (written_slots r) ≡ true
      → IsOpenAt w.shared (actor % length w.shared.lists) (written_slots r)
  opened actor r is e = open_at w.shared (actor % length w.shared.lists) (written_slots r)
      (let low = mod-lt actor kept.logs.some in let wide = kept.logs.wide in omega (arith, low, wide))
      (noted r.next e (knows actor r is)) where
        noted : (k : Next) → is_journaled k (written_slots r) ≡ true
            → Knows k w.numbers.block w.shared (actor % length w.shared.lists) (actor_at w actor).hand r
            → HasNoted w.shared (actor % length w.shared.lists) (written_slots r)
        noted (Publish place) e known = several (nat_lt 1 (length (written_slots r))) w.shared _ (written_slots r) e known.2
        noted Close e known = known.2
        noted other e known = cc

  -- where the call that commits has no open journal none is open
  none_open : (actor cpu : ℕ) (r : Running) → (k : Next) → commits_at k ≡ true → is_journaled k (written_slots r) ≡ false
      → Knows k w.numbers.block w.shared (actor % length w.shared.lists) (actor_at w actor).hand r → AreClosed w.shared.book.journals
  none_open actor cpu r (Append place) commits e known = known.2
  none_open actor cpu r Open commits e known = known.2
  none_open actor cpu r (Publish place) commits e known =
      one (nat_lt 1 (length (written_slots r))) w.shared _ (written_slots r) e known.2
  none_open actor cpu r Close commits e known = absurd (true≢false e)
  none_open actor cpu r (Retire place) commits e known = known.2
  none_open actor cpu r Leave commits e known = known.1
  none_open actor cpu r other commits e known = cc

  abbrev NoneOpen : Type 0
  NoneOpen = (actor : ℕ) (r : Running) → (actor_at w actor).running ≡ Some r → is_journaled r.next (written_slots r) ≡ false

  pub closed : NoneOpen → (cpu : ℕ) → journal_at w.shared cpu ≡ []
  closed none cpu = closed_at w.shared.book.journals cpu (by_holder w.shared.holder refl) where
    by_call : (actor : ℕ) (running : Option Running) → (actor_at w actor).running ≡ running → commits_by running ≡ true
        → AreClosed w.shared.book.journals
    by_call actor None is commits = cc
    by_call actor (Some r) is commits = none_open actor cpu r r.next commits (none actor r is) (knows actor r is)

    by_holder : (holder : Option ℕ) → w.shared.holder ≡ holder → AreClosed w.shared.book.journals
    by_holder None is = kept.logs.closed is
    by_holder (Some actor) is = by_call actor (actor_at w actor).running refl
        (sym (locks.each actor).holder ∙ ap (is_owner actor) is ∙ self actor)

-- ---- the law

pub journal_open : (g : GeometryNumbers) (start : World) (records : List Record) (events : List Event) (actor : ℕ) (r : Running)
    → IsStart g start records → (actor_at (after start events) actor).running ≡ Some r
    → is_journaled r.next (written_slots r) ≡ true
    → IsOpenAt (after start events).shared (actor % g.cpus) (written_slots r)
journal_open g start records events actor r is_start is e =
    let k = reached g start records events is_start in
    subst (λ (n : ℕ). IsOpenAt (after start events).shared (actor % n) (written_slots r))
    (all_numbers g start records events is_start).lists.cpus (opened (after start events) k.locks k.kept actor r is e)

pub journals_closed : (g : GeometryNumbers) (start : World) (records : List Record) (events : List Event) (cpu : ℕ)
    → IsStart g start records
    → ((actor : ℕ) (r : Running) → (actor_at (after start events) actor).running ≡ Some r
    → is_journaled r.next (written_slots r) ≡ false)
    → journal_at (after start events).shared cpu ≡ []
journals_closed g start records events cpu is_start none =
    let k = reached g start records events is_start in closed (after start events) k.locks k.kept none cpu
