-- Past settled logs stand the entries of the commit under way, which a commit point settles all at one stroke.
use Rattle.std.proofs.Common.{Bool, List, None, Option, Some, [], ap, append-nil, false, length, refl, subst, suc, sym, take, true, zero, ℕ, ◌++◌, ◌==◌, ◌∙◌, ◌≡◌, ◌≢◌, arith, inl, inr, ◌⊎◌, ◌≤◌, length-take, take_all, ◌∷◌}
use Rattle.std.proofs.lemmas.Bool.{eq-eqb, eqb-false, eqb-true, false≢true}
use Rattle.nv_machine.specs.Grown.{HasGrown, IsAllSettled, fresh_entries, is_appended, is_behind}
use Rattle.nv_machine.specs.Locks.{commits_at, is_owner}
use Rattle.nv_machine.specs.Reads.{written_slots}
use Rattle.nv_machine.specs.Settled.{settled}
use Rattle.nv_machine.specs.World.{Append, Close, Ends, HandState, Moves, Next, Open, Publish, Running, Shared, Turn, Waits, cell_at, owner_at}
use Rattle.nv_machine.proofs.LocksAlongCalls.{LocksLeft, OnLocks, apart}
use Rattle.nv_machine.proofs.LogsKept.{Still}
use Rattle.nv_calls.proofs.Next.{by_erased}
use Rattle.nv_cell.specs.Cell.{CellState}
use Rattle.nv_entry.specs.declared.item.Entry.{Entry}
use Rattle.nv_journal.specs.declared.old_tail.OldTail.{OldTail}
use Rattle.nv_log.specs.Chain.{ChainState}
use Rattle.nv_machine.specs.Step.{kind_turn}
use Rattle.nv_machine.proofs.CellChanges.{adds, cells_after, holder_stays, journals_stay, lent_inside_own, locks, no_more, notes, removal, clean_cell, clean_slot, is_clean, is_cleaned}
use Rattle.nv_machine.proofs.StepWork.{work}
use Rattle.nv_machine.proofs.StepFrames.{work_framed}
use Rattle.nv_machine.proofs.WorkKeeps.{AfterTurn, turn_keeps}
use Rattle.nv_machine.proofs.LocksHeld.{Before, locks_kept}
use Rattle.nv_log.proofs.Flags.{length-left_of}
use Rattle.nv_journal.specs.Journal.{noted_or, settled_tail, tail_noted}

-- the cells of others, and their settled logs
pub record CellsLeft (a : ℕ) (s t : Shared) : Type 0 where
  pub cells : (ino : ℕ) → owner_at s ino ≢ Some a → cell_at t ino ≡ cell_at s ino
  pub logs : (ino : ℕ) → owner_at s ino ≢ Some a → settled t ino ≡ settled s ino

abbrev pub AllFree : Shared → Type 0
AllFree s = (ino : ℕ) → owner_at s ino ≡ None → IsAllSettled s ino

abbrev pub OnGrown : ℕ → Shared → Turn → Type 0
OnGrown a s (Moves t h q) = CellsLeft a s t × AllFree t × HasGrown q.next t a q
OnGrown a s Waits = Unit {0}
OnGrown a s (Ends result t h) = CellsLeft a s t × AllFree t

-- ---- outside of commits

-- no entry of a call that does not commit now is appended, and none is behind
neither : (k : Next) (written : List ℕ) (ino : ℕ) → commits_at k ≡ false
    → (is_appended k written ino ≡ false) × (is_behind k written ino ≡ false)
neither (Append place) written ino e = (cc, cc)
neither Open written ino e = (cc, cc)
neither (Publish place) written ino e = (cc, cc)
neither Close written ino e = (cc, cc)
neither other written ino e = (refl, refl)

pub not_appended : (k : Next) (written : List ℕ) (ino : ℕ) → commits_at k ≡ false → is_appended k written ino ≡ false
not_appended k written ino e = (neither k written ino e).0

pub not_behind : (k : Next) (written : List ℕ) (ino : ℕ) → commits_at k ≡ false → is_behind k written ino ≡ false
not_behind k written ino e = (neither k written ino e).1

-- a call with nothing past its settled logs
pub all_settled : (k : Next) (s : Shared) (a : ℕ) (r : Running) → ((ino : ℕ) → is_appended k (written_slots r) ino ≡ false)
    → ((ino : ℕ) → owner_at s ino ≡ Some a → IsAllSettled s ino) → HasGrown k s a r
all_settled k s a r none mine = record {
  entries = λ ino own. (mine ino own).entries ∙ sym (append-nil (settled s ino))
      ∙ ap (λ (b : Bool). settled s ino ++ fresh_entries b r ino) (sym (none ino));
  tails = λ ino own behind. (mine ino own).tail;
}

-- and the other way round
pub is_settled : (k : Next) (s : Shared) (a : ℕ) (r : Running) → HasGrown k s a r → (ino : ℕ) → is_appended k (written_slots r) ino ≡ false
    → is_behind k (written_slots r) ino ≡ false → owner_at s ino ≡ Some a → IsAllSettled s ino
is_settled k s a r h ino none behind own = record {
  entries = h.entries ino own ∙ ap (λ (b : Bool). settled s ino ++ fresh_entries b r ino) none ∙ append-nil (settled s ino);
  tail = h.tails ino own behind;
}

-- cells of others and journals stay, and what is settled as a whole stays so
pub record IsQuiet (a : ℕ) (s t : Shared) : Type 0 where
  pub cells : (ino : ℕ) → owner_at s ino ≢ Some a → cell_at t ino ≡ cell_at s ino
  pub journals : t.book.journals ≡ s.book.journals
  pub settled : (ino : ℕ) → IsAllSettled s ino → IsAllSettled t ino

pub still_quiet : (a : ℕ) (s t : Shared) → Still s t → IsQuiet a s t
still_quiet a s t h = record {
  cells = λ ino out. h.cells ino;
  journals = h.journals;
  settled = λ ino is. record { entries = rw (h.cells ino, h.journals) is.entries; tail = rw (h.cells ino) is.tail };
}

-- whose slots are nobody's or the actor's afterwards, were so before
was_mine : (a : ℕ) (s t : Shared) (ino : ℕ) (o : Option ℕ) → LocksLeft a s t → owner_at s ino ≡ o
    → ((b : ℕ) → b ≢ a → is_owner b (owner_at t ino) ≡ false) → (o ≡ None → IsAllSettled s ino) → (o ≡ Some a → IsAllSettled s ino)
    → IsAllSettled s ino
was_mine a s t ino None left e out free mine = free refl
was_mine a s t ino (Some b) left e out free mine = go (b == a) refl where
  go : (c : Bool) → (b == a) ≡ c → IsAllSettled s ino
  go true q = mine (ap (λ (n : ℕ). Some n) (eqb-true b a q))
  go false q =
      let ne : b ≢ a = eqb-false b a q in
      absurd (false≢true (sym (out b ne) ∙ left.owners b ne ino ∙ ap (is_owner b) e ∙ eq-eqb b b refl))

out_none : (a : ℕ) (o : Option ℕ) → o ≡ None → (b : ℕ) → b ≢ a → is_owner b o ≡ false
out_none a o e b ne = ap (is_owner b) e

out_own : (a : ℕ) (o : Option ℕ) → o ≡ Some a → (b : ℕ) → b ≢ a → is_owner b o ≡ false
out_own a o e b ne = ap (is_owner b) e ∙ apart a b (a == b) refl (λ is. ne (sym is))

module _ (a : ℕ) (s t : Shared) (quiet : IsQuiet a s t) (left : LocksLeft a s t) (free : AllFree s)
    (mine : (ino : ℕ) → owner_at s ino ≡ Some a → IsAllSettled s ino) where
  pub still_cells : CellsLeft a s t
  still_cells = record { cells = quiet.cells; logs = λ ino out. rw (quiet.cells ino out, quiet.journals) refl }

  pub still_free : AllFree t
  still_free ino e = quiet.settled ino
      (was_mine a s t ino (owner_at s ino) left refl (out_none a (owner_at t ino) e) (λ q. free ino q) (λ q. mine ino q))

  pub still_mine : (ino : ℕ) → owner_at t ino ≡ Some a → IsAllSettled t ino
  still_mine ino e = quiet.settled ino
      (was_mine a s t ino (owner_at s ino) left refl (out_own a (owner_at t ino) e) (λ q. free ino q) (λ q. mine ino q))

-- after a turn that leaves it so the actor does not commit
abbrev pub AllQuiet : ℕ → Shared → Turn → Type 0
AllQuiet a s (Moves t h q) = IsQuiet a s t × (is_owner a t.holder ≡ false)
AllQuiet a s Waits = Unit {0}
AllQuiet a s (Ends result t h) = IsQuiet a s t × (is_owner a t.holder ≡ false)

pub quiet_grown : (a : ℕ) (s : Shared) (waits : Type 0) (turn : Turn) → AllFree s
    → ((ino : ℕ) → owner_at s ino ≡ Some a → IsAllSettled s ino)
    → AllQuiet a s turn → OnLocks a s waits turn → OnGrown a s turn
quiet_grown a s waits (Moves t h q) free mine still on = (
  still_cells a s t still.0 on.0 free mine,
  still_free a s t still.0 on.0 free mine,
  all_settled q.next t a q (λ ino. not_appended q.next (written_slots q) ino (sym on.1.holder ∙ still.1))
      (still_mine a s t still.0 on.0 free mine),
)
quiet_grown a s waits Waits free mine still on = tt
quiet_grown a s waits (Ends result t h) free mine still on =
    (still_cells a s t still.0 on.0 free mine, still_free a s t still.0 on.0 free mine)

-- ---- a kind that adds to no log, and writes no journal

-- a cell without an entry that is not settled, by the journals
abbrev IsWhole : Shared → ℕ → CellState → Type 0
IsWhole s ino c = (c.chain.entries ≡ take (settled_tail s.book.journals ino c.chain.tail) c.chain.entries)
    × (c.chain.tail ≡ length c.chain.entries)

take_none : (n : ℕ) → take {A = Entry} n [] ≡ []
take_none zero = refl
take_none (suc n) = refl

-- a tail that journals note is one for all logs, and else each log has its own
tails_noted : (journals : List (List OldTail)) (ino : ℕ) → ((n : ℕ) → settled_tail journals ino n ≡ n)
    ⊎ ((c : ℕ) × ((n : ℕ) → settled_tail journals ino n ≡ c))
tails_noted [] ino = inl (λ n. refl)
tails_noted (tails ∷ journals) ino = go (tail_noted tails ino) (tails_noted journals ino) where
  go : (o : Option ℕ) → ((n : ℕ) → settled_tail journals ino n ≡ n) ⊎ ((c : ℕ) × ((n : ℕ) → settled_tail journals ino n ≡ c))
      → ((n : ℕ) → noted_or o (settled_tail journals ino n) ≡ n) ⊎ ((c : ℕ) × ((n : ℕ) → noted_or o (settled_tail journals ino n) ≡ c))
  go (Some tail) more = inr (tail, λ n. refl)
  go None more = more

-- where all of a log is settled, all of one is that has no more entries
still_all : (journals : List (List OldTail)) (ino old_tail new_tail : ℕ) (old new : List Entry)
    → old ≡ take (settled_tail journals ino old_tail) old → old_tail ≡ length old → new_tail ≡ length new → length new ≤ length old
    → take (settled_tail journals ino new_tail) new ≡ new
still_all journals ino old_tail new_tail old new was at now few = go (tails_noted journals ino) where
  go : ((n : ℕ) → settled_tail journals ino n ≡ n) ⊎ ((c : ℕ) × ((n : ℕ) → settled_tail journals ino n ≡ c))
      → take (settled_tail journals ino new_tail) new ≡ new
  go (inl own) = take_all (settled_tail journals ino new_tail) new (let is = own new_tail in omega (arith, is, now))
  go (inr noted) = take_all (settled_tail journals ino new_tail) new
      (let one = noted.1 new_tail in
      let other = noted.1 old_tail in
      let long = ap (λ (l : List Entry). length l) was in
      let cut = length-take (settled_tail journals ino old_tail) old in
      omega (arith, one, other, long, cut, few))

module _ (k : Next) (block a : ℕ) (s : Shared) (h : HandState) (r : Running) (b : Before a s k r) (plain : adds k ≡ false)
    (none : notes k ≡ false) where
  abbrev t : Shared
  t = (work k block a s h r).shared

  cleaned_whole : is_clean k ≡ true → IsAllSettled s (clean_slot k) → IsWhole s (clean_slot k) (clean_cell k s h)
  cleaned_whole is was =
      let old = (cell_at s (clean_slot k)).chain.entries in
      let new = (clean_cell k s h).chain.entries in
      let c = is_cleaned k s h is in
      let few = ap (λ (l : List Entry). length l) c.entries in (
        sym (still_all s.book.journals (clean_slot k) _ _ old new was.entries was.tail (c.tail was.tail)
            (omega (arith, few, length-left_of c.flags old))),
        c.tail was.tail,
      )

  whole : (ino : ℕ) → IsAllSettled s ino → IsWhole s ino (cell_at t ino)
  whole =
      cells_after (λ (ino : ℕ) (c : CellState). IsAllSettled s ino → IsWhole s ino c) block a s h r (λ ino was. (was.entries, was.tail))
      k b
      (no_more (λ (ino : ℕ) (c : CellState). IsAllSettled s ino → IsWhole s ino c) k s h r plain (λ is low left was.
      let x = removal k s h r in
      by_erased (IsWhole s x.slot) x.cell
      (subst (λ (c : ChainState). (c.entries ≡ take (settled_tail s.book.journals x.slot c.tail) c.entries) × (c.tail ≡ length c.entries))
      (sym left.keeps.chain) (was.entries, was.tail))
      (sym (take_none (settled_tail s.book.journals x.slot 0)), refl))
      (λ is low was. cleaned_whole is was))

  journals : t.book.journals ≡ s.book.journals
  journals = journals_stay k block a s h r none

  pub quiet_work : IsQuiet a s t
  quiet_work = record {
    cells = λ ino out. (work_framed k block a s h r).cells ino (λ is. out (lent_inside_own k a s r b ino is).1);
    journals = journals;
    settled = λ ino was.
        let is = whole ino was in record {
          entries = is.0 ∙ ap (λ (j : List (List OldTail)). take (settled_tail j ino (cell_at t ino).chain.tail)
              (cell_at t ino).chain.entries) (sym journals);
          tail = is.1;
        };
  }

all_quiet : (a : ℕ) (s : Shared) (t : Turn) → AfterTurn (λ (t : Shared) (h : HandState). IsQuiet a s t × (is_owner a t.holder ≡ false)) t
    → AllQuiet a s t
all_quiet a s (Moves t h q) after = after
all_quiet a s Waits after = tt
all_quiet a s (Ends result t h) after = after

pub quiet_kind : (k : Next) (block a : ℕ) (granted : Bool) (s : Shared) (h : HandState) (r : Running) → Before a s k r → adds k ≡ false
    → notes k ≡ false → locks k ≡ false → is_owner a s.holder ≡ false → AllFree s
    → ((ino : ℕ) → owner_at s ino ≡ Some a → IsAllSettled s ino) → OnGrown a s (kind_turn k block a granted s h r)
quiet_kind k block a granted s h r b plain none kept out free mine =
    quiet_grown a s _ _ free mine (all_quiet a s (kind_turn k block a granted s h r)
    (turn_keeps (λ (t : Shared) (h : HandState). IsQuiet a s t × (is_owner a t.holder ≡ false)) k block a granted s h r
    (still_quiet a s s (record { cells = λ ino. refl; journals = refl; cpus = refl }), out)
    (quiet_work k block a s h r b plain none, ap (is_owner a) (holder_stays k block a s h r kept) ∙ out)))
    (locks_kept k block a granted s h r b)
