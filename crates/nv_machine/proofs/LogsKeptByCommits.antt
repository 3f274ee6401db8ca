-- The steps of a commit keep settled logs, and all but its commit point keep every settled node.
use Rattle.std.proofs.Common.{Bool, List, None, Option, Some, [], add-one, ap, arith, cond, drop, drop-cons, false, get_or-set_other, get_or-set_same, if◌then◌else◌, inl, inr, length, length-set, mod-lt, nat_lt, refl, set, subst, suc, sym, take, true, zero, ℕ, ◌%◌, ◌++◌, ◌+◌, ◌<◌, ◌==◌, ◌||◌, ◌∙◌, ◌∷◌, ◌≡◌, ◌≢◌, ◌≤◌}
use Rattle.std.specs.List.{AllByRecursion}
use Rattle.std.proofs.lemmas.Bool.{eq-eqb, eqb-true, false≢true, ltb-false, ltb-true, true≢false}
use Rattle.nv_alloc.specs.Block.{BlockValue, numbers_of}
use Rattle.nv_alloc.specs.Numbers.{IsRising, has}
use Rattle.nv_book.specs.Book.{with_journal}
use Rattle.nv_calls.proofs.Commits.{entries-items}
use Rattle.nv_calls.specs.Plain.{PlainNode}
use Rattle.nv_calls.specs.Retiring.{erased}
use Rattle.nv_calls.specs.Slots.{items_for, place_in}
use Rattle.nv_cell.specs.Append.{IsWithinFile}
use Rattle.nv_cell.specs.Cell.{CellState, empty_cell, killed_by, log_of, published}
use Rattle.nv_cell.specs.declared.killed.KilledPart.{KilledPart}
use Rattle.nv_entry.specs.Log.{IsLog}
use Rattle.nv_entry.specs.declared.item.Entry.{Entry}
use Rattle.nv_entry.specs.declared.item.Item.{Item}
use Rattle.nv_epoch.specs.SnapList.{ids}
use Rattle.nv_entry.proofs.SoundLogs.{empty_sound}
use Rattle.nv_journal.specs.Journal.{settled_tail}
use Rattle.nv_machine.specs.Effects.{IsSoundIn}
use Rattle.nv_machine.specs.Kept.{AreApart, AreClosed, AreCovered, AreKilledIn, AreLogsKept, HasNoted, HasPages, IsNotedIf, IsPlanFor, Knows}
use Rattle.nv_machine.specs.Kinds.{append_turn, close_turn, entries_for, first_killed, old_tails, open_turn, publish_turn, retire_turn, retired_book, retired_cell, with_entries, with_log_pages}
use Rattle.nv_machine.specs.Locks.{AreSlots, is_owner}
use Rattle.nv_machine.specs.Reads.{bytes_among, is_written, slot_at, written_slots}
use Rattle.nv_machine.specs.Sequence.{appending, closing, opening, publishing, retiring}
use Rattle.nv_machine.specs.Settled.{node_by, settled}
use Rattle.nv_machine.specs.World.{Answers, Append, Close, Ends, HandState, Leave, Moves, Next, Open, Publish, Retire, Running, Shared, Turn, Waits, cell_at, go_to, no_cell, with_book, with_cell}
use Rattle.nv_machine.proofs.LoopSteps.{by_test, either}
use Rattle.nv_machine.proofs.CellPages.{later_pages}
use Rattle.nv_machine.proofs.CellSteps.{Grows, HaveFront, Retires, append_grows, empty_pages, erased_none, items_in, killed_covered, retired_is, retired_node, retired_pages, retired_sound}
use Rattle.nv_machine.proofs.Journals.{closed_again, closed_tail, open_free, open_same, open_stays}
use Rattle.nv_machine.proofs.Lists.{drop_apart, rising_filter, take_all, take_apart, take_more, written_inside}
use Rattle.nv_machine.proofs.WrittenSlots.{front_of, many_planned, within_of, written_there}
use Rattle.nv_machine.proofs.LogsKept.{IsSameOrEmpty, KeptLeft, SameLogs, cell_left, cell_nodes, cell_set, node_at, still_shaped}
use Rattle.nv_cell.specs.Readers.{is_erased}
use Rattle.nv_cell.specs.Shape.{IsLeftShaped}

-- what a turn owes: settled logs are kept, nodes stay but at a commit point, and the call knows what it is to know
abbrev pub OnKept : Bool → ℕ → ℕ → Shared → Turn → Type 0
OnKept same block a s (Moves t h q) = KeptLeft a s t × (same ≡ true → SameLogs s t) × Knows q.next block t (a % length s.lists) h q
OnKept same block a s Waits = Unit {0}
OnKept same block a s (Ends result t h) = KeptLeft a s t × (same ≡ true → SameLogs s t)

-- ---- what publishes have killed

pub same_killed : (s t : Shared) (slots : List ℕ) (killed : List (List KilledPart))
    → ((ino : ℕ) → has slots ino ≡ true → cell_at t ino ≡ cell_at s ino) → AreKilledIn s slots killed → AreKilledIn t slots killed
same_killed s t [] [] same h = tt
same_killed s t [] (parts ∷ rest) same h = h
same_killed s t (slot ∷ slots) [] same h = h
same_killed s t (slot ∷ slots) (parts ∷ rest) same h = (
  subst (λ (c : CellState). AreCovered c parts) (sym (same slot (first (slot == slot) (self slot)))) h.0,
  same_killed s t slots rest (λ ino there. same ino (later (slot == ino) (has slots ino) there)) h.1,
) where
  self : (n : ℕ) → (n == n) ≡ true
  self n = eq-eqb n n refl

  first : (b : Bool) → b ≡ true → (b || has slots slot) ≡ true
  first true e = refl
  first false e = cc

  later : (b c : Bool) → c ≡ true → (b || c) ≡ true
  later true c e = refl
  later false c e = e

one_more_killed : (s : Shared) (slots : List ℕ) (slot : ℕ) (killed : List (List KilledPart)) (parts : List KilledPart)
    → AreKilledIn s slots killed → AreCovered (cell_at s slot) parts → AreKilledIn s (slots ++ slot ∷ []) (killed ++ parts ∷ [])
one_more_killed s [] slot [] parts h new = (new, tt)
one_more_killed s [] slot (other ∷ rest) parts h new = absurd h
one_more_killed s (ino ∷ slots) slot [] parts h new = absurd h
one_more_killed s (ino ∷ slots) slot (other ∷ rest) parts h new = (h.0, one_more_killed s slots slot rest parts h.1 new)

none_killed : (s : Shared) (killed : List (List KilledPart)) → killed ≡ [] → AreKilledIn s [] killed
none_killed s killed e = subst (AreKilledIn s []) (sym e) tt

-- ---- loops

module _ (block : ℕ) (t : Shared) (cpu : ℕ) (h : HandState) (r : Running) (answers : r.ending ≡ Answers) where
  abbrev Next_ : Next → Type 0
  Next_ next = Knows next block t cpu h (go_to next r)

  abbrev written : List ℕ
  written = written_slots r

  pub knows_retiring : (place : ℕ) → AreKilledIn t (drop place written) h.killed → AreClosed t.book.journals
      → Next_ (retiring place written)
  knows_retiring place killed closed =
      either Next_ (nat_lt place (length written)) (Retire place) Leave (killed, answers, closed) (answers, closed)

  pub knows_closing : AreKilledIn t written h.killed → IsNotedIf (nat_lt 1 (length written)) t cpu written → Next_ (closing written)
  knows_closing killed noted = go (nat_lt 1 (length written)) noted where
    go : (b : Bool) → IsNotedIf b t cpu written → Next_ (if b then Close else retiring 0 written)
    go true n = (killed, answers, n)
    go false n = knows_retiring 0 killed n

  pub knows_publishing : (place : ℕ) → AreKilledIn t (take place written) h.killed → IsNotedIf (nat_lt 1 (length written)) t cpu written
      → Next_ (publishing place written)
  knows_publishing place killed noted =
      by_test Next_ (nat_lt place (length written)) (Publish place) (closing written) (λ e. (killed, answers, noted))
      (λ e. knows_closing (subst (λ (l : List ℕ). AreKilledIn t l h.killed)
      (take_all place written (ltb-false place (length written) e)) killed) noted)

  pub knows_opening : h.killed ≡ [] → AreClosed t.book.journals → Next_ (opening written)
  knows_opening killed closed =
      by_test Next_ (nat_lt 1 (length written)) Open (publishing 0 written) (λ e. (killed, answers, closed, e))
      (λ e. knows_publishing 0 (none_killed t h.killed killed) (subst (λ (b : Bool). IsNotedIf b t cpu written) (sym e) closed))

  pub knows_appending : (place : ℕ) → h.killed ≡ [] → AreClosed t.book.journals
      → (place < length written → (numbers : List ℕ) → (place ≡ 0 → numbers ≡ numbers_of h.blocks) → IsPlanFor r.plan numbers)
      → Next_ (appending place written)
  knows_appending place killed closed plan =
      by_test Next_ (nat_lt place (length written)) (Append place) (opening written)
      (λ e. (killed, answers, closed, plan (ltb-true place (length written) e))) (λ e. knows_opening killed closed)

-- ---- the kinds

module _ (block a : ℕ) (s : Shared) (h : HandState) (r : Running) (kept : AreLogsKept s) (are : AreSlots (length s.cells) r.slots)
    (holder : s.holder ≡ Some a) where
  abbrev cpu : ℕ
  cpu = a % length s.lists

  abbrev written_ : List ℕ
  written_ = written_slots r

  own : is_owner a s.holder ≡ true
  own = rw holder (eq-eqb a a refl)

  held : s.holder ≢ None
  held e = let z : Some a ≡ None = sym holder ∙ e in cc

  rising : IsRising written_
  rising = rising_filter (is_written r.plan) r.slots are.rising

  -- an actor that commits is alone
  alone : (b : ℕ) → b ≢ a → is_owner b s.holder ≡ true → ⊥
  alone b ne e = ne (sym (eqb-true a b (rw holder at e)))

  -- the settled log of a slot where no journal is open
  closed_log : (ino : ℕ) → AreClosed s.book.journals → settled s ino ≡ log_of (cell_at s ino)
  closed_log ino closed = ap (λ (n : ℕ). take n (cell_at s ino).chain.entries)
      (closed_tail s.book.journals ino (cell_at s ino).chain.tail closed)

  module _ (place : ℕ) (inside : place < length written_) where
    abbrev slot : ℕ
    slot = slot_at written_ place

    abbrev cell : CellState
    cell = cell_at s slot

    low : slot < length s.cells
    low = written_inside (length s.cells) r place are inside

    pub append_kept : (pages : ℕ) → Knows (Append place) block s cpu h r → OnKept true block a s (append_turn slot pages place s h r)
    append_kept pages k = (
      cell_left a s kept slot new s.book low refl own held (subst (λ (l : List Entry). HasPages l new) (sym log) g.pages),
      (λ e. cell_nodes a s kept slot new s.book low refl
          (λ generation. rw (log, g.generation) (ap (λ (n : _). cond (generation == cell.generation) n None) g.node))
          (λ size. still_shaped size _ _ (inl log)) (λ x. subst (IsSoundIn new) (sym log) (g.sound x))),
      knows_appending block _ cpu _ r k.1 (place + 1) k.0 k.2
          (λ lt numbers at. let p = k.3 (numbers_of h.blocks) (λ e. refl) in
          record {
            within = p.within;
            blocks = inr (p.several
                (many_planned r.plan r.slots are.rising (omega (arith, lt))));
            several = p.several;
          }),
    ) where
      t : ℕ
      t = settled_tail s.book.journals slot cell.chain.tail

      new : CellState
      new = with_entries (entries_for r slot) h.blocks (with_log_pages (take pages h.pages) cell)

      plan : IsPlanFor r.plan (numbers_of h.blocks)
      plan = k.3 (numbers_of h.blocks) (λ e. refl)

      items : items_in (entries_for r slot) ≡ items_for r.plan slot
      items = entries-items r.commit r.epoch (place_in r.plan slot) (items_for r.plan slot)

      g : Grows t cell new
      g = append_grows t (entries_for r slot) h.blocks (take pages h.pages) cell
          (omega (arith, closed_tail s.book.journals slot cell.chain.tail k.2, (kept.pages slot).within))
          (subst (AllByRecursion IsWithinFile) (sym items) (within_of r.plan slot plan.within))
          (subst (λ (l : List Item). HaveFront l (numbers_of h.blocks)) (sym items) (front_of r.plan (numbers_of h.blocks) slot plan))
          (kept.pages slot)

      log : take (settled_tail s.book.journals slot new.chain.tail) new.chain.entries ≡ settled s slot
      log = ap (λ (n : ℕ). take (settled_tail s.book.journals slot n) new.chain.entries) g.tail ∙ g.log

    -- the log that a publish makes settled, where no journal is open
    settles_all : AreClosed s.book.journals → take (settled_tail s.book.journals slot (published cell).chain.tail)
        (published cell).chain.entries
        ≡ take (length cell.chain.entries) cell.chain.entries
    settles_all closed = ap (λ (n : ℕ). take n cell.chain.entries) (closed_tail s.book.journals slot (length cell.chain.entries) closed)

    abbrev after : Shared
    after = with_cell slot (published cell) s

    -- what publishes have killed, one more of them
    publish_killed : (h.killed ≡ h.killed) → IsLog cell.chain.entries → AreKilledIn s (take place written_) h.killed
        → AreKilledIn after (take (place + 1) written_) (h.killed ++ killed_by cell ∷ [])
    publish_killed e is killed = subst (λ (l : List ℕ). AreKilledIn after l (h.killed ++ killed_by cell ∷ []))
        (sym (ap (λ (n : ℕ). take n written_) (add-one place) ∙ take_more place written_ inside))
        (one_more_killed after (take place written_) slot h.killed (killed_by cell)
        (same_killed s after (take place written_) h.killed
        (λ ino there. get_or-set_other s.cells slot ino (published cell) no_cell
        (λ e. absurd (true≢false (sym there ∙ ap (has (take place written_)) e ∙ take_apart place written_ rising inside)))) killed)
        (subst (λ (c : CellState). AreCovered c (killed_by cell)) (sym (get_or-set_same s.cells slot (published cell) no_cell low))
        (killed_covered cell is)))

    pub publish_kept : IsLog cell.chain.entries → (several : Bool) → nat_lt 1 (length written_) ≡ several
        → Knows (Publish place) block s cpu h r → OnKept several block a s (publish_turn slot place s h r)
    publish_kept is true several k = (
      cell_left a s kept slot (published cell) s.book low refl own held
          (subst (λ (l : List Entry). HasPages l (published cell)) (sym log) pages),
      (λ e. cell_nodes a s kept slot (published cell) s.book low refl (λ generation. rw log refl)
          (λ size. still_shaped size _ _ (inl log)) (λ x. subst (IsSoundIn (published cell)) (sym log) x)),
      knows_publishing block after cpu _ r k.1 (place + 1) (publish_killed refl is k.0)
          (subst (λ (b : Bool). IsNotedIf b after cpu written_) (sym several) (record {
            alone = noted.alone;
            noted = noted.noted;
            free = noted.free;
            older = λ ino. cell_set s slot (published cell) ino
                (λ (c : CellState). settled_tail s.book.journals ino c.chain.tail ≤ c.chain.tail) low
                (λ e. subst (λ (n : ℕ). settled_tail s.book.journals n (length cell.chain.entries) ≤ length cell.chain.entries) e
                (omega (arith, stays, noted.older slot, (kept.pages slot).within)))
                (λ e. noted.older ino);
          })),
    ) where
      noted : HasNoted s cpu written_
      noted = subst (λ (b : Bool). IsNotedIf b s cpu written_) several k.2

      stays : settled_tail s.book.journals slot (length cell.chain.entries) ≡ settled_tail s.book.journals slot cell.chain.tail
      stays = noted.noted slot (length cell.chain.entries) cell.chain.tail (written_there r place inside)

      log : take (settled_tail s.book.journals slot (length cell.chain.entries)) cell.chain.entries ≡ settled s slot
      log = ap (λ (n : ℕ). take n cell.chain.entries) stays

      pages : HasPages (settled s slot) (published cell)
      pages = record { pages = (kept.pages slot).pages; len = (kept.pages slot).len; within = omega arith }
    publish_kept is false several k = (
      cell_left a s kept slot (published cell) s.book low refl own held
          (subst (λ (l : List Entry). HasPages l (published cell)) (sym (settles_all closed))
          (record { pages = pages.pages; len = pages.len; within = omega arith })),
      (λ e. absurd (false≢true e)),
      knows_publishing block after cpu _ r k.1 (place + 1) (publish_killed refl is k.0)
          (subst (λ (b : Bool). IsNotedIf b after cpu written_) (sym several) closed),
    ) where
      closed : AreClosed s.book.journals
      closed = subst (λ (b : Bool). IsNotedIf b s cpu written_) several k.2

      pages : HasPages (take (length cell.chain.entries) cell.chain.entries) cell
      pages = later_pages cell (settled_tail s.book.journals slot cell.chain.tail) (length cell.chain.entries)
          (omega (arith, closed_tail s.book.journals slot cell.chain.tail closed, (kept.pages slot).within)) (kept.pages slot)

    -- ---- retire

    abbrev parts : List KilledPart
    parts = first_killed h.killed

    abbrev retired_ : CellState
    retired_ = retired_cell slot parts s r

    abbrev by : Bool → CellState
    by b = if b then empty_cell retired_.block retired_.chain.page (retired_.generation + 1) retired_.version else retired_

    abbrev retired_after : Shared
    retired_after = with_cell slot (erased retired_) (with_book (retired_book slot parts s r) s)

    here_killed : (slots : List ℕ) (killed : List (List KilledPart)) → AreKilledIn s (slot ∷ slots) killed
        → AreCovered cell (first_killed killed) × AreKilledIn s slots (drop 1 killed)
    here_killed slots [] k = absurd k
    here_killed slots (first ∷ rest) k = k

    hand_killed : (erases : Bool) (g : HandState) (chain : List BlockValue) (ino : Option ℕ)
        → (if erases then (let x : HandState = record g { chain = chain; ino = ino } in x) else g).killed ≡ g.killed
    hand_killed true g chain ino = refl
    hand_killed false g chain ino = refl

    take_none : (n : ℕ) → take {A = Entry} n [] ≡ []
    take_none zero = refl
    take_none (suc n) = refl

    pub retire_kept : AreApart cell.blocks → Knows (Retire place) block s cpu h r
        → OnKept true block a s (retire_turn slot parts place s h r)
    retire_kept apart k = (
      cell_left a s kept slot (erased retired_) (retired_book slot parts s r) low refl own held (pages (is_erased retired_)),
      (λ e. cell_nodes a s kept slot (erased retired_) (retired_book slot parts s r) low refl
          (λ generation. nodes generation (is_erased retired_) refl) (λ size. still_shaped size _ _ (logs (is_erased retired_)))
          (sounds (is_erased retired_))),
      knows_retiring block retired_after cpu _ r k.1 (place + 1)
          (subst (AreKilledIn retired_after (drop (place + 1) written_)) (sym (hand_killed (is_erased retired_) _ _ _))
          (same_killed s retired_after (drop (place + 1) written_) (drop 1 h.killed)
          (λ ino there. get_or-set_other s.cells slot ino (erased retired_) no_cell
          (λ e. absurd (true≢false (sym there ∙ ap (has (drop (place + 1) written_)) e
          ∙ drop_apart place written_ rising inside)))) killed.1)) k.2,
    ) where
      killed : AreCovered cell parts × AreKilledIn s (drop (place + 1) written_) (drop 1 h.killed)
      killed = here_killed (drop (place + 1) written_) h.killed
          (subst (λ (l : List ℕ). AreKilledIn s l h.killed)
          (drop-cons written_ place 0 inside ∙ ap (λ (n : ℕ). slot ∷ drop n written_) (sym (add-one place))) k.0)

      is : Retires cell retired_
      is = retired_is (ids s.book.snaps) slot r.epoch parts cell killed.0

      log : settled s slot ≡ log_of cell
      log = closed_log slot k.2

      had : HasPages (log_of cell) cell
      had = subst (λ (l : List Entry). HasPages l cell) log (kept.pages slot)

      same_log : take (settled_tail s.book.journals slot retired_.chain.tail) retired_.chain.entries ≡ log_of cell
      same_log = ap (λ (n : ℕ). take n retired_.chain.entries) (closed_tail s.book.journals slot retired_.chain.tail k.2)
          ∙ ap (λ (c : _). take c.tail c.entries) is.chain

      pages : (b : Bool) → HasPages (take (settled_tail s.book.journals slot (by b).chain.tail) (by b).chain.entries) (by b)
      pages true = empty_pages _ _ _ _ _
      pages false = subst (λ (l : List Entry). HasPages l retired_) (sym same_log) (retired_pages cell retired_ is had)

      sounds : (b : Bool) → IsSoundIn cell (settled s slot)
          → IsSoundIn (by b) (take (settled_tail s.book.journals slot (by b).chain.tail) (by b).chain.entries)
      sounds true x = subst (IsSoundIn (by true)) (sym (take_none _)) (empty_sound (bytes_among (by true).blocks) (by true).block)
      sounds false x = subst (IsSoundIn retired_) (sym same_log) (retired_sound cell retired_ is apart had (subst (IsSoundIn cell) log x))

      logs : (b : Bool)
          → IsSameOrEmpty (take (settled_tail s.book.journals slot (by b).chain.tail) (by b).chain.entries) (settled s slot)
      logs true = inr (take_none _)
      logs false = inl (same_log ∙ sym log)

      node : node_by retired_ (log_of cell) ≡ node_by cell (log_of cell)
      node = retired_node cell retired_ is apart had

      none : is_erased retired_ ≡ true → node_by cell (log_of cell) ≡ None
      none e = sym node ∙ ap (node_by retired_) (sym (ap (λ (c : _). take c.tail c.entries) is.chain)) ∙ erased_none retired_ e

      either : (b c : Bool) {x y : Option PlainNode} → x ≡ None → y ≡ None → cond b x None ≡ cond c y None
      either true true e f = e ∙ sym f
      either true false e f = e
      either false true e f = sym f
      either false false e f = refl

      nodes : (generation : ℕ) (b : Bool) → is_erased retired_ ≡ b
          → node_at (by b) (take (settled_tail s.book.journals slot (by b).chain.tail) (by b).chain.entries) generation
          ≡ node_at cell (settled s slot) generation
      nodes generation true e =
          either (generation == (retired_.generation + 1)) (generation == cell.generation) (ap (node_by (by true)) (take_none _))
          (ap (node_by cell) log ∙ none e)
      nodes generation false e = rw (same_log, is.generation, log) (ap (λ (n : _). cond (generation == cell.generation) n None) node)

  -- ---- open and close

  inside_cpu : cpu < length s.book.journals
  inside_cpu = omega (arith, kept.wide, mod-lt a kept.some)

  pub open_kept : Knows Open block s cpu h r → OnKept true block a s (open_turn cpu s h r)
  open_kept k = (
    record {
      logs = record {
        pages = λ ino. subst (λ (l : List Entry). HasPages l (cell_at s ino)) (sym (same ino)) (kept.pages ino);
        closed = λ e. absurd (held e);
        wide = length-set s.book.journals cpu (old_tails s written_) ∙ kept.wide;
        some = kept.some;
      };
      others = λ b ne e. absurd (alone b ne e);
      cpus = refl;
    },
    (λ e. record {
      nodes = λ ino generation. ap (λ (l : List Entry). node_at (cell_at s ino) l generation) (same ino);
      shaped = λ size are ino. subst (IsLeftShaped size) (sym (same ino)) (are ino);
      sound = λ sound ino. subst (IsSoundIn (cell_at s ino)) (sym (same ino)) (sound ino);
    }),
    knows_publishing block t cpu h r k.1 0 (none_killed t h.killed k.0)
        (subst (λ (b : Bool). IsNotedIf b t cpu written_) (sym k.3) (record {
          alone = closed_again s.book.journals cpu (old_tails s written_) k.2;
          noted = open_stays s cpu written_ k.2 inside_cpu;
          free = open_free s cpu written_ k.2 inside_cpu;
          older = λ ino. omega (arith, open_same s cpu written_ k.2 inside_cpu ino);
        })),
  ) where
    t : Shared
    t = with_book (with_journal cpu (old_tails s written_) s.book) s

    same : (ino : ℕ) → settled t ino ≡ settled s ino
    same ino = ap (λ (n : ℕ). take n (cell_at s ino).chain.entries) (open_same s cpu written_ k.2 inside_cpu ino) ∙ sym (closed_log ino k.2)

  pub close_kept : Knows Close block s cpu h r → OnKept false block a s (close_turn cpu s h r)
  close_kept k = (
    record {
      logs = record {
        pages = λ ino. subst (λ (l : List Entry). HasPages l (cell_at s ino))
            (sym (ap (λ (n : ℕ). take n (cell_at s ino).chain.entries)
            (closed_tail (set s.book.journals cpu []) ino (cell_at s ino).chain.tail k.2.alone)))
            (later_pages (cell_at s ino) (settled_tail s.book.journals ino (cell_at s ino).chain.tail) (cell_at s ino).chain.tail
            (k.2.older ino) (kept.pages ino));
        closed = λ e. absurd (held e);
        wide = length-set s.book.journals cpu [] ∙ kept.wide;
        some = kept.some;
      };
      others = λ b ne e. absurd (alone b ne e);
      cpus = refl;
    },
    (λ e. absurd (false≢true e)),
    knows_retiring block (with_book (with_journal cpu [] s.book) s) cpu _ r k.1 0
        (same_killed s (with_book (with_journal cpu [] s.book) s) written_ h.killed (λ ino there. refl) k.0) k.2.alone,
  )
