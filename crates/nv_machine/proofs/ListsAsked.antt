-- A taking that falls short has asked every list, and each gave all that it had.
use Rattle.nv_book.specs.declared.record.Record.{Record}
use Rattle.std.proofs.Common.{Bool, List, None, Option, Some, [], add-one, ap, arith, drop, false, get_or-set_same, if◌then◌else◌, length, length-append, mod-lt, nat_lt, refl, subst, suc, sym, take, true, zero, ℕ, ◌++◌, ◌+◌, ◌-◌, ◌<◌, ◌==◌, ◌∙◌, ◌∷◌, ◌≡◌, ◌≤◌}
use Rattle.std.specs.List.{sum_by}
use Rattle.std.proofs.lemmas.Bool.{eqb-true, ltb-false, ltb-true, false≢true}
use Rattle.std.proofs.lemmas.List.{length-drop, length-take}
use Rattle.std.proofs.lemmas.List.Sums.{sum_by-cons}
use Rattle.nv_alloc.specs.Block.{BlockValue}
use Rattle.nv_alloc.specs.FreeList.{FreeBlocks}
use Rattle.nv_base.specs.declared.fault.Fault.TheVariants.{NoSpace}
use Rattle.nv_base.specs.declared.geometry.GeometryNumbers.{GeometryNumbers}
use Rattle.nv_calls.specs.declared.call.Call.{Call}
use Rattle.nv_machine.specs.Causes.{RefusesFor}
use Rattle.nv_machine.specs.Hands.{HandOf, is_going}
use Rattle.nv_machine.specs.Kinds.{asked_list, blocks_in, blocks_turn, end_turn, less_list, pages_turn, rest_turn, wants_pages}
use Rattle.nv_machine.specs.PlainRun.{actor_of}
use Rattle.nv_machine.specs.Reads.{home_from, slots_of}
use Rattle.nv_machine.specs.Sequence.{Beginning, Locks, beginning, begun, nothing_looked, Maintains}
use Rattle.nv_machine.specs.Starts.{IsStart}
use Rattle.nv_machine.specs.Step.{after, kind_turn, start_step, step, turn}
use Rattle.nv_machine.specs.Takings.{AreEmptied, Asked, IsEmptied, IsShortInAll, Taking, and_asked, asked_in, asking, asks_list, beginning_with, no_taking, taking_after, taking_by, taking_in, taking_of}
use Rattle.nv_machine.specs.World.{Actor, Answers, Check, Ends, Event, Go, HandState, Lock, Moves, Next, Ready, Refuses, Running, Shared, Start, TakeBlocks, TakeLogPages, Turn, Waits, World, actor_at, idle, list_at, no_list, SnapshotOrCleaner, Fresh, Compact, SnapshotOrCleanerStep}
use Rattle.nv_machine.proofs.EveryWorld.{all_numbers}
use Rattle.nv_machine.proofs.OverEvents.{OwnAfter, event_of, own_goes, turn_at}
use Rattle.nv_machine.proofs.RefusalCauses.{unrefused}
use Rattle.nv_machine.proofs.StepPhases.{IsFirst, OnFirst, end_plain, first, on_apart, on_first, pages_first}
use Rattle.nv_machine.proofs.Lists.{self}
use Rattle.nv_machine.specs.Cleaning.{fresh_turn}
use Rattle.nv_machine.proofs.FirstSteps.{first_by}

-- ---- what a taking knows

-- so many lists are asked, there is another, and what they had and what is wanted yet is what the taking wants
record IsAsking (cpus actor asked : ℕ) (taking : Taking) (wanted : ℕ) : Type 0 where
  inside : asked < cpus
  emptied : AreEmptied cpus actor asked taking.asked
  sum : sum_by (λ (one : Asked). one.had) taking.asked + wanted ≡ taking.wanted

abbrev Asks : Next → ℕ → ℕ → Taking → ℕ → Type 0
Asks (TakeBlocks asked) cpus actor taking wanted = IsAsking cpus actor asked taking wanted
Asks (TakeLogPages asked) cpus actor taking wanted = IsAsking cpus actor asked taking wanted
Asks (SnapshotOrCleaner (Fresh ino asked some)) cpus actor taking wanted = IsAsking cpus actor asked taking some
Asks other cpus actor taking wanted = Unit {0}

abbrev AsksOf : Option Running → ℕ → ℕ → Taking → Type 0
AsksOf None cpus actor taking = Unit {0}
AsksOf (Some r) cpus actor taking = Asks r.next cpus actor taking r.wanted

abbrev OnAsks : Next → ℕ → ℕ → Shared → HandState → Taking → Turn → Type 0
OnAsks k cpus actor s h taking (Moves t after q) =
    Asks q.next cpus actor (taking_by k actor s h (Moves t after q) taking) q.wanted
OnAsks k cpus actor s h taking Waits = Unit {0}
OnAsks k cpus actor s h taking (Ends result t after) = Unit {0}

-- ---- a taking begins

new_taking : (cpus actor asked wanted : ℕ) (taking : Taking) (b : Bool) → (asked == 0) ≡ b → b ≡ true → 0 < cpus
    → IsAsking cpus actor asked (if b then record { wanted = wanted; asked = [] } else taking) wanted
new_taking cpus actor zero wanted taking true e is some = record { inside = some; emptied = tt; sum = omega arith }
new_taking cpus actor (suc asked) wanted taking true e is some = absurd (let none = eqb-true (suc asked) 0 e in omega (arith, none))
new_taking cpus actor asked wanted taking false e is some = cc

first_asks : (next : Next) (cpus actor wanted : ℕ) (taking : Taking) → IsFirst next → 0 < cpus
    → Asks next cpus actor (beginning_with next wanted taking) wanted
first_asks (TakeBlocks asked) cpus actor wanted taking is some = new_taking cpus actor asked wanted taking (asked == 0) refl is some
first_asks (TakeLogPages asked) cpus actor wanted taking is some = new_taking cpus actor asked wanted taking (asked == 0) refl is some
first_asks (SnapshotOrCleaner (Fresh ino asked fresh)) cpus actor wanted taking is some =
    new_taking cpus actor asked fresh taking (asked == 0) refl is some
first_asks other cpus actor wanted taking is some = tt

first_turn : (k : Next) (cpus actor : ℕ) (s : Shared) (h : HandState) (taking : Taking) (t : Turn) → 0 < cpus → OnFirst t
    → OnAsks k cpus actor s h taking t
first_turn k cpus actor s h taking (Moves t after q) some is =
    first_asks q.next cpus actor q.wanted (asking k actor s h t after taking) is some
first_turn k cpus actor s h taking Waits some is = tt
first_turn k cpus actor s h taking (Ends result t after) some is = tt

-- ---- one list is asked

less_here : (s : Shared) (cpu n : ℕ) → cpu < length s.lists
    → length (list_at (less_list cpu n s) cpu).blocks ≡ length (list_at s cpu).blocks - n
less_here s cpu n lt =
    ap (λ (l : FreeBlocks). length l.blocks)
    (get_or-set_same s.lists cpu (record (list_at s cpu) { blocks = drop n (list_at s cpu).blocks }) no_list lt)
    ∙ length-drop n (list_at s cpu).blocks

more_blocks : (h : HandState) (more : List BlockValue)
    → length (blocks_in (record h { blocks = h.blocks ++ more })) ≡ length (blocks_in h) + length more
more_blocks h more = omega (
  arith,
  length-append ((h.blocks ++ more) ++ h.pages) h.chain,
  length-append (h.blocks ++ more) h.pages,
  length-append h.blocks more,
  length-append (h.blocks ++ h.pages) h.chain,
  length-append h.blocks h.pages,
)

more_pages : (h : HandState) (more : List BlockValue)
    → length (blocks_in (record h { pages = h.pages ++ more })) ≡ length (blocks_in h) + length more
more_pages h more = omega (
  arith,
  length-append (h.blocks ++ (h.pages ++ more)) h.chain,
  length-append h.blocks (h.pages ++ more),
  length-append h.pages more,
  length-append (h.blocks ++ h.pages) h.chain,
  length-append h.blocks h.pages,
)

abbrev blocks_had : List Asked → ℕ
blocks_had asked = sum_by (λ (one : Asked). one.had) asked

module _ (cpus actor asked : ℕ) (s : Shared) (h after : HandState) (wanted : ℕ) (taking : Taking) (many : length s.lists ≡ cpus)
    (asks : IsAsking cpus actor asked taking wanted)
    (grew : length (blocks_in after)
    ≡ length (blocks_in h) + length (take wanted (list_at s (asked_list (length s.lists) actor asked)).blocks)) where
  abbrev cpu : ℕ
  cpu = asked_list (length s.lists) actor asked

  abbrev here : List BlockValue
  here = (list_at s cpu).blocks

  abbrev more_asked : Taking
  more_asked = and_asked cpu s h (less_list cpu wanted s) after taking

  module _ (left : ℕ) (is : wanted - length here ≡ left) (some : 0 < left) where
    emptied : IsEmptied (asked_in cpu s h (less_list cpu wanted s) after)
    emptied = record {
      left =
          (let lt : cpu < length s.lists = mod-lt (actor + asked) (omega (arith, many, asks.inside)) in
          let less = less_here s cpu wanted lt in omega (arith, less, is, some));
      more = (let took = length-take wanted here in omega (arith, grew, took, is, some));
    }

    all_emptied : AreEmptied cpus actor (suc asked) more_asked.asked
    all_emptied = (ap (λ (n : ℕ). asked_list n actor asked) many, emptied, asks.emptied)

    all_had : blocks_had more_asked.asked + left ≡ taking.wanted
    all_had =
        let cons = sum_by-cons (λ (one : Asked). one.had) (asked_in cpu s h (less_list cpu wanted s) after) taking.asked in
        omega (arith, cons, asks.sum, is, some)

    -- and another is asked
    kept_asking : (n : ℕ) (b : Bool) → (n == 0) ≡ b → 0 < n → n < cpus → AreEmptied cpus actor n more_asked.asked
        → IsAsking cpus actor n (if b then record { wanted = left; asked = [] } else more_asked) left
    kept_asking n true e low lt all = absurd (let none = eqb-true n 0 e in omega (arith, none, low))
    kept_asking n false e low lt all = record { inside = lt; emptied = all; sum = all_had }

    asks_next : asked + 1 < cpus
        → IsAsking cpus actor (asked + 1) (if asked + 1 == 0 then record { wanted = left; asked = [] } else more_asked) left
    asks_next lt = kept_asking (asked + 1) (asked + 1 == 0) refl (omega arith) lt
        (subst (λ (n : ℕ). AreEmptied cpus actor n more_asked.asked) (sym (add-one asked)) all_emptied)

    -- or it was the last
    is_short : cpus ≤ asked + 1 → IsShortInAll cpus actor more_asked NoSpace
    is_short past =
        let last : suc asked ≡ cpus = (let inside = asks.inside in omega (arith, inside, past)) in
        record {
          is = refl;
          all = subst (λ (n : ℕ). AreEmptied cpus actor n more_asked.asked) last all_emptied;
          short = (let all = all_had in omega (arith, all, some));
        }

-- ---- a step of a taking

module _ (cpus actor asked wanted block : ℕ) (s : Shared) (h : HandState) (r : Running) (taking : Taking)
    (many : length s.lists ≡ cpus)
    (asks : IsAsking cpus actor asked taking wanted) where
  abbrev asked_cpu : ℕ
  asked_cpu = asked_list (length s.lists) actor asked

  abbrev t : Shared
  t = less_list asked_cpu wanted s

  abbrev with_blocks : HandState
  with_blocks = record h { blocks = h.blocks ++ take wanted (list_at s asked_cpu).blocks }

  abbrev with_log_pages : HandState
  with_log_pages = record h { pages = h.pages ++ take wanted (list_at s asked_cpu).blocks }

  some_cpus : 0 < cpus
  some_cpus = let inside = asks.inside in omega (arith, inside)

  blocks_asks : (left : ℕ) (more : Bool) → wanted - length (list_at s asked_cpu).blocks ≡ left
      → nat_lt (asked + 1) (length s.lists) ≡ more
      → OnAsks (TakeBlocks asked) cpus actor s h taking (blocks_turn left more asked block t with_blocks r)
  blocks_asks zero more is lt = first_turn (TakeBlocks asked) cpus actor s h taking _ some_cpus (pages_first _ t with_blocks r)
  blocks_asks (suc n) true is lt =
      asks_next cpus actor asked s h with_blocks wanted taking many asks (more_blocks h _) (suc n) is (omega arith)
      (let below = ltb-true (asked + 1) (length s.lists) lt in omega (arith, below, many))
  blocks_asks (suc n) false is lt = first_turn (TakeBlocks asked) cpus actor s h taking _ some_cpus
      (on_first _ (on_apart _ (end_plain r.slots (Refuses NoSpace) t with_blocks r)))

  pages_asks : (left : ℕ) (more : Bool) → wanted - length (list_at s asked_cpu).blocks ≡ left
      → nat_lt (asked + 1) (length s.lists) ≡ more
      → OnAsks (TakeLogPages asked) cpus actor s h taking (pages_turn left more asked t with_log_pages r)
  pages_asks zero more is lt = tt
  pages_asks (suc n) true is lt =
      asks_next cpus actor asked s h with_log_pages wanted taking many asks (more_pages h _) (suc n) is (omega arith)
      (let below = ltb-true (asked + 1) (length s.lists) lt in omega (arith, below, many))
  pages_asks (suc n) false is lt = first_turn (TakeLogPages asked) cpus actor s h taking _ some_cpus
      (on_first _ (on_apart _ (end_plain r.slots (Refuses NoSpace) t with_log_pages r)))

  abbrev Shorts : Next → Turn → Type 0
  Shorts k turn = RefusesFor (IsShortInAll cpus actor (taking_by k actor s h turn taking)) ⊥ turn

  rest_short : (k : Next) (home number : Option ℕ) (h2 : HandState) → IsShortInAll cpus actor (asking k actor s h t h2 taking) NoSpace
      → Shorts k (rest_turn home number t h2 (record r { ending = Refuses NoSpace }))
  rest_short k (Some to) number h2 p = (p, tt)
  rest_short k None (Some ino) h2 p = (p, tt)
  rest_short k None None h2 p = p

  end_short : (k : Next) (slots : List ℕ) (h2 : HandState) → IsShortInAll cpus actor (asking k actor s h t h2 taking) NoSpace
      → Shorts k (end_turn slots (Refuses NoSpace) t h2 r)
  end_short k [] h2 p = rest_short k (home_from 0 0 t.lists (blocks_in h2)) h2.ino h2 p
  end_short k (slot ∷ slots) h2 p = (p, tt)

  module _ (answers : r.ending ≡ Answers) where
    wants_short : (n : ℕ) (h2 : HandState) → Shorts (TakeBlocks asked) (wants_pages n t h2 r)
    wants_short zero h2 = unrefused _ ⊥ Ready r.ending answers
    wants_short (suc n) h2 = unrefused _ ⊥ (TakeLogPages 0) r.ending answers

    blocks_short : (left : ℕ) (more : Bool) → wanted - length (list_at s asked_cpu).blocks ≡ left
        → nat_lt (asked + 1) (length s.lists) ≡ more → Shorts (TakeBlocks asked) (blocks_turn left more asked block t with_blocks r)
    blocks_short zero more is lt = wants_short _ with_blocks
    blocks_short (suc n) true is lt = unrefused _ ⊥ (TakeBlocks (asked + 1)) r.ending answers
    blocks_short (suc n) false is lt = end_short (TakeBlocks asked) r.slots with_blocks
        (is_short cpus actor asked s h with_blocks wanted taking many asks (more_blocks h _) (suc n) is (omega arith)
        (let past = ltb-false (asked + 1) (length s.lists) lt in omega (arith, past, many)))

    pages_short : (left : ℕ) (more : Bool) → wanted - length (list_at s asked_cpu).blocks ≡ left
        → nat_lt (asked + 1) (length s.lists) ≡ more → Shorts (TakeLogPages asked) (pages_turn left more asked t with_log_pages r)
    pages_short zero more is lt = unrefused _ ⊥ Ready r.ending answers
    pages_short (suc n) true is lt = unrefused _ ⊥ (TakeLogPages (asked + 1)) r.ending answers
    pages_short (suc n) false is lt = end_short (TakeLogPages asked) r.slots with_log_pages
        (is_short cpus actor asked s h with_log_pages wanted taking many asks (more_pages h _) (suc n) is (omega arith)
        (let past = ltb-false (asked + 1) (length s.lists) lt in omega (arith, past, many)))

  fresh_asks : (ino left : ℕ) (more : Bool) → wanted - length (list_at s asked_cpu).blocks ≡ left
      → nat_lt (asked + 1) (length s.lists) ≡ more
      → OnAsks (SnapshotOrCleaner (Fresh ino asked wanted)) cpus actor s h taking (fresh_turn left more ino asked t with_log_pages r)
  fresh_asks ino zero more is lt = tt
  fresh_asks ino (suc n) true is lt =
      asks_next cpus actor asked s h with_log_pages wanted taking many asks (more_pages h _) (suc n) is (omega arith)
      (let below = ltb-true (asked + 1) (length s.lists) lt in omega (arith, below, many))
  fresh_asks ino (suc n) false is lt = first_turn (SnapshotOrCleaner (Fresh ino asked wanted)) cpus actor s h taking _ some_cpus
      (on_first _ (on_apart _ (end_plain r.slots (Refuses NoSpace) t with_log_pages r)))

  fresh_short : (answers : r.ending ≡ Answers) (ino left : ℕ) (more : Bool) → wanted - length (list_at s asked_cpu).blocks ≡ left
      → nat_lt (asked + 1) (length s.lists) ≡ more
      → Shorts (SnapshotOrCleaner (Fresh ino asked wanted)) (fresh_turn left more ino asked t with_log_pages r)
  fresh_short answers ino zero more is lt = unrefused _ ⊥ (SnapshotOrCleaner (Compact ino)) r.ending answers
  fresh_short answers ino (suc n) true is lt = unrefused _ ⊥ (SnapshotOrCleaner (Fresh ino (asked + 1) (suc n))) r.ending answers
  fresh_short answers ino (suc n) false is lt = end_short (SnapshotOrCleaner (Fresh ino asked wanted)) r.slots with_log_pages
      (is_short cpus actor asked s h with_log_pages wanted taking many asks (more_pages h _) (suc n) is (omega arith)
      (let past = ltb-false (asked + 1) (length s.lists) lt in omega (arith, past, many)))

-- ---- every kind

kind_asks : (k : Next) (cpus block actor : ℕ) (granted : Bool) (s : Shared) (h : HandState) (r : Running) (taking : Taking)
    → length s.lists ≡ cpus → 0 < cpus → Asks k cpus actor taking r.wanted
    → OnAsks k cpus actor s h taking (kind_turn k block actor granted s h r)
kind_asks (TakeBlocks asked) cpus block actor granted s h r taking many some asks =
    blocks_asks cpus actor asked r.wanted block s h r taking many asks _ _ refl refl
kind_asks (TakeLogPages asked) cpus block actor granted s h r taking many some asks =
    pages_asks cpus actor asked r.wanted block s h r taking many asks _ _ refl refl
kind_asks (SnapshotOrCleaner (Fresh ino asked wanted)) cpus block actor granted s h r taking many some asks =
    fresh_asks cpus actor asked wanted block s h r taking many asks ino _ _ refl refl
kind_asks other cpus block actor granted s h r taking many some asks =
    first_turn other cpus actor s h taking (kind_turn other block actor granted s h r) some (first other block actor granted s h r refl)

kind_short : (k : Next) (cpus block actor : ℕ) (granted : Bool) (s : Shared) (h : HandState) (r : Running) (taking : Taking)
    → asks_list k ≡ true → length s.lists ≡ cpus → r.ending ≡ Answers → Asks k cpus actor taking r.wanted
    → RefusesFor (IsShortInAll cpus actor (taking_by k actor s h (kind_turn k block actor granted s h r) taking)) ⊥
    (kind_turn k block actor granted s h r)
kind_short (TakeBlocks asked) cpus block actor granted s h r taking e many answers asks =
    blocks_short cpus actor asked r.wanted block s h r taking many asks answers _ _ refl refl
kind_short (TakeLogPages asked) cpus block actor granted s h r taking e many answers asks =
    pages_short cpus actor asked r.wanted block s h r taking many asks answers _ _ refl refl
kind_short (SnapshotOrCleaner (Fresh ino asked wanted)) cpus block actor granted s h r taking e many answers asks =
    fresh_short cpus actor asked wanted block s h r taking many asks answers ino _ _ refl refl
kind_short other cpus block actor granted s h r taking e many answers asks = absurd (false≢true e)

-- ---- over events

module _ (cpus actor : ℕ) (some : 0 < cpus) where
  abbrev Own : World → Taking → Type 0
  Own w taking = AsksOf (actor_at w actor).running cpus actor taking

  after_asks : (w : World) (r : Running) (taking : Taking) → Own w taking → (t : Turn)
      → OnAsks r.next cpus actor w.shared (actor_at w actor).hand taking t
      → OwnAfter (actor_at w actor) (λ (x : Actor). AsksOf x.running cpus actor
      (taking_by r.next actor w.shared (actor_at w actor).hand t taking)) t
  after_asks w r taking own (Moves s h q) on = on
  after_asks w r taking own Waits on = own
  after_asks w r taking own (Ends result s h) on = tt

  own_asks : (w : World) (granted : Bool) (taking : Taking) → length w.shared.lists ≡ cpus → Own w taking
      → Own (step w (Go actor granted)).world (taking_of (actor_at w actor).running w actor granted taking)
  own_asks w granted taking many own =
      own_goes (λ (x : Actor). AsksOf x.running cpus actor (taking_of (actor_at w actor).running w actor granted taking)) w actor granted
      (λ none. rw none tt)
      (λ r there is. subst (λ (o : Option Running). OwnAfter (actor_at w actor) (λ (x : Actor). AsksOf x.running cpus actor
      (taking_of o w actor granted taking)) (turn_at w actor granted r)) (sym is)
      (after_asks w r taking own (turn_at w actor granted r)
      (kind_asks r.next cpus w.numbers.block actor granted w.shared (actor_at w actor).hand r taking many some
      (subst (λ (o : Option Running). AsksOf o cpus actor taking) is own))))

  locking_asks : (b : Bool) (wanted : ℕ) (taking : Taking) → Asks (if b then Lock 0 else Check) cpus actor taking wanted
  locking_asks true wanted taking = tt
  locking_asks false wanted taking = tt

  begun_asks : (b : Beginning) (s : Shared) (c : Call) (taking : Taking) → AsksOf (Some (begun b s c)) cpus actor taking
  begun_asks Locks s c taking = locking_asks (nat_lt 0 (length (slots_of s None nothing_looked c))) 0 taking
  begun_asks (Maintains what) s c taking =
      first_by (λ (step : SnapshotOrCleanerStep). Asks (SnapshotOrCleaner step) cpus actor taking 0)
      (length s.cells) tt (λ snapshot. tt) (λ snapshot. tt)
      (λ count. tt) (λ manner ino inside. tt) (λ manner. tt) what
  begun_asks other s c taking = tt

  start_asks : (b : Bool) (running : Option Running) (w : World) (c : Call) (taking : Taking) → nat_lt actor (length w.actors) ≡ b
      → Own w taking → Own (start_step b running actor c w).world taking
  start_asks false running w c taking there own = own
  start_asks true (Some r) w c taking there own = own
  start_asks true None w c taking there own =
      subst (λ (x : Actor). AsksOf x.running cpus actor taking)
      (sym (get_or-set_same w.actors actor (record { hand = (actor_at w actor).hand; running = Some (begun (beginning c) w.shared c) })
      idle (ltb-true actor (length w.actors) there))) (begun_asks (beginning c) w.shared c taking)

  apart_asks : (w : World) (taking : Taking) → Own w taking → (e : Event) → (actor_of e == actor) ≡ false
      → Own w (taking_in actor w e taking)
  apart_asks w taking own (Start other c) apart = own
  apart_asks w taking own (Go other granted) apart = rw apart own

  event_asks : (w : World) (e : Event) (taking : Taking) → length w.shared.lists ≡ cpus → Own w taking
      → Own (step w e).world (taking_in actor w e taking)
  event_asks w e taking many own =
      event_of w actor (λ (e : Event) (x : Actor). AsksOf x.running cpus actor (taking_in actor w e taking)) (apart_asks w taking own)
      (λ granted. rw (self actor) (own_asks w granted taking many own))
      (λ c. start_asks (nat_lt actor (length w.actors)) (actor_at w actor).running w c taking refl own) e

  events_asks : (events : List Event) (w : World) (taking : Taking)
      → ((before : List Event) → length (after w before).shared.lists ≡ cpus) → Own w taking
      → Own (after w events) (taking_after actor w events taking)
  events_asks [] w taking many own = own
  events_asks (e ∷ events) w taking many own =
      events_asks events (step w e).world (taking_in actor w e taking) (λ before. many (e ∷ before)) (event_asks w e taking (many []) own)

-- ---- the law

pub lists_asked : (g : GeometryNumbers) (start : World) (records : List Record) (events : List Event) (actor : ℕ) (granted : Bool)
    (r : Running) → IsStart g start records
    → (actor_at (after start events) actor).running ≡ Some r → asks_list r.next ≡ true
    → RefusesFor (IsShortInAll g.cpus actor (taking_of (Some r) (after start events) actor granted
    (taking_after actor start events no_taking))) ⊥
    (turn (after start events).numbers.block actor granted (after start events).shared
    (actor_at (after start events) actor).hand r)
lists_asked g start records events actor granted r is_start is takes =
    let w : World = after start events in
    let all = all_numbers g start records events is_start in
    let own = events_asks g.cpus actor is_start.limits.some_cpus events start no_taking
    (λ before. (all_numbers g start records before is_start).lists.cpus)
    (subst (λ (x : Actor). AsksOf x.running g.cpus actor no_taking) (sym (is_start.idle_all actor)) tt) in
    kind_short r.next g.cpus w.numbers.block actor granted w.shared (actor_at w actor).hand r
    (taking_after actor start events no_taking) takes all.lists.cpus
    (goes_on r.next takes (subst (λ (o : Option Running). HandOf g (actor_at w actor).hand o) is (all.hands actor)).1)
    (subst (λ (o : Option Running). AsksOf o g.cpus actor (taking_after actor start events no_taking)) is own) where
      goes_on : (k : Next) → asks_list k ≡ true → (is_going k ≡ true → r.ending ≡ Answers) → r.ending ≡ Answers
      goes_on (TakeBlocks asked) e f = f refl
      goes_on (TakeLogPages asked) e f = f refl
      goes_on (SnapshotOrCleaner (Fresh ino asked wanted)) e f = f refl
      goes_on other e f = absurd (false≢true e)
