-- A call that is to end so ends so, whatever follows; and one that has committed is to be answered.
use Rattle.std.proofs.Common.{Bool, Option, Some, ap, cond, false, get_or-set_same, if◌then◌else◌, inl, inr, length, nat_lt, refl, subst, sym, true, ℕ, ◌%◌, ◌+◌, ◌<◌, ◌∙◌, ◌≡◌}
use Rattle.std.proofs.lemmas.Bool.{false≢true, lt-ltb, true≢false}
use Rattle.nv_base.specs.declared.numbers.Handle.{Handle}
use Rattle.nv_calls.specs.AllCalls.{answer}
use Rattle.nv_calls.specs.Plain.{PlainNode}
use Rattle.nv_calls.specs.declared.call.Call.{Call}
use Rattle.nv_machine.specs.Answered.{GoesTo, IsFinal, IsLast, IsMovedTo, IsToEnd, answer_of}
use Rattle.nv_machine.specs.Frame.{lent}
use Rattle.nv_machine.specs.Kept.{IsKept, Knows, KnowsOf}
use Rattle.nv_machine.specs.Kinds.{result_by}
use Rattle.nv_machine.specs.Locks.{commits_at}
use Rattle.nv_machine.specs.PlainRun.{Commits, Nothing, Numbers, plain_change, plain_change_by, plain_change_of, done_on, entered, keeps_nodes}
use Rattle.nv_machine.specs.Reads.{written_slots}
use Rattle.nv_machine.specs.Sequence.{Visits, beginning}
use Rattle.nv_machine.specs.Step.{kind_turn, reply_of, step, turn, turned}
use Rattle.nv_machine.specs.World.{Actor, Answers, Append, ReturnNumber, Close, Ending, Ends, Enter, Give, Go, HandState, Leave, Moves, Next, Open, Publish, Retire, Running, Shared, SnapshotOrCleanerStep, SnapshotOrCleaner, Turn, Unlock, Waits, World, actor_at, idle}
use Rattle.nv_machine.proofs.SingleEvents.{go_is_turn}
use Rattle.nv_machine.proofs.LoopSteps.{Commits as Committing, appending_any, is_on_files, publishing_any, retiring_any}
use Rattle.nv_machine.proofs.SnapshotOrCleanerTurns.{done_is}
use Rattle.nv_machine.proofs.StepWays.{AfterBy, Closes, Going, IsBlocked, Telling, any_ends, any_lasts, any_rests, by_last, is_last}
use Rattle.nv_machine.proofs.StepWalk.{WaysOf, last_ways, walk_by}
use Rattle.nv_calls.specs.declared.call.Call.TheVariants as call

-- a turn goes towards an end of a call, and does not wait
abbrev EndGoes : Ending → Running → Going
EndGoes e r t h q = IsToEnd e q × (answer_of q ≡ answer_of r)

abbrev EndTold : Ending → Running → Telling
EndTold e r x t h = x ≡ result_by e r

abbrev OnEnd : Ending → Running → Turn → Type 0
OnEnd e r t = AfterBy ⊥ (EndGoes e r) (EndTold e r) t

last_is : (k : Next) → is_last k ≡ true → IsLast k
last_is = by_last IsLast (λ place. tt) (λ cpu. tt) tt

-- what comes behind each step of a commit is such a step
commits_last : Committing IsLast
commits_last = record { append = λ place. tt; opens = tt; publish = λ place. tt; close = tt; retire = λ place. tt; leave = tt }

kind_end : (e : Ending) (k : Next) (block a : ℕ) (granted : Bool) (s : Shared) (h : HandState) (r : Running) → IsFinal e
    → r.ending ≡ e → IsLast k → OnEnd e r (kind_turn k block a granted s h r)
kind_end e k block a granted s h r final is last = go k last where
  closes : {t : Shared} {x : HandState} → Closes (EndGoes e r) (EndTold e r) t x r r.ending
  closes = record {
    last = λ n on. (record { ends = is; last = last_is n on }, refl);
    told = ap (λ (x : Ending). result_by x r) is;
    again = λ n over some. absurd (subst IsFinal (sym is ∙ over) final);
    picks = λ d left drains some. absurd (subst IsFinal (sym is ∙ drains) final);
  }

  walks : (k : Next) → WaysOf (EndGoes e r) (EndTold e r) k block a granted s h r → (IsBlocked k s r → ⊥) → is_on_files k ≡ true
      → OnEnd e r (kind_turn k block a granted s h r)
  walks k ways never on = walk_by ⊥ (EndGoes e r) (EndTold e r) block a s h r k granted never ways on

  go : (k : Next) → IsLast k → OnEnd e r (kind_turn k block a granted s h r)
  go (Append place) last = (record { ends = is; last = appending_any IsLast commits_last (place + 1) (written_slots r) }, refl)
  go Open last = (record { ends = is; last = publishing_any IsLast commits_last 0 (written_slots r) }, refl)
  go (Publish place) last = (record { ends = is; last = publishing_any IsLast commits_last (place + 1) (written_slots r) }, refl)
  go Close last = (record { ends = is; last = retiring_any IsLast commits_last 0 (written_slots r) }, refl)
  go (Retire place) last = (record { ends = is; last = retiring_any IsLast commits_last (place + 1) (written_slots r) }, refl)
  go Leave last = walks Leave (any_ends closes) (λ blocked. blocked) refl
  go (Unlock place) last =
      walks (Unlock place) (last_ways _ _ block a s h r (Unlock place) granted refl closes) (λ blocked. blocked) refl
  go (Give cpu) last = walks (Give cpu) (any_rests closes) (λ blocked. blocked) refl
  go ReturnNumber last = walks ReturnNumber (any_lasts closes) (λ blocked. blocked) refl
  go other last = absurd last

-- ---- commit points

pub is_single : (b : Bool) → cond b Nothing Commits ≡ Commits → b ≡ false
is_single true e = absurd (false≢true (sym (ap keeps_nodes e)))
is_single false e = refl

pub no_commit : Nothing ≡ Commits → ⊥
no_commit e = false≢true (sym (ap keeps_nodes e))

pub entered_none : (t : Turn) → entered t ≡ Commits → ⊥
entered_none (Moves s h r) e = go (commits_at r.next) e where
  go : (b : Bool) → (if b then Numbers else Nothing) ≡ Commits → ⊥
  go true q = false≢true (sym (ap keeps_nodes q))
  go false q = no_commit q
entered_none Waits e = no_commit e
entered_none (Ends result s h) e = no_commit e

pub no_commit_on : (step : SnapshotOrCleanerStep) (t : Turn) → done_on step t ≡ Commits → ⊥
no_commit_on step t e = elim (done_is step t) [
  | inl none ↦ no_commit (sym none ∙ e)
  | inr some ↦ true≢false (ap keeps_nodes (sym some ∙ e))
]

commit_answer : (k : Next) (block a cpu : ℕ) (granted : Bool) (s : Shared) (h : HandState) (r : Running) → Knows k block s cpu h r
    → plain_change k (written_slots r) (kind_turn k block a granted s h r) ≡ Commits → OnEnd Answers r (kind_turn k block a granted s h r)
commit_answer Close block a cpu granted s h r knows e = kind_end Answers Close block a granted s h r tt knows.1 tt
commit_answer (Publish place) block a cpu granted s h r knows e = kind_end Answers (Publish place) block a granted s h r tt knows.1 tt
commit_answer Enter block a cpu granted s h r knows e = absurd (entered_none _ e)
commit_answer (SnapshotOrCleaner step) block a cpu granted s h r knows e = absurd (no_commit_on step _ e)
commit_answer other block a cpu granted s h r knows e = absurd (no_commit e)

-- ---- events

turned_end : (e : Ending) (t : Turn) (actor : ℕ) (w : World) (r : Running) → actor < length w.actors → OnEnd e r t
    → GoesTo e actor r (turned t actor w)
turned_end e (Moves s h q) actor w r there on = inl (
  refl,
  subst (λ (x : Actor). IsMovedTo e r x.running) (sym (get_or-set_same w.actors actor (record { hand = h; running = Some q }) idle there))
      (record { waits = on.0; answer = on.1 }),
)
turned_end e Waits actor w r there on = absurd on
turned_end e (Ends result s h) actor w r there on = inr (ap reply_of on)

pub goes_to_end : (e : Ending) (w : World) (actor : ℕ) (granted : Bool) (r : Running) → IsFinal e → actor < length w.actors
    → (actor_at w actor).running ≡ Some r → IsToEnd e r → GoesTo e actor r (step w (Go actor granted))
goes_to_end e w actor granted r final there is waits =
    subst (GoesTo e actor r)
    (sym (go_is_turn (nat_lt actor (length w.actors)) (actor_at w actor).running w actor granted r
    (lt-ltb actor (length w.actors) there) is))
    (turned_end e (turn w.numbers.block actor granted w.shared (actor_at w actor).hand r) actor w r there
    (kind_end e r.next w.numbers.block actor granted w.shared (actor_at w actor).hand r final waits.ends waits.last))

pub deed_is : (b : Bool) (running : Option Running) (w : World) (actor : ℕ) (granted : Bool) (r : Running) → b ≡ true → running ≡ Some r
    → (if b then plain_change_by running w actor granted else Nothing)
    ≡ plain_change r.next (written_slots r) (turn w.numbers.block actor granted w.shared (actor_at w actor).hand r)
deed_is b running w actor granted r there is = rw there (rw is refl)

pub commits_to_answer : (w : World) (actor : ℕ) (granted : Bool) (r : Running) → IsKept w → actor < length w.actors
    → (actor_at w actor).running ≡ Some r → plain_change_of w (Go actor granted) ≡ Commits → GoesTo Answers actor r (step w (Go actor granted))
commits_to_answer w actor granted r kept there is e =
    let inside = lt-ltb actor (length w.actors) there in
    subst (GoesTo Answers actor r)
    (sym (go_is_turn (nat_lt actor (length w.actors)) (actor_at w actor).running w actor granted r inside is))
    (turned_end Answers (turn w.numbers.block actor granted w.shared (actor_at w actor).hand r) actor w r there
    (commit_answer r.next w.numbers.block actor (actor % length w.shared.lists) granted w.shared (actor_at w actor).hand r
    (subst (λ (running : Option Running). KnowsOf running w.numbers.block w.shared (actor % length w.shared.lists)
    (actor_at w actor).hand) is (kept.each actor))
    (sym (deed_is (nat_lt actor (length w.actors)) (actor_at w actor).running w actor granted r inside is) ∙ e)))

-- ---- a step that changes a cell

cell_answers : (k : Next) (block cpus cpu a ino : ℕ) (s : Shared) (h : HandState) (r : Running) → Knows k block s cpu h r
    → commits_at k ≡ true → (lent k cpus a r).cell ≡ Some ino → (r.ending ≡ Answers) × IsLast k
cell_answers (Append place) block cpus cpu a ino s h r knows c e = (knows.1, tt)
cell_answers (Publish place) block cpus cpu a ino s h r knows c e = (knows.1, tt)
cell_answers (Retire place) block cpus cpu a ino s h r knows c e = (knows.1, tt)
cell_answers other block cpus cpu a ino s h r knows c e = cc

pub cells_are_answered : (w : World) (actor ino : ℕ) (r : Running) → IsKept w → (actor_at w actor).running ≡ Some r
    → commits_at r.next ≡ true → (lent r.next (length w.shared.lists) actor r).cell ≡ Some ino → IsToEnd Answers r
cells_are_answered w actor ino r kept is c e =
    let both = cell_answers r.next w.numbers.block (length w.shared.lists) (actor % length w.shared.lists) actor ino w.shared
    (actor_at w actor).hand r
    (subst (λ (running : Option Running). KnowsOf running w.numbers.block w.shared (actor % length w.shared.lists)
    (actor_at w actor).hand) is (kept.each actor)) c e in
    record { ends = both.0; last = both.1 }

-- ---- the answer of a call that commits is told by no node

pub no_node_tells : (nodes other : Handle → Option PlainNode) (made : Handle) (c : Call) → (beginning c ≡ Visits → ⊥)
    → answer nodes made c ≡ answer other made c
no_node_tells nodes other made (call.Read file offset count) h = absurd (h refl)
no_node_tells nodes other made (call.Stat handle) h = absurd (h refl)
no_node_tells nodes other made (call.List dir) h = absurd (h refl)
no_node_tells nodes other made (call.Lookup dir name) h = absurd (h refl)
no_node_tells nodes other made rest h = refl
