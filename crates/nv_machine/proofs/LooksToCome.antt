-- A call has a look to come only where it has names to look up.
use Rattle.std.proofs.Common.{Bool, List, None, Option, Some, [], ap, arith, false, if◌then◌else◌, length, nat_lt, refl, subst, sym, true, ℕ, ◌+◌, ◌<◌, ◌∙◌, ◌∷◌, ◌≡◌}
use Rattle.std.specs.Prelude.{Result}
use Rattle.std.proofs.lemmas.Bool.{false≢true, ltb-true, true≢false}
use Rattle.nv_base.specs.declared.fault.Fault.{Fault}
use Rattle.nv_base.specs.declared.numbers.Handle.{Handle}
use Rattle.nv_calls.specs.AllCalls.{early, effect, looked, refusal}
use Rattle.nv_calls.specs.Plain.{same_handle}
use Rattle.nv_calls.specs.declared.answer.Answer.{Answer}
use Rattle.nv_calls.specs.declared.call.Call.{Call}
use Rattle.nv_calls.specs.declared.looked.LookupResult.{LookupResult}
use Rattle.nv_entry.specs.declared.node.NodeCopy.{NodeCopy}
use Rattle.nv_machine.specs.Reads.{copies, written_slots}
use Rattle.nv_machine.specs.Sequence.{Beginning, Locks, Looks, beginning, begun, directories, locking, looking, nothing_looked, sequel}
use Rattle.nv_machine.specs.Starts.{AreIdle}
use Rattle.nv_machine.specs.Step.{after, ending_at, is_numbered, kind_turn, made_in, same_looked}
use Rattle.nv_machine.specs.World.{Actor, Append, Check, Close, Ending, Enter, Event, HandState, Lock, Look, Next, Number, Open, BoundAnew, Publish, Ready, Refuses, Retire, Running, Shared, SnapshotOrCleaner, TakeBlocks, TakeLogPages, World, actor_at, go_to}
use Rattle.nv_machine.proofs.RefusalCauses.{CheckCause, check_told}
use Rattle.nv_machine.proofs.OverEvents.{Keeps, each, steady}
use Rattle.nv_machine.proofs.LoopSteps.{Commits, appending_any, locking_any, publishing_any, retiring_any}
use Rattle.nv_machine.proofs.StepWays.{After, Closes, StopsBy, any_ends, is_last, is_taker, is_taking, noted, stopped}
use Rattle.nv_machine.proofs.StepWalk.{walk}
use Rattle.nv_machine.proofs.SnapshotOrCleanerWalk.{snapshot_or_cleaner_walk, ends_apart}
use Rattle.nv_calls.specs.declared.call.Call.TheVariants as call

-- a look to come is in one of its directories
abbrev pub IsLookIn : Next → Call → Type 0
IsLookIn k c = (place : ℕ) → k ≡ Look place → place < length (directories c)

-- one without names has found none, and only one with names is overtaken
pub record HasLooks (r : Running) : Type 0 where
  pub place : IsLookIn r.next r.call
  pub nothing : directories r.call ≡ [] → r.looked ≡ nothing_looked
  pub names : r.ending ≡ BoundAnew → 0 < length (directories r.call)

abbrev pub HasLooksOf : Option Running → Type 0
HasLooksOf None = Unit {0}
HasLooksOf (Some r) = HasLooks r

-- ---- what comes next

abbrev is_look : Next → Bool
is_look (Look place) = true
is_look other = false

no_look : (k : Next) (c : Call) → is_look k ≡ false → IsLookIn k c
no_look k c is place e = absurd (false≢true (sym is ∙ ap is_look e))

abbrev place_of : Next → ℕ
place_of (Look n) = n
place_of other = 0

commits_no_look : (c : Call) → Commits (λ (k : Next). IsLookIn k c)
commits_no_look c = record {
  append = λ place p e. cc;
  opens = λ p e. cc;
  publish = λ place p e. cc;
  close = λ p e. cc;
  retire = λ place p e. cc;
  leave = λ p e. cc;
}

locking_in : (c : Call) (place : ℕ) (slots : List ℕ) → IsLookIn (locking place slots) c
locking_in c = locking_any (λ (k : Next). IsLookIn k c) (λ place p e. cc) (λ p e. cc)

looking_in : (place : ℕ) (r : Running) → IsLookIn (looking place r) r.call
looking_in place r = go (nat_lt place (length (directories r.call))) refl where
  go : (b : Bool) → nat_lt place (length (directories r.call)) ≡ b → IsLookIn (if b then Look place else locking 0 r.slots) r.call
  go true q p e = subst (λ (n : ℕ). n < length (directories r.call)) (ap place_of e) (ltb-true place (length (directories r.call)) q)
  go false q p e = locking_in r.call 0 r.slots p e

some_names : (place : ℕ) (c : Call) → place < length (directories c) → directories c ≡ [] → ⊥
some_names place c lt none = let e = ap (λ (l : List Handle). length l) none in omega (arith, lt, e)

-- what comes next where the call and its ending are the same
elsewhere : (r q : Running) → HasLooks r → q.call ≡ r.call → q.looked ≡ r.looked → q.ending ≡ r.ending → IsLookIn q.next r.call → HasLooks q
elsewhere r q has call found ends place = record {
  place = λ p e. subst (λ (c : Call). p < length (directories c)) (sym call) (place p e);
  nothing = λ none. found ∙ has.nothing (ap directories (sym call) ∙ none);
  names = λ over. subst (λ (c : Call). 0 < length (directories c)) (sym call) (has.names (sym ends ∙ over));
}

-- a call that goes on in the sequence
goes_in : (k : Next) (block : ℕ) (s : Shared) (h : HandState) (r : Running) → HasLooks r → r.next ≡ k
    → HasLooks (go_to (sequel (noted k block s h r) k) (noted k block s h r))
goes_in (Look place) block s h r has is = record {
  place = looking_in (place + 1) (noted (Look place) block s h r);
  nothing = λ none. absurd (some_names place r.call (has.place place is) none);
  names = has.names;
}
goes_in Number block s h r has is = elsewhere r _ has refl refl refl (locking_in r.call 0 (noted Number block s h r).slots)
goes_in (Lock place) block s h r has is = elsewhere r _ has refl refl refl (locking_in r.call (place + 1) r.slots)
goes_in Enter block s h r has is =
    elsewhere r _ has refl refl refl (appending_any _ (commits_no_look r.call) 0 (written_slots (noted Enter block s h r)))
goes_in (Append place) block s h r has is =
    elsewhere r _ has refl refl refl (appending_any _ (commits_no_look r.call) (place + 1) (written_slots r))
goes_in Open block s h r has is = elsewhere r _ has refl refl refl (publishing_any _ (commits_no_look r.call) 0 (written_slots r))
goes_in (Publish place) block s h r has is =
    elsewhere r _ has refl refl refl (publishing_any _ (commits_no_look r.call) (place + 1) (written_slots r))
goes_in Close block s h r has is = elsewhere r _ has refl refl refl (retiring_any _ (commits_no_look r.call) 0 (written_slots r))
goes_in (Retire place) block s h r has is =
    elsewhere r _ has refl refl refl (retiring_any _ (commits_no_look r.call) (place + 1) (written_slots r))
goes_in Check block s h r has is = elsewhere r _ has refl refl refl (λ p e. cc)
goes_in Ready block s h r has is = elsewhere r _ has refl refl refl (λ p e. cc)
goes_in other block s h r has is = elsewhere r _ has refl refl refl (no_look _ r.call refl)

-- ---- how it ends

abbrev P : Shared → HandState → Running → Type 0
P s h q = HasLooks q

abbrev E : Result Answer Fault → Shared → HandState → Type 0
E result s h = Unit {0}

closes : (s : Shared) (h : HandState) (r : Running) (e : Ending) → HasLooks r → (e ≡ BoundAnew → 0 < length (directories r.call))
    → Closes P E s h r e
closes s h r e has names = record {
  last = λ k is. record { place = λ p q. absurd (false≢true (ap is_last (sym q) ∙ is)); nothing = has.nothing; names = names };
  told = tt;
  again = λ n over some. record {
    place = λ p q. subst (λ (m : ℕ). m < length (directories r.call)) (ap place_of q) (names over);
    nothing = has.nothing;
    names = λ q. cc;
  };
  picks = λ d left drains some. record { place = λ p q. cc; nothing = has.nothing; names = λ q. cc };
}

-- where nothing was found and nothing is, that is the same
not_alike : (before : LookupResult) → before ≡ nothing_looked → same_looked nothing_looked before ≡ false → ⊥
not_alike before none e = true≢false (sym (ap (same_looked nothing_looked) none) ∙ e)

some_dirs : (from to : Handle) (b : Bool) → 0 < length (if b then from ∷ [] else from ∷ to ∷ [])
some_dirs from to true = omega arith
some_dirs from to false = omega arith

alike : (nodes : Handle → Option NodeCopy) (c : Call) (before : LookupResult) → (directories c ≡ [] → before ≡ nothing_looked)
    → same_looked (looked nodes c) before ≡ false → 0 < length (directories c)
alike nodes (call.Unlink dir name) before none e = omega arith
alike nodes (call.Rmdir dir name) before none e = omega arith
alike nodes (call.Rename from old to new) before none e = some_dirs from to (same_handle from to)
alike nodes other before none e = absurd (not_alike before (none refl) e)

check_names : (block : ℕ) (s : Shared) (h : HandState) (r : Running) → HasLooks r → ending_at block s h r ≡ Some BoundAnew
    → 0 < length (directories r.call)
check_names block s h r has e =
    let tests = refusal block (copies s) r.call in
    let first = early (copies s) r.call in
    let same = same_looked (looked (copies s) r.call) r.looked in
    let numbered = is_numbered (beginning r.call) h.ino in
    let cause : CheckCause first same tests numbered (Some BoundAnew) =
    subst (λ (o : Option Ending). CheckCause first same tests numbered o) e
    (check_told first same tests numbered (effect (copies s) (made_in s h.ino r.made) r.call)) in
    alike (copies s) r.call r.looked has.nothing cause.1

stops : (k : Next) (block : ℕ) (s : Shared) (h : HandState) (r : Running) (e : Ending) → HasLooks r → StopsBy k block s h r e
    → Closes P E s h (stopped k s h r) e
stops Check block s h r (Refuses fault) has by = closes s h _ _ (elsewhere r _ has refl refl refl has.place) (λ e. cc)
stops Check block s h r e has by =
    closes s h _ e (elsewhere r _ has refl refl refl has.place)
    (λ is. check_names block s h r has (subst (λ (x : Ending). ending_at block s h r ≡ Some x) is by))
stops other block s h r (Refuses fault) has by = closes s h r _ has (λ e. cc)
stops other block s h r e has by = absurd by

-- ---- every kind, and every world

takes : (k : Next) (block : ℕ) (s : Shared) (h : HandState) (r : Running) → HasLooks r → is_taker k ≡ true → (n : ℕ) (next : Next)
    → is_taking next ≡ true → HasLooks (record (noted k block s h r) { wanted = n; next = next })
takes k block s h r has taker n next is = go k taker where
  place : IsLookIn next r.call
  place p e = absurd (false≢true (ap is_taking (sym e) ∙ is))

  go : (k : Next) → is_taker k ≡ true → HasLooks (record (noted k block s h r) { wanted = n; next = next })
  go Check taker = record { place = place; nothing = has.nothing; names = has.names }
  go (TakeBlocks asked) taker = record { place = place; nothing = has.nothing; names = has.names }
  go (TakeLogPages asked) taker = record { place = place; nothing = has.nothing; names = has.names }
  go other taker = absurd (false≢true taker)

kind_looks : (k : Next) (block a : ℕ) (granted : Bool) (s : Shared) (h : HandState) (r : Running) → HasLooks r → r.next ≡ k
    → After P E (kind_turn k block a granted s h r)
kind_looks (SnapshotOrCleaner step) block a granted s h r has is = snapshot_or_cleaner_walk P E a s h r step granted (record {
  stops = λ fault cause. any_ends (closes s h r _ has (λ e. cc));
  goes = λ on clear. record { place = λ p q. cc; nothing = has.nothing; names = has.names };
  told = λ on clear. tt;
  denied = λ snapshot showing on. record { place = λ p q. cc; nothing = has.nothing; names = λ e. cc };
  leads_on = λ next leads. record { place = λ p q. cc; nothing = has.nothing; names = has.names };
  over = λ e ends. any_ends (closes _ _ r _ has (λ over. absurd (ends_apart step a s h e ends over)));
  none = λ draining on empty. tt;
})
kind_looks other block a granted s h r has is = walk P E block a s h r other granted (record {
  stops = λ e by. stops other block s h r e has by;
  goes = λ on clear. goes_in other block s h r has is;
  takes = takes other block s h r has;
  over = λ on. closes _ _ r r.ending has has.names;
  short = λ on. closes _ _ r _ has (λ e. cc);
  told = λ on clear. tt;
}) refl

looks_have : (c : Call) → beginning c ≡ Looks → 0 < length (directories c)
looks_have (call.Unlink dir name) e = omega arith
looks_have (call.Rmdir dir name) e = omega arith
looks_have (call.Rename from old to new) e = some_dirs from to (same_handle from to)
looks_have other e = cc

begins : (b : Beginning) (s : Shared) (c : Call) → beginning c ≡ b → HasLooks (begun b s c)
begins Looks s c is = record {
  place = λ p e. subst (λ (n : ℕ). n < length (directories c)) (ap place_of e) (looks_have c is);
  nothing = λ none. refl;
  names = λ e. cc;
}
begins Locks s c is = record { place = locking_in c 0 (begun Locks s c).slots; nothing = λ none. refl; names = λ e. cc }
begins other s c is = record { place = λ p e. cc; nothing = λ none. refl; names = λ e. cc }

looks_keep : Keeps (λ (w : World). Unit {0}) (λ (a : ℕ) (s : Shared) (x : Actor). HasLooksOf x.running)
looks_keep = record {
  begins = λ w a c known idle none. begins (beginning c) w.shared c refl;
  own = λ w a granted r known is has. kind_looks r.next w.numbers.block a granted w.shared (actor_at w a).hand r has refl;
  others = λ w a b granted r known is ne its. steady (HasLooksOf (actor_at w b).running) its _;
}

pub all_looks : (start : World) (events : List Event) → AreIdle start → (actor : ℕ) → HasLooksOf (actor_at (after start events) actor).running
all_looks start events idle_all =
    each _ _ looks_keep events start (λ before. tt) (λ actor. subst (λ (x : Actor). HasLooksOf x.running) (sym (idle_all actor)) tt)

-- of each world that events lead to
pub look_inside : (start : World) (events : List Event) (actor place : ℕ) (r : Running) → AreIdle start
    → (actor_at (after start events) actor).running ≡ Some r → r.next ≡ Look place → place < length (directories r.call)
look_inside start events actor place r idle_all is next = (subst HasLooksOf is (all_looks start events idle_all actor)).place place next
