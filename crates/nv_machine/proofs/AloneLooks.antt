-- What the looks of a call find that is made alone is what its check finds, so that it is never overtaken.
use Rattle.std.proofs.Common.{◌≡◌, ◌∙◌, ℕ, zero, suc, ◌+◌, ◌<◌, Bool, true, false, List, [], ◌∷◌, Option, Some, None, ap, arith, if◌then◌else◌, length, nat_lt, refl, subst, sym}
use Rattle.std.specs.Prelude.{Ok, Err}
use Rattle.std.proofs.lemmas.Bool.{false≢true}
use Rattle.nv_base.specs.declared.fault.Fault.{Fault}
use Rattle.nv_base.specs.declared.numbers.Handle.{Handle}
use Rattle.nv_calls.specs.AllCalls.{looked}
use Rattle.nv_calls.specs.Plain.{Change, same_handle}
use Rattle.nv_calls.specs.Refusals.{Check as Tests, found}
use Rattle.nv_calls.specs.declared.call.Call.{Call}
use Rattle.nv_calls.specs.declared.call.Call.TheVariants as call
use Rattle.nv_calls.specs.declared.looked.LookupResult.{LookupResult}
use Rattle.nv_entry.specs.declared.node.NodeCopy.{NodeCopy}
use Rattle.nv_machine.specs.Kinds.{check_ending, seen_at}
use Rattle.nv_machine.specs.Reads.{written_slots}
use Rattle.nv_machine.specs.Sequence.{directories, locking, sequel}
use Rattle.nv_machine.specs.Step.{ending_at, handle_at, kind_turn}
use Rattle.nv_machine.specs.World.{Append, Check, Close, Ending, Ends, Enter, HandState, Lock, Look, Moves, Next, Number, Open, BoundAnew, Publish, Ready, Refuses, Retire, Running, Shared, SnapshotOrCleaner, Turn, Waits}
use Rattle.nv_calls.proofs.CheckEnds.{handle_is}
use Rattle.nv_machine.proofs.NextSteps.{Known, KnowsNext, OnKnown, Untold}
use Rattle.nv_machine.proofs.LoopSteps.{Commits, appending_any, goes_on, locking_any, publishing_any, retiring_any}
use Rattle.nv_machine.proofs.StepWays.{Closes, EndsBy, StopsBy, any_ends, is_last, is_taking, noted, noted_ending, by_last, by_taking}
use Rattle.nv_machine.proofs.StepWalk.{walk}

-- ---- what is known of a call before a step

-- of two directories the name of the first is as it is told
abbrev pub Upto : List Handle → LookupResult → ℕ → LookupResult → Type 0
Upto (dir ∷ other ∷ rest) all (suc place) l = l.first ≡ all.first
Upto dirs all place l = Unit {0}

-- up to its check a call has found these names, as far as it has looked; and behind that it is not overtaken
abbrev pub HasFound : List Handle → LookupResult → Next → Running → Type 0
HasFound dirs all Number r = r.looked ≡ all
HasFound dirs all (Look place) r = Upto dirs all place r.looked
HasFound dirs all (Lock place) r = r.looked ≡ all
HasFound dirs all Check r = r.looked ≡ all
HasFound dirs all other r = r.ending ≡ BoundAnew → ⊥

abbrev pub FoundBy : List Handle → LookupResult → Known
FoundBy dirs all k s h q = HasFound dirs all k q

abbrev pub OnFound : List Handle → LookupResult → Turn → Type 0
OnFound dirs all t = OnKnown (FoundBy dirs all) t

pub upto_none : (dirs : List Handle) (all l : LookupResult) → Upto dirs all 0 l
upto_none [] all l = tt
upto_none (dir ∷ []) all l = tt
upto_none (dir ∷ other ∷ rest) all l = tt

-- the steps behind the check
abbrev pub IsLate : Next → Type 0
IsLate Number = ⊥
IsLate (Look place) = ⊥
IsLate (Lock place) = ⊥
IsLate Check = ⊥
IsLate other = Unit {0}

abbrev pub LateBy : Known
LateBy k s h q = IsLate k × (q.ending ≡ BoundAnew → ⊥)

abbrev pub OnLate : Turn → Type 0
OnLate t = OnKnown LateBy t

pub late_found : (dirs : List Handle) (all : LookupResult) (k : Next) (r : Running) → IsLate k → (r.ending ≡ BoundAnew → ⊥)
    → HasFound dirs all k r
late_found dirs all Number r late over = absurd late
late_found dirs all (Look place) r late over = absurd late
late_found dirs all (Lock place) r late over = absurd late
late_found dirs all Check r late over = absurd late
late_found dirs all other r late over = over

pub on_found : (dirs : List Handle) (all : LookupResult) (t : Turn) → OnLate t → OnFound dirs all t
on_found dirs all (Moves s h q) on = late_found dirs all q.next q on.0 on.1
on_found dirs all Waits on = tt
on_found dirs all (Ends result s h) on = tt

-- ---- behind the check

last_late : (k : Next) → is_last k ≡ true → IsLate k
last_late = by_last IsLate (λ place. tt) (λ cpu. tt) tt

taking_late : (k : Next) → is_taking k ≡ true → IsLate k
taking_late = by_taking IsLate (λ asked. tt) (λ asked. tt) tt

commits_late : Commits IsLate
commits_late = record { append = λ place. tt; opens = tt; publish = λ place. tt; close = tt; retire = λ place. tt; leave = tt }

-- a check leads to such steps, and each of them does
abbrev pub leads_late : Next → Bool
leads_late Number = false
leads_late (Look place) = false
leads_late (Lock place) = false
leads_late (SnapshotOrCleaner step) = false
leads_late other = true

sequel_late : (k : Next) (q : Running) → leads_late k ≡ true → goes_on k ≡ true → IsLate (sequel q k)
sequel_late Ready q is on = tt
sequel_late Enter q is on = appending_any IsLate commits_late 0 (written_slots q)
sequel_late (Append place) q is on = appending_any IsLate commits_late (place + 1) (written_slots q)
sequel_late Open q is on = publishing_any IsLate commits_late 0 (written_slots q)
sequel_late (Publish place) q is on = publishing_any IsLate commits_late (place + 1) (written_slots q)
sequel_late Close q is on = retiring_any IsLate commits_late 0 (written_slots q)
sequel_late (Retire place) q is on = retiring_any IsLate commits_late (place + 1) (written_slots q)
sequel_late other q is on = cc

late_closes : {s : Shared} {h : HandState} {r : Running} (e : Ending) → (e ≡ BoundAnew → ⊥) → Closes (KnowsNext LateBy) Untold s h r e
late_closes e not = record {
  last = λ k is. (last_late k is, not);
  told = tt;
  again = λ n over some. absurd (not over);
  picks = λ d left drains some. (tt, λ over. cc);
}

stops_late : (k : Next) (block : ℕ) (s : Shared) (h : HandState) (r : Running) (e : Ending)
    → (k ≡ Check → ending_at block s h r ≡ Some BoundAnew → ⊥) → StopsBy k block s h r e → e ≡ BoundAnew → ⊥
stops_late k block s h r (Refuses fault) not by over = cc
stops_late Check block s h r e not by over = not refl (by ∙ ap (λ (x : Ending). Some x) over)
stops_late k block s h r e not by over = by

pub late_turn : (k : Next) (block a : ℕ) (granted : Bool) (s : Shared) (h : HandState) (r : Running) → leads_late k ≡ true
    → (k ≡ Check → ending_at block s h r ≡ Some BoundAnew → ⊥) → (r.ending ≡ BoundAnew → ⊥)
    → OnLate (kind_turn k block a granted s h r)
late_turn (SnapshotOrCleaner step) block a granted s h r is not over = absurd (false≢true is)
late_turn other block a granted s h r is not over = walk (KnowsNext LateBy) Untold block a s h r other granted (record {
  stops = λ e by. late_closes e (stops_late other block s h r e not by);
  goes = λ on clear. (sequel_late other (noted other block s h r) is on, λ e. over (sym (noted_ending other block s h r) ∙ e));
  takes = λ on n next taking. (taking_late next taking, λ e. over (sym (noted_ending other block s h r) ∙ e));
  over = λ on. late_closes r.ending over;
  short = λ on. late_closes _ (λ e. cc);
  told = λ on clear. tt;
}) refl

-- a look that is refused
pub refused_found : (dirs : List Handle) (all : LookupResult) {slots : List ℕ} {s : Shared} {h : HandState} {r : Running} {fault : Fault}
    → EndsBy (KnowsNext (FoundBy dirs all)) Untold slots s h r (Refuses fault)
refused_found dirs all = any_ends (record {
  last = λ k is. late_found dirs all k _ (last_late k is) (λ e. cc);
  told = tt;
  again = λ n over some. cc;
  picks = λ d left drains some. λ e. cc;
})

-- ---- up to it

pub locking_found : (dirs : List Handle) (all : LookupResult) (place : ℕ) (slots : List ℕ) (q : Running) → q.looked ≡ all
    → HasFound dirs all (locking place slots) q
locking_found dirs all place slots q is = locking_any (λ (k : Next). HasFound dirs all k q) (λ place. is) is place slots

-- a look in one directory finds all, and in two the name of its own
one_found : (dir : Handle) (all now before : LookupResult) (place : ℕ) (slots : List ℕ) (q : Running)
    → q.looked ≡ seen_at (dir ∷ []) place now before
    → place < 1 → now ≡ all
    → HasFound (dir ∷ []) all (if nat_lt (place + 1) (length (dir ∷ [])) then Look (place + 1) else locking 0 slots) q
one_found dir all now before zero slots q is low same = locking_found (dir ∷ []) all 0 slots q (is ∙ same)
one_found dir all now before (suc place) slots q is low same = absurd (omega (arith, low))

two_found : (dir other : Handle) (all now before : LookupResult) (place : ℕ) (slots : List ℕ) (q : Running)
    → q.looked ≡ seen_at (dir ∷ other ∷ []) place now before → place < 2 → Upto (dir ∷ other ∷ []) all place before
    → (place ≡ 0 → now.first ≡ all.first) → (place ≡ 1 → now.second ≡ all.second)
    → HasFound (dir ∷ other ∷ []) all
    (if nat_lt (place + 1) (length (dir ∷ other ∷ [])) then Look (place + 1) else locking 0 slots) q
two_found dir other all now before zero slots q is low upto first second = ap (λ (l : LookupResult). l.first) is ∙ first refl
two_found dir other all now before (suc zero) slots q is low upto first second =
    locking_found (dir ∷ other ∷ []) all 0 slots q
    (is ∙ ap (λ (a : Option Handle). let l : LookupResult = record { first = a; second = now.second } in l) upto
    ∙ ap (λ (b : Option Handle). let l : LookupResult = record { first = all.first; second = b } in l) (second refl))
two_found dir other all now before (suc (suc place)) slots q is low upto first second = absurd (omega (arith, low))

found_same : (m n : Handle → Option NodeCopy) (dir : Handle) (name : List ℕ) → m dir ≡ n dir → found m dir name ≡ found n dir name
found_same m n dir name e = ap (λ (x : Option NodeCopy). found (λ handle. x) dir name) e

-- where the directory of a look reads as its settled log says, the look finds what the plain world has there
abbrev Sees : List Handle → Call → (Handle → Option NodeCopy) → (Handle → Option NodeCopy) → LookupResult → ℕ → Type 0
Sees dirs c copied plain before place = (slots : List ℕ) (q : Running) → q.looked ≡ seen_at dirs place (looked copied c) before
    → place < length dirs → Upto dirs (looked plain c) place before → copied (handle_at dirs place) ≡ plain (handle_at dirs place)
    → HasFound dirs (looked plain c) (if nat_lt (place + 1) (length dirs) then Look (place + 1) else locking 0 slots) q

module _ (copied plain : Handle → Option NodeCopy) (before : LookupResult) where
  leave_sees : (dir : Handle) (name : List ℕ) (c : Call) → ((nodes : Handle → Option NodeCopy) → looked nodes c
      ≡ (let l : LookupResult = record { first = found nodes dir name; second = None } in l)) → (place : ℕ)
      → Sees (dir ∷ []) c copied plain before place
  leave_sees dir name c looks zero slots q is low upto same =
      one_found dir (looked plain c) (looked copied c) before zero slots q is low
      (looks copied ∙ ap (λ (a : Option Handle). let l : LookupResult = record { first = a; second = None } in l)
      (found_same copied plain dir name same) ∙ sym (looks plain))
  leave_sees dir name c looks (suc place) slots q is low upto same = absurd (omega (arith, low))

  rename_sees : (from : Handle) (old : List ℕ) (to : Handle) (new : List ℕ) (b : Bool) → same_handle from to ≡ b → (place : ℕ)
      → Sees (if b then from ∷ [] else from ∷ to ∷ []) (call.Rename from old to new) copied plain before place
  rename_sees from old to new true e zero slots q is low upto same =
      let one : copied to ≡ plain to = subst (λ (h : Handle). copied h ≡ plain h) (handle_is from to e) same in
      one_found from (looked plain (call.Rename from old to new)) (looked copied (call.Rename from old to new)) before zero slots q is low
      (ap (λ (a : Option Handle). let l : LookupResult = record { first = a; second = found copied to new } in l)
      (found_same copied plain from old same)
      ∙ ap (λ (b : Option Handle). let l : LookupResult = record { first = found plain from old; second = b } in l)
      (found_same copied plain to new one))
  rename_sees from old to new true e (suc place) slots q is low upto same = absurd (omega (arith, low))
  rename_sees from old to new false e zero slots q is low upto same =
      two_found from to (looked plain (call.Rename from old to new)) (looked copied (call.Rename from old to new)) before zero slots q is
      low upto (λ at. found_same copied plain from old same) (λ at. absurd (omega (arith, at)))
  rename_sees from old to new false e (suc zero) slots q is low upto same =
      two_found from to (looked plain (call.Rename from old to new)) (looked copied (call.Rename from old to new)) before 1 slots q is low
      upto (λ at. absurd (omega (arith, at))) (λ at. found_same copied plain to new same)
  rename_sees from old to new false e (suc (suc place)) slots q is low upto same = absurd (omega (arith, low))

  pub call_sees : (c : Call) (place : ℕ) → Sees (directories c) c copied plain before place
  call_sees (call.Unlink dir name) place = leave_sees dir name (call.Unlink dir name) (λ nodes. refl) place
  call_sees (call.Rmdir dir name) place = leave_sees dir name (call.Rmdir dir name) (λ nodes. refl) place
  call_sees (call.Rename from old to new) place = rename_sees from old to new (same_handle from to) refl place
  call_sees other place = λ slots q is low upto same. absurd (omega (arith, low))

-- ---- a check that finds what the looks found

pub check_same : (first : Tests) (b : Bool) (rest : Tests) (numbered : Bool) (changes : List Change) → b ≡ true
    → check_ending first b rest numbered changes ≡ Some BoundAnew → ⊥
check_same (Err fault) b rest numbered changes same e = cc
check_same (Ok passed) false rest numbered changes same e = cc
check_same (Ok passed) true (Err fault) numbered changes same e = cc
check_same (Ok passed) true (Ok all) false changes same e = cc
check_same (Ok passed) true (Ok all) true [] same e = cc
check_same (Ok passed) true (Ok all) true (change ∷ changes) same e = cc
