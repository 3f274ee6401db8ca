-- What each kind of step decides, and that what has been decided follows from the step that comes next.
use Rattle.std.proofs.Common.{Bool, List, None, Option, Some, [], ap, ap₂, arith, cond, false, length, nat_lt, not, refl, subst, sym, true, true≢false, ℕ, ◌&&◌, ◌++◌, ◌+◌, ◌<◌, ◌||◌, ◌∙◌, ◌∷◌, ◌≡◌}
use Rattle.std.specs.Prelude.{Err, Ok}
use Rattle.std.proofs.lemmas.Bool.{and_parts, false≢true}
use Rattle.nv_alloc.specs.Numbers.{has}
use Rattle.nv_base.specs.Memory.{out_of_memory}
use Rattle.nv_base.specs.declared.numbers.Handle.{Handle}
use Rattle.nv_entry.specs.declared.node.NodeCopy.{NodeCopy}
use Rattle.nv_calls.specs.AllCalls.{IsToldNothing, answer, early, effect, is_nothing, looked, refusal}
use Rattle.nv_calls.specs.Locked.{SameCall, handles}
use Rattle.nv_calls.specs.Plain.{Change, PlainNode, node_in}
use Rattle.nv_calls.specs.Refusals.{Check as Tests, passes}
use Rattle.nv_calls.specs.declared.answer.Answer.{Answer}
use Rattle.nv_calls.specs.declared.call.Call.{Call}
use Rattle.nv_calls.specs.declared.allocation.Allocation.{Allocation}
use Rattle.nv_calls.proofs.Nothing.{told_nothing}
use Rattle.nv_calls.proofs.Passed.{both_passed}
use Rattle.nv_cell.specs.Cell.{log_of}
use Rattle.nv_machine.proofs.RefusedMemory.{refused_unanswered as refuses}
use Rattle.nv_machine.specs.Answered.{answer_of}
use Rattle.nv_machine.specs.EndsDecided.{decision, has_nothing_to_do, is_answered, is_no_change, is_snapshot_or_cleaner, is_pass}
use Rattle.nv_machine.specs.Hands.{is_going}
use Rattle.nv_machine.specs.Kinds.{check_ending, visit_turn}
use Rattle.nv_machine.specs.Locks.{IsInside, commits_at, held_at}
use Rattle.nv_machine.specs.PlainRun.{Commits, Nothing, Numbers, entered, keeps_nodes}
use Rattle.nv_machine.specs.Reads.{copies, nodes, written_slots}
use Rattle.nv_machine.specs.Sequence.{Visits, appending, beginning, nothing_looked, publishing, retiring}
use Rattle.nv_machine.specs.Settled.{settled, settled_nodes}
use Rattle.nv_machine.specs.Step.{ending_at, handle_at, is_numbered, kind_turn, made_in, same_looked, visit_grows, with_made}
use Rattle.nv_machine.specs.World.{Answers, Append, ReturnNumber, Check, Close, Draining, Drains, Ending, Ends, Enter, Give, HandState, Leave, Lock, Look, Moves, Next, Number, Open, BoundAnew, Publish, Ready, Refuses, Retire, Running, Shared, SnapshotOrCleaner, TakeBlocks, TakeLogPages, Turn, Unlock, Visit, Waits, cell_at, go_to, owner_at, Cleans}
use Rattle.nv_machine.proofs.EndingsStay.{no_node_tells}
use Rattle.nv_machine.proofs.DecidedReads.{ending_settled, settled_ending}
use Rattle.nv_machine.proofs.DecidedNext.{IsNoVisit, IsTold, OnTold, ToldEnds, ToldGoes, appending_before, before_told, behind_told, denied_told, ends_told, lasts_told, locking_told, looking_told, no_visit, overs_told, plain_visit, rests_told, retiring_behind, several_before, single_behind, taking_told, told_by}
use Rattle.nv_machine.proofs.FitsStages.{FitsAt}
use Rattle.nv_machine.proofs.LoopSteps.{is_on_files}
use Rattle.nv_machine.proofs.StepWays.{Going, Takes, Telling, ends_go, is_maintained, is_list_taker, noted, numbered_slots}
use Rattle.nv_machine.proofs.StepWalk.{WaysOf, any_takes, walk_by}
use Rattle.nv_calls.specs.declared.call.Call.TheVariants as call
use Rattle.nv_clean.specs.declared.cleaned.Cleaned.{Cleaned}

-- ---- what a check decides

abbrev is_answering : Option Ending → Bool
is_answering (Some Answers) = true
is_answering other = false

-- by its tests, and by what it would change
answers_where : (first : Tests) (same : Bool) (tests : Tests) (numbered : Bool) (changes : List Change)
    → (tests ≡ passes → first ≡ passes) → (is_no_change changes ≡ true → numbered ≡ true)
    → is_answering (check_ending first same tests numbered changes) ≡ (is_pass tests && same && is_no_change changes)
answers_where (Err fault) same (Err other) numbered changes first number = refl
answers_where (Err fault) same (Ok all) numbered changes first number = let e = first refl in cc
answers_where (Ok passed) false (Err other) numbered changes first number = refl
answers_where (Ok passed) false (Ok all) numbered changes first number = refl
answers_where (Ok passed) true (Err fault) numbered changes first number = refl
answers_where (Ok passed) true (Ok all) false [] first number = let e = number refl in cc
answers_where (Ok passed) true (Ok all) false (change ∷ changes) first number = refl
answers_where (Ok passed) true (Ok all) true [] first number = refl
answers_where (Ok passed) true (Ok all) true (change ∷ changes) first number = refl

-- a call that has nothing to change makes no inode, so that it needs no number
needs_none : (nodes : Handle → Option NodeCopy) (made : Handle) (number : Option ℕ) (c : Call)
    → is_no_change (effect nodes made c) ≡ true → is_numbered (beginning c) number ≡ true
needs_none nodes made number (call.Create dir name mode) e = absurd (false≢true e)
needs_none nodes made number (call.Mkdir dir name mode) e = absurd (false≢true e)
needs_none nodes made number other e = refl

-- and whatever its handle is, it has as little to change
any_made : (nodes : Handle → Option NodeCopy) (made other : Handle) (c : Call)
    → is_no_change (effect nodes made c) ≡ is_no_change (effect nodes other c)
any_made nodes made other (call.Create dir name mode) = refl
any_made nodes made other rest = refl

-- nor does its answer tell the handle
same_told : (nodes : Handle → Option PlainNode) (made other : Handle) (c : Call) (changes : Handle → Option NodeCopy)
    → IsNoVisit c → is_no_change (effect changes made c) ≡ true → answer nodes made c ≡ answer (λ handle. None) other c
same_told nodes made other (call.Create dir name mode) changes none e = absurd (false≢true e)
same_told nodes made other (call.Mkdir dir name mode) changes none e = absurd (false≢true e)
same_told nodes made other (call.Read file offset count) changes none e = absurd (none.0 refl)
same_told nodes made other (call.Stat handle) changes none e = absurd (none.0 refl)
same_told nodes made other (call.List dir) changes none e = absurd (none.0 refl)
same_told nodes made other (call.Lookup dir name) changes none e = absurd (none.0 refl)
same_told nodes made other (call.SnapshotOrCleaner what) changes none e = absurd (true≢false none.1)
same_told nodes made other rest changes none e = refl

pub nothing_is : (changes : List Change) → is_no_change changes ≡ true → changes ≡ []
nothing_is [] e = refl
nothing_is (change ∷ changes) e = absurd (false≢true e)

-- a call that passes and has something to change is not told to be nothing
some_call : (block : ℕ) (nodes : Handle → Option NodeCopy) (made : Handle) (c : Call) → refusal block nodes c ≡ passes
    → 0 < length (effect nodes made c) → is_nothing c ≡ false
some_call block nodes made c pass some = go (is_nothing c) refl where
  told : IsToldNothing block nodes (record { made = made; runs = [] }) c
  told = told_nothing block nodes (record { made = made; runs = [] }) c pass

  go : (b : Bool) → is_nothing c ≡ b → b ≡ false
  go false e = refl
  go true e = let none = ap (λ (l : List Change). length l) (told.no_effect e) in absurd (omega (arith, some, none))

-- what a check goes on with
goes_on : (first : Tests) (same : Bool) (tests : Tests) (numbered : Bool) (changes : List Change)
    → check_ending first same tests numbered changes ≡ None → (tests ≡ passes) × (0 < length changes)
goes_on (Err fault) same tests numbered changes e = cc
goes_on (Ok passed) false tests numbered changes e = cc
goes_on (Ok passed) true (Err fault) numbered changes e = cc
goes_on (Ok passed) true (Ok all) false changes e = cc
goes_on (Ok passed) true (Ok all) true [] e = cc
goes_on (Ok passed) true (Ok all) true (change ∷ changes) e = (refl, omega arith)

-- nor does it lead to a drain
no_drain : (first : Tests) (same : Bool) (tests : Tests) (numbered : Bool) (changes : List Change) (draining : Draining)
    → check_ending first same tests numbered changes ≡ Some (Drains draining) → ⊥
no_drain (Err fault) same tests numbered changes draining e = cc
no_drain (Ok passed) false tests numbered changes draining e = cc
no_drain (Ok passed) true (Err fault) numbered changes draining e = cc
no_drain (Ok passed) true (Ok all) false changes draining e = cc
no_drain (Ok passed) true (Ok all) true [] draining e = cc
no_drain (Ok passed) true (Ok all) true (change ∷ changes) draining e = cc

-- nor to what a cleaner ends with
no_clean : (first : Tests) (same : Bool) (tests : Tests) (numbered : Bool) (changes : List Change) (cleaned : Cleaned)
    → check_ending first same tests numbered changes ≡ Some (Cleans cleaned) → ⊥
no_clean (Err fault) same tests numbered changes cleaned e = cc
no_clean (Ok passed) false tests numbered changes cleaned e = cc
no_clean (Ok passed) true (Err fault) numbered changes cleaned e = cc
no_clean (Ok passed) true (Ok all) false changes cleaned e = cc
no_clean (Ok passed) true (Ok all) true [] cleaned e = cc
no_clean (Ok passed) true (Ok all) true (change ∷ changes) cleaned e = cc

-- a turn that ends with a refusal answers nothing
abbrev Unanswered : Telling
Unanswered x s h = is_answered (Ends x s h) ≡ false

-- ---- what a step may rely on

pub record Relied (k : Next) (block a cpu : ℕ) (s : Shared) (h : HandState) (r : Running) : Type 0 where
  pub ending : is_going k ≡ true → r.ending ≡ Answers
  pub fits : FitsAt k block s h r
  pub logs : commits_at k ≡ false → (ino : ℕ) → has (held_at k r.slots) ino ≡ true → settled s ino ≡ log_of (cell_at s ino)
  pub inside : IsInside k r
  pub several : k ≡ Open → nat_lt 1 (length (written_slots r)) ≡ true
  pub written : k ≡ Enter → is_nothing r.call ≡ false → 0 < length (written_slots r)
  pub visit : beginning r.call ≡ Visits → owner_at s (handle_at (handles nothing_looked r.call) 0).ino ≡ None
      → (taken : Allocation) → SameCall block (settled_nodes s) (nodes s) taken r.call

-- these decide nothing
abbrev decides_none : Next → Bool
decides_none Check = false
decides_none Enter = false
decides_none (Publish place) = false
decides_none Close = false
decides_none Visit = false
decides_none (SnapshotOrCleaner step) = false
decides_none other = true

module _ (block a cpu : ℕ) (s : Shared) (h : HandState) (r : Running) where
  abbrev plain : Handle → Option NodeCopy
  plain = node_in (settled_nodes s)

  -- the plain world's answer at a commit point is the one that no node tells
  commit_answer : is_nothing r.call ≡ false → answer (settled_nodes s) r.made r.call ∷ [] ≡ answer_of r ∷ []
  commit_answer some = ap (λ (x : Answer). x ∷ []) (no_node_tells (settled_nodes s) (λ handle. None) r.made r.call (no_visit r.call some).0)

  -- ---- check

  module _ (st : Relied Check block a cpu s h r) (none : IsNoVisit r.call) where
    ending_is : ending_at block s h r ≡ settled_ending block s h r
    ending_is = ending_settled block s h r (st.logs refl) st.fits

    decided_is : has_nothing_to_do block plain r ≡ is_answering (ending_at block s h r)
    decided_is =
        ap (λ (b : Bool). is_pass (refusal block plain r.call) && same_looked (looked plain r.call) r.looked && b)
        (any_made plain r.made (made_in s h.ino r.made) r.call)
        ∙ sym (answers_where (early plain r.call) (same_looked (looked plain r.call) r.looked) (refusal block plain r.call)
        (is_numbered (beginning r.call) h.ino) (effect plain (made_in s h.ino r.made) r.call)
        (λ e. (both_passed (early plain r.call) _ e).0) (needs_none plain (made_in s h.ino r.made) h.ino r.call))
        ∙ ap is_answering (sym ending_is)

    some_then : ending_at block s h r ≡ None → is_nothing r.call ≡ false
    some_then e =
        let both = goes_on (early plain r.call) (same_looked (looked plain r.call) r.looked) (refusal block plain r.call)
        (is_numbered (beginning r.call) h.ino) (effect plain (made_in s h.ino r.made) r.call) (sym ending_is ∙ e) in
        some_call block plain (made_in s h.ino r.made) r.call both.0 both.1

  -- what is told of a call then, if the check ends it
  abbrev told_of : Option Ending → List Answer
  told_of None = []
  told_of (Some e) = told_by e (answer_of (with_made s h r))

  check_is : (b : Bool) (o : Option Ending) (x : Answer) (before : List Answer) → b ≡ is_answering o
      → (b ≡ true → x ≡ answer_of (with_made s h r)) → before ≡ [] → cond b (x ∷ []) [] ++ before ≡ told_of o
  check_is true (Some Answers) x before is same e = ap₂ (λ (a : Answer) (l : List Answer). a ∷ l) (same refl) e
  check_is false (Some Answers) x before is same e = cc
  check_is false None x before is same e = e
  check_is false (Some (Refuses fault)) x before is same e = e
  check_is false (Some (Drains draining)) x before is same e = e
  check_is false (Some BoundAnew) x before is same e = e
  check_is false (Some (Cleans cleaned)) x before is same e = e
  check_is true other x before is same e = cc

  -- no check leads to a drain
  drains_not : (e : Ending) → ending_at block s h r ≡ Some e → is_maintained e ≡ false
  drains_not (Drains draining) is =
      absurd (no_drain (early (copies s) r.call) (same_looked (looked (copies s) r.call) r.looked) (refusal block (copies s) r.call)
      (is_numbered (beginning r.call) h.ino) (effect (copies s) (made_in s h.ino r.made) r.call) draining is)
  drains_not (Cleans cleaned) is =
      absurd (no_clean (early (copies s) r.call) (same_looked (looked (copies s) r.call) r.looked) (refusal block (copies s) r.call)
      (is_numbered (beginning r.call) h.ino) (effect (copies s) (made_in s h.ino r.made) r.call) cleaned is)
  drains_not other is = refl

  -- ---- enter and publish

  entered_keeps : (t : Turn) → keeps_nodes (entered t) ≡ true
  entered_keeps (Moves s h q) = go (commits_at q.next) where
    go : (b : Bool) → keeps_nodes (cond b Numbers Nothing) ≡ true
    go true = refl
    go false = refl
  entered_keeps Waits = refl
  entered_keeps (Ends result s h) = refl

  publish_told : (place : ℕ) (b : Bool) (x : Answer) (before : List Answer) → nat_lt 1 (length (written_slots r)) ≡ b → before ≡ []
      → x ∷ [] ≡ answer_of r ∷ [] → is_nothing r.call ≡ false
      → IsTold (publishing (place + 1) (written_slots r)) (go_to (publishing (place + 1) (written_slots r)) r)
      (cond (not (keeps_nodes (cond b Nothing Commits))) (x ∷ []) [] ++ before)
  publish_told place true x before several none same some =
      before_told (publishing (place + 1) (written_slots r)) _ before (several_before (written_slots r) (place + 1) several) none some
  publish_told place false x before one none same some =
      behind_told (publishing (place + 1) (written_slots r)) _ (x ∷ before) (single_behind (written_slots r) place one)
      (ap (λ (l : List Answer). x ∷ l) none ∙ same) some

  -- ---- visit

  none_then : (p q : Bool) (x : Answer) (before : List Answer) → q ≡ false → before ≡ [] → cond (p && q) (x ∷ []) [] ++ before ≡ []
  none_then true true x before e none = cc
  none_then true false x before e none = none
  none_then false q x before e none = none

  visit_told : (owner : Option ℕ) (all tests : Tests) (given : Bool) (x found : Answer) (before : List Answer)
      → is_snapshot_or_cleaner r.call ≡ false → before ≡ [] → (owner ≡ None → (all ≡ tests) × (x ≡ found))
      → OnTold before (cond (is_pass all && is_answered (visit_turn owner tests given found s h r)) (x ∷ []) [] ++ before)
      (visit_turn owner tests given found s h r)
  visit_told (Some other) all tests given x found before on_files none same =
      none_then (is_pass all) false x before refl none ∙ sym none
  visit_told None all (Err fault) given x found before on_files none same =
      ends_go _ _ _ s h r (Refuses fault) r.slots
      (denied_told (none_then (is_pass all) _ x before (refuses fault r.slots s h r) none) on_files)
  visit_told None (Err fault) (Ok passed) given x found before on_files none same = let e = (same refl).0 in cc
  visit_told None (Ok all) (Ok passed) true x found before on_files none same =
      ap₂ (λ (a : Answer) (l : List Answer). a ∷ l) (same refl).1 none
  visit_told None (Ok all) (Ok passed) false x found before on_files none same =
      ends_go _ _ _ s h r (Refuses out_of_memory) r.slots
      (denied_told (none_then true _ x before (refuses out_of_memory r.slots s h r) none) on_files)

  -- ---- all kinds

  module _ (granted : Bool) (before : List Answer) where
    abbrev Goes : Going
    Goes = ToldGoes before

    abbrev Tells : Telling
    Tells = ToldEnds before

    takes : (k : Next) → before ≡ [] → is_nothing r.call ≡ false → is_list_taker k ≡ true → Takes Goes k block a s h r
    takes (TakeBlocks asked) none some on =
        any_takes Goes Tells block a s h r (TakeBlocks asked) (λ n next is. taking_told none next _ is some) refl
    takes (TakeLogPages asked) none some on =
        any_takes Goes Tells block a s h r (TakeLogPages asked) (λ n next is. taking_told none next _ is some) refl
    takes other none some on = absurd (false≢true on)

    -- of a kind that decides nothing
    ways : (k : Next) → Relied k block a cpu s h r → IsTold k r before → decides_none k ≡ true → WaysOf Goes Tells k block a granted s h r
    ways Number st d on = locking_told d.told 0 (numbered_slots s.pool.numbers s r) _ d.stage
    ways (Look place) st d on =
        (λ fault free by. denied_told d.told d.stage.1, λ clear. looking_told d.told (place + 1) (noted (Look place) block s h r) d.stage)
    ways (Lock place) st d on = λ free. locking_told d.told (place + 1) r.slots _ d.stage
    ways (TakeBlocks asked) st d on =
        (takes (TakeBlocks asked) d.told d.stage refl, λ n is last. denied_told d.told (no_visit r.call d.stage).1)
    ways (TakeLogPages asked) st d on =
        (takes (TakeLogPages asked) d.told d.stage refl, λ n is last. denied_told d.told (no_visit r.call d.stage).1)
    ways Ready st d on = (λ lacks. denied_told d.told (no_visit r.call d.stage).1, record { told = d.told; stage = d.stage })
    ways (Append place) st d on =
        before_told (appending (place + 1) (written_slots r)) _ before
        (appending_before (written_slots r) (place + 1) (let lt = st.inside in omega (arith, lt))) d.told d.stage
    ways Open st d on =
        before_told (publishing 0 (written_slots r)) _ before (several_before (written_slots r) 0 (st.several refl)) d.told d.stage
    ways (Retire place) st d on =
        behind_told (retiring (place + 1) (written_slots r)) _ before (retiring_behind (written_slots r) (place + 1)) d.told d.stage
    ways Leave st d on =
        ends_told (ap is_maintained (st.ending refl), (no_visit r.call d.stage).1)
        (d.told ∙ ap (λ (e : Ending). told_by e (answer_of r)) (sym (st.ending refl))) (λ e. no_visit r.call d.stage)
    ways (Unlock place) st d on =
        (λ more. record { told = d.told; stage = d.stage }, λ past. overs_told d.stage.0 d.told d.stage.1)
    ways (Give home) st d on = rests_told d.stage d.told
    ways ReturnNumber st d on = lasts_told d.stage d.told
    ways other st d on = absurd (false≢true on)

    walked : (k : Next) → Relied k block a cpu s h r → IsTold k r before → decides_none k ≡ true → is_on_files k ≡ true
        → OnTold before before (kind_turn k block a granted s h r)
    walked k st d on files = walk_by (before ≡ before) Goes Tells block a s h r k granted (λ blocked. refl) (ways k st d on) files

  pub kind_told : (k : Next) (granted : Bool) (before : List Answer) → Relied k block a cpu s h r → IsTold k r before
      → OnTold before (decision k block s r (kind_turn k block a granted s h r) ++ before) (kind_turn k block a granted s h r)
  kind_told Check granted before st d =
      let is = check_is (has_nothing_to_do block plain r) (ending_at block s h r) (answer (settled_nodes s) r.made r.call) before
      (decided_is st d.stage) (λ e. same_told (settled_nodes s) r.made (made_in s h.ino r.made) r.call plain d.stage
      (and_parts (is_pass (refusal block plain r.call) && same_looked (looked plain r.call) r.looked)
      (is_no_change (effect plain r.made r.call)) e).1) d.told in
      walk_by _ _ _ block a s h r Check granted (λ blocked. absurd blocked) (
        λ e by. ends_told (drains_not e by, d.stage.1) (is ∙ ap told_of by) (λ over. d.stage),
        λ none lacks. denied_told (is ∙ ap told_of none) d.stage.1,
        λ none. any_takes _ (ToldEnds []) block a s h r Check
            (λ n next on. taking_told (is ∙ ap told_of none) next _ on (some_then st d.stage none)) refl,
      ) refl
  kind_told Enter granted before st d =
      let is = subst (λ (b : Bool). cond (not b) (answer (settled_nodes s) r.made r.call ∷ []) [] ++ before ≡ [])
      (sym (entered_keeps (kind_turn Enter block a granted s h r))) d.told in
      walk_by _ _ _ block a s h r Enter granted (λ blocked. is ∙ sym d.told) (
        λ free last. denied_told is (no_visit r.call d.stage).1,
        λ clear lacks. denied_told is (no_visit r.call d.stage).1,
        λ clear. before_told (appending 0 (written_slots r)) _ _ (appending_before (written_slots r) 0 (st.written refl d.stage)) is d.stage,
      ) refl
  kind_told (Publish place) granted before st d =
      publish_told place (nat_lt 1 (length (written_slots r))) (answer (settled_nodes s) r.made r.call) before refl d.told
      (commit_answer d.stage) d.stage
  kind_told Close granted before st d =
      behind_told (retiring 0 (written_slots r)) _ _ (retiring_behind (written_slots r) 0)
      (ap (λ (l : List Answer). answer (settled_nodes s) r.made r.call ∷ l) d.told ∙ commit_answer d.stage) d.stage
  kind_told Visit granted before st d =
      visit_told (owner_at s (handle_at (handles nothing_looked r.call) 0).ino) (refusal block plain r.call)
      (refusal block (copies s) r.call) (granted || not (visit_grows r.call)) (answer (settled_nodes s) r.made r.call)
      (answer (nodes s) r.made r.call) before (plain_visit r.call d.stage) d.told
      (λ free. let c = st.visit d.stage free (record { made = r.made; runs = [] }) in (sym c.refusal, sym c.answer))
  kind_told (SnapshotOrCleaner step) granted before st d = absurd d.stage
  kind_told other granted before st d = walked granted before other st d refl refl
