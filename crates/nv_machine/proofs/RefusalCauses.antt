-- Each refusal has its cause at the step that refuses.
use Rattle.std.proofs.Common.{Bool, List, None, Option, Some, [], ap, arith, false, inl, inr, length, nat_lt, refl, subst, suc, sym, true, zero, ℕ, ◌+◌, ◌-◌, ◌<◌, ◌∙◌, ◌∷◌, ◌≡◌, ◌⊎◌}
use Rattle.std.specs.Prelude.{Err, Ok}
use Rattle.std.proofs.lemmas.Bool.{false≢true, leb-true, ltb-false}
use Rattle.nv_base.specs.declared.fault.Fault.{Fault}
use Rattle.nv_base.specs.declared.fault.Fault.TheVariants.{CommitLimit, NoInode, NoSpace}
use Rattle.nv_base.specs.Memory.{out_of_memory}
use Rattle.nv_base.specs.declared.limits.TheConstants.{NUMBER}
use Rattle.nv_base.specs.declared.numbers.Handle.{Handle}
use Rattle.nv_entry.specs.declared.node.NodeCopy.{NodeCopy}
use Rattle.nv_calls.specs.AllCalls.{early, effect, late, look_refusal, looked, refusal}
use Rattle.nv_calls.specs.Plain.{Change}
use Rattle.nv_calls.specs.Refusals.{Check as Tests, and_then, passes}
use Rattle.nv_machine.specs.Answered.{IsEnding}
use Rattle.nv_machine.specs.Causes.{EndsFor, FindsNone, IsCause, IsCauseOn, IsRefusal, IsRoundless, IsShort, MayBeOvertaken, RefusesFor, ResultFor}
use Rattle.nv_machine.specs.Kinds.{asked_list, check_ending, look_tests, number_turn}
use Rattle.nv_machine.specs.Reads.{copies}
use Rattle.nv_machine.specs.Sequence.{beginning, directories, sequel}
use Rattle.nv_machine.specs.SnapshotOrCleaner.{shown_by, snapshot_or_cleaner_turn}
use Rattle.nv_machine.specs.Step.{check_grows, ending_at, handle_at, is_numbered, kind_turn, made_in, same_looked, visit_grows, with_made}
use Rattle.nv_machine.specs.World.{Answers, ReturnNumber, Check, Draining, Drains, Ending, Enter, Give, HandState, Leave, Lock, Look, Make, Moves, Next, BoundAnew, Ready, Refuses, Running, Shared, SnapshotOrCleanerStep, SnapshotOrCleaner, TakeBlocks, TakeLogPages, Turn, Unlock, Unpin, Visit, list_at, owner_at, Cleans, Compact, Fresh, PlanCleaning, Release, Unlink}
use Rattle.nv_machine.proofs.StepWays.{After, Closes, EndsBy, Going, IsClear, Takes, Telling, any_ends, any_lasts, any_rests, asks_on, by_last, is_last, is_overtaken, noted, noted_ending}
use Rattle.nv_machine.proofs.StepWalk.{WaysOf, last_ways, walk_of}
use Rattle.nv_machine.proofs.SnapshotOrCleanerWalk.{next_on, no_growth, snapshot_or_cleaner_walk, told_on, EndsWith}
use Rattle.nv_clean.specs.declared.cleaned.Cleaned.{Cleaned}

-- ---- a call that goes on or is answered

pub unrefused : (P : Fault → Type 0) (Q : Type 0) (next : Next) (e : Ending) → e ≡ Answers → EndsFor P Q next e
unrefused P Q next Answers e = tt
unrefused P Q next other e = cc

-- ---- endings

ends_last : (k : Next) → is_last k ≡ true → IsEnding k
ends_last = by_last IsEnding (λ place. tt) (λ cpu. tt) tt

module _ (P : Fault → Type 0) (Q : Type 0) where
  abbrev GoesFor : Going
  GoesFor s h q = EndsFor P Q q.next q.ending

  abbrev TellsFor : Telling
  TellsFor x s h = ResultFor P x

  on_turn : (t : Turn) → After GoesFor TellsFor t → RefusesFor P Q t
  on_turn (Moves s h q) on = on
  on_turn other on = on

  refuses : {s : Shared} {h : HandState} {r : Running} (fault : Fault) → P fault → Closes GoesFor TellsFor s h r (Refuses fault)
  refuses fault p = record {
    last = λ k is. (p, ends_last k is);
    told = p;
    again = λ n over some. tt;
    picks = λ d left drains some. tt;
  }

  cleans : {s : Shared} {h : HandState} {r : Running} (c : Cleaned) → Closes GoesFor TellsFor s h r (Cleans c)
  cleans c = record { last = λ k is. tt; told = tt; again = λ n over some. tt; picks = λ d left drains some. tt }

  drains : {s : Shared} {h : HandState} {r : Running} (d : Draining) → Closes GoesFor TellsFor s h r (Drains d)
  drains d = record { last = λ k is. tt; told = tt; again = λ n over some. tt; picks = λ d left drains some. tt }

  answers : {s : Shared} {h : HandState} {r : Running} (e : Ending) → e ≡ Answers → Closes GoesFor TellsFor s h r e
  answers e is = subst (Closes GoesFor TellsFor _ _ _) (sym is)
      (record { last = λ k is. tt; told = tt; again = λ n over some. tt; picks = λ d left drains some. tt })

-- ---- the tests

pub look_told : (place : ℕ) (tests : Tests) (fault : Fault) → look_tests place tests ≡ Err fault → tests ≡ Err fault
look_told zero tests fault e = e
look_told (suc place) tests fault e = cc

-- how a check ends a call, with its cause
abbrev pub CheckCause : Tests → Bool → Tests → Bool → Option Ending → Type 0
CheckCause first same all numbered None = all ≡ passes
CheckCause first same all numbered (Some Answers) = Unit {0}
CheckCause first same all numbered (Some BoundAnew) = (first ≡ passes) × (same ≡ false)
CheckCause first same all numbered (Some (Drains draining)) = ⊥
CheckCause first same all numbered (Some (Cleans cleaned)) = ⊥
CheckCause first same all numbered (Some (Refuses fault)) =
    (first ≡ Err fault) ⊎ (all ≡ Err fault) ⊎ ((fault ≡ NoInode) × (numbered ≡ false) × (all ≡ passes))

pub check_told : (first : Tests) (same : Bool) (all : Tests) (numbered : Bool) (changes : List Change)
    → CheckCause first same all numbered (check_ending first same all numbered changes)
check_told (Err fault) same all numbered changes = inl refl
check_told (Ok passed) false all numbered changes = (refl, refl)
check_told (Ok passed) true (Err fault) numbered changes = inr (inl refl)
check_told (Ok passed) true (Ok rest) false changes = inr (inr (refl, refl, refl))
check_told (Ok passed) true (Ok rest) true [] = tt
check_told (Ok passed) true (Ok rest) true (change ∷ changes) = refl

-- what is tested first refuses the call
first_refuses : (block : ℕ) (nodes : Handle → Option NodeCopy) (r : Running) (fault : Fault) → early nodes r.call ≡ Err fault
    → IsRefusal block nodes r fault
first_refuses block nodes r fault e = ap (λ tests. and_then tests (late block nodes (looked nodes r.call) r.call)) e

short_list : (s : Shared) (cpu asked : ℕ) (r : Running) → 0 < r.wanted - length (list_at s cpu).blocks
    → nat_lt (asked + 1) (length s.lists) ≡ false → IsShort s cpu asked r.wanted NoSpace
short_list s cpu asked r left none = record {
  is = refl;
  last = ltb-false (asked + 1) (length s.lists) none;
  short = omega (arith, left);
}

-- the tests of these nodes are those that a step goes by
abbrev pub ReadsAs : Next → ℕ → (Handle → Option NodeCopy) → Shared → HandState → Running → Type 0
ReadsAs (Look place) block nodes s h r =
    (fault : Fault) → owner_at s (handle_at (directories r.call) place).ino ≡ None
    → look_tests place (look_refusal (copies s) r.call) ≡ Err fault → look_refusal nodes r.call ≡ Err fault
ReadsAs Check block nodes s h r =
    CheckCause (early nodes r.call) (same_looked (looked nodes r.call) r.looked) (refusal block nodes r.call)
    (is_numbered (beginning r.call) h.ino) (ending_at block s h r)
ReadsAs Visit block nodes s h r = IsClear Visit s r → refusal block nodes r.call ≡ refusal block (copies s) r.call
ReadsAs other block nodes s h r = Unit {0}

pub reads_itself : (k : Next) (block : ℕ) (s : Shared) (h : HandState) (r : Running) → ReadsAs k block (copies s) s h r
reads_itself (Look place) block s h r = λ fault free told. look_told place (look_refusal (copies s) r.call) fault told
reads_itself Check block s h r =
    check_told (early (copies s) r.call) (same_looked (looked (copies s) r.call) r.looked) (refusal block (copies s) r.call)
    (is_numbered (beginning r.call) h.ino) (effect (copies s) (made_in s h.ino r.made) r.call)
reads_itself Visit block s h r = λ free. refl
reads_itself other block s h r = tt

-- ---- every kind

module _ (nodes : Handle → Option NodeCopy) (block a : ℕ) (granted : Bool) (s : Shared) (h : HandState) (r : Running)
    (going : r.ending ≡ Answers) where
  abbrev For : Next → Fault → Type 0
  For k fault = IsCause k block a granted nodes s h r fault

  abbrev Goes : Next → Going
  Goes k = GoesFor (For k) (MayBeOvertaken k nodes r)

  abbrev Tells : Next → Telling
  Tells k = TellsFor (For k) (MayBeOvertaken k nodes r)

  on : (k next : Next) → EndsFor (For k) (MayBeOvertaken k nodes r) next (noted k block s h r).ending
  on k next = unrefused (For k) (MayBeOvertaken k nodes r) next _ (noted_ending k block s h r ∙ going)

  denied : {slots : List ℕ} {t : Shared} {x : HandState} {q : Running} (k : Next) (fault : Fault) → For k fault
      → EndsBy (Goes k) (Tells k) slots t x q (Refuses fault)
  denied k fault p = any_ends (refuses (For k) (MayBeOvertaken k nodes r) fault p)

  answered : {t : Shared} {x : HandState} (k : Next) → Closes (Goes k) (Tells k) t x r r.ending
  answered k = answers (For k) (MayBeOvertaken k nodes r) r.ending going

  takes : (k : Next) → Takes (Goes k) k block a s h r
  takes k = record {
    more = λ n is ask. on k (asks_on k);
    pages = λ n none is. on k (TakeLogPages 0);
    ready = λ none is. on k Ready;
  }

  check_ends : (e : Ending)
      → CheckCause (early nodes r.call) (same_looked (looked nodes r.call) r.looked) (refusal block nodes r.call)
      (is_numbered (beginning r.call) h.ino) (Some e)
      → EndsBy (Goes Check) (Tells Check) r.slots s h (with_made s h r) e
  check_ends Answers told = any_ends (answers (For Check) (MayBeOvertaken Check nodes r) Answers refl)
  check_ends BoundAnew told = record {
    unlock = λ some. told;
    overs = λ none. record {
      again = λ n over some. tt;
      contended = λ over zero. inr (inr (inr (refl, told, none, zero)));
      rests = λ is. cc;
    };
  }
  check_ends (Drains d) told = absurd told
  check_ends (Cleans c) told = absurd told
  check_ends (Refuses fault) (inl first) = denied Check fault (inl (first_refuses block nodes r fault first))
  check_ends (Refuses fault) (inr (inl all)) = denied Check fault (inl all)
  check_ends (Refuses fault) (inr (inr number)) = denied Check fault (inr (inl ((number.0, number.1), number.2)))

  short : (n asked : ℕ) → r.wanted - length (list_at s (asked_list (length s.lists) a asked)).blocks ≡ suc n
      → nat_lt (asked + 1) (length s.lists) ≡ false → IsShort s (asked_list (length s.lists) a asked) asked r.wanted NoSpace
  short n asked is last = short_list s (asked_list (length s.lists) a asked) asked r (omega (arith, is)) last

  works : (k : Next) → EndsFor (For k) (MayBeOvertaken k nodes r) (sequel (noted k block s h r) k) (noted k block s h r).ending
  works k = on k (sequel (noted k block s h r) k)

  ways : (k : Next) → ReadsAs k block nodes s h r → WaysOf (Goes k) (Tells k) k block a granted s h r
  ways (Look place) reads = (λ fault free by. denied (Look place) fault (reads fault free by), λ clear. works (Look place))
  ways (Lock place) reads = λ free. works (Lock place)
  ways Check reads = (
    λ e by. check_ends e (subst (CheckCause (early nodes r.call) (same_looked (looked nodes r.call) r.looked)
        (refusal block nodes r.call) (is_numbered (beginning r.call) h.ino)) by reads),
    λ none lacks. (let room = no_growth granted (check_grows block s h r) lacks in
        denied Check out_of_memory (inr (inr (inl (
          (refl, room.0),
          room.1,
          subst (CheckCause (early nodes r.call)
              (same_looked (looked nodes r.call) r.looked) (refusal block nodes r.call) (is_numbered (beginning r.call) h.ino)) none reads,
        ))))),
    λ none. takes Check,
  )
  ways (TakeBlocks asked) reads = (takes (TakeBlocks asked), λ n is last. denied (TakeBlocks asked) NoSpace (short n asked is last))
  ways (TakeLogPages asked) reads = (takes (TakeLogPages asked), λ n is last. denied (TakeLogPages asked) NoSpace (short n asked is last))
  ways Ready reads = (λ lacks. denied Ready out_of_memory (refl, lacks), works Ready)
  ways Enter reads = (
    λ free last. denied Enter CommitLimit (inl (refl, leb-true NUMBER s.book.commit last)),
    λ clear lacks. denied Enter out_of_memory (inr (refl, lacks)),
    λ clear. works Enter,
  )
  ways Leave reads = any_ends (answered Leave)
  ways (Unlock place) reads = last_ways (Goes (Unlock place)) (Tells (Unlock place)) block a s h r (Unlock place) granted refl (answered (Unlock place))
  ways (Give cpu) reads = any_rests (answered (Give cpu))
  ways ReturnNumber reads = any_lasts (answered ReturnNumber)
  ways Visit reads = (
    λ fault free by. denied Visit fault (inl (reads free ∙ by)),
    λ free passed lacks. (let none = no_growth granted (visit_grows r.call) lacks in
        denied Visit out_of_memory (inr ((refl, none.0), none.1, reads free ∙ passed))),
    λ free passed. tt,
  )
  ways (SnapshotOrCleaner step) reads = tt
  ways other reads = works other

  ends_for : (step : SnapshotOrCleanerStep) (e : Ending) → EndsWith step a s h e → {t : Shared} {x : HandState}
      → Closes (Goes (SnapshotOrCleaner step)) (Tells (SnapshotOrCleaner step)) t x r e
  ends_for (Release draining picked) e is =
      subst (Closes _ _ _ _ r) (sym is) (drains (For (SnapshotOrCleaner (Release draining picked))) _ _)
  ends_for (PlanCleaning manner slot) e is = subst (Closes _ _ _ _ r) (sym is.0) (cleans (For (SnapshotOrCleaner (PlanCleaning manner slot))) _ _)
  ends_for (Fresh ino asked wanted) e is =
      subst (Closes _ _ _ _ r) (sym is.0) (refuses (For (SnapshotOrCleaner (Fresh ino asked wanted))) _ NoSpace is.1)
  ends_for (Unlink ino) e is = subst (Closes _ _ _ _ r) (sym is) (cleans (For (SnapshotOrCleaner (Unlink ino))) _ _)
  ends_for (Compact ino) e is = subst (Closes _ _ _ _ r) (sym is) (cleans (For (SnapshotOrCleaner (Compact ino))) _ _)
  ends_for other e is = absurd is

  snapshot_caused : (step : SnapshotOrCleanerStep)
      → RefusesFor (For (SnapshotOrCleaner step)) (MayBeOvertaken (SnapshotOrCleaner step) nodes r) (snapshot_or_cleaner_turn step a granted s h r)
  snapshot_caused step =
      on_turn (For (SnapshotOrCleaner step)) (MayBeOvertaken (SnapshotOrCleaner step) nodes r) (snapshot_or_cleaner_turn step a granted s h r)
      (snapshot_or_cleaner_walk (Goes (SnapshotOrCleaner step)) (Tells (SnapshotOrCleaner step)) a s h r step granted (record {
        stops = λ fault cause. any_ends (refuses (For (SnapshotOrCleaner step)) (MayBeOvertaken (SnapshotOrCleaner step) nodes r) fault cause.1);
        goes = λ on clear. unrefused (For (SnapshotOrCleaner step)) (MayBeOvertaken (SnapshotOrCleaner step) nodes r)
            (SnapshotOrCleaner (next_on step s)) r.ending going;
        told = λ on clear. told step;
        denied = λ snapshot showing on.
            (subst (λ (x : SnapshotOrCleanerStep). IsCauseOn x a granted s out_of_memory) (sym on.0) (refl, on.1), tt);
        leads_on = λ next leads. unrefused (For (SnapshotOrCleaner step)) (MayBeOvertaken (SnapshotOrCleaner step) nodes r)
            (SnapshotOrCleaner next) r.ending going;
        over = λ e ends. any_ends (ends_for step e ends);
        none = λ draining on empty. tt;
      })) where
        told : (other : SnapshotOrCleanerStep) → ResultFor (For (SnapshotOrCleaner step)) (told_on other s r)
        told (Unpin snapshot seen) = subst (λ (e : Ending). ResultFor (For (SnapshotOrCleaner step)) (shown_by e seen)) (sym going) tt
        told Make = tt
        told other = tt

  pub caused_by : (k : Next) → ReadsAs k block nodes s h r
      → RefusesFor (IsCause k block a granted nodes s h r) (MayBeOvertaken k nodes r) (kind_turn k block a granted s h r)
  caused_by (SnapshotOrCleaner step) reads = snapshot_caused step
  caused_by other reads =
      on_turn (For other) (MayBeOvertaken other nodes r) (kind_turn other block a granted s h r)
      (walk_of (Goes other) (Tells other) block a s h r other granted (ways other reads) refl)

pub caused : (k : Next) (block actor : ℕ) (granted : Bool) (s : Shared) (h : HandState) (r : Running) → r.ending ≡ Answers
    → RefusesFor (IsCause k block actor granted (copies s) s h r) (MayBeOvertaken k (copies s) r) (kind_turn k block actor granted s h r)
caused k block actor granted s h r going = caused_by (copies s) block actor granted s h r going k (reads_itself k block s h r)

-- ---- the last unlock of a call that was overtaken

pub contended : (place block actor : ℕ) (granted : Bool) (s : Shared) (h : HandState) (r : Running) → r.ending ≡ BoundAnew
    → RefusesFor (IsRoundless r) (Unit {0}) (kind_turn (Unlock place) block actor granted s h r)
contended place block actor granted s h r over =
    on_turn (IsRoundless r) (Unit {0}) (kind_turn (Unlock place) block actor granted s h r)
    (walk_of (GoesFor (IsRoundless r) (Unit {0})) (TellsFor (IsRoundless r) (Unit {0})) block actor s h r (Unlock place) granted (
      λ more. subst (EndsFor (IsRoundless r) (Unit {0}) (Unlock (place + 1))) (sym over) tt,
      λ past. record {
        again = λ n is some. tt;
        contended = λ is none. (refl, none);
        rests = λ is. absurd (false≢true (sym is ∙ ap is_overtaken over));
      },
    ) refl)

-- ---- the number step

pub finds_none : (numbers : List ℕ) (s : Shared) (h : HandState) (r : Running) → s.pool.numbers ≡ numbers
    → FindsNone s (number_turn numbers s h r)
finds_none [] s h r is = λ e. is
finds_none (ino ∷ numbers) s h r is = λ e. cc
