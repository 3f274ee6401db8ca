-- Behind the steps up to its commit nothing of the row is asked any more.
use Rattle.std.proofs.Common.{◌≡◌, ℕ, ◌+◌, ◌<◌, ◌∙◌, Bool, true, false, List, Option, length, refl, sym}
use Rattle.std.proofs.lemmas.Bool.{false≢true, true≢false}
use Rattle.nv_calls.specs.declared.call.Call.{Call}
use Rattle.nv_machine.specs.Hands.{is_going}
use Rattle.nv_machine.specs.Reads.{written_slots}
use Rattle.nv_machine.specs.Sequence.{appending, publishing, retiring}
use Rattle.nv_machine.specs.Step.{kind_turn}
use Rattle.nv_machine.specs.World.{Answers, Append, Close, Ending, Enter, Give, HandState, Leave, SnapshotOrCleaner, Next, Open, BoundAnew, Publish, Retire, ReturnNumber, Running, Shared, Unlock, Visit, go_to}
use Rattle.nv_machine.proofs.NextSteps.{Known, KnowsNext, OnKnown, Untold}
use Rattle.nv_machine.proofs.LoopSteps.{Commits, appending_any, is_on_files, publishing_any, retiring_any}
use Rattle.nv_machine.proofs.StepWalk.{WaysOf, walk_of}
use Rattle.nv_machine.proofs.StepWays.{Rests, any_ends, any_overs, noted}
use Rattle.nv_machine.proofs.StepWork.{work}
use Rattle.nv_serial.proofs.Takes.{Stage, is_before_commit, refused_closes, stage_closes}

module _ (block actor : ℕ) (s0 : Shared) (c : Call) (some : 0 < length s0.lists) where
  abbrev St : Known
  St = Stage block actor s0 c some

  late_commits : (s : Shared) (h : HandState) (r : Running) → Commits (λ (k : Next). St k s h r)
  late_commits s h r = record { append = λ place. tt; opens = tt; publish = λ place. tt; close = tt; retire = λ place. tt; leave = tt }

  rests_on : {home : Option ℕ} {s : Shared} {h : HandState} {r : Running} {e : Ending} → Rests (KnowsNext St) Untold home s h r e
  rests_on = record {
    give = λ cpu is. tt;
    back = λ ino none is. tt;
    lasts = λ none is. record { told = λ full. tt; picks = λ d left drains some. tt };
  }

  pub past_on : (k : Next) (granted : Bool) (s : Shared) (h : HandState) (r : Running) → is_before_commit k ≡ false
      → is_on_files k ≡ true → (is_going k ≡ true → r.ending ≡ Answers) → St k s h r
      → OnKnown St (kind_turn k block actor granted s h r)
  past_on k granted s h r e files going on = go k e files going on where
    walks : (k : Next) → WaysOf (KnowsNext St) Untold k block actor granted s h r → is_on_files k ≡ true
        → OnKnown St (kind_turn k block actor granted s h r)
    walks k ways is = walk_of (KnowsNext St) Untold block actor s h r k granted ways is

    W : List ℕ
    W = written_slots r

    go : (k : Next) → is_before_commit k ≡ false → is_on_files k ≡ true → (is_going k ≡ true → r.ending ≡ Answers) → St k s h r
        → OnKnown St (kind_turn k block actor granted s h r)
    go Enter e files going on = walks Enter (
      λ free last. any_ends (refused_closes block actor s0 c some),
      λ clear lacks. any_ends (refused_closes block actor s0 c some),
      λ clear. (let q = noted Enter block s h r in let d = work Enter block actor s h r in
          let t : Running = go_to (appending 0 (written_slots q)) q in
          appending_any (λ (n : Next). St n d.shared d.hand t) (late_commits d.shared d.hand t) 0 (written_slots q)),
    ) refl
    go (Append place) e files going on =
        let d = work (Append place) block actor s h r in let t : Running = go_to (appending (place + 1) W) r in
        walks (Append place) (appending_any (λ (n : Next). St n d.shared d.hand t) (late_commits d.shared d.hand t) (place + 1) W) refl
    go Open e files going on =
        let d = work Open block actor s h r in let t : Running = go_to (publishing 0 W) r in
        walks Open (publishing_any (λ (n : Next). St n d.shared d.hand t) (late_commits d.shared d.hand t) 0 W) refl
    go (Publish place) e files going on =
        let d = work (Publish place) block actor s h r in let t : Running = go_to (publishing (place + 1) W) r in
        walks (Publish place) (publishing_any (λ (n : Next). St n d.shared d.hand t) (late_commits d.shared d.hand t) (place + 1) W) refl
    go Close e files going on =
        let d = work Close block actor s h r in let t : Running = go_to (retiring 0 W) r in
        walks Close (retiring_any (λ (n : Next). St n d.shared d.hand t) (late_commits d.shared d.hand t) 0 W) refl
    go (Retire place) e files going on =
        let d = work (Retire place) block actor s h r in let t : Running = go_to (retiring (place + 1) W) r in
        walks (Retire place) (retiring_any (λ (n : Next). St n d.shared d.hand t) (late_commits d.shared d.hand t) (place + 1) W) refl
    go Leave e files going on = walks Leave (any_ends (stage_closes block actor s0 c some (λ over. absurd (not_over (sym (going refl) ∙ over))))) refl where
      not_over : Answers ≡ BoundAnew → ⊥
      not_over x = cc
    go (Unlock place) e files going on = walks (Unlock place) (λ more. on, λ past. any_overs (stage_closes block actor s0 c some on)) refl
    go (Give cpu) e files going on = walks (Give cpu) rests_on refl
    go ReturnNumber e files going on =
        walks ReturnNumber (record { told = λ full. tt; picks = λ d left drains some. tt }) refl
    go Visit e files going on = walks Visit (
      λ fault free by. any_ends (refused_closes block actor s0 c some),
      λ free passed lacks. any_ends (refused_closes block actor s0 c some),
      λ free passed. tt,
    ) refl
    go (SnapshotOrCleaner step) e files going on = absurd (false≢true files)
    go other e files going on = absurd (true≢false e)
