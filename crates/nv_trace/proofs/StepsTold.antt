-- The line of a step, by what the world told before it.
use Rattle.std.proofs.Common.{◌≡◌, ◌≢◌, ◌∙◌, ℕ, List, [], ◌∷◌, ◌++◌, Option, Some, None, ap, append-nil, append_assoc, refl, sym}
use Rattle.std.specs.Prelude.{option_map}
use Rattle.nv_machine.specs.Step.{step}
use Rattle.nv_machine.specs.StepNames as named
use Rattle.nv_machine.specs.Frame.{Lent, lent, lent_on}
use Rattle.nv_machine.specs.PlainRun.{plain_change_of}
use Rattle.nv_machine.specs.StepRows.{name_of, name_on}
use Rattle.nv_machine.specs.World as machine
use Rattle.nv_machine.specs.World.{actor_at}
use Rattle.nv_core.specs.CallNames.{call_name}
use Rattle.nv_core.specs.NextSteps.{IsNext, holder_for, name_in, number_at}
use Rattle.nv_core.specs.Worlds.{IsStep, Shows, WorldState, reply_of}
use Rattle.nv_core.specs.declared.call_name.CallName.{CallName}
use Rattle.nv_core.specs.declared.event.Event.TheVariants.{Go}
use Rattle.nv_core.specs.declared.event.Reply.{Reply}
use Rattle.nv_core.specs.declared.event.Reply.TheVariants as reply
use Rattle.nv_core.specs.declared.next_step.NextStep.{NextStep}
use Rattle.nv_core.proofs.Replies.{go_reply}
use Rattle.nv_script.specs.declared.trace.Trace.{Trace}
use Rattle.nv_script.specs.Trace.{go_line, start_lines, step_by}
use Rattle.nv_trace.specs.Traced.{IsTracedStep, lent_named}

same_name : (a b : CallName) → Some a ≡ Some b → a ≡ b
same_name a b is = cc

no_name : (a : CallName) → Some a ≡ None → ⊥
no_name a is = cc

-- what a step on snapshots, or of a cleaner, is lent goes by its name
lent_on_so : (k : machine.SnapshotOrCleanerStep) (cpus actor : ℕ) → lent_named (name_on k cpus actor) ≡ lent_on k cpus actor
lent_on_so machine.Make cpus actor = refl
lent_on_so (machine.Drop snapshot) cpus actor = refl
lent_on_so (machine.Pin snapshot) cpus actor = refl
lent_on_so (machine.Show snapshot showing) cpus actor = refl
lent_on_so (machine.Unpin snapshot seen) cpus actor = refl
lent_on_so (machine.Pick draining) cpus actor = refl
lent_on_so (machine.LockPicked draining picked) cpus actor = refl
lent_on_so (machine.Release draining picked) cpus actor = refl
lent_on_so (machine.LockCleaned manner ino) cpus actor = refl
lent_on_so (machine.PlanCleaning manner slot) cpus actor = refl
lent_on_so (machine.Fresh ino asked wanted) cpus actor = refl
lent_on_so (machine.Unlink ino) cpus actor = refl
lent_on_so (machine.Compact ino) cpus actor = refl

-- and so with each step
pub lent_so : (k : machine.Next) (cpus actor : ℕ) (r : machine.Running) → lent_named (name_of k cpus actor r) ≡ lent k cpus actor r
lent_so machine.Number cpus actor r = refl
lent_so (machine.Look place) cpus actor r = refl
lent_so (machine.Lock place) cpus actor r = refl
lent_so machine.Check cpus actor r = refl
lent_so (machine.TakeBlocks asked) cpus actor r = refl
lent_so (machine.TakeLogPages asked) cpus actor r = refl
lent_so machine.Ready cpus actor r = refl
lent_so machine.Enter cpus actor r = refl
lent_so (machine.Append place) cpus actor r = refl
lent_so machine.Open cpus actor r = refl
lent_so (machine.Publish place) cpus actor r = refl
lent_so machine.Close cpus actor r = refl
lent_so (machine.Retire place) cpus actor r = refl
lent_so machine.Leave cpus actor r = refl
lent_so (machine.Unlock place) cpus actor r = refl
lent_so (machine.Give cpu) cpus actor r = refl
lent_so machine.ReturnNumber cpus actor r = refl
lent_so machine.Visit cpus actor r = refl
lent_so (machine.SnapshotOrCleaner step) cpus actor r = lent_on_so step cpus actor

module _ (form : Trace) (number actor : ℕ) (m : machine.World) (answer : Reply) (new : WorldState) (made : IsStep m (Go actor) answer new) where
  -- an actor that runs no call
  pub none_told : (out : List ℕ) → (actor_at m actor).running ≡ None → IsTracedStep form number m actor answer out out new
  none_told out idle = record {
    granted = made.granted;
    reply_is = go_reply m actor answer new made;
    shows = made.shows;
    text_is = sym (append-nil out)
        ∙ ap (λ (r : Option machine.Running). out ++ go_line form number m actor made.granted r) (sym idle);
  }

  -- one that runs this call, of which this was told
  pub step_told : (call : CallName) (next : NextStep) (before out : List ℕ)
      → Some call ≡ option_map (λ r. call_name r.call) (actor_at m actor).running → IsNext m actor (actor_at m actor).running (Some next)
      → ((n : machine.World) → Shows new n → out ≡ before
      ++ step_by form number actor call (name_in next.name) (reply_of answer) next.waits_for next.commits (lent_named (name_in next.name)) n)
      → IsTracedStep form number m actor answer before out new
  step_told call next before out names told text = by (actor_at m actor).running refl names told where
    by : (o : Option machine.Running) → (actor_at m actor).running ≡ o → Some call ≡ option_map (λ r. call_name r.call) o
        → IsNext m actor o (Some next) → IsTracedStep form number m actor answer before out new
    by None e called told = absurd (no_name call called)
    by (Some r) e called told =
        let same : call ≡ call_name r.call = same_name call (call_name r.call) called in
        let granted = made.granted in
        let replied = go_reply m actor answer new made in
        let left = (step m (machine.Go actor granted)).world in
        let name = name_of r.next m.numbers.cpus actor r in
        record {
          granted = granted;
          reply_is = replied;
          shows = made.shows;
          text_is = text left made.shows ∙ ap (λ (t : List ℕ). before ++ t)
              (ap (λ (c : CallName). step_by form number actor c (name_in next.name) (reply_of answer) next.waits_for next.commits
              (lent_named (name_in next.name)) left) same
              ∙ ap (λ (n : named.StepName). step_by form number actor (call_name r.call) n (reply_of answer) next.waits_for next.commits
              (lent_named n) left) told.name
              ∙ ap (λ (a : machine.Reply). step_by form number actor (call_name r.call) name a next.waits_for next.commits (lent_named name)
              left) replied
              ∙ ap (λ (h : Option ℕ). step_by form number actor (call_name r.call) name ((step m (machine.Go actor granted)).reply) h
              next.commits (lent_named name) left) told.holder
              ∙ ap (λ (n : Option ℕ). step_by form number actor (call_name r.call) name ((step m (machine.Go actor granted)).reply)
              (holder_for m.shared r r.next) n (lent_named name) left) (told.commits granted)
              ∙ ap (λ (l : Lent). step_by form number actor (call_name r.call) name ((step m (machine.Go actor granted)).reply)
              (holder_for m.shared r r.next) (number_at (plain_change_of m (machine.Go actor granted)) r.commit) l left)
              (lent_so r.next m.numbers.cpus actor r))
              ∙ ap (λ (o : Option machine.Running). before ++ go_line form number m actor granted o) (sym e);
        }

-- no call has a name, or no step: there is none
pub no_call : (o : Option machine.Running) → None ≡ option_map (λ r. call_name r.call) o → o ≡ None
no_call None is = refl
no_call (Some r) is = absurd (no_name (call_name r.call) (sym is))

-- none was told, whatever would have been
pub none_next : (o : Option NextStep) → ((next : NextStep) → o ≡ Some next → ⊥) → o ≡ None
none_next None not = refl
none_next (Some next) not = absurd (not next refl)

pub no_next : (m : machine.World) (actor : ℕ) (o : Option machine.Running) → IsNext m actor o None → o ≡ None
no_next m actor None is = refl
no_next m actor (Some r) is = absurd is

-- no call was started: there is no line
pub unstarted : (form : Trace) (number actor : ℕ) (call : CallName) (answer : Reply) (out : List ℕ) → answer ≢ reply.Started
    → out ≡ out ++ start_lines form number actor call (reply_of answer)
unstarted form number actor call reply.Started out not = absurd (not refl)
unstarted form number actor call reply.Moved out not = sym (append-nil out)
unstarted form number actor call reply.Waits out not = sym (append-nil out)
unstarted form number actor call (reply.Done found) out not = sym (append-nil out)
unstarted form number actor call reply.Stopped out not = sym (append-nil out)
unstarted form number actor call (reply.Refused why) out not = sym (append-nil out)

-- ---- a line that is built part by part

grown : (a b out front more : List ℕ) → a ≡ out ++ front → b ≡ a ++ more → b ≡ out ++ (front ++ more)
grown a b out front more is then_ = then_ ∙ ap (λ (t : List ℕ). t ++ more) is ∙ append_assoc out front more

pub built : (out head word place reply commit : List ℕ) (a b c d e f g : List ℕ) → a ≡ out ++ head → b ≡ a ++ word → c ≡ b ++ place
    → d ≡ c ++ (32 ∷ []) → e ≡ d ++ reply → f ≡ e ++ commit → g ≡ f ++ (10 ∷ [])
    → g ≡ out ++ ((((((head ++ word) ++ place) ++ (32 ∷ [])) ++ reply) ++ commit) ++ (10 ∷ []))
built out head word place reply commit a b c d e f g first second third fourth fifth sixth last =
    let two = grown a b out head word first second in
    let three = grown b c out (head ++ word) place two third in
    let four = grown c d out ((head ++ word) ++ place) (32 ∷ []) three fourth in
    let five = grown d e out (((head ++ word) ++ place) ++ (32 ∷ [])) reply four fifth in
    let six = grown e f out ((((head ++ word) ++ place) ++ (32 ∷ [])) ++ reply) commit five sixth in
    grown f g out (((((head ++ word) ++ place) ++ (32 ∷ [])) ++ reply) ++ commit) (10 ∷ []) six last
