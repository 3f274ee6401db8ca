-- What a command with a reply writes, and where it leads.
use Rattle.std.proofs.Common.{◌≡◌, ◌∙◌, ℕ, ◌+◌, ◌++◌, Bool, true, false, List, [], Option, Some, None, Result, Ok, Err, ap, inl, inr, refl, subst, sym}
use Rattle.std.specs.Prelude.{◌≢◌, IfOk, OnOk}
use Rattle.nv_calls.specs.declared.call.Call.{Call}
use Rattle.nv_machine.specs.Step.{step}
use Rattle.nv_machine.specs.World as machine
use Rattle.nv_core.specs.declared.event.Event.TheVariants as event
use Rattle.nv_core.specs.declared.event.Reply.{Reply}
use Rattle.nv_core.specs.Whole.{GoesOn}
use Rattle.nv_core.specs.Worlds.{IsStep, Leads, Shows, WorldState, reply_of, told_by}
use Rattle.nv_restart.specs.Happenings.{Replied, Stop, happen, told_at}
use Rattle.nv_restart.specs.Restarted.{restarted}
use Rattle.nv_script.specs.declared.asked.Asked.{Asked}
use Rattle.nv_script.specs.declared.command.Command.{Command}
use Rattle.nv_script.specs.declared.command.Command.TheVariants as command
use Rattle.nv_script.specs.declared.trace.Trace.{Trace}
use Rattle.nv_script.specs.declared.trace.Trace.TheVariants as trace
use Rattle.nv_script.specs.Play.{ActsBy, Restarts, reports_of}
use Rattle.nv_script.specs.Results.{TellsAudit}
use Rattle.nv_script.specs.Texts.{told_line}
use Rattle.nv_script.specs.Trace.{ActsToldBy}

-- a command on a world writes this text and leads to that world
abbrev pub Does : Command → List ℕ → (old new : WorldState) → Type 0
Does c text old new = Leads (λ m n. ActsBy (reports_of m) m c text n) old new

-- the line of a reply was written where nothing stood
does : {T E : Type 0} (result : Result T E) (old new : WorldState) (reply : Reply) (before text : List ℕ) (given c : Command)
    → given ≡ c → before ≡ [] → OnOk result (text ≡ before ++ told_line (told_by reply))
    → (text ≡ told_line (told_by reply) → Does c text old new) → OnOk result (Does given text old new)
does (Ok done) old new reply before text given c is none writes leads =
    subst (λ (d : Command). Does d text old new) (sym is)
    (leads (writes ∙ ap (λ (front : List ℕ). front ++ told_line (told_by reply)) none))
does (Err why) old new reply before text given c is none writes leads = tt

pub starts : {T E : Type 0} (result : Result T E) (old new : WorldState) (actor : ℕ) (c : Call) (reply : Reply) (before text : List ℕ)
    (given : Command) → given ≡ command.Start actor c → before ≡ [] → OnOk result (text ≡ before ++ told_line (told_by reply))
    → ((m : machine.World) → Shows old m → IsStep m (event.Start actor c) reply new) → OnOk result (Does given text old new)
starts result old new actor c reply before text given is none writes steps =
    does result old new reply before text given (command.Start actor c) is none writes (λ line m shows.
    let it = steps m shows in
    ((step m (machine.Start actor c)).world, (line ∙ ap told_line it.told_is, refl), it.shows))

pub goes : {T E : Type 0} (result : Result T E) (old new : WorldState) (actor more : ℕ) (reply : Reply) (before text : List ℕ)
    (given : Command) → given ≡ command.Go actor more → before ≡ [] → OnOk result (text ≡ before ++ told_line (told_by reply))
    → told_by reply ≡ Replied (reply_of reply) → Leads (λ m n. GoesOn (more + 1) m actor (reply_of reply) n) old new
    → OnOk result (Does given text old new)
goes result old new actor more reply before text given is none writes replied leads =
    does result old new reply before text given (command.Go actor more) is none writes (λ line m shows.
    let it = leads m shows in (it.0, (reply_of reply, it.1, line ∙ ap told_line replied), it.2))

-- a stop, whose memory was granted or refused
pub stops : {T E : Type 0} (result : Result T E) (old new : WorldState) (reply : Reply) (before text : List ℕ) (given : Command)
    → given ≡ command.Stop → before ≡ [] → OnOk result (text ≡ before ++ told_line (told_by reply))
    → ((m : machine.World) → Shows old m → IsStep m event.Stop reply new) → OnOk result (Does given text old new)
stops result old new reply before text given is none writes steps =
    does result old new reply before text given command.Stop is none writes (λ line m shows.
    let it = steps m shows in stopped m line it.granted it.told_is it.shows)
  where
    stopped : (m : machine.World) → text ≡ told_line (told_by reply) → (granted : Bool) → told_by reply ≡ told_at m (Stop granted)
        → Shows new (happen m (Stop granted)) → (n : machine.World) × Restarts (restarted m) m text n × Shows new n
    stopped m line true told shows = (restarted m, inl (line ∙ ap told_line told, refl), shows)
    stopped m line false told shows = (m, inr (line ∙ ap told_line told, refl), shows)

-- an audit makes no event
pub audited : {E : Type 0} (result : Result (Option Asked) E) (form : Trace) (number : ℕ) (w : WorldState) (c : Command) (text : List ℕ)
    → form ≢ trace.Json → c ≡ command.Audit → IfOk result (λ asked. TellsAudit asked text)
    → OnOk result (Leads (λ m n. ActsToldBy (reports_of m) form number m c text n) w w)
audited (Err why) form number w c text plain is tells = tt
audited (Ok asked) form number w c text plain is tells =
    subst (λ (d : Command). Leads (λ m n. ActsToldBy (reports_of m) form number m d text n) w w) (sym is)
    (λ m shows. (m, by form plain asked tells m, shows))
  where
    by : (form : Trace) → form ≢ trace.Json → (asked : Option Asked) → TellsAudit asked text → (m : machine.World)
        → ActsToldBy (reports_of m) form number m command.Audit text m
    by trace.Off plain None told m = (inr told, refl)
    by trace.Off plain (Some asked) told m = (inl told, refl)
    by trace.Text plain None told m = (inr told, refl)
    by trace.Text plain (Some asked) told m = (inl told, refl)
    by trace.Json plain asked told m = absurd (plain refl)
