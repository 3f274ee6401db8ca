-- What became of a line before `fork`, and of a report behind it.
use Rattle.std.proofs.Common.{◌≡◌, ◌∙◌, inl, Bool, false, List, [], ℕ, Option, Some, None, Ok, Err, refl, sym, subst, append-nil}
use Rattle.std.specs.Prelude.{◌≢◌, IsOk, is_some}
use Rattle.nv_base.specs.declared.fault.ScriptFaultKind.{ScriptFaultKind}
use Rattle.nv_machine.specs.Starts.{IsStart}
use Rattle.nv_machine.specs.Step.{after}
use Rattle.nv_machine.specs.World as machine
use Rattle.nv_core.specs.Consistent.{IsConsistentWorld}
use Rattle.nv_core.specs.Worlds.{HasRun, ShowsAny, WorldState}
use Rattle.nv_base.specs.declared.geometry.GeometryNumbers.{GeometryNumbers}
use Rattle.nv_script.specs.declared.fault.LineFault.{LineFault}
use Rattle.nv_script.specs.declared.fault.LineFault.TheVariants as line_fault
use Rattle.nv_script.specs.declared.command.Command.{Command}
use Rattle.nv_script.specs.declared.command.Command.TheVariants as command
use Rattle.nv_script.specs.Grammar.{Parsed, command_of, is_skipped}
use Rattle.nv_script.specs.Lines.{WritesFront}
use Rattle.nv_script.specs.Play.{Plays, PlaysWords, machine_player}
use Rattle.nv_script.specs.Results.{HasAnyRun, LineFaultIs, Sends, Sent, ending_of}
use Rattle.nv_work.specs.Work.{fork_fault, is_fork}
use Rattle.nv_work.specs.Working.{AddsText, FrontFaultIs, ReadsFork, ReportIs}
use Rattle.nv_script.specs.Words.{words_of}
use Rattle.nv_script.proofs.Known.{writes_none}
use Rattle.nv_script.proofs.RunsPlayed.{run_line}

-- each world shows one to which events lead
pub shown_run : (old : Option WorldState) (w : WorldState) → old ≡ Some w → IsConsistentWorld w
    → (m : machine.World) × ShowsAny old (Some m) × HasRun m
shown_run old w there is =
    let run = is.0 in
    let m = after run.start run.events in
    (m, subst (λ (o : Option WorldState). ShowsAny o (Some m)) (sym there) is.2, (run, subst (λ (g : GeometryNumbers). IsStart g run.start run.records) is.2.numbers is.1, refl))

pub as_many : (old : Option WorldState) (m : Option machine.World) → ShowsAny old m → is_some old ≡ is_some m
as_many None None shown = refl
as_many None (Some m) shown = absurd shown
as_many (Some w) None shown = absurd shown
as_many (Some w) (Some m) shown = refl

sends_none : (s : Sent) → Sends s s []
sends_none s = subst (λ (t : List ℕ). WritesFront s.written s.written t s.gathered) (sym (append-nil s.gathered))
    (writes_none s.written s.gathered)

-- a line that is another than `fork` was not played to its end
pub front_fault : (why : LineFault) (from to : Sent) (m : Option machine.World) (line : List ℕ) → is_fork line ≡ false
    → LineFaultIs why from to m line → FrontFaultIs why from to m line
front_fault (line_fault.Faulty reason) from to m line other is = (rw other is.0, is.1)
front_fault line_fault.Write from to m line other is = is
front_fault (line_fault.OutOfMemory witness) from to m line other is = is

-- it was not told whether a line is `fork`
pub fork_unread : (why : LineFault) (s : Sent) (world : Option WorldState) (m : Option machine.World) (line : List ℕ) (made : Bool)
    → made ≡ is_some world → ShowsAny world m → ReadsFork (Err why) made line → FrontFaultIs why s s m line
fork_unread (line_fault.Faulty reason) s world m line made same shown is =
    (rw is.0 (subst (λ (b : Bool). fork_fault b line ≡ Some reason) (same ∙ as_many world m shown) is.1), refl)
fork_unread line_fault.Write s world m line made same shown is = absurd is
fork_unread (line_fault.OutOfMemory witness) s world m line made same shown is = ([], (is, inl refl), sends_none s)

-- a line before `fork`, and its bytes
pub front_fault_at : (why : LineFault) (from to : Sent) (m : Option machine.World) (slice line : List ℕ) → slice ≡ line
    → FrontFaultIs why from to m slice → FrontFaultIs why from to m line
front_fault_at why from to m slice line same is = subst (λ (bytes : List ℕ). FrontFaultIs why from to m bytes) same is

-- a command leaves a world
world_left : (m : machine.World) (line text : List ℕ) (n : Option machine.World) → is_skipped line ≡ false
    → Plays machine_player 0 (Some m) line text n → (w : machine.World) × (n ≡ Some w)
world_left m line text n skipped plays = led (rw skipped at plays) where
  led : PlaysWords machine_player 0 (Some m) (words_of line) text n → (w : machine.World) × (n ≡ Some w)
  led (command, world, read, acts, same) = (world, same)

-- a report was sent
pub reported : (m : machine.World) (line : List ℕ) (from to : Sent) (new : Option WorldState) → is_skipped line ≡ false
    → command_of (words_of line) ≢ Ok command.Stop → HasRun m → (n : Option machine.World) (text : List ℕ)
    → Plays machine_player 0 (Some m) line text n → ShowsAny new n → Sends from to text
    → ReportIs (Ok tt) line m from to new
reported m line from to new skipped other has n text plays shown sends =
    let left = world_left m line text n skipped plays in (
      left.0,
      text,
      subst (λ (w : Option machine.World). Plays machine_player 0 (Some m) line text w) left.1 plays,
      subst (λ (w : Option machine.World). ShowsAny new w) left.1 shown,
      subst (λ (w : Option machine.World). HasAnyRun w) left.1 (run_line m line text n skipped other plays has),
      sends,
    )

-- a report was not sent whole
pub report_fault : (why : LineFault) (number : ℕ) (from to : Sent) (m : machine.World) (line : List ℕ)
    → IsOk (command_of (words_of line)) → LineFaultIs why from to (Some m) line → AddsText (Err (ending_of number why)) from to []
report_fault (line_fault.OutOfMemory witness) number from to m line right is = (is.0, ([], is.0, append-nil is.0), is.2)
report_fault line_fault.Write number from to m line right is = (is.0, ([], is.0, append-nil is.0), is.3)
report_fault (line_fault.Faulty reason) number from to m line right is =
    absurd (none (command_of (words_of line)) reason is.0.1 right) where
      none : (read : Parsed Command) (reason : ScriptFaultKind) → read ≡ Err reason → IsOk read → ⊥
      none (Ok c) reason same right = cc
      none (Err other) reason same right = cc
