-- A line that was looked at before it is played.
use Rattle.std.proofs.Common.{◌≡◌, ℕ, Bool, false, List, [], Option, Some, None, is_some, Ok, Err, inl, refl, sym, subst}
use Rattle.nv_base.specs.declared.fault.ScriptFaultKind.{ScriptFaultKind}
use Rattle.nv_base.specs.declared.geometry.GeometryNumbers.{GeometryNumbers}
use Rattle.nv_machine.specs.Starts.{IsStart}
use Rattle.nv_machine.specs.Step.{after}
use Rattle.nv_machine.specs.World as machine
use Rattle.nv_core.specs.Consistent.{IsConsistentWorld}
use Rattle.nv_core.specs.Worlds.{ShowsAny, WorldState}
use Rattle.nv_script.specs.declared.fault.LineFault.{LineFault}
use Rattle.nv_script.specs.declared.fault.LineFault.TheVariants as line_fault
use Rattle.nv_script.specs.Grammar.{is_skipped}
use Rattle.nv_script.specs.Play.{LineFails}
use Rattle.nv_script.specs.Results.{AnswersLine, Sent, failed_in_line}
use Rattle.nv_script.specs.Sound.{AnswersSound, HasShown, IsSound, LooksAt}
use Rattle.nv_script.proofs.Handed.{sends_none}

-- ---- what a world shows

pub some_shown : (old : Option WorldState) (w : WorldState) → old ≡ Some w → IsConsistentWorld w → HasShown old
some_shown old w there is =
    let run = is.0 in
    let m = after run.start run.events in (
      Some m,
      subst (λ (o : Option WorldState). ShowsAny o (Some m)) (sym there) is.2,
      (run, subst (λ (g : GeometryNumbers). IsStart g run.start run.records) is.2.numbers is.1, refl),
    )

pub none_shown : (old : Option WorldState) → old ≡ None → HasShown old
none_shown old none = (None, subst (λ (o : Option WorldState). ShowsAny o None) (sym none) tt, tt)

as_many : (old : Option WorldState) (m : Option machine.World) → ShowsAny old m → is_some m ≡ is_some old
as_many None None shown = refl
as_many None (Some m) shown = absurd shown
as_many (Some w) None shown = absurd shown
as_many (Some w) (Some m) shown = refl

-- ---- what is answered then

-- a fault is told
pub fault_told : (world : Option WorldState) (made : Bool) (slice line : List ℕ) (why : ScriptFaultKind) → made ≡ is_some world → slice ≡ line
    → LooksAt (Err (line_fault.Faulty why)) made slice → LineFails (is_some world) line why
fault_told world made slice line why as_made same is =
    subst (λ (b : Bool). LineFails b line why) as_made (subst (λ (bytes : List ℕ). LineFails made bytes why) same is)

-- memory was refused before
pub not_looked : (why : LineFault) (s : Sent) (world : Option WorldState) (made : Bool) (slice line : List ℕ) → slice ≡ line
    → ((kind : ScriptFaultKind) → why ≡ line_fault.Faulty kind → ⊥) → LooksAt (Err why) made slice
    → AnswersSound (Err why) s s world line world
not_looked (line_fault.Faulty kind) s world made slice line same other is = absurd (other kind refl)
not_looked line_fault.Write s world made slice line same other is = absurd is
not_looked (line_fault.OutOfMemory witness) s world made slice line same other is =
    (tt, λ m shown run. ([], (subst (λ (bytes : List ℕ). is_skipped bytes ≡ false) same is, inl refl), sends_none s))

pub none_failed : (why : LineFault) (made : Bool) (line : List ℕ) → LooksAt (Err why) made line
    → failed_in_line {A = Option ScriptFaultKind} (Err why) ≡ 0
none_failed (line_fault.OutOfMemory witness) made line is = refl
none_failed line_fault.Write made line is = absurd is
none_failed (line_fault.Faulty kind) made line is = refl

pub sound_at : (world : Option WorldState) (made : Bool) (slice line : List ℕ) → made ≡ is_some world → slice ≡ line
    → LooksAt (Ok tt) made slice → IsSound (is_some world) line
sound_at world made slice line as_made same is =
    subst (λ (b : Bool). IsSound b line) as_made (subst (λ (bytes : List ℕ). IsSound made bytes) same is)

-- a sound line was not played to its end
pub sound_unplayed : (why : LineFault) (from to : Sent) (world : Option WorldState) (line : List ℕ) (new : Option WorldState)
    → HasShown world → IsSound (is_some world) line → AnswersLine {A = Unit {0}} (Err why) from to world line new
    → AnswersSound (Err why) from to world line new
sound_unplayed (line_fault.OutOfMemory witness) from to world line new has sound is = (tt, is)
sound_unplayed line_fault.Write from to world line new has sound is = (tt, is)
sound_unplayed (line_fault.Faulty kind) from to world line new has sound is =
    absurd (sound kind (subst (λ (b : Bool). LineFails b line kind) (as_many world has.0 has.1) (is has.0 has.1 has.2).0))
