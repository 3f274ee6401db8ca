-- Lines that are looked at before they are given to a player.
use Rattle.std.specs.Prelude.{◌≡◌, ℕ, Bool, false, List, Option, Some, None, is_some, Result, Ok, Err}
use Rattle.nv_base.specs.declared.fault.ScriptFaultKind.{ScriptFaultKind}
use Rattle.nv_machine.specs.World as machine
use Rattle.nv_core.specs.Worlds.{ShowsAny, WorldState}
use Rattle.nv_script.specs.declared.fault.LineFault.{LineFault}
use Rattle.nv_script.specs.declared.fault.LineFault.TheVariants as line_fault
use Rattle.nv_script.specs.Grammar.{is_skipped}
use Rattle.nv_script.specs.Play.{LineFails}
use Rattle.nv_script.specs.Results.{AnswersLine, HasAnyRun, Sent}

-- the words of a line have no fault, where a world is made or where none is
abbrev pub IsSound : Bool → List ℕ → Type 0
IsSound made line = (why : ScriptFaultKind) → LineFails made line why → ⊥

-- a line was found sound, or to have a fault, or memory was refused for its words
abbrev pub LooksAt : Result (Unit {0}) LineFault → Bool → List ℕ → Type 0
LooksAt (Ok done) made line = IsSound made line
LooksAt (Err (line_fault.Faulty why)) made line = LineFails made line why
LooksAt (Err (line_fault.OutOfMemory witness)) made line = is_skipped line ≡ false
LooksAt (Err line_fault.Write) made line = ⊥

-- memory was refused, or a write failed
abbrev pub IsNoFault : LineFault → Type 0
IsNoFault (line_fault.Faulty why) = ⊥
IsNoFault _ = Unit {0}

-- A LINE WITH A FAULT IS TOLD, AND CHANGES NOTHING; a sound one is played; and no fault of a line
-- ends the script. Example: `tree` before the first `format` is told as `order`, and the next line
-- is asked for.
abbrev pub AnswersSound : Result (Option ScriptFaultKind) LineFault → Sent → Sent → Option WorldState → List ℕ → Option WorldState → Type 0
AnswersSound (Ok (Some why)) old new world line world' = LineFails (is_some world) line why × (new ≡ old) × (world' ≡ world)
AnswersSound (Ok None) old new world line world' =
    IsSound (is_some world) line × AnswersLine {A = Unit {0}} (Ok tt) old new world line world'
AnswersSound (Err why) old new world line world' = IsNoFault why × AnswersLine {A = Unit {0}} (Err why) old new world line world'

-- events lead to what a world shows, where there is one
abbrev pub HasShown : Option WorldState → Type 0
HasShown world = (m : Option machine.World) × ShowsAny world m × HasAnyRun m
