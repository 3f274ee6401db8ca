-- The lines behind `fork`, once all were taken.
use Rattle.std.specs.Prelude.{◌≡◌, ℕ, List, [], map, Option, Some, Result, Ok, Err}
use Rattle.std.specs.Io.KnownBytes.{IsAtEnd}
use Rattle.nv_base.specs.declared.fault.Fault.{Fault}
use Rattle.nv_core.specs.Worlds.{ShowsAny, WorldState}
use Rattle.nv_script.specs.Lines.{WritesFront}
use Rattle.nv_script.specs.Results.{HoldsNone}
use Rattle.nv_work.specs.declared.forked.ForkedCall.{ForkedCall}
use Rattle.nv_work.specs.declared.forked.ForkedLines.{ForkedLines}
use Rattle.nv_work.specs.Threads.{calls_in, shares_of}
use Rattle.nv_work.specs.Work.{EndsBefore, Fork, Forks}

-- the calls of each thread
abbrev pub lists_of : ForkedLines → List (List ForkedCall)
lists_of lines = map (λ calls. calls.items) lines.threads.items

-- all lines were taken, and each thread has its calls
abbrev pub AllTaken : (threads : ℕ) → ForkedLines → (input left old new : Option (List ℕ)) → List ℕ → Option WorldState → Type 0
AllTaken threads lines input left old new gathered world =
    (f : Fork) × Forks input f [] × IsAtEnd left × WritesFront old new f.text gathered × ShowsAny world (Some f.world)
    × (lists_of lines ≡ shares_of threads (calls_in f.behind))

-- all lines behind `fork` were taken, or the script has ended
abbrev pub ReadsForked : (threads : ℕ) → Result ForkedLines Fault → (input left old new : Option (List ℕ)) → List ℕ → Option WorldState
    → Type 0
ReadsForked threads (Ok lines) input left old new gathered world = AllTaken threads lines input left old new gathered world
ReadsForked threads (Err why) input left old new gathered world =
    EndsBefore why input left (λ text. WritesFront old new text gathered) × HoldsNone {A = ℕ} (Err why) gathered
