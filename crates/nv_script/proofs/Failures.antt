-- Once a read or a write failed, nothing is gathered.
use Rattle.std.proofs.Common.{◌≡◌, ◌∙◌, ◌⊎◌, inl, inr, ℕ, Bool, true, false, List, [], Option, Result, Ok, Err, ap, subst, sym}
use Rattle.std.proofs.KnownBytes.{Consumes-nil}
use Rattle.std.specs.Io.KnownBytes.{prepend_known}
use Rattle.std.specs.Prelude.{if◌then◌else◌, nat_lt}
use Rattle.std.specs.List.{Contains}
use Rattle.nv_base.specs.declared.fault.Fault.{Fault}
use Rattle.nv_base.specs.declared.fault.Fault.TheVariants as fault
use Rattle.nv_base.specs.declared.fault.ScriptFaultKind.TheVariants as kind
use Rattle.nv_machine.specs.World.{World}
use Rattle.nv_script.specs.declared.fault.LineFault.{LineFault}
use Rattle.nv_script.specs.declared.fault.LineFault.TheVariants as line_fault
use Rattle.nv_script.specs.declared.feed.LineResult.{LineResult}
use Rattle.nv_script.specs.declared.feed.LineResult.TheVariants as taken
use Rattle.nv_script.specs.Play.{most_lines}
use Rattle.nv_script.specs.declared.trace.Trace.{Trace}
use Rattle.nv_script.specs.Lines.{IsLine, LineResultIs, WritesFront}
use Rattle.nv_script.specs.Results.{HoldsNone, LineFaultBehind, Sent, TakesLine, ending_of, is_line}
use Rattle.nv_script.proofs.Taken.{end_taken, line_taken, no_line}

-- where a read can fail, what is due was written
pub due_written : (ahead gathered : List ℕ) → Contains ahead 10 ⊎ (gathered ≡ []) → (Contains ahead 10 → ⊥) → gathered ≡ []
due_written ahead gathered (inl has) fails = absurd (fails has)
due_written ahead gathered (inr none) fails = none

-- what is no line to play is no failed call
pub not_line_held : (number : ℕ) (t : LineResult) (why : Fault) (gathered : List ℕ) → is_line number t ≡ Err why
    → HoldsNone {A = Bool} (Err why) gathered
not_line_held number t why gathered is = subst (λ (r : Result Bool Fault). HoldsNone r gathered) is (held t) where
  within : (past : Bool) (answer : Result Bool Fault) → HoldsNone answer gathered
      → HoldsNone (if past then Err (fault.ScriptFault kind.Lines number) else answer) gathered
  within true answer is = tt
  within false answer is = is

  held : (t : LineResult) → HoldsNone (is_line number t) gathered
  held taken.End = tt
  held taken.Line = within (nat_lt most_lines number) (Ok true) tt
  held taken.Long = within (nat_lt most_lines number) (Err (fault.ScriptFault kind.Long number)) tt
  held taken.Unended = within (nat_lt most_lines number) (Err (fault.ScriptFault kind.Unended number)) tt

-- a line's fault is a failed write where its end is one
pub line_held : (events : Trace) (head : List ℕ) (number : ℕ) (why : LineFault) (from to : Sent) (m : Option World) (line : List ℕ)
    → LineFaultBehind events number head why from to m line → HoldsNone {A = Bool} (Err (ending_of number why)) to.gathered
line_held events head number (line_fault.OutOfMemory _) from to m line is = tt
line_held events head number line_fault.Write from to m line is = is.3.1
line_held events head number (line_fault.Faulty kind) from to m line is = tt

-- what was taken for a line that is to be played, at the end, or in place of a line
pub takes_line : (told : Result Bool Fault) (number : ℕ) (t : LineResult) (known left : Option (List ℕ)) (ahead line : List ℕ)
    (old new : Sent) → is_line number t ≡ told → WritesFront old.written new.written old.gathered new.gathered → IsLine line
    → LineResultIs t known (prepend_known ahead left) line → TakesLine told number known left ahead line old new
takes_line (Ok true) number t known left ahead line old new is sent lawful took =
    let l = line_taken number t known (prepend_known ahead left) line is took in (sent, l.1, lawful, l.0)
takes_line (Ok false) number t known left ahead line old new is sent lawful took =
    (sent, end_taken number t known (prepend_known ahead left) line is took)
takes_line (Err why) number t known left ahead line old new is sent lawful took =
    let none = no_line (λ bytes which. Unit {0}) known known [] number (Consumes-nil known) t why (prepend_known ahead left) line is lawful
    took in
    subst (λ (f : Fault). TakesLine (Err f) number known left ahead line old new) (sym none.why_is)
    (sent, t, is ∙ ap Err none.why_is, lawful, took)
