use Rattle.std.proofs.Common.{◌≡◌, inl, inr}
use Rattle.nv_audit.specs.KeptParts.{records_in}
use Rattle.nv_audit.specs.Pool.{no_cell}
use Rattle.nv_base.specs.declared.fault.Fault.{Fault}
use Rattle.nv_base.specs.declared.fault.Fault.TheVariants.{Mismatch}
use Rattle.nv_base.specs.declared.fault.MismatchPart.TheVariants.{Index, Names, Counts, Records, Lists}
use Rattle.nv_core.specs.AtRest.{AreJudged, IsMismatchOf}
use Rattle.nv_parts.specs.declared.parts.Parts.{Parts}
use Rattle.nv_core.proofs.RestStarts.{may_stop, starts}
use Rattle.nv_core.proofs.world.World.from_parts.Goals as goal

-- no part of parts at rest is told to differ
none_differs : (parts : Parts) (why : Fault) → AreJudged parts → IsMismatchOf parts why → ⊥
none_differs parts (Mismatch Index) are is = is.differs (are.inodes is.ino no_cell is.within).index
none_differs parts (Mismatch Names) are (inl is) = is.differs.1 (are.inodes is.ino no_cell is.within).names
none_differs parts (Mismatch Names) are (inr is) = is.1 are.trees
none_differs parts (Mismatch Counts) are is = is.differs.2 (are.inodes is.ino no_cell is.within).counts
none_differs parts (Mismatch Records) are is = is.2 are.records
none_differs parts (Mismatch Lists) are is = is.3 are.device
none_differs parts _ are is = absurd is

pub at_rest-requires-clause-start : goal.at_rest-requires-clause-start
at_rest-requires-clause-start c = (records_in c.args.parts.book.state, starts c.args.parts c.in-Ok-judge.ensures.ok)

pub at_rest-requires-clause-may : goal.at_rest-requires-clause-may
at_rest-requires-clause-may c = may_stop c.args.parts c.in-Ok-judge.ensures.ok

pub returns-in-Err-judge-clause-passes : goal.returns-in-Err-judge-clause-passes
returns-in-Err-judge-clause-passes c are = elim c.in-Err-judge.ensures.err [
  | inl same ↦ same
  | inr differs ↦ absurd (none_differs c.args.parts c.in-Err-judge.fault are differs)
]
