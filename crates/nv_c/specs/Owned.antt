-- What a place for a world owns.
use Rattle.std.specs.Prelude.{Option, Some, None}
use base.Fml.{Fml, ftrue}
use denote.RawPtr.{Ptr}
use Rattle.std.specs.contracts.impls.GlobalAllocator.TheImpl.{ghosts}
use Rattle.std_alloc.specs.Box.Ownership.{box_owns}
use Rattle.nv_c.specs.declared.held.Held.{Held}
use Rattle.nv_c.specs.contracts.held.Held.{the_row}

-- a pointer owns the world to which it leads, and the right to free its block; or nothing
abbrev pub owned : Ptr → Option Held → Fml
owned pointer None = ftrue
owned pointer (Some held) = box_owns (ghosts.dealloc_token held.alloc) the_row pointer held
