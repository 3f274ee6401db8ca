use Rattle.std.proofs.Common.{◌≡◌}
use Rattle.std.specs.Option.{option_map}
use Rattle.nv_alloc.specs.Block.{zeroed}
use Rattle.nv_alloc.proofs.ZeroBlocks.{changed}
use Rattle.nv_alloc.proofs.free_list.zeros.clear_slots.Given as goal

abbrev pub invariant-loop-slot : goal.invariant-loop-slot
invariant-loop-slot l = l.slot-items ≡ changed (option_map zeroed) l.slot-index l.initial.slot-items
