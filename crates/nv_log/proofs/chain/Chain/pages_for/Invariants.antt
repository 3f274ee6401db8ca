use Rattle.std.proofs.Common.{◌≡◌, ◌+◌, ◌-◌, ◌*◌, ◌<◌, ◌≤◌, length}
use Rattle.nv_log.specs.Chain.{pages_for, pages_in, room_of}
use Rattle.nv_log.specs.Fields.{state_in}
use Rattle.nv_log.proofs.chain.Chain.pages_for.Given as goal

-- what is taken and what is left make the whole; the room is that of all pages, as far as it is asked for
abbrev pub invariant-loop-room : goal.invariant-loop-room
invariant-loop-room l =
    let chain = state_in l.self-inside in
    let all = room_of chain + l.pages * chain.page in
    record {
      value : pages_for chain l.entries
          ≡ l.pages + pages_in l.entries chain.page (length chain.blocks + l.pages) all l.entries;
      most : l.room ≤ all;
      below : l.room < l.entries → l.room ≡ all;
    }

abbrev pub decreases-loop-room : goal.decreases-loop-room
decreases-loop-room l = l.entries - l.room
