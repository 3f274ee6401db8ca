-- The room that the hand of a call gets before it takes blocks.
use Rattle.std.specs.Prelude.{ℕ, ◌+◌, ◌==◌, if◌then◌else◌, max, List}
use Rattle.nv_alloc.specs.Queue.{QueueValue}
use Rattle.nv_alloc.specs.declared.hand.Hand.{Hand}
use Rattle.nv_cell.specs.Cell.{CellValue}
use Rattle.nv_calls.specs.PagesWanted.{pages_wanted}
use Rattle.nv_calls.specs.Prepared.{planned_by}
use Rattle.nv_calls.specs.declared.log_pages.TheConstants.{MORE_PAGES}
use Rattle.nv_calls.specs.declared.update.Update.{Update}

-- how many log pages a call takes at most that takes so many data blocks: where it takes none, these are known
abbrev pub pages_at_most : ℕ → List (ℕ × CellValue) → Hand → Update → ℕ
pages_at_most wanted cells hand u = if wanted == 0 then pages_wanted cells (planned_by cells hand u) else wanted + MORE_PAGES

-- a queue with room for so many more blocks
abbrev pub with_room : ℕ → QueueValue → QueueValue
with_room n queue = record queue { room = max queue.room n }

-- a hand with room for so many more data blocks and log pages
abbrev pub with_rooms : ℕ → ℕ → Hand → Hand
with_rooms blocks pages hand = record hand { «data» = with_room blocks hand.«data»; pages = with_room pages hand.pages }
