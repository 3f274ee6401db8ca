-- When files stand as a world with numbers, and where a method leads from one to the next.
use Rattle.nv_core.specs.Worlds.{Shows, WorldState}
use Rattle.nv_core.specs.Stops.{world_of}
use Rattle.nv_machine.specs.PlainRun.{Plain, plain_of}
use Rattle.nv_machine.specs.World as machine
use Rattle.nv_serial.specs.Histories.{StandsAs}
use Rattle.nv_serial.specs.Serial.{Serial}

-- FILES STAND AS A WORLD WITH NUMBERS: no call runs in their world, and the plain world with numbers is the one to which
-- its calls and stops led.
-- Files stand as a world with numbers where the world in memory shows one of the machine that stands so.
pub record Stands (w : WorldState) (s : Serial) : Type 0 where
  -- the world of the machine
  pub world : machine.World
  -- it is what the world in memory shows
  pub shows : Shows w world
  -- it stands as the world with numbers
  pub stands : StandsAs s.numbers world s

-- files stand as some world with numbers
abbrev pub IsResting : WorldState → Type 0
IsResting w = (s : Serial) × Stands w s

-- whatever world with numbers files stand as, they stand after it as one to which this leads.
-- A method is told by this: as whatever world with numbers the files stood, they stand now as one to which the method
-- leads.
abbrev pub Leads : (Serial → Serial → Type 0) → WorldState → WorldState → Type 0
Leads To old new = (s : Serial) → Stands old s → (t : Serial) × To s t × Stands new t

-- THE PLAIN WORLD THAT FILES SHOW: that of the machine's world that the one in memory shows.
-- Files show a plain world: nodes by handle, the number of the last commit, the epoch, and a copy of all nodes for each
-- living snapshot. It is that of each world with numbers as which they stand.
abbrev pub plain_shown : WorldState → Plain
plain_shown w = plain_of (world_of w.shared)
