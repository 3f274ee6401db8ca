-- Files show the plain world of each world with numbers as which they stand, and that world is sound.
use Rattle.std.proofs.Common.{◌≡◌, ◌∙◌, [], ap, sym}
use Rattle.nv_base.specs.declared.geometry.GeometryNumbers.{GeometryNumbers}
use Rattle.nv_core.specs.Worlds.{WorldState}
use Rattle.nv_machine.specs.PlainRun.{Plain, plain_of}
use Rattle.nv_machine.specs.Recorded.{records_after}
use Rattle.nv_machine.specs.Step.{after}
use Rattle.nv_machine.specs.World.{Shared, World}
use Rattle.nv_serial.specs.Serial.{Serial}
use Rattle.nv_serial.proofs.AtRestLogs.{told_by}
use Rattle.nv_serial.proofs.AtRestPlain.{serial_is}
use Rattle.nv_effects.specs.Sound.{IsSoundWorld}
use Rattle.nv_effects.proofs.SoundWorlds.{standing_sound}
use Rattle.nv_files.specs.Stands.{Stands, plain_shown}

-- the plain world of what is shared
abbrev plain_by : GeometryNumbers → Shared → Plain
plain_by g shared = plain_of (record { numbers = g; shared = shared; actors = [] })

pub plain_stands : (w : WorldState) (s : Serial) → Stands w s → plain_shown w ≡ s.plain
plain_stands w s there =
    let stands = there.stands in
    let start = stands.start in
    let v : World = after start stands.events in
    let rs = records_after start stands.events stands.records in
    let same : told_by s.numbers v rs ≡ s = sym (serial_is s.numbers start stands.records stands.events stands.is_start) ∙ stands.serial_is in
    ap (λ (shared : Shared). plain_by w.shared.geometry.numbers shared) (there.shows.shared ∙ ap (λ (m : World). m.shared) (sym stands.leads))
    ∙ ap (λ (t : Serial). t.plain) same

pub files_sound : (w : WorldState) (s : Serial) → Stands w s → IsSoundWorld s
files_sound w s there = standing_sound s.numbers there.world s there.stands
