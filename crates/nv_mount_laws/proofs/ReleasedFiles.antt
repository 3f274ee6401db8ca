-- A release, whose going is a change of the hidden directory, leaves hidden files hidden, and other
-- open files as they are.
use Rattle.std.proofs.Common.{◌≡◌, ◌^◌, ◌<◌, ℕ, Bool, true, false, Some, Ok, ap, arith, length, subst, sym}
use Rattle.nv_base.specs.declared.node.Kind.TheVariants.{Dir}
use Rattle.nv_base.specs.declared.numbers.Handle.{Handle}
use Rattle.nv_entry.specs.declared.node.NodeCopy.{NodeCopy}
use Rattle.nv_mount_answers.specs.declared.kept.Time.{Time}
use Rattle.nv_mount_beside.specs.Beside.{changed}
use Rattle.nv_mount_beside.specs.declared.beside.Beside.{Beside}
use Rattle.nv_mount_beside.specs.declared.outcome.Outcome.{Outcome}
use Rattle.nv_mounted.specs.Dialogues.{IsHad}
use Rattle.nv_mounted.specs.Side.{at_node, touched}
use Rattle.nv_mounted.specs.Talks.{goes, release, release_file, touched_if}
use Rattle.nv_mounted.specs.declared.side.Side.{Side}
use Rattle.nv_serial.specs.Serial.{Serial, copies_now}
use Rattle.nv_mount_laws.specs.Hidden.{AreHidden, KeepsHidden}
use Rattle.nv_mount_laws.specs.Open.{LeavesOpenFiles}
use Rattle.nv_mount_laws.specs.Refused.{RefusedChangesNothing}
use Rattle.nv_mount_laws.specs.World.{CanStand, Calls}
use Rattle.nv_mount_laws.proofs.Dialogues.{side_told, went_on}
use Rattle.nv_mount_laws.proofs.Flags.{KeepsFlags, same_flags, touched_keeps}
use Rattle.nv_mount_laws.proofs.HiddenKept.{flags_hidden, hidden_flags, there_by}
use Rattle.nv_mount_laws.proofs.ReadingOnly.{ends_well}
use Rattle.nv_mount_laws.proofs.Refused.{refused_by, release_last}
use Rattle.nv_mount_laws.proofs.Released.{no_open}
use Rattle.nv_mount_laws.proofs.Rows.{Elsewhere, Here, Place, Stale, beside_generation, place}
use Rattle.nv_mount_laws.proofs.Standing.{IsWell, stands_well}
use Rattle.nv_mount_laws.proofs.Stays.{keeps_hidden, leaves_open, releases_keep, releases_leave, stands_after}

-- ---- the hidden directory has changed

module _ (s : Serial) (side : Side) (was : AreHidden s side) (well : IsWell s) (now : Time) where
  there : (n : NodeCopy) × (copies_now s side.hidden ≡ Some n)
  there = there_by Dir (copies_now s side.hidden) was.directory

  flags : (gone : Bool) → KeepsFlags s side (touched_if gone now side)
  flags true = touched_keeps s well side was.rows now side.hidden there.0 there.1
  flags false = same_flags s side

  touched_hidden : (gone : Bool) → AreHidden s (touched_if gone now side)
  touched_hidden gone = flags_hidden s side (touched_if gone now side) was well
      (hidden_flags s side (touched_if gone now side) (flags gone))

  in_rows : side.hidden.ino < length side.nodes.rows
  in_rows =
      let lt = well.slot side.hidden there.0 there.1 in
      let rows = was.rows in omega (arith, lt, rows)

  -- what is open then was open
  touched_open : (gone : Bool) (h : Handle) → 0 < (at_node (touched_if gone now side) h).opens
      → 0 < (at_node side h).opens
  touched_open false h opened = opened
  touched_open true h opened = go (place side.nodes side.hidden b in_rows own h) where
    b : Beside
    b = changed now (at_node side side.hidden)

    own : b.generation ≡ side.hidden.generation
    own = beside_generation side.nodes side.hidden

    go : Place side.nodes side.hidden b h → 0 < (at_node side h).opens
    go (Here same put) =
        subst (λ (i : Handle). 0 < (at_node side i).opens) (sym same)
        (subst (λ (r : Beside). 0 < r.opens) put opened)
    go (Elsewhere other same) = subst (λ (r : Beside). 0 < r.opens) same opened
    go (Stale same other untold) =
        no_open (at_node (touched now side.hidden side) h).opens opened
        (ap (λ (r : Beside). r.opens) untold)

-- ---- the request

module _ (side : Side) (now : Time) (number : ℕ) where
  pub release_file_refused : RefusedChangesNothing (release_file side now number) side
  release_file_refused =
      refused_by (release_file side now number) side
      (ends_well (release side number) _ (release_last side number) (λ done. tt) (λ done. tt))

  -- what was released, and touched then
  record Released (old new : Serial) (new_side : Side) : Type 0 where
    outcome : Outcome
    between : Side
    had : IsHad Calls (release side number) old (Ok (outcome, between)) new
    side_is : new_side ≡ touched_if (goes side number) now between

  released_so : (old new : Serial) (new_side : Side) (outcome : Outcome)
      → IsHad Calls (release_file side now number) old (Ok (outcome, new_side)) new
      → Released old new new_side
  released_so old new new_side outcome had =
      let a = went_on Calls _ (release side number) old new (outcome, new_side) had in
      record {
        outcome = a.value.0;
        between = a.value.1;
        had = subst (λ (s : Serial). IsHad Calls (release side number) old (Ok a.value) s)
            (sym a.then.1) a.first;
        side_is = side_told outcome a.value.0 new_side (touched_if (goes side number) now a.value.1)
            a.then.0;
      }

  module _ (small : number < 2 ^ 64) where
    between_hidden : (old new : Serial) (new_side : Side) → CanStand old → AreHidden old side
        → (done : Released old new new_side) → AreHidden new done.between
    between_hidden old new new_side stands was done =
        releases_keep side number small old new done.between (Ok done.outcome) stands was
        (record { had = done.had; same = tt })

    well_after : (old new : Serial) (new_side : Side) → CanStand old → Released old new new_side
        → IsWell new
    well_after old new new_side stands done =
        stands_well new (stands_after (release side number) old new (Ok
        (done.outcome, done.between))
        stands done.had)

    pub release_files_keep : KeepsHidden (release_file side now number) side
    release_files_keep =
        keeps_hidden (release_file side now number) side release_file_refused
        (λ old new new_side outcome stands was had.
        let done = released_so old new new_side outcome had in
        subst (λ (s : Side). AreHidden new s) (sym done.side_is)
        (touched_hidden new done.between (between_hidden old new new_side stands was done)
        (well_after old new new_side stands done) now (goes side number)))

    pub release_files_leave : LeavesOpenFiles (release_file side now number) side
    release_files_leave =
        leaves_open (release_file side now number) side release_file_refused
        (λ old new new_side outcome stands was had handle node is opened.
        let done = released_so old new new_side outcome had in
        (releases_leave side number small old new done.between (Ok done.outcome) stands was
        (record { had = done.had; same = tt }) handle node is
        (touched_open new done.between (between_hidden old new new_side stands was done)
        (well_after old new new_side stands done) now (goes side number) handle
        (subst (λ (s : Side). 0 < (at_node s handle).opens) done.side_is opened))).same)
