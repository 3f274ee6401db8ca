-- A rename over nothing, over a file that is not open, or over an empty directory.
use Rattle.std.proofs.Common.{◌≡◌, ◌∙◌, ◌⊎◌, inl, inr, ℕ, List, Some, None, Ok, Err, refl, subst, sym}
use Rattle.nv_base.specs.declared.node.Kind.TheVariants.{Dir}
use Rattle.nv_base.specs.declared.numbers.Handle.{Handle}
use Rattle.nv_calls.specs.Refusals.{lookup}
use Rattle.nv_calls.specs.declared.call.Call.{Call}
use Rattle.nv_calls.specs.declared.call.Call.TheVariants as calls
use Rattle.nv_entry.specs.declared.node.NodeCopy.{NodeCopy}
use Rattle.nv_effects.proofs.Effects.{calls_have_effects}
use Rattle.nv_mount_answers.specs.declared.kept.Time.{Time}
use Rattle.nv_mount_beside.specs.declared.outcome.Outcome.{Outcome}
use Rattle.nv_mount_beside.specs.declared.outcome.Outcome.TheVariants as outcomes
use Rattle.nv_mount_beside.specs.declared.refusal.Refusal.{Refusal}
use Rattle.nv_mounted.specs.Asks.{ask_done}
use Rattle.nv_mounted.specs.Dialogues.{Dialogue, Ends}
use Rattle.nv_mounted.specs.Renames.{all_touched, move_freely, move_name, move_over_directory, replace_directory}
use Rattle.nv_mounted.specs.declared.side.Side.{Side}
use Rattle.nv_serial.specs.Serial.{Serial, copies_now}
use Rattle.nv_mount_laws.specs.Hidden.{AreHidden}
use Rattle.nv_mount_laws.specs.World.{CanStand, Calls}
use Rattle.nv_mount_laws.proofs.Asked.{Answered, done_asked}
use Rattle.nv_mount_laws.proofs.Dialogues.{GoesOn, Stops, parts, went_on}
use Rattle.nv_mount_laws.proofs.Effects.{rename_passed}
use Rattle.nv_mount_laws.proofs.Flags.{left_keeps, same_flags}
use Rattle.nv_mount_laws.proofs.HiddenKept.{there_by}
use Rattle.nv_mount_laws.proofs.KeptAll.{Ended, Keeps, LeavesAll, all_keep, at_end, grown_done, still}
use Rattle.nv_mount_laws.proofs.OtherRequests.{gone_dir, gone_hidden, gone_names, gone_open, gone_were}
use Rattle.nv_mount_laws.proofs.PutBack.{left_free}
use Rattle.nv_mount_laws.proofs.ReadingOnly.{refused_same}
use Rattle.nv_mount_laws.proofs.Refused.{done_last}
use Rattle.nv_mount_laws.proofs.RefusedRenames.{removal, then_moves}
use Rattle.nv_mount_laws.proofs.RenamesFound.{IsClosedFile}
use Rattle.nv_mount_laws.proofs.RenamesHidden.{IsPlaceOf, renamed_hidden, renamed_open}
use Rattle.nv_mount_laws.proofs.Standing.{IsWell, stands_well}

no_some : {A P : Type 0} {a : A} → None ≡ Some a → P
no_some e = cc

module _ (s : Serial) (side : Side) (stands : CanStand s) (was : AreHidden s side) (now : Time)
    (moved from : Handle) (old : List ℕ) (to : Handle) (new : List ℕ)
    (source : IsPlaceOf side from old) (target : IsPlaceOf side to new)
    (moved_there : (n : NodeCopy) × (copies_now s moved ≡ Some n))
    (from_there : (n : NodeCopy) × (copies_now s from ≡ Some n)) where
  abbrev well : IsWell s
  well = stands_well s stands

  -- ---- over nothing, or over a file that is not open

  abbrev over : Call
  over = calls.Rename from old to new

  freely : (t : Serial) → Answered s over t
      → ((there : Handle) → lookup (copies_now s) to new ≡ Some there
      → IsClosedFile s side there)
      → LeavesAll s side t (all_touched now moved from to side)
  freely t done free =
      let has = calls_have_effects s t 0 over done.answer refl done.is in
      let passed = rename_passed s t from old to new has.0 done.answer has.1 in
      let source_node = there_by Dir (copies_now s from) passed.from_is in
      let target_node = there_by Dir (copies_now s to) passed.to_is in
      let flags = all_keep s well side was.rows now moved from to moved_there.0 source_node.0
      target_node.0 moved_there.1 source_node.1 target_node.1 in
      record {
        hidden = renamed_hidden s t side (all_touched now moved from to side) from old to new was well
            source target free done flags;
        open_files = renamed_open s t side (all_touched now moved from to side) from old to new was
            well source target free done flags;
        opens = λ h n is. (flags.there h n is).opens;
      }

  abbrev touches : Unit {0} → Dialogue (Outcome × Side)
  touches done = Ends (Ok (outcomes.Done, all_touched now moved from to side))

  pub free_keeps : ((there : Handle) → lookup (copies_now s) to new ≡ Some there
      → IsClosedFile s side there) → Keeps s side (move_freely side now moved from old to new)
  free_keeps free t end had = go (parts Calls touches (move_name from old to new) s t end had)
    where
      go : GoesOn Calls touches (move_name from old to new) s end t
          ⊎ Stops Calls touches (move_name from old to new) s end t → Ended s side end t
      go (inl on) =
          let done = grown_done s on.between over on.value on.first in
          at_end s side t end (Ok (outcomes.Done, all_touched now moved from to side)) on.then.0
          (subst (λ (u : Serial). LeavesAll s side u (all_touched now moved from to side))
          (sym on.then.1) (freely on.between done free))
      go (inr stop) =
          at_end s side t end (Err stop.why) stop.is
          (still s side was t (refused_same (move_name from old to new) (done_last over) s t
          stop.why stop.first))

  -- ---- over an empty directory

  abbrev gone_call : Call
  gone_call = calls.Rmdir to new

  removed : (u : Serial) → Answered s gone_call u → LeavesAll s side u side
  removed u gone = record {
    hidden = gone_hidden s u side to new was well target.free gone side (same_flags s side);
    open_files = λ h n is kind opened.
        gone_open s u side to new was well target.free gone h n is kind;
    opens = λ h n is. refl;
  }

  -- a directory went before, and the move goes where nothing stands
  then_moved : (u t : Serial) → Answered s gone_call u → Answered u over t
      → LeavesAll s side t (all_touched now moved from to side)
  then_moved u t gone done =
      let well_between = stands_well u gone.stands in
      let first = removed u gone in
      let dir = gone_dir s u side to new was well target.free gone in
      let none : lookup (copies_now u) to new ≡ None =
      left_free (copies_now s) (copies_now u) to new dir
      (gone_names s u side to new was well target.free gone) in
      let to_there = there_by Dir (copies_now s to) dir in
      let after = all_touched now moved from to side in
      let free : (there : Handle) → lookup (copies_now u) to new ≡ Some there
      → IsClosedFile u side there = (λ there at. no_some (sym none ∙ at)) in
      let flags_before = all_keep s well side was.rows now moved from to moved_there.0
      from_there.0 to_there.0 moved_there.1 from_there.1 to_there.1 in
      let flags = left_keeps s u side after flags_before
      (gone_were s u side to new was well target.free gone) in
      record {
        hidden = renamed_hidden u t side after from old to new first.hidden well_between source
            target free done flags;
        open_files = λ h n is kind opened.
            renamed_open u t side after from old to new first.hidden well_between source
            target free done flags h n (first.open_files h n is kind opened) kind opened;
        opens = λ h n is. (flags_before.there h n is).opens;
      }

  pub directory_keeps : Keeps s side (replace_directory side now moved from old to new)
  directory_keeps t end had =
      go (parts Calls touches (move_over_directory from old to new) s t end had) where
        then_done : (u : Serial) (v : Unit {0})
            → GoesOn Calls (then_moves from old to new) (removal to new) s (Ok v) u
            → LeavesAll s side u (all_touched now moved from to side)
        then_done u v on =
            then_moved on.between u (grown_done s on.between gone_call on.value on.first)
            (done_asked on.between u over v on.then)

        stopped : (why : Refusal)
            → GoesOn Calls (then_moves from old to new) (removal to new) s (Err why) t
            ⊎ Stops Calls (then_moves from old to new) (removal to new) s (Err why) t
            → LeavesAll s side t side
        stopped why (inl on) =
            subst (λ (u : Serial). LeavesAll s side u side)
            (sym (refused_same (ask_done over) (done_last over) on.between t why on.then))
            (removed on.between (grown_done s on.between gone_call on.value on.first))
        stopped why (inr stop) =
            still s side was t
            (refused_same (removal to new) (done_last gone_call) s t stop.why stop.first)

        go : GoesOn Calls touches (move_over_directory from old to new) s end t
            ⊎ Stops Calls touches (move_over_directory from old to new) s end t
            → Ended s side end t
        go (inl on) =
            at_end s side t end (Ok (outcomes.Done, all_touched now moved from to side)) on.then.0
            (subst (λ (u : Serial). LeavesAll s side u (all_touched now moved from to side))
            (sym on.then.1)
            (then_done on.between on.value (went_on Calls (then_moves from old to new)
            (removal to new) s on.between on.value on.first)))
        go (inr stop) =
            at_end s side t end (Err stop.why) stop.is
            (stopped stop.why (parts Calls (then_moves from old to new) (removal to new) s t
            (Err stop.why) stop.first))
