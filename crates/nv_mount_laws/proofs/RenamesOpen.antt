-- A rename of a file over an open one.
use Rattle.std.proofs.Common.{◌≡◌, ◌∙◌, ◌<◌, ◌≤◌, ◌⊎◌, inl, inr, ℕ, List, Some, None, Ok, Err, ap, length, refl, subst, sym}
use Rattle.nv_base.specs.declared.numbers.Handle.{Handle}
use Rattle.nv_calls.specs.Refusals.{lookup}
use Rattle.nv_calls.specs.declared.call.Call.{Call}
use Rattle.nv_calls.specs.declared.call.Call.TheVariants as calls
use Rattle.nv_entry.specs.declared.node.NodeCopy.{NodeCopy}
use Rattle.nv_effects.proofs.Effects.{calls_have_effects}
use Rattle.nv_mount_answers.specs.declared.kept.Time.{Time}
use Rattle.nv_mount_beside.specs.Names.{errno_told}
use Rattle.nv_mount_beside.specs.declared.outcome.Outcome.{Outcome}
use Rattle.nv_mount_beside.specs.declared.outcome.Outcome.TheVariants as outcomes
use Rattle.nv_mount_beside.specs.declared.refusal.Refusal.{Refusal}
use Rattle.nv_mount_beside.specs.declared.refusal.Refusal.TheVariants as refusals
use Rattle.nv_mounted.specs.Asks.{ask_done}
use Rattle.nv_mounted.specs.Dialogues.{Asks, Dialogue, Ends, IsHad}
use Rattle.nv_mounted.specs.Renames.{both_touched, move_over_open, moved_now, moved_or_back, replace_open}
use Rattle.nv_mounted.specs.Side.{at_node}
use Rattle.nv_mounted.specs.Talks.{hidden_name_for, hidden_now}
use Rattle.nv_mounted.specs.declared.side.Side.{Side}
use Rattle.nv_serial.specs.Serial.{Serial, copies_now, told}
use Rattle.nv_mount_laws.specs.Hidden.{AreHidden}
use Rattle.nv_mount_laws.specs.World.{CanStand, Calls}
use Rattle.nv_mount_laws.proofs.Asked.{Answered, done_asked, grown}
use Rattle.nv_mount_laws.proofs.Contents.{contents_hidden}
use Rattle.nv_mount_laws.proofs.Dialogues.{GoesOn, Stops, parts, side_told, went_on}
use Rattle.nv_mount_laws.proofs.Flags.{KeepsFlags, flags_twice, moved_keeps, same_flags}
use Rattle.nv_mount_laws.proofs.HiddenKept.{flags_hidden, hidden_flags, same_hidden_flags}
use Rattle.nv_mount_laws.proofs.HidesThere.{there_free, there_hidden, there_open, there_opens, there_still}
use Rattle.nv_mount_laws.proofs.KeptAll.{Ended, Keeps, LeavesAll, at_end, both_keep, dir_there, still}
use Rattle.nv_mount_laws.proofs.PutBack.{put_back}
use Rattle.nv_mount_laws.proofs.RefusedRenames.{CameBack, hides_there, moves, over_open}
use Rattle.nv_mount_laws.proofs.RenamesFound.{IsClosedFile, IsOpenThere}
use Rattle.nv_mount_laws.proofs.RenamesHidden.{IsPlaceOf, renamed_hidden, renamed_open}
use Rattle.nv_mount_laws.proofs.Standing.{IsWell, stands_well}
use Rattle.nv_mount_laws.proofs.UnlinkHidden.{KeepsOpenFiles}

no_value : {A P : Type 0} {a : A} {why : Refusal} → Ok a ≡ Err why → P
no_value e = cc

no_some : {A P : Type 0} {a : A} → None ≡ Some a → P
no_some e = cc

module _ (s : Serial) (side : Side) (stands : CanStand s) (was : AreHidden s side) (now : Time)
    (moved from : Handle) (old : List ℕ) (to : Handle) (new : List ℕ)
    (source : IsPlaceOf side from old) (target : IsPlaceOf side to new)
    (moved_there : (n : NodeCopy) × (copies_now s moved ≡ Some n))
    (from_there : (n : NodeCopy) × (copies_now s from ≡ Some n))
    (there : Handle) (is : IsOpenThere s side to new there) where
  abbrev well : IsWell s
  well = stands_well s stands

  abbrev over : Call
  over = calls.Rename from old to new

  abbrev after : Side
  after = hidden_now now there side

  abbrev moved_after : Side
  moved_after = moved_now now moved after

  abbrev away : List ℕ → Call
  away hidden = calls.Rename to new side.hidden hidden

  abbrev back : List ℕ → Call
  back hidden = calls.Rename side.hidden hidden to new

  -- the move was refused and so was the one back, or it was answered
  abbrev Ends_so : Serial → Serial → Side → Type 0
  Ends_so u t new_side =
      ((t ≡ u) × (new_side ≡ after)) ⊎ (Answered u over t × (new_side ≡ moved_after))

  -- it went away
  record Took (t : Serial) (new_side : Side) : Type 0 where
    hidden : List ℕ
    numbered : hidden_name_for there ≡ Ok hidden
    between : Serial
    went : Answered s (away hidden) between
    ended : Ends_so between t new_side

  -- after the first move, whichever way it goes on
  moved_by_over : (hidden : List ℕ) (u t : Serial) (done : Outcome × Side)
      → IsHad Calls (Asks over (moved_or_back side now moved there (back hidden))) u (Ok done) t
      → Ends_so u t done.1
  moved_by_over hidden u t done (Ok a, last, called, (told_so, same)) = inr (
    record {
      answer = a;
      is = called.answered ∙ ap (λ (v : Serial). told a v) (sym same);
      stands = subst CanStand (sym same) called.stands;
    },
    side_told done.0 outcomes.Done done.1 moved_after told_so,
  )
  moved_by_over hidden u t done
      (Err why, first, called, (Ok a, last, came, (told_so, same))) = no_value told_so
  moved_by_over hidden u t done
      (Err why, first, called, (Err other, last, came, (told_so, same))) = inl (
        same ∙ came.answered.1 ∙ called.answered.1,
        side_told done.0 (outcomes.Refused (errno_told (refusals.Fault why))) done.1 after told_so,
      )

  took : (t : Serial) (done : Outcome × Side)
      → IsHad Calls (move_over_open side now moved from old to new there) s (Ok done) t → Took t done.1
  took t done had =
      let a = went_on Calls (moves side now moved from old to new there) (hides_there there) s t done had in
      let hidden = a.value in
      let so = grown (hidden_name_for there) s a.between hidden a.first in
      let b = went_on Calls (λ gone. Asks over (moved_or_back side now moved there (back hidden)))
      (ask_done (away hidden)) a.between t done a.then in
      let end = moved_by_over hidden b.between t done b.then in
      record {
        hidden = hidden;
        numbered = so.0;
        between = b.between;
        went = subst (λ (u : Serial). Answered u (away hidden) b.between) so.1
            (done_asked a.between b.between (away hidden) b.value b.first);
        ended = end;
      }

  module _ (t : Serial) (new_side : Side) (done : Took t new_side) where
    abbrev u : Serial
    u = done.between

    abbrev last : Side
    last = both_touched now from to new_side

    hidden_between : AreHidden u after
    hidden_between = there_hidden s u side now to new there done.hidden was well target.not_hidden
        is done.numbered done.went

    open_between : KeepsOpenFiles side s u
    open_between = there_open s u side now to new there done.hidden was well target.not_hidden is
        done.numbered done.went

    opens_between : (h : Handle) (n : NodeCopy) → copies_now s h ≡ Some n
        → (at_node after h).opens ≡ (at_node side h).opens
    opens_between = there_opens s u side now to new there done.hidden was well target.not_hidden is
        done.numbered done.went

    still_between : (h : Handle) (n : NodeCopy) → copies_now s h ≡ Some n → (m : NodeCopy)
        × (copies_now u h ≡ Some m)
    still_between = there_still s u side now to new there done.hidden was well target.not_hidden is
        done.numbered done.went

    none : lookup (copies_now u) to new ≡ None
    none = there_free s u side now to new there done.hidden was well target.not_hidden is
        done.numbered done.went

    well_between : IsWell u
    well_between = stands_well u done.went.stands

    beside : KeepsFlags u after new_side
    beside = go done.ended where
      go : Ends_so u t new_side → KeepsFlags u after new_side
      go (inl stayed) =
          subst (λ (x : Side). KeepsFlags u after x) (sym stayed.1) (same_flags u after)
      go (inr went) =
          let node = still_between moved moved_there.0 moved_there.1 in
          subst (λ (x : Side). KeepsFlags u after x) (sym went.1)
          (moved_keeps u well_between after hidden_between.rows now moved node.0 node.1)

    flags : KeepsFlags u after last
    flags =
        let to_there = dir_there (copies_now s) to new there is.bound in
        let source_node = still_between from from_there.0 from_there.1 in
        let target_node = still_between to to_there.0 to_there.1 in
        flags_twice u after new_side last beside
        (both_keep u well_between new_side
        (subst (λ (k : ℕ). length u.slots ≤ k) (sym beside.rows) hidden_between.rows) now from to
        source_node.0 target_node.0 source_node.1 target_node.1)

    -- the move was made, or nothing changed
    made_or_not : (t ≡ u) ⊎ Answered u over t
    made_or_not = go done.ended where
      go : Ends_so u t new_side → (t ≡ u) ⊎ Answered u over t
      go (inl stayed) = inl stayed.0
      go (inr went) = inr went.0

    free : (other : Handle) → lookup (copies_now u) to new ≡ Some other
        → IsClosedFile u after other
    free other at = no_some (sym none ∙ at)

    source_after : IsPlaceOf after from old
    source_after = record { not_hidden = source.not_hidden; free = source.free }

    target_after : IsPlaceOf after to new
    target_after = record { not_hidden = target.not_hidden; free = target.free }

    hidden_last : (t ≡ u) ⊎ Answered u over t → AreHidden t last
    hidden_last (inl same) = subst (λ (v : Serial). AreHidden v last) (sym same)
        (flags_hidden u after last hidden_between well_between
        (hidden_flags u after last flags))
    hidden_last (inr went) = renamed_hidden u t after last from old to new hidden_between
        well_between source_after target_after free went flags

    open_last : (t ≡ u) ⊎ Answered u over t → KeepsOpenFiles side s t
    open_last (inl same) h n at kind opened =
        ap (λ (v : Serial). copies_now v h) same ∙ open_between h n at kind opened
    open_last (inr went) h n at kind opened =
        renamed_open u t after last from old to new hidden_between well_between source_after
        target_after free went flags h n (open_between h n at kind opened) kind
        (subst (λ (k : ℕ). 0 < k) (sym (opens_between h n at)) opened)

    opens_last : (h : Handle) (n : NodeCopy) → copies_now s h ≡ Some n
        → (at_node last h).opens ≡ (at_node side h).opens
    opens_last h n at =
        let now_there = still_between h n at in
        (flags.there h now_there.0 now_there.1).opens ∙ opens_between h n at

    took_leaves : LeavesAll s side t last
    took_leaves = record {
      hidden = hidden_last made_or_not;
      open_files = open_last made_or_not;
      opens = opens_last;
    }

  back_slots : (t : Serial) → CameBack side s t → length t.slots ≡ length s.slots
  back_slots t back_so =
      let trip = back_so.trip in
      let went = calls_have_effects s trip.between 0 (calls.Rename back_so.dir back_so.name
      side.hidden back_so.hidden) trip.went.answer refl trip.went.is in
      let came = calls_have_effects trip.between t 0 (calls.Rename side.hidden back_so.hidden
      back_so.dir back_so.name) trip.came.answer refl trip.came.is in
      came.1.slots ∙ went.1.slots

  -- it came back
  came : (t : Serial) → (t ≡ s) ⊎ CameBack side s t → LeavesAll s side t side
  came t (inl same) = still s side was t same
  came t (inr back_so) =
      let is_back = put_back s t side was well back_so in
      record {
        hidden = contents_hidden s t side side was well
            (record { kinds = is_back.kinds; names = is_back.names; slots = back_slots t back_so })
            (same_hidden_flags s side side refl);
        open_files = λ h n at kind opened. is_back.files h n at kind;
        opens = λ h n at. refl;
      }

  abbrev touches_open : Outcome × Side → Dialogue (Outcome × Side)
  touches_open done = Ends (Ok (done.0, both_touched now from to done.1))

  abbrev over_there : Dialogue (Outcome × Side)
  over_there = move_over_open side now moved from old to new there

  pub open_keeps : Keeps s side (replace_open side now moved from old to new there)
  open_keeps t end had = go (parts Calls touches_open over_there s t end had) where
    go : GoesOn Calls touches_open over_there s end t ⊎ Stops Calls touches_open over_there s end t
        → Ended s side end t
    go (inl on) =
        at_end s side t end (Ok (on.value.0, both_touched now from to on.value.1)) on.then.0
        (subst (λ (u : Serial). LeavesAll s side u (both_touched now from to on.value.1))
        (sym on.then.1)
        (took_leaves on.between on.value.1 (took on.between on.value on.first)))
    go (inr stop) =
        at_end s side t end (Err stop.why) stop.is
        (came t (over_open side now moved from old to new there s t stop.why is.bound stop.first))
