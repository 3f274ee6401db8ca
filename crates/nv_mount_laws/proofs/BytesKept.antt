-- Writes and fallocates leave hidden files hidden, other files as they are, and each node as often
-- open.
use Rattle.std.proofs.Common.{◌==◌, ◌∙◌, ◌≡◌, Bool, Err, List, Ok, Option, ap, false, inl, inr, refl, subst, sym, true, ℕ}
use Rattle.std.specs.Prelude.{if◌then◌else◌, nat_le, nat_lt}
use Rattle.nv_base.specs.declared.numbers.Handle.{Handle}
use Rattle.nv_calls.specs.calls.Write.{text_refusal}
use Rattle.nv_calls.specs.declared.call.Call.{Call}
use Rattle.nv_calls.specs.declared.call.Call.TheVariants as calls
use Rattle.nv_calls.proofs.Passed.{file_passed}
use Rattle.nv_effects.proofs.Effects.{calls_have_effects}
use Rattle.nv_fuse.specs.declared.errno.Errno.TheVariants as errno
use Rattle.nv_mount_answers.specs.declared.kept.Shape.{Shape}
use Rattle.nv_mount_answers.specs.declared.kept.Time.{Time}
use Rattle.nv_mount_beside.specs.Names.{node_named, or_refused, refused}
use Rattle.nv_mount_beside.specs.declared.outcome.Outcome.{Outcome}
use Rattle.nv_mount_beside.specs.declared.outcome.Outcome.TheVariants as outcomes
use Rattle.nv_mount_beside.specs.declared.refusal.Refusal.{Refusal}
use Rattle.nv_mounted.specs.Asks.{ask, ask_done, ask_shape}
use Rattle.nv_mounted.specs.Contents.{count_told, fallocate, write_bytes}
use Rattle.nv_mounted.specs.Dialogues.{◌>>=◌, Dialogue, Ends, Grows, IsHad}
use Rattle.nv_mounted.specs.Side.{touched}
use Rattle.nv_mounted.specs.declared.side.Side.{Side}
use Rattle.nv_serial.specs.Serial.{Serial, copies_now, told}
use Rattle.nv_mount_laws.specs.Hidden.{AreHidden, KeepsHidden}
use Rattle.nv_mount_laws.specs.World.{Calls, CanStand}
use Rattle.nv_mount_laws.specs.Open.{LeavesOpens, LeavesOtherFiles}
use Rattle.nv_mount_laws.proofs.Asked.{Answered, done_asked, shape_asked}
use Rattle.nv_mount_laws.proofs.Dialogues.{side_told, went_on}
use Rattle.nv_mount_laws.proofs.Flags.{KeepsFlags, same_flags, touched_keeps}
use Rattle.nv_mount_laws.proofs.RefusedBytes.{grows}
use Rattle.nv_mount_laws.proofs.Standing.{stands_well}
use Rattle.nv_mount_laws.proofs.Contents.{OnlyOf, both_of, chosen_of, flags_count, names_hidden, others_stay}

-- ---- writes

no_value : {A P : Type 0} {a : A} {why : Refusal} → Ok a ≡ Err why → P
no_value e = cc

counted : (old new : Serial) (c : Call) (count : ℕ)
    → IsHad Calls (Grows (ask c count_told)) old (Ok count) new → Answered old c new
counted old new c count (inl had) = no_value had.0
counted old new c count (inr (Ok a, between, called, (is, same))) = record {
  answer = a;
  is = called.answered ∙ ap (λ (s : Serial). told a s) (sym same);
  stands = subst CanStand (sym same) called.stands;
}
counted old new c count (inr (Err why, between, called, (is, same))) = no_value is

module _ (side : Side) (now : Time) (number offset : ℕ) (bytes : List ℕ) where
  abbrev write_of : (file : Handle) → Dialogue (Outcome × Side)
  write_of file = Grows (ask (calls.Write file offset bytes) count_told) >>=
      λ count. Ends (Ok (outcomes.Written count, touched now file side))

  -- it writes to the node that it names
  write_only : (file : Handle) → OnlyOf file (write_of file)
  write_only file =
      both_of file (Grows (ask (calls.Write file offset bytes) count_told)) _ (refl, λ answer. tt)
      (λ count. tt)

  write_flags : (old new : Serial) (new_side : Side) (outcome : Outcome) → CanStand old
      → AreHidden old side
      → IsHad Calls (write_bytes side now number offset bytes) old (Ok (outcome, new_side)) new
      → KeepsFlags old side new_side
  write_flags old new new_side outcome stands was had =
      let a = went_on Calls _ (Ends (node_named number)) old new (outcome, new_side) had in
      let file = a.value in
      let b = went_on Calls _ (Grows (ask (calls.Write file offset bytes) count_told)) a.between new
      (outcome, new_side) a.then in
      let asked = counted a.between b.between (calls.Write file offset bytes) b.value b.first in
      let at : Answered old (calls.Write file offset bytes) new =
      subst (λ (s : Serial). Answered s (calls.Write file offset bytes) new) a.first.1
      (subst (λ (s : Serial). Answered a.between (calls.Write file offset bytes) s) (sym b.then.1)
      asked) in
      let has = calls_have_effects old new 0 (calls.Write file offset bytes) at.answer refl at.is in
      let there = (file_passed (copies_now old file) (text_refusal old.numbers.block offset bytes)
      has.1.unrefused).0 in
      let after : new_side ≡ touched now file side =
      side_told outcome (outcomes.Written b.value) new_side (touched now file side) b.then.0 in
      subst (λ (s : Side). KeepsFlags old side s) (sym after)
      (touched_keeps old (stands_well old stands) side was.rows now file there.node there.is)

  pub writes_keep : KeepsHidden (write_bytes side now number offset bytes) side
  writes_keep = names_hidden side number _ write_only write_flags

  pub writes_count : LeavesOpens (write_bytes side now number offset bytes) side
  writes_count = flags_count (write_bytes side now number offset bytes) side write_flags

  pub writes_leave : LeavesOtherFiles (write_bytes side now number offset bytes) side number
  writes_leave = others_stay side number _ write_only

-- ---- fallocate

module _ (side : Side) (now : Time) (number : ℕ) (end : Option ℕ) (mode : ℕ) where
  grown_by : (old new : Serial) (new_side : Side) (outcome : Outcome) (file : Handle) (size : ℕ)
      → CanStand old → AreHidden old side
      → IsHad Calls (grows side now file size) old (Ok (outcome, new_side)) new
      → KeepsFlags old side new_side
  grown_by old new new_side outcome file size stands was had =
      let a = went_on Calls _ (ask_done (calls.Size file size)) old new (outcome, new_side) had in
      let asked = done_asked old a.between (calls.Size file size) a.value a.first in
      let at : Answered old (calls.Size file size) new =
      subst (λ (s : Serial). Answered old (calls.Size file size) s) (sym a.then.1) asked in
      let has = calls_have_effects old new 0 (calls.Size file size) at.answer refl at.is in
      let there = (file_passed (copies_now old file) _ has.1.unrefused).0 in
      let after : new_side ≡ touched now file side =
      side_told outcome outcomes.Done new_side (touched now file side) a.then.0 in
      subst (λ (s : Side). KeepsFlags old side s) (sym after)
      (touched_keeps old (stands_well old stands) side was.rows now file there.node there.is)

  -- nothing is to be done
  abbrev still : Dialogue (Outcome × Side)
  still = Ends (Ok (outcomes.Done, side))

  still_by : (old new : Serial) (new_side : Side) (outcome : Outcome)
      → IsHad Calls still old (Ok (outcome, new_side)) new → KeepsFlags old side new_side
  still_by old new new_side outcome had =
      subst (λ (s : Side). KeepsFlags old side s)
      (sym (side_told outcome outcomes.Done new_side side had.0)) (same_flags old side)

  -- a longer file, or one that is long enough
  abbrev by_size : Handle → ℕ → Shape → Dialogue (Outcome × Side)
  by_size file size shape = if nat_le size shape.size then still else grows side now file size

  abbrev by_mode : Handle → ℕ → Dialogue (Outcome × Side)
  by_mode file size = if mode == 1 then still else ask_shape file >>= by_size file size

  abbrev by_end : Handle → Dialogue (Outcome × Side)
  by_end file = Ends (or_refused errno.FileTooBig end) >>= by_mode file

  sized : (old new : Serial) (new_side : Side) (outcome : Outcome) (file : Handle) (size : ℕ)
      (b : Bool) → CanStand old → AreHidden old side
      → IsHad Calls (if b then still else grows side now file size) old (Ok (outcome, new_side)) new
      → KeepsFlags old side new_side
  sized old new new_side outcome file size true stands was had =
      still_by old new new_side outcome had
  sized old new new_side outcome file size false stands was had =
      grown_by old new new_side outcome file size stands was had

  moded : (old new : Serial) (new_side : Side) (outcome : Outcome) (file : Handle) (size : ℕ)
      (b : Bool) → CanStand old → AreHidden old side
      → IsHad Calls (if b then still else ask_shape file >>= by_size file size) old
      (Ok (outcome, new_side)) new
      → KeepsFlags old side new_side
  moded old new new_side outcome file size true stands was had =
      still_by old new new_side outcome had
  moded old new new_side outcome file size false stands was had =
      let a = went_on Calls (by_size file size) (ask_shape file) old new (outcome, new_side) had in
      let same = (shape_asked old a.between file a.value a.first).1 in
      sized old new new_side outcome file size (nat_le size a.value.size) stands was
      (subst (λ (s : Serial). IsHad Calls (by_size file size a.value) s (Ok (outcome, new_side))
      new) same a.then)

  ended : (old new : Serial) (new_side : Side) (outcome : Outcome) (file : Handle) (b : Bool)
      → CanStand old → AreHidden old side
      → IsHad Calls (if b then Ends (refused errno.NotSupported) else by_end file) old
      (Ok (outcome, new_side)) new → KeepsFlags old side new_side
  ended old new new_side outcome file true stands was had = no_value had.0
  ended old new new_side outcome file false stands was had =
      let a = went_on Calls (by_mode file) (Ends (or_refused errno.FileTooBig end)) old new
      (outcome, new_side) had in
      moded old new new_side outcome file a.value (mode == 1) stands was
      (subst (λ (s : Serial). IsHad Calls (by_mode file a.value) s (Ok (outcome, new_side)) new)
      a.first.1 a.then)

  grown_so : (old new : Serial) (new_side : Side) (outcome : Outcome) → CanStand old
      → AreHidden old side
      → IsHad Calls (fallocate side now number end mode) old (Ok (outcome, new_side)) new
      → KeepsFlags old side new_side
  grown_so old new new_side outcome stands was had =
      let a = went_on Calls _ (Ends (node_named number)) old new (outcome, new_side) had in
      ended old new new_side outcome a.value (nat_lt 1 mode) stands was
      (subst (λ (s : Serial). IsHad Calls (if nat_lt 1 mode then Ends (refused errno.NotSupported)
      else by_end a.value) s (Ok (outcome, new_side)) new)
      a.first.1 a.then)

  fallocate_only : (file : Handle) → OnlyOf file
      (if nat_lt 1 mode then Ends (refused errno.NotSupported) else by_end file)
  fallocate_only file =
      chosen_of file (nat_lt 1 mode) (Ends (refused errno.NotSupported)) (by_end file) tt
      (both_of file (Ends (or_refused errno.FileTooBig end)) (by_mode file) tt (λ size.
      chosen_of file (mode == 1) still (ask_shape file >>= by_size file size) tt
      (both_of file (ask_shape file) (by_size file size) (tt, λ answer. tt) (λ shape.
      chosen_of file (nat_le size shape.size) still (grows side now file size) tt
      (both_of file (ask_done (calls.Size file size)) _ (refl, λ answer. tt) (λ done. tt))))))

  pub fallocates_keep : KeepsHidden (fallocate side now number end mode) side
  fallocates_keep = names_hidden side number _ fallocate_only grown_so

  pub fallocates_count : LeavesOpens (fallocate side now number end mode) side
  fallocates_count = flags_count (fallocate side now number end mode) side grown_so

  pub fallocates_leave : LeavesOtherFiles (fallocate side now number end mode) side number
  fallocates_leave = others_stay side number _ fallocate_only
