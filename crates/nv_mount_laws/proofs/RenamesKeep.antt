-- A rename, answered or refused: hidden files stay hidden, open files stay as they are, and each
-- node is as often open as it was.
use Rattle.std.proofs.Common.{◌≡◌, ◌∙◌, ℕ, List, Some, Result, Ok, Err, ap, refl, subst, sym}
use Rattle.std.specs.Prelude.{nat_lt}
use Rattle.nv_base.specs.declared.numbers.Handle.{Handle}
use Rattle.nv_calls.specs.declared.call.Call.TheVariants as calls
use Rattle.nv_entry.specs.declared.node.NodeCopy.{NodeCopy}
use Rattle.nv_mount_answers.specs.declared.kept.Time.{Time}
use Rattle.nv_mount_beside.specs.Names.{free_name, node_named}
use Rattle.nv_mount_beside.specs.declared.outcome.Outcome.{Outcome}
use Rattle.nv_mount_beside.specs.declared.outcome.Outcome.TheVariants as outcomes
use Rattle.nv_mount_beside.specs.declared.refusal.Refusal.{Refusal}
use Rattle.nv_mounted.specs.Asks.{ask_handle}
use Rattle.nv_mounted.specs.Dialogues.{Dialogue, Ends, Grows, IsHad}
use Rattle.nv_mounted.specs.Renames.{ask_way, moved_by, rename}
use Rattle.nv_mounted.specs.Side.{Does, with_side}
use Rattle.nv_mounted.specs.declared.rename.Way.{Way}
use Rattle.nv_mounted.specs.declared.rename.Way.TheVariants as ways
use Rattle.nv_mounted.specs.declared.side.Side.{Side}
use Rattle.nv_serial.specs.Serial.{Serial, copies_now}
use Rattle.nv_mount_laws.specs.Hidden.{AreHidden, KeepsHidden, NamesAnother}
use Rattle.nv_mount_laws.specs.Open.{LeavesOpenFiles, LeavesOpens}
use Rattle.nv_mount_laws.specs.World.{CanStand, Calls}
use Rattle.nv_mount_laws.proofs.Asked.{grown, looked_up}
use Rattle.nv_mount_laws.proofs.KeptAll.{Keeps, LeavesAll, at_end, behind, dir_there, else_keeps, still}
use Rattle.nv_mount_laws.proofs.OtherRequests.{not_reserved}
use Rattle.nv_mount_laws.proofs.RefusedRenames.{asks_way}
use Rattle.nv_mount_laws.proofs.RenamesFound.{IsWay, moved_there, way_found}
use Rattle.nv_mount_laws.proofs.RenamesFree.{directory_keeps, free_keeps}
use Rattle.nv_mount_laws.proofs.RenamesHidden.{IsPlaceOf}
use Rattle.nv_mount_laws.proofs.RenamesOpen.{open_keeps}
use Rattle.nv_mount_laws.proofs.Stays.{stands_after, stays}

module _ (s : Serial) (side : Side) (stands : CanStand s) (was : AreHidden s side) (now : Time)
    (moved from : Handle) (old : List ℕ) (to : Handle) (new : List ℕ)
    (source : IsPlaceOf side from old) (target : IsPlaceOf side to new)
    (moved_is : (n : NodeCopy) × (copies_now s moved ≡ Some n))
    (from_there : (n : NodeCopy) × (copies_now s from ≡ Some n)) where
  way_keeps : (way : Way) → IsWay s side to new way
      → Keeps s side (moved_by side now moved from old to new way)
  way_keeps ways.Same found t end had = at_end s side t end (Ok (outcomes.Done, side)) had.0
      (still s side was t had.1)
  way_keeps ways.Free found t end had =
      free_keeps s side stands was now moved from old to new source target moved_is
      from_there found t end
      had
  way_keeps ways.Directory found t end had =
      directory_keeps s side stands was now moved from old to new source target moved_is
      from_there t end had
  way_keeps (ways.Open there) found t end had =
      open_keeps s side stands was now moved from old to new source target moved_is
      from_there there
      found t end had

-- A RENAME, answered or refused
module _ (s : Serial) (side : Side) (stands : CanStand s) (was : AreHidden s side) (now : Time)
    (from : ℕ) (old : List ℕ) (to : ℕ) (new : List ℕ) (flags : ℕ)
    (from_another : NamesAnother side from) (to_another : NamesAnother side to) where
  place : (number : ℕ) (dir : Handle) (file name : List ℕ) → NamesAnother side number
      → Ok dir ≡ node_named number → IsHad Calls (Grows (Ends (free_name dir file))) s (Ok name) s
      → IsPlaceOf side dir name
  place number dir file name another is named_so = record {
    not_hidden = λ same. another (sym is ∙ ap (λ (h : Handle). Ok h) same);
    free = not_reserved dir file name (grown (free_name dir file) s s name named_so).0;
  }

  pub rename_all : Keeps s side (rename side now from old to new flags)
  rename_all =
      behind s side was (Ends (node_named from)) _ tt (λ source source_is.
      behind s side was (Ends (node_named to)) _ tt (λ target target_is.
      else_keeps s side was (nat_lt 1 flags) _
      (behind s side was (Grows (Ends (free_name source old))) _ tt (λ old_name old_is.
      behind s side was (Grows (Ends (free_name target new))) _ tt (λ new_name new_is.
      behind s side was (ask_handle (calls.Lookup source old_name)) _ (refl, λ answer. tt)
      (λ moved found_so.
      behind s side was (ask_way side moved source target new_name flags) _
      (asks_way side moved source target new_name flags) (λ way way_is.
      way_keeps s side stands was now moved source old_name target new_name
      (place from source old old_name from_another source_is.0 old_is)
      (place to target new new_name to_another target_is.0 new_is)
      (moved_there side target new_name s s moved source flags way way_is)
      (dir_there (copies_now s) source old_name moved
      (looked_up s s source old_name moved found_so).0)
      way (way_found side target new_name s s moved source flags way way_is))))))))

-- ---- the laws

module _ (side : Side) (now : Time) (from : ℕ) (old : List ℕ) (to : ℕ) (new : List ℕ) (flags : ℕ)
    (from_another : NamesAnother side from) (to_another : NamesAnother side to) where
  abbrev request : Dialogue (Outcome × Side)
  request = rename side now from old to new flags

  all_of : (s t : Serial) (new_side : Side) (result : Result Outcome Refusal) → CanStand s
      → AreHidden s side → Does Calls request s side result t new_side
      → LeavesAll s side t new_side
  all_of s t new_side (Ok outcome) stands was does =
      rename_all s side stands was now from old to new flags from_another to_another t
      (Ok (outcome, new_side)) does.had
  all_of s t new_side (Err why) stands was does =
      subst (λ (x : Side). LeavesAll s side t x) (sym does.same)
      (rename_all s side stands was now from old to new flags from_another to_another t (Err why)
      does.had)

  pub renames_keep : KeepsHidden request side
  renames_keep s t new_side result stands was does =
      (all_of s t new_side result stands was does).hidden

  pub renames_leave : LeavesOpenFiles request side
  renames_leave s t new_side result stands was does handle node is opened =
      stays s t handle node (stands_after request s t (with_side new_side result) stands does.had)
      is.there is.file
      ((all_of s t new_side result stands was does).open_files handle node is.there is.file
      is.is_open)

  pub renames_count : LeavesOpens request side
  renames_count s t new_side result stands was does handle node is =
      (all_of s t new_side result stands was does).opens handle node is
