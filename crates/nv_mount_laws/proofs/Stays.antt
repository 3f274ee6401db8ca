-- A world that stands after a dialogue, and files that stay in it.
use Rattle.std.proofs.Common.{◌≡◌, ◌∙◌, ◌^◌, ◌<◌, ◌==◌, ℕ, zero, suc, arith, Bool, true, false, if◌then◌else◌, inl, inr, List, Option, Some, Result, Ok, Err, ap, refl, subst, sym}
use Rattle.std.proofs.lemmas.Bool.{true≢false}
use Rattle.nv_base.specs.declared.node.Kind.TheVariants.{File}
use Rattle.nv_base.specs.declared.numbers.Handle.{Handle}
use Rattle.nv_calls.specs.Refusals.{kind_of, want_file}
use Rattle.nv_calls.specs.calls.Write.{text_refusal}
use Rattle.nv_entry.specs.declared.node.NodeCopy.{NodeCopy}
use Rattle.nv_mount_answers.specs.declared.kept.Time.{Time}
use Rattle.nv_mount_beside.specs.Names.{node_named}
use Rattle.nv_mount_beside.specs.declared.outcome.Outcome.{Outcome}
use Rattle.nv_mount_beside.specs.declared.outcome.Outcome.TheVariants as outcomes
use Rattle.nv_mount_beside.specs.declared.refusal.Refusal.{Refusal}
use Rattle.nv_mounted.specs.Dialogues.{Asks, Dialogue, Ends, Grows, GrowsOr, IsHad}
use Rattle.nv_mounted.specs.Side.{at_node}
use Rattle.nv_mounted.specs.Talks.{is_unopened, open_node, release, release_opened, rmdir, unlink, unopened_in}
use Rattle.nv_mounted.specs.declared.side.Side.{Side}
use Rattle.nv_effects.proofs.Visits.{read_told}
use Rattle.nv_serial.specs.Serial.{Serial, copies_now}
use Rattle.nv_mount_laws.specs.Hidden.{AreHidden, KeepsHidden}
use Rattle.nv_mount_laws.specs.Open.{IsOpenFile, LeavesOpenFiles, LeavesOpens, Stays}
use Rattle.nv_mount_laws.specs.Refused.{RefusedChangesNothing}
use Rattle.nv_mount_laws.specs.World.{CanStand, Calls}
use Rattle.nv_mount_laws.proofs.Refused.{open_refused, open_same, refused_by, release_opened_refused, rmdir_refused, unlink_refused}
use Rattle.nv_mount_laws.proofs.Dialogues.{side_told}
use Rattle.nv_mount_laws.proofs.OtherRequests.{open_hidden, opens, removes, rmdir_hidden, rmdir_open, rmdir_opens}
use Rattle.nv_mount_laws.proofs.Released.{releases}
use Rattle.nv_mount_laws.proofs.Releases.{release_hidden, release_open}
use Rattle.nv_mount_laws.proofs.Standing.{stands_well}
use Rattle.nv_mount_laws.proofs.UnlinkHidden.{unlink_hidden, unlink_open, unlink_opens}
use Rattle.nv_mount_laws.proofs.Unlinked.{unlinks}

-- a world of the machine stands as the one after a dialogue
pub stands_after : {A : Type 0} (d : Dialogue A) (old new : Serial) (end : Result A Refusal)
    → CanStand old → IsHad Calls d old end new
    → CanStand new
stands_after (Ends told) old new end stands had = subst CanStand (sym had.1) stands
stands_after (Grows rest) old new end stands (inl had) = subst CanStand (sym had.1) stands
stands_after (Grows rest) old new end stands (inr had) = stands_after rest old new end stands had
stands_after (GrowsOr refused rest) old new end stands (inl had) =
    stands_after refused old new end stands had
stands_after (GrowsOr refused rest) old new end stands (inr had) =
    stands_after rest old new end stands had
stands_after (Asks call rest) old new end stands had =
    stands_after (rest had.0) had.1 new end had.2.stands had.3

-- a file that is the same node is read and written as before
pub stays : (old new : Serial) (handle : Handle) (node : NodeCopy) → CanStand new
    → copies_now old handle ≡ Some node → node.kind ≡ File
    → copies_now new handle ≡ Some node → Stays old new handle node
stays old new handle node stands was file is = record {
  same = is;
  reads = λ offset count. read_told new 0 handle offset count node (stands_well new stands).actors
      is file;
  writes = λ block offset text. ap (λ (n : Option NodeCopy). want_file (kind_of n)
      (text_refusal block offset text)) (is ∙ sym was);
}

-- ---- a law of an answered request, and of a refused one

-- what holds where nothing has changed holds of a refused request
module _ {A : Type 0} (talk : Dialogue (A × Side)) (side : Side)
    (refused : RefusedChangesNothing talk side) where
  pub keeps_hidden : ((old new : Serial) (new_side : Side) (a : A) → CanStand old
      → AreHidden old side
      → IsHad Calls talk old (Ok (a, new_side)) new → AreHidden new new_side)
      → KeepsHidden talk side
  keeps_hidden answered old new new_side (Ok a) stands was does =
      answered old new new_side a stands was does.had
  keeps_hidden answered old new new_side (Err why) stands was does =
      let same = refused old new new_side why does in
      subst (λ (s : Serial). AreHidden s new_side) (sym same.0)
      (subst (λ (s : Side). AreHidden old s) (sym same.1) was)

  pub leaves_open : ((old new : Serial) (new_side : Side) (a : A) → CanStand old
      → AreHidden old side
      → IsHad Calls talk old (Ok (a, new_side)) new → (handle : Handle) (node : NodeCopy)
      → IsOpenFile old side handle node
      → 0 < (at_node new_side handle).opens → copies_now new handle ≡ Some node)
      → LeavesOpenFiles talk side
  leaves_open answered old new new_side (Ok a) stands was does handle node is opened =
      stays old new handle node (stands_after talk old new (Ok (a, new_side)) stands does.had)
      is.there is.file
      (answered old new new_side a stands was does.had handle node is opened)
  leaves_open answered old new new_side (Err why) stands was does handle node is opened =
      stays old new handle node (stands_after talk old new (Err why) stands does.had) is.there
      is.file
      (ap (λ (s : Serial). copies_now s handle) (refused old new new_side why does).0 ∙ is.there)

  pub leaves_opens : ((old new : Serial) (new_side : Side) (a : A) → CanStand old
      → AreHidden old side
      → IsHad Calls talk old (Ok (a, new_side)) new → (handle : Handle) (node : NodeCopy)
      → copies_now old handle ≡ Some node
      → (at_node new_side handle).opens ≡ (at_node side handle).opens) → LeavesOpens talk side
  leaves_opens answered old new new_side (Ok a) stands was does handle node is =
      answered old new new_side a stands was does.had handle node is
  leaves_opens answered old new new_side (Err why) stands was does handle node is =
      ap (λ (s : Side). (at_node s handle).opens) (refused old new new_side why does).1

-- ---- unlinks

module _ (side : Side) (now : Time) (number : ℕ) (name : List ℕ) where
  pub unlinks_keep : KeepsHidden (unlink side now number name) side
  unlinks_keep =
      keeps_hidden (unlink side now number name) side (unlink_refused side now number name)
      (λ old new new_side outcome stands was had.
      unlink_hidden old new side new_side now number name was (stands_well old stands)
      (unlinks old side now number name new outcome new_side had))

  pub unlinks_leave : LeavesOpenFiles (unlink side now number name) side
  unlinks_leave =
      leaves_open (unlink side now number name) side (unlink_refused side now number name)
      (λ old new new_side outcome stands was had handle node is opened.
      unlink_open old new side new_side now number name was (stands_well old stands)
      (unlinks old side now number name new outcome new_side had) handle node is.there is.file
      is.is_open)

  pub unlinks_count : LeavesOpens (unlink side now number name) side
  unlinks_count =
      leaves_opens (unlink side now number name) side (unlink_refused side now number name)
      (λ old new new_side outcome stands was had handle node there.
      unlink_opens old new side new_side now number name was (stands_well old stands)
      (unlinks old side now number name new outcome new_side had) handle node there)

-- ---- rmdirs

module _ (side : Side) (now : Time) (number : ℕ) (name : List ℕ) where
  pub rmdirs_keep : KeepsHidden (rmdir side now number name) side
  rmdirs_keep =
      keeps_hidden (rmdir side now number name) side (rmdir_refused side now number name)
      (λ old new new_side outcome stands was had.
      rmdir_hidden old new side new_side now number name was (stands_well old stands)
      (removes old new side now number name outcome new_side had))

  pub rmdirs_leave : LeavesOpenFiles (rmdir side now number name) side
  rmdirs_leave =
      leaves_open (rmdir side now number name) side (rmdir_refused side now number name)
      (λ old new new_side outcome stands was had handle node is opened.
      rmdir_open old new side new_side now number name was (stands_well old stands)
      (removes old new side now number name outcome new_side had) handle node is.there is.file)

  pub rmdirs_count : LeavesOpens (rmdir side now number name) side
  rmdirs_count =
      leaves_opens (rmdir side now number name) side (rmdir_refused side now number name)
      (λ old new new_side outcome stands was had handle node there.
      rmdir_opens old new side new_side now number name was (stands_well old stands)
      (removes old new side now number name outcome new_side had) handle node there)

-- ---- openings and releases

module _ (side : Side) (number : ℕ) where
  pub openings_keep : KeepsHidden (open_node side number) side
  openings_keep =
      keeps_hidden (open_node side number) side (open_refused side number)
      (λ old new new_side outcome stands was had.
      open_hidden old new side new_side number was (stands_well old stands)
      (opens old new side number outcome new_side had))

  pub openings_leave : LeavesOpenFiles (open_node side number) side
  openings_leave =
      leaves_open (open_node side number) side (open_refused side number)
      (λ old new new_side outcome stands was had handle node is opened.
      ap (λ (s : Serial). copies_now s handle)
      (open_same side number old new (Ok (outcome, new_side)) had) ∙ is.there)

  positive : (n : ℕ) → (n == 0) ≡ false → 0 < n
  positive zero is = absurd (true≢false is)
  positive (suc n) is = omega arith

  -- a number that is not told to be closed names a node that is open, if any
  is_opened : is_unopened side number ≡ false → (handle : Handle) → node_named number ≡ Ok handle
      → 0 < (at_node side handle).opens
  is_opened is handle named =
      positive (at_node side handle).opens (sym (ap (unopened_in side) named) ∙ is)

  pub releases_keep : number < 2 ^ 64 → KeepsHidden (release side number) side
  releases_keep small = go (is_unopened side number) refl where
    closed : Dialogue (Outcome × Side)
    closed = Ends (Ok (outcomes.Done, side))

    go : (b : Bool) → is_unopened side number ≡ b
        → KeepsHidden (if b then closed else release_opened side number) side
    go true is =
        keeps_hidden closed side (refused_by closed side tt)
        (λ old new new_side outcome stands was had.
        subst (λ (s : Serial). AreHidden s new_side) (sym had.1)
        (subst (λ (s : Side). AreHidden old s)
        (sym (side_told outcome outcomes.Done new_side side had.0)) was))
    go false is =
        keeps_hidden (release_opened side number) side (release_opened_refused side number)
        (λ old new new_side outcome stands was had.
        let done = releases old new side number outcome new_side had in
        release_hidden old new side new_side number small was (stands_well old stands) done
        (is_opened is done.handle done.handle_is))

  pub releases_leave : number < 2 ^ 64 → LeavesOpenFiles (release side number) side
  releases_leave small = go (is_unopened side number) refl where
    closed : Dialogue (Outcome × Side)
    closed = Ends (Ok (outcomes.Done, side))

    go : (b : Bool) → is_unopened side number ≡ b
        → LeavesOpenFiles (if b then closed else release_opened side number) side
    go true is =
        leaves_open closed side (refused_by closed side tt)
        (λ old new new_side outcome stands was had handle node is opened.
        ap (λ (s : Serial). copies_now s handle) had.1 ∙ is.there)
    go false is =
        leaves_open (release_opened side number) side (release_opened_refused side number)
        (λ old new new_side outcome stands was had handle node there opened.
        let done = releases old new side number outcome new_side had in
        release_open old new side new_side number small was (stands_well old stands) done
        (is_opened is done.handle done.handle_is)
        handle node there.there there.file opened)
