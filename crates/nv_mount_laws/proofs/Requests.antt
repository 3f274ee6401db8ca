-- Each request leaves hidden files hidden, whatever it is, and however it is answered.
use Rattle.std.proofs.Common.{◌≡◌, ◌≢◌, ◌∙◌, ◌^◌, ◌<◌, ◌==◌, ℕ, Bool, true, false, List, Result, Ok, ap, refl, subst, sym}
use Rattle.std.specs.Prelude.{◌||◌, if◌then◌else◌}
use Rattle.nv_base.specs.declared.numbers.Handle.{Handle}
use Rattle.nv_entry.specs.declared.node.NodeCopy.{NodeCopy}
use Rattle.nv_fuse.specs.declared.errno.Errno.TheVariants as errno
use Rattle.nv_fuse.specs.declared.header.Header.{Header}
use Rattle.nv_fuse.specs.declared.operation.Operation.{Operation}
use Rattle.nv_fuse.specs.declared.operation.Operation.TheVariants as operations
use Rattle.nv_machine.proofs.DirectoriesStay.{same_self}
use Rattle.nv_mount_answers.specs.declared.kept.Time.{Time}
use Rattle.nv_mount_beside.specs.Names.{node_named, refused}
use Rattle.nv_mount_beside.specs.declared.outcome.Outcome.{Outcome}
use Rattle.nv_mount_beside.specs.declared.outcome.Outcome.TheVariants as outcomes
use Rattle.nv_mount_beside.specs.declared.refusal.Refusal.{Refusal}
use Rattle.nv_mounted.specs.Answers.{Answering, AtOnce, ByAnswer, ByChange, ByRoom, IsAnsweredBy, answer_in_snapshot, answer_of, answering, end_of, hidden_in, if_snapshots, leads_to_snapshot, names_hidden, nothing, reaches_hidden, read_only}
use Rattle.nv_mounted.specs.Contents.{fallocate, read_bytes, write_bytes}
use Rattle.nv_mounted.specs.Dialogues.{Dialogue, Ends, Grows}
use Rattle.nv_mounted.specs.Entries.{is_hidden, is_snapshots, lookup}
use Rattle.nv_mounted.specs.Listings.{close_directory, open_directory, open_one, read_directory}
use Rattle.nv_mounted.specs.Makings.{create, mkdir, mknod}
use Rattle.nv_mounted.specs.Renames.{rename}
use Rattle.nv_mounted.specs.Sets.{set_attributes}
use Rattle.nv_mounted.specs.Side.{at_node, with_side}
use Rattle.nv_mounted.specs.Snapshots.{drop_snapshot, is_of_snapshots, make_snapshot, read_snapshots, snapshot_open, snapshot_read, snapshot_read_directory, snapshots_attributes, snapshots_node}
use Rattle.nv_mounted.specs.Talks.{get_attributes, lookup_name, open_node, release_file, rmdir, unlink}
use Rattle.nv_mounted.specs.declared.side.Side.{Side}
use Rattle.nv_mounted.specs.declared.world.Room.{Room}
use Rattle.nv_serial.specs.Serial.{Serial, copies_now}
use Rattle.nv_mount_laws.specs.Hidden.{AreHidden, KeepsHidden, NamesAnother}
use Rattle.nv_mount_laws.specs.Open.{IsOpenFile, LeavesOpenFiles, LeavesOtherFiles, Stays}
use Rattle.nv_mount_laws.specs.Requests.{ChangesAnother, HasAnyRoom, RequestsKeepHidden, RequestsLeaveOpenFiles}
use Rattle.nv_mount_laws.specs.World.{CanStand, Calls}
use Rattle.nv_mount_laws.proofs.AsideRequests.{directories_close, directories_open, directories_read, snapshots_drop, snapshots_make, snapshots_open, snapshots_read}
use Rattle.nv_mount_laws.proofs.BytesKept.{fallocates_keep, fallocates_leave, writes_keep, writes_leave}
use Rattle.nv_mount_laws.proofs.HiddenKept.{flags_hidden, hidden_flags}
use Rattle.nv_mount_laws.proofs.Makings.{creates_keep, creates_leave, mkdirs_keep, mkdirs_leave, mknods_keep, mknods_leave}
use Rattle.nv_mount_laws.proofs.NodesKept.{IsAsideRequest, aside_hidden, aside_open, nodes_flags}
use Rattle.nv_mount_laws.proofs.ReadingOnly.{OnlyReads, both_read, reads_same}
use Rattle.nv_mount_laws.proofs.Refused.{attributes_got, chosen, lookup_reads}
use Rattle.nv_mount_laws.proofs.RefusedBytes.{read_reads}
use Rattle.nv_mount_laws.proofs.ReleasedFiles.{release_files_keep, release_files_leave}
use Rattle.nv_mount_laws.proofs.RenamesKeep.{renames_keep, renames_leave}
use Rattle.nv_mount_laws.proofs.Sets.{sets_keep, sets_leave}
use Rattle.nv_mount_laws.proofs.Standing.{stands_well}
use Rattle.nv_mount_laws.proofs.Stays.{openings_keep, openings_leave, rmdirs_keep, rmdirs_leave, stands_after, stays, unlinks_keep, unlinks_leave}

no_step : {P : Type 0} → true ≡ false → P
no_step e = cc

-- what the hidden directory is not, a request does not name
another : (side : Side) (number : ℕ) → names_hidden side number ≡ false → NamesAnother side number
another side number is same =
    no_step (sym (ap (hidden_in side) same ∙ same_self side.hidden) ∙ is)

first_false : (a b : Bool) → (a || b) ≡ false → a ≡ false
first_false true b e = no_step e
first_false false b e = refl

second_false : (a b : Bool) → (a || b) ≡ false → b ≡ false
second_false true b e = no_step e
second_false false b e = e

module _ (HasRoom : Serial → Room → Type 0) (old : Serial) (side : Side) (now : Time)
    (stands : CanStand old) (was : AreHidden old side) where
  -- the hidden files are so then, and these open files as they were
  record Kept (Only : Handle → Type 0) (new : Serial) (new_side : Side) : Type 0 where
    stand : CanStand new
    hidden : AreHidden new new_side
    open_files : (handle : Handle) (node : NodeCopy) → IsOpenFile old side handle node
        → 0 < (at_node new_side handle).opens → Only handle → Stays old new handle node

  -- behind each way of an answer
  abbrev Keeps : (Handle → Type 0) → Answering → Type 0
  Keeps Only way =
      (result : Result Outcome Refusal) (new : Serial) (new_side : Side)
      → IsAnsweredBy Calls HasRoom way now old side result new new_side
      → Kept Only new new_side

  by_change : {Only : Handle → Type 0} (talk : Dialogue (Outcome × Side)) → KeepsHidden talk side
      → LeavesOpenFiles talk side → Keeps Only (ByChange talk)
  by_change talk keeps leaves result new new_side does = record {
    stand = stands_after talk old new (with_side new_side result) stands does.had;
    hidden = keeps old new new_side result stands was does;
    open_files = λ handle node is opened only.
        leaves old new new_side result stands was does handle node is opened;
  }

  -- a request that changes one node
  by_other : {Only : Handle → Type 0} (number : ℕ) (talk : Dialogue (Outcome × Side))
      → KeepsHidden talk side → LeavesOtherFiles talk side number
      → ((handle : Handle) → Only handle → node_named number ≢ Ok handle)
      → Keeps Only (ByChange talk)
  by_other number talk keeps leaves names result new new_side does = record {
    stand = stands_after talk old new (with_side new_side result) stands does.had;
    hidden = keeps old new new_side result stands was does;
    open_files = λ handle node is opened only.
        leaves old new new_side result stands does handle node is.there is.file
        (names handle only);
  }

  by_aside : {Only : Handle → Type 0} (talk : Dialogue (Outcome × Side))
      → IsAsideRequest talk side → Keeps Only (ByChange talk)
  by_aside talk aside = by_change talk (aside_hidden talk side aside) (aside_open talk side aside)

  world_same : {Only : Handle → Type 0} (new : Serial) (new_side : Side) → new ≡ old
      → AreHidden old new_side → Kept Only new new_side
  world_same new new_side same hidden =
      let stand = subst CanStand (sym same) stands in
      record {
        stand = stand;
        hidden = subst (λ (s : Serial). AreHidden s new_side) (sym same) hidden;
        open_files = λ handle node is opened only.
            stays old new handle node stand is.there is.file
            (ap (λ (s : Serial). copies_now s handle) same ∙ is.there);
      }

  as_before : {Only : Handle → Type 0} (new : Serial) (new_side : Side) → new ≡ old
      → new_side ≡ side → Kept Only new new_side
  as_before new new_side same same_side =
      world_same new new_side same (subst (λ (x : Side). AreHidden old x) (sym same_side) was)

  by_answer : {Only : Handle → Type 0} (talk : Dialogue Outcome) → OnlyReads talk
      → Keeps Only (ByAnswer talk)
  by_answer talk reads result new new_side is =
      as_before new new_side (reads_same talk reads old new result is.0) is.1

  at_once : {Only : Handle → Type 0} (told : Result Outcome Refusal) → Keeps Only (AtOnce told)
  at_once told result new new_side is = as_before new new_side is.1 is.2

  by_room : {Only : Handle → Type 0} → Keeps Only ByRoom
  by_room result new new_side (outcome, is, room) =
      world_same new new_side room.same
      (flags_hidden old side new_side was (stands_well old stands)
      (hidden_flags old side new_side (nodes_flags old side new_side (record {
        hidden = ap (λ (x : Side). x.hidden) room.kept;
        nodes = ap (λ (x : Side). x.nodes) room.kept;
      }))))

  -- ---- a node of the world

  lookups_read : (number : ℕ) (name : List ℕ) → OnlyReads (lookup side number name)
  lookups_read number name =
      both_read (Ends (node_named number)) _ tt (λ dir.
      chosen (λ d. OnlyReads d) (is_snapshots dir name) _ _
      (both_read (Ends (snapshots_attributes side)) _ tt (λ attributes. tt))
      (chosen (λ d. OnlyReads d) (is_hidden dir name) (Ends (refused errno.Missing))
      (lookup_name side dir name) tt (lookup_reads side dir name)))

  renamed : {Only : Handle → Type 0} (header : Header) (to : ℕ) (old_name new_name : List ℕ)
      (flags : ℕ)
      → (names_hidden side header.node || names_hidden side to) ≡ false
      → Keeps Only (ByChange (rename side now header.node old_name to new_name flags))
  renamed header to old_name new_name flags is =
      let from_another = another side header.node
      (first_false (names_hidden side header.node) (names_hidden side to) is) in
      let to_another = another side to
      (second_false (names_hidden side header.node) (names_hidden side to) is) in
      by_change (rename side now header.node old_name to new_name flags)
      (renames_keep side now header.node old_name to new_name flags from_another to_another)
      (renames_leave side now header.node old_name to new_name flags from_another to_another)

  of_world : (header : Header) (operation : Operation) → header.node < 2 ^ 64
      → reaches_hidden side header.node operation ≡ false
      → Keeps (ChangesAnother header.node operation) (answer_of side now header operation)
  of_world header operations.Statfs small is = by_room
  of_world header (operations.Lookup name) small is =
      by_answer (lookup side header.node name.now) (lookups_read header.node name.now)
  of_world header (operations.Mknod mode device umask name) small is =
      by_change (mknod side now header mode name.now)
      (mknods_keep side now header mode name.now (another side header.node is))
      (mknods_leave side now header mode name.now)
  of_world header (operations.Mkdir mode umask name) small is =
      by_change (mkdir side now header mode name.now)
      (mkdirs_keep side now header mode name.now (another side header.node is))
      (mkdirs_leave side now header mode name.now)
  of_world header (operations.Unlink name) small is =
      by_change (unlink side now header.node name.now)
      (unlinks_keep side now header.node name.now)
      (unlinks_leave side now header.node name.now)
  of_world header (operations.Rmdir name) small is =
      by_change (rmdir side now header.node name.now) (rmdirs_keep side now header.node name.now)
      (rmdirs_leave side now header.node name.now)
  of_world header (operations.Rename to from_name to_name) small is =
      renamed header to from_name.now to_name.now 0 is
  of_world header (operations.Rename2 to flags from_name to_name) small is =
      renamed header to from_name.now to_name.now flags is
  of_world header (operations.Create flags mode umask name) small is =
      by_change (create side now header mode name.now)
      (creates_keep side now header mode name.now (another side header.node is))
      (creates_leave side now header mode name.now)
  of_world header (operations.GetAttributes flags file) small is =
      by_answer (get_attributes side header.node) (attributes_got side header.node)
  of_world header (operations.SetAttributes set) small is =
      by_other header.node (set_attributes side now header.node set)
      (sets_keep side now header.node set) (sets_leave side now header.node set)
      (λ handle only. only refl)
  of_world header (operations.Open flags) small is =
      by_change (open_node side header.node) (openings_keep side header.node)
      (openings_leave side header.node)
  of_world header (operations.Read file offset size read_flags lock_owner flags) small is =
      by_answer (read_bytes header.node offset size) (read_reads header.node offset size)
  of_world header (operations.Write file offset write_flags lock_owner flags bytes) small is =
      by_other header.node (write_bytes side now header.node offset bytes.now)
      (writes_keep side now header.node offset bytes.now)
      (writes_leave side now header.node offset bytes.now) (λ handle only. only refl)
  of_world header (operations.Release file flags release_flags lock_owner) small is =
      by_change (release_file side now header.node)
      (release_files_keep side now header.node small)
      (release_files_leave side now header.node small)
  of_world header (operations.Fallocate file offset size mode) small is =
      by_other header.node (fallocate side now header.node (end_of offset size) mode)
      (fallocates_keep side now header.node (end_of offset size) mode)
      (fallocates_leave side now header.node (end_of offset size) mode)
      (λ handle only. only refl)
  of_world header (operations.OpenDirectory flags) small is =
      by_aside (open_directory side header.node) (directories_open side header.node)
  of_world header (operations.ReadDirectory file offset size) small is =
      by_aside (read_directory side header.node file offset size)
      (directories_read side header.node file offset size)
  of_world header (operations.ReleaseDirectory file flags) small is =
      by_aside (Ends (Ok (outcomes.Done, close_directory side file)))
      (directories_close side file outcomes.Done)
  of_world header _ small is = at_once _

  -- ---- a node of a snapshot

  if_of_snapshots : {Only : Handle → Type 0} (number : ℕ) (talk : Dialogue (Outcome × Side))
      (below : Answering)
      → IsAsideRequest talk side → Keeps Only below → Keeps Only (if_snapshots number talk below)
  if_of_snapshots {Only} number talk below aside other = go (number == snapshots_node) where
    go : (b : Bool) → Keeps Only (if b then ByChange talk else below)
    go true = by_aside talk aside
    go false = other

  of_snapshot : {Only : Handle → Type 0} (number : ℕ) (operation : Operation)
      → Keeps Only (answer_in_snapshot side number operation)
  of_snapshot number operations.Statfs = by_room
  of_snapshot number (operations.Mkdir mode umask name) =
      if_of_snapshots number (make_snapshot side name.now) read_only
      (snapshots_make side name.now) (at_once (refused errno.ReadOnly))
  of_snapshot number (operations.Rmdir name) =
      if_of_snapshots number (drop_snapshot side name.now) read_only
      (snapshots_drop side name.now) (at_once (refused errno.ReadOnly))
  of_snapshot number (operations.Read file offset size read_flags lock_owner flags) =
      by_answer (Grows (Ends (snapshot_read side number offset size))) tt
  of_snapshot number (operations.OpenDirectory flags) =
      if_of_snapshots number (open_one side) (AtOnce (snapshot_open side number))
      (snapshots_open side) (at_once (snapshot_open side number))
  of_snapshot number (operations.ReadDirectory file offset size) =
      if_of_snapshots number (read_snapshots side file offset size)
      (ByAnswer (Grows (Ends (snapshot_read_directory side number offset size))))
      (snapshots_read side file offset size)
      (by_answer (Grows (Ends (snapshot_read_directory side number offset size))) tt)
  of_snapshot number (operations.ReleaseDirectory file flags) =
      if_of_snapshots number (Ends (Ok (outcomes.Done, close_directory side file))) nothing
      (directories_close side file outcomes.Done) (at_once (Ok outcomes.Done))
  of_snapshot number _ = at_once _

  -- ---- each request

  each : (header : Header) (operation : Operation) → header.node < 2 ^ 64
      → Keeps (ChangesAnother header.node operation) (answering side now header operation)
  each header operation small = first (is_of_snapshots header.node) where
    third : (b : Bool) → reaches_hidden side header.node operation ≡ b
        → Keeps (ChangesAnother header.node operation) (if b then AtOnce
        (refused errno.Stale) else answer_of side now header operation)
    third true is = at_once (refused errno.Stale)
    third false is = of_world header operation small is

    second : (b : Bool)
        → Keeps (ChangesAnother header.node operation) (if b then AtOnce
        (refused errno.ReadOnly) else
        if reaches_hidden side header.node operation then AtOnce (refused errno.Stale) else
        answer_of side now header operation)
    second true = at_once (refused errno.ReadOnly)
    second false = third (reaches_hidden side header.node operation) refl

    first : (b : Bool)
        → Keeps (ChangesAnother header.node operation)
        (if b then answer_in_snapshot side header.node operation else
        if leads_to_snapshot operation then AtOnce (refused errno.ReadOnly) else
        if reaches_hidden side header.node operation then AtOnce (refused errno.Stale) else
        answer_of side now header operation)
    first true = of_snapshot header.node operation
    first false = second (leads_to_snapshot operation)

-- EACH REQUEST leaves hidden files hidden
pub requests_keep : RequestsKeepHidden
requests_keep old new side new_side now request outcome small stands was is =
    let kept = each HasAnyRoom old side now stands was request.header request.operation small
    is.result new new_side is.answered in (kept.stand, kept.hidden)

-- and open files as they are
pub requests_leave : RequestsLeaveOpenFiles
requests_leave old new side new_side now request outcome small stands was is =
    (each HasAnyRoom old side now stands was request.header request.operation small is.result new
    new_side is.answered).open_files
