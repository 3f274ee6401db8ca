-- Requests that change no node, and nothing beside one: directories that are opened and listed,
-- snapshots, and the cleaning of logs.
use Rattle.std.proofs.Common.{◌≡◌, ◌∙◌, inl, inr, Option, Result, Ok, Err, ap, length, refl, subst, sym}
use Rattle.nv_base.specs.declared.fault.Fault.{Fault}
use Rattle.nv_base.specs.declared.numbers.Handle.{Handle}
use Rattle.nv_calls.specs.Plain.{PlainNode, node_in}
use Rattle.nv_calls.specs.Refusals.{kind_of}
use Rattle.nv_calls.specs.declared.answer.Answer.{Answer}
use Rattle.nv_calls.specs.declared.answer.Answer.TheVariants as answers
use Rattle.nv_calls.specs.declared.call.Call.{Call}
use Rattle.nv_calls.specs.declared.call.Call.TheVariants as calls
use Rattle.nv_calls.specs.declared.snapshot_or_cleaner_call.SnapshotOrCleanerCall.{SnapshotOrCleanerCall}
use Rattle.nv_calls.specs.declared.snapshot_or_cleaner_call.SnapshotOrCleanerCall.TheVariants as snapshot_calls
use Rattle.nv_effects.specs.Suits.{IsSnapshot}
use Rattle.nv_effects.proofs.Drained.{calls_drop, calls_keep_plain, calls_snap}
use Rattle.nv_effects.proofs.Effects.{calls_have_effects}
use Rattle.nv_effects.proofs.Fair.{answer_fair}
use Rattle.nv_mount_beside.specs.Beside.{AllBeside, beside_at}
use Rattle.nv_mount_beside.specs.declared.refusal.Refusal.{Refusal}
use Rattle.nv_mounted.specs.Dialogues.{Asks, Dialogue, Ends, Grows, GrowsOr, IsHad, ◌>>=◌, undoing}
use Rattle.nv_mounted.specs.Side.{at_node, with_side}
use Rattle.nv_mounted.specs.declared.side.Side.{Side}
use Rattle.nv_serial.specs.OneCall.{serial_call}
use Rattle.nv_serial.specs.Serial.{Serial, copies_now, told}
use Rattle.nv_mount_laws.specs.Hidden.{KeepsHidden}
use Rattle.nv_mount_laws.specs.Open.{LeavesOpenFiles}
use Rattle.nv_mount_laws.specs.World.{Calls}
use Rattle.nv_mount_laws.proofs.Contents.{KeepsNames, contents_hidden}
use Rattle.nv_mount_laws.proofs.Flags.{KeepsFlags, flags_by}
use Rattle.nv_mount_laws.proofs.HiddenKept.{hidden_flags, same_bound, same_hidden_flags}
use Rattle.nv_mount_laws.proofs.Standing.{stands_well}
use Rattle.nv_mount_laws.proofs.Stays.{stands_after, stays}

-- ---- the world

-- a call that reads, is on snapshots, or cleans
abbrev IsAside : Call → Type 0
IsAside (calls.Read file offset count) = Unit {0}
IsAside (calls.Stat handle) = Unit {0}
IsAside (calls.List dir) = Unit {0}
IsAside (calls.Lookup dir name) = Unit {0}
IsAside (calls.SnapshotOrCleaner what) = Unit {0}
IsAside other = ⊥

-- all calls of a dialogue are such
abbrev pub OnlyAside : {A : Type 0} → Dialogue A → Type 0
OnlyAside (Ends is_told) = Unit {0}
OnlyAside (Grows rest) = OnlyAside rest
OnlyAside (GrowsOr refused rest) = OnlyAside refused × OnlyAside rest
OnlyAside (Asks call rest) = IsAside call × ((answer : Result Answer Fault) → OnlyAside
    (rest answer))

-- each node stays, and there are as many slots
pub record KeepsNodes (old new : Serial) : Type 0 where
  pub nodes : (handle : Handle) → copies_now new handle ≡ copies_now old handle
  pub slots : length new.slots ≡ length old.slots

same_nodes : (old new : Serial) → new ≡ old → KeepsNodes old new
same_nodes old new same = record {
  nodes = λ handle. ap (λ (s : Serial). copies_now s handle) same;
  slots = ap (λ (s : Serial). length s.slots) same;
}

nodes_twice : (old between new : Serial) → KeepsNodes old between → KeepsNodes between new
    → KeepsNodes old new
nodes_twice old between new first second = record {
  nodes = λ handle. second.nodes handle ∙ first.nodes handle;
  slots = second.slots ∙ first.slots;
}

plain_nodes : (old new : Serial) → new.plain.nodes ≡ old.plain.nodes
    → length new.slots ≡ length old.slots → KeepsNodes old new
plain_nodes old new same slots = record {
  nodes = λ handle. ap (λ (nodes : Handle → Option PlainNode). node_in nodes handle) same;
  slots = slots;
}

-- where nodes stay, kinds and names do
nodes_names : (old new : Serial) → KeepsNodes old new → KeepsNames old new
nodes_names old new keeps = record {
  kinds = λ handle. ap kind_of (keeps.nodes handle);
  names = λ dir name. same_bound (copies_now old) (copies_now new) dir name (keeps.nodes dir);
  slots = keeps.slots;
}

snap_keeps : (old new : Serial) (a : Answer) → IsSnapshot a
    → serial_call old 0 (calls.SnapshotOrCleaner snapshot_calls.Snap) ≡ told a new
    → KeepsNodes old new
snap_keeps old new (answers.Snapshot snapshot) suits is =
    let done = calls_snap old new 0 snapshot is in plain_nodes old new done.nodes done.slots
snap_keeps old new other suits is = absurd suits

beside_keeps : (old new : Serial) (what : SnapshotOrCleanerCall) (a : Answer)
    → serial_call old 0 (calls.SnapshotOrCleaner what) ≡ told a new → KeepsNodes old new
beside_keeps old new snapshot_calls.Snap a is =
    snap_keeps old new a
    (answer_fair old new 0 (calls.SnapshotOrCleaner snapshot_calls.Snap) a is) is
beside_keeps old new (snapshot_calls.Drop snapshot) a is =
    let done = calls_drop old new 0 snapshot a is in plain_nodes old new done.nodes done.slots
beside_keeps old new what a is =
    let done = calls_keep_plain old new 0 what a refl is in
    plain_nodes old new (ap (λ p. p.nodes) done.plain) done.slots

aside_keeps : (old new : Serial) (c : Call) (a : Answer) → IsAside c
    → serial_call old 0 c ≡ told a new → KeepsNodes old new
aside_keeps old new (calls.Read file offset count) a aside is =
    same_nodes old new ((calls_have_effects old new 0 (calls.Read file offset count) a refl
    is).1.same refl)
aside_keeps old new (calls.Stat handle) a aside is =
    same_nodes old new ((calls_have_effects old new 0 (calls.Stat handle) a refl is).1.same refl)
aside_keeps old new (calls.List dir) a aside is =
    same_nodes old new ((calls_have_effects old new 0 (calls.List dir) a refl is).1.same refl)
aside_keeps old new (calls.Lookup dir name) a aside is =
    same_nodes old new ((calls_have_effects old new 0 (calls.Lookup dir name) a refl is).1.same
    refl)
aside_keeps old new (calls.SnapshotOrCleaner what) a aside is = beside_keeps old new what a is
aside_keeps old new other a aside is = absurd aside

called_keeps : (old new : Serial) (c : Call) (result : Result Answer Fault) → IsAside c
    → Calls old c result new → KeepsNodes old new
called_keeps old new c (Ok a) aside called = aside_keeps old new c a aside called.answered
called_keeps old new c (Err why) aside called = same_nodes old new called.answered.1

aside_nodes : {A : Type 0} (d : Dialogue A) → OnlyAside d → (old new : Serial)
    (end : Result A Refusal) → IsHad Calls d old end new → KeepsNodes old new
aside_nodes (Ends is_told) only old new end had = same_nodes old new had.1
aside_nodes (Grows rest) only old new end (inl had) = same_nodes old new had.1
aside_nodes (Grows rest) only old new end (inr had) = aside_nodes rest only old new end had
aside_nodes (GrowsOr refused rest) only old new end (inl had) =
    aside_nodes refused only.0 old new end had
aside_nodes (GrowsOr refused rest) only old new end (inr had) =
    aside_nodes rest only.1 old new end had
aside_nodes (Asks call rest) only old new end had =
    nodes_twice old had.1 new (called_keeps old had.1 call had.0 only.0 had.2)
    (aside_nodes (rest had.0) (only.1 had.0) had.1 new end had.3)

-- one behind the other
pub both_aside : {A B : Type 0} (d : Dialogue A) (next : A → Dialogue B) → OnlyAside d
    → ((a : A) → OnlyAside (next a)) → OnlyAside (d >>= next)
unfolding ◌>>=◌
both_aside (Ends (Ok a)) next first after = after a
both_aside (Ends (Err why)) next first after = tt
both_aside (Grows rest) next first after = both_aside rest next first after
both_aside (GrowsOr refused rest) next first after =
    (both_aside refused next first.0 after, both_aside rest next first.1 after)
both_aside (Asks call rest) next first after =
    (first.0, λ answer. both_aside (rest answer) next (first.1 answer) after)

-- where it is refused another one undoes it
pub undone_aside : {A : Type 0} (undone : Dialogue (Unit {0})) (d : Dialogue A) → OnlyAside undone
    → OnlyAside d → OnlyAside (undoing undone d)
unfolding undoing
undone_aside undone (Ends (Ok a)) back first = tt
undone_aside undone (Ends (Err why)) back first = both_aside undone _ back (λ done. tt)
undone_aside undone (Grows rest) back first =
    (both_aside undone _ back (λ done. tt), undone_aside undone rest back first)
undone_aside undone (GrowsOr refused rest) back first =
    (undone_aside undone refused back first.0, undone_aside undone rest back first.1)
undone_aside undone (Asks call rest) back first =
    (first.0, λ answer. undone_aside undone (rest answer) back (first.1 answer))

-- ---- beside the world

-- what stands beside nodes is as it was
pub record SameNodes (old new : Side) : Type 0 where
  pub hidden : new.hidden ≡ old.hidden
  pub nodes : new.nodes ≡ old.nodes

abbrev EndsSo : {A : Type 0} → Side → Result (A × Side) Refusal → Type 0
EndsSo side (Ok done) = SameNodes side done.1
EndsSo side (Err why) = Unit {0}

-- each end of a dialogue leaves it so
abbrev pub LeavesNodes : {A : Type 0} → Side → Dialogue (A × Side) → Type 0
LeavesNodes side (Ends is_told) = EndsSo side is_told
LeavesNodes side (Grows rest) = LeavesNodes side rest
LeavesNodes side (GrowsOr refused rest) = LeavesNodes side refused × LeavesNodes side rest
LeavesNodes side (Asks call rest) = (answer : Result Answer Fault) → LeavesNodes side (rest answer)

pub both_leave : {A B : Type 0} (side : Side) (d : Dialogue A) (next : A → Dialogue (B × Side))
    → ((a : A) → LeavesNodes side (next a)) → LeavesNodes side (d >>= next)
unfolding ◌>>=◌
both_leave side (Ends (Ok a)) next each = each a
both_leave side (Ends (Err why)) next each = tt
both_leave side (Grows rest) next each = both_leave side rest next each
both_leave side (GrowsOr refused rest) next each =
    (both_leave side refused next each, both_leave side rest next each)
both_leave side (Asks call rest) next each = λ answer. both_leave side (rest answer) next each

ends_so : {A : Type 0} (side : Side) (d : Dialogue (A × Side)) → LeavesNodes side d
    → (old new : Serial) (end : Result (A × Side) Refusal) → IsHad Calls d old end new
    → EndsSo side end
ends_so {A} side (Ends is_told) leaves old new end had =
    subst (λ (e : Result (A × Side) Refusal). EndsSo side e) (sym had.0) leaves
ends_so {A} side (Grows rest) leaves old new end (inl had) =
    subst (λ (e : Result (A × Side) Refusal). EndsSo side e) (sym had.0) tt
ends_so side (Grows rest) leaves old new end (inr had) = ends_so side rest leaves old new end had
ends_so side (GrowsOr refused rest) leaves old new end (inl had) =
    ends_so side refused leaves.0 old new end had
ends_so side (GrowsOr refused rest) leaves old new end (inr had) =
    ends_so side rest leaves.1 old new end had
ends_so side (Asks call rest) leaves old new end had =
    ends_so side (rest had.0) (leaves had.0) had.1 new end had.3

pub nodes_flags : (s : Serial) (side new_side : Side) → SameNodes side new_side
    → KeepsFlags s side new_side
nodes_flags s side new_side same = record {
  hidden = same.hidden;
  rows = ap (λ (all : AllBeside). length all.rows) same.nodes;
  there = λ handle node is. flags_by side new_side handle (at handle);
  before = λ handle nameless. flags_by side new_side handle (at handle);
} where
  at : (handle : Handle) → at_node new_side handle ≡ at_node side handle
  at handle = ap (λ (all : AllBeside). beside_at all handle) same.nodes

-- a request of such calls, each end of which leaves what stands beside nodes
pub record IsAsideRequest {A : Type 0} (talk : Dialogue (A × Side)) (side : Side) : Type 0 where
  pub only : OnlyAside talk
  pub leaves : LeavesNodes side talk

module _ {A : Type 0} (talk : Dialogue (A × Side)) (side : Side) (aside : IsAsideRequest talk side)
  where
    -- THE HIDDEN FILES stay so
    pub aside_hidden : KeepsHidden talk side
    aside_hidden old new new_side (Ok a) stands was does =
        contents_hidden old new side new_side was (stands_well old stands)
        (nodes_names old new (aside_nodes talk aside.only old new (Ok (a, new_side)) does.had))
        (hidden_flags old side new_side
        (nodes_flags old side new_side
        (ends_so side talk aside.leaves old new (Ok (a, new_side)) does.had)))
    aside_hidden old new new_side (Err why) stands was does =
        contents_hidden old new side new_side was (stands_well old stands)
        (nodes_names old new (aside_nodes talk aside.only old new (Err why) does.had))
        (same_hidden_flags old side new_side does.same)

    -- OPEN FILES stay as they are
    pub aside_open : LeavesOpenFiles talk side
    aside_open old new new_side result stands was does handle node is opened =
        stays old new handle node
        (stands_after talk old new (with_side new_side result) stands does.had) is.there is.file
        ((aside_nodes talk aside.only old new (with_side new_side result) does.had).nodes handle
        ∙ is.there)
