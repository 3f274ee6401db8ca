-- Which requests only read, and which change the world by their last call alone.
use Rattle.std.proofs.Common.{ℕ, Bool, true, false, if◌then◌else◌, List, Ok, Err, refl}
use Rattle.nv_base.specs.declared.numbers.Handle.{Handle}
use Rattle.nv_calls.specs.declared.call.Call.{Call}
use Rattle.nv_calls.specs.declared.call.Call.TheVariants as calls
use Rattle.nv_mount_answers.specs.declared.kept.Shape.{Shape}
use Rattle.nv_mount_answers.specs.declared.kept.Time.{Time}
use Rattle.nv_mount_beside.specs.Beside.{released}
use Rattle.nv_mount_beside.specs.Names.{checked_name, free_name, hidden_name, node_named, number_of}
use Rattle.nv_mount_beside.specs.declared.beside.Beside.{Beside}
use Rattle.nv_mount_beside.specs.declared.outcome.Outcome.TheVariants as outcomes
use Rattle.nv_mounted.specs.Asks.{ask_done, ask_handle, ask_shape}
use Rattle.nv_mounted.specs.Dialogues.{Dialogue, Ends, Grows, ◌>>=◌}
use Rattle.nv_mounted.specs.Side.{at_node}
use Rattle.nv_mounted.specs.Talks.{ask_attributes, get_attributes, hidden_name_for, hide, is_open_file, is_unopened, let_go, lookup_name, open_node, release, release_opened, rmdir, take_away, unlink}
use Rattle.nv_mounted.specs.declared.side.Side.{Side}
use Rattle.nv_mount_laws.specs.Refused.{ChangesNothing, RefusedChangesNothing}
use Rattle.nv_mount_laws.proofs.ReadingOnly.{ChangesLast, OnlyReads, both_read, ends_well, reads_first, reads_same, refused_same}

-- what a test chooses
pub chosen : {A : Type 0} (P : Dialogue A → Type 0) (b : Bool) (one other : Dialogue A) → P one
    → P other → P (if b then one else other)
chosen P true one other first second = first
chosen P false one other first second = second

-- ---- requests that only read

attributes_read : (side : Side) (handle : Handle) → OnlyReads (ask_attributes side handle)
attributes_read side handle =
    both_read (Ends (number_of handle)) _ tt (λ node. both_read (ask_shape handle) _
    (refl, λ answer. tt) (λ shape. tt))

pub lookup_reads : (side : Side) (dir : Handle) (name : List ℕ) → OnlyReads
    (lookup_name side dir name)
lookup_reads side dir name =
    both_read (Grows (Ends (checked_name name))) _ tt (λ lawful.
    both_read (ask_handle (calls.Lookup dir lawful)) _ (refl, λ answer. tt) (λ handle.
    both_read (ask_attributes side handle) _ (attributes_read side handle) (λ attributes. tt)))

pub attributes_got : (side : Side) (number : ℕ) → OnlyReads (get_attributes side number)
attributes_got side number =
    both_read (Ends (node_named number)) _ tt (λ handle.
    both_read (ask_attributes side handle) _ (attributes_read side handle) (λ attributes. tt))

open_reads : (side : Side) (number : ℕ) → OnlyReads (open_node side number)
open_reads side number =
    both_read (Ends (node_named number)) _ tt (λ handle. both_read (ask_shape handle) _
    (refl, λ answer. tt) (λ shape. tt))

pub lookup_same : (side : Side) (dir : Handle) (name : List ℕ)
    → ChangesNothing (lookup_name side dir name)
lookup_same side dir name = reads_same (lookup_name side dir name) (lookup_reads side dir name)

pub attributes_same : (side : Side) (number : ℕ) → ChangesNothing (get_attributes side number)
attributes_same side number = reads_same (get_attributes side number) (attributes_got side number)

pub open_same : (side : Side) (number : ℕ) → ChangesNothing (open_node side number)
open_same side number = reads_same (open_node side number) (open_reads side number)

-- ---- requests that change the world by their last call alone

-- a call that answers nothing of interest
pub done_last : (c : Call) → ChangesLast (ask_done c)
done_last c = (λ why. tt, λ a suits reads. tt, λ a suits changes. tt)

let_go_last : (side : Side) (number : ℕ) (beside : Beside) → ChangesLast (let_go side number beside)
let_go_last side number beside =
    chosen (λ d. ChangesLast d) _ (Ends (Ok tt))
    (Grows (Ends (Ok (hidden_name number))) >>=
    λ name. ask_done (calls.Unlink side.hidden name)) tt
    (reads_first (Grows (Ends (Ok (hidden_name number)))) _ tt
    (λ name. done_last (calls.Unlink side.hidden name)))

release_opened_last : (side : Side) (number : ℕ) → ChangesLast (release_opened side number)
release_opened_last side number =
    reads_first (Ends (node_named number)) _ tt (λ handle.
    ends_well (let_go side number (released (at_node side handle))) _
    (let_go_last side number (released (at_node side handle)))
    (λ done. tt) (λ done. tt))

pub release_last : (side : Side) (number : ℕ) → ChangesLast (release side number)
release_last side number =
    chosen (λ d. ChangesLast d) (is_unopened side number) (Ends (Ok (outcomes.Done, side)))
    (release_opened side number) tt (release_opened_last side number)

hide_last : (side : Side) (now : Time) (dir : Handle) (name : List ℕ) (handle : Handle)
    → ChangesLast (hide side now dir name handle)
hide_last side now dir name handle =
    reads_first (Grows (Ends (hidden_name_for handle))) _ tt (λ new.
    ends_well (ask_done (calls.Rename dir name side.hidden new)) _
    (done_last (calls.Rename dir name side.hidden new))
    (λ done. tt) (λ done. tt))

take_away_last : (side : Side) (now : Time) (dir : Handle) (name : List ℕ) (handle : Handle) (shape : Shape)
    → ChangesLast (take_away side now dir name handle shape)
take_away_last side now dir name handle shape =
    chosen (λ d. ChangesLast d) (is_open_file side handle shape) (hide side now dir name handle)
    (ask_done (calls.Unlink dir name) >>= λ done. Ends (Ok (tt, side)))
    (hide_last side now dir name handle)
    (ends_well (ask_done (calls.Unlink dir name)) _ (done_last (calls.Unlink dir name)) (λ done. tt)
    (λ done. tt))

unlink_last : (side : Side) (now : Time) (number : ℕ) (file : List ℕ)
    → ChangesLast (unlink side now number file)
unlink_last side now number file =
    reads_first (Ends (node_named number)) _ tt (λ dir.
    reads_first (Grows (Ends (free_name dir file))) _ tt (λ name.
    reads_first (ask_handle (calls.Lookup dir name)) _ (refl, λ answer. tt) (λ handle.
    reads_first (ask_shape handle) _ (refl, λ answer. tt) (λ shape.
    ends_well (take_away side now dir name handle shape) _ (take_away_last side now dir name handle shape)
    (λ gone. tt) (λ gone. tt)))))

rmdir_last : (side : Side) (now : Time) (number : ℕ) (file : List ℕ)
    → ChangesLast (rmdir side now number file)
rmdir_last side now number file =
    reads_first (Ends (node_named number)) _ tt (λ dir.
    reads_first (Grows (Ends (free_name dir file))) _ tt (λ name.
    ends_well (ask_done (calls.Rmdir dir name)) _ (done_last (calls.Rmdir dir name)) (λ done. tt)
    (λ done. tt)))

-- ---- refusals

pub refused_by : {A : Type 0} (talk : Dialogue (A × Side)) (side : Side) → ChangesLast talk
    → RefusedChangesNothing talk side
refused_by talk side last old new new_side refusal does =
    (refused_same talk last old new refusal does.had, does.same)

pub open_refused : (side : Side) (number : ℕ) → RefusedChangesNothing (open_node side number) side
open_refused side number old new new_side refusal does =
    (open_same side number old new (Err refusal) does.had, does.same)

pub release_opened_refused : (side : Side) (number : ℕ)
    → RefusedChangesNothing (release_opened side number) side
release_opened_refused side number =
    refused_by (release_opened side number) side (release_opened_last side number)

pub unlink_refused : (side : Side) (now : Time) (number : ℕ) (file : List ℕ)
    → RefusedChangesNothing (unlink side now number file) side
unlink_refused side now number file = refused_by (unlink side now number file) side
    (unlink_last side now number file)

pub rmdir_refused : (side : Side) (now : Time) (number : ℕ) (file : List ℕ)
    → RefusedChangesNothing (rmdir side now number file) side
rmdir_refused side now number file = refused_by (rmdir side now number file) side
    (rmdir_last side now number file)
