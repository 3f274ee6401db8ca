-- Calls of a mount, and what it takes their answers for.
use Rattle.std.specs.Prelude.{List, Result, Ok, Err}
use Rattle.nv_base.specs.declared.fault.Fault.{Fault}
use Rattle.nv_base.specs.declared.numbers.Handle.{Handle}
use Rattle.nv_calls.specs.declared.answer.Answer.{Answer}
use Rattle.nv_calls.specs.declared.answer.Answer.TheVariants as answers
use Rattle.nv_calls.specs.declared.call.Call.{Call}
use Rattle.nv_calls.specs.declared.call.Call.TheVariants as calls
use Rattle.nv_entry.specs.declared.names.BoundName.{BoundName}
use Rattle.nv_fuse.specs.declared.errno.Errno.TheVariants as errno
use Rattle.nv_mount_answers.specs.declared.kept.Shape.{Shape}
use Rattle.nv_mounted.specs.Dialogues.{Asks, Dialogue, Ends}
use Rattle.nv_mount_beside.specs.Names.{refused}
use Rattle.nv_mount_beside.specs.declared.refusal.Refusal.{Refusal}
use Rattle.nv_mount_beside.specs.declared.refusal.Refusal.TheVariants as refusals

-- a fault refuses the request
abbrev pub faulted : {A : Type 0} → Fault → Result A Refusal
faulted fault = Err (refusals.Fault fault)

-- an answer of another kind than the call's is an error of input and output
abbrev pub other_kind : {A : Type 0} → Result A Refusal
other_kind = refused errno.InputOutput

-- kind, mode and size
abbrev pub shape_told : Result Answer Fault → Result Shape Refusal
shape_told (Ok (answers.Stat kind mode size commit)) =
    Ok (record { kind = kind; mode = mode; size = size })
shape_told (Ok other) = other_kind
shape_told (Err fault) = faulted fault

-- a handle
abbrev pub handle_told : Result Answer Fault → Result Handle Refusal
handle_told (Ok (answers.Made handle)) = Ok handle
handle_told (Ok other) = other_kind
handle_told (Err fault) = faulted fault

-- that it was done
abbrev pub done_told : Result Answer Fault → Result (Unit {0}) Refusal
done_told (Ok answer) = Ok tt
done_told (Err fault) = faulted fault

-- the names of a directory
abbrev pub names_told : Result Answer Fault → Result (List BoundName) Refusal
names_told (Ok (answers.Names names)) = Ok names
names_told (Ok other) = other_kind
names_told (Err fault) = faulted fault

-- a call with what its answer is taken for
abbrev pub ask : {A : Type 0} → Call → (Result Answer Fault → Result A Refusal) → Dialogue A
ask call told = Asks call (λ answer. Ends (told answer))

abbrev pub ask_shape : Handle → Dialogue Shape
ask_shape handle = ask (calls.Stat handle) shape_told

abbrev pub ask_handle : Call → Dialogue Handle
ask_handle call = ask call handle_told

abbrev pub ask_done : Call → Dialogue (Unit {0})
ask_done call = ask call done_told
