-- Attributes that are set.
use Rattle.std.specs.Prelude.{ℕ, ◌==◌, ◌||◌, Bool, if◌then◌else◌, bit_and, not, Result, Ok, Err}
use Rattle.nv_base.specs.declared.fault.Fault.{Fault}
use Rattle.nv_base.specs.declared.numbers.Handle.{Handle}
use Rattle.nv_calls.specs.declared.answer.Answer.{Answer}
use Rattle.nv_calls.specs.declared.call.Call.TheVariants as calls
use Rattle.nv_fuse.specs.declared.operation.SetAttributes.{SetAttributes}
use Rattle.nv_mount_answers.specs.Kept.{kept_after}
use Rattle.nv_mount_answers.specs.declared.kept.Time.{Time}
use Rattle.nv_mount_beside.specs.Beside.{changed}
use Rattle.nv_mount_beside.specs.Names.{node_named}
use Rattle.nv_mount_beside.specs.Shown.{attributes_if}
use Rattle.nv_mount_beside.specs.declared.beside.Beside.{Beside}
use Rattle.nv_mount_beside.specs.declared.outcome.Outcome.{Outcome}
use Rattle.nv_mount_beside.specs.declared.outcome.Outcome.TheVariants as outcomes
use Rattle.nv_mounted.specs.Asks.{ask_done, ask_shape, faulted}
use Rattle.nv_mounted.specs.Dialogues.{Asks, Dialogue, Ends, ◌>>=◌}
use Rattle.nv_mounted.specs.Makings.{permissions}
use Rattle.nv_mounted.specs.Side.{at_node, put_node, touched}
use Rattle.nv_mounted.specs.declared.side.Side.{Side}

-- bit 0 of what is valid is for the mode
abbrev pub sets_mode : SetAttributes → Bool
sets_mode set = not (bit_and set.valid 1 == 0)

-- bit 3 is for the size
abbrev pub sets_size : SetAttributes → Bool
sets_size set = not (bit_and set.valid 8 == 0)

-- mode or size is set, which is a change of the node in the world
abbrev pub sets_node : SetAttributes → Bool
sets_node set = sets_mode set || sets_size set

-- set the mode, if it is to be set
abbrev pub set_mode : Handle → SetAttributes → Dialogue (Unit {0})
set_mode handle set =
    if sets_mode set then ask_done (calls.Mode handle (permissions set.mode)) else Ends (Ok tt)

-- where the size is refused, a mode that was set is set back, whatever that is answered
abbrev pub mode_set_back : Handle → SetAttributes → ℕ → Fault → Dialogue (Unit {0})
mode_set_back handle set mode fault =
    if sets_mode set then Asks (calls.Mode handle mode) (λ back. Ends (faulted fault))
    else Ends (faulted fault)

abbrev pub sized_or_back : Handle → SetAttributes → ℕ → Result Answer Fault → Dialogue (Unit {0})
sized_or_back handle set mode (Ok answer) = Ends (Ok tt)
sized_or_back handle set mode (Err fault) = mode_set_back handle set mode fault

-- set the size, if it is to be set
abbrev pub set_size : Handle → SetAttributes → ℕ → Dialogue (Unit {0})
set_size handle set mode =
    if sets_size set then Asks (calls.Size handle set.size) (sized_or_back handle set mode)
    else Ends (Ok tt)

-- another size is a change of what stands beside a node
abbrev pub beside_sized : Time → SetAttributes → Beside → Beside
beside_sized now set b = if sets_size set then changed now b else b

-- another mode or size is counted, and times and owners are those that were set
abbrev pub beside_set : Time → SetAttributes → Beside → Beside
beside_set now set b =
    let counted = if sets_node set then changed now b else b in
    record counted { kept = kept_after now set (beside_sized now set b).kept }

-- a change of its mode or size is one of the node
abbrev pub touched_set : Time → Handle → SetAttributes → Side → Side
touched_set now handle set side = if sets_node set then touched now handle side else side

-- Set attributes: the mode, and then the size, so that nothing is cut where one of them is refused.
-- Times and owners are set once the world has told the shape that came of it.
abbrev pub set_attributes : Side → Time → ℕ → SetAttributes → Dialogue (Outcome × Side)
set_attributes side now number set =
    Ends (node_named number) >>= λ handle.
    ask_shape handle >>= λ before.
    set_mode handle set >>= λ moded.
    set_size handle set before.mode >>= λ sized.
    ask_shape handle >>= λ shape.
    let beside = beside_set now set (at_node side handle) in
    Ends (attributes_if number shape beside.kept beside.nameless) >>= λ attributes.
    Ends (Ok (outcomes.Node attributes, put_node handle beside (touched_set now handle set side)))
