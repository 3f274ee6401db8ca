-- A worked row: what is free by the logs while a file's page is written over, and what the law refuses.
use Rattle.std.proofs.Common.{◌≡◌, ℕ, List, [], ◌∷◌, length, refl}
use Rattle.std.specs.Prelude.{slice_set}
use Rattle.nv_calls.specs.declared.call.Call.TheVariants as call
use Rattle.nv_cell.specs.Cell.{CellState}
use Rattle.nv_cell.specs.declared.killed.KilledPart.{KilledPart}
use Rattle.nv_entry.specs.declared.part.Part.TheVariants as part
use Rattle.nv_machine.specs.Format.{formatted}
use Rattle.nv_machine.specs.Held.{free_by_logs, killed_in}
use Rattle.nv_machine.specs.Numbers.{free_from_scratch, free_of}
use Rattle.nv_machine.specs.World.{HandState, World, actor_at, cell_at, list_at, with_cell}
use Rattle.nv_machine.proofs.ScriptRows.{DoCall, Goes, Line, StartCall, device, handle, line, played}

-- a file with one page in block 2, and a write over it, so many steps on: 6 append, 7 publish, 8 retire
abbrev first_steps : List Line
first_steps =
    DoCall 0 (call.Create (handle 0 1) (97 ∷ []) 420)
    ∷ DoCall 0 (call.Write (handle 1 1) 0 (97 ∷ 97 ∷ 97 ∷ 97 ∷ []))
    ∷ StartCall 0 (call.Write (handle 1 1) 0 (98 ∷ 98 ∷ 98 ∷ 98 ∷ []))
    ∷ []

abbrev at : ℕ → World
at steps = (line (played (formatted device) first_steps) (Goes 0 steps)).world

-- block 3 is past the tail, then both blocks are in use, the older one killed; then it is in the
-- hand, and at the end free
appended : free_by_logs device (at 6) 0 ≡ 4 ∷ 5 ∷ 6 ∷ 7 ∷ []
appended = refl

published : free_by_logs device (at 7) 0 ≡ 4 ∷ 5 ∷ 6 ∷ 7 ∷ []
published = refl

killed : length (killed_in (at 7) 1) ≡ 2
killed = refl

retired : free_by_logs device (at 8) 0 ≡ 4 ∷ 5 ∷ 6 ∷ 7 ∷ []
retired = refl

given : free_by_logs device (at 99) 0 ≡ 2 ∷ 4 ∷ 5 ∷ 6 ∷ 7 ∷ []
given = refl

-- ---- wrong steps, which the scan of cells does not see

abbrev with_hand : HandState → World → World
with_hand hand w = record w { actors = slice_set w.actors 0 (record (actor_at w 0) { hand = hand }) }

abbrev with_slot : CellState → World → World
with_slot cell w = record w { shared = with_cell 1 cell w.shared }

abbrev hand_at : ℕ → HandState
hand_at steps = (actor_at (at steps) 0).hand

-- a retire that leaves the killed part's block in the cell
abbrev forgotten : World
forgotten = with_slot (cell_at (at 7).shared 1) (with_hand (record (hand_at 8) { blocks = [] }) (at 8))

forgotten_list : free_of (list_at forgotten.shared 0) ≡ 4 ∷ 5 ∷ 6 ∷ 7 ∷ []
forgotten_list = refl

forgotten_cells : free_from_scratch device forgotten 0 ≡ 4 ∷ 5 ∷ 6 ∷ 7 ∷ []
forgotten_cells = refl

forgotten_logs : free_by_logs device forgotten 0 ≡ 2 ∷ 4 ∷ 5 ∷ 6 ∷ 7 ∷ []
forgotten_logs = refl

-- a publish that tells the hand of no killed part
abbrev untold : World
untold = with_hand (record (hand_at 7) { killed = [] ∷ [] }) (at 7)

untold_list : free_of (list_at untold.shared 0) ≡ 4 ∷ 5 ∷ 6 ∷ 7 ∷ []
untold_list = refl

untold_cells : free_from_scratch device untold 0 ≡ 4 ∷ 5 ∷ 6 ∷ 7 ∷ []
untold_cells = refl

untold_logs : free_by_logs device untold 0 ≡ 2 ∷ 4 ∷ 5 ∷ 6 ∷ 7 ∷ []
untold_logs = refl

-- a publish that tells of a part that stays current: in the end its block is free, and the older one is lost
abbrev fresh_page : KilledPart
fresh_page = record { part = record { entry = record { commit = 3; place = 0 }; part = part.Page 0 }; birth = 1 }

abbrev mistold : World
mistold = (line (with_hand (record (hand_at 7) { killed = (fresh_page ∷ []) ∷ [] }) (at 7)) (Goes 0 99)).world

mistold_list : free_of (list_at mistold.shared 0) ≡ 3 ∷ 4 ∷ 5 ∷ 6 ∷ 7 ∷ []
mistold_list = refl

mistold_cells : free_from_scratch device mistold 0 ≡ 3 ∷ 4 ∷ 5 ∷ 6 ∷ 7 ∷ []
mistold_cells = refl

mistold_logs : free_by_logs device mistold 0 ≡ 2 ∷ 4 ∷ 5 ∷ 6 ∷ 7 ∷ []
mistold_logs = refl
