-- A worked row: a file with a page is unlinked, and what the law of erasing refuses in the place of its retire step.
use Rattle.std.proofs.Common.{◌≡◌, ℕ, List, [], ◌∷◌, Some, None, ap, arith, inl, inr, length, refl}
use Rattle.std.specs.Prelude.{slice_set}
use Rattle.std.proofs.lemmas.Bool.{false≢true}
use Rattle.std.proofs.lemmas.Option.{none-some}
use Rattle.nv_alloc.specs.Block.{BlockValue, numbers_of}
use Rattle.nv_calls.specs.declared.call.Call.TheVariants as call
use Rattle.nv_cell.specs.Cell.{CellState, empty_cell}
use Rattle.nv_machine.specs.Erasing.{IsErasedWhole, IsOnItsWayOrBack, IsOver}
use Rattle.nv_machine.specs.Format.{formatted}
use Rattle.nv_machine.specs.Held.{pending_in}
use Rattle.nv_machine.specs.World.{HandState, World, actor_at, cell_at, with_cell, with_numbers}
use Rattle.nv_machine.proofs.ScriptRows.{DoCall, Goes, Line, StartCall, device, handle, line, played}

-- a file with its log page in block 1 and its page in block 2, and its unlinking, so many steps on: 13 retires the file
abbrev first_steps : List Line
first_steps =
    DoCall 0 (call.Create (handle 0 1) (97 ∷ []) 420)
    ∷ DoCall 0 (call.Write (handle 1 1) 0 (97 ∷ 97 ∷ 97 ∷ 97 ∷ []))
    ∷ StartCall 0 (call.Unlink (handle 0 1) (97 ∷ []))
    ∷ []

abbrev at : ℕ → World
at steps = (line (played (formatted device) first_steps) (Goes 0 steps)).world

abbrev hand_at : ℕ → HandState
hand_at steps = (actor_at (at steps) 0).hand

abbrev cell_now : ℕ → CellState
cell_now steps = cell_at (at steps).shared 1

over : IsOver (pending_in (at 13)) (at 13).shared 1
over = record { gone = refl; kept = (refl, (refl, (refl, (refl, (refl, tt))))) }

slot : cell_now 14 ≡ empty_cell 4 4 2 3
slot = refl

chain : numbers_of (hand_at 14).chain ≡ 1 ∷ []
chain = refl

blocks : numbers_of (hand_at 14).blocks ≡ 2 ∷ []
blocks = refl

number : (hand_at 14).ino ≡ Some 1
number = refl

-- the call's last step but one has it yet
last : (hand_at 18).ino ≡ Some 1
last = refl

back : (at 99).shared.pool.numbers ≡ 1 ∷ 2 ∷ 3 ∷ 4 ∷ 5 ∷ 6 ∷ 7 ∷ []
back = refl

-- ---- wrong steps

abbrev with_hand : HandState → World
with_hand hand = record (at 14) { actors = slice_set (at 14).actors 0 (record (actor_at (at 14) 0) { hand = hand }) }

abbrev with_slot : CellState → World
with_slot cell = record (at 14) { shared = with_cell 1 cell (at 14).shared }

abbrev IsRefused : World → Type 0
IsRefused w = IsErasedWhole 0 1 (at 13) w → ⊥

-- a retire that loses the chain, one that loses the page, and one that forgets the number
without_chain : IsRefused (with_hand (record (hand_at 14) { chain = [] }))
without_chain e = let many : 0 ≡ 1 = ap (λ (l : List BlockValue). length l) e.chain in omega (arith, many)

without_page : IsRefused (with_hand (record (hand_at 14) { blocks = [] }))
without_page e = false≢true (e.blocks 4 (record { number = 2; bytes = 97 ∷ 97 ∷ 97 ∷ 97 ∷ [] }) refl)

without_number : IsRefused (with_hand (record (hand_at 14) { ino = None }))
without_number e = none-some 1 e.number

-- one that keeps the generation, and one that erases nothing
same_generation : IsRefused (with_slot (empty_cell 4 4 1 3))
same_generation e = let same : 1 ≡ 2 = ap (λ (c : CellState). c.generation) e.slot in omega (arith, same)

nothing_erased : IsRefused (with_slot (cell_now 13))
nothing_erased e = let same : 1 ≡ 2 = ap (λ (c : CellState). c.generation) e.slot in omega (arith, same)

-- an end that leaves the number out of the pool
out_of_pool : IsOnItsWayOrBack 0 1 (record (at 99) { shared = with_numbers (2 ∷ 3 ∷ 4 ∷ 5 ∷ 6 ∷ 7 ∷ []) (at 99).shared }) → ⊥
out_of_pool (inl way) = none-some way.running way.runs
out_of_pool (inr e) = false≢true e.pool
