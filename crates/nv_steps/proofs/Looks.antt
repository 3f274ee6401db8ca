-- A look at the names of a call.
use Rattle.std.proofs.Common.{◌≡◌, ℕ, zero, suc, ◌<◌, if◌then◌else◌, Bool, true, false, List, [], ◌∷◌, length, Option, Some, None, ap, arith, refl, subst, sym}
use Rattle.std.specs.Prelude.{MatchOption, Result, option_map}
use Rattle.nv_base.specs.declared.fault.Fault.{Fault}
use Rattle.nv_base.specs.declared.numbers.Handle.{Handle}
use Rattle.nv_calls.proofs.CheckEnds.{handle_is}
use Rattle.nv_calls.proofs.RefusedLooks.{HasPlace, IsLook, IsLookOf}
use Rattle.nv_calls.specs.AllCalls.{look_refusal, looked}
use Rattle.nv_calls.specs.Looks.{directories, handle_at, in_slot, look_tests, seen_at}
use Rattle.nv_calls.specs.Nodes.{copies_by}
use Rattle.nv_calls.specs.Plain.{PlainNode, same_handle}
use Rattle.nv_calls.specs.Refusals.{Check}
use Rattle.nv_calls.specs.Updates.{call_of}
use Rattle.nv_calls.specs.declared.call.Call.{Call}
use Rattle.nv_calls.specs.declared.call.Call.TheVariants as call
use Rattle.nv_calls.specs.declared.looked.LookupResult.{LookupResult}
use Rattle.nv_calls.specs.declared.update.Update.{Update}
use Rattle.nv_calls.specs.declared.update.Update.TheVariants as update
use Rattle.nv_cell.specs.Cell.{CellValue}
use Rattle.nv_entry.specs.declared.node.NodeCopy.{NodeCopy}
use Rattle.nv_machine.specs.Reads.{bytes_among, copies}
use Rattle.nv_machine.specs.World.{Shared, cell_at, no_cell}
use Rattle.nv_steps.proofs.Visits.{no_node, node_here}

-- ---- a look by the cell of its slot alone

-- bytes of blocks by a cell, if there is one
abbrev pub bytes_in : Option CellValue → ℕ → List ℕ
bytes_in None = λ number. []
bytes_in (Some cell) = bytes_among cell.state.blocks

-- its cell, where there is such a slot
abbrev pub IsCellOf : {A : Type 0} → Shared → ℕ → (A → CellValue) → Option A → Type 0
IsCellOf s ino value cell = MatchOption cell (cell_at s ino ≡ no_cell) (λ c. cell_at s ino ≡ (value c).state)

node_alone : {A : Type 0} (s : Shared) (dir : Handle) (value : A → CellValue) (cell : Option A) → IsCellOf s dir.ino value cell
    → copies_by (bytes_in (option_map value cell)) (in_slot dir.ino (option_map value cell)) dir ≡ copies s dir
node_alone s dir value None none = sym (ap (option_map (λ (p : PlainNode). p.node)) (no_node s dir none))
node_alone s dir value (Some c) is = ap (option_map (λ (p : PlainNode). p.node)) (node_here s dir (value c) is)

-- what a look comes to
abbrev outcome : (Handle → Option NodeCopy) → Call → List Handle → ℕ → LookupResult → Check × LookupResult
outcome n c dirs place before = (look_tests place (look_refusal n c), seen_at dirs place (looked n c) before)

alike_two : (n m : Handle → Option NodeCopy) (from : Handle) (old : List ℕ) (to : Handle) (new : List ℕ) (place : ℕ) (before : LookupResult)
    (same : Bool) → (same ≡ true → from ≡ to) → let dirs = if same then from ∷ [] else from ∷ to ∷ [] in
    place < length dirs → n (handle_at dirs place) ≡ m (handle_at dirs place)
    → outcome n (call.Rename from old to new) dirs place before ≡ outcome m (call.Rename from old to new) dirs place before
alike_two n m from old to new zero before true is few e =
    subst (λ (other : Handle). outcome n (call.Rename from old other new) (from ∷ []) 0 before
    ≡ outcome m (call.Rename from old other new) (from ∷ []) 0 before) (is refl)
    (ap (λ (x : Option NodeCopy). outcome (λ (h : Handle). x) (call.Rename from old from new) (from ∷ []) 0 before) e)
alike_two n m from old to new (suc place) before true is few e = absurd (omega (arith, few))
alike_two n m from old to new zero before false is few e =
    ap (λ (x : Option NodeCopy). outcome (λ (h : Handle). x) (call.Rename from old to new) (from ∷ to ∷ []) 0 before) e
alike_two n m from old to new (suc zero) before false is few e =
    ap (λ (x : Option NodeCopy). outcome (λ (h : Handle). x) (call.Rename from old to new) (from ∷ to ∷ []) 1 before) e
alike_two n m from old to new (suc (suc place)) before false is few e = absurd (omega (arith, few))

-- it comes to the same over nodes that are alike under its directory
alike : (n m : Handle → Option NodeCopy) (u : Update) (text : List ℕ) (place : ℕ) (before : LookupResult) → HasPlace place u
    → n (handle_at (directories (call_of u text)) place) ≡ m (handle_at (directories (call_of u text)) place)
    → outcome n (call_of u text) (directories (call_of u text)) place before
    ≡ outcome m (call_of u text) (directories (call_of u text)) place before
alike n m (update.Unlink dir name) text zero before few e =
    ap (λ (x : Option NodeCopy). outcome (λ (h : Handle). x) (call.Unlink dir name) (dir ∷ []) 0 before) e
alike n m (update.Unlink dir name) text (suc place) before few e = absurd (omega (arith, few))
alike n m (update.Rmdir dir name) text zero before few e =
    ap (λ (x : Option NodeCopy). outcome (λ (h : Handle). x) (call.Rmdir dir name) (dir ∷ []) 0 before) e
alike n m (update.Rmdir dir name) text (suc place) before few e = absurd (omega (arith, few))
alike n m (update.Rename from old to new) text place before few e =
    alike_two n m from old to new place before (same_handle from to) (handle_is from to) few e
alike n m other text place before few e = absurd (omega (arith, few))

-- by the cell of the directory's slot it comes to what it comes to over all nodes
pub look_alone : {A : Type 0} (s : Shared) (u : Update) (text : List ℕ) (place : ℕ) (before : LookupResult) (dir : Handle)
    (value : A → CellValue) (cell : Option A) (result : Result LookupResult Fault) → HasPlace place u
    → dir ≡ handle_at (directories (call_of u text)) place → IsCellOf s dir.ino value cell
    → ((bytes : ℕ → List ℕ) → IsLookOf (copies_by bytes (in_slot dir.ino (option_map value cell))) u text place before result)
    → IsLookOf (copies s) u text place before result
look_alone s u text place before dir value cell result few is there look =
    let n = copies_by (bytes_in (option_map value cell)) (in_slot dir.ino (option_map value cell)) in
    subst (λ (x : Check × LookupResult). IsLook x.0 x.1 result)
    (alike n (copies s) u text place before few
    (subst (λ (h : Handle). n h ≡ copies s h) is (node_alone s dir value cell there)))
    (look (bytes_in (option_map value cell)))
