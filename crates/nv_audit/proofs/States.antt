-- The states of cells, one by one.
use Rattle.std.proofs.Common.{◌≡◌, ℕ, ◌<◌, List, length, get_or, ap, sym, ◌∙◌, subst}
use Rattle.std.specs.Prelude.{All}
use Rattle.std.proofs.lemmas.List.{get_or-map, length-map}
use Rattle.nv_cell.specs.Cell.{CellState, CellValue, no_room}
use Rattle.nv_audit.specs.Records.{states_of}

pub state_at : (cells : List CellValue) (i : ℕ) (c : CellValue) → i < length cells → c ≡ get_or cells i c
    → c.state ≡ get_or (states_of cells) i c.state
state_at cells i c lt is =
    ap (λ (x : CellValue). x.state) is ∙ sym (get_or-map (λ (x : CellValue). x.state) cells i c c.state lt)

pub as_many : (cells : List CellValue) (i : ℕ) → i < length cells → i < length (states_of cells)
as_many cells i lt = subst (λ (n : ℕ). i < n) (sym (length-map cells (λ (x : CellValue). x.state))) lt

-- what holds of all
pub all_states : (P : CellState → Type 0) (cells : List CellValue)
    → (All (λ (c : CellValue). P c.state) cells → All P (states_of cells)) × (All P (states_of cells) → All (λ (c : CellValue). P c.state) cells)
all_states P cells = (
  λ all k d lt.
      let few : k < length cells = subst (λ (n : ℕ). k < n) (length-map cells (λ (x : CellValue). x.state)) lt in
      let e : CellValue = record { state = d; room = no_room } in
      subst P (sym (get_or-map (λ (x : CellValue). x.state) cells k e d few)) (all k e few),
  λ all k d lt. subst P (get_or-map (λ (x : CellValue). x.state) cells k d d.state lt) (all k d.state (as_many cells k lt)),
)
