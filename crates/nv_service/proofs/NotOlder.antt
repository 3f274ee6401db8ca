-- What a session has seen, and the cells that come out of their locks.
use Rattle.std.proofs.Common.{◌≡◌, ◌∙◌, ◌<◌, ◌≤◌, ℕ, List, All, ap, arith, length, map, slice_index, slice_index_or, subst, sym}
use Rattle.std.proofs.lemmas.List.{get_or-map, length-map}
use Rattle.nv_cell.specs.Cell.{CellValue}
use Rattle.nv_service.specs.Closing.{IsNotOlder}
use Rattle.nv_sessions.specs.Locked.{version_at}
use Rattle.nv_sessions.specs.UnlockedParts.{AreInPlace, BesideCellValue, IsKnown, Told, rest_told, cell_told}

no_rest : BesideCellValue
no_rest = record { slot = 0; ino = 0; blocks = 0; version = 0 }

no_told : Told
no_told = record { blocks = 0; version = 0 }

-- no cell is older than what was seen, where its owner knows as much
pub not_older : (opened seen : List ℕ) (rests : List BesideCellValue) (cells : List CellValue)
    → map rest_told rests ≡ map cell_told cells → AreInPlace rests → All (IsKnown opened seen) rests
    → IsNotOlder opened seen cells
not_older opened seen rests cells fit placed known ino d lt =
    let count = length-map rests rest_told in
    let many = length-map cells cell_told in
    let within : ino < length rests = omega (arith, lt, count, many, ap (λ (ts : List Told). length ts) fit) in
    let rest = slice_index_or rests ino no_rest in
    let told : rest_told rest ≡ cell_told (slice_index_or cells ino d) =
    sym (get_or-map rest_told rests ino no_rest no_told within)
    ∙ ap (λ (ts : List Told). slice_index_or ts ino no_told) fit ∙ get_or-map cell_told cells ino d no_told lt in
    let here : version_at opened ino (slice_index seen ino) ≤ rest.version =
    subst (λ (n : ℕ). version_at opened n (slice_index seen n) ≤ rest.version) (placed ino no_rest within)
    (known ino no_rest within) in
    omega (arith, here, ap (λ (t : Told). t.version) told)
