-- The parts of a device, one by one.
use Rattle.std.proofs.Common.{◌≡◌, ℕ, zero, suc, ◌≤◌, List, [], ◌∷◌, length, nat_lt, take, arith, refl}
use Rattle.std.proofs.lemmas.Bool.{lt-ltb}
use Rattle.nv_cell.specs.Readers.{has_entry}
use Rattle.nv_entry.specs.declared.item.Entry.{Entry}

pub has_taken : (n : ℕ) (es : List Entry) → n ≤ length es → nat_lt 0 n ≡ has_entry (take n es)
has_taken zero es le = refl
has_taken (suc n) [] le = absurd (omega (arith, le))
has_taken (suc n) (e ∷ es) le = lt-ltb 0 (suc n) (omega arith)
