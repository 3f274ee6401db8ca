-- When a body has the form of its operation.
use Rattle.std.proofs.Common.{◌≡◌, ℕ, ◌+◌, ◌-◌, ◌≤◌, ◌==◌, Bool, true, List, length, Some, ap, arith}
use Rattle.std.proofs.lemmas.Bool.{and_from, eq-eqb, le-leb}
use Rattle.nv_fuse.specs.Forms.{Form, has_form, has_tail}

-- its fields are there, and what stands behind them
pub whole : (f : Form) (body : List ℕ) → f.fields ≤ length body → has_tail f.tail f.fields body ≡ true
    → Some (has_form body f) ≡ Some true
whole f body enough tail = ap (λ (b : Bool). Some b) (and_from _ _ (le-leb _ _ enough) tail)

-- a write has as many bytes as it tells
pub as_told : (fields count told behind : ℕ) → fields ≤ count → count - fields ≡ behind → behind ≡ told
    → (count == (fields + told)) ≡ true
as_told fields count told behind enough left same = eq-eqb count (fields + told) (omega arith)
