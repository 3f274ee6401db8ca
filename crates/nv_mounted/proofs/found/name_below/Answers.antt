use Rattle.std.proofs.Common.{◌≡◌, ℕ, ◌∙◌, ◌-◌, List, [], ◌∷◌, ap, arith, drop, false, length, length-drop, sym, true}
use Rattle.nv_mounted.specs.Snapshots.{is_hidden_at, one_name}
use Rattle.nv_mounted.proofs.Children.{hidden_one, no_one, one_left, shown_one}
use Rattle.nv_mounted.proofs.found.name_below.Goals.{then-path-depth-via-then-path-depth, then-path-depth-via-else-path-depth+then-path-depth-ne1}
use Rattle.nv_mounted.proofs.found.name_below.Goals as goal

pub returns-then-path-depth : goal.returns-then-path-depth
returns-then-path-depth c =
    let path = c.as_slice-path.result.now in
    let ne : length path - c.args.depth ≡ 1 → ⊥ = elim c.then-path-depth.branch [
      | then-path-depth-via-then-path-depth w ↦ λ one. let no : ⊥ = omega (arith, w.if-path-depth.true, one) in no
      | then-path-depth-via-else-path-depth+then-path-depth-ne1 w ↦ w.if-path-depth-ne1.true
    ] in
    sym (no_one c.args.depth (drop c.args.depth path) (λ one. ne (sym (length-drop c.args.depth path) ∙ one)))
    ∙ ap (λ (p : List (List ℕ)). one_name c.args.depth (drop c.args.depth p)) c.as_slice-path.ensures

pub returns-then-is_hidden_at : goal.returns-then-is_hidden_at
returns-then-is_hidden_at c =
    let path = c.as_slice-path.result.now in
    let name = c.bytes-name.result.now in
    let hidden : is_hidden_at c.args.depth name ≡ true = sym c.is_hidden_at.ensures ∙ c.if-is_hidden_at.true in
    let left : drop c.args.depth path ≡ name ∷ [] =
    one_left path c.args.depth c.index-path-depth.result c.if-path-depth.false c.if-path-depth-ne1.false
    ∙ ap (λ (n : List ℕ). n ∷ []) (sym c.index-path-depth.is ∙ sym c.bytes-name.ensures.value) in
    sym (hidden_one c.args.depth name hidden) ∙ sym (ap (one_name c.args.depth) left)
    ∙ ap (λ (p : List (List ℕ)). one_name c.args.depth (drop c.args.depth p)) c.as_slice-path.ensures

pub returns : goal.returns
returns c =
    let path = c.as_slice-path.result.now in
    let name = c.bytes-name.result.now in
    let shown : is_hidden_at c.args.depth name ≡ false = sym c.is_hidden_at.ensures ∙ c.if-is_hidden_at.false in
    let left : drop c.args.depth path ≡ name ∷ [] =
    one_left path c.args.depth c.index-path-depth.result c.if-path-depth.false c.if-path-depth-ne1.false
    ∙ ap (λ (n : List ℕ). n ∷ []) (sym c.index-path-depth.is ∙ sym c.bytes-name.ensures.value) in
    sym (shown_one c.args.depth name shown) ∙ sym (ap (one_name c.args.depth) left)
    ∙ ap (λ (p : List (List ℕ)). one_name c.args.depth (drop c.args.depth p)) c.as_slice-path.ensures
