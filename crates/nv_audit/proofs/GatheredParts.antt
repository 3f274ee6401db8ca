-- The parts of a log, entry by entry.
use Rattle.std.proofs.Common.{◌≡◌, ℕ, zero, suc, ◌+◌, ◌<◌, ◌≤◌, Bool, List, [], ◌∷◌, ◌++◌, length, map, take, drop, arith, refl, ap, sym, ◌∙◌, inl, inr, slice_index_or}
use Rattle.std.proofs.lemmas.Bool.{cases_lt}
use Rattle.std.proofs.lemmas.List.{append_assoc, length-append, length-map, length-take-le, map-append, take_all}
use Rattle.nv_cell.specs.Cell.{CellState, IsCell, log_of}
use Rattle.nv_cell.specs.Numbers.{part_base}
use Rattle.nv_cell.specs.Readers.{marks_by_entry}
use Rattle.nv_cell.specs.declared.mark.Mark.{Mark}
use Rattle.nv_entry.specs.Covered.{part_count, part_total}
use Rattle.nv_entry.specs.declared.item.Entry.{Entry}
use Rattle.nv_audit.specs.KeptParts.{ArePartsOf, is_marked_as_kept}
use Rattle.nv_audit.specs.declared.kept_parts.KeptParts.{KeptParts}

take_nil : {X : Type 0} (n : ℕ) → take {A = X} n [] ≡ []
take_nil zero = refl
take_nil (suc n) = refl

take_plus : {X : Type 0} (c b : ℕ) (xs : List X) → take (c + b) xs ≡ take c xs ++ take b (drop c xs)
take_plus zero b xs = let n : 0 + b ≡ b = omega arith in ap (λ (k : ℕ). take k xs) n
take_plus (suc c) b [] = take_nil (suc c + b) ∙ sym (take_nil b)
take_plus (suc c) b (x ∷ xs) =
    let n : suc c + b ≡ suc (c + b) = omega arith in
    ap (λ (k : ℕ). take k (x ∷ xs)) n ∙ ap (λ ys. x ∷ ys) (take_plus c b xs)

-- the marks of one entry more
more_marks : (es : List Entry) (marks : List Mark) (i : ℕ) → i < length es
    → take (part_base es i) marks ++ slice_index_or (marks_by_entry es marks) i [] ≡ take (part_base es (i + 1)) marks
more_marks [] marks i lt = absurd (omega (arith, lt))
more_marks (e ∷ es) marks zero lt = ap (λ (k : ℕ). take k marks) (omega arith)
more_marks (e ∷ es) marks (suc i) lt =
    let next : suc i + 1 ≡ suc (i + 1) = omega arith in
    let c = part_count e in
    let b = part_base es i in
    let own = slice_index_or (marks_by_entry es (drop c marks)) i [] in
    ap (λ ms. ms ++ own) (take_plus c b marks) ∙ append_assoc (take c marks) (take b (drop c marks)) own
    ∙ ap (λ ms. take c marks ++ ms) (more_marks es (drop c marks) i (omega (arith, lt)))
    ∙ sym (take_plus c (part_base es (i + 1)) marks)
    ∙ ap (λ (k : ℕ). take (part_base (e ∷ es) k) marks) (sym next)

-- the parts of the first entries
pub record AreGathered (cell : CellState) (i : ℕ) (parts : KeptParts) : Type 0 where
  pub len : length parts.firsts.items ≡ i
  pub firsts : (k : ℕ) → k < i → slice_index_or parts.firsts.items k 0 ≡ part_base (log_of cell) k
  pub left : parts.left.items ≡ map is_marked_as_kept (take (part_base (log_of cell) i) cell.marks)

part_base_most : (es : List Entry) (i : ℕ) → part_base es i ≤ part_total es
part_base_most [] zero = omega arith
part_base_most [] (suc i) = omega arith
part_base_most (e ∷ es) zero = omega arith
part_base_most (e ∷ es) (suc i) = let rest = part_base_most es i in omega (arith, rest)

pub gathered_none : (cell : CellState) (parts : KeptParts) → parts.firsts.items ≡ [] → parts.left.items ≡ [] → AreGathered cell 0 parts
gathered_none cell parts firsts left = record {
  len = ap (λ (l : List ℕ). length l) firsts;
  firsts = λ k lt. absurd (omega (arith, lt));
  left = left;
}

module _ (cell : CellState) (is : IsCell cell) where
  pub log_length : length (log_of cell) ≡ cell.chain.tail
  log_length = length-take-le cell.chain.tail cell.chain.entries is.chain.within

  gathered_len : (i : ℕ) (left : List Bool) → left ≡ map is_marked_as_kept (take (part_base (log_of cell) i) cell.marks)
      → length left ≡ part_base (log_of cell) i
  gathered_len i left h =
      let most = part_base_most (log_of cell) i in
      let fits = length-take-le (part_base (log_of cell) i) cell.marks (omega (arith, most, is.marks.len)) in
      ap (λ (l : List Bool). length l) h ∙ length-map (take (part_base (log_of cell) i) cell.marks) is_marked_as_kept ∙ fits

  -- those of one entry more
  pub gathered_more : (i first : ℕ) (old new : KeptParts) → i < length (log_of cell) → AreGathered cell i old
      → first ≡ length old.left.items → new.firsts.items ≡ old.firsts.items ++ first ∷ []
      → new.left.items ≡ old.left.items ++ map is_marked_as_kept (slice_index_or (marks_by_entry (log_of cell) cell.marks) i [])
      → AreGathered cell (i + 1) new
  gathered_more i first old new lt before size firsts left = record {
    len = ap (λ (l : List ℕ). length l) firsts ∙ length-append old.firsts.items (first ∷ []) ∙ ap (λ (k : ℕ). k + 1) before.len;
    firsts = λ k below. elim (cases_lt k i) [
      | inl less ↦
          let there : k < length old.firsts.items = omega (arith, less, before.len) in
          ap (λ (l : List ℕ). slice_index_or l k 0) firsts ∙ read_front old.firsts.items first k there ∙ before.firsts k less
      | inr from ↦
          let same : k ≡ length old.firsts.items = omega (arith, from, below, before.len) in
          let at : k ≡ i = omega (arith, from, below) in
          ap (λ (l : List ℕ). slice_index_or l k 0) firsts ∙ read_last old.firsts.items first k same
          ∙ size ∙ gathered_len i old.left.items before.left ∙ ap (part_base (log_of cell)) (sym at)
    ];
    left = left ∙ ap (λ l. l ++ map is_marked_as_kept own) before.left
        ∙ sym (map-append is_marked_as_kept (take (part_base (log_of cell) i) cell.marks) own)
        ∙ ap (map is_marked_as_kept) (more_marks (log_of cell) cell.marks i lt);
  } where
    own : List Mark
    own = slice_index_or (marks_by_entry (log_of cell) cell.marks) i []

    read_front : (xs : List ℕ) (x k : ℕ) → k < length xs → slice_index_or (xs ++ x ∷ []) k 0 ≡ slice_index_or xs k 0
    read_front [] x k l = absurd (omega (arith, l))
    read_front (y ∷ xs) x zero l = refl
    read_front (y ∷ xs) x (suc k) l = read_front xs x k (omega (arith, l))

    read_last : (xs : List ℕ) (x k : ℕ) → k ≡ length xs → slice_index_or (xs ++ x ∷ []) k 0 ≡ x
    read_last [] x zero e = refl
    read_last [] x (suc k) e = absurd (omega (arith, e))
    read_last (y ∷ xs) x zero e = absurd (omega (arith, e))
    read_last (y ∷ xs) x (suc k) e = read_last xs x k (omega (arith, e))

  -- all of them
  pub gathered_all : (i : ℕ) (parts : KeptParts) → i ≡ length (log_of cell) → AreGathered cell i parts
      → ArePartsOf cell parts × (parts.left.items ≡ map is_marked_as_kept cell.marks)
  gathered_all i parts end all =
      let whole : part_base (log_of cell) i ≡ part_total (log_of cell) =
      ap part_total (take_all i (log_of cell) (omega (arith, end))) in
      let marks : take (part_base (log_of cell) i) cell.marks ≡ cell.marks =
      take_all (part_base (log_of cell) i) cell.marks (omega (arith, whole, is.marks.len)) in
      let left : parts.left.items ≡ map is_marked_as_kept cell.marks = all.left ∙ ap (map is_marked_as_kept) marks in (
        record {
          firsts = record { len = all.len ∙ end; each = λ k lt. all.firsts k (omega (arith, lt, end)) };
          len = ap (λ (l : List Bool). length l) left ∙ length-map cell.marks is_marked_as_kept;
        },
        left,
      )
