-- Records are put to those of their slots, one by one.
use Rattle.std.proofs.Common.{◌≡◌, ◌≢◌, ℕ, zero, suc, ◌+◌, ◌<◌, ◌≤◌, ◌==◌, Bool, true, false, cond, List, [], ◌∷◌, ◌++◌, length, map, take, arith, refl, ap, sym, ◌∙◌, inl, inr, get_or, slice_index_or, slice_set, subst}
use Rattle.std.specs.Prelude.{◌↔◌, All}
use Rattle.std.specs.Global.{Vec}
use Rattle.std.proofs.lemmas.Bool.{cases_lt, eqb-false, eqb-true}
use Rattle.std.proofs.lemmas.List.{append-nil, get_or-map, get_or-set_other, get_or-set_same, length-append, length-map, length-set, map-append}
use Rattle.std.proofs.lemmas.List.Elements.{filter_more}
use Rattle.nv_book.specs.Book.{BookState}
use Rattle.nv_book.specs.declared.record.Record.{Record}
use Rattle.nv_cell.specs.Cell.{CellState, CellValue}
use Rattle.nv_epoch.specs.SnapList.{ids}
use Rattle.nv_audit.specs.KeptParts.{AreAllRecordsOf, AreBySlot, AreRecordsOf, cell_in, is_of_slot, list_at, records_in, records_of}
use Rattle.nv_audit.specs.Pool.{no_cell}
use Rattle.nv_audit.specs.Records.{states_of}

abbrev items_of : Vec Record → List Record
items_of v = v.items

-- ---- lists by their places

map_set : (lists : List (Vec Record)) (i : ℕ) (v : Vec Record) → map items_of (slice_set lists i v) ≡ slice_set (map items_of lists) i v.items
map_set [] zero v = refl
map_set [] (suc i) v = refl
map_set (l ∷ lists) zero v = refl
map_set (l ∷ lists) (suc i) v = ap (λ ys. l.items ∷ ys) (map_set lists i v)

pub list_here : (lists : List (Vec Record)) (i : ℕ) (v : Vec Record) → i < length lists → v ≡ get_or lists i v → list_at lists i ≡ v.items
list_here lists i v lt is = get_or-map items_of lists i v [] lt ∙ ap items_of (sym is)

pub cell_here : (cells : List CellValue) (i : ℕ) (c : CellValue) → i < length cells → c ≡ get_or cells i c
    → cell_in (states_of cells) i ≡ c.state
cell_here cells i c lt is =
    get_or-map (λ (x : CellValue). x.state) cells i c no_cell lt ∙ ap (λ (x : CellValue). x.state) (sym is)

-- ---- one record more

set_at : (lists : List (Vec Record)) (i ino : ℕ) (v : Vec Record) (b : Bool) → (i == ino) ≡ b → i < length lists
    → list_at (slice_set lists i v) ino ≡ cond b v.items (list_at lists ino)
set_at lists i ino v true q lt =
    let same : i ≡ ino = eqb-true i ino q in
    let within : i < length (map items_of lists) = omega (arith, lt, length-map lists items_of) in
    ap (λ l. slice_index_or l ino []) (map_set lists i v)
    ∙ ap (λ (k : ℕ). slice_index_or (slice_set (map items_of lists) i v.items) k []) (sym same)
    ∙ get_or-set_same (map items_of lists) i v.items [] within
set_at lists i ino v false q lt =
    let apart : ino ≢ i = λ same. eqb-false i ino q (sym same) in
    ap (λ l. slice_index_or l ino []) (map_set lists i v) ∙ get_or-set_other (map items_of lists) i ino v.items [] apart

pub slot_more : (slots : ℕ) (records : List Record) (i : ℕ) (d : Record) (lists : List (Vec Record)) (v : Vec Record)
    → AreBySlot slots (take i records) lists → i < length records → d ≡ get_or records i d → d.ino < slots
    → v.items ≡ list_at lists d.ino ++ d ∷ [] → AreBySlot slots (take (i + 1) records) (slice_set lists d.ino v)
slot_more slots records i d lists v before lt is within put = record {
  len = length-set lists d.ino v ∙ before.len;
  each = λ ino below.
      let there : d.ino < length lists = omega (arith, within, before.len) in
      let more = filter_more (is_of_slot ino) records i d lt in
      let own : cond (is_of_slot ino (get_or records i d)) (get_or records i d ∷ []) [] ≡ cond (d.ino == ino) (d ∷ []) [] =
      ap (λ (x : Record). cond (is_of_slot ino x) (x ∷ []) []) (sym is) in
      set_at lists d.ino ino v (d.ino == ino) refl there
      ∙ both ino below (d.ino == ino) refl
      ∙ sym (more ∙ ap (λ ds. records_of ino (take i records) ++ ds) own);
} where
  both : (ino : ℕ) → ino < slots → (b : Bool) → (d.ino == ino) ≡ b
      → cond b v.items (list_at lists ino) ≡ records_of ino (take i records) ++ cond b (d ∷ []) []
  both ino below true q =
      let same : d.ino ≡ ino = eqb-true d.ino ino q in
      put ∙ ap (λ (k : ℕ). list_at lists k ++ d ∷ []) same ∙ ap (λ ds. ds ++ d ∷ []) (before.each ino below)
  both ino below false q = before.each ino below ∙ sym (append-nil (records_of ino (take i records)))

-- ---- no record yet

none_front : (xs : List (List Record)) (x : List Record) (k : ℕ) → k < length xs
    → slice_index_or (xs ++ x ∷ []) k [] ≡ slice_index_or xs k []
none_front [] x k l = absurd (omega (arith, l))
none_front (y ∷ xs) x zero l = refl
none_front (y ∷ xs) x (suc k) l = none_front xs x k (omega (arith, l))

none_last : (xs : List (List Record)) (x : List Record) (k : ℕ) → k ≡ length xs → slice_index_or (xs ++ x ∷ []) k [] ≡ x
none_last [] x zero e = refl
none_last [] x (suc k) e = absurd (omega (arith, e))
none_last (y ∷ xs) x zero e = absurd (omega (arith, e))
none_last (y ∷ xs) x (suc k) e = none_last xs x k (omega (arith, e))

pub no_slot : (lists : List (Vec Record)) → lists ≡ [] → AreBySlot 0 [] lists
no_slot lists none = record { len = ap (λ (l : List (Vec Record)). length l) none; each = λ ino lt. absurd (omega (arith, lt)) }

pub empty_more : (n : ℕ) (lists new : List (Vec Record)) (v : Vec Record) → AreBySlot n [] lists → v.items ≡ []
    → new ≡ lists ++ v ∷ [] → AreBySlot (n + 1) [] new
empty_more n lists new v before empty put = record {
  len = ap (λ (l : List (Vec Record)). length l) put ∙ length-append lists (v ∷ []) ∙ ap (λ (k : ℕ). k + 1) before.len;
  each = λ ino below.
      let all : map items_of new ≡ map items_of lists ++ v.items ∷ [] = ap (map items_of) put ∙ map-append items_of lists (v ∷ []) in
      let size : length (map items_of lists) ≡ n = length-map lists items_of ∙ before.len in
      ap (λ l. slice_index_or l ino []) all ∙ elim (cases_lt ino n) [
        | inl less ↦ none_front (map items_of lists) v.items ino (omega (arith, less, size)) ∙ before.each ino less
        | inr from ↦ none_last (map items_of lists) v.items ino (omega (arith, from, below, size)) ∙ empty
      ];
}

-- ---- all records

-- those of a book are those of all cells exactly where those of each slot are those of its cell
pub all_by_slot : (book : BookState) (cells : List CellState) (living : List ℕ) (records : List Record) (lists : List (Vec Record)) (n : ℕ)
    → living ≡ ids book.snaps → records ≡ records_in book → n ≡ length cells → AreBySlot n records lists
    → All (λ (d : Record). d.ino < n) records
    → ((ino : ℕ) → ino < n → AreRecordsOf living (cell_in cells ino) (list_at lists ino)) ↔ AreAllRecordsOf book cells
all_by_slot book cells living records lists n same all count by slots = (
  λ each. record {
    slots = subst (λ (ds : List Record). All (λ (d : Record). d.ino < length cells) ds) all
        (subst (λ (k : ℕ). All (λ (d : Record). d.ino < k) records) count slots);
    each = λ ino lt.
        let below : ino < n = omega (arith, lt, count) in
        subst (λ (l : List ℕ). AreRecordsOf l (cell_in cells ino) (records_of ino (records_in book))) same
        (subst (AreRecordsOf living (cell_in cells ino)) (by.each ino below ∙ ap (records_of ino) all) (each ino below));
  },
  λ are ino below.
      let lt : ino < length cells = omega (arith, below, count) in
      subst (AreRecordsOf living (cell_in cells ino)) (sym (by.each ino below ∙ ap (records_of ino) all))
      (subst (λ (l : List ℕ). AreRecordsOf l (cell_in cells ino) (records_of ino (records_in book))) (sym same) (are.each ino lt)),
)
