-- Parts are put to those of their slots, one by one.
use Rattle.std.proofs.Common.{◌≡◌, ◌≢◌, ℕ, zero, suc, ◌+◌, ◌<◌, ◌≤◌, ◌==◌, Bool, true, false, cond, List, [], ◌∷◌, ◌++◌, length, map, take, filter, arith, refl, ap, sym, ◌∙◌, inl, inr, get_or, slice_index_or, slice_set}
use Rattle.std.specs.Global.{Vec}
use Rattle.std.proofs.lemmas.Bool.{cases_lt, eqb-false, eqb-true}
use Rattle.std.proofs.lemmas.List.{append_assoc, append-nil, get_or-map, get_or-set_other, get_or-set_same, length-append, length-map, length-set, map-append}
use Rattle.std.proofs.lemmas.List.Elements.{filter_more}
use Rattle.nv_book.specs.declared.record.Record.{Record}
use Rattle.nv_entry.specs.declared.part.PartId.{PartId}
use Rattle.nv_audit.specs.Pending.{ArePendingOf, HaveMore, deferred_of, of_inode, part_of, parts_at}
use Rattle.nv_audit.specs.declared.part_list.InodePart.{InodePart}

abbrev items_of : Vec PartId → List PartId
items_of v = v.items

-- ---- lists by their places

map_set : (lists : List (Vec PartId)) (i : ℕ) (v : Vec PartId) → map items_of (slice_set lists i v) ≡ slice_set (map items_of lists) i v.items
map_set [] zero v = refl
map_set [] (suc i) v = refl
map_set (l ∷ lists) zero v = refl
map_set (l ∷ lists) (suc i) v = ap (λ ys. l.items ∷ ys) (map_set lists i v)

pub list_here : (lists : List (Vec PartId)) (i : ℕ) (v : Vec PartId) → i < length lists → v ≡ get_or lists i v → parts_at lists i ≡ v.items
list_here lists i v lt is = get_or-map items_of lists i v [] lt ∙ ap items_of (sym is)

set_at : (lists : List (Vec PartId)) (i slot : ℕ) (v : Vec PartId) (b : Bool) → (i == slot) ≡ b → i < length lists
    → parts_at (slice_set lists i v) slot ≡ cond b v.items (parts_at lists slot)
set_at lists i slot v true q lt =
    let same : i ≡ slot = eqb-true i slot q in
    let within : i < length (map items_of lists) = omega (arith, lt, length-map lists items_of) in
    ap (λ l. slice_index_or l slot []) (map_set lists i v)
    ∙ ap (λ (k : ℕ). slice_index_or (slice_set (map items_of lists) i v.items) k []) (sym same)
    ∙ get_or-set_same (map items_of lists) i v.items [] within
set_at lists i slot v false q lt =
    let apart : slot ≢ i = λ same. eqb-false i slot q (sym same) in
    ap (λ l. slice_index_or l slot []) (map_set lists i v) ∙ get_or-set_other (map items_of lists) i slot v.items [] apart

-- ---- one part

abbrev one_of : ℕ → PartId → ℕ → List PartId
one_of ino part slot = cond (ino == slot) (part ∷ []) []

pub put_there : (lists : List (Vec PartId)) (place ino : ℕ) (part : PartId) (old new : Vec PartId) → place ≡ ino → place < length lists
    → old ≡ get_or lists place old → new.items ≡ old.items ++ part ∷ [] → HaveMore (one_of ino part) lists (slice_set lists place new)
put_there lists place ino part old new at lt is put = record {
  len = length-set lists place new;
  each = λ slot below.
      set_at lists place slot new (place == slot) refl lt
      ∙ both slot (place == slot) refl
      ∙ ap (λ (k : ℕ). parts_at lists slot ++ cond (k == slot) (part ∷ []) []) at;
} where
  both : (slot : ℕ) (b : Bool) → (place == slot) ≡ b
      → cond b new.items (parts_at lists slot) ≡ parts_at lists slot ++ cond b (part ∷ []) []
  both slot true q =
      put ∙ ap (λ (ps : List PartId). ps ++ part ∷ []) (sym (list_here lists place old lt is))
      ∙ ap (λ (k : ℕ). parts_at lists k ++ part ∷ []) (eqb-true place slot q)
  both slot false q = sym (append-nil (parts_at lists slot))

pub put_nowhere : (lists : List (Vec PartId)) (place ino : ℕ) (part : PartId) → place ≡ ino → length lists ≤ place
    → HaveMore (one_of ino part) lists lists
put_nowhere lists place ino part at past = record {
  len = refl;
  each = λ slot below. sym (none slot below (ino == slot) refl);
} where
  none : (slot : ℕ) → slot < length lists → (b : Bool) → (ino == slot) ≡ b → parts_at lists slot ++ cond b (part ∷ []) [] ≡ parts_at lists slot
  none slot below true q = let same = eqb-true ino slot q in absurd (omega (arith, same, at, past, below))
  none slot below false q = append-nil (parts_at lists slot)

-- ---- one by one

-- nothing more
pub no_more : (more : ℕ → List PartId) (lists : List (Vec PartId)) → ((slot : ℕ) → more slot ≡ []) → HaveMore more lists lists
no_more more lists none = record {
  len = refl;
  each = λ slot below. sym (ap (λ (ps : List PartId). parts_at lists slot ++ ps) (none slot) ∙ append-nil (parts_at lists slot));
}

-- more behind more
pub more_then : (one other : ℕ → List PartId) (old mid new : List (Vec PartId)) → HaveMore one old mid → HaveMore other mid new
    → HaveMore (λ slot. one slot ++ other slot) old new
more_then one other old mid new first second = record {
  len = second.len ∙ first.len;
  each = λ slot below.
      let there : slot < length mid = omega (arith, below, first.len) in
      second.each slot there ∙ ap (λ (ps : List PartId). ps ++ other slot) (first.each slot below)
      ∙ append_assoc (parts_at old slot) (one slot) (other slot);
}

-- the same more
pub more_same : (one other : ℕ → List PartId) (old new : List (Vec PartId)) → ((slot : ℕ) → one slot ≡ other slot)
    → HaveMore one old new → HaveMore other old new
more_same one other old new same have = record {
  len = have.len;
  each = λ slot below. have.each slot below ∙ ap (λ (ps : List PartId). parts_at old slot ++ ps) (same slot);
}

-- one item more, of a list of items that have a slot and a part
module _ {X : Type 0} (slot_of : X → ℕ) (name : X → PartId) where
  abbrev own : ℕ → List X → List PartId
  own slot xs = map name (filter (λ (x : X). slot_of x == slot) xs)

  own_more : (slot : ℕ) (xs : List X) (i : ℕ) (x : X) → i < length xs → x ≡ get_or xs i x
      → own slot (take i xs) ++ one_of (slot_of x) (name x) slot ≡ own slot (take (i + 1) xs)
  own_more slot xs i x lt is =
      sym (ap (map name) (filter_more (λ (y : X). slot_of y == slot) xs i x lt
      ∙ ap (λ (y : X). filter (λ (z : X). slot_of z == slot) (take i xs) ++ cond (slot_of y == slot) (y ∷ []) []) (sym is))
      ∙ map-append name (filter (λ (z : X). slot_of z == slot) (take i xs)) (cond (slot_of x == slot) (x ∷ []) [])
      ∙ ap (λ (ps : List PartId). own slot (take i xs) ++ ps) (single (slot_of x == slot)))
    where
      single : (b : Bool) → map name (cond b (x ∷ []) []) ≡ cond b (name x ∷ []) []
      single true = refl
      single false = refl

  pub put_more : (xs : List X) (i : ℕ) (x : X) (old mid new : List (Vec PartId)) → i < length xs → x ≡ get_or xs i x
      → HaveMore (λ slot. own slot (take i xs)) old mid → HaveMore (one_of (slot_of x) (name x)) mid new
      → HaveMore (λ slot. own slot (take (i + 1) xs)) old new
  put_more xs i x old mid new lt is before put =
      more_same (λ slot. own slot (take i xs) ++ one_of (slot_of x) (name x) slot) (λ slot. own slot (take (i + 1) xs)) old new
      (λ slot. own_more slot xs i x lt is)
      (more_then (λ slot. own slot (take i xs)) (one_of (slot_of x) (name x)) old mid new before put)

pub deferred_more : (records : List Record) (i : ℕ) (d : Record) (old mid new : List (Vec PartId)) → i < length records
    → d ≡ get_or records i d → HaveMore (λ slot. deferred_of slot (take i records)) old mid
    → HaveMore (one_of d.ino (part_of d)) mid new → HaveMore (λ slot. deferred_of slot (take (i + 1) records)) old new
deferred_more = put_more (λ (d : Record). d.ino) part_of

pub hands_more : (parts : List InodePart) (i : ℕ) (p : InodePart) (old mid new : List (Vec PartId)) → i < length parts
    → p ≡ get_or parts i p → HaveMore (λ slot. of_inode slot (take i parts)) old mid
    → HaveMore (one_of p.ino p.part) mid new → HaveMore (λ slot. of_inode slot (take (i + 1) parts)) old new
hands_more = put_more (λ (p : InodePart). p.ino) (λ (p : InodePart). p.part)

-- ---- all of them

pub all_pending : (slots : ℕ) (deferred : List Record) (in_hands : List InodePart) (none mid new : List (Vec PartId))
    → ArePendingOf slots [] [] none → HaveMore (λ slot. deferred_of slot deferred) none mid
    → HaveMore (λ slot. of_inode slot in_hands) mid new → ArePendingOf slots deferred in_hands new
all_pending slots deferred in_hands none mid new empty first second =
    let both = more_then (λ slot. deferred_of slot deferred) (λ slot. of_inode slot in_hands) none mid new first second in
    record {
      len = both.len ∙ empty.len;
      each = λ slot below.
          both.each slot (omega (arith, below, empty.len))
          ∙ ap (λ (ps : List PartId). ps ++ (deferred_of slot deferred ++ of_inode slot in_hands)) (empty.each slot below);
    }

-- no slot, and one slot more
none_front : (xs : List (List PartId)) (x : List PartId) (k : ℕ) → k < length xs
    → slice_index_or (xs ++ x ∷ []) k [] ≡ slice_index_or xs k []
none_front [] x k l = absurd (omega (arith, l))
none_front (y ∷ xs) x zero l = refl
none_front (y ∷ xs) x (suc k) l = none_front xs x k (omega (arith, l))

none_last : (xs : List (List PartId)) (x : List PartId) (k : ℕ) → k ≡ length xs → slice_index_or (xs ++ x ∷ []) k [] ≡ x
none_last [] x zero e = refl
none_last [] x (suc k) e = absurd (omega (arith, e))
none_last (y ∷ xs) x zero e = absurd (omega (arith, e))
none_last (y ∷ xs) x (suc k) e = none_last xs x k (omega (arith, e))

pub no_slot : (lists : List (Vec PartId)) → lists ≡ [] → ArePendingOf 0 [] [] lists
no_slot lists none = record { len = ap (λ (l : List (Vec PartId)). length l) none; each = λ slot lt. absurd (omega (arith, lt)) }

pub slot_more : (n : ℕ) (lists new : List (Vec PartId)) (v : Vec PartId) → ArePendingOf n [] [] lists → v.items ≡ []
    → new ≡ lists ++ v ∷ [] → ArePendingOf (n + 1) [] [] new
slot_more n lists new v before empty put = record {
  len = ap (λ (l : List (Vec PartId)). length l) put ∙ length-append lists (v ∷ []) ∙ ap (λ (k : ℕ). k + 1) before.len;
  each = λ slot below.
      let all : map items_of new ≡ map items_of lists ++ v.items ∷ [] = ap (map items_of) put ∙ map-append items_of lists (v ∷ []) in
      let size : length (map items_of lists) ≡ n = length-map lists items_of ∙ before.len in
      ap (λ l. slice_index_or l slot []) all ∙ elim (cases_lt slot n) [
        | inl less ↦ none_front (map items_of lists) v.items slot (omega (arith, less, size)) ∙ before.each slot less
        | inr from ↦ none_last (map items_of lists) v.items slot (omega (arith, from, below, size)) ∙ empty
      ];
}
