-- A plan is filled once each part that is to have a block has got it.
use Rattle.std.proofs.Common.{◌≡◌, ℕ, zero, suc, ◌+◌, ◌-◌, ◌<◌, ◌∙◌, Bool, true, false, cond, nat_lt, List, [], ◌∷◌, ◌++◌, Option, None, ap, arith, drop, length, length-append, map, refl, slice_index_or, subst, sym, take}
use Rattle.std.specs.Prelude.{option_and_then}
use Rattle.std.specs.List.{range_with_len}
use Rattle.std.proofs.Math.Seq.{drop-append_seam, take-append_seam}
use Rattle.std.proofs.lemmas.Bool.{le-ltb, lt-ltb}
use Rattle.std.proofs.lemmas.List.{length-map, map-append}
use Rattle.std.proofs.lemmas.List.FromFn.{length-map-range_with_len}
use Rattle.nv_alloc.specs.Block.{AreSized, BlockValue, block_by}
use Rattle.nv_entry.specs.declared.item.Entry.{Entry}
use Rattle.nv_entry.specs.declared.item.Item.{Item}
use Rattle.nv_entry.specs.declared.item.Item.TheVariants.{Init, Write, SetSize, SetMode, Bind, Unbind, Gone}
use Rattle.nv_entry.specs.declared.part.Part.TheVariants as part
use Rattle.nv_entry.specs.Covered.{part_count, part_total}
use Rattle.nv_entry.specs.Keys.{key_of, parts_of, sets}
use Rattle.nv_cell.specs.declared.mark.Mark.{Mark}
use Rattle.nv_cell.specs.declared.plan.CellPlan.{CellPlan}
use Rattle.nv_cell.specs.Anew.{AreThere, block_anew, marks_anew}
use Rattle.nv_cell.specs.Cell.{page_block}
use Rattle.nv_cell.specs.Filling.{entry_wants, log_wants, part_wants}
use Rattle.nv_cell.specs.Marks.{is_there, mark_at}
use Rattle.nv_cell.specs.Plan.{IsFilled}
use Rattle.nv_cell.specs.Slots.{by_part, slot_count, slot_total}
use Rattle.nv_cell.proofs.Appending.{block_of, no_block}

-- ---- the first part of an entry is no page

says_none : (block : ℕ) (item : Item)
    → block_of (sets block item (key_of item (slice_index_or (parts_of item) 0 part.Kind))) ≡ None
says_none block (Write first run size) = refl
says_none block (Init kind mode) = no_block block (Init kind mode) (key_of (Init kind mode) (slice_index_or (parts_of (Init kind mode)) 0 part.Kind)) refl
says_none block (SetSize size) = no_block block (SetSize size) (key_of (SetSize size) (slice_index_or (parts_of (SetSize size)) 0 part.Kind)) refl
says_none block (SetMode mode) = no_block block (SetMode mode) (key_of (SetMode mode) (slice_index_or (parts_of (SetMode mode)) 0 part.Kind)) refl
says_none block (Bind name to) = no_block block (Bind name to) (key_of (Bind name to) (slice_index_or (parts_of (Bind name to)) 0 part.Kind)) refl
says_none block (Unbind name) = no_block block (Unbind name) (key_of (Unbind name) (slice_index_or (parts_of (Unbind name)) 0 part.Kind)) refl
says_none block Gone = no_block block Gone (key_of Gone (slice_index_or (parts_of Gone) 0 part.Kind)) refl

no_first : (block : ℕ) (e : Entry) → page_block block (e ∷ []) 0 ≡ None
no_first block e = go (nat_lt 0 (part_count e)) refl where
  go : (b : Bool) → nat_lt 0 (part_count e) ≡ b → page_block block (e ∷ []) 0 ≡ None
  go true q = rw q (says_none block e.item)
  go false q = rw q refl

-- the first entry of a log says of its parts what it says alone
alone : (block : ℕ) (e : Entry) (later : List Entry) (n : ℕ) → n < part_count e
    → page_block block (e ∷ []) n ≡ page_block block (e ∷ later) n
alone block e later n lt =
    let low : nat_lt n (part_count e) ≡ true = lt-ltb n (part_count e) lt in
    rw low refl

-- ---- lists by a range

map_same : {X : Type 0} (f g : ℕ → X) (a b n : ℕ) → ((i : ℕ) → i < n → f (a + i) ≡ g (b + i))
    → map f (range_with_len a n) ≡ map g (range_with_len b n)
map_same f g a b zero same = refl
map_same f g a b (suc n) same =
    let left : a ≡ a + 0 = omega arith in
    let right : b + 0 ≡ b = omega arith in
    let first : f a ≡ g b = ap f left ∙ same 0 (omega arith) ∙ ap g right in
    ap (λ x. x ∷ map f (range_with_len (a + 1) n)) first ∙ ap (λ xs. g b ∷ xs) (map_same f g (a + 1) (b + 1) n next)
  where
    next : (i : ℕ) → i < n → f (a + 1 + i) ≡ g (b + 1 + i)
    next i lt =
        let x : a + 1 + i ≡ a + suc i = omega arith in
        let y : b + suc i ≡ b + 1 + i = omega arith in
        ap f x ∙ same (suc i) (omega (arith, lt)) ∙ ap g y

pub map_cut : {X : Type 0} (f : ℕ → X) (a n m : ℕ)
    → map f (range_with_len a (n + m)) ≡ map f (range_with_len a n) ++ map f (range_with_len (a + n) m)
map_cut f a zero m =
    let p : zero + m ≡ m = omega arith in
    let q : a ≡ a + zero = omega arith in
    ap (λ k. map f (range_with_len a k)) p ∙ ap (λ k. map f (range_with_len k m)) q
map_cut f a (suc n) m =
    let p : suc n + m ≡ suc (n + m) = omega arith in
    let q : a + 1 + n ≡ a + suc n = omega arith in
    ap (λ k. map f (range_with_len a k)) p
    ∙ ap (λ xs. f a ∷ xs)
    (map_cut f (a + 1) n m ∙ ap (λ k. map f (range_with_len (a + 1) n) ++ map f (range_with_len k m)) q)

map_both : {X Y Z : Type 0} (f : Y → Z) (g : X → Y) (xs : List X) → map f (map g xs) ≡ map (λ x. f (g x)) xs
map_both f g [] = refl
map_both f g (x ∷ xs) = ap (λ ys. f (g x) ∷ ys) (map_both f g xs)

-- the parts of one entry, of the slots of all
own_is : (h : ℕ → Option BlockValue) (k : ℕ) (a b : List (Option BlockValue)) → h 0 ≡ None → a ≡ map h (range_with_len 1 (k - 1))
    → take k (None ∷ (a ++ b)) ≡ map h (range_with_len 0 k)
own_is h zero a b none is = refl
own_is h (suc k) a b none is =
    let less : suc k - 1 ≡ k = omega arith in
    let all : a ≡ map h (range_with_len 1 k) = is ∙ ap (λ n. map h (range_with_len 1 n)) less in
    let len : length a ≡ k = ap length all ∙ length-map-range_with_len h 1 k in
    let front : take k (a ++ b) ≡ a = subst (λ (n : ℕ). take n (a ++ b) ≡ a) len (take-append_seam a b) in
    ap (λ xs. None ∷ xs) (front ∙ all) ∙ ap (λ x. x ∷ map h (range_with_len 1 k)) (sym none)

-- ---- the slots of a log

-- a log has a wish for each slot
pub wants_len : (block : ℕ) (marks : List Mark) (first : ℕ) (log : List Entry) → length (log_wants block marks first log) ≡ slot_total log
wants_len block marks first [] = refl
wants_len block marks first (e ∷ log) =
    omega (
      arith,
      length-append (entry_wants block marks first e) (log_wants block marks (first + part_count e) log),
      length-map-range_with_len (part_wants block marks first e) 1 (part_count e - 1),
      wants_len block marks (first + part_count e) log,
    )

module _ (f : Option ℕ → Option BlockValue) (none : f None ≡ None) (block : ℕ) (marks : List Mark) where
  -- what a part gets
  abbrev got : ℕ → List Entry → ℕ → Option BlockValue
  got first log n = f (cond (is_there (mark_at marks (first + n))) (page_block block log n) None)

  abbrev own : ℕ → Entry → ℕ → Option BlockValue
  own first e n = f (part_wants block marks first e n)

  abbrev nothing : Option ℕ
  nothing = None

  either : (b : Bool) → cond b nothing nothing ≡ None
  either true = refl
  either false = refl

  own_first : (first : ℕ) (e : Entry) → own first e 0 ≡ None
  own_first first e =
      let b = is_there (mark_at marks (first + 0)) in
      ap f (ap (λ (o : Option ℕ). cond b o nothing) (no_first block e) ∙ either b) ∙ none

  own_got : (first : ℕ) (e : Entry) (log : List Entry) (n : ℕ) → n < part_count e → own first e n ≡ got first (e ∷ log) n
  own_got first e log n lt =
      ap (λ (o : Option ℕ). f (cond (is_there (mark_at marks (first + n))) o None)) (alone block e log n lt)

  later_got : (first : ℕ) (e : Entry) (log : List Entry) (n : ℕ)
      → got (first + part_count e) log n ≡ got first (e ∷ log) (part_count e + n)
  later_got first e log n =
      let at : first + part_count e + n ≡ first + (part_count e + n) = omega arith in
      let past : nat_lt (part_count e + n) (part_count e) ≡ false = le-ltb (part_count e + n) (part_count e) (omega arith) in
      let back : n ≡ part_count e + n - part_count e = omega arith in
      let says_on : page_block block (e ∷ log) (part_count e + n) ≡ page_block block log (part_count e + n - part_count e) = rw past refl in
      ap (λ (k : ℕ). f (cond (is_there (mark_at marks k)) (page_block block log n) None)) at
      ∙ ap (λ (o : Option ℕ). f (cond (is_there (mark_at marks (first + (part_count e + n)))) o None))
      (ap (page_block block log) back ∙ sym says_on)

  -- each part has got what it wants
  pub slots_are : (first : ℕ) (log : List Entry)
      → by_part log (map f (log_wants block marks first log)) ≡ map (got first log) (range_with_len 0 (part_total log))
  slots_are first [] = refl
  slots_are first (e ∷ log) =
      ap (by_part (e ∷ log)) (map-append f wants later)
      ∙ ap (λ xs. xs ++ by_part log (drop (slot_count e) (a ++ b))) front
      ∙ ap (λ xs. map (own first e) (range_with_len 0 (part_count e)) ++ by_part log xs) behind
      ∙ ap (λ xs. map (own first e) (range_with_len 0 (part_count e)) ++ xs) (slots_are (first + part_count e) log)
      ∙ ap (λ xs. xs ++ map (got (first + part_count e) log) (range_with_len 0 (part_total log)))
      (map_same (own first e) (got first (e ∷ log)) 0 0 (part_count e) own_each)
      ∙ ap (λ xs. map (got first (e ∷ log)) (range_with_len 0 (part_count e)) ++ xs)
      (map_same (got (first + part_count e) log) (got first (e ∷ log)) 0 (0 + part_count e) (part_total log) later_each)
      ∙ sym (map_cut (got first (e ∷ log)) 0 (part_count e) (part_total log))
    where
      wants : List (Option ℕ)
      wants = entry_wants block marks first e

      later : List (Option ℕ)
      later = log_wants block marks (first + part_count e) log

      a : List (Option BlockValue)
      a = map f wants

      b : List (Option BlockValue)
      b = map f later

      is : a ≡ map (own first e) (range_with_len 1 (part_count e - 1))
      is = map_both f (part_wants block marks first e) (range_with_len 1 (part_count e - 1))

      len : length a ≡ slot_count e
      len = ap length is ∙ length-map-range_with_len (own first e) 1 (part_count e - 1)

      front : take (part_count e) (None ∷ (a ++ b)) ≡ map (own first e) (range_with_len 0 (part_count e))
      front = own_is (own first e) (part_count e) a b (own_first first e) is

      behind : drop (slot_count e) (a ++ b) ≡ b
      behind = subst (λ (n : ℕ). drop n (a ++ b) ≡ b) len (drop-append_seam a b)

      own_each : (i : ℕ) → i < part_count e → own first e (0 + i) ≡ got first (e ∷ log) (0 + i)
      own_each i lt = own_got first e log (0 + i) (omega (arith, lt))

      later_each : (i : ℕ) → i < part_total log → got (first + part_count e) log (0 + i) ≡ got first (e ∷ log) (0 + part_count e + i)
      later_each i lt =
          let x : 0 + i ≡ i = omega arith in
          let y : part_count e + i ≡ 0 + part_count e + i = omega arith in
          ap (got (first + part_count e) log) x ∙ later_got first e log i ∙ ap (got first (e ∷ log)) y

-- A plan whose slots have got the blocks that its log wants is filled
pub plan_filled : (block : ℕ) (living : List ℕ) (blocks : List BlockValue) (log : List Entry) (plan : CellPlan)
    → AreThere block living blocks log → AreSized block blocks
    → plan.blocks.items ≡ map (option_and_then (block_by blocks)) (log_wants block (marks_anew living block log) 0 log)
    → IsFilled block living blocks log plan
plan_filled block living blocks log plan there sized are = record {
  there = there;
  sized = sized;
  slots = ap length are ∙ length-map (log_wants block marks 0 log) f ∙ wants_len block marks 0 log;
  are = ap (by_part log) are ∙ slots_are f refl block marks 0 log
      ∙ map_same (got f refl block marks 0 log) (block_anew blocks block log marks) 0 0 (part_total log) each;
} where
  marks : List Mark
  marks = marks_anew living block log

  f : Option ℕ → Option BlockValue
  f = option_and_then (block_by blocks)

  inward : (b : Bool) (o : Option ℕ) → f (cond b o None) ≡ cond b (f o) None
  inward true o = refl
  inward false o = refl

  each : (i : ℕ) → i < part_total log → got f refl block marks 0 log (0 + i) ≡ block_anew blocks block log marks (0 + i)
  each i lt =
      let n = 0 + i in
      let z : 0 + n ≡ n = omega arith in
      ap (λ (k : ℕ). f (cond (is_there (mark_at marks k)) (page_block block log n) None)) z
      ∙ inward (is_there (mark_at marks n)) (page_block block log n)
