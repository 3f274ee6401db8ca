-- The slot that a cell finds for a part.
use Rattle.std.proofs.Common.{◌≡◌, ℕ, suc, ◌+◌, ◌-◌, ◌<◌, ◌≤◌, Bool, true, false, cond, nat_lt, List, [], ◌∷◌, ◌++◌, length, length-append, take, drop, append_assoc, Option, Some, None, arith, refl, ap, sym, ◌∙◌, subst, slice_index_or, slice_set}
use Rattle.std.specs.Prelude.{option_and_then, unwrap_or}
use Rattle.std.specs.Option.{IfSome}
use Rattle.std.proofs.lemmas.Bool.{ltb-false, ltb-true}
use Rattle.std.proofs.lemmas.Option.{slice_get_within}
use Rattle.std.proofs.lemmas.List.{get_or_default, length-set, set-get_or, take-append-drop}
use Rattle.nv_alloc.specs.Block.{BlockValue}
use Rattle.nv_entry.specs.declared.item.Entry.{Entry}
use Rattle.nv_entry.specs.declared.part_ref.PartRef.{PartRef}
use Rattle.nv_entry.specs.Covered.{part_count}
use Rattle.nv_entry.specs.Keys.{Key, parts_of}
use Rattle.nv_entry.specs.Log.{IsLog}
use Rattle.nv_entry.specs.Refs.{scan_ref}
use Rattle.nv_entry.proofs.Refs.{to_current}
use Rattle.nv_log.specs.Chain.{place_of_id}
use Rattle.nv_cell.specs.declared.cell.InodeCell.TheInside.{Inside}
use Rattle.nv_cell.specs.declared.number.NumberedPart.{NumberedPart}
use Rattle.nv_cell.specs.Fields.{AreFields}
use Rattle.nv_cell.specs.Numbers.{StandsIn, number, part_base}
use Rattle.nv_cell.specs.Slots.{by_part, emptied, slot, slot_base, slot_total}
use Rattle.nv_cell.specs.Tallies.{first_slot, start_at}
use Rattle.nv_cell.proofs.Cells.{base_next}
use Rattle.nv_cell.proofs.FirstSlots.{first_slots}
use Rattle.nv_cell.proofs.Numbers.{at_split, place_split}
use Rattle.nv_cell.proofs.Publishes.{first_base}
use Rattle.nv_cell.proofs.Slots.{block_at_slot, slot_leaves, slot_within}
use Rattle.nv_cell.proofs.Tallies.{few_slots}

-- this is the slot of the part n, if it has one
pub record IsSlotOf (es : List Entry) (slots : List (Option BlockValue)) (n : ℕ) (o : Option ℕ) : Type 0 where
  pub reads : option_and_then (λ k. slice_index_or slots k None) o ≡ slice_index_or (by_part es slots) n None
  pub within : IfSome o (λ k. k < length slots)
  pub leaves : by_part es (emptied slots o) ≡ slice_set (by_part es slots) n None
  pub len : length (emptied slots o) ≡ length slots

pub is_slot_of : (es : List Entry) (slots : List (Option BlockValue)) (p : NumberedPart) (start first : ℕ) (o : Option ℕ) → StandsIn es p
    → start ≡ part_base es p.entry → first ≡ slot_base es p.entry → length slots ≡ slot_total es
    → o ≡ cond (nat_lt start p.number) (Some (first + (p.number - start - 1))) None → IsSlotOf es slots p.number o
is_slot_of [] slots p start first o h start_is first_is len o_is = absurd (omega (arith, h.within))
is_slot_of (x ∷ xs) slots p start first o h start_is first_is len o_is = go (nat_lt start n) refl where
  es : List Entry
  es = x ∷ xs

  n : ℕ
  n = p.number

  i : ℕ
  i = p.entry

  e : Entry
  e = slice_index_or es i x

  is : e ≡ slice_index_or es i e
  is = get_or_default es i x e h.within

  count : part_base es (i + 1) ≡ part_base es i + part_count e
  count = base_next es i e h.within is

  fits : slot_total es ≤ length slots
  fits = omega (arith, len)

  go : (b : Bool) → nat_lt start n ≡ b → IsSlotOf es slots n o
  go true q =
      let lt : start < n = ltb-true start n q in
      let k = n - start - 1 in
      let at : o ≡ Some (first + k) = o_is ∙ ap (λ (b : Bool). cond b (Some (first + k)) None) q in
      let place : first + k ≡ slot_base es i + k = omega (arith, first_is) in
      let here : part_base es i + suc k ≡ n = omega (arith, start_is, lt) in
      let within : suc k < part_count e = omega (arith, here, count, h.end) in
      let block = block_at_slot es slots i (suc k) e h.within is within fits in
      let leaves = slot_leaves es slots i k e None h.within is within fits in
      record {
        reads = ap (option_and_then (λ m. slice_index_or slots m None)) (at ∙ ap Some place) ∙ sym block
            ∙ ap (λ m. slice_index_or (by_part es slots) m None) here;
        within = rw at (omega (arith, place, slot_within es i k e h.within is within, fits));
        leaves = ap (λ q. by_part es (emptied slots q)) (at ∙ ap Some place) ∙ leaves ∙ ap (λ m. slice_set (by_part es slots) m None) here;
        len = ap (λ q. length (emptied slots q)) at ∙ length-set slots (first + k) None;
      }
  go false q =
      let none : o ≡ None = o_is ∙ ap (λ (b : Bool). cond b (Some (first + (n - start - 1))) None) q in
      let here : part_base es i + 0 ≡ n = omega (arith, start_is, ltb-false start n q, h.start) in
      let some : 0 < part_count e = omega (arith, here, count, h.end) in
      let block : slice_index_or (by_part es slots) n None ≡ None =
      ap (λ m. slice_index_or (by_part es slots) m None) (sym here) ∙ block_at_slot es slots i 0 e h.within is some fits in
      record {
        reads = ap (option_and_then (λ k. slice_index_or slots k None)) none ∙ sym block;
        within = rw none tt;
        leaves = ap (λ q. by_part es (emptied slots q)) none ∙ sym (ap (slice_set (by_part es slots) n) (sym block)
            ∙ set-get_or (by_part es slots) n None);
        len = ap (λ q. length (emptied slots q)) none;
      }

-- ---- the slot of a part that a scan finds

at_entry : (pre : List Entry) (e : Entry) (post : List Entry) (r : PartRef) (slots : List (Option BlockValue)) → IsLog (pre ++ e ∷ post)
    → e.id ≡ r.entry → r.place < part_count e → 0 < r.place → length slots ≡ slot_total (pre ++ e ∷ post)
    → slice_index_or slots (slot (pre ++ e ∷ post) r) None
    ≡ slice_index_or (by_part (pre ++ e ∷ post) slots) (number (pre ++ e ∷ post) r) None
at_entry pre e post r slots is id_is low some len =
    let es = pre ++ e ∷ post in
    let at : unwrap_or (place_of_id es r.entry) 0 ≡ length pre =
    ap (λ id. unwrap_or (place_of_id es id) 0) (sym id_is) ∙ ap (λ o. unwrap_or o 0) (place_split pre e post is) in
    let within : length pre < length es = omega (arith, length-append pre (e ∷ post)) in
    let k = r.place - 1 in
    let up : suc k ≡ r.place = omega (arith, some) in
    let n : part_base es (length pre) + suc k ≡ number es r = omega (arith, up, ap (part_base es) at) in
    ap (λ i. slice_index_or slots (slot_base es i + k) None) at
    ∙ sym (block_at_slot es slots (length pre) (suc k) e within (sym (at_split pre e post e)) (omega (arith, up, low)) (omega (arith, len)))
    ∙ ap (λ m. slice_index_or (by_part es slots) m None) n

pub scanned_slot : (block : ℕ) (es : List Entry) (t : ℕ) (key : Key) (r : PartRef) (slots : List (Option BlockValue)) → IsLog es
    → scan_ref block (take t es) key ≡ Some r → 0 < r.place → length slots ≡ slot_total es
    → slice_index_or slots (slot es r) None ≡ slice_index_or (by_part es slots) (number es r) None
scanned_slot block es t key r slots is found some len =
    let c = to_current block (take t es) key r found in
    let split : es ≡ c.before ++ c.entry ∷ (c.later ++ drop t es) =
    sym (take-append-drop t es) ∙ ap (λ xs. xs ++ drop t es) c.log_is ∙ append_assoc c.before (c.entry ∷ c.later) (drop t es) in
    subst (λ xs. slice_index_or slots (slot xs r) None ≡ slice_index_or (by_part xs slots) (number xs r) None) (sym split)
    (at_entry c.before c.entry (c.later ++ drop t es) r slots (subst IsLog split is) c.id
    (slice_get_within (parts_of c.entry.item) r.place c.part c.place) some (len ∙ ap slot_total split))

-- ---- the slot that a cell finds

-- each entry's parts begin where the entry before it ends
pub parts_begin : (i : Inside) → AreFields i → (k : ℕ) → k < i.chain.state.tail
    → start_at i.marks.ends.items k ≡ part_base i.chain.state.entries k
parts_begin i inv = first_base i.marks.ends.items i.chain.state.entries i.chain.state.tail inv.ends

-- each entry's slots begin where its tally says
pub slots_begin : (i : Inside) → AreFields i → (k : ℕ) → k < i.chain.state.tail
    → first_slot i.marks.tallies.items k ≡ slot_base i.chain.state.entries k
slots_begin i inv k lt =
    first_slots i.marks.tallies.items i.marks.ends.items i.marks.marks.items i.chain.state.entries i.chain.state.tail
    inv.tallied.tallies inv.ends_len inv.ends k (omega (arith, lt))

module _ (i : Inside) (inv : AreFields i) (p : NumberedPart) (low : p.entry < i.chain.state.tail) where
  start : start_at i.marks.ends.items p.entry ≡ part_base i.chain.state.entries p.entry
  start = parts_begin i inv p.entry low

  first : first_slot i.marks.tallies.items p.entry ≡ slot_base i.chain.state.entries p.entry
  first = slots_begin i inv p.entry low

  -- slots are no more than parts
  pub few_found : first_slot i.marks.tallies.items p.entry ≤ start_at i.marks.ends.items p.entry
  few_found = few_slots i.marks.tallies.items i.marks.ends.items i.marks.marks.items inv.tallied.tallies p.entry
      (omega (arith, low, inv.ends_len))

  pub slot_found : StandsIn i.chain.state.entries p → (o : Option ℕ)
      → o ≡ cond (nat_lt (start_at i.marks.ends.items p.entry) p.number) (Some (first_slot i.marks.tallies.items p.entry
      + (p.number - start_at i.marks.ends.items p.entry - 1))) None
      → IsSlotOf i.chain.state.entries i.blocks.items p.number o
  slot_found h o is =
      is_slot_of i.chain.state.entries i.blocks.items p (start_at i.marks.ends.items p.entry) (first_slot i.marks.tallies.items p.entry) o h
      start first inv.slots is
