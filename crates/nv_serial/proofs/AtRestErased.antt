-- Where nothing runs, no slot has an inode that is gone and of which nothing is kept: erasing
-- leaves the world with numbers as it is.
use Rattle.std.proofs.Common.{◌≡◌, ℕ, suc, ◌+◌, ◌<◌, ◌||◌, ◌∙◌, Bool, true, false, List, [], ◌∷◌, ap, arith, if◌then◌else◌, length, map, refl, slice_index_or, subst, sym}
use Rattle.std.specs.Prelude.{not}
use Rattle.std.specs.List.{AllByRecursion, list_any, range_with_len}
use Rattle.std.proofs.lemmas.Bool.{and_parts, false≢true}
use Rattle.nv_base.specs.declared.geometry.GeometryNumbers.{GeometryNumbers}
use Rattle.nv_book.specs.declared.record.Record.{Record}
use Rattle.nv_cell.specs.Cell.{CellState}
use Rattle.nv_cell.specs.Readers.{is_gone}
use Rattle.nv_entry.specs.Held.{Retention, keeps}
use Rattle.nv_entry.specs.Log.{pairs}
use Rattle.nv_entry.specs.declared.held.Pair.{Pair}
use Rattle.nv_entry.specs.declared.item.Entry.{Entry}
use Rattle.nv_machine.specs.Erasing.{IsOver, keepers_of}
use Rattle.nv_machine.specs.Held.{pending_in}
use Rattle.nv_machine.specs.Settled.{settled}
use Rattle.nv_machine.specs.Starts.{IsStart}
use Rattle.nv_machine.specs.World.{World, cell_at}
use Rattle.nv_machine.proofs.ErasingLaw.{none_stays}
use Rattle.nv_serial.specs.Committed.{erased, is_over, left_in}
use Rattle.nv_serial.specs.Serial.{NumberedSlot, Serial, keepers, log_in, no_slot, slot_of}
use Rattle.nv_serial.proofs.AtRestLogs.{living_is, log_is, names_are, slots_many, told_by}
use Rattle.nv_serial.proofs.AtRestNodes.{settled_is}

-- a test that none of a list passes
pub none_pass : {X : Type 0} (p : X → Bool) (xs : List X) → list_any p xs ≡ false
    → AllByRecursion (λ x. p x ≡ false) xs
none_pass p [] none = tt
none_pass {X} p (x ∷ xs) none = go (p x) refl none (none_pass p xs) where
  go : (b : Bool) → p x ≡ b → (b || list_any p xs) ≡ false
      → (list_any p xs ≡ false → AllByRecursion (λ x. p x ≡ false) xs)
      → AllByRecursion (λ x. p x ≡ false) (x ∷ xs)
  go true is none more = absurd (false≢true (sym none))
  go false is none more = (is, more none)

not_true : (b : Bool) → not b ≡ true → b ≡ false
not_true true e = absurd (false≢true e)
not_true false e = refl

-- a list told place by place
pub each_place : (f : ℕ → NumberedSlot) (from : ℕ) (slots : List NumberedSlot)
    → ((i : ℕ) → i < length slots → f (from + i) ≡ slice_index_or slots i no_slot)
    → map f (range_with_len from (length slots)) ≡ slots
each_place f from [] same = refl
each_place f from (slot ∷ slots) same =
    let here : from + 0 ≡ from = omega arith in
    let first : f from ≡ slot = ap f (sym here) ∙ same 0 (omega arith) in
    ap (λ (x : NumberedSlot). x ∷ map f (range_with_len (from + 1) (length slots))) first
    ∙ ap (λ (xs : List NumberedSlot). slot ∷ xs)
    (each_place f (from + 1) slots (λ i lt. let next : from + 1 + i ≡ from + suc i = omega arith in
    ap f next ∙ same (suc i) (omega (arith, lt))))

module _ (g : GeometryNumbers) (w : World) (rs : List Record) (is : IsStart g w rs) where
  abbrev s : Serial
  s = told_by g w rs

  -- what is over by the world with numbers is over by the machine
  over_there : (ino : ℕ) → ino < g.inodes → is_over s ino ≡ true → IsOver (pending_in w) w.shared
      ino
  over_there ino lt over =
      let parts = and_parts (is_gone (log_in s ino)) _ over in
      let cell : CellState = cell_at w.shared ino in
      let log : log_in s ino ≡ settled w.shared ino = log_is g w rs is ino
      ∙ sym (settled_is g w rs is ino) in
      let size : g.block ≡ cell.block = sym (is.sizes ino lt) in
      let kept : keepers s ino ≡ keepers_of (pending_in w) w.shared ino =
      (let names = names_are g w rs is ino in
      let living = living_is g w rs is in
      λ i. record { block = size i; snapshots = living i; pending = names i }) in
      record {
        gone = sym (ap is_gone log) ∙ parts.0;
        kept =
            subst (λ (r : Retention). AllByRecursion (λ (pair : Pair). keeps r pair ≡ false)
            (pairs cell.block (settled w.shared ino))) kept
            (subst (λ (block : ℕ). AllByRecursion (λ (pair : Pair). keeps (keepers s ino) pair
            ≡ false) (pairs block (settled w.shared ino))) size
            (subst (λ (es : List Entry). AllByRecursion (λ (pair : Pair). keeps (keepers s ino) pair
            ≡ false) (pairs g.block es)) log
            (none_pass (keeps (keepers s ino)) (pairs g.block (log_in s ino))
            (not_true _ parts.1))));
      }

  pub not_over : (ino : ℕ) → ino < g.inodes → is_over s ino ≡ false
  not_over ino lt = go (is_over s ino) refl where
    go : (b : Bool) → is_over s ino ≡ b → b ≡ false
    go true over = absurd (none_stays g w rs [] ino is is.uncommitted (over_there ino lt over))
    go false over = refl

  pub left_is : (ino : ℕ) → ino < g.inodes → left_in s ino ≡ slot_of s ino
  left_is ino lt =
      ap (λ (b : Bool). if b then record { generation = (slot_of s ino).generation + 1; pages = [] }
      else slot_of s ino) (not_over ino lt)

  -- ERASING at rest leaves all as it is
  pub erased_is : erased s ≡ s
  erased_is = ap (λ (slots : List NumberedSlot). let t : Serial = record s { slots = slots } in t)
      (each_place (left_in s) 0 s.slots
      (λ i lt. let zeroth : 0 + i ≡ i = omega arith in
      ap (left_in s) zeroth ∙ left_is i (omega (arith, lt, slots_many g w rs is))))
