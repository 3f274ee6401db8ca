-- What appending, publishing, retiring and releasing leave of a cell's parts at the end of an earlier epoch.
use Rattle.std.proofs.Common.{◌≡◌, ℕ, zero, suc, ◌-◌, ◌<◌, ◌≤◌, ◌||◌, ◌++◌, ◌∙◌, Bool, true, false, if◌then◌else◌, List, [], ◌∷◌, nat_lt, Option, Some, None, ap, arith, refl, subst, sym}
use Rattle.std.specs.List.{AllByRecursion, Contains}
use Rattle.std.specs.Prelude.{nat_le, slice_get, slice_index_or, slice_set}
use Rattle.std.specs.Option.{option_map}
use Rattle.std.proofs.lemmas.Bool.{and_from, le-leb, lt-ltb, ltb-false, ltb-true, true≢false}
use Rattle.std.proofs.lemmas.Option.{same_Some}
use Rattle.nv_calls.specs.Retiring.{keeper_of, retired, retired_one, settled as settled_part}
use Rattle.nv_cell.specs.Cell.{CellState, mark_or_fresh, number_in, with_mark, without_part}
use Rattle.nv_cell.specs.Marks.{is_there}
use Rattle.nv_cell.specs.Numbers.{killed_part}
use Rattle.nv_cell.proofs.NamedParts.{pair_first, pair_later}
use Rattle.nv_cell.specs.declared.killed.KilledPart.{KilledPart}
use Rattle.nv_cell.specs.declared.mark.Mark.{Mark}
use Rattle.nv_cell.specs.declared.mark.Mark.TheVariants.{Kept, Out}
use Rattle.nv_entry.specs.Covered.{any_cover, is_covered, part_count, part_key, part_total}
use Rattle.nv_entry.specs.Keys.{Key, covers, key_of, parts_of}
use Rattle.nv_entry.specs.Later.{AreAfter}
use Rattle.nv_entry.specs.Log.{IsLog, first_cover, pair_of, pairs}
use Rattle.nv_entry.specs.declared.held.Pair.{Pair}
use Rattle.nv_entry.specs.declared.item.Entry.{Entry}
use Rattle.nv_entry.specs.declared.part.Part.{Part}
use Rattle.nv_entry.specs.declared.part.Part.TheVariants as part
use Rattle.nv_epoch.specs.Holders.{holds}
use Rattle.nv_epoch.proofs.Last.{none_passes}
use Rattle.nv_machine.proofs.EpochLogs.{IsHeldAt, born_by, log_at, splits, up_to_within}

slice_get_or : {X : Type 0} (xs : List X) (n : ℕ) (d x : X) → slice_get xs n ≡ Some x → slice_index_or xs n d ≡ x
slice_get_or [] n d x is = cc
slice_get_or (y ∷ xs) zero d x is = same_Some y x is
slice_get_or (y ∷ xs) (suc n) d x is = slice_get_or xs n d x is

-- ---- one mark is another

mark_set : (xs : List Mark) (n m : ℕ) (x : Mark) (P : Mark → Type 0) → (n ≡ m → P x) → P (mark_or_fresh xs m)
    → P (mark_or_fresh (slice_set xs n x) m)
mark_set [] n m x P here there = there
mark_set (y ∷ xs) zero zero x P here there = here refl
mark_set (y ∷ xs) zero (suc m) x P here there = there
mark_set (y ∷ xs) (suc n) zero x P here there = there
mark_set (y ∷ xs) (suc n) (suc m) x P here there = mark_set xs n m x P (λ e. here (ap suc e)) there

abbrev There : Mark → Type 0
There m = is_there m ≡ true

-- a part is kept
kept_held : (epoch n : ℕ) (cell : CellState) → IsHeldAt epoch cell → IsHeldAt epoch (with_mark cell n Kept)
kept_held epoch n cell held m low unc = mark_set cell.marks n m Kept There (λ e. refl) (held m low unc)

-- a part goes out that the epoch's log has not, or has covered
pub out_held : (epoch n : ℕ) (cell : CellState)
    → (n < part_total (log_at epoch cell) → is_covered cell.block (log_at epoch cell) n ≡ false → ⊥)
    → IsHeldAt epoch cell → IsHeldAt epoch (without_part cell n)
out_held epoch n cell never held m low unc =
    mark_set cell.marks n m Out There
    (λ e. absurd (never (omega (arith, low, e)) (subst (λ (k : ℕ). is_covered cell.block (log_at epoch cell) k ≡ false) (sym e) unc)))
    (held m low unc)

-- ---- retire

-- these parts are those of the log that they name, with their births
abbrev pub AreParts : CellState → List KilledPart → Type 0
AreParts cell parts = AllByRecursion (λ (k : KilledPart). killed_part cell.chain.entries (number_in cell k.part) ≡ Some k) parts

still_parts : (keeper : Option ℕ) (n : ℕ) (cell : CellState) (parts : List KilledPart) → AreParts cell parts
    → AreParts (settled_part keeper n cell) parts
still_parts None n cell parts h = h
still_parts (Some s) n cell parts h = h

still_log : (keeper : Option ℕ) (n : ℕ) (cell : CellState) → IsLog cell.chain.entries → IsLog (settled_part keeper n cell).chain.entries
still_log None n cell h = h
still_log (Some s) n cell h = h

-- a part that was born by a living snapshot has a holder, where it dies after that
has_holder : (living : List ℕ) (epoch ino death : ℕ) (k : KilledPart) → Contains living epoch → k.birth ≤ epoch → epoch < death
    → keeper_of living ino death k ≡ None → ⊥
has_holder living epoch ino death k lives born dies none =
    true≢false (sym (and_from (nat_le k.birth epoch) (nat_lt epoch death) (le-leb k.birth epoch born) (lt-ltb epoch death dies))
    ∙ (none_passes (holds k.birth death) living none).fails epoch lives)

pub one_held : (living : List ℕ) (epoch ino death : ℕ) (k : KilledPart) (cell : CellState) → Contains living epoch → epoch < death
    → IsLog cell.chain.entries → killed_part cell.chain.entries (number_in cell k.part) ≡ Some k → IsHeldAt epoch cell
    → IsHeldAt epoch (retired_one living ino death k cell)
one_held living epoch ino death k cell lives lt is part held = go (keeper_of living ino death k) refl where
  n : ℕ
  n = number_in cell k.part

  go : (keeper : Option ℕ) → keeper_of living ino death k ≡ keeper → IsHeldAt epoch (settled_part keeper n cell)
  go (Some s) q = kept_held epoch n cell held
  go None q = out_held epoch n cell never held where
    never : n < part_total (log_at epoch cell) → is_covered cell.block (log_at epoch cell) n ≡ false → ⊥
    never low unc =
        let s = splits epoch cell.chain.entries is in
        has_holder living epoch ino death k lives
        (born_by epoch (log_at epoch cell) s.rest n k (up_to_within epoch cell.chain.entries) low
        (ap (λ (es : List Entry). killed_part es n) s.is ∙ part)) lt q

pub retired_held : (living : List ℕ) (epoch ino death : ℕ) (parts : List KilledPart) (cell : CellState) → Contains living epoch
    → epoch < death → IsLog cell.chain.entries → AreParts cell parts → IsHeldAt epoch cell
    → IsHeldAt epoch (retired living ino death parts cell)
retired_held living epoch ino death [] cell lives lt is all held = held
retired_held living epoch ino death (k ∷ parts) cell lives lt is all held =
    let keeper = keeper_of living ino death k in
    retired_held living epoch ino death parts (retired_one living ino death k cell) lives lt
    (still_log keeper (number_in cell k.part) cell is) (still_parts keeper (number_in cell k.part) cell parts all.1)
    (one_held living epoch ino death k cell lives lt is all.0 held)

-- ---- release

-- a cover stands among later entries
any_later : (block epoch : ℕ) (rest : List Entry) (key : Key) (death : ℕ) → AreAfter epoch rest → first_cover block rest key ≡ Some death
    → epoch < death
any_later block epoch [] key death after is = cc
any_later block epoch (e ∷ rest) key death after is =
    go (covers block e.item key) is (λ q. any_later block epoch rest key death after.1 q)
  where
    go : (b : Bool) → (if b then Some e.epoch else first_cover block rest key) ≡ Some death
        → (first_cover block rest key ≡ Some death → epoch < death) → epoch < death
    go true q rec = let same = same_Some e.epoch death q in let lt = after.0 in omega (arith, lt, same)
    go false q rec = rec q

cover_later : (block epoch : ℕ) (log rest : List Entry) (key : Key) (death : ℕ) → any_cover block log key ≡ false → AreAfter epoch rest
    → first_cover block (log ++ rest) key ≡ Some death → epoch < death
cover_later block epoch [] rest key death none after is = any_later block epoch rest key death after is
cover_later block epoch (e ∷ log) rest key death none after is =
    go (covers block e.item key) none is (λ q u. cover_later block epoch log rest key death q after u)
  where
    go : (b : Bool) → (b || any_cover block log key) ≡ false
        → (if b then Some e.epoch else first_cover block (log ++ rest) key) ≡ Some death
        → (any_cover block log key ≡ false → first_cover block (log ++ rest) key ≡ Some death → epoch < death) → epoch < death
    go true q u rec = cc
    go false q u rec = rec q u

-- a pair whose part the epoch's log has and has not covered was born by then and dies later
pub spans : (block epoch : ℕ) (log rest : List Entry) (n death : ℕ) (pair : Pair) → AllByRecursion (λ (e : Entry). e.epoch ≤ epoch) log
    → AreAfter epoch rest → n < part_total log → is_covered block log n ≡ false → slice_get (pairs block (log ++ rest)) n ≡ Some pair
    → pair.death ≡ Some death → (pair.birth ≤ epoch) × (epoch < death)
spans block epoch [] rest n death pair all after lt unc is dies = absurd (omega (arith, lt))
spans block epoch (e ∷ log) rest n death pair all after lt unc is dies =
    go (nat_lt n (part_count e)) refl unc
    (λ low q u. spans block epoch log rest (n - part_count e) death pair all.1 after low q u dies)
  where
    own : (p : Part) → slice_get (parts_of e.item) n ≡ Some p → slice_index_or (parts_of e.item) n part.Kind ≡ p
        → any_cover block log (part_key e n) ≡ false → pair_of block e (log ++ rest) p ≡ pair → (pair.birth ≤ epoch) × (epoch < death)
    own p got same none one = (
      (let le = all.0 in let at = ap (λ (q : Pair). q.birth) one in omega (arith, le, at)),
      cover_later block epoch log rest (key_of e.item p) death
          (subst (λ (q : Part). any_cover block log (key_of e.item q) ≡ false) same none) after
          (ap (λ (q : Pair). q.death) one ∙ dies),
    )

    at : (o : Option Part) → slice_get (parts_of e.item) n ≡ o → any_cover block log (part_key e n) ≡ false
        → option_map (pair_of block e (log ++ rest)) o ≡ Some pair → (pair.birth ≤ epoch) × (epoch < death)
    at None got none q = cc
    at (Some p) got none q = own p got (slice_get_or (parts_of e.item) n part.Kind p got) none (same_Some _ pair q)

    go : (b : Bool) → nat_lt n (part_count e) ≡ b
        → (if b then any_cover block log (part_key e n) else is_covered block log (n - part_count e)) ≡ false
        → (n - part_count e < part_total log → is_covered block log (n - part_count e) ≡ false
        → slice_get (pairs block (log ++ rest)) (n - part_count e) ≡ Some pair → (pair.birth ≤ epoch) × (epoch < death))
        → (pair.birth ≤ epoch) × (epoch < death)
    go true q none rec =
        at (slice_get (parts_of e.item) n) refl none (sym (pair_first block e (log ++ rest) n (ltb-true n (part_count e) q)) ∙ is)
    go false q none rec =
        let ge = ltb-false n (part_count e) q in
        rec (omega (arith, lt, ge)) none (sym (pair_later block e (log ++ rest) n ge) ∙ is)
