-- What a publish kills, and what is left of it while its parts are retired or released.
use Rattle.std.proofs.Common.{◌≡◌, ℕ, zero, suc, ◌+◌, ◌<◌, ◌≤◌, Bool, true, false, List, [], ◌∷◌, ◌++◌, length, map, Option, Some, None, arith, refl, ap, sym, ◌∙◌, subst, filter, slice_get, slice_set, slice_index_or}
use Rattle.std.specs.Prelude.{option_and_then, option_to_list}
use Rattle.std.specs.List.{AllByRecursion, flat_map, range_with_len}
use Rattle.std.proofs.lemmas.List.Concat.{flat_map-cons}
use Rattle.std.proofs.lemmas.Option.{same_Some}
use Rattle.nv_entry.specs.declared.item.Entry.{Entry}
use Rattle.nv_entry.specs.declared.part.PartId.{PartId}
use Rattle.nv_entry.specs.Covered.{part_total}
use Rattle.nv_entry.specs.Log.{IsLog}
use Rattle.nv_cell.specs.declared.killed.KilledPart.{KilledPart}
use Rattle.nv_cell.specs.declared.mark.Mark.{Mark}
use Rattle.nv_cell.specs.declared.mark.Mark.TheVariants.{Killed, Out}
use Rattle.nv_cell.specs.Cell.{CellState, killed_of, log_of, mark_named, number_in, published, with_mark, without_part}
use Rattle.nv_cell.specs.Killed.{AreKilled, IsMarkedAnew, IsWithoutBlock}
use Rattle.nv_cell.specs.Named.{number_named}
use Rattle.nv_cell.specs.Numbers.{dies, killed_part, published_mark}
use Rattle.nv_cell.proofs.NamedParts.{number_told, told_once}
use Rattle.nv_cell.proofs.Publishing.{take_whole}
use Rattle.nv_cell.proofs.Remarking.{marked}

-- ---- one place of a list

set_own : {X : Type 0} (xs : List X) (n : ℕ) (x : X) → n < length xs → slice_get (slice_set xs n x) n ≡ Some x
set_own [] n x lt = absurd (omega arith)
set_own (y ∷ xs) zero x lt = refl
set_own (y ∷ xs) (suc n) x lt = set_own xs n x (omega (arith, lt))

set_other : {X : Type 0} (xs : List X) (n k : ℕ) (x : X) → (n ≡ k → ⊥) → slice_get (slice_set xs n x) k ≡ slice_get xs k
set_other [] n k x apart = refl
set_other (y ∷ xs) zero zero x apart = absurd (apart refl)
set_other (y ∷ xs) zero (suc k) x apart = refl
set_other (y ∷ xs) (suc n) zero x apart = refl
set_other (y ∷ xs) (suc n) (suc k) x apart = set_other xs n k x (λ same. apart (ap suc same))

empty_own : {X : Type 0} (xs : List (Option X)) (n : ℕ) → slice_index_or (slice_set xs n None) n None ≡ None
empty_own [] n = refl
empty_own (y ∷ xs) zero = refl
empty_own (y ∷ xs) (suc n) = empty_own xs n

empty_other : {X : Type 0} (xs : List (Option X)) (n k : ℕ) → (n ≡ k → ⊥)
    → slice_index_or (slice_set xs n None) k None ≡ slice_index_or xs k None
empty_other [] n k apart = refl
empty_other (y ∷ xs) zero zero apart = absurd (apart refl)
empty_other (y ∷ xs) zero (suc k) apart = refl
empty_other (y ∷ xs) (suc n) zero apart = refl
empty_other (y ∷ xs) (suc n) (suc k) apart = empty_other xs n k (λ same. apart (ap suc same))

-- ---- one part of another mark

-- what is found by a name is found by no other
apart_by : {X : Type 0} (log : List Entry) (id other : PartId) (n : ℕ) (old new : ℕ → Option X) → number_named log id ≡ Some n
    → (other ≡ id → ⊥)
    → ((k : ℕ) → (n ≡ k → ⊥) → new k ≡ old k)
    → option_and_then new (number_named log other) ≡ option_and_then old (number_named log other)
apart_by {X = X} log id other n old new p apart same = go (number_named log other) refl where
  go : (o : Option ℕ) → number_named log other ≡ o → option_and_then new o ≡ option_and_then old o
  go None q = refl
  go (Some k) q = same k (λ e. apart (told_once log other id k q (p ∙ ap Some e)))

pub marked_anew : (cell : CellState) (id : PartId) (was mark : Mark) → mark_named cell id ≡ Some was
    → IsMarkedAnew id mark cell (with_mark cell (number_in cell id) mark)
marked_anew cell id was mark h =
    let m = marked cell id was h in
    let n = number_in cell id in
    record {
      own = ap (option_and_then (λ k. slice_get (slice_set cell.marks n mark) k)) m.number ∙ set_own cell.marks n mark m.within;
      others = λ other apart.
          apart_by (log_of cell) id other n (λ k. slice_get cell.marks k) (λ k. slice_get (slice_set cell.marks n mark) k) m.number apart
          (λ k differ. set_other cell.marks n k mark differ);
    }

-- the same where it goes out
pub gone_out : (cell : CellState) (id : PartId) (was : Mark) → mark_named cell id ≡ Some was
    → IsMarkedAnew id Out cell (without_part cell (number_in cell id))
gone_out cell id was h = let m = marked_anew cell id was Out h in record { own = m.own; others = m.others }

pub without_block : (cell : CellState) (id : PartId) (was : Mark) → mark_named cell id ≡ Some was
    → IsWithoutBlock id cell (without_part cell (number_in cell id))
without_block cell id was h =
    let m = marked cell id was h in
    let n = number_in cell id in
    record {
      own = ap (option_and_then (λ k. slice_index_or (slice_set cell.blocks n None) k None)) m.number ∙ empty_own cell.blocks n;
      others = λ other apart.
          apart_by (log_of cell) id other n (λ k. slice_index_or cell.blocks k None)
          (λ k. slice_index_or (slice_set cell.blocks n None) k None)
          m.number apart (λ k differ. empty_other cell.blocks n k differ);
    }

-- ---- the others of a list stay killed

pub others_killed : (id : PartId) (mark : Mark) (later : List PartId) (old new : CellState) → IsMarkedAnew id mark old new
    → AreKilled (id ∷ later) old → AreKilled later new
others_killed id mark later old new anew h = go later h.1 h.2 where
  go : (ids : List PartId) → AllByRecursion (λ other. other ≡ id → ⊥) ids → AreKilled ids old → AreKilled ids new
  go [] apart all = tt
  go (other ∷ ids) apart all = (anew.others other apart.0 ∙ all.0, all.1, go ids apart.1 all.2)

-- ---- what a publish kills

-- the number of a part is no less
pub record IsFrom (log : List Entry) (low : ℕ) (id : PartId) : Type 0 where
  pub number : ℕ
  pub named : number_named log id ≡ Some number
  pub from : low ≤ number

lower : (log : List Entry) (low : ℕ) (ids : List PartId) → AllByRecursion (IsFrom log (low + 1)) ids → AllByRecursion (IsFrom log low) ids
lower log low [] all = tt
lower log low (id ∷ ids) all =
    (record { number = all.0.number; named = all.0.named; from = omega (arith, all.0.from) }, lower log low ids all.1)

apart_from : (log : List Entry) (low : ℕ) (id : PartId) (ids : List PartId) → number_named log id ≡ Some low
    → AllByRecursion (IsFrom log (low + 1)) ids
    → AllByRecursion (λ other. other ≡ id → ⊥) ids
apart_from log low id [] named all = tt
apart_from log low id (other ∷ ids) named all = (differ, apart_from log low id ids named all.1) where
  differ : other ≡ id → ⊥
  differ same =
      let e : all.0.number ≡ low = same_Some all.0.number low (sym all.0.named ∙ ap (number_named log) same ∙ named) in
      omega (arith, e, all.0.from)

-- the parts of the numbers of a range that pass a test, all of them killed
pub killed_from : (cell : CellState) (test : ℕ → Bool) (low len : ℕ) (ks : List KilledPart) → IsLog (log_of cell)
    → map Some ks ≡ map (killed_part (log_of cell)) (filter test (range_with_len low len))
    → ((n : ℕ) → n < low + len → test n ≡ true → slice_get cell.marks n ≡ Some Killed)
    → AreKilled (map (λ k. k.part) ks) cell × AllByRecursion (IsFrom (log_of cell) low) (map (λ k. k.part) ks)
killed_from cell test low zero [] is told killed = (tt, tt)
killed_from cell test low zero (k ∷ ks) is told killed = cc
killed_from cell test low (suc len) ks is told killed =
    go (test low) refl (λ rest r. killed_from cell test (low + 1) len rest is r (λ n lt. killed n (omega (arith, lt)))) where
      one : (rest : List KilledPart) → ks ≡ rest → test low ≡ true
          → map Some rest ≡ killed_part (log_of cell) low ∷ map (killed_part (log_of cell)) (filter test (range_with_len (low + 1) len))
          → ((others : List KilledPart) → map Some others ≡ map (killed_part (log_of cell)) (filter test (range_with_len (low + 1) len))
          → AreKilled (map (λ k. k.part) others) cell × AllByRecursion (IsFrom (log_of cell) (low + 1)) (map (λ k. k.part) others))
          → AreKilled (map (λ k. k.part) rest) cell × AllByRecursion (IsFrom (log_of cell) low) (map (λ k. k.part) rest)
      one [] same q r rec = cc
      one (k ∷ others) same q r rec =
          let first : Some k ≡ killed_part (log_of cell) low = cc in
          let tail : map Some others ≡ map (killed_part (log_of cell)) (filter test (range_with_len (low + 1) len)) = cc in
          let number : number_named (log_of cell) k.part ≡ Some low = number_told (log_of cell) low k is (sym first) in
          let mark : mark_named cell k.part ≡ Some Killed =
          ap (option_and_then (λ n. slice_get cell.marks n)) number ∙ killed low (omega arith) q in
          let later = rec others tail in (
            (mark, apart_from (log_of cell) low k.part (map (λ x. x.part) others) number later.1, later.0),
            (record { number = low; named = number; from = omega arith }, lower (log_of cell) low (map (λ x. x.part) others) later.1),
          )

      go : (b : Bool) → test low ≡ b
          → ((others : List KilledPart) → map Some others ≡ map (killed_part (log_of cell)) (filter test (range_with_len (low + 1) len))
          → AreKilled (map (λ k. k.part) others) cell × AllByRecursion (IsFrom (log_of cell) (low + 1)) (map (λ k. k.part) others))
          → AreKilled (map (λ k. k.part) ks) cell × AllByRecursion (IsFrom (log_of cell) low) (map (λ k. k.part) ks)
      go true q rec = one ks refl q (rw q at told) rec
      go false q rec = let later = rec ks (rw q at told) in (later.0, lower (log_of cell) low (map (λ k. k.part) ks) later.1)

-- the marks after a publish give each killed part's
mark_of : (f : ℕ → Mark) (low len n : ℕ) → n < len → slice_get (map f (range_with_len low len)) n ≡ Some (f (low + n))
mark_of f low zero n lt = absurd (omega arith)
mark_of f low (suc len) zero lt = let z : low ≡ low + 0 = omega arith in ap (λ (k : ℕ). Some (f k)) z
mark_of f low (suc len) (suc n) lt =
    let z : low + 1 + n ≡ low + suc n = omega arith in
    mark_of f (low + 1) len n (omega (arith, lt)) ∙ ap (λ (k : ℕ). Some (f k)) z

pub published_killed : (cell : CellState) (ks : List KilledPart) → IsLog cell.chain.entries
    → map Some ks ≡ map (killed_part cell.chain.entries) (killed_of cell) → AreKilled (map (λ k. k.part) ks) (published cell)
published_killed cell ks is told =
    let es = cell.chain.entries in
    let whole : es ≡ log_of (published cell) = sym (take_whole es) in
    (killed_from (published cell) (dies cell.block es cell.chain.tail) 0 (part_total es) ks (subst IsLog whole is)
    (subst (λ (log : List Entry). map Some ks ≡ map (killed_part log) (killed_of cell)) whole told)
    (λ n lt dead. mark_of (published_mark cell.block es cell.chain.tail cell.marks) 0 (part_total es) n (omega (arith, lt))
    ∙ mark n dead)).0
  where
    mark : (n : ℕ) → dies cell.block cell.chain.entries cell.chain.tail n ≡ true
        → Some (published_mark cell.block cell.chain.entries cell.chain.tail cell.marks (0 + n)) ≡ Some Killed
    mark n dead = let z : 0 + n ≡ n = omega arith in rw (z, dead) refl

-- ---- which parts these are

pub killed_list : (f : ℕ → Option KilledPart) (ns : List ℕ) (ks : List KilledPart) → map Some ks ≡ map f ns
    → ks ≡ flat_map (λ n. option_to_list (f n)) ns
killed_list f [] [] h = refl
killed_list f [] (k ∷ ks) h = cc
killed_list f (n ∷ ns) [] h = cc
killed_list f (n ∷ ns) (k ∷ ks) h =
    let first : Some k ≡ f n = cc in
    let rest : map Some ks ≡ map f ns = cc in
    ap (λ (xs : List KilledPart). k ∷ xs) (killed_list f ns ks rest)
    ∙ ap (λ (o : Option KilledPart). option_to_list o ++ flat_map (λ m. option_to_list (f m)) ns) first
    ∙ sym (flat_map-cons (λ m. option_to_list (f m)) n ns)
