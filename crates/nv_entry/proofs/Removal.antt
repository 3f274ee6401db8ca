-- The test of a droppable entry, and what its removal leaves, now and at each epoch that none of its pairs spans.
use Rattle.std.proofs.Common.{◌≡◌, ℕ, ◌<◌, ◌≤◌, Bool, true, false, not, ◌&&◌, nat_le, List, [], ◌∷◌, ◌++◌, length, Some, arith, refl, sym, subst}
use Rattle.std.specs.List.{list_any}
use Rattle.std.proofs.lemmas.Bool.{leb-false, and_parts, not-true, or_parts}
use Rattle.std.proofs.lemmas.List.Elements.{filter-append}
use Rattle.nv_entry.specs.declared.item.Entry.{Entry}
use Rattle.nv_entry.specs.Clean.{IsDroppable, is_droppable, is_empty, hides}
use Rattle.nv_entry.specs.Counts.{is_entry_kept}
use Rattle.nv_entry.specs.Covered.{any_cover}
use Rattle.nv_entry.specs.declared.key.Setting.{Setting}
use Rattle.nv_entry.specs.declared.key.Setting.TheVariants.{Untouched, Absent, Present}
use Rattle.nv_entry.specs.Held.{Retention, holds}
use Rattle.nv_entry.specs.Keys.{Key, covers, sets}
use Rattle.nv_entry.specs.Laws.{ReadsSame, ReadsSameAt, is_present}
use Rattle.nv_entry.specs.Leaving.{MayLeave}
use Rattle.nv_entry.specs.Log.{first_cover, pairs_of, up_to}
use Rattle.nv_entry.proofs.Dying.{dies_by}
use Rattle.nv_entry.proofs.Hiding.{hides_nothing_before, hides-false_before}
use Rattle.nv_entry.proofs.Leaving.{droppable_may_leave}
use Rattle.nv_entry.proofs.SameReads.{leaving_reads, reads_refl}

-- ---- the test

pub empty-length : (log : List Entry) → is_empty log ≡ false → 0 < length log
empty-length [] h = cc
empty-length (e ∷ log) h = omega arith

pub length-empty : (log : List Entry) → 0 < length log → is_empty log ≡ false
length-empty [] h = absurd (omega arith)
length-empty (e ∷ log) h = refl

pub droppable : (r : Retention) (before : List Entry) (e : Entry) (later : List Entry) → is_droppable r before e later ≡ true
    → IsDroppable r before e later
droppable r before e later h =
    let hidden = list_any (λ (f : Entry). hides r.block e.item f.item) before in
    let p = and_parts (not (is_empty later) && not (is_entry_kept r e later)) (not hidden) h in
    let q = and_parts (not (is_empty later)) (not (is_entry_kept r e later)) p.0 in
    record {
      not_last = empty-length later (not-true (is_empty later) q.0);
      unneeded = not-true (is_entry_kept r e later) q.1;
      hides_nothing = hides_nothing_before r.block e.item before (not-true hidden p.1);
    }

pub droppable_test : (r : Retention) (before : List Entry) (e : Entry) (later : List Entry) → IsDroppable r before e later
    → is_droppable r before e later ≡ true
droppable_test r before e later h =
    rw (length-empty later h.not_last) (rw h.unneeded (rw (hides-false_before r.block e.item before h.hides_nothing) refl))

-- ---- now

pub reads_now : (r : Retention) (before : List Entry) (e : Entry) (later : List Entry) → IsDroppable r before e later
    → ReadsSame r.block (before ++ e ∷ later) (before ++ later)
reads_now r before e later h = leaving_reads r.block before e later (droppable_may_leave r before e later h)

-- ---- at an epoch

none_up_to : (test : Entry → Bool) (epoch : ℕ) (log : List Entry) → list_any test log ≡ false → list_any test (up_to epoch log) ≡ false
none_up_to test epoch [] h = refl
none_up_to test epoch (e ∷ log) h =
    let p = or_parts (test e) (list_any test log) h in
    go (nat_le e.epoch epoch) p.0 (none_up_to test epoch log p.1) refl where
      go : (t : Bool) → test e ≡ false → list_any test (up_to epoch log) ≡ false → nat_le e.epoch epoch ≡ t
          → list_any test (up_to epoch (e ∷ log)) ≡ false
      go true p ih q = rw q (rw p ih)
      go false p ih q = rw q ih

-- a key with a death is covered at the death's epoch too
covered_at : (block epoch : ℕ) (later : List Entry) (key : Key) (death : ℕ) → first_cover block later key ≡ Some death → death ≤ epoch
    → any_cover block (up_to epoch later) key ≡ true
covered_at block epoch [] key death h le = cc
covered_at block epoch (e ∷ later) key death h le =
    go (covers block e.item key) (nat_le e.epoch epoch) refl refl (λ k. covered_at block epoch later key death k le) where
      go : (b t : Bool) → covers block e.item key ≡ b → nat_le e.epoch epoch ≡ t
          → (first_cover block later key ≡ Some death → any_cover block (up_to epoch later) key ≡ true)
          → any_cover block (up_to epoch (e ∷ later)) key ≡ true
      go true true q r ih = rw r (rw q refl)
      go true false q r ih =
          let k : Some e.epoch ≡ Some death = rw q at h in let same : e.epoch ≡ death = cc in absurd
          (omega (arith, leb-false e.epoch epoch r))
      go false true q r ih = let k : first_cover block later key ≡ Some death = rw q at h in rw r (rw q (ih k))
      go false false q r ih = let k : first_cover block later key ≡ Some death = rw q at h in rw r (ih k)

may_leave_at : (r : Retention) (epoch : ℕ) (before : List Entry) (e : Entry) (later : List Entry)
    → list_any (holds epoch) (pairs_of r.block e later) ≡ false → nat_le e.epoch epoch ≡ true → IsDroppable r before e later
    → MayLeave r.block (up_to epoch before) e (up_to epoch later)
may_leave_at r epoch before e later unspanned born h = record {
  dead = λ key set. go key (sets r.block e.item key) refl set;
  hides_nothing = λ key a. none_up_to (λ (f : Entry). covers r.block f.item key) epoch before (h.hides_nothing key a);
} where
  go : (key : Key) (s : Setting) → sets r.block e.item key ≡ s → is_present s ≡ true → any_cover r.block (up_to epoch later) key ≡ true
  go key Untouched q set = cc
  go key Absent q set = cc
  go key (Present d) q set =
      let x = dies_by r.block epoch e later unspanned born key d q in covered_at r.block epoch later key x.death x.covered x.by

same_logs : (block : ℕ) (a b c d : List Entry) → a ≡ b → c ≡ d → ReadsSame block b d → ReadsSame block a c
same_logs block a b c d p q h =
    subst (λ (xs : List Entry). ReadsSame block xs c) (sym p) (subst (λ (xs : List Entry). ReadsSame block b xs) (sym q) h)

pub reads_at : (r : Retention) (epoch : ℕ) (before : List Entry) (e : Entry) (later : List Entry)
    → list_any (holds epoch) (pairs_of r.block e later) ≡ false → IsDroppable r before e later
    → ReadsSameAt r.block epoch (before ++ e ∷ later) (before ++ later)
reads_at r epoch before e later unspanned h =
    same_logs r.block (up_to epoch (before ++ e ∷ later)) (up_to epoch before ++ up_to epoch (e ∷ later)) (up_to epoch (before ++ later))
    (up_to epoch before ++ up_to epoch later)
    (filter-append (λ (x : Entry). nat_le x.epoch epoch) before (e ∷ later))
    (filter-append (λ (x : Entry). nat_le x.epoch epoch) before later)
    (go (nat_le e.epoch epoch) refl) where
      go : (t : Bool) → nat_le e.epoch epoch ≡ t
          → ReadsSame r.block (up_to epoch before ++ up_to epoch (e ∷ later)) (up_to epoch before ++ up_to epoch later)
      go true q = rw q
          (leaving_reads r.block (up_to epoch before) e (up_to epoch later) (may_leave_at r epoch before e later unspanned q h))
      go false q = rw q (reads_refl r.block (up_to epoch before ++ up_to epoch later))
