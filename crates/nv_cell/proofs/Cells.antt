-- The marks of a cell after a publish.
use Rattle.std.proofs.Common.{◌≡◌, ℕ, zero, suc, ◌+◌, ◌-◌, ◌<◌, ◌≤◌, ◌==◌, ◌&&◌, ◌||◌, Bool, true, false, not, cond, nat_lt, List, [], ◌∷◌, ◌++◌, length, take, replicate, arith, refl, ap, sym, ◌∙◌, slice_index_or, slice_index, inl, inr}
use Rattle.std.proofs.lemmas.Grind.{common_steps}
use Rattle.std.proofs.lemmas.List.Sums.{sum_by-cons}
use Rattle.std.proofs.lemmas.Bool.{ltb-true, ltb-false, lt-ltb, le-ltb, eq-eqb, cases_lt}
use Rattle.std.proofs.lemmas.Bool.Decides.{nat_tests}
use Rattle.nv_entry.specs.declared.item.Entry.{Entry}
use Rattle.nv_entry.specs.Covered.{is_covered, part_count, part_total}
use Rattle.nv_cell.specs.Numbers.{dies, part_base, times}
use Rattle.nv_cell.proofs.Numbers.{total_append}
use Rattle.nv_cell.proofs.Publishing.{take_next, covered_take, take_whole}
use Rattle.nv_cell.specs.declared.mark.Mark.{Mark}
use Rattle.nv_cell.specs.declared.mark.Mark.TheVariants.{Current, Killed, Out}
use Rattle.nv_cell.specs.Marks.{is_current, mark_at}
use Rattle.nv_cell.specs.Tallies.{end_at, is_in}

pub base_next : (es : List Entry) (t : ℕ) (e : Entry) → t < length es → e ≡ slice_index_or es t e
    → part_base es (t + 1) ≡ part_base es t + part_count e
base_next es t e lt q =
    rw (take_next es t e lt q, total_append (take t es) (e ∷ []))
    (let z : part_total (take t es) + (part_count e + 0) ≡ part_total (take t es) + part_count e = omega arith in z)

pub base_rises : (es : List Entry) (a b : ℕ) → a ≤ b → part_base es a ≤ part_base es b
base_rises [] zero b le = omega arith
base_rises [] (suc a) b le = omega arith
base_rises (x ∷ xs) zero b le = omega arith
base_rises (x ∷ xs) (suc a) zero le = absurd (omega arith)
base_rises (x ∷ xs) (suc a) (suc b) le =
    let z : part_count x + part_total (take a xs) ≤ part_count x + part_total (take b xs) =
    omega (arith, base_rises xs a b (omega (arith, le))) in
    z

mark_fresh : (count n : ℕ) → mark_at (replicate count Current) n ≡ cond (nat_lt n count) Current Out
mark_fresh zero n = let z : nat_lt n 0 ≡ false = grind (arith, nat_tests) in rw z refl
mark_fresh (suc c) zero = let z : nat_lt 0 (suc c) ≡ true = grind (arith, nat_tests) in rw z refl
mark_fresh (suc c) (suc n) = let z : nat_lt (suc n) (suc c) ≡ nat_lt n c = grind (arith, nat_tests) in rw z (mark_fresh c n)

mark_push : (marks : List Mark) (count n : ℕ)
    → mark_at (marks ++ replicate count Current) n
    ≡ cond (nat_lt n (length marks)) (mark_at marks n) (cond (nat_lt n (length marks + count)) Current Out)
mark_push [] count n =
    let z : nat_lt n 0 ≡ false = grind (arith, nat_tests) in
    let y : 0 + count ≡ count = omega arith in
    rw (z, y) (mark_fresh count n)
mark_push (m ∷ marks) count zero = let z : nat_lt 0 (suc (length marks)) ≡ true = grind (arith, nat_tests) in rw z refl
mark_push (m ∷ marks) count (suc n) =
    let z : nat_lt (suc n) (suc (length marks)) ≡ nat_lt n (length marks) = grind (arith, nat_tests) in
    let y : nat_lt (suc n) (suc (length marks) + count) ≡ nat_lt n (length marks + count) = grind (arith, nat_tests) in
    rw (z, y) (mark_push marks count n)

-- the marks after one more entry
pub mark_step : (marks new : List Mark) (old : Mark) (base below above count n : ℕ) → new ≡ marks ++ replicate count Current
    → length marks ≡ below → above ≡ below + count → base ≤ below
    → mark_at marks n ≡ cond (nat_lt n base) old (cond (nat_lt n below) Current Out)
    → mark_at new n ≡ cond (nat_lt n base) old (cond (nat_lt n above) Current Out)
mark_step marks new old base below above count n is len up le h =
    rw is (mark_push marks count n ∙ rw (len, ← up, h) (go (nat_lt n base) refl (nat_lt n below) refl (nat_lt n above) refl)) where
      go : (a : Bool) → nat_lt n base ≡ a → (b : Bool) → nat_lt n below ≡ b → (d : Bool) → nat_lt n above ≡ d
          → cond (nat_lt n below) (cond (nat_lt n base) old (cond (nat_lt n below) Current Out)) (cond (nat_lt n above) Current Out)
          ≡ cond (nat_lt n base) old (cond (nat_lt n above) Current Out)
      go true p true q d r = rw (p, q) refl
      go true p false q d r = absurd (omega (arith, ltb-true n base p, ltb-false n below q))
      go false p true q true r = rw (p, q, r) refl
      go false p true q false r = absurd (omega (arith, ltb-true n below q, ltb-false n above r))
      go false p false q d r = rw (p, q) refl

pub times_cons : (m n : ℕ) (ns : List ℕ) → times n (m ∷ ns) ≡ cond (m == n) 1 0 + times n ns
times_cons m n ns = sum_by-cons (λ k. cond (k == n) 1 0) m ns

pub in_times : (n : ℕ) (ns : List ℕ) → is_in n ns ≡ nat_lt 0 (times n ns)
in_times n [] = refl
in_times n (m ∷ ns) = go (m == n) refl (in_times n ns) where
  go : (b : Bool) → (m == n) ≡ b → is_in n ns ≡ nat_lt 0 (times n ns) → is_in n (m ∷ ns) ≡ nat_lt 0 (times n (m ∷ ns))
  go true q ih =
      let t : times n (m ∷ ns) ≡ 1 + times n ns = times_cons m n ns ∙ ap (λ (b : Bool). cond b 1 0 + times n ns) q in
      let z : nat_lt 0 (times n (m ∷ ns)) ≡ true = lt-ltb 0 (times n (m ∷ ns)) (omega (arith, t)) in
      ap (λ (b : Bool). b || is_in n ns) q ∙ sym z
  go false q ih =
      let t : times n (m ∷ ns) ≡ 0 + times n ns = times_cons m n ns ∙ ap (λ (b : Bool). cond b 1 0 + times n ns) q in
      let s : times n (m ∷ ns) ≡ times n ns = omega (arith, t) in
      ap (λ (b : Bool). b || is_in n ns) q ∙ ih ∙ ap (nat_lt 0) (sym s)

pub times_at : (ns : List ℕ) (i : ℕ) → i < length ns → 1 ≤ times (slice_index ns i) ns
times_at [] i lt = absurd (omega arith)
times_at (m ∷ ns) zero lt =
    let t : times m (m ∷ ns) ≡ 1 + times m ns = times_cons m m ns ∙ ap (λ (b : Bool). cond b 1 0 + times m ns) (eq-eqb m m refl) in
    let z : 1 ≤ times m (m ∷ ns) = omega (arith, t) in z
times_at (m ∷ ns) (suc i) lt =
    let z : 1 ≤ times (slice_index ns i) (m ∷ ns) = omega (arith, times_cons m (slice_index ns i) ns, times_at ns i (omega (arith, lt))) in
    z

bit_test : (b : Bool) (k : ℕ) → k ≡ cond b 1 0 → nat_lt 0 k ≡ b
bit_test true k h = rw h refl
bit_test false k h = rw h refl

pub in_dies : (n : ℕ) (ns : List ℕ) (b : Bool) → times n ns ≡ cond b 1 0 → is_in n ns ≡ b
in_dies n ns b h = in_times n ns ∙ bit_test b (times n ns) h

and_left : (a b : Bool) → (a && b) ≡ true → a ≡ true
and_left true b h = refl
and_left false b h = cc

pub dies_low : (block : ℕ) (es : List Entry) (tail n : ℕ) → 1 ≤ cond (dies block es tail n) 1 0 → n < part_total es
dies_low block es tail n h = go (dies block es tail n) refl h where
  go : (b : Bool) → dies block es tail n ≡ b → 1 ≤ cond b 1 0 → n < part_total es
  go true q k =
      ltb-true n (part_total es) (and_left (nat_lt n (part_total es)) (is_covered block es n)
      (and_left (nat_lt n (part_total es) && is_covered block es n) (not (is_covered block (take tail es) n)) q))
  go false q k = absurd (omega arith)

covered_beyond : (block : ℕ) (log : List Entry) (n : ℕ) → part_total log ≤ n → is_covered block log n ≡ false
covered_beyond block [] n le = refl
covered_beyond block (e ∷ log) n le =
    let a : nat_lt n (part_count e) ≡ false = le-ltb n (part_count e) (omega arith) in
    rw a (covered_beyond block log (n - part_count e) (omega arith))

-- a mark after a publish is current exactly if no entry covers it
pub mark_now : (block : ℕ) (es : List Entry) (tail n : ℕ) (old new : Mark) → n < part_total es → tail ≤ length es
    → (n < part_base es tail → is_current old ≡ not (is_covered block (take tail es) n))
    → new ≡ cond (dies block es tail n) Killed (cond (nat_lt n (part_base es tail)) old (cond (nat_lt n (part_total es)) Current Out))
    → is_current new ≡ not (is_covered block es n)
mark_now block es tail n old new lt le was is =
    go (is_covered block es n) refl (is_covered block (take tail es) n) refl (nat_lt n (part_base es tail)) refl where
      low : nat_lt n (part_total es) ≡ true
      low = lt-ltb n (part_total es) lt

      more : is_covered block (take tail es) n ≡ true → is_covered block es n ≡ true
      more h = let k = covered_take block es tail (length es) n le h in rw (take_whole es) at k

      go : (c : Bool) → is_covered block es n ≡ c → (f : Bool) → is_covered block (take tail es) n ≡ f → (a : Bool)
          → nat_lt n (part_base es tail) ≡ a → is_current new ≡ not (is_covered block es n)
      go true p false q a r = let k : new ≡ Killed = rw (low, p, q) at is in rw (k, p) refl
      go true p true q true r =
          let k : new ≡ old = rw (low, p, q, r) at is in
          rw (k, p) (was (ltb-true n (part_base es tail) r) ∙ rw q refl)
      go true p true q false r = let z : true ≡ false = sym q
          ∙ covered_beyond block (take tail es) n (ltb-false n (part_base es tail) r) in cc
      go false p true q a r = let z : true ≡ false = sym (more q) ∙ p in cc
      go false p false q true r =
          let k : new ≡ old = rw (low, p, r) at is in
          rw (k, p) (was (ltb-true n (part_base es tail) r) ∙ rw q refl)
      go false p false q false r = let k : new ≡ Current = rw (low, p, r) at is in rw (k, p) refl

pub end_old : (ends : List ℕ) (x j : ℕ) → j < length ends → end_at (ends ++ x ∷ []) j ≡ end_at ends j
end_old ends x j lt = grind (arith, common_steps)

pub end_new : (ends : List ℕ) (x : ℕ) → end_at (ends ++ x ∷ []) (length ends) ≡ x
end_new ends x = grind (arith, common_steps)

pub end_step : (ends : List ℕ) (es : List Entry) (t x i : ℕ) → length ends ≡ t → x ≡ part_base es (t + 1) → i < t + 1
    → (i < t → end_at ends i ≡ part_base es (i + 1)) → end_at (ends ++ x ∷ []) i ≡ part_base es (i + 1)
end_step ends es t x i len is lt old = elim (cases_lt i t) [
  | inl l ↦ end_old ends x i (omega arith) ∙ old l
  | inr g ↦ let same : i ≡ t = omega arith in rw same (ap (λ (k : ℕ). end_at (ends ++ x ∷ []) k) (sym len) ∙ end_new ends x ∙ is)
]
