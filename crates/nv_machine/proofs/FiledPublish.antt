-- What marks say after a publish, and of an inode that is erased; and where snapshots come and go.
use Rattle.std.proofs.Common.{◌≡◌, ℕ, zero, suc, ◌+◌, ◌<◌, ◌≤◌, ◌==◌, ◌&&◌, ◌++◌, ◌∙◌, Bool, true, false, cond, not, List, [], ◌∷◌, Option, Some, None, ap, arith, drop, filter, flat_map, inl, inr, length, map, nat_lt, refl, slice_get, subst, sym, take}
use Rattle.std.specs.Prelude.{option_to_list}
use Rattle.std.specs.List.{AllByRecursion, range_with_len}
use Rattle.std.specs.Option.{IsSome, option_map}
use Rattle.std.proofs.lemmas.Bool.{and_parts, cases_lt, eqb-false, eqb-true, false≢true, le-ltb, ltb-false, ltb-true, ne_eqb}
use Rattle.std.proofs.lemmas.List.{get_or_past, take-append-drop}
use Rattle.std.proofs.lemmas.List.FromFn.{get_or-map-range_with_len, length-map-range_with_len}
use Rattle.std.proofs.lemmas.Option.{same_Some}
use Rattle.nv_book.specs.declared.record.Record.{Record}
use Rattle.nv_calls.specs.Retiring.{name_of}
use Rattle.nv_cell.specs.Killed.{part_of_pair}
use Rattle.nv_cell.specs.Marks.{bit, is_current, is_killed, mark_at}
use Rattle.nv_cell.specs.Named.{number_named}
use Rattle.nv_cell.specs.Numbers.{dies, is_number, killed_part, part_base, published_mark}
use Rattle.nv_cell.specs.declared.killed.KilledPart.{KilledPart}
use Rattle.nv_cell.specs.declared.mark.Mark.{Mark}
use Rattle.nv_cell.specs.declared.mark.Mark.TheVariants.{Current, Killed, Out}
use Rattle.nv_cell.proofs.Cells.{mark_now}
use Rattle.nv_cell.proofs.NamedParts.{are_pairs, dies_at, names_of_parts}
use Rattle.nv_cell.proofs.Publishing.{total_take}
use Rattle.nv_cell.proofs.ValuesNow.{IsLog-take}
use Rattle.nv_entry.specs.Covered.{is_covered, part_total}
use Rattle.nv_entry.specs.Held.{holds}
use Rattle.nv_entry.specs.Held as held
use Rattle.nv_entry.specs.Log.{IsLog, pairs}
use Rattle.nv_entry.specs.declared.held.Pair.{Pair}
use Rattle.nv_entry.specs.declared.item.Entry.{Entry}
use Rattle.nv_machine.specs.Held.{is_of_slot}
use Rattle.nv_machine.specs.Recorded.{is_marked_kept}
use Rattle.nv_machine.proofs.EachElement.{all_append, all_weaker}
use Rattle.nv_machine.proofs.FiledLists.{count, count_append, count_cons, count_same, one}
use Rattle.nv_machine.proofs.FiledMarks.{AreMarks, IsDying, IsTold, bit_none, current_not_kept, is_filed_on, is_killed_on, pair_low}
use Rattle.nv_machine.proofs.Lists.{self}
use Rattle.nv_cell.proofs.DeadPairs.{pair_front}
use Rattle.nv_cell.proofs.NamedPairs.{current_is}
use Rattle.nv_machine.proofs.Pairs.{has_number, IsRecordOf, number_front, pair_there, record_more, record_number}

-- ---- a range has each of its numbers once

none_below : (low len n : ℕ) → n < low → count (λ m. m == n) (range_with_len low len) ≡ 0
none_below low zero n lt = refl
none_below low (suc len) n lt =
    omega (
      arith,
      count_cons (λ m. m == n) low (range_with_len (low + 1) len),
      none_below (low + 1) len n (omega (arith, lt)),
      ap one (ne_eqb low n (λ e. absurd (omega (arith, e, lt)))),
    )

once_in : (low len n : ℕ) → low ≤ n → n < low + len → count (λ m. m == n) (range_with_len low len) ≡ 1
once_in low zero n le lt = absurd (omega (arith, le, lt))
once_in low (suc len) n le lt = go (low == n) refl (λ below. once_in (low + 1) len n below (omega (arith, lt))) where
  all : count (λ m. m == n) (range_with_len low (suc len)) ≡ one (low == n) + count (λ m. m == n) (range_with_len (low + 1) len)
  all = count_cons (λ m. m == n) low (range_with_len (low + 1) len)

  go : (b : Bool) → (low == n) ≡ b → (low + 1 ≤ n → count (λ m. m == n) (range_with_len (low + 1) len) ≡ 1)
      → count (λ m. m == n) (range_with_len low (suc len)) ≡ 1
  go true e more =
      omega (arith, all, ap one e, none_below (low + 1) len n (let same = eqb-true low n e in omega (arith, same)))
  go false e more =
      let ne = eqb-false low n e in
      let there = more (omega (arith, le, ne)) in
      omega (arith, all, ap one e, there)

-- ---- published

module _ (block : ℕ) (es : List Entry) (tail : ℕ) (is : IsLog es) where
  abbrev dies_now : ℕ → Bool
  dies_now n = dies block es tail n

  abbrev dead : List ℕ → List KilledPart
  dead ns = flat_map (λ n. option_to_list (killed_part es n)) (filter dies_now ns)

  dead_both : (n : ℕ) → dies_now n ≡ true → (n < part_total es) × (is_covered block (take tail es) n ≡ false)
  dead_both n d =
      let a = and_parts (nat_lt n (part_total es) && is_covered block es n) (not (is_covered block (take tail es) n)) d in
      let b = and_parts (nat_lt n (part_total es)) (is_covered block es n) a.0 in
      (ltb-true n (part_total es) b.0, none (is_covered block (take tail es) n) a.1) where
        none : (b : Bool) → not b ≡ true → b ≡ false
        none true e = absurd (false≢true e)
        none false e = refl

  dead_count : (ns : List ℕ) (n : ℕ) → count (is_killed_on es n) (dead ns) ≡ cond (dies_now n) (count (λ m. m == n) ns) 0
  dead_count [] n = go (dies_now n) where
    go : (b : Bool) → count (is_killed_on es n) (dead []) ≡ cond b (count (λ (m : ℕ). m == n) []) 0
    go true = refl
    go false = refl
  dead_count (m ∷ ns) n = go (dies_now m) refl (dead_count ns n) where
    all : count (λ m. m == n) (m ∷ ns) ≡ one (m == n) + count (λ m. m == n) ns
    all = count_cons (λ m. m == n) m ns

    -- the part of a number that dies is killed once
    own : (o : Option KilledPart) → killed_part es m ≡ o → dies_now m ≡ true
        → count (is_killed_on es n) (option_to_list o) ≡ one (m == n)
    own None q d =
        let there : IsSome (killed_part es m) = (names_of_parts es is).there m (dead_both m d).0 in
        absurd (false≢true (rw q at there))
    own (Some k) q d =
        let mine : is_killed_on es n k ≡ (m == n) = ap (λ (o : Option ℕ). is_number o n) ((names_of_parts es is).number m k q) in
        omega (arith, count_cons (is_killed_on es n) k [], ap one mine)

    not_it : dies_now m ≡ false → dies_now n ≡ true → (m == n) ≡ false
    not_it d e = at (m == n) refl where
      at : (b : Bool) → (m == n) ≡ b → b ≡ false
      at true q = absurd (false≢true (sym d ∙ ap dies_now (eqb-true m n q) ∙ e))
      at false q = refl

    not_dead : dies_now m ≡ true → dies_now n ≡ false → (m == n) ≡ false
    not_dead d e = at (m == n) refl where
      at : (b : Bool) → (m == n) ≡ b → b ≡ false
      at true q = absurd (false≢true (sym e ∙ ap dies_now (sym (eqb-true m n q)) ∙ d))
      at false q = refl

    with_it : (b : Bool) → dies_now n ≡ b → dies_now m ≡ true → count (is_killed_on es n) (dead ns) ≡ cond b (count (λ m. m == n) ns) 0
        → one (m == n) + count (is_killed_on es n) (dead ns) ≡ cond b (count (λ m. m == n) (m ∷ ns)) 0
    with_it true e d more = omega (arith, more, all)
    with_it false e d more = omega (arith, more, ap one (not_dead d e))

    without_it : (b : Bool) → dies_now n ≡ b → dies_now m ≡ false
        → count (is_killed_on es n) (dead ns) ≡ cond b (count (λ m. m == n) ns) 0
        → count (is_killed_on es n) (dead ns) ≡ cond b (count (λ m. m == n) (m ∷ ns)) 0
    without_it true e d more = omega (arith, more, all, ap one (not_it d e))
    without_it false e d more = more

    go : (b : Bool) → dies_now m ≡ b → count (is_killed_on es n) (dead ns) ≡ cond (dies_now n) (count (λ m. m == n) ns) 0
        → count (is_killed_on es n) (flat_map (λ n. option_to_list (killed_part es n))
        (cond b (m ∷ filter dies_now ns) (filter dies_now ns)))
        ≡ cond (dies_now n) (count (λ m. m == n) (m ∷ ns)) 0
    go true d more =
        count_append (is_killed_on es n) (option_to_list (killed_part es m)) (dead ns)
        ∙ ap (λ (i : ℕ). i + count (is_killed_on es n) (dead ns)) (own (killed_part es m) refl d)
        ∙ with_it (dies_now n) refl d more
    go false d more = without_it (dies_now n) refl d more

  dead_once : (n : ℕ) → count (is_killed_on es n) (dead (range_with_len 0 (part_total es))) ≡ one (dies_now n)
  dead_once n = dead_count (range_with_len 0 (part_total es)) n ∙ go (dies_now n) refl where
    go : (b : Bool) → dies_now n ≡ b → cond b (count (λ m. m == n) (range_with_len 0 (part_total es))) 0 ≡ one b
    go true d = once_in 0 (part_total es) n (omega arith) (let lt = (dead_both n d).0 in omega (arith, lt))
    go false d = refl

  all_dying : (epoch : ℕ) → AllByRecursion (λ (e : Entry). e.epoch ≡ epoch) (drop tail es) → (ns : List ℕ)
      → AllByRecursion (IsDying epoch block es) (dead ns)
  all_dying epoch fresh [] = tt
  all_dying epoch fresh (m ∷ ns) = go (dies_now m) refl (all_dying epoch fresh ns) where
    own : (o : Option KilledPart) → killed_part es m ≡ o → dies_now m ≡ true → AllByRecursion (IsDying epoch block es) (option_to_list o)
    own None q d = tt
    own (Some k) q d = (at (slice_get (pairs block es) m) refl (sym (are_pairs block es m) ∙ q), tt) where
      at : (o : Option Pair) → slice_get (pairs block es) m ≡ o → option_map part_of_pair o ≡ Some k → IsDying epoch block es k
      at None p e = cc
      at (Some pair) p e =
          let same : part_of_pair pair ≡ k = same_Some (part_of_pair pair) k e in
          record {
            n = m;
            pair = pair;
            is = p;
            name = ap (λ (x : KilledPart). x.part) same;
            birth_is = ap (λ (x : KilledPart). x.birth) same;
            death_is = dies_at block es tail epoch fresh m pair d p;
          }

    go : (b : Bool) → dies_now m ≡ b → AllByRecursion (IsDying epoch block es) (dead ns)
        → AllByRecursion (IsDying epoch block es)
        (flat_map (λ n. option_to_list (killed_part es n)) (cond b (m ∷ filter dies_now ns) (filter dies_now ns)))
    go true d more =
        all_append (IsDying epoch block es) (option_to_list (killed_part es m)) (dead ns) (own (killed_part es m) refl d) more
    go false d more = more

  module _ (living : List ℕ) (ino epoch : ℕ) (records : List Record) (marks : List Mark) (within : tail ≤ length es)
      (fresh : AllByRecursion (λ (e : Entry). e.epoch ≡ epoch) (drop tail es))
      (h : AreMarks living ino epoch [] records block (take tail es) marks) where
    abbrev mark : ℕ → Mark
    mark n = published_mark block es tail marks n

    abbrev new : List Mark
    new = map mark (range_with_len 0 (part_total es))

    many : length new ≡ part_total es
    many = length-map-range_with_len mark 0 (part_total es)

    whole : take tail es ++ drop tail es ≡ es
    whole = take-append-drop tail es

    is_out : (n : ℕ) → part_total es ≤ n → mark n ≡ Out
    is_out n ge =
        let past : nat_lt n (part_total es) ≡ false = le-ltb n (part_total es) ge in
        let also : nat_lt n (part_base es tail) ≡ false = le-ltb n (part_base es tail) (omega (arith, ge, total_take es tail)) in
        rw (past, also) refl

    mark_is : (n : ℕ) → mark_at new n ≡ mark n
    mark_is n = elim (cases_lt n (part_total es)) [
      | inl lt ↦ get_or-map-range_with_len mark 0 (part_total es) n n Out lt (omega arith)
      | inr ge ↦ get_or_past new n Out (omega (arith, ge, many)) ∙ sym (is_out n ge)
    ]

    -- a part of a fresh entry had no mark
    fresh_out : (n : ℕ) → nat_lt n (part_base es tail) ≡ false → mark_at marks n ≡ Out
    fresh_out n e = get_or_past marks n Out (let ge = ltb-false n (part_base es tail) e in omega (arith, ge, h.len))

    was_not_killed : (n : ℕ) → is_killed (mark_at marks n) ≡ false
    was_not_killed n = bit_none (is_killed (mark_at marks n)) (sym (h.killed_are n))

    -- what dies was current, or has had no mark
    was_not_kept : (n : ℕ) → dies_now n ≡ true → is_marked_kept (mark_at marks n) ≡ false
    was_not_kept n d = elim (cases_lt n (part_total (take tail es))) [
      | inl lt ↦ current_not_kept (mark_at marks n) (h.current n lt ∙ ap not (dead_both n d).1)
      | inr ge ↦ ap is_marked_kept (get_or_past marks n Out (omega (arith, ge, h.len)))
    ]

    killed_now : (d a c : Bool) (old : Mark) → is_killed old ≡ false
        → one d ≡ bit (is_killed (cond d Killed (cond a old (cond c Current Out))))
    killed_now true a c old e = refl
    killed_now false true c old e = omega (arith, ap bit e)
    killed_now false false true old e = refl
    killed_now false false false old e = refl

    kept_now : (d a c : Bool) (old : Mark) → (d ≡ true → is_marked_kept old ≡ false) → (a ≡ false → is_marked_kept old ≡ false)
        → bit (is_marked_kept old) ≡ bit (is_marked_kept (cond d Killed (cond a old (cond c Current Out))))
    kept_now true a c old e f = ap bit (e refl)
    kept_now false true c old e f = refl
    kept_now false false true old e f = ap bit (f refl)
    kept_now false false false old e f = ap bit (f refl)

    -- a record's part has its number still
    same_filed : (n : ℕ) (d : Record) → IsTold living ino block (take tail es) d
        → is_filed_on ino es n d ≡ is_filed_on ino (take tail es) n d
    same_filed n d told = go (is_of_slot ino d) refl where
      go : (b : Bool) → is_of_slot ino d ≡ b
          → (b && is_number (number_named es (name_of d)) n) ≡ (b && is_number (number_named (take tail es) (name_of d)) n)
      go true e =
          let pair = told (eqb-true d.ino ino e) in
          let was = record_number living block (take tail es) d (IsLog-take tail es is) pair in
          let now : number_named es (name_of d) ≡ Some pair.n =
          ap (λ (l : List Entry). number_named l (name_of d)) (sym whole)
          ∙ number_front (take tail es) (drop tail es) (name_of d) pair.n was in
          rw (now, was) refl
      go false e = refl

    more_told : (d : Record) → IsTold living ino block (take tail es) d → IsTold living ino block es d
    more_told d told e =
        subst (λ (l : List Entry). IsRecordOf living block l d) whole (record_more living block (take tail es) (drop tail es) d (told e))

    -- a part that is out has been so, and its pair is what it was
    out_now : (n : ℕ) (pair : Pair) → slice_get (pairs block es) n ≡ Some pair → (d a c : Bool) → nat_lt n (part_base es tail) ≡ a
        → nat_lt n (part_total es) ≡ c → cond d Killed (cond a (mark_at marks n) (cond c Current Out)) ≡ Out
        → AllByRecursion (λ s. holds s pair ≡ false) living
    out_now n pair got true a c p q e = cc
    out_now n pair got false false true p q e = cc
    out_now n pair got false false false p q e =
        let lt = pair_low block es n pair got in absurd (omega (arith, lt, ltb-false n (part_total es) q))
    out_now n pair got false true c p q e =
        old (slice_get (pairs block (take tail es)) n) refl (pair_there block (take tail es) n log (ltb-true n (part_base es tail) p)) where
          log : IsLog (take tail es)
          log = IsLog-take tail es is

          died : (was : Pair) (o : Option ℕ) → was.death ≡ o → slice_get (pairs block (take tail es)) n ≡ Some was
              → held.is_current was ≡ false → AllByRecursion (λ s. holds s pair ≡ false) living
          died was None f at dead = absurd (false≢true (sym dead ∙ ended f)) where
            ended : was.death ≡ None → held.is_current was ≡ true
            ended g = rw g refl
          died was (Some death) f at dead =
              let now : slice_get (pairs block es) n ≡ Some was =
              ap (λ (l : List Entry). slice_get (pairs block l) n) (sym whole)
              ∙ pair_front block (take tail es) (drop tail es) n death was at f in
              let same : was ≡ pair = same_Some was pair (sym now ∙ got) in
              subst (λ (x : Pair). AllByRecursion (λ s. holds s x ≡ false) living) same (h.out n was at e)

          old : (o : Option Pair) → slice_get (pairs block (take tail es)) n ≡ o → IsSome o
              → AllByRecursion (λ s. holds s pair ≡ false) living
          old None at there = absurd (false≢true there)
          old (Some was) at there =
              let low : n < part_total (take tail es) = ltb-true n (part_base es tail) p in
              let dead = current_is block (take tail es) log n was at ∙ sym (h.current n low) ∙ ap is_current e in
              died was was.death refl at dead

    pub published_marks : AreMarks living ino epoch (dead (range_with_len 0 (part_total es))) records block es new
    published_marks = record {
      len = many;
      current = λ n lt. mark_now block es tail n (mark_at marks n) (mark_at new n) lt within (λ l. h.current n l) (mark_is n);
      killed_are = λ n. dead_once n
          ∙ killed_now (dies_now n) (nat_lt n (part_base es tail)) (nat_lt n (part_total es)) (mark_at marks n) (was_not_killed n)
          ∙ ap (λ (m : Mark). bit (is_killed m)) (sym (mark_is n));
      kept_are = λ n. count_same (is_filed_on ino es n) (is_filed_on ino (take tail es) n) records
          (all_weaker (IsTold living ino block (take tail es)) (λ d. is_filed_on ino es n d ≡ is_filed_on ino (take tail es) n d)
          (same_filed n)
          records h.told)
          ∙ h.kept_are n
          ∙ kept_now (dies_now n) (nat_lt n (part_base es tail)) (nat_lt n (part_total es)) (mark_at marks n) (was_not_kept n)
          (λ e. ap is_marked_kept (fresh_out n e))
          ∙ ap (λ (m : Mark). bit (is_marked_kept m)) (sym (mark_is n));
      dying = all_dying epoch fresh (range_with_len 0 (part_total es));
      told = all_weaker (IsTold living ino block (take tail es)) (IsTold living ino block es) more_told records h.told;
      out = λ n pair got e. out_now n pair got (dies_now n) (nat_lt n (part_base es tail)) (nat_lt n (part_total es)) refl refl
          (sym (mark_is n) ∙ e);
    }

-- ---- erased

module _ (living : List ℕ) (ino epoch : ℕ) (killed : List KilledPart) (records : List Record) (block : ℕ) (log : List Entry)
    (marks : List Mark) (is : IsLog log) (h : AreMarks living ino epoch killed records block log marks)
    (outs : (n : ℕ) → mark_at marks n ≡ Out) where
  none_killed : (ks : List KilledPart) → AllByRecursion (IsDying epoch block log) ks
      → ((n : ℕ) → count (is_killed_on log n) ks ≡ 0) → ks ≡ []
  none_killed [] dying none = refl
  none_killed (k ∷ ks) dying none =
      let own : is_killed_on log dying.0.n k ≡ true =
      ap (λ (o : Option ℕ). is_number o dying.0.n) (has_number block log k.part k.birth epoch is dying.0) ∙ self dying.0.n in
      absurd (omega (arith, none dying.0.n, count_cons (is_killed_on log dying.0.n) k ks, ap one own))

  none_filed : (rs : List Record) → AllByRecursion (IsTold living ino block log) rs → ((n : ℕ) → count (is_filed_on ino log n) rs ≡ 0)
      → AllByRecursion (λ (d : Record). d.ino ≡ ino → ⊥) rs
  none_filed [] told none = tt
  none_filed (d ∷ rs) told none = (
    own,
    none_filed rs told.1 (λ n. omega (arith, none n, count_cons (is_filed_on ino log n) d rs)),
  ) where
    own : d.ino ≡ ino → ⊥
    own e =
        let pair = told.0 e in
        let mine : is_filed_on ino log pair.n d ≡ true =
        rw (e, self ino, record_number living block log d is pair) (self pair.n) in
        absurd (omega (arith, none pair.n, count_cons (is_filed_on ino log pair.n) d rs, ap one mine))

  none_there : (n : ℕ) (rs : List Record) → count (is_filed_on ino [] n) rs ≡ 0
  none_there n [] = refl
  none_there n (d ∷ rs) =
      omega (arith, count_cons (is_filed_on ino [] n) d rs, ap one (never (is_of_slot ino d)), none_there n rs) where
        never : (b : Bool) → (b && false) ≡ false
        never true = refl
        never false = refl

  pub erased_marks : AreMarks living ino epoch killed records block [] []
  erased_marks = record {
    len = refl;
    current = λ n lt. absurd (omega (arith, lt));
    killed_are = λ n. rw none refl;
    kept_are = λ n. none_there n records;
    dying = rw none tt;
    told = all_weaker (λ (d : Record). d.ino ≡ ino → ⊥) (IsTold living ino block []) (λ d never e. absurd (never e)) records
        (none_filed records h.told (λ n. h.kept_are n ∙ ap (λ (m : Mark). bit (is_marked_kept m)) (outs n)));
    out = λ n pair got e. cc;
  } where
    none : killed ≡ []
    none = none_killed killed h.dying (λ n. h.killed_are n ∙ ap (λ (m : Mark). bit (is_killed m)) (outs n))

-- ---- snapshots come and go

-- other snapshots, in another epoch, while nothing is killed: records are held by these as their pairs are, and no part
-- that is out is held by one
pub living_marks : (living others : List ℕ) (ino epoch now : ℕ) (records : List Record) (block : ℕ) (log : List Entry) (marks : List Mark)
    → AreMarks living ino epoch [] records block log marks → AllByRecursion (IsTold others ino block log) records
    → ((n : ℕ) (pair : Pair) → slice_get (pairs block log) n ≡ Some pair → mark_at marks n ≡ Out
    → AllByRecursion (λ s. holds s pair ≡ false) living → AllByRecursion (λ s. holds s pair ≡ false) others)
    → AreMarks others ino now [] records block log marks
living_marks living others ino epoch now records block log marks h told out = record {
  len = h.len;
  current = h.current;
  killed_are = h.killed_are;
  kept_are = h.kept_are;
  dying = tt;
  told = told;
  out = λ n pair got e. out n pair got e (h.out n pair got e);
}

-- the same records in another order
pub filed_marks : (living : List ℕ) (ino epoch : ℕ) (killed : List KilledPart) (before after : List Record) (block : ℕ) (log : List Entry)
    (marks : List Mark) → AreMarks living ino epoch killed before block log marks → ((p : Record → Bool) → count p after ≡ count p before)
    → AllByRecursion (IsTold living ino block log) after → AreMarks living ino epoch killed after block log marks
filed_marks living ino epoch killed before after block log marks h same told = record {
  len = h.len;
  current = h.current;
  killed_are = h.killed_are;
  kept_are = λ n. same (is_filed_on ino log n) ∙ h.kept_are n;
  dying = h.dying;
  told = told;
  out = h.out;
}
