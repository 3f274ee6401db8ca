-- What marks say of the parts of a log: which are killed and not yet retired, which are recorded, and which are out;
-- and that a publish, a retire, a release and an erasing leave it so.
use Rattle.std.proofs.Common.{◌≡◌, ℕ, zero, suc, ◌+◌, ◌-◌, ◌<◌, ◌≤◌, ◌==◌, ◌&&◌, ◌++◌, ◌∙◌, Bool, true, false, cond, not, List, [], ◌∷◌, Option, Some, None, ap, arith, get_or-set_other, get_or-set_same, inl, inr, length, length-set, refl, set, slice_get, sym}
use Rattle.std.specs.List.{AllByRecursion, Contains}
use Rattle.std.proofs.lemmas.Bool.{cases_lt, eqb-false, eqb-true, false≢true}
use Rattle.std.proofs.lemmas.List.{get_or_past}
use Rattle.std.proofs.lemmas.Option.{same_Some}
use Rattle.nv_book.specs.Records.{holder_of, is_held_by}
use Rattle.nv_book.specs.declared.record.Record.{Record}
use Rattle.nv_calls.specs.Retiring.{name_of, record_of}
use Rattle.nv_cell.specs.Marks.{bit, is_current, is_killed, mark_at}
use Rattle.nv_cell.specs.Named.{number_named}
use Rattle.nv_cell.specs.Numbers.{is_number}
use Rattle.nv_cell.specs.declared.killed.KilledPart.{KilledPart}
use Rattle.nv_cell.specs.declared.mark.Mark.{Mark}
use Rattle.nv_cell.specs.declared.mark.Mark.TheVariants.{Current, Kept, Killed, Out}
use Rattle.nv_cell.proofs.NamedParts.{pair_later}
use Rattle.nv_entry.specs.Covered.{is_covered, part_count, part_total}
use Rattle.nv_entry.specs.Held.{holds}
use Rattle.nv_entry.specs.Log.{IsLog, pairs}
use Rattle.nv_entry.specs.declared.held.Pair.{Pair}
use Rattle.nv_entry.specs.declared.item.Entry.{Entry}
use Rattle.nv_epoch.specs.Holders as holders
use Rattle.nv_epoch.proofs.Last.{none_passes}
use Rattle.nv_machine.specs.Held.{is_of_slot}
use Rattle.nv_machine.specs.Recorded.{is_marked_kept}
use Rattle.nv_machine.proofs.EachElement.{all_append, all_at}
use Rattle.nv_machine.proofs.FiledLists.{count, count_append, count_cons, one}
use Rattle.nv_machine.proofs.Lists.{self}
use Rattle.nv_machine.proofs.Pairs.{HasPair, IsRecordOf, has_number, record_killed, record_number}

-- ---- what marks say

-- a killed part, and a record of a slot, is of the part n
abbrev pub is_killed_on : List Entry → ℕ → KilledPart → Bool
is_killed_on log n k = is_number (number_named log k.part) n

abbrev pub is_filed_on : ℕ → List Entry → ℕ → Record → Bool
is_filed_on ino log n d = is_of_slot ino d && is_number (number_named log (name_of d)) n

-- a killed part is of a pair that dies in this epoch, and a record of the slot of one that has died, with its living holders
abbrev pub IsDying : ℕ → ℕ → List Entry → KilledPart → Type 0
IsDying epoch block log k = HasPair block log k.part k.birth epoch

abbrev pub IsTold : List ℕ → ℕ → ℕ → List Entry → Record → Type 0
IsTold living ino block log d = d.ino ≡ ino → IsRecordOf living block log d

-- a part is current exactly where no later entry covers it; it is marked killed exactly where it is killed, and kept
-- exactly where it is recorded, and each such part is so once; and where it is out no living snapshot holds it
pub record AreMarks (living : List ℕ) (ino epoch : ℕ) (killed : List KilledPart) (records : List Record) (block : ℕ) (log : List Entry)
    (marks : List Mark) : Type 0 where
  pub len : length marks ≡ part_total log
  pub current : (n : ℕ) → n < part_total log → is_current (mark_at marks n) ≡ not (is_covered block log n)
  pub killed_are : (n : ℕ) → count (is_killed_on log n) killed ≡ bit (is_killed (mark_at marks n))
  pub kept_are : (n : ℕ) → count (is_filed_on ino log n) records ≡ bit (is_marked_kept (mark_at marks n))
  pub dying : AllByRecursion (IsDying epoch block log) killed
  pub told : AllByRecursion (IsTold living ino block log) records
  pub out : (n : ℕ) (pair : Pair) → slice_get (pairs block log) n ≡ Some pair → mark_at marks n ≡ Out
      → AllByRecursion (λ s. holds s pair ≡ false) living

-- ---- small things

pub bit_is : (b : Bool) → 1 ≤ bit b → b ≡ true
bit_is true le = refl
bit_is false le = absurd (omega (arith, le))

pub bit_none : (b : Bool) → bit b ≡ 0 → b ≡ false
bit_none true e = absurd (omega (arith, e))
bit_none false e = refl

killed_not_kept : (m : Mark) → is_killed m ≡ true → is_marked_kept m ≡ false
killed_not_kept Kept e = absurd (false≢true e)
killed_not_kept other e = refl

pub killed_not_current : (m : Mark) → is_killed m ≡ true → is_current m ≡ false
killed_not_current Current e = absurd (false≢true e)
killed_not_current other e = refl

kept_not_killed : (m : Mark) → is_marked_kept m ≡ true → is_killed m ≡ false
kept_not_killed Killed e = absurd (false≢true e)
kept_not_killed other e = refl

pub kept_not_current : (m : Mark) → is_marked_kept m ≡ true → is_current m ≡ false
kept_not_current Current e = absurd (false≢true e)
kept_not_current other e = refl

pub current_not_kept : (m : Mark) → is_current m ≡ true → is_marked_kept m ≡ false
current_not_kept Kept e = absurd (false≢true e)
current_not_kept other e = refl

pub pair_low : (block : ℕ) (log : List Entry) (n : ℕ) (pair : Pair) → slice_get (pairs block log) n ≡ Some pair → n < part_total log
pair_low block [] n pair got = cc
pair_low block (e ∷ log) n pair got = elim (cases_lt n (part_count e)) [
  | inl lt ↦ omega (arith, lt)
  | inr ge ↦
      let more = pair_low block log (n - part_count e) pair (sym (pair_later block e log n ge) ∙ got) in
      omega (arith, ge, more)
]

-- ---- another mark of a part

mark_set : (marks : List Mark) (m n : ℕ) (x : Mark) → m < length marks → mark_at (set marks m x) n ≡ cond (m == n) x (mark_at marks n)
mark_set marks m n x lt = go (m == n) refl where
  go : (b : Bool) → (m == n) ≡ b → mark_at (set marks m x) n ≡ cond b x (mark_at marks n)
  go true e = ap (λ (i : ℕ). mark_at (set marks m x) i) (sym (eqb-true m n e)) ∙ get_or-set_same marks m x Out lt
  go false e = get_or-set_other marks m n x Out (λ same. eqb-false m n e (sym same))

-- a part that is not current has another mark that is not, and what is killed and recorded is told by the marks still
remarked : (living : List ℕ) (ino epoch : ℕ) (killed more : List KilledPart) (records others : List Record) (block : ℕ)
    (log : List Entry) (marks : List Mark) (m : ℕ) (x : Mark)
    → AreMarks living ino epoch killed records block log marks → m < length marks → is_current (mark_at marks m) ≡ false
    → is_current x ≡ false
    → ((n : ℕ) → count (is_killed_on log n) more ≡ bit (is_killed (cond (m == n) x (mark_at marks n))))
    → ((n : ℕ) → count (is_filed_on ino log n) others ≡ bit (is_marked_kept (cond (m == n) x (mark_at marks n))))
    → AllByRecursion (IsDying epoch block log) more → AllByRecursion (IsTold living ino block log) others
    → ((pair : Pair) → slice_get (pairs block log) m ≡ Some pair → x ≡ Out → AllByRecursion (λ s. holds s pair ≡ false) living)
    → AreMarks living ino epoch more others block log (set marks m x)
remarked living ino epoch killed more records others block log marks m x h low was now killed_now kept_now dying told out = record {
  len = length-set marks m x ∙ h.len;
  current = λ n lt. ap is_current (mark_set marks m n x low) ∙ same n (m == n) refl ∙ h.current n lt;
  killed_are = λ n. killed_now n ∙ ap (λ (y : Mark). bit (is_killed y)) (sym (mark_set marks m n x low));
  kept_are = λ n. kept_now n ∙ ap (λ (y : Mark). bit (is_marked_kept y)) (sym (mark_set marks m n x low));
  dying = dying;
  told = told;
  out = λ n pair got mark. at n (m == n) refl pair got (sym (mark_set marks m n x low) ∙ mark);
} where
  same : (n : ℕ) (b : Bool) → (m == n) ≡ b → is_current (cond b x (mark_at marks n)) ≡ is_current (mark_at marks n)
  same n true e = now ∙ sym was ∙ ap (λ (i : ℕ). is_current (mark_at marks i)) (eqb-true m n e)
  same n false e = refl

  at : (n : ℕ) (b : Bool) → (m == n) ≡ b → (pair : Pair) → slice_get (pairs block log) n ≡ Some pair
      → cond b x (mark_at marks n) ≡ Out → AllByRecursion (λ s. holds s pair ≡ false) living
  at n true e pair got mark = out pair (ap (slice_get (pairs block log)) (eqb-true m n e) ∙ got) mark
  at n false e pair got mark = h.out n pair got mark

-- ---- retired

-- whoever may hold it, none does
pub all_contained : (P : ℕ → Type 0) (xs : List ℕ) → ((t : ℕ) → Contains xs t → P t) → AllByRecursion P xs
all_contained P [] f = tt
all_contained P (x ∷ xs) f = (
  f x (zero, omega arith, refl),
  all_contained P xs (λ t there. f t (suc there.0, omega (arith, there.1), there.2)),
)

-- the pair of a record that no living snapshot holds
none_holds : (living : List ℕ) (block : ℕ) (log : List Entry) (d : Record) → holder_of living d ≡ None
    → (r : IsRecordOf living block log d)
    → (pair : Pair) → slice_get (pairs block log) r.n ≡ Some pair → AllByRecursion (λ s. holds s pair ≡ false) living
none_holds living block log d none r pair got =
    let same : r.pair ≡ pair = same_Some r.pair pair (sym r.is ∙ got) in
    all_contained (λ s. holds s pair ≡ false) living
    (λ t there. ap (holds t) (sym same) ∙ sym (all_at (λ s. is_held_by s d ≡ holds s r.pair) living t r.holders there)
    ∙ (none_passes (holders.holds d.birth d.death) living none).fails t there)

module _ (living : List ℕ) (ino epoch : ℕ) (k : KilledPart) (parts : List KilledPart) (records : List Record) (block : ℕ)
    (log : List Entry) (marks : List Mark) (is : IsLog log) (h : AreMarks living ino epoch (k ∷ parts) records block log marks) where
  abbrev m : ℕ
  m = h.dying.0.n

  pub killed_number : number_named log k.part ≡ Some m
  killed_number = has_number block log k.part k.birth epoch is h.dying.0

  -- whether the part is its own
  own : (n : ℕ) → is_killed_on log n k ≡ (m == n)
  own n = ap (λ (o : Option ℕ). is_number o n) killed_number

  first : (n : ℕ) → one (m == n) + count (is_killed_on log n) parts ≡ bit (is_killed (mark_at marks n))
  first n = omega (arith, ap one (own n), count_cons (is_killed_on log n) k parts, h.killed_are n)

  pub is_so : is_killed (mark_at marks m) ≡ true
  is_so = bit_is (is_killed (mark_at marks m)) (omega (arith, first m, ap one (self m)))

  others_not : count (is_killed_on log m) parts ≡ 0
  others_not = omega (arith, first m, ap one (self m), ap bit is_so)

  pub low : m < length marks
  low = elim (cases_lt m (length marks)) [
    | inl lt ↦ lt
    | inr ge ↦ absurd (false≢true (ap is_killed (sym (get_or_past marks m Out ge)) ∙ is_so))
  ]

  now_killed : (x : Mark) → is_killed x ≡ false → (n : ℕ)
      → count (is_killed_on log n) parts ≡ bit (is_killed (cond (m == n) x (mark_at marks n)))
  now_killed x none n = go (m == n) refl (first n) where
    go : (b : Bool) → (m == n) ≡ b → one b + count (is_killed_on log n) parts ≡ bit (is_killed (mark_at marks n))
        → count (is_killed_on log n) parts ≡ bit (is_killed (cond b x (mark_at marks n)))
    go true e f =
        let same = ap (λ (i : ℕ). count (is_killed_on log i) parts) (eqb-true m n e) in
        omega (arith, same, others_not, ap bit none)
    go false e f = omega (arith, f)

  -- a living snapshot keeps the part, which is recorded
  pub kept_marks : AreMarks living ino epoch parts (records ++ record_of ino epoch k ∷ []) block log (set marks m Kept)
  kept_marks =
      remarked living ino epoch (k ∷ parts) parts records (records ++ record_of ino epoch k ∷ []) block log marks m Kept h low
      (killed_not_current (mark_at marks m) is_so) refl (now_killed Kept refl) filed h.dying.1
      (all_append (IsTold living ino block log) records (record_of ino epoch k ∷ []) h.told
      (λ e. record_killed living ino epoch k block log h.dying.0, tt))
      (λ pair got e. cc) where
        filed : (n : ℕ) → count (is_filed_on ino log n) (records ++ record_of ino epoch k ∷ [])
            ≡ bit (is_marked_kept (cond (m == n) Kept (mark_at marks n)))
        filed n =
            count_append (is_filed_on ino log n) records (record_of ino epoch k ∷ [])
            ∙ go (m == n) refl (h.kept_are n) (count_cons (is_filed_on ino log n) (record_of ino epoch k) []) where
              mine : is_filed_on ino log n (record_of ino epoch k) ≡ (m == n)
              mine = rw (self ino) (own n)

              go : (b : Bool) → (m == n) ≡ b → count (is_filed_on ino log n) records ≡ bit (is_marked_kept (mark_at marks n))
                  → count (is_filed_on ino log n) (record_of ino epoch k ∷ [])
                  ≡ one (is_filed_on ino log n (record_of ino epoch k)) + count (is_filed_on ino log n) []
                  → count (is_filed_on ino log n) records + count (is_filed_on ino log n) (record_of ino epoch k ∷ [])
                  ≡ bit (is_marked_kept (cond b Kept (mark_at marks n)))
              go true e f c =
                  let not_yet : is_marked_kept (mark_at marks n) ≡ false =
                  ap (λ (i : ℕ). is_marked_kept (mark_at marks i)) (sym (eqb-true m n e)) ∙ killed_not_kept (mark_at marks m) is_so in
                  omega (arith, f, c, ap bit not_yet, ap one (mine ∙ e))
              go false e f c = omega (arith, f, c, ap one (mine ∙ e))

  -- none does, and the part goes out
  pub freed_marks : holder_of living (record_of ino epoch k) ≡ None → AreMarks living ino epoch parts records block log (set marks m Out)
  freed_marks none =
      remarked living ino epoch (k ∷ parts) parts records records block log marks m Out h low
      (killed_not_current (mark_at marks m) is_so) refl (now_killed Out refl) filed h.dying.1 h.told
      (λ pair got e. none_holds living block log (record_of ino epoch k) none its_record pair
      (ap (slice_get (pairs block log)) its_place ∙ got)) where
        its_record : IsRecordOf living block log (record_of ino epoch k)
        its_record = record_killed living ino epoch k block log h.dying.0

        its_place : its_record.n ≡ m
        its_place = same_Some its_record.n m (sym (record_number living block log (record_of ino epoch k) is its_record) ∙ killed_number)

        filed : (n : ℕ) → count (is_filed_on ino log n) records ≡ bit (is_marked_kept (cond (m == n) Out (mark_at marks n)))
        filed n = go (m == n) refl (h.kept_are n) where
          go : (b : Bool) → (m == n) ≡ b → count (is_filed_on ino log n) records ≡ bit (is_marked_kept (mark_at marks n))
              → count (is_filed_on ino log n) records ≡ bit (is_marked_kept (cond b Out (mark_at marks n)))
          go true e f =
              let not_yet : is_marked_kept (mark_at marks n) ≡ false =
              ap (λ (i : ℕ). is_marked_kept (mark_at marks i)) (sym (eqb-true m n e)) ∙ killed_not_kept (mark_at marks m) is_so in
              omega (arith, f, ap bit not_yet)
          go false e f = f

-- ---- released

module _ (living : List ℕ) (ino epoch : ℕ) (killed : List KilledPart) (before after : List Record) (d : Record) (block : ℕ)
    (log : List Entry) (marks : List Mark) (is : IsLog log) (h : AreMarks living ino epoch killed before block log marks)
    (mine : d.ino ≡ ino) (pair : IsRecordOf living block log d)
    (counts : (p : Record → Bool) → count p before ≡ one (p d) + count p after) where
  pub filed_number : number_named log (name_of d) ≡ Some pair.n
  filed_number = record_number living block log d is pair

  its : (n : ℕ) → is_filed_on ino log n d ≡ (pair.n == n)
  its n = rw (mine, self ino, filed_number) refl

  once : (n : ℕ) → one (pair.n == n) + count (is_filed_on ino log n) after ≡ bit (is_marked_kept (mark_at marks n))
  once n = omega (arith, ap one (its n), counts (is_filed_on ino log n), h.kept_are n)

  pub kept_so : is_marked_kept (mark_at marks pair.n) ≡ true
  kept_so = bit_is (is_marked_kept (mark_at marks pair.n)) (omega (arith, once pair.n, ap one (self pair.n)))

  pub low_filed : pair.n < length marks
  low_filed = elim (cases_lt pair.n (length marks)) [
    | inl lt ↦ lt
    | inr ge ↦ absurd (false≢true (ap is_marked_kept (sym (get_or_past marks pair.n Out ge)) ∙ kept_so))
  ]

  pub released_marks : AllByRecursion (IsTold living ino block log) after → holder_of living d ≡ None
      → AreMarks living ino epoch killed after block log (set marks pair.n Out)
  released_marks told none =
      remarked living ino epoch killed killed before after block log marks pair.n Out h low_filed
      (kept_not_current (mark_at marks pair.n) kept_so) refl still filed h.dying told
      (λ p got e. none_holds living block log d none pair p got) where
        still : (n : ℕ) → count (is_killed_on log n) killed ≡ bit (is_killed (cond (pair.n == n) Out (mark_at marks n)))
        still n = go (pair.n == n) refl (h.killed_are n) where
          go : (b : Bool) → (pair.n == n) ≡ b → count (is_killed_on log n) killed ≡ bit (is_killed (mark_at marks n))
              → count (is_killed_on log n) killed ≡ bit (is_killed (cond b Out (mark_at marks n)))
          go true e f =
              let no : is_killed (mark_at marks n) ≡ false =
              ap (λ (i : ℕ). is_killed (mark_at marks i)) (sym (eqb-true pair.n n e)) ∙ kept_not_killed (mark_at marks pair.n) kept_so in
              omega (arith, f, ap bit no)
          go false e f = f

        filed : (n : ℕ) → count (is_filed_on ino log n) after ≡ bit (is_marked_kept (cond (pair.n == n) Out (mark_at marks n)))
        filed n = go (pair.n == n) refl (once n) where
          go : (b : Bool) → (pair.n == n) ≡ b → one b + count (is_filed_on ino log n) after ≡ bit (is_marked_kept (mark_at marks n))
              → count (is_filed_on ino log n) after ≡ bit (is_marked_kept (cond b Out (mark_at marks n)))
          go true e f =
              let so : is_marked_kept (mark_at marks n) ≡ true =
              ap (λ (i : ℕ). is_marked_kept (mark_at marks i)) (sym (eqb-true pair.n n e)) ∙ kept_so in
              omega (arith, f, ap bit so)
          go false e f = omega (arith, f)
