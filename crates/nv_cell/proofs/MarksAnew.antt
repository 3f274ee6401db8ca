-- Marks anew of a log, and of the log with one more entry.
use Rattle.std.proofs.Common.{◌≡◌, ℕ, zero, suc, ◌+◌, ◌-◌, ◌<◌, ◌≤◌, ◌&&◌, ◌||◌, ◌∙◌, ◌⊎◌, inl, inr, Bool, true, false, cond, not, nat_lt, List, [], ◌∷◌, ◌++◌, Option, Some, None, length, map, take, get_or, arith, refl, ap, sym}
use Rattle.std.specs.Prelude.{slice_index_or}
use Rattle.std.proofs.lemmas.Bool.{cases_lt, le-ltb, lt-ltb}
use Rattle.std.proofs.lemmas.List.{append-nil, get_or_append_left, get_or-append_right, length-map, map-append}
use Rattle.nv_entry.specs.declared.held.Pair.{Pair}
use Rattle.nv_entry.specs.declared.item.Entry.{Entry}
use Rattle.nv_entry.specs.declared.part.Part.{Part}
use Rattle.nv_entry.specs.declared.part.Part.TheVariants as part
use Rattle.nv_entry.specs.Covered.{any_cover, is_covered, key_at, part_count, part_key, part_total}
use Rattle.nv_entry.specs.Held.{is_current as pair_current, is_held}
use Rattle.nv_entry.specs.Keys.{Key, covers, key_of, parts_of}
use Rattle.nv_entry.specs.Log.{first_cover, pair_of, pairs, pairs_of}
use Rattle.nv_entry.proofs.PartLists.{length-pairs}
use Rattle.nv_cell.specs.declared.mark.Mark.{Mark}
use Rattle.nv_cell.specs.declared.mark.Mark.TheVariants.{Current, Kept, Out}
use Rattle.nv_cell.specs.Anew.{birth_at, mark_by, mark_ended, marks_anew}
use Rattle.nv_cell.specs.Cell.{mark_or_fresh}
use Rattle.nv_cell.specs.Marks.{is_current}

-- ---- deaths

-- whether the first of these entries that covers a key is there, is whether one does
cover_some : (block : ℕ) (log : List Entry) (key : Key) → any_cover block log key ≡ false → first_cover block log key ≡ None
cover_some block [] key h = refl
cover_some block (x ∷ log) key h = go (covers block x.item key) refl h (λ k. cover_some block log key k) where
  go : (b : Bool) → covers block x.item key ≡ b → (b || any_cover block log key) ≡ false
      → (any_cover block log key ≡ false → first_cover block log key ≡ None)
      → first_cover block (x ∷ log) key ≡ None
  go true q k rest = cc
  go false q k rest = rw q (rest k)

-- one more entry covers what none before it does
cover_next : (block : ℕ) (log : List Entry) (e : Entry) (key : Key)
    → first_cover block (log ++ e ∷ []) key
    ≡ cond (any_cover block log key) (first_cover block log key) (cond (covers block e.item key) (Some e.epoch) None)
cover_next block [] e key = refl
cover_next block (x ∷ log) e key = go (covers block x.item key) refl (cover_next block log e key) where
  go : (b : Bool) → covers block x.item key ≡ b
      → first_cover block (log ++ e ∷ []) key
      ≡ cond (any_cover block log key) (first_cover block log key) (cond (covers block e.item key) (Some e.epoch) None)
      → cond b (Some x.epoch) (first_cover block (log ++ e ∷ []) key)
      ≡ cond (b || any_cover block log key) (cond b (Some x.epoch) (first_cover block log key))
      (cond (covers block e.item key) (Some e.epoch) None)
  go true q rest = refl
  go false q rest = rest

-- ---- one mark

-- a part's mark after one more entry: it ends where it is current and the entry covers its key
abbrev pub mark_then : List ℕ → Bool → ℕ → ℕ → Mark → Mark
mark_then living ends birth death mark = cond ends (mark_ended living birth death) mark

pair_next : (living : List ℕ) (block : ℕ) (x e : Entry) (later : List Entry) (p : Part)
    → mark_by living (pair_of block x (later ++ e ∷ []) p)
    ≡ mark_then living (not (any_cover block later (key_of x.item p)) && covers block e.item (key_of x.item p)) x.epoch e.epoch
    (mark_by living (pair_of block x later p))
pair_next living block x e later p =
    ap by (cover_next block later e key)
    ∙ go (any_cover block later key) refl (covers block e.item key) where
      key : Key
      key = key_of x.item p

      by : Option ℕ → Mark
      by death = mark_by living (record { entry = x.id; part = p; birth = x.epoch; death = death })

      go : (a : Bool) → any_cover block later key ≡ a → (b : Bool)
          → by (cond a (first_cover block later key) (cond b (Some e.epoch) None))
          ≡ mark_then living (not a && b) x.epoch e.epoch (by (first_cover block later key))
      go true q b = refl
      go false q true = refl
      go false q false = ap by (sym (cover_some block later key q))

-- ---- all marks

abbrev own_marks : List ℕ → ℕ → Entry → List Entry → List Mark
own_marks living block x later = map (mark_by living) (pairs_of block x later)

module _ (living : List ℕ) (block : ℕ) where
  split : (x : Entry) (later : List Entry) → marks_anew living block (x ∷ later)
      ≡ own_marks living block x later ++ marks_anew living block later
  split x later = map-append (mark_by living) (pairs_of block x later) (pairs block later)

  own_len : (x : Entry) (later : List Entry) → length (own_marks living block x later) ≡ part_count x
  own_len x later = length-map (pairs_of block x later) (mark_by living) ∙ length-map (parts_of x.item) (pair_of block x later)

  own_at : (x : Entry) (later : List Entry) (n : ℕ) → n < part_count x
      → get_or (own_marks living block x later) n Current ≡ mark_by living (pair_of block x later (get_or (parts_of x.item) n part.Kind))
  own_at x later n lt = two (parts_of x.item) n lt where
    two : (ps : List Part) (n : ℕ) → n < length ps
        → get_or (map (mark_by living) (map (pair_of block x later) ps)) n Current
        ≡ mark_by living (pair_of block x later (get_or ps n part.Kind))
    two [] n lt = absurd (omega (arith, lt))
    two (p ∷ ps) zero lt = refl
    two (p ∷ ps) (suc n) lt = two ps n (omega (arith, lt))

  -- the mark of an entry's own part, and of a part behind them
  own_mark : (x : Entry) (later : List Entry) (n : ℕ) → n < part_count x
      → mark_or_fresh (marks_anew living block (x ∷ later)) n
      ≡ mark_by living (pair_of block x later (get_or (parts_of x.item) n part.Kind))
  own_mark x later n lt =
      ap (λ ms. get_or ms n Current) (split x later)
      ∙ get_or_append_left (own_marks living block x later) (marks_anew living block later) Current n (omega (arith, lt, own_len x later))
      ∙ own_at x later n lt

  later_mark : (x : Entry) (later : List Entry) (n : ℕ) → part_count x ≤ n
      → mark_or_fresh (marks_anew living block (x ∷ later)) n ≡ mark_or_fresh (marks_anew living block later) (n - part_count x)
  later_mark x later n le =
      ap (λ ms. get_or ms n Current) (split x later)
      ∙ get_or-append_right (own_marks living block x later) (marks_anew living block later) (part_count x) n Current (own_len x later) le

  -- alone all its parts are current
  alone : (e : Entry) (n : ℕ) → mark_or_fresh (marks_anew living block (e ∷ [])) n ≡ Current
  alone e n = ap (λ (ps : List Pair). get_or (map (mark_by living) ps) n Current) (append-nil (pairs_of block e []))
      ∙ all (parts_of e.item) n where
        all : (ps : List Part) (n : ℕ) → get_or (map (mark_by living) (map (pair_of block e []) ps)) n Current ≡ Current
        all [] n = refl
        all (p ∷ ps) zero = refl
        all (p ∷ ps) (suc n) = all ps n

  -- ONE MORE ENTRY ends the current parts whose keys it covers
  pub mark_next : (log : List Entry) (e : Entry) (n : ℕ)
      → mark_or_fresh (marks_anew living block (log ++ e ∷ [])) n
      ≡ mark_then living ((nat_lt n (part_total log) && not (is_covered block log n)) && covers block e.item (key_at log n))
      (birth_at log n) e.epoch (mark_or_fresh (marks_anew living block log) n)
  mark_next [] e n =
      let none : nat_lt n 0 ≡ false = le-ltb n 0 (omega arith) in
      alone e n
      ∙ ap (λ (b : Bool). mark_then living ((b && true) && covers block e.item (key_at [] n)) (birth_at [] n) e.epoch Current)
      (sym none)
  mark_next (x ∷ later) e n = go (cases_lt n (part_count x)) (mark_next later e (n - part_count x)) where
    go : (n < part_count x) ⊎ (part_count x ≤ n)
        → mark_or_fresh (marks_anew living block (later ++ e ∷ [])) (n - part_count x)
        ≡ mark_then living
        ((nat_lt (n - part_count x) (part_total later) && not (is_covered block later (n - part_count x)))
        && covers block e.item (key_at later (n - part_count x)))
        (birth_at later (n - part_count x)) e.epoch (mark_or_fresh (marks_anew living block later) (n - part_count x))
        → mark_or_fresh (marks_anew living block (x ∷ (later ++ e ∷ []))) n
        ≡ mark_then living
        ((nat_lt n (part_count x + part_total later) && not (is_covered block (x ∷ later) n))
        && covers block e.item (key_at (x ∷ later) n))
        (birth_at (x ∷ later) n) e.epoch (mark_or_fresh (marks_anew living block (x ∷ later)) n)
    go (inl lt) rest =
        let here : nat_lt n (part_count x) ≡ true = lt-ltb n (part_count x) lt in
        let low : nat_lt n (part_count x + part_total later) ≡ true = lt-ltb n (part_count x + part_total later) (omega (arith, lt)) in
        rw (here, low) (own_mark x (later ++ e ∷ []) n lt ∙ pair_next living block x e later (get_or (parts_of x.item) n part.Kind)
        ∙ ap (mark_then living (not (any_cover block later (part_key x n)) && covers block e.item (part_key x n)) x.epoch e.epoch)
        (sym (own_mark x later n lt)))
    go (inr le) rest =
        let past : nat_lt n (part_count x) ≡ false = le-ltb n (part_count x) le in
        let same : nat_lt n (part_count x + part_total later) ≡ nat_lt (n - part_count x) (part_total later) = shift le in
        rw (past, same) (later_mark x (later ++ e ∷ []) n le ∙ rest
        ∙ ap (mark_then living ((nat_lt (n - part_count x) (part_total later) && not (is_covered block later (n - part_count x)))
        && covers block e.item (key_at later (n - part_count x))) (birth_at later (n - part_count x)) e.epoch)
        (sym (later_mark x later n le)))
      where
        shift : part_count x ≤ n → nat_lt n (part_count x + part_total later) ≡ nat_lt (n - part_count x) (part_total later)
        shift le = by (cases_lt (n - part_count x) (part_total later)) where
          by : (n - part_count x < part_total later) ⊎ (part_total later ≤ n - part_count x)
              → nat_lt n (part_count x + part_total later) ≡ nat_lt (n - part_count x) (part_total later)
          by (inl a) = lt-ltb n (part_count x + part_total later) (omega (arith, a, le)) ∙ sym (lt-ltb (n - part_count x) (part_total later) a)
          by (inr b) = le-ltb n (part_count x + part_total later) (omega (arith, b, le)) ∙ sym (le-ltb (n - part_count x) (part_total later) b)

  pub len_anew : (log : List Entry) → length (marks_anew living block log) ≡ part_total log
  len_anew log = length-map (pairs block log) (mark_by living) ∙ length-pairs block log

-- ---- what is current

alive : (block : ℕ) (later : List Entry) (key : Key) (x : Entry) (p : Part)
    → pair_current (record { entry = x.id; part = p; birth = x.epoch; death = first_cover block later key })
    ≡ not (any_cover block later key)
alive block [] key x p = refl
alive block (y ∷ later) key x p = go (covers block y.item key) (alive block later key x p) where
  go : (b : Bool) → pair_current (record { entry = x.id; part = p; birth = x.epoch; death = first_cover block later key })
      ≡ not (any_cover block later key)
      → pair_current (record {
        entry = x.id;
        part = p;
        birth = x.epoch;
        death = cond b (Some y.epoch) (first_cover block later key);
      })
      ≡ not (b || any_cover block later key)
  go true rest = refl
  go false rest = rest

current_by : (living : List ℕ) (pair : Pair) → is_current (mark_by living pair) ≡ pair_current pair
current_by living pair = go (pair_current pair) (is_held living pair) where
  go : (a b : Bool) → is_current (cond a Current (cond b Kept Out)) ≡ a
  go true b = refl
  go false true = refl
  go false false = refl

-- a part is marked current where no later entry covers it
pub current_anew : (living : List ℕ) (block : ℕ) (log : List Entry) (n : ℕ) → n < part_total log
    → is_current (mark_or_fresh (marks_anew living block log) n) ≡ not (is_covered block log n)
current_anew living block [] n lt = absurd (omega (arith, lt))
current_anew living block (x ∷ later) n lt = go (cases_lt n (part_count x)) (λ low. current_anew living block later (n - part_count x) low) where
  go : (n < part_count x) ⊎ (part_count x ≤ n)
      → (n - part_count x < part_total later
      → is_current (mark_or_fresh (marks_anew living block later) (n - part_count x)) ≡ not (is_covered block later (n - part_count x)))
      → is_current (mark_or_fresh (marks_anew living block (x ∷ later)) n) ≡ not (is_covered block (x ∷ later) n)
  go (inl here) rest =
      rw (lt-ltb n (part_count x) here)
      (ap is_current (own_mark living block x later n here)
      ∙ current_by living (pair_of block x later (get_or (parts_of x.item) n part.Kind))
      ∙ alive block later (part_key x n) x (get_or (parts_of x.item) n part.Kind))
  go (inr past) rest =
      rw (le-ltb n (part_count x) past)
      (ap is_current (later_mark living block x later n past) ∙ rest (omega (arith, lt, past)))

-- the epoch of the entry that a part stands in is that of its birth
pub birth_is : (es : List Entry) (i n : ℕ) (e : Entry) → i < length es → e ≡ slice_index_or es i e
    → part_total (take i es) ≤ n → n < part_total (take (i + 1) es) → birth_at es n ≡ e.epoch
birth_is [] i n e lt is from to = absurd (omega (arith, lt))
birth_is (x ∷ es) zero n e lt is from to =
    let here : nat_lt n (part_count x) ≡ true = lt-ltb n (part_count x) (omega (arith, to)) in
    rw here (ap (λ (u : Entry). u.epoch) (sym is))
birth_is (x ∷ es) (suc i) n e lt is from to =
    let past : nat_lt n (part_count x) ≡ false = le-ltb n (part_count x) (omega (arith, from)) in
    let more : suc i + 1 ≡ suc (i + 1) = omega arith in
    let end : n < part_count x + part_total (take (i + 1) es) = rw more at to in
    rw past (birth_is es i (n - part_count x) e (omega (arith, lt)) is (omega (arith, from)) (omega (arith, end, from)))
