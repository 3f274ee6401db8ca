-- A walk over the entries of a log that tells whether those that go may do so.
use Rattle.std.proofs.Common.{◌≡◌, ℕ, zero, suc, ◌+◌, ◌-◌, ◌<◌, ◌≤◌, Bool, true, false, cond, ◌||◌, List, [], ◌∷◌, ◌++◌, length, take, drop, get_or, nat_lt, arith, refl, ap, sym, ◌∙◌, subst}
use Rattle.std.specs.List.{AllByRecursion, list_any}
use Rattle.std.proofs.lemmas.List.{append-nil, drop-drop, drop_all, get_or_default, length-take, take-take}
use Rattle.nv_entry.specs.declared.item.Entry.{Entry}
use Rattle.nv_entry.specs.Clean.{hides, select}
use Rattle.nv_entry.specs.Covered.{part_count, part_total}
use Rattle.nv_entry.specs.Leaving.{HidesNone}
use Rattle.nv_entry.proofs.Flags.{rest_is}
use Rattle.nv_entry.proofs.Hiding.{hides-false_before, hides_nothing_before}
use Rattle.nv_log.specs.Chain.{gone_of, log}
use Rattle.nv_cell.specs.declared.cell.InodeCell.TheInside.{Inside}
use Rattle.nv_cell.specs.declared.mark.Mark.{Mark}
use Rattle.nv_cell.specs.Fields.{AreFields}
use Rattle.nv_cell.specs.declared.mark.Mark.TheVariants.{Out}
use Rattle.nv_cell.specs.Marks.{is_there}
use Rattle.nv_cell.specs.Numbers.{part_base}
use Rattle.nv_cell.specs.Removal.{HideNoneLeft, part_flags}
use Rattle.nv_cell.specs.Tallies.{end_at, is_valid, start_at, tally_at}
use Rattle.nv_cell.proofs.Droppable.{all_out}
use Rattle.nv_cell.proofs.PageMarks.{any_counts}
use Rattle.nv_cell.proofs.Publishes.{first_base}
use Rattle.nv_cell.proofs.RunFlags.{all_append, AreNext, IsAt, flags_end, goes_on, gone_of-run, next_of, part_totals, run_gone}

abbrev pub AreOut : List Mark → Type 0
AreOut marks = AllByRecursion (λ m. m ≡ Out) marks

-- the marks of the entry at a place
abbrev pub marks_at : List Entry → List Mark → ℕ → Entry → List Mark
marks_at es marks i e = take (part_count e) (drop (part_base es i) marks)

-- what is left to say of the entries from a place on
pub record RestGoes (block : ℕ) (flags : List Bool) (es : List Entry) (marks : List Mark) (i : ℕ) : Type 0 where
  pub out : AreOut (gone_of (part_flags (drop i flags) (drop i es)) (drop (part_base es i) marks))
  pub hidden : HideNoneLeft block (select (take i flags) es) (drop i es) (drop i flags)

-- an entry whose parts are out, and that hides none of those before it that stay
pub record Goes (block : ℕ) (flags : List Bool) (es : List Entry) (marks : List Mark) (i : ℕ) (e : Entry) : Type 0 where
  pub out : AreOut (marks_at es marks i e)
  pub hidden : HidesNone block (select (take i flags) es) e

select_next : (flags : List Bool) (es : List Entry) (i : ℕ) (b : Bool) (e : Entry) → i < length flags → i < length es
    → b ≡ get_or flags i b → e ≡ get_or es i e → select (take (i + 1) flags) es ≡ select (take i flags) es ++ cond b (e ∷ []) []
select_next [] es i b e lf le qb qe = absurd (omega arith)
select_next (c ∷ flags) [] i b e lf le qb qe = absurd (omega arith)
select_next (c ∷ flags) (x ∷ es) zero b e lf le qb qe = rw (qb, qe) refl
select_next (c ∷ flags) (x ∷ es) (suc i) b e lf le qb qe =
    let s : suc i + 1 ≡ suc (i + 1) = omega arith in
    rw s (go c (select_next flags es i b e (omega (arith, lf)) (omega (arith, le)) qb qe)) where
      go : (c : Bool) → select (take (i + 1) flags) es ≡ select (take i flags) es ++ cond b (e ∷ []) []
          → select (c ∷ take (i + 1) flags) (x ∷ es) ≡ select (c ∷ take i flags) (x ∷ es) ++ cond b (e ∷ []) []
      go true h = ap (λ (ys : List Entry). x ∷ ys) h
      go false h = h

module _ {flags : List Bool} {es : List Entry} {i : ℕ} {e : Entry} (block : ℕ) (marks : List Mark) (at : IsAt flags es i e) where
  ahead : (b : Bool) → b ≡ get_or flags i b
      → HideNoneLeft block (select (take i flags) es) (drop i es) (drop i flags)
      ≡ HideNoneLeft block (select (take i flags) es) (e ∷ drop (i + 1) es) (b ∷ drop (i + 1) flags)
  ahead b is =
      ap (λ (xs : List Entry). HideNoneLeft block (select (take i flags) es) xs (drop i flags)) (rest_is es i e at.entry at.is)
      ∙ ap (HideNoneLeft block (select (take i flags) es) (e ∷ drop (i + 1) es)) (rest_is flags i b at.flag is)

  stays_hidden : true ≡ get_or flags i true
      → HideNoneLeft block (select (take i flags) es) (drop i es) (drop i flags)
      ≡ HideNoneLeft block (select (take (i + 1) flags) es) (drop (i + 1) es) (drop (i + 1) flags)
  stays_hidden is =
      ahead true is
      ∙ ap (λ (xs : List Entry). HideNoneLeft block xs (drop (i + 1) es) (drop (i + 1) flags))
      (sym (select_next flags es i true e at.flag at.entry is at.is))

  goes_hidden : false ≡ get_or flags i false
      → HideNoneLeft block (select (take i flags) es) (drop i es) (drop i flags)
      ≡ (HidesNone block (select (take i flags) es) e
      × HideNoneLeft block (select (take (i + 1) flags) es) (drop (i + 1) es) (drop (i + 1) flags))
  goes_hidden is =
      let same : select (take i flags) es ≡ select (take (i + 1) flags) es =
      sym (select_next flags es i false e at.flag at.entry is at.is ∙ append-nil (select (take i flags) es)) in
      ahead false is
      ∙ ap (λ (xs : List Entry). HidesNone block (select (take i flags) es) e
      × HideNoneLeft block xs (drop (i + 1) es) (drop (i + 1) flags)) same

  next : (b : Bool) → b ≡ get_or flags i b → AreNext part_count part_total flags es i b e
  next b is = next_of part_totals at is

  out_before : (b : Bool) → b ≡ get_or flags i b → AreOut (cond b [] (marks_at es marks i e))
      → AreOut (gone_of (part_flags (drop (i + 1) flags) (drop (i + 1) es)) (drop (part_base es (i + 1)) marks))
      → AreOut (gone_of (part_flags (drop i flags) (drop i es)) (drop (part_base es i) marks))
  out_before b is front rest =
      let n = next b is in
      let c = part_count e in
      let xs = drop (part_base es i) marks in
      let later = part_flags (drop (i + 1) flags) (drop (i + 1) es) in
      let split : gone_of (part_flags (drop i flags) (drop i es)) xs
      ≡ cond b [] (take c xs) ++ gone_of later (drop (part_base es (i + 1)) marks) =
      ap (λ (fs : List Bool). gone_of fs xs) n.ahead ∙ gone_of-run c b later xs
      ∙ ap (λ (ms : List Mark). cond b [] (take c xs) ++ gone_of later ms)
      (drop-drop c (part_base es i) marks ∙ ap (λ (k : ℕ). drop k marks) (sym n.to)) in
      subst AreOut (sym split)
      (all_append (λ m. m ≡ Out) (cond b [] (take c xs)) (gone_of later (drop (part_base es (i + 1)) marks)) front rest)

  -- what the entries from one on may do, the later ones may do
  pub rest_goes : (b : Bool) → b ≡ get_or flags i b → RestGoes block flags es marks i → RestGoes block flags es marks (i + 1)
  rest_goes true is rest = record {
    out = goes_on (λ m. m ≡ Out) marks flags es i true e (next true is) rest.out;
    hidden = subst (λ (t : Type 0). t) (stays_hidden is) rest.hidden;
  }
  rest_goes false is rest = record {
    out = goes_on (λ m. m ≡ Out) marks flags es i false e (next false is) rest.out;
    hidden = (subst (λ (t : Type 0). t) (goes_hidden is) rest.hidden).1;
  }

  -- and where one of them goes, so may it
  pub one_goes : false ≡ get_or flags i false → RestGoes block flags es marks i → Goes block flags es marks i e
  one_goes is rest = record {
    out = run_gone (λ m. m ≡ Out) (part_count e) (part_flags (drop (i + 1) flags) (drop (i + 1) es)) (drop (part_base es i) marks)
        (subst (λ (fs : List Bool). AreOut (gone_of fs (drop (part_base es i) marks))) (next false is).ahead rest.out);
    hidden = (subst (λ (t : Type 0). t) (goes_hidden is) rest.hidden).0;
  }

  -- the other way round
  pub stays_before : true ≡ get_or flags i true → RestGoes block flags es marks (i + 1) → RestGoes block flags es marks i
  stays_before is rest = record {
    out = out_before true is tt rest.out;
    hidden = subst (λ (t : Type 0). t) (sym (stays_hidden is)) rest.hidden;
  }

  pub goes_before : false ≡ get_or flags i false → Goes block flags es marks i e → RestGoes block flags es marks (i + 1)
      → RestGoes block flags es marks i
  goes_before is one rest = record {
    out = out_before false is one.out rest.out;
    hidden = subst (λ (t : Type 0). t) (sym (goes_hidden is)) (one.hidden, rest.hidden);
  }

  -- the tally of the entry tells whether its parts are out
  pub front_is : (ends : List ℕ) → start_at ends i ≡ part_base es i → end_at ends i ≡ part_base es (i + 1)
      → take (end_at ends i - start_at ends i) (drop (start_at ends i) marks) ≡ marks_at es marks i e
  front_is ends from to =
      let n : AreNext part_count part_total flags es i (get_or flags i true) e = next (get_or flags i true) (own flags i at.flag) in
      let len : end_at ends i - start_at ends i ≡ part_count e = omega (arith, from, to, n.to) in
      ap (λ (k : ℕ). take k (drop (start_at ends i) marks)) len ∙ ap (λ (k : ℕ). take (part_count e) (drop k marks)) from
    where
      own : (flags : List Bool) (i : ℕ) → i < length flags → get_or flags i true ≡ get_or flags i (get_or flags i true)
      own flags i lt = get_or_default flags i true (get_or flags i true) lt

-- none is left to go
pub none_left : (block : ℕ) (flags : List Bool) (es : List Entry) (marks : List Mark) (i : ℕ) → length flags ≤ i → length es ≤ i
    → RestGoes block flags es marks i
none_left block flags es marks i lf le = record {
  out = subst (λ (fs : List Bool). AreOut (gone_of fs (drop (part_base es i) marks))) (sym (flags_end part_count flags es i lf)) tt;
  hidden =
      subst (λ (xs : List Entry). HideNoneLeft block (select (take i flags) es) xs (drop i flags)) (sym (drop_all i es le)) tt;
}

none_there : (marks : List Mark) → AreOut marks → list_any is_there marks ≡ false
none_there [] all = refl
none_there (m ∷ marks) all = rw (all.0) (none_there marks all.1)

pub there_or_out : (marks : List Mark) (there : Bool) → there ≡ list_any is_there marks
    → (there ≡ false → AreOut marks) × (AreOut marks → there ≡ false)
there_or_out marks there is = (λ none. all_out marks (sym is ∙ none), λ all. is ∙ none_there marks all)

-- an entry that stays, and passes a test
pub any_here : {flags : List Bool} {log : List Entry} {i : ℕ} {e : Entry} (test : Entry → Bool) → IsAt flags log i e
    → true ≡ get_or flags i true → test e ≡ true → list_any test (select (drop i flags) (drop i log)) ≡ true
any_here {flags} {log} {i} {e} test at stays passes =
    ap (λ (fs : List Bool). list_any test (select fs (drop i log))) (rest_is flags i true at.flag stays)
    ∙ ap (λ (xs : List Entry). list_any test (select (true ∷ drop (i + 1) flags) xs)) (rest_is log i e at.entry at.is)
    ∙ ap (λ (b : Bool). b || list_any test (select (drop (i + 1) flags) (drop (i + 1) log))) passes

-- an entry and its flag are also at their place in the first flags
pub at_front : {flags : List Bool} {es : List Entry} {i : ℕ} {e : Entry} (n : ℕ) → IsAt flags es i e → i < n → IsAt (take n flags) es i e
at_front {flags} n at lt = record { flag = omega (arith, length-take n flags, at.flag, lt); entry = at.entry; is = at.is }

-- ---- a cell's log

-- whether a part of an entry is not out, by its tally
pub there_is : {flags : List Bool} {i : ℕ} {e : Entry} (cell : Inside) → AreFields cell → IsAt flags (log cell.chain.state) i e
    → is_valid (tally_at cell.marks.tallies.items i) ≡ list_any is_there (marks_at (log cell.chain.state) cell.marks.marks.items i e)
there_is {i = i} cell inv at =
    let chain = cell.chain.state in
    let ends = cell.marks.ends.items in
    let marks = cell.marks.marks.items in
    let tallied = inv.tallied.tallies in
    let lt : i < chain.tail = omega (arith, at.entry, length-take chain.tail chain.entries) in
    let from : start_at ends i ≡ part_base (log chain) i =
    first_base ends chain.entries chain.tail inv.ends i lt
    ∙ ap part_total (sym (take-take i chain.tail chain.entries (omega (arith, lt)))) in
    let to : end_at ends i ≡ part_base (log chain) (i + 1) =
    inv.ends i lt ∙ ap part_total (sym (take-take (i + 1) chain.tail chain.entries (omega (arith, lt)))) in
    let part = front_is 0 marks at ends from to in
    ap (nat_lt 0) (tallied.there i (omega (arith, inv.ends_len, lt)))
    ∙ sym (any_counts is_there (take (end_at ends i - start_at ends i) (drop (start_at ends i) marks))) ∙ ap (list_any is_there) part

-- an entry that goes: its parts, and what it hides
module _ {block : ℕ} {flags : List Bool} {es : List Entry} {marks : List Mark} {i : ℕ} {e : Entry} where
  pub goes_is : {there : Bool} → there ≡ list_any is_there (marks_at es marks i e) → there ≡ false
      → list_any (λ (f : Entry). hides block e.item f.item) (select (take i flags) es) ≡ false → Goes block flags es marks i e
  goes_is {there} is none hidden = record {
    out = (there_or_out (marks_at es marks i e) there is).0 none;
    hidden = hides_nothing_before block e.item (select (take i flags) es) hidden;
  }

  pub not_there : {there : Bool} → there ≡ list_any is_there (marks_at es marks i e) → Goes block flags es marks i e → there ≡ false
  not_there {there} is goes = (there_or_out (marks_at es marks i e) there is).1 goes.out

  pub not_hidden : Goes block flags es marks i e → list_any (λ (f : Entry). hides block e.item f.item) (select (take i flags) es) ≡ false
  not_hidden goes = hides-false_before block e.item (select (take i flags) es) goes.hidden
