-- Pages that an entry takes over, with skips past those that are held.
use Rattle.std.proofs.Common.{◌≡◌, ◌&&◌, ◌⊎◌, inl, inr, ℕ, ◌+◌, ◌<◌, ◌≤◌, Bool, true, false, cond, List, length, Option, Some, None, IsSome, arith, refl, ap, sym, subst, ◌∙◌, set}
use Rattle.std.specs.Prelude.{max, min, nat_le, nat_lt, slice_index_or, unwrap_or}
use Rattle.std.specs.Option.{option_map, option_or}
use Rattle.std.proofs.lemmas.Bool.{cases_eq, cases_lt}
use Rattle.std.proofs.lemmas.Bool.Decides.{nat_tests}
use Rattle.std.proofs.lemmas.List.{get_or-set_other, get_or-set_same}
use Rattle.nv_base.specs.declared.numbers.EntryId.{EntryId}
use Rattle.nv_reader.specs.Writers.{AreSkips, entry_at}
use Rattle.nv_reader.specs.declared.pages.Writer.{Writer}

abbrev slot : List (Option Writer) → ℕ → Option Writer
slot writers page = slice_index_or writers page None

-- what an entry has taken over of the pages from `first` up to `end` that lie before `page`: what is skipped is held
-- once it has them all
pub record HasFilled (entry : EntryId) (first end page : ℕ) (was now : List (Option Writer)) : Type 0 where
  pub begun : first ≤ page
  pub holders : (q : ℕ) → entry_at now q
      ≡ cond (nat_le first q && nat_lt q (min page end)) (option_or (entry_at was q) (Some entry)) (entry_at was q)
  pub behind : (q : ℕ) → page ≤ q → slot now q ≡ slot was q
  pub ahead : (q : ℕ) (w : Writer) → slot now q ≡ Some w → q < w.past
  pub held : (p q : ℕ) (w : Writer) → slot now p ≡ Some w → p ≤ q → q < w.past → (page ≤ q → end ≤ q) → IsSome (slot now q)

-- where the loop begins
pub none_filled : (entry : EntryId) (first end : ℕ) (was : List (Option Writer)) → AreSkips was → HasFilled entry first end first was was
none_filled entry first end was skips = record {
  begun = omega arith;
  holders = λ q. ap (λ (b : Bool). cond b (option_or (entry_at was q) (Some entry)) (entry_at was q)) (none q);
  behind = λ q le. refl;
  ahead = skips.ahead;
  held = λ p q w at le lt out. skips.held p q w at le lt;
} where
  none : (q : ℕ) → false ≡ (nat_le first q && nat_lt q (min first end))
  none q = grind (arith, nat_tests)

-- ---- one more page

abbrev pub skipping : Writer → ℕ → Writer
skipping held end = record held { past = max held.past end }

-- who holds a page that no one held, and what is known of one that someone held
abbrev pub fresh : EntryId → ℕ → Writer
fresh entry page = record { entry = entry; past = page + 1 }

some_entry : (o : Option Writer) → IsSome o → IsSome (option_map (λ (w : Writer). w.entry) o)
some_entry None some = some
some_entry (Some w) some = refl

kept_held : (b : Bool) (o : Option EntryId) (entry : EntryId) → IsSome o → cond b (option_or o (Some entry)) o ≡ o
kept_held true (Some x) entry some = refl
kept_held false (Some x) entry some = refl
kept_held b None entry some = cc

same_test : (first q page past end : ℕ) → page < end → page < past → (page ≤ q → past ≤ q)
    → (nat_le first q && nat_lt q (min page end)) ≡ (nat_le first q && nat_lt q (min past end))
same_test first q page past end lt more out = go (cases_lt q page) where
  go : (q < page) ⊎ (page ≤ q) → (nat_le first q && nat_lt q (min page end)) ≡ (nat_le first q && nat_lt q (min past end))
  go (inl less) = grind (arith, nat_tests)
  go (inr ge) = let far : past ≤ q = out ge in grind (arith, nat_tests)

no_test : (first q page end : ℕ) → page ≤ q → (nat_le first q && nat_lt q (min page end)) ≡ false
no_test first q page end ge = grind (arith, nat_tests)

within_test : (first page past end : ℕ) → first ≤ page → page < end → page < past → (nat_le first page && nat_lt page (min past end)) ≡ true
within_test first page past end le lt more = grind (arith, nat_tests)

-- the pages after a page's slot was written
abbrev written : EntryId → ℕ → List (Option Writer) → ℕ → Writer → List (Option Writer)
written entry end now page held = set now page (Some (skipping held end))

abbrev told_by : EntryId → ℕ → ℕ → List (Option Writer) → ℕ → Option EntryId
told_by entry first bound was q = cond (nat_le first q && nat_lt q bound) (option_or (entry_at was q) (Some entry)) (entry_at was q)

holders_fresh : (entry : EntryId) (first end page : ℕ) (was now : List (Option Writer)) → HasFilled entry first end page was now
    → page < end → page < length now → slot now page ≡ None
    → (q : ℕ) → entry_at (written entry end now page (fresh entry page)) q ≡ told_by entry first (min (page + 1) end) was q
holders_fresh entry first end page was now h lt within none q = go (cases_eq q page) where
  put : Option Writer
  put = Some (skipping (fresh entry page) end)

  absent : entry_at was page ≡ None
  absent = ap (option_map (λ (w : Writer). w.entry)) (sym (h.behind page (omega arith)) ∙ none)

  here : entry_at (set now page put) page ≡ told_by entry first (min (page + 1) end) was page
  here = ap (option_map (λ (w : Writer). w.entry)) (get_or-set_same now page put None within)
      ∙ sym (ap (λ (b : Bool). cond b (option_or (entry_at was page) (Some entry)) (entry_at was page))
      (within_test first page (page + 1) end h.begun lt (omega arith))
      ∙ ap (λ (o : Option EntryId). option_or o (Some entry)) absent)

  go : (q ≡ page) ⊎ (q ≡ page → ⊥) → entry_at (set now page put) q ≡ told_by entry first (min (page + 1) end) was q
  go (inl same) = subst (λ (n : ℕ). entry_at (set now page put) n ≡ told_by entry first (min (page + 1) end) was n) (sym same) here
  go (inr ne) =
      ap (option_map (λ (w : Writer). w.entry)) (get_or-set_other now page q put None ne) ∙ h.holders q
      ∙ ap (λ (b : Bool). cond b (option_or (entry_at was q) (Some entry)) (entry_at was q))
      (same_test first q page (page + 1) end lt (omega arith) (λ ge. omega (arith, ge, ne)))

holders_held : (entry : EntryId) (first end page : ℕ) (was now : List (Option Writer)) → AreSkips was
    → HasFilled entry first end page was now
    → page < end → page < length now → (w : Writer) → slot now page ≡ Some w
    → (q : ℕ) → entry_at (written entry end now page w) q ≡ told_by entry first (min w.past end) was q
holders_held entry first end page was now skips h lt within w some q = same ∙ h.holders q ∙ go (cases_lt q page) (cases_lt q w.past) where
  put : Option Writer
  put = Some (skipping w end)

  before : slot was page ≡ Some w
  before = sym (h.behind page (omega arith)) ∙ some

  same : entry_at (set now page put) q ≡ entry_at now q
  same = go (cases_eq q page) where
    go : (q ≡ page) ⊎ (q ≡ page → ⊥) → entry_at (set now page put) q ≡ entry_at now q
    go (inl is) =
        subst (λ (n : ℕ). entry_at (set now page put) n ≡ entry_at now n) (sym is)
        (ap (option_map (λ (w : Writer). w.entry)) (get_or-set_same now page put None within)
        ∙ sym (ap (option_map (λ (w : Writer). w.entry)) some))
    go (inr ne) = ap (option_map (λ (w : Writer). w.entry)) (get_or-set_other now page q put None ne)

  moved : (nat_le first q && nat_lt q (min page end)) ≡ (nat_le first q && nat_lt q (min w.past end))
      → told_by entry first (min page end) was q ≡ told_by entry first (min w.past end) was q
  moved is = ap (λ (b : Bool). cond b (option_or (entry_at was q) (Some entry)) (entry_at was q)) is

  go : (q < page) ⊎ (page ≤ q) → (q < w.past) ⊎ (w.past ≤ q)
      → told_by entry first (min page end) was q ≡ told_by entry first (min w.past end) was q
  go (inl less) far = moved (same_test first q page w.past end lt (skips.ahead page w before) (λ ge. omega (arith, ge, less)))
  go (inr ge) (inr far) = moved (same_test first q page w.past end lt (skips.ahead page w before) (λ _. far))
  go (inr ge) (inl near) =
      let there : IsSome (entry_at was q) = some_entry (slot was q) (skips.held page q w before ge near) in
      ap (λ (b : Bool). cond b (option_or (entry_at was q) (Some entry)) (entry_at was q)) (no_test first q page end ge)
      ∙ sym (kept_held (nat_le first q && nat_lt q (min w.past end)) (entry_at was q) entry there)

-- one page more is gone over, from which on `held` says how far to go: each page up to there is held
filled_more : (entry : EntryId) (first end page : ℕ) (was now : List (Option Writer)) (held : Writer)
    → HasFilled entry first end page was now
    → page < end → page < length now → page < held.past → ((q : ℕ) → page < q → q < held.past → IsSome (slot was q))
    → ((q : ℕ) → entry_at (written entry end now page held) q ≡ told_by entry first (min held.past end) was q)
    → HasFilled entry first end held.past was (written entry end now page held)
filled_more entry first end page was now held h lt within more between holders = record {
  begun = omega (arith, h.begun, more);
  holders = holders;
  behind = λ q le. other q (λ is. omega (arith, is, le, more)) ∙ h.behind q (omega (arith, le, more));
  ahead = λ q w at. ahead q w at (cases_eq q page);
  held = λ p q w at le lt out. kept p q w at le lt out (cases_eq q page);
} where
  put : Writer
  put = skipping held end

  after : List (Option Writer)
  after = set now page (Some put)

  at_page : slot after page ≡ Some put
  at_page = get_or-set_same now page (Some put) None within

  other : (q : ℕ) → (q ≡ page → ⊥) → slot after q ≡ slot now q
  other q ne = get_or-set_other now page q (Some put) None ne

  own : (q : ℕ) (w : Writer) → slot after q ≡ Some w → q ≡ page → w ≡ put
  own q w at is = let same : Some w ≡ Some put = sym at ∙ ap (slot after) is ∙ at_page in cc

  ahead : (q : ℕ) (w : Writer) → slot after q ≡ Some w → (q ≡ page) ⊎ (q ≡ page → ⊥) → q < w.past
  ahead q w at (inl is) = omega (arith, is, more, ap (λ (x : Writer). x.past) (own q w at is))
  ahead q w at (inr ne) = h.ahead q w (sym (other q ne) ∙ at)

  kept : (p q : ℕ) (w : Writer) → slot after p ≡ Some w → p ≤ q → q < w.past → (held.past ≤ q → end ≤ q)
      → (q ≡ page) ⊎ (q ≡ page → ⊥) → IsSome (slot after q)
  kept p q w at le lt out (inl is) =
      subst (λ (n : ℕ). IsSome (slot after n)) (sym is) (subst (λ (o : Option Writer). IsSome o) (sym at_page) refl)
  kept p q w at le lt out (inr ne) =
      subst (λ (o : Option Writer). IsSome o) (sym (other q ne)) (go (cases_lt q page) (cases_lt q held.past)) where
        old : (page ≤ q → held.past ≤ q) → IsSome (slot now q)
        old past = elim (cases_eq p page) [
          | inl is ↦ absurd (omega (arith, is, le, lt, past, out, ap (λ (x : Writer). x.past) (own p w at is)))
          | inr differs ↦ h.held p q w (sym (other p differs) ∙ at) le lt (λ ge. out (past ge))
        ]

        go : (q < page) ⊎ (page ≤ q) → (q < held.past) ⊎ (held.past ≤ q) → IsSome (slot now q)
        go (inl less) far = old (λ ge. absurd (omega (arith, ge, less)))
        go (inr ge) (inl near) = subst (λ (o : Option Writer). IsSome o) (sym (h.behind q ge)) (between q (omega (arith, ge, ne)) near)
        go (inr ge) (inr far) = old (λ _. far)

-- the same by what stands at the page, and that the loop goes on
pub record GoesOn (entry : EntryId) (first end page : ℕ) (was now : List (Option Writer)) (held : Writer) : Type 0 where
  pub more : page < held.past
  pub filled : HasFilled entry first end held.past was (set now page (Some (skipping held end)))

pub goes_on : (entry : EntryId) (first end page : ℕ) (was now : List (Option Writer)) (held : Writer) → AreSkips was
    → HasFilled entry first end page was now → page < end → page < length now → held ≡ unwrap_or (slot now page) (fresh entry page)
    → GoesOn entry first end page was now held
goes_on entry first end page was now held skips h lt within is = go (slot now page) refl where
  go : (o : Option Writer) → slot now page ≡ o → GoesOn entry first end page was now held
  go None none =
      let same : held ≡ fresh entry page = is ∙ ap (λ (o : Option Writer). unwrap_or o (fresh entry page)) none in
      subst (λ (w : Writer). GoesOn entry first end page was now w) (sym same) (record {
        more = omega arith;
        filled = filled_more entry first end page was now (fresh entry page) h lt within (omega arith)
            (λ q above below. absurd (omega (arith, above, below))) (holders_fresh entry first end page was now h lt within none);
      })
  go (Some w) some =
      let same : held ≡ w = is ∙ ap (λ (o : Option Writer). unwrap_or o (fresh entry page)) some in
      let before : slot was page ≡ Some w = sym (h.behind page (omega arith)) ∙ some in
      subst (λ (x : Writer). GoesOn entry first end page was now x) (sym same) (record {
        more = skips.ahead page w before;
        filled = filled_more entry first end page was now w h lt within (skips.ahead page w before)
            (λ q above below. skips.held page q w before (omega (arith, above)) below)
            (holders_held entry first end page was now skips h lt within w some);
      })

-- once the run is gone over, its pages are held and each skip is sound
pub all_filled : (entry : EntryId) (first end page : ℕ) (was now : List (Option Writer)) → HasFilled entry first end page was now
    → end ≤ page → AreSkips now
all_filled entry first end page was now h past = record {
  ahead = h.ahead;
  held = λ p q w at le lt. h.held p q w at le lt (λ ge. omega (arith, ge, past));
}
