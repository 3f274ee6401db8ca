-- What events change of a state, and undone again.
use Rattle.std.proofs.Common.{◌≡◌, ◌≢◌, ℕ, zero, suc, ◌+◌, ◌-◌, ◌<◌, ◌≤◌, ◌==◌, Bool, true, false, not, cond, nat_lt, List, [], ◌∷◌, ◌++◌, length, get_or, drop, Some, None, arith, refl, ap, sym, ◌∙◌, subst, slice_get, length-append}
use Rattle.std.specs.List.{All, Contains, insert}
use Rattle.std.proofs.lemmas.Bool.{eq-eqb, ne_eqb, eqb-true, eqb-false, lt-ltb, le-ltb, ltb-true, ltb-false}
use Rattle.std.proofs.lemmas.List.Elements.{All-append, All-contains, All-filter}
use Rattle.circular_buffer.specs.Buffer.{keep_last}
use Rattle.nv_epoch.specs.Holders.{IsRising, without}
use Rattle.nv_epoch.proofs.Last.{IsRising-push, IsRising-filter}
use Rattle.nv_book.specs.declared.event.Event.{Event}
use Rattle.nv_book.specs.declared.event.Event.TheVariants.{Committed, Made, Dropped}
use Rattle.nv_book.specs.History.{Account, State, IsHistory, IsOrdered, IsNext, IsLegal, after, before, folded, longer, noted, put_back, replay, told, undone}

without-none : (s : ℕ) (living : List ℕ) → ((t : ℕ) → Contains living t → t ≢ s) → without s living ≡ living
without-none s [] other = refl
without-none s (t ∷ ts) other =
    rw (ne_eqb t s (other t (0, omega arith, refl)))
    (ap (λ us. t ∷ us) (without-none s ts (λ u lives. other u (suc lives.0, (let lt = lives.1 in omega (arith, lt)), lives.2))))

-- a number above all others, added and taken out
added-out : (s : ℕ) (living : List ℕ) → All (λ t. t < s) living → without s (living ++ s ∷ []) ≡ living
added-out s [] below = rw (eq-eqb s s refl) refl
added-out s (t ∷ ts) below =
    let lt : t < s = below 0 0 (omega arith) in
    rw (ne_eqb t s (λ e. absurd (omega (arith, lt, e))))
    (ap (λ us. t ∷ us) (added-out s ts (λ k d in'. below (suc k) d (omega (arith, in')))))

-- a living number, taken out and put back
out-back : (s : ℕ) (living : List ℕ) → IsRising living → Contains living s → put_back s (without s living) ≡ living
out-back s [] rising lives = absurd (let lt = lives.1 in omega (arith, lt))
out-back s (t ∷ ts) rising lives = go (t == s) refl (λ h. out-back s ts rising.1 h) where
  first : (us : List ℕ) → All (λ u. s < u) us → put_back s us ≡ s ∷ us
  first [] above = refl
  first (u ∷ us) above = let lt : s < u = above 0 0 (omega arith) in rw (le-ltb u s (omega (arith, lt))) refl

  later : (t ≡ s → ⊥) → (k : ℕ) → k < length (t ∷ ts) → get_or (t ∷ ts) k s ≡ s → Contains ts s
  later ne zero lt e = absurd (ne e)
  later ne (suc k) lt e = (k, omega (arith, lt), e)

  go : (b : Bool) → (t == s) ≡ b → (Contains ts s → put_back s (without s ts) ≡ ts) →
      put_back s (cond (not b) (t ∷ without s ts) (without s ts)) ≡ t ∷ ts
  go true e back =
      let same : t ≡ s = eqb-true t s e in
      let above : All (λ u. s < u) ts = subst (λ n. All (λ u. n < u) ts) same rising.0 in
      ap (put_back s) (without-none s ts (λ u in' is. let lt = All-contains (λ v. s < v) ts u above in' in omega (arith, lt, is)))
      ∙ (first ts above ∙ ap (λ n. n ∷ ts) (sym same))
  go false e back =
      let h = later (eqb-false t s e) lives.0 lives.1 lives.2 in
      let lt : t < s = All-contains (λ v. t < v) ts s rising.0 h in
      rw (lt-ltb t s lt) (ap (λ us. t ∷ us) (back h))

undone-one : (most : ℕ) (now : State) (e : Event) → IsOrdered now → IsNext most now e → before (after now e) e ≡ now
undone-one most now (Committed seat number epoch) ordered next =
    let at = next.0 in
    let one : number - 1 ≡ now.commit = omega (arith, at) in
    ap (λ (n : ℕ). record now { commit = n }) one
undone-one most now (Made s) ordered next =
    let same : without s (now.living ++ s ∷ []) ≡ now.living =
    added-out s now.living (subst (λ n. All (λ t. t < n) now.living) (sym next.0) ordered.below_epoch) in
    ap (λ (n : ℕ). record now { epoch = n; living = without s (now.living ++ s ∷ []) }) next.0
    ∙ ap (λ (l : List ℕ). record now { living = l }) same
undone-one most now (Dropped s) ordered next =
    ap (λ (l : List ℕ). record now { living = l }) (out-back s now.living ordered.rising next)

ordered-after : (most : ℕ) (now : State) (e : Event) → IsOrdered now → IsNext most now e → IsOrdered (after now e)
ordered-after most now (Committed seat number epoch) ordered next =
    record { rising = ordered.rising; below_epoch = ordered.below_epoch }
ordered-after most now (Made s) ordered next =
    let below : All (λ t. t < s) now.living = subst (λ n. All (λ t. t < n) now.living) (sym next.0) ordered.below_epoch in
    record {
      rising = IsRising-push now.living s ordered.rising below;
      below_epoch = All-append (λ t. t < s + 1) now.living (s ∷ []) (λ k d in'. let lt = below k d in' in omega (arith, lt)) one;
    }
  where
    one : All (λ t. t < s + 1) (s ∷ [])
    one zero d in' = omega arith
    one (suc k) d in' = absurd (omega (arith, in'))
ordered-after most now (Dropped s) ordered next = record {
  rising = IsRising-filter (λ t. not (t == s)) now.living ordered.rising;
  below_epoch = All-filter (λ t. not (t == s)) (λ t. t < now.epoch) now.living ordered.below_epoch;
}

-- a legal list of events leads back to where it began
undone-all : (most : ℕ) (base : State) (es : List Event) → IsOrdered base → IsLegal most base es → undone (replay base es) es ≡ base
unfolding IsLegal replay undone
undone-all most base [] ordered legal = refl
undone-all most base (e ∷ es) ordered legal =
    ap (λ s. before s e) (undone-all most (after base e) es (ordered-after most base e ordered legal.0) legal.1)
    ∙ undone-one most base e ordered legal.0

-- what is told of a state and the events that lead to it
record Tells (most : ℕ) (now : State) (es : List Event) (account : Account) : Type 0 where
  pub history : IsHistory most now es
  pub same : told now es ≡ account

tells : (most : ℕ) (base now : State) (es : List Event) → IsOrdered base → IsLegal most base es → replay base es ≡ now →
    Tells most now es (record { base = base; latest = es })
tells most base now es ordered legal leads =
    let back : undone now es ≡ base = ap (λ s. undone s es) (sym leads) ∙ undone-all most base es ordered legal in
    record {
      history = record {
        legal = subst (λ s. IsLegal most s es) (sym back) legal;
        ordered = subst IsOrdered (sym back) ordered;
        leads = ap (λ s. replay s es) back ∙ leads;
      };
      same = ap (λ (s : State). record { base = s; latest = es }) back;
    }

-- the same once the first event is in the base
tells-folded : (most : ℕ) (base now : State) (es : List Event) → 0 < length es → IsOrdered base → IsLegal most base es →
    replay base es ≡ now → Tells most now (drop 1 es) (folded (record { base = base; latest = es }))
unfolding IsLegal replay
tells-folded most base now [] some ordered legal leads = absurd (omega (arith, some))
tells-folded most base now (e ∷ es) some ordered legal leads =
    tells most (after base e) now es (ordered-after most base e ordered legal.0) legal.1 leads

legal-longer : (most : ℕ) (base : State) (es : List Event) (e : Event) → IsLegal most base es → IsNext most (replay base es) e →
    IsLegal most base (es ++ e ∷ [])
unfolding IsLegal replay
legal-longer most base [] e h n = (n, tt)
legal-longer most base (x ∷ es) e h n = (h.0, legal-longer most (after base x) es e h.1 n)

replay-longer : (base : State) (es : List Event) (e : Event) → replay base (es ++ e ∷ []) ≡ after (replay base es) e
unfolding replay
replay-longer base [] e = refl
replay-longer base (x ∷ es) e = replay-longer (after base x) es e

-- an event is noted where n are kept
module _ (n most : ℕ) (now : State) (es : List Event) (e : Event) (fits : length es ≤ n) (h : IsHistory most now es)
    (next : IsNext most now e) where
  abbrev all : List Event
  all = es ++ e ∷ []

  legal : IsLegal most (undone now es) all
  legal = legal-longer most (undone now es) es e h.legal (subst (λ s. IsNext most s e) (sym h.leads) next)

  leads : replay (undone now es) all ≡ after now e
  leads = replay-longer (undone now es) es e ∙ ap (λ s. after s e) h.leads

  go : (b : Bool) → nat_lt (length es) n ≡ b →
      Tells most (after now e) (keep_last n all) (cond b (longer (told now es) e) (folded (longer (told now es) e)))
  go true p =
      let less : length es < n = ltb-true (length es) n p in
      let none : length all - n ≡ 0 = omega (arith, less, length-append es (e ∷ [])) in
      subst (λ m. Tells most (after now e) (drop m all) (longer (told now es) e)) (sym none)
      (tells most (undone now es) (after now e) all h.ordered legal leads)
  go false p =
      let full : n ≤ length es = ltb-false (length es) n p in
      let one : length all - n ≡ 1 = omega (arith, full, fits, length-append es (e ∷ [])) in
      let some : 0 < length all = omega (arith, length-append es (e ∷ [])) in
      subst (λ m. Tells most (after now e) (drop m all) (folded (longer (told now es) e))) (sym one)
      (tells-folded most (undone now es) (after now e) all some h.ordered legal leads)

  pub notes : IsHistory most (after now e) (keep_last n all) × (told (after now e) (keep_last n all) ≡ noted n (told now es) e)
  notes = let t = go (nat_lt (length es) n) refl in (t.history, t.same)

-- the place before the first number that is not below s
pub put-place : (living : List ℕ) (place s : ℕ) → place ≤ length living → ((k : ℕ) → k < place → get_or living k 0 < s) →
    (place < length living → s ≤ get_or living place 0) → insert living place s ≡ put_back s living
put-place [] zero s within below at = refl
put-place [] (suc place) s within below at = absurd (omega (arith, within))
put-place (t ∷ ts) zero s within below at = rw (le-ltb t s (at (omega arith))) refl
put-place (t ∷ ts) (suc place) s within below at =
    let lt : t < s = below 0 (omega arith) in
    rw (lt-ltb t s lt) (ap (λ us. t ∷ us) (put-place ts place s (omega (arith, within)) (λ k lt'. below (suc k) (omega (arith, lt')))
    (λ lt'. at (omega (arith, lt')))))

-- an event more is undone
pub undone-from : (now : State) (es : List Event) (k : ℕ) (e : Event) → slice_get es k ≡ Some e →
    before (undone now (drop (suc k) es)) e ≡ undone now (drop k es)
unfolding undone
undone-from now [] k e at = cc
undone-from now (x ∷ es) zero e at = let same : x ≡ e = cc in ap (λ y. before (undone now es) y) (sym same)
undone-from now (x ∷ es) (suc k) e at = undone-from now es k e at

-- without events nothing is undone
pub undone-end : (now : State) (es : List Event) (k : ℕ) → length es ≤ k → undone now (drop k es) ≡ now
unfolding undone
undone-end now [] zero past = refl
undone-end now [] (suc k) past = refl
undone-end now (e ∷ es) zero past = absurd (omega (arith, past))
undone-end now (e ∷ es) (suc k) past = undone-end now es k (omega (arith, past))

pub event-there : (es : List Event) (k : ℕ) → k < length es → slice_get es k ≡ None → ⊥
event-there [] k lt none = omega (arith, lt)
event-there (e ∷ es) zero lt none = cc
event-there (e ∷ es) (suc k) lt none = event-there es k (omega (arith, lt)) none
