-- How many places end at a page or before.
use Rattle.std.proofs.Common.{◌≡◌, ℕ, zero, suc, ◌+◌, ◌<◌, ◌≤◌, nat_lt, Bool, true, false, cond, List, [], ◌∷◌, length, get_or, Option, refl, sym, subst, ap, ◌∙◌, arith}
use Rattle.std.proofs.lemmas.Bool.{ltb-true}
use Rattle.std.proofs.lemmas.List.{get_or_default}
use Rattle.nv_findex.specs.declared.page_ref.PageRef.{PageRef}
use Rattle.nv_findex.specs.declared.page_run.PageRun.{PageRun}
use Rattle.nv_findex.specs.Runs.{AreRunsFrom, ArePlaces, EmptyFollow, EndsBefore, EndsBehind, IsBorder, present}

-- the first of places from p on, and what holds of those behind it
pub record Opened (p : ℕ) (r : PageRun) (rs : List PageRun) : Type 0 where
  pub rise : p ≤ r.end
  pub last : Option PageRef
  pub runs : AreRunsFrom r.end last (present rs)

pub opened : (p : ℕ) (a : Option PageRef) (r : PageRun) (rs : List PageRun) → AreRunsFrom p a (present (r ∷ rs)) → EmptyFollow p (r ∷ rs) → Opened p r rs
unfolding AreRunsFrom EmptyFollow
opened p a r rs h e = go (nat_lt r.first r.end) refl h where
  go : (c : Bool) → nat_lt r.first r.end ≡ c → AreRunsFrom p a (cond c (r ∷ present rs) (present rs)) → Opened p r rs
  go true t k = record { rise = omega (arith, k.0, ltb-true _ _ t); last = _; runs = k.3 }
  go false t k = record { rise = omega (arith, e.0 t); last = a; runs = subst (λ (n : ℕ). AreRunsFrom n a (present rs)) (sym (e.0 t)) k }

pub ends_rise : (p : ℕ) (a : Option PageRef) (rs : List PageRun) → AreRunsFrom p a (present rs) → EmptyFollow p rs → (i j : ℕ) (d : PageRun) → i ≤ j → j < length rs
    → (p ≤ (get_or rs i d).end) × ((get_or rs i d).end ≤ (get_or rs j d).end)
unfolding EmptyFollow
ends_rise p a [] h e i j d le lt = absurd (omega arith)
ends_rise p a (r ∷ rs) h e zero zero d le lt = ((opened p a r rs h e).rise, omega arith)
ends_rise p a (r ∷ rs) h e zero (suc j) d le lt =
    let o = opened p a r rs h e in
    (o.rise, (ends_rise r.end o.last rs o.runs e.1 j j d (omega arith) (omega arith)).0)
ends_rise p a (r ∷ rs) h e (suc i) zero d le lt = absurd (omega arith)
ends_rise p a (r ∷ rs) h e (suc i) (suc j) d le lt =
    let o = opened p a r rs h e in
    let rest = ends_rise r.end o.last rs o.runs e.1 i j d (omega arith) (omega arith) in
    (omega (arith, o.rise, rest.0), rest.1)

-- a place whose neighbours say so is the border
border_from : (p l n : ℕ) (a : Option PageRef) (rs : List PageRun) → AreRunsFrom l a (present rs) → EmptyFollow l rs → n ≤ length rs
    → EndsBefore p n rs → EndsBehind p n rs → IsBorder p n rs
unfolding EmptyFollow IsBorder
border_from p l zero a [] h e le front back = tt
border_from p l zero a (r ∷ rs) h e le front back = back r (omega arith)
border_from p l (suc n) a [] h e le front back = absurd (omega arith)
border_from p l (suc n) a (r ∷ rs) h e le front back =
    let o = opened l a r rs h e in (
      omega (arith, (ends_rise l a (r ∷ rs) h e 0 n r (omega arith) (omega arith)).1, front n r (omega arith)),
      border_from p r.end n o.last rs o.runs e.1 (omega arith) (λ k d e. front (suc k) d (omega arith)) (λ d lt. back d (omega arith)),
    )

pub border_is : (p n : ℕ) (rs : List PageRun) → ArePlaces rs → n ≤ length rs → EndsBefore p n rs → EndsBehind p n rs → IsBorder p n rs
border_is p n rs h le front back = border_from p 0 n _ rs h.runs h.empty le front back

pub border_le : (p q n m : ℕ) (rs : List PageRun) → p ≤ q → IsBorder p n rs → IsBorder q m rs → n ≤ m
unfolding IsBorder
border_le p q zero m rs le b c = omega arith
border_le p q (suc n) m [] le b c = absurd b
border_le p q (suc n) zero (r ∷ rs) le b c = absurd (omega (arith, b.0, c))
border_le p q (suc n) (suc m) (r ∷ rs) le b c = omega (arith, border_le p q n m rs le b.1 c.1)

-- all before the border of a page end before each page behind it
pub border_before : (p q n : ℕ) (rs : List PageRun) → p ≤ q → IsBorder p n rs → EndsBefore q n rs
unfolding IsBorder
border_before p q zero rs le b = λ k d e. absurd (omega arith)
border_before p q (suc n) [] le b = absurd b
border_before p q (suc n) (r ∷ rs) le b = λ k d e. go n (border_before p q n rs le b.1) k d e where
  go : (n : ℕ) → EndsBefore q n rs → (k : ℕ) (d : PageRun) → k + 1 ≡ suc n → (get_or (r ∷ rs) k d).end ≤ q
  go n rest zero d e = omega (arith, b.0)
  go n rest (suc k) d e = rest k d (omega arith)

-- a run's end as the code reads it
pub read_end : (rs : List PageRun) (i k : ℕ) (d r : PageRun) → k ≡ i → k < length rs → (get_or rs k d).end ≡ (get_or rs i r).end
read_end rs i k d r e lt = ap (λ (x : PageRun). x.end) (get_or_default rs k d r lt ∙ ap (λ n. get_or rs n r) e)
