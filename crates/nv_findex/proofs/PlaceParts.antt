-- The places of the pages below a page, and those of the pages from one on.
use Rattle.std.proofs.Common.{◌≡◌, ℕ, zero, suc, ◌≤◌, Bool, true, false, cond, List, [], ◌∷◌, ◌++◌, length, take, slice_get, nat_lt, Option, Some, None, refl, ap, sym, subst, ◌∙◌, arith}
use Rattle.std.proofs.lemmas.Bool.{true≢false}
use Rattle.std.proofs.lemmas.List.{append-nil}
use Rattle.nv_findex.specs.declared.page_run.PageRun.{PageRun}
use Rattle.nv_findex.specs.Pages.{CutsFrom, ref_at}
use Rattle.nv_findex.specs.Runs.{ArePlaces, AreRuns, AreRunsFrom, EmptyFollow, IsBorder, before, front_of, present}
use Rattle.nv_findex.proofs.Parts.{before_ref, before_runs}
use Rattle.nv_findex.proofs.Places.{at_border, present_append}

front_present : (p : ℕ) (o : Option PageRun) → present (front_of p o) ≡ front_of p o
front_present p None = refl
front_present p (Some r) = go (nat_lt r.first p) refl where
  go : (c : Bool) → nat_lt r.first p ≡ c → present (cond c ((record r { end = p }) ∷ []) []) ≡ cond c ((record r { end = p }) ∷ []) []
  go true t = rw t refl
  go false t = refl

-- which runs lie before a border, by the places before it
pub runs_before : (p n : ℕ) (rs : List PageRun) → ArePlaces rs → IsBorder p n rs
    → present (before p n rs) ≡ before p (length (present (take n rs))) (present rs)
runs_before p n rs h b =
    let at = at_border p n rs h b in
    present_append (take n rs) _ ∙ ap (λ l. present (take n rs) ++ l) (front_present p (slice_get rs n))
    ∙ ap (λ l. l ++ front_of p (slice_get rs n)) at.front ∙ ap (λ o. take (length (present (take n rs))) (present rs) ++ front_of p o) at.is

pub follow_before : (p l n : ℕ) (rs ys : List PageRun) → EmptyFollow l rs → IsBorder p n rs → ((q : ℕ) → EmptyFollow q ys) → EmptyFollow l (before p n rs ++ ys)
unfolding EmptyFollow IsBorder
follow_before p l zero [] ys e b k = k l
follow_before p l zero (r ∷ rs) ys e b k = go (nat_lt r.first p) refl where
  go : (c : Bool) → nat_lt r.first p ≡ c → EmptyFollow l (cond c ((record r { end = p }) ∷ []) [] ++ ys)
  go true t = (λ f. absurd (true≢false (sym t ∙ f)), k p)
  go false t = k l
follow_before p l (suc n) [] ys e b k = absurd b
follow_before p l (suc n) (r ∷ rs) ys e b k = (e.0, follow_before p r.end n rs ys e.1 b.1 k)

-- what a cut leaves
pub record IsCut (p : ℕ) (old new : List PageRun) : Type 0 where
  pub places : ArePlaces new
  pub pages : CutsFrom p (ref_at (present old)) (ref_at (present new))
  pub count : length (present new) ≤ length (present old)

count_before : (p n : ℕ) (rs : List PageRun) → IsBorder p n rs → length (before p n rs) ≤ length rs
unfolding IsBorder
count_before p zero [] b = omega arith
count_before p zero (r ∷ rs) b = go (nat_lt r.first p) where
  go : (c : Bool) → length (cond c ((record r { end = p }) ∷ []) []) ≤ suc (length rs)
  go true = omega arith
  go false = omega arith
count_before p (suc n) [] b = absurd b
count_before p (suc n) (r ∷ rs) b = omega (arith, count_before p n rs b.1)

pub cut_is : (p n : ℕ) (rs new : List PageRun) → ArePlaces rs → IsBorder p n rs → new ≡ before p n rs → IsCut p rs new
unfolding AreRunsFrom EmptyFollow ref_at
cut_is p n rs new h b e =
    let m = length (present (take n rs)) in
    let at = at_border p n rs h b in
    let same : present new ≡ before p m (present rs) = ap present e ∙ runs_before p n rs h b in
    record {
      places = record {
        runs = subst AreRuns (append-nil _ ∙ sym same) (before_runs p 0 m _ (present rs) [] h.runs at.border (omega arith) (λ k a le. tt));
        empty = subst (EmptyFollow 0) (append-nil _ ∙ sym e) (follow_before p 0 n rs [] h.empty b (λ q. tt));
      };
      pages = λ q. ap (λ (l : List PageRun). ref_at l q) (same ∙ sym (append-nil _)) ∙ before_ref p q m (present rs) [] at.border (λ lt. refl);
      count = omega (arith, ap length same, count_before p m (present rs) at.border);
    }
