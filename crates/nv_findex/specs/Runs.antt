-- Sorted runs of pages.
use Rattle.std.specs.Prelude.{◌≡◌, ℕ, zero, suc, ◌+◌, ◌-◌, ◌<◌, ◌≤◌, ◌==◌, ◌&&◌, Bool, true, false, nat_le, nat_lt, max, if◌then◌else◌, List, [], ◌∷◌, ◌++◌, length, take, drop, filter, replicate, slice_get, slice_index_or, Option, Some, None, IfSome}
use Rattle.std.specs.List.{sum_by}
use Rattle.std.specs.Option.{option_map, option_to_list}
use Rattle.nv_base.specs.Ids.{is_same_id}
use Rattle.nv_findex.specs.declared.page_run.PageRun.{PageRun}
use Rattle.nv_findex.specs.declared.page_ref.PageRef.{PageRef}
use Rattle.nv_findex.specs.Pages.{IsRun, is_followed, ref_at, run_ref}

-- the second run goes on where the first ends, in the file and in the entry
abbrev pub goes_on : PageRun → PageRun → Bool
goes_on r s = (r.end == s.first) && (is_same_id r.start.entry s.start.entry && (r.start.place + (r.end - r.first) == s.start.place))

-- runs from page `p` on, where the page before `p` lies at `last`. Each lies behind those before
-- it, and no two neighbours are one run.
unfoldable pub AreRunsFrom : ℕ → Option PageRef → List PageRun → Type 0
AreRunsFrom p last [] = Unit {0}
AreRunsFrom p last (r ∷ rs) =
    (p ≤ r.first) × IsRun r × (p ≡ r.first → is_followed last (Some r.start) ≡ false) × AreRunsFrom r.end (Some (run_ref r (r.end - 1))) rs

-- the runs of an index
abbrev pub AreRuns : List PageRun → Type 0
AreRuns rs = AreRunsFrom 0 None rs

-- a run has a page; a place of a list whose run has none is empty
abbrev pub has_page : PageRun → Bool
has_page r = nat_lt r.first r.end

-- the runs of a list of places
abbrev pub present : List PageRun → List PageRun
present rs = filter has_page rs

-- so many of the places are empty
abbrev pub IsEmptyCount : ℕ → List PageRun → Type 0
IsEmptyCount n rs = n + length (present rs) ≡ length rs

-- an empty place behind a run
abbrev pub emptied : PageRun → PageRun
emptied r = record r { first = r.end }

-- places behind p, of which each that is empty ends where the place before it does
unfoldable pub EmptyFollow : ℕ → List PageRun → Type 0
EmptyFollow p [] = Unit {0}
EmptyFollow p (r ∷ rs) = (has_page r ≡ false → r.end ≡ p) × EmptyFollow r.end rs

-- the places of an index: its runs, and empty places behind them
pub record ArePlaces (rs : List PageRun) : Type 0 where
  -- the runs lie one behind the other, and no two neighbours are one run
  pub runs : AreRuns (present rs)
  -- each empty place ends where the place before it does
  pub empty : EmptyFollow 0 rs

-- the place before place n ends at p or before
abbrev pub EndsBefore : ℕ → ℕ → List PageRun → Type 0
EndsBefore p n rs = (k : ℕ) (d : PageRun) → k + 1 ≡ n → (slice_index_or rs k d).end ≤ p

-- place n ends behind p
abbrev pub EndsBehind : ℕ → ℕ → List PageRun → Type 0
EndsBehind p n rs = (d : PageRun) → n < length rs → p < (slice_index_or rs n d).end

-- the first `n` of the runs end at page `p` or before, and the next one behind it
unfoldable pub IsBorder : ℕ → ℕ → List PageRun → Type 0
IsBorder p zero [] = Unit {0}
IsBorder p zero (r ∷ rs) = p < r.end
IsBorder p (suc n) [] = ⊥
IsBorder p (suc n) (r ∷ rs) = (r.end ≤ p) × IsBorder p n rs

-- how many pages of the runs are not below page `p`
abbrev pub pages_past : ℕ → List PageRun → ℕ
pages_past p rs = sum_by (λ r. r.end - max r.first p) rs

-- a run's pages below page `p`, if there are any
abbrev pub front_of : ℕ → Option PageRun → List PageRun
front_of p None = []
front_of p (Some r) = if nat_lt r.first p then (record r { end = p }) ∷ [] else []

-- a run's pages from page `p` on
abbrev pub rest_from : ℕ → PageRun → PageRun
rest_from p r = record { first = max r.first p; end = r.end; start = run_ref r (max r.first p) }

-- the runs of the pages below page `p`, where the first `n` runs end at `p` or before
abbrev pub before : ℕ → ℕ → List PageRun → List PageRun
before p n rs = take n rs ++ front_of p (slice_get rs n)

-- the runs of the pages from page `p` on, where the first `n` runs end at `p` or before
abbrev pub behind : ℕ → ℕ → List PageRun → List PageRun
behind p n rs = option_to_list (option_map (rest_from p) (slice_get rs n)) ++ drop (suc n) rs

-- a run with those behind it: one with the first of them where it goes on in that one
unfoldable pub join : PageRun → List PageRun → List PageRun
join r [] = r ∷ []
join r (s ∷ rs) = if goes_on r s then (record r { end = s.end }) ∷ rs else r ∷ s ∷ rs

-- what is left of places where the first ones go, which are empty
pub record SkipsEmpty (old new : List PageRun) : Type 0 where
  -- the runs stay
  pub runs : present new ≡ present old
  -- each empty place that stays ends where the place before it does
  pub empty : (p : ℕ) → EmptyFollow p old → EmptyFollow p new

-- runs, and behind the first of them as many empty places as make n in all
abbrev pub spread : ℕ → List PageRun → List PageRun
spread n [] = []
spread n (r ∷ rs) = r ∷ replicate (n - suc (length rs)) (emptied r) ++ rs

-- places with a run in place of those from n on up to place m, of which `rest` stays
pub record IsPutBefore (r rest : PageRun) (n m : ℕ) (old new : List PageRun) : Type 0 where
  -- how many places the run and what stays of place m take, empty ones between them too
  pub width : ℕ
  -- the places behind them
  pub behind : List PageRun
  -- of the places behind place m empty ones may go
  pub skips : SkipsEmpty (drop (m + 1) old) behind
  -- the places before n, the run with what stays of place m, and those behind
  pub items : new ≡ take n old ++ (spread width (join r (rest ∷ [])) ++ behind)

-- place n has a run of just the pages of r, and r does not go on in the place behind it
pub record IsJust (r : PageRun) (n : ℕ) (rs : List PageRun) : Type 0 where
  -- the run that place n has
  pub old : PageRun
  -- it stands there
  pub is : slice_get rs n ≡ Some old
  -- its first page is that of r
  pub first : old.first ≡ r.first
  -- it ends where r does
  pub end : old.end ≡ r.end
  -- the place behind it, if there is one, has a run, and r does not go on in it
  pub next : IfSome (slice_get rs (n + 1)) (λ s. (has_page s ≡ true) × (goes_on r s ≡ false))

-- a run was put among runs, in the place of what they had of its pages
pub record IsPut (r : PageRun) (old new : List PageRun) : Type 0 where
  -- the runs lie one behind the other, and no two neighbours are one run
  pub runs : AreRuns new
  -- the run's pages lie where the run says, and each other page where it lay
  pub pages : (page : ℕ) → ref_at new page ≡ (if nat_le r.first page && nat_lt page r.end then Some (run_ref r page) else ref_at old page)
  -- there are at most two runs more
  pub count : length new ≤ length old + 2
