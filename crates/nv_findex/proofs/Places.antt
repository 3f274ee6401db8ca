-- The runs of a list of places, of which some are empty.
use Rattle.std.proofs.Common.{◌≡◌, ℕ, zero, suc, ◌+◌, ◌-◌, ◌<◌, ◌≤◌, Bool, true, false, cond, List, [], ◌∷◌, ◌++◌, length, take, drop, set, slice_get, slice_range, get_or, max, nat_lt, Option, Some, None, IfSome, refl, ap, sym, subst, ◌∙◌, arith}
use Rattle.std.proofs.lemmas.Bool.{lt-ltb, ltb-false, true≢false}
use Rattle.std.proofs.lemmas.List.{drop_more, get_or-drop, length-append, length-take, length-drop, take-append-drop, drop-drop}
use Rattle.std.proofs.lemmas.List.Elements.{filter-append}
use Rattle.std.proofs.lemmas.List.Filters.{length-filter_more}
use Rattle.std.proofs.lemmas.List.Sums.{count_by-le-length, length-filter, sum_by-cons}
use Rattle.nv_findex.specs.declared.page_run.PageRun.{PageRun}
use Rattle.nv_findex.specs.Pages.{IsRun, IsRunFrom, present_from, ref_at}
use Rattle.nv_findex.specs.Runs.{ArePlaces, AreRuns, EmptyFollow, IsBorder, IsEmptyCount, SkipsEmpty, has_page, pages_past, present}
use Rattle.nv_findex.proofs.Counts.{past_drop, present_is}
use Rattle.nv_findex.proofs.Whole.{read_at}

pub present_append : (xs ys : List PageRun) → present (xs ++ ys) ≡ present xs ++ present ys
present_append xs ys = filter-append has_page xs ys

-- the border of a page in a list of places, and the same border in the list of its runs
pub record AtBorder (p n m : ℕ) (rs : List PageRun) : Type 0 where
  pub border : IsBorder p m (present rs)
  pub is : slice_get rs n ≡ slice_get (present rs) m
  pub front : present (take n rs) ≡ take m (present rs)
  pub behind : present (drop (suc n) rs) ≡ drop (suc m) (present rs)

border_from : (p l n : ℕ) (rs : List PageRun) → EmptyFollow l rs → l ≤ p → IsBorder p n rs → AtBorder p n (length (present (take n rs))) rs
unfolding EmptyFollow IsBorder
border_from p l zero [] e le b = record { border = tt; is = refl; front = refl; behind = refl }
border_from p l zero (r ∷ rs) e le b = go (nat_lt r.first r.end) refl where
  go : (c : Bool) → nat_lt r.first r.end ≡ c → AtBorder p 0 0 (r ∷ rs)
  go true t = record { border = rw t b; is = rw t refl; front = refl; behind = rw t refl }
  go false t = absurd (omega (arith, e.0 t, b))
border_from p l (suc n) [] e le b = absurd b
border_from p l (suc n) (r ∷ rs) e le b = go (nat_lt r.first r.end) refl (border_from p r.end n rs e.1 b.0 b.1) where
  go : (c : Bool) → nat_lt r.first r.end ≡ c → AtBorder p n (length (present (take n rs))) rs
      → AtBorder p (suc n) (length (present (take (suc n) (r ∷ rs)))) (r ∷ rs)
  go true t k = record { border = rw t (b.0, k.border); is = rw t k.is; front = rw t (ap (λ l. r ∷ l) k.front); behind = rw t k.behind }
  go false t k = record { border = rw t k.border; is = rw t k.is; front = rw t k.front; behind = rw t k.behind }

pub at_border : (p n : ℕ) (rs : List PageRun) → ArePlaces rs → IsBorder p n rs → AtBorder p n (length (present (take n rs))) rs
at_border p n rs h b = border_from p 0 n rs h.empty (omega arith) b

-- what is read at the border
pub read_place : (p n : ℕ) (rs : List PageRun) (o : Option PageRun) → ArePlaces rs → IsBorder p n rs → o ≡ slice_get rs n
    → IsRunFrom p (ref_at (present rs)) o × IfSome o (λ r. IsRun r)
read_place p n rs o h b read = let at = at_border p n rs h b in read_at p _ (present rs) o h.runs at.border (read ∙ at.is)

pub border_has_page : (p n : ℕ) (rs : List PageRun) → ArePlaces rs → IsBorder p n rs → IfSome (slice_get rs n) (λ r. has_page r ≡ true)
border_has_page p n rs h b = go (slice_get rs n) (read_place p n rs _ h b refl) where
  go : (o : Option PageRun) → IsRunFrom p (ref_at (present rs)) o × IfSome o (λ r. IsRun r) → IfSome o (λ r. has_page r ≡ true)
  go None k = tt
  go (Some r) k = lt-ltb r.first r.end k.1.some

-- an empty place has no page
past_present : (p : ℕ) (rs : List PageRun) → pages_past p (present rs) ≡ pages_past p rs
past_present p [] = refl
past_present p (r ∷ rs) = go (nat_lt r.first r.end) refl (past_present p rs) where
  go : (c : Bool) → nat_lt r.first r.end ≡ c → pages_past p (present rs) ≡ pages_past p rs
      → pages_past p (cond c (r ∷ present rs) (present rs)) ≡ pages_past p (r ∷ rs)
  go true t k = omega (arith, k, sum_by-cons (λ (x : PageRun). x.end - max x.first p) r rs, sum_by-cons (λ (x : PageRun). x.end - max x.first p) r (present rs))
  go false t k = omega (arith, k, ltb-false _ _ t, sum_by-cons (λ (x : PageRun). x.end - max x.first p) r rs)

pub present_at : (p n : ℕ) (rs : List PageRun) → ArePlaces rs → IsBorder p n rs → present_from p (present rs) ≡ pages_past p (drop n rs)
present_at p n rs h b = present_is p (present rs) h.runs ∙ past_present p rs ∙ sym (past_drop p n rs b)

-- a list without empty places
all_present : (rs : List PageRun) → present (present rs) ≡ present rs
all_present [] = refl
all_present (r ∷ rs) = go (nat_lt r.first r.end) refl (all_present rs) where
  go : (c : Bool) → nat_lt r.first r.end ≡ c → present (present rs) ≡ present rs
      → present (cond c (r ∷ present rs) (present rs)) ≡ cond c (r ∷ present rs) (present rs)
  go true t k = rw t (ap (λ l. r ∷ l) k)
  go false t k = k

none_follow : (p : ℕ) (rs : List PageRun) → EmptyFollow p (present rs)
unfolding EmptyFollow
none_follow p [] = tt
none_follow p (r ∷ rs) = go (nat_lt r.first r.end) refl (none_follow r.end rs) (none_follow p rs) where
  go : (c : Bool) → nat_lt r.first r.end ≡ c → EmptyFollow r.end (present rs) → EmptyFollow p (present rs)
      → EmptyFollow p (cond c (r ∷ present rs) (present rs))
  go true t k l = (λ e. absurd (true≢false (sym t ∙ e)), k)
  go false t k l = l

pub record AreSqueezed (old new : List PageRun) (n : ℕ) : Type 0 where
  pub same : present new ≡ present old
  pub places : ArePlaces new
  pub empty : IsEmptyCount n new

pub squeezed : (rs new : List PageRun) (n : ℕ) → ArePlaces rs → new ≡ present rs → n ≡ 0 → AreSqueezed rs new n
squeezed rs new n h e z =
    let same = ap present e ∙ all_present rs in
    record {
      same = same;
      places = record { runs = subst AreRuns (sym same) h.runs; empty = subst (EmptyFollow 0) (sym e) (none_follow 0 rs) };
      empty = omega (arith, z, ap length same, ap length e);
    }

pub present_le : (rs : List PageRun) → length (present rs) ≤ length rs
present_le rs = omega (arith, length-filter has_page rs, count_by-le-length has_page rs)

-- empty places at the head of a list, which go one by one
pub skips_none : (xs : List PageRun) → SkipsEmpty xs xs
skips_none xs = record { runs = refl; empty = λ p e. e }

pub skips_more : (old xs : List PageRun) (i : ℕ) (r : PageRun) → SkipsEmpty old (drop i xs) → i < length xs → r ≡ get_or xs i r → has_page r ≡ false
    → SkipsEmpty old (drop (i + 1) xs)
unfolding EmptyFollow
skips_more old xs i r h lt is none =
    let here : drop i xs ≡ r ∷ drop (i + 1) xs = drop_more xs i r lt ∙ ap (λ x. x ∷ drop (i + 1) xs) (sym is) in
    record {
      runs = sym (ap present here ∙ rw none refl) ∙ h.runs;
      empty = λ p e.
          let k : EmptyFollow p (r ∷ drop (i + 1) xs) = subst (EmptyFollow p) here (h.empty p e) in
          subst (λ n. EmptyFollow n (drop (i + 1) xs)) (k.0 none) k.1;
    }

-- how many of some places are empty, where so many of all are
pub record Counted (xs : List PageRun) (a b : ℕ) : Type 0 where
  pub present : length (present xs) ≡ length (present (take a xs)) + (length (present (slice_range xs a b)) + length (present (drop b xs)))
  pub all : length xs ≡ length (take a xs) + (length (slice_range xs a b) + length (drop b xs))
  pub range : length (slice_range xs a b) + a ≡ b

pub counted : (xs : List PageRun) (a b : ℕ) → a ≤ b → b ≤ length xs → Counted xs a b
counted xs a b le within =
    let on : a + (b - a) ≡ b = omega arith in
    let parts : xs ≡ take a xs ++ (slice_range xs a b ++ drop b xs) = sym (take-append-drop a xs)
    ∙ ap (λ l. take a xs ++ l) (sym (take-append-drop (b - a) (drop a xs)) ∙ ap (λ l. slice_range xs a b ++ l) (drop-drop (b - a) a xs ∙ ap (λ n. drop n xs) on)) in
    record {
      present = ap (λ l. length (present l)) parts ∙ ap length (present_append (take a xs) _) ∙ length-append (present (take a xs)) _
          ∙ ap (λ n. length (present (take a xs)) + n) (ap length (present_append (slice_range xs a b) _) ∙ length-append (present (slice_range xs a b)) _);
      all = ap length parts ∙ length-append (take a xs) _ ∙ ap (λ n. length (take a xs) + n) (length-append (slice_range xs a b) _);
      range = omega (arith, length-take (b - a) (drop a xs), length-drop a xs);
    }

pub count_le : (xs : List PageRun) (a b n g : ℕ) → a ≤ b → b ≤ length xs → IsEmptyCount n xs → IsEmptyCount g (slice_range xs a b) → g ≤ n
count_le xs a b n g le within all some =
    let parts = counted xs a b le within in
    omega (arith, all, some, parts.present, parts.all, present_le (take a xs), present_le (drop b xs))

pub count_front : (xs : List PageRun) (a b n g : ℕ) → a ≤ b → b ≡ length xs → IsEmptyCount n xs → IsEmptyCount g (slice_range xs a b) → IsEmptyCount (n - g) (take a xs)
count_front xs a b n g le end all some =
    let parts = counted xs a b le (omega arith) in
    omega (arith, all, some, parts.present, parts.all, present_le (take a xs), present_le (drop b xs), length-drop b xs)

-- one more place counted
pub count_more : (xs : List PageRun) (a i n : ℕ) (r : PageRun) → a ≤ i → i < length xs → r ≡ get_or xs i r → IsEmptyCount n (slice_range xs a i)
    → IsEmptyCount (n + cond (has_page r) 0 1) (slice_range xs a (i + 1))
count_more xs a i n r le lt is h =
    let more : i + 1 - a ≡ i - a + 1 = omega arith in
    let place : a + (i - a) ≡ i = omega arith in
    let read : get_or (drop a xs) (i - a) r ≡ r = get_or-drop a xs (i - a) r ∙ ap (λ k. get_or xs k r) place ∙ sym is in
    let grows = length-filter_more has_page (drop a xs) (i - a) r (omega (arith, length-drop a xs)) ∙ ap (λ x. length (present (slice_range xs a i)) + cond (has_page x) 1 0) read in
    let long = length-take (i - a) (drop a xs) in let longer = length-take (i - a + 1) (drop a xs) in
    rw more (go (has_page r) n (length (present (slice_range xs a i))) _ (length (slice_range xs a i)) _ h grows (omega (arith, long, longer, length-drop a xs))) where
      go : (c : Bool) (n p q l m : ℕ) → n + p ≡ l → q ≡ p + cond c 1 0 → m ≡ l + 1 → n + cond c 0 1 + q ≡ m
      go true n p q l m a b d = omega arith
      go false n p q l m a b d = omega arith

-- a run put in the place of another
pub present_set : (rs : List PageRun) (i : ℕ) (r d : PageRun) → i < length rs → has_page (get_or rs i d) ≡ true → has_page r ≡ true
    → length (present (set rs i r)) ≡ length (present rs)
present_set [] i r d lt old new = refl
present_set (x ∷ rs) zero r d lt old new = rw (old, new) refl
present_set (x ∷ rs) (suc i) r d lt old new = go (nat_lt x.first x.end) (present_set rs i r d (omega arith) old new) where
  go : (c : Bool) → length (present (set rs i r)) ≡ length (present rs)
      → length (cond c (x ∷ present (set rs i r)) (present (set rs i r))) ≡ length (cond c (x ∷ present rs) (present rs))
  go true k = ap suc k
  go false k = k
