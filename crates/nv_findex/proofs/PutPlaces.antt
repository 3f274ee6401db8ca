-- A run put into places, in place of what their runs have of its pages.
use Rattle.std.proofs.Common.{◌≡◌, ℕ, zero, suc, ◌+◌, ◌-◌, ◌≤◌, Bool, true, false, cond, List, [], ◌∷◌, ◌++◌, length, take, drop, set, replicate, slice_get, slice_range, max, nat_lt, Option, Some, None, IfSome, refl, ap, sym, subst, ◌∙◌, arith}
use Rattle.std.specs.Option.{option_map, option_to_list}
use Rattle.std.proofs.lemmas.Bool.{lt-ltb, le-ltb, ltb-true, true≢false}
use Rattle.std.proofs.lemmas.List.{append-nil, append_assoc, drop_all, length-append, length-replicate, length-set, length-take, set_split}
use Rattle.std.proofs.lemmas.Option.{get_or_from_slice_get, none-some, same_Some, slice_get_within}
use Rattle.nv_findex.specs.declared.page_ref.PageRef.{PageRef}
use Rattle.nv_findex.specs.declared.page_run.PageRun.{PageRun}
use Rattle.nv_findex.specs.Pages.{IsRun}
use Rattle.nv_findex.specs.Runs.{ArePlaces, AreRunsFrom, EmptyFollow, IsBorder, IsEmptyCount, IsJust, IsPut, IsPutBefore, before, behind, emptied, front_of, goes_on, has_page, join, present, rest_from, spread}
use Rattle.nv_findex.proofs.Borders.{border_le, opened}
use Rattle.nv_findex.proofs.Places.{at_border, counted, present_append, present_le, present_set, read_place}
use Rattle.nv_findex.proofs.PlaceParts.{follow_before, runs_before}
use Rattle.nv_findex.proofs.PutIn.{goes_on_tells, put_is}

run_has_page : (r : PageRun) → IsRun r → has_page r ≡ true
run_has_page r h = lt-ltb r.first r.end h.some

none_present : (n : ℕ) (r : PageRun) → present (replicate n (emptied r)) ≡ []
none_present zero r = refl
none_present (suc n) r = rw (le-ltb r.end r.end (omega arith)) (none_present n r)

empty_follow : (n : ℕ) (r : PageRun) (ys : List PageRun) → EmptyFollow r.end ys → EmptyFollow r.end (replicate n (emptied r) ++ ys)
unfolding EmptyFollow
empty_follow zero r ys h = h
empty_follow (suc n) r ys h = (λ e. refl, empty_follow n r ys h)

-- runs in n places, of which the last one is `rest` or ends where that does
record AreSpread (n : ℕ) (rest : PageRun) (rs : List PageRun) : Type 0 where
  runs : present (spread n rs) ≡ rs
  long : length (spread n rs) ≡ length rs + (n - length rs)
  follow : (p : ℕ) (ys : List PageRun) → EmptyFollow rest.end ys → EmptyFollow p (spread n rs ++ ys)

spread_one : (n : ℕ) (r rest : PageRun) → has_page r ≡ true → r.end ≡ rest.end → AreSpread n rest (r ∷ [])
unfolding EmptyFollow
spread_one n r rest page end =
    let empty = replicate (n - 1) (emptied r) in
    record {
      runs = rw page (ap (λ l. r ∷ l) (present_append empty [] ∙ ap (λ l. l ++ []) (none_present (n - 1) r)));
      long = omega (arith, length-append empty [], length-replicate (n - 1) (emptied r));
      follow = λ p ys e. (
        λ f. absurd (true≢false (sym page ∙ f)),
        rw (append-nil empty) (empty_follow (n - 1) r ys (subst (λ k. EmptyFollow k ys) (sym end) e)),
      );
    }

spread_two : (n : ℕ) (r rest : PageRun) → has_page r ≡ true → has_page rest ≡ true → AreSpread n rest (r ∷ rest ∷ [])
unfolding EmptyFollow
spread_two n r rest page last =
    let empty = replicate (n - 2) (emptied r) in
    record {
      runs = rw page (ap (λ l. r ∷ l) (present_append empty (rest ∷ []) ∙ ap (λ l. l ++ present (rest ∷ [])) (none_present (n - 2) r) ∙ rw last refl));
      long = omega (arith, length-append empty (rest ∷ []), length-replicate (n - 2) (emptied r));
      follow = λ p ys e. (
        λ f. absurd (true≢false (sym page ∙ f)),
        rw (append_assoc empty (rest ∷ []) ys) (empty_follow (n - 2) r (rest ∷ ys) (λ f. absurd (true≢false (sym last ∙ f)), e)),
      );
    }

spread_is : (n : ℕ) (r rest : PageRun) → IsRun r → has_page rest ≡ true → AreSpread n rest (join r (rest ∷ []))
unfolding join
spread_is n r rest h page = go (goes_on r rest) refl where
  go : (c : Bool) → goes_on r rest ≡ c → AreSpread n rest (cond c ((record r { end = rest.end }) ∷ []) (r ∷ rest ∷ []))
  go true t =
      let on = goes_on_tells r rest t in
      spread_one n (record r { end = rest.end }) rest (lt-ltb r.first rest.end (omega (arith, h.some, on.border, ltb-true _ _ page))) refl
  go false t = spread_two n r rest (run_has_page r h) page

join_more : (r rest : PageRun) (ss : List PageRun) → join r (rest ∷ ss) ≡ join r (rest ∷ []) ++ ss
unfolding join
join_more r rest ss = go (goes_on r rest) where
  go : (c : Bool) → cond c ((record r { end = rest.end }) ∷ ss) (r ∷ rest ∷ ss) ≡ cond c ((record r { end = rest.end }) ∷ []) (r ∷ rest ∷ []) ++ ss
  go true = refl
  go false = refl

pub count_push : (xs : List PageRun) (n : ℕ) (r : PageRun) → IsEmptyCount n xs → has_page r ≡ true → IsEmptyCount n (xs ++ r ∷ [])
count_push xs n r h page =
    let one : present (r ∷ []) ≡ r ∷ [] = rw page refl in
    omega (arith, h, ap length (present_append xs (r ∷ [])), length-append (present xs) (present (r ∷ [])), ap length one, length-append xs (r ∷ []))

-- how many places are empty once a run is put
pub count_put : (xs new : List PageRun) (a b n g : ℕ) (r rest : PageRun) → IsRun r → has_page rest ≡ true → a ≤ b → b ≤ length xs → IsEmptyCount n xs
    → IsEmptyCount g (slice_range xs a b) → new ≡ take a xs ++ (spread (b - a) (join r (rest ∷ [])) ++ drop b xs)
    → (n - g + (b - a - length (join r (rest ∷ []))) ≤ length xs) × IsEmptyCount (n - g + (b - a - length (join r (rest ∷ [])))) new
count_put xs new a b n g r rest h page le within all some is =
    let parts = counted xs a b le within in
    let both = join r (rest ∷ []) in
    let in' = spread_is (b - a) r rest h page in
    let places = spread (b - a) both in
    let long = ap length is ∙ length-append (take a xs) (places ++ drop b xs) in
    let runs = ap (λ l. length (present l)) is ∙ ap length (present_append (take a xs) (places ++ drop b xs)) ∙ length-append (present (take a xs)) (present (places ++ drop b xs)) in
    let rest-runs = ap length (present_append places (drop b xs)) ∙ length-append (present places) (present (drop b xs)) in (
      omega (arith, all, some, parts.present, parts.all, parts.range, present_le (take a xs), present_le (drop b xs)),
      omega (
        arith,
        all,
        some,
        parts.present,
        parts.all,
        parts.range,
        present_le (take a xs),
        present_le (drop b xs),
        long,
        runs,
        rest-runs,
        length-append places (drop b xs),
        in'.long,
        ap length in'.runs,
      ),
    )

-- what is left of a run behind a page
rest_of : (p : ℕ) (o : Option PageRun) (rest : PageRun) → Some rest ≡ option_map (rest_from p) o → (t : PageRun) × (o ≡ Some t) × (rest ≡ rest_from p t)
rest_of p None rest e = absurd (none-some rest (sym e))
rest_of p (Some t) rest e = (t, refl, same_Some rest (rest_from p t) e)

pub rest_has_page : (p n : ℕ) (rs : List PageRun) (rest : PageRun) → ArePlaces rs → IsBorder p n rs → Some rest ≡ option_map (rest_from p) (slice_get rs n)
    → has_page rest ≡ true
rest_has_page p n rs rest h b e =
    let t = rest_of p (slice_get rs n) rest e in
    let k = read_place p n rs (Some t.0) h b (sym t.1) in
    ap has_page t.2 ∙ lt-ltb (max t.0.first p) t.0.end (omega (arith, k.1.some, k.0.1))

follow_behind : (l n : ℕ) (rs : List PageRun) (r : PageRun) → EmptyFollow l rs → slice_get rs n ≡ Some r → EmptyFollow r.end (drop (suc n) rs)
unfolding EmptyFollow
follow_behind l zero [] r h e = absurd (none-some r e)
follow_behind l zero (x ∷ rs) r h e = subst (λ (y : PageRun). EmptyFollow y.end rs) (same_Some x r e) h.1
follow_behind l (suc n) [] r h e = absurd (none-some r e)
follow_behind l (suc n) (x ∷ rs) r h e = follow_behind x.end n rs r h.1 e

-- a run put raises the number of runs by two at most
long_front : (p : ℕ) (o : Option PageRun) → length (front_of p o) ≤ 1
long_front p None = omega arith
long_front p (Some r) = go (nat_lt r.first p) where
  go : (c : Bool) → length (cond c ((record r { end = p }) ∷ []) []) ≤ 1
  go true = omega arith
  go false = omega arith

long_behind : (p n : ℕ) (rs : List PageRun) → length (behind p n rs) ≤ length rs - n
long_behind p zero [] = omega arith
long_behind p zero (r ∷ rs) = omega arith
long_behind p (suc n) [] = omega arith
long_behind p (suc n) (r ∷ rs) = omega (arith, long_behind p n rs)

long_join : (r : PageRun) (ss : List PageRun) → length (join r ss) ≤ length ss + 1
unfolding join
long_join r [] = omega arith
long_join r (s ∷ ss) = go (goes_on r s) where
  go : (c : Bool) → length (cond c ((record r { end = s.end }) ∷ ss) (r ∷ s ∷ ss)) ≤ suc (length ss) + 1
  go true = omega arith
  go false = omega arith

long_put : (p q n m : ℕ) (r : PageRun) (rs : List PageRun) → n ≤ m → length (before p n rs ++ join r (behind q m rs)) ≤ length rs + 2
long_put p q n m r rs le =
    omega (
      arith,
      length-append (before p n rs) (join r (behind q m rs)),
      length-append (take n rs) (front_of p (slice_get rs n)),
      length-take n rs,
      long_front p (slice_get rs n),
      long_join r (behind q m rs),
      long_behind q m rs,
      le,
    )

-- places with a run put into them
pub record IsPutInPlaces (r : PageRun) (old new : List PageRun) : Type 0 where
  pub put : IsPut r (present old) (present new)
  pub places : ArePlaces new

no_rest : (p : ℕ) (o : Option PageRun) → option_map (rest_from p) o ≡ None → o ≡ None
no_rest p None e = refl
no_rest p (Some t) e = absurd (none-some _ (sym e))

past_end : (n : ℕ) (rs : List PageRun) → slice_get rs n ≡ None → length rs ≤ n
past_end n [] e = omega arith
past_end zero (x ∷ rs) e = absurd (none-some x (sym e))
past_end (suc n) (x ∷ rs) e = omega (arith, past_end n rs e)

module _ (r : PageRun) (rs new : List PageRun) (n m : ℕ) (h : ArePlaces rs) (run : IsRun r) (place : r.start.place ≡ 0)
    (first : IsBorder r.first n rs) (last : IsBorder r.end m rs) where
  abbrev front_runs : List PageRun
  front_runs = before r.first (length (present (take n rs))) (present rs)

  abbrev behind_runs : List PageRun
  behind_runs = behind r.end (length (present (take m rs))) (present rs)

  -- the runs behind a page, by the places behind it
  behind_is : behind_runs ≡ option_to_list (option_map (rest_from r.end) (slice_get rs m)) ++ present (drop (suc m) rs)
  behind_is =
      let to = at_border r.end m rs h last in
      ap (λ o. option_to_list (option_map (rest_from r.end) o) ++ drop (suc (length (present (take m rs)))) (present rs)) (sym to.is)
      ∙ ap (λ l. option_to_list (option_map (rest_from r.end) (slice_get rs m)) ++ l) (sym to.behind)

  -- a list of places whose runs are those with the run in them
  put_from : present new ≡ front_runs ++ join r behind_runs → EmptyFollow 0 new → IsPutInPlaces r rs new
  put_from is follow =
      let at = at_border r.first n rs h first in
      let to = at_border r.end m rs h last in
      let order = border_le r.first r.end _ _ (present rs) (omega (arith, run.some)) at.border to.border in
      let long = ap length is in
      let put = put_is r (present rs) (present new) _ _ h.runs run place at.border to.border is (omega (arith, long, long_put r.first r.end _ _ r (present rs) order)) in
      record { put = put; places = record { runs = put.runs; empty = follow } }

  pub put_last_is : (mid : List PageRun) (k : ℕ) → take k mid ≡ before r.first n rs → option_map (rest_from r.end) (slice_get rs m) ≡ None
      → new ≡ take k mid ++ r ∷ [] → IsPutInPlaces r rs new
  unfolding EmptyFollow join
  put_last_is mid k kept none is =
      let page = run_has_page r run in
      let past = no_rest r.end (slice_get rs m) none in
      let nothing : behind_runs ≡ [] = behind_is
      ∙ ap (λ o. option_to_list (option_map (rest_from r.end) o) ++ present (drop (suc m) rs)) past ∙ ap present (drop_all (suc m) rs (omega (arith, past_end m rs past))) in
      let one : present (r ∷ []) ≡ r ∷ [] = rw page refl in
      let whole = is ∙ ap (λ l. l ++ r ∷ []) kept in
      put_from
      (ap present whole ∙ present_append (before r.first n rs) (r ∷ []) ∙ ap (λ l. l ++ present (r ∷ [])) (runs_before r.first n rs h first)
      ∙ ap (λ l. front_runs ++ l) (one ∙ ap (join r) (sym nothing)))
      (subst (EmptyFollow 0) (sym whole) (follow_before r.first 0 n rs (r ∷ []) h.empty first (λ q. (λ f. absurd (true≢false (sym page ∙ f)), tt))))

  pub put_before_is : (mid : List PageRun) (k : ℕ) (rest : PageRun) → take k mid ≡ before r.first n rs → drop (m + 1) mid ≡ drop (m + 1) rs
      → Some rest ≡ option_map (rest_from r.end) (slice_get rs m) → IsPutBefore r rest k m mid new → IsPutInPlaces r rs new
  put_before_is mid k rest kept behind is put =
      let t = rest_of r.end (slice_get rs m) rest is in
      let page = rest_has_page r.end m rs rest h last is in
      let places = spread put.width (join r (rest ∷ [])) in
      let in' = spread_is put.width r rest run page in
      let on : m + 1 ≡ suc m = omega arith in
      let left = behind ∙ ap (λ i. drop i rs) on in
      let runs-left = put.skips.runs ∙ ap present left in
      let rest-of : behind_runs ≡ rest ∷ present put.behind = behind_is
      ∙ ap (λ o. option_to_list o ++ present (drop (suc m) rs)) (sym is) ∙ ap (λ l. rest ∷ l) (sym runs-left) in
      let whole = put.items ∙ ap (λ l. l ++ (places ++ put.behind)) kept in
      let follows : EmptyFollow rest.end (drop (m + 1) mid) = subst (EmptyFollow rest.end) (sym left)
      (subst (λ (e : ℕ). EmptyFollow e (drop (suc m) rs)) (sym (ap (λ (x : PageRun). x.end) t.2)) (follow_behind 0 m rs t.0 h.empty t.1)) in
      put_from
      (ap present whole ∙ present_append (before r.first n rs) _ ∙ ap (λ l. l ++ present (places ++ put.behind)) (runs_before r.first n rs h first)
      ∙ ap (λ l. front_runs ++ l) (present_append places put.behind ∙ ap (λ l. l ++ present put.behind) in'.runs
      ∙ sym (join_more r rest (present put.behind)) ∙ ap (join r) (sym rest-of)))
      (subst (EmptyFollow 0) (sym whole) (follow_before r.first 0 n rs _ h.empty first (λ q. in'.follow q put.behind (put.skips.empty rest.end follows))))

-- where a place ends, the border of that page is the next one
record NextIs (p n : ℕ) (rs : List PageRun) : Type 0 where
  border : IsBorder p (suc n) rs
  first : IfSome (slice_get rs (suc n)) (λ s. p ≤ s.first)

next_is : (p q l n : ℕ) (a : Option PageRef) (rs : List PageRun) (old : PageRun) → AreRunsFrom l a (present rs) → EmptyFollow l rs → IsBorder p n rs → p ≤ q
    → slice_get rs n ≡ Some old → old.end ≡ q → IfSome (slice_get rs (suc n)) (λ s. has_page s ≡ true) → NextIs q n rs
unfolding AreRunsFrom EmptyFollow IsBorder
next_is p q l zero a [] old h e b le is end page = absurd (none-some old is)
next_is p q l zero a (x ∷ []) old h e b le is end page =
    record { border = (omega (arith, ap (λ (y : PageRun). y.end) (same_Some x old is), end), tt); first = tt }
next_is p q l zero a (x ∷ y ∷ ys) old h e b le is end page =
    let x-end = ap (λ (z : PageRun). z.end) (same_Some x old is) in
    let o = opened l a x (y ∷ ys) h e in
    let k : AreRunsFrom x.end o.last (y ∷ present ys) = rw page at o.runs in
    record { border = (omega (arith, x-end, end), omega (arith, x-end, end, k.0, k.1.some)); first = omega (arith, x-end, end, k.0) }
next_is p q l (suc n) a [] old h e b le is end page = absurd b
next_is p q l (suc n) a (x ∷ rs) old h e b le is end page =
    let o = opened l a x rs h e in
    let k = next_is p q x.end n o.last rs old o.runs e.1 b.1 le is end page in
    record { border = (omega (arith, b.0, le), k.border); first = k.first }

follow_set : (l n : ℕ) (rs : List PageRun) (r old : PageRun) → EmptyFollow l rs → slice_get rs n ≡ Some old → old.end ≡ r.end → has_page r ≡ true
    → EmptyFollow l (set rs n r)
unfolding EmptyFollow
follow_set l n [] r old h is end page = absurd (none-some old is)
follow_set l zero (x ∷ rs) r old h is end page =
    (λ f. absurd (true≢false (sym page ∙ f)), subst (λ k. EmptyFollow k rs) (ap (λ (y : PageRun). y.end) (same_Some x old is) ∙ end) h.1)
follow_set l (suc n) (x ∷ rs) r old h is end page = (h.0, follow_set x.end n rs r old h.1 is end page)

whole_rest : (p : ℕ) (s : PageRun) → p ≤ s.first → rest_from p s ≡ s
whole_rest p s le =
    let first : max s.first p ≡ s.first = omega arith in
    let place : s.start.place + (s.first - s.first) ≡ s.start.place = omega arith in
    rw (first, place) refl

drop_first : (n : ℕ) (rs : List PageRun) → drop n rs ≡ option_to_list (slice_get rs n) ++ drop (suc n) rs
drop_first zero [] = refl
drop_first zero (x ∷ rs) = refl
drop_first (suc n) [] = refl
drop_first (suc n) (x ∷ rs) = drop_first n rs

not_joined : (r : PageRun) (xs : List PageRun) (o : Option PageRun) (ys : List PageRun) → IfSome o (λ s. (has_page s ≡ true) × (goes_on r s ≡ false))
    → IfSome o (λ s. r.end ≤ s.first) → xs ≡ option_to_list o ++ ys → (o ≡ None → ys ≡ [])
    → r ∷ present xs ≡ join r (option_to_list (option_map (rest_from r.end) o) ++ present ys)
unfolding join
not_joined r xs None ys next first is none =
    ap (λ l. r ∷ present l) (is ∙ none refl) ∙ ap (λ l. join r (present l)) (sym (none refl))
not_joined r xs (Some s) ys next first is none =
    let one : present (s ∷ ys) ≡ s ∷ present ys = rw next.0 refl in
    let apart : join r (s ∷ present ys) ≡ r ∷ s ∷ present ys = ap (λ c. cond c ((record r { end = s.end }) ∷ present ys) (r ∷ s ∷ present ys)) next.1 in
    ap (λ l. r ∷ present l) is ∙ ap (λ l. r ∷ l) one ∙ sym apart ∙ ap (λ t. join r (t ∷ present ys)) (sym (whole_rest r.end s first))

page_behind : (r : PageRun) (o : Option PageRun) → IfSome o (λ s. (has_page s ≡ true) × (goes_on r s ≡ false)) → IfSome o (λ s. has_page s ≡ true)
page_behind r None h = tt
page_behind r (Some s) h = h.0

-- a run in place of one of just its pages
pub put_just_is : (r : PageRun) (rs new : List PageRun) (n : ℕ) → ArePlaces rs → IsRun r → r.start.place ≡ 0 → IsBorder r.first n rs → IsJust r n rs
    → new ≡ set rs n r → IsPutInPlaces r rs new × (length (present new) ≡ length (present rs)) × (length new ≡ length rs)
unfolding join
put_just_is r rs new n h run place first just is =
    let old = just.old in
    let page = run_has_page r run in
    let lt = slice_get_within rs n old just.is in
    let on : n + 1 ≡ suc n = omega arith in
    let k = read_place r.first n rs (Some old) h first (sym just.is) in
    let next = rw on at just.next in
    let to = next_is r.first r.end 0 n _ rs old h.runs h.empty first (omega (arith, run.some)) just.is just.end (page_behind r _ next) in
    let last = to.border in
    let split = set_split rs n r lt in
    let front : present (take n rs) ≡ before r.first (length (present (take n rs))) (present rs) =
    sym (sym (runs_before r.first n rs h first) ∙ present_append (take n rs) (front_of r.first (slice_get rs n))
    ∙ ap (λ o. present (take n rs) ++ present (front_of r.first o)) just.is ∙ rw (le-ltb old.first r.first (omega (arith, just.first))) (append-nil (present (take n rs)))) in
    let one : present (r ∷ drop (suc n) rs) ≡ r ∷ present (drop (suc n) rs) = rw page refl in
    let rest = not_joined r (drop (suc n) rs) (slice_get rs (suc n)) (drop (suc (suc n)) rs) next to.first (drop_first (suc n) rs)
    (λ e. drop_all (suc (suc n)) rs (omega (arith, past_end (suc n) rs e))) in (
      put_from r rs new n (suc n) h run place first last
          (ap present (is ∙ split) ∙ present_append (take n rs) (r ∷ drop (suc n) rs) ∙ ap (λ l. l ++ present (r ∷ drop (suc n) rs)) front
          ∙ ap (λ l. before r.first (length (present (take n rs))) (present rs) ++ l) (one ∙ rest ∙ ap (join r) (sym (behind_is r rs new n (suc n) h run place first last))))
          (subst (EmptyFollow 0) (sym is) (follow_set 0 n rs r old h.empty just.is just.end page)),
      ap (λ l. length (present l)) is ∙ present_set rs n r old lt (ap has_page (get_or_from_slice_get rs n old old just.is) ∙ run_has_page old k.1) page,
      ap length is ∙ length-set rs n r,
    )
