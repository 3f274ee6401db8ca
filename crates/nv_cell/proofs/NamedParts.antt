-- The parts of a log by their names and by their pairs.
use Rattle.std.proofs.Common.{◌≡◌, ℕ, zero, suc, ◌+◌, ◌-◌, ◌<◌, ◌≤◌, ◌&&◌, Bool, true, false, not, cond, min, nat_lt, nat_le, List, [], ◌∷◌, ◌++◌, length, take, drop, map, Option, Some, None, arith, refl, ap, sym, ◌∙◌, subst, slice_get, slice_index_or}
use Rattle.std.specs.List.{AllByRecursion}
use Rattle.std.specs.Option.{IsSome, option_map}
use Rattle.std.proofs.lemmas.Bool.{and_parts, le-leb, le-ltb, leb-true, lt-ltb, ltb-false, ltb-true}
use Rattle.std.proofs.lemmas.List.{length-map}
use Rattle.std.proofs.lemmas.Option.{same_Some, slice_get-get_or, slice_get-map, slice_get_within}
use Rattle.nv_base.specs.declared.numbers.EntryId.{EntryId}
use Rattle.nv_base.specs.Ids.{IsIdBefore, is_same_id}
use Rattle.nv_base.proofs.Ids.{before-same, ordered}
use Rattle.nv_entry.specs.declared.held.Pair.{Pair}
use Rattle.nv_entry.specs.declared.item.Entry.{Entry}
use Rattle.nv_entry.specs.declared.item.Item.{Item}
use Rattle.nv_entry.specs.declared.item.Item.TheVariants.{Init, Write, SetSize, SetMode, Bind, Unbind, Gone}
use Rattle.nv_entry.specs.declared.item.BlockRun.{BlockRun}
use Rattle.nv_entry.specs.declared.part.Part.{Part}
use Rattle.nv_entry.specs.declared.part.Part.TheVariants as part
use Rattle.nv_entry.specs.declared.part.PartId.{PartId}
use Rattle.nv_entry.specs.Covered.{any_cover, is_covered, part_count, part_key, part_total}
use Rattle.nv_entry.specs.Keys.{Key, covers, in_run, is_page, parts_of, run_pages}
use Rattle.nv_entry.specs.Log.{IsLog, MayFollow, first_cover, pair_of, pairs, pairs_of}
use Rattle.nv_entry.proofs.PartLists.{length-written, page_at}
use Rattle.nv_cell.specs.declared.killed.KilledPart.{KilledPart}
use Rattle.nv_cell.specs.Killed.{AreNamesOfParts, ArePairs, DiesAt, part_of_pair}
use Rattle.nv_cell.specs.Named.{number_named, place_of_part}
use Rattle.nv_cell.specs.Numbers.{dies, killed_part}
use Rattle.nv_cell.proofs.Publishes.{named}

-- ---- the place of a part among those of an item

page_there : (first : ℕ) (run : BlockRun) (size n : ℕ) (p : Part) → slice_get (map part.Page (run_pages first run)) n ≡ Some p
    → place_of_part (Write first run size) p ≡ Some (suc n)
page_there first run size n p h =
    let lt : suc n < length (part.Size ∷ map part.Page (run_pages first run)) =
    slice_get_within (part.Size ∷ map part.Page (run_pages first run)) (suc n) p h in
    let few : n < min run.len (65536 - first) = omega (arith, lt, length-written first run) in
    let at = page_at first run (suc n) (omega arith) (omega (arith, few)) in
    let is : p ≡ part.Page (first + (suc n - 1)) = same_Some p (part.Page (first + (suc n - 1))) (sym h ∙ at) in
    let page : first + (suc n - 1) ≡ first + n = omega arith in
    let from : nat_le first (first + n) ≡ true = le-leb first (first + n) (omega arith) in
    let to : nat_lt (first + n) (first + run.len) ≡ true = lt-ltb (first + n) (first + run.len) (omega (arith, few)) in
    let within : nat_lt (first + n) 65536 ≡ true = lt-ltb (first + n) 65536 (omega (arith, few)) in
    let back : first + n - first + 1 ≡ suc n = omega arith in
    rw (is, page, from, to, within) (ap Some back)

pub place_there : (item : Item) (n : ℕ) (p : Part) → slice_get (parts_of item) n ≡ Some p → place_of_part item p ≡ Some n
place_there (Init kind mode) zero p h = let is : p ≡ part.Kind = cc in rw is refl
place_there (Init kind mode) (suc zero) p h = let is : p ≡ part.Mode = cc in rw is refl
place_there (Init kind mode) (suc (suc zero)) p h = let is : p ≡ part.Size = cc in rw is refl
place_there (Init kind mode) (suc (suc (suc n))) p h = cc
place_there (Write first run size) zero p h = let is : p ≡ part.Size = cc in rw is refl
place_there (Write first run size) (suc n) p h = page_there first run size n p h
place_there (SetSize size) zero p h = let is : p ≡ part.Size = cc in rw is refl
place_there (SetSize size) (suc n) p h = cc
place_there (SetMode mode) zero p h = let is : p ≡ part.Mode = cc in rw is refl
place_there (SetMode mode) (suc n) p h = cc
place_there (Bind name to) zero p h = let is : p ≡ part.Bound = cc in rw is refl
place_there (Bind name to) (suc n) p h = cc
place_there (Unbind name) n p h = cc
place_there Gone n p h = cc

page_reads : (first : ℕ) (run : BlockRun) (size page n : ℕ) → place_of_part (Write first run size) (part.Page page) ≡ Some n
    → slice_get (parts_of (Write first run size)) n ≡ Some (part.Page page)
page_reads first run size page n h = go (in_run first run page) refl h where
  go : (b : Bool) → in_run first run page ≡ b → cond b (Some (page - first + 1)) None ≡ Some n
      → slice_get (parts_of (Write first run size)) n ≡ Some (part.Page page)
  go true q k =
      let e : page - first + 1 ≡ n = same_Some (page - first + 1) n k in
      let p = and_parts (nat_le first page && nat_lt page (first + run.len)) (is_page page) q in
      let r = and_parts (nat_le first page) (nat_lt page (first + run.len)) p.0 in
      let from : first ≤ page = leb-true first page r.0 in
      let to : page < first + run.len = ltb-true page (first + run.len) r.1 in
      let within : page < 65536 = ltb-true page 65536 p.1 in
      let back : first + (n - 1) ≡ page = omega (arith, e, from) in
      page_at first run n (omega (arith, e)) (omega (arith, e, from, to, within)) ∙ ap (λ (x : ℕ). Some (part.Page x)) back
  go false q k = cc

pub place_reads : (item : Item) (p : Part) (n : ℕ) → place_of_part item p ≡ Some n → slice_get (parts_of item) n ≡ Some p
place_reads (Init kind mode) part.Kind n h = let e : 0 ≡ n = cc in rw (← e) refl
place_reads (Init kind mode) part.Mode n h = let e : 1 ≡ n = cc in rw (← e) refl
place_reads (Init kind mode) part.Size n h = let e : 2 ≡ n = cc in rw (← e) refl
place_reads (Init kind mode) part.Bound n h = cc
place_reads (Init kind mode) (part.Page page) n h = cc
place_reads (Write first run size) part.Size n h = let e : 0 ≡ n = cc in rw (← e) refl
place_reads (Write first run size) (part.Page page) n h = page_reads first run size page n h
place_reads (Write first run size) part.Kind n h = cc
place_reads (Write first run size) part.Mode n h = cc
place_reads (Write first run size) part.Bound n h = cc
place_reads (SetSize size) part.Size n h = let e : 0 ≡ n = cc in rw (← e) refl
place_reads (SetSize size) part.Kind n h = cc
place_reads (SetSize size) part.Mode n h = cc
place_reads (SetSize size) part.Bound n h = cc
place_reads (SetSize size) (part.Page page) n h = cc
place_reads (SetMode mode) part.Mode n h = let e : 0 ≡ n = cc in rw (← e) refl
place_reads (SetMode mode) part.Kind n h = cc
place_reads (SetMode mode) part.Size n h = cc
place_reads (SetMode mode) part.Bound n h = cc
place_reads (SetMode mode) (part.Page page) n h = cc
place_reads (Bind name to) part.Bound n h = let e : 0 ≡ n = cc in rw (← e) refl
place_reads (Bind name to) part.Kind n h = cc
place_reads (Bind name to) part.Mode n h = cc
place_reads (Bind name to) part.Size n h = cc
place_reads (Bind name to) (part.Page page) n h = cc
place_reads (Unbind name) p n h = cc
place_reads Gone p n h = cc

-- ---- names and numbers

own_id : (a : EntryId) → is_same_id a a ≡ true
own_id a = (ordered.same a a).1 refl

-- a part of later entries has another entry
later_id : (e : Entry) (log : List Entry) (n : ℕ) (k : KilledPart) → AllByRecursion (MayFollow e) log → killed_part log n ≡ Some k
    → IsIdBefore e.id k.part.entry
later_id e [] n k all h = cc
later_id e (x ∷ log) n k all h = go (nat_lt n (part_count x)) refl (λ r. later_id e log (n - part_count x) k all.1 r) where
  own : (o : Option Part) → named x o ≡ Some k → IsIdBefore e.id k.part.entry
  own None r = cc
  own (Some p) r =
      let is : x.id ≡ k.part.entry = ap (λ (part : KilledPart). part.part.entry) (same_Some _ k r) in
      subst (IsIdBefore e.id) is all.0.id_rises

  go : (b : Bool) → nat_lt n (part_count x) ≡ b → (killed_part log (n - part_count x) ≡ Some k → IsIdBefore e.id k.part.entry)
      → IsIdBefore e.id k.part.entry
  go true q rec = own (slice_get (parts_of x.item) n) (rw q at h)
  go false q rec = rec (rw q at h)

pub number_told : (log : List Entry) (n : ℕ) (k : KilledPart) → IsLog log → killed_part log n ≡ Some k → number_named log k.part ≡ Some n
number_told [] n k is h = cc
number_told (e ∷ log) n k is h = go (nat_lt n (part_count e)) refl (λ r. number_told log (n - part_count e) k is.1 r) where
  own : (o : Option Part) → slice_get (parts_of e.item) n ≡ o → named e o ≡ Some k → number_named (e ∷ log) k.part ≡ Some n
  own None p r = cc
  own (Some at) p r =
      let same : record { part = record { entry = e.id; part = at }; birth = e.epoch } ≡ k = same_Some _ k r in
      rw (← same) (rw (own_id e.id) (place_there e.item n at p))

  go : (b : Bool) → nat_lt n (part_count e) ≡ b
      → (killed_part log (n - part_count e) ≡ Some k → number_named log k.part ≡ Some (n - part_count e))
      → number_named (e ∷ log) k.part ≡ Some n
  go true q rec = own (slice_get (parts_of e.item) n) refl (rw q at h)
  go false q rec =
      let found : killed_part log (n - part_count e) ≡ Some k = rw q at h in
      let other : is_same_id e.id k.part.entry ≡ false = before-same e.id k.part.entry (later_id e log (n - part_count e) k is.0 found) in
      let whole : part_count e + (n - part_count e) ≡ n = omega (arith, ltb-false n (part_count e) q) in
      rw (other, rec found) (ap Some whole)

pub name_told : (log : List Entry) (id : PartId) (n : ℕ) → number_named log id ≡ Some n
    → option_map (λ k. k.part) (killed_part log n) ≡ Some id
name_told [] id n h = cc
name_told (e ∷ log) id n h = go (is_same_id e.id id.entry) refl (λ m r. name_told log id m r) where
  more : (o : Option ℕ) → number_named log id ≡ o → option_map (λ m. part_count e + m) o ≡ Some n
      → ((m : ℕ) → number_named log id ≡ Some m → option_map (λ k. k.part) (killed_part log m) ≡ Some id)
      → option_map (λ k. k.part) (killed_part (e ∷ log) n) ≡ Some id
  more None p k rec = cc
  more (Some m) p k rec =
      let is : part_count e + m ≡ n = same_Some (part_count e + m) n k in
      let past : nat_lt n (part_count e) ≡ false = le-ltb n (part_count e) (omega (arith, is)) in
      let back : n - part_count e ≡ m = omega (arith, is) in
      rw (past, back) (rec m p)

  go : (b : Bool) → is_same_id e.id id.entry ≡ b
      → ((m : ℕ) → number_named log id ≡ Some m → option_map (λ k. k.part) (killed_part log m) ≡ Some id)
      → option_map (λ k. k.part) (killed_part (e ∷ log) n) ≡ Some id
  go true q rec =
      let place : place_of_part e.item id.part ≡ Some n = rw q at h in
      let got : slice_get (parts_of e.item) n ≡ Some id.part = place_reads e.item id.part n place in
      let low : nat_lt n (part_count e) ≡ true = lt-ltb n (part_count e) (slice_get_within (parts_of e.item) n id.part got) in
      let ids : e.id ≡ id.entry = (ordered.same e.id id.entry).0 q in
      rw (low, got) (ap (λ (i : EntryId). Some (record { entry = i; part = id.part })) ids)
  go false q rec = more (number_named log id) refl (rw q at h) rec

pub told_once : (log : List Entry) (a b : PartId) (n : ℕ) → number_named log a ≡ Some n → number_named log b ≡ Some n → a ≡ b
told_once log a b n p q = same_Some a b (sym (name_told log a n p) ∙ name_told log b n q)

is_there : (log : List Entry) (n : ℕ) → n < part_total log → IsSome (killed_part log n)
is_there [] n lt = absurd (omega arith)
is_there (e ∷ log) n lt = go (nat_lt n (part_count e)) refl (λ l. is_there log (n - part_count e) l) where
  go : (b : Bool) → nat_lt n (part_count e) ≡ b → (n - part_count e < part_total log → IsSome (killed_part log (n - part_count e)))
      → IsSome (killed_part (e ∷ log) n)
  go true q rec = rw (q, slice_get-get_or (parts_of e.item) n part.Kind (ltb-true n (part_count e) q)) refl
  go false q rec = rw q (rec (omega (arith, lt, ltb-false n (part_count e) q)))

pub names_of_parts : (log : List Entry) → IsLog log → AreNamesOfParts log
names_of_parts log is = record {
  there = is_there log;
  number = λ n k. number_told log n k is;
  name = name_told log;
  once = told_once log;
}

-- ---- pairs

get_left : {X : Type 0} (xs ys : List X) (n : ℕ) → n < length xs → slice_get (xs ++ ys) n ≡ slice_get xs n
get_left [] ys n lt = absurd (omega arith)
get_left (x ∷ xs) ys zero lt = refl
get_left (x ∷ xs) ys (suc n) lt = get_left xs ys n (omega (arith, lt))

get_right : {X : Type 0} (xs ys : List X) (n : ℕ) → length xs ≤ n → slice_get (xs ++ ys) n ≡ slice_get ys (n - length xs)
get_right [] ys n le = let z : n ≡ n - 0 = omega arith in ap (slice_get ys) z
get_right (x ∷ xs) ys zero le = absurd (omega arith)
get_right (x ∷ xs) ys (suc n) le =
    let back : n - length xs ≡ suc n - suc (length xs) = omega arith in
    get_right xs ys n (omega (arith, le)) ∙ ap (slice_get ys) back

-- the pairs of the first entry, and those of the others
pub pair_first : (block : ℕ) (e : Entry) (log : List Entry) (n : ℕ) → n < part_count e
    → slice_get (pairs block (e ∷ log)) n ≡ option_map (pair_of block e log) (slice_get (parts_of e.item) n)
pair_first block e log n lt =
    get_left (pairs_of block e log) (pairs block log) n (omega (arith, lt, length-map (parts_of e.item) (pair_of block e log)))
    ∙ slice_get-map (pair_of block e log) (parts_of e.item) n

pub pair_later : (block : ℕ) (e : Entry) (log : List Entry) (n : ℕ) → part_count e ≤ n
    → slice_get (pairs block (e ∷ log)) n ≡ slice_get (pairs block log) (n - part_count e)
pair_later block e log n le =
    let len : length (pairs_of block e log) ≡ part_count e = length-map (parts_of e.item) (pair_of block e log) in
    get_right (pairs_of block e log) (pairs block log) n (omega (arith, len, le))
    ∙ ap (λ (k : ℕ). slice_get (pairs block log) (n - k)) len

pub are_pairs : (block : ℕ) (log : List Entry) → ArePairs block log
are_pairs block [] n = refl
are_pairs block (e ∷ log) n = go (nat_lt n (part_count e)) refl (are_pairs block log (n - part_count e)) where
  own : (o : Option Part) → named e o ≡ option_map part_of_pair (option_map (pair_of block e log) o)
  own None = refl
  own (Some p) = refl

  go : (b : Bool) → nat_lt n (part_count e) ≡ b
      → killed_part log (n - part_count e) ≡ option_map part_of_pair (slice_get (pairs block log) (n - part_count e))
      → killed_part (e ∷ log) n ≡ option_map part_of_pair (slice_get (pairs block (e ∷ log)) n)
  go true q rec =
      rw (q, pair_first block e log n (ltb-true n (part_count e) q)) (own (slice_get (parts_of e.item) n))
  go false q rec = rw (q, pair_later block e log n (ltb-false n (part_count e) q)) rec

-- ---- deaths

-- the first cover of a key that only the entries from `t` on cover
first_at : (block : ℕ) (later : List Entry) (t epoch : ℕ) (key : Key) → any_cover block (take t later) key ≡ false
    → any_cover block later key ≡ true
    → AllByRecursion (λ e. e.epoch ≡ epoch) (drop t later) → first_cover block later key ≡ Some epoch
first_at block [] t epoch key none some all = cc
first_at block (e ∷ later) zero epoch key none some all =
    go (covers block e.item key) refl (λ s. first_at block later zero epoch key refl s all.1) where
      go : (b : Bool) → covers block e.item key ≡ b → (any_cover block later key ≡ true → first_cover block later key ≡ Some epoch)
          → first_cover block (e ∷ later) key ≡ Some epoch
      go true q rec = rw q (ap Some all.0)
      go false q rec = rw q (rec (rw q at some))
first_at block (e ∷ later) (suc t) epoch key none some all =
    go (covers block e.item key) refl (λ n s. first_at block later t epoch key n s all) where
      go : (b : Bool) → covers block e.item key ≡ b
          → (any_cover block (take t later) key ≡ false → any_cover block later key ≡ true → first_cover block later key ≡ Some epoch)
          → first_cover block (e ∷ later) key ≡ Some epoch
      go true q rec = let z : true ≡ false = rw q at none in cc
      go false q rec = rw q (rec (rw q at none) (rw q at some))

pub dies_at : (block : ℕ) (es : List Entry) (tail epoch : ℕ) → AllByRecursion (λ e. e.epoch ≡ epoch) (drop tail es)
    → DiesAt block es tail epoch
dies_at block es tail epoch all n pair h p = go es tail n all (covered h) (uncovered h) p where
  covered : dies block es tail n ≡ true → is_covered block es n ≡ true
  covered h =
      let a = and_parts (nat_lt n (part_total es) && is_covered block es n) (not (is_covered block (take tail es) n)) h in
      (and_parts (nat_lt n (part_total es)) (is_covered block es n) a.0).1

  none : (b : Bool) → not b ≡ true → b ≡ false
  none true h = cc
  none false h = refl

  uncovered : dies block es tail n ≡ true → is_covered block (take tail es) n ≡ false
  uncovered h =
      none (is_covered block (take tail es) n)
      (and_parts (nat_lt n (part_total es) && is_covered block es n) (not (is_covered block (take tail es) n)) h).1

  -- the pair of the first entry's part
  own : (e : Entry) (es : List Entry) (t n : ℕ) → n < part_count e → any_cover block (take t es) (part_key e n) ≡ false
      → any_cover block es (part_key e n) ≡ true → AllByRecursion (λ x. x.epoch ≡ epoch) (drop t es)
      → slice_get (pairs block (e ∷ es)) n ≡ Some pair → pair.death ≡ Some epoch
  own e es t n lt without with all p =
      let at : Part = slice_index_or (parts_of e.item) n part.Kind in
      let got : slice_get (parts_of e.item) n ≡ Some at = slice_get-get_or (parts_of e.item) n part.Kind lt in
      let is : pair_of block e es at ≡ pair =
      same_Some (pair_of block e es at) pair (sym (pair_first block e es n lt ∙ ap (option_map (pair_of block e es)) got) ∙ p) in
      ap (λ (q : Pair). q.death) (sym is) ∙ first_at block es t epoch (part_key e n) without with all

  go : (es : List Entry) (tail n : ℕ) → AllByRecursion (λ e. e.epoch ≡ epoch) (drop tail es) → is_covered block es n ≡ true
      → is_covered block (take tail es) n ≡ false → slice_get (pairs block es) n ≡ Some pair → pair.death ≡ Some epoch
  go [] tail n all with without p = cc
  go (e ∷ es) zero n all with without p = at (nat_lt n (part_count e)) refl (λ w r. go es zero (n - part_count e) all.1 w refl r) where
    at : (b : Bool) → nat_lt n (part_count e) ≡ b
        → (is_covered block es (n - part_count e) ≡ true → slice_get (pairs block es) (n - part_count e) ≡ Some pair → pair.death
        ≡ Some epoch)
        → pair.death ≡ Some epoch
    at true q rec = own e es 0 n (ltb-true n (part_count e) q) refl (rw q at with) all.1 p
    at false q rec = rec (rw q at with) (sym (pair_later block e es n (ltb-false n (part_count e) q)) ∙ p)
  go (e ∷ es) (suc tail) n all with without p =
      at (nat_lt n (part_count e)) refl (λ w u r. go es tail (n - part_count e) all w u r) where
        at : (b : Bool) → nat_lt n (part_count e) ≡ b
            → (is_covered block es (n - part_count e) ≡ true → is_covered block (take tail es) (n - part_count e) ≡ false
            → slice_get (pairs block es) (n - part_count e) ≡ Some pair → pair.death ≡ Some epoch)
            → pair.death ≡ Some epoch
        at true q rec = own e es tail n (ltb-true n (part_count e) q) (rw q at without) (rw q at with) all p
        at false q rec =
            rec (rw q at with) (rw q at without) (sym (pair_later block e es n (ltb-false n (part_count e) q)) ∙ p)
