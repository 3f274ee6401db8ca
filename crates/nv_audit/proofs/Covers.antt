-- A table of what later entries cover, to which entries are put from the last one back.
use Rattle.std.proofs.Common.{◌≡◌, ℕ, ◌+◌, ◌<◌, ◌≤◌, Bool, true, false, cond, List, [], ◌∷◌, ◌++◌, length, map, take, drop, reverse, get_or, Option, None, Some, ap, ap₂, refl, subst, sym, ◌∙◌}
use Rattle.std.specs.Prelude.{option_and_then, slice_get}
use Rattle.std.specs.Option.{option_map}
use Rattle.std.proofs.lemmas.List.{append_assoc, append-nil, at_drop_all, drop_more, map-append, reverse-append, reverse-reverse, take_all, take_more}
use Rattle.std.proofs.lemmas.Option.{slice_get-get_or}
use Rattle.nv_cell.proofs.Numbers.{own_place_of}
use Rattle.nv_entry.specs.Keys.{Key, KindKey, ModeKey, NameKey, PageKey, SizeKey, covers, key_of, parts_of}
use Rattle.nv_entry.specs.Log.{IsLog, first_cover, pair_of, pairs, pairs_of}
use Rattle.nv_entry.specs.declared.held.Pair.{Pair}
use Rattle.nv_entry.specs.declared.item.Entry.{Entry}
use Rattle.nv_entry.specs.declared.part.Part.{Part}
use Rattle.nv_findex.specs.Pages.{ref_at}
use Rattle.nv_log.specs.Chain.{place_of_id}
use Rattle.nv_audit.specs.Deaths.{Puts, cover_before, cover_in, covers_of, epoch_of, page_cover}
use Rattle.nv_audit.specs.declared.first_covers.FirstCovers.{FirstCovers}

-- ---- the table

-- it tells of these entries of a log which covers each key first
abbrev pub AreCovers : ℕ → List Entry → List Entry → FirstCovers → Type 0
AreCovers block log later c = (key : Key) → cover_in log c key ≡ first_cover block later key

-- an entry has the id by which its epoch is found
pub own_epoch : (log : List Entry) (i : ℕ) (e : Entry) → IsLog log → i < length log → e ≡ get_or log i e
    → epoch_of log e.id ≡ Some e.epoch
own_epoch log i e is lt at =
    let place : place_of_id log e.id ≡ Some i = ap (λ (x : Entry). place_of_id log x.id) at ∙ own_place_of log i e is lt in
    let got : slice_get log i ≡ Some e = slice_get-get_or log i e lt ∙ ap Some (sym at) in
    ap (λ (o : Option ℕ). option_map (λ (x : Entry). x.epoch) (option_and_then (slice_get log) o)) place
    ∙ ap (option_map (λ (x : Entry). x.epoch)) got

-- one more entry is put
pub covers_more : (block : ℕ) (log : List Entry) (e : Entry) (later : List Entry) (old new : FirstCovers)
    → epoch_of log e.id ≡ Some e.epoch → AreCovers block log later old → Puts block e old new → AreCovers block log (e ∷ later) new
covers_more block log e later old new own are put KindKey = put.kind ∙ ap (cover_before block e KindKey) (are KindKey)
covers_more block log e later old new own are put ModeKey = put.mode ∙ ap (cover_before block e ModeKey) (are ModeKey)
covers_more block log e later old new own are put SizeKey = put.size ∙ ap (cover_before block e SizeKey) (are SizeKey)
covers_more block log e later old new own are put (NameKey name) =
    put.names name ∙ ap (cover_before block e (NameKey name)) (are (NameKey name))
covers_more block log e later old new own are put (PageKey page) =
    ap (option_and_then (epoch_of log)) (put.pages page) ∙ go (covers block e.item (PageKey page)) where
      go : (b : Bool) → option_and_then (epoch_of log) (cond b (Some e.id) (page_cover old.pages page))
          ≡ cond b (Some e.epoch) (first_cover block later (PageKey page))
      go true = own
      go false = are (PageKey page)

-- no page is set where there is no run
pub no_page : (log : List Entry) (page : ℕ)
    → option_and_then (epoch_of log) (page_cover (record { pages = []; room = 0 }) page) ≡ None
unfolding ref_at
no_page log page = refl

-- ---- deaths

abbrev pub death_of : Pair → Option ℕ
death_of pair = pair.death

-- it tells when the parts of the entry before them died
pub covers_told : (block : ℕ) (log : List Entry) (e : Entry) (later : List Entry) (c : FirstCovers) → AreCovers block log later c
    → covers_of log c e ≡ map death_of (pairs_of block e later)
covers_told block log e later c are = go (parts_of e.item) where
  go : (ps : List Part) → map (λ (part : Part). cover_in log c (key_of e.item part)) ps ≡ map death_of (map (pair_of block e later) ps)
  go [] = refl
  go (p ∷ ps) = ap₂ (λ (x : Option ℕ) (xs : List (Option ℕ)). x ∷ xs) (are (key_of e.item p)) (go ps)

-- the deaths of one more entry's parts, from the last one back
pub deaths_more : (block : ℕ) (e : Entry) (later : List Entry) (own old new : List (Option ℕ))
    → own ≡ map death_of (pairs_of block e later) → old ≡ reverse (map death_of (pairs block later)) → new ≡ old ++ reverse own
    → new ≡ reverse (map death_of (pairs block (e ∷ later)))
deaths_more block e later own old new told are put =
    put ∙ ap₂ (λ (xs ys : List (Option ℕ)). xs ++ reverse ys) are told
    ∙ sym (reverse-append (map death_of (pairs_of block e later)) (map death_of (pairs block later)))
    ∙ ap reverse (sym (map-append death_of (pairs_of block e later) (pairs block later)))

-- one more value, from the last one back
pub told_back : {X Y : Type 0} (f : X → Y) (xs : List X) (q : ℕ) (x : X) (items : List Y) → q < length xs → x ≡ get_or xs q x
    → (items ++ f x ∷ []) ++ reverse (map f (take q xs)) ≡ items ++ reverse (map f (take (q + 1) xs))
told_back {X} {Y} f xs q x items lt is =
    append_assoc items (f x ∷ []) (reverse (map f (take q xs)))
    ∙ ap (λ (ys : List Y). items ++ ys) (sym (
    ap (λ (zs : List X). reverse (map f zs)) (take_more xs q x lt ∙ ap (λ (y : X). take q xs ++ y ∷ []) (sym is))
    ∙ ap reverse (map-append f (take q xs) (x ∷ []))
    ∙ reverse-append (map f (take q xs)) (f x ∷ [])))

-- a list begins with none of them, has one more, and has all
pub told_none : {X Y : Type 0} (f : X → Y) (xs : List X) (n : ℕ) (items : List Y) → length xs ≤ n
    → items ++ reverse (map f (take n xs)) ≡ items ++ reverse (map f xs)
told_none {X} {Y} f xs n items past = ap (λ (ys : List X). items ++ reverse (map f ys)) (take_all n xs past)

pub told_more : {X Y : Type 0} (f : X → Y) (xs : List X) (q n : ℕ) (x : X) (y : Y) (old new whole : List Y) → q + 1 ≡ n
    → q < length xs → x ≡ get_or xs q x → y ≡ f x → new ≡ old ++ y ∷ [] → old ++ reverse (map f (take n xs)) ≡ whole
    → new ++ reverse (map f (take q xs)) ≡ whole
told_more {X} {Y} f xs q n x y old new whole next lt is own put told =
    ap (λ (ys : List Y). ys ++ reverse (map f (take q xs))) (put ∙ ap (λ (z : Y). old ++ z ∷ []) own)
    ∙ told_back f xs q x old lt is
    ∙ ap (λ (m : ℕ). old ++ reverse (map f (take m xs))) next
    ∙ told

pub told_all : {X Y : Type 0} (f : X → Y) (xs : List X) (n : ℕ) (items whole : List Y) → n ≡ 0
    → items ++ reverse (map f (take n xs)) ≡ whole → items ≡ whole
told_all {X} {Y} f xs n items whole none told =
    sym (append-nil items) ∙ ap (λ (m : ℕ). items ++ reverse (map f (take m xs))) (sym none) ∙ told

-- ---- along a log, from its end back

-- the entries from a place on begin with the one there
behind : (log : List Entry) (i n : ℕ) (e : Entry) → i + 1 ≡ n → i < length log → e ≡ get_or log i e → drop i log ≡ e ∷ drop n log
behind log i n e next lt is =
    drop_more log i e lt ∙ ap (λ (x : Entry). x ∷ drop (i + 1) log) (sym is) ∙ ap (λ (m : ℕ). e ∷ drop m log) next

-- no entry is put yet
pub covers_none : (block : ℕ) (log : List Entry) (n : ℕ) (c : FirstCovers) → length log ≤ n
    → ((key : Key) → cover_in log c key ≡ None) → AreCovers block log (drop n log) c
covers_none block log n c past none key =
    none key ∙ sym (at_drop_all (λ (es : List Entry). first_cover block es key) log n past)

pub deaths_none : (block : ℕ) (log : List Entry) (n : ℕ) (items : List (Option ℕ)) → length log ≤ n → items ≡ []
    → items ≡ reverse (map death_of (pairs block (drop n log)))
deaths_none block log n items past none =
    none ∙ sym (at_drop_all (λ (es : List Entry). reverse (map death_of (pairs block es))) log n past)

-- the entry at a place is put
pub covers_step : (block : ℕ) (log : List Entry) (i n : ℕ) (e : Entry) (old new : FirstCovers) → IsLog log → i + 1 ≡ n
    → i < length log → e ≡ get_or log i e → AreCovers block log (drop n log) old → Puts block e old new
    → AreCovers block log (drop i log) new
covers_step block log i n e old new is next lt at are put =
    subst (λ (es : List Entry). AreCovers block log es new) (sym (behind log i n e next lt at))
    (covers_more block log e (drop n log) old new (own_epoch log i e is lt at) are put)

pub deaths_step : (block : ℕ) (log : List Entry) (i n : ℕ) (e : Entry) (c : FirstCovers) (old new : List (Option ℕ)) → i + 1 ≡ n
    → i < length log → e ≡ get_or log i e → AreCovers block log (drop n log) c
    → old ≡ reverse (map death_of (pairs block (drop n log))) → new ≡ old ++ reverse (covers_of log c e)
    → new ≡ reverse (map death_of (pairs block (drop i log)))
deaths_step block log i n e c old new next lt at are told put =
    let later : List Entry = drop n log in
    deaths_more block e later (covers_of log c e) old new (covers_told block log e later c are) told put
    ∙ ap (λ (es : List Entry). reverse (map death_of (pairs block es))) (sym (behind log i n e next lt at))

-- all are put
pub deaths_all : (block : ℕ) (log : List Entry) (n : ℕ) (items : List (Option ℕ)) → n ≡ 0
    → items ≡ reverse (map death_of (pairs block (drop n log))) → reverse items ≡ map death_of (pairs block log)
deaths_all block log n items none are =
    ap reverse (are ∙ ap (λ (m : ℕ). reverse (map death_of (pairs block (drop m log)))) none)
    ∙ reverse-reverse (map death_of (pairs block log))
