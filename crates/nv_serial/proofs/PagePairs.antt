-- How many blocks of parts a log has, by its pairs: each is of a page that something keeps, and
-- each name is of one pair.
use Rattle.std.proofs.Common.{◌≡◌, ℕ, suc, ◌+◌, ◌-◌, ◌<◌, ◌≤◌, ◌&&◌, ◌||◌, ◌∙◌, Bool, true, false, cond, List, [], ◌∷◌, Option, Some, None, ap, arith, flat_map, length, nat_lt, refl, slice_get, slice_index_or, sym}
use Rattle.std.specs.Prelude.{option_and_then}
use Rattle.std.specs.Option.{option_map}
use Rattle.std.proofs.lemmas.Bool.{and_parts, ltb-false, ltb-true}
use Rattle.std.proofs.lemmas.Option.{get_or_from_slice_get, same_Some}
use Rattle.nv_alloc.specs.Block.{BlockValue}
use Rattle.nv_base.specs.Names.{same_name}
use Rattle.nv_book.specs.Records.{is_page}
use Rattle.nv_cell.specs.Cell.{of_part, page_block}
use Rattle.nv_cell.specs.Named.{number_named}
use Rattle.nv_cell.proofs.NamedParts.{pair_first, pair_later}
use Rattle.nv_cell.proofs.NamedPairs.{name_is, number_is}
use Rattle.nv_entry.specs.Covered.{part_count}
use Rattle.nv_entry.specs.Data.{block_in}
use Rattle.nv_entry.specs.Held.{has_name, is_named}
use Rattle.nv_entry.specs.Keys.{Key, KindKey, key_of, parts_of, sets}
use Rattle.nv_entry.specs.Log.{IsLog, pair_of, pairs, value_of}
use Rattle.nv_entry.specs.declared.held.Pair.{Pair}
use Rattle.nv_entry.specs.declared.item.Entry.{Entry}
use Rattle.nv_entry.specs.declared.item.Item.{Item}
use Rattle.nv_entry.specs.declared.item.Item.TheVariants.{Bind, Gone, Init, SetMode, SetSize, Unbind, Write}
use Rattle.nv_entry.specs.declared.key.Datum.TheVariants as datum
use Rattle.nv_entry.specs.declared.key.Setting.TheVariants.{Absent, Present, Untouched}
use Rattle.nv_entry.specs.declared.part.Part.{Part}
use Rattle.nv_entry.specs.declared.part.Part.TheVariants as part
use Rattle.nv_entry.specs.declared.part.PartId.{PartId}
use Rattle.nv_machine.proofs.FiledLists.{count, count_cons, one}
use Rattle.nv_machine.proofs.Pairs.{named_same}

-- ---- a part that has a block is a page

page_only : (block : ℕ) (item : Item) (p : Part) (number : ℕ)
    → option_and_then block_in (value_of (sets block item (key_of item p))) ≡ Some number
    → is_page p ≡ true
page_only block item (part.Page page) number e = refl
page_only block (Bind name to) part.Bound number e = go (same_name name name) e where
  go : (b : Bool) → option_and_then block_in (value_of (cond b (Present (datum.Node to)) Untouched))
      ≡ Some number → false ≡ true
  go true e = cc
  go false e = cc
page_only block (Unbind name) part.Bound number e = go (same_name name name) e where
  go : (b : Bool) → option_and_then block_in (value_of (cond b Absent Untouched)) ≡ Some number
      → false ≡ true
  go true e = cc
  go false e = cc
page_only block (Init kind mode) other number e = cc
page_only block (Write first run size) other number e = cc
page_only block (SetSize size) other number e = cc
page_only block (SetMode mode) other number e = cc
page_only block (Bind name to) other number e = cc
page_only block (Unbind name) other number e = cc
page_only block Gone other number e = cc

pub paged : (block : ℕ) (log : List Entry) (n : ℕ) (pair : Pair) (number : ℕ)
    → slice_get (pairs block log) n ≡ Some pair
    → page_block block log n ≡ Some number → is_page pair.part ≡ true
paged block [] n pair number got says = cc
paged block (e ∷ log) n pair number got says =
    go (nat_lt n (part_count e)) refl says (paged block log (n - part_count e) pair number) where
      said : (o : Option Part) → slice_get (parts_of e.item) n ≡ o
          → option_map (pair_of block e log) o ≡ Some pair
          → option_and_then block_in
          (value_of (sets block e.item
          (key_of e.item (slice_index_or (parts_of e.item) n part.Kind)))) ≡ Some number
          → is_page pair.part ≡ true
      said None q f own = cc
      said (Some p) q f own =
          let key = ap (key_of e.item) (get_or_from_slice_get (parts_of e.item) n p part.Kind q) in
          let is : pair_of block e log p ≡ pair = same_Some (pair_of block e log p) pair f in
          ap (λ (u : Pair). is_page u.part) (sym is)
          ∙ page_only block e.item p number
          (sym (ap (λ (k : Key). option_and_then block_in (value_of (sets block e.item k))) key)
          ∙ own)

      go : (b : Bool) → nat_lt n (part_count e) ≡ b
          → cond b (option_and_then block_in (value_of (sets block e.item (cond b
          (key_of e.item (slice_index_or (parts_of e.item) n part.Kind)) KindKey))))
          (page_block block log (n - part_count e)) ≡ Some number
          → (slice_get (pairs block log) (n - part_count e) ≡ Some pair
          → page_block block log (n - part_count e) ≡ Some number
          → is_page pair.part ≡ true)
          → is_page pair.part ≡ true
      go true low own more =
          said (slice_get (parts_of e.item) n) refl
          (sym (pair_first block e log n (ltb-true n (part_count e) low)) ∙ got) own
      go false past own more =
          more (sym (pair_later block e log n (ltb-false n (part_count e) past)) ∙ got) own

-- so no more parts have blocks than pairs pass a test that the pair of each such part passes
pub stored_few : (blocks : List (Option BlockValue)) (test : Pair → Bool) (ps : List Pair)
    → length blocks ≡ length ps
    → ((n : ℕ) (b : BlockValue) (pair : Pair) → slice_index_or blocks n None ≡ Some b
    → slice_get ps n ≡ Some pair → test pair ≡ true)
    → length (flat_map of_part blocks) ≤ count test ps
stored_few [] test ps many passes = omega arith
stored_few (o ∷ blocks) test [] many passes = absurd (omega (arith, many))
stored_few (None ∷ blocks) test (p ∷ ps) many passes =
    let rest = stored_few blocks test ps (omega (arith, many)) (λ n b pair there got. passes (suc n)
    b pair there got) in
    omega (arith, count_cons test p ps, rest)
stored_few (Some b ∷ blocks) test (p ∷ ps) many passes =
    let rest = stored_few blocks test ps (omega (arith, many)) (λ n b pair there got. passes (suc n)
    b pair there got) in
    let own = ap one (passes 0 b p refl refl) in
    omega (arith, count_cons test p ps, rest, own)

-- ---- each name is of one pair at most

none_further : (test : Pair → Bool) (m from : ℕ) (ps : List Pair) → m < from
    → ((n : ℕ) (pair : Pair) → slice_get ps n ≡ Some pair → test pair ≡ true → m ≡ from + n)
    → count test ps ≡ 0
none_further test m from [] past only = refl
none_further test m from (p ∷ ps) past only =
    go (test p) refl (none_further test m (from + 1) ps (omega (arith, past)) (λ n pair got is.
    let at = only (suc n) pair got is in omega (arith, at))) where
      go : (b : Bool) → test p ≡ b → count test ps ≡ 0 → count test (p ∷ ps) ≡ 0
      go true is rest = absurd (let at = only 0 p refl is in omega (arith, at, past))
      go false is rest = omega (arith, count_cons test p ps, ap one is, rest)

one_only : (test : Pair → Bool) (o : Option ℕ) (from : ℕ) (ps : List Pair)
    → ((n : ℕ) (pair : Pair) → slice_get ps n ≡ Some pair → test pair ≡ true → o ≡ Some (from + n))
    → count test ps ≤ 1
one_only test o from [] only = omega arith
one_only test o from (p ∷ ps) only =
    go (test p) refl (one_only test o (from + 1) ps (λ n pair got is.
    only (suc n) pair got is ∙ ap (λ (k : ℕ). Some k) (let on : from + suc n ≡ from + 1 + n =
    omega arith in on))) where
      go : (b : Bool) → test p ≡ b → count test ps ≤ 1 → count test (p ∷ ps) ≤ 1
      go true is rest =
          let at : o ≡ Some (from + 0) = only 0 p refl is in
          let none : count test ps ≡ 0 =
          none_further test (from + 0) (from + 1) ps (omega arith) (λ n pair got yes.
          let same = same_Some (from + 0) (from + suc n) (sym at ∙ only (suc n) pair got yes) in
          omega (arith, same)) in
          omega (arith, count_cons test p ps, ap one is, none)
      go false is rest = omega (arith, count_cons test p ps, ap one is, rest)

pub count_split : {X : Type 0} (f g h : X → Bool) → ((x : X) → one (f x) ≤ one (g x) + one (h x))
    → (xs : List X)
    → count f xs ≤ count g xs + count h xs
count_split f g h few [] = omega arith
count_split f g h few (x ∷ xs) =
    let own = few x in
    omega (
      arith,
      count_cons f x xs,
      count_cons g x xs,
      count_cons h x xs,
      own,
      count_split f g h
          few xs,
    )

pub either_few : (p a b : Bool) → one (p && (a || b)) ≤ one (p && a) + one (p && b)
either_few true true b = omega arith
either_few true false b = omega arith
either_few false a b = omega arith

-- the names of pages
abbrev pub page_names : List PartId → ℕ
page_names names = count (λ (id : PartId). is_page id.part) names

module _ (block : ℕ) (log : List Entry) (is : IsLog log) where
  off : (id : PartId) (p : Pair) → is_page id.part ≡ false → one (is_page p.part && has_name p id)
      ≡ 0
  off id p out = go (has_name p id) refl where
    go : (b : Bool) → has_name p id ≡ b → one (is_page p.part && b) ≡ 0
    go true named =
        let other : is_page p.part ≡ false = ap (λ (i : PartId). is_page i.part)
        (sym (name_is p id named)) ∙ out in
        ap (λ (b : Bool). one (b && true)) other
    go false named = both (is_page p.part) where
      both : (b : Bool) → one (b && false) ≡ 0
      both true = refl
      both false = refl

  all_off : (id : PartId) (ps : List Pair) → is_page id.part ≡ false
      → count (λ (p : Pair). is_page p.part && has_name p id) ps ≡ 0
  all_off id [] out = refl
  all_off id (p ∷ ps) out =
      omega (
        arith,
        count_cons (λ (p : Pair). is_page p.part && has_name p id) p ps,
        off id p out,
        all_off id ps out,
      )

  one_named : (id : PartId) → count (λ (p : Pair). is_page p.part && has_name p id)
      (pairs block log) ≤ one (is_page id.part)
  one_named id = go (is_page id.part) refl where
    go : (b : Bool) → is_page id.part ≡ b → count (λ (p : Pair). is_page p.part && has_name p id)
        (pairs block log) ≤ one b
    go true paged_name =
        one_only (λ (p : Pair). is_page p.part && has_name p id) (number_named log id) 0
        (pairs block log) (λ n pair got passes.
        number_is (number_named log id) n
        (sym (named_same block log is n pair got id)
        ∙ (and_parts (is_page pair.part) (has_name pair id) passes).1)
        ∙ ap (λ (k : ℕ). Some k) (let zeroth : n ≡ 0 + n = omega arith in zeroth))
    go false out = omega (arith, all_off id (pairs block log) out)

  pub named_few : (names : List PartId) → count (λ (p : Pair). is_page p.part && is_named names p)
      (pairs block log) ≤ page_names names
  named_few [] = none (pairs block log) where
    nothing : (b : Bool) → one (b && false) ≡ 0
    nothing true = refl
    nothing false = refl

    none : (ps : List Pair) → count (λ (p : Pair). is_page p.part && false) ps ≤ 0
    none [] = omega arith
    none (p ∷ ps) =
        let rest = none ps in
        omega (
          arith,
          count_cons (λ (p : Pair). is_page p.part && false) p ps,
          nothing
              (is_page p.part),
          rest,
        )
  named_few (id ∷ names) =
      let split = count_split (λ (p : Pair). is_page p.part && is_named (id ∷ names) p)
      (λ (p : Pair). is_page p.part && has_name p id)
      (λ (p : Pair). is_page p.part && is_named names p)
      (λ p. either_few (is_page p.part) (has_name p id) (is_named names p)) (pairs block log) in
      let own = one_named id in
      let rest = named_few names in
      omega (arith, split, own, rest, count_cons (λ (id : PartId). is_page id.part) id names)
