-- An entry that a chain gets stands on the page that the world with numbers says.
use Rattle.std.proofs.Common.{◌≡◌, ◌∙◌, ℕ, zero, suc, ◌+◌, ◌-◌, ◌<◌, ◌≤◌, ◌&&◌, ◌++◌, Bool, true, false, List, [], ◌∷◌, ap, arith, drop, get_or, if◌then◌else◌, length, length-drop, length-take, nat_lt, refl, subst, sym, take}
use Rattle.std.specs.Prelude.{not}
use Rattle.std.specs.List.{AllByRecursion}
use Rattle.std.proofs.lemmas.Bool.{le-ltb, lt-ltb, ltb-false}
use Rattle.nv_alloc.specs.Block.{BlockValue}
use Rattle.nv_entry.specs.declared.item.Entry.{Entry}
use Rattle.nv_log.specs.Chain.{AreEnds, ChainState, IsChain, appended, open_of, pages_of, parts_from, room_of, start_in}
use Rattle.nv_log.proofs.Chains.{appends_entry, open_within, opens}
use Rattle.nv_log.proofs.Parts.{length-parts, part_any}
use Rattle.nv_cell.specs.Readers.{has_entry}
use Rattle.nv_serial.specs.LogPages.{Page, entries_in, has_more, with_entry}
use Rattle.nv_serial.specs.Shown.{pages_told}

-- ---- pages that have more entries, or none

none_in : (blocks : List BlockValue) → entries_in (pages_told blocks []) ≡ []
none_in [] = refl
none_in (b ∷ blocks) = none_in blocks

none_more : (blocks : List BlockValue) → has_more (pages_told blocks []) ≡ false
none_more blocks = ap has_entry (none_in blocks)

some_more : (b : BlockValue) (blocks : List BlockValue) (part : List Entry) (parts : List (List Entry)) → 0 < length part
    → has_more (pages_told (b ∷ blocks) (part ∷ parts)) ≡ true
some_more b blocks [] parts some = absurd (omega (arith, some))
some_more b blocks (e ∷ part) parts some = refl

-- the last part has no room
abbrev IsFull : ℕ → List (List Entry) → Type 0
IsFull size [] = Unit {0}
IsFull size (part ∷ []) = size ≤ length part
IsFull size (part ∷ other ∷ parts) = IsFull size (other ∷ parts)

-- ---- where the entry goes

not_both : (a b : Bool) → b ≡ true → (a && not b) ≡ false
not_both true b e = ap not e
not_both false b e = refl

and_not : (a b : Bool) → a ≡ true → b ≡ false → (a && not b) ≡ true
and_not a b one other = ap (λ x. x && not b) one ∙ ap not other

module _ (size : ℕ) (e : Entry) where
  -- the head of pages gets it, or does not
  here : (p : Page) (pages : List Page) → (nat_lt (length p.entries) size && not (has_more pages)) ≡ true
      → with_entry size e (p ∷ pages) ≡ record p { entries = p.entries ++ e ∷ [] } ∷ pages
  here p pages is = ap (λ b. if b then record p { entries = p.entries ++ e ∷ [] } ∷ pages else p ∷ with_entry size e pages) is

  behind : (p : Page) (pages : List Page) → (nat_lt (length p.entries) size && not (has_more pages)) ≡ false
      → with_entry size e (p ∷ pages) ≡ p ∷ with_entry size e pages
  behind p pages is = ap (λ b. if b then record p { entries = p.entries ++ e ∷ [] } ∷ pages else p ∷ with_entry size e pages) is

  pub told : (k : ℕ) (blocks : List BlockValue) (parts : List (List Entry)) → k < length blocks → k ≤ length parts → length parts ≤ k + 1
      → length (get_or parts k []) < size → (k ≡ length parts → IsFull size parts)
      → AllByRecursion (λ (part : List Entry). 0 < length part) parts
      → with_entry size e (pages_told blocks parts) ≡ pages_told blocks (take k parts ++ (get_or parts k [] ++ e ∷ []) ∷ [])
  told k [] parts in_blocks low high free full some = absurd (omega (arith, in_blocks))
  told zero (b ∷ blocks) [] in_blocks low high free full some =
      here (record { number = b.number; entries = [] }) (pages_told blocks [])
      (and_not (nat_lt 0 size) (has_more (pages_told blocks [])) (lt-ltb 0 size free) (none_more blocks))
  told zero (b ∷ blocks) (part ∷ []) in_blocks low high free full some =
      here (record { number = b.number; entries = part }) (pages_told blocks [])
      (and_not (nat_lt (length part) size) (has_more (pages_told blocks [])) (lt-ltb (length part) size free) (none_more blocks))
  told zero (b ∷ blocks) (part ∷ other ∷ parts) in_blocks low high free full some = absurd (omega (arith, high))
  told (suc k) (b ∷ blocks) [] in_blocks low high free full some = absurd (omega (arith, low))
  told (suc k) (b ∷ blocks) (part ∷ []) in_blocks low high free full some =
      let last : k ≡ 0 = omega (arith, low) in
      let no_room : size ≤ length part = full (omega (arith, last)) in
      behind (record { number = b.number; entries = part }) (pages_told blocks [])
      (ap (λ x. x && not (has_more (pages_told blocks []))) (le-ltb (length part) size no_room))
      ∙ ap (λ (rest : List Page). record { number = b.number; entries = part } ∷ rest)
      (told k blocks [] (omega (arith, in_blocks)) (omega (arith, last)) (omega arith) free (λ is. tt) tt)
  told (suc k) (b ∷ []) (part ∷ other ∷ parts) in_blocks low high free full some = absurd (omega (arith, in_blocks))
  told (suc k) (b ∷ c ∷ blocks) (part ∷ other ∷ parts) in_blocks low high free full some =
      behind (record { number = b.number; entries = part }) (pages_told (c ∷ blocks) (other ∷ parts))
      (not_both (nat_lt (length part) size) _ (some_more c blocks other parts some.1.0))
      ∙ ap (λ (rest : List Page). record { number = b.number; entries = part } ∷ rest)
      (told k (c ∷ blocks) (other ∷ parts) (omega (arith, in_blocks)) (omega (arith, low)) (omega (arith, high)) free
      (λ is. full (ap suc is)) some.1)

-- ---- the parts of a chain

each_some : (most from : ℕ) (ends : List ℕ) (len : ℕ) (xs : List Entry) → AreEnds most from ends len → from + length xs ≡ len
    → AllByRecursion (λ (part : List Entry). 0 < length part) (parts_from from ends xs)
each_some most from [] len xs are is = tt
each_some most from (end ∷ ends) len xs are is =
    let rest = below most end ends len are.2 in (
      omega (arith, length-take (end - from) xs, are.0, is, rest),
      each_some most end ends len (drop (end - from) xs) are.2 (omega (arith, length-drop (end - from) xs, are.0, is, rest)),
    ) where
      below : (most from : ℕ) (ends : List ℕ) (len : ℕ) → AreEnds most from ends len → from ≤ len
      below most from [] len are = omega (arith, are)
      below most from (end ∷ ends) len are = omega (arith, are.0, below most end ends len are.2)

full_at : (size : ℕ) (parts : List (List Entry)) → (0 < length parts → size ≤ length (get_or parts (length parts - 1) [])) → IsFull size parts
full_at size [] is = tt
full_at size (part ∷ []) is = is (omega arith)
full_at size (part ∷ other ∷ parts) is =
    full_at size (other ∷ parts) (λ some.
    let step : length (part ∷ other ∷ parts) - 1 ≡ suc (length (other ∷ parts) - 1) = omega (arith, some) in
    subst (λ (n : ℕ). size ≤ length (get_or (part ∷ other ∷ parts) n [])) step (is (omega arith)))

-- all entries end with the last part
ends_last_any : (most : ℕ) (ends : List ℕ) (len : ℕ) → AreEnds most 0 ends len → 0 < length ends → get_or ends (length ends - 1) len ≡ len
ends_last_any most ends len are some = go ends 0 are some where
  go : (ends : List ℕ) (from : ℕ) → AreEnds most from ends len → 0 < length ends → get_or ends (length ends - 1) len ≡ len
  go [] from are some = absurd (omega (arith, some))
  go (end ∷ []) from are some = are.2
  go (end ∷ other ∷ ends) from are some =
      let step : length (end ∷ other ∷ ends) - 1 ≡ suc (length (other ∷ ends) - 1) = omega arith in
      ap (λ (n : ℕ). get_or (end ∷ other ∷ ends) n len) step ∙ go (other ∷ ends) end are.2 (omega arith)

-- THE PAGES OF A CHAIN with one more entry
module _ (chain : ChainState) (e : Entry) (is : IsChain chain) (room : 0 < room_of chain) where
  abbrev parts : List (List Entry)
  parts = pages_of chain

  abbrev len : ℕ
  len = length chain.entries

  many : length parts ≡ length chain.ends
  many = length-parts 0 chain.ends chain.entries

  -- how many entries a part has, and one past the last
  part_len : (k : ℕ) → length (get_or parts k []) ≤ len - start_in chain.ends len k
  part_len k =
      let part = part_any chain.page chain.ends k chain.entries is.parted in
      let cut = length-drop (get_or (0 ∷ chain.ends) k len) chain.entries in
      omega (arith, ap length part, length-take (get_or chain.ends k len - get_or (0 ∷ chain.ends) k len) (drop (get_or (0 ∷ chain.ends) k len) chain.entries), cut)

  told_at : (at_most : length parts ≤ open_of chain + 1) → (open_of chain ≡ length parts → IsFull chain.page parts)
      → pages_told (appended e chain).blocks (pages_of (appended e chain)) ≡ with_entry chain.page e (pages_told chain.blocks (pages_of chain))
  told_at at_most full =
      let opened = opens chain is in
      ap (pages_told chain.blocks) (appends_entry chain e is room).pages_are
      ∙ sym (told chain.page e (open_of chain) chain.blocks parts (open_within chain room)
      (omega (arith, many, opened.at_most)) at_most
      (let few = part_len (open_of chain) in omega (arith, few, opened.free))
      full (each_some chain.page 0 chain.ends len chain.entries is.parted (omega arith)))

  -- the page that is open is the last with entries, or the last is full
  last_part : 0 < length chain.ends → len - start_in chain.ends len (length chain.ends - 1) ≤ length (get_or parts (length parts - 1) [])
  last_part some =
      let k : ℕ = length chain.ends - 1 in
      let part = part_any chain.page chain.ends k chain.entries is.parted in
      let ends : get_or chain.ends k len ≡ len = last_end chain.ends (length chain.ends - 1) some in
      let cut = length-drop (get_or (0 ∷ chain.ends) k len) chain.entries in
      let taken = length-take (get_or chain.ends k len - get_or (0 ∷ chain.ends) k len) (drop (get_or (0 ∷ chain.ends) k len) chain.entries) in
      subst (λ (n : ℕ). len - start_in chain.ends len (length chain.ends - 1) ≤ length (get_or parts (n - 1) [])) (sym many)
      (omega (arith, ap length part, taken, ends, cut)) where
        last_end : (ends : List ℕ) (k : ℕ) → 0 < length chain.ends → get_or chain.ends (length chain.ends - 1) len ≡ len
        last_end ends k some = ends_last_any chain.page chain.ends len is.parted some

  at_most : (b : Bool) → length parts ≤ (if b then length chain.ends - 1 else length chain.ends) + 1
  at_most true = omega (arith, many)
  at_most false = omega (arith, many)

  full : (b : Bool) → nat_lt (len - start_in chain.ends len (length chain.ends - 1)) chain.page ≡ b
      → (if b then length chain.ends - 1 else length chain.ends) ≡ length parts → IsFull chain.page parts
  full true is_open all = full_at chain.page parts (λ some. absurd (omega (arith, many, all, some)))
  full false is_open all = full_at chain.page parts (λ some.
      let no_room = ltb-false (len - start_in chain.ends len (length chain.ends - 1)) chain.page is_open in
      let most = last_part (omega (arith, some, many)) in
      omega (arith, no_room, most))

  pub told_appended : pages_told (appended e chain).blocks (pages_of (appended e chain))
      ≡ with_entry chain.page e (pages_told chain.blocks (pages_of chain))
  told_appended =
      let b : Bool = nat_lt (len - start_in chain.ends len (length chain.ends - 1)) chain.page in
      told_at (at_most b) (full b refl)
