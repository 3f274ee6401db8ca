-- The fresh pages of a thorough cleaning that is made alone are the first numbers of the row, and they are short exactly where
-- the row is.
use Rattle.std.proofs.Common.{◌≡◌, ℕ, suc, ◌+◌, ◌-◌, ◌%◌, ◌<◌, ◌≤◌, ◌++◌, ◌∙◌, false, List, [], add-one, ap, append_assoc, arith, drop, length, length-append, length-set, length-take, nat_lt, slice_index_or, slice_set, subst, sym, take}
use Rattle.std.proofs.lemmas.Bool.{ltb-false}
use Rattle.std.proofs.lemmas.List.{length-map, map-append, take_at}
use Rattle.nv_alloc.specs.Block.{BlockValue, numbers_of}
use Rattle.nv_alloc.specs.FreeList.{FreeBlocks}
use Rattle.nv_machine.specs.Kinds.{asked_list}
use Rattle.nv_machine.specs.World.{no_list}
use Rattle.nv_serial.specs.Row.{row}
use Rattle.nv_serial.proofs.Row.{past_more, taken_row}

module _ (cpus actor wants : ℕ) (all : List ℕ) where
  -- so many lists were asked, and gave all that they had; the pages in the hand are the front of the row, and so many more are
  -- wanted
  pub record IsTaking (asked wanted : ℕ) (lists : List FreeBlocks) (pages : List BlockValue) : Type 0 where
    pub many : length lists ≡ cpus
    pub taken : numbers_of pages ++ row cpus actor 0 cpus lists ≡ all
    pub past : row cpus actor 0 asked lists ≡ []
    pub count : length pages + wanted ≡ wants

  module _ (asked wanted : ℕ) (lists : List FreeBlocks) (pages : List BlockValue) (taking : IsTaking asked wanted lists pages)
      (inside : asked < cpus) where
    abbrev pub place : ℕ
    place = asked_list (length lists) actor asked

    abbrev pub here : List BlockValue
    here = (slice_index_or lists place no_list).blocks

    abbrev pub lists_then : List FreeBlocks
    lists_then = slice_set lists place (record (slice_index_or lists place no_list) { blocks = drop wanted here })

    abbrev pub pages_then : List BlockValue
    pages_then = pages ++ take wanted here

    at : place ≡ (actor + asked) % cpus
    at = ap (λ n. (actor + asked) % n) taking.many

    many_then : length lists_then ≡ cpus
    many_then = length-set lists place (record (slice_index_or lists place no_list) { blocks = drop wanted here }) ∙ taking.many

    taken_then : numbers_of pages_then ++ row cpus actor 0 cpus lists_then ≡ all
    taken_then =
        ap (λ (ns : List ℕ). ns ++ row cpus actor 0 cpus lists_then) (map-append (λ (b : BlockValue). b.number) pages (take wanted here))
        ∙ append_assoc (numbers_of pages) (numbers_of (take wanted here)) (row cpus actor 0 cpus lists_then)
        ∙ ap (λ (rest : List ℕ). numbers_of pages ++ rest)
        (sym (taken_row cpus actor asked place at lists taking.many inside wanted taking.past))
        ∙ taking.taken

    count_then : (left : ℕ) → wanted - length here ≡ left → length pages_then + left ≡ wants
    count_then left is =
        let parts = length-append pages (take wanted here) in
        let took = length-take wanted here in
        let count = taking.count in omega (arith, parts, took, is, count)

    past_then : (n : ℕ) → wanted - length here ≡ suc n → row cpus actor 0 (asked + 1) lists_then ≡ []
    past_then n is =
        ap (λ k. row cpus actor 0 k lists_then) (add-one asked)
        ∙ past_more cpus actor asked place at lists taking.many inside wanted taking.past (omega (arith, is))

    -- the list gave less than is wanted
    pub more_taken : (n : ℕ) → wanted - length here ≡ suc n → IsTaking (asked + 1) (suc n) lists_then pages_then
    more_taken n is = record { many = many_then; taken = taken_then; past = past_then n is; count = count_then (suc n) is }

    -- or enough
    pub all_taken : wanted - length here ≡ 0 → (numbers_of pages_then ≡ take wants all) × (length pages_then ≡ wants) × (wants ≤ length all)
    all_taken is =
        let count = count_then 0 is in
        let many : length (numbers_of pages_then) ≡ wants = length-map pages_then (λ (b : BlockValue). b.number) ∙ omega (arith, count) in
        let whole = ap (λ (ns : List ℕ). length ns) taken_then in
        let parts = length-append (numbers_of pages_then) (row cpus actor 0 cpus lists_then) in (
          sym (take_at (numbers_of pages_then) (row cpus actor 0 cpus lists_then) wants many) ∙ ap (take wants) taken_then,
          omega (arith, count),
          omega (arith, many, whole, parts),
        )

    -- the last list gave less: the row is shorter than what is wanted
    pub row_short : (n : ℕ) → wanted - length here ≡ suc n → nat_lt (asked + 1) (length lists) ≡ false → length all < wants
    row_short n is last =
        let past = ltb-false (asked + 1) (length lists) last in
        let len = taking.many in
        let end : asked + 1 ≡ cpus = omega (arith, past, inside, len) in
        let nothing : row cpus actor 0 cpus lists_then ≡ [] =
        subst (λ (k : ℕ). row cpus actor 0 k lists_then ≡ []) end (past_then n is) in
        let none = ap (λ (ns : List ℕ). length ns) nothing in
        let whole = ap (λ (ns : List ℕ). length ns) taken_then in
        let parts = length-append (numbers_of pages_then) (row cpus actor 0 cpus lists_then) in
        let many = length-map pages_then (λ (b : BlockValue). b.number) in
        let count = count_then (suc n) is in
        omega (arith, none, whole, parts, many, count)
