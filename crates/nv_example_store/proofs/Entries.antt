-- The entries that nodes hold, where most names and nodes stay.
use Rattle.std.proofs.Common.{◌≡◌, ◌∙◌, ◌++◌, ℕ, Bool, true, false, List, [], ◌∷◌, ap, filter, map, Option, refl, sym}
use Rattle.std.specs.Prelude.{not}
use Rattle.std.specs.List.{Contains}
use Rattle.std.proofs.lemmas.List.{append-nil, map-append}
use Rattle.std.proofs.lemmas.List.Elements.{filter-append}
use Rattle.nv_base.specs.Names.{same_name}
use Rattle.nv_base.specs.declared.numbers.Handle.{Handle}
use Rattle.nv_calls.specs.Refusals.{bytes_of}
use Rattle.nv_entry.specs.Index.{with_last, without}
use Rattle.nv_entry.specs.Tree.{names_under, root}
use Rattle.nv_entry.specs.declared.names.BoundName.{BoundName}
use Rattle.nv_entry.specs.declared.node.NodeCopy.{NodeCopy}
use Rattle.nv_entry.proofs.Hiding.{same_name-self}
use Rattle.nv_machine.proofs.DirectoriesKept.{filter_twice}
use Rattle.nv_example_store.specs.Keys.{scratch}
use Rattle.nv_example_store.specs.Stored.{entries_in, entry_of}
use Rattle.nv_example_store.specs.Values.{Entry, with_value, without_key}
use Rattle.nv_example_store.proofs.Lists.{filter_map_swap, filter_swap, map_within}

-- a name is kept
abbrev is_other : List ℕ → BoundName → Bool
is_other name bound = not (same_name name bound.name)

-- an entry by its value
abbrev with_bytes : BoundName → List ℕ → Entry
with_bytes b value = record { key = b.name; value = value }

-- ---- names

-- the last name is left out
pub left_out : (name : List ℕ) (to : Handle) (names : List BoundName) → without name (with_last name to names) ≡ without name names
left_out name to names =
    let last : BoundName = record { name = name; to = to } in
    let gone : filter (is_other name) (last ∷ []) ≡ [] = none last (same_name-self name) in
    filter-append (is_other name) (without name names) (last ∷ [])
    ∙ ap (λ (back : List BoundName). filter (is_other name) (without name names) ++ back) gone
    ∙ append-nil (filter (is_other name) (without name names)) ∙ filter_twice (is_other name) names where
      none : (b : BoundName) → same_name name b.name ≡ true → filter (is_other name) (b ∷ []) ≡ []
      none b e = rw e refl

-- names without one, and another that goes last
pub left_last : (one other : List ℕ) (to : Handle) (names : List BoundName) → same_name one other ≡ false
    → without one (with_last other to (without one names)) ≡ with_last other to (without one names)
left_last one other to names differ =
    let last : BoundName = record { name = other; to = to } in
    let stays : filter (is_other one) (last ∷ []) ≡ last ∷ [] = kept last differ in
    let front : filter (is_other one) (without other (without one names)) ≡ without other (without one names) =
    filter_swap (is_other one) (is_other other) (without one names)
    ∙ ap (filter (is_other other)) (filter_twice (is_other one) names) in
    filter-append (is_other one) (without other (without one names)) (last ∷ [])
    ∙ ap (λ (xs : List BoundName). xs ++ filter (is_other one) (last ∷ [])) front
    ∙ ap (λ (back : List BoundName). without other (without one names) ++ back) stays where
      kept : (b : BoundName) → same_name one b.name ≡ false → filter (is_other one) (b ∷ []) ≡ b ∷ []
      kept b e = rw e refl

-- ---- entries

module _ (nodes after : Handle → Option NodeCopy) where
  abbrev keys : List BoundName
  keys = without scratch (names_under nodes root)

  -- of names that lead to the same bytes
  pub entries_alike : (names : List BoundName) → ((b : BoundName) → Contains names b → bytes_of (after b.to) ≡ bytes_of (nodes b.to))
      → map (entry_of after) names ≡ map (entry_of nodes) names
  entries_alike names same =
      map_within (entry_of after) (entry_of nodes) names (λ b at. ap (with_bytes b) (same b at))

  -- where keys and their bytes stay
  pub entries_stay : without scratch (names_under after root) ≡ keys
      → ((b : BoundName) → Contains keys b → bytes_of (after b.to) ≡ bytes_of (nodes b.to)) → entries_in after ≡ entries_in nodes
  entries_stay names same = ap (map (entry_of after)) names ∙ entries_alike keys same

  -- where a key leaves
  pub entries_less : (key : List ℕ) → without scratch (names_under after root) ≡ without key keys
      → ((b : BoundName) → Contains (without key keys) b → bytes_of (after b.to) ≡ bytes_of (nodes b.to))
      → entries_in after ≡ without_key key (entries_in nodes)
  entries_less key names same =
      ap (map (entry_of after)) names ∙ entries_alike (without key keys) same
      ∙ sym (filter_map_swap (entry_of nodes) (λ (e : Entry). not (same_name key e.key)) keys)

  -- where a key goes last
  pub entries_last : (key value : List ℕ) (to : Handle) → without scratch (names_under after root) ≡ with_last key to keys
      → ((b : BoundName) → Contains (without key keys) b → bytes_of (after b.to) ≡ bytes_of (nodes b.to))
      → bytes_of (after to) ≡ value → entries_in after ≡ with_value key value (entries_in nodes)
  entries_last key value to names same is =
      let last : BoundName = record { name = key; to = to } in
      ap (map (entry_of after)) names ∙ map-append (entry_of after) (without key keys) (last ∷ [])
      ∙ ap (λ (front : List Entry). front ++ entry_of after last ∷ [])
      (entries_alike (without key keys) same
      ∙ sym (filter_map_swap (entry_of nodes) (λ (e : Entry). not (same_name key e.key)) keys))
      ∙ ap (λ (v : List ℕ). without_key key (entries_in nodes) ++ with_bytes last v ∷ []) is
