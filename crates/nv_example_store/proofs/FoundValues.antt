-- The value of a key is that of the file to which the root binds it.
use Rattle.std.proofs.Common.{◌≡◌, ◌∙◌, ℕ, Bool, true, false, List, [], ◌∷◌, ap, map, Option, refl, sym}
use Rattle.std.specs.Option.{option_map}
use Rattle.nv_base.specs.Names.{same_name}
use Rattle.nv_base.specs.declared.numbers.Handle.{Handle}
use Rattle.nv_calls.specs.Refusals.{bytes_of}
use Rattle.nv_entry.specs.Index.{bound_to, without}
use Rattle.nv_entry.specs.Tree.{names_under, root}
use Rattle.nv_entry.specs.declared.names.BoundName.{BoundName}
use Rattle.nv_entry.specs.declared.node.NodeCopy.{NodeCopy}
use Rattle.nv_entry.proofs.Hiding.{same_name-equal, same_name-self}
use Rattle.nv_example_store.specs.Keys.{scratch}
use Rattle.nv_example_store.specs.Stored.{entries_in, entry_of}
use Rattle.nv_example_store.specs.Values.{value_of}

-- a name is not both a key and the one that is none
not_both : (key name : List ℕ) → same_name key scratch ≡ false → same_name key name ≡ true → same_name scratch name ≡ true → ⊥
not_both key name is_key one other =
    let same : key ≡ scratch = same_name-equal key name one ∙ sym (same_name-equal scratch name other) in
    let alike : same_name key scratch ≡ true = ap (same_name key) (sym same) ∙ same_name-self key in
    let z : true ≡ false = sym alike ∙ is_key in cc

-- the value among names, as they bind the key
value_among : (nodes : Handle → Option NodeCopy) (key : List ℕ) (names : List BoundName) → same_name key scratch ≡ false
    → value_of key (map (entry_of nodes) (without scratch names)) ≡ option_map (λ (to : Handle). bytes_of (nodes to)) (bound_to key names)
value_among nodes key [] is_key = refl
value_among nodes key (b ∷ names) is_key =
    go (same_name scratch b.name) (same_name key b.name) refl refl (value_among nodes key names is_key) where
      go : (out here : Bool) → same_name scratch b.name ≡ out → same_name key b.name ≡ here
          → value_of key (map (entry_of nodes) (without scratch names)) ≡ option_map (λ (to : Handle). bytes_of (nodes to)) (bound_to key names)
          → value_of key (map (entry_of nodes) (without scratch (b ∷ names)))
          ≡ option_map (λ (to : Handle). bytes_of (nodes to)) (bound_to key (b ∷ names))
      go true true p q rest = absurd (not_both key b.name is_key q p)
      go true false p q rest = rw (p, q) rest
      go false true p q rest = rw p (rw q refl)
      go false false p q rest = rw p (rw q rest)

pub value_found : (nodes : Handle → Option NodeCopy) (key : List ℕ) → same_name key scratch ≡ false
    → value_of key (entries_in nodes) ≡ option_map (λ (to : Handle). bytes_of (nodes to)) (bound_to key (names_under nodes root))
value_found nodes key is_key = value_among nodes key (names_under nodes root) is_key
