-- The map's bindings, as the names that contracts see.
use Rattle.std.proofs.Common.{◌≡◌, ℕ, Bool, true, false, cond, nat_eq, List, [], ◌∷◌, map, Option, None, Some, refl, ap, sym, subst, ◌∙◌}
use Rattle.std.specs.Cmp.Lexicographic.{same_text, nat_list_eq_equiv}
use Rattle.std.specs.Global.{Vec}
use Rattle.std.specs.List.{AllByRecursion, IsDistinct}
use Rattle.std.specs.Map.{AreApart, IsKeyTest, KeepsOthers, keys_of, lookup}
use lib.Pointwise.{pointwise}
use Rattle.nv_base.specs.Names.{same_name}
use Rattle.nv_nindex.specs.declared.binding.Binding.{Binding}
use Rattle.nv_nindex.specs.NameIndex.{AreDistinct, Names, Rebinds, binding_of, shown}

-- whether a key has these bytes, as the map asks it
abbrev pub is_key : List ℕ → Vec ℕ → Bool
is_key name key = pointwise nat_eq name key.items

-- whether two keys have the same bytes
abbrev pub same_key : Vec ℕ → Vec ℕ → Bool
same_key a b = pointwise nat_eq a.items b.items

pub lookup_shown : (name : List ℕ) (es : List (Vec ℕ × Binding)) → lookup (is_key name) es ≡ binding_of name (map shown es)
lookup_shown name [] = refl
lookup_shown name (e ∷ es) = ap (cond (same_name name e.0.items) (Some e.1)) (lookup_shown name es)

all_shown : (key : Vec ℕ) (es : List (Vec ℕ × Binding)) → AllByRecursion (λ k. same_key key k ≡ false) (keys_of es)
    → AllByRecursion (λ name. same_name key.items name ≡ false) (keys_of (map shown es))
all_shown key [] h = tt
all_shown key (e ∷ es) h = (h.0, all_shown key es h.1)

-- distinct keys are distinct names
pub distinct_shown : (es : List (Vec ℕ × Binding)) → IsDistinct same_key (keys_of es) → AreDistinct (map shown es)
unfolding IsDistinct
distinct_shown [] h = tt
distinct_shown (e ∷ es) h = (all_shown e.0 es h.0, distinct_shown es h.1)

-- where there are no names, none stands twice
pub none_distinct : (index : Names) → record { names = []; reserved = None } ≡ index → AreDistinct index.names
unfolding IsDistinct
none_distinct index is = subst (λ (v : Names). AreDistinct v.names) is tt

key_test : (name : List ℕ) → IsKeyTest same_key (is_key name)
key_test name x y h = ap (λ bytes. pointwise nat_eq bytes y.items) (same_text name x.items (sym h))

apart : (name other : List ℕ) → same_name name other ≡ false → AreApart (is_key name) (is_key other)
apart name other h key is =
    nat_list_eq_equiv.symm other key.items ∙ ap (λ bytes. pointwise nat_eq bytes other) (sym (same_text name key.items (sym is))) ∙ h

-- what a change of the map at one name shows
pub rebinds : (name : List ℕ) (old new : List (Vec ℕ × Binding)) (to : Option Binding) → lookup (is_key name) new ≡ to
    → KeepsOthers same_key (is_key name) old new
    → Rebinds (map shown old) (map shown new) name to
unfolding KeepsOthers
rebinds name old new to at others other = go (same_name name other) refl where
  go : (b : Bool) → same_name name other ≡ b
      → binding_of other (map shown new) ≡ cond (same_name name other) to (binding_of other (map shown old))
  go true q = rw q (ap (λ bytes. binding_of bytes (map shown new)) (sym (same_text name other (sym q))) ∙ sym (lookup_shown name new) ∙ at)
  go false q = rw q (sym (lookup_shown other new) ∙ others (is_key other) (key_test other) (apart name other q) ∙ lookup_shown other old)
