-- What a change of one binding keeps of an index.
use Rattle.std.proofs.Common.{◌≡◌, ℕ, ◌<◌, ◌≤◌, Bool, true, false, cond, List, Option, Some, None, IsSome, IsTrue, is_some, ◌⊎◌, inl, inr, refl, ap, sym, subst, ◌∙◌, arith}
use Rattle.std.proofs.lemmas.Bool.{false≢true}
use Rattle.std.specs.Cmp.Lexicographic.{same_text}
use Rattle.nv_base.specs.Names.{is_lawful_name, same_name}
use Rattle.nv_nindex.specs.declared.binding.Binding.{Binding}
use Rattle.nv_nindex.specs.NameIndex.{IsNameIndex, Names, Rebinds, binding_of}

-- a lawful name is bound anew or unbound, and what stands reserved is another, or is unbound
pub rebound : (index : Names) (names : List (List ℕ × Binding)) (name : List ℕ) (to : Option Binding) (room room' : ℕ)
    → IsNameIndex index room → room ≤ room' → Rebinds index.names names name to
    → (IsSome to → IsTrue (is_lawful_name name)) → (IsSome to → index.reserved ≡ Some name → ⊥)
    → IsNameIndex (record index { names = names }) room'
rebound index names name to room room' is le rebinds lawful other = record {
  has_room = λ some. let k : 0 < room = is.has_room some in omega arith;
  unbound = λ q reserved. rebinds q ∙ none q reserved (same_name name q) refl to refl;
  lawful = λ q some. lawful_at q (same_name name q) refl (subst IsSome (rebinds q) some);
  reserved_lawful = is.reserved_lawful;
} where
  none : (q : List ℕ) → index.reserved ≡ Some q → (b : Bool) → same_name name q ≡ b → (t : Option Binding) → to ≡ t
      → cond (same_name name q) to (binding_of q index.names) ≡ None
  none q reserved true e None n = rw (e, n) refl
  none q reserved true e (Some t) n =
      let some : IsSome to = rw n refl in
      absurd (other some (reserved ∙ ap Some (sym (same_text name q (sym e)))))
  none q reserved false e t n = rw e (is.unbound q reserved)

  lawful_at : (q : List ℕ) (b : Bool) → same_name name q ≡ b → IsSome (cond (same_name name q) to (binding_of q index.names))
      → IsTrue (is_lawful_name q)
  lawful_at q true e some = let k : IsSome to = rw e at some in subst (λ n. IsTrue (is_lawful_name n)) (same_text name q (sym e)) (lawful k)
  lawful_at q false e some = let k : IsSome (binding_of q index.names) = rw e at some in is.lawful q k

-- once nothing stands reserved, no room is asked
pub unreserved : (index : Names) (room room' : ℕ) → IsNameIndex index room → IsNameIndex (record index { reserved = None }) room'
unreserved index room room' is = record {
  has_room = λ some. cc;
  unbound = λ q reserved. cc;
  lawful = is.lawful;
  reserved_lawful = λ q reserved. cc;
}

-- no name is both absent and bound
pub not_both : (name : List ℕ) (names : List (List ℕ × Binding)) → binding_of name names ≡ None → IsSome (binding_of name names) → ⊥
not_both name names none some = false≢true (ap is_some (sym none) ∙ some)

-- what may be bound and is absent stands reserved
pub is_reserved : (index : Names) (name : List ℕ) → (IsSome (binding_of name index.names) ⊎ (index.reserved ≡ Some name))
    → binding_of name index.names ≡ None → index.reserved ≡ Some name
is_reserved index name (inl bound) none = absurd (not_both name index.names none bound)
is_reserved index name (inr reserved) none = reserved
