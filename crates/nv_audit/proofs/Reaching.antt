-- Names that lead to nodes that are not yet marked.
use Rattle.std.proofs.Common.{◌≡◌, ◌≢◌, inl, inr, ℕ, ◌+◌, ◌<◌, ◌≤◌, ◌==◌, ◌++◌, Bool, true, false, List, [], ◌∷◌, drop, get_or, length, set, take, arith, refl, ap, sym, ◌∙◌, subst}
use Rattle.std.specs.Prelude.{All, None}
use Rattle.std.specs.List.{AllByRecursion}
use Rattle.std.proofs.lemmas.Bool.{cases_lt, eqb-false, eqb-true, false≢true}
use Rattle.std.proofs.lemmas.List.{append_assoc, drop_more, get_or-set_other, get_or-set_same, get_or_past, length-set, map-append, take-append-drop, take_more}
use Rattle.nv_base.specs.declared.numbers.Handle.{Handle}
use Rattle.nv_alloc.specs.Numbers.{has, times}
use Rattle.nv_alloc.proofs.Lists.{has-times, times-append, times-no, times-yes}
use Rattle.nv_entry.specs.declared.names.BoundName.{BoundName}
use Rattle.nv_audit.specs.Lists.{AreMarked, mark_at}
use Rattle.nv_audit.specs.Tree.{IsNew, IsOnce, Slots, is_node, is_of, slots_named}
use Rattle.nv_audit.proofs.Counting.{has_if_some, none_if_not, some_if_has, times_first}

-- a handle of a node is of a slot
pub node_inside : (slots : Slots) (handle : Handle) → is_node slots handle ≡ true → handle.ino < length slots
node_inside slots handle is =
    elim (cases_lt handle.ino (length slots)) [
      | inl lt ↦ lt
      | inr from ↦
          absurd (false≢true (sym (ap (is_of handle.generation) (get_or_past slots handle.ino None (omega (arith, from)))) ∙ is))
    ]

pub named_inside : (slots : Slots) (names : List BoundName)
    → AllByRecursion (λ (b : BoundName). is_node slots b.to ≡ true) names
    → (n : ℕ) → 1 ≤ times n (slots_named names) → n < length slots
named_inside slots [] all n some = absurd (let none : 1 ≤ 0 = some in omega (arith, none))
named_inside slots (b ∷ names) all n some = go (b.to.ino == n) refl (named_inside slots names all.1 n) where
  go : (is : Bool) → (b.to.ino == n) ≡ is → (1 ≤ times n (slots_named names) → n < length slots) → n < length slots
  go true e ih = subst (λ (k : ℕ). k < length slots) (eqb-true b.to.ino n e) (node_inside slots b.to all.0)
  go false e ih = ih (let no = times-no n b.to.ino (slots_named names) e in omega (arith, no, some))

-- ---- marks

-- what is not marked is not among the reached
pub unmarked_none : (k : ℕ) (reached : List ℕ) (marks : List Bool) (n : ℕ) → AreMarked k reached marks → n < k
    → mark_at marks n ≡ false → times n reached ≡ 0
unmarked_none k reached marks n are lt unmarked = none_if_not n reached (sym (are.marked n lt) ∙ unmarked)

none_unmarked : (k : ℕ) (reached : List ℕ) (marks : List Bool) (n : ℕ) → AreMarked k reached marks → n < k
    → times n reached ≡ 0 → mark_at marks n ≡ false
none_unmarked k reached marks n are lt none = are.marked n lt ∙ has-times n reached none

pub marked_more : (k : ℕ) (reached : List ℕ) (marks : List Bool) (m : ℕ) → AreMarked k reached marks → m < k
    → AreMarked k (reached ++ m ∷ []) (set marks m true)
marked_more k reached marks m are lt = record {
  len = length-set marks m true ∙ are.len;
  marked = λ n below. go n below (m == n) refl;
} where
  go : (n : ℕ) → n < k → (b : Bool) → (m == n) ≡ b → mark_at (set marks m true) n ≡ has (reached ++ m ∷ []) n
  go n below true e =
      let is : m ≡ n = eqb-true m n e in
      let some : 1 ≤ times n (reached ++ m ∷ []) =
      let both = times-append n reached (m ∷ []) in
      let one = times-yes n m [] e in omega (arith, both, one) in
      ap (mark_at (set marks m true)) (sym is) ∙ get_or-set_same marks m true false (omega (arith, lt, are.len))
      ∙ sym (has_if_some n (reached ++ m ∷ []) some)
  go n below false e =
      let ne : n ≢ m = λ (is : n ≡ m). eqb-false m n e (sym is) in
      get_or-set_other marks m n true false ne ∙ are.marked n below ∙ sym (same (has reached n) refl)
    where
      same : (b : Bool) → has reached n ≡ b → has (reached ++ m ∷ []) n ≡ has reached n
      same true h =
          let both = times-append n reached (m ∷ []) in
          let some = some_if_has n reached h in
          has_if_some n (reached ++ m ∷ []) (omega (arith, both, some)) ∙ sym h
      same false h =
          let both = times-append n reached (m ∷ []) in
          let no = times-no n m [] e in
          let none = none_if_not n reached h in
          has-times n (reached ++ m ∷ []) (omega (arith, both, no, none)) ∙ sym h

-- ---- one more name

-- what has been put, and the next name's slot
pub put_more : (old reached : List ℕ) (names : List BoundName) (i : ℕ) (b : BoundName) → i < length names → b ≡ get_or names i b
    → reached ≡ old ++ slots_named (take i names) → reached ++ b.to.ino ∷ [] ≡ old ++ slots_named (take (i + 1) names)
put_more old reached names i b lt is put =
    let one = b.to.ino ∷ [] in
    let more : slots_named (take (i + 1) names) ≡ slots_named (take i names) ++ one =
    ap slots_named (take_more names i b lt ∙ ap (λ (x : BoundName). take i names ++ x ∷ []) (sym is))
    ∙ map-append (λ (x : BoundName). x.to.ino) (take i names) (b ∷ []) in
    ap (λ (xs : List ℕ). xs ++ one) put ∙ append_assoc old (slots_named (take i names)) one ∙ ap (λ (xs : List ℕ). old ++ xs) (sym more)

pub once_more : (slots : Slots) (reached : List ℕ) (marks : List Bool) (to : Handle) → AreMarked (length slots) reached marks
    → IsNew slots marks to → IsOnce reached → IsOnce (reached ++ to.ino ∷ [])
once_more slots reached marks to are new once n = go (to.ino == n) refl where
  both : times n (reached ++ to.ino ∷ []) ≡ times n reached + times n (to.ino ∷ [])
  both = times-append n reached (to.ino ∷ [])

  go : (b : Bool) → (to.ino == n) ≡ b → times n (reached ++ to.ino ∷ []) ≤ 1
  go true e =
      let none = unmarked_none (length slots) reached marks to.ino are (node_inside slots to new.0) new.1 in
      let same : times n reached ≡ times to.ino reached = ap (λ (k : ℕ). times k reached) (sym (eqb-true to.ino n e)) in
      let one = times-yes n to.ino [] e in omega (arith, both, none, same, one)
  go false e = let no = times-no n to.ino [] e in omega (arith, both, no, once n)

-- ---- a name that leads to no node, or to one that is marked

whole : (old reached : List ℕ) (names : List BoundName) (i : ℕ) (b : BoundName) → i < length names → b ≡ get_or names i b
    → reached ≡ old ++ slots_named (take i names)
    → old ++ slots_named names ≡ reached ++ b.to.ino ∷ slots_named (drop (i + 1) names)
whole old reached names i b lt is put =
    let rest = drop (i + 1) names in
    let parts : take i names ++ b ∷ rest ≡ names =
    ap (λ (x : BoundName). take i names ++ x ∷ rest) is ∙ ap (λ (xs : List BoundName). take i names ++ xs) (sym (drop_more names i b lt))
    ∙ take-append-drop i names in
    ap (λ (xs : List BoundName). old ++ slots_named xs) (sym parts)
    ∙ ap (λ (xs : List ℕ). old ++ xs) (map-append (λ (x : BoundName). x.to.ino) (take i names) (b ∷ rest))
    ∙ sym (append_assoc old (slots_named (take i names)) (b.to.ino ∷ slots_named rest))
    ∙ ap (λ (xs : List ℕ). xs ++ b.to.ino ∷ slots_named rest) (sym put)

pub is_new_there : (slots : Slots) (old reached : List ℕ) (marks : List Bool) (names : List BoundName) (i : ℕ) (b : BoundName)
    → i < length names → b ≡ get_or names i b → reached ≡ old ++ slots_named (take i names) → AreMarked (length slots) reached marks
    → All (λ (x : BoundName). is_node slots x.to ≡ true) names → IsOnce (old ++ slots_named names) → IsNew slots marks b.to
is_new_there slots old reached marks names i b lt is put are lead once =
    let node : is_node slots b.to ≡ true = subst (λ (x : BoundName). is_node slots x.to ≡ true) (sym is) (lead i b lt) in
    let n = b.to.ino in
    let rest = slots_named (drop (i + 1) names) in
    let all = ap (times n) (whole old reached names i b lt is put) in
    let both = times-append n reached (n ∷ rest) in
    let one = times_first n rest in
    (node, none_unmarked (length slots) reached marks n are (node_inside slots b.to node) (omega (arith, all, both, one, once n)))
