-- Nodes and handles stand one to one.
use Rattle.std.proofs.Common.{◌≡◌, ℕ, ◌+◌, ◌*◌, ◌/◌, ◌%◌, ◌^◌, ◌<◌, ◌≤◌, ◌&&◌, ◌==◌, ◌⊎◌, Bool, true, false, cond, Some, None, nat_le, refl, sym, ap, ◌∙◌, inl, inr, arith}
use Rattle.std.proofs.lemmas.Bool.{and_parts, and_from, cases_Bool, eqb-false, eqb-true, le-leb, leb-false, leb-true, lt-leb, lt-ltb, ltb-true, ne_eqb}
use Rattle.nv_base.specs.declared.numbers.Handle.{Handle}
use Rattle.nv_mount_answers.specs.Nodes.{AreOneToOne, handle, handle_of, has_number, is_root, node_of, root}

-- what the choices of `node_of` tell
from_choice : (a b : Bool) (number node : ℕ) → cond a (Some 1) (cond b (Some number) None) ≡ Some node
    → ((a ≡ true) × (node ≡ 1)) ⊎ ((a ≡ false) × ((b ≡ true) × (node ≡ number)))
from_choice true b number node e = inl (refl, cc)
from_choice false true number node e = inr (refl, (refl, cc))
from_choice false false number node e = let no : ⊥ = cc in absurd no

-- what the choices of `handle_of` tell
to_choice : (a b : Bool) (top h below : Handle) → cond a (Some top) (cond b None (Some below)) ≡ Some h
    → ((a ≡ true) × (h ≡ top)) ⊎ ((a ≡ false) × ((b ≡ false) × (h ≡ below)))
to_choice true b top h below e = inl (refl, cc)
to_choice false true top h below e = let no : ⊥ = cc in absurd no
to_choice false false top h below e = inr (refl, (refl, cc))

-- slot and generation of a number
slot_back : (slot generation : ℕ) → slot < 65536 → (generation * 65536 + slot) % 65536 ≡ slot
slot_back slot generation below = omega arith

generation_back : (slot generation : ℕ) → slot < 65536 → (generation * 65536 + slot) / 65536 ≡ generation
generation_back slot generation below = omega arith

together : (node : ℕ) → node / 65536 * 65536 + node % 65536 ≡ node
together node = omega arith

record HasNumber (h : Handle) : Type 0 where
  slot : h.ino < 65536
  least : 1 ≤ h.generation
  most : h.generation < 281474976710656

number_tests : (h : Handle) → has_number h ≡ true → HasNumber h
number_tests h is =
    let first = and_parts _ _ is in
    let second = and_parts _ _ first.1 in
    record { slot = ltb-true _ _ first.0; least = leb-true _ _ second.0; most = ltb-true _ _ second.1 }

number_holds : (h : Handle) → h.ino < 65536 → 1 ≤ h.generation → h.generation < 281474976710656 → has_number h ≡ true
number_holds h slot least most = and_from _ _ (lt-ltb _ _ slot) (and_from _ _ (le-leb _ _ least) (lt-ltb _ _ most))

-- a handle that is not the root's has no number of 65,536 or less
past : (h : Handle) → is_root h ≡ false → HasNumber h → 65536 < h.generation * 65536 + h.ino
past h not_root n = past_by h.ino h.generation not_root n.least
  where
    past_by : (slot generation : ℕ) → ((slot == 0) && (generation == 1)) ≡ false → 1 ≤ generation → 65536 < generation * 65536 + slot
    past_by slot generation not_root least = elim (cases_Bool (slot == 0)) [
      | inl is ↦ elim (cases_Bool (generation == 1)) [
        | inl one ↦ let no : ⊥ = (let both = and_from _ _ is one in cc) in absurd no
        | inr other ↦ let ne = eqb-false generation 1 other in omega arith
      ]
      | inr other ↦ let ne = eqb-false slot 0 other in omega arith
    ]

root_from : (h : Handle) → is_root h ≡ true → h ≡ root
root_from h is =
    let parts = and_parts _ _ is in
    let slot : h.ino ≡ 0 = eqb-true _ _ parts.0 in
    let generation : h.generation ≡ 1 = eqb-true _ _ parts.1 in
    ap (λ (n : ℕ). handle n h.generation) slot ∙ ap (λ (n : ℕ). handle 0 n) generation

pub back : (h : Handle) (node : ℕ) → node_of h ≡ Some node → handle_of node ≡ Some h
back h node e = elim (from_choice (is_root h) (has_number h) (h.generation * 65536 + h.ino) node e) [
  | inl w ↦ ap handle_of w.1 ∙ ap (λ (x : Handle). Some x) (sym (root_from h w.0))
  | inr w ↦ of_number (number_tests h w.1.0) (past h w.0 (number_tests h w.1.0)) w.1.1
]
  where
    of_number : HasNumber h → 65536 < h.generation * 65536 + h.ino → node ≡ h.generation * 65536 + h.ino → handle_of node ≡ Some h
    of_number n above is =
        let not_one : (node == 1) ≡ false = ne_eqb node 1 (λ one. omega arith) in
        let high : nat_le node 65536 ≡ false = lt-leb node 65536 (omega arith) in
        let slot : node % 65536 ≡ h.ino = ap (λ (x : ℕ). x % 65536) is ∙ slot_back h.ino h.generation n.slot in
        let generation : node / 65536 ≡ h.generation = ap (λ (x : ℕ). x / 65536) is ∙ generation_back h.ino h.generation n.slot in
        ap (λ (b : Bool). cond b (Some root) (cond (nat_le node 65536) None (Some (handle (node % 65536) (node / 65536))))) not_one
        ∙ ap (λ (b : Bool). cond b None (Some (handle (node % 65536) (node / 65536)))) high
        ∙ ap (λ (x : ℕ). Some (handle x (node / 65536))) slot
        ∙ ap (λ (x : ℕ). Some (handle h.ino x)) generation

pub forth : (h : Handle) (node : ℕ) → node < 2 ^ 64 → handle_of node ≡ Some h → node_of h ≡ Some node
forth h node below e = elim (to_choice (node == 1) (nat_le node 65536) root h (handle (node % 65536) (node / 65536)) e) [
  | inl w ↦ ap node_of w.1 ∙ ap (λ (x : ℕ). Some x) (sym (eqb-true node 1 w.0))
  | inr w ↦ ap node_of w.1.1 ∙ of_high (leb-false node 65536 w.1.0)
]
  where
    of_high : 65536 < node → node_of (handle (node % 65536) (node / 65536)) ≡ Some node
    of_high above =
        let x : Handle = handle (node % 65536) (node / 65536) in
        let not_root : is_root x ≡ false = apart (node % 65536) (node / 65536) (omega arith) in
        let low : node % 65536 < 65536 = omega arith in
        let least : 1 ≤ node / 65536 = omega arith in
        let most : node / 65536 < 281474976710656 = omega arith in
        let numbered : has_number x ≡ true = number_holds x low least most in
        ap (λ (b : Bool). cond b (Some 1) (cond (has_number x) (Some (node / 65536 * 65536 + node % 65536)) None)) not_root
        ∙ ap (λ (b : Bool). cond b (Some (node / 65536 * 65536 + node % 65536)) None) numbered
        ∙ ap (λ (n : ℕ). Some n) (together node)
      where
        apart : (slot generation : ℕ) → 65536 < generation * 65536 + slot → ((slot == 0) && (generation == 1)) ≡ false
        apart slot generation above = elim (cases_Bool ((slot == 0) && (generation == 1))) [
          | inl both ↦
              let parts = and_parts _ _ both in
              let low : slot ≡ 0 = eqb-true _ _ parts.0 in
              let one : generation ≡ 1 = eqb-true _ _ parts.1 in
              absurd (omega arith)
          | inr other ↦ other
        ]

pub range : (h : Handle) (node : ℕ) → node_of h ≡ Some node → node < 2 ^ 64
range h node e = elim (from_choice (is_root h) (has_number h) (h.generation * 65536 + h.ino) node e) [
  | inl w ↦ omega (arith, w.1)
  | inr w ↦ of_number (number_tests h w.1.0) w.1.1
]
  where
    of_number : HasNumber h → node ≡ h.generation * 65536 + h.ino → node < 2 ^ 64
    of_number n is = omega (arith, n.slot, n.most)

pub one_to_one : AreOneToOne
one_to_one = record { back = back; forth = forth; range = range }
