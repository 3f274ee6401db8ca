-- Trees of directories, found slot by slot from the root.
use Rattle.std.proofs.Common.{◌≡◌, inl, inr, ℕ, zero, suc, ◌+◌, ◌<◌, ◌≤◌, ◌==◌, Bool, true, false, List, [], ◌∷◌, ◌++◌, drop, get_or, length, length-append, take, arith, refl, ap, sym, ◌∙◌, subst}
use Rattle.std.specs.Prelude.{None, Option, Some}
use Rattle.std.specs.List.{flat_map, range_with_len}
use Rattle.std.proofs.lemmas.Bool.{cases_lt, eqb-true, false≢true}
use Rattle.std.proofs.lemmas.Grind.{flat_map-append}
use Rattle.std.proofs.lemmas.List.{append-nil, get_or_past, take-append-drop, take-append-le, take_more}
use Rattle.std.proofs.lemmas.List.Elements.{recursion_from_All}
use Rattle.std.proofs.Math.Seq.{take-length}
use Rattle.nv_alloc.specs.Numbers.{times}
use Rattle.nv_alloc.proofs.Lists.{times-append, times-cons, times-no, times-yes}
use Rattle.nv_entry.specs.Tree.{root}
use Rattle.nv_entry.specs.declared.names.BoundName.{BoundName}
use Rattle.nv_audit.specs.Lists.{AreMarked}
use Rattle.nv_audit.specs.Tree.{AreAllMarked, AreNames, AreNew, HasRoot, IsOnce, IsReached, IsReachedBy, IsTree, Slots, all_leads, is_node, is_used, leads, names_of, slot_at, slots_named}
use Rattle.nv_audit.specs.declared.tree.NamedNode.{NamedNode}
use Rattle.nv_audit.proofs.Counting.{covered, few_below, has_if_some, one_of, range_has, range_once, some_if_has, times_first}
use Rattle.nv_audit.proofs.Reaching.{named_inside, node_inside}

-- what is so of the reached slots, of which the first `next` are visited
pub record IsUnderWay (slots : Slots) (marks : List Bool) (reached : List ℕ) (next : ℕ) : Type 0 where
  pub top : HasRoot slots
  pub within : next ≤ length reached
  pub marked : AreMarked (length slots) reached marks
  pub queue : reached ≡ 0 ∷ flat_map (leads slots) (take next reached)
  pub once : IsOnce reached
  pub inside : (n : ℕ) → 1 ≤ times n reached → n < length slots
  pub names : (n : ℕ) → 1 ≤ times n (take next reached) → AreNames slots n
  pub ways : (n : ℕ) → 1 ≤ times n reached → IsReached slots n

-- ---- at the root

root_once : IsOnce (0 ∷ [])
root_once n = go (0 == n) refl where
  go : (b : Bool) → (0 == n) ≡ b → times n (0 ∷ []) ≤ 1
  go true e = let yes = times-yes n 0 [] e in omega (arith, yes)
  go false e = let no = times-no n 0 [] e in omega (arith, no)

only_root : (n : ℕ) → 1 ≤ times n (0 ∷ []) → 0 ≡ n
only_root n some = go (0 == n) refl where
  go : (b : Bool) → (0 == n) ≡ b → 0 ≡ n
  go true e = eqb-true 0 n e
  go false e = absurd (let no = times-no n 0 [] e in omega (arith, no, some))

pub begun : (slots : Slots) (marks : List Bool) → HasRoot slots → AreMarked (length slots) (0 ∷ []) marks
    → IsUnderWay slots marks (0 ∷ []) 0
begun slots marks top marked = record {
  top = top;
  within = omega arith;
  marked = marked;
  queue = refl;
  once = root_once;
  inside = λ n some. subst (λ (k : ℕ). k < length slots) (only_root n some) (node_inside slots root top.0);
  names = λ n some. absurd (let none : 1 ≤ 0 = some in omega (arith, none));
  ways = λ n some. ([], sym (only_root n some));
}

-- ---- one slot more

module _ (slots : Slots) (marks : List Bool) (reached : List ℕ) (next dir : ℕ) (was : IsUnderWay slots marks reached next)
    (lt : next < length reached) (is : dir ≡ get_or reached next dir) where
  abbrev before : List ℕ
  before = take next reached

  abbrev visited : List ℕ
  visited = before ++ dir ∷ []

  now : take (next + 1) reached ≡ visited
  now = take_more reached next dir lt ∙ ap (λ (k : ℕ). before ++ k ∷ []) (sym is)

  part : (n : ℕ) → times n visited ≤ times n reached
  part n =
      let both = times-append n (take (next + 1) reached) (drop (next + 1) reached) in
      let same = ap (times n) (take-append-drop (next + 1) reached) in
      let first = ap (times n) now in omega (arith, both, same, first)

  there : 1 ≤ times dir reached
  there =
      let both = times-append dir before (dir ∷ []) in
      let one = times_first dir [] in omega (arith, both, one, part dir)

  queued : reached ++ leads slots dir ≡ 0 ∷ flat_map (leads slots) visited
  queued =
      let gives = leads slots in
      let one : flat_map gives (dir ∷ []) ≡ gives dir = append-nil (gives dir) in
      ap (λ (xs : List ℕ). xs ++ gives dir) was.queue
      ∙ ap (λ (xs : List ℕ). 0 ∷ (flat_map gives before ++ xs)) (sym one)
      ∙ ap (λ (xs : List ℕ). 0 ∷ xs) (sym (flat_map-append gives before (dir ∷ [])))

  -- in a tree its names are new
  pub new_in_tree : IsTree slots → AreNew slots dir reached
  new_in_tree tree = (tree.names dir, once) where
    most : (n : ℕ) → times n (flat_map (leads slots) visited) ≤ times n (all_leads slots)
    most n =
        covered (leads slots) n visited (range_with_len 0 (length slots)) (λ k. omega (arith, part k, was.once k))
        (λ k some gives. range_has 0 (length slots) k (omega arith)
        (let low = was.inside k (omega (arith, part k, some)) in omega (arith, low)))

    once : (n : ℕ) → times n (reached ++ leads slots dir) ≤ 1
    once n = go (0 == n) refl where
      all : times n (reached ++ leads slots dir) ≡ times n (0 ∷ []) + times n (flat_map (leads slots) visited)
      all = ap (times n) queued ∙ times-cons n 0 (flat_map (leads slots) visited)

      go : (b : Bool) → (0 == n) ≡ b → times n (reached ++ leads slots dir) ≤ 1
      go true e =
          let none : times n (all_leads slots) ≡ 0 =
          ap (λ (k : ℕ). times k (all_leads slots)) (sym (eqb-true 0 n e)) ∙ tree.unnamed in
          let low = root_once n in omega (arith, all, most n, none, low)
      go false e = let no = times-no n 0 [] e in let one = tree.one n in omega (arith, all, most n, no, one)

  pub one_further : (marks_new : List Bool) (reached_new : List ℕ) → AreNew slots dir reached
      → reached_new ≡ reached ++ leads slots dir → AreMarked (length slots) reached_new marks_new
      → IsUnderWay slots marks_new reached_new (next + 1)
  one_further marks_new reached_new new put marked = record {
    top = was.top;
    within = let len = ap length put in omega (arith, lt, len, length-append reached (leads slots dir));
    marked = marked;
    queue = put ∙ queued ∙ ap (λ (xs : List ℕ). 0 ∷ flat_map (leads slots) xs) (sym first);
    once = subst IsOnce (sym put) new.1;
    inside = λ n some. inside n some (times n reached) refl;
    names = λ n some. names n some (dir == n) refl;
    ways = λ n some. ways n some (times n reached) refl;
  } where
    first : take (next + 1) reached_new ≡ visited
    first = ap (take (next + 1)) put ∙ take-append-le (next + 1) reached (leads slots dir) (omega (arith, lt)) ∙ now

    both : (n : ℕ) → times n reached_new ≡ times n reached + times n (leads slots dir)
    both n = ap (times n) put ∙ times-append n reached (leads slots dir)

    inside : (n : ℕ) → 1 ≤ times n reached_new → (t : ℕ) → times n reached ≡ t → n < length slots
    inside n some zero e =
        named_inside slots (names_of (slot_at slots dir))
        (recursion_from_All (λ (b : BoundName). is_node slots b.to ≡ true) (names_of (slot_at slots dir)) new.0.lead) n
        (omega (arith, some, both n, e))
    inside n some (suc t) e = was.inside n (omega (arith, e))

    ways : (n : ℕ) → 1 ≤ times n reached_new → (t : ℕ) → times n reached ≡ t → IsReached slots n
    ways n some zero e = let way = was.ways dir there in (dir ∷ way.0, (omega (arith, some, both n, e), way.1))
    ways n some (suc t) e = was.ways n (omega (arith, e))

    names : (n : ℕ) → 1 ≤ times n (take (next + 1) reached_new) → (b : Bool) → (dir == n) ≡ b → AreNames slots n
    names n some true e = subst (AreNames slots) (eqb-true dir n e) new.0
    names n some false e =
        let same = ap (times n) first in
        let two = times-append n before (dir ∷ []) in
        let no = times-no n dir [] e in was.names n (omega (arith, some, same, two, no))

-- ---- the reached slots are at most as many as there are

pub few_reached : (slots : Slots) (marks : List Bool) (reached : List ℕ) (next : ℕ) → IsUnderWay slots marks reached next
    → length reached ≤ length slots
few_reached slots marks reached next was = few_below (length slots) reached was.once was.inside

-- ---- at the end

unused_none : (node : Option NamedNode) → is_used node ≡ false → names_of node ≡ []
unused_none None unused = refl
unused_none (Some node) unused = absurd (false≢true (sym unused))

used_inside : (slots : Slots) (n : ℕ) → is_used (slot_at slots n) ≡ true → n < length slots
used_inside slots n used =
    elim (cases_lt n (length slots)) [
      | inl lt ↦ lt
      | inr from ↦ absurd (false≢true (sym (ap is_used (get_or_past slots n None (omega (arith, from)))) ∙ used))
    ]

module _ (slots : Slots) (marks : List Bool) (reached : List ℕ) (next : ℕ) (was : IsUnderWay slots marks reached next)
    (ended : length reached ≤ next) where
  all_visited : take next reached ≡ reached
  all_visited =
      let last : next ≡ length reached = omega (arith, ended, was.within) in
      ap (λ (k : ℕ). take k reached) last ∙ take-length reached

  count : (n : ℕ) → times n reached ≡ times n (0 ∷ []) + times n (flat_map (leads slots) reached)
  count n =
      ap (times n) (was.queue ∙ ap (λ (xs : List ℕ). 0 ∷ flat_map (leads slots) xs) all_visited)
      ∙ times-cons n 0 (flat_map (leads slots) reached)

  -- in a tree each slot that has a node is marked
  pub marked_in_tree : IsTree slots → AreAllMarked slots marks
  marked_in_tree tree n lt used =
      let way = tree.reached n used in was.marked.marked n lt ∙ has_if_some n reached (met way.0 n way.1)
    where
      met : (above : List ℕ) (k : ℕ) → IsReachedBy slots above k → 1 ≤ times k reached
      met [] k is = subst (λ (m : ℕ). 1 ≤ times m reached) (sym is) (let one = times_first 0 [] in omega (arith, count 0, one))
      met (dir ∷ above) k way =
          let some = one_of (leads slots) k dir reached (met above dir way.1) in
          let named = way.0 in omega (arith, count k, some, named)

  -- where each is marked, it is a tree
  pub tree_if_marked : AreAllMarked slots marks → IsTree slots
  tree_if_marked all = record {
    top = was.top;
    names = λ n. names n (is_used (slot_at slots n)) refl;
    unnamed = let one = times_first 0 [] in let once = was.once 0 in let le = most 0 in omega (arith, le, count 0, one, once);
    one = λ n. let once = was.once n in omega (arith, most n, count n, once);
    reached = λ n used. was.ways n (found n used);
  } where
    found : (n : ℕ) → is_used (slot_at slots n) ≡ true → 1 ≤ times n reached
    found n used =
        let lt = used_inside slots n used in some_if_has n reached (sym (was.marked.marked n lt) ∙ all n lt used)

    names : (n : ℕ) (b : Bool) → is_used (slot_at slots n) ≡ b → AreNames slots n
    names n true used = was.names n (let same = ap (times n) all_visited in let some = found n used in omega (arith, same, some))
    names n false unused =
        let none = unused_none (slot_at slots n) unused in record {
          placed = λ _. none;
          lead = λ k d lt. absurd (let len = ap length none in omega (arith, lt, len));
        }

    gives : (n k : ℕ) → 1 ≤ times n (leads slots k) → (b : Bool) → is_used (slot_at slots k) ≡ b → 1 ≤ times k reached
    gives n k some true used = found k used
    gives n k some false unused =
        absurd (let none = ap (λ (names : List BoundName). times n (slots_named names)) (unused_none (slot_at slots k) unused) in
        omega (arith, some, none))

    most : (n : ℕ) → times n (all_leads slots) ≤ times n (flat_map (leads slots) reached)
    most n =
        covered (leads slots) n (range_with_len 0 (length slots)) reached (range_once 0 (length slots))
        (λ k some some_given. gives n k some_given (is_used (slot_at slots k)) refl)
