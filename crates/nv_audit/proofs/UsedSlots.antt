-- Slots with empty logs have no node, and those behind all others make no difference to a tree.
use Rattle.std.proofs.Common.{◌≡◌, ℕ, zero, suc, ◌+◌, ◌<◌, ◌≤◌, Bool, true, List, [], ◌∷◌, ◌++◌, length, take, drop, get_or, Option, None, arith, refl, ap, ap₂, sym, subst, ◌∙◌}
use Rattle.std.specs.Prelude.{◌↔◌, All, Err, IfOk, IsTrue, Ok, Result}
use Rattle.std.specs.List.{flat_map, range_with_len}
use Rattle.std.specs.Option.{option_map}
use Rattle.std.proofs.lemmas.List.{drop_more, get_or_past, length-append, length-drop, map-append, take-append-drop}
use Rattle.std.proofs.lemmas.List.Concat.{flat_map-cons}
use Rattle.std.proofs.lemmas.List.Elements.{All-tail}
use Rattle.nv_alloc.specs.Numbers.{times}
use Rattle.nv_base.specs.declared.fault.Fault.{Fault}
use Rattle.nv_base.specs.declared.numbers.Handle.{Handle}
use Rattle.nv_entry.specs.Log.{seen}
use Rattle.nv_entry.specs.Stored.{stored}
use Rattle.nv_entry.specs.Tree.{root}
use Rattle.nv_entry.specs.declared.item.Entry.{Entry}
use Rattle.nv_entry.specs.declared.names.BoundName.{BoundName}
use Rattle.nv_entry.specs.declared.value.When.{When}
use Rattle.nv_entry.specs.declared.value.When.TheVariants.{At, Now}
use Rattle.nv_audit.specs.Logged.{AreEmpty, AreLoggedTrees, LoggedValue, node_of, slots_of}
use Rattle.nv_audit.specs.Nodes.{named}
use Rattle.nv_audit.specs.Tree.{IsReachedBy, IsTree, Slots, all_leads, is_directory, is_node, is_of, is_used, leads, names_of, slot_at, slots_named}
use Rattle.nv_audit.specs.declared.tree.NamedNode.{NamedNode}

-- ---- slots without nodes

abbrev pub HaveNone : Slots → Type 0
HaveNone slots = (n : ℕ) → slot_at slots n ≡ None

-- the node that a log gives
abbrev by_log : LoggedValue → List Entry → Option NamedNode
by_log l log = option_map (named l.generation log) (stored l.block log).kind

no_node : (when : When) (l : LoggedValue) → l.log ≡ [] → node_of when l ≡ None
no_node Now l none = ap (λ (es : List Entry). by_log l es) none
no_node (At epoch) l none = ap (λ (es : List Entry). by_log l (seen (At epoch) es)) none

pub none_there : (when : When) (logs : List LoggedValue) → AreEmpty logs → HaveNone (slots_of when logs)
none_there when [] none n = refl
none_there when (l ∷ logs) none zero = no_node when l (none 0 l (omega arith))
none_there when (l ∷ logs) none (suc n) = none_there when logs (All-tail (λ (x : LoggedValue). x.log ≡ []) l logs none) n

same_slot : (front rest : Slots) → HaveNone rest → (n : ℕ) → slot_at (front ++ rest) n ≡ slot_at front n
same_slot [] rest none n = none n
same_slot (x ∷ front) rest none zero = refl
same_slot (x ∷ front) rest none (suc n) = same_slot front rest none n

-- ---- what names lead to

no_leads : (f : ℕ → List ℕ) (a k : ℕ) → ((n : ℕ) → a ≤ n → f n ≡ []) → flat_map f (range_with_len a k) ≡ []
no_leads f a zero none = refl
no_leads f a (suc k) none =
    flat_map-cons f a (range_with_len (a + 1) k)
    ∙ ap₂ (λ (xs ys : List ℕ). xs ++ ys) (none a (omega arith)) (no_leads f (a + 1) k (λ n le. none n (omega (arith, le))))

same_leads : (f g : ℕ → List ℕ) (a n k : ℕ) → n ≤ k → ((m : ℕ) → f m ≡ g m) → ((m : ℕ) → a + n ≤ m → f m ≡ [])
    → flat_map f (range_with_len a k) ≡ flat_map g (range_with_len a n)
same_leads f g a zero k le same none = no_leads f a k (λ m past. none m (omega (arith, past)))
same_leads f g a (suc n) zero le same none = absurd (omega (arith, le))
same_leads f g a (suc n) (suc k) le same none =
    flat_map-cons f a (range_with_len (a + 1) k)
    ∙ ap₂ (λ (xs ys : List ℕ). xs ++ ys) (same a)
    (same_leads f g (a + 1) n k (omega (arith, le)) same (λ m past. none m (omega (arith, past))))
    ∙ sym (flat_map-cons g a (range_with_len (a + 1) n))

-- ---- a tree by its slots

module _ (one other : Slots) (same : (n : ℕ) → slot_at one n ≡ slot_at other n) (all : all_leads one ≡ all_leads other) where
  same_node : (handle : Handle) → is_node one handle ≡ is_node other handle
  same_node handle = ap (is_of handle.generation) (same handle.ino)

  lead_alike : (n : ℕ) → leads one n ≡ leads other n
  lead_alike n = ap (λ (s : Option NamedNode). slots_named (names_of s)) (same n)

  reached_by : (above : List ℕ) (n : ℕ) → IsReachedBy one above n → IsReachedBy other above n
  reached_by [] n is = is
  reached_by (dir ∷ above) n is = (subst (λ (xs : List ℕ). 1 ≤ times n xs) (lead_alike dir) is.0, reached_by above dir is.1)

  pub same_tree : IsTree one → IsTree other
  same_tree tree = record {
    top = (sym (same_node root) ∙ tree.top.0, ap is_directory (sym (same root.ino)) ∙ tree.top.1);
    names = λ n. record {
      placed = λ file.
          ap names_of (sym (same n)) ∙ (tree.names n).placed (ap is_directory (same n) ∙ file);
      lead = subst (λ (bs : List BoundName). All (λ (b : BoundName). is_node other b.to ≡ true) bs) (ap names_of (same n))
          (λ k d lt. sym (same_node (get_or (names_of (slot_at one n)) k d).to) ∙ (tree.names n).lead k d lt);
    };
    unnamed = ap (times root.ino) (sym all) ∙ tree.unnamed;
    one = λ n. subst (λ (xs : List ℕ). times n xs ≤ 1) all (tree.one n);
    reached = λ n used.
        let way = tree.reached n (ap is_used (same n) ∙ used) in (way.0, reached_by way.0 n way.1);
  }

-- ---- slots in use

module _ (front rest : Slots) (none : HaveNone rest) where
  past : (n : ℕ) → length front ≤ n → leads (front ++ rest) n ≡ []
  past n le =
      ap (λ (s : Option NamedNode). slots_named (names_of s)) (same_slot front rest none n ∙ get_or_past front n None le)

  all_alike : all_leads (front ++ rest) ≡ all_leads front
  all_alike =
      same_leads (leads (front ++ rest)) (leads front) 0 (length front) (length (front ++ rest))
      (omega (arith, length-append front rest))
      (λ n. ap (λ (s : Option NamedNode). slots_named (names_of s)) (same_slot front rest none n))
      (λ n le. past n (omega (arith, le)))

  pub tree_of_front : IsTree (front ++ rest) → IsTree front
  tree_of_front = same_tree (front ++ rest) front (same_slot front rest none) all_alike

  pub tree_of_all : IsTree front → IsTree (front ++ rest)
  tree_of_all = same_tree front (front ++ rest) (λ n. sym (same_slot front rest none n)) (sym all_alike)

-- the slots in use form the same trees as all slots
module _ (logs : List LoggedValue) (n : ℕ) (unused : AreEmpty (drop n logs)) where
  divided : (when : When) → slots_of when (take n logs) ++ slots_of when (drop n logs) ≡ slots_of when logs
  divided when =
      sym (map-append (node_of when) (take n logs) (drop n logs)) ∙ ap (slots_of when) (take-append-drop n logs)

  to_all : (when : When) → IsTree (slots_of when (take n logs)) → IsTree (slots_of when logs)
  to_all when tree =
      subst IsTree (divided when)
      (tree_of_all (slots_of when (take n logs)) (slots_of when (drop n logs)) (none_there when (drop n logs) unused) tree)

  to_front : (when : When) → IsTree (slots_of when logs) → IsTree (slots_of when (take n logs))
  to_front when tree =
      tree_of_front (slots_of when (take n logs)) (slots_of when (drop n logs)) (none_there when (drop n logs) unused)
      (subst IsTree (sym (divided when)) tree)

  pub trees_of_used : (snapshots : List ℕ) → AreLoggedTrees snapshots (take n logs) ↔ AreLoggedTrees snapshots logs
  trees_of_used snapshots = (
    λ trees. record {
      now = to_all Now trees.now;
      at = λ k d lt. to_all (At (get_or snapshots k d)) (trees.at k d lt);
    },
    λ trees. record {
      now = to_front Now trees.now;
      at = λ k d lt. to_front (At (get_or snapshots k d)) (trees.at k d lt);
    },
  )

pub told_of_all : (logs : List LoggedValue) (n : ℕ) (snapshots : List ℕ) (r : Result Bool Fault) → AreEmpty (drop n logs)
    → IfOk r (λ form. IsTrue form ↔ AreLoggedTrees snapshots (take n logs))
    → IfOk r (λ form. IsTrue form ↔ AreLoggedTrees snapshots logs)
told_of_all logs n snapshots (Ok form) unused told =
    let both = trees_of_used logs n unused snapshots in (λ t. both.0 (told.0 t), λ trees. told.1 (both.1 trees))
told_of_all logs n snapshots (Err fault) unused told = told

-- ---- from the last slot back

pub unused_none : (logs : List LoggedValue) (n : ℕ) → length logs ≤ n → AreEmpty (drop n logs)
unused_none logs n past k d lt = absurd (omega (arith, lt, past, length-drop n logs))

pub unused_more : (logs : List LoggedValue) (i n : ℕ) (own : LoggedValue) → i + 1 ≡ n → i < length logs → own ≡ get_or logs i own
    → own.log ≡ [] → AreEmpty (drop n logs) → AreEmpty (drop i logs)
unused_more logs i n own next lt at none rest =
    subst AreEmpty (sym behind) (first (drop n logs) rest) where
      behind : drop i logs ≡ own ∷ drop n logs
      behind =
          drop_more logs i own lt ∙ ap (λ (x : LoggedValue). x ∷ drop (i + 1) logs) (sym at)
          ∙ ap (λ (m : ℕ). own ∷ drop m logs) next

      first : (others : List LoggedValue) → AreEmpty others → AreEmpty (own ∷ others)
      first others all zero d below = none
      first others all (suc k) d below = all k d (omega (arith, below))
