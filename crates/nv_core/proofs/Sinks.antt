-- What was handed to a sink, node by node.
use Rattle.std.proofs.Common.{◌≡◌, ◌∙◌, ◌+◌, ℕ, List, [], ◌∷◌, ◌++◌, Ok, Err, Option, Some, IsSome, Result, inl, inr, ap, append_assoc, option_and_then, refl, rules, subst, sym}
use Rattle.std.proofs.lemmas.List.{append-nil}
use Rattle.std.specs.Option.{option_to_list}
use Rattle.nv_base.specs.declared.numbers.Handle.{Handle}
use Rattle.nv_base.specs.Refusals.{FailsOnly}
use Rattle.nv_base.specs.declared.fault.Fault.{Fault}
use Rattle.nv_base.specs.declared.fault.Fault.TheVariants.{Write}
use Rattle.nv_base.specs.Memory.{out_of_memory}
use Rattle.nv_entry.specs.declared.node.NodeCopy.{NodeCopy}
use Rattle.nv_entry.specs.declared.tree.TreeNode.{TreeNode}
use Rattle.nv_reader.proofs.Coming.{handed_next}
use Rattle.nv_reader.specs.Walk.{GivesNext, Visit, given_for, next_handle, to_come, visits_after}
use Rattle.nv_reader.specs.Ways.{first_path}
use Rattle.nv_core.specs.Sinks.{AtNode, Hands, TakesAll}

-- the node of the next visit
pub given_one : (visits : List Visit) (found : Option NodeCopy) (path : List (List ℕ)) (node : NodeCopy)
    → IsSome (next_handle visits) → found ≡ Some node → path ≡ first_path visits
    → option_to_list (given_for visits found) ≡ record { path = path; node = node } ∷ []
given_one [] found path node some is at = cc
given_one (visit ∷ later) found path node some is at = rw (is, at) refl

-- the node of the next visit is handed in
pub visits_next : (nodes : Handle → Option NodeCopy) (visits left : List Visit) (found : Option Handle) (handle : Handle)
    (node : Option NodeCopy) → found ≡ next_handle visits → found ≡ Some handle → node ≡ nodes handle → left ≡ visits_after visits node
    → GivesNext nodes visits (given_for visits node) left
visits_next nodes visits left found handle node is some at after =
    let next : next_handle visits ≡ Some handle = sym is ∙ some in
    handed_next nodes visits node (given_for visits node) left (subst (λ (h : Option Handle). IsSome h) (sym next) is_there)
    (at ∙ sym (ap (λ (h : Option Handle). option_and_then nodes h) next)) refl after
  where
    is_there : IsSome (Some handle)
    is_there = search rules

module _ {S : Type 0} (failed : S → ℕ) (Takes Fails : AtNode S) where
  takes_append : (old mid new : S) (front more : List TreeNode) → TakesAll Takes old front mid → TakesAll Takes mid more new
      → TakesAll Takes old (front ++ more) new
  takes_append old mid new [] more took all = subst (λ s. TakesAll Takes s more new) took all
  takes_append old mid new (node ∷ front) more took all = (took.0, took.1, takes_append took.0 mid new front more took.2 all)

  takes_one : (old new : S) (nodes : List TreeNode) (node : TreeNode) → nodes ≡ node ∷ [] → Takes old node new
      → TakesAll Takes old nodes new
  takes_one old new nodes node is took = subst (λ (ns : List TreeNode). TakesAll Takes old ns new) (sym is) (new, took, refl)

  -- one node is taken, before all ends well or memory is refused
  pub hands_one : (result : Result (Unit {0}) Fault) (old new : S) (nodes : List TreeNode) (node : TreeNode) → nodes ≡ node ∷ []
      → Takes old node new → failed new ≡ failed old → FailsOnly out_of_memory result → Hands result failed Takes Fails old nodes new
  hands_one (Ok done) old new nodes node is took same out = (takes_one old new nodes node is took, same)
  hands_one (Err fault) old new nodes node is took same out =
      inl (out, record { front = nodes; rest = []; are = sym (append-nil nodes); takes = takes_one old new nodes node is took }, same)

  -- the sink fails at the node
  pub breaks_at : (old new : S) (nodes : List TreeNode) (node : TreeNode) → nodes ≡ node ∷ [] → Fails old node new
      → failed new ≡ failed old + 1 → Hands (Err Write) failed Takes Fails old nodes new
  breaks_at old new nodes node is fails more =
      inr (refl, record { front = []; node = node; rest = []; mid = old; are = is; takes = refl; fails = fails }, more)

  -- What a sink has taken of a tree, of which the rest is still to come.
  pub record HasTaken (old : S) (tree : List TreeNode) (new : S) (rest : List TreeNode) : Type 0 where
    pub front : List TreeNode
    pub are : tree ≡ front ++ rest
    pub takes : TakesAll Takes old front new
    pub same : failed new ≡ failed old

  pub none_taken : (old : S) (tree rest : List TreeNode) → rest ≡ tree → HasTaken old tree old rest
  none_taken old tree rest is = record { front = []; are = sym is; takes = refl; same = refl }

  pub all_taken : (old new : S) (tree : List TreeNode) → HasTaken old tree new [] → Hands (Ok tt) failed Takes Fails old tree new
  all_taken old new tree taken =
      (subst (λ ns. TakesAll Takes old ns new) (sym (taken.are ∙ append-nil taken.front)) taken.takes, taken.same)

  -- memory is refused
  pub ends : (fault : Fault) (old new : S) (tree rest : List TreeNode) → HasTaken old tree new rest → fault ≡ out_of_memory
      → Hands (Err fault) failed Takes Fails old tree new
  ends fault old new tree rest taken out =
      inl (out, record { front = taken.front; rest = rest; are = taken.are; takes = taken.takes }, taken.same)

  -- more nodes are handed on
  takes_more : (old mid new : S) (tree given rest : List TreeNode) → HasTaken old tree mid (given ++ rest)
      → Hands (Ok tt) failed Takes Fails mid given new → HasTaken old tree new rest
  takes_more old mid new tree given rest taken hands = record {
    front = taken.front ++ given;
    are = taken.are ∙ sym (append_assoc taken.front given rest);
    takes = takes_append old mid new taken.front given taken.takes hands.0;
    same = hands.1 ∙ taken.same;
  }

  stops : (fault : Fault) (old mid new : S) (tree given rest : List TreeNode) → HasTaken old tree mid (given ++ rest)
      → Hands (Err fault) failed Takes Fails mid given new → Hands (Err fault) failed Takes Fails old tree new
  stops fault old mid new tree given rest taken hands = elim hands as (λ _. Hands (Err fault) failed Takes Fails old tree new) [
    | inl ended ↦ inl (
      ended.0,
      record {
        front = taken.front ++ ended.1.front;
        rest = ended.1.rest ++ rest;
        are = taken.are ∙ ap (λ (ns : List TreeNode). taken.front ++ (ns ++ rest)) ended.1.are
            ∙ ap (λ (ns : List TreeNode). taken.front ++ ns) (append_assoc ended.1.front ended.1.rest rest)
            ∙ sym (append_assoc taken.front ended.1.front (ended.1.rest ++ rest));
        takes = takes_append old mid new taken.front ended.1.front taken.takes ended.1.takes;
      },
      ended.2 ∙ taken.same,
    )
    | inr broke ↦ inr (
      broke.0,
      record {
        front = taken.front ++ broke.1.front;
        node = broke.1.node;
        rest = broke.1.rest ++ rest;
        mid = broke.1.mid;
        are = taken.are ∙ ap (λ (ns : List TreeNode). taken.front ++ (ns ++ rest)) broke.1.are
            ∙ ap (λ (ns : List TreeNode). taken.front ++ ns) (append_assoc broke.1.front (broke.1.node ∷ broke.1.rest) rest)
            ∙ sym (append_assoc taken.front broke.1.front (broke.1.node ∷ (broke.1.rest ++ rest)));
        takes = takes_append old mid broke.1.mid taken.front broke.1.front taken.takes broke.1.takes;
        fails = broke.1.fails;
      },
      broke.2 ∙ ap (λ n. n + 1) taken.same,
    )
  ]

  module _ (nodes : Handle → Option NodeCopy) (visits left : List Visit) (given : Option TreeNode)
      (next : GivesNext nodes visits given left) (old mid new : S) (tree : List TreeNode)
      (taken : HasTaken old tree mid (to_come nodes visits)) where
    to_take : HasTaken old tree mid (option_to_list given ++ to_come nodes left)
    to_take = subst (λ (rest : List TreeNode). HasTaken old tree mid rest) next.next taken

    -- the node of the next visit is handed on
    pub takes_next : Hands (Ok tt) failed Takes Fails mid (option_to_list given) new
        → HasTaken old tree new (to_come nodes left)
    takes_next hands = takes_more old mid new tree (option_to_list given) (to_come nodes left) to_take hands

    pub stops_next : (fault : Fault) → Hands (Err fault) failed Takes Fails mid (option_to_list given) new
        → Hands (Err fault) failed Takes Fails old tree new
    stops_next fault hands =
        stops fault old mid new tree (option_to_list given) (to_come nodes left) to_take hands
