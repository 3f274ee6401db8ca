-- Items that fit changes, and plans of them.
use Rattle.std.proofs.Common.{◌≡◌, ℕ, ◌<◌, List, [], ◌∷◌, length, Option, Some, None, arith, refl, ap, sym, ◌∙◌, subst}
use Rattle.nv_base.specs.declared.node.Kind.{Kind}
use Rattle.nv_base.specs.declared.node.Kind.TheVariants.{Dir}
use Rattle.nv_base.specs.declared.numbers.Handle.{Handle}
use Rattle.nv_entry.specs.declared.item.Entry.{Entry}
use Rattle.nv_entry.specs.declared.item.Item.{Item}
use Rattle.nv_entry.specs.declared.item.Item.TheVariants.{Init, Bind, Unbind, Gone}
use Rattle.nv_entry.specs.declared.node.NodeCopy.{NodeCopy}
use Rattle.nv_entry.specs.Index.{with_last, without}
use Rattle.nv_entry.specs.Node.{node_now}
use Rattle.nv_entry.specs.Sound.{Makes, MakesAll, empty_node}
use Rattle.nv_entry.specs.Stored.{stored_after}
use Rattle.nv_entry.proofs.SoundLogs.{one_makes}
use Rattle.nv_calls.specs.Plain.{Change, begins, change, goes, node_in, with_names}
use Rattle.nv_calls.specs.declared.plan.InodePlan.{InodePlan}
use Rattle.nv_calls.specs.Plan.{planned}
use Rattle.nv_calls.specs.Slots.{IsFree, IsPlan, InodeSlot, node_under}
use Rattle.nv_calls.proofs.Commits.{own_node}
use Rattle.nv_calls.proofs.Passed.{HasKind, IsThere, own_handle}

module _ (bytes : ℕ → List ℕ) (block : ℕ) (slots : ℕ → InodeSlot) (some : 0 < block) where
  abbrev nodes : Handle → Option NodeCopy
  nodes = node_in (node_under bytes block slots)

  abbrev pub IsPlanOf : List InodePlan → List Change → Type 0
  IsPlanOf plan effect = IsPlan bytes block slots plan effect

  pub no_plan : IsPlanOf [] []
  no_plan = record { all = tt; fit = tt }

  -- one more inode
  pub and_plan : (handle : Handle) (items : List Item) (becomes : Option NodeCopy → Option NodeCopy) (plan : List InodePlan)
      (effect : List Change) → 0 < length items → handle.generation ≡ (slots handle.ino).generation
      → MakesAll bytes block items (nodes handle) (becomes (nodes handle))
      → IsPlanOf plan effect → IsPlanOf (planned handle items ∷ plan) (change handle becomes ∷ effect)
  and_plan handle items becomes plan effect any own makes rest = record {
    all = (record { some = any; own = own }, rest.all);
    fit = (record { same = refl; makes = makes }, rest.fit);
  }

  -- one more inode that has a node
  pub and_node : (handle : Handle) (items : List Item) (becomes : Option NodeCopy → Option NodeCopy) (plan : List InodePlan)
      (effect : List Change) → 0 < length items → (there : IsThere (nodes handle))
      → MakesAll bytes block items (Some there.node) (becomes (Some there.node))
      → IsPlanOf plan effect → IsPlanOf (planned handle items ∷ plan) (change handle becomes ∷ effect)
  and_node handle items becomes plan effect any there makes rest =
      and_plan handle items becomes plan effect any (own_handle bytes block slots handle there)
      (subst (λ (node : Option NodeCopy). MakesAll bytes block items node (becomes node)) (sym there.is) makes) rest

  -- one more inode with one item
  pub and_item : (handle : Handle) (item : Item) (becomes : Option NodeCopy → Option NodeCopy) (plan : List InodePlan) (effect : List Change)
      → (there : IsThere (nodes handle)) → Makes bytes block item (Some there.node) (becomes (Some there.node))
      → IsPlanOf plan effect → IsPlanOf (planned handle (item ∷ []) ∷ plan) (change handle becomes ∷ effect)
  and_item handle item becomes plan effect there makes rest =
      and_node handle (item ∷ []) becomes plan effect (omega arith) there
      (one_makes bytes block item (Some there.node) (becomes (Some there.node)) some makes) rest

  pub and_gone : (handle : Handle) (plan : List InodePlan) (effect : List Change) → IsThere (nodes handle) → IsPlanOf plan effect
      → IsPlanOf (planned handle (Gone ∷ []) ∷ plan) (change handle goes ∷ effect)
  and_gone handle plan effect there rest = and_item handle Gone goes plan effect there tt rest

  pub and_bind : (dir : Handle) (name : List ℕ) (to : Handle) (plan : List InodePlan) (effect : List Change) → HasKind Dir (nodes dir)
      → IsPlanOf plan effect
      → IsPlanOf (planned dir (Bind name to ∷ []) ∷ plan) (change dir (with_names (with_last name to)) ∷ effect)
  and_bind dir name to plan effect d rest =
      and_item dir (Bind name to) (with_names (with_last name to)) plan effect (record { node = d.node; is = d.is }) (d.kind_is, refl) rest

  pub and_unbind : (dir : Handle) (name : List ℕ) (plan : List InodePlan) (effect : List Change) → HasKind Dir (nodes dir)
      → IsPlanOf plan effect
      → IsPlanOf (planned dir (Unbind name ∷ []) ∷ plan) (change dir (with_names (without name)) ∷ effect)
  and_unbind dir name plan effect d rest =
      and_item dir (Unbind name) (with_names (without name)) plan effect (record { node = d.node; is = d.is }) (d.kind_is, refl) rest

  -- both names of one directory
  pub and_move : (dir : Handle) (old new : List ℕ) (to : Handle) (plan : List InodePlan) (effect : List Change) → HasKind Dir (nodes dir)
      → IsPlanOf plan effect
      → IsPlanOf (planned dir (Unbind old ∷ Bind new to ∷ []) ∷ plan)
      (change dir (with_names (λ names. with_last new to (without old names))) ∷ effect)
  and_move dir old new to plan effect d rest =
      let between : NodeCopy = record d.node { names = without old d.node.names } in
      let after : NodeCopy = record d.node { names = with_last new to (without old d.node.names) } in
      let first = one_makes bytes block (Unbind old) (Some d.node) (Some between) some (d.kind_is, refl) in
      let second = one_makes bytes block (Bind new to) (Some between) (Some after) some (d.kind_is, refl) in
      and_node dir (Unbind old ∷ Bind new to ∷ []) (with_names (λ names. with_last new to (without old names))) plan effect (omega arith)
      (record { node = d.node; is = d.is }) (λ s t. second (stored_after block (Unbind old) s) (first s t)) rest

  -- a new inode
  pub and_init : (made : Handle) (kind : Kind) (mode : ℕ) (plan : List InodePlan) (effect : List Change) → IsFree slots made
      → IsPlanOf plan effect
      → IsPlanOf (planned made (Init kind mode ∷ []) ∷ plan) (change made (begins kind mode) ∷ effect)
  and_init made kind mode plan effect free rest =
      let none : nodes made ≡ None = own_node bytes block slots made free.own
      ∙ ap (λ (log : List Entry). node_now bytes block log) free.empty in
      and_plan made (Init kind mode ∷ []) (begins kind mode) plan effect (omega arith) free.own
      (subst (λ (node : Option NodeCopy). MakesAll bytes block (Init kind mode ∷ []) node (Some (empty_node kind mode))) (sym none)
      (one_makes bytes block (Init kind mode) None (Some (empty_node kind mode)) some refl)) rest
