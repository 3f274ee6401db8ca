-- Directories form a tree, whatever events come.
use Rattle.nv_book.specs.declared.record.Record.{Record}
use Rattle.std.proofs.Common.{◌≡◌, ℕ, if◌then◌else◌, ◌<◌, Bool, true, false, not, ◌&&◌, ◌||◌, cond, nat_lt, List, [], ◌∷◌, length, get_or, Option, Some, None, IsSome, arith, refl, ap, sym, subst, ◌∙◌}
use Rattle.std.proofs.Math.Path.{fun_ext}
use Rattle.std.proofs.lemmas.Bool.{ltb-false}
use Rattle.std.proofs.lemmas.List.Elements.{Contains-get_or}
use Rattle.std.specs.Prelude.{option_map}
use Rattle.nv_base.specs.Limits.{IsWithinLimits}
use Rattle.nv_base.specs.declared.fault.Fault.TheVariants as fault
use Rattle.nv_base.specs.declared.geometry.GeometryNumbers.{GeometryNumbers}
use Rattle.nv_base.specs.declared.node.Kind.{Kind}
use Rattle.nv_base.specs.declared.node.Kind.TheVariants.{File, Dir}
use Rattle.nv_base.specs.declared.numbers.Handle.{Handle}
use Rattle.nv_calls.proofs.Passed.{both_passed, directory_passed, elsewhere, file_passed, if_passed, node_passed}
use Rattle.nv_calls.specs.AllCalls.{effect, refusal}
use Rattle.nv_calls.specs.Plain.{PlainNode, node_in, same_handle, with_mode}
use Rattle.nv_calls.specs.Refusals.{found, is_directory, kind_of, lookup, passes, refuse_if, want_bound, want_directory, want_lawful}
use Rattle.nv_calls.specs.calls.Lookup.{lookup_refusal}
use Rattle.nv_calls.specs.calls.Rename.{bound_effect, move_effect, moved_refusal, own_place, pass_if, rename_early, replaced_effect, replaced_refusal}
use Rattle.nv_calls.specs.calls.Rmdir.{rmdir_late}
use Rattle.nv_calls.specs.calls.Size.{resized_node}
use Rattle.nv_calls.specs.calls.Unlink.{leave_effect, unlink_late}
use Rattle.nv_calls.specs.declared.call.Call.{Call}
use Rattle.nv_calls.specs.declared.call.Call.TheVariants as call
use Rattle.nv_entry.specs.Sound.{empty_node, rewritten}
use Rattle.nv_entry.specs.Tree.{FormTree, names_of_node, names_under, root}
use Rattle.nv_entry.specs.declared.names.BoundName.{BoundName}
use Rattle.nv_entry.specs.declared.node.NodeCopy.{NodeCopy}
use Rattle.nv_machine.proofs.EveryWorld.{all_known}
use Rattle.nv_machine.proofs.DirectoriesBegun.{KeepsNames}
use Rattle.nv_machine.proofs.DirectoriesChanged.{found_in}
use Rattle.nv_machine.proofs.DirectoriesKept.{begin_kept, changed_by, changed_nodes, directory_of, file_of, found_there, leave_kept, no_names, none_there, one_kept}
use Rattle.nv_machine.proofs.DirectoriesMoved.{CanMove, moves, other_effect, other_replaced, replaces, same_effect, same_replaced}
use Rattle.nv_machine.proofs.DirectoriesStay.{same_self}
use Rattle.nv_calls.proofs.CheckEnds.{handle_is}
use Rattle.nv_machine.proofs.CommitEffects.{point_effect}
use Rattle.nv_machine.proofs.OverEvents.{by_points, events_by}
use Rattle.nv_machine.proofs.FitsEvents.{IsKnown, fits_now, passes_now}
use Rattle.nv_machine.proofs.NewHandles.{no_node}
use Rattle.nv_machine.proofs.LogsKeptRuns.{nodes_stay}
use Rattle.nv_machine.proofs.PlainStart.{plain_start}
use Rattle.nv_machine.proofs.TreeNumbers.{settled_by_numbers}
use Rattle.nv_machine.specs.Directories.{AreTree, HasName, HaveOneName}
use Rattle.nv_machine.specs.FitsNow.{bytes_in}
use Rattle.nv_machine.specs.Format.{formatted}
use Rattle.nv_machine.specs.Hands.{makes_inode}
use Rattle.nv_machine.specs.PlainRun.{Commits, plain_change_of, keeps_nodes, root_alone}
use Rattle.nv_machine.specs.Sequence.{beginning}
use Rattle.nv_machine.specs.Settled.{settled_nodes}
use Rattle.nv_machine.specs.Starts.{IsStart}
use Rattle.nv_machine.specs.Step.{after, step}
use Rattle.nv_machine.specs.World.{Event, Go, Running, World, actor_at}

-- ---- nodes that keep their names

texts_keep : (offset : ℕ) (text : List ℕ) → KeepsNames (option_map (rewritten offset text))
texts_keep offset text = record { kind = kind; names = names } where
  kind : (node : Option NodeCopy) → kind_of (option_map (rewritten offset text) node) ≡ kind_of node
  kind None = refl
  kind (Some n) = refl

  names : (node : Option NodeCopy) → names_of_node (option_map (rewritten offset text) node) ≡ names_of_node node
  names None = refl
  names (Some n) = refl

sizes_keep : (size : ℕ) → KeepsNames (option_map (resized_node size))
sizes_keep size = record { kind = kind; names = names } where
  kind : (node : Option NodeCopy) → kind_of (option_map (resized_node size) node) ≡ kind_of node
  kind None = refl
  kind (Some n) = refl

  names : (node : Option NodeCopy) → names_of_node (option_map (resized_node size) node) ≡ names_of_node node
  names None = refl
  names (Some n) = refl

modes_keep : (mode : ℕ) → KeepsNames (with_mode mode)
modes_keep mode = record { kind = kind; names = names } where
  kind : (node : Option NodeCopy) → kind_of (with_mode mode node) ≡ kind_of node
  kind None = refl
  kind (Some n) = refl

  names : (node : Option NodeCopy) → names_of_node (with_mode mode node) ≡ names_of_node node
  names None = refl
  names (Some n) = refl

differs : (from to : Handle) → same_handle from to ≡ false → to ≡ from → ⊥
differs from to is same = let z : true ≡ false = sym (same_self from) ∙ ap (same_handle from) (sym same) ∙ is in cc

-- ---- one call

module _ (block : ℕ) (nodes : Handle → Option NodeCopy) (tree : AreTree nodes) where
  unlink_kept : (dir : Handle) (name : List ℕ) (to : Option Handle) → found nodes dir name ≡ to → unlink_late nodes to ≡ passes
      → AreTree (changed_by (leave_effect dir name to) nodes)
  unlink_kept dir name None is passed = tree
  unlink_kept dir name (Some to) is passed =
      let file = file_of (nodes to) (file_passed (nodes to) passes passed).0 in
      leave_kept nodes tree dir name to (found_there (want_directory (kind_of (nodes dir)) (want_lawful name passes))
      (lookup nodes dir name) to is)
      (no_names nodes tree.one_name to file)

  empty_of : (names : List BoundName) → nat_lt 0 (length names) ≡ false → names ≡ []
  empty_of [] is = refl
  empty_of (b ∷ names) is = absurd (let le = ltb-false 0 (length (b ∷ names)) is in omega (arith, le))

  rmdir_kept : (dir : Handle) (name : List ℕ) (to : Option Handle) → found nodes dir name ≡ to → rmdir_late nodes to ≡ passes
      → AreTree (changed_by (leave_effect dir name to) nodes)
  rmdir_kept dir name None is passed = tree
  rmdir_kept dir name (Some to) is passed =
      let t = directory_passed (nodes to) (refuse_if (nat_lt 0 (length (names_of_node (nodes to)))) fault.NotEmpty passes) passed in
      let none = if_passed (nat_lt 0 (length (names_of_node (nodes to)))) fault.NotEmpty passes t.1 in
      leave_kept nodes tree dir name to (found_there (want_directory (kind_of (nodes dir)) (want_lawful name passes))
      (lookup nodes dir name) to is)
      (empty_of (names_of_node (nodes to)) none.0)

  module _ (from : Handle) (old : List ℕ) (to : Handle) (new : List ℕ) (directory : is_directory (kind_of (nodes to)) ≡ true) where
    module _ (moved : Handle) (has : HasName nodes from (record { name = old; to = moved }))
        (crosses : (is_directory (kind_of (nodes moved)) && not (same_handle from to)) ≡ false) where
      -- nothing stands there
      free_moved : lookup nodes to new ≡ None → (same : Bool) → same_handle from to ≡ same
          → AreTree (changed_by (move_effect same from old to new moved []) nodes)
      free_moved free same is = go same is where
        can : CanMove from old to new moved nodes
        can = record { has = has; directory = directory; free = free; crosses = crosses }

        go : (same : Bool) → same_handle from to ≡ same → AreTree (changed_by (move_effect same from old to new moved []) nodes)
        go true is = subst AreTree (same_effect from old to new moved nodes (sym (handle_is from to is)))
            (moves from old to new moved nodes tree can)
        go false is = subst AreTree (other_effect from old to new moved nodes (differs from to is))
            (moves from old to new moved nodes tree can)

      -- a file stands there
      onto_moved : own_place from old to new ≡ false → (there : Handle) → lookup nodes to new ≡ Some there
          → is_directory (kind_of (nodes there)) ≡ false → (same : Bool) → same_handle from to ≡ same
          → AreTree (changed_by (move_effect same from old to new moved (replaced_effect (Some there))) nodes)
      onto_moved own there is file same differ = go same differ where
        had : HasName nodes to (record { name = new; to = there })
        had = found_in new (names_under nodes to) there is

        go : (same : Bool) → same_handle from to ≡ same → AreTree
            (changed_by (move_effect same from old to new moved (replaced_effect (Some there))) nodes)
        go true one =
            subst AreTree (same_replaced from old to new moved nodes tree there has had file own crosses (sym (handle_is from to one)))
            (replaces from old to new moved nodes tree there has had file own crosses)
        go false other =
            subst AreTree (other_replaced from old to new moved nodes tree there has had file own crosses (differs from to other))
            (replaces from old to new moved nodes tree there has had file own crosses)

      file_there : (there : Handle) → replaced_refusal nodes (kind_of (nodes moved)) (Some there) ≡ passes
          → is_directory (kind_of (nodes there)) ≡ false
      file_there there passed =
          let n = node_passed (nodes there) _ passed in
          second (is_directory (kind_of (nodes moved))) (is_directory (kind_of (nodes there)))
          (if_passed (is_directory (kind_of (nodes moved)) || is_directory (kind_of (nodes there))) fault.Exists passes n.1).0
        where
          second : (a b : Bool) → (a || b) ≡ false → b ≡ false
          second true b h = cc
          second false b h = h

      moved_kept : own_place from old to new ≡ false → (lawful : want_lawful new passes ≡ passes) → (other : Option Handle)
          → found nodes to new ≡ other
          → replaced_refusal nodes (kind_of (nodes moved)) other ≡ passes
          → AreTree (changed_by (move_effect (same_handle from to) from old to new moved (replaced_effect other)) nodes)
      moved_kept own lawful None is passed =
          free_moved (none_there (want_directory (kind_of (nodes to)) (want_lawful new passes)) (lookup nodes to new)
          (both (kind_of (nodes to)) directory) is)
          (same_handle from to) refl
        where
          both : (kind : Option Kind) → is_directory kind ≡ true → want_directory kind (want_lawful new passes) ≡ passes
          both None h = cc
          both (Some File) h = cc
          both (Some Dir) h = lawful
      moved_kept own lawful (Some there) is passed =
          onto_moved own there (found_there (want_directory (kind_of (nodes to)) (want_lawful new passes)) (lookup nodes to new) there is)
          (file_there there passed) (same_handle from to) refl

    bound_kept : own_place from old to new ≡ false → want_lawful new passes ≡ passes → (first second : Option Handle)
        → found nodes from old ≡ first
        → found nodes to new ≡ second → want_bound first (λ moved. pass_if (own_place from old to new)
        (moved_refusal nodes from to second moved)) ≡ passes
        → AreTree (changed_by (bound_effect from old to new first second) nodes)
    bound_kept own lawful None second is other passed = tree
    bound_kept own lawful (Some moved) second is other passed =
        let last = elsewhere (own_place from old to new) (moved_refusal nodes from to second moved) own passed in
        let m = node_passed (nodes moved) _ last in
        let crosses = is_directory (kind_of (nodes moved)) && not (same_handle from to) in
        let k = if_passed crosses fault.MoveDirectory (replaced_refusal nodes (kind_of (nodes moved)) second) m.1 in
        moved_kept moved
        (found_in old (names_under nodes from) moved
        (found_there (want_directory (kind_of (nodes from)) (want_lawful old passes)) (lookup nodes from old) moved is))
        k.0 own lawful second other k.1

  rename_kept : (from : Handle) (old : List ℕ) (to : Handle) (new : List ℕ) → refusal block nodes (call.Rename from old to new) ≡ passes
      → (own : Bool) → own_place from old to new ≡ own
      → AreTree (changed_by (cond own [] (bound_effect from old to new (found nodes from old) (found nodes to new))) nodes)
  rename_kept from old to new passed true is = tree
  rename_kept from old to new passed false is =
      let both = both_passed (rename_early nodes from old to new) _ passed in
      let tests = both_passed (lookup_refusal nodes from old) _ both.0 in
      let t = directory_passed (nodes to) (want_lawful new passes) tests.1 in
      bound_kept from old to new (directory_of (nodes to) t.0) is t.1 (found nodes from old) (found nodes to new) refl refl both.1

  -- WHAT A CALL CHANGES, where it is not refused and a new inode's handle has no node
  pub call_kept : (made : Handle) (c : Call) → refusal block nodes c ≡ passes → (makes_inode (beginning c) ≡ true → nodes made ≡ None)
      → AreTree (changed_by (effect nodes made c) nodes)
  call_kept made (call.Create dir name mode) passed new = begin_kept nodes tree dir name File mode made passed (new refl)
  call_kept made (call.Mkdir dir name mode) passed new = begin_kept nodes tree dir name Dir mode made passed (new refl)
  call_kept made (call.Write file offset (byte ∷ rest)) passed new = one_kept nodes tree file
      (option_map (rewritten offset (byte ∷ rest))) (texts_keep offset (byte ∷ rest))
  call_kept made (call.Size file size) passed new = one_kept nodes tree file (option_map (resized_node size)) (sizes_keep size)
  call_kept made (call.Mode handle mode) passed new = one_kept nodes tree handle (with_mode mode) (modes_keep mode)
  call_kept made (call.Unlink dir name) passed new =
      unlink_kept dir name (found nodes dir name) refl (both_passed (lookup_refusal nodes dir name) _ passed).1
  call_kept made (call.Rmdir dir name) passed new =
      rmdir_kept dir name (found nodes dir name) refl (both_passed (lookup_refusal nodes dir name) _ passed).1
  call_kept made (call.Rename from old to new_name) passed new = rename_kept from old to new_name passed
      (own_place from old to new_name) refl
  call_kept made other passed new = tree

-- ---- every event

abbrev nodes_of : World → Handle → Option NodeCopy
nodes_of w = node_in (settled_nodes w.shared)

module _ (g : GeometryNumbers) (w : World) (known : IsKnown g w) (tree : AreTree (nodes_of w)) where
  stays_tree : (e : Event) → keeps_nodes (plain_change_of w e) ≡ true → AreTree (nodes_of (step w e).world)
  stays_tree e keeps =
      let k = known.reached in
      subst (λ n. AreTree (node_in n)) (sym (fun_ext (nodes_stay w e k.locks k.order k.kept k.apart keeps))) tree

  commit_tree : (actor : ℕ) (granted : Bool) (r : Running) → actor < length w.actors → (actor_at w actor).running ≡ Some r
      → plain_change_of w (Go actor granted) ≡ Commits → AreTree (nodes_of (step w (Go actor granted)).world)
  commit_tree actor granted r there is e =
      let k = known.reached in
      let nodes = settled_nodes w.shared in
      let changes = effect (node_in nodes) r.made r.call in
      subst AreTree
      (sym (fun_ext (changed_nodes r.commit changes nodes))
      ∙ sym (ap (λ (n : Handle → Option PlainNode). node_in n)
      (fun_ext (point_effect (bytes_in w.shared) w actor granted r k.locks k.order k.kept k.grown k.apart there is e
      (fits_now g w known actor granted r is there e)))))
      (call_kept w.numbers.block (node_in nodes) tree r.made r.call (passes_now g w known actor granted r is there e)
      (λ makes. ap (option_map (λ (p : PlainNode). p.node)) (no_node g w known actor granted r there is e makes)))

  event_tree : (e : Event) → AreTree (nodes_of (step w e).world)
  event_tree = by_points w (λ (e : Event). AreTree (nodes_of (step w e).world)) commit_tree stays_tree

-- ---- a new world

-- the root alone, without names
pub new_nodes : (g : GeometryNumbers) → IsWithinLimits g → nodes_of (formatted g) ≡
    (λ handle. if same_handle handle root then Some (empty_node Dir 493) else None)
new_nodes g within = fun_ext (λ handle. ap (option_map (λ (p : PlainNode). p.node)) (plain_start g within handle)
    ∙ go handle (same_handle handle root)) where
      go : (handle : Handle) (same : Bool)
          → option_map (λ (p : PlainNode). p.node) (if same then Some root_alone else None)
          ≡ (if same then Some (empty_node Dir 493) else None)
      go handle true = refl
      go handle false = refl

pub root_tree : AreTree (λ handle. if same_handle handle root then Some (empty_node Dir 493) else None)
root_tree = record { one_name = one_name; reached = λ handle some. ([], only handle (same_handle handle root) refl some) } where
  only : (handle : Handle) (same : Bool) → same_handle handle root ≡ same
      → IsSome (if same_handle handle root then Some (empty_node Dir 493) else None) → handle ≡ root
  only handle true is some = handle_is handle root is
  only handle false is some = absurd (let none : IsSome {T = NodeCopy} None = rw is at some in let z : false ≡ true = none in cc)

  bare : (handle : Handle) (b : BoundName) → HasName (λ h. if same_handle h root then Some (empty_node Dir 493) else None) handle b → ⊥
  bare handle b has = go (same_handle handle root) refl where
    go : (same : Bool) → same_handle handle root ≡ same → ⊥
    go true is = let lt = (rw is at has).1 in omega (arith, lt)
    go false is = let lt = (rw is at has).1 in omega (arith, lt)

  names_at : Handle → List BoundName
  names_at dir = names_under (λ h. if same_handle h root then Some (empty_node Dir 493) else None) dir

  one_name : HaveOneName (λ handle. if same_handle handle root then Some (empty_node Dir 493) else None)
  one_name = record {
    top = rw (same_self root) refl;
    unnamed = λ dir leads. bare dir leads.0 leads.1;
    named = λ dir bound has. absurd (bare dir bound has);
    leads = λ dir bound has. absurd (bare dir bound has);
    apart = λ dir i j d lt within. absurd (bare dir (get_or (names_at dir) j d) (Contains-get_or (names_at dir) j d within));
    one = λ dir other handle a b. absurd (bare dir a.0 a.1);
  }

-- WHATEVER EVENTS COME from a new world on
pub all_trees : (g : GeometryNumbers) (start : World) (records : List Record) (events : List Event) → IsStart g start records
    → AreTree (node_in (settled_nodes (after start events).shared))
all_trees g start records events is_start =
    events_by (IsKnown g) (λ (v : World). AreTree (nodes_of v)) (λ v e known tree. event_tree g v known tree e) events start
    (all_known g start records is_start) is_start.tree

-- ---- numbers of inodes

pub all_numbered : (g : GeometryNumbers) (start : World) (records : List Record) (events : List Event) → IsStart g start records
    → FormTree (node_in (settled_nodes (after start events).shared)) (length (after start events).shared.cells)
all_numbered g start records events is_start = settled_by_numbers (after start events).shared (all_trees g start records events is_start)
