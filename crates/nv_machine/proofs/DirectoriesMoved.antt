-- Directories stay a tree where a node moves to another name, and a file that stood there goes.
use Rattle.std.proofs.Common.{◌≡◌, ◌≢◌, ◌⊎◌, inl, inr, ℕ, Bool, true, false, not, ◌&&◌, List, [], ◌∷◌, ◌++◌, ap₂, Option, Some, None, refl, ap, sym, subst, ◌∙◌}
use Rattle.std.specs.List.{Contains}
use Rattle.nv_base.specs.Names.{same_name}
use Rattle.nv_base.specs.declared.numbers.Handle.{Handle}
use Rattle.nv_calls.specs.Plain.{change, goes, same_handle, with_names}
use Rattle.nv_calls.specs.Refusals.{is_directory, kind_of, lookup}
use Rattle.nv_calls.specs.calls.Rename.{move_effect, own_place, replaced_effect}
use Rattle.nv_entry.proofs.Hiding.{same_name-self, same_name-equal}
use Rattle.nv_entry.specs.Index.{bound_to, with_last, without}
use Rattle.nv_entry.specs.Tree.{names_of_node, names_under}
use Rattle.nv_entry.specs.declared.names.BoundName.{BoundName}
use Rattle.nv_entry.specs.declared.node.NodeCopy.{NodeCopy}
use Rattle.nv_machine.proofs.DirectoriesChanged.{changed_at, changed_elsewhere, names_elsewhere, names_here, names_kinds, stays_left, stays_moved}
use Rattle.nv_machine.proofs.DirectoriesKept.{apart_by_kind, changed_by, filter_more, filter_twice, first_change, joined, left_none, no_names, same_names, still_none, swapped}
use Rattle.nv_machine.proofs.DirectoriesReached.{one_of_handle}
use Rattle.nv_machine.proofs.DirectoriesStay.{filter_contains, same_or, same_self}
use Rattle.nv_calls.proofs.CheckEnds.{handle_is}
use Rattle.nv_machine.specs.Directories.{AreTree, HasName}

module _ (from : Handle) (old : List ℕ) (to : Handle) (new : List ℕ) (moved : Handle) where
  abbrev leaves : Option NodeCopy → Option NodeCopy
  leaves = with_names (without old)

  abbrev arrives : Option NodeCopy → Option NodeCopy
  arrives = with_names (with_last new moved)

  -- what is known of a move in a tree
  pub record CanMove (nodes : Handle → Option NodeCopy) : Type 0 where
    pub has : HasName nodes from (record { name = old; to = moved })
    pub directory : is_directory (kind_of (nodes to)) ≡ true
    pub free : lookup nodes to new ≡ None
    pub crosses : (is_directory (kind_of (nodes moved)) && not (same_handle from to)) ≡ false

  both_ways : (a b : Bool) → (a && not b) ≡ false → (b ≡ true) ⊎ ((a ≡ false) × (b ≡ false))
  both_ways a true h = inl refl
  both_ways true false h = cc
  both_ways false false h = inr (refl, refl)

  -- the name leaves, and stands in the other directory
  pub moves : (nodes : Handle → Option NodeCopy) → AreTree nodes → CanMove nodes
      → AreTree (changed_at to arrives (changed_at from leaves nodes))
  moves nodes tree can =
      stays_moved nodes tree from (record { name = old; to = moved }) can.has to new can.directory (free (same_or to from))
      (place (both_ways (is_directory (kind_of (nodes moved))) (same_handle from to) can.crosses))
    where
      free : (to ≡ from) ⊎ (to ≢ from) → bound_to new (names_under (changed_at from leaves nodes) to) ≡ None
      free (inl same) =
          ap (λ h. bound_to new (names_under (changed_at from leaves nodes) h)) same
          ∙ ap (bound_to new) (names_here nodes from (without old) (tree.one_name.named from (record { name = old; to = moved }) can.has))
          ∙ still_none new old (names_under nodes from) (ap (λ h. bound_to new (names_under nodes h)) (sym same) ∙ can.free)
      free (inr other) = ap (bound_to new) (names_elsewhere nodes from (without old) to other) ∙ can.free

      place : (same_handle from to ≡ true) ⊎ ((is_directory (kind_of (nodes moved)) ≡ false) × (same_handle from to ≡ false))
          → (to ≡ from) ⊎ ((names_under nodes moved ≡ []) × (to ≢ moved))
      place (inl same) = inl (sym (handle_is from to same))
      place (inr (file, other)) = inr (no_names nodes tree.one_name moved file, apart_by_kind nodes to moved can.directory file)

  -- ---- nothing stands there

  pub same_effect : (nodes : Handle → Option NodeCopy) → to ≡ from
      → changed_at to arrives (changed_at from leaves nodes) ≡ changed_by (move_effect true from old to new moved []) nodes
  same_effect nodes same =
      ap (λ h. changed_at h arrives (changed_at from leaves nodes)) same
      ∙ joined from (with_last new moved) (without old) nodes
      ∙ sym (first_change from (with_names (λ names. with_last new moved (without old names))) [] nodes refl)

  pub other_effect : (nodes : Handle → Option NodeCopy) → to ≢ from
      → changed_at to arrives (changed_at from leaves nodes) ≡ changed_by (move_effect false from old to new moved []) nodes
  other_effect nodes other =
      swapped to from arrives leaves nodes other
      ∙ ap (changed_at from leaves) (sym (first_change to arrives [] nodes refl))
      ∙ sym (first_change from leaves (change to arrives ∷ []) nodes (changed_elsewhere to arrives nodes from (λ same. other (sym same))))

  -- ---- a file stands there

  module _ (nodes : Handle → Option NodeCopy) (tree : AreTree nodes) (there : Handle)
      (has : HasName nodes from (record { name = old; to = moved })) (had : HasName nodes to (record { name = new; to = there }))
      (file : is_directory (kind_of (nodes there)) ≡ false)
      (own : own_place from old to new ≡ false)
      (crosses : (is_directory (kind_of (nodes moved)) && not (same_handle from to)) ≡ false) where
    abbrev freed : Handle → Option NodeCopy
    freed = changed_at there goes (changed_at to (with_names (without new)) nodes)

    from_is : is_directory (kind_of (nodes from)) ≡ true
    from_is = tree.one_name.named from (record { name = old; to = moved }) has

    to_is : is_directory (kind_of (nodes to)) ≡ true
    to_is = tree.one_name.named to (record { name = new; to = there }) had

    from_apart : from ≢ there
    from_apart = apart_by_kind nodes from there from_is file

    to_apart : to ≢ there
    to_apart = apart_by_kind nodes to there to_is file

    -- one name in one directory is one place
    is_own : from ≡ to → old ≡ new → own_place from old to new ≡ true
    is_own same name =
        ap₂ (λ (h : Handle) (n : List ℕ). same_handle from h && same_name old n) (sym same) (sym name)
        ∙ (rw (same_self from, same_name-self old) refl)

    moved_apart : moved ≢ there
    moved_apart same =
        let one : from ≡ to = tree.one_name.one from to there (record { name = old; to = moved }, has, same)
        (record { name = new; to = there }, had, refl) in
        let b : BoundName = record { name = old; to = moved } in
        let c : BoundName = record { name = new; to = there } in
        let names : b ≡ c =
        one_of_handle (names_under nodes to) b c (tree.one_name.apart to) (subst (λ h. HasName nodes h b) one has) had same in
        let z : true ≡ false = sym (is_own one (ap (λ (n : BoundName). n.name) names)) ∙ own in cc

    names_apart : from ≡ to → same_name new old ≡ false
    names_apart same = go (same_name new old) refl where
      go : (s : Bool) → same_name new old ≡ s → s ≡ false
      go true is = let z : true ≡ false = sym (is_own same (sym (same_name-equal new old is))) ∙ own in cc
      go false is = refl

    freed_kind : (handle : Handle) → handle ≢ there → kind_of (freed handle) ≡ kind_of (nodes handle)
    freed_kind handle other =
        ap kind_of (changed_elsewhere there goes (changed_at to (with_names (without new)) nodes) handle other)
        ∙ names_kinds nodes to (without new) handle

    freed_names : (handle : Handle) → handle ≢ there → names_under freed handle ≡ names_under
        (changed_at to (with_names (without new)) nodes) handle
    freed_names handle other = ap names_of_node (changed_elsewhere there goes (changed_at to (with_names (without new)) nodes) handle other)

    still_has : (from ≡ to) ⊎ (from ≢ to) → HasName freed from (record { name = old; to = moved })
    still_has (inl same) =
        subst (λ l. Contains l (record { name = old; to = moved }))
        (sym (freed_names from from_apart ∙ ap (names_under (changed_at to (with_names (without new)) nodes)) same
        ∙ names_here nodes to (without new) to_is))
        (filter_contains (λ (b : BoundName). not (same_name new b.name)) (names_under nodes to) (record { name = old; to = moved })
        (subst (λ h. HasName nodes h (record { name = old; to = moved })) same has) (ap not (names_apart same)))
    still_has (inr other) =
        subst (λ l. Contains l (record { name = old; to = moved }))
        (sym (freed_names from from_apart ∙ names_elsewhere nodes to (without new) from other)) has

    can_move : CanMove freed
    can_move = record {
      has = still_has (same_or from to);
      directory = ap is_directory (freed_kind to to_apart) ∙ to_is;
      free = ap (bound_to new) (freed_names to to_apart ∙ names_here nodes to (without new) to_is) ∙ left_none new (names_under nodes to);
      crosses = ap (λ kind. is_directory kind && not (same_handle from to)) (freed_kind moved moved_apart) ∙ crosses;
    }

    pub replaces : AreTree (changed_at to arrives (changed_at from leaves freed))
    replaces =
        moves freed (stays_left nodes tree to (record { name = new; to = there }) had (no_names nodes tree.one_name there file)) can_move

    abbrev emptied : Handle → Option NodeCopy
    emptied = changed_at there goes nodes

    first_goes : freed ≡ changed_at to (with_names (without new)) emptied
    first_goes = swapped there to goes (with_names (without new)) nodes (λ same. to_apart (sym same))

    twice : (names : List BoundName) → with_last new moved (without new names) ≡ with_last new moved names
    twice names = ap (λ l. l ++ record { name = new; to = moved } ∷ []) (filter_twice (λ (b : BoundName). not (same_name new b.name)) names)

    thrice : (names : List BoundName) → with_last new moved (without old (without new names)) ≡ with_last new moved (without old names)
    thrice names =
        ap (λ l. l ++ record { name = new; to = moved } ∷ [])
        (filter_more (λ (b : BoundName). not (same_name new b.name)) (λ (b : BoundName). not (same_name old b.name)) names)

    -- within one directory
    pub same_replaced : to ≡ from
        → changed_at to arrives (changed_at from leaves freed) ≡ changed_by
        (move_effect true from old to new moved (replaced_effect (Some there))) nodes
    same_replaced same =
        ap (λ n. changed_at to arrives (changed_at from leaves n)) first_goes
        ∙ ap (λ h. changed_at h arrives (changed_at from leaves (changed_at h (with_names (without new)) emptied))) same
        ∙ ap (changed_at from arrives) (joined from (without old) (without new) emptied)
        ∙ joined from (with_last new moved) (λ names. without old (without new names)) emptied
        ∙ same_names from (λ names. with_last new moved (without old (without new names)))
        (λ names. with_last new moved (without old names)) emptied thrice
        ∙ sym (first_change from (with_names (λ names. with_last new moved (without old names))) (change there goes ∷ []) nodes
        (changed_elsewhere there goes nodes from from_apart))

    -- and from one to another
    pub other_replaced : to ≢ from
        → changed_at to arrives (changed_at from leaves freed) ≡ changed_by
        (move_effect false from old to new moved (replaced_effect (Some there))) nodes
    other_replaced other =
        ap (λ n. changed_at to arrives (changed_at from leaves n)) first_goes
        ∙ ap (changed_at to arrives) (swapped from to leaves (with_names (without new)) emptied (λ same. other (sym same)))
        ∙ joined to (with_last new moved) (without new) (changed_at from leaves emptied)
        ∙ same_names to (λ names. with_last new moved (without new names)) (with_last new moved) (changed_at from leaves emptied) twice
        ∙ swapped to from arrives leaves emptied other
        ∙ ap (changed_at from leaves) (sym (first_change to arrives (change there goes ∷ []) nodes
        (changed_elsewhere there goes nodes to to_apart)))
        ∙ sym (first_change from leaves (change to arrives ∷ change there goes ∷ []) nodes from_unchanged)
      where
        from_unchanged : changed_by (change to arrives ∷ change there goes ∷ []) nodes from ≡ nodes from
        from_unchanged =
            ap (λ n. n from) (first_change to arrives (change there goes ∷ []) nodes (changed_elsewhere there goes nodes to to_apart))
            ∙ changed_elsewhere to arrives emptied from (λ same. other (sym same)) ∙ changed_elsewhere there goes nodes from from_apart
