-- Where nothing runs, the trees of the world with numbers are those of the settled logs: now, and
-- of each living snapshot.
use Rattle.std.proofs.Common.{◌≡◌, ℕ, ◌==◌, ◌∙◌, Bool, true, false, cond, List, [], ◌∷◌, Option, Some, None, ap, arith, filter, inl, inr, length, map, refl, subst, sym}
use Rattle.std.specs.Prelude.{◌⊎◌}
use Rattle.std.specs.List.{Contains}
use Rattle.std.specs.Option.{option_map}
use Rattle.std.proofs.lemmas.Bool.{eqb-false, eqb-true}
use Rattle.std.proofs.lemmas.List.{length-map}
use Rattle.nv_base.specs.declared.geometry.GeometryNumbers.{GeometryNumbers}
use Rattle.nv_book.specs.declared.record.Record.{Record}
use Rattle.nv_entry.specs.Tree.{root, tree_from}
use Rattle.nv_entry.specs.declared.tree.TreeNode.{TreeNode}
use Rattle.nv_epoch.specs.SnapList.{ids, numbers}
use Rattle.nv_epoch.specs.declared.snapshot.Snapshot.{Snapshot}
use Rattle.nv_epoch.proofs.Last.{contains_cases, contains_first, contains_later}
use Rattle.nv_machine.specs.PlainRun.{copy_in, is_of}
use Rattle.nv_machine.specs.Settled.{settled_copies, snapshot_tree, tree_of}
use Rattle.nv_machine.specs.World.{World}
use Rattle.nv_serial.specs.Reports.{first_of, snapshot_tree_told, tree_told}
use Rattle.nv_serial.specs.Serial.{Serial, copies_now}
use Rattle.nv_serial.specs.Shown.{slot_told}
use Rattle.nv_serial.specs.Snapshots.{tree_in}
use Rattle.nv_serial.proofs.AtRestLogs.{told_by}

module _ (g : GeometryNumbers) (w : World) (rs : List Record) where
  abbrev s : Serial
  s = told_by g w rs

  pub tree_reported : tree_of w ≡ tree_told s
  tree_reported = ap (λ (n : ℕ). tree_from (copies_now s) n [] root)
      (sym (length-map w.shared.cells slot_told))

  abbrev told : ℕ → List Snapshot → Option (List TreeNode)
  told n snapshots = option_map (tree_in s)
      (first_of (filter (is_of n) (map (copy_in w.shared) snapshots)))

  found : (n : ℕ) (snapshots : List Snapshot) → Contains (numbers snapshots) n → told n snapshots
      ≡ Some (snapshot_tree w n)
  found n [] there = absurd (let lt = there.1 in omega (arith, lt))
  found n (t ∷ snapshots) there =
      go (t.number == n) refl (contains_cases t.number (numbers snapshots) n there)
      (found n snapshots) where
        go : (b : Bool) → (t.number == n) ≡ b → (n ≡ t.number) ⊎ Contains (numbers snapshots) n
            → (Contains (numbers snapshots) n → told n snapshots ≡ Some (snapshot_tree w n))
            → option_map (tree_in s)
            (first_of (cond b (copy_in w.shared t ∷ filter (is_of n)
            (map (copy_in w.shared) snapshots))
            (filter (is_of n) (map (copy_in w.shared) snapshots)))) ≡ Some (snapshot_tree w n)
        go true is there more =
            ap (λ (m : ℕ). Some (tree_from (settled_copies w.shared m) (length s.slots) [] root))
            (eqb-true t.number n is)
            ∙ ap (λ (many : ℕ). Some (tree_from (settled_copies w.shared n) many [] root))
            (length-map w.shared.cells slot_told)
        go false is (inl same) more = absurd (eqb-false t.number n is (sym same))
        go false is (inr later) more = more later

  none_found : (n : ℕ) (snapshots : List Snapshot) → (Contains (numbers snapshots) n → ⊥)
      → told n snapshots ≡ None
  none_found n [] none = refl
  none_found n (t ∷ snapshots) none =
      go (t.number == n) refl
      (none_found n snapshots (λ there. none (contains_later t.number (numbers snapshots) n
      there))) where
        go : (b : Bool) → (t.number == n) ≡ b → told n snapshots ≡ None
            → option_map (tree_in s)
            (first_of (cond b (copy_in w.shared t ∷ filter (is_of n)
            (map (copy_in w.shared) snapshots))
            (filter (is_of n) (map (copy_in w.shared) snapshots)))) ≡ None
        go true is more =
            absurd (none (subst (λ (m : ℕ). Contains (numbers (t ∷ snapshots)) m)
            (eqb-true t.number n is)
            (contains_first t.number (numbers snapshots))))
        go false is more = more

  -- A LIVING SNAPSHOT has its tree, and no other number has one
  pub snapshot_tree_reported : (n : ℕ) → Contains (ids w.shared.book.snaps) n
      → snapshot_tree_told s n ≡ Some (snapshot_tree w n)
  snapshot_tree_reported n lives = found n w.shared.book.snaps.living lives

  pub no_tree_reported : (n : ℕ) → (Contains (ids w.shared.book.snaps) n → ⊥)
      → snapshot_tree_told s n ≡ None
  no_tree_reported n none = none_found n w.shared.book.snaps.living none
