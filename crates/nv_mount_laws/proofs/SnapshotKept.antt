-- What a mount keeps of the nodes of a tree, by look-ups along their paths.
use Rattle.std.proofs.Common.{◌≡◌, ◌∙◌, ap, inl, inr, refl, subst, sym, ℕ, zero, suc, List, [], ◌∷◌, drop, Option, Some, Result, Ok, Err}
use Rattle.std.specs.List.{AllByRecursion}
use Rattle.nv_base.specs.declared.numbers.Handle.{Handle}
use Rattle.nv_calls.specs.declared.call.Call.TheVariants as calls
use Rattle.nv_entry.specs.Tree.{root}
use Rattle.nv_entry.specs.declared.node.NodeCopy.{NodeCopy}
use Rattle.nv_entry.specs.declared.tree.TreeNode.{TreeNode}
use Rattle.nv_mount_answers.specs.declared.kept.Kept.{Kept}
use Rattle.nv_mount_beside.specs.Beside.{AllBeside, beside_at}
use Rattle.nv_mount_beside.specs.declared.refusal.Refusal.{Refusal}
use Rattle.nv_mounted.specs.Asks.{ask_handle}
use Rattle.nv_mounted.specs.Dialogues.{Ends, Grows, IsHad, ask_each, ◌>>=◌}
use Rattle.nv_mounted.specs.KeptTrees.{ask_kept, ask_path}
use Rattle.nv_mounted.specs.Snapshots.{FoundNode, first_of}
use Rattle.nv_serial.specs.Serial.{Serial, copies_now}
use Rattle.nv_mount_laws.specs.Snapshots.{PathLeads}
use Rattle.nv_mount_laws.specs.World.{Calls}
use Rattle.nv_mount_laws.proofs.Asked.{looked_up}
use Rattle.nv_mount_laws.proofs.Dialogues.{GoesOn, went_on}
use Rattle.nv_mount_laws.proofs.SnapshotPaths.{IsUnderPath, one_end}

no_value : {A P : Type 0} {a : A} {why : Refusal} → Ok a ≡ Err why → P
no_value e = cc

one_value : {A : Type 0} {a b : A} → (let r : Result A Refusal = Ok a in r) ≡ Ok b → a ≡ b
one_value e = cc

-- a look-up leads to the next node, and then the others lead on
led_on : (name : List ℕ) (names : List (List ℕ)) (dir handle : Handle) (s t : Serial)
    → ((from : Handle) (u : Serial) → IsHad Calls (ask_path from names) u (Ok handle) t
    → PathLeads (copies_now u) from names handle × (t ≡ u))
    → GoesOn Calls (λ next. ask_path next names) (Grows (ask_handle (calls.Lookup dir name))) s
    (Ok handle) t
    → PathLeads (copies_now s) dir (name ∷ names) handle × (t ≡ s)
led_on name names dir handle s t later a = go a.first where
  go : IsHad Calls (Grows (ask_handle (calls.Lookup dir name))) s (Ok a.value) a.between
      → PathLeads (copies_now s) dir (name ∷ names) handle × (t ≡ s)
  go (inl none) = no_value none.0
  go (inr asked) =
      let found = looked_up s a.between dir name a.value asked in
      let then = later a.value a.between a.then in (
        (
          a.value,
          found.0,
          subst (λ (u : Serial). PathLeads (copies_now u) a.value names handle) found.1 then.0,
        ),
        then.1 ∙ found.1,
      )

-- look-ups lead along a path, and change nothing
path_led : (names : List (List ℕ)) (dir handle : Handle) (s t : Serial)
    → IsHad Calls (ask_path dir names) s (Ok handle) t
    → PathLeads (copies_now s) dir names handle × (t ≡ s)
path_led [] dir handle s t had = (sym (one_value had.0), had.1)
path_led (name ∷ names) dir handle s t had =
    led_on name names dir handle s t (λ from u then. path_led names from handle u t then)
    (went_on Calls (λ next. ask_path next names) (Grows (ask_handle (calls.Lookup dir name))) s t
    handle had)

-- what was kept of a node is what stands beside the one to which its path leads
abbrev pub IsKeptOf : (Handle → Option NodeCopy) → AllBeside → TreeNode → Kept → Type 0
IsKeptOf nodes beside node kept =
    (handle : Handle) → PathLeads nodes root node.path handle → (nodes handle ≡ Some node.node)
    × (kept ≡ (beside_at beside handle).kept)

-- each node of a list with what was kept of it
abbrev pub EachWith : {X Y : Type 0} → (X → Y → Type 0) → List X → List Y → Type 0
EachWith R [] [] = Unit {0}
EachWith R (x ∷ xs) (y ∷ ys) = R x y × EachWith R xs ys
EachWith R xs ys = ⊥

module _ (beside : AllBeside) (s : Serial) where
  one_kept : (node : TreeNode) (kept : Kept) (t : Serial) → IsUnderPath (copies_now s) node
      → IsHad Calls (ask_kept beside node) s (Ok kept) t
      → IsKeptOf (copies_now s) beside node kept × (t ≡ s)
  one_kept node kept t under had = go a.first where
    a : GoesOn Calls (λ handle. Ends (Ok (beside_at beside handle).kept))
        (Grows (ask_path root node.path)) s (Ok kept) t
    a = went_on Calls (λ handle. Ends (Ok (beside_at beside handle).kept))
        (Grows (ask_path root node.path)) s t kept had

    go : IsHad Calls (Grows (ask_path root node.path)) s (Ok a.value) a.between
        → IsKeptOf (copies_now s) beside node kept × (t ≡ s)
    go (inl none) = no_value none.0
    go (inr asked) =
        let led = path_led node.path root a.value s a.between asked in (
          λ handle leads. (
            under handle leads,
            one_value a.then.0
                ∙ ap (λ (h : Handle). (beside_at beside h).kept)
                (one_end (copies_now s) node.path root a.value handle led.0 leads),
          ),
          a.then.1 ∙ led.1,
        )

-- EACH NODE of a tree is kept so
pub all_kept : (beside : AllBeside) (tree : List TreeNode) (kept : List Kept) (s t : Serial)
    → AllByRecursion (IsUnderPath (copies_now s)) tree
    → IsHad Calls (ask_each (ask_kept beside) tree) s (Ok kept) t
    → EachWith (IsKeptOf (copies_now s) beside) tree kept × (t ≡ s)
all_kept beside [] kept s t under had =
    (subst (EachWith (IsKeptOf (copies_now s) beside) []) (sym (one_value had.0)) tt, had.1)
all_kept beside (node ∷ nodes) kept s t under had =
    let a = went_on Calls (λ one. ask_each (ask_kept beside) nodes >>= λ rest. Ends (Ok (one ∷ rest)))
    (ask_kept beside node) s t kept had in
    let first = one_kept beside s node a.value a.between under.0 a.first in
    let b = went_on Calls (λ rest. Ends (Ok (a.value ∷ rest))) (ask_each (ask_kept beside) nodes)
    a.between t kept a.then in
    let here = subst (λ (u : Serial). IsHad Calls (ask_each (ask_kept beside) nodes) u (Ok b.value)
    b.between) first.1 b.first in
    let rest = all_kept beside nodes b.value s b.between under.1 here in (
      subst (EachWith (IsKeptOf (copies_now s) beside) (node ∷ nodes)) (sym (one_value b.then.0))
          (first.0, rest.0),
      b.then.1 ∙ rest.1,
    )

-- what is found at a place is one of them
pub found_with : (R : TreeNode → Kept → Type 0) (snapshot at place : ℕ) (tree : List TreeNode)
    (kept : List Kept) (found : FoundNode) → EachWith R tree kept
    → first_of snapshot at (drop place tree) (drop place kept) ≡ Ok found
    → R found.node found.kept
found_with R snapshot at zero (node ∷ nodes) (one ∷ rest) found each is =
    subst (λ (f : FoundNode). R f.node f.kept) (one_value is) each.0
found_with R snapshot at (suc place) (node ∷ nodes) (one ∷ rest) found each is =
    found_with R snapshot at place nodes rest found each.1 is
found_with R snapshot at zero [] [] found each is = no_value (sym is)
found_with R snapshot at (suc place) [] [] found each is = no_value (sym is)
found_with R snapshot at place [] (one ∷ rest) found each is = absurd each
found_with R snapshot at place (node ∷ nodes) [] found each is = absurd each
