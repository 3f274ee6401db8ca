-- The names of hidden files, and what stands beside nodes.
use Rattle.std.proofs.Common.{◌≡◌, ◌∙◌, ◌<◌, ℕ, Bool, true, false, List, Option, Some, None, Ok, Err, ap, arith, refl, sym}
use Rattle.std.specs.Prelude.{if◌then◌else◌, nat_lt}
use Rattle.std.proofs.lemmas.Bool.{ltb-true}
use Rattle.std.proofs.lemmas.Fmt.{decimal_injective}
use Rattle.nv_base.specs.declared.numbers.Handle.{Handle}
use Rattle.nv_fuse.specs.declared.errno.Errno.TheVariants as errno
use Rattle.nv_mount_answers.specs.Nodes.{handle_of, node_of}
use Rattle.nv_mount_answers.proofs.OneToOne.{one_to_one}
use Rattle.nv_mount_beside.specs.Names.{below_snapshots, hidden_name, node_named, or_refused, refused}
use Rattle.nv_mount_beside.specs.declared.refusal.Refusal.{Refusal}
use Rattle.nv_mounted.specs.Talks.{hidden_if, hidden_name_for}

-- ---- names

no_number : {A P : Type 0} {a : A} {why : Refusal} → Err why ≡ Ok a → P
no_number e = cc

-- a node with a number that is told
pub record Numbered (handle : Handle) (name : List ℕ) : Type 0 where
  pub node : ℕ
  pub is : node_of handle ≡ Some node
  pub below : node < 9223372036854775808
  pub name_is : name ≡ hidden_name node

below_is : (node : Option ℕ) (name : List ℕ) → hidden_if (below_snapshots node) ≡ Ok name
    → (number : ℕ) × (node ≡ Some number) × (number < 9223372036854775808)
    × (name ≡ hidden_name number)
below_is None name e = no_number e
below_is (Some node) name e = go (nat_lt node 9223372036854775808) refl e where
  go : (b : Bool) → nat_lt node 9223372036854775808 ≡ b
      → hidden_if (if b then Ok node else refused errno.InputOutput) ≡ Ok name
      → (number : ℕ) × (Some node ≡ Some number) × (number < 9223372036854775808)
      × (name ≡ hidden_name number)
  go true is h = let same : name ≡ hidden_name node =
      cc in (node, refl, ltb-true node 9223372036854775808 is, same)
  go false is h = no_number h

pub numbered : (handle : Handle) (name : List ℕ) → hidden_name_for handle ≡ Ok name
    → Numbered handle name
numbered handle name is =
    let found = below_is (node_of handle) name is in
    record { node = found.0; is = found.1; below = found.2; name_is = found.3 }

some_is : {A : Type 0} {a b : A} → Some a ≡ Some b → a ≡ b
some_is e = cc

-- two nodes have two names
pub one_hidden : (a b : Handle) (name : List ℕ) → hidden_name_for a ≡ Ok name → hidden_name_for b
    ≡ Ok name → a ≡ b
one_hidden a b name is_a is_b =
    let first = numbered a name is_a in
    let second = numbered b name is_b in
    let same : first.node ≡ second.node =
    decimal_injective first.node second.node (let lt = first.below in omega (arith, lt))
    (let lt = second.below in omega (arith, lt))
    (sym first.name_is ∙ second.name_is) in
    some_is (sym (one_to_one.back a first.node first.is) ∙ ap handle_of same
    ∙ one_to_one.back b second.node second.is)

-- one node has one name
pub same_hidden : (handle : Handle) (one other : List ℕ) → hidden_name_for handle ≡ Ok one
    → hidden_name_for handle ≡ Ok other → one ≡ other
same_hidden handle one other is_one is_other = let e : Ok one ≡ hidden_name_for handle =
    sym is_one in cc

-- the node of a number
pub named_handle : (number : ℕ) (handle : Handle) → node_named number ≡ Ok handle → handle_of number
    ≡ Some handle
named_handle number handle is = go (handle_of number) refl is where
  go : (found : Option Handle) → handle_of number ≡ found → or_refused errno.Stale found ≡ Ok handle
      → handle_of number ≡ Some handle
  go None at e = no_number e
  go (Some there) at e = let same : there ≡ handle = cc in at ∙ ap (λ (h : Handle). Some h) same
