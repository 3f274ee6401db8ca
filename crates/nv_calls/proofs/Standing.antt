-- Nodes that are there are stored in the logs of their slots.
use Rattle.std.proofs.Common.{◌≡◌, ◌≢◌, ℕ, List, [], Option, Some, None, ap, sym, ◌∙◌, subst}
use Rattle.nv_base.specs.declared.numbers.Handle.{Handle}
use Rattle.nv_entry.specs.declared.item.Entry.{Entry}
use Rattle.nv_entry.specs.declared.node.NodeCopy.{NodeCopy}
use Rattle.nv_entry.specs.Node.{node_now}
use Rattle.nv_entry.specs.Sound.{IsSound, Stands, Tied}
use Rattle.nv_entry.specs.Stored.{stored}
use Rattle.nv_calls.specs.Plain.{node_in}
use Rattle.nv_calls.specs.Slots.{IsFree, InodeSlot, node_under}
use Rattle.nv_calls.proofs.Commits.{handle-same, own_node}
use Rattle.nv_calls.proofs.Passed.{IsThere, own_handle}

module _ (bytes : ℕ → List ℕ) (block : ℕ) (slots : ℕ → InodeSlot) where
  abbrev nodes : Handle → Option NodeCopy
  nodes = node_in (node_under bytes block slots)

  -- the log of a node that is there
  log_gives : (handle : Handle) (there : IsThere (nodes handle)) → node_now bytes block (slots handle.ino).log ≡ Some there.node
  log_gives handle there = sym (own_node bytes block slots handle (own_handle bytes block slots handle there)) ∙ there.is

  pub stands : (handle : Handle) (there : IsThere (nodes handle)) → IsSound bytes block (slots handle.ino).log
      → Stands bytes block (stored block (slots handle.ino).log) there.node
  stands handle there sound = subst (Tied bytes block (stored block (slots handle.ino).log)) (log_gives handle there) sound

  -- one inode has one handle that leads to a node
  pub one_handle : (a b : Handle) → IsThere (nodes a) → IsThere (nodes b) → a.ino ≡ b.ino → a ≡ b
  one_handle a b x y i =
      handle-same a b i
      (own_handle bytes block slots a x ∙ ap (λ (ino : ℕ). (slots ino).generation) i ∙ sym (own_handle bytes block slots b y))

  -- a free slot has none
  pub no_node : (made : Handle) → IsFree slots made → nodes made ≡ None
  no_node made free = own_node bytes block slots made free.own ∙ ap (λ (log : List Entry). node_now bytes block log) free.empty

  -- and its inode is another
  pub free_apart : (made handle : Handle) → IsFree slots made → IsThere (nodes handle) → made.ino ≢ handle.ino
  free_apart made handle free there i =
      let empty : (slots handle.ino).log ≡ [] = sym (ap (λ (ino : ℕ). (slots ino).log) i) ∙ free.empty in
      let none : None ≡ Some there.node = sym (ap (λ (log : List Entry). node_now bytes block log) empty) ∙ log_gives handle there in
      cc
