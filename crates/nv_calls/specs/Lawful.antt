-- Plans whose items a log can take, one after another.
use Rattle.std.specs.Prelude.{ℕ, ◌≤◌, List, length, Option}
use Rattle.std.specs.List.{AllByRecursion}
use Rattle.nv_base.specs.declared.limits.TheConstants.{WRITE_PAGES}
use Rattle.nv_base.specs.declared.numbers.Handle.{Handle}
use Rattle.nv_entry.specs.declared.node.NodeCopy.{NodeCopy}
use Rattle.nv_entry.specs.Shape.{AreLawful}
use Rattle.nv_cell.specs.Effects.{BindOne}
use Rattle.nv_calls.specs.declared.plan.InodePlan.{InodePlan}
use Rattle.nv_calls.specs.Refusals.{kind_of}

-- the log of an inode can take the items of its plan
pub record IsLawfulFor (block : ℕ) (nodes : Handle → Option NodeCopy) (p : InodePlan) : Type 0 where
  -- each item is lawful for the kind that the node and the items before it give
  pub lawful : AreLawful block p.items (kind_of (nodes p.handle))
  -- the items bind at most one name, which none of them takes out before
  pub one : BindOne p.items
  -- there are at most as many items as a write can have pages
  pub few : length p.items ≤ WRITE_PAGES

-- the log of each inode can take the items that a plan has for it
abbrev pub IsLawfulPlan : ℕ → (Handle → Option NodeCopy) → List InodePlan → Type 0
IsLawfulPlan block nodes plan = AllByRecursion (IsLawfulFor block nodes) plan
