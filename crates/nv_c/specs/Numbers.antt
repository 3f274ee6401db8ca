-- What the structs of numbers that cross to C say.
use Rattle.std.specs.Prelude.{ℕ, ◌==◌, Bool, if◌then◌else◌, not}
use Rattle.nv_base.specs.declared.geometry.GeometryNumbers.{GeometryNumbers}
use Rattle.nv_base.specs.declared.node.Kind.{Kind}
use Rattle.nv_base.specs.declared.node.Kind.TheVariants.{Dir, File}
use Rattle.nv_base.specs.declared.numbers.Handle.{Handle}
use Rattle.nv_calls.specs.declared.answer.Answer.{Answer}
use Rattle.nv_calls.specs.declared.answer.Answer.TheVariants as answers
use Rattle.nv_core.specs.declared.reports.Space.{Space}
use Rattle.nv_entry.specs.declared.node.NodeCopy.{NodeCopy}
use Rattle.nv_c.specs.declared.numbers.NovaBlocks.{NovaBlocks}
use Rattle.nv_c.specs.declared.numbers.NovaCleaned.{NovaCleaned}
use Rattle.nv_c.specs.declared.numbers.NovaGeometry.{NovaGeometry}
use Rattle.nv_c.specs.declared.numbers.NovaHandle.{NovaHandle}
use Rattle.nv_c.specs.declared.numbers.NovaNode.{NovaNode}

-- the handle that C has
abbrev pub handle_in : NovaHandle → Handle
handle_in h = record { ino = h.ino; generation = h.generation }

-- the numbers of a world that one actor calls
abbrev pub geometry_in : NovaGeometry → GeometryNumbers
geometry_in g = record {
  blocks = g.blocks;
  cpus = g.cpus;
  block = g.block;
  page = g.page;
  inodes = g.inodes;
  snaps = g.snaps;
  actors = 1;
}

-- the number of a kind
abbrev pub kind_number : Kind → ℕ
kind_number File = 1
kind_number Dir = 2

-- the kind of a number: 1 a file, 2 a directory
abbrev pub kind_in : ℕ → Kind
kind_in n = if n == 1 then File else Dir

-- the answer of a `stat` that C is told
abbrev pub stat_in : NovaNode → Answer
stat_in n = answers.Stat (kind_in n.kind) n.mode n.size n.commit

-- what a node of a tree is; it has no commit
abbrev pub node_in_copy : NodeCopy → NovaNode
node_in_copy n = record { kind = kind_number n.kind; mode = n.mode; size = n.size; commit = 0 }

-- where the blocks are
abbrev pub blocks_of : Space → NovaBlocks
blocks_of s = record { free = s.free; chain = s.chain; «data» = s.«data»; pending = s.pending; hand = s.hand }

-- the truth of a number: 1 is true
abbrev pub truth_in : ℕ → Bool
truth_in n = not (n == 0)

-- the answer of a cleaner that C is told
abbrev pub cleaned_in : NovaCleaned → Answer
cleaned_in c = answers.Cleaned (truth_in c.thorough) c.entries c.pages
