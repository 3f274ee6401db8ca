-- Tests at which a call is refused, one after another, and what they read of a node.
use Rattle.std.specs.Prelude.{ℕ, Bool, true, false, not, List, [], Option, Some, None, option_map, Result, Ok, Err}
use Rattle.nv_base.specs.Names.{is_lawful_name}
use Rattle.nv_base.specs.declared.fault.Fault.{Fault}
use Rattle.nv_base.specs.declared.fault.Fault.TheVariants as fault
use Rattle.nv_base.specs.declared.node.Kind.{Kind}
use Rattle.nv_base.specs.declared.node.Kind.TheVariants.{File, Dir}
use Rattle.nv_base.specs.declared.numbers.Handle.{Handle}
use Rattle.nv_entry.specs.declared.node.NodeCopy.{NodeCopy}
use Rattle.nv_entry.specs.Index.{bound_to}
use Rattle.nv_entry.specs.Tree.{names_of_node}

-- ---- nodes

-- the kind of a node, if there is one
abbrev pub kind_of : Option NodeCopy → Option Kind
kind_of node = option_map (λ (n : NodeCopy). n.kind) node

-- the bytes of a node, none where there is no node
abbrev pub bytes_of : Option NodeCopy → List ℕ
bytes_of None = []
bytes_of (Some node) = node.bytes

-- the kind is a directory's
abbrev pub is_directory : Option Kind → Bool
is_directory (Some Dir) = true
is_directory kind = false

-- what a directory binds a name to
abbrev pub lookup : (Handle → Option NodeCopy) → Handle → List ℕ → Option Handle
lookup nodes dir name = bound_to name (names_of_node (nodes dir))

-- ---- tests

-- what a test says: the call passes, or the fault that refuses it
abbrev pub Check : Type 0
Check = Result (Unit {0}) Fault

-- nothing refuses the call
abbrev pub passes : Check
passes = Ok tt

-- what follows a test that passes
abbrev pub and_then : Check → Check → Check
and_then (Ok nothing) next = next
and_then (Err fault) next = Err fault

-- a check goes on with what was found, or ends by the fault
abbrev pub and_then_of : Result Handle Fault → (Handle → Check) → Check
and_then_of (Ok to) next = next to
and_then_of (Err fault) next = Err fault

-- a check that refuses where a test says so, and else goes on
abbrev pub refuse_if : Bool → Fault → Check → Check
refuse_if true fault next = Err fault
refuse_if false fault next = next

-- a check that is stale where there is no node
abbrev pub want_node : Option Kind → Check → Check
want_node None next = Err fault.Stale
want_node (Some kind) next = next

-- a check that wants a file
abbrev pub want_file : Option Kind → Check → Check
want_file None next = Err fault.Stale
want_file (Some File) next = next
want_file (Some Dir) next = Err fault.NotFile

-- a check that wants a directory
abbrev pub want_directory : Option Kind → Check → Check
want_directory None next = Err fault.Stale
want_directory (Some File) next = Err fault.NotDirectory
want_directory (Some Dir) next = next

-- a check that wants a lawful name
abbrev pub want_lawful : List ℕ → Check → Check
want_lawful name next = refuse_if (not (is_lawful_name name)) fault.BadName next

-- a check that wants a bound name, and goes on with what it leads to
abbrev pub want_bound : Option Handle → (Handle → Check) → Check
want_bound None next = Err fault.Missing
want_bound (Some to) next = next to

-- ---- looks

-- what a passed test lets a look find
abbrev pub and_find : Check → Option Handle → Result (Option Handle) Fault
and_find (Ok nothing) to = Ok to
and_find (Err fault) to = Err fault

-- a look at a name: what it leads to, where there is a directory and the name is lawful
abbrev pub look : (Handle → Option NodeCopy) → Handle → List ℕ → Result (Option Handle) Fault
look nodes dir name = and_find (want_directory (kind_of (nodes dir)) (want_lawful name passes)) (lookup nodes dir name)

-- a look that is refused finds nothing
abbrev pub found_by : Result (Option Handle) Fault → Option Handle
found_by (Ok to) = to
found_by (Err fault) = None

-- what a name of a directory leads to; nothing where its look is refused
abbrev pub found : (Handle → Option NodeCopy) → Handle → List ℕ → Option Handle
found nodes dir name = found_by (look nodes dir name)
