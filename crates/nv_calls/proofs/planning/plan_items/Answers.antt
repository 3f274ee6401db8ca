use Rattle.std.proofs.Common.{ℕ, false, length, replicate, sym}
use Rattle.std.proofs.lemmas.List.{length-replicate}
use Rattle.nv_entry.specs.Sound.{blocks_of}
use Rattle.nv_calls.proofs.Looking.{may_leave, may_look}
use Rattle.nv_calls.proofs.Passed.{names_passed}
use Rattle.nv_calls.proofs.Within.{new_lawful, size_within, write_within}
use Rattle.nv_calls.proofs.planning.plan_items.Goals as goal

pub plan-requires-in-Write-clause-fits : goal.plan-requires-in-Write-clause-fits
plan-requires-in-Write-clause-fits g c any =
    let passed = rw c.in-Write.is at c.requires.passed in
    let wanted = rw c.in-Write.is at c.requires.wanted in
    let some = rw (sym (length-replicate {A = ℕ} c.in-Write.count 0)) at any in
    write_within c.args.block (g.N.Nodes.nodes_of c.args.nodes.now) c.requires.some_bytes c.in-Write.file
    c.in-Write.offset (replicate c.in-Write.count 0) false (length (blocks_of c.args.taken.now.runs)) passed wanted some

pub plan-requires-in-Size-clause-fits : goal.plan-requires-in-Size-clause-fits
plan-requires-in-Size-clause-fits g c =
    let passed = rw c.in-Size.is at c.requires.passed in
    let wanted = rw c.in-Size.is at c.requires.wanted in
    size_within c.args.block (g.N.Nodes.nodes_of c.args.nodes.now) c.requires.some_bytes c.in-Size.file
    c.in-Size.size _ (length (blocks_of c.args.taken.now.runs)) passed wanted

pub plan-requires-in-Rename-clause-new_lawful : goal.plan-requires-in-Rename-clause-new_lawful
plan-requires-in-Rename-clause-new_lawful g c =
    let passed = rw c.in-Rename.is at c.requires.passed in
    rw c.as_slice-in-Rename-4.ensures (new_lawful c.args.block (g.N.Nodes.nodes_of c.args.nodes.now) c.requires.some_bytes c.in-Rename.from
    c.in-Rename.old c.in-Rename.to c.in-Rename.new passed)

-- ---- the tests of its looks

pub bound-to-requires : goal.bound-to-requires
bound-to-requires g c =
    rw c.as_slice-in-Unlink.ensures (may_leave (g.N.Nodes.nodes_of c.args.nodes.now) c.args.block c.args.call.now c.in-Unlink.dir
    c.in-Unlink.name c.in-Unlink.is c.requires.passed)

pub bound-first-requires : goal.bound-first-requires
bound-first-requires g c =
    let nodes = g.N.Nodes.nodes_of c.args.nodes.now in
    let passed = rw c.in-Rename.is at c.requires.passed in
    let names = names_passed c.args.block nodes c.in-Rename.from c.in-Rename.old c.in-Rename.to c.in-Rename.new passed in
    rw c.as_slice-in-Rename.ensures (may_look nodes c.in-Rename.from c.in-Rename.old names.0 names.2)

pub bound-second-requires : goal.bound-second-requires
bound-second-requires g c =
    let nodes = g.N.Nodes.nodes_of c.args.nodes.now in
    let passed = rw c.in-Rename.is at c.requires.passed in
    let names = names_passed c.args.block nodes c.in-Rename.from c.in-Rename.old c.in-Rename.to c.in-Rename.new passed in
    rw c.as_slice-in-Rename-2.ensures (may_look nodes c.in-Rename.to c.in-Rename.new names.1 names.3)
