use Rattle.std.proofs.lemmas.Bool.{ne_eqb}
use Rattle.nv_calls.proofs.FillRuns.{size_count, write_count}
use Rattle.nv_calls.proofs.log_pages.entries_of.Goals as goal

pub returns-else-count-eq0-clause-counts : goal.returns-else-count-eq0-clause-counts
returns-else-count-eq0-clause-counts g c = λ block taken made is.
    let call = c.in-Write.is in
    let counts = write_count block (g.N.Nodes.nodes_of c.args.nodes.now) taken c.args.runs is c.in-Write.file c.in-Write.offset
    c.in-Write.count (ne_eqb c.in-Write.count 0 c.if-count-eq0.false) in
    cc

pub returns-in-Size-clause-counts : goal.returns-in-Size-clause-counts
returns-in-Size-clause-counts g c = λ block taken made is.
    let call = c.in-Size.is in
    let counts = size_count block (g.N.Nodes.nodes_of c.args.nodes.now) taken c.args.runs is c.in-Size.file c.in-Size.size in
    cc
