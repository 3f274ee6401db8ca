use Rattle.std.proofs.Common.{ℕ, List, ap₂, sym, ◌∙◌}
use Rattle.nv_entry.specs.declared.item.Entry.{Entry}
use Rattle.nv_audit.specs.Retained.{needed_by}
use Rattle.nv_audit.proofs.Runs.{kept_are, needed_of}
use Rattle.nv_audit.proofs.faults.runs.needed_blocks.Goals as goal

pub push_kept-requires : goal.push_kept-requires
push_kept-requires c =
    let living = c.args.snapshots.now in
    c.deref-2.ensures.value
    ∙ kept_are living c.block_bytes.result c.log.result.now c.in_ok-parts.parts.items
    (c.in_ok-parts.ensures ∙ sym (ap₂ (λ (b : ℕ) (es : List Entry). needed_by living b es) c.block_bytes.ensures.value c.log.ensures.value))

pub returns-clause-ok : goal.returns-clause-ok
returns-clause-ok c =
    let living = c.args.snapshots.now in
    let generation = c.args.own.now.generation in
    let put = rw c.new-needed.ensures.items at c.in_ok-push_kept.ensures in
    put
    ∙ ap₂ (λ (b : ℕ) (es : List Entry). needed_of living (record { block = b; generation = generation; log = es }))
    c.block_bytes.ensures.value c.log.ensures.value
