use Rattle.std.proofs.Common.{◌≡◌, ℕ, List, [], Some, ap, ap₂, sym, ◌∙◌}
use Rattle.std.specs.Option.{option_map}
use Rattle.nv_cell.specs.Cell.{log_of}
use Rattle.nv_cell.specs.Pages.{own_bytes}
use Rattle.nv_cell.specs.Reading.{stat_now}
use Rattle.nv_entry.specs.declared.names.BoundName.{BoundName}
use Rattle.nv_entry.specs.declared.node.NodeCopy.{NodeCopy}
use Rattle.nv_entry.specs.Bytes.{read_at}
use Rattle.nv_entry.specs.Index.{names_of}
use Rattle.nv_entry.specs.Node.{file_bytes}
use Rattle.nv_reader.specs.Blocks.{shown_bytes}
use Rattle.nv_reader.specs.Cells.{part_bytes}
use Rattle.nv_reader.proofs.CellBytes.{own_shown}
use Rattle.nv_reader.proofs.NodesNow.{node_told, size_told, told, whole_read}
use Rattle.nv_reader.proofs.show.node_by_index.Goals as goal

pub returns-clause-own : goal.returns-clause-own
returns-clause-own c =
    let cell = c.args.cell.now.state in
    let log = log_of cell in
    let stat = c.in-Some.stat in
    let is : stat_now cell.block log ≡ Some stat = sym c.in-Some.ensures in
    let shown = shown_bytes (part_bytes cell) cell.block log in
    let text : c.in_ok-read.field-0 ≡ shown =
    c.in_ok-read.ensures.own
    ∙ ap (λ (n : ℕ). read_at 0 n (own_bytes cell)) (size_told cell.block log stat is)
    ∙ whole_read _ _ ∙ own_shown cell c.holds_together.ensures.chain.rising in
    let names : c.in_ok-list.field-0 ≡ names_of log = c.in_ok-list.ensures.names in
    ap₂ (λ (b : List ℕ) (n : List BoundName). Some (record { kind = stat.kind; mode = stat.mode; size = stat.size; bytes = b; names = n }))
    text names
    ∙ sym (ap (option_map (λ (node : NodeCopy). record node { bytes = shown }))
    (node_told (λ number. []) cell.block log ∙ ap (option_map (λ s. told s (λ number. []) cell.block log)) is))

pub returns-clause-node : goal.returns-clause-node
returns-clause-node c bytes same =
    let cell = c.args.cell.now.state in
    let log = log_of cell in
    let stat = c.in-Some.stat in
    let is : stat_now cell.block log ≡ Some stat = sym c.in-Some.ensures in
    let text : c.in_ok-read.field-0 ≡ file_bytes bytes cell.block log =
    c.in_ok-read.ensures.bytes bytes same
    ∙ ap (λ (n : ℕ). read_at 0 n (file_bytes bytes cell.block log)) (size_told cell.block log stat is)
    ∙ whole_read _ _ in
    let names : c.in_ok-list.field-0 ≡ names_of log = c.in_ok-list.ensures.names in
    ap₂ (λ (b : List ℕ) (n : List BoundName). Some (record { kind = stat.kind; mode = stat.mode; size = stat.size; bytes = b; names = n }))
    text names
    ∙ sym (node_told bytes cell.block log ∙ ap (option_map (λ s. told s bytes cell.block log)) is)
