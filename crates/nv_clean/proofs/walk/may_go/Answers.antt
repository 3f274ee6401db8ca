use Rattle.std.proofs.Common.{◌≡◌, ◌∙◌, ◌+◌, ◌&&◌, ℕ, ap, false, length, nat_lt, not, slice_get, slice_index_or, sym}
use Rattle.nv_cell.specs.Cell.{log_of}
use Rattle.nv_cell.specs.Readers.{there_flags}
use Rattle.nv_clean.specs.Cover.{is_hidden}
use Rattle.nv_clean.proofs.Walking.{log_len, read_at, tested}
use Rattle.nv_entry.specs.declared.item.Entry.{Entry}
use Rattle.nv_log.specs.Chain.{ChainState}
use Rattle.nv_clean.proofs.walk.may_go.Goals as goal

pub returns : goal.returns
returns c = λ before e covers is.
    let cell = c.args.cell.now.state in
    let log = log_of cell in
    let i = c.args.place in
    let flag = slice_index_or (there_flags cell) i false in
    let read : c.entry_at-entry.result.now ≡ e =
    read_at cell i c.entry_at-entry.result.now e c.requires
    (ap (λ (chain : ChainState). slice_get chain.entries i) (sym c.log.ensures.state) ∙ c.entry_at-entry.ensures) is in
    c.is_free.ensures
    ∙ ap (λ (n : ℕ). nat_lt (i + 1) n && not flag && not (is_hidden cell.block c.entry_at-entry.result.now.item c.args.cover.now))
    (sym (log_len cell c.holds_together.ensures))
    ∙ ap (λ (x : Entry). nat_lt (i + 1) (length log) && not flag && not (is_hidden cell.block x.item c.args.cover.now)) read
    ∙ tested cell.block before log i e flag c.args.cover.now covers
