use Rattle.std.proofs.Common.{◌≡◌, ℕ, ◌≤◌, ◌/◌, ◌%◌, List, drop, Some, arith, ap, sym, refl, ◌∙◌, subst}
use Rattle.std.specs.Prelude.{All}
use Rattle.std.specs.Option.{option_copied}
use Rattle.nv_base.specs.declared.limits.TheConstants.{FILE_PAGES}
use Rattle.nv_cell.specs.Pages.{block_at_page}
use Rattle.nv_audit.specs.Sound.{own_size}
use Rattle.nv_audit.proofs.SizeEnds.{by_bytes, past_all, whole, without_last}
use Rattle.nv_audit.proofs.sound.are_zeros_past.Goals as goal

pub returns-then-last-from : goal.returns-then-last-from
returns-then-last-from c =
    let cell = c.args.cell.now.state in
    let same : c.size-size.result / c.block_bytes-block.result ≡ own_size cell / cell.block =
    rw (c.size-size.ensures, c.block_bytes-block.ensures.value) refl in (
      λ t. past_all cell (whole cell c.holds_together.ensures) c.requires
          (subst (λ (n : ℕ). FILE_PAGES ≤ n) same (omega (arith, c.if-last-from.true, c.from.ensures))),
      λ all. refl,
    )

pub returns-in-Some : goal.returns-in-Some
returns-in-Some c =
    let cell = c.args.cell.now.state in
    let b = c.in-Some.page.now in
    let same : c.size-size.result / c.block_bytes-block.result ≡ own_size cell / cell.block =
    rw (c.size-size.ensures, c.block_bytes-block.ensures.value) refl in
    let there : block_at_page cell (own_size cell / cell.block) ≡ Some b =
    sym (c.page_now.ensures.block ∙ ap (block_at_page cell) same) ∙ ap option_copied c.in-Some.is in
    let bytes : drop (c.size-size.result % c.block_bytes-block.result) c.bytes.result.now ≡ drop (own_size cell % cell.block) b.bytes =
    rw (c.size-size.ensures, c.block_bytes-block.ensures.value, c.bytes.ensures) refl in
    let zeros = λ (xs : List ℕ). All (λ (byte : ℕ). byte ≡ 0) xs in
    let by = by_bytes cell (whole cell c.holds_together.ensures) c.requires b there in (
      λ t. by.0 (subst zeros bytes (c.are_zeros_from.ensures.0 t)),
      λ past. c.are_zeros_from.ensures.1 (subst zeros (sym bytes) (by.1 past)),
    )

pub returns-in-None : goal.returns-in-None
returns-in-None c =
    let cell = c.args.cell.now.state in
    let same : c.size-size.result / c.block_bytes-block.result ≡ own_size cell / cell.block =
    rw (c.size-size.ensures, c.block_bytes-block.ensures.value) refl in (
      λ t. without_last cell (whole cell c.holds_together.ensures) c.requires
          (sym (c.page_now.ensures.block ∙ ap (block_at_page cell) same) ∙ ap option_copied c.in-None.is),
      λ all. refl,
    )
