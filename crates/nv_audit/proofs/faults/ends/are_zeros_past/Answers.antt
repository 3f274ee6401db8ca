use Rattle.std.proofs.Common.{◌≡◌, ℕ, ◌≤◌, ◌/◌, ◌%◌, List, drop, length, Some, arith, ap, ap₂, sym, refl, ◌∙◌, subst}
use Rattle.std.specs.Prelude.{All, option_and_then}
use Rattle.std.specs.Option.{option_copied}
use Rattle.nv_base.specs.declared.limits.TheConstants.{FILE_PAGES}
use Rattle.nv_alloc.specs.Block.{block_by}
use Rattle.nv_entry.specs.Node.{block_now, size_now}
use Rattle.nv_audit.proofs.Runs.{found_sized, zeros_far, zeros_found, zeros_none}
use Rattle.nv_audit.proofs.faults.ends.are_zeros_past.Goals as goal

pub returns-then-last-from : goal.returns-then-last-from
returns-then-last-from c snapshots cell made has is within =
    let l = c.args.own.now in
    let same : c.args.size / c.block_bytes-block.result ≡ size_now l.block l.log / l.block =
    ap₂ (λ (m n : ℕ). m / n) c.requires.size c.block_bytes-block.ensures.value in (
      λ t. zeros_far snapshots c.args.blocks.now l cell made is has c.requires.sized within
          (subst (λ (n : ℕ). FILE_PAGES ≤ n) same (omega (arith, c.if-last-from.true, c.from.ensures))),
      λ zeros. refl,
    )

pub are_zeros_from-requires : goal.are_zeros_from-requires
are_zeros_from-requires c =
    let l = c.args.own.now in
    let blocks = c.args.blocks.now in
    let b = c.in-Some.found.now in
    let page = c.args.size / c.block_bytes-block.result in
    let there : option_and_then (block_by blocks) (block_now l.block l.log page) ≡ Some b =
    sym c.block_at.ensures ∙ ap option_copied c.in-Some.is in
    let long : length b.bytes ≡ l.block = found_sized l.block blocks (block_now l.block l.log page) b c.requires.sized there in
    let bytes : length c.bytes.result.now ≡ length b.bytes = ap (λ (bs : List ℕ). length bs) c.bytes.ensures in
    omega (arith, long, bytes, c.block_bytes-block.ensures.value, c.block_bytes-block.ensures.some)

pub returns-in-Some : goal.returns-in-Some
returns-in-Some c snapshots cell made has is within =
    let l = c.args.own.now in
    let blocks = c.args.blocks.now in
    let b = c.in-Some.found.now in
    let same : c.args.size / c.block_bytes-block.result ≡ size_now l.block l.log / l.block =
    ap₂ (λ (m n : ℕ). m / n) c.requires.size c.block_bytes-block.ensures.value in
    let there : option_and_then (block_by blocks) (block_now l.block l.log (size_now l.block l.log / l.block)) ≡ Some b =
    ap (λ (n : ℕ). option_and_then (block_by blocks) (block_now l.block l.log n)) (sym same)
    ∙ sym c.block_at.ensures ∙ ap option_copied c.in-Some.is in
    let from : c.args.size % c.block_bytes-block.result ≡ size_now l.block l.log % l.block =
    ap₂ (λ (m n : ℕ). m % n) c.requires.size c.block_bytes-block.ensures.value in
    let bytes : drop (c.args.size % c.block_bytes-block.result) c.bytes.result.now ≡ drop (size_now l.block l.log % l.block) b.bytes =
    ap₂ (λ (n : ℕ) (bs : List ℕ). drop n bs) from c.bytes.ensures in
    let zeros = λ (xs : List ℕ). All (λ (byte : ℕ). byte ≡ 0) xs in
    let by = zeros_found snapshots blocks l cell made is has c.requires.sized within b there in (
      λ t. by.0 (subst zeros bytes (c.are_zeros_from.ensures.0 t)),
      λ past. c.are_zeros_from.ensures.1 (subst zeros (sym bytes) (by.1 past)),
    )

pub returns-in-None : goal.returns-in-None
returns-in-None c snapshots cell made has is within =
    let l = c.args.own.now in
    let blocks = c.args.blocks.now in
    let same : c.args.size / c.block_bytes-block.result ≡ size_now l.block l.log / l.block =
    ap₂ (λ (m n : ℕ). m / n) c.requires.size c.block_bytes-block.ensures.value in (
      λ t. zeros_none snapshots blocks l cell made is has c.requires.sized within
          (ap (λ (n : ℕ). option_and_then (block_by blocks) (block_now l.block l.log n)) (sym same)
          ∙ sym c.block_at.ensures ∙ ap option_copied c.in-None.is),
      λ zeros. refl,
    )
