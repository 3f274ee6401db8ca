use Rattle.std.proofs.Common.{◌≡◌, ◌+◌, ℕ, length, ap, arith, subst, ◌∙◌}
use Rattle.std.specs.Prelude.{slice_index_or}
use Rattle.nv_audit.proofs.MountedLogs.{tails_many}
use Rattle.nv_audit.specs.Records.{states_of}
use Rattle.nv_base.specs.declared.geometry.GeometryNumbers.{GeometryNumbers}
use Rattle.nv_mount.specs.Plan.{IsSlotPlan}
use Rattle.nv_mount.specs.View.{ViewValue}
use Rattle.nv_mount.proofs.plan.Plan.new.Goals as goal

pub make_room-requires : goal.make_room-requires
make_room-requires c =
    let tails = c.in_ok-tails.ensures c.requires.0 c.requires.1 c.requires.2 in
    omega (arith, ap length c.deref-7.ensures.value, tails_many c.requires.0 c.in_ok-tails.tails.items tails, c.requires.2.count)

pub returns-in-Ok-clause-ok : goal.returns-in-Ok-clause-ok
returns-in-Ok-clause-ok c image faultless seen =
    let view = c.args.view.now in
    let tails = c.in_ok-tails.ensures image faultless seen in
    let ended = c.in_ok-ended.ensures.ok image faultless seen (c.deref.ensures.value ∙ tails) in
    let slots = c.in_ok-slots.ensures.ok image faultless seen (c.deref-5.ensures.value ∙ tails) (c.deref-6.ensures.value ∙ ended) in
    record {
      geometry = ap (λ (v : ViewValue). v.numbers) c.view.view_is ∙ seen.numbers;
      count = omega (arith, slots.0);
      slots = λ n d lt.
          let zeroth : n ≡ 0 + n = omega arith in
          subst (λ (m : ℕ). IsSlotPlan image view m (slice_index_or c.in_ok-slots.slots.items n d)) zeroth (slots.1 n d lt);
      cells = ap states_of c.in-Ok.ensures.no_cells;
      room = omega (arith, c.in-Ok.ensures.cells, seen.count);
      size = c.in-Ok.ensures.size ∙ ap (λ (g : GeometryNumbers). g.block) seen.numbers;
      none = c.in-Ok.ensures.no_pages;
      pages = c.in-Ok.ensures.pages image seen (c.deref-7.ensures.value ∙ tails);
      pool = c.in_ok-pool.ensures.ok image faultless seen (c.deref-2.ensures.value ∙ tails) (c.deref-3.ensures.value ∙ ended);
      book = c.in_ok-book.ensures.ok image faultless seen (c.deref-4.ensures.value ∙ tails);
    }
