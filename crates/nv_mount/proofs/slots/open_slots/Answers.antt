use Rattle.std.proofs.Common.{◌≡◌, ◌++◌, ◌∷◌, [], List, length, length-append, get_or, ap, arith, subst, sym, ◌∙◌}
use Rattle.std.specs.Prelude.{All}
use Rattle.std.proofs.lemmas.List.{get_or_append_left}
use Rattle.std.proofs.lemmas.List.Elements.{All-push}
use Rattle.nv_audit.specs.Image.{SlotImageValue}
use Rattle.nv_cell.specs.declared.bare.BareCell.{BareCell}
use Rattle.nv_log.specs.Chain.{ChainState}
use Rattle.nv_mount.specs.Slots.{CanOpen}
use Rattle.nv_mount.proofs.OpenedSlots.{opens}
use Rattle.nv_mount.proofs.slots.open_slots.Goals as goal

pub loop-slot-preserved : goal.loop-slot-preserved
loop-slot-preserved c =
    let inv = c.loop-slot.invariant in
    let slots = c.loop-slot.slots.items in
    let front = c.pop.new.self.items in
    let bare = c.loop-slot.bare.items in
    let new = c.push_reserved.new.self.items in
    let slot = c.in-Some.slot in
    let cell = c.in-Ok.cell in
    let is : slots ≡ front ++ slot ∷ [] = c.in-Some.ensures.items in
    let put : new ≡ bare ++ cell ∷ [] = c.push_reserved.ensures.items in
    let many = ap (λ (ss : List SlotImageValue). length ss) is ∙ length-append front (slot ∷ []) in
    let more = ap (λ (bs : List BareCell). length bs) put ∙ length-append bare (cell ∷ []) in
    record {
      can = λ k d lt.
          subst (CanOpen c.args.page)
          (ap (λ (ss : List SlotImageValue). get_or ss k d) is ∙ get_or_append_left front (slot ∷ []) d k lt)
          (inv.can k d (omega (arith, lt, many)));
      told = opens slots front slot bare new cell c.args.slots.now.items is c.in-Ok.ensures.ok.same put inv.told;
      pages = subst (λ (bs : List BareCell). All (λ (b : BareCell). b.chain.state.page ≡ c.args.page) bs) (sym put)
          (All-push (λ (b : BareCell). b.chain.state.page ≡ c.args.page) bare cell inv.pages
          (ap (λ (s : ChainState). s.page) c.in-Ok.ensures.ok.page_is));
      capacity = c.pop.ensures.capacity ∙ inv.capacity;
      fits = omega (arith, c.pop.ensures.capacity, inv.fits);
      room = omega (arith, c.push_reserved.ensures.capacity, inv.room);
      count = omega (arith, many, more, inv.count);
    }
