use Rattle.std.proofs.Common.{◌∙◌, ℕ, List, [], ap, arith, inl, inr, map, subst, sym}
use Rattle.std.proofs.lemmas.List.{length-map}
use Rattle.nv_base.specs.declared.geometry.Geometry.{Geometry}
use Rattle.nv_parts.specs.declared.parts.Parts.{Parts}
use Rattle.nv_service.specs.Closing.{AreBeside}
use Rattle.nv_service.specs.Services.{ServiceValue}
use Rattle.nv_sessions.specs.Opening.{blocks_in}
use Rattle.nv_sessions.specs.UnlockedParts.{cell_told}
use Rattle.nv_sessions.specs.Seats.{AreSeats}
use Rattle.nv_sessions.specs.Sessions.{SessionValue}
use Rattle.nv_sessions.specs.Snapped.{AreSnapped}
use Rattle.nv_service.proofs.Closes.{none_older, not_seats}
use Rattle.nv_service.proofs.NotOlder.{not_older}
use Rattle.nv_service.proofs.PartBlocks.{judged_blocks}
use Rattle.nv_service.proofs.service.Service.close.Goals as goal

pub add_up-requires : goal.add_up-requires
add_up-requires g c =
    let seats =
    subst (λ (ss : List SessionValue). AreSeats c.self.inside.parts.seating.given (map (λ (s : SessionValue). s.number) ss))
    c.deref.ensures.value (c.has_all_seats.ensures.0 c.if-not-has_all_seats.false) in
    record {
      seats = omega (
        arith,
        length-map c.args.sessions.items (λ (s : SessionValue). s.number),
        seats.count,
        c.deref.ensures.len,
        c.unlock-parts.ensures.given,
      );
    }

pub returns-in-Ok-world_of-clause-seats : goal.returns-in-Ok-world_of-clause-seats
returns-in-Ok-world_of-clause-seats g c =
    subst (λ (n : ℕ). AreSeats n (map (λ (s : SessionValue). s.number) c.args.sessions.items))
    (ap (λ (v : ServiceValue). v.seating.given) c.self.view_is)
    (subst (λ (ss : List SessionValue). AreSeats c.self.inside.parts.seating.given (map (λ (s : SessionValue). s.number) ss))
    c.deref.ensures.value (c.has_all_seats.ensures.0 c.if-not-has_all_seats.false))

pub returns-in-Ok-world_of-clause-geometry : goal.returns-in-Ok-world_of-clause-geometry
returns-in-Ok-world_of-clause-geometry g c =
    ap (λ (p : Parts). p.geometry) c.in-Ok-world_of.ensures.parts ∙ c.unlock-parts.ensures.geometry.0
    ∙ ap (λ (v : ServiceValue). v.geometry) c.self.view_is

pub returns-in-Ok-world_of-clause-snapshots : goal.returns-in-Ok-world_of-clause-snapshots
returns-in-Ok-world_of-clause-snapshots g c =
    let living = g.C.Commits.living in
    let epoch = g.C.Commits.epoch in
    subst (λ (n : ℕ). AreSnapped living epoch c.in-Ok-world_of.world.shared.book.state.snaps n) c.add_up.ensures.snapshots
    (subst (λ (p : Parts). AreSnapped living epoch p.book.state.snaps c.unlock-parts.result.1.snap_book.total)
    (sym c.in-Ok-world_of.ensures.parts) c.unlock-parts.ensures.snapshots)

pub returns-in-Ok-world_of-clause-versions : goal.returns-in-Ok-world_of-clause-versions
returns-in-Ok-world_of-clause-versions g c =
    let made = c.in-Ok-world_of.ensures in
    not_older g.C.Commits.opened [] c.unlock-parts.result.1.cells.items c.in-Ok-world_of.world.shared.cells.items
    (c.unlock-parts.ensures.cells ∙ ap (λ (p : Parts). map cell_told p.cells) (sym made.parts)) made.placed
    c.add_up.ensures.versions

pub returns-in-Ok-world_of-clause-seen : goal.returns-in-Ok-world_of-clause-seen
returns-in-Ok-world_of-clause-seen g c =
    let made = c.in-Ok-world_of.ensures in
    none_older g.C.Commits.opened c.args.sessions.items c.unlock-parts.result.1.cells.items
    c.in-Ok-world_of.world.shared.cells.items
    (c.unlock-parts.ensures.cells ∙ ap (λ (p : Parts). map cell_told p.cells) (sym made.parts)) made.placed
    c.add_up.ensures.seen

pub returns-in-Ok-world_of-clause-blocks : goal.returns-in-Ok-world_of-clause-blocks
returns-in-Ok-world_of-clause-blocks g c =
    let made = c.in-Ok-world_of.ensures in
    ap blocks_in made.parts ∙ judged_blocks c.unlock-parts.result.0 made.judged
    ∙ ap (λ (n : Geometry). n.numbers.blocks) c.unlock-parts.ensures.geometry.0 ∙ sym c.self.inside.parts.all_blocks
    ∙ ap (λ (v : ServiceValue). v.blocks) c.self.view_is

pub returns-in-Err-world_of-clause-out : goal.returns-in-Err-world_of-clause-out
returns-in-Err-world_of-clause-out g c =
    let seats =
    subst (λ (n : ℕ). AreSeats n (map (λ (s : SessionValue). s.number) c.args.sessions.items))
    (ap (λ (v : ServiceValue). v.seating.given) c.self.view_is)
    (subst (λ (ss : List SessionValue). AreSeats c.self.inside.parts.seating.given (map (λ (s : SessionValue). s.number) ss))
    c.deref.ensures.value (c.has_all_seats.ensures.0 c.if-not-has_all_seats.false)) in
    (λ is none. not_seats c.unlock-parts.result.0 c.unlock-parts.result.1.cells.items c.in-Err-world_of.fault c.in-Err-world_of.ensures.err is, λ none. absurd (none seats))

pub returns-in-Err-world_of-clause-err : goal.returns-in-Err-world_of-clause-err
returns-in-Err-world_of-clause-err g c =
    let out = c.unlock-parts.ensures in
    let device = ap (λ (v : ServiceValue). v.geometry) c.self.view_is in
    let lay : AreBeside c.args.self.geometry c.unlock-parts.result.0 c.unlock-parts.result.1.cells.items = record {
      device = out.geometry.0 ∙ device;
      count = omega (
        arith,
        c.unlock-parts.result.1.cells.ok.0,
        out.count,
        c.self.inside.parts.slots,
        ap (λ (n : Geometry). n.numbers.inodes) device,
      );
      order = out.slots;
      told = out.cells;
    } in
    elim c.in-Err-world_of.ensures.err [
      | inl memory ↦ inr (inl memory)
      | inr differs ↦ inr (inr (c.unlock-parts.result.0, c.unlock-parts.result.1.cells.items, lay, differs))
    ]
