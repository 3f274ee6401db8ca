use Rattle.std.proofs.Common.{◌≡◌, length, ap, arith, sym, ◌∙◌}
use Rattle.nv_log.specs.Fields.{state_in}
use Rattle.nv_log.specs.Chain.{ChainState, ChainValue, joined, left_of, log, log_pages, pages_of, with_entries_left}
use Rattle.nv_log.proofs.Chains.{HasPagesLeft, has_pages_left}
use Rattle.nv_log.proofs.Flags.{left_of-select, length-left_of}
use Rattle.nv_log.proofs.Parts.{length-parts}
use Rattle.nv_log.proofs.chain.Chain.unlink_pages.Goals as goal

-- the state once the entries are out
taken : (c : goal.After-hand_out) → state_in c.self.inside ≡ with_entries_left c.args.stays.now c.args.self.now.state
taken c = ap (λ v. v.state) c.self.view_is ∙ c.leave_pages.ensures.state

-- the state that the fields leave
left : (c : goal.After-hand_out)
    → HasPagesLeft c.args.stays.now c.args.self.now.state (record (state_in c.self.inside) { blocks = c.hand_out.new.blocks.items })
left c = has_pages_left c.args.stays.now _ _ _ c.leave_pages.ensures.was (taken c) c.hand_out.ensures.blocks

pub invariant_of-self : goal.invariant_of-self
invariant_of-self c =
    let fewer = length-left_of c.args.stays.now c.self.inside.blocks.items in
    record {
      chain = (left c).chain;
      there =
          omega (
            arith,
            c.self.invariant.there,
            fewer,
            ap length c.hand_out.ensures.blocks,
            c.self.inside.blocks.ok,
            c.hand_out.new.blocks.ok,
          );
      blocks_room = rw c.hand_out.ensures.capacity c.self.invariant.blocks_room;
      run = c.self.invariant.run;
      ends_room = c.self.invariant.ends_room;
      entries_room = c.self.invariant.entries_room;
    }

pub returns-clause-pages : goal.returns-clause-pages
returns-clause-pages c =
    let chain = c.args.self.now.state in
    let each : length c.args.stays.now ≡ length (pages_of chain) =
    c.requires.flags ∙ sym (length-parts 0 chain.ends chain.entries) in
    (left c).keeps.pages_are ∙ left_of-select c.args.stays.now (pages_of chain) each

pub returns-clause-log : goal.returns-clause-log
returns-clause-log c =
    let chain = c.args.self.now.state in
    let each : length c.args.stays.now ≡ length (log_pages chain) =
    c.requires.flags ∙ sym (length-parts 0 chain.ends (log chain)) in
    (left c).keeps.log_is ∙ ap joined (left_of-select c.args.stays.now (log_pages chain) each)

pub returns-clause-spare : goal.returns-clause-spare
returns-clause-spare c =
    let stays = c.args.stays.now in
    let old = c.args.self.now.state.blocks in
    let left = ap length c.hand_out.ensures.blocks ∙ ap (λ (s : ChainState). length (left_of stays s.blocks)) (taken c) in
    omega (
      arith,
      ap (λ (v : ChainValue). v.spare) c.self.view_is,
      c.leave_pages.ensures.spare,
      left,
      length-left_of stays old,
      ap (λ (s : ChainState). length s.blocks) (taken c),
      c.self.inside.blocks.ok,
      c.hand_out.new.blocks.ok,
      c.self.invariant.there,
    )
