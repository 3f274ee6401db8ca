use Rattle.std.proofs.Common.{◌≡◌, ap, arith, length, refl, subst, sym}
use Rattle.std.proofs.lemmas.List.{length-drop, length-take}
use Rattle.nv_log.specs.Chain.{IsChain}
use Rattle.nv_log.specs.Fields.{state_in}
use Rattle.nv_log.specs.Image.{cut_chain, cut_ends, image_of}
use Rattle.nv_log.proofs.Cuts.{IsChain-cut, few_ends}
use Rattle.nv_log.proofs.chain.Chain.cut.Goals as goal
use Rattle.nv_log.proofs.chain.Chain.cut.Goals.{After-self-2-1, After-len}

pub cut-requires : goal.cut-requires
cut-requires c = (c.self.inside.page, length c.self.inside.entries.items, c.self.invariant.chain.parted)

-- on how many pages the entries stand that are left
kept : (c : After-len) → c.len.result ≡ length (cut_ends c.args.tail c.self.inside.ends.items)
kept c = omega (arith, c.len.ensures, c.cut.new.ends.ok, ap length c.cut.ensures.ends)

pub hand_out_past-requires-clause-count : goal.hand_out_past-requires-clause-count
hand_out_past-requires-clause-count c =
    let here = (goal.at.hand_out_past-requires-clause-count c).After-len in
    omega (arith, kept here, few_ends c.args.tail c.self.inside.ends.items, c.self.invariant.chain.paged, c.self.inside.blocks.ok)

pub hand_out_past-requires-clause-room : goal.hand_out_past-requires-clause-room
hand_out_past-requires-clause-room c =
    let asked = rw (← c.self.view_is) at c.requires.room in
    rw (kept (goal.at.hand_out_past-requires-clause-room c).After-len) asked

pub hand_out_past-requires-clause-sized : goal.hand_out_past-requires-clause-sized
hand_out_past-requires-clause-sized c =
    let asked = rw (← c.self.view_is) at c.requires.sized in
    rw (kept (goal.at.hand_out_past-requires-clause-sized c).After-len) asked

-- the state that the fields leave
whole : (c : After-self-2-1) → record (state_in c.self.inside) {
  blocks = c.hand_out_past.new.blocks.items;
  ends = c.cut.new.ends.items;
  entries = c.truncate.new.self.items;
  tail = c.args.tail;
} ≡ cut_chain c.self.inside.page c.args.tail (image_of (state_in c.self.inside))
whole c =
    rw (
      c.hand_out_past.ensures.blocks,
      kept (goal.at.invariant_of-self c).After-len,
      c.cut.ensures.ends,
      c.truncate.ensures.items,
    ) refl

pub invariant_of-self : goal.invariant_of-self
invariant_of-self c =
    let within = rw (← c.self.view_is) at c.requires.within in
    record {
      chain = subst IsChain (sym (whole c)) (IsChain-cut c.args.tail (state_in c.self.inside) c.self.invariant.chain within);
      run = c.empty-self-inside.ensures c.truncate.new.self.items;
      there = omega (
        arith,
        c.self.invariant.there,
        ap length c.hand_out_past.ensures.blocks,
        length-take c.len.result c.self.inside.blocks.items,
        c.self.inside.blocks.ok,
        c.hand_out_past.new.blocks.ok,
      );
      blocks_room = rw c.hand_out_past.ensures.capacity c.self.invariant.blocks_room;
      ends_room = rw c.cut.ensures.capacity c.self.invariant.ends_room;
      entries_room = rw c.truncate.ensures.capacity c.self.invariant.entries_room;
    }

pub returns-clause-state : goal.returns-clause-state
returns-clause-state c = rw (← c.self.view_is) (whole c)

pub returns-clause-spare : goal.returns-clause-spare
returns-clause-spare c =
    let count = kept (goal.at.returns-clause-spare c).After-len in
    rw (← c.self.view_is) (omega (
      arith,
      count,
      ap length c.hand_out_past.ensures.blocks,
      length-take c.len.result c.self.inside.blocks.items,
      length-drop (length (cut_ends c.args.tail c.self.inside.ends.items)) c.self.inside.blocks.items,
      c.self.inside.blocks.ok,
      c.hand_out_past.new.blocks.ok,
      c.self.invariant.there,
    ))

pub returns-clause-free : goal.returns-clause-free
returns-clause-free c =
    rw (← c.self.view_is, ← kept (goal.at.returns-clause-free c).After-len) c.hand_out_past.ensures.out
