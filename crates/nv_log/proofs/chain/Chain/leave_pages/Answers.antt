use Rattle.nv_log.specs.Fields.{state_in}
use Rattle.nv_log.specs.Chain.{flags_from}
use Rattle.nv_log.proofs.Chains.{IsChain-with_entries_left}
use Rattle.nv_log.proofs.chain.Chain.leave_pages.Goals as goal

pub invariant_of-self : goal.invariant_of-self
invariant_of-self c =
    let stays = flags_from c.args.first c.args.stays.now in
    let told = c.take_pages-self-inside.ensures in
    record {
      chain = rw (told.entries, told.ends, told.tail) (IsChain-with_entries_left stays (state_in c.self.inside) c.self.invariant.chain);
      run = c.empty-self-inside.ensures c.take_pages-self-inside.new.entries.items;
      there = c.self.invariant.there;
      blocks_room = c.self.invariant.blocks_room;
      ends_room = rw told.ends_capacity c.self.invariant.ends_room;
      entries_room = rw told.entries_capacity c.self.invariant.entries_room;
    }

pub take_pages-self-inside-requires : goal.take_pages-self-inside-requires
take_pages-self-inside-requires c = record { parted = (c.self.inside.page, c.self.invariant.chain.parted) }
