use Rattle.std.proofs.Common.{◌≡◌, ◌≤◌, ◌*◌, length, vec_len, ap, arith, sym, subst, ◌∙◌, refl}
use Rattle.std.specs.Int.{div_ceil}
use Rattle.std.proofs.Math.Nat.{mul-le-mul_right}
use Rattle.std.proofs.lemmas.List.{length-take-le}
use Rattle.nv_entry.specs.Clean.{select}
use Rattle.nv_log.specs.Fields.{state_in}
use Rattle.nv_log.specs.Chain.{ChainValue, IsChain, compacted, left_of, log}
use Rattle.nv_log.proofs.Chains.{IsChain-compacted, compacted_few}
use Rattle.nv_log.proofs.Flags.{left_of-select, take-left_of}
use Rattle.nv_log.proofs.chain.Chain.compact.Goals as goal
use Rattle.nv_log.proofs.chain.Chain.compact.Goals.{After-len}

left : (c : After-len) → c.len.result ≡ length (left_of c.args.stays.now (state_in c.self.inside).entries)
left c = omega (arith, c.len.ensures, c.take_entries.new.entries.ok, ap length c.take_entries.ensures.entries)

pub pack-requires-clause-room : goal.pack-requires-clause-room
pack-requires-clause-room c =
    let chain = state_in c.self.inside in
    rw (left (goal.at.pack-requires-clause-room c).After-len) (omega (
      arith,
      compacted_few c.args.stays.now chain c.self.invariant.chain,
      c.self.invariant.there,
      c.self.invariant.ends_room,
      c.self.inside.blocks.ok,
    ))

-- the state that the fields leave
whole : (c : goal.After-replace) → record (state_in c.self.inside) {
  blocks = c.replace.new.dest.items;
  ends = c.pack.new.ends.items;
  entries = c.take_entries.new.entries.items;
  tail = c.staying-self-inside.result;
} ≡ compacted c.args.stays.now c.args.pages.items (state_in c.self.inside)
whole c =
    rw (
      c.replace.ensures.after,
      c.pack.ensures.ends,
      left (goal.at.invariant_of-self c).After-len,
      c.take_entries.ensures.entries,
      c.staying-self-inside.ensures,
      c.deref.ensures.value,
    ) refl

pub invariant_of-self : goal.invariant_of-self
invariant_of-self c =
    let chain = state_in c.self.inside in
    let stays = c.args.stays.now in
    let asked = rw (← c.self.view_is) at c.requires.pages in
    let count : length c.args.pages.items ≡ div_ceil (length (left_of stays chain.entries)) chain.page =
    omega (arith, asked, c.args.pages.ok) in
    let few : vec_len c.args.pages ≤ c.self.inside.reserved =
    omega (arith, asked, compacted_few stays chain c.self.invariant.chain, c.self.invariant.there, c.self.inside.blocks.ok) in
    let places : vec_len c.args.pages * c.self.inside.page ≤ c.self.inside.reserved * c.self.inside.page =
    mul-le-mul_right c.self.inside.page few in
    record {
      chain = subst IsChain (sym (whole c)) (IsChain-compacted stays c.args.pages.items chain c.self.invariant.chain count);
      run = c.empty-self-inside.ensures c.take_entries.new.entries.items;
      there = rw (c.replace.ensures.after, c.len-self-inside.ensures) (omega arith);
      blocks_room = rw (c.replace.ensures.after, c.len-self-inside.ensures) (omega (arith, c.args.pages.ok));
      ends_room = rw (c.pack.ensures.capacity, c.len-self-inside.ensures) (omega (arith, few, c.self.invariant.ends_room));
      entries_room = rw (c.take_entries.ensures.capacity, c.len-self-inside.ensures) (omega (arith, places, c.self.invariant.entries_room));
    }

pub returns-clause-log : goal.returns-clause-log
returns-clause-log c =
    let stays = c.args.stays.now in
    let chain = state_in c.self.inside in
    let flags = rw (← c.self.view_is) at c.requires.flags in
    let each : length stays ≡ length (log chain) =
    omega (arith, flags, length-take-le chain.tail chain.entries c.self.invariant.chain.within) in
    ap log (whole c) ∙ take-left_of stays chain.tail chain.entries ∙ left_of-select stays (log chain) each
    ∙ ap (λ (v : ChainValue). select stays (log v.state)) c.self.view_is
