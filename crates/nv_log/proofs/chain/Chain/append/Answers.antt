use Rattle.std.proofs.Common.{◌≤◌, ◌≡◌, ◌+◌, arith, length, vec_len, ◌∙◌, refl, sym, subst}
use Rattle.nv_log.specs.Fields.{state_in}
use Rattle.nv_log.specs.Chain.{IsChain, appended, open_of}
use Rattle.nv_log.proofs.Chains.{IsChain-appended, appends_entry, has_place, open_within}
use Rattle.nv_log.proofs.chain.Chain.append.Goals as goal
use Rattle.nv_log.proofs.chain.Chain.append.Goals.{After-with-self-inside}

next : (c : After-with-self-inside) → IsChain (appended c.args.entry (state_in c.self.inside))
next c =
    let asked = rw (← c.self.view_is) at c.requires in
    IsChain-appended (state_in c.self.inside) c.args.entry c.self.invariant.chain asked.room asked.id asked.epoch

opened : (c : After-with-self-inside) → c.open_page-open.result ≡ open_of (state_in c.self.inside)
opened c =
    let size : vec_len c.self.inside.entries ≡ length c.self.inside.entries.items = omega (arith, c.self.inside.entries.ok) in
    c.open_page-open.ensures ∙ rw (c.deref.ensures.value, c.len.ensures, size) refl

pub push_reserved-requires : goal.push_reserved-requires
push_reserved-requires c =
    let chain = state_in c.self.inside in
    let more = next (goal.at.push_reserved-requires c).After-with-self-inside in
    let few : length chain.blocks ≤ c.self.inside.reserved = omega (arith, c.self.inside.blocks.ok, c.self.invariant.there) in
    let room = has_place chain c.args.entry c.self.inside.reserved _ more few c.self.invariant.entries_room in
    omega (arith, room, c.self.inside.entries.ok)

pub push_reserved-requires-2 : goal.push_reserved-requires-2
push_reserved-requires-2 c =
    let asked = rw (← c.self.view_is) at c.requires in
    omega (
      arith,
      opened (goal.at.push_reserved-requires-2 c).After-with-self-inside,
      open_within (state_in c.self.inside) asked.room,
      c.truncate.ensures.len,
      c.truncate.ensures.capacity,
      c.self.invariant.there,
      c.self.invariant.ends_room,
      c.self.inside.blocks.ok,
    )

-- the state that the fields leave
whole : (c : goal.After-push_reserved-2) → record (state_in c.self.inside) {
  ends = c.push_reserved-2.new.self.items;
  entries = c.push_reserved.new.self.items;
} ≡ appended c.args.entry (state_in c.self.inside)
whole c =
    let end : c.len-2.result ≡ length c.self.inside.entries.items + 1 =
    omega (arith, c.len-2.ensures, c.push_reserved.ensures.len, c.self.inside.entries.ok) in
    let at = opened (goal.at.invariant_of-self c).After-with-self-inside in
    rw (c.push_reserved-2.ensures.items, c.truncate.ensures.items, c.push_reserved.ensures.items, end, at) refl

pub invariant_of-self : goal.invariant_of-self
invariant_of-self c =
    record {
      chain = subst IsChain (sym (whole c)) (next (goal.at.invariant_of-self c).After-with-self-inside);
      there = c.self.invariant.there;
      blocks_room = c.self.invariant.blocks_room;
      ends_room = rw (c.push_reserved-2.ensures.capacity, c.truncate.ensures.capacity) c.self.invariant.ends_room;
      entries_room = rw c.push_reserved.ensures.capacity c.self.invariant.entries_room;
      run = rw c.push_reserved.ensures.items (rw c.deref-2.ensures.value at c.with-self-inside.ensures c.args.entry refl);
    }

pub returns-clause-state : goal.returns-clause-state
returns-clause-state c = rw (← c.self.view_is) (whole c)

pub returns-clause-pages : goal.returns-clause-pages
returns-clause-pages c =
    let asked = rw (← c.self.view_is) at c.requires in
    rw (← c.self.view_is, whole c) (appends_entry (state_in c.self.inside) c.args.entry c.self.invariant.chain asked.room)
