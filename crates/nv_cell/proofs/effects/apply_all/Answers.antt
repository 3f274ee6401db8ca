use Rattle.std.proofs.Common.{◌+◌, arith, ap, sym, ◌∙◌, take, drop, List}
use Rattle.std.proofs.lemmas.List.Sums.{sum_by-cons}
use Rattle.nv_entry.specs.declared.item.Entry.{Entry}
use Rattle.nv_entry.specs.Refs.{ref_after, scan_ref}
use Rattle.nv_cell.specs.Effects.{items_of}
use Rattle.nv_cell.specs.Weights.{page_runs_needed}
use Rattle.nv_cell.proofs.EntryRead.{entry_read}
use Rattle.nv_cell.proofs.Readied.{ready_after, reserved_after}
use Rattle.nv_cell.proofs.Bound.{bound_push}
use Rattle.nv_cell.proofs.Publishing.{IsScan, are_named, kill_step, scan_push, take_next, drop_next}
use Rattle.nv_cell.proofs.Weighing.{weight_is, weights_push}
use Rattle.nv_cell.proofs.effects.apply_all.Goals as goal

pub push_covered-place-requires-clause-named : goal.push_covered-place-requires-clause-named
push_covered-place-requires-clause-named c =
    are_named c.args.block c.args.chain.now.state.entries c.loop-t.t c.loop-t.index
    (record { log = c.requires.rising; scan = c.loop-t.invariant.scan })

pub push_covered-place-requires-clause-room : goal.push_covered-place-requires-clause-room
push_covered-place-requires-clause-room c =
    let es = c.args.chain.now.state.entries in
    let t = c.loop-t.t in
    let e = c.entry_at-entry.result.now in
    let p = entry_read es t e c.entry_at-entry.ensures in
    let w = weight_is c.args.block (take t es) c.loop-t.index e.item c.loop-t.invariant.scan c.loop-t.invariant.bound
    c.tells_names_apart.ensures in
    let len = rw (drop_next es t e p.within p.is) at c.loop-t.invariant.len in
    let more = weights_push c.args.block (take t es) e (items_of (drop (t + 1) es)) in
    omega (arith, w, len, more, c.requires.room, c.loop-t.invariant.capacity)

pub loop-t-preserved : goal.loop-t-preserved
loop-t-preserved c =
    let es = c.args.chain.now.state.entries in
    let t = c.loop-t.t in
    let e = c.entry_at-entry.result.now in
    let h : IsScan c.args.block es t c.loop-t.index = record { log = c.requires.rising; scan = c.loop-t.invariant.scan } in
    let p = entry_read es t e c.entry_at-entry.ensures in
    let ready = rw (drop_next es t e p.within p.is) at c.loop-t.invariant.names in
    let pages = rw (drop_next es t e p.within p.is) at c.loop-t.invariant.pages in
    let len = rw (drop_next es t e p.within p.is) at c.loop-t.invariant.len in
    let w = weight_is c.args.block (take t es) c.loop-t.index e.item c.loop-t.invariant.scan c.loop-t.invariant.bound
    c.tells_names_apart.ensures in
    let more = rw (← take_next es t e p.within p.is) at (weights_push c.args.block (take t es) e (items_of (drop (t + 1) es))) in
    record {
      room =
          let room = rw (drop_next es t e p.within p.is) at c.loop-t.invariant.room in
          omega (arith, c.put.ensures.room, room, sum_by-cons page_runs_needed e.item (items_of (drop (t + 1) es)));
      reserved = λ none.
          let h = rw (drop_next es t e p.within p.is) at (c.loop-t.invariant.reserved none) in
          (h.0.1, reserved_after e.id e.item c.loop-t.index.names c.put.new.self.names c.put.ensures.names h.0.0 ∙ h.1);
      pages = omega (arith, c.put.ensures.room, pages, sum_by-cons page_runs_needed e.item (items_of (drop (t + 1) es)));
      names = ready_after e.id e.item (items_of (drop (t + 1) es)) c.loop-t.index.names c.put.new.self.names c.put.ensures.names ready;
      bound = rw (take_next es t e p.within p.is)
          (bound_push (take t es) e c.loop-t.index.names c.put.new.self.names c.put.ensures.names c.loop-t.invariant.bound);
      scan = λ key. c.put.ensures.refs key ∙ ap (ref_after c.args.block e key) (c.loop-t.invariant.scan key)
          ∙ sym (scan_push c.args.block (take t es) e key)
          ∙ ap (λ (xs : List Entry). scan_ref c.args.block xs key) (sym (take_next es t e p.within p.is));
      capacity = c.push_covered-place.ensures.capacity ∙ c.loop-t.invariant.capacity;
      len = omega (arith, c.push_covered-place.ensures.len, w, len, more);
      killed = λ n.
          let s = kill_step c.args.block es c.args.tail t n e c.loop-t.index h c.loop-t.auto.t p.within p.is in
          omega (arith, c.loop-t.invariant.killed n, c.push_covered-place.ensures.numbers n, s);
    }

pub put-requires-clause-names : goal.put-requires-clause-names
put-requires-clause-names c =
    let es = c.args.chain.now.state.entries in
    let t = c.loop-t.t in
    let e = c.entry_at-entry.result.now in
    let p = entry_read es t e c.entry_at-entry.ensures in
    let ready = rw (drop_next es t e p.within p.is) at c.loop-t.invariant.names in
    ready.1.0

pub put-requires-clause-room : goal.put-requires-clause-room
put-requires-clause-room c =
    let es = c.args.chain.now.state.entries in
    let t = c.loop-t.t in
    let e = c.entry_at-entry.result.now in
    let p = entry_read es t e c.entry_at-entry.ensures in
    let pages = rw (drop_next es t e p.within p.is) at c.loop-t.invariant.pages in
    omega (arith, pages, sum_by-cons page_runs_needed e.item (items_of (drop (t + 1) es)))
