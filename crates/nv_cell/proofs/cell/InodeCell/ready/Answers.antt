use Rattle.std.proofs.Common.{◌≡◌, ℕ, ◌+◌, ◌-◌, ◌<◌, ◌≤◌, arith, refl, ap, sym, ◌∙◌, subst, length, max, take, true, false}
use Rattle.std.specs.Prelude.{vec_capacity, vec_len}
use Rattle.nv_entry.specs.Covered.{part_total}
use Rattle.nv_cell.specs.Cell.{log_of}
use Rattle.nv_cell.specs.Fields.{state_in, value_in}
use Rattle.nv_cell.specs.Index.{bindings_of}
use Rattle.nv_cell.specs.Weights.{parts_in, weights_by, weights_in}
use Rattle.nv_log.specs.Chain.{ChainState}
use Rattle.nv_nindex.specs.NameIndex.{binding_of}
use Rattle.nv_cell.proofs.Published.{names_ready}
use Rattle.nv_cell.proofs.Weighing.{weights_are, weights_were}
use Rattle.nv_cell.proofs.Growing.{fields_grown, fields_kept, same_parts, spare_grown}
use Rattle.nv_cell.proofs.Publishing.{take_whole}
use Rattle.nv_cell.proofs.ReadySteps.{settled_publish, settled_ready}
use Rattle.nv_cell.proofs.cell.InodeCell.ready.Goals as goal

pub invariant_of-self-in_err-grow_log : goal.invariant_of-self-in_err-grow_log
invariant_of-self-in_err-grow_log c =
    let log = c.grow_log.ensures in
    fields_kept c.self.invariant refl log.chain log.marks log.blocks (same_parts c.self.inside.index) c.grow_lists.ensures.numbers
    c.grow_lists.ensures.killed log.pages

pub invariant_of-self-in_err-reserve : goal.invariant_of-self-in_err-reserve
invariant_of-self-in_err-reserve c =
    let log = c.grow_log.ensures in
    fields_kept c.self.invariant refl log.chain log.marks log.blocks c.reserve.ensures.same c.grow_lists.ensures.numbers
    c.grow_lists.ensures.killed log.pages

pub invariant_of-self-2 : goal.invariant_of-self-2
invariant_of-self-2 c =
    let i = c.self.inside in
    let inv = c.self.invariant in
    let es = i.chain.state.entries in
    let settled : i.chain.state.tail ≡ length es = rw (← c.self.view_is) at c.requires.settled in
    let whole : part_total (take i.chain.state.tail es) ≡ part_total es =
    ap (λ (t : ℕ). part_total (take t es)) settled ∙ ap part_total (take_whole es) in
    let g = c.grow_log.ensures.marks in
    let old =
    spare_grown i.marks c.grow_log.new.marks (part_total es - length i.marks.marks.items + i.parts)
    (length es - i.chain.state.tail + i.entries) g inv.spare in
    let room = c.in_ok-grow_log.ensures.room in
    let entries : c.max-self-inside.result ≡ max i.entries (length c.args.items.now) = c.max-self-inside.ensures in
    let parts : c.max-self-inside-2.result ≡ max i.parts c.part_total-parts.result = c.max-self-inside-2.ensures in
    fields_grown i _ inv (record {
      block = refl;
      generation = refl;
      version = refl;
      chain = c.grow_log.ensures.chain;
      marks = g;
      blocks = c.grow_log.ensures.blocks;
      held = refl;
      index = c.reserve.ensures.same;
      numbers = c.grow_lists.ensures.numbers;
      killed = c.grow_lists.ensures.killed;
      spare = record {
        marks = omega (arith, old.marks, room.marks, whole, inv.marks.len, parts);
        ends = omega (arith, old.ends, room.ends, settled, entries);
        tallies = omega (arith, old.tallies, room.tallies, settled, entries);
      };
      places =
          omega (
            arith,
            inv.blocks_room,
            c.grow_log.ensures.blocks.capacity,
            c.in_ok-grow_log.ensures.places,
            ap length c.grow_log.ensures.blocks.items,
            inv.slots,
            parts,
          );
      pages = c.grow_log.ensures.pages;
    })

pub returns-clause-ok : goal.returns-clause-ok
returns-clause-ok c =
    let i = c.self.inside in
    let inv = c.self.invariant in
    let items = c.args.items.now in
    let entries : c.max-self-inside.result ≡ max i.entries (length items) = c.max-self-inside.ensures in
    let parts : c.max-self-inside-2.result ≡ max i.parts c.part_total-parts.result = c.max-self-inside-2.ensures in
    let real : c.part_total-parts.result < 9223372036854775808 = c.in_ok-grow_log.ensures.counted in
    let few : c.most_killed-killed.result < 9223372036854775808 = c.in_ok-grow_lists.ensures.counted in
    let all : c.part_total-parts.result ≡ parts_in items = omega (arith, c.part_total-parts.ensures, real) in
    let kills : c.most_killed-killed.result ≡ weights_by i.block i.index items = omega (arith, c.most_killed-killed.ensures.value, few) in
    let room : (vec_len c.grow_lists.new.numbers + c.most_killed-killed.result ≤ vec_capacity c.grow_lists.new.numbers)
    × (vec_len c.grow_lists.new.killed + c.most_killed-killed.result ≤ vec_capacity c.grow_lists.new.killed) =
    c.in_ok-grow_lists.ensures.ok in
    let bound = weights_are i.block (log_of (state_in i)) i.index items inv.refs inv.names c.most_killed-killed.ensures.distinct in
    let same : weights_in i.block (take c.grow_log.new.chain.state.tail c.grow_log.new.chain.state.entries) items
    ≡ weights_in i.block (log_of (state_in i)) items =
    ap (λ (s : ChainState). weights_in i.block (take s.tail s.entries) items) c.grow_log.ensures.chain in
    let settled : i.chain.state.tail ≡ length i.chain.state.entries = rw (← c.self.view_is) at c.requires.settled in
    record {
      ready = settled_ready items _ (subst (λ (s : ChainState). s.tail ≡ length s.entries) (sym c.grow_log.ensures.chain) settled)
          (record {
            pages = c.in_ok-grow_log.ensures.entries;
            entries = omega (arith, entries);
            parts = omega (arith, parts, all);
          })
          (record {
            runs = c.in_ok-reserve.ensures.runs;
            names =
                names_ready items c.reserve.new.self.names
                (record {
                  names = bindings_of (take c.grow_log.new.chain.state.tail c.grow_log.new.chain.state.entries);
                  reserved = c.reserve.new.self.names.reserved;
                })
                (λ name.
                ap (λ (s : ChainState). binding_of name (bindings_of (take s.tail s.entries))) c.grow_log.ensures.chain
                ∙ sym (inv.names name) ∙ ap (binding_of name) (sym c.reserve.ensures.same.names))
                refl c.in_ok-reserve.ensures.names;
            killed = omega (arith, same, bound, kills, room.0, room.1);
          });
      pages = c.in_ok-grow_log.ensures.reserved;
    }

pub returns-in_err-grow_lists-clause-enough : goal.returns-in_err-grow_lists-clause-enough
returns-in_err-grow_lists-clause-enough c ready =
    let i = c.self.inside in
    let inv = c.self.invariant in
    let items = c.args.items.now in
    let p = settled_publish items (value_in i) (rw (← c.self.view_is) at c.requires.settled) (rw (← c.self.view_is) at ready).ready in
    let less = weights_were i.block (log_of (state_in i)) i.index items inv.refs inv.names c.most_killed-killed.ensures.distinct in
    let no : false ≡ true =
    c.in_err-grow_lists.ensures.enough (omega (arith, p.killed, less, c.most_killed-killed.ensures.value, ap length inv.no_numbers))
    (omega (arith, p.killed, less, c.most_killed-killed.ensures.value, ap length inv.no_killed)) in
    cc

pub returns-in_err-grow_log-clause-enough : goal.returns-in_err-grow_log-clause-enough
returns-in_err-grow_log-clause-enough c ready =
    let i = c.self.inside in
    let inv = c.self.invariant in
    let r = rw (← c.self.view_is) at ready in
    let no : false ≡ true = c.in_err-grow_log.ensures.enough
    (record {
      marks = omega (arith, inv.spare.marks, r.ready.append.parts, c.part_total-parts.ensures);
      ends = omega (arith, inv.spare.ends, r.ready.append.entries);
      tallies = omega (arith, inv.spare.tallies, r.ready.append.entries);
    })
    (omega (arith, inv.blocks_room, inv.slots, r.ready.append.parts, c.part_total-parts.ensures)) r.pages in
    cc

pub returns-in_err-reserve-clause-enough : goal.returns-in_err-reserve-clause-enough
returns-in_err-reserve-clause-enough c ready =
    let i = c.self.inside in
    let inv = c.self.invariant in
    let items = c.args.items.now in
    let p = settled_publish items (value_in i) (rw (← c.self.view_is) at c.requires.settled) (rw (← c.self.view_is) at ready).ready in
    let no : false ≡ true = c.in_err-reserve.ensures.enough p.runs
    (names_ready items (record { names = bindings_of (log_of (state_in i)); reserved = i.index.names.reserved }) i.index.names inv.names
    refl p.names) in
    cc

pub returns-clause-most : goal.returns-clause-most
returns-clause-most c =
    let real : c.part_total-parts.result < 9223372036854775808 = c.in_ok-grow_log.ensures.counted in
    rw (← c.self.view_is) (record {
      pages = c.in_ok-grow_log.ensures.most;
      entries = c.max-self-inside.ensures;
      parts = omega (arith, c.max-self-inside-2.ensures, c.part_total-parts.ensures, real);
    })
