use Rattle.std.proofs.Common.{◌≡◌, ℕ, ◌+◌, List, [], None, Some, Bool, arith, refl, ap, sym, ◌∙◌, length, drop, cond, not}
use Rattle.nv_entry.specs.declared.item.Entry.{Entry}
use Rattle.nv_entry.specs.Covered.{part_total, is_covered}
use Rattle.nv_entry.specs.Refs.{scan_ref}
use Rattle.nv_cell.specs.declared.mark.Mark.{Mark}
use Rattle.nv_cell.specs.declared.mark.Mark.TheVariants.{Out}
use Rattle.nv_cell.specs.declared.cell.InodeCell.TheInside.{Inside}
use Rattle.nv_cell.specs.Cell.{CanPublish, CellValue, fresh_of, log_of, killed_of, published}
use Rattle.nv_cell.specs.Effects.{items_of}
use Rattle.nv_cell.specs.Fields.{state_in}
use Rattle.nv_cell.specs.Marks.{mark_at}
use Rattle.nv_cell.specs.Numbers.{dies, killed_numbers, killed_part, numbers_in, published_mark}
use Rattle.std.proofs.Common.{subst, map}
use Rattle.std.proofs.lemmas.List.{length-map}
use Rattle.nv_cell.specs.Cell.{page_block}
use Rattle.nv_cell.specs.Fields.{value_in}
use Rattle.nv_cell.specs.Index.{bindings_of}
use Rattle.nv_nindex.specs.NameIndex.{HaveSameBindings}
use Rattle.nv_cell.proofs.Cells.{mark_now}
use Rattle.nv_cell.proofs.Numbered.{length_numbers}
use Rattle.nv_cell.specs.Room.{IsReadyFor}
use Rattle.nv_cell.proofs.KilledParts.{killed_list, published_killed}
use Rattle.nv_cell.proofs.ReadySteps.{none_left}
use Rattle.nv_cell.proofs.Published.{list_from, names_ready, there_stays}
use Rattle.nv_cell.proofs.Publishes.{filtered_low, first_base}
use Rattle.nv_cell.proofs.Publishing.{take_whole}
use Rattle.nv_cell.proofs.cell.InodeCell.publish.Goals as goal

-- there is room for what is to be published
ready_now : (inside : Inside) (seen : CellValue) → value_in inside ≡ seen → IsReadyFor [] seen
    → CanPublish (items_of (fresh_of (state_in inside))) (value_in inside)
ready_now inside seen is ready = none_left (value_in inside) (subst (λ v. IsReadyFor [] v) (sym is) ready)

pub take_effect-self-inside-requires-clause-names : goal.take_effect-self-inside-requires-clause-names
take_effect-self-inside-requires-clause-names c =
    let s = state_in c.self.inside in
    let ready = ready_now c.self.inside _ c.self.view_is c.requires.ready in
    rw c.tail-tail.ensures.value (names_ready (items_of (drop s.chain.tail s.chain.entries))
    (record { names = bindings_of (log_of s); reserved = c.self.inside.index.names.reserved }) c.self.inside.index.names
    c.self.invariant.names refl ready.names)

pub name_all-requires-clause-ends : goal.name_all-requires-clause-ends
name_all-requires-clause-ends c =
    let es = c.self.inside.chain.state.entries in
    record {
      first = first_base c.take_effect-self-inside.new.marks.ends.items es (length es) c.take_effect-self-inside.ensures.ended;
      small = omega (arith, c.take_effect-self-inside.ensures.len);
    }

pub name_all-requires-clause-within : goal.name_all-requires-clause-within
name_all-requires-clause-within c i d lt =
    let es = c.self.inside.chain.state.entries in
    filtered_low (dies c.self.inside.block es c.tail-tail.result) (part_total es) (numbers_in c.deref-2.result.now) i d
    (ap numbers_in c.deref-2.ensures.value ∙ c.take_effect-self-inside.ensures.killed)
    (omega (arith, lt, length_numbers c.deref-2.result.now))

pub name_all-requires-clause-room : goal.name_all-requires-clause-room
name_all-requires-clause-room c =
    let s = state_in c.self.inside in
    let ready = ready_now c.self.inside _ c.self.view_is c.requires.ready in
    let few = rw c.tail-tail.ensures.value at c.take_effect-self-inside.ensures.few in
    rw (c.deref-2.ensures.value, c.replace-killed.ensures.value) (omega (arith, few, ready.killed))

pub take_effect-self-inside-requires-clause-pages : goal.take_effect-self-inside-requires-clause-pages
take_effect-self-inside-requires-clause-pages c =
    let ready = ready_now c.self.inside _ c.self.view_is c.requires.ready in
    rw c.tail-tail.ensures.value ready.runs

pub take_effect-self-inside-requires-clause-room : goal.take_effect-self-inside-requires-clause-room
take_effect-self-inside-requires-clause-room c =
    let ready = ready_now c.self.inside _ c.self.view_is c.requires.ready in
    rw c.tail-tail.ensures.value (omega (arith, ready.killed, ap length c.self.invariant.no_numbers))

pub invariant_of-self : goal.invariant_of-self
invariant_of-self c =
    let s = state_in c.self.inside in
    let es = c.self.inside.chain.state.entries in
    let inv = c.self.invariant in
    let to : c.publish_to.new.self.state ≡ record c.self.inside.chain.state { tail = length es } = c.publish_to.ensures.state
    ∙ ap (λ (t : ℕ). record c.self.inside.chain.state { tail = t }) c.len.ensures in
    let marks = c.take_effect-self-inside.new.marks.marks.items in
    let is : (n : ℕ) → mark_at marks n ≡ published_mark s.block es s.chain.tail s.marks n =
    λ n. rw c.tail-tail.ensures.value at (c.take_effect-self-inside.ensures.marks n) in
    let r = c.take_effect-self-inside.ensures.room in
    rw to (record {
      some = inv.some;
      pages = inv.pages;
      marks = record {
        len = c.take_effect-self-inside.ensures.len ∙ ap part_total (sym (take_whole es));
        current = λ n lt.
            mark_now s.block es s.chain.tail n (mark_at s.marks n) (mark_at marks n) (rw (take_whole es) at lt)
            (omega (arith, c.tail-tail.ensures.value, c.tail-tail.ensures.within)) (λ l. inv.marks.current n l) (is n)
            ∙ ap (λ (xs : List Entry). not (is_covered s.block xs n)) (sym (take_whole es));
      };
      blocks = record {
        len = inv.blocks.len;
        numbers = λ n. inv.blocks.numbers n
            ∙ ap (λ (b : Bool). cond b (page_block s.block es n) None)
            (sym (there_stays s.block es s.chain.tail s.marks marks inv.marks.len c.take_effect-self-inside.ensures.len
            inv.marks.current is n));
        sized = inv.blocks.sized;
      };
      refs = λ key. c.take_effect-self-inside.ensures.scan key ∙ ap (λ (xs : List Entry). scan_ref s.block xs key) (sym (take_whole es));
      names = subst (λ (xs : List Entry). HaveSameBindings (bindings_of xs) c.take_effect-self-inside.new.index.names.names)
          (sym (take_whole es)) c.take_effect-self-inside.ensures.bound;
      ends_len = c.take_effect-self-inside.ensures.counted;
      ends = c.take_effect-self-inside.ensures.ended;
      tallied = c.take_effect-self-inside.ensures.tallied;
      spare = record {
        marks = omega (arith, inv.spare.marks, r.marks, c.take_effect-self-inside.ensures.len, inv.marks.len);
        ends = omega (arith, inv.spare.ends, r.ends, c.take_effect-self-inside.ensures.counted, inv.ends_len);
        tallies = omega (
          arith,
          inv.spare.tallies,
          r.tallies,
          c.take_effect-self-inside.ensures.counted,
          inv.ends_len,
          inv.tallied.tallies.len,
          c.take_effect-self-inside.ensures.tallied.tallies.len,
        );
      };
      held = inv.held;
      slots = inv.slots;
      blocks_room = inv.blocks_room;
      pages_room = omega (arith, inv.pages_room, r.pages, c.publish_to.ensures.spare);
      no_numbers = c.clear.ensures.items;
      no_killed = rw c.replace-killed.ensures.after c.new.ensures.items;
    })

-- the chain and the marks that are left
chain_is : (c : goal.After-self-2-1)
    → c.publish_to.new.self.state ≡ record c.self.inside.chain.state { tail = length c.self.inside.chain.state.entries }
chain_is c =
    c.publish_to.ensures.state ∙ ap (λ (t : ℕ). record c.self.inside.chain.state { tail = t }) c.len.ensures

marks_are : (c : goal.After-self-2-1) → c.take_effect-self-inside.new.marks.marks.items ≡ (published (state_in c.self.inside)).marks
marks_are c =
    let s = state_in c.self.inside in
    let es = s.chain.entries in
    let f : ℕ → Mark = published_mark s.block es s.chain.tail s.marks in
    let marks = c.take_effect-self-inside.new.marks.marks.items in
    let is : (n : ℕ) → mark_at marks n ≡ f n = λ n. rw c.tail-tail.ensures.value at (c.take_effect-self-inside.ensures.marks n) in
    let all = list_from marks f Out 0 (λ n lt. is n ∙ (let z : n ≡ 0 + n = omega arith in ap f z)) in
    rw c.take_effect-self-inside.ensures.len at all

pub returns-clause-state : goal.returns-clause-state
returns-clause-state c = rw (← c.self.view_is, chain_is c, marks_are c) refl

-- what is killed, by number
killed_told : (c : goal.After-self-2-1)
    → map Some c.name_all.new.killed.items ≡ map (killed_part c.self.inside.chain.state.entries) (killed_of (state_in c.self.inside))
killed_told c =
    let s = state_in c.self.inside in
    let tail : c.tail-tail.result ≡ s.chain.tail = c.tail-tail.ensures.value in
    c.name_all.ensures
    ∙ ap (map (killed_part s.chain.entries)) (ap numbers_in c.deref-2.ensures.value ∙ c.take_effect-self-inside.ensures.killed
    ∙ ap (killed_numbers s.block s.chain.entries) tail)

pub returns-clause-killed : goal.returns-clause-killed
returns-clause-killed c =
    let s = state_in c.self.inside in
    rw (← c.self.view_is) (killed_list (killed_part s.chain.entries) (killed_of s) c.name_all.new.killed.items (killed_told c))

pub returns-clause-few : goal.returns-clause-few
returns-clause-few c =
    let s = state_in c.self.inside in
    let es = s.chain.entries in
    let few = rw c.tail-tail.ensures.value at c.take_effect-self-inside.ensures.few in
    let told : length c.name_all.new.killed.items ≡ length c.deref-2.result.now =
    sym (length-map c.name_all.new.killed.items Some) ∙ ap length c.name_all.ensures
    ∙ length-map (numbers_in c.deref-2.result.now) (killed_part es) ∙ length_numbers c.deref-2.result.now in
    rw (← c.self.view_is) (omega (arith, few, told, c.deref-2.ensures.len, c.name_all.new.killed.ok))

pub returns-clause-marked : goal.returns-clause-marked
returns-clause-marked c =
    let s = state_in c.self.inside in
    rw (chain_is c, marks_are c) (published_killed s c.name_all.new.killed.items c.holds_together.ensures.rising (killed_told c))
