-- What holds of a cell holds where its room has grown.
use Rattle.std.proofs.Common.{◌≡◌, ℕ, ◌+◌, ◌-◌, ◌<◌, ◌≤◌, List, arith, refl, ap, sym, ◌∙◌, subst, length}
use Rattle.std.specs.Prelude.{count_by, vec_capacity}
use Rattle.nv_entry.specs.Covered.{part_total}
use Rattle.nv_entry.specs.Refs.{scan_ref}
use Rattle.nv_log.specs.Chain.{ChainState}
use Rattle.nv_nindex.specs.NameIndex.{binding_of}
use Rattle.nv_cell.specs.declared.cell.InodeCell.TheInside.{Inside}
use Rattle.nv_cell.specs.declared.mark.Mark.{Mark}
use Rattle.nv_cell.specs.declared.marks.Marks.{Marks}
use Rattle.nv_cell.specs.Cell.{CellState, HasBlocks, HasMarks, held_count, log_of}
use Rattle.nv_cell.specs.Fields.{AreFields, state_in}
use Rattle.nv_cell.specs.Index.{IndexValue, bindings_of}
use Rattle.nv_cell.specs.Marks.{is_there}
use Rattle.nv_cell.specs.Numbers.{part_base}
use Rattle.nv_cell.specs.Room.{HasGrown, HasSameParts, HaveGrown}
use Rattle.nv_cell.specs.Slots.{slot_total}
use Rattle.nv_cell.specs.Tallies.{AreTallied, HasSpare, end_at}

pub same_parts : (index : IndexValue) → HasSameParts index index
same_parts index = record { refs = λ key. refl; pages = refl; names = refl; room = omega arith }

pub spare_grown : (old new : Marks) (parts entries : ℕ) → HaveGrown old new → HasSpare old parts entries → HasSpare new parts entries
spare_grown old new parts entries g h = record {
  marks = omega (arith, h.marks, g.marks.capacity, ap length g.marks.items);
  ends = omega (arith, h.ends, g.ends.capacity, ap length g.ends.items);
  tallies = omega (arith, h.tallies, g.tallies.capacity, ap length g.tallies.items);
}

tallied_grown : (old new : Marks) (ends : List ℕ) → HaveGrown old new → AreTallied old ends → AreTallied new ends
tallied_grown old new ends g h = record {
  tallies = rw (g.tallies.items, g.ends.items, g.marks.items) h.tallies;
  counts = rw (g.pages.items, g.tallies.items) h.counts;
  there = g.there ∙ h.there ∙ ap (count_by is_there) (sym g.marks.items);
}

-- a cell that differs from another in room alone
pub record Grows (old new : Inside) : Type 0 where
  pub block : new.block ≡ old.block
  pub generation : new.generation ≡ old.generation
  pub version : new.version ≡ old.version
  pub chain : new.chain.state ≡ old.chain.state
  pub marks : HaveGrown old.marks new.marks
  pub blocks : HasGrown old.blocks new.blocks
  pub held : new.held ≡ old.held
  pub index : HasSameParts old.index new.index
  pub numbers : HasGrown old.numbers new.numbers
  pub killed : HasGrown old.killed new.killed
  pub spare : HasSpare new.marks (part_total old.chain.state.entries - length old.marks.marks.items + new.parts)
      (length old.chain.state.entries - old.chain.state.tail + new.entries)
  pub places : slot_total old.chain.state.entries + new.parts ≤ vec_capacity new.blocks
  pub pages : length new.chain.state.blocks + new.chain.spare ≤ vec_capacity new.marks.pages

pub same_state : (old new : Inside) → Grows old new → state_in new ≡ state_in old
same_state old new g = rw (g.block, g.generation, g.version, g.chain, g.marks.marks.items, g.blocks.items) refl

pub fields_grown : (old new : Inside) → AreFields old → Grows old new → AreFields new
fields_grown old new h g =
    let same = same_state old new g in
    let parts : part_total new.chain.state.entries - length new.marks.marks.items + new.parts
    ≡ part_total old.chain.state.entries - length old.marks.marks.items + new.parts =
    ap (λ (s : ChainState). part_total s.entries - length new.marks.marks.items + new.parts) g.chain
    ∙ ap (λ (marks : List Mark). part_total old.chain.state.entries - length marks + new.parts) g.marks.marks.items in
    let entries : length new.chain.state.entries - new.chain.state.tail + new.entries
    ≡ length old.chain.state.entries - old.chain.state.tail + new.entries =
    ap (λ (s : ChainState). length s.entries - s.tail + new.entries) g.chain in
    record {
      some = rw g.block h.some;
      pages = rw (g.block, g.chain) h.pages;
      marks = subst (λ (s : CellState). HasMarks s) (sym same) h.marks;
      blocks = subst (λ (s : CellState). HasBlocks s) (sym same) h.blocks;
      refs = λ key. g.index.refs key ∙ h.refs key ∙ ap (λ (s : CellState). scan_ref s.block (log_of s) key) (sym same);
      names =
          λ name. ap (binding_of name) g.index.names ∙ h.names name
          ∙ ap (λ (s : CellState). binding_of name (bindings_of (log_of s))) (sym same);
      ends_len = ap length g.marks.ends.items ∙ h.ends_len ∙ ap (λ (s : ChainState). s.tail) (sym g.chain);
      ends = λ i lt.
          ap (λ (ends : List ℕ). end_at ends i) g.marks.ends.items
          ∙ h.ends i (subst (λ (s : ChainState). i < s.tail) g.chain lt)
          ∙ ap (λ (s : ChainState). part_base s.entries (i + 1)) (sym g.chain);
      tallied = rw g.chain (tallied_grown old.marks new.marks old.chain.state.ends g.marks h.tallied);
      spare = record {
        marks = omega (arith, g.spare.marks, parts);
        ends = omega (arith, g.spare.ends, entries);
        tallies = omega (arith, g.spare.tallies, entries);
      };
      held = g.held ∙ h.held ∙ ap (λ (s : CellState). held_count s.blocks) (sym same);
      slots = ap length g.blocks.items ∙ h.slots ∙ ap (λ (s : ChainState). slot_total s.entries) (sym g.chain);
      blocks_room = rw g.chain g.places;
      pages_room = g.pages;
      no_numbers = g.numbers.items ∙ h.no_numbers;
      no_killed = g.killed.items ∙ h.no_killed;
    }

-- the same where no more entries and parts are to follow than before
pub fields_kept : {old new : Inside} → AreFields old
    → new ≡ record old {
      chain = new.chain;
      index = new.index;
      marks = new.marks;
      blocks = new.blocks;
      numbers = new.numbers;
      killed = new.killed;
    }
    → new.chain.state ≡ old.chain.state → HaveGrown old.marks new.marks → HasGrown old.blocks new.blocks
    → HasSameParts old.index new.index → HasGrown old.numbers new.numbers → HasGrown old.killed new.killed
    → length new.chain.state.blocks + new.chain.spare ≤ vec_capacity new.marks.pages → AreFields new
fields_kept {old} {new} h same chain marks blocks index numbers killed pages =
    let es = old.chain.state.entries in
    let entries = ap (λ (c : Inside). c.entries) same in
    let parts = ap (λ (c : Inside). c.parts) same in
    fields_grown old new h (record {
      block = ap (λ (c : Inside). c.block) same;
      generation = ap (λ (c : Inside). c.generation) same;
      version = ap (λ (c : Inside). c.version) same;
      chain = chain;
      marks = marks;
      blocks = blocks;
      held = ap (λ (c : Inside). c.held) same;
      index = index;
      numbers = numbers;
      killed = killed;
      spare = rw (entries, parts) (spare_grown old.marks new.marks (part_total es - length old.marks.marks.items + old.parts)
          (length es - old.chain.state.tail + old.entries) marks h.spare);
      places = omega (arith, h.blocks_room, blocks.capacity, parts);
      pages = pages;
    })
