-- What a cell that is ready for items stays ready for, page by page and entry by entry.
use Rattle.std.proofs.Common.{◌≡◌, ℕ, zero, suc, ◌+◌, ◌-◌, ◌*◌, ◌<◌, ◌≤◌, List, [], ◌∷◌, ◌++◌, length, drop, arith, refl, ap, sym, ◌∙◌, subst, append_assoc}
use Rattle.std.specs.Option.{ForSome}
use Rattle.std.proofs.lemmas.List.{append-nil, drop-append-le, map-append}
use Rattle.std.proofs.lemmas.List.Sums.{sum_by-cons}
use Rattle.nv_alloc.specs.Block.{BlockValue}
use Rattle.nv_base.specs.Ids.{IsIdBefore}
use Rattle.nv_entry.specs.declared.item.Entry.{Entry}
use Rattle.nv_entry.specs.declared.item.Item.{Item}
use Rattle.nv_entry.specs.Covered.{part_count}
use Rattle.nv_entry.specs.Keys.{parts_of}
use Rattle.nv_log.specs.Chain.{ChainState, IsChain, appended as appended_chain, last_epoch, last_id, room_of, with_page}
use Rattle.nv_log.proofs.Chains.{appends_entry, room-page}
use Rattle.nv_cell.specs.Append.{IsWithinFile, MayAppend, after_append, appended}
use Rattle.nv_cell.specs.Cell.{CanPublish, CellState, CellValue, fresh_of}
use Rattle.nv_cell.specs.Effects.{items_of}
use Rattle.nv_cell.specs.Room.{AddsPage, CanAppend, IsReadyFor}
use Rattle.nv_cell.proofs.Appending.{log_stays}

-- ---- one page more

pub adds_page : (block : BlockValue) (chain : ChainState) → IsChain chain → AddsPage chain (with_page block chain)
adds_page block chain is = record { room_rises = room-page chain block is }

-- one page of those that there is room for
one_taken : (n room pages page : ℕ) → n ≤ room + pages * page → n ≤ room + page + (pages - 1) * page
one_taken n room zero page le = omega (arith, le)
one_taken n room (suc pages) page le = let back : suc pages - 1 ≡ pages = omega arith in rw back (omega (arith, le))

pub page_ready : (block : BlockValue) (items : List Item) (old new : CellValue) → IsChain old.state.chain
    → new.state ≡ record old.state { chain = with_page block old.state.chain } → new.room ≡ record old.room { pages = old.room.pages - 1 }
    → IsReadyFor items old → IsReadyFor items new
page_ready block items old new is state room h = record {
  append = record {
    pages = rw (state, room) (rw (adds_page block old.state.chain is).room_rises
        (one_taken (length items) (room_of old.state.chain) old.room.pages old.state.chain.page h.append.pages));
    entries = rw room h.append.entries;
    parts = rw room h.append.parts;
  };
  publish = record {
    runs = rw (state, room) h.publish.runs;
    names = rw (state, room) h.publish.names;
    killed = rw (state, room) h.publish.killed;
  };
}

-- ---- one entry more

pub first_may : (e : Entry) (later : List Item) (cell : CellValue) → IsReadyFor (e.item ∷ later) cell → 0 < room_of cell.state.chain
    → ForSome (last_id cell.state.chain) (λ last. IsIdBefore last e.id) → ForSome (last_epoch cell.state.chain) (λ last. last ≤ e.epoch)
    → IsWithinFile e.item → MayAppend e cell
first_may e later cell h page id epoch within = record {
  page = page;
  entries = omega (arith, h.append.entries);
  parts = omega (arith, h.append.parts, sum_by-cons (λ item. length (parts_of item)) e.item later);
  id = id;
  epoch = epoch;
  within = within;
}

-- the entries past the tail, and those that follow
fresh_more : (chain : ChainState) (e : Entry) (later : List Item) → chain.tail ≤ length chain.entries
    → items_of (drop chain.tail (chain.entries ++ e ∷ [])) ++ later ≡ items_of (drop chain.tail chain.entries) ++ e.item ∷ later
fresh_more chain e later le =
    ap (λ (es : List Entry). items_of es ++ later) (drop-append-le chain.tail chain.entries (e ∷ []) le)
    ∙ ap (λ (items : List Item). items ++ later) (map-append (λ (x : Entry). x.item) (drop chain.tail chain.entries) (e ∷ []))
    ∙ append_assoc (items_of (drop chain.tail chain.entries)) (e.item ∷ []) later

pub others_ready : (e : Entry) (blocks : List BlockValue) (later : List Item) (old new : CellValue) → IsChain old.state.chain
    → 0 < room_of old.state.chain
    → new.state ≡ appended e blocks old.state → new.room ≡ after_append (part_count e) old.room
    → IsReadyFor (e.item ∷ later) old → IsReadyFor later new
others_ready e blocks later old new is page state room h =
    let chain = old.state.chain in
    let falls : room_of (appended_chain e chain) + 1 ≡ room_of chain = (appends_entry chain e is page).room_falls in
    let fresh = fresh_more chain e later is.within in
    let log = log_stays chain.tail chain.entries e is.within in
    record {
      append = record {
        pages = rw (state, room) (omega (arith, falls, h.append.pages));
        entries = rw room (omega (arith, h.append.entries));
        parts = rw room (omega (arith, h.append.parts, sum_by-cons (λ item. length (parts_of item)) e.item later));
      };
      publish = record {
        runs = rw (state, room, fresh) h.publish.runs;
        names = rw (state, room, fresh, log) h.publish.names;
        killed = rw (state, room, fresh, log) h.publish.killed;
      };
    }

-- ---- the first and the last

pub none_left : (cell : CellValue) → IsReadyFor [] cell → CanPublish (items_of (fresh_of cell.state)) cell
none_left cell h = subst (λ (items : List Item). CanPublish items cell) (append-nil (items_of (fresh_of cell.state))) h.publish

-- where all entries are published none stands past the tail
pub none_fresh : (cell : CellState) → cell.chain.tail ≡ length cell.chain.entries → items_of (fresh_of cell) ≡ []
none_fresh cell settled = ap (λ (n : ℕ). items_of (drop n cell.chain.entries)) settled ∙ ap items_of (past cell.chain.entries) where
  past : (es : List Entry) → drop (length es) es ≡ []
  past [] = refl
  past (e ∷ es) = past es

-- where none does, the items alone are to be published
only_these : (items : List Item) (cell : CellState) → cell.chain.tail ≡ length cell.chain.entries
    → items_of (fresh_of cell) ++ items ≡ items
only_these items cell settled = ap (λ (fresh : List Item). fresh ++ items) (none_fresh cell settled)

pub settled_ready : (items : List Item) (cell : CellValue) → cell.state.chain.tail ≡ length cell.state.chain.entries
    → CanAppend items cell → CanPublish items cell → IsReadyFor items cell
settled_ready items cell settled append publish = record {
  append = append;
  publish = subst (λ (all : List Item). CanPublish all cell) (sym (only_these items cell.state settled)) publish;
}

pub settled_publish : (items : List Item) (cell : CellValue) → cell.state.chain.tail ≡ length cell.state.chain.entries
    → IsReadyFor items cell → CanPublish items cell
settled_publish items cell settled h = subst (λ (all : List Item). CanPublish all cell) (only_these items cell.state settled) h.publish
