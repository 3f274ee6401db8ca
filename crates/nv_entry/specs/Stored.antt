-- What a log has stored of its inode, and what one more item makes of it.
use Rattle.std.specs.Prelude.{ℕ, ◌+◌, ◌-◌, if◌then◌else◌, List, [], ◌∷◌, Option, Some, None, option_and_then, unwrap_or}
use Rattle.nv_base.specs.declared.node.Kind.{Kind}
use Rattle.nv_entry.specs.declared.item.Entry.{Entry}
use Rattle.nv_entry.specs.declared.item.Item.{Item}
use Rattle.nv_entry.specs.declared.item.Item.TheVariants.{Init, Write, SetSize, SetMode, Bind, Unbind, Gone}
use Rattle.nv_entry.specs.declared.key.Datum.{Datum}
use Rattle.nv_entry.specs.declared.key.Datum.TheVariants as datum
use Rattle.nv_entry.specs.declared.names.BoundName.{BoundName}
use Rattle.nv_entry.specs.Data.{block_in, mode_in, size_in}
use Rattle.nv_entry.specs.Index.{names_after, names_of}
use Rattle.nv_entry.specs.Keys.{Key, KindKey, ModeKey, SizeKey, PageKey, in_run, is_page, is_past}
use Rattle.nv_entry.specs.Log.{value_now}

-- what a log has stored of its inode
pub record Stored : Type 0 where
  -- whether it is a file or a directory; none where there is no inode
  pub kind : Option Kind
  -- its mode; 0 where none is set
  pub mode : ℕ
  -- its size in bytes; 0 where none is set
  pub size : ℕ
  -- the block of each page that is present
  pub blocks : ℕ → Option ℕ
  -- the names that it binds, in log order
  pub names : List BoundName

-- what an empty log has stored
abbrev pub nothing : Stored
nothing = record { kind = None; mode = 0; size = 0; blocks = λ page. None; names = [] }

-- the kind that a value is, if it is one
abbrev pub kind_in : Datum → Option Kind
kind_in (datum.Kind kind) = Some kind
kind_in value = None

-- what values and names store
abbrev pub stored_by : (Key → Option Datum) → List BoundName → Stored
stored_by value names = record {
  kind = option_and_then kind_in (value KindKey);
  mode = unwrap_or (option_and_then mode_in (value ModeKey)) 0;
  size = unwrap_or (option_and_then size_in (value SizeKey)) 0;
  blocks = λ page. option_and_then block_in (value (PageKey page));
  names = names;
}

-- what the values of a log say of its inode
abbrev pub stored : ℕ → List Entry → Stored
stored block log = stored_by (value_now block log) (names_of log)

-- the block of a page after one more item
abbrev pub block_after : ℕ → Item → ℕ → Option ℕ → Option ℕ
block_after block (Write first run size) page before = if in_run first run page then Some (run.start + (page - first)) else before
block_after block (SetSize size) page before = if is_past block size page then None else before
block_after block Gone page before = if is_page page then None else before
block_after block item page before = before

-- what is stored after one more item, whatever the log
abbrev pub stored_after : ℕ → Item → Stored → Stored
stored_after block (Init kind mode) s = record s { kind = Some kind; mode = mode; size = 0 }
stored_after block (Write first run size) s =
    record s { size = size; blocks = λ page. block_after block (Write first run size) page (s.blocks page) }
stored_after block (SetSize size) s = record s { size = size; blocks = λ page. block_after block (SetSize size) page (s.blocks page) }
stored_after block (SetMode mode) s = record s { mode = mode }
stored_after block (Bind name to) s = record s { names = names_after (Bind name to) s.names }
stored_after block (Unbind name) s = record s { names = names_after (Unbind name) s.names }
stored_after block Gone s = record nothing { blocks = λ page. block_after block Gone page (s.blocks page) }

-- what is stored after several items, one after another
abbrev pub stored_after_all : ℕ → List Item → Stored → Stored
stored_after_all block [] s = s
stored_after_all block (item ∷ items) s = stored_after_all block items (stored_after block item s)
