-- Who holds each page, and which pages are skipped as held.
use Rattle.std.specs.Prelude.{◌≡◌, ℕ, ◌<◌, ◌≤◌, List, Option, Some, None, IsSome, slice_index_or}
use Rattle.std.specs.Option.{option_map}
use Rattle.nv_base.specs.declared.numbers.EntryId.{EntryId}
use Rattle.nv_reader.specs.declared.pages.Writer.{Writer}

-- the entry that is known to hold a page
abbrev pub entry_at : List (Option Writer) → ℕ → Option EntryId
entry_at writers page = option_map (λ w. w.entry) (slice_index_or writers page None)

-- a page that is held says from where on to look: the pages before that are held too
pub record AreSkips (writers : List (Option Writer)) : Type 0 where
  -- the place to look on from is behind the page
  pub ahead : (page : ℕ) (w : Writer) → slice_index_or writers page None ≡ Some w → page < w.past
  -- each page from this one up to that place is held
  pub held : (page other : ℕ) (w : Writer) → slice_index_or writers page None ≡ Some w → page ≤ other → other < w.past
      → IsSome (slice_index_or writers other None)
