-- Whether a slot has an inode, after each change of its cell.
use Rattle.std.proofs.Common.{◌≡◌, ℕ, ◌≤◌, ◌++◌, ◌∙◌, Bool, true, false, List, [], ◌∷◌, Option, drop, ap, arith, length, nat_lt, refl, take}
use Rattle.std.specs.Prelude.{◌||◌, nat_le, unwrap_or}
use Rattle.std.specs.Option.{option_map}
use Rattle.std.proofs.lemmas.Bool.{and_parts, false≢true}
use Rattle.std.proofs.lemmas.List.{take-append-le}
use Rattle.nv_alloc.specs.Block.{BlockValue}
use Rattle.nv_base.specs.declared.limits.TheConstants.{NUMBER}
use Rattle.nv_calls.specs.Retiring.{retired}
use Rattle.nv_calls.specs.Slots.{entries_of, items_for, place_in}
use Rattle.nv_calls.proofs.Grown.{last_step}
use Rattle.nv_calls.proofs.Next.{Keeps}
use Rattle.nv_calls.proofs.Retires.{chain_stays, generation_stays}
use Rattle.nv_cell.specs.Append.{appended, blocks_for}
use Rattle.nv_cell.specs.Cell.{CellState, log_of, published}
use Rattle.nv_cell.specs.Readers.{has_entry, has_inode, is_erased, is_gone, is_last_word, is_withheld, keeps_nothing}
use Rattle.nv_cell.specs.declared.killed.KilledPart.{KilledPart}
use Rattle.nv_cell.proofs.Publishing.{take_whole}
use Rattle.nv_entry.specs.Blocks.{item_blocks}
use Rattle.nv_entry.specs.declared.item.Entry.{Entry}
use Rattle.nv_entry.specs.declared.item.Item.{Item}
use Rattle.nv_log.specs.Chain.{log}
use Rattle.nv_machine.specs.Kinds.{entries_for, with_entries, with_log_pages}
use Rattle.nv_machine.specs.Reads.{is_written}
use Rattle.nv_machine.specs.World.{Running}
use Rattle.nv_machine.proofs.AppendsToCome.{entries_more, pages_keep}

-- ---- one for a slot whose number is not free

abbrev pub is_taken : CellState → Bool
is_taken cell = has_inode cell || is_withheld cell

abbrev pub one_if : Bool → ℕ
one_if true = 1
one_if false = 0

abbrev pub taken_once : CellState → ℕ
taken_once cell = one_if (is_taken cell)

pub with_inode : (cell : CellState) → has_inode cell ≡ true → taken_once cell ≡ 1
with_inode cell h = rw h refl

-- a slot whose number is free has no inode
pub no_inode : (cell : CellState) → taken_once cell ≡ 0 → (has_inode cell ≡ false) × (is_withheld cell ≡ false)
no_inode cell h = go (has_inode cell) (is_withheld cell) h where
  go : (b c : Bool) → one_if (b || c) ≡ 0 → (b ≡ false) × (c ≡ false)
  go true c h = absurd (omega (arith, h))
  go false true h = absurd (omega (arith, h))
  go false false h = (refl, refl)

pub not_taken : (cell : CellState) → has_inode cell ≡ false → is_withheld cell ≡ false → taken_once cell ≡ 0
not_taken cell h k = rw (h, k) refl

-- ---- a log that is empty where it was, and the same generation

pub record IsLike (old new : CellState) : Type 0 where
  pub inode : has_inode new ≡ has_inode old
  pub generation : new.generation ≡ old.generation

pub like_taken : (old new : CellState) → IsLike old new → taken_once new ≡ taken_once old
like_taken old new same =
    ap (λ (b : Bool). one_if (b || nat_le NUMBER new.generation)) same.inode
    ∙ ap (λ (n : ℕ). one_if (has_inode old || nat_le NUMBER n)) same.generation

pub like_inode : (old new : CellState) → IsLike old new → has_inode old ≡ true → has_inode new ≡ true
like_inode old new same h = same.inode ∙ h

-- ---- append

paged_rest : (pages : List BlockValue) (cell : CellState)
    → ((with_log_pages pages cell).chain.tail ≡ cell.chain.tail) × ((with_log_pages pages cell).generation ≡ cell.generation)
paged_rest [] cell = (refl, refl)
paged_rest (b ∷ pages) cell = paged_rest pages _

more_rest : (entries : List Entry) (blocks : List BlockValue) (cell : CellState)
    → ((with_entries entries blocks cell).chain.tail ≡ cell.chain.tail) × ((with_entries entries blocks cell).generation ≡ cell.generation)
more_rest [] blocks cell = (refl, refl)
more_rest (e ∷ entries) blocks cell =
    more_rest entries (drop (length (item_blocks e.item)) blocks) (appended e (blocks_for e.item blocks) cell)

-- entries past the tail change neither
pub appended_like : (entries : List Entry) (blocks pages : List BlockValue) (cell : CellState)
    → cell.chain.tail ≤ length cell.chain.entries → IsLike cell (with_entries entries blocks (with_log_pages pages cell))
appended_like entries blocks pages cell within =
    let more = with_log_pages pages cell in
    let rest = more_rest entries blocks more in
    let first = paged_rest pages cell in
    record {
      inode = ap has_entry (ap (λ (n : ℕ). take n (with_entries entries blocks more).chain.entries) (rest.0 ∙ first.0)
          ∙ ap (take cell.chain.tail) (entries_more entries blocks more ∙ ap (λ (l : List Entry). l ++ entries) (pages_keep pages cell))
          ∙ take-append-le cell.chain.tail cell.chain.entries entries within);
      generation = rest.1 ∙ first.1;
    }

-- ---- the entries of a commit

-- a log that ends with these entries
pub record EndsWith (es all : List Entry) : Type 0 where
  pub front : List Entry
  pub is : all ≡ front ++ es

some_entries : (commit epoch place : ℕ) (items : List Item) → nat_lt 0 (length items) ≡ true
    → has_entry (entries_of commit epoch place items) ≡ true
some_entries commit epoch place [] h = absurd (false≢true h)
some_entries commit epoch place (item ∷ items) h = refl

pub written_some : (r : Running) (ino : ℕ) → is_written r.plan ino ≡ true → has_entry (entries_for r ino) ≡ true
written_some r ino h = some_entries r.commit r.epoch (place_in r.plan ino) (items_for r.plan ino) h

pub ends_some : (es all : List Entry) → EndsWith es all → has_entry es ≡ true → has_entry all ≡ true
ends_some es all ends some = ap has_entry ends.is ∙ go ends.front es some where
  go : (front es : List Entry) → has_entry es ≡ true → has_entry (front ++ es) ≡ true
  go [] es h = h
  go (x ∷ front) es h = refl

-- whether the inode is gone is said by them
pub ends_gone : (es all : List Entry) → EndsWith es all → has_entry es ≡ true → is_gone all ≡ is_gone es
ends_gone es all ends some = ap is_gone ends.is ∙ go ends.front es some where
  word : (x y : Entry) (ys : List Entry) → is_gone (x ∷ y ∷ ys) ≡ is_gone (y ∷ ys)
  word x y ys = ap (λ (o : Option Entry). unwrap_or (option_map (λ (e : Entry). is_last_word e.item) o) false) (last_step x y ys)

  behind : (front : List Entry) (e : Entry) (es : List Entry) → is_gone (front ++ e ∷ es) ≡ is_gone (e ∷ es)
  behind [] e es = refl
  behind (x ∷ []) e es = word x e es
  behind (x ∷ y ∷ front) e es = word x y (front ++ e ∷ es) ∙ behind (y ∷ front) e es

  go : (front es : List Entry) → has_entry es ≡ true → is_gone (front ++ es) ≡ is_gone es
  go front [] h = absurd (false≢true h)
  go front (e ∷ es) h = behind front e es

-- ---- publish: the log is all entries

pub published_log : (cell : CellState) → log_of (published cell) ≡ cell.chain.entries
published_log cell = take_whole cell.chain.entries

-- ---- retire and erase

pub retired_like : (living : List ℕ) (ino epoch : ℕ) (parts : List KilledPart) (cell : CellState)
    → IsLike cell (retired living ino epoch parts cell)
retired_like living ino epoch parts cell = record {
  inode = ap has_entry (ap log (chain_stays living ino epoch parts cell));
  generation = generation_stays living ino epoch parts cell;
}

pub keeps_like : (old new : CellState) → Keeps old new → IsLike old new
keeps_like old new kept = record { inode = ap has_entry (ap log kept.chain); generation = kept.generation }

-- one that is gone has a log
pub gone_inode : (cell : CellState) → is_gone (log_of cell) ≡ true → has_inode cell ≡ true
gone_inode cell h = go (log_of cell) h where
  go : (l : List Entry) → is_gone l ≡ true → has_entry l ≡ true
  go [] h = absurd (false≢true h)
  go (e ∷ l) h = refl

pub erased_gone : (cell : CellState) → is_erased cell ≡ true → is_gone (log_of cell) ≡ true
erased_gone cell h = (and_parts (is_gone (log_of cell)) (keeps_nothing cell) h).0
