-- What the questions of lists, slots, the pool and blocks give of the world at rest that parts make.
use Rattle.std.proofs.Common.{◌≡◌, ℕ, zero, suc, ◌+◌, ◌<◌, ◌≤◌, ◌++◌, inl, inr, Bool, true, false, List, [], ◌∷◌, cond, length, not, replicate, arith, refl, ap, ap₂, sym, subst, ◌∙◌}
use Rattle.std.specs.Prelude.{◌||◌}
use Rattle.std.specs.List.{flat_map}
use Rattle.std.proofs.lemmas.Bool.{cases_lt, false≢true}
use Rattle.std.proofs.lemmas.List.{append-nil, get_or_past}
use Rattle.nv_base.specs.declared.limits.TheConstants.{NUMBER}
use Rattle.nv_alloc.specs.Numbers.{IsEachOnce, has, unused}
use Rattle.nv_log.specs.Chain.{AreEnds}
use Rattle.nv_cell.specs.Cell.{CellState, IsCell, stored_in}
use Rattle.nv_cell.specs.Readers.{has_inode, is_erased, is_withheld}
use Rattle.nv_machine.specs.Hands.{AreLists}
use Rattle.nv_machine.specs.Numbers.{all_blocks, free_of, held_by_actor}
use Rattle.nv_machine.specs.Pages.{AreOnPages}
use Rattle.nv_machine.specs.PoolScan.{is_number_used, number_held, numbers_held, pool_from_scratch}
use Rattle.nv_machine.specs.World.{cell_at, idle, no_cell}
use Rattle.nv_audit.specs.Blocks as audit
use Rattle.nv_audit.specs.DeviceParts.{AreListsOf, AreSlotsOf, IsSlotOf}
use Rattle.nv_audit.specs.Pool.{IsPoolOf, is_used}
use Rattle.nv_audit.specs.Records.{states_of}
use Rattle.nv_parts.specs.AtRest.{at_rest}
use Rattle.nv_parts.specs.declared.parts.Parts.{Parts}

-- ---- lists and blocks

pub rest_lists : (parts : Parts) → AreListsOf parts.geometry.numbers parts.lists
    → AreLists parts.geometry.numbers (at_rest parts).shared
rest_lists parts are = record { cpus = are.cpus; each = are.each }

no_blocks : (k : ℕ) → flat_map held_by_actor (replicate k idle) ≡ []
no_blocks zero = refl
no_blocks (suc k) = no_blocks k

abbrev with_hands : Parts → List ℕ → List ℕ
with_hands parts held = flat_map free_of parts.lists ++ (flat_map stored_in (states_of parts.cells) ++ held)

all_same : (parts : Parts) → audit.all_blocks parts.lists (states_of parts.cells) ≡ all_blocks (at_rest parts)
all_same parts =
    ap (λ (ns : List ℕ). flat_map free_of parts.lists ++ ns) (sym (append-nil (flat_map stored_in (states_of parts.cells))))
    ∙ ap (with_hands parts) (sym (no_blocks parts.geometry.numbers.actors))

pub rest_once : (parts : Parts) → IsEachOnce parts.geometry.numbers.blocks (audit.all_blocks parts.lists (states_of parts.cells))
    → IsEachOnce parts.geometry.numbers.blocks (all_blocks (at_rest parts))
rest_once parts = subst (IsEachOnce parts.geometry.numbers.blocks) (all_same parts)

pub rest_once_is : (parts : Parts) → IsEachOnce parts.geometry.numbers.blocks (all_blocks (at_rest parts))
    → IsEachOnce parts.geometry.numbers.blocks (audit.all_blocks parts.lists (states_of parts.cells))
rest_once_is parts = subst (IsEachOnce parts.geometry.numbers.blocks) (sym (all_same parts))

-- ---- slots

abbrev slot_in : Parts → ℕ → CellState
slot_in parts ino = cell_at (at_rest parts).shared ino

within : (parts : Parts) (ino : ℕ) → AreSlotsOf parts.geometry.numbers (states_of parts.cells) → ino < parts.geometry.numbers.inodes
    → IsSlotOf parts.geometry.numbers (slot_in parts ino)
within parts ino are lt = are.each ino no_cell (omega (arith, lt, are.count))

past : (parts : Parts) (ino : ℕ) → AreSlotsOf parts.geometry.numbers (states_of parts.cells) → parts.geometry.numbers.inodes ≤ ino
    → slot_in parts ino ≡ no_cell
past parts ino are from = get_or_past (states_of parts.cells) ino no_cell (omega (arith, from, are.count))

pub rest_sizes : (parts : Parts) → AreSlotsOf parts.geometry.numbers (states_of parts.cells) → (ino : ℕ)
    → ino < parts.geometry.numbers.inodes → (slot_in parts ino).block ≡ parts.geometry.numbers.block
rest_sizes parts are ino lt = (within parts ino are lt).sizes.block

pub rest_pages : (parts : Parts) → AreSlotsOf parts.geometry.numbers (states_of parts.cells) → (ino : ℕ)
    → ino < parts.geometry.numbers.inodes → IsCell (slot_in parts ino)
    → AreOnPages parts.geometry.numbers.page (slot_in parts ino).chain
rest_pages parts are ino lt cell =
    let chain = (slot_in parts ino).chain in
    let size = (within parts ino are lt).sizes.page in
    record {
      size = size;
      each = cell.chain.paged;
      parted = subst (λ (page : ℕ). AreEnds page 0 chain.ends (length chain.entries)) size cell.chain.parted;
    }

pub rest_early : (parts : Parts) → AreSlotsOf parts.geometry.numbers (states_of parts.cells) → (ino : ℕ)
    → has_inode (slot_in parts ino) ≡ true → (slot_in parts ino).generation < NUMBER
rest_early parts are ino has =
    elim (cases_lt ino parts.geometry.numbers.inodes) [
      | inl lt ↦ (within parts ino are lt).early has
      | inr from ↦ absurd (false≢true (sym (ap has_inode (past parts ino are (omega (arith, from)))) ∙ has))
    ]

pub rest_erased : (parts : Parts) → AreSlotsOf parts.geometry.numbers (states_of parts.cells) → (ino : ℕ)
    → is_erased (slot_in parts ino) ≡ false
rest_erased parts are ino =
    elim (cases_lt ino parts.geometry.numbers.inodes) [
      | inl lt ↦ (within parts ino are lt).erased
      | inr from ↦ ap is_erased (past parts ino are (omega (arith, from)))
    ]

-- ---- the pool

no_numbers : (k : ℕ) → flat_map number_held (replicate k idle) ≡ []
no_numbers zero = refl
no_numbers (suc k) = no_numbers k

unused_same : (one other : ℕ → Bool) → ((n : ℕ) → one n ≡ other n) → (low len : ℕ) → unused one low len ≡ unused other low len
unused_same one other same low zero = refl
unused_same one other same low (suc len) =
    ap₂ (λ (used : Bool) (ns : List ℕ). cond (not used) (low ∷ ns) ns) (same low) (unused_same one other same (low + 1) len)

or_none : (a b : Bool) → a || b ≡ a || b || false
or_none true b = refl
or_none false true = refl
or_none false false = refl

pool_same : (parts : Parts)
    → unused (is_used (states_of parts.cells)) 0 parts.geometry.numbers.inodes ≡ pool_from_scratch parts.geometry.numbers (at_rest parts)
pool_same parts =
    let w = at_rest parts in
    let g = parts.geometry.numbers in
    unused_same (is_used (states_of parts.cells)) (is_number_used w) (λ n.
    let slot = slot_in parts n in
    let free : false ≡ has (numbers_held w) n = ap (λ (ns : List ℕ). has ns n) (sym (no_numbers g.actors)) in
    or_none (has_inode slot) (is_withheld slot) ∙ ap (λ (held : Bool). has_inode slot || is_withheld slot || held) free) 0 g.inodes

pub rest_pool : (parts : Parts) → IsPoolOf parts.geometry.numbers (states_of parts.cells) parts.pool
    → parts.pool.numbers ≡ pool_from_scratch parts.geometry.numbers (at_rest parts)
rest_pool parts is = is.numbers ∙ pool_same parts

pub rest_pool_is : (parts : Parts) → parts.pool.numbers ≡ pool_from_scratch parts.geometry.numbers (at_rest parts)
    → parts.pool.numbers ≡ unused (is_used (states_of parts.cells)) 0 parts.geometry.numbers.inodes
rest_pool_is parts is = is ∙ sym (pool_same parts)
