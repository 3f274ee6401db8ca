-- How the check of a call ends it, over its lent cells as in the machine.
use Rattle.std.proofs.Common.{◌≡◌, ℕ, ◌*◌, ◌/◌, ◌%◌, ◌<◌, ◌≤◌, ◌==◌, ◌&&◌, ◌||◌, ◌∙◌, not, nat_lt, Bool, true, false, cond, List, [], ◌∷◌, length, Option, None, arith, refl, ap, ap₂, sym, subst}
use Rattle.std.specs.Prelude.{Ok, Err, is_some}
use Rattle.std.proofs.Math.Nat.{mul-le-mul_right}
use Rattle.std.proofs.lemmas.Bool.{eq-eqb, ltb-false}
use Rattle.std.proofs.lemmas.Nat.{div-add-mod'}
use Rattle.nv_base.specs.declared.fault.Fault.TheVariants as fault
use Rattle.nv_base.specs.declared.numbers.Handle.{Handle}
use Rattle.nv_calls.proofs.CheckEnds.{looked_is}
use Rattle.nv_calls.proofs.Nothing.{told_nothing}
use Rattle.nv_calls.proofs.Passed.{file_passed, if_passed}
use Rattle.nv_calls.proofs.TextLengths.{same_plan}
use Rattle.nv_calls.specs.AllCalls.{blocks_wanted, early, effect, ends_in_page, is_nothing, late, looked, refusal}
use Rattle.nv_calls.specs.Locked.{SameCall, handles}
use Rattle.nv_calls.specs.Nodes.{has_page_in, nodes_in, plain_nodes}
use Rattle.nv_calls.specs.Plain.{Change}
use Rattle.nv_calls.specs.Prepared.{makes}
use Rattle.nv_calls.specs.Refusals.{Check, and_then, bytes_of, passes, refuse_if}
use Rattle.nv_calls.specs.SlotCells.{lent_cells}
use Rattle.nv_calls.specs.Updates.{SamePlan, blank_call, call_of, text_len}
use Rattle.nv_calls.specs.calls.Size.{cuts_page}
use Rattle.nv_calls.specs.declared.call.Call.{Call}
use Rattle.nv_calls.specs.declared.call.Call.TheVariants as call
use Rattle.nv_calls.specs.declared.looked.LookupResult.{LookupResult}
use Rattle.nv_calls.specs.declared.allocation.Allocation.{Allocation}
use Rattle.nv_calls.specs.declared.update.Update.{Update}
use Rattle.nv_calls.specs.declared.update.Update.TheVariants as update
use Rattle.nv_cell.specs.Cell.{CellValue}
use Rattle.nv_entry.specs.Tree.{root}
use Rattle.nv_entry.specs.declared.node.NodeCopy.{NodeCopy}
use Rattle.nv_machine.specs.Kinds.{check_ending}
use Rattle.nv_machine.specs.Reads.{copies, has_last_page, nodes}
use Rattle.nv_machine.specs.Sequence.{beginning, nothing_looked}
use Rattle.nv_machine.specs.Step.{is_numbered, same_looked}
use Rattle.nv_core.proofs.Nodes.{lent_call_same, nodes_agree, page_same}
use Rattle.nv_core.proofs.Plans.{looks_same}
use Rattle.nv_core.specs.Nodes.{CanRead, check_ends, ends_over, wanted_over}
use Rattle.nv_core.specs.Shown.{shared_of}
use Rattle.nv_core.specs.declared.shared.Shared.{Shared}

-- ---- what an update tells of its call

early_blank : (n : Handle → Option NodeCopy) (u : Update) (text : List ℕ) → early n (call_of u text) ≡ early n (blank_call u)
early_blank n (update.Create dir name mode) text = refl
early_blank n (update.Mkdir dir name mode) text = refl
early_blank n (update.Write file offset count) text = refl
early_blank n (update.Size file size) text = refl
early_blank n (update.Mode handle mode) text = refl
early_blank n (update.Unlink dir name) text = refl
early_blank n (update.Rmdir dir name) text = refl
early_blank n (update.Rename from old to new) text = refl

-- a call with any text reads the same handles
pub handles_blank : (before : LookupResult) (u : Update) (text : List ℕ) → handles before (call_of u text) ≡ handles before (blank_call u)
handles_blank before (update.Create dir name mode) text = refl
handles_blank before (update.Mkdir dir name mode) text = refl
handles_blank before (update.Write file offset count) text = refl
handles_blank before (update.Size file size) text = refl
handles_blank before (update.Mode handle mode) text = refl
handles_blank before (update.Unlink dir name) text = refl
handles_blank before (update.Rmdir dir name) text = refl
handles_blank before (update.Rename from old to new) text = refl

any_number : (b : Bool) → true ≡ (b || true)
any_number true = refl
any_number false = refl

own_number : (b : Bool) → b ≡ (b || false)
own_number true = refl
own_number false = refl

numbered_by : (number : Option ℕ) (u : Update) (text : List ℕ)
    → is_numbered (beginning (call_of u text)) number ≡ (is_some number || not (makes u))
numbered_by number (update.Create dir name mode) text = own_number (is_some number)
numbered_by number (update.Mkdir dir name mode) text = own_number (is_some number)
numbered_by number (update.Write file offset count) text = any_number (is_some number)
numbered_by number (update.Size file size) text = any_number (is_some number)
numbered_by number (update.Mode handle mode) text = any_number (is_some number)
numbered_by number (update.Unlink dir name) text = any_number (is_some number)
numbered_by number (update.Rmdir dir name) text = any_number (is_some number)
numbered_by number (update.Rename from old to new) text = any_number (is_some number)

-- the handles that it names are among those that it reads
named_read : (shared : Shared) (slots : List ℕ) (before : LookupResult) (c : Call) → CanRead shared slots (handles before c)
    → CanRead shared slots (handles nothing_looked c)
named_read shared slots before (call.Create dir name mode) can = can
named_read shared slots before (call.Mkdir dir name mode) can = can
named_read shared slots before (call.Write file offset text) can = can
named_read shared slots before (call.Read file offset count) can = can
named_read shared slots before (call.Size file size) can = can
named_read shared slots before (call.Mode handle mode) can = can
named_read shared slots before (call.Stat handle) can = can
named_read shared slots before (call.List dir) can = can
named_read shared slots before (call.Lookup dir name) can = can
named_read shared slots before (call.SnapshotOrCleaner on) can = can
named_read shared slots before (call.Unlink dir name) can = record { there = can.there; own = can.own; held = (can.held.0, tt) }
named_read shared slots before (call.Rmdir dir name) can = record { there = can.there; own = can.own; held = (can.held.0, tt) }
named_read shared slots before (call.Rename from old to new) can =
    record { there = can.there; own = can.own; held = (can.held.0, (can.held.1.0, tt)) }

-- ---- how many blocks it takes

-- a greatest size ends in no page, so that nothing is cut there
past_pages : (block size : ℕ) → size ≤ 65536 * block → nat_lt (size / block) 65536 ≡ false → size % block ≡ 0
past_pages block size few past =
    let far : 65536 ≤ size / block = ltb-false (size / block) 65536 past in
    let whole : 65536 * block ≤ size / block * block = mul-le-mul_right block far in
    omega (arith, whole, div-add-mod' size block, few)

cuts_none : (block size : ℕ) (one other : Bool) (bytes : List ℕ) → size % block ≡ 0
    → cuts_page block size one bytes ≡ cuts_page block size other bytes
cuts_none block size one other bytes none = go (nat_lt size (length bytes)) (size % block == 0) (eq-eqb (size % block) 0 none) where
  go : (less even : Bool) → even ≡ true → (less && not even && one) ≡ (less && not even && other)
  go true true is = refl
  go false true is = refl
  go less false is = cc

cuts_same : (block size : ℕ) (present : Bool) (bytes : List ℕ) → size ≤ 65536 * block
    → cuts_page block size present bytes ≡ cuts_page block size (nat_lt (size / block) 65536 && present) bytes
cuts_same block size present bytes few = go (nat_lt (size / block) 65536) refl where
  go : (within : Bool) → nat_lt (size / block) 65536 ≡ within
      → cuts_page block size present bytes ≡ cuts_page block size (within && present) bytes
  go true is = refl
  go false is = cuts_none block size present false bytes (past_pages block size few is)

-- whatever is told of the page that a size ends in, where it is past the last page
wanted_told : (shared : Shared) (slots : List ℕ) (n : Handle → Option NodeCopy) (u : Update) (text : List ℕ) (before : LookupResult)
    → CanRead shared slots (handles before (blank_call u)) → refusal shared.geometry.numbers.block n (blank_call u) ≡ passes
    → blocks_wanted shared.geometry.numbers.block n
    (has_last_page shared.geometry.numbers.block (shared_of shared) (call_of u text)) (blank_call u)
    ≡ blocks_wanted shared.geometry.numbers.block n
    (ends_in_page (has_page_in (lent_cells slots shared.cells.items)) shared.geometry.numbers.block (blank_call u)) (blank_call u)
wanted_told shared slots n (update.Create dir name mode) text before can passed = refl
wanted_told shared slots n (update.Mkdir dir name mode) text before can passed = refl
wanted_told shared slots n (update.Write file offset count) text before can passed = refl
wanted_told shared slots n (update.Size file size) text before can passed =
    let block : ℕ = shared.geometry.numbers.block in
    let last = (file_passed (n file) (refuse_if (nat_lt (65536 * block) size) fault.FileTooBig passes) passed).1 in
    let small = (if_passed (nat_lt (65536 * block) size) fault.FileTooBig passes last).0 in
    let few : size ≤ 65536 * block = ltb-false (65536 * block) size small in
    ap (λ (cuts : Bool). cond cuts 1 0)
    (cuts_same block size (has_last_page block (shared_of shared) (call.Size file size)) (bytes_of (n file)) few
    ∙ ap (λ (present : Bool). cuts_page block size (nat_lt (size / block) 65536 && present) (bytes_of (n file)))
    (sym (page_same shared slots file (size / block) can)))
wanted_told shared slots n (update.Mode handle mode) text before can passed = refl
wanted_told shared slots n (update.Unlink dir name) text before can passed = refl
wanted_told shared slots n (update.Rmdir dir name) text before can passed = refl
wanted_told shared slots n (update.Rename from old to new) text before can passed = refl

-- ---- how the check ends

-- tests that end alike, where the later ones are compared only behind those that pass
ends_by : (t r l : Check) (same numbered nothing : Bool) (changes : List Change) → (t ≡ passes → same ≡ true → r ≡ l)
    → (t ≡ passes → same ≡ true → r ≡ passes → (nothing ≡ true → changes ≡ []) × (nothing ≡ false → 0 < length changes))
    → check_ending t same r numbered changes ≡ check_ends t same l numbered nothing
ends_by (Err fault) r l same numbered nothing changes is none = refl
ends_by (Ok passed) r l false numbered nothing changes is none = refl
ends_by (Ok passed) (Err fault) l true numbered nothing changes is none =
    ap (λ (x : Check). check_ends (Ok passed) true x numbered nothing) (is refl refl)
ends_by (Ok passed) (Ok all) l true false nothing changes is none =
    ap (λ (x : Check). check_ends (Ok passed) true x false nothing) (is refl refl)
ends_by (Ok passed) (Ok all) l true true nothing changes is none =
    by nothing changes (none refl refl refl) ∙ ap (λ (x : Check). check_ends (Ok passed) true x true nothing) (is refl refl) where
      by : (nothing : Bool) (changes : List Change) → (nothing ≡ true → changes ≡ []) × (nothing ≡ false → 0 < length changes)
          → check_ending (Ok passed) true (Ok all) true changes ≡ check_ends (Ok passed) true (Ok all) true nothing
      by true [] none = refl
      by true (change ∷ changes) none = let e = none.0 refl in cc
      by false [] none = absurd (omega (arith, none.1 refl))
      by false (change ∷ changes) none = refl

-- what passes both tests passes the later one
behind : (t l : Check) → t ≡ passes → and_then t l ≡ l
behind t l passed = ap (λ (x : Check). and_then x l) passed

module _ (shared : Shared) (slots : List ℕ) (u : Update) (text : List ℕ) (before : LookupResult) where
  abbrev block : ℕ
  block = shared.geometry.numbers.block

  abbrev lent : List (ℕ × CellValue)
  lent = lent_cells slots shared.cells.items

  abbrev n : Handle → Option NodeCopy
  n = copies (shared_of shared)

  abbrev o : Handle → Option NodeCopy
  o = nodes_in lent

  abbrev c : Call
  c = call_of u text

  abbrev b : Call
  b = blank_call u

  abbrev IsRead : Type 0
  IsRead = CanRead shared slots (handles before b)

  abbrev HasText : Type 0
  HasText = text_len u ≡ length text

  reads : IsRead → CanRead shared slots (handles before c)
  reads can = subst (CanRead shared slots) (sym (handles_blank before u text)) can

  blank_over : (taken : Allocation) → HasText → SamePlan block o (has_page_in lent) taken b c
  blank_over taken len = same_plan block o (has_page_in lent) taken u text (sym len)

  same_over : (taken : Allocation) → IsRead → looked n c ≡ before → SameCall block (nodes (shared_of shared)) (plain_nodes lent) taken c
  same_over taken can found =
      lent_call_same block shared slots taken c
      (subst (λ (l : LookupResult). CanRead shared slots (handles l c)) (sym found) (reads can))

  -- what it looks up, and the tests before that
  found_over : (taken : Allocation) → IsRead → HasText → looked o b ≡ looked n c
  found_over taken can len =
      sym (blank_over taken len).found
      ∙ (looks_same (nodes (shared_of shared)) (plain_nodes lent) c
      (nodes_agree shared slots (handles nothing_looked c) (named_read shared slots before c (reads can)))).found

  early_over : IsRead → early o b ≡ early n c
  early_over can =
      sym (early_blank o u text)
      ∙ (looks_same (nodes (shared_of shared)) (plain_nodes lent) c
      (nodes_agree shared slots (handles nothing_looked c) (named_read shared slots before c (reads can)))).early

  refused_over : (taken : Allocation) → IsRead → HasText → looked n c ≡ before → refusal block n c ≡ refusal block o b
  refused_over taken can len found = sym (same_over taken can found).refusal ∙ (blank_over taken len).refusal

  pub ends_same : (taken : Allocation) (number : Option ℕ) → IsRead → HasText
      → check_ending (early n c) (same_looked (looked n c) before) (refusal block n c) (is_numbered (beginning c) number)
      (effect n taken.made c) ≡ ends_over block o before (is_some number) u
  ends_same taken number can len =
      ap (λ (numbered : Bool). check_ending (early n c) (same_looked (looked n c) before) (refusal block n c) numbered
      (effect n taken.made c))
      (numbered_by number u text)
      ∙ ends_by (early n c) (refusal block n c) (late block o before b) (same_looked (looked n c) before) (is_some number || not (makes u))
      (is_nothing b) (effect n taken.made c)
      (λ passed same. let found : looked n c ≡ before = looked_is (looked n c) before same in
      refused_over taken can len found ∙ behind (early o b) (late block o (looked o b) b) (early_over can ∙ passed)
      ∙ ap (λ (l : LookupResult). late block o l b) (found_over taken can len ∙ found))
      (λ passed same all. let told = told_nothing block n taken c all in
      (λ none. told.no_effect ((blank_over taken len).nothing ∙ none), λ some. told.some_effect ((blank_over taken len).nothing ∙ some)))
      ∙ ap₂ (λ (t : Check) (l : LookupResult). check_ends t (same_looked l before) (late block o before b) (is_some number || not (makes u))
      (is_nothing b)) (sym (early_over can)) (sym (found_over taken can len))

  pub wanted_same : IsRead → HasText → looked o b ≡ before → refusal block o b ≡ passes
      → blocks_wanted block n (has_last_page block (shared_of shared) c) c ≡ wanted_over block lent u
  wanted_same can len found passed =
      let taken : Allocation = record { made = root; runs = [] } in
      let present : Bool = has_last_page block (shared_of shared) c in
      sym ((same_over taken can (sym (found_over taken can len) ∙ found)).wanted present)
      ∙ (blank_over taken len).wanted present
      ∙ wanted_told shared slots o u text before can passed

-- ---- what is told by how the check ends

pub record Passes (block : ℕ) (n : Handle → Option NodeCopy) (before : LookupResult) (numbered : Bool) (u : Update) : Type 0 where
  pub passed : refusal block n (blank_call u) ≡ passes
  pub same : looked n (blank_call u) ≡ before
  pub number : (numbered || not (makes u)) ≡ true
  pub something : is_nothing (blank_call u) ≡ false

-- a check that ends no call has passed
goes_on : (t l : Check) (same numbered nothing : Bool) → check_ends t same l numbered nothing ≡ None
    → (t ≡ passes) × ((same ≡ true) × ((l ≡ passes) × ((numbered ≡ true) × (nothing ≡ false))))
goes_on (Err fault) l same numbered nothing h = cc
goes_on (Ok passed) l false numbered nothing h = cc
goes_on (Ok passed) (Err fault) true numbered nothing h = cc
goes_on (Ok passed) (Ok all) true false nothing h = cc
goes_on (Ok passed) (Ok all) true true true h = cc
goes_on (Ok passed) (Ok all) true true false h = (refl, (refl, (refl, (refl, refl))))

pub passes_over : (block : ℕ) (n : Handle → Option NodeCopy) (before : LookupResult) (numbered : Bool) (u : Update)
    → ends_over block n before numbered u ≡ None → Passes block n before numbered u
passes_over block n before numbered u h =
    let b = blank_call u in
    let parts =
    goes_on (early n b) (late block n before b) (same_looked (looked n b) before) (numbered || not (makes u)) (is_nothing b) h in
    let same = looked_is (looked n b) before parts.1.0 in
    record {
      passed = behind (early n b) (late block n (looked n b) b) parts.0 ∙ ap (λ (l : LookupResult). late block n l b) same ∙ parts.1.1.0;
      same = same;
      number = parts.1.1.1.0;
      something = parts.1.1.1.1;
    }
