-- By which faults looks, the check of a change and the rest of it may refuse a call.
use Rattle.std.proofs.Common.{◌≡◌, ℕ, zero, suc, ◌+◌, ◌*◌, ◌<◌, ◌⊎◌, inl, inr, ◌∙◌, ◌++◌, ◌&&◌, ◌||◌, Bool, true, false, not, List, [], ◌∷◌, Option, Some, None, length, refl, ap, sym, subst, arith}
use Rattle.std.specs.Prelude.{Contains, IfErr, MatchResult, Result, Ok, Err, is_none, is_some, nat_lt, replicate}
use Rattle.std.specs.List.{AllByRecursion}
use Rattle.std.proofs.lemmas.List.Elements.{Contains-append_left, Contains-append_right}
use Rattle.nv_alloc.specs.declared.hand.Hand.{Hand}
use Rattle.nv_base.specs.Memory.{out_of_memory}
use Rattle.nv_base.specs.Names.{is_lawful_name}
use Rattle.nv_base.specs.declared.fault.Fault.{Fault}
use Rattle.nv_base.specs.declared.fault.Fault.TheVariants as fault
use Rattle.nv_base.specs.declared.fault.MismatchPart.{MismatchPart}
use Rattle.nv_base.specs.declared.fault.MismatchPart.TheVariants as part
use Rattle.nv_base.specs.declared.limits.TheConstants.{FILE_PAGES, WRITE_PAGES}
use Rattle.nv_base.specs.declared.node.Kind.{Kind}
use Rattle.nv_base.specs.declared.node.Kind.TheVariants.{File, Dir}
use Rattle.nv_base.specs.declared.numbers.Handle.{Handle}
use Rattle.nv_book.specs.Book.{BookValue}
use Rattle.nv_entry.specs.Bytes.{pages_touched}
use Rattle.nv_entry.specs.Tree.{names_of_node}
use Rattle.nv_entry.specs.declared.node.NodeCopy.{NodeCopy}
use Rattle.nv_calls.specs.AllCalls.{early, is_nothing, late, look_refusal, looked}
use Rattle.nv_calls.specs.Checked.{check_ends, same_found, same_looked}
use Rattle.nv_calls.specs.Looks.{directories, in_slot, look_tests, nothing_looked, seen_at}
use Rattle.nv_calls.specs.Nodes.{copies_by, nodes_in}
use Rattle.nv_calls.specs.Plain.{same_handle}
use Rattle.nv_calls.specs.Prepared.{makes}
use Rattle.nv_calls.specs.Ready.{ReadyValue}
use Rattle.nv_calls.specs.Refusals.{Check, and_then, is_directory, kind_of, lookup, passes, refuse_if, want_bound, want_directory, want_file, want_lawful, want_node}
use Rattle.nv_calls.specs.Updates.{blank_call, call_of, text_len}
use Rattle.nv_calls.specs.calls.Create.{create_refusal}
use Rattle.nv_calls.specs.calls.Lookup.{lookup_refusal}
use Rattle.nv_calls.specs.calls.Rename.{moved_refusal, own_place, pass_if, replaced_refusal}
use Rattle.nv_calls.specs.calls.Write.{text_refusal}
use Rattle.nv_calls.specs.declared.check_end.CheckEnd.{CheckEnd}
use Rattle.nv_calls.specs.declared.check_end.CheckEnd.TheVariants as ends
use Rattle.nv_calls.specs.declared.looked.LookupResult.{LookupResult}
use Rattle.nv_calls.specs.declared.update.Update.{Update}
use Rattle.nv_calls.specs.declared.update.Update.TheVariants as update
use Rattle.nv_cell.specs.Cell.{CellValue}
use Rattle.nv_sessions.specs.Changing.{EndsCheck, directories_there, misnamed}
use Rattle.nv_sessions.specs.Committing.{RefusesCommit}
use Rattle.nv_sessions.specs.Refusing.{IsWant, LooksFor, MayEnd, MayGiveUp, MayRefuseChange, MayRefuseCheck, MayRefuseRound, check_faults, failed_in, looks_up, other_faults, reads_failed, wants}
use Rattle.nv_sessions.proofs.Misnamed.{misnamed_else, told_as_it_is}

-- ---- lists of faults

-- whatever a check refuses for is in the list
abbrev pub Within : List Fault → Check → Type 0
Within faults check = IfErr check (Contains faults)

pub node_within : (faults : List Fault) (kind : Option Kind) (next : Check) → Contains faults fault.Stale → Within faults next
    → Within faults (want_node kind next)
node_within faults None next stale rest = stale
node_within faults (Some kind) next stale rest = rest

pub file_within : (faults : List Fault) (kind : Option Kind) (next : Check) → Contains faults fault.Stale → Contains faults fault.NotFile
    → Within faults next → Within faults (want_file kind next)
file_within faults None next stale other rest = stale
file_within faults (Some File) next stale other rest = rest
file_within faults (Some Dir) next stale other rest = other

pub dir_within : (faults : List Fault) (kind : Option Kind) (next : Check) → Contains faults fault.Stale → Contains faults fault.NotDirectory
    → Within faults next → Within faults (want_directory kind next)
dir_within faults None next stale other rest = stale
dir_within faults (Some File) next stale other rest = other
dir_within faults (Some Dir) next stale other rest = rest

if_within : (faults : List Fault) (test : Bool) (why : Fault) (next : Check) → Contains faults why → Within faults next
    → Within faults (refuse_if test why next)
if_within faults true why next has rest = has
if_within faults false why next has rest = rest

bound_within : (faults : List Fault) (bound : Option Handle) (next : Handle → Check) → Contains faults fault.Missing
    → ((to : Handle) → Within faults (next to)) → Within faults (want_bound bound next)
bound_within faults None next missing rest = missing
bound_within faults (Some to) next missing rest = rest to

both_within : (faults : List Fault) (first next : Check) → Within faults first → Within faults next → Within faults (and_then first next)
both_within faults (Ok passed) next one rest = rest
both_within faults (Err why) next one rest = one

pass_within : (faults : List Fault) (own : Bool) (next : Check) → Within faults next → Within faults (pass_if own next)
pass_within faults true next rest = tt
pass_within faults false next rest = rest

-- ---- the tests of each call

begin : (nodes : Handle → Option NodeCopy) (dir : Handle) (name : List ℕ) (faults : List Fault)
    → Contains faults fault.Stale → Contains faults fault.NotDirectory → Contains faults fault.BadName → Contains faults fault.Exists
    → Within faults (create_refusal nodes dir name)
begin nodes dir name faults stale other bad exists =
    let bound = is_some (lookup nodes dir name) in
    let last : Check = refuse_if bound fault.Exists passes in
    dir_within faults (kind_of (nodes dir)) (want_lawful name last) stale other
    (if_within faults (not (is_lawful_name name)) fault.BadName last bad (if_within faults bound fault.Exists passes exists tt))

pub look : (nodes : Handle → Option NodeCopy) (dir : Handle) (name : List ℕ) (faults : List Fault)
    → Contains faults fault.Stale → Contains faults fault.NotDirectory → Contains faults fault.BadName → Contains faults fault.Missing
    → Within faults (lookup_refusal nodes dir name)
look nodes dir name faults stale other bad missing =
    let next : Handle → Check = λ to. passes in
    let last : Check = want_bound (lookup nodes dir name) next in
    dir_within faults (kind_of (nodes dir)) (want_lawful name last) stale other
    (if_within faults (not (is_lawful_name name)) fault.BadName last bad
    (bound_within faults (lookup nodes dir name) next missing (λ to. tt)))

text : (block offset : ℕ) (bytes : List ℕ) (faults : List Fault) → Contains faults fault.WriteTooBig → Contains faults fault.FileTooBig
    → Within faults (text_refusal block offset bytes)
text block offset [] faults many large = tt
text block offset (byte ∷ rest) faults many large =
    let count = length (byte ∷ rest) in
    let past = nat_lt (FILE_PAGES * block) (offset + count) in
    if_within faults (nat_lt WRITE_PAGES (pages_touched block offset count)) fault.WriteTooBig (refuse_if past fault.FileTooBig passes) many
    (if_within faults past fault.FileTooBig passes large tt)

replaced : (nodes : Handle → Option NodeCopy) (moved : Option Kind) (other : Option Handle) (faults : List Fault)
    → Contains faults fault.Stale → Contains faults fault.Exists → Within faults (replaced_refusal nodes moved other)
replaced nodes moved None faults stale exists = tt
replaced nodes moved (Some other) faults stale exists =
    let kind = kind_of (nodes other) in
    let no_file = is_directory moved || is_directory kind in
    node_within faults kind (refuse_if no_file fault.Exists passes) stale (if_within faults no_file fault.Exists passes exists tt)

moves : (nodes : Handle → Option NodeCopy) (from to : Handle) (other : Option Handle) (moved : Handle) (faults : List Fault)
    → Contains faults fault.Stale → Contains faults fault.MoveDirectory → Contains faults fault.Exists
    → Within faults (moved_refusal nodes from to other moved)
moves nodes from to other moved faults stale away exists =
    let kind = kind_of (nodes moved) in
    let test = is_directory kind && not (same_handle from to) in
    let last : Check = replaced_refusal nodes kind other in
    node_within faults kind (refuse_if test fault.MoveDirectory last) stale
    (if_within faults test fault.MoveDirectory last away (replaced nodes kind other faults stale exists))

early_within : (nodes : Handle → Option NodeCopy) (u : Update) → Within (check_faults u) (early nodes (blank_call u))
early_within nodes (update.Create dir name mode) = tt
early_within nodes (update.Mkdir dir name mode) = tt
early_within nodes (update.Write file offset count) = tt
early_within nodes (update.Size file size) = tt
early_within nodes (update.Mode handle mode) = tt
early_within nodes (update.Unlink dir name) =
    look nodes dir name (check_faults (update.Unlink dir name)) (0, omega arith, refl) (1, omega arith, refl) (2, omega arith, refl)
    (3, omega arith, refl)
early_within nodes (update.Rmdir dir name) =
    look nodes dir name (check_faults (update.Rmdir dir name)) (0, omega arith, refl) (1, omega arith, refl) (2, omega arith, refl)
    (3, omega arith, refl)
early_within nodes (update.Rename from old to new) =
    let faults = check_faults (update.Rename from old to new) in
    both_within faults (lookup_refusal nodes from old) (want_directory (kind_of (nodes to)) (want_lawful new passes))
    (look nodes from old faults (0, omega arith, refl) (1, omega arith, refl) (2, omega arith, refl) (3, omega arith, refl))
    (dir_within faults (kind_of (nodes to)) (want_lawful new passes) (0, omega arith, refl) (1, omega arith, refl)
    (if_within faults (not (is_lawful_name new)) fault.BadName passes (2, omega arith, refl) tt))

late_within : (block : ℕ) (nodes : Handle → Option NodeCopy) (before : LookupResult) (u : Update)
    → Within (check_faults u) (late block nodes before (blank_call u))
late_within block nodes before (update.Create dir name mode) =
    begin nodes dir name (check_faults (update.Create dir name mode)) (0, omega arith, refl) (1, omega arith, refl) (2, omega arith, refl)
    (3, omega arith, refl)
late_within block nodes before (update.Mkdir dir name mode) =
    begin nodes dir name (check_faults (update.Mkdir dir name mode)) (0, omega arith, refl) (1, omega arith, refl) (2, omega arith, refl)
    (3, omega arith, refl)
late_within block nodes before (update.Write file offset count) =
    let faults = check_faults (update.Write file offset count) in
    file_within faults (kind_of (nodes file)) (text_refusal block offset (replicate count 0)) (0, omega arith, refl) (1, omega arith, refl)
    (text block offset (replicate count 0) faults (2, omega arith, refl) (3, omega arith, refl))
late_within block nodes before (update.Size file size) =
    let faults = check_faults (update.Size file size) in
    let past = nat_lt (FILE_PAGES * block) size in
    file_within faults (kind_of (nodes file)) (refuse_if past fault.FileTooBig passes) (0, omega arith, refl) (1, omega arith, refl)
    (if_within faults past fault.FileTooBig passes (2, omega arith, refl) tt)
late_within block nodes before (update.Mode handle mode) =
    node_within (check_faults (update.Mode handle mode)) (kind_of (nodes handle)) passes (0, omega arith, refl) tt
late_within block nodes before (update.Unlink dir name) =
    let faults = check_faults (update.Unlink dir name) in
    bound_within faults before.first (λ to. want_file (kind_of (nodes to)) passes) (3, omega arith, refl)
    (λ to. file_within faults (kind_of (nodes to)) passes (0, omega arith, refl) (4, omega arith, refl) tt)
late_within block nodes before (update.Rmdir dir name) =
    let faults = check_faults (update.Rmdir dir name) in
    let full : Handle → Bool = λ to. nat_lt 0 (length (names_of_node (nodes to))) in
    let last : Handle → Check = λ to. refuse_if (full to) fault.NotEmpty passes in
    bound_within faults before.first (λ to. want_directory (kind_of (nodes to)) (last to)) (3, omega arith, refl)
    (λ to. dir_within faults (kind_of (nodes to)) (last to) (0, omega arith, refl) (1, omega arith, refl)
    (if_within faults (full to) fault.NotEmpty passes (4, omega arith, refl) tt))
late_within block nodes before (update.Rename from old to new) =
    let faults = check_faults (update.Rename from old to new) in
    let own = own_place from old to new in
    let next : Handle → Check = λ moved. moved_refusal nodes from to before.second moved in
    bound_within faults before.first (λ moved. pass_if own (next moved)) (3, omega arith, refl)
    (λ moved. pass_within faults own (next moved)
    (moves nodes from to before.second moved faults (0, omega arith, refl) (4, omega arith, refl) (5, omega arith, refl)))

-- ---- how a check ends

ends_within : (faults : List Fault) (e l : Check) (same numbered nothing : Bool) (why : Fault) → Within faults e → Within faults l
    → (numbered ≡ false → Contains faults fault.NoInode)
    → check_ends e same l numbered nothing ≡ Some (ends.Refuses why) → Contains faults why
ends_within faults (Err f) l same numbered nothing why one rest number h = let is : f ≡ why = cc in subst (Contains faults) is one
ends_within faults (Ok passed) l false numbered nothing why one rest number h = cc
ends_within faults (Ok passed) (Err f) true numbered nothing why one rest number h = let is : f ≡ why = cc in subst (Contains faults) is rest
ends_within faults (Ok passed) (Ok all) true false nothing why one rest number h =
    let is : fault.NoInode ≡ why = cc in subst (Contains faults) is (number refl)
ends_within faults (Ok passed) (Ok all) true true true why one rest number h = cc
ends_within faults (Ok passed) (Ok all) true true false why one rest number h = cc

no_number : (has : Bool) (u : Update) → (has || not (makes u)) ≡ false → Contains (check_faults u) fault.NoInode
no_number has (update.Create dir name mode) h = (4, omega arith, refl)
no_number has (update.Mkdir dir name mode) h = (4, omega arith, refl)
no_number true (update.Write file offset count) h = cc
no_number false (update.Write file offset count) h = cc
no_number true (update.Size file size) h = cc
no_number false (update.Size file size) h = cc
no_number true (update.Mode handle mode) h = cc
no_number false (update.Mode handle mode) h = cc
no_number true (update.Unlink dir name) h = cc
no_number false (update.Unlink dir name) h = cc
no_number true (update.Rmdir dir name) h = cc
no_number false (update.Rmdir dir name) h = cc
no_number true (update.Rename from old to new) h = cc
no_number false (update.Rename from old to new) h = cc

misfits : (why : Fault) (p : MismatchPart) → why ≡ fault.Mismatch p → IsWant why
misfits why p is = inr (p, is)

refuses : (block : ℕ) (nodes : Handle → Option NodeCopy) (before : LookupResult) (has : Bool) (u : Update) (told : CheckEnd) (why : Fault)
    → ends.Refuses why ≡ misnamed (directories_there nodes u) told
    → check_ends (early nodes (blank_call u)) (same_looked (looked nodes (blank_call u)) before) (late block nodes before (blank_call u))
    (has || not (makes u)) (is_nothing (blank_call u)) ≡ Some told
    → MayRefuseCheck u why
refuses block nodes before has u told why is h = elim (misnamed_else (directories_there nodes u) told) [
  | inl same ↦
      let e = early nodes (blank_call u) in
      let l = late block nodes before (blank_call u) in
      let refused : told ≡ ends.Refuses why = sym same ∙ sym is in
      inl (ends_within (check_faults u) e l (same_looked (looked nodes (blank_call u)) before) (has || not (makes u))
      (is_nothing (blank_call u)) why (early_within nodes u) (late_within block nodes before u) (no_number has u)
      (h ∙ ap (λ (end : CheckEnd). Some end) refused))
  | inr other ↦
      let named = other.1 in
      let wrong : why ≡ fault.Mismatch part.Names = cc in inr (part.Names, wrong)
]

pub check_refuses : (block : ℕ) (cells : List (ℕ × CellValue)) (before : LookupResult) (u : Update) (hand : Hand) (why : Fault)
    → EndsCheck block cells before u hand (ends.Refuses why) → MayRefuseCheck u why
check_refuses block cells before u hand why (inl (f, is, inl lists)) =
    let wrong = lists.0 in
    let same : why ≡ fault.Mismatch part.Lists = cc in inr (part.Lists, same)
check_refuses block cells before u hand why (inl (f, is, inr index)) =
    let wrong = index.0 in
    let same : why ≡ fault.Mismatch part.Index = cc in inr (part.Index, same)
check_refuses block cells before u hand why (inr (inl refused)) =
    let is = refused.0 in
    let same : why ≡ fault.Mismatch part.Lists = cc in inr (part.Lists, same)
check_refuses block cells before u hand why (inr (inr told)) =
    refuses block (nodes_in cells) before (is_some hand.ino) u told.0 why told.1 told.2

-- and so may a round
pub of_round : (u : Update) (why : Fault) → MayRefuseCheck u why → MayRefuseRound u why
of_round u why (inl has) = inl has
of_round u why (inr misfit) = inr (inr misfit)

-- each call may find a stale handle
stale_in : (u : Update) → Contains (check_faults u) fault.Stale
stale_in (update.Create dir name mode) = (0, omega arith, refl)
stale_in (update.Mkdir dir name mode) = (0, omega arith, refl)
stale_in (update.Write file offset count) = (0, omega arith, refl)
stale_in (update.Size file size) = (0, omega arith, refl)
stale_in (update.Mode handle mode) = (0, omega arith, refl)
stale_in (update.Unlink dir name) = (0, omega arith, refl)
stale_in (update.Rmdir dir name) = (0, omega arith, refl)
stale_in (update.Rename from old to new) = (0, omega arith, refl)

-- ---- looks

-- a call with a directory to look in looks names up
pub looking : (u : Update) (place : ℕ) → place < length (directories (blank_call u)) → looks_up u ≡ true
looking (update.Create dir name mode) place lt = absurd (omega (arith, lt))
looking (update.Mkdir dir name mode) place lt = absurd (omega (arith, lt))
looking (update.Write file offset count) place lt = absurd (omega (arith, lt))
looking (update.Size file size) place lt = absurd (omega (arith, lt))
looking (update.Mode handle mode) place lt = absurd (omega (arith, lt))
looking (update.Unlink dir name) place lt = refl
looking (update.Rmdir dir name) place lt = refl
looking (update.Rename from old to new) place lt = refl

pub looks_for : (u : Update) (found : LookupResult) → looks_up u ≡ true → LooksFor u found
looks_for u found is = rw is refl

look_within : (nodes : Handle → Option NodeCopy) (u : Update) → Within (check_faults u) (look_refusal nodes (blank_call u))
look_within nodes (update.Create dir name mode) = tt
look_within nodes (update.Mkdir dir name mode) = tt
look_within nodes (update.Write file offset count) = tt
look_within nodes (update.Size file size) = tt
look_within nodes (update.Mode handle mode) = tt
look_within nodes (update.Unlink dir name) = early_within nodes (update.Unlink dir name)
look_within nodes (update.Rmdir dir name) = early_within nodes (update.Rmdir dir name)
look_within nodes (update.Rename from old to new) =
    look nodes from old (check_faults (update.Rename from old to new)) (0, omega arith, refl) (1, omega arith, refl) (2, omega arith, refl)
    (3, omega arith, refl)

pub refused_as : (faults : List Fault) (check : Check) (why : Fault) → Within faults check → check ≡ Err why → Contains faults why
refused_as faults (Ok passed) why all is = cc
refused_as faults (Err f) why all is = let same : f ≡ why = cc in subst (Contains faults) same all

pub look_refuses : (nodes : Handle → Option NodeCopy) (u : Update) (place : ℕ) (why : Fault)
    → look_tests place (look_refusal nodes (blank_call u)) ≡ Err why → MayRefuseCheck u why
look_refuses nodes u zero why is = inl (refused_as (check_faults u) (look_refusal nodes (blank_call u)) why (look_within nodes u) is)
look_refuses nodes u (suc place) why is = cc

pub look_err : (result : Result LookupResult Fault) (u : Update) (place ino : ℕ) (cell : Option CellValue) (before : LookupResult)
    → ((bytes : ℕ → List ℕ) (text : List ℕ) → let c = call_of u text in
    let nodes = copies_by bytes (in_slot ino cell) in
    MatchResult result
    (λ found. (look_tests place (look_refusal nodes c) ≡ passes) × (found ≡ seen_at (directories c) place (looked nodes c) before))
    (λ why. look_tests place (look_refusal nodes c) ≡ Err why))
    → IfErr result (MayRefuseCheck u)
look_err (Ok found) u place ino cell before is = tt
look_err (Err why) u place ino cell before is =
    let none : ℕ → List ℕ = λ n. [] in
    look_refuses (copies_by none (in_slot ino cell)) u place why (is none (replicate (text_len u) 0))

pub nothing_found : (u : Update) → LooksFor u nothing_looked
nothing_found (update.Create dir name mode) = refl
nothing_found (update.Mkdir dir name mode) = refl
nothing_found (update.Write file offset count) = refl
nothing_found (update.Size file size) = refl
nothing_found (update.Mode handle mode) = refl
nothing_found (update.Unlink dir name) = refl
nothing_found (update.Rmdir dir name) = refl
nothing_found (update.Rename from old to new) = refl

-- ---- a call that is overtaken looks names up

overtakes : (e l : Check) (same numbered nothing : Bool) → check_ends e same l numbered nothing ≡ Some ends.BoundAnew → same ≡ false
overtakes (Err f) l same numbered nothing h = cc
overtakes (Ok passed) l false numbered nothing h = refl
overtakes (Ok passed) (Err f) true numbered nothing h = cc
overtakes (Ok passed) (Ok all) true false nothing h = cc
overtakes (Ok passed) (Ok all) true true true h = cc
overtakes (Ok passed) (Ok all) true true false h = cc

-- where looks found nothing, and none was wanted, nothing was bound anew
still_nothing : (first second : Option Handle) → (is_none first && is_none second) ≡ true
    → (same_found None first && same_found None second) ≡ true
still_nothing None None h = refl
still_nothing None (Some to) h = cc
still_nothing (Some to) second h = cc

bound_anew : (nodes : Handle → Option NodeCopy) (u : Update) (before : LookupResult) → LooksFor u before
    → same_looked (looked nodes (blank_call u)) before ≡ false → looks_up u ≡ true
bound_anew nodes (update.Create dir name mode) before none h = let same = still_nothing before.first before.second none in cc
bound_anew nodes (update.Mkdir dir name mode) before none h = let same = still_nothing before.first before.second none in cc
bound_anew nodes (update.Write file offset count) before none h = let same = still_nothing before.first before.second none in cc
bound_anew nodes (update.Size file size) before none h = let same = still_nothing before.first before.second none in cc
bound_anew nodes (update.Mode handle mode) before none h = let same = still_nothing before.first before.second none in cc
bound_anew nodes (update.Unlink dir name) before none h = refl
bound_anew nodes (update.Rmdir dir name) before none h = refl
bound_anew nodes (update.Rename from old to new) before none h = refl

pub overtaken_looks : (block : ℕ) (cells : List (ℕ × CellValue)) (before : LookupResult) (u : Update) (hand : Hand) → LooksFor u before
    → EndsCheck block cells before u hand ends.BoundAnew → looks_up u ≡ true
overtaken_looks block cells before u hand looks (inl refused) = let e = refused.1 in cc
overtaken_looks block cells before u hand looks (inr (inl refused)) = let e = refused.0 in cc
overtaken_looks block cells before u hand looks (inr (inr told)) =
    let c = blank_call u in
    let nodes = nodes_in cells in
    let is = told_as_it_is (directories_there nodes u) told.0 ends.BoundAnew told.1 (λ why wrong. cc) in
    bound_anew nodes u before looks
    (overtakes (early nodes c) (late block nodes before c) (same_looked (looked nodes c) before) (is_some hand.ino || not (makes u))
    (is_nothing c) (told.2 ∙ ap (λ (end : CheckEnd). Some end) is))

-- ---- what a commit may want

pub space_wants : (why : Fault) (p : MismatchPart) → (why ≡ fault.NoSpace) ⊎ (why ≡ fault.Mismatch p) → IsWant why
space_wants why p (inl full) = inl (0, omega arith, sym full)
space_wants why p (inr wrong) = misfits why p wrong

pub either_wants : {A : Type 0} (result : Result A Fault) (p : MismatchPart)
    → IfErr result (λ why. (why ≡ fault.NoSpace) ⊎ (why ≡ fault.Mismatch p)) → IfErr result IsWant
either_wants (Ok done) p is = tt
either_wants (Err why) p is = space_wants why p is

-- a cell that can't be held
pub held_out : (u : Update) (why : Fault) → (why ≡ fault.Stale) ⊎ (why ≡ fault.Mismatch part.Lists) → MayEnd u why
held_out u why (inl stale) = inl (inl (subst (Contains (check_faults u)) (sym stale) (stale_in u)))
held_out u why (inr wrong) = inl (inr (misfits why part.Lists wrong))

pub memory_wants : (why : Fault) → why ≡ out_of_memory → IsWant why
memory_wants why is = inl (1, omega arith, sym is)

pub commit_wants : (book : BookValue) (cells : List (ℕ × CellValue)) (ready : ReadyValue) (cpu : ℕ) (why : Fault)
    → RefusesCommit book cells ready cpu why → IsWant why
commit_wants book cells ready cpu why (inl limit) = inl (2, omega arith, sym limit.0)
commit_wants book cells ready cpu why (inr (inl journal)) = misfits why part.Records journal.0
commit_wants book cells ready cpu why (inr (inr (inl take))) = misfits why part.Index take.0
commit_wants book cells ready cpu why (inr (inr (inr room))) = memory_wants why room.0

-- ---- none of these is a failed read

no_read_in : (faults : List Fault) → AllByRecursion (λ (f : Fault). reads_failed f ≡ 0) faults → (why : Fault) → Contains faults why
    → reads_failed why ≡ 0
no_read_in [] all why (k, lt, is) = absurd (omega (arith, lt))
no_read_in (f ∷ faults) all why (zero, lt, is) = ap reads_failed (sym is) ∙ all.0
no_read_in (f ∷ faults) all why (suc k, lt, is) = no_read_in faults all.1 why (k, omega (arith, lt), is)

no_read_checked : (u : Update) → AllByRecursion (λ (f : Fault). reads_failed f ≡ 0) (check_faults u)
no_read_checked (update.Create dir name mode) = (refl, (refl, (refl, (refl, (refl, tt)))))
no_read_checked (update.Mkdir dir name mode) = (refl, (refl, (refl, (refl, (refl, tt)))))
no_read_checked (update.Write file offset count) = (refl, (refl, (refl, (refl, tt))))
no_read_checked (update.Size file size) = (refl, (refl, (refl, tt)))
no_read_checked (update.Mode handle mode) = (refl, tt)
no_read_checked (update.Unlink dir name) = (refl, (refl, (refl, (refl, (refl, tt)))))
no_read_checked (update.Rmdir dir name) = (refl, (refl, (refl, (refl, (refl, tt)))))
no_read_checked (update.Rename from old to new) = (refl, (refl, (refl, (refl, (refl, (refl, tt))))))

pub want_reads : (why : Fault) → IsWant why → reads_failed why ≡ 0
want_reads why (inl has) = no_read_in wants (refl, (refl, (refl, tt))) why has
want_reads why (inr (p, is)) = ap reads_failed is

pub round_reads : (u : Update) (why : Fault) → MayRefuseRound u why → reads_failed why ≡ 0
round_reads u why (inl has) = no_read_in (check_faults u) (no_read_checked u) why has
round_reads u why (inr want) = want_reads why want

-- ---- the table of refusals

contended_in : (u : Update) → looks_up u ≡ true → Contains (other_faults u) fault.Contended
contended_in (update.Create dir name mode) h = cc
contended_in (update.Mkdir dir name mode) h = cc
contended_in (update.Write file offset count) h = cc
contended_in (update.Size file size) h = cc
contended_in (update.Mode handle mode) h = cc
contended_in (update.Unlink dir name) h = (0, omega arith, refl)
contended_in (update.Rmdir dir name) h = (0, omega arith, refl)
contended_in (update.Rename from old to new) h = (0, omega arith, refl)

other_in : (u : Update) (why : Fault) → Contains (other_faults u) why → MayRefuseChange u why
other_in u why has =
    inl (Contains-append_left (check_faults u ++ other_faults u) wants why (Contains-append_right (check_faults u) (other_faults u) why has))

listed : (u : Update) (why : Fault) → MayGiveUp u why → (why ≡ fault.Read → MayRefuseChange u why) → MayRefuseChange u why
listed u why (inl (inl (inl has))) read =
    inl (Contains-append_left (check_faults u ++ other_faults u) wants why (Contains-append_left (check_faults u) (other_faults u) why has))
listed u why (inl (inl (inr (inl want)))) read = inl (Contains-append_right (check_faults u ++ other_faults u) wants why want)
listed u why (inl (inl (inr (inr misfit)))) read = inr misfit
listed u why (inl (inr is)) read = read is
listed u why (inr contended) read = subst (MayRefuseChange u) (sym contended.0) (other_in u fault.Contended (contended_in u contended.1))

-- a call whose text never fails
pub refused_change : {A : Type 0} (u : Update) (result : Result A Fault) → IfErr result (MayGiveUp u) → failed_in result ≡ 0
    → IfErr result (MayRefuseChange u)
refused_change u (Ok done) may none = tt
refused_change u (Err why) may none = listed u why may (λ is. absurd (omega (arith, none, ap reads_failed is)))

pub refused_write : {A : Type 0} (file : Handle) (offset count : ℕ) (result : Result A Fault)
    → IfErr result (MayGiveUp (update.Write file offset count)) → IfErr result (MayRefuseChange (update.Write file offset count))
refused_write file offset count (Ok done) may = tt
refused_write file offset count (Err why) may =
    let u = update.Write file offset count in
    listed u why may (λ is. subst (MayRefuseChange u) (sym is) (other_in u fault.Read (0, omega arith, refl)))
