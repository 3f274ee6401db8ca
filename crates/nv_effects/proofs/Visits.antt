-- Calls that read are answered by the nodes: what was written is read, and what was made is found.
use Rattle.std.proofs.Common.{◌≡◌, ◌∙◌, ◌<◌, ◌+◌, ◌-◌, ◌++◌, ℕ, Bool, true, false, List, [], ◌∷◌, append_assoc, ap, arith, cond, drop, length, length-append, Option, Some, None, Err, refl, replicate, subst, sym, take}
use Rattle.std.specs.Prelude.{if◌then◌else◌, is_some, not}
use Rattle.std.specs.Option.{option_map}
use Rattle.std.proofs.lemmas.Bool.{lt-ltb, true≢false}
use Rattle.std.proofs.lemmas.List.{drop_at, length-replicate, length-take-le, take_at}
use Rattle.nv_base.specs.Names.{is_lawful_name, same_name}
use Rattle.nv_base.specs.declared.fault.Fault.TheVariants as fault
use Rattle.nv_base.specs.declared.node.Kind.{Kind}
use Rattle.nv_base.specs.declared.node.Kind.TheVariants.{Dir, File}
use Rattle.nv_base.specs.declared.numbers.Handle.{Handle}
use Rattle.nv_calls.specs.AllCalls.{answer, effect, is_nothing, refusal}
use Rattle.nv_calls.specs.Plain.{same_handle, with_names}
use Rattle.nv_calls.specs.Refusals.{Check, bytes_of, kind_of, lookup, passes, refuse_if, want_bound, want_directory, want_file}
use Rattle.nv_calls.specs.calls.Lookup.{lookup_answer}
use Rattle.nv_calls.specs.calls.Write.{text_refusal}
use Rattle.nv_calls.specs.declared.answer.Answer.{Answer}
use Rattle.nv_calls.specs.declared.answer.Answer.TheVariants as answers
use Rattle.nv_calls.specs.declared.call.Call.{Call}
use Rattle.nv_calls.specs.declared.call.Call.TheVariants as call
use Rattle.nv_calls.proofs.Passed.{HasKind, directory_passed, file_passed, if_passed}
use Rattle.nv_entry.specs.Bytes.{read_at, written}
use Rattle.nv_entry.specs.Index.{bound_to, with_last, without}
use Rattle.nv_entry.specs.Sound.{rewritten}
use Rattle.nv_entry.specs.Tree.{names_of_node, names_under, root}
use Rattle.nv_entry.specs.declared.names.BoundName.{BoundName}
use Rattle.nv_entry.specs.declared.node.NodeCopy.{NodeCopy}
use Rattle.nv_entry.proofs.Hiding.{same_name-self}
use Rattle.nv_machine.specs.World.{Refused, Reply}
use Rattle.nv_machine.specs.EndsDecided.{is_snapshot_or_cleaner}
use Rattle.nv_machine.proofs.DirectoriesKept.{left_none}
use Rattle.nv_machine.proofs.DirectoriesStay.{same_self}
use Rattle.nv_serial.specs.FileCalls.{if_passes, on_files, pass}
use Rattle.nv_serial.specs.OneCall.{of_call, serial_call}
use Rattle.nv_serial.specs.Serial.{Outcome, Serial, copies_now, refused, told}
use Rattle.nv_serial.proofs.CommitLaw.{there_is}
use Rattle.nv_effects.proofs.Effects.{calls_have_effects, there_or_not}
use Rattle.nv_effects.specs.Effects.{HasEffect, changed}

-- ---- calls that commit nothing

pub of_files : (s : Serial) (actor : ℕ) (c : Call) → is_snapshot_or_cleaner c ≡ false → of_call s actor c ≡ on_files s actor c
of_files s actor (call.SnapshotOrCleaner what) e = absurd (true≢false e)
of_files s actor other e = refl

-- a call of nothing that passes its tests is told what the nodes answer
pub visit_told : (s : Serial) (actor : ℕ) (c : Call) → actor < s.numbers.actors → is_snapshot_or_cleaner c ≡ false → is_nothing c ≡ true
    → refusal s.numbers.block (copies_now s) c ≡ passes → serial_call s actor c ≡ told (answer s.plain.nodes root c) s
visit_told s actor c there of nothing passed =
    there_is s actor c (lt-ltb actor s.numbers.actors there) ∙ of_files s actor c of
    ∙ ap (λ (check : Check). if_passes check s actor c) passed ∙ ap (λ (b : Bool). pass b s actor c) nothing

-- ---- reads

-- a read of a file is told its bytes
pub read_told : (s : Serial) (actor : ℕ) (file : Handle) (offset count : ℕ) (node : NodeCopy) → actor < s.numbers.actors
    → copies_now s file ≡ Some node → node.kind ≡ File
    → serial_call s actor (call.Read file offset count) ≡ told (answers.Bytes (read_at offset count node.bytes)) s
read_told s actor file offset count node there is kind =
    let passed : refusal s.numbers.block (copies_now s) (call.Read file offset count) ≡ passes =
    ap (λ (k : Option Kind). want_file k passes) (ap kind_of is ∙ ap (λ (k : Kind). Some k) kind) in
    visit_told s actor (call.Read file offset count) there refl refl passed
    ∙ ap (λ (n : Option NodeCopy). told (answers.Bytes (read_at offset count (bytes_of n))) s) is

-- ---- writes

-- what was written stands at its offset
pub read_back : (offset : ℕ) (text bytes : List ℕ) → read_at offset (length text) (written offset text bytes) ≡ text
read_back offset text bytes =
    let padded : List ℕ = bytes ++ replicate (offset - length bytes) 0 in
    let front : List ℕ = take offset padded in
    let wide : length padded ≡ length bytes + (offset - length bytes) =
    length-append bytes (replicate (offset - length bytes) 0) ∙ ap (λ (n : ℕ). length bytes + n) (length-replicate (offset - length bytes) 0) in
    let long : length front ≡ offset = length-take-le offset padded (omega (arith, wide)) in
    let rest : List ℕ = drop (offset + length text) bytes in
    ap (λ (all : List ℕ). take (length text) (drop offset all)) (append_assoc front text rest)
    ∙ ap (λ (all : List ℕ). take (length text) all) (drop_at front (text ++ rest) offset long)
    ∙ take_at text rest (length text) refl

-- the file after a write
record IsWritten (old new : Serial) (file : Handle) (offset : ℕ) (text : List ℕ) : Type 0 where
  before : NodeCopy
  was : copies_now old file ≡ Some before
  kind : before.kind ≡ File
  after : NodeCopy
  is : copies_now new file ≡ Some after
  same : after.kind ≡ before.kind
  reads : read_at offset (length text) after.bytes ≡ text

writes_file : (old new : Serial) (actor : ℕ) (file : Handle) (offset : ℕ) (text : List ℕ) (a : Answer) (made : Handle)
    → HasEffect old actor (call.Write file offset text) made a new → IsWritten old new file offset text
writes_file old new actor file offset text a made has =
    let passed = file_passed (copies_now old file) (text_refusal old.numbers.block offset text) has.unrefused in
    go passed.0 text has where
      go : HasKind File (copies_now old file) → (text : List ℕ) → HasEffect old actor (call.Write file offset text) made a new
          → IsWritten old new file offset text
      go node [] has = record {
        before = node.node;
        was = node.is;
        kind = node.kind_is;
        after = node.node;
        is = has.nodes file ∙ node.is;
        same = refl;
        reads = refl;
      }
      go node (byte ∷ rest) has =
          let here : changed (effect (copies_now old) made (call.Write file offset (byte ∷ rest))) (copies_now old) file ≡ Some (rewritten offset (byte ∷ rest) node.node) =
          ap (λ (b : Bool). if b then option_map (rewritten offset (byte ∷ rest)) (copies_now old file) else copies_now old file) (same_self file)
          ∙ ap (option_map (rewritten offset (byte ∷ rest))) node.is in
          record {
            before = node.node;
            was = node.is;
            kind = node.kind_is;
            after = rewritten offset (byte ∷ rest) node.node;
            is = has.nodes file ∙ here;
            same = refl;
            reads = read_back offset (byte ∷ rest) node.node.bytes;
          }

-- WHAT WAS WRITTEN IS READ
pub written_read : (old new : Serial) (actor reader : ℕ) (file : Handle) (offset : ℕ) (text : List ℕ) (a : Answer)
    → serial_call old actor (call.Write file offset text) ≡ told a new → reader < old.numbers.actors
    → serial_call new reader (call.Read file offset (length text)) ≡ told (answers.Bytes text) new
written_read old new actor reader file offset text a is there =
    let has = calls_have_effects old new actor (call.Write file offset text) a refl is in
    let done = writes_file old new actor file offset text a has.0 has.1 in
    let inside : reader < new.numbers.actors = subst (λ g. reader < g.actors) (sym has.1.numbers) there in
    read_told new reader file offset (length text) done.after inside done.is (done.same ∙ done.kind)
    ∙ ap (λ (bytes : List ℕ). told (answers.Bytes bytes) new) done.reads

-- ---- names

bound_behind : (name : List ℕ) (front back : List BoundName) → bound_to name front ≡ None
    → bound_to name (front ++ back) ≡ bound_to name back
bound_behind name [] back none = refl
bound_behind name (b ∷ front) back none = go (same_name name b.name) refl none (bound_behind name front back) where
  go : (s : Bool) → same_name name b.name ≡ s → cond s (Some b.to) (bound_to name front) ≡ None
      → (bound_to name front ≡ None → bound_to name (front ++ back) ≡ bound_to name back)
      → bound_to name ((b ∷ front) ++ back) ≡ bound_to name back
  go true is e rest = absurd (let z : Some b.to ≡ None = e in cc)
  go false is e rest = rw is (rest e)

-- a name that was bound last is found
pub bound_last : (name : List ℕ) (to : Handle) (names : List BoundName) → bound_to name (with_last name to names) ≡ Some to
bound_last name to names =
    let last : BoundName = record { name = name; to = to } in
    let one : bound_to name (last ∷ []) ≡ Some to =
    ap (λ (b : Bool). if b then Some to else bound_to name []) (same_name-self name) in
    bound_behind name (without name names) (last ∷ []) (left_none name names) ∙ one

finds_passed : (kind : Option Kind) (unlawful : Bool) (bound : Option Handle) (to : Handle) → kind ≡ Some Dir → unlawful ≡ false
    → bound ≡ Some to → want_directory kind (refuse_if unlawful fault.BadName (want_bound bound (λ t. passes))) ≡ passes
finds_passed kind unlawful bound to is_kind lawful is =
    ap (λ (k : Option Kind). want_directory k (refuse_if unlawful fault.BadName (want_bound bound (λ t. passes)))) is_kind
    ∙ ap (λ (b : Bool). refuse_if b fault.BadName (want_bound bound (λ t. passes))) lawful
    ∙ ap (λ (o : Option Handle). want_bound o (λ t. passes)) is

-- a lookup of a lawful name that is bound is told its handle
pub lookup_told : (s : Serial) (actor : ℕ) (dir : Handle) (name : List ℕ) (node : NodeCopy) (to : Handle) → actor < s.numbers.actors
    → copies_now s dir ≡ Some node → node.kind ≡ Dir → not (is_lawful_name name) ≡ false → bound_to name node.names ≡ Some to
    → serial_call s actor (call.Lookup dir name) ≡ told (answers.Made to) s
lookup_told s actor dir name node to there is kind lawful bound =
    let found : lookup (copies_now s) dir name ≡ Some to =
    ap (λ (n : Option NodeCopy). bound_to name (names_of_node n)) is ∙ bound in
    visit_told s actor (call.Lookup dir name) there refl refl
    (finds_passed (kind_of (copies_now s dir)) (not (is_lawful_name name)) (lookup (copies_now s) dir name) to
    (ap kind_of is ∙ ap (λ (k : Kind). Some k) kind) lawful found)
    ∙ ap (λ (o : Option Handle). told (lookup_answer o) s) found

-- what a making leaves of its directory
record IsNamed (old new : Serial) (dir : Handle) (name : List ℕ) (made : Handle) : Type 0 where
  before : NodeCopy
  kind : before.kind ≡ Dir
  lawful : not (is_lawful_name name) ≡ false
  is : copies_now new dir ≡ Some (record before { names = with_last name made before.names })

-- a making has the tests of `create`, and a first change of the names of its directory
names_last : (old new : Serial) (dir : Handle) (name : List ℕ) (made : Handle)
    → want_directory (kind_of (copies_now old dir)) (refuse_if (not (is_lawful_name name)) fault.BadName
    (refuse_if (is_some (lookup (copies_now old) dir name)) fault.Exists passes)) ≡ passes
    → (rest : Option NodeCopy)
    → copies_now new dir ≡ (if same_handle dir dir then with_names (with_last name made) (copies_now old dir) else rest)
    → IsNamed old new dir name made
names_last old new dir name made passed rest left =
    let first = directory_passed (copies_now old dir) _ passed in
    let second = if_passed (not (is_lawful_name name)) fault.BadName _ first.1 in
    record {
      before = first.0.node;
      kind = first.0.kind_is;
      lawful = second.0;
      is = left
          ∙ ap (λ (b : Bool). if b then with_names (with_last name made) (copies_now old dir) else rest) (same_self dir)
          ∙ ap (with_names (with_last name made)) first.0.is;
    }

named_found : (old new : Serial) (actor : ℕ) (dir : Handle) (name : List ℕ) (made : Handle) → actor < new.numbers.actors
    → IsNamed old new dir name made → serial_call new actor (call.Lookup dir name) ≡ told (answers.Made made) new
named_found old new actor dir name made there named =
    let node : NodeCopy = record named.before { names = with_last name made named.before.names } in
    lookup_told new actor dir name node made there named.is named.kind named.lawful (bound_last name made named.before.names)

-- WHAT WAS MADE IS FOUND
pub created_found : (old new : Serial) (actor finder : ℕ) (dir : Handle) (name : List ℕ) (mode : ℕ) (made : Handle)
    → serial_call old actor (call.Create dir name mode) ≡ told (answers.Made made) new → finder < old.numbers.actors
    → serial_call new finder (call.Lookup dir name) ≡ told (answers.Made made) new
created_found old new actor finder dir name mode made is there =
    let has = calls_have_effects old new actor (call.Create dir name mode) (answers.Made made) refl is in
    let same : made ≡ has.0 = let e = has.1.told in cc in
    let inside : finder < new.numbers.actors = subst (λ g. finder < g.actors) (sym has.1.numbers) there in
    named_found old new finder dir name made inside
    (subst (λ (h : Handle). IsNamed old new dir name h) (sym same)
    (names_last old new dir name has.0 has.1.unrefused _ (has.1.nodes dir)))

pub directory_found : (old new : Serial) (actor finder : ℕ) (dir : Handle) (name : List ℕ) (mode : ℕ) (made : Handle)
    → serial_call old actor (call.Mkdir dir name mode) ≡ told (answers.Made made) new → finder < old.numbers.actors
    → serial_call new finder (call.Lookup dir name) ≡ told (answers.Made made) new
directory_found old new actor finder dir name mode made is there =
    let has = calls_have_effects old new actor (call.Mkdir dir name mode) (answers.Made made) refl is in
    let same : made ≡ has.0 = let e = has.1.told in cc in
    let inside : finder < new.numbers.actors = subst (λ g. finder < g.actors) (sym has.1.numbers) there in
    named_found old new finder dir name made inside
    (subst (λ (h : Handle). IsNamed old new dir name h) (sym same)
    (names_last old new dir name has.0 has.1.unrefused _ (has.1.nodes dir)))

-- ---- listings

-- A LISTING has the names bound
pub list_told : (old new : Serial) (actor : ℕ) (dir : Handle) (a : Answer) → serial_call old actor (call.List dir) ≡ told a new
    → (a ≡ answers.Names (names_under (copies_now old) dir)) × (new ≡ old)
list_told old new actor dir a is =
    let has = calls_have_effects old new actor (call.List dir) a refl is in (has.1.told, has.1.same refl)

-- ---- lookups

-- where a name is missing it is not bound; of other replies nothing is said
abbrev MissedBy : Option Handle → Reply → Type 0
MissedBy bound (Refused fault.Missing) = bound ≡ None
MissedBy bound other = Unit {0}

missed_by : (kind : Option Kind) (unlawful : Bool) (bound : Option Handle) (s : Serial) (actor : ℕ) (dir : Handle) (name : List ℕ)
    → MissedBy bound (if_passes (want_directory kind (refuse_if unlawful fault.BadName (want_bound bound (λ t. passes)))) s actor
    (call.Lookup dir name)).reply
missed_by None unlawful bound s actor dir name = tt
missed_by (Some File) unlawful bound s actor dir name = tt
missed_by (Some Dir) true bound s actor dir name = tt
missed_by (Some Dir) false None s actor dir name = refl
missed_by (Some Dir) false (Some to) s actor dir name = tt

-- A NAME THAT IS MISSING is not bound
pub lookup_missing : (s t : Serial) (actor : ℕ) (dir : Handle) (name : List ℕ)
    → serial_call s actor (call.Lookup dir name) ≡ refused fault.Missing t → lookup (copies_now s) dir name ≡ None
lookup_missing s t actor dir name is =
    subst (λ (o : Outcome). MissedBy (lookup (copies_now s) dir name) o.reply) is
    (there_or_not (λ (o : Outcome). MissedBy (lookup (copies_now s) dir name) o.reply) s actor (call.Lookup dir name)
    (λ there. missed_by (kind_of (copies_now s dir)) (not (is_lawful_name name)) (lookup (copies_now s) dir name) s actor dir name) tt)

no_handle : {P : Type 0} → Err fault.Missing ≡ passes → P
no_handle e = cc

-- a test that a name is bound
some_bound : (to : Option Handle) → want_bound to (λ t. passes) ≡ passes → (handle : Handle) × (to ≡ Some handle)
some_bound None e = no_handle e
some_bound (Some handle) e = (handle, refl)

-- A NAME THAT IS FOUND is bound to what is found, and nothing changes
pub lookup_found : (s t : Serial) (actor : ℕ) (dir : Handle) (name : List ℕ) (to : Handle)
    → serial_call s actor (call.Lookup dir name) ≡ told (answers.Made to) t
    → (lookup (copies_now s) dir name ≡ Some to) × (t ≡ s)
lookup_found s t actor dir name to is =
    let has = calls_have_effects s t actor (call.Lookup dir name) (answers.Made to) refl is in
    let first = directory_passed (copies_now s dir) _ has.1.unrefused in
    let second = if_passed (not (is_lawful_name name)) fault.BadName _ first.1 in
    let bound = some_bound (lookup (copies_now s) dir name) second.1 in
    let answer_is : answers.Made to ≡ answers.Made bound.0 = has.1.told ∙ ap lookup_answer bound.1 in
    let same : to ≡ bound.0 = cc in
    (bound.1 ∙ ap (λ (h : Handle). Some h) (sym same), has.1.same refl)
