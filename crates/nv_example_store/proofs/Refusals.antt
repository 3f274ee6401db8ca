-- Why the files of a store refuse its calls.
use Rattle.std.proofs.Common.{◌≡◌, ◌⊎◌, ◌∙◌, ◌+◌, ◌*◌, ◌<◌, ◌&&◌, ◌||◌, ℕ, Bool, true, false, List, [], ◌∷◌, ap, arith, inl, inr, length, Option, Some, None, Err, refl, subst, sym}
use Rattle.std.specs.Prelude.{is_some, nat_lt, not}
use Rattle.std.specs.Option.{option_map}
use Rattle.std.proofs.lemmas.Bool.{ltb-true, true≢false}
use Rattle.nv_base.specs.Names.{is_lawful_name, same_name}
use Rattle.nv_base.specs.declared.fault.Fault.{Fault}
use Rattle.nv_base.specs.declared.fault.Fault.TheVariants as fault
use Rattle.nv_base.specs.declared.limits.TheConstants.{FILE_PAGES, WRITE_PAGES}
use Rattle.nv_base.specs.declared.node.Kind.{Kind}
use Rattle.nv_base.specs.declared.node.Kind.TheVariants.{Dir, File}
use Rattle.nv_base.specs.declared.numbers.Handle.{Handle}
use Rattle.nv_calls.specs.AllCalls.{is_nothing, refusal}
use Rattle.nv_calls.specs.Plain.{same_handle}
use Rattle.nv_calls.specs.Refusals.{Check, and_then, bytes_of, found, is_directory, kind_of, lookup, passes, refuse_if, want_bound, want_directory, want_file, want_lawful, want_node}
use Rattle.nv_calls.specs.calls.Lookup.{lookup_refusal}
use Rattle.nv_calls.specs.calls.Rename.{moved_refusal, own_place, pass_if, rename_early, replaced_refusal}
use Rattle.nv_calls.specs.calls.Unlink.{unlink_late}
use Rattle.nv_calls.specs.calls.Write.{count_refusal, text_refusal}
use Rattle.nv_calls.specs.declared.call.Call.{Call}
use Rattle.nv_calls.specs.declared.call.Call.TheVariants as call
use Rattle.nv_entry.specs.Bytes.{pages_touched}
use Rattle.nv_entry.specs.Tree.{names_under, root}
use Rattle.nv_entry.specs.declared.node.NodeCopy.{NodeCopy}
use Rattle.nv_machine.specs.EndsDecided.{is_snapshot_or_cleaner}
use Rattle.nv_machine.proofs.DirectoriesChanged.{found_in}
use Rattle.nv_serial.specs.OneCall.{serial_call}
use Rattle.nv_serial.specs.Serial.{Serial, copies_now, refused}
use Rattle.nv_effects.specs.Causes.{IsCause, IsShort, Passes}
use Rattle.nv_effects.specs.Sound.{IsSoundWorld}
use Rattle.nv_effects.proofs.Causes.{refused_cause}
use Rattle.nv_example_store.specs.Faults.{IsRemoveCause, IsTooLong}
use Rattle.nv_example_store.specs.Held.{HasNoScratch}
use Rattle.nv_example_store.specs.Keys.{scratch}
use Rattle.nv_example_store.specs.Stored.{HoldsStore, value_in}
use Rattle.nv_example_store.specs.Values.{has_value, value_of}
use Rattle.nv_example_store.proofs.FoundValues.{value_found}
use Rattle.nv_example_store.proofs.Puts.{look_found, look_passed, root_of}

-- ---- single tests

no_refusal : {P : Type 0} (why : Fault) → passes ≡ Err why → P
no_refusal why e = absurd (let z : passes ≡ Err why = e in cc)

-- a refusal by its fault
abbrev refusal_of : Fault → Check
refusal_of why = Err why

same_refusal : (one why : Fault) → refusal_of one ≡ refusal_of why → why ≡ one
same_refusal one why e = cc

-- a file that is emptied is not too long
none_below : {P : Type 0} (n : ℕ) (one why : Fault) → refuse_if (nat_lt n 0) one passes ≡ Err why → P
none_below n one why e = go (nat_lt n 0) refl e where
  go : {Q : Type 0} (b : Bool) → nat_lt n 0 ≡ b → refuse_if b one passes ≡ Err why → Q
  go true is refused = absurd (omega (arith, ltb-true n 0 is))
  go false is refused = no_refusal why refused

-- two tests
two_by : (b d : Bool) (one two why : Fault) → refuse_if b one (refuse_if d two passes) ≡ Err why
    → ((why ≡ one) × (b ≡ true)) ⊎ ((why ≡ two) × (d ≡ true))
two_by true d one two why e = inl (same_refusal one why e, refl)
two_by false true one two why e = inr (same_refusal two why e, refl)
two_by false false one two why e = no_refusal why e

missing_by : (bound : Option Handle) (why : Fault) → want_bound bound (λ to. passes) ≡ Err why → (why ≡ fault.Missing) × (bound ≡ None)
missing_by None why e = (same_refusal fault.Missing why e, refl)
missing_by (Some to) why e = no_refusal why e

-- a directory and a lawful name
in_directory : (kind : Option Kind) (unlawful : Bool) (next : Check) → kind ≡ Some Dir → unlawful ≡ false
    → want_directory kind (refuse_if unlawful fault.BadName next) ≡ next
in_directory kind unlawful next is lawful =
    ap (λ (k : Option Kind). want_directory k (refuse_if unlawful fault.BadName next)) is
    ∙ ap (λ (b : Bool). refuse_if b fault.BadName next) lawful

of_file : (kind : Option Kind) (next : Check) → kind ≡ Some File → want_file kind next ≡ next
of_file kind next is = ap (λ (k : Option Kind). want_file k next) is

-- ---- refusals of the files of a store

module _ (s : Serial) (sound : IsSoundWorld s) where
  abbrev nodes : Handle → Option NodeCopy
  nodes = copies_now s

  why_of : (t : Serial) (c : Call) (why : Fault) → is_snapshot_or_cleaner c ≡ false → serial_call s 0 c ≡ refused why t
      → (refusal s.numbers.block nodes c ≡ Err why) ⊎ (Passes s 0 c × IsShort s 0 c why)
  why_of t c why of is = go (refused_cause s t 0 c why of is) where
    go : IsCause s 0 c why → (refusal s.numbers.block nodes c ≡ Err why) ⊎ (Passes s 0 c × IsShort s 0 c why)
    go (inl nobody) = absurd (let some = sound.actors in let none = nobody.1 in omega (arith, some, none))
    go (inr rest) = rest

  -- a call that commits nothing is refused by the nodes
  visit_why : (t : Serial) (c : Call) (why : Fault) → is_snapshot_or_cleaner c ≡ false → is_nothing c ≡ true
      → serial_call s 0 c ≡ refused why t → refusal s.numbers.block nodes c ≡ Err why
  visit_why t c why of nothing is = go (why_of t c why of is) where
    go : (refusal s.numbers.block nodes c ≡ Err why) ⊎ (Passes s 0 c × IsShort s 0 c why) → refusal s.numbers.block nodes c ≡ Err why
    go (inl e) = e
    go (inr short) = absurd (true≢false (sym nothing ∙ short.0.commits))

  root_kind : kind_of (nodes root) ≡ Some Dir
  root_kind = let there = root_of nodes sound.tree in ap kind_of there.is ∙ ap (λ (k : Kind). Some k) there.kind

  -- a name that is not found is missing
  pub lookup_why : (t : Serial) (name : List ℕ) (why : Fault) → is_lawful_name name ≡ true
      → serial_call s 0 (call.Lookup root name) ≡ refused why t → why ≡ fault.Missing
  lookup_why t name why lawful is =
      let e : lookup_refusal nodes root name ≡ Err why = visit_why t (call.Lookup root name) why refl refl is in
      (missing_by (lookup nodes root name) why
      (sym (in_directory (kind_of (nodes root)) (not (is_lawful_name name)) (want_bound (lookup nodes root name) (λ to. passes)) root_kind (ap not lawful))
      ∙ e)).0

  -- a listing of the root is not refused
  pub list_why : (t : Serial) (why : Fault) → serial_call s 0 (call.List root) ≡ refused why t → ⊥
  list_why t why is =
      no_refusal why (sym (ap (λ (k : Option Kind). want_directory k passes) root_kind) ∙ visit_why t (call.List root) why refl refl is)

  -- files are told of, and read
  pub stat_why : (t : Serial) (file : Handle) (why : Fault) → kind_of (nodes file) ≡ Some File
      → serial_call s 0 (call.Stat file) ≡ refused why t → ⊥
  stat_why t file why kind is =
      no_refusal why (sym (ap (λ (k : Option Kind). want_node k passes) kind) ∙ visit_why t (call.Stat file) why refl refl is)

  pub read_why : (t : Serial) (file : Handle) (offset count : ℕ) (why : Fault) → kind_of (nodes file) ≡ Some File
      → serial_call s 0 (call.Read file offset count) ≡ refused why t → ⊥
  read_why t file offset count why kind is =
      no_refusal why (sym (of_file (kind_of (nodes file)) passes kind) ∙ visit_why t (call.Read file offset count) why refl refl is)

  -- the file under the name that is no key is made, cut and written
  pub create_why : (t : Serial) (mode : ℕ) (why : Fault) → HasNoScratch s
      → serial_call s 0 (call.Create root scratch mode) ≡ refused why t → IsShort s 0 (call.Create root scratch mode) why
  create_why t mode why none is = go (why_of t (call.Create root scratch mode) why refl is) where
    passed : refusal s.numbers.block nodes (call.Create root scratch mode) ≡ passes
    passed =
        in_directory (kind_of (nodes root)) (not (is_lawful_name scratch)) (refuse_if (is_some (lookup nodes root scratch)) fault.Exists passes) root_kind refl
        ∙ ap (λ (o : Option Handle). refuse_if (is_some o) fault.Exists passes) none

    go : (refusal s.numbers.block nodes (call.Create root scratch mode) ≡ Err why) ⊎ (Passes s 0 (call.Create root scratch mode) × IsShort s 0 (call.Create root scratch mode) why)
        → IsShort s 0 (call.Create root scratch mode) why
    go (inl e) = no_refusal why (sym passed ∙ e)
    go (inr short) = short.1

  pub size_why : (t : Serial) (file : Handle) (why : Fault) → kind_of (nodes file) ≡ Some File
      → serial_call s 0 (call.Size file 0) ≡ refused why t → IsShort s 0 (call.Size file 0) why
  size_why t file why kind is = go (why_of t (call.Size file 0) why refl is) where
    go : (refusal s.numbers.block nodes (call.Size file 0) ≡ Err why) ⊎ (Passes s 0 (call.Size file 0) × IsShort s 0 (call.Size file 0) why)
        → IsShort s 0 (call.Size file 0) why
    go (inl e) =
        none_below (FILE_PAGES * s.numbers.block) fault.FileTooBig why
        (sym (of_file (kind_of (nodes file)) (refuse_if (nat_lt (FILE_PAGES * s.numbers.block) 0) fault.FileTooBig passes) kind) ∙ e)
    go (inr short) = short.1

  pub write_why : (t : Serial) (file : Handle) (text : List ℕ) (why : Fault) → kind_of (nodes file) ≡ Some File
      → serial_call s 0 (call.Write file 0 text) ≡ refused why t
      → IsTooLong s.numbers.block (length text) why ⊎ IsShort s 0 (call.Write file 0 text) why
  write_why t file text why kind is = go (why_of t (call.Write file 0 text) why refl is) where
    by_count : (count : ℕ) → count_refusal s.numbers.block 0 count ≡ Err why → IsTooLong s.numbers.block count why
    by_count count e =
        either (two_by (nat_lt WRITE_PAGES (pages_touched s.numbers.block 0 count)) (nat_lt (FILE_PAGES * s.numbers.block) (0 + count))
        fault.WriteTooBig fault.FileTooBig why e) where
          either : ((why ≡ fault.WriteTooBig) × (nat_lt WRITE_PAGES (pages_touched s.numbers.block 0 count) ≡ true))
              ⊎ ((why ≡ fault.FileTooBig) × (nat_lt (FILE_PAGES * s.numbers.block) (0 + count) ≡ true))
              → IsTooLong s.numbers.block count why
          either (inl both) =
              subst (IsTooLong s.numbers.block count) (sym both.0) (ltb-true WRITE_PAGES (pages_touched s.numbers.block 0 count) both.1)
          either (inr both) =
              let past : FILE_PAGES * s.numbers.block < 0 + count = ltb-true (FILE_PAGES * s.numbers.block) (0 + count) both.1 in
              let longer : FILE_PAGES * s.numbers.block < count = omega (arith, past) in
              subst (IsTooLong s.numbers.block count) (sym both.0) longer

    by_text : (bytes : List ℕ) → text_refusal s.numbers.block 0 bytes ≡ Err why → IsTooLong s.numbers.block (length bytes) why
    by_text [] e = no_refusal why e
    by_text (byte ∷ rest) e = by_count (length (byte ∷ rest)) e

    go : (refusal s.numbers.block nodes (call.Write file 0 text) ≡ Err why) ⊎ (Passes s 0 (call.Write file 0 text) × IsShort s 0 (call.Write file 0 text) why)
        → IsTooLong s.numbers.block (length text) why ⊎ IsShort s 0 (call.Write file 0 text) why
    go (inl e) = inl (by_text text (sym (of_file (kind_of (nodes file)) (text_refusal s.numbers.block 0 text) kind) ∙ e))
    go (inr short) = inr short.1

module _ (s : Serial) (sound : IsSoundWorld s) (holds : HoldsStore s) (key : List ℕ) (lawful : is_lawful_name key ≡ true) where
  abbrev there : Handle → Option NodeCopy
  there = copies_now s

  -- what a key leads to is a file
  key_kind : (to : Handle) → lookup there root key ≡ Some to → kind_of (there to) ≡ Some File
  key_kind to is =
      holds.now (record { name = key; to = to }) (found_in key (names_under there root) to is)

  unlawful : not (is_lawful_name key) ≡ false
  unlawful = ap not lawful

  -- ---- a file takes a key's place

  replaced_ok : (other : Option Handle) → ((to : Handle) → other ≡ Some to → kind_of (there to) ≡ Some File)
      → replaced_refusal there (Some File) other ≡ passes
  replaced_ok None files = refl
  replaced_ok (Some to) files =
      ap (λ (k : Option Kind). want_node k (refuse_if (is_directory (Some File) || is_directory k) fault.Exists passes)) (files to refl)

  moved_ok : (file : Handle) (other : Option Handle) → kind_of (there file) ≡ Some File
      → ((to : Handle) → other ≡ Some to → kind_of (there to) ≡ Some File) → moved_refusal there root root other file ≡ passes
  moved_ok file other is files =
      ap (λ (k : Option Kind). want_node k (refuse_if (is_directory k && not (same_handle root root)) fault.MoveDirectory (replaced_refusal there k other))) is
      ∙ replaced_ok other files

  rename_passes : (file : Handle) → same_name scratch key ≡ false → lookup there root scratch ≡ Some file
      → refusal s.numbers.block there (call.Rename root scratch root key) ≡ passes
  rename_passes file differ bound =
      let kind : kind_of (there file) ≡ Some File =
      holds.now (record { name = scratch; to = file }) (found_in scratch (names_under there root) file bound) in
      let first : lookup_refusal there root scratch ≡ passes =
      in_directory (kind_of (there root)) (not (is_lawful_name scratch)) (want_bound (lookup there root scratch) (λ to. passes)) (root_kind s sound) refl
      ∙ ap (λ (o : Option Handle). want_bound o (λ to. passes)) bound in
      let second : want_directory (kind_of (there root)) (want_lawful key passes) ≡ passes = look_passed there key sound.tree unlawful in
      let early : rename_early there root scratch root key ≡ passes =
      ap (λ (one : Check). and_then one (want_directory (kind_of (there root)) (want_lawful key passes))) first ∙ second in
      let from : found there root scratch ≡ Some file =
      look_found (want_directory (kind_of (there root)) (want_lawful scratch passes)) (lookup there root scratch)
      (look_passed there scratch sound.tree refl) ∙ bound in
      let to : found there root key ≡ lookup there root key =
      look_found (want_directory (kind_of (there root)) (want_lawful key passes)) (lookup there root key) second in
      let own : own_place root scratch root key ≡ false = ap (λ (b : Bool). same_handle root root && b) differ in
      let late : want_bound (found there root scratch) (λ moved. pass_if (own_place root scratch root key) (moved_refusal there root root (found there root key) moved)) ≡ passes =
      ap (λ (o : Option Handle). want_bound o (λ moved. pass_if (own_place root scratch root key) (moved_refusal there root root (found there root key) moved))) from
      ∙ ap (λ (b : Bool). pass_if b (moved_refusal there root root (found there root key) file)) own
      ∙ moved_ok file (found there root key) kind (λ h is. key_kind h (sym to ∙ is)) in
      ap (λ (check : Check). and_then check (want_bound (found there root scratch) (λ moved. pass_if (own_place root scratch root key) (moved_refusal there root root (found there root key) moved)))) early
      ∙ late

  pub rename_why : (t : Serial) (file : Handle) (why : Fault) → same_name scratch key ≡ false → lookup there root scratch ≡ Some file
      → serial_call s 0 (call.Rename root scratch root key) ≡ refused why t → IsShort s 0 (call.Rename root scratch root key) why
  rename_why t file why differ bound is = go (why_of s sound t (call.Rename root scratch root key) why refl is) where
    go : (refusal s.numbers.block there (call.Rename root scratch root key) ≡ Err why) ⊎ (Passes s 0 (call.Rename root scratch root key) × IsShort s 0 (call.Rename root scratch root key) why)
        → IsShort s 0 (call.Rename root scratch root key) why
    go (inl e) = no_refusal why (sym (rename_passes file differ bound) ∙ e)
    go (inr short) = short.1

  -- ---- a key is removed

  unlink_early : lookup_refusal there root key ≡ want_bound (lookup there root key) (λ to. passes)
  unlink_early =
      in_directory (kind_of (there root)) (not (is_lawful_name key)) (want_bound (lookup there root key) (λ to. passes)) (root_kind s sound) unlawful

  unlink_found : found there root key ≡ lookup there root key
  unlink_found =
      look_found (want_directory (kind_of (there root)) (want_lawful key passes)) (lookup there root key)
      (look_passed there key sound.tree unlawful)

  -- what the tests of an `unlink` come to, by what the key leads to
  unlink_by : (bound : Option Handle) → lookup there root key ≡ bound
      → refusal s.numbers.block there (call.Unlink root key) ≡ want_bound bound (λ to. passes)
  unlink_by None is =
      ap (λ (check : Check). and_then check (unlink_late there (found there root key)))
      (unlink_early ∙ ap (λ (o : Option Handle). want_bound o (λ to. passes)) is)
  unlink_by (Some to) is =
      ap (λ (check : Check). and_then check (unlink_late there (found there root key)))
      (unlink_early ∙ ap (λ (o : Option Handle). want_bound o (λ h. passes)) is)
      ∙ ap (unlink_late there) (unlink_found ∙ is) ∙ of_file (kind_of (there to)) passes (key_kind to is)

  -- the key has a value where it is bound
  value_is : same_name key scratch ≡ false → (bound : Option Handle) → lookup there root key ≡ bound
      → value_of key (value_in s.plain).entries ≡ option_map (λ (to : Handle). bytes_of (there to)) bound
  value_is other bound is =
      value_found there key other ∙ ap (option_map (λ (to : Handle). bytes_of (there to))) is

  pub remove_why : (t : Serial) (why : Fault) → same_name key scratch ≡ false
      → serial_call s 0 (call.Unlink root key) ≡ refused why t → IsRemoveCause key s why
  remove_why t why other is = go (why_of s sound t (call.Unlink root key) why refl is) (lookup there root key) refl where
    go : (refusal s.numbers.block there (call.Unlink root key) ≡ Err why) ⊎ (Passes s 0 (call.Unlink root key) × IsShort s 0 (call.Unlink root key) why)
        → (bound : Option Handle) → lookup there root key ≡ bound → IsRemoveCause key s why
    go (inl e) None at = inl ((missing_by None why (sym (unlink_by None at) ∙ e)).0, value_is other None at)
    go (inl e) (Some to) at = no_refusal why (sym (unlink_by (Some to) at) ∙ e)
    go (inr short) None at = no_refusal fault.Missing (sym short.0.unrefused ∙ unlink_by None at)
    go (inr short) (Some to) at = inr (inl (ap is_some (value_is other (Some to) at), short.1))

  -- a key that is removed had a value
  pub removed_had : same_name key scratch ≡ false → refusal s.numbers.block there (call.Unlink root key) ≡ passes
      → has_value key (value_in s.plain).entries ≡ true
  removed_had other passed = go (lookup there root key) refl where
    go : (bound : Option Handle) → lookup there root key ≡ bound → has_value key (value_in s.plain).entries ≡ true
    go None at = no_refusal fault.Missing (sym passed ∙ unlink_by None at)
    go (Some to) at = ap is_some (value_is other (Some to) at)
