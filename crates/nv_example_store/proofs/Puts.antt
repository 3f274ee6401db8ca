-- What the calls of a store leave of it: a file under the name that is no key, its bytes, and a key that goes or comes.
use Rattle.std.proofs.Common.{◌≡◌, ◌≢◌, ◌⊎◌, ◌∙◌, ◌&&◌, ◌≤◌, ℕ, zero, suc, Bool, true, false, List, [], ◌∷◌, ap, ap₂, arith, inl, inr, length, map, Option, Some, None, refl, subst, sym}
use Rattle.std.specs.Prelude.{if◌then◌else◌, not}
use Rattle.std.specs.List.{AllByRecursion, Contains}
use Rattle.std.proofs.lemmas.List.Elements.{Contains-append_cases, Contains-append_left}
use Rattle.nv_base.specs.Names.{is_lawful_name, same_name}
use Rattle.nv_base.specs.declared.fault.Fault.TheVariants as fault
use Rattle.nv_base.specs.declared.node.Kind.{Kind}
use Rattle.nv_base.specs.declared.node.Kind.TheVariants.{Dir, File}
use Rattle.nv_base.specs.declared.numbers.Handle.{Handle}
use Rattle.nv_calls.specs.AllCalls.{effect}
use Rattle.nv_calls.specs.Plain.{Change, begins, change, goes, node_in, same_handle, with_names}
use Rattle.nv_calls.specs.Refusals.{Check, and_find, bytes_of, found, found_by, is_directory, kind_of, lookup, passes, refuse_if, want_bound, want_directory, want_lawful}
use Rattle.nv_calls.specs.calls.Lookup.{lookup_refusal}
use Rattle.nv_calls.specs.calls.Rename.{bound_effect, rename_early, replaced_effect}
use Rattle.nv_calls.specs.calls.Unlink.{leave_effect}
use Rattle.nv_calls.specs.declared.answer.Answer.{Answer}
use Rattle.nv_calls.specs.declared.call.Call.TheVariants as call
use Rattle.nv_calls.proofs.Passed.{both_passed, directory_passed, if_passed}
use Rattle.nv_entry.specs.Index.{bound_to, with_last, without}
use Rattle.nv_entry.specs.Sound.{empty_node}
use Rattle.nv_entry.specs.Tree.{names_of_node, names_under, root}
use Rattle.nv_entry.specs.declared.names.BoundName.{BoundName}
use Rattle.nv_entry.specs.declared.node.NodeCopy.{NodeCopy}
use Rattle.nv_entry.proofs.Hiding.{same_name-self}
use Rattle.nv_machine.specs.Directories.{AreTree}
use Rattle.nv_machine.specs.PlainRun.{Copy, Plain}
use Rattle.nv_machine.proofs.DirectoriesChanged.{found_in, other_handle}
use Rattle.nv_machine.proofs.DirectoriesStay.{contains_filter, same_or, same_self}
use Rattle.nv_serial.specs.Serial.{Serial, copies_now}
use Rattle.nv_effects.specs.Effects.{HasEffect, changed}
use Rattle.nv_effects.specs.Sound.{IsSoundWorld}
use Rattle.nv_effects.proofs.Visits.{bound_last}
use Rattle.nv_example_store.specs.Held.{SameStore}
use Rattle.nv_example_store.specs.Keys.{scratch}
use Rattle.nv_example_store.specs.Stored.{HoldFiles, HoldsStore, IsScratch, backup_of, entries_in, value_in}
use Rattle.nv_example_store.specs.Values.{StoreValue, put_in, removed_in}
use Rattle.nv_example_store.proofs.Entries.{entries_last, entries_less, entries_stay, left_last, left_out}
use Rattle.nv_example_store.proofs.Lists.{filter_swap}
use Rattle.nv_example_store.proofs.NamesApart.{below_root, has_other, leads_elsewhere}

-- ---- nodes

-- the root is a directory
pub record HasRoot (nodes : Handle → Option NodeCopy) : Type 0 where
  pub node : NodeCopy
  pub is : nodes root ≡ Some node
  pub kind : node.kind ≡ Dir

pub root_of : (nodes : Handle → Option NodeCopy) → AreTree nodes → HasRoot nodes
root_of nodes tree = go (nodes root) refl tree.one_name.top where
  by_kind : (kind : Kind) → is_directory (Some kind) ≡ true → kind ≡ Dir
  by_kind File is = absurd (let z : false ≡ true = is in cc)
  by_kind Dir is = refl

  go : (node : Option NodeCopy) → nodes root ≡ node → is_directory (kind_of (nodes root)) ≡ true → HasRoot nodes
  go None e top = absurd (let z : false ≡ true = rw e at top in cc)
  go (Some node) e top = record { node = node; is = e; kind = by_kind node.kind (rw e at top) }

-- a node that another change is of
skipped : (a h : Handle) (f : Option NodeCopy → Option NodeCopy) (rest : List Change) (nodes : Handle → Option NodeCopy) → h ≢ a
    → changed (change a f ∷ rest) nodes h ≡ changed rest nodes h
skipped a h f rest nodes differ = rw (other_handle a h (λ same. differ (sym same))) refl

-- a node that the first change is of
reached : (a : Handle) (f : Option NodeCopy → Option NodeCopy) (rest : List Change) (nodes : Handle → Option NodeCopy)
    → changed (change a f ∷ rest) nodes a ≡ f (nodes a)
reached a f rest nodes = rw (same_self a) refl

-- the names of the root after its first change
root_names : (nodes after : Handle → Option NodeCopy) (f : List BoundName → List BoundName) (rest : List Change) → AreTree nodes
    → after root ≡ changed (change root (with_names f) ∷ rest) nodes root → names_under after root ≡ f (names_under nodes root)
root_names nodes after f rest tree is =
    let there = root_of nodes tree in
    ap names_of_node (is ∙ reached root (with_names f) rest nodes ∙ ap (with_names f) there.is)
    ∙ ap (λ (node : Option NodeCopy). f (names_of_node node)) (sym there.is)

-- ---- the store

-- of entries and backups that are as they were
store_is : (p : Plain) (q : StoreValue) → entries_in (node_in p.nodes) ≡ q.entries
    → map backup_of p.copies ≡ q.backups → value_in p ≡ q
store_is p q entries backups = λ i. record { entries = entries i; backups = backups i }

-- the rest of what holds
module _ (s t : Serial) (holds : HoldsStore s) (copies : t.plain.copies ≡ s.plain.copies) (slots : length t.slots ≡ length s.slots) where
  backups_stay : map backup_of t.plain.copies ≡ map backup_of s.plain.copies
  backups_stay = ap (map backup_of) copies

  holds_again : HoldFiles (copies_now t) → HoldsStore t
  holds_again now = record {
    now = now;
    backups = subst (λ (all : List Copy). AllByRecursion (λ (copy : Copy). HoldFiles copy.nodes) all) (sym copies) holds.backups;
    slots = subst (λ (n : ℕ). 2 ≤ n) (sym slots) holds.slots;
  }

  value_stays : entries_in (copies_now t) ≡ entries_in (copies_now s) → SameStore s t
  value_stays entries = store_is t.plain (value_in s.plain) entries backups_stay

  value_put : (key value : List ℕ) → entries_in (copies_now t) ≡ (put_in key value (value_in s.plain)).entries
      → value_in t.plain ≡ put_in key value (value_in s.plain)
  value_put key value entries = store_is t.plain (put_in key value (value_in s.plain)) entries backups_stay

  value_removed : (key : List ℕ) → entries_in (copies_now t) ≡ (removed_in key (value_in s.plain)).entries
      → value_in t.plain ≡ removed_in key (value_in s.plain)
  value_removed key entries = store_is t.plain (removed_in key (value_in s.plain)) entries backups_stay

-- ---- the bytes of the file that is under no key

-- a store stays, and holds files again
pub record Stays (s t : Serial) : Type 0 where
  pub same : SameStore s t
  pub holds : HoldsStore t

module _ (s t : Serial) (sound : IsSoundWorld s) (holds : HoldsStore s) (file : Handle)
    (bound : bound_to scratch (names_under (copies_now s) root) ≡ Some file) (f : Option NodeCopy → Option NodeCopy)
    (left : (handle : Handle) → copies_now t handle ≡ changed (change file f ∷ []) (copies_now s) handle)
    (copies : t.plain.copies ≡ s.plain.copies) (slots : length t.slots ≡ length s.slots)
    (stays : kind_of (f (copies_now s file)) ≡ Some File) where
  abbrev nodes : Handle → Option NodeCopy
  nodes = copies_now s

  abbrev after : Handle → Option NodeCopy
  after = copies_now t

  there : Contains (names_under nodes root) (record { name = scratch; to = file })
  there = found_in scratch (names_under nodes root) file bound

  else_same : (handle : Handle) → handle ≢ file → after handle ≡ nodes handle
  else_same handle differ = left handle ∙ skipped file handle f [] nodes differ

  same_root : after root ≡ nodes root
  same_root =
      else_same root (λ same. below_root nodes sound.tree (record { name = scratch; to = file }) there (sym same))

  same_names : names_under after root ≡ names_under nodes root
  same_names = ap names_of_node same_root

  pub here : after file ≡ f (nodes file)
  here = left file ∙ reached file f [] nodes

  holds_files : HoldFiles after
  holds_files b at = go (same_or b.to file) where
    go : (b.to ≡ file) ⊎ (b.to ≢ file) → kind_of (after b.to) ≡ Some File
    go (inl same) = ap (λ (h : Handle). kind_of (after h)) same ∙ ap kind_of here ∙ stays
    go (inr differ) =
        ap kind_of (else_same b.to differ) ∙ holds.now b (subst (λ (all : List BoundName). Contains all b) same_names at)

  entries_same : entries_in after ≡ entries_in nodes
  entries_same =
      entries_stay nodes after (ap (without scratch) same_names) (λ b at.
      let other = has_other nodes sound.tree scratch b at in
      ap bytes_of (else_same b.to (leads_elsewhere nodes sound.tree scratch file b bound other.0 other.1)))

  pub scratch_changed : Stays s t
  scratch_changed = record {
    same = value_stays s t holds copies slots entries_same;
    holds = holds_again s t holds copies slots holds_files;
  }

  pub still_bound : bound_to scratch (names_under after root) ≡ Some file
  still_bound = ap (bound_to scratch) same_names ∙ bound

-- ---- elements

-- the only element of a list
only : (b one : BoundName) → Contains (one ∷ []) b → b ≡ one
only b one (zero, lt, is) = sym is
only b one (suc k, lt, is) = absurd (omega (arith, lt))

-- what a name's leaving leaves was there
kept_of : (name : List ℕ) (names : List BoundName) (b : BoundName) → Contains (without name names) b → Contains names b
kept_of name names b at = (contains_filter (λ (n : BoundName). not (same_name name n.name)) names b at).0

-- ---- a file that is made there

module _ (s t : Serial) (before : IsSoundWorld s) (behind : IsSoundWorld t) (holds : HoldsStore s) (mode : ℕ) (made : Handle) (a : Answer)
    (has : HasEffect s 0 (call.Create root scratch mode) made a t) where
  abbrev old : Handle → Option NodeCopy
  old = copies_now s

  abbrev new : Handle → Option NodeCopy
  new = copies_now t

  abbrev last : BoundName
  last = record { name = scratch; to = made }

  abbrev rest : List Change
  rest = change made (begins File mode) ∷ []

  names_made : names_under new root ≡ with_last scratch made (names_under old root)
  names_made = root_names old new (with_last scratch made) rest before.tree (has.nodes root)

  bound_made : bound_to scratch (names_under new root) ≡ Some made
  bound_made = ap (bound_to scratch) names_made ∙ bound_last scratch made (names_under old root)

  last_there : Contains (names_under new root) last
  last_there = found_in scratch (names_under new root) made bound_made

  made_below : made ≢ root
  made_below = below_root new behind.tree last last_there

  made_is : new made ≡ Some (empty_node File mode)
  made_is =
      has.nodes made ∙ skipped root made (with_names (with_last scratch made)) rest old made_below
      ∙ reached made (begins File mode) [] old

  else_made : (handle : Handle) → handle ≢ root → handle ≢ made → new handle ≡ old handle
  else_made handle below differ =
      has.nodes handle ∙ skipped root handle (with_names (with_last scratch made)) rest old below
      ∙ skipped made handle (begins File mode) [] old differ

  -- a key leads to another node
  key_same : (b : BoundName) → Contains (without scratch (names_under old root)) b → new b.to ≡ old b.to
  key_same b at =
      let other = has_other old before.tree scratch b at in
      let still : Contains (names_under new root) b =
      subst (λ (all : List BoundName). Contains all b) (sym names_made)
      (Contains-append_left (without scratch (names_under old root)) (last ∷ []) b at) in
      else_made b.to (below_root old before.tree b other.0) (leads_elsewhere new behind.tree scratch made b bound_made still other.1)

  made_files : HoldFiles new
  made_files b at =
      go (Contains-append_cases (without scratch (names_under old root)) (last ∷ []) b
      (subst (λ (all : List BoundName). Contains all b) names_made at)) where
        go : Contains (without scratch (names_under old root)) b ⊎ Contains (last ∷ []) b → kind_of (new b.to) ≡ Some File
        go (inl early) = ap kind_of (key_same b early) ∙ holds.now b (has_other old before.tree scratch b early).0
        go (inr late) = ap (λ (n : BoundName). kind_of (new n.to)) (only b last late) ∙ ap kind_of made_is

  pub scratch_made : Stays s t
  scratch_made = record {
    same = value_stays s t holds has.snapshots has.slots
        (entries_stay old new (ap (without scratch) names_made ∙ left_out scratch made (names_under old root))
        (λ b at. ap bytes_of (key_same b at)));
    holds = holds_again s t holds has.snapshots has.slots made_files;
  }

  pub made_scratch : IsScratch t made []
  made_scratch = record { bound = bound_made; bytes_are = ap bytes_of made_is }

-- ---- a name and what it leads to, where a call passes its tests

-- a look that passes finds what is bound
pub look_found : (check : Check) (to : Option Handle) → check ≡ passes → found_by (and_find check to) ≡ to
look_found check to passed = ap (λ (c : Check). found_by (and_find c to)) passed

pub look_passed : (nodes : Handle → Option NodeCopy) (name : List ℕ) → AreTree nodes → not (is_lawful_name name) ≡ false
    → want_directory (kind_of (nodes root)) (want_lawful name passes) ≡ passes
look_passed nodes name tree lawful =
    let there = root_of nodes tree in
    ap (λ (k : Option Kind). want_directory k (want_lawful name passes)) (ap kind_of there.is ∙ ap (λ (k : Kind). Some k) there.kind)
    ∙ ap (λ (b : Bool). refuse_if b fault.BadName passes) lawful

is_bound : (to : Option Handle) (next : Handle → Check) → want_bound to next ≡ passes → (handle : Handle) × (to ≡ Some handle)
is_bound None next e = absurd (cc)
is_bound (Some handle) next e = (handle, refl)

-- ---- a key that is removed

-- a name of the root was bound, and it leaves with what it led to
record WasBound (was left_now : Handle → Option NodeCopy) (key : List ℕ) : Type 0 where
  to : Handle
  bound : bound_to key (names_under was root) ≡ Some to
  nodes : (handle : Handle) → left_now handle ≡ changed (change root (with_names (without key)) ∷ change to goes ∷ []) was handle

module _ (s t : Serial) (before : IsSoundWorld s) (holds : HoldsStore s) (key : List ℕ) (is_key : same_name scratch key ≡ false)
    (made : Handle) (a : Answer) (has : HasEffect s 0 (call.Unlink root key) made a t) where
  abbrev was : Handle → Option NodeCopy
  was = copies_now s

  abbrev left_now : Handle → Option NodeCopy
  left_now = copies_now t

  was_bound : WasBound was left_now key
  was_bound =
      let first = (both_passed (lookup_refusal was root key) _ has.unrefused).0 in
      let directory = directory_passed (was root) _ first in
      let lawful = if_passed (not (is_lawful_name key)) fault.BadName _ directory.1 in
      let there = is_bound (lookup was root key) (λ to. passes) lawful.1 in
      let is : found was root key ≡ Some there.0 =
      look_found (want_directory (kind_of (was root)) (want_lawful key passes)) (lookup was root key)
      (look_passed was key before.tree lawful.0) ∙ there.1 in
      record {
        to = there.0;
        bound = there.1;
        nodes = λ handle. has.nodes handle
            ∙ ap (λ (o : Option Handle). changed (leave_effect root key o) was handle) is;
      }

  abbrev gone : List Change
  gone = change was_bound.to goes ∷ []

  names_less : names_under left_now root ≡ without key (names_under was root)
  names_less = root_names was left_now (without key) gone before.tree (was_bound.nodes root)

  else_left : (b : BoundName) → Contains (names_under was root) b → b.name ≢ key → left_now b.to ≡ was b.to
  else_left b at differ =
      was_bound.nodes b.to ∙ skipped root b.to (with_names (without key)) gone was (below_root was before.tree b at)
      ∙ skipped was_bound.to b.to goes [] was (leads_elsewhere was before.tree key was_bound.to b was_bound.bound at differ)

  left_files : HoldFiles left_now
  left_files b at =
      let other = has_other was before.tree key b (subst (λ (all : List BoundName). Contains all b) names_less at) in
      ap kind_of (else_left b other.0 other.1) ∙ holds.now b other.0

  keys_less : without scratch (names_under left_now root) ≡ without key (without scratch (names_under was root))
  keys_less =
      ap (without scratch) names_less
      ∙ filter_swap (λ (b : BoundName). not (same_name scratch b.name)) (λ (b : BoundName). not (same_name key b.name))
      (names_under was root)

  -- a name that stays, but for both
  stays_both : (b : BoundName) → Contains (without key (without scratch (names_under was root))) b → left_now b.to ≡ was b.to
  stays_both b at =
      let swapped : Contains (without scratch (without key (names_under was root))) b =
      subst (λ (all : List BoundName). Contains all b)
      (filter_swap (λ (n : BoundName). not (same_name key n.name)) (λ (n : BoundName). not (same_name scratch n.name))
      (names_under was root)) at in
      let inner = kept_of scratch (without key (names_under was root)) b swapped in
      let other = has_other was before.tree key b inner in
      else_left b other.0 other.1

  pub key_removed : (value_in t.plain ≡ removed_in key (value_in s.plain)) × HoldsStore t
  key_removed = (
    value_removed s t holds has.snapshots has.slots key
        (entries_less was left_now key keys_less (λ b at. ap bytes_of (stays_both b at))),
    holds_again s t holds has.snapshots has.slots left_files,
  )

-- ---- a file that takes a key's place

-- what a rename of that file changes
record WasMoved (old_nodes new_nodes : Handle → Option NodeCopy) (file : Handle) (key : List ℕ) : Type 0 where
  other : Option Handle
  other_is : bound_to key (names_under old_nodes root) ≡ other
  nodes : (handle : Handle) → new_nodes handle
      ≡ changed (change root (with_names (λ names. with_last key file (without scratch names))) ∷ replaced_effect other) old_nodes handle

module _ (s t : Serial) (before : IsSoundWorld s) (holds : HoldsStore s) (key value : List ℕ) (is_key : same_name scratch key ≡ false)
    (file : Handle) (scratched : IsScratch s file value) (made : Handle) (a : Answer)
    (has : HasEffect s 0 (call.Rename root scratch root key) made a t) where
  abbrev from : Handle → Option NodeCopy
  from = copies_now s

  abbrev to : Handle → Option NodeCopy
  to = copies_now t

  abbrev moves : List BoundName → List BoundName
  moves names = with_last key file (without scratch names)

  abbrev scratch_name : BoundName
  scratch_name = record { name = scratch; to = file }

  was_moved : WasMoved from to file key
  was_moved =
      let early = (both_passed (rename_early from root scratch root key) _ has.unrefused).0 in
      let second = (both_passed (lookup_refusal from root scratch) _ early).1 in
      let first_is : found from root scratch ≡ Some file =
      look_found (want_directory (kind_of (from root)) (want_lawful scratch passes)) (lookup from root scratch)
      (look_passed from scratch before.tree refl) ∙ scratched.bound in
      let second_is : found from root key ≡ lookup from root key =
      look_found (want_directory (kind_of (from root)) (want_lawful key passes)) (lookup from root key) second in
      let own : (same_handle root root && same_name scratch key) ≡ false = ap (λ (b : Bool). same_handle root root && b) is_key in
      let effect_is : effect from made (call.Rename root scratch root key)
      ≡ change root (with_names moves) ∷ replaced_effect (lookup from root key) =
      ap (λ (b : Bool). if b then [] else bound_effect root scratch root key (found from root scratch) (found from root key)) own
      ∙ ap₂ (λ (one other : Option Handle). bound_effect root scratch root key one other) first_is second_is in
      record {
        other = lookup from root key;
        other_is = refl;
        nodes = λ handle. has.nodes handle ∙ ap (λ (changes : List Change). changed changes from handle) effect_is;
      }

  abbrev replaced : List Change
  replaced = replaced_effect was_moved.other

  names_moved : names_under to root ≡ moves (names_under from root)
  names_moved = root_names from to moves replaced before.tree (was_moved.nodes root)

  -- a name but the key leads to a node that stays
  else_moved : (b : BoundName) → Contains (names_under from root) b → b.name ≢ key → to b.to ≡ from b.to
  else_moved b at differ =
      was_moved.nodes b.to
      ∙ skipped root b.to (with_names moves) replaced from (below_root from before.tree b at)
      ∙ go was_moved.other was_moved.other_is where
        go : (other : Option Handle) → bound_to key (names_under from root) ≡ other → changed (replaced_effect other) from b.to ≡ from b.to
        go None is = refl
        go (Some gone_to) is =
            skipped gone_to b.to goes [] from (leads_elsewhere from before.tree key gone_to b is at differ)

  scratch_there : Contains (names_under from root) scratch_name
  scratch_there = found_in scratch (names_under from root) file scratched.bound

  scratch_other : scratch ≢ key
  scratch_other same =
      let alike : same_name scratch key ≡ true = ap (same_name scratch) (sym same) ∙ same_name-self scratch in
      let z : true ≡ false = sym alike ∙ is_key in cc

  file_same : to file ≡ from file
  file_same = else_moved scratch_name scratch_there scratch_other

  -- a key that is left leads to a node that stays
  left_same : (b : BoundName) → Contains (without key (without scratch (names_under from root))) b → to b.to ≡ from b.to
  left_same b at =
      let swapped : Contains (without scratch (without key (names_under from root))) b =
      subst (λ (all : List BoundName). Contains all b)
      (filter_swap (λ (n : BoundName). not (same_name key n.name)) (λ (n : BoundName). not (same_name scratch n.name))
      (names_under from root)) at in
      let inner = kept_of scratch (without key (names_under from root)) b swapped in
      let other = has_other from before.tree key b inner in
      else_moved b other.0 other.1

  was_there : (b : BoundName) → Contains (without key (without scratch (names_under from root))) b → Contains (names_under from root) b
  was_there b at =
      kept_of scratch (names_under from root) b (kept_of key (without scratch (names_under from root)) b at)

  moved_files : HoldFiles to
  moved_files b at =
      go (Contains-append_cases (without key (without scratch (names_under from root))) (record { name = key; to = file } ∷ []) b
      (subst (λ (all : List BoundName). Contains all b) names_moved at)) where
        go : Contains (without key (without scratch (names_under from root))) b ⊎ Contains (record { name = key; to = file } ∷ []) b
            → kind_of (to b.to) ≡ Some File
        go (inl early) = ap kind_of (left_same b early) ∙ holds.now b (was_there b early)
        go (inr late) =
            let last : BoundName = record { name = key; to = file } in
            ap (λ (n : BoundName). kind_of (to n.to)) (only b last late) ∙ ap kind_of file_same ∙ holds.now scratch_name scratch_there

  keys_last : without scratch (names_under to root) ≡ with_last key file (without scratch (names_under from root))
  keys_last = ap (without scratch) names_moved ∙ left_last scratch key file (names_under from root) is_key

  pub key_put : (value_in t.plain ≡ put_in key value (value_in s.plain)) × HoldsStore t
  key_put = (
    value_put s t holds has.snapshots has.slots key value
        (entries_last from to key value file keys_last (λ b at. ap bytes_of (left_same b at))
        (ap bytes_of file_same ∙ scratched.bytes_are)),
    holds_again s t holds has.snapshots has.slots moved_files,
  )
