-- A backup of a store, and what is found in it.
use Rattle.std.proofs.Common.{◌≡◌, ◌≢◌, ◌⊎◌, ◌∙◌, ◌++◌, ◌<◌, ◌≤◌, ◌==◌, ℕ, zero, suc, Bool, true, false, List, [], ◌∷◌, ap, arith, filter, inl, inr, length, map, Option, Some, None, Result, Ok, Err, refl, subst, sym}
use Rattle.std.specs.Prelude.{IfErr, IfOk, not}
use Rattle.std.specs.List.{AllByRecursion, Contains, flat_map, list_any}
use Rattle.std.specs.Option.{option_map}
use Rattle.std.proofs.lemmas.Bool.{eqb-true}
use Rattle.std.proofs.lemmas.List.{map-append}
use Rattle.nv_base.specs.Memory.{out_of_memory}
use Rattle.nv_base.specs.Names.{same_name}
use Rattle.nv_base.specs.declared.fault.Fault.{Fault}
use Rattle.nv_base.specs.declared.node.Kind.TheVariants.{File}
use Rattle.nv_base.specs.declared.numbers.Handle.{Handle}
use Rattle.nv_calls.specs.Plain.{PlainNode, node_in}
use Rattle.nv_calls.specs.Refusals.{bytes_of, is_directory, kind_of}
use Rattle.nv_calls.specs.declared.answer.Answer.TheVariants as answers
use Rattle.nv_calls.specs.declared.call.Call.TheVariants as call
use Rattle.nv_calls.specs.declared.snapshot_or_cleaner_call.SnapshotOrCleanerCall.TheVariants as on
use Rattle.nv_core.specs.Worlds.{WorldState}
use Rattle.nv_entry.specs.Index.{bound_to}
use Rattle.nv_entry.specs.Tree.{names_of_node, names_under, node_and_below, path_below, root, tree_from}
use Rattle.nv_entry.specs.declared.names.BoundName.{BoundName}
use Rattle.nv_entry.specs.declared.node.NodeCopy.{NodeCopy}
use Rattle.nv_entry.specs.declared.tree.TreeNode.{TreeNode}
use Rattle.nv_machine.specs.Directories.{AreTree}
use Rattle.nv_machine.specs.PlainRun.{Copy, is_of}
use Rattle.nv_serial.specs.OneCall.{serial_call}
use Rattle.nv_serial.specs.Serial.{Serial, copies_now, refused}
use Rattle.nv_serial.specs.Snapshots.{snapshot_tree_told}
use Rattle.nv_effects.specs.Causes.{IsSnapCause}
use Rattle.nv_effects.specs.Snapshots.{HasDropped, HasSnapped, new_copy}
use Rattle.nv_effects.specs.Sound.{IsSoundWorld}
use Rattle.nv_effects.proofs.Causes.{refused_cause_on}
use Rattle.nv_effects.proofs.Drained.{calls_drop, calls_snap}
use Rattle.nv_effects.proofs.LivingSnapshots.{copy_of, copy_shown, show_tells}
use Rattle.nv_files.specs.Stands.{Leads}
use Rattle.nv_files.specs.Told.{IsTold, IsToldOrStarved}
use Rattle.nv_files.proofs.Standing.{files_sound}
use Rattle.nv_example_store.specs.Faults.{IsBackupFault, IsForgetCause}
use Rattle.nv_example_store.specs.Held.{BecomesBy, FindsBy, bytes_at}
use Rattle.nv_example_store.specs.Keys.{scratch}
use Rattle.nv_example_store.specs.Stored.{HoldFiles, HoldsStore, Steps, backup_of, entries_in, value_in}
use Rattle.nv_example_store.specs.Values.{Backup, IsBackedUp, IsBackupValue, StoreValue, backed_up, entries_at, forgotten_in, value_of, without_backup}
use Rattle.nv_example_store.proofs.FoundValues.{value_found}
use Rattle.nv_example_store.proofs.Lists.{filter_map_swap}

-- one more copy
all_more : (P : Copy → Type 0) (copies : List Copy) (copy : Copy) → AllByRecursion P copies → P copy
    → AllByRecursion P (copies ++ copy ∷ [])
all_more P [] copy all last = (last, tt)
all_more P (c ∷ copies) copy all last = (all.0, all_more P copies copy all.1 last)

snap_holds : (s t : Serial) (snapshot : ℕ) → HasSnapped s snapshot t → HoldsStore s → HoldsStore t
snap_holds s t snapshot snapped holds = record {
  now = subst (λ (nodes : Handle → Option PlainNode). HoldFiles (node_in nodes)) (sym snapped.nodes) holds.now;
  backups = subst (λ (all : List Copy). AllByRecursion (λ (copy : Copy). HoldFiles copy.nodes) all) (sym snapped.snapshots)
      (all_more (λ (copy : Copy). HoldFiles copy.nodes) s.plain.copies (new_copy s) holds.backups holds.now);
  slots = subst (λ (n : ℕ). 2 ≤ n) (sym snapped.slots) holds.slots;
}

-- the store with one backup more
made : (s t : Serial) (snapshot : ℕ) → HasSnapped s snapshot t
    → map backup_of t.plain.copies ≡ map backup_of s.plain.copies ++ backup_of (new_copy s) ∷ []
    → value_in t.plain ≡ backed_up snapshot (value_in s.plain)
made s t snapshot snapped copies =
    let last : Backup = record { snapshot = s.plain.epoch; entries = entries_in (copies_now s) } in
    let named : Backup = record { snapshot = snapshot; entries = entries_in (copies_now s) } in
    let renamed : last ≡ named =
    ap (λ (n : ℕ). let b : Backup = record { snapshot = n; entries = entries_in (copies_now s) } in b) (sym snapped.named) in
    let backups : map backup_of t.plain.copies ≡ map backup_of s.plain.copies ++ named ∷ [] =
    copies ∙ ap (λ (b : Backup). map backup_of s.plain.copies ++ b ∷ []) renamed in
    let entries : entries_in (copies_now t) ≡ entries_in (copies_now s) =
    ap (λ (nodes : Handle → Option PlainNode). entries_in (node_in nodes)) snapped.nodes in
    λ i. record { entries = entries i; backups = backups i }

-- no older backup has a newer number
none_newer : (snapshot : ℕ) (copies : List Copy) → AllByRecursion (λ (c : Copy). c.snapshot < snapshot) copies
    → entries_at snapshot (map backup_of copies) ≡ None
none_newer snapshot [] before = refl
none_newer snapshot (c ∷ copies) before = go (is_of snapshot c) refl (none_newer snapshot copies before.1) where
  earlier : c.snapshot ≢ snapshot
  earlier same = let lt = before.0 in omega (arith, lt, same)

  go : (b : Bool) → is_of snapshot c ≡ b → entries_at snapshot (map backup_of copies) ≡ None
      → entries_at snapshot (map backup_of (c ∷ copies)) ≡ None
  go true e rest = absurd (earlier (eqb-true c.snapshot snapshot e))
  go false e rest = rw e rest

-- THE NEWEST BACKUP has the entries of now
pub backup_step : (result : Result ℕ Fault) (old new : WorldState)
    → Leads (IsTold (call.SnapshotOrCleaner on.Snap) result (λ snapshot. answers.Snapshot snapshot)) old new
    → Steps (BecomesBy IsBackedUp IsSnapCause result) old new
backup_step (Ok snapshot) old new leads = λ s stands holds.
    let known = leads s stands in
    let t : Serial = known.0 in
    let sound = files_sound old s stands in
    let snapped = calls_snap s t 0 snapshot known.1 in
    let copies : map backup_of t.plain.copies ≡ map backup_of s.plain.copies ++ backup_of (new_copy s) ∷ [] =
    ap (map backup_of) snapped.snapshots ∙ map-append backup_of s.plain.copies (new_copy s ∷ []) in
    let before : AllByRecursion (λ (c : Copy). c.snapshot < snapshot) s.plain.copies =
    subst (λ (n : ℕ). AllByRecursion (λ (c : Copy). c.snapshot < n) s.plain.copies) (sym snapped.named) sound.before in (
      t,
      record { made = made s t snapshot snapped copies; is_new = none_newer snapshot s.plain.copies before },
      known.2,
      snap_holds s t snapshot snapped holds,
    )
backup_step (Err why) old new leads = λ s stands holds.
    let known = leads s stands in
    let sound = files_sound old s stands in (
      known.0,
      (
        ap (λ (u : Serial). value_in u.plain) known.1.1,
        refused_cause_on s s 0 on.Snap why sound.actors known.1.0,
      ),
      known.2,
      subst HoldsStore (sym known.1.1) holds,
    )

-- ---- a backup goes

all_left : (P : Copy → Type 0) (p : Copy → Bool) (copies : List Copy) → AllByRecursion P copies → AllByRecursion P (filter p copies)
all_left P p [] all = tt
all_left P p (c ∷ copies) all = go (p c) refl (all_left P p copies all.1) where
  go : (b : Bool) → p c ≡ b → AllByRecursion P (filter p copies) → AllByRecursion P (filter p (c ∷ copies))
  go true e rest = rw e (all.0, rest)
  go false e rest = rw e rest

none_of : (snapshot : ℕ) (copies : List Copy) → list_any (is_of snapshot) copies ≡ false
    → entries_at snapshot (map backup_of copies) ≡ None
none_of snapshot [] none = refl
none_of snapshot (c ∷ copies) none = go (is_of snapshot c) refl none (none_of snapshot copies) where
  go : (b : Bool) → is_of snapshot c ≡ b → list_any (is_of snapshot) (c ∷ copies) ≡ false
      → (list_any (is_of snapshot) copies ≡ false → entries_at snapshot (map backup_of copies) ≡ None)
      → entries_at snapshot (map backup_of (c ∷ copies)) ≡ None
  go true e any rest = absurd (let z : true ≡ false = rw e at any in cc)
  go false e any rest = rw e (rest (rw e at any))

forgotten : (s t : Serial) (snapshot : ℕ) → HasDropped s snapshot t → value_in t.plain ≡ forgotten_in snapshot (value_in s.plain)
forgotten s t snapshot dropped =
    let entries : entries_in (copies_now t) ≡ entries_in (copies_now s) =
    ap (λ (nodes : Handle → Option PlainNode). entries_in (node_in nodes)) dropped.nodes in
    let backups : map backup_of t.plain.copies ≡ without_backup snapshot (map backup_of s.plain.copies) =
    ap (map backup_of) dropped.snapshots
    ∙ sym (filter_map_swap backup_of (λ (b : Backup). not (b.snapshot == snapshot)) s.plain.copies) in
    λ i. record { entries = entries i; backups = backups i }

forgets_holds : (s t : Serial) (snapshot : ℕ) → HasDropped s snapshot t → HoldsStore s → HoldsStore t
forgets_holds s t snapshot dropped holds = record {
  now = subst (λ (nodes : Handle → Option PlainNode). HoldFiles (node_in nodes)) (sym dropped.nodes) holds.now;
  backups = subst (λ (all : List Copy). AllByRecursion (λ (copy : Copy). HoldFiles copy.nodes) all) (sym dropped.snapshots)
      (all_left (λ (copy : Copy). HoldFiles copy.nodes) (λ copy. not (is_of snapshot copy)) s.plain.copies holds.backups);
  slots = subst (λ (n : ℕ). 2 ≤ n) (sym dropped.slots) holds.slots;
}

-- the store becomes one without the backup
abbrev pub Forgets : ℕ → Unit {0} → StoreValue → StoreValue → Type 0
Forgets snapshot done old new = new ≡ forgotten_in snapshot old

abbrev pub ForgetFails : ℕ → Serial → Fault → Type 0
ForgetFails snapshot s why = IsForgetCause snapshot (value_in s.plain).backups why

-- A BACKUP GOES
pub forget_step : (snapshot : ℕ) (result : Result (Unit {0}) Fault) (old new : WorldState)
    → Leads (IsTold (call.SnapshotOrCleaner (on.Drop snapshot)) result (λ (done : Unit {0}). answers.Nothing)) old new
    → Steps (BecomesBy (Forgets snapshot) (ForgetFails snapshot) result) old new
forget_step snapshot (Ok done) old new leads = λ s stands holds.
    let known = leads s stands in
    let dropped = calls_drop s known.0 0 snapshot answers.Nothing known.1 in
    (known.0, forgotten s known.0 snapshot dropped, known.2, forgets_holds s known.0 snapshot dropped holds)
forget_step snapshot (Err why) old new leads = λ s stands holds.
    let known = leads s stands in
    let sound = files_sound old s stands in
    let cause = refused_cause_on s s 0 (on.Drop snapshot) why sound.actors known.1.0 in (
      known.0,
      (ap (λ (u : Serial). value_in u.plain) known.1.1, (cause.0, none_of snapshot s.plain.copies cause.1)),
      known.2,
      subst HoldsStore (sym known.1.1) holds,
    )

-- ---- what is found in a backup

-- the node of a file has no names
file_names : (nodes : Handle → Option NodeCopy) → AreTree nodes → (file : Handle) → kind_of (nodes file) ≡ Some File
    → names_under nodes file ≡ []
file_names nodes tree file kind = go (names_under nodes file) refl where
  go : (names : List BoundName) → names_under nodes file ≡ names → names_under nodes file ≡ []
  go [] e = e
  go (b ∷ names) e =
      let has : Contains (names_under nodes file) b = subst (λ (all : List BoundName). Contains all b) (sym e) (0, omega arith, refl) in
      let directory : is_directory (kind_of (nodes file)) ≡ true = tree.one_name.named file b has in
      let z : false ≡ true = ap is_directory (sym kind) ∙ directory in absurd (cc)

-- a file alone in a tree
record IsLeaf (nodes : Handle → Option NodeCopy) (depth : ℕ) (path : List (List ℕ)) (file : Handle) : Type 0 where
  node : NodeCopy
  is : nodes file ≡ Some node
  alone : tree_from nodes (suc depth) path file ≡ record { path = path; node = node } ∷ []

leaf_of : (nodes : Handle → Option NodeCopy) → AreTree nodes → (depth : ℕ) (path : List (List ℕ)) (file : Handle)
    → kind_of (nodes file) ≡ Some File → IsLeaf nodes depth path file
leaf_of nodes tree depth path file kind = go (nodes file) refl (file_names nodes tree file kind) kind where
  below : BoundName → List TreeNode
  below bound = tree_from nodes depth (path_below path bound.name) bound.to

  go : (found : Option NodeCopy) → nodes file ≡ found → names_under nodes file ≡ [] → kind_of (nodes file) ≡ Some File
      → IsLeaf nodes depth path file
  go None e names is = absurd (let none : None ≡ Some File = ap kind_of (sym e) ∙ is in cc)
  go (Some node) e names is =
      let bare : node.names ≡ [] = ap names_of_node (sym e) ∙ names in
      let first : TreeNode = record { path = path; node = node } in
      record {
        node = node;
        is = e;
        alone = ap (λ (n : Option NodeCopy). node_and_below n path below) e
            ∙ ap (λ (all : List BoundName). first ∷ flat_map below all) bare;
      }

module _ (nodes : Handle → Option NodeCopy) (tree : AreTree nodes) (key : List ℕ) where
  abbrev under : ℕ → BoundName → List TreeNode
  under depth bound = tree_from nodes (suc depth) (path_below [] bound.name) bound.to

  -- the first file with this name, among files
  found_among : (depth : ℕ) (names : List BoundName) → ((b : BoundName) → Contains names b → kind_of (nodes b.to) ≡ Some File)
      → bytes_at key (flat_map (under depth) names) ≡ option_map (λ (to : Handle). bytes_of (nodes to)) (bound_to key names)
  found_among depth [] files = refl
  found_among depth (b ∷ names) files =
      let leaf = leaf_of nodes tree depth (b.name ∷ []) b.to (files b (0, omega arith, refl)) in
      let rest = found_among depth names (λ c at. files c (suc at.0, (let lt = at.1 in omega (arith, lt)), at.2)) in
      ap (λ (here : List TreeNode). bytes_at key (here ++ flat_map (under depth) names)) leaf.alone
      ∙ go leaf.node leaf.is (same_name key b.name) refl rest where
        go : (node : NodeCopy) → nodes b.to ≡ Some node → (s : Bool) → same_name key b.name ≡ s
            → bytes_at key (flat_map (under depth) names) ≡ option_map (λ (to : Handle). bytes_of (nodes to)) (bound_to key names)
            → bytes_at key (record { path = b.name ∷ []; node = node } ∷ flat_map (under depth) names)
            ≡ option_map (λ (to : Handle). bytes_of (nodes to)) (bound_to key (b ∷ names))
        go node is true same rest = rw same (ap (λ (n : Option NodeCopy). Some (bytes_of n)) (sym is))
        go node is false other rest = rw other rest

  -- in the whole tree
  found_in_tree : (depth : ℕ) → HoldFiles nodes → same_name key scratch ≡ false
      → bytes_at key (tree_from nodes (suc (suc depth)) [] root) ≡ value_of key (entries_in nodes)
  found_in_tree depth files is_key = go (nodes root) refl where
    go : (found : Option NodeCopy) → nodes root ≡ found
        → bytes_at key (tree_from nodes (suc (suc depth)) [] root) ≡ value_of key (entries_in nodes)
    go None e =
        let none : false ≡ true = ap (λ (n : Option NodeCopy). is_directory (kind_of n)) (sym e) ∙ tree.one_name.top in absurd (cc)
    go (Some node) e =
        ap (λ (n : Option NodeCopy). bytes_at key (node_and_below n [] (under depth))) e
        ∙ ap (λ (names : List BoundName). bytes_at key (flat_map (under depth) names)) (ap names_of_node (sym e))
        ∙ found_among depth (names_under nodes root) files ∙ sym (value_found nodes key is_key)

-- ---- the copy of a backup

shown_all : (P : Copy → Type 0) (snapshot : ℕ) (copies : List Copy) (copy : Copy) → AllByRecursion P copies
    → copy_shown snapshot copies ≡ Some copy → P copy
shown_all P snapshot [] copy all is = absurd (let none : None ≡ Some copy = is in cc)
shown_all P snapshot (c ∷ copies) copy all is = go (is_of snapshot c) refl is (shown_all P snapshot copies copy all.1) where
  go : (b : Bool) → is_of snapshot c ≡ b → copy_shown snapshot (c ∷ copies) ≡ Some copy
      → (copy_shown snapshot copies ≡ Some copy → P copy) → P copy
  go true e shown rest = let same : c ≡ copy = let one = rw e at shown in cc in subst P same all.0
  go false e shown rest = rest (rw e at shown)

entries_shown : (snapshot : ℕ) (copies : List Copy)
    → entries_at snapshot (map backup_of copies) ≡ option_map (λ (c : Copy). entries_in c.nodes) (copy_shown snapshot copies)
entries_shown snapshot [] = refl
entries_shown snapshot (c ∷ copies) = go (is_of snapshot c) refl (entries_shown snapshot copies) where
  go : (b : Bool) → is_of snapshot c ≡ b
      → entries_at snapshot (map backup_of copies) ≡ option_map (λ (k : Copy). entries_in k.nodes) (copy_shown snapshot copies)
      → entries_at snapshot (map backup_of (c ∷ copies)) ≡ option_map (λ (k : Copy). entries_in k.nodes) (copy_shown snapshot (c ∷ copies))
  go true e rest = rw e refl
  go false e rest = rw e rest

two_more : (n : ℕ) → 2 ≤ n → (depth : ℕ) × (n ≡ suc (suc depth))
two_more zero two = absurd (omega (arith, two))
two_more (suc zero) two = absurd (omega (arith, two))
two_more (suc (suc depth)) two = (depth, refl)

-- what is found of a key in a backup, and why it is refused
abbrev pub BackupValueIs : ℕ → List ℕ → Serial → Option (List ℕ) → Type 0
BackupValueIs snapshot key s value = IsBackupValue (value_in s.plain).backups snapshot key value

abbrev pub BackupFails : ℕ → Serial → Fault → Type 0
BackupFails snapshot s why = IsBackupFault snapshot (value_in s.plain).backups why

-- WHAT IS FOUND IN A BACKUP is the value of then
pub shown_step : (snapshot : ℕ) (key : List ℕ) (tree : List TreeNode) (found : Option (List ℕ)) (old new : WorldState)
    → same_name key scratch ≡ false
    → Leads (IsToldOrStarved (call.SnapshotOrCleaner (on.Show snapshot)) (Ok tree) (λ shown. answers.Tree shown)) old new
    → found ≡ bytes_at key tree → Steps (FindsBy (BackupValueIs snapshot key) (BackupFails snapshot) (Ok found)) old new
shown_step snapshot key tree found old new is_key leads is = λ s stands holds.
    let known = leads s stands in
    let shown = show_tells s known.0 0 snapshot tree known.1 in
    let sound = files_sound old s stands in
    let copy = copy_of s snapshot tree shown.0 in
    let one_tree : AreTree copy.copy.nodes =
    shown_all (λ (c : Copy). AreTree c.nodes) snapshot s.plain.copies copy.copy sound.copies copy.shown in
    let files : HoldFiles copy.copy.nodes =
    shown_all (λ (c : Copy). HoldFiles c.nodes) snapshot s.plain.copies copy.copy holds.backups copy.shown in
    let deep = two_more (length s.slots) holds.slots in
    let value : bytes_at key tree ≡ value_of key (entries_in copy.copy.nodes) =
    ap (bytes_at key) (sym copy.tree_is ∙ ap (λ (slots : ℕ). tree_from copy.copy.nodes slots [] root) deep.1)
    ∙ found_in_tree copy.copy.nodes one_tree key deep.0 files is_key in
    let there : entries_at snapshot (value_in s.plain).backups ≡ Some (entries_in copy.copy.nodes) =
    entries_shown snapshot s.plain.copies ∙ ap (option_map (λ (c : Copy). entries_in c.nodes)) copy.shown in
    (known.0, (shown.1, (entries_in copy.copy.nodes, there, is ∙ value)), known.2, subst HoldsStore (sym shown.1) holds)

-- the value of then, or want of room for it
pub shown_result : (snapshot : ℕ) (key : List ℕ) (tree : List TreeNode) (result : Result (Option (List ℕ)) Fault) (old new : WorldState)
    → same_name key scratch ≡ false
    → Leads (IsToldOrStarved (call.SnapshotOrCleaner (on.Show snapshot)) (Ok tree) (λ shown. answers.Tree shown)) old new
    → IfOk result (λ found. found ≡ bytes_at key tree) → IfErr result (λ why. why ≡ out_of_memory)
    → Steps (FindsBy (BackupValueIs snapshot key) (BackupFails snapshot) result) old new
shown_result snapshot key tree (Ok found) old new is_key leads is starved = shown_step snapshot key tree found old new is_key leads is
shown_result snapshot key tree (Err why) old new is_key leads is starved = λ s stands holds.
    let known = leads s stands in
    let shown = show_tells s known.0 0 snapshot tree known.1 in (
      known.0,
      (shown.1, subst (IsBackupFault snapshot (value_in s.plain).backups) (sym starved) tt),
      known.2,
      subst HoldsStore (sym shown.1) holds,
    )

-- there is no such backup
none_shown : (s : Serial) (snapshot : ℕ) → snapshot_tree_told s snapshot ≡ None → entries_at snapshot (value_in s.plain).backups ≡ None
none_shown s snapshot none = entries_shown snapshot s.plain.copies ∙ go (copy_shown snapshot s.plain.copies) refl where
  go : (copy : Option Copy) → copy_shown snapshot s.plain.copies ≡ copy
      → option_map (λ (c : Copy). entries_in c.nodes) (copy_shown snapshot s.plain.copies) ≡ None
  go None e = ap (option_map (λ (c : Copy). entries_in c.nodes)) e
  go (Some copy) e =
      let some : snapshot_tree_told s snapshot ≡ Some (tree_from copy.nodes (length s.slots) [] root) =
      ap (option_map (λ (c : Copy). tree_from c.nodes (length s.slots) [] root)) e in
      absurd (let z : Some (tree_from copy.nodes (length s.slots) [] root) ≡ None = sym some ∙ none in cc)

pub show_refused : (snapshot : ℕ) (key : List ℕ) (why : Fault) (old new : WorldState)
    → Leads (IsToldOrStarved (call.SnapshotOrCleaner (on.Show snapshot)) (Err why) (λ shown. answers.Tree shown)) old new
    → Steps (FindsBy (BackupValueIs snapshot key) (BackupFails snapshot) (Err why)) old new
show_refused snapshot key why old new leads = λ s stands holds.
    let known = leads s stands in
    (known.0, (known.1.1, cause s (files_sound old s stands) known.1.0), known.2, subst HoldsStore (sym known.1.1) holds) where
      cause : (s : Serial) → IsSoundWorld s
          → (serial_call s 0 (call.SnapshotOrCleaner (on.Show snapshot)) ≡ refused why s) ⊎ (why ≡ out_of_memory)
          → IsBackupFault snapshot (value_in s.plain).backups why
      cause s sound (inl is) =
          let by = refused_cause_on s s 0 (on.Show snapshot) why sound.actors is in
          subst (IsBackupFault snapshot (value_in s.plain).backups) (sym by.0) (none_shown s snapshot by.1)
      cause s sound (inr starved) = subst (IsBackupFault snapshot (value_in s.plain).backups) (sym starved) tt
