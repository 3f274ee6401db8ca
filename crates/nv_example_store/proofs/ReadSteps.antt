-- What a store finds: the value of a key, and the keys.
use Rattle.std.proofs.Common.{◌≡◌, ◌≢◌, ◌∙◌, ◌⊎◌, ◌+◌, ◌++◌, ◌<◌, ℕ, Bool, true, false, List, [], ◌∷◌, ap, arith, get_or, inl, inr, length, map, Option, Some, None, Result, Ok, Err, refl, subst, sym, take}
use Rattle.std.specs.Prelude.{IfErr, IfOk, cond, not}
use Rattle.std.specs.Option.{option_map}
use Rattle.std.proofs.lemmas.List.{append-nil, map-append, take_all}
use Rattle.std.proofs.lemmas.List.Elements.{filter_more}
use Rattle.nv_base.specs.Memory.{out_of_memory}
use Rattle.nv_base.specs.Names.{is_lawful_name, same_name}
use Rattle.nv_base.specs.declared.fault.Fault.{Fault}
use Rattle.nv_base.specs.declared.fault.Fault.TheVariants as fault
use Rattle.nv_base.specs.declared.node.Kind.{Kind}
use Rattle.nv_base.specs.declared.node.Kind.TheVariants.{File}
use Rattle.nv_base.specs.declared.numbers.Handle.{Handle}
use Rattle.nv_calls.specs.Plain.{PlainNode}
use Rattle.nv_calls.specs.Refusals.{bytes_of, kind_of}
use Rattle.nv_calls.specs.calls.Stat.{stat_answer}
use Rattle.nv_calls.specs.declared.answer.Answer.TheVariants as answers
use Rattle.nv_calls.specs.declared.call.Call.TheVariants as call
use Rattle.nv_core.specs.Worlds.{WorldState}
use Rattle.nv_entry.specs.Index.{bound_to, without}
use Rattle.nv_entry.specs.Tree.{names_under, root}
use Rattle.nv_entry.specs.declared.names.BoundName.{BoundName}
use Rattle.nv_entry.specs.declared.node.NodeCopy.{NodeCopy}
use Rattle.nv_entry.proofs.Hiding.{same_name-sym}
use Rattle.nv_machine.proofs.DirectoriesChanged.{found_in}
use Rattle.nv_serial.specs.OneCall.{serial_call}
use Rattle.nv_serial.specs.Serial.{Serial, copies_now, refused, told}
use Rattle.nv_effects.specs.Sound.{IsSoundWorld}
use Rattle.nv_effects.proofs.Effects.{calls_have_effects}
use Rattle.nv_effects.proofs.Visits.{list_told, lookup_found, lookup_missing}
use Rattle.nv_files.specs.Stands.{Leads, Stands}
use Rattle.nv_files.specs.Told.{IsRefused, IsToldOrStarved}
use Rattle.nv_files.proofs.Standing.{files_sound}
use Rattle.nv_example_store.specs.Held.{FindsBy, keys_among}
use Rattle.nv_example_store.specs.Keys.{scratch}
use Rattle.nv_example_store.specs.Stored.{HoldsStore, Steps, entry_of, value_in}
use Rattle.nv_example_store.specs.Values.{keys_of, value_of}
use Rattle.nv_example_store.proofs.FoundValues.{value_found}
use Rattle.nv_example_store.proofs.Refusals.{list_why, lookup_why, read_why, stat_why}

-- ---- a name is found

-- what a name leads to
abbrev pub Found : List ℕ → Serial → Option Handle → Type 0
Found name s found = found ≡ bound_to name (names_under (copies_now s) root)

-- memory is refused
abbrev pub Starved : Serial → Fault → Type 0
Starved s why = why ≡ out_of_memory

-- A NAME THAT IS BOUND is found
pub found_step : (name : List ℕ) (file : Handle) (old new : WorldState)
    → Leads (IsToldOrStarved (call.Lookup root name) (Ok file) (λ to. answers.Made to)) old new
    → Steps (FindsBy (Found name) Starved (Ok (Some file))) old new
found_step name file old new looks = λ s stands holds.
    let known = looks s stands in
    let found = lookup_found s known.0 0 root name file known.1 in
    (known.0, (found.1, sym found.0), known.2, subst HoldsStore (sym found.1) holds)

-- one that is missing is not bound
pub missed_step : (name : List ℕ) (old new : WorldState)
    → Leads (IsToldOrStarved (call.Lookup root name) (Err fault.Missing) (λ to. answers.Made to)) old new
    → Steps (FindsBy (Found name) Starved (Ok None)) old new
missed_step name old new looks = λ s stands holds.
    let known = looks s stands in
    (known.0, (known.1.1, sym (missing s known.1.0)), known.2, subst HoldsStore (sym known.1.1) holds) where
      missing : (s : Serial) → (serial_call s 0 (call.Lookup root name) ≡ refused fault.Missing s) ⊎ (fault.Missing ≡ out_of_memory)
          → bound_to name (names_under (copies_now s) root) ≡ None
      missing s (inl is) = lookup_missing s s 0 root name is
      missing s (inr starved) = absurd (let e = starved in cc)

-- else memory is refused
pub unfound_step : (name : List ℕ) (why : Fault) (old new : WorldState) → is_lawful_name name ≡ true → why ≢ fault.Missing
    → Leads (IsToldOrStarved (call.Lookup root name) (Err why) (λ to. answers.Made to)) old new
    → Steps (FindsBy (Found name) Starved (Err why)) old new
unfound_step name why old new lawful differ looks = λ s stands holds.
    let known = looks s stands in
    (known.0, (known.1.1, starved s (files_sound old s stands) known.1.0), known.2, subst HoldsStore (sym known.1.1) holds) where
      starved : (s : Serial) → IsSoundWorld s → (serial_call s 0 (call.Lookup root name) ≡ refused why s) ⊎ (why ≡ out_of_memory)
          → why ≡ out_of_memory
      starved s sound (inl is) = absurd (differ (lookup_why s sound s name why lawful is))
      starved s sound (inr is) = is

-- ---- a value is got

-- nothing changes, and so much is found
abbrev pub ValueIs : List ℕ → Serial → Option (List ℕ) → Type 0
ValueIs key s found = found ≡ value_of key (value_in s.plain).entries

-- all bytes of a file
abbrev pub WholeFile : Handle → Serial → List ℕ → Type 0
WholeFile file s bytes = bytes ≡ bytes_of (copies_now s file)

-- memory is refused, or there is no such file
abbrev pub StarvedOnFile : Handle → Serial → Fault → Type 0
StarvedOnFile file s why = kind_of (copies_now s file) ≡ Some File → why ≡ out_of_memory

-- THE VALUE OF A KEY is the bytes of its file
pub got_step : (key : List ℕ) (file : Handle) (bytes : List ℕ) (old mid new : WorldState) → same_name key scratch ≡ false
    → Steps (FindsBy (Found key) Starved (Ok (Some file))) old mid
    → Steps (FindsBy (WholeFile file) (StarvedOnFile file) (Ok bytes)) mid new
    → Steps (FindsBy (ValueIs key) Starved (Ok (Some bytes))) old new
got_step key file bytes old mid new is_key finds reads = λ s stands holds.
    let one = finds s stands holds in
    let again : Stands mid s = subst (λ (t : Serial). Stands mid t) one.1.0 one.2 in
    let rest = reads s again holds in
    let value : value_of key (value_in s.plain).entries ≡ Some (bytes_of (copies_now s file)) =
    value_found (copies_now s) key is_key ∙ ap (option_map (λ (to : Handle). bytes_of (copies_now s to))) (sym one.1.1) in
    (rest.0, (rest.1.0, ap (λ (b : List ℕ). Some b) rest.1.1 ∙ sym value), rest.2, rest.3)

pub got_refused : (key : List ℕ) (file : Handle) (why : Fault) (old mid new : WorldState)
    → Steps (FindsBy (Found key) Starved (Ok (Some file))) old mid
    → Steps (FindsBy (WholeFile file) (StarvedOnFile file) (Err why)) mid new
    → Steps (FindsBy (ValueIs key) Starved (Err why)) old new
got_refused key file why old mid new finds reads = λ s stands holds.
    let one = finds s stands holds in
    let again : Stands mid s = subst (λ (t : Serial). Stands mid t) one.1.0 one.2 in
    let rest = reads s again holds in
    let kind : kind_of (copies_now s file) ≡ Some File =
    holds.now (record { name = key; to = file }) (found_in key (names_under (copies_now s) root) file (sym one.1.1)) in
    (rest.0, (rest.1.0, rest.1.1 kind), rest.2, rest.3)

-- A KEY THAT IS NOT BOUND has no value
pub none_step : (key : List ℕ) (old new : WorldState) → same_name key scratch ≡ false
    → Steps (FindsBy (Found key) Starved (Ok None)) old new → Steps (FindsBy (ValueIs key) Starved (Ok None)) old new
none_step key old new is_key finds = λ s stands holds.
    let one = finds s stands holds in
    let value : value_of key (value_in s.plain).entries ≡ None =
    value_found (copies_now s) key is_key ∙ ap (option_map (λ (to : Handle). bytes_of (copies_now s to))) (sym one.1.1) in
    (one.0, (one.1.0, sym value), one.2, one.3)

-- a refusal of what was found first
pub find_refused : (name : List ℕ) (why : Fault) (X : Type 0) (P : Serial → X → Type 0) (old new : WorldState)
    → Steps (FindsBy (Found name) Starved (Err why)) old new → Steps (FindsBy P Starved (Err why)) old new
find_refused name why X P old new finds = finds

-- ---- the keys

-- a step of which nothing changes
stays_from : (new : WorldState) (s t : Serial) → t ≡ s → Stands new t → HoldsStore s → Stands new t × HoldsStore t
stays_from new s t same stands holds = (stands, subst HoldsStore (sym same) holds)

keys_are : (nodes : Handle → Option NodeCopy) (names : List BoundName)
    → keys_of (map (entry_of nodes) names) ≡ map (λ (b : BoundName). b.name) names
keys_are nodes [] = refl
keys_are nodes (b ∷ names) = ap (λ (rest : List (List ℕ)). b.name ∷ rest) (keys_are nodes names)

-- nothing changes, and these are the keys
abbrev pub KeysAre : Serial → List (List ℕ) → Type 0
KeysAre s keys = keys ≡ keys_of (value_in s.plain).entries

-- a listing is refused for want of memory alone
pub list_refused : (why : Fault) (old new : WorldState)
    → Leads (IsToldOrStarved (call.List root) (Err why) (λ found. answers.Names found)) old new
    → Steps (FindsBy KeysAre Starved (Err why)) old new
list_refused why old new lists = λ s stands holds.
    let known = lists s stands in
    (known.0, (known.1.1, starved s (files_sound old s stands) known.1.0), known.2, subst HoldsStore (sym known.1.1) holds) where
      starved : (s : Serial) → IsSoundWorld s → (serial_call s 0 (call.List root) ≡ refused why s) ⊎ (why ≡ out_of_memory)
          → why ≡ out_of_memory
      starved s sound (inl is) = absurd (list_why s sound s why is)
      starved s sound (inr is) = is

-- THE KEYS are the names of the root except one
pub keys_step : (names : List BoundName) (keys : List (List ℕ)) (old new : WorldState)
    → Leads (IsToldOrStarved (call.List root) (Ok names) (λ found. answers.Names found)) old new → keys ≡ keys_among names
    → Steps (FindsBy KeysAre Starved (Ok keys)) old new
keys_step names keys old new lists are = λ s stands holds.
    let known = lists s stands in
    let listed = list_told s known.0 0 root (answers.Names names) known.1 in
    let names_are : names ≡ names_under (copies_now s) root = let e = listed.0 in cc in
    let rest = stays_from new s known.0 listed.1 known.2 holds in (
      known.0,
      (
        listed.1,
        are ∙ ap keys_among names_are
            ∙ sym (keys_are (copies_now s) (without scratch (names_under (copies_now s) root))),
      ),
      rest.0,
      rest.1,
    )

-- ---- all bytes of a file

-- a node's size is the length of its bytes
stat_size : (s t : Serial) (file : Handle) (kind : Kind) (mode size commit : ℕ) → IsSoundWorld s
    → serial_call s 0 (call.Stat file) ≡ told (answers.Stat kind mode size commit) t
    → (length (bytes_of (copies_now s file)) ≡ size) × (t ≡ s)
stat_size s t file kind mode size commit sound is =
    let has = calls_have_effects s t 0 (call.Stat file) (answers.Stat kind mode size commit) refl is in
    (go (s.plain.nodes file) refl has.1.told, has.1.same refl) where
      go : (node : Option PlainNode) → s.plain.nodes file ≡ node → answers.Stat kind mode size commit ≡ stat_answer (s.plain.nodes file)
          → length (bytes_of (copies_now s file)) ≡ size
      go None e tells = absurd (let none : answers.Stat kind mode size commit ≡ answers.Nothing = tells ∙ ap stat_answer e in cc)
      go (Some p) e tells =
          let one : answers.Stat kind mode size commit ≡ answers.Stat p.node.kind p.node.mode p.node.size p.changed =
          tells ∙ ap stat_answer e in
          let same : size ≡ p.node.size = cc in
          let there : copies_now s file ≡ Some p.node = ap (option_map (λ (n : PlainNode). n.node)) e in
          ap (λ (n : Option NodeCopy). length (bytes_of n)) there ∙ sound.sizes file p.node there ∙ sym same

-- ALL BYTES of a file are read
pub whole_step : (file : Handle) (kind : Kind) (mode size commit count : ℕ) (into found : List ℕ) (old mid new : WorldState)
    → Leads (λ s t. serial_call s 0 (call.Stat file) ≡ told (answers.Stat kind mode size commit) t) old mid
    → Leads (IsToldOrStarved (call.Read file 0 size) (Ok count) (λ many. answers.Bytes (take many into))) mid new
    → found ≡ take count into → Steps (FindsBy (WholeFile file) (StarvedOnFile file) (Ok found)) old new
whole_step file kind mode size commit count into found old mid new stats reads is = λ s stands holds.
    let known = stats s stands in
    let sized = stat_size s known.0 file kind mode size commit (files_sound old s stands) known.1 in
    let again : Stands mid s = subst (λ (t : Serial). Stands mid t) sized.1 known.2 in
    let next = reads s again in
    let has = calls_have_effects s next.0 0 (call.Read file 0 size) (answers.Bytes (take count into)) refl next.1 in
    let front : take count into ≡ take size (bytes_of (copies_now s file)) = let e = has.1.told in cc in
    let same : next.0 ≡ s = has.1.same refl in (
      next.0,
      (same, is ∙ front ∙ take_all size (bytes_of (copies_now s file)) (omega (arith, sized.0))),
      next.2,
      subst HoldsStore (sym same) holds,
    )

pub stat_refused : (file : Handle) (why : Fault) (old new : WorldState) → Leads (IsRefused (call.Stat file) why) old new
    → Steps (FindsBy (WholeFile file) (StarvedOnFile file) (Err why)) old new
stat_refused file why old new stats = λ s stands holds.
    let known = stats s stands in (
      known.0,
      (known.1.1, λ kind. absurd (stat_why s (files_sound old s stands) s file why kind known.1.0)),
      known.2,
      subst HoldsStore (sym known.1.1) holds,
    )

-- a stat, and then want of room for the bytes
pub room_refused : (file : Handle) (kind : Kind) (mode size commit : ℕ) (why : Fault) (old new : WorldState) → why ≡ out_of_memory
    → Leads (λ s t. serial_call s 0 (call.Stat file) ≡ told (answers.Stat kind mode size commit) t) old new
    → Steps (FindsBy (WholeFile file) (StarvedOnFile file) (Err why)) old new
room_refused file kind mode size commit why old new starved stats = λ s stands holds.
    let known = stats s stands in
    let sized = stat_size s known.0 file kind mode size commit (files_sound old s stands) known.1 in
    (known.0, (sized.1, λ there. starved), known.2, subst HoldsStore (sym sized.1) holds)

-- a stat, and then a read that is refused
pub read_refused : (file : Handle) (kind : Kind) (mode size commit : ℕ) (into : List ℕ) (why : Fault) (old mid new : WorldState)
    → Leads (λ s t. serial_call s 0 (call.Stat file) ≡ told (answers.Stat kind mode size commit) t) old mid
    → Leads (IsToldOrStarved (call.Read file 0 size) (Err why) (λ many. answers.Bytes (take many into))) mid new
    → Steps (FindsBy (WholeFile file) (StarvedOnFile file) (Err why)) old new
read_refused file kind mode size commit into why old mid new stats reads = λ s stands holds.
    let known = stats s stands in
    let sound = files_sound old s stands in
    let sized = stat_size s known.0 file kind mode size commit sound known.1 in
    let again : Stands mid s = subst (λ (t : Serial). Stands mid t) sized.1 known.2 in
    let next = reads s again in
    (next.0, (next.1.1, λ there. starved s sound there next.1.0), next.2, subst HoldsStore (sym next.1.1) holds) where
      starved : (s : Serial) → IsSoundWorld s → kind_of (copies_now s file) ≡ Some File
          → (serial_call s 0 (call.Read file 0 size) ≡ refused why s) ⊎ (why ≡ out_of_memory) → why ≡ out_of_memory
      starved s sound there (inl is) = absurd (read_why s sound s file 0 size why there is)
      starved s sound there (inr is) = is

-- the keys, or want of room for them
pub keys_result : (names : List BoundName) (result : Result (List (List ℕ)) Fault) (old new : WorldState)
    → Leads (IsToldOrStarved (call.List root) (Ok names) (λ found. answers.Names found)) old new
    → IfOk result (λ keys. keys ≡ keys_among names) → IfErr result (λ why. why ≡ out_of_memory)
    → Steps (FindsBy KeysAre Starved result) old new
keys_result names (Ok keys) old new lists are starved = keys_step names keys old new lists are
keys_result names (Err why) old new lists are starved = λ s stands holds.
    let known = lists s stands in
    let listed = list_told s known.0 0 root (answers.Names names) known.1 in
    let rest = stays_from new s known.0 listed.1 known.2 holds in
    (known.0, (listed.1, starved), rest.0, rest.1)

-- one name more
key_more : (b : BoundName) (is : Bool) → map (λ (n : BoundName). n.name) (cond is (b ∷ []) []) ≡ cond is (b.name ∷ []) []
key_more b true = refl
key_more b false = refl

pub keys_more : (names : List BoundName) (i : ℕ) (d : BoundName) → i < length names
    → keys_among (take (i + 1) names)
    ≡ keys_among (take i names) ++ cond (not (same_name scratch (get_or names i d).name)) ((get_or names i d).name ∷ []) []
keys_more names i d lt =
    let next : BoundName = get_or names i d in
    let is_other : BoundName → Bool = λ b. not (same_name scratch b.name) in
    ap (map (λ (n : BoundName). n.name)) (filter_more is_other names i d lt)
    ∙ map-append (λ (n : BoundName). n.name) (without scratch (take i names)) (cond (is_other next) (next ∷ []) [])
    ∙ ap (λ (last : List (List ℕ)). keys_among (take i names) ++ last) (key_more next (is_other next))

-- one name is looked at
keys_by : (names : List BoundName) (i : ℕ) (d : BoundName) (is : Bool) → i < length names → d ≡ get_or names i d
    → same_name d.name scratch ≡ is
    → keys_among (take (i + 1) names) ≡ keys_among (take i names) ++ cond (not is) (d.name ∷ []) []
keys_by names i d is lt here e =
    let all : keys_among (take (i + 1) names)
    ≡ keys_among (take i names) ++ cond (not (same_name scratch d.name)) (d.name ∷ []) [] =
    subst (λ (x : BoundName). keys_among (take (i + 1) names)
    ≡ keys_among (take i names) ++ cond (not (same_name scratch x.name)) (x.name ∷ []) []) (sym here) (keys_more names i d lt) in
    all ∙ ap (λ (t : Bool). keys_among (take i names) ++ cond (not t) (d.name ∷ []) []) (same_name-sym d.name scratch is e)

-- a key more
pub key_kept : (names : List BoundName) (i : ℕ) (d : BoundName) (keys : List (List ℕ)) → i < length names → d ≡ get_or names i d
    → same_name d.name scratch ≡ false → keys ≡ keys_among (take i names)
    → keys ++ d.name ∷ [] ≡ keys_among (take (i + 1) names)
key_kept names i d keys lt here other so_far =
    ap (λ (front : List (List ℕ)). front ++ d.name ∷ []) so_far ∙ sym (keys_by names i d false lt here other)

-- the name that is no key
pub key_left : (names : List BoundName) (i : ℕ) (d : BoundName) (keys : List (List ℕ)) → i < length names → d ≡ get_or names i d
    → same_name d.name scratch ≡ true → keys ≡ keys_among (take i names) → keys ≡ keys_among (take (i + 1) names)
key_left names i d keys lt here same so_far =
    so_far ∙ sym (keys_by names i d true lt here same ∙ append-nil (keys_among (take i names)))
