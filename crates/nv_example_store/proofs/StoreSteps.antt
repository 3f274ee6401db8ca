-- Steps of a store, by what the methods of its files are told.
use Rattle.std.proofs.Common.{◌+◌, ◌≡◌, ◌∙◌, ◌++◌, ℕ, ◌⊎◌, arith, false, true, inl, inr, List, [], ◌∷◌, Option, Some, None, Result, Ok, Err, ap, length, refl, subst, sym}
use Rattle.std.specs.Option.{option_map, unwrap_or}
use Rattle.std.proofs.lemmas.List.{append-nil, drop_all}
use Rattle.nv_base.specs.Memory.{out_of_memory}
use Rattle.nv_base.specs.Names.{is_lawful_name, same_name}
use Rattle.nv_base.specs.declared.fault.Fault.{Fault}
use Rattle.nv_base.specs.declared.geometry.GeometryNumbers.{GeometryNumbers}
use Rattle.nv_base.specs.declared.node.Kind.TheVariants.{File}
use Rattle.nv_base.specs.declared.numbers.Handle.{Handle}
use Rattle.nv_calls.specs.Refusals.{bytes_of, kind_of}
use Rattle.nv_calls.specs.calls.Size.{resized_node}
use Rattle.nv_calls.specs.declared.answer.Answer.TheVariants as answers
use Rattle.nv_calls.specs.declared.call.Call.TheVariants as call
use Rattle.nv_core.specs.Worlds.{WorldState}
use Rattle.nv_entry.specs.Bytes.{written}
use Rattle.nv_entry.specs.Index.{bound_to}
use Rattle.nv_entry.specs.Sound.{rewritten}
use Rattle.nv_entry.specs.Tree.{names_under, root}
use Rattle.nv_entry.specs.declared.node.NodeCopy.{NodeCopy}
use Rattle.nv_entry.proofs.Hiding.{same_name-sym}
use Rattle.nv_machine.proofs.DirectoriesChanged.{found_in}
use Rattle.nv_calls.specs.declared.answer.Answer.{Answer}
use Rattle.nv_calls.specs.declared.call.Call.{Call}
use Rattle.nv_serial.specs.OneCall.{serial_call}
use Rattle.nv_serial.specs.Serial.{Outcome, Serial, copies_now, refused, told}
use Rattle.nv_effects.specs.Causes.{IsShort}
use Rattle.nv_effects.specs.Sound.{IsSoundWorld}
use Rattle.nv_effects.proofs.Effects.{calls_have_effects}
use Rattle.nv_files.specs.Stands.{Leads, Stands}
use Rattle.nv_files.specs.Told.{IsToldOrStarved}
use Rattle.nv_files.proofs.Standing.{files_sound}
use Rattle.nv_example_store.specs.Faults.{IsPutCause, IsRemoveCause, IsTooLong, emptying, emptying_of, filling, placing, scratch_file}
use Rattle.nv_example_store.specs.Held.{BecomesBy, EmptiesBy, FindsBy, HasNoScratch, IsLeft, SameStore}
use Rattle.nv_example_store.specs.Keys.{scratch}
use Rattle.nv_example_store.specs.Stored.{HoldsStore, IsScratch, Steps, value_in}
use Rattle.nv_example_store.specs.Tidied.{after}
use Rattle.nv_example_store.specs.Values.{StoreValue, has_value, put_in, removed_in}
use Rattle.nv_example_store.proofs.Puts.{here, key_put, key_removed, made_scratch, scratch_changed, scratch_made, still_bound}
use Rattle.nv_example_store.proofs.ReadSteps.{Found, Starved}
use Rattle.nv_example_store.proofs.Refusals.{create_why, remove_why, removed_had, rename_why, size_why, write_why}

-- ---- steps

-- a refused method leaves all as it was
same_holds : (s t : Serial) → t ≡ s → HoldsStore s → SameStore s t × HoldsStore t
same_holds s t same holds =
    (ap (λ (u : Serial). value_in u.plain) same, subst HoldsStore (sym same) holds)

-- an answered call has left the world after it
pub world_after : (s t : Serial) (c : Call) (a : Answer) → serial_call s 0 c ≡ told a t → t ≡ after s c
world_after s t c a is = sym (ap (λ (o : Outcome). o.world) is)

-- why a step is refused, by what the files say
either_short : {Refusal Short Starved : Type 0} → (Refusal → Short) → Refusal ⊎ Starved → Short ⊎ Starved
either_short of (inl is) = inl (of is)
either_short of (inr starved) = inr starved

-- ---- a file under the name that is no key

-- the call that leaves an empty one
empties_none : (s : Serial) → HasNoScratch s → emptying s ≡ call.Create root scratch 384
empties_none s none = ap emptying_of none

empties_some : (s : Serial) (file : Handle) → bound_to scratch (names_under (copies_now s) root) ≡ Some file
    → emptying s ≡ call.Size file 0
empties_some s file bound = ap emptying_of bound

-- it is made
pub made_step : (result : Result Handle Fault) (old new : WorldState)
    → Leads (IsToldOrStarved (call.Create root scratch 384) result (λ made. answers.Made made)) old new
    → Steps (λ s t. HasNoScratch s → EmptiesBy result s t) old new
made_step (Ok file) old new leads = λ s stands holds.
    let known = leads s stands in
    let t : Serial = known.0 in
    let has = calls_have_effects s t 0 (call.Create root scratch 384) (answers.Made file) refl known.1 in
    let same : has.0 ≡ file = let e = has.1.told in cc in
    let before = files_sound old s stands in
    let behind = files_sound new t known.2 in
    let stays = scratch_made s t before behind holds 384 has.0 (answers.Made file) has.1 in
    let made = made_scratch s t before behind holds 384 has.0 (answers.Made file) has.1 in (
      t,
      (λ none. record {
        same = stays.same;
        there = subst (λ (h : Handle). IsScratch t h []) same made;
        world = world_after s t (call.Create root scratch 384) (answers.Made file) known.1 ∙ ap (after s) (sym (empties_none s none));
        block = ap (λ (g : GeometryNumbers). g.block) has.1.numbers;
      }),
      known.2,
      stays.holds,
    )
made_step (Err why) old new leads = λ s stands holds.
    let known = leads s stands in
    let rest = same_holds s known.0 known.1.1 holds in (
      known.0,
      (λ none. (
        rest.0,
        either_short (λ is. subst (λ (c : Call). IsShort s 0 c why) (sym (empties_none s none))
            (create_why s (files_sound old s stands) s 384 why none is)) known.1.0,
      )),
      known.2,
      rest.1,
    )

-- the kind of the file there
scratch_kind : (s : Serial) (file : Handle) → HoldsStore s → bound_to scratch (names_under (copies_now s) root) ≡ Some file
    → kind_of (copies_now s file) ≡ Some File
scratch_kind s file holds bound =
    holds.now (record { name = scratch; to = file }) (found_in scratch (names_under (copies_now s) root) file bound)

kind_resized : (size : ℕ) (node : Option NodeCopy) → kind_of (option_map (resized_node size) node) ≡ kind_of node
kind_resized size None = refl
kind_resized size (Some node) = refl

no_bytes : (node : Option NodeCopy) → bytes_of (option_map (resized_node 0) node) ≡ []
no_bytes None = refl
no_bytes (Some node) = refl

-- a step from one world with numbers, of which this is known
abbrev pub StepFrom : (Serial → Type 0) → WorldState → Serial → Type 0
StepFrom To new s = (t : Serial) × To t × Stands new t × HoldsStore t

-- it is emptied
emptied : (file : Handle) (old new : WorldState) → Leads (IsToldOrStarved (call.Size file 0) (Ok tt) (λ (done : Unit {0}). answers.Nothing)) old new
    → (s : Serial) → Stands old s → HoldsStore s → bound_to scratch (names_under (copies_now s) root) ≡ Some file
    → StepFrom (EmptiesBy (Ok file) s) new s
emptied file old new leads s stands holds bound =
    let known = leads s stands in
    let t : Serial = known.0 in
    let has = calls_have_effects s t 0 (call.Size file 0) answers.Nothing refl known.1 in
    let sound = files_sound old s stands in
    let kinds : kind_of (option_map (resized_node 0) (copies_now s file)) ≡ Some File =
    kind_resized 0 (copies_now s file) ∙ scratch_kind s file holds bound in
    let stays = scratch_changed s t sound holds file bound (option_map (resized_node 0)) has.1.nodes has.1.snapshots has.1.slots kinds in
    let is = here s t sound holds file bound (option_map (resized_node 0)) has.1.nodes has.1.snapshots has.1.slots kinds in
    let still = still_bound s t sound holds file bound (option_map (resized_node 0)) has.1.nodes has.1.snapshots has.1.slots kinds in (
      t,
      record {
        same = stays.same;
        there = record { bound = still; bytes_are = ap bytes_of is ∙ no_bytes (copies_now s file) };
        world = world_after s t (call.Size file 0) answers.Nothing known.1 ∙ ap (after s) (sym (empties_some s file bound));
        block = ap (λ (g : GeometryNumbers). g.block) has.1.numbers;
      },
      known.2,
      stays.holds,
    )

-- THE FILE THAT IS FOUND there is emptied
pub cut_step : (file : Handle) (old mid new : WorldState)
    → Steps (FindsBy (Found scratch) Starved (Ok (Some file))) old mid
    → Leads (IsToldOrStarved (call.Size file 0) (Ok tt) (λ (done : Unit {0}). answers.Nothing)) mid new
    → Steps (EmptiesBy (Ok file)) old new
cut_step file old mid new finds cuts = λ s stands holds.
    let one = finds s stands holds in
    let again : Stands mid s = subst (λ (t : Serial). Stands mid t) one.1.0 one.2 in
    emptied file mid new cuts s again holds (sym one.1.1)

pub cut_refused : (file : Handle) (why : Fault) (old mid new : WorldState)
    → Steps (FindsBy (Found scratch) Starved (Ok (Some file))) old mid
    → Leads (IsToldOrStarved (call.Size file 0) (Err why) (λ (done : Unit {0}). answers.Nothing)) mid new
    → Steps (EmptiesBy (Err why)) old new
cut_refused file why old mid new finds cuts = λ s stands holds.
    let one = finds s stands holds in
    let again : Stands mid s = subst (λ (t : Serial). Stands mid t) one.1.0 one.2 in
    let known = cuts s again in
    let rest = same_holds s known.0 known.1.1 holds in
    let bound : bound_to scratch (names_under (copies_now s) root) ≡ Some file = sym one.1.1 in (
      known.0,
      (
        rest.0,
        either_short (λ is. subst (λ (c : Call). IsShort s 0 c why) (sym (empties_some s file bound))
            (size_why s (files_sound old s stands) s file why (scratch_kind s file holds bound) is)) known.1.0,
      ),
      known.2,
      rest.1,
    )

-- a refused look leaves all as it was
pub find_put_refused : (why : Fault) (old new : WorldState) → Steps (FindsBy (Found scratch) Starved (Err why)) old new
    → Steps (EmptiesBy (Err why)) old new
find_put_refused why old new finds = λ s stands holds.
    let one = finds s stands holds in
    (one.0, (ap (λ (t : Serial). value_in t.plain) one.1.0, inr one.1.1), one.2, one.3)

-- WHERE THERE IS NONE it is made
pub scratch_after : (result : Result Handle Fault) (old mid new : WorldState)
    → Steps (FindsBy (Found scratch) Starved (Ok None)) old mid
    → Steps (λ s t. HasNoScratch s → EmptiesBy result s t) mid new → Steps (EmptiesBy result) old new
scratch_after result old mid new finds makes = λ s stands holds.
    let one = finds s stands holds in
    let again : Stands mid s = subst (λ (t : Serial). Stands mid t) one.1.0 one.2 in
    let next = makes s again holds in
    (next.0, next.1 (sym one.1.1), next.2, next.3)

-- ---- a value that is written there

kind_rewritten : (offset : ℕ) (text : List ℕ) (node : Option NodeCopy) → kind_of (option_map (rewritten offset text) node) ≡ kind_of node
kind_rewritten offset text None = refl
kind_rewritten offset text (Some node) = refl

-- the bytes of an empty file after a write
write_front : (text : List ℕ) → written 0 text [] ≡ text
write_front text = ap (λ (back : List ℕ). text ++ back) (drop_all (0 + length text) [] (omega arith)) ∙ append-nil text

rewritten_bytes : (text : List ℕ) (node : Option NodeCopy) → kind_of node ≡ Some File → bytes_of node ≡ []
    → bytes_of (option_map (rewritten 0 text) node) ≡ text
rewritten_bytes text None kind bytes = absurd (let none : None ≡ Some File = kind in cc)
rewritten_bytes text (Some node) kind bytes = ap (λ (b : List ℕ). written 0 text b) bytes ∙ write_front text

filled : (value : List ℕ) (file : Handle) (old new : WorldState)
    → Leads (IsToldOrStarved (call.Write file 0 value) (Ok tt) (λ (done : Unit {0}). answers.Count (length value))) old new
    → (s : Serial) → Stands old s → HoldsStore s → IsScratch s file [] → StepFrom (IsLeft (call.Write file 0 value) file value s) new s
filled [] file old new leads s stands holds scratched =
    let known = leads s stands in
    let has = calls_have_effects s known.0 0 (call.Write file 0 []) (answers.Count 0) refl known.1 in
    let same : known.0 ≡ s = has.1.same refl in
    let rest = same_holds s known.0 same holds in (
      known.0,
      record {
        same = rest.0;
        there = subst (λ (t : Serial). IsScratch t file []) (sym same) scratched;
        world = world_after s known.0 (call.Write file 0 []) (answers.Count 0) known.1;
        block = ap (λ (g : GeometryNumbers). g.block) has.1.numbers;
      },
      known.2,
      rest.1,
    )
filled (byte ∷ rest) file old new leads s stands holds scratched =
    let value : List ℕ = byte ∷ rest in
    let known = leads s stands in
    let t : Serial = known.0 in
    let has = calls_have_effects s t 0 (call.Write file 0 value) (answers.Count (length value)) refl known.1 in
    let sound = files_sound old s stands in
    let kind : kind_of (copies_now s file) ≡ Some File = scratch_kind s file holds scratched.bound in
    let kinds : kind_of (option_map (rewritten 0 value) (copies_now s file)) ≡ Some File =
    kind_rewritten 0 value (copies_now s file) ∙ kind in
    let stays = scratch_changed s t sound holds file scratched.bound (option_map (rewritten 0 value)) has.1.nodes has.1.snapshots has.1.slots kinds in
    let is = here s t sound holds file scratched.bound (option_map (rewritten 0 value)) has.1.nodes has.1.snapshots has.1.slots kinds in
    let still = still_bound s t sound holds file scratched.bound (option_map (rewritten 0 value)) has.1.nodes has.1.snapshots has.1.slots kinds in (
      t,
      record {
        same = stays.same;
        there = record {
          bound = still;
          bytes_are = ap bytes_of is ∙ rewritten_bytes value (copies_now s file) kind scratched.bytes_are;
        };
        world = world_after s t (call.Write file 0 value) (answers.Count (length value)) known.1;
        block = ap (λ (g : GeometryNumbers). g.block) has.1.numbers;
      },
      known.2,
      stays.holds,
    )

-- ---- a put

-- the store becomes one in which the key has the value
abbrev pub Puts : (key value : List ℕ) → Unit {0} → StoreValue → StoreValue → Type 0
Puts key value done old new = new ≡ put_in key value old

-- the file there is the one that was left
scratch_is : (s : Serial) (file : Handle) (bytes : List ℕ) → IsScratch s file bytes → scratch_file s ≡ file
scratch_is s file bytes scratched = ap (λ (o : Option Handle). unwrap_or o root) scratched.bound

-- the world after the second call of a put
abbrev after_filling : List ℕ → Serial → Serial
after_filling value t = after t (filling value t)

-- a write of the value that is refused
write_cause : (key value : List ℕ) (file : Handle) (why : Fault) (s t : Serial) → IsLeft (emptying s) file [] s t
    → (IsTooLong t.numbers.block (length value) why ⊎ IsShort t 0 (call.Write file 0 value) why) ⊎ (why ≡ out_of_memory)
    → IsPutCause key value s why
write_cause key value file why s t left (inl (inl long)) =
    inl (subst (λ (block : ℕ). IsTooLong block (length value) why) left.block long)
write_cause key value file why s t left (inl (inr short)) =
    let by_name : IsShort t 0 (filling value t) why =
    subst (λ (h : Handle). IsShort t 0 (call.Write h 0 value) why) (sym (scratch_is t file [] left.there)) short in
    inr (inl (inr (inl (subst (λ (u : Serial). IsShort u 0 (filling value u) why) left.world by_name))))
write_cause key value file why s t left (inr starved) = inr (inr starved)

-- it is refused before the key is changed
pub put_refused : (key value : List ℕ) (file : Handle) (why : Fault) (old mid new : WorldState)
    → Steps (EmptiesBy (Ok file)) old mid
    → Leads (IsToldOrStarved (call.Write file 0 value) (Err why) (λ (done : Unit {0}). answers.Count (length value))) mid new
    → Steps (BecomesBy (Puts key value) (IsPutCause key value) (Err why)) old new
put_refused key value file why old mid new first second = λ s stands holds.
    let one = first s stands holds in
    let t : Serial = one.0 in
    let known = second t one.2 in
    let rest = same_holds t known.0 known.1.1 one.3 in (
      known.0,
      (
        rest.0 ∙ one.1.same,
        write_cause key value file why s t one.1
            (either_short (λ is. write_why t (files_sound mid t one.2) t file value why (scratch_kind t file one.3 one.1.there.bound) is) known.1.0),
      ),
      known.2,
      rest.1,
    )

-- a put is refused before there is an empty file
pub emptying_refused : (key value : List ℕ) (why : Fault) (old new : WorldState) → Steps (EmptiesBy (Err why)) old new
    → Steps (BecomesBy (Puts key value) (IsPutCause key value) (Err why)) old new
emptying_refused key value why old new first = λ s stands holds.
    let one = first s stands holds in
    (one.0, (one.1.0, cause s one.1.1), one.2, one.3) where
      cause : (s : Serial) → IsShort s 0 (emptying s) why ⊎ (why ≡ out_of_memory) → IsPutCause key value s why
      cause s (inl short) = inr (inl (inl short))
      cause s (inr starved) = inr (inr starved)

-- a rename that is refused
placing_cause : (key value : List ℕ) (file : Handle) (why : Fault) (s t u : Serial) → IsLeft (emptying s) file [] s t
    → IsLeft (call.Write file 0 value) file value t u → IsShort u 0 (placing key) why ⊎ (why ≡ out_of_memory) → IsPutCause key value s why
placing_cause key value file why s t u left filled (inl short) =
    let by_name : u ≡ after_filling value t =
    filled.world ∙ ap (λ (h : Handle). after t (call.Write h 0 value)) (sym (scratch_is t file [] left.there)) in
    inr (inl (inr (inr (inl
    (subst (λ (v : Serial). IsShort v 0 (placing key) why) (by_name ∙ ap (after_filling value) left.world) short)))))
placing_cause key value file why s t u left filled (inr starved) = inr (inr starved)

-- THE KEY gets the value
pub put_step : (key value : List ℕ) (file : Handle) (result : Result (Unit {0}) Fault) (old mid late new : WorldState)
    → is_lawful_name key ≡ true → same_name key scratch ≡ false → Steps (EmptiesBy (Ok file)) old mid
    → Leads (IsToldOrStarved (call.Write file 0 value) (Ok tt) (λ (done : Unit {0}). answers.Count (length value))) mid late
    → Leads (IsToldOrStarved (call.Rename root scratch root key) result (λ (done : Unit {0}). answers.Nothing)) late new
    → Steps (BecomesBy (Puts key value) (IsPutCause key value) result) old new
put_step key value file (Ok done) old mid late new lawful is_key first second third = λ s stands holds.
    let one = first s stands holds in
    let two = filled value file mid late second one.0 one.2 one.3 one.1.there in
    let known = third two.0 two.2 in
    let has = calls_have_effects two.0 known.0 0 (call.Rename root scratch root key) answers.Nothing refl known.1 in
    let sound = files_sound late two.0 two.2 in
    let put = key_put two.0 known.0 sound two.3 key value (same_name-sym key scratch false is_key) file two.1.there has.0 answers.Nothing has.1 in
    (known.0, put.0 ∙ ap (put_in key value) (two.1.same ∙ one.1.same), known.2, put.1)
put_step key value file (Err why) old mid late new lawful is_key first second third = λ s stands holds.
    let one = first s stands holds in
    let two = filled value file mid late second one.0 one.2 one.3 one.1.there in
    let u : Serial = two.0 in
    let known = third u two.2 in
    let rest = same_holds u known.0 known.1.1 two.3 in (
      known.0,
      (
        rest.0 ∙ two.1.same ∙ one.1.same,
        placing_cause key value file why s one.0 u one.1 two.1
            (either_short (λ is. rename_why u (files_sound late u two.2) two.3 key lawful u file why
            (same_name-sym key scratch false is_key) two.1.there.bound is) known.1.0),
      ),
      known.2,
      rest.1,
    )

-- ---- a removal

-- the store becomes one in which the key, which had a value, has none
abbrev pub Removes : (key : List ℕ) → Unit {0} → StoreValue → StoreValue → Type 0
Removes key done old new = (has_value key old.entries ≡ true) × (new ≡ removed_in key old)

pub remove_step : (key : List ℕ) (result : Result (Unit {0}) Fault) (old new : WorldState) → is_lawful_name key ≡ true
    → same_name key scratch ≡ false
    → Leads (IsToldOrStarved (call.Unlink root key) result (λ (done : Unit {0}). answers.Nothing)) old new
    → Steps (BecomesBy (Removes key) (IsRemoveCause key) result) old new
remove_step key (Ok done) old new lawful is_key leads = λ s stands holds.
    let known = leads s stands in
    let has = calls_have_effects s known.0 0 (call.Unlink root key) answers.Nothing refl known.1 in
    let sound = files_sound old s stands in
    let less = key_removed s known.0 sound holds key (same_name-sym key scratch false is_key) has.0 answers.Nothing has.1 in
    (known.0, (removed_had s sound holds key lawful is_key has.1.unrefused, less.0), known.2, less.1)
remove_step key (Err why) old new lawful is_key leads = λ s stands holds.
    let known = leads s stands in
    let rest = same_holds s known.0 known.1.1 holds in
    (known.0, (rest.0, cause s (files_sound old s stands) holds known.1.0), known.2, rest.1) where
      cause : (s : Serial) → IsSoundWorld s → HoldsStore s → (serial_call s 0 (call.Unlink root key) ≡ refused why s) ⊎ (why ≡ out_of_memory)
          → IsRemoveCause key s why
      cause s sound holds (inl is) = remove_why s sound holds key lawful s why is_key is
      cause s sound holds (inr starved) = inr (inr starved)
