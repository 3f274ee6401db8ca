-- Calls that change what stands in one node alone, and requests that make such calls alone.
use Rattle.std.proofs.Common.{[], ◌∙◌, ◌∷◌, ◌≡◌, ◌≢◌, ◌⊎◌, Bool, Err, List, None, Ok, Option, Result, Some, ap, arith, false, inl, inr, length, refl, subst, sym, true, ℕ}
use Rattle.std.specs.Prelude.{if◌then◌else◌, option_map}
use Rattle.nv_base.specs.declared.fault.Fault.{Fault}
use Rattle.nv_base.specs.declared.numbers.Handle.{Handle}
use Rattle.nv_calls.specs.Plain.{change, same_handle, with_mode}
use Rattle.nv_calls.specs.Refusals.{kind_of, lookup}
use Rattle.nv_calls.specs.calls.Size.{resized_node}
use Rattle.nv_calls.specs.declared.answer.Answer.{Answer}
use Rattle.nv_calls.specs.declared.call.Call.{Call}
use Rattle.nv_calls.specs.declared.call.Call.TheVariants as calls
use Rattle.nv_entry.specs.Index.{bound_to}
use Rattle.nv_entry.specs.Sound.{rewritten}
use Rattle.nv_entry.specs.Tree.{names_of_node, root}
use Rattle.nv_entry.specs.declared.node.NodeCopy.{NodeCopy}
use Rattle.nv_effects.specs.Effects.{HasEffect, changed}
use Rattle.nv_effects.proofs.Effects.{calls_have_effects}
use Rattle.nv_mount_beside.specs.Names.{hidden, node_named}
use Rattle.nv_mount_beside.specs.declared.refusal.Refusal.{Refusal}
use Rattle.nv_mounted.specs.Dialogues.{◌>>=◌, Asks, Dialogue, Ends, Grows, GrowsOr, IsHad}
use Rattle.nv_mounted.specs.declared.side.Side.{Side}
use Rattle.nv_serial.specs.OneCall.{serial_call}
use Rattle.nv_serial.specs.Serial.{Serial, copies_now, told}
use Rattle.nv_mounted.specs.Side.{at_node, with_side}
use Rattle.nv_mount_laws.specs.Hidden.{AreHidden, KeepsHidden}
use Rattle.nv_mount_laws.specs.World.{Calls, CanStand}
use Rattle.nv_mount_laws.specs.Open.{LeavesOpens, LeavesOtherFiles}
use Rattle.nv_mount_laws.proofs.Effects.{changed_later}
use Rattle.nv_mount_laws.proofs.Flags.{KeepsFlags}
use Rattle.nv_mount_laws.proofs.HiddenKept.{KeepsHiddenFlags, hidden_flags, hidden_there, same_hidden_flags, there_by}
use Rattle.nv_mount_laws.proofs.Standing.{IsWell, stands_well}
use Rattle.nv_mount_laws.proofs.Stays.{stands_after, stays}
use Rattle.nv_mount_laws.proofs.Dialogues.{GoesOn, Stops, parts}

-- kinds and names stay
pub record KeepsNames (old new : Serial) : Type 0 where
  pub kinds : (handle : Handle) → kind_of (copies_now new handle) ≡ kind_of (copies_now old handle)
  pub names : (dir : Handle) (name : List ℕ) → lookup (copies_now new) dir name
      ≡ lookup (copies_now old) dir name
  pub slots : length new.slots ≡ length old.slots

pub same_names : (old new : Serial) → new ≡ old → KeepsNames old new
same_names old new same = record {
  kinds = λ handle. ap (λ (s : Serial). kind_of (copies_now s handle)) same;
  names = λ dir name. ap (λ (s : Serial). lookup (copies_now s) dir name) same;
  slots = ap (λ (s : Serial). length s.slots) same;
}

pub names_twice : (old between new : Serial) → KeepsNames old between → KeepsNames between new
    → KeepsNames old new
names_twice old between new first second = record {
  kinds = λ handle. second.kinds handle ∙ first.kinds handle;
  names = λ dir name. second.names dir name ∙ first.names dir name;
  slots = second.slots ∙ first.slots;
}

-- THE HIDDEN FILES stay so where kinds and names do
pub contents_hidden : (old new : Serial) (side new_side : Side) → AreHidden old side → IsWell old
    → KeepsNames old new
    → KeepsHiddenFlags old side new_side → AreHidden new new_side
contents_hidden old new side new_side was well keeps flags =
    let hidden_is : side.hidden ≡ new_side.hidden = sym flags.hidden in
    record {
      place = keeps.names root hidden ∙ was.place ∙ ap (λ (h : Handle). Some h) hidden_is;
      directory = ap (λ (h : Handle). kind_of (copies_now new h)) flags.hidden
          ∙ keeps.kinds side.hidden ∙ was.directory;
      stands = λ handle node is nameless.
          let there = there_by node.kind (copies_now old handle)
          (sym (keeps.kinds handle) ∙ ap kind_of is) in
          let stood = was.stands handle there.0 there.1
          (sym (flags.nameless handle there.0 there.1) ∙ nameless) in
          record {
            name = stood.name;
            numbered = stood.numbered;
            bound = ap (λ (h : Handle). lookup (copies_now new) h stood.name) flags.hidden
                ∙ keeps.names side.hidden stood.name ∙ stood.bound;
          };
      kept = λ handle nameless opened.
          let both = flags.before handle nameless opened in
          let there = was.kept handle both.0 both.1 in
          there_by there.0.kind (copies_now new handle) (keeps.kinds handle ∙ ap kind_of there.1);
      only = λ more handle bound.
          let before : lookup (copies_now old) side.hidden more ≡ Some handle =
          sym (keeps.names side.hidden more) ∙ ap (λ (h : Handle). lookup (copies_now new) h more)
          hidden_is ∙ bound in
          let stood = was.only more handle before in
          let there = hidden_there old side was well more handle stood in
          record {
            file = keeps.kinds handle ∙ stood.file;
            is_open = flags.opens handle there.0 there.1 stood.nameless stood.is_open;
            nameless = flags.nameless handle there.0 there.1 ∙ stood.nameless;
            numbered = stood.numbered;
          };
      numbered = λ handle nameless. was.numbered handle (flags.unnamed handle nameless);
      rows = (let less = was.rows in let many = keeps.slots in let rows =
          flags.rows in omega (arith, less, many, rows));
    }

-- ---- one node changed, except its kind and its names

-- a change leaves kind and names
abbrev pub IsContent : (Option NodeCopy → Option NodeCopy) → Type 0
IsContent f =
    (node : Option NodeCopy) → (kind_of (f node) ≡ kind_of node)
    × (names_of_node (f node) ≡ names_of_node node)

pub content_rewritten : (offset : ℕ) (text : List ℕ)
    → IsContent (option_map (rewritten offset text))
content_rewritten offset text None = (refl, refl)
content_rewritten offset text (Some node) = (refl, refl)

pub content_resized : (size : ℕ) → IsContent (option_map (resized_node size))
content_resized size None = (refl, refl)
content_resized size (Some node) = (refl, refl)

pub content_moded : (mode : ℕ) → IsContent (with_mode mode)
content_moded mode None = (refl, refl)
content_moded mode (Some node) = (refl, refl)

pub content_keeps : (old new : Serial) (at : Handle) (f : Option NodeCopy → Option NodeCopy)
    → IsContent f
    → ((handle : Handle) → copies_now new handle
    ≡ changed (change at f ∷ []) (copies_now old) handle) → length new.slots ≡ length old.slots
    → KeepsNames old new
content_keeps old new at f content each slots = record {
  kinds = λ handle. ap kind_of (each handle) ∙ kinds handle (same_handle at handle);
  names = λ dir name. ap (λ (n : Option NodeCopy). bound_to name (names_of_node n)) (each dir)
      ∙ ap (bound_to name) (names dir (same_handle at dir));
  slots = slots;
} where
  kinds : (handle : Handle) (b : Bool)
      → kind_of (if b then f (copies_now old handle) else copies_now old handle)
      ≡ kind_of (copies_now old handle)
  kinds handle true = (content (copies_now old handle)).0
  kinds handle false = refl

  names : (handle : Handle) (b : Bool)
      → names_of_node (if b then f (copies_now old handle) else copies_now old handle)
      ≡ names_of_node (copies_now old handle)
  names handle true = (content (copies_now old handle)).1
  names handle false = refl

-- ---- dialogues that change what stands in one node alone

-- a call that reads, or changes what stands in this node
abbrev pub IsOf : Handle → Call → Type 0
IsOf handle (calls.Read file offset count) = Unit {0}
IsOf handle (calls.Stat file) = Unit {0}
IsOf handle (calls.List dir) = Unit {0}
IsOf handle (calls.Lookup dir name) = Unit {0}
IsOf handle (calls.Write file offset text) = file ≡ handle
IsOf handle (calls.Size file size) = file ≡ handle
IsOf handle (calls.Mode file mode) = file ≡ handle
IsOf handle other = ⊥

-- all its calls are such
abbrev pub OnlyOf : {A : Type 0} → Handle → Dialogue A → Type 0
OnlyOf handle (Ends is_told) = Unit {0}
OnlyOf handle (Grows rest) = OnlyOf handle rest
OnlyOf handle (GrowsOr refused rest) = OnlyOf handle refused × OnlyOf handle rest
OnlyOf handle (Asks call rest) = IsOf handle call
    × ((answer : Result Answer Fault) → OnlyOf handle (rest answer))

-- other nodes stay, and of this one kind and names
pub record KeepsOthers (handle : Handle) (old new : Serial) : Type 0 where
  pub names : KeepsNames old new
  pub others : (h : Handle) → h ≢ handle → copies_now new h ≡ copies_now old h

same_others : (handle : Handle) (old new : Serial) → new ≡ old → KeepsOthers handle old new
same_others handle old new same = record {
  names = same_names old new same;
  others = λ h differ. ap (λ (s : Serial). copies_now s h) same;
}

content_others : (old new : Serial) (at : Handle) (f : Option NodeCopy → Option NodeCopy)
    → IsContent f
    → ((h : Handle) → copies_now new h ≡ changed (change at f ∷ []) (copies_now old) h)
    → length new.slots ≡ length old.slots
    → KeepsOthers at old new
content_others old new at f content each slots = record {
  names = content_keeps old new at f content each slots;
  others = λ h differ. each h ∙ changed_later at f [] (copies_now old) h differ;
}

pub write_others : (old new : Serial) (file : Handle) (offset : ℕ) (text : List ℕ) (made : Handle)
    (a : Answer)
    → HasEffect old 0 (calls.Write file offset text) made a new → KeepsOthers file old new
write_others old new file offset [] made a has = same_others file old new (has.same refl)
write_others old new file offset (byte ∷ rest) made a has =
    content_others old new file (option_map (rewritten offset (byte ∷ rest)))
    (content_rewritten offset (byte ∷ rest)) has.nodes has.slots

of_keeps : (handle : Handle) (c : Call) (old new : Serial) (a : Answer) → IsOf handle c
    → serial_call old 0 c ≡ told a new
    → KeepsOthers handle old new
of_keeps handle (calls.Read file offset count) old new a of is =
    same_others handle old new ((calls_have_effects old new 0 (calls.Read file offset count) a refl
    is).1.same refl)
of_keeps handle (calls.Stat file) old new a of is =
    same_others handle old new ((calls_have_effects old new 0 (calls.Stat file) a refl is).1.same
    refl)
of_keeps handle (calls.List dir) old new a of is =
    same_others handle old new ((calls_have_effects old new 0 (calls.List dir) a refl is).1.same
    refl)
of_keeps handle (calls.Lookup dir name) old new a of is =
    same_others handle old new ((calls_have_effects old new 0 (calls.Lookup dir name) a refl
    is).1.same refl)
of_keeps handle (calls.Write file offset text) old new a of is =
    let has = calls_have_effects old new 0 (calls.Write file offset text) a refl is in
    subst (λ (h : Handle). KeepsOthers h old new) of
    (write_others old new file offset text has.0 a has.1)
of_keeps handle (calls.Size file size) old new a of is =
    let has = calls_have_effects old new 0 (calls.Size file size) a refl is in
    subst (λ (h : Handle). KeepsOthers h old new) of
    (content_others old new file (option_map (resized_node size)) (content_resized size) has.1.nodes
    has.1.slots)
of_keeps handle (calls.Mode file mode) old new a of is =
    let has = calls_have_effects old new 0 (calls.Mode file mode) a refl is in
    subst (λ (h : Handle). KeepsOthers h old new) of
    (content_others old new file (with_mode mode) (content_moded mode) has.1.nodes has.1.slots)
of_keeps handle other old new a of is = absurd of

others_twice : (handle : Handle) (old between new : Serial) → KeepsOthers handle old between
    → KeepsOthers handle between new
    → KeepsOthers handle old new
others_twice handle old between new first second = record {
  names = names_twice old between new first.names second.names;
  others = λ h differ. second.others h differ ∙ first.others h differ;
}

called_keeps : (handle : Handle) (c : Call) (old new : Serial) (result : Result Answer Fault)
    → IsOf handle c → Calls old c result new
    → KeepsOthers handle old new
called_keeps handle c old new (Ok a) of called = of_keeps handle c old new a of called.answered
called_keeps handle c old new (Err why) of called = same_others handle old new called.answered.1

pub only_keeps : {A : Type 0} (handle : Handle) (d : Dialogue A) → OnlyOf handle d
    → (old new : Serial) (end : Result A Refusal)
    → IsHad Calls d old end new → KeepsOthers handle old new
only_keeps handle (Ends is_told) only old new end had = same_others handle old new had.1
only_keeps handle (Grows rest) only old new end (inl had) = same_others handle old new had.1
only_keeps handle (Grows rest) only old new end (inr had) =
    only_keeps handle rest only old new end had
only_keeps handle (GrowsOr refused rest) only old new end (inl had) =
    only_keeps handle refused only.0 old new end had
only_keeps handle (GrowsOr refused rest) only old new end (inr had) =
    only_keeps handle rest only.1 old new end had
only_keeps handle (Asks call rest) only old new end had =
    others_twice handle old had.1 new (called_keeps handle call old had.1 had.0 only.0 had.2)
    (only_keeps handle (rest had.0) (only.1 had.0) had.1 new end had.3)

-- two such, one behind the other
pub both_of : {A B : Type 0} (handle : Handle) (d : Dialogue A) (next : A → Dialogue B)
    → OnlyOf handle d → ((a : A) → OnlyOf handle (next a))
    → OnlyOf handle (d >>= next)
unfolding ◌>>=◌
both_of handle (Ends (Ok a)) next first after = after a
both_of handle (Ends (Err why)) next first after = tt
both_of handle (Grows rest) next first after = both_of handle rest next first after
both_of handle (GrowsOr refused rest) next first after =
    (both_of handle refused next first.0 after, both_of handle rest next first.1 after)
both_of handle (Asks call rest) next first after =
    (first.0, λ answer. both_of handle (rest answer) next (first.1 answer) after)

pub chosen_of : {A : Type 0} (handle : Handle) (b : Bool) (one other : Dialogue A)
    → OnlyOf handle one → OnlyOf handle other
    → OnlyOf handle (if b then one else other)
chosen_of handle true one other first second = first
chosen_of handle false one other first second = second

-- ---- laws of them

module _ {A : Type 0} (side : Side) (number : ℕ) (next : Handle → Dialogue (A × Side)) where
  abbrev request : Dialogue (A × Side)
  request = Ends (node_named number) >>= next

  -- a request that changes what stands in the node that it names leaves all other files
  pub others_stay : ((handle : Handle) → OnlyOf handle (next handle))
      → LeavesOtherFiles request side number
  others_stay each old new new_side result stands does handle node is kind other =
      stays old new handle node
      (stands_after request old new (with_side new_side result) stands does.had) is kind
      (go (parts Calls next (Ends (node_named number)) old new (with_side new_side result)
      does.had)) where
        go : GoesOn Calls next (Ends (node_named number)) old (with_side new_side result) new
            ⊎ Stops Calls next (Ends (node_named number)) old (with_side new_side result) new
            → copies_now new handle ≡ Some node
        go (inl on) =
            let keeps = only_keeps on.value (next on.value) (each on.value) on.between new
            (with_side new_side result) on.then in
            let differ : handle ≢ on.value = (λ same. other
            (sym on.first.0 ∙ ap (λ (h : Handle). Ok h) (sym same))) in
            keeps.others handle differ ∙ ap (λ (s : Serial). copies_now s handle) on.first.1 ∙ is
        go (inr stop) = ap (λ (s : Serial). copies_now s handle) stop.first.1 ∙ is

  -- it leaves kinds and names
  pub names_stay : ((handle : Handle) → OnlyOf handle (next handle)) → (old new : Serial)
      (end : Result (A × Side) Refusal) → IsHad Calls request old end new → KeepsNames old new
  names_stay each old new end had =
      go (parts Calls next (Ends (node_named number)) old new end had) where
        go : GoesOn Calls next (Ends (node_named number)) old end new
            ⊎ Stops Calls next (Ends (node_named number)) old end new → KeepsNames old new
        go (inl on) =
            subst (λ (s : Serial). KeepsNames s new) on.first.1
            (only_keeps on.value (next on.value) (each on.value) on.between new end on.then).names
        go (inr stop) = same_names old new stop.first.1

  -- and hidden files, where it says the same of opens and of names beside the world
  pub names_hidden : ((handle : Handle) → OnlyOf handle (next handle))
      → ((old new : Serial) (new_side : Side) (a : A) → CanStand old → AreHidden old side
      → IsHad Calls request old (Ok (a, new_side)) new → KeepsFlags old side new_side)
      → KeepsHidden request side
  names_hidden each flags old new new_side (Ok a) stands was does =
      contents_hidden old new side new_side was (stands_well old stands)
      (names_stay each old new (Ok (a, new_side)) does.had)
      (hidden_flags old side new_side (flags old new new_side a stands was does.had))
  names_hidden each flags old new new_side (Err why) stands was does =
      contents_hidden old new side new_side was (stands_well old stands)
      (names_stay each old new (Err why) does.had)
      (same_hidden_flags old side new_side does.same)

-- a request that says the same of opens beside the world leaves each node as often open
pub flags_count : {A : Type 0} (talk : Dialogue (A × Side)) (side : Side)
    → ((old new : Serial) (new_side : Side) (a : A) → CanStand old → AreHidden old side
    → IsHad Calls talk old (Ok (a, new_side)) new → KeepsFlags old side new_side)
    → LeavesOpens talk side
flags_count talk side flags old new new_side (Ok a) stands was does handle node is =
    ((flags old new new_side a stands was does.had).there handle node is).opens
flags_count talk side flags old new new_side (Err why) stands was does handle node is =
    ap (λ (s : Side). (at_node s handle).opens) does.same
