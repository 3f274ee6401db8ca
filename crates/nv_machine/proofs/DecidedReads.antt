-- What a check and a look read is settled, so that they decide as the plain world does.
use Rattle.std.proofs.Common.{Bool, List, None, Option, Some, [], ap, ap₂, cond, false, length, refl, subst, sym, take, true, ℕ, ◌++◌, ◌∙◌, ◌∷◌, ◌≡◌}
use Rattle.std.specs.Prelude.{Err, Ok, option_map}
use Rattle.std.specs.List.{AllByRecursion}
use Rattle.nv_alloc.specs.Numbers.{has}
use Rattle.nv_base.specs.declared.numbers.Handle.{Handle}
use Rattle.nv_entry.specs.declared.node.NodeCopy.{NodeCopy}
use Rattle.nv_calls.specs.AllCalls.{early, effect, look_refusal, looked, refusal}
use Rattle.nv_calls.specs.Locked.{Agree, SameCall, handles}
use Rattle.nv_calls.specs.Plain.{Change, PlainNode, node_in, same_handle}
use Rattle.nv_calls.specs.Refusals.{Check as Tests, and_then, found, kind_of, passes, want_directory, want_lawful}
use Rattle.nv_calls.specs.calls.Lookup.{lookup_refusal}
use Rattle.nv_calls.specs.calls.Rename.{rename_early}
use Rattle.nv_calls.specs.declared.call.Call.{Call}
use Rattle.nv_calls.specs.declared.looked.LookupResult.{LookupResult}
use Rattle.nv_calls.specs.declared.allocation.Allocation.{Allocation}
use Rattle.nv_calls.proofs.Same.{call_same}
use Rattle.nv_cell.specs.Cell.{log_of}
use Rattle.nv_cell.proofs.Publishing.{take_whole}
use Rattle.nv_machine.specs.Grown.{AreGrown, HasGrown, HasGrownBy}
use Rattle.nv_machine.specs.Kinds.{check_ending}
use Rattle.nv_machine.specs.Locks.{AreLocks, HoldsIts, commits_at, held_at}
use Rattle.nv_machine.specs.Reads.{copies, if_number, nodes, slots_of, written_slots}
use Rattle.nv_machine.specs.Sequence.{beginning, directories, nothing_looked}
use Rattle.nv_machine.specs.Settled.{settled, settled_nodes}
use Rattle.nv_machine.specs.Step.{ending_at, handle_at, is_numbered, made_in, same_looked}
use Rattle.nv_machine.specs.World.{Ending, HandState, Running, Shared, World, actor_at, cell_at}
use Rattle.nv_calls.proofs.CheckEnds.{looked_is}
use Rattle.nv_machine.proofs.FitsOwn.{cover_each, has_back, inos, same_then}
use Rattle.nv_machine.proofs.FitsStages.{IsLocked}
use Rattle.nv_machine.proofs.UnsettledLogs.{is_settled, not_appended, not_behind}
use Rattle.nv_machine.proofs.LocksHeld.{slot_owned}
use Rattle.nv_machine.proofs.PoolSlots.{in_range}
use Rattle.nv_calls.specs.declared.call.Call.TheVariants as call

-- ---- the slots that a call holds outside of a commit

pub logs_held : (w : World) (actor : ℕ) (r : Running) → AreLocks w → AreGrown w → (actor_at w actor).running ≡ Some r
    → commits_at r.next ≡ false → (ino : ℕ) → has (held_at r.next r.slots) ino ≡ true
    → settled w.shared ino ≡ log_of (cell_at w.shared ino)
logs_held w actor r locks grown is out ino held =
    let s = w.shared in
    let mine : HoldsIts s actor (Some r) = subst (λ (o : Option Running). HoldsIts s actor o) is (locks.each actor) in
    let own : HasGrown r.next s actor r = subst (λ (o : Option Running). HasGrownBy o s actor) is (grown.each actor) in
    let i = is_settled r.next s actor r own ino (not_appended r.next (written_slots r) ino out)
    (not_behind r.next (written_slots r) ino out) (slot_owned actor s r ino mine held) in
    sym i.entries ∙ sym (take_whole (cell_at s ino).chain.entries) ∙ sym (ap (λ (n : ℕ). take n (cell_at s ino).chain.entries) i.tail)

-- ---- the tests before names are compared, and what the names are bound to

-- a call looks up the same in both, and passes or fails the same tests before
pub record LooksAlike (plain others : Handle → Option PlainNode) (c : Call) : Type 0 where
  pub found : looked (node_in others) c ≡ looked (node_in plain) c
  pub early : early (node_in others) c ≡ early (node_in plain) c
  pub look : look_refusal (node_in others) c ≡ look_refusal (node_in plain) c

module _ (plain others : Handle → Option PlainNode) where
  abbrev n : Handle → Option NodeCopy
  n = node_in plain

  abbrev o : Handle → Option NodeCopy
  o = node_in others

  same_node : (handle : Handle) → others handle ≡ plain handle → o handle ≡ n handle
  same_node handle e = ap (λ (p : Option PlainNode). option_map (λ (x : PlainNode). x.node) p) e

  found_same : (dir : Handle) (name : List ℕ) → others dir ≡ plain dir → found o dir name ≡ found n dir name
  found_same dir name e =
      ap (λ (node : Option NodeCopy). let f : Handle → Option NodeCopy = λ handle. node in found f dir name) (same_node dir e)

  look_same : (dir : Handle) (name : List ℕ) → others dir ≡ plain dir → lookup_refusal o dir name ≡ lookup_refusal n dir name
  look_same dir name e =
      ap (λ (node : Option NodeCopy). let f : Handle → Option NodeCopy = λ handle. node in lookup_refusal f dir name) (same_node dir e)

  early_same : (from : Handle) (old : List ℕ) (to : Handle) (new : List ℕ) → others from ≡ plain from → others to ≡ plain to
      → rename_early o from old to new ≡ rename_early n from old to new
  early_same from old to new f t =
      ap₂ (λ (check : Tests) (node : Option NodeCopy). and_then check (want_directory (kind_of node) (want_lawful new passes)))
      (look_same from old f) (same_node to t)

  abbrev one_name : Option Handle → LookupResult
  one_name first = record { first = first; second = None }

  abbrev two_names : Option Handle → Option Handle → LookupResult
  two_names first second = record { first = first; second = second }

  pub looks_alike : (c : Call) → Agree plain others (handles nothing_looked c) → LooksAlike plain others c
  looks_alike (call.Unlink dir name) h =
      record { found = ap one_name (found_same dir name h.0); early = look_same dir name h.0; look = look_same dir name h.0 }
  looks_alike (call.Rmdir dir name) h =
      record { found = ap one_name (found_same dir name h.0); early = look_same dir name h.0; look = look_same dir name h.0 }
  looks_alike (call.Rename from old to new) h = record {
    found = ap₂ two_names (found_same from old h.0) (found_same to new h.1.0);
    early = early_same from old to new h.0 h.1.0;
    look = look_same from old h.0;
  }
  looks_alike other h = record { found = refl; early = refl; look = refl }

  -- a first look reads one directory
  pub first_look : (c : Call) → others (handle_at (directories c) 0) ≡ plain (handle_at (directories c) 0)
      → look_refusal o c ≡ look_refusal n c
  first_look (call.Unlink dir name) e = look_same dir name e
  first_look (call.Rmdir dir name) e = look_same dir name e
  first_look (call.Rename from old to new) e = look_same from old (go (same_handle from to) e) where
    go : (same : Bool) → others (handle_at (cond same (from ∷ []) (from ∷ to ∷ [])) 0)
        ≡ plain (handle_at (cond same (from ∷ []) (from ∷ to ∷ [])) 0) → others from ≡ plain from
    go true e = e
    go false e = e
  first_look other e = refl

  -- the handles that a call names are among all that it reads
  named_agree : (seen : LookupResult) (c : Call) → Agree plain others (handles seen c) → Agree plain others (handles nothing_looked c)
  named_agree seen (call.Unlink dir name) h = (h.0, tt)
  named_agree seen (call.Rmdir dir name) h = (h.0, tt)
  named_agree seen (call.Rename from old to new) h = (h.0, (h.1.0, tt))
  named_agree seen other h = h

-- ---- the check

-- where a name is bound anew, the other tests are not asked
anew : (first tests others : Tests) (numbered : Bool) (changes more : List Change)
    → check_ending first false tests numbered changes ≡ check_ending first false others numbered more
anew (Err fault) tests others numbered changes more = refl
anew (Ok passed) tests others numbered changes more = refl

agree_all : (plain others : Handle → Option PlainNode) (P : Handle → Type 0) (list : List Handle)
    → ((handle : Handle) → P handle → others handle ≡ plain handle) → AllByRecursion P list → Agree plain others list
agree_all plain others P [] f all = tt
agree_all plain others P (handle ∷ list) f all = (f handle all.0, agree_all plain others P list f all.1)

module _ (block : ℕ) (s : Shared) (h : HandState) (r : Running) where
  -- how the plain world ends a call at its check, by the settled nodes
  abbrev pub settled_ending : Option Ending
  settled_ending =
      check_ending (early (node_in (settled_nodes s)) r.call) (same_looked (looked (node_in (settled_nodes s)) r.call) r.looked)
      (refusal block (node_in (settled_nodes s)) r.call) (is_numbered (beginning r.call) h.ino)
      (effect (node_in (settled_nodes s)) (made_in s h.ino r.made) r.call)

  module _ (logs : (ino : ℕ) → has r.slots ino ≡ true → settled s ino ≡ log_of (cell_at s ino))
      (slots : r.slots ≡ slots_of s h.ino r.looked r.call) where
    pub check_agrees : Agree (settled_nodes s) (nodes s) (handles r.looked r.call)
    check_agrees =
        agree_all (settled_nodes s) (nodes s) (IsLocked (length s.cells) r.slots) (handles r.looked r.call) (same_then s r.slots logs).nodes
        (cover_each (length s.cells) r.slots (handles r.looked r.call) (λ n there lt. subst (λ (l : List ℕ). has l n ≡ true) (sym slots)
        (in_range (length s.cells) (if_number h.ino ++ inos (handles r.looked r.call)) n
        (has_back (if_number h.ino) (inos (handles r.looked r.call)) n there) lt)))

    abbrev made : Handle
    made = made_in s h.ino r.made

    abbrev plain : Handle → Option NodeCopy
    plain = node_in (settled_nodes s)

    alike : LooksAlike (settled_nodes s) (nodes s) r.call
    alike = looks_alike (settled_nodes s) (nodes s) r.call (named_agree (settled_nodes s) (nodes s) r.looked r.call check_agrees)

    same_then_all : same_looked (looked plain r.call) r.looked ≡ true → (taken : Allocation)
        → SameCall block (settled_nodes s) (nodes s) taken r.call
    same_then_all e taken = call_same block (settled_nodes s) (nodes s) taken r.call
        (subst (λ (l : LookupResult). Agree (settled_nodes s) (nodes s) (handles l r.call)) (sym (looked_is (looked plain r.call) r.looked e))
        check_agrees)

    either : (same : Bool) → same_looked (looked plain r.call) r.looked ≡ same
        → check_ending (early plain r.call) same (refusal block (copies s) r.call) (is_numbered (beginning r.call) h.ino)
        (effect (copies s) made r.call)
        ≡ check_ending (early plain r.call) same (refusal block plain r.call) (is_numbered (beginning r.call) h.ino)
        (effect plain made r.call)
    either false e = anew (early plain r.call) _ _ _ _ _
    either true e =
        let c = same_then_all e (record { made = made; runs = [] }) in
        ap₂ (λ (tests : Tests) (changes : List Change). check_ending (early plain r.call) true tests
        (is_numbered (beginning r.call) h.ino) changes) c.refusal c.effect

    -- a check ends its call as the plain world would
    pub ending_settled : ending_at block s h r ≡ settled_ending
    ending_settled =
        ap₂ (λ (first : Tests) (l : LookupResult). check_ending first (same_looked l r.looked) (refusal block (copies s) r.call)
        (is_numbered (beginning r.call) h.ino) (effect (copies s) made r.call)) alike.early alike.found
        ∙ either (same_looked (looked plain r.call) r.looked) refl
