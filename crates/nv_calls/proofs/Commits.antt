-- A commit of a plan does to the nodes what its effect says, and keeps logs sound.
use Rattle.std.proofs.Common.{◌≡◌, ℕ, ◌+◌, ◌<◌, ◌==◌, ◌&&◌, nat_le, Bool, true, false, cond, List, [], ◌∷◌, ◌++◌, length, map, Option, Some, None, arith, refl, ap, ap₂, sym, ◌∙◌, subst, append_assoc}
use Rattle.std.specs.List.{AllByRecursion}
use Rattle.std.proofs.lemmas.Bool.{eqb-true, eqb-false, eq-eqb, and_parts, leb-true}
use Rattle.std.proofs.lemmas.List.{append-nil}
use Rattle.std.proofs.lemmas.List.Elements.{filter-append}
use Rattle.nv_base.specs.declared.numbers.Handle.{Handle}
use Rattle.nv_entry.specs.declared.item.Entry.{Entry}
use Rattle.nv_entry.specs.declared.item.Item.{Item}
use Rattle.nv_entry.specs.declared.node.NodeCopy.{NodeCopy}
use Rattle.nv_entry.specs.Log.{up_to}
use Rattle.nv_entry.specs.Node.{node_now}
use Rattle.nv_entry.specs.Sound.{Gives, IsSound, MakesAll}
use Rattle.nv_entry.proofs.SoundLogs.{several_give}
use Rattle.nv_calls.specs.Plain.{Change, PlainNode, node_in, nodes_after, same_handle, stamped}
use Rattle.nv_calls.specs.declared.plan.InodePlan.{InodePlan}
use Rattle.nv_calls.specs.Plan.{AllFit, Fits}
use Rattle.nv_calls.specs.Slots.{Commits, IsPlan, IsPlanned, InodeSlot, entries_of, items_for, last_commit, node_under, place_in}

-- ---- the entries of a commit

pub entries-items : (commit epoch place : ℕ) (items : List Item) → map (λ (e : Entry). e.item) (entries_of commit epoch place items) ≡ items
entries-items commit epoch place [] = refl
entries-items commit epoch place (item ∷ items) = ap (λ (xs : List Item). item ∷ xs) (entries-items commit epoch (place + 1) items)

last_commit-push : (log : List Entry) (e : Entry) → last_commit (log ++ e ∷ []) ≡ e.id.commit
last_commit-push [] e = refl
last_commit-push (x ∷ []) e = refl
last_commit-push (x ∷ y ∷ log) e = last_commit-push (y ∷ log) e

last_commit-entries : (log : List Entry) (commit epoch place : ℕ) (items : List Item) → 0 < length items
    → last_commit (log ++ entries_of commit epoch place items) ≡ commit
last_commit-entries log commit epoch place [] some = absurd (omega arith)
last_commit-entries log commit epoch place (item ∷ []) some =
    last_commit-push log (record { id = record { commit = commit; place = place }; epoch = epoch; item = item })
last_commit-entries log commit epoch place (item ∷ other ∷ items) some =
    let e : Entry = record { id = record { commit = commit; place = place }; epoch = epoch; item = item } in
    ap last_commit (sym (append_assoc log (e ∷ []) (entries_of commit epoch (place + 1) (other ∷ items))))
    ∙ last_commit-entries (log ++ e ∷ []) commit epoch (place + 1) (other ∷ items) (omega arith)

entries_out : (at commit epoch place : ℕ) (items : List Item) → at < epoch → up_to at (entries_of commit epoch place items) ≡ []
entries_out at commit epoch place [] lt = refl
entries_out at commit epoch place (item ∷ items) lt = go (nat_le epoch at) refl (entries_out at commit epoch (place + 1) items lt) where
  go : (b : Bool) → nat_le epoch at ≡ b → up_to at (entries_of commit epoch (place + 1) items) ≡ []
      → up_to at (entries_of commit epoch place (item ∷ items)) ≡ []
  go true q ih = absurd (omega (arith, leb-true epoch at q))
  go false q ih = rw q ih

up_to-entries : (at commit epoch place : ℕ) (log : List Entry) (items : List Item) → at < epoch
    → up_to at (log ++ entries_of commit epoch place items) ≡ up_to at log
up_to-entries at commit epoch place log items lt =
    filter-append (λ (x : Entry). nat_le x.epoch at) log (entries_of commit epoch place items)
    ∙ ap (λ (xs : List Entry). up_to at log ++ xs) (entries_out at commit epoch place items lt)
    ∙ append-nil (up_to at log)

-- ---- handles

pub handle-same : (a b : Handle) → a.ino ≡ b.ino → a.generation ≡ b.generation → a ≡ b
handle-same a b i g = ap₂ (λ (x y : ℕ). let h : Handle = record { ino = x; generation = y } in h) i g

pub node-stamped : (commit : ℕ) (node : Option NodeCopy)
    → node_in (λ (h : Handle). stamped commit node) (record { ino = 0; generation = 0 }) ≡ node
node-stamped commit None = refl
node-stamped commit (Some n) = refl

module _ (bytes : ℕ → List ℕ) (block : ℕ) (slots : ℕ → InodeSlot) where
  abbrev nodes : Handle → Option PlainNode
  nodes = node_under bytes block slots

  abbrev log_of : Handle → List Entry
  log_of handle = (slots handle.ino).log

  -- a handle that is its slot's has the node of its log
  pub own_node : (handle : Handle) → handle.generation ≡ (slots handle.ino).generation
      → node_in nodes handle ≡ node_now bytes block (log_of handle)
  own_node handle own =
      rw (eq-eqb handle.generation (slots handle.ino).generation own)
      (node-stamped (last_commit (log_of handle)) (node_now bytes block (log_of handle)))

  module _ (commit epoch : ℕ) (place : ℕ → ℕ) (some : 0 < block) (sound : (ino : ℕ) → IsSound bytes block (slots ino).log) where
    abbrev log_with : Handle → List Item → List Entry
    log_with handle items = log_of handle ++ entries_of commit epoch (place handle.ino) items

    -- the log of a planned inode
    planned_gives : (p : InodePlan) (c : Change) → IsPlanned slots p → Fits bytes block (node_in nodes) p c
        → Gives bytes block (log_with p.handle p.items) (c.becomes (node_in nodes p.handle))
    planned_gives p c is fits =
        several_give bytes block (log_of p.handle) (entries_of commit epoch (place p.handle.ino) p.items)
        (c.becomes (node_in nodes p.handle)) some
        (sound p.handle.ino)
        (subst (λ (items : List Item). MakesAll bytes block items (node_now bytes block (log_of p.handle))
        (c.becomes (node_in nodes p.handle)))
        (sym (entries-items commit epoch (place p.handle.ino) p.items))
        (subst (λ (node : Option NodeCopy). MakesAll bytes block p.items node (c.becomes (node_in nodes p.handle)))
        (own_node p.handle is.own) fits.makes))

    -- ---- each log

    pub log_sound : (plan : List InodePlan) (effect : List Change) → AllByRecursion (IsPlanned slots) plan
        → AllFit bytes block (node_in nodes) plan effect
        → (ino : ℕ) → IsSound bytes block ((slots ino).log ++ entries_of commit epoch (place ino) (items_for plan ino))
    log_sound [] [] all fit ino = subst (IsSound bytes block) (sym (append-nil (slots ino).log)) (sound ino)
    log_sound [] (c ∷ effect) all fit ino = absurd fit
    log_sound (p ∷ plan) [] all fit ino = absurd fit
    log_sound (p ∷ plan) (c ∷ effect) all fit ino = go (p.handle.ino == ino) refl (log_sound plan effect all.1 fit.1 ino) where
      Sound : List Item → Type 0
      Sound items = IsSound bytes block ((slots ino).log ++ entries_of commit epoch (place ino) items)

      go : (b : Bool) → (p.handle.ino == ino) ≡ b → Sound (items_for plan ino) → Sound (cond b p.items (items_for plan ino))
      go false q ih = ih
      go true q ih =
          subst (λ (i : ℕ). IsSound bytes block ((slots i).log ++ entries_of commit epoch (place i) p.items)) (eqb-true p.handle.ino ino q)
          (planned_gives p c all.0 fit.0).sound

    -- ---- each handle

    -- a handle that is not its slot's has no node, and nothing is planned for it
    stale_stays : (plan : List InodePlan) (effect : List Change) (handle : Handle) → AllByRecursion (IsPlanned slots) plan
        → AllFit bytes block (node_in nodes) plan effect → (handle.generation == (slots handle.ino).generation) ≡ false
        → nodes handle ≡ None → nodes_after commit effect nodes handle ≡ None
    stale_stays [] [] handle all fit q none = none
    stale_stays [] (c ∷ effect) handle all fit q none = absurd fit
    stale_stays (p ∷ plan) [] handle all fit q none = absurd fit
    stale_stays (p ∷ plan) (c ∷ effect) handle all fit q none =
        go (same_handle c.handle handle) refl (stale_stays plan effect handle all.1 fit.1 q none) where
          go : (b : Bool) → same_handle c.handle handle ≡ b → nodes_after commit effect nodes handle ≡ None
              → cond b (stamped commit (c.becomes (node_in nodes handle))) (nodes_after commit effect nodes handle) ≡ None
          go false r ih = ih
          go true r ih =
              let same = and_parts (c.handle.ino == handle.ino) (c.handle.generation == handle.generation) r in
              let i : c.handle.ino ≡ handle.ino = eqb-true c.handle.ino handle.ino same.0 in
              let g : c.handle.generation ≡ handle.generation = eqb-true c.handle.generation handle.generation same.1 in
              let its : c.handle.generation ≡ (slots c.handle.ino).generation =
              subst (λ (h : Handle). h.generation ≡ (slots h.ino).generation) fit.0.same all.0.own in
              absurd (eqb-false handle.generation (slots handle.ino).generation q (sym g ∙ its ∙ ap (λ (x : ℕ). (slots x).generation) i))

    -- the node that a handle's slot gives after items
    abbrev node_with : Handle → List Item → Option PlainNode
    node_with handle items = stamped (last_commit (log_with handle items)) (node_now bytes block (log_with handle items))

    own_after : (plan : List InodePlan) (effect : List Change) (handle : Handle) → AllByRecursion (IsPlanned slots) plan
        → AllFit bytes block (node_in nodes) plan effect → handle.generation ≡ (slots handle.ino).generation
        → node_with handle (items_for plan handle.ino) ≡ nodes_after commit effect nodes handle
    own_after [] [] handle all fit own =
        ap (λ (log : List Entry). stamped (last_commit log) (node_now bytes block log)) (append-nil (log_of handle))
        ∙ sym (rw (eq-eqb handle.generation (slots handle.ino).generation own) refl)
    own_after [] (c ∷ effect) handle all fit own = absurd fit
    own_after (p ∷ plan) [] handle all fit own = absurd fit
    own_after (p ∷ plan) (c ∷ effect) handle all fit own =
        subst Whole fit.0.same (go (p.handle.ino == handle.ino) refl (own_after plan effect handle all.1 fit.1 own)) where
          Whole : Handle → Type 0
          Whole other = node_with handle (cond (p.handle.ino == handle.ino) p.items (items_for plan handle.ino))
              ≡ cond (same_handle other handle) (stamped commit (c.becomes (node_in nodes handle))) (nodes_after commit effect nodes handle)

          here : p.handle ≡ handle → node_with handle p.items ≡ stamped commit (c.becomes (node_in nodes handle))
          here same = subst (λ (h : Handle). node_with h p.items ≡ stamped commit (c.becomes (node_in nodes h))) same
              (ap₂ stamped (last_commit-entries (log_of p.handle) commit epoch (place p.handle.ino) p.items all.0.some)
              (planned_gives p c all.0 fit.0).is)

          go : (b : Bool) → (p.handle.ino == handle.ino) ≡ b
              → node_with handle (items_for plan handle.ino) ≡ nodes_after commit effect nodes handle
              → node_with handle (cond b p.items (items_for plan handle.ino))
              ≡ cond (b && p.handle.generation == handle.generation) (stamped commit (c.becomes (node_in nodes handle)))
              (nodes_after commit effect nodes handle)
          go false r ih = ih
          go true r ih =
              let i : p.handle.ino ≡ handle.ino = eqb-true p.handle.ino handle.ino r in
              let g : p.handle.generation ≡ handle.generation = all.0.own ∙ ap (λ (x : ℕ). (slots x).generation) i ∙ sym own in
              rw (eq-eqb p.handle.generation handle.generation g) (here (handle-same p.handle handle i g))

    -- the slots after the commit
    abbrev slots_with : List InodePlan → ℕ → InodeSlot
    slots_with plan ino = record {
      generation = (slots ino).generation;
      log = (slots ino).log ++ entries_of commit epoch (place ino) (items_for plan ino);
    }

    pub node_after : (plan : List InodePlan) (effect : List Change) → IsPlan bytes block slots plan effect → (handle : Handle)
        → node_under bytes block (slots_with plan) handle ≡ nodes_after commit effect nodes handle
    node_after plan effect is handle = go (handle.generation == (slots handle.ino).generation) refl where
      go : (b : Bool) → (handle.generation == (slots handle.ino).generation) ≡ b
          → cond b (node_with handle (items_for plan handle.ino)) None ≡ nodes_after commit effect nodes handle
      go true q = own_after plan effect handle is.all is.fit (eqb-true handle.generation (slots handle.ino).generation q)
      go false q = sym (stale_stays plan effect handle is.all is.fit q (rw q refl))

  pub commits : (commit epoch : ℕ) → 0 < block → ((ino : ℕ) → IsSound bytes block (slots ino).log) → (plan : List InodePlan)
      (effect : List Change) → IsPlan bytes block slots plan effect → Commits bytes block commit epoch slots plan effect
  commits commit epoch some sound plan effect is = record {
    nodes = node_after commit epoch (place_in plan) some sound plan effect is;
    sound = log_sound commit epoch (place_in plan) some sound plan effect is.all is.fit;
    earlier = λ at ino lt. up_to-entries at commit epoch (place_in plan ino) (slots ino).log (items_for plan ino) lt;
  }
