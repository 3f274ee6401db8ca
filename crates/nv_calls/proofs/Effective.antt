-- A commit over cells has the effect that its plan fits.
use Rattle.std.proofs.Common.{◌≡◌, ℕ, zero, suc, ◌+◌, ◌<◌, ◌==◌, ◌⊎◌, inl, inr, Bool, true, false, cond, Option, None, List, [], ◌∷◌, ◌++◌, length, arith, refl, ap, ap₂, sym, ◌∙◌}
use Rattle.std.proofs.lemmas.Bool.{eqb-false, eqb-true}
use Rattle.std.specs.Prelude.{◌&&◌, unwrap_or}
use Rattle.std.specs.Option.{option_map}
use Rattle.nv_base.specs.declared.numbers.Handle.{Handle}
use Rattle.nv_entry.specs.declared.item.Entry.{Entry}
use Rattle.nv_entry.specs.declared.item.Item.{Item}
use Rattle.nv_entry.specs.declared.item.Item.TheVariants.{Init, Write, SetSize, SetMode, Bind, Unbind, Gone}
use Rattle.nv_entry.specs.declared.key.Setting.{Setting}
use Rattle.nv_entry.specs.declared.key.Setting.TheVariants.{Absent}
use Rattle.nv_entry.specs.declared.node.NodeCopy.{NodeCopy}
use Rattle.nv_entry.specs.Keys.{KindKey, sets}
use Rattle.nv_entry.specs.Log.{last_setting, later_of, value_of}
use Rattle.nv_entry.specs.Node.{node_now, node_of_kind}
use Rattle.nv_entry.specs.Sound.{IsSound}
use Rattle.nv_log.specs.Chain.{ChainState, log}
use Rattle.nv_book.specs.Book.{BookValue}
use Rattle.nv_cell.specs.Cell.{CellState, CellValue, empty_cell, log_of}
use Rattle.nv_cell.specs.Readers.{is_erased, is_gone, is_last_word, keeps_nothing}
use Rattle.nv_calls.specs.Cells.{ino_at, state_at}
use Rattle.nv_calls.specs.Commit.{CommitValue, begun, stamp_of}
use Rattle.nv_calls.specs.Committed.{IsUnplanned, committed, killing, cell_place_of}
use Rattle.nv_calls.specs.Plain.{Change, PlainNode, nodes_after, stamped}
use Rattle.nv_calls.specs.declared.plan.InodePlan.{InodePlan}
use Rattle.nv_calls.specs.PublishedSlots.{IsCommitted, IsOfNone, PublishAlike, PublishesPlans, planned_in, slots_after}
use Rattle.nv_calls.specs.Ready.{CellCommitValue, ReadyValue}
use Rattle.nv_calls.specs.Retiring.{retired}
use Rattle.nv_calls.specs.Slots.{IsPlan, InodeSlot, entries_of, last_commit, node_under}
use Rattle.nv_calls.specs.Views.{slot_of}
use Rattle.nv_calls.proofs.Commits.{commits}
use Rattle.nv_calls.proofs.Grown.{last_step}
use Rattle.nv_calls.proofs.Published.{publishes}
use Rattle.nv_calls.proofs.Retires.{chain_stays}

-- ---- a log whose inode is gone gives no node

word_sets : (block : ℕ) (item : Item) → is_last_word item ≡ true → sets block item KindKey ≡ Absent
word_sets block (Init kind mode) h = cc
word_sets block (Write first run size) h = cc
word_sets block (SetSize size) h = cc
word_sets block (SetMode mode) h = cc
word_sets block (Bind name to) h = cc
word_sets block (Unbind name) h = cc
word_sets block Gone h = refl

gone_sets : (block : ℕ) (log : List Entry) → is_gone log ≡ true → last_setting block log KindKey ≡ Absent
gone_sets block [] h = cc
gone_sets block (e ∷ []) h = ap (λ (s : Setting). later_of s (last_setting block [] KindKey)) (word_sets block e.item h)
gone_sets block (e ∷ f ∷ log) h =
    let rest : is_gone (f ∷ log) ≡ true =
    sym (ap (λ (o : Option Entry). unwrap_or (option_map (λ (x : Entry). is_last_word x.item) o) false) (last_step e f log)) ∙ h in
    ap (later_of (sets block e.item KindKey)) (gone_sets block (f ∷ log) rest)

pub gone_node : (bytes : ℕ → List ℕ) (block : ℕ) (log : List Entry) → is_gone log ≡ true → node_now bytes block log ≡ None
gone_node bytes block log h = ap (λ (s : Setting). node_of_kind (value_of s) bytes block log) (gone_sets block log h)

-- ---- the node under a handle, by its slot

abbrev node_by : (ℕ → List ℕ) → ℕ → InodeSlot → Handle → Option PlainNode
node_by bytes block slot handle =
    cond (handle.generation == slot.generation) (stamped (last_commit slot.log) (node_now bytes block slot.log)) None

none_by : (bytes : ℕ → List ℕ) (block : ℕ) (slot : InodeSlot) (handle : Handle) → node_now bytes block slot.log ≡ None
    → node_by bytes block slot handle ≡ None
none_by bytes block slot handle none =
    ap (λ (n : Option NodeCopy). cond (handle.generation == slot.generation) (stamped (last_commit slot.log) n) None) none
    ∙ go (handle.generation == slot.generation) where
      go : (b : Bool) → cond b (stamped (last_commit slot.log) None) None ≡ (let n : Option PlainNode = None in n)
      go true = refl
      go false = refl

-- ---- which cell has a number, and which plan a cell

pub has_number : (cells : List (ℕ × CellValue)) (number : ℕ)
    → ((k : ℕ) × (k < length cells) × (ino_at cells k ≡ number)) ⊎ IsOfNone cells number
has_number [] number = inr (λ k lt same. absurd (omega (arith, lt)))
has_number (c ∷ cells) number = go (c.0 == number) refl (has_number cells number) where
  behind : IsOfNone cells number → (c.0 ≡ number → ⊥) → (k : ℕ) → k < length (c ∷ cells) → ino_at (c ∷ cells) k ≡ number → ⊥
  behind none first zero lt same = first same
  behind none first (suc k) lt same = none k (omega (arith, lt)) same

  go : (b : Bool) → (c.0 == number) ≡ b → ((k : ℕ) × (k < length cells) × (ino_at cells k ≡ number)) ⊎ IsOfNone cells number
      → ((k : ℕ) × (k < length (c ∷ cells)) × (ino_at (c ∷ cells) k ≡ number)) ⊎ IsOfNone (c ∷ cells) number
  go true q rest = let first : 0 < length (c ∷ cells) = omega arith in inl (0, first, eqb-true c.0 number q)
  go false q (inl found) =
      let more : suc found.0 < length (c ∷ cells) = omega (arith, found.1) in
      inl (suc found.0, more, found.2)
  go false q (inr none) = inr (behind none (eqb-false c.0 number q))

pub has_plan : (plans : List CellCommitValue) (k : ℕ)
    → ((j : ℕ) × (j < length plans) × (cell_place_of plans j ≡ k)) ⊎ IsUnplanned plans k
has_plan [] k = inr (λ j lt same. absurd (omega (arith, lt)))
has_plan (p ∷ plans) k = go (p.at == k) refl (has_plan plans k) where
  behind : IsUnplanned plans k → (p.at ≡ k → ⊥) → (j : ℕ) → j < length (p ∷ plans) → cell_place_of (p ∷ plans) j ≡ k → ⊥
  behind none first zero lt same = first same
  behind none first (suc j) lt same = none j (omega (arith, lt)) same

  go : (b : Bool) → (p.at == k) ≡ b → ((j : ℕ) × (j < length plans) × (cell_place_of plans j ≡ k)) ⊎ IsUnplanned plans k
      → ((j : ℕ) × (j < length (p ∷ plans)) × (cell_place_of (p ∷ plans) j ≡ k)) ⊎ IsUnplanned (p ∷ plans) k
  go true q rest = let first : 0 < length (p ∷ plans) = omega arith in inl (0, first, eqb-true p.at k q)
  go false q (inl found) =
      let more : suc found.0 < length (p ∷ plans) = omega (arith, found.1) in
      inl (suc found.0, more, found.2)
  go false q (inr none) = inr (behind none (eqb-false p.at k q))

-- ---- the slots after a commit have the nodes of those that its plan makes

pub gone_erased : (a b : Bool) → (a && b) ≡ true → a ≡ true
gone_erased true b h = refl
gone_erased false b h = cc

pub pick : (b : Bool) (one other : CellState) → b ≡ true → cond b one other ≡ one
pick true one other q = refl
pick false one other q = cc

module _ (bytes : ℕ → List ℕ) (block : ℕ) (living : List ℕ) (cells : List (ℕ × CellValue)) (book : BookValue) (cpu : ℕ) (ready : ReadyValue)
    (slots : ℕ → InodeSlot) (now : List (ℕ × CellValue)) (later : ℕ → InodeSlot) (is : IsCommitted living cells book cpu ready slots now later) where
  abbrev start : CommitValue
  start = begun (stamp_of book.state) ready

  published_slots : PublishesPlans cells start slots
  published_slots = publishes cells book cpu ready slots is.can is.before

  abbrev node_of_slot : InodeSlot → Handle → Option PlainNode
  node_of_slot slot handle = node_by bytes block slot handle

  abbrev after : ℕ → CellState
  after j = retired living (killing cells start j).ino start.stamp.epoch (killing cells start j).parts (killing cells start j).cell

  abbrev emptied : CellState → CellState
  emptied cell = empty_cell cell.block cell.chain.page (cell.generation + 1) cell.version

  -- a planned cell
  planned_node : (j : ℕ) → j < length ready.plans → (handle : Handle)
      → node_of_slot (slot_of (committed living cells start j)) handle
      ≡ node_of_slot (slots_after cells start slots (ino_at cells (cell_place_of ready.plans j))) handle
  planned_node j lt handle = go (is_erased (after j)) refl where
    go : (b : Bool) → is_erased (after j) ≡ b → node_of_slot (slot_of (committed living cells start j)) handle
        ≡ node_of_slot (slots_after cells start slots (ino_at cells (cell_place_of ready.plans j))) handle
    go false q = ap (λ (s : InodeSlot). node_of_slot s handle) (published_slots.kept living j lt q)
    go true q =
        let gone : is_gone (log_of (after j)) ≡ true = gone_erased (is_gone (log_of (after j))) (keeps_nothing (after j)) q in
        let cell : is_gone (log_of (killing cells start j).cell) ≡ true =
        sym (ap (λ (ch : ChainState). is_gone (log ch)) (chain_stays living (killing cells start j).ino start.stamp.epoch
        (killing cells start j).parts
        (killing cells start j).cell)) ∙ gone in
        let made = published_slots.planned j lt in
        let none : node_of_slot (slot_of (killing cells start j).cell) handle ≡ None =
        none_by bytes block (slot_of (killing cells start j).cell) handle
        (gone_node bytes block (log_of (killing cells start j).cell) cell) in
        ap (λ (c : CellState). node_of_slot (slot_of c) handle) (pick (is_erased (after j)) (emptied (after j)) (after j) q)
        ∙ none_by bytes block (slot_of (emptied (after j))) handle refl
        ∙ sym none ∙ ap (λ (s : InodeSlot). node_of_slot s handle) made

  -- any slot
  same_node : (handle : Handle) → node_of_slot (later handle.ino) handle ≡ node_of_slot (slots_after cells start slots handle.ino) handle
  same_node handle = go (has_number cells handle.ino) where
    lent : (k : ℕ) → k < length cells → ino_at cells k ≡ handle.ino
        → (((j : ℕ) × (j < length ready.plans) × (cell_place_of ready.plans j ≡ k)) ⊎ IsUnplanned ready.plans k)
        → later handle.ino ≡ slot_of (state_at now k)
        → node_of_slot (later handle.ino) handle ≡ node_of_slot (slots_after cells start slots handle.ino) handle
    lent k lt own (inl found) is_now =
        let j : ℕ = found.0 in
        let state : state_at now k ≡ committed living cells start j = ap (state_at now) (sym found.2) ∙ is.changes.planned j found.1 in
        ap (λ (s : InodeSlot). node_of_slot s handle) is_now ∙ ap (λ (c : CellState). node_of_slot (slot_of c) handle) state
        ∙ planned_node j found.1 handle
        ∙ ap (λ (i : ℕ). node_of_slot (slots_after cells start slots i) handle) (ap (ino_at cells) found.2 ∙ own)
    lent k lt own (inr none) is_now =
        let state : state_at now k ≡ state_at cells k = ap (λ (v : CellValue). v.state) (is.changes.others k none) in
        ap (λ (s : InodeSlot). node_of_slot s handle) is_now ∙ ap (λ (c : CellState). node_of_slot (slot_of c) handle) state
        ∙ ap (λ (s : InodeSlot). node_of_slot s handle) (published_slots.others k lt none)
        ∙ ap (λ (i : ℕ). node_of_slot (slots_after cells start slots i) handle) own

    go : (((k : ℕ) × (k < length cells) × (ino_at cells k ≡ handle.ino)) ⊎ IsOfNone cells handle.ino)
        → node_of_slot (later handle.ino) handle ≡ node_of_slot (slots_after cells start slots handle.ino) handle
    go (inl found) =
        let k : ℕ = found.0 in
        let number : handle.ino ≡ ino_at now k = sym (is.changes.numbers k ∙ found.2) in
        let within : k < length now = omega (arith, found.1, is.changes.count) in
        lent k found.1 found.2 (has_plan ready.plans k) (ap later number ∙ is.after k within)
    go (inr none) =
        ap (λ (s : InodeSlot). node_of_slot s handle) (is.others handle.ino none)
        ∙ sym (ap (λ (s : InodeSlot). node_of_slot s handle) (published_slots.beyond handle.ino none))

  pub has_effect : (plan : List InodePlan) (effect : List Change) → 0 < block → ((ino : ℕ) → IsSound bytes block (slots ino).log)
      → PublishAlike (planned_in cells ready.plans) plan → IsPlan bytes block slots plan effect
      → (handle : Handle) → node_under bytes block later handle ≡ nodes_after book.state.commit effect (node_under bytes block slots) handle
  has_effect plan effect some sound alike fits handle =
      same_node handle
      ∙ ap₂ (λ (place : ℕ) (items : List Item). let slot : InodeSlot = record {
        generation = (slots handle.ino).generation;
        log = (slots handle.ino).log ++ entries_of book.state.commit book.state.snaps.epoch place items;
      } in node_of_slot slot handle)
      (alike.places handle.ino) (alike.items handle.ino)
      ∙ (commits bytes block slots book.state.commit book.state.snaps.epoch some sound plan effect fits).nodes handle
