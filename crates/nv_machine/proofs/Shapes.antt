-- The shape of a log by the kind that its items give, and of one that grows by the items of a plan.
use Rattle.std.proofs.Common.{◌≡◌, ◌+◌, ◌≢◌, ◌⊎◌, ℕ, ◌==◌, ◌++◌, ◌∙◌, Bool, true, false, cond, List, [], ◌∷◌, length, Option, Some, None, ap, append-nil, if◌then◌else◌, inl, inr, refl, subst, sym}
use Rattle.std.specs.Prelude.{◌/◌}
use Rattle.std.specs.List.{AllByRecursion}
use Rattle.std.specs.Option.{option_map}
use Rattle.std.proofs.lemmas.Bool.{eq-eqb, eqb-true}
use Rattle.std.proofs.lemmas.List.{map-append}
use Rattle.std.proofs.lemmas.Option.{none-some}
use Rattle.nv_base.specs.declared.node.Kind.{Kind}
use Rattle.nv_base.specs.declared.numbers.Handle.{Handle}
use Rattle.nv_calls.specs.AllCalls.{looked, plan}
use Rattle.nv_entry.specs.Shape.{AreLawful, IsGoneLast, IsShaped, items_of, kind_after}
use Rattle.nv_calls.specs.Lawful.{IsLawfulFor}
use Rattle.nv_calls.specs.Plain.{PlainNode, node_in, same_handle, stamped}
use Rattle.nv_calls.specs.Refusals.{bytes_of, found, kind_of}
use Rattle.nv_calls.specs.Slots.{IsFree, IsPlanned, InodeSlot, items_for, last_commit, node_under}
use Rattle.nv_calls.specs.calls.Rename.{bound_plan, move_plan, own_place, rename_plan, replaced_plan}
use Rattle.nv_calls.specs.calls.Unlink.{leave_plan}
use Rattle.nv_calls.specs.declared.call.Call.{Call}
use Rattle.nv_calls.specs.declared.call.Call.TheVariants as call
use Rattle.nv_calls.specs.declared.looked.LookupResult.{LookupResult}
use Rattle.nv_calls.specs.declared.plan.InodePlan.{InodePlan}
use Rattle.nv_calls.specs.declared.allocation.Allocation.{Allocation}
use Rattle.nv_entry.specs.Bytes.{written}
use Rattle.nv_entry.specs.Keys.{KindKey, sets}
use Rattle.nv_entry.specs.Log.{last_setting, later_of, value_of}
use Rattle.nv_entry.specs.Node.{node_now, node_of_kind}
use Rattle.nv_entry.specs.Sound.{write_items}
use Rattle.nv_entry.specs.declared.item.Entry.{Entry}
use Rattle.nv_entry.specs.declared.item.Item.{Item}
use Rattle.nv_entry.specs.declared.item.Item.TheVariants.{Gone, Init, SetSize, Write}
use Rattle.nv_entry.specs.declared.item.BlockRun.{BlockRun}
use Rattle.nv_entry.specs.declared.key.Datum.TheVariants as datum
use Rattle.nv_entry.specs.declared.key.Setting.{Setting}
use Rattle.nv_entry.specs.declared.key.Setting.TheVariants.{Untouched, Absent, Present}
use Rattle.nv_entry.specs.declared.node.NodeCopy.{NodeCopy}
use Rattle.nv_machine.proofs.FitsCalls.{IsOfNode}

-- ---- the kind that items give

abbrev pub kinds_after : List Item → Option Kind → Option Kind
kinds_after [] before = before
kinds_after (item ∷ items) before = kinds_after items (kind_after item before)

abbrev kind_by : Setting → Option Kind → Option Kind
kind_by Untouched before = before
kind_by Absent before = None
kind_by (Present (datum.Kind kind)) before = Some kind
kind_by (Present other) before = None

one_kind : (block : ℕ) (item : Item) (before : Option Kind) → kind_after item before ≡ kind_by (sets block item KindKey) before
one_kind block (Init kind mode) before = refl
one_kind block other before = refl

all_kinds : (block : ℕ) (log : List Entry) (before : Option Kind)
    → kinds_after (items_of log) before ≡ kind_by (last_setting block log KindKey) before
all_kinds block [] before = refl
all_kinds block (e ∷ later) before =
    all_kinds block later (kind_after e.item before) ∙ go (last_setting block later KindKey) where
      go : (l : Setting) → kind_by l (kind_after e.item before) ≡ kind_by (later_of (sets block e.item KindKey) l) before
      go Untouched = one_kind block e.item before
      go Absent = refl
      go (Present (datum.Kind kind)) = refl
      go (Present (datum.Mode mode)) = refl
      go (Present (datum.Size size)) = refl
      go (Present (datum.Node to)) = refl
      go (Present (datum.Block number)) = refl

-- it is the node's
pub kind_now : (bytes : ℕ → List ℕ) (block : ℕ) (log : List Entry)
    → kind_of (node_now bytes block log) ≡ kinds_after (items_of log) None
kind_now bytes block log = go (last_setting block log KindKey) ∙ sym (all_kinds block log None) where
  go : (l : Setting) → kind_of (node_of_kind (value_of l) bytes block log) ≡ kind_by l None
  go Untouched = refl
  go Absent = refl
  go (Present (datum.Kind kind)) = refl
  go (Present (datum.Mode mode)) = refl
  go (Present (datum.Size size)) = refl
  go (Present (datum.Node to)) = refl
  go (Present (datum.Block number)) = refl

kind_under : (bytes : ℕ → List ℕ) (block : ℕ) (slots : ℕ → InodeSlot) (handle : Handle) → handle.generation ≡ (slots handle.ino).generation
    → kind_of (node_in (node_under bytes block slots) handle) ≡ kinds_after (items_of (slots handle.ino).log) None
kind_under bytes block slots handle own =
    ap (λ (b : Bool). kind_of (option_map (λ (p : PlainNode). p.node)
    (if b then stamped (last_commit (slots handle.ino).log) (node_now bytes block (slots handle.ino).log) else None)))
    (eq-eqb handle.generation (slots handle.ino).generation own)
    ∙ go (last_commit (slots handle.ino).log) (node_now bytes block (slots handle.ino).log)
    ∙ kind_now bytes block (slots handle.ino).log where
      go : (commit : ℕ) (node : Option NodeCopy) → kind_of (option_map (λ (p : PlainNode). p.node) (stamped commit node)) ≡ kind_of node
      go commit None = refl
      go commit (Some node) = refl

-- ---- items behind others

lawful_more : (block : ℕ) (xs ys : List Item) (before : Option Kind) → AreLawful block xs before
    → AreLawful block ys (kinds_after xs before) → AreLawful block (xs ++ ys) before
lawful_more block [] ys before all more = more
lawful_more block (item ∷ xs) ys before all more = (all.0, lawful_more block xs ys (kind_after item before) all.1 more)

last_more : (xs ys : List Item) (before : Option Kind) (kind : Kind) → IsGoneLast xs → kinds_after xs before ≡ Some kind → IsGoneLast ys
    → IsGoneLast (xs ++ ys)
last_more [] ys before kind last is own = own
last_more (item ∷ []) [] before kind last is own = tt
last_more (item ∷ []) (y ∷ ys) before kind last is own =
    ((λ gone. none-some kind (ap (λ (i : Item). kind_after i before) (sym gone) ∙ is)), own)
last_more (item ∷ next ∷ xs) ys before kind last is own = (last.0, last_more (next ∷ xs) ys (kind_after item before) kind last.1 is own)

-- ---- plans

last_then : (item : Item) (items : List Item) → item ≢ Gone → IsGoneLast items → IsGoneLast (item ∷ items)
last_then item [] other last = tt
last_then item (next ∷ items) other last = (other, last)

writes_last : (first size : ℕ) (runs : List BlockRun) (items : List Item) → IsGoneLast items → IsGoneLast (write_items first runs size ++ items)
writes_last first size [] items last = last
writes_last first size (run ∷ runs) items last =
    last_then (Write first run size) (write_items (first + run.len) runs size ++ items) (λ e. cc)
    (writes_last (first + run.len) size runs items last)

abbrev AllLast : List InodePlan → Type 0
AllLast plan = AllByRecursion (λ (p : InodePlan). IsGoneLast p.items) plan

leave_last : (dir : Handle) (name : List ℕ) (bound : Option Handle) → AllLast (leave_plan dir name bound)
leave_last dir name None = tt
leave_last dir name (Some to) = (tt, (tt, tt))

replaced_last : (other : Option Handle) → AllLast (replaced_plan other)
replaced_last None = tt
replaced_last (Some other) = (tt, tt)

rename_last : (from : Handle) (old : List ℕ) (to : Handle) (new : List ℕ) (names : LookupResult) → AllLast (rename_plan from old to new names)
rename_last from old to new names = go (own_place from old to new) where
  moved : (same : Bool) (handle : Handle) → AllLast (move_plan same from old to new handle (replaced_plan names.second))
  moved true handle = (((λ e. cc), tt), replaced_last names.second)
  moved false handle = (tt, (tt, replaced_last names.second))

  bound : (first : Option Handle) → AllLast (bound_plan from old to new first names.second)
  bound None = tt
  bound (Some handle) = moved (same_handle from to) handle

  go : (own : Bool) → AllLast (cond own [] (bound_plan from old to new names.first names.second))
  go true = tt
  go false = bound names.first

pub plan_last : (block : ℕ) (nodes : Handle → Option NodeCopy) (taken : Allocation) (c : Call) → AllLast (plan block nodes taken c)
plan_last block nodes taken (call.Create dir name mode) = (tt, (tt, tt))
plan_last block nodes taken (call.Mkdir dir name mode) = (tt, (tt, tt))
plan_last block nodes taken (call.Write file offset []) = tt
plan_last block nodes taken (call.Write file offset (byte ∷ text)) = (
  subst IsGoneLast (append-nil (write_items (offset / block) taken.runs (length (written offset (byte ∷ text) (bytes_of (nodes file))))))
      (writes_last (offset / block) (length (written offset (byte ∷ text) (bytes_of (nodes file)))) taken.runs [] tt),
  tt,
)
plan_last block nodes taken (call.Size file size) = (writes_last (size / block) size taken.runs (SetSize size ∷ []) tt, tt)
plan_last block nodes taken (call.Mode handle mode) = (tt, tt)
plan_last block nodes taken (call.Unlink dir name) = leave_last dir name (found nodes dir name)
plan_last block nodes taken (call.Rmdir dir name) = leave_last dir name (found nodes dir name)
plan_last block nodes taken (call.Rename from old to new) = rename_last from old to new (looked nodes (call.Rename from old to new))
plan_last block nodes taken other = tt

-- ---- a log grows by what is planned for it

-- the items are lawful behind the log, nothing stands behind a Gone among them, and the log is empty or its inode is there
pub record Grows (block : ℕ) (log : List Entry) (items : List Item) : Type 0 where
  pub lawful : AreLawful block items (kinds_after (items_of log) None)
  pub last : IsGoneLast items
  pub there : (log ≡ []) ⊎ ((kind : Kind) × (kinds_after (items_of log) None ≡ Some kind))

pub shape_more : (block : ℕ) (log more : List Entry) → IsShaped block log → Grows block log (items_of more) → IsShaped block (log ++ more)
shape_more block log more is grows = record {
  lawful = subst (λ (items : List Item). AreLawful block items None) (sym joined)
      (lawful_more block (items_of log) (items_of more) None is.lawful grows.lawful);
  last = subst IsGoneLast (sym joined) (last_of grows.there);
} where
  joined : items_of (log ++ more) ≡ items_of log ++ items_of more
  joined = map-append (λ (e : Entry). e.item) log more

  last_of : (log ≡ []) ⊎ ((kind : Kind) × (kinds_after (items_of log) None ≡ Some kind)) → IsGoneLast (items_of log ++ items_of more)
  last_of (inl empty) = rw empty grows.last
  last_of (inr there) = last_more (items_of log) (items_of more) None there.0 is.last there.1 grows.last

module _ (bytes : ℕ → List ℕ) (block : ℕ) (slots : ℕ → InodeSlot) (makes : Bool) (made : Handle) (free : makes ≡ true → IsFree slots made) where
  abbrev nodes : Handle → Option NodeCopy
  nodes = node_in (node_under bytes block slots)

  planned_grows : (p : InodePlan) → IsLawfulFor block nodes p → IsOfNode nodes makes made p → IsPlanned slots p → IsGoneLast p.items
      → Grows block (slots p.handle.ino).log p.items
  planned_grows p lawful of_node planned last = record {
    lawful = subst (AreLawful block p.items) kind lawful.lawful;
    last = last;
    there = there of_node;
  } where
    kind : kind_of (nodes p.handle) ≡ kinds_after (items_of (slots p.handle.ino).log) None
    kind = kind_under bytes block slots p.handle planned.own

    there : IsOfNode nodes makes made p → ((slots p.handle.ino).log ≡ [])
        ⊎ ((k : Kind) × (kinds_after (items_of (slots p.handle.ino).log) None ≡ Some k))
    there (inl new) = inl (ap (λ (h : Handle). (slots h.ino).log) new.1 ∙ (free new.0).empty)
    there (inr node) = inr (node.node.kind, sym kind ∙ ap kind_of node.is)

  pub plan_grows : (ps : List InodePlan) → AllByRecursion (IsLawfulFor block nodes) ps → AllByRecursion (IsOfNode nodes makes made) ps
      → AllByRecursion (IsPlanned slots) ps → AllLast ps → (ino : ℕ)
      → (items_for ps ino ≡ []) ⊎ Grows block (slots ino).log (items_for ps ino)
  plan_grows [] lawful nodes_of planned last ino = inl refl
  plan_grows (p ∷ ps) lawful nodes_of planned last ino =
      go (p.handle.ino == ino) refl (plan_grows ps lawful.1 nodes_of.1 planned.1 last.1 ino) where
        go : (b : Bool) → (p.handle.ino == ino) ≡ b → (items_for ps ino ≡ []) ⊎ Grows block (slots ino).log (items_for ps ino)
            → (cond b p.items (items_for ps ino) ≡ []) ⊎ Grows block (slots ino).log (cond b p.items (items_for ps ino))
        go true e more = inr (subst (λ (n : ℕ). Grows block (slots n).log p.items) (eqb-true p.handle.ino ino e)
            (planned_grows p lawful.0 nodes_of.0 planned.0 last.0))
        go false e more = more
