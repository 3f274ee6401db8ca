-- What is left of a log of its shape is of its shape, where it tells the kind that the log told: the first entry of a log whose
-- inode is there stays, since no other tells the kind.
use Rattle.std.proofs.Common.{◌≡◌, ◌≢◌, ◌∙◌, ℕ, Bool, true, false, List, [], ◌∷◌, Some, None, ap, refl, subst, sym}
use Rattle.std.proofs.lemmas.Bool.{true≢false}
use Rattle.std.proofs.lemmas.Option.{none-some}
use Rattle.nv_base.specs.declared.node.Kind.{Kind}
use Rattle.nv_cell.specs.Readers.{is_gone, is_last_word}
use Rattle.nv_entry.specs.Clean.{select}
use Rattle.nv_entry.specs.Shape.{AreLawful, IsGoneLast, IsLawful, items_of, kind_after}
use Rattle.nv_entry.specs.declared.item.Entry.{Entry}
use Rattle.nv_entry.specs.declared.item.Item.{Item}
use Rattle.nv_entry.specs.declared.item.Item.TheVariants.{Gone, Init}
use Rattle.nv_cell.specs.Shape.{IsLeftShaped}
use Rattle.nv_machine.proofs.CleanedCells.{gone_step}
use Rattle.nv_machine.proofs.LeftShapes.{first_kind, first_left, kind_stays, left_last, left_nothing, left_some}
use Rattle.nv_machine.proofs.Shapes.{kinds_after}

-- ---- behind the first entry no item tells a kind

none_told : (block : ℕ) (item : Item) (kind : Kind) → IsLawful block item (Some kind) → kind_after item None ≡ None
none_told block (Init other mode) kind lawful = absurd lawful
none_told block other kind lawful = refl

behind_none : (block : ℕ) (kind : Kind) (log : List Entry) → AreLawful block (items_of log) (Some kind) → IsGoneLast (items_of log)
    → kinds_after (items_of log) None ≡ None
behind_none block kind [] h last = refl
behind_none block kind (e ∷ []) h last = none_told block e.item kind h.0
behind_none block kind (e ∷ f ∷ log) h last =
    ap (kinds_after (items_of (f ∷ log))) (none_told block e.item kind h.0)
    ∙ behind_none block kind (f ∷ log)
    (subst (AreLawful block (items_of (f ∷ log))) (kind_stays block e.item kind h.0 last.0) h.1) last.1

-- ---- a log whose inode is there tells its kind

not_last_word : (item : Item) → is_last_word item ≡ false → item ≢ Gone
not_last_word item there is = true≢false (sym (ap is_last_word is) ∙ there)

still_told : (block : ℕ) (kind : Kind) (log : List Entry) → AreLawful block (items_of log) (Some kind) → IsGoneLast (items_of log)
    → is_gone log ≡ false → kinds_after (items_of log) (Some kind) ≡ Some kind
still_told block kind [] h last there = refl
still_told block kind (e ∷ []) h last there = kind_stays block e.item kind h.0 (not_last_word e.item there)
still_told block kind (e ∷ f ∷ log) h last there =
    let same = kind_stays block e.item kind h.0 last.0 in
    ap (kinds_after (items_of (f ∷ log))) same
    ∙ still_told block kind (f ∷ log) (subst (AreLawful block (items_of (f ∷ log))) same h.1) last.1 (sym (gone_step e f log) ∙ there)

first_told : (block : ℕ) (e : Entry) (log : List Entry) → AreLawful block (items_of (e ∷ log)) None → IsGoneLast (items_of (e ∷ log))
    → is_gone (e ∷ log) ≡ false → (kind : Kind) × (kinds_after (items_of (e ∷ log)) None ≡ Some kind)
first_told block e [] h last there = first_kind block e.item h.0
first_told block e (f ∷ log) h last there =
    let first = first_kind block e.item h.0 in (
      first.0,
      ap (kinds_after (items_of (f ∷ log))) first.1
          ∙ still_told block first.0 (f ∷ log) (subst (AreLawful block (items_of (f ∷ log))) first.1 h.1) last.1
          (sym (gone_step e f log) ∙ there),
    )

-- ---- what is left

-- where the kind stays so does the first entry
left_first : (block : ℕ) (flags : List Bool) (log : List Entry) → AreLawful block (items_of log) None → IsGoneLast (items_of log)
    → is_gone log ≡ false → kinds_after (items_of (select flags log)) None ≡ kinds_after (items_of log) None
    → AreLawful block (items_of (select flags log)) None
left_first block [] log h last there same = tt
left_first block (b ∷ flags) [] h last there same = tt
left_first block (true ∷ flags) (e ∷ log) h last there same = left_nothing block flags e log h last
left_first block (false ∷ flags) (e ∷ log) h last there same =
    let told = first_told block e log h last there in
    let rest = first_left block flags e log h last in
    let none = behind_none block rest.0 (select flags log) rest.2 (left_last (false ∷ flags) (e ∷ log) last) in
    absurd (none-some told.0 (sym none ∙ same ∙ told.1))

pub left_shaped : (block : ℕ) (flags : List Bool) (log : List Entry) → IsLeftShaped block log
    → kinds_after (items_of (select flags log)) None ≡ kinds_after (items_of log) None → is_gone (select flags log) ≡ is_gone log
    → IsLeftShaped block (select flags log)
left_shaped block flags log is same gone = record {
  some = left_some block is.some.0 flags log is.some.1 is.last;
  lawful = λ there.
      let was = sym gone ∙ there in left_first block flags log (is.lawful was) is.last was same;
  last = left_last flags log is.last;
}
