-- The blocks that the parts of a cut log want: each once, each among the slot's, and together those of the cell anew.
use Rattle.std.proofs.Common.{◌≡◌, ℕ, ◌+◌, ◌≤◌, ◌==◌, ◌++◌, Bool, true, false, cond, List, [], ◌∷◌, map, Option, None, Some, arith, refl, ap, ap₂, subst, sym, ◌∙◌}
use Rattle.std.specs.Prelude.{option_and_then, option_to_list}
use Rattle.std.specs.List.{flat_map, range_with_len}
use Rattle.std.specs.Option.{option_map}
use Rattle.std.proofs.lemmas.Bool.{eq-eqb, eqb-true}
use Rattle.std.proofs.lemmas.List.{length-map}
use Rattle.std.proofs.lemmas.List.Folds.{flat_map-map}
use Rattle.std.proofs.lemmas.Option.{none-some, same_Some}
use Rattle.nv_alloc.specs.Block.{BlockValue, block_by, number_of}
use Rattle.nv_alloc.specs.Numbers.{has, times}
use Rattle.nv_alloc.proofs.Lists.{times-no, times-yes}
use Rattle.nv_audit.proofs.NeededPages.{given_by, given_once}
use Rattle.nv_cell.specs.Anew.{block_anew, blocks_anew}
use Rattle.nv_cell.specs.Cell.{of_part, page_block}
use Rattle.nv_cell.specs.Filling.{AreOnce, log_wants, numbers_wanted}
use Rattle.nv_cell.specs.Marks.{is_there, mark_at}
use Rattle.nv_cell.specs.declared.mark.Mark.{Mark}
use Rattle.nv_cell.proofs.FilledSlots.{slots_are, wants_len}
use Rattle.nv_cell.proofs.PartBlocks.{numbers_by_part}
use Rattle.nv_entry.specs.Covered.{part_total}
use Rattle.nv_entry.specs.declared.item.Entry.{Entry}
use Rattle.nv_mount.proofs.Anew.{flat_same}
use Rattle.nv_mount.proofs.Marked.{or_left, or_right, stands}

-- ---- numbers that are wanted, part by part

abbrev bare_block : Option ℕ → Option BlockValue
bare_block = option_map (λ (n : ℕ). let b : BlockValue = record { number = n; bytes = [] } in b)

its_number : (o : Option ℕ) → of_part (bare_block o) ≡ option_to_list o
its_number None = refl
its_number (Some n) = refl

their_numbers : (os : List (Option ℕ)) → numbers_wanted os ≡ flat_map of_part (map bare_block os)
their_numbers [] = refl
their_numbers (o ∷ os) = ap₂ (λ (xs ys : List ℕ). xs ++ ys) (sym (its_number o)) (their_numbers os)

module _ (block : ℕ) (marks : List Mark) (log : List Entry) where
  abbrev says : ℕ → Option ℕ
  says n = cond (is_there (mark_at marks n)) (page_block block log n) None

  abbrev gives : ℕ → List ℕ
  gives n = option_to_list (says n)

  pub wanted_are : numbers_wanted (log_wants block marks 0 log) ≡ flat_map gives (range_with_len 0 (part_total log))
  wanted_are =
      let wants = log_wants block marks 0 log in
      let slots = map bare_block wants in
      their_numbers wants
      ∙ sym (numbers_by_part log slots (length-map wants bare_block ∙ wants_len block marks 0 log))
      ∙ ap (flat_map of_part) (slots_are bare_block refl block marks 0 log)
      ∙ flat_map-map of_part
      (λ (n : ℕ). bare_block (cond (is_there (mark_at marks (0 + n))) (page_block block log n) None)) (range_with_len 0 (part_total log))
      ∙ flat_same
      (λ (n : ℕ). of_part (bare_block (cond (is_there (mark_at marks (0 + n))) (page_block block log n) None))) gives 0 (part_total log)
      (λ n from to.
      let zeroth : 0 + n ≡ n = omega arith in
      its_number (cond (is_there (mark_at marks (0 + n))) (page_block block log n) None)
      ∙ ap (λ (k : ℕ). option_to_list (cond (is_there (mark_at marks k)) (page_block block log n) None)) zeroth)

  -- what a part gives is what its entry says of it, where it is not out
  given_says : (n w : ℕ) → 1 ≤ times w (gives n) → (is_there (mark_at marks n) ≡ true) × (page_block block log n ≡ Some w)
  given_says n w some = go (is_there (mark_at marks n)) refl (page_block block log n) refl some where
    go : (b : Bool) → is_there (mark_at marks n) ≡ b → (o : Option ℕ) → page_block block log n ≡ o
        → 1 ≤ times w (option_to_list (cond b o None)) → (is_there (mark_at marks n) ≡ true) × (page_block block log n ≡ Some w)
    go false q o e few = absurd (let none : 1 ≤ 0 = few in omega (arith, none))
    go true q None e few = absurd (let none : 1 ≤ 0 = few in omega (arith, none))
    go true q (Some m) e few = (q, e ∙ same (m == w) refl) where
      same : (c : Bool) → (m == w) ≡ c → Some m ≡ Some w
      same true r = ap (λ (k : ℕ). Some k) (eqb-true m w r)
      same false r = absurd (let no = times-no w m [] r in omega (arith, no, few))

  gives_one : (n w : ℕ) → times w (gives n) ≤ 1
  gives_one n w = go (says n) where
    go : (o : Option ℕ) → times w (option_to_list o) ≤ 1
    go None = omega arith
    go (Some m) = at (m == w) refl where
      at : (c : Bool) → (m == w) ≡ c → times w (m ∷ []) ≤ 1
      at true r = let yes = times-yes w m [] r in omega (arith, yes)
      at false r = let no = times-no w m [] r in omega (arith, no)

  -- no number is wanted twice, where no two parts want one
  pub wanted_once
      : ((n m w : ℕ) → is_there (mark_at marks n) ≡ true → page_block block log n ≡ Some w → is_there (mark_at marks m) ≡ true
      → page_block block log m ≡ Some w → n ≡ m) → AreOnce (log_wants block marks 0 log)
  wanted_once same w =
      let one = given_once gives w 0 (part_total log) (λ n. gives_one n w)
      (λ n m some too.
      let first = given_says n w some in
      let last = given_says m w too in same n m w first.0 first.1 last.0 last.1) in
      subst (λ (ns : List ℕ). times w ns ≤ 1) (sym wanted_are) one

  -- a number that is wanted is what an entry says of a part that is not out
  pub wanted_by : (w : ℕ) → has (numbers_wanted (log_wants block marks 0 log)) w ≡ true
      → (n : ℕ) × (is_there (mark_at marks n) ≡ true) × (page_block block log n ≡ Some w)
  wanted_by w there =
      let some = stands (flat_map gives (range_with_len 0 (part_total log))) w
      (subst (λ (ns : List ℕ). has ns w ≡ true) wanted_are there) in
      let by = given_by gives w 0 (part_total log) some in
      let is = given_says by.0 w by.1 in (by.0, is.0, is.1)

  -- the blocks of the cell anew are those that are wanted
  pub stored_are : (blocks : List BlockValue)
      → ((n w : ℕ) → is_there (mark_at marks n) ≡ true → page_block block log n ≡ Some w
      → option_map number_of (block_by blocks w) ≡ Some w)
      → flat_map of_part (blocks_anew blocks block log marks) ≡ numbers_wanted (log_wants block marks 0 log)
  stored_are blocks among =
      flat_map-map of_part (block_anew blocks block log marks) (range_with_len 0 (part_total log))
      ∙ flat_same (λ (n : ℕ). of_part (block_anew blocks block log marks n)) gives 0 (part_total log)
      (λ n from to. go n (is_there (mark_at marks n)) refl (page_block block log n) refl)
      ∙ sym wanted_are
    where
      of_number : (w : ℕ) (x : Option BlockValue) → option_map number_of x ≡ Some w → of_part x ≡ w ∷ []
      of_number w None e = absurd (none-some w e)
      of_number w (Some b) e = ap (λ (k : ℕ). k ∷ []) (same_Some b.number w e)

      go : (n : ℕ) (b : Bool) → is_there (mark_at marks n) ≡ b → (o : Option ℕ) → page_block block log n ≡ o
          → of_part (cond b (option_and_then (block_by blocks) o) None) ≡ option_to_list (cond b o None)
      go n false q o e = refl
      go n true q None e = refl
      go n true q (Some w) e = of_number w (block_by blocks w) (among n w q e)

-- lists that have what is wanted give what these blocks do
pub wanted_same : (f h : ℕ → Option BlockValue) (wants : List (Option ℕ)) → ((w : ℕ) → has (numbers_wanted wants) w ≡ true → f w ≡ h w)
    → map (option_and_then f) wants ≡ map (option_and_then h) wants
wanted_same f h [] same = refl
wanted_same f h (None ∷ wants) same = ap (λ (os : List (Option BlockValue)). None ∷ os) (wanted_same f h wants same)
wanted_same f h (Some w ∷ wants) same =
    ap₂ (λ (o : Option BlockValue) (os : List (Option BlockValue)). o ∷ os)
    (same w (or_left (w == w) (has (numbers_wanted wants) w) (eq w)))
    (wanted_same f h wants (λ v there. same v (or_right (w == v) (has (numbers_wanted wants) v) there)))
  where
    eq : (m : ℕ) → (m == m) ≡ true
    eq m = eq-eqb m m refl
