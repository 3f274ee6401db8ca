-- A taking from a list, wherever the other parts are.
use Rattle.std.proofs.Common.{◌≡◌, ◌∙◌, ℕ, zero, suc, ◌+◌, ◌-◌, ◌<◌, Bool, true, nat_lt, List, [], ◌∷◌, ap, arith, drop, length, refl, sym, take}
use Rattle.std.proofs.lemmas.Bool.{lt-ltb}
use Rattle.nv_alloc.specs.FreeList.{FreeBlocks}
use Rattle.nv_base.specs.declared.fault.Fault.{Fault}
use Rattle.nv_base.specs.declared.geometry.GeometryNumbers.{GeometryNumbers}
use Rattle.nv_machine.specs.Cleaning.{fresh_turn}
use Rattle.nv_machine.specs.Kinds.{asked_list, blocks_turn, end_turn, pages_turn, refuse, wants_pages}
use Rattle.nv_machine.specs.Step.{turn}
use Rattle.nv_machine.specs.World.{HandState, Moves, Refuses, Running, Shared, Turn, list_at, with_list}
use Rattle.nv_steps.specs.OnList.{DataBlocks, FreshPages, IsTaking, LogPages, Taking, on_list, once_planned, once_refused, taking_on, with_taken}
use Rattle.nv_steps.specs.Parts.{HasPart, IsOf, ListIs}
use Rattle.nv_steps.specs.declared.lists.Taken.TheVariants as taken

-- ---- what comes behind it

abbrev behind : Taking → ℕ → Bool → ℕ → ℕ → Shared → HandState → Running → Turn
behind DataBlocks left more asked block s h r = blocks_turn left more asked block s h r
behind LogPages left more asked block s h r = pages_turn left more asked s h r
behind (FreshPages ino) left more asked block s h r = fresh_turn left more ino asked s h r

pub planned : (pages : ℕ) (s : Shared) (h : HandState) (r : Running) → wants_pages pages s h r ≡ Moves s h (once_planned pages r)
planned zero s h r = refl
planned (suc pages) s h r = refl

-- a call that holds a slot is refused by a move
pub refused_moves : (fault : Fault) (s : Shared) (h : HandState) (r : Running) → 0 < length r.slots
    → refuse fault s h r ≡ Moves s h (once_refused fault r)
refused_moves fault s h r some = go r.slots some where
  go : (slots : List ℕ) → 0 < length slots → end_turn slots (Refuses fault) s h r ≡ Moves s h (once_refused fault r)
  go [] some = absurd (omega (arith, some))
  go (slot ∷ slots) some = refl

goes_on : (taking : Taking) (left asked wanted block : ℕ) (s : Shared) (h : HandState) (r : Running) → (left ≡ 0 → ⊥)
    → behind taking left true asked block s h (taking_on taking asked wanted r) ≡ Moves s h (taking_on taking (asked + 1) left r)
goes_on taking zero asked wanted block s h r some = absurd (some refl)
goes_on DataBlocks (suc n) asked wanted block s h r some = refl
goes_on LogPages (suc n) asked wanted block s h r some = refl
goes_on (FreshPages ino) (suc n) asked wanted block s h r some = refl

-- ---- the turn

module _ (asked wanted lists actor : ℕ) (numbers : GeometryNumbers) (h : HandState) (list left : FreeBlocks) (many : numbers.cpus ≡ lists)
    (leaves : left ≡ record list { blocks = drop wanted list.blocks }) where
  abbrev cpu : ℕ
  cpu = asked_list lists actor asked

  abbrev after : Taking → HandState
  after taking = with_taken taking (take wanted list.blocks) h

  -- the turn on a list, where there are so many
  abbrev whole : Taking → Running → ℕ → FreeBlocks → FreeBlocks → Shared → Turn
  whole taking r n l new s =
      behind taking (wanted - length l.blocks) (nat_lt (asked + 1) n) asked numbers.block (with_list (asked_list n actor asked) new s)
      (with_taken taking (take wanted l.blocks) h) (taking_on taking asked wanted r)

  starts : (taking : Taking) (r : Running) (s : Shared) → let l = list_at s (asked_list (length s.lists) actor asked) in
      turn numbers.block actor true s h (taking_on taking asked wanted r)
      ≡ whole taking r (length s.lists) l (record l { blocks = drop wanted l.blocks }) s
  starts DataBlocks r s = refl
  starts LogPages r s = refl
  starts (FreshPages ino) r s = refl

  takes : (taking : Taking) (r : Running) → r ≡ taking_on taking asked wanted r → (s : Shared) → IsOf numbers s
      → HasPart s (ListIs cpu list) → turn numbers.block actor true s h r ≡ whole taking r lists list left s
  takes taking r before s is has =
      ap (λ (x : Running). turn numbers.block actor true s h x) before
      ∙ starts taking r s
      ∙ ap (λ (n : ℕ). let l = list_at s (asked_list n actor asked) in whole taking r n l (record l { blocks = drop wanted l.blocks }) s)
      (is.lists ∙ many)
      ∙ ap (λ (l : FreeBlocks). whole taking r lists l (record l { blocks = drop wanted l.blocks }) s) has.1
      ∙ ap (λ (l : FreeBlocks). whole taking r lists list l s) (sym leaves)

  pub all_taken : (taking : Taking) (r : Running) → r ≡ taking_on taking asked wanted r → wanted - length list.blocks ≡ 0
      → IsTaking taking asked numbers actor (on_list r h cpu list left) taken.All (after taking)
  all_taken DataBlocks r before none = λ cells pages wants s is has.
      let t = with_list cpu left s in
      let x = after DataBlocks in
      let q = taking_on DataBlocks asked wanted r in
      takes DataBlocks r before s is has.0
      ∙ ap (λ (n : ℕ). blocks_turn n (nat_lt (asked + 1) lists) asked numbers.block t x q) none
      ∙ ap (λ (n : ℕ). wants_pages n t x q) (wants s is has.1)
      ∙ planned pages t x q
      ∙ planned_on pages t x r
    where
      planned_on : (pages : ℕ) (t : Shared) (x : HandState) (r : Running)
          → Moves t x (once_planned pages (taking_on DataBlocks asked wanted r)) ≡ Moves t x (once_planned pages r)
      planned_on zero t x r = refl
      planned_on (suc pages) t x r = refl
  all_taken LogPages r before none = λ s is has.
      takes LogPages r before s is has.0
      ∙ ap (λ (n : ℕ). pages_turn n (nat_lt (asked + 1) lists) asked (with_list cpu left s) (after LogPages) (taking_on LogPages asked wanted r)) none
  all_taken (FreshPages ino) r before none = λ s is has.
      takes (FreshPages ino) r before s is has.0
      ∙ ap (λ (n : ℕ). fresh_turn n (nat_lt (asked + 1) lists) ino asked (with_list cpu left s) (after (FreshPages ino))
      (taking_on (FreshPages ino) asked wanted r)) none

  pub some_lack : (taking : Taking) (r : Running) (lack : ℕ) → r ≡ taking_on taking asked wanted r → wanted - length list.blocks ≡ lack
      → (lack ≡ 0 → ⊥) → asked + 1 < lists → IsTaking taking asked numbers actor (on_list r h cpu list left) (taken.Lacks lack) (after taking)
  some_lack taking r lack before is_lack some more = λ s is has.
      let t = with_list cpu left s in
      let x = after taking in
      let q = taking_on taking asked wanted r in
      takes taking r before s is has.0
      ∙ ap (λ (n : ℕ). behind taking n (nat_lt (asked + 1) lists) asked numbers.block t x q) is_lack
      ∙ ap (λ (b : Bool). behind taking lack b asked numbers.block t x q) (lt-ltb (asked + 1) lists more)
      ∙ goes_on taking lack asked wanted numbers.block t x r some
