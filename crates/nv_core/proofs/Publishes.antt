-- A publish of one of the cells, as the machine's.
use Rattle.std.proofs.Common.{◌≡◌, ℕ, zero, suc, ◌+◌, ◌<◌, ◌≤◌, ◌∙◌, Bool, true, false, List, [], ◌∷◌, ◌++◌, ap, arith, drop, length, map, nat_lt, refl, subst, sym, take}
use Rattle.std.specs.Prelude.{slice_index_or, slice_set}
use Rattle.std.proofs.lemmas.Bool.{false≢true, lt-ltb, ltb-true}
use Rattle.std.proofs.lemmas.List.{get_or-map, length-map, length-set}
use Rattle.nv_calls.specs.Progress.{is_open}
use Rattle.nv_calls.specs.Commit.{CommitValue, after_publish, to_publish}
use Rattle.nv_calls.specs.Ready.{CellCommitValue, no_plan, plan_at}
use Rattle.nv_calls.specs.SlotCells.{cell_in}
use Rattle.nv_cell.specs.Cell.{CellState, CellValue, killed_by, published}
use Rattle.nv_cell.specs.declared.killed.KilledPart.{KilledPart}
use Rattle.nv_machine.specs.Kinds.{publish_turn, with_killed}
use Rattle.nv_machine.specs.Reads.{slot_at, written_slots}
use Rattle.nv_machine.specs.Sequence.{publishing}
use Rattle.nv_machine.specs.World as machine
use Rattle.nv_machine.specs.World.{cell_at, go_to, no_cell as machine_none, with_cell}
use Rattle.nv_core.specs.Shown.{ShownCall, commit_next, hand_in, hand_with, shared_of, shown_commit, slots_in}
use Rattle.nv_core.specs.GhostCalls.{IsCommitOf, IsOnItsWay}
use Rattle.nv_core.specs.declared.running.Running.{Running}
use Rattle.nv_core.specs.declared.shared.Shared.{Shared}
use Rattle.nv_core.proofs.Sequence.{publishes_next}

-- the states of cells of which one is another
pub states_set : (cells : List CellValue) (ino : ℕ) (value : CellValue)
    → map (λ (c : CellValue). c.state) (slice_set cells ino value) ≡ slice_set (map (λ (c : CellValue). c.state) cells) ino value.state
states_set [] ino value = refl
states_set (c ∷ cells) zero value = refl
states_set (c ∷ cells) (suc ino) value = ap (λ (rest : List CellState). c.state ∷ rest) (states_set cells ino value)

-- the state of a cell that is there, by the machine
pub state_there : (cells : List CellValue) (ino : ℕ) → ino < length cells
    → slice_index_or (map (λ (c : CellValue). c.state) cells) ino machine_none ≡ (cell_in cells ino).state
state_there [] ino lt = absurd (omega (arith, lt))
state_there (c ∷ cells) zero lt = refl
state_there (c ∷ cells) (suc ino) lt = state_there cells ino (omega (arith, lt))

-- one more list of killed parts
pub killed_more : (plans : List CellCommitValue) (retired count : ℕ) (killed : List KilledPart) → retired ≤ count → count < length plans
    → map (λ (p : CellCommitValue). p.killed) (drop retired (take (suc count) (slice_set plans count
    (record (plan_at plans count) { killed = killed }))))
    ≡ map (λ (p : CellCommitValue). p.killed) (drop retired (take count plans)) ++ killed ∷ []
killed_more [] retired count killed le lt = absurd (omega (arith, lt))
killed_more (p ∷ plans) zero zero killed le lt = refl
killed_more (p ∷ plans) zero (suc count) killed le lt =
    ap (λ (rest : List (List KilledPart)). p.killed ∷ rest) (killed_more plans zero count killed (omega arith) (omega (arith, lt)))
killed_more (p ∷ plans) (suc retired) zero killed le lt = absurd (omega (arith, le))
killed_more (p ∷ plans) (suc retired) (suc count) killed le lt = killed_more plans retired count killed (omega (arith, le))
    (omega (arith, lt))

-- the plans of which one has noted what was killed are at the same places
pub same_ats : (slots : List ℕ) (plans : List CellCommitValue) (j : ℕ) (killed : List KilledPart)
    → map (λ (p : CellCommitValue). slot_at slots p.at) (slice_set plans j (record (plan_at plans j) { killed = killed }))
    ≡ map (λ (p : CellCommitValue). slot_at slots p.at) plans
same_ats slots [] j killed = refl
same_ats slots (p ∷ plans) zero killed = refl
same_ats slots (p ∷ plans) (suc j) killed = ap (λ (rest : List ℕ). slot_at slots p.at ∷ rest) (same_ats slots plans j killed)

-- the machine's publish of the cell that the commit publishes
pub publishes : (shared : Shared) (running : Running) (old new : CommitValue) (cells : List CellValue) (told : ShownCall) (i : ℕ)
    → IsCommitOf (slots_in running.slots) old told → IsOnItsWay old → old.published < length old.plans → old.appended ≡ length old.plans
    → (2 ≤ length old.plans → (is_open old) ≡ true) → i ≡ slot_at (slots_in running.slots) (to_publish old).at
    → i < length shared.cells.items
    → cells ≡ slice_set shared.cells.items i (cell_in cells i) → (cell_in cells i).state ≡ published (cell_in shared.cells.items i).state
    → new ≡ after_publish (killed_by (cell_in shared.cells.items i).state) old
    → publish_turn (slot_at (written_slots (shown_commit old told running)) old.published) old.published (shared_of shared) (hand_in old)
    (shown_commit old told running)
    ≡ machine.Moves (record (shared_of shared) { cells = map (λ (c : CellValue). c.state) cells }) (hand_in new)
    (shown_commit new told running)
publishes shared running old new cells told i is way lt appended journal place there only state commit =
    let s = shared_of shared in
    let h = hand_in old in
    let r = shown_commit old told running in
    let slots = slots_in running.slots in
    let w = written_slots r in
    let p = old.published in
    let cell = (cell_in shared.cells.items i).state in
    let after = after_publish (killed_by cell) old in
    let f : CellCommitValue → ℕ = λ plan. slot_at slots plan.at in
    let at : slot_at w p ≡ i =
    ap (λ (xs : List ℕ). slot_at xs p) is.plans.written ∙ get_or-map f old.plans p no_plan 0 lt ∙ sym place in
    let here : cell_at s i ≡ cell = state_there shared.cells.items i there in
    let rest : map (λ (c : CellValue). c.state) cells ≡ slice_set s.cells i (published cell) =
    ap (λ (xs : List CellValue). map (λ (c : CellValue). c.state) xs) only ∙ states_set shared.cells.items i (cell_in cells i)
    ∙ ap (λ (c : CellState). slice_set s.cells i c) state in
    let many : length (slice_set old.plans p (record (plan_at old.plans p) { killed = killed_by cell })) ≡ length old.plans =
    length-set old.plans p (record (plan_at old.plans p) { killed = killed_by cell }) in
    let long : length w ≡ length after.plans =
    ap (λ (xs : List ℕ). length xs) is.plans.written ∙ length-map old.plans f ∙ sym many in
    let back : old.retired ≡ 0 = way.publishes lt in
    let opened : (is_open old) ≡ nat_lt 1 (length after.plans) =
    open_by (is_open old) (length old.plans) journal (λ e. (way.opened e).0) ∙ ap (nat_lt 1) (sym many) in
    let next : publishing (p + 1) w ≡ commit_next after =
    ap (λ (n : ℕ). publishing n w) plus ∙ publishes_next after w p long (appended ∙ sym many) plus back opened in
    let hand : with_killed (killed_by cell) h ≡ hand_in after =
    ap (λ (parts : List (List KilledPart)). hand_with parts old.hand)
    (sym (ap (λ (n : ℕ). map (λ (plan : CellCommitValue). plan.killed) (drop old.retired (take n (slice_set old.plans p
    (record (plan_at old.plans p) { killed = killed_by cell }))))) plus
    ∙ killed_more old.plans old.retired p (killed_by cell) (omega (arith, back)) lt)) in
    ap (λ (ino : ℕ). publish_turn ino p s h r) at
    ∙ ap (λ (c : CellState). machine.Moves (with_cell i (published c) s) (with_killed (killed_by c) h)
    (go_to (publishing (p + 1) w) r)) here
    ∙ ap (λ (xs : List CellState). machine.Moves (record s { cells = xs }) (with_killed (killed_by cell) h)
    (go_to (publishing (p + 1) w) r)) (sym rest)
    ∙ ap (λ (x : machine.HandState). machine.Moves (record s { cells = map (λ (c : CellValue). c.state) cells }) x
    (go_to (publishing (p + 1) w) r)) hand
    ∙ ap (λ (x : machine.Next). machine.Moves (record s { cells = map (λ (c : CellValue). c.state) cells }) (hand_in after)
    (go_to x r)) next
    ∙ sym (ap (λ (c : CommitValue). machine.Moves (record s { cells = map (λ (x : CellValue). x.state) cells }) (hand_in c)
    (shown_commit c told running)) commit)
  where
    plus : old.published + 1 ≡ suc old.published
    plus = omega arith

    open_by : (o : Bool) (n : ℕ) → (2 ≤ n → o ≡ true) → (o ≡ true → 2 ≤ n) → o ≡ nat_lt 1 n
    open_by true n to from = sym (lt-ltb 1 n (omega (arith, from refl)))
    open_by false n to from = go (nat_lt 1 n) refl where
      go : (b : Bool) → nat_lt 1 n ≡ b → false ≡ b
      go true q = let big = ltb-true 1 n q in absurd (false≢true (to (omega (arith, big))))
      go false q = refl

-- what is told of the commit stays
pub publish_told : (slots : List ℕ) (old new : CommitValue) (killed : List KilledPart) (told : ShownCall) → old.appended ≡ length old.plans
    → new ≡ after_publish killed old → IsCommitOf slots old told → IsCommitOf slots new told
publish_told slots old new killed told appended commit is =
    let many : length (slice_set old.plans old.published (record
    (plan_at old.plans old.published) { killed = killed })) ≡ length old.plans =
    length-set old.plans old.published (record (plan_at old.plans old.published) { killed = killed }) in
    subst (λ (c : CommitValue). IsCommitOf slots c told) (sym commit) (record {
      number = is.number;
      epoch = is.epoch;
      plans = record {
        written = is.plans.written ∙ sym (same_ats slots old.plans old.published killed);
        items = λ j from lt. absurd (omega (arith, from, lt, many, appended));
      };
    })

pub publish_way : (old new : CommitValue) (killed : List KilledPart) → IsOnItsWay old → old.published < length old.plans
    → old.appended ≡ length old.plans → (2 ≤ length old.plans → (is_open old) ≡ true) → new ≡ after_publish killed old → IsOnItsWay new
publish_way old new killed way lt appended journal commit =
    let many : length (slice_set old.plans old.published (record
    (plan_at old.plans old.published) { killed = killed })) ≡ length old.plans =
    length-set old.plans old.published (record (plan_at old.plans old.published) { killed = killed }) in
    let back : old.retired ≡ 0 = way.publishes lt in
    subst IsOnItsWay (sym commit) (record {
      appended = omega (arith, many, appended);
      published = omega (arith, many, lt);
      retired = omega (arith, many, back);
      appends = λ less. absurd (omega (arith, less, many, appended));
      publishes = λ less. back;
      opened = λ is. let two = (way.opened is).0 in (omega (arith, two, many), appended ∙ sym many, back);
      between = λ two some less. journal (omega (arith, two, many));
    })
