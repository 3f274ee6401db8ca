-- A retiring of one of the cells, as the machine's.
use Rattle.std.proofs.Common.{◌≡◌, ℕ, zero, suc, ◌+◌, ◌<◌, ◌≤◌, ◌∙◌, Bool, true, false, true≢false, List, [], ◌∷◌, ◌++◌, ap, ap₂, arith, drop, if◌then◌else◌, length, map, nat_lt, not, refl, subst, sym, take}
use Rattle.std.proofs.lemmas.Bool.{eqb-true, le-ltb, ltb-false, ltb-true}
use Rattle.std.proofs.lemmas.List.{get_or-map, length-map, length-set}
use Rattle.std.specs.Prelude.{◌&&◌, ◌==◌, slice_set}
use Rattle.nv_alloc.specs.Block.{BlockValue}
use Rattle.nv_alloc.specs.declared.hand.Hand.{Hand}
use Rattle.nv_book.specs.Book.{BookState, BookValue}
use Rattle.nv_calls.proofs.Retires.{chain_stays}
use Rattle.nv_calls.specs.Commit.{CommitValue, after_retire, to_retire}
use Rattle.nv_calls.specs.Progress.{is_open, opens}
use Rattle.nv_calls.specs.Ready.{CellCommitValue, no_plan, plan_at}
use Rattle.nv_calls.specs.Retired.{CanRetire}
use Rattle.nv_calls.specs.Retiring as calls
use Rattle.nv_calls.specs.Retiring.{number_back, with_back}
use Rattle.nv_calls.specs.SlotCells.{cell_in}
use Rattle.nv_calls.specs.declared.progress.CommitStep.TheVariants as step
use Rattle.nv_cell.specs.Cell.{CellState, CellValue, log_of}
use Rattle.nv_cell.specs.Readers.{is_erased, is_gone, keeps_nothing}
use Rattle.nv_cell.specs.declared.killed.KilledPart.{KilledPart}
use Rattle.nv_epoch.specs.SnapList.{ids}
use Rattle.nv_log.specs.Chain.{ChainState, log}
use Rattle.nv_machine.specs.Kinds.{first_killed, retire_turn, with_erased}
use Rattle.nv_machine.specs.Reads.{slot_at, written_slots}
use Rattle.nv_machine.specs.Sequence.{retiring}
use Rattle.nv_machine.specs.World as machine
use Rattle.nv_machine.specs.World.{Leave, Retire, cell_at, go_to, with_book, with_cell}
use Rattle.nv_core.proofs.Publishes.{state_there, states_set}
use Rattle.nv_core.specs.Shown.{ShownCall, commit_next, hand_in, hand_with, killed_in, machine_step, shared_of, shown_commit, slots_in}
use Rattle.nv_core.specs.GhostCalls.{IsCommitOf, IsOnItsWay}
use Rattle.nv_base.specs.declared.geometry.GeometryNumbers.{GeometryNumbers}
use Rattle.nv_core.specs.Rooms.{IsHandOf}
use Rattle.nv_core.specs.declared.running.Running.{Running}
use Rattle.nv_core.specs.declared.shared.Shared.{Shared}

some_there : (n : ℕ) → 0 < n → (n == 0) ≡ false
some_there n lt = go (n == 0) refl where
  go : (b : Bool) → (n == 0) ≡ b → b ≡ false
  go true q = let none = eqb-true n 0 q in absurd (omega (arith, none, lt))
  go false q = refl

second_false : (a b c : Bool) → b ≡ false → (a && b && c) ≡ false
second_false a true c q = absurd (true≢false q)
second_false true false c q = refl
second_false false false c q = refl

-- behind all publishes, with no journal open, comes the next retiring
pub retires_next : (c : CommitValue) (written : List ℕ) → length written ≡ length c.plans → length c.plans ≤ c.appended
    → length c.plans ≤ c.published → 0 < c.published → is_open c ≡ false → retiring c.retired written ≡ commit_next c
retires_next c written many appended published some closed =
    ap (λ (n : ℕ). if nat_lt c.retired n then Retire c.retired else Leave) many
    ∙ go (nat_lt c.appended (length c.plans)) (opens c) (nat_lt c.published (length c.plans)) (is_open c)
    (nat_lt c.retired (length c.plans))
    (le-ltb c.appended (length c.plans) appended)
    (second_false (nat_lt 1 (length c.plans)) (c.published == 0) (not (is_open c)) (some_there c.published some))
    (le-ltb c.published (length c.plans) published) closed
  where
    go : (b1 b2 b3 b4 b5 : Bool) → b1 ≡ false → b2 ≡ false → b3 ≡ false → b4 ≡ false
        → (if b5 then Retire c.retired else Leave)
        ≡ machine_step (if b1 then step.Append else if b2 then step.Open else if b3 then step.Publish else if b4 then step.Close
        else if b5 then step.Retire else step.Leave) c
    go true b2 b3 b4 b5 q r s t = absurd (true≢false q)
    go false true b3 b4 b5 q r s t = absurd (true≢false r)
    go false false true b4 b5 q r s t = absurd (true≢false s)
    go false false false true b5 q r s t = absurd (true≢false t)
    go false false false false true q r s t = refl
    go false false false false false q r s t = refl

-- the first of what was killed and is not retired is that of the plan whose turn it is
pub killed_first : (plans : List CellCommitValue) (retired published : ℕ) → retired < published → published ≤ length plans
    → first_killed (map (λ (p : CellCommitValue). p.killed) (drop retired (take published plans))) ≡ (plan_at plans retired).killed
killed_first [] retired published lt le = absurd (omega (arith, lt, le))
killed_first (p ∷ plans) retired zero lt le = absurd (omega (arith, lt))
killed_first (p ∷ plans) zero (suc published) lt le = refl
killed_first (p ∷ plans) (suc retired) (suc published) lt le = killed_first plans retired published (omega (arith, lt)) (omega (arith, le))

-- once it is retired, the others are left
pub killed_left : (plans : List CellCommitValue) (retired published : ℕ) (plan : CellCommitValue) → retired < published
    → published ≤ length plans → drop 1 (map (λ (p : CellCommitValue). p.killed) (drop retired (take published plans)))
    ≡ map (λ (p : CellCommitValue). p.killed) (drop (suc retired) (take published (slice_set plans retired plan)))
killed_left [] retired published plan lt le = absurd (omega (arith, lt, le))
killed_left (p ∷ plans) retired zero plan lt le = absurd (omega (arith, lt))
killed_left (p ∷ plans) zero (suc published) plan lt le = refl
killed_left (p ∷ plans) (suc retired) (suc published) plan lt le =
    killed_left plans retired published plan (omega (arith, lt)) (omega (arith, le))

-- what is set free goes to the hand, and the chain of an erased inode, where the hand has none
pub hand_retires : (ino : ℕ) (mid : CellState) (free : List BlockValue) (parts : List (List KilledPart)) (hand : Hand)
    → (is_erased mid ≡ true → hand.chain ≡ [])
    → with_erased ino mid (record (hand_with parts hand) { blocks = hand.data.blocks ++ free })
    ≡ hand_with parts (calls.hand_with ino mid (record hand { «data» = with_back free hand.data }))
hand_retires ino mid free parts hand empty = go (is_erased mid) empty where
  go : (b : Bool) → (b ≡ true → hand.chain ≡ [])
      → (if b then record (hand_with parts hand) {
        blocks = hand.data.blocks ++ free;
        chain = hand.chain ++ mid.chain.blocks;
        ino = number_back ino mid hand.ino;
      } else record (hand_with parts hand) { blocks = hand.data.blocks ++ free })
      ≡ hand_with parts (if b then record hand {
        «data» = with_back free hand.data;
        chain = mid.chain.blocks;
        ino = number_back ino mid hand.ino;
      } else record hand { «data» = with_back free hand.data })
  go true empty =
      ap (λ (xs : List BlockValue). record (hand_with parts hand) {
        blocks = hand.data.blocks ++ free;
        chain = xs ++ mid.chain.blocks;
        ino = number_back ino mid hand.ino;
      }) (empty refl)
  go false empty = refl

-- a plan of which nothing is killed any more is at the same place
same_ats : (slots : List ℕ) (plans : List CellCommitValue) (j : ℕ) (killed : List KilledPart)
    → map (λ (p : CellCommitValue). slot_at slots p.at) (slice_set plans j (record (plan_at plans j) { killed = killed }))
    ≡ map (λ (p : CellCommitValue). slot_at slots p.at) plans
same_ats slots [] j killed = refl
same_ats slots (p ∷ plans) zero killed = refl
same_ats slots (p ∷ plans) (suc j) killed = ap (λ (rest : List ℕ). slot_at slots p.at ∷ rest) (same_ats slots plans j killed)

-- what is told of the commit stays
pub retire_told : (slots : List ℕ) (old new : CommitValue) (living : List ℕ) (ino : ℕ) (cell : CellState) (told : ShownCall)
    → old.appended ≡ length old.plans → new ≡ after_retire living ino cell old → IsCommitOf slots old told → IsCommitOf slots new told
retire_told slots old new living ino cell told appended commit is =
    let many : length (slice_set old.plans old.retired (record (to_retire old) { killed = [] })) ≡ length old.plans =
    length-set old.plans old.retired (record (to_retire old) { killed = [] }) in
    subst (λ (c : CommitValue). IsCommitOf slots c told) (sym commit) (record {
      number = is.number;
      epoch = is.epoch;
      plans = record {
        written = is.plans.written ∙ sym (same_ats slots old.plans old.retired []);
        items = λ j from lt. absurd (omega (arith, from, lt, many, appended));
      };
    })

pub retire_way : (old new : CommitValue) (living : List ℕ) (ino : ℕ) (cell : CellState) → IsOnItsWay old
    → old.retired < length old.plans → old.published ≡ length old.plans → is_open old ≡ false → new ≡ after_retire living ino cell old
    → IsOnItsWay new
retire_way old new living ino cell way lt published closed commit =
    let many : length (slice_set old.plans old.retired (record (to_retire old) { killed = [] })) ≡ length old.plans =
    length-set old.plans old.retired (record (to_retire old) { killed = [] }) in
    let appended = way.appended in
    subst IsOnItsWay (sym commit) (record {
      appended = omega (arith, many, appended);
      published = omega (arith, many, published);
      retired = omega (arith, many, lt);
      appends = λ less. let none = way.appends (omega (arith, many, less)) in absurd (omega (arith, none, published, lt));
      publishes = λ less. absurd (omega (arith, many, less, published));
      opened = λ is. absurd (true≢false (sym is ∙ closed));
      between = λ two some less. absurd (omega (arith, many, less, published));
    })

-- where all are published, all are appended
pub all_appended : {old : CommitValue} → IsOnItsWay old → old.retired < length old.plans → old.published ≡ length old.plans
    → old.appended ≡ length old.plans
all_appended {old} way lt published = go (nat_lt old.appended (length old.plans)) refl where
  go : (b : Bool) → nat_lt old.appended (length old.plans) ≡ b → old.appended ≡ length old.plans
  go true q = let none = way.appends (ltb-true old.appended (length old.plans) q) in absurd (omega (arith, none, published, lt))
  go false q = let le = way.appended in let ge = ltb-false old.appended (length old.plans) q in omega (arith, le, ge)

-- ---- the machine's retiring

-- an inode that is erased was gone, and then the hand has no chain
no_chain : (living : List ℕ) (ino epoch : ℕ) (killed : List KilledPart) (hand : Hand) (cell : CellState) → CanRetire killed hand cell
    → is_erased (calls.retired living ino epoch killed cell) ≡ true → hand.chain ≡ []
no_chain living ino epoch killed hand cell can erased =
    let mid : CellState = calls.retired living ino epoch killed cell in
    let gone : is_gone (log_of cell) ≡ true =
    ap (λ (ch : ChainState). is_gone (log ch)) (sym (chain_stays living ino epoch killed cell))
    ∙ both (is_gone (log_of mid)) (keeps_nothing mid) erased in
    empty hand.chain (can.gone gone).chain
  where
    both : (a b : Bool) → (a && b) ≡ true → a ≡ true
    both true b q = refl
    both false b q = absurd (true≢false (sym q))

    empty : (blocks : List BlockValue) → length blocks ≡ 0 → blocks ≡ []
    empty [] q = refl
    empty (b ∷ blocks) q = absurd (omega (arith, q))

pub retires : (shared : Shared) (running : Running) (old new : CommitValue) (book : BookValue) (cells : List CellValue) (told : ShownCall)
    (i : ℕ)
    → IsCommitOf (slots_in running.slots) old told → old.appended ≡ length old.plans → old.retired < length old.plans
    → old.published ≡ length old.plans → is_open old ≡ false
    → i ≡ slot_at (slots_in running.slots) (to_retire old).at → i < length shared.cells.items
    → cells ≡ slice_set shared.cells.items i (cell_in cells i)
    → (cell_in cells i).state ≡ calls.erased (calls.retired (ids shared.book.state.snaps) i old.stamp.epoch (to_retire old).killed
    (cell_in shared.cells.items i).state)
    → book.state ≡ (let x : BookState = record shared.book.state {
      manifests = calls.with_records (ids shared.book.state.snaps) i old.stamp.epoch (to_retire old).killed shared.book.state.manifests;
    } in x)
    → new ≡ after_retire (ids shared.book.state.snaps) i (cell_in shared.cells.items i).state old
    → CanRetire (to_retire old).killed old.hand (cell_in shared.cells.items i).state
    → retire_turn (slot_at (written_slots (shown_commit old told running)) old.retired) (first_killed (killed_in old)) old.retired
    (shared_of shared) (hand_in old) (shown_commit old told running)
    ≡ machine.Moves (record (shared_of shared) { cells = map (λ (c : CellValue). c.state) cells; book = book.state }) (hand_in new)
    (shown_commit new told running)
retires shared running old new book cells told i is appended lt published closed place there only state book_is commit can =
    let s = shared_of shared in
    let h = hand_in old in
    let r = shown_commit old told running in
    let slots = slots_in running.slots in
    let w = written_slots r in
    let p = old.retired in
    let living = ids shared.book.state.snaps in
    let epoch = old.stamp.epoch in
    let parts = (to_retire old).killed in
    let cell = (cell_in shared.cells.items i).state in
    let mid : CellState = calls.retired living i epoch parts cell in
    let free : List BlockValue = calls.freed_by living i epoch parts cell in
    let left : List (List KilledPart) = drop 1 (killed_in old) in
    let after = after_retire living i cell old in
    let shelf : BookState = record shared.book.state { manifests = calls.with_records living i epoch parts shared.book.state.manifests } in
    let at : slot_at w p ≡ i =
    ap (λ (xs : List ℕ). slot_at xs p) is.plans.written
    ∙ get_or-map (λ (plan : CellCommitValue). slot_at slots plan.at) old.plans p no_plan 0 lt ∙ sym place in
    let here : cell_at s i ≡ cell = state_there shared.cells.items i there in
    let first : first_killed (killed_in old) ≡ parts =
    killed_first old.plans p old.published (omega (arith, lt, published)) (omega (arith, published)) in
    let many : length (slice_set old.plans p (record (to_retire old) { killed = [] })) ≡ length old.plans =
    length-set old.plans p (record (to_retire old) { killed = [] }) in
    let long : length w ≡ length after.plans =
    ap (λ (xs : List ℕ). length xs) is.plans.written
    ∙ length-map old.plans (λ (plan : CellCommitValue). slot_at slots plan.at) ∙ sym many in
    let next : retiring (p + 1) w ≡ commit_next after =
    retires_next after w long (omega (arith, many, appended)) (omega (arith, many, published)) (omega (arith, lt, published)) closed in
    let plus : suc p ≡ p + 1 = omega arith in
    let rest : left ≡ killed_in after =
    killed_left old.plans p old.published (record (to_retire old) { killed = [] }) (omega (arith, lt, published)) (omega (arith, published))
    ∙ ap (λ (n : ℕ). map (λ (plan : CellCommitValue). plan.killed) (drop n (take old.published
    (slice_set old.plans p (record (to_retire old) { killed = [] }))))) plus in
    let hand : with_erased i mid (record (hand_with left old.hand) { blocks = old.hand.data.blocks ++ free }) ≡ hand_in after =
    hand_retires i mid free left old.hand (no_chain living i epoch parts old.hand cell can)
    ∙ ap (λ (x : List (List KilledPart)). hand_with x after.hand) rest in
    let states : slice_set s.cells i (calls.erased mid) ≡ map (λ (c : CellValue). c.state) cells =
    ap (λ (c : CellState). slice_set s.cells i c) (sym state)
    ∙ sym (ap (λ (xs : List CellValue). map (λ (c : CellValue). c.state) xs) only ∙ states_set shared.cells.items i (cell_in cells i)) in
    ap (λ (ino : ℕ). retire_turn ino (first_killed (killed_in old)) p s h r) at
    ∙ ap (λ (ks : List KilledPart). retire_turn i ks p s h r) first
    ∙ ap₂ (λ (e : ℕ) (c : CellState). machine.Moves
    (with_cell i (calls.erased (calls.retired living i e parts c))
    (with_book (record shared.book.state { manifests = calls.with_records living i e parts shared.book.state.manifests }) s))
    (with_erased i (calls.retired living i e parts c) (record h { blocks = h.blocks ++ calls.freed_by living i e parts c; killed = left }))
    (go_to (retiring (p + 1) w) r)) (sym is.epoch) here
    ∙ ap₂ (λ (xs : List CellState) (x : BookState). machine.Moves (record s { cells = xs; book = x })
    (with_erased i mid (record h { blocks = h.blocks ++ free; killed = left })) (go_to (retiring (p + 1) w) r)) states (sym book_is)
    ∙ ap₂ (λ (x : machine.HandState) (n : machine.Next).
    machine.Moves (record s { cells = map (λ (c : CellValue). c.state) cells; book = book.state }) x (go_to n r)) hand next
    ∙ sym (ap (λ (c : CommitValue). machine.Moves (record s { cells = map (λ (x : CellValue). x.state) cells; book = book.state })
    (hand_in c) (shown_commit c told running)) commit)

-- the sizes of its blocks stay
pub with_stays : (ino : ℕ) (mid : CellState) (hand : Hand) (g : GeometryNumbers) → IsHandOf g hand → IsHandOf g (calls.hand_with ino mid hand)
with_stays ino mid hand g is = go (is_erased mid) where
  go : (b : Bool) → IsHandOf g (if b then record hand { chain = mid.chain.blocks; ino = number_back ino mid hand.ino } else hand)
  go true = record { blocks = is.blocks; pages = is.pages }
  go false = is

pub hand_stays : (old new : CommitValue) (living : List ℕ) (ino : ℕ) (cell : CellState) (g : GeometryNumbers)
    → new ≡ after_retire living ino cell old → IsHandOf g old.hand → IsHandOf g new.hand
hand_stays old new living ino cell g commit is =
    let killed = (to_retire old).killed in
    subst (λ (c : CommitValue). IsHandOf g c.hand) (sym commit)
    (with_stays ino (calls.retired living ino old.stamp.epoch killed cell)
    (record old.hand { «data» = with_back (calls.freed_by living ino old.stamp.epoch killed cell) old.hand.data }) g
    (record { blocks = is.blocks; pages = is.pages }))
