-- What a call that is made alone has taken before each step up to its commit: the first numbers of the row as data, and the
-- next ones as log pages; and its plan is that of these numbers.
use Rattle.std.proofs.Common.{◌≡◌, ℕ, suc, ◌+◌, ◌-◌, ◌%◌, ◌<◌, ◌≤◌, ◌++◌, ◌∙◌, Bool, true, false, List, [], Some, add-one, ap, append-nil, append_assoc, arith, drop, length, length-append, length-set, length-take, nat_lt, refl, subst, sym, take}
use Rattle.std.proofs.lemmas.Bool.{false≢true, ltb-false, ltb-true}
use Rattle.std.proofs.lemmas.List.{drop_at, length-map, map-append, take_at}
use Rattle.nv_alloc.specs.Block.{BlockValue, numbers_of}
use Rattle.nv_alloc.specs.FreeList.{FreeBlocks}
use Rattle.nv_base.specs.declared.fault.Fault.{Fault}
use Rattle.nv_base.specs.declared.numbers.Handle.{Handle}
use Rattle.nv_book.specs.Book.{BookState}
use Rattle.nv_calls.specs.AllCalls.{blocks_wanted, plan}
use Rattle.nv_calls.specs.Plan.{block_runs_of}
use Rattle.nv_calls.specs.declared.call.Call.{Call}
use Rattle.nv_calls.specs.declared.plan.InodePlan.{InodePlan}
use Rattle.nv_cell.specs.Cell.{CellState}
use Rattle.nv_machine.specs.Kinds.{asked_list, less_list}
use Rattle.nv_machine.specs.Reads.{copies, has_last_page, plan_by, slot_at}
use Rattle.nv_machine.specs.Sequence.{locking, looking}
use Rattle.nv_machine.specs.Step.{kind_turn}
use Rattle.nv_machine.specs.World.{Check, Ending, Enter, HandState, Lock, Look, Next, Number, BoundAnew, Ready, Refuses, Running, Shared, TakeBlocks, TakeLogPages, Turn, Unlock, go_to, list_at, with_owner}
use Rattle.nv_machine.proofs.NextSteps.{Known, KnowsNext, OnKnown, Untold}
use Rattle.nv_machine.proofs.LoopSteps.{is_on_files, locking_any, looking_any}
use Rattle.nv_machine.proofs.StepWalk.{WaysOf, walk_of}
use Rattle.nv_machine.proofs.StepWays.{Closes, Takes, any_ends, by_last, noted}
use Rattle.nv_machine.proofs.StepWork.{by_number, number_work}
use Rattle.nv_serial.specs.Row.{IsPlannedByRow, data_for, plan_by_row, row, row_at}
use Rattle.nv_serial.proofs.Row.{past_more, taken_row}

-- the steps up to what makes a call ready
abbrev pub is_before_commit : Next → Bool
is_before_commit Number = true
is_before_commit (Look place) = true
is_before_commit (Lock place) = true
is_before_commit Check = true
is_before_commit (TakeBlocks asked) = true
is_before_commit (TakeLogPages asked) = true
is_before_commit Ready = true
is_before_commit other = false

module _ (block actor : ℕ) (s0 : Shared) (c : Call) (some : 0 < length s0.lists) where
  abbrev pub cpus : ℕ
  cpus = length s0.lists

  abbrev pub all : List ℕ
  all = row_at s0 actor

  abbrev pub wants : ℕ
  wants = data_for block s0 c

  -- logs and book are those of the start
  pub record IsAsBefore (cells : List CellState) (book : BookState) (call : Call) : Type 0 where
    pub cells_are : cells ≡ s0.cells
    pub book_is : book ≡ s0.book
    pub call_is : call ≡ c

  -- and nothing is taken
  pub record IsEarly (cells : List CellState) (book : BookState) (lists : List FreeBlocks) (blocks pages : List BlockValue)
      (call : Call) : Type 0 where
    pub same : IsAsBefore cells book call
    pub lists_are : lists ≡ s0.lists
    pub blocks_are : blocks ≡ []
    pub pages_are : pages ≡ []

  abbrev pub EarlyIn : Shared → HandState → Call → Type 0
  EarlyIn s h call = IsEarly s.cells s.book s.lists h.blocks h.pages call

  -- so many lists were asked, and gave all that they had; what is in the hand is the front of the row
  pub record IsTaking (asked : ℕ) (cells : List CellState) (book : BookState) (lists : List FreeBlocks)
      (blocks pages : List BlockValue) (call : Call) : Type 0 where
    pub same : IsAsBefore cells book call
    pub many : length lists ≡ cpus
    pub taken : (numbers_of blocks ++ numbers_of pages) ++ row cpus actor 0 cpus lists ≡ all
    pub past : row cpus actor 0 asked lists ≡ []

  abbrev pub TakingIn : ℕ → Shared → HandState → Call → Type 0
  TakingIn asked s h call = IsTaking asked s.cells s.book s.lists h.blocks h.pages call

  -- a call that is ready has its plan, and data blocks and log pages in its hand
  pub record IsReady (cells : List CellState) (book : BookState) (lists : List FreeBlocks) (blocks pages : List BlockValue)
      (call : Call) (made : Handle) (plans : List InodePlan) : Type 0 where
    pub same : IsAsBefore cells book call
    pub many : length lists ≡ cpus
    pub has : wants ≤ length all
    pub planned : IsPlannedByRow block s0 actor c lists pages made plans

  abbrev pub Stage : Known
  Stage Number s h r = EarlyIn s h r.call
  Stage (Look place) s h r = EarlyIn s h r.call
  Stage (Lock place) s h r = EarlyIn s h r.call
  Stage Check s h r = EarlyIn s h r.call
  Stage (TakeBlocks asked) s h r =
      TakingIn asked s h r.call × (asked < cpus) × (h.pages ≡ []) × (length h.blocks + r.wanted ≡ wants)
  Stage (TakeLogPages asked) s h r = TakingIn asked s h r.call × (asked < cpus) × (length h.blocks ≡ wants)
  Stage Ready s h r = TakingIn 0 s h r.call × (length h.blocks ≡ wants)
  Stage Enter s h r = IsReady s.cells s.book s.lists h.blocks h.pages r.call r.made r.plan
  Stage (Unlock place) s h r = r.ending ≡ BoundAnew → EarlyIn s h r.call
  Stage other s h r = Unit {0}

  abbrev pub OnStage : Turn → Type 0
  OnStage t = OnKnown Stage t

  pub stage_closes : {s : Shared} {h : HandState} {r : Running} {e : Ending} → (e ≡ BoundAnew → EarlyIn s h r.call)
      → Closes (KnowsNext Stage) Untold s h r e
  stage_closes {s = s} {h = h} {r = r} {e = e} early = record {
    last = by_last (λ (n : Next). Stage n s h (record r { ending = e; next = n })) (λ place. early) (λ cpu. tt) tt;
    told = tt;
    again = λ n over some. early over;
    picks = λ d left drains some. tt;
  }

  pub refused_closes : {s : Shared} {h : HandState} {r : Running} {fault : Fault} → Closes (KnowsNext Stage) Untold s h r (Refuses fault)
  refused_closes = stage_closes (λ over. cc)

  -- ---- up to the check

  locking_on : (place : ℕ) (slots : List ℕ) (s : Shared) (h : HandState) (q : Running) → EarlyIn s h q.call
      → Stage (locking place slots) s h q
  locking_on place slots s h q early = locking_any (λ (k : Next). Stage k s h q) (λ place. early) early place slots

  number_ways : (granted : Bool) (s : Shared) (h : HandState) (r : Running) → EarlyIn s h r.call
      → WaysOf (KnowsNext Stage) Untold Number block actor granted s h r
  number_ways granted s h r early =
      let q = noted Number block s h r in
      let d = number_work s.pool.numbers s h in
      locking_on 0 q.slots d.shared d.hand (go_to (locking 0 q.slots) q)
      (by_number (λ (t : Shared) (i : HandState). EarlyIn t i r.call) s h (λ numbers ino. early))

  look_ways : (place : ℕ) (granted : Bool) (s : Shared) (h : HandState) (r : Running) → EarlyIn s h r.call
      → WaysOf (KnowsNext Stage) Untold (Look place) block actor granted s h r
  look_ways place granted s h r early = (
    λ fault free by. any_ends refused_closes,
    λ clear. (let q = noted (Look place) block s h r in
        looking_any (λ (k : Next). Stage k s h (go_to (looking (place + 1) q) q)) (λ place. early) (λ place. early) early (place + 1) q),
  )

  lock_ways : (place : ℕ) (granted : Bool) (s : Shared) (h : HandState) (r : Running) → EarlyIn s h r.call
      → WaysOf (KnowsNext Stage) Untold (Lock place) block actor granted s h r
  lock_ways place granted s h r early =
      λ free. locking_on (place + 1) r.slots (with_owner (slot_at r.slots place) (Some actor) s) h
      (go_to (locking (place + 1) r.slots) r) early

  -- ---- the check

  none_taken : (s : Shared) (h : HandState) (call : Call) → EarlyIn s h call → TakingIn 0 s h call
  none_taken s h call early = record {
    same = early.same;
    many = ap length early.lists_are;
    taken = ap (λ (bs : List BlockValue). (numbers_of bs ++ numbers_of h.pages) ++ row cpus actor 0 cpus s.lists) early.blocks_are
        ∙ ap (λ (bs : List BlockValue). numbers_of bs ++ row cpus actor 0 cpus s.lists) early.pages_are
        ∙ ap (λ (ls : List FreeBlocks). row cpus actor 0 cpus ls) early.lists_are;
    past = refl;
  }

  wanted_same : (cells : List CellState) (book : BookState) (call : Call) → IsAsBefore cells book call
      → (let x : Shared = record s0 { cells = cells } in blocks_wanted block (copies x) (has_last_page block x call) call) ≡ wants
  wanted_same cells book call same =
      ap (λ (d : Call). let x : Shared = record s0 { cells = cells } in blocks_wanted block (copies x) (has_last_page block x d) d)
      same.call_is
      ∙ ap (λ (cs : List CellState). let x : Shared = record s0 { cells = cs } in blocks_wanted block (copies x) (has_last_page block x c) c)
      same.cells_are

  check_takes : (s : Shared) (h : HandState) (r : Running) → EarlyIn s h r.call → Takes (KnowsNext Stage) Check block actor s h r
  check_takes s h r early =
      let all_wanted = wanted_same s.cells s.book r.call early.same in
      let taking = none_taken s h r.call early in
      record {
        more = λ n is ask. (
          taking,
          some,
          early.pages_are,
          ap (λ (bs : List BlockValue). length bs + suc n) early.blocks_are
              ∙ (let zero_plus : 0 + suc n ≡ suc n = omega arith in zero_plus) ∙ sym is ∙ all_wanted,
        );
        pages = λ n none is. (
          taking,
          some,
          ap (λ (bs : List BlockValue). length bs) early.blocks_are ∙ sym none ∙ all_wanted,
        );
        ready = λ none is. (taking, ap (λ (bs : List BlockValue). length bs) early.blocks_are ∙ sym none ∙ all_wanted);
      }

  check_ways : (granted : Bool) (s : Shared) (h : HandState) (r : Running) → EarlyIn s h r.call
      → WaysOf (KnowsNext Stage) Untold Check block actor granted s h r
  check_ways granted s h r early = (
    λ e by. any_ends (stage_closes (λ over. early)),
    λ none lacks. any_ends refused_closes,
    λ none. check_takes s h r early,
  )

  -- ---- the takings

  module _ (asked : ℕ) (s : Shared) (h : HandState) (r : Running) (taking : TakingIn asked s h r.call) (inside : asked < cpus) where
    abbrev place : ℕ
    place = asked_list (length s.lists) actor asked

    at : place ≡ (actor + asked) % cpus
    at = ap (λ n. (actor + asked) % n) taking.many

    abbrev here : List BlockValue
    here = (list_at s place).blocks

    abbrev t : Shared
    t = less_list place r.wanted s

    front : row cpus actor 0 cpus s.lists ≡ numbers_of (take r.wanted here) ++ row cpus actor 0 cpus t.lists
    front = taken_row cpus actor asked place at s.lists taking.many inside r.wanted taking.past

    many_then : length t.lists ≡ cpus
    many_then = length-set s.lists place (record (list_at s place) { blocks = drop r.wanted here }) ∙ taking.many

    -- what is taken stands behind what was
    behind : (held : List ℕ) → held ++ row cpus actor 0 cpus s.lists ≡ all
        → (held ++ numbers_of (take r.wanted here)) ++ row cpus actor 0 cpus t.lists ≡ all
    behind held is =
        append_assoc held (numbers_of (take r.wanted here)) (row cpus actor 0 cpus t.lists)
        ∙ ap (λ rest. held ++ rest) (sym front) ∙ is

    next_past : (n : ℕ) → r.wanted - length here ≡ suc n → row cpus actor 0 (asked + 1) t.lists ≡ []
    next_past n is =
        ap (λ k. row cpus actor 0 k t.lists) (add-one asked)
        ∙ past_more cpus actor asked place at s.lists taking.many inside r.wanted taking.past (omega (arith, is))

    -- what is known then, where the hand has these
    then_taking : (left : ℕ) (blocks pages : List BlockValue)
        → (numbers_of blocks ++ numbers_of pages) ++ row cpus actor 0 cpus t.lists ≡ all
        → row cpus actor 0 left t.lists ≡ [] → IsTaking left t.cells t.book t.lists blocks pages r.call
    then_taking left blocks pages taken past = record { same = taking.same; many = many_then; taken = taken; past = past }

    next_inside : nat_lt (asked + 1) (length s.lists) ≡ true → asked + 1 < cpus
    next_inside ask = let below = ltb-true (asked + 1) (length s.lists) ask in omega (arith, below, taking.many)

    -- ---- of data

    module _ (none : h.pages ≡ []) (so_far : length h.blocks + r.wanted ≡ wants) where
      abbrev hand : HandState
      hand = record h { blocks = h.blocks ++ take r.wanted here }

      taken_then : (numbers_of hand.blocks ++ numbers_of hand.pages) ++ row cpus actor 0 cpus t.lists ≡ all
      taken_then =
          ap (λ (bs : List BlockValue). (numbers_of hand.blocks ++ numbers_of bs) ++ row cpus actor 0 cpus t.lists) none
          ∙ ap (λ (ns : List ℕ). ns ++ row cpus actor 0 cpus t.lists)
          (append-nil (numbers_of hand.blocks) ∙ map-append (λ (b : BlockValue). b.number) h.blocks (take r.wanted here))
          ∙ behind (numbers_of h.blocks)
          (ap (λ (ns : List ℕ). ns ++ row cpus actor 0 cpus s.lists)
          (sym (append-nil (numbers_of h.blocks)) ∙ ap (λ (bs : List BlockValue). numbers_of h.blocks ++ numbers_of bs) (sym none))
          ∙ taking.taken)

      -- so many are taken once so many are left
      len_then : (left : ℕ) → r.wanted - length here ≡ left → length hand.blocks + left ≡ wants
      len_then left is =
          let parts = length-append h.blocks (take r.wanted here) in
          let took = length-take r.wanted here in omega (arith, parts, took, is, so_far)

      full_then : r.wanted - length here ≡ 0 → length hand.blocks ≡ wants
      full_then is = let sum = len_then 0 is in omega (arith, sum)

      blocks_ways : (granted : Bool) → WaysOf (KnowsNext Stage) Untold (TakeBlocks asked) block actor granted s h r
      blocks_ways granted = (
        record {
          more = λ n is ask. (
            then_taking (asked + 1) hand.blocks hand.pages taken_then (next_past n is),
            next_inside ask,
            none,
            len_then (suc n) is,
          );
          pages = λ n is some_pages. (then_taking 0 hand.blocks hand.pages taken_then refl, some, full_then is);
          ready = λ is none_wanted. (then_taking 0 hand.blocks hand.pages taken_then refl, full_then is);
        },
        λ n is last. any_ends refused_closes,
      )

    -- ---- the last list is asked and is short: all that is free is less than what is wanted

    module _ (n : ℕ) (is : r.wanted - length here ≡ suc n) (last : nat_lt (asked + 1) (length s.lists) ≡ false) where
      nothing_left : row cpus actor 0 cpus t.lists ≡ []
      nothing_left =
          let end : asked + 1 ≡ cpus =
          (let past = ltb-false (asked + 1) (length s.lists) last in omega (arith, past, inside, taking.many)) in
          subst (λ k. row cpus actor 0 k t.lists ≡ []) end (next_past n is)

      pub free_short : length all + suc n ≡ (length h.blocks + length h.pages) + r.wanted
      free_short =
          let whole : (numbers_of h.blocks ++ numbers_of h.pages) ++ numbers_of (take r.wanted here) ≡ all =
          sym (append-nil ((numbers_of h.blocks ++ numbers_of h.pages) ++ numbers_of (take r.wanted here)))
          ∙ ap (λ (ns : List ℕ). ((numbers_of h.blocks ++ numbers_of h.pages) ++ numbers_of (take r.wanted here)) ++ ns) (sym nothing_left)
          ∙ behind (numbers_of h.blocks ++ numbers_of h.pages) taking.taken in
          omega (
            arith,
            ap length whole,
            length-append (numbers_of h.blocks ++ numbers_of h.pages) (numbers_of (take r.wanted here)),
            length-append (numbers_of h.blocks) (numbers_of h.pages),
            length-map h.blocks (λ (b : BlockValue). b.number),
            length-map h.pages (λ (b : BlockValue). b.number),
            length-map (take r.wanted here) (λ (b : BlockValue). b.number),
            length-take r.wanted here,
            is,
          )

    -- ---- of log pages

    module _ (has : length h.blocks ≡ wants) where
      abbrev paged : HandState
      paged = record h { pages = h.pages ++ take r.wanted here }

      paged_then : (numbers_of paged.blocks ++ numbers_of paged.pages) ++ row cpus actor 0 cpus t.lists ≡ all
      paged_then =
          ap (λ (ns : List ℕ). (numbers_of h.blocks ++ ns) ++ row cpus actor 0 cpus t.lists)
          (map-append (λ (b : BlockValue). b.number) h.pages (take r.wanted here))
          ∙ ap (λ (ns : List ℕ). ns ++ row cpus actor 0 cpus t.lists)
          (sym (append_assoc (numbers_of h.blocks) (numbers_of h.pages) (numbers_of (take r.wanted here))))
          ∙ behind (numbers_of h.blocks ++ numbers_of h.pages) taking.taken

      pages_ways : (granted : Bool) → WaysOf (KnowsNext Stage) Untold (TakeLogPages asked) block actor granted s h r
      pages_ways granted = (
        record {
          more = λ n is ask. (then_taking (asked + 1) paged.blocks paged.pages paged_then (next_past n is), next_inside ask, has);
          pages = λ n is some_pages. absurd (no_pages n some_pages);
          ready = λ is none_wanted. (then_taking 0 paged.blocks paged.pages paged_then refl, has);
        },
        λ n is last. any_ends refused_closes,
      ) where
        no_pages : (n : ℕ) → 0 ≡ suc n → ⊥
        no_pages n e = cc

  -- ---- ready: the plan is that of the row

  module _ (asked : ℕ) (s : Shared) (h : HandState) (r : Running) (taking : TakingIn asked s h r.call) (has : length h.blocks ≡ wants) where
    numbers : numbers_of h.blocks ≡ take wants all
    numbers =
        sym (take_at (numbers_of h.blocks) (numbers_of h.pages ++ row cpus actor 0 cpus s.lists) wants
        (length-map h.blocks (λ (b : BlockValue). b.number) ∙ has))
        ∙ ap (take wants) (sym (append_assoc (numbers_of h.blocks) (numbers_of h.pages) (row cpus actor 0 cpus s.lists)) ∙ taking.taken)

    rest : numbers_of h.pages ++ row cpus actor 0 cpus s.lists ≡ drop wants all
    rest =
        sym (drop_at (numbers_of h.blocks) (numbers_of h.pages ++ row cpus actor 0 cpus s.lists) wants
        (length-map h.blocks (λ (b : BlockValue). b.number) ∙ has))
        ∙ ap (drop wants) (sym (append_assoc (numbers_of h.blocks) (numbers_of h.pages) (row cpus actor 0 cpus s.lists)) ∙ taking.taken)

    pub planned : plan_by block s h r ≡ plan_by_row block s0 actor c r.made
    planned =
        ap (λ (d : Call). plan block (copies s) (record { made = r.made; runs = block_runs_of (numbers_of h.blocks) }) d) taking.same.call_is
        ∙ ap (λ (ns : List ℕ). plan block (copies s) (record { made = r.made; runs = block_runs_of ns }) c) numbers
        ∙ ap (λ (cs : List CellState). let x : Shared = record s0 { cells = cs } in
        plan block (copies x) (record { made = r.made; runs = block_runs_of (take wants all) }) c) taking.same.cells_are

    ready_ways : (granted : Bool) → WaysOf (KnowsNext Stage) Untold Ready block actor granted s h r
    ready_ways granted = (
      λ lacks. any_ends refused_closes,
      record {
        same = taking.same;
        many = taking.many;
        has = (let taken = length-take wants all in
            omega (arith, taken, ap length numbers, length-map h.blocks (λ (b : BlockValue). b.number), has));
        planned = record { plan_is = planned; pages_are = rest };
      },
    )

  -- ---- every step up to the commit

  pub stage_on : (k : Next) (granted : Bool) (s : Shared) (h : HandState) (r : Running) → is_before_commit k ≡ true
      → Stage k s h r → OnStage (kind_turn k block actor granted s h r)
  stage_on k granted s h r e on = go k e on where
    walks : (k : Next) → WaysOf (KnowsNext Stage) Untold k block actor granted s h r → is_on_files k ≡ true
        → OnStage (kind_turn k block actor granted s h r)
    walks k ways is = walk_of (KnowsNext Stage) Untold block actor s h r k granted ways is

    go : (k : Next) → is_before_commit k ≡ true → Stage k s h r → OnStage (kind_turn k block actor granted s h r)
    go Number e early = walks Number (number_ways granted s h r early) refl
    go (Look place) e early = walks (Look place) (look_ways place granted s h r early) refl
    go (Lock place) e early = walks (Lock place) (lock_ways place granted s h r early) refl
    go Check e early = walks Check (check_ways granted s h r early) refl
    go (TakeBlocks asked) e on = walks (TakeBlocks asked) (blocks_ways asked s h r on.0 on.1 on.2 on.3 granted) refl
    go (TakeLogPages asked) e on = walks (TakeLogPages asked) (pages_ways asked s h r on.0 on.1 on.2 granted) refl
    go Ready e on = walks Ready (ready_ways 0 s h r on.0 on.1 granted) refl
    go other e on = absurd (false≢true e)
