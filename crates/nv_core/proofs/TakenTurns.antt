-- A taking from a list that a world lends, as the machine's turn.
use Rattle.std.proofs.Common.{◌≡◌, ◌∙◌, ℕ, ◌+◌, ◌%◌, ◌<◌, ap, arith, length, mod-lt, refl, sym, take}
use Rattle.nv_alloc.specs.FreeList.{FreeBlocks}
use Rattle.nv_alloc.specs.Queue.{QueueValue}
use Rattle.nv_alloc.specs.declared.hand.Hand.{Hand}
use Rattle.nv_base.specs.Limits.{IsWithinLimits}
use Rattle.nv_base.specs.declared.fault.Fault.TheVariants.{NoSpace}
use Rattle.nv_machine.specs.Cleaning.{take_fresh_turn}
use Rattle.nv_machine.specs.Kinds.{asked_list, refuse, take_blocks_turn, take_log_pages_turn, wants_pages}
use Rattle.nv_machine.specs.Reads.{pages_wanted, plan_by}
use Rattle.nv_machine.specs.World as machine
use Rattle.nv_machine.specs.World.{HandState, Moves, go_to, list_at}
use Rattle.nv_steps.specs.OnList.{DataBlocks, FreshPages, IsTaking, LogPages, Taking, on_list, once_planned, step_of, taking_on, with_taken}
use Rattle.nv_steps.specs.declared.lists.Taken.{Taken}
use Rattle.nv_steps.specs.declared.lists.Taken.TheVariants as taken
use Rattle.nv_steps.proofs.ListTurns.{refused_moves}
use Rattle.nv_core.specs.Parts.{AreHome}
use Rattle.nv_core.specs.Shown.{hand_of, shared_of}
use Rattle.nv_core.specs.Takings.{IsTaken}
use Rattle.nv_core.specs.declared.next.Next.{Next}
use Rattle.nv_core.specs.declared.next.Next.TheVariants as next
use Rattle.nv_core.specs.declared.running.Running.{Running}
use Rattle.nv_core.specs.declared.shared.Shared.{Shared}
use Rattle.nv_core.proofs.FreshTurns.{taken_anywhere}
use Rattle.nv_core.proofs.LentParts.{list_moves, list_planned, numbers_for}

module _ (old new : Shared) (hand : Hand) (queue : QueueValue) (actor asked wanted : ℕ) (limits : IsWithinLimits old.geometry.numbers)
    (home : AreHome old) (wide : length old.owners.items ≡ length old.cells.items) (rest : new ≡ record old { lists = new.lists }) where
  abbrev cpu : ℕ
  cpu = (actor + asked) % length old.lists.items

  abbrev s : machine.Shared
  s = shared_of old

  abbrev t : machine.Shared
  t = shared_of new

  abbrev h : HandState
  h = hand_of hand

  abbrev list : FreeBlocks
  list = list_at s cpu

  abbrev block : ℕ
  block = old.geometry.numbers.block

  inside : cpu < length old.lists.items
  inside = mod-lt (actor + asked) (omega (arith, limits.some_cpus, home.count))

  -- what is told of a taking by a call
  abbrev pub Told : Taking → machine.Running → Taken → Type 0
  Told taking r result =
      IsTaking taking asked (numbers_for old) actor (on_list r h cpu list (list_at t cpu)) result (with_taken taking (take wanted list.blocks) h)

  -- ---- data blocks

  module _ (is : IsTaken old.geometry.numbers.blocks wanted cpu list old.lists.items new.lists.items hand.«data» queue) (r : machine.Running)
      (next : r.next ≡ machine.TakeBlocks asked) where
    abbrev filled : HandState
    filled = hand_of (record hand { «data» = queue })

    handed : with_taken DataBlocks (take wanted list.blocks) h ≡ filled
    handed = ap (λ (v : QueueValue). hand_of (record hand { «data» = v })) (sym is.queue)

    pub blocks_all : Told DataBlocks r taken.All → let b = new.geometry.numbers.block in
        take_blocks_turn (asked_list (length s.lists) actor asked) asked block s h r
        ≡ wants_pages (pages_wanted t r.slots (plan_by b t filled r)) t filled r
    blocks_all told =
        list_planned old new cpu _ home wide inside rest is.lists actor (machine.TakeBlocks asked) h
        (with_taken DataBlocks (take wanted list.blocks) h) filled r next handed told
        ∙ ap (λ (u : Shared). wants_pages (pages_wanted t r.slots (plan_by u.geometry.numbers.block t filled r)) t filled r) (sym rest)

    pub blocks_lack : (left : ℕ) → Told DataBlocks r (taken.Lacks left)
        → take_blocks_turn (asked_list (length s.lists) actor asked) asked block s h r
        ≡ Moves t filled (taking_on DataBlocks (asked + 1) left r)
    blocks_lack left told =
        list_moves old new cpu _ home wide inside rest is.lists actor (machine.TakeBlocks asked) h
        (with_taken DataBlocks (take wanted list.blocks) h) filled r next handed (taking_on DataBlocks (asked + 1) left r) told

    pub blocks_short : 0 < length r.slots → Told DataBlocks r taken.TooFew
        → take_blocks_turn (asked_list (length s.lists) actor asked) asked block s h r ≡ refuse NoSpace t filled r
    blocks_short holds told =
        list_moves old new cpu _ home wide inside rest is.lists actor (machine.TakeBlocks asked) h
        (with_taken DataBlocks (take wanted list.blocks) h) filled r next handed _ (told holds)
        ∙ sym (refused_moves NoSpace t filled r holds)

  -- ---- log pages

  module _ (is : IsTaken old.geometry.numbers.blocks wanted cpu list old.lists.items new.lists.items hand.pages queue) (r : machine.Running) where
    abbrev paged : HandState
    paged = hand_of (record hand { pages = queue })

    abbrev given : HandState
    given = with_taken LogPages (take wanted list.blocks) h

    has_pages : given ≡ paged
    has_pages = ap (λ (v : QueueValue). hand_of (record hand { pages = v })) (sym is.queue)

    module _ (next : r.next ≡ machine.TakeLogPages asked) where
      pub pages_all : Told LogPages r taken.All
          → take_log_pages_turn (asked_list (length s.lists) actor asked) asked s h r ≡ Moves t paged (once_planned 0 r)
      pages_all told =
          list_moves old new cpu _ home wide inside rest is.lists actor (machine.TakeLogPages asked) h given paged r next has_pages
          (once_planned 0 r) told

      pub pages_lack : (left : ℕ) → Told LogPages r (taken.Lacks left)
          → take_log_pages_turn (asked_list (length s.lists) actor asked) asked s h r
          ≡ Moves t paged (taking_on LogPages (asked + 1) left r)
      pages_lack left told =
          list_moves old new cpu _ home wide inside rest is.lists actor (machine.TakeLogPages asked) h given paged r next has_pages
          (taking_on LogPages (asked + 1) left r) told

      pub pages_short : 0 < length r.slots → Told LogPages r taken.TooFew
          → take_log_pages_turn (asked_list (length s.lists) actor asked) asked s h r ≡ refuse NoSpace t paged r
      pages_short holds told =
          list_moves old new cpu _ home wide inside rest is.lists actor (machine.TakeLogPages asked) h given paged r next has_pages _
          (told holds)
          ∙ sym (refused_moves NoSpace t paged r holds)

    -- ---- those of a cleaner, whatever stands in the place of its step meanwhile

    module _ (ino : ℕ) where
      abbrev q : machine.Running
      q = go_to (step_of (FreshPages ino) asked wanted) r

      fresh_at : (turn : machine.Turn) → take_fresh_turn (asked_list (length s.lists) actor asked) ino asked wanted s h q ≡ turn
          → take_fresh_turn (asked_list (length s.lists) actor asked) ino asked wanted s h r ≡ turn
      fresh_at turn is =
          sym (taken_anywhere (asked_list (length s.lists) actor asked) ino asked wanted s h r (step_of (FreshPages ino) asked wanted)) ∙ is

      pub fresh_all_turn : Told (FreshPages ino) q taken.All
          → take_fresh_turn (asked_list (length s.lists) actor asked) ino asked wanted s h r
          ≡ Moves t paged (go_to (machine.SnapshotOrCleaner (machine.Compact ino)) r)
      fresh_all_turn told =
          fresh_at _ (list_moves old new cpu _ home wide inside rest is.lists actor (step_of (FreshPages ino) asked wanted) h given paged q
          refl has_pages (go_to (machine.SnapshotOrCleaner (machine.Compact ino)) r) told)

      pub fresh_lack_turn : (left : ℕ) → Told (FreshPages ino) q (taken.Lacks left)
          → take_fresh_turn (asked_list (length s.lists) actor asked) ino asked wanted s h r
          ≡ Moves t paged (taking_on (FreshPages ino) (asked + 1) left r)
      fresh_lack_turn left told =
          fresh_at _ (list_moves old new cpu _ home wide inside rest is.lists actor (step_of (FreshPages ino) asked wanted) h given paged q
          refl has_pages (taking_on (FreshPages ino) (asked + 1) left r) told)

      pub fresh_short_turn : 0 < length r.slots → Told (FreshPages ino) q taken.TooFew
          → take_fresh_turn (asked_list (length s.lists) actor asked) ino asked wanted s h r ≡ refuse NoSpace t paged r
      fresh_short_turn holds told =
          fresh_at _ (list_moves old new cpu _ home wide inside rest is.lists actor (step_of (FreshPages ino) asked wanted) h given paged q
          refl has_pages _ (told holds)
          ∙ sym (refused_moves NoSpace t paged r holds))
