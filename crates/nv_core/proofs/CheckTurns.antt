-- The turn of a check, and the taking that comes next.
use Rattle.std.proofs.Common.{◌≡◌, ℕ, zero, suc, ◌+◌, ◌<◌, ◌≤◌, ◌∙◌, Bool, true, false, List, [], ◌∷◌, ◌++◌, length, Option, Some, None, arith, refl, ap, ap₂, sym, subst}
use Rattle.std.specs.Prelude.{◌||◌, is_some, not, option_map}
use Rattle.std.proofs.lemmas.Bool.{lt-ltb}
use Rattle.nv_base.specs.declared.fault.Fault.{Fault}
use Rattle.nv_alloc.specs.Block.{BlockValue}
use Rattle.nv_alloc.specs.Hand.{blocks_of}
use Rattle.nv_alloc.specs.declared.hand.Hand.{Hand}
use Rattle.nv_base.specs.Limits.{IsWithinLimits}
use Rattle.nv_calls.specs.AllCalls.{blocks_wanted}
use Rattle.nv_calls.specs.Cells.{AreCells}
use Rattle.nv_calls.specs.SlotCells.{lent_cells}
use Rattle.nv_calls.specs.declared.update.Update.{Update}
use Rattle.nv_machine.specs.Kinds.{check_turn, end_turn, grown, refuse, wants_blocks, wants_pages, wants_room}
use Rattle.nv_machine.specs.Reads.{copies, has_last_page, pages_wanted, plan_by}
use Rattle.nv_machine.specs.Step.{ending_at, made_in, with_made}
use Rattle.nv_machine.specs.World.{HandState}
use Rattle.nv_machine.specs.World as machine
use Rattle.nv_calls.specs.declared.log_pages.TheConstants.{MORE_PAGES}
use Rattle.nv_core.proofs.CheckRequests.{Ends, drains_by_job, ending_told, owed_by, wanted_by_job, wants_by_job}
use Rattle.nv_core.proofs.Takes.{is_changed, over_all, wanted_same, with_both}
use Rattle.nv_core.specs.Parts.{AreHome}
use Rattle.nv_core.specs.Rooms.{CanCountPages, CanDrain, CanWantPages, FitsCall, HasItsBlocks, HasMade, HasRooms, IsChecked, IsHandOf, TakesBlocks, WantsBlocks, blocks_to_take, pages_to_take}
use Rattle.nv_core.specs.Shown.{ShownCall, ending_of, hand_of, shared_of, shown, slots_in}
use Rattle.nv_core.specs.Steps.{CanBeChecked}
use Rattle.nv_core.specs.GhostCalls.{IsChangeWith, IsOwed, IsShownCallOf, OwesAt, is_change}
use Rattle.nv_core.specs.declared.reservation.Reservation.TheVariants as reserved
use Rattle.nv_core.specs.declared.next.Ending.{Ending as Ended}
use Rattle.nv_core.specs.declared.next.Next.TheVariants as next
use Rattle.nv_core.specs.declared.request.Request.{Request}
use Rattle.nv_core.specs.declared.request.Request.TheVariants as asked
use Rattle.nv_core.specs.declared.running.Running.{Running}
use Rattle.nv_core.specs.declared.shared.Shared.{Shared}
use Rattle.nv_base.specs.Memory.{out_of_memory}

-- ---- the taking that comes next

none_in : (a b c : List BlockValue) → a ++ b ++ c ≡ [] → (a ≡ []) × ((b ≡ []) × (c ≡ []))
none_in [] [] [] h = (refl, (refl, refl))
none_in (x ∷ a) b c h = cc
none_in [] (x ∷ b) c h = cc
none_in [] [] (x ∷ c) h = cc

pub no_chain : (hand : Hand) → blocks_of hand ≡ [] → hand.chain ≡ []
no_chain hand empty = (none_in hand.«data».blocks hand.pages.blocks hand.chain empty).1.1

-- a call is checked, and takes so many data blocks
abbrev pub IsWanted : Shared → Hand → Running → ℕ → Update → Type 0
IsWanted shared hand running wanted u =
    HasMade shared (slots_in running.slots) hand running.made u
    × IsChecked shared (slots_in running.slots) hand running.looked u × (wanted ≡ blocks_to_take shared (slots_in running.slots) u)

-- one that takes none has them: its log pages can be counted
pub counts_pages : (shared : Shared) (hand : Hand) (running : Running) (wanted : ℕ) → wanted ≡ 0 → blocks_of hand ≡ []
    → WantsBlocks wanted shared hand running → CanCountPages shared hand running
counts_pages shared hand running wanted nil empty has =
    over_all (IsWanted shared hand running wanted)
    (λ u. IsChecked shared (slots_in running.slots) hand running.looked u
    × (length hand.«data».blocks ≡ blocks_to_take shared (slots_in running.slots) u))
    running.request (λ u has. (has.1, ap length none.0 ∙ sym nil ∙ has.2)) has where
      none : (hand.«data».blocks ≡ []) × ((hand.pages.blocks ≡ []) × (hand.chain ≡ []))
      none = none_in hand.«data».blocks hand.pages.blocks hand.chain empty

-- and with room for them it can go on to take them
pub has_its_blocks : (shared : Shared) (hand : Hand) (running : Running) (wanted : ℕ) → wanted ≡ 0 → blocks_of hand ≡ []
    → IsChangeWith (λ u. pages_to_take shared (slots_in running.slots) hand u ≤ hand.pages.room) running.request
    → WantsBlocks wanted shared hand running → CanWantPages shared hand running
has_its_blocks shared hand running wanted nil empty room has =
    over_all (λ u. IsWanted shared hand running wanted u × (pages_to_take shared (slots_in running.slots) hand u ≤ hand.pages.room))
    (λ u. HasMade shared (slots_in running.slots) hand running.made u
    × IsChecked shared (slots_in running.slots) hand running.looked u × HasItsBlocks shared (slots_in running.slots) hand u)
    running.request (λ u has. (
      has.0.0,
      has.0.1,
      record {
        blocks = ap length none.0 ∙ sym nil ∙ has.0.2;
        none = none.1.0;
        room = omega (arith, has.1);
      },
    ))
    (with_both (IsWanted shared hand running wanted) (λ u. pages_to_take shared (slots_in running.slots) hand u ≤ hand.pages.room)
    running.request has room) where
      none : (hand.«data».blocks ≡ []) × ((hand.pages.blocks ≡ []) × (hand.chain ≡ []))
      none = none_in hand.«data».blocks hand.pages.blocks hand.chain empty

-- a number that is told of a request
counted : (f : Update → ℕ) (j : Request) → IsChangeWith (λ u. 0 < f u) j
    → (n : ℕ) × (0 < n) × IsChangeWith (λ u. n ≡ f u) j
counted f (asked.Change plan text) some = (f plan, some, refl)
counted f (asked.Visit visit) some = elim some [ ]
counted f (asked.SnapshotOrCleaner on) some = elim some [ ]
counted f asked.Taken some = elim some [ ]

-- one that takes some has room for them
pub takes_blocks : (shared : Shared) (hand : Hand) (running : Running) (wanted : ℕ) → IsWithinLimits shared.geometry.numbers
    → AreHome shared → IsHandOf shared.geometry.numbers hand → FitsCall running → blocks_of hand ≡ []
    → wanted ≤ hand.«data».room → wanted + MORE_PAGES ≤ hand.pages.room → WantsBlocks wanted shared hand running
    → HasRooms shared (reserved.Hand hand) (record running { next = next.TakeBlocks 0; wanted = wanted })
takes_blocks shared hand running wanted limits home sized call empty room pages has = (
  record {
    before = is_changed (IsWanted shared hand running wanted) running.request has;
    looks = call.looks;
    overtaken = call.overtaken;
  },
  sized,
  over_all (IsWanted shared hand running wanted)
      (λ u. HasMade shared (slots_in running.slots) hand running.made u
      × (IsChecked shared (slots_in running.slots) hand running.looked u × TakesBlocks shared (slots_in running.slots) hand 0 wanted u))
      running.request (λ u has. (
        has.0,
        (
          has.1,
          record {
            count = omega (arith, ap length none.0, has.2);
            none = none.1.0;
            room = room;
            pages = omega (arith, ap length none.0, pages);
            list = omega (arith, home.count, limits.some_cpus);
          },
        ),
      )) has,
  tt,
) where
  none : (hand.«data».blocks ≡ []) × ((hand.pages.blocks ≡ []) × (hand.chain ≡ []))
  none = none_in hand.«data».blocks hand.pages.blocks hand.chain empty

pages_anywhere : (n wanted : ℕ) (s : machine.Shared) (h : HandState) (r : machine.Running)
    → wants_pages n s h (record r { wanted = wanted }) ≡ wants_pages n s h r
pages_anywhere zero wanted s h r = refl
pages_anywhere (suc n) wanted s h r = refl

-- a taking of no data blocks has no step
pub wants_none : (wanted size : ℕ) (s : machine.Shared) (h : HandState) (r : machine.Running) (t : machine.Turn) → wanted ≡ 0
    → wants_pages (pages_wanted s r.slots (plan_by size s h r)) s h (record r { wanted = wanted }) ≡ t → wants_blocks wanted size s h r ≡ t
wants_none wanted size s h r t nil pages =
    ap (λ (n : ℕ). wants_blocks n size s h r) nil
    ∙ sym (pages_anywhere (pages_wanted s r.slots (plan_by size s h r)) wanted s h r) ∙ pages

-- ---- the turn of a check

-- a call whose new inode has the handle of the number in the hand
abbrev noted : Shared → Hand → Running → Running
noted shared hand running = record running { made = made_in (shared_of shared) hand.ino running.made }

-- how the check over the lent cells ends a call, and how many blocks it takes
abbrev EndsAs : Shared → Running → Bool → Option machine.Ending → Type 0
EndsAs shared running numbered found = IsChangeWith (Ends shared (slots_in running.slots) running.looked numbered found) running.request

abbrev WantsAs : Shared → Running → ℕ → Type 0
WantsAs shared running wanted = IsChangeWith (λ u. wanted ≡ blocks_to_take shared (slots_in running.slots) u) running.request

module _ (shared : Shared) (hand : Hand) (running now : Running) (numbered : Bool) (found : Option Ended)
    (is : now ≡ noted shared hand running) (number : numbered ≡ is_some hand.ino) (change : is_change running.request ≡ true)
    (can : CanBeChecked shared hand running)
    (ends : EndsAs shared now numbered (option_map ending_of found)) where
  abbrev own_slots : List ℕ
  own_slots = slots_in running.slots

  abbrev size : ℕ
  size = shared.geometry.numbers.block

  own_ends : EndsAs shared running (is_some hand.ino) (option_map ending_of found)
  own_ends =
      subst (λ (b : Bool). EndsAs shared running b (option_map ending_of found)) number
      (subst (λ (x : Running). EndsAs shared x numbered (option_map ending_of found)) is ends)

  -- where it ends none
  no_end : found ≡ None → EndsAs shared running (is_some hand.ino) None
  no_end none = subst (λ (x : Option Ended). EndsAs shared running (is_some hand.ino) (option_map ending_of x)) none own_ends

  own_wanted : (wanted : ℕ) → WantsAs shared now wanted → WantsAs shared running wanted
  own_wanted wanted wants = subst (λ (x : Running). WantsAs shared x wanted) is wants

  -- and it makes no drain go on
  pub drains : (how : Ended) (any : Request) (h : Hand) → found ≡ Some how → CanDrain how any h
  drains how any h some =
      drains_by_job shared own_slots running.looked (is_some hand.ino) running.request any how h change
      (subst (λ (x : Option Ended). EndsAs shared running (is_some hand.ino) (option_map ending_of x)) some own_ends)

  pub wants : (after : Shared) (more : Hand) (wanted : ℕ) → AreCells (lent_cells own_slots shared.cells.items) → after ≡ shared
      → more.ino ≡ hand.ino → more.chain ≡ [] → found ≡ None → WantsAs shared now wanted → WantsBlocks wanted after more now
  wants after more wanted cells stays ino chain none wanted_is =
      subst (λ (x : Shared). WantsBlocks wanted x more now) (sym stays)
      (subst (λ (x : Running). WantsBlocks wanted shared more x) (sym is)
      (wants_by_job shared hand more running wanted cells can change ino chain (no_end none) (own_wanted wanted wanted_is)))

  pub owes : (told : ShownCall) (how : Ended) → IsShownCallOf running told → OwesAt how now told
  owes told how request answers =
      subst (λ (x : Running). IsOwed x.owed told.call) (sym is) (owed_by running.request running.owed told.call change request)

  module _ (told : ShownCall) (request : IsShownCallOf running told) where
    abbrev s : machine.Shared
    s = shared_of shared

    abbrev r : machine.Running
    r = with_made s (hand_of hand) (shown told running)

    abbrev count : ℕ
    count = blocks_wanted size (copies s) (has_last_page size s told.call) told.call

    abbrev turn : Bool → machine.Turn
    turn granted = check_turn (ending_at size s (hand_of hand) (shown told running)) granted count size s (hand_of hand) r

    ending_is : ending_at size s (hand_of hand) (shown told running) ≡ option_map ending_of found
    ending_is =
        ending_told shared own_slots running.looked hand.ino (made_in s hand.ino running.made) running.request running.owed told.call
        (option_map ending_of found) change request can.read own_ends

    turn_by : (how : Option Ended) (granted : Bool) → found ≡ how
        → turn granted ≡ check_turn (option_map ending_of how) granted count size s (hand_of hand) r
    turn_by how granted is =
        ap (λ (e : Option machine.Ending). check_turn e granted count size s (hand_of hand) r) (ending_is ∙ ap (option_map ending_of) is)

    pub turn_ends : (new : Shared) (how : Ended) (t : machine.Turn) → new ≡ shared → found ≡ Some how
        → end_turn (slots_in now.slots) (ending_of how) (shared_of new) (hand_of hand) (shown told now) ≡ t → turn true ≡ t
    turn_ends new how t same some ended =
        turn_by (Some how) true some
        ∙ ap₂ (λ (x : Shared) (y : Running). end_turn (slots_in y.slots) (ending_of how) (shared_of x) (hand_of hand) (shown told y))
        (sym same) (sym is)
        ∙ ended

    -- it grows where it takes data blocks or log pages
    grows_by : (n m wanted : ℕ) → n ≡ wanted → (wanted ≡ 0 → 0 < m) → wants_room n m ≡ true
    grows_by n m zero is some = rw is (lt-ltb 0 m (some refl))
    grows_by n m (suc wanted) is some = rw is refl

    is_now : IsShownCallOf now told
    is_now = subst (λ (x : Running). IsShownCallOf x told) (sym is) request

    own_pages : (wanted : ℕ) → WantsBlocks wanted shared hand now
        → IsChangeWith (λ u. 0 < pages_to_take shared (slots_in now.slots) hand u) now.request
        → 0 < pages_wanted s r.slots (plan_by size s (hand_of hand) r)
    own_pages wanted has some =
        let at = counted (pages_to_take shared (slots_in now.slots) hand) now.request some in
        let pages = ap (λ (x : Running). pages_wanted s (slots_in x.slots) (plan_by size s (hand_of hand) (shown told x))) (sym is)
        ∙ wanted_same shared (slots_in now.slots) hand now.looked now.made now.request now.owed told.call at.0 is_now
        (over_all (IsWanted shared hand now wanted)
        (λ u. HasMade shared (slots_in now.slots) hand now.made u × IsChecked shared (slots_in now.slots) hand now.looked u) now.request
        (λ u h. (h.0, h.1)) has)
        at.2 in
        omega (arith, pages, at.1)

    pub turn_refuses : (after : Shared) (more : machine.HandState) (why : Fault) (t : machine.Turn) (wanted : ℕ)
        → after ≡ shared → more ≡ hand_of hand → why ≡ out_of_memory → found ≡ None → WantsAs shared now wanted
        → WantsBlocks wanted shared hand now
        → (wanted ≡ 0 → IsChangeWith (λ u. 0 < pages_to_take shared (slots_in now.slots) hand u) now.request)
        → refuse why (shared_of after) more (shown told now) ≡ t → turn false ≡ t
    turn_refuses after more why t wanted stays held memory none wanted_is has some refused =
        turn_by None false none
        ∙ ap (λ (b : Bool). grown (false || not b) (wants_blocks count size s (hand_of hand) r) s (hand_of hand) r)
        (grows_by count (pages_wanted s r.slots (plan_by size s (hand_of hand) r)) wanted
        (wanted_by_job shared own_slots running.looked hand.ino wanted running.request running.owed told.call change request can.read (no_end none)
        (own_wanted wanted wanted_is))
        (λ nil. own_pages wanted has (some nil)))
        ∙ ap₂ (λ (x : Shared) (y : Running). refuse out_of_memory (shared_of x) (hand_of hand) (shown told y)) (sym stays) (sym is)
        ∙ ap₂ (λ (h : machine.HandState) (f : Fault). refuse f (shared_of after) h (shown told now)) (sym held) (sym memory)
        ∙ refused

    pub turn_goes : (after : Shared) (more : machine.HandState) (wanted : ℕ) (t : machine.Turn) → after ≡ shared
        → more ≡ hand_of hand → found ≡ None → WantsAs shared now wanted
        → wants_blocks wanted after.geometry.numbers.block (shared_of after) more (shown told now) ≡ t → turn true ≡ t
    turn_goes after more wanted t stays held none wanted_is goes =
        turn_by None true none
        ∙ ap (λ (n : ℕ). wants_blocks n size s (hand_of hand) r)
        (wanted_by_job shared own_slots running.looked hand.ino wanted running.request running.owed told.call change request can.read (no_end none)
        (own_wanted wanted wanted_is))
        ∙ ap₂ (λ (x : Shared) (y : Running). wants_blocks wanted x.geometry.numbers.block (shared_of x) (hand_of hand) (shown told y))
        (sym stays) (sym is)
        ∙ ap (λ (h : machine.HandState). wants_blocks wanted after.geometry.numbers.block (shared_of after) h (shown told now)) (sym held)
        ∙ goes
