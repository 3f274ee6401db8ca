-- What holds of a running call beside what is shown of it stays where another actor makes a step.
use Rattle.std.proofs.Common.{◌≡◌, ◌≢◌, ℕ, ◌+◌, ◌<◌, ◌==◌, ◌∙◌, Bool, true, false, List, [], ◌∷◌, Option, Some, None, ap, arith, length, refl, subst, sym}
use Rattle.std.specs.Prelude.{slice_index_or, unwrap_or}
use Rattle.std.specs.List.{AllByRecursion}
use Rattle.std.proofs.lemmas.Bool.{eqb-true}
use Rattle.nv_alloc.specs.Numbers.{has}
use Rattle.nv_alloc.specs.declared.hand.Hand.{Hand}
use Rattle.nv_alloc.proofs.Lists.{has-first}
use Rattle.nv_base.specs.declared.geometry.GeometryNumbers.{GeometryNumbers}
use Rattle.nv_base.specs.declared.numbers.Handle.{Handle}
use Rattle.nv_book.specs.Book.{BookValue}
use Rattle.nv_calls.specs.AllCalls.{looked as found_in, refusal}
use Rattle.nv_calls.specs.Cells.{AreCells}
use Rattle.nv_calls.specs.Locked.{handles}
use Rattle.nv_calls.specs.Nodes.{nodes_in}
use Rattle.nv_calls.specs.PagesWanted.{pages_wanted}
use Rattle.nv_calls.specs.Prepared.{HasNumberFor, IsStill, handle_made_by, makes, no_handle, planned_by}
use Rattle.nv_calls.specs.Progress.{step_of}
use Rattle.nv_calls.specs.Refusals.{passes}
use Rattle.nv_calls.specs.SlotCells.{cell_in, lent_cells}
use Rattle.nv_calls.specs.Updates.{blank_call}
use Rattle.nv_calls.specs.declared.looked.LookupResult.{LookupResult}
use Rattle.nv_calls.specs.declared.update.Update.{Update}
use Rattle.nv_cell.specs.Cell.{CellValue}
use Rattle.nv_machine.specs.Locks.{AreLocks, HoldsIts, IsInside, commits_at, held_at, is_owner}
use Rattle.nv_machine.specs.World as machine
use Rattle.nv_machine.specs.World.{actor_at, owner_at}
use Rattle.nv_machine.proofs.Lists.{or_right}
use Rattle.nv_machine.proofs.LocksHeld.{owner_is}
use Rattle.nv_core.specs.Committing.{IsCommitting}
use Rattle.nv_core.specs.Frames.{LeavesRest}
use Rattle.nv_core.specs.Nodes.{CanRead, HasOwn, HoldHandles, wanted_over}
use Rattle.nv_core.specs.Rooms.{HasActorRooms, HasMade, HasRooms, HasTaken, IsChecked, IsHandOf, IsIdle, IsReadyOver, Takes, TakesBlocks, TakesIf, TakesPages, committing_cpu, takes}
use Rattle.nv_core.specs.Shown.{ShownCall, next_of, shared_of, shown, shown_by, slots_in}
use Rattle.nv_core.specs.GhostCalls.{IsChangeWith}
use Rattle.nv_core.specs.Worlds.{ShowsActor, ShowsRunning, shown_call_of}
use Rattle.nv_core.specs.declared.reservation.Reservation.{Reservation}
use Rattle.nv_core.specs.declared.reservation.Reservation.TheVariants as reserved
use Rattle.nv_core.specs.declared.request.Request.{Request}
use Rattle.nv_core.specs.declared.request.Request.TheVariants as request
use Rattle.nv_core.specs.declared.next.Next.{Next}
use Rattle.nv_core.specs.declared.next.Next.TheVariants as next
use Rattle.nv_core.specs.declared.running.Running.{Running}
use Rattle.nv_core.specs.declared.shared.Shared.{Shared}
use Rattle.nv_core.specs.declared.world.Actor.{Actor}
use Rattle.nv_core.proofs.CleaningStays.{next_room_stays}
use Rattle.nv_core.proofs.ShownCalls.{commit_commits, commit_holds, shown_slots}

-- the cells of slots that all stay are the same
same_lent : (slots : List ℕ) (old new : List CellValue) → ((ino : ℕ) → has slots ino ≡ true → cell_in new ino ≡ cell_in old ino)
    → lent_cells slots new ≡ lent_cells slots old
same_lent [] old new same = refl
same_lent (n ∷ slots) old new same =
    let first = same n (has-first n slots) in
    let rest = same_lent slots old new (λ ino h. same ino (or_right (n == ino) (has slots ino) h)) in cc

-- what holds of the update of a request, if it follows from the same of another
by_update : (P Q : Update → Type 0) (j : Request) → ((u : Update) → P u → Q u) → IsChangeWith P j → IsChangeWith Q j
by_update P Q (request.Change plan text) from p = from plan p
by_update P Q (request.Visit visit) from p = p
by_update P Q (request.SnapshotOrCleaner on) from p = p
by_update P Q request.Taken from p = p

-- a call that takes holds all its slots
takes_hold : (n : Next) (slots : List ℕ) → takes n ≡ true → held_at (next_of n) slots ≡ slots
takes_hold (next.TakeBlocks asked) slots e = refl
takes_hold (next.TakeLogPages asked) slots e = refl
takes_hold next.Ready slots e = refl
takes_hold next.Check slots e = refl
takes_hold next.Number slots e = cc
takes_hold (next.Look place) slots e = cc
takes_hold (next.Lock place) slots e = cc
takes_hold (next.Unlock place) slots e = cc
takes_hold (next.Give cpu) slots e = cc
takes_hold next.ReturnNumber slots e = cc
takes_hold next.Visit slots e = cc
takes_hold (next.SnapshotOrCleaner step) slots e = cc

module _ (actor : ℕ) (held : List ℕ) (old new : Shared) (rest : LeavesRest actor held old new) where
  hand_stays : (hand : Hand) → IsHandOf old.geometry.numbers hand → IsHandOf new.geometry.numbers hand
  hand_stays hand is = subst (λ (g : GeometryNumbers). IsHandOf g hand) (sym (ap (λ x. x.numbers) rest.geometry)) is

  -- ---- a call whose cells stay

  module _ (slots : List ℕ) (out : (ino : ℕ) → has slots ino ≡ true → has held ino ≡ false) where
    lent_stays : lent_cells slots new.cells.items ≡ lent_cells slots old.cells.items
    lent_stays = same_lent slots old.cells.items new.cells.items (λ ino h. rest.cells ino (out ino h))

    moved : (P : GeometryNumbers → List (ℕ × CellValue) → Type 0) → P old.geometry.numbers (lent_cells slots old.cells.items)
        → P new.geometry.numbers (lent_cells slots new.cells.items)
    moved P p =
        subst (λ (g : GeometryNumbers). P g (lent_cells slots new.cells.items)) (sym (ap (λ x. x.numbers) rest.geometry))
        (subst (λ (cells : List (ℕ × CellValue)). P old.geometry.numbers cells) (sym lent_stays) p)

    read_stays : (list : List Handle) → CanRead old slots list → CanRead new slots list
    read_stays list p = record {
      there = subst (λ (n : ℕ). (k : ℕ) → k < length slots → slice_index_or slots k 0 < n) (sym rest.count) p.there;
      own = moved (λ g cells. AllByRecursion (λ (c : ℕ × CellValue). HasOwn g.block c.1.state) cells) p.own;
      held = subst (λ (n : ℕ). HoldHandles slots n list) (sym rest.count) p.held;
    }

    module _ (hand : Hand) (u : Update) where
      checked_stays : (looked : LookupResult) → IsChecked old slots hand looked u → IsChecked new slots hand looked u
      checked_stays looked p = record {
        read = read_stays (handles looked (blank_call u)) p.read;
        lent = moved (λ g cells. AreCells cells) p.lent;
        some = p.some;
        still = moved (λ g cells. AllByRecursion (λ (c : ℕ × CellValue). IsStill g.block c.1.state) cells) p.still;
        passed = moved (λ g cells. refusal g.block (nodes_in cells) (blank_call u) ≡ passes) p.passed;
        something = p.something;
        same = moved (λ g cells. found_in (nodes_in cells) (blank_call u) ≡ looked) p.same;
        number = moved (λ g cells. HasNumberFor cells (makes u) hand.ino) p.number;
        chain = p.chain;
      }

      takes_blocks_stay : (asked wanted : ℕ) → TakesBlocks old slots hand asked wanted u → TakesBlocks new slots hand asked wanted u
      takes_blocks_stay asked wanted p = record {
        count = moved (λ g cells. length hand.«data».blocks + wanted ≡ wanted_over g.block cells u) p.count;
        none = p.none;
        room = p.room;
        pages = p.pages;
        list = omega (arith, p.list, rest.lists);
      }

      takes_pages_stay : (asked wanted : ℕ) → TakesPages old slots hand asked wanted u → TakesPages new slots hand asked wanted u
      takes_pages_stay asked wanted p = record {
        blocks = moved (λ g cells. length hand.«data».blocks ≡ wanted_over g.block cells u) p.blocks;
        count = moved (λ g cells. length hand.pages.blocks + wanted ≡ pages_wanted cells (planned_by cells hand u)) p.count;
        room = p.room;
        list = omega (arith, p.list, rest.lists);
      }

      made_stays : (made : Handle) → HasMade old slots hand made u → HasMade new slots hand made u
      made_stays made p e = moved (λ g cells. made ≡ unwrap_or (handle_made_by cells hand.ino u) no_handle) (p e)

      taken_stays : HasTaken old slots hand u → HasTaken new slots hand u
      taken_stays p = record {
        blocks = moved (λ g cells. length hand.«data».blocks ≡ wanted_over g.block cells u) p.blocks;
        pages = moved (λ g cells. length hand.pages.blocks ≡ pages_wanted cells (planned_by cells hand u)) p.pages;
      }

  -- the slots that a call holds stay
  abbrev IsOut : List ℕ → Type 0
  IsOut slots = (ino : ℕ) → has slots ino ≡ true → has held ino ≡ false

  -- ---- what a call takes

  takes_stay : (n : Next) (slots : List ℕ) → IsOut slots → (hand : Hand) (wanted : ℕ) (looked : LookupResult) (u : Update)
      → Takes n old slots hand wanted looked u → Takes n new slots hand wanted looked u
  takes_stay (next.TakeBlocks asked) slots out hand wanted looked u p =
      (checked_stays slots out hand u looked p.0, takes_blocks_stay slots out hand u asked wanted p.1)
  takes_stay (next.TakeLogPages asked) slots out hand wanted looked u p =
      (checked_stays slots out hand u looked p.0, takes_pages_stay slots out hand u asked wanted p.1)
  takes_stay next.Ready slots out hand wanted looked u p = (checked_stays slots out hand u looked p.0, taken_stays slots out hand u p.1)
  takes_stay next.Number slots out hand wanted looked u p = tt
  takes_stay (next.Look place) slots out hand wanted looked u p = tt
  takes_stay (next.Lock place) slots out hand wanted looked u p = tt
  takes_stay next.Check slots out hand wanted looked u p = tt
  takes_stay (next.Unlock place) slots out hand wanted looked u p = tt
  takes_stay (next.Give cpu) slots out hand wanted looked u p = tt
  takes_stay next.ReturnNumber slots out hand wanted looked u p = tt
  takes_stay next.Visit slots out hand wanted looked u p = tt
  takes_stay (next.SnapshotOrCleaner step) slots out hand wanted looked u p = tt

  takes_if_stays : (b : Bool) (hand : Hand) (running : Running) → takes running.next ≡ b
      → IsOut (held_at (next_of running.next) (slots_in running.slots)) → TakesIf b old hand running → TakesIf b new hand running
  takes_if_stays false hand running e out p = tt
  takes_if_stays true hand running e out p =
      let slots = slots_in running.slots in
      let stay : IsOut slots = λ ino h. out ino (ap (λ (l : List ℕ). has l ino) (takes_hold running.next slots e) ∙ h) in
      by_update (λ u. HasMade old slots hand running.made u × Takes running.next old slots hand running.wanted running.looked u)
      (λ u. HasMade new slots hand running.made u × Takes running.next new slots hand running.wanted running.looked u) running.request
      (λ u q. (made_stays slots stay hand u running.made q.0, takes_stay running.next slots stay hand running.wanted running.looked u q.1))
      p

  -- ---- a call

  -- one that commits has the commit lock, and the book with it
  call_stays : (held_by : Reservation) (told : ShownCall) (running : Running)
      → IsInside (shown_by held_by told running).next (shown_by held_by told running)
      → IsOut (held_at (shown_by held_by told running).next (slots_in running.slots))
      → (commits_at (shown_by held_by told running).next ≡ true → (new.book ≡ old.book) × (new.holder ≡ old.holder))
      → HasRooms old held_by running → HasRooms new held_by running
  call_stays (reserved.Hand hand) told running inside out same p = (
    p.0,
    hand_stays hand p.1,
    takes_if_stays (takes running.next) hand running refl out p.2,
    next_room_stays old new rest.count rest.lists running.next (slots_in running.slots) running.ending running.request hand
        (λ step e. subst (λ (n : Next). IsInside (next_of n) (shown told running)) e inside)
        (λ ino h. rest.cells ino (out ino h)) p.3,
  )
  call_stays (reserved.Ready ready) told running inside out same p =
      (p.0, p.1, hand_stays ready.hand p.2, moved (slots_in running.slots) out (λ g cells. IsReadyOver cells ready) p.3)
  call_stays (reserved.Commit commit) told running inside out same p =
      let slots = slots_in running.slots in
      let all = commit_holds (step_of commit) commit slots in
      let stay : IsOut slots = λ ino h. out ino (ap (λ (l : List ℕ). has l ino) all ∙ h) in
      let book = same (commit_commits (step_of commit) commit) in
      let holder = book.1 in
      let cpu : committing_cpu new ≡ committing_cpu old = (let many = rest.lists in cc) in (
        p.0,
        p.1,
        hand_stays commit.hand p.2,
        subst (λ (n : ℕ). IsCommitting n (lent_cells slots new.cells.items) new.book commit) (sym cpu)
            (subst (λ (b : BookValue). IsCommitting (committing_cpu old) (lent_cells slots new.cells.items) b commit) (sym book.0)
            (moved slots stay (λ g cells. IsCommitting (committing_cpu old) cells old.book commit) p.3)),
      )

  idle_stays : (held_by : Reservation) → IsIdle old held_by → IsIdle new held_by
  idle_stays (reserved.Hand hand) p = hand_stays hand p
  idle_stays (reserved.Ready ready) p = p
  idle_stays (reserved.Commit commit) p = p

-- ---- another actor of a world

both_own : (actor other : ℕ) (owner : Option ℕ) → other ≢ actor → is_owner other owner ≡ true → is_owner actor owner ≡ false
both_own actor other None ne mine = refl
both_own actor other (Some o) ne mine = go (o == actor) refl where
  go : (b : Bool) → (o == actor) ≡ b → b ≡ false
  go true q = absurd (ne (sym (eqb-true o other mine) ∙ eqb-true o actor q))
  go false q = refl

module _ (m : machine.World) (locks : AreLocks m) (old new : Shared) (shows : shared_of old ≡ m.shared) (actor other : ℕ)
    (ne : other ≢ actor) (r : machine.Running) (goes : (actor_at m actor).running ≡ Some r)
    (rest : LeavesRest actor (held_at r.next r.slots) old new) where
  mine : HoldsIts (shared_of old) actor (Some r)
  mine =
      subst (λ (s : machine.Shared). HoldsIts s actor (Some r)) (sym shows)
      (subst (λ (o : Option machine.Running). HoldsIts m.shared actor o) goes (locks.each actor))

  rooms_by : (held : Reservation) (o : Option Running) (p : Option machine.Running) → (actor_at m other).running ≡ p → ShowsRunning held o p
      → HasActorRooms old held o → HasActorRooms new held o
  rooms_by held None p is shown rooms = idle_stays actor (held_at r.next r.slots) old new rest held rooms
  rooms_by held (Some running) None is shown rooms = absurd shown
  rooms_by held (Some running) (Some q) is shown rooms =
      call_stays actor (held_at r.next r.slots) old new rest held (shown_call_of q) running
      (subst (λ (x : machine.Running). IsInside x.next x) (sym shown.shown) theirs.slots.1) out book rooms where
        theirs : HoldsIts (shared_of old) other (Some q)
        theirs =
            subst (λ (s : machine.Shared). HoldsIts s other (Some q)) (sym shows)
            (subst (λ (o : Option machine.Running). HoldsIts m.shared other o) is (locks.each other))

        same_held : (ino : ℕ) → has (held_at q.next q.slots) ino
            ≡ has (held_at (shown_by held (shown_call_of q) running).next (slots_in running.slots)) ino
        same_held ino =
            ap (λ (x : machine.Running). has (held_at x.next x.slots) ino) (sym shown.shown)
            ∙ ap (λ (l : List ℕ). has (held_at (shown_by held (shown_call_of q) running).next l) ino) (shown_slots held (shown_call_of q) running)

        out : (ino : ℕ) → has (held_at (shown_by held (shown_call_of q) running).next (slots_in running.slots)) ino ≡ true
            → has (held_at r.next r.slots) ino ≡ false
        out ino h =
            sym (mine.owners ino)
            ∙ both_own actor other (owner_at (shared_of old) ino) ne (theirs.owners ino ∙ same_held ino ∙ h)

        book : commits_at (shown_by held (shown_call_of q) running).next ≡ true
            → (new.book ≡ old.book) × (new.holder ≡ old.holder)
        book h =
            let commits = theirs.holder ∙ ap (λ (x : machine.Running). commits_at x.next) (sym shown.shown) ∙ h in
            rest.book other (owner_is other old.holder commits) ne

  -- THE LEMMA: what another actor's step leaves
  pub rooms_stay : (d : Actor) → ShowsActor d (actor_at m other) → HasActorRooms old d.reserved d.running → HasActorRooms new d.reserved d.running
  rooms_stay d shown rooms = rooms_by d.reserved d.running (actor_at m other).running refl shown.running rooms
