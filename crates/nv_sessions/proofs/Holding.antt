-- Turns of a call that holds one slot.
use Rattle.std.proofs.Common.{◌≡◌, ◌≢◌, ◌∙◌, ℕ, ◌<◌, ◌==◌, Bool, true, List, [], ◌∷◌, Some, None, ap, arith, inl, length, refl, subst, sym, cond}
use Rattle.std.proofs.lemmas.Bool.{eq-eqb, ne_eqb}
use Rattle.nv_alloc.specs.FreeList.{FreeBlocks, IsHomeList}
use Rattle.std.specs.Prelude.{Err, Result}
use Rattle.nv_alloc.specs.declared.hand.Hand.{Hand}
use Rattle.nv_base.specs.declared.fault.Fault.{Fault}
use Rattle.nv_base.specs.declared.fault.Fault.TheVariants as fault
use Rattle.nv_base.specs.declared.fault.MismatchPart.{MismatchPart}
use Rattle.nv_base.specs.declared.fault.MismatchPart.TheVariants as part
use Rattle.nv_base.specs.declared.geometry.GeometryNumbers.{GeometryNumbers}
use Rattle.nv_calls.specs.declared.answer.Answer.{Answer}
use Rattle.nv_cell.specs.Cell.{CellState}
use Rattle.nv_machine.specs.World.{BoundAnew, Ending, HandState, Running}
use Rattle.nv_sessions.specs.Holding.{Holds, once_asked, wanting}
use Rattle.nv_sessions.specs.Misfits.{TakesMisfit}
use Rattle.nv_sessions.specs.SessionRuns.{IsBrokenOff, IsGivingRun, IsSessionRun, KeepsSome}
use Rattle.nv_sessions.specs.Sessions.{HeldValue}
use Rattle.nv_sessions.specs.Underway.{HasCome, UnlocksNext, locking}
use Rattle.nv_steps.specs.OnCell.{on_cell, once_ending, over_cell}
use Rattle.nv_steps.specs.OnList.{FreshPages, IsTaking, on_list}
use Rattle.nv_steps.specs.Parts.{CellIs, ListIs, OwnerIs}
use Rattle.nv_steps.specs.Hands.{hand_of}
use Rattle.nv_steps.specs.Runs.{IsAsLeft, IsOwn, Known, LeftAs, Leads, Unheld, Unseen, held, known_cell, left_or_found, locked, seen}
use Rattle.nv_steps.specs.Turns.{IsMove, Made}
use Rattle.nv_steps.specs.declared.lists.Taken.{Taken}
use Rattle.nv_steps.specs.declared.lists.Taken.TheVariants as taken
use Rattle.nv_steps.proofs.States.{some_state}

module _ (numbers : GeometryNumbers) (actor : ℕ) (h0 : HandState) (r0 : Running) (ino : ℕ) where
  here : (ino == ino) ≡ true
  here = eq-eqb ino ino refl

  -- the lock of a slot
  pub locks : (h : HandState) (r after : Running) → ino < numbers.inodes → HasCome numbers actor h0 r0 h r → after.slots ≡ ino ∷ []
      → IsMove numbers actor (locking actor ino h r) h after → Holds numbers actor h0 r0 ino Unseen h after
  locks h r after inside come slots moves = record {
    turns = locking actor ino h r ∷ come.turns;
    leads = (
      come.leads,
      (subst (λ (k : Known CellState). IsOwn actor k None) (sym (come.free.cells ino)) tt, tt),
      some_state numbers (OwnerIs ino None ∷ []) (tt, tt) (inside, tt),
      moves,
    );
    slots = slots;
    inside = inside;
    knows =
        ap (λ (b : Bool). locked actor (left_or_found (cond b (Some (Some actor)) None) (cond b (Some None) None)) (known_cell actor come.turns ino)) here
        ∙ ap (λ (b : Bool). cond b (held (known_cell actor come.turns ino)) Unheld) (eq-eqb actor actor refl)
        ∙ ap (λ (k : Known CellState). held k) (come.free.cells ino);
    others = λ other apart.
        ap (λ (b : Bool). locked actor (left_or_found (cond b (Some (Some actor)) None) (cond b (Some None) None)) (known_cell actor come.turns other))
        (ne_eqb ino other apart)
        ∙ come.free.cells other;
    book = come.free.book;
  }

  -- a turn over the cell, which leaves it so or as it was
  module _ (known : Known CellState) (cell : CellState) (h after : HandState) (r next : Running) (granted : Bool)
      (has : seen (Some cell) known ≡ LeftAs cell) (fits : IsAsLeft known cell) (slots : next.slots ≡ ino ∷ [])
      (holds : Holds numbers actor h0 r0 ino known h r) where
    pub reads : IsMove numbers actor (over_cell ino r h granted cell) after next
        → Holds numbers actor h0 r0 ino (LeftAs cell) after next
    reads moves = record {
      turns = over_cell ino r h granted cell ∷ holds.turns;
      leads = (
        holds.leads,
        (subst (λ (k : Known CellState). IsAsLeft k cell) (sym holds.knows) fits, tt),
        some_state numbers (CellIs ino cell ∷ []) (tt, tt) (holds.inside, tt),
        moves,
      );
      slots = slots;
      inside = holds.inside;
      knows =
          ap (λ (b : Bool). seen (cond b (Some cell) None) (known_cell actor holds.turns ino)) here
          ∙ ap (λ (k : Known CellState). seen (Some cell) k) holds.knows
          ∙ has;
      others = λ other apart.
          ap (λ (b : Bool). seen (cond b (Some cell) None) (known_cell actor holds.turns other)) (ne_eqb ino other apart)
          ∙ holds.others other apart;
      book = holds.book;
    }

    module _ (new : CellState) (leaves : seen (Some new) known ≡ LeftAs new) where
      pub changes : IsMove numbers actor (on_cell ino r h granted cell new) after next
          → Holds numbers actor h0 r0 ino (LeftAs new) after next
      changes moves = record {
        turns = on_cell ino r h granted cell new ∷ holds.turns;
        leads = (
          holds.leads,
          (subst (λ (k : Known CellState). IsAsLeft k cell) (sym holds.knows) fits, tt),
          some_state numbers (CellIs ino cell ∷ []) (tt, tt) (holds.inside, tt),
          moves,
        );
        slots = slots;
        inside = holds.inside;
        knows =
            ap (λ (b : Bool). seen (left_or_found (cond b (Some new) None) (cond b (Some cell) None)) (known_cell actor holds.turns ino)) here
            ∙ ap (λ (k : Known CellState). seen (Some new) k) holds.knows
            ∙ leaves;
        others = λ other apart.
            ap (λ (b : Bool). seen (left_or_found (cond b (Some new) None) (cond b (Some cell) None)) (known_cell actor holds.turns other))
            (ne_eqb ino other apart)
            ∙ holds.others other apart;
        book = holds.book;
      }

  -- a turn on a list
  pub asks : (known : Known CellState) (h after : HandState) (r next : Running) (cpu : ℕ) (list left : FreeBlocks) → cpu < numbers.cpus
      → IsHomeList numbers cpu list → next.slots ≡ ino ∷ [] → Holds numbers actor h0 r0 ino known h r
      → IsMove numbers actor (on_list r h cpu list left) after next → Holds numbers actor h0 r0 ino known after next
  asks known h after r next cpu list left within home slots holds moves = record {
    turns = on_list r h cpu list left ∷ holds.turns;
    leads = (
      holds.leads,
      (tt, tt),
      some_state numbers (ListIs cpu list ∷ []) (tt, tt) ((within, record { start = home.start; end = home.end }), tt),
      moves,
    );
    slots = slots;
    inside = holds.inside;
    knows = holds.knows;
    others = holds.others;
    book = holds.book;
  }

  -- a cleaner behind the asking of a list
  pub once_taken : (known : Known CellState) (h after : HandState) (r : Running) (asked wanted cpu : ℕ) (list left : FreeBlocks) (told : Taken)
      → cpu < numbers.cpus → IsHomeList numbers cpu list → Holds numbers actor h0 r0 ino known h (wanting ino asked wanted r)
      → IsTaking (FreshPages ino) asked numbers actor (on_list (wanting ino asked wanted r) h cpu list left) told after
      → Holds numbers actor h0 r0 ino known after (once_asked ino asked told r)
  once_taken known h after r asked wanted cpu list left taken.All within home holds taking =
      asks known h after (wanting ino asked wanted r) (once_asked ino asked taken.All r) cpu list left within home holds.slots holds taking
  once_taken known h after r asked wanted cpu list left (taken.Lacks more) within home holds taking =
      asks known h after (wanting ino asked wanted r) (once_asked ino asked (taken.Lacks more) r) cpu list left within home holds.slots holds taking
  once_taken known h after r asked wanted cpu list left taken.TooFew within home holds taking =
      asks known h after (wanting ino asked wanted r) (once_asked ino asked taken.TooFew r) cpu list left within home holds.slots holds
      (taking (subst (λ (slots : List ℕ). 0 < length slots) (sym holds.slots) (omega arith)))

  -- a call that is to end so
  pub unlocks : (known : Known CellState) (h : HandState) (r : Running) (ending : Ending) → ending ≢ BoundAnew
      → Holds numbers actor h0 r0 ino known h (once_ending ending r) → UnlocksNext numbers actor h0 r0 h (once_ending ending r)
  unlocks known h r ending ends holds = record {
    turns = holds.turns;
    leads = holds.leads;
    next = refl;
    ends = ends;
    ino = ino;
    slots = holds.slots;
    inside = holds.inside;
    others = holds.others;
    book = holds.book;
  }

-- what the next step of a call takes does not fit it: so a test breaks the call off
pub broken : (numbers : GeometryNumbers) (actor : ℕ) (h0 : HandState) (r0 : Running) (turns : List Made) (hand : Hand) (r : Running)
    (what : MismatchPart) → Leads numbers actor h0 r0 turns (hand_of hand) r → TakesMisfit numbers actor hand r what
    → IsBrokenOff numbers actor h0 r0 what
broken numbers actor h0 r0 turns hand r what leads misfit =
    record { turns = turns; hand = hand; running = r; leads = leads; misfit = misfit }

-- so it is refused
pub breaks_run : (numbers : GeometryNumbers) (actor : ℕ) (h0 : HandState) (r0 : Running) (h : HandState) (what : MismatchPart) (why : Fault)
    → why ≡ fault.Mismatch what → IsBrokenOff numbers actor h0 r0 what → IsSessionRun numbers actor h0 r0 (Err why) h
breaks_run numbers actor h0 r0 h what why is broken =
    subst (λ (f : Fault). IsSessionRun numbers actor h0 r0 (Err f) h) (sym is) (inl broken)

-- a call whose hand keeps some of what it gives back is refused so
pub keeps : (numbers : GeometryNumbers) (actor : ℕ) (r0 : Running) (held : HeldValue) (result : Result Answer Fault) (why : Fault)
    → result ≡ Err why → why ≡ fault.Mismatch part.Lists → KeepsSome held → IsGivingRun numbers actor r0 held result
keeps numbers actor r0 held result why told is kept = inl (kept, told ∙ ap (λ (f : Fault). Err f) is)

-- a call that starts
pub begins : (numbers : GeometryNumbers) (actor : ℕ) (h0 : HandState) (r0 : Running) → HasCome numbers actor h0 r0 h0 r0
begins numbers actor h0 r0 = record { turns = []; leads = (refl, refl); free = record { cells = λ ino. refl; book = refl } }
