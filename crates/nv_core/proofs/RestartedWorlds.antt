-- The world that goes on once the machine has stopped, of its parts.
use Rattle.std.proofs.Common.{◌≡◌, ◌∙◌, ℕ, zero, suc, ◌+◌, ◌<◌, ◌++◌, List, [], ◌∷◌, None, ap, arith, drop, length, refl, replicate, subst, sym}
use Rattle.std.specs.Prelude.{slice_index_or, slice_set}
use Rattle.std.proofs.lemmas.List.{drop-drop, length-drop, length-replicate}
use Rattle.nv_audit.specs.Image.{ImageValue}
use Rattle.nv_audit.specs.Mounted.{book_anew, cells_of, lists_anew, pool_anew, records_anew}
use Rattle.nv_audit.specs.Records.{states_of}
use Rattle.nv_base.specs.declared.geometry.Geometry.{Geometry}
use Rattle.nv_base.specs.declared.geometry.GeometryNumbers.{GeometryNumbers}
use Rattle.nv_book.specs.Book.{BookValue}
use Rattle.nv_machine.specs.Starts.{IsStart}
use Rattle.nv_machine.specs.World as machine
use Rattle.nv_machine.specs.World.{idle}
use Rattle.nv_mount.proofs.ListsAnew.{lists_free}
use Rattle.nv_mount.specs.Mount.{IsBuilt}
use Rattle.nv_mount.specs.declared.plan.Plan.{Plan}
use Rattle.nv_mount.specs.declared.plan.SlotPlan.{SlotPlan}
use Rattle.nv_restart.specs.Mounted.{mounted}
use Rattle.nv_restart.specs.Stops.{MayStop}
use Rattle.nv_core.proofs.Formats.{each_shown, idle_at}
use Rattle.nv_core.proofs.StoppedWorlds.{world_actors, world_may_stop, world_starts}
use Rattle.nv_core.specs.Formats.{empty_of, idle_actor}
use Rattle.nv_core.specs.Restarts.{image_by}
use Rattle.nv_core.specs.Rooms.{IsHandOf}
use Rattle.nv_core.specs.Shown.{shared_of}
use Rattle.nv_core.specs.Worlds.{EventRun, IsWorld, IsWorldAfter, WorldState}
use Rattle.nv_core.specs.declared.shared.Shared as code
use Rattle.nv_core.specs.declared.world.Actor.{Actor}

-- ---- items of a list that become one item, one after another

-- the next item is in the midst of those that have become it and of those that have not yet
pub next_item : {X : Type 0} (xs all : List X) (k : ℕ) (i x : X) → xs ≡ replicate k i ++ drop k all → x ≡ slice_index_or xs k x
    → k < length all → drop k all ≡ x ∷ drop (k + 1) all
next_item {X} xs all k i x are at lt =
    begins (drop k all) (at ∙ ap (λ (ys : List X). slice_index_or ys k x) are ∙ behind k (drop k all)) some
    ∙ ap (λ (ys : List X). x ∷ ys) (drop-drop 1 k all) where
      behind : (n : ℕ) (ys : List X) → slice_index_or (replicate n i ++ ys) n x ≡ slice_index_or ys 0 x
      behind zero ys = refl
      behind (suc n) ys = behind n ys

      some : 0 < length (drop k all)
      some = omega (arith, lt, length-drop k all)

      begins : (ys : List X) → x ≡ slice_index_or ys 0 x → 0 < length ys → ys ≡ x ∷ drop 1 ys
      begins [] is none = absurd (omega (arith, none))
      begins (y ∷ ys) is none = ap (λ (z : X). z ∷ ys) (sym is)

-- it becomes it too
pub same_more : {X : Type 0} (k : ℕ) (i x : X) (rest : List X) → slice_set (replicate k i ++ x ∷ rest) k i ≡ replicate (k + 1) i ++ rest
same_more zero i x rest = refl
same_more {X} (suc k) i x rest =
    let next : suc (k + 1) ≡ suc k + 1 = omega arith in
    ap (λ (xs : List X). i ∷ xs) (same_more k i x rest) ∙ ap (λ (n : ℕ). replicate n i ++ rest) next

-- ---- what is shared

pub no_slots : (slots : List SlotPlan) (n : ℕ) → n + length slots ≡ n → slots ≡ []
no_slots [] n same = refl
no_slots (s ∷ slots) n same = absurd (omega (arith, same))

pub shared_rebuilt : (old new : code.Shared) (plan : Plan) → IsBuilt (image_by old) plan new.lists.items
    → new.pool ≡ plan.pool → new.cells.items ≡ plan.cells.items → new.book ≡ plan.book
    → new.owners.items ≡ replicate old.geometry.numbers.inodes None → new.holder ≡ None
    → shared_of new ≡ (mounted (image_by old)).shared
shared_rebuilt old new plan built pool cells book owners holder =
    shared_made (shared_of new) (lists_free image new.lists.items built.free) (pool ∙ built.planned.pool) (ap states_of cells ∙ built.planned.cells) owners
    (ap (λ (b : BookValue). b.state) book ∙ built.planned.book) holder where
      image : ImageValue
      image = image_by old

      shared_made : (s : machine.Shared) → s.lists ≡ lists_anew image → s.pool ≡ pool_anew image → s.cells ≡ cells_of image
          → s.owners ≡ replicate image.numbers.inodes None → s.book ≡ book_anew image → s.holder ≡ None → s ≡ (mounted image).shared
      shared_made s lists pool cells owners book holder =
          let same : record { lists = s.lists; pool = s.pool; cells = s.cells; owners = s.owners; book = s.book; holder = s.holder }
          ≡ (mounted image).shared = rw (lists, pool, cells, owners, book, holder) refl in
          same

-- ---- THE WORLD THAT GOES ON

-- the run of a world that has stopped and goes on
abbrev pub stop_run : ImageValue → EventRun
stop_run image = record { start = mounted image; records = records_anew image; events = [] }

pub world_goes_on : (w : WorldState) (is : IsWorld w) (s : code.Shared) (actors : List Actor)
    → s.geometry ≡ w.shared.geometry → shared_of s ≡ (mounted (image_by w.shared)).shared
    → actors ≡ replicate (length w.actors) (idle_actor w.shared.geometry.numbers)
    → IsWorldAfter (record { shared = s; actors = actors }) (mounted (image_by w.shared)) (stop_run (image_by w.shared))
world_goes_on w is s actors device shared idles =
    let g = w.shared.geometry.numbers in
    let numbers : s.geometry.numbers ≡ g = ap (λ (d : Geometry). d.numbers) device in
    let all : actors ≡ replicate g.actors (idle_actor g) = idles ∙ ap (λ (n : ℕ). replicate n (idle_actor g)) (world_actors w is) in
    let block : g.block ≡ s.geometry.numbers.block = sym (ap (λ (n : GeometryNumbers). n.block) numbers) in
    let hand : IsHandOf s.geometry.numbers (empty_of g) = record { blocks = block; pages = block } in
    let count : length (replicate g.actors (idle_actor g)) ≡ length (mounted (image_by w.shared)).actors =
    length-replicate g.actors (idle_actor g) ∙ sym (length-replicate g.actors idle) in
    record {
      is_start =
          subst (λ (n : GeometryNumbers). IsStart n (mounted (image_by w.shared)) (records_anew (image_by w.shared))) (sym numbers)
          (world_starts w is);
      reached = refl;
      may = subst (λ (n : GeometryNumbers). MayStop n.block (mounted (image_by w.shared)).shared) (sym numbers) (world_may_stop w is);
      shows = record { numbers = numbers; shared = shared; count = rw all count; each = rw all (each_shown g) };
      rooms = rw all (λ k d inside. rw (idle_at g g.actors k d inside) hand);
    }
