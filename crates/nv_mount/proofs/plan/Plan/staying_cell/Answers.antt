use Rattle.std.proofs.Common.{◌≡◌, ◌++◌, ℕ, List, ap, drop, length, reverse, sym, take, ◌∙◌}
use Rattle.nv_alloc.specs.Block.{numbers_of}
use Rattle.nv_alloc.specs.Queue.{QueueValue}
use Rattle.nv_audit.specs.Image.{ImageValue, slot_of}
use Rattle.nv_audit.specs.Mounted.{tail_of}
use Rattle.nv_cell.proofs.MarksAnew.{len_anew}
use Rattle.nv_entry.specs.Covered.{part_total}
use Rattle.nv_log.specs.Image.{cut_ends, pages_past}
use Rattle.nv_mount.specs.Build.{AreFree}
use Rattle.nv_mount.specs.Filling.{IsStaying}
use Rattle.nv_mount.specs.View.{ViewValue}
use Rattle.nv_mount.specs.declared.plan.Plan.{Plan}
use Rattle.nv_mount.proofs.NextCell.{queue_back}
use Rattle.nv_mount.proofs.Staying.{all_count, can_go, cell_made, entries_are, few, fits, free_after, free_between, is_filled, is_plan, queued, sized_kept, sized_past, wanted_once}
use Rattle.nv_mount.proofs.plan.Plan.staying_cell.Goals as goal
use Rattle.nv_mount.proofs.plan.Plan.staying_cell.Goals.{After-cut, After-give_queue}

pub cut-requires-clause-within : goal.cut-requires-clause-within
cut-requires-clause-within c = few _ _ _ _ _ _ _ _ _ _ c.requires.5

pub cut-requires-clause-sized : goal.cut-requires-clause-sized
cut-requires-clause-sized c = sized_past _ _ _ _ _ _ _ _ _ _ c.requires.5

-- the pages that the cut gave away
given_away : (c : After-cut) (image : ImageValue) (view : ViewValue) (ino : ℕ) (owed : List ℕ)
    → IsStaying image view ino owed c.args.self.now.pages c.args.generation c.args.tail c.args.chain c.args.plan c.args.lists.now.items
    → c.cut.new.free.blocks
    ≡ reverse (drop (length (cut_ends (tail_of image ino) (slot_of image ino).chain.ends)) (slot_of image ino).chain.pages)
given_away c image view ino owed st = queued image view ino owed _ _ _ _ _ _ st c.cut.new.free c.cut.ensures.free

pub give_queue-requires : goal.give_queue-requires
give_queue-requires c =
    let here = (goal.at.give_queue-requires c).After-cut in
    let st = c.requires.5 in
    can_go _ _ _ _ _ _ _ _ _ _ st c.args.self.now.geometry.numbers c.requires.4 c.cut.new.free.blocks
    (given_away here c.requires.0 c.requires.1 c.requires.2 c.requires.3 st)

-- what is free once these are at home
free_now : (c : After-give_queue) (image : ImageValue) (view : ViewValue) (ino : ℕ) (owed : List ℕ)
    → c.args.self.now.geometry.numbers ≡ image.numbers
    → IsStaying image view ino owed c.args.self.now.pages c.args.generation c.args.tail c.args.chain c.args.plan c.args.lists.now.items
    → AreFree image ino
    (numbers_of (take (length (cut_ends (tail_of image ino) (slot_of image ino).chain.ends)) (slot_of image ino).chain.pages) ++ owed)
    c.give_queue.new.lists.items
free_now c image view ino owed numbers st =
    free_between image view ino owed _ _ _ _ _ _ st c.args.self.now.geometry.numbers numbers c.cut.new.free.blocks
    (queued image view ino owed _ _ _ _ _ _ st c.cut.new.free c.cut.ensures.free) c.give_queue.new.lists.items c.give_queue.ensures.given

pub fill-requires-clause-known : goal.fill-requires-clause-known
fill-requires-clause-known c =
    let image = c.requires.0 in
    let st = c.requires.5 in
    let es = entries_are _ _ _ _ _ _ _ _ _ _ st c.cut.new.self c.cut.ensures.state c.args.self.now.geometry.numbers c.requires.4 in
    ap length st.planned.planned.marks ∙ len_anew image.snapshots image.numbers.block _ ∙ sym (ap part_total es)

pub fill-requires-clause-once : goal.fill-requires-clause-once
fill-requires-clause-once c =
    wanted_once _ _ _ _ _ _ _ _ _ _ c.requires.5 c.cut.new.self c.cut.ensures.state c.args.self.now.geometry.numbers c.requires.4

pub rebuild-requires-clause-whole : goal.rebuild-requires-clause-whole
rebuild-requires-clause-whole c =
    all_count _ _ _ _ _ _ _ _ _ _ c.requires.5 c.cut.new.self c.cut.ensures.state c.args.self.now.geometry.numbers c.requires.4

pub rebuild-requires-clause-pages : goal.rebuild-requires-clause-pages
rebuild-requires-clause-pages c =
    sized_kept _ _ _ _ _ _ _ _ _ _ c.requires.5 c.cut.new.self c.cut.ensures.state c.args.self.now.geometry.numbers c.requires.4

pub rebuild-requires-clause-plan : goal.rebuild-requires-clause-plan
rebuild-requires-clause-plan c =
    let image = c.requires.0 in
    let g = c.args.self.now.geometry.numbers in
    let st = c.requires.5 in
    let free = free_now (goal.at.rebuild-requires-clause-plan c).After-give_queue image c.requires.1 c.requires.2 c.requires.3 c.requires.4 st in (
      image.snapshots,
      (slot_of image c.requires.2).blocks,
      is_plan _ _ _ _ _ _ _ _ _ _ st c.cut.new.self c.cut.ensures.state g c.requires.4 c.cut.ensures.spare c.fill.new.self c.fill.ensures.index
          c.fill.ensures.marks,
      is_filled _ _ _ _ _ _ _ _ _ _ st c.cut.new.self c.cut.ensures.state g c.requires.4 c.cut.ensures.spare c.fill.new.self
          c.fill.ensures.index c.fill.ensures.marks c.give_queue.new.lists.items free c.fill.ensures.blocks,
    )

pub returns-clause-made : goal.returns-clause-made
returns-clause-made c image view ino owed numbers st =
    let g = c.args.self.now.geometry.numbers in
    let free = free_now (goal.at.returns-clause-made c).After-give_queue image view ino owed numbers st in
    let planned =
    is_plan image view ino owed _ _ _ _ _ _ st c.cut.new.self c.cut.ensures.state g numbers c.cut.ensures.spare c.fill.new.self
    c.fill.ensures.index c.fill.ensures.marks in
    let filled =
    is_filled image view ino owed _ _ _ _ _ _ st c.cut.new.self c.cut.ensures.state g numbers c.cut.ensures.spare c.fill.new.self
    c.fill.ensures.index c.fill.ensures.marks c.give_queue.new.lists.items free c.fill.ensures.blocks in (
      cell_made image view ino owed _ _ _ _ _ _ st c.cut.new.self c.cut.ensures.state g numbers c.rebuild.result.state
          (c.rebuild.ensures.state image.snapshots (slot_of image ino).blocks planned filled),
      free_after image view ino owed _ _ _ _ _ _ st c.cut.new.self c.cut.ensures.state g numbers c.give_queue.new.lists.items
          c.fill.new.lists.items free c.fill.ensures.lists,
    )

pub returns-clause-rest : goal.returns-clause-rest
returns-clause-rest c =
    let st = c.requires.5 in
    let past = pages_past c.args.tail c.args.chain.state in
    let back = queue_back c.args.self.now.pages c.cut.new.free c.give_queue.new.blocks past st.none (fits _ _ _ _ _ _ _ _ _ _ st)
    c.cut.ensures.free c.give_queue.ensures.none in
    ap (λ (q : QueueValue). let p : Plan = record c.args.self.now { pages = q } in p) back
