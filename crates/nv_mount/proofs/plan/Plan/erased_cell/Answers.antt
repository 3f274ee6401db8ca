use Rattle.std.proofs.Common.{◌≡◌, ◌+◌, ◌++◌, ℕ, List, ap, arith, subst, sym, ◌∙◌}
use Rattle.nv_alloc.specs.Block.{BlockValue, numbers_of}
use Rattle.nv_audit.specs.Image.{ImageValue, slot_of}
use Rattle.nv_base.specs.declared.geometry.GeometryNumbers.{GeometryNumbers}
use Rattle.nv_cell.specs.Cell.{empty_cell}
use Rattle.nv_log.specs.Chain.{ChainState, ChainValue}
use Rattle.nv_mount.specs.Build.{AreFree, AreGivenHome, CanAllGoHome}
use Rattle.nv_mount.specs.Filling.{IsErasing}
use Rattle.nv_mount.specs.View.{ViewValue}
use Rattle.nv_mount.proofs.Cutting.{pages_can, pages_given}
use Rattle.nv_mount.proofs.NextCell.{below_last, erased_free, erased_is}
use Rattle.nv_mount.proofs.plan.Plan.erased_cell.Goals as goal
use Rattle.nv_mount.proofs.plan.Plan.erased_cell.Goals.{After-into_blocks}

-- the blocks of the chain are the pages of the slot
its_pages : (c : After-into_blocks) (image : ImageValue) (view : ViewValue) (ino : ℕ) (owed : List ℕ)
    → IsErasing image view ino owed c.args.generation c.args.chain c.args.lists.now.items
    → c.args.chain.state.blocks ≡ (slot_of image ino).chain.pages
its_pages c image view ino owed er =
    ap (λ (x : ChainValue). x.state.blocks) er.chain_is ∙ ap (λ (x : ChainState). x.blocks) (er.seen.slots ino er.within).chain

free_before : (c : After-into_blocks) (image : ImageValue) (view : ViewValue) (ino : ℕ) (owed : List ℕ)
    → IsErasing image view ino owed c.args.generation c.args.chain c.args.lists.now.items
    → AreFree image ino (numbers_of (slot_of image ino).chain.pages ++ owed) c.args.lists.now.items
free_before c image view ino owed er =
    subst (λ (bs : List BlockValue). AreFree image ino (numbers_of bs ++ owed) c.args.lists.now.items) (its_pages c image view ino owed er)
    er.free

pub give_all-requires : goal.give_all-requires
give_all-requires c =
    let here = (goal.at.give_all-requires c).After-into_blocks in
    let image = c.requires.0 in
    let er = c.requires.5 in
    let all = c.into_blocks.ensures ∙ its_pages here image c.requires.1 c.requires.2 c.requires.3 er in
    subst (λ (g : GeometryNumbers). CanAllGoHome g c.into_blocks.result.items c.args.lists.now.items) (sym c.requires.4)
    (subst (λ (bs : List BlockValue). CanAllGoHome image.numbers bs c.args.lists.now.items) (sym all)
    (pages_can image er.faultless c.requires.2 er.within c.requires.3 er.apart c.args.lists.now.items
    (free_before here image c.requires.1 c.requires.2 c.requires.3 er)))

pub next-requires : goal.next-requires
next-requires c =
    let er = c.requires.5 in
    omega (
      arith,
      er.generation_is,
      (er.seen.slots c.requires.2 er.within).generation,
      below_last c.requires.0 c.requires.2 er.faultless er.within er.erased,
    )

pub returns : goal.returns
returns c image view ino owed numbers er =
    let here = (goal.at.returns c).After-into_blocks in
    let lists = c.args.lists.now.items in
    let new = c.give_all.new.lists.items in
    let all = c.into_blocks.ensures ∙ its_pages here image view ino owed er in
    let given =
    subst (λ (bs : List BlockValue). AreGivenHome image.numbers bs lists new) all
    (subst (λ (g : GeometryNumbers). AreGivenHome g c.into_blocks.result.items lists new) numbers c.give_all.ensures) in
    let next = c.next.ensures ∙ ap (λ (n : ℕ). n + 1) (er.generation_is ∙ (er.seen.slots ino er.within).generation) in (
      c.new.ensures.state
          ∙ ap (λ (g : GeometryNumbers). empty_cell g.block g.page c.next.result 0) numbers
          ∙ ap (λ (n : ℕ). empty_cell image.numbers.block image.numbers.page n 0) next
          ∙ erased_is image ino er.erased,
      erased_free image ino owed new er.erased
          (pages_given image er.faultless ino er.within owed er.apart lists new (free_before here image view ino owed er) given),
    )
