use Rattle.std.proofs.Common.{◌∙◌, ◌++◌, ap, ap₂, length, refl}
use Rattle.std.specs.Prelude.{codes, decimal}
use Rattle.nv_base.specs.declared.geometry.GeometryNumbers.{GeometryNumbers}
use Rattle.nv_core.specs.Shown.{shared_of}
use Rattle.nv_machine.specs.World.{Shared, cell_at}
use Rattle.nv_script.specs.Json.{array, array_by, book_object, cell_object, list_object}
use Rattle.nv_script.specs.JsonWorld.{numbers_object, slots_with_entry, world_object}
use Rattle.nv_trace.proofs.Pushes.{labelled_piece, piece}
use Rattle.nv_trace.proofs.json_world.push_world.Goals as goal

pub returns : goal.returns
returns c m shows =
    let out = c.args.out.now.items in
    let w = c.args.world.now in
    let s = shared_of w.shared in
    let label_numbers = codes "{\"numbers\":" in
    let label_lists = codes ",\"lists\":" in
    let label_cells = codes ",\"cells\":" in
    let label_book = codes ",\"book\":" in
    let numbers = numbers_object w.shared.geometry.numbers in
    let lists = array_by list_object s.lists in
    let cells = array (λ ino. cell_object ino (cell_at s ino)) (slots_with_entry s) in
    let book = book_object s.book in
    let with_numbers = label_numbers ++ numbers in
    let with_lists = with_numbers ++ label_lists ++ lists in
    let with_pool = with_lists ++ codes ",\"pool\":" ++ decimal (length s.pool.numbers) in
    let with_cells = with_pool ++ label_cells ++ cells in
    let with_book = with_cells ++ label_book ++ book in
    let numbered = piece out c.extend_from_slice.new.self.items c.push_numbers.new.out.items label_numbers
    (numbers_object c.geometry.result.now.numbers) numbers c.in_ok-extend_from_slice.ensures.items c.in_ok-push_numbers.ensures
    (ap (λ g. numbers_object g.numbers) c.geometry.ensures) in
    let before_lists = piece out c.push_numbers.new.out.items c.extend_from_slice-2.new.self.items with_numbers label_lists label_lists numbered
    c.in_ok-extend_from_slice-2.ensures.items refl in
    let listed = piece out c.extend_from_slice-2.new.self.items c.push_all_lists.new.out.items (with_numbers ++ label_lists) lists lists
    before_lists c.in_ok-push_all_lists.ensures refl in
    let pooled = labelled_piece out c.push_all_lists.new.out.items c.push_labelled.new.out.items with_lists (codes ",\"pool\":")
    c.free_inodes.result (length s.pool.numbers) listed c.in_ok-push_labelled.ensures c.free_inodes.ensures in
    let before_cells = piece out c.push_labelled.new.out.items c.extend_from_slice-3.new.self.items with_pool label_cells label_cells pooled
    c.in_ok-extend_from_slice-3.ensures.items refl in
    let celled = piece out c.extend_from_slice-3.new.self.items c.push_all_cells.new.out.items (with_pool ++ label_cells) cells cells
    before_cells c.in_ok-push_all_cells.ensures refl in
    let before_book = piece out c.push_all_cells.new.out.items c.extend_from_slice-4.new.self.items with_cells label_book label_book celled
    c.in_ok-extend_from_slice-4.ensures.items refl in
    let booked = piece out c.extend_from_slice-4.new.self.items c.push_book.new.out.items (with_cells ++ label_book)
    (book_object c.book.result.now.state) book before_book c.in_ok-push_book.ensures (ap (λ b. book_object b.state) c.book.ensures) in
    piece out c.push_book.new.out.items c.push.new.self.items with_book (codes "}") (codes "}") booked c.in_ok-push.ensures.items refl
    ∙ ap₂ (λ (n : GeometryNumbers) (shared : Shared). out ++ world_object (record m { numbers = n; shared = shared })) shows.numbers shows.shared
