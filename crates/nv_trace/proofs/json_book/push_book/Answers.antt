use Rattle.std.proofs.Common.{◌≡◌, ◌∙◌, ℕ, List, ◌++◌, ap, refl}
use Rattle.std.specs.Prelude.{codes}
use Rattle.nv_book.specs.declared.record.Record.{Record}
use Rattle.nv_script.specs.Json.{array, book_head, book_lists, record_object}
use Rattle.nv_trace.proofs.Pushes.{piece}
use Rattle.nv_trace.proofs.json_book.push_book.Goals as goal

pub returns : goal.returns
returns c =
    let out = c.args.out.now.items in
    let b = c.args.book.now.state in
    let head = book_head b.snaps.epoch b.commit in
    let lists = book_lists b in
    let label = codes ",\"deferred\":" in
    let past_head = c.push_book_head.new.out.items in
    let past_lists = c.push_book_lists.new.out.items in
    let past_label = c.extend_from_slice.new.self.items in
    let past_records = c.push_records.new.out.items in
    let numbers : book_head c.epoch.result c.commit.result ≡ head =
    ap (λ (epoch : ℕ). book_head epoch c.commit.result) c.epoch.ensures ∙ ap (λ (commit : ℕ). book_head b.snaps.epoch commit)
    c.commit.ensures.value in
    let headed : past_head ≡ out ++ head = c.in_ok-push_book_head.ensures ∙ ap (λ (bytes : List ℕ). out ++ bytes) numbers in
    let listed = piece out past_head past_lists head lists lists headed c.in_ok-push_book_lists.ensures refl in
    let labelled = piece out past_lists past_label (head ++ lists) label label listed c.in_ok-extend_from_slice.ensures.items refl in
    let deferred = array record_object b.deferred in
    let told = piece out past_label past_records (head ++ lists ++ label) (array record_object c.deferred.result.now) deferred labelled
    c.in_ok-push_records.ensures (ap (λ (records : List Record). array record_object records) c.deferred.ensures.deferred) in
    piece out past_records c.push.new.self.items (head ++ lists ++ label ++ deferred) (codes "}") (codes "}") told
    c.in_ok-push.ensures.items refl
