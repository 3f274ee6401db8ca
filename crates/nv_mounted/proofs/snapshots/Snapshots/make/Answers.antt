use Rattle.std.proofs.Common.{◌≡◌, ◌∙◌, ℕ, ap, false, inl, inr, is_ok, length, refl, sym}
use Rattle.std.proofs.lemmas.Result.{err_from_is_err_and}
use Rattle.nv_mount_beside.specs.Names.{checked_name}
use Rattle.nv_mounted.specs.Dialogues.{Dialogue, Ends, Grows, and_then, undoing}
use Rattle.nv_mounted.specs.KeptTrees.{ask_kept_tree}
use Rattle.nv_mounted.specs.Snapshots.{ask_snapshot, attributes_in, drop_epoch, node_at, number_in, place_named}
use Rattle.nv_mounted.specs.declared.kept_tree.KeptTree.{KeptTree}
use Rattle.nv_mounted.proofs.Dialogues.{goes_on, grown, stops}
use Rattle.nv_mounted.proofs.Steps.{second_of_two}
use Rattle.nv_mounted.proofs.snapshots.Snapshots.make.Goals as goal

pub returns-in_err-name-clause-had : goal.returns-in_err-name-clause-had
returns-in_err-name-clause-had g c =
    let p = err_from_is_err_and c.from_residual.result c.from_residual.ensures.1 in
    let taken = is_ok (place_named c.args.file.now c.args.self.now) in
    let no : taken ≡ false = sym c.has.ensures ∙ c.if-has.false in
    rw (p.1, p.2) (
    second_of_two g.C.Core.Tells taken _ _ _ _ _ no (
    stops g.C.Core.Tells (Grows (Ends (checked_name c.args.file.now))) _ _ _ _
    (grown g.C.Core.Tells _ _ _ c.in_err-name.ensures)))

pub returns-in_err-number-clause-had : goal.returns-in_err-number-clause-had
returns-in_err-number-clause-had g c =
    let p = err_from_is_err_and c.from_residual-in_err-number.result
    c.from_residual-in_err-number.ensures.1 in
    let taken = is_ok (place_named c.args.file.now c.args.self.now) in
    let no : taken ≡ false = sym c.has.ensures ∙ c.if-has.false in
    let places = length c.args.self.now in
    rw (p.1, p.2) (
    second_of_two g.C.Core.Tells taken _ _ _ _ _ no (
    goes_on g.C.Core.Tells (Grows (Ends (checked_name c.args.file.now))) _ _ _ _
    c.in_ok-name.name _ (grown g.C.Core.Tells _ _ _ c.in_ok-name.ensures) (
    stops g.C.Core.Tells (Ends (number_in places 0)) _ _ _ _
    (c.in_err-number.ensures ∙ ap (λ n. number_in n 0) c.count-at.ensures, refl))))

pub returns-in_err-reserve-clause-had : goal.returns-in_err-reserve-clause-had
returns-in_err-reserve-clause-had g c =
    let p = err_from_is_err_and c.from_residual-in_err-reserve.result
    c.from_residual-in_err-reserve.ensures.1 in
    let taken = is_ok (place_named c.args.file.now c.args.self.now) in
    let no : taken ≡ false = sym c.has.ensures ∙ c.if-has.false in
    let places = length c.args.self.now in
    rw (p.1, p.2) (
    second_of_two g.C.Core.Tells taken _ _ _ _ _ no (
    goes_on g.C.Core.Tells (Grows (Ends (checked_name c.args.file.now))) _ _ _ _
    c.in_ok-name.name _ (grown g.C.Core.Tells _ _ _ c.in_ok-name.ensures) (
    goes_on g.C.Core.Tells (Ends (number_in places 0)) _ _ _ _ c.in_ok-number.number _
    (c.in_ok-number.ensures ∙ ap (λ n. number_in n 0) c.count-at.ensures, refl) (
    stops g.C.Core.Tells (Grows ask_snapshot) _ _ _ _ (inl (refl, refl))))))

pub returns-in_err-epoch-clause-had : goal.returns-in_err-epoch-clause-had
returns-in_err-epoch-clause-had g c =
    let p = err_from_is_err_and c.from_residual-in_err-epoch.result
    c.from_residual-in_err-epoch.ensures.1 in
    let taken = is_ok (place_named c.args.file.now c.args.self.now) in
    let no : taken ≡ false = sym c.has.ensures ∙ c.if-has.false in
    let places = length c.args.self.now in
    rw (p.1, p.2) (
    second_of_two g.C.Core.Tells taken _ _ _ _ _ no (
    goes_on g.C.Core.Tells (Grows (Ends (checked_name c.args.file.now))) _ _ _ _
    c.in_ok-name.name _ (grown g.C.Core.Tells _ _ _ c.in_ok-name.ensures) (
    goes_on g.C.Core.Tells (Ends (number_in places 0)) _ _ _ _ c.in_ok-number.number _
    (c.in_ok-number.ensures ∙ ap (λ n. number_in n 0) c.count-at.ensures, refl) (
    stops g.C.Core.Tells (Grows ask_snapshot) _ _ _ _ (inr c.in_err-epoch.ensures)))))

pub returns-in_err-all-clause-had : goal.returns-in_err-all-clause-had
returns-in_err-all-clause-had g c =
    let p = err_from_is_err_and c.from_residual-in_err-all.result
    c.from_residual-in_err-all.ensures.1 in
    let kept : ℕ → Dialogue KeptTree = λ epoch. undoing (drop_epoch epoch) (ask_kept_tree c.args.nodes.now epoch) in
    let taken = is_ok (place_named c.args.file.now c.args.self.now) in
    let no : taken ≡ false = sym c.has.ensures ∙ c.if-has.false in
    let places = length c.args.self.now in
    rw (p.1, p.2) (
    second_of_two g.C.Core.Tells taken _ _ _ _ _ no (
    goes_on g.C.Core.Tells (Grows (Ends (checked_name c.args.file.now))) _ _ _ _
    c.in_ok-name.name _ (grown g.C.Core.Tells _ _ _ c.in_ok-name.ensures) (
    goes_on g.C.Core.Tells (Ends (number_in places 0)) _ _ _ _ c.in_ok-number.number _
    (c.in_ok-number.ensures ∙ ap (λ n. number_in n 0) c.count-at.ensures, refl) (
    goes_on g.C.Core.Tells (Grows ask_snapshot) _ _ _ _ c.in_ok-epoch.epoch _
    (inr c.in_ok-epoch.ensures) (
    stops g.C.Core.Tells (kept c.in_ok-epoch.epoch) _ _ _ _ c.in_err-all.ensures)))))

pub returns-in_err-root-clause-had : goal.returns-in_err-root-clause-had
returns-in_err-root-clause-had g c =
    let p = err_from_is_err_and c.from_residual-in_err-root.result
    c.from_residual-in_err-root.ensures.1 in
    let kept : ℕ → Dialogue KeptTree = λ epoch. undoing (drop_epoch epoch) (ask_kept_tree c.args.nodes.now epoch) in
    let taken = is_ok (place_named c.args.file.now c.args.self.now) in
    let no : taken ≡ false = sym c.has.ensures ∙ c.if-has.false in
    let places = length c.args.self.now in
    let all = c.in_ok-all.all in
    let number = c.in_ok-number.number in
    let missing = c.in_err-root.ensures ∙ ap (λ n. node_at n 0 all) c.count-at.ensures in
    rw (p.1, p.2) (
    second_of_two g.C.Core.Tells taken _ _ _ _ _ no (
    goes_on g.C.Core.Tells (Grows (Ends (checked_name c.args.file.now))) _ _ _ _
    c.in_ok-name.name _ (grown g.C.Core.Tells _ _ _ c.in_ok-name.ensures) (
    goes_on g.C.Core.Tells (Ends (number_in places 0)) _ _ _ _ c.in_ok-number.number _
    (c.in_ok-number.ensures ∙ ap (λ n. number_in n 0) c.count-at.ensures, refl) (
    goes_on g.C.Core.Tells (Grows ask_snapshot) _ _ _ _ c.in_ok-epoch.epoch _
    (inr c.in_ok-epoch.ensures) (
    goes_on g.C.Core.Tells (kept c.in_ok-epoch.epoch) _ _ _ _ c.in_ok-all.all _
    c.in_ok-all.ensures (
    stops g.C.Core.Tells
    (Ends (and_then (node_at places 0 all) (attributes_in number))) _ _ _ _
    (ap (λ n. and_then n (attributes_in number)) missing, refl)))))))

pub returns-in_err-attributes-clause-had : goal.returns-in_err-attributes-clause-had
returns-in_err-attributes-clause-had g c =
    let p = err_from_is_err_and c.from_residual-in_err-attributes.result
    c.from_residual-in_err-attributes.ensures.1 in
    let kept : ℕ → Dialogue KeptTree = λ epoch. undoing (drop_epoch epoch) (ask_kept_tree c.args.nodes.now epoch) in
    let taken = is_ok (place_named c.args.file.now c.args.self.now) in
    let no : taken ≡ false = sym c.has.ensures ∙ c.if-has.false in
    let places = length c.args.self.now in
    let all = c.in_ok-all.all in
    let number = c.in_ok-number.number in
    let found = c.in_ok-root.ensures ∙ ap (λ n. node_at n 0 all) c.count-at.ensures in
    rw (p.1, p.2) (
    second_of_two g.C.Core.Tells taken _ _ _ _ _ no (
    goes_on g.C.Core.Tells (Grows (Ends (checked_name c.args.file.now))) _ _ _ _
    c.in_ok-name.name _ (grown g.C.Core.Tells _ _ _ c.in_ok-name.ensures) (
    goes_on g.C.Core.Tells (Ends (number_in places 0)) _ _ _ _ c.in_ok-number.number _
    (c.in_ok-number.ensures ∙ ap (λ n. number_in n 0) c.count-at.ensures, refl) (
    goes_on g.C.Core.Tells (Grows ask_snapshot) _ _ _ _ c.in_ok-epoch.epoch _
    (inr c.in_ok-epoch.ensures) (
    goes_on g.C.Core.Tells (kept c.in_ok-epoch.epoch) _ _ _ _ c.in_ok-all.all _
    c.in_ok-all.ensures (
    stops g.C.Core.Tells
    (Ends (and_then (node_at places 0 all) (attributes_in number))) _ _ _ _ (
      c.in_err-attributes.ensures ∙ ap (λ n. and_then n (attributes_in number)) found,
      refl,
    )))))))

pub returns-clause-had : goal.returns-clause-had
returns-clause-had g c =
    let kept : ℕ → Dialogue KeptTree = λ epoch. undoing (drop_epoch epoch) (ask_kept_tree c.args.nodes.now epoch) in
    let taken = is_ok (place_named c.args.file.now c.args.self.now) in
    let no : taken ≡ false = sym c.has.ensures ∙ c.if-has.false in
    let places = length c.args.self.now in
    let all = c.in_ok-all.all in
    let number = c.in_ok-number.number in
    let found = c.in_ok-root.ensures ∙ ap (λ n. node_at n 0 all) c.count-at.ensures in
    let pushed = c.in_ok-push.ensures.items in
    let reserved = c.in_ok-reserve.ensures.items in
    let before = c.self.view_is in
    second_of_two g.C.Core.Tells taken _ _ _ _ _ no (
    goes_on g.C.Core.Tells (Grows (Ends (checked_name c.args.file.now))) _ _ _ _
    c.in_ok-name.name _ (grown g.C.Core.Tells _ _ _ c.in_ok-name.ensures) (
    goes_on g.C.Core.Tells (Ends (number_in places 0)) _ _ _ _ c.in_ok-number.number _
    (c.in_ok-number.ensures ∙ ap (λ n. number_in n 0) c.count-at.ensures, refl) (
    goes_on g.C.Core.Tells (Grows ask_snapshot) _ _ _ _ c.in_ok-epoch.epoch _
    (inr c.in_ok-epoch.ensures) (
    goes_on g.C.Core.Tells (kept c.in_ok-epoch.epoch) _ _ _ _ c.in_ok-all.all _
    c.in_ok-all.ensures (
    goes_on g.C.Core.Tells
    (Ends (and_then (node_at places 0 all) (attributes_in number))) _ _ _ _
    c.in_ok-attributes.attributes _ (
      c.in_ok-attributes.ensures ∙ ap (λ n. and_then n (attributes_in number)) found,
      refl,
    )
    ((cc), refl))))))
