use Rattle.std.proofs.Common.{◌≡◌, ◌∙◌, false, refl, sym, true}
use Rattle.std.proofs.lemmas.Result.{err_from_is_err_and}
use Rattle.nv_mount_beside.specs.Names.{node_named}
use Rattle.nv_mounted.specs.Dialogues.{Ends}
use Rattle.nv_mounted.specs.Entries.{is_hidden, is_snapshots}
use Rattle.nv_mounted.specs.Snapshots.{snapshots_attributes}
use Rattle.nv_mounted.proofs.Dialogues.{goes_on, stops}
use Rattle.nv_mounted.proofs.Steps.{first_of_two, second_of_two}
use Rattle.nv_mounted.proofs.mount.Mount.lookup.Goals as goal

pub returns-in_err-dir-clause-had : goal.returns-in_err-dir-clause-had
returns-in_err-dir-clause-had g c =
    let p = err_from_is_err_and c.from_residual.result c.from_residual.ensures.1 in
    rw (p.1, p.2) (
    stops g.C.Core.Tells (Ends (node_named c.args.dir)) _ _ _ _ (c.in_err-dir.ensures, refl))

pub returns-in_err-attributes-clause-had : goal.returns-in_err-attributes-clause-had
returns-in_err-attributes-clause-had g c =
    let p = err_from_is_err_and c.from_residual-in_err-attributes.result
    c.from_residual-in_err-attributes.ensures.1 in
    let is : is_snapshots c.in_ok-dir.dir c.args.name.now ≡ true =
    sym c.is_snapshots.ensures ∙ c.if-is_snapshots.true in
    rw (p.1, p.2) (
    goes_on g.C.Core.Tells (Ends (node_named c.args.dir)) _ _ _ _
    c.in_ok-dir.dir _ (c.in_ok-dir.ensures, refl) (
    first_of_two g.C.Core.Tells (is_snapshots c.in_ok-dir.dir c.args.name.now) _ _ _ _ _ is (
    stops g.C.Core.Tells (Ends (snapshots_attributes c.args.self.now.side)) _ _ _ _
    (c.in_err-attributes.ensures, refl))))

pub returns-then-is_snapshots-clause-had : goal.returns-then-is_snapshots-clause-had
returns-then-is_snapshots-clause-had g c =
    let is : is_snapshots c.in_ok-dir.dir c.args.name.now ≡ true =
    sym c.is_snapshots.ensures ∙ c.if-is_snapshots.true in
    goes_on g.C.Core.Tells (Ends (node_named c.args.dir)) _ _ _ _
    c.in_ok-dir.dir _ (c.in_ok-dir.ensures, refl) (
    first_of_two g.C.Core.Tells (is_snapshots c.in_ok-dir.dir c.args.name.now) _ _ _ _ _ is (
    goes_on g.C.Core.Tells (Ends (snapshots_attributes c.args.self.now.side)) _ _ _ _
    c.in_ok-attributes.attributes _ (c.in_ok-attributes.ensures, refl)
    ((cc), refl)))

pub returns-then-is_hidden-clause-had : goal.returns-then-is_hidden-clause-had
returns-then-is_hidden-clause-had g c =
    let other : is_snapshots c.in_ok-dir.dir c.args.name.now ≡ false =
    sym c.is_snapshots.ensures ∙ c.if-is_snapshots.false in
    let is : is_hidden c.in_ok-dir.dir c.args.name.now ≡ true =
    sym c.is_hidden.ensures ∙ c.if-is_hidden.true in
    goes_on g.C.Core.Tells (Ends (node_named c.args.dir)) _ _ _ _
    c.in_ok-dir.dir _ (c.in_ok-dir.ensures, refl) (
    second_of_two g.C.Core.Tells (is_snapshots c.in_ok-dir.dir c.args.name.now) _ _ _ _ _ other (
    first_of_two g.C.Core.Tells (is_hidden c.in_ok-dir.dir c.args.name.now) _ _ _ _ _ is
    (refl, refl)))

pub returns-clause-had : goal.returns-clause-had
returns-clause-had g c =
    let other : is_snapshots c.in_ok-dir.dir c.args.name.now ≡ false =
    sym c.is_snapshots.ensures ∙ c.if-is_snapshots.false in
    let shown : is_hidden c.in_ok-dir.dir c.args.name.now ≡ false =
    sym c.is_hidden.ensures ∙ c.if-is_hidden.false in
    goes_on g.C.Core.Tells (Ends (node_named c.args.dir)) _ _ _ _
    c.in_ok-dir.dir _ (c.in_ok-dir.ensures, refl) (
    second_of_two g.C.Core.Tells (is_snapshots c.in_ok-dir.dir c.args.name.now) _ _ _ _ _ other (
    second_of_two g.C.Core.Tells (is_hidden c.in_ok-dir.dir c.args.name.now) _ _ _ _ _ shown
    c.lookup_name.ensures.had))
