use Rattle.std.proofs.Common.{◌≡◌, ℕ, ◌∙◌, List, Result, Ok, Err, ap, inl, inr, refl}
use Rattle.std.proofs.lemmas.Result.{err_from_is_err_and}
use Rattle.nv_fuse.specs.declared.directory.ListedKind.{ListedKind}
use Rattle.nv_mount_beside.specs.Names.{number_of}
use Rattle.nv_mount_beside.specs.declared.refusal.Refusal.{Refusal}
use Rattle.nv_mounted.specs.Asks.{ask_shape}
use Rattle.nv_mounted.specs.Dialogues.{Ends}
use Rattle.nv_mounted.specs.Listings.{listed_kind}
use Rattle.nv_mounted.specs.declared.listing.Named.{Named}
use Rattle.nv_mounted.proofs.Dialogues.{goes_on, stops}
use Rattle.nv_mounted.proofs.Steps.{only_memory, told_value}
use Rattle.nv_mounted.proofs.mount.Mount.named.Goals as goal

pub returns-in_err-shape-clause-had : goal.returns-in_err-shape-clause-had
returns-in_err-shape-clause-had g c =
    let p = err_from_is_err_and c.from_residual.result c.from_residual.ensures.1 in
    rw (p.1, p.2) (
    stops g.C.Core.Tells (ask_shape c.args.bound.now.to) _ _ _ _ c.in_err-shape.ensures)

pub returns-in_err-node-clause-had : goal.returns-in_err-node-clause-had
returns-in_err-node-clause-had g c =
    let p = err_from_is_err_and c.from_residual-in_err-node.result
    c.from_residual-in_err-node.ensures.1 in
    rw (p.1, p.2) (
    goes_on g.C.Core.Tells (ask_shape c.args.bound.now.to) _ _ _ _
    c.in_ok-shape.shape _ c.in_ok-shape.ensures (
    stops g.C.Core.Tells (Ends (number_of c.args.bound.now.to)) _ _ _ _
    (c.in_err-node.ensures, refl)))

pub returns-in_err-name-clause-had : goal.returns-in_err-name-clause-had
returns-in_err-name-clause-had g c =
    let p = err_from_is_err_and c.from_residual-in_err-name.result
    c.from_residual-in_err-name.ensures.1 in
    rw (p.1, p.2) (
    goes_on g.C.Core.Tells (ask_shape c.args.bound.now.to) _ _ _ _
    c.in_ok-shape.shape _ c.in_ok-shape.ensures (
    goes_on g.C.Core.Tells (Ends (number_of c.args.bound.now.to)) _ _ _ _
    c.in_ok-node.node _ (c.in_ok-node.ensures, refl)
    (inl (ap Err (only_memory _ _ c.in_err-name.ensures), refl))))

-- a name that is told
abbrev told : ℕ → ListedKind → List ℕ → Result Named Refusal
told node kind name = Ok (record { node = node; kind = kind; name = name })

pub returns-clause-had : goal.returns-clause-had
returns-clause-had g c =
    let node = c.in_ok-node.node in
    let same : c.in_ok-name.name ≡ c.args.bound.now.name = told_value _ _ c.in_ok-name.ensures in
    let kind = c.listed_kind-kind.ensures in
    goes_on g.C.Core.Tells (ask_shape c.args.bound.now.to) _ _ _ _
    c.in_ok-shape.shape _ c.in_ok-shape.ensures (
    goes_on g.C.Core.Tells (Ends (number_of c.args.bound.now.to)) _ _ _ _
    c.in_ok-node.node _ (c.in_ok-node.ensures, refl)
    (inr (
      ap (λ (k : ListedKind). told node k c.in_ok-name.name) kind
          ∙ ap (told node (listed_kind c.in_ok-shape.shape.kind)) same,
      refl,
    )))
