use Rattle.std.proofs.Common.{◌∙◌, ap}
use Rattle.nv_nindex.specs.NameIndex.{Names, binding_of}
use Rattle.nv_nindex.proofs.Shown.{lookup_shown}
use Rattle.nv_nindex.proofs.bound_names.BoundNames.get.Goals as goal

pub returns : goal.returns
returns c =
    c.copied.ensures ∙ c.get.ensures.value ∙ lookup_shown c.args.name.now c.self.inside.bindings.entries
    ∙ ap (λ (v : Names). binding_of c.args.name.now v.names) c.self.view_is
