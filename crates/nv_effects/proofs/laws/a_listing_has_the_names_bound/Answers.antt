use Rattle.nv_effects.proofs.Visits.{list_told}
use Rattle.nv_effects.proofs.laws.a_listing_has_the_names_bound.Goals as goal

pub returns : goal.returns
returns c = list_told
