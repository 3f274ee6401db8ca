use Rattle.std.proofs.Common.{◌≡◌, ◌∙◌, ap, map, rules, ℕ}
use Rattle.nv_service.specs.Sessions.{SessionValue}
use Rattle.nv_work.proofs.Crews.{kept_each, put_back}
use Rattle.nv_work.proofs.crew.clean_in_threads.Goals as goal

pub returns : goal.returns
returns g c =
    let by : SessionValue → ℕ = λ s. s.number in
    let was = c.as_mut_slice.ensures.value in
    let kept = kept_each _ _ by c.as_mut_slice.result.now c.for_each_mut.new.s (search rules) (λ i p q met. search rules) c.for_each_mut.ensures in
    put_back by _ c.for_each_mut.new.s c.args.cleaners.items (kept ∙ ap (map by) was) c.args.cleaners.ok.0
