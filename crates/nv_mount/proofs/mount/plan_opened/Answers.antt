use Rattle.std.proofs.Common.{Result, Err, Ok, ap, ◌∙◌}
use Rattle.std.specs.Prelude.{IfOk}
use Rattle.nv_audit.specs.Image.{ImageValue}
use Rattle.nv_mount.specs.Mount.{AreOpened, CanBuild}
use Rattle.nv_mount.specs.Plan.{IsPlanOf}
use Rattle.nv_mount.specs.View.{IsSeen, ViewValue}
use Rattle.nv_mount.proofs.OpenedImages.{can_build, seen_opened}
use Rattle.nv_mount.proofs.mount.plan_opened.Goals as goal
use Rattle.nv_mount.proofs.mount.plan_opened.Goals.{After-as_slice-3}

if_more : {A E : Type 0} (P Q : A → Type 0) → ((x : A) → P x → Q x) → (r : Result A E) → IfOk r P → IfOk r Q
if_more P Q more (Ok x) h = more x h
if_more P Q more (Err e) h = h

module _ (c : After-as_slice-3) where
  -- what is seen
  abbrev shown : ViewValue
  shown = record {
    numbers = c.image.inside.geometry.numbers;
    slots = c.as_slice.result.now;
    journals = c.as_slice-2.result.now;
    snapshots = c.as_slice-3.result.now;
    epoch = c.image.inside.epoch;
    commit = c.image.inside.commit;
  }

  seen : (whole : ImageValue) → AreOpened whole c.args.image.now c.args.bare.now → IsSeen whole shown
  seen whole opened =
      seen_opened whole c.args.image.now c.args.bare.now opened shown (c.as_slice.ensures.value ∙ c.in_ok-slots.ensures)
      (ap (λ (i : ImageValue). i.numbers) c.image.view_is)
      (c.as_slice-2.ensures.value ∙ ap (λ (i : ImageValue). i.journals) c.image.view_is)
      (c.as_slice-3.ensures.value ∙ ap (λ (i : ImageValue). i.snapshots) c.image.view_is)
      (ap (λ (i : ImageValue). i.epoch) c.image.view_is) (ap (λ (i : ImageValue). i.commit) c.image.view_is)

pub new-requires : goal.new-requires
new-requires c = (c.requires.0, c.requires.1, seen (goal.at.new-requires c).After-as_slice-3 c.requires.0 c.requires.2)

pub returns-clause-ok : goal.returns-clause-ok
returns-clause-ok c = λ whole faultless opened.
    let here = (goal.at.returns-clause-ok c).After-as_slice-3 in
    let view = shown here in
    let told = seen here whole opened in
    if_more (IsPlanOf whole view 0) (λ plan. CanBuild whole plan c.args.bare.now)
    (λ plan planned.
    can_build whole c.args.image.now c.args.bare.now opened view (c.as_slice.ensures.value ∙ c.in_ok-slots.ensures) plan faultless told planned)
    c.new.result (c.new.ensures.ok whole faultless told)
