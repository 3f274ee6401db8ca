use Rattle.std.proofs.Common.{◌∙◌, ◌++◌, ◌∷◌, ℕ, [], ap, sym}
use Rattle.std.specs.Global.{Vec}
use Rattle.nv_core.specs.Shown.{shared_of}
use Rattle.nv_script.specs.JsonWorld.{has_entry}
use Rattle.nv_trace.proofs.JsonParts.{fails, passes}
use Rattle.nv_trace.proofs.json_world.slots_with_entry.Goals as goal
use Rattle.nv_trace.proofs.json_world.slots_with_entry.Goals.{then-has_entry+in_ok-push, else-has_entry}

pub loop-ino-preserved : goal.loop-ino-preserved
loop-ino-preserved c =
    let p = has_entry (shared_of c.args.world.now.shared) in
    let n = c.loop-ino.ino in
    let tested = c.has_entry.ensures ∙ ap p c.new.ensures in
    elim c.if-has_entry.branch [
      | then-has_entry+in_ok-push w ↦
          ap (λ (v : Vec ℕ). v.items) w.slots-is
          ∙ passes p n c.loop-ino.slots.items w.push.new.self.items c.loop-ino.invariant
          (w.in_ok-push.ensures.items ∙ ap (λ (k : ℕ). c.loop-ino.slots.items ++ k ∷ []) w.new-then-has_entry.ensures) (sym tested ∙ w.if-has_entry.true)
      | else-has_entry w ↦
          ap (λ (v : Vec ℕ). v.items) w.slots-is
          ∙ fails p n c.loop-ino.slots.items c.loop-ino.invariant (sym tested ∙ w.if-has_entry.false)
    ]
