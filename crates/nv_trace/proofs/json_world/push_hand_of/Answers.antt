use Rattle.std.proofs.Common.{◌≡◌, ◌∙◌, ◌++◌, ap, refl, subst, sym}
use Rattle.std.specs.Prelude.{MatchOption, codes, decimal}
use Rattle.nv_core.specs.Shown.{hand_with}
use Rattle.nv_core.specs.Worlds.{Shows}
use Rattle.nv_machine.specs.World as machine
use Rattle.nv_machine.specs.World.{HandState, actor_at, empty_hand}
use Rattle.nv_script.specs.JsonWorld.{hand_object}
use Rattle.nv_trace.proofs.AnswerLines.{on_ok_each}
use Rattle.nv_trace.proofs.Pushes.{labelled_piece, piece}
use Rattle.nv_trace.proofs.json_world.push_hand_of.Goals as goal

pub returns-in_ok-killed_count-in-Some : goal.returns-in_ok-killed_count-in-Some
returns-in_ok-killed_count-in-Some c =
    let out = c.args.out.now.items in
    let hand_at : machine.World → HandState = λ m. (actor_at m c.args.actor).hand in
    on_ok_each (λ m. Shows c.args.world.now m) (λ m. c.push_hand.new.out.items ≡ out ++ hand_object (hand_at m)) c.push_hand.result
    (λ m shows.
    let h = hand_at m in
    let is =
    subst (λ o. MatchOption o (h ≡ empty_hand) (λ hand. hand_with h.killed hand.now ≡ h)) c.in-Some.is (c.hand.ensures m shows) in
    c.push_hand.ensures h (sym (ap (λ (g : HandState). g.blocks) is)) (sym (ap (λ (g : HandState). g.pages) is))
    (sym (ap (λ (g : HandState). g.chain) is)) (sym (ap (λ (g : HandState). g.ino) is)) (c.in_ok-killed_count-in-Some.ensures m shows))

pub returns-in_ok-push-in-None : goal.returns-in_ok-push-in-None
returns-in_ok-push-in-None c m shows =
    let out = c.args.out.now.items in
    let h = (actor_at m c.args.actor).hand in
    let is = subst (λ o. MatchOption o (h ≡ empty_hand) (λ hand. hand_with h.killed hand.now ≡ h)) c.in-None.is (c.hand.ensures m shows) in
    let front = codes "{\"data\":[],\"log\":[],\"chain\":[],\"ino\":null" in
    let label = codes ",\"killed\":" in
    let past = c.push_labelled.new.out.items in
    let counted = labelled_piece out c.extend_from_slice.new.self.items past front label 0 0 c.in_ok-extend_from_slice-in-None.ensures.items
    c.in_ok-push_labelled-in-None.ensures refl in
    piece out past c.push.new.self.items (front ++ label ++ decimal 0) (codes "}") (codes "}") counted c.in_ok-push-in-None.ensures.items refl
    ∙ ap (λ (g : HandState). out ++ hand_object g) (sym is)
