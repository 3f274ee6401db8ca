-- A write that is not refused has a plan with its effect.
use Rattle.std.proofs.Common.{◌≡◌, ℕ, ◌+◌, ◌*◌, ◌/◌, ◌<◌, ◌≤◌, List, [], ◌∷◌, length, Option, arith, subst, sym}
use Rattle.std.specs.Prelude.{option_map}
use Rattle.nv_base.specs.declared.node.Kind.TheVariants.{File}
use Rattle.nv_base.specs.declared.numbers.Handle.{Handle}
use Rattle.nv_entry.specs.declared.item.BlockRun.{BlockRun}
use Rattle.nv_entry.specs.declared.node.NodeCopy.{NodeCopy}
use Rattle.nv_entry.specs.Bytes.{written}
use Rattle.nv_entry.specs.Sound.{HaveText, MakesAll, blocks_of, rewritten, write_items}
use Rattle.nv_entry.proofs.PageBytes.{touches_some}
use Rattle.nv_entry.proofs.WrittenRuns.{runs_make}
use Rattle.nv_calls.specs.Plain.{node_in}
use Rattle.nv_calls.specs.Refusals.{bytes_of, passes}
use Rattle.nv_calls.specs.Slots.{IsPlan, InodeSlot, node_under}
use Rattle.nv_calls.specs.calls.Write.{text_refusal, write_effect, write_plan, write_refusal}
use Rattle.nv_calls.proofs.Items.{and_plan, no_plan}
use Rattle.nv_calls.proofs.Within.{count_passed}
use Rattle.nv_calls.proofs.Passed.{HasKind, file_passed, own_handle, there}

some_items : (first : ℕ) (runs : List BlockRun) (size : ℕ) → 0 < length (blocks_of runs) → 0 < length (write_items first runs size)
some_items first [] size some = absurd (omega arith)
some_items first (run ∷ runs) size some = omega arith

module _ (bytes : ℕ → List ℕ) (block : ℕ) (slots : ℕ → InodeSlot) (some : 0 < block) (file : Handle) (offset : ℕ) (runs : List BlockRun) where
  abbrev nodes : Handle → Option NodeCopy
  nodes = node_in (node_under bytes block slots)

  text_makes : (text : List ℕ) → 0 < length text → offset + length text ≤ 65536 * block → HasKind File (nodes file)
      → HaveText bytes block offset text (bytes_of (nodes file)) (blocks_of runs)
      → MakesAll bytes block (write_items (offset / block) runs (length (written offset text (bytes_of (nodes file))))) (nodes file)
      (option_map (rewritten offset text) (nodes file))
  text_makes text any fits f has =
      let ready = subst (λ (node : Option NodeCopy). HaveText bytes block offset text (bytes_of node) (blocks_of runs)) f.is has in
      subst (λ (node : Option NodeCopy). MakesAll bytes block
      (write_items (offset / block) runs (length (written offset text (bytes_of node)))) node
      (option_map (rewritten offset text) node)) (sym f.is)
      (runs_make bytes block offset text runs f.node some any fits f.kind_is ready)

  pub write_fits : (text : List ℕ) → write_refusal block nodes file offset text ≡ passes
      → (0 < length text → HaveText bytes block offset text (bytes_of (nodes file)) (blocks_of runs))
      → IsPlan bytes block slots (write_plan block nodes file offset text runs) (write_effect file offset text)
  write_fits [] passed ready = no_plan bytes block slots some
  write_fits (byte ∷ rest) passed ready =
      let text : List ℕ = byte ∷ rest in
      let any : 0 < length text = omega arith in
      let f = file_passed (nodes file) (text_refusal block offset text) passed in
      let fits = (count_passed block offset (length text) f.1).1 in
      let has = ready any in
      and_plan bytes block slots some file (write_items (offset / block) runs (length (written offset text (bytes_of (nodes file)))))
      (option_map (rewritten offset text)) [] []
      (some_items (offset / block) runs (length (written offset text (bytes_of (nodes file))))
      (omega (arith, has.count, touches_some block offset (length text) some any)))
      (own_handle bytes block slots file (there File (nodes file) f.0))
      (text_makes text any fits f.0 has) (no_plan bytes block slots some)
