-- The bytes of a file by the blocks of its pages.
use Rattle.std.proofs.Common.{◌≡◌, ℕ, zero, suc, ◌+◌, ◌<◌, ◌≤◌, ◌++◌, [], List, Option, Some, None, arith, refl, ap, take, ◌∙◌}
use Rattle.std.specs.List.{flat_map, range_with_len}
use Rattle.std.specs.Option.{option_map}
use Rattle.nv_entry.specs.declared.item.Entry.{Entry}
use Rattle.nv_entry.specs.declared.key.Datum.{Datum}
use Rattle.nv_entry.specs.declared.key.Datum.TheVariants as datum
use Rattle.nv_entry.specs.declared.node.NodeCopy.{NodeCopy}
use Rattle.nv_entry.specs.declared.part.PartId.{PartId}
use Rattle.nv_entry.specs.Keys.{KindKey, pages_for}
use Rattle.nv_entry.specs.Log.{value_now}
use Rattle.nv_entry.specs.Node.{block_now, file_bytes, node_now, node_of_kind, page_bytes, size_now}
use Rattle.nv_reader.specs.Blocks.{HaveBytes, node_with, page_text, shown_bytes, shown_node, shown_page}

page_shown : (bytes : ℕ → List ℕ) (block : ℕ) (number : Option ℕ) (page : Option (List ℕ)) → page ≡ option_map bytes number
    → page_text block page ≡ page_bytes bytes block number
page_shown bytes block number page is = ap (page_text block) is ∙ go number where
  go : (o : Option ℕ) → page_text block (option_map bytes o) ≡ page_bytes bytes block o
  go None = refl
  go (Some n) = refl

-- pages that are the same one by one are the same together
pub pages_same : (one other : ℕ → List ℕ) (from count : ℕ) → ((page : ℕ) → from ≤ page → page < from + count → one page ≡ other page)
    → flat_map one (range_with_len from count) ≡ flat_map other (range_with_len from count)
pages_same one other from zero same = refl
pages_same one other from (suc count) same =
    ap (λ (xs : List ℕ). xs ++ flat_map one (range_with_len (from + 1) count)) (same from (omega arith) (omega arith))
    ∙ ap (λ (xs : List ℕ). other from ++ xs)
    (pages_same one other (from + 1) count (λ page le lt. same page (omega (arith, le)) (omega (arith, lt))))

shown_is : (parts : PartId → Option (List ℕ)) (bytes : ℕ → List ℕ) (block : ℕ) (log : List Entry) → HaveBytes parts bytes block log
    → shown_bytes parts block log ≡ file_bytes bytes block log
shown_is parts bytes block log have =
    ap (take (size_now block log))
    (pages_same (shown_page parts block log) (λ page. page_bytes bytes block (block_now block log page)) 0
    (pages_for block (size_now block log))
    (λ page le lt. page_shown bytes block (block_now block log page) _ (have page (omega (arith, lt)))))

pub with_bytes : (text : List ℕ) (bytes : ℕ → List ℕ) (block : ℕ) (log : List Entry) → text ≡ file_bytes bytes block log
    → node_with text block log ≡ node_now bytes block log
with_bytes text bytes block log is = ap (λ (xs : List ℕ). node_with xs block log) is ∙ go (value_now block log KindKey) where
  go : (kind : Option Datum)
      → option_map (λ (node : NodeCopy). record node { bytes = file_bytes bytes block log }) (node_of_kind kind (λ number. []) block log)
      ≡ node_of_kind kind bytes block log
  go None = refl
  go (Some (datum.Kind kind)) = refl
  go (Some (datum.Mode mode)) = refl
  go (Some (datum.Size size)) = refl
  go (Some (datum.Node to)) = refl
  go (Some (datum.Block number)) = refl

-- the node that is shown is that of the log, where the parts have the bytes of their blocks
pub node_shown : (parts : PartId → Option (List ℕ)) (bytes : ℕ → List ℕ) (block : ℕ) (log : List Entry) → HaveBytes parts bytes block log
    → shown_node parts block log ≡ node_now bytes block log
node_shown parts bytes block log have = with_bytes (shown_bytes parts block log) bytes block log (shown_is parts bytes block log have)
