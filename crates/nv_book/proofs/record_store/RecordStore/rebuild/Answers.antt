use Rattle.std.proofs.Common.{◌≡◌, ◌+◌, ◌++◌, ◌∷◌, [], List, ℕ, ap, arith, sym, ◌∙◌, map, take, length}
use Rattle.std.proofs.lemmas.List.{length-map, length-take-le, map_more, take_all}
use Rattle.nv_book.specs.declared.manifest.Manifest.{Manifest}
use Rattle.nv_book.specs.Listed.{manifest_of}
use Rattle.nv_book.specs.Manifests.{after_make}
use Rattle.nv_book.specs.Store.{Store, nodes_wanted}
use Rattle.nv_book.proofs.Nodes.{wanted-within}
use Rattle.nv_book.proofs.record_store.RecordStore.rebuild.Goals as goal

abbrev empty_manifest : ℕ → Manifest
empty_manifest s = manifest_of s []

pub make-requires : goal.make-requires
make-requires c =
    let living = c.args.living.now in
    let i = c.loop-s.s-index in
    omega (
      arith,
      ap (λ (st : Store). length st.manifests) c.loop-s.invariant,
      ap (λ (st : Store). st.most) c.loop-s.invariant,
      length-map (take i living) empty_manifest,
      length-take-le i living (omega (arith, c.loop-s-test.true)),
      c.loop-s-test.true,
      c.requires,
    )

pub loop-s-preserved : goal.loop-s-preserved
loop-s-preserved c =
    let living = c.args.living.now in
    let i = c.loop-s.s-index in
    let s = c.s-item.result in
    let with = λ (ms : List Manifest) (room : ℕ).
    let st : Store = record { manifests = ms; most = c.args.most; deferred = []; room = room } in st in
    let none : nodes_wanted (map empty_manifest (take i living)) 0 ≡ 0 =
    omega (arith, wanted-within (map empty_manifest (take i living)) 0) in
    let one : map empty_manifest (take (i + 1) living) ≡ map empty_manifest (take i living) ++ empty_manifest s ∷ [] =
    map_more empty_manifest living i s c.loop-s-test.true
    ∙ ap (λ (n : ℕ). map empty_manifest (take i living) ++ empty_manifest n ∷ []) (sym c.s-item.is) in
    c.make.ensures
    ∙ ap (λ (st : Store). record st { manifests = after_make s st.manifests; room = nodes_wanted st.manifests st.room }) c.loop-s.invariant
    ∙ ap (with (map empty_manifest (take i living) ++ empty_manifest s ∷ [])) none ∙ ap (λ (ms : List Manifest). with ms 0) (sym one)

pub returns-clause-ok : goal.returns-clause-ok
returns-clause-ok c =
    let living = c.args.living.now in
    let with = λ (ms : List Manifest). let st : Store = record { manifests = ms; most = c.args.most; deferred = []; room = c.args.need } in st in
    c.in_ok-reserve.ensures.ok ∙ ap (λ (st : Store). record st { room = c.args.need }) c.loop-s.invariant
    ∙ ap (λ (ls : List ℕ). with (map empty_manifest ls)) (take_all c.loop-s.s-index living (omega arith))
