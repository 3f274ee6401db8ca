-- Whether entries stand on pages, page by page.
use Rattle.std.proofs.Common.{◌≡◌, ℕ, ◌+◌, ◌<◌, ◌≤◌, List, [], ◌∷◌, length, drop, get_or, ap, sym, subst, ◌∙◌}
use Rattle.std.specs.Prelude.{◌↔◌}
use Rattle.std.proofs.lemmas.List.{drop_more, drop_all}
use Rattle.nv_log.specs.Chain.{AreEnds}

module _ (page len : ℕ) (ends : List ℕ) where
  -- those before a place end where they may, so that all do just where the rest do
  abbrev pub AreSoFar : ℕ → ℕ → Type 0
  AreSoFar start i = AreEnds page start (drop i ends) len ↔ AreEnds page 0 ends len

  module _ (start i end : ℕ) (lt : i < length ends) (at : end ≡ get_or ends i end) (so : AreSoFar start i) where
    rest : drop i ends ≡ end ∷ drop (i + 1) ends
    rest = drop_more ends i end lt ∙ ap (λ (e : ℕ). e ∷ drop (i + 1) ends) (sym at)

    back : AreEnds page 0 ends len → AreEnds page start (end ∷ drop (i + 1) ends) len
    back all = subst (λ (es : List ℕ). AreEnds page start es len) rest (so.1 all)

    pub one_end_more : (start < end) × (end ≤ start + page) → AreSoFar end (i + 1)
    one_end_more is = (
      λ others. so.0 (subst (λ (es : List ℕ). AreEnds page start es len) (sym rest) (is.0, is.1, others)),
      λ all. (back all).2,
    )

    pub its_end : AreEnds page 0 ends len → (start < end) × (end ≤ start + page)
    its_end all = ((back all).0, (back all).1)

  module _ (start i : ℕ) (past : length ends ≤ i) (so : AreSoFar start i) where
    none : drop i ends ≡ []
    none = drop_all i ends past

    pub ended : start ≡ len → AreEnds page 0 ends len
    ended is = so.0 (subst (λ (es : List ℕ). AreEnds page start es len) (sym none) is)

    pub its_last : AreEnds page 0 ends len → start ≡ len
    its_last all = subst (λ (es : List ℕ). AreEnds page start es len) none (so.1 all)
