-- Slots of an image that are opened and closed, the last one first.
use Rattle.std.proofs.Common.{◌≡◌, ℕ, ◌+◌, ◌-◌, ◌<◌, ◌≤◌, ◌++◌, List, [], ◌∷◌, length, map, get_or, reverse, take, arith, ap, sym, ◌∙◌}
use Rattle.std.proofs.lemmas.List.{append_assoc, get_or-reverse, length-reverse, map-append, reverse-append, take_all, take_more}
use Rattle.nv_audit.specs.Image.{SlotImageValue}
use Rattle.nv_cell.specs.declared.bare.BareCell.{BareCell}
use Rattle.nv_mount.specs.Mount.{seen_cell}
use Rattle.nv_mount.specs.Slots.{closed}
use Rattle.nv_mount.specs.View.{SlotViewValue}

last_first : (rest : List BareCell) (cell : BareCell) → map closed (reverse (rest ++ cell ∷ [])) ≡ closed cell ∷ map closed (reverse rest)
last_first rest cell = ap (map closed) (reverse-append rest (cell ∷ []))

-- the last one is closed
pub closes : (slots new : List SlotImageValue) (bare rest : List BareCell) (cell : BareCell) (whole : List SlotImageValue)
    → bare ≡ rest ++ cell ∷ [] → new ≡ slots ++ closed cell ∷ [] → slots ++ map closed (reverse bare) ≡ whole
    → new ++ map closed (reverse rest) ≡ whole
closes slots new bare rest cell whole is put told =
    ap (λ (ss : List SlotImageValue). ss ++ map closed (reverse rest)) put
    ∙ append_assoc slots (closed cell ∷ []) (map closed (reverse rest))
    ∙ ap (λ (ss : List SlotImageValue). slots ++ ss) (sym (last_first rest cell) ∙ sym (ap (λ (bs : List BareCell). map closed (reverse bs)) is))
    ∙ told

-- the last one is opened
pub opens : (slots rest : List SlotImageValue) (slot : SlotImageValue) (bare new : List BareCell) (cell : BareCell) (whole : List SlotImageValue)
    → slots ≡ rest ++ slot ∷ [] → closed cell ≡ slot → new ≡ bare ++ cell ∷ [] → slots ++ map closed (reverse bare) ≡ whole
    → rest ++ map closed (reverse new) ≡ whole
opens slots rest slot bare new cell whole is same put told =
    ap (λ (bs : List BareCell). rest ++ map closed (reverse bs)) put
    ∙ ap (λ (ss : List SlotImageValue). rest ++ ss)
    (last_first bare cell ∙ ap (λ (s : SlotImageValue). s ∷ map closed (reverse bare)) same)
    ∙ sym (append_assoc rest (slot ∷ []) (map closed (reverse bare)))
    ∙ ap (λ (ss : List SlotImageValue). ss ++ map closed (reverse bare)) (sym is)
    ∙ told

-- ---- what is seen of them

pub seen_more : (bare : List BareCell) (k : ℕ) (cell : BareCell) (slots new : List SlotViewValue) → k < length bare
    → cell ≡ get_or bare (length bare - 1 - k) cell → slots ≡ map seen_cell (take k (reverse bare)) → new ≡ slots ++ seen_cell cell ∷ []
    → new ≡ map seen_cell (take (k + 1) (reverse bare))
seen_more bare k cell slots new lt at are put =
    let low : k < length (reverse bare) = omega (arith, lt, length-reverse bare) in
    put ∙ ap (λ (ss : List SlotViewValue). ss ++ seen_cell cell ∷ []) are
    ∙ sym (map-append seen_cell (take k (reverse bare)) (cell ∷ []))
    ∙ ap (λ (c : BareCell). map seen_cell (take k (reverse bare) ++ c ∷ [])) (at ∙ sym (get_or-reverse bare k cell lt))
    ∙ ap (map seen_cell) (sym (take_more (reverse bare) k cell low))

pub seen_all : (bare : List BareCell) (k : ℕ) (slots : List SlotViewValue) → length bare ≤ k
    → slots ≡ map seen_cell (take k (reverse bare)) → slots ≡ map seen_cell (reverse bare)
seen_all bare k slots le are = are ∙ ap (map seen_cell) (take_all k (reverse bare) (omega (arith, le, length-reverse bare)))
