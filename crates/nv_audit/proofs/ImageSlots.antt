-- What holds of each slot of an image, and the numbers of its blocks.
use Rattle.std.proofs.Common.{◌≡◌, ℕ, ◌<◌, ◌++◌, Bool, List, [], ◌∷◌, length, get_or, refl, ap, sym, subst, ◌∙◌, Option, None, Some}
use Rattle.std.specs.Prelude.{◌↔◌, All, IsTrue, MatchOption, is_some, option_to_list, slice_index_or}
use Rattle.std.specs.List.{flat_map}
use Rattle.std.proofs.lemmas.Bool.{false≢true}
use Rattle.std.proofs.lemmas.List.{append_assoc, get_or_default, map-append}
use Rattle.nv_alloc.specs.Block.{BlockValue, number_of, numbers_of}
use Rattle.nv_cell.specs.Cell.{of_part}
use Rattle.nv_epoch.specs.Holders.{IsRising}
use Rattle.nv_audit.specs.Blocks.{AreOnceBelow}
use Rattle.nv_audit.specs.Faults.{AreBlocksGood, AreSnapsGood}
use Rattle.nv_audit.specs.Image.{ImageValue, SlotImageValue, image_numbers, no_slot, slot_of}

-- what holds of all slots holds of that of each inode
module _ (P : SlotImageValue → Type 0) (slots : List SlotImageValue) where
  pub each_of_all : All P slots → (ino : ℕ) → ino < length slots → P (slice_index_or slots ino no_slot)
  each_of_all all ino lt = all ino no_slot lt

  pub all_of_each : ((ino : ℕ) → ino < length slots → P (slice_index_or slots ino no_slot)) → All P slots
  all_of_each each k d lt = subst P (get_or_default slots k no_slot d lt) (each k lt)

-- so it is for what an image has
pub all_by_ino : (P : SlotImageValue → Type 0) (image : ImageValue) (slots : List SlotImageValue) (b : Bool) → slots ≡ image.slots
    → IsTrue b ↔ All P slots → IsTrue b ↔ ((ino : ℕ) → ino < length image.slots → P (slot_of image ino))
all_by_ino P image slots b same told =
    subst (λ (ss : List SlotImageValue). IsTrue b ↔ ((ino : ℕ) → ino < length ss → P (slice_index_or ss ino no_slot))) same
    (λ t. each_of_all P slots (told.0 t), λ each. told.1 (all_of_each P slots each))

-- the slot that is read at a place
pub slot_here : (image : ImageValue) (slots : List SlotImageValue) (ino : ℕ) (slot : SlotImageValue) → slots ≡ image.slots
    → ino < length image.slots → slot ≡ get_or slots ino slot → slot ≡ slot_of image ino
slot_here image slots ino slot same lt at =
    at ∙ ap (λ (ss : List SlotImageValue). get_or ss ino slot) same ∙ get_or_default image.slots ino slot no_slot lt

-- snapshots and an epoch that are the image's
pub snaps_told : (image : ImageValue) (snapshots : List ℕ) (epoch : ℕ) (b : Bool) → snapshots ≡ image.snapshots → epoch ≡ image.epoch
    → IsTrue b ↔ (IsRising snapshots × All (λ (s : ℕ). s < epoch) snapshots) → IsTrue b ↔ AreSnapsGood image
snaps_told image snapshots epoch b same at told = (
  λ t. record {
    rising = subst IsRising same (told.0 t).0;
    below = subst (λ (e : ℕ). All (λ (s : ℕ). s < e) image.snapshots) at
        (subst (λ (ss : List ℕ). All (λ (s : ℕ). s < epoch) ss) same (told.0 t).1);
  },
  λ good. told.1 (
    subst IsRising (sym same) good.rising,
    subst (λ (ss : List ℕ). All (λ (s : ℕ). s < epoch) ss) (sym same)
        (subst (λ (e : ℕ). All (λ (s : ℕ). s < e) image.snapshots) (sym at) good.below),
  ),
)

-- ---- the numbers of blocks

pub blocks_told : (image : ImageValue) (numbers : List ℕ) (b : Bool) → numbers ≡ image_numbers image
    → IsTrue b ↔ AreOnceBelow image.numbers.blocks numbers → IsTrue b ↔ AreBlocksGood image
blocks_told image numbers b same told = (
  λ t.
      let is = subst (AreOnceBelow image.numbers.blocks) same (told.0 t) in record { within = is.within; once = is.once },
  λ good. told.1 (subst (AreOnceBelow image.numbers.blocks) (sym same) (record { within = good.within; once = good.once })),
)

-- what is told by whether there is something
pub some_told : {X : Type 0} (P : Type 0) (Q : X → Type 0) (o : Option X) (b : Bool) → b ≡ is_some o → MatchOption o (P → ⊥) Q
    → ((x : X) → Q x → P) → IsTrue b ↔ P
some_told P Q None b e never by = (λ t. absurd (false≢true (sym e ∙ t)), λ p. absurd (never p))
some_told P Q (Some x) b e q by = (λ t. by x q, λ p. e)

pub numbers_both : (xs ys : List BlockValue) → numbers_of (xs ++ ys) ≡ numbers_of xs ++ numbers_of ys
numbers_both xs ys = map-append number_of xs ys

pub numbers_present : (places : List (Option BlockValue)) → flat_map of_part places ≡ numbers_of (flat_map option_to_list places)
numbers_present [] = refl
numbers_present (None ∷ places) = numbers_present places
numbers_present (Some b ∷ places) = ap (λ (ns : List ℕ). b.number ∷ ns) (numbers_present places)

-- the pages and then the data of a slot are put to the end
pub slot_put : (old one all pages blocks : List ℕ) → one ≡ old ++ pages → all ≡ one ++ blocks → all ≡ old ++ (pages ++ blocks)
slot_put old one all pages blocks first last = last ∙ ap (λ (ns : List ℕ). ns ++ blocks) first ∙ append_assoc old pages blocks
