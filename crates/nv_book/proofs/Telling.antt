-- Books that are told by one list of records, as records are retired one after another.
use Rattle.std.proofs.Common.{◌≡◌, ℕ, zero, suc, ◌+◌, ◌<◌, ◌≤◌, ◌==◌, Bool, true, false, cond, List, [], ◌∷◌, ◌++◌, map, length, get_or, take, Option, Some, None, arith, refl, ap, subst, sym, ◌∙◌}
use Rattle.std.specs.List.{All, AllByRecursion}
use Rattle.std.proofs.lemmas.List.{append-nil, append_assoc}
use Rattle.nv_base.specs.declared.geometry.GeometryNumbers.{GeometryNumbers}
use Rattle.nv_base.specs.declared.limits.TheConstants.{NUMBER}
use Rattle.nv_epoch.specs.Holders.{IsRising}
use Rattle.nv_epoch.specs.SnapList.{unpinned}
use Rattle.nv_epoch.proofs.Pins.{numbers-unpinned}
use Rattle.nv_book.specs.declared.manifest.Manifest.{Manifest}
use Rattle.nv_book.specs.declared.record.Record.{Record}
use Rattle.nv_book.specs.declared.retired.Retired.{Retired}
use Rattle.nv_book.specs.declared.retired.Retired.TheVariants.{Kept, Free}
use Rattle.nv_book.specs.Book.{BookState, IsBook, after_retire, after_retiring, book_told, room_after}
use Rattle.nv_book.specs.History.{IsLegal, replay, undone}
use Rattle.nv_book.specs.Listed.{kept_by, manifest_of, manifest_told, is_snapshot}
use Rattle.nv_book.specs.Manifests.{IsFiled, put_to, snapshots, with_records}
use Rattle.nv_book.specs.Records.{holder_of}
use Rattle.nv_book.proofs.Series.{filter-append}

module _ (living : List ℕ) (rs : List Record) (r : Record) where
  one-told : (s : ℕ) → with_records (holder_of living r) (r ∷ []) (manifest_told living rs s) ≡ manifest_told living (rs ++ r ∷ []) s
  one-told s =
      go (holder_of living r) ∙ ap (manifest_of s) (sym (filter-append (λ u. is_snapshot s (holder_of living u)) rs (r ∷ []))) where
        kept : List Record
        kept = kept_by s living rs

        split : (b : Bool) → cond b (manifest_of s (kept ++ r ∷ [])) (manifest_of s kept) ≡ manifest_of s (kept ++ cond b (r ∷ []) [])
        split true = refl
        split false = ap (manifest_of s) (sym (append-nil kept))

        go : (o : Option ℕ) → with_records o (r ∷ []) (manifest_of s kept) ≡ manifest_of s (kept ++ cond (is_snapshot s o) (r ∷ []) [])
        go None = ap (manifest_of s) (sym (append-nil kept))
        go (Some t) = split (s == t)

  all-told : (ss : List ℕ) → put_to (holder_of living r) (r ∷ []) (map (manifest_told living rs) ss)
      ≡ map (manifest_told living (rs ++ r ∷ [])) ss
  all-told [] = refl
  all-told (s ∷ ss) = λ i. one-told s i ∷ all-told ss i

module _ (g : GeometryNumbers) (living : List ℕ) (epoch commit : ℕ) where
  told-retire : (rs : List Record) (r : Record) → after_retire r (book_told g living epoch commit rs)
      ≡ book_told g living epoch commit (rs ++ r ∷ [])
  told-retire rs r =
      let with = λ (ms : List Manifest). let b : BookState = record (book_told g living epoch commit rs) { manifests = ms } in b in
      ap (λ ls. with (put_to (holder_of ls r) (r ∷ []) (map (manifest_told living rs) living))) (numbers-unpinned living)
      ∙ ap with (all-told living rs r living)

  pub told-retiring : (ks rs : List Record) → after_retiring ks (book_told g living epoch commit rs)
      ≡ book_told g living epoch commit (rs ++ ks)
  told-retiring [] rs = ap (book_told g living epoch commit) (sym (append-nil rs))
  told-retiring (k ∷ ks) rs =
      ap (after_retiring ks) (told-retire rs k) ∙ told-retiring ks (rs ++ k ∷ [])
      ∙ ap (book_told g living epoch commit) (append_assoc rs (k ∷ []) ks)

-- one more
retiring-push : (ks : List Record) (k : Record) (b : BookState) → after_retiring (ks ++ k ∷ []) b ≡ after_retire k (after_retiring ks b)
retiring-push [] k b = refl
retiring-push (j ∷ ks) k b = retiring-push ks k (after_retire j b)

pub retiring-more : (ks : List Record) (i : ℕ) (k : Record) (b : BookState) → take (i + 1) ks ≡ take i ks ++ k ∷ []
    → after_retiring (take (i + 1) ks) b ≡ after_retire k (after_retiring (take i ks) b)
retiring-more ks i k b e = ap (λ us. after_retiring us b) e ∙ retiring-push (take i ks) k b

pub same-snaps : (ks : List Record) (b : BookState) → (after_retiring ks b).snaps ≡ b.snaps
same-snaps [] b = refl
same-snaps (k ∷ ks) b = same-snaps ks (after_retire k b)

pub dead-at : (epoch : ℕ) (ks : List Record) (i : ℕ) (k : Record) → AllByRecursion (λ r. r.death ≤ epoch) ks → i < length ks
    → k ≡ get_or ks i k → k.death ≤ epoch
dead-at epoch [] i k dead lt e = absurd (omega (arith, lt))
dead-at epoch (r ∷ ks) zero k dead lt e = subst (λ (u : Record). u.death ≤ epoch) (sym e) dead.0
dead-at epoch (r ∷ ks) (suc i) k dead lt e = dead-at epoch ks i k dead.1 (omega (arith, lt)) e

pub room-falls : (o : Retired) (room : ℕ) → room ≤ room_after o room + 1
room-falls Kept room = omega arith
room-falls Free room = omega arith

-- ---- a book that begins with living snapshots

all-filed : (living ss : List ℕ) → AllByRecursion (IsFiled living) (map (λ s. manifest_of s []) ss)
all-filed living [] = tt
all-filed living (s ∷ ss) = (tt, all-filed living ss)

all-dead : (epoch : ℕ) (ss : List ℕ)
    → AllByRecursion (λ (m : Manifest). AllByRecursion (λ r. r.death ≤ epoch) m.records) (map (λ s. manifest_of s []) ss)
all-dead epoch [] = tt
all-dead epoch (s ∷ ss) = (tt, all-dead epoch ss)

pub their-snapshots : (ss : List ℕ) → snapshots (map (λ s. manifest_of s []) ss) ≡ ss
their-snapshots [] = refl
their-snapshots (s ∷ ss) = ap (λ us. s ∷ us) (their-snapshots ss)

pub book-begun : (living : List ℕ) (snaps epoch commit room : ℕ) → IsRising living → All (λ s. s < epoch) living → commit ≤ NUMBER
    → IsBook (record { living = map unpinned living; epoch = epoch; most = snaps }) commit
    (record { manifests = map (λ s. manifest_of s []) living; most = snaps; deferred = []; room = room }) []
unfolding IsLegal replay undone
book-begun living snaps epoch commit room rising below fits =
    let same = numbers-unpinned living in
    record {
      filed = record {
        all = their-snapshots living ∙ sym same;
        filed = rw same (all-filed living living);
        unheld = tt;
      };
      dead = record { filed = all-dead epoch living; others = tt };
      history = record {
        legal = tt;
        ordered = record { rising = rw same rising; below_epoch = rw same below };
        leads = refl;
      };
      commit_fits = fits;
      places_fit = omega arith;
    }
