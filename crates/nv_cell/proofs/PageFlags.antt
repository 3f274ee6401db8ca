-- Flags of pages as flags of the log's entries.
use Rattle.std.proofs.Common.{◌≡◌, ℕ, zero, suc, ◌+◌, ◌-◌, ◌<◌, ◌≤◌, Bool, true, false, List, [], ◌∷◌, ◌++◌, length, take, replicate, get_or, slice_get, Some, inl, inr, arith, refl, ap, sym, ◌∙◌, length-append, add-one, subst}
use Rattle.std.proofs.lemmas.Bool.{cases_lt}
use Rattle.std.proofs.lemmas.List.{get_or_default, length-take, length-take-le, get_or-take}
use Rattle.std.proofs.lemmas.Option.{get_or_from_slice_get}
use Rattle.nv_entry.specs.declared.item.Entry.{Entry}
use Rattle.nv_log.specs.Chain.{AreEnds, ChainState, IsChain, end_of, joined, left_of, log, log_pages, pages_of, start_in, start_of, with_pages_left}
use Rattle.nv_log.proofs.Flags.{joined-left_of, left_of-none, length-left_of, left_of-select, take-joined_left}
use Rattle.nv_log.proofs.Parts.{length-ends_from, length-parts, part_at}
use Rattle.nv_cell.specs.Removal.{AreFlags, ArePublished, flags_of, log_flags, run_flags}
use Rattle.nv_cell.specs.Tallies.{IsInRun, end_at, start_at}
use Rattle.nv_cell.specs.declared.stays.Stays.{Stays}
use Rattle.nv_cell.specs.declared.stays.Stays.TheVariants.{Entries, Pages}
use Rattle.nv_cell.proofs.Recounting.{start_next}
use Rattle.nv_cell.proofs.RunFlags.{IsAt, spread_is, stays_on}
use Rattle.nv_cell.proofs.Removing.{IsLeft}

in_front : (n m : ℕ) (b : Bool) (flags : List Bool) (d : Bool) → m < n → get_or (replicate n b ++ flags) m d ≡ b
in_front zero m b flags d lt = absurd (omega arith)
in_front (suc n) zero b flags d lt = refl
in_front (suc n) (suc m) b flags d lt = in_front n m b flags d (omega (arith, lt))

behind : (n m : ℕ) (b : Bool) (flags : List Bool) (d : Bool) → get_or (replicate n b ++ flags) (n + m) d ≡ get_or flags m d
behind zero m b flags d = let z : 0 + m ≡ m = omega arith in rw z refl
behind (suc n) m b flags d = let z : suc n + m ≡ suc (n + m) = omega arith in rw z (behind n m b flags d)

size : (n : ℕ) (b : Bool) → length (replicate n b) ≡ n
size zero b = refl
size (suc n) b = ap suc (size n b)

-- how many there are
pub flags_count : (most start : ℕ) (ends : List ℕ) (len : ℕ) (stays : List Bool) → AreEnds most start ends len → length stays ≡ length ends
    → start + length (run_flags start stays ends) ≡ len
flags_count most start [] len [] are is = omega (arith, are)
flags_count most start [] len (b ∷ stays) are is = absurd (omega (arith, is))
flags_count most start (e ∷ ends) len [] are is = absurd (omega (arith, is))
flags_count most start (e ∷ ends) len (b ∷ stays) are is =
    omega (
      arith,
      are.0,
      length-append (replicate (e - start) b) (run_flags e stays ends),
      size (e - start) b,
      flags_count most e ends len stays are.2 (omega (arith, is)),
    )

-- the flag of an entry is that of its page
pub flag_at : (most start : ℕ) (ends : List ℕ) (len : ℕ) (stays : List Bool) (k i : ℕ) (d : Bool) → AreEnds most start ends len
    → k < length ends
    → get_or (start ∷ ends) k len ≤ i → i < get_or ends k len → get_or (run_flags start stays ends) (i - start) d ≡ get_or stays k d
flag_at most start [] len stays k i d are lt from to = absurd (omega arith)
flag_at most start (e ∷ ends) len [] k i d are lt from to = refl
flag_at most start (e ∷ ends) len (b ∷ stays) zero i d are lt from to = in_front (e - start) (i - start) b (run_flags e stays ends) d
    (omega (arith, from, to))
flag_at most start (e ∷ ends) len (b ∷ stays) (suc k) i d are lt from to =
    let at = part_at most e ends len k len are.2 (omega (arith, lt)) in
    let split : i - start ≡ (e - start) + (i - e) = omega (arith, at.from_le, from, are.0) in
    rw split (behind (e - start) (i - e) b (run_flags e stays ends) d)
    ∙ flag_at most e ends len stays k i d are.2 (omega (arith, lt)) from to

-- entries past the tail stay
fresh_stay : (most start : ℕ) (ends : List ℕ) (len : ℕ) (stays : List Bool) (tail i : ℕ) → AreEnds most start ends len
    → ((k : ℕ) → get_or stays k true ≡ false → get_or ends k len ≤ tail) → tail ≤ i → start ≤ i
    → get_or (run_flags start stays ends) (i - start) true ≡ true
fresh_stay most start ends len [] tail i are goes past le = refl
fresh_stay most start [] len (b ∷ stays) tail i are goes past le = refl
fresh_stay most start (e ∷ ends) len (b ∷ stays) tail i are goes past le = elim (cases_lt i e) [
  | inl lt ↦ in_front (e - start) (i - start) b (run_flags e stays ends) true (omega (arith, lt, le)) ∙ flag b (goes 0) lt
  | inr ge ↦
      let split : i - start ≡ (e - start) + (i - e) = omega (arith, ge, are.0) in
      rw split (behind (e - start) (i - e) b (run_flags e stays ends) true)
      ∙ fresh_stay most e ends len stays tail i are.2 (λ k q. goes (suc k) q) past ge
] where
  flag : (b : Bool) → (b ≡ false → e ≤ tail) → i < e → b ≡ true
  flag true h lt = refl
  flag false h lt = absurd (omega (arith, h refl, past, lt))

left_of-front : {X : Type 0} (n : ℕ) (flags : List Bool) (xs : List X) → left_of flags (take n xs) ≡ left_of (take n flags) (take n xs)
left_of-front {X = X} zero flags xs = left_of-none X flags
left_of-front (suc n) [] xs = refl
left_of-front (suc n) (b ∷ flags) [] = refl
left_of-front (suc n) (true ∷ flags) (x ∷ xs) = ap (λ ys. x ∷ ys) (left_of-front n flags xs)
left_of-front (suc n) (false ∷ flags) (x ∷ xs) = left_of-front n flags xs

-- the chain without the pages that go
pub pages_left : (stays : List Bool) (chain : ChainState) → IsChain chain → length stays ≡ length chain.ends → ArePublished stays chain
    → IsLeft (log_flags stays chain) chain (with_pages_left stays chain)
pages_left stays chain is len published =
    let flags = run_flags 0 stays chain.ends in
    let es = chain.entries in
    let all : length flags ≡ length es = omega (arith, flags_count chain.page 0 chain.ends (length es) stays is.parted len) in
    let few : length (take chain.tail flags) ≡ length (log chain) =
    omega (arith, all, length-take chain.tail flags, length-take chain.tail es) in
    let short : 0 + length (take chain.tail es) ≤ length es = omega (arith, length-take chain.tail es) in
    let spread_flags = ap (λ fs. left_of fs es) (spread_is 0 stays chain.ends) in
    let log_left : joined (left_of stays (log_pages chain)) ≡ left_of (take chain.tail flags) (log chain) =
    joined-left_of chain.page 0 stays chain.ends (length es) (take chain.tail es) is.parted short
    ∙ ap (λ fs. left_of fs (take chain.tail es)) (spread_is 0 stays chain.ends) ∙ left_of-front chain.tail flags es in
    record {
      flags_len = few;
      entries =
          joined-left_of chain.page 0 stays chain.ends (length es) es is.parted (omega arith) ∙ spread_flags
          ∙ stays_on chain.tail flags es (λ i le. goes_on i le);
      log_is = take-joined_left chain.page stays chain.ends chain.tail es is.parted ∙ log_left
          ∙ left_of-select (take chain.tail flags) (log chain) few;
      tail = ap length log_left;
    }
  where
    goes_on : (i : ℕ) → chain.tail ≤ i → get_or (run_flags 0 stays chain.ends) i true ≡ true
    goes_on i le =
        let z : i - 0 ≡ i = omega arith in
        rw z at (fresh_stay chain.page 0 chain.ends (length chain.entries) stays chain.tail i is.parted published le (omega arith))

-- the flag of an entry of the log, by its page
flag_is : (stays : List Bool) (chain : ChainState) (k i : ℕ) (b : Bool) → IsChain chain → i < chain.tail → k < length chain.ends
    → start_of chain k ≤ i
    → i < end_of chain k → b ≡ get_or stays k b → b ≡ get_or (log_flags stays chain) i b
flag_is stays chain k i b is lt page from to same =
    let z : i - 0 ≡ i = omega arith in
    same ∙ sym (get_or-take chain.tail (run_flags 0 stays chain.ends) i b lt
    ∙ rw z at (flag_at chain.page 0 chain.ends (length chain.entries) stays k i b is.parted page from to))

pub log_flags-count : (stays : List Bool) (chain : ChainState) → IsChain chain → length stays ≡ length chain.ends
    → length (log_flags stays chain) ≡ chain.tail
log_flags-count stays chain is len =
    omega (
      arith,
      flags_count chain.page 0 chain.ends (length chain.entries) stays is.parted len,
      length-take chain.tail (run_flags 0 stays chain.ends),
      is.within,
    )

pub flags-count : (stays : Stays) (chain : ChainState) → IsChain chain → AreFlags stays chain
    → length (flags_of stays chain) ≡ chain.tail
flags-count (Entries stays) chain is are = are
flags-count (Pages stays) chain is are = log_flags-count stays.now chain is are

-- the entry at a place of the log, and its flag
pub is_at : (stays : Stays) (chain : ChainState) (i : ℕ) (e : Entry) → IsChain chain → AreFlags stays chain → i < chain.tail
    → slice_get chain.entries i ≡ Some e → IsAt (flags_of stays chain) (log chain) i e
is_at stays chain i e is are lt at = record {
  flag = omega (arith, flags-count stays chain is are, lt);
  entry = omega (arith, length-take-le chain.tail chain.entries is.within, lt);
  is = sym (get_or-take chain.tail chain.entries i e lt ∙ get_or_from_slice_get chain.entries i e e at);
}

-- pages as runs of entries
start_is : (ends : List ℕ) (len k : ℕ) → k < length ends → start_in ends len k ≡ start_at ends k
start_is ends len zero lt = refl
start_is ends len (suc k) lt =
    get_or_default ends k len 0 (omega (arith, lt))
    ∙ sym (subst (λ (n : ℕ). start_at ends n ≡ end_at ends k) (add-one k) (start_next ends k))

-- the flag of an entry, by the run of its page
pub flag_in : (stays : List Bool) (chain : ChainState) (k i : ℕ) (b : Bool) → IsChain chain → i < chain.tail
    → IsInRun chain.ends i k → b ≡ get_or stays k b → b ≡ get_or (log_flags stays chain) i b
flag_in stays chain k i b is lt run same =
    let len = length chain.entries in
    let from : start_of chain k ≡ start_at chain.ends k = start_is chain.ends len k run.within in
    let to : end_of chain k ≡ end_at chain.ends k = get_or_default chain.ends k len 0 run.within in
    flag_is stays chain k i b is lt run.within (omega (arith, from, run.start)) (omega (arith, to, run.end)) same

-- no more pages have entries than before
pub pages_fewer : (stays : List Bool) (chain : ChainState) → length (with_pages_left stays chain).ends ≤ length chain.ends
pages_fewer stays chain =
    omega (
      arith,
      length-ends_from 0 (left_of stays (pages_of chain)),
      length-left_of stays (pages_of chain),
      length-parts 0 chain.ends chain.entries,
    )
